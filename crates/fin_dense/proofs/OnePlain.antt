-- What `plain` answers is one: the outputs of a program, each of an allowed size and that of a header, or that it is over its limits.
use Rattle.std.proofs.Common.{◌≡◌, ◌+◌, ◌<◌, ◌∷◌, ℕ, zero, suc, List, [], length, Bool, true, false, refl, sym, ◌∙◌, ap, ap₂, subst, arith}
use Rattle.std.specs.Prelude.{slice_index_or, if◌then◌else◌}
use Rattle.fin_tensor.specs.TensorFunction.{TensorFunction}
use Rattle.fin_tensor.specs.Canon.{IsAllowedIn, undecorated}
use Rattle.fin_tensor.specs.declared.outputs.Outputs.{Outputs}
use Rattle.fin_tensor.specs.declared.storage.Storage.{Storage}
use Rattle.fin_canon.proofs.Canonical.{canonical_is_unique, canonical_is_valid}
use Rattle.fin_ast.specs.Dense.{function_of}
use Rattle.fin_ast.specs.declared.checked.Checked.{Checked}
use Rattle.fin_ast.specs.declared.header.Header.{Header}
use Rattle.fin_ast.specs.Kinds.{is_output}
use Rattle.fin_dense.specs.Plain.{AreStored, IsOver, IsPlain, outputs_from}

same_output : (o p : ℕ × Storage) → o.0 ≡ p.0 → o.1 ≡ p.1 → o ≡ p
same_output o p h k = λ i. (h i, k i)

pub one_stored : (f : ℕ → TensorFunction) (es : List (ℕ × Header)) (os ps : List (ℕ × Storage)) → AreStored f es os → AreStored f es ps → os ≡ ps
one_stored f [] [] [] h k = refl
one_stored f [] [] (p ∷ ps) h k = absurd k
one_stored f [] (o ∷ os) ps h k = absurd h
one_stored f (e ∷ es) [] ps h k = absurd h
one_stored f (e ∷ es) (o ∷ os) [] h k = absurd k
one_stored f (e ∷ es) (o ∷ os) (p ∷ ps) h k =
    let same = (canonical_is_unique (undecorated e.1.format) (f e.0) o.1 p.1).1 h.1 k.1 in
    ap₂ (λ x xs. x ∷ xs) (same_output o p (h.0 ∙ sym k.0) same) (one_stored f es os ps h.2 k.2)

pub stored_allowed : (f : ℕ → TensorFunction) (es : List (ℕ × Header)) (os : List (ℕ × Storage)) (k : ℕ) (d : ℕ × Header) → AreStored f es os → k < length es
    → IsAllowedIn (undecorated (slice_index_or es k d).1.format) (f (slice_index_or es k d).0)
stored_allowed f [] os k d h lt = absurd (omega arith)
stored_allowed f (e ∷ es) [] k d h lt = absurd h
stored_allowed f (e ∷ es) (o ∷ os) zero d h lt = (canonical_is_valid (undecorated e.1.format) (f e.0)).1 o.1 h.1
stored_allowed f (e ∷ es) (o ∷ os) (suc k) d h lt = stored_allowed f es os k d h.2 (omega arith)

-- an output's number is that of a header
at_header : (f : ℕ → TensorFunction) (n m : ℕ) (b : Bool) (x : Header) (rest : List (ℕ × Header)) → n < m
    → ((os : List (ℕ × Storage)) (k : ℕ) (d : ℕ × Storage) → AreStored f rest os → k < length os → (slice_index_or os k d).0 < m)
    → (os : List (ℕ × Storage)) (k : ℕ) (d : ℕ × Storage) → AreStored f (if b then (n, x) ∷ rest else rest) os → k < length os → (slice_index_or os k d).0 < m
at_header f n m false x rest within below os k d h lt = below os k d h lt
at_header f n m true x rest within below [] k d h lt = absurd (omega arith)
at_header f n m true x rest within below (o ∷ os) zero d h lt = omega (arith, h.0)
at_header f n m true x rest within below (o ∷ os) (suc k) d h lt = below os k d h.2 (omega arith)

pub stored_below : (f : ℕ → TensorFunction) (n : ℕ) (headers : List Header) (os : List (ℕ × Storage)) (k : ℕ) (d : ℕ × Storage)
    → AreStored f (outputs_from n headers) os → k < length os → (slice_index_or os k d).0 < n + length headers
stored_below f n [] [] k d h lt = absurd (omega arith)
stored_below f n [] (o ∷ os) k d h lt = absurd h
stored_below f n (x ∷ headers) os k d h lt =
    at_header f n (n + length (x ∷ headers)) (is_output x.kind) x (outputs_from (n + 1) headers) (omega arith)
    (λ ps j e stored l. omega (arith, stored_below f (n + 1) headers ps j e stored l)) os k d h lt

pub one_plain : (c : Checked) (inputs : List Storage) (o p : Outputs) → IsPlain c inputs o → IsPlain c inputs p → o ≡ p
one_plain c inputs o p h k =
    let same = one_stored (function_of c inputs) (outputs_from 0 c.program.headers) o.tensors p.tensors h.stored k.stored in
    ap (λ (tensors : List (ℕ × Storage)). let made : Outputs = record { tensors = tensors } in made) same

pub plain_or_over : (c : Checked) (inputs : List Storage) (o : Outputs) → IsPlain c inputs o → IsOver c inputs → ⊥
plain_or_over c inputs o h (IsOver.turns many) = omega (arith, h.turns, many)
plain_or_over c inputs o h (IsOver.large e (k, lt, is) large) =
    large (subst (λ (x : ℕ × Header). IsAllowedIn (undecorated x.1.format) (function_of c inputs x.0)) is
    (stored_allowed (function_of c inputs) (outputs_from 0 c.program.headers) o.tensors k e h.stored lt))
