-- What is stored of the outputs, header by header.
use Rattle.std.proofs.Common.{◌≡◌, ℕ, zero, suc, ◌+◌, ◌≤◌, refl, sym, ap, ◌∙◌, subst, arith, List, [], ◌∷◌, ◌++◌, length, drop, append_assoc, append-nil, add-one, Some, Bool, true, false, if◌then◌else◌, ℤ}
use Rattle.std.specs.Prelude.{Contains, slice_get}
use Rattle.std.proofs.lemmas.List.{drop_all}
use Rattle.std.specs.FinMap as finite
use Rattle.fin_tensor.specs.TensorFunction.{TensorFunction, IsTensor}
use Rattle.fin_tensor.specs.Canon.{IsCanon, IsAllowedIn}
use Rattle.fin_tensor.specs.declared.storage.Storage.{Storage}
use Rattle.fin_canon.specs.Entries.{Entry, AreEntries, named, undecorated}
use Rattle.fin_canon.proofs.Mapped.{entries_name}
use Rattle.fin_ast.specs.declared.header.Header.{Header}
use Rattle.fin_ast.specs.Kinds.{is_output}
use Rattle.fin_dense.specs.Plain.{AreStored, outputs_from}
use Rattle.fin_dense.specs.Fitting.{Adds, HasLarge}

opened : {X : Type 0} (xs : List X) (k : ℕ) (x : X) → slice_get xs k ≡ Some x → drop k xs ≡ x ∷ drop (suc k) xs
opened [] k x e = cc
opened (y ∷ xs) zero x e = let same : y ≡ x = cc in ap (λ z. z ∷ xs) same
opened (y ∷ xs) (suc k) x e = opened xs k x e

-- the entries of a tensor function, as they are stored
pub entries_are : (f : TensorFunction) → IsTensor f → (shape : List ℕ) (es : List Entry) → shape ≡ f.shape → es ≡ finite.entries f.cells → AreEntries shape es
entries_are f t shape es a b = rw (a, b) (entries_name f t).0

pub entries_give : (f : TensorFunction) → IsTensor f → (shape : List ℕ) (fill : ℤ) (es : List Entry) → shape ≡ f.shape → fill ≡ f.fill → es ≡ finite.entries f.cells → named shape fill es ≡ f
entries_give f t shape fill es a c b = rw (a, c, b) (entries_name f t).1

-- an output is among the outputs
there : {X : Type 0} (b : Bool) (y : X) (xs : List X) → b ≡ true → Contains (if b then y ∷ xs else xs) y
there true y xs e = (0, omega arith, refl)
there false y xs e = cc

behind : {X : Type 0} (b : Bool) (y x : X) (xs : List X) → Contains xs x → Contains (if b then y ∷ xs else xs) x
behind true y x xs p = (suc p.0, omega (arith, p.1), p.2)
behind false y x xs p = p

among : (headers : List Header) (n k : ℕ) (h : Header) → slice_get headers k ≡ Some h → is_output h.kind ≡ true → Contains (outputs_from n headers) (n + k, h)
among [] n k h e o = cc
among (g ∷ hs) n zero h e o =
    let same : g ≡ h = cc in
    let at : n + 0 ≡ n = omega arith in
    subst (λ (m : ℕ). Contains (outputs_from n (g ∷ hs)) (m, h)) (sym at)
    (subst (λ (x : Header). Contains (outputs_from n (g ∷ hs)) (n, x)) same (there (is_output g.kind) (n, g) (outputs_from (n + 1) hs) (ap (λ (x : Header). is_output x.kind) same ∙ o)))
among (g ∷ hs) n (suc k) h e o =
    let at : n + 1 + k ≡ n + suc k = omega arith in
    subst (λ (m : ℕ). Contains (outputs_from n (g ∷ hs)) (m, h)) at (behind (is_output g.kind) (n, g) (n + 1 + k, h) (outputs_from (n + 1) hs) (among hs (n + 1) k h e o))

module _ (f : ℕ → TensorFunction) where
  either : (b : Bool) (tensor : ℕ) (h : Header) → is_output h.kind ≡ b → (hs : List Header) → outputs_from tensor (h ∷ hs) ≡ (if b then (tensor, h) ∷ outputs_from (tensor + 1) hs else outputs_from (tensor + 1) hs)
  either b tensor h e hs = ap (λ (c : Bool). if c then (tensor, h) ∷ outputs_from (tensor + 1) hs else outputs_from (tensor + 1) hs) e

  pub adds_none : (tensor : ℕ) (h : Header) (old : List (ℕ × Storage)) → is_output h.kind ≡ false → Adds f tensor h old old
  adds_none tensor h old e hs os a = (os, refl, subst (λ (es : List (ℕ × Header)). AreStored f es os) (sym (either false tensor h e hs)) a)

  pub adds_one : (tensor : ℕ) (h : Header) (old : List (ℕ × Storage)) (s : Storage) → is_output h.kind ≡ true → IsCanon (undecorated h.format) (f tensor) s → Adds f tensor h old (old ++ (tensor, s) ∷ [])
  adds_one tensor h old s e is hs os a =
      ((tensor, s) ∷ os, append_assoc old ((tensor, s) ∷ []) os, subst (λ (es : List (ℕ × Header)). AreStored f es ((tensor, s) ∷ os)) (sym (either true tensor h e hs)) (refl, is, a))

  pub has_large : (headers : List Header) (tensor : ℕ) (h : Header) → slice_get headers tensor ≡ Some h → is_output h.kind ≡ true → (IsAllowedIn (undecorated h.format) (f tensor) → ⊥) → HasLarge f headers
  has_large headers tensor h e o n = ((tensor, h), subst (λ (m : ℕ). Contains (outputs_from 0 headers) (m, h)) (omega arith) (among headers 0 tensor h e o), n)

  -- one header more
  pub goes_on : (headers : List Header) (k : ℕ) (h : Header) (old new : List (ℕ × Storage)) → slice_get headers k ≡ Some h
      → ((os : List (ℕ × Storage)) → AreStored f (outputs_from k (drop k headers)) os → AreStored f (outputs_from 0 headers) (old ++ os))
      → Adds f k h old new
      → (os : List (ℕ × Storage)) → AreStored f (outputs_from (k + 1) (drop (k + 1) headers)) os → AreStored f (outputs_from 0 headers) (new ++ os)
  goes_on headers k h old new e so_far adds os a =
      let p = adds (drop (k + 1) headers) os a in
      let whole : h ∷ drop (k + 1) headers ≡ drop k headers = rw add-one (sym (opened headers k h e)) in
      subst (AreStored f (outputs_from 0 headers)) (sym p.1) (so_far p.0 (subst (λ (hs : List Header). AreStored f (outputs_from k hs) p.0) whole p.2))

  pub ends : (headers : List Header) (k : ℕ) (all : List (ℕ × Storage))
      → ((os : List (ℕ × Storage)) → AreStored f (outputs_from k (drop k headers)) os → AreStored f (outputs_from 0 headers) (all ++ os))
      → length headers ≤ k → AreStored f (outputs_from 0 headers) all
  ends headers k all so_far h =
      subst (AreStored f (outputs_from 0 headers)) (append-nil all) (so_far [] (subst (λ (hs : List Header). AreStored f (outputs_from k hs) []) (sym (drop_all k headers h)) tt))
