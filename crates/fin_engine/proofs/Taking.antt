-- Outputs taken out of a state, header by header.
use Rattle.std.proofs.Common.{◌≡◌, ◌<◌, ◌≤◌, ◌+◌, ◌∙◌, ℕ, zero, suc, Bool, true, false, List, [], ◌∷◌, ◌++◌, length, drop, refl, sym, ap, subst, arith, append_assoc, append-nil, add-one}
use Rattle.std.specs.Prelude.{Some, slice_get, if◌then◌else◌}
use Rattle.std.proofs.lemmas.List.{drop_all}
use Rattle.fin_tensor.specs.declared.storage.Storage.{Storage}
use Rattle.fin_tensor.specs.TensorFunction.{TensorFunction}
use Rattle.fin_tensor.specs.Canon.{IsCanon, undecorated}
use Rattle.fin_ast.specs.declared.header.Header.{Header}
use Rattle.fin_ast.specs.declared.checked.Checked.{Checked}
use Rattle.fin_ast.specs.Dense.{function_of}
use Rattle.fin_ast.specs.Kinds.{is_output}
use Rattle.fin_dense.specs.Plain.{AreStored, outputs_from}
use Rattle.fin_run.specs.declared.state.Held.{Held}
use Rattle.fin_run.specs.Storages.{storage_if, storage_in}
use Rattle.fin_engine.specs.Run.{HoldsOutputs, IsFront, IsHeld}

opened : {X : Type 0} (xs : List X) (k : ℕ) (x : X) → slice_get xs k ≡ Some x → drop k xs ≡ x ∷ drop (suc k) xs
opened [] k x e = cc
opened (y ∷ xs) zero x e = let same : y ≡ x = cc in ap (λ z. z ∷ xs) same
opened (y ∷ xs) (suc k) x e = opened xs k x e

module _ (c : Checked) (inputs : List Storage) where
  f : ℕ → TensorFunction
  f = function_of c inputs

  split : (b : Bool) (tensor : ℕ) (h : Header) (hs : List Header) → is_output h.kind ≡ b → outputs_from tensor (h ∷ hs) ≡ (if b then (tensor, h) ∷ outputs_from (tensor + 1) hs else outputs_from (tensor + 1) hs)
  split b tensor h hs e = ap (λ (d : Bool). if d then (tensor, h) ∷ outputs_from (tensor + 1) hs else outputs_from (tensor + 1) hs) e

  left : (tensor : ℕ) (h : Header) → slice_get c.program.headers tensor ≡ Some h → drop tensor c.program.headers ≡ h ∷ drop (tensor + 1) c.program.headers
  left tensor h at = rw add-one (opened c.program.headers tensor h at)

  -- ---- what is stored

  pub front_begins : IsFront c inputs 0 []
  front_begins os stored = stored

  pub front_same : (tensor : ℕ) (h : Header) (front : List (ℕ × Storage)) → slice_get c.program.headers tensor ≡ Some h → is_output h.kind ≡ false → IsFront c inputs tensor front → IsFront c inputs (tensor + 1) front
  front_same tensor h front at other so_far os stored =
      let rest : List Header = drop (tensor + 1) c.program.headers in
      so_far os (subst (λ (hs : List Header). AreStored (function_of c inputs) (outputs_from tensor hs) os) (sym (left tensor h at))
      (subst (λ (es : List (ℕ × Header)). AreStored (function_of c inputs) es os) (sym (split false tensor h rest other)) stored))

  pub front_more : (tensor : ℕ) (h : Header) (s : Storage) (front : List (ℕ × Storage)) → slice_get c.program.headers tensor ≡ Some h → is_output h.kind ≡ true
      → IsCanon (undecorated h.format) (function_of c inputs tensor) s → IsFront c inputs tensor front → IsFront c inputs (tensor + 1) (front ++ (tensor, s) ∷ [])
  front_more tensor h s front at output canon so_far os stored =
      let rest : List Header = drop (tensor + 1) c.program.headers in
      let one : AreStored (function_of c inputs) ((tensor, h) ∷ outputs_from (tensor + 1) rest) ((tensor, s) ∷ os) = (refl, canon, stored) in
      let all = so_far ((tensor, s) ∷ os) (subst (λ (hs : List Header). AreStored (function_of c inputs) (outputs_from tensor hs) ((tensor, s) ∷ os)) (sym (left tensor h at))
      (subst (λ (es : List (ℕ × Header)). AreStored (function_of c inputs) es ((tensor, s) ∷ os)) (sym (split true tensor h rest output)) one)) in
      subst (AreStored (function_of c inputs) (outputs_from 0 c.program.headers)) (sym (append_assoc front ((tensor, s) ∷ []) os)) all

  pub front_ends : (n : ℕ) (front : List (ℕ × Storage)) → length c.program.headers ≤ n → IsFront c inputs n front → AreStored (function_of c inputs) (outputs_from 0 c.program.headers) front
  front_ends n front all so_far =
      subst (AreStored (function_of c inputs) (outputs_from 0 c.program.headers)) (append-nil front)
      (so_far [] (subst (λ (hs : List Header). AreStored (function_of c inputs) (outputs_from n hs) []) (sym (drop_all n c.program.headers all)) tt))

  -- ---- what is held

  pub held_behind : (tensor : ℕ) (hs : List Held) → HoldsOutputs c inputs hs tensor → HoldsOutputs c inputs hs (tensor + 1)
  held_behind tensor hs holds t h le at output = holds t h (omega arith) at output

  -- what stands behind a tensor stays
  pub held_still : (tensor : ℕ) (old new : List Held) → ((t : ℕ) → tensor < t → slice_get new t ≡ slice_get old t) → HoldsOutputs c inputs old tensor → HoldsOutputs c inputs new (tensor + 1)
  held_still tensor old new still holds t h le at output =
      let is : IsHeld c inputs old t h = holds t h (omega arith) at output in
      (is.0, ap (storage_if inputs) (still t (omega arith)) ∙ is.1, is.2)

  -- the storage that was taken is the one that was held
  pub taken_is : (tensor : ℕ) (h : Header) (hs : List Held) (given : List Storage) (s : Storage) → given ≡ inputs → IsHeld c inputs hs tensor h → storage_in given hs tensor ≡ Some s
      → IsCanon (undecorated h.format) (function_of c inputs tensor) s
  taken_is tensor h hs given s same is taken =
      let found : storage_in inputs hs tensor ≡ Some s = ap (λ (y : List Storage). storage_in y hs tensor) (sym same) ∙ taken in
      let one : is.0 ≡ s = cc (sym is.1 ∙ found) in
      subst (IsCanon (undecorated h.format) (function_of c inputs tensor)) one is.2
