-- The inputs by their numbers are the inputs by header.
use Rattle.std.proofs.Common.{◌≡◌, ℕ, zero, suc, refl, List, [], ◌∷◌, map, drop, Some, None, Bool, true, false, if◌then◌else◌, add-one, ◌⊎◌, inl, inr}
use Rattle.std.specs.Prelude.{slice_get}
use Rattle.fin_tensor.specs.declared.storage.Storage.{Storage}
use Rattle.fin_ast.specs.declared.header.Header.{Header}
use Rattle.fin_ast.specs.Kinds.{is_input}
use Rattle.fin_ast.specs.Dense.{inputs_by_header}
use Rattle.fin_dense.specs.Inputs.{numbered, found}

record AtEnd (inputs : List Storage) (n : ℕ) : Type 0 where
  none : slice_get inputs n ≡ None
  here : drop n inputs ≡ []
  behind : drop (suc n) inputs ≡ []

record Before (inputs : List Storage) (n : ℕ) (s : Storage) : Type 0 where
  some : slice_get inputs n ≡ Some s
  here : drop n inputs ≡ s ∷ drop (suc n) inputs

-- an input is left, or none
left : (inputs : List Storage) (n : ℕ) → AtEnd inputs n ⊎ ((s : Storage) × Before inputs n s)
left [] zero = inl (record { none = refl; here = refl; behind = refl })
left [] (suc n) = inl (record { none = refl; here = refl; behind = refl })
left (s ∷ inputs) zero = inr (s, record { some = refl; here = refl })
left (s ∷ inputs) (suc n) = elim (left inputs n) [
  | inl p ↦ inl (record { none = p.none; here = p.here; behind = p.behind })
  | inr p ↦ inr (p.0, record { some = p.1.some; here = p.1.here })
]

step : (b : Bool) (h : Header) (hs : List Header) (n : ℕ) (inputs : List Storage) → ((m : ℕ) → map (found inputs) (numbered m hs) ≡ inputs_by_header hs (drop m inputs)) → is_input h.kind ≡ b → map (found inputs) (if b then Some n ∷ numbered (suc n) hs else None ∷ numbered n hs) ≡ inputs_by_header (h ∷ hs) (drop n inputs)
step true h hs n inputs rest e = elim (left inputs n) [
  | inl p ↦ rw (rest (suc n), p.none, p.here, p.behind) refl
  | inr p ↦ rw (rest (suc n), p.1.some, p.1.here, e) refl
]
step false h hs n inputs rest e = elim (left inputs n) [
  | inl p ↦ rw (rest n, p.here) refl
  | inr p ↦ rw (rest n, p.1.here, e) refl
]

pub by_numbers : (headers : List Header) (n : ℕ) (inputs : List Storage) → map (found inputs) (numbered n headers) ≡ inputs_by_header headers (drop n inputs)
by_numbers [] n inputs = refl
by_numbers (h ∷ hs) n inputs = rw add-one (step (is_input h.kind) h hs n inputs (λ m. by_numbers hs m inputs) refl)
