-- What stands for an input of a program, on the first machine and in the definition of work.
use Rattle.std.proofs.Common.{◌≡◌, ℕ, zero, suc, ◌+◌, Bool, true, false, List, [], ◌∷◌, map, drop, add-one, Option, Some, None, if◌then◌else◌, refl, sym, ap, ◌∙◌}
use Rattle.std.specs.Prelude.{slice_get, slice_index_or}
use Rattle.fin_tensor.specs.declared.part.Part.{Part}
use Rattle.fin_tensor.specs.declared.storage.Storage.{Storage}
use Rattle.fin_tensor.specs.TensorFunction.{TensorFunction}
use Rattle.fin_tensor.specs.Stands.{stands}
use Rattle.fin_ast.specs.declared.header.Header.{Header}
use Rattle.fin_ast.specs.Kinds.{is_input}
use Rattle.fin_ast.specs.Dense.{made_at, inputs_by_header}
use Rattle.fin_ir.specs.Frozen.{frozen_of}
use Rattle.fin_ir.specs.Machine.{Tensor, nothing, stored, held}
use Rattle.fin_ir.specs.Start.{given_if, given, first_tensors}
use Rattle.fin_simp.specs.Work.{parts_by_header}
use Rattle.fin_perform.specs.Layouts.{kind_number}
use Rattle.fin_perform.proofs.Headed.{input_number}

abbrev kinds_of : List Header → List ℕ
kinds_of hs = map (λ (x : Header). kind_number x.kind) hs

-- an input's storage, on the first machine and by its parts
pub record IsGiven (there : Tensor) (parts : Option (List Part)) : Type 0 where
  pub storage : Storage
  pub tensor : there ≡ stored (frozen_of storage)
  pub parts_are : parts ≡ Some storage.parts

dropped : (inputs : List Storage) (k : ℕ) (s : Storage) (rest : List Storage) → drop k inputs ≡ s ∷ rest → (slice_get inputs k ≡ Some s) × (drop (k + 1) inputs ≡ rest)
dropped [] zero s rest e = cc
dropped [] (suc k) s rest e = cc
dropped (x ∷ inputs) zero s rest e = (cc, cc)
dropped (x ∷ inputs) (suc k) s rest e =
    let q = dropped inputs k s rest e in
    (q.0, ap (λ (n : ℕ). drop n (x ∷ inputs)) (add-one (suc k)) ∙ ap (λ (n : ℕ). drop n inputs) (sym (add-one k)) ∙ q.1)

none_without : (hs : List Header) (t : ℕ) → made_at (inputs_by_header hs []) t ≡ None
none_without [] t = refl
none_without (y ∷ hs) zero = refl
none_without (y ∷ hs) (suc t) = none_without hs t

no_parts_without : (hs : List Header) (t : ℕ) → slice_index_or (parts_by_header hs []) t None ≡ None
no_parts_without [] t = refl
no_parts_without (y ∷ hs) zero = refl
no_parts_without (y ∷ hs) (suc t) = no_parts_without hs t

module _ (y : Header) (hs : List Header) (s : Storage) (inputs : List Storage) where
  abbrev functions_by : Bool → List (Option TensorFunction)
  functions_by b = if b then Some (stands s) ∷ inputs_by_header hs inputs else None ∷ inputs_by_header hs (s ∷ inputs)

  abbrev parts_by : Bool → List (Option (List Part))
  parts_by b = if b then Some s.parts ∷ parts_by_header hs inputs else None ∷ parts_by_header hs (s ∷ inputs)

  ungiven_by : ((ins : List Storage) (t : ℕ) → made_at (inputs_by_header hs ins) t ≡ None → slice_index_or (parts_by_header hs ins) t None ≡ None)
      → (b : Bool) (t : ℕ) → made_at (functions_by b) t ≡ None → slice_index_or (parts_by b) t None ≡ None
  ungiven_by rest true zero e = cc
  ungiven_by rest true (suc t) e = rest inputs t e
  ungiven_by rest false zero e = refl
  ungiven_by rest false (suc t) e = rest (s ∷ inputs) t e

  module _ (all : List Storage) (k : ℕ) where
    abbrev tensors_by : Bool → List Tensor
    tensors_by b = if b then given all k ∷ first_tensors all (k + 1) (kinds_of hs) else nothing ∷ first_tensors all k (kinds_of hs)

    given_by : drop k all ≡ s ∷ inputs
        → ((j : ℕ) (ins : List Storage) → drop j all ≡ ins → (t : ℕ) (g : TensorFunction) → made_at (inputs_by_header hs ins) t ≡ Some g
        → IsGiven (held (first_tensors all j (kinds_of hs)) t) (slice_index_or (parts_by_header hs ins) t None))
        → (b : Bool) (t : ℕ) (g : TensorFunction) → made_at (functions_by b) t ≡ Some g → IsGiven (held (tensors_by b) t) (slice_index_or (parts_by b) t None)
    given_by d rest true zero g e = record { storage = s; tensor = ap given_if (dropped all k s inputs d).0; parts_are = refl }
    given_by d rest true (suc t) g e = rest (k + 1) inputs (dropped all k s inputs d).1 t g e
    given_by d rest false zero g e = cc
    given_by d rest false (suc t) g e = rest k (s ∷ inputs) d t g e

    given_here : (t : ℕ) → IsGiven (held (tensors_by (is_input y.kind)) t) (slice_index_or (parts_by (is_input y.kind)) t None)
        → IsGiven (held (first_tensors all k (kinds_of (y ∷ hs))) t) (slice_index_or (parts_by_header (y ∷ hs) (s ∷ inputs)) t None)
    given_here t g = record { storage = g.storage; tensor = ap (λ (b : Bool). held (tensors_by b) t) (input_number y.kind) ∙ g.tensor; parts_are = g.parts_are }

pub ungiven : (hs : List Header) (inputs : List Storage) (t : ℕ) → made_at (inputs_by_header hs inputs) t ≡ None → slice_index_or (parts_by_header hs inputs) t None ≡ None
ungiven [] inputs t e = refl
ungiven (y ∷ hs) [] t e = no_parts_without (y ∷ hs) t
ungiven (y ∷ hs) (s ∷ inputs) t e = ungiven_by y hs s inputs (ungiven hs) (is_input y.kind) t e

given_from : (hs : List Header) (all : List Storage) (k : ℕ) (inputs : List Storage) → drop k all ≡ inputs → (t : ℕ) (g : TensorFunction) → made_at (inputs_by_header hs inputs) t ≡ Some g
    → IsGiven (held (first_tensors all k (kinds_of hs)) t) (slice_index_or (parts_by_header hs inputs) t None)
given_from [] all k inputs d t g e = cc
given_from (y ∷ hs) all k [] d t g e = let n = none_without (y ∷ hs) t in cc
given_from (y ∷ hs) all k (s ∷ inputs) d t g e = given_here y hs s inputs all k t (given_by y hs s inputs all k d (given_from hs all) (is_input y.kind) t g e)

pub given_stored : (hs : List Header) (inputs : List Storage) (t : ℕ) (g : TensorFunction) → made_at (inputs_by_header hs inputs) t ≡ Some g
    → IsGiven (held (first_tensors inputs 0 (kinds_of hs)) t) (slice_index_or (parts_by_header hs inputs) t None)
given_stored hs inputs t g e = given_from hs inputs 0 inputs refl t g e
