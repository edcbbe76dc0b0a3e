-- What a run of a program's code leaves: its outputs, and the work.
use Rattle.std.proofs.Common.{◌≡◌, ◌<◌, ◌≤◌, ◌∙◌, ℕ, zero, suc, true, false, List, [], ◌∷◌, refl, sym, ap, subst, inl, inr, arith}
use Rattle.std.specs.Prelude.{Option, Some, None, option_map, unwrap_or, slice_get, pos}
use Rattle.fin_tensor.specs.declared.format.Format.{Format}
use Rattle.fin_tensor.specs.declared.storage.Storage.{Storage}
use Rattle.fin_tensor.specs.TensorFunction.{TensorFunction}
use Rattle.fin_tensor.specs.Canon.{IsCanon, undecorated}
use Rattle.fin_ast.specs.declared.header.Header.{Header}
use Rattle.fin_ast.specs.declared.checked.Checked.{Checked}
use Rattle.fin_ast.specs.Accepted.{IsAccepted, FitProgram}
use Rattle.fin_ast.specs.Kinds.{is_output}
use Rattle.fin_ast.specs.Dense.{function_of, setting_of, unbound}
use Rattle.fin_ir.specs.declared.layout.Layout.{Layout}
use Rattle.fin_ir.specs.declared.layout.Plan.{Plan}
use Rattle.fin_ir.specs.Frozen as plain
use Rattle.fin_ir.specs.Machine.{Tensor, nothing, building, stored, held, Machine}
use Rattle.fin_ir.specs.Meaning.{meaning}
use Rattle.fin_ir.specs.Regular.{IsLayout}
use Rattle.fin_ir.specs.Start.{given_if, started}
use Rattle.fin_stage.specs.Stages.{Frozen}
use Rattle.fin_stage.specs.Staged.{staged, before_all}
use Rattle.fin_stage.specs.Sound.{IsSound}
use Rattle.fin_stage.specs.Fitting.{StageFits, StagesFit}
use Rattle.fin_stage.proofs.Fits.{nothing_fits, stages_fit}
use Rattle.fin_stage.proofs.Soundness.{accepted_is_sound}
use Rattle.fin_simp.specs.Work.{work_of}
use Rattle.fin_lower.specs.Plans.{IsPlan}
use Rattle.fin_lower.specs.Lowered.{canon_of, begun, ended, IsLowered, IsWhole}
use Rattle.fin_run.specs.declared.state.Held.{Held}
use Rattle.fin_run.specs.declared.state.Held.TheVariants as held_as
use Rattle.fin_run.specs.declared.state.State.{State}
use Rattle.fin_run.specs.Ends.{IsRegular}
use Rattle.fin_run.specs.States.{machine, tensors_of}
use Rattle.fin_run.specs.Storages.{storage_in}
use Rattle.fin_engine.specs.Run.{HoldsOutputs}

-- ---- a tensor that is a storage

abbrev lists_of : plain.Frozen → Tensor → plain.Frozen
lists_of d nothing = d
lists_of d (building b) = d
lists_of d (stored s) = s

same_lists : (a b : plain.Frozen) → stored a ≡ stored b → a ≡ b
same_lists a b e = ap (lists_of a) e

-- a storage with these lists
record HasLists (o : Option Storage) (x : plain.Frozen) : Type 0 where
  storage : Storage
  found : o ≡ Some storage
  lists : plain.frozen_of storage ≡ x

lent_storage : (o : Option Storage) (x : plain.Frozen) → given_if o ≡ stored x → HasLists o x
lent_storage None x e = cc
lent_storage (Some s) x e = record { storage = s; found = refl; lists = same_lists (plain.frozen_of s) x e }

held_storage : (inputs : List Storage) (hs : List Held) (tensor : ℕ) (x : plain.Frozen) → held (tensors_of inputs hs) tensor ≡ stored x → HasLists (storage_in inputs hs tensor) x
held_storage inputs [] tensor x e = cc
held_storage inputs (held_as.Nothing ∷ hs) zero x e = cc
held_storage inputs (held_as.Lent k ∷ hs) zero x e = lent_storage (slice_get inputs k) x e
held_storage inputs (held_as.Building b ∷ hs) zero x e = cc
held_storage inputs (held_as.Frozen s ∷ hs) zero x e = record { storage = s; found = refl; lists = same_lists (plain.frozen_of s) x e }
held_storage inputs (h ∷ hs) (suc tensor) x e = held_storage inputs hs tensor x e

is_canon : (format : Format) (f : TensorFunction) (s : Storage) → format.fill ≡ f.fill → plain.frozen_of s ≡ canon_of (undecorated format) f → IsCanon (undecorated format) f s
is_canon format f s fill same = record {
  fill = fill;
  format_is = ap (λ (x : plain.Frozen). x.format) same;
  shape = ap (λ (x : plain.Frozen). x.shape) same;
  parts = ap (λ (x : plain.Frozen). x.parts) same;
  val = ap (λ (x : plain.Frozen). x.val) same;
}

-- an output's function has the fill of its header
fill_is : (c : Checked) (inputs : List Storage) → IsAccepted c → FitProgram c inputs → (tensor : ℕ) (h : Header) → slice_get c.program.headers tensor ≡ Some h → is_output h.kind ≡ true
    → h.format.fill ≡ (function_of c inputs tensor).fill
fill_is c inputs accepted fit tensor h at output =
    let w = setting_of c inputs in
    let sound : IsSound c inputs = accepted_is_sound c inputs accepted fit in
    let all : StagesFit w (staged c inputs).stages = stages_fit w c.program.body (unbound c.dims) (before_all c.program.headers) (nothing_fits w c.program.headers) in
    let one : StageFits w tensor (Frozen (undecorated h.format) (function_of c inputs tensor)) = subst (StageFits w tensor) (sound.outputs tensor h at output) (all tensor) in
    sym (one.1.fill ∙ ap (λ (o : Option Header). unwrap_or (option_map (λ (x : Header). x.format.fill) o) (pos 0)) at)

-- ---- the run of a plan

module _ (c : Checked) (inputs : List Storage) (p : Plan) (is : IsPlan c p) (lowered : IsLowered c inputs p) where
  pub layout_is : IsLayout p.layout
  layout_is = lowered.fit.layout_is

  whole : (ended c inputs p).cut ≡ false → IsWhole c inputs (ended c inputs p)
  whole uncut = elim lowered.ends [ inl is ↦ is | inr is ↦ (let cut : (ended c inputs p).cut ≡ true = is.cut in absurd cc) ]

  -- storages that are the inputs, and a state that is fresh
  module _ (given : List Storage) (same : given ≡ inputs) (fresh : State) (start : machine given fresh 0 ≡ started p.layout given) where
    begins : machine given fresh 0 ≡ begun c inputs p
    begins = start ∙ ap (started p.layout) same ∙ ap (λ (l : Layout). started l inputs) is.layout

    end_is : meaning p.layout p.code (machine given fresh 0) ≡ ended c inputs p
    end_is = ap (meaning p.layout p.code) begins

    pub is_regular : IsRegular (meaning p.layout p.code) (machine given fresh 0)
    is_regular = ap (λ (m : Machine). m.regular) end_is ∙ lowered.regular.runs

    pub over : (budget : ℕ) → budget < (meaning p.layout p.code (machine given fresh 0)).charges → budget < work_of c inputs
    over budget lt =
        let charges : (meaning p.layout p.code (machine given fresh 0)).charges ≡ (ended c inputs p).charges = ap (λ (m : Machine). m.charges) end_is in
        elim lowered.ends [
          | inl is ↦ omega (arith, lt, charges, is.charges)
          | inr is ↦ omega (arith, lt, charges, is.most)
        ]

    -- what it leaves is what the code leaves
    module _ (left : State) (turns : ℕ) (leaves : machine given left turns ≡ meaning p.layout p.code (machine given fresh 0)) where
      here : machine given left turns ≡ ended c inputs p
      here = leaves ∙ end_is

      ends : IsWhole c inputs (ended c inputs p)
      ends = whole (sym (ap (λ (m : Machine). m.cut) here))

      pub work_is : left.work ≡ work_of c inputs
      work_is = ap (λ (m : Machine). m.charges) here ∙ ends.charges

      pub within : (budget : ℕ) → (meaning p.layout p.code (machine given fresh 0)).charges ≤ budget → work_of c inputs ≤ budget
      within budget le =
          let charges : (meaning p.layout p.code (machine given fresh 0)).charges ≡ (ended c inputs p).charges = ap (λ (m : Machine). m.charges) end_is in
          omega (arith, le, charges, ends.charges)

      pub holds : IsAccepted c → FitProgram c inputs → HoldsOutputs c inputs left.tensors.items 0
      holds accepted fit tensor h le at output =
          let f : TensorFunction = function_of c inputs tensor in
          let x : plain.Frozen = canon_of (undecorated h.format) f in
          let stands : held (tensors_of given left.tensors.items) tensor ≡ stored x = ap (λ (m : Machine). held m.tensors tensor) here ∙ ends.outputs tensor h at output in
          let found : HasLists (storage_in given left.tensors.items tensor) x = held_storage given left.tensors.items tensor x stands in
          let canon = is_canon h.format f found.storage (fill_is c inputs accepted fit tensor h at output) found.lists in
          (found.storage, ap (λ (y : List Storage). storage_in y left.tensors.items tensor) (sym same) ∙ found.found, canon)
