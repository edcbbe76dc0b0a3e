-- Statements that can be done are regular.
use Rattle.std.proofs.Common.{◌≡◌, ℕ, Bool, true, false, List, [], ◌∷◌, length, ◌<◌, ◌≤◌, ◌^◌, arith, refl, ap, ◌∙◌, ℤ, Some}
use Rattle.std.specs.Prelude.{slice_get, if◌then◌else◌, nat_lt, ◌&&◌}
use Rattle.std.proofs.lemmas.Bool.Decides.{nat_tests}
use Rattle.std.proofs.lemmas.Option.{get_or_from_slice_get}
use Rattle.fin_tensor.specs.declared.format.Format.{Format}
use Rattle.fin_tensor.specs.Placement.{IsPlaced}
use Rattle.fin_tensor.specs.Lines.{IsShape}
use Rattle.fin_tensor.specs.Extents.{dense_size}
use Rattle.fin_ir.specs.declared.expression.IExpr.{IExpr}
use Rattle.fin_ir.specs.CanBuild.{can_build}
use Rattle.fin_ir.proofs.Builds.{of_builds}
use Rattle.fin_base.specs.declared.reduce.Reduce.{Reduce}
use Rattle.fin_tensor.specs.declared.storage.Storage.{Storage}
use Rattle.fin_tensor.specs.Building.{Building, no_format, started}
use Rattle.fin_ir.specs.declared.layout.Layout.{Layout}
use Rattle.fin_ir.specs.Frozen.{frozen_of, canon, is_large}
use Rattle.fin_ir.specs.Machine.{building, stored, Effect, Machine, refused, set_tensor, can_update, put, changed_by, update, can_declare, format_at, shape_at, declare, cut_off, frozen_at, freeze, thawed, thawed_at, thaw, is_made}
use Rattle.fin_run.specs.declared.state.Held.TheVariants as h
use Rattle.fin_run.specs.declared.state.State.{State}
use Rattle.fin_run.specs.States.{machine}
use Rattle.fin_run.specs.Storages.{storage_in}
use Rattle.fin_run.proofs.Steps.{builder_held, storage_is_held}

same_flag : (b : Bool) (m n n' : Machine) → n.regular ≡ m.regular → n'.regular ≡ m.regular → (if b then n else n').regular ≡ m.regular
same_flag true m n n' e f = e
same_flag false m n n' e f = f

module _ (inputs : List Storage) (s : State) where
  abbrev now : Machine
  now = machine inputs s 0

  pub declare_regular : (layout : Layout) (t : ℕ) → can_declare layout t ≡ true → (declare layout t (machine inputs s 0)).regular ≡ true
  declare_regular layout t e = ap (λ b. (if b then set_tensor t (building (started (format_at layout t) (shape_at layout t))) now else refused now).regular) e

  pub freeze_regular : (t : ℕ) (b : Building) → slice_get s.tensors.items t ≡ Some (h.Building b) → (freeze t (machine inputs s 0)).regular ≡ true
  freeze_regular t b e = ap (λ x. (frozen_at t x now).regular) (builder_held inputs s.tensors.items t b e) ∙ same_flag (is_large b) now (cut_off now) (set_tensor t (stored (canon b)) now) refl refl

  pub thaw_regular : (layout : Layout) (t : ℕ) (st : Storage) → is_made layout t ≡ true → storage_in inputs s.tensors.items t ≡ Some st → (thaw layout t (machine inputs s 0)).regular ≡ true
  thaw_regular layout t st made e =
      ap (λ x. (thawed_at layout t x now).regular) (storage_is_held inputs s.tensors.items t st e)
      ∙ ap (λ b. (if b then set_tensor t (building (thawed (frozen_of st))) now else refused now).regular) made

  pub update_regular : (t : ℕ) (by : Reduce) (v : ℤ) (b : Building) → slice_get s.tensors.items t ≡ Some (h.Building b) → can_update b [] ≡ true → (update t [] by v (machine inputs s 0)).regular ≡ true
  update_regular t by v b e can =
      let change : Effect = record { tensor = t; at = []; by = by; value = v } in
      ap (λ x. (changed_by change x now).regular) (builder_held inputs s.tensors.items t b e)
      ∙ ap (λ c. (if c then set_tensor t (building (put change b)) now else refused now).regular) can

pub declares_by : (layout : Layout) (t : ℕ) (f : Format) (ns : List ℕ) → is_made layout t ≡ true → t < length layout.formats → t < length layout.shapes → slice_get layout.formats t ≡ Some f → slice_get layout.shapes t ≡ Some ns → IsPlaced f.levels f.wrap → IsShape f.levels ns → dense_size f.levels ns ≤ 2 ^ 24 → can_declare layout t ≡ true
declares_by layout t f ns made lf ln ef en placed shape small =
    let can = of_builds f ns (record { placed = placed; shape_is = shape; small = small }) in
    let same : can_build (format_at layout t) (shape_at layout t) ≡ true =
    ap (λ (g : Format). can_build g (shape_at layout t)) (get_or_from_slice_get layout.formats t f no_format ef) ∙ ap (can_build f) (get_or_from_slice_get layout.shapes t ns [] en) ∙ can in
    let first : nat_lt t (length layout.formats) ≡ true = grind (arith, nat_tests) in
    let second : nat_lt t (length layout.shapes) ≡ true = grind (arith, nat_tests) in
    ap (λ b. ((b && nat_lt t (length layout.formats)) && nat_lt t (length layout.shapes)) && can_build (format_at layout t) (shape_at layout t)) made
    ∙ ap (λ b. (b && nat_lt t (length layout.shapes)) && can_build (format_at layout t) (shape_at layout t)) first
    ∙ ap (λ b. b && can_build (format_at layout t) (shape_at layout t)) second ∙ same

pub no_indices : (at : List IExpr) → length at ≡ 0 → at ≡ []
no_indices [] e = refl
no_indices (x ∷ xs) e = absurd (omega arith)
