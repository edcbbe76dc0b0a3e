-- A machine that still does what the run does: after charges, and after one tensor was set.
use Rattle.std.proofs.Common.{◌≡◌, ◌≢◌, ◌<◌, ◌+◌, ℕ, Bool, true, false, List, length, if◌then◌else◌, refl, sym, ap, ◌∙◌, subst, ⊎_elim, ℤ, pos, arith}
use Rattle.std.specs.Prelude.{slice_set}
use Rattle.std.proofs.lemmas.Bool.{cases_eq}
use Rattle.std.proofs.lemmas.List.{length-set, get_or-set_same, get_or-set_other}
use Rattle.fin_ir.specs.declared.expression.IExpr.{IExpr}
use Rattle.fin_ir.specs.declared.expression.IExpr.TheVariants.{Num}
use Rattle.fin_ir.specs.declared.code.Code.TheVariants.{Charge}
use Rattle.fin_ir.specs.declared.layout.Layout.{Layout}
use Rattle.fin_ir.specs.Machine.{Machine, Tensor, nothing, held, seen, whole, charge}
use Rattle.fin_ir.specs.Value.{value_in}
use Rattle.fin_ir.specs.Meaning.{meaning}
use Rattle.fin_ir.proofs.Codes.{meaning_charge}
use Rattle.fin_ir.proofs.Values.{value_num}
use Rattle.fin_stage.specs.Stages.{Stage, Absent, stage_at}
use Rattle.fin_stage.specs.Staged.{Run, worked, with_stage, is_made}
use Rattle.fin_stage.specs.Fitting.{StageFits}
use Rattle.fin_nest.specs.Related.{Start, Stand, Live}
use Rattle.fin_nest.proofs.Pinning.{live_as}

-- ---- charges

-- the machine with more charges
abbrev pub paid : ℕ → Machine → Machine
paid n m = record m { charges = m.charges + n }

pub charge_pays : (layout : Layout) (e : IExpr) (n : ℕ) (m : Machine) → m.cut ≡ false → value_in m e ≡ pos n → meaning layout (Charge e) m ≡ paid n m
charge_pays layout e n m live v = meaning_charge layout e m ∙ ap (λ (z : ℤ). charge z m) v ∙ ap (λ (b : Bool). if b then m else paid n m) live

pub number_pays : (layout : Layout) (n : ℕ) (m : Machine) → m.cut ≡ false → meaning layout (Charge (Num (pos n))) m ≡ paid n m
number_pays layout n m live = charge_pays layout (Num (pos n)) n m live (value_num (seen m) m.locals (pos n))

-- a machine that was cut pays nothing
pub cut_pays : (layout : Layout) (e : IExpr) (m : Machine) → m.cut ≡ true → meaning layout (Charge e) m ≡ m
cut_pays layout e m cut = meaning_charge layout e m ∙ ap (λ (b : Bool). if b then m else paid (whole (value_in m e)) m) cut

pub worked_live : (s : Start) (pins : List ℤ) (r : Run) (m : Machine) → Live s pins r m → (n : ℕ) → Live s pins (worked n r) (paid n m)
worked_live s pins r m live n = live_as s pins pins m.locals (r.work + n) (m.charges + n) m.turns r m (ap (λ (k : ℕ). k + n) live.charges) refl live.pinned live

-- ---- one tensor

-- another tensor at one place
abbrev pub changed_to : ℕ → Tensor → Machine → Machine
changed_to t x m = record m { tensors = slice_set m.tensors t x }

module _ (s : Start) (pins : List ℤ) (r : Run) (m : Machine) (live : Live s pins r m) where
  -- a tensor that isn't given is led to another stage
  pub changed_live : (t : ℕ) (x : Stage) (y : Tensor) → t < length s.setting.headers → is_made s.setting t ≡ true → Stand x y → StageFits s.setting t x
      → Live s pins (with_stage t x r) (changed_to t y m)
  changed_live t x y lt made stand fit =
      let tensors : t < length m.tensors = omega (arith, live.tensors) in
      let stages : t < length r.stages = omega (arith, live.stages) in
      let w = s.setting in
      record {
        cut = live.cut;
        regular = live.regular;
        shared = live.shared;
        charges = live.charges;
        locals = live.locals;
        pinned = live.pinned;
        tensors = length-set m.tensors t y ∙ live.tensors;
        stages = length-set r.stages t x ∙ live.stages;
        each = λ j. ⊎_elim
            (λ (e : j ≡ t). subst (λ (k : ℕ). Stand (stage_at (slice_set r.stages t x) k) (held (slice_set m.tensors t y) k)) (sym e)
            (subst (λ (z : Stage). Stand z (held (slice_set m.tensors t y) t)) (sym (get_or-set_same r.stages t x Absent stages))
            (subst (Stand x) (sym (get_or-set_same m.tensors t y nothing tensors)) stand)))
            (λ (n : j ≢ t). subst (λ (z : Stage). Stand z (held (slice_set m.tensors t y) j)) (sym (get_or-set_other r.stages t j x Absent n))
            (subst (Stand (stage_at r.stages j)) (sym (get_or-set_other m.tensors t j y nothing n)) (live.each j)))
            (cases_eq j t);
        given = λ j e. get_or-set_other m.tensors t j y nothing (λ same. let f = ap (is_made w) same in cc) ∙ live.given j e;
        fits = λ j. ⊎_elim
            (λ (e : j ≡ t). subst (λ (k : ℕ). StageFits w k (stage_at (slice_set r.stages t x) k)) (sym e) (subst (StageFits w t) (sym (get_or-set_same r.stages t x Absent stages)) fit))
            (λ (n : j ≢ t). subst (StageFits w j) (sym (get_or-set_other r.stages t j x Absent n)) (live.fits j))
            (cases_eq j t);
      }
