-- What code sees as a storage of a function: inputs, and canonical storages that aren't too large.
use Rattle.std.proofs.Common.{◌≡◌, ◌<◌, ◌≤◌, ℕ, true, false, List, [], ◌∷◌, length, Option, Some, None, refl, sym, ap, ◌∙◌, subst, ⊎_elim, ℤ, arith}
use Rattle.std.specs.Prelude.{is_none, slice_get}
use Rattle.std.specs.Option.{option_or}
use Rattle.std.proofs.lemmas.Bool.{cases_lt, not-false}
use Rattle.std.proofs.lemmas.List.{get_or_past}
use Rattle.fin_tensor.specs.declared.format.Format.{Format}
use Rattle.fin_tensor.specs.declared.format.Level.{Level}
use Rattle.fin_tensor.specs.declared.storage.Storage.{Storage}
use Rattle.fin_tensor.specs.TensorFunction.{TensorFunction, value_at}
use Rattle.fin_tensor.specs.Building.{Building, unchanged}
use Rattle.fin_tensor.specs.Levels.{AreSmall, IsStored, value_from}
use Rattle.fin_tensor.specs.Placement.{RunsStandLast}
use Rattle.fin_tensor.specs.Canon.{undecorated, is_allowed}
use Rattle.fin_tensor.specs.Stands.{stands}
use Rattle.fin_tensor.proofs.Tabulated.{tabulated_shape, tabulated_fill, stands_at}
use Rattle.fin_canon.proofs.Placed.{placed_over}
use Rattle.fin_canon.proofs.Valid.{slices_are_valid}
use Rattle.fin_canon.proofs.Listed.{listed_value}
use Rattle.fin_ast.specs.declared.checked.Checked.{Checked}
use Rattle.fin_ast.specs.Accepted.{FitProgram}
use Rattle.fin_ast.specs.Dense.{made_at, setting_of}
use Rattle.fin_ast.specs.Shaped.{FitHeaders}
use Rattle.fin_ir.specs.Frozen.{frozen_of, canon, is_large}
use Rattle.fin_ir.specs.Machine.{Machine, Tensor, stored, over, held, seen}
use Rattle.fin_tensor.proofs.Allowed.{allowed_by}
use Rattle.fin_stage.specs.Stages.{Stage, Absent, Built, Frozen, stage_at, frozen_in, readable}
use Rattle.fin_stage.specs.Staged.{Run}
use Rattle.fin_stage.specs.Fitting.{FunctionFits, StageFits}
use Rattle.fin_stage.proofs.Fits.{same_fill}
use Rattle.fin_read.specs.Values.{format_of, shape_of}
use Rattle.fin_read.specs.Sees.{Sees, SeesAll}
use Rattle.fin_perform.specs.Layouts.{heads_in, start_with}
use Rattle.fin_perform.proofs.Headed.{format_is, builds_there}
use Rattle.fin_perform.proofs.Given.{given_is_input}
use Rattle.fin_nest.specs.Related.{Stand, Live}

-- ---- one tensor

-- an input
given_seen : (ts : ℕ → Tensor) (t : ℕ) (s : Storage) → ts t ≡ stored (frozen_of s) → Sees ts t s.format.levels s.shape s.format.fill (stands s)
given_seen ts t s e =
    let values = value_from s.shape s.parts s.val s.format.fill 0 in
    record {
      storage = frozen_of s;
      is = e;
      shape_is = refl;
      valid = s.valid;
      f_shape = tabulated_shape s.shape s.format.fill values;
      f_fill = tabulated_fill s.shape s.format.fill values;
      gives = λ cs within. stands_at s cs within;
    }

pub few_of : (b : Building) → is_large b ≡ false → is_allowed b.format.levels b.function.fill b.function.shape (value_at b.function ∷ []) ≡ true
few_of b e = not-false (is_allowed b.format.levels b.function.fill b.function.shape (value_at b.function ∷ [])) e

-- a canonical storage that isn't too large is valid
pub canon_valid : (b : Building) → RunsStandLast b.format.levels → length b.function.shape ≡ length b.format.levels → AreSmall b.function.shape → is_large b ≡ false
    → IsStored 1 b.format.levels b.function.shape (canon b).parts (canon b).val
canon_valid b runs long small few =
    slices_are_valid b.format.levels b.function.fill b.function.shape (value_at b.function ∷ []) (placed_over b.format.levels b.function.shape runs long) small
    (allowed_by b.format.levels b.function.fill b.function.shape (value_at b.function ∷ []) (few_of b few))

-- what was frozen
frozen_seen : (ts : ℕ → Tensor) (t : ℕ) (b : Building) → ts t ≡ stored (canon b) → RunsStandLast b.format.levels → length b.function.shape ≡ length b.format.levels
    → AreSmall b.function.shape → is_large b ≡ false →
    Sees ts t b.format.levels b.function.shape b.function.fill b.function
frozen_seen ts t b e runs long small few = record {
  storage = canon b;
  is = e;
  shape_is = refl;
  valid = canon_valid b runs long small few;
  f_shape = refl;
  f_fill = refl;
  gives = λ cs within. sym (listed_value b.format.levels b.function runs long cs within);
}

-- ---- all tensors

sees_as : (ts : ℕ → Tensor) (t : ℕ) (levels levels' : List Level) (shape shape' : List ℕ) (fill fill' : ℤ) (f f' : TensorFunction) → levels ≡ levels' → shape ≡ shape' → fill ≡ fill'
    → f ≡ f' → Sees ts t levels shape fill f → Sees ts t levels' shape' fill' f'
sees_as ts t levels levels' shape shape' fill fill' f f' e0 e1 e2 e3 s =
    subst (λ (x : List Level). Sees ts t x shape' fill' f') e0
    (subst (λ (x : List ℕ). Sees ts t levels x fill' f') e1
    (subst (λ (x : ℤ). Sees ts t levels shape x f') e2 (subst (λ (x : TensorFunction). Sees ts t levels shape fill x) e3 s)))

frozen_by : (x : Stage) (f : TensorFunction) → frozen_in x ≡ Some f → (format : Format) × (x ≡ Frozen format f)
frozen_by Absent f e = cc
frozen_by (Built b) f e = cc
frozen_by (Frozen format g) f e = (format, cc)

module _ (c : Checked) (room : ℕ) (inputs : List Storage) (fits : FitHeaders c.program.headers c.dims) (given_fit : FitProgram c inputs) (pins : List ℤ) (r : Run) (m : Machine) (live : Live (start_with c room inputs) pins r m) where
  -- nothing is shared
  pub seen_held : (t : ℕ) → seen m t ≡ held m.tensors t
  seen_held t = ap (λ (ts : List Tensor). over (held m.tensors t) (held ts t)) live.shared ∙ own (held m.tensors t) where
    own : (x : Tensor) → over x Tensor.nothing ≡ x
    own Tensor.nothing = refl
    own (Tensor.building b) = refl
    own (stored s) = refl

  -- an absent stage stands past the headers
  pub stage_there : (t : ℕ) (x : Stage) → stage_at r.stages t ≡ x → (x ≡ Absent → ⊥) → t < length c.program.headers
  stage_there t x e n = ⊎_elim (λ (l : t < length c.program.headers). l) (λ (l : length c.program.headers ≤ t). absurd (n (sym e ∙ get_or_past r.stages t Absent (omega (arith, l, live.stages))))) (cases_lt t (length c.program.headers))

  frozen_sees : (t : ℕ) (format : Format) (f : TensorFunction) → stage_at r.stages t ≡ Frozen format f
      → Sees (seen m) t (format_of (heads_in c) t).levels (shape_of (heads_in c) t) (format_of (heads_in c) t).fill f
  frozen_sees t format f e =
      let lt : t < length c.program.headers = stage_there t (Frozen format f) e (λ h. cc) in
      let can = builds_there c.program.headers c.dims.shapes fits.shapes t lt in
      let stand : Stand (Frozen format f) (held m.tensors t) = subst (λ (x : Stage). Stand x (held m.tensors t)) e (live.each t) in
      let fit : StageFits (setting_of c inputs) t (Frozen format f) = subst (λ (x : Stage). StageFits (setting_of c inputs) t x) e (live.fits t) in
      let levels : format.levels ≡ (format_of (heads_in c) t).levels = ap (λ (x : Format). x.levels) fit.0 in
      let f_fits : FunctionFits (setting_of c inputs) t f = fit.1 in
      let fill : f.fill ≡ (format_of (heads_in c) t).fill = f_fits.fill ∙ sym (same_fill (setting_of c inputs) (slice_get c.program.headers t)) in
      let runs : RunsStandLast format.levels = subst RunsStandLast (sym levels) can.placed.runs in
      let long : length f.shape ≡ length format.levels = ap length f_fits.shape ∙ can.shape_is.long ∙ ap length (sym levels) in
      let small : AreSmall f.shape = subst AreSmall (sym f_fits.shape) can.shape_is.small in
      sees_as (seen m) t _ _ _ _ _ _ _ _ levels f_fits.shape fill refl (frozen_seen (seen m) t (unchanged format f) (seen_held t ∙ stand.1) runs long small stand.0)

  pub all_seen : SeesAll (heads_in c) (seen m) (readable (setting_of c inputs).given r.stages)
  all_seen t f e = by_given (made_at (setting_of c inputs).given t) refl e where
    by_given : (o : Option TensorFunction) → made_at (setting_of c inputs).given t ≡ o → option_or o (frozen_in (stage_at r.stages t)) ≡ Some f
        → Sees (seen m) t (format_of (heads_in c) t).levels (shape_of (heads_in c) t) (format_of (heads_in c) t).fill f
    by_given None n h = let q = frozen_by (stage_at r.stages t) f h in frozen_sees t q.0 f q.1
    by_given (Some g) n h =
        let q = given_is_input c room inputs fits given_fit t g n in
        let i = q.3 in
        let there : seen m t ≡ stored (frozen_of i.storage) = seen_held t ∙ live.given t (ap is_none n) ∙ i.tensor in
        let format : i.storage.format ≡ undecorated (format_of (heads_in c) t) = i.format ∙ ap undecorated (sym (format_is c.program.headers c.dims.shapes t q.0 q.1)) in
        let same : stands i.storage ≡ f = cc in
        sees_as (seen m) t _ _ _ _ _ _ _ _ (ap (λ (x : Format). x.levels) format) i.shape_is (ap (λ (x : Format). x.fill) format) same (given_seen (seen m) t i.storage there)
