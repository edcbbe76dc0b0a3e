-- Declarations, freezes and thaws.
use Rattle.std.proofs.Common.{◌≡◌, ◌<◌, ◌+◌, ◌^◌, ℕ, Bool, true, false, List, [], ◌∷◌, length, if◌then◌else◌, refl, sym, ap, ◌∙◌, subst, inl, inr, ℤ, pos, arith}
use Rattle.std.specs.Prelude.{slice_get, nat_lt, nat_eq, not}
use Rattle.std.proofs.lemmas.Bool.{lt-ltb, not-true}
use Rattle.std.proofs.lemmas.List.{length-map, get_or-set_same}
use Rattle.fin_tensor.specs.declared.format.Format.{Format}
use Rattle.fin_tensor.specs.declared.format.Level.{Level}
use Rattle.fin_tensor.specs.declared.storage.Storage.{Storage}
use Rattle.fin_tensor.specs.TensorFunction.{TensorFunction, value_at}
use Rattle.fin_tensor.specs.Building.{Building, unchanged, started, CanBuild}
use Rattle.fin_tensor.specs.Canon.{undecorated, is_allowed}
use Rattle.fin_tensor.specs.Levels.{AreSmall, value_from}
use Rattle.fin_tensor.specs.Stands.{tabulated}
use Rattle.fin_tensor.specs.Placement.{RunsStandLast}
use Rattle.fin_tensor.proofs.Cells.{filled_has_cells}
use Rattle.fin_canon.proofs.Listed.{listed_is}
use Rattle.fin_ast.specs.declared.header.Header.{Header}
use Rattle.fin_ast.specs.declared.checked.Checked.{Checked}
use Rattle.fin_ast.specs.Accepted.{FitProgram}
use Rattle.fin_ast.specs.Dense.{Setting, setting_of, shape_at}
use Rattle.fin_ast.specs.Shaped.{FitHeaders}
use Rattle.fin_ir.specs.declared.code.Code.TheVariants.{Declare, Freeze, Thaw, Charge}
use Rattle.fin_ir.specs.CanBuild.{can_build}
use Rattle.fin_ir.specs.Frozen.{canon, is_large, stood_for}
use Rattle.fin_ir.specs.Machine.{Machine, Tensor, nothing, building, stored, held, seen, refused, can_declare, cut_off, frozen_at, thawed, thawed_at}
use Rattle.fin_ir.specs.Machine as machine
use Rattle.fin_ir.specs.declared.expression.IExpr.TheVariants.{Num}
use Rattle.fin_ir.specs.Value.{value_of, value_in}
use Rattle.fin_ir.specs.Meaning.{meaning}
use Rattle.fin_ir.proofs.Builds.{of_builds}
use Rattle.fin_ir.proofs.Codes.{meaning_seq, meaning_declare, meaning_freeze, meaning_thaw}
use Rattle.fin_stage.specs.Stages.{Stage, Absent, Built, Frozen, stage_at, work_of_declaration, work_of_storing}
use Rattle.fin_stage.specs.Staged.{Run, worked, with_stage, unalive, regular, is_made, format_at, declare, freeze_at, freeze, thaw_at, thaw}
use Rattle.fin_stage.specs.Fitting.{FunctionFits, StageFits}
use Rattle.fin_stage.proofs.Fits.{same_fill}
use Rattle.fin_read.specs.Counts.{count_code}
use Rattle.fin_read.specs.Means.{CountsMean}
use Rattle.fin_perform.specs.Codes.{charge_of, count_of, declare_code, freeze_code, thaw_code}
use Rattle.fin_perform.specs.Layouts.{heads_in, layout_with, start_with}
use Rattle.fin_nest.specs.Related.{Stand, Live, Over, Related}
use Rattle.fin_perform.proofs.Headed.{formats_are, kind_is, input_number, shapes_long, builds_there}
use Rattle.fin_perform.proofs.Given.{made_is_other, built_is_made}
use Rattle.fin_perform.proofs.Seen.{few_of, canon_valid, seen_held, stage_there}
use Rattle.fin_nest.proofs.Changed.{paid, charge_pays, number_pays, cut_pays, worked_live, changed_to, changed_live}
use Rattle.fin_stage.proofs.Trailing.{made_by}

storing_small : (b : Building) → is_large b ≡ false → work_of_storing b.format b.function ≡ 1 + length (canon b).val
storing_small b e =
    let few = few_of b e in
    ap (λ (t : Bool). if t then 1 + length (canon b).val else 2 ^ 40 + 1) few

storing_large : (b : Building) → is_large b ≡ true → work_of_storing b.format b.function ≡ 2 ^ 40 + 1
storing_large b e =
    let few = not-true (is_allowed b.format.levels b.function.fill b.function.shape (value_at b.function ∷ [])) e in
    ap (λ (t : Bool). if t then 1 + length (canon b).val else 2 ^ 40 + 1) few

paid_twice : (a b : ℕ) (m : Machine) → paid b (paid a m) ≡ paid (a + b) m
paid_twice a b m = let e : m.charges + a + b ≡ m.charges + (a + b) = omega arith in ap (λ (k : ℕ). record m { charges = k }) e

module _ (c : Checked) (room : ℕ) (inputs : List Storage) (fits : FitHeaders c.program.headers c.dims) (given_fit : FitProgram c inputs) where
  abbrev w : Setting
  w = setting_of c inputs

  -- ---- declarations

  made_in_layout : (t : ℕ) → t < length c.program.headers → is_made w t ≡ true → machine.is_made (layout_with c room) t ≡ true
  made_in_layout t lt made =
      let q = made_is_other c room inputs fits given_fit t lt made in
      ap (λ (k : ℕ). not (nat_eq k 0)) (kind_is c.program.headers t q.0 q.1) ∙ ap not (input_number q.0.kind ∙ q.2)

  pub declares : (t : ℕ) → t < length c.program.headers → is_made w t ≡ true → can_declare (layout_with c room) t ≡ true
  declares t lt made =
      let can : CanBuild (format_at w t) (shape_at w t) = builds_there c.program.headers c.dims.shapes fits.shapes t lt in
      let builds : can_build (machine.format_at (layout_with c room) t) (machine.shape_at (layout_with c room) t) ≡ true = ap (λ (f : Format). can_build f (shape_at w t)) (formats_are c.program.headers c.dims.shapes t) ∙ of_builds (format_at w t) (shape_at w t) can in
      let formats : nat_lt t (length (layout_with c room).formats) ≡ true = lt-ltb _ _ (omega (arith, lt, length-map c.program.headers (λ (x : Header). x.format))) in
      let shapes : nat_lt t (length (layout_with c room).shapes) ≡ true = lt-ltb _ _ (omega (arith, lt, shapes_long c.program.headers c.dims.shapes fits.shapes)) in
      let is_made = made_in_layout t lt made in
      rw (is_made, formats, shapes, builds) refl

  started_fits : (t : ℕ) → StageFits w t (Built (started (format_at w t) (shape_at w t)))
  started_fits t = (refl, record { shape = refl; fill = same_fill w (slice_get c.program.headers t); cells = filled_has_cells (shape_at w t) (format_at w t).fill })

  pub declare_goes : (pins : List ℤ) (r : Run) (m : Machine) → Live (start_with c room inputs) pins r m → (t : ℕ) → t < length c.program.headers → regular (declare w t r) ≡ true
      → Related (start_with c room inputs) pins (declare w t r) (meaning (layout_with c room) (declare_code (heads_in c) t) m)
  declare_goes pins r m live t lt reg =
      let work : ℕ = work_of_declaration (format_at w t).levels (shape_at w t) in
      let b : Building = started (format_at w t) (shape_at w t) in
      let done : Run = worked work (with_stage t (Built b) r) in
      let made : is_made w t ≡ true = made_by (is_made w t) done r reg in
      let own : Building = started (machine.format_at (layout_with c room) t) (shape_at w t) in
      let n : Machine = changed_to t (building own) m in
      let declared : meaning (layout_with c room) (Declare t) m ≡ n =
      meaning_declare (layout_with c room) t m ∙ ap (λ (x : Bool). if x then m else (if can_declare (layout_with c room) t then n else refused m)) live.cut
      ∙ ap (λ (x : Bool). if x then n else refused m) (declares t lt made) in
      let ends : meaning (layout_with c room) (declare_code (heads_in c) t) m ≡ paid work n =
      meaning_seq (layout_with c room) (Declare t ∷ charge_of work ∷ []) m ∙ ap (meaning (layout_with c room) (charge_of work)) declared ∙ number_pays (layout_with c room) work n live.cut in
      let same : building own ≡ building b = ap (λ (f : Format). building (started f (shape_at w t))) (formats_are c.program.headers c.dims.shapes t) in
      let goes : Live (start_with c room inputs) pins done (paid work n) = worked_live (start_with c room inputs) pins (with_stage t (Built b) r) n (changed_live (start_with c room inputs) pins r m live t (Built b) (building own) lt made same (started_fits t)) work in
      let run : declare w t r ≡ done = ap (λ (x : Bool). if x then done else unalive r) made in
      inl (subst (λ (x : Run). Live (start_with c room inputs) pins x (meaning (layout_with c room) (declare_code (heads_in c) t) m)) (sym run) (subst (Live (start_with c room inputs) pins done) (sym ends) goes))

  -- ---- the number of values

  -- a building one, or a frozen one, whose format fits
  pub record Shaped (t : ℕ) (b : Building) : Type 0 where
    pub levels : b.format.levels ≡ (format_at w t).levels
    pub shape : b.function.shape ≡ shape_at w t
    pub runs : RunsStandLast b.format.levels
    pub long : length b.function.shape ≡ length b.format.levels
    pub small : AreSmall b.function.shape

  pub shaped : (t : ℕ) (b : Building) → t < length c.program.headers → undecorated b.format ≡ undecorated (format_at w t) → FunctionFits w t b.function → Shaped t b
  shaped t b lt format f =
      let can : CanBuild (format_at w t) (shape_at w t) = builds_there c.program.headers c.dims.shapes fits.shapes t lt in
      let levels : b.format.levels ≡ (format_at w t).levels = ap (λ (x : Format). x.levels) format in
      record {
        levels = levels;
        shape = f.shape;
        runs = subst RunsStandLast (sym levels) can.placed.runs;
        long = ap length f.shape ∙ can.shape_is.long ∙ ap length (sym levels);
        small = subst AreSmall (sym f.shape) can.shape_is.small;
      }

  module _ (counts : CountsMean) where
    pub count_is : (t : ℕ) (b : Building) (m : Machine) → Shaped t b → is_large b ≡ false → seen m t ≡ stored (canon b) → value_in m (count_of (heads_in c) t) ≡ pos (length (canon b).val)
    count_is t b m s few there =
        ap (λ (ls : List Level). value_of (count_code t ls (shape_at w t)) (seen m) m.locals) (sym s.levels)
        ∙ ap (λ (ns : List ℕ). value_of (count_code t b.format.levels ns) (seen m) m.locals) (sym s.shape)
        ∙ counts (seen m) t b.format.levels (canon b) m.locals there (canon_valid b s.runs s.long s.small few)

    -- ---- freezes

    module _ (pins : List ℤ) (r : Run) (m : Machine) (live : Live (start_with c room inputs) pins r m) (t : ℕ) where
      freeze_built : (b : Building) → stage_at r.stages t ≡ Built b → Related (start_with c room inputs) pins (freeze_at t (Built b) r) (meaning (layout_with c room) (freeze_code (heads_in c) t) m)
      freeze_built b e = by_size (is_large b) refl where
        own : held m.tensors t ≡ building b
        own = subst (λ (x : Stage). Stand x (held m.tensors t)) e (live.each t)

        fit : StageFits w t (Built b)
        fit = subst (λ (x : Stage). StageFits w t x) e (live.fits t)

        lt : t < length c.program.headers
        lt = stage_there c room inputs fits given_fit pins r m live t (Built b) e (λ h. cc)

        frozen : (large : Bool) → is_large b ≡ large → meaning (layout_with c room) (Freeze t) m ≡ (if large then cut_off m else changed_to t (stored (canon b)) m)
        frozen large h =
            meaning_freeze (layout_with c room) t m ∙ ap (λ (x : Bool). if x then m else frozen_at t (held m.tensors t) m) live.cut ∙ ap (λ (y : Tensor). frozen_at t y m) own
            ∙ ap (λ (x : Bool). if x then cut_off m else changed_to t (stored (canon b)) m) h

        by_size : (large : Bool) → is_large b ≡ large → Related (start_with c room inputs) pins (freeze_at t (Built b) r) (meaning (layout_with c room) (freeze_code (heads_in c) t) m)
        by_size true large =
            let ends : meaning (layout_with c room) (freeze_code (heads_in c) t) m ≡ cut_off m =
            meaning_seq (layout_with c room) (Freeze t ∷ charge_of 1 ∷ Charge (count_of (heads_in c) t) ∷ []) m
            ∙ ap (λ (n : Machine). meaning (layout_with c room) (Charge (count_of (heads_in c) t)) (meaning (layout_with c room) (charge_of 1) n)) (frozen true large)
            ∙ ap (meaning (layout_with c room) (Charge (count_of (heads_in c) t))) (cut_pays (layout_with c room) (Num (pos 1)) (cut_off m) refl)
            ∙ cut_pays (layout_with c room) (count_of (heads_in c) t) (cut_off m) refl in
            let over : Over (freeze_at t (Built b) r) (cut_off m) = record { cut = refl; regular = live.regular; over = omega arith; most = omega (arith, live.charges, storing_large b large) } in
            inr (subst (Over (freeze_at t (Built b) r)) (sym ends) over)
        by_size false few =
            let n : Machine = changed_to t (stored (canon b)) m in
            let stage : Run = with_stage t (Frozen (undecorated b.format) b.function) r in
            let size : ℕ = length (canon b).val in
            let goes : Live (start_with c room inputs) pins stage n = changed_live (start_with c room inputs) pins r m live t (Frozen (undecorated b.format) b.function) (stored (canon b)) lt (built_is_made c room inputs pins r m live fits given_fit t b e) (few, refl) fit in
            let there : seen n t ≡ stored (canon b) = seen_held c room inputs fits given_fit pins stage n goes t ∙ get_or-set_same m.tensors t (stored (canon b)) nothing (omega (arith, lt, live.tensors)) in
            let value : value_in (paid 1 n) (count_of (heads_in c) t) ≡ pos size = count_is t b (paid 1 n) (shaped t b lt fit.0 fit.1) few there in
            let ends : meaning (layout_with c room) (freeze_code (heads_in c) t) m ≡ paid (1 + size) n =
            meaning_seq (layout_with c room) (Freeze t ∷ charge_of 1 ∷ Charge (count_of (heads_in c) t) ∷ []) m
            ∙ ap (λ (x : Machine). meaning (layout_with c room) (Charge (count_of (heads_in c) t)) (meaning (layout_with c room) (charge_of 1) x)) (frozen false few)
            ∙ ap (meaning (layout_with c room) (Charge (count_of (heads_in c) t))) (number_pays (layout_with c room) 1 n live.cut)
            ∙ charge_pays (layout_with c room) (count_of (heads_in c) t) size (paid 1 n) live.cut value
            ∙ paid_twice 1 size n in
            let work : worked (1 + size) stage ≡ freeze_at t (Built b) r = ap (λ (k : ℕ). worked k stage) (sym (storing_small b few)) in
            inl (subst (Live (start_with c room inputs) pins (freeze_at t (Built b) r)) (sym ends) (subst (λ (x : Run). Live (start_with c room inputs) pins x (paid (1 + size) n)) work (worked_live (start_with c room inputs) pins stage n goes (1 + size))))

      pub freeze_goes : regular (freeze t r) ≡ true → Related (start_with c room inputs) pins (freeze t r) (meaning (layout_with c room) (freeze_code (heads_in c) t) m)
      freeze_goes reg = by_stage (stage_at r.stages t) refl reg where
        by_stage : (x : Stage) → stage_at r.stages t ≡ x → regular (freeze_at t x r) ≡ true → Related (start_with c room inputs) pins (freeze_at t x r) (meaning (layout_with c room) (freeze_code (heads_in c) t) m)
        by_stage Absent e g = cc
        by_stage (Built b) e g = freeze_built b e
        by_stage (Frozen format f) e g = cc

      -- ---- thaws

      -- what is thawed is the function again
      thawed_is : (format : Format) (f : TensorFunction) → t < length c.program.headers → StageFits w t (Frozen format f) → thawed (canon (unchanged format f)) ≡ unchanged format f
      thawed_is format f lt fit =
          let b : Building = unchanged format f in
          let own : FunctionFits w t f = fit.1 in
          let s : Shaped t b = shaped t b lt (ap undecorated fit.0) own in
          let bare : undecorated format ≡ format = ap undecorated fit.0 ∙ sym fit.0 in
          let fill : format.fill ≡ f.fill = ap (λ (x : Format). x.fill) fit.0 ∙ same_fill w (slice_get c.program.headers t) ∙ sym own.fill in
          let function : stood_for (canon b) ≡ f = ap (λ (z : ℤ). tabulated f.shape z (value_from f.shape (canon b).parts (canon b).val z 0)) fill ∙ listed_is format.levels f s.runs s.long own.cells in
          ap (λ (x : Format). unchanged x (stood_for (canon b))) bare ∙ ap (unchanged format) function

      thaw_frozen : (format : Format) (f : TensorFunction) → stage_at r.stages t ≡ Frozen format f → is_made w t ≡ true
          → Related (start_with c room inputs) pins (thaw_at t (Frozen format f) r) (meaning (layout_with c room) (thaw_code (heads_in c) t) m)
      thaw_frozen format f e made =
          let b : Building = unchanged format f in
          let stand : Stand (Frozen format f) (held m.tensors t) = subst (λ (x : Stage). Stand x (held m.tensors t)) e (live.each t) in
          let fit : StageFits w t (Frozen format f) = subst (λ (x : Stage). StageFits w t x) e (live.fits t) in
          let lt : t < length c.program.headers = stage_there c room inputs fits given_fit pins r m live t (Frozen format f) e (λ h. cc) in
          let size : ℕ = length (canon b).val in
          let there : seen m t ≡ stored (canon b) = seen_held c room inputs fits given_fit pins r m live t ∙ stand.1 in
          let value : value_in (paid 1 m) (count_of (heads_in c) t) ≡ pos size = count_is t b (paid 1 m) (shaped t b lt (ap undecorated fit.0) fit.1) stand.0 there in
          let n : Machine = paid (1 + size) m in
          let y : Tensor = building (thawed (canon b)) in
          let thaws : meaning (layout_with c room) (Thaw t) n ≡ changed_to t y n =
          meaning_thaw (layout_with c room) t n ∙ ap (λ (x : Bool). if x then n else thawed_at (layout_with c room) t (held m.tensors t) n) live.cut ∙ ap (λ (x : Tensor). thawed_at (layout_with c room) t x n) stand.1
          ∙ ap (λ (x : Bool). if x then changed_to t y n else refused n) (made_in_layout t lt made) in
          let ends : meaning (layout_with c room) (thaw_code (heads_in c) t) m ≡ changed_to t y n =
          meaning_seq (layout_with c room) (charge_of 1 ∷ Charge (count_of (heads_in c) t) ∷ Thaw t ∷ []) m
          ∙ ap (λ (x : Machine). meaning (layout_with c room) (Thaw t) (meaning (layout_with c room) (Charge (count_of (heads_in c) t)) x)) (number_pays (layout_with c room) 1 m live.cut)
          ∙ ap (meaning (layout_with c room) (Thaw t)) (charge_pays (layout_with c room) (count_of (heads_in c) t) size (paid 1 m) live.cut value ∙ paid_twice 1 size m) ∙ thaws in
          let stage : Run = with_stage t (Built b) r in
          let built : StageFits w t (Built b) = (ap undecorated fit.0, fit.1) in
          let goes : Live (start_with c room inputs) pins stage (changed_to t y m) = changed_live (start_with c room inputs) pins r m live t (Built b) y lt made (ap building (thawed_is format f lt fit)) built in
          let work : worked (1 + size) stage ≡ thaw_at t (Frozen format f) r = ap (λ (k : ℕ). worked k stage) (sym (storing_small b stand.0)) in
          inl (subst (Live (start_with c room inputs) pins (thaw_at t (Frozen format f) r)) (sym ends) (subst (λ (x : Run). Live (start_with c room inputs) pins x (changed_to t y n)) work (worked_live (start_with c room inputs) pins stage (changed_to t y m) goes (1 + size))))

      pub thaw_goes : regular (thaw w t r) ≡ true → Related (start_with c room inputs) pins (thaw w t r) (meaning (layout_with c room) (thaw_code (heads_in c) t) m)
      thaw_goes reg =
          let made : is_made w t ≡ true = made_by (is_made w t) (thaw_at t (stage_at r.stages t) r) r reg in
          let run : thaw w t r ≡ thaw_at t (stage_at r.stages t) r = ap (λ (x : Bool). if x then thaw_at t (stage_at r.stages t) r else unalive r) made in
          subst (λ (x : Run). Related (start_with c room inputs) pins x (meaning (layout_with c room) (thaw_code (heads_in c) t) m)) (sym run)
          (by_stage (stage_at r.stages t) refl made (ap regular (sym run) ∙ reg)) where
            by_stage : (x : Stage) → stage_at r.stages t ≡ x → is_made w t ≡ true → regular (thaw_at t x r) ≡ true
                → Related (start_with c room inputs) pins (thaw_at t x r) (meaning (layout_with c room) (thaw_code (heads_in c) t) m)
            by_stage Absent e made g = cc
            by_stage (Built b) e made g = cc
            by_stage (Frozen format f) e made g = thaw_frozen format f e made
