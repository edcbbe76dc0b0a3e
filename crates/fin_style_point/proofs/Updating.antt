-- The code of an update does what the update of a run does, and leaves all but one tensor as it was.
use Rattle.std.proofs.Common.{◌≡◌, ◌<◌, ℕ, ⊎_elim, Bool, true, false, ◌&&◌, List, [], ◌∷◌, length, map, Option, Some, None, if◌then◌else◌, refl, sym, ap, ◌∙◌, subst, ℤ, pos, negsuc, arith}
use Rattle.std.specs.Prelude.{nat_lt}
use Rattle.std.proofs.lemmas.Bool.{cases_lt}
use Rattle.std.proofs.lemmas.List.{get_or_past}
use Rattle.fin_base.specs.Words.{apply}
use Rattle.fin_base.specs.declared.reduce.Reduce.{Reduce}
use Rattle.fin_tensor.specs.TensorFunction.{value_at, is_in_box}
use Rattle.fin_tensor.specs.Building.{Building, follows, updated}
use Rattle.fin_tensor.proofs.Cells.{keeps_cells}
use Rattle.fin_ast.specs.Value.{with_first, coordinates}
use Rattle.fin_ast.specs.Dense.{Setting, shape_at}
use Rattle.fin_ast.proofs.InBox as boxes
use Rattle.fin_ir.specs.declared.code.Code.{Code}
use Rattle.fin_ir.specs.declared.code.Code.TheVariants.{When, Update}
use Rattle.fin_ir.specs.declared.expression.IExpr.{IExpr}
use Rattle.fin_ir.specs.declared.layout.Layout.{Layout}
use Rattle.fin_ir.specs.Machine.{Machine, Tensor, building, held, seen, refused, changed_by}
use Rattle.fin_ir.specs.Machine as machine
use Rattle.fin_ir.specs.Value.{value_in, is_off}
use Rattle.fin_ir.specs.Meaning.{meaning}
use Rattle.fin_ir.proofs.Codes.{meaning_when, meaning_update}
use Rattle.fin_stage.specs.Stages.{Stage, Absent, Built}
use Rattle.fin_stage.specs.Staged.{Run, with_stage, regular}
use Rattle.fin_stage.specs.Trailing.{skipped}
use Rattle.fin_stage.specs.Fitting.{FunctionFits, StageFits}
use Rattle.fin_read.specs.Reads.{in_box}
use Rattle.fin_read.proofs.Reading.{inside, box_value}
use Rattle.fin_nest.specs.Related.{Start, Stand, Live}
use Rattle.fin_nest.proofs.Changed.{changed_to, changed_live}
use Rattle.fin_nest.proofs.Keeping.{Keeps, keeps_same, either_keeps, keeps_update}
use Rattle.fin_style_point.proofs.Outcomes.{IsPut, is_put, put_one, put_none}

by_rest : (k : ℕ) (o p : Option (List ℕ)) (cs : List ℕ) → ((ds : List ℕ) → o ≡ Some ds → p ≡ Some ds) → with_first k o ≡ Some cs → machine.with_first k p ≡ Some cs
by_rest k None p cs h e = cc
by_rest k (Some ds) p cs h e = ap (machine.with_first k) (h ds refl) ∙ e

-- coordinates in a box are those of the numbers
coordinates_are : (shape : List ℕ) (zs : List ℤ) (cs : List ℕ) → coordinates shape zs ≡ Some cs → machine.coordinates zs ≡ Some cs
coordinates_are [] [] cs e = e
coordinates_are [] (z ∷ zs) cs e = cc
coordinates_are (n ∷ ns) [] cs e = cc
coordinates_are (n ∷ ns) (negsuc k ∷ zs) cs e = cc
coordinates_are (n ∷ ns) (pos k ∷ zs) cs e =
    elim (nat_lt k n) as (λ b. (if b then with_first k (coordinates ns zs) else None) ≡ Some cs → machine.with_first k (machine.coordinates zs) ≡ Some cs) [
      | true ↦ λ h. by_rest k (coordinates ns zs) (machine.coordinates zs) cs (λ ds f. coordinates_are ns zs ds f) h
      | false ↦ λ h. cc
    ] e

module _ (s : Start) (layout : Layout) (t : ℕ) (xs : List IExpr) (by : Reduce) (e : IExpr) where
  abbrev w : Setting
  w = s.setting

  -- in the box alone
  abbrev pub put_code : Code
  put_code = When (in_box (shape_at s.setting t) xs) (Update t xs by e)

  module _ (r : Run) (m : Machine) (live : Live s [] r m) (p : IsPut s.setting t (map (value_in m) xs) by (value_in m e) r) where
    abbrev b : Building
    b = p.built

    abbrev zs : List ℤ
    zs = map (value_in m) xs

    abbrev v : ℤ
    v = value_in m e

    own : held m.tensors t ≡ building p.built
    own = subst (λ (x : Stage). Stand x (held m.tensors t)) p.stage (live.each t)

    fit : StageFits s.setting t (Built p.built)
    fit = subst (λ (x : Stage). StageFits s.setting t x) p.stage (live.fits t)

    there : t < length s.setting.headers
    there = ⊎_elim (λ lt. lt) (λ le. let past = get_or_past r.stages t Absent (omega (arith, le, live.stages)) in let is = p.stage in absurd (cc)) (cases_lt t (length s.setting.headers))

    -- the test is whether there are coordinates
    tested : (o : Option (List ℕ)) → coordinates p.built.function.shape (map (value_in m) xs) ≡ o → value_in m (in_box (shape_at s.setting t) xs) ≡ inside o
    tested o h = box_value (seen m) m.locals (shape_at s.setting t) xs ∙ ap (λ (ns : List ℕ). inside (coordinates ns (map (value_in m) xs))) (sym (FunctionFits.shape fit.1)) ∙ ap inside h

    -- outside the box nothing is done
    does_none : coordinates p.built.function.shape (map (value_in m) xs) ≡ None → Live s [] (skipped s.setting t (map (value_in m) xs) by (value_in m e) r) (meaning layout put_code m)
    does_none h =
        let ends : meaning layout put_code m ≡ m =
        meaning_when layout (in_box (shape_at w t) xs) (Update t xs by e) m ∙ ap (λ (z : ℤ). if is_off z then m else meaning layout (Update t xs by e) m) (tested None h) in
        subst (λ (x : Run). Live s [] x (meaning layout put_code m)) (sym (put_none w t zs by v r p h)) (subst (Live s [] r) (sym ends) live)

    -- one value is changed
    does_one : (cs : List ℕ) → coordinates p.built.function.shape (map (value_in m) xs) ≡ Some cs
        → Live s [] (skipped s.setting t (map (value_in m) xs) by (value_in m e) r) (meaning layout put_code m)
    does_one cs h =
        let new : Building = updated b cs (λ old. apply by old v) in
        let n : Machine = changed_to t (building new) m in
        let box : is_in_box b.function.shape cs ≡ true = boxes.in_box b.function.shape zs cs h in
        let updates : meaning layout (Update t xs by e) m ≡ n =
        meaning_update layout t xs by e m ∙ ap (λ (x : Bool). if x then m else machine.update_at t (machine.coordinates zs) by v m) live.cut
        ∙ ap (λ (o : Option (List ℕ)). machine.update_at t o by v m) (coordinates_are b.function.shape zs cs h)
        ∙ ap (λ (x : Tensor). changed_by (record { tensor = t; at = cs; by = by; value = v }) x m) own
        ∙ ap (λ (x : Bool). if x && follows b cs then n else refused m) box ∙ ap (λ (x : Bool). if x then n else refused m) (p.order cs h) in
        let ends : meaning layout put_code m ≡ n =
        meaning_when layout (in_box (shape_at w t) xs) (Update t xs by e) m
        ∙ ap (λ (z : ℤ). if is_off z then m else meaning layout (Update t xs by e) m) (tested (Some cs) h) ∙ updates in
        let f : FunctionFits w t b.function = fit.1 in
        let built : StageFits w t (Built new) = (fit.0, record { shape = f.shape; fill = f.fill; cells = keeps_cells b.function cs (apply by (value_at b.function cs) v) f.cells box }) in
        let goes : Live s [] (with_stage t (Built new) r) n = changed_live s [] r m live t (Built new) (building new) there p.made refl built in
        subst (λ (x : Run). Live s [] x (meaning layout put_code m)) (sym (put_one w t zs by v r p cs h)) (subst (Live s [] (with_stage t (Built new) r)) (sym ends) goes)

    by_place : (o : Option (List ℕ)) → coordinates p.built.function.shape (map (value_in m) xs) ≡ o
        → Live s [] (skipped s.setting t (map (value_in m) xs) by (value_in m e) r) (meaning layout put_code m)
    by_place None h = does_none h
    by_place (Some cs) h = does_one cs h

  pub put_goes : (r : Run) (m : Machine) → Live s [] r m → regular (skipped s.setting t (map (value_in m) xs) by (value_in m e) r) ≡ true
      → Live s [] (skipped s.setting t (map (value_in m) xs) by (value_in m e) r) (meaning layout put_code m)
  put_goes r m live g = let p = is_put w t (map (value_in m) xs) by (value_in m e) r g in by_place r m live p (coordinates p.built.function.shape (map (value_in m) xs)) refl

  pub put_keeps : (m : Machine) → Keeps t m (meaning layout put_code m)
  put_keeps m =
      subst (Keeps t m) (sym (meaning_when layout (in_box (shape_at w t) xs) (Update t xs by e) m))
      (either_keeps t (is_off (value_in m (in_box (shape_at w t) xs))) m m (meaning layout (Update t xs by e) m) (keeps_same t m)
      (subst (Keeps t m) (sym (meaning_update layout t xs by e m)) (keeps_update t (map (value_in m) xs) by (value_in m e) m)))
