-- Updates.
use Rattle.std.proofs.Common.{◌≡◌, ◌<◌, ℕ, Bool, true, false, ◌&&◌, List, [], ◌∷◌, map, Option, Some, None, if◌then◌else◌, refl, sym, ap, ◌∙◌, subst, inl, ℤ}
use Rattle.fin_base.specs.Words.{apply}
use Rattle.fin_base.specs.declared.reduce.Reduce.{Reduce}
use Rattle.fin_tensor.specs.declared.storage.Storage.{Storage}
use Rattle.fin_tensor.specs.TensorFunction.{value_at, is_in_box}
use Rattle.fin_tensor.specs.Building.{Building, follows, updated}
use Rattle.fin_tensor.proofs.Cells.{keeps_cells}
use Rattle.fin_ast.specs.declared.checked.Checked.{Checked}
use Rattle.fin_ast.specs.Accepted.{FitProgram}
use Rattle.fin_ast.specs.Value.{coordinates}
use Rattle.fin_ast.specs.Dense.{Setting, setting_of, shape_at}
use Rattle.fin_ast.specs.Shaped.{FitHeaders}
use Rattle.fin_ast.proofs.InBox as boxes
use Rattle.fin_ir.specs.declared.code.Code.{Code}
use Rattle.fin_ir.specs.declared.code.Code.TheVariants.{Seq, When, Update}
use Rattle.fin_ir.specs.declared.expression.IExpr.{IExpr}
use Rattle.fin_ir.specs.Machine.{Machine, Tensor, building, held, seen, refused, changed_by}
use Rattle.fin_ir.specs.Machine as machine
use Rattle.fin_ir.specs.Value.{value_in, is_off}
use Rattle.fin_ir.specs.Meaning.{meaning}
use Rattle.fin_ir.proofs.Codes.{meaning_seq, meaning_when, meaning_update}
use Rattle.fin_stage.specs.Stages.{Stage, Absent, Built, Frozen, stage_at}
use Rattle.fin_stage.specs.Staged.{Run, with_stage, unalive, unordered, regular, is_made, put_at, update_at, update}
use Rattle.fin_stage.specs.Fitting.{FunctionFits, StageFits}
use Rattle.fin_stage.specs.Trailing.{skipped}
use Rattle.fin_stage.proofs.Alive.{right}
use Rattle.fin_read.specs.Reads.{in_box}
use Rattle.fin_read.specs.Values.{shape_of}
use Rattle.fin_read.proofs.Reading.{inside, box_value}
use Rattle.fin_perform.specs.Codes.{charge_of}
use Rattle.fin_perform.specs.Layouts.{heads_in, layout_with, start_with}
use Rattle.fin_nest.specs.Related.{Stand, Live, Related}
use Rattle.fin_perform.proofs.Seen.{stage_there}
use Rattle.fin_nest.proofs.Changed.{paid, number_pays, worked_live, changed_to, changed_live}
use Rattle.fin_stage.proofs.Trailing.{made_by}
use Rattle.fin_perform.proofs.Inside.{coordinates_are}

-- an update in the box alone
abbrev put_code : List ℕ → ℕ → List IExpr → Reduce → IExpr → Code
put_code shape t xs by e = When (in_box shape xs) (Update t xs by e)

-- what comes before the last update isn't regular
in_order : (b : Bool) (x r : Run) → regular (if b then x else unordered r) ≡ true → b ≡ true
in_order true x r e = refl
in_order false x r e = right (r.alive && r.small) false e

module _ (c : Checked) (room : ℕ) (inputs : List Storage) (fits : FitHeaders c.program.headers c.dims) (given_fit : FitProgram c inputs) (pins : List ℤ) (r : Run) (m : Machine) (live : Live (start_with c room inputs) pins r m) (t : ℕ) where
  abbrev w : Setting
  w = setting_of c inputs

  module _ (xs : List IExpr) (zs : List ℤ) (at : map (value_in m) xs ≡ zs) (by : Reduce) (e : IExpr) (v : ℤ) (value : value_in m e ≡ v) (b : Building) (is : stage_at r.stages t ≡ Built b) (made : is_made w t ≡ true) where
    own : held m.tensors t ≡ building b
    own = subst (λ (x : Stage). Stand x (held m.tensors t)) is (live.each t)

    fit : StageFits w t (Built b)
    fit = subst (λ (x : Stage). StageFits w t x) is (live.fits t)

    -- the test is whether there are coordinates
    tested : (o : Option (List ℕ)) → coordinates b.function.shape zs ≡ o → value_in m (in_box (shape_at w t) xs) ≡ inside o
    tested o h =
        box_value (seen m) m.locals (shape_at w t) xs ∙ ap (λ (ks : List ℤ). inside (coordinates (shape_at w t) ks)) at
        ∙ ap (λ (ns : List ℕ). inside (coordinates ns zs)) (sym (FunctionFits.shape fit.1)) ∙ ap inside h

    -- outside the box nothing is done
    put_nothing : coordinates b.function.shape zs ≡ None
        → Live (start_with c room inputs) pins (put_at t b None by v r) (meaning (layout_with c room) (put_code (shape_at w t) t xs by e) m)
    put_nothing h =
        let when : meaning (layout_with c room) (put_code (shape_at w t) t xs by e) m ≡ m =
        meaning_when (layout_with c room) (in_box (shape_at w t) xs) (Update t xs by e) m ∙ ap (λ (z : ℤ). if is_off z then m else meaning (layout_with c room) (Update t xs by e) m) (tested None h) in
        subst (Live (start_with c room inputs) pins r) (sym when) live

    -- one value is changed
    put_one : (cs : List ℕ) → coordinates b.function.shape zs ≡ Some cs → regular (put_at t b (Some cs) by v r) ≡ true
        → Live (start_with c room inputs) pins (put_at t b (Some cs) by v r) (meaning (layout_with c room) (put_code (shape_at w t) t xs by e) m)
    put_one cs h reg =
        let new : Building = updated b cs (λ old. apply by old v) in
        let stage : Run = with_stage t (Built new) r in
        let n : Machine = changed_to t (building new) m in
        let order : follows b cs ≡ true = in_order (follows b cs) stage r reg in
        let box : is_in_box b.function.shape cs ≡ true = boxes.in_box b.function.shape zs cs h in
        let updates : meaning (layout_with c room) (Update t xs by e) m ≡ n =
        meaning_update (layout_with c room) t xs by e m ∙ ap (λ (ks : List ℤ). machine.update t ks by (value_in m e) m) at ∙ ap (λ (z : ℤ). machine.update t zs by z m) value
        ∙ ap (λ (x : Bool). if x then m else machine.update_at t (machine.coordinates zs) by v m) live.cut
        ∙ ap (λ (o : Option (List ℕ)). machine.update_at t o by v m) (coordinates_are b.function.shape zs cs h)
        ∙ ap (λ (x : Tensor). changed_by (record { tensor = t; at = cs; by = by; value = v }) x m) own
        ∙ ap (λ (x : Bool). if x && follows b cs then n else refused m) box ∙ ap (λ (x : Bool). if x then n else refused m) order in
        let when : meaning (layout_with c room) (put_code (shape_at w t) t xs by e) m ≡ n =
        meaning_when (layout_with c room) (in_box (shape_at w t) xs) (Update t xs by e) m
        ∙ ap (λ (z : ℤ). if is_off z then m else meaning (layout_with c room) (Update t xs by e) m) (tested (Some cs) h)
        ∙ updates in
        let f : FunctionFits w t b.function = fit.1 in
        let built : StageFits w t (Built new) = (fit.0, record { shape = f.shape; fill = f.fill; cells = keeps_cells b.function cs (apply by (value_at b.function cs) v) f.cells box }) in
        let lt : t < _ = stage_there c room inputs fits given_fit pins r m live t (Built b) is (λ x. cc) in
        let goes : Live (start_with c room inputs) pins stage n = changed_live (start_with c room inputs) pins r m live t (Built new) (building new) lt made refl built in
        let run : stage ≡ put_at t b (Some cs) by v r = ap (λ (x : Bool). if x then stage else unordered r) (sym order) in
        subst (Live (start_with c room inputs) pins (put_at t b (Some cs) by v r)) (sym when)
        (subst (λ (x : Run). Live (start_with c room inputs) pins x n) run goes)

    put_goes : (o : Option (List ℕ)) → coordinates b.function.shape zs ≡ o → regular (put_at t b o by v r) ≡ true
        → Live (start_with c room inputs) pins (put_at t b o by v r) (meaning (layout_with c room) (put_code (shape_at w t) t xs by e) m)
    put_goes None h reg = put_nothing h
    put_goes (Some cs) h reg = put_one cs h reg

  module _ (xs : List IExpr) (zs : List ℤ) (at : map (value_in m) xs ≡ zs) (by : Reduce) (e : IExpr) (v : ℤ) (value : value_in m e ≡ v) where
    -- without the work
    pub skipped_goes : regular (skipped w t zs by v r) ≡ true
        → Live (start_with c room inputs) pins (skipped w t zs by v r) (meaning (layout_with c room) (put_code (shape_of (heads_in c) t) t xs by e) m)
    skipped_goes reg =
        let made : is_made w t ≡ true = made_by (is_made w t) (update_at t (stage_at r.stages t) zs by v r) r reg in
        let run : skipped w t zs by v r ≡ update_at t (stage_at r.stages t) zs by v r = ap (λ (x : Bool). if x then update_at t (stage_at r.stages t) zs by v r else unalive r) made in
        subst (λ (x : Run). Live (start_with c room inputs) pins x (meaning (layout_with c room) (put_code (shape_at w t) t xs by e) m)) (sym run)
        (by_stage (stage_at r.stages t) refl made (ap regular (sym run) ∙ reg)) where
          by_stage : (x : Stage) → stage_at r.stages t ≡ x → is_made w t ≡ true → regular (update_at t x zs by v r) ≡ true
              → Live (start_with c room inputs) pins (update_at t x zs by v r) (meaning (layout_with c room) (put_code (shape_at w t) t xs by e) m)
          by_stage Absent h made g = cc
          by_stage (Built b) h made g = put_goes xs zs at by e v value b h made (coordinates b.function.shape zs) refl g
          by_stage (Frozen format f) h made g = cc

    -- and with it, which is work anywhere
    pub update_goes : regular (update w t zs by v r) ≡ true
        → Related (start_with c room inputs) pins (update w t zs by v r) (meaning (layout_with c room) (Seq (put_code (shape_of (heads_in c) t) t xs by e ∷ charge_of 1 ∷ [])) m)
    update_goes reg =
        let put : Code = put_code (shape_of (heads_in c) t) t xs by e in
        let n : Machine = meaning (layout_with c room) put m in
        let goes : Live (start_with c room inputs) pins (skipped w t zs by v r) n = skipped_goes reg in
        let ends : meaning (layout_with c room) (Seq (put ∷ charge_of 1 ∷ [])) m ≡ paid 1 n =
        meaning_seq (layout_with c room) (put ∷ charge_of 1 ∷ []) m ∙ number_pays (layout_with c room) 1 n goes.cut in
        inl (subst (Live (start_with c room inputs) pins (update w t zs by v r)) (sym ends) (worked_live (start_with c room inputs) pins (skipped w t zs by v r) n goes 1))
