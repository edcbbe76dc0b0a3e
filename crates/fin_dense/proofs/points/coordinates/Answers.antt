use Rattle.std.proofs.Common.{◌≡◌, Some, Option, map, ◌∙◌, sym, ap, ◌⊎◌, get_or, pos, arith, inl, inr, List, ℕ}
use Rattle.std.proofs.lemmas.Grind.{common_steps}
use Rattle.std.specs.Prelude.{◌<ℤ◌, ◌≤ℤ◌}
use Rattle.std.proofs.lemmas.List.{length-map}
use Rattle.std.proofs.lemmas.Int.{ints}
use Rattle.fin_ast.specs.Value.{place, coordinates as coordinates_of}
use Rattle.fin_ast.proofs.InBox.{in_box}
use Rattle.fin_dense.proofs.Coordinates.{uneven, fails, goes}
use Rattle.fin_dense.proofs.points.coordinates.Goals as goal
use Rattle.fin_dense.proofs.points.coordinates.Goals.{then-c-lt0-via-then-c-lt0, then-c-lt0-via-else-c-lt0+then-c-shape}

pub returns-then-shape-at-clause-value : goal.returns-then-shape-at-clause-value
returns-then-shape-at-clause-value c = sym (uneven _ _ (λ e. c.if-shape-at.true (e ∙ length-map _ _)))

pub returns-then-c-lt0-clause-value : goal.returns-then-c-lt0-clause-value
returns-then-c-lt0-clause-value c =
    let out : (c.place-c.result <ℤ pos 0) ⊎ (pos (get_or c.args.shape.now c.loop-k.k 0) ≤ℤ c.place-c.result) =
    elim c.then-c-lt0.branch [
      | then-c-lt0-via-then-c-lt0 w ↦ inl (omega (arith, ints, w.if-c-lt0.true))
      | then-c-lt0-via-else-c-lt0+then-c-shape w ↦ inr (omega (arith, ints, w.if-c-shape.true, c.type_inv.shape c.loop-k.k))
    ] in
    fails _ _ _ c.loop-k.k c.index-at-k.result c.loop-k.found _ (omega arith) (omega arith) c.loop-k.invariant.so_far c.place-c.result (c.place-c.ensures ∙ ap (place c.args.vars.now) c.index-at-k.is) out

pub loop-k-preserved : goal.loop-k-preserved
loop-k-preserved c = record {
  even = c.loop-k.invariant.even;
  so_far = rw c.in_ok-push.ensures.ok (goes c.args.shape.now c.args.at.now c.args.vars.now c.loop-k.k c.index-at-k.result c.loop-k.found _ (omega arith) (omega arith) c.loop-k.invariant.so_far c.place-c.result _ (c.place-c.ensures ∙ ap (place c.args.vars.now) c.index-at-k.is) (omega (arith, ints, c.if-c-lt0.false, c.place-c.type_inv)) (omega (arith, ints, c.if-c-lt0.false, c.if-c-shape.false, c.type_inv.shape c.loop-k.k, c.place-c.type_inv)));
}

pub returns-clause-inside : goal.returns-clause-inside
returns-clause-inside c =
    let e : ◌≡◌ {A = Option (List ℕ)} (Some c.loop-k.found) (coordinates_of c.args.shape.now (map (place c.args.vars.now) c.args.at.now)) = grind (arith, common_steps) in
    in_box _ _ c.loop-k.found (sym e)
