use Rattle.std.proofs.Common.{◌≡◌, ap, ◌∙◌, ℤ, List, map, pos, w64}
use Rattle.std.proofs.lemmas.Int.{to_z-of_z}
use Rattle.fin_run.proofs.Loading.{rt}
use Rattle.fin_ir.specs.Machine.{can_update, update}
use Rattle.fin_run.specs.Ends.{evaluated}
use Rattle.fin_run.specs.States.{machine}
use Rattle.fin_run.proofs.Steps.{update_asks, update_does, points_of, same_points}
use Rattle.fin_run.proofs.statements.update.Goals as goal

pub coordinates-requires : goal.coordinates-requires
coordinates-requires c =
    let zs : List ℤ = map (evaluated c.args.inputs.now c.args.state.now) c.args.at.now in
    let q = update_asks c.args.inputs.now c.args.state.now c.requires.0 c.args.tensor zs c.args.by (evaluated c.args.inputs.now c.args.state.now c.args.e.now) c.requires.1 in
    (q.0, points_of zs q.0 q.2)

pub put_at-requires : goal.put_at-requires
put_at-requires c =
    let zs : List ℤ = map (evaluated c.args.inputs.now c.args.state.now) c.args.at.now in
    let q = update_asks c.args.inputs.now c.args.state.now c.requires.0 c.args.tensor zs c.args.by (evaluated c.args.inputs.now c.args.state.now c.args.e.now) c.requires.1 in
    (q.1, q.3, ap (can_update q.1) (c.as_slice.ensures ∙ same_points c.in_ok-coords.coords q.0 zs c.in_ok-coords.ensures q.2) ∙ q.4)

pub returns : goal.returns
returns c = λ budget within.
    let zs : List ℤ = map (evaluated c.args.inputs.now c.args.state.now) c.args.at.now in
    let q = update_asks c.args.inputs.now c.args.state.now c.requires.0 c.args.tensor zs c.args.by (evaluated c.args.inputs.now c.args.state.now c.args.e.now) c.requires.1 in
    let same : c.as_slice.result.now ≡ q.0 = c.as_slice.ensures ∙ same_points c.in_ok-coords.coords q.0 zs c.in_ok-coords.ensures q.2 in (
      λ n. update_does c.args.inputs.now c.args.state.now n c.put_at.new.tensors.items c.args.tensor zs c.as_slice.result.now (record { by = c.args.by; value = rt c.evaluate.result }) q.1
          (ap (map pos) c.as_slice.ensures ∙ c.in_ok-coords.ensures) q.3 (ap (can_update q.1) same ∙ q.4) (c.in_ok-put_at.ensures q.1 q.3)
          ∙ ap (λ v. update c.args.tensor zs c.args.by v (machine c.args.inputs.now c.args.state.now n)) (to_z-of_z w64 c.evaluate.result (record { sfits = c.evaluate.type_inv }) ∙ c.evaluate.ensures),
      within,
    )
