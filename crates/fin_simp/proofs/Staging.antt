-- What simplification promises of the run by stages.
use Rattle.std.proofs.Common.{◌≡◌, true, ◌&&◌, List, refl, sym, ◌∙◌}
use Rattle.fin_ast.specs.declared.tree.Stmt.{Stmt}
use Rattle.fin_ast.specs.Value.{Numbers}
use Rattle.fin_ast.specs.Dense.{Setting, run_all}
use Rattle.fin_stage.specs.Staged.{Run, stage_all, regular}
use Rattle.fin_stage.proofs.Alive.{left, right}
use Rattle.fin_stage.proofs.Simulating.{Good}
use Rattle.fin_stage.proofs.Simulated.{statements_simulate}
use Rattle.fin_simp.specs.Simplified.{simplified_all}
use Rattle.fin_simp.specs.Laws.{made_in, state_of, SimplifiedStagesTheSame, NothingStagesNothing}
use Rattle.fin_simp.proofs.Promises.{means_the_same, makes_nothing}

good : (r : Run) → regular r ≡ true → Good r
good r e =
    let two = left (r.alive && r.small) r.ordered e in
    record { alive = left r.alive r.small two; small = right r.alive r.small two; ordered = right (r.alive && r.small) r.ordered e }

-- a regular run by stages makes what dense evaluation makes
makes_dense : (w : Setting) (body : List Stmt) (vars : Numbers) (r : Run) → regular (stage_all w body vars r) ≡ true → (run_all w body vars (state_of r)).made ≡ made_in (stage_all w body vars r)
makes_dense w body vars r e = (statements_simulate w body vars).same r (state_of r) refl (good (stage_all w body vars r) e)

pub stages_the_same : SimplifiedStagesTheSame
stages_the_same w body h m vars r q e f = sym (makes_dense w (simplified_all body h m) vars r f) ∙ means_the_same w body h m vars (state_of r) q ∙ makes_dense w body vars r e

pub stages_nothing : NothingStagesNothing
stages_nothing w body h m vars r q e none = sym (makes_dense w body vars r e) ∙ makes_nothing w body h m vars (state_of r) q none
