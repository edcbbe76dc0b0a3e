use Rattle.std.proofs.Common.{◌≤◌, sym, subst, arith, take}
use Rattle.std.specs.Prelude.{All}
use Rattle.std.proofs.lemmas.List.{take_more, take_all}
use Rattle.std.proofs.lemmas.List.Elements.{All-push, All-weaker}
use Rattle.fin_ast.specs.declared.place.Tie.{Tie}
use Rattle.fin_dims.proofs.settle.most_dimension.Goals as goal

abbrev none : Tie
none = record { dimension = 0; var = 0; line = 0 }

pub loop-tie-preserved : goal.loop-tie-preserved
loop-tie-preserved c = record {
  least = omega (arith, c.max-most.ensures);
  all = subst (All (λ (t : Tie). t.dimension ≤ c.max-most.result)) (sym (take_more c.args.ties.now c.loop-tie.tie-index none c.loop-tie-test.true))
      (All-push (λ (t : Tie). t.dimension ≤ c.max-most.result) (take c.loop-tie.tie-index c.args.ties.now) _
      (All-weaker (λ (t : Tie). t.dimension ≤ c.loop-tie.most) (λ (t : Tie). t.dimension ≤ c.max-most.result) (λ t h. omega (arith, c.max-most.ensures)) (take c.loop-tie.tie-index c.args.ties.now) c.loop-tie.invariant.all)
      (omega (arith, c.max-most.ensures)));
}

pub returns-clause-all : goal.returns-clause-all
returns-clause-all c = subst (All (λ (t : Tie). t.dimension ≤ c.loop-tie.most)) (take_all c.loop-tie.tie-index c.args.ties.now (omega arith)) c.loop-tie.invariant.all
