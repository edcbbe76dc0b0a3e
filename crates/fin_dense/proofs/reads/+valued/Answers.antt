use Rattle.std.proofs.Common.{rules, ◌≡◌, ◌∙◌, ap, sym, arith, ℤ, w64, FitsSigned}
use Rattle.std.proofs.lemmas.Int.{to_z-of_z}
use Rattle.fin_base.specs.Words.{operate}
use Rattle.fin_ast.specs.Value.{value_of}
use Rattle.fin_ast.proofs.Values.{value_two}
use Rattle.fin_ast.proofs.Spines.{side_is_smaller, goes_up}
use Rattle.fin_dense.specs.Runs.{seen_in}
use Rattle.fin_dense.proofs.reads.+valued.Goals as goal

pub value_along-value-requires : goal.value_along-value-requires
value_along-value-requires t c =
    let less = side_is_smaller c.args.expr.now c.loop-op.sides.items c.pop.new.self.items c.in-Some.op c.in-Some.right _ c.loop-op.invariant c.in-Some.ensures.items in
    (omega (arith, c.decreases, less), tt)

pub value_along-loop-op-preserved : goal.value_along-loop-op-preserved
value_along-loop-op-preserved t c =
    let vars = c.args.run.now.vars.items in
    let ts = seen_in c.args.setting.now c.args.run.now in
    let right = c.in-Some.right.now in
    let fits : FitsSigned w64 c.in_ok-right.right = search rules in
    let both : FitsSigned w64 c.operate-value.result = search rules in
    goes_up c.args.expr.now c.loop-op.sides.items c.pop.new.self.items c.in-Some.op c.in-Some.right _ _
    c.loop-op.invariant c.in-Some.ensures.items
    (λ x h. to_z-of_z w64 c.operate-value.result both ∙ c.operate-value.ensures ∙ ap (operate c.in-Some.op _) (to_z-of_z w64 c.in_ok-right.right fits ∙ c.in_ok-right.ensures) ∙ ap (λ (z : ℤ). operate c.in-Some.op z (value_of right vars ts)) h ∙ sym (value_two vars ts c.in-Some.op x right))
