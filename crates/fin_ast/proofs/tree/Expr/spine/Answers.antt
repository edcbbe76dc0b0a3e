use Rattle.fin_ast.proofs.Spines.{goes_down}
use Rattle.fin_ast.proofs.tree.Expr.spine.Goals as goal

pub loop-at-preserved : goal.loop-at-preserved
loop-at-preserved c =
    goes_down c.args.self.now c.loop-at.at.now c.in-Two.left c.in-Two.right c.get-at.result.now c.in-Two.op c.loop-at.sides.items c.push.new.self.items c.get-in-Two.result
    c.loop-at.invariant c.in-Two.is c.get-in-Two.ensures c.get-at.ensures c.in_ok-push-in-Two.ensures.items
