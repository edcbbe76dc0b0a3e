use Rattle.std.proofs.Common.{◌≡◌, ◌++◌, drop}
use Rattle.fin_ir.specs.declared.expression.IExpr.TheVariants.{Local}
use Rattle.fin_nest.specs.Entries.{looplets}
use Rattle.fin_style_point.specs.Steps.{coordinates, hold}
use Rattle.fin_style_point.proofs.codes.push_holds.Given as goal

abbrev pub invariant-loop-entry : goal.invariant-loop-entry
invariant-loop-entry l =
    l.codes ++ hold (coordinates (looplets (drop l.entry-index l.entries))) (Local l.local)
    ≡ l.initial.codes ++ hold (coordinates (looplets l.entries)) (Local l.local)
