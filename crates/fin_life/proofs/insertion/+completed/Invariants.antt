use Rattle.std.proofs.Common.{◌≡◌, drop, []}
use Rattle.fin_life.specs.Completing.{carried, completings_of}
use Rattle.fin_life.specs.Drafts.{carried_in}
use Rattle.fin_life.specs.Table.{mode_in}
use Rattle.fin_life.proofs.insertion.+completed.Given as goal

abbrev pub invariant-complete_all-loop-statement : goal.invariant-complete_all-loop-statement
invariant-complete_all-loop-statement l = carried l.headers (completings_of l.headers (drop l.statement-index l.body)) (carried_in l.draft) ≡ carried l.headers (completings_of l.headers l.body) (record { statements = []; modes = mode_in l.now })
