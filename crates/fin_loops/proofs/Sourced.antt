-- The codes of a loop's entry enter it wherever it stands: behind them the nest is made for the whole loop.
use Rattle.std.proofs.Common.{false, refl}
use Rattle.fin_ir.specs.Machine.{seen}
use Rattle.fin_nest.specs.Senses.{Behind}
use Rattle.fin_simp.specs.Moving.{worked_all}
use Rattle.fin_drive.proofs.Offsets.{distances_mean}
use Rattle.fin_perform.specs.Layouts.{start_with}
use Rattle.fin_perform.proofs.Evaluating.{living}
use Rattle.fin_enter.proofs.Entrances.{entrances_are_made}
use Rattle.fin_loops.specs.Entering.{world_at, nest_at, Enters}
use Rattle.fin_loops.specs.Sourced.{EntriesEnter}
use Rattle.fin_loops.proofs.Entries.{entrance, left_there, behind_codes}
use Rattle.fin_loops.proofs.Turning.{can_enter, loop_advances}

pub entries_enter : EntriesEnter
entries_enter l range line last next need top sourced numbered is whole can q le at r m ready stands fine =
    let w = world_at l q in
    let body = worked_all w l.body l.here in
    let start = start_with l.checked q.room q.inputs in
    let nest = nest_at l top q in
    let behind : Behind start r m = stands ((loop_advances l range false line last can.some q r).before fine) in
    let live = living start behind.run m ready.live behind.related in
    let able = can_enter l range false line last can.some q r fine in
    let made = entrance l range false line last next need sourced numbered can.room q le at r behind.run m ready behind.trails live able can.ordered nest whole.lo whole.hi refl is.looplets in
    let left = left_there l range false line last next need sourced numbered can.room q le at r behind.run m ready behind.trails live able can.ordered nest whole.lo whole.hi refl is.looplets in
    behind_codes l range false line last next need sourced numbered can.room q le at r behind.run m ready behind.trails live able can.ordered nest whole.lo whole.hi refl is.looplets
    (Enters l q top r m)
    (λ paid. record {
      left = left;
      pays = paid;
      made = λ alive. entrances_are_made distances_mean w l.context l.var body q.vars r (seen m) _ nest made;
    })
