use Rattle.std.proofs.Common.{sym, subst, List, ℕ}
use Rattle.fin_build.specs.Entries.{Entry}
use Rattle.fin_build.specs.Shifts.{Lands}
use Rattle.fin_build.proofs.Writing.{land_at}
use Rattle.fin_build.proofs.rows.write.Goals as goal

pub write_one-requires-clause-lands : goal.write_one-requires-clause-lands
write_one-requires-clause-lands c =
    subst (λ (ns : List ℕ). Lands c.args.shift ns c.entry-item.result.0) (sym c.loop-entry.invariant.shape)
    (subst (λ (e : Entry). Lands c.args.shift c.args.function.now.shape e.0) (sym c.entry-item.is) (land_at c.args.shift c.args.function.now.shape c.args.entries.now c.loop-entry.entry-index c.entry-item.result c.loop-entry-test.true c.requires.land))
