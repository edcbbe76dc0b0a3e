use Rattle.std.proofs.Common.{◌≡◌, drop}
use Rattle.fin_life.specs.Passage.{breach_in, after_all, passages_of}
use Rattle.fin_life.specs.Table.{mode_in}
use Rattle.fin_life.proofs.life.+life.Given as goal

abbrev pub invariant-first_breach-loop-statement : goal.invariant-first_breach-loop-statement
invariant-first_breach-loop-statement l = record {
  breach : breach_in (passages_of l.headers (drop l.statement-index l.body)) (mode_in l.begin) (mode_in l.now) ≡ breach_in (passages_of l.headers l.body) (mode_in l.begin) (mode_in l.fn.now);
  after : after_all (passages_of l.headers (drop l.statement-index l.body)) (mode_in l.now) ≡ after_all (passages_of l.headers l.body) (mode_in l.fn.now);
}
