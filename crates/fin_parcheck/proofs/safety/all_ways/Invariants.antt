use Rattle.std.proofs.Common.{◌≡◌, drop, take, map}
use Rattle.fin_ast.specs.Sizes.{first_of}
use Rattle.fin_parcheck.specs.Safety.{loop_breach, loop_ways}
use Rattle.fin_parcheck.proofs.safety.all_ways.Given as goal

abbrev pub invariant-loop-parallel : goal.invariant-loop-parallel
invariant-loop-parallel l = record {
  kept : first_of (loop_breach l.headers) (drop l.parallel-index l.loops) ≡ first_of (loop_breach l.headers) l.loops;
  ways : l.ways ≡ map (loop_ways l.headers) (take l.parallel-index l.loops);
}
