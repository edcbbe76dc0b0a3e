use Rattle.std.proofs.Common.{◌≡◌, ◌≤◌, ◌+◌, drop}
use Rattle.fin_ast.specs.Depth.{depth_of_all}
use Rattle.fin_life.specs.Loops.{loops_in}
use Rattle.fin_life.specs.Tracks.{tracks_in}
use Rattle.fin_life.specs.Trails.{breach_along, after_all, trails_of}
use Rattle.fin_life.proofs.order.+order.Given as goal

abbrev pub invariant-first_breach-loop-statement : goal.invariant-first_breach-loop-statement
invariant-first_breach-loop-statement l = record {
  depth : depth_of_all (drop l.statement-index l.body) + l.loops.count ≤ 16;
  breach : breach_along (trails_of l.headers (drop l.statement-index l.body)) (loops_in l.loops) (tracks_in l.tracks) ≡ breach_along (trails_of l.headers l.body) (loops_in l.loops) (tracks_in l.fn.tracks);
  after : after_all (trails_of l.headers (drop l.statement-index l.body)) (loops_in l.loops) (tracks_in l.tracks) ≡ after_all (trails_of l.headers l.body) (loops_in l.loops) (tracks_in l.fn.tracks);
}
