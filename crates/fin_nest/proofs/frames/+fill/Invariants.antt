use Rattle.std.proofs.Common.{◌≡◌, ◌++◌, drop, map, reverse}
use Rattle.fin_nest.specs.Frames.{filling, fill_each}
use Rattle.fin_nest.proofs.frames.+fill.Given as goal

abbrev pub invariant-fill_each-loop-frame : goal.invariant-fill_each-loop-frame
invariant-fill_each-loop-frame l =
    let rest = fill_each (map filling (drop l.frame-index l.frames)) (reverse l.left) in
    fill_each (map filling l.frames) (reverse l.initial.left) ≡ (l.all ++ rest.0, rest.1)
