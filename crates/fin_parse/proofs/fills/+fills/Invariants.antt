use Rattle.std.proofs.Common.{◌≡◌, map, drop}
use Rattle.fin_parse.specs.Leaves.{leaves_of, fills_of}
use Rattle.fin_parse.specs.Names.{first_of}
use Rattle.fin_parse.proofs.fills.+fills.Given as goal

abbrev pub invariant-check_fills-loop-part : goal.invariant-check_fills-loop-part
invariant-check_fills-loop-part l = first_of (fills_of (drop l.part-index (map leaves_of l.parts)) l.text l.known) ≡ first_of (fills_of (map leaves_of l.parts) l.text l.known)
