use Rattle.std.proofs.Common.{◌≡◌, ◌++◌, map, take}
use Rattle.fin_parse.specs.Leaves.{all_of, leaves_of}
use Rattle.fin_parse.proofs.heads.+collects.Given as goal

abbrev pub invariant-collect_all-loop-part : goal.invariant-collect_all-loop-part
invariant-collect_all-loop-part l = l.tokens.items ≡ l.fn.tokens.items ++ all_of (map leaves_of (take l.part-index l.parts))
