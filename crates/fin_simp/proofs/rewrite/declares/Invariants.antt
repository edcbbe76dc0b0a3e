use Rattle.std.proofs.Common.{◌≡◌, drop}
use Rattle.std.specs.List.{list_any}
use Rattle.fin_simp.specs.Simplified.{is_declaration}
use Rattle.fin_simp.proofs.rewrite.declares.Given as goal

abbrev pub invariant-loop-s : goal.invariant-loop-s
invariant-loop-s l = list_any is_declaration (drop l.s-index l.body) ≡ list_any is_declaration l.body
