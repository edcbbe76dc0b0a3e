use Rattle.std.proofs.Common.{drop, ◌↔◌}
use Rattle.std.specs.Str.Parse.{AllDigits}
use Rattle.fin_text.proofs.forms.all_digits.Given as goal

abbrev pub invariant-loop-byte : goal.invariant-loop-byte
invariant-loop-byte l = AllDigits 10 l.word ↔ AllDigits 10 (drop l.byte-index l.word)
