use Rattle.std.proofs.Common.{◌≡◌, ◌≤◌, drop, ◌↔◌}
use Rattle.std.specs.Str.Parse.{AllDigits, digits_value, digits_value_after}
use Rattle.fin_text.proofs.numbers.decimal_up_to.Given as goal

abbrev pub invariant-loop-byte : goal.invariant-loop-byte
invariant-loop-byte l = record {
  value : digits_value_after 10 l.value (drop l.byte-index l.digits) ≡ digits_value 10 l.digits;
  digits : AllDigits 10 l.digits ↔ AllDigits 10 (drop l.byte-index l.digits);
  small : l.value ≤ l.most;
}
