use Rattle.std.proofs.Common.{◌≡◌, take}
use Rattle.fin_lex.specs.Piece.{value_of}
use Rattle.fin_lex.proofs.piece.decimal.Given as goal

abbrev pub invariant-loop-digit : goal.invariant-loop-digit
invariant-loop-digit l = l.value ≡ value_of (take l.digit-index l.digits)
