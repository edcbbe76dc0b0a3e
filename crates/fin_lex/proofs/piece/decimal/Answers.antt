use Rattle.std.proofs.Common.{◌<◌, arith, take}
use Rattle.fin_lex.specs.Piece.{value_of}
use Rattle.fin_lex.proofs.Values.{too_big, not_small}
use Rattle.fin_lex.proofs.piece.decimal.Goals as goal

pub returns-then-value-gt922337203685477580 : goal.returns-then-value-gt922337203685477580
returns-then-value-gt922337203685477580 c =
    let big : 922337203685477580 < value_of (take c.loop-digit.digit-index c.args.digits.now) = omega arith in
    not_small (value_of c.args.digits.now) (too_big c.args.digits.now c.loop-digit.digit-index (omega arith) big)
