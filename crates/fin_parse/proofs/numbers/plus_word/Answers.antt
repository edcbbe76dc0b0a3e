use Rattle.std.proofs.Common.{◌∙◌, arith, w64, FitsSigned}
use Rattle.std.proofs.lemmas.Int.{to_z-of_z}
use Rattle.fin_parse.proofs.Words.{word_of_count}
use Rattle.fin_parse.proofs.numbers.plus_word.Goals as goal

pub returns : goal.returns
returns c =
    let f : FitsSigned w64 c.cast_signed.result = record { sfits = c.cast_signed.type_inv } in
    record { value = to_z-of_z w64 c.cast_signed.result f ∙ c.cast_signed.ensures ∙ word_of_count c.args.n (omega arith) }
