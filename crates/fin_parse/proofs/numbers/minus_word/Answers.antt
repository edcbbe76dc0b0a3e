use Rattle.std.proofs.Common.{◌∙◌, ap, arith, w64, ℤ, neg_ℤ, FitsSigned}
use Rattle.std.specs.Int.{int_wrap, int_wrapping_neg}
use Rattle.std.proofs.lemmas.Int.{to_z-of_z, wrapping_neg_is}
use Rattle.fin_parse.proofs.Words.{word_of_negation}
use Rattle.fin_parse.proofs.numbers.minus_word.Goals as goal

pub returns : goal.returns
returns c =
    let f : FitsSigned w64 c.cast_signed.result = record { sfits = c.cast_signed.type_inv } in
    let g : FitsSigned w64 c.wrapping_neg.result = record { sfits = c.wrapping_neg.type_inv } in
    record {
      value = to_z-of_z w64 c.wrapping_neg.result g ∙ c.wrapping_neg.ensures
          ∙ ap (int_wrapping_neg w64) (to_z-of_z w64 c.cast_signed.result f)
          ∙ wrapping_neg_is w64 c.cast_signed.result f
          ∙ ap (λ (z : ℤ). int_wrap w64 (neg_ℤ z)) c.cast_signed.ensures
          ∙ word_of_negation c.args.n (omega arith);
    }
