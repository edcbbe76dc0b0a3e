use Rattle.std.proofs.Common.{◌∙◌, ap}
use Rattle.std.specs.Option.{option_map_or}
use Rattle.std.specs.Str.Parse.{ExplainsUnsignedError, HasUnsignedDigitsIfOk, ParsesUnsigned, digits_value, without_leading_plus}
use Rattle.clap.specs.Words.{found_of, one_text}
use Rattle.clap.proofs.WalkLemmas.{one_text-rows}
use Rattle.fin_words.proofs.TypedReads.{reads_number}
use Rattle.fin_words.proofs.words.number.Goals as goal

pub returns-clause-value : goal.returns-clause-value
returns-clause-value c =
    let found = found_of c.args.matches.now in
    c.unwrap_or.ensures
    ∙ reads_number _ (λ bs r. ParsesUnsigned 64 10 bs r × ExplainsUnsignedError 10 bs r × HasUnsignedDigitsIfOk bs r) c.args.low c.args.high c.args.default
    (one_text found c.args.name.now) c.get_one.result (λ u x g. g.0) c.get_one.ensures.none c.get_one.ensures.value c.requires.passed
    ∙ ap (λ o. option_map_or (λ text. digits_value 10 (without_leading_plus text)) o c.args.default) (one_text-rows found c.args.name.now)
