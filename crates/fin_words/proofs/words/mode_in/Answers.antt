use Rattle.std.proofs.Common.{◌∙◌, sym, ap, codes}
use Rattle.std.specs.Prelude.{option_and_then, option_map}
use Rattle.clap.specs.Words.{found_of}
use Rattle.clap.proofs.WalkLemmas.{first_value-rows}
use Rattle.fin_words.specs.Reading.{mode_of}
use Rattle.fin_words.proofs.words.mode_in.Goals as goal

pub returns-in-Some : goal.returns-in-Some
returns-in-Some c =
    let same = c.get_str.ensures ∙ first_value-rows (found_of c.args.matches.now) (codes "mode") in
    c.mode_of.ensures ∙ ap (option_and_then mode_of) (ap (option_map (λ s. s.now)) (sym c.in-Some.is) ∙ same)

pub returns-in-None : goal.returns-in-None
returns-in-None c =
    let same = c.get_str.ensures ∙ first_value-rows (found_of c.args.matches.now) (codes "mode") in
    ap (option_and_then mode_of) (ap (option_map (λ s. s.now)) (sym c.in-None.is) ∙ same)
