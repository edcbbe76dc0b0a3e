use Rattle.std.proofs.Common.{◌∙◌, sym}
use Rattle.fin_text.proofs.Listed.{found}
use Rattle.fin_text.proofs.names.is_listed.Goals as goal

pub returns : goal.returns
returns c =
    let d = found c.args.words.now c.args.word.now in
    (λ e. d.0 (sym c.contains.ensures.value ∙ e), λ h. c.contains.ensures.value ∙ d.1 h)
