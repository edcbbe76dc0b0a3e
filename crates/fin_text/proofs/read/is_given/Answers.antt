use Rattle.std.proofs.Common.{sym, ◌∙◌}
use Rattle.fin_text.proofs.NewNames.{has_entry}
use Rattle.fin_text.proofs.read.is_given.Goals as goal

pub returns : goal.returns
returns c =
    let d = has_entry c.args.given.now.entries c.args.name.now in
    (λ h. d.0 (sym c.contains_key.ensures ∙ h), λ h. c.contains_key.ensures ∙ d.1 h)
