use Rattle.fin_text.specs.DueLines.{misformed, misspelled}
use Rattle.fin_text.proofs.Seconds.{no_fill}
use Rattle.fin_text.proofs.take.take_fill.Goals as goal

pub returns-in_default : goal.returns-in_default
returns-in_default c = misformed (λ h. h) c.in_default.ensures

pub returns-in_default-read_value : goal.returns-in_default-read_value
returns-in_default-read_value c = misspelled (λ h. h) (c.in-Some.word.now, c.in-Some.ensures.0, c.in-Some.ensures.1, c.in-Some.ensures.2) (no_fill _ _ c.in-Some.ensures.0 c.in_default-read_value.ensures)
