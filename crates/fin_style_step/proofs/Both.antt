-- What every lawful sense has, in both senses.
use Rattle.fin_nest.specs.Senses.{runs, turns}
use Rattle.fin_nest.proofs.Senses.{runs_lawful, turns_lawful}
use Rattle.fin_style_step.specs.Laws.{SequencesSplit, SteppersSplit, JumpersSplit}
use Rattle.fin_style_step.specs.Splits.{PartsSplit}
use Rattle.fin_style_step.proofs.Sequences.{sequence_splits}
use Rattle.fin_style_step.proofs.Walkers.{stepper_splits, jumper_splits}
use Rattle.fin_style_step.proofs.Splitting.{parts_split as split}
use Rattle.fin_style_step.proofs.Kept.{parts_lighter, stay_separate, parts_body}

pub sequences_split : SequencesSplit
sequences_split s layout = (sequence_splits layout (runs s) (runs_lawful s), sequence_splits layout (turns s) (turns_lawful s))

pub steppers_split : SteppersSplit
steppers_split s layout = (stepper_splits layout (runs s) (runs_lawful s), stepper_splits layout (turns s) (turns_lawful s))

pub jumpers_split : JumpersSplit
jumpers_split s layout = (jumper_splits layout (runs s) (runs_lawful s), jumper_splits layout (turns s) (turns_lawful s))

pub parts_split : PartsSplit
parts_split n ours = record {
  split = λ s layout. (split layout (runs s) (runs_lawful s) n ours, split layout (turns s) (turns_lawful s) n ours);
  lighter = parts_lighter n ours;
  separate = stay_separate n ours;
  body = parts_body n ours;
}
