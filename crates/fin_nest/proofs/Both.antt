-- What every lawful sense has, in both senses.
use Rattle.std.proofs.Common.{refl}
use Rattle.fin_ir.specs.declared.layout.Layout.{Layout}
use Rattle.fin_stage.specs.Staged.{worked}
use Rattle.fin_nest.specs.Nests.{Sense}
use Rattle.fin_nest.specs.Senses.{runs, turns}
use Rattle.fin_nest.specs.Both.{SensesAreLawful, ChargesAreWork, TurnsAreFree, RegionsFallApart, FoldsAreLoops, CutMachinesStand, CutStatementsStand, NothingIsPassedOver, Composes, StatementsCompose, StatementsLift, SkippedUpdatesStand, tally_worked, owe_one, BodiesMean}
use Rattle.fin_nest.specs.Performs.{body_code}
use Rattle.fin_nest.proofs.Bodies.{body_means, body_counted}
use Rattle.fin_nest.proofs.Folds.{over_cut, cut_stands}
use Rattle.fin_nest.proofs.Means.{counted_means}
use Rattle.fin_nest.proofs.Jumping.{jumpless}
use Rattle.fin_nest.proofs.Senses.{runs_lawful, runs_charging, turns_lawful, turns_owing, runs_over, turns_over}
use Rattle.fin_nest.proofs.Repeated.{loop_is}
use Rattle.fin_nest.proofs.Lifting.{trailing_performs, turning_performs, skip_behind, skip_before}
use Rattle.fin_nest.proofs.Statements.{performs_nothing, performs_then, performs_when, nest_performs}

pub senses_are_lawful : SensesAreLawful
senses_are_lawful s = (runs_lawful s, turns_lawful s)

pub charges_are_work : ChargesAreWork
charges_are_work s = (runs_charging s, turns_owing s)

pub turns_are_free : TurnsAreFree
turns_are_free s layout c n mean = counted_means layout (runs s) (runs_lawful s) (λ r. refl) c n mean

pub regions_fall_apart : RegionsFallApart
regions_fall_apart s = (over_cut (runs s).pay, over_cut (turns s).pay)

pub folds_are_loops : FoldsAreLoops
folds_are_loops = loop_is

pub cut_machines_stand : CutMachinesStand
cut_machines_stand s = (cut_stands (runs s) (runs_lawful s), cut_stands (turns s) (turns_lawful s))

pub cut_statements_stand : CutStatementsStand
cut_statements_stand s = record { in_values = runs_over s; in_turns = turns_over s }

pub nothing_is_passed_over : NothingIsPassedOver
nothing_is_passed_over s = (jumpless (runs s), jumpless (turns s))

composes : {S : Type 0} (layout : Layout) (sense : Sense S) → Composes layout sense
composes layout sense = record {
  nothing = performs_nothing layout sense;
  next = performs_then layout sense;
  when = performs_when layout sense;
  nest = nest_performs layout sense;
}

pub statements_compose : StatementsCompose
statements_compose s layout = (composes layout (runs s), composes layout (turns s))

pub statements_lift : StatementsLift
statements_lift s layout p cs f on monotone does = record {
  in_values = trailing_performs s layout p cs f on monotone does;
  in_turns = turning_performs s layout p cs f on monotone does;
}

pub skipped_updates_stand : SkippedUpdatesStand
skipped_updates_stand s t at by v = record {
  in_values = λ r m same h g. skip_behind s t at by v r m same g (h (skip_before s t at by v r g));
  in_turns = λ q m same h g. let k = h (skip_before s t at by v q.run g) in record { behind = skip_behind s t at by v q.run m same g k.behind; turns = k.turns };
}

pub bodies_mean : BodiesMean
bodies_mean s cs = record {
  in_values = λ n apart b.
      let means = body_means s.layout (runs s) (runs_lawful s) (worked 1) n apart cs b (runs_charging s) in
      (means, turns_are_free s s.layout (body_code n cs) n means);
  in_turns = λ n apart b commutes. body_counted s.layout (turns s) (turns_lawful s) tally_worked n apart cs b owe_one (turns_owing s) commutes;
}
