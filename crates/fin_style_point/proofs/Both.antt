-- What every lawful sense has, in both senses.
use Rattle.fin_nest.specs.Senses.{runs, turns}
use Rattle.fin_nest.proofs.Senses.{runs_lawful, turns_lawful}
use Rattle.fin_style_point.specs.Laws.{SpikesSplit, ShiftsSplit, SwitchesSplit, LoopsSplit, FixedIsAtOnce, NothingIsSkipped}
use Rattle.fin_style_point.proofs.Spikes.{spike_splits}
use Rattle.fin_style_point.proofs.Shifts.{shift_splits}
use Rattle.fin_style_point.proofs.Switches.{switch_splits}
use Rattle.fin_style_point.proofs.Points.{points_split}
use Rattle.fin_style_point.proofs.Times.{times_means}
use Rattle.fin_style_point.proofs.Nothing.{nothing_means}

pub spikes_split : SpikesSplit
spikes_split s layout = (spike_splits layout (runs s), spike_splits layout (turns s))

pub shifts_split : ShiftsSplit
shifts_split s layout = (shift_splits layout (runs s), shift_splits layout (turns s))

pub switches_split : SwitchesSplit
switches_split s layout = (switch_splits layout (runs s) (runs_lawful s), switch_splits layout (turns s) (turns_lawful s))

pub loops_split : LoopsSplit
loops_split s layout = (points_split layout (runs s) (runs_lawful s), points_split layout (turns s) (turns_lawful s))

pub fixed_is_at_once : FixedIsAtOnce
fixed_is_at_once s layout = (times_means layout (runs s), times_means layout (turns s))

pub nothing_is_skipped : NothingIsSkipped
nothing_is_skipped s layout = (nothing_means layout (runs s) (runs_lawful s), nothing_means layout (turns s) (turns_lawful s))
