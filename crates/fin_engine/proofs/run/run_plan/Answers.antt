use Rattle.std.proofs.Common.{ap, refl}
use Rattle.std.specs.Prelude.{Err}
use Rattle.fin_engine.proofs.Running.{holds, is_regular, layout_is, over, within, work_is}
use Rattle.fin_engine.proofs.run.run_plan.Goals as goal

pub new-requires : goal.new-requires
new-requires c =
    let job = c.args.job.now in
    layout_is job.checked job.inputs c.args.plan.now c.requires.plan
    (c.accepted_is_lowered.ensures job.checked job.inputs c.args.plan.now c.requires.plan c.requires.accepted c.requires.inputs c.requires.wordy)

pub uncounted-requires-clause-regular : goal.uncounted-requires-clause-regular
uncounted-requires-clause-regular c =
    let job = c.args.job.now in
    is_regular job.checked job.inputs c.args.plan.now c.requires.plan
    (c.accepted_is_lowered.ensures job.checked job.inputs c.args.plan.now c.requires.plan c.requires.accepted c.requires.inputs c.requires.wordy)
    c.as_slice.result.now c.as_slice.ensures c.in_ok-state.state (c.in_ok-state.ensures.start c.as_slice.result.now)

pub returns-in-Ok-clause-held : goal.returns-in-Ok-clause-held
returns-in-Ok-clause-held c =
    let job = c.args.job.now in
    holds job.checked job.inputs c.args.plan.now c.requires.plan
    (c.accepted_is_lowered.ensures job.checked job.inputs c.args.plan.now c.requires.plan c.requires.accepted c.requires.inputs c.requires.wordy)
    c.as_slice.result.now c.as_slice.ensures c.in_ok-state.state (c.in_ok-state.ensures.start c.as_slice.result.now)
    c.uncounted.new.state c.in-Ok.ensures.leaves.0 c.in-Ok.ensures.leaves.1 c.requires.accepted c.requires.inputs

pub returns-in-Ok-clause-work : goal.returns-in-Ok-clause-work
returns-in-Ok-clause-work c =
    let job = c.args.job.now in
    work_is job.checked job.inputs c.args.plan.now c.requires.plan
    (c.accepted_is_lowered.ensures job.checked job.inputs c.args.plan.now c.requires.plan c.requires.accepted c.requires.inputs c.requires.wordy)
    c.as_slice.result.now c.as_slice.ensures c.in_ok-state.state (c.in_ok-state.ensures.start c.as_slice.result.now)
    c.uncounted.new.state c.in-Ok.ensures.leaves.0 c.in-Ok.ensures.leaves.1

pub returns-in-Ok-clause-within : goal.returns-in-Ok-clause-within
returns-in-Ok-clause-within c =
    let job = c.args.job.now in
    within job.checked job.inputs c.args.plan.now c.requires.plan
    (c.accepted_is_lowered.ensures job.checked job.inputs c.args.plan.now c.requires.plan c.requires.accepted c.requires.inputs c.requires.wordy)
    c.as_slice.result.now c.as_slice.ensures c.in_ok-state.state (c.in_ok-state.ensures.start c.as_slice.result.now)
    c.uncounted.new.state c.in-Ok.ensures.leaves.0 c.in-Ok.ensures.leaves.1 c.args.budget c.in-Ok.ensures.within

pub returns-in-Err-Spent-clause-spent : goal.returns-in-Err-Spent-clause-spent
returns-in-Err-Spent-clause-spent c =
    let job = c.args.job.now in (
      refl,
      over job.checked job.inputs c.args.plan.now c.requires.plan
          (c.accepted_is_lowered.ensures job.checked job.inputs c.args.plan.now c.requires.plan c.requires.accepted c.requires.inputs c.requires.wordy)
          c.as_slice.result.now c.as_slice.ensures c.in_ok-state.state (c.in_ok-state.ensures.start c.as_slice.result.now)
          c.args.budget (c.in-Err-Spent.ensures.spent (ap Err c.in-Err-Spent.field-0-is)),
    )
