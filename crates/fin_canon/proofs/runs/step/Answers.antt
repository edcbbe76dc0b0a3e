use Rattle.fin_canon.proofs.Running.{step_out, step_gap, step_entry}
use Rattle.fin_canon.proofs.runs.step.Goals as goal

pub returns-else-at-from : goal.returns-else-at-from
returns-else-at-from c fill = step_gap c.args.entries.now fill c.args.depth c.args.extent c.args.slice.from c.args.slice.to c.args.from c.requires.fits c.requires.split c.requires.within c.head-at.result c.if-entry-slice.false c.head-at.ensures c.if-at-from.false

pub returns-then-at-from : goal.returns-then-at-from
returns-then-at-from c fill = step_entry c.args.entries.now fill c.args.depth c.args.extent c.args.slice.from c.args.slice.to c.args.from c.requires.fits c.requires.split c.requires.within c.requires.strict c.head-at.result c.if-entry-slice.false c.head-at.ensures c.if-at-from.true

pub returns-then-entry-slice : goal.returns-then-entry-slice
returns-then-entry-slice c fill = step_out c.args.entries.now fill c.args.depth c.args.extent c.args.slice.from c.args.slice.to c.args.from c.requires.fits c.requires.split c.requires.within c.if-entry-slice.true
