use Rattle.std.proofs.Common.{sym, subst}
use Rattle.fin_tensor.specs.Lines.{IsShape}
use Rattle.fin_dense.specs.Runs.{setting_in}
use Rattle.fin_dense.proofs.Fitting.{shaped, shaped_at}
use Rattle.fin_dense.proofs.outputs.output.Goals as goal

pub store_grid-requires-clause-shape : goal.store_grid-requires-clause-shape
store_grid-requires-clause-shape c = shaped (setting_in c.args.setting.now) c.args.made.now c.args.tensor c.args.header.now c.in-Some.grid.now c.requires.headers c.args.setting.now.checked.now.fits.shapes c.requires.header c.in-Some.ensures

pub store_fill-requires-clause-shape : goal.store_fill-requires-clause-shape
store_fill-requires-clause-shape c =
    subst (IsShape c.args.header.now.format.levels) (sym c.in_ok-shape-in-None.ensures) (shaped_at _ _ c.args.tensor c.args.header.now c.args.setting.now.checked.now.fits.shapes c.requires.header).shape_is
