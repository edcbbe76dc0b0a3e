use Rattle.std.proofs.Common.{◌+◌, arith}
use Rattle.fin_tensor.proofs.Fibres.{ptr_rises}
use Rattle.fin_tensor.proofs.lines.is_stop.Goals as goal

pub rises-requires-clause-within : goal.rises-requires-clause-within
rises-requires-clause-within c = omega (arith, ptr_rises c.args.fibres c.args.ptr.now c.requires.ptr (c.loop-p.p + 1) c.args.fibres (omega arith) (omega arith))

pub ends_at-requires : goal.ends_at-requires
ends_at-requires c = omega (arith, ptr_rises c.args.fibres c.args.ptr.now c.requires.ptr (c.loop-p.p + 1) c.args.fibres (omega arith) (omega arith))
