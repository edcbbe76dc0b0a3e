use Rattle.std.proofs.Common.{◌≡◌, ◌++◌, take, drop, length}
use Rattle.fin_ir.specs.Declares.{declares}
use Rattle.fin_run.specs.Chunks.{forget_held}
use Rattle.fin_run.proofs.chunks.forget.Given as goal

abbrev pub invariant-loop-t : goal.invariant-loop-t
invariant-loop-t l = record {
  long : length l.tensors.items ≡ length l.initial.tensors.items;
  done : take l.t l.tensors.items ++ forget_held (declares l.body) l.t (drop l.t l.tensors.items) ≡ forget_held (declares l.body) 0 l.initial.tensors.items;
}
