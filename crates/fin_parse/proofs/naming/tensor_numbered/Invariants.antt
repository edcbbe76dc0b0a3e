use Rattle.std.proofs.Common.{◌≡◌, drop}
use Rattle.fin_parse.specs.Elaboration.{tensor_from}
use Rattle.fin_parse.proofs.naming.tensor_numbered.Given as goal

abbrev pub invariant-loop-tensor : goal.invariant-loop-tensor
invariant-loop-tensor l = record {
  at : l.number ≡ l.tensor-index;
  rest : tensor_from l.number l.text (drop l.tensor-index l.tensors) l.name ≡ tensor_from 0 l.text l.tensors l.name;
}
