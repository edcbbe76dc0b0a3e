use Rattle.std.proofs.Common.{◌≡◌, drop}
use Rattle.fin_parse.specs.Names.{tensor_named}
use Rattle.fin_parse.proofs.names.tensor_named.Given as goal

abbrev pub invariant-loop-tensor : goal.invariant-loop-tensor
invariant-loop-tensor l = tensor_named l.text (drop l.tensor-index l.tensors) l.name ≡ tensor_named l.text l.tensors l.name
