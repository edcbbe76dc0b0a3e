use Rattle.std.proofs.Common.{◌≡◌, ◌<◌, drop}
use Rattle.fin_tensor.specs.Levels.{fibres, value_from}
use Rattle.fin_tensor.proofs.storage.Storage.value.Given as goal

abbrev pub invariant-loop-level : goal.invariant-loop-level
invariant-loop-level l = record {
  pos : l.pos < fibres l.self.shape l.self.parts 1 l.level;
  rest : value_from (drop l.level l.self.shape) (drop l.level l.self.parts) l.self.val l.self.format.fill l.pos (drop l.level l.coords) ≡ value_from l.self.shape l.self.parts l.self.val l.self.format.fill 0 l.coords;
}
