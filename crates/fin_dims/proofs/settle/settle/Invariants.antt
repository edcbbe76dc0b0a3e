use Rattle.std.proofs.Common.{◌≡◌, [], length, take}
use Rattle.fin_ast.specs.Ties.{Shapes}
use Rattle.fin_dims.specs.Classes.{AreSettled, IsReady}
use Rattle.fin_dims.proofs.settle.settle.Given as goal

abbrev pub invariant-loop-k : goal.invariant-loop-k
invariant-loop-k l = record {
  ready : IsReady l.classes;
  dimensions : length l.classes.labels.items ≡ length l.fn.classes.labels.items;
  variables : length l.classes.anchors.items ≡ length l.fn.classes.anchors.items;
  settled : (shapes : Shapes) → AreSettled shapes [] l.fn.classes → AreSettled shapes (take l.k l.ties) l.classes;
}
