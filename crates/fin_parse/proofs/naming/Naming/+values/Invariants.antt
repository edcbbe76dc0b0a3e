use Rattle.std.proofs.Common.{◌≡◌, map, drop}
use Rattle.fin_parse.specs.Elaboration.{elaboration_of, onto_all, naming_of}
use Rattle.fin_parse.proofs.naming.Naming.+values.Given as goal

abbrev pub invariant-onto_all-loop-part : goal.invariant-onto_all-loop-part
invariant-onto_all-loop-part l =
    onto_all l.self.text.now (map (elaboration_of l.self.text.now) (drop l.part-index l.parts)) (naming_of l.self.tensors.now l.self.bound.now) l.whole
    ≡ onto_all l.self.text.now (map (elaboration_of l.self.text.now) l.parts) (naming_of l.self.tensors.now l.self.bound.now) l.fn.left
