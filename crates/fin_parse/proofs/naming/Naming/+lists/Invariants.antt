use Rattle.std.proofs.Common.{◌≡◌, ◌++◌, map, take}
use Rattle.fin_parse.specs.Elaboration.{elaboration_of, indices_in, naming_of}
use Rattle.fin_parse.proofs.naming.Naming.+lists.Given as goal

abbrev pub invariant-indices_in-loop-part : goal.invariant-indices_in-loop-part
invariant-indices_in-loop-part l = l.into ≡ l.fn.into ++ indices_in l.self.text.now (map (elaboration_of l.self.text.now) (take l.part-index l.parts)) (naming_of l.self.tensors.now l.self.bound.now)
