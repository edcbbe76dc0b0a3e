use Rattle.std.proofs.Common.{◌≡◌, ◌+◌, ◌++◌, map, drop}
use Rattle.fin_parse.specs.Elaboration.{elaboration_of, stmts_in, binders_in, naming_of}
use Rattle.fin_parse.proofs.naming.Naming.+statements.Given as goal

abbrev pub invariant-statements_in-loop-part : goal.invariant-statements_in-loop-part
invariant-statements_in-loop-part l = record {
  count : l.number + binders_in l.self.text.now (map (elaboration_of l.self.text.now) (drop l.part-index l.parts)) ≡ l.fn.next + binders_in l.self.text.now (map (elaboration_of l.self.text.now) l.parts);
  rest : l.into ++ stmts_in l.self.text.now (map (elaboration_of l.self.text.now) (drop l.part-index l.parts)) (naming_of l.self.tensors.now l.self.bound.now) l.number
      ≡ l.fn.into ++ stmts_in l.self.text.now (map (elaboration_of l.self.text.now) l.parts) (naming_of l.self.tensors.now l.self.bound.now) l.fn.next;
}
