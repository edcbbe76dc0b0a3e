use Rattle.std.proofs.Common.{◌≡◌, map, drop}
use Rattle.fin_parse.specs.Names.{facts_of, scope_of, part_breaches, first_of}
use Rattle.fin_parse.proofs.breaches.+checks.Given as goal

abbrev pub invariant-check_parts-loop-part : goal.invariant-check_parts-loop-part
invariant-check_parts-loop-part l =
    first_of (part_breaches l.left (drop l.part-index (map (facts_of l.names.text.now) l.parts)) (scope_of l.names.tensors.now l.outer) (scope_of l.names.tensors.now l.inner))
    ≡ first_of (part_breaches l.fn.from (map (facts_of l.names.text.now) l.parts) (scope_of l.names.tensors.now l.outer) (scope_of l.names.tensors.now l.inner))
