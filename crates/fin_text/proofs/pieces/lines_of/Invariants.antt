use Rattle.std.proofs.Common.{◌≡◌, ◌++◌, take, map}
use Rattle.fin_text.specs.Pieces.{line_text}
use Rattle.fin_text.specs.Tensors.{first_lines, lines_of_parts}
use Rattle.fin_text.proofs.pieces.lines_of.Given as goal

abbrev pub invariant-loop-part : goal.invariant-loop-part
invariant-loop-part l = record {
  level : l.level ≡ l.part-index;
  lines : map line_text l.lines.items ≡ first_lines l.name l.storage ++ lines_of_parts 0 (take l.part-index l.storage.parts);
}
