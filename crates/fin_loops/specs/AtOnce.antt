-- A nest along which one update is left that names nothing of its loop, done at once.
use Rattle.std.specs.Prelude.{◌≡◌, ◌≤◌, ℕ, true, false, map, Some}
use Rattle.fin_ir.specs.declared.code.Code.{Code}
use Rattle.fin_read.specs.Values.{Heads, index_code, value_code, prelude, shape_of}
use Rattle.fin_style_point.specs.declared.changing.Change.{Change}
use Rattle.fin_style_point.specs.declared.nest.Nest.{Nest}
use Rattle.fin_style_point.specs.Changes.{at_once_code, is_bitwise}
use Rattle.fin_style_point.specs.Parts.{all_looplets}
use Rattle.fin_style_point.specs.Steps.{AllFlat}
use Rattle.fin_descend.specs.declared.lowered.Lowered.{Lowered}
use Rattle.fin_descend.specs.Promises.{MeansIn}
use Rattle.fin_perform.specs.Codes.{end_of}
use Rattle.fin_perform.specs.Layouts.{heads_in}
use Rattle.fin_perform.specs.Meanings.{body_deed}
use Rattle.fin_loops.specs.Loops.{Loop, slots, OfLoop}
use Rattle.fin_loops.specs.Only.{Written, update_names, IsOnly}
use Rattle.fin_loops.specs.Points.{AreSettled, marks_at_point, ChangesNoMore}
use Rattle.fin_loops.specs.Told.{is_fixed_along}

-- an update as a change, with the steps of its value before it, from a first free local on
abbrev pub change_of : Heads → ℕ → Written → Change
change_of h next u = let v = value_code h u.value next in record {
  before = prelude v;
  tensor = u.tensor;
  at = map index_code u.at;
  by = u.by;
  value = v.value;
}

abbrev pub once_code_of : Heads → Nest → Written → Code
once_code_of h n u = at_once_code n (shape_of h u.tensor) (change_of h n.next u)

-- Along runs and lookups it means the nest, where the update isn't bitwise: that asks for words in what is updated.
abbrev pub OnceMeans : Type 0
OnceMeans = (l : Loop) (n : Nest) (code : Lowered) (u : Written) → n.var ≡ l.var → AllFlat (all_looplets n)
    → AreSettled (slots l) (all_looplets n) → is_fixed_along l n ≡ true → ChangesNoMore l (marks_at_point l n)
    → IsOnly (body_deed l.body l.here (Some (marks_at_point l n))) u → update_names l.var u ≡ false
    → is_bitwise u.by ≡ false → code.code ≡ once_code_of (heads_in l.checked) n u
    → end_of (value_code (heads_in l.checked) u.value n.next) ≤ code.room → MeansIn (OfLoop l) code n
