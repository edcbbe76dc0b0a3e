-- The entry of a loop as it is made for its variable and what remains of its body: the steps before its nest, the looplets
-- of the nest, and the locals that both take.
use Rattle.std.specs.Prelude.{ℕ, ◌+◌, ◌*◌, not, nat_lt, if◌then◌else◌, List, [], ◌∷◌, ◌++◌, length, slice_index_or, pos, Option, Some, None}
use Rattle.std.specs.List.{filter_map}
use Rattle.fin_tensor.specs.declared.format.Level.TheVariants as level
use Rattle.fin_ast.specs.declared.tree.Index.{Index}
use Rattle.fin_ir.specs.declared.expression.IExpr.{IExpr}
use Rattle.fin_ir.specs.declared.expression.IExpr.TheVariants.{Num}
use Rattle.fin_looplet.specs.declared.looplet.Leaf.TheVariants.{Value}
use Rattle.fin_looplet.specs.declared.looplet.Looplet.{Looplet}
use Rattle.fin_looplet.specs.declared.looplet.Looplet.TheVariants as looplet
use Rattle.fin_read.specs.Steps.{Step}
use Rattle.fin_read.specs.Values.{Heads, format_of, shape_of, value_code}
use Rattle.fin_simp.specs.Rest.{Access, Test, Rest}
use Rattle.fin_simp.specs.Sights.{driven_index}
use Rattle.fin_simp.specs.Work.{is_in}
use Rattle.fin_drive.specs.declared.reading.Reading.{Reading}
use Rattle.fin_drive.specs.Looplets.{back, driven_looplet, mask_looplet}
use Rattle.fin_enter.specs.Charges.{length_code}
use Rattle.fin_enter.specs.Positions.{spot_at}
use Rattle.fin_enter.specs.Together.{Around, settled_index, behind_place, all_positions, behind_all}
use Rattle.fin_enter.specs.Masked.{Tested, tested_among, bound_steps, behind_bounds}

-- ---- looplets

abbrev pub reading_with : Around → Access → ℕ × Index → ℕ → List ℕ → Reading
reading_with l a d cursor shape = record {
  var = l.var;
  index = d.1;
  tensor = a.tensor;
  level = d.0;
  extent = slice_index_or shape d.0 0;
  settled = not (is_in l.changed a.tensor);
  cursor = cursor;
}

abbrev pub shape_in : Around → Access → List ℕ
shape_in l a = shape_of l.heads a.tensor

abbrev pub driven_with : Around → Access → ℕ × Index → ℕ → ℕ → List ℕ → Looplet
driven_with l a d at cursor shape = let r = reading_with l a d cursor shape in driven_looplet (format_of l.heads a.tensor) r (spot_at d.0 at (back r))

-- what its leaf says is never asked
abbrev pub waiting : Looplet
waiting = looplet.Run (Value (Num (pos 0)))

-- a read that the loop doesn't drive waits; so would one with more indices than its tensor has levels
abbrev pub read_looplet : Around → Access → Option (ℕ × Index) → ℕ → ℕ → Looplet
read_looplet l a None at cursor = waiting
read_looplet l a (Some d) at cursor =
    if nat_lt d.0 (length (format_of l.heads a.tensor).levels) then driven_with l a d at cursor (shape_in l a) else waiting

-- each driven read has two locals of its own
abbrev pub behind_cursor : Option (ℕ × Index) → ℕ → ℕ
behind_cursor None cursor = cursor
behind_cursor (Some d) cursor = cursor + 2

abbrev pub read_looplets : Around → List Access → ℕ → ℕ → List Looplet
read_looplets l [] at cursor = []
read_looplets l (a ∷ reads) at cursor =
    read_looplet l a (driven_index l.var a.at) at cursor ∷ read_looplets l reads (behind_place (settled_index l a) at) (behind_cursor (driven_index l.var a.at) cursor)

abbrev pub behind_cursors : Around → List Access → ℕ → ℕ
behind_cursors l [] cursor = cursor
behind_cursors l (a ∷ reads) cursor = behind_cursors l reads (behind_cursor (driven_index l.var a.at) cursor)

abbrev pub mask_looplets : Heads → List Tested → ℕ → List Looplet
mask_looplets h [] next = []
mask_looplets h (t ∷ ts) next = mask_looplet t.op t.bare_first (value_code h t.bound next).value ∷ mask_looplets h ts (value_code h t.bound next).next

-- ---- all, from a first free local on: positions, bounds, and the locals of looplets

abbrev pub bounds_by : Around → List Access → ℕ → ℕ
bounds_by l reads next = behind_all l reads next + 1

abbrev pub cursors_by : Around → List Access → List Test → ℕ → ℕ
cursors_by l reads tests next = behind_bounds l.heads (tested_among l.var tests) (bounds_by l reads next) + 1

abbrev pub behind_by : Around → List Access → List Test → ℕ → ℕ
behind_by l reads tests next = behind_cursors l reads (cursors_by l reads tests next)

abbrev pub steps_by : Around → List Access → List Test → ℕ → List Step
steps_by l reads tests next = all_positions l reads next ++ bound_steps l.heads (tested_among l.var tests) (bounds_by l reads next)

abbrev pub looplets_by : Around → List Access → List Test → ℕ → List Looplet
looplets_by l reads tests next = read_looplets l reads next (cursors_by l reads tests next) ++ mask_looplets l.heads (tested_among l.var tests) (bounds_by l reads next)

-- ---- the charge

-- the stored lengths of the driven reads whose positions are in locals
abbrev pub and_length : Around → Access → Option (ℕ × Index) → ℕ → List IExpr → List IExpr
and_length l a None at lengths = lengths
and_length l a (Some d) at lengths = length_code (slice_index_or (format_of l.heads a.tensor).levels d.0 level.Dense) a.tensor d.0 at ∷ lengths

abbrev pub lengths_by : Around → List Access → ℕ → List IExpr
lengths_by l [] at = []
lengths_by l (a ∷ reads) at = and_length l a (settled_index l a) at (lengths_by l reads (behind_place (settled_index l a) at))

-- what is known where the code is made: the loop, its driven reads and masks, and so many chunks
abbrev pub driven_count : ℕ → List Access → ℕ
driven_count var reads = length (filter_map (λ (a : Access). driven_index var a.at) reads)

abbrev pub known_by : Around → Rest → ℕ → ℕ
known_by l rest chunks = 1 + 2 * (driven_count l.var rest.reads + length (tested_among l.var rest.tests)) + chunks
