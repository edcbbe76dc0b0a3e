-- What the expressions of a fibre come to where the fibre stands at a position.
use Rattle.std.proofs.Common.{◌≡◌, ℕ, ◌+◌, ◌-◌, ◌<◌, ◌≤◌, ◌^◌, List, length, ap, ◌∙◌, ℤ, pos, Some, None, arith, get_or-set_same}
use Rattle.std.specs.Prelude.{slice_index, slice_index_or, slice_set, Option, if◌then◌else◌}
use Rattle.fin_base.specs.declared.terms.Op.{Op}
use Rattle.fin_base.specs.declared.terms.Op.TheVariants as op
use Rattle.fin_base.specs.Words.{operate}
use Rattle.fin_tensor.specs.declared.part.Part.{Part}
use Rattle.fin_tensor.specs.Levels.{IsAt, LiesInFibre, fibres, first_from, numbers_of, wanted}
use Rattle.fin_ir.specs.declared.expression.Table.{Table}
use Rattle.fin_ir.specs.declared.expression.Table.TheVariants as table
use Rattle.fin_ir.specs.declared.expression.IExpr.{IExpr}
use Rattle.fin_ir.specs.declared.expression.IExpr.TheVariants.{Num, Local, Two}
use Rattle.fin_ir.specs.Frozen.{Frozen}
use Rattle.fin_ir.specs.Loads.{table_in, part_at, number_at, seek, word_at}
use Rattle.fin_ir.specs.Machine.{Tensor, stored}
use Rattle.fin_ir.specs.Value.{extents_in, parts_in, words_in, is_off}
use Rattle.fin_ir.proofs.Seeks.{sought_in}
use Rattle.fin_ir.proofs.Values.{value_two, value_cell, value_seek, value_val, value_local, value_num}
use Rattle.fin_looplet.specs.View.{Store, value, Sight, word, position, absent, leaf_sight, at_step}
use Rattle.fin_looplet.proofs.Exprs.{value_set}
use Rattle.fin_unfurl.specs.declared.fibre.Fibre.{Fibre}
use Rattle.fin_unfurl.specs.Fibres.{IsApart}
use Rattle.fin_unfurl.specs.Parts.{next, cell, begin, end, place, leaf, leaf_below}
use Rattle.fin_unfurl.proofs.Small.{wrap_small}

-- the fibre stands at position p of a storage, and has room for its two locals
pub record Here (ts : Store) (ls : List ℤ) (f : Fibre) (e : IExpr) (s : Frozen) (p : ℕ) : Type 0 where
  pub is : ts f.tensor ≡ stored s
  pub at : IsAt f.extent (part_at s.parts f.level) p
  pub within : p < fibres s.shape s.parts 1 f.level
  pub extent : slice_index s.shape f.level ≡ f.extent
  pub room : f.cursor + 1 < length ls
  pub here : value ts ls e ≡ pos p
  pub apart : IsApart f.cursor e

-- what stands at a position below the level
abbrev pub sight_below : ℕ → List ℤ → Option ℕ → ℕ → Sight
sight_below t val None q = word (slice_index_or val q (pos 0))
sight_below t val (Some k) q = position t k (pos q)

pub two_is : (ts : Store) (ls : List ℤ) (o : Op) (a b : IExpr) (x y : ℤ) → value ts ls a ≡ x → value ts ls b ≡ y → value ts ls (Two o a b) ≡ operate o x y
two_is ts ls o a b x y h k = value_two ts ls o a b ∙ ap (λ (z : ℤ). operate o z (value ts ls b)) h ∙ ap (operate o x) k

pub next_value : (ts : Store) (ls : List ℤ) (e : IExpr) (m : ℕ) → value ts ls e ≡ pos m → m ≤ 2 ^ 41 → value ts ls (next e) ≡ pos (m + 1)
next_value ts ls e m h small = two_is ts ls op.Add e (Num (pos 1)) (pos m) (pos 1) h (value_num ts ls (pos 1)) ∙ wrap_small (m + 1) (omega arith)

-- locals in which the expression of the position has that value
module _ (ts : Store) (f : Fibre) (e : IExpr) (s : Frozen) (p : ℕ) (is : ts f.tensor ≡ stored s) (ls : List ℤ) where
  abbrev part : Part
  part = part_at s.parts f.level

  pub cell_value : (t : Table) (x : IExpr) (q : ℕ) → value ts ls x ≡ pos q → value ts ls (cell f t x) ≡ pos (slice_index (table_in t part) q)
  cell_value t x q h =
      value_cell ts ls f.tensor f.level t x
      ∙ ap (λ (y : Tensor). number_at (table_in t (part_at (parts_in y) f.level)) (value ts ls x)) is
      ∙ ap (number_at (table_in t part)) h

  pub leaf_value : (x : IExpr) (q : ℕ) → value ts ls x ≡ pos q → leaf_sight ts ls (leaf f x) ≡ sight_below f.tensor s.val f.below q
  leaf_value x q h = below_value f.below
    where
      below_value : (b : Option ℕ) → leaf_sight ts ls (leaf_below f.tensor b x) ≡ sight_below f.tensor s.val b q
      below_value None = ap word (value_val ts ls f.tensor x ∙ ap (λ (y : Tensor). word_at (words_in y) (value ts ls x)) is ∙ ap (word_at s.val) h)
      below_value (Some k) = ap (λ (z : ℤ). if is_off z then absent else position f.tensor k (value ts ls x)) (value_num ts ls (pos 1)) ∙ ap (position f.tensor k) h

  module _ (here : value ts ls e ≡ pos p) (small : p ≤ 2 ^ 40) where
    pub begin_value : value ts ls (begin f e) ≡ pos (slice_index (table_in table.Ptr part) p)
    begin_value = cell_value table.Ptr e p here

    pub end_value : value ts ls (end f e) ≡ pos (slice_index (table_in table.Ptr part) (p + 1))
    end_value = cell_value table.Ptr (next e) (p + 1) (next_value ts ls e p here (omega arith))

    -- the place for a coordinate
    pub place_value : (m : ℕ) (ptr : List ℕ) → table_in table.Ptr part ≡ ptr → slice_index_or ls (f.cursor + 1) (pos 0) ≡ pos m
        → LiesInFibre (slice_index s.shape f.level) (fibres s.shape s.parts 1 f.level) part (slice_index ptr p) (slice_index ptr (p + 1))
        → value ts ls (place f e) ≡ pos (first_from (numbers_of part) (wanted part m) (slice_index ptr p) (slice_index ptr (p + 1) - slice_index ptr p))
    place_value m ptr ptr_is at lies =
        let n = slice_index s.shape f.level in
        let count = fibres s.shape s.parts 1 f.level in
        let from = slice_index ptr p in
        let to = slice_index ptr (p + 1) in
        let first = ap (λ (xs : List ℕ). pos (slice_index xs p)) ptr_is in
        let last = ap (λ (xs : List ℕ). pos (slice_index xs (p + 1))) ptr_is in
        value_seek ts ls f.tensor f.level (begin f e) (end f e) (Local (f.cursor + 1))
        ∙ ap (λ (y : Tensor). seek (slice_index (extents_in y) f.level) (fibres (extents_in y) (parts_in y) 1 f.level) (part_at (parts_in y) f.level) (value ts ls (begin f e))
        (value ts ls (end f e)) (value ts ls (Local (f.cursor + 1)))) is
        ∙ ap (λ (z : ℤ). seek n count part z (value ts ls (end f e)) (value ts ls (Local (f.cursor + 1)))) (begin_value ∙ first)
        ∙ ap (λ (z : ℤ). seek n count part (pos from) z (value ts ls (Local (f.cursor + 1)))) (end_value ∙ last)
        ∙ ap (λ (z : ℤ). seek n count part (pos from) (pos to) z) (value_local ts ls (f.cursor + 1) ∙ at)
        ∙ ap pos (sought_in n count part from to m lies)

-- ---- a walker's step
module _ (ts : Store) (ls : List ℤ) (f : Fibre) (e : IExpr) (s : Frozen) (p : ℕ) (h : Here ts ls f e s p) (ptr xs : List ℕ) (w : ℕ → ℕ) (ptr_is : table_in table.Ptr (part_at s.parts f.level) ≡ ptr)
    (numbers : numbers_of (part_at s.parts f.level) ≡ xs) (wants : (m : ℕ) → wanted (part_at s.parts f.level) m ≡ w m)
    (lies : LiesInFibre (slice_index s.shape f.level) (fibres s.shape s.parts 1 f.level) (part_at s.parts f.level) (slice_index ptr p) (slice_index ptr (p + 1))) where
  -- the first place for a coordinate
  pub place_at : (m : ℕ) → value ts (slice_set ls (f.cursor + 1) (pos m)) (place f e) ≡ pos (first_from xs (w m) (slice_index ptr p) (slice_index ptr (p + 1) - slice_index ptr p))
  place_at m =
      place_value ts f e s p h.is (slice_set ls (f.cursor + 1) (pos m)) (value_set ts ls (f.cursor + 1) (pos m) e h.apart.1 ∙ h.here) (omega (arith, h.at.within, h.at.few)) m ptr ptr_is
      (get_or-set_same ls (f.cursor + 1) (pos m) (pos 0) h.room) lies
      ∙ ap (λ (ys : List ℕ). pos (first_from ys (wanted (part_at s.parts f.level) m) (slice_index ptr p) (slice_index ptr (p + 1) - slice_index ptr p))) numbers
      ∙ ap (λ (y : ℕ). pos (first_from xs y (slice_index ptr p) (slice_index ptr (p + 1) - slice_index ptr p))) (wants m)

  pub cursor_value : (m : ℕ) → value ts (at_step ts ls f.cursor (place f e) (pos m)) (Local f.cursor) ≡ pos (first_from xs (w m) (slice_index ptr p) (slice_index ptr (p + 1) - slice_index ptr p))
  cursor_value m =
      value_local ts (at_step ts ls f.cursor (place f e) (pos m)) f.cursor
      ∙ ap (λ (z : ℤ). slice_index_or (slice_set ls f.cursor z) f.cursor (pos 0)) (place_at m)
      ∙ get_or-set_same ls f.cursor (pos (first_from xs (w m) (slice_index ptr p) (slice_index ptr (p + 1) - slice_index ptr p))) (pos 0) (omega (arith, h.room))
