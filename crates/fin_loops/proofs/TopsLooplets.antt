-- The looplets of a loop's entry keep apart, one after another: each driven read's owns its own two locals, and they
-- depend on variables below the loop's own and on the locals of the entry's steps alone.
use Rattle.std.proofs.Common.{◌≡◌, ◌⊎◌, ⊎_elim, inl, inr, ℕ, ◌+◌, ◌<◌, ◌≤◌, ℤ, pos, Bool, true, false, not, if◌then◌else◌, List, [], ◌∷◌, ◌++◌, length, Option, Some, None, refl, ap, ◌∙◌, arith}
use Rattle.std.specs.Prelude.{nat_lt, nat_eq, max, ◌≢◌}
use Rattle.std.specs.List.{list_all}
use Rattle.std.proofs.lemmas.Bool.Decides.{nat_tests}
use Rattle.fin_base.specs.declared.terms.Op.{Op}
use Rattle.fin_base.specs.declared.terms.Op.TheVariants as op
use Rattle.fin_ast.specs.declared.tree.Index.{Index}
use Rattle.fin_ast.specs.Scope.{differ}
use Rattle.fin_ir.specs.declared.expression.IExpr.{IExpr}
use Rattle.fin_ir.specs.declared.expression.IExpr.TheVariants.{Num, Local}
use Rattle.fin_looplet.specs.declared.looplet.Looplet.{Looplet}
use Rattle.fin_looplet.specs.Names.{Names, Loads}
use Rattle.fin_looplet.specs.Locals.{Free, LoadsIn, Owns, ShiftNames, Nested}
use Rattle.fin_looplet.specs.Lists.{AnyFree, AnyLoads, AnyOwns, AnyShiftNames, AllNested, AllApart}
use Rattle.fin_looplet.proofs.Exprs.{names_num, names_local, names_two, loads_num, loads_local, loads_two}
use Rattle.fin_read.specs.Values.{format_of, value_code}
use Rattle.fin_simp.specs.Rest.{Access}
use Rattle.fin_simp.specs.Sights.{behind_var, driven_index}
use Rattle.fin_simp.specs.Work.{is_in}
use Rattle.fin_stage.proofs.Alive.{left, right}
use Rattle.fin_unfurl.specs.Masks.{mask_of}
use Rattle.fin_unfurl.proofs.Moving.{mask_owns, mask_free}
use Rattle.fin_unfurl.proofs.Separation.{mask_nested, mask_shifts, mask_loads}
use Rattle.fin_drive.specs.declared.reading.Reading.{Reading}
use Rattle.fin_drive.specs.Looplets.{other_of, other, back_offset, back_from, back, driven_looplet, turned_round}
use Rattle.fin_drive.proofs.Apart.{driven_owns, driven_depends, driven_apart, driven_loads}
use Rattle.fin_drive.proofs.Inside.{driven_last}
use Rattle.fin_enter.specs.Positions.{spot_at}
use Rattle.fin_enter.specs.Together.{Around, settled_index, behind_place, behind_all}
use Rattle.fin_enter.specs.Masked.{Tested, behind_bounds}
use Rattle.fin_enter.specs.LoopEntry.{reading_with, shape_in, waiting, read_looplet, behind_cursor, read_looplets, behind_cursors, mask_looplets}
use Rattle.fin_enter.proofs.Indices.{driven_holds}
use Rattle.fin_enter.proofs.Sites.{place_names, there_names, place_loads, there_loads}
use Rattle.fin_enter.proofs.Together.{place_grows, places_grow}
use Rattle.fin_enter.proofs.Masked.{bounds_grow}
use Rattle.fin_enter.proofs.Entering.{cursor_grows, cursors_grow}
use Rattle.fin_loops.specs.Tops.{names_once}
use Rattle.fin_enter.proofs.LowBounds.{Below, below_more, bound_low, AreBounds}

-- ---- one after another

module _ (var from to : ℕ) (steady : ℕ → Bool) where
  -- one looplet, whose own locals are from one on and before another
  pub record Keeps (first end : ℕ) (l : Looplet) : Type 0 where
    pub nested : Nested l
    pub owns : (x : ℕ) → Owns x l → (first ≤ x) × (x < end)
    pub depends : (x : ℕ) → Free x l → Below var from to x
    pub shifts : (x : ℕ) → ShiftNames x l → Below var from to x
    pub loads : (t : ℕ) → LoadsIn t l → steady t ≡ true

  pub record AllKeep (first end : ℕ) (ls : List Looplet) : Type 0 where
    pub nested : AllNested ls
    pub apart : AllApart ls
    pub owns : (x : ℕ) → AnyOwns x ls → (first ≤ x) × (x < end)
    pub depends : (x : ℕ) → AnyFree x ls → Below var from to x
    pub shifts : (x : ℕ) → AnyShiftNames x ls → Below var from to x
    pub loads : (t : ℕ) → AnyLoads t ls → steady t ≡ true

  pub none_keep : (first end : ℕ) → AllKeep first end []
  none_keep first end = record { nested = tt; apart = tt; owns = λ x h. absurd h; depends = λ x h. absurd h; shifts = λ x h. absurd h; loads = λ t h. absurd h }

  pub one_more : (first middle end : ℕ) (l : Looplet) (ls : List Looplet) → first ≤ middle → middle ≤ end → Keeps first middle l → AllKeep middle end ls → AllKeep first end (l ∷ ls)
  one_more first middle end l ls low high one rest = record {
    nested = (one.nested, rest.nested);
    apart = (λ x h k. let a = one.owns x h in let b = rest.owns x k in absurd (omega (arith, a.1, b.0)), rest.apart);
    owns = λ x. ⊎_elim (λ (h : Owns x l). let a = one.owns x h in (a.0, omega (arith, a.1, high))) (λ (h : AnyOwns x ls). let b = rest.owns x h in (omega (arith, low, b.0), b.1));
    depends = λ x. ⊎_elim (λ (h : Free x l). one.depends x h) (λ (h : AnyFree x ls). rest.depends x h);
    shifts = λ x. ⊎_elim (λ (h : ShiftNames x l). one.shifts x h) (λ (h : AnyShiftNames x ls). rest.shifts x h);
    loads = λ t. ⊎_elim (λ (h : LoadsIn t l). one.loads t h) (λ (h : AnyLoads t ls). rest.loads t h);
  }

-- ---- the other variable of a driven index

other_low : (var : ℕ) (a b : Option ℕ) (x : ℕ) → differ a b ≡ true → max (behind_var a) (behind_var b) ≡ var + 1 → other_of var a b ≡ Some x → x < var
other_low var None b x d last e = cc
other_low var (Some a) b x d last e = by_test (nat_eq a var) refl e where
  second : (o : Option ℕ) → a ≡ var → differ (Some a) o ≡ true → max (a + 1) (behind_var o) ≡ var + 1 → o ≡ Some x → x < var
  second None own apart most f = cc
  second (Some y) own apart most f =
      let same : y ≡ x = cc in
      let other : a ≢ y = grind (arith, nat_tests) in
      omega (arith, most, own, other, same)

  by_test : (t : Bool) → nat_eq a var ≡ t → (if t then b else Some a) ≡ Some x → x < var
  by_test true t f = second b (grind (arith, nat_tests)) d last f
  by_test false t f =
      let same : a ≡ x = cc in
      let other : a ≢ var = grind (arith, nat_tests) in
      omega (arith, last, other, same)

back_names : (var : ℕ) (z : ℤ) (o : Option ℕ) → ((y : ℕ) → o ≡ Some y → y < var) → (x : ℕ) → Names x (back_from z o) → x < var
back_names var z None low x n = absurd (names_num x z n)
back_names var z (Some y) low x n =
    ⊎_elim (λ (k : Names x (Num z)). absurd (names_num x z k)) (λ (k : Names x (Local y)). let same = names_local x y k in let less = low y refl in omega (arith, same, less))
    (names_two x op.Sub (Num z) (Local y) n)

back_loads : (z : ℤ) (o : Option ℕ) (t : ℕ) → Loads t (back_from z o) → ⊥
back_loads z None t n = loads_num t z n
back_loads z (Some y) t n = ⊎_elim (λ (k : Loads t (Num z)). loads_num t z k) (λ (k : Loads t (Local y)). loads_local t y k) (loads_two t op.Sub (Num z) (Local y) n)

-- ---- the looplets of the entry, whose steps take locals from one on and before another

module _ (l : Around) (from to : ℕ) where
  abbrev steady : ℕ → Bool
  steady t = not (is_in l.changed t)

  abbrev One : ℕ → ℕ → Looplet → Type 0
  One = Keeps l.var from to steady

  abbrev All : ℕ → ℕ → List Looplet → Type 0
  All = AllKeep l.var from to steady

  -- ---- masks

  mask_keeps : (o : Op) (bound : IExpr) (own : ℕ) → ((x : ℕ) → Names x bound → Below l.var from to x) → ((t : ℕ) → Loads t bound → ⊥) → One own own (mask_of o bound)
  mask_keeps o bound own names loads = record {
    nested = mask_nested o bound;
    owns = λ x h. absurd (mask_owns o bound x h);
    depends = λ x h. names x (mask_free o bound x h);
    shifts = λ x h. absurd (mask_shifts o bound x h);
    loads = λ t h. absurd (loads t (mask_loads o bound t h));
  }

  masks_keep : (ts : List Tested) (at own : ℕ) → AreBounds l.var ts → from ≤ at → behind_bounds l.heads ts at ≤ to → All own own (mask_looplets l.heads ts at)
  masks_keep [] at own bounds low high = none_keep l.var from to steady own own
  masks_keep (t ∷ ts) at own bounds low high =
      let v = value_code l.heads t.bound at in
      let k = bound_low l.heads l.var t.bound at bounds.0 in
      let more = bounds_grow l.heads ts v.next in
      one_more l.var from to steady own own own _ _ (omega arith) (omega arith)
      (mask_keeps (if t.bare_first then t.op else turned_round t.op) v.value own (λ x n. below_more l.var at v.next from to x low (omega (arith, more, high)) (k.names x n)) k.loads)
      (masks_keep ts v.next own bounds.1 (omega (arith, low, k.grows)) high)

  -- ---- reads

  waits : (first end : ℕ) → One first end waiting
  waits first end = record { nested = tt; owns = λ x h. absurd h; depends = λ x h. absurd (names_num x (pos 0) h); shifts = λ x h. absurd h; loads = λ t h. absurd (loads_num t (pos 0) h) }

  module _ (at : ℕ) (low : from ≤ at) (high : at < to) where
    spot_names : (k : ℕ) (by : IExpr) (x : ℕ) → Names x (spot_at k at by).place ⊎ Names x (spot_at k at by).there → Below l.var from to x
    spot_names k by x (inl n) = let same = place_names k at x n in inr (omega (arith, same, low), omega (arith, same, high))
    spot_names k by x (inr n) = let same = there_names k at x n in inr (omega (arith, same, low), omega (arith, same, high))

    spot_loads : (k : ℕ) (by : IExpr) (t : ℕ) → Loads t (spot_at k at by).place ⊎ Loads t (spot_at k at by).there → ⊥
    spot_loads k by t (inl n) = place_loads k at t n
    spot_loads k by t (inr n) = there_loads k at t n

    module _ (a : Access) (d : ℕ × Index) (cursor : ℕ) (others : (y : ℕ) → other_of l.var d.1.first d.1.second ≡ Some y → y < l.var) where
      abbrev r : Reading
      r = reading_with l a d cursor (shape_in l a)

      abbrev by : IExpr
      by = back r

      by_names : (x : ℕ) → Names x by → Below l.var from to x
      by_names x n = inl (back_names l.var (back_offset d.1.offset) (other r) others x n)

      driven_keeps : One cursor (cursor + 2) (driven_looplet (format_of l.heads a.tensor) r (spot_at d.0 at by))
      driven_keeps =
          let format = format_of l.heads a.tensor in
          let spot = spot_at d.0 at by in
          let apart = driven_apart format r spot in
          record {
            nested = apart.nested;
            owns = λ x h. ⊎_elim (λ (k : x ≡ cursor). (omega (arith, k), omega (arith, k))) (λ (k : x ≡ cursor + 1). (omega (arith, k), omega (arith, k))) (driven_owns format r spot x h);
            depends = λ x h. ⊎_elim (λ (k : Names x spot.place ⊎ Names x spot.there). spot_names d.0 by x k) (λ (k : Names x by). by_names x k) (driven_depends format r spot x h);
            shifts = λ x h. by_names x (apart.shifts x h);
            loads = λ t h. ⊎_elim
                (λ (k : (r.settled ≡ true) × (t ≡ r.tensor)). ap steady k.1 ∙ k.0)
                (λ q. ⊎_elim (λ (k : Loads t spot.place ⊎ Loads t spot.there). absurd (spot_loads d.0 by t k)) (λ (k : Loads t by). absurd (back_loads (back_offset d.1.offset) (other r) t k)) q)
                (driven_loads format r spot t h);
          }

      by_level : (b : Bool) → One cursor (cursor + 2) (if b then driven_looplet (format_of l.heads a.tensor) r (spot_at d.0 at by) else waiting)
      by_level true = driven_keeps
      by_level false = waits cursor (cursor + 2)

    read_keeps : (a : Access) (o : Option (ℕ × Index)) (cursor : ℕ) → ((d : ℕ × Index) → o ≡ Some d → (y : ℕ) → other_of l.var d.1.first d.1.second ≡ Some y → y < l.var)
        → One cursor (behind_cursor o cursor) (read_looplet l a o at cursor)
    read_keeps a None cursor others = waits cursor cursor
    read_keeps a (Some d) cursor others = by_level a d cursor (others d refl) (nat_lt d.0 (length (format_of l.heads a.tensor).levels))

  others_low : (a : Access) → names_once a ≡ true → (d : ℕ × Index) → driven_index l.var a.at ≡ Some d → (y : ℕ) → other_of l.var d.1.first d.1.second ≡ Some y → y < l.var
  others_low a once d driven y other =
      other_low l.var d.1.first d.1.second y (driven_holds (λ (i : Index). differ i.first i.second) l.var a.at d once driven) (driven_last l.var a.at d driven) other

  -- masks behind reads
  pub all_keep : (reads : List Access) (ts : List Tested) (at bounds cursor : ℕ) → list_all names_once reads ≡ true → AreBounds l.var ts → from ≤ at → behind_all l reads at < bounds
      → from ≤ bounds → behind_bounds l.heads ts bounds ≤ to
      → All cursor (behind_cursors l reads cursor) (read_looplets l reads at cursor ++ mask_looplets l.heads ts bounds)
  all_keep [] ts at bounds cursor once are low behind lower high = masks_keep ts bounds cursor are lower high
  all_keep (a ∷ reads) ts at bounds cursor once are low behind lower high =
      let o = driven_index l.var a.at in
      let next = behind_place (settled_index l a) at in
      let middle = behind_cursor o cursor in
      let more = place_grows (settled_index l a) at in
      let far = places_grow l reads next in
      let wide = bounds_grow l.heads ts bounds in
      one_more l.var from to steady cursor middle (behind_cursors l reads middle) _ _ (cursor_grows o cursor) (cursors_grow l reads middle)
      (read_keeps at low (omega (arith, more, far, behind, wide, high)) a o cursor (others_low a (left (names_once a) (list_all names_once reads) once)))
      (all_keep reads ts next bounds middle (right (names_once a) (list_all names_once reads) once) are (omega (arith, low, more)) behind lower high)
