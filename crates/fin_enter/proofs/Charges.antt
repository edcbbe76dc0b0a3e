-- The codes of a loop's entry pay its charge.
use Rattle.std.proofs.Common.{◌≡◌, inl, inr, ℕ, ◌≤◌, ◌+◌, ◌-◌, ◌^◌, Bool, true, false, List, [], ◌∷◌, map, sum, refl, sym, ap, ◌∙◌, subst, ℤ, pos, arith, Some}
use Rattle.std.specs.Prelude.{slice_index_or, slice_index, if◌then◌else◌}
use Rattle.std.proofs.lemmas.List.Sums.{sum_by-cons}
use Rattle.fin_base.specs.declared.terms.Op.TheVariants as op
use Rattle.fin_base.specs.declared.terms.Proto.{Proto}
use Rattle.fin_tensor.specs.declared.format.Level.{Level}
use Rattle.fin_tensor.specs.declared.format.Level.TheVariants as level
use Rattle.fin_tensor.specs.declared.part.Part.{Part}
use Rattle.fin_tensor.specs.declared.part.Part.TheVariants as part
use Rattle.fin_tensor.specs.Levels.{IsPtr}
use Rattle.fin_tensor.specs.Pieces.{walked, stored_length}
use Rattle.fin_ir.specs.declared.code.Code.TheVariants.{Charge}
use Rattle.fin_ir.specs.declared.expression.IExpr.{IExpr}
use Rattle.fin_ir.specs.declared.expression.IExpr.TheVariants as e
use Rattle.fin_ir.specs.declared.expression.Table.TheVariants as table
use Rattle.fin_ir.specs.Loads.{table_in}
use Rattle.fin_ir.specs.declared.layout.Layout.{Layout}
use Rattle.fin_ir.specs.Machine.{Machine, seen}
use Rattle.fin_ir.specs.Meaning.{meaning_all}
use Rattle.fin_ir.specs.Value.{extents_in, parts_in, words_in, is_off, value_of, value_in}
use Rattle.fin_ir.proofs.Values.{value_num, value_local, value_pick}
use Rattle.fin_looplet.specs.View.{Store, value}
use Rattle.fin_read.specs.Reads.{fibre_begin, fibre_end, block_length, place_of}
use Rattle.fin_read.proofs.Placing.{two_of, local_is, add_small, sub_small}
use Rattle.fin_read.proofs.Descending.{Holds, cell_is}
use Rattle.fin_read.proofs.Remaining.{LevelsAre}
use Rattle.fin_stage.specs.Staged.{Run, worked}
use Rattle.fin_nest.specs.Related.{Start, Related}
use Rattle.fin_nest.proofs.Changed.{paid, charge_pays, cut_pays, worked_live}
use Rattle.fin_simp.specs.Sights.{Stand, Nowhere, At, Unsettled, stand_at, length_at}
use Rattle.fin_simp.specs.Work.{Entered, length_of, entry_of}
use Rattle.fin_drive.specs.Entries.{IsFound}
use Rattle.fin_enter.specs.Positions.{spot_in}
use Rattle.fin_enter.specs.Charges.{placed_length, length_code, LengthsMean, entry_codes, known_of, AreLengths, EntriesArePaid}
use Rattle.fin_enter.proofs.Standing.{AtLevel, stands_at}

-- ---- stored lengths

module _ (ts : Store) (tensor k at q : ℕ) (ls : List ℤ) where
  abbrev there : IExpr
  there = e.Two op.Ge (e.Local at) (e.Num (pos 0))

  none_length : is_off (value_of there ts ls) ≡ true → value_of (placed_length tensor k at) ts ls ≡ pos 0
  none_length off =
      value_pick ts ls there (block_length (place_of tensor k at)) (e.Num (pos 0))
      ∙ ap (λ (b : Bool). if b then value_of (e.Num (pos 0)) ts ls else value_of (block_length (place_of tensor k at)) ts ls) off ∙ value_num ts ls (pos 0)

  module _ (l : Level) (p : Part) (h : AtLevel ts tensor k l p q) (f : Holds at ls (pos q)) (on : is_off (value_of there ts ls) ≡ false) where
    local : value_of (e.Local at) ts ls ≡ pos q
    local = local_is ts ls at (pos q) f

    cell : (x : IExpr) (z : ℕ) → value_of x ts ls ≡ pos z → value_of (e.Cell tensor k table.Ptr x) ts ls ≡ pos (slice_index (table_in table.Ptr p) z)
    cell x z v = cell_is ts tensor k l h.extent h.count p h.is table.Ptr x ls (pos z) v

    from_is : value_of (fibre_begin (place_of tensor k at)) ts ls ≡ pos (slice_index (table_in table.Ptr p) q)
    from_is = cell (e.Local at) q local

    to_is : value_of (fibre_end (place_of tensor k at)) ts ls ≡ pos (slice_index (table_in table.Ptr p) (q + 1))
    to_is =
        cell (e.Two op.Add (e.Local at) (e.Num (pos 1))) (q + 1)
        (two_of ts ls op.Add (e.Local at) (e.Num (pos 1)) (pos q) (pos 1) local (value_num ts ls (pos 1)) ∙ add_small q 1 (omega (arith, h.within, h.is.few)))

    block_is : IsPtr h.count (table_in table.Ptr p) → value_of (placed_length tensor k at) ts ls ≡ pos (slice_index (table_in table.Ptr p) (q + 1) - slice_index (table_in table.Ptr p) q)
    block_is is =
        let ptr = table_in table.Ptr p in
        let order : slice_index ptr q ≤ slice_index ptr (q + 1) = is.rises q h.within in
        let most : slice_index ptr (q + 1) ≤ 2 ^ 40 = is.small (q + 1) (omega (arith, h.within, is.long)) in
        value_pick ts ls there (block_length (place_of tensor k at)) (e.Num (pos 0))
        ∙ ap (λ (b : Bool). if b then value_of (e.Num (pos 0)) ts ls else value_of (block_length (place_of tensor k at)) ts ls) on
        ∙ two_of ts ls op.Sub (fibre_end (place_of tensor k at)) (fibre_begin (place_of tensor k at)) (pos (slice_index ptr (q + 1))) (pos (slice_index ptr q)) to_is from_is
        ∙ sub_small (slice_index ptr (q + 1)) (slice_index ptr q) most order

  level_length : (l : Level) (p : Part) → AtLevel ts tensor k l p q → Holds at ls (pos q) → is_off (value_of there ts ls) ≡ false
      → value_of (length_code l tensor k at) ts ls ≡ pos (stored_length walked p q)
  level_length level.Dense part.Dense h f on = value_num ts ls (pos 0)
  level_length level.List (part.Keys ptr idx) h f on = block_is level.List (part.Keys ptr idx) h f on h.is.level.0
  level_length level.Dict (part.Keys ptr idx) h f on = block_is level.Dict (part.Keys ptr idx) h f on h.is.level.0
  level_length level.Runs (part.Runs ptr stop) h f on = block_is level.Runs (part.Runs ptr stop) h f on h.is.level.0
  level_length level.Band (part.Band ptr start) h f on = value_num ts ls (pos 0)
  level_length l p h f on = absurd h.is.level

nowhere_length : (ts : Store) (l : Level) (tensor k at : ℕ) (ls : List ℤ) → is_off (value_of (e.Two op.Ge (e.Local at) (e.Num (pos 0))) ts ls) ≡ true
    → value_of (length_code l tensor k at) ts ls ≡ pos 0
nowhere_length ts level.Dense tensor k at ls off = value_num ts ls (pos 0)
nowhere_length ts level.List tensor k at ls off = none_length ts tensor k at 0 ls off
nowhere_length ts level.Dict tensor k at ls off = none_length ts tensor k at 0 ls off
nowhere_length ts level.Runs tensor k at ls off = none_length ts tensor k at 0 ls off
nowhere_length ts level.Band tensor k at ls off = value_num ts ls (pos 0)

module _ (ts : Store) (tensor k at : ℕ) (l : Level) (ls : List ℤ) (by : IExpr) (proto : Proto) where
  length_by : (stand : Stand) → ((p : Part) (q : ℕ) → stand ≡ At p q → AtLevel ts tensor k l p q) → IsFound ts ls (spot_in at by) stand
      → value ts ls (length_code l tensor k at) ≡ pos (length_at proto stand)
  length_by Nowhere at_level found = nowhere_length ts l tensor k at ls found
  length_by (At p q) at_level found = level_length ts tensor k at q ls l p (at_level p q refl) (sym (value_local ts ls at) ∙ found.1) found.0
  length_by Unsettled at_level found = absurd found

pub lengths_mean : LengthsMean
lengths_mean ts tensor levels f vars is k at ls by proto frozen valid lt found =
    let whole : LevelsAre ts tensor 0 levels f.shape f.parts f.val 1 =
    record { extents = ap extents_in frozen; parts = ap parts_in frozen; words = ap words_in frozen; count_is = refl; valid = valid } in
    let same : 0 + k ≡ k = omega arith in
    let l = slice_index_or levels k level.Dense in
    length_by ts tensor k at l ls by proto (stand_at vars f.shape f.parts is k (Some 0))
    (λ p q s. subst (λ j. AtLevel ts tensor j l p q) same (stands_at ts tensor vars k 0 1 levels f.shape f.parts f.val (Some 0) is p q whole (omega arith) lt s)) found

-- ---- the charge

module _ (layout : Layout) where
  all_pay : (lengths : List IExpr) (ns : List ℕ) (m : Machine) → m.cut ≡ false → map (value_in m) lengths ≡ map pos ns → meaning_all layout (map Charge lengths) m ≡ paid (sum ns) m
  all_pay [] [] m live h = let same : m.charges ≡ m.charges + 0 = omega arith in ap (λ n. record m { charges = n }) same
  all_pay [] (n ∷ ns) m live h = cc
  all_pay (x ∷ xs) [] m live h = cc
  all_pay (x ∷ xs) (n ∷ ns) m live h =
      let here : value_in m x ≡ pos n = cc in
      let rest : map (value_in m) xs ≡ map pos ns = cc in
      let same : m.charges + n + sum ns ≡ m.charges + sum (n ∷ ns) = omega (arith, sum_by-cons (λ (k : ℕ). k) n ns) in
      ap (meaning_all layout (map Charge xs)) (charge_pays layout x n m live here) ∙ all_pay xs ns (paid n m) live rest ∙ ap (λ j. record m { charges = j }) same

  none_pay : (xs : List IExpr) (m : Machine) → m.cut ≡ true → meaning_all layout (map Charge xs) m ≡ m
  none_pay [] m cut = refl
  none_pay (x ∷ xs) m cut = ap (meaning_all layout (map Charge xs)) (cut_pays layout x m cut) ∙ none_pay xs m cut

module _ (x : Entered) (lengths : List IExpr) (layout : Layout) (m : Machine) (are : m.cut ≡ false → AreLengths x m lengths) where
  entry_is : (ns : List ℕ) → sum ns ≡ sum (map length_of x.driven) → sum (known_of x ∷ ns) ≡ entry_of x
  entry_is ns same = omega (arith, same, sum_by-cons (λ (k : ℕ). k) (known_of x) ns)

  charges_are : m.cut ≡ false → meaning_all layout (entry_codes (known_of x) lengths) m ≡ paid (entry_of x) m
  charges_are live =
      let q = are live in
      let first = value_num (seen m) m.locals (pos (known_of x)) in
      all_pay layout (e.Num (pos (known_of x)) ∷ lengths) (known_of x ∷ q.numbers) m live (ap (λ z. z ∷ map (value_in m) lengths) first ∙ ap (λ zs. pos (known_of x) ∷ zs) q.values)
      ∙ ap (λ n. paid n m) (entry_is q.numbers q.total)

  related_by : (s : Start) (pins : List ℤ) (r : Run) → Related s pins r m → Related s pins (worked (entry_of x) r) (meaning_all layout (entry_codes (known_of x) lengths) m)
  related_by s pins r (inl live) = subst (Related s pins (worked (entry_of x) r)) (sym (charges_are live.cut)) (inl (worked_live s pins r m live (entry_of x)))
  related_by s pins r (inr over) =
      subst (Related s pins (worked (entry_of x) r)) (sym (none_pay layout (e.Num (pos (known_of x)) ∷ lengths) m over.cut))
      (inr (record { cut = over.cut; regular = over.regular; over = over.over; most = omega (arith, over.most) }))

pub entries_are_paid : EntriesArePaid
entries_are_paid x lengths layout m are = record { charges = charges_are x lengths layout m are; related = related_by x lengths layout m are }
