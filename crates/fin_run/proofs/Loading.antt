-- Searches and loads of a storage.
use Rattle.std.proofs.Common.{◌≡◌, ℕ, ◌+◌, ◌-◌, ◌<◌, ◌≤◌, ◌^◌, Bool, true, false, List, length, refl, sym, ap, ◌∙◌, subst, ℤ, pos, negsuc, arith, ⊎_elim, SFits, w64, to_z, of_z}
use Rattle.std.specs.Prelude.{nat_le, ◌&&◌, slice_index, slice_get, Some, int_lt, nat_abs}
use Rattle.std.specs.List.{list_any, range_with_len}
use Rattle.std.proofs.lemmas.Bool.{and_parts, cases_lt}
use Rattle.std.proofs.lemmas.Bool.Decides.{nat_tests}
use Rattle.fin_tensor.specs.declared.format.Level.{Level}
use Rattle.fin_tensor.specs.declared.part.Part.{Part}
use Rattle.fin_tensor.specs.declared.part.Part.TheVariants.{Dense, Keys, Runs, Band}
use Rattle.fin_tensor.specs.Levels.{AreSmall, IsPtr, IsLevel, IsStored, LiesInFibre, fibres, first_from, numbers_of, wanted}
use Rattle.fin_tensor.proofs.Fibres.{ptr_rises, level_keys, level_runs, first_place}
use Rattle.fin_tensor.proofs.Walk.{kind_at, got}
use Rattle.fin_ir.specs.declared.expression.Table.{Table}
use Rattle.fin_ir.specs.Loads.{part_at, lies_in_fibre, table_in, seek, seek_in}
use Rattle.fin_ir.proofs.Seeks.{found, finds, tables_small, sought_in}

-- ---- fibres that are looked for

-- the fibre that begins there holds from..to
abbrev pub around : List ℕ → ℕ → ℕ → ℕ → Bool
around ptr from to p = nat_le (slice_index ptr p) from && nat_le to (slice_index ptr (p + 1))

both_ways : (a b : Bool) → (a ≡ true → b ≡ true) → (b ≡ true → a ≡ true) → a ≡ b
both_ways true true f g = refl
both_ways true false f g = sym (f refl)
both_ways false true f g = g refl
both_ways false false f g = refl

-- the last fibre that begins at `from` or before decides
pub last_decides : (ptr : List ℕ) (from to low : ℕ) → IsPtr (length ptr - 1) ptr → low + 1 < length ptr → slice_index ptr low ≤ from → ((p : ℕ) → low < p → p + 1 < length ptr → from < slice_index ptr p) → nat_le to (slice_index ptr (low + 1)) ≡ list_any (around ptr from to) (range_with_len 0 (length ptr - 1))
last_decides ptr from to low is within begins last =
    both_ways (nat_le to (slice_index ptr (low + 1))) (list_any (around ptr from to) (range_with_len 0 (length ptr - 1)))
    (λ e. let here : nat_le (slice_index ptr low) from ≡ true = grind (arith, nat_tests) in
    finds (around ptr from to) 0 (length ptr - 1) low (omega arith) (omega arith) (ap (λ b. b && nat_le to (slice_index ptr (low + 1))) here ∙ e))
    (λ e. let q = found (around ptr from to) 0 (length ptr - 1) e in
    let h = and_parts (nat_le (slice_index ptr q.0) from) (nat_le to (slice_index ptr (q.0 + 1))) q.3 in
    let low_end : slice_index ptr q.0 ≤ from = (let g = h.0 in grind (arith, nat_tests)) in
    let high_end : to ≤ slice_index ptr (q.0 + 1) = (let g = h.1 in grind (arith, nat_tests)) in
    let in_range : q.0 < length ptr - 1 = omega (arith, q.2) in
    let before : q.0 ≤ low = ⊎_elim (λ (l : low < q.0). let past = last q.0 l (omega arith) in omega arith) (λ (l : q.0 ≤ low). l) (cases_lt low q.0) in
    let rises = ptr_rises (length ptr - 1) ptr is (q.0 + 1) (low + 1) (omega arith) (omega arith) in
    let last_end : to ≤ slice_index ptr (low + 1) = omega arith in
    grind (arith, nat_tests))

-- a middle place between two is one of them or lies between
pub middle_rises : (ptr : List ℕ) (from middle p : ℕ) → IsPtr (length ptr - 1) ptr → from < slice_index ptr middle → middle ≤ p → p + 1 < length ptr → from < slice_index ptr p
middle_rises ptr from middle p is over le lt = let rises = ptr_rises (length ptr - 1) ptr is middle p le (omega arith) in omega arith

module _ (ls : List Level) (ns : List ℕ) (ps : List Part) (val : List ℤ) (valid : IsStored 1 ls ns ps val) (k : ℕ) (lt : k < length ps) where
  named_part : (p : Part) → slice_get ps k ≡ Some p → part_at ps k ≡ p
  named_part p e = sym (got ps k Dense p e)

  pub keys_ptr : (p : Part) (ptr idx : List ℕ) → slice_get ps k ≡ Some p → p ≡ Keys ptr idx → IsPtr (fibres ns ps 1 k) ptr
  keys_ptr p ptr idx e f =
      let q = kind_at k 1 ls ns ps val valid lt in
      (level_keys q.0 (slice_index ns k) (fibres ns ps 1 k) ptr idx (subst (IsLevel q.0 (slice_index ns k) (fibres ns ps 1 k)) (named_part p e ∙ f) q.1)).0

  pub runs_ptr : (p : Part) (ptr stop : List ℕ) → slice_get ps k ≡ Some p → p ≡ Runs ptr stop → IsPtr (fibres ns ps 1 k) ptr
  runs_ptr p ptr stop e f =
      let q = kind_at k 1 ls ns ps val valid lt in
      (level_runs q.0 (slice_index ns k) (fibres ns ps 1 k) ptr stop (subst (IsLevel q.0 (slice_index ns k) (fibres ns ps 1 k)) (named_part p e ∙ f) q.1)).0

  pub keys_lie : (p : Part) (ptr idx : List ℕ) (from to : ℕ) → slice_get ps k ≡ Some p → p ≡ Keys ptr idx → from ≤ to → list_any (around ptr from to) (range_with_len 0 (length ptr - 1)) ≡ lies_in_fibre (slice_index ns k) (fibres ns ps 1 k) (part_at ps k) from to
  keys_lie p ptr idx from to e f le =
      let long = (keys_ptr p ptr idx e f).long in
      let count : length ptr - 1 ≡ fibres ns ps 1 k = omega arith in
      let order : nat_le from to ≡ true = grind (arith, nat_tests) in
      ap (λ n. list_any (around ptr from to) (range_with_len 0 n)) count
      ∙ ap (λ b. b && list_any (around ptr from to) (range_with_len 0 (fibres ns ps 1 k))) (sym order)
      ∙ ap (λ x. lies_in_fibre (slice_index ns k) (fibres ns ps 1 k) x from to) (sym (named_part p e ∙ f))

  pub runs_lie : (p : Part) (ptr stop : List ℕ) (from to : ℕ) → slice_get ps k ≡ Some p → p ≡ Runs ptr stop → from ≤ to → list_any (around ptr from to) (range_with_len 0 (length ptr - 1)) ≡ lies_in_fibre (slice_index ns k) (fibres ns ps 1 k) (part_at ps k) from to
  runs_lie p ptr stop from to e f le =
      let long = (runs_ptr p ptr stop e f).long in
      let count : length ptr - 1 ≡ fibres ns ps 1 k = omega arith in
      let order : nat_le from to ≡ true = grind (arith, nat_tests) in
      ap (λ n. list_any (around ptr from to) (range_with_len 0 n)) count
      ∙ ap (λ b. b && list_any (around ptr from to) (range_with_len 0 (fibres ns ps 1 k))) (sym order)
      ∙ ap (λ x. lies_in_fibre (slice_index ns k) (fibres ns ps 1 k) x from to) (sym (named_part p e ∙ f))

  pub others_lie_not : (p : Part) (from to : ℕ) → slice_get ps k ≡ Some p → ((ptr idx : List ℕ) → p ≡ Keys ptr idx → ⊥) → ((ptr stop : List ℕ) → p ≡ Runs ptr stop → ⊥) → false ≡ lies_in_fibre (slice_index ns k) (fibres ns ps 1 k) (part_at ps k) from to
  others_lie_not Dense from to e f g = ap (λ x. lies_in_fibre (slice_index ns k) (fibres ns ps 1 k) x from to) (sym (named_part Dense e))
  others_lie_not (Keys ptr idx) from to e f g = absurd (f ptr idx refl)
  others_lie_not (Runs ptr stop) from to e f g = absurd (g ptr stop refl)
  others_lie_not (Band ptr start) from to e f g = ap (λ x. lies_in_fibre (slice_index ns k) (fibres ns ps 1 k) x from to) (sym (named_part (Band ptr start) e))

  pub table_small : (p : Part) (table : Table) (xs : List ℕ) → slice_get ps k ≡ Some p → xs ≡ table_in table p → AreSmall xs
  table_small p table xs e f = subst AreSmall (sym (f ∙ ap (table_in table) (sym (named_part p e)))) (tables_small k ls ns ps val table valid lt)

pub own_count : (count : ℕ) (ptr : List ℕ) → IsPtr count ptr → (0 < length ptr) × IsPtr (length ptr - 1) ptr
own_count count ptr is = let long = is.long in let e : count ≡ length ptr - 1 = omega arith in (omega arith, subst (λ n. IsPtr n ptr) e is)

-- ---- the search itself

pub within_end : (xs : List ℕ) (key from to : ℕ) → from ≤ to → first_from xs key from (to - from) ≤ to
within_end xs key from to le = (first_place xs key from to le).high

at_place : (z : ℤ) → int_lt z (pos 0) ≡ false → pos (nat_abs z) ≡ z
at_place (pos n) e = refl
at_place (negsuc n) e = cc

pub seek_found : (shape : List ℕ) (parts : List Part) (level : ℕ) (from to key : ℤ) (r : ℕ) → int_lt from (pos 0) ≡ false → int_lt to (pos 0) ≡ false → int_lt key (pos 0) ≡ false → LiesInFibre (slice_index shape level) (fibres shape parts 1 level) (part_at parts level) (nat_abs from) (nat_abs to) → r ≡ first_from (numbers_of (part_at parts level)) (wanted (part_at parts level) (nat_abs key)) (nat_abs from) (nat_abs to - nat_abs from) → pos r ≡ seek_in shape parts level from to key
seek_found shape parts level from to key r ef et ek h e =
    let n = slice_index shape level in
    let count = fibres shape parts 1 level in
    let part = part_at parts level in
    ap pos (e ∙ sym (sought_in n count part (nat_abs from) (nat_abs to) (nat_abs key) h))
    ∙ ap (λ z. seek n count part z (pos (nat_abs to)) (pos (nat_abs key))) (at_place from ef)
    ∙ ap (λ z. seek n count part from z (pos (nat_abs key))) (at_place to et)
    ∙ ap (λ z. seek n count part from to z) (at_place key ek)

pub place_small : (z : ℤ) → SFits w64 z → int_lt z (pos 0) ≡ false → nat_abs z < 2 ^ 63
place_small (pos n) h e = h.sfits
place_small (negsuc n) h e = cc

pub lies_order : (n count : ℕ) (part : Part) (from to : ℕ) → LiesInFibre n count part from to → from ≤ to
lies_order n count part from to h = h.order

-- a word that goes to its bits and back
abbrev pub rt : ℤ → ℤ
rt z = to_z w64 (of_z w64 z)
