-- Searches that lie in a fibre, and the sizes of the numbers that are read.
use Rattle.std.proofs.Common.{◌≡◌, ℕ, zero, suc, ◌+◌, ◌-◌, ◌<◌, ◌≤◌, Bool, true, false, List, [], length, refl, sym, ap, ◌∙◌, ℤ, arith, ⊎_elim}
use Rattle.std.specs.Prelude.{nat_le, ◌&&◌, ◌||◌, if◌then◌else◌, slice_index}
use Rattle.std.specs.List.{list_any, range_with_len}
use Rattle.std.proofs.lemmas.Bool.{and_parts, cases_lt}
use Rattle.std.proofs.lemmas.Bool.Decides.{nat_tests}
use Rattle.fin_tensor.specs.declared.format.Level.{Level}
use Rattle.fin_tensor.specs.declared.format.Level.TheVariants as level
use Rattle.fin_tensor.specs.declared.part.Part.{Part}
use Rattle.fin_tensor.specs.declared.part.Part.TheVariants.{Dense, Keys, Runs, Band}
use Rattle.fin_tensor.specs.Levels.{AreSmall, IsLevel, IsStored, LiesInFibre, HasNumbers, fibre_from, fibre_to, first_from, numbers_of, wanted, fibres}
use Rattle.fin_tensor.proofs.Walk.{kind_at}
use Rattle.fin_ir.specs.declared.expression.Table.{Table}
use Rattle.fin_ir.specs.declared.expression.Table.TheVariants.{Ptr, Idx, Stop, Start}
use Rattle.fin_ir.specs.Loads.{table_in, part_at, has_numbers, holds, lies_in_fibre, sought}

-- ---- searches

either : (a b : Bool) → a ≡ true → (a || b) ≡ true
either a b e = ap (λ x. x || b) e

or_else : (a b : Bool) → b ≡ true → (a || b) ≡ true
or_else true b e = refl
or_else false b e = e

-- some position of the count from `from` on holds
pub found : (p : ℕ → Bool) (from count : ℕ) → list_any p (range_with_len from count) ≡ true → (k : ℕ) × (from ≤ k) × (k < from + count) × (p k ≡ true)
found p from zero e = cc
found p from (suc count) e =
    elim (p from) as (λ b. p from ≡ b → (k : ℕ) × (from ≤ k) × (k < from + suc count) × (p k ≡ true)) [
      | true ↦ (λ h. (from, omega arith, omega arith, h))
      | false ↦ (λ h. let rest : list_any p (range_with_len (from + 1) count) ≡ true = sym (ap (λ b. b || list_any p (range_with_len (from + 1) count)) h) ∙ e in
          let q = found p (from + 1) count rest in (q.0, omega (arith, q.1), omega (arith, q.2), q.3))
    ] refl

pub finds : (p : ℕ → Bool) (from count k : ℕ) → from ≤ k → k < from + count → p k ≡ true → list_any p (range_with_len from count) ≡ true
finds p from zero k lo hi e = absurd (omega arith)
finds p from (suc count) k lo hi e =
    ⊎_elim (λ (h : from < k). or_else (p from) _ (finds p (from + 1) count k (omega arith) (omega arith) e)) (λ (h : k ≤ from). let here : from ≡ k = omega arith in either (p from) _ (ap p here ∙ e)) (cases_lt from k)

numbers_held : (part : Part) → has_numbers part ≡ true → HasNumbers part
numbers_held Dense e = cc
numbers_held (Keys ptr idx) e = tt
numbers_held (Runs ptr stop) e = tt
numbers_held (Band ptr start) e = cc

held_numbers : (part : Part) → HasNumbers part → has_numbers part ≡ true
held_numbers Dense h = absurd h
held_numbers (Keys ptr idx) h = refl
held_numbers (Runs ptr stop) h = refl
held_numbers (Band ptr start) h = absurd h

pub lies_of : (n count : ℕ) (part : Part) (from to : ℕ) → lies_in_fibre n count part from to ≡ true → LiesInFibre n count part from to
lies_of n count part from to e =
    let p = and_parts (has_numbers part && nat_le from to) (list_any (holds n part from to) (range_with_len 0 count)) e in
    let q = and_parts (has_numbers part) (nat_le from to) p.0 in
    let k = found (holds n part from to) 0 count p.1 in
    let h = and_parts (nat_le (fibre_from n part k.0) from) (nat_le to (fibre_to n part k.0)) k.3 in
    record {
      numbers = numbers_held part q.0;
      pos = k.0;
      within = omega (arith, k.2);
      low = (let g = h.0 in grind (arith, nat_tests));
      order = (let g = q.1 in grind (arith, nat_tests));
      high = (let g = h.1 in grind (arith, nat_tests));
    }

pub of_lies : (n count : ℕ) (part : Part) (from to : ℕ) → LiesInFibre n count part from to → lies_in_fibre n count part from to ≡ true
of_lies n count part from to h =
    let low = h.low in
    let high = h.high in
    let order = h.order in
    let lower : nat_le (fibre_from n part h.pos) from ≡ true = grind (arith, nat_tests) in
    let upper : nat_le to (fibre_to n part h.pos) ≡ true = grind (arith, nat_tests) in
    let ordered : nat_le from to ≡ true = grind (arith, nat_tests) in
    let here : holds n part from to h.pos ≡ true = ap (λ b. b && nat_le to (fibre_to n part h.pos)) lower ∙ upper in
    let some = finds (holds n part from to) 0 count h.pos (omega arith) (omega (arith, h.within)) here in
    ap (λ b. (b && nat_le from to) && list_any (holds n part from to) (range_with_len 0 count)) (held_numbers part h.numbers)
    ∙ ap (λ b. b && list_any (holds n part from to) (range_with_len 0 count)) ordered ∙ some

-- the search of a storage, where it lies in a fibre
pub sought_in : (n count : ℕ) (part : Part) (from to key : ℕ) → LiesInFibre n count part from to → sought n count part from to key ≡ first_from (numbers_of part) (wanted part key) from (to - from)
sought_in n count part from to key h = ap (λ b. if b then first_from (numbers_of part) (wanted part key) from (to - from) else from) (of_lies n count part from to h)

-- ---- numbers that are read

none_small : AreSmall []
none_small k h = absurd (omega arith)

level_tables : (l : Level) (n count : ℕ) (part : Part) (table : Table) → IsLevel l n count part → AreSmall (table_in table part)
level_tables level.Dense n count Dense Ptr h = none_small
level_tables level.Dense n count Dense Idx h = none_small
level_tables level.Dense n count Dense Stop h = none_small
level_tables level.Dense n count Dense Start h = none_small
level_tables level.List n count (Keys ptr idx) Ptr h = h.0.small
level_tables level.List n count (Keys ptr idx) Idx h = h.1.small
level_tables level.List n count (Keys ptr idx) Stop h = none_small
level_tables level.List n count (Keys ptr idx) Start h = none_small
level_tables level.Dict n count (Keys ptr idx) Ptr h = h.0.small
level_tables level.Dict n count (Keys ptr idx) Idx h = h.1.small
level_tables level.Dict n count (Keys ptr idx) Stop h = none_small
level_tables level.Dict n count (Keys ptr idx) Start h = none_small
level_tables level.Runs n count (Runs ptr stop) Ptr h = h.0.small
level_tables level.Runs n count (Runs ptr stop) Idx h = none_small
level_tables level.Runs n count (Runs ptr stop) Stop h = h.1.small
level_tables level.Runs n count (Runs ptr stop) Start h = none_small
level_tables level.Band n count (Band ptr start) Ptr h = h.0.small
level_tables level.Band n count (Band ptr start) Idx h = none_small
level_tables level.Band n count (Band ptr start) Stop h = none_small
level_tables level.Band n count (Band ptr start) Start h = h.1.small
level_tables l n count part table h = absurd h

-- the lists of each level of a storage hold small numbers
pub tables_small : (k : ℕ) (ls : List Level) (ns : List ℕ) (ps : List Part) (val : List ℤ) (table : Table) → IsStored 1 ls ns ps val → k < length ps → AreSmall (table_in table (part_at ps k))
tables_small k ls ns ps val table h b = let q = kind_at k 1 ls ns ps val h b in level_tables q.0 (slice_index ns k) (fibres ns ps 1 k) (part_at ps k) table q.1
