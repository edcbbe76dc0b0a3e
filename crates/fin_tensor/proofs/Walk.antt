-- The walk down the levels.
use Rattle.std.proofs.Common.{◌≡◌, ℕ, zero, suc, ◌+◌, ◌-◌, ◌^◌, ◌<◌, ◌≤◌, List, [], ◌∷◌, ◌++◌, length, length-drop, drop, drop-cons, refl, sym, ap, subst, ⊎_elim, arith, cond, ℤ, IsTrue}
use Rattle.std.specs.Prelude.{slice_index, slice_index_or, slice_get, nat_lt, nat_eq, true, false, Bool, ◌&&◌, Some, None, IfSome, if◌then◌else◌}
use Rattle.std.proofs.lemmas.Bool.{cases_lt, ltb-true}
use Rattle.std.proofs.lemmas.Nat.{mul-add-lt}
use Rattle.std.proofs.Math.Nat.{mul_comm}
use Rattle.fin_tensor.specs.declared.format.Level.{Level}
use Rattle.fin_tensor.specs.declared.format.Level.TheVariants as level
use Rattle.fin_tensor.specs.declared.part.Part.{Part}
use Rattle.fin_tensor.specs.declared.part.Part.TheVariants as part
use Rattle.fin_tensor.specs.Levels.{IsStored, IsLevel, IsAt, IsPtr, IsStop, IsFibre, positions, fibres, first_from, key_in, block_in, child_in, below, value_from, numbers_of, LiesInFibre, AreSmall}
use Rattle.fin_tensor.specs.TensorFunction.{is_in_box}
use Rattle.fin_tensor.proofs.Fibres.{first_place, ptr_rises, fibre_of_level}

pub stored_small : (count : ℕ) (ls : List Level) (ns : List ℕ) (ps : List Part) (val : List ℤ) → IsStored count ls ns ps val → count ≤ 2 ^ 40
stored_small count [] [] [] val h = h.0
stored_small count (l ∷ ls) (n ∷ ns) (p ∷ ps) val h = h.0
stored_small count [] [] (p ∷ ps) val h = absurd h
stored_small count [] (n ∷ ns) ps val h = absurd h
stored_small count (l ∷ ls) [] ps val h = absurd h
stored_small count (l ∷ ls) (n ∷ ns) [] val h = absurd h

pub stored_lengths : (count : ℕ) (ls : List Level) (ns : List ℕ) (ps : List Part) (val : List ℤ) → IsStored count ls ns ps val → length ns ≡ length ps
stored_lengths count [] [] [] val h = refl
stored_lengths count (l ∷ ls) (n ∷ ns) (p ∷ ps) val h = ap suc (stored_lengths (positions n count p) ls ns ps val h.3)
stored_lengths count [] [] (p ∷ ps) val h = absurd h
stored_lengths count [] (n ∷ ns) ps val h = absurd h
stored_lengths count (l ∷ ls) [] ps val h = absurd h
stored_lengths count (l ∷ ls) (n ∷ ns) [] val h = absurd h

pub stored_levels : (count : ℕ) (ls : List Level) (ns : List ℕ) (ps : List Part) (val : List ℤ) → IsStored count ls ns ps val → length ns ≡ length ls
stored_levels count [] [] [] val h = refl
stored_levels count (l ∷ ls) (n ∷ ns) (p ∷ ps) val h = ap suc (stored_levels (positions n count p) ls ns ps val h.3)
stored_levels count [] [] (p ∷ ps) val h = absurd h
stored_levels count [] (n ∷ ns) ps val h = absurd h
stored_levels count (l ∷ ls) [] ps val h = absurd h
stored_levels count (l ∷ ls) (n ∷ ns) [] val h = absurd h

small_cons : (n : ℕ) (ns : List ℕ) → n ≤ 2 ^ 40 → AreSmall ns → AreSmall (n ∷ ns)
small_cons n ns h r zero lt = h
small_cons n ns h r (suc k) lt = r k (omega arith)

pub stored_extents : (count : ℕ) (ls : List Level) (ns : List ℕ) (ps : List Part) (val : List ℤ) → IsStored count ls ns ps val → AreSmall ns
stored_extents count [] [] [] val h = λ k lt. absurd (omega arith)
stored_extents count (l ∷ ls) (n ∷ ns) (p ∷ ps) val h = small_cons n ns h.1 (stored_extents (positions n count p) ls ns ps val h.3)
stored_extents count [] [] (p ∷ ps) val h = absurd h
stored_extents count [] (n ∷ ns) ps val h = absurd h
stored_extents count (l ∷ ls) [] ps val h = absurd h
stored_extents count (l ∷ ls) (n ∷ ns) [] val h = absurd h

-- a position of level k
pub level_at : (k count : ℕ) (ls : List Level) (ns : List ℕ) (ps : List Part) (val : List ℤ) (pos : ℕ) → IsStored count ls ns ps val → k < length ps → pos < fibres ns ps count k → IsAt (slice_index ns k) (slice_index_or ps k part.Dense) pos
level_at zero count (l ∷ ls) (n ∷ ns) (p ∷ ps) val pos h lt within = record { kind = l; count = count; within = within; few = h.0; small = h.1; level = h.2; positions = stored_small (positions n count p) ls ns ps val h.3 }
level_at (suc k) count (l ∷ ls) (n ∷ ns) (p ∷ ps) val pos h lt within = level_at k (positions n count p) ls ns ps val pos h.3 (omega arith) within
level_at k count [] [] [] val pos h lt within = absurd (omega arith)
level_at k count [] [] (p ∷ ps) val pos h lt within = absurd h
level_at k count [] (n ∷ ns) ps val pos h lt within = absurd h
level_at k count (l ∷ ls) [] ps val pos h lt within = absurd h
level_at k count (l ∷ ls) (n ∷ ns) [] val pos h lt within = absurd h

-- ---- the child of a position is a position of the next level
when_true : (b : Bool) (q m : ℕ) → (b ≡ true → q < m) → IfSome (cond b (Some q) None) (λ x. x < m)
when_true true q m h = h refl
when_true false q m h = tt

pub and_first : (a b : Bool) → (a && b) ≡ true → a ≡ true
and_first true b h = refl
and_first false b h = h

pub and_second : (a b : Bool) → (a && b) ≡ true → b ≡ true
and_second true b h = h
and_second false b h = cc

lt_is : (a b : ℕ) → nat_lt a b ≡ true → a < b
lt_is a b h = ltb-true a b h

key_below : (xs : List ℕ) (from to key m : ℕ) → to ≤ m → IfSome (key_in xs from to key) (λ q. q < m)
key_below xs from to key m le =
    let r = first_from xs key from (to - from) in
    when_true (nat_lt r to && nat_eq (slice_index xs r) key) r m (λ h. let t : r < to = lt_is r to (and_first (nat_lt r to) (nat_eq (slice_index xs r) key) h) in omega arith)

block_below : (from to start i m : ℕ) → to ≤ m → IfSome (block_in from to start i) (λ q. q < m)
block_below from to start i m le = elim (nat_lt i start) as (λ b. IfSome (if b then None else (if nat_lt (i - start) (to - from) then Some (from + (i - start)) else None)) (λ q. q < m)) [
  | true ↦ tt
  | false ↦ when_true (nat_lt (i - start) (to - from)) (from + (i - start)) m (λ h. let t : i - start < to - from = lt_is (i - start) (to - from) h in omega arith)
]

-- the first stop over i
pub run_below : (n count : ℕ) (ptr stop : List ℕ) (pos i : ℕ) → IsPtr count ptr → IsStop n count ptr stop → pos < count → i < n → first_from stop (i + 1) (slice_index ptr pos) (slice_index ptr (pos + 1) - slice_index ptr pos) < slice_index ptr (pos + 1)
run_below n count ptr stop pos i p s h lt =
    let from = slice_index ptr pos in
    let to = slice_index ptr (pos + 1) in
    let f = first_place stop (i + 1) from to (p.rises pos h) in
    let last = s.last pos h (omega arith) in
    ⊎_elim (λ (l : first_from stop (i + 1) from (to - from) < to). l)
    (λ (l : to ≤ first_from stop (i + 1) from (to - from)). let b : slice_index stop (to - 1) < i + 1 = f.before (to - 1) (omega (arith, last.0)) (omega (arith, last.0)) in absurd (omega (arith, last.1)))
    (cases_lt (first_from stop (i + 1) from (to - from)) to)

pub child_within : (l : Level) (n count : ℕ) (p : Part) (pos i : ℕ) → IsLevel l n count p → pos < count → i < n → IfSome (child_in n p pos i) (λ q. q < positions n count p)
child_within level.Dense n count part.Dense pos i h a b = omega (arith, mul-add-lt pos n i count a b, mul_comm n count)
child_within level.List n count (part.Keys ptr idx) pos i h a b = key_below idx _ _ i _ (ptr_rises count ptr h.0 (pos + 1) count (omega arith) (omega arith))
child_within level.Dict n count (part.Keys ptr idx) pos i h a b = key_below idx _ _ i _ (ptr_rises count ptr h.0 (pos + 1) count (omega arith) (omega arith))
child_within level.Runs n count (part.Runs ptr stop) pos i h a b = omega (arith, run_below n count ptr stop pos i h.0 h.1 a b, ptr_rises count ptr h.0 (pos + 1) count (omega arith) (omega arith))
child_within level.Band n count (part.Band ptr start) pos i h a b = block_below _ _ (slice_index start pos) i _ (ptr_rises count ptr h.0 (pos + 1) count (omega arith) (omega arith))
child_within l n count p pos i h a b = absurd h

-- ---- one level further
pub fibres_more : (k count : ℕ) (ns : List ℕ) (ps : List Part) → k < length ps → k < length ns → fibres ns ps count (suc k) ≡ positions (slice_index ns k) (fibres ns ps count k) (slice_index_or ps k part.Dense)
fibres_more zero count (n ∷ ns) (p ∷ ps) h e = refl
fibres_more (suc k) count (n ∷ ns) (p ∷ ps) h e = fibres_more k (positions n count p) ns ps (omega arith) (omega arith)
fibres_more k count ns [] h e = absurd (omega arith)
fibres_more k count [] (p ∷ ps) h e = absurd (omega arith)

-- parts that are put last change nothing before
pub fibres_kept : (k count : ℕ) (ns : List ℕ) (ps qs : List Part) → k ≤ length ps → fibres ns (ps ++ qs) count k ≡ fibres ns ps count k
fibres_kept zero count ns ps qs h = refl
fibres_kept (suc k) count (n ∷ ns) (p ∷ ps) qs h = fibres_kept k (positions n count p) ns ps qs (omega arith)
fibres_kept (suc k) count [] (p ∷ ps) qs h = refl
fibres_kept (suc k) count ns [] qs h = absurd (omega arith)

pub kind_at : (k count : ℕ) (ls : List Level) (ns : List ℕ) (ps : List Part) (val : List ℤ) → IsStored count ls ns ps val → k < length ps → (l : Level) × IsLevel l (slice_index ns k) (fibres ns ps count k) (slice_index_or ps k part.Dense)
kind_at zero count (l ∷ ls) (n ∷ ns) (p ∷ ps) val h lt = (l, h.2)
kind_at (suc k) count (l ∷ ls) (n ∷ ns) (p ∷ ps) val h lt = kind_at k (positions n count p) ls ns ps val h.3 (omega arith)
kind_at k count [] [] [] val h lt = absurd (omega arith)
kind_at k count [] [] (p ∷ ps) val h lt = absurd h
kind_at k count [] (n ∷ ns) ps val h lt = absurd h
kind_at k count (l ∷ ls) [] ps val h lt = absurd h
kind_at k count (l ∷ ls) (n ∷ ns) [] val h lt = absurd h

pub child_at_within : (k count : ℕ) (ls : List Level) (ns : List ℕ) (ps : List Part) (val : List ℤ) (pos i : ℕ) → IsStored count ls ns ps val → k < length ps → pos < fibres ns ps count k → i < slice_index ns k →
    IfSome (child_in (slice_index ns k) (slice_index_or ps k part.Dense) pos i) (λ q. q < fibres ns ps count (k + 1))
child_at_within k count ls ns ps val pos i h lt within a =
    let kind = kind_at k count ls ns ps val h lt in
    let e : fibres ns ps count (k + 1) ≡ positions (slice_index ns k) (fibres ns ps count k) (slice_index_or ps k part.Dense) = (let o : k + 1 ≡ suc k = omega arith in rw o (fibres_more k count ns ps lt (omega (arith, lt, stored_lengths count ls ns ps val h)))) in
    subst (λ (m : ℕ). IfSome (child_in (slice_index ns k) (slice_index_or ps k part.Dense) pos i) (λ q. q < m)) (sym e)
    (child_within kind.0 (slice_index ns k) (fibres ns ps count k) (slice_index_or ps k part.Dense) pos i kind.1 within a)

-- the value below level k
pub value_step : (k : ℕ) (ns : List ℕ) (ps : List Part) (val : List ℤ) (fill : ℤ) (pos : ℕ) (cs : List ℕ) → k < length ns → k < length ps → k < length cs →
    value_from (drop k ns) (drop k ps) val fill pos (drop k cs) ≡ below (child_in (slice_index ns k) (slice_index_or ps k part.Dense) pos (slice_index cs k)) (λ q. value_from (drop (k + 1) ns) (drop (k + 1) ps) val fill q (drop (k + 1) cs)) fill
value_step k ns ps val fill pos cs a b c =
    let o : k + 1 ≡ suc k = omega arith in
    rw (o, drop-cons ns k 0 a, drop-cons ps k part.Dense b, drop-cons cs k 0 c) refl

pub value_end : (ns : List ℕ) (ps : List Part) (val : List ℤ) (fill : ℤ) (pos : ℕ) (cs : List ℕ) → length ps ≡ 0 → value_from ns ps val fill pos cs ≡ slice_index_or val pos fill
value_end ns [] val fill pos cs h = refl
value_end ns (p ∷ ps) val fill pos cs h = absurd (omega arith)

pub box_length : (ns cs : List ℕ) → IsTrue (is_in_box ns cs) → length cs ≡ length ns
box_length [] [] h = refl
box_length (n ∷ ns) (c ∷ cs) h = ap suc (box_length ns cs (and_second (nat_lt c n) (is_in_box ns cs) h))
box_length [] (c ∷ cs) h = cc
box_length (n ∷ ns) [] h = cc

pub box_at : (k : ℕ) (ns cs : List ℕ) → IsTrue (is_in_box ns cs) → k < length cs → slice_index cs k < slice_index ns k
box_at zero (n ∷ ns) (c ∷ cs) h lt = ltb-true c n (and_first (nat_lt c n) (is_in_box ns cs) h)
box_at (suc k) (n ∷ ns) (c ∷ cs) h lt = box_at k ns cs (and_second (nat_lt c n) (is_in_box ns cs) h) (omega arith)
box_at k ns [] h lt = absurd (omega arith)
box_at k [] (c ∷ cs) h lt = cc

-- how many fibres the levels end with
pub stored_values : (count : ℕ) (ls : List Level) (ns : List ℕ) (ps : List Part) (val : List ℤ) → IsStored count ls ns ps val → length val ≡ fibres ns ps count (length ps)
stored_values count [] [] [] val h = h.1
stored_values count (l ∷ ls) (n ∷ ns) (p ∷ ps) val h = stored_values (positions n count p) ls ns ps val h.3
stored_values count [] [] (p ∷ ps) val h = absurd h
stored_values count [] (n ∷ ns) ps val h = absurd h
stored_values count (l ∷ ls) [] ps val h = absurd h
stored_values count (l ∷ ls) (n ∷ ns) [] val h = absurd h

-- ---- what the code reads
pub got : {A : Type 0} (xs : List A) (k : ℕ) (d x : A) → slice_get xs k ≡ Some x → x ≡ slice_index_or xs k d
got [] k d x h = cc
got (y ∷ ys) zero d x h = cc
got (y ∷ ys) (suc k) d x h = got ys k d x h

pub same_at : (n n' : ℕ) (p p' : Part) (pos : ℕ) → n' ≡ n → p' ≡ p → IsAt n p pos → IsAt n' p' pos
same_at n n' p p' pos a b h = subst (λ (m : ℕ). IsAt m p' pos) (sym a) (subst (λ (q : Part). IsAt n q pos) (sym b) h)

lies_keys : (n count : ℕ) (p : Part) (xs : List ℕ) (from to a b : ℕ) → IsFibre xs a b → a ≤ from → from ≤ to → to ≤ b → IsFibre xs from to
lies_keys n count p xs from to a b f l o h = record { order = o; within = omega (arith, f.within); short = omega (arith, f.short); rises = λ j k u v w. f.rises j k (omega arith) v (omega arith) }

pub lies : (l : Level) (n count : ℕ) (p : Part) (from to : ℕ) → IsLevel l n count p → LiesInFibre n count p from to → IsFibre (numbers_of p) from to
lies level.List n count (part.Keys ptr idx) from to h lf = lies_keys n count (part.Keys ptr idx) idx from to (slice_index ptr lf.pos) (slice_index ptr (lf.pos + 1)) (fibre_of_level count ptr idx lf.pos h.0 h.1.long h.1.rises lf.within) lf.low lf.order lf.high
lies level.Dict n count (part.Keys ptr idx) from to h lf = lies_keys n count (part.Keys ptr idx) idx from to (slice_index ptr lf.pos) (slice_index ptr (lf.pos + 1)) (fibre_of_level count ptr idx lf.pos h.0 h.1.long h.1.rises lf.within) lf.low lf.order lf.high
lies level.Runs n count (part.Runs ptr stop) from to h lf = lies_keys n count (part.Runs ptr stop) stop from to (slice_index ptr lf.pos) (slice_index ptr (lf.pos + 1)) (fibre_of_level count ptr stop lf.pos h.0 h.1.long h.1.rises lf.within) lf.low lf.order lf.high
lies level.Dense n count part.Dense from to h lf = absurd lf.numbers
lies level.Band n count (part.Band ptr start) from to h lf = absurd lf.numbers
lies l n count p from to h lf = absurd h

pub drop_length : {A : Type 0} (k : ℕ) (xs : List A) → length xs ≤ k → length (drop k xs) ≡ 0
drop_length k xs h = simp length-drop (omega arith)

pub numbers_small : (l : Level) (n count : ℕ) (p : Part) → IsLevel l n count p → AreSmall (numbers_of p)
numbers_small level.Dense n count part.Dense h = λ k lt. absurd (omega arith)
numbers_small level.List n count (part.Keys ptr idx) h = h.1.small
numbers_small level.Dict n count (part.Keys ptr idx) h = h.1.small
numbers_small level.Runs n count (part.Runs ptr stop) h = h.1.small
numbers_small level.Band n count (part.Band ptr start) h = λ k lt. absurd (omega arith)
numbers_small l n count p h = absurd h
