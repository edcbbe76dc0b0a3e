-- No two looplets of a loop are for one driven read, nor for one test, since both are numbered in the order of the text.
use Rattle.std.proofs.Common.{◌≡◌, ℕ, ◌+◌, ◌<◌, ◌≤◌, Bool, true, false, ◌&&◌, List, [], ◌∷◌, ◌++◌, map, Option, Some, None, refl, arith, if◌then◌else◌}
use Rattle.std.specs.Prelude.{IfSome, nat_eq, not}
use Rattle.std.specs.List.{list_all}
use Rattle.std.proofs.lemmas.Bool.Decides.{nat_tests}
use Rattle.fin_ast.specs.declared.tree.Expr.{Expr, out-Expr}
use Rattle.fin_ast.specs.declared.tree.Expr.TheOpen.{Expr-F}
use Rattle.fin_ast.specs.declared.tree.Index.{Index}
use Rattle.fin_simp.specs.Found.{numbers_of}
use Rattle.fin_simp.specs.Rest.{Access, Test}
use Rattle.fin_simp.specs.Sights.{driven_index}
use Rattle.fin_simp.specs.Work.{Mask, mask_by, and_mask, masks_among, is_comparison, is_var, is_bound_of}
use Rattle.fin_drive.specs.Turns.{Slot, Driving, Waiting, Testing}
use Rattle.fin_loops.specs.Loops.{Loop, inner, rest_entered, slot_by, slot_in, slots}
use Rattle.fin_loops.proofs.FactsNumbers.{Ascend, wider, tests_of, left_between}

-- two looplets that aren't for one driven read, nor for one test
abbrev pub is_other : Slot → Slot → Bool
is_other (Driving j) (Driving k) = not (nat_eq j k)
is_other (Driving j) Waiting = true
is_other (Driving j) (Testing k) = true
is_other Waiting y = true
is_other (Testing j) (Driving k) = true
is_other (Testing j) Waiting = true
is_other (Testing j) (Testing k) = not (nat_eq j k)

-- no two of them are for one
abbrev pub AreApart : List Slot → Type 0
AreApart [] = Unit {0}
AreApart (x ∷ xs) = (list_all (is_other x) xs ≡ true) × AreApart xs

also : (a b : Bool) → a ≡ true → b ≡ true → (a && b) ≡ true
also true b e f = f
also false b e f = absurd (cc)

less_other : (j k : ℕ) → j < k → not (nat_eq j k) ≡ true
less_other j k lt = grind (arith, nat_tests)

-- ---- tests

abbrev test_numbers : List Mask → List ℕ
test_numbers ms = map (λ (k : Mask). k.test) ms

abbrev test_slots : List Mask → List Slot
test_slots ms = map (λ (k : Mask). Testing k.test) ms

either : (test : ℕ) (a b : Bool) (m n : Mask) → m.test ≡ test → n.test ≡ test → IfSome (if a then Some m else (if b then Some n else None)) (λ k. k.test ≡ test)
either test true b m n e f = e
either test false true m n e f = f
either test false false m n e f = tt

own_test : (var test : ℕ) (e : Expr-F Expr) → IfSome (mask_by [] var test e) (λ k. k.test ≡ test)
own_test var test (Expr-F.Num n) = tt
own_test var test (Expr-F.Var x line) = tt
own_test var test (Expr-F.Read tensor at line) = tt
own_test var test (Expr-F.Neg x) = tt
own_test var test (Expr-F.Two o left right) =
    either test (is_comparison o && (is_var var left && is_bound_of var right)) (is_comparison o && (is_var var right && is_bound_of var left)) _ _ refl refl

and_ascends : (o : Option Mask) (ms : List Mask) (test lo hi : ℕ) → IfSome o (λ k. k.test ≡ test) → lo ≤ test → Ascend (test + 1) hi (test_numbers ms) → Ascend lo hi (test_numbers (and_mask o ms))
and_ascends None ms test lo hi own le h = wider lo (test + 1) hi (test_numbers ms) (omega (arith, le)) h
and_ascends (Some k) ms test lo hi own le h = (omega (arith, le, own), wider (k.test + 1) (test + 1) hi (test_numbers ms) (omega (arith, own)) h)

masks_ascend : (var : ℕ) (ts : List Test) (lo hi : ℕ) → Ascend lo hi (tests_of ts) → Ascend lo hi (test_numbers (masks_among [] var ts))
masks_ascend var [] lo hi h = h
masks_ascend var (t ∷ ts) lo hi h =
    and_ascends (mask_by [] var t.test (out-Expr t.expr)) (masks_among [] var ts) t.test lo hi (own_test var t.test (out-Expr t.expr)) h.0 (masks_ascend var ts (t.test + 1) hi h.1)

tests_other : (j lo hi : ℕ) (ms : List Mask) → j < lo → Ascend lo hi (test_numbers ms) → list_all (is_other (Testing j)) (test_slots ms) ≡ true
tests_other j lo hi [] lt h = refl
tests_other j lo hi (k ∷ ms) lt h =
    also (not (nat_eq j k.test)) (list_all (is_other (Testing j)) (test_slots ms)) (less_other j k.test (omega (arith, lt, h.0)))
    (tests_other j (k.test + 1) hi ms (omega (arith, lt, h.0)) h.1)

tests_apart : (lo hi : ℕ) (ms : List Mask) → Ascend lo hi (test_numbers ms) → AreApart (test_slots ms)
tests_apart lo hi [] h = tt
tests_apart lo hi (k ∷ ms) h = (tests_other k.test (k.test + 1) hi ms (omega arith) h.1, tests_apart (k.test + 1) hi ms h.1)

-- ---- reads

waits_other : (xs : List Slot) → list_all (is_other Waiting) xs ≡ true
waits_other [] = refl
waits_other (x ∷ xs) = waits_other xs

read_test : (j : ℕ) (ms : List Mask) → list_all (is_other (Driving j)) (test_slots ms) ≡ true
read_test j [] = refl
read_test j (k ∷ ms) = read_test j ms

slot_other : (j : ℕ) (a : Access) (o : Option (ℕ × Index)) → j < a.read → is_other (Driving j) (slot_by a o) ≡ true
slot_other j a None lt = refl
slot_other j a (Some d) lt = less_other j a.read lt

module _ (var : ℕ) (ms : List Mask) where
  reads_other : (j lo hi : ℕ) (reads : List Access) → j < lo → Ascend lo hi (numbers_of reads) → list_all (is_other (Driving j)) (map (slot_in var) reads ++ test_slots ms) ≡ true
  reads_other j lo hi [] lt h = read_test j ms
  reads_other j lo hi (a ∷ reads) lt h =
      also (is_other (Driving j) (slot_in var a)) (list_all (is_other (Driving j)) (map (slot_in var) reads ++ test_slots ms))
      (slot_other j a (driven_index var a.at) (omega (arith, lt, h.0))) (reads_other j (a.read + 1) hi reads (omega (arith, lt, h.0)) h.1)

  slot_apart : (a : Access) (o : Option (ℕ × Index)) (hi : ℕ) (reads : List Access) → Ascend (a.read + 1) hi (numbers_of reads)
      → list_all (is_other (slot_by a o)) (map (slot_in var) reads ++ test_slots ms) ≡ true
  slot_apart a None hi reads h = waits_other (map (slot_in var) reads ++ test_slots ms)
  slot_apart a (Some d) hi reads h = reads_other a.read (a.read + 1) hi reads (omega arith) h

  all_apart : (lo hi : ℕ) (reads : List Access) → Ascend lo hi (numbers_of reads) → AreApart (test_slots ms) → AreApart (map (slot_in var) reads ++ test_slots ms)
  all_apart lo hi [] h tests = tests
  all_apart lo hi (a ∷ reads) h tests = (slot_apart a (driven_index var a.at) hi reads h.1, all_apart (a.read + 1) hi reads h.1 tests)

pub slots_are_apart : (l : Loop) → AreApart (slots l)
slots_are_apart l =
    let between = left_between (inner l) l.body l.here in
    let ms = masks_among [] l.var (rest_entered l).tests in
    all_apart l.var ms _ _ (rest_entered l).reads between.0 (tests_apart _ _ ms (masks_ascend l.var (rest_entered l).tests _ _ between.1))
