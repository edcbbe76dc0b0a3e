-- What is known lasts to the end of a piece.
use Rattle.std.proofs.Common.{◌≡◌, ⊎_elim, ℕ, zero, suc, ◌+◌, ◌-◌, ◌<◌, ℤ, pos, negsuc, ◌+ℤ◌, Bool, true, false, not, ◌&&◌, ◌||◌, List, [], ◌∷◌, Option, Some, None, refl, sym, ap, ◌∙◌, arith, subst, if◌then◌else◌}
use Rattle.std.specs.Prelude.{is_some, is_none, nat_eq, nat_lt, int_lt, int_le, slice_index, slice_set}
use Rattle.std.specs.List.{list_all, list_any}
use Rattle.std.specs.Option.{option_or}
use Rattle.std.specs.Ordering.{int_eq}
use Rattle.std.proofs.lemmas.Int.{ints}
use Rattle.std.proofs.lemmas.Bool.Decides.{nat_tests}
use Rattle.fin_base.specs.Words.{operate, truth}
use Rattle.fin_base.specs.declared.terms.Op.{Op}
use Rattle.fin_base.specs.declared.terms.Op.TheVariants as op
use Rattle.fin_tensor.specs.declared.part.Part.{Part}
use Rattle.fin_tensor.specs.declared.part.Part.TheVariants as part
use Rattle.fin_tensor.specs.Levels.{block_in}
use Rattle.fin_tensor.specs.Pieces.{Course, walked, followed, holds_number, ends_after}
use Rattle.fin_ast.specs.declared.tree.Index.{Index}
use Rattle.fin_ast.specs.Value.{Numbers, place}
use Rattle.fin_simp.specs.Sights.{Stand, Nowhere, At, Unsettled, Sight, fibre_sight, stand_sight, course_of, edged, empty, sight_at}
use Rattle.fin_simp.specs.Work.{Driven, Mask, mask_value, is_comparison, mask_ends, sight_of, gap_among, test_among, begins_chunk}
use Rattle.fin_simp.specs.Lasting.{IsInside, SeenSame, SightsLast, MovesInside, AllMove, KnownLasts}

pub first_false : (a b : Bool) → (a || b) ≡ false → a ≡ false
first_false true b h = h
first_false false b h = refl

pub second_false : (a b : Bool) → (a || b) ≡ false → b ≡ false
second_false true b h = let e : true ≡ false = h in cc
second_false false b h = h

none_is : (o : Option ℕ) → is_some o ≡ false → is_none o ≡ true
none_is None h = refl
none_is (Some q) h = let e : true ≡ false = h in cc

-- ---- along a fibre

none_or_some : (o : Option ℕ) → is_none o ≡ not (is_some o)
none_or_some None = refl
none_or_some (Some q) = refl

block_some : (a b : Bool) (q : ℕ) → is_some (if a then None else (if b then Some q else None)) ≡ (not a && b)
block_some true b q = refl
block_some false true q = refl
block_some false false q = refl

within_block : (from to start c : ℕ) → is_some (block_in from to start c) ≡ (not (nat_lt c start) && nat_lt (c - start) (to - from))
within_block from to start c = block_some (nat_lt c start) (nat_lt (c - start) (to - from)) (from + (c - start))

block_lasts : (from to start c : ℕ) → (nat_lt from to && (nat_eq (c + 1) start || nat_eq (c + 1) (start + (to - from)))) ≡ false
    → (not (nat_lt c start) && nat_lt (c - start) (to - from)) ≡ (not (nat_lt (c + 1) start) && nat_lt (c + 1 - start) (to - from))
block_lasts from to start c h = grind (arith, nat_tests, h)

fibre_lasts : (course : Course) (n : ℕ) (p : Part) (q c : ℕ) → ends_after course p q c ≡ false → SeenSame (fibre_sight course n p q c) (fibre_sight course n p q (c + 1))
fibre_lasts walked n part.Dense q c h = record { gap = refl; varies = refl }
fibre_lasts walked n (part.Keys ptr idx) q c h =
    let from = slice_index ptr q in
    let to = slice_index ptr (q + 1) in
    let here = first_false (holds_number idx from to c) (holds_number idx from to (c + 1)) h in
    let next = second_false (holds_number idx from to c) (holds_number idx from to (c + 1)) h in
    record { gap = none_is _ here ∙ sym (none_is _ next); varies = refl }
fibre_lasts walked n (part.Runs ptr stop) q c h = record { gap = refl; varies = refl }
fibre_lasts walked n (part.Band ptr start) q c h =
    let from = slice_index ptr q in
    let to = slice_index ptr (q + 1) in
    let s = slice_index start q in
    let same : is_some (block_in from to s c) ≡ is_some (block_in from to s (c + 1)) = within_block from to s c ∙ block_lasts from to s c h ∙ sym (within_block from to s (c + 1)) in
    record { gap = none_or_some _ ∙ ap not same ∙ sym (none_or_some _); varies = same }
fibre_lasts followed n p q c h = record { gap = refl; varies = refl }

stand_lasts : (course : Course) (n : ℕ) (stand : Stand) (c : ℕ) → (stand_sight course n stand c).ends ≡ false → SeenSame (stand_sight course n stand c) (stand_sight course n stand (c + 1))
stand_lasts course n Nowhere c h = record { gap = refl; varies = refl }
stand_lasts course n (At p q) c h = fibre_lasts course n p q c h
stand_lasts course n Unsettled c h = record { gap = refl; varies = refl }

-- ---- along an extent, which a loose index may leave

both_true : (a b : Bool) → a ≡ true → b ≡ true → (a && b) ≡ true
both_true true b h k = k
both_true false b h k = let e : false ≡ true = h in cc

step_lasts : (a b edge edge' : Bool) (s s' : Sight) → (s.ends ≡ false → SeenSame s s') → (a ≡ true → b ≡ false → edge ≡ true) → (a ≡ false → b ≡ false)
    → (if a then edged edge s else empty).ends ≡ false → SeenSame (if a then edged edge s else empty) (if b then edged edge' s' else empty)
step_lasts true true edge edge' s s' f g k h = let q = f (second_false edge s.ends h) in record { gap = q.gap; varies = q.varies }
step_lasts true false edge edge' s s' f g k h = let e : true ≡ false = sym (g refl refl) ∙ first_false edge s.ends h in cc
step_lasts false true edge edge' s s' f g k h = let e : true ≡ false = k refl in cc
step_lasts false false edge edge' s s' f g k h = record { gap = refl; varies = refl }

last_one : (c n : ℕ) → nat_lt c n ≡ true → nat_lt (c + 1) n ≡ false → nat_eq (c + 1) n ≡ true
last_one c n h k = grind (arith, nat_tests)

abbrev size_of : ℤ → ℕ
size_of (pos n) = n
size_of (negsuc n) = n

abbrev is_below : ℤ → Bool
is_below (pos n) = false
is_below (negsuc n) = true

not_inside : (c n x : ℕ) → nat_lt (c + 1) n ≡ false → pos (c + 1) ≡ pos x → x < n → ⊥
not_inside c n x h e lt = let q : c + 1 ≡ x = ap size_of e in let r : nat_lt (c + 1) n ≡ true = grind (arith, nat_tests) in let f : true ≡ false = sym r ∙ h in cc

edge_there : (i : Index) (c n : ℕ) → IsInside i n (pos (c + 1)) → nat_lt c n ≡ true → nat_lt (c + 1) n ≡ false → (i.loose && nat_eq (c + 1) n) ≡ true
edge_there i c n next h k = ⊎_elim (λ (l : i.loose ≡ true). both_true i.loose (nat_eq (c + 1) n) l (last_one c n h k)) (λ (q : (x : ℕ) × (pos (c + 1) ≡ pos x) × (x < n)). absurd (not_inside c n q.0 k q.1 q.2)) next

stays_out : (c n : ℕ) → nat_lt c n ≡ false → nat_lt (c + 1) n ≡ false
stays_out c n h = grind (arith, nat_tests)

no_place : (x : ℕ) → negsuc 0 ≡ pos x → ⊥
no_place x e = let f : true ≡ false = ap is_below e in cc

not_before : (i : Index) (n : ℕ) → IsInside i n (negsuc 0) → (i.loose || false) ≡ false → ⊥
not_before i n here h = ⊎_elim (λ (l : i.loose ≡ true). let e : true ≡ false = sym l ∙ first_false i.loose false h in cc) (λ (q : (x : ℕ) × (negsuc 0 ≡ pos x) × (x < n)). no_place q.0 q.1) here

pub sights_last : SightsLast
sights_last i n stand (pos c) here next h =
    let one : pos c +ℤ pos 1 ≡ pos (c + 1) = grind (arith, ints) in
    subst (λ (z : ℤ). SeenSame (sight_at i n stand (pos c)) (sight_at i n stand z)) (sym one)
    (step_lasts (nat_lt c n) (nat_lt (c + 1) n) (i.loose && nat_eq (c + 1) n) (i.loose && nat_eq (c + 1 + 1) n) (stand_sight (course_of i.proto) n stand c) (stand_sight (course_of i.proto) n stand (c + 1))
    (stand_lasts (course_of i.proto) n stand c) (edge_there i c n (subst (IsInside i n) one next)) (stays_out c n) h)
sights_last i n stand (negsuc zero) here next h = absurd (not_before i n here h)
sights_last i n stand (negsuc (suc zero)) here next h =
    let one : negsuc 1 +ℤ pos 1 ≡ negsuc 0 = grind (arith, ints) in
    subst (λ (z : ℤ). SeenSame (sight_at i n stand (negsuc 1)) (sight_at i n stand z)) (sym one) (record { gap = refl; varies = refl })
sights_last i n stand (negsuc (suc (suc c))) here next h =
    let one : negsuc (suc (suc c)) +ℤ pos 1 ≡ negsuc (suc c) = grind (arith, ints) in
    subst (λ (z : ℤ). SeenSame (sight_at i n stand (negsuc (suc (suc c)))) (sight_at i n stand z)) (sym one) (record { gap = refl; varies = refl })

-- ---- masks

module _ (b : ℤ) (c : ℕ) (p : int_eq b (pos c) ≡ false) (q : int_eq b (pos (c + 1)) ≡ false) where
  less_first : int_lt (pos c) b ≡ int_lt (pos (c + 1)) b
  less_first = grind (arith, ints, p, q)

  less_second : int_lt b (pos c) ≡ int_lt b (pos (c + 1))
  less_second = grind (arith, ints, p, q)

  most_first : int_le (pos c) b ≡ int_le (pos (c + 1)) b
  most_first = grind (arith, ints, p, q)

  most_second : int_le b (pos c) ≡ int_le b (pos (c + 1))
  most_second = grind (arith, ints, p, q)

  same_first : int_eq (pos c) b ≡ int_eq (pos (c + 1)) b
  same_first = grind (arith, ints, p, q)

  same_second : int_eq b (pos c) ≡ int_eq b (pos (c + 1))
  same_second = p ∙ sym q

  compares_first : (o : Op) → is_comparison o ≡ true → operate o (pos c) b ≡ operate o (pos (c + 1)) b
  compares_first op.Lt h = ap truth less_first
  compares_first op.Le h = ap truth most_first
  compares_first op.Gt h = ap truth less_second
  compares_first op.Ge h = ap truth most_second
  compares_first op.Eq h = ap truth same_first
  compares_first op.Ne h = ap (λ x. truth (not x)) same_first
  compares_first _ h = let e : false ≡ true = h in cc

  compares_second : (o : Op) → is_comparison o ≡ true → operate o b (pos c) ≡ operate o b (pos (c + 1))
  compares_second op.Lt h = ap truth less_second
  compares_second op.Le h = ap truth most_second
  compares_second op.Gt h = ap truth less_first
  compares_second op.Ge h = ap truth most_first
  compares_second op.Eq h = ap truth same_second
  compares_second op.Ne h = ap (λ x. truth (not x)) same_second
  compares_second _ h = let e : false ≡ true = h in cc

either_side : (b : Bool) (x x' y y' : ℤ) → x ≡ x' → y ≡ y' → (if b then x else y) ≡ (if b then x' else y')
either_side true x x' y y' h k = h
either_side false x x' y y' h k = k

mask_lasts : (m : Mask) (c : ℕ) → is_comparison m.op ≡ true → mask_ends c m ≡ false → mask_value m (pos c) ≡ mask_value m (pos (c + 1))
mask_lasts m c o h =
    let p = first_false (int_eq m.bound (pos c)) (int_eq m.bound (pos (c + 1))) h in
    let q = second_false (int_eq m.bound (pos c)) (int_eq m.bound (pos (c + 1))) h in
    either_side m.bare_first _ _ _ _ (compares_first m.bound c p q m.op o) (compares_second m.bound c p q m.op o)

both_first : (a b : Bool) → (a && b) ≡ true → a ≡ true
both_first true b h = refl
both_first false b h = h

both_second : (a b : Bool) → (a && b) ≡ true → b ≡ true
both_second true b h = h
both_second false b h = let e : false ≡ true = h in cc

tests_last : (ms : List Mask) (c k : ℕ) → list_all (λ (m : Mask). is_comparison m.op) ms ≡ true → list_any (mask_ends c) ms ≡ false → test_among ms c k ≡ test_among ms (c + 1) k
tests_last [] c k o h = refl
tests_last (m ∷ ms) c k o h =
    let first = mask_lasts m c (both_first (is_comparison m.op) (list_all (λ (x : Mask). is_comparison x.op) ms) o) (first_false (mask_ends c m) (list_any (mask_ends c) ms) h) in
    let rest = tests_last ms c k (both_second (is_comparison m.op) (list_all (λ (x : Mask). is_comparison x.op) ms) o) (second_false (mask_ends c m) (list_any (mask_ends c) ms) h) in
    ap (λ (v : ℤ). if nat_eq m.test k then Some v else test_among ms c k) first ∙ ap (λ (v : Option ℤ). if nat_eq m.test k then Some (mask_value m (pos (c + 1))) else v) rest

-- ---- driven reads

pub driven_lasts : (vars : Numbers) (var c : ℕ) (d : Driven) → MovesInside vars var c d → (sight_of vars var c d).ends ≡ false → SeenSame (sight_of vars var c d) (sight_of vars var (c + 1) d)
driven_lasts vars var c d q h =
    subst (λ (z : ℤ). SeenSame (sight_of vars var c d) (sight_at d.index d.extent d.stand z)) (sym q.step) (sights_last d.index d.extent d.stand (place (slice_set vars var (pos c)) d.index) q.here q.next h)

gaps_last : (ds : List Driven) (vars : Numbers) (var c k : ℕ) → AllMove vars var c ds → list_any (λ (d : Driven). (sight_of vars var c d).ends) ds ≡ false → gap_among ds (sight_of vars var c) k ≡ gap_among ds (sight_of vars var (c + 1)) k
gaps_last [] vars var c k q h = refl
gaps_last (d ∷ ds) vars var c k q h =
    let first = driven_lasts vars var c d q.0 (first_false (sight_of vars var c d).ends (list_any (λ (x : Driven). (sight_of vars var c x).ends) ds) h) in
    let rest = gaps_last ds vars var c k q.1 (second_false (sight_of vars var c d).ends (list_any (λ (x : Driven). (sight_of vars var c x).ends) ds) h) in
    ap (λ (g : Bool). if nat_eq d.read k && g then Some d.fill else gap_among ds (sight_of vars var c) k) first.gap
    ∙ ap (λ (v : Option ℤ). if nat_eq d.read k && (sight_of vars var (c + 1) d).gap then Some d.fill else v) rest

-- ---- at a coordinate

pub known_lasts : KnownLasts
known_lasts e vars m c moves compare h =
    let seen = list_any (λ (d : Driven). (sight_of vars e.var c d).ends) e.driven in
    let masked = list_any (mask_ends c) e.masks in
    let both = first_false (seen || masked) (begins_chunk e.len e.chunks (c + 1 - e.lo)) h in
    record {
      known = record {
        reads = λ k. ap (option_or (m.reads k)) (gaps_last e.driven vars e.var c k moves (first_false seen masked both));
        tests = λ k. ap (option_or (m.tests k)) (tests_last e.masks c k compare (second_false seen masked both));
        vars = λ x. refl;
      };
      varies = λ d q s. (driven_lasts vars e.var c d q s).varies;
    }
