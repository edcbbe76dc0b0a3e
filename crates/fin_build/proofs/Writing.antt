-- What entries that are written to other rows make.
use Rattle.std.proofs.Common.{◌≡◌, ◌≢◌, ℕ, zero, suc, ◌+◌, ◌-◌, ◌<◌, ◌≤◌, List, [], ◌∷◌, refl, sym, ap, ◌∙◌, arith, ℤ, Bool, true, false, cond, Option, Some, None, IfSome, IsTrue, unwrap_or, length}
use Rattle.std.specs.Prelude.{T, ◌&&◌, nat_lt, nat_le, if◌then◌else◌, slice_index, slice_index_or, option_map}
use Rattle.std.specs.Ordering.{nat_cmp, eq_by_cmp}
use Rattle.std.specs.Cmp.Lexicographic.{slice_cmp}
use Rattle.std.specs.declared.cmp.Ordering.{Ordering}
use Rattle.std.specs.FinMap.Entries.{is_sorted, find}
use Rattle.std.proofs.lemmas.Bool.Decides.{nat_tests}
use Rattle.fin_tensor.specs.TensorFunction.{TensorFunction, is_in_box, value_at}
use Rattle.fin_tensor.proofs.Functions.{gives_one_place, tied, tied_are_same}
use Rattle.fin_grid.proofs.Maps.{rest_rises, first_is_alone}
use Rattle.fin_build.specs.declared.rows.Shift.{Shift}
use Rattle.fin_build.specs.declared.rows.Shift.TheVariants.{Down, Outside, Up}
use Rattle.fin_build.specs.Entries.{Entry}
use Rattle.fin_build.specs.Shifts.{row_to, goes_to, put_at, written_one, written, Lands, AllLand}

abbrev pub order : List ℕ → List ℕ → Ordering
order = slice_cmp nat_cmp

-- ---- the coordinates that go to some coordinates
abbrev pub row_from : Shift → ℕ → Option ℕ
row_from (Down lo hi) c = if nat_lt c (hi - lo) then Some (c + lo) else None
row_from (Outside lo hi) c = if nat_le lo c && nat_lt c hi then None else Some c
row_from (Up lo) c = if nat_le lo c then Some (c - lo) else None

abbrev pub comes_from : Shift → List ℕ → Option (List ℕ)
comes_from shift [] = None
comes_from shift (c ∷ cs) = option_map (λ d. d ∷ cs) (row_from shift c)

-- ---- tests
pub both : (a b : Bool) → a ≡ true → b ≡ true → (a && b) ≡ true
both true b x y = y
both false b x y = x

pub first : (a b : Bool) → (a && b) ≡ true → a ≡ true
first true b h = refl
first false b h = h

pub second : (a b : Bool) → (a && b) ≡ true → b ≡ true
second true b h = h
second false b h = cc

pub lt_yes : (a b : ℕ) → a < b → nat_lt a b ≡ true
lt_yes a b h = grind (arith, nat_tests)

pub lt_is : (a b : ℕ) → nat_lt a b ≡ true → a < b
lt_is a b h = grind (arith, nat_tests)

pub le_yes : (a b : ℕ) → a ≤ b → nat_le a b ≡ true
le_yes a b h = grind (arith, nat_tests)

pub le_is : (a b : ℕ) → nat_le a b ≡ true → a ≤ b
le_is a b h = grind (arith, nat_tests)

some_is : {A : Type 0} (x y : A) → Some x ≡ Some y → x ≡ y
some_is {A} x y e = ap (λ (o : Option A). unwrap_or o x) e

when : (b : Bool) (x y : ℕ) → (if b then Some x else None) ≡ Some y → (b ≡ true) × (x ≡ y)
when true x y e = (refl, some_is x y e)
when false x y e = absurd (cc)

unless : (b : Bool) (x y : ℕ) → (if b then None else Some x) ≡ Some y → (b ≡ false) × (x ≡ y)
unless true x y e = absurd (cc)
unless false x y e = (refl, some_is x y e)

pub yes : (b : Bool) (x y : ℕ) → b ≡ true → x ≡ y → (if b then Some x else None) ≡ Some y
yes true x y h e = ap Some e
yes false x y h e = absurd (cc)

pub no : (b : Bool) (x y : ℕ) → b ≡ false → x ≡ y → (if b then None else Some x) ≡ Some y
no true x y h e = absurd (cc)
no false x y h e = ap Some e

-- the row lies in lo to hi - 1
abbrev pub between : ℕ → ℕ → ℕ → Bool
between lo hi c = nat_le lo c && nat_lt c hi

pub between_yes : (lo hi c : ℕ) → lo ≤ c → c < hi → between lo hi c ≡ true
between_yes lo hi c a b = both (nat_le lo c) (nat_lt c hi) (le_yes lo c a) (lt_yes c hi b)

pub between_low : (lo hi c : ℕ) → between lo hi c ≡ true → lo ≤ c
between_low lo hi c h = le_is lo c (first (nat_le lo c) (nat_lt c hi) h)

between_high : (lo hi c : ℕ) → between lo hi c ≡ true → c < hi
between_high lo hi c h = lt_is c hi (second (nat_le lo c) (nat_lt c hi) h)

-- ---- rows
row_there : (shift : Shift) (c r : ℕ) → row_from shift c ≡ Some r → row_to shift r ≡ Some c
row_there (Down lo hi) c r e =
    let w = when (nat_lt c (hi - lo)) (c + lo) r e in
    let l : c < hi - lo = lt_is c (hi - lo) w.0 in
    yes (between lo hi r) (r - lo) c (between_yes lo hi r (omega (arith, w.1)) (omega (arith, w.1))) (omega (arith, w.1))
row_there (Outside lo hi) c r e =
    let w = unless (between lo hi c) c r e in
    no (between lo hi r) r c (ap (between lo hi) (sym w.1) ∙ w.0) (sym w.1)
row_there (Up lo) c r e =
    let w = when (nat_le lo c) (c - lo) r e in
    let l : lo ≤ c = le_is lo c w.0 in
    ap Some (omega (arith, w.1))

row_back : (shift : Shift) (c r : ℕ) → row_to shift r ≡ Some c → row_from shift c ≡ Some r
row_back (Down lo hi) c r e =
    let w = when (between lo hi r) (r - lo) c e in
    let l : lo ≤ r = between_low lo hi r w.0 in
    let h : r < hi = between_high lo hi r w.0 in
    yes (nat_lt c (hi - lo)) (c + lo) r (lt_yes c (hi - lo) (omega (arith, w.1))) (omega (arith, w.1))
row_back (Outside lo hi) c r e =
    let w = unless (between lo hi r) r c e in
    no (between lo hi c) c r (ap (between lo hi) (sym w.1) ∙ w.0) (sym w.1)
row_back (Up lo) c r e =
    let w = some_is (r + lo) c e in
    yes (nat_le lo c) (c - lo) r (le_yes lo c (omega (arith, w))) (omega (arith, w))

-- ---- coordinates
abbrev head : List ℕ → ℕ
head cs = slice_index cs 0

abbrev tail : List ℕ → List ℕ
tail [] = []
tail (c ∷ cs) = cs

mapped_is : (o : Option ℕ) (cs ds : List ℕ) (r : ℕ) → option_map (λ d. d ∷ cs) o ≡ Some (r ∷ ds) → (o ≡ Some r) × (cs ≡ ds)
mapped_is None cs ds r e = absurd (cc)
mapped_is (Some d) cs ds r e = let same = some_is (d ∷ cs) (r ∷ ds) e in (ap (λ (x : List ℕ). Some (head x)) same, ap tail same)

mapped_nil : (o : Option ℕ) (cs : List ℕ) → option_map (λ d. d ∷ cs) o ≡ Some [] → ⊥
mapped_nil None cs e = absurd (cc)
mapped_nil (Some d) cs e = let same = some_is (d ∷ cs) [] e in absurd (cc)

there : (shift : Shift) (cs q : List ℕ) → comes_from shift cs ≡ Some q → goes_to shift q ≡ Some cs
there shift [] q e = absurd (cc)
there shift (c ∷ cs) [] e = absurd (mapped_nil (row_from shift c) cs e)
there shift (c ∷ cs) (r ∷ ds) e =
    let m = mapped_is (row_from shift c) cs ds r e in
    ap (option_map (λ d. d ∷ ds)) (row_there shift c r m.0) ∙ ap (λ (x : List ℕ). Some (c ∷ x)) (sym m.1)

back : (shift : Shift) (cs q : List ℕ) → goes_to shift q ≡ Some cs → comes_from shift cs ≡ Some q
back shift cs [] e = absurd (cc)
back shift [] (r ∷ ds) e = absurd (mapped_nil (row_to shift r) ds e)
back shift (c ∷ cs) (r ∷ ds) e =
    let m = mapped_is (row_to shift r) ds cs c e in
    ap (option_map (λ d. d ∷ cs)) (row_back shift c r m.0) ∙ ap (λ (x : List ℕ). Some (r ∷ x)) (sym m.1)

-- ---- values
abbrev pub found : Option (List ℕ) → List Entry → Option ℤ
found None es = None
found (Some q) es = find order q es

written_miss : (shift : Shift) (e : Entry) (f : TensorFunction) (cs : List ℕ) (g : Option (List ℕ)) → goes_to shift e.0 ≡ g → comes_from shift cs ≢ Some e.0 → value_at (put_at g f e) cs ≡ value_at f cs
written_miss shift e f cs None eg ne = refl
written_miss shift e f cs (Some ds) eg ne = (gives_one_place f ds e.1).1 cs (λ same. ne (ap (comes_from shift) same ∙ back shift ds e.0 eg))

written_hit : (shift : Shift) (e : Entry) (f : TensorFunction) (cs : List ℕ) → comes_from shift cs ≡ Some e.0 → value_at (written_one shift e f) cs ≡ e.1
written_hit shift e f cs h = ap (λ (g : Option (List ℕ)). value_at (put_at g f e) cs) (there shift cs e.0 h) ∙ (gives_one_place f cs e.1).0

step_by : (shift : Shift) (e : Entry) (es : List Entry) (f : TensorFunction) (cs : List ℕ) (o : Option (List ℕ)) → comes_from shift cs ≡ o → T (is_sorted order (e ∷ es)) →
    unwrap_or (found o es) (value_at (written_one shift e f) cs) ≡ unwrap_or (found o (e ∷ es)) (value_at f cs)
step_by shift e es f cs None eo h = written_miss shift e f cs (goes_to shift e.0) refl (λ x. let y : None ≡ Some e.0 = sym eo ∙ x in absurd (cc))
step_by shift e es f cs (Some q) eo h = elim (eq_by_cmp order q e.0) as (λ b. eq_by_cmp order q e.0 ≡ b → unwrap_or (find order q es) (value_at (written_one shift e f) cs) ≡ unwrap_or (cond b (Some e.1) (find order q es)) (value_at f cs)) [
  | true ↦ λ t.
      let same : q ≡ e.0 = tied_are_same q e.0 t in
      ap (λ (o : Option ℤ). unwrap_or o (value_at (written_one shift e f) cs)) (ap (λ (x : List ℕ). find order x es) same ∙ first_is_alone order e es h)
      ∙ written_hit shift e f cs (eo ∙ ap Some same)
  | false ↦ λ t. ap (unwrap_or (find order q es)) (written_miss shift e f cs (goes_to shift e.0) refl (λ x.
      let same : q ≡ e.0 = some_is q e.0 (sym eo ∙ x) in
      let y : true ≡ false = sym (tied e.0) ∙ ap (λ (k : List ℕ). eq_by_cmp order k e.0) (sym same) ∙ t in cc))
] refl

pub written_value : (shift : Shift) (es : List Entry) (f : TensorFunction) (cs : List ℕ) → T (is_sorted order es) → value_at (written shift es f) cs ≡ unwrap_or (found (comes_from shift cs) es) (value_at f cs)
written_value shift [] f cs h = elim (comes_from shift cs) as (λ o. value_at f cs ≡ unwrap_or (found o []) (value_at f cs)) [ None ↦ refl | Some q ↦ refl ]
written_value shift (e ∷ es) f cs h = written_value shift es (written_one shift e f) cs (rest_rises order e es h) ∙ step_by shift e es f cs (comes_from shift cs) refl h

put_shape : (g : Option (List ℕ)) (f : TensorFunction) (e : Entry) → (put_at g f e).shape ≡ f.shape
put_shape None f e = refl
put_shape (Some cs) f e = refl

put_fill : (g : Option (List ℕ)) (f : TensorFunction) (e : Entry) → (put_at g f e).fill ≡ f.fill
put_fill None f e = refl
put_fill (Some cs) f e = refl

pub written_shape : (shift : Shift) (es : List Entry) (f : TensorFunction) → (written shift es f).shape ≡ f.shape
written_shape shift [] f = refl
written_shape shift (e ∷ es) f = written_shape shift es (written_one shift e f) ∙ put_shape (goes_to shift e.0) f e

pub written_fill : (shift : Shift) (es : List Entry) (f : TensorFunction) → (written shift es f).fill ≡ f.fill
written_fill shift [] f = refl
written_fill shift (e ∷ es) f = written_fill shift es (written_one shift e f) ∙ put_fill (goes_to shift e.0) f e

-- ---- landing
pub land_at : (shift : Shift) (shape : List ℕ) (es : List Entry) (k : ℕ) (d : Entry) → k < length es → AllLand shift shape es → Lands shift shape (slice_index_or es k d).0
land_at shift shape [] k d lt h = absurd (omega arith)
land_at shift shape (e ∷ es) zero d lt h = h.0
land_at shift shape (e ∷ es) (suc k) d lt h = land_at shift shape es k d (omega arith) h.1

pub all_land : (shift : Shift) (shape : List ℕ) (es : List Entry) → ((k : ℕ) (d : Entry) → k < length es → Lands shift shape (slice_index_or es k d).0) → AllLand shift shape es
all_land shift shape [] h = tt
all_land shift shape (e ∷ es) h = (h 0 e (omega arith), all_land shift shape es (λ k d lt. h (suc k) d (omega arith)))

lands_by : (o : Option ℕ) (n : ℕ) (ns cs : List ℕ) → IfSome o (λ d. d < n) → IsTrue (is_in_box ns cs) → IfSome (option_map (λ d. d ∷ cs) o) (λ ds. IsTrue (is_in_box (n ∷ ns) ds))
lands_by None n ns cs h w = tt
lands_by (Some d) n ns cs h w = both (nat_lt d n) (is_in_box ns cs) (lt_yes d n h) w

-- coordinates of a box land in one that has other rows
pub lands : (shift : Shift) (m n : ℕ) (ns cs : List ℕ) → ((c : ℕ) → c < m → IfSome (row_to shift c) (λ d. d < n)) → IsTrue (is_in_box (m ∷ ns) cs) → Lands shift (n ∷ ns) cs
lands shift m n ns [] h w = absurd (cc)
lands shift m n ns (c ∷ cs) h w = lands_by (row_to shift c) n ns cs (h c (lt_is c m (first (nat_lt c m) (is_in_box ns cs) w))) (second (nat_lt c m) (is_in_box ns cs) w)

when_some : (b : Bool) (x n : ℕ) → (b ≡ true → x < n) → IfSome (if b then Some x else None) (λ d. d < n)
when_some true x n h = h refl
when_some false x n h = tt

unless_some : (b : Bool) (x n : ℕ) → x < n → IfSome (if b then None else Some x) (λ d. d < n)
unless_some true x n h = tt
unless_some false x n h = h

pub down_lands : (lo hi c : ℕ) → IfSome (row_to (Down lo hi) c) (λ d. d < hi - lo)
down_lands lo hi c = when_some (between lo hi c) (c - lo) (hi - lo) (λ t. let l = between_low lo hi c t in let h = between_high lo hi c t in omega arith)

pub outside_lands : (lo hi n c : ℕ) → c < n → IfSome (row_to (Outside lo hi) c) (λ d. d < n)
outside_lands lo hi n c h = unless_some (between lo hi c) c n h
