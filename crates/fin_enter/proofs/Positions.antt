-- The steps through the levels before a driven one find where its read stands.
use Rattle.std.proofs.Common.{◌≡◌, ◌⊎◌, inl, inr, ℕ, zero, suc, ◌<◌, ◌≤◌, ◌+◌, Bool, true, false, IfSome, List, [], ◌∷◌, map, take, length, refl, sym, ap, ◌∙◌, subst, ℤ, pos, negsuc, arith, Option, Some, None, option_map}
use Rattle.std.specs.Prelude.{nat_lt, if◌then◌else◌, int_le}
use Rattle.std.proofs.lemmas.Bool.Decides.{nat_tests}
use Rattle.std.proofs.lemmas.Int.{ints}
use Rattle.fin_base.specs.declared.terms.Op.TheVariants as op
use Rattle.fin_base.specs.Words.{truth}
use Rattle.fin_tensor.specs.declared.format.Level.{Level}
use Rattle.fin_tensor.specs.declared.part.Part.{Part}
use Rattle.fin_tensor.specs.Levels.{IsStored, positions, child_in}
use Rattle.fin_tensor.proofs.Walk.{child_within}
use Rattle.fin_ast.specs.declared.tree.Index.{Index}
use Rattle.fin_ast.specs.Value.{Numbers, place, coordinates, with_first}
use Rattle.fin_ir.specs.declared.expression.IExpr.{IExpr}
use Rattle.fin_ir.specs.declared.expression.IExpr.TheVariants as e
use Rattle.fin_ir.specs.Frozen.{Frozen}
use Rattle.fin_ir.specs.Machine.{Tensor, stored}
use Rattle.fin_ir.specs.Value.{is_off, extents_in, parts_in, words_in, value_of}
use Rattle.fin_ir.proofs.Values.{value_num, value_pick}
use Rattle.fin_looplet.specs.View.{Store}
use Rattle.fin_read.specs.Steps.{Step, stepped, Agree}
use Rattle.fin_read.specs.Reads.{none, in_box, level_steps, levels_steps, first_step, place_of}
use Rattle.fin_read.specs.Means.{IsRead}
use Rattle.fin_read.proofs.Stepping.{agree_refl, agree_then, one_step, reads_after}
use Rattle.fin_read.proofs.Placing.{two_of, local_is}
use Rattle.fin_read.proofs.Descending.{held_as, Holds, none_stays, position_goes}
use Rattle.fin_read.proofs.Remaining.{LevelsAre, level_of, levels_below}
use Rattle.fin_read.proofs.Reading.{inside as in_box_word, box_value}
use Rattle.fin_simp.specs.Sights.{Stand, Nowhere, At, inside, child_at, stand_at}
use Rattle.fin_drive.specs.Entries.{IsFound}
use Rattle.fin_enter.specs.Positions.{position_steps, spot_in, IsPlaced, ArePlaces, PositionsAreFound}

-- ---- no position

pub below_nothing : (vars : Numbers) (ns : List ℕ) (ps : List Part) (is : List Index) (k : ℕ) → stand_at vars ns ps is k None ≡ Nowhere
below_nothing vars [] ps is k = refl
below_nothing vars (n ∷ ns) [] is k = refl
below_nothing vars (n ∷ ns) (p ∷ ps) [] k = refl
below_nothing vars (n ∷ ns) (p ∷ ps) (i ∷ is) zero = refl
below_nothing vars (n ∷ ns) (p ∷ ps) (i ∷ is) (suc k) = refl

none_goes : (ts : ℕ → Tensor) (tensor at j : ℕ) (l : List Level) (ns : List ℕ) (xs : List IExpr) (ls : List ℤ) → at + 1 < length ls → Holds at ls (negsuc 0)
    → IsRead ts (levels_steps (place_of tensor j at) l ns xs) at ls (negsuc 0)
none_goes ts tensor at j [] ns xs ls long f = record { long = refl; kept = agree_refl at ls; value = f }
none_goes ts tensor at j (l ∷ rest) [] xs ls long f = record { long = refl; kept = agree_refl at ls; value = f }
none_goes ts tensor at j (l ∷ rest) (n ∷ ns) [] ls long f = record { long = refl; kept = agree_refl at ls; value = f }
none_goes ts tensor at j (l ∷ rest) (n ∷ ns) (x ∷ xs) ls long f =
    let own = level_steps (place_of tensor j at) l n x in
    let first = none_stays ts tensor j l n x at ls long f in
    let later = none_goes ts tensor at (j + 1) rest ns xs (stepped ts own ls) (omega (arith, long, first.long)) first.value in
    reads_after ts at ls own (levels_steps (place_of tensor (j + 1) at) rest ns xs) (negsuc 0) (negsuc 0) first later

-- ---- the indices that are bound

module _ (vars : Numbers) where
  -- each of the first so many lies in its extent
  abbrev AllIn : ℕ → List ℕ → List Index → Type 0
  AllIn zero ns is = Unit {0}
  AllIn (suc k) (n ∷ ns) (i ∷ is) = ((c : ℕ) × (place vars i ≡ pos c) × (c < n)) × AllIn k ns is
  AllIn (suc k) ns is = ⊥

  -- one of them doesn't
  abbrev OneOut : ℕ → List ℕ → List Index → Type 0
  OneOut zero ns is = ⊥
  OneOut (suc k) (n ∷ ns) (i ∷ is) = (inside n (place vars i) ≡ None) ⊎ OneOut k ns is
  OneOut (suc k) ns is = ⊥

  abbrev found : ℕ → List ℕ → List Index → Option (List ℕ)
  found k ns is = coordinates (take k ns) (take k (map (place vars) is))

  -- either, and what the test of the box makes of it
  abbrev Decided : ℕ → List ℕ → List Index → Type 0
  Decided k ns is = (((cs : List ℕ) × (found k ns is ≡ Some cs)) × AllIn k ns is) ⊎ ((found k ns is ≡ None) × OneOut k ns is)

  module _ (k n : ℕ) (ns : List ℕ) (i : Index) (is : List Index) where
    opens : (z : ℤ) → place vars i ≡ z → found (suc k) (n ∷ ns) (i ∷ is) ≡ coordinates (n ∷ take k ns) (z ∷ take k (map (place vars) is))
    opens z same = ap (λ y. coordinates (n ∷ take k ns) (y ∷ take k (map (place vars) is))) same

    opens_at : (c : ℕ) (x : Bool) → place vars i ≡ pos c → nat_lt c n ≡ x → found (suc k) (n ∷ ns) (i ∷ is) ≡ (if x then with_first c (found k ns is) else None)
    opens_at c x same t = opens (pos c) same ∙ ap (λ (y : Bool). if y then with_first c (found k ns is) else None) t

    decide_at : (c : ℕ) (x : Bool) → place vars i ≡ pos c → nat_lt c n ≡ x → Decided k ns is → Decided (suc k) (n ∷ ns) (i ∷ is)
    decide_at c true same t (inl q) = inl (((c ∷ q.0.0), opens_at c true same t ∙ ap (with_first c) q.0.1), ((c, same, grind (arith, nat_tests)), q.1))
    decide_at c true same t (inr q) = inr (opens_at c true same t ∙ ap (with_first c) q.0, inr q.1)
    decide_at c false same t q = inr (opens_at c false same t, inl (ap (inside n) same ∙ ap (λ (y : Bool). if y then Some c else None) t))

    decide_next : (z : ℤ) → place vars i ≡ z → Decided k ns is → Decided (suc k) (n ∷ ns) (i ∷ is)
    decide_next (negsuc c) same q = inr (opens (negsuc c) same, inl (ap (inside n) same))
    decide_next (pos c) same q = decide_at c (nat_lt c n) same refl q

  decide : (k : ℕ) (ns : List ℕ) (is : List Index) → k ≤ length ns → k ≤ length is → Decided k ns is
  decide zero ns is a b = inl (([], refl), tt)
  decide (suc k) [] is a b = absurd (omega (arith, a))
  decide (suc k) (n ∷ ns) [] a b = absurd (omega (arith, b))
  decide (suc k) (n ∷ ns) (i ∷ is) a b = decide_next k n ns i is (place vars i) refl (decide k ns is (omega (arith, a)) (omega (arith, b)))

  out_is_nowhere : (k : ℕ) (ns : List ℕ) (ps : List Part) (is : List Index) (o : Option ℕ) → OneOut k ns is → stand_at vars ns ps is k o ≡ Nowhere
  out_is_nowhere k ns ps is None out = below_nothing vars ns ps is k
  out_is_nowhere zero ns ps is (Some q) out = absurd out
  out_is_nowhere (suc k) [] ps is (Some q) out = absurd out
  out_is_nowhere (suc k) (n ∷ ns) ps [] (Some q) out = absurd out
  out_is_nowhere (suc k) (n ∷ ns) [] (i ∷ is) (Some q) out = refl
  out_is_nowhere (suc k) (n ∷ ns) (p ∷ ps) (i ∷ is) (Some q) (inl none) = ap (λ y. stand_at vars ns ps is k (child_at n p q y)) none ∙ below_nothing vars ns ps is k
  out_is_nowhere (suc k) (n ∷ ns) (p ∷ ps) (i ∷ is) (Some q) (inr out) = out_is_nowhere k ns ps is (child_at n p q (inside n (place vars i))) out

-- ---- the descent

-- the position is that of the stand
abbrev Fits : Option ℕ → Stand → Type 0
Fits None stand = stand ≡ Nowhere
Fits (Some q) stand = (p : Part) × (stand ≡ At p q)

pub record Reaches (ts : ℕ → Tensor) (steps : List Step) (at : ℕ) (ls : List ℤ) (stand : Stand) : Type 0 where
  pub position : Option ℕ
  pub read : IsRead ts steps at ls (held_as position)
  pub fits : Fits position stand

is_inside : (n c : ℕ) (z : ℤ) → z ≡ pos c → c < n → inside n z ≡ Some c
is_inside n c z same lt =
    let t : nat_lt c n ≡ true = grind (arith, nat_tests) in
    ap (inside n) same ∙ ap (λ (b : Bool). if b then Some c else None) t

module _ (ts : ℕ → Tensor) (tensor : ℕ) (vars : Numbers) (at : ℕ) where
  goes : (k j count : ℕ) (l : List Level) (ns : List ℕ) (ps : List Part) (val : List ℤ) (o : Option ℕ) (xs : List IExpr) (is : List Index) (ls : List ℤ) → at + 1 < length ls
      → LevelsAre ts tensor j l ns ps val count
      → IfSome o (λ q. q < count) → AllIn vars k ns is → k < length l → k < length is → ArePlaces ts at ls vars k xs is → Holds at ls (held_as o)
      → Reaches ts (levels_steps (place_of tensor j at) l (take k ns) (take k xs)) at ls (stand_at vars ns ps is k o)
  goes k j count l ns ps val None xs is ls long h lt all a b fixed f =
      record { position = None; read = none_goes ts tensor at j l (take k ns) (take k xs) ls long f; fits = below_nothing vars ns ps is k }
  goes zero j count (l ∷ rest) (n ∷ ns) (p ∷ ps) val (Some q) xs (i ∷ is) ls long h lt all a b fixed f =
      record { position = Some q; read = record { long = refl; kept = agree_refl at ls; value = f }; fits = (p, refl) }
  goes (suc k) j count (l ∷ rest) (n ∷ ns) (p ∷ ps) val (Some q) (x ∷ xs) (i ∷ is) ls long h lt all a b fixed f =
      let own = level_steps (place_of tensor j at) l n x in
      let c : ℕ = all.0.0 in
      let level = level_of ts tensor j l rest n ns p ps val count h in
      let here : (ks : List ℤ) → Agree at ks ls → value_of x ts ks ≡ pos c = λ ks same. (let y = fixed ks same in let z : value_of x ts ks ≡ place vars i = cc in z ∙ all.0.1) in
      let first = position_goes ts tensor j n count at q c x ls long lt all.0.2 f here l p level in
      let after = stepped ts own ls in
      let fixed_after : ArePlaces ts at after vars k xs is = λ ks same. (let y = fixed ks (agree_then at ks after ls same first.kept) in cc) in
      let later = goes k (j + 1) (positions n count p) rest ns ps val (child_in n p q c) xs is after (omega (arith, long, first.long)) (levels_below ts tensor j l rest n ns p ps val count h)
      (child_within l n count p q c level.level lt all.0.2) all.1 (omega (arith, a)) (omega (arith, b)) fixed_after first.value in
      let same : child_at n p q (inside n (place vars i)) ≡ child_in n p q c = ap (child_at n p q) (is_inside n c (place vars i) all.0.1 all.0.2) in
      record {
        position = later.position;
        read = reads_after ts at ls own (levels_steps (place_of tensor (j + 1) at) rest (take k ns) (take k xs)) (held_as (child_in n p q c)) (held_as later.position) first later.read;
        fits = subst (λ y. Fits later.position (stand_at vars ns ps is k y)) (sym same) later.fits;
      }
  goes (suc k) j count (l ∷ rest) (n ∷ ns) (p ∷ ps) val (Some q) [] (i ∷ is) ls long h lt all a b fixed f = let y = fixed ls (agree_refl at ls) in cc
  goes k j count [] ns ps val (Some q) xs is ls long h lt all a b fixed f = absurd (omega (arith, a))
  goes k j count (l ∷ rest) ns ps val (Some q) xs [] ls long h lt all a b fixed f = absurd (omega (arith, b))
  goes k j count (l ∷ rest) [] ps val (Some q) xs (i ∷ is) ls long h lt all a b fixed f = absurd h.valid
  goes k j count (l ∷ rest) (n ∷ ns) [] val (Some q) xs (i ∷ is) ls long h lt all a b fixed f = absurd h.valid

-- ---- all steps

chosen_by : (o : Option (List ℕ)) → (if is_off (in_box_word o) then negsuc 0 else pos 0) ≡ held_as (option_map (λ (cs : List ℕ). 0) o)
chosen_by None = refl
chosen_by (Some cs) = refl

first_is : (ts : Store) (ls : List ℤ) (shape : List ℕ) (xs : List IExpr) (o : Option (List ℕ)) → coordinates shape (map (λ (x : IExpr). value_of x ts ls) xs) ≡ o
    → value_of (e.Pick (in_box shape xs) (e.Num (pos 0)) none) ts ls ≡ held_as (option_map (λ (cs : List ℕ). 0) o)
first_is ts ls shape xs o h =
    value_pick ts ls (in_box shape xs) (e.Num (pos 0)) none
    ∙ rw (box_value ts ls shape xs, h, value_num ts ls (pos 0), value_num ts ls (negsuc 0)) (chosen_by o)

not_below : (q : ℕ) → int_le (pos 0) (pos q) ≡ true
not_below q = grind (arith, ints)

module _ (ts : Store) (at : ℕ) (ks : List ℤ) (by : IExpr) where
  there_is : (z : ℤ) → Holds at ks z → value_of (e.Two op.Ge (e.Local at) (e.Num (pos 0))) ts ks ≡ truth (int_le (pos 0) z)
  there_is z f = two_of ts ks op.Ge (e.Local at) (e.Num (pos 0)) z (pos 0) (local_is ts ks at z f) (value_num ts ks (pos 0))

  spot_found : (position : Option ℕ) (stand : Stand) → Fits position stand → Holds at ks (held_as position) → IsFound ts ks (spot_in at by) stand
  spot_found None stand fits f = subst (IsFound ts ks (spot_in at by)) (sym fits) (ap is_off (there_is (negsuc 0) f))
  spot_found (Some q) stand fits f =
      subst (IsFound ts ks (spot_in at by)) (sym fits.1) (ap is_off (there_is (pos q) f) ∙ ap (λ (b : Bool). is_off (truth b)) (not_below q), local_is ts ks at (pos q) f)

placed_by : (ts : Store) (steps : List Step) (at : ℕ) (ls : List ℤ) (stand : Stand) → Reaches ts steps at ls stand → IsPlaced ts steps at ls stand
placed_by ts steps at ls stand h = record {
  long = h.read.long;
  kept = h.read.kept;
  found = λ by ks same. spot_found ts at ks by h.position stand h.fits (same at (omega arith) ∙ h.read.value);
}

module _ (ts : Store) (tensor : ℕ) (levels : List Level) (f : Frozen) (vars : Numbers) (xs : List IExpr) (is : List Index) (k at : ℕ) (ls : List ℤ)
    (frozen : ts tensor ≡ stored f) (valid : IsStored 1 levels f.shape f.parts f.val) (fixed : ArePlaces ts at ls vars k xs is)
    (a : k < length levels) (b : k < length is) (long : at + 1 < length ls) where
  abbrev stand : Stand
  stand = stand_at vars f.shape f.parts is k (Some 0)

  abbrev rest : List Step
  rest = levels_steps (place_of tensor 0 at) levels (take k f.shape) (take k xs)

  first : (o : Option (List ℕ)) → found vars k f.shape is ≡ o → IsRead ts (first_step (take k f.shape) (take k xs) at ∷ []) at ls (held_as (option_map (λ (cs : List ℕ). 0) o))
  first o h = one_step ts at ls _ _ (omega (arith, long)) (first_is ts ls (take k f.shape) (take k xs) o (ap (coordinates (take k f.shape)) (fixed ls (agree_refl at ls)) ∙ h))

  whole : LevelsAre ts tensor 0 levels f.shape f.parts f.val 1
  whole = record { extents = ap extents_in frozen; parts = ap parts_in frozen; words = ap words_in frozen; count_is = refl; valid = valid }

  reached : Decided vars k f.shape is → Reaches ts (position_steps tensor levels f.shape xs k at) at ls stand
  reached (inl q) =
      let one = first (Some q.0.0) q.0.1 in
      let after = stepped ts (first_step (take k f.shape) (take k xs) at ∷ []) ls in
      let fixed_after : ArePlaces ts at after vars k xs is = λ ks same. fixed ks (agree_then at ks after ls same one.kept) in
      let later = goes ts tensor vars at k 0 1 levels f.shape f.parts f.val (Some 0) xs is after (omega (arith, long, one.long)) whole (omega arith) q.1 a b fixed_after one.value in
      record { position = later.position; read = reads_after ts at ls (first_step (take k f.shape) (take k xs) at ∷ []) rest (pos 0) (held_as later.position) one later.read; fits = later.fits }
  reached (inr q) =
      let one = first None q.0 in
      let after = stepped ts (first_step (take k f.shape) (take k xs) at ∷ []) ls in
      let later = none_goes ts tensor at 0 levels (take k f.shape) (take k xs) after (omega (arith, long, one.long)) one.value in
      record {
        position = None;
        read = reads_after ts at ls (first_step (take k f.shape) (take k xs) at ∷ []) rest (negsuc 0) (negsuc 0) one later;
        fits = out_is_nowhere vars k f.shape f.parts is (Some 0) q.1;
      }

shape_long : (count : ℕ) (levels : List Level) (shape : List ℕ) (parts : List Part) (val : List ℤ) → IsStored count levels shape parts val → length shape ≡ length levels
shape_long count [] [] [] val h = refl
shape_long count [] [] (p ∷ ps) val h = absurd h
shape_long count [] (n ∷ ns) ps val h = absurd h
shape_long count (l ∷ ls) [] ps val h = absurd h
shape_long count (l ∷ ls) (n ∷ ns) [] val h = absurd h
shape_long count (l ∷ ls) (n ∷ ns) (p ∷ ps) val h = ap suc (shape_long (positions n count p) ls ns ps val h.3)

pub positions_are_found : PositionsAreFound
positions_are_found ts tensor levels f vars xs is k at ls frozen valid fixed a b long =
    let same = shape_long 1 levels f.shape f.parts f.val valid in
    let d = decide vars k f.shape is (omega (arith, a, same)) (omega (arith, b)) in
    placed_by ts (position_steps tensor levels f.shape xs k at) at ls (stand_at vars f.shape f.parts is k (Some 0))
    (reached ts tensor levels f vars xs is k at ls frozen valid fixed a b long d)
