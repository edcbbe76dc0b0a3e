-- The step from a position to that below it, in each kind of level.
use Rattle.std.proofs.Common.{◌≡◌, ℕ, ◌<◌, ◌≤◌, ◌+◌, ◌-◌, ◌*◌, ◌^◌, Bool, true, false, List, [], ◌∷◌, length, refl, sym, ap, ◌∙◌, ℤ, pos, negsuc, arith, Option, Some, None, get_or-set_same}
use Rattle.std.specs.Prelude.{slice_index, slice_index_or, slice_set, nat_lt, nat_eq, if◌then◌else◌, ◌&&◌}
use Rattle.std.proofs.lemmas.Bool.Decides.{nat_tests}
use Rattle.std.proofs.lemmas.Nat.{mul-add-lt}
use Rattle.fin_base.specs.declared.terms.Op.TheVariants as op
use Rattle.fin_tensor.specs.declared.format.Level.{Level}
use Rattle.fin_tensor.specs.declared.format.Level.TheVariants as level
use Rattle.fin_tensor.specs.declared.part.Part.{Part}
use Rattle.fin_tensor.specs.declared.part.Part.TheVariants as part
use Rattle.fin_tensor.specs.Levels.{IsLevel, IsPtr, IsStart, LiesInFibre, HasNumbers, fibres, positions, first_from, fibre_from, fibre_to, numbers_of, wanted, key_in, child_in}
use Rattle.fin_ir.specs.declared.expression.Table.{Table}
use Rattle.fin_ir.specs.declared.expression.Table.TheVariants as table
use Rattle.fin_ir.specs.declared.expression.IExpr.{IExpr}
use Rattle.fin_ir.specs.declared.expression.IExpr.TheVariants as e
use Rattle.fin_ir.specs.Loads.{table_in, part_at, number_at, seek}
use Rattle.fin_ir.specs.Machine.{Tensor}
use Rattle.fin_ir.specs.Value.{extents_in, parts_in, value_of}
use Rattle.fin_ir.proofs.Values.{value_cell, value_seek, value_num}
use Rattle.fin_ir.proofs.Seeks.{sought_in}
use Rattle.fin_read.specs.Steps.{Agree}
use Rattle.fin_read.specs.Reads.{none, fibre_begin, fibre_end, where_placed, sought, found, in_block, step_to, level_steps, place_of}
use Rattle.fin_read.specs.Means.{IsRead}
use Rattle.fin_read.proofs.Stepping.{agree_set, one_step, two_steps}
use Rattle.fin_read.proofs.Placing.{add_small, mul_small, sub_small, sub_below, eq_is, choice_of, choice_equal, two_of, local_is, placed, not_placed, picked_placed, picked_none}

-- a position, or none
abbrev pub held_as : Option ℕ → ℤ
held_as None = negsuc 0
held_as (Some q) = pos q

-- what the local holds
abbrev pub Holds : ℕ → List ℤ → ℤ → Type 0
Holds at ls z = slice_index_or ls at (pos 0) ≡ z

-- the expression has the value, whatever the locals from `at` on hold
abbrev pub IsAtValue : (ℕ → Tensor) → ℕ → List ℤ → IExpr → ℤ → Type 0
IsAtValue ts at ls x z = (ks : List ℤ) → Agree at ks ls → value_of x ts ks ≡ z

-- level k of a tensor, which is a valid one
pub record LevelIs (ts : ℕ → Tensor) (tensor k : ℕ) (l : Level) (n count : ℕ) (p : Part) : Type 0 where
  pub extent : slice_index (extents_in (ts tensor)) k ≡ n
  pub part_is : part_at (parts_in (ts tensor)) k ≡ p
  pub count_is : fibres (extents_in (ts tensor)) (parts_in (ts tensor)) 1 k ≡ count
  pub level : IsLevel l n count p
  pub few : count ≤ 2 ^ 40
  pub small : n ≤ 2 ^ 40
  pub below : positions n count p ≤ 2 ^ 40

-- ---- where there is no position

pub none_stays : (ts : ℕ → Tensor) (tensor k : ℕ) (l : Level) (n : ℕ) (x : IExpr) (at : ℕ) (ls : List ℤ) → at + 1 < length ls → Holds at ls (negsuc 0) → IsRead ts (level_steps (place_of tensor k at) l n x) at ls (negsuc 0)
none_stays ts tensor k level.Dense n x at ls lt h = one_step ts at ls _ (negsuc 0) (omega (arith, lt)) (not_placed ts ls at _ h)
none_stays ts tensor k level.List n x at ls lt h = two_steps ts at ls _ _ (negsuc 0) lt (not_placed ts _ at _ (agree_set (at + 1) (at + 1) ls _ (omega arith) at (omega arith) ∙ h))
none_stays ts tensor k level.Dict n x at ls lt h = two_steps ts at ls _ _ (negsuc 0) lt (not_placed ts _ at _ (agree_set (at + 1) (at + 1) ls _ (omega arith) at (omega arith) ∙ h))
none_stays ts tensor k level.Runs n x at ls lt h = two_steps ts at ls _ _ (negsuc 0) lt (not_placed ts _ at _ (agree_set (at + 1) (at + 1) ls _ (omega arith) at (omega arith) ∙ h))
none_stays ts tensor k level.Band n x at ls lt h = two_steps ts at ls _ _ (negsuc 0) lt (not_placed ts _ at _ (agree_set (at + 1) (at + 1) ls _ (omega arith) at (omega arith) ∙ h))

-- ---- what is read of the level

module _ (ts : ℕ → Tensor) (tensor k : ℕ) (l : Level) (n count : ℕ) (p : Part) (h : LevelIs ts tensor k l n count p) where
  pub cell_is : (t : Table) (x : IExpr) (ls : List ℤ) (z : ℤ) → value_of x ts ls ≡ z → value_of (e.Cell tensor k t x) ts ls ≡ number_at (table_in t p) z
  cell_is t x ls z f =
      value_cell ts ls tensor k t x ∙ ap (number_at (table_in t (part_at (parts_in (ts tensor)) k))) f
      ∙ ap (λ (q : Part). number_at (table_in t q) z) h.part_is

  seek_is : (x y key : IExpr) (ls : List ℤ) (a b c : ℤ) → value_of x ts ls ≡ a → value_of y ts ls ≡ b → value_of key ts ls ≡ c → value_of (e.Seek tensor k x y key) ts ls ≡ seek n count p a b c
  seek_is x y key ls a b c f g i =
      value_seek ts ls tensor k x y key ∙ rw (f, g, i, h.extent, h.count_is, h.part_is) refl

  begin_is : (at q : ℕ) (ls : List ℤ) → Holds at ls (pos q) → value_of (fibre_begin (place_of tensor k at)) ts ls ≡ pos (slice_index (table_in table.Ptr p) q)
  begin_is at q ls f = cell_is table.Ptr (e.Local at) ls (pos q) (local_is ts ls at (pos q) f)

  end_is : (at q : ℕ) (ls : List ℤ) → q < count → Holds at ls (pos q) → value_of (fibre_end (place_of tensor k at)) ts ls ≡ pos (slice_index (table_in table.Ptr p) (q + 1))
  end_is at q ls lt f =
      cell_is table.Ptr (e.Two op.Add (e.Local at) (e.Num (pos 1))) ls (pos (q + 1))
      (two_of ts ls op.Add (e.Local at) (e.Num (pos 1)) (pos q) (pos 1) (local_is ts ls at (pos q) f) (value_num ts ls (pos 1)) ∙ add_small q 1 (omega (arith, lt, h.few)))

  -- a search of the fibre at a position, where the level has numbers
  search_is : (at q c : ℕ) (x : IExpr) (ls : List ℤ) → HasNumbers p → q < count → fibre_from n p q ≡ slice_index (table_in table.Ptr p) q → fibre_to n p q ≡ slice_index (table_in table.Ptr p) (q + 1) → fibre_from n p q ≤ fibre_to n p q
      → Holds at ls (pos q) → value_of x ts ls ≡ pos c → value_of (sought (place_of tensor k at) x) ts ls ≡ pos (first_from (numbers_of p) (wanted p c) (fibre_from n p q) (fibre_to n p q - fibre_from n p q))
  search_is at q c x ls held lt from to order f g =
      let lies : LiesInFibre n count p (fibre_from n p q) (fibre_to n p q) = record { numbers = held; pos = q; within = lt; low = omega arith; order = order; high = omega arith } in
      seek_is (fibre_begin (place_of tensor k at)) (fibre_end (place_of tensor k at)) x ls (pos (fibre_from n p q)) (pos (fibre_to n p q)) (pos c) (begin_is at q ls f ∙ ap pos (sym from)) (end_is at q ls lt f ∙ ap pos (sym to)) g
      ∙ ap pos (sought_in n count p (fibre_from n p q) (fibre_to n p q) c lies)

-- ---- the kinds of levels

both_held : (a b : Bool) (r : ℕ) → (if a then (if b then pos r else negsuc 0) else negsuc 0) ≡ held_as (if a && b then Some r else None)
both_held true true r = refl
both_held true false r = refl
both_held false b r = refl

module _ (ts : ℕ → Tensor) (tensor k n count at q c : ℕ) (x : IExpr) (ls : List ℤ) (long : at + 1 < length ls) (lt : q < count) (lx : c < n) (f : Holds at ls (pos q)) (g : IsAtValue ts at ls x (pos c)) where
  -- the locals after the step into the local behind
  abbrev behind : ℤ → List ℤ
  behind z = slice_set ls (at + 1) z

  still : (z : ℤ) → Holds at (behind z) (pos q)
  still z = agree_set (at + 1) (at + 1) ls z (omega arith) at (omega arith) ∙ f

  here : (z : ℤ) → Holds (at + 1) (behind z) z
  here z = get_or-set_same ls (at + 1) z (pos 0) long

  index_is : (z : ℤ) → value_of x ts (behind z) ≡ pos c
  index_is z = g (behind z) (agree_set at (at + 1) ls z (omega arith))

  index_first : value_of x ts ls ≡ pos c
  index_first = g ls (λ j b. refl)

  dense_goes : LevelIs ts tensor k level.Dense n count part.Dense → IsRead ts (level_steps (place_of tensor k at) level.Dense n x) at ls (pos (q * n + c))
  dense_goes h =
      let fits : q * n + c ≤ 2 ^ 40 = omega (arith, mul-add-lt q n c count lt lx, h.below) in
      let product = two_of ts ls op.Mul (e.Local at) (e.Num (pos n)) (pos q) (pos n) (local_is ts ls at (pos q) f) (value_num ts ls (pos n)) ∙ mul_small q n (omega arith) in
      let all = two_of ts ls op.Add (e.Two op.Mul (e.Local at) (e.Num (pos n))) x (pos (q * n)) (pos c) product index_first ∙ add_small (q * n) c fits in
      one_step ts at ls _ (pos (q * n + c)) (omega (arith, long)) (placed ts ls at q _ f ∙ all)

  -- a level that has numbers, and a place r of one
  keys_found : (l : Level) (ptr idx : List ℕ) (r : ℕ) → LevelIs ts tensor k l n count (part.Keys ptr idx) → value_of (found (place_of tensor k at) x) ts (behind (pos r)) ≡ held_as (if nat_lt r (slice_index ptr (q + 1)) && nat_eq (slice_index idx r) c then Some r else None)
  keys_found l ptr idx r h =
      let p = part.Keys ptr idx in
      let ks = behind (pos r) in
      let to = slice_index ptr (q + 1) in
      let own = local_is ts ks (at + 1) (pos r) (here (pos r)) in
      let number = cell_is ts tensor k l n count p h table.Idx (e.Local (at + 1)) ks (pos r) own in
      let inner = choice_equal ts ks (e.Cell tensor k table.Idx (e.Local (at + 1))) x (e.Local (at + 1)) none in
      let outer = choice_of ts ks (e.Local (at + 1)) (fibre_end (place_of tensor k at)) (e.Pick (e.Two op.Eq (e.Cell tensor k table.Idx (e.Local (at + 1))) x) (e.Local (at + 1)) none) none (pos r) (pos to) own (end_is ts tensor k l n count p h at q ks lt (still (pos r))) in
      let none_is = value_num ts ks (negsuc 0) in
      outer ∙ rw (inner, number, index_is (pos r), own, none_is, eq_is (slice_index idx r) c) (both_held (nat_lt r to) (nat_eq (slice_index idx r) c) r)

  keys_go : (l : Level) (ptr idx : List ℕ) → LevelIs ts tensor k l n count (part.Keys ptr idx) → IsPtr count ptr → IsRead ts (step_to (at + 1) (sought (place_of tensor k at) x) ∷ step_to at (where_placed at (found (place_of tensor k at) x)) ∷ []) at ls (held_as (key_in idx (slice_index ptr q) (slice_index ptr (q + 1)) c))
  keys_go l ptr idx h is =
      let from = slice_index ptr q in
      let to = slice_index ptr (q + 1) in
      let r = first_from idx c from (to - from) in
      let search = search_is ts tensor k l n count (part.Keys ptr idx) h at q c x ls tt lt refl refl (is.rises q lt) f index_first in
      two_steps ts at ls _ _ (held_as (key_in idx from to c)) long
      (ap (λ (z : ℤ). value_of (where_placed at (found (place_of tensor k at) x)) ts (behind z)) search ∙ placed ts (behind (pos r)) at q _ (still (pos r)) ∙ keys_found l ptr idx r h)

  runs_go : (ptr stop : List ℕ) → LevelIs ts tensor k level.Runs n count (part.Runs ptr stop) → IsRead ts (level_steps (place_of tensor k at) level.Runs n x) at ls (held_as (child_in n (part.Runs ptr stop) q c))
  runs_go ptr stop h =
      let from = slice_index ptr q in
      let to = slice_index ptr (q + 1) in
      let r = first_from stop (c + 1) from (to - from) in
      let is : IsPtr count ptr = h.level.0 in
      let search = search_is ts tensor k level.Runs n count (part.Runs ptr stop) h at q c x ls tt lt refl refl (is.rises q lt) f index_first in
      two_steps ts at ls _ _ (pos r) long
      (ap (λ (z : ℤ). value_of (where_placed at (e.Local (at + 1))) ts (behind z)) search ∙ placed ts (behind (pos r)) at q _ (still (pos r)) ∙ local_is ts (behind (pos r)) (at + 1) (pos r) (here (pos r)))

  -- a coordinate before the block
  band_before : (m : ℕ) → value_of (in_block (place_of tensor k at)) ts (behind (negsuc m)) ≡ negsuc 0
  band_before m = picked_none ts (behind (negsuc m)) (e.Local (at + 1)) none _ m (local_is ts (behind (negsuc m)) (at + 1) (negsuc m) (here (negsuc m))) ∙ value_num ts (behind (negsuc m)) (negsuc 0)

  -- one that is d behind the block's first one
  band_behind : (ptr start : List ℕ) (d : ℕ) → LevelIs ts tensor k level.Band n count (part.Band ptr start) → value_of (in_block (place_of tensor k at)) ts (behind (pos d)) ≡ held_as (if nat_lt d (slice_index ptr (q + 1) - slice_index ptr q) then Some (slice_index ptr q + d) else None)
  band_behind ptr start d h =
      let p = part.Band ptr start in
      let is : IsPtr count ptr = h.level.0 in
      let ks = behind (pos d) in
      let from = slice_index ptr q in
      let to = slice_index ptr (q + 1) in
      let order : from ≤ to = is.rises q lt in
      let most : to ≤ 2 ^ 40 = is.small (q + 1) (omega (arith, lt, is.long)) in
      let own = local_is ts ks (at + 1) (pos d) (here (pos d)) in
      let begin = begin_is ts tensor k level.Band n count p h at q ks (still (pos d)) in
      let size = two_of ts ks op.Sub (fibre_end (place_of tensor k at)) (fibre_begin (place_of tensor k at)) (pos to) (pos from) (end_is ts tensor k level.Band n count p h at q ks lt (still (pos d))) begin ∙ sub_small to from most order in
      let sum = e.Two op.Add (fibre_begin (place_of tensor k at)) (e.Local (at + 1)) in
      let sum_is : d < to - from → value_of sum ts ks ≡ pos (from + d) = λ less. two_of ts ks op.Add (fibre_begin (place_of tensor k at)) (e.Local (at + 1)) (pos from) (pos d) begin own ∙ add_small from d (omega (arith, less, most)) in
      let inner = choice_of ts ks (e.Local (at + 1)) (e.Two op.Sub (fibre_end (place_of tensor k at)) (fibre_begin (place_of tensor k at))) sum none (pos d) (pos (to - from)) own size in
      let split : (if nat_lt d (to - from) then value_of sum ts ks else value_of none ts ks) ≡ held_as (if nat_lt d (to - from) then Some (from + d) else None) =
      elim (nat_lt d (to - from)) as (λ b. nat_lt d (to - from) ≡ b → (if b then value_of sum ts ks else value_of none ts ks) ≡ held_as (if b then Some (from + d) else None)) [
        | true ↦ (λ t. sum_is (grind (arith, nat_tests)))
        | false ↦ (λ t. value_num ts ks (negsuc 0))
      ] refl in
      picked_placed ts ks (e.Local (at + 1)) none _ d own ∙ inner ∙ split

  band_go : (ptr start : List ℕ) → LevelIs ts tensor k level.Band n count (part.Band ptr start) → IsRead ts (level_steps (place_of tensor k at) level.Band n x) at ls (held_as (child_in n (part.Band ptr start) q c))
  band_go ptr start h =
      let p = part.Band ptr start in
      let is : IsStart n count ptr start = h.level.1 in
      let first = slice_index start q in
      let least : first ≤ 2 ^ 40 = is.small q (omega (arith, lt, is.long)) in
      let wide : c ≤ 2 ^ 40 = omega (arith, lx, h.small) in
      let u = e.Two op.Sub x (e.Cell tensor k table.Start (e.Local at)) in
      let start_is = cell_is ts tensor k level.Band n count p h table.Start (e.Local at) ls (pos q) (local_is ts ls at (pos q) f) in
      let apart = two_of ts ls op.Sub x (e.Cell tensor k table.Start (e.Local at)) (pos c) (pos first) index_first start_is in
      let goal : ℤ → Type 0 = λ z. value_of (where_placed at (in_block (place_of tensor k at))) ts (behind (value_of u ts ls)) ≡ z in
      let at_value : (z : ℤ) → value_of u ts ls ≡ z → value_of (where_placed at (in_block (place_of tensor k at))) ts (behind (value_of u ts ls)) ≡ value_of (in_block (place_of tensor k at)) ts (behind z) =
      λ z same. ap (λ (y : ℤ). value_of (where_placed at (in_block (place_of tensor k at))) ts (behind y)) same ∙ placed ts (behind z) at q _ (still z) in
      two_steps ts at ls u _ (held_as (child_in n p q c)) long
      (elim (nat_lt c first) as (λ b. nat_lt c first ≡ b → goal (held_as (if b then None else (if nat_lt (c - first) (slice_index ptr (q + 1) - slice_index ptr q) then Some (slice_index ptr q + (c - first)) else None)))) [
        | true ↦ (λ t. let less : c < first = grind (arith, nat_tests) in at_value (negsuc (first - c - 1)) (apart ∙ sub_below c first least less) ∙ band_before (first - c - 1))
        | false ↦ (λ t. let more : first ≤ c = grind (arith, nat_tests) in at_value (pos (c - first)) (apart ∙ sub_small c first wide more) ∙ band_behind ptr start (c - first) h)
      ] refl)

  -- from a position to that below it, or to none
  pub position_goes : (l : Level) (p : Part) → LevelIs ts tensor k l n count p → IsRead ts (level_steps (place_of tensor k at) l n x) at ls (held_as (child_in n p q c))
  position_goes level.Dense part.Dense h = dense_goes h
  position_goes level.List (part.Keys ptr idx) h = keys_go level.List ptr idx h h.level.0
  position_goes level.Dict (part.Keys ptr idx) h = keys_go level.Dict ptr idx h h.level.0
  position_goes level.Runs (part.Runs ptr stop) h = runs_go ptr stop h
  position_goes level.Band (part.Band ptr start) h = band_go ptr start h
  position_goes l p h = absurd h.level
