-- The breaks of a fibre, and how many of its coordinates are stored.
use Rattle.std.proofs.Common.{◌≡◌, ℕ, zero, suc, ◌+◌, ◌-◌, ◌<◌, ◌≤◌, List, ◌∷◌, length, refl, sym, ap, ◌∙◌, subst, inl, inr, ◌⊎◌, ⊎_elim, arith, cond}
use Rattle.std.specs.Prelude.{◌↔◌, slice_index, nat_lt, nat_eq, true, false, Bool, ◌&&◌, ◌||◌, Some, None, is_some, if◌then◌else◌}
use Rattle.std.specs.List.{filter, range_with_len}
use Rattle.std.proofs.lemmas.Bool.{cases_lt, ltb-true}
use Rattle.std.proofs.lemmas.Bool.Decides.{nat_tests}
use Rattle.fin_tensor.specs.declared.part.Part.TheVariants as part
use Rattle.fin_tensor.specs.Levels.{IsAt, first_from}
use Rattle.fin_tensor.specs.Pieces.{walked, followed, HoldsNumber, holds_number, IsBreak, ends_after, EndsAreBreaks, StoredAreFew}
use Rattle.fin_tensor.proofs.Fibres.{first_place, first_is, at_keys, at_runs, level_keys, level_runs, fibre_rises}
use Rattle.fin_tensor.proofs.Walk.{and_first, and_second}

-- ---- a number and its place

pub or_cases : (a b : Bool) → (a || b) ≡ true → (a ≡ true) ⊎ (b ≡ true)
or_cases true b h = inl refl
or_cases false b h = inr h

pub or_first : (a b : Bool) → a ≡ true → (a || b) ≡ true
or_first true b h = refl
or_first false b h = cc

pub or_second : (a b : Bool) → b ≡ true → (a || b) ≡ true
or_second true b h = refl
or_second false b h = h

pub and_both : (a b : Bool) → a ≡ true → b ≡ true → (a && b) ≡ true
and_both true b h k = k
and_both false b h k = cc

some_when : (b : Bool) (q : ℕ) → is_some (if b then Some q else None) ≡ b
some_when true q = refl
some_when false q = refl

-- the test by the first place that may hold the number
pub holds_is : (xs : List ℕ) (from to x : ℕ) → holds_number xs from to x ≡ (nat_lt (first_from xs x from (to - from)) to && nat_eq (slice_index xs (first_from xs x from (to - from))) x)
holds_is xs from to x = some_when (nat_lt (first_from xs x from (to - from)) to && nat_eq (slice_index xs (first_from xs x from (to - from))) x) (first_from xs x from (to - from))

pub held_at : (xs : List ℕ) (from to x : ℕ) → holds_number xs from to x ≡ true → (first_from xs x from (to - from) < to) × (slice_index xs (first_from xs x from (to - from)) ≡ x)
held_at xs from to x h =
    let r = first_from xs x from (to - from) in
    let both : (nat_lt r to && nat_eq (slice_index xs r) x) ≡ true = sym (holds_is xs from to x) ∙ h in
    let lt = and_first (nat_lt r to) (nat_eq (slice_index xs r) x) both in
    let eq = and_second (nat_lt r to) (nat_eq (slice_index xs r) x) both in
    (ltb-true r to lt, grind (arith, nat_tests))

pub held_by : (xs : List ℕ) (from to x : ℕ) → first_from xs x from (to - from) < to → slice_index xs (first_from xs x from (to - from)) ≡ x → holds_number xs from to x ≡ true
held_by xs from to x lt eq =
    let r = first_from xs x from (to - from) in
    let a : nat_lt r to ≡ true = grind (arith, nat_tests) in
    let b : nat_eq (slice_index xs r) x ≡ true = grind (arith, nat_tests) in
    holds_is xs from to x ∙ and_both (nat_lt r to) (nat_eq (slice_index xs r) x) a b

-- the numbers at from..to rise
abbrev Rise : List ℕ → ℕ → ℕ → Type 0
Rise xs from to = (j k : ℕ) → from ≤ j → j < k → k < to → slice_index xs j < slice_index xs k

-- a number that stands somewhere in a rising part is found
pub held_there : (xs : List ℕ) (from to x : ℕ) → Rise xs from to → HoldsNumber xs from to x → holds_number xs from to x ≡ true
held_there xs from to x rises h =
    let q = h.0 in
    let first : first_from xs x from (to - from) ≡ q =
    first_is xs x from to q h.1 (omega (arith, h.2)) (λ k a b. omega (arith, h.3, rises k q a b h.2)) (λ _. omega (arith, h.3)) in
    held_by xs from to x (omega (arith, first, h.2)) (ap (slice_index xs) first ∙ h.3)

pub held_number : (xs : List ℕ) (from to x : ℕ) → from ≤ to → holds_number xs from to x ≡ true → HoldsNumber xs from to x
held_number xs from to x order h = let q = held_at xs from to x h in (first_from xs x from (to - from), (first_place xs x from to order).low, q.0, q.1)

-- ---- the breaks of a fibre

keys_rise : (n : ℕ) (ptr idx : List ℕ) (p : ℕ) → IsAt n (part.Keys ptr idx) p → Rise idx (slice_index ptr p) (slice_index ptr (p + 1))
keys_rise n ptr idx p at j k a b c =
    let lines = level_keys at.kind n at.count ptr idx at.level in
    omega (arith, b, fibre_rises idx (slice_index ptr p) (slice_index ptr (p + 1)) (λ i u v. lines.1.rises p i at.within u v) j k a (omega (arith, b)) c)

runs_rise : (n : ℕ) (ptr stop : List ℕ) (p : ℕ) → IsAt n (part.Runs ptr stop) p → Rise stop (slice_index ptr p) (slice_index ptr (p + 1))
runs_rise n ptr stop p at j k a b c =
    let lines = level_runs at.kind n at.count ptr stop at.level in
    omega (arith, b, fibre_rises stop (slice_index ptr p) (slice_index ptr (p + 1)) (λ i u v. lines.1.rises p i at.within u v) j k a (omega (arith, b)) c)

ends_keys : (n : ℕ) (ptr idx : List ℕ) (p i : ℕ) → IsAt n (part.Keys ptr idx) p → (ends_after walked (part.Keys ptr idx) p i ≡ true) ↔ IsBreak walked (part.Keys ptr idx) p (i + 1)
ends_keys n ptr idx p i at =
    let from = slice_index ptr p in
    let to = slice_index ptr (p + 1) in
    let f = at_keys n (part.Keys ptr idx) p ptr idx at refl in
    let rise = keys_rise n ptr idx p at in
    let here = holds_number idx from to i in
    let next = holds_number idx from to (i + 1) in (
      λ h. ⊎_elim
          (λ (a : holds_number idx from to i ≡ true). (i, held_number idx from to i f.order a, inr refl))
          (λ (b : holds_number idx from to (i + 1) ≡ true). (i + 1, held_number idx from to (i + 1) f.order b, inl refl))
          (or_cases (holds_number idx from to i) (holds_number idx from to (i + 1)) h),
      λ h. ⊎_elim
          (λ (a : i + 1 ≡ h.0). or_second here next (held_there idx from to (i + 1) rise (subst (λ (x : ℕ). HoldsNumber idx from to x) (sym a) h.1)))
          (λ (a : i + 1 ≡ h.0 + 1). let e : h.0 ≡ i = omega arith in or_first here next (held_there idx from to i rise (subst (λ (x : ℕ). HoldsNumber idx from to x) e h.1)))
          h.2,
    )

ends_runs : (n : ℕ) (ptr stop : List ℕ) (p i : ℕ) → IsAt n (part.Runs ptr stop) p → (ends_after walked (part.Runs ptr stop) p i ≡ true) ↔ IsBreak walked (part.Runs ptr stop) p (i + 1)
ends_runs n ptr stop p i at =
    let from = slice_index ptr p in
    let to = slice_index ptr (p + 1) in
    let f = at_runs n (part.Runs ptr stop) p ptr stop at refl in
    (λ h. held_number stop from to (i + 1) f.order h, λ h. held_there stop from to (i + 1) (runs_rise n ptr stop p at) h)

ends_band : (ptr start : List ℕ) (p i : ℕ) → (ends_after walked (part.Band ptr start) p i ≡ true) ↔ IsBreak walked (part.Band ptr start) p (i + 1)
ends_band ptr start p i =
    let from = slice_index ptr p in
    let to = slice_index ptr (p + 1) in
    let s = slice_index start p in
    let some = nat_lt from to in
    let low = nat_eq (i + 1) s in
    let high = nat_eq (i + 1) (s + (to - from)) in (
      λ h.
          let a = and_first some (low || high) h in
          let b = and_second some (low || high) h in
          (ltb-true from to a, ⊎_elim (λ (l : low ≡ true). inl (grind (arith, nat_tests))) (λ (l : high ≡ true). inr (grind (arith, nat_tests))) (or_cases low high b)),
      λ h.
          let lt : from < to = h.0 in
          let a : some ≡ true = grind (arith, nat_tests) in
          and_both some (low || high) a
          (⊎_elim (λ (l : i + 1 ≡ s). let b : low ≡ true = grind (arith, nat_tests) in or_first low high b)
          (λ (l : i + 1 ≡ s + (to - from)). let b : high ≡ true = grind (arith, nat_tests) in or_second low high b) h.1),
    )

pub ends_are_breaks : EndsAreBreaks
ends_are_breaks walked n part.Dense p i at = (λ h. cc, λ h. absurd h)
ends_are_breaks walked n (part.Keys ptr idx) p i at = ends_keys n ptr idx p i at
ends_are_breaks walked n (part.Runs ptr stop) p i at = ends_runs n ptr stop p i at
ends_are_breaks walked n (part.Band ptr start) p i at = ends_band ptr start p i
ends_are_breaks followed n q p i at = (λ h. cc, λ h. absurd h)

-- ---- how many coordinates are stored

-- the place of a greater number comes later, and behind that of a number that is held
first_later : (xs : List ℕ) (from to x y : ℕ) → from ≤ to → x < y → first_from xs x from (to - from) ≤ first_from xs y from (to - from)
first_later xs from to x y order lt =
    let f = first_place xs x from to order in
    let g = first_place xs y from to order in
    let r = first_from xs x from (to - from) in
    let s = first_from xs y from (to - from) in
    ⊎_elim (λ (h : s < r). absurd (omega (arith, f.before s g.low h, g.here (omega (arith, f.high))))) (λ (h : r ≤ s). h) (cases_lt s r)

first_behind : (xs : List ℕ) (from to x y : ℕ) → from ≤ to → x < y → holds_number xs from to x ≡ true → first_from xs x from (to - from) < first_from xs y from (to - from)
first_behind xs from to x y order lt h =
    let g = first_place xs y from to order in
    let at = held_at xs from to x h in
    let r = first_from xs x from (to - from) in
    let s = first_from xs y from (to - from) in
    let le = first_later xs from to x y order lt in
    ⊎_elim (λ (l : r < s). l) (λ (l : s ≤ r). let e : s ≡ r = omega arith in absurd (omega (arith, at.1, ap (slice_index xs) e, g.here (omega (arith, at.0))))) (cases_lt r s)

cond_length : (b : Bool) (x : ℕ) (xs : List ℕ) → length (cond b (x ∷ xs) xs) ≡ cond b (suc (length xs)) (length xs)
cond_length true x xs = refl
cond_length false x xs = refl

count_from : (xs : List ℕ) (from to shift : ℕ) → from ≤ to → (a m : ℕ) →
    length (filter (λ i. holds_number xs from to (i + shift)) (range_with_len a m)) ≤ to - first_from xs (a + shift) from (to - from)
count_from xs from to shift order a zero = omega arith
count_from xs from to shift order a (suc m) =
    let p : ℕ → Bool = λ i. holds_number xs from to (i + shift) in
    let more = filter p (range_with_len (a + 1) m) in
    let rest = count_from xs from to shift order (a + 1) m in
    let lt : a + shift < a + 1 + shift = omega arith in
    let g = first_place xs (a + shift) from to order in
    let g' = first_place xs (a + 1 + shift) from to order in
    subst (λ (k : ℕ). k ≤ to - first_from xs (a + shift) from (to - from)) (sym (cond_length (p a) a more))
    (elim (p a) as (λ b. p a ≡ b → cond b (suc (length more)) (length more) ≤ to - first_from xs (a + shift) from (to - from)) [
      | true ↦ (λ h. omega (arith, rest, g.high, g'.high, first_behind xs from to (a + shift) (a + 1 + shift) order lt h))
      | false ↦ (λ h. omega (arith, rest, first_later xs from to (a + shift) (a + 1 + shift) order lt))
    ] refl)

pub stored_are_few : StoredAreFew
stored_are_few xs from to shift a m order = omega (arith, count_from xs from to shift order a m, (first_place xs (a + shift) from to order).low)
