-- How loops go on, over any body.
use Rattle.std.proofs.Common.{◌≡◌, ℕ, ◌<◌, ◌≤◌, ◌+◌, ◌-◌, List, true, false, refl, sym, ap, ◌∙◌, ℤ, pos, negsuc, ◌+ℤ◌, ◌-ℤ◌, neg_ℤ, zero, suc, arith, length, get_or, drop, drop-cons, add-one}
use Rattle.std.specs.Prelude.{int_lt}
use Rattle.std.specs.Int.{int_min}
use Rattle.std.proofs.lemmas.Int.{ints, int_max_is, int_min_is}
use borrow.Author.Differences.{up, down, lt-true, lt-false, sum_is_lem, neg_is}
use Rattle.fin_ir.specs.declared.code.Code.{Code}
use Rattle.fin_ir.specs.declared.layout.Layout.{Layout}
use Rattle.fin_ir.specs.Machine.{Machine, whole, assign}
use Rattle.fin_ir.specs.Meaning.{Action, span, clamped, next_of, step_turn, step_turns, step_loop, for_turn, for_turns, for_loop, meaning, meaning_all}

-- ---- how far the turns can still go

whole_is : (z : ℤ) → whole z ≡ up z - down z
whole_is (pos n) = omega arith
whole_is (negsuc n) = omega arith

pub span_is : (a b : ℤ) → span a b ≡ (up b + down a) - (up a + down b)
span_is a b = omega (arith, whole_is (b -ℤ a), sum_is_lem b (neg_ℤ a), neg_is a)

pub span_zero : (at hi : ℤ) → span at hi ≡ 0 → int_lt at hi ≡ false
span_zero at hi h = let e = span_is at hi in grind (arith, ints)

pub span_off : (at hi : ℤ) → int_lt at hi ≡ false → span at hi ≡ 0
span_off at hi t = omega (arith, lt-false at hi t, span_is at hi)

pub span_next : (at hi stop : ℤ) → int_lt at hi ≡ true → span (clamped stop at hi) hi < span at hi
span_next at hi stop t =
    let a = span_is at hi in
    let b = span_is (clamped stop at hi) hi in
    let c = int_max_is (at +ℤ pos 1) (int_min stop hi) in
    let d = int_min_is stop hi in
    let s = sum_is_lem at (pos 1) in
    omega (arith, lt-true at hi t)

pub span_one : (at hi : ℤ) → int_lt at hi ≡ true → span at hi ≡ suc (span (at +ℤ pos 1) hi)
span_one at hi t = omega (arith, lt-true at hi t, span_is at hi, span_is (at +ℤ pos 1) hi, sum_is_lem at (pos 1))

-- ---- a loop by steps

module _ (var until : ℕ) (stop : Machine → ℤ) (body : Action) (hi : ℤ) where
  step_on : (fuel : ℕ) (at : ℤ) (m : Machine) → int_lt at hi ≡ true → step_turns var until stop body hi (suc fuel) at m ≡ step_turns var until stop body hi fuel (next_of var stop hi at m) (step_turn var until body hi at (next_of var stop hi at m) m)
  step_on fuel at m t = rw t refl

  step_off : (fuel : ℕ) (at : ℤ) (m : Machine) → int_lt at hi ≡ false → step_turns var until stop body hi fuel at m ≡ m
  step_off zero at m t = refl
  step_off (suc fuel) at m t = rw t refl

  -- more turns than are left change nothing
  step_enough : (fuel more : ℕ) (at : ℤ) (m : Machine) → span at hi ≤ fuel → span at hi ≤ more → step_turns var until stop body hi fuel at m ≡ step_turns var until stop body hi more at m
  step_enough zero more at m h k = sym (step_off more at m (span_zero at hi (omega arith)))
  step_enough (suc fuel) zero at m h k = step_off (suc fuel) at m (span_zero at hi (omega arith))
  step_enough (suc fuel) (suc more) at m h k =
      let next = next_of var stop hi at m in
      let after = step_turn var until body hi at next m in
      elim (int_lt at hi) as (λ b. int_lt at hi ≡ b → step_turns var until stop body hi (suc fuel) at m ≡ step_turns var until stop body hi (suc more) at m) [
        | true ↦ (λ t. let s = span_next at hi (stop (assign var at m)) t in
            step_on fuel at m t ∙ step_enough fuel more next after (omega arith) (omega arith) ∙ sym (step_on more at m t))
        | false ↦ (λ t. step_off (suc fuel) at m t ∙ sym (step_off (suc more) at m t))
      ] refl

  -- one turn, and the rest
  pub step_goes : (at : ℤ) (m : Machine) → int_lt at hi ≡ true → step_loop var until stop body at hi m ≡ step_loop var until stop body (next_of var stop hi at m) hi (step_turn var until body hi at (next_of var stop hi at m) m)
  step_goes at m t =
      let next = next_of var stop hi at m in
      let after = step_turn var until body hi at next m in
      let s = span_next at hi (stop (assign var at m)) t in
      let k = span at hi - 1 in
      let e : span at hi ≡ suc k = omega arith in
      ap (λ n. step_turns var until stop body hi n at m) e ∙ step_on k at m t ∙ step_enough k (span next hi) next after (omega arith) (omega arith)

  pub step_ends : (at : ℤ) (m : Machine) → int_lt at hi ≡ false → step_loop var until stop body at hi m ≡ m
  step_ends at m t = step_off (span at hi) at m t

-- ---- a loop over each number

module _ (var : ℕ) (body : Action) (hi : ℤ) where
  pub for_goes : (at : ℤ) (m : Machine) → int_lt at hi ≡ true → for_loop var body at hi m ≡ for_loop var body (at +ℤ pos 1) hi (for_turn var body at m)
  for_goes at m t = ap (λ n. for_turns var body n at m) (span_one at hi t)

  pub for_ends : (at : ℤ) (m : Machine) → int_lt at hi ≡ false → for_loop var body at hi m ≡ m
  for_ends at m t = ap (λ n. for_turns var body n at m) (span_off at hi t)

-- ---- several codes

pub all_goes : (layout : Layout) (all : List Code) (i : ℕ) (c : Code) (m : Machine) → i < length all → c ≡ get_or all i c → meaning_all layout (drop i all) m ≡ meaning_all layout (drop (i + 1) all) (meaning layout c m)
all_goes layout all i c m h e = ap (λ l. meaning_all layout l m) (drop-cons all i c h) ∙ ap (λ x. meaning_all layout (drop (suc i) all) (meaning layout x m)) (sym e) ∙ ap (λ n. meaning_all layout (drop n all) (meaning layout c m)) (sym (add-one i))
