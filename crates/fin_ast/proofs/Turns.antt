-- Loop turns never fall, whatever a statement does.
use Rattle.std.proofs.Common.{◌≡◌, ℕ, zero, suc, ◌+◌, ◌-◌, ◌<◌, ◌≤◌, ap, arith, List, pos}
use Rattle.std.specs.Prelude.{slice_set}
use Rattle.fin_ast.specs.declared.tree.Stmt.{Stmt}
use Rattle.fin_ast.specs.Value.{Numbers}
use Rattle.fin_ast.specs.Dense.{Setting, State, Action, braced, ticked, repeated, run_all}
use Rattle.fin_ast.proofs.Keeps.{StepsKeep, run_all_keeps}

abbrev pub Rises : Action → Type 0
Rises a = (vars : Numbers) (s : State) → s.turns ≤ (a vars s).turns

steps_rise : (w : Setting) (n : ℕ) → StepsKeep w (λ s. n ≤ s.turns)
steps_rise w n = record {
  ticks = λ s h. omega (arith, h);
  closes = λ before s h. h;
  declares = λ tensor s h. h;
  updates = λ tensor at by v s h. h;
}

pub run_all_rises : (w : Setting) (ss : List Stmt) → Rises (run_all w ss)
run_all_rises w ss vars s = run_all_keeps w (λ x. s.turns ≤ x.turns) (steps_rise w s.turns) ss vars s (omega arith)

pub braced_rises : (a : Action) → Rises a → Rises (braced a)
braced_rises a h vars s = h vars s

pub repeated_rises : (n lo var : ℕ) (a : Action) → Rises a → Rises (repeated n lo var a)
repeated_rises zero lo var a h vars s = omega arith
repeated_rises (suc n) lo var a h vars s =
    omega (arith, h (slice_set vars var (pos lo)) (ticked s), repeated_rises n (lo + 1) var a h vars (a (slice_set vars var (pos lo)) (ticked s)))

-- one turn at least is added where a range isn't empty
pub turn_more : (n lo var : ℕ) (a : Action) → Rises a → 0 < n → (vars : Numbers) (s : State) → s.turns < (repeated n lo var a vars s).turns
turn_more zero lo var a h p vars s = absurd (omega arith)
turn_more (suc n) lo var a h p vars s =
    omega (arith, h (slice_set vars var (pos lo)) (ticked s), repeated_rises n (lo + 1) var a h vars (a (slice_set vars var (pos lo)) (ticked s)))

-- the first turn, and the others
pub turn_first : (hi i var : ℕ) (a : Action) (vars : Numbers) (s : State) → i < hi → repeated (hi - i) i var a vars s ≡ repeated (hi - (i + 1)) (i + 1) var a vars (a (slice_set vars var (pos i)) (ticked s))
turn_first hi i var a vars s h =
    let e : hi - i ≡ suc (hi - (i + 1)) = omega arith in
    ap (λ (n : ℕ). repeated n i var a vars s) e
