-- Loops of machines: what each turn keeps, the loop keeps; and a turn of a machine that was cut.
use Rattle.std.proofs.Common.{◌≡◌, ℕ, zero, suc, ◌≤◌, true, false, refl, sym, subst, ℤ, arith}
use Rattle.std.specs.Prelude.{int_lt, if◌then◌else◌}
use Rattle.fin_ir.specs.Machine.{Machine, assign, count_turn}
use Rattle.fin_ir.specs.Meaning.{Action, span, next_of, count_before, step_turn, step_loop}
use Rattle.fin_ir.proofs.Loops.{span_zero, span_next, step_goes, step_ends}
use Rattle.fin_nest.proofs.Still.{Stills}
use Rattle.fin_nest.proofs.Senses.{count_still}

module _ (var until : ℕ) (stop : Machine → ℤ) (body : Action) (hi : ℤ) (I : ℤ → Machine → Type 0) where
  pub step_rule : ((at : ℤ) (m : Machine) → I at m → int_lt at hi ≡ true → I (next_of var stop hi at m) (step_turn var until body hi at (next_of var stop hi at m) m))
      → (fuel : ℕ) (at : ℤ) (m : Machine) → span at hi ≤ fuel → I at m
      → (end : ℤ) × (I end (step_loop var until stop body at hi m) × (int_lt end hi ≡ false))
  step_rule keeps zero at m h i = let f = span_zero at hi (omega arith) in (at, (subst (I at) (sym (step_ends var until stop body hi at m f)) i, f))
  step_rule keeps (suc fuel) at m h i =
      let next = next_of var stop hi at m in
      let after = step_turn var until body hi at next m in
      elim (int_lt at hi) as (λ b. int_lt at hi ≡ b → (end : ℤ) × (I end (step_loop var until stop body at hi m) × (int_lt end hi ≡ false))) [
        | true ↦ (λ t. let q = span_next at hi (stop (assign var at m)) t in
            let r = step_rule keeps fuel next after (omega (arith, q, h)) (keeps at m i t) in
            (r.0, (subst (λ (x : Machine). I r.0 x) (sym (step_goes var until stop body hi at m t)) r.1.0, r.1.1)))
        | false ↦ (λ f. (at, (subst (I at) (sym (step_ends var until stop body hi at m f)) i, f)))
      ] refl

pub before_still : (next hi : ℤ) → Stills (count_before next hi)
before_still next hi m c = elim (int_lt next hi) as (λ b. (if b then count_turn m else m) ≡ m) [ true ↦ count_still m c | false ↦ refl ]
