use Rattle.std.proofs.Common.{◌≡◌, ◌≢◌, ℕ, List, [], ◌∷◌, length, refl, sym, ap, ◌∙◌, arith, Bool, true, false, ◌&&◌}
use Rattle.fin_ast.specs.declared.tree.Index.{Index}
use Rattle.fin_ast.specs.Ties.{bare}
use Rattle.fin_ast.specs.Order.{is_variable, are_variables}
use Rattle.fin_life.proofs.loops.are_variables.Goals as goal

and_false : (b : Bool) → (b && false) ≡ false
and_false b = elim b as (λ v. (v && false) ≡ false) [ true ↦ refl | false ↦ refl ]

uneven : (vs : List ℕ) (is : List Index) → length vs ≢ length is → are_variables vs is ≡ false
uneven [] [] n = absurd (n refl)
uneven [] (i ∷ is) n = refl
uneven (v ∷ vs) [] n = refl
uneven (v ∷ vs) (i ∷ is) n = ap (λ (b : Bool). is_variable v (bare i) && b) (uneven vs is (omega arith)) ∙ and_false (is_variable v (bare i))

pub returns-then-loops-at : goal.returns-then-loops-at
returns-then-loops-at c = sym (uneven c.args.loops.now c.args.at.now c.if-loops-at.true)
