-- A row of cases whose first test is a literal that holds.
use Rattle.std.proofs.Common.{◌≡◌, List, ◌∷◌, Bool, true, false, T, refl, sym, ap, ◌∙◌, subst, ℤ}
use Rattle.std.specs.Prelude.{not, if◌then◌else◌}
use Rattle.fin_ir.specs.declared.expression.IExpr.{IExpr}
use Rattle.fin_ir.specs.declared.expression.IExpr.TheVariants.{Num}
use Rattle.fin_ir.specs.Value.{is_off}
use Rattle.fin_ir.proofs.Values.{value_num}
use Rattle.fin_looplet.specs.declared.looplet.Case.{Case}
use Rattle.fin_looplet.specs.declared.looplet.Looplet.{Looplet, Row_of-Case, more_of-Case}
use Rattle.fin_looplet.specs.declared.looplet.Looplet.TheVariants.{Switch}
use Rattle.fin_looplet.specs.View.{Store, value}
use Rattle.fin_looplet.specs.Lists.{case_list}
use Rattle.fin_style_point.specs.Steps.{holds, switch_of}

off_not : (b : Bool) → not b ≡ true → b ≡ false
off_not true e = sym e
off_not false e = refl

-- a test that holds does so in any locals
pub holds_on : (ts : Store) (ls : List ℤ) (test : IExpr) → holds test ≡ true → is_off (value ts ls test) ≡ false
holds_on ts ls (Num n) e = ap is_off (value_num ts ls n) ∙ off_not (is_off n) e
holds_on ts ls test e = absurd (subst T (sym e) tt)

module _ (P : Looplet → Type 0) where
  -- what is so of the switch, and of the first child where its test holds, is so of the cases
  pub switch_is : (c : Case) (cs : List Case) → (holds c.test ≡ true → P c.child) → P (Switch (c ∷ cs)) → P (switch_of (c ∷ cs))
  switch_is c cs child whole = elim (holds c.test) as (λ b. holds c.test ≡ b → P (if b then c.child else Switch (c ∷ cs))) [
    | true ↦ child
    | false ↦ (λ e. whole)
  ] refl

  pub row_is : {n : _} (test : IExpr) (child : Looplet) (rest : Row_of-Case n) → (holds test ≡ true → P child) → P (Switch (case_list (more_of-Case test child rest)))
      → P (switch_of (case_list (more_of-Case test child rest)))
  row_is test child rest = switch_is (record { test = test; child = child }) (case_list rest)
