-- What the builders of looplets make.
use Rattle.std.proofs.Common.{◌≡◌, List, [], ◌∷◌, Some, pos, refl, sym, ap, ◌∙◌}
use denote.Hole.Carrier.{hidden}
use Rattle.fin_ir.specs.declared.expression.IExpr.{IExpr}
use Rattle.fin_ir.specs.declared.expression.IExpr.TheVariants.{Num}
use Rattle.fin_looplet.specs.declared.looplet.Case.{Case}
use Rattle.fin_looplet.specs.declared.looplet.Looplet.{Looplet}
use Rattle.fin_looplet.specs.declared.looplet.Looplet.TheVariants.{Switch, Shift}
use Rattle.fin_looplet.specs.declared.looplet.Looplet.TheBlock.{shape-the_row-Case-2, hidden-the_row-Case-2, shape-the_row-Looplet-3, hidden-the_row-Looplet-3}
use Rattle.fin_looplet.specs.Moved.{moved}
use Rattle.fin_looplet.specs.Lists.{case_list}
use Rattle.fin_style_point.specs.declared.nest.Branch.{Branch}
use Rattle.fin_style_point.specs.Steps.{unshifted, Alternatives, switch_of, first_case, alternatives}
use Rattle.fin_style_point.specs.Parts.{side, side_of, alternatives_of, test_or, test_of}

unshifted_shift : (by : IExpr) (child : Looplet) → unshifted (Shift by child) ≡ moved by child
unfolding shape-the_row-Looplet-3 hidden-the_row-Looplet-3 hidden
unshifted_shift by child = refl

pub shift_arm : (l : Looplet) (by : IExpr) (child child' : Looplet) → l ≡ Shift by child → child' ≡ child → moved by child' ≡ unshifted l
shift_arm l by child child' a b = ap (moved by) b ∙ sym (unshifted_shift by child) ∙ ap unshifted (sym a)

-- ---- switches

rows_back : (cs : List Case) → case_list (hidden-the_row-Case-2 cs) ≡ cs
unfolding shape-the_row-Case-2 hidden-the_row-Case-2 hidden
rows_back [] = refl
rows_back (c ∷ cs) = ap (λ (xs : List Case). c ∷ xs) (rows_back cs)

first_back : (cs : List Case) → first_case (hidden-the_row-Case-2 cs) ≡ alternatives_of cs
unfolding shape-the_row-Case-2 hidden-the_row-Case-2 hidden
first_back [] = refl
first_back (c ∷ cs) = ap (λ (xs : List Case). record { test = c.test; taken = c.child; others = switch_of xs }) (rows_back cs)

alternatives_switch : (cs : List Case) → alternatives (Switch cs) ≡ Some (alternatives_of cs)
unfolding shape-the_row-Case-2 hidden-the_row-Case-2 hidden
alternatives_switch cs = ap (λ (a : Alternatives). Some a) (first_back cs)

pub side_arm : (branch : Branch) (l : Looplet) (cs cs' : List Case) → l ≡ Switch cs → cs' ≡ cs → side branch (alternatives_of cs') ≡ side_of branch (alternatives l) l
side_arm branch l cs cs' a b =
    ap (λ (xs : List Case). side branch (alternatives_of xs)) b
    ∙ ap (λ o. side_of branch o l) (sym (alternatives_switch cs)) ∙ ap (λ (x : Looplet). side_of branch (alternatives x) l) (sym a)

pub test_arm : (l : Looplet) (cs cs' : List Case) → l ≡ Switch cs → cs' ≡ cs → (alternatives_of cs').test ≡ test_of l
test_arm l cs cs' a b =
    ap (λ (xs : List Case). (alternatives_of xs).test) b
    ∙ ap (λ o. test_or o (Num (pos 0))) (sym (alternatives_switch cs)) ∙ ap test_of (sym a)
