-- What the builders of cut looplets make.
use Rattle.std.proofs.Common.{◌≡◌, List, [], ◌∷◌, refl, sym, ap, ◌∙◌}
use Rattle.std.specs.Prelude.{map}
use denote.Hole.Carrier.{hidden}
use Rattle.fin_ir.specs.declared.expression.IExpr.{IExpr}
use Rattle.fin_looplet.specs.declared.looplet.Looplet.{Looplet}
use Rattle.fin_looplet.specs.declared.looplet.Looplet.TheVariants.{Switch, Shift}
use Rattle.fin_looplet.specs.declared.looplet.Looplet.TheBlock.{shape-the_row-Case-2, hidden-the_row-Case-2, shape-the_row-Looplet-3, hidden-the_row-Looplet-3}
use Rattle.fin_looplet.specs.declared.looplet.Case.{Case}
use Rattle.fin_looplet.specs.Cut.{cut, cut_cases, cut_case, minus, cap}

rows : (e : IExpr) (cs : List Case) → cut_cases e (hidden-the_row-Case-2 cs) ≡ map (cut_case e) cs
unfolding shape-the_row-Case-2 hidden-the_row-Case-2 hidden
rows e [] = refl
rows e (c ∷ cs) = ap (λ (xs : List Case). cut_case e c ∷ xs) (rows e cs)

pub cut_switch : (e : IExpr) (cs : List Case) → cut e (Switch cs) ≡ Switch (map (cut_case e) cs)
cut_switch e cs = ap Switch (rows e cs)

pub cut_shift : (e by : IExpr) (child : Looplet) → cut e (Shift by child) ≡ Shift by (cut (minus (cap e) by) child)
unfolding shape-the_row-Looplet-3 hidden-the_row-Looplet-3 hidden
cut_shift e by child = refl

pub switch_arm : (e : IExpr) (l : Looplet) (cs cs' out : List Case) → l ≡ Switch cs → cs' ≡ cs → out ≡ map (cut_case e) cs' → Switch out ≡ cut e l
switch_arm e l cs cs' out a b c = ap Switch (c ∙ ap (map (cut_case e)) b) ∙ sym (cut_switch e cs) ∙ ap (cut e) (sym a)

pub shift_arm : (e : IExpr) (l : Looplet) (by by' : IExpr) (child child' out : Looplet) → l ≡ Shift by child → child' ≡ child → out ≡ cut (minus (cap e) by) child' → by' ≡ by → Shift by' out ≡ cut e l
shift_arm e l by by' child child' out a b c d =
    ap (λ x. Shift x out) d ∙ ap (λ (x : Looplet). Shift by x) (c ∙ ap (cut (minus (cap e) by)) b) ∙ sym (cut_shift e by child) ∙ ap (cut e) (sym a)
