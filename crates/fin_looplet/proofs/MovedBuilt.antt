-- What the builders of moved looplets make.
use Rattle.std.proofs.Common.{◌≡◌, List, [], ◌∷◌, refl, sym, ap, ◌∙◌}
use Rattle.std.specs.Prelude.{map}
use denote.Hole.Carrier.{hidden}
use Rattle.fin_ir.specs.declared.expression.IExpr.{IExpr}
use Rattle.fin_looplet.specs.declared.looplet.Looplet.{Looplet, Row_of-Phase, end_of-Phase, more_of-Phase, Row_of-Case, end_of-Case, more_of-Case}
use Rattle.fin_looplet.specs.declared.looplet.Looplet.TheVariants.{Sequence, Sequence', Stepper, Jumper, Switch, Switch', Shift}
use Rattle.fin_looplet.specs.declared.looplet.Looplet.TheBlock.{shape-the_row-Phase-0, hidden-the_row-Phase-0, shape-the_row-Walker-1, hidden-the_row-Walker-1, shape-the_row-Case-2, hidden-the_row-Case-2, shape-the_row-Looplet-3, hidden-the_row-Looplet-3}
use Rattle.fin_looplet.specs.declared.looplet.Phase.{Phase}
use Rattle.fin_looplet.specs.declared.looplet.Walker.{Walker}
use Rattle.fin_looplet.specs.declared.looplet.Case.{Case}
use Rattle.fin_looplet.specs.Cut.{plus}
use Rattle.fin_looplet.specs.Lists.{phase_list, case_list}
use Rattle.fin_looplet.specs.Moved.{moved, moved_phases, moved_cases, moved_phase, moved_one, moved_case}

-- ---- a row is that of its phases or cases
longer : IExpr → Looplet → Looplet → Looplet
unfolding shape-the_row-Phase-0 hidden-the_row-Phase-0 hidden
longer stop child (Sequence' n r) = Sequence' (tt ∷ n) (more_of-Phase stop child r)
longer stop child l = l

phases_again : (n : _) (r : Row_of-Phase _) → Sequence' n r ≡ Sequence (phase_list r)
unfolding longer shape-the_row-Phase-0 hidden-the_row-Phase-0 hidden
phases_again [] end_of-Phase = refl
phases_again (u ∷ n) (more_of-Phase stop child r) = ap (longer stop child) (phases_again n r)

phases_back : (ps : List Phase) → phase_list (hidden-the_row-Phase-0 ps) ≡ ps
unfolding shape-the_row-Phase-0 hidden-the_row-Phase-0 hidden
phases_back [] = refl
phases_back (p ∷ ps) = ap (λ (xs : List Phase). p ∷ xs) (phases_back ps)

phases_moved : {n : _} (by : IExpr) (r : Row_of-Phase n) → phase_list (moved_phases by r) ≡ map (moved_phase by) (phase_list r)
phases_moved by end_of-Phase = refl
phases_moved by (more_of-Phase stop child r) = ap (λ (xs : List Phase). moved_phase by (record { stop = stop; child = child }) ∷ xs) (phases_moved by r)

pub moved_sequence : (by : IExpr) (ps : List Phase) → moved by (Sequence ps) ≡ Sequence (map (moved_phase by) ps)
unfolding shape-the_row-Phase-0 hidden-the_row-Phase-0 hidden
moved_sequence by ps =
    phases_again _ (moved_phases by (hidden-the_row-Phase-0 ps))
    ∙ ap Sequence (phases_moved by (hidden-the_row-Phase-0 ps) ∙ ap (map (moved_phase by)) (phases_back ps))

longer_switch : IExpr → Looplet → Looplet → Looplet
unfolding shape-the_row-Case-2 hidden-the_row-Case-2 hidden
longer_switch test child (Switch' n r) = Switch' (tt ∷ n) (more_of-Case test child r)
longer_switch test child l = l

cases_again : (n : _) (r : Row_of-Case _) → Switch' n r ≡ Switch (case_list r)
unfolding longer_switch shape-the_row-Case-2 hidden-the_row-Case-2 hidden
cases_again [] end_of-Case = refl
cases_again (u ∷ n) (more_of-Case test child r) = ap (longer_switch test child) (cases_again n r)

cases_back : (cs : List Case) → case_list (hidden-the_row-Case-2 cs) ≡ cs
unfolding shape-the_row-Case-2 hidden-the_row-Case-2 hidden
cases_back [] = refl
cases_back (c ∷ cs) = ap (λ (xs : List Case). c ∷ xs) (cases_back cs)

cases_moved : {n : _} (by : IExpr) (r : Row_of-Case n) → case_list (moved_cases by r) ≡ map (moved_case by) (case_list r)
cases_moved by end_of-Case = refl
cases_moved by (more_of-Case test child r) = ap (λ (xs : List Case). moved_case by (record { test = test; child = child }) ∷ xs) (cases_moved by r)

pub moved_switch : (by : IExpr) (cs : List Case) → moved by (Switch cs) ≡ Switch (map (moved_case by) cs)
unfolding shape-the_row-Case-2 hidden-the_row-Case-2 hidden
moved_switch by cs =
    cases_again _ (moved_cases by (hidden-the_row-Case-2 cs))
    ∙ ap Switch (cases_moved by (hidden-the_row-Case-2 cs) ∙ ap (map (moved_case by)) (cases_back cs))

-- ---- walkers and shifts
pub moved_stepper : (by : IExpr) (w : Walker) → moved by (Stepper w) ≡ Stepper (moved_one by w)
unfolding shape-the_row-Walker-1 hidden-the_row-Walker-1 hidden
moved_stepper by w = refl

pub moved_jumper : (by : IExpr) (w : Walker) → moved by (Jumper w) ≡ Jumper (moved_one by w)
unfolding shape-the_row-Walker-1 hidden-the_row-Walker-1 hidden
moved_jumper by w = refl

pub moved_shift : (by inner : IExpr) (child : Looplet) → moved by (Shift inner child) ≡ moved (plus by inner) child
unfolding shape-the_row-Looplet-3 hidden-the_row-Looplet-3 hidden
moved_shift by inner child = refl

-- ---- the arms of the builder
pub sequence_arm : (by : IExpr) (l : Looplet) (ps ps' out : List Phase) → l ≡ Sequence ps → ps' ≡ ps → out ≡ map (moved_phase by) ps' → Sequence out ≡ moved by l
sequence_arm by l ps ps' out a b c = ap Sequence (c ∙ ap (map (moved_phase by)) b) ∙ sym (moved_sequence by ps) ∙ ap (moved by) (sym a)

pub stepper_arm : (by : IExpr) (l : Looplet) (w w' out : Walker) → l ≡ Stepper w → w' ≡ w → out ≡ moved_one by w' → Stepper out ≡ moved by l
stepper_arm by l w w' out a b c = ap Stepper (c ∙ ap (moved_one by) b) ∙ sym (moved_stepper by w) ∙ ap (moved by) (sym a)

pub jumper_arm : (by : IExpr) (l : Looplet) (w w' out : Walker) → l ≡ Jumper w → w' ≡ w → out ≡ moved_one by w' → Jumper out ≡ moved by l
jumper_arm by l w w' out a b c = ap Jumper (c ∙ ap (moved_one by) b) ∙ sym (moved_jumper by w) ∙ ap (moved by) (sym a)

pub switch_arm : (by : IExpr) (l : Looplet) (cs cs' out : List Case) → l ≡ Switch cs → cs' ≡ cs → out ≡ map (moved_case by) cs' → Switch out ≡ moved by l
switch_arm by l cs cs' out a b c = ap Switch (c ∙ ap (map (moved_case by)) b) ∙ sym (moved_switch by cs) ∙ ap (moved by) (sym a)

pub shift_arm : (by : IExpr) (l : Looplet) (inner both : IExpr) (child child' : Looplet) → l ≡ Shift inner child → both ≡ plus by inner → child' ≡ child → moved both child' ≡ moved by l
shift_arm by l inner both child child' a b c = ap (λ z. moved z child') b ∙ ap (moved (plus by inner)) c ∙ sym (moved_shift by inner child) ∙ ap (moved by) (sym a)
