-- What the builders of looplets make.
use Rattle.std.proofs.Common.{◌≡◌, List, [], ◌∷◌, Option, Some, refl, sym, ap, ◌∙◌}
use denote.Hole.Carrier.{hidden}
use Rattle.fin_ir.specs.declared.expression.IExpr.{IExpr}
use Rattle.fin_looplet.specs.declared.looplet.Looplet.{Looplet}
use Rattle.fin_looplet.specs.declared.looplet.Looplet.TheVariants.{Sequence, Stepper, Jumper}
use Rattle.fin_looplet.specs.declared.looplet.Looplet.TheBlock.{shape-the_row-Phase-0, hidden-the_row-Phase-0, shape-the_row-Walker-1, hidden-the_row-Walker-1}
use Rattle.fin_looplet.specs.declared.looplet.Phase.{Phase}
use Rattle.fin_looplet.specs.declared.looplet.Walker.{Walker}
use Rattle.fin_looplet.specs.Cut.{cut}
use Rattle.fin_looplet.specs.Lists.{phase_list}
use Rattle.fin_style_step.specs.declared.nest.Kind.TheVariants as kind
use Rattle.fin_style_step.specs.Steps.{Phased, sequence_of, phased, stepper, jumper, inside}
use Rattle.fin_style_step.specs.Parts.{phased_by, before_stop, behind_stop, stop_of, inside_one}

-- ---- walkers

stepper_is : (w : Walker) → stepper (Stepper w) ≡ Some w
unfolding shape-the_row-Walker-1 hidden-the_row-Walker-1 hidden
stepper_is w = refl

jumper_is : (w : Walker) → jumper (Jumper w) ≡ Some w
unfolding shape-the_row-Walker-1 hidden-the_row-Walker-1 hidden
jumper_is w = refl

pub stepper_arm : (l : Looplet) (w v u : Walker) → l ≡ Stepper w → v ≡ w → u ≡ v → Some u ≡ stepper l
stepper_arm l w v u a b c = ap (λ (x : Walker). Some x) (c ∙ b) ∙ sym (stepper_is w) ∙ ap stepper (sym a)

pub jumper_arm : (l : Looplet) (w v u : Walker) → l ≡ Jumper w → v ≡ w → u ≡ v → Some u ≡ jumper l
jumper_arm l w v u a b c = ap (λ (x : Walker). Some x) (c ∙ b) ∙ sym (jumper_is w) ∙ ap jumper (sym a)

pub inside_stepper : (hi : IExpr) (l : Looplet) (w v : Walker) → l ≡ Stepper w → v ≡ w → cut v.stop v.child ≡ inside_one kind.Stepper hi l
inside_stepper hi l w v a b = ap (λ (x : Walker). cut x.stop x.child) b ∙ ap (λ (o : Option Walker). inside hi o l) (sym (stepper_is w) ∙ ap stepper (sym a))

pub inside_jumper : (hi : IExpr) (l : Looplet) (w v : Walker) → l ≡ Jumper w → v ≡ w → cut v.stop v.child ≡ inside_one kind.Jumper hi l
inside_jumper hi l w v a b = ap (λ (x : Walker). cut x.stop x.child) b ∙ ap (λ (o : Option Walker). inside hi o l) (sym (jumper_is w) ∙ ap jumper (sym a))

-- ---- sequences

phases_back : (ps : List Phase) → phase_list (hidden-the_row-Phase-0 ps) ≡ ps
unfolding shape-the_row-Phase-0 hidden-the_row-Phase-0 hidden
phases_back [] = refl
phases_back (p ∷ ps) = ap (λ (xs : List Phase). p ∷ xs) (phases_back ps)

phased_is : (ps : List Phase) → phased (Sequence ps) ≡ Some (phased_by ps)
unfolding shape-the_row-Phase-0 hidden-the_row-Phase-0 hidden
phased_is [] = refl
phased_is (p ∷ ps) = ap (λ (xs : List Phase). Some (record { stop = p.stop; here = cut p.stop p.child; others = sequence_of xs })) (phases_back ps)

phased_arm : (l : Looplet) (ps qs : List Phase) → l ≡ Sequence ps → qs ≡ ps → Some (phased_by qs) ≡ phased l
phased_arm l ps qs a b = ap (λ (xs : List Phase). Some (phased_by xs)) b ∙ sym (phased_is ps) ∙ ap phased (sym a)

pub here_arm : (hi : IExpr) (l : Looplet) (ps qs : List Phase) → l ≡ Sequence ps → qs ≡ ps → (phased_by qs).here ≡ before_stop hi (phased l) l
here_arm hi l ps qs a b = ap (λ (o : Option Phased). before_stop hi o l) (phased_arm l ps qs a b)

pub others_arm : (l : Looplet) (ps qs : List Phase) → l ≡ Sequence ps → qs ≡ ps → (phased_by qs).others ≡ behind_stop (phased l) l
others_arm l ps qs a b = ap (λ (o : Option Phased). behind_stop o l) (phased_arm l ps qs a b)

pub stop_arm : (l : Looplet) (ps qs : List Phase) (e : IExpr) → l ≡ Sequence ps → qs ≡ ps → e ≡ (phased_by qs).stop → Some e ≡ stop_of (phased l)
stop_arm l ps qs e a b c = ap (λ (x : IExpr). Some x) c ∙ ap stop_of (phased_arm l ps qs a b)
