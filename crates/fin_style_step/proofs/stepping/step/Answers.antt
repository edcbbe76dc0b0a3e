use Rattle.std.proofs.Common.{◌≡◌, sym, subst}
use Rattle.std.proofs.lemmas.Result.{IfOk-weaker}
use Rattle.fin_style_step.specs.declared.nest.Parts.{Parts}
use Rattle.fin_style_step.specs.Parts.{parts_of}
use Rattle.fin_style_step.specs.Splits.{Splits, AllLighter, StaySeparate, AreOfNest}
use Rattle.fin_style_step.proofs.Both.{parts_split}
use Rattle.fin_style_step.proofs.stepping.step.Goals as goal

pub returns-clause-split : goal.returns-clause-split
returns-clause-split c =
    let n = c.args.nest in
    IfOk-weaker c.parts_of.result (λ (p : Parts). p ≡ parts_of n) (λ (p : Parts). Splits p n)
    (λ p e. subst (λ (q : Parts). Splits q n) (sym e) (parts_split n c.requires.style).split) c.parts_of.ensures

pub returns-clause-lighter : goal.returns-clause-lighter
returns-clause-lighter c =
    let n = c.args.nest in
    IfOk-weaker c.parts_of.result (λ (p : Parts). p ≡ parts_of n) (λ (p : Parts). AllLighter p n)
    (λ p e. subst (λ (q : Parts). AllLighter q n) (sym e) (parts_split n c.requires.style).lighter) c.parts_of.ensures

pub returns-clause-separate : goal.returns-clause-separate
returns-clause-separate c =
    let n = c.args.nest in
    IfOk-weaker c.parts_of.result (λ (p : Parts). p ≡ parts_of n) (λ (p : Parts). StaySeparate p n)
    (λ p e. subst (λ (q : Parts). StaySeparate q n) (sym e) (parts_split n c.requires.style).separate) c.parts_of.ensures

pub returns-clause-body : goal.returns-clause-body
returns-clause-body c =
    let n = c.args.nest in
    IfOk-weaker c.parts_of.result (λ (p : Parts). p ≡ parts_of n) (λ (p : Parts). AreOfNest p n)
    (λ p e. subst (λ (q : Parts). AreOfNest q n) (sym e) (parts_split n c.requires.style).body) c.parts_of.ensures
