use Rattle.std.proofs.Common.{subst, ◌≡◌, ◌+◌, ◌∙◌, map, arith}
use Rattle.std.proofs.lemmas.Result.{IfOk-weaker}
use Rattle.fin_style_step.specs.declared.nest.Nest as stepping
use Rattle.fin_style_step.specs.Parts.{parts_of as parts_along}
use Rattle.fin_style_step.specs.Splits.{Splits, AllLighter as Lighter, StaySeparate as Separately}
use Rattle.fin_descend.specs.declared.stepping.Split.{Split}
use Rattle.fin_descend.specs.Parts.{as_point, parts_of, frame_of}
use Rattle.fin_descend.specs.Promises.{Divides, AllLighter, StaySeparate}
use Rattle.fin_descend.specs.Naming.{step_end}
use Rattle.fin_descend.proofs.Steps.{steps_divide, steps_light, steps_apart, steps_are, steps_framed, end_along}
use Rattle.fin_descend.proofs.stepping.step_along.Goals as goal

pub returns-clause-divides : goal.returns-clause-divides
returns-clause-divides c =
    let n = c.args.nest in
    let p = c.in_ok-parts.parts in
    IfOk-weaker c.steps_split.result (λ (q : Split). (q.frame ≡ p.frame) × ((q.nests ≡ map as_point p.nests) × (q.room ≡ n.next + 3))) (λ (q : Split). Divides q n)
    (λ q e. steps_divide n p q e.0 e.1.0 (subst (λ (m : stepping.Nest). Splits p m) c.as_stepping.ensures c.in_ok-parts.ensures.split) (omega (arith, e.1.1))) c.steps_split.ensures

pub returns-clause-lighter : goal.returns-clause-lighter
returns-clause-lighter c =
    let n = c.args.nest in
    let p = c.in_ok-parts.parts in
    IfOk-weaker c.steps_split.result (λ (q : Split). (q.frame ≡ p.frame) × ((q.nests ≡ map as_point p.nests) × (q.room ≡ n.next + 3))) (λ (q : Split). AllLighter q n)
    (λ q e. steps_light n p q e.0 e.1.0 (subst (λ (m : stepping.Nest). Lighter p m) c.as_stepping.ensures c.in_ok-parts.ensures.lighter)) c.steps_split.ensures

pub returns-clause-separate : goal.returns-clause-separate
returns-clause-separate c =
    let n = c.args.nest in
    let p = c.in_ok-parts.parts in
    IfOk-weaker c.steps_split.result (λ (q : Split). (q.frame ≡ p.frame) × ((q.nests ≡ map as_point p.nests) × (q.room ≡ n.next + 3))) (λ (q : Split). StaySeparate q n)
    (λ q e. steps_apart n p q e.0 e.1.0 (subst (λ (m : stepping.Nest). Separately p m) c.as_stepping.ensures c.in_ok-parts.ensures.separate)) c.steps_split.ensures

pub returns-clause-parts : goal.returns-clause-parts
returns-clause-parts c =
    let n = c.args.nest in
    let p = c.in_ok-parts.parts in
    IfOk-weaker c.steps_split.result (λ (q : Split). (q.frame ≡ p.frame) × ((q.nests ≡ map as_point p.nests) × (q.room ≡ n.next + 3))) (λ (q : Split). q.nests ≡ parts_of n)
    (λ q e. steps_are n p q e.0 e.1.0 c.requires.style (subst (λ (m : stepping.Nest). p ≡ parts_along m) c.as_stepping.ensures c.in_ok-parts.ensures.made)) c.steps_split.ensures

pub returns-clause-frame : goal.returns-clause-frame
returns-clause-frame c =
    let n = c.args.nest in
    let p = c.in_ok-parts.parts in
    IfOk-weaker c.steps_split.result (λ (q : Split). (q.frame ≡ p.frame) × ((q.nests ≡ map as_point p.nests) × (q.room ≡ n.next + 3))) (λ (q : Split). q.frame ≡ frame_of n)
    (λ q e. steps_framed n p q e.0 e.1.0 c.requires.style (subst (λ (m : stepping.Nest). p ≡ parts_along m) c.as_stepping.ensures c.in_ok-parts.ensures.made)) c.steps_split.ensures

pub returns-clause-room : goal.returns-clause-room
returns-clause-room c =
    let n = c.args.nest in
    let p = c.in_ok-parts.parts in
    IfOk-weaker c.steps_split.result (λ (q : Split). (q.frame ≡ p.frame) × ((q.nests ≡ map as_point p.nests) × (q.room ≡ n.next + 3))) (λ (q : Split). q.room ≡ step_end n)
    (λ q e. e.1.1 ∙ end_along n c.requires.style) c.steps_split.ensures
