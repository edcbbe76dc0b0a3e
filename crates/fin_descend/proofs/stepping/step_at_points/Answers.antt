use Rattle.std.proofs.Common.{◌≡◌, ◌+◌, ◌∙◌, arith}
use Rattle.std.proofs.lemmas.Result.{IfOk-weaker}
use Rattle.fin_descend.specs.declared.stepping.Split.{Split}
use Rattle.fin_descend.specs.Parts.{parts_of, frame_of}
use Rattle.fin_descend.specs.Promises.{Divides, AllLighter, StaySeparate}
use Rattle.fin_descend.specs.Naming.{step_end}
use Rattle.fin_descend.proofs.Steps.{points_divide, points_light, points_apart, points_are, points_framed, end_at_points}
use Rattle.fin_descend.proofs.stepping.step_at_points.Goals as goal

pub returns-clause-divides : goal.returns-clause-divides
returns-clause-divides c =
    let n = c.args.nest in
    let p = c.in_ok-parts.parts in
    IfOk-weaker c.points_split.result (λ (q : Split). (q.frame ≡ p.frame) × ((q.nests ≡ p.nests) × (q.room ≡ n.next + 1))) (λ (q : Split). Divides q n)
    (λ q e. points_divide n p q e.0 e.1.0 c.in_ok-parts.ensures.split (omega (arith, e.1.1))) c.points_split.ensures

pub returns-clause-lighter : goal.returns-clause-lighter
returns-clause-lighter c =
    let n = c.args.nest in
    let p = c.in_ok-parts.parts in
    IfOk-weaker c.points_split.result (λ (q : Split). (q.frame ≡ p.frame) × ((q.nests ≡ p.nests) × (q.room ≡ n.next + 1))) (λ (q : Split). AllLighter q n)
    (λ q e. points_light n p q e.0 e.1.0 c.in_ok-parts.ensures.lighter) c.points_split.ensures

pub returns-clause-separate : goal.returns-clause-separate
returns-clause-separate c =
    let n = c.args.nest in
    let p = c.in_ok-parts.parts in
    IfOk-weaker c.points_split.result (λ (q : Split). (q.frame ≡ p.frame) × ((q.nests ≡ p.nests) × (q.room ≡ n.next + 1))) (λ (q : Split). StaySeparate q n)
    (λ q e. points_apart n p q e.0 e.1.0 c.in_ok-parts.ensures.separate) c.points_split.ensures

pub returns-clause-parts : goal.returns-clause-parts
returns-clause-parts c =
    let n = c.args.nest in
    let p = c.in_ok-parts.parts in
    IfOk-weaker c.points_split.result (λ (q : Split). (q.frame ≡ p.frame) × ((q.nests ≡ p.nests) × (q.room ≡ n.next + 1))) (λ (q : Split). q.nests ≡ parts_of n)
    (λ q e. points_are n p q e.0 e.1.0 c.requires.style c.in_ok-parts.ensures.made) c.points_split.ensures

pub returns-clause-frame : goal.returns-clause-frame
returns-clause-frame c =
    let n = c.args.nest in
    let p = c.in_ok-parts.parts in
    IfOk-weaker c.points_split.result (λ (q : Split). (q.frame ≡ p.frame) × ((q.nests ≡ p.nests) × (q.room ≡ n.next + 1))) (λ (q : Split). q.frame ≡ frame_of n)
    (λ q e. points_framed n p q e.0 e.1.0 c.requires.style c.in_ok-parts.ensures.made) c.points_split.ensures

pub returns-clause-room : goal.returns-clause-room
returns-clause-room c =
    let n = c.args.nest in
    let p = c.in_ok-parts.parts in
    IfOk-weaker c.points_split.result (λ (q : Split). (q.frame ≡ p.frame) × ((q.nests ≡ p.nests) × (q.room ≡ n.next + 1))) (λ (q : Split). q.room ≡ step_end n)
    (λ q e. e.1.1 ∙ end_at_points n c.requires.style) c.points_split.ensures
