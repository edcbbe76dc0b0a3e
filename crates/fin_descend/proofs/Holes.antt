-- The frame of each step has as many holes as the step leaves parts.
use Rattle.std.proofs.Common.{◌≡◌, ℕ, ◌+◌, List, [], ◌∷◌, ◌++◌, length, map, Bool, true, false, refl, ◌∙◌, if◌then◌else◌, pos, arith}
use Rattle.std.proofs.lemmas.List.{length-map}
use Rattle.fin_base.specs.declared.terms.Op.TheVariants as op
use Rattle.fin_ir.specs.declared.expression.IExpr.{IExpr}
use Rattle.fin_ir.specs.declared.expression.IExpr.TheVariants.{Num, Local, Two}
use Rattle.fin_ir.specs.declared.code.Code.{Code}
use Rattle.fin_ir.specs.declared.code.Code.TheVariants.{Skip, Seq, Assign, When, StepLoop}
use Rattle.fin_ir.proofs.Nodes.{of_skip, of_seq, of_assign, of_when, of_step_loop, of_for_loop}
use Rattle.fin_looplet.specs.declared.looplet.Walker.{Walker}
use Rattle.fin_looplet.specs.Cut.{before}
use Rattle.fin_nest.specs.Entries.{looplets}
use Rattle.fin_nest.specs.Styles as style
use Rattle.fin_style_point.specs.declared.nest.Nest.{Nest}
use Rattle.fin_style_point.specs.declared.nest.Parts as at_points
use Rattle.fin_style_point.specs.Steps as point
use Rattle.fin_style_point.specs.Parts as points
use Rattle.fin_style_step.specs.declared.nest.Nest as stepping
use Rattle.fin_style_step.specs.declared.nest.Parts as along
use Rattle.fin_style_step.specs.declared.nest.Kind.TheVariants as kind
use Rattle.fin_style_step.specs.Steps as step
use Rattle.fin_style_step.specs.Parts as steps
use Rattle.fin_descend.specs.Parts.{as_stepping, as_point}
use Rattle.fin_descend.specs.Holes.{holes_step, holes, StepsHaveHoles}
use Rattle.fin_descend.proofs.Loops.{by_if}
use Rattle.fin_descend.proofs.Composing.{all_of}

-- ---- codes

pub of_hole : holes Skip ≡ 1
of_hole = of_skip ℕ holes_step

none_assigned : (x : ℕ) (e : IExpr) → holes (Assign x e) ≡ 0
none_assigned x e = of_assign ℕ holes_step x e

of_all : (xs : List Code) → holes (Seq xs) ≡ all_of xs
of_all xs = of_seq ℕ holes_step xs

of_both : (xs ys : List Code) → all_of (xs ++ ys) ≡ all_of xs + all_of ys
of_both [] ys = omega arith
of_both (x ∷ xs) ys = let e = of_both xs ys in omega (arith, e)

none_held : (locals : List ℕ) (at : IExpr) → all_of (point.hold locals at) ≡ 0
none_held [] at = refl
none_held (x ∷ locals) at = let e = none_held locals at in omega (arith, e, none_assigned x at)

none_placed : (ws : List Walker) (at : IExpr) → all_of (step.place ws at) ≡ 0
none_placed [] at = refl
none_placed (w ∷ ws) at = let e = none_placed ws at in omega (arith, e, none_assigned (w.cursor + 1) at, none_assigned w.cursor w.seek)

of_guarded : (test : IExpr) → holes (When test Skip) ≡ 1
of_guarded test = of_when ℕ holes_step test Skip ∙ of_hole

-- ---- frames

either_holes : (x : ℕ) (test : IExpr) → holes (point.either_code x test Skip Skip) ≡ 2
either_holes x test =
    let first : Code = Assign x test in
    let taken : Code = When (Local x) Skip in
    let others : Code = When (Two op.Eq (Local x) (Num (pos 0))) Skip in
    let e = of_all (first ∷ taken ∷ others ∷ []) in
    omega (arith, e, none_assigned x test, of_guarded (Local x), of_guarded (Two op.Eq (Local x) (Num (pos 0))))

divided_holes : (x : ℕ) (lo hi stop : IExpr) → holes (step.divided_code x lo hi stop Skip Skip) ≡ 2
divided_holes x lo hi stop =
    let e = of_all (Assign x (step.divide_at lo hi stop) ∷ Skip ∷ Skip ∷ []) in
    omega (arith, e, none_assigned x (step.divide_at lo hi stop), of_hole)

turn_holes : (n : Nest) → holes (points.turn_frame n) ≡ 1
turn_holes n =
    let reads = point.hold (point.coordinates (looplets n.reads)) (Local n.next) in
    let masks = point.hold (point.coordinates (looplets n.masks)) (Local n.next) in
    let e = of_all (reads ++ (masks ++ Skip ∷ [])) in
    let d = of_both reads (masks ++ Skip ∷ []) in
    let b = of_both masks (Skip ∷ []) in
    omega (arith, e, d, b, none_held (point.coordinates (looplets n.reads)) (Local n.next), none_held (point.coordinates (looplets n.masks)) (Local n.next), of_hole)

loop_holes : (n : Nest) → holes (points.loop_frame n) ≡ 1
loop_holes n = of_for_loop ℕ holes_step n.next n.lo n.hi (points.turn_frame n) ∙ turn_holes n

-- codes without holes, and a loop
walk_holes : (ws : List Walker) (x y : ℕ) (lo hi stop : IExpr) (turn : List Code) → all_of turn ≡ 1 → holes (Seq (step.place ws lo ++ StepLoop x y lo hi stop (Seq turn) ∷ [])) ≡ 1
walk_holes ws x y lo hi stop turn one =
    let loop = StepLoop x y lo hi stop (Seq turn) in
    let e = of_all (step.place ws lo ++ loop ∷ []) in
    let d = of_both (step.place ws lo) (loop ∷ []) in
    let l = of_step_loop ℕ holes_step x y lo hi stop (Seq turn) in
    omega (arith, e, d, l, of_all turn, one, none_placed ws lo)

steps_holes : (ws : List Walker) (x : ℕ) (lo hi : IExpr) → holes (step.steps_code ws x lo hi Skip) ≡ 1
steps_holes ws x lo hi =
    walk_holes ws x (x + 1) lo hi (step.least ws hi) (Skip ∷ step.place ws (Local (x + 1))) (omega (arith, of_hole, none_placed ws (Local (x + 1))))

jump_holes : (ws : List Walker) (until last : ℕ) → all_of (step.jump ws until last Skip) ≡ 1
jump_holes ws until last =
    let d = of_both (step.place ws (Local last)) (Skip ∷ step.place ws (Local until)) in
    omega (arith, d, none_assigned last (before (Local until)), of_hole, none_placed ws (Local last), none_placed ws (Local until))

jumps_holes : (ws : List Walker) (x : ℕ) (lo hi : IExpr) → holes (step.jumps_code ws x lo hi Skip) ≡ 1
jumps_holes ws x lo hi =
    walk_holes ws x (x + 1) lo hi (step.greatest ws (Num (pos 0))) (step.jump ws (x + 1) (x + 2) Skip) (jump_holes ws (x + 1) (x + 2))

-- ---- nests

abbrev AtPoints : at_points.Parts → Type 0
AtPoints p = holes p.frame ≡ length p.nests

abbrev Along : along.Parts → Type 0
Along p = holes p.frame ≡ length p.nests

by_points : (n : Nest) → AtPoints (points.parts_of n)
by_points n =
    by_if AtPoints (points.nest_has style.shift n) _ _ of_hole
    (by_if AtPoints (points.nest_has style.switch n) _ _ (either_holes n.next (points.nest_test n)) (by_if AtPoints (points.nest_has style.spike n) _ _ of_hole (loop_holes n)))

by_steps : (n : stepping.Nest) → Along (steps.parts_of n)
by_steps n =
    by_if Along (steps.nest_has style.sequence n) _ _ (divided_holes n.next n.lo n.hi (steps.nest_stop n))
    (by_if Along (steps.nest_has style.jumper n) _ _ (jumps_holes (steps.nest_walkers kind.Jumper n) n.next n.lo n.hi)
    (steps_holes (steps.nest_walkers kind.Stepper n) n.next n.lo n.hi))

chosen : (n : Nest) (b : Bool)
    → holes (if b then (points.parts_of n).frame else (steps.parts_of (as_stepping n)).frame)
    ≡ length (if b then (points.parts_of n).nests else map as_point (steps.parts_of (as_stepping n)).nests)
chosen n true = by_points n
chosen n false = let e = by_steps (as_stepping n) in let d = length-map (steps.parts_of (as_stepping n)).nests as_point in omega (arith, e, d)

-- a hole for each part
pub step_holes : StepsHaveHoles
step_holes n = chosen n (style.is_point_style (style.style_of (points.all_looplets n)))
