-- Frames of the steps, filled with codes.
use Rattle.std.proofs.Common.{◌≡◌, ℕ, ◌+◌, List, [], ◌∷◌, ◌++◌, refl, ap, ◌∙◌}
use Rattle.fin_ir.specs.declared.expression.IExpr.{IExpr}
use Rattle.fin_ir.specs.declared.expression.IExpr.TheVariants.{Local}
use Rattle.fin_ir.specs.declared.code.Code.{Code}
use Rattle.fin_ir.specs.declared.code.Code.TheVariants.{Skip, Seq, Assign, StepLoop}
use Rattle.fin_looplet.specs.declared.looplet.Walker.{Walker}
use Rattle.fin_looplet.specs.Cut.{before}
use Rattle.fin_nest.specs.Frames.{filling, fill}
use Rattle.fin_nest.proofs.Filling.{filled_step_loop, Filled, one_more, seq_filled, assign_more, skip_more}
use Rattle.fin_style_step.specs.Steps.{divide_at, divided_code, place, jump}

-- ---- several codes

-- behind codes that place walkers
placed_more : (ws : List Walker) (at : IExpr) (more done cs left : List Code) → Filled more cs done left → Filled (place ws at ++ more) cs (place ws at ++ done) left
placed_more [] at more done cs left h = h
placed_more (w ∷ ws) at more done cs left h =
    assign_more (w.cursor + 1) at (Assign w.cursor w.seek ∷ (place ws at ++ more)) (Assign w.cursor w.seek ∷ (place ws at ++ done)) cs left
    (assign_more w.cursor w.seek (place ws at ++ more) (place ws at ++ done) cs left (placed_more ws at more done cs left h))

placed_last : (ws : List Walker) (at : IExpr) (cs : List Code) → Filled (place ws at) cs (place ws at) cs
placed_last [] at cs = refl
placed_last (w ∷ ws) at cs =
    assign_more (w.cursor + 1) at (Assign w.cursor w.seek ∷ place ws at) (Assign w.cursor w.seek ∷ place ws at) cs cs
    (assign_more w.cursor w.seek (place ws at) (place ws at) cs cs (placed_last ws at cs))

-- ---- the frames

pub fill_divided : (local : ℕ) (lo hi stop : IExpr) (a b : Code) → fill (divided_code local lo hi stop Skip Skip) (a ∷ b ∷ []) ≡ divided_code local lo hi stop a b
fill_divided local lo hi stop a b =
    let at = divide_at lo hi stop in
    ap (λ (r : Code × List Code). r.0) (seq_filled (Assign local at ∷ Skip ∷ Skip ∷ []) (Assign local at ∷ a ∷ b ∷ []) (a ∷ b ∷ []) []
    (assign_more local at (Skip ∷ Skip ∷ []) (a ∷ b ∷ []) (a ∷ b ∷ []) [] (skip_more a (Skip ∷ []) (b ∷ []) (b ∷ []) [] (skip_more b [] [] [] [] refl))))

-- a loop whose turn has one part
loop_filled : (ws : List Walker) (local : ℕ) (lo hi stop : IExpr) (turn full c : Code) → filling turn (c ∷ []) ≡ (full, [])
    → fill (Seq (place ws lo ++ StepLoop local (local + 1) lo hi stop turn ∷ [])) (c ∷ []) ≡ Seq (place ws lo ++ StepLoop local (local + 1) lo hi stop full ∷ [])
loop_filled ws local lo hi stop turn full c e =
    let loop = StepLoop local (local + 1) lo hi stop turn in
    let done = StepLoop local (local + 1) lo hi stop full in
    let one : filling loop (c ∷ []) ≡ (done, []) = filled_step_loop local (local + 1) lo hi stop turn (c ∷ []) ∙ ap (λ (r : Code × List Code). (StepLoop local (local + 1) lo hi stop r.0, r.1)) e in
    ap (λ (r : Code × List Code). r.0) (seq_filled (place ws lo ++ loop ∷ []) (place ws lo ++ done ∷ []) (c ∷ []) []
    (placed_more ws lo (loop ∷ []) (done ∷ []) (c ∷ []) [] (one_more loop done [] [] (c ∷ []) [] [] one refl)))

pub fill_steps : (ws : List Walker) (local : ℕ) (lo hi stop : IExpr) (c : Code)
    → fill (Seq (place ws lo ++ StepLoop local (local + 1) lo hi stop (Seq (Skip ∷ place ws (Local (local + 1)))) ∷ [])) (c ∷ [])
    ≡ Seq (place ws lo ++ StepLoop local (local + 1) lo hi stop (Seq (c ∷ place ws (Local (local + 1)))) ∷ [])
fill_steps ws local lo hi stop c =
    let at = Local (local + 1) in
    loop_filled ws local lo hi stop (Seq (Skip ∷ place ws at)) (Seq (c ∷ place ws at)) c
    (seq_filled (Skip ∷ place ws at) (c ∷ place ws at) (c ∷ []) [] (skip_more c (place ws at) (place ws at) [] [] (placed_last ws at [])))

pub fill_jumps : (ws : List Walker) (local : ℕ) (lo hi stop : IExpr) (c : Code)
    → fill (Seq (place ws lo ++ StepLoop local (local + 1) lo hi stop (Seq (jump ws (local + 1) (local + 2) Skip)) ∷ [])) (c ∷ [])
    ≡ Seq (place ws lo ++ StepLoop local (local + 1) lo hi stop (Seq (jump ws (local + 1) (local + 2) c)) ∷ [])
fill_jumps ws local lo hi stop c =
    let until = Local (local + 1) in
    let last = Local (local + 2) in
    loop_filled ws local lo hi stop (Seq (jump ws (local + 1) (local + 2) Skip)) (Seq (jump ws (local + 1) (local + 2) c)) c
    (seq_filled (jump ws (local + 1) (local + 2) Skip) (jump ws (local + 1) (local + 2) c) (c ∷ []) []
    (assign_more (local + 2) (before until) (place ws last ++ (Skip ∷ place ws until)) (place ws last ++ (c ∷ place ws until)) (c ∷ []) []
    (placed_more ws last (Skip ∷ place ws until) (c ∷ place ws until) (c ∷ []) [] (skip_more c (place ws until) (place ws until) [] [] (placed_last ws until [])))))
