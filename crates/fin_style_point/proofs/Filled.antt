-- Frames of the steps, filled with codes.
use Rattle.std.proofs.Common.{◌≡◌, ℕ, List, [], ◌∷◌, ◌++◌, pos, refl, ap, ◌∙◌}
use Rattle.fin_base.specs.declared.terms.Op.TheVariants as op
use Rattle.fin_ir.specs.declared.expression.IExpr.{IExpr}
use Rattle.fin_ir.specs.declared.expression.IExpr.TheVariants.{Num, Local, Two}
use Rattle.fin_ir.specs.declared.code.Code.{Code}
use Rattle.fin_ir.specs.declared.code.Code.TheVariants.{Skip, Seq, Assign, When, ForLoop}
use Rattle.fin_nest.specs.Frames.{filling, fill}
use Rattle.fin_nest.proofs.Filling.{filled_skip, filled_when, filled_for_loop, Filled, one_more, seq_filled, assign_more, skip_more}
use Rattle.fin_nest.specs.Entries.{looplets}
use Rattle.fin_looplet.specs.declared.looplet.Looplet.{Looplet}
use Rattle.fin_style_point.specs.declared.nest.Nest as plain
use Rattle.fin_style_point.specs.Steps.{either_code, coordinate, coordinates, hold, each_code}
use Rattle.fin_style_point.specs.Parts.{all_looplets, loop_frame}

pub fill_skip : (c : Code) → fill Skip (c ∷ []) ≡ c
fill_skip c = ap (λ (r : Code × List Code). r.0) (filled_skip (c ∷ []))

-- a part under a test
test_more : (test : IExpr) (c : Code) (rest done cs left : List Code) → Filled rest cs done left → Filled (When test Skip ∷ rest) (c ∷ cs) (When test c ∷ done) left
test_more test c rest done cs left h =
    let one : filling (When test Skip) (c ∷ cs) ≡ (When test c, cs) = filled_when test Skip (c ∷ cs) ∙ ap (λ (r : Code × List Code). (When test r.0, r.1)) (filled_skip (c ∷ cs)) in
    one_more (When test Skip) (When test c) rest done (c ∷ cs) cs left one h

pub fill_either : (local : ℕ) (test : IExpr) (a b : Code) → fill (either_code local test Skip Skip) (a ∷ b ∷ []) ≡ either_code local test a b
fill_either local test a b =
    let on = Local local in
    let off = Two op.Eq (Local local) (Num (pos 0)) in
    let tests : Filled (When on Skip ∷ When off Skip ∷ []) (a ∷ b ∷ []) (When on a ∷ When off b ∷ []) [] =
    test_more on a (When off Skip ∷ []) (When off b ∷ []) (b ∷ []) [] (test_more off b [] [] [] [] refl) in
    ap (λ (r : Code × List Code). r.0) (seq_filled (Assign local test ∷ When on Skip ∷ When off Skip ∷ []) (Assign local test ∷ When on a ∷ When off b ∷ []) (a ∷ b ∷ []) []
    (assign_more local test (When on Skip ∷ When off Skip ∷ []) (When on a ∷ When off b ∷ []) (a ∷ b ∷ []) [] tests))

filled_holds : (locals : List ℕ) (at : IExpr) (c : Code) → Filled (hold locals at ++ Skip ∷ []) (c ∷ []) (hold locals at ++ c ∷ []) []
filled_holds [] at c = skip_more c [] [] [] [] refl
filled_holds (x ∷ xs) at c = assign_more x at (hold xs at ++ Skip ∷ []) (hold xs at ++ c ∷ []) (c ∷ []) [] (filled_holds xs at c)

held_before : (fs xs zs : List ℕ) (at : IExpr) (more rest : List Code) → hold xs at ++ more ≡ hold zs at ++ rest → hold (fs ++ xs) at ++ more ≡ hold (fs ++ zs) at ++ rest
held_before [] xs zs at more rest e = e
held_before (f ∷ fs) xs zs at more rest e = ap (λ (r : List Code). Assign f at ∷ r) (held_before fs xs zs at more rest e)

more_held : (xs ys : List Looplet) (at : IExpr) (rest : List Code) → hold (coordinates xs) at ++ (hold (coordinates ys) at ++ rest) ≡ hold (coordinates (xs ++ ys)) at ++ rest
more_held [] ys at rest = refl
more_held (x ∷ xs) ys at rest = held_before (coordinate x) (coordinates xs) (coordinates (xs ++ ys)) at (hold (coordinates ys) at ++ rest) rest (more_held xs ys at rest)

pub fill_loop : (n : plain.Nest) (c : Code) → fill (loop_frame n) (c ∷ []) ≡ each_code n.next n.lo n.hi (coordinates (all_looplets n)) c
fill_loop n c =
    let all = coordinates (all_looplets n) in
    let turn = hold all (Local n.next) ++ Skip ∷ [] in
    ap (λ (codes : List Code). fill (ForLoop n.next n.lo n.hi (Seq codes)) (c ∷ [])) (more_held (looplets n.reads) (looplets n.masks) (Local n.next) (Skip ∷ []))
    ∙ ap (λ (r : Code × List Code). r.0) (filled_for_loop n.next n.lo n.hi (Seq turn) (c ∷ []))
    ∙ ap (λ (r : Code × List Code). ForLoop n.next n.lo n.hi r.0) (seq_filled turn (hold all (Local n.next) ++ c ∷ []) (c ∷ []) [] (filled_holds all (Local n.next) c))
