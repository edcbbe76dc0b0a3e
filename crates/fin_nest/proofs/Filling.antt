-- Frames filled with codes.
use Rattle.std.proofs.Common.{◌≡◌, ℕ, List, ◌∷◌, map, reverse, sym, ap, ◌∙◌}
use Rattle.std.proofs.lemmas.List.{reverse-reverse}
use Rattle.fin_base.specs.declared.terms.Updated.{Updated}
use Rattle.fin_ir.specs.declared.expression.IExpr.{IExpr}
use Rattle.fin_ir.specs.declared.code.Code.{Code}
use Rattle.fin_ir.specs.declared.code.Code.TheVariants.{Skip, Seq, Assign, When, StepLoop, ForLoop, ParLoop}
use Rattle.fin_ir.proofs.Nodes.{of_skip, of_seq, of_assign, of_when, of_step_loop, of_for_loop, of_par_loop}
use Rattle.fin_nest.specs.Frames.{Filling, fill_each, next_code, filling_step, filling, fill}

-- ---- what each kind of code becomes

pub filled_skip : (cs : List Code) → filling Skip cs ≡ next_code cs
filled_skip cs = ap (λ (f : Filling). f cs) (of_skip Filling filling_step)

pub filled_seq : (all cs : List Code) → filling (Seq all) cs ≡ (Seq (fill_each (map filling all) cs).0, (fill_each (map filling all) cs).1)
filled_seq all cs = ap (λ (f : Filling). f cs) (of_seq Filling filling_step all)

pub filled_assign : (local : ℕ) (value : IExpr) (cs : List Code) → filling (Assign local value) cs ≡ (Assign local value, cs)
filled_assign local value cs = ap (λ (f : Filling). f cs) (of_assign Filling filling_step local value)

pub filled_when : (test : IExpr) (body : Code) (cs : List Code) → filling (When test body) cs ≡ (When test (filling body cs).0, (filling body cs).1)
filled_when test body cs = ap (λ (f : Filling). f cs) (of_when Filling filling_step test body)

pub filled_step_loop : (var until : ℕ) (lo hi stop : IExpr) (body : Code) (cs : List Code)
    → filling (StepLoop var until lo hi stop body) cs ≡ (StepLoop var until lo hi stop (filling body cs).0, (filling body cs).1)
filled_step_loop var until lo hi stop body cs = ap (λ (f : Filling). f cs) (of_step_loop Filling filling_step var until lo hi stop body)

pub filled_for_loop : (var : ℕ) (lo hi : IExpr) (body : Code) (cs : List Code) → filling (ForLoop var lo hi body) cs ≡ (ForLoop var lo hi (filling body cs).0, (filling body cs).1)
filled_for_loop var lo hi body cs = ap (λ (f : Filling). f cs) (of_for_loop Filling filling_step var lo hi body)

pub filled_par_loop : (from to lo hi : ℕ) (ways : List Updated) (body : Code) (cs : List Code)
    → filling (ParLoop from to lo hi ways body) cs ≡ (ParLoop from to lo hi ways (filling body cs).0, (filling body cs).1)
filled_par_loop from to lo hi ways body cs = ap (λ (f : Filling). f cs) (of_par_loop Filling filling_step from to lo hi ways body)

-- ---- several codes

abbrev pub Filled : List Code → List Code → List Code → List Code → Type 0
Filled all cs done left = fill_each (map filling all) cs ≡ (done, left)

pub one_more : (c d : Code) (rest done cs ds left : List Code) → filling c cs ≡ (d, ds) → Filled rest ds done left → Filled (c ∷ rest) cs (d ∷ done) left
one_more c d rest done cs ds left e h =
    ap (λ (r : Code × List Code). (r.0 ∷ (fill_each (map filling rest) r.1).0, (fill_each (map filling rest) r.1).1)) e
    ∙ ap (λ (r : List Code × List Code). (d ∷ r.0, r.1)) h

pub seq_filled : (all done cs left : List Code) → Filled all cs done left → filling (Seq all) cs ≡ (Seq done, left)
seq_filled all done cs left h = filled_seq all cs ∙ ap (λ (r : List Code × List Code). (Seq r.0, r.1)) h

pub assign_more : (x : ℕ) (e : IExpr) (rest done cs left : List Code) → Filled rest cs done left → Filled (Assign x e ∷ rest) cs (Assign x e ∷ done) left
assign_more x e rest done cs left h = one_more (Assign x e) (Assign x e) rest done cs cs left (filled_assign x e cs) h

pub skip_more : (c : Code) (rest done cs left : List Code) → Filled rest cs done left → Filled (Skip ∷ rest) (c ∷ cs) (c ∷ done) left
skip_more c rest done cs left h = one_more Skip c rest done (c ∷ cs) cs left (filled_skip (c ∷ cs)) h

-- all codes are left at first
pub filled_whole : (frame c : Code) (codes left rest : List Code) → left ≡ reverse codes → filling frame (reverse left) ≡ (c, rest) → c ≡ fill frame codes
filled_whole frame c codes left rest turned h =
    sym (ap (λ (r : Code × List Code). r.0) h) ∙ ap (λ (l : List Code). (filling frame (reverse l)).0) turned ∙ ap (λ (l : List Code). (filling frame l).0) (reverse-reverse codes)
