-- How large a code is, as a measure of its run.
use Rattle.std.proofs.Common.{◌≡◌, ℕ, zero, suc, ◌+◌, ◌<◌, List, [], ◌∷◌, map, length, get_or, ap, ◌∙◌, arith}
use Rattle.fin_base.specs.declared.terms.Updated.{Updated}
use Rattle.fin_ir.specs.declared.expression.IExpr.{IExpr}
use Rattle.fin_ir.specs.declared.code.Code.{Code, fold-Code}
use Rattle.fin_ir.specs.declared.code.Code.TheOpen.{Code-F}
use Rattle.fin_ir.specs.declared.code.Code.TheVariants as c
use Rattle.fin_ir.proofs.Nodes.{of_seq, of_when, of_step_loop, of_for_loop, of_par_loop}

abbrev total : List ℕ → ℕ
total [] = 0
total (n ∷ ns) = suc n + total ns

abbrev size_step : Code-F ℕ → ℕ
size_step Code-F.Skip = 0
size_step (Code-F.Seq all) = 2 + total all
size_step (Code-F.Assign local value) = 0
size_step (Code-F.When test body) = 2 + body
size_step (Code-F.StepLoop var until lo hi stop body) = 2 + body
size_step (Code-F.ForLoop var lo hi body) = 2 + body
size_step (Code-F.ParLoop from to lo hi ways body) = 2 + body
size_step (Code-F.Update tensor at by value) = 0
size_step (Code-F.Declare tensor) = 0
size_step (Code-F.Freeze tensor) = 0
size_step (Code-F.Thaw tensor) = 0
size_step (Code-F.Charge value) = 0

pub size : Code → ℕ
size = fold-Code ℕ size_step

-- of several codes
pub sizes : List Code → ℕ
sizes all = 1 + total (map (fold-Code ℕ size_step) all)

pub seq_falls : (code : Code) (all all' : List Code) → code ≡ c.Seq all → all' ≡ all → sizes all' < size code
unfolding size sizes
seq_falls code all all' e f =
    let a = ap (fold-Code ℕ size_step) e ∙ of_seq ℕ size_step all in
    let b = ap (λ (l : List Code). total (map (fold-Code ℕ size_step) l)) f in
    omega arith

pub when_falls : (code : Code) (test : IExpr) (body body' : Code) → code ≡ c.When test body → body' ≡ body → 1 + size body' < size code
unfolding size
when_falls code test body body' e f =
    let a = ap (fold-Code ℕ size_step) e ∙ of_when ℕ size_step test body in
    let b = ap (fold-Code ℕ size_step) f in
    omega arith

pub step_falls : (code : Code) (var until : ℕ) (lo hi stop : IExpr) (body body' : Code) → code ≡ c.StepLoop var until lo hi stop body → body' ≡ body → 1 + size body' < size code
unfolding size
step_falls code var until lo hi stop body body' e f =
    let a = ap (fold-Code ℕ size_step) e ∙ of_step_loop ℕ size_step var until lo hi stop body in
    let b = ap (fold-Code ℕ size_step) f in
    omega arith

pub each_falls : (code : Code) (var : ℕ) (lo hi : IExpr) (body body' : Code) → code ≡ c.ForLoop var lo hi body → body' ≡ body → 1 + size body' < size code
unfolding size
each_falls code var lo hi body body' e f =
    let a = ap (fold-Code ℕ size_step) e ∙ of_for_loop ℕ size_step var lo hi body in
    let b = ap (fold-Code ℕ size_step) f in
    omega arith

pub chunk_falls : (code : Code) (from to lo hi : ℕ) (ways : List Updated) (body body' : Code) → code ≡ c.ParLoop from to lo hi ways body → body' ≡ body → 1 + size body' < size code
unfolding size
chunk_falls code from to lo hi ways body body' e f =
    let a = ap (fold-Code ℕ size_step) e ∙ of_par_loop ℕ size_step from to lo hi ways body in
    let b = ap (fold-Code ℕ size_step) f in
    omega arith

below_total : (all : List Code) (i : ℕ) (x : Code) → i < length all → x ≡ get_or all i x → fold-Code ℕ size_step x < 1 + total (map (fold-Code ℕ size_step) all)
below_total [] i x h e = absurd (omega arith)
below_total (y ∷ ys) zero x h e = let a = ap (fold-Code ℕ size_step) e in omega arith
below_total (y ∷ ys) (suc i) x h e = let a = below_total ys i x (omega arith) e in omega arith

pub one_falls : (all : List Code) (i : ℕ) (x : Code) → i < length all → x ≡ get_or all i x → size x < sizes all
unfolding size sizes
one_falls all i x h e = below_total all i x h e
