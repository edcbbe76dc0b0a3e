use Rattle.std.proofs.Common.{rules, arith, ◌≡◌, ◌∙◌, ◌<◌, ap, sym, subst, IfErr, Option, Some, List, [], ◌∷◌, ℕ, zero, suc, length, drop, get_or}
use Rattle.std.specs.Prelude.{Err}
use Rattle.std.specs.Option.{option_or}
use Rattle.fin_base.specs.declared.refusal.Fail.{Fail}
use Rattle.fin_base.specs.declared.refusal.Fail.TheVariants.{Memory, Refused}
use Rattle.fin_base.specs.declared.refusal.Refusal.{Refusal}
use Rattle.fin_ast.specs.Sizes.{first_of}
use Rattle.fin_parcheck.specs.declared.deeds.ParallelLoop.{ParallelLoop}
use Rattle.fin_parcheck.specs.Safety.{IfRefused, loop_breach}
use Rattle.fin_parcheck.proofs.safety.all_ways.Goals as goal

-- the breach of the loop at a place is the first from there on
first_at : (breach : ParallelLoop → Option Refusal) (xs : List ParallelLoop) (k : ℕ) (x : ParallelLoop) (r : Refusal) → k < length xs → x ≡ get_or xs k x → breach x ≡ Some r → first_of breach (drop k xs) ≡ Some r
first_at breach [] k x r l is e = absurd (omega arith)
first_at breach (y ∷ ys) zero x r l is e = ap (λ (o : Option Refusal). option_or o (first_of breach ys)) (ap breach (sym is) ∙ e)
first_at breach (y ∷ ys) (suc k) x r l is e = first_at breach ys k x r (omega arith) is e

refused_by : (f : Fail) (o p : Option Refusal) → ((r : Refusal) → o ≡ Some r → p ≡ Some r) → IfRefused f (λ r. o ≡ Some r) → IfRefused f (λ r. p ≡ Some r)
refused_by (Refused r) o p h e = h r e
refused_by (Memory m) o p h e = tt

pub returns-in_err-of-clause-refused : goal.returns-in_err-of-clause-refused
returns-in_err-of-clause-refused c =
    let breach = loop_breach c.args.headers.now in
    let loops = c.args.loops.now in
    let fail = c.in_err-of.field-0.0 in
    let is : c.from_residual.result ≡ Err fail = search rules in
    subst (λ r. IfErr r (λ e. IfRefused e (λ x. first_of breach loops ≡ Some x))) (sym is)
    (refused_by fail (breach c.parallel-item.result) (first_of breach loops)
    (λ r e. sym c.loop-parallel.invariant.kept ∙ first_at breach loops c.loop-parallel.parallel-index c.parallel-item.result r (omega arith) c.parallel-item.is e)
    c.in_err-of.ensures.refused)
