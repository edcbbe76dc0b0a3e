use Rattle.std.proofs.Common.{ap, refl, subst, sym, arith, length}
use Rattle.fin_base.specs.declared.refusal.Rule.TheVariants.{X1}
use Rattle.fin_text.specs.DueLines.{Breaks, misformed}
use Rattle.fin_text.specs.Reading.{IsAfterRest, names_of}
use Rattle.fin_text.proofs.Lines.{fails_any, has_next}
use Rattle.fin_text.proofs.read.Reader.take_rest.Goals as goal

pub returns-then-has_bytes : goal.returns-then-has_bytes
returns-then-has_bytes c =
    subst (λ d. Breaks (names_of c.args.self) d c.args.after.now X1) (sym c.in-End.is) (misformed (λ h. h) (λ e. omega (arith, ap length e, c.if-has_bytes.ensures.0 refl)))

pub returns-in_ok-due-in-Tensor : goal.returns-in_ok-due-in-Tensor
returns-in_ok-due-in-Tensor c =
    subst (λ d. IsAfterRest d c.args.self c.args.line c.args.after.now (record { given = c.args.self.given; since = c.args.line; due = c.in_ok-due-in-Tensor.due })) (sym c.in-Tensor.is)
    (refl, refl, c.in_ok-due-in-Tensor.ensures.0, c.in_ok-due-in-Tensor.ensures.1)

pub returns-in-Err : goal.returns-in-Err
returns-in-Err c = fails_any (names_of c.args.self) c.args.self.due c.args.after.now c.in-Err.fail (has_next c.args.self.due c.in_default.not-Tensor c.in_default.not-End) c.in-Err.ensures
