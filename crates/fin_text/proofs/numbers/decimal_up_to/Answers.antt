use Rattle.std.proofs.Common.{arith, refl}
use Rattle.fin_text.proofs.Digits.{leads_badly, no_digit, too_great, is_decimal, all_digits_at_end, value_at_end}
use Rattle.fin_text.proofs.numbers.decimal_up_to.Goals as goal

pub returns-then-not-leads_well : goal.returns-then-not-leads_well
returns-then-not-leads_well c = λ n fits. leads_badly c.args.digits.now n (λ h. let e = c.if-not-leads_well.ensures.1 h in cc) (omega arith)

pub returns-in_default : goal.returns-in_default
returns-in_default c = λ n fits. no_digit c.args.digits.now c.loop-byte.byte-index n (omega arith) c.loop-byte.invariant.digits (omega (arith, c.in_default.ensures)) (omega arith)

pub returns-then-value-most : goal.returns-then-value-most
returns-then-value-most c = λ n fits. too_great c.args.digits.now c.loop-byte.byte-index c.loop-byte.value c.args.most n (omega arith) c.loop-byte.invariant.value (omega arith) (omega arith) fits

pub returns-then-value-most-2 : goal.returns-then-value-most-2
returns-then-value-most-2 c = λ n fits. too_great c.args.digits.now c.loop-byte.byte-index c.loop-byte.value c.args.most n (omega arith) c.loop-byte.invariant.value (omega (arith, c.in-Some.ensures)) (omega arith) fits

pub returns : goal.returns
returns c =
    let ds = c.args.digits.now in let at = c.loop-byte.byte-index in (
      c.loop-byte.invariant.small,
      is_decimal ds c.loop-byte.value
          (all_digits_at_end ds at c.loop-byte-test.false c.loop-byte.invariant.digits) (c.if-not-leads_well.ensures.0 refl)
          (value_at_end ds at c.loop-byte.value c.loop-byte-test.false c.loop-byte.invariant.value) (omega arith),
    )
