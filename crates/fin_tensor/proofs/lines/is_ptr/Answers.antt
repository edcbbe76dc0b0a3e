use Rattle.std.proofs.Common.{◌≡◌, ◌+◌, ◌≤◌, ◌^◌, length, arith, refl, ap}
use Rattle.std.specs.Prelude.{slice_index}
use Rattle.std.proofs.lemmas.Bool.Decides.{nat_tests}
use Rattle.fin_tensor.proofs.ByLines.{ptr_from}
use Rattle.fin_tensor.proofs.lines.is_ptr.Goals as goal

pub returns : goal.returns
returns c =
    let ptr = c.args.ptr.now in
    let empty = c.if-is_empty.ensures in
    let long : length ptr ≡ c.args.fibres + 1 = grind (arith, nat_tests, c.if-ptr-fibres.false) in
    let last : slice_index ptr c.args.fibres ≤ 2 ^ 40 = omega (arith, c.if-ptr-gt-MOST.false, ap (slice_index ptr) c.if-ptr-fibres.false) in
    (λ _. ptr_from c.args.fibres ptr long c.if-ptr-ne0.false (λ p h. c.loop-p.invariant p (omega (arith, long, c.loop-p-test.false))) last, λ _. refl)
