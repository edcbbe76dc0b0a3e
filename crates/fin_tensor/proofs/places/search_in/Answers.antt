use Rattle.std.proofs.Common.{◌≡◌, ℕ, ◌≤◌, sym, arith, subst}
use Rattle.std.specs.Prelude.{slice_index}
use Rattle.fin_tensor.proofs.Fibres.{first_is}
use Rattle.fin_tensor.proofs.places.search_in.Goals as goal

pub returns : goal.returns
returns c =
    let h = c.loop-low.invariant in
    let e : c.loop-low.low ≡ c.loop-low.high = omega arith in
    sym (first_is c.args.numbers.now c.args.key c.args.from c.args.to c.loop-low.low h.low (omega arith) h.before (λ l. subst (λ (x : ℕ). c.args.key ≤ slice_index c.args.numbers.now x) (sym e) (h.here (omega arith))))
