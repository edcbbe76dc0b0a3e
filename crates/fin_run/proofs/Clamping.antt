-- Where a turn of a loop by steps ends.
use Rattle.std.proofs.Common.{◌≡◌, ℕ, ◌<◌, ◌^◌, true, List, ap, ◌∙◌, ℤ, pos, ◌+ℤ◌, ◌<ℤ◌, w64, SFits, arith}
use Rattle.std.specs.Prelude.{int_lt, slice_set}
use Rattle.std.specs.Int.{int_min, int_max}
use Rattle.std.proofs.lemmas.Int.{to_z-of_z, ints}
use borrow.Author.Gap.{up_fits}
use lib.Signed.{mag}
use Rattle.fin_tensor.specs.declared.storage.Storage.{Storage}
use Rattle.fin_ir.specs.declared.expression.IExpr.{IExpr}
use Rattle.fin_ir.specs.Machine.{assign}
use Rattle.fin_ir.specs.Value.{value_in}
use Rattle.fin_ir.specs.Meaning.{clamped, next_of}
use Rattle.fin_run.specs.declared.state.State.{State}
use Rattle.fin_run.specs.States.{machine}
use Rattle.fin_run.specs.Ends.{evaluated}
use Rattle.fin_run.proofs.Loading.{rt}

back : (z : ℤ) → mag z < 2 ^ 63 → rt z ≡ z
back z h = to_z-of_z w64 z (record { sfits = h })

pub clamp_is : (stop at end mn mx : ℤ) → SFits w64 stop → SFits w64 at → SFits w64 end → mag mn < 2 ^ 63 → mag mx < 2 ^ 63 → at <ℤ end → mn ≡ int_min (rt stop) (rt end) → mx ≡ int_max (rt (rt at +ℤ pos 1)) (rt mn) → rt mx ≡ clamped stop at end
clamp_is stop at end mn mx fs fa fe fn fx lt en ex =
    let t : int_lt at end ≡ true = grind (arith, ints) in
    let s = to_z-of_z w64 stop fs in
    let a = to_z-of_z w64 at fa in
    let e = to_z-of_z w64 end fe in
    let n = back mn fn in
    let x = back mx fx in
    let up = to_z-of_z w64 (at +ℤ pos 1) (up_fits w64 at end t fa fe) in
    let low : mn ≡ int_min stop end = rw (← s, ← e) en in
    let next : rt (rt at +ℤ pos 1) ≡ at +ℤ pos 1 = ap (λ z. rt (z +ℤ pos 1)) a ∙ up in
    let ends : rt mn ≡ int_min stop end = n ∙ low in
    x ∙ ex ∙ ap (λ z. int_max z (rt mn)) next ∙ ap (int_max (at +ℤ pos 1)) ends

-- the stop is evaluated once `var` is set
pub next_is : (inputs : List Storage) (s s1 : State) (n var : ℕ) (stop : IExpr) (at end wanted next : ℤ) → SFits w64 at → SFits w64 end → mag wanted < 2 ^ 63 → mag next < 2 ^ 63 → s1 ≡ record s { locals = slice_set s.locals var (rt at) } → wanted ≡ evaluated inputs s1 stop → next ≡ clamped (rt wanted) (rt at) (rt end) → rt next ≡ next_of var (λ m. value_in m stop) end at (machine inputs s n)
next_is inputs s s1 n var stop at end wanted next fa fe fw fn es ew en =
    let a = to_z-of_z w64 at fa in
    let e = to_z-of_z w64 end fe in
    let l : s1 ≡ record s { locals = slice_set s.locals var at } = es ∙ ap (λ z. record s { locals = slice_set s.locals var z }) a in
    let w = back wanted fw ∙ ew ∙ ap (λ (t : State). evaluated inputs t stop) l in
    let last : ℤ = value_in (assign var at (machine inputs s n)) stop in
    back next fn ∙ en ∙ ap (λ z. clamped z (rt at) (rt end)) w ∙ ap (λ z. clamped last z (rt end)) a ∙ ap (clamped last at) e
