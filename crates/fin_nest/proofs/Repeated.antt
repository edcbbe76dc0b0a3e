-- The fold of a nest is the loop of dense evaluation, where at each coordinate the body is that of the statements.
use Rattle.std.proofs.Common.{◌≡◌, ℕ, zero, suc, ◌+◌, ◌<◌, Bool, true, false, refl, sym, ap, ◌∙◌, ℤ, pos, ◌+ℤ◌, arith}
use Rattle.std.specs.Prelude.{slice_set}
use borrow.Author.Differences.{sum_is_lem, same_in}
use Rattle.fin_ir.specs.Meaning.{span}
use Rattle.fin_stage.specs.Staged as staged
use Rattle.fin_looplet.specs.View.{value}
use Rattle.fin_looplet.specs.Lists.{seens}
use Rattle.fin_nest.specs.Nests.{over, Flags, fresh, paid_if, views_of, at_act, at_flags, part}
use Rattle.fin_nest.specs.Both.{FoldsAreLoops}
use Rattle.fin_nest.proofs.Folds.{over_same}

pub loop_is : FoldsAreLoops
loop_is ts ls n var lo body vars r from same =
    ap (λ z. part (λ x. x) ts ls n (span (value ts ls n.lo) (value ts ls n.hi)) fresh z r) from
    ∙ over_same (at_act (λ x. x) ts ls n) dense (at_flags ts ls n) (at_flags ts ls n) (span (value ts ls n.lo) (value ts ls n.hi)) fresh (pos lo) r (λ j lt b x. alike j lt b x) (λ j lt. refl)
    ∙ go (span (value ts ls n.lo) (value ts ls n.hi)) lo fresh r where
      dense : Flags → ℤ → staged.Run → staged.Run
      dense b i x = body (slice_set vars var i) (staged.worked 1 x)

      free : (b : Bool) (x : staged.Run) → paid_if (λ y. y) b x ≡ x
      free true x = refl
      free false x = refl

      alike : (j : ℕ) → j < span (value ts ls n.lo) (value ts ls n.hi) → (b : Flags) (x : staged.Run) → at_act (λ y. y) ts ls n b (pos lo +ℤ pos j) x ≡ dense b (pos lo +ℤ pos j) x
      alike j lt b x =
          let e : pos lo +ℤ pos j ≡ pos (lo + j) = same_in _ _ (omega (arith, sum_is_lem (pos lo) (pos j))) in
          ap (λ i. at_act (λ y. y) ts ls n b i x) e
          ∙ ap (n.body (seens (views_of ts ls n (pos (lo + j)))) b.begins (pos (lo + j))) (free b.stopped x)
          ∙ same j b.begins x lt
          ∙ sym (ap (λ i. dense b i x) e)

      go : (k at : ℕ) (b : Flags) (x : staged.Run) → over dense (at_flags ts ls n) k b (pos at) x ≡ staged.repeated k at var body vars x
      go zero at b x = refl
      go (suc k) at b x =
          let e : pos at +ℤ pos 1 ≡ pos (at + 1) = same_in _ _ (omega (arith, sum_is_lem (pos at) (pos 1))) in
          ap (λ i. over dense (at_flags ts ls n) k (at_flags ts ls n (pos at)) i (body (slice_set vars var (pos at)) (staged.worked 1 x))) e
          ∙ go k (at + 1) (at_flags ts ls n (pos at)) (body (slice_set vars var (pos at)) (staged.worked 1 x))
