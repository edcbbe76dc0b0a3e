-- Coordinates at which the body is nothing: what stands before them stands behind, and a stop on the way leaves its payment.
use Rattle.std.proofs.Common.{◌≡◌, ℕ, zero, suc, ◌+◌, ◌<◌, ◌≤◌, ◌⊎◌, inl, inr, ⊎_elim, List, Bool, true, false, refl, sym, ap, ◌∙◌, subst, ℤ, pos, ◌+ℤ◌, arith}
use Rattle.std.proofs.lemmas.Bool.{cases_lt}
use borrow.Author.Differences.{same_in, sum_is_lem}
use Rattle.fin_ir.specs.Machine.{Machine}
use Rattle.fin_looplet.specs.View.{Store}
use Rattle.fin_looplet.specs.Lists.{seens}
use Rattle.fin_nest.specs.Nests.{Flags, flag_at, Nest, Sense, paid_if, views_of, at_act, at_flags, part, Silent}
use Rattle.fin_nest.specs.Laws.{Lawful}
use Rattle.fin_nest.proofs.Folds.{over_parts, further}
use Rattle.fin_style_step.specs.Laws.{Commutes}

pub spared : {S : Type 0} (sense : Sense S) → Lawful sense → (b : Bool) (s : S) (m : Machine) → sense.stands s m → sense.stands (paid_if sense.pay b s) m
spared sense law true s m r = law.spare s m r
spared sense law false s m r = r

-- a fold whose body is nothing
pub skip_stands : {S : Type 0} (sense : Sense S) → Lawful sense → (n : Nest S) (ts : Store) (ls : List ℤ) (q : ℕ) (f : Flags) (at : ℤ) (s : S) (m : Machine)
    → ((j : ℕ) → j < q → Silent sense ts ls n (at +ℤ pos j)) → sense.stands s m → sense.stands (part sense.pay ts ls n q f at s) m
skip_stands sense law n ts ls zero f at s m h r = r
skip_stands sense law n ts ls (suc q) f at s m h r =
    let here : at +ℤ pos 0 ≡ at = same_in _ _ (omega (arith, sum_is_lem at (pos 0))) in
    let first : Silent sense ts ls n at = subst (Silent sense ts ls n) here (h 0 (omega arith)) in
    let paid : sense.stands (paid_if sense.pay f.stopped s) m = spared sense law f.stopped s m r in
    skip_stands sense law n ts ls q (at_flags ts ls n at) (at +ℤ pos 1) (at_act sense.pay ts ls n f at s) m (λ j lt. subst (Silent sense ts ls n) (sym (further at j)) (h (suc j) (omega (arith, lt))))
    (first f.begins (paid_if sense.pay f.stopped s) m paid)

at_or_below : (j q : ℕ) → j ≤ q → (j ≡ q) ⊎ (j < q)
at_or_below j q le = ⊎_elim (λ (lt : j < q). inr lt) (λ ge. inl (omega (arith, le, ge))) (cases_lt j q)

-- a state that lacks one payment, for which a machine stands
pub record Credit {S : Type 0} (sense : Sense S) (s : S) (m : Machine) : Type 0 where
  pub before : S
  pub is : s ≡ sense.pay before
  pub stands : sense.stands before m

-- the state in which the coordinate behind some others is come to
abbrev pub come_to : {S : Type 0} → (S → S) → Nest S → Store → List ℤ → ℕ → Flags → ℤ → S → S
come_to pay n ts ls q f at s = paid_if pay (flag_at (at_flags ts ls n) f at q).stopped (part pay ts ls n q f at s)

-- where a stop was passed over, its payment is left
module _ {S : Type 0} (sense : Sense S) (law : Lawful sense) (n : Nest S) (ts : Store) (ls : List ℤ) (commutes : Commutes sense n.body) where
  paid_now : (q : ℕ) (f : Flags) (at : ℤ) (s : S) (m : Machine) → (flag_at (at_flags ts ls n) f at q).stopped ≡ true → ((k : ℕ) → k < q → Silent sense ts ls n (at +ℤ pos k)) → sense.stands s m
      → Credit sense (come_to sense.pay n ts ls q f at s) m
  paid_now q f at s m e h r = record {
    before = part sense.pay ts ls n q f at s;
    is = ap (λ b. paid_if sense.pay b (part sense.pay ts ls n q f at s)) e;
    stands = skip_stands sense law n ts ls q f at s m h r;
  }

  on_by : (q : ℕ) (f : Flags) (at : ℤ) (s : S) (m : Machine) (b : Bool) → (flag_at (at_flags ts ls n) f at (suc q)).stopped ≡ b → Credit sense (come_to sense.pay n ts ls q f at s) m
      → ((k : ℕ) → k < suc q → Silent sense ts ls n (at +ℤ pos k)) → sense.stands s m → Credit sense (come_to sense.pay n ts ls (suc q) f at s) m
  on_by q f at s m true e c h r = paid_now (suc q) f at s m e h r
  on_by q f at s m false e c h r =
      let i = at +ℤ pos q in
      let sees = seens (views_of ts ls n i) in
      let g = flag_at (at_flags ts ls n) f at q in
      let z : suc q ≡ q + 1 = omega arith in
      record {
        before = n.body sees g.begins i c.before;
        is = ap (λ b. paid_if sense.pay b (part sense.pay ts ls n (suc q) f at s)) e
            ∙ ap (λ k. part sense.pay ts ls n k f at s) z ∙ over_parts (at_act sense.pay ts ls n) (at_flags ts ls n) q 1 f at s
            ∙ ap (n.body sees g.begins i) c.is ∙ commutes sees g.begins i c.before;
        stands = h q (omega arith) g.begins c.before m c.stands;
      }

  pub credit : (q j : ℕ) (f : Flags) (at : ℤ) (s : S) (m : Machine) → j ≤ q → (flag_at (at_flags ts ls n) f at j).stopped ≡ true → ((k : ℕ) → k < q → Silent sense ts ls n (at +ℤ pos k)) → sense.stands s m
      → Credit sense (come_to sense.pay n ts ls q f at s) m
  credit zero zero f at s m le e h r = paid_now zero f at s m e h r
  credit zero (suc j) f at s m le e h r = absurd (omega (arith, le))
  credit (suc q) j f at s m le e h r =
      ⊎_elim
      (λ (same : j ≡ suc q). paid_now (suc q) f at s m (ap (λ k. (flag_at (at_flags ts ls n) f at k).stopped) (sym same) ∙ e) h r)
      (λ ne. on_by q f at s m (flag_at (at_flags ts ls n) f at (suc q)).stopped refl (credit q j f at s m (omega (arith, le, ne)) e (λ k lt. h k (omega (arith, lt))) r) h r)
      (at_or_below j (suc q) le)
