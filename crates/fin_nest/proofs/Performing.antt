-- Statements that lead from machines that do what a run does to such machines.
use Rattle.std.proofs.Common.{inl, inr, ◌≡◌, ℕ, ⊎_elim, true, List, [], ◌∷◌, refl, sym, subst, pos, arith}
use Rattle.fin_ir.specs.declared.expression.IExpr.{IExpr}
use Rattle.fin_ir.specs.declared.code.Code.{Code}
use Rattle.fin_ir.specs.declared.code.Code.TheVariants.{Charge}
use Rattle.fin_ir.specs.Machine.{Machine}
use Rattle.fin_ir.specs.Value.{value_in}
use Rattle.fin_ir.specs.Meaning.{meaning_all}
use Rattle.fin_stage.specs.Staged.{Run, worked, regular}
use Rattle.fin_stage.proofs.Onward.{Onward, onward_worked}
use Rattle.fin_stage.proofs.Trailing.{regular_before}
use Rattle.fin_nest.specs.Related.{Start, Live, Related}
use Rattle.fin_nest.specs.Laws.{Over}
use Rattle.fin_nest.specs.Senses.{exact, Advances}
use Rattle.fin_nest.specs.Performs.{Place, Ready, Left, Performs}
use Rattle.fin_nest.proofs.Changed.{charge_pays, worked_live}

module _ (s : Start) where
  -- a statement that the lowering has proved, with nothing said of locals
  pub from_live : (p : Place) (cs : List Code) (f : Run → Run) → ((r : Run) → Onward r (f r))
      → ((r : Run) (m : Machine) → Ready s.layout m p → Live s [] r m → regular (f r) ≡ true → Related s [] (f r) (meaning_all s.layout cs m))
      → ((m : Machine) → Ready s.layout m p → Left m (meaning_all s.layout cs m) p) → Performs s.layout (exact s) p cs f
  from_live p cs f on goes left = record {
    does = λ r m ready h g. ⊎_elim (λ l. goes r m ready l g) (λ x. let e = x.cut in let d = ready.live in absurd (cc)) (h (regular_before r (f r) (on r) g));
    leaves = λ r m ready h. left m ready;
  }

  -- a charge, of an entry say, whose code has a number
  pub charge_performs : (p : Place) (e : IExpr) (k : ℕ) → ((m : Machine) → Ready s.layout m p → value_in m e ≡ pos k) → Performs s.layout (exact s) p (Charge e ∷ []) (worked k)
  charge_performs p e k value = from_live p (Charge e ∷ []) (worked k) (λ r. onward_worked k r)
      (λ r m ready l g. inl (subst (Live s [] (worked k r)) (sym (charge_pays s.layout e k m ready.live (value m ready))) (worked_live s [] r m l k)))
      (λ m ready. subst (λ (x : Machine). Left m x p) (sym (charge_pays s.layout e k m ready.live (value m ready))) (record { long = refl; kept = λ d x lt f. refl; steady = λ d t q. refl }))

  -- what takes nothing back stands for it where it is cut
  pub exact_over : (f : Run → Run) → ((r : Run) → Advances r (f r)) → Over (exact s) f
  exact_over f on r m cut h g = ⊎_elim
      (λ l. let e = l.cut in absurd (cc))
      (λ x. let o = on r in inr (record { cut = x.cut; regular = x.regular; over = x.over; most = omega (arith, x.most, o.work) }))
      (h ((on r).before g))
