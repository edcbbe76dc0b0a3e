-- What performs statements for machines that do what a run does performs them in both senses; and updates that code leaves
-- out.
use Rattle.std.proofs.Common.{◌≡◌, ℕ, false, true, sym, subst, List, ℤ, arith, T}
use Rattle.fin_base.specs.declared.reduce.Reduce.{Reduce}
use Rattle.fin_ir.specs.declared.code.Code.{Code}
use Rattle.fin_ir.specs.declared.layout.Layout.{Layout}
use Rattle.fin_ir.specs.Machine.{Machine}
use Rattle.fin_stage.specs.Staged.{Run, unalive, regular, update}
use Rattle.fin_stage.specs.Trailing.{Monotone, skipped, ChangesNothing}
use Rattle.fin_stage.proofs.Onward.{update_goes_on}
use Rattle.fin_stage.proofs.Trailing.{regular_before, skip_trails}
use Rattle.fin_nest.specs.Related.{Start}
use Rattle.fin_nest.specs.Senses.{Stands, exact, Behind, runs, turns, Advances}
use Rattle.fin_nest.specs.Performs.{Place, Performs}
use Rattle.fin_nest.specs.Both.{Uncounted, in_run}

module _ (s : Start) where
  -- of an irregular run nothing is said
  nothing_said : (r : Run) (m : Machine) → Stands s (unalive r) m
  nothing_said r m g = let e : false ≡ true = g in absurd (subst T (sym e) tt)

  module _ (layout : Layout) (p : Place) (cs : List Code) (f : Run → Run) (on : (r : Run) → Advances r (f r)) (monotone : Monotone f) (does : Performs layout (exact s) p cs f) where
    pub trailing_performs : Performs layout (runs s) p cs f
    trailing_performs = record {
      does = λ r m ready h g.
          let k = h ((on r).before g) in
          let t = monotone r k.run k.trails g in
          record { run = f k.run; trails = t; related = does.does k.run m ready (λ e. k.related) (t.regular g) };
      leaves = λ r m ready h. does.leaves (unalive r) m ready (nothing_said r m);
    }

    pub turning_performs : Uncounted layout p cs → Performs layout (turns s) p cs (in_run f)
    turning_performs counts = record {
      does = λ t m ready h g.
          let k = h ((on t.run).before g) in
          let q = counts m ready in
          record { behind = trailing_performs.does t.run m ready (λ e. k.behind) g; turns = omega (arith, k.turns, q.0, q.1) };
      leaves = λ t m ready h. does.leaves (unalive t.run) m ready (nothing_said t.run m);
    }

  -- a machine that leaves the update out
  pub skip_behind : (t : ℕ) (at : List ℤ) (by : Reduce) (v : ℤ) (r : Run) (m : Machine) → ChangesNothing t at by v r → regular (skipped s.setting t at by v r) ≡ true → Behind s r m
      → Behind s (skipped s.setting t at by v r) m
  skip_behind t at by v r m same g h = record { run = h.run; trails = skip_trails r h.run t h.trails s.setting at by v same g; related = h.related }

  pub skip_before : (t : ℕ) (at : List ℤ) (by : Reduce) (v : ℤ) (r : Run) → regular (skipped s.setting t at by v r) ≡ true → regular r ≡ true
  skip_before t at by v r g = regular_before r (update s.setting t at by v r) (update_goes_on s.setting t at by v r) g
