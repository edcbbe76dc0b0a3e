-- The two senses keep the laws: assignments, counted turns, charges, and what is cut.
use Rattle.std.proofs.Common.{◌≡◌, ℕ, ◌+◌, ◌≤◌, inl, inr, Bool, true, false, ⊎_elim, List, [], refl, sym, ap, subst, ℤ, arith, if◌then◌else◌}
use Rattle.std.specs.Prelude.{slice_set}
use Rattle.std.proofs.Math.ListN.{length-set}
use Rattle.fin_ir.specs.Machine.{Machine, assign, count_turn}
use Rattle.fin_stage.specs.Staged.{Run, worked}
use Rattle.fin_stage.specs.Trailing.{RunTrails}
use Rattle.fin_stage.proofs.Onward.{Onward, onward_still}
use Rattle.fin_stage.proofs.Trailing.{run_itself, regular_before, worked_trails}
use Rattle.fin_read.specs.Steps.{Agree}
use Rattle.fin_nest.specs.Related.{Start, Live, Related}
use Rattle.fin_nest.specs.Laws.{Lawful, Over, Charges, Owing}
use Rattle.fin_nest.specs.Senses.{Behind, runs, Tallied, turns, Advances, AdvancesTally}
use Rattle.fin_nest.proofs.Still.{Stills}
use Rattle.fin_nest.proofs.Pinning.{alive, live_as, live_locals, goes_on}
use Rattle.fin_nest.proofs.Means.{with_local}
use Rattle.fin_nest.proofs.Changed.{number_pays, worked_live}

pub assign_still : (x : ℕ) (v : ℤ) → Stills (assign x v)
assign_still x v m e = ap (λ (b : Bool). if b then m else record m { locals = slice_set m.locals x v }) e

pub count_still : Stills count_turn
count_still m e = ap (λ (b : Bool). if b then m else record m { turns = m.turns + 1 }) e

-- ---- what turns and charges come to

assign_turns : (x : ℕ) (v : ℤ) (m : Machine) → ((assign x v m).turns ≡ m.turns) × ((assign x v m).charges ≡ m.charges)
assign_turns x v m = by m.cut where
  by : (b : Bool) → ((if b then m else with_local x v m).turns ≡ m.turns) × ((if b then m else with_local x v m).charges ≡ m.charges)
  by true = (refl, refl)
  by false = (refl, refl)

pub count_turns : (m : Machine) → ((count_turn m).turns ≤ m.turns + 1) × ((count_turn m).charges ≡ m.charges)
count_turns m = by m.cut where
  by : (b : Bool) → ((if b then m else record m { turns = m.turns + 1 }).turns ≤ m.turns + 1) × ((if b then m else record m { turns = m.turns + 1 }).charges ≡ m.charges)
  by true = (omega arith, refl)
  by false = (omega arith, refl)

-- ---- what goes on takes nothing back
pub advances : (r n : Run) → Onward r n → Advances r n
advances r n o = record { before = regular_before r n o; work = o.work }

module _ (s : Start) where
  -- ---- machines that do what a run does

  nothing_pinned : (ls : List ℤ) → Agree 0 ls []
  nothing_pinned ls k lt = absurd (omega (arith, lt))

  assigned : (x : ℕ) (v : ℤ) (r : Run) (m : Machine) → Live s [] r m → Live s [] r (assign x v m)
  assigned x v r m l =
      subst (Live s [] r) (sym (alive m (record m { locals = slice_set m.locals x v }) l.cut))
      (live_locals s [] [] (slice_set m.locals x v) r m (length-set m.locals x v) (nothing_pinned (slice_set m.locals x v)) l)

  counted : (r : Run) (m : Machine) → Live s [] r m → Live s [] r (count_turn m)
  counted r m l =
      subst (Live s [] r) (sym (alive m (record m { turns = m.turns + 1 }) l.cut))
      (live_as s [] [] m.locals r.work m.charges (m.turns + 1) r m l.charges refl (nothing_pinned m.locals) l)

  assign_related : (x : ℕ) (v : ℤ) (r : Run) (m : Machine) → Related s [] r m → Related s [] r (assign x v m)
  assign_related x v r m h = goes_on s [] [] r r m (assign x v) (onward_still r) (assign_still x v) h (λ l. inl (assigned x v r m l))

  count_related : (r : Run) (m : Machine) → Related s [] r m → Related s [] r (count_turn m)
  count_related r m h = goes_on s [] [] r r m count_turn (onward_still r) count_still h (λ l. inl (counted r m l))

  charge_related : (r : Run) (m : Machine) → m.cut ≡ false → Related s [] r m → Related s [] (worked 1 r) (record m { charges = m.charges + 1 })
  charge_related r m live h = ⊎_elim (λ l. inl (worked_live s [] r m l 1)) (λ x. let e = x.cut in absurd (cc)) h

  -- ---- machines that do what a run does that trails

  assign_behind : (x : ℕ) (v : ℤ) (r : Run) (m : Machine) → Behind s r m → Behind s r (assign x v m)
  assign_behind x v r m h = record { run = h.run; trails = h.trails; related = assign_related x v h.run m h.related }

  count_behind : (r : Run) (m : Machine) → Behind s r m → Behind s r (count_turn m)
  count_behind r m h = record { run = h.run; trails = h.trails; related = count_related h.run m h.related }

  charge_behind : (r : Run) (m : Machine) → m.cut ≡ false → Behind s r m → Behind s (worked 1 r) (record m { charges = m.charges + 1 })
  charge_behind r m live h = record { run = worked 1 h.run; trails = worked_trails 1 r h.run h.trails; related = charge_related h.run m live h.related }

  -- what is cut is cut of the later run too
  over_later : (r r' n : Run) (m : Machine) → RunTrails r r' → r.work ≤ n.work → m.cut ≡ true → Related s [] r' m → Related s [] n m
  over_later r r' n m tr le cut (inl l) = let e = l.cut in absurd (cc)
  over_later r r' n m tr le cut (inr x) = inr (record { cut = x.cut; regular = x.regular; over = x.over; most = omega (arith, x.most, le, tr.work) })

  cut_behind : (r n : Run) (m : Machine) → r.work ≤ n.work → m.cut ≡ true → Behind s r m → Behind s n m
  cut_behind r n m le cut h = record { run = n; trails = run_itself n; related = over_later r h.run n m h.trails le cut h.related }

  -- ---- in values and charges

  pub runs_lawful : Lawful (runs s)
  runs_lawful = record {
    assign = λ x v r m h g. assign_behind x v r m (h g);
    count = λ r m h g. count_behind r m (h g);
    spare = λ r m h. h;
  }

  pub runs_charging : Charges s.layout (runs s) (worked 1)
  runs_charging = record { does = λ r m live h g. charge_behind r m live (h g); pays = λ m live. number_pays s.layout 1 m live }

  pub runs_over : (f : Run → Run) → ((r : Run) → Advances r (f r)) → Over (runs s) f
  runs_over f on r m cut h g = let o = on r in cut_behind r (f r) m o.work cut (h (o.before g))

  -- ---- in turns

  pub turns_lawful : Lawful (turns s)
  turns_lawful = record {
    assign = λ x v t m h g. let k = h g in let a = assign_turns x v m in record { behind = assign_behind x v t.run m k.behind; turns = omega (arith, k.turns, a.0, a.1) };
    count = λ t m h g. let k = h g in let a = count_turns m in record { behind = count_behind t.run m k.behind; turns = omega (arith, k.turns, a.0, a.1) };
    spare = λ t m h g. let k = h g in record { behind = k.behind; turns = omega (arith, k.turns) };
  }

  -- a charge of 1, kept for a turn
  pub turns_owing : Owing s.layout (turns s) (λ t. record t { run = worked 1 t.run }) (λ t. record t { owed = t.owed + 1 })
  turns_owing = record {
    charge = λ t m live h g. let k = h g in record { behind = charge_behind t.run m live k.behind; turns = omega (arith, k.turns) };
    repay = λ t m h g. let k = h g in let a = count_turns m in record { behind = count_behind t.run m k.behind; turns = omega (arith, k.turns, a.0, a.1) };
    pays = λ m live. number_pays s.layout 1 m live;
  }

  pub turns_over : (f : Tallied → Tallied) → ((t : Tallied) → AdvancesTally t (f t)) → Over (turns s) f
  turns_over f on t m cut h g =
      let o = on t in
      let k = h (o.run.before g) in
      record { behind = cut_behind t.run (f t).run m o.run.work cut k.behind; turns = omega (arith, k.turns, o.tally, o.owed) }
