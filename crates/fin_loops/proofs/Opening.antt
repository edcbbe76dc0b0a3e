-- A machine where a chunk begins still does what the run does.
use Rattle.std.proofs.Common.{◌≡◌, inl, inr, ℕ, zero, suc, ◌+◌, Bool, true, false, List, [], ◌∷◌, length, if◌then◌else◌, refl, sym, ap, ◌∙◌, subst, ℤ, arith}
use Rattle.fin_ir.specs.Machine.{Machine, Tensor, nothing, held, over, seen}
use Rattle.fin_ir.specs.Meaning.{forget_from, opened}
use Rattle.fin_ir.proofs.Growth.{length_forget}
use Rattle.fin_stage.specs.Stages.{Stage, Absent, stage_at}
use Rattle.fin_stage.specs.Staged.{Run, is_made}
use Rattle.fin_stage.specs.Trailing.{StageTrails, RunTrails}
use Rattle.fin_nest.specs.Related.{Start, Stand, Live, Related}
use Rattle.fin_loops.specs.Chunks.{AreAbsent, OpenedStand}

-- a tensor that isn't forgotten is held still
held_on : (own : ℕ → Bool) (n : ℕ) (ts : List Tensor) (t : ℕ) → own (n + t) ≡ false → held (forget_from own n ts) t ≡ held ts t
held_on own n [] t e = refl
held_on own n (x ∷ xs) zero e = let here : n + 0 ≡ n = omega arith in ap (λ (b : Bool). if b then nothing else x) (sym (ap own here) ∙ e)
held_on own n (x ∷ xs) (suc t) e = let there : n + 1 + t ≡ n + suc t = omega arith in held_on own (n + 1) xs t (ap own there ∙ e)

pub seen_on : (own : ℕ → Bool) (ls : List ℤ) (m : Machine) (t : ℕ) → own t ≡ false → seen (opened own ls m) t ≡ seen m t
seen_on own ls m t e = let here : 0 + t ≡ t = omega arith in ap (λ (x : Tensor). over x (held m.shared t)) (held_on own 0 m.tensors t (ap own here ∙ e))

module _ (s : Start) (own : ℕ → Bool) (ls : List ℤ) (long : length ls ≡ s.layout.locals) where
  module _ (r run : Run) (m : Machine) (absent : AreAbsent s.setting own r) (trails : RunTrails r run) (l : Live s [] run m) where
    abbrev Stands : ℕ → Type 0
    Stands t = Stand (stage_at run.stages t) (held (opened own ls m).tensors t)

    gone : (t : ℕ) → own t ≡ true → stage_at run.stages t ≡ Absent
    gone t e = subst (λ (x : Stage). StageTrails x (stage_at run.stages t)) (absent t e).1 (trails.stages t)

    same : (t : ℕ) → own t ≡ false → held (opened own ls m).tensors t ≡ held m.tensors t
    same t e = let here : 0 + t ≡ t = omega arith in held_on own 0 m.tensors t (ap own here ∙ e)

    stands_by : (t : ℕ) (b : Bool) → own t ≡ b → Stands t
    stands_by t true e = subst (λ (x : Stage). Stand x (held (opened own ls m).tensors t)) (sym (gone t e)) tt
    stands_by t false e = subst (Stand (stage_at run.stages t)) (sym (same t e)) (l.each t)

    given_by : (t : ℕ) → is_made s.setting t ≡ false → (b : Bool) → own t ≡ b → held (opened own ls m).tensors t ≡ held s.first.tensors t
    given_by t e true o = let f = (absent t o).2 in cc
    given_by t e false o = same t o ∙ l.given t e

    opened_live : Live s [] run (opened own ls m)
    opened_live = record {
      cut = l.cut;
      regular = l.regular;
      shared = l.shared;
      charges = l.charges;
      locals = long;
      pinned = λ x lt. absurd (omega (arith, lt));
      tensors = length_forget own 0 m.tensors ∙ l.tensors;
      stages = l.stages;
      each = λ t. stands_by t (own t) refl;
      given = λ t e. given_by t e (own t) refl;
      fits = l.fits;
    }

  opened_related : (r run : Run) (m : Machine) → AreAbsent s.setting own r → RunTrails r run → Related s [] run m → Related s [] run (opened own ls m)
  opened_related r run m absent trails (inl l) = inl (opened_live r run m absent trails l)
  opened_related r run m absent trails (inr o) = inr (record { cut = o.cut; regular = o.regular; over = o.over; most = o.most })

pub opened_stand : OpenedStand
opened_stand s own ls r m long absent h g =
    let b = h g in
    record { run = b.run; trails = b.trails; related = opened_related s own ls long r b.run m absent b.trails b.related }
