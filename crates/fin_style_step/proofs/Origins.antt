-- Where the looplets of the parts hold jumpers: only where the nest's do; and what a jumper at the head passes over.
use Rattle.std.proofs.Common.{◌≡◌, inl, inr, ⊎_elim, List, [], ◌∷◌, Bool, true, false, Option, Some, None, refl, ap, ◌∙◌, subst, ℤ, pos, ◌+ℤ◌, ◌<ℤ◌}
use Rattle.std.specs.Prelude.{map, ◌||◌, ◌&&◌, int_lt, int_le, if◌then◌else◌}
use Rattle.fin_ir.specs.declared.expression.IExpr.{IExpr}
use Rattle.fin_looplet.specs.declared.looplet.Walker.{Walker}
use Rattle.fin_looplet.specs.declared.looplet.Looplet.{Looplet, Row_of-Phase, end_of-Phase, more_of-Phase, end_of-Walker, more_of-Walker}
use Rattle.fin_looplet.specs.declared.looplet.Looplet.TheVariants.{Run, Spike, Lookup, Sequence', Stepper', Jumper', Switch', Shift'}
use Rattle.fin_looplet.specs.View.{Store, Sight, View, plain, ended, leaf_sight, view}
use Rattle.fin_looplet.specs.Cut.{cut}
use Rattle.fin_looplet.specs.Lists.{phase_list, views}
use Rattle.fin_nest.specs.Jumping.{HoldsJumper, PhaseHolds, Simple, SimplyJumps, PhasesJump, AnyPasses, AllSimplyJump}
use Rattle.fin_nest.proofs.Jumping.{From, itself, from_again, sequence_from, simple_jumps, cut_from, AllFrom, themselves, mapped_from}
use Rattle.fin_style_step.specs.Steps.{Phased, sequence_of, first_phase, phased, Division, here_or_later, first_sequence, stepper, jumper, walkers, Among, stop_at, inside, insides}
use Rattle.fin_style_step.proofs.Phases.{same_some, isn't_up_to}
use Rattle.fin_style_step.proofs.Walks.{step_at, jumpers_walk, among_split}

-- ---- sequences

rest_holds : {n : _} (ps : Row_of-Phase n) → HoldsJumper (sequence_of (phase_list ps)) → PhaseHolds ps
rest_holds end_of-Phase h = absurd h
rest_holds (more_of-Phase stop child rest) h = (sequence_from (more_of-Phase stop child rest)).0 h

rest_jumps : {n : _} (ps : Row_of-Phase n) → PhasesJump ps → SimplyJumps (sequence_of (phase_list ps))
rest_jumps end_of-Phase h = tt
rest_jumps (more_of-Phase stop child rest) h = (sequence_from (more_of-Phase stop child rest)).1 h

here_holds : {n : _} (ps : Row_of-Phase n) → HoldsJumper (first_phase ps).here → PhaseHolds ps
here_holds end_of-Phase h = absurd h
here_holds (more_of-Phase stop child rest) h = inl ((cut_from stop child).holds h)

here_jumps : {n : _} (ps : Row_of-Phase n) → PhasesJump ps → SimplyJumps (first_phase ps).here
here_jumps end_of-Phase h = tt
here_jumps (more_of-Phase stop child rest) h = (cut_from stop child).simple h.0

others_holds : {n : _} (ps : Row_of-Phase n) → HoldsJumper (first_phase ps).others → PhaseHolds ps
others_holds end_of-Phase h = absurd h
others_holds (more_of-Phase stop child rest) h = inr (rest_holds rest h)

others_jumps : {n : _} (ps : Row_of-Phase n) → PhasesJump ps → SimplyJumps (first_phase ps).others
others_jumps end_of-Phase h = tt
others_jumps (more_of-Phase stop child rest) h = rest_jumps rest h.1

abbrev BothFrom : Looplet → Phased → Type 0
BothFrom l p = From l p.here × From l p.others

abbrev BothListsFrom : List Looplet → Division → Type 0
BothListsFrom rs d = AllFrom rs d.here × AllFrom rs d.others

phased_from : (l : Looplet) (p : Phased) → phased l ≡ Some p → BothFrom l p
phased_from (Run k) p e = absurd (cc)
phased_from (Spike b t) p e = absurd (cc)
phased_from (Lookup c k) p e = absurd (cc)
phased_from (Sequence' k ps) p e = subst (BothFrom (Sequence' k ps)) (same_some (first_phase ps) p e) (
  record { holds = λ h. here_holds ps h; simple = λ h. here_jumps ps h },
  record { holds = λ h. others_holds ps h; simple = λ h. others_jumps ps h },
)
phased_from (Stepper' k w) p e = absurd (cc)
phased_from (Jumper' k w) p e = absurd (cc)
phased_from (Switch' k cs) p e = absurd (cc)
phased_from (Shift' by k c) p e = absurd (cc)

division_from : (hi : IExpr) (o : Option Phased) (l : Looplet) (rest : List Looplet) (later : Option Division) → ((p : Phased) → o ≡ Some p → BothFrom l p) → ((d : Division) → later ≡ Some d → BothListsFrom rest d)
    → (d : Division) → here_or_later hi o l rest later ≡ Some d → BothListsFrom (l ∷ rest) d
division_from hi (Some p) l rest later h k d e =
    let b = h p refl in
    subst (BothListsFrom (l ∷ rest)) (same_some (record { stop = p.stop; here = p.here ∷ map (cut hi) rest; others = p.others ∷ rest }) d e)
    ((b.0, mapped_from (cut hi) (cut_from hi) rest), (b.1, themselves rest))
division_from hi None l rest None h k d e = absurd (cc)
division_from hi None l rest (Some c) h k d e =
    let b = k c refl in
    subst (BothListsFrom (l ∷ rest)) (same_some (record { stop = c.stop; here = cut hi l ∷ c.here; others = l ∷ c.others }) d e) ((cut_from hi l, b.0), (itself l, b.1))

pub sequence_parts_from : (hi : IExpr) (rs : List Looplet) (d : Division) → first_sequence hi rs ≡ Some d → AllFrom rs d.here × AllFrom rs d.others
sequence_parts_from hi [] d e = absurd (cc)
sequence_parts_from hi (l ∷ rest) d e = division_from hi (phased l) l rest (first_sequence hi rest) (λ p. phased_from l p) (λ c. sequence_parts_from hi rest c) d e

-- ---- walkers

-- a walker's child comes from the looplet
abbrev pub ChildFrom : (Looplet → Option Walker) → Type 0
ChildFrom kind = (l : Looplet) (w : Walker) → kind l ≡ Some w → From l w.child

abbrev OfChild : Looplet → Walker → Type 0
OfChild l w = From l w.child

pub stepper_child : ChildFrom stepper
stepper_child (Run k) w e = absurd (cc)
stepper_child (Spike b t) w e = absurd (cc)
stepper_child (Lookup c k) w e = absurd (cc)
stepper_child (Sequence' n ps) w e = absurd (cc)
stepper_child (Stepper' p (more_of-Walker cursor seek stop child end_of-Walker)) w e =
    subst (OfChild (Stepper' p (more_of-Walker cursor seek stop child end_of-Walker))) (same_some (record { cursor = cursor; seek = seek; stop = stop; child = child }) w e) (record { holds = λ h. h; simple = λ h. h })
stepper_child (Jumper' p k) w e = absurd (cc)
stepper_child (Switch' n cs) w e = absurd (cc)
stepper_child (Shift' by p c) w e = absurd (cc)

pub jumper_child : ChildFrom jumper
jumper_child (Run k) w e = absurd (cc)
jumper_child (Spike b t) w e = absurd (cc)
jumper_child (Lookup c k) w e = absurd (cc)
jumper_child (Sequence' n ps) w e = absurd (cc)
jumper_child (Stepper' p k) w e = absurd (cc)
jumper_child (Jumper' p (more_of-Walker cursor seek stop child end_of-Walker)) w e =
    subst (OfChild (Jumper' p (more_of-Walker cursor seek stop child end_of-Walker))) (same_some (record { cursor = cursor; seek = seek; stop = stop; child = child }) w e) (record { holds = λ h. tt; simple = λ h. simple_jumps child h })
jumper_child (Switch' n cs) w e = absurd (cc)
jumper_child (Shift' by p c) w e = absurd (cc)

inside_from : (hi : IExpr) (o : Option Walker) (l : Looplet) → ((w : Walker) → o ≡ Some w → From l w.child) → From l (inside hi o l)
inside_from hi None l h = cut_from hi l
inside_from hi (Some w) l h = from_again l w.child (cut w.stop w.child) (h w refl) (cut_from w.stop w.child)

pub insides_from : (kind : Looplet → Option Walker) → ChildFrom kind → (hi : IExpr) (rs : List Looplet) → AllFrom rs (insides kind hi rs)
insides_from kind h hi [] = tt
insides_from kind h hi (l ∷ rest) = (inside_from hi (kind l) l (λ w. h l w), insides_from kind h hi rest)

-- ---- what a jumper at the head passes over

spike_stop : (b c : Bool) (x y : Sight) → (if b then ended c false (plain false x) else plain false y).stop ≡ false
spike_stop true true x y = refl
spike_stop true false x y = refl
spike_stop false c x y = refl

simple_stop : (ts : Store) (ls : List ℤ) (l : Looplet) (e i : ℤ) → Simple l → (view ts ls l e i).stop ≡ false
simple_stop ts ls (Run leaf) e i h = refl
simple_stop ts ls (Spike body tail) e i h = spike_stop (int_lt (i +ℤ pos 1) e) (int_le e (i +ℤ pos 2)) (leaf_sight ts ls body) (leaf_sight ts ls tail)
simple_stop ts ls (Lookup coord leaf) e i h = refl
simple_stop ts ls (Sequence' n ps) e i h = absurd h
simple_stop ts ls (Stepper' p w) e i h = absurd h
simple_stop ts ls (Jumper' p w) e i h = absurd h
simple_stop ts ls (Switch' n cs) e i h = absurd h
simple_stop ts ls (Shift' by p c) e i h = absurd h

record Jumping (l : Looplet) (w : Walker) : Type 0 where
  holds : HoldsJumper l
  simple : SimplyJumps l → Simple w.child

jumping : (l : Looplet) (w : Walker) → jumper l ≡ Some w → Jumping l w
jumping (Run k) w e = absurd (cc)
jumping (Spike b t) w e = absurd (cc)
jumping (Lookup c k) w e = absurd (cc)
jumping (Sequence' n ps) w e = absurd (cc)
jumping (Stepper' p k) w e = absurd (cc)
jumping (Jumper' p (more_of-Walker cursor seek stop child end_of-Walker)) w e =
    subst (Jumping (Jumper' p (more_of-Walker cursor seek stop child end_of-Walker))) (same_some (record { cursor = cursor; seek = seek; stop = stop; child = child }) w e) (record { holds = tt; simple = λ h. h })
jumping (Switch' n cs) w e = absurd (cc)
jumping (Shift' by p c) w e = absurd (cc)

module _ (ts : Store) (ls : List ℤ) (e i : ℤ) where
  one_passes : (l : Looplet) (w : Walker) → jumper l ≡ Some w → SimplyJumps l → (i +ℤ pos 1) <ℤ stop_at ts ls w i → HoldsJumper l × ((view ts ls l e i).stop ≡ false)
  one_passes l w k s lt =
      let j = jumping l w k in
      let child = view ts (step_at ts ls w i) w.child (stop_at ts ls w i) i in (
        j.holds,
        ap (λ (v : View). v.stop) ((jumpers_walk l w k).shows ts ls e i)
            ∙ ap (λ (b : Bool). (b && true) || child.stop) (isn't_up_to (stop_at ts ls w i) (i +ℤ pos 1) lt)
            ∙ simple_stop ts (step_at ts ls w i) w.child (stop_at ts ls w i) i (j.simple s),
      )

  pub jumper_passes : (rs : List Looplet) (w : Walker) → Among w (walkers jumper rs) → AllSimplyJump rs → (i +ℤ pos 1) <ℤ stop_at ts ls w i → AnyPasses rs (views ts ls rs e i)
  jumper_passes [] w a s lt = a
  jumper_passes (l ∷ rest) w a s lt = ⊎_elim
      (λ k. inl (one_passes l w k s.0 lt))
      (λ b. inr (jumper_passes rest w b s.1 lt))
      (among_split (jumper l) w (walkers jumper rest) a)
