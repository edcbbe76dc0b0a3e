-- Where looplets that are cut, moved or in a row hold jumpers, and a nest that looks like another one: what jumpers pass
-- over there.
use Rattle.std.proofs.Common.{◌≡◌, ◌⊎◌, inl, inr, ⊎_elim, List, [], ◌∷◌, Bool, true, false, refl, sym, ap, ◌∙◌, subst, ℤ, pos, ◌+ℤ◌, ◌≤ℤ◌, ◌<ℤ◌, arith}
use Rattle.std.specs.Prelude.{map}
use borrow.Author.Differences.{sum_is_lem, lt_out, le_out, below_in, at_most_in}
use denote.Hole.Carrier.{hidden}
use Rattle.fin_ir.specs.declared.expression.IExpr.{IExpr}
use Rattle.fin_looplet.specs.declared.looplet.Phase.{Phase}
use Rattle.fin_looplet.specs.declared.looplet.Case.{Case}
use Rattle.fin_looplet.specs.declared.looplet.Looplet.{Looplet, Row_of-Phase, end_of-Phase, more_of-Phase, Row_of-Walker, end_of-Walker, more_of-Walker, Row_of-Case, end_of-Case, more_of-Case, end_of-Looplet, more_of-Looplet}
use Rattle.fin_looplet.specs.declared.looplet.Looplet.TheVariants.{Run, Spike, Lookup, Sequence, Sequence', Stepper', Jumper', Switch, Switch', Shift, Shift'}
use Rattle.fin_looplet.specs.declared.looplet.Looplet.TheBlock.{shape-the_row-Phase-0, hidden-the_row-Phase-0, shape-the_row-Case-2, hidden-the_row-Case-2, shape-the_row-Looplet-3, hidden-the_row-Looplet-3}
use Rattle.fin_looplet.specs.View.{Store, value, View}
use Rattle.fin_looplet.specs.Cut.{plus, minus, cap, cut, cut_cases}
use Rattle.fin_looplet.specs.Moved.{moved, moved_phases, moved_walker, moved_cases}
use Rattle.fin_looplet.specs.Like.{AllLike}
use Rattle.fin_looplet.specs.Lists.{seens, any_ends, phase_list, case_list}
use Rattle.fin_looplet.proofs.Lists.{like_seens, like_ends}
use Rattle.fin_nest.specs.Jumping.{HoldsJumper, PhaseHolds, ChildHolds, CaseHolds, Simple, SimpleChild, SimplyJumps, PhasesJump, ChildJumps, CasesJump, AnyPasses, AllSimplyJump, NoneHolds}
use Rattle.fin_nest.specs.Nests.{Nest, Sense, Body, views_of, Silent, Passes, Jumps}
use Rattle.fin_nest.proofs.Folds.{Shows}

-- ---- rows, as the program's constructors write them

abbrev AnyPhase : List Phase → Type 0
AnyPhase [] = ⊥
AnyPhase (p ∷ ps) = HoldsJumper p.child ⊎ AnyPhase ps

abbrev EachPhase : List Phase → Type 0
EachPhase [] = Unit {0}
EachPhase (p ∷ ps) = SimplyJumps p.child × EachPhase ps

abbrev AnyCase : List Case → Type 0
AnyCase [] = ⊥
AnyCase (c ∷ cs) = HoldsJumper c.child ⊎ AnyCase cs

abbrev EachCase : List Case → Type 0
EachCase [] = Unit {0}
EachCase (c ∷ cs) = SimplyJumps c.child × EachCase cs

sequence_holds : (ps : List Phase) → HoldsJumper (Sequence ps) → AnyPhase ps
unfolding shape-the_row-Phase-0 hidden-the_row-Phase-0 hidden
sequence_holds [] h = h
sequence_holds (p ∷ ps) (inl h) = inl h
sequence_holds (p ∷ ps) (inr h) = inr (sequence_holds ps h)

sequence_jumps : (ps : List Phase) → EachPhase ps → SimplyJumps (Sequence ps)
unfolding shape-the_row-Phase-0 hidden-the_row-Phase-0 hidden
sequence_jumps [] h = tt
sequence_jumps (p ∷ ps) h = (h.0, sequence_jumps ps h.1)

switch_holds : (cs : List Case) → HoldsJumper (Switch cs) → AnyCase cs
unfolding shape-the_row-Case-2 hidden-the_row-Case-2 hidden
switch_holds [] h = h
switch_holds (c ∷ cs) (inl h) = inl h
switch_holds (c ∷ cs) (inr h) = inr (switch_holds cs h)

switch_jumps : (cs : List Case) → EachCase cs → SimplyJumps (Switch cs)
unfolding shape-the_row-Case-2 hidden-the_row-Case-2 hidden
switch_jumps [] h = tt
switch_jumps (c ∷ cs) h = (h.0, switch_jumps cs h.1)

shift_holds : (by : IExpr) (child : Looplet) → HoldsJumper (Shift by child) → HoldsJumper child
unfolding shape-the_row-Looplet-3 hidden-the_row-Looplet-3 hidden
shift_holds by child h = h

shift_jumps : (by : IExpr) (child : Looplet) → SimplyJumps child → SimplyJumps (Shift by child)
unfolding shape-the_row-Looplet-3 hidden-the_row-Looplet-3 hidden
shift_jumps by child h = h

phase_holds : {n : _} (ps : Row_of-Phase n) → AnyPhase (phase_list ps) → PhaseHolds ps
phase_holds end_of-Phase h = h
phase_holds (more_of-Phase stop child rest) (inl h) = inl h
phase_holds (more_of-Phase stop child rest) (inr h) = inr (phase_holds rest h)

phases_jump : {n : _} (ps : Row_of-Phase n) → PhasesJump ps → EachPhase (phase_list ps)
phases_jump end_of-Phase h = tt
phases_jump (more_of-Phase stop child rest) h = (h.0, phases_jump rest h.1)

case_holds : {n : _} (cs : Row_of-Case n) → AnyCase (case_list cs) → CaseHolds cs
case_holds end_of-Case h = h
case_holds (more_of-Case test child rest) (inl h) = inl h
case_holds (more_of-Case test child rest) (inr h) = inr (case_holds rest h)

cases_jump : {n : _} (cs : Row_of-Case n) → CasesJump cs → EachCase (case_list cs)
cases_jump end_of-Case h = tt
cases_jump (more_of-Case test child rest) h = (h.0, cases_jump rest h.1)

-- ---- a looplet that comes from another one: it holds a jumper only where that one does, and no other jumpers

pub record From (l one : Looplet) : Type 0 where
  pub holds : HoldsJumper one → HoldsJumper l
  pub simple : SimplyJumps l → SimplyJumps one

pub itself : (l : Looplet) → From l l
itself l = record { holds = λ h. h; simple = λ h. h }

pub from_again : (l one two : Looplet) → From l one → From one two → From l two
from_again l one two f g = record { holds = λ h. f.holds (g.holds h); simple = λ h. g.simple (f.simple h) }

-- the phases and cases of a row, as a sequence and a switch of their own
pub sequence_from : {n : _} (ps : Row_of-Phase n) → (HoldsJumper (Sequence (phase_list ps)) → PhaseHolds ps) × (PhasesJump ps → SimplyJumps (Sequence (phase_list ps)))
sequence_from ps = ((λ h. phase_holds ps (sequence_holds (phase_list ps) h)), (λ h. sequence_jumps (phase_list ps) (phases_jump ps h)))

pub switch_from : {n : _} (cs : Row_of-Case n) → (HoldsJumper (Switch (case_list cs)) → CaseHolds cs) × (CasesJump cs → SimplyJumps (Switch (case_list cs)))
switch_from cs = ((λ h. case_holds cs (switch_holds (case_list cs) h)), (λ h. switch_jumps (case_list cs) (cases_jump cs h)))

pub simple_jumps : (l : Looplet) → Simple l → SimplyJumps l
simple_jumps (Run leaf) h = tt
simple_jumps (Spike body tail) h = tt
simple_jumps (Lookup coord leaf) h = tt
simple_jumps (Sequence' n ps) h = absurd h
simple_jumps (Stepper' p w) h = absurd h
simple_jumps (Jumper' p w) h = absurd h
simple_jumps (Switch' n cs) h = absurd h
simple_jumps (Shift' by p c) h = absurd h

-- ---- cut

none_of_two : (a b : Phase) → (HoldsJumper a.child → ⊥) → (HoldsJumper b.child → ⊥) → HoldsJumper (Sequence (a ∷ b ∷ [])) → ⊥
none_of_two a b f g h = ⊎_elim f (λ q. ⊎_elim g (λ z. z) q) (sequence_holds (a ∷ b ∷ []) h)

mutual
  cut_holds : (e : IExpr) (l : Looplet) → HoldsJumper (cut e l) → HoldsJumper l
  cut_holds e (Run leaf) h = h
  cut_holds e (Spike body tail) h = absurd (none_of_two _ _ (λ z. z) (λ z. z) h)
  cut_holds e (Lookup coord leaf) h = h
  cut_holds e (Sequence' n phases) h = h
  cut_holds e (Stepper' p walker) h = h
  cut_holds e (Jumper' p walker) h = h
  cut_holds e (Switch' n cases) h = cut_case_holds e cases (switch_holds (cut_cases e cases) h)
  cut_holds e (Shift' by p (more_of-Looplet child end_of-Looplet)) h =
      cut_holds (minus (cap e) by) child (shift_holds by (cut (minus (cap e) by) child) h)

  cut_case_holds : {n : _} (e : IExpr) (cs : Row_of-Case n) → AnyCase (cut_cases e cs) → CaseHolds cs
  cut_case_holds e end_of-Case h = h
  cut_case_holds e (more_of-Case test child rest) (inl h) = inl (cut_holds e child h)
  cut_case_holds e (more_of-Case test child rest) (inr h) = inr (cut_case_holds e rest h)

mutual
  cut_jumps : (e : IExpr) (l : Looplet) → SimplyJumps l → SimplyJumps (cut e l)
  cut_jumps e (Run leaf) h = tt
  cut_jumps e (Spike body tail) h = sequence_jumps _ (tt, (tt, tt))
  cut_jumps e (Lookup coord leaf) h = tt
  cut_jumps e (Sequence' n phases) h = h
  cut_jumps e (Stepper' p walker) h = h
  cut_jumps e (Jumper' p walker) h = h
  cut_jumps e (Switch' n cases) h = switch_jumps (cut_cases e cases) (cut_cases_jump e cases h)
  cut_jumps e (Shift' by p (more_of-Looplet child end_of-Looplet)) h =
      shift_jumps by (cut (minus (cap e) by) child) (cut_jumps (minus (cap e) by) child h)

  cut_cases_jump : {n : _} (e : IExpr) (cs : Row_of-Case n) → CasesJump cs → EachCase (cut_cases e cs)
  cut_cases_jump e end_of-Case h = tt
  cut_cases_jump e (more_of-Case test child rest) h = (cut_jumps e child h.0, cut_cases_jump e rest h.1)

pub cut_from : (e : IExpr) (l : Looplet) → From l (cut e l)
cut_from e l = record { holds = cut_holds e l; simple = cut_jumps e l }

-- ---- moved

mutual
  moved_holds : (by : IExpr) (l : Looplet) → HoldsJumper (moved by l) → HoldsJumper l
  moved_holds by (Run leaf) h = h
  moved_holds by (Spike body tail) h = h
  moved_holds by (Lookup coord leaf) h = h
  moved_holds by (Sequence' n phases) h = moved_phase_holds by phases h
  moved_holds by (Stepper' p walker) h = moved_child_holds by walker h
  moved_holds by (Jumper' p walker) h = tt
  moved_holds by (Switch' n cases) h = moved_case_holds by cases h
  moved_holds by (Shift' inner p (more_of-Looplet child end_of-Looplet)) h = moved_holds (plus by inner) child h

  moved_phase_holds : {n : _} (by : IExpr) (ps : Row_of-Phase n) → PhaseHolds (moved_phases by ps) → PhaseHolds ps
  moved_phase_holds by end_of-Phase h = h
  moved_phase_holds by (more_of-Phase stop child rest) (inl h) = inl (moved_holds by child h)
  moved_phase_holds by (more_of-Phase stop child rest) (inr h) = inr (moved_phase_holds by rest h)

  moved_child_holds : {n : _} (by : IExpr) (w : Row_of-Walker n) → ChildHolds (moved_walker by w) → ChildHolds w
  moved_child_holds by end_of-Walker h = h
  moved_child_holds by (more_of-Walker cursor seek stop child rest) h = moved_holds by child h

  moved_case_holds : {n : _} (by : IExpr) (cs : Row_of-Case n) → CaseHolds (moved_cases by cs) → CaseHolds cs
  moved_case_holds by end_of-Case h = h
  moved_case_holds by (more_of-Case test child rest) (inl h) = inl (moved_holds by child h)
  moved_case_holds by (more_of-Case test child rest) (inr h) = inr (moved_case_holds by rest h)

moved_simple : (by : IExpr) (l : Looplet) → Simple l → Simple (moved by l)
moved_simple by (Run leaf) h = tt
moved_simple by (Spike body tail) h = tt
moved_simple by (Lookup coord leaf) h = tt
moved_simple by (Sequence' n ps) h = absurd h
moved_simple by (Stepper' p w) h = absurd h
moved_simple by (Jumper' p w) h = absurd h
moved_simple by (Switch' n cs) h = absurd h
moved_simple by (Shift' inner p c) h = absurd h

moved_simple_child : {n : _} (by : IExpr) (w : Row_of-Walker n) → SimpleChild w → SimpleChild (moved_walker by w)
moved_simple_child by end_of-Walker h = tt
moved_simple_child by (more_of-Walker cursor seek stop child rest) h = moved_simple by child h

mutual
  moved_jumps : (by : IExpr) (l : Looplet) → SimplyJumps l → SimplyJumps (moved by l)
  moved_jumps by (Run leaf) h = tt
  moved_jumps by (Spike body tail) h = tt
  moved_jumps by (Lookup coord leaf) h = tt
  moved_jumps by (Sequence' n phases) h = moved_phases_jump by phases h
  moved_jumps by (Stepper' p walker) h = moved_child_jumps by walker h
  moved_jumps by (Jumper' p walker) h = moved_simple_child by walker h
  moved_jumps by (Switch' n cases) h = moved_cases_jump by cases h
  moved_jumps by (Shift' inner p (more_of-Looplet child end_of-Looplet)) h = moved_jumps (plus by inner) child h

  moved_phases_jump : {n : _} (by : IExpr) (ps : Row_of-Phase n) → PhasesJump ps → PhasesJump (moved_phases by ps)
  moved_phases_jump by end_of-Phase h = tt
  moved_phases_jump by (more_of-Phase stop child rest) h = (moved_jumps by child h.0, moved_phases_jump by rest h.1)

  moved_child_jumps : {n : _} (by : IExpr) (w : Row_of-Walker n) → ChildJumps w → ChildJumps (moved_walker by w)
  moved_child_jumps by end_of-Walker h = tt
  moved_child_jumps by (more_of-Walker cursor seek stop child rest) h = moved_jumps by child h

  moved_cases_jump : {n : _} (by : IExpr) (cs : Row_of-Case n) → CasesJump cs → CasesJump (moved_cases by cs)
  moved_cases_jump by end_of-Case h = tt
  moved_cases_jump by (more_of-Case test child rest) h = (moved_jumps by child h.0, moved_cases_jump by rest h.1)

pub moved_from : (by : IExpr) (l : Looplet) → From l (moved by l)
moved_from by l = record { holds = moved_holds by l; simple = moved_jumps by l }

-- ---- without jumpers

mutual
  none_jumps : (l : Looplet) → (HoldsJumper l → ⊥) → SimplyJumps l
  none_jumps (Run leaf) h = tt
  none_jumps (Spike body tail) h = tt
  none_jumps (Lookup coord leaf) h = tt
  none_jumps (Sequence' n phases) h = no_phases_jump phases h
  none_jumps (Stepper' p walker) h = no_child_jumps walker h
  none_jumps (Jumper' p walker) h = absurd (h tt)
  none_jumps (Switch' n cases) h = no_cases_jump cases h
  none_jumps (Shift' by p (more_of-Looplet child end_of-Looplet)) h = none_jumps child h

  no_phases_jump : {n : _} (ps : Row_of-Phase n) → (PhaseHolds ps → ⊥) → PhasesJump ps
  no_phases_jump end_of-Phase h = tt
  no_phases_jump (more_of-Phase stop child rest) h = (none_jumps child (λ q. h (inl q)), no_phases_jump rest (λ q. h (inr q)))

  no_child_jumps : {n : _} (w : Row_of-Walker n) → (ChildHolds w → ⊥) → ChildJumps w
  no_child_jumps end_of-Walker h = tt
  no_child_jumps (more_of-Walker cursor seek stop child rest) h = none_jumps child h

  no_cases_jump : {n : _} (cs : Row_of-Case n) → (CaseHolds cs → ⊥) → CasesJump cs
  no_cases_jump end_of-Case h = tt
  no_cases_jump (more_of-Case test child rest) h = (none_jumps child (λ q. h (inl q)), no_cases_jump rest (λ q. h (inr q)))

-- ---- lists

abbrev pub AllFrom : List Looplet → List Looplet → Type 0
AllFrom [] [] = Unit {0}
AllFrom [] (one ∷ ones) = ⊥
AllFrom (l ∷ ls) [] = ⊥
AllFrom (l ∷ ls) (one ∷ ones) = From l one × AllFrom ls ones

pub themselves : (ls : List Looplet) → AllFrom ls ls
themselves [] = tt
themselves (l ∷ rest) = (itself l, themselves rest)

pub mapped_from : (f : Looplet → Looplet) → ((l : Looplet) → From l (f l)) → (ls : List Looplet) → AllFrom ls (map f ls)
mapped_from f h [] = tt
mapped_from f h (l ∷ rest) = (h l, mapped_from f h rest)

all_simple : (ls ones : List Looplet) → AllFrom ls ones → AllSimplyJump ls → AllSimplyJump ones
all_simple [] [] f h = tt
all_simple [] (one ∷ ones) f h = absurd f
all_simple (l ∷ ls) [] f h = absurd f
all_simple (l ∷ ls) (one ∷ ones) f h = (f.0.simple h.0, all_simple ls ones f.1 h.1)

-- where one passes over a coordinate, so does what it comes from
any_passes : (inside : Type 0) (ls ones : List Looplet) (vs ws : List View) → AllFrom ls ones → AllLike inside ws vs → inside → AnyPasses ones ws → AnyPasses ls vs
any_passes inside [] [] vs ws f k i h = h
any_passes inside [] (one ∷ ones) vs ws f k i h = absurd f
any_passes inside (l ∷ ls) [] vs ws f k i h = absurd f
any_passes inside (l ∷ ls) (one ∷ ones) vs [] f k i h = absurd h
any_passes inside (l ∷ ls) (one ∷ ones) [] (w ∷ ws) f k i h = absurd k
any_passes inside (l ∷ ls) (one ∷ ones) (v ∷ vs) (w ∷ ws) f k i (inl h) = inl (f.0.holds h.0, sym (k.0.stop i) ∙ h.1)
any_passes inside (l ∷ ls) (one ∷ ones) (v ∷ vs) (w ∷ ws) f k i (inr h) = inr (any_passes inside ls ones vs ws f.1 k.1 i h)

none_passes : (ls : List Looplet) (vs : List View) → NoneHolds ls → AnyPasses ls vs → ⊥
none_passes [] vs n h = h
none_passes (l ∷ ls) [] n h = h
none_passes (l ∷ ls) (v ∷ vs) n (inl h) = n.0 h.0
none_passes (l ∷ ls) (v ∷ vs) n (inr h) = none_passes ls vs n.1 h

none_simple : (ls : List Looplet) → NoneHolds ls → AllSimplyJump ls
none_simple [] n = tt
none_simple (l ∷ ls) n = (none_jumps l n.0, none_simple ls n.1)

-- ---- nests

-- one without jumpers has the condition
pub jumpless : {S : Type 0} (sense : Sense S) (ts : Store) (ls : List ℤ) (n : Nest S) → NoneHolds n.reads → Jumps sense ts ls n
jumpless sense ts ls n none = record {
  simple = none_simple n.reads none;
  silent = λ i p. absurd (none_passes n.reads (views_of ts ls n i) none p.by);
  flagless = λ i p. absurd (none_passes n.reads (views_of ts ls n i) none p.by);
}

-- One with the same body, whose looplets come from another's and show the same in a region whose coordinates are its own,
-- has it where that one does.
module _ {S : Type 0} (sense : Sense S) (ts : Store) (ls now : List ℤ) (n q : Nest S) (a c : ℤ) (body : q.body ≡ n.body) (shows : Shows ts ls now n q a c) (from : AllFrom n.reads q.reads)
    (within : (i : ℤ) → a ≤ℤ i → (i +ℤ pos 1) <ℤ c → (value ts ls n.lo ≤ℤ i) × ((i +ℤ pos 1) <ℤ value ts ls n.hi)) (jumps : Jumps sense ts ls n) where
  sees : (i : ℤ) → a ≤ℤ i → i <ℤ c → (b : Bool) (s : S) → q.body (seens (views_of ts now q i)) b i s ≡ n.body (seens (views_of ts ls n i)) b i s
  sees i over under b s =
      ap (λ (w : Body S). w (seens (views_of ts now q i)) b i s) body
      ∙ ap (λ ss. n.body ss b i s) (like_seens ((i +ℤ pos 1) <ℤ c) (views_of ts now q i) (views_of ts ls n i) (shows.like i over under))

  module _ (i : ℤ) (p : Passes ts now q i) where
    over : a ≤ℤ i
    over = subst (λ z. z ≤ℤ i) shows.lo p.from

    next : (i +ℤ pos 1) <ℤ c
    next = subst (λ z. (i +ℤ pos 1) <ℤ z) shows.hi p.inside

    under : i <ℤ c
    under = below_in i c (omega (arith, lt_out (i +ℤ pos 1) c next, sum_is_lem i (pos 1)))

    passes : Passes ts ls n i
    passes = record {
      from = (within i over next).0;
      inside = (within i over next).1;
      by = any_passes ((i +ℤ pos 1) <ℤ c) n.reads q.reads (views_of ts ls n i) (views_of ts now q i) from (shows.like i over under) next p.by;
    }

    silent : Silent sense ts now q i
    silent b s m h = subst (λ z. sense.stands z m) (sym (sees i over under b s)) (jumps.silent i passes b s m h)

    flagless : any_ends (views_of ts now q i) ≡ false → (s : S)
        → q.body (seens (views_of ts now q (i +ℤ pos 1))) false (i +ℤ pos 1) s ≡ q.body (seens (views_of ts now q (i +ℤ pos 1))) true (i +ℤ pos 1) s
    flagless e s =
        let j = i +ℤ pos 1 in
        let above : a ≤ℤ (i +ℤ pos 1) = at_most_in a (i +ℤ pos 1) (omega (arith, le_out a i over, sum_is_lem i (pos 1))) in
        let ends = sym (like_ends ((i +ℤ pos 1) <ℤ c) (views_of ts now q i) (views_of ts ls n i) next (shows.like i over under)) ∙ e in
        sees j above next false s ∙ jumps.flagless i passes ends s ∙ sym (sees j above next true s)

  pub jumps_within : Jumps sense ts now q
  jumps_within = record { simple = all_simple n.reads q.reads from jumps.simple; silent = silent; flagless = flagless }

-- and so does one whose region is inside
pub jumps_on : {S : Type 0} (sense : Sense S) (ts : Store) (ls now : List ℤ) (n q : Nest S) (a c : ℤ) → q.body ≡ n.body → Shows ts ls now n q a c → AllFrom n.reads q.reads
    → value ts ls n.lo ≤ℤ a → c ≤ℤ value ts ls n.hi → Jumps sense ts ls n → Jumps sense ts now q
jumps_on sense ts ls now n q a c body shows from low top jumps =
    jumps_within sense ts ls now n q a c body shows from
    (λ i over next. (
      at_most_in (value ts ls n.lo) i (omega (arith, le_out (value ts ls n.lo) a low, le_out a i over)),
      below_in (i +ℤ pos 1) (value ts ls n.hi) (omega (arith, lt_out (i +ℤ pos 1) c next, le_out c (value ts ls n.hi) top)),
    )) jumps

-- where only the looplets differ
pub jumps_reshaped : {S : Type 0} (sense : Sense S) (ts : Store) (ls : List ℤ) (n : Nest S) (rs : List Looplet) → AllFrom n.reads rs
    → ((i : ℤ) → value ts ls n.lo ≤ℤ i → i <ℤ value ts ls n.hi → AllLike ((i +ℤ pos 1) <ℤ value ts ls n.hi) (views_of ts ls (record n { reads = rs }) i) (views_of ts ls n i))
    → Jumps sense ts ls n → Jumps sense ts ls (record n { reads = rs })
jumps_reshaped sense ts ls n rs from like jumps =
    let Lo = value ts ls n.lo in
    let Hi = value ts ls n.hi in
    jumps_on sense ts ls ls n (record n { reads = rs }) (value ts ls n.lo) (value ts ls n.hi) refl (record { lo = refl; hi = refl; like = like }) from
    (at_most_in Lo Lo (omega arith)) (at_most_in Hi Hi (omega arith)) jumps
