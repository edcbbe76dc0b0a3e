-- Looplets that are named in a layout stay so where they are cut, moved or divided, and so do what steps find in them.
use Rattle.std.proofs.Common.{ℕ, ◌+◌, List, [], ◌∷◌, map, Bool, true, false, Option, Some, None, pos, negsuc}
use Rattle.std.specs.Prelude.{◌^◌, not, ◌&&◌}
use denote.Hole.Carrier.{hidden}
use Rattle.fin_base.specs.declared.terms.Op.TheVariants as op
use Rattle.fin_ir.specs.declared.expression.IExpr.{IExpr}
use Rattle.fin_ir.specs.declared.expression.IExpr.TheVariants.{Num, Local}
use Rattle.fin_ir.specs.declared.layout.Layout.{Layout}
use Rattle.fin_looplet.specs.declared.looplet.Leaf.{Leaf}
use Rattle.fin_looplet.specs.declared.looplet.Leaf.TheVariants.{Fill, Value, Sub}
use Rattle.fin_looplet.specs.declared.looplet.Phase.{Phase}
use Rattle.fin_looplet.specs.declared.looplet.Case.{Case}
use Rattle.fin_looplet.specs.declared.looplet.Walker.{Walker}
use Rattle.fin_looplet.specs.declared.looplet.Looplet.{Looplet, Row_of-Phase, end_of-Phase, more_of-Phase, Row_of-Walker, end_of-Walker, more_of-Walker, Row_of-Case, end_of-Case, more_of-Case, end_of-Looplet, more_of-Looplet}
use Rattle.fin_looplet.specs.declared.looplet.Looplet.TheVariants.{Run, Spike, Lookup, Sequence, Sequence', Stepper', Jumper', Switch, Switch', Shift, Shift'}
use Rattle.fin_looplet.specs.declared.looplet.Looplet.TheBlock.{shape-the_row-Phase-0, hidden-the_row-Phase-0, shape-the_row-Case-2, hidden-the_row-Case-2, shape-the_row-Looplet-3, hidden-the_row-Looplet-3}
use Rattle.fin_looplet.specs.Cut.{plus, minus, before, cap, cut, cut_cases}
use Rattle.fin_looplet.specs.Moved.{clip, put_leaf, lowered, raised, moved, moved_phases, moved_walker, moved_cases}
use Rattle.fin_looplet.specs.Lists.{phase_list, case_list}
use Rattle.fin_nest.specs.declared.entries.Numbered.{Numbered}
use Rattle.fin_nest.specs.Entries.{looplets, with_looplet}
use Rattle.fin_style_point.specs.declared.nest.Branch.{Branch}
use Rattle.fin_style_point.specs.declared.nest.Branch.TheVariants.{Taken, Others}
use Rattle.fin_style_point.specs.Steps as point
use Rattle.fin_style_point.specs.Parts as points
use Rattle.fin_style_point.proofs.Cases.{switch_is}
use Rattle.fin_style_step.specs.declared.nest.Kind.{Kind}
use Rattle.fin_style_step.specs.declared.nest.Kind.TheVariants as kind
use Rattle.fin_style_step.specs.Steps as step
use Rattle.fin_style_step.specs.Parts as steps
use Rattle.fin_descend.specs.Naming.{HasLocal, NamedIn, LeafNamed, LoopletNamed, PhasesNamed, WalkerNamed, CasesNamed, EachNamed}
use Rattle.fin_descend.proofs.Loops.{by_if}
use Rattle.fin_descend.proofs.Naming.{named_num, named_local, named_two, put_named}

module _ (layout : Layout) where
  abbrev In : IExpr → Type 0
  In = NamedIn layout

  abbrev Named : Looplet → Type 0
  Named = LoopletNamed layout

  -- ---- expressions that steps build

  pub named_plus : (a b : IExpr) → In a → In b → In (plus a b)
  named_plus a b h k = named_two layout op.Add a b h k

  named_minus : (a b : IExpr) → In a → In b → In (minus a b)
  named_minus a b h k = named_two layout op.Sub a b h k

  pub named_before : (e : IExpr) → In e → In (before e)
  named_before e h = named_plus e (Num (negsuc 0)) h (named_num layout (negsuc 0))

  named_cap : (e : IExpr) → In e → In (cap e)
  named_cap e h = named_two layout op.Min e (Num (pos (2 ^ 43))) h (named_num layout (pos (2 ^ 43)))

  named_raised : (by stop : IExpr) → In by → In stop → In (raised by stop)
  named_raised by stop h k =
      named_plus (clip stop) by (named_two layout op.Max (cap stop) (Num (negsuc (2 ^ 43))) (named_cap stop k) (named_num layout (negsuc (2 ^ 43)))) h

  named_lowered : (x : ℕ) (by : IExpr) → HasLocal layout x → In by → In (lowered x by)
  named_lowered x by has h = named_minus (Local x) by (named_local layout x has) h

  named_leaf : (x : ℕ) (e : IExpr) (leaf : Leaf) → In e → LeafNamed layout leaf → LeafNamed layout (put_leaf x e leaf)
  named_leaf x e (Fill f) h k = tt
  named_leaf x e (Value v) h k = put_named layout x e h v k
  named_leaf x e (Sub tensor level place there) h k = (k.0, (put_named layout x e h place k.1.0, put_named layout x e h there k.1.1))

  -- ---- rows, as the program's constructors write them

  abbrev PhasesHave : List Phase → Type 0
  PhasesHave [] = Unit {0}
  PhasesHave (p ∷ ps) = In p.stop × (Named p.child × PhasesHave ps)

  abbrev CasesHave : List Case → Type 0
  CasesHave [] = Unit {0}
  CasesHave (c ∷ cs) = In c.test × (Named c.child × CasesHave cs)

  sequence_named : (ps : List Phase) → PhasesHave ps → Named (Sequence ps)
  unfolding shape-the_row-Phase-0 hidden-the_row-Phase-0 hidden
  sequence_named [] h = tt
  sequence_named (p ∷ ps) h = (h.0, (h.1.0, sequence_named ps h.1.1))

  switch_named : (cs : List Case) → CasesHave cs → Named (Switch cs)
  unfolding shape-the_row-Case-2 hidden-the_row-Case-2 hidden
  switch_named [] h = tt
  switch_named (c ∷ cs) h = (h.0, (h.1.0, switch_named cs h.1.1))

  shift_named : (by : IExpr) (child : Looplet) → In by → Named child → Named (Shift by child)
  unfolding shape-the_row-Looplet-3 hidden-the_row-Looplet-3 hidden
  shift_named by child h k = (h, k)

  phases_have : {n : _} (ps : Row_of-Phase n) → PhasesNamed layout ps → PhasesHave (phase_list ps)
  phases_have end_of-Phase h = tt
  phases_have (more_of-Phase stop child rest) h = (h.0, (h.1.0, phases_have rest h.1.1))

  cases_have : {n : _} (cs : Row_of-Case n) → CasesNamed layout cs → CasesHave (case_list cs)
  cases_have end_of-Case h = tt
  cases_have (more_of-Case test child rest) h = (h.0, (h.1.0, cases_have rest h.1.1))

  -- ---- cut and moved

  mutual
    pub cut_named : (e : IExpr) → In e → (l : Looplet) → Named l → Named (cut e l)
    cut_named e k (Run leaf) h = h
    cut_named e k (Spike body tail) h = let cap_named = named_cap e k in sequence_named _ (named_before (cap e) cap_named, (h.0, (cap_named, (h.1, tt))))
    cut_named e k (Lookup coord leaf) h = h
    cut_named e k (Sequence' n phases) h = h
    cut_named e k (Stepper' p walker) h = h
    cut_named e k (Jumper' p walker) h = h
    cut_named e k (Switch' n cases) h = switch_named (cut_cases e cases) (cut_cases_have e k cases h)
    cut_named e k (Shift' by p (more_of-Looplet child end_of-Looplet)) h =
        shift_named by (cut (minus (cap e) by) child) h.0 (cut_named (minus (cap e) by) (named_minus (cap e) by (named_cap e k) h.0) child h.1)

    cut_cases_have : {n : _} (e : IExpr) → In e → (cs : Row_of-Case n) → CasesNamed layout cs → CasesHave (cut_cases e cs)
    cut_cases_have e k end_of-Case h = tt
    cut_cases_have e k (more_of-Case test child rest) h = (h.0, (cut_named e k child h.1.0, cut_cases_have e k rest h.1.1))

  mutual
    moved_named : (by : IExpr) → In by → (l : Looplet) → Named l → Named (moved by l)
    moved_named by k (Run leaf) h = h
    moved_named by k (Spike body tail) h = h
    moved_named by k (Lookup coord leaf) h = (h.0, named_leaf coord (lowered coord by) leaf (named_lowered coord by h.0 k) h.1)
    moved_named by k (Sequence' n phases) h = moved_phases_named by k phases h
    moved_named by k (Stepper' p walker) h = moved_walker_named by k walker h
    moved_named by k (Jumper' p walker) h = moved_walker_named by k walker h
    moved_named by k (Switch' n cases) h = moved_cases_named by k cases h
    moved_named by k (Shift' inner p (more_of-Looplet child end_of-Looplet)) h = moved_named (plus by inner) (named_plus by inner k h.0) child h.1

    moved_phases_named : {n : _} (by : IExpr) → In by → (ps : Row_of-Phase n) → PhasesNamed layout ps → PhasesNamed layout (moved_phases by ps)
    moved_phases_named by k end_of-Phase h = tt
    moved_phases_named by k (more_of-Phase stop child rest) h = (named_raised by stop k h.0, (moved_named by k child h.1.0, moved_phases_named by k rest h.1.1))

    moved_walker_named : {n : _} (by : IExpr) → In by → (w : Row_of-Walker n) → WalkerNamed layout w → WalkerNamed layout (moved_walker by w)
    moved_walker_named by k end_of-Walker h = tt
    moved_walker_named by k (more_of-Walker cursor seek stop child rest) h = (
      h.0,
      (
        put_named layout (cursor + 1) (lowered (cursor + 1) by) (named_lowered (cursor + 1) by h.0 k) seek h.1.0,
        (named_raised by stop k h.1.1.0, moved_named by k child h.1.1.1),
      ),
    )

    moved_cases_named : {n : _} (by : IExpr) → In by → (cs : Row_of-Case n) → CasesNamed layout cs → CasesNamed layout (moved_cases by cs)
    moved_cases_named by k end_of-Case h = tt
    moved_cases_named by k (more_of-Case test child rest) h = (h.0, (moved_named by k child h.1.0, moved_cases_named by k rest h.1.1))

  -- ---- the looplets of the parts, point by point

  pub unshifted_named : (l : Looplet) → Named l → Named (point.unshifted l)
  unshifted_named (Run leaf) h = h
  unshifted_named (Spike body tail) h = h
  unshifted_named (Lookup coord leaf) h = h
  unshifted_named (Sequence' n phases) h = h
  unshifted_named (Stepper' p walker) h = h
  unshifted_named (Jumper' p walker) h = h
  unshifted_named (Switch' n cases) h = h
  unshifted_named (Shift' by p (more_of-Looplet child end_of-Looplet)) h = moved_named by h.0 child h.1

  pub held_named : (l : Looplet) → Named l → Named (point.held l)
  held_named (Run leaf) h = h
  held_named (Spike body tail) h = h
  held_named (Lookup coord leaf) h = h.1
  held_named (Sequence' n phases) h = h
  held_named (Stepper' p walker) h = h
  held_named (Jumper' p walker) h = h
  held_named (Switch' n cases) h = h
  held_named (Shift' by p child) h = h

  -- a switch by its first case, if it is one
  abbrev Either : Option point.Alternatives → Type 0
  Either None = Unit {0}
  Either (Some a) = In a.test × (Named a.taken × Named a.others)

  other_cases : (cs : List Case) → CasesHave cs → Named (point.switch_of cs)
  other_cases [] h = tt
  other_cases (c ∷ cs) h = switch_is Named c cs (λ e. h.1.0) (switch_named (c ∷ cs) h)

  first_case_named : {n : _} (cs : Row_of-Case n) → CasesNamed layout cs → Either (Some (point.first_case cs))
  first_case_named end_of-Case h = (named_num layout (pos 0), (tt, tt))
  first_case_named (more_of-Case test child rest) h = (h.0, (h.1.0, other_cases (case_list rest) (cases_have rest h.1.1)))

  alternatives_named : (l : Looplet) → Named l → Either (point.alternatives l)
  alternatives_named (Run leaf) h = tt
  alternatives_named (Spike body tail) h = tt
  alternatives_named (Lookup coord leaf) h = tt
  alternatives_named (Sequence' n phases) h = tt
  alternatives_named (Stepper' p walker) h = tt
  alternatives_named (Jumper' p walker) h = tt
  alternatives_named (Switch' n cases) h = first_case_named cases h
  alternatives_named (Shift' by p child) h = tt

  side_named : (b : Branch) (a : Option point.Alternatives) (l : Looplet) → Either a → Named l → Named (points.side_of b a l)
  side_named b None l h k = k
  side_named Taken (Some a) l h k = h.1.0
  side_named Others (Some a) l h k = h.1.1

  test_named : (a : Option point.Alternatives) (other : IExpr) → Either a → In other → In (points.test_or a other)
  test_named None other h k = k
  test_named (Some a) other h k = h.0

  -- ---- along a region

  -- a sequence by its first phase, if it is one
  abbrev Divided : Option step.Phased → Type 0
  Divided None = Unit {0}
  Divided (Some p) = In p.stop × (Named p.here × Named p.others)

  other_phases : (ps : List Phase) → PhasesHave ps → Named (step.sequence_of ps)
  other_phases [] h = tt
  other_phases (p ∷ ps) h = sequence_named (p ∷ ps) h

  first_phase_named : {n : _} (ps : Row_of-Phase n) → PhasesNamed layout ps → Divided (Some (step.first_phase ps))
  first_phase_named end_of-Phase h = (named_num layout (pos 0), (tt, tt))
  first_phase_named (more_of-Phase stop child rest) h = (h.0, (cut_named stop h.0 child h.1.0, other_phases (phase_list rest) (phases_have rest h.1.1)))

  phased_named : (l : Looplet) → Named l → Divided (step.phased l)
  phased_named (Run leaf) h = tt
  phased_named (Spike body tail) h = tt
  phased_named (Lookup coord leaf) h = tt
  phased_named (Sequence' n phases) h = first_phase_named phases h
  phased_named (Stepper' p walker) h = tt
  phased_named (Jumper' p walker) h = tt
  phased_named (Switch' n cases) h = tt
  phased_named (Shift' by p child) h = tt

  before_named : (hi : IExpr) → In hi → (o : Option step.Phased) (l : Looplet) → Divided o → Named l → Named (steps.before_stop hi o l)
  before_named hi k None l d h = cut_named hi k l h
  before_named hi k (Some p) l d h = d.1.0

  behind_named : (o : Option step.Phased) (l : Looplet) → Divided o → Named l → Named (steps.behind_stop o l)
  behind_named None l d h = h
  behind_named (Some p) l d h = d.1.1

  here_named : (hi : IExpr) → In hi → (waits : Bool) (l : Looplet) → Named l → Named (steps.here_one hi waits l)
  here_named hi k true l h = before_named hi k (step.phased l) l (phased_named l h) h
  here_named hi k false l h = cut_named hi k l h

  others_named : (waits : Bool) (l : Looplet) → Named l → Named (steps.others_one waits l)
  others_named true l h = behind_named (step.phased l) l (phased_named l h) h
  others_named false l h = h

  stop_named : (o : Option step.Phased) (later : IExpr) → Divided o → In later → In (steps.or_else (steps.stop_of o) later)
  stop_named None later d h = h
  stop_named (Some p) later d h = d.0

  -- a walker, if there is one
  abbrev Walks : Option Walker → Type 0
  Walks None = Unit {0}
  Walks (Some w) = HasLocal layout (w.cursor + 1) × (In w.seek × (In w.stop × Named w.child))

  walker_named : {n : _} (w : Row_of-Walker n) → WalkerNamed layout w → Walks (step.walker_of w)
  walker_named end_of-Walker h = tt
  walker_named (more_of-Walker cursor seek stop child rest) h = h

  stepper_named : (l : Looplet) → Named l → Walks (step.stepper l)
  stepper_named (Run leaf) h = tt
  stepper_named (Spike body tail) h = tt
  stepper_named (Lookup coord leaf) h = tt
  stepper_named (Sequence' n phases) h = tt
  stepper_named (Stepper' p walker) h = walker_named walker h
  stepper_named (Jumper' p walker) h = tt
  stepper_named (Switch' n cases) h = tt
  stepper_named (Shift' by p child) h = tt

  jumper_named : (l : Looplet) → Named l → Walks (step.jumper l)
  jumper_named (Run leaf) h = tt
  jumper_named (Spike body tail) h = tt
  jumper_named (Lookup coord leaf) h = tt
  jumper_named (Sequence' n phases) h = tt
  jumper_named (Stepper' p walker) h = tt
  jumper_named (Jumper' p walker) h = walker_named walker h
  jumper_named (Switch' n cases) h = tt
  jumper_named (Shift' by p child) h = tt

  kind_named : (k : Kind) (l : Looplet) → Named l → Walks (steps.kind_of k l)
  kind_named kind.Stepper l h = stepper_named l h
  kind_named kind.Jumper l h = jumper_named l h

  child_named : (hi : IExpr) → In hi → (w : Option Walker) (l : Looplet) → Walks w → Named l → Named (step.inside hi w l)
  child_named hi k None l s h = cut_named hi k l h
  child_named hi k (Some w) l s h = cut_named w.stop s.1.1.0 w.child s.1.1.1

  pub inside_named : (k : Kind) (hi : IExpr) → In hi → (l : Looplet) → Named l → Named (steps.inside_one k hi l)
  inside_named k hi i l h = child_named hi i (steps.kind_of k l) l (kind_named k l h) h

  -- ---- what a step finds in lists of looplets

  pub tests_named : (ls : List Looplet) → EachNamed layout ls → In (points.first_test ls)
  tests_named [] h = named_num layout (pos 0)
  tests_named (l ∷ rest) h =
      by_if In (point.is_switch l) (points.test_of l) (points.first_test rest)
      (test_named (point.alternatives l) (Num (pos 0)) (alternatives_named l h.0) (named_num layout (pos 0))) (tests_named rest h.1)

  pub stops_named : (ls : List Looplet) → EachNamed layout ls → In (steps.first_stop ls)
  stops_named [] h = named_num layout (pos 0)
  stops_named (l ∷ rest) h = stop_named (step.phased l) (steps.first_stop rest) (phased_named l h.0) (stops_named rest h.1)

  abbrev pub AllWalk : List Walker → Type 0
  AllWalk [] = Unit {0}
  AllWalk (w ∷ ws) = Walks (Some w) × AllWalk ws

  listed_walk : (w : Option Walker) (ws : List Walker) → Walks w → AllWalk ws → AllWalk (step.listed w ws)
  listed_walk None ws h k = k
  listed_walk (Some w) ws h k = (h, k)

  pub walkers_named : (k : Kind) (ls : List Looplet) → EachNamed layout ls → AllWalk (step.walkers (steps.kind_of k) ls)
  walkers_named k [] h = tt
  walkers_named k (l ∷ rest) h = listed_walk (steps.kind_of k l) (step.walkers (steps.kind_of k) rest) (kind_named k l h.0) (walkers_named k rest h.1)

  -- ---- lists

  abbrev Have : List Numbered → Type 0
  Have es = EachNamed layout (looplets es)

  pub mapped_named : (f : Looplet → Looplet) → ((l : Looplet) → Named l → Named (f l)) → (es : List Numbered) → Have es → Have (map (with_looplet f) es)
  mapped_named f keeps [] h = tt
  mapped_named f keeps (e ∷ es) h = (keeps e.looplet h.0, mapped_named f keeps es h.1)

  by_first_named : (f : Bool → Looplet → Looplet) → ((waits : Bool) (l : Looplet) → Named l → Named (f waits l)) → (waits : Bool) (es : List Numbered)
      → Have es → Have (steps.by_first f waits es)
  by_first_named f keeps waits [] h = tt
  by_first_named f keeps waits (e ∷ es) h = (keeps waits e.looplet h.0, by_first_named f keeps (waits && not (steps.is_sequence e.looplet)) es h.1)

  pub here_all_named : (hi : IExpr) → In hi → (waits : Bool) (es : List Numbered) → Have es → Have (steps.here_all hi waits es)
  here_all_named hi k waits es h = by_first_named (steps.here_one hi) (here_named hi k) waits es h

  pub others_all_named : (waits : Bool) (es : List Numbered) → Have es → Have (steps.others_all waits es)
  others_all_named waits es h = by_first_named steps.others_one others_named waits es h

  chosen_named : (b : Branch) (waits : Bool) (e : Numbered) → Named e.looplet → Named (points.chosen b waits e).looplet
  chosen_named b true e h = side_named b (point.alternatives e.looplet) e.looplet (alternatives_named e.looplet h) h
  chosen_named b false e h = h

  pub choose_named : (b : Branch) (waits : Bool) (es : List Numbered) → Have es → Have (points.choose b waits es)
  choose_named b waits [] h = tt
  choose_named b waits (e ∷ es) h = (chosen_named b waits e h.0, choose_named b (waits && not (point.is_switch e.looplet)) es h.1)
