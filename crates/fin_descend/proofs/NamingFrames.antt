-- The frame of a nest that is named in a layout is named in it, where that has the locals of the step, and so are the parts.
use Rattle.std.proofs.Common.{◌≡◌, ℕ, ◌+◌, ◌≤◌, ◌^◌, Bool, true, false, List, [], ◌∷◌, ◌++◌, map, Option, Some, None, refl, if◌then◌else◌, ℤ, pos, arith}
use Rattle.std.specs.Prelude.{not}
use Rattle.std.specs.Int.{int_min, int_max}
use Rattle.std.specs.List.{All}
use Rattle.std.proofs.lemmas.List.Elements.{All-cons, All-map}
use Rattle.fin_base.specs.declared.terms.Op.TheVariants as op
use Rattle.fin_ir.specs.declared.expression.IExpr.{IExpr}
use Rattle.fin_ir.specs.declared.expression.IExpr.TheVariants.{Num, Local, Two}
use Rattle.fin_ir.specs.declared.code.Code.{Code}
use Rattle.fin_ir.specs.declared.code.Code.TheVariants.{Skip, Assign, When}
use Rattle.fin_ir.specs.declared.layout.Layout.{Layout}
use Rattle.fin_ir.specs.Named.{is_named}
use Rattle.fin_looplet.specs.declared.looplet.Walker.{Walker}
use Rattle.fin_looplet.specs.declared.looplet.Looplet.{Looplet}
use Rattle.fin_looplet.specs.declared.looplet.Looplet.TheVariants.{Run, Spike, Lookup, Sequence', Stepper', Jumper', Switch', Shift'}
use Rattle.fin_looplet.specs.Cut.{before, cut}
use Rattle.fin_nest.specs.declared.entries.Numbered.{Numbered}
use Rattle.fin_nest.specs.Entries.{looplets}
use Rattle.fin_nest.specs.Styles as style
use Rattle.fin_style_point.specs.declared.nest.Nest.{Nest}
use Rattle.fin_style_point.specs.declared.nest.Parts as at_points
use Rattle.fin_style_point.specs.declared.nest.Branch.{Branch}
use Rattle.fin_style_point.specs.declared.nest.Branch.TheVariants.{Taken, Others}
use Rattle.fin_style_point.specs.Steps as point
use Rattle.fin_style_point.specs.Parts as points
use Rattle.fin_style_step.specs.declared.nest.Nest as stepping
use Rattle.fin_style_step.specs.declared.nest.Parts as along
use Rattle.fin_style_step.specs.declared.nest.Kind.{Kind}
use Rattle.fin_style_step.specs.declared.nest.Kind.TheVariants as kind
use Rattle.fin_style_step.specs.Limited.{limits_of, of_any, capped, raised, end_before, begin_behind}
use Rattle.fin_style_step.specs.Steps as step
use Rattle.fin_style_step.specs.Parts as steps
use Rattle.fin_descend.specs.Parts.{as_stepping, as_point}
use Rattle.fin_descend.specs.Naming.{HasLocal, NamedIn, EachNamed, NamedNest, PartsAreNamed}
use Rattle.fin_descend.proofs.Loops.{one, two, by_if, one_along}
use Rattle.fin_descend.proofs.Naming.{local_below, local_before, named_num, named_local, named_two, AreNamed, named_skip, named_seq, named_assign, named_when, named_for, named_steps, more_named, append_named}
use Rattle.fin_descend.proofs.NamingLooplets.{named_plus, named_before, cut_named, unshifted_named, held_named, inside_named, tests_named, stops_named, AllWalk, walkers_named, mapped_named, here_all_named, others_all_named, choose_named}

-- ---- codes

module _ (layout : Layout) where
  either_named : (x : ℕ) (test : IExpr) → HasLocal layout x → NamedIn layout test → is_named layout (point.either_code x test Skip Skip) ≡ true
  either_named x test has h =
      let first : Code = Assign x test in
      let taken : Code = When (Local x) Skip in
      let others : Code = When (Two op.Eq (Local x) (Num (pos 0))) Skip in
      let there = named_local layout x has in
      let skip = named_skip layout in
      let last = named_when layout (Two op.Eq (Local x) (Num (pos 0))) Skip (named_two layout op.Eq (Local x) (Num (pos 0)) there (named_num layout (pos 0))) skip in
      named_seq layout (first ∷ taken ∷ others ∷ []) (more_named layout first (taken ∷ others ∷ []) (named_assign layout x test has h)
      (more_named layout taken (others ∷ []) (named_when layout (Local x) Skip there skip) (more_named layout others [] last refl)))

  divided_named : (x : ℕ) (lo hi stop : IExpr) → HasLocal layout x → NamedIn layout lo → NamedIn layout hi → NamedIn layout stop
      → is_named layout (step.divided_code x lo hi stop Skip Skip) ≡ true
  divided_named x lo hi stop has h k i =
      let first : Code = Assign x (step.divide_at lo hi stop) in
      let skip = named_skip layout in
      named_seq layout (first ∷ Skip ∷ Skip ∷ []) (more_named layout first (Skip ∷ Skip ∷ [])
      (named_assign layout x (step.divide_at lo hi stop) has (named_two layout op.Max lo (Two op.Min stop hi) h (named_two layout op.Min stop hi i k)))
      (more_named layout Skip (Skip ∷ []) skip (more_named layout Skip [] skip refl)))

  holds_named : (ls : List Looplet) (at : IExpr) → NamedIn layout at → EachNamed layout ls → AreNamed layout (point.hold (point.coordinates ls) at)
  holds_named [] at k h = refl
  holds_named (Run leaf ∷ rest) at k h = holds_named rest at k h.1
  holds_named (Spike body tail ∷ rest) at k h = holds_named rest at k h.1
  holds_named (Lookup coord leaf ∷ rest) at k h =
      more_named layout (Assign coord at) (point.hold (point.coordinates rest) at) (named_assign layout coord at h.0.0 k) (holds_named rest at k h.1)
  holds_named (Sequence' n phases ∷ rest) at k h = holds_named rest at k h.1
  holds_named (Stepper' p walker ∷ rest) at k h = holds_named rest at k h.1
  holds_named (Jumper' p walker ∷ rest) at k h = holds_named rest at k h.1
  holds_named (Switch' n cases ∷ rest) at k h = holds_named rest at k h.1
  holds_named (Shift' by p child ∷ rest) at k h = holds_named rest at k h.1

  -- ---- the ends of a sequence's parts

  capped_named : (o : Option ℤ) (x : ℕ) → HasLocal layout x → NamedIn layout (capped o (Local x))
  capped_named None x has = named_local layout x has
  capped_named (Some n) x has = named_two layout op.Min (Local x) (Num (int_max n (pos 0))) (named_local layout x has) (named_num layout (int_max n (pos 0)))

  raised_named : (o : Option ℤ) (x : ℕ) → HasLocal layout x → NamedIn layout (raised o (Local x))
  raised_named None x has = named_local layout x has
  raised_named (Some n) x has =
      named_two layout op.Max (Local x) (Num (int_min n (pos (2 ^ 40)))) (named_local layout x has) (named_num layout (int_min n (pos (2 ^ 40))))

  end_named : (hi stop : IExpr) (x : ℕ) → HasLocal layout x → NamedIn layout (end_before hi stop x)
  end_named hi stop x has = capped_named (of_any int_min (limits_of hi).most (limits_of stop).most) x has

  begin_named : (lo stop : IExpr) (x : ℕ) → HasLocal layout x → NamedIn layout (begin_behind lo stop x)
  begin_named lo stop x has = raised_named (of_any int_max (limits_of lo).least (limits_of stop).least) x has

  -- ---- walkers

  both_walk : (vs ws : List Walker) → AllWalk layout vs → AllWalk layout ws → AllWalk layout (vs ++ ws)
  both_walk [] ws h k = k
  both_walk (v ∷ vs) ws h k = (h.0, both_walk vs ws h.1 k)

  placed_named : (ws : List Walker) (at : IExpr) → NamedIn layout at → AllWalk layout ws → AreNamed layout (step.place ws at)
  placed_named [] at k h = refl
  placed_named (w ∷ rest) at k h =
      more_named layout (Assign (w.cursor + 1) at) (Assign w.cursor w.seek ∷ step.place rest at) (named_assign layout (w.cursor + 1) at h.0.0 k)
      (more_named layout (Assign w.cursor w.seek) (step.place rest at)
      (named_assign layout w.cursor w.seek (local_before layout w.cursor (w.cursor + 1) (omega arith) h.0.0) h.0.1.0) (placed_named rest at k h.1))

  least_named : (ws : List Walker) (hi : IExpr) → NamedIn layout hi → AllWalk layout ws → NamedIn layout (step.least ws hi)
  least_named [] hi k h = k
  least_named (w ∷ rest) hi k h = least_named rest (Two op.Min w.stop hi) (named_two layout op.Min w.stop hi h.0.1.1.0 k) h.1

  greatest_named : (ws : List Walker) (from : IExpr) → NamedIn layout from → AllWalk layout ws → NamedIn layout (step.greatest ws from)
  greatest_named [] from k h = k
  greatest_named (w ∷ rest) from k h = greatest_named rest (Two op.Max w.stop from) (named_two layout op.Max w.stop from h.0.1.1.0 k) h.1

  module _ (ws : List Walker) (local : ℕ) (lo hi : IExpr) (walk : AllWalk layout ws) (low : NamedIn layout lo) (high : NamedIn layout hi)
      (here : HasLocal layout local) (next : HasLocal layout (local + 1)) where
    steps_named : is_named layout (step.steps_code ws local lo hi Skip) ≡ true
    steps_named =
        let turn = more_named layout Skip _ (named_skip layout) (placed_named ws (Local (local + 1)) (named_local layout (local + 1) next) walk) in
        let loop = named_steps layout local (local + 1) lo hi (step.least ws hi) _ here next low high (least_named ws hi high walk) (named_seq layout _ turn) in
        named_seq layout _ (append_named layout (step.place ws lo) _ (placed_named ws lo low walk) (more_named layout _ [] loop refl))

    jumps_named : HasLocal layout (local + 2) → is_named layout (step.jumps_code ws local lo hi Skip) ≡ true
    jumps_named third =
        let until = named_local layout (local + 1) next in
        let last = named_local layout (local + 2) third in
        let tail = append_named layout (step.place ws (Local (local + 2))) _ (placed_named ws (Local (local + 2)) last walk)
        (more_named layout Skip _ (named_skip layout) (placed_named ws (Local (local + 1)) until walk)) in
        let turn = more_named layout _ _ (named_assign layout (local + 2) (before (Local (local + 1))) third (named_before layout (Local (local + 1)) until)) tail in
        let from = step.greatest ws (Num (pos 0)) in
        let loop = named_steps layout local (local + 1) lo hi from _ here next low high (greatest_named ws (Num (pos 0)) (named_num layout (pos 0)) walk) (named_seq layout _ turn) in
        named_seq layout _ (append_named layout (step.place ws lo) _ (placed_named ws lo low walk) (more_named layout _ [] loop refl))

-- ---- nests

module _ (layout : Layout) (n : Nest) (named : NamedNest layout n) where
  abbrev Is : Nest → Type 0
  Is = NamedNest layout

  test_named : NamedIn layout (points.nest_test n)
  test_named =
      by_if (NamedIn layout) (style.has style.switch (looplets n.reads)) _ _ (tests_named layout (looplets n.reads) named.reads)
      (tests_named layout (looplets n.masks) named.masks)

  -- ---- point by point

  module _ (room : n.next + 1 ≤ layout.locals) where
    local : HasLocal layout n.next
    local = local_below layout n.next (omega (arith, room))

    here : NamedIn layout (Local n.next)
    here = named_local layout n.next local

    abbrev PointsNamed : at_points.Parts → Type 0
    PointsNamed p = (is_named layout p.frame ≡ true) × All Is p.nests

    shift_named : PointsNamed (points.one_part Skip (points.shift_part n))
    shift_named = (
      named_skip layout,
      one Is (points.shift_part n) record {
        var = named.var;
        lo = named.lo;
        hi = named.hi;
        reads = mapped_named layout point.unshifted (unshifted_named layout) n.reads named.reads;
        masks = mapped_named layout point.unshifted (unshifted_named layout) n.masks named.masks;
      },
    )

    spike_named : PointsNamed (points.one_part Skip (points.spike_part n))
    spike_named = (
      named_skip layout,
      one Is (points.spike_part n) record {
        var = named.var;
        lo = named.lo;
        hi = named.hi;
        reads = mapped_named layout (cut n.hi) (cut_named layout n.hi named.hi) n.reads named.reads;
        masks = mapped_named layout (cut n.hi) (cut_named layout n.hi named.hi) n.masks named.masks;
      },
    )

    side_named : (b : Branch) → Is (points.switch_part b n)
    side_named b = record {
      var = named.var;
      lo = named.lo;
      hi = named.hi;
      reads = choose_named layout b true n.reads named.reads;
      masks = choose_named layout b (not (style.has style.switch (looplets n.reads))) n.masks named.masks;
    }

    switch_named : PointsNamed (points.switch_parts n)
    switch_named = (
      either_named layout n.next (points.nest_test n) local test_named,
      two Is (points.switch_part Taken n) (points.switch_part Others n) (side_named Taken) (side_named Others),
    )

    turn_named : is_named layout (points.turn_frame n) ≡ true
    turn_named =
        let at = Local n.next in
        named_seq layout _ (append_named layout (point.hold (point.coordinates (looplets n.reads)) at) _ (holds_named layout (looplets n.reads) at here named.reads)
        (append_named layout (point.hold (point.coordinates (looplets n.masks)) at) (Skip ∷ []) (holds_named layout (looplets n.masks) at here named.masks)
        (more_named layout Skip [] (named_skip layout) refl)))

    loop_named : PointsNamed (points.one_part (points.loop_frame n) (points.point_part n))
    loop_named = (
      named_for layout n.next n.lo n.hi (points.turn_frame n) local named.lo named.hi turn_named,
      one Is (points.point_part n) record {
        var = named.var;
        lo = here;
        hi = named_plus layout (Local n.next) (Num (pos 1)) here (named_num layout (pos 1));
        reads = mapped_named layout point.held (held_named layout) n.reads named.reads;
        masks = mapped_named layout point.held (held_named layout) n.masks named.masks;
      },
    )

    by_points : PointsNamed (points.parts_of n)
    by_points =
        by_if PointsNamed (points.nest_has style.shift n) _ _ shift_named
        (by_if PointsNamed (points.nest_has style.switch n) _ _ switch_named (by_if PointsNamed (points.nest_has style.spike n) _ _ spike_named loop_named))

  -- ---- along a region

  abbrev m : stepping.Nest
  m = as_stepping n

  abbrev Along : stepping.Nest → Type 0
  Along q = Is (as_point q)

  abbrev StepsNamed : along.Parts → Type 0
  StepsNamed p = (is_named layout p.frame ≡ true) × All Along p.nests

  all_walk : (k : Kind) → AllWalk layout (steps.nest_walkers k m)
  all_walk k =
      both_walk layout (step.walkers (steps.kind_of k) (looplets n.reads)) (step.walkers (steps.kind_of k) (looplets n.masks))
      (walkers_named layout k (looplets n.reads) named.reads) (walkers_named layout k (looplets n.masks) named.masks)

  stop_named : NamedIn layout (steps.nest_stop m)
  stop_named =
      by_if (NamedIn layout) (style.has style.sequence (looplets n.reads)) _ _ (stops_named layout (looplets n.reads) named.reads)
      (stops_named layout (looplets n.masks) named.masks)

  inside_all : (k : Kind) (es : List Numbered) → EachNamed layout (looplets es) → EachNamed layout (looplets (steps.inside_all k n.hi es))
  inside_all k es h = mapped_named layout (steps.inside_one k n.hi) (inside_named layout k n.hi named.hi) es h

  module _ (room : n.next + 3 ≤ layout.locals) where
    first : HasLocal layout n.next
    first = local_below layout n.next (omega (arith, room))

    second : HasLocal layout (n.next + 1)
    second = local_below layout (n.next + 1) (omega (arith, room))

    third : HasLocal layout (n.next + 2)
    third = local_below layout (n.next + 2) (omega (arith, room))

    here_part : Along (steps.here_part m)
    here_part = record {
      var = named.var;
      lo = named.lo;
      hi = end_named layout n.hi (steps.nest_stop m) n.next first;
      reads = here_all_named layout n.hi named.hi true n.reads named.reads;
      masks = here_all_named layout n.hi named.hi (steps.masks_wait m) n.masks named.masks;
    }

    others_part : Along (steps.others_part m)
    others_part = record {
      var = named.var;
      lo = begin_named layout n.lo (steps.nest_stop m) n.next first;
      hi = named.hi;
      reads = others_all_named layout true n.reads named.reads;
      masks = others_all_named layout (steps.masks_wait m) n.masks named.masks;
    }

    sequence_named : StepsNamed (steps.sequence_parts m)
    sequence_named = (
      divided_named layout n.next n.lo n.hi (steps.nest_stop m) first named.lo named.hi stop_named,
      All-cons Along (steps.here_part m) (steps.others_part m ∷ []) here_part (one_along Along (steps.others_part m) others_part),
    )

    stepper_named : StepsNamed (steps.one_part (steps.stepper_frame m) (steps.stepper_part m))
    stepper_named = (
      steps_named layout (steps.nest_walkers kind.Stepper m) n.next n.lo n.hi (all_walk kind.Stepper) named.lo named.hi first second,
      one_along Along (steps.stepper_part m) record {
        var = named.var;
        lo = named_local layout n.next first;
        hi = named_local layout (n.next + 1) second;
        reads = inside_all kind.Stepper n.reads named.reads;
        masks = inside_all kind.Stepper n.masks named.masks;
      },
    )

    jumper_named : StepsNamed (steps.one_part (steps.jumper_frame m) (steps.jumper_part m))
    jumper_named =
        let last = named_local layout (n.next + 2) third in (
          jumps_named layout (steps.nest_walkers kind.Jumper m) n.next n.lo n.hi (all_walk kind.Jumper) named.lo named.hi first second third,
          one_along Along (steps.jumper_part m) record {
            var = named.var;
            lo = last;
            hi = named_plus layout (Local (n.next + 2)) (Num (pos 1)) last (named_num layout (pos 1));
            reads = inside_all kind.Jumper n.reads named.reads;
            masks = inside_all kind.Jumper n.masks named.masks;
          },
        )

    by_steps : StepsNamed (steps.parts_of m)
    by_steps =
        by_if StepsNamed (steps.nest_has style.sequence m) _ _ sequence_named (by_if StepsNamed (steps.nest_has style.jumper m) _ _ jumper_named stepper_named)

  -- ---- by the style

  chosen : (b : Bool) → (if b then n.next + 1 else n.next + 3) ≤ layout.locals
      → (is_named layout (if b then (points.parts_of n).frame else (steps.parts_of m).frame) ≡ true)
      × All Is (if b then (points.parts_of n).nests else map as_point (steps.parts_of m).nests)
  chosen true room = by_points room
  chosen false room = let parts = by_steps room in (parts.0, All-map Is as_point (steps.parts_of m).nests parts.1)

pub parts_are_named : PartsAreNamed
parts_are_named layout n room named = chosen layout n named (style.is_point_style (style.style_of (points.all_looplets n))) room
