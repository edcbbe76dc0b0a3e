-- Parts of nests whose leaves have lasting properties have such leaves; and properties that last.
use Rattle.std.proofs.Common.{◌≡◌, inl, inr, ℕ, List, [], ◌∷◌, true, refl, ap, ◌∙◌, ℤ, pos, rules}
use Rattle.std.specs.Prelude.{not}
use Rattle.std.specs.List.{All}
use Rattle.std.proofs.lemmas.List.Elements.{All-cons, All-map}
use Rattle.fin_base.specs.Words.{IsWord}
use Rattle.fin_ir.specs.declared.expression.IExpr.{IExpr}
use Rattle.fin_ir.specs.declared.expression.IExpr.TheVariants.{Num, rolls-Num}
use Rattle.fin_ir.proofs.Nodes.{of_num}
use Rattle.fin_looplet.specs.declared.looplet.Leaf.{Leaf}
use Rattle.fin_looplet.specs.declared.looplet.Leaf.TheVariants.{Fill, Value, Sub}
use Rattle.fin_looplet.specs.declared.looplet.Looplet.TheVariants.{Run, Spike, Lookup, Sequence', Stepper', Jumper', Switch', Shift'}
use Rattle.fin_looplet.specs.Cut.{cut}
use Rattle.fin_looplet.specs.Moved.{put, put_step, put_leaf, lowered}
use Rattle.fin_nest.specs.Entries.{looplets}
use Rattle.fin_nest.specs.Styles as style
use Rattle.fin_style_point.specs.declared.nest.Nest.{Nest}
use Rattle.fin_style_point.specs.declared.nest.Parts as at_points
use Rattle.fin_style_point.specs.declared.nest.Branch.{Branch}
use Rattle.fin_style_point.specs.declared.nest.Branch.TheVariants.{Taken, Others}
use Rattle.fin_style_point.specs.Steps as point
use Rattle.fin_style_point.specs.Parts as points
use Rattle.fin_style_step.specs.declared.nest.Nest as stepping
use Rattle.fin_style_step.specs.declared.nest.Parts as along
use Rattle.fin_style_step.specs.declared.nest.Kind.{Kind}
use Rattle.fin_style_step.specs.declared.nest.Kind.TheVariants as kind
use Rattle.fin_style_step.specs.Parts as steps
use Rattle.fin_descend.specs.Parts.{as_stepping, as_point}
use Rattle.fin_descend.specs.Leaves.{EachAllLeaves, Never, Lasting, HasLeaves, PartsKeepLeaves, RunsKeepLeaves, FlatAreRuns, LeafWorded, IsNumberOrGap}
use Rattle.fin_descend.proofs.Leaves.{Kept, of_reads, of_masks, cut_leaves, unshifted_leaves, held_leaves, inside_leaves, mapped_leaves, here_all_leaves, others_all_leaves, choose_leaves}
use Rattle.fin_descend.proofs.Loops.{one, two, by_if, one_along}

module _ (P Q : Leaf → Type 0) (p : Kept P P) (q : Kept Q Never) where
  -- ---- point by point

  module _ (n : Nest) (h : HasLeaves P Q n) where
    shifted : HasLeaves P Q (points.shift_part n)
    shifted = record {
      reads = mapped_leaves P P p point.unshifted (unshifted_leaves P P p) n.reads h.reads;
      masks = mapped_leaves Q Never q point.unshifted (unshifted_leaves Q Never q) n.masks h.masks;
    }

    chosen : (b : Branch) → HasLeaves P Q (points.switch_part b n)
    chosen b = record {
      reads = choose_leaves P P p b true n.reads h.reads;
      masks = choose_leaves Q Never q b (not (style.has style.switch (looplets n.reads))) n.masks h.masks;
    }

    two_runs : HasLeaves P Q (points.spike_part n)
    two_runs = record {
      reads = mapped_leaves P P p (cut n.hi) (cut_leaves P P p n.hi) n.reads h.reads;
      masks = mapped_leaves Q Never q (cut n.hi) (cut_leaves Q Never q n.hi) n.masks h.masks;
    }

    held : HasLeaves P Q (points.point_part n)
    held = record {
      reads = mapped_leaves P P p point.held (held_leaves P P p) n.reads h.reads;
      masks = mapped_leaves Q Never q point.held (held_leaves Q Never q) n.masks h.masks;
    }

    abbrev AllHave : at_points.Parts → Type 0
    AllHave parts = All (HasLeaves P Q) parts.nests

    points_have : AllHave (points.parts_of n)
    points_have =
        by_if AllHave (points.nest_has style.shift n) _ _ (one (HasLeaves P Q) (points.shift_part n) shifted)
        (by_if AllHave (points.nest_has style.switch n) _ _ (two (HasLeaves P Q) (points.switch_part Taken n) (points.switch_part Others n) (chosen Taken) (chosen Others))
        (by_if AllHave (points.nest_has style.spike n) _ _ (one (HasLeaves P Q) (points.spike_part n) two_runs) (one (HasLeaves P Q) (points.point_part n) held)))

  -- ---- along a region

  abbrev Along : stepping.Nest → Type 0
  Along n = HasLeaves P Q (as_point n)

  module _ (n : stepping.Nest) (h : Along n) where
    here : Along (steps.here_part n)
    here = record {
      reads = here_all_leaves P P p n.hi true n.reads h.reads;
      masks = here_all_leaves Q Never q n.hi (steps.masks_wait n) n.masks h.masks;
    }

    others : Along (steps.others_part n)
    others = record {
      reads = others_all_leaves P P p true n.reads h.reads;
      masks = others_all_leaves Q Never q (steps.masks_wait n) n.masks h.masks;
    }

    inside : (k : Kind) → EachAllLeaves P P (looplets (steps.inside_all k n.hi n.reads)) × EachAllLeaves Q Never (looplets (steps.inside_all k n.hi n.masks))
    inside k = (
      mapped_leaves P P p (steps.inside_one k n.hi) (inside_leaves P P p k n.hi) n.reads h.reads,
      mapped_leaves Q Never q (steps.inside_one k n.hi) (inside_leaves Q Never q k n.hi) n.masks h.masks,
    )

    abbrev AllAlong : along.Parts → Type 0
    AllAlong parts = All Along parts.nests

    steps_have : AllAlong (steps.parts_of n)
    steps_have =
        by_if AllAlong (steps.nest_has style.sequence n) _ _ (All-cons Along (steps.here_part n) (steps.others_part n ∷ []) here (one_along Along (steps.others_part n) others))
        (by_if AllAlong (steps.nest_has style.jumper n) _ _
        (one_along Along (steps.jumper_part n) (record { reads = (inside kind.Jumper).0; masks = (inside kind.Jumper).1 }))
        (one_along Along (steps.stepper_part n) (record { reads = (inside kind.Stepper).0; masks = (inside kind.Stepper).1 })))

pub parts_keep_leaves : (P Q : Leaf → Type 0) → PartsKeepLeaves P Q
parts_keep_leaves P Q p gap n h =
    let reads = of_reads P p in
    let masks = of_masks Q gap in
    by_if (λ (ns : List Nest). All (HasLeaves P Q) ns) (style.is_point_style (style.style_of (points.all_looplets n))) _ _ (points_have P Q reads masks n h)
    (All-map (HasLeaves P Q) as_point (steps.parts_of (as_stepping n)).nests (steps_have P Q reads masks (as_stepping n) (record { reads = h.reads; masks = h.masks })))

-- ---- runs

pub runs_keep_leaves : (P : Leaf → Type 0) → RunsKeepLeaves P
runs_keep_leaves P [] e h = tt
runs_keep_leaves P (Run leaf ∷ rest) e h = ((leaf, refl, h.0), runs_keep_leaves P rest e h.1)
runs_keep_leaves P (Spike body tail ∷ rest) e h = absurd (cc)
runs_keep_leaves P (Lookup coord leaf ∷ rest) e h = absurd (cc)
runs_keep_leaves P (Sequence' n phases ∷ rest) e h = absurd (cc)
runs_keep_leaves P (Stepper' k walker ∷ rest) e h = absurd (cc)
runs_keep_leaves P (Jumper' k walker ∷ rest) e h = absurd (cc)
runs_keep_leaves P (Switch' n cases ∷ rest) e h = absurd (cc)
runs_keep_leaves P (Shift' by k child ∷ rest) e h = absurd (cc)

pub flat_are_runs : (P : Leaf → Type 0) → FlatAreRuns P
flat_are_runs P [] flat h = tt
flat_are_runs P (Run leaf ∷ rest) flat h = ((leaf, refl, h.0), flat_are_runs P rest flat.1 h.1)
flat_are_runs P (Spike body tail ∷ rest) (is, flat) h = absurd (cc)
flat_are_runs P (Lookup coord leaf ∷ rest) flat h = absurd h.0
flat_are_runs P (Sequence' n phases ∷ rest) (is, flat) h = absurd (cc)
flat_are_runs P (Stepper' k walker ∷ rest) (is, flat) h = absurd (cc)
flat_are_runs P (Jumper' k walker ∷ rest) (is, flat) h = absurd (cc)
flat_are_runs P (Switch' n cases ∷ rest) (is, flat) h = absurd (cc)
flat_are_runs P (Shift' by k child ∷ rest) (is, flat) h = absurd (cc)

-- ---- properties that last

word_stays : (coord : ℕ) (by : IExpr) (leaf : Leaf) → LeafWorded leaf → LeafWorded (put_leaf coord (lowered coord by) leaf)
word_stays coord by (Fill f) h = h
word_stays coord by (Value e) h = tt
word_stays coord by (Sub tensor level place there) h = tt

zero_word : IsWord (pos 0)
zero_word = search rules

pub words_last : Lasting LeafWorded
words_last = record { moved = word_stays; nothing = zero_word }

put_num : (x : ℕ) (e : IExpr) (z : ℤ) → put x e (Num z) ≡ Num z
put_num x e z = of_num IExpr (put_step x e) z ∙ rolls-Num z

number_stays : (coord : ℕ) (by : IExpr) (leaf : Leaf) → IsNumberOrGap leaf → IsNumberOrGap (put_leaf coord (lowered coord by) leaf)
number_stays coord by leaf (inl h) =
    inl (h.0, ap (put_leaf coord (lowered coord by)) h.1 ∙ ap (λ (e : IExpr). Value e) (put_num coord (lowered coord by) h.0))
number_stays coord by leaf (inr h) = inr (ap (put_leaf coord (lowered coord by)) h)

pub numbers_last : Lasting IsNumberOrGap
numbers_last = record { moved = number_stays; nothing = inr refl }
