-- Parts of a loop's nests without jumpers are nests of the loop without jumpers.
use Rattle.std.proofs.Common.{◌≡◌, List, [], ◌∷◌, ◌++◌, Bool, true, false, refl, ◌∙◌, arith}
use Rattle.std.specs.Prelude.{if◌then◌else◌, not}
use Rattle.std.specs.List.{All}
use Rattle.std.proofs.lemmas.List.Elements.{All-cons, All-map}
use Rattle.fin_looplet.specs.declared.looplet.Looplet.{Looplet}
use Rattle.fin_looplet.specs.declared.looplet.Looplet.TheVariants.{Run, Spike, Lookup, Sequence', Stepper', Jumper', Switch', Shift'}
use Rattle.fin_looplet.specs.Cut.{cut}
use Rattle.fin_nest.specs.declared.entries.Numbered.{Numbered}
use Rattle.fin_nest.specs.Entries.{looplets}
use Rattle.fin_nest.specs.Styles as style
use Rattle.fin_style_point.specs.declared.nest.Nest.{Nest}
use Rattle.fin_style_point.specs.declared.nest.Parts as at_points
use Rattle.fin_style_point.specs.declared.nest.Branch.TheVariants.{Taken, Others}
use Rattle.fin_style_point.specs.Steps as point
use Rattle.fin_style_point.specs.Parts as points
use Rattle.fin_style_point.specs.Splits.{OfNest}
use Rattle.fin_style_point.proofs.Kept.{parts_are_stepped}
use Rattle.fin_style_step.specs.declared.nest.Nest as stepping
use Rattle.fin_style_step.specs.declared.nest.Parts as along
use Rattle.fin_style_step.specs.declared.nest.Kind.TheVariants as kind
use Rattle.fin_style_step.specs.Parts as steps
use Rattle.fin_style_step.specs.Splits as step_splits
use Rattle.fin_style_step.proofs.Both.{parts_split}
use Rattle.fin_descend.specs.Parts.{as_stepping, as_point}
use Rattle.fin_descend.specs.Jumpless.{AllJumpless, OfLoop, PartsAreOfLoop, JumplessDontJump}
use Rattle.fin_descend.proofs.Jumpless.{cut_jumpless, unshifted_jumpless, held_jumpless, here_jumpless, others_jumpless, inside_jumpless, both_jumpless, first_jumpless, last_jumpless, mapped_jumpless, by_first_jumpless, choose_jumpless}

-- of two lists, each by itself
both_lists : (xs ys us vs : List Numbered) → (AllJumpless (looplets xs) → AllJumpless (looplets us)) → (AllJumpless (looplets ys) → AllJumpless (looplets vs))
    → AllJumpless (looplets xs ++ looplets ys) → AllJumpless (looplets us ++ looplets vs)
both_lists xs ys us vs f g h =
    both_jumpless (looplets us) (looplets vs) (f (first_jumpless (looplets xs) (looplets ys) h)) (g (last_jumpless (looplets xs) (looplets ys) h))

pub one : (P : Nest → Type 0) (q : Nest) → P q → All P (q ∷ [])
one P q h = All-cons P q [] h (λ k d lt. absurd (omega (arith, lt)))

pub two : (P : Nest → Type 0) (q r : Nest) → P q → P r → All P (q ∷ r ∷ [])
two P q r h k = All-cons P q (r ∷ []) h (one P r k)

pub by_if : {A : Type 0} (P : A → Type 0) (c : Bool) (x y : A) → P x → P y → P (if c then x else y)
by_if P true x y h k = h
by_if P false x y h k = k

abbrev Clear : Nest → Type 0
Clear n = AllJumpless (points.all_looplets n)

-- ---- point by point

shifted_clear : (n : Nest) → Clear n → Clear (points.shift_part n)
shifted_clear n h = both_lists n.reads n.masks _ _ (mapped_jumpless point.unshifted unshifted_jumpless n.reads) (mapped_jumpless point.unshifted unshifted_jumpless n.masks) h

cut_clear : (n : Nest) → Clear n → Clear (points.spike_part n)
cut_clear n h = both_lists n.reads n.masks _ _ (mapped_jumpless (cut n.hi) (cut_jumpless n.hi) n.reads) (mapped_jumpless (cut n.hi) (cut_jumpless n.hi) n.masks) h

held_clear : (n : Nest) → Clear n → Clear (points.point_part n)
held_clear n h = both_lists n.reads n.masks _ _ (mapped_jumpless point.held held_jumpless n.reads) (mapped_jumpless point.held held_jumpless n.masks) h

module _ (n : Nest) (h : Clear n) where
  taken_clear : Clear (points.switch_part Taken n)
  taken_clear = both_lists n.reads n.masks _ _ (choose_jumpless Taken true n.reads) (choose_jumpless Taken (not (style.has style.switch (looplets n.reads))) n.masks) h

  others_clear : Clear (points.switch_part Others n)
  others_clear = both_lists n.reads n.masks _ _ (choose_jumpless Others true n.reads) (choose_jumpless Others (not (style.has style.switch (looplets n.reads))) n.masks) h

  abbrev AllClear : at_points.Parts → Type 0
  AllClear p = All Clear p.nests

  points_clear : AllClear (points.parts_of n)
  points_clear =
      by_if AllClear (points.nest_has style.shift n) _ _ (one Clear (points.shift_part n) (shifted_clear n h))
      (by_if AllClear (points.nest_has style.switch n) _ _ (two Clear (points.switch_part Taken n) (points.switch_part Others n) taken_clear others_clear)
      (by_if AllClear (points.nest_has style.spike n) _ _ (one Clear (points.spike_part n) (cut_clear n h)) (one Clear (points.point_part n) (held_clear n h))))

-- ---- along a region

abbrev Free : stepping.Nest → Type 0
Free n = AllJumpless (steps.all_looplets n)

pub one_along : (P : stepping.Nest → Type 0) (q : stepping.Nest) → P q → All P (q ∷ [])
one_along P q h = All-cons P q [] h (λ k d lt. absurd (omega (arith, lt)))

module _ (n : stepping.Nest) (h : Free n) where
  here_free : Free (steps.here_part n)
  here_free =
      both_lists n.reads n.masks _ _ (by_first_jumpless (steps.here_one n.hi) (here_jumpless n.hi) true n.reads)
      (by_first_jumpless (steps.here_one n.hi) (here_jumpless n.hi) (steps.masks_wait n) n.masks) h

  others_free : Free (steps.others_part n)
  others_free = both_lists n.reads n.masks _ _ (by_first_jumpless steps.others_one others_jumpless true n.reads) (by_first_jumpless steps.others_one others_jumpless (steps.masks_wait n) n.masks) h

  stepper_free : Free (steps.stepper_part n)
  stepper_free =
      both_lists n.reads n.masks _ _ (mapped_jumpless (steps.inside_one kind.Stepper n.hi) (inside_jumpless kind.Stepper n.hi) n.reads)
      (mapped_jumpless (steps.inside_one kind.Stepper n.hi) (inside_jumpless kind.Stepper n.hi) n.masks) h

  jumper_free : Free (steps.jumper_part n)
  jumper_free =
      both_lists n.reads n.masks _ _ (mapped_jumpless (steps.inside_one kind.Jumper n.hi) (inside_jumpless kind.Jumper n.hi) n.reads)
      (mapped_jumpless (steps.inside_one kind.Jumper n.hi) (inside_jumpless kind.Jumper n.hi) n.masks) h

  abbrev AllFree : along.Parts → Type 0
  AllFree p = All Free p.nests

  steps_free : AllFree (steps.parts_of n)
  steps_free =
      by_if AllFree (steps.nest_has style.sequence n) _ _ (All-cons Free (steps.here_part n) (steps.others_part n ∷ []) here_free (one_along Free (steps.others_part n) others_free))
      (by_if AllFree (steps.nest_has style.jumper n) _ _ (one_along Free (steps.jumper_part n) jumper_free) (one_along Free (steps.stepper_part n) stepper_free))

-- ---- of the loop

of_loop : (top n q : Nest) → OfNest top n → OfNest n q → Clear q → OfLoop top q
of_loop top n q a b clear = record {
  of = record { body = b.body ∙ a.body; var = b.var ∙ a.var; reads = b.reads ∙ a.reads; masks = b.masks ∙ a.masks; next = omega (arith, a.next, b.next) };
  jumpless = clear;
}

as_points : (n : Nest) (q : stepping.Nest) → step_splits.OfNest (as_stepping n) q → OfNest n (as_point q)
as_points n q h = record { body = h.body; var = h.var; reads = h.reads; masks = h.masks; next = h.next }

-- what holds of the parts by either crate holds of the parts
by_test : {A : Type 0} (P : A → Type 0) (c : Bool) (x y : A) → (c ≡ true → P x) → (c ≡ false → P y) → P (if c then x else y)
by_test P true x y h k = h refl
by_test P false x y h k = k refl

pub parts_are_of_loop : PartsAreOfLoop
parts_are_of_loop top n weight h =
    by_test (λ (ns : List Nest). All (OfLoop top) ns) (style.is_point_style (style.style_of (points.all_looplets n))) _ _
    (λ ours. let stepped = parts_are_stepped n weight ours in λ k d lt. of_loop top n _ h.of (stepped.body k d lt) (points_clear n h.jumpless k d lt))
    (λ ours.
    let kept = parts_split (as_stepping n) ours in
    All-map (OfLoop top) as_point (steps.parts_of (as_stepping n)).nests
    (λ k d lt. of_loop top n _ h.of (as_points n _ (kept.body k d lt)) (steps_free (as_stepping n) h.jumpless k d lt)))

-- ---- style

abbrev choose : Bool → Bool → Bool → Bool → Bool → Bool → Bool → Bool → style.Style
choose a b c d e f g h =
    if a then style.shift else if b then style.switch else if c then style.sequence else if d then style.jumper
    else if e then style.stepper else if f then style.spike else if g then style.run else if h then style.lookup else style.run

by_choice : (a b c d e f g h : Bool) → choose a b c d e f g h ≡ style.jumper → d ≡ true
by_choice true b c d e f g h p = absurd (cc)
by_choice false true c d e f g h p = absurd (cc)
by_choice false false true d e f g h p = absurd (cc)
by_choice false false false true e f g h p = refl
by_choice false false false false true f g h p = absurd (cc)
by_choice false false false false false true g h p = absurd (cc)
by_choice false false false false false false true h p = absurd (cc)
by_choice false false false false false false false true p = absurd (cc)
by_choice false false false false false false false false p = absurd (cc)

none_jumps : (ls : List Looplet) → AllJumpless ls → style.has style.jumper ls ≡ true → ⊥
none_jumps [] h e = absurd (cc)
none_jumps (Run leaf ∷ rest) h e = none_jumps rest h.1 e
none_jumps (Spike body tail ∷ rest) h e = none_jumps rest h.1 e
none_jumps (Lookup coord leaf ∷ rest) h e = none_jumps rest h.1 e
none_jumps (Sequence' n phases ∷ rest) h e = none_jumps rest h.1 e
none_jumps (Stepper' p walker ∷ rest) h e = none_jumps rest h.1 e
none_jumps (Jumper' p walker ∷ rest) h e = h.0
none_jumps (Switch' n cases ∷ rest) h e = none_jumps rest h.1 e
none_jumps (Shift' by p child ∷ rest) h e = none_jumps rest h.1 e

pub jumpless_dont_jump : JumplessDontJump
jumpless_dont_jump ls h e =
    none_jumps ls h
    (by_choice (style.has style.shift ls) (style.has style.switch ls) (style.has style.sequence ls) (style.has style.jumper ls)
    (style.has style.stepper ls) (style.has style.spike ls) (style.has style.run ls) (style.has style.lookup ls) e)
