-- What the parts of a nest of the program keep of it: less weight, what they depend on, and the body.
use Rattle.std.proofs.Common.{◌≡◌, ℕ, ◌<◌, List, [], ◌∷◌, map, Bool, true, false, None, refl, ap, ◌∙◌, subst, arith}
use Rattle.std.specs.List.{All}
use Rattle.std.proofs.lemmas.List.Elements.{All-cons}
use Rattle.std.specs.Prelude.{not, ◌&&◌}
use Rattle.fin_ir.specs.declared.layout.Layout.{Layout}
use Rattle.fin_looplet.specs.declared.looplet.Looplet.{Looplet}
use Rattle.fin_looplet.specs.Cut.{cut}
use Rattle.fin_stage.specs.Staged.{Run}
use Rattle.fin_nest.specs.Nests.{Nest, Sense, Separate}
use Rattle.fin_nest.specs.Laws.{Lawful}
use Rattle.fin_nest.specs.Senses.{runs, Tallied, turns}
use Rattle.fin_nest.proofs.Senses.{runs_lawful, turns_lawful}
use Rattle.fin_nest.specs.Courses.{Behind, nest_with, course_weight}
use Rattle.fin_nest.specs.Styles.{switch, has, style_of, is_point_style}
use Rattle.fin_nest.specs.declared.entries.Numbered.{Numbered}
use Rattle.fin_nest.specs.Entries.{looplets, with_looplet, numbers}
use Rattle.fin_style_point.specs.declared.nest.Nest as plain
use Rattle.fin_style_point.specs.declared.nest.Parts.{Parts}
use Rattle.fin_style_point.specs.declared.nest.Branch.{Branch}
use Rattle.fin_style_point.specs.declared.nest.Branch.TheVariants.{Taken, Others}
use Rattle.fin_style_point.specs.Steps.{is_switch, unshifted, held, first_switch}
use Rattle.fin_style_point.specs.Laws.{weight_in, SwitchSplits}
use Rattle.fin_style_point.specs.Parts.{all_looplets, course_of, shift_part, spike_part, chosen, choose, switch_part, point_part, parts_of}
use Rattle.fin_style_point.specs.Splits.{Lighter, SeparateOver, StaySeparate, OfNest, AreOfNest, PartsAreStepped}
use Rattle.fin_style_point.proofs.Chosen.{Found, found}
use Rattle.fin_style_point.proofs.Flatness.{has_shift, has_spike}
use Rattle.fin_style_point.proofs.Shifts.{shift_splits}
use Rattle.fin_style_point.proofs.Spikes.{spike_splits}
use Rattle.fin_style_point.proofs.Switches.{switch_splits}
use Rattle.fin_style_point.proofs.Points.{points_split}
use Rattle.fin_style_point.proofs.Splitting.{whole, shifted_nest, spiked_nest, pointed_nest, switched_nest, by_style, parts_split}

-- ---- one part, and two

one : (P : plain.Nest → Type 0) (q : plain.Nest) → P q → All P (q ∷ [])
one P q h = All-cons P q [] h (λ k d lt. absurd (omega (arith, lt)))

two : (P : plain.Nest → Type 0) (q r : plain.Nest) → P q × P r → All P (q ∷ r ∷ [])
two P q r h = All-cons P q (r ∷ []) h.0 (one P r h.1)

-- ---- weight and what they depend on

module _ {S : Type 0} (layout : Layout) (sense : Sense S) (law : Lawful sense) (b : Behind S) (n : plain.Nest) where
  abbrev Light : Nest S → Type 0
  Light x = weight_in x < weight_in (whole b n)

  -- both sides of a switch
  abbrev Both : (Nest S → Type 0) → Type 0
  Both P = P (nest_with b (course_of (switch_part Taken n))) × P (nest_with b (course_of (switch_part Others n)))

  split_of : (f : Found (first_switch (all_looplets n))) → SwitchSplits layout sense (whole b n) f.choice
  split_of f = switch_splits layout sense law (whole b n) f.choice f.is

  switch_light : Found (first_switch (all_looplets n)) → Both Light
  switch_light f =
      let l = (split_of f).lighter in
      (subst Light (switched_nest b n Taken f.choice f.is) l.0, subst Light (switched_nest b n Others f.choice f.is) l.1)

  switch_separate : Found (first_switch (all_looplets n)) → Separate (whole b n) → Both Separate
  switch_separate f s =
      let l = (split_of f).separate s in
      (subst Separate (switched_nest b n Taken f.choice f.is) l.0, subst Separate (switched_nest b n Others f.choice f.is) l.1)

  abbrev Lighted : plain.Nest → Type 0
  Lighted q = course_weight (course_of q) < course_weight (course_of n)

  abbrev Apart : plain.Nest → Type 0
  Apart q = Separate (nest_with b (course_of q))

  parts_light : 0 < course_weight (course_of n) → is_point_style (style_of (all_looplets n)) ≡ true → Lighter (parts_of n) n
  parts_light heavy style =
      by_style (λ (p : Parts). Lighter p n) n style
      (λ h. one Lighted (shift_part n) (subst Light (shifted_nest b n) ((shift_splits layout sense (whole b n)).lighter (has_shift (all_looplets n) h))))
      (λ h. two Lighted (switch_part Taken n) (switch_part Others n) (switch_light (found (all_looplets n) h)))
      (λ h. one Lighted (spike_part n) (subst Light (spiked_nest b n) ((spike_splits layout sense (whole b n)).lighter (has_spike (all_looplets n) h))))
      (λ flat. one Lighted (point_part n) (subst Light (pointed_nest b n) ((points_split layout sense law (whole b n)).lighter flat heavy)))

  parts_apart : is_point_style (style_of (all_looplets n)) ≡ true → Separate (whole b n) → All Apart (parts_of n).nests
  parts_apart style s =
      by_style (λ (p : Parts). All Apart p.nests) n style
      (λ h. one Apart (shift_part n) (subst Separate (shifted_nest b n) ((shift_splits layout sense (whole b n)).separate s)))
      (λ h. two Apart (switch_part Taken n) (switch_part Others n) (switch_separate (found (all_looplets n) h) s))
      (λ h. one Apart (spike_part n) (subst Separate (spiked_nest b n) ((spike_splits layout sense (whole b n)).separate s)))
      (λ flat. one Apart (point_part n) (subst Separate (pointed_nest b n) ((points_split layout sense law (whole b n)).separate flat s)))

parts_separate : {S : Type 0} (layout : Layout) (sense : Sense S) → Lawful sense → (n : plain.Nest) → is_point_style (style_of (all_looplets n)) ≡ true → SeparateOver S (parts_of n) n
parts_separate layout sense law n style b s = parts_apart layout sense law b n style s

-- ---- the body

numbers_mapped : (f : Looplet → Looplet) (es : List Numbered) → numbers (map (with_looplet f) es) ≡ numbers es
numbers_mapped f [] = refl
numbers_mapped f (e ∷ es) = ap (λ (r : List ℕ). e.number ∷ r) (numbers_mapped f es)

number_chosen : (branch : Branch) (waits : Bool) (e : Numbered) → (chosen branch waits e).number ≡ e.number
number_chosen branch true e = refl
number_chosen branch false e = refl

numbers_chosen : (branch : Branch) (waits : Bool) (es : List Numbered) → numbers (choose branch waits es) ≡ numbers es
numbers_chosen branch waits [] = refl
numbers_chosen branch waits (e ∷ es) =
    ap (λ (r : List ℕ). (chosen branch waits e).number ∷ r) (numbers_chosen branch (waits && not (is_switch e.looplet)) es)
    ∙ ap (λ (k : ℕ). k ∷ numbers es) (number_chosen branch waits e)

shift_body : (n : plain.Nest) → OfNest n (shift_part n)
shift_body n = record { body = refl; var = refl; reads = numbers_mapped unshifted n.reads; masks = numbers_mapped unshifted n.masks; next = omega arith }

spike_body : (n : plain.Nest) → OfNest n (spike_part n)
spike_body n = record { body = refl; var = refl; reads = numbers_mapped (cut n.hi) n.reads; masks = numbers_mapped (cut n.hi) n.masks; next = omega arith }

point_body : (n : plain.Nest) → OfNest n (point_part n)
point_body n = record { body = refl; var = refl; reads = numbers_mapped held n.reads; masks = numbers_mapped held n.masks; next = omega arith }

switch_body : (n : plain.Nest) (branch : Branch) → OfNest n (switch_part branch n)
switch_body n branch = record {
  body = refl;
  var = refl;
  reads = numbers_chosen branch true n.reads;
  masks = numbers_chosen branch (not (has switch (looplets n.reads))) n.masks;
  next = omega arith;
}

parts_body : (n : plain.Nest) → is_point_style (style_of (all_looplets n)) ≡ true → AreOfNest (parts_of n) n
parts_body n style =
    by_style (λ (p : Parts). AreOfNest p n) n style (λ h. one (OfNest n) (shift_part n) (shift_body n))
    (λ h. two (OfNest n) (switch_part Taken n) (switch_part Others n) (switch_body n Taken, switch_body n Others))
    (λ h. one (OfNest n) (spike_part n) (spike_body n)) (λ flat. one (OfNest n) (point_part n) (point_body n))

-- what parts weigh and depend on is the same in whatever sense
nowhere : Layout
nowhere = record { formats = []; shapes = []; kinds = []; locals = 0 }

abbrev anything : (S : Type 0) → Sense S
anything S = record { stands = λ s m. Unit {0}; pay = λ s. s }

lawful : (S : Type 0) → Lawful (anything S)
lawful S = record { assign = λ x v s m h. tt; count = λ s m h. tt; spare = λ s m h. tt }

little : Behind (Unit {0})
little = record { body = λ ss b i s. s; binds = λ x. false; pins = λ x. None; steady = λ t. true; counts = [] }

parts_lighter : (n : plain.Nest) → 0 < course_weight (course_of n) → is_point_style (style_of (all_looplets n)) ≡ true → Lighter (parts_of n) n
parts_lighter n heavy style = parts_light nowhere (anything (Unit {0})) (lawful (Unit {0})) little n heavy style

stay_separate : (n : plain.Nest) → is_point_style (style_of (all_looplets n)) ≡ true → StaySeparate (parts_of n) n
stay_separate n style = (parts_separate nowhere (anything Run) (lawful Run) n style, parts_separate nowhere (anything Tallied) (lawful Tallied) n style)

pub parts_are_stepped : PartsAreStepped
parts_are_stepped n heavy style = record {
  split = λ s layout. (parts_split layout (runs s) (runs_lawful s) n heavy style, parts_split layout (turns s) (turns_lawful s) n heavy style);
  lighter = parts_lighter n heavy style;
  separate = stay_separate n style;
  body = parts_body n style;
}
