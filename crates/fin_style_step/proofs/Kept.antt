-- What the parts of a nest of the program keep of it: less weight, what they depend on, and the body.
use Rattle.std.proofs.Common.{◌≡◌, ℕ, ◌<◌, List, [], ◌∷◌, Bool, true, false, None, refl, ap, subst, arith}
use Rattle.std.specs.List.{All}
use Rattle.std.proofs.lemmas.List.Elements.{All-cons}
use Rattle.std.specs.Prelude.{not, ◌&&◌}
use Rattle.fin_ir.specs.declared.expression.IExpr.{IExpr}
use Rattle.fin_ir.specs.declared.layout.Layout.{Layout}
use Rattle.fin_looplet.specs.declared.looplet.Looplet.{Looplet}
use Rattle.fin_stage.specs.Staged.{Run}
use Rattle.fin_nest.specs.Nests.{Nest, Sense, Separate}
use Rattle.fin_nest.specs.Laws.{Lawful}
use Rattle.fin_nest.specs.Senses.{Tallied}
use Rattle.fin_nest.specs.Courses.{Behind, nest_with, course_weight}
use Rattle.fin_nest.specs.Styles as style
use Rattle.fin_nest.specs.declared.entries.Numbered.{Numbered}
use Rattle.fin_nest.specs.Entries.{numbers}
use Rattle.fin_style_step.specs.declared.nest.Nest as plain
use Rattle.fin_style_step.specs.declared.nest.Parts.{Parts}
use Rattle.fin_style_step.specs.declared.nest.Kind.{Kind}
use Rattle.fin_style_step.specs.declared.nest.Kind.TheVariants as kind
use Rattle.fin_style_step.specs.Steps.{first_sequence}
use Rattle.fin_style_step.specs.Laws.{Lighter, SequenceSplits}
use Rattle.fin_style_step.specs.Parts.{all_looplets, course_of, is_sequence, here_one, others_one, by_first, here_part, others_part, masks_wait, inside_all, stepper_part, jumper_part, parts_of}
use Rattle.fin_style_step.specs.Splits.{AllLighter, SeparateOver, StaySeparate, OfNest, AreOfNest}
use Rattle.fin_style_step.proofs.Halves.{Found, found}
use Rattle.fin_style_step.proofs.Sequences.{sequence_splits}
use Rattle.fin_style_step.proofs.Walkers.{stepper_splits, jumper_splits}
use Rattle.fin_style_step.proofs.Splitting.{whole, here_is_nest, others_are_nest, stepper_is_nest, jumper_is_nest, by_style}

-- of one part, and of two
one : (P : plain.Nest → Type 0) (q : plain.Nest) → P q → All P (q ∷ [])
one P q h = All-cons P q [] h (λ k d lt. absurd (omega (arith, lt)))

two : (P : plain.Nest → Type 0) (q r : plain.Nest) → P q × P r → All P (q ∷ r ∷ [])
two P q r h = All-cons P q (r ∷ []) h.0 (one P r h.1)

-- ---- weight and what they depend on

module _ {S : Type 0} (layout : Layout) (sense : Sense S) (law : Lawful sense) (b : Behind S) (n : plain.Nest) (ours : style.is_point_style (style.style_of (all_looplets n)) ≡ false) where
  abbrev Light : Nest S → Type 0
  Light x = Lighter x (whole b n)

  -- both halves of a sequence
  abbrev Halves : (Nest S → Type 0) → Type 0
  Halves P = P (nest_with b (course_of (here_part n))) × P (nest_with b (course_of (others_part n)))

  split_of : (f : Found (first_sequence n.hi (all_looplets n))) → SequenceSplits layout sense (whole b n) f.division
  split_of f = sequence_splits layout sense law (whole b n) f.division f.is

  halves_light : Found (first_sequence n.hi (all_looplets n)) → Halves Light
  halves_light f =
      let l = (split_of f).lighter in
      (subst Light (here_is_nest b n f.division f.is) l.0, subst Light (others_are_nest b n f.division f.is) l.1)

  halves_separate : Found (first_sequence n.hi (all_looplets n)) → Separate (whole b n) → Halves Separate
  halves_separate f s =
      let l = (split_of f).separate s in
      (subst Separate (here_is_nest b n f.division f.is) l.0, subst Separate (others_are_nest b n f.division f.is) l.1)

  abbrev Lighted : plain.Nest → Type 0
  Lighted q = course_weight (course_of q) < course_weight (course_of n)

  abbrev Apart : plain.Nest → Type 0
  Apart q = Separate (nest_with b (course_of q))

  parts_light : AllLighter (parts_of n) n
  parts_light =
      by_style (λ (p : Parts). AllLighter p n) n ours
      (λ h. two Lighted (here_part n) (others_part n) (halves_light (found n.hi (all_looplets n) h)))
      (λ w. one Lighted (jumper_part n) (subst Light (jumper_is_nest b n) ((jumper_splits layout sense law (whole b n)).lighter w.some)))
      (λ w. one Lighted (stepper_part n) (subst Light (stepper_is_nest b n) ((stepper_splits layout sense law (whole b n)).lighter w.some)))

  parts_apart : Separate (whole b n) → All Apart (parts_of n).nests
  parts_apart s =
      by_style (λ (p : Parts). All Apart p.nests) n ours
      (λ h. two Apart (here_part n) (others_part n) (halves_separate (found n.hi (all_looplets n) h) s))
      (λ w. one Apart (jumper_part n) (subst Separate (jumper_is_nest b n) ((jumper_splits layout sense law (whole b n)).separate s)))
      (λ w. one Apart (stepper_part n) (subst Separate (stepper_is_nest b n) ((stepper_splits layout sense law (whole b n)).separate s)))

parts_separate : {S : Type 0} (layout : Layout) (sense : Sense S) → Lawful sense → (n : plain.Nest) → style.is_point_style (style.style_of (all_looplets n)) ≡ false → SeparateOver S (parts_of n) n
parts_separate layout sense law n ours b s = parts_apart layout sense law b n ours s

-- a sense in which everything stands: weight and what parts depend on are the same in all
abbrev anything : (S : Type 0) → Sense S
anything S = record { stands = λ s m. Unit {0}; pay = λ s. s }

lawful : (S : Type 0) → Lawful (anything S)
lawful S = record { assign = λ x v s m h. tt; count = λ s m h. tt; spare = λ s m h. tt }

nowhere : Layout
nowhere = record { formats = []; shapes = []; kinds = []; locals = 0 }

little : Behind (Unit {0})
little = record { body = λ ss b i s. s; binds = λ x. false; pins = λ x. None; steady = λ t. true; counts = [] }

pub parts_lighter : (n : plain.Nest) → style.is_point_style (style.style_of (all_looplets n)) ≡ false → AllLighter (parts_of n) n
parts_lighter n ours = parts_light nowhere (anything (Unit {0})) (lawful (Unit {0})) little n ours

pub stay_separate : (n : plain.Nest) → style.is_point_style (style.style_of (all_looplets n)) ≡ false → StaySeparate (parts_of n) n
stay_separate n ours = (parts_separate nowhere (anything Run) (lawful Run) n ours, parts_separate nowhere (anything Tallied) (lawful Tallied) n ours)

-- ---- the body

inside_numbers : (k : Kind) (hi : IExpr) (es : List Numbered) → numbers (inside_all k hi es) ≡ numbers es
inside_numbers k hi [] = refl
inside_numbers k hi (e ∷ es) = ap (λ (r : List ℕ). e.number ∷ r) (inside_numbers k hi es)

first_numbers : (f : Bool → Looplet → Looplet) (waits : Bool) (es : List Numbered) → numbers (by_first f waits es) ≡ numbers es
first_numbers f waits [] = refl
first_numbers f waits (e ∷ es) = ap (λ (r : List ℕ). e.number ∷ r) (first_numbers f (waits && not (is_sequence e.looplet)) es)

here_body : (n : plain.Nest) → OfNest n (here_part n)
here_body n = record { body = refl; var = refl; reads = first_numbers (here_one n.hi) true n.reads; masks = first_numbers (here_one n.hi) (masks_wait n) n.masks; next = omega arith }

others_body : (n : plain.Nest) → OfNest n (others_part n)
others_body n = record { body = refl; var = refl; reads = first_numbers others_one true n.reads; masks = first_numbers others_one (masks_wait n) n.masks; next = omega arith }

stepper_body : (n : plain.Nest) → OfNest n (stepper_part n)
stepper_body n = record { body = refl; var = refl; reads = inside_numbers kind.Stepper n.hi n.reads; masks = inside_numbers kind.Stepper n.hi n.masks; next = omega arith }

jumper_body : (n : plain.Nest) → OfNest n (jumper_part n)
jumper_body n = record { body = refl; var = refl; reads = inside_numbers kind.Jumper n.hi n.reads; masks = inside_numbers kind.Jumper n.hi n.masks; next = omega arith }

pub parts_body : (n : plain.Nest) → style.is_point_style (style.style_of (all_looplets n)) ≡ false → AreOfNest (parts_of n) n
parts_body n ours =
    by_style (λ (p : Parts). AreOfNest p n) n ours
    (λ h. two (OfNest n) (here_part n) (others_part n) (here_body n, others_body n))
    (λ w. one (OfNest n) (jumper_part n) (jumper_body n))
    (λ w. one (OfNest n) (stepper_part n) (stepper_body n))
