-- The style of a nest: which of its looplets the next step is about.
use Rattle.std.specs.Prelude.{Bool, true, false, if◌then◌else◌, List, [], ◌∷◌}
use Rattle.std.specs.List.{list_any}
use Rattle.fin_looplet.specs.declared.looplet.Looplet.{Looplet}
use Rattle.fin_looplet.specs.declared.looplet.Looplet.TheVariants.{Run, Spike, Lookup, Sequence', Stepper', Jumper', Switch', Shift'}

pub data Style : Type 0 where
  shift : Style
  switch : Style
  sequence : Style
  jumper : Style
  stepper : Style
  spike : Style
  run : Style
  lookup : Style

-- what a looplet is at its head
abbrev pub head : Looplet → Style
head (Run leaf) = run
head (Spike body tail) = spike
head (Lookup coord leaf) = lookup
head (Sequence' n phases) = sequence
head (Stepper' p walker) = stepper
head (Jumper' p walker) = jumper
head (Switch' n cases) = switch
head (Shift' by p child) = shift

abbrev pub same_style : Style → Style → Bool
same_style shift shift = true
same_style switch switch = true
same_style sequence sequence = true
same_style jumper jumper = true
same_style stepper stepper = true
same_style spike spike = true
same_style run run = true
same_style lookup lookup = true
same_style a b = false

-- some looplet has the style
abbrev pub has : Style → List Looplet → Bool
has style = list_any (λ l. same_style style (head l))

-- The first style that some looplet has, in this order; without reads and masks a nest has the style run.
abbrev pub first_style : List Style → List Looplet → Style
first_style [] ls = run
first_style (style ∷ styles) ls = if has style ls then style else first_style styles ls

abbrev pub style_of : List Looplet → Style
style_of = first_style (shift ∷ switch ∷ sequence ∷ jumper ∷ stepper ∷ spike ∷ run ∷ lookup ∷ [])

-- the styles whose steps leave no walkers and phases to go along: these are stepped point by point
abbrev pub is_point_style : Style → Bool
is_point_style shift = true
is_point_style switch = true
is_point_style sequence = false
is_point_style jumper = false
is_point_style stepper = false
is_point_style spike = true
is_point_style run = true
is_point_style lookup = true
