-- Which looplets settle by their head whether a nest is stepped point by point.
use Rattle.std.specs.Prelude.{Bool, ◌||◌}
use Rattle.fin_looplet.specs.declared.looplet.Looplet.{Looplet}
use Rattle.fin_nest.specs.Styles.{shift, switch, sequence, jumper, stepper, head, same_style}

-- of a style before those that go along a region
abbrev pub is_early : Looplet → Bool
is_early l = same_style shift (head l) || same_style switch (head l)

-- of a style that goes along a region
abbrev pub is_walked : Looplet → Bool
is_walked l = same_style sequence (head l) || (same_style jumper (head l) || same_style stepper (head l))
