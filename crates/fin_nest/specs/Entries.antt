-- The looplets of reads and masks, each under its number.
use Rattle.std.specs.Prelude.{ℕ, List, map}
use Rattle.fin_looplet.specs.declared.looplet.Looplet.{Looplet}
use Rattle.fin_nest.specs.declared.entries.Numbered.{Numbered}

abbrev pub looplets : List Numbered → List Looplet
looplets = map (λ e. e.looplet)

abbrev pub numbers : List Numbered → List ℕ
numbers = map (λ e. e.number)

-- an entry with another looplet
abbrev pub with_looplet : (Looplet → Looplet) → Numbered → Numbered
with_looplet f e = record { number = e.number; looplet = f e.looplet }
