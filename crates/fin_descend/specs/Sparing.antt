-- What the code of a nest leaves as it is: the frame of its step, the codes that fill it, and fewer locals and tensors.
use Rattle.std.specs.Prelude.{◌≡◌, ℕ, ◌<◌, true, false, List, map}
use Rattle.std.specs.List.{All}
use Rattle.fin_ir.specs.declared.code.Code.{Code}
use Rattle.fin_looplet.specs.Lists.{AnyOwns}
use Rattle.fin_nest.specs.Frames.{fill}
use Rattle.fin_nest.specs.Sparing.{Staying, all_spare, spares}
use Rattle.fin_style_point.specs.declared.nest.Nest.{Nest}
use Rattle.fin_style_point.specs.Parts.{all_looplets}
use Rattle.fin_descend.specs.Parts.{parts_of, frame_of}

-- The nest's code may assign its variable, its looplets' own locals and those from its first free one on: none of these
-- is to stay.
pub record KeepsTo (s : Staying) (n : Nest) : Type 0 where
  pub var : s.locals n.var ≡ false
  pub below : (x : ℕ) → s.locals x ≡ true → x < n.next
  pub own : (x : ℕ) → AnyOwns x (all_looplets n) → s.locals x ≡ false

-- the frame of a step spares what stays, and the parts keep to it again
abbrev pub PartsSpare : Type 0
PartsSpare = (s : Staying) (n : Nest) → KeepsTo s n → (spares s (frame_of n) ≡ true) × All (KeepsTo s) (parts_of n)

-- so does a frame that is filled with codes, each of which does
abbrev pub FillsSpare : Type 0
FillsSpare = (s : Staying) (frame : Code) (cs : List Code) → spares s frame ≡ true → all_spare (map (spares s) cs) ≡ true
    → spares s (fill frame cs) ≡ true

-- each local and tensor that is to stay by the first is to stay by the second
pub record StaysIn (less more : Staying) : Type 0 where
  pub locals : (x : ℕ) → less.locals x ≡ true → more.locals x ≡ true
  pub tensors : (t : ℕ) → less.tensors t ≡ true → more.tensors t ≡ true

-- code that spares more spares less
abbrev pub SparesLess : Type 0
SparesLess = (less more : Staying) (c : Code) → StaysIn less more → spares more c ≡ true → spares less c ≡ true
