-- How many codes a frame takes, and frames that are filled with frames.
use Rattle.std.specs.Prelude.{◌≡◌, ℕ, ◌+◌, List, [], ◌∷◌, length, map}
use Rattle.fin_ir.specs.declared.code.Code.{Code, fold-Code}
use Rattle.fin_ir.specs.declared.code.Code.TheOpen.{Code-F}
use Rattle.fin_nest.specs.Frames.{filling, fill_each, fill}
use Rattle.fin_style_point.specs.declared.nest.Nest.{Nest}
use Rattle.fin_descend.specs.Parts.{parts_of, frame_of}

abbrev pub all_holes : List ℕ → ℕ
all_holes [] = 0
all_holes (k ∷ ks) = k + all_holes ks

abbrev pub holes_step : Code-F ℕ → ℕ
holes_step Code-F.Skip = 1
holes_step (Code-F.Seq all) = all_holes all
holes_step (Code-F.Assign local value) = 0
holes_step (Code-F.When test body) = body
holes_step (Code-F.StepLoop var until lo hi stop body) = body
holes_step (Code-F.ForLoop var lo hi body) = body
holes_step (Code-F.ParLoop from to lo hi ways body) = body
holes_step (Code-F.Update tensor at by value) = 0
holes_step (Code-F.Declare tensor) = 0
holes_step (Code-F.Freeze tensor) = 0
holes_step (Code-F.Thaw tensor) = 0
holes_step (Code-F.Charge value) = 0

-- the number of its `Skip`s
abbrev pub holes : Code → ℕ
holes = fold-Code ℕ holes_step

-- frames with codes, where each takes as many as it has holes
abbrev pub filled_each : List Code → List Code → List Code
filled_each frames cs = (fill_each (map filling frames) cs).0

-- ---- frames in a frame, one for each of its holes

abbrev pub FramesCompose : Type 0
FramesCompose = (frame : Code) (frames cs : List Code) → holes frame ≡ length frames
    → fill (fill frame frames) cs ≡ fill frame (filled_each frames cs)

-- the frame of a step has a hole for each part
abbrev pub StepsHaveHoles : Type 0
StepsHaveHoles = (n : Nest) → holes (frame_of n) ≡ length (parts_of n)
