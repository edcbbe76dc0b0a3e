use Rattle.std.proofs.Common.{◌∙◌, ap, ℕ, List, Option, None, slice_index_or, option_map}
use Rattle.fin_life.specs.declared.loops.Loops.{Loops}
use Rattle.fin_life.specs.Loops.{loops_in}
use Rattle.fin_life.specs.Tracks.{entered_in, with_number, with_first}
use Rattle.fin_life.proofs.Carried.{same_tracks}
use Rattle.fin_life.proofs.tracks.Tracks.declare.Goals as goal

pub returns : goal.returns
returns c = same_tracks _ _ _ _
    (ap (λ (xs : List ℕ). λ (t : ℕ). slice_index_or xs t 0) c.put.ensures.entered ∙ c.enter.ensures.entered ∙ ap (with_number (entered_in c.args.self.now) c.args.tensor) c.len.ensures)
    (c.put.ensures.firsts ∙ ap (λ (f : ℕ → Option (List ℕ)). with_first f c.args.tensor None) (ap (λ (xs : List (Option Loops)). λ (t : ℕ). option_map loops_in (slice_index_or xs t None)) c.enter.ensures.firsts))
