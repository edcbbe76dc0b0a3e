use Rattle.std.proofs.Common.{◌≡◌, ℕ, zero, suc, refl, replicate, get_or, ap, option_map, Option, None}
use Rattle.std.proofs.Math.Path.{fun_ext}
use Rattle.fin_life.specs.declared.loops.Loops.{Loops}
use Rattle.fin_life.specs.Loops.{loops_in}
use Rattle.fin_life.proofs.Carried.{same_tracks}
use Rattle.fin_life.proofs.tracks.Tracks.none.Goals as goal

replicated : {A : Type 0} (a : A) (n t : ℕ) → get_or (replicate n a) t a ≡ a
replicated a zero t = refl
replicated a (suc n) zero = refl
replicated a (suc n) (suc t) = replicated a n t

pub returns : goal.returns
returns c = same_tracks _ _ _ _ (fun_ext (λ t. replicated 0 256 t)) (fun_ext (λ t. ap (option_map loops_in) (replicated {A = Option Loops} None 256 t)))
