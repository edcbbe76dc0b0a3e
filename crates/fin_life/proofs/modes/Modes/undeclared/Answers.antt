use Rattle.std.proofs.Common.{◌≡◌, ℕ, zero, suc, refl, replicate, get_or}
use Rattle.std.proofs.Math.Path.{fun_ext}
use Rattle.fin_ast.specs.declared.mode.Mode.TheVariants.{Undeclared}
use Rattle.fin_life.proofs.modes.Modes.undeclared.Goals as goal

replicated : (n t : ℕ) → get_or (replicate n Undeclared) t Undeclared ≡ Undeclared
replicated zero t = refl
replicated (suc n) zero = refl
replicated (suc n) (suc t) = replicated n t

pub returns : goal.returns
returns c = fun_ext (λ t. replicated 256 t)
