use Rattle.std.proofs.Common.{◌≡◌, ℕ, zero, suc, false, refl, replicate, get_or}
use Rattle.std.proofs.Math.Path.{fun_ext}
use Rattle.fin_parcheck.proofs.declared.Declared.nothing.Goals as goal

replicated : (n t : ℕ) → get_or (replicate n false) t false ≡ false
replicated zero t = refl
replicated (suc n) zero = refl
replicated (suc n) (suc t) = replicated n t

pub returns : goal.returns
returns c = fun_ext (λ t. replicated 256 t)
