use Rattle.std.proofs.Common.{◌≡◌, ℕ, take}
use Rattle.fin_ast.specs.Ties.{is_open}
use Rattle.fin_dims.specs.Start.{flag_of}
use Rattle.fin_dims.proofs.ties.open_loops.Given as goal

abbrev pub invariant-loop-place : goal.invariant-loop-place
invariant-loop-place l = (var : ℕ) → flag_of l.flags.items var ≡ is_open (take l.place-index l.places) var
