use Rattle.std.proofs.Common.{◌≡◌, ◌+◌, ◌-◌, ℕ, length}
use Rattle.fin_dims.specs.Start.{flag_of}
use Rattle.fin_dims.proofs.ties.raise.Given as goal

abbrev pub decreases-loop-flags : goal.decreases-loop-flags
decreases-loop-flags l = l.place + 1 - length l.flags.items

abbrev pub invariant-loop-flags : goal.invariant-loop-flags
invariant-loop-flags l = (v : ℕ) → flag_of l.flags.items v ≡ flag_of l.fn.flags.items v
