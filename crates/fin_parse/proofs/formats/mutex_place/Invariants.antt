use Rattle.std.proofs.Common.{◌≡◌, ◌+◌, ◌-◌, ◌≤◌, length, drop}
use Rattle.std.specs.List.{prefix_len}
use Rattle.fin_parse.specs.HeaderTrees.{is_no_mutex}
use Rattle.fin_parse.proofs.formats.mutex_place.Given as goal

abbrev pub invariant-loop-place : goal.invariant-loop-place
invariant-loop-place l = (l.place + prefix_len is_no_mutex (drop l.place l.words) ≡ prefix_len is_no_mutex l.words) × (l.place ≤ length l.words)

abbrev pub decreases-loop-place : goal.decreases-loop-place
decreases-loop-place l = length l.words - l.place
