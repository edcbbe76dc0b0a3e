use Rattle.std.proofs.Common.{◌≡◌, ◌+◌, length, map}
use Rattle.fin_lex.specs.Piece.{place}
use Rattle.fin_lex.proofs.piece.place.Given as goal

abbrev pub invariant-loop-table : goal.invariant-loop-table
invariant-loop-table l = record {
  same : place l.at (map (λ k. k.now) l.table) l.word ≡ place 0 (map (λ k. k.now) l.initial.table) l.word;
  within : l.at + length l.table ≡ length l.initial.table;
}

abbrev pub decreases-loop-table : goal.decreases-loop-table
decreases-loop-table l = length l.table
