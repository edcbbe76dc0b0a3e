use Rattle.std.proofs.Common.{◌≡◌}
use Rattle.fin_claim.specs.Seats.{IsSeatOf, view}
use Rattle.fin_parts_test.proofs.claims.drawn_in_turn.Given as goal

abbrev pub invariant-loop : goal.invariant-loop
invariant-loop l = IsSeatOf l.claims l.first × IsSeatOf l.claims l.second × IsSeatOf l.claims l.third × ((view l.first).standing.stands ≡ 1) × ((view l.second).standing.stands ≡ 1) × ((view l.third).standing.stands ≡ 1)
