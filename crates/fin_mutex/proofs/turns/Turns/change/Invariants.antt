use Rattle.fin_mutex.proofs.turns.Turns.change.Given as goal

abbrev pub ghosts-put : goal.ghosts-put
ghosts-put g a = record { value = a.v }
