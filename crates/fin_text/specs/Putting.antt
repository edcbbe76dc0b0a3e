-- A text that goes to a sink through a buffer.
use Rattle.std.specs.Prelude.{◌≡◌, ℕ, List, ◌++◌, Result, MatchResult}
use Rattle.std.specs.declared.option.Option.{Option}
use Rattle.std.specs.Io.KnownBytes.{Appends}
use Rattle.fin_ports.specs.Bytes.{PutsFront}

-- a front of the text was put, and the rest waits
abbrev pub Waits : Option (List ℕ) → Option (List ℕ) → List ℕ → List ℕ → Type 0
Waits old new text waiting = (put : List ℕ) × Appends old new put × (text ≡ put ++ waiting)

-- where that succeeds; else not all of it was put
abbrev pub PutsOrWaits : {E : Type 0} → Option (List ℕ) → Option (List ℕ) → Result (Unit {0}) E → List ℕ → List ℕ → Type 0
PutsOrWaits old new result text waiting = MatchResult result
    (λ _. Waits old new text waiting)
    (λ _. PutsFront old new text)
