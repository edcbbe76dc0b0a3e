-- What calls on a source and on a sink did to the bytes, where these are known.
use Rattle.std.specs.Prelude.{◌≡◌, ℕ, ◌+◌, ◌<◌, ◌≤◌, Bool, true, false, List, [], ◌++◌, length, take, Result, Ok, Err, MatchResult}
use Rattle.std.specs.declared.option.Option.{Option}
use Rattle.std.specs.Io.KnownBytes.{Appends, Consumes, IsAtEnd}
use Rattle.fin_ports.specs.declared.job.JobRead.{JobRead}
use Rattle.fin_ports.specs.declared.job.JobRead.TheVariants.{TooLong}

-- the most bytes of a job
abbrev pub most : ℕ
most = 16777216

-- some bytes, as many as `many` says, were taken from what was left
abbrev pub Took : Option (List ℕ) → Option (List ℕ) → (ℕ → Type 0) → Type 0
Took old new many = (bytes : List ℕ) × Consumes old new bytes × many (length bytes)

-- what stands after a read of a whole job
abbrev pub LeftBy : Option (List ℕ) → Option (List ℕ) → JobRead → Type 0
LeftBy old new TooLong = Took old new (λ n. n ≡ most + 1)
LeftBy old new _ = Took old new (λ n. n ≤ most)

-- a read of a whole job: all that was left, and at most so many bytes; else a part, too long exactly where more were taken
abbrev pub ReadsJob : {T : Type 0} → (T → List ℕ) → Option (List ℕ) → Option (List ℕ) → Result T JobRead → Type 0
ReadsJob view old new result = MatchResult result
    (λ v. Consumes old new (view v) × IsAtEnd new × (length (view v) ≤ most))
    (LeftBy old new)

-- the first bytes were put, and some are left
abbrev pub PutsFront : Option (List ℕ) → Option (List ℕ) → List ℕ → Type 0
PutsFront old new bytes = (n : ℕ) × (n < length bytes) × Appends old new (take n bytes)

-- all bytes were put where that succeeds, and else not all
abbrev pub PutsAll : {E : Type 0} → Option (List ℕ) → Option (List ℕ) → Result (Unit {0}) E → List ℕ → Type 0
PutsAll old new result bytes = MatchResult result (λ _. Appends old new bytes) (λ _. PutsFront old new bytes)

-- one more piece of a job: some bytes, the end, or why not
abbrev pub ReadsPiece : List ℕ → List ℕ → Option (List ℕ) → Option (List ℕ) → Result Bool JobRead → Type 0
ReadsPiece before after old new (Ok true) =
    (bytes : List ℕ) × (after ≡ before ++ bytes) × Consumes old new bytes × (0 < length bytes) × (length after ≤ most)
ReadsPiece before after old new (Ok false) = (after ≡ before) × Consumes old new [] × IsAtEnd new
ReadsPiece before after old new (Err TooLong) = Took old new (λ n. length before + n ≡ most + 1)
ReadsPiece before after old new (Err e) = Took old new (λ n. length before + n ≤ most)
