-- How a call ends, by what is due and what its ports took.
use Rattle.std.specs.Prelude.{◌≡◌, ℕ, ◌+◌, ◌<◌, ◌≤◌, ◌⊎◌, Bool, true, false, List, [], length, take, IfSome}
use Rattle.std.specs.declared.option.Option.{Option}
use Rattle.std.specs.Io.KnownBytes.{Appends, Consumes, IsAtEnd, Keeps}
use Rattle.fin_ports.specs.Causes.{Rose}
use Rattle.fin_ports.specs.Bytes.{PutsFront, most}
use Rattle.fin_words.specs.declared.mode.Asked.{Asked}
use Rattle.fin_cli.specs.Due.{Due, IsDue, out_of_memory, read_fault, reads, write_fault}

-- a port before and after a call: its bytes, where it tells them, and its count of faults
pub record Across : Type 0 where
  pub before : Option (List ℕ)
  pub after : Option (List ℕ)
  pub faults : ℕ
  pub later_faults : ℕ

abbrev pub across : Option (List ℕ) → Option (List ℕ) → ℕ → ℕ → Across
across before after faults later = record { before = before; after = after; faults = faults; later_faults = later }

-- a port in two states, by what tells its bytes and its count of faults
abbrev pub over : {A : Type 0} → (A → Option (List ℕ)) → (A → ℕ) → A → A → Across
over bytes faults old new = across (bytes old) (bytes new) (faults old) (faults new)

-- its count of faults rose
abbrev pub Failed : Across → Type 0
Failed port = Rose port.faults port.later_faults

-- it took this text
abbrev pub Took : Across → List ℕ → Type 0
Took sink text = Appends sink.before sink.after text

-- or a front of it, be it the whole
abbrev pub TookFront : Across → List ℕ → Type 0
TookFront sink text = (n : ℕ) × Took sink (take n text)

-- or not all of it
abbrev pub TookPart : Across → List ℕ → Type 0
TookPart sink text = PutsFront sink.before sink.after text

-- It failed within a line: at a moment of the call its count had risen, and it had not taken all of the line. From then on it took a
-- front of the line on a fault.
abbrev pub FailsWithin : {A : Type 0} → (A → Option (List ℕ)) → (A → ℕ) → (A → A → Type 0) → A → A → List ℕ → Type 0
FailsWithin {A} bytes faults Later old new line = (moment : A) × Later old moment × Later moment new
    × Failed (over bytes faults old moment) × TookPart (over bytes faults old moment) line
    × TookFront (over bytes faults moment new) write_fault

-- something is due, and it holds of that
abbrev pub ForDue : (Due → Type 0) → (Due → Type 0) → Type 0
ForDue Is Holds = (due : Due) × Is due × Holds due

-- status 0, 1 or 2: what is due was written whole, on both outputs
abbrev pub Finished : Across → Across → (Due → Type 0) → ℕ → Type 0
Finished out err Is status = ForDue Is (λ due. (status ≡ due.status) × Took out due.out × Took err due.err)

-- a write failed: the output's, within the text that is due, and the error output took a front of the line on that; or the error
-- output's, within the line that is due behind the whole text, or within the line on a fault of the source
abbrev pub Unwritten : Across → Across → Across → (List ℕ → Type 0) → (Due → Type 0) → Type 0
Unwritten source out err Within Is =
    (Failed out × ForDue Is (λ due. TookPart out due.out) × TookFront err write_fault)
    ⊎ (Failed err × (ForDue Is (λ due. Took out due.out × Within due.err) ⊎ (Failed source × Took out [] × Within read_fault)))

-- memory ran out: before anything was written, or within what is due
abbrev pub Exhausted : Across → Across → (Due → Type 0) → Type 0
Exhausted out err Is = (Took out [] ⊎ ForDue Is (λ due. TookPart out due.out))
    × (Took err out_of_memory ⊎ (Failed err × TookPart err out_of_memory))

-- `Within` says of which lines it holds that the error output failed within them
pub record Ends (source out err : Across) (Within : List ℕ → Type 0) (Is : Due → Type 0) (status : ℕ) : Type 0 where
  pub small : status ≤ 5
  pub finished : status ≤ 2 → Finished out err Is status
  pub read_fault : status ≡ 3 → Failed source × Took out [] × Took err read_fault
  pub write_fault : status ≡ 4 → Unwritten source out err Within Is
  pub out_of_memory : status ≡ 5 → Exhausted out err Is

-- the bytes of the job, and what of them was taken; `finished` where the call came to its answer
pub record Reads (source : Across) (reads : Bool) (job : List ℕ) (finished : Type 0) : Type 0 where
  pub told : IfSome source.before (λ bytes. job ≡ bytes)
  pub unread : reads ≡ false → Keeps source.before source.after
  pub whole : reads ≡ true → finished → length job ≤ most → Consumes source.before source.after job × IsAtEnd source.after
  pub long : reads ≡ true → finished → most < length job → Consumes source.before source.after (take (most + 1) job)
  pub part : (n : ℕ) × (n ≤ most + 1) × Consumes source.before source.after (take n job)

-- what `tell` did: it put the line, or failed within it
abbrev pub Tells : Across → (List ℕ → Type 0) → List ℕ → ℕ → ℕ → Type 0
Tells err Within line status result = ((result ≡ status) × Took err line) ⊎ ((result ≡ 4) × Failed err × Within line)

-- it took the line, or its count rose and it took not all of it
abbrev pub Tries : Across → List ℕ → Type 0
Tries err line = Took err line ⊎ (Failed err × TookPart err line)

-- the whole of a call for what the words ask: some bytes of the job were read so, and it ends by what is due for them
abbrev pub Serves : Option Asked → Across → Across → Across → (List ℕ → Type 0) → ℕ → Type 0
Serves asked source out err Within status =
    (job : List ℕ) × Reads source (reads asked) job (status ≤ 2) × Ends source out err Within (IsDue asked job) status
