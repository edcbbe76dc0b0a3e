-- How a call ends.
use Rattle.std.proofs.Common.{◌≡◌, ◌∙◌, ◌⊎◌, ◌≤◌, ℕ, List, [], length, sym, subst, inl, inr, arith}
use Rattle.std.proofs.Math.Seq.{take-length}
use Rattle.fin_ports.specs.Causes.{Rose}
use Rattle.fin_cli.specs.Due.{Due, out_of_memory, read_fault, write_fault}
use Rattle.fin_cli.specs.Ends.{Across, Ends, Failed, ForDue, Tells, Took, TookFront, TookPart, Tries}

-- a count that rose stays risen
pub rose_on : (a b c : ℕ) → Rose a b → b ≤ c → Rose a c
rose_on a b c rose le = omega arith

-- a line that was tried is put as far as it goes
pub tried : (sink : Across) (line : List ℕ) → Tries sink line → TookFront sink line
tried sink line tries = elim tries [ inl all ↦ (length line, subst (Took sink) (sym (take-length line)) all) | inr part ↦ (part.1.0, part.1.2) ]

-- the line that was due
pub ends_told : (source out err : Across) (Within : List ℕ → Type 0) (Is : Due → Type 0) (due : Due) (line : List ℕ) (status result : ℕ) → Is due → due.status ≤ 2
    → status ≡ due.status → line ≡ due.err → Took out due.out → Tells err Within line status result → Ends source out err Within Is result
ends_told source out err Within Is due line status result here small same is took told = elim told [
  | inl h ↦
      let ends : result ≡ due.status = h.0 ∙ same in
      record {
        small = omega arith;
        finished = λ _. (due, here, (ends, took, subst (Took err) is h.1));
        read_fault = λ three. absurd (omega arith);
        write_fault = λ four. absurd (omega arith);
        out_of_memory = λ five. absurd (omega arith);
      }
  | inr h ↦
      let four : result ≡ 4 = h.0 in
      record {
        small = omega arith;
        finished = λ le. absurd (omega arith);
        read_fault = λ three. absurd (omega arith);
        write_fault = λ _. inr (h.1, inl (due, here, (took, subst Within is h.2)));
        out_of_memory = λ five. absurd (omega arith);
      }
]

pub ends_read : (source out err : Across) (Within : List ℕ → Type 0) (Is : Due → Type 0) (result : ℕ) → Failed source → Took out [] → Tells err Within read_fault 3 result
    → Ends source out err Within Is result
ends_read source out err Within Is result failed took told = elim told [
  | inl h ↦
      let three : result ≡ 3 = h.0 in
      record {
        small = omega arith;
        finished = λ le. absurd (omega arith);
        read_fault = λ _. (failed, took, h.1);
        write_fault = λ four. absurd (omega arith);
        out_of_memory = λ five. absurd (omega arith);
      }
  | inr h ↦
      let four : result ≡ 4 = h.0 in
      record {
        small = omega arith;
        finished = λ le. absurd (omega arith);
        read_fault = λ three. absurd (omega arith);
        write_fault = λ _. inr (h.1, inr (failed, took, h.2));
        out_of_memory = λ five. absurd (omega arith);
      }
]

pub ends_write : (source out err : Across) (Within : List ℕ → Type 0) (Is : Due → Type 0) → Failed out → ForDue Is (λ due. TookPart out due.out) → Tries err write_fault
    → Ends source out err Within Is 4
ends_write source out err Within Is failed part tries = record {
  small = omega arith;
  finished = λ le. absurd (omega arith);
  read_fault = λ three. absurd (omega arith);
  write_fault = λ _. inl (failed, part, tried err write_fault tries);
  out_of_memory = λ five. absurd (omega arith);
}

pub ends_memory : (source out err : Across) (Within : List ℕ → Type 0) (Is : Due → Type 0) → Took out [] ⊎ ForDue Is (λ due. TookPart out due.out) → Tries err out_of_memory
    → Ends source out err Within Is 5
ends_memory source out err Within Is part tries = record {
  small = omega arith;
  finished = λ le. absurd (omega arith);
  read_fault = λ three. absurd (omega arith);
  write_fault = λ four. absurd (omega arith);
  out_of_memory = λ _. (part, tries);
}
