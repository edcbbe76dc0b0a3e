-- What was read of the job.
use Rattle.std.proofs.Common.{◌≡◌, ◌∙◌, ◌+◌, ◌≤◌, ℕ, List, [], ◌++◌, length, take, Bool, true, false, Some, None, refl, sym, ap, subst, arith, length-append, append-nil}
use Rattle.std.specs.Prelude.{IfSome}
use Rattle.std.specs.declared.option.Option.{Option}
use Rattle.std.specs.Io.KnownBytes.{Consumes, IsAtEnd, Keeps}
use Rattle.std.proofs.KnownBytes.{Consumes-nil, Keeps-refl}
use Rattle.std.proofs.Math.Seq.{take-append_seam, take-length}
use Rattle.fin_ports.specs.Bytes.{most}
use Rattle.fin_cli.specs.Ends.{Across, Reads}

-- the bytes of the job: all that was left where the source tells it, else what was taken
abbrev pub job_of : Option (List ℕ) → List ℕ → List ℕ
job_of None bytes = bytes
job_of (Some left) bytes = left

pub told_job : (old : Option (List ℕ)) (bytes : List ℕ) → IfSome old (λ left. job_of old bytes ≡ left)
told_job None bytes = tt
told_job (Some left) bytes = refl

-- what was taken is the front of it
pub front_job : (old new : Option (List ℕ)) (bytes : List ℕ) → Consumes old new bytes → take (length bytes) (job_of old bytes) ≡ bytes
front_job None new bytes took = take-length bytes
front_job (Some left) None bytes took = absurd took
front_job (Some left) (Some rest) bytes took = ap (take (length bytes)) took ∙ take-append_seam bytes rest

-- at the end it is all of it
pub all_job : (old new : Option (List ℕ)) (bytes : List ℕ) → Consumes old new bytes → IsAtEnd new → job_of old bytes ≡ bytes
all_job None new bytes took end = refl
all_job (Some left) None bytes took end = absurd took
all_job (Some left) (Some rest) bytes took end = took ∙ ap (λ l. bytes ++ l) end ∙ append-nil bytes

pub length_job : (old new : Option (List ℕ)) (bytes : List ℕ) → Consumes old new bytes → length bytes ≤ length (job_of old bytes)
length_job None new bytes took = omega arith
length_job (Some left) None bytes took = absurd took
length_job (Some left) (Some rest) bytes took = omega (arith, ap length took, length-append bytes rest)

-- the front of the job was taken
pub part_job : (old new : Option (List ℕ)) (bytes : List ℕ) → Consumes old new bytes → length bytes ≤ most + 1
    → (n : ℕ) × (n ≤ most + 1) × Consumes old new (take n (job_of old bytes))
part_job old new bytes took few = (length bytes, few, subst (Consumes old new) (sym (front_job old new bytes took)) took)

-- nothing was taken
pub no_job : (source : Across) (finished : Type 0) → source.after ≡ source.before → Reads source false (job_of source.before []) finished
no_job source finished same = record {
  told = told_job source.before [];
  unread = λ _. subst (Keeps source.before) (sym same) (Keeps-refl source.before);
  whole = λ e. cc;
  long = λ e. cc;
  part = part_job source.before source.after [] (subst (λ o. Consumes source.before o []) (sym same) (Consumes-nil source.before)) (omega arith);
}

-- the whole job was taken
pub whole_job : (source : Across) (bytes : List ℕ) (finished : Type 0) → Consumes source.before source.after bytes → IsAtEnd source.after → length bytes ≤ most
    → Reads source true (job_of source.before bytes) finished
whole_job source bytes finished took end few =
    let is = all_job source.before source.after bytes took end in
    record {
      told = told_job source.before bytes;
      unread = λ e. cc;
      whole = λ _ _ _. (subst (Consumes source.before source.after) (sym is) took, end);
      long = λ _ _ many. absurd (omega (arith, ap length is));
      part = part_job source.before source.after bytes took (omega arith);
    }

-- more than a job was taken
pub long_job : (source : Across) (bytes : List ℕ) (finished : Type 0) → Consumes source.before source.after bytes → length bytes ≡ most + 1
    → Reads source true (job_of source.before bytes) finished
long_job source bytes finished took many = record {
  told = told_job source.before bytes;
  unread = λ e. cc;
  whole = λ _ _ few. absurd (omega (arith, length_job source.before source.after bytes took));
  long = λ _ _ _. subst (λ n. Consumes source.before source.after (take n (job_of source.before bytes))) many
      (subst (Consumes source.before source.after) (sym (front_job source.before source.after bytes took)) took);
  part = part_job source.before source.after bytes took (omega arith);
}

-- a part was taken, and there is no answer
pub part_read : (source : Across) (bytes : List ℕ) (finished : Type 0) → Consumes source.before source.after bytes → length bytes ≤ most → (finished → ⊥)
    → Reads source true (job_of source.before bytes) finished
part_read source bytes finished took few not = record {
  told = told_job source.before bytes;
  unread = λ e. cc;
  whole = λ _ h _. absurd (not h);
  long = λ _ h _. absurd (not h);
  part = part_job source.before source.after bytes took (omega arith);
}

-- it came to its answer where it finished
pub finished_by : (source : Across) (reads : Bool) (job : List ℕ) (F G : Type 0) → (G → F) → Reads source reads job F → Reads source reads job G
finished_by source reads job F G from r = record {
  told = r.told;
  unread = r.unread;
  whole = λ e g. r.whole e (from g);
  long = λ e g. r.long e (from g);
  part = r.part;
}

-- nothing was taken, and there is no answer
pub no_answer : (source : Across) (reads : Bool) (finished : Type 0) → source.after ≡ source.before → (finished → ⊥)
    → Reads source reads (job_of source.before []) finished
no_answer source reads finished same not =
    let none = no_job source finished same in
    record { told = none.told; unread = λ _. none.unread refl; whole = λ _ h _. absurd (not h); long = λ _ h _. absurd (not h); part = none.part }
