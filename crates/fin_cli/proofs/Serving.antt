-- A call that comes to nothing.
use Rattle.std.proofs.Common.{◌≡◌, ◌≤◌, ℕ, List, [], inl, arith}
use Rattle.std.specs.declared.option.Option.{Option}
use Rattle.fin_words.specs.declared.mode.Asked.{Asked}
use Rattle.fin_cli.specs.Due.{IsDue, out_of_memory, reads}
use Rattle.fin_cli.specs.Ends.{Across, Serves, Tries}
use Rattle.fin_cli.proofs.Comings.{nothing}
use Rattle.fin_cli.proofs.Endings.{ends_memory}
use Rattle.fin_cli.proofs.Jobs.{job_of, no_answer}

-- want of memory before the ports are touched
pub serves_memory : (asked : Option Asked) (source out err : Across) (Within : List ℕ → Type 0) → source.after ≡ source.before → out.after ≡ out.before
    → Tries err out_of_memory → Serves asked source out err Within 5
serves_memory asked source out err Within unread unput tries =
    let job = job_of source.before [] in
    (job, no_answer source (reads asked) (5 ≤ 2) unread (λ h. omega arith), ends_memory source out err Within (IsDue asked job) (inl (nothing out unput)) tries)
