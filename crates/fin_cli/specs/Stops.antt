-- How a mode ends, by what is due and what its ports took.
use Rattle.std.specs.Prelude.{◌≡◌, ◌⊎◌, [], Result, Ok, Err, string_bytes}
use Rattle.fin_base.specs.declared.refusal.Fail.{Fail}
use Rattle.fin_base.specs.declared.refusal.Fail.TheVariants as fail
use Rattle.fin_base.specs.declared.refusal.Refusal.{Refusal}
use Rattle.fin_cli.specs.Due.{Due, refusal_text}
use Rattle.fin_cli.specs.Ends.{Across, Failed, ForDue, Took, TookPart}
use Rattle.fin_cli.specs.declared.outcome.Answer.{Answer}
use Rattle.fin_cli.specs.declared.outcome.Stop.{Stop}
use Rattle.fin_cli.specs.declared.outcome.Stop.TheVariants.{ReadFault, WriteFault, Memory}

-- an answer with the status and the line that are due, after the whole text; else why not
abbrev pub Comes : Across → Across → (Due → Type 0) → Result Answer Stop → Type 0
Comes source out Is (Ok answer) =
    ForDue Is (λ due. (answer.status ≡ due.status) × (string_bytes answer.line ≡ due.err) × Took out due.out)
Comes source out Is (Err ReadFault) = Failed source × Took out []
Comes source out Is (Err WriteFault) = Failed out × ForDue Is (λ due. TookPart out due.out)
Comes source out Is (Err Memory) = Took out [] ⊎ ForDue Is (λ due. TookPart out due.out)

-- the answer to a refusal
abbrev pub Refuses : Refusal → Result Answer Stop → Type 0
Refuses refusal (Ok answer) = (answer.status ≡ 1) × (string_bytes answer.line ≡ refusal_text refusal)
Refuses refusal (Err stop) = stop ≡ Memory

-- the answer to a job without a result
abbrev pub Fails : Fail → Result Answer Stop → Type 0
Fails (fail.Refused refusal) result = Refuses refusal result
Fails (fail.Memory e) result = result ≡ Err Memory
