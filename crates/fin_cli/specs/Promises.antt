-- What a call promises, in plain words.
use Rattle.std.specs.Prelude.{◌≡◌, ◌≢◌, ℕ, ◌<◌, ◌≤◌, ◌⊎◌, List, [], IfSome, Some, None, codes, length}
use Rattle.std.specs.Io.KnownBytes.{Consumes, IsAtEnd, Keeps}
use Rattle.std.specs.declared.option.Option.{Option}
use Rattle.fin_base.specs.declared.refusal.Rule.{Rule}
use Rattle.fin_base.specs.declared.refusal.Rule.TheVariants.{B2, J1, W1}
use Rattle.fin_ports.specs.Bytes.{most}
use Rattle.fin_words.specs.declared.mode.Asked.{Asked}
use Rattle.fin_words.specs.declared.mode.Mode.{Mode}
use Rattle.fin_words.specs.declared.mode.Mode.TheVariants.{Run, Check, Plain, Gen}
use Rattle.fin_dense.specs.Plain.{IsOver, IsPlain}
use Rattle.fin_simp.specs.Work.{work_of}
use Rattle.fin_engine.specs.Run.{StoresAll}
use Rattle.fin_engine.specs.Verdict.{Accepts, Breaks, IsJob}
use Rattle.fin_engine.specs.declared.job.Job.{Job}
use Rattle.fin_tensor.specs.declared.outputs.Outputs.{Outputs}
use Rattle.fin_cli.specs.Due.{Due, IsDue, IsRun, line, outputs_text, refusal_text, usage, work_text}
use Rattle.fin_cli.specs.Ends.{Across, Failed, Serves, Took}

-- The outputs of a job in a mode that writes some: the canonical storages of the functions that dense evaluation gives. In `run`
-- the work is within the budget, in `plain` few loop turns are made.
abbrev pub AreOutputs : ℕ → Mode → Job → Outputs → Type 0
AreOutputs budget Run job outputs = IsRun job.checked job.inputs budget outputs
AreOutputs budget Plain job outputs = IsPlain job.checked job.inputs outputs
AreOutputs budget Check job outputs = ⊥
AreOutputs budget Gen job outputs = ⊥

-- In this mode, status 0: the source was read to its end, and the output took exactly, for the job whose text it had left, the
-- text of each output in the order of headers, which is that of the canonical storage of the function that dense evaluation gives.
abbrev pub WritesExactly : Mode → Option Asked → Across → Across → ℕ → Type 0
WritesExactly mode asked source out status = (a : Asked) → asked ≡ Some a → a.mode ≡ mode → status ≡ 0 →
    (text : List ℕ) × IfSome source.before (λ bytes. text ≡ bytes) × Consumes source.before source.after text × IsAtEnd source.after
    × (job : Job) × IsJob text job × (outputs : Outputs) × AreOutputs a.budget mode job outputs
    × Took out (outputs_text job.checked.program.headers outputs.tensors)

-- Where no count of faults rose, the call ends as it is due for the bytes that the source had left, or by want of memory.
abbrev pub Completes : Option Asked → Across → Across → Across → ℕ → Type 0
Completes asked source out err status = (job : List ℕ) → source.before ≡ Some job
    → (Failed source → ⊥) → (Failed out → ⊥) → (Failed err → ⊥)
    → (status ≡ 5) ⊎ ((status ≤ 2) × ((due : Due) → IsDue asked job due → (status ≡ due.status) × Took out due.out × Took err due.err))

-- Status 0: the output took exactly the first text, and the error output the other.
abbrev pub Gives : List ℕ → List ℕ → Across → Across → ℕ → Type 0
Gives text told out err status = (status ≡ 0) × Took out text × Took err told

-- Status 0, with the texts of some outputs of a job, of which this holds, and that on the error output.
abbrev pub GivesOutputs : (Outputs → Type 0) → List ℕ → Job → Across → Across → ℕ → Type 0
GivesOutputs Are told job out err status =
    (outputs : Outputs) × Are outputs × Gives (outputs_text job.checked.program.headers outputs.tensors) told out err status

-- The line of the work of the job that this is the text of, where it is asked for.
abbrev pub TellsWork : Asked → List ℕ → Across → Type 0
TellsWork a text err = (job : Job) × IsJob text job × Took err (work_text a.stats (work_of job.checked job.inputs))

-- What the error output took with status 0, by the mode.
abbrev pub Tells : Asked → Mode → List ℕ → Across → Type 0
Tells a Run text err = TellsWork a text err
Tells a Check text err = Took err []
Tells a Plain text err = Took err []
Tells a Gen text err = Took err []

-- With status 0 the error output took exactly the line `work N` where `run --stats` was asked, N the work of the job whose
-- text the source had left, and else nothing.
abbrev pub TellsExactly : Option Asked → Across → Across → ℕ → Type 0
TellsExactly asked source err status = (a : Asked) → asked ≡ Some a → status ≡ 0 →
    (text : List ℕ) × IfSome source.before (λ bytes. text ≡ bytes) × Tells a a.mode text err

-- Status 1: the output took nothing, and the error output the line of this rule.
abbrev pub Refuses : Rule → ℕ → Across → Across → ℕ → Type 0
Refuses rule line out err status = (status ≡ 1) × Took out [] × Took err (refusal_text (record { rule = rule; line = line }))

-- The answer to a text. One that is accepted is run where its work is within the budget, and gives the canonical storages of what
-- dense evaluation gives, with the line of its work where `--stats` is asked; over the budget it is refused by W1. `plain` gives the
-- same storages and no line, or refuses by B2 what is over its limits; `check` says that the text is accepted. A text that breaks a
-- rule is refused by that rule on its line, and one that is too long by J1.
pub record Answers (a : Asked) (text : List ℕ) (out err : Across) (status : ℕ) : Type 0 where
  pub runs : a.mode ≡ Run → length text ≤ most → (job : Job) → IsJob text job → work_of job.checked job.inputs ≤ a.budget
      → GivesOutputs (StoresAll job.checked job.inputs) (work_text a.stats (work_of job.checked job.inputs)) job out err status
  pub spends : a.mode ≡ Run → length text ≤ most → (job : Job) → IsJob text job → a.budget < work_of job.checked job.inputs
      → Refuses W1 0 out err status
  pub evaluates : a.mode ≡ Plain → length text ≤ most → (job : Job) → IsJob text job
      → GivesOutputs (IsPlain job.checked job.inputs) [] job out err status ⊎ (IsOver job.checked job.inputs × Refuses B2 0 out err status)
  pub accepts : a.mode ≡ Check → length text ≤ most → Accepts text → Gives (line (codes "ok")) [] out err status
  pub breaks : a.mode ≢ Gen → length text ≤ most → (rule : Rule) (line : ℕ) → Breaks text rule line → Refuses rule line out err status
  pub too_long : a.mode ≢ Gen → most < length text → Refuses J1 0 out err status

-- Where no count of faults rose, the text that the source had left has its answer, but for want of memory.
abbrev pub AnswersWhole : Option Asked → Across → Across → Across → ℕ → Type 0
AnswersWhole asked source out err status = (a : Asked) → asked ≡ Some a → (text : List ℕ) → source.before ≡ Some text
    → (Failed source → ⊥) → (Failed out → ⊥) → (Failed err → ⊥)
    → (status ≡ 5) ⊎ Answers a text out err status

-- Words without a reading have status 2, but for a fault of the error output and want of memory.
abbrev pub IsUnasked : Option Asked → Across → ℕ → Type 0
IsUnasked asked err status = asked ≡ None → (status ≡ 2) ⊎ ((status ≡ 5) ⊎ ((status ≡ 4) × Failed err))

-- Status 2 is for words without a reading: then the source is unread, the output took nothing, and the error output the usage line.
abbrev pub UsesExactly : Option Asked → Across → Across → Across → ℕ → Type 0
UsesExactly asked source out err status =
    (status ≡ 2 → (asked ≡ None) × Keeps source.before source.after × Took out [] × Took err usage)
    × IsUnasked asked err status

-- A fault is answered only where its count rose in this call.
abbrev pub HasCauses : Across → Across → Across → ℕ → Type 0
HasCauses source out err status = (status ≡ 3 → Failed source) × (status ≡ 4 → Failed out ⊎ Failed err)

-- With status 1, 2 or 3 the output took nothing.
abbrev pub IsSilent : Across → ℕ → Type 0
IsSilent out status = 1 ≤ status → status ≤ 3 → Took out []

-- All of it, for all words.
pub record Promises (asked : Option Asked) (source out err : Across) (Within : List ℕ → Type 0) (status : ℕ) : Type 0 where
  pub headline : WritesExactly Run asked source out status
  pub plain : WritesExactly Plain asked source out status
  pub answers : AnswersWhole asked source out err status
  pub completeness : Completes asked source out err status
  pub usage : UsesExactly asked source out err status
  pub causes : HasCauses source out err status
  pub silent : IsSilent out status
  pub telling : TellsExactly asked source err status
  pub serves : Serves asked source out err Within status
