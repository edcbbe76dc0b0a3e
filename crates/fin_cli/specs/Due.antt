-- What is due: a status, a text on the output, and a line on the error output, for the words and the bytes of the job.
use Rattle.std.specs.Prelude.{◌≡◌, ℕ, ◌<◌, ◌≤◌, Bool, true, false, List, [], ◌∷◌, ◌++◌, length, Option, Some, None, codes, flat_map, option_map, unwrap_or, slice_get}
use Rattle.std.specs.Fmt.{decimal}
use Rattle.fin_base.specs.declared.refusal.Refusal.{Refusal}
use Rattle.fin_base.specs.declared.refusal.Rule.{Rule}
use Rattle.fin_base.specs.declared.refusal.Rule.TheVariants.{J1, J2, S1, S2, S3, N1, N2, N3, F1, F2, X1, X2, X3, X4, X5, X6, L1, L2, L3, L4, L5, L6, L7, M1, M2, M3, M4, M5, B1, B2, B3, U1, U2, C1, C2, C3, C4, C5, W1}
use Rattle.fin_ports.specs.Bytes.{most}
use Rattle.fin_words.specs.declared.mode.Asked.{Asked}
use Rattle.fin_words.specs.declared.mode.Mode.{Mode}
use Rattle.fin_words.specs.declared.mode.Mode.TheVariants.{Run, Check, Plain, Gen}
use Rattle.fin_ast.specs.declared.header.Header.{Header}
use Rattle.fin_ast.specs.declared.checked.Checked.{Checked}
use Rattle.fin_ast.specs.Dense.{function_of}
use Rattle.fin_dense.specs.Plain.{AreStored, IsOver, IsPlain, outputs_from}
use Rattle.fin_simp.specs.Work.{work_of}
use Rattle.fin_engine.specs.Verdict.{Accepts, Breaks, IsJob}
use Rattle.fin_engine.specs.declared.job.Job.{Job}
use Rattle.fin_tensor.specs.declared.outputs.Outputs.{Outputs}
use Rattle.fin_tensor.specs.declared.storage.Storage.{Storage}
use Rattle.fin_text.specs.Tensors.{tensor_text}

pub record Due : Type 0 where
  pub status : ℕ
  pub out : List ℕ
  pub err : List ℕ

-- ---- lines

abbrev pub line : List ℕ → List ℕ
line text = text ++ 10 ∷ []

abbrev pub usage : List ℕ
usage = line (codes "usage: finch run,check,plain,gen [--workers N] [--budget N] [--stats] [--seed N] [--size N]")

abbrev pub read_fault : List ℕ
read_fault = line (codes "read fault")

abbrev pub write_fault : List ℕ
write_fault = line (codes "write fault")

abbrev pub out_of_memory : List ℕ
out_of_memory = line (codes "out of memory")

abbrev pub rule_text : Rule → List ℕ
rule_text J1 = codes "J1"
rule_text J2 = codes "J2"
rule_text S1 = codes "S1"
rule_text S2 = codes "S2"
rule_text S3 = codes "S3"
rule_text N1 = codes "N1"
rule_text N2 = codes "N2"
rule_text N3 = codes "N3"
rule_text F1 = codes "F1"
rule_text F2 = codes "F2"
rule_text X1 = codes "X1"
rule_text X2 = codes "X2"
rule_text X3 = codes "X3"
rule_text X4 = codes "X4"
rule_text X5 = codes "X5"
rule_text X6 = codes "X6"
rule_text L1 = codes "L1"
rule_text L2 = codes "L2"
rule_text L3 = codes "L3"
rule_text L4 = codes "L4"
rule_text L5 = codes "L5"
rule_text L6 = codes "L6"
rule_text L7 = codes "L7"
rule_text M1 = codes "M1"
rule_text M2 = codes "M2"
rule_text M3 = codes "M3"
rule_text M4 = codes "M4"
rule_text M5 = codes "M5"
rule_text B1 = codes "B1"
rule_text B2 = codes "B2"
rule_text B3 = codes "B3"
rule_text U1 = codes "U1"
rule_text U2 = codes "U2"
rule_text C1 = codes "C1"
rule_text C2 = codes "C2"
rule_text C3 = codes "C3"
rule_text C4 = codes "C4"
rule_text C5 = codes "C5"
rule_text W1 = codes "W1"

abbrev pub refusal_text : Refusal → List ℕ
refusal_text r = line (codes "refused " ++ rule_text r.rule ++ codes " line " ++ decimal r.line)

-- ---- outputs

abbrev pub name_of : List Header → ℕ → List ℕ
name_of headers tensor = unwrap_or (option_map (λ (h : Header). h.name) (slice_get headers tensor)) []

-- the text of an output, under its header's name
abbrev pub output_text : List Header → ℕ × Storage → List ℕ
output_text headers output = tensor_text (name_of headers output.0) output.1

-- the texts of outputs, one after another
abbrev pub outputs_text : List Header → List (ℕ × Storage) → List ℕ
outputs_text headers outputs = flat_map (output_text headers) outputs

-- ---- what is due

abbrev pub done : List ℕ → Due
done out = record { status = 0; out = out; err = [] }

abbrev pub refused : Rule → ℕ → Due
refused rule line = record { status = 1; out = []; err = refusal_text (record { rule = rule; line = line }) }

abbrev pub unread : Due
unread = record { status = 2; out = []; err = usage }

-- the text of each output of a job, and a text for the error output
abbrev pub due_outputs : Job → Outputs → List ℕ → Due
due_outputs job outputs told = record { status = 0; out = outputs_text job.checked.program.headers outputs.tensors; err = told }

-- the line of a job's work, where it is asked for
abbrev pub work_text : Bool → ℕ → List ℕ
work_text true work = line (codes "work " ++ decimal work)
work_text false work = []

-- the text of each output of a job, and the line of its work, where that is asked for
abbrev pub due_run : Asked → Job → Outputs → Due
due_run asked job outputs = due_outputs job outputs (work_text asked.stats (work_of job.checked job.inputs))

-- the work of a program is within the budget, and these are the canonical storages of what dense evaluation gives
pub record IsRun (c : Checked) (inputs : List Storage) (budget : ℕ) (outputs : Outputs) : Type 0 where
  pub within : work_of c inputs ≤ budget
  pub stored : AreStored (function_of c inputs) (outputs_from 0 c.program.headers) outputs.tensors

-- what is due for the run of a job that breaks none of the rules before: W1 where its work is over the budget, else the text
-- of each output, and the line of the work where that is asked for
pub data IsDueRun (asked : Asked) (text : List ℕ) : Due → Type 0 where
  over : (job : Job) → IsJob text job → asked.budget < work_of job.checked job.inputs → IsDueRun asked text (refused W1 0)
  whole : (job : Job) (outputs : Outputs) → IsJob text job → IsRun job.checked job.inputs asked.budget outputs
      → IsDueRun asked text (due_run asked job outputs)

-- what is due for the dense evaluation of such a job: B2 where it is over its limits, else the text of each output
pub data IsDuePlain (text : List ℕ) : Due → Type 0 where
  over : (job : Job) → IsJob text job → IsOver job.checked job.inputs → IsDuePlain text (refused B2 0)
  whole : (job : Job) (outputs : Outputs) → IsJob text job → IsPlain job.checked job.inputs outputs
      → IsDuePlain text (due_outputs job outputs [])

-- what is due for a job that is read: its first breach, or else what is due then
pub data IsDueRead (job : List ℕ) (Next : Due → Type 0) : Due → Type 0 where
  too_long : most < length job → IsDueRead job Next (refused J1 0)
  breaks : (rule : Rule) (line : ℕ) → length job ≤ most → Breaks job rule line → IsDueRead job Next (refused rule line)
  passes : (due : Due) → length job ≤ most → Accepts job → Next due → IsDueRead job Next due

-- what is due then in a mode, by what is asked of it
abbrev pub IsDueThen : Asked → Mode → List ℕ → Due → Type 0
IsDueThen asked Run job due = IsDueRun asked job due
IsDueThen asked Check job due = due ≡ done (line (codes "ok"))
IsDueThen asked Plain job due = IsDuePlain job due
IsDueThen asked Gen job due = due ≡ refused S2 0

-- a job is read, but for `gen`
abbrev pub reads_job : Mode → Bool
reads_job Gen = false
reads_job mode = true

-- what is due in a mode; jobs aren't generated yet
abbrev pub IsDueMode : Asked → Mode → List ℕ → Due → Type 0
IsDueMode asked Gen job due = due ≡ refused S2 0
IsDueMode asked mode job due = IsDueRead job (IsDueThen asked mode job) due

-- what is due for what the words ask, with these bytes on the source; words without a reading have the usage line
abbrev pub IsDue : Option Asked → List ℕ → Due → Type 0
IsDue None job due = due ≡ unread
IsDue (Some asked) job due = IsDueMode asked asked.mode job due

abbrev pub reads : Option Asked → Bool
reads None = false
reads (Some asked) = reads_job asked.mode
