-- The answer to a text, by what is due for it.
use Rattle.std.proofs.Common.{◌≡◌, ◌≢◌, ◌<◌, ◌≤◌, ◌⊎◌, ℕ, List, [], length, refl, ap, ap₂, subst, inl, inr, arith}
use Rattle.std.specs.Prelude.{Option, codes}
use Rattle.fin_base.specs.declared.refusal.Rule.{Rule}
use Rattle.fin_base.specs.declared.refusal.Rule.TheVariants.{B2, J1, W1}
use Rattle.fin_ports.specs.Bytes.{most}
use Rattle.fin_words.specs.declared.mode.Asked.{Asked}
use Rattle.fin_words.specs.declared.mode.Mode.{Mode}
use Rattle.fin_words.specs.declared.mode.Mode.TheVariants.{Run, Check, Plain, Gen}
use Rattle.fin_dense.specs.Plain.{IsOver, IsPlain}
use Rattle.fin_simp.specs.Work.{work_of}
use Rattle.fin_engine.specs.Run.{StoresAll}
use Rattle.fin_engine.specs.Verdict.{Accepts, Breaks, IsJob}
use Rattle.fin_engine.specs.declared.job.Job.{Job}
use Rattle.fin_engine.proofs.Verdicts.{accepted_or_not, one_breach, one_job}
use Rattle.fin_tensor.specs.declared.outputs.Outputs.{Outputs}
use Rattle.fin_cli.specs.Due.{Due, IsDue, IsDueMode, IsDuePlain, IsDueRead, IsDueRun, IsDueThen, done, due_outputs, due_run, line, refused}
use Rattle.fin_cli.specs.Ends.{Across, Finished, Serves, Took}
use Rattle.fin_cli.specs.Promises.{Answers, AnswersWhole}
use Rattle.fin_cli.proofs.Promised.{finished_or_not}

-- ---- what is due for a text

-- a text that is accepted is no longer than it may be, and breaks no rule
accepted_due : (text : List ℕ) (Next : Due → Type 0) (due : Due) → length text ≤ most → Accepts text → IsDueRead text Next due → Next due
accepted_due text Next due few a (IsDueRead.too_long many) = absurd (omega arith)
accepted_due text Next due few a (IsDueRead.breaks rule line less h) = absurd (accepted_or_not text rule line a h)
accepted_due text Next due few a (IsDueRead.passes d less b next) = next

broken_due : (text : List ℕ) (Next : Due → Type 0) (due : Due) (rule : Rule) (line : ℕ) → length text ≤ most → Breaks text rule line → IsDueRead text Next due → due ≡ refused rule line
broken_due text Next due rule line few h (IsDueRead.too_long many) = absurd (omega arith)
broken_due text Next due rule line few h (IsDueRead.breaks other place less k) = let same = one_breach text other rule place line k h in ap₂ refused same.0 same.1
broken_due text Next due rule line few h (IsDueRead.passes d less a next) = absurd (accepted_or_not text rule line a h)

long_due : (text : List ℕ) (Next : Due → Type 0) (due : Due) → most < length text → IsDueRead text Next due → due ≡ refused J1 0
long_due text Next due many (IsDueRead.too_long more) = refl
long_due text Next due many (IsDueRead.breaks rule line few h) = absurd (omega arith)
long_due text Next due many (IsDueRead.passes d few a next) = absurd (omega arith)

-- a run within the budget
within_due : (asks : Asked) (text : List ℕ) (due : Due) (job : Job) → IsJob text job → work_of job.checked job.inputs ≤ asks.budget → IsDueRun asks text due
    → (outputs : Outputs) × StoresAll job.checked job.inputs outputs × (due ≡ due_run asks job outputs)
within_due asks text due job is within (IsDueRun.over k h over) =
    let more : asks.budget < work_of job.checked job.inputs = subst (λ (x : Job). asks.budget < work_of x.checked x.inputs) (one_job text k job h is) over in
    absurd (omega arith)
within_due asks text due job is within (IsDueRun.whole k outputs h run) =
    let same = one_job text k job h is in
    (outputs, subst (λ (x : Job). StoresAll x.checked x.inputs outputs) same run.stored, ap (λ (x : Job). due_run asks x outputs) same)

-- and over it
over_due : (asks : Asked) (text : List ℕ) (due : Due) (job : Job) → IsJob text job → asks.budget < work_of job.checked job.inputs → IsDueRun asks text due → due ≡ refused W1 0
over_due asks text due job is over (IsDueRun.over k h more) = refl
over_due asks text due job is over (IsDueRun.whole k outputs h run) =
    let le = run.within in
    let within : work_of job.checked job.inputs ≤ asks.budget = subst (λ (x : Job). work_of x.checked x.inputs ≤ asks.budget) (one_job text k job h is) le in
    absurd (omega arith)

plain_due : (text : List ℕ) (due : Due) (job : Job) → IsJob text job → IsDuePlain text due
    → ((outputs : Outputs) × IsPlain job.checked job.inputs outputs × (due ≡ due_outputs job outputs [])) ⊎ (IsOver job.checked job.inputs × (due ≡ refused B2 0))
plain_due text due job is (IsDuePlain.over k h over) = inr (subst (λ (x : Job). IsOver x.checked x.inputs) (one_job text k job h is) over, refl)
plain_due text due job is (IsDuePlain.whole k outputs h plain) =
    let same = one_job text k job h is in
    inl (outputs, subst (λ (x : Job). IsPlain x.checked x.inputs outputs) same plain, ap (λ (x : Job). due_outputs x outputs []) same)

read_due : (asks : Asked) (mode : Mode) (text : List ℕ) (due : Due) → mode ≢ Gen → IsDueMode asks mode text due → IsDueRead text (IsDueThen asks mode text) due
read_due asks Run text due other is = is
read_due asks Check text due other is = is
read_due asks Plain text due other is = is
read_due asks Gen text due other is = absurd (other refl)

-- ---- what was written

-- the status and both texts are those that are due
abbrev Came : Across → Across → ℕ → Due → Type 0
Came out err status due = (status ≡ due.status) × Took out due.out × Took err due.err

answers : (a : Asked) (text : List ℕ) (out err : Across) (status : ℕ) → Finished out err (IsDueMode a a.mode text) status → Answers a text out err status
answers a text out err status (due, is, came) = record {
  runs = λ mode few job h within.
      let w = within_due a text due job h within (accepted_due text (IsDueRun a text) due few (job, h) (subst (λ m. IsDueMode a m text due) mode is)) in
      (w.0, w.1, subst (Came out err status) w.2 came);
  spends = λ mode few job h over.
      let w = over_due a text due job h over (accepted_due text (IsDueRun a text) due few (job, h) (subst (λ m. IsDueMode a m text due) mode is)) in
      subst (Came out err status) w came;
  evaluates = λ mode few job h.
      let w = plain_due text due job h (accepted_due text (IsDuePlain text) due few (job, h) (subst (λ m. IsDueMode a m text due) mode is)) in
      elim w [
        | inl whole ↦ inl (whole.0, whole.1, subst (Came out err status) whole.2 came)
        | inr over ↦ inr (over.0, subst (Came out err status) over.1 came)
      ];
  accepts = λ mode few h.
      let w = accepted_due text (λ d. d ≡ done (line (codes "ok"))) due few h (subst (λ m. IsDueMode a m text due) mode is) in
      subst (Came out err status) w came;
  breaks = λ other few rule place h.
      subst (Came out err status) (broken_due text (IsDueThen a a.mode text) due rule place few h (read_due a a.mode text due other is)) came;
  too_long = λ other many.
      subst (Came out err status) (long_due text (IsDueThen a a.mode text) due many (read_due a a.mode text due other is)) came;
}

pub answers_whole : (asked : Option Asked) (source out err : Across) (Within : List ℕ → Type 0) (status : ℕ) → Serves asked source out err Within status → AnswersWhole asked source out err status
answers_whole asked source out err Within status serves a is text told quiet calm still =
    elim (finished_or_not asked source out err Within status text told serves quiet calm still) [
      | inl five ↦ inl five
      | inr h ↦ inr (answers a text out err status (subst (λ (o : Option Asked). Finished out err (IsDue o text) status) is h.1))
    ]
