-- How a mode ends, by what is due.
use Rattle.std.proofs.Common.{◌≡◌, ◌≢◌, ◌<◌, ◌≤◌, ℕ, true, refl, IsOk, List, [], length, sym, ap, ap₂, subst, inl, inr, arith}
use Rattle.std.specs.Prelude.{All, Ok, Err, Result}
use Rattle.std.specs.Io.KnownBytes.{Appends}
use Rattle.std.proofs.KnownBytes.{Appends-nil}
use Rattle.fin_base.specs.declared.refusal.Refusal.{Refusal}
use Rattle.fin_engine.specs.declared.job.Job.{Job}
use Rattle.fin_tensor.specs.declared.outputs.Outputs.{Outputs}
use Rattle.fin_tensor.specs.declared.storage.Storage.{Storage}
use Rattle.fin_base.specs.declared.refusal.Fail.{Fail}
use Rattle.fin_base.specs.declared.refusal.Rule.TheVariants.{B2, W1}
use Rattle.fin_base.specs.declared.refusal.Fail.TheVariants as fails
use Rattle.fin_ports.specs.Bytes.{most}
use Rattle.fin_words.specs.declared.mode.Asked.{Asked}
use Rattle.fin_words.specs.declared.mode.Mode.{Mode}
use Rattle.fin_words.specs.declared.mode.Mode.TheVariants.{Run, Check, Plain, Gen}
use Rattle.fin_ast.specs.Dense.{function_of}
use Rattle.fin_ast.specs.declared.checked.Checked.{Checked}
use Rattle.fin_ast.specs.declared.header.Header.{Header}
use Rattle.fin_dense.specs.Plain.{AreStored, IsOver, IsPlain, Plains, outputs_from}
use Rattle.fin_dense.proofs.OnePlain.{stored_below}
use Rattle.fin_engine.specs.Verdict.{Accepts, Checks, IsJob}
use Rattle.fin_engine.specs.Run.{IsSpent}
use Rattle.fin_cli.specs.Due.{Due, IsDueMode, IsDuePlain, IsDueRead, IsDueRun, IsDueThen, due_outputs, outputs_text, reads_job, refused}
use Rattle.fin_cli.specs.Ends.{Across, Reads, Took}
use Rattle.fin_cli.specs.Stops.{Comes, Fails, Refuses}
use Rattle.fin_cli.specs.declared.outcome.Answer.{Answer}
use Rattle.fin_cli.specs.declared.outcome.Stop.{Stop}
use Rattle.fin_cli.specs.declared.outcome.Stop.TheVariants.{ReadFault, WriteFault, Memory}

pub nothing : (sink : Across) → sink.after ≡ sink.before → Took sink []
nothing sink same = subst (λ o. Appends sink.before o []) (sym same) (Appends-nil sink.before)

-- a refusal that is due
pub refuses_comes : (refusal : Refusal) (r : Result Answer Stop) (source out : Across) (Is : Due → Type 0) → Refuses refusal r → out.after ≡ out.before
    → Is (refused refusal.rule refusal.line) → Comes source out Is r
refuses_comes refusal (Ok answer) source out Is h same is = (refused refusal.rule refusal.line, is, (h.0, h.1, nothing out same))
refuses_comes refusal (Err stop) source out Is h same is = subst (λ s. Comes source out Is (Err s)) (sym h) (inl (nothing out same))

-- what is due for a job has status 0 or 1
low_run : (asks : Asked) (text : List ℕ) (due : Due) → IsDueRun asks text due → due.status ≤ 1
low_run asks text due (IsDueRun.over job h over) = omega arith
low_run asks text due (IsDueRun.whole job outputs h is) = omega arith

low_plain : (text : List ℕ) (due : Due) → IsDuePlain text due → due.status ≤ 1
low_plain text due (IsDuePlain.over job h over) = omega arith
low_plain text due (IsDuePlain.whole job outputs h is) = omega arith

low_then : (asks : Asked) (mode : Mode) (job : List ℕ) (due : Due) → IsDueThen asks mode job due → due.status ≤ 1
low_then asks Run job due h = low_run asks job due h
low_then asks Check job due h = omega (arith, ap (λ d. d.status) h)
low_then asks Plain job due h = low_plain job due h
low_then asks Gen job due h = omega (arith, ap (λ d. d.status) h)

low_read : (asks : Asked) (mode : Mode) (job : List ℕ) (due : Due) → IsDueRead job (IsDueThen asks mode job) due → due.status ≤ 1
low_read asks mode job due (IsDueRead.too_long many) = omega arith
low_read asks mode job due (IsDueRead.breaks rule line few h) = omega arith
low_read asks mode job due (IsDueRead.passes d few h next) = low_then asks mode job due next

pub low_due : (asks : Asked) (mode : Mode) (job : List ℕ) (due : Due) → IsDueMode asks mode job due → due.status ≤ 1
low_due asks Run job due h = low_read asks Run job due h
low_due asks Check job due h = low_read asks Check job due h
low_due asks Plain job due h = low_read asks Plain job due h
low_due asks Gen job due h = omega (arith, ap (λ d. d.status) h)

-- what comes then, comes of a job that breaks no rule
pub comes_then : (job : List ℕ) (Next : Due → Type 0) (source out : Across) (r : Result Answer Stop) → length job ≤ most → Accepts job → Comes source out Next r → Comes source out (IsDueRead job Next) r
comes_then job Next source out (Ok answer) few a (due, next, h) = (due, IsDueRead.passes due few a next, h)
comes_then job Next source out (Err ReadFault) few a h = h
comes_then job Next source out (Err WriteFault) few a (failed, (due, next, h)) = (failed, (due, IsDueRead.passes due few a next, h))
comes_then job Next source out (Err Memory) few a h = elim h [ inl empty ↦ inl empty | inr part ↦ inr (part.0, IsDueRead.passes part.0 few a part.1, part.2) ]

-- a job that breaks a rule
pub comes_failed : (job : List ℕ) (Next : Due → Type 0) (source out : Across) (fail : Fail) (r : Result Answer Stop) → length job ≤ most → Checks job (Err fail) → Fails fail r
    → out.after ≡ out.before → Comes source out (IsDueRead job Next) r
comes_failed job Next source out (fails.Refused refusal) r few breaks h same = refuses_comes refusal r source out (IsDueRead job Next) h same (IsDueRead.breaks refusal.rule refusal.line few breaks)
comes_failed job Next source out (fails.Memory e) r few breaks h same = subst (Comes source out (IsDueRead job Next)) (sym h) (inl (nothing out same))

-- a job whose evaluation is over its limits
pub comes_over : (text : List ℕ) (job : Job) (inputs : List Storage) (source out : Across) (fail : Fail) (r : Result Answer Stop) → IsJob text job → inputs ≡ job.inputs
    → Plains job.checked inputs (Err fail) → Fails fail r → out.after ≡ out.before → Comes source out (IsDuePlain text) r
comes_over text job inputs source out (fails.Refused refusal) r is given over h same =
    refuses_comes (record { rule = B2; line = 0 }) r source out (IsDuePlain text) (subst (λ (x : Refusal). Refuses x r) over.0 h) same
    (IsDuePlain.over job is (subst (IsOver job.checked) given over.1))
comes_over text job inputs source out (fails.Memory e) r is given over h same = subst (Comes source out (IsDuePlain text)) (sym h) (inl (nothing out same))

-- a job whose work is over the budget
pub comes_spent : (asks : Asked) (text : List ℕ) (job : Job) (source out : Across) (fail : Fail) (r : Result Answer Stop) → IsJob text job
    → IsSpent job.checked job.inputs asks.budget fail → Fails fail r → out.after ≡ out.before → Comes source out (IsDueRun asks text) r
comes_spent asks text job source out (fails.Refused refusal) r is spent h same =
    refuses_comes (record { rule = W1; line = 0 }) r source out (IsDueRun asks text) (subst (λ (x : Refusal). Refuses x r) spent.0 h) same
    (IsDueRun.over job is spent.1)
comes_spent asks text job source out (fails.Memory e) r is spent h same = subst (Comes source out (IsDueRun asks text)) (sym h) (inl (nothing out same))

-- ---- outputs that were computed

-- what comes as one thing that is due, comes as what is due
pub comes_as : (due : Due) (Is : Due → Type 0) (source out : Across) (r : Result Answer Stop) → Is due → Comes source out (λ (d : Due). d ≡ due) r → Comes source out Is r
comes_as due Is source out (Ok answer) is (d, same, h) = (d, subst Is (sym same) is, h)
comes_as due Is source out (Err ReadFault) is h = h
comes_as due Is source out (Err WriteFault) is (failed, (d, same, h)) = (failed, (d, subst Is (sym same) is, h))
comes_as due Is source out (Err Memory) is h = elim h [ inl empty ↦ inl empty | inr part ↦ inr (part.0, subst Is (sym part.1) is, part.2) ]

-- the outputs of dense evaluation are due
pub plain_is : (text : List ℕ) (job : Job) (inputs : List Storage) (outputs : Outputs) → IsJob text job → inputs ≡ job.inputs → IsPlain job.checked inputs outputs
    → IsDuePlain text (due_outputs job outputs [])
plain_is text job inputs outputs is given plain = IsDuePlain.whole job outputs is (subst (λ (x : List Storage). IsPlain job.checked x outputs) given plain)

-- the text that is written is the text that is due
pub text_is : (job : Job) (outputs : Outputs) (told : List ℕ) (headers : List Header) (written : List (ℕ × Storage)) → headers ≡ job.checked.program.headers → written ≡ outputs.tensors
    → outputs_text headers written ≡ (due_outputs job outputs told).out
text_is job outputs told headers written h o = ap₂ outputs_text h o

-- the number of each output is that of a header
pub are_named : (c : Checked) (inputs : List Storage) (outputs : Outputs) (headers : List Header) (written : List (ℕ × Storage)) → AreStored (function_of c inputs) (outputs_from 0 c.program.headers) outputs.tensors
    → headers ≡ c.program.headers → written ≡ outputs.tensors → All (λ (output : ℕ × Storage). output.0 < length headers) written
are_named c inputs outputs headers written is h o =
    let there : All (λ (output : ℕ × Storage). output.0 < length c.program.headers) outputs.tensors =
    λ k d lt. omega (arith, stored_below (function_of c inputs) 0 c.program.headers outputs.tensors k d is lt) in
    subst (λ (hs : List Header). All (λ (output : ℕ × Storage). output.0 < length hs) written) (sym h)
    (subst (All (λ (output : ℕ × Storage). output.0 < length c.program.headers)) (sym o) there)

-- what comes of a mode that reads a job
pub comes_of_mode : (asks : Asked) (mode : Mode) (source out : Across) (job : List ℕ) (r : Result Answer Stop) → mode ≢ Gen → Reads source true job (IsOk r) → Comes source out (IsDueRead job (IsDueThen asks mode job)) r
    → (x : List ℕ) × Reads source (reads_job mode) x (IsOk r) × Comes source out (IsDueMode asks mode x) r
comes_of_mode asks Run source out job r other reads comes = (job, reads, comes)
comes_of_mode asks Check source out job r other reads comes = (job, reads, comes)
comes_of_mode asks Plain source out job r other reads comes = (job, reads, comes)
comes_of_mode asks Gen source out job r other reads comes = absurd (other refl)
