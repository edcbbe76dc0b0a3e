-- One answer is due.
use Rattle.std.proofs.Common.{◌≡◌, ◌<◌, ◌∙◌, ℕ, List, [], Some, None, refl, sym, ap₂, subst, arith}
use Rattle.std.specs.declared.option.Option.{Option}
use Rattle.fin_dense.specs.Plain.{IsOver, IsPlain}
use Rattle.fin_ast.specs.Dense.{function_of}
use Rattle.fin_dense.specs.Plain.{outputs_from}
use Rattle.fin_simp.specs.Work.{work_of}
use Rattle.fin_dense.proofs.OnePlain.{one_plain, one_stored, plain_or_over}
use Rattle.fin_engine.specs.declared.job.Job.{Job}
use Rattle.fin_engine.proofs.Verdicts.{accepted_or_not, one_breach, one_job}
use Rattle.fin_tensor.specs.declared.outputs.Outputs.{Outputs}
use Rattle.fin_words.specs.declared.mode.Asked.{Asked}
use Rattle.fin_words.specs.declared.mode.Mode.{Mode}
use Rattle.fin_words.specs.declared.mode.Mode.TheVariants.{Run, Check, Plain, Gen}
use Rattle.fin_tensor.specs.declared.storage.Storage.{Storage}
use Rattle.fin_cli.specs.Due.{Due, IsDue, IsDueMode, IsDuePlain, IsDueRead, IsDueRun, IsDueThen, IsRun, due_outputs, due_run, refused}

-- a job's outputs are one, or it is over the limits
one_text : (j k : Job) (o p : Outputs) → j ≡ k → IsPlain j.checked j.inputs o → IsPlain k.checked k.inputs p
    → due_outputs j o [] ≡ due_outputs k p []
one_text j k o p e h l =
    let same : o ≡ p = one_plain k.checked k.inputs o p (subst (λ (x : Job). IsPlain x.checked x.inputs o) e h) l in
    ap₂ (λ (x : Job) (y : Outputs). due_outputs x y []) e same

not_both : (j k : Job) (o : Outputs) → j ≡ k → IsPlain j.checked j.inputs o → IsOver k.checked k.inputs → ⊥
not_both j k o e h over = plain_or_over k.checked k.inputs o (subst (λ (x : Job). IsPlain x.checked x.inputs o) e h) over

one_plain_due : (text : List ℕ) (d e : Due) → IsDuePlain text d → IsDuePlain text e → d ≡ e
one_plain_due text d e (IsDuePlain.over j h over) (IsDuePlain.over k l more) = refl
one_plain_due text d e (IsDuePlain.over j h over) (IsDuePlain.whole k o l is) = absurd (not_both k j o (one_job text k j l h) is over)
one_plain_due text d e (IsDuePlain.whole j o h is) (IsDuePlain.over k l over) = absurd (not_both j k o (one_job text j k h l) is over)
one_plain_due text d e (IsDuePlain.whole j o h is) (IsDuePlain.whole k p l more) = one_text j k o p (one_job text j k h l) is more

-- the outputs of a run are one, or its work is over the budget
one_run : (asks : Asked) (j k : Job) (o p : Outputs) → j ≡ k → IsRun j.checked j.inputs asks.budget o → IsRun k.checked k.inputs asks.budget p → due_run asks j o ≡ due_run asks k p
one_run asks j k o p e h l =
    let mine : IsRun k.checked k.inputs asks.budget o = subst (λ (x : Job). IsRun x.checked x.inputs asks.budget o) e h in
    let same = one_stored (function_of k.checked k.inputs) (outputs_from 0 k.checked.program.headers) o.tensors p.tensors mine.stored l.stored in
    ap₂ (λ (x : Job) (tensors : List (ℕ × Storage)). due_run asks x (record { tensors = tensors })) e same

within_or_over : (budget : ℕ) (j k : Job) (o : Outputs) → j ≡ k → IsRun j.checked j.inputs budget o → budget < work_of k.checked k.inputs → ⊥
within_or_over budget j k o e h over = let mine : IsRun k.checked k.inputs budget o = subst (λ (x : Job). IsRun x.checked x.inputs budget o) e h in let le = mine.within in omega (arith, le, over)

one_run_due : (asks : Asked) (text : List ℕ) (d e : Due) → IsDueRun asks text d → IsDueRun asks text e → d ≡ e
one_run_due asks text d e (IsDueRun.over j h over) (IsDueRun.over k l more) = refl
one_run_due asks text d e (IsDueRun.over j h over) (IsDueRun.whole k o l is) = absurd (within_or_over asks.budget k j o (one_job text k j l h) is over)
one_run_due asks text d e (IsDueRun.whole j o h is) (IsDueRun.over k l over) = absurd (within_or_over asks.budget j k o (one_job text j k h l) is over)
one_run_due asks text d e (IsDueRun.whole j o h is) (IsDueRun.whole k p l more) = one_run asks j k o p (one_job text j k h l) is more

one_then : (asks : Asked) (mode : Mode) (job : List ℕ) (d e : Due) → IsDueThen asks mode job d → IsDueThen asks mode job e → d ≡ e
one_then asks Run job d e h k = one_run_due asks job d e h k
one_then asks Check job d e h k = h ∙ sym k
one_then asks Plain job d e h k = one_plain_due job d e h k
one_then asks Gen job d e h k = h ∙ sym k

one_read : (asks : Asked) (mode : Mode) (job : List ℕ) (d e : Due) → IsDueRead job (IsDueThen asks mode job) d → IsDueRead job (IsDueThen asks mode job) e → d ≡ e
one_read asks mode job d e (IsDueRead.too_long many) (IsDueRead.too_long more) = refl
one_read asks mode job d e (IsDueRead.too_long many) (IsDueRead.breaks rule line few k) = absurd (omega arith)
one_read asks mode job d e (IsDueRead.too_long many) (IsDueRead.passes f few k next) = absurd (omega arith)
one_read asks mode job d e (IsDueRead.breaks rule line few h) (IsDueRead.too_long many) = absurd (omega arith)
one_read asks mode job d e (IsDueRead.breaks rule line few h) (IsDueRead.breaks other place less k) = let same = one_breach job rule other line place h k in ap₂ refused same.0 same.1
one_read asks mode job d e (IsDueRead.breaks rule line few h) (IsDueRead.passes f less k next) = absurd (accepted_or_not job rule line k h)
one_read asks mode job d e (IsDueRead.passes f few h next) (IsDueRead.too_long many) = absurd (omega arith)
one_read asks mode job d e (IsDueRead.passes f few h next) (IsDueRead.breaks rule line less k) = absurd (accepted_or_not job rule line h k)
one_read asks mode job d e (IsDueRead.passes f few h next) (IsDueRead.passes g less k more) = one_then asks mode job d e next more

one_mode : (asks : Asked) (mode : Mode) (job : List ℕ) (d e : Due) → IsDueMode asks mode job d → IsDueMode asks mode job e → d ≡ e
one_mode asks Run job d e h k = one_read asks Run job d e h k
one_mode asks Check job d e h k = one_read asks Check job d e h k
one_mode asks Plain job d e h k = one_read asks Plain job d e h k
one_mode asks Gen job d e h k = h ∙ sym k

pub one_due : (asked : Option Asked) (job : List ℕ) (d e : Due) → IsDue asked job d → IsDue asked job e → d ≡ e
one_due None job d e h k = h ∙ sym k
one_due (Some asked) job d e h k = one_mode asked asked.mode job d e h k
