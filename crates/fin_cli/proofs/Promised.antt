-- What follows from how a call ends.
use Rattle.std.proofs.Common.{◌≡◌, ◌∙◌, ◌≤◌, ◌⊎◌, ℕ, List, [], length, Bool, true, false, refl, sym, ap, subst, inl, inr, arith}
use Rattle.std.specs.Prelude.{Some, None, IfSome, Option}
use Rattle.std.proofs.lemmas.Bool.{cases_eq, cases_lt}
use Rattle.fin_ports.specs.Bytes.{most}
use Rattle.fin_words.specs.declared.mode.Asked.{Asked}
use Rattle.fin_words.specs.declared.mode.Mode.{Mode}
use Rattle.fin_words.specs.declared.mode.Mode.TheVariants.{Run, Check, Plain, Gen}
use Rattle.fin_engine.specs.Verdict.{IsJob}
use Rattle.fin_engine.specs.declared.job.Job.{Job}
use Rattle.fin_tensor.specs.declared.outputs.Outputs.{Outputs}
use Rattle.fin_cli.specs.Due.{Due, IsDue, IsDueMode, IsDuePlain, IsDueRead, IsDueRun, IsDueThen, outputs_text, reads_job, unread}
use Rattle.fin_cli.specs.Ends.{Across, Failed, Finished, Serves, Took, Unwritten}
use Rattle.fin_cli.specs.Promises.{AreOutputs, Completes, HasCauses, IsSilent, IsUnasked, Tells, TellsExactly, UsesExactly, WritesExactly}
use Rattle.fin_cli.proofs.Comings.{low_due}
use Rattle.fin_cli.proofs.OneDue.{one_due}

-- where status 0 is due in a mode that writes outputs, they are those of a job
record Written (budget : ℕ) (mode : Mode) (text : List ℕ) (due : Due) : Type 0 where
  few : length text ≤ most
  job : Job
  stands : IsJob text job
  outputs : Outputs
  are : AreOutputs budget mode job outputs
  text_is : due.out ≡ outputs_text job.checked.program.headers outputs.tensors

run_written : (asks : Asked) (text : List ℕ) (due : Due) → length text ≤ most → IsDueRun asks text due → due.status ≡ 0 → Written asks.budget Run text due
run_written asks text due few (IsDueRun.over job h over) zero = absurd (omega arith)
run_written asks text due few (IsDueRun.whole job outputs h is) zero = record { few = few; job = job; stands = h; outputs = outputs; are = is; text_is = refl }

plain_written : (budget : ℕ) (text : List ℕ) (due : Due) → length text ≤ most → IsDuePlain text due → due.status ≡ 0 → Written budget Plain text due
plain_written budget text due few (IsDuePlain.over job h over) zero = absurd (omega arith)
plain_written budget text due few (IsDuePlain.whole job outputs h is) zero = record { few = few; job = job; stands = h; outputs = outputs; are = is; text_is = refl }

read_written : (budget : ℕ) (mode : Mode) (text : List ℕ) (Next : Due → Type 0) (due : Due) → ((d : Due) → length text ≤ most → Next d → d.status ≡ 0 → Written budget mode text d)
    → IsDueRead text Next due → due.status ≡ 0 → Written budget mode text due
read_written budget mode text Next due then (IsDueRead.too_long many) zero = absurd (omega arith)
read_written budget mode text Next due then (IsDueRead.breaks rule line few h) zero = absurd (omega arith)
read_written budget mode text Next due then (IsDueRead.passes d few a next) zero = then due few next zero

abbrev pub writes_outputs : Mode → Bool
writes_outputs Run = true
writes_outputs Check = false
writes_outputs Plain = true
writes_outputs Gen = false

mode_written : (asks : Asked) (mode : Mode) (text : List ℕ) (due : Due) → writes_outputs mode ≡ true → IsDueMode asks mode text due → due.status ≡ 0 → Written asks.budget mode text due
mode_written asks Run text due e is zero = read_written asks.budget Run text (IsDueRun asks text) due (λ d few h z. run_written asks text d few h z) is zero
mode_written asks Check text due e is zero = cc
mode_written asks Plain text due e is zero = read_written asks.budget Plain text (IsDuePlain text) due (λ d few h z. plain_written asks.budget text d few h z) is zero
mode_written asks Gen text due e is zero = cc

read_where_written : (mode : Mode) → writes_outputs mode ≡ true → reads_job mode ≡ true
read_where_written Run e = refl
read_where_written Check e = refl
read_where_written Plain e = refl
read_where_written Gen e = cc

pub writes_exactly : (mode : Mode) (asked : Option Asked) (source out err : Across) (Within : List ℕ → Type 0) (status : ℕ)
    → writes_outputs mode ≡ true → Serves asked source out err Within status → WritesExactly mode asked source out status
writes_exactly mode None source out err Within status writes (text, reads, ends) a is asks zero = cc
writes_exactly mode (Some asked) source out err Within status writes (text, reads, ends) a is asks zero =
    let small : status ≤ 2 = omega arith in
    let f = ends.finished small in
    let due = f.0 in
    let due_zero : due.status ≡ 0 = sym f.2.0 ∙ zero in
    let same : asked ≡ a = cc in
    let in_mode : asked.mode ≡ mode = ap (λ x. x.mode) same ∙ asks in
    let here : writes_outputs asked.mode ≡ true = ap writes_outputs in_mode ∙ writes in
    let w = mode_written asked asked.mode text due here f.1 due_zero in
    let whole = reads.whole (read_where_written asked.mode here) small w.few in
    let are : AreOutputs a.budget mode w.job w.outputs = subst (λ (m : Mode). AreOutputs a.budget m w.job w.outputs) in_mode (subst (λ (x : Asked). AreOutputs x.budget asked.mode w.job w.outputs) same w.are) in
    (text, reads.told, whole.0, whole.1, w.job, w.stands, w.outputs, are, subst (Took out) w.text_is f.2.1)

pub told_is : (before : Option (List ℕ)) (job x : List ℕ) → before ≡ Some job → IfSome before (λ bytes. x ≡ bytes) → x ≡ job
told_is None job x e h = cc
told_is (Some bytes) job x e h = let same : bytes ≡ job = cc in h ∙ same

-- each status is at most 2, or one of the other three
pub ranked : (n : ℕ) → n ≤ 5 → (n ≤ 2) ⊎ ((n ≡ 3) ⊎ ((n ≡ 4) ⊎ (n ≡ 5)))
ranked n h = elim (cases_lt n 3) [
  | inl low ↦ inl (omega arith)
  | inr high ↦ inr (elim (cases_eq n 3) [
    | inl three ↦ inl three
    | inr more ↦ inr (elim (cases_eq n 4) [ inl four ↦ inl four | inr last ↦ inr (omega arith) ])
  ])
]

-- a write that failed raised a count
cause : (source out err : Across) (Within : List ℕ → Type 0) (Is : Due → Type 0) → Unwritten source out err Within Is → Failed out ⊎ Failed err
cause source out err Within Is unwritten = elim unwritten [ inl h ↦ inl h.0 | inr h ↦ inr h.0 ]

-- where nothing failed, what is due for the text was written whole, but for want of memory
pub finished_or_not : (asked : Option Asked) (source out err : Across) (Within : List ℕ → Type 0) (status : ℕ) (text : List ℕ)
    → source.before ≡ Some text → Serves asked source out err Within status
    → (Failed source → ⊥) → (Failed out → ⊥) → (Failed err → ⊥) → (status ≡ 5) ⊎ ((status ≤ 2) × Finished out err (IsDue asked text) status)
finished_or_not asked source out err Within status text told (x, reads, ends) quiet calm still =
    elim (ranked status ends.small) [
      | inl small ↦ inr (small, subst (λ j. Finished out err (IsDue asked j) status) (told_is source.before text x told reads.told) (ends.finished small))
      | inr rest ↦ elim rest [
        | inl three ↦ absurd (quiet (ends.read_fault three).0)
        | inr others ↦ elim others [
          | inl four ↦ elim (cause source out err Within (IsDue asked x) (ends.write_fault four)) [ inl h ↦ absurd (calm h) | inr h ↦ absurd (still h) ]
          | inr five ↦ inl five
        ]
      ]
    ]

pub completes : (asked : Option Asked) (source out err : Across) (Within : List ℕ → Type 0) (status : ℕ) → Serves asked source out err Within status → Completes asked source out err status
completes asked source out err Within status serves job told quiet calm still =
    elim (finished_or_not asked source out err Within status job told serves quiet calm still) [
      | inl five ↦ inl five
      | inr h ↦ inr (
        h.0,
        λ due is.
            let f = h.1 in
            let e = one_due asked job f.0 due f.1 is in
            (f.2.0 ∙ ap (λ d. d.status) e, subst (λ d. Took out d.out) e f.2.1, subst (λ d. Took err d.err) e f.2.2),
      )
    ]

pub has_causes : (asked : Option Asked) (source out err : Across) (Within : List ℕ → Type 0) (status : ℕ) → Serves asked source out err Within status → HasCauses source out err status
has_causes asked source out err Within status (job, reads, ends) =
    (λ three. (ends.read_fault three).0, λ four. cause source out err Within (IsDue asked job) (ends.write_fault four))

usage_due : (asked : Option Asked) (job : List ℕ) (due : Due) → IsDue asked job due → due.status ≡ 2 → (asked ≡ None) × (due ≡ unread)
usage_due None job due is two = (refl, is)
usage_due (Some asked) job due is two = absurd (omega (arith, low_due asked asked.mode job due is))

unread_job : (asked : Option Asked) → asked ≡ None → Rattle.fin_cli.specs.Due.reads asked ≡ false
unread_job None e = refl
unread_job (Some asked) e = cc

pub uses_exactly : (asked : Option Asked) (source out err : Across) (Within : List ℕ → Type 0) (status : ℕ)
    → Serves asked source out err Within status → IsUnasked asked err status → UsesExactly asked source out err status
uses_exactly asked source out err Within status (job, reads, ends) unasked = (
  λ two.
      let f = ends.finished (omega arith) in
      let u = usage_due asked job f.0 f.1 (sym f.2.0 ∙ two) in
      (u.0, reads.unread (unread_job asked u.0), subst (λ d. Took out d.out) u.1 f.2.1, subst (λ d. Took err d.err) u.1 f.2.2),
  unasked,
)

run_silent : (asks : Asked) (text : List ℕ) (due : Due) → IsDueRun asks text due → 1 ≤ due.status → due.out ≡ []
run_silent asks text due (IsDueRun.over job h over) some = refl
run_silent asks text due (IsDueRun.whole job outputs h is) some = absurd (omega arith)

plain_silent : (text : List ℕ) (due : Due) → IsDuePlain text due → 1 ≤ due.status → due.out ≡ []
plain_silent text due (IsDuePlain.over job h over) some = refl
plain_silent text due (IsDuePlain.whole job outputs h is) some = absurd (omega arith)

then_silent : (asks : Asked) (mode : Mode) (job : List ℕ) (due : Due) → IsDueThen asks mode job due → 1 ≤ due.status → due.out ≡ []
then_silent asks Run job due h some = run_silent asks job due h some
then_silent asks Check job due h some = absurd (omega (arith, ap (λ d. d.status) h))
then_silent asks Plain job due h some = plain_silent job due h some
then_silent asks Gen job due h some = ap (λ d. d.out) h

read_silent : (asks : Asked) (mode : Mode) (job : List ℕ) (due : Due) → IsDueRead job (IsDueThen asks mode job) due → 1 ≤ due.status → due.out ≡ []
read_silent asks mode job due (IsDueRead.too_long many) some = refl
read_silent asks mode job due (IsDueRead.breaks rule line few h) some = refl
read_silent asks mode job due (IsDueRead.passes d few h next) some = then_silent asks mode job due next some

mode_silent : (asks : Asked) (mode : Mode) (job : List ℕ) (due : Due) → IsDueMode asks mode job due → 1 ≤ due.status → due.out ≡ []
mode_silent asks Run job due h some = read_silent asks Run job due h some
mode_silent asks Check job due h some = read_silent asks Check job due h some
mode_silent asks Plain job due h some = read_silent asks Plain job due h some
mode_silent asks Gen job due h some = ap (λ d. d.out) h

silent_due : (asked : Option Asked) (job : List ℕ) (due : Due) → IsDue asked job due → 1 ≤ due.status → due.out ≡ []
silent_due None job due h some = ap (λ d. d.out) h
silent_due (Some asked) job due h some = mode_silent asked asked.mode job due h some

pub is_silent : (asked : Option Asked) (source out err : Across) (Within : List ℕ → Type 0) (status : ℕ) → Serves asked source out err Within status → IsSilent out status
is_silent asked source out err Within status (job, reads, ends) some few = elim (cases_eq status 3) [
  | inl three ↦ (ends.read_fault three).1
  | inr other ↦
      let f = ends.finished (omega arith) in
      subst (Took out) (silent_due asked job f.0 f.1 (omega (arith, f.2.0))) f.2.1
]

-- ---- the line of the work

run_tells : (asks : Asked) (text : List ℕ) (due : Due) (err : Across) → IsDueRun asks text due → due.status ≡ 0 → Took err due.err → Tells asks Run text err
run_tells asks text due err (IsDueRun.over job h over) zero took = absurd (omega arith)
run_tells asks text due err (IsDueRun.whole job outputs h is) zero took = (job, h, took)

plain_tells : (text : List ℕ) (due : Due) (err : Across) → IsDuePlain text due → due.status ≡ 0 → Took err due.err → Took err []
plain_tells text due err (IsDuePlain.over job h over) zero took = absurd (omega arith)
plain_tells text due err (IsDuePlain.whole job outputs h is) zero took = took

then_tells : (asks : Asked) (mode : Mode) (text : List ℕ) (due : Due) (err : Across) → IsDueThen asks mode text due → due.status ≡ 0 → Took err due.err → Tells asks mode text err
then_tells asks Run text due err h zero took = run_tells asks text due err h zero took
then_tells asks Check text due err h zero took = subst (Took err) (ap (λ d. d.err) h) took
then_tells asks Plain text due err h zero took = plain_tells text due err h zero took
then_tells asks Gen text due err h zero took = absurd (omega (arith, ap (λ d. d.status) h))

read_tells : (asks : Asked) (mode : Mode) (text : List ℕ) (due : Due) (err : Across) → IsDueRead text (IsDueThen asks mode text) due → due.status ≡ 0 → Took err due.err → Tells asks mode text err
read_tells asks mode text due err (IsDueRead.too_long many) zero took = absurd (omega arith)
read_tells asks mode text due err (IsDueRead.breaks rule line few h) zero took = absurd (omega arith)
read_tells asks mode text due err (IsDueRead.passes d few a next) zero took = then_tells asks mode text due err next zero took

mode_tells : (asks : Asked) (mode : Mode) (text : List ℕ) (due : Due) (err : Across) → IsDueMode asks mode text due → due.status ≡ 0 → Took err due.err → Tells asks mode text err
mode_tells asks Run text due err h zero took = read_tells asks Run text due err h zero took
mode_tells asks Check text due err h zero took = read_tells asks Check text due err h zero took
mode_tells asks Plain text due err h zero took = read_tells asks Plain text due err h zero took
mode_tells asks Gen text due err h zero took = absurd (omega (arith, ap (λ d. d.status) h))

pub tells_exactly : (asked : Option Asked) (source out err : Across) (Within : List ℕ → Type 0) (status : ℕ) → Serves asked source out err Within status → TellsExactly asked source err status
tells_exactly None source out err Within status (text, reads, ends) a is zero = cc
tells_exactly (Some asked) source out err Within status (text, reads, ends) a is zero =
    let f = ends.finished (omega arith) in
    let same : asked ≡ a = cc in
    (text, reads.told, subst (λ (x : Asked). Tells x x.mode text err) same (mode_tells asked asked.mode text f.0 err f.1 (sym f.2.0 ∙ zero) f.2.2))
