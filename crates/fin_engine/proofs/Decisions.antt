-- Each text has one verdict.
use Rattle.std.proofs.Common.{◌≡◌, ◌⊎◌, ◌+◌, inl, inr, ℕ, true, List, Option, Some, None, refl}
use Rattle.fin_base.specs.declared.refusal.Refusal.{Refusal}
use Rattle.fin_base.specs.declared.refusal.Rule.{Rule}
use Rattle.fin_ast.specs.declared.checked.Dims.{Dims}
use Rattle.fin_ast.specs.declared.program.Program.{Program}
use Rattle.fin_ast.specs.Infer.{IsInferred}
use Rattle.fin_ast.specs.Life.{life_in}
use Rattle.fin_ast.specs.Order.{order_in}
use Rattle.fin_dims.proofs.Totality.{inferred_or_breach}
use Rattle.fin_dims.specs.Totality.{IsInferredOrBroken}
use Rattle.fin_life.proofs.Completions.{completion}
use Rattle.fin_parse.proofs.Totality.{program_or_breach}
use Rattle.fin_parse.specs.Program.{StandsFor}
use Rattle.fin_parse.specs.Totality.{StandsOrBreaks}
use Rattle.fin_text.proofs.Totality.{reads_or_breaks}
use Rattle.fin_text.specs.Reading.{BreaksText, IsRead}
use Rattle.fin_parcheck.specs.Safety.{parallel_in, ways_in}
use Rattle.fin_engine.specs.declared.job.Job.{Job}
use Rattle.fin_engine.specs.Inputs.{Tensors, inputs_of, shapes_of, unmatched}
use Rattle.fin_engine.specs.Laws.{HasOneVerdict, IsLexed, OneVerdict}
use Rattle.fin_engine.specs.Numbers.{told}
use Rattle.fin_engine.specs.Verdict.{Breaks, BreaksLater, BreaksWhole, IsCompletion, IsJob, IsJobOf, Reads}
use Rattle.fin_engine.specs.Worded.{are_told_in_words}
use Rattle.fin_engine.proofs.JobsFit.{whole_fits}
use Rattle.fin_engine.proofs.Totality.{lexed_or_breach}
use Rattle.fin_engine.proofs.Verdicts.{accepted_or_not, one_breach, one_job}
use Rattle.fin_engine.proofs.Worded.{inputs_worded, told_in_words}

-- ---- a program with its tensors

whole_of : (p : Program) → (whole : Program) × IsCompletion p whole
whole_of p = let c = completion p in (c.0, record { headers = c.1; body = c.2; last = c.3 })

abbrev IsJobOrBroken : Program → Tensors → Type 0
IsJobOrBroken p g = ((job : Job) × IsJobOf p g job) ⊎ ((refusal : Refusal) × BreaksLater p g refusal)

module _ (p : Program) (g : Tensors) (words : are_told_in_words g ≡ true) (matched : unmatched p.headers g ≡ None) (whole : Program) (completed : IsCompletion p whole) where
  abbrev job_of : (dims : Dims) → IsInferred whole (shapes_of p.headers g) dims → Job
  job_of dims found = record {
    checked = record {
      program = whole;
      dims = dims;
      ways = ways_in whole;
      fits = whole_fits p.headers g (shapes_of p.headers g) whole dims refl found;
    };
    inputs = inputs_of p.headers g;
    worded = inputs_worded p.headers g words;
  }

  by_parallel : (dims : Dims) → life_in whole ≡ None → IsInferred whole (shapes_of p.headers g) dims → order_in whole ≡ None → (o : Option Refusal) → parallel_in whole ≡ o → IsJobOrBroken p g
  by_parallel dims life found order (Some r) e = inr (r, BreaksLater.behind whole matched completed (BreaksWhole.parallel dims life found order e))
  by_parallel dims life found order None e = inl (
    job_of dims found,
    record { matched = matched; completed = completed; kept = record { life = life; extents = found; order = order; parallel = e }; ways = refl; inputs = refl },
  )

  by_order : (dims : Dims) → life_in whole ≡ None → IsInferred whole (shapes_of p.headers g) dims → (o : Option Refusal) → order_in whole ≡ o → IsJobOrBroken p g
  by_order dims life found (Some r) e = inr (r, BreaksLater.behind whole matched completed (BreaksWhole.order dims life found e))
  by_order dims life found None e = by_parallel dims life found e (parallel_in whole) refl

  by_extents : life_in whole ≡ None → IsInferredOrBroken whole (shapes_of p.headers g) → IsJobOrBroken p g
  by_extents life (inl (dims, found)) = by_order dims life found (order_in whole) refl
  by_extents life (inr (r, broken)) = inr (r, BreaksLater.behind whole matched completed (BreaksWhole.extents life broken))

  by_life : (o : Option Refusal) → life_in whole ≡ o → IsJobOrBroken p g
  by_life (Some r) e = inr (r, BreaksLater.behind whole matched completed (BreaksWhole.life e))
  by_life None e = by_extents e (inferred_or_breach whole (shapes_of p.headers g))

by_match : (p : Program) (g : Tensors) → are_told_in_words g ≡ true → (o : Option Refusal) → unmatched p.headers g ≡ o → IsJobOrBroken p g
by_match p g words (Some r) e = inr (r, BreaksLater.matching e)
by_match p g words None e = let c = whole_of p in by_life p g words e c.0 c.1 (life_in c.0) refl

job_or_broken : (p : Program) (g : Tensors) → are_told_in_words g ≡ true → IsJobOrBroken p g
job_or_broken p g words = by_match p g words (unmatched p.headers g) refl

-- ---- one verdict

accepted : (text : List ℕ) (job : Job) → IsJob text job → HasOneVerdict text
accepted text job is = inl (
  job,
  record {
    is_job = is;
    only = λ other also. one_job text job other is also;
    unbroken = λ rule line breaks. accepted_or_not text rule line (job, is) breaks;
  },
)

broken : (text : List ℕ) (rule : Rule) (line : ℕ) → Breaks text rule line → HasOneVerdict text
broken text rule line breaks = inr (
  rule,
  line,
  record {
    breaks = breaks;
    only = λ other place also. one_breach text rule other line place breaks also;
    unaccepted = λ accepts. accepted_or_not text rule line accepts breaks;
  },
)

-- ---- a text

abbrev IsReadOrBroken : List ℕ → ℕ → Type 0
IsReadOrBroken text first = ((given : Tensors) × IsRead text first given) ⊎ ((line : ℕ) × (rule : Rule) × BreaksText text first line rule)

by_job : (text : List ℕ) (p : Program) (g : Tensors) → Reads text p g → IsJobOrBroken p g → HasOneVerdict text
by_job text p g reads (inl (job, is)) = accepted text job (p, g, reads, is)
by_job text p g reads (inr (r, breaks)) = broken text (told reads.tokens r).rule (told reads.tokens r).line (Breaks.no_job p g r reads breaks)

by_tensors : (text : List ℕ) (l : IsLexed text) (p : Program) → StandsFor l.program l.tokens l.last p → IsReadOrBroken l.tensors (l.last + 1) → HasOneVerdict text
by_tensors text l p stands (inl (g, read)) =
    by_job text p g (record { body = l.program; tensors = l.tensors; last = l.last; cut = l.cut; tokens = l.tokens; lexed = l.lexed; stands = stands; read = read }) (job_or_broken p g (told_in_words l.tensors (l.last + 1) g read))
by_tensors text l p (trees, ok, is) (inr (line, rule, breaks)) =
    broken text rule line (Breaks.no_tensors l.program l.tensors l.last l.tokens trees (record { rule = rule; line = line }) l.cut l.lexed ok breaks)

by_program : (text : List ℕ) (l : IsLexed text) → StandsOrBreaks l.program l.tokens l.last → HasOneVerdict text
by_program text l (inr (r, breaks)) = broken text r.rule r.line (Breaks.no_program l.program l.tensors l.last l.tokens r l.cut l.lexed breaks)
by_program text l (inl (p, stands)) = by_tensors text l p stands (reads_or_breaks l.tensors (l.last + 1))

by_tokens : (text : List ℕ) → ((rule : Rule) × (line : ℕ) × Breaks text rule line) ⊎ IsLexed text → HasOneVerdict text
by_tokens text (inl (rule, line, breaks)) = broken text rule line breaks
by_tokens text (inr l) = by_program text l (program_or_breach l.program l.tokens l.last)

pub one_verdict : OneVerdict
one_verdict text = by_tokens text (lexed_or_breach text)
