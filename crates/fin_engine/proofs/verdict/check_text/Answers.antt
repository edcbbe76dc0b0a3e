use Rattle.std.proofs.Common.{rules, arith, ◌≡◌, ◌≤◌, ◌+◌, List, ℕ, length, subst, sym, ap, ◌∙◌}
use Rattle.std.specs.Prelude.{Result, Ok, Err}
use Rattle.fin_base.specs.declared.refusal.Fail.{Fail}
use Rattle.fin_base.specs.declared.refusal.Fail.TheVariants.{Memory, Refused}
use Rattle.fin_ast.specs.declared.program.Program.{Program}
use Rattle.fin_lex.specs.declared.token.Token.{Token}
use Rattle.fin_lex.specs.Tokens.{AreTokens, Outcome}
use Rattle.fin_parse.specs.Program.{Parsed, StandsFor}
use Rattle.fin_text.specs.Reading.{ReadsTensors}
use Rattle.fin_engine.specs.declared.job.Job.{Job}
use Rattle.fin_engine.specs.Cut.{IsCut}
use Rattle.fin_engine.specs.Inputs.{Tensors}
use Rattle.fin_engine.specs.Numbers.{told_result}
use Rattle.fin_engine.specs.Verdict.{Breaks, Checks, ChecksProgram, Reads}
use Rattle.fin_engine.proofs.Cutting.{early}
use Rattle.fin_engine.proofs.Worded.{told_in_words}
use Rattle.fin_engine.proofs.verdict.check_text.Goals as goal

-- a text without tokens
unlexed : (text program tensors : List ℕ) (last : ℕ) (fail : Fail) → IsCut text program tensors last → Outcome program 1 (Err fail) → Checks text (Err fail)
unlexed text program tensors last (Refused r) cut (is, breaks) = subst (λ rule. Breaks text rule r.line) (sym is) (Breaks.no_token program tensors last r.line cut breaks)
unlexed text program tensors last (Memory e) cut breaks = tt

pub returns-in_default : goal.returns-in_default
returns-in_default c = record { verdict = Breaks.endless c.in_default.ensures.parts }

pub returns-in_err-tokens : goal.returns-in_err-tokens
returns-in_err-tokens c =
    let parts = c.in-Some.parts in
    let fail = c.in_err-tokens.field-0.0 in
    let is : c.from_residual.result ≡ Err fail = search rules in
    record { verdict = subst (λ r. Checks c.args.text.now r) (sym is) (unlexed c.args.text.now parts.program.now parts.tensors.now parts.last fail c.in-Some.ensures.parts c.in_err-tokens.ensures.tokens) }

-- a text of tokens that breaks a rule
refused : (text program tensors : List ℕ) (last : ℕ) (tokens : List Token) (fail : Fail) → IsCut text program tensors last → AreTokens program 1 tokens
    → Parsed program tokens last (Err fail) → Checks text (Err fail)
refused text program tensors last tokens (Refused r) cut lexed verdict = Breaks.no_program program tensors last tokens r cut lexed verdict
refused text program tensors last tokens (Memory e) cut lexed verdict = tt

pub returns-in_err-program : goal.returns-in_err-program
returns-in_err-program c =
    let parts = c.in-Some.parts in
    let fail = c.in_err-program.field-0.0 in
    let is : c.from_residual-in_err-program.result ≡ Err fail = search rules in
    let tokens = c.in_ok-tokens.tokens.items in
    let verdict : Parsed parts.program.now tokens parts.last (Err fail) = subst (λ x. Parsed parts.program.now x parts.last (Err fail)) c.as_slice.ensures.value c.in_err-program.ensures.parsed in
    record { verdict = subst (λ r. Checks c.args.text.now r) (sym is) (refused c.args.text.now parts.program.now parts.tensors.now parts.last tokens fail c.in-Some.ensures.parts c.in_ok-tokens.ensures.tokens verdict) }

pub overflow_add-parts : goal.overflow_add-parts
overflow_add-parts c =
    let parts = c.in-Some.parts in
    let last : parts.last ≤ length parts.program.now + 1 = early c.args.text.now parts.program.now parts.tensors.now parts.last c.in-Some.ensures.parts in
    omega (arith, c.requires.short, c.in-Some.ensures.shorter.0)

pub read_tensors-requires-clause-first_line : goal.read_tensors-requires-clause-first_line
read_tensors-requires-clause-first_line c =
    let parts = c.in-Some.parts in
    let last : parts.last ≤ length parts.program.now + 1 = early c.args.text.now parts.program.now parts.tensors.now parts.last c.in-Some.ensures.parts in
    omega (arith, c.requires.short, c.in-Some.ensures.shorter.0)

-- tensors that break a rule
misread : (text program tensors : List ℕ) (last : ℕ) (tokens : List Token) (whole : Program) (fail : Fail) → IsCut text program tensors last → AreTokens program 1 tokens
    → StandsFor program tokens last whole → ReadsTensors tensors (last + 1) (Err fail) → Checks text (Err fail)
misread text program tensors last tokens whole (Refused r) cut lexed (trees, accepted, is) read = Breaks.no_tensors program tensors last tokens trees r cut lexed accepted read
misread text program tensors last tokens whole (Memory e) cut lexed stands read = tt

pub returns-in_err-given : goal.returns-in_err-given
returns-in_err-given c =
    let parts = c.in-Some.parts in
    let fail = c.in_err-given.field-0.0 in
    let is : c.from_residual-in_err-given.result ≡ Err fail = search rules in
    let tokens = c.in_ok-tokens.tokens.items in
    let program = c.in_ok-program.program in
    let stands : StandsFor parts.program.now tokens parts.last program = subst (λ x. StandsFor parts.program.now x parts.last program) c.as_slice.ensures.value c.in_ok-program.ensures.parsed in
    record { verdict = subst (λ r. Checks c.args.text.now r) (sym is) (misread c.args.text.now parts.program.now parts.tensors.now parts.last tokens program fail c.in-Some.ensures.parts c.in_ok-tokens.ensures.tokens stands c.in_err-given.ensures) }

pub check_program-verdict-requires : goal.check_program-verdict-requires
check_program-verdict-requires c =
    let parts = c.in-Some.parts in
    record { words = told_in_words parts.tensors.now (parts.last + 1) c.in_ok-given.given.entries c.in_ok-given.ensures }

-- a text that is read
checked : (text : List ℕ) (program : Program) (given : Tensors) (result : Result Job Fail) (reads : Reads text program given) → ChecksProgram program given result → Checks text (told_result reads.tokens result)
checked text program given (Ok job) reads is = (program, given, reads, is)
checked text program given (Err (Refused r)) reads breaks = Breaks.no_job program given r reads breaks
checked text program given (Err (Memory e)) reads breaks = tt

pub returns : goal.returns
returns c =
    let parts = c.in-Some.parts in
    let tokens = c.in_ok-tokens.tokens.items in
    let program = c.in_ok-program.program in
    let reads : Reads c.args.text.now program c.in_ok-given.given.entries = record {
      body = parts.program.now;
      tensors = parts.tensors.now;
      last = parts.last;
      cut = c.in-Some.ensures.parts;
      tokens = tokens;
      lexed = c.in_ok-tokens.ensures.tokens;
      stands = subst (λ x. StandsFor parts.program.now x parts.last program) c.as_slice.ensures.value c.in_ok-program.ensures.parsed;
      read = c.in_ok-given.ensures;
    } in
    let is : c.told.result ≡ told_result tokens c.check_program-verdict.result = c.told.ensures.value ∙ ap (λ ts. told_result ts c.check_program-verdict.result) c.as_slice-2.ensures.value in
    record { verdict = subst (λ r. Checks c.args.text.now r) (sym is) (checked c.args.text.now program c.in_ok-given.given.entries c.check_program-verdict.result reads c.check_program-verdict.ensures.verdict) }
