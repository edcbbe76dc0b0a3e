use Rattle.std.proofs.Common.{rules, ◌≡◌, ◌∙◌, true, List, ap, sym, subst}
use Rattle.std.specs.Prelude.{Err, None}
use Rattle.fin_base.specs.declared.refusal.Fail.{Fail}
use Rattle.fin_base.specs.declared.refusal.Fail.TheVariants.{Memory, Refused}
use Rattle.fin_tensor.specs.declared.storage.Storage.{Storage}
use Rattle.fin_ast.specs.declared.program.Program.{Program}
use Rattle.fin_ast.specs.Ties.{Shapes}
use Rattle.fin_engine.specs.Inputs.{Tensors, unmatched, inputs_of, shapes_of}
use Rattle.fin_engine.specs.Verdict.{BreaksLater, ChecksProgram, ChecksWhole, IsCompletion}
use Rattle.fin_engine.specs.Worded.{are_worded}
use Rattle.fin_engine.proofs.JobsFit.{whole_fits}
use Rattle.fin_engine.proofs.Worded.{inputs_worded}
use Rattle.fin_engine.proofs.verdict.check_program.Goals as goal

-- a program that breaks a rule after insertion
later : (program whole : Program) (given : Tensors) (shapes : Shapes) (fail : Fail) → unmatched program.headers given ≡ None → IsCompletion program whole → shapes ≡ shapes_of program.headers given → ChecksWhole whole shapes (Err fail) → ChecksProgram program given (Err fail)
later program whole given shapes (Refused r) matched completed is breaks = BreaksLater.behind whole matched completed (subst (λ s. ChecksWhole whole s (Err (Refused r))) is breaks)
later program whole given shapes (Memory e) matched completed is breaks = tt

pub returns-in_err-found : goal.returns-in_err-found
returns-in_err-found c =
    let fail = c.in_err-found.field-0.0 in
    let given = c.args.given.now.entries in
    let whole = c.in_ok-whole.whole in
    let is : c.from_residual-in_err-found.result ≡ Err fail = search rules in
    let matched : unmatched c.args.program.headers given ≡ None = ap (λ hs. unmatched hs given) (sym c.as_slice.ensures) ∙ sym c.unmatched.ensures.first ∙ c.in_default.is in
    let completed : IsCompletion c.args.program whole = record { headers = c.in_ok-whole.ensures.headers; body = c.in_ok-whole.ensures.body; last = c.in_ok-whole.ensures.last } in
    let shapes = c.as_slice-4.ensures.value ∙ c.in_ok-shapes.ensures.value ∙ ap (λ hs. shapes_of hs given) c.as_slice-3.ensures in
    record { verdict = subst (λ r. ChecksProgram c.args.program given r) (sym is) (later c.args.program whole given c.as_slice-4.result.now fail matched completed shapes c.in_err-found.ensures.verdict) }

pub invariant_of-result : goal.invariant_of-result
invariant_of-result c =
    let given = c.args.given.now.entries in
    let shapes = c.as_slice-4.ensures.value ∙ c.in_ok-shapes.ensures.value ∙ ap (λ hs. shapes_of hs given) c.as_slice-3.ensures in
    record { fits = whole_fits c.args.program.headers given c.as_slice-4.result.now c.in_ok-whole.whole c.in_ok-found.found.0 shapes c.in_ok-found.ensures.verdict.0.extents }

pub invariant_of-result-2 : goal.invariant_of-result-2
invariant_of-result-2 c =
    let given = c.args.given.now.entries in
    let inputs = c.in_ok-inputs.ensures.value ∙ ap (λ hs. inputs_of hs given) c.as_slice-2.ensures in
    record { worded = subst (λ (ss : List Storage). are_worded ss ≡ true) (sym inputs) (inputs_worded c.args.program.headers given c.requires.words) }
