use Rattle.std.proofs.Common.{◌≡◌, ℕ, refl, subst, List, []}
use Rattle.fin_tensor.specs.declared.storage.Storage.{Storage}
use Rattle.fin_ast.specs.Dense.{function_of}
use Rattle.fin_dense.specs.Plain.{AreStored, outputs_from}
use Rattle.fin_cli.specs.Due.{Due, IsDuePlain, due_outputs}
use Rattle.fin_cli.specs.Ends.{over}
use Rattle.fin_cli.specs.Stops.{Comes}
use Rattle.fin_cli.proofs.Comings.{comes_as, comes_over, plain_is}
use Rattle.fin_cli.proofs.modes.evaluate.Goals as goal

pub write-requires : goal.write-requires
write-requires g c = record {
  stored = subst (λ (inputs : List Storage). AreStored (function_of c.args.job.now.checked inputs) (outputs_from 0 c.args.job.now.checked.program.headers) c.in-Ok.outputs.tensors) c.as_slice.ensures c.in-Ok.ensures.plains.stored;
}

pub returns-in-Ok-clause-comes : goal.returns-in-Ok-clause-comes
returns-in-Ok-clause-comes g c = λ source text is.
    let job = c.args.job.now in let outputs = c.in-Ok.outputs in
    let out = over g.O.Sink.taken g.O.Sink.faults c.args.out.now c.write.new.out in
    let came = subst (λ (told : List ℕ). Comes source out (λ (d : Due). d ≡ due_outputs job outputs told) c.write.result) c.new.ensures.bytes (c.write.ensures.comes source) in
    comes_as (due_outputs job outputs []) (IsDuePlain text) source out c.write.result (plain_is text job c.as_slice.result.now outputs is c.as_slice.ensures c.in-Ok.ensures.plains) came

pub returns-in-Err-clause-comes : goal.returns-in-Err-clause-comes
returns-in-Err-clause-comes g c = λ source text is.
    comes_over text c.args.job.now c.as_slice.result.now source _ c.in-Err.over c.failed.result is c.as_slice.ensures c.in-Err.ensures.plains c.failed.ensures refl
