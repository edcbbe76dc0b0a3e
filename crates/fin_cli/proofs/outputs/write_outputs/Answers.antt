use Rattle.std.proofs.Common.{take, drop, suc}
use Rattle.fin_ports.proofs.Parts.{part_of_more, split_at}
use Rattle.fin_cli.specs.Due.{output_text, outputs_text}
use Rattle.fin_cli.proofs.outputs.write_outputs.Goals as goal

pub returns-in-Err-clause-bytes : goal.returns-in-Err-clause-bytes
returns-in-Err-clause-bytes g c =
    let headers = c.args.headers.now in let outputs = c.args.outputs.now in let i = c.loop-output.output-index in let output = c.output-item.result in
    part_of_more _ _ _ (outputs_text headers (take i outputs)) (output_text headers output) (outputs_text headers (drop (suc i) outputs)) (outputs_text headers outputs)
    (split_at (output_text headers) outputs i output c.loop-output-test.true c.output-item.is)
    c.loop-output.invariant.put c.in-Err.ensures.bytes
