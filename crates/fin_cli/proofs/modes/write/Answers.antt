use Rattle.std.proofs.Common.{inr, refl, subst}
use Rattle.std.specs.Prelude.{string_bytes}
use Rattle.std.specs.Io.KnownBytes.{Appends}
use Rattle.fin_ports.specs.Bytes.{PutsFront}
use Rattle.fin_cli.specs.Due.{due_outputs}
use Rattle.fin_cli.proofs.Comings.{are_named, text_is}
use Rattle.fin_cli.proofs.modes.write.Goals as goal

pub write_outputs-requires : goal.write_outputs-requires
write_outputs-requires g c = record {
  named = are_named c.args.job.now.checked c.args.job.now.inputs c.args.outputs.now c.as_slice-headers.result.now c.as_slice.result.now c.requires.stored c.as_slice-headers.ensures c.as_slice.ensures;
}

pub returns-in-Ok-clause-comes : goal.returns-in-Ok-clause-comes
returns-in-Ok-clause-comes g c = λ source.
    let job = c.args.job.now in let outputs = c.args.outputs.now in let told = string_bytes c.args.line in
    let same = text_is job outputs told c.as_slice-headers.result.now c.as_slice.result.now c.as_slice-headers.ensures c.as_slice.ensures in
    (due_outputs job outputs told, refl, (refl, refl, subst (Appends (g.O.Sink.taken c.args.out.now) (g.O.Sink.taken c.write_outputs.new.out)) same c.in-Ok.ensures.bytes))

pub returns-in-Err-Fault-clause-comes : goal.returns-in-Err-Fault-clause-comes
returns-in-Err-Fault-clause-comes g c = λ source.
    let job = c.args.job.now in let outputs = c.args.outputs.now in let told = string_bytes c.args.line in
    let same = text_is job outputs told c.as_slice-headers.result.now c.as_slice.result.now c.as_slice-headers.ensures c.as_slice.ensures in
    let part = subst (PutsFront (g.O.Sink.taken c.args.out.now) (g.O.Sink.taken c.write_outputs.new.out)) same c.in-Err-Fault.ensures.bytes in
    (c.in-Err-Fault.ensures.cause c.in-Err-Fault.field-0-is, (due_outputs job outputs told, refl, part))

pub returns-clause-comes : goal.returns-clause-comes
returns-clause-comes g c = λ source.
    let job = c.args.job.now in let outputs = c.args.outputs.now in let told = string_bytes c.args.line in
    let same = text_is job outputs told c.as_slice-headers.result.now c.as_slice.result.now c.as_slice-headers.ensures c.as_slice.ensures in
    let part = subst (PutsFront (g.O.Sink.taken c.args.out.now) (g.O.Sink.taken c.write_outputs.new.out)) same c.in-Err-Memory.ensures.bytes in
    inr (due_outputs job outputs told, refl, part)
