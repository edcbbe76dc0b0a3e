use Rattle.std.proofs.Common.{take, drop, suc, subst}
use Rattle.std.specs.List.{flat_map}
use Rattle.fin_ports.specs.Bytes.{PutsFront}
use Rattle.fin_ports.proofs.Parts.{part_of_more, split_at}
use Rattle.fin_ports.proofs.job.put_each.Goals as goal

pub returns-in-Err-clause-bytes : goal.returns-in-Err-clause-bytes
returns-in-Err-clause-bytes g c =
    let texts = c.args.texts.now in let i = c.loop-text.text-index in let text = c.text-item.result in
    part_of_more _ _ _ (flat_map (λ t. t.items) (take i texts)) text.items (flat_map (λ t. t.items) (drop (suc i) texts)) (flat_map (λ t. t.items) texts)
    (split_at (λ t. t.items) texts i text c.loop-text-test.true c.text-item.is)
    c.loop-text.invariant.put (subst (PutsFront _ _) c.deref.ensures.value c.in-Err.ensures.bytes)
