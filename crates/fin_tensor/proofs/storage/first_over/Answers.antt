use Rattle.std.proofs.Common.{◌+◌, sym, arith}
use Rattle.fin_tensor.proofs.Fibres.{first_is}
use Rattle.fin_tensor.proofs.storage.first_over.Goals as goal

pub returns-then-key-ge1099511627776 : goal.returns-then-key-ge1099511627776
returns-then-key-ge1099511627776 c =
    let f = c.requires.fibre in
    sym (first_is c.args.stop.now (c.args.key + 1) c.args.from c.args.to c.args.to f.order (omega arith) (λ k a b. omega (arith, c.requires.small k (omega (arith, f.within)), c.if-key-ge1099511627776.true)) (λ l. absurd (omega arith)))
