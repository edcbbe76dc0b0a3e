use Rattle.std.proofs.Common.{List, sym, ◌∙◌, ap, drop}
use Rattle.std.proofs.lemmas.List.{drop_all}
use Rattle.fin_nest.specs.declared.entries.Numbered.{Numbered}
use Rattle.fin_stmts.specs.Varying.{varies_at}
use Rattle.fin_stmts.proofs.Varying.{no_read_varies}
use Rattle.fin_stmts.proofs.fixed.varies.Goals as goal

pub returns : goal.returns
returns c =
    let ds = drop c.loop-i.i c.args.drives.now in
    sym (ap (λ (es : List Numbered). varies_at ds es c.args.number) (drop_all c.loop-i.i c.args.reads.now c.loop-i-test.false) ∙ no_read_varies ds c.args.number)
    ∙ c.loop-i.invariant
