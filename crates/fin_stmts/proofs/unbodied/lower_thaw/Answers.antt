use Rattle.std.proofs.Common.{[], ◌∷◌, ap, ◌∙◌}
use Rattle.fin_ir.specs.declared.code.Code.{Code}
use Rattle.fin_read.specs.Values.{Heads}
use Rattle.fin_perform.specs.Codes.{thaw_code}
use Rattle.fin_stmts.specs.Places.{context_of, here_of}
use Rattle.fin_stmts.proofs.Alone.{thaw_lowers}
use Rattle.fin_stmts.proofs.Results.{both_ok}
use Rattle.fin_stmts.proofs.unbodied.lower_thaw.Goals as goal

pub returns : goal.returns
returns c =
    let p = c.args.place.now in
    let code = c.in_ok-code.ensures ∙ ap (λ (h : Heads). thaw_code h c.args.tensor) c.heads_of-heads.ensures in
    both_ok c.single.result _ _ _
    (λ m codes room line. thaw_lowers _ c.args.checked.now p.next (here_of p) (context_of p) c.args.tensor line m room (codes ∙ ap (λ (k : Code). k ∷ []) code))
    c.single.ensures.codes c.single.ensures.room
