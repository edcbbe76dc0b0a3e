use Rattle.std.proofs.Common.{[], ◌∷◌, ap, ◌∙◌}
use Rattle.fin_ir.specs.declared.code.Code.{Code}
use Rattle.fin_read.specs.Values.{Heads, value_code}
use Rattle.fin_perform.specs.Codes.{update_code, end_of}
use Rattle.fin_stmts.specs.Places.{context_of, here_of}
use Rattle.fin_stmts.proofs.Alone.{update_lowers}
use Rattle.fin_stmts.proofs.Results.{both_ok}
use Rattle.fin_stmts.proofs.unbodied.lower_update.Goals as goal

pub returns : goal.returns
returns c =
    let p = c.args.place.now in
    let u = c.args.update.now in
    let code = c.in_ok-placed.ensures.code ∙ ap (λ (h : Heads). update_code h u.tensor u.at.now u.by (value_code h u.value.now p.next)) c.heads_of-heads.ensures in
    let need = c.in_ok-placed.ensures.need ∙ ap (λ (h : Heads). end_of (value_code h u.value.now p.next)) c.heads_of-heads.ensures in
    both_ok c.single.result _ _ _
    (λ m codes room line some. update_lowers c.args.checked.now p.next (here_of p) (context_of p) u.tensor u.at.now u.by u.value.now line some _ m
    (codes ∙ ap (λ (k : Code). k ∷ []) code) (room ∙ need)) c.single.ensures.codes c.single.ensures.room
