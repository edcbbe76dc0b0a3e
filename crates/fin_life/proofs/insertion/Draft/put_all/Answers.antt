use Rattle.std.proofs.Common.{◌∙◌, ap, sym, arith, drop, ◌+◌}
use Rattle.fin_life.specs.Drafts.{carried_in, put_one, in_turn}
use Rattle.fin_life.specs.Mentions.{mention_in}
use Rattle.fin_life.proofs.Headers.{turn_next}
use Rattle.fin_life.proofs.insertion.Draft.put_all.Goals as goal

pub loop-tensor-preserved : goal.loop-tensor-preserved
loop-tensor-preserved c =
    let step = put_one c.args.headers.now (mention_in c.note_statement.new.self) c.line_of-line.result in
    ap (in_turn (λ t h. step t) (c.loop-tensor.tensor + 1) (drop (c.loop-tensor.tensor + 1) c.args.headers.now)) c.in_ok-put_one.ensures
    ∙ sym (turn_next step c.loop-tensor.tensor c.args.headers.now (carried_in c.loop-tensor.self) (omega arith))
    ∙ c.loop-tensor.invariant
