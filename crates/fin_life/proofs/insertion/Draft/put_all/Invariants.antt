use Rattle.std.proofs.Common.{◌≡◌, drop}
use Rattle.fin_life.specs.Drafts.{carried_in, put_one, in_turn}
use Rattle.fin_life.specs.Completing.{completing_of, put_all}
use Rattle.fin_life.specs.Mentions.{mention_in}
use Rattle.fin_life.proofs.insertion.Draft.put_all.Given as goal

abbrev pub invariant-loop-tensor : goal.invariant-loop-tensor
invariant-loop-tensor l = in_turn (λ tensor h. put_one l.headers (mention_in l.mentions) l.line tensor) l.tensor (drop l.tensor l.headers) (carried_in l.self) ≡ put_all l.headers (completing_of l.headers l.statement) (carried_in l.fn.self)
