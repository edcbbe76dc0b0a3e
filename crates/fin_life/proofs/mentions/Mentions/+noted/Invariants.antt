use Rattle.std.proofs.Common.{◌≡◌, drop, List}
use Rattle.fin_ast.specs.declared.header.Header.{Header}
use Rattle.fin_life.specs.Completing.{noted_in, completings_of}
use Rattle.fin_life.specs.Mentions.{mention_in}
use Rattle.fin_life.proofs.mentions.Mentions.+noted.Given as goal

abbrev pub invariant-note_all-loop-statement : goal.invariant-note_all-loop-statement
invariant-note_all-loop-statement l = (headers : List Header) → noted_in (completings_of headers (drop l.statement-index l.body)) (mention_in l.self) ≡ noted_in (completings_of headers l.body) (mention_in l.fn.self)
