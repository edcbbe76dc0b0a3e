use Rattle.std.proofs.Common.{map, refl}
use Rattle.std.specs.Prelude.{string_bytes}
use Rattle.fin_ports.specs.Memory.{left_of}
use Rattle.fin_words.specs.Reading.{reading}
use Rattle.fin_cli.proofs.Room.{ends_as_due, not_risen, not_within}
use Rattle.fin_cli.proofs.memory.finch_in_memory.Goals as goal

pub returns : goal.returns
returns c =
    let called = c.finch_one.ensures in
    record {
      due = λ due is. ends_as_due (reading (map string_bytes c.args.words.now)) _ _ _ _ c.finch_one.result (left_of c.args.source.now) refl called.serves
          (λ rose. not_risen _ _ c.requires.source.fresh (called.later_source.1 c.requires.source.never) rose)
          (λ d h rose part. not_within c.args.out.now c.finch_one.new.out d.out (c.requires.out d h) called.later_out.3 rose part)
          (λ d h within. not_within c.args.err.now within.0 d.err (c.requires.err d h) within.1.3 within.3 within.4)
          due is;
    }
