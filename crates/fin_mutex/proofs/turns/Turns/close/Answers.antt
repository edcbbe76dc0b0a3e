use Rattle.std.proofs.Common.{arith, ap, ◌∙◌}
use Rattle.std.specs.Prelude.{slice_index}
use Rattle.std.specs.Slots.{slots_items}
use Rattle.std.proofs.lemmas.Int.{to_z-of_z}
use Rattle.std.specs.Int.{w64}
use Rattle.fin_seats.specs.Codes.{decode}
use Rattle.fin_seats.proofs.Storing.{read_more}
use Rattle.fin_mutex.proofs.Joining.{closes, values_are}
use Rattle.fin_mutex.proofs.turns.Turns.close.Goals as goal

pub word-requires : goal.word-requires
word-requires c =
    let a = c.close_with-closed.ensures.counts.0 in
    let w = c.args.self.wide.1 in
    let i = c.requires.into in
    let b = c.loop-k-test.true in
    (omega arith, c.close_with-closed.ensures.values.0)

pub loop-k-preserved : goal.loop-k-preserved
loop-k-preserved c =
    let a = c.loop-k.auto.into in
    let b = c.loop-k-test.true in
    read_more c.loop-k.into (slots_items c.close_with-closed.result.words) c.args.self.by c.loop-k.k _ c.word.result (omega arith) c.loop-k.invariant (to_z-of_z w64 c.read.result (record { sfits = c.read.type_inv }) ∙ c.read.ensures.word) c.word.ensures

pub returns-clause-words : goal.returns-clause-words
returns-clause-words c = λ k h.
    let f = c.close_with-closed.ensures.values.2 in
    let into = c.requires.into in
    let key = c.args.self.table.shared.key in
    let past = c.loop-k-test.false in
    let ws = slots_items c.close_with-closed.result.words in
    c.loop-k.invariant k (omega arith) ∙ ap (λ b. decode b (slice_index ws k)) c.args.self.by_is.0 ∙ closes key _ _ f.0 f.1.0 f.1.1 c.requires.gathered ws f.2 k (omega arith)

pub returns-clause-values : goal.returns-clause-values
returns-clause-values c = let f = c.close_with-closed.ensures.values.2 in values_are _ _ _ f.0 f.1.0 f.1.1

pub returns-clause-starts : goal.returns-clause-starts
returns-clause-starts c =
    let f = c.close_with-closed.ensures.values.2 in
    let into = c.requires.into in
    λ k h. f.1.0.kept.starts_are k (omega arith)
