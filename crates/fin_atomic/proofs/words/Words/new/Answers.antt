use Rattle.std.proofs.Common.{length, arith, sym, ap, ◌∙◌}
use Rattle.std.specs.Prelude.{slice_index}
use Rattle.fin_seats.specs.Books.{start_at}
use Rattle.fin_seats.proofs.Storing.{reads}
use Rattle.fin_atomic.proofs.Moves.{opens}
use Rattle.fin_atomic.proofs.words.Words.new.Goals as goal

pub of_words-requires : goal.of_words-requires
of_words-requires c =
    let n = c.in_ok-codes.ensures.stored.0 in
    let m = ap (λ v. length v.items) c.of.ensures in
    let some_seat = c.requires.seats.0 in
    let is = c.from.ensures in
    let value = c.as_slice.ensures.value in
    let longs = ap length value in
    opens _ _ (value ∙ ap (λ v. v.items) (sym c.of.ensures)) c.requires.by.1 (omega arith)
    (λ k h. let r = reads c.args.by _ _ _ c.in_ok-codes.ensures.stored (ap (λ v. v.items) c.of.ensures) k (omega arith) in (r.0, r.1 ∙ ap (λ v. slice_index v.items k) c.of.ensures ∙ ap (λ l. slice_index l k) (sym value)))

pub returns-clause-words : goal.returns-clause-words
returns-clause-words c =
    let e = c.in_ok-table.ensures in
    (ap (λ key. key.by) e.5, ap (λ key. key.seats) e.5 ∙ c.from.ensures, (e.0 ∙ ap length c.as_slice.ensures.value ∙ c.in_ok-codes.ensures.stored.0, λ k h. ap (λ key. start_at key k) e.5 ∙ (reads c.args.by _ _ _ c.in_ok-codes.ensures.stored (ap (λ v. v.items) c.of.ensures) k h).2))
