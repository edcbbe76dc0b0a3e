use Rattle.std.proofs.Common.{◌≡◌, ◌∙◌, Bool, true, cond, ap, sym, arith, rules, to_z, of_z, w64, FitsSigned}
use Rattle.std.specs.Prelude.{nat_lt}
use Rattle.std.proofs.lemmas.Int.{to_z-of_z}
use Rattle.std.proofs.lemmas.Bool.{lt-ltb}
use Rattle.fin_canon.specs.Entries.{Entry, word_of}
use Rattle.fin_canon.proofs.Reading.{word_is}
use Rattle.fin_canon.proofs.lists.value.Goals as goal

pub returns-then-r : goal.returns-then-r
returns-then-r c =
    let es = c.args.entries.now in
    let r = c.args.r in
    let v = c.index-entries-r.result.1 in
    let fits : FitsSigned w64 v = search rules in
    let b : nat_lt r.from r.to ≡ true = lt-ltb r.from r.to c.if-r.true in
    ap (λ (x : Entry). to_z w64 (of_z w64 x.1)) (sym c.index-entries-r.is) ∙ to_z-of_z w64 v fits ∙ sym (word_is es r.from c.index-entries-r.result (omega (arith, c.if-r.true, c.requires)) c.index-entries-r.is) ∙ ap (λ (x : Bool). cond x (word_of es r.from) c.args.format.now.fill) (sym b)
