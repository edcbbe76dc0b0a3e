use Rattle.std.proofs.Common.{◌≡◌, ◌∙◌, ap, sym, get_or, rules, to_z, of_z, w64, FitsSigned}
use Rattle.std.proofs.lemmas.Int.{to_z-of_z}
use Rattle.std.proofs.lemmas.Bool.{eqb-true, eq-eqb}
use Rattle.fin_canon.specs.Entries.{Entry, word_of}
use Rattle.fin_canon.proofs.Reading.{word_is}
use Rattle.fin_canon.proofs.entry.is_fill.Goals as goal

pub returns : goal.returns
returns c =
    let es = c.args.entries.now in
    let e = c.index-entries-k.result in
    let v = (get_or es c.args.k e).1 in
    let w = c.args.format.now.fill in
    let fv : FitsSigned w64 v = search rules in
    let fw : FitsSigned w64 w = search rules in
    let is : word_of es c.args.k ≡ v = word_is es c.args.k e c.requires.within c.index-entries-k.is ∙ ap (λ (x : Entry). x.1) c.index-entries-k.is in
    (λ t. is ∙ sym (to_z-of_z w64 v fv) ∙ ap (to_z w64) (eqb-true (of_z w64 v) (of_z w64 w) t) ∙ to_z-of_z w64 w fw, λ s. eq-eqb (of_z w64 v) (of_z w64 w) (ap (of_z w64) (sym is ∙ s)))
