use Rattle.std.proofs.Common.{◌∙◌, ap, sym}
use Rattle.fin_canon.specs.Entries.{Entry}
use Rattle.fin_canon.proofs.Reading.{coords_is}
use Rattle.fin_parts_test.proofs.canonical.coords_of.Goals as goal

pub returns : goal.returns
returns c =
    ap (λ (e : Entry). e.0) (sym c.index-entries-k.is) ∙ sym (coords_is c.args.entries.now c.args.k c.index-entries-k.result c.requires c.index-entries-k.is)
