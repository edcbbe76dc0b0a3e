use Rattle.std.proofs.Common.{◌∙◌, ◌-◌, ap, sym, subst, slice_index, slice_index_or}
use Rattle.fin_tensor.specs.declared.part.Part.TheVariants as part
use Rattle.fin_tensor.specs.declared.part.Part.{Part}
use Rattle.fin_tensor.specs.Levels.{numbers_of, first_from, fibres, IsFibre, AreSmall, wanted}
use Rattle.fin_tensor.proofs.Walk.{got, lies, kind_at, numbers_small}
use Rattle.fin_tensor.proofs.storage.Storage.search.Goals as goal

pub search_of-requires-clause-fibre : goal.search_of-requires-clause-fibre
search_of-requires-clause-fibre c =
    let s = c.args.self.now in
    let kind = kind_at c.args.level 1 s.format.levels s.shape s.parts s.val s.valid c.requires.level in
    subst (λ (p : Part). IsFibre (numbers_of p) c.args.from c.args.to) (sym (got s.parts c.args.level part.Dense _ c.get.ensures))
    (lies kind.0 (slice_index s.shape c.args.level) (fibres s.shape s.parts 1 c.args.level) (slice_index_or s.parts c.args.level part.Dense) c.args.from c.args.to kind.1 c.requires.lies)

pub search_of-requires-clause-small : goal.search_of-requires-clause-small
search_of-requires-clause-small c =
    let s = c.args.self.now in
    let kind = kind_at c.args.level 1 s.format.levels s.shape s.parts s.val s.valid c.requires.level in
    subst (λ (p : Part). AreSmall (numbers_of p)) (sym (got s.parts c.args.level part.Dense _ c.get.ensures)) (numbers_small kind.0 (slice_index s.shape c.args.level) (fibres s.shape s.parts 1 c.args.level) (slice_index_or s.parts c.args.level part.Dense) kind.1)

pub returns : goal.returns
returns c =
    let s = c.args.self.now in
    c.search_of.ensures ∙ ap (λ p. first_from (numbers_of p) (wanted p c.args.key) c.args.from (c.args.to - c.args.from)) (got s.parts c.args.level part.Dense _ c.get.ensures)
