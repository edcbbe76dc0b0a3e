use Rattle.std.proofs.Common.{◌∙◌, ap, arith, slice_index}
use Rattle.fin_tensor.specs.declared.part.Part.TheVariants as part
use Rattle.fin_tensor.specs.Levels.{fibre_from, fibre_to}
use Rattle.fin_tensor.proofs.Walk.{got, same_at, level_at, stored_lengths}
use Rattle.fin_tensor.proofs.storage.Storage.fibre.Goals as goal

pub get-extent-requires : goal.get-extent-requires
get-extent-requires c = let s = c.args.self.now in omega (arith, stored_lengths 1 s.format.levels s.shape s.parts s.val s.valid, c.requires.level)

pub fibre_in-requires : goal.fibre_in-requires
fibre_in-requires c =
    let s = c.args.self.now in
    same_at _ _ _ _ _ (got s.shape c.args.level 0 _ c.get-extent.ensures) (got s.parts c.args.level part.Dense _ c.get.ensures) (level_at c.args.level 1 s.format.levels s.shape s.parts s.val c.args.pos s.valid c.requires.level c.requires.pos)

pub returns-clause-from : goal.returns-clause-from
returns-clause-from c =
    let s = c.args.self.now in
    c.fibre_in.ensures.from ∙ ap (λ n. fibre_from n c.get.result.now c.args.pos) (got s.shape c.args.level 0 _ c.get-extent.ensures) ∙ ap (λ p. fibre_from (slice_index s.shape c.args.level) p c.args.pos) (got s.parts c.args.level part.Dense _ c.get.ensures)

pub returns-clause-to : goal.returns-clause-to
returns-clause-to c =
    let s = c.args.self.now in
    c.fibre_in.ensures.to ∙ ap (λ n. fibre_to n c.get.result.now c.args.pos) (got s.shape c.args.level 0 _ c.get-extent.ensures) ∙ ap (λ p. fibre_to (slice_index s.shape c.args.level) p c.args.pos) (got s.parts c.args.level part.Dense _ c.get.ensures)
