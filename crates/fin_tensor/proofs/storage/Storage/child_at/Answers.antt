use Rattle.std.proofs.Common.{◌∙◌, ℕ, ◌+◌, ◌<◌, ap, sym, subst, arith, IfSome, slice_index}
use Rattle.fin_tensor.specs.declared.part.Part.TheVariants as part
use Rattle.std.specs.Prelude.{Option}
use Rattle.fin_tensor.specs.Levels.{child_in, fibres}
use Rattle.fin_tensor.proofs.Walk.{got, same_at, level_at, child_at_within}
use Rattle.fin_tensor.proofs.storage.Storage.child_at.Goals as goal

pub child_of-requires-clause-at : goal.child_of-requires-clause-at
child_of-requires-clause-at c =
    let s = c.args.self.now in
    same_at _ _ _ _ _ (got s.shape c.args.level 0 _ c.get-extent.ensures) (got s.parts c.args.level part.Dense _ c.get.ensures) (level_at c.args.level 1 s.format.levels s.shape s.parts s.val c.args.pos s.valid c.requires.level c.requires.pos)

pub child_of-requires-clause-within : goal.child_of-requires-clause-within
child_of-requires-clause-within c = omega (arith, got c.args.self.now.shape c.args.level 0 _ c.get-extent.ensures)

pub returns-clause-child : goal.returns-clause-child
returns-clause-child c =
    let s = c.args.self.now in
    c.child_of.ensures ∙ ap (λ n. child_in n c.get.result.now c.args.pos c.args.i) (got s.shape c.args.level 0 _ c.get-extent.ensures) ∙ ap (λ p. child_in (slice_index s.shape c.args.level) p c.args.pos c.args.i) (got s.parts c.args.level part.Dense _ c.get.ensures)

pub returns-clause-within : goal.returns-clause-within
returns-clause-within c =
    let s = c.args.self.now in
    subst (λ (o : Option ℕ). IfSome o (λ q. q < fibres s.shape s.parts 1 (c.args.level + 1))) (sym (returns-clause-child c))
    (child_at_within c.args.level 1 s.format.levels s.shape s.parts s.val c.args.pos c.args.i s.valid c.requires.level c.requires.pos c.requires.within)
