use Rattle.std.proofs.Common.{◌+◌, ◌∙◌, sym, ap, ℕ, arith, drop, length, get_or}
use Rattle.fin_tensor.specs.declared.format.Level.TheVariants.{Dense}
use Rattle.fin_ast.specs.declared.tree.Index.{Index}
use Rattle.fin_ast.specs.Choices.{choice_at, choices_at}
use Rattle.fin_dims.proofs.Walks.{choices_next, choices_end, either}
use Rattle.fin_dims.proofs.choices.choices_at.Goals as goal

pub loop-k-preserved : goal.loop-k-preserved
loop-k-preserved c =
    let k = c.loop-k.k in
    let level = get_or c.args.levels.now k Dense in
    let here = c.choice_at-choices.ensures ∙ ap (λ (i : Index). choice_at level i c.loop-k.choices) c.index-at-k.is in
    ap (λ (n : ℕ). choices_at (drop (k + 1) c.args.levels.now) (drop (k + 1) c.args.at.now) n) here
    ∙ sym (choices_next c.args.levels.now c.args.at.now k c.loop-k.choices Dense c.index-at-k.result (omega (arith, c.min-k-end.ensures)) (omega (arith, c.min-k-end.ensures)))
    ∙ c.loop-k.invariant

pub returns : goal.returns
returns c = sym (choices_end c.args.levels.now c.args.at.now c.loop-k.k c.loop-k.choices (either (length c.args.levels.now) (length c.args.at.now) c.loop-k.k (omega (arith, c.min-k-end.ensures)))) ∙ c.loop-k.invariant
