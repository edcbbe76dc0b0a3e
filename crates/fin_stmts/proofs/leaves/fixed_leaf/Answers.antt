-- The one update that is left along the nest, by what its heads tell.
use Rattle.std.proofs.Common.{◌∙◌, subst, Some}
use Rattle.fin_simp.specs.Left.{Marks}
use Rattle.fin_perform.specs.Meanings.{body_deed}
use Rattle.fin_stmts.specs.Places.{here_of}
use Rattle.fin_stmts.specs.Updates.{IsFree}
use Rattle.fin_stmts.proofs.FixedLeaf.{one_left, there}
use Rattle.fin_stmts.proofs.Points.{told_there}
use Rattle.fin_stmts.proofs.leaves.fixed_leaf.Goals as goal

pub update_at_once-requires : goal.update_at_once-requires
update_at_once-requires c =
    let asks = c.args.asks.now in
    let told = told_there asks.site.around asks.drives.now c.args.nest.now c.as_slice.result.now c.as_slice-2.result.now (c.as_slice.ensures.value ∙ c.in_ok-told.ensures.gaps)
    (c.as_slice-2.ensures.value ∙ c.in_ok-told.ensures.known) in
    one_left asks.site asks.drives.now c.args.nest.now c.requires.site c.requires.comes c.requires.fixed _ told

pub once_leaf-requires-clause-once : goal.once_leaf-requires-clause-once
once_leaf-requires-clause-once c =
    let asks = c.args.asks.now in
    let told = told_there asks.site.around asks.drives.now c.args.nest.now c.as_slice.result.now c.as_slice-2.result.now (c.as_slice.ensures.value ∙ c.in_ok-told.ensures.gaps)
    (c.as_slice-2.ensures.value ∙ c.in_ok-told.ensures.known) in
    let free = rw c.in-Some.is at c.in_ok-update.ensures in
    subst (λ (m : Marks). IsFree asks.site.one.var (body_deed asks.site.one.body.now (here_of asks.site.place) (Some m)) c.in-Some.update)
    (there asks.site asks.drives.now c.args.nest.now c.requires.site c.requires.comes c.requires.fixed _ told) free
