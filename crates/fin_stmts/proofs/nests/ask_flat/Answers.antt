use Rattle.std.proofs.Common.{◌∙◌, sym}
use Rattle.fin_stmts.proofs.Asked.{fixed_along, fixed_owed, varying_owed}
use Rattle.fin_stmts.proofs.nests.ask_flat.Goals as goal

pub returns-then-is_fixed : goal.returns-then-is_fixed
returns-then-is_fixed c =
    let s = c.args.asks.now.site in
    let ds = c.args.asks.now.drives.now in
    let n = c.args.nest.now in
    fixed_owed s ds n c.requires.comes c.requires.flat
    (sym (fixed_along s ds n c.requires.comes c.requires.flat c.as_slice.result.now c.as_slice-2.result.now _ _
    (c.as_slice.ensures.value ∙ c.in_ok-told.ensures.gaps) (c.as_slice-2.ensures.value ∙ c.in_ok-told.ensures.known)
    c.in_ok-walk.ensures.found c.is_fixed.ensures) ∙ c.if-is_fixed.true)

pub returns : goal.returns
returns c =
    let s = c.args.asks.now.site in
    let ds = c.args.asks.now.drives.now in
    let n = c.args.nest.now in
    varying_owed s ds n c.requires.comes c.requires.flat
    (sym (fixed_along s ds n c.requires.comes c.requires.flat c.as_slice.result.now c.as_slice-2.result.now _ _
    (c.as_slice.ensures.value ∙ c.in_ok-told.ensures.gaps) (c.as_slice-2.ensures.value ∙ c.in_ok-told.ensures.known)
    c.in_ok-walk.ensures.found c.is_fixed.ensures) ∙ c.if-is_fixed.false)
