-- The update that is left along the nest, at each coordinate.
use Rattle.std.proofs.Common.{◌≡◌, refl, sym, subst, Some}
use Rattle.fin_simp.specs.Numbered.{Here}
use Rattle.fin_simp.specs.Rest.{OneUpdate}
use Rattle.fin_perform.specs.Appending.{marks_in, here_of}
use Rattle.fin_perform.specs.Places.{left_of_all}
use Rattle.fin_stmts.specs.Sites.{loop_of}
use Rattle.fin_stmts.proofs.FixedLeaf.{appends_there, one_left, fixed_lowers}
use Rattle.fin_stmts.proofs.leaves.loop_leaf.Goals as goal

pub push_once-requires : goal.push_once-requires
push_once-requires c =
    let asks = c.args.asks.now in
    let at = c.args.at.now in
    let told = c.requires.told in
    subst (λ (h : Here). (left_of_all asks.site.one.body.now h (Some (marks_in at))).kind ≡ OneUpdate) (sym told.here)
    (one_left asks.site asks.drives.now c.args.nest.now c.requires.site c.requires.comes c.requires.fixed (marks_in at) told.marks)

pub returns : goal.returns
returns c =
    let asks = c.args.asks.now in
    let at = c.args.at.now in
    let n = c.args.nest.now in
    let told = c.requires.told in
    let once = c.in_ok-room in
    fixed_lowers asks.site asks.drives.now n c.requires.site c.requires.comes c.requires.fixed (marks_in at) told.marks _ (sym c.heads_of-heads.ensures) once.room _ _ c.new-turn.ensures
    (appends_there _ once.room _ _ asks.site.one.body.now (marks_in at) n.next at.next (loop_of asks.site).here (here_of at) told.next told.here once.ensures)
    _ c.in_ok-code.ensures refl
