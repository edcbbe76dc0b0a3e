-- The update that is left along the nest, at once.
use Rattle.std.proofs.Common.{ℕ, List, ap, ◌∙◌}
use Rattle.fin_read.specs.Values.{Heads, shape_of, value_code}
use Rattle.fin_style_point.specs.declared.changing.Change.{Change}
use Rattle.fin_style_point.specs.Changes.{at_once_code}
use Rattle.fin_loops.specs.AtOnce.{once_code_of}
use Rattle.fin_perform.specs.Codes.{end_of}
use Rattle.fin_stmts.specs.Updates.{written_of}
use Rattle.fin_stmts.proofs.OnceLeaf.{once_lowers}
use Rattle.fin_stmts.proofs.at_once.once_leaf.Goals as goal

pub returns : goal.returns
returns c =
    let asks = c.args.asks.now in
    let n = c.args.nest.now in
    let u = c.args.update.now in
    let heads = c.heads_of-heads.result in
    let placed = c.in_ok-placed in
    let code = c.in_ok-code.ensures ∙ ap (λ (s : List ℕ). at_once_code n s placed.placed.change) c.shape_of-shape.ensures.shape
    ∙ ap (at_once_code n (shape_of heads u.tensor)) placed.ensures.change ∙ ap (λ (h : Heads). once_code_of h n (written_of u)) c.heads_of-heads.ensures in
    let room = placed.ensures.need ∙ ap (λ (h : Heads). end_of (value_code h u.value.now n.next)) c.heads_of-heads.ensures in
    once_lowers asks.site asks.drives.now n c.requires.site c.requires.comes c.requires.fixed u c.requires.once _ code room
