use Rattle.std.proofs.Common.{ap, ◌∙◌, List, ℕ, Option}
use Rattle.std.specs.Option.{option_or}
use Rattle.fin_base.specs.declared.refusal.Refusal.{Refusal}
use Rattle.fin_ast.specs.declared.header.Header.{Header}
use Rattle.fin_ast.specs.declared.place.Place.{Place}
use Rattle.fin_ast.specs.declared.tree.Stmt.{Stmt}
use Rattle.fin_ast.specs.declared.checked.Dims.{Dims}
use Rattle.fin_ast.specs.Sizes.{first_unknown, first_of, outside, first_dense}
use Rattle.fin_ast.specs.Choices.{first_in, crowds_of}
use Rattle.fin_ast.specs.Infer.{dims_in}
use Rattle.fin_dims.specs.Settled.{extent_of}
use Rattle.fin_dims.proofs.Verdict.{all_four}
use Rattle.fin_dims.proofs.dimensions.breach.Goals as goal

pub returns : goal.returns
returns c =
    let ranges = c.as_slice-3.ensures ∙ ap (λ (d : Dims). d.ranges) c.requires.dims in
    let shapes = c.as_slice.ensures ∙ ap (λ (d : Dims). d.shapes) c.requires.dims in
    c.or-3.ensures
    ∙ ap (λ (o : Option Refusal). option_or c.first_unknown-unknown.result o) (c.or-2.ensures ∙ ap (λ (o : Option Refusal). option_or c.first_outside-outside.result o) c.or.ensures)
    ∙ all_four _ _ _ _ _ _ _ _
    (c.first_unknown-unknown.ensures ∙ ap (λ (hs : List Header). first_unknown (extent_of c.args.classes.now) hs c.args.places.now) c.as_slice-headers.ensures ∙ ap (λ (ps : List Place). first_unknown (extent_of c.args.classes.now) c.args.program.now.headers ps) c.requires.places)
    (c.first_outside-outside.ensures ∙ ap (λ (rs : List (ℕ × ℕ)). first_of (outside (extent_of c.args.classes.now) rs) c.args.places.now) ranges ∙ ap (λ (ps : List Place). first_of (outside (extent_of c.args.classes.now) (dims_in (extent_of c.args.classes.now) c.args.program.now).ranges) ps) c.requires.places)
    (c.first_dense-dense.ensures ∙ ap (λ (hs : List Header). first_dense hs c.as_slice.result.now) c.as_slice-headers.ensures ∙ ap (λ (ss : List (List ℕ)). first_dense c.args.program.now.headers ss) shapes)
    (c.in_ok-crowd.ensures ∙ ap (λ (hs : List Header). first_in (crowds_of hs c.as_slice-2.result.now)) c.as_slice-headers.ensures ∙ ap (λ (ss : List Stmt). first_in (crowds_of c.args.program.now.headers ss)) c.as_slice-2.ensures)
