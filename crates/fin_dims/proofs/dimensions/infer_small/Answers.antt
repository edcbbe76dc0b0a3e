use Rattle.std.proofs.Common.{◌≡◌, ◌∙◌, sym, ap, inl, inr, List, []}
use Rattle.fin_base.specs.declared.refusal.Rule.TheVariants.{M1}
use Rattle.fin_ast.specs.declared.header.Header.{Header}
use Rattle.fin_ast.specs.declared.place.Place.{Place}
use Rattle.fin_ast.specs.Ties.{AreExtents, IsUneven, IsFirstUneven, ties_of}
use Rattle.fin_ast.specs.Sizes.{dims_of}
use Rattle.fin_ast.specs.Infer.{given, IsFirstBreach}
use Rattle.fin_dims.specs.Settled.{extent_of}
use Rattle.fin_dims.proofs.Verdict.{in_program, refused_then}
use Rattle.fin_dims.proofs.dimensions.infer_small.Goals as goal

pub returns-in-Some-clause-refused : goal.returns-in-Some-clause-refused
returns-in-Some-clause-refused c =
    let shapes = c.as_slice-2.ensures.value ∙ c.in_ok-given.ensures ∙ ap (λ (hs : List Header). given hs c.args.shapes.now []) c.as_slice.ensures in
    inr (inr (record {
      extent = extent_of c.in-Ok.classes;
      small = c.requires.small;
      even = in_program (λ s t. ¬ IsUneven s t) c.args.program.now c.args.shapes.now c.as_slice-2.result.now c.args.places.now shapes c.requires.places c.in-Ok.ensures.even;
      extents = in_program (λ s t. AreExtents s t (extent_of c.in-Ok.classes)) c.args.program.now c.args.shapes.now c.as_slice-2.result.now c.args.places.now shapes c.requires.places c.in-Ok.ensures.extents;
      breach = sym c.in_ok-refusal-in-Ok.ensures ∙ c.in-Some.is;
    }))

pub returns-in-Ok-clause-numbers : goal.returns-in-Ok-clause-numbers
returns-in-Ok-clause-numbers c =
    let shapes = c.as_slice-2.ensures.value ∙ c.in_ok-given.ensures ∙ ap (λ (hs : List Header). given hs c.args.shapes.now []) c.as_slice.ensures in
    record {
      extent = extent_of c.in-Ok.classes;
      small = c.requires.small;
      even = in_program (λ s t. ¬ IsUneven s t) c.args.program.now c.args.shapes.now c.as_slice-2.result.now c.args.places.now shapes c.requires.places c.in-Ok.ensures.even;
      extents = in_program (λ s t. AreExtents s t (extent_of c.in-Ok.classes)) c.args.program.now c.args.shapes.now c.as_slice-2.result.now c.args.places.now shapes c.requires.places c.in-Ok.ensures.extents;
      kept = sym c.in_ok-refusal-in-Ok.ensures ∙ c.in-None.is;
      numbers = c.in_ok-dims-in-Ok.ensures
          ∙ ap (λ (hs : List Header). dims_of (extent_of c.in-Ok.classes) hs c.args.places.now) c.as_slice-in-Ok.ensures
          ∙ ap (λ (ps : List Place). dims_of (extent_of c.in-Ok.classes) c.args.program.now.headers ps) c.requires.places;
    }

pub returns-clause-refused : goal.returns-clause-refused
returns-clause-refused c =
    let shapes = c.as_slice-2.ensures.value ∙ c.in_ok-given.ensures ∙ ap (λ (hs : List Header). given hs c.args.shapes.now []) c.as_slice.ensures in
    refused_then c.in-Err.fail (λ r. (r.rule ≡ M1) × IsFirstUneven c.as_slice-2.result.now (ties_of c.args.places.now) r.line) (IsFirstBreach c.args.program.now c.args.shapes.now)
    (λ r h. inr (inl (record {
      small = c.requires.small;
      rule = h.0;
      line = in_program (λ s t. IsFirstUneven s t r.line) c.args.program.now c.args.shapes.now c.as_slice-2.result.now c.args.places.now shapes c.requires.places h.1;
    })))
    c.in-Err.ensures.refused
