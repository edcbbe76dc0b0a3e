use Rattle.std.proofs.Common.{◌<◌, sym, subst, refl, arith, length, List, get_or}
use Rattle.std.specs.List.Sorted.{IsNonDecreasingBy}
use Rattle.std.proofs.lemmas.List.Sorted.{All-permutation}
use Rattle.fin_ast.specs.declared.place.Tie.{Tie}
use Rattle.fin_ast.specs.Ties.{ties_of}
use Rattle.fin_dims.specs.Classes.{label_of}
use Rattle.fin_dims.proofs.Settled.{settled_even, settled_extents}
use Rattle.fin_dims.proofs.Order.{even_too, extents_too, first_uneven}
use Rattle.fin_dims.proofs.Flagged.{by_flags, all_flagged}
use Rattle.fin_dims.proofs.settle.classes_of.Goals as goal

pub settle-requires-clause-variables : goal.settle-requires-clause-variables
settle-requires-clause-variables c k d h =
    let all = All-permutation (λ (t : Tie). t.var < length c.as_slice.result.now) _ c.in_ok-ties.ties.items c.in_ok-ties.ensures.same (all_flagged c.as_slice.result.now c.args.places.now) in
    let within : (get_or c.as_slice-3.result.now k d).var < length c.as_slice.result.now =
    subst (λ (ts : List Tie). (get_or ts k d).var < length c.as_slice.result.now) (sym c.as_slice-3.ensures.value) (all k d (subst (λ (ts : List Tie). k < length ts) c.as_slice-3.ensures.value h)) in
    omega (arith, c.in_ok-classes.ensures.variables)

pub returns-in-None-clause-even : goal.returns-in-None-clause-even
returns-in-None-clause-even c =
    let s = c.in-None.ensures c.args.shapes.now c.in_ok-classes.ensures.settled in
    even_too c.args.shapes.now (ties_of c.args.places.now) c.as_slice-3.result.now
    (by_flags c.in_ok-flags.flags.items c.as_slice.result.now c.args.places.now c.in_ok-ties.ties.items c.as_slice-3.result.now c.as_slice.ensures.value c.in_ok-flags.ensures c.in_ok-ties.ensures.same c.as_slice-3.ensures.value)
    (settled_even c.args.shapes.now c.as_slice-3.result.now (label_of c.settle.new.classes.anchors.items c.settle.new.classes.labels.items) c.settle.new.classes.numbers.items s)

pub returns-in-None-clause-extents : goal.returns-in-None-clause-extents
returns-in-None-clause-extents c =
    let s = c.in-None.ensures c.args.shapes.now c.in_ok-classes.ensures.settled in
    extents_too c.args.shapes.now (ties_of c.args.places.now) c.as_slice-3.result.now
    (by_flags c.in_ok-flags.flags.items c.as_slice.result.now c.args.places.now c.in_ok-ties.ties.items c.as_slice-3.result.now c.as_slice.ensures.value c.in_ok-flags.ensures c.in_ok-ties.ensures.same c.as_slice-3.ensures.value)
    _
    (settled_extents c.args.shapes.now c.as_slice-3.result.now (label_of c.settle.new.classes.anchors.items c.settle.new.classes.labels.items) c.settle.new.classes.numbers.items s)

pub returns-clause-refused : goal.returns-clause-refused
returns-clause-refused c =
    let b = c.in-Some.ensures c.args.shapes.now c.in_ok-classes.ensures.settled in (
      refl,
      first_uneven c.args.shapes.now (ties_of c.args.places.now) c.as_slice-3.result.now
          (by_flags c.in_ok-flags.flags.items c.as_slice.result.now c.args.places.now c.in_ok-ties.ties.items c.as_slice-3.result.now c.as_slice.ensures.value c.in_ok-flags.ensures c.in_ok-ties.ensures.same c.as_slice-3.ensures.value)
          b.0 c.in-Some.line
          (subst (λ (ts : List Tie). IsNonDecreasingBy (λ t. t.line) ts) (sym c.as_slice-3.ensures.value) c.in_ok-ties.ensures.sorted) b.1,
    )
