use Rattle.std.proofs.Common.{◌≡◌, ◌∙◌, ap, sym, map, length, [], arith}
use Rattle.fin_parse.specs.Elaboration.{statements_of, binders_in, elaboration_of}
use Rattle.fin_parse.specs.HeaderNames.{tensors_of}
use Rattle.fin_parse.specs.Leaves.{header_of}
use Rattle.fin_parse.proofs.Programs.{binders_few, few_tensors, numbered, named, shallow, worded}
use Rattle.fin_parse.proofs.program.program_of.Goals as goal

pub statements_of-requires-clause-few : goal.statements_of-requires-clause-few
statements_of-requires-clause-few c =
    few_tensors c.args.text.now c.args.trees.now c.in_ok-headers.headers (c.args.tokens.now, c.requires.accepted) c.in_ok-headers.ensures.headers c.in_ok-headers.ensures.few c.as_slice.result.now (c.as_slice.ensures.value ∙ c.in_ok-tensors.ensures.value)

pub statements_of-requires-clause-room : goal.statements_of-requires-clause-room
statements_of-requires-clause-room c =
    omega (arith, binders_few c.args.text.now c.args.trees.now c.args.tokens.now c.requires.accepted, c.requires.few, ap (λ us. binders_in c.args.text.now (map (elaboration_of c.args.text.now) us)) c.as_slice-2.ensures)

pub invariant_of-result : goal.invariant_of-result
invariant_of-result c =
    let body = c.in_ok-body.ensures.value
    ∙ ap (λ ts. statements_of c.args.text.now ts c.as_slice-2.result.now) (c.as_slice.ensures.value ∙ c.in_ok-tensors.ensures.value)
    ∙ ap (statements_of c.args.text.now (tensors_of [] (map header_of c.args.trees.now.headers))) c.as_slice-2.ensures in
    record {
      few = c.in_ok-headers.ensures.few;
      distinct = c.in_ok-headers.ensures.distinct;
      numbered = numbered c.args.text.now c.args.trees.now c.args.tokens.now c.requires.accepted c.in_ok-headers.headers c.in_ok-headers.ensures.headers c.in_ok-body.body body;
      named = named c.args.text.now c.args.trees.now c.args.tokens.now c.requires.accepted c.in_ok-headers.headers c.in_ok-headers.ensures.headers c.in_ok-body.body body;
      worded = worded c.args.text.now c.args.trees.now c.args.tokens.now c.requires.accepted c.in_ok-headers.headers c.in_ok-headers.ensures.headers c.in_ok-body.body body;
      shallow = shallow c.args.text.now c.args.trees.now c.args.tokens.now c.requires.accepted c.in_ok-headers.headers c.in_ok-headers.ensures.headers c.in_ok-body.body body;
    }
