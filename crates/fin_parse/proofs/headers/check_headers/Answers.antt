use Rattle.std.proofs.Common.{rules, ◌≡◌, ◌∙◌}
use Rattle.fin_parse.specs.Names.{first_of}
use Rattle.fin_parse.specs.HeaderNames.{head_breaches}
use Rattle.fin_parse.specs.Leaves.{head_parts}
use Rattle.fin_parse.proofs.HeaderParts.{header_found, header_passed, tensors_passed}
use Rattle.fin_parse.proofs.headers.check_headers.Goals as goal

pub returns-then-is_some-clause-first : goal.returns-then-is_some-clause-first
returns-then-is_some-clause-first c =
    let v : c.head_breach-found.result ≡ first_of (head_breaches c.args.text.now c.loop-header.tensors.items (head_parts c.in_ok-head.head)) = search rules in
    header_found c.args.text.now c.loop-header.tensors.items c.args.headers.now c.loop-header.header-index c.header-item.result c.loop-header-test.true c.header-item.is (head_parts c.in_ok-head.head) c.in_ok-head.ensures.value c.head_breach-found.result c.if-is_some.ensures v
    ∙ c.loop-header.invariant.first

pub loop-header-preserved : goal.loop-header-preserved
loop-header-preserved c =
    let v : c.head_breach-found.result ≡ first_of (head_breaches c.args.text.now c.loop-header.tensors.items (head_parts c.in_ok-head.head)) = search rules in record {
      first = header_passed c.args.text.now c.loop-header.tensors.items c.args.headers.now c.loop-header.header-index c.header-item.result c.loop-header-test.true c.header-item.is (head_parts c.in_ok-head.head) c.in_ok-head.ensures.value c.head_breach-found.result c.add_tensor.new.tensors.items c.if-is_some.ensures v c.in_ok-add_tensor.ensures.ok
          ∙ c.loop-header.invariant.first;
      tensors = tensors_passed c.args.text.now c.loop-header.tensors.items c.args.headers.now c.loop-header.header-index c.header-item.result c.loop-header-test.true c.header-item.is (head_parts c.in_ok-head.head) c.in_ok-head.ensures.value c.add_tensor.new.tensors.items c.in_ok-add_tensor.ensures.ok
          ∙ c.loop-header.invariant.tensors;
    }
