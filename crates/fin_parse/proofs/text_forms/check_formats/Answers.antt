use Rattle.std.proofs.Common.{◌∙◌}
use Rattle.fin_parse.specs.Leaves.{head_parts}
use Rattle.fin_parse.proofs.FormParts.{format_found, format_passed, known_passed}
use Rattle.fin_parse.proofs.text_forms.check_formats.Goals as goal

pub returns-then-is_some-clause-first : goal.returns-then-is_some-clause-first
returns-then-is_some-clause-first c =
    format_found c.args.headers.now c.loop-header.header-index c.header-item.result c.loop-header-test.true c.header-item.is (head_parts c.in_ok-head.head) c.in_ok-head.ensures.value c.head_format-found.result c.if-is_some.ensures c.head_format-found.ensures.value
    ∙ c.loop-header.invariant.first

pub loop-header-preserved : goal.loop-header-preserved
loop-header-preserved c = record {
  first = format_passed c.args.headers.now c.loop-header.header-index c.header-item.result c.loop-header-test.true c.header-item.is (head_parts c.in_ok-head.head) c.in_ok-head.ensures.value c.head_format-found.result c.if-is_some.ensures c.head_format-found.ensures.value
      ∙ c.loop-header.invariant.first;
  fills = known_passed c.args.headers.now c.loop-header.header-index c.header-item.result c.loop-header-test.true c.header-item.is (head_parts c.in_ok-head.head) c.in_ok-head.ensures.value c.loop-header.known.items c.add_fill.new.known.items c.in_ok-add_fill.ensures.ok
      ∙ c.loop-header.invariant.fills;
}
