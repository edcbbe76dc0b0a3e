use Rattle.std.proofs.Common.{map, arith}
use Rattle.fin_parse.specs.Leaves.{head_parts, header_of}
use Rattle.fin_parse.specs.HeaderTrees.{AreHeadersOf}
use Rattle.fin_parse.proofs.HeadLinks.{sound_at, made_more, made_all, few_headers, names_of_accepted_differ}
use Rattle.fin_parse.proofs.header_trees.headers.Goals as goal

pub header-requires : goal.header-requires
header-requires c = record {
  sound = sound_at c.args.text.now c.args.trees.now c.as_slice-tree-items.result.now c.as_slice-tree-items.ensures c.requires.accepted c.loop-tree.tree-index c.tree-item.result (head_parts c.in_ok-head.head) c.loop-tree-test.true c.tree-item.is c.in_ok-head.ensures.value;
}

pub loop-tree-preserved : goal.loop-tree-preserved
loop-tree-preserved c =
    made_more c.args.text.now c.args.trees.now c.as_slice-tree-items.result.now c.as_slice-tree-items.ensures c.loop-tree.tree-index c.tree-item.result (head_parts c.in_ok-head.head) c.loop-tree.headers c.push.new.self c.in_ok-header.header
    c.loop-tree-test.true c.tree-item.is c.in_ok-head.ensures.value c.loop-tree.invariant c.in_ok-header.ensures.value c.in_ok-push.ensures.ok

pub returns-clause-distinct : goal.returns-clause-distinct
returns-clause-distinct c =
    let are : AreHeadersOf c.args.text.now (map header_of c.args.trees.now.headers) c.loop-tree.headers = made_all c.args.text.now c.args.trees.now c.as_slice-tree-items.result.now c.as_slice-tree-items.ensures c.loop-tree.tree-index c.loop-tree.headers (omega arith) c.loop-tree.invariant in
    names_of_accepted_differ c.args.text.now c.args.trees.now c.loop-tree.headers c.requires.accepted are

pub returns-clause-few : goal.returns-clause-few
returns-clause-few c =
    let are : AreHeadersOf c.args.text.now (map header_of c.args.trees.now.headers) c.loop-tree.headers = made_all c.args.text.now c.args.trees.now c.as_slice-tree-items.result.now c.as_slice-tree-items.ensures c.loop-tree.tree-index c.loop-tree.headers (omega arith) c.loop-tree.invariant in
    few_headers c.args.text.now c.args.trees.now c.loop-tree.headers c.requires.accepted are
