use Rattle.std.proofs.Common.{◌∙◌, sym, subst, ap, arith, List, take}
use Rattle.std.proofs.lemmas.List.{take_more, take_all}
use Rattle.std.proofs.lemmas.Option.{slice_get-get_or, get_or_from_slice_get}
use Rattle.fin_ast.specs.declared.place.Tie.{Tie}
use Rattle.fin_ast.specs.Ties.{IsUneven}
use Rattle.fin_dims.specs.Classes.{AreSettled, label_of}
use Rattle.fin_dims.proofs.Settled.{settled_even}
use Rattle.fin_dims.proofs.settle.settle.Goals as goal

abbrev none : Tie
none = record { dimension = 0; var = 0; line = 0 }

pub returns-then-not-join : goal.returns-then-not-join
returns-then-not-join c shapes s =
    let before = c.loop-k.invariant.settled shapes s in (
      c.loop-k.k,
      record {
        within = c.loop-k-test.true;
        on_line = λ t. ap (λ (x : Tie). x.line) (get_or_from_slice_get c.args.ties.now c.loop-k.k _ t (slice_get-get_or c.args.ties.now c.loop-k.k none c.loop-k-test.true));
        even = settled_even shapes (take c.loop-k.k c.args.ties.now) (label_of c.loop-k.classes.anchors.items c.loop-k.classes.labels.items) c.loop-k.classes.numbers.items before;
        uneven = subst (IsUneven shapes) (sym (take_more c.args.ties.now c.loop-k.k none c.loop-k-test.true)) (c.if-not-join.ensures.joined shapes (take c.loop-k.k c.args.ties.now) before);
      },
    )

pub loop-k-preserved : goal.loop-k-preserved
loop-k-preserved c = record {
  ready = c.join.ensures.ready;
  dimensions = c.join.ensures.dimensions ∙ c.loop-k.invariant.dimensions;
  variables = c.join.ensures.variables ∙ c.loop-k.invariant.variables;
  settled = λ shapes s. subst (λ (ts : List Tie). AreSettled shapes ts c.join.new.self) (sym (take_more c.args.ties.now c.loop-k.k none c.loop-k-test.true)) (c.if-not-join.ensures.joined shapes (take c.loop-k.k c.args.ties.now) (c.loop-k.invariant.settled shapes s));
}

pub returns : goal.returns
returns c shapes s = subst (λ (ts : List Tie). AreSettled shapes ts c.loop-k.classes) (take_all c.loop-k.k c.args.ties.now (omega arith)) (c.loop-k.invariant.settled shapes s)
