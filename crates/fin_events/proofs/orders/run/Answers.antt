use Rattle.std.proofs.Common.{subst, sym, ap, ◌∙◌, ◌<◌, take, get_or, arith, List, ℕ}
use Rattle.std.proofs.lemmas.List.{take_more, take_all}
use Rattle.fin_core.specs.Interleaving.{states}
use Rattle.fin_core.specs.Cores.{lists, values}
use Rattle.fin_events.proofs.Running.{Ran, ran_none, ran_more}
use Rattle.fin_events.proofs.orders.run.Goals as goal

pub loop-chunk-init : goal.loop-chunk-init
loop-chunk-init c = ran_none c.args.core.now

pub event-requires : goal.event-requires
event-requires c =
    let at = c.loop-chunk.chunk-index in
    subst (λ n. get_or c.args.order.now at 0 < n) (sym c.loop-chunk.invariant.chunks) (c.requires at 0 c.loop-chunk-test.true)

pub loop-chunk-preserved : goal.loop-chunk-preserved
loop-chunk-preserved c =
    let old = c.args.core.now in
    let ks = c.args.order.now in
    let at = c.loop-chunk.chunk-index in
    let done = c.in_ok-event.ensures in
    subst (λ (js : List ℕ). Ran js old c.event.new.self) (sym (take_more ks at 0 c.loop-chunk-test.true))
    (ran_more (take at ks) (get_or ks at 0) old c.loop-chunk.core c.event.new.self c.loop-chunk.invariant done.rest done.tensors done.state)

pub returns-clause-count : goal.returns-clause-count
returns-clause-count c = c.loop-chunk.invariant.tensors

pub returns-clause-state : goal.returns-clause-state
returns-clause-state c =
    let old = c.args.core.now in
    let ks = c.args.order.now in
    c.loop-chunk.invariant.state ∙ ap (λ (js : List ℕ). states js (lists old.effects.items) (values old.tensors.items)) (take_all c.loop-chunk.chunk-index ks (omega (arith, c.loop-chunk-test.false)))
