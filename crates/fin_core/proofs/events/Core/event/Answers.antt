use Rattle.std.proofs.Common.{◌∙◌, refl, List, subst, sym, ap}
use Rattle.fin_tensor.specs.Building.{Building}
use Rattle.fin_ir.specs.Machine as machine
use Rattle.fin_core.specs.Interleaving.{Free, serial}
use Rattle.fin_core.specs.Cores.{meant, lists, values, AllLie, AreUnordered}
use Rattle.fin_core.specs.Effects.{Words}
use Rattle.fin_core.proofs.Holding.{next_is, rest_is, lies_next, kept, Kept}
use Rattle.fin_core.proofs.events.Core.event.Goals as goal

pub update-requires-clause-lies : goal.update-requires-clause-lies
update-requires-clause-lies c =
    let qs = c.args.self.now.effects.items in
    let n = next_is qs c.args.chunk c.index.result.now c.in-Some.effect.now c.requires c.index.ensures (c.in-Some.ensures.variant.0 refl) c.in-Some.ensures.lookup in
    lies_next c.args.self.now.tensors.items (lists qs) c.args.chunk (meant c.in-Some.effect.now) n.0 n.1 c.args.self.now.lie

pub invariant_of-self-in-Break-1 : goal.invariant_of-self-in-Break-1
invariant_of-self-in-Break-1 c =
    let self = c.args.self.now in
    let same = sym c.in_err-update.ensures.err in record {
      free = self.free;
      words = subst (λ (xs : List Building). Words (values xs)) same self.words;
      lie = subst (λ (xs : List Building). AllLie xs (lists self.effects.items)) same self.lie;
      unordered = subst (λ (xs : List Building). AreUnordered xs) same self.unordered;
    }

pub invariant_of-self-2 : goal.invariant_of-self-2
invariant_of-self-2 c =
    let self = c.args.self.now in
    let qs = self.effects.items in
    let n = next_is qs c.args.chunk c.index.result.now c.in-Some.effect.now c.requires c.index.ensures (c.in-Some.ensures.variant.0 refl) c.in-Some.ensures.lookup in
    let rest = rest_is qs c.args.chunk c.index_mut.result.now (record { waiting = c.pop_front.new.self }) c.requires c.index_mut.ensures.value c.pop_front.ensures.rest in
    let k : Kept c.update.new.tensors.items self.tensors.items (lists qs) c.args.chunk =
    kept c.update.new.tensors.items self.tensors.items (lists qs) c.args.chunk (meant c.in-Some.effect.now) n.0 n.1 c.in_ok-update.ensures.ok self.free self.words self.lie self.unordered in record {
      free = subst (λ (xs : List (List machine.Effect)). Free xs) (sym rest) k.free;
      words = k.words;
      lie = subst (λ (xs : List (List machine.Effect)). AllLie c.update.new.tensors.items xs) (sym rest) k.lie;
      unordered = k.unordered;
    }

pub returns-clause-rest : goal.returns-clause-rest
returns-clause-rest c = rest_is c.args.self.now.effects.items c.args.chunk c.index_mut.result.now (record { waiting = c.pop_front.new.self }) c.requires c.index_mut.ensures.value c.pop_front.ensures.rest

pub returns-clause-state : goal.returns-clause-state
returns-clause-state c =
    let self = c.args.self.now in
    let qs = self.effects.items in
    let n = next_is qs c.args.chunk c.index.result.now c.in-Some.effect.now c.requires c.index.ensures (c.in-Some.ensures.variant.0 refl) c.in-Some.ensures.lookup in
    (kept c.update.new.tensors.items self.tensors.items (lists qs) c.args.chunk (meant c.in-Some.effect.now) n.0 n.1 c.in_ok-update.ensures.ok self.free self.words self.lie self.unordered).state

pub returns-clause-serial : goal.returns-clause-serial
returns-clause-serial c =
    let self = c.args.self.now in
    let qs = self.effects.items in
    let n = next_is qs c.args.chunk c.index.result.now c.in-Some.effect.now c.requires c.index.ensures (c.in-Some.ensures.variant.0 refl) c.in-Some.ensures.lookup in
    let rest = rest_is qs c.args.chunk c.index_mut.result.now (record { waiting = c.pop_front.new.self }) c.requires c.index_mut.ensures.value c.pop_front.ensures.rest in
    ap (λ (xs : List (List machine.Effect)). serial xs (values c.update.new.tensors.items)) rest
    ∙ (kept c.update.new.tensors.items self.tensors.items (lists qs) c.args.chunk (meant c.in-Some.effect.now) n.0 n.1 c.in_ok-update.ensures.ok self.free self.words self.lie self.unordered).serial_is
