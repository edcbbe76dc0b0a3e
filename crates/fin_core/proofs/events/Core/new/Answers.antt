use Rattle.std.proofs.Common.{subst, List, sym}
use Rattle.fin_tensor.specs.Building.{Building}
use Rattle.fin_ir.specs.Machine as machine
use Rattle.fin_core.specs.Interleaving.{Free}
use Rattle.fin_core.specs.Cores.{listed, AllBuilt, AllLie}
use Rattle.fin_core.proofs.Order.{settled_free}
use Rattle.fin_core.proofs.Holding.{built_words, listed_words}
use Rattle.fin_core.proofs.events.Core.new.Goals as goal

pub invariant_of-result : goal.invariant_of-result
invariant_of-result c =
    let qs = c.args.effects.items in
    let ts = c.args.tensors.items in
    let same = sym c.in_ok-effects.ensures in record {
      free = subst (λ (xs : List (List machine.Effect)). Free xs) same (settled_free (listed qs) (listed_words qs) c.requires.settled);
      words = built_words ts (subst (λ (ts : List Building). AllBuilt ts) c.as_slice.ensures.value c.are_built.ensures);
      lie = subst (λ (xs : List (List machine.Effect)). AllLie ts xs) same c.requires.lie;
      unordered = c.requires.levels;
    }
