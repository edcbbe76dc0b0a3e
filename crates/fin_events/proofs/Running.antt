-- What a list of events leaves of a core.
use Rattle.std.proofs.Common.{◌≡◌, ℕ, zero, suc, List, [], ◌∷◌, ◌++◌, length, map, length-set, refl, sym, ap, ◌∙◌, pos}
use Rattle.std.specs.Prelude.{unwrap_or, Option, ℤ}
use Rattle.std.specs.FinMap.{get-empty}
use Rattle.std.specs.Cmp.Lexicographic.{slice_cmp}
use Rattle.std.specs.Ordering.{nat_cmp}
use Rattle.std.proofs.lemmas.List.{length-map}
use Rattle.fin_tensor.specs.Building.{Building}
use Rattle.fin_ir.specs.Machine as machine
use Rattle.fin_core.specs.declared.events.Core.{Core}
use Rattle.fin_core.specs.Effects.{State}
use Rattle.fin_core.specs.Interleaving.{queue, taken_off, rest_after, state_after, rests, states}
use Rattle.fin_core.specs.Cores.{meant, lists, values, tensor_at, tensors_after}
use Rattle.fin_core.specs.Events.{waiting, IsTakenOff, IsPut, IsNextState}
use Rattle.fin_events.specs.Chunks.{vector_of, zeros}

-- ---- lists of events
rests_more : (ks : List ℕ) (k : ℕ) (qs : List (List machine.Effect)) → rests (ks ++ k ∷ []) qs ≡ rest_after k (rests ks qs)
rests_more [] k qs = refl
rests_more (j ∷ ks) k qs = rests_more ks k (rest_after j qs)

states_more : (ks : List ℕ) (k : ℕ) (qs : List (List machine.Effect)) (s : State) → states (ks ++ k ∷ []) qs s ≡ state_after k (rests ks qs) (states ks qs s)
states_more [] k qs s = refl
states_more (j ∷ ks) k qs s = states_more ks k (rest_after j qs) (state_after j qs s)

-- ---- how many lists and tensors there are
lists_stay : (k : ℕ) (old new : Core) → IsTakenOff k old new → length new.effects.items ≡ length old.effects.items
lists_stay k old new e =
    sym (length-map new.effects.items (λ q. map meant q.waiting.items)) ∙ ap length e
    ∙ length-set (lists old.effects.items) k (taken_off (queue (lists old.effects.items) k))
    ∙ length-map old.effects.items (λ q. map meant q.waiting.items)

tensors_stay : (k : ℕ) (old new : Core) → IsPut k old new → length new.tensors.items ≡ length old.tensors.items
tensors_stay k old new e = ap length e ∙ after (waiting old k) old.tensors.items
  where
    after : (q : List machine.Effect) (ts : List Building) → length (tensors_after q ts) ≡ length ts
    after [] ts = refl
    after (x ∷ q) ts = length-set ts x.tensor (machine.put x (tensor_at ts x.tensor))

-- ---- a core after some events
pub record Ran (ks : List ℕ) (old new : Core) : Type 0 where
  pub left : lists new.effects.items ≡ rests ks (lists old.effects.items)
  pub state : values new.tensors.items ≡ states ks (lists old.effects.items) (values old.tensors.items)
  pub chunks : length new.effects.items ≡ length old.effects.items
  pub tensors : length new.tensors.items ≡ length old.tensors.items

pub ran_none : (core : Core) → Ran [] core core
ran_none core = record { left = refl; state = refl; chunks = refl; tensors = refl }

pub ran_more : (ks : List ℕ) (k : ℕ) (old mid new : Core) → Ran ks old mid → IsTakenOff k mid new → IsPut k mid new → IsNextState k mid new → Ran (ks ++ k ∷ []) old new
ran_more ks k old mid new r off put next =
    let qs : List (List machine.Effect) = lists old.effects.items in
    let s : State = values old.tensors.items in record {
      left = off ∙ ap (rest_after k) r.left ∙ sym (rests_more ks k qs);
      state = next ∙ ap (λ ps. state_after k ps (values mid.tensors.items)) r.left ∙ ap (state_after k (rests ks qs)) r.state ∙ sym (states_more ks k qs s);
      chunks = lists_stay k mid new off ∙ r.chunks;
      tensors = tensors_stay k mid new put ∙ r.tensors;
    }

pub starts : (n : ℕ) → values (vector_of n ∷ []) ≡ zeros
starts n = λ i t cs. point t cs i
  where
    point : (t : ℕ) (cs : List ℕ) → values (vector_of n ∷ []) t cs ≡ pos 0
    point zero cs = ap (λ (o : Option ℤ). unwrap_or o (pos 0)) (get-empty (slice_cmp nat_cmp) cs)
    point (suc t) cs = ap (λ (o : Option ℤ). unwrap_or o (pos 0)) (get-empty (slice_cmp nat_cmp) cs)
