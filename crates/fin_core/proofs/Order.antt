-- The order of events is free.
use Rattle.std.proofs.Common.{◌≡◌, ◌≢◌, ℕ, zero, suc, ◌⊎◌, inl, inr, ⊎_elim, Bool, true, false, List, [], ◌∷◌, ◌++◌, length, get_or, set, get_or-set_same, get_or-set_other, refl, sym, ap, subst, ◌∙◌, ℤ, arith}
use Rattle.std.specs.Prelude.{if◌then◌else◌, nat_eq}
use Rattle.std.proofs.lemmas.Bool.{eqb-true, and_parts}
use Rattle.std.proofs.lemmas.List.{get_or_past}
use Rattle.std.proofs.lemmas.List.Elements.{All-from_recursion}
use Rattle.std.proofs.lemmas.List.Sorted.{IsPermutation-append_comm}
use mathlib.Core.Logic.{dite}
use native.Mathlib.Decide.{ℕ_discrete, dec_lt}
use Rattle.fin_base.specs.declared.reduce.Reduce.{Reduce}
use Rattle.fin_base.specs.declared.reduce.Reduce.TheVariants.{Put}
use Rattle.fin_base.specs.Words.{IsWord, apply, reduced}
use Rattle.fin_base.proofs.Reductions.{keeps_words, forgets_order}
use Rattle.fin_tensor.proofs.Functions.{tied_are_same}
use Rattle.fin_ir.specs.Machine.{Effect}
use Rattle.fin_core.specs.Effects.{State, Words, are_same, meets, act, acts, values_of}
use Rattle.fin_core.specs.Interleaving.{in_order, serial, queue, taken_off, first_of, rest_after, state_after, rests, states, Complete, IsIn, AreWords, OneReduction, OwnRows, Settled, Commute, Free}
use Rattle.fin_core.specs.Laws.{AnyOrderIsSerial, EachWordIsReduced}

-- two values in either order
swaps : (by : Reduce) → by ≢ Put → (a u v : ℤ) → IsWord a → IsWord u → IsWord v → apply by (apply by a u) v ≡ apply by (apply by a v) u
swaps by n a u v f g h = forgets_order by a (u ∷ v ∷ []) (v ∷ u ∷ []) n f (All-from_recursion IsWord (u ∷ v ∷ []) (g, (h, tt))) (IsPermutation-append_comm (u ∷ []) (v ∷ []))

abbrev pick : Bool → Reduce → ℤ → ℤ → ℤ
pick b by v z = if b then apply by z v else z

picks_swap : (b c : Bool) (by bz : Reduce) (u v z : ℤ) → (b ≡ true → c ≡ true → apply bz (apply by z u) v ≡ apply by (apply bz z v) u) → pick c bz v (pick b by u z) ≡ pick b by u (pick c bz v z)
picks_swap true true by bz u v z h = h refl refl
picks_swap true false by bz u v z h = refl
picks_swap false true by bz u v z h = refl
picks_swap false false by bz u v z h = refl

pub commute : (e f : Effect) → IsWord e.value → IsWord f.value → (e.tensor ≡ f.tensor → ((e.by ≡ f.by) × (e.by ≢ Put)) ⊎ (get_or e.at 0 0 ≢ get_or f.at 0 0)) → Commute e f
commute e f fe ff apart s w = λ i t x. at t x i
  where
    at : (t : ℕ) (x : List ℕ) → act f (act e s) t x ≡ act e (act f s) t x
    at t x = picks_swap (meets e t x) (meets f t x) e.by f.by e.value f.value (s t x) (λ b c.
        let p = and_parts (nat_eq e.tensor t) (are_same e.at x) b in
        let q = and_parts (nat_eq f.tensor t) (are_same f.at x) c in
        let one_tensor : e.tensor ≡ f.tensor = eqb-true e.tensor t p.0 ∙ sym (eqb-true f.tensor t q.0) in
        let one_place : e.at ≡ f.at = tied_are_same e.at x p.1 ∙ sym (tied_are_same f.at x q.1) in
        ⊎_elim
        (λ (h : (e.by ≡ f.by) × (e.by ≢ Put)). subst (λ (bz : Reduce). apply bz (apply e.by (s t x) e.value) f.value ≡ apply e.by (apply bz (s t x) f.value) e.value) h.0 (swaps e.by h.1 (s t x) e.value f.value (w t x) fe ff))
        (λ (h : get_or e.at 0 0 ≢ get_or f.at 0 0). absurd (h (ap (λ l. get_or l 0 0) one_place)))
        (apart one_tensor))

pub act_words : (e : Effect) (s : State) → IsWord e.value → Words s → Words (act e s)
act_words e s fe w = λ t x. either (meets e t x) (s t x) (w t x)
  where
    either : (b : Bool) (z : ℤ) → IsWord z → IsWord (if b then apply e.by z e.value else z)
    either true z h = keeps_words e.by z e.value h fe
    either false z h = h

abbrev AllWords : List Effect → Type 0
AllWords q = (f : Effect) → IsIn f q → IsWord f.value

acts_words : (q : List Effect) (s : State) → AllWords q → Words s → Words (acts q s)
acts_words [] s a w = w
acts_words (f ∷ q) s a w = acts_words q (act f s) (λ g i. a g (inr i)) (act_words f s (a f (inl refl)) w)

acts_append : (p q : List Effect) (s : State) → acts (p ++ q) s ≡ acts q (acts p s)
acts_append [] q s = refl
acts_append (e ∷ p) q s = acts_append p q (act e s)

-- an effect that commutes with a whole list
through : (e : Effect) (q : List Effect) (s : State) → IsWord e.value → AllWords q → ((f : Effect) → IsIn f q → Commute e f) → Words s → act e (acts q s) ≡ acts q (act e s)
through e [] s fe a c w = refl
through e (f ∷ q) s fe a c w =
    through e q (act f s) fe (λ g i. a g (inr i)) (λ g i. c g (inr i)) (act_words f s (a f (inl refl)) w)
    ∙ ap (acts q) (sym (c f (inl refl) s w))

-- the next effect of one chunk may come first
first : (qs : List (List Effect)) (k : ℕ) (e : Effect) (es : List Effect) (s : State) → Free qs → Words s → queue qs k ≡ e ∷ es → acts (in_order qs) s ≡ acts (in_order (set qs k es)) (act e s)
first [] k e es s free w is = absurd (empty_apart is)
  where
    empty_apart : [] ≡ e ∷ es → ⊥
    empty_apart h = let l = ap length h in omega (arith, l)
first (q ∷ qs) zero e es s free w is = ap (λ (p : List Effect). acts (p ++ in_order qs) s) is
first (q ∷ qs) (suc k) e es s free w is =
    let mine : AllWords q = λ f i. free.0 0 f i in
    let has : IsIn e (queue qs k) = subst (IsIn e) (sym is) (inl refl) in
    let fe = free.0 (suc k) e has in
    acts_append q (in_order qs) s
    ∙ first qs k e es (acts q s) (λ l f i. free.0 (suc l) f i, λ j l apart f g i h. free.1 (suc j) (suc l) (λ z. apart (omega (arith, z))) f g i h) (acts_words q s mine w) is
    ∙ ap (acts (in_order (set qs k es))) (through e q s fe mine (λ f i. free.1 (suc k) 0 (λ z. omega (arith, z)) e f has i) w)
    ∙ sym (acts_append q (in_order (set qs k es)) (act e s))

pub settled_free : (qs : List (List Effect)) → AreWords qs → Settled qs → Free qs
settled_free qs w h = (
  w,
  λ k l apart e f i j. commute e f (w k e i) (w l f j) (λ same. ⊎_elim
      (λ (o : OneReduction qs e.tensor). inl (o.2 k e i refl ∙ sym (o.2 l f j (sym same)), λ (p : e.by ≡ Put). o.1 (sym (o.2 k e i refl) ∙ p)))
      (λ (o : OwnRows qs e.tensor). inr (o k l apart e f i j refl (sym same)))
      (h e.tensor)),
)

-- ---- one event
in_taken : (e : Effect) (q : List Effect) → IsIn e (taken_off q) → IsIn e q
in_taken e [] i = i
in_taken e (x ∷ q) i = inr i

pub in_rest : (k : ℕ) (qs : List (List Effect)) (l : ℕ) (e : Effect) → IsIn e (queue (rest_after k qs) l) → IsIn e (queue qs l)
in_rest k qs l e i = dite (ℕ_discrete l k)
    (λ (same : l ≡ k). dite (dec_lt k (length qs))
    (λ h. subst (λ (n : ℕ). IsIn e (queue qs n)) (sym same) (in_taken e (queue qs k) (subst (IsIn e) (ap (queue (rest_after k qs)) same ∙ get_or-set_same qs k (taken_off (queue qs k)) [] h) i)))
    (λ h. let none : queue (rest_after k qs) l ≡ [] = get_or_past (rest_after k qs) l [] (let n = length_set qs k (taken_off (queue qs k)) in omega arith) in absurd (subst (IsIn e) none i)))
    (λ (apart : l ≢ k). subst (IsIn e) (get_or-set_other qs k l (taken_off (queue qs k)) [] apart) i)
  where
    length_set : (qs : List (List Effect)) (k : ℕ) (q : List Effect) → length (set qs k q) ≡ length qs
    length_set [] k q = refl
    length_set (p ∷ qs) zero q = refl
    length_set (p ∷ qs) (suc k) q = ap suc (length_set qs k q)

pub free_on : (k : ℕ) (qs : List (List Effect)) → Free qs → Free (rest_after k qs)
free_on k qs h = (λ l e i. h.0 l e (in_rest k qs l e i), λ j l apart e f i g. h.1 j l apart e f (in_rest k qs j e i) (in_rest k qs l f g))

set_same : (qs : List (List Effect)) (k : ℕ) → queue qs k ≡ [] → set qs k [] ≡ qs
set_same [] k e = refl
set_same (q ∷ qs) zero e = ap (λ p. p ∷ qs) (sym e)
set_same (q ∷ qs) (suc k) e = ap (λ p. q ∷ p) (set_same qs k e)

words_first : (q : List Effect) (s : State) → AllWords q → Words s → Words (first_of q s)
words_first [] s a w = w
words_first (e ∷ q) s a w = act_words e s (a e (inl refl)) w

pub words_on : (k : ℕ) (qs : List (List Effect)) (s : State) → Free qs → Words s → Words (state_after k qs s)
words_on k qs s h w = words_first (queue qs k) s (λ f i. h.0 k f i) w

-- an event leaves the serial result of what is left as it was
pub event_keeps : (k : ℕ) (qs : List (List Effect)) (s : State) → Free qs → Words s → serial (rest_after k qs) (state_after k qs s) ≡ serial qs s
event_keeps k qs s h w = by_queue (queue qs k) refl
  where
    by_queue : (q : List Effect) → queue qs k ≡ q → serial (set qs k (taken_off (queue qs k))) (first_of (queue qs k) s) ≡ serial qs s
    by_queue [] e = ap (λ (q : List Effect). serial (set qs k (taken_off q)) (first_of q s)) e ∙ ap (λ l. serial l s) (set_same qs k e)
    by_queue (x ∷ q) e = ap (λ (q : List Effect). serial (set qs k (taken_off q)) (first_of q s)) e ∙ sym (first qs k x q s h w e)

none_left : (qs : List (List Effect)) → Complete qs → in_order qs ≡ []
none_left [] c = refl
none_left (q ∷ qs) c = ap (λ p. p ++ in_order qs) (c 0) ∙ none_left qs (λ k. c (suc k))

pub complete_is : (qs : List (List Effect)) (s : State) → Complete qs → serial qs s ≡ s
complete_is qs s c = ap (λ es. acts es s) (none_left qs c)

-- any list of events that uses all effects up leaves the serial result
pub any_order : (ks : List ℕ) (qs : List (List Effect)) (s : State) → Free qs → Words s → Complete (rests ks qs) → states ks qs s ≡ serial qs s
any_order [] qs s h w c = sym (complete_is qs s c)
any_order (k ∷ ks) qs s h w c = any_order ks (rest_after k qs) (state_after k qs s) (free_on k qs h) (words_on k qs s h w) c ∙ event_keeps k qs s h w

pub settled_any_order : AnyOrderIsSerial
settled_any_order ks qs s a h w c = any_order ks qs s (settled_free qs a h) w c

-- at each coordinate of a tensor with one reduction, the start reduced by the values
pub acts_reduced : EachWordIsReduced
acts_reduced by t x [] s one = refl
acts_reduced by t x (e ∷ es) s one = acts_reduced by t x es (act e s) (λ f i. one f (inr i)) ∙ split (meets e t x) refl
  where
    split : (b : Bool) → meets e t x ≡ b → reduced by (if meets e t x then apply e.by (s t x) e.value else s t x) (values_of t x es) ≡ reduced by (s t x) (if meets e t x then e.value ∷ values_of t x es else values_of t x es)
    split true m = let same = one e (inl refl) (eqb-true e.tensor t (and_parts (nat_eq e.tensor t) (are_same e.at x) m).0) in rw (m, same) refl
    split false m = rw m refl
