-- Tensors and their functions, and lists of effects as loop code lists them.
use Rattle.std.proofs.Common.{◌≡◌, ◌≢◌, ℕ, zero, suc, ◌<◌, ◌+◌, inl, ⊎_elim, true, false, List, [], ◌∷◌, length, get_or, set, map, drop, length-set, get_or-set_same, get_or-set_other, refl, sym, ap, subst, ◌∙◌, ℤ, pos, arith, IsTrue, rules}
use Rattle.std.specs.Prelude.{if◌then◌else◌, nat_eq, ◌&&◌, None, Option, unwrap_or, Vec}
use Rattle.std.specs.Global.{Global}
use Rattle.std.specs.FinMap.{get, get-empty}
use Rattle.std.specs.Cmp.Lexicographic.{slice_cmp}
use Rattle.std.specs.Ordering.{nat_cmp}
use Rattle.std.specs.List.{list_all}
use Rattle.std.proofs.lemmas.Bool.{eq-eqb, ne_eqb}
use Rattle.std.proofs.lemmas.List.{get_or_past, map-set}
use mathlib.Core.Logic.{dite}
use native.Mathlib.Decide.{ℕ_discrete, dec_lt}
use Rattle.fin_base.specs.Words.{IsWord, apply}
use Rattle.fin_tensor.specs.TensorFunction.{value_at, is_in_box}
use Rattle.fin_tensor.specs.Placement.{is_dense_or_dict}
use Rattle.fin_tensor.specs.Building.{Building, follows}
use Rattle.fin_tensor.proofs.Functions.{gives_one_place, tied, tied_are_same}
use Rattle.fin_build.specs.Builders.{IsBuilding}
use Rattle.fin_build.proofs.Keeping.{word_at}
use Rattle.fin_build.proofs.Joining.{always_follows}
use Rattle.fin_ir.specs.Machine as machine
use Rattle.fin_ir.specs.Machine.{put}
use Rattle.fin_core.specs.declared.effect.Effect.{Effect}
use Rattle.fin_core.specs.declared.queue.Queue.{Queue}
use Rattle.fin_core.specs.Effects.{Words, are_same, act}
use Rattle.fin_core.specs.Interleaving.{serial, queue, taken_off, first_of, rest_after, state_after, IsIn, AreWords, Free}
use Rattle.fin_core.specs.Cores.{meant, listed, lists, no_tensor, tensor_at, values, put_in, LiesIn, AllLie, AreUnordered, AllBuilt}
use Rattle.fin_core.proofs.Order.{in_rest, free_on, words_on, event_keeps}

-- ---- words
none_word : (o : Option ℤ) → o ≡ None → IsWord (unwrap_or o (pos 0))
none_word o e = subst (λ (q : Option ℤ). IsWord (unwrap_or q (pos 0))) (sym e) zero_word
  where
    zero_word : IsWord (pos 0)
    zero_word = search rules

any_default : {A : Type 0} (xs : List A) (i : ℕ) (d e : A) → i < length xs → get_or xs i d ≡ get_or xs i e
any_default [] i d e h = absurd (omega arith)
any_default (x ∷ xs) zero d e h = refl
any_default (x ∷ xs) (suc i) d e h = any_default xs i d e (omega arith)

pub follows_at : (ts : List Building) (t : ℕ) (b : Building) (cs : List ℕ) → AreUnordered ts → t < length ts → b ≡ get_or ts t b → IsTrue (follows b cs)
follows_at ts t b cs h lt is = always_follows b (tensor_at ts t).format.levels cs (ap (λ (x : Building). x.format.levels) (is ∙ any_default ts t b no_tensor lt)) (h t lt)

pub put_is : (ts : List Building) (t : ℕ) (b : Building) (e : machine.Effect) → t < length ts → b ≡ get_or ts t b → t ≡ e.tensor → set ts t (put e b) ≡ put_in e ts
put_is ts t b e lt is same = ap (λ (x : Building). set ts t (put e x)) (is ∙ any_default ts t b no_tensor lt) ∙ ap (λ n. set ts n (put e (tensor_at ts n))) same

pub built_more : (ts : List Building) (k : ℕ) (b : Building) → ((t : ℕ) → t < k → IsBuilding (tensor_at ts t)) → k < length ts → b ≡ get_or ts k b → IsBuilding b → (t : ℕ) → t < k + 1 → IsBuilding (tensor_at ts t)
built_more ts k b h lt is new t l = dite (ℕ_discrete t k)
    (λ (same : t ≡ k). subst (λ (x : Building). IsBuilding x) (is ∙ any_default ts k b no_tensor lt ∙ ap (tensor_at ts) (sym same)) new)
    (λ (apart : t ≢ k). h t (omega (arith, l, apart)))

pub built_words : (ts : List Building) → AllBuilt ts → Words (values ts)
built_words ts h = λ t cs. dite (dec_lt t (length ts))
    (λ (lt : t < length ts). word_at (tensor_at ts t) cs (h t lt))
    (λ past. let none : tensor_at ts t ≡ no_tensor = get_or_past ts t no_tensor (omega (arith, past)) in subst (λ (b : Building). IsWord (value_at b.function cs)) (sym none) (none_word (get no_tensor.function.cells cs) (get-empty (slice_cmp nat_cmp) cs)))

words_in : (q : List Effect) (e : machine.Effect) → IsIn e (map meant q) → IsWord e.value
words_in [] e i = absurd i
words_in (x ∷ q) e i = ⊎_elim (λ (same : meant x ≡ e). subst (λ (f : machine.Effect). IsWord f.value) same x.word) (λ more. words_in q e more) i

pub queue_is : (qs : List Queue) (k : ℕ) (q : Queue) → k < length qs → q ≡ get_or qs k q → queue (lists qs) k ≡ map meant q.waiting.items
queue_is [] k q h is = absurd (omega arith)
queue_is (p ∷ qs) zero q h is = ap (λ (x : Queue). map meant x.waiting.items) (sym is)
queue_is (p ∷ qs) (suc k) q h is = queue_is qs k q (omega arith) is

none_queued : (k : ℕ) → queue (lists []) k ≡ []
none_queued k = refl

pub listed_words : (qs : List (Vec Effect Global)) → AreWords (listed qs)
listed_words [] k e i = absurd i
listed_words (q ∷ qs) zero e i = words_in q.items e i
listed_words (q ∷ qs) (suc k) e i = listed_words qs k e i

-- ---- one effect
cell : (b : Building) (e : machine.Effect) (cs : List ℕ) → value_at (put e b).function cs ≡ (if are_same e.at cs then apply e.by (value_at b.function cs) e.value else value_at b.function cs)
cell b e cs = elim (are_same e.at cs) as (λ t. are_same e.at cs ≡ t → value_at (put e b).function cs ≡ (if t then apply e.by (value_at b.function cs) e.value else value_at b.function cs)) [
  | true ↦ λ h. subst (λ (ds : List ℕ). value_at (put e b).function ds ≡ apply e.by (value_at b.function ds) e.value) (tied_are_same e.at cs h) (gives_one_place b.function e.at (apply e.by (value_at b.function e.at) e.value)).0
  | false ↦ λ h. (gives_one_place b.function e.at (apply e.by (value_at b.function e.at) e.value)).1 cs (λ same. let y : true ≡ false = sym (tied e.at) ∙ ap (are_same e.at) (sym same) ∙ h in cc)
] refl

pub puts : (ts : List Building) (e : machine.Effect) → e.tensor < length ts → values (put_in e ts) ≡ act e (values ts)
puts ts e lt = λ i t cs. point t cs i
  where
    point : (t : ℕ) (cs : List ℕ) → values (put_in e ts) t cs ≡ act e (values ts) t cs
    point t cs = dite (ℕ_discrete t e.tensor)
        (λ (same : t ≡ e.tensor).
        let here : nat_eq e.tensor t ≡ true = eq-eqb e.tensor t (sym same) in
        let new : tensor_at (put_in e ts) t ≡ put e (tensor_at ts t) = ap (tensor_at (put_in e ts)) same ∙ get_or-set_same ts e.tensor (put e (tensor_at ts e.tensor)) no_tensor lt ∙ ap (λ n. put e (tensor_at ts n)) (sym same) in
        ap (λ (b : Building). value_at b.function cs) new ∙ cell (tensor_at ts t) e cs
        ∙ ap (λ b. if b && are_same e.at cs then apply e.by (values ts t cs) e.value else values ts t cs) (sym here))
        (λ (apart : t ≢ e.tensor).
        let there : nat_eq e.tensor t ≡ false = ne_eqb e.tensor t (λ q. apart (sym q)) in
        rw there (ap (λ (b : Building). value_at b.function cs) (get_or-set_other ts e.tensor t (put e (tensor_at ts e.tensor)) no_tensor apart)))

-- what stays of each tensor
tensor_stays : (P : Building → Type 0) (ts : List Building) (e : machine.Effect) → P (put e (tensor_at ts e.tensor)) → (t : ℕ) → P (tensor_at ts t) → P (tensor_at (put_in e ts) t)
tensor_stays P ts e new t old = dite (ℕ_discrete t e.tensor)
    (λ (same : t ≡ e.tensor). dite (dec_lt t (length ts))
    (λ (lt : t < length ts). subst P (sym (ap (tensor_at (put_in e ts)) same ∙ get_or-set_same ts e.tensor (put e (tensor_at ts e.tensor)) no_tensor (subst (λ n. n < length ts) same lt))) new)
    (λ past. subst P (get_or_past ts t no_tensor (omega (arith, past)) ∙ sym (get_or_past (put_in e ts) t no_tensor (omega (arith, past, length-set ts e.tensor (put e (tensor_at ts e.tensor)))))) old))
    (λ (apart : t ≢ e.tensor). subst P (sym (get_or-set_other ts e.tensor t (put e (tensor_at ts e.tensor)) no_tensor apart)) old)

pub unordered_on : (ts : List Building) (e : machine.Effect) → e.tensor < length ts → AreUnordered ts → AreUnordered (put_in e ts)
unordered_on ts e lt h = λ t l.
    let long : length (put_in e ts) ≡ length ts = length-set ts e.tensor (put e (tensor_at ts e.tensor)) in
    tensor_stays (λ (b : Building). IsTrue (list_all is_dense_or_dict b.format.levels)) ts e (h e.tensor lt) t (h t (subst (λ n. t < n) long l))

shape_on : (ts : List Building) (e : machine.Effect) (t : ℕ) → (tensor_at (put_in e ts) t).function.shape ≡ (tensor_at ts t).function.shape
shape_on ts e t = dite (ℕ_discrete t e.tensor)
    (λ (same : t ≡ e.tensor). subst (λ n. (tensor_at (put_in e ts) n).function.shape ≡ (tensor_at ts n).function.shape) (sym same) (tensor_stays (λ (b : Building). b.function.shape ≡ (tensor_at ts e.tensor).function.shape) ts e refl e.tensor refl))
    (λ (apart : t ≢ e.tensor). ap (λ (b : Building). b.function.shape) (get_or-set_other ts e.tensor t (put e (tensor_at ts e.tensor)) no_tensor apart))

pub lie_on : (ts : List Building) (e : machine.Effect) (qs : List (List machine.Effect)) (k : ℕ) → AllLie ts qs → AllLie (put_in e ts) (rest_after k qs)
lie_on ts e qs k h = λ l f i.
    let p = h l f (in_rest k qs l f i) in
    (subst (λ n. f.tensor < n) (sym (length-set ts e.tensor (put e (tensor_at ts e.tensor)))) p.0, subst (λ (ns : List ℕ). IsTrue (is_in_box ns f.at)) (sym (shape_on ts e f.tensor)) p.1)

-- ---- one event
pub rest_is : (qs : List Queue) (k : ℕ) (q q' : Queue) → k < length qs → q ≡ get_or qs k q → q'.waiting.items ≡ drop 1 q.waiting.items → lists (set qs k q') ≡ rest_after k (lists qs)
rest_is qs k q q' h is gone =
    map-set (λ (p : Queue). map meant p.waiting.items) qs k q'
    ∙ ap (set (lists qs) k) (ap (map meant) gone ∙ first_dropped q.waiting.items ∙ ap taken_off (sym (queue_is qs k q h is)))
  where
    first_dropped : (p : List Effect) → map meant (drop 1 p) ≡ taken_off (map meant p)
    first_dropped [] = refl
    first_dropped (x ∷ p) = refl

length_is : (q : Queue) → q.waiting.len ≡ length q.waiting.items
length_is q = q.waiting.ok.0

pub next_is : (qs : List Queue) (k : ℕ) (q : Queue) (e : Effect) → k < length qs → q ≡ get_or qs k q → 0 < q.waiting.len → e ≡ get_or q.waiting.items 0 e → (es : List machine.Effect) × (queue (lists qs) k ≡ meant e ∷ es)
next_is qs k q e h is full got =
    let n = head q.waiting.items e (subst (λ n. 0 < n) (length_is q) full) got in (n.0, queue_is qs k q h is ∙ n.1)
  where
    head : (p : List Effect) (e : Effect) → 0 < length p → e ≡ get_or p 0 e → (es : List machine.Effect) × (map meant p ≡ meant e ∷ es)
    head [] e h g = absurd (omega arith)
    head (x ∷ p) e h g = (map meant p, ap (λ y. meant y ∷ map meant p) (sym g))

-- all that an event keeps
pub record Kept (ts' ts : List Building) (qs : List (List machine.Effect)) (k : ℕ) : Type 0 where
  pub state : values ts' ≡ state_after k qs (values ts)
  pub free : Free (rest_after k qs)
  pub words : Words (values ts')
  pub lie : AllLie ts' (rest_after k qs)
  pub unordered : AreUnordered ts'
  pub serial_is : serial (rest_after k qs) (values ts') ≡ serial qs (values ts)

pub lies_next : (ts : List Building) (qs : List (List machine.Effect)) (k : ℕ) (e : machine.Effect) (es : List machine.Effect) → queue qs k ≡ e ∷ es → AllLie ts qs → LiesIn ts e
lies_next ts qs k e es is lie = lie k e (subst (IsIn e) (sym is) (inl refl))

pub kept : (ts' ts : List Building) (qs : List (List machine.Effect)) (k : ℕ) (e : machine.Effect) (es : List machine.Effect) → queue qs k ≡ e ∷ es → ts' ≡ put_in e ts → Free qs → Words (values ts) → AllLie ts qs → AreUnordered ts → Kept ts' ts qs k
kept ts' ts qs k e es is et free words lie unordered =
    let lies : LiesIn ts e = lies_next ts qs k e es is lie in
    let now : values ts' ≡ state_after k qs (values ts) = ap values et ∙ puts ts e lies.0 ∙ sym (ap (λ (q : List machine.Effect). first_of q (values ts)) is) in
    record {
      state = now;
      free = free_on k qs free;
      words = subst Words (sym now) (words_on k qs (values ts) free words);
      lie = subst (λ (xs : List Building). AllLie xs (rest_after k qs)) (sym et) (lie_on ts e qs k lie);
      unordered = subst (λ (xs : List Building). AreUnordered xs) (sym et) (unordered_on ts e lies.0 unordered);
      serial_is = ap (serial (rest_after k qs)) now ∙ event_keeps k qs (values ts) free words;
    }
