-- What shards take, and what merging them makes.
use Rattle.std.proofs.Common.{◌≡◌, ℕ, ◌+◌, ◌<◌, ◌≤◌, ℤ, Bool, true, false, List, [], ◌∷◌, ◌++◌, take, length, map, refl, sym, ap, ◌∙◌, subst, Some, Option, unwrap_or}
use Rattle.std.specs.FinMap.{get-empty}
use Rattle.fin_tensor.specs.declared.format.Format.{Format}
use Rattle.std.specs.Prelude.{if◌then◌else◌, slice_index_or}
use Rattle.std.specs.List.{All, AllByRecursion, fold}
use Rattle.std.specs.Cmp.Lexicographic.{slice_cmp}
use Rattle.std.specs.Ordering.{nat_cmp, eq_by_cmp}
use Rattle.std.proofs.lemmas.List.{take_more, take_all}
use Rattle.std.proofs.lemmas.List.Elements.{All-append, All-from_recursion, recursion_from_All}
use Rattle.std.proofs.lemmas.List.Sums.{fold-append}
use Rattle.fin_base.specs.declared.reduce.Reduce.{Reduce}
use Rattle.fin_base.specs.Words.{IsWord, apply, reduced, identity}
use Rattle.fin_tensor.specs.TensorFunction.{TensorFunction, value_at, changed}
use Rattle.fin_tensor.specs.Building.{Building, started, updated}
use Rattle.fin_tensor.proofs.Functions.{gives_one_place, tied, tied_are_same}
use Rattle.fin_build.specs.Entries.{Entry}
use Rattle.fin_build.specs.Merging.{IsMerged}
use Rattle.fin_shard.specs.declared.shard.Shard.{Shard}
use Rattle.fin_shard.specs.Shards.{values_at, Took, AllTook, all_of, IsReduced}
use Rattle.fin_shard.proofs.Reducing.{Words, from_identity, words_kept, identity_word}

abbrev are_same : List ℕ → List ℕ → Bool
are_same = eq_by_cmp (slice_cmp nat_cmp)

abbrev AreWords : List Entry → Type 0
AreWords es = AllByRecursion (λ (e : Entry). IsWord e.1) es

-- ---- appended values
front : (b : Bool) (z : ℤ) (zs ws : List ℤ) → (if b then z ∷ (zs ++ ws) else (zs ++ ws)) ≡ (if b then z ∷ zs else zs) ++ ws
front true z zs ws = refl
front false z zs ws = refl

pub values_at-append : (cs : List ℕ) (es fs : List Entry) → values_at cs (es ++ fs) ≡ values_at cs es ++ values_at cs fs
values_at-append cs [] fs = refl
values_at-append cs (e ∷ es) fs = ap (λ (zs : List ℤ). if are_same e.0 cs then e.1 ∷ zs else zs) (values_at-append cs es fs) ∙ front (are_same e.0 cs) e.1 (values_at cs es) (values_at cs fs)

value_words : (cs : List ℕ) (es : List Entry) → AreWords es → Words (values_at cs es)
value_words cs [] h = tt
value_words cs (e ∷ es) h = pick (are_same e.0 cs) (value_words cs es h.1)
  where
    pick : (b : Bool) → Words (values_at cs es) → Words (if b then e.1 ∷ values_at cs es else values_at cs es)
    pick true w = (h.0, w)
    pick false w = w

-- ---- one shard
pub took_none : (by : Reduce) (b : Building) (format : Format) (shape : List ℕ) → b ≡ started format shape → identity by ≡ Some format.fill → Took by b.function []
took_none by b format shape e i = subst (λ (x : Building). Took by x.function []) (sym e) record {
  starts = i;
  words = All-from_recursion (λ (e : Entry). IsWord e.1) [] tt;
  value_is = λ cs. ap (λ (o : Option ℤ). unwrap_or o format.fill) (get-empty (slice_cmp nat_cmp) cs);
}

one_more : (by : Reduce) (f : TensorFunction) (e : Entry) (cs : List ℕ) → value_at (changed f e.0 (λ old. apply by old e.1)) cs ≡ reduced by (value_at f cs) (values_at cs (e ∷ []))
one_more by f e cs = elim (are_same e.0 cs) as (λ t. are_same e.0 cs ≡ t → value_at (changed f e.0 (λ old. apply by old e.1)) cs ≡ reduced by (value_at f cs) (if t then e.1 ∷ [] else [])) [
  | true ↦ λ h. subst (λ (ds : List ℕ). value_at (changed f e.0 (λ old. apply by old e.1)) ds ≡ apply by (value_at f ds) e.1) (tied_are_same e.0 cs h) (gives_one_place f e.0 (apply by (value_at f e.0) e.1)).0
  | false ↦ λ h. (gives_one_place f e.0 (apply by (value_at f e.0) e.1)).1 cs (λ same. let y : true ≡ false = sym (tied e.0) ∙ ap (are_same e.0) (sym same) ∙ h in cc)
] refl

pub took_more : (by : Reduce) (b c : Building) (e : Entry) (v : ℤ) → IsWord e.1 → v ≡ e.1 → c ≡ updated b e.0 (λ old. apply by old v) → (es : List Entry) → Took by b.function es → Took by c.function (es ++ e ∷ [])
took_more by b c e v w same ec es t = subst (λ (x : Building). Took by x.function (es ++ e ∷ [])) (sym (ec ∙ ap (λ (z : ℤ). updated b e.0 (λ old. apply by old z)) same)) record {
  starts = t.starts;
  words = All-append (λ (d : Entry). IsWord d.1) es (e ∷ []) t.words (All-from_recursion (λ (d : Entry). IsWord d.1) (e ∷ []) (w, tt));
  value_is = λ cs.
      one_more by b.function e cs
      ∙ ap (λ (z : ℤ). reduced by z (values_at cs (e ∷ []))) (t.value_is cs)
      ∙ sym (fold-append (apply by) b.function.fill (values_at cs es) (values_at cs (e ∷ [])))
      ∙ ap (reduced by b.function.fill) (sym (values_at-append cs es (e ∷ [])));
}

-- ---- some shards
-- the words at some coordinates, joined to a word in turn
abbrev pub poured : List Shard → List ℕ → ℤ → ℤ
poured ss cs a = fold (λ (z : ℤ) (s : Shard). apply s.by z (value_at s.builder.function cs)) a ss

pub record Poured (into whole : Building) (ss : List Shard) : Type 0 where
  pub format_is : whole.format ≡ into.format
  pub shape_is : whole.function.shape ≡ into.function.shape
  pub fill_is : whole.function.fill ≡ into.function.fill
  pub value_is : (cs : List ℕ) → value_at whole.function cs ≡ poured ss cs (value_at into.function cs)

pub poured_none : (into whole : Building) (ss : List Shard) → whole ≡ into → Poured into whole (take 0 ss)
poured_none into whole ss e = subst (λ (b : Building). Poured into b (take 0 ss)) (sym e) record { format_is = refl; shape_is = refl; fill_is = refl; value_is = λ cs. refl }

pub poured_more : (into old new : Building) (ss : List Shard) (k : ℕ) (s : Shard) → k < length ss → s ≡ slice_index_or ss k s → Poured into old (take k ss) → new.format ≡ old.format → IsMerged s.by old.function s.builder.function new.function → Poured into new (take (k + 1) ss)
poured_more into old new ss k s lt is p ef m = record {
  format_is = ef ∙ p.format_is;
  shape_is = m.shape_is ∙ p.shape_is;
  fill_is = m.fill_is ∙ p.fill_is;
  value_is = λ cs.
      m.value_is cs
      ∙ ap (λ (z : ℤ). apply s.by z (value_at s.builder.function cs)) (p.value_is cs)
      ∙ sym (fold-append (λ (z : ℤ) (d : Shard). apply d.by z (value_at d.builder.function cs)) (value_at into.function cs) (take k ss) (s ∷ []))
      ∙ ap (λ (d : Shard). poured (take k ss ++ d ∷ []) cs (value_at into.function cs)) is
      ∙ ap (λ (ds : List Shard). poured ds cs (value_at into.function cs)) (sym (take_more ss k s lt));
}

pub poured_all : (into whole : Building) (ss : List Shard) (k : ℕ) → length ss ≤ k → Poured into whole (take k ss) → Poured into whole ss
poured_all into whole ss k h p = subst (λ (ds : List Shard). Poured into whole ds) (take_all k ss h) p

abbrev By : Reduce → List Shard → Type 0
By by ss = AllByRecursion (λ (s : Shard). s.by ≡ by) ss

poured_values : (by : Reduce) (ss : List Shard) (ess : List (List Entry)) (cs : List ℕ) (a : ℤ) → IsWord a → By by ss → AllTook by (map (λ (s : Shard). s.builder.function) ss) ess → poured ss cs a ≡ reduced by a (values_at cs (all_of ess))
poured_values by [] [] cs a w h t = refl
poured_values by [] (es ∷ ess) cs a w h t = absurd t
poured_values by (s ∷ ss) [] cs a w h t = absurd t
poured_values by (s ∷ ss) (es ∷ ess) cs a w h t =
    let took : Took by s.builder.function es = t.0 in
    let fill : ℤ = s.builder.function.fill in
    let vs : List ℤ = values_at cs es in
    let words : Words vs = value_words cs es (recursion_from_All (λ (e : Entry). IsWord e.1) es took.words) in
    let one : apply s.by a (value_at s.builder.function cs) ≡ reduced by a vs =
    ap (λ (r : Reduce). apply r a (value_at s.builder.function cs)) h.0 ∙ ap (apply by a) (took.value_is cs) ∙ from_identity by fill a vs took.starts (identity_word by fill took.starts) w words in
    ap (poured ss cs) one
    ∙ poured_values by ss ess cs (reduced by a vs) (words_kept by a vs w words) h.1 t.1
    ∙ sym (fold-append (apply by) a vs (values_at cs (all_of ess)))
    ∙ ap (reduced by a) (sym (values_at-append cs es (all_of ess)))

pub reduced_by_all : (into whole : Building) (ss : List Shard) → ((cs : List ℕ) → IsWord (value_at into.function cs)) → Poured into whole ss →
    (by : Reduce) (ess : List (List Entry)) → All (λ (s : Shard). s.by ≡ by) ss → AllTook by (map (λ (s : Shard). s.builder.function) ss) ess → IsReduced by into.function ess whole.function
reduced_by_all into whole ss words p by ess h t = record {
  shape_is = p.shape_is;
  fill_is = p.fill_is;
  value_is = λ cs. p.value_is cs ∙ poured_values by ss ess cs (value_at into.function cs) (words cs) (recursion_from_All (λ (s : Shard). s.by ≡ by) ss h) t;
}
