-- Shards that have taken what chunks append.
use Rattle.std.proofs.Common.{◌≡◌, ◌∙◌, ℕ, ◌+◌, ◌<◌, List, [], ◌∷◌, ◌++◌, take, length, get_or, map, sym, ap, subst, Bor, pos}
use Rattle.std.specs.Prelude.{unwrap_or, Option, ℤ}
use Rattle.std.specs.FinMap.{get-empty}
use Rattle.std.specs.Cmp.Lexicographic.{slice_cmp}
use Rattle.std.specs.Ordering.{nat_cmp}
use Rattle.std.specs.List.{All}
use Rattle.std.proofs.lemmas.List.{map_push, map_more}
use Rattle.std.proofs.lemmas.List.Elements.{All-push}
use Rattle.fin_base.specs.Words.{reduced}
use Rattle.fin_base.specs.declared.reduce.Reduce.{Reduce}
use Rattle.fin_base.specs.declared.reduce.Reduce.TheVariants.{Add}
use Rattle.fin_tensor.specs.TensorFunction.{TensorFunction, value_at}
use Rattle.fin_tensor.specs.Building.{Building}
use Rattle.fin_build.specs.Entries.{Entry}
use Rattle.fin_shard.specs.declared.shard.Shard.{Shard}
use Rattle.fin_shard.specs.Shards.{values_at, Took, AllTook, all_of}
use Rattle.fin_shard.specs.Steps.{HasTaken, TakesInAll}
use Rattle.fin_events.specs.declared.chunks.Addend.{Addend}
use Rattle.fin_events.specs.Chunks.{vector_of}
use Rattle.fin_events.specs.Totals.{entries_of, total, HaveTaken}

abbrev function : Shard → TensorFunction
function s = s.builder.function

abbrev told : List (Bor (List Addend)) → List (List Addend)
told chunks = map (λ (c : Bor (List Addend)). c.now) chunks

took_also : (by : Reduce) (fs : List TensorFunction) (ess : List (List Entry)) (f : TensorFunction) (es : List Entry) →
    AllTook by fs ess → Took by f es → AllTook by (fs ++ f ∷ []) (ess ++ es ∷ [])
took_also by [] [] f es t u = (u, tt)
took_also by [] (x ∷ ess) f es t u = absurd t
took_also by (g ∷ fs) [] f es t u = absurd t
took_also by (g ∷ fs) (x ∷ ess) f es t u = (t.0, took_also by fs ess f es t.1 u)

also : (ss : List Shard) (chunks : List (List Addend)) (s : Shard) (chunk : List Addend) → HaveTaken ss chunks → s.by ≡ Add → HasTaken s (entries_of chunk) →
    HaveTaken (ss ++ s ∷ []) (chunks ++ chunk ∷ [])
also ss chunks s chunk h by t = record {
  by = All-push (λ (s : Shard). s.by ≡ Add) ss s h.by by;
  took =
      subst (λ (fs : List TensorFunction). AllTook Add fs (map entries_of (chunks ++ chunk ∷ []))) (sym (map_push function ss s))
      (subst (λ (ess : List (List Entry)). AllTook Add (map function ss ++ function s ∷ []) ess) (sym (map_push entries_of chunks chunk))
      (took_also Add (map function ss) (map entries_of chunks) (function s) (entries_of chunk) h.took
      (subst (λ (by : Reduce). Took by (function s) (entries_of chunk)) by t)));
}

abbrev Shaped : ℕ → List Shard → Type 0
Shaped n ss = All (λ (s : Shard). s.builder.function.shape ≡ n ∷ []) ss

pub taken_more : (n : ℕ) (chunks : List (Bor (List Addend))) (k : ℕ) (d : Bor (List Addend)) (ss ss' : List Shard) (s : Shard) →
    k < length chunks → ss' ≡ ss ++ s ∷ [] → Shaped n ss → HaveTaken ss (told (take k chunks)) →
    s.by ≡ Add → s.builder.function.shape ≡ n ∷ [] → HasTaken s (entries_of (get_or chunks k d).now) → Shaped n ss' × HaveTaken ss' (told (take (k + 1) chunks))
taken_more n chunks k d ss ss' s l new shaped h by shape t = (
  subst (Shaped n) (sym new) (All-push (λ (s : Shard). s.builder.function.shape ≡ n ∷ []) ss s shaped shape),
  subst (λ (qs : List Shard). HaveTaken qs (told (take (k + 1) chunks))) (sym new)
      (subst (λ (cs : List (List Addend)). HaveTaken (ss ++ s ∷ []) cs) (sym (map_more (λ (c : Bor (List Addend)). c.now) chunks k d l))
      (also ss (told (take k chunks)) s (get_or chunks k d).now h by t)),
)

pub summed : (n : ℕ) (chunks : List (List Addend)) (ss : List Shard) (into merged : Building) (at : ℕ) → into ≡ vector_of n → HaveTaken ss chunks →
    TakesInAll ss into merged → value_at merged.function (at ∷ []) ≡ total chunks at
summed n chunks ss into merged at start h all =
    (all Add (map entries_of chunks) h.by h.took).value_is (at ∷ [])
    ∙ ap (λ (z : ℤ). reduced Add z (values_at (at ∷ []) (all_of (map entries_of chunks))))
    (ap (λ (b : Building). value_at b.function (at ∷ [])) start ∙ ap (λ (o : Option ℤ). unwrap_or o (pos 0)) (get-empty (slice_cmp nat_cmp) (at ∷ [])))
