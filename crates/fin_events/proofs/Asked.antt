-- What a core asks of the chunks' effects.
use Rattle.std.proofs.Common.{◌≡◌, ℕ, zero, suc, ◌<◌, inl, ⊎_elim, true, List, [], ◌∷◌, map, refl, sym, ap, subst, ◌∙◌, arith, IsTrue, Bor, get_or, length}
use Rattle.std.specs.Prelude.{nat_lt, ◌&&◌}
use Rattle.std.specs.List.{list_all, All}
use Rattle.std.proofs.lemmas.Bool.{and_parts}
use Rattle.std.proofs.lemmas.List.Folds.{list_all-map}
use Rattle.std.proofs.lemmas.List.Sums.{AllPass-from_list_all, list_all-from_AllPass}
use Rattle.fin_base.specs.declared.reduce.Reduce.TheVariants.{Add, Put}
use Rattle.fin_tensor.specs.TensorFunction.{is_in_box}
use Rattle.fin_ir.specs.Machine.{Effect}
use Rattle.fin_core.specs.Interleaving.{queue, IsIn, Settled}
use Rattle.fin_core.specs.Cores.{tensor_at, AllLie}
use Rattle.fin_events.specs.declared.chunks.Addend.{Addend}
use Rattle.fin_events.specs.Chunks.{effect_of, lists_of, chunk_fits, vector_of}

pub fitted : (n : ℕ) (chunks : List (Bor (List Addend))) → All (λ (c : Bor (List Addend)). IsTrue (chunk_fits n c.now)) chunks →
    list_all (chunk_fits n) (map (λ (c : Bor (List Addend)). c.now) chunks) ≡ true
fitted n chunks h = list_all-map (chunk_fits n) (λ (c : Bor (List Addend)). c.now) chunks ∙ list_all-from_AllPass (λ (c : Bor (List Addend)). chunk_fits n c.now) chunks h

record Fits (n : ℕ) (e : Effect) : Type 0 where
  pub tensor : e.tensor ≡ 0
  pub inside : IsTrue (is_in_box (n ∷ []) e.at)
  pub sum : e.by ≡ Add

one_fits : (n : ℕ) (a : Addend) → nat_lt a.at n ≡ true → Fits n (effect_of a)
one_fits n a h = record { tensor = refl; inside = ap (λ b. b && true) h; sum = refl }

list_fits : (n : ℕ) (chunk : List Addend) → chunk_fits n chunk ≡ true → (e : Effect) → IsIn e (map effect_of chunk) → Fits n e
list_fits n [] h e i = absurd i
list_fits n (a ∷ chunk) h e i =
    let p = and_parts (nat_lt a.at n) (chunk_fits n chunk) h in
    ⊎_elim (λ (same : effect_of a ≡ e). subst (Fits n) same (one_fits n a p.0)) (λ more. list_fits n chunk p.1 e more) i

each_fits : (n : ℕ) (chunks : List (List Addend)) → list_all (chunk_fits n) chunks ≡ true → (k : ℕ) (e : Effect) → IsIn e (queue (lists_of chunks) k) → Fits n e
each_fits n [] h k e i = absurd i
each_fits n (chunk ∷ chunks) h zero e i = list_fits n chunk (and_parts (chunk_fits n chunk) (list_all (chunk_fits n) chunks) h).0 e i
each_fits n (chunk ∷ chunks) h (suc k) e i = each_fits n chunks (and_parts (chunk_fits n chunk) (list_all (chunk_fits n) chunks) h).1 k e i

pub settled : (n : ℕ) (chunks : List (List Addend)) → list_all (chunk_fits n) chunks ≡ true → Settled (lists_of chunks)
settled n chunks h = λ t. inl (Add, (λ (p : Add ≡ Put). cc), λ k e i _. (each_fits n chunks h k e i).sum)

pub lie : (n : ℕ) (chunks : List (List Addend)) → list_all (chunk_fits n) chunks ≡ true → AllLie (vector_of n ∷ []) (lists_of chunks)
lie n chunks h = λ k e i.
    let f = each_fits n chunks h k e i in
    (subst (λ t. t < 1) (sym f.tensor) (omega arith), subst (λ t. IsTrue (is_in_box (tensor_at (vector_of n ∷ []) t).function.shape e.at)) (sym f.tensor) f.inside)

-- an addend of a chunk lies in a box of that shape
pub lies_in : (n : ℕ) (chunk : List Addend) (k : ℕ) (d : Addend) (shape : List ℕ) → IsTrue (chunk_fits n chunk) → k < length chunk → shape ≡ n ∷ [] →
    IsTrue (is_in_box shape ((get_or chunk k d).at ∷ []))
lies_in n chunk k d shape h l same =
    subst (λ (ns : List ℕ). IsTrue (is_in_box ns ((get_or chunk k d).at ∷ []))) (sym same)
    (ap (λ b. b && true) (AllPass-from_list_all (λ (a : Addend). nat_lt a.at n) chunk h k d l))
