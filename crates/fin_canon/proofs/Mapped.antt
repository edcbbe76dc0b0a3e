-- The entries of a tensor function name it.
use Rattle.std.proofs.Common.{◌≡◌, ℕ, zero, suc, ◌+◌, ◌<◌, List, [], ◌∷◌, length, refl, sym, ap, ◌∙◌, subst, arith, ℤ, Bool, true, false, cond, Option, Some, None, IfSome, unwrap_or}
use Rattle.std.specs.Prelude.{T, ◌&&◌}
use Rattle.std.specs.Ordering.{nat_cmp, is_lt, is_eq, ordering_reverse, eq_by_cmp}
use Rattle.std.proofs.lemmas.Cmp.{tied_itself}
use Rattle.std.specs.Cmp.Lexicographic.{slice_cmp, nat_list_cmp_total}
use Rattle.std.specs.declared.cmp.Ordering.{Ordering}
use Rattle.std.specs.declared.cmp.Ordering.TheVariants.{Less, Equal, Greater}
use Rattle.std.specs.FinMap as finite
use Rattle.std.specs.FinMap.Entries.{is_sorted, below_all, find}
use Rattle.fin_tensor.specs.TensorFunction.{TensorFunction, IsTensor, IsEntry, value_at, filled, with_value}
use Rattle.fin_tensor.proofs.Functions.{agreeing_are_equal, gives_one_place, tied_are_same, tied}
use Rattle.fin_canon.specs.Entries.{Entry, coords, word_of, AreEntries, given, named}
use Rattle.fin_canon.specs.Laws.{EntriesName}
use Rattle.fin_canon.proofs.Naming.{named_by_entries}

abbrev order : List ℕ → List ℕ → Ordering
order = slice_cmp nat_cmp

-- ---- lists of entries that rise
first : (a b : Bool) → T (a && b) → T a
first true b h = tt
first false b h = h

second : (a b : Bool) → T (a && b) → T b
second true b h = h
second false b h = absurd h

less : (o : Ordering) → T (is_lt o) → o ≡ Less
less Less h = refl
less Equal h = absurd h
less Greater h = absurd h

untied : (cs ds : List ℕ) → order ds cs ≡ Less → eq_by_cmp order cs ds ≡ false
untied cs ds h = ap is_eq (nat_list_cmp_total.antisymm cs ds ∙ ap ordering_reverse h)

below_at : (cs : List ℕ) (es : List Entry) (k : ℕ) → T (below_all order cs es) → k < length es → order cs (coords es k) ≡ Less
below_at cs [] k h lt = absurd (omega arith)
below_at cs (e ∷ es) zero h lt = less (order cs e.0) (first (is_lt (order cs e.0)) (below_all order cs es) h)
below_at cs (e ∷ es) (suc k) h lt = below_at cs es k (second (is_lt (order cs e.0)) (below_all order cs es) h) (omega arith)

rest_is : (e : Entry) (es : List Entry) → T (is_sorted order (e ∷ es)) → T (is_sorted order es)
rest_is e es h = second (below_all order e.0 es) (is_sorted order es) h

below_is : (e : Entry) (es : List Entry) → T (is_sorted order (e ∷ es)) → T (below_all order e.0 es)
below_is e es h = first (below_all order e.0 es) (is_sorted order es) h

rises : (es : List Entry) (k : ℕ) → T (is_sorted order es) → k + 1 < length es → order (coords es k) (coords es (k + 1)) ≡ Less
rises [] k h lt = absurd (omega arith)
rises (e ∷ es) zero h lt = below_at e.0 es 0 (below_is e es h) (omega arith)
rises (e ∷ es) (suc k) h lt =
    let o : suc k + 1 ≡ suc (k + 1) = omega arith in
    subst (λ (j : ℕ). order (coords es k) (coords (e ∷ es) j) ≡ Less) (sym o) (rises es k (rest_is e es h) (omega arith))

-- ---- what they hold
found_at : (es : List Entry) (k : ℕ) → T (is_sorted order es) → k < length es → find order (coords es k) es ≡ Some (word_of es k)
found_at [] k h lt = absurd (omega arith)
found_at (e ∷ es) zero h lt = ap (λ (o : Ordering). cond (is_eq o) (Some e.1) (find order e.0 es)) (tied_itself nat_list_cmp_total e.0)
found_at (e ∷ es) (suc k) h lt =
    ap (λ (b : Bool). cond b (Some e.1) (find order (coords es k) es)) (untied (coords es k) e.0 (below_at e.0 es k (below_is e es h) (omega arith)))
    ∙ found_at es k (rest_is e es h) (omega arith)

not_below : (cs : List ℕ) (es : List Entry) → T (below_all order cs es) → find order cs es ≡ None
not_below cs [] h = refl
not_below cs (e ∷ es) h =
    ap (λ (o : Ordering). cond (is_eq o) (Some e.1) (find order cs es)) (less (order cs e.0) (first (is_lt (order cs e.0)) (below_all order cs es) h))
    ∙ not_below cs es (second (is_lt (order cs e.0)) (below_all order cs es) h)

-- the value that the first of these entries leaves at cs
step_is : (f : TensorFunction) (e : Entry) (es : List Entry) (cs : List ℕ) → T (is_sorted order (e ∷ es)) → unwrap_or (find order cs es) (value_at (with_value f e.0 e.1) cs) ≡ unwrap_or (find order cs (e ∷ es)) (value_at f cs)
step_is f e es cs h = elim (eq_by_cmp order cs e.0) as (λ b. eq_by_cmp order cs e.0 ≡ b → unwrap_or (find order cs es) (value_at (with_value f e.0 e.1) cs) ≡ unwrap_or (cond b (Some e.1) (find order cs es)) (value_at f cs)) [
  | true ↦ λ t.
      let same : cs ≡ e.0 = tied_are_same cs e.0 t in
      ap (λ (ds : List ℕ). unwrap_or (find order ds es) (value_at (with_value f e.0 e.1) ds)) same
      ∙ ap (λ (o : Option ℤ). unwrap_or o (value_at (with_value f e.0 e.1) e.0)) (not_below e.0 es (below_is e es h))
      ∙ (gives_one_place f e.0 e.1).0
  | false ↦ λ t. ap (unwrap_or (find order cs es)) ((gives_one_place f e.0 e.1).1 cs (λ same. let x : true ≡ false = sym (tied e.0) ∙ ap (λ (ds : List ℕ). eq_by_cmp order ds e.0) (sym same) ∙ t in cc))
] refl

given_holds : (es : List Entry) (f : TensorFunction) (cs : List ℕ) → T (is_sorted order es) → value_at (given es f) cs ≡ unwrap_or (find order cs es) (value_at f cs)
given_holds [] f cs h = refl
given_holds (e ∷ es) f cs h = given_holds es (with_value f e.0 e.1) cs (rest_is e es h) ∙ step_is f e es cs h

module _ (f : TensorFunction) (t : IsTensor f) where
  abbrev es : List Entry
  es = finite.entries f.cells

  sorted : T (is_sorted order es)
  sorted = finite.entries_sorted f.cells

  entry_is : (k : ℕ) → k < length es → IsEntry f.shape f.fill (coords es k) (word_of es k)
  entry_is k lt = subst (λ (o : Option ℤ). IfSome o (IsEntry f.shape f.fill (coords es k))) (finite.get-entries f.cells (coords es k) ∙ found_at es k sorted lt) (t (coords es k))

  are_entries : AreEntries f.shape es
  are_entries = record { inside = λ k lt. (entry_is k lt).inside; rise = λ k lt. rises es k sorted lt }

  holds : (cs : List ℕ) → value_at (named f.shape f.fill es) cs ≡ value_at f cs
  holds cs =
      given_holds es (filled f.shape f.fill) cs sorted
      ∙ ap (unwrap_or (find order cs es)) (ap (λ (o : Option ℤ). unwrap_or o f.fill) (finite.get-empty order cs))
      ∙ ap (λ (o : Option ℤ). unwrap_or o f.fill) (sym (finite.get-entries f.cells cs))

  names : named f.shape f.fill es ≡ f
  names =
      let n = named_by_entries f.shape f.fill es are_entries in
      agreeing_are_equal (named f.shape f.fill es) f (n.is_tensor (λ k lt. (entry_is k lt).word)) t n.shape_is n.fill_is holds

pub entries_name : EntriesName
entries_name f t = (are_entries f t, names f t)
