-- The entries of a tensor function are its values other than the fill.
use Rattle.std.proofs.Common.{◌≡◌, ◌≢◌, ℕ, ◌<◌, List, [], ◌∷◌, refl, sym, ap, ◌∙◌, subst, ℤ, cond, Option, Some, None, IfSome, unwrap_or, length, map}
use Rattle.std.specs.Prelude.{slice_index_or, Contains}
use Rattle.std.specs.Ordering.{nat_cmp, eq_by_cmp}
use Rattle.std.specs.Cmp.{eq_by_cmp_equiv}
use Rattle.std.specs.Cmp.Lexicographic.{slice_cmp, nat_list_cmp_total}
use Rattle.std.specs.Map.{lookup}
use Rattle.std.specs.declared.cmp.Ordering.{Ordering}
use Rattle.std.specs.FinMap as finite
use Rattle.std.specs.FinMap.Entries.{find}
use Rattle.std.proofs.lemmas.Map.Views.{Contains-from_lookup, lookup-from_Contains}
use Rattle.std.proofs.lemmas.Map.Keys.{IsDistinct-from_sorted}
use Rattle.std.proofs.lemmas.List.{get_or_default}
use Rattle.fin_tensor.specs.TensorFunction.{TensorFunction, IsTensor, IsEntry, value_at}
use Rattle.fin_tensor.proofs.Functions.{tied_are_same}
use Rattle.fin_grid.proofs.Maps.{keys_rise}
use Rattle.fin_build.specs.Entries.{Entry, AreEntriesOf}

abbrev order : List ℕ → List ℕ → Ordering
order = slice_cmp nat_cmp

pub looked_up : (es : List Entry) (q : List ℕ) → find order q es ≡ lookup (eq_by_cmp order q) es
looked_up [] q = refl
looked_up (e ∷ es) q = ap (cond (eq_by_cmp order q e.0) (Some e.1)) (looked_up es q)

pub contained : {A : Type 0} (xs : List A) (k : ℕ) (d : A) → k < length xs → Contains xs (slice_index_or xs k d)
contained xs k d lt = (k, lt, get_or_default xs k _ _ lt)

module _ (f : TensorFunction) (t : IsTensor f) where
  abbrev es : List Entry
  es = finite.entries f.cells

  got : (e : Entry) → Contains es e → finite.get f.cells e.0 ≡ Some e.1
  got e h =
      finite.get-entries f.cells e.0 ∙ looked_up es e.0
      ∙ lookup-from_Contains (eq_by_cmp_equiv nat_list_cmp_total) e.0 e.1 es (IsDistinct-from_sorted order (map (λ e. e.0) es) (keys_rise order es (finite.entries_sorted f.cells))) h

  pub entry_is : (e : Entry) → Contains es e → IsEntry f.shape f.fill e.0 e.1
  entry_is e h = subst (λ (o : Option ℤ). IfSome o (IsEntry f.shape f.fill e.0)) (got e h) (t e.0)

  one : (e : Entry) → Contains es e → (e.1 ≡ value_at f e.0) × (e.1 ≢ f.fill)
  one e h = (ap (λ (o : Option ℤ). unwrap_or o f.fill) (sym (got e h)), (entry_is e h).other)

  all_by : (cs : List ℕ) (o : Option ℤ) → finite.get f.cells cs ≡ o → unwrap_or o f.fill ≢ f.fill → Contains es (cs, unwrap_or o f.fill)
  all_by cs None e ne = absurd (ne refl)
  all_by cs (Some v) e ne = Contains-from_lookup tied_are_same cs v es (sym (looked_up es cs) ∙ sym (finite.get-entries f.cells cs) ∙ e)

  pub told : AreEntriesOf f es
  told = record {
    each = λ k d lt. one (slice_index_or es k d) (contained es k d lt);
    all = λ cs ne. all_by cs (finite.get f.cells cs) refl ne;
    rise = keys_rise order es (finite.entries_sorted f.cells);
  }

pub told_by : (f : TensorFunction) (all : List Entry) → IsTensor f → all ≡ finite.entries f.cells → AreEntriesOf f all
told_by f all t e = subst (λ (xs : List Entry). AreEntriesOf f xs) (sym e) (told f t)
