-- A builder that takes in entries.
use Rattle.std.proofs.Common.{◌≡◌, ℕ, zero, suc, ◌+◌, ◌<◌, ◌≤◌, List, [], ◌∷◌, ◌++◌, take, length, refl, sym, ap, ◌∙◌, subst, arith, ℤ, Bool, true, false, cond, Option, Some, None, IfSome, IsTrue, unwrap_or}
use Rattle.std.specs.Prelude.{T, ◌&&◌, slice_index_or, if◌then◌else◌}
use Rattle.std.specs.List.{list_all}
use Rattle.std.specs.Ordering.{eq_by_cmp}
use Rattle.std.specs.FinMap as finite
use Rattle.std.specs.FinMap.Entries.{is_sorted, find}
use Rattle.std.proofs.lemmas.List.{take_more, take_all}
use Rattle.fin_base.specs.declared.reduce.Reduce.{Reduce}
use Rattle.fin_base.specs.Words.{apply, identity}
use Rattle.fin_base.proofs.Reductions.{identity_keeps}
use Rattle.fin_tensor.specs.declared.format.Level.{Level}
use Rattle.fin_tensor.specs.declared.format.Level.TheVariants as level
use Rattle.fin_tensor.specs.Placement.{is_dense_or_dict}
use Rattle.fin_tensor.specs.Order.{is_ordered, ordered_from, ordered_levels}
use Rattle.fin_tensor.specs.TensorFunction.{TensorFunction, IsTensor, value_at, changed, is_in_box}
use Rattle.fin_tensor.specs.Building.{Building, updated, follows, comes_behind}
use Rattle.fin_tensor.proofs.Functions.{gives_one_place, tied, tied_are_same}
use Rattle.fin_grid.proofs.Maps.{rest_rises, first_is_alone}
use Rattle.fin_build.specs.Builders.{IsBuilding}
use Rattle.fin_build.specs.Entries.{Entry, AllInside}
use Rattle.fin_build.specs.Merging.{joined, IsMerged}
use Rattle.fin_build.proofs.Keeping.{word_at}
use Rattle.fin_build.proofs.Telling.{contained, entry_is}
use Rattle.fin_build.proofs.Writing.{order}

-- ---- without levels that are filled in order every update follows
unordered_level : (l : Level) → is_dense_or_dict l ≡ true → is_ordered l ≡ false
unordered_level level.Dense h = refl
unordered_level level.List h = cc
unordered_level level.Runs h = cc
unordered_level level.Band h = cc
unordered_level level.Dict h = refl

first : (a b : Bool) → (a && b) ≡ true → a ≡ true
first true b h = refl
first false b h = h

second : (a b : Bool) → (a && b) ≡ true → b ≡ true
second true b h = h
second false b h = cc

unordered_from : (ls : List Level) (n deepest : ℕ) → IsTrue (list_all is_dense_or_dict ls) → ordered_from n ls deepest ≡ deepest
unordered_from [] n deepest h = refl
unordered_from (l ∷ ls) n deepest h =
    ap (λ (b : Bool). ordered_from (n + 1) ls (if b then n + 1 else deepest)) (unordered_level l (first (is_dense_or_dict l) (list_all is_dense_or_dict ls) h))
    ∙ unordered_from ls (n + 1) deepest (second (is_dense_or_dict l) (list_all is_dense_or_dict ls) h)

behind_none : (last : Option (List ℕ)) (cs : List ℕ) → comes_behind 0 last cs ≡ true
behind_none None cs = refl
behind_none (Some l) cs = refl

pub always_follows : (b : Building) (ls : List Level) (cs : List ℕ) → b.format.levels ≡ ls → IsTrue (list_all is_dense_or_dict ls) → IsTrue (follows b cs)
always_follows b ls cs e h = ap (λ (xs : List Level). comes_behind (ordered_levels xs) b.last cs) e ∙ ap (λ (d : ℕ). comes_behind d b.last cs) (unordered_from ls 0 0 h) ∙ behind_none b.last cs

-- ---- one entry more
pub joined_push : (by : Reduce) (es : List Entry) (e : Entry) (b : Building) → joined by (es ++ e ∷ []) b ≡ updated (joined by es b) e.0 (λ old. apply by old e.1)
joined_push by [] e b = refl
joined_push by (d ∷ es) e b = joined_push by es e (updated b d.0 (λ old. apply by old d.1))

pub joined_more : (by : Reduce) (es : List Entry) (k : ℕ) (e : Entry) (a b c : Building) (at : List ℕ) (w : ℤ) → k < length es → e ≡ slice_index_or es k e → a ≡ joined by (take k es) b → at ≡ e.0 → w ≡ e.1 → c ≡ updated a at (λ old. apply by old w) → c ≡ joined by (take (k + 1) es) b
joined_more by es k e a b c at w lt is ea et ew ec =
    ec ∙ ap (λ (x : Building). updated x at (λ old. apply by old w)) ea ∙ ap (λ (cs : List ℕ). updated (joined by (take k es) b) cs (λ old. apply by old w)) et
    ∙ ap (λ (z : ℤ). updated (joined by (take k es) b) e.0 (λ old. apply by old z)) ew
    ∙ sym (joined_push by (take k es) e b)
    ∙ ap (λ (d : Entry). joined by (take k es ++ d ∷ []) b) is
    ∙ ap (λ (xs : List Entry). joined by xs b) (sym (take_more es k e lt))

pub joined_all : (by : Reduce) (es : List Entry) (k : ℕ) (b : Building) → length es ≤ k → joined by (take k es) b ≡ joined by es b
joined_all by es k b h = ap (λ (xs : List Entry). joined by xs b) (take_all k es h)

pub joined_shape : (by : Reduce) (es : List Entry) (b : Building) → (joined by es b).function.shape ≡ b.function.shape
joined_shape by [] b = refl
joined_shape by (e ∷ es) b = joined_shape by es (updated b e.0 (λ old. apply by old e.1))

pub joined_fill : (by : Reduce) (es : List Entry) (b : Building) → (joined by es b).function.fill ≡ b.function.fill
joined_fill by [] b = refl
joined_fill by (e ∷ es) b = joined_fill by es (updated b e.0 (λ old. apply by old e.1))

pub joined_format : (by : Reduce) (es : List Entry) (b : Building) → (joined by es b).format ≡ b.format
joined_format by [] b = refl
joined_format by (e ∷ es) b = joined_format by es (updated b e.0 (λ old. apply by old e.1))

-- ---- entries in the box
pub inside_at : (shape : List ℕ) (es : List Entry) (k : ℕ) (d : Entry) → k < length es → AllInside shape es → IsTrue (is_in_box shape (slice_index_or es k d).0)
inside_at shape [] k d lt h = absurd (omega arith)
inside_at shape (e ∷ es) zero d lt h = h.0
inside_at shape (e ∷ es) (suc k) d lt h = inside_at shape es k d (omega arith) h.1

inside_by : (shape : List ℕ) (es : List Entry) → ((k : ℕ) (d : Entry) → k < length es → IsTrue (is_in_box shape (slice_index_or es k d).0)) → AllInside shape es
inside_by shape [] h = tt
inside_by shape (e ∷ es) h = (h 0 e (omega arith), inside_by shape es (λ k d lt. h (suc k) d (omega arith)))

pub all_inside : (f : TensorFunction) (ns : List ℕ) (es : List Entry) → IsTensor f → ns ≡ f.shape → es ≡ finite.entries f.cells → AllInside ns es
all_inside f ns es t en ee = subst (λ (xs : List ℕ). AllInside xs es) (sym en) (subst (λ (xs : List Entry). AllInside f.shape xs) (sym ee)
    (inside_by f.shape (finite.entries f.cells) (λ k d lt. (entry_is f t (slice_index_or (finite.entries f.cells) k d) (contained (finite.entries f.cells) k d lt)).inside)))

-- ---- the values
abbrev to_value : Reduce → ℤ → Option ℤ → ℤ
to_value by x None = x
to_value by x (Some v) = apply by x v

joined_step : (by : Reduce) (e : Entry) (es : List Entry) (f : TensorFunction) (cs : List ℕ) → T (is_sorted order (e ∷ es)) →
    to_value by (value_at (changed f e.0 (λ old. apply by old e.1)) cs) (find order cs es) ≡ to_value by (value_at f cs) (find order cs (e ∷ es))
joined_step by e es f cs h = elim (eq_by_cmp order cs e.0) as (λ b. eq_by_cmp order cs e.0 ≡ b → to_value by (value_at (changed f e.0 (λ old. apply by old e.1)) cs) (find order cs es) ≡ to_value by (value_at f cs) (cond b (Some e.1) (find order cs es))) [
  | true ↦ λ t.
      let same : cs ≡ e.0 = tied_are_same cs e.0 t in
      subst (λ (x : List ℕ). to_value by (value_at (changed f e.0 (λ old. apply by old e.1)) x) (find order x es) ≡ apply by (value_at f x) e.1) (sym same)
      (ap (to_value by (value_at (changed f e.0 (λ old. apply by old e.1)) e.0)) (first_is_alone order e es h) ∙ (gives_one_place f e.0 (apply by (value_at f e.0) e.1)).0)
  | false ↦ λ t. ap (λ (z : ℤ). to_value by z (find order cs es)) ((gives_one_place f e.0 (apply by (value_at f e.0) e.1)).1 cs (λ same.
      let y : true ≡ false = sym (tied e.0) ∙ ap (λ (k : List ℕ). eq_by_cmp order k e.0) (sym same) ∙ t in cc))
] refl

joined_value : (by : Reduce) (es : List Entry) (b : Building) (cs : List ℕ) → T (is_sorted order es) → value_at (joined by es b).function cs ≡ to_value by (value_at b.function cs) (find order cs es)
joined_value by [] b cs h = refl
joined_value by (e ∷ es) b cs h = joined_value by es (updated b e.0 (λ old. apply by old e.1)) cs (rest_rises order e es h) ∙ joined_step by e es b.function cs h

of_both : (by : Reduce) (x fill : ℤ) (o : Option ℤ) → apply by x fill ≡ x → to_value by x o ≡ apply by x (unwrap_or o fill)
of_both by x fill None h = sym h
of_both by x fill (Some v) h = refl

pub joined_merges : (by : Reduce) (b c : Building) (g : TensorFunction) → IsBuilding b → identity by ≡ Some g.fill → c ≡ joined by (finite.entries g.cells) b → IsMerged by b.function g c.function
joined_merges by b c g k id e = record {
  shape_is = ap (λ (x : Building). x.function.shape) e ∙ joined_shape by (finite.entries g.cells) b;
  fill_is = ap (λ (x : Building). x.function.fill) e ∙ joined_fill by (finite.entries g.cells) b;
  value_is = λ cs.
      ap (λ (x : Building). value_at x.function cs) e ∙ joined_value by (finite.entries g.cells) b cs (finite.entries_sorted g.cells)
      ∙ ap (to_value by (value_at b.function cs)) (sym (finite.get-entries g.cells cs))
      ∙ of_both by (value_at b.function cs) g.fill (finite.get g.cells cs) (subst (λ (o : Option ℤ). IfSome o (λ e. apply by (value_at b.function cs) e ≡ value_at b.function cs)) id (identity_keeps by (value_at b.function cs) (word_at b cs k)));
}
