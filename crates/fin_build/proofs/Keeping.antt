-- What a builder keeps.
use Rattle.std.proofs.Common.{◌≡◌, ℕ, ◌<◌, ◌≤◌, List, Option, Some, None, IfSome, IsTrue, length, ℤ, sym, subst, arith, FitsSigned, w64, true, false, refl, unwrap_or}
use Rattle.std.specs.Prelude.{nat_eq, if◌then◌else◌}
use Rattle.std.proofs.lemmas.Bool.Decides.{nat_tests}
use Rattle.fin_tensor.specs.TensorFunction.{TensorFunction, IsEntry, is_in_box, changed, value_at}
use Rattle.fin_tensor.specs.Order.{ordered_levels}
use Rattle.fin_tensor.specs.Building.{Building, updated, last_of}
use Rattle.fin_tensor.proofs.Functions.{keeps_tensors}
use Rattle.fin_tensor.proofs.Walk.{box_length}
use Rattle.std.specs.FinMap.{get}
use Rattle.fin_base.specs.declared.reduce.Reduce.{Reduce}
use Rattle.fin_base.specs.Words.{apply}
use Rattle.fin_base.proofs.Reductions.{keeps_words}
use Rattle.fin_build.specs.Builders.{IsLast, IsBuilding}

-- the coordinates are few
pub short : (b a : Building) → IsBuilding b → b ≡ a → (cs : List ℕ) → IsTrue (is_in_box a.function.shape cs) → length cs ≤ 8
short b a k e cs h =
    let within : IsTrue (is_in_box b.function.shape cs) = subst (λ (x : Building). IsTrue (is_in_box x.function.shape cs)) (sym e) h in
    omega (arith, box_length b.function.shape cs within, k.shape_is.long, k.placed.few)

last_is_by : (d : ℕ) (cs : List ℕ) (P : List ℕ → Type 0) → (0 < d → P cs) → IfSome (last_of d cs) P
last_is_by d cs P h = elim (nat_eq d 0) as (λ t. nat_eq d 0 ≡ t → IfSome (if t then None else Some cs) P) [
  | true ↦ λ _. tt
  | false ↦ λ e. h (grind (arith, nat_tests))
] refl

-- each value is a word
word_by : (shape : List ℕ) (fill : ℤ) (cs : List ℕ) (o : Option ℤ) → FitsSigned w64 fill → IfSome o (IsEntry shape fill cs) → FitsSigned w64 (unwrap_or o fill)
word_by shape fill cs None w h = w
word_by shape fill cs (Some v) w h = h.word

pub word_at : (b : Building) (cs : List ℕ) → IsBuilding b → FitsSigned w64 (value_at b.function cs)
word_at b cs k = word_by b.function.shape b.function.fill cs (get b.function.cells cs) (subst (λ (z : ℤ). FitsSigned w64 z) (sym k.fill_is) k.word) (k.tensor cs)

pub still_building : (b : Building) (cs : List ℕ) (by : Reduce) (v : ℤ) → IsBuilding b → IsTrue (is_in_box b.function.shape cs) → FitsSigned w64 v → IsBuilding (updated b cs (λ old. apply by old v))
still_building b cs by v k within word = record {
  placed = k.placed;
  shape_is = k.shape_is;
  fill_is = k.fill_is;
  word = k.word;
  tensor = keeps_tensors b.function cs (apply by (value_at b.function cs) v) k.tensor within (keeps_words by (value_at b.function cs) v (word_at b cs k) word);
  last_is = last_is_by (ordered_levels b.format.levels) cs (IsLast (updated b cs (λ old. apply by old v))) (λ some. record { inside = within; ordered = some });
}

-- the same of what the code made: w is v, as the code handed it on
pub made_building : (b a : Building) (by : Reduce) (cs at : List ℕ) (v w : ℤ) (f : TensorFunction) (last : Option (List ℕ)) → IsBuilding b → b ≡ a → IsTrue (is_in_box a.function.shape cs) → FitsSigned w64 v → w ≡ v → at ≡ cs →
    f ≡ changed b.function at (λ old. apply by old w) → last ≡ last_of (ordered_levels b.format.levels) at → IsBuilding (record { format = b.format; function = f; last = last })
made_building b a by cs at v w f last k e within word is same ef el =
    let inside : IsTrue (is_in_box b.function.shape cs) = subst (λ (x : Building). IsTrue (is_in_box x.function.shape cs)) (sym e) within in
    let there : IsTrue (is_in_box b.function.shape at) = subst (λ (x : List ℕ). IsTrue (is_in_box b.function.shape x)) (sym same) inside in
    let fits : FitsSigned w64 w = subst (λ (z : ℤ). FitsSigned w64 z) (sym is) word in
    let p : updated b at (λ old. apply by old w) ≡ record { format = b.format; function = f; last = last } = λ i. record { format = b.format; function = sym ef i; last = sym el i } in
    subst (λ (x : Building). IsBuilding x) p (still_building b at by w k there fits)
