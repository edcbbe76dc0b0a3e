-- A level at a depth of all levels, and what is counted below it.
use Rattle.std.proofs.Common.{◌≡◌, ◌≢◌, ℕ, suc, ◌+◌, ◌-◌, ◌<◌, ◌≤◌, min, List, ◌∷◌, length, drop, refl, sym, ap, ◌∙◌, subst, ⊎_elim, arith, ℤ}
use Rattle.std.specs.Prelude.{slice_index, slice_index_or, filter}
use Rattle.std.specs.List.{range_with_len}
use Rattle.std.proofs.lemmas.Bool.{cases_lt}
use Rattle.std.proofs.lemmas.List.{drop_more}
use Rattle.fin_tensor.specs.declared.format.Level.{Level}
use Rattle.fin_tensor.specs.declared.format.Level.TheVariants as level
use Rattle.fin_tensor.specs.Placement.{RunsStandLast}
use Rattle.fin_tensor.specs.Canon.{Slice, slice_at, ends_run, kept}
use Rattle.fin_canon.specs.declared.entry.Range.{Range}
use Rattle.fin_canon.specs.Entries.{Entry}
use Rattle.fin_canon.specs.Ranges.{Told, FitsLevel}
use Rattle.fin_canon.specs.Counts.{total, count}
use Rattle.fin_canon.proofs.Counting.{Limit, count_step}
use Rattle.fin_canon.proofs.Storing.{told_fits_one, nothing_below}
use Rattle.fin_canon.proofs.Tallying.{runs_total}

-- levels of the other kinds keep what a list level keeps
pub kept_list : (l : Level) (fill : ℤ) (n : ℕ) (ns : List ℕ) (f : Slice) → l ≢ level.Dense → l ≢ level.Band → l ≢ level.Runs → kept l fill n ns f ≡ kept level.List fill n ns f
kept_list level.Dense fill n ns f a b c = absurd (a refl)
kept_list level.List fill n ns f a b c = refl
kept_list level.Dict fill n ns f a b c = refl
kept_list level.Band fill n ns f a b c = absurd (b refl)
kept_list level.Runs fill n ns f a b c = absurd (c refl)

module _ (levels : List Level) (shape : List ℕ) (d : ℕ) (here : d < length levels) (long : length shape ≡ length levels) where
  pub shape_here : drop d shape ≡ slice_index shape d ∷ drop (d + 1) shape
  shape_here = drop_more shape d 0 (omega arith)

  pub told_here : (es : List Entry) (fill : ℤ) (f : Slice) (r : Range) → Told es fill (drop d shape) d f r → Told es fill (slice_index shape d ∷ drop (d + 1) shape) d f r
  told_here es fill f r t = subst (λ (ns : List ℕ). Told es fill ns d f r) shape_here t

  pub fits_here : (es : List Entry) (fill : ℤ) (f : Slice) (r : Range) (l : Level) → RunsStandLast levels → slice_index_or levels d level.Dense ≡ l → Told es fill (drop d shape) d f r → FitsLevel l es d (slice_index shape d) r
  fits_here es fill f r l runs is t =
      told_fits_one es fill l (slice_index shape d) (drop (d + 1) shape) d f r (λ e. nothing_below levels shape d here long runs (is ∙ e)) (told_here es fill f r t)

  pub count_here : (l : Level) (fill : ℤ) (f : Slice) (k : ℕ) → k ≢ 0 → slice_index_or levels d level.Dense ≡ l → count (drop d levels) fill (drop d shape) k f ≡ total (λ i. count (drop (d + 1) levels) fill (drop (d + 1) shape) (k - 1) (slice_at f i)) (kept l fill (slice_index shape d) (drop (d + 1) shape) f)
  count_here l fill f k nz is =
      let k1 : k ≡ suc (k - 1) = omega (arith, nz) in
      let dl : drop d levels ≡ l ∷ drop (d + 1) levels = drop_more levels d level.Dense here ∙ ap (λ (x : Level). x ∷ drop (d + 1) levels) is in
      count_step (drop d levels) l (drop (d + 1) levels) fill (drop d shape) (slice_index shape d) (drop (d + 1) shape) k (k - 1) f dl shape_here k1

  pub runs_here : (fill : ℤ) (f : Slice) (k c : ℕ) → k ≢ 0 → d + k ≤ length levels → RunsStandLast levels → slice_index_or levels d level.Dense ≡ level.Runs → c ≡ min Limit (length (filter (ends_run (slice_index shape d) f) (range_with_len 0 (slice_index shape d)))) → c ≡ min Limit (count (drop d levels) fill (drop d shape) k f)
  runs_here fill f k c nz deep runs is e =
      let k1 : k - 1 ≡ 0 = ⊎_elim (λ (l : d + 1 < length levels). absurd (runs d l is)) (λ (l : length levels ≤ d + 1). omega (arith, deep)) (cases_lt (d + 1) (length levels)) in
      runs_total (drop (d + 1) levels) fill (slice_index shape d) (drop (d + 1) shape) (k - 1) f c k1 e ∙ ap (min Limit) (sym (count_here level.Runs fill f k nz is))
