-- Updates at one place, one after another, are one update.
use Rattle.std.proofs.Common.{◌≡◌, ◌≢◌, ℕ, zero, suc, ◌<◌, ⊎_elim, List, length, Bool, true, false, IsTrue, not, if◌then◌else◌, refl, sym, ap, ◌∙◌, subst, ℤ}
use Rattle.std.proofs.Common.{Option, Some, None, take, replicate, get_or-set_same}
use Rattle.std.specs.Prelude.{nat_eq}
use Rattle.std.specs.Ordering.{nat_cmp, ordering_reverse}
use Rattle.std.specs.Cmp.{IsTotalOrder}
use Rattle.std.specs.Cmp.Lexicographic.{slice_cmp}
use Rattle.std.specs.BTreeMap.{is_at}
use Rattle.std.specs.declared.cmp.Ordering.{Ordering}
use Rattle.std.specs.declared.cmp.Ordering.TheVariants.{Less, Equal, Greater}
use Rattle.std.proofs.lemmas.Bool.{cases_lt}
use Rattle.std.proofs.lemmas.Cmp.{nat_list_cmp_total}
use Rattle.std.proofs.lemmas.List.{set-set, get_or_past}
use Rattle.fin_base.specs.declared.reduce.Reduce.{Reduce}
use Rattle.fin_base.specs.Words.{IsWord, apply, repeat, reduced}
use Rattle.fin_tensor.specs.TensorFunction.{TensorFunction, HasCells, is_in_box, value_at, with_value, changed}
use Rattle.fin_tensor.specs.Order.{ordered_levels}
use Rattle.fin_tensor.specs.Building.{Building, is_less, comes_behind, follows, last_of, updated}
use Rattle.fin_tensor.proofs.Functions.{gives_one_place, tied, tied_are_same}
use Rattle.fin_tensor.proofs.Cells.{agreeing_cells_are_equal, keeps_cells}
use Rattle.fin_ast.specs.Value.{coordinates}
use Rattle.fin_ast.specs.Dense.{Setting}
use Rattle.fin_ast.proofs.InBox.{in_box}
use Rattle.fin_stage.specs.Stages.{Stage, Absent, Built, Frozen, stage_at}
use Rattle.fin_stage.specs.Staged.{Run, is_made, with_stage, unalive, unordered, update_at, put_at}
use Rattle.fin_stage.specs.Trailing.{skipped}
use Rattle.fin_style_point.specs.Laws.{repeats}
use Rattle.fin_style_point.specs.Changes.{is_bitwise}
use Rattle.fin_style_point.proofs.Repeating.{repeated_value_is}

-- ---- an update by any step

abbrev with_put : ℕ → Building → Option (List ℕ) → (ℤ → ℤ) → Run → Run
with_put t b None f r = r
with_put t b (Some cs) f r = if follows b cs then with_stage t (Built (updated b cs f)) r else unordered r

abbrev with_at : ℕ → Stage → List ℤ → (ℤ → ℤ) → Run → Run
with_at t Absent zs f r = unalive r
with_at t (Built b) zs f r = with_put t b (coordinates b.function.shape zs) f r
with_at t (Frozen format g) zs f r = unalive r

abbrev put_with : Setting → ℕ → List ℤ → (ℤ → ℤ) → Run → Run
put_with w t zs f r = if is_made w t then with_at t (stage_at r.stages t) zs f r else unalive r

same_put : (t : ℕ) (b : Building) (o : Option (List ℕ)) (by : Reduce) (v : ℤ) (r : Run) → put_at t b o by v r ≡ with_put t b o (λ old. apply by old v) r
same_put t b None by v r = refl
same_put t b (Some cs) by v r = refl

same_at : (t : ℕ) (s : Stage) (zs : List ℤ) (by : Reduce) (v : ℤ) (r : Run) → update_at t s zs by v r ≡ with_at t s zs (λ old. apply by old v) r
same_at t Absent zs by v r = refl
same_at t (Built b) zs by v r = same_put t b (coordinates b.function.shape zs) by v r
same_at t (Frozen format g) zs by v r = refl

put_is : (w : Setting) (t : ℕ) (zs : List ℤ) (by : Reduce) (v : ℤ) (r : Run) → skipped w t zs by v r ≡ put_with w t zs (λ old. apply by old v) r
put_is w t zs by v r = ap (λ (x : Run). if is_made w t then x else unalive r) (same_at t (stage_at r.stages t) zs by v r)

-- ---- order: an update follows one at the same place

not_less : (cs : List ℕ) → not (is_less (slice_cmp nat_cmp cs cs)) ≡ true
not_less cs = by (slice_cmp nat_cmp cs cs) refl where
  o : IsTotalOrder (slice_cmp nat_cmp)
  o = nat_list_cmp_total

  itself : (r : Ordering) → slice_cmp nat_cmp cs cs ≡ r → r ≡ ordering_reverse r
  itself r e = sym e ∙ o.antisymm cs cs ∙ ap ordering_reverse e

  by : (r : Ordering) → slice_cmp nat_cmp cs cs ≡ r → not (is_less r) ≡ true
  by Less e = let f = itself Less e in absurd (cc)
  by Equal e = refl
  by Greater e = refl

follows_itself : (b : Building) (cs : List ℕ) (f : ℤ → ℤ) → follows (updated b cs f) cs ≡ true
follows_itself b cs f = by (nat_eq (ordered_levels b.format.levels) 0) where
  by : (z : Bool) → comes_behind (ordered_levels b.format.levels) (if z then None else Some cs) cs ≡ true
  by true = refl
  by false = not_less (take (ordered_levels b.format.levels) cs)

-- ---- one value, changed twice

module _ (f : TensorFunction) (cs : List ℕ) (cells : HasCells f) (box : IsTrue (is_in_box f.shape cs)) (g h : ℤ → ℤ) where
  abbrev first : TensorFunction
  first = changed f cs g

  abbrev both : TensorFunction
  both = changed f cs (λ x. h (g x))

  at_place : value_at (changed first cs h) cs ≡ value_at both cs
  at_place =
      (gives_one_place first cs (h (value_at first cs))).0 ∙ ap h ((gives_one_place f cs (g (value_at f cs))).0)
      ∙ sym ((gives_one_place f cs (h (g (value_at f cs)))).0)

  elsewhere : (ds : List ℕ) → ds ≢ cs → value_at (changed first cs h) ds ≡ value_at both ds
  elsewhere ds n =
      (gives_one_place first cs (h (value_at first cs))).1 ds n ∙ (gives_one_place f cs (g (value_at f cs))).1 ds n
      ∙ sym ((gives_one_place f cs (h (g (value_at f cs)))).1 ds n)

  everywhere : (ds : List ℕ) → value_at (changed first cs h) ds ≡ value_at both ds
  everywhere ds = elim (is_at (slice_cmp nat_cmp ds) cs) as (λ b. is_at (slice_cmp nat_cmp ds) cs ≡ b → value_at (changed first cs h) ds ≡ value_at both ds) [
    | true ↦ λ e. subst (λ (x : List ℕ). value_at (changed first cs h) x ≡ value_at both x) (sym (tied_are_same ds cs e)) at_place
    | false ↦ λ e. elsewhere ds (λ q. let k = ap (λ (x : List ℕ). is_at (slice_cmp nat_cmp ds) x) q in let own = tied ds in cc)
  ] refl

  changed_twice : changed first cs h ≡ both
  changed_twice =
      agreeing_cells_are_equal (changed first cs h) both
      (keeps_cells first cs (h (value_at first cs)) (keeps_cells f cs (g (value_at f cs)) cells box) box)
      (keeps_cells f cs (h (g (value_at f cs))) cells box) refl refl everywhere

-- ---- two updates

module _ (w : Setting) (t : ℕ) (zs : List ℤ) where
  once : (f : ℤ → ℤ) (r : Run) (s : Stage) → is_made w t ≡ true → stage_at r.stages t ≡ s → put_with w t zs f r ≡ with_at t s zs f r
  once f r s m e = ap (λ b. if b then with_at t (stage_at r.stages t) zs f r else unalive r) m ∙ ap (λ (x : Stage). with_at t x zs f r) e

  there : (r : Run) (b : Building) → stage_at r.stages t ≡ Built b → t < length r.stages
  there r b e = ⊎_elim (λ lt. lt) (λ le. let past = get_or_past r.stages t Absent le in absurd (cc)) (cases_lt t (length r.stages))

  module _ (g h : ℤ → ℤ) (r : Run) (b : Building) (m : is_made w t ≡ true) (e : stage_at r.stages t ≡ Built b) (cells : HasCells b.function) where
    in_order : (cs : List ℕ) → coordinates b.function.shape zs ≡ Some cs → (q : Bool) → follows b cs ≡ q → put_with w t zs h (put_with w t zs g r) ≡ put_with w t zs (λ x. h (g x)) r
    in_order cs c true q =
        let one : (f : ℤ → ℤ) → put_with w t zs f r ≡ with_stage t (Built (updated b cs f)) r =
        (λ f. once f r (Built b) m e ∙ ap (λ (o : Option (List ℕ)). with_put t b o f r) c ∙ ap (λ x. if x then with_stage t (Built (updated b cs f)) r else unordered r) q) in
        let r2 : Run = with_stage t (Built (updated b cs g)) r in
        let e2 : stage_at r2.stages t ≡ Built (updated b cs g) = get_or-set_same r.stages t (Built (updated b cs g)) Absent (there r b e) in
        let second : put_with w t zs h r2 ≡ with_stage t (Built (updated (updated b cs g) cs h)) r2 =
        once h r2 (Built (updated b cs g)) m e2 ∙ ap (λ (o : Option (List ℕ)). with_put t (updated b cs g) o h r2) c
        ∙ ap (λ x. if x then with_stage t (Built (updated (updated b cs g) cs h)) r2 else unordered r2) (follows_itself b cs g) in
        let twice : updated (updated b cs g) cs h ≡ updated b cs (λ x. h (g x)) =
        ap (λ (f : TensorFunction). record { format = b.format; function = f; last = last_of (ordered_levels b.format.levels) cs })
        (changed_twice b.function cs cells (in_box b.function.shape zs cs c) g h) in
        ap (put_with w t zs h) (one g) ∙ second ∙ ap (λ (x : Building). with_stage t (Built x) r2) twice
        ∙ ap (λ (ss : List Stage). record r { stages = ss }) (set-set r.stages t (Built (updated b cs g)) (Built (updated b cs (λ x. h (g x))))) ∙ sym (one (λ x. h (g x)))
    in_order cs c false q =
        let one : (f : ℤ → ℤ) (y : Run) → stage_at y.stages t ≡ Built b → put_with w t zs f y ≡ unordered y =
        (λ f y d. once f y (Built b) m d ∙ ap (λ (o : Option (List ℕ)). with_put t b o f y) c ∙ ap (λ x. if x then with_stage t (Built (updated b cs f)) y else unordered y) q) in
        ap (put_with w t zs h) (one g r e) ∙ one h (unordered r) e ∙ sym (one (λ x. h (g x)) r e)

    in_or_out : (o : Option (List ℕ)) → coordinates b.function.shape zs ≡ o → put_with w t zs h (put_with w t zs g r) ≡ put_with w t zs (λ x. h (g x)) r
    in_or_out None c =
        let one : (f : ℤ → ℤ) → put_with w t zs f r ≡ r = (λ f. once f r (Built b) m e ∙ ap (λ (o : Option (List ℕ)). with_put t b o f r) c) in
        ap (put_with w t zs h) (one g) ∙ one h ∙ sym (one (λ x. h (g x)))
    in_or_out (Some cs) c = in_order cs c (follows b cs) refl

    put_twice : put_with w t zs h (put_with w t zs g r) ≡ put_with w t zs (λ x. h (g x)) r
    put_twice = in_or_out (coordinates b.function.shape zs) refl

-- ---- any number of updates

abbrev iterated : ℕ → (ℤ → ℤ) → ℤ → ℤ
iterated zero f x = x
iterated (suc n) f x = iterated n f (f x)

iterated_is : (by : Reduce) (v : ℤ) (n : ℕ) (a : ℤ) → reduced by a (replicate n v) ≡ iterated n (λ old. apply by old v) a
iterated_is by v zero a = refl
iterated_is by v (suc n) a = iterated_is by v n (apply by a v)

repeats_same : {S : Type 0} (n : ℕ) (f g : S → S) → ((s : S) → f s ≡ g s) → (s : S) → repeats n f s ≡ repeats n g s
repeats_same zero f g h s = refl
repeats_same (suc n) f g h s = ap (repeats n f) (h s) ∙ repeats_same n f g h (g s)

-- steps that agree at the values that are there
put_alike : (t : ℕ) (b : Building) (o : Option (List ℕ)) (f g : ℤ → ℤ) (r : Run) → ((cs : List ℕ) → f (value_at b.function cs) ≡ g (value_at b.function cs)) → with_put t b o f r ≡ with_put t b o g r
put_alike t b None f g r h = refl
put_alike t b (Some cs) f g r h =
    let put : ℤ → Building = (λ z. record { format = b.format; function = with_value b.function cs z; last = last_of (ordered_levels b.format.levels) cs }) in
    ap (λ z. if follows b cs then with_stage t (Built (put z)) r else unordered r) (h cs)

module _ (w : Setting) (t : ℕ) (zs : List ℤ) (r : Run) (b : Building) (m : is_made w t ≡ true) (e : stage_at r.stages t ≡ Built b) (cells : HasCells b.function) where
  onward : (f : ℤ → ℤ) (n : ℕ) (g : ℤ → ℤ) → repeats n (put_with w t zs f) (put_with w t zs g r) ≡ put_with w t zs (λ x. iterated n f (g x)) r
  onward f zero g = refl
  onward f (suc n) g = ap (repeats n (put_with w t zs f)) (put_twice w t zs g f r b m e cells) ∙ onward f n (λ x. f (g x))

  alike : (f g : ℤ → ℤ) → ((cs : List ℕ) → f (value_at b.function cs) ≡ g (value_at b.function cs)) → put_with w t zs f r ≡ put_with w t zs g r
  alike f g h = once w t zs f r (Built b) m e ∙ put_alike t b (coordinates b.function.shape zs) f g r h ∙ sym (once w t zs g r (Built b) m e)

  -- so many updates by a value are one by what the value comes to
  pub puts_at_once : (by : Reduce) (v : ℤ) (n : ℕ) → (is_bitwise by ≡ true → ((cs : List ℕ) → IsWord (value_at b.function cs)) × IsWord v)
      → repeats (suc n) (skipped w t zs by v) r ≡ skipped w t zs by (repeat by v (suc n)) r
  puts_at_once by v n words =
      repeats_same (suc n) (skipped w t zs by v) (put_with w t zs (λ old. apply by old v)) (put_is w t zs by v) r
      ∙ onward (λ old. apply by old v) n (λ old. apply by old v)
      ∙ alike (iterated (suc n) (λ old. apply by old v)) (λ old. apply by old (repeat by v (suc n)))
      (λ cs. sym (repeated_value_is by (value_at b.function cs) v n (λ q. ((words q).0 cs, (words q).1)) ∙ iterated_is by v (suc n) (value_at b.function cs)))
      ∙ sym (put_is w t zs by (repeat by v (suc n)) r)
