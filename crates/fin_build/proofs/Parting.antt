-- What builders of rows keep.
use Rattle.std.proofs.Common.{◌≡◌, ℕ, ◌+◌, ◌^◌, ◌<◌, ◌≤◌, List, [], ◌∷◌, Option, Some, None, IfSome, IsTrue, true, length, sym, ap, ◌∙◌, subst, arith}
use Rattle.std.specs.Prelude.{slice_index}
use Rattle.fin_tensor.specs.declared.format.Format.{Format}
use Rattle.fin_tensor.specs.declared.format.Level.{Level}
use Rattle.fin_tensor.specs.TensorFunction.{TensorFunction, value_at, is_in_box}
use Rattle.fin_tensor.specs.Lines.{IsShape}
use Rattle.fin_tensor.specs.Order.{ordered_levels}
use Rattle.fin_tensor.specs.Building.{Building}
use Rattle.fin_tensor.proofs.Tabulated.{tabulated_shape, tabulated_fill}
use Rattle.fin_tensor.proofs.Walk.{box_length}
use Rattle.fin_build.specs.Builders.{IsLast, IsBuilding}
use Rattle.fin_build.specs.Parts.{starts_dense, AreRows, moved, rows_shape, rows_of, part_of, IsPartFor, with_rows, last_after, replaced}
use Rattle.fin_build.proofs.Rowing.{rows_long, rows_small, rows_tensor, put_tensor, raised_inside, raised_small, F}

dense_some : (ls : List Level) → starts_dense ls ≡ true → 0 < length ls
dense_some [] h = absurd (cc)
dense_some (l ∷ ls) h = omega arith

module _ (b : Building) (k : IsBuilding b) (lo hi : ℕ) (r : AreRows lo hi b) where
  some_rows : 0 < length b.function.shape
  some_rows = omega (arith, dense_some b.format.levels r.dense, k.shape_is.long)

  rows_shaped : IsShape b.format.levels (rows_of lo hi b.function).shape
  rows_shaped = subst (λ (ns : List ℕ). IsShape b.format.levels ns) (sym (tabulated_shape (rows_shape lo hi b.function.shape) b.function.fill (λ cs. value_at b.function (moved (λ c. c + lo) cs)))) (record {
    long = rows_long lo hi b.function.shape ∙ k.shape_is.long;
    small = rows_small lo hi b.function.shape r.order r.within k.shape_is.small;
  })

  rows_building : IsBuilding (part_of lo hi b)
  rows_building = record {
    placed = k.placed;
    shape_is = rows_shaped;
    fill_is = tabulated_fill (rows_shape lo hi b.function.shape) b.function.fill (λ cs. value_at b.function (moved (λ c. c + lo) cs)) ∙ k.fill_is;
    word = k.word;
    tensor = rows_tensor b.function lo hi k.tensor;
    last_is = tt;
  }

  module _ (p : Building) (kp : IsBuilding p) (q : IsPartFor lo hi b p) where
    same_fill : p.function.fill ≡ b.function.fill
    same_fill = kp.fill_is ∙ ap (λ (x : Format). x.fill) q.format_is ∙ sym k.fill_is

    put_shape : (with_rows lo hi b.function p.function).shape ≡ b.function.shape
    put_shape = tabulated_shape b.function.shape b.function.fill (F b.function p.function k.tensor kp.tensor lo hi r.order same_fill)

    in_rows : (cs : List ℕ) → IsLast p cs → IsTrue (is_in_box (rows_shape lo hi b.function.shape) cs)
    in_rows cs l = subst (λ (ns : List ℕ). IsTrue (is_in_box ns cs)) q.shape_is l.inside

    last_by : (own theirs : Option (List ℕ)) → IfSome own (IsLast b) → IfSome theirs (IsLast p) → IfSome (last_after lo theirs own) (IsLast (replaced lo hi b p))
    last_by None None h g = tt
    last_by (Some cs) None h g = record { inside = subst (λ (ns : List ℕ). IsTrue (is_in_box ns cs)) (sym put_shape) h.inside; ordered = h.ordered }
    last_by own (Some cs) h g = record {
      inside = subst (λ (ns : List ℕ). IsTrue (is_in_box ns (moved (λ c. c + lo) cs))) (sym put_shape) (raised_inside lo hi b.function.shape cs r.order r.within (in_rows cs g));
      ordered = subst (λ (fm : Format). 0 < ordered_levels fm.levels) q.format_is g.ordered;
    }

    put_building : IsBuilding (replaced lo hi b p)
    put_building = record {
      placed = k.placed;
      shape_is = subst (λ (ns : List ℕ). IsShape b.format.levels ns) (sym put_shape) k.shape_is;
      fill_is = tabulated_fill b.function.shape b.function.fill (F b.function p.function k.tensor kp.tensor lo hi r.order same_fill) ∙ k.fill_is;
      word = k.word;
      tensor = put_tensor b.function p.function lo hi k.tensor kp.tensor r.order same_fill;
      last_is = last_by b.last p.last k.last_is kp.last_is;
    }

    last_fits_by : (o : Option (List ℕ)) → IfSome o (IsLast p) → IfSome o (λ cs. (length cs ≤ 8) × (slice_index cs 0 + lo < 2 ^ 64))
    last_fits_by None h = tt
    last_fits_by (Some cs) h =
        let some = some_rows in
        let top = k.shape_is.small 0 some in (
          omega (arith, box_length p.function.shape cs h.inside, kp.shape_is.long, kp.placed.few),
          raised_small lo hi b.function.shape cs r.order r.within (omega (arith, top, r.order, r.within)) (omega (arith, top, r.within)) (in_rows cs h),
        )

-- ---- the same of what the code made
pub part_building : (b a : Building) (lo hi : ℕ) (fm : Format) (f : TensorFunction) → IsBuilding b → b ≡ a → AreRows lo hi a → fm ≡ b.format → f ≡ rows_of lo hi b.function → IsBuilding (record { format = fm; function = f; last = None })
part_building b a lo hi fm f k e r em ef =
    let s : AreRows lo hi b = subst (λ (x : Building). AreRows lo hi x) (sym e) r in
    let p : part_of lo hi b ≡ record { format = fm; function = f; last = None } = λ i. record { format = sym em i; function = sym ef i; last = None } in
    subst (λ (x : Building). IsBuilding x) p (rows_building b k lo hi s)

module _ (b a p q : Building) (lo hi : ℕ) (kb : IsBuilding b) (eb : b ≡ a) (kp : IsBuilding p) (ep : p ≡ q) (r : AreRows lo hi a) (h : IsPartFor lo hi a q) where
  rows_too : AreRows lo hi b
  rows_too = subst (λ (x : Building). AreRows lo hi x) (sym eb) r

  part_too : IsPartFor lo hi b p
  part_too = subst (λ (x : Building). IsPartFor lo hi x p) (sym eb) (subst (λ (x : Building). IsPartFor lo hi a x) (sym ep) h)

  pub last_fits : IfSome p.last (λ cs. (length cs ≤ 8) × (slice_index cs 0 + lo < 2 ^ 64))
  last_fits = last_fits_by b kb lo hi rows_too p kp part_too p.last kp.last_is

  pub replaced_building : (f : TensorFunction) (own last : Option (List ℕ)) → f ≡ with_rows lo hi b.function p.function → own ≡ b.last → last ≡ last_after lo p.last own → IsBuilding (record { format = b.format; function = f; last = last })
  replaced_building f own last ef eo el =
      let e : last ≡ last_after lo p.last b.last = el ∙ ap (last_after lo p.last) eo in
      let m : replaced lo hi b p ≡ record { format = b.format; function = f; last = last } = λ i. record { format = b.format; function = sym ef i; last = sym e i } in
      subst (λ (x : Building). IsBuilding x) m (put_building b kb lo hi rows_too p kp part_too)

pub part_fits : (b a : Building) (lo hi : ℕ) (fm : Format) (f : TensorFunction) → b ≡ a → fm ≡ b.format → f ≡ rows_of lo hi b.function → IsPartFor lo hi a (record { format = fm; function = f; last = None })
part_fits b a lo hi fm f e em ef = subst (λ (x : Building). IsPartFor lo hi x (record { format = fm; function = f; last = None })) e (record {
  format_is = em;
  shape_is = ap (λ (g : TensorFunction). g.shape) ef ∙ tabulated_shape (rows_shape lo hi b.function.shape) b.function.fill (λ cs. value_at b.function (moved (λ c. c + lo) cs));
})
