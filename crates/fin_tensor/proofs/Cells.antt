-- Laws of tensor functions whose values need be no words.
use Rattle.std.proofs.Common.{IsTrue, ◌≡◌, ◌≢◌, ℕ, refl, sym, ap, ◌∙◌, ℤ, List, [], ◌∷◌, Bool, true, false, cond, Option, Some, None, IfSome, unwrap_or, if◌then◌else◌, subst}
use Rattle.std.specs.Ordering.{nat_cmp, int_eq}
use Rattle.std.specs.Cmp.Lexicographic.{slice_cmp, nat_list_cmp_total}
use Rattle.std.specs.FinMap.{get-empty, get, insert, remove, get-insert, get-remove, same_map}
use Rattle.std.specs.BTreeMap.{is_at}
use Rattle.fin_tensor.specs.TensorFunction.{IsEntry, IsCell, IsTensor, HasCells, is_in_box, TensorFunction, value_at, with_value, filled, box}
use Rattle.fin_tensor.specs.Stands.{spread, tabulated}
use Rattle.fin_tensor.proofs.Functions.{only_equal_tie, tied_are_same, differs, same_option}
use Rattle.fin_tensor.proofs.Tabulated.{AllIn, all_box}

of_entry : (shape : List ℕ) (fill : ℤ) (cs : List ℕ) (o : Option ℤ) → IfSome o (IsEntry shape fill cs) → IfSome o (IsCell shape fill cs)
of_entry shape fill cs None h = tt
of_entry shape fill cs (Some v) h = record { inside = h.inside; other = h.other }

pub cells_of_tensor : (f : TensorFunction) → IsTensor f → HasCells f
cells_of_tensor f h cs = of_entry f.shape f.fill cs (get f.cells cs) (h cs)

other : (f : TensorFunction) (cs : List ℕ) (o : Option ℤ) → IfSome o (IsCell f.shape f.fill cs) → IfSome o (λ v. v ≢ f.fill)
other f cs None h = tt
other f cs (Some v) h = h.other

pub agreeing_cells_are_equal : (f g : TensorFunction) → HasCells f → HasCells g → f.shape ≡ g.shape → f.fill ≡ g.fill → ((cs : List ℕ) → value_at f cs ≡ value_at g cs) → f ≡ g
agreeing_cells_are_equal f g p q es ef h =
    let ec : f.cells ≡ g.cells = same_map nat_list_cmp_total only_equal_tie f.cells g.cells (λ cs. same_option _ _ _ _ (other f cs (get f.cells cs) (p cs)) (other g cs (get g.cells cs) (q cs)) ef (h cs)) in
    λ i. record { shape = es i; fill = ef i; cells = ec i }

outside_by : (shape : List ℕ) (fill : ℤ) (cs : List ℕ) (o : Option ℤ) → IfSome o (IsCell shape fill cs) → is_in_box shape cs ≡ false → unwrap_or o fill ≡ fill
outside_by shape fill cs None h out = refl
outside_by shape fill cs (Some v) h out = let x : true ≡ false = sym h.inside ∙ out in cc

pub fill_outside : (f : TensorFunction) (cs : List ℕ) → HasCells f → is_in_box f.shape cs ≡ false → value_at f cs ≡ f.fill
fill_outside f cs h out = outside_by f.shape f.fill cs (get f.cells cs) (h cs) out

-- functions that agree in shape, fill and inside the box are equal
pub cells_agreeing_inside : (f g : TensorFunction) → HasCells f → HasCells g → f.shape ≡ g.shape → f.fill ≡ g.fill → ((cs : List ℕ) → IsTrue (is_in_box f.shape cs) → value_at f cs ≡ value_at g cs) → f ≡ g
cells_agreeing_inside f g p q es ef h = agreeing_cells_are_equal f g p q es ef (λ cs.
    elim (is_in_box f.shape cs) as (λ b. is_in_box f.shape cs ≡ b → value_at f cs ≡ value_at g cs) [
      | true ↦ λ within. h cs within
      | false ↦ λ out. fill_outside f cs p out ∙ ef ∙ sym (fill_outside g cs q (ap (λ (ns : List ℕ). is_in_box ns cs) (sym es) ∙ out))
    ] refl)

-- ---- what keeps cells
kept_without : (f : TensorFunction) (ds : List ℕ) (b : Bool) → IfSome (get f.cells ds) (IsCell f.shape f.fill ds) → IfSome (cond b None (get f.cells ds)) (IsCell f.shape f.fill ds)
kept_without f ds true h = tt
kept_without f ds false h = h

kept_with : (f : TensorFunction) (ds : List ℕ) (v : ℤ) (b : Bool) → (b ≡ true → IsCell f.shape f.fill ds v) → IfSome (get f.cells ds) (IsCell f.shape f.fill ds) → IfSome (cond b (Some v) (get f.cells ds)) (IsCell f.shape f.fill ds)
kept_with f ds v true g h = g refl
kept_with f ds v false g h = h

pub keeps_cells : (f : TensorFunction) (cs : List ℕ) (v : ℤ) → HasCells f → IsTrue (is_in_box f.shape cs) → HasCells (with_value f cs v)
keeps_cells f cs v h within ds =
    elim (int_eq v f.fill) as (λ b. int_eq v f.fill ≡ b → IfSome (get (if b then remove f.cells cs else insert f.cells cs v) ds) (IsCell f.shape f.fill ds)) [
      | true ↦ λ e. subst (λ (o : Option ℤ). IfSome o (IsCell f.shape f.fill ds)) (sym (get-remove nat_list_cmp_total f.cells cs ds)) (kept_without f ds (is_at (slice_cmp nat_cmp ds) cs) (h ds))
      | false ↦ λ e. subst (λ (o : Option ℤ). IfSome o (IsCell f.shape f.fill ds)) (sym (get-insert nat_list_cmp_total f.cells cs v ds))
          (kept_with f ds v (is_at (slice_cmp nat_cmp ds) cs) (λ t. record { inside = subst (λ (x : List ℕ). IsTrue (is_in_box f.shape x)) (sym (tied_are_same ds cs t)) within; other = differs v f.fill e }) (h ds))
    ] refl

pub filled_has_cells : (shape : List ℕ) (fill : ℤ) → HasCells (filled shape fill)
filled_has_cells shape fill cs = subst (λ (o : Option ℤ). IfSome o (IsCell shape fill cs)) (sym (get-empty (slice_cmp nat_cmp) cs)) tt

spread_has_cells : (css : List (List ℕ)) (f : List ℕ → ℤ) (t : TensorFunction) → AllIn t.shape css → HasCells t → HasCells (spread css f t)
spread_has_cells [] f t a h = h
spread_has_cells (c ∷ css) f t a h = spread_has_cells css f (with_value t c (f c)) a.1 (keeps_cells t c (f c) h a.0)

pub tabulated_has_cells : (shape : List ℕ) (fill : ℤ) (f : List ℕ → ℤ) → HasCells (tabulated shape fill f)
tabulated_has_cells shape fill f = spread_has_cells (box shape) f (filled shape fill) (all_box shape) (filled_has_cells shape fill)
