-- Whatever is run, what is made keeps the shapes and fills of headers.
use Rattle.std.proofs.Common.{◌≡◌, ℕ, zero, suc, refl, sym, subst, ℤ, List, [], ◌∷◌, map, Option, Some, None, IfSome, Bool, true, false, is_some}
use Rattle.std.specs.Prelude.{slice_set, slice_get, slice_index_or}
use Rattle.fin_base.specs.declared.reduce.Reduce.{Reduce}
use Rattle.fin_tensor.specs.TensorFunction.{TensorFunction}
use Rattle.fin_tensor.specs.Building.{CanBuild}
use Rattle.fin_tensor.specs.Lines.{IsShape}
use Rattle.fin_ast.specs.declared.header.Header.{Header}
use Rattle.fin_ast.specs.declared.checked.Checked.{Checked}
use Rattle.fin_ast.specs.Value.{coordinates}
use Rattle.fin_ast.specs.Dense.{Setting, Made, made_at, kept, updated_at, updated_if, started, unbound}
use Rattle.fin_ast.specs.Shaped.{AreShaped}
use Rattle.fin_ast.proofs.Keeps.{StepsKeep, run_all_keeps}
use Rattle.fin_dense.specs.Fitting.{HasHeader, HaveHeaders, whole}

abbrev AllMade : (ℕ → TensorFunction → Type 0) → Made → Type 0
AllMade R ts = (k : ℕ) → IfSome (made_at ts k) (R k)

set_keeps : (R : ℕ → TensorFunction → Type 0) (ts : Made) (t : ℕ) (x : Option TensorFunction) → AllMade R ts → IfSome x (R t) → AllMade R (slice_set ts t x)
set_keeps R [] t x h p k = h k
set_keeps R (y ∷ ts) zero x h p zero = p
set_keeps R (y ∷ ts) zero x h p (suc k) = h (suc k)
set_keeps R (y ∷ ts) (suc t) x h p zero = h zero
set_keeps R (y ∷ ts) (suc t) x h p (suc k) = set_keeps (λ j. R (suc j)) ts t x (λ j. h (suc j)) p k

closing_keeps : (R : ℕ → TensorFunction → Type 0) (bs : List Bool) (ts : Made) → AllMade R ts → AllMade R (kept bs ts)
closing_keeps R [] ts h k = h k
closing_keeps R (b ∷ bs) [] h k = h k
closing_keeps R (true ∷ bs) (t ∷ ts) h zero = h zero
closing_keeps R (false ∷ bs) (t ∷ ts) h zero = tt
closing_keeps R (b ∷ bs) (t ∷ ts) h (suc k) = closing_keeps (λ j. R (suc j)) bs ts (λ j. h (suc j)) k

none_made : (R : ℕ → TensorFunction → Type 0) (headers : List Header) → AllMade R (map (λ h. None) headers)
none_made R [] k = tt
none_made R (h ∷ hs) zero = tt
none_made R (h ∷ hs) (suc k) = none_made (λ j. R (suc j)) hs k

module _ (w : Setting) where
  at_place : (tensor : ℕ) (f : TensorFunction) (o : Option (List ℕ)) (by : Reduce) (v : ℤ) → HasHeader w tensor f → HasHeader w tensor (updated_at f o by v)
  at_place tensor f None by v h = h
  at_place tensor f (Some cs) by v h = record { shape = h.shape; fill = h.fill }

  if_made : (tensor : ℕ) (o : Option TensorFunction) (at : List ℤ) (by : Reduce) (v : ℤ) → IfSome o (HasHeader w tensor) → IfSome (updated_if o at by v) (HasHeader w tensor)
  if_made tensor None at by v h = tt
  if_made tensor (Some f) at by v h = at_place tensor f (coordinates f.shape at) by v h

  steps_keep : StepsKeep w (λ s. HaveHeaders w s.made)
  steps_keep = record {
    ticks = λ s h. h;
    closes = λ before s h. closing_keeps (HasHeader w) (map is_some before) s.made h;
    declares = λ tensor s h. set_keeps (HasHeader w) s.made tensor _ h (record { shape = refl; fill = refl });
    updates = λ tensor at by v s h. set_keeps (HasHeader w) s.made tensor _ h (if_made tensor (made_at s.made tensor) at by v (h tensor));
  }

  pub have_headers : (c : Checked) → HaveHeaders w (whole w c).made
  have_headers c = run_all_keeps w (λ s. HaveHeaders w s.made) steps_keep c.program.body (unbound c.dims) (started c.program.headers) (none_made (HasHeader w) c.program.headers)

-- the shape of a header's tensor can be built in its format
pub shaped_at : (hs : List Header) (shapes : List (List ℕ)) (k : ℕ) (h : Header) → AreShaped hs shapes → slice_get hs k ≡ Some h → CanBuild h.format (slice_index_or shapes k [])
shaped_at [] shapes k h a e = cc
shaped_at (g ∷ hs) [] k h a e = absurd a
shaped_at (g ∷ hs) (s ∷ shapes) zero h a e = let same : g ≡ h = cc in subst (λ (x : Header). CanBuild x.format s) same a.0
shaped_at (g ∷ hs) (s ∷ shapes) (suc k) h a e = shaped_at hs shapes k h a.1 e

pub shaped : (w : Setting) (made : Made) (k : ℕ) (h : Header) (f : TensorFunction) → HaveHeaders w made → AreShaped w.headers w.dims.shapes → slice_get w.headers k ≡ Some h → Some f ≡ made_at made k → IsShape h.format.levels f.shape
shaped w made k h f all a e m =
    let has : HasHeader w k f = subst (λ (o : Option TensorFunction). IfSome o (HasHeader w k)) (sym m) (all k) in
    subst (IsShape h.format.levels) (sym has.shape) (shaped_at w.headers w.dims.shapes k h a e).shape_is
