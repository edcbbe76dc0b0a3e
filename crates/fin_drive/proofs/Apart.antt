-- The locals and tensors of the looplet of a driven read.
use Rattle.std.proofs.Common.{◌≡◌, ◌⊎◌, ⊎_elim, inl, inr, ℕ, ◌+◌, ℤ, pos, Bool, true, false, Some, None, refl, sym, subst}
use Rattle.fin_tensor.specs.declared.format.Format.{Format}
use Rattle.fin_ir.specs.declared.expression.IExpr.{IExpr}
use Rattle.fin_ir.specs.declared.expression.IExpr.TheVariants.{Num}
use Rattle.fin_looplet.specs.declared.looplet.Looplet.{Looplet}
use Rattle.fin_looplet.specs.Names.{Names, Loads}
use Rattle.fin_looplet.specs.Locals.{Free, LoadsIn, Owns, ShiftNames, Nested}
use Rattle.fin_looplet.proofs.Exprs.{names_num, loads_num}
use Rattle.fin_unfurl.specs.Fibres.{Asked}
use Rattle.fin_unfurl.proofs.Means.{made_owns, made_depends}
use Rattle.fin_unfurl.proofs.Moving.{shift_owns, shift_free}
use Rattle.fin_unfurl.proofs.Separation.{unfurl_nested, unfurl_shifts, unfurl_loads, shift_nested, shift_shifts, shift_loads}
use Rattle.fin_drive.specs.declared.reading.Reading.{Reading}
use Rattle.fin_drive.specs.declared.reading.Spot.{Spot}
use Rattle.fin_drive.specs.Looplets.{fibre_at, placed, driven_looplet}
use Rattle.fin_drive.specs.Standing.{asked_by, OwnsTwo, DependsOnSpot, IsApartInside, LoadsFrom}
use Rattle.fin_drive.proofs.Fibres.{fibre_by}
use Rattle.fin_drive.proofs.Along.{Kinds, kinds}

module _ (a : Asked) (x : ℕ) where
  fibre_owns : (s : Bool) → Owns x (fibre_by a s (a.cursor + 1)) → (x ≡ a.cursor) ⊎ (x ≡ a.cursor + 1)
  fibre_owns true o = made_owns a x o
  fibre_owns false o = inr o

  fibre_free : (s : Bool) → Free x (fibre_by a s (a.cursor + 1)) → Names x a.place ⊎ Names x a.there
  fibre_free true f = made_depends a x f
  fibre_free false f = absurd (⊎_elim (λ (h : Names x (Num (pos 0))). names_num x (pos 0) h) (λ (h : Names x (Num (pos 1))). names_num x (pos 1) h) f.1)

module _ (a : Asked) where
  fibre_nested : (s : Bool) → Nested (fibre_by a s (a.cursor + 1))
  fibre_nested true = unfurl_nested a
  fibre_nested false = tt

  fibre_shifts : (s : Bool) (x : ℕ) → ShiftNames x (fibre_by a s (a.cursor + 1)) → ⊥
  fibre_shifts true x h = unfurl_shifts a x h
  fibre_shifts false x h = h

  fibre_loads : (s : Bool) (t : ℕ) → LoadsIn t (fibre_by a s (a.cursor + 1)) → ((s ≡ true) × (t ≡ a.tensor)) ⊎ (Loads t a.place ⊎ Loads t a.there)
  fibre_loads true t h = ⊎_elim (λ (k : t ≡ a.tensor). inl (refl, k)) (λ (k : Loads t a.place ⊎ Loads t a.there). inr k) (unfurl_loads a t h)
  fibre_loads false t h = absurd (⊎_elim (λ (k : Loads t (Num (pos 0))). loads_num t (pos 0) k) (λ (k : Loads t (Num (pos 1))). loads_num t (pos 1) k) h)

module _ (r : Reading) (fill : ℤ) (child : Looplet) (by : IExpr) where
  kind_nested : (l : Looplet) → Kinds r fill child by l → Nested child → Nested l
  kind_nested l (inl q) h = subst Nested (sym q.0) h
  kind_nested l (inr (inl q)) h = subst Nested (sym q.0) (shift_nested child by (Some (r.extent, fill)) h)
  kind_nested l (inr (inr q)) h = subst Nested (sym q.0) (shift_nested child by None h)

  kind_shifts : (l : Looplet) → Kinds r fill child by l → (x : ℕ) → ShiftNames x l → Names x by ⊎ ShiftNames x child
  kind_shifts l (inl q) x h = inr (subst (ShiftNames x) q.0 h)
  kind_shifts l (inr (inl q)) x h = shift_shifts child by (Some (r.extent, fill)) x (subst (ShiftNames x) q.0 h)
  kind_shifts l (inr (inr q)) x h = shift_shifts child by None x (subst (ShiftNames x) q.0 h)

  kind_loads : (l : Looplet) → Kinds r fill child by l → (t : ℕ) → LoadsIn t l → Loads t by ⊎ LoadsIn t child
  kind_loads l (inl q) t h = inr (subst (LoadsIn t) q.0 h)
  kind_loads l (inr (inl q)) t h = shift_loads child by (Some (r.extent, fill)) t (subst (LoadsIn t) q.0 h)
  kind_loads l (inr (inr q)) t h = shift_loads child by None t (subst (LoadsIn t) q.0 h)

module _ (r : Reading) (fill : ℤ) (child : Looplet) (by : IExpr) (x : ℕ) where
  kind_owns : (l : Looplet) → Kinds r fill child by l → Owns x l → Owns x child
  kind_owns l (inl q) o = subst (Owns x) q.0 o
  kind_owns l (inr (inl q)) o = shift_owns child by (Some (r.extent, fill)) x (subst (Owns x) q.0 o)
  kind_owns l (inr (inr q)) o = shift_owns child by None x (subst (Owns x) q.0 o)

  kind_free : (l : Looplet) → Kinds r fill child by l → Free x l → Names x by ⊎ Free x child
  kind_free l (inl q) f = inr (subst (Free x) q.0 f)
  kind_free l (inr (inl q)) f = shift_free child by (Some (r.extent, fill)) x (subst (Free x) q.0 f)
  kind_free l (inr (inr q)) f = shift_free child by None x (subst (Free x) q.0 f)

module _ (format : Format) (r : Reading) (spot : Spot) where
  pub driven_owns : OwnsTwo r (driven_looplet format r spot)
  driven_owns x o =
      let child = fibre_at format r spot.place spot.there in
      fibre_owns (asked_by format r spot) x r.settled (kind_owns r format.fill child spot.by x (placed r format.fill child spot.by) (kinds r format.fill child spot.by) o)

  pub driven_depends : DependsOnSpot spot (driven_looplet format r spot)
  driven_depends x f =
      let child = fibre_at format r spot.place spot.there in
      ⊎_elim
      (λ (h : Names x spot.by). inr h)
      (λ (h : Free x child). inl (fibre_free (asked_by format r spot) x r.settled h))
      (kind_free r format.fill child spot.by x (placed r format.fill child spot.by) (kinds r format.fill child spot.by) f)

  pub driven_apart : IsApartInside spot (driven_looplet format r spot)
  driven_apart =
      let child = fibre_at format r spot.place spot.there in
      let asked = asked_by format r spot in
      record {
        nested = kind_nested r format.fill child spot.by (placed r format.fill child spot.by) (kinds r format.fill child spot.by) (fibre_nested asked r.settled);
        shifts = λ x h. ⊎_elim (λ (k : Names x spot.by). k) (λ (k : ShiftNames x child). absurd (fibre_shifts asked r.settled x k))
            (kind_shifts r format.fill child spot.by (placed r format.fill child spot.by) (kinds r format.fill child spot.by) x h);
      }

  pub driven_loads : LoadsFrom r spot (driven_looplet format r spot)
  driven_loads t h =
      let child = fibre_at format r spot.place spot.there in
      ⊎_elim
      (λ (k : Loads t spot.by). inr (inr k))
      (λ (k : LoadsIn t child).
      ⊎_elim (λ (q : (r.settled ≡ true) × (t ≡ r.tensor)). inl q) (λ (q : Loads t spot.place ⊎ Loads t spot.there). inr (inl q)) (fibre_loads (asked_by format r spot) r.settled t k))
      (kind_loads r format.fill child spot.by (placed r format.fill child spot.by) (kinds r format.fill child spot.by) t h)
