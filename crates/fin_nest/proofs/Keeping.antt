-- What updates, freezes and charges leave as it was: all but one tensor.
use Rattle.std.proofs.Common.{◌≡◌, ◌≢◌, ℕ, ◌≤◌, Bool, true, false, List, length, Option, Some, None, if◌then◌else◌, refl, ap, ◌∙◌, ℤ, arith, get_or-set_other}
use Rattle.fin_base.specs.declared.reduce.Reduce.{Reduce}
use Rattle.fin_ir.specs.Frozen.{canon, is_large}
use Rattle.fin_ir.specs.Machine.{Machine, Tensor, nothing, building, stored, held, over as own_or, seen, Effect, refused, set_tensor, whole, charge, can_update, put, listed, changed_by, update_at, coordinates, cut_off, frozen_at, freeze}
use Rattle.fin_ir.specs.Machine as machine
use Rattle.fin_looplet.proofs.Exprs.{get}
use Rattle.fin_nest.specs.Performs.{Place, Left}
use Rattle.fin_nest.proofs.Changed.{paid}

pub record Keeps (t : ℕ) (m m' : Machine) : Type 0 where
  pub locals : m'.locals ≡ m.locals
  pub seen : (j : ℕ) → j ≢ t → seen m' j ≡ seen m j
  pub turns : m'.turns ≡ m.turns
  pub charges : m.charges ≤ m'.charges

pub keeps_same : (t : ℕ) (m : Machine) → Keeps t m m
keeps_same t m = record { locals = refl; seen = λ j n. refl; turns = refl; charges = omega arith }

pub keeps_then : (t : ℕ) (a b c : Machine) → Keeps t a b → Keeps t b c → Keeps t a c
keeps_then t a b c x y = record { locals = y.locals ∙ x.locals; seen = λ j n. y.seen j n ∙ x.seen j n; turns = y.turns ∙ x.turns; charges = omega (arith, x.charges, y.charges) }

pub either_keeps : (t : ℕ) (b : Bool) (m x y : Machine) → Keeps t m x → Keeps t m y → Keeps t m (if b then x else y)
either_keeps t true m x y p q = p
either_keeps t false m x y p q = q

keeps_refused : (t : ℕ) (m : Machine) → Keeps t m (refused m)
keeps_refused t m = record { locals = refl; seen = λ j n. refl; turns = refl; charges = omega arith }

pub keeps_set : (t : ℕ) (x : Tensor) (m : Machine) → Keeps t m (set_tensor t x m)
keeps_set t x m = record { locals = refl; seen = λ j n. ap (λ (y : Tensor). own_or y (held m.shared j)) (get_or-set_other m.tensors t j x nothing n); turns = refl; charges = omega arith }

keeps_listed : (t : ℕ) (e : Effect) (x : Tensor) (m : Machine) → Keeps t m (listed e x m)
keeps_listed t e nothing m = keeps_refused t m
keeps_listed t e (building b) m = record { locals = refl; seen = λ j n. refl; turns = refl; charges = omega arith }
keeps_listed t e (stored s) m = keeps_refused t m

keeps_changed : (e : Effect) (x : Tensor) (m : Machine) → Keeps e.tensor m (changed_by e x m)
keeps_changed e nothing m = keeps_listed e.tensor e (held m.shared e.tensor) m
keeps_changed e (building b) m =
    either_keeps e.tensor (can_update b e.at) m (set_tensor e.tensor (building (put e b)) m) (refused m) (keeps_set e.tensor (building (put e b)) m) (keeps_refused e.tensor m)
keeps_changed e (stored s) m = keeps_refused e.tensor m

keeps_at : (t : ℕ) (o : Option (List ℕ)) (by : Reduce) (v : ℤ) (m : Machine) → Keeps t m (update_at t o by v m)
keeps_at t None by v m = keeps_refused t m
keeps_at t (Some cs) by v m = keeps_changed (record { tensor = t; at = cs; by = by; value = v }) (held m.tensors t) m

pub keeps_update : (t : ℕ) (at : List ℤ) (by : Reduce) (v : ℤ) (m : Machine) → Keeps t m (machine.update t at by v m)
keeps_update t at by v m = either_keeps t m.cut m m (update_at t (coordinates at) by v m) (keeps_same t m) (keeps_at t (coordinates at) by v m)

pub keeps_charge : (t : ℕ) (v : ℤ) (m : Machine) → Keeps t m (charge v m)
keeps_charge t v m = either_keeps t m.cut m m (paid (whole v) m) (keeps_same t m) (record { locals = refl; seen = λ j n. refl; turns = refl; charges = omega arith })

-- ---- a freeze keeps other tensors and all locals
keeps_frozen : (t : ℕ) (x : Tensor) (m : Machine) → Keeps t m (frozen_at t x m)
keeps_frozen t nothing m = record { locals = refl; seen = λ j n. refl; turns = refl; charges = omega arith }
keeps_frozen t (building b) m =
    either_keeps t (is_large b) m (cut_off m) (set_tensor t (stored (canon b)) m) (record { locals = refl; seen = λ j n. refl; turns = refl; charges = omega arith }) (keeps_set t (stored (canon b)) m)
keeps_frozen t (stored s) m = record { locals = refl; seen = λ j n. refl; turns = refl; charges = omega arith }

pub keeps_freeze : (t : ℕ) (m : Machine) → Keeps t m (freeze t m)
keeps_freeze t m = either_keeps t m.cut m m (frozen_at t (held m.tensors t) m) (keeps_same t m) (keeps_frozen t (held m.tensors t) m)

-- what keeps all but one tensor leaves what a place asks for
pub keeps_left : (t : ℕ) (m m' : Machine) (p : Place) → p.steady t ≡ false → Keeps t m m' → Left m m' p
keeps_left t m m' p loose k = record {
  long = ap length k.locals;
  kept = λ c x lt free. ap (λ ls. get ls x) k.locals;
  steady = λ c j e. k.seen j (λ q. let f = ap p.steady q in cc);
}
