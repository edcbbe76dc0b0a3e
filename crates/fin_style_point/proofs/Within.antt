-- A nest with other looplets: where it is separate still, and where it fits.
use Rattle.std.proofs.Common.{◌≡◌, ℕ, ◌≤◌, List, true, arith}
use Rattle.fin_ir.specs.declared.layout.Layout.{Layout}
use Rattle.fin_ir.specs.Machine.{Machine}
use Rattle.fin_looplet.specs.declared.looplet.Looplet.{Looplet}
use Rattle.fin_looplet.specs.View.{Store, value}
use Rattle.fin_looplet.specs.Lists.{AnyFree, AnyLoads, AnyOwns, AnyShiftNames, AllNested, AllApart}
use Rattle.fin_nest.specs.Nests.{Nest, Kept, Separate, AllSoundIn, Fits}

-- the looplets own and depend on no more than the nest's
pub record Within {S : Type 0} (n : Nest S) (rs : List Looplet) : Type 0 where
  pub owns : (x : ℕ) → AnyOwns x rs → AnyOwns x n.reads
  pub free : (x : ℕ) → AnyFree x rs → Kept n x
  pub loads : (t : ℕ) → AnyLoads t rs → n.steady t ≡ true
  pub shifts : (x : ℕ) → AnyShiftNames x rs → AnyShiftNames x n.reads
  pub nested : AllNested rs
  pub apart : AllApart rs

-- what the nest keeps, one with such looplets and a later first free local keeps
pub kept_within : {S : Type 0} (n : Nest S) (rs : List Looplet) → Within n rs → (next : ℕ) → n.next ≤ next → (x : ℕ) → Kept n x → Kept (record n { next = next; reads = rs }) x
kept_within n rs w next le x k = let b = k.below in record { below = omega (arith, b, le); no_var = k.no_var; no_own = λ o. k.no_own (w.owns x o) }

pub separate_within : {S : Type 0} (n : Nest S) (rs : List Looplet) → Within n rs → (next : ℕ) → n.next ≤ next → Separate n → Separate (record n { next = next; reads = rs })
separate_within n rs w next le s = record {
  lo = λ x h. kept_within n rs w next le x (s.lo x h);
  hi = λ x h. kept_within n rs w next le x (s.hi x h);
  reads = λ x h. kept_within n rs w next le x (w.free x h);
  pins = λ x v h. kept_within n rs w next le x (s.pins x v h);
  lo_loads = s.lo_loads;
  hi_loads = s.hi_loads;
  loads = w.loads;
  binds_var = s.binds_var;
  binds_below = λ x h. let b = s.binds_below x h in omega (arith, b, le);
  own_below = λ x h. let b = s.own_below x (w.owns x h) in omega (arith, b, le);
  own_free = λ x h. s.own_free x (w.owns x h);
  own = record {
    nested = w.nested;
    apart = w.apart;
    bound = λ x o f. (w.free x f).no_own (w.owns x o);
    unshifted = λ x o h. s.own.unshifted x (w.owns x o) (w.shifts x h);
  };
}

pub fits_within : {S : Type 0} (layout : Layout) (ts : Store) (m : Machine) (n : Nest S) (rs : List Looplet) → Fits layout ts m n → AllSoundIn ts m.locals rs (value ts m.locals n.lo) (value ts m.locals n.hi) → Fits layout ts m (record n { reads = rs })
fits_within layout ts m n rs f sound = record { live = f.live; locals = f.locals; steady = f.steady; pinned = f.pinned; bounds = f.bounds; sound = sound }
