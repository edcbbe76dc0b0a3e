-- A part of a nest: what it keeps, and where it is separate still.
use Rattle.std.proofs.Common.{◌≡◌, ℕ, ◌<◌, ◌≤◌, ◌⊎◌, ⊎_elim, List, true, arith}
use Rattle.fin_ir.specs.declared.expression.IExpr.{IExpr}
use Rattle.fin_looplet.specs.declared.looplet.Looplet.{Looplet}
use Rattle.fin_looplet.specs.Names.{Names, Loads}
use Rattle.fin_looplet.specs.Lists.{AnyFree, AnyLoads, AnyOwns, AnyShiftNames, AllNested, AllApart}
use Rattle.fin_nest.specs.Nests.{Nest, Kept, Separate}
use Rattle.fin_nest.proofs.Means.{unbound}

-- the nest with other ends and looplets, and a later first free local
abbrev pub part_nest : {S : Type 0} → Nest S → IExpr → IExpr → ℕ → List Looplet → Nest S
part_nest n lo hi next reads = record n { lo = lo; hi = hi; next = next; reads = reads }

-- a local that the nest keeps, a new one, or one that is no looplet's own any more
abbrev pub Sees : {S : Type 0} → Nest S → ℕ → List Looplet → ℕ → Type 0
Sees n next reads x = Kept n x ⊎ (((n.next ≤ x) × (x < next)) ⊎ (AnyOwns x n.reads × (AnyOwns x reads → ⊥)))

pub record Narrows {S : Type 0} (n : Nest S) (lo hi : IExpr) (next : ℕ) (reads : List Looplet) : Type 0 where
  pub later : n.next ≤ next
  pub owns : (x : ℕ) → AnyOwns x reads → AnyOwns x n.reads
  pub lo_sees : (x : ℕ) → Names x lo → Sees n next reads x
  pub hi_sees : (x : ℕ) → Names x hi → Sees n next reads x
  pub free : (x : ℕ) → AnyFree x reads → Sees n next reads x
  pub lo_loads : (t : ℕ) → Loads t lo → n.steady t ≡ true
  pub hi_loads : (t : ℕ) → Loads t hi → n.steady t ≡ true
  pub loads : (t : ℕ) → AnyLoads t reads → n.steady t ≡ true
  pub shifts : (x : ℕ) → AnyShiftNames x reads → AnyShiftNames x n.reads
  pub nested : AllNested reads
  pub apart : AllApart reads

module _ {S : Type 0} (n : Nest S) (lo hi : IExpr) (next : ℕ) (reads : List Looplet) (s : Separate n) (later : n.next ≤ next) (owns : (x : ℕ) → AnyOwns x reads → AnyOwns x n.reads) where
  pub part_kept : (x : ℕ) → Kept n x → Kept (part_nest n lo hi next reads) x
  part_kept x k = let b = k.below in record { below = omega (arith, b, later); no_var = k.no_var; no_own = λ o. k.no_own (owns x o) }

  pub new_kept : (x : ℕ) → n.next ≤ x → x < next → Kept (part_nest n lo hi next reads) x
  new_kept x a b = record {
    below = b;
    no_var = unbound (n.binds x) (λ e. let w = s.binds_below x e in omega (arith, a, w));
    no_own = λ o. let w = s.own_below x (owns x o) in omega (arith, a, w);
  }

  sees_kept : (x : ℕ) → Sees n next reads x → Kept (part_nest n lo hi next reads) x
  sees_kept x v = ⊎_elim
      (λ k. part_kept x k)
      (λ w. ⊎_elim
      (λ k. new_kept x k.0 k.1)
      (λ k. let b = s.own_below x k.0 in record { below = omega (arith, b, later); no_var = s.own_free x k.0; no_own = k.1 }) w) v

pub separate_part : {S : Type 0} (n : Nest S) (lo hi : IExpr) (next : ℕ) (reads : List Looplet) → Narrows n lo hi next reads → Separate n → Separate (part_nest n lo hi next reads)
separate_part n lo hi next reads w s =
    let later = w.later in
    let sees = sees_kept n lo hi next reads s later w.owns in
    record {
      lo = λ x h. sees x (w.lo_sees x h);
      hi = λ x h. sees x (w.hi_sees x h);
      reads = λ x h. sees x (w.free x h);
      pins = λ x v h. part_kept n lo hi next reads s later w.owns x (s.pins x v h);
      lo_loads = w.lo_loads;
      hi_loads = w.hi_loads;
      loads = w.loads;
      binds_var = s.binds_var;
      binds_below = λ x h. let b = s.binds_below x h in omega (arith, b, later);
      own_below = λ x h. let b = s.own_below x (w.owns x h) in omega (arith, b, later);
      own_free = λ x h. s.own_free x (w.owns x h);
      own = record {
        nested = w.nested;
        apart = w.apart;
        bound = λ x o f. (sees x (w.free x f)).no_own o;
        unshifted = λ x o h. s.own.unshifted x (w.owns x o) (w.shifts x h);
      };
    }
