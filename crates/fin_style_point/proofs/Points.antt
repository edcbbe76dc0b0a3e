-- What the step of runs and lookups keeps.
use Rattle.std.proofs.Common.{◌≡◌, ℕ, ⊎_elim, Bool, pos, ap, if◌then◌else◌, arith}
use Rattle.fin_base.specs.declared.terms.Op.TheVariants as op
use Rattle.fin_ir.specs.declared.expression.IExpr.TheVariants.{Num, Local}
use Rattle.fin_ir.specs.declared.layout.Layout.{Layout}
use Rattle.fin_looplet.specs.Names.{Names}
use Rattle.fin_looplet.specs.Cut.{plus}
use Rattle.fin_looplet.specs.Lists.{AnyOwns}
use Rattle.fin_looplet.specs.Weight.{region}
use Rattle.fin_looplet.proofs.Exprs.{names_two, names_num, names_local, loads_two, loads_num, loads_local}
use Rattle.fin_looplet.proofs.Same.{same_self}
use Rattle.fin_nest.specs.Nests.{Nest, Sense, Kept, Separate}
use Rattle.fin_nest.specs.Laws.{Lawful}
use Rattle.fin_nest.proofs.Means.{unbound}
use Rattle.fin_style_point.specs.Steps.{AllFlat, point_nest}
use Rattle.fin_style_point.specs.Laws.{weight_in, PointsSplit}
use Rattle.fin_style_point.proofs.Flat.{held_owns, held_free, held_loads, held_nested, held_apart, held_weight}
use Rattle.fin_style_point.proofs.ForLoops.{for_means}

pub point_weight : {S : Type 0} (n : Nest S) → AllFlat n.reads → weight_in (point_nest n) ≡ 0
point_weight n flat =
    let lo = Local n.next in
    let one : region lo (plus lo (Num (pos 1))) ≡ 0 = ap (λ (b : Bool). if b then 0 else 1) (same_self (plus lo (Num (pos 1)))) in
    omega (arith, one, held_weight n.reads flat)

module _ {S : Type 0} (n : Nest S) (flat : AllFlat n.reads) (s : Separate n) where
  kept : (x : ℕ) → Kept n x → Kept (point_nest n) x
  kept x k = let b = k.below in record { below = omega (arith, b); no_var = k.no_var; no_own = held_owns x n.reads flat }

  -- an own local of the nest is one that the part depends on
  kept_own : (x : ℕ) → AnyOwns x n.reads → Kept (point_nest n) x
  kept_own x o = let b = s.own_below x o in record { below = omega (arith, b); no_var = s.own_free x o; no_own = held_owns x n.reads flat }

  kept_next : (x : ℕ) → x ≡ n.next → Kept (point_nest n) x
  kept_next x e = record {
    below = omega (arith, e);
    no_var = unbound (n.binds x) (λ h. let b = s.binds_below x h in omega (arith, b, e));
    no_own = held_owns x n.reads flat;
  }

  kept_lo : (x : ℕ) → Names x (Local n.next) → Kept (point_nest n) x
  kept_lo x h = kept_next x (names_local x n.next h)

  point_separate : Separate (point_nest n)
  point_separate = record {
    lo = kept_lo;
    hi = λ x h. ⊎_elim (kept_lo x) (λ k. absurd (names_num x (pos 1) k)) (names_two x op.Add (Local n.next) (Num (pos 1)) h);
    reads = λ x f. ⊎_elim (kept_own x) (λ g. kept x (s.reads x g)) (held_free x n.reads flat f);
    pins = λ x v h. kept x (s.pins x v h);
    lo_loads = λ t h. absurd (loads_local t n.next h);
    hi_loads = λ t h. absurd (⊎_elim (loads_local t n.next) (loads_num t (pos 1)) (loads_two t op.Add (Local n.next) (Num (pos 1)) h));
    loads = λ t h. s.loads t (held_loads t n.reads flat h);
    binds_var = s.binds_var;
    binds_below = λ x h. let b = s.binds_below x h in omega (arith, b);
    own_below = λ x o. absurd (held_owns x n.reads flat o);
    own_free = λ x o. absurd (held_owns x n.reads flat o);
    own = record {
      nested = held_nested n.reads flat;
      apart = held_apart n.reads flat;
      bound = λ x o f. held_owns x n.reads flat o;
      unshifted = λ x o f. held_owns x n.reads flat o;
    };
  }

pub points_split : {S : Type 0} (layout : Layout) (sense : Sense S) → Lawful sense → (n : Nest S) → PointsSplit layout sense n
points_split layout sense law n = record {
  means = λ apart on room flat flagless points c mean. for_means layout sense law n apart on room flat flagless points c mean;
  lighter = λ flat h. omega (arith, point_weight n flat, h);
  separate = λ flat s. point_separate n flat s;
}
