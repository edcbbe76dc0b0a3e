-- The nest of a loop as its entry makes it keeps out of what is around the loop.
use Rattle.std.proofs.Common.{◌≡◌, ◌⊎◌, inl, inr, ℕ, ◌+◌, ◌<◌, ◌≤◌, ℤ, Bool, true, false, not, ◌&&◌, List, [], ◌∷◌, length, refl, sym, ap, ◌∙◌, subst, arith}
use Rattle.std.specs.Prelude.{nat_le, nat_lt, nat_eq, ◌||◌, ◌==◌}
use Rattle.std.proofs.lemmas.Bool.{ltb-true, leb-true, lt-ltb, le-leb}
use Rattle.std.proofs.lemmas.Bool.Decides.{nat_tests}
use Rattle.fin_ast.specs.Bindings.{counts_from}
use Rattle.fin_ast.specs.Scope.{is_among}
use Rattle.fin_ir.specs.declared.expression.IExpr.{IExpr}
use Rattle.fin_ir.specs.declared.expression.IExpr.TheVariants.{Num, Local}
use Rattle.fin_looplet.specs.Names.{Names, Loads}
use Rattle.fin_looplet.specs.Lists.{AnyFree}
use Rattle.fin_looplet.proofs.Exprs.{names_num, names_local, loads_num, loads_local}
use Rattle.fin_stage.proofs.Alive.{left, right}
use Rattle.fin_drive.specs.Separation.{KeepApart}
use Rattle.fin_style_point.specs.declared.nest.Nest.{Nest}
use Rattle.fin_enter.specs.Masked.{tested_among}
use Rattle.fin_enter.specs.LoopEntry.{bounds_by}
use Rattle.fin_enter.proofs.Together.{places_grow}
use Rattle.fin_enter.proofs.Masked.{bounds_grow}
use Rattle.fin_enter.proofs.Entering.{cursors_grow}
use Rattle.fin_loops.specs.Loops.{Loop, bound_in, rest_entered, changed_in}
use Rattle.fin_loops.specs.Keeping.{IsOuter, KeepsOut}
use Rattle.fin_loops.specs.Tops.{around_of, looplets_from, own_first, own_end, own_from, AreEnds, IsTop, IsNumbered, NamesOnce, TopsKeepOut}
use Rattle.fin_enter.proofs.LowBounds.{Below, all_bounds}
use Rattle.fin_loops.proofs.TopsLooplets.{AllKeep, all_keep}

-- ---- which locals are owned

owned : (first end y : ℕ) → own_from first end y ≡ true → (first ≤ y) × (y < end)
owned first end y e = (leb-true first y (left (nat_le first y) (nat_lt y end) e), ltb-true y end (right (nat_le first y) (nat_lt y end) e))

is_owned : (first end y : ℕ) → first ≤ y → y < end → own_from first end y ≡ true
is_owned first end y low high = ap (λ (b : Bool). b && nat_lt y end) (le-leb first y low) ∙ lt-ltb y end high

not_owned : (first end y : ℕ) → ((first ≤ y) → (y < end) → ⊥) → own_from first end y ≡ false
not_owned first end y never = by_test (own_from first end y) refl where
  by_test : (b : Bool) → own_from first end y ≡ b → own_from first end y ≡ false
  by_test true e = let o = owned first end y e in absurd (never o.0 o.1)
  by_test false e = e

-- ---- which locals are bound

among_counted : (n : ℕ) (vs : List ℕ) → counts_from n vs ≡ true → (x : ℕ) → is_among vs x ≡ true → (n ≤ x) × (x < n + length vs)
among_counted n [] c x e = cc
among_counted n (v ∷ vs) c x e = elim (nat_eq x v) as (λ b. nat_eq x v ≡ b → (b || is_among vs x) ≡ true → (n ≤ x) × (x < n + length (v ∷ vs))) [
  | true ↦ (λ t f.
      let same : x ≡ v = grind (arith, nat_tests) in
      let test : (v == n) ≡ true = left (v == n) (counts_from (n + 1) vs) c in
      let is : v ≡ n = grind (arith, nat_tests) in
      (omega (arith, same, is), omega (arith, same, is)))
  | false ↦ (λ t f.
      let q = among_counted (n + 1) vs (right (v == n) (counts_from (n + 1) vs) c) x f in
      (omega (arith, q.0), omega (arith, q.1)))
] refl e

module _ (l : Loop) (next : ℕ) (numbered : IsNumbered l next) where
  not_bound : (y : ℕ) → (y < l.var) ⊎ (next ≤ y) → is_among (bound_in l) y ≡ false
  not_bound y h = by_test (is_among (bound_in l) y) refl h where
    by_test : (b : Bool) → is_among (bound_in l) y ≡ b → (y < l.var) ⊎ (next ≤ y) → is_among (bound_in l) y ≡ false
    by_test false e k = e
    by_test true e (inl k) = let q = (among_counted l.var (bound_in l) numbered.counts y e).0 in absurd (omega (arith, q, k))
    by_test true e (inr k) =
        let q = (among_counted l.var (bound_in l) numbered.counts y e).1 in
        let bound = numbered.bound in
        let free = numbered.free in
        absurd (omega (arith, q, k, bound, free))

  var_low : l.var < next
  var_low = let bound = numbered.bound in let free = numbered.free in omega (arith, bound, free)

  module _ (once : NamesOnce l) (top : Nest) (is : IsTop l next top) where
    abbrev first : ℕ
    first = own_first l next

    abbrev end : ℕ
    end = own_end l next

    abbrev bounds : ℕ
    bounds = bounds_by (around_of l) (rest_entered l).reads next

    bounds_low : next < bounds
    bounds_low = let more = places_grow (around_of l) (rest_entered l).reads next in omega (arith, more)

    first_low : bounds < first
    first_low = let more = bounds_grow (around_of l).heads (tested_among l.var (rest_entered l).tests) bounds in omega (arith, more)

    end_low : first ≤ end
    end_low = cursors_grow (around_of l) (rest_entered l).reads first

    room : end ≤ top.next
    room = is.room

    keep : AllKeep l.var next first (λ t. not (changed_in l t)) first end (looplets_from l next)
    keep =
        all_keep (around_of l) next first (rest_entered l).reads (tested_among l.var (rest_entered l).tests) next bounds first once (all_bounds l.var (rest_entered l).tests)
        (omega arith) (omega arith) (omega (arith, bounds_low)) (omega arith)

    outer : (y : ℕ) → Below l.var next first y → IsOuter l top (own_from first end) y
    outer y (inl k) =
        (omega (arith, k, var_low, bounds_low, first_low, end_low, room), not_bound y (inl k), not_owned first end y (λ a b. omega (arith, a, k, var_low, bounds_low, first_low)))
    outer y (inr k) =
        let low = k.0 in
        let high = k.1 in
        (omega (arith, high, end_low, room), not_bound y (inr low), not_owned first end y (λ a b. omega (arith, a, high)))

    behind : (y : ℕ) → end ≤ y → y < top.next → IsOuter l top (own_from first end) y
    behind y low high = (high, not_bound y (inr (omega (arith, low, bounds_low, first_low, end_low))), not_owned first end y (λ a b. omega (arith, b, low)))

    -- ---- its ends

    record IsEnd (e : IExpr) : Type 0 where
      names : (y : ℕ) → Names y e → IsOuter l top (own_from first end) y
      loads : (t : ℕ) → Loads t e → ⊥

    number_end : (z : ℤ) → IsEnd (Num z)
    number_end z = record { names = λ y n. absurd (names_num y z n); loads = λ t n. loads_num t z n }

    local_end : (x : ℕ) → end ≤ x → x < top.next → IsEnd (Local x)
    local_end x low high = record {
      names = λ y n. subst (IsOuter l top (own_from first end)) (sym (names_local y x n)) (behind x low high);
      loads = λ t n. loads_local t x n;
    }

    both_ends : AreEnds end top.next top.lo top.hi → IsEnd top.lo × IsEnd top.hi
    both_ends (inl (a, b, lo, hi)) = (subst IsEnd (sym lo) (number_end a), subst IsEnd (sym hi) (number_end b))
    both_ends (inr (y, low, high, lo, hi)) =
        (subst IsEnd (sym lo) (local_end y low (omega (arith, high))), subst IsEnd (sym hi) (local_end (y + 1) (omega (arith, low)) (omega (arith, high))))

    -- ---- all of it

    apart : KeepApart (record { own = own_from first end; steady = λ t. not (changed_in l t) }) (looplets_from l next)
    apart = record {
      separate = record {
        nested = keep.nested;
        apart = keep.apart;
        bound = λ x h k. let o = (keep.owns x h) in let u = (outer x (keep.depends x k)).2 in let w = is_owned first end x o.0 o.1 in cc;
        unshifted = λ x h k. let o = (keep.owns x h) in let u = (outer x (keep.shifts x k)).2 in let w = is_owned first end x o.0 o.1 in cc;
      };
      owns = λ x h. let o = (keep.owns x h) in is_owned first end x o.0 o.1;
      depends = λ x h. (outer x (keep.depends x h)).2;
      loads = keep.loads;
    }

    out : KeepsOut l next top (own_from first end)
    out = let ends = both_ends is.ends in record {
      var = is.var;
      low = omega (arith, bounds_low, first_low, end_low, room);
      looplets = subst (KeepApart (record { own = own_from first end; steady = λ t. not (changed_in l t) })) (sym is.looplets) apart;
      owned = λ y o. let k = owned first end y o in (omega (arith, k.0, bounds_low, first_low), omega (arith, k.1, room));
      lo = ends.0.names;
      hi = ends.1.names;
      free = λ y f. outer y (keep.depends y (subst (AnyFree y) is.looplets f));
      lo_loads = ends.0.loads;
      hi_loads = ends.1.loads;
    }

pub tops_keep_out : TopsKeepOut
tops_keep_out l next top numbered once is = out l next numbered once top is
