-- The codes of a loop's entry and its nest are named where the names of the loop are good.
use Rattle.std.proofs.Common.{◌≡◌, ℕ, ◌+◌, ◌-◌, ◌<◌, ◌≤◌, ◌⊎◌, inl, inr, ⊎_elim, Bool, true, false, List, [], ◌∷◌, refl, sym, ◌∙◌, subst, arith}
use Rattle.std.specs.Prelude.{nat_eq, ◌||◌}
use Rattle.std.proofs.lemmas.Bool.{or_cases, or_left, or_right}
use Rattle.std.proofs.lemmas.Bool.Decides.{nat_tests}
use Rattle.std.proofs.lemmas.List.{length-map}
use Rattle.fin_ast.specs.declared.header.Header.{Header}
use Rattle.fin_ast.specs.Scope.{Scope, is_among, within_loop}
use Rattle.fin_ir.specs.declared.expression.IExpr.{IExpr}
use Rattle.fin_ir.specs.declared.layout.Layout.{Layout}
use Rattle.fin_ir.specs.Named.{is_named_in}
use Rattle.fin_read.specs.Means.{IsWithin}
use Rattle.fin_read.proofs.Naming.{local_below, num, local}
use Rattle.fin_simp.specs.Work.{chunk_count}
use Rattle.fin_style_point.specs.declared.nest.Nest.{Nest}
use Rattle.fin_perform.specs.Layouts.{variables_in, layout_with}
use Rattle.fin_perform.specs.Naming.{AllBelow, AreIn}
use Rattle.fin_enter.specs.LoopEntry.{bounds_by}
use Rattle.fin_enter.specs.Masked.{tested_among}
use Rattle.fin_enter.specs.NamedLooplets.{AllNamedLooplets}
use Rattle.fin_enter.specs.Naming.{CanName}
use Rattle.fin_enter.proofs.Entering.{cursors_grow}
use Rattle.fin_enter.proofs.Masked.{bounds_grow}
use Rattle.fin_enter.proofs.Naming.{entries_are_named}
use Rattle.fin_enter.proofs.Together.{places_grow}
use Rattle.fin_loops.specs.Loops.{Loop, bound_in, inner, rest_entered}
use Rattle.fin_loops.specs.Naming.{IsNamedLoop, IsNamedTop, TopsAreNamed}
use Rattle.fin_loops.specs.Parallel.{range_in}
use Rattle.fin_loops.specs.Sourced.{entry_code_of}
use Rattle.fin_loops.specs.Tops.{around_of, looplets_from, own_first, own_end, AreEnds, IsTop}
use Rattle.fin_loops.proofs.Enclosing.{enclosing, has_own, has_inner, all_loops}
use Rattle.fin_loops.proofs.Entries.{all_bound}
use Rattle.fin_loops.proofs.Named.{accesses_named, tests_named}

below_among : (n : ℕ) (vs : List ℕ) → AllBelow n vs → (x : ℕ) → is_among vs x ≡ true → x < n
below_among n [] all x e = cc
below_among n (v ∷ vs) all x e = elim (nat_eq x v) as (λ b. nat_eq x v ≡ b → (b || is_among vs x) ≡ true → x < n) [
  | true ↦ (λ t h. let same : x ≡ v = grind (arith, nat_tests) in let lt = all.0 in omega (arith, same, lt))
  | false ↦ (λ t h. below_among n vs all.1 x h)
] refl e

module _ (l : Loop) (sc : Scope) (next room : ℕ) (good : IsNamedLoop l sc next) (le : own_end l next ≤ room) where
  abbrev layout : Layout
  layout = layout_with l.checked room

  within : IsWithin (enclosing l sc) (variables_in l.checked)
  within x e = ⊎_elim
      (λ among. ⊎_elim (λ own. below_among (variables_in l.checked) (bound_in l) good.bound x own) (λ outer. good.scope.within x (or_left (is_among sc.loops x) (is_among sc.lets x) outer))
      (or_cases (is_among (bound_in l) x) (is_among sc.loops x) (sym (has_own l sc x) ∙ among)))
      (λ among. good.scope.within x (or_right (is_among sc.loops x) (is_among sc.lets x) among))
      (or_cases (is_among (enclosing l sc).loops x) (is_among sc.lets x) e)

  can : CanName layout (around_of l) (enclosing l sc) (rest_entered l) next
  can = record {
    headers = good.scope.headers;
    tensors = omega (arith, length-map l.checked.program.headers (λ (x : Header). x.format));
    count = variables_in l.checked;
    within = within;
    after = good.scope.after;
    reads = accesses_named (enclosing l sc) (within_loop sc l.var) (has_inner l sc) l.body (all_loops l sc) good.named l.here (inner l);
    tests = all_bound (enclosing l sc) l.var (rest_entered l).tests (tests_named (enclosing l sc) (within_loop sc l.var) (has_inner l sc) l.body (all_loops l sc) good.named l.here (inner l));
    room = le;
  }

  codes : (par : Bool) → AreIn l.checked room (entry_code_of l par next)
  codes par = (entries_are_named layout (around_of l) (enclosing l sc) (rest_entered l) (chunk_count par ((range_in l).1 - (range_in l).0)) next can).0

  looplets : AllNamedLooplets layout (looplets_from l next)
  looplets = (entries_are_named layout (around_of l) (enclosing l sc) (rest_entered l) 0 next can).1

  -- ---- the nest

  end_low : next < own_end l next
  end_low =
      let bounds : ℕ = bounds_by (around_of l) (rest_entered l).reads next in
      let a = places_grow (around_of l) (rest_entered l).reads next in
      let b = bounds_grow (around_of l).heads (tested_among l.var (rest_entered l).tests) bounds in
      let c = cursors_grow (around_of l) (rest_entered l).reads (own_first l next) in
      omega (arith, a, b, c)

  var_low : l.var < room
  var_low = let own = good.bound.0 in let after = good.scope.after in omega (arith, own, after, end_low, le)

  ends : (end behind : ℕ) (lo hi : IExpr) → behind ≤ room → AreEnds end behind lo hi → (is_named_in layout lo ≡ true) × (is_named_in layout hi ≡ true)
  ends end behind lo hi fits (inl (a, b, lo_is, hi_is)) =
      (subst (λ (e : IExpr). is_named_in layout e ≡ true) (sym lo_is) (num layout a), subst (λ (e : IExpr). is_named_in layout e ≡ true) (sym hi_is) (num layout b))
  ends end behind lo hi fits (inr (y, low, high, lo_is, hi_is)) = (
    subst (λ (e : IExpr). is_named_in layout e ≡ true) (sym lo_is) (local layout y (local_below layout y (omega (arith, high, fits)))),
    subst (λ (e : IExpr). is_named_in layout e ≡ true) (sym hi_is) (local layout (y + 1) (local_below layout (y + 1) (omega (arith, high, fits)))),
  )

  nest : (top : Nest) → IsTop l next top → top.next ≤ room → IsNamedTop layout top
  nest top is fits =
      let both = ends (own_end l next) top.next top.lo top.hi fits is.ends in
      record {
        var = local_below layout top.var (let same = is.var in omega (arith, same, var_low));
        lo = both.0;
        hi = both.1;
        looplets = subst (AllNamedLooplets layout) (sym is.looplets) looplets;
      }

pub tops_are_named : TopsAreNamed
tops_are_named l sc next room good le = record { codes = codes l sc next room good le; looplets = looplets l sc next room good le; nest = nest l sc next room good le }
