-- An update comes to the same whatever number a variable has that it doesn't name, and its names are good without it.
use Rattle.std.proofs.Common.{◌≡◌, ◌≢◌, ℕ, Bool, true, false, ◌&&◌, List, [], ◌∷◌, map, length, Option, Some, None, refl, sym, ap, ◌∙◌, subst, ℤ, pos, ◌+ℤ◌, arith}
use Rattle.std.specs.Prelude.{nat_eq, ◌||◌, ◌==◌, slice_set, slice_get}
use Rattle.std.specs.List.{list_all, list_any}
use Rattle.std.proofs.lemmas.Bool.{or_parts}
use Rattle.std.proofs.lemmas.Bool.Decides.{nat_tests}
use Rattle.std.proofs.lemmas.List.{get_or-set_other}
use Rattle.fin_base.specs.Words.{operate, negated}
use Rattle.fin_ast.specs.declared.header.Header.{Header}
use Rattle.fin_ast.specs.declared.tree.Index.{Index}
use Rattle.fin_ast.specs.declared.tree.Expr.{Expr}
use Rattle.fin_ast.specs.declared.tree.Expr.TheVariants as e
use Rattle.fin_ast.specs.Scope.{Scope, is_among, is_bound, is_loop, is_index, is_access, is_named_expr, differ, holds_of, within_loop, within_let}
use Rattle.fin_ast.specs.Value.{Numbers, Tensors, number, number_if, place, read, value_of}
use Rattle.fin_ast.proofs.Nodes.{of_num, of_var, of_read, of_neg, of_two}
use Rattle.fin_ast.proofs.Values.{value_num, value_var, value_read, value_neg, value_two}
use Rattle.fin_stage.specs.Staged.{Run, is_small, is_small_index, are_small, indices_step, has_small_indices, tensors_of, can_read, asked_to_read, asked_for_small, update}
use Rattle.fin_stage.proofs.Alive.{left, right}
use Rattle.fin_read.proofs.ByKind.{Kinds, by_kind}
use Rattle.fin_read.proofs.Equations.{named_var, named_read, named_neg, named_two, small_read, small_neg, small_two}
use Rattle.fin_descend.proofs.Sparing.{and_both}
use Rattle.fin_simp.specs.Work.{World, names_var}
use Rattle.fin_loops.specs.Only.{Written, put_by, is_named_update, names_step, names_in, update_names}

-- ---- the names of an expression, node by node

module _ (var : ℕ) where
  names_name : (x line : ℕ) → names_in var (e.Var x line) ≡ nat_eq x var
  names_name x line = of_var Bool (names_step var) x line

  names_read : (tensor : ℕ) (at : List Index) (line : ℕ) → names_in var (e.Read tensor at line) ≡ list_any (names_var var) at
  names_read tensor at line = of_read Bool (names_step var) tensor at line

  names_neg : (x : Expr) → names_in var (e.Neg x) ≡ names_in var x
  names_neg x = of_neg Bool (names_step var) x

  names_two : (op : _) (x y : Expr) → names_in var (e.Two op x y) ≡ (names_in var x || names_in var y)
  names_two op x y = of_two Bool (names_step var) op x y

  -- one of the two variables of an index
  abbrev is_it : Option ℕ → Bool
  is_it o = elim o as (λ _. Bool) [ None ↦ false | Some y ↦ nat_eq y var ]

  first_other : (i : Index) → names_var var i ≡ false → is_it i.first ≡ false
  first_other i e = (or_parts (is_it i.first) (is_it i.second || false) e).0

  second_other : (i : Index) → names_var var i ≡ false → is_it i.second ≡ false
  second_other i e = (or_parts (is_it i.second) false (or_parts (is_it i.first) (is_it i.second || false) e).1).0

-- ---- the same with another number

module _ (var : ℕ) (n : ℤ) (vars : Numbers) where
  abbrev others : Numbers
  others = slice_set vars var n

  number_same : (x : ℕ) → nat_eq x var ≡ false → number (slice_set vars var n) x ≡ number vars x
  number_same x e = let apart : x ≢ var = λ eq. absurd (grind (arith, nat_tests)) in get_or-set_other vars var x n (pos 0) apart

  if_same : (o : Option ℕ) → is_it var o ≡ false → number_if (slice_set vars var n) o ≡ number_if vars o
  if_same None e = refl
  if_same (Some x) e = number_same x e

  place_same : (i : Index) → names_var var i ≡ false → place (slice_set vars var n) i ≡ place vars i
  place_same i e =
      ap (λ (z : ℤ). (z +ℤ number_if others i.second) +ℤ i.offset) (if_same i.first (first_other var i e))
      ∙ ap (λ (z : ℤ). (number_if vars i.first +ℤ z) +ℤ i.offset) (if_same i.second (second_other var i e))

  index_same : (i : Index) → names_var var i ≡ false → is_small_index (slice_set vars var n) i ≡ is_small_index vars i
  index_same i e =
      ap (λ (z : ℤ). is_small z && is_small (number_if others i.second) && is_small i.offset) (if_same i.first (first_other var i e))
      ∙ ap (λ (z : ℤ). is_small (number_if vars i.first) && is_small z && is_small i.offset) (if_same i.second (second_other var i e))

  places_same : (at : List Index) → list_any (names_var var) at ≡ false → map (place (slice_set vars var n)) at ≡ map (place vars) at
  places_same [] e = refl
  places_same (i ∷ at) e =
      let (here, rest) = or_parts (names_var var i) (list_any (names_var var) at) e in
      ap (λ (z : ℤ). z ∷ map (place others) at) (place_same i here) ∙ ap (λ (zs : List ℤ). place vars i ∷ zs) (places_same at rest)

  small_same : (at : List Index) → list_any (names_var var) at ≡ false → are_small (slice_set vars var n) at ≡ are_small vars at
  small_same [] e = refl
  small_same (i ∷ at) e =
      let (here, rest) = or_parts (names_var var i) (list_any (names_var var) at) e in
      ap (λ b. b && are_small others at) (index_same i here) ∙ ap (λ b. is_small_index vars i && b) (small_same at rest)

  num_small : (ns : Numbers) (k : ℤ) → has_small_indices (e.Num k) ns ≡ true
  num_small ns k = ap (λ (f : Numbers → Bool). f ns) (of_num (Numbers → Bool) indices_step k)

  var_small : (ns : Numbers) (x line : ℕ) → has_small_indices (e.Var x line) ns ≡ true
  var_small ns x line = ap (λ (f : Numbers → Bool). f ns) (of_var (Numbers → Bool) indices_step x line)

  module _ (ts : Tensors) where
    record Alike (x : Expr) : Type 0 where
      value : value_of x (slice_set vars var n) ts ≡ value_of x vars ts
      small : has_small_indices x (slice_set vars var n) ≡ has_small_indices x vars

    abbrev IsAlike : Expr → Type 0
    IsAlike x = names_in var x ≡ false → Alike x

    kinds : Kinds IsAlike
    kinds = record {
      num = λ k h. record { value = value_num others ts k ∙ sym (value_num vars ts k); small = num_small others k ∙ sym (num_small vars k) };
      var = λ x line h. record {
        value = value_var others ts x line ∙ number_same x (sym (names_name var x line) ∙ h) ∙ sym (value_var vars ts x line);
        small = var_small others x line ∙ sym (var_small vars x line);
      };
      read = λ tensor at line h.
          let free = sym (names_read var tensor at line) ∙ h in
          record {
            value = value_read others ts tensor at line ∙ ap (read (ts tensor)) (places_same at free) ∙ sym (value_read vars ts tensor at line);
            small = small_read others tensor at line ∙ small_same at free ∙ sym (small_read vars tensor at line);
          };
      neg = λ x a h.
          let k = a (sym (names_neg var x) ∙ h) in
          record {
            value = value_neg others ts x ∙ ap negated (Alike.value k) ∙ sym (value_neg vars ts x);
            small = small_neg others x ∙ Alike.small k ∙ sym (small_neg vars x);
          };
      two = λ op x y a b h.
          let (one, other) = or_parts (names_in var x) (names_in var y) (sym (names_two var op x y) ∙ h) in
          let k = a one in
          let l = b other in
          record {
            value = value_two others ts op x y ∙ ap (λ z. operate op z (value_of y others ts)) (Alike.value k) ∙ ap (operate op (value_of x vars ts)) (Alike.value l)
                ∙ sym (value_two vars ts op x y);
            small = small_two others op x y ∙ ap (λ t. t && has_small_indices y others) (Alike.small k) ∙ ap (λ t. has_small_indices x vars && t) (Alike.small l)
                ∙ sym (small_two vars op x y);
          };
    }

    alike : (x : Expr) → names_in var x ≡ false → Alike x
    alike = by_kind IsAlike kinds

  pub put_same : (w : World) (u : Written) (r : Run) → update_names var u ≡ false → put_by w u (slice_set vars var n) r ≡ put_by w u vars r
  put_same w u r e =
      let (free, unnamed) = or_parts (list_any (names_var var) u.at) (names_in var u.value) e in
      let ts : Tensors = tensors_of w.setting r in
      let k = alike ts u.value unnamed in
      let can : Run = asked_to_read (can_read u.value ts) r in
      let put : List ℤ → ℤ → Bool → Bool → Run = λ zs v b c. update w.setting u.tensor zs u.by v (asked_for_small b (asked_for_small c can)) in
      ap (λ (zs : List ℤ). put zs (value_of u.value others ts) (are_small others u.at) (has_small_indices u.value others)) (places_same u.at free)
      ∙ ap (λ (v : ℤ). put (map (place vars) u.at) v (are_small others u.at) (has_small_indices u.value others)) (Alike.value k)
      ∙ ap (λ (b : Bool). put (map (place vars) u.at) (value_of u.value vars ts) b (has_small_indices u.value others)) (small_same u.at free)
      ∙ ap (put (map (place vars) u.at) (value_of u.value vars ts) (are_small vars u.at)) (Alike.small k)

-- ---- names that are good without it

module _ (var : ℕ) (big sc : Scope) (headers : big.headers ≡ sc.headers) (loops : (x : ℕ) → nat_eq x var ≡ false → is_among big.loops x ≡ true → is_among sc.loops x ≡ true)
    (bound : (x : ℕ) → nat_eq x var ≡ false → is_bound big x ≡ true → is_bound sc x ≡ true) where
  loop_named : (o : Option ℕ) → is_it var o ≡ false → is_loop big o ≡ true → is_loop sc o ≡ true
  loop_named None e h = refl
  loop_named (Some x) e h = loops x e h

  index_named : (i : Index) → names_var var i ≡ false → is_index big i ≡ true → is_index sc i ≡ true
  index_named i e h =
      let both = left (is_loop big i.first && is_loop big i.second) (differ i.first i.second) h in
      and_both (is_loop sc i.first && is_loop sc i.second) (differ i.first i.second)
      (and_both (is_loop sc i.first) (is_loop sc i.second)
      (loop_named i.first (first_other var i e) (left (is_loop big i.first) (is_loop big i.second) both))
      (loop_named i.second (second_other var i e) (right (is_loop big i.first) (is_loop big i.second) both)))
      (right (is_loop big i.first && is_loop big i.second) (differ i.first i.second) h)

  indices_named : (at : List Index) → list_any (names_var var) at ≡ false → list_all (is_index big) at ≡ true → list_all (is_index sc) at ≡ true
  indices_named [] e h = refl
  indices_named (i ∷ at) e h =
      let (here, rest) = or_parts (names_var var i) (list_any (names_var var) at) e in
      and_both (is_index sc i) (list_all (is_index sc) at) (index_named i here (left (is_index big i) (list_all (is_index big) at) h))
      (indices_named at rest (right (is_index big i) (list_all (is_index big) at) h))

  access_named : (tensor : ℕ) (at : List Index) → list_any (names_var var) at ≡ false → is_access big tensor at ≡ true → is_access sc tensor at ≡ true
  access_named tensor at e h =
      let has : List Header → Bool = λ hs. holds_of (λ (y : Header). length at == length y.format.levels) (slice_get hs tensor) in
      and_both (has sc.headers) (list_all (is_index sc) at) (sym (ap has headers) ∙ left (has big.headers) (list_all (is_index big) at) h)
      (indices_named at e (right (has big.headers) (list_all (is_index big) at) h))

  abbrev StaysNamed : Expr → Type 0
  StaysNamed x = names_in var x ≡ false → is_named_expr x big ≡ true → is_named_expr x sc ≡ true

  named_kinds : Kinds StaysNamed
  named_kinds = record {
    num = λ k e h. ap (λ (f : Scope → Bool). f sc) (of_num (Scope → Bool) _ k);
    var = λ x line e h. named_var sc x line ∙ bound x (sym (names_name var x line) ∙ e) (sym (named_var big x line) ∙ h);
    read = λ tensor at line e h. named_read sc tensor at line ∙ access_named tensor at (sym (names_read var tensor at line) ∙ e) (sym (named_read big tensor at line) ∙ h);
    neg = λ x a e h. named_neg sc x ∙ a (sym (names_neg var x) ∙ e) (sym (named_neg big x) ∙ h);
    two = λ op x y a b e h.
        let (one, other) = or_parts (names_in var x) (names_in var y) (sym (names_two var op x y) ∙ e) in
        let both = sym (named_two big op x y) ∙ h in
        named_two sc op x y
        ∙ and_both (is_named_expr x sc) (is_named_expr y sc) (a one (left (is_named_expr x big) (is_named_expr y big) both)) (b other (right (is_named_expr x big) (is_named_expr y big) both));
  }

  update_named : (u : Written) → update_names var u ≡ false → is_named_update u big ≡ true → is_named_update u sc ≡ true
  update_named u e h =
      let (free, unnamed) = or_parts (list_any (names_var var) u.at) (names_in var u.value) e in
      and_both (is_access sc u.tensor u.at) (is_named_expr u.value sc) (access_named u.tensor u.at free (left (is_access big u.tensor u.at) (is_named_expr u.value big) h))
      (by_kind StaysNamed named_kinds u.value unnamed (right (is_access big u.tensor u.at) (is_named_expr u.value big) h))

-- the first of some variables isn't the one that is meant
other_among : (var x : ℕ) (rest : Bool) → nat_eq x var ≡ false → (nat_eq x var || rest) ≡ true → rest ≡ true
other_among var x rest e h = sym (ap (λ (b : Bool). b || rest) e) ∙ h

pub named_outside_loop : (var : ℕ) (sc : Scope) (u : Written) → update_names var u ≡ false → is_named_update u (within_loop sc var) ≡ true → is_named_update u sc ≡ true
named_outside_loop var sc u =
    update_named var (within_loop sc var) sc refl (λ x e h. other_among var x (is_among sc.loops x) e h)
    (λ x e h. sym (ap (λ (b : Bool). (b || is_among sc.loops x) || is_among sc.lets x) e) ∙ h) u

pub named_outside_let : (var : ℕ) (sc : Scope) (u : Written) → update_names var u ≡ false → is_named_update u (within_let sc var) ≡ true → is_named_update u sc ≡ true
named_outside_let var sc u =
    update_named var (within_let sc var) sc refl (λ x e h. h) (λ x e h. sym (ap (λ (b : Bool). is_among sc.loops x || (b || is_among sc.lets x)) e) ∙ h) u
