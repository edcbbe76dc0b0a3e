-- What an expression comes to depends on the variables in scope alone.
use Rattle.std.proofs.Common.{◌≡◌, ℕ, Bool, true, ◌&&◌, List, [], ◌∷◌, map, length, Option, Some, None, refl, sym, ap, ◌∙◌, ℤ, ◌+ℤ◌}
use Rattle.std.specs.Prelude.{slice_get, ◌==◌}
use Rattle.std.specs.List.{list_all}
use Rattle.fin_base.specs.Words.{operate, negated}
use Rattle.fin_ast.specs.declared.header.Header.{Header}
use Rattle.fin_ast.specs.declared.tree.Index.{Index}
use Rattle.fin_ast.specs.declared.tree.Expr.{Expr}
use Rattle.fin_ast.specs.declared.tree.Expr.TheVariants as e
use Rattle.fin_ast.specs.Scope.{Scope, is_bound, is_loop, differ, holds_of, is_index, is_named_expr}
use Rattle.fin_ast.specs.Value.{Numbers, Tensors, number, number_if, place, read, value_of}
use Rattle.fin_ast.proofs.Nodes.{of_num, of_var}
use Rattle.fin_ast.proofs.Values.{value_num, value_var, value_read, value_neg, value_two}
use Rattle.fin_stage.specs.Staged.{is_small, is_small_index, are_small, indices_step, has_small_indices}
use Rattle.fin_stage.proofs.Alive.{left, right}
use Rattle.fin_read.proofs.ByKind.{Kinds, by_kind}
use Rattle.fin_read.proofs.Equations.{named_var, named_read, named_neg, named_two, small_read, small_neg, small_two}
use Rattle.fin_read.proofs.Indexing.{loop_is_bound}

-- numbers and variables have no indices
num_small : (vars : Numbers) (n : ℤ) → has_small_indices (e.Num n) vars ≡ true
num_small vars n = ap (λ (f : Numbers → Bool). f vars) (of_num (Numbers → Bool) indices_step n)

var_small : (vars : Numbers) (var line : ℕ) → has_small_indices (e.Var var line) vars ≡ true
var_small vars var line = ap (λ (f : Numbers → Bool). f vars) (of_var (Numbers → Bool) indices_step var line)

module _ (sc : Scope) (vars others : Numbers) (same : (x : ℕ) → is_bound sc x ≡ true → number others x ≡ number vars x) where
  number_same : (o : Option ℕ) → is_loop sc o ≡ true → number_if others o ≡ number_if vars o
  number_same None e = refl
  number_same (Some x) e = same x (loop_is_bound sc x e)

  first_loop : (i : Index) → is_index sc i ≡ true → is_loop sc i.first ≡ true
  first_loop i e = left (is_loop sc i.first) (is_loop sc i.second) (left (is_loop sc i.first && is_loop sc i.second) (differ i.first i.second) e)

  second_loop : (i : Index) → is_index sc i ≡ true → is_loop sc i.second ≡ true
  second_loop i e = right (is_loop sc i.first) (is_loop sc i.second) (left (is_loop sc i.first && is_loop sc i.second) (differ i.first i.second) e)

  place_same : (i : Index) → is_index sc i ≡ true → place others i ≡ place vars i
  place_same i e =
      ap (λ (z : ℤ). (z +ℤ number_if others i.second) +ℤ i.offset) (number_same i.first (first_loop i e))
      ∙ ap (λ (z : ℤ). (number_if vars i.first +ℤ z) +ℤ i.offset) (number_same i.second (second_loop i e))

  index_same : (i : Index) → is_index sc i ≡ true → is_small_index others i ≡ is_small_index vars i
  index_same i e =
      ap (λ (z : ℤ). is_small z && is_small (number_if others i.second) && is_small i.offset) (number_same i.first (first_loop i e))
      ∙ ap (λ (z : ℤ). is_small (number_if vars i.first) && is_small z && is_small i.offset) (number_same i.second (second_loop i e))

  pub places_same : (at : List Index) → list_all (is_index sc) at ≡ true → map (place others) at ≡ map (place vars) at
  places_same [] e = refl
  places_same (i ∷ at) e =
      ap (λ (z : ℤ). z ∷ map (place others) at) (place_same i (left (is_index sc i) (list_all (is_index sc) at) e))
      ∙ ap (λ (zs : List ℤ). place vars i ∷ zs) (places_same at (right (is_index sc i) (list_all (is_index sc) at) e))

  pub small_same : (at : List Index) → list_all (is_index sc) at ≡ true → are_small others at ≡ are_small vars at
  small_same [] e = refl
  small_same (i ∷ at) e =
      ap (λ b. b && are_small others at) (index_same i (left (is_index sc i) (list_all (is_index sc) at) e))
      ∙ ap (λ b. is_small_index vars i && b) (small_same at (right (is_index sc i) (list_all (is_index sc) at) e))

  module _ (ts : Tensors) where
    pub record Alike (x : Expr) : Type 0 where
      pub value : value_of x others ts ≡ value_of x vars ts
      pub small : has_small_indices x others ≡ has_small_indices x vars

    abbrev IsAlike : Expr → Type 0
    IsAlike x = is_named_expr x sc ≡ true → Alike x

    indices_of : (tensor : ℕ) (at : List Index) (line : ℕ) → is_named_expr (e.Read tensor at line) sc ≡ true → list_all (is_index sc) at ≡ true
    indices_of tensor at line h = right (holds_of (λ (x : Header). length at == length x.format.levels) (slice_get sc.headers tensor)) (list_all (is_index sc) at) (sym (named_read sc tensor at line) ∙ h)

    kinds : Kinds IsAlike
    kinds = record {
      num = λ n h. record { value = value_num others ts n ∙ sym (value_num vars ts n); small = num_small others n ∙ sym (num_small vars n) };
      var = λ var line h. record {
        value = value_var others ts var line ∙ same var (sym (named_var sc var line) ∙ h) ∙ sym (value_var vars ts var line);
        small = var_small others var line ∙ sym (var_small vars var line);
      };
      read = λ tensor at line h. record {
        value = value_read others ts tensor at line ∙ ap (read (ts tensor)) (places_same at (indices_of tensor at line h)) ∙ sym (value_read vars ts tensor at line);
        small = small_read others tensor at line ∙ small_same at (indices_of tensor at line h) ∙ sym (small_read vars tensor at line);
      };
      neg = λ x a h.
          let k = a (sym (named_neg sc x) ∙ h) in
          record { value = value_neg others ts x ∙ ap negated k.value ∙ sym (value_neg vars ts x); small = small_neg others x ∙ k.small ∙ sym (small_neg vars x) };
      two = λ op x y a b h.
          let both = sym (named_two sc op x y) ∙ h in
          let k = a (left (is_named_expr x sc) (is_named_expr y sc) both) in
          let l = b (right (is_named_expr x sc) (is_named_expr y sc) both) in
          record {
            value = value_two others ts op x y ∙ ap (λ z. operate op z (value_of y others ts)) k.value ∙ ap (operate op (value_of x vars ts)) l.value ∙ sym (value_two vars ts op x y);
            small = small_two others op x y ∙ ap (λ t. t && has_small_indices y others) k.small ∙ ap (λ t. has_small_indices x vars && t) l.small ∙ sym (small_two vars op x y);
          };
    }

    pub alike : (x : Expr) → is_named_expr x sc ≡ true → Alike x
    alike = by_kind IsAlike kinds
