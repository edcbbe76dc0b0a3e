-- Bounds of masks have no reads, and depend on the variables before the loop's own alone.
use Rattle.std.proofs.Common.{◌≡◌, ℕ, suc, zero, ◌<◌, ◌≤◌, Bool, true, false, ◌&&◌, List, [], ◌∷◌, take, length, None, refl, sym, ap, ◌∙◌, subst, pos, arith}
use Rattle.std.specs.Prelude.{nat_eq, nat_lt, ◌||◌}
use Rattle.std.proofs.lemmas.Bool.Decides.{nat_tests}
use Rattle.std.proofs.lemmas.List.{get_or-take, length-take-le}
use Rattle.fin_base.specs.Words.{operate, negated}
use Rattle.fin_ast.specs.declared.tree.Expr.{Expr}
use Rattle.fin_ast.specs.declared.tree.Expr.TheVariants as e
use Rattle.fin_ast.specs.Scope.{Scope, expr_step, is_among, is_bound, is_named_expr}
use Rattle.fin_ast.specs.Value.{Numbers, Tensors, number, value_of}
use Rattle.fin_ast.proofs.Nodes.{of_num, of_var, of_read, of_neg, of_two}
use Rattle.fin_ast.proofs.Values as meant
use Rattle.fin_stage.specs.Staged.{reads_step, indices_step, can_read, has_small_indices}
use Rattle.fin_stage.proofs.Alive.{left, right}
use Rattle.fin_read.specs.Means.{IsWithin, IsValued, ValuesMean}
use Rattle.fin_read.specs.Steps.{Agree}
use Rattle.fin_read.specs.Values.{value_code}
use Rattle.fin_read.proofs.ByKind.{Kinds, by_kind}
use Rattle.fin_read.proofs.Equations.{code_grows, named_var, named_neg, named_two, reads_neg, reads_two, small_neg, small_two}
use Rattle.fin_simp.specs.Work.{bound_step, is_bound_of}
use Rattle.fin_enter.specs.Bounds.{IsFree, BoundsAreFree, BoundsMean}

module _ (var : ℕ) (vars : Numbers) (ts : Tensors) where
  abbrev Free : Expr → Type 0
  Free x = is_bound_of var x ≡ true → IsFree x vars ts

  abbrev none : Tensors
  none tensor = None

  both : (a b : Bool) → a ≡ true → b ≡ true → (a && b) ≡ true
  both a b f g = ap (λ (x : Bool). x && b) f ∙ g

  free_kinds : Kinds Free
  free_kinds = record {
    num = λ n h. record {
      reads = ap (λ (f : Tensors → Bool). f ts) (of_num (Tensors → Bool) reads_step n);
      small = ap (λ (f : Numbers → Bool). f vars) (of_num (Numbers → Bool) indices_step n);
      same = meant.value_num vars ts n ∙ sym (meant.value_num vars none n);
    };
    var = λ v line h. record {
      reads = ap (λ (f : Tensors → Bool). f ts) (of_var (Tensors → Bool) reads_step v line);
      small = ap (λ (f : Numbers → Bool). f vars) (of_var (Numbers → Bool) indices_step v line);
      same = meant.value_var vars ts v line ∙ sym (meant.value_var vars none v line);
    };
    read = λ tensor at line h. (let x : false ≡ true = sym (of_read Bool (bound_step var) tensor at line) ∙ h in cc);
    neg = λ x f h. (let q = f (sym (of_neg Bool (bound_step var) x) ∙ h) in record {
      reads = reads_neg ts x ∙ q.reads;
      small = small_neg vars x ∙ q.small;
      same = meant.value_neg vars ts x ∙ ap negated q.same ∙ sym (meant.value_neg vars none x);
    });
    two = λ o x y f g h. (let all : (is_bound_of var x && is_bound_of var y) ≡ true = sym (of_two Bool (bound_step var) o x y) ∙ h in
        let p = f (left (is_bound_of var x) (is_bound_of var y) all) in
        let q = g (right (is_bound_of var x) (is_bound_of var y) all) in record {
          reads = reads_two ts o x y ∙ both (can_read x ts) (can_read y ts) p.reads q.reads;
          small = small_two vars o x y ∙ both (has_small_indices x vars) (has_small_indices y vars) p.small q.small;
          same = meant.value_two vars ts o x y ∙ ap (λ z. operate o z (value_of y vars ts)) p.same ∙ ap (operate o (value_of x vars none)) q.same ∙ sym (meant.value_two vars none o x y);
        });
  }

pub bounds_are_free : BoundsAreFree
bounds_are_free var x vars ts h = by_kind (Free var vars ts) (free_kinds var vars ts) x h

-- ---- the variables before one

abbrev pub below : ℕ → List ℕ
below zero = []
below (suc n) = n ∷ below n

among_cons : (n x : ℕ) (b : Bool) → nat_eq x n ≡ b → (x < n → is_among (below n) x ≡ true) → x < suc n → (b || is_among (below n) x) ≡ true
among_cons n x true t later lt = refl
among_cons n x false t later lt = later (grind (arith, nat_tests))

among_below : (n x : ℕ) → x < n → is_among (below n) x ≡ true
among_below zero x lt = absurd (omega (arith, lt))
among_below (suc n) x lt = among_cons n x (nat_eq x n) refl (among_below n x) lt

below_cons : (n x : ℕ) (b : Bool) → nat_eq x n ≡ b → (is_among (below n) x ≡ true → x < n) → (b || is_among (below n) x) ≡ true → x < suc n
below_cons n x true t later h = grind (arith, nat_tests)
below_cons n x false t later h = let lt = later h in omega (arith, lt)

is_below : (n x : ℕ) → is_among (below n) x ≡ true → x < n
is_below zero x e = cc
is_below (suc n) x e = below_cons n x (nat_eq x n) refl (is_below n x) e

-- in that scope, with numbers that are the same for the variables in scope, a bound is named and has its value
module _ (sc : Scope) (var : ℕ) (vars others : Numbers) (same : (x : ℕ) → is_bound sc x ≡ true → x < var → number others x ≡ number vars x) where
  abbrev lower : Scope
  lower = record { headers = sc.headers; loops = []; lets = below var }

  record IsLow (x : Expr) : Type 0 where
    pub named : is_named_expr x lower ≡ true
    pub value : value_of x others (λ tensor. None) ≡ value_of x vars (λ tensor. None)

  abbrev Low : Expr → Type 0
  Low x = is_named_expr x sc ≡ true → is_bound_of var x ≡ true → IsLow x

  low_var : (v line : ℕ) → is_bound sc v ≡ true → nat_lt v var ≡ true → IsLow (e.Var v line)
  low_var v line bound lt =
      let less : v < var = grind (arith, nat_tests) in
      record {
        named = named_var lower v line ∙ among_below var v less;
        value = meant.value_var others (λ tensor. None) v line ∙ same v bound less ∙ sym (meant.value_var vars (λ tensor. None) v line);
      }

  low_kinds : Kinds Low
  low_kinds = record {
    num = λ n h b. record {
      named = ap (λ (f : Scope → Bool). f lower) (of_num (Scope → Bool) expr_step n);
      value = meant.value_num others (λ tensor. None) n ∙ sym (meant.value_num vars (λ tensor. None) n);
    };
    var = λ v line h b. low_var v line (sym (named_var sc v line) ∙ h) (sym (of_var Bool (bound_step var) v line) ∙ b);
    read = λ tensor at line h b. (let x : false ≡ true = sym (of_read Bool (bound_step var) tensor at line) ∙ b in cc);
    neg = λ x f h b. (let q = f (sym (named_neg sc x) ∙ h) (sym (of_neg Bool (bound_step var) x) ∙ b) in record {
      named = named_neg lower x ∙ q.named;
      value = meant.value_neg others (λ tensor. None) x ∙ ap negated q.value ∙ sym (meant.value_neg vars (λ tensor. None) x);
    });
    two = λ o x y f g h b. (let names : (is_named_expr x sc && is_named_expr y sc) ≡ true = sym (named_two sc o x y) ∙ h in
        let bounds : (is_bound_of var x && is_bound_of var y) ≡ true = sym (of_two Bool (bound_step var) o x y) ∙ b in
        let p = f (left (is_named_expr x sc) (is_named_expr y sc) names) (left (is_bound_of var x) (is_bound_of var y) bounds) in
        let q = g (right (is_named_expr x sc) (is_named_expr y sc) names) (right (is_bound_of var x) (is_bound_of var y) bounds) in record {
          named = named_two lower o x y ∙ ap (λ (t : Bool). t && is_named_expr y lower) p.named ∙ q.named;
          value = meant.value_two others (λ tensor. None) o x y ∙ ap (λ z. operate o z (value_of y others (λ tensor. None))) p.value
              ∙ ap (operate o (value_of x vars (λ tensor. None))) q.value ∙ sym (meant.value_two vars (λ tensor. None) o x y);
        });
  }

pub bounds_mean : ValuesMean → BoundsMean
bounds_mean values h ts sc vars var x next ls named bound after numbers room =
    let others = take var ls in
    let grows = code_grows h x next in
    let long : length others ≡ var = length-take-le var ls (omega (arith, after, grows, room)) in
    let taken : (k : ℕ) → k < var → number others k ≡ number ls k = λ k lt. get_or-take var ls k (pos 0) lt in
    let same : (k : ℕ) → is_bound sc k ≡ true → k < var → number others k ≡ number vars k = λ k in_scope lt. taken k lt ∙ numbers k in_scope lt in
    let low = by_kind (Low sc var vars others same) (low_kinds sc var vars others same) x named bound in
    let sc' = lower sc var vars others same in
    let q = bounds_are_free var x others (λ tensor. None) bound in
    let within : IsWithin sc' (length others) = λ k e. subst (λ (n : ℕ). k < n) (sym long) (is_below var k e) in
    let agree : Agree (length others) ls others = λ k lt. sym (taken k (subst (λ (n : ℕ). k < n) long lt)) in
    let room_for : length others ≤ next = subst (λ (n : ℕ). n ≤ next) (sym long) after in
    subst (IsValued ts (value_code h x next) next ls) low.value
    (values h ts (λ tensor. None) sc' others x next ls (λ t f e. cc) within low.named q.reads q.small room_for agree room)
