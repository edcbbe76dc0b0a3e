-- The code of a chain of operators, pushed side by side.
use Rattle.std.proofs.Common.{◌≡◌, ℕ, ◌+◌, Bool, List, ◌++◌, map, sym, ap, ◌∙◌, subst}
use Rattle.std.proofs.lemmas.List.{map-append, append_assoc}
use Rattle.fin_base.specs.declared.terms.Op.{Op}
use Rattle.fin_ast.specs.declared.tree.Expr.{Expr}
use Rattle.fin_ast.specs.declared.tree.Expr.TheVariants as e
use Rattle.fin_ir.specs.declared.code.Code.{Code}
use Rattle.fin_ir.specs.declared.expression.IExpr.{IExpr}
use Rattle.fin_ir.specs.declared.expression.IExpr.TheVariants.{Two}
use Rattle.fin_read.specs.Steps.{Step, assign_of, Appends}
use Rattle.fin_read.specs.Values.{Heads, Lowered, is_shallow, rest_steps, rest_value, rest_depth, rest_next, rested, value_code, prelude}
use Rattle.fin_read.proofs.Equations.{code_two}

-- what was made is the lowered expression: its code stands behind what there was
pub record IsPushed (base now : List Code) (expr : IExpr) (depth next : ℕ) (v : Lowered) : Type 0 where
  pub expr_is : expr ≡ v.value
  pub depth_is : depth ≡ v.depth
  pub next_is : next ≡ v.next
  pub code_is : now ≡ base ++ prelude v

-- and so it is where the parts are told by other names
pub renamed : (base now : List Code) (expr expr' : IExpr) (depth depth' next next' : ℕ) (v : Lowered) → expr' ≡ expr → depth' ≡ depth → next' ≡ next → IsPushed base now expr depth next v → IsPushed base now expr' depth' next' v
renamed base now expr expr' depth depth' next next' v e d n p = record { expr_is = e ∙ p.expr_is; depth_is = d ∙ p.depth_is; next_is = n ∙ p.next_is; code_is = p.code_is }

-- it was set down where it is deep
pub record IsSetDown (before now : List Code) (expr rest_expr : IExpr) (depth rest_deep next rest_free : ℕ) : Type 0 where
  pub value : rest_expr ≡ rest_value (is_shallow depth) expr next
  pub deep : rest_deep ≡ rest_depth (is_shallow depth) depth
  pub free : rest_free ≡ rest_next (is_shallow depth) next
  pub code : Appends before now (rest_steps (is_shallow depth) expr next)

more_code : (base before now : List Code) (a b : List Step) → before ≡ base ++ map assign_of a → now ≡ before ++ map assign_of b → now ≡ base ++ map assign_of (a ++ b)
more_code base before now a b first second =
    second ∙ ap (λ (cs : List Code). cs ++ map assign_of b) first ∙ append_assoc base (map assign_of a) (map assign_of b) ∙ ap (λ (cs : List Code). base ++ cs) (sym (map-append assign_of a b))

pub pushed_rest : (base before now : List Code) (expr rest_expr : IExpr) (depth rest_deep next rest_free : ℕ) (v : Lowered)
    → IsPushed base before expr depth next v → IsSetDown before now expr rest_expr depth rest_deep next rest_free → IsPushed base now rest_expr rest_deep rest_free (rested v)
pushed_rest base before now expr rest_expr depth rest_deep next rest_free v p d =
    let same : (is_shallow depth) ≡ (is_shallow v.depth) = ap is_shallow p.depth_is in
    record {
      expr_is = d.value ∙ ap (λ (b : Bool). rest_value b expr next) same ∙ ap (λ (x : IExpr). rest_value (is_shallow v.depth) x next) p.expr_is ∙ ap (rest_value (is_shallow v.depth) v.value) p.next_is;
      depth_is = d.deep ∙ ap (λ (b : Bool). rest_depth b depth) same ∙ ap (rest_depth (is_shallow v.depth)) p.depth_is;
      next_is = d.free ∙ ap (λ (b : Bool). rest_next b next) same ∙ ap (rest_next (is_shallow v.depth)) p.next_is;
      code_is = more_code base before now v.steps (rest_steps (is_shallow v.depth) v.value v.next) p.code_is
          (d.code ∙ ap (λ (b : Bool). before ++ map assign_of (rest_steps b expr next)) same ∙ ap (λ (x : IExpr). before ++ map assign_of (rest_steps (is_shallow v.depth) x next)) p.expr_is
          ∙ ap (λ (k : ℕ). before ++ map assign_of (rest_steps (is_shallow v.depth) v.value k)) p.next_is);
    }

-- the right side was pushed behind what stands for the left one
pub pushed_two : (h : Heads) (o : Op) (x y : Expr) (from : ℕ) (base middle now : List Code) (left right : IExpr) (depth next behind : ℕ)
    → IsPushed base middle left depth next (rested (value_code h x from)) → right ≡ (value_code h y next).value → behind ≡ (value_code h y next).next
    → now ≡ middle ++ prelude (value_code h y next) → IsPushed base now (Two o left right) (depth + 1) behind (value_code h (e.Two o x y) from)
pushed_two h o x y from base middle now left right depth next behind p is_right is_behind is_now =
    let a = rested (value_code h x from) in
    subst (IsPushed base now (Two o left right) (depth + 1) behind) (sym (code_two h from o x y)) (record {
      expr_is = ap (λ (u : IExpr). Two o u right) p.expr_is ∙ ap (Two o a.value) (is_right ∙ ap (λ (k : ℕ). (value_code h y k).value) p.next_is);
      depth_is = ap (λ (k : ℕ). k + 1) p.depth_is;
      next_is = is_behind ∙ ap (λ (k : ℕ). (value_code h y k).next) p.next_is;
      code_is = more_code base middle now a.steps (value_code h y a.next).steps p.code_is (is_now ∙ ap (λ (k : ℕ). middle ++ prelude (value_code h y k)) p.next_is);
    })
