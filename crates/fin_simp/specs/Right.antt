-- Marks that are right wherever a statement looks at them: along its run by dense evaluation each known read has its
-- number, each known test holds or fails as it is said, and no index names a variable that is known.
use Rattle.std.specs.Prelude.{ℕ, zero, suc, ◌+◌, ◌-◌, ℤ, pos, Bool, true, false, not, ◌&&◌, if◌then◌else◌, List, [], ◌∷◌, map, Option, Some, None, is_none, slice_set}
use Rattle.std.specs.List.{list_all}
use Rattle.std.specs.Ordering.{int_eq}
use Rattle.fin_ast.specs.declared.tree.Index.{Index}
use Rattle.fin_ast.specs.declared.tree.Expr.{Expr}
use Rattle.fin_ast.specs.declared.tree.Expr.TheOpen.{Expr-F}
use Rattle.fin_ast.specs.declared.tree.Stmt.{Stmt, map-Stmt}
use Rattle.fin_ast.specs.declared.tree.Stmt.TheOpen.{Stmt-F}
use Rattle.fin_ast.specs.Value.{Numbers, Tensors, number, place, read, value_of}
use Rattle.fin_ast.specs.Dense.{Made, Setting, range_of}
use Rattle.fin_simp.specs.Numbered.{Here, numbered_expr, numbered, numbered_all}
use Rattle.fin_simp.specs.Left.{Marks, binding}
use Rattle.fin_simp.specs.Remaining.{literal_of}
use Rattle.fin_ast.specs.Actions.{in_turn, act_step}
use Rattle.fin_simp.specs.Marked.{Making, tensors_at, braced, made_by}

-- what is known is the value
abbrev pub agrees : Option ℤ → ℤ → Bool
agrees None z = true
agrees (Some n) z = int_eq n z

abbrev pub same_truth : Bool → Bool → Bool
same_truth true b = b
same_truth false b = not b

-- what is known is 0 exactly where the value is
abbrev pub agrees_as_test : Option ℤ → ℤ → Bool
agrees_as_test None z = true
agrees_as_test (Some n) z = same_truth (int_eq n (pos 0)) (int_eq z (pos 0))

abbrev pub is_unknown : Marks → Option ℕ → Bool
is_unknown m None = true
is_unknown m (Some x) = is_none (m.vars x)

abbrev pub is_clear : Marks → Index → Bool
is_clear m i = is_unknown m i.first && is_unknown m i.second

abbrev pub Judging : Type 0
Judging = Marks → Numbers → Tensors → Bool

abbrev pub right_expr_step : ℕ → Expr-F Judging → Judging
right_expr_step k (Expr-F.Num n) m vars ts = true
right_expr_step k (Expr-F.Var var line) m vars ts = agrees (m.vars var) (number vars var)
right_expr_step k (Expr-F.Read tensor at line) m vars ts = list_all (is_clear m) at && agrees (m.reads k) (read (ts tensor) (map (place vars) at))
right_expr_step k (Expr-F.Neg inner) m vars ts = inner m vars ts
right_expr_step k (Expr-F.Two op left right) m vars ts = left m vars ts && right m vars ts

abbrev pub right_expr : Expr → ℕ → Judging
right_expr = numbered_expr Judging right_expr_step

-- what a statement makes, and whether the marks are right along its run
pub record Judged : Type 0 where
  pub make : Making
  pub right : Marks → Numbers → Made → Bool

abbrev pub all_right : List Judged → Marks → Numbers → Made → Bool
all_right [] m vars ts = true
all_right (s ∷ ss) m vars ts = s.right m vars ts && all_right ss m vars (s.make vars ts)

abbrev pub all_make : List Judged → Making
all_make body = braced (in_turn (map (λ (s : Judged). s.make) body))

abbrev pub repeated_right : ℕ → ℕ → ℕ → List Judged → Marks → Numbers → Made → Bool
repeated_right zero lo var body m vars ts = true
repeated_right (suc n) lo var body m vars ts = all_right body m (slice_set vars var (pos lo)) ts && repeated_right n (lo + 1) var body m vars (all_make body (slice_set vars var (pos lo)) ts)

abbrev pub right_step : Setting → Here → Stmt-F Judged → Marks → Numbers → Made → Bool
right_step w h (Stmt-F.Block body line last) m vars ts = all_right body m vars ts
right_step w h (Stmt-F.Loop var range par body line last) m vars ts = repeated_right ((range_of w var).1 - (range_of w var).0) (range_of w var).0 var body (binding m var None) vars ts
right_step w h (Stmt-F.Cond test body line last) m vars ts =
    right_expr test h.read m vars (tensors_at w ts)
    && (agrees_as_test (m.tests h.test) (value_of test vars (tensors_at w ts)) && (if int_eq (value_of test vars (tensors_at w ts)) (pos 0) then true else all_right body m vars ts))
right_step w h (Stmt-F.Bind var value body line last) m vars ts =
    right_expr value h.read m vars (tensors_at w ts) && all_right body (binding m var (literal_of value h.read m)) (slice_set vars var (value_of value vars (tensors_at w ts))) ts
right_step w h (Stmt-F.Declare tensor value line) m vars ts = true
right_step w h (Stmt-F.Freeze tensor line) m vars ts = true
right_step w h (Stmt-F.Thaw tensor line) m vars ts = true
right_step w h (Stmt-F.Update tensor at by value line) m vars ts = list_all (is_clear m) at && right_expr value h.read m vars (tensors_at w ts)

abbrev pub judged_step : Setting → Here → Stmt-F Judged → Judged
judged_step w h s = record { make = act_step (made_by w) (map-Stmt Judged Making (λ x. x.make) s); right = right_step w h s }

abbrev pub judged : Setting → Stmt → Here → Judged
judged w = numbered Judged (judged_step w)

-- the marks are right along the run of a statement
abbrev pub is_right : Setting → Stmt → Here → Marks → Numbers → Made → Bool
is_right w x h = (judged w x h).right

abbrev pub are_right : Setting → List Stmt → Here → Marks → Numbers → Made → Bool
are_right w body h = all_right (numbered_all Judged (judged_step w) body h)
