-- What a program does to tensor functions, without the count of its turns; and what a statement does where the numbers
-- that are known stand in the place of its reads, tests and variables.
use Rattle.std.specs.Prelude.{ℕ, ℤ, if◌then◌else◌, List, map, Option, Some, None, is_some, slice_set, unwrap_or}
use Rattle.std.specs.Option.{option_or}
use Rattle.fin_base.specs.Words.{operate, negated}
use Rattle.fin_base.specs.declared.reduce.Reduce.{Reduce}
use Rattle.fin_tensor.specs.TensorFunction.{filled}
use Rattle.fin_ast.specs.declared.tree.Expr.{Expr}
use Rattle.fin_ast.specs.declared.tree.Expr.TheOpen.{Expr-F}
use Rattle.fin_ast.specs.declared.tree.Stmt.{Stmt}
use Rattle.fin_ast.specs.declared.tree.Stmt.TheOpen.{Stmt-F}
use Rattle.fin_ast.specs.Value.{Numbers, Tensors, Reading, number, place, read, value_of}
use Rattle.fin_ast.specs.Actions as acts
use Rattle.fin_ast.specs.Actions.{Action, Leaf, Declare, Freeze, Thaw, Update, Turn, Parts, where_holds, in_turn, act, act_all}
use Rattle.fin_ast.specs.Dense.{Made, made_at, Setting, fill_of, shape_at, range_of, kept, updated_if}
use Rattle.fin_simp.specs.Numbered.{Here, numbered_expr, numbered, numbered_all}
use Rattle.fin_simp.specs.Left.{Marks, binding, fails}
use Rattle.fin_simp.specs.Remaining.{literal_of}

-- ---- without marks

abbrev pub Making : Type 0
Making = Action Made

-- the tensors that can be read
abbrev pub tensors_at : Setting → Made → Tensors
tensors_at w ts tensor = option_or (made_at w.given tensor) (made_at ts tensor)

abbrev pub close : Made → Made → Made
close before ts = kept (map is_some before) ts

abbrev pub turn : Turn Made
turn var vars n body ts = body ts

abbrev pub braced : Making → Making
braced = acts.braced close

abbrev pub repeated : ℕ → ℕ → ℕ → Making → Making
repeated = acts.repeated turn

abbrev pub looped : ℕ × ℕ → ℕ → Making → Making
looped = acts.looped turn

abbrev pub declared : Setting → ℕ → Made → Made
declared w tensor ts = slice_set ts tensor (Some (filled (shape_at w tensor) (fill_of w tensor)))

abbrev pub updated : ℕ → List ℤ → Reduce → ℤ → Made → Made
updated tensor at by v ts = slice_set ts tensor (updated_if (made_at ts tensor) at by v)

-- by the value of a test
abbrev pub if_holds : ℤ → Making → Making
if_holds v body vars ts = where_holds body vars v ts

abbrev pub leaf : Setting → Leaf → Making
leaf w (Declare tensor) vars ts = declared w tensor ts
leaf w (Freeze tensor) vars ts = ts
leaf w (Thaw tensor) vars ts = ts
leaf w (Update tensor at by value) vars ts = updated tensor (map (place vars) at) by (value_of value vars (tensors_at w ts)) ts

abbrev pub made_by : Setting → Parts Made
made_by w = record {
  range = range_of w;
  value = λ e vars after ts. after (value_of e vars (tensors_at w ts)) ts;
  entry = λ var vars ts. ts;
  turn = turn;
  brace = close;
  leaf = leaf w;
}

abbrev pub making : Setting → Stmt → Making
making w = act (made_by w)

abbrev pub making_all : Setting → List Stmt → Making
making_all w = act_all (made_by w)

-- ---- with marks

abbrev pub marked_value_step : ℕ → Expr-F (Marks → Reading) → Marks → Reading
marked_value_step k (Expr-F.Num n) m vars ts = n
marked_value_step k (Expr-F.Var var line) m vars ts = unwrap_or (m.vars var) (number vars var)
marked_value_step k (Expr-F.Read tensor at line) m vars ts = unwrap_or (m.reads k) (read (ts tensor) (map (place vars) at))
marked_value_step k (Expr-F.Neg inner) m vars ts = negated (inner m vars ts)
marked_value_step k (Expr-F.Two op left right) m vars ts = operate op (left m vars ts) (right m vars ts)

abbrev pub marked_value : Expr → ℕ → Marks → Reading
marked_value = numbered_expr (Marks → Reading) marked_value_step

-- what is known of a test stands in its place; but one that is left as 0 fails
abbrev pub settled_value : Option ℤ → Option ℤ → ℤ → ℤ
settled_value None literal v = v
settled_value (Some n) literal v = if fails literal then v else n

-- a variable is bound to a number, unless that number is known
abbrev pub bound_to : Option ℤ → ℕ → ℤ → Numbers → Numbers
bound_to None var v vars = slice_set vars var v
bound_to (Some n) var v vars = vars

abbrev pub all_marked : List (Marks → Making) → Marks → Making
all_marked body m = in_turn (map (λ (s : Marks → Making). s m) body)

abbrev pub marked_step : Setting → Here → Stmt-F (Marks → Making) → Marks → Making
marked_step w h (Stmt-F.Block body line last) m vars ts = braced (all_marked body m) vars ts
marked_step w h (Stmt-F.Loop var range par body line last) m vars ts = looped (range_of w var) var (braced (all_marked body (binding m var None))) vars ts
marked_step w h (Stmt-F.Cond test body line last) m vars ts = if_holds (settled_value (m.tests h.test) (literal_of test h.read m) (marked_value test h.read m vars (tensors_at w ts))) (braced (all_marked body m)) vars ts
marked_step w h (Stmt-F.Bind var value body line last) m vars ts =
    braced (all_marked body (binding m var (literal_of value h.read m))) (bound_to (literal_of value h.read m) var (marked_value value h.read m vars (tensors_at w ts)) vars) ts
marked_step w h (Stmt-F.Declare tensor value line) m vars ts = declared w tensor ts
marked_step w h (Stmt-F.Freeze tensor line) m vars ts = ts
marked_step w h (Stmt-F.Thaw tensor line) m vars ts = ts
marked_step w h (Stmt-F.Update tensor at by value line) m vars ts = updated tensor (map (place vars) at) by (marked_value value h.read m vars (tensors_at w ts)) ts

-- what a statement does under marks
abbrev pub marked : Setting → Stmt → Here → Marks → Making
marked w = numbered (Marks → Making) (marked_step w)

abbrev pub marked_all : Setting → List Stmt → Here → Marks → Making
marked_all w body h m = all_marked (numbered_all (Marks → Making) (marked_step w) body h) m
