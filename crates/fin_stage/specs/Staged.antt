-- A run of a program by the stages of its tensors. It does what dense evaluation does; it keeps besides whether each
-- statement was asked for what it can do, and the work, coordinate by coordinate.
use Rattle.std.specs.Prelude.{ℕ, ◌+◌, ◌^◌, Bool, true, false, ◌&&◌, nat_le, unsigned_abs, if◌then◌else◌, ℤ, List, map, Option, Some, None, is_some, is_none, slice_set, slice_get, unwrap_or, option_map}
use Rattle.std.specs.List.{list_all}
use Rattle.fin_base.specs.Words.{apply}
use Rattle.fin_base.specs.declared.reduce.Reduce.{Reduce}
use Rattle.fin_tensor.specs.declared.format.Format.{Format}
use Rattle.fin_tensor.specs.Building.{Building, unchanged, no_format, started, follows, updated}
use Rattle.fin_tensor.specs.Canon.{undecorated}
use Rattle.fin_tensor.specs.declared.storage.Storage.{Storage}
use Rattle.fin_ast.specs.declared.header.Header.{Header}
use Rattle.fin_ast.specs.declared.checked.Checked.{Checked}
use Rattle.fin_ast.specs.declared.tree.Index.{Index}
use Rattle.fin_ast.specs.declared.tree.Expr.{Expr, fold-Expr}
use Rattle.fin_ast.specs.declared.tree.Expr.TheOpen.{Expr-F}
use Rattle.fin_ast.specs.declared.tree.Stmt.{Stmt}
use Rattle.fin_ast.specs.Value.{Numbers, Tensors, number_if, place, coordinates, value_of}
use Rattle.fin_ast.specs.Actions as acts
use Rattle.fin_ast.specs.Actions.{Leaf, Declare, Freeze, Thaw, Update, Turn, Parts, act, act_all}
use Rattle.fin_ast.specs.Dense.{Setting, made_at, shape_at, range_of, setting_of, unbound}
use Rattle.fin_stage.specs.Stages.{Stage, Absent, Built, Frozen, stage_at, kept, readable, work_of_declaration, work_of_storing}

-- ---- the run so far

-- `alive` falls where a statement asks for another stage of a tensor than there is, `small` where an index isn't
-- small, and `ordered` where an update comes before the last one
pub record Run : Type 0 where
  pub stages : List Stage
  pub work : ℕ
  pub alive : Bool
  pub small : Bool
  pub ordered : Bool

-- each statement was asked for what it can do
abbrev pub regular : Run → Bool
regular r = r.alive && r.small && r.ordered

abbrev pub Action : Type 0
Action = acts.Action Run

abbrev pub worked : ℕ → Run → Run
worked n r = record r { work = r.work + n }

abbrev pub with_stage : ℕ → Stage → Run → Run
with_stage tensor stage r = record r { stages = slice_set r.stages tensor stage }

-- what can't be done changes nothing
abbrev pub unalive : Run → Run
unalive r = record r { alive = false }

abbrev pub unsmall : Run → Run
unsmall r = record r { small = false }

abbrev pub unordered : Run → Run
unordered r = record r { ordered = false }

-- ---- expressions

-- a number that sums of indices don't leave the words with
abbrev pub is_small : ℤ → Bool
is_small z = nat_le (unsigned_abs z) (2 ^ 40)

abbrev pub is_small_index : Numbers → Index → Bool
is_small_index vars i = is_small (number_if vars i.first) && is_small (number_if vars i.second) && is_small i.offset

abbrev pub are_small : Numbers → List Index → Bool
are_small vars at = list_all (is_small_index vars) at

-- each tensor that an expression reads can be read
abbrev pub reads_step : Expr-F (Tensors → Bool) → Tensors → Bool
reads_step (Expr-F.Num n) ts = true
reads_step (Expr-F.Var var line) ts = true
reads_step (Expr-F.Read tensor at line) ts = is_some (ts tensor)
reads_step (Expr-F.Neg inner) ts = inner ts
reads_step (Expr-F.Two op left right) ts = left ts && right ts

abbrev pub can_read : Expr → Tensors → Bool
can_read = fold-Expr (Tensors → Bool) reads_step

-- the indices of its reads are small
abbrev pub indices_step : Expr-F (Numbers → Bool) → Numbers → Bool
indices_step (Expr-F.Num n) vars = true
indices_step (Expr-F.Var var line) vars = true
indices_step (Expr-F.Read tensor at line) vars = are_small vars at
indices_step (Expr-F.Neg inner) vars = inner vars
indices_step (Expr-F.Two op left right) vars = left vars && right vars

abbrev pub has_small_indices : Expr → Numbers → Bool
has_small_indices = fold-Expr (Numbers → Bool) indices_step

abbrev pub asked_to_read : Bool → Run → Run
asked_to_read possible r = if possible then r else unalive r

abbrev pub asked_for_small : Bool → Run → Run
asked_for_small small r = if small then r else unsmall r

abbrev pub tensors_of : Setting → Run → Tensors
tensors_of w r = readable w.given r.stages

-- the run goes on with the value of an expression
abbrev pub with_value : Setting → Expr → Numbers → (ℤ → Run → Run) → Run → Run
with_value w e vars after r = after (value_of e vars (tensors_of w r)) (asked_for_small (has_small_indices e vars) (asked_to_read (can_read e (tensors_of w r)) r))

-- ---- statements

abbrev pub closed : List Stage → Run → Run
closed before r = record r { stages = kept before r.stages }

abbrev pub close : Run → Run → Run
close before r = closed before.stages r

abbrev pub braced : Action → Action
braced = acts.braced close

-- each turn is work
abbrev pub turn : Turn Run
turn var vars n body r = body (worked 1 r)

abbrev pub repeated : ℕ → ℕ → ℕ → Action → Action
repeated = acts.repeated turn

-- and so is a loop
abbrev pub looped : ℕ × ℕ → ℕ → Action → Action
looped range var body vars r = acts.looped turn range var body vars (worked 1 r)

abbrev pub format_at : Setting → ℕ → Format
format_at w tensor = unwrap_or (option_map (λ (h : Header). h.format) (slice_get w.headers tensor)) no_format

-- a tensor that isn't given
abbrev pub is_made : Setting → ℕ → Bool
is_made w tensor = is_none (made_at w.given tensor)

abbrev pub declare : Setting → ℕ → Run → Run
declare w tensor r =
    if is_made w tensor
    then worked (work_of_declaration (format_at w tensor).levels (shape_at w tensor)) (with_stage tensor (Built (started (format_at w tensor) (shape_at w tensor))) r)
    else unalive r

abbrev pub freeze_at : ℕ → Stage → Run → Run
freeze_at tensor Absent r = unalive r
freeze_at tensor (Built b) r = worked (work_of_storing b.format b.function) (with_stage tensor (Frozen (undecorated b.format) b.function) r)
freeze_at tensor (Frozen format f) r = unalive r

abbrev pub freeze : ℕ → Run → Run
freeze tensor r = freeze_at tensor (stage_at r.stages tensor) r

abbrev pub thaw_at : ℕ → Stage → Run → Run
thaw_at tensor Absent r = unalive r
thaw_at tensor (Built b) r = unalive r
thaw_at tensor (Frozen format f) r = worked (work_of_storing format f) (with_stage tensor (Built (unchanged format f)) r)

abbrev pub thaw : Setting → ℕ → Run → Run
thaw w tensor r = if is_made w tensor then thaw_at tensor (stage_at r.stages tensor) r else unalive r

-- outside the box there is nothing to put
abbrev pub put_at : ℕ → Building → Option (List ℕ) → Reduce → ℤ → Run → Run
put_at tensor b None by v r = r
put_at tensor b (Some cs) by v r = if follows b cs then with_stage tensor (Built (updated b cs (λ old. apply by old v))) r else unordered r

abbrev pub update_at : ℕ → Stage → List ℤ → Reduce → ℤ → Run → Run
update_at tensor Absent at by v r = unalive r
update_at tensor (Built b) at by v r = put_at tensor b (coordinates b.function.shape at) by v r
update_at tensor (Frozen format f) at by v r = unalive r

abbrev pub update : Setting → ℕ → List ℤ → Reduce → ℤ → Run → Run
update w tensor at by v r = worked 1 (if is_made w tensor then update_at tensor (stage_at r.stages tensor) at by v r else unalive r)

abbrev pub leaf : Setting → Leaf → Action
leaf w (Declare tensor) vars r = declare w tensor r
leaf w (Freeze tensor) vars r = freeze tensor r
leaf w (Thaw tensor) vars r = thaw w tensor r
leaf w (Update tensor at by value) vars r = with_value w value vars (λ v r'. update w tensor (map (place vars) at) by v (asked_for_small (are_small vars at) r')) r

-- a test, a let and a loop are work
abbrev pub staging : Setting → Parts Run
staging w = record {
  range = range_of w;
  value = λ e vars after r. with_value w e vars after (worked 1 r);
  entry = λ var vars r. worked 1 r;
  turn = turn;
  brace = close;
  leaf = leaf w;
}

abbrev pub stage_of : Setting → Stmt → Action
stage_of w = act (staging w)

abbrev pub stage_all : Setting → List Stmt → Action
stage_all w = act_all (staging w)

-- ---- whole programs

abbrev pub before_all : List Header → Run
before_all headers = record { stages = map (λ h. Absent) headers; work = 0; alive = true; small = true; ordered = true }

abbrev pub staged : Checked → List Storage → Run
staged c inputs = stage_all (setting_of c inputs) c.program.body (unbound c.dims) (before_all c.program.headers)

-- the work of a program, coordinate by coordinate
abbrev pub coordinate_work : Checked → List Storage → ℕ
coordinate_work c inputs = (staged c inputs).work
