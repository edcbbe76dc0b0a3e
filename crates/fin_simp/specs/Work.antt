-- The work of a program, by the pieces of its loops, beside its run by stages. A piece's cost is shared out to its
-- coordinates: the first one bears the cost of an update that is done once for all of them.
use Rattle.std.specs.Prelude.{ℕ, zero, suc, ◌+◌, ◌-◌, ◌*◌, ◌/◌, min, Bool, true, false, not, ◌&&◌, ◌||◌, nat_eq, nat_lt, if◌then◌else◌, ℤ, pos, List, [], ◌∷◌, map, filter_map, length, sum, Option, Some, None, is_some, slice_set, slice_index_or, option_map}
use Rattle.std.specs.List.{list_all, list_any, range_with_len, concat}
use Rattle.std.specs.Option.{option_or}
use Rattle.std.specs.Ordering.{int_eq}
use Rattle.fin_base.specs.Words.{operate}
use Rattle.fin_base.specs.declared.terms.Op.{Op}
use Rattle.fin_base.specs.declared.terms.Op.TheVariants as op
use Rattle.fin_tensor.specs.declared.part.Part.{Part}
use Rattle.fin_tensor.specs.declared.storage.Storage.{Storage}
use Rattle.fin_tensor.specs.TensorFunction.{value_at}
use Rattle.fin_tensor.specs.Canon.{canon_parts}
use Rattle.fin_ast.specs.declared.header.Header.{Header}
use Rattle.fin_ast.specs.declared.checked.Checked.{Checked}
use Rattle.fin_ast.specs.declared.tree.Index.{Index}
use Rattle.fin_ast.specs.declared.tree.Expr.{Expr, fold-Expr, out-Expr}
use Rattle.fin_ast.specs.declared.tree.Expr.TheOpen.{Expr-F}
use Rattle.fin_ast.specs.declared.tree.Stmt.{map-Stmt}
use Rattle.fin_ast.specs.declared.tree.Stmt.TheOpen.{Stmt-F}
use Rattle.fin_ast.specs.Kinds.{is_input}
use Rattle.fin_ast.specs.Value.{Numbers, place, value_of}
use Rattle.fin_ast.specs.Actions.{Declare, Freeze, Thaw, Update, in_turn}
use Rattle.fin_ast.specs.Dense.{Setting, fill_of, shape_at, range_of, setting_of, unbound}
use Rattle.fin_stage.specs.Stages.{Stage, Absent, Built, Frozen, stage_at, is_declared}
use Rattle.fin_stage.specs.Staged.{Run, Action, worked, tensors_of, asked_to_read, is_made, with_value, braced, leaf, before_all}
use Rattle.fin_simp.specs.Numbered.{Here, outset, numbered_all}
use Rattle.fin_simp.specs.Left.{Marks, nothing_known, binding}
use Rattle.fin_simp.specs.Rest.{Access, Test, Rest, Kind, Nothing, OneUpdate, Other, is_none_kind, expr_rest, test_rest, rest_step, all_rest, written_step, all_written}
use Rattle.fin_simp.specs.Fresh.{fresh_step}
use Rattle.fin_simp.specs.Sights.{Stand, Unsettled, Sight, driven_index, stand_at, sight_at, length_at}

-- ---- storages

-- the parts of the inputs, in the order of headers
abbrev pub parts_by_header : List Header → List Storage → List (Option (List Part))
parts_by_header [] inputs = []
parts_by_header (h ∷ hs) [] = None ∷ parts_by_header hs []
parts_by_header (h ∷ hs) (s ∷ inputs) = if is_input h.kind then Some s.parts ∷ parts_by_header hs inputs else None ∷ parts_by_header hs (s ∷ inputs)

-- what a program is run over, with the parts of the inputs as they are given
pub record World : Type 0 where
  pub setting : Setting
  pub given : List (Option (List Part))

-- the canonical storage of what is frozen
abbrev pub frozen_parts : Stage → List Part
frozen_parts Absent = []
frozen_parts (Built b) = []
frozen_parts (Frozen format f) = canon_parts format.levels f.fill f.shape (value_at f ∷ [])

abbrev pub parts_or : Option (List Part) → List Part → List Part
parts_or None parts = parts
parts_or (Some given) parts = given

abbrev pub parts_at : World → Run → ℕ → List Part
parts_at w r tensor = parts_or (slice_index_or w.given tensor None) (frozen_parts (stage_at r.stages tensor))

-- ---- the reads that a loop drives

-- at the entry of the loop
pub record Driven : Type 0 where
  pub read : ℕ
  pub index : Index
  pub extent : ℕ
  pub fill : ℤ
  pub stand : Stand

abbrev pub is_in : List ℕ → ℕ → Bool
is_in xs x = list_any (nat_eq x) xs

-- a tensor that the body declares, updates, freezes or thaws doesn't stand before the body is run
abbrev pub stand_of : World → Numbers → Run → List ℕ → Access → ℕ → Stand
stand_of w vars r changed a k =
    if is_in changed a.tensor then Unsettled else stand_at vars (shape_at w.setting a.tensor) (parts_at w r a.tensor) a.at k (Some 0)

abbrev pub driven_at : World → Numbers → Run → List ℕ → Access → ℕ × Index → Driven
driven_at w vars r changed a d = record {
  read = a.read;
  index = d.1;
  extent = slice_index_or (shape_at w.setting a.tensor) d.0 0;
  fill = fill_of w.setting a.tensor;
  stand = stand_of w vars r changed a d.0;
}

abbrev pub driven_by : World → Numbers → Run → ℕ → Rest → List Driven
driven_by w vars r var rest = filter_map (λ (a : Access). option_map (driven_at w vars r rest.changed a) (driven_index var a.at)) rest.reads

abbrev pub sight_of : Numbers → ℕ → ℕ → Driven → Sight
sight_of vars var c d = sight_at d.index d.extent d.stand (place (slice_set vars var (pos c)) d.index)

-- ---- the masks of a loop

-- a test that compares the variable with a bound: which stands first, and how it compares
pub record Mask : Type 0 where
  pub test : ℕ
  pub op : Op
  pub bare_first : Bool
  pub bound : ℤ

abbrev pub mask_value : Mask → ℤ → ℤ
mask_value m c = if m.bare_first then operate m.op c m.bound else operate m.op m.bound c

abbrev pub is_comparison : Op → Bool
is_comparison op.Lt = true
is_comparison op.Le = true
is_comparison op.Gt = true
is_comparison op.Ge = true
is_comparison op.Eq = true
is_comparison op.Ne = true
is_comparison _ = false

-- without reads, and without names that the loop or its body binds
abbrev pub bound_step : ℕ → Expr-F Bool → Bool
bound_step var (Expr-F.Num n) = true
bound_step var (Expr-F.Var x line) = nat_lt x var
bound_step var (Expr-F.Read tensor at line) = false
bound_step var (Expr-F.Neg inner) = inner
bound_step var (Expr-F.Two o left right) = left && right

abbrev pub is_bound_of : ℕ → Expr → Bool
is_bound_of var = fold-Expr Bool (bound_step var)

abbrev pub names_step : ℕ → Expr-F Expr → Bool
names_step var (Expr-F.Var x line) = nat_eq x var
names_step var _ = false

abbrev pub is_var : ℕ → Expr → Bool
is_var var e = names_step var (out-Expr e)

-- a comparison of the bare variable with a bound, on either side
abbrev pub mask_by : Numbers → ℕ → ℕ → Expr-F Expr → Option Mask
mask_by vars var test (Expr-F.Two o left right) =
    if is_comparison o && (is_var var left && is_bound_of var right)
    then Some (record { test = test; op = o; bare_first = true; bound = value_of right vars (λ tensor. None) })
    else (if is_comparison o && (is_var var right && is_bound_of var left)
    then Some (record { test = test; op = o; bare_first = false; bound = value_of left vars (λ tensor. None) })
    else None)
mask_by vars var test _ = None

abbrev pub and_mask : Option Mask → List Mask → List Mask
and_mask None ms = ms
and_mask (Some m) ms = m ∷ ms

abbrev pub masks_among : Numbers → ℕ → List Test → List Mask
masks_among vars var [] = []
masks_among vars var (t ∷ ts) = and_mask (mask_by vars var t.test (out-Expr t.expr)) (masks_among vars var ts)

abbrev pub masks_of : Numbers → ℕ → Rest → List Mask
masks_of vars var rest = masks_among vars var rest.tests

-- a piece ends before the bound and after it
abbrev pub mask_ends : ℕ → Mask → Bool
mask_ends c m = int_eq m.bound (pos c) || int_eq m.bound (pos (c + 1))

-- ---- chunks

abbrev pub chunk_count : Bool → ℕ → ℕ
chunk_count false len = 0
chunk_count true len = min len 256

-- a chunk begins so many coordinates behind the beginning of the loop
abbrev pub begins_chunk : ℕ → ℕ → ℕ → Bool
begins_chunk len count x = list_any (λ k. nat_eq (k * len / count) x) (range_with_len 0 count)

-- ---- loops

-- a loop as it is entered
pub record Entered : Type 0 where
  pub var : ℕ
  pub lo : ℕ
  pub len : ℕ
  pub chunks : ℕ
  pub driven : List Driven
  pub masks : List Mask

-- the first of these with that number that knows something
abbrev pub gap_among : List Driven → (Driven → Sight) → ℕ → Option ℤ
gap_among [] seen k = None
gap_among (d ∷ ds) seen k = if nat_eq d.read k && (seen d).gap then Some d.fill else gap_among ds seen k

abbrev pub test_among : List Mask → ℕ → ℕ → Option ℤ
test_among [] c k = None
test_among (m ∷ ms) c k = if nat_eq m.test k then Some (mask_value m (pos c)) else test_among ms c k

-- what is known at a coordinate
abbrev pub marks_at : Entered → Numbers → Marks → ℕ → Marks
marks_at e vars m c = record {
  reads = λ k. option_or (m.reads k) (gap_among e.driven (sight_of vars e.var c) k);
  tests = λ k. option_or (m.tests k) (test_among e.masks c k);
  vars = m.vars;
}

-- a piece ends after the coordinate
abbrev pub ends_after : Entered → Numbers → ℕ → Bool
ends_after e vars c = list_any (λ (d : Driven). (sight_of vars e.var c d).ends) e.driven || list_any (mask_ends c) e.masks || begins_chunk e.len e.chunks (c + 1 - e.lo)

abbrev pub varies_among : List Driven → (Driven → Sight) → ℕ → Bool
varies_among ds seen k = list_any (λ (d : Driven). nat_eq d.read k && (seen d).varies) ds

abbrev pub names_var : ℕ → Index → Bool
names_var var i = list_any (λ (x : Option ℕ). elim x as (λ _. Bool) [ None ↦ false | Some y ↦ nat_eq y var ]) (i.first ∷ i.second ∷ [])

abbrev pub is_one_update : Kind → Bool
is_one_update Nothing = false
is_one_update OneUpdate = true
is_one_update Other = false

-- a single update that is the same at each coordinate of the piece
abbrev pub is_fixed : Entered → Numbers → Rest → ℕ → Bool
is_fixed e vars rest c =
    is_one_update rest.kind && not (is_in rest.vars e.var) && list_all (λ i. not (names_var e.var i)) rest.targets && list_all (λ (a : Access). not (varies_among e.driven (sight_of vars e.var c) a.read)) rest.reads

-- with its work, in place of the work that was done
abbrev pub costing : ℕ → Run → Run → Run
costing n before r = record r { work = before.work + n }

abbrev pub first_share : Bool → ℕ
first_share begins = if begins then 2 else 0

-- one coordinate: nothing, a share of an update that is done at once, or a turn and the body
abbrev pub turn : Entered → (Marks → Rest) → (Marks → Action) → Marks → Numbers → Bool → ℕ → Run → Run
turn e rest body m vars begins c r =
    let here = marks_at e vars m c in
    let inner = slice_set vars e.var (pos c) in
    if is_none_kind (rest here).kind then r
    else (if is_fixed e vars (rest here) c then costing (first_share begins) r (body here inner r)
    else body here inner (worked 1 r))

-- the coordinates in their order; each knows whether a piece begins at it
abbrev pub turns : (Bool → ℕ → Run → Run) → (ℕ → Bool) → ℕ → Bool → ℕ → Run → Run
turns act ends zero begins c r = r
turns act ends (suc n) begins c r = turns act ends n (ends c) (c + 1) (act begins c r)

abbrev pub length_of : Driven → ℕ
length_of d = length_at d.index.proto d.stand

-- what stands before the pieces: a loop, its driven reads and masks, the stored lengths and the chunks
abbrev pub entry_of : Entered → ℕ
entry_of e = 1 + 2 * (length e.driven + length e.masks) + sum (map length_of e.driven) + e.chunks

-- ---- statements

-- outside all loops, or in a piece with what is known there
abbrev pub Context : Type 0
Context = Option Marks

abbrev pub marks_within : Context → Marks
marks_within None = nothing_known
marks_within (Some m) = m

-- what is left of a statement, what is written in it, the tensors that it declares, and what it does
pub record Worked : Type 0 where
  pub rest : Marks → Rest
  pub written : Rest
  pub fresh : List ℕ
  pub run : Context → Action

abbrev pub rest_in : Context → Worked → Rest
rest_in None s = s.written
rest_in (Some m) s = s.rest m

abbrev pub rests_in : Context → List Worked → Rest
rests_in None body = all_written (map (λ (s : Worked). s.written) body)
rests_in (Some m) body = all_rest (map (λ (s : Worked). s.rest) body) m

abbrev pub all_fresh : List Worked → List ℕ
all_fresh body = concat (map (λ (s : Worked). s.fresh) body)

abbrev pub all_of : List Worked → Context → Action
all_of body ctx = braced (in_turn (map (λ (s : Worked). s.run ctx) body))

abbrev pub enter : World → Context → ℕ → Bool → List Worked → Numbers → Run → Entered
enter w ctx var par body vars r = record {
  var = var;
  lo = (range_of w.setting var).0;
  len = (range_of w.setting var).1 - (range_of w.setting var).0;
  chunks = chunk_count par ((range_of w.setting var).1 - (range_of w.setting var).0);
  driven = driven_by w vars r var (rests_in ctx body);
  masks = masks_of vars var (rests_in ctx body);
}

-- a tensor that is read can be read at a loop's entry, where what is left of the body doesn't change it
abbrev pub can_be_read : World → Run → List ℕ → Access → Bool
can_be_read w r changed a = is_in changed a.tensor || is_some (tensors_of w.setting r a.tensor)

abbrev pub is_absent : World → Run → ℕ → Bool
is_absent w r t = is_made w.setting t && not (is_declared (stage_at r.stages t))

-- and each chunk of a parallel loop has tensors of its own, which aren't there before it
abbrev pub can_be_entered : World → Bool → List ℕ → Rest → Run → Bool
can_be_entered w par fresh rest r = list_all (can_be_read w r rest.changed) rest.reads && (not par || list_all (is_absent w r) fresh)

abbrev pub asked_to_enter : World → Context → Bool → List Worked → Run → Run
asked_to_enter w ctx par body r = asked_to_read (can_be_entered w par (all_fresh body) (rests_in ctx body) r) r

abbrev pub looped : Entered → (Marks → Rest) → (Marks → Action) → Marks → Action
looped e rest body m vars r = turns (turn e rest body m vars) (ends_after e vars) e.len true e.lo (worked (entry_of e) r)

abbrev pub literal_in : Context → (Marks → Option ℤ) → Option ℤ
literal_in None literal = None
literal_in (Some m) literal = literal m

abbrev pub inside : Context → ℕ → Option ℤ → Context
inside None var n = None
inside (Some m) var n = Some (binding m var n)

abbrev pub chosen : Setting → Option ℤ → Expr → Action → Action
chosen w (Some n) test body vars r = body vars r
chosen w None test body vars r = with_value w test vars (λ v r'. if int_eq v (pos 0) then r' else body vars r') (worked 1 r)

abbrev pub bound : Setting → Option ℤ → ℕ → Expr → Action → Action
bound w (Some n) var value body vars r = body (slice_set vars var n) r
bound w None var value body vars r = with_value w value vars (λ v r'. body (slice_set vars var v) r') (worked 1 r)

-- what a statement does where something is left of it
abbrev pub done : World → Here → Stmt-F Worked → Context → Action
done w h (Stmt-F.Block body line last) ctx vars r = all_of body ctx vars r
done w h (Stmt-F.Loop var range par body line last) ctx vars r =
    looped (enter w (inside ctx var None) var par body vars r) (λ m. rests_in (Some m) body) (λ m. all_of body (Some m)) (marks_within (inside ctx var None)) vars
    (asked_to_enter w (inside ctx var None) par body r)
done w h (Stmt-F.Cond test body line last) ctx vars r = chosen w.setting (literal_in ctx (test_rest test h)) test (all_of body ctx) vars r
done w h (Stmt-F.Bind var value body line last) ctx vars r =
    let literal = literal_in ctx (λ m. (expr_rest value h.read m).literal) in
    bound w.setting literal var value (all_of body (inside ctx var literal)) vars r
done w h (Stmt-F.Declare tensor value line) ctx vars r = leaf w.setting (Declare tensor) vars r
done w h (Stmt-F.Freeze tensor line) ctx vars r = leaf w.setting (Freeze tensor) vars r
done w h (Stmt-F.Thaw tensor line) ctx vars r = leaf w.setting (Thaw tensor) vars r
done w h (Stmt-F.Update tensor at by value line) ctx vars r = leaf w.setting (Update tensor at by value) vars r

-- nothing is done where nothing is left
abbrev pub unless_nothing : Kind → Run → Run → Run
unless_nothing Nothing r r' = r
unless_nothing OneUpdate r r' = r'
unless_nothing Other r r' = r'

abbrev pub work_step : World → Here → Stmt-F Worked → Worked
work_step w h s = record {
  rest = rest_step h (map-Stmt Worked (Marks → Rest) (λ x. x.rest) s);
  written = written_step h (map-Stmt Worked Rest (λ x. x.written) s);
  fresh = fresh_step (map-Stmt Worked (List ℕ) (λ x. x.fresh) s);
  run = λ ctx vars r. unless_nothing (elim ctx as (λ _. Kind) [ None ↦ Other | Some m ↦ (rest_step h (map-Stmt Worked (Marks → Rest) (λ x. x.rest) s) m).kind ]) r (done w h s ctx vars r);
}

-- ---- whole programs

abbrev pub world_of : Checked → List Storage → World
world_of c inputs = record { setting = setting_of c inputs; given = parts_by_header c.program.headers inputs }

-- a run by stages with the work by pieces
abbrev pub pieced : Checked → List Storage → Run
pieced c inputs = in_turn (map (λ (s : Worked). s.run None) (numbered_all Worked (work_step (world_of c inputs)) c.program.body outset)) (unbound c.dims) (before_all c.program.headers)

abbrev pub work_of : Checked → List Storage → ℕ
work_of c inputs = (pieced c inputs).work
