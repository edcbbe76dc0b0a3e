-- The stages agree with the modes along an accepted program, statement by statement.
use Rattle.std.proofs.Common.{◌≡◌, ◌<◌, ◌+◌, ◌-◌, ℕ, zero, suc, ℤ, pos, Bool, true, false, ◌||◌, List, [], ◌∷◌, map, Option, Some, None, if◌then◌else◌, refl, sym, ◌∙◌, subst, length}
use Rattle.std.specs.Prelude.{slice_set, slice_get, is_some, not}
use Rattle.std.specs.Ordering.{int_eq}
use Rattle.fin_base.specs.declared.reduce.Reduce.{Reduce}
use Rattle.fin_base.specs.declared.refusal.Rule.{Rule}
use Rattle.fin_tensor.specs.TensorFunction.{TensorFunction}
use Rattle.fin_tensor.specs.Building.{Building, unchanged, follows, updated}
use Rattle.fin_base.specs.Words.{apply}
use Rattle.fin_ast.specs.declared.header.Header.{Header}
use Rattle.fin_ast.specs.declared.mode.Mode.{Mode}
use Rattle.fin_ast.specs.declared.mode.Mode.TheVariants.{Undeclared, Update, Read}
use Rattle.fin_ast.specs.declared.tree.Stmt.{Stmt, map-Stmt}
use Rattle.fin_ast.specs.declared.tree.Stmt.TheOpen.{Stmt-F}
use Rattle.fin_ast.specs.Text.{Updates, Declares, Freezes, Thaws}
use Rattle.fin_ast.specs.Modes.{is_input_at}
use Rattle.fin_ast.specs.Life.{is_update, is_read, is_declared, breach_by}
use Rattle.fin_ast.specs.Scope.{Scope, is_named, are_named, stmt_step, holds_of, within_loop, within_let, is_named_expr}
use Rattle.fin_ast.specs.Value.{Numbers, place, coordinates, value_of}
use Rattle.fin_ast.specs.Dense.{Setting, made_at, range_of, shape_at}
use Rattle.fin_life.specs.Passage.{ModeOf, Passage, turned, breach_of_expr, breach_in, after_all, body_breach, stmt_passage, passage_of, passages_of}
use Rattle.fin_stage.specs.Stages.{Stage, Absent, Built, Frozen, stage_at, work_of_declaration, work_of_storing}
use Rattle.fin_stage.specs.Staged.{Run, Action, worked, with_stage, unalive, unordered, asked_to_read, asked_for_small, has_small_indices, can_read, tensors_of, are_small, braced, repeated, is_made, declare, freeze, freeze_at, thaw, thaw_at, put_at, update_at, update, format_at, staging, stage_of, stage_all}
use Rattle.fin_tensor.specs.Building.{started}
use Rattle.fin_tensor.specs.Canon.{undecorated}
use Rattle.fin_ast.specs.Actions.{act_step}
use Rattle.fin_ast.proofs.Induction.{AllOf, Held, bare, plain, all_of, each, by_three}
use Rattle.fin_stage.proofs.Onward.{Onward, braced_goes_on, all_go_on}
use Rattle.fin_ast.proofs.Unbroken.{first_none, second_none, unbroken}
use Rattle.fin_stage.proofs.Agreeing.{Agrees, closes_agree}
use Rattle.fin_stage.proofs.Alive.{Living, neither, not_not, left, right, holds_there, builds_it, not_given, made_by, worked_lives, small_lives, either, ready, staged_lives, stays_living}

abbrev scoped : List Header → Scope → Type 0
scoped hs sc = sc.headers ≡ hs

module _ (hs : List Header) (w : Setting) (given_is : (t : ℕ) → is_some (made_at w.given t) ≡ is_input_at hs t) where
  abbrev Alive : ModeOf → Run → Type 0
  Alive now r = Living hs w given_is now r

  -- ---- what is shown of a statement, and of a body
  abbrev LivesBy : Passage → (Scope → Bool) → Action → Type 0
  LivesBy p names does = (sc : Scope) (begin now : ModeOf) (vars : Numbers) (r : Run) → sc.headers ≡ hs → names sc ≡ true → p.breach begin now ≡ None → Alive now r → Alive (p.after now) (does vars r)

  abbrev Lives : Stmt → Type 0
  Lives x = LivesBy (passage_of hs x) (is_named x) (stage_of w x)

  body_lives : (body : List Stmt) → AllOf Lives body → (sc : Scope) (begin now : ModeOf) (vars : Numbers) (r : Run) → sc.headers ≡ hs → are_named body sc ≡ true → breach_in (passages_of hs body) begin now ≡ None → Alive now r → Alive (after_all (passages_of hs body) now) (stage_all w body vars r)
  body_lives [] all sc begin now vars r eh en eb l = l
  body_lives (x ∷ body) all sc begin now vars r eh en eb l =
      body_lives body all.1 sc begin ((passage_of hs x).after now) vars (stage_of w x vars r) eh (right (is_named x sc) (are_named body sc) en) (second_none ((passage_of hs x).breach begin now) _ eb)
      (all.0 sc begin now vars r eh (left (is_named x sc) (are_named body sc) en) (first_none ((passage_of hs x).breach begin now) _ eb) l)

  pub braced_lives : (body : List Stmt) → AllOf Lives body → (sc : Scope) (now : ModeOf) (last : ℕ) (vars : Numbers) (r : Run) → sc.headers ≡ hs → are_named body sc ≡ true → body_breach hs (passages_of hs body) last now ≡ None → Alive now r → Alive now (braced (stage_all w body) vars r)
  braced_lives body all sc now last vars r eh en eb l =
      let after : Alive (after_all (passages_of hs body) now) (stage_all w body vars r) = body_lives body all sc now now vars r eh en (first_none (breach_in (passages_of hs body) now now) _ eb) l in
      record {
        alive = after.alive;
        long = Onward.long (braced_goes_on (stage_all w body) (all_go_on w body) vars r) ∙ l.long;
        agree = closes_agree w hs now (after_all (passages_of hs body) now) last r.stages (stage_all w body vars r).stages l.long (Onward.long (all_go_on w body vars r)) (second_none (breach_in (passages_of hs body) now now) _ eb) l.agree after.agree;
      }

  repeated_lives : (body : List Stmt) → AllOf Lives body → (sc : Scope) (now : ModeOf) (last : ℕ) → sc.headers ≡ hs → are_named body sc ≡ true → body_breach hs (passages_of hs body) last now ≡ None → (n lo var : ℕ) (vars : Numbers) (r : Run) → Alive now r → Alive now (repeated n lo var (braced (stage_all w body)) vars r)
  repeated_lives body all sc now last eh en eb zero lo var vars r l = l
  repeated_lives body all sc now last eh en eb (suc n) lo var vars r l =
      repeated_lives body all sc now last eh en eb n (lo + 1) var vars (braced (stage_all w body) (slice_set vars var (pos lo)) (worked 1 r))
      (braced_lives body all sc now last (slice_set vars var (pos lo)) (worked 1 r) eh en eb (worked_lives hs w given_is now 1 r l))

  -- ---- single statements
  declare_lives : (sc : Scope) (t line : ℕ) (begin now : ModeOf) (r : Run) → t < length hs → breach_by hs begin now (Declares t line) ≡ None → Alive now r → Alive (turned now t Update) (declare w t r)
  declare_lives sc t line begin now r lt e l =
      let free : is_input_at hs t ≡ false = (neither (is_input_at hs t) (is_update (now t)) (neither (is_input_at hs t || is_update (now t)) (is_declared (begin t)) (unbroken _ Rule.L3 line e)).0).0 in
      let b : _ = started (format_at w t) (shape_at w t) in
      let done : Alive (turned now t Update) (worked (work_of_declaration (format_at w t).levels (shape_at w t)) (with_stage t (Built b) r)) =
      staged_lives hs w given_is now t Update (Built b) _ r lt (subst (λ (o : Option TensorFunction). Agrees Update o (Built b)) (sym (not_given hs w given_is t free)) tt) l in
      subst (λ (m : Bool). Alive (turned now t Update) (if m then worked (work_of_declaration (format_at w t).levels (shape_at w t)) (with_stage t (Built b) r) else unalive r)) (sym (made_by hs w given_is t free)) done

  freeze_lives : (t line : ℕ) (begin now : ModeOf) (r : Run) → t < length hs → breach_by hs begin now (Freezes t line) ≡ None → Alive now r → Alive (turned now t Read) (freeze t r)
  freeze_lives t line begin now r lt e l =
      let (b, m, g, x) = builds_it (now t) (made_at w.given t) (stage_at r.stages t) (not_not (is_update (now t)) (unbroken _ Rule.L4 line e)) (l.agree t) in
      subst (λ (y : Stage). Alive (turned now t Read) (freeze_at t y r)) (sym x)
      (staged_lives hs w given_is now t Read (Frozen (undecorated b.format) b.function) _ r lt (subst (λ (o : Option TensorFunction). Agrees Read o (Frozen (undecorated b.format) b.function)) (sym g) tt) l)

  -- in read mode and not given
  reads_made : (m : Mode) (g : Option TensorFunction) (x : Stage) → is_read m ≡ true → g ≡ None → Agrees m g x → (format : _) × (f : TensorFunction) × (x ≡ Frozen format f)
  reads_made Undeclared g x e n a = cc
  reads_made Update g x e n a = cc
  reads_made Read None (Frozen format f) e n a = (format, f, refl)
  reads_made Read None Absent e n a = absurd a
  reads_made Read None (Built b) e n a = absurd a
  reads_made Read (Some g) x e n a = cc

  thaw_lives : (t line : ℕ) (begin now : ModeOf) (r : Run) → t < length hs → breach_by hs begin now (Thaws t line) ≡ None → Alive now r → Alive (turned now t Update) (thaw w t r)
  thaw_lives t line begin now r lt e l =
      let two = neither (is_input_at hs t) (not (is_read (now t))) (unbroken _ Rule.L5 line e) in
      let g = not_given hs w given_is t two.0 in
      let (format, f, x) = reads_made (now t) (made_at w.given t) (stage_at r.stages t) (not_not (is_read (now t)) two.1) g (l.agree t) in
      let b : Building = unchanged format f in
      let done : Alive (turned now t Update) (thaw_at t (Frozen format f) r) = staged_lives hs w given_is now t Update (Built b) (work_of_storing format f) r lt (subst (λ (o : Option TensorFunction). Agrees Update o (Built b)) (sym g) tt) l in
      subst (λ (m : Bool). Alive (turned now t Update) (if m then thaw_at t (stage_at r.stages t) r else unalive r)) (sym (made_by hs w given_is t two.0))
      (subst (λ (y : Stage). Alive (turned now t Update) (thaw_at t y r)) (sym x) done)

  put_lives : (t : ℕ) (b : Building) (o : Option (List ℕ)) (by : Reduce) (v : ℤ) (now : ModeOf) (r : Run) → now t ≡ Update → made_at w.given t ≡ None → t < length hs → Alive now r → Alive now (put_at t b o by v r)
  put_lives t b None by v now r m g lt l = l
  put_lives t b (Some cs) by v now r m g lt l =
      either hs w given_is now (follows b cs) (with_stage t (Built (updated b cs (λ old. apply by old v))) r) (unordered r) (stays_living hs w given_is now t _ r m g lt l) (record { alive = l.alive; long = l.long; agree = l.agree })

  update_lives : (t line : ℕ) (at : List ℤ) (by : Reduce) (v : ℤ) (begin now : ModeOf) (r : Run) → t < length hs → breach_by hs begin now (Updates t [] line) ≡ None → Alive now r → Alive now (update w t at by v r)
  update_lives t line at by v begin now r lt e l =
      let two = neither (is_input_at hs t) (not (is_update (now t))) (unbroken _ Rule.L1 line e) in
      let (b, m, g, x) = builds_it (now t) (made_at w.given t) (stage_at r.stages t) (not_not (is_update (now t)) two.1) (l.agree t) in
      let done : Alive now (update_at t (Built b) at by v r) = put_lives t b (coordinates b.function.shape at) by v now r m g lt l in
      let whole : Alive now (if is_made w t then update_at t (stage_at r.stages t) at by v r else unalive r) =
      subst (λ (k : Bool). Alive now (if k then update_at t (stage_at r.stages t) at by v r else unalive r)) (sym (made_by hs w given_is t two.0)) (subst (λ (y : Stage). Alive now (update_at t y at by v r)) (sym x) done) in
      worked_lives hs w given_is now 1 _ whole

  -- ---- all statements
  there : (sc : Scope) (t : ℕ) (test : Header → Bool) → sc.headers ≡ hs → holds_of test (slice_get sc.headers t) ≡ true → t < length hs
  there sc t test eh en = holds_there test hs t (subst (λ (l : List Header). holds_of test (slice_get l t) ≡ true) eh en)

  step : (y : Stmt-F (Held Lives)) → LivesBy (stmt_passage hs (map-Stmt Stmt Passage (passage_of hs) (plain Lives y))) (stmt_step (map-Stmt Stmt (Scope → Bool) is_named (plain Lives y))) (act_step (staging w) (map-Stmt Stmt Action (stage_of w) (plain Lives y)))
  step (Stmt-F.Block xs line last) sc begin now vars r eh en eb l =
      let body : List Stmt = bare Lives xs in let all : AllOf Lives body = all_of Lives xs in
      braced_lives body all sc now last vars r eh en eb l
  step (Stmt-F.Loop var range par xs line last) sc begin now vars r eh en eb l =
      let body : List Stmt = bare Lives xs in let all : AllOf Lives body = all_of Lives xs in
      repeated_lives body all (within_loop sc var) now last eh en eb ((range_of w var).1 - (range_of w var).0) (range_of w var).0 var vars (worked 1 r) (worked_lives hs w given_is now 1 r l)
  step (Stmt-F.Cond test xs line last) sc begin now vars r eh en eb l =
      let body : List Stmt = bare Lives xs in let all : AllOf Lives body = all_of Lives xs in
      let x : Run = asked_for_small (has_small_indices test vars) (asked_to_read (can_read test (tensors_of w (worked 1 r))) (worked 1 r)) in
      let lx : Alive now x = ready hs w given_is now test vars (worked 1 r) (first_none _ _ eb) (worked_lives hs w given_is now 1 r l) in
      either hs w given_is now (int_eq (value_of test vars (tensors_of w (worked 1 r))) (pos 0)) x (braced (stage_all w body) vars x) lx (braced_lives body all sc now last vars x eh (right (is_named_expr test sc) (are_named body sc) en) (second_none (breach_of_expr now test) _ eb) lx)
  step (Stmt-F.Bind var value xs line last) sc begin now vars r eh en eb l =
      let body : List Stmt = bare Lives xs in let all : AllOf Lives body = all_of Lives xs in
      let x : Run = asked_for_small (has_small_indices value vars) (asked_to_read (can_read value (tensors_of w (worked 1 r))) (worked 1 r)) in
      let lx : Alive now x = ready hs w given_is now value vars (worked 1 r) (first_none _ _ eb) (worked_lives hs w given_is now 1 r l) in
      braced_lives body all (within_let sc var) now last (slice_set vars var (value_of value vars (tensors_of w (worked 1 r)))) x eh (right (is_named_expr value sc) (are_named body (within_let sc var)) en) (second_none (breach_of_expr now value) _ eb) lx
  step (Stmt-F.Declare tensor value line) sc begin now vars r eh en eb l = declare_lives sc tensor line begin now r (there sc tensor _ eh en) eb l
  step (Stmt-F.Freeze tensor line) sc begin now vars r eh en eb l = freeze_lives tensor line begin now r (there sc tensor _ eh en) eb l
  step (Stmt-F.Thaw tensor line) sc begin now vars r eh en eb l = thaw_lives tensor line begin now r (there sc tensor _ eh en) eb l
  step (Stmt-F.Update tensor at by value line) sc begin now vars r eh en eb l =
      let x : Run = asked_for_small (has_small_indices value vars) (asked_to_read (can_read value (tensors_of w r)) r) in
      let lx : Alive now x = ready hs w given_is now value vars r (second_none (breach_by hs begin now (Updates tensor [] line)) _ eb) l in
      update_lives tensor line (map (place vars) at) by (value_of value vars (tensors_of w r)) begin now (asked_for_small (are_small vars at) x) (there sc tensor _ eh (left _ _ (left _ (is_named_expr value sc) en))) (first_none _ (breach_of_expr now value) eb) (small_lives hs w given_is now (are_small vars at) x lx)

  pub statement_lives : (x : Stmt) → Lives x
  statement_lives = by_three (stmt_passage hs) stmt_step (act_step (staging w)) LivesBy step

  pub body_closes : (body : List Stmt) (sc : Scope) (now : ModeOf) (last : ℕ) (vars : Numbers) (r : Run) → sc.headers ≡ hs → are_named body sc ≡ true → body_breach hs (passages_of hs body) last now ≡ None → Alive now r → Alive now (braced (stage_all w body) vars r)
  body_closes body = braced_lives body (each Lives statement_lives body)

  pub statements_live : (body : List Stmt) (sc : Scope) (begin now : ModeOf) (vars : Numbers) (r : Run) → sc.headers ≡ hs → are_named body sc ≡ true → breach_in (passages_of hs body) begin now ≡ None → Alive now r → Alive (after_all (passages_of hs body) now) (stage_all w body vars r)
  statements_live body = body_lives body (each Lives statement_lives body)
