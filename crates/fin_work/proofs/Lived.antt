-- Along a run the stages of tensors agree with their modes, and statements break no rule on lives. So a loop finds what its
-- entry asks for.
use Rattle.std.proofs.Common.{◌≡◌, ℕ, Bool, true, false, ◌&&◌, ◌||◌, List, [], ◌∷◌, length, Option, Some, None, refl, sym, ap, ◌∙◌, subst}
use Rattle.std.specs.Prelude.{is_none, is_some, not}
use Rattle.std.specs.List.{list_all}
use Rattle.std.specs.Option.{option_or}
use Rattle.fin_base.specs.declared.refusal.Refusal.{Refusal}
use Rattle.fin_tensor.specs.TensorFunction.{TensorFunction}
use Rattle.fin_tensor.specs.declared.storage.Storage.{Storage}
use Rattle.fin_ast.specs.declared.header.Header.{Header}
use Rattle.fin_ast.specs.declared.mode.Mode.{Mode}
use Rattle.fin_ast.specs.declared.mode.Mode.TheVariants.{Undeclared, Update, Read}
use Rattle.fin_ast.specs.declared.checked.Checked.{Checked}
use Rattle.fin_ast.specs.declared.tree.Expr.{Expr}
use Rattle.fin_ast.specs.declared.tree.Stmt.{Stmt}
use Rattle.fin_ast.specs.declared.tree.Stmt.TheVariants as s
use Rattle.fin_ast.specs.Dense.{Setting, made_at, setting_of}
use Rattle.fin_ast.specs.Life as life
use Rattle.fin_ast.specs.Life.{is_read}
use Rattle.fin_ast.specs.Modes.{is_input_at}
use Rattle.fin_ast.specs.Scope.{Scope, is_named, are_named, within_loop, within_let}
use Rattle.fin_ast.specs.Value.{Numbers}
use Rattle.fin_ast.proofs.Nodes as node
use Rattle.fin_ast.proofs.Unbroken.{first_none, second_none}
use Rattle.fin_life.specs.Passage.{ModeOf, Passage, breach_of_expr, breach_in, body_breach, stmt_passage, passage_of, passages_of}
use Rattle.fin_stage.specs.Stages.{Stage, Absent, Built, Frozen, stage_at, is_declared}
use Rattle.fin_stage.specs.Staged.{Run, regular, tensors_of, braced, stage_of, stage_all}
use Rattle.fin_stage.specs.Trailing.{StageTrails}
use Rattle.fin_stage.proofs.Agreeing.{Agrees, AllAgree}
use Rattle.fin_stage.proofs.Alive.{Living, reads_it, left, right, both}
use Rattle.fin_stage.proofs.AliveAll.{statement_lives, body_closes}
use Rattle.fin_stage.proofs.Onward.{Onward, braced_goes_on, all_go_on}
use Rattle.fin_simp.specs.Numbered.{Here}
use Rattle.fin_simp.specs.Left.{Marks}
use Rattle.fin_simp.specs.Rest.{Access, Rest, all_rest, rest_step, all_written, written_step}
use Rattle.fin_simp.specs.Fresh.{fresh_in}
use Rattle.fin_simp.specs.Work.{World, Context, Worked, world_of, is_in, can_be_read, is_absent, can_be_entered, all_fresh, rests_in}
use Rattle.fin_simp.specs.Moving.{worked_all}
use Rattle.fin_simp.proofs.Fresh.{all_fresh_are}
use Rattle.fin_simp.proofs.Loops.{told}
use Rattle.fin_simp.proofs.Mentions.{rests}
use Rattle.fin_work.specs.Following.{Follows}
use Rattle.fin_work.proofs.Asking.{stage_goes}
use Rattle.fin_work.proofs.Following.{same_tensors}
use Rattle.fin_work.proofs.Modes.{reads_stand, written_reads_stand, fresh_are_undeclared}
use Rattle.fin_work.proofs.Numbering.{texts}

module _ {A : Type 0} (p q : A → Bool) (f : (x : A) → p x ≡ true → q x ≡ true) where
  each_passes : (xs : List A) → list_all p xs ≡ true → list_all q xs ≡ true
  each_passes [] h = refl
  each_passes (x ∷ xs) h = both (q x) (list_all q xs) (f x (left (p x) (list_all p xs) h)) (each_passes xs (right (p x) (list_all p xs) h))

still_alive : (r : Run) → regular r ≡ true → r.alive ≡ true
still_alive r g = left r.alive r.small (left (r.alive && r.small) r.ordered g)

-- a tensor that isn't declared isn't given, and is absent from both runs
absent_by : (m : Mode) (g : Option TensorFunction) (x y : Stage) → not (life.is_declared m) ≡ true → Agrees m g x → StageTrails x y → (is_none g && not (is_declared y)) ≡ true
absent_by Undeclared None Absent y n a t = ap (λ (z : Stage). not (is_declared z)) t
absent_by Undeclared None (Built b) y n a t = absurd a
absent_by Undeclared None (Frozen format f) y n a t = absurd a
absent_by Undeclared (Some g) x y n a t = absurd a
absent_by Update g x y n a t = absurd (let z : false ≡ true = n in cc)
absent_by Read g x y n a t = absurd (let z : false ≡ true = n in cc)

module _ (c : Checked) (inputs : List Storage) where
  abbrev w : World
  w = world_of c inputs

  abbrev set : Setting
  set = setting_of c inputs

  abbrev hs : List Header
  hs = c.program.headers

  -- what agrees with modes is asked for no more than is there
  pub record Agreeing (sc : Scope) (now : ModeOf) (r : Run) : Type 0 where
    pub given : (t : ℕ) → is_some (made_at set.given t) ≡ is_input_at hs t
    pub scoped : sc.headers ≡ hs
    pub long : length r.stages ≡ length hs
    pub agree : AllAgree set now r.stages

  -- of statements, from the modes at the beginning of their body and before them
  pub record Lived (sc : Scope) (xs : List Stmt) (r : Run) : Type 0 where
    pub begin : ModeOf
    pub now : ModeOf
    pub unbroken : breach_in (passages_of hs xs) begin now ≡ None
    pub agreeing : Agreeing sc now r

  -- of a body, which leaves the modes before it
  pub record BodyLived (sc : Scope) (body : List Stmt) (r : Run) : Type 0 where
    pub now : ModeOf
    pub last : ℕ
    pub unbroken : body_breach hs (passages_of hs body) last now ≡ None
    pub agreeing : Agreeing sc now r

  same_agreeing : (sc : Scope) (now : ModeOf) (r n : Run) → n.stages ≡ r.stages → Agreeing sc now r → Agreeing sc now n
  same_agreeing sc now r n e a = record { given = a.given; scoped = a.scoped; long = ap (λ (xs : List Stage). length xs) e ∙ a.long; agree = subst (AllAgree set now) (sym e) a.agree }

  pub lived_same : (sc : Scope) (xs : List Stmt) (r n : Run) → n.stages ≡ r.stages → Lived sc xs r → Lived sc xs n
  lived_same sc xs r n e l = record { begin = l.begin; now = l.now; unbroken = l.unbroken; agreeing = same_agreeing sc l.now r n e l.agreeing }

  pub body_same : (sc : Scope) (body : List Stmt) (r n : Run) → n.stages ≡ r.stages → BodyLived sc body r → BodyLived sc body n
  body_same sc body r n e l = record { now = l.now; last = l.last; unbroken = l.unbroken; agreeing = same_agreeing sc l.now r n e l.agreeing }

  living : (sc : Scope) (now : ModeOf) (r : Run) (a : Agreeing sc now r) → r.alive ≡ true → Living hs set a.given now r
  living sc now r a e = record { alive = e; long = a.long; agree = a.agree }

  -- ---- behind a statement
  pub lived_next : (sc : Scope) (x : Stmt) (xs : List Stmt) (vars : Numbers) (r : Run) → are_named (x ∷ xs) sc ≡ true → regular (stage_of set x vars r) ≡ true
      → Lived sc (x ∷ xs) r → Lived sc xs (stage_of set x vars r)
  lived_next sc x xs vars r named g l =
      let n = stage_of set x vars r in
      let alive = Onward.alive (stage_goes w x vars r) (still_alive n g) in
      let lives = statement_lives hs set l.agreeing.given x sc l.begin l.now vars r l.agreeing.scoped (left (is_named x sc) (are_named xs sc) named)
      (first_none ((passage_of hs x).breach l.begin l.now) _ l.unbroken) (living sc l.now r l.agreeing alive) in
      record {
        begin = l.begin;
        now = (passage_of hs x).after l.now;
        unbroken = second_none ((passage_of hs x).breach l.begin l.now) _ l.unbroken;
        agreeing = record { given = l.agreeing.given; scoped = l.agreeing.scoped; long = Living.long lives; agree = Living.agree lives };
      }

  -- ---- in a body
  pub begun : (sc : Scope) (body : List Stmt) (r : Run) → BodyLived sc body r → Lived sc body r
  begun sc body r l = record { begin = l.now; now = l.now; unbroken = first_none (breach_in (passages_of hs body) l.now l.now) _ l.unbroken; agreeing = l.agreeing }

  abbrev breach_from : ModeOf → ModeOf → Passage → Option Refusal
  breach_from begin now p = p.breach begin now

  loop_unbroken : (var : ℕ) (range : Option (ℕ × ℕ)) (par : Bool) (body : List Stmt) (line last : ℕ) (begin now : ModeOf)
      → (passage_of hs (s.Loop var range par body line last)).breach begin now ≡ None → body_breach hs (passages_of hs body) last now ≡ None
  loop_unbroken var range par body line last begin now q = sym (ap (breach_from begin now) (node.of_loop Passage (stmt_passage hs) var range par body line last)) ∙ q

  module _ (sc : Scope) (xs : List Stmt) (r : Run) where
    entered : (x : Stmt) (sc' : Scope) (body : List Stmt) (last : ℕ) → sc'.headers ≡ sc.headers
        → ((begin now : ModeOf) → (passage_of hs x).breach begin now ≡ None → body_breach hs (passages_of hs body) last now ≡ None)
        → Lived sc (x ∷ xs) r → BodyLived sc' body r
    entered x sc' body last e f l = record {
      now = l.now;
      last = last;
      unbroken = f l.begin l.now (first_none ((passage_of hs x).breach l.begin l.now) _ l.unbroken);
      agreeing = record { given = l.agreeing.given; scoped = e ∙ l.agreeing.scoped; long = l.agreeing.long; agree = l.agreeing.agree };
    }

    pub in_block : (body : List Stmt) (line last : ℕ) → Lived sc (s.Block body line last ∷ xs) r → BodyLived sc body r
    in_block body line last = entered (s.Block body line last) sc body last refl (λ begin now q. sym (ap (breach_from begin now) (node.of_block Passage (stmt_passage hs) body line last)) ∙ q)

    pub in_loop : (var : ℕ) (range : Option (ℕ × ℕ)) (par : Bool) (body : List Stmt) (line last : ℕ) → Lived sc (s.Loop var range par body line last ∷ xs) r → BodyLived (within_loop sc var) body r
    in_loop var range par body line last =
        entered (s.Loop var range par body line last) (within_loop sc var) body last refl (loop_unbroken var range par body line last)

    pub in_cond : (test : Expr) (body : List Stmt) (line last : ℕ) → Lived sc (s.Cond test body line last ∷ xs) r → BodyLived sc body r
    in_cond test body line last =
        entered (s.Cond test body line last) sc body last refl
        (λ begin now q. second_none (breach_of_expr now test) _ (sym (ap (breach_from begin now) (node.of_cond Passage (stmt_passage hs) test body line last)) ∙ q))

    pub in_bind : (var : ℕ) (value : Expr) (body : List Stmt) (line last : ℕ) → Lived sc (s.Bind var value body line last ∷ xs) r → BodyLived (within_let sc var) body r
    in_bind var value body line last =
        entered (s.Bind var value body line last) (within_let sc var) body last refl
        (λ begin now q. second_none (breach_of_expr now value) _ (sym (ap (breach_from begin now) (node.of_bind Passage (stmt_passage hs) var value body line last)) ∙ q))

  -- a body's end leaves what is held before it
  pub body_again : (sc : Scope) (body : List Stmt) (vars : Numbers) (r : Run) → are_named body sc ≡ true → regular (braced (stage_all set body) vars r) ≡ true
      → BodyLived sc body r → BodyLived sc body (braced (stage_all set body) vars r)
  body_again sc body vars r named g l =
      let n = braced (stage_all set body) vars r in
      let alive = Onward.alive (braced_goes_on (stage_all set body) (all_go_on set body) vars r) (still_alive n g) in
      let lives = body_closes hs set l.agreeing.given body sc l.now l.last vars r l.agreeing.scoped named l.unbroken (living sc l.now r l.agreeing alive) in
      record { now = l.now; last = l.last; unbroken = l.unbroken; agreeing = record { given = l.agreeing.given; scoped = l.agreeing.scoped; long = Living.long lives; agree = Living.agree lives } }

  -- ---- the entry of a loop
  module _ (sc : Scope) (now : ModeOf) (r r' : Run) (a : Agreeing sc now r) (f : Follows r r') where
    can_read_by : (t : ℕ) → is_read (now t) ≡ true → is_some (tensors_of set r' t) ≡ true
    can_read_by t e = sym (ap (λ (ts : ℕ → Option TensorFunction). is_some (ts t)) (same_tensors set r r' f)) ∙ reads_it (now t) (made_at set.given t) (stage_at r.stages t) e (a.agree t)

    either_read : (b : Bool) (t : ℕ) → (b || is_read (now t)) ≡ true → (b || is_some (tensors_of set r' t)) ≡ true
    either_read true t e = refl
    either_read false t e = can_read_by t e

    all_can_be_read : (changed : List ℕ) (reads : List Access) → list_all (λ (x : Access). is_in changed x.tensor || is_read (now x.tensor)) reads ≡ true
        → list_all (can_be_read w r' changed) reads ≡ true
    all_can_be_read changed = each_passes (λ (x : Access). is_in changed x.tensor || is_read (now x.tensor)) (can_be_read w r' changed) (λ x e. either_read (is_in changed x.tensor) x.tensor e)

    all_absent : (ts : List ℕ) → list_all (λ t. not (life.is_declared (now t))) ts ≡ true → list_all (is_absent w r') ts ≡ true
    all_absent =
        each_passes (λ t. not (life.is_declared (now t))) (is_absent w r')
        (λ t e. absent_by (now t) (made_at set.given t) (stage_at r.stages t) (stage_at r'.stages t) e (a.agree t) (f.stages t))

  abbrev AllStand : ModeOf → Rest → Type 0
  AllStand now r = list_all (λ (x : Access). is_in r.changed x.tensor || is_read (now x.tensor)) r.reads ≡ true

  rests_stand : (ctx : Context) (body : List Stmt) (h : Here) (now : ModeOf) → breach_in (passages_of hs body) now now ≡ None → AllStand now (rests_in ctx (worked_all w body h))
  rests_stand None body h now q =
      let same : rests_in None (worked_all w body h) ≡ texts body h = ap all_written (told w Rest written_step (λ (z : Worked). z.written) (λ k y. refl) body h) in
      subst (AllStand now) (sym same) (written_reads_stand hs body h now now q)
  rests_stand (Some m) body h now q =
      let same : rests_in (Some m) (worked_all w body h) ≡ rests body h m =
      ap (λ (fs : List (Marks → Rest)). all_rest fs m) (told w (Marks → Rest) rest_step (λ (z : Worked). z.rest) (λ k y. refl) body h) in
      subst (AllStand now) (sym same) (reads_stand hs body h m now now q)

  module _ (sc : Scope) (var : ℕ) (range : Option (ℕ × ℕ)) (body : List Stmt) (line last : ℕ) (xs : List Stmt) (h : Here) (r r' : Run) (f : Follows r r') where
    fresh_absent : (par : Bool) (l : Lived sc (s.Loop var range par body line last ∷ xs) r) → (not par || list_all (is_absent w r') (all_fresh (worked_all w body h))) ≡ true
    fresh_absent false l = refl
    fresh_absent true l =
        let x = s.Loop var range true body line last in
        let one = ap (λ (o : Option Refusal). option_or o None) (first_none ((passage_of hs x).breach l.begin l.now) _ l.unbroken) in
        subst (λ (ts : List ℕ). list_all (is_absent w r') ts ≡ true) (sym (all_fresh_are w body h))
        (all_absent sc l.now r r' l.agreeing f (fresh_in body) (fresh_are_undeclared hs var range true body line last l.begin l.now one))

    pub enterable : (ctx : Context) (par : Bool) → Lived sc (s.Loop var range par body line last ∷ xs) r
        → can_be_entered w par (all_fresh (worked_all w body h)) (rests_in ctx (worked_all w body h)) r' ≡ true
    enterable ctx par l =
        let rest = rests_in ctx (worked_all w body h) in
        let x = s.Loop var range par body line last in
        let inner = loop_unbroken var range par body line last l.begin l.now (first_none ((passage_of hs x).breach l.begin l.now) _ l.unbroken) in
        both (list_all (can_be_read w r' rest.changed) rest.reads) (not par || list_all (is_absent w r') (all_fresh (worked_all w body h)))
        (all_can_be_read sc l.now r r' l.agreeing f rest.changed rest.reads (rests_stand ctx body h l.now (first_none (breach_in (passages_of hs body) l.now l.now) _ inner)))
        (fresh_absent par l)
