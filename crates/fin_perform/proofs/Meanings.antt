-- What the codes of the parts mean, those of the whole mean.
use Rattle.std.proofs.Common.{◌≡◌, ℕ, ◌≤◌, Bool, true, false, ◌&&◌, List, [], ◌∷◌, ◌++◌, append-nil, map, Some, None, refl, sym, ap, ◌∙◌, subst, ℤ, arith}
use Rattle.std.specs.Prelude.{Option, slice_set}
use Rattle.fin_base.specs.declared.reduce.Reduce.{Reduce}
use Rattle.fin_tensor.specs.declared.storage.Storage.{Storage}
use Rattle.fin_ast.specs.declared.checked.Checked.{Checked}
use Rattle.fin_ast.specs.declared.tree.Index.{Index}
use Rattle.fin_ast.specs.declared.tree.Expr.{Expr}
use Rattle.fin_ast.specs.declared.tree.Stmt.{Stmt}
use Rattle.fin_ast.specs.declared.tree.Stmt.TheVariants as s
use Rattle.fin_ast.specs.Accepted.{FitProgram}
use Rattle.fin_ast.specs.Bindings.{bindings_step, bindings_of, bindings_of_all}
use Rattle.fin_ast.specs.Scope.{Scope, within_let, is_named_expr, stmt_step, is_named, are_named}
use Rattle.fin_ast.specs.Shaped.{FitHeaders}
use Rattle.fin_ast.specs.Value.{Numbers}
use Rattle.fin_ast.proofs.Nodes.{of_block, of_cond, of_bind}
use Rattle.fin_ir.specs.declared.code.Code.{Code}
use Rattle.fin_stage.specs.Staged.{Run}
use Rattle.fin_stage.proofs.Alive.{left, right}
use Rattle.fin_read.specs.Values.{value_code}
use Rattle.fin_read.proofs.Equations.{code_grows}
use Rattle.fin_nest.specs.Performs.{Place}
use Rattle.fin_simp.specs.Numbered.{Here, behind, behind_test, past_stmt, past_all}
use Rattle.fin_simp.specs.Work.{World, Context, world_of, inside}
use Rattle.fin_perform.specs.Bodies.{DoesBody, LetPerforms}
use Rattle.fin_perform.specs.Codes.{update_code, cond_code, literal_code, let_code, end_of}
use Rattle.fin_perform.specs.Layouts.{heads_in}
use Rattle.fin_perform.specs.Meanings.{Means, stmt_deed, turns_deed, body_deed, MeansParts, MeansLeaves, MeansBodies, MeaningsCompose}
use Rattle.fin_perform.specs.Performing.{DoesStmt, LeafPerforms}
use Rattle.fin_perform.specs.Inside.{place_inside, InsideStands}
use Rattle.fin_perform.specs.Places.{Suits, changes, change_all}
use Rattle.fin_perform.specs.Standing.{StandsIn}
use Rattle.fin_perform.specs.Working.{turns_of, nothing_in, literal_at, test_at}
use Rattle.fin_perform.proofs.Bodies.{turns_joined, body_performs, tests_perform}
use Rattle.fin_perform.proofs.Changed.{single_changes, block_changes, cond_changes, bind_changes, declare_changes, freeze_changes, thaw_changes, update_changes}
use Rattle.fin_perform.proofs.Composing.{does_as, nothing_does, both_do}
use Rattle.fin_perform.proofs.Leaves.{leaf_performs_all, nothing_performs}
use Rattle.fin_perform.proofs.Lets.{let_performs}
use Rattle.fin_perform.proofs.Suiting.{suits_as, suits_left, suits_right, binds_inside, inside_is, suits_inside}

named_split : (xs ys : List Stmt) (sc : Scope) → are_named (xs ++ ys) sc ≡ true → (are_named xs sc ≡ true) × (are_named ys sc ≡ true)
named_split [] ys sc e = (refl, e)
named_split (x ∷ xs) ys sc e =
    let rest = named_split xs ys sc (right (is_named x sc) (are_named (xs ++ ys) sc) e) in
    (ap (λ (b : Bool). b && are_named xs sc) (left (is_named x sc) (are_named (xs ++ ys) sc) e) ∙ rest.0, rest.1)

-- ---- the parts of statements

module _ (xs : List Stmt) (line last : ℕ) where
  pub block_bound : bindings_of (s.Block xs line last) ≡ bindings_of_all xs
  block_bound = of_block (List ℕ) bindings_step xs line last

  pub block_named : (sc : Scope) → is_named (s.Block xs line last) sc ≡ true → are_named xs sc ≡ true
  block_named sc e = sym (ap (λ (f : Scope → Bool). f sc) (of_block (Scope → Bool) stmt_step xs line last)) ∙ e

  module _ (test : Expr) where
    pub cond_bound : bindings_of (s.Cond test xs line last) ≡ bindings_of_all xs
    cond_bound = of_cond (List ℕ) bindings_step test xs line last

    pub cond_named : (sc : Scope) → is_named (s.Cond test xs line last) sc ≡ true → (is_named_expr test sc && are_named xs sc) ≡ true
    cond_named sc e = sym (ap (λ (f : Scope → Bool). f sc) (of_cond (Scope → Bool) stmt_step test xs line last)) ∙ e

  module _ (var : ℕ) (value : Expr) where
    pub bind_bound : bindings_of (s.Bind var value xs line last) ≡ var ∷ bindings_of_all xs
    bind_bound = of_bind (List ℕ) bindings_step var value xs line last

    pub bind_named : (sc : Scope) → is_named (s.Bind var value xs line last) sc ≡ true → (is_named_expr value sc && are_named xs (within_let sc var)) ≡ true
    bind_named sc e = sym (ap (λ (f : Scope → Bool). f sc) (of_bind (Scope → Bool) stmt_step var value xs line last)) ∙ e

module _ (c : Checked) (next need : ℕ) (ctx : Context) where
  -- ---- one after another
  joined_means : (xs ys : List Stmt) (h : Here) (cs ds : List Code) → Means c next need cs (turns_deed xs h ctx) → Means c next need ds (turns_deed ys (past_all (map past_stmt xs) h) ctx)
      → Means c next need (cs ++ ds) (turns_deed (xs ++ ys) h ctx)
  joined_means xs ys h cs ds a b room inputs sc vars p le fits given_fit u named =
      let w : World = world_of c inputs in
      let names = named_split xs ys sc named in
      let f : Run → Run = turns_of w xs h ctx vars in
      let g : Run → Run = turns_of w ys (past_all (map past_stmt xs) h) ctx vars in
      does_as c room inputs p (cs ++ ds) (turns_of w (xs ++ ys) h ctx vars) (λ r. g (f r)) (turns_joined w xs ys h ctx vars)
      (both_do c room inputs p cs ds f g u.stands.stay
      (a room inputs sc vars p le fits given_fit (suits_left c next sc vars p xs ys h ctx u) names.0)
      (b room inputs sc vars p le fits given_fit (suits_right c next sc vars p xs ys h ctx u) names.1))

  single_means : (x : Stmt) (h : Here) (cs : List Code) → Means c next need cs (stmt_deed x h ctx) → Means c next need cs (turns_deed (x ∷ []) h ctx)
  single_means x h cs a room inputs sc vars p le fits given_fit u named =
      a room inputs sc vars p le fits given_fit
      (suits_as c next sc vars p (bindings_of_all (x ∷ [])) (bindings_of x) (change_all (x ∷ []) h ctx) (changes x h ctx) (append-nil (bindings_of x)) (single_changes x h ctx) u)
      (left (is_named x sc) true named)

  parts : MeansParts c next need ctx
  parts = record {
    none = λ h room inputs sc vars p le fits given_fit u named. nothing_does c room inputs p;
    single = single_means;
    joined = joined_means;
    body = λ xs h cs a room inputs sc vars p le fits given_fit u named. (body_performs c room inputs p ctx vars).body xs h cs (a room inputs sc vars p le fits given_fit u named);
  }

  -- ---- statements without bodies
  leaf_at : (room : ℕ) (inputs : List Storage) (sc : Scope) (vars : Numbers) (p : Place) → FitHeaders c.program.headers c.dims → FitProgram c inputs → StandsIn c sc vars p → LeafPerforms c room inputs sc vars p
  leaf_at room inputs sc vars p fits given_fit stands = leaf_performs_all c room inputs sc vars p fits given_fit stands

  update_means : (t : ℕ) (at : List Index) (by : Reduce) (value : Expr) (line : ℕ) (h : Here) → nothing_in (s.Update t at by value line) h ctx ≡ false → end_of (value_code (heads_in c) value next) ≤ need
      → Means c next need (update_code (heads_in c) t at by (value_code (heads_in c) value next) ∷ []) (stmt_deed (s.Update t at by value line) h ctx)
  update_means t at by value line h some enough room inputs sc vars p le fits given_fit u named =
      let x : Stmt = s.Update t at by value line in
      let fine : end_of (value_code (heads_in c) value p.next) ≤ room = subst (λ (n : ℕ). end_of (value_code (heads_in c) value n) ≤ room) (sym u.next_is) (omega (arith, enough, le)) in
      let loose : p.steady t ≡ false = u.loose t (update_changes h t at by value line ctx some) in
      subst (λ (n : ℕ). DoesStmt c room inputs p (update_code (heads_in c) t at by (value_code (heads_in c) value n) ∷ []) x h ctx vars) u.next_is
      ((leaf_at room inputs sc vars p fits given_fit u.stands).update t at by value line h ctx loose named fine some)

  leaves : MeansLeaves c next need ctx
  leaves = record {
    nothing = λ x h e room inputs sc vars p le fits given_fit u named. nothing_performs c room inputs p x h ctx vars e;
    declare = λ t value line h room inputs sc vars p le fits given_fit u named.
        (leaf_at room inputs sc vars p fits given_fit u.stands).declare t value line h ctx (u.loose t (declare_changes h t value line ctx)) named;
    freeze = λ t line h room inputs sc vars p le fits given_fit u named.
        (leaf_at room inputs sc vars p fits given_fit u.stands).freeze t line h ctx (u.loose t (freeze_changes h t line ctx));
    thaw = λ t line h room inputs sc vars p le fits given_fit u named.
        (leaf_at room inputs sc vars p fits given_fit u.stands).thaw t line h ctx (u.loose t (thaw_changes h t line ctx));
    update = update_means;
  }

  -- ---- blocks and tests
  block_means : (xs : List Stmt) (line last : ℕ) (h : Here) (cs : List Code) → nothing_in (s.Block xs line last) h ctx ≡ false → Means c next need cs (body_deed xs h ctx) → Means c next need cs (stmt_deed (s.Block xs line last) h ctx)
  block_means xs line last h cs some a room inputs sc vars p le fits given_fit u named =
      (body_performs c room inputs p ctx vars).block xs line last h cs some
      (a room inputs sc vars p le fits given_fit (suits_as c next sc vars p _ (bindings_of_all xs) _ (change_all xs h ctx) (block_bound xs line last) (λ t. block_changes xs line last h t ctx) u) (block_named xs line last sc named))

  module _ (test : Expr) (xs : List Stmt) (line last : ℕ) (h : Here) (cs : List Code) (some : nothing_in (s.Cond test xs line last) h ctx ≡ false) (a : Means c next need cs (body_deed xs (behind_test test h) ctx))
      (room : ℕ) (inputs : List Storage) (sc : Scope) (vars : Numbers) (p : Place) (le : need ≤ room) (fits : FitHeaders c.program.headers c.dims) (given_fit : FitProgram c inputs)
      (u : Suits c next (bindings_of (s.Cond test xs line last)) (changes (s.Cond test xs line last) h ctx) sc vars p) (named : is_named (s.Cond test xs line last) sc ≡ true) where
    chosen_does : DoesBody c room inputs p cs xs (behind_test test h) ctx vars
    chosen_does =
        a room inputs sc vars p le fits given_fit
        (suits_as c next sc vars p _ (bindings_of_all xs) _ (change_all xs (behind_test test h) ctx) (cond_bound xs line last test) (λ t. cond_changes xs line last h t test ctx some) u)
        (right (is_named_expr test sc) (are_named xs sc) (cond_named xs line last test sc named))

    known_does : (n : ℤ) → test_at test h ctx ≡ Some n → DoesStmt c room inputs p cs (s.Cond test xs line last) h ctx vars
    known_does n e = (body_performs c room inputs p ctx vars).known test xs line last h n cs some e chosen_does

    asked_does : test_at test h ctx ≡ None → end_of (value_code (heads_in c) test next) ≤ need → DoesStmt c room inputs p (cond_code (value_code (heads_in c) test next) cs ∷ []) (s.Cond test xs line last) h ctx vars
    asked_does e enough =
        let fine : end_of (value_code (heads_in c) test p.next) ≤ room = subst (λ (n : ℕ). end_of (value_code (heads_in c) test n) ≤ room) (sym u.next_is) (omega (arith, enough, le)) in
        subst (λ (n : ℕ). DoesStmt c room inputs p (cond_code (value_code (heads_in c) test n) cs ∷ []) (s.Cond test xs line last) h ctx vars) u.next_is
        (tests_perform c room inputs sc vars p fits given_fit u.stands test xs line last h ctx cs (left (is_named_expr test sc) (are_named xs sc) (cond_named xs line last test sc named)) fine some e chosen_does)

  -- ---- lets
  module _ (var : ℕ) (value : Expr) (xs : List Stmt) (line last : ℕ) (h : Here) (cs : List Code) (some : nothing_in (s.Bind var value xs line last) h ctx ≡ false)
      (o : Option ℤ) (told : literal_at value h ctx ≡ o)
      (room : ℕ) (inputs : List Storage) (sc : Scope) (vars : Numbers) (p : Place) (le : need ≤ room) (low : next ≤ need) (fits : FitHeaders c.program.headers c.dims) (given_fit : FitProgram c inputs)
      (u : Suits c next (bindings_of (s.Bind var value xs line last)) (changes (s.Bind var value xs line last) h ctx) sc vars p) (named : is_named (s.Bind var value xs line last) sc ≡ true) where
    names : (is_named_expr value sc && are_named xs (within_let sc var)) ≡ true
    names = bind_named xs line last var value sc named

    abbrev changed : ℕ → Bool
    changed = change_all xs (behind value h) (inside ctx var o)

    bound_suits : Suits c next (var ∷ bindings_of_all xs) changed sc vars p
    bound_suits = suits_as c next sc vars p _ (var ∷ bindings_of_all xs) _ changed (bind_bound xs line last var value) (λ t. bind_changes xs line last h t var value ctx o told some) u

    abbrev inner : ℤ → Place
    inner z = place_inside p (binds_inside c next sc vars p var) var z

    inner_is : (z : ℤ) → InsideStands c sc vars p (binds_inside c next sc vars p var) var z
    inner_is z = inside_is c next sc vars p var z (bindings_of_all xs) changed bound_suits

    inner_does : (z : ℤ) → Means c next need cs (body_deed xs (behind value h) (inside ctx var o)) → DoesBody c room inputs (inner z) cs xs (behind value h) (inside ctx var o) (slice_set vars var z)
    inner_does z a =
        a room inputs (within_let sc var) (slice_set vars var z) (inner z) le fits given_fit (suits_inside c next sc vars p var z (bindings_of_all xs) changed bound_suits)
        (right (is_named_expr value sc) (are_named xs (within_let sc var)) names)

    lets : LetPerforms c room inputs sc vars p var
    lets = let b = bound_suits.may_bind.0 in let_performs c room inputs sc vars p var fits given_fit u.stands (omega (arith, b.below, u.next_is, low, le)) b.binds

    abbrev Inner : Type 0
    Inner = Means c next need cs (body_deed xs (behind value h) (inside ctx var o))

    literal_does : (n : ℤ) → o ≡ Some n → Inner → DoesStmt c room inputs p (literal_code var n cs ∷ []) (s.Bind var value xs line last) h ctx vars
    literal_does n e a =
        lets.literal (inner n) value xs line last h ctx n cs some (told ∙ e) (inner_is n).inside
        (subst (λ (k : Option ℤ). DoesBody c room inputs (inner n) cs xs (behind value h) (inside ctx var k) (slice_set vars var n)) e (inner_does n a))

    evaluated_does : o ≡ None → end_of (value_code (heads_in c) value next) ≤ need → Inner
        → DoesStmt c room inputs p (let_code var (value_code (heads_in c) value next) cs ∷ []) (s.Bind var value xs line last) h ctx vars
    evaluated_does e enough a =
        let fine : end_of (value_code (heads_in c) value p.next) ≤ room = subst (λ (n : ℕ). end_of (value_code (heads_in c) value n) ≤ room) (sym u.next_is) (omega (arith, enough, le)) in
        let body : (z : ℤ) → DoesBody c room inputs (inner z) cs xs (behind value h) (inside ctx var None) (slice_set vars var z) =
        λ z. subst (λ (k : Option ℤ). DoesBody c room inputs (inner z) cs xs (behind value h) (inside ctx var k) (slice_set vars var z)) e (inner_does z a) in
        subst (λ (n : ℕ). DoesStmt c room inputs p (let_code var (value_code (heads_in c) value n) cs ∷ []) (s.Bind var value xs line last) h ctx vars) u.next_is
        (lets.evaluated inner value xs line last h ctx cs (left (is_named_expr value sc) (are_named xs (within_let sc var)) names) fine some (told ∙ e) (λ z. (inner_is z).inside) body)

  bodies : MeansBodies c next need ctx
  bodies = record {
    block = block_means;
    known = λ test xs line last h n cs some e a room inputs sc vars p le fits given_fit u named. known_does test xs line last h cs some a room inputs sc vars p le fits given_fit u named n e;
    asked = λ test xs line last h cs some e enough a room inputs sc vars p le fits given_fit u named. asked_does test xs line last h cs some a room inputs sc vars p le fits given_fit u named e enough;
    literal = λ var value xs line last h n cs some e low a room inputs sc vars p le fits given_fit u named. literal_does var value xs line last h cs some (Some n) e room inputs sc vars p le low fits given_fit u named n refl a;
    evaluated = λ var value xs line last h cs some e enough a room inputs sc vars p le fits given_fit u named.
        let low : next ≤ need = omega (arith, enough, code_grows (heads_in c) value next) in
        evaluated_does var value xs line last h cs some None e room inputs sc vars p le low fits given_fit u named refl enough a;
  }

pub meanings_compose : MeaningsCompose
meanings_compose c next need ctx = (parts c next need ctx, leaves c next need ctx, bodies c next need ctx)
