-- What stays off a statement stays off its parts.
use Rattle.std.proofs.Common.{◌≡◌, ℕ, ◌<◌, ◌≤◌, Bool, true, false, ◌||◌, List, [], ◌∷◌, ◌++◌, Option, Some, None, refl, sym, ap, ◌∙◌, ℤ, arith}
use Rattle.std.specs.Prelude.{not, nat_eq}
use Rattle.std.proofs.lemmas.Bool.Decides.{nat_tests}
use Rattle.fin_base.specs.declared.reduce.Reduce.{Reduce}
use Rattle.fin_ast.specs.declared.tree.Index.{Index}
use Rattle.fin_ast.specs.declared.tree.Expr.{Expr}
use Rattle.fin_ast.specs.declared.tree.Stmt.{Stmt}
use Rattle.fin_ast.specs.declared.tree.Stmt.TheVariants as s
use Rattle.fin_ast.specs.Bindings.{bindings_of, bindings_of_all, bindings_step}
use Rattle.fin_ast.specs.Scope.{is_among}
use Rattle.fin_ast.proofs.Nodes.{of_block, of_cond, of_bind}
use Rattle.fin_nest.specs.Sparing.{Staying}
use Rattle.fin_simp.specs.Numbered.{Here, behind, behind_test, past_stmt}
use Rattle.fin_simp.specs.Rest.{rest_of, written}
use Rattle.fin_simp.specs.Work.{Context, inside}
use Rattle.fin_perform.specs.Appending.{StaysOff}
use Rattle.fin_perform.specs.Meanings.{Deed}
use Rattle.fin_perform.specs.Places.{changes, change_all, left_of_all}
use Rattle.fin_perform.specs.Working.{nothing_in, literal_at}
use Rattle.fin_perform.proofs.Changed.{block_changes, cond_changes, bind_changes, update_changes}
use Rattle.fin_perform.proofs.Spared.{first_not, second_not}
use Rattle.fin_perform.proofs.Suiting.{in_left, in_right}

-- what stays off the one deed stays off the other
abbrev pub Off : ℕ → Deed → Deed → Type 0
Off next d e = (s : Staying) → StaysOff s next e.bound e.written → StaysOff s next d.bound d.written

-- off a statement, and off statements one after another
abbrev pub OffStmt : Staying → ℕ → Stmt → Here → Context → Type 0
OffStmt s next x h ctx = StaysOff s next (bindings_of x) (changes x h ctx)

abbrev pub OffAll : Staying → ℕ → List Stmt → Here → Context → Type 0
OffAll s next xs h ctx = StaysOff s next (bindings_of_all xs) (change_all xs h ctx)

-- ---- less is bound, and less is changed

not_less : (a b : Bool) → (a ≡ true → b ≡ true) → b ≡ false → a ≡ false
not_less true b f e = let h : false ≡ true = sym e ∙ f refl in cc
not_less false b f e = refl

off_by : (s : Staying) (next : ℕ) (bs bs' : List ℕ) (ws ws' : ℕ → Bool) → ((y : ℕ) → is_among bs y ≡ true → is_among bs' y ≡ true)
    → ((t : ℕ) → ws t ≡ true → ws' t ≡ true) → StaysOff s next bs' ws' → StaysOff s next bs ws
off_by s next bs bs' ws ws' f g off = record {
  below = off.below;
  unbound = λ y e. not_less (is_among bs y) (is_among bs' y) (f y) (off.unbound y e);
  unwritten = λ t e. not_less (ws t) (ws' t) (g t) (off.unwritten t e);
}

same_bound : (bs bs' : List ℕ) → bs' ≡ bs → (y : ℕ) → is_among bs y ≡ true → is_among bs' y ≡ true
same_bound bs bs' e y h = ap (λ (vs : List ℕ). is_among vs y) e ∙ h

-- ---- one statement after another

module _ (x : Stmt) (rest : List Stmt) (h : Here) where
  first_changes : (ctx : Context) (t : ℕ) → changes x h ctx t ≡ true → change_all (x ∷ rest) h ctx t ≡ true
  first_changes None t e = in_left (written x h).changed (left_of_all rest (past_stmt x h) None).changed t e
  first_changes (Some m) t e = in_left (rest_of x h m).changed (left_of_all rest (past_stmt x h) (Some m)).changed t e

  later_changes : (ctx : Context) (t : ℕ) → change_all rest (past_stmt x h) ctx t ≡ true → change_all (x ∷ rest) h ctx t ≡ true
  later_changes None t e = in_right (written x h).changed (left_of_all rest (past_stmt x h) None).changed t e
  later_changes (Some m) t e = in_right (rest_of x h m).changed (left_of_all rest (past_stmt x h) (Some m)).changed t e

  pub off_first : (ctx : Context) (s : Staying) (next : ℕ) → OffAll s next (x ∷ rest) h ctx → OffStmt s next x h ctx
  off_first ctx s next =
      off_by s next (bindings_of x) (bindings_of_all (x ∷ rest)) (changes x h ctx) (change_all (x ∷ rest) h ctx)
      (λ y. in_left (bindings_of x) (bindings_of_all rest) y) (first_changes ctx)

  pub off_later : (ctx : Context) (s : Staying) (next : ℕ) → OffAll s next (x ∷ rest) h ctx → OffAll s next rest (past_stmt x h) ctx
  off_later ctx s next =
      off_by s next (bindings_of_all rest) (bindings_of_all (x ∷ rest)) (change_all rest (past_stmt x h) ctx) (change_all (x ∷ rest) h ctx)
      (λ y. in_right (bindings_of x) (bindings_of_all rest) y) (later_changes ctx)

-- ---- bodies

module _ (xs : List Stmt) (line last : ℕ) (h : Here) (ctx : Context) where
  pub off_block : (st : Staying) (next : ℕ) → OffStmt st next (s.Block xs line last) h ctx → OffAll st next xs h ctx
  off_block st next =
      off_by st next (bindings_of_all xs) (bindings_of (s.Block xs line last)) (change_all xs h ctx) (changes (s.Block xs line last) h ctx)
      (same_bound (bindings_of_all xs) (bindings_of (s.Block xs line last)) (of_block (List ℕ) bindings_step xs line last)) (λ t. block_changes xs line last h t ctx)

pub off_cond : (test : Expr) (xs : List Stmt) (line last : ℕ) (h : Here) (ctx : Context) → nothing_in (s.Cond test xs line last) h ctx ≡ false → (st : Staying) (next : ℕ)
    → OffStmt st next (s.Cond test xs line last) h ctx → OffAll st next xs (behind_test test h) ctx
off_cond test xs line last h ctx some st next =
    off_by st next (bindings_of_all xs) (bindings_of (s.Cond test xs line last)) (change_all xs (behind_test test h) ctx) (changes (s.Cond test xs line last) h ctx)
    (same_bound (bindings_of_all xs) (bindings_of (s.Cond test xs line last)) (of_cond (List ℕ) bindings_step test xs line last))
    (λ t. cond_changes xs line last h t test ctx some)

module _ (var : ℕ) (value : Expr) (xs : List Stmt) (line last : ℕ) (h : Here) (ctx : Context) where
  bound_is : bindings_of (s.Bind var value xs line last) ≡ var ∷ bindings_of_all xs
  bound_is = of_bind (List ℕ) bindings_step var value xs line last

  pub off_bind : (o : Option ℤ) → literal_at value h ctx ≡ o → nothing_in (s.Bind var value xs line last) h ctx ≡ false → (st : Staying) (next : ℕ)
      → OffStmt st next (s.Bind var value xs line last) h ctx → OffAll st next xs (behind value h) (inside ctx var o)
  off_bind o is some st next =
      off_by st next (bindings_of_all xs) (bindings_of (s.Bind var value xs line last)) (change_all xs (behind value h) (inside ctx var o)) (changes (s.Bind var value xs line last) h ctx)
      (λ y e. ap (λ (vs : List ℕ). is_among vs y) bound_is ∙ in_right (var ∷ []) (bindings_of_all xs) y e)
      (λ t. bind_changes xs line last h t var value ctx o is some)

  -- the variable itself may be assigned
  pub off_bound : (st : Staying) (next : ℕ) → OffStmt st next (s.Bind var value xs line last) h ctx → not (st.locals var) ≡ true
  off_bound st next off = by (st.locals var) refl where
    by : (b : Bool) → st.locals var ≡ b → not b ≡ true
    by false e = refl
    by true e =
        let own : nat_eq var var ≡ false = first_not (nat_eq var var) _ (sym (ap (λ (vs : List ℕ). is_among vs var) bound_is) ∙ off.unbound var e) in
        let same : var ≡ var = refl in
        grind (arith, nat_tests, own)

-- ---- updates

pub off_free : (y : ℕ) {next : ℕ} → next ≤ y → (st : Staying) → ((x : ℕ) → st.locals x ≡ true → x < next) → st.locals y ≡ false
off_free y {next} le st below = by (st.locals y) refl where
  by : (b : Bool) → st.locals y ≡ b → st.locals y ≡ false
  by false e = e
  by true e = let lt : y < next = below y e in absurd (omega (arith, lt, le))

pub off_update : (t : ℕ) (at : List Index) (by' : Reduce) (value : Expr) (line : ℕ) (h : Here) (ctx : Context) → nothing_in (s.Update t at by' value line) h ctx ≡ false
    → (st : Staying) (next : ℕ) → OffStmt st next (s.Update t at by' value line) h ctx → st.tensors t ≡ false
off_update t at by' value line h ctx some st next off = by (st.tensors t) refl where
  by : (b : Bool) → st.tensors t ≡ b → st.tensors t ≡ false
  by false e = e
  by true e = let both : false ≡ true = sym (off.unwritten t e) ∙ update_changes h t at by' value line ctx some in cc
