-- The tensors that what is left of a part of a statement changes, what is left of the statement changes.
use Rattle.std.proofs.Common.{◌≡◌, ℕ, Bool, true, false, List, [], ◌∷◌, ◌++◌, Option, Some, None, refl, sym, ap, ◌∙◌, ℤ, pos, arith}
use Rattle.std.specs.Prelude.{nat_eq, if◌then◌else◌, ◌||◌}
use Rattle.std.specs.Ordering.{int_eq}
use Rattle.std.proofs.lemmas.Bool.{or_left}
use Rattle.std.proofs.lemmas.Bool.Decides.{nat_tests}
use Rattle.std.proofs.lemmas.List.Folds.{list_any-append}
use Rattle.fin_base.specs.declared.reduce.Reduce.{Reduce}
use Rattle.fin_ast.specs.declared.tree.Index.{Index}
use Rattle.fin_ast.specs.declared.tree.Expr.{Expr}
use Rattle.fin_ast.specs.declared.tree.Stmt.{Stmt}
use Rattle.fin_ast.specs.declared.tree.Stmt.TheOpen.{Stmt-F}
use Rattle.fin_ast.specs.declared.tree.Stmt.TheVariants as s
use Rattle.fin_simp.specs.Left.{Marks, binding}
use Rattle.fin_simp.specs.Numbered.{Here, behind, behind_test, numbered_all}
use Rattle.fin_simp.specs.Remaining.{is_identity_literal, is_nothing}
use Rattle.fin_simp.specs.Rest.{ExprRest, Test, Kind, Nothing, OneUpdate, Other, Rest, is_none_kind, nothing, within_kind, chosen_rest, let_rest, updating_rest, expr_rest, test_rest, rest_step, rest_of, written_step, written}
use Rattle.fin_simp.specs.Work.{Context, is_in, inside}
use Rattle.fin_simp.proofs.Equations.{at_block, at_cond, at_bind, at_declare, at_freeze, at_thaw, at_update}
use Rattle.fin_simp.proofs.Resting.{rest_agrees}
use Rattle.fin_perform.specs.Places.{changes, change_all}
use Rattle.fin_perform.specs.Working.{nothing_in, literal_at}

-- ---- a rest of which something is left

within_changed : (e : ExprRest) (ts : List Test) (r : Rest) (k : Kind) → r.kind ≡ k → is_none_kind (within_kind k e ts r).kind ≡ false → (within_kind k e ts r).changed ≡ r.changed
within_changed e ts r Nothing is some = cc
within_changed e ts r OneUpdate is some = refl
within_changed e ts r Other is some = refl

if_changed : (b : Bool) (r : Rest) → is_none_kind (if b then nothing else r).kind ≡ false → (if b then nothing else r).changed ≡ r.changed
if_changed true r some = cc
if_changed false r some = refl

chosen_changed : (o : Option ℤ) (e : ExprRest) (t : Test) (r : Rest) → is_none_kind (chosen_rest o e t r).kind ≡ false → (chosen_rest o e t r).changed ≡ r.changed
chosen_changed None e t r some = within_changed e (t ∷ []) r r.kind refl some
chosen_changed (Some n) e t r some = if_changed (int_eq n (pos 0)) r some

let_changed : (o : Option ℤ) (e : ExprRest) (r : Rest) → is_none_kind (let_rest o e r).kind ≡ false → (let_rest o e r).changed ≡ r.changed
let_changed None e r some = within_changed e [] r r.kind refl some
let_changed (Some n) e r some = refl

pub itself_in : (t : ℕ) → is_in (t ∷ []) t ≡ true
itself_in t = elim (nat_eq t t) as (λ b. nat_eq t t ≡ b → (b || false) ≡ true) [
  | true ↦ (λ e. refl)
  | false ↦ (λ e. absurd (let k : t ≡ t = refl in grind (arith, nat_tests)))
] refl

update_changed : (t : ℕ) (at : List Index) (b : Bool) (e : ExprRest) → is_none_kind (updating_rest t at b e).kind ≡ false → is_in (updating_rest t at b e).changed t ≡ true
update_changed t at true e some = cc
update_changed t at false e some = itself_in t

-- something is left of the statement
some_left : (x : Stmt) (h : Here) (m : Marks) (r : Rest) → is_nothing x h m ≡ false → rest_of x h m ≡ r → is_none_kind r.kind ≡ false
some_left x h m r some is = ap (λ (q : Rest). is_none_kind q.kind) (sym is) ∙ rest_agrees x h m ∙ some

-- ---- one statement alone

alone : (ys : List ℕ) (t : ℕ) → is_in ys t ≡ true → is_in (ys ++ []) t ≡ true
alone ys t e = list_any-append (nat_eq t) ys [] ∙ or_left (is_in ys t) false e

pub single_changes : (x : Stmt) (h : Here) (ctx : Context) (t : ℕ) → changes x h ctx t ≡ true → change_all (x ∷ []) h ctx t ≡ true
single_changes x h None t e = alone (written x h).changed t e
single_changes x h (Some m) t e = alone (rest_of x h m).changed t e

-- ---- statements with bodies

abbrev Left : Type 0
Left = Marks → Rest

module _ (xs : List Stmt) (line last : ℕ) (h : Here) (t : ℕ) where
  pub block_changes : (ctx : Context) → change_all xs h ctx t ≡ true → changes (s.Block xs line last) h ctx t ≡ true
  block_changes None e = ap (λ (r : Rest). is_in r.changed t) (at_block Rest written_step xs line last h) ∙ e
  block_changes (Some m) e = ap (λ (f : Left). is_in (f m).changed t) (at_block Left rest_step xs line last h) ∙ e

  module _ (test : Expr) where
    abbrev chosen : Marks → Rest
    chosen m = rest_step h (Stmt-F.Cond test (numbered_all Left rest_step xs (behind_test test h)) line last) m

    pub cond_changes : (ctx : Context) → nothing_in (s.Cond test xs line last) h ctx ≡ false → change_all xs (behind_test test h) ctx t ≡ true
        → changes (s.Cond test xs line last) h ctx t ≡ true
    cond_changes None some e = ap (λ (r : Rest). is_in r.changed t) (at_cond Rest written_step test xs line last h) ∙ e
    cond_changes (Some m) some e =
        let is = ap (λ (f : Left). f m) (at_cond Left rest_step test xs line last h) in
        ap (λ (r : Rest). is_in r.changed t) is
        ∙ ap (λ (cs : List ℕ). is_in cs t) (chosen_changed (test_rest test h m) (expr_rest test h.read m) _ _ (some_left (s.Cond test xs line last) h m (chosen m) some is))
        ∙ e

  module _ (var : ℕ) (value : Expr) where
    abbrev let_of : Marks → Rest
    let_of m = rest_step h (Stmt-F.Bind var value (numbered_all Left rest_step xs (behind value h)) line last) m

    pub bind_changes : (ctx : Context) (o : Option ℤ) → literal_at value h ctx ≡ o → nothing_in (s.Bind var value xs line last) h ctx ≡ false
        → change_all xs (behind value h) (inside ctx var o) t ≡ true → changes (s.Bind var value xs line last) h ctx t ≡ true
    bind_changes None o is some e = ap (λ (r : Rest). is_in r.changed t) (at_bind Rest written_step var value xs line last h) ∙ e
    bind_changes (Some m) o is some e =
        let made = ap (λ (f : Left). f m) (at_bind Left rest_step var value xs line last h) in
        ap (λ (r : Rest). is_in r.changed t) made
        ∙ ap (λ (cs : List ℕ). is_in cs t) (let_changed (expr_rest value h.read m).literal (expr_rest value h.read m) _ (some_left (s.Bind var value xs line last) h m (let_of m) some made))
        ∙ ap (λ (k : Option ℤ). change_all xs (behind value h) (Some (binding m var k)) t) is ∙ e

-- ---- statements without bodies change their tensors

module _ (h : Here) (t : ℕ) where
  pub declare_changes : (value : ℤ) (line : ℕ) (ctx : Context) → changes (s.Declare t value line) h ctx t ≡ true
  declare_changes value line None = ap (λ (r : Rest). is_in r.changed t) (at_declare Rest written_step t value line h) ∙ itself_in t
  declare_changes value line (Some m) = ap (λ (f : Left). is_in (f m).changed t) (at_declare Left rest_step t value line h) ∙ itself_in t

  pub freeze_changes : (line : ℕ) (ctx : Context) → changes (s.Freeze t line) h ctx t ≡ true
  freeze_changes line None = ap (λ (r : Rest). is_in r.changed t) (at_freeze Rest written_step t line h) ∙ itself_in t
  freeze_changes line (Some m) = ap (λ (f : Left). is_in (f m).changed t) (at_freeze Left rest_step t line h) ∙ itself_in t

  pub thaw_changes : (line : ℕ) (ctx : Context) → changes (s.Thaw t line) h ctx t ≡ true
  thaw_changes line None = ap (λ (r : Rest). is_in r.changed t) (at_thaw Rest written_step t line h) ∙ itself_in t
  thaw_changes line (Some m) = ap (λ (f : Left). is_in (f m).changed t) (at_thaw Left rest_step t line h) ∙ itself_in t

  pub update_changes : (at : List Index) (by : Reduce) (value : Expr) (line : ℕ) (ctx : Context) → nothing_in (s.Update t at by value line) h ctx ≡ false
      → changes (s.Update t at by value line) h ctx t ≡ true
  update_changes at by value line None some = ap (λ (r : Rest). is_in r.changed t) (at_update Rest written_step t at by value line h) ∙ itself_in t
  update_changes at by value line (Some m) some =
      let made = ap (λ (f : Left). f m) (at_update Left rest_step t at by value line h) in
      ap (λ (r : Rest). is_in r.changed t) made
      ∙ update_changed t at (is_identity_literal by (expr_rest value h.read m).literal) (expr_rest value h.read m)
      (some_left (s.Update t at by value line) h m (rest_step h (Stmt-F.Update t at by value line) m) some made)
