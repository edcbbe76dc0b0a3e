-- The test that makes no tree agrees with what is left.
use Rattle.std.proofs.Common.{◌≡◌, ℕ, ℤ, pos, Bool, true, false, ◌&&◌, ◌||◌, List, [], ◌∷◌, ◌++◌, Option, Some, None, refl, sym, ap, ◌∙◌, if◌then◌else◌}
use Rattle.std.specs.List.{list_any}
use Rattle.std.specs.Ordering.{int_eq}
use Rattle.fin_base.specs.declared.reduce.Reduce.{Reduce}
use Rattle.fin_ast.specs.declared.tree.Stmt.{Stmt}
use Rattle.fin_ast.specs.declared.tree.Stmt.TheVariants as s
use Rattle.fin_ast.proofs.Induction.{AllOf, Cases, by_kind, all_by_kind}
use Rattle.fin_simp.specs.Numbered.{Here, behind, behind_test, past_stmt}
use Rattle.fin_simp.specs.declared.remainder.Left.{Left}
use Rattle.fin_simp.specs.declared.remainder.Left.TheVariants.{Literal, Open}
use Rattle.fin_simp.specs.Left.{Marks, binding, literal_in, as_expr, fails, left_of}
use Rattle.fin_simp.specs.Simplified.{is_identity, is_declaration, opened, around, settled, chosen, test_left, bound, simplified_step, simplified, simplified_all}
use Rattle.fin_simp.specs.Remaining.{literal_of, is_identity_literal, settled_literal, nothing_step, is_nothing, are_nothing}
use Rattle.fin_simp.proofs.Equations.{at_block, at_loop, at_cond, at_bind, at_declare, at_freeze, at_thaw, at_update}
use Rattle.fin_simp.proofs.Literals.{literal_is}

abbrev pub is_none_of : List Stmt → Bool
is_none_of [] = true
is_none_of (x ∷ xs) = false

pub none_append : (xs ys : List Stmt) → (is_none_of xs && is_none_of ys) ≡ is_none_of (xs ++ ys)
none_append [] ys = refl
none_append (x ∷ xs) ys = refl

either_block : (b : Bool) (x y : Stmt) (ys : List Stmt) → false ≡ is_none_of (if b then x ∷ [] else y ∷ ys)
either_block true x y ys = refl
either_block false x y ys = refl

pub opened_none : (line last : ℕ) (xs : List Stmt) → is_none_of xs ≡ is_none_of (opened line last xs)
opened_none line last [] = refl
opened_none line last (x ∷ xs) = either_block (list_any is_declaration (x ∷ xs)) (s.Block (x ∷ xs) line last) x xs

pub around_none : (f : List Stmt → Stmt) (xs : List Stmt) → is_none_of xs ≡ is_none_of (around f xs)
around_none f [] = refl
around_none f (x ∷ xs) = refl

either_none : (b : Bool) (xs ys : List Stmt) (c : Bool) → c ≡ is_none_of xs → c ≡ is_none_of ys → (b || c) ≡ is_none_of (if b then [] else ys)
either_none true xs ys c h k = refl
either_none false xs ys c h k = k

pub chosen_none : (line last : ℕ) (l : Left) (xs : List Stmt) → (fails (literal_in l) || is_none_of xs) ≡ is_none_of (chosen line last l xs)
chosen_none line last (Literal n) xs = either_none (int_eq n (pos 0)) xs (opened line last xs) (is_none_of xs) refl (opened_none line last xs)
chosen_none line last (Open x) xs = around_none (λ b. s.Cond x b line last) xs

fails_literal : (b : Bool) (l : Left) (n : ℤ) → (if b then literal_in l else Some n) ≡ literal_in (if b then l else Literal n)
fails_literal true l n = refl
fails_literal false l n = refl

pub settled_is : (o : Option ℤ) (l : Left) → settled_literal o (literal_in l) ≡ literal_in (settled o l)
settled_is None l = refl
settled_is (Some n) l = fails_literal (fails (literal_in l)) l n

pub bound_none : (var line last : ℕ) (l : Left) (xs : List Stmt) → is_none_of xs ≡ is_none_of (bound var line last l xs)
bound_none var line last (Literal n) xs = opened_none line last xs
bound_none var line last (Open x) xs = around_none (λ b. s.Bind var x b line last) xs

pub identity_is : (by : Reduce) (l : Left) → is_identity_literal by (literal_in l) ≡ is_identity by l
identity_is by (Literal n) = refl
identity_is by (Open x) = refl

updating_none : (b : Bool) (x : Stmt) → b ≡ is_none_of (if b then [] else x ∷ [])
updating_none true x = refl
updating_none false x = refl

-- ---- all kinds
abbrev Agrees : Stmt → Type 0
Agrees x = (h : Here) (m : Marks) → is_nothing x h m ≡ is_none_of (simplified x h m)

bodies : (body : List Stmt) → AllOf Agrees body → (h : Here) (m : Marks) → are_nothing body h m ≡ is_none_of (simplified_all body h m)
bodies [] all h m = refl
bodies (x ∷ xs) all h m =
    ap (λ b. b && are_nothing xs (past_stmt x h) m) (all.0 h m) ∙ ap (λ b. is_none_of (simplified x h m) && b) (bodies xs all.1 (past_stmt x h) m)
    ∙ none_append (simplified x h m) (simplified_all xs (past_stmt x h) m)

abbrev to_test : Marks → (Marks → Bool) → Bool
to_test m f = f m

abbrev to_none : Marks → (Marks → List Stmt) → Bool
to_none m f = is_none_of (f m)

agree_cases : Cases Agrees
agree_cases = record {
  block = λ body line last all h m. ap (to_test m) (at_block (Marks → Bool) nothing_step body line last h) ∙ bodies body all h m ∙ opened_none line last (simplified_all body h m) ∙ sym (ap (to_none m) (at_block (Marks → List Stmt) simplified_step body line last h));
  loop = λ var range par body line last all h m. ap (to_test m) (at_loop (Marks → Bool) nothing_step var range par body line last h) ∙ bodies body all h (binding m var None) ∙ around_none (λ b. s.Loop var range par b line last) (simplified_all body h (binding m var None)) ∙ sym (ap (to_none m) (at_loop (Marks → List Stmt) simplified_step var range par body line last h));
  cond = λ test body line last all h m.
      let inner = behind_test test h in
      ap (to_test m) (at_cond (Marks → Bool) nothing_step test body line last h)
      ∙ ap (λ o. fails (settled_literal (m.tests h.test) o) || are_nothing body inner m) (literal_is test h.read m)
      ∙ ap (λ o. fails o || are_nothing body inner m) (settled_is (m.tests h.test) (left_of test h.read m))
      ∙ ap (λ b. fails (literal_in (test_left test h m)) || b) (bodies body all inner m)
      ∙ chosen_none line last (test_left test h m) (simplified_all body inner m)
      ∙ sym (ap (to_none m) (at_cond (Marks → List Stmt) simplified_step test body line last h));
  bind = λ var value body line last all h m.
      let inner = behind value h in
      ap (to_test m) (at_bind (Marks → Bool) nothing_step var value body line last h)
      ∙ bodies body all inner (binding m var (literal_of value h.read m))
      ∙ ap (λ o. is_none_of (simplified_all body inner (binding m var o))) (literal_is value h.read m)
      ∙ bound_none var line last (left_of value h.read m) (simplified_all body inner (binding m var (literal_in (left_of value h.read m))))
      ∙ sym (ap (to_none m) (at_bind (Marks → List Stmt) simplified_step var value body line last h));
  declare = λ tensor value line h m. ap (to_test m) (at_declare (Marks → Bool) nothing_step tensor value line h) ∙ sym (ap (to_none m) (at_declare (Marks → List Stmt) simplified_step tensor value line h));
  freeze = λ tensor line h m. ap (to_test m) (at_freeze (Marks → Bool) nothing_step tensor line h) ∙ sym (ap (to_none m) (at_freeze (Marks → List Stmt) simplified_step tensor line h));
  thaw = λ tensor line h m. ap (to_test m) (at_thaw (Marks → Bool) nothing_step tensor line h) ∙ sym (ap (to_none m) (at_thaw (Marks → List Stmt) simplified_step tensor line h));
  update = λ tensor at by value line h m.
      ap (to_test m) (at_update (Marks → Bool) nothing_step tensor at by value line h)
      ∙ ap (is_identity_literal by) (literal_is value h.read m) ∙ identity_is by (left_of value h.read m)
      ∙ updating_none (is_identity by (left_of value h.read m)) (s.Update tensor at by (as_expr (left_of value h.read m)) line)
      ∙ sym (ap (to_none m) (at_update (Marks → List Stmt) simplified_step tensor at by value line h));
}

-- a statement is nothing exactly where nothing is left of it
pub nothing_is : (x : Stmt) → Agrees x
nothing_is = by_kind Agrees agree_cases

pub nothing_are : (body : List Stmt) (h : Here) (m : Marks) → are_nothing body h m ≡ is_none_of (simplified_all body h m)
nothing_are body h m = bodies body (all_by_kind Agrees agree_cases body) h m
