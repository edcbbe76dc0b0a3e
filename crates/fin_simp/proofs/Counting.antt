-- The walk over reads finds those that remain of a statement, by their numbers; and each of them is written in it.
use Rattle.std.proofs.Common.{◌≡◌, ℕ, ℤ, pos, Bool, true, false, ◌||◌, List, [], ◌∷◌, ◌++◌, Option, Some, None, refl, sym, ap, ◌∙◌, if◌then◌else◌}
use Rattle.std.proofs.lemmas.List.{append-nil}
use Rattle.std.specs.Ordering.{int_eq}
use Rattle.fin_ast.specs.declared.tree.Index.{Index}
use Rattle.fin_ast.specs.declared.tree.Expr.{Expr}
use Rattle.fin_ast.specs.declared.tree.Stmt.{Stmt}
use Rattle.fin_ast.proofs.Induction.{AllOf, Cases, by_kind}
use Rattle.fin_simp.specs.declared.reads.ExprReads.{ExprReads}
use Rattle.fin_simp.specs.declared.reads.StmtReads.{StmtReads}
use Rattle.fin_simp.specs.Numbered.{Here, behind, behind_test, past_stmt}
use Rattle.fin_simp.specs.Left.{Marks, binding, fails, as_expr, left_of}
use Rattle.fin_simp.specs.Remaining.{is_identity_literal, settled_literal}
use Rattle.fin_simp.specs.Rest.{ExprRest, Test, Kind, Nothing, OneUpdate, Other, Rest, is_none_kind, no_expr, nothing, within_kind, chosen_rest, let_rest, updating_rest, test_rest, expr_rest, rest_step, rest_of}
use Rattle.fin_simp.specs.Reads.{unless_known, within, stmt_step, reads_of_expr, reads_of, reads_of_all}
use Rattle.fin_simp.specs.Found.{numbers_of}
use Rattle.fin_simp.proofs.Equations.{at_block, at_loop, at_cond, at_bind, at_declare, at_freeze, at_thaw, at_update}
use Rattle.fin_simp.proofs.Resting.{rests_agree}
use Rattle.fin_simp.proofs.Matching.{numbers_append, found_is, nothing_found}
use Rattle.fin_simp.proofs.Mentions.{rests, nothing_reads_none, literal_reads_none}

-- ---- around others
within_numbers : (b : Bool) (k : Kind) (ex : ExprRest) (tests : List Test) (r : Rest) (first reads : List ℕ) → b ≡ is_none_kind k → first ≡ numbers_of ex.reads → reads ≡ numbers_of r.reads
    → (if b then [] else first ++ reads) ≡ numbers_of (within_kind k ex tests r).reads
within_numbers true Nothing ex tests r first reads q f h = refl
within_numbers false Nothing ex tests r first reads q f h = let y : false ≡ true = q in cc
within_numbers true OneUpdate ex tests r first reads q f h = let y : true ≡ false = q in cc
within_numbers false OneUpdate ex tests r first reads q f h = ap (λ (ns : List ℕ). ns ++ reads) f ∙ ap (λ (ns : List ℕ). numbers_of ex.reads ++ ns) h ∙ sym (numbers_append ex.reads r.reads)
within_numbers true Other ex tests r first reads q f h = let y : true ≡ false = q in cc
within_numbers false Other ex tests r first reads q f h = ap (λ (ns : List ℕ). ns ++ reads) f ∙ ap (λ (ns : List ℕ). numbers_of ex.reads ++ ns) h ∙ sym (numbers_append ex.reads r.reads)

unless_none : (b : Bool) (ns : List ℕ) → (b ≡ true → ns ≡ []) → (if b then [] else ns) ≡ ns
unless_none true ns h = sym (h refl)
unless_none false ns h = refl

picked_numbers : (fail b : Bool) (r : Rest) (reads : List ℕ) → (b ≡ true → reads ≡ []) → reads ≡ numbers_of r.reads → (if fail || b then [] else reads) ≡ numbers_of (if fail then nothing else r).reads
picked_numbers true b r reads e h = refl
picked_numbers false b r reads e h = unless_none b reads e ∙ h

chosen_numbers : (o : Option ℤ) (b : Bool) (ex : ExprRest) (test : Test) (r : Rest) (first reads : List ℕ) → b ≡ is_none_kind r.kind → (b ≡ true → reads ≡ []) → first ≡ numbers_of ex.reads → reads ≡ numbers_of r.reads
    → (if fails o || b then [] else unless_known o first ++ reads) ≡ numbers_of (chosen_rest o ex test r).reads
chosen_numbers None b ex test r first reads q e f h = within_numbers b r.kind ex (test ∷ []) r first reads q f h
chosen_numbers (Some n) b ex test r first reads q e f h = picked_numbers (int_eq n (pos 0)) b r reads e h

let_numbers : (o : Option ℤ) (b : Bool) (ex : ExprRest) (r : Rest) (first reads : List ℕ) → b ≡ is_none_kind r.kind → (b ≡ true → reads ≡ []) → ((n : ℤ) → o ≡ Some n → first ≡ []) → first ≡ numbers_of ex.reads → reads ≡ numbers_of r.reads
    → (if b then [] else first ++ reads) ≡ numbers_of (let_rest o ex r).reads
let_numbers None b ex r first reads q e l f h = within_numbers b r.kind ex [] r first reads q f h
let_numbers (Some n) b ex r first reads q e l f h = ap (λ (ns : List ℕ). if b then [] else ns ++ reads) (l n refl) ∙ unless_none b reads e ∙ h

update_numbers : (t : ℕ) (at : List Index) (b : Bool) (ex : ExprRest) (first : List ℕ) → first ≡ numbers_of ex.reads → (if b || false then [] else first ++ []) ≡ numbers_of (updating_rest t at b ex).reads
update_numbers t at true ex first f = refl
update_numbers t at false ex first f = append-nil first ∙ f

-- ---- all kinds
abbrev Counts : Stmt → Type 0
Counts x = (h : Here) (m : Marks) → (reads_of x h m).reads ≡ numbers_of (rest_of x h m).reads

abbrev reads_at : Marks → (Marks → StmtReads) → List ℕ
reads_at m f = (f m).reads

abbrev rest_at : Marks → (Marks → Rest) → List ℕ
rest_at m f = numbers_of (f m).reads

bodies : (body : List Stmt) → AllOf Counts body → (h : Here) (m : Marks) → (reads_of_all body h m).reads ≡ numbers_of (rests body h m).reads
bodies [] all h m = refl
bodies (x ∷ xs) all h m =
    ap (λ (ns : List ℕ). ns ++ (reads_of_all xs (past_stmt x h) m).reads) (all.0 h m) ∙ ap (λ (ns : List ℕ). numbers_of (rest_of x h m).reads ++ ns) (bodies xs all.1 (past_stmt x h) m)
    ∙ sym (numbers_append (rest_of x h m).reads (rests xs (past_stmt x h) m).reads)

none_same : (body : List Stmt) (h : Here) (m : Marks) → (reads_of_all body h m).nothing ≡ is_none_kind (rests body h m).kind
none_same body h m = nothing_found body h m ∙ sym (rests_agree body h m)

none_read : (body : List Stmt) → AllOf Counts body → (h : Here) (m : Marks) → (reads_of_all body h m).nothing ≡ true → (reads_of_all body h m).reads ≡ []
none_read body all h m q = bodies body all h m ∙ ap numbers_of (nothing_reads_none body h m (sym (none_same body h m) ∙ q))

first_same : (x : Expr) (k : ℕ) (m : Marks) → (reads_of_expr x k m).reads ≡ numbers_of (expr_rest x k m).reads
first_same x k m = ap (λ (f : ExprReads). f.reads) (found_is x k m)

literal_same : (x : Expr) (k : ℕ) (m : Marks) → (reads_of_expr x k m).literal ≡ (expr_rest x k m).literal
literal_same x k m = ap (λ (f : ExprReads). f.literal) (found_is x k m)

count_cases : Cases Counts
count_cases = record {
  block = λ body line last all h m. ap (reads_at m) (at_block (Marks → StmtReads) stmt_step body line last h) ∙ bodies body all h m ∙ sym (ap (rest_at m) (at_block (Marks → Rest) rest_step body line last h));
  loop = λ var range par body line last all h m.
      let m' = binding m var None in
      ap (reads_at m) (at_loop (Marks → StmtReads) stmt_step var range par body line last h)
      ∙ within_numbers (reads_of_all body h m').nothing (rests body h m').kind no_expr [] (rests body h m') [] (reads_of_all body h m').reads (none_same body h m') refl (bodies body all h m')
      ∙ sym (ap (rest_at m) (at_loop (Marks → Rest) rest_step var range par body line last h));
  cond = λ test body line last all h m.
      let inner = behind_test test h in
      let f = reads_of_expr test h.read m in
      let b = reads_of_all body inner m in
      let ex = expr_rest test h.read m in
      ap (reads_at m) (at_cond (Marks → StmtReads) stmt_step test body line last h)
      ∙ ap (λ (o : Option ℤ). (within (fails (settled_literal (m.tests h.test) o)) (unless_known (settled_literal (m.tests h.test) o) f.reads) b).reads) (literal_same test h.read m)
      ∙ chosen_numbers (test_rest test h m) b.nothing ex (record { test = h.test; expr = as_expr (left_of test h.read m) }) (rests body inner m) f.reads b.reads (none_same body inner m) (none_read body all inner m) (first_same test h.read m) (bodies body all inner m)
      ∙ sym (ap (rest_at m) (at_cond (Marks → Rest) rest_step test body line last h));
  bind = λ var value body line last all h m.
      let inner = behind value h in
      let f = reads_of_expr value h.read m in
      let ex = expr_rest value h.read m in
      let m' = binding m var ex.literal in
      let b = reads_of_all body inner m' in
      ap (reads_at m) (at_bind (Marks → StmtReads) stmt_step var value body line last h)
      ∙ ap (λ (o : Option ℤ). (within false f.reads (reads_of_all body inner (binding m var o))).reads) (literal_same value h.read m)
      ∙ let_numbers ex.literal b.nothing ex (rests body inner m') f.reads b.reads (none_same body inner m') (none_read body all inner m')
      (λ n q. first_same value h.read m ∙ ap numbers_of (literal_reads_none value h.read m n q)) (first_same value h.read m) (bodies body all inner m')
      ∙ sym (ap (rest_at m) (at_bind (Marks → Rest) rest_step var value body line last h));
  declare = λ tensor value line h m. ap (reads_at m) (at_declare (Marks → StmtReads) stmt_step tensor value line h) ∙ sym (ap (rest_at m) (at_declare (Marks → Rest) rest_step tensor value line h));
  freeze = λ tensor line h m. ap (reads_at m) (at_freeze (Marks → StmtReads) stmt_step tensor line h) ∙ sym (ap (rest_at m) (at_freeze (Marks → Rest) rest_step tensor line h));
  thaw = λ tensor line h m. ap (reads_at m) (at_thaw (Marks → StmtReads) stmt_step tensor line h) ∙ sym (ap (rest_at m) (at_thaw (Marks → Rest) rest_step tensor line h));
  update = λ tensor at by value line h m.
      let f = reads_of_expr value h.read m in
      let ex = expr_rest value h.read m in
      ap (reads_at m) (at_update (Marks → StmtReads) stmt_step tensor at by value line h)
      ∙ ap (λ (o : Option ℤ). (if is_identity_literal by o || false then [] else f.reads ++ [])) (literal_same value h.read m)
      ∙ update_numbers tensor at (is_identity_literal by ex.literal) ex f.reads (first_same value h.read m)
      ∙ sym (ap (rest_at m) (at_update (Marks → Rest) rest_step tensor at by value line h));
}

pub stmt_counts : (x : Stmt) → Counts x
stmt_counts = by_kind Counts count_cases
