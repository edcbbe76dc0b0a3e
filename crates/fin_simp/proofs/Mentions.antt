-- The reads that remain are those of the simplified text.
use Rattle.std.proofs.Common.{◌≡◌, ℕ, ℤ, pos, Bool, true, false, List, [], ◌∷◌, ◌++◌, Option, Some, None, refl, sym, ap, ◌∙◌, if◌then◌else◌, append_assoc}
use Rattle.std.proofs.lemmas.List.{append-nil}
use Rattle.std.specs.List.{list_any}
use Rattle.std.specs.Ordering.{int_eq}
use Rattle.fin_base.specs.declared.terms.Op.{Op}
use Rattle.fin_ast.specs.declared.tree.Index.{Index}
use Rattle.fin_ast.specs.declared.tree.Expr.{Expr}
use Rattle.fin_ast.specs.declared.tree.Expr.TheVariants as e
use Rattle.fin_ast.specs.declared.tree.Stmt.{Stmt}
use Rattle.fin_ast.specs.declared.tree.Stmt.TheVariants as s
use Rattle.fin_ast.proofs.Nodes as node
use Rattle.fin_ast.proofs.Induction.{AllOf, Cases, by_kind, all_by_kind}
use Rattle.fin_simp.specs.declared.remainder.Left.{Left}
use Rattle.fin_simp.specs.declared.remainder.Left.TheVariants.{Literal, Open}
use Rattle.fin_simp.specs.Numbered.{Here, past_expr, behind, behind_test, past_stmt, numbered_all}
use Rattle.fin_simp.specs.Left.{Marks, binding, as_expr, literal_in, fails, is_neutral, is_neutral_before, absorbs, joined, turned, known_or, left_step, left_of}
use Rattle.fin_simp.specs.Simplified.{is_identity, is_declaration, opened, around, settled, chosen, test_left, bound, simplified_step, simplified, simplified_all}
use Rattle.fin_simp.specs.Remaining.{joined_literal, turned_literal, is_identity_literal, settled_literal}
use Rattle.fin_simp.specs.Rest.{Access, ExprRest, Test, Kind, Nothing, OneUpdate, Other, Rest, is_none_kind, open_rest, rest_or, no_expr, nothing, all_rest, within_kind, chosen_rest, let_rest, updating_rest, expr_rest_step, expr_rest, rest_step, rest_of}
use Rattle.fin_simp.specs.Mentions.{Mention, in_expr_step, in_expr, in_stmt_step, in_stmt, in_body}
use Rattle.fin_simp.specs.Found.{mentioned}
use Rattle.fin_simp.proofs.Induction.{ExprCases, by_expr}
use Rattle.fin_simp.proofs.Equations.{at_num, at_var, at_read, at_neg, at_two, at_block, at_loop, at_cond, at_bind, at_declare, at_freeze, at_thaw, at_update}
use Rattle.fin_simp.proofs.Literals.{joined_is, literal_is, rest_literal}
use Rattle.fin_simp.proofs.Vanishing.{is_none_of, settled_is, identity_is, nothing_are}
use Rattle.fin_simp.proofs.Resting.{rests_agree}

mentioned_append : (xs ys : List Access) → mentioned (xs ++ ys) ≡ mentioned xs ++ mentioned ys
mentioned_append [] ys = refl
mentioned_append (x ∷ xs) ys = ap (λ (ms : List Mention). (x.tensor, x.at) ∷ ms) (mentioned_append xs ys)

body_append : (xs ys : List Stmt) → in_body (xs ++ ys) ≡ in_body xs ++ in_body ys
body_append [] ys = refl
body_append (x ∷ xs) ys = ap (λ (ms : List Mention). in_stmt x ++ ms) (body_append xs ys) ∙ sym (append_assoc (in_stmt x) (in_body xs) (in_body ys))

alone : (x : Stmt) → in_body (x ∷ []) ≡ in_stmt x
alone x = append-nil (in_stmt x)

-- ---- expressions
in_num : (n : ℤ) → in_expr (e.Num n) ≡ []
in_num n = node.of_num (List Mention) in_expr_step n

or_known : (o : Option ℤ) (r : ExprRest) (x : Expr) → mentioned r.reads ≡ in_expr x → mentioned (rest_or o r).reads ≡ in_expr (as_expr (known_or o x))
or_known None r x h = h
or_known (Some n) r x h = sym (in_num n)

in_turned : (l : Left) (r : ExprRest) → mentioned r.reads ≡ in_expr (as_expr l) → mentioned (rest_or (turned_literal (literal_in l)) r).reads ≡ in_expr (as_expr (turned l))
in_turned (Literal n) r h = sym (in_num _)
in_turned (Open x) r h = h ∙ sym (node.of_neg (List Mention) in_expr_step x)

in_left : (l : Left) (r : ExprRest) → (literal_in l ≡ None → mentioned r.reads ≡ in_expr (as_expr l)) → mentioned (rest_or (literal_in l) r).reads ≡ in_expr (as_expr l)
in_left (Literal n) r h = sym (in_num n)
in_left (Open x) r h = h refl

-- what stays open mentions what its sides mention
first_open : (a b : Bool) (o : Op) (n : ℤ) (x : Expr) → literal_in (if a then Open x else (if b then Literal n else Open (e.Two o (e.Num n) x))) ≡ None
    → in_expr (as_expr (if a then Open x else (if b then Literal n else Open (e.Two o (e.Num n) x)))) ≡ in_expr (e.Num n) ++ in_expr x
first_open true b o n x h = sym (ap (λ (ms : List Mention). ms ++ in_expr x) (in_num n))
first_open false true o n x h = let y : Some n ≡ None = h in cc
first_open false false o n x h = node.of_two (List Mention) in_expr_step o (e.Num n) x

second_open : (a b : Bool) (o : Op) (n : ℤ) (x : Expr) → literal_in (if a then Open x else (if b then Literal n else Open (e.Two o x (e.Num n)))) ≡ None
    → in_expr (as_expr (if a then Open x else (if b then Literal n else Open (e.Two o x (e.Num n))))) ≡ in_expr x ++ in_expr (e.Num n)
second_open true b o n x h = sym (ap (λ (ms : List Mention). in_expr x ++ ms) (in_num n) ∙ append-nil (in_expr x))
second_open false true o n x h = let y : Some n ≡ None = h in cc
second_open false false o n x h = node.of_two (List Mention) in_expr_step o x (e.Num n)

in_joined : (o : Op) (l r : Left) → literal_in (joined o l r) ≡ None → in_expr (as_expr (joined o l r)) ≡ in_expr (as_expr l) ++ in_expr (as_expr r)
in_joined o (Literal n) (Literal m) h = let y : literal_in (joined o (Literal n) (Literal m)) ≡ None = h in cc
in_joined o (Literal n) (Open x) h = first_open (is_neutral_before o n) (absorbs o n) o n x h
in_joined o (Open x) (Literal n) h = second_open (is_neutral o n) (absorbs o n) o n x h
in_joined o (Open x) (Open y) h = node.of_two (List Mention) in_expr_step o x y

abbrev Same : Expr → Type 0
Same x = (k : ℕ) (m : Marks) → mentioned (expr_rest x k m).reads ≡ in_expr (as_expr (left_of x k m))

abbrev at_rest : Marks → (Marks → ExprRest) → List Mention
at_rest m f = mentioned (f m).reads

abbrev at_left : Marks → (Marks → Left) → List Mention
at_left m f = in_expr (as_expr (f m))

same_cases : ExprCases Same
same_cases = record {
  num = λ n k m. ap (at_rest m) (at_num (Marks → ExprRest) expr_rest_step n k) ∙ sym (in_num n) ∙ sym (ap (at_left m) (at_num (Marks → Left) left_step n k));
  var = λ var line k m. ap (at_rest m) (at_var (Marks → ExprRest) expr_rest_step var line k)
      ∙ or_known (m.vars var) (open_rest [] (var ∷ [])) (e.Var var line) (sym (node.of_var (List Mention) in_expr_step var line)) ∙ sym (ap (at_left m) (at_var (Marks → Left) left_step var line k));
  read = λ tensor at line k m. ap (at_rest m) (at_read (Marks → ExprRest) expr_rest_step tensor at line k)
      ∙ or_known (m.reads k) (open_rest (record { read = k; tensor = tensor; at = at } ∷ []) []) (e.Read tensor at line) (sym (node.of_read (List Mention) in_expr_step tensor at line))
      ∙ sym (ap (at_left m) (at_read (Marks → Left) left_step tensor at line k));
  neg = λ x h k m. ap (at_rest m) (at_neg (Marks → ExprRest) expr_rest_step x k)
      ∙ ap (λ (o : Option ℤ). mentioned (rest_or (turned_literal o) (expr_rest x k m)).reads) (rest_literal x k m ∙ literal_is x k m)
      ∙ in_turned (left_of x k m) (expr_rest x k m) (h k m) ∙ sym (ap (at_left m) (at_neg (Marks → Left) left_step x k));
  two = λ o x y hx hy k m.
      let a = expr_rest x k m in
      let k' = past_expr x k in
      let b = expr_rest y k' m in
      let l = left_of x k m in
      let r = left_of y k' m in
      let both = open_rest (a.reads ++ b.reads) (a.vars ++ b.vars) in
      ap (at_rest m) (at_two (Marks → ExprRest) expr_rest_step o x y k)
      ∙ ap (λ (p : Option ℤ). mentioned (rest_or (joined_literal o p b.literal) both).reads) (rest_literal x k m ∙ literal_is x k m)
      ∙ ap (λ (p : Option ℤ). mentioned (rest_or (joined_literal o (literal_in l) p) both).reads) (rest_literal y k' m ∙ literal_is y k' m)
      ∙ ap (λ (p : Option ℤ). mentioned (rest_or p both).reads) (joined_is o l r)
      ∙ in_left (joined o l r) both (λ still. mentioned_append a.reads b.reads ∙ ap (λ (ms : List Mention). ms ++ mentioned b.reads) (hx k m) ∙ ap (λ (ms : List Mention). in_expr (as_expr l) ++ ms) (hy k' m) ∙ sym (in_joined o l r still))
      ∙ sym (ap (at_left m) (at_two (Marks → Left) left_step o x y k));
}

pub expr_mentions : (x : Expr) → Same x
expr_mentions = by_expr Same same_cases

-- ---- statements around others
opened_by : (line last : ℕ) (xs : List Stmt) (b : Bool) → in_body xs ≡ in_body (if b then s.Block xs line last ∷ [] else xs)
opened_by line last xs true = sym (alone (s.Block xs line last) ∙ node.of_block (List Mention) in_stmt_step xs line last)
opened_by line last xs false = refl

opened_mentions : (line last : ℕ) (xs : List Stmt) → in_body xs ≡ in_body (opened line last xs)
opened_mentions line last xs = opened_by line last xs (list_any is_declaration xs)

within_mentions : (k : Kind) (ex : ExprRest) (tests : List Test) (r : Rest) (f : List Stmt → Stmt) (own : List Mention) (xs : List Stmt) → is_none_kind k ≡ is_none_of xs → mentioned r.reads ≡ in_body xs
    → mentioned ex.reads ≡ own → ((ys : List Stmt) → in_stmt (f ys) ≡ own ++ in_body ys) → mentioned (within_kind k ex tests r).reads ≡ in_body (around f xs)
within_mentions Nothing ex tests r f own [] n h g w = refl
within_mentions Nothing ex tests r f own (x ∷ xs) n h g w = let y : true ≡ false = n in cc
within_mentions OneUpdate ex tests r f own [] n h g w = let y : false ≡ true = n in cc
within_mentions OneUpdate ex tests r f own (x ∷ xs) n h g w =
    mentioned_append ex.reads r.reads ∙ ap (λ (ms : List Mention). ms ++ mentioned r.reads) g ∙ ap (λ (ms : List Mention). own ++ ms) h ∙ sym (alone (f (x ∷ xs)) ∙ w (x ∷ xs))
within_mentions Other ex tests r f own [] n h g w = let y : false ≡ true = n in cc
within_mentions Other ex tests r f own (x ∷ xs) n h g w =
    mentioned_append ex.reads r.reads ∙ ap (λ (ms : List Mention). ms ++ mentioned r.reads) g ∙ ap (λ (ms : List Mention). own ++ ms) h ∙ sym (alone (f (x ∷ xs)) ∙ w (x ∷ xs))

either_mentions : (b : Bool) (r : Rest) (ys : List Stmt) → mentioned r.reads ≡ in_body ys → mentioned (if b then nothing else r).reads ≡ in_body (if b then [] else ys)
either_mentions true r ys h = refl
either_mentions false r ys h = h

settled_by : (b : Bool) (l : Left) (n : ℤ) → literal_in (if b then l else Literal n) ≡ None → (if b then l else Literal n) ≡ l
settled_by true l n h = refl
settled_by false l n h = let y : Some n ≡ None = h in cc

-- a test that stays open is left as it is
settled_open : (o : Option ℤ) (l : Left) → literal_in (settled o l) ≡ None → settled o l ≡ l
settled_open None l h = refl
settled_open (Some n) l h = settled_by (fails (literal_in l)) l n h

chosen_mentions : (line last : ℕ) (l : Left) (ex : ExprRest) (test : Test) (r : Rest) (xs : List Stmt) → is_none_kind r.kind ≡ is_none_of xs → mentioned r.reads ≡ in_body xs
    → (literal_in l ≡ None → mentioned ex.reads ≡ in_expr (as_expr l)) → mentioned (chosen_rest (literal_in l) ex test r).reads ≡ in_body (chosen line last l xs)
chosen_mentions line last (Literal n) ex test r xs k h g = either_mentions (int_eq n (pos 0)) r (opened line last xs) (h ∙ opened_mentions line last xs)
chosen_mentions line last (Open x) ex test r xs k h g =
    within_mentions r.kind ex (test ∷ []) r (λ b. s.Cond x b line last) (in_expr x) xs k h (g refl) (λ ys. node.of_cond (List Mention) in_stmt_step x ys line last)

bound_mentions : (var line last : ℕ) (l : Left) (ex : ExprRest) (r : Rest) (xs : List Stmt) → is_none_kind r.kind ≡ is_none_of xs → mentioned r.reads ≡ in_body xs
    → mentioned ex.reads ≡ in_expr (as_expr l) → mentioned (let_rest (literal_in l) ex r).reads ≡ in_body (bound var line last l xs)
bound_mentions var line last (Literal n) ex r xs k h g = h ∙ opened_mentions line last xs
bound_mentions var line last (Open x) ex r xs k h g =
    within_mentions r.kind ex [] r (λ b. s.Bind var x b line last) (in_expr x) xs k h g (λ ys. node.of_bind (List Mention) in_stmt_step var x ys line last)

update_mentions : (t : ℕ) (at : List Index) (ex : ExprRest) (b : Bool) (x : Stmt) → mentioned ex.reads ≡ in_stmt x → mentioned (updating_rest t at b ex).reads ≡ in_body (if b then [] else x ∷ [])
update_mentions t at ex true x h = refl
update_mentions t at ex false x h = h ∙ sym (alone x)

-- ---- all kinds
abbrev Mentions : Stmt → Type 0
Mentions x = (h : Here) (m : Marks) → mentioned (rest_of x h m).reads ≡ in_body (simplified x h m)

abbrev rest_at : Marks → (Marks → Rest) → List Mention
rest_at m f = mentioned (f m).reads

abbrev left_at : Marks → (Marks → List Stmt) → List Mention
left_at m f = in_body (f m)

abbrev pub rests : List Stmt → Here → Marks → Rest
rests body h m = all_rest (numbered_all (Marks → Rest) rest_step body h) m

bodies : (body : List Stmt) → AllOf Mentions body → (h : Here) (m : Marks) → mentioned (rests body h m).reads ≡ in_body (simplified_all body h m)
bodies [] all h m = refl
bodies (x ∷ xs) all h m =
    let rest = rests xs (past_stmt x h) m in
    mentioned_append (rest_of x h m).reads rest.reads ∙ ap (λ (ms : List Mention). ms ++ mentioned rest.reads) (all.0 h m)
    ∙ ap (λ (ms : List Mention). in_body (simplified x h m) ++ ms) (bodies xs all.1 (past_stmt x h) m) ∙ sym (body_append (simplified x h m) (simplified_all xs (past_stmt x h) m))

none_same : (body : List Stmt) (h : Here) (m : Marks) → is_none_kind (rests body h m).kind ≡ is_none_of (simplified_all body h m)
none_same body h m = rests_agree body h m ∙ nothing_are body h m

leaf_mentions : (x : Stmt) → in_stmt x ≡ [] → [] ≡ in_body (x ∷ [])
leaf_mentions x h = sym (alone x ∙ h)

mention_cases : Cases Mentions
mention_cases = record {
  block = λ body line last all h m. ap (rest_at m) (at_block (Marks → Rest) rest_step body line last h) ∙ bodies body all h m ∙ opened_mentions line last (simplified_all body h m) ∙ sym (ap (left_at m) (at_block (Marks → List Stmt) simplified_step body line last h));
  loop = λ var range par body line last all h m.
      let m' = binding m var None in
      ap (rest_at m) (at_loop (Marks → Rest) rest_step var range par body line last h)
      ∙ within_mentions (rests body h m').kind no_expr [] (rests body h m') (λ b. s.Loop var range par b line last) [] (simplified_all body h m') (none_same body h m') (bodies body all h m') refl
      (λ ys. node.of_loop (List Mention) in_stmt_step var range par ys line last)
      ∙ sym (ap (left_at m) (at_loop (Marks → List Stmt) simplified_step var range par body line last h));
  cond = λ test body line last all h m.
      let inner = behind_test test h in
      let ex = expr_rest test h.read m in
      let l = left_of test h.read m in
      let t : Test = record { test = h.test; expr = as_expr l } in
      ap (rest_at m) (at_cond (Marks → Rest) rest_step test body line last h)
      ∙ ap (λ (o : Option ℤ). mentioned (chosen_rest (settled_literal (m.tests h.test) o) ex t (rests body inner m)).reads) (rest_literal test h.read m ∙ literal_is test h.read m)
      ∙ ap (λ (o : Option ℤ). mentioned (chosen_rest o ex t (rests body inner m)).reads) (settled_is (m.tests h.test) l)
      ∙ chosen_mentions line last (test_left test h m) ex t (rests body inner m) (simplified_all body inner m) (none_same body inner m) (bodies body all inner m)
      (λ still. expr_mentions test h.read m ∙ sym (ap (λ (x : Left). in_expr (as_expr x)) (settled_open (m.tests h.test) l still)))
      ∙ sym (ap (left_at m) (at_cond (Marks → List Stmt) simplified_step test body line last h));
  bind = λ var value body line last all h m.
      let inner = behind value h in
      let ex = expr_rest value h.read m in
      let l = left_of value h.read m in
      let m' = binding m var (literal_in l) in
      ap (rest_at m) (at_bind (Marks → Rest) rest_step var value body line last h)
      ∙ ap (λ (o : Option ℤ). mentioned (let_rest o ex (rests body inner (binding m var o))).reads) (rest_literal value h.read m ∙ literal_is value h.read m)
      ∙ bound_mentions var line last l ex (rests body inner m') (simplified_all body inner m') (none_same body inner m') (bodies body all inner m') (expr_mentions value h.read m)
      ∙ sym (ap (left_at m) (at_bind (Marks → List Stmt) simplified_step var value body line last h));
  declare = λ tensor value line h m. ap (rest_at m) (at_declare (Marks → Rest) rest_step tensor value line h) ∙ leaf_mentions (s.Declare tensor value line) (node.of_declare (List Mention) in_stmt_step tensor value line) ∙ sym (ap (left_at m) (at_declare (Marks → List Stmt) simplified_step tensor value line h));
  freeze = λ tensor line h m. ap (rest_at m) (at_freeze (Marks → Rest) rest_step tensor line h) ∙ leaf_mentions (s.Freeze tensor line) (node.of_freeze (List Mention) in_stmt_step tensor line) ∙ sym (ap (left_at m) (at_freeze (Marks → List Stmt) simplified_step tensor line h));
  thaw = λ tensor line h m. ap (rest_at m) (at_thaw (Marks → Rest) rest_step tensor line h) ∙ leaf_mentions (s.Thaw tensor line) (node.of_thaw (List Mention) in_stmt_step tensor line) ∙ sym (ap (left_at m) (at_thaw (Marks → List Stmt) simplified_step tensor line h));
  update = λ tensor at by value line h m.
      let ex = expr_rest value h.read m in
      let l = left_of value h.read m in
      ap (rest_at m) (at_update (Marks → Rest) rest_step tensor at by value line h)
      ∙ ap (λ (o : Option ℤ). mentioned (updating_rest tensor at (is_identity_literal by o) ex).reads) (rest_literal value h.read m ∙ literal_is value h.read m)
      ∙ ap (λ b. mentioned (updating_rest tensor at b ex).reads) (identity_is by l)
      ∙ update_mentions tensor at ex (is_identity by l) (s.Update tensor at by (as_expr l) line) (expr_mentions value h.read m ∙ sym (node.of_update (List Mention) in_stmt_step tensor at by (as_expr l) line))
      ∙ sym (ap (left_at m) (at_update (Marks → List Stmt) simplified_step tensor at by value line h));
}

pub stmt_mentions : (x : Stmt) → Mentions x
stmt_mentions = by_kind Mentions mention_cases

pub body_mentions : (body : List Stmt) (h : Here) (m : Marks) → mentioned (rests body h m).reads ≡ in_body (simplified_all body h m)
body_mentions body h m = bodies body (all_by_kind Mentions mention_cases body) h m

-- ---- where nothing is left, nothing is read
none_mentioned : (reads : List Access) → mentioned reads ≡ [] → reads ≡ []
none_mentioned [] h = refl
none_mentioned (a ∷ rest) h = let y : mentioned (a ∷ rest) ≡ [] = h in cc

none_in : (xs : List Stmt) → is_none_of xs ≡ true → in_body xs ≡ []
none_in [] h = refl
none_in (x ∷ xs) h = let y : false ≡ true = h in cc

pub nothing_reads_none : (body : List Stmt) (h : Here) (m : Marks) → is_none_kind (rests body h m).kind ≡ true → (rests body h m).reads ≡ []
nothing_reads_none body h m q = none_mentioned (rests body h m).reads (body_mentions body h m ∙ none_in (simplified_all body h m) (sym (none_same body h m) ∙ q))

literal_none : (l : Left) (n : ℤ) → literal_in l ≡ Some n → in_expr (as_expr l) ≡ []
literal_none (Literal i) n h = in_num i
literal_none (Open x) n h = let y : None ≡ Some n = h in cc

pub literal_reads_none : (x : Expr) (k : ℕ) (m : Marks) (n : ℤ) → (expr_rest x k m).literal ≡ Some n → (expr_rest x k m).reads ≡ []
literal_reads_none x k m n q = none_mentioned (expr_rest x k m).reads (expr_mentions x k m ∙ literal_none (left_of x k m) n (sym (rest_literal x k m ∙ literal_is x k m) ∙ q))
