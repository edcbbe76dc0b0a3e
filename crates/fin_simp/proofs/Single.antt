-- What is told of the rest of a statement is nothing, one update or other, just as its simplified form is.
use Rattle.std.proofs.Common.{◌≡◌, ℕ, ℤ, pos, Bool, true, false, ◌||◌, List, [], ◌∷◌, ◌++◌, Option, None, refl, sym, ap, ◌∙◌, if◌then◌else◌}
use Rattle.std.specs.List.{list_any}
use Rattle.std.specs.Ordering.{int_eq}
use Rattle.fin_ast.specs.declared.tree.Index.{Index}
use Rattle.fin_ast.specs.declared.tree.Stmt.{Stmt, fold-Stmt}
use Rattle.fin_ast.specs.declared.tree.Stmt.TheOpen.{Stmt-F}
use Rattle.fin_ast.specs.declared.tree.Stmt.TheVariants as s
use Rattle.fin_ast.proofs.Nodes as node
use Rattle.fin_ast.proofs.Induction.{AllOf, Cases, by_kind}
use Rattle.fin_simp.specs.Numbered.{Here, behind, behind_test, past_stmt, numbered_all}
use Rattle.fin_simp.specs.declared.remainder.Left.{Left}
use Rattle.fin_simp.specs.declared.remainder.Left.TheVariants.{Literal, Open}
use Rattle.fin_simp.specs.Left.{Marks, binding, literal_in, as_expr, left_of}
use Rattle.fin_simp.specs.Simplified.{declares_step, is_declaration, is_identity, opened, around, chosen, test_left, bound, simplified_step, simplified, simplified_all}
use Rattle.fin_simp.specs.Remaining.{is_identity_literal, settled_literal}
use Rattle.fin_simp.specs.Rest.{ExprRest, Test, Kind, Nothing, OneUpdate, Other, Rest, nothing, kinds, all_rest, within_kind, chosen_rest, let_rest, updating_rest, expr_rest, rest_step, rest_of}
use Rattle.fin_simp.proofs.Equations.{at_block, at_loop, at_cond, at_bind, at_declare, at_freeze, at_thaw, at_update}
use Rattle.fin_simp.proofs.Literals.{literal_is, rest_literal}
use Rattle.fin_simp.proofs.Vanishing.{settled_is, identity_is}

abbrev pub updates_step : Stmt-F Bool → Bool
updates_step (Stmt-F.Update tensor at by value line) = true
updates_step _ = false

abbrev pub is_update : Stmt → Bool
is_update = fold-Stmt Bool updates_step

abbrev pub kind_of : List Stmt → Kind
kind_of [] = Nothing
kind_of (x ∷ []) = if is_update x then OneUpdate else Other
kind_of (x ∷ y ∷ ys) = Other

abbrev one : Bool → Kind
one b = if b then OneUpdate else Other

one_nothing : (b : Bool) → one b ≡ kinds (one b) Nothing
one_nothing true = refl
one_nothing false = refl

one_one : (b c : Bool) → Other ≡ kinds (one b) (one c)
one_one true true = refl
one_one true false = refl
one_one false true = refl
one_one false false = refl

one_other : (b : Bool) → Other ≡ kinds (one b) Other
one_other true = refl
one_other false = refl

other_one : (c : Bool) → Other ≡ kinds Other (one c)
other_one true = refl
other_one false = refl

kinds_append : (xs ys : List Stmt) → kind_of (xs ++ ys) ≡ kinds (kind_of xs) (kind_of ys)
kinds_append [] ys = refl
kinds_append (x ∷ []) [] = one_nothing (is_update x)
kinds_append (x ∷ []) (y ∷ []) = one_one (is_update x) (is_update y)
kinds_append (x ∷ []) (y ∷ z ∷ ys) = one_other (is_update x)
kinds_append (x ∷ y ∷ xs) [] = refl
kinds_append (x ∷ y ∷ xs) (z ∷ []) = other_one (is_update z)
kinds_append (x ∷ y ∷ xs) (z ∷ u ∷ ys) = refl

-- a declaration is no update
abbrev Apart : Stmt → Type 0
Apart x = is_declaration x ≡ true → is_update x ≡ false

apart_cases : Cases Apart
apart_cases = record {
  block = λ body line last all h. node.of_block Bool updates_step body line last;
  loop = λ var range par body line last all h. node.of_loop Bool updates_step var range par body line last;
  cond = λ test body line last all h. node.of_cond Bool updates_step test body line last;
  bind = λ var value body line last all h. node.of_bind Bool updates_step var value body line last;
  declare = λ tensor value line h. node.of_declare Bool updates_step tensor value line;
  freeze = λ tensor line h. node.of_freeze Bool updates_step tensor line;
  thaw = λ tensor line h. node.of_thaw Bool updates_step tensor line;
  update = λ tensor at by value line h. let x : false ≡ true = sym (node.of_update Bool declares_step tensor at by value line) ∙ h in cc;
}

apart : (x : Stmt) → Apart x
apart = by_kind Apart apart_cases

first_or : (a b : Bool) → (a || b) ≡ true → b ≡ false → a ≡ true
first_or true b h k = refl
first_or false b h k = let x : true ≡ false = sym h ∙ k in cc

declared_other : (xs : List Stmt) → list_any is_declaration xs ≡ true → kind_of xs ≡ Other
declared_other [] h = let x : false ≡ true = h in cc
declared_other (x ∷ []) h = ap one (apart x (first_or (is_declaration x) false h refl))
declared_other (x ∷ y ∷ ys) h = refl

opened_by : (line last : ℕ) (xs : List Stmt) (b : Bool) → list_any is_declaration xs ≡ b → kind_of xs ≡ kind_of (if b then s.Block xs line last ∷ [] else xs)
opened_by line last xs true h = declared_other xs h ∙ sym (ap one (node.of_block Bool updates_step xs line last))
opened_by line last xs false h = refl

opened_kind : (line last : ℕ) (xs : List Stmt) → kind_of xs ≡ kind_of (opened line last xs)
opened_kind line last xs = opened_by line last xs (list_any is_declaration xs) refl

abbrev above : Kind → Kind
above Nothing = Nothing
above OneUpdate = Other
above Other = Other

above_one : (b : Bool) → above (one b) ≡ Other
above_one true = refl
above_one false = refl

around_kind : (f : List Stmt → Stmt) (xs : List Stmt) → ((ys : List Stmt) → is_update (f ys) ≡ false) → above (kind_of xs) ≡ kind_of (around f xs)
around_kind f [] h = refl
around_kind f (x ∷ []) h = above_one (is_update x) ∙ sym (ap one (h (x ∷ [])))
around_kind f (x ∷ y ∷ ys) h = sym (ap one (h (x ∷ y ∷ ys)))

within_is : (k : Kind) (e : ExprRest) (tests : List Test) (body : Rest) → (within_kind k e tests body).kind ≡ above k
within_is Nothing e tests body = refl
within_is OneUpdate e tests body = refl
within_is Other e tests body = refl

either_kind : (b : Bool) (r : Rest) (xs ys : List Stmt) → r.kind ≡ kind_of xs → kind_of xs ≡ kind_of ys → (if b then nothing else r).kind ≡ kind_of (if b then [] else ys)
either_kind true r xs ys h k = refl
either_kind false r xs ys h k = h ∙ k

chosen_kind : (line last : ℕ) (l : Left) (e : ExprRest) (test : Test) (r : Rest) (xs : List Stmt) → r.kind ≡ kind_of xs → (chosen_rest (literal_in l) e test r).kind ≡ kind_of (chosen line last l xs)
chosen_kind line last (Literal n) e test r xs h = either_kind (int_eq n (pos 0)) r xs (opened line last xs) h (opened_kind line last xs)
chosen_kind line last (Open x) e test r xs h = within_is r.kind e (test ∷ []) r ∙ ap above h ∙ around_kind (λ b. s.Cond x b line last) xs (λ ys. node.of_cond Bool updates_step x ys line last)

bound_kind : (var line last : ℕ) (l : Left) (e : ExprRest) (r : Rest) (xs : List Stmt) → r.kind ≡ kind_of xs → (let_rest (literal_in l) e r).kind ≡ kind_of (bound var line last l xs)
bound_kind var line last (Literal n) e r xs h = h ∙ opened_kind line last xs
bound_kind var line last (Open x) e r xs h = within_is r.kind e [] r ∙ ap above h ∙ around_kind (λ b. s.Bind var x b line last) xs (λ ys. node.of_bind Bool updates_step var x ys line last)

update_kind : (t : ℕ) (at : List Index) (e : ExprRest) (b : Bool) (x : Stmt) → is_update x ≡ true → (updating_rest t at b e).kind ≡ kind_of (if b then [] else x ∷ [])
update_kind t at e true x h = refl
update_kind t at e false x h = sym (ap one h)

-- ---- all kinds
abbrev KindIs : Stmt → Type 0
KindIs x = (h : Here) (m : Marks) → (rest_of x h m).kind ≡ kind_of (simplified x h m)

abbrev kind_at : Marks → (Marks → Rest) → Kind
kind_at m f = (f m).kind

abbrev left_at : Marks → (Marks → List Stmt) → Kind
left_at m f = kind_of (f m)

bodies : (body : List Stmt) → AllOf KindIs body → (h : Here) (m : Marks) → (all_rest (numbered_all (Marks → Rest) rest_step body h) m).kind ≡ kind_of (simplified_all body h m)
bodies [] all h m = refl
bodies (x ∷ xs) all h m =
    let rest = all_rest (numbered_all (Marks → Rest) rest_step xs (past_stmt x h)) m in
    ap (λ k. kinds k rest.kind) (all.0 h m) ∙ ap (kinds (kind_of (simplified x h m))) (bodies xs all.1 (past_stmt x h) m) ∙ sym (kinds_append (simplified x h m) (simplified_all xs (past_stmt x h) m))

kind_cases : Cases KindIs
kind_cases = record {
  block = λ body line last all h m. ap (kind_at m) (at_block (Marks → Rest) rest_step body line last h) ∙ bodies body all h m ∙ opened_kind line last (simplified_all body h m) ∙ sym (ap (left_at m) (at_block (Marks → List Stmt) simplified_step body line last h));
  loop = λ var range par body line last all h m.
      let m' = binding m var None in
      let rest = all_rest (numbered_all (Marks → Rest) rest_step body h) m' in
      ap (kind_at m) (at_loop (Marks → Rest) rest_step var range par body line last h) ∙ within_is rest.kind _ [] rest ∙ ap above (bodies body all h m')
      ∙ around_kind (λ b. s.Loop var range par b line last) (simplified_all body h m') (λ ys. node.of_loop Bool updates_step var range par ys line last)
      ∙ sym (ap (left_at m) (at_loop (Marks → List Stmt) simplified_step var range par body line last h));
  cond = λ test body line last all h m.
      let inner = behind_test test h in
      let rest = all_rest (numbered_all (Marks → Rest) rest_step body inner) m in
      let e = expr_rest test h.read m in
      let t : Test = record { test = h.test; expr = as_expr (left_of test h.read m) } in
      ap (kind_at m) (at_cond (Marks → Rest) rest_step test body line last h)
      ∙ ap (λ (o : Option ℤ). (chosen_rest (settled_literal (m.tests h.test) o) e t rest).kind) (rest_literal test h.read m ∙ literal_is test h.read m)
      ∙ ap (λ (o : Option ℤ). (chosen_rest o e t rest).kind) (settled_is (m.tests h.test) (left_of test h.read m))
      ∙ chosen_kind line last (test_left test h m) e t rest (simplified_all body inner m) (bodies body all inner m)
      ∙ sym (ap (left_at m) (at_cond (Marks → List Stmt) simplified_step test body line last h));
  bind = λ var value body line last all h m.
      let inner = behind value h in
      let e = expr_rest value h.read m in
      let l = left_of value h.read m in
      let same : e.literal ≡ literal_in l = rest_literal value h.read m ∙ literal_is value h.read m in
      let m' = binding m var (literal_in l) in
      ap (kind_at m) (at_bind (Marks → Rest) rest_step var value body line last h)
      ∙ ap (λ (o : Option ℤ). (let_rest o e (all_rest (numbered_all (Marks → Rest) rest_step body inner) (binding m var o))).kind) same
      ∙ bound_kind var line last l e (all_rest (numbered_all (Marks → Rest) rest_step body inner) m') (simplified_all body inner m') (bodies body all inner m')
      ∙ sym (ap (left_at m) (at_bind (Marks → List Stmt) simplified_step var value body line last h));
  declare = λ tensor value line h m. ap (kind_at m) (at_declare (Marks → Rest) rest_step tensor value line h) ∙ sym (ap one (node.of_declare Bool updates_step tensor value line)) ∙ sym (ap (left_at m) (at_declare (Marks → List Stmt) simplified_step tensor value line h));
  freeze = λ tensor line h m. ap (kind_at m) (at_freeze (Marks → Rest) rest_step tensor line h) ∙ sym (ap one (node.of_freeze Bool updates_step tensor line)) ∙ sym (ap (left_at m) (at_freeze (Marks → List Stmt) simplified_step tensor line h));
  thaw = λ tensor line h m. ap (kind_at m) (at_thaw (Marks → Rest) rest_step tensor line h) ∙ sym (ap one (node.of_thaw Bool updates_step tensor line)) ∙ sym (ap (left_at m) (at_thaw (Marks → List Stmt) simplified_step tensor line h));
  update = λ tensor at by value line h m.
      let e = expr_rest value h.read m in
      let l = left_of value h.read m in
      ap (kind_at m) (at_update (Marks → Rest) rest_step tensor at by value line h)
      ∙ ap (λ (o : Option ℤ). (updating_rest tensor at (is_identity_literal by o) e).kind) (rest_literal value h.read m ∙ literal_is value h.read m)
      ∙ ap (λ b. (updating_rest tensor at b e).kind) (identity_is by l)
      ∙ update_kind tensor at e (is_identity by l) (s.Update tensor at by (as_expr l) line) (node.of_update Bool updates_step tensor at by (as_expr l) line)
      ∙ sym (ap (left_at m) (at_update (Marks → List Stmt) simplified_step tensor at by value line h));
}

-- the kind that is told is that of the simplified form
pub kind_is : (x : Stmt) → KindIs x
kind_is = by_kind KindIs kind_cases
