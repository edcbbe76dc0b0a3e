-- What is gathered of a statement says what is left of it.
use Rattle.std.proofs.Common.{◌≡◌, ℕ, ℤ, pos, Bool, true, false, List, [], ◌∷◌, ◌++◌, map, Option, Some, None, refl, sym, ap, ◌∙◌, append_assoc, if◌then◌else◌, ◌+◌, ◌<◌, length, get_or, drop}
use Rattle.std.proofs.lemmas.List.{map-append, drop_more}
use Rattle.std.specs.Ordering.{int_eq}
use Rattle.fin_base.specs.declared.terms.Op.{Op}
use Rattle.fin_ast.specs.declared.tree.Index.{Index}
use Rattle.fin_ast.specs.declared.tree.Expr.{Expr}
use Rattle.fin_ast.specs.declared.tree.Expr.TheVariants.{Two}
use Rattle.fin_ast.specs.declared.tree.Stmt.{Stmt}
use Rattle.fin_simp.specs.declared.expr_rest.Access.{Access}
use Rattle.fin_simp.specs.declared.expr_rest.ExprRest.{ExprRest}
use Rattle.fin_simp.specs.declared.rest.Test.{Test}
use Rattle.fin_simp.specs.declared.rest.Kind.{Kind}
use Rattle.fin_simp.specs.declared.rest.Kind.TheVariants.{Nothing, OneUpdate, Other}
use Rattle.fin_simp.specs.declared.rest.Rest.{Rest}
use Rattle.fin_simp.specs.Numbered.{Here, past_expr, past_stmt, past_all}
use Rattle.fin_simp.specs.Left.{Marks}
use Rattle.fin_simp.specs.Remaining.{joined_literal}
use Rattle.fin_simp.specs.Rest as told
use Rattle.fin_simp.specs.Gathered.{as_access, as_test, as_kind, as_expr_rest, as_rest, rest_of_all, open_rest, rest_or, both}
use Rattle.fin_simp.specs.Gathered.{nothing, kinds, beside, joined_rest, within_kind, chosen_rest, let_rest}
use Rattle.fin_simp.proofs.Equations.{at_two}
use Rattle.fin_simp.proofs.Sides.{past_two}

-- ---- expressions

abbrev both_told : Op → told.ExprRest → told.ExprRest → told.ExprRest
both_told o a b = told.rest_or (joined_literal o a.literal b.literal) (told.open_rest (a.reads ++ b.reads) (a.vars ++ b.vars))

pub as_rest_or : (o : Option ℤ) (r : ExprRest) → as_expr_rest (rest_or o r) ≡ told.rest_or o (as_expr_rest r)
as_rest_or None r = refl
as_rest_or (Some n) r = refl

as_open : (reads more : List Access) (vars : List ℕ) → as_expr_rest (open_rest (reads ++ more) vars) ≡ told.open_rest (map as_access reads ++ map as_access more) vars
as_open reads more vars = ap (λ (xs : List told.Access). told.open_rest xs vars) (map-append as_access reads more)

as_both : (o : Op) (a b : ExprRest) → as_expr_rest (both o a b) ≡ both_told o (as_expr_rest a) (as_expr_rest b)
as_both o a b =
    let known = joined_literal o a.literal b.literal in
    as_rest_or known (open_rest (a.reads ++ b.reads) (a.vars ++ b.vars)) ∙ ap (told.rest_or known) (as_open a.reads b.reads (a.vars ++ b.vars))

rest_two : (o : Op) (x y : Expr) (k : ℕ) (m : Marks) → told.expr_rest (Two o x y) k m ≡ both_told o (told.expr_rest x k m) (told.expr_rest y (past_expr x k) m)
rest_two o x y k m = ap (λ (f : Marks → told.ExprRest). f m) (at_two (Marks → told.ExprRest) told.expr_rest_step o x y k)

-- of a part of an expression, and the number behind it
abbrev pub IsGathered : ExprRest → ℕ → ℕ → Marks → Expr → Type 0
IsGathered found next k m x = (as_expr_rest found ≡ told.expr_rest x k m) × (next ≡ past_expr x k)

pub gathered_by_two : (o : Op) (x y : Expr) (left right found : ExprRest) (next behind k : ℕ) (m : Marks) → IsGathered left next k m x → as_expr_rest right ≡ told.expr_rest y next m →
    found ≡ both o left right → behind ≡ past_expr y next → IsGathered found behind k m (Two o x y)
gathered_by_two o x y left right found next behind k m first second joins past = (
  ap as_expr_rest joins ∙ as_both o left right
      ∙ ap (λ (a : told.ExprRest). both_told o a (as_expr_rest right)) first.0
      ∙ ap (both_told o (told.expr_rest x k m)) (second ∙ ap (λ (j : ℕ). told.expr_rest y j m) first.1)
      ∙ sym (rest_two o x y k m),
  past ∙ ap (past_expr y) first.1 ∙ sym (past_two o x y k),
)

-- ---- statements

as_kinds : (a b : Kind) → as_kind (kinds a b) ≡ told.kinds (as_kind a) (as_kind b)
as_kinds Nothing b = refl
as_kinds OneUpdate Nothing = refl
as_kinds OneUpdate OneUpdate = refl
as_kinds OneUpdate Other = refl
as_kinds Other Nothing = refl
as_kinds Other OneUpdate = refl
as_kinds Other Other = refl

abbrev rest_with : told.Kind → List told.Access → List ℕ → List told.Test → List ℕ → List Index → told.Rest
rest_with kind reads vars tests changed targets = record { kind = kind; reads = reads; vars = vars; tests = tests; changed = changed; targets = targets }

pub as_beside : (a b : Rest) → as_rest (beside a b) ≡ told.beside (as_rest a) (as_rest b)
as_beside a b =
    let vars = a.vars ++ b.vars in
    let changed = a.changed ++ b.changed in
    let targets = a.targets ++ b.targets in
    ap (λ (k : told.Kind). rest_with k (map as_access (a.reads ++ b.reads)) vars (map as_test (a.tests ++ b.tests)) changed targets) (as_kinds a.kind b.kind)
    ∙ ap (λ (rs : List told.Access). rest_with (told.kinds (as_kind a.kind) (as_kind b.kind)) rs vars (map as_test (a.tests ++ b.tests)) changed targets) (map-append as_access a.reads b.reads)
    ∙ ap (λ (ts : List told.Test). rest_with (told.kinds (as_kind a.kind) (as_kind b.kind)) (map as_access a.reads ++ map as_access b.reads) vars ts changed targets)
    (map-append as_test a.tests b.tests)

as_joined : (e : ExprRest) (tests : List Test) (body : Rest) → as_rest (joined_rest e tests body) ≡ told.joined_rest (as_expr_rest e) (map as_test tests) (as_rest body)
as_joined e tests body =
    let vars = e.vars ++ body.vars in
    ap (λ (rs : List told.Access). rest_with told.Other rs vars (map as_test (tests ++ body.tests)) body.changed body.targets) (map-append as_access e.reads body.reads)
    ∙ ap (λ (ts : List told.Test). rest_with told.Other (map as_access e.reads ++ map as_access body.reads) vars ts body.changed body.targets) (map-append as_test tests body.tests)

pub as_within_kind : (k : Kind) (e : ExprRest) (tests : List Test) (body : Rest) →
    as_rest (within_kind k e tests body) ≡ told.within_kind (as_kind k) (as_expr_rest e) (map as_test tests) (as_rest body)
as_within_kind Nothing e tests body = refl
as_within_kind OneUpdate e tests body = as_joined e tests body
as_within_kind Other e tests body = as_joined e tests body

as_either : (b : Bool) (body : Rest) → as_rest (if b then nothing else body) ≡ (if b then told.nothing else as_rest body)
as_either true body = refl
as_either false body = refl

pub as_chosen : (o : Option ℤ) (e : ExprRest) (test : Test) (body : Rest) → as_rest (chosen_rest o e test body) ≡ told.chosen_rest o (as_expr_rest e) (as_test test) (as_rest body)
as_chosen None e test body = as_within_kind body.kind e (test ∷ []) body
as_chosen (Some n) e test body = as_either (int_eq n (pos 0)) body

pub as_let : (o : Option ℤ) (e : ExprRest) (body : Rest) → as_rest (let_rest o e body) ≡ told.let_rest o (as_expr_rest e) (as_rest body)
as_let None e body = as_within_kind body.kind e [] body
as_let (Some n) e body = refl

-- ---- bodies

kinds_again : (a b c : told.Kind) → told.kinds (told.kinds a b) c ≡ told.kinds a (told.kinds b c)
kinds_again told.Nothing b c = refl
kinds_again told.OneUpdate told.Nothing c = refl
kinds_again told.OneUpdate told.OneUpdate told.Nothing = refl
kinds_again told.OneUpdate told.OneUpdate told.OneUpdate = refl
kinds_again told.OneUpdate told.OneUpdate told.Other = refl
kinds_again told.OneUpdate told.Other told.Nothing = refl
kinds_again told.OneUpdate told.Other told.OneUpdate = refl
kinds_again told.OneUpdate told.Other told.Other = refl
kinds_again told.Other told.Nothing c = refl
kinds_again told.Other told.OneUpdate told.Nothing = refl
kinds_again told.Other told.OneUpdate told.OneUpdate = refl
kinds_again told.Other told.OneUpdate told.Other = refl
kinds_again told.Other told.Other told.Nothing = refl
kinds_again told.Other told.Other told.OneUpdate = refl
kinds_again told.Other told.Other told.Other = refl

abbrev same_rest : (k k' : told.Kind) (rs rs' : List told.Access) (vs vs' : List ℕ) (ts ts' : List told.Test) (cs cs' : List ℕ) (is is' : List Index) → k ≡ k' → rs ≡ rs' → vs ≡ vs' → ts ≡ ts' →
    cs ≡ cs' → is ≡ is' → rest_with k rs vs ts cs is ≡ rest_with k' rs' vs' ts' cs' is'
same_rest k k' rs rs' vs vs' ts ts' cs cs' is is' e f g h i j =
    ap (λ (x : told.Kind). rest_with x rs vs ts cs is) e
    ∙ ap (λ (x : List told.Access). rest_with k' x vs ts cs is) f
    ∙ ap (λ (x : List ℕ). rest_with k' rs' x ts cs is) g
    ∙ ap (λ (x : List told.Test). rest_with k' rs' vs' x cs is) h
    ∙ ap (λ (x : List ℕ). rest_with k' rs' vs' ts' x is) i
    ∙ ap (rest_with k' rs' vs' ts' cs') j

pub beside_again : (a b c : told.Rest) → told.beside (told.beside a b) c ≡ told.beside a (told.beside b c)
beside_again a b c = same_rest _ _ _ _ _ _ _ _ _ _ _ _ (kinds_again a.kind b.kind c.kind) (append_assoc a.reads b.reads c.reads) (append_assoc a.vars b.vars c.vars)
    (append_assoc a.tests b.tests c.tests) (append_assoc a.changed b.changed c.changed) (append_assoc a.targets b.targets c.targets)

-- one statement more is gathered
pub one_more : (found one new : Rest) (told_one rest whole : told.Rest) → told.beside (as_rest found) (told.beside told_one rest) ≡ whole → as_rest one ≡ told_one → new ≡ beside found one →
    told.beside (as_rest new) rest ≡ whole
one_more found one new told_one rest whole inv one_is new_is =
    ap (λ (r : Rest). told.beside (as_rest r) rest) new_is ∙ ap (λ (r : told.Rest). told.beside r rest) (as_beside found one)
    ∙ beside_again (as_rest found) (as_rest one) rest ∙ ap (λ (r : told.Rest). told.beside (as_rest found) (told.beside r rest)) one_is ∙ inv

-- what is left of a body begins with its next statement
pub next_is : (body : List Stmt) (i : ℕ) (x : Stmt) → i < length body → x ≡ get_or body i x → drop i body ≡ x ∷ drop (i + 1) body
next_is body i x less is = drop_more body i x less ∙ ap (λ (y : Stmt). y ∷ drop (i + 1) body) (sym is)

pub next_past : (x : Stmt) (rest body : List Stmt) (h behind whole : Here) → body ≡ x ∷ rest → behind ≡ past_stmt x h → past_all (map past_stmt body) h ≡ whole →
    past_all (map past_stmt rest) behind ≡ whole
next_past x rest body h behind whole is past inv =
    ap (past_all (map past_stmt rest)) past ∙ ap (λ (b : List Stmt). past_all (map past_stmt b) h) (sym is) ∙ inv

pub next_rest : (x : Stmt) (rest body : List Stmt) (h behind : Here) (m : Marks) (found one new : Rest) (whole : told.Rest) → body ≡ x ∷ rest → behind ≡ past_stmt x h →
    told.beside (as_rest found) (rest_of_all body h m) ≡ whole → as_rest one ≡ told.rest_of x h m → new ≡ beside found one →
    told.beside (as_rest new) (rest_of_all rest behind m) ≡ whole
next_rest x rest body h behind m found one new whole is past inv one_is new_is =
    ap (λ (g : Here). told.beside (as_rest new) (rest_of_all rest g m)) past
    ∙ one_more found one new (told.rest_of x h m) (rest_of_all rest (past_stmt x h) m) whole (ap (λ (b : List Stmt). told.beside (as_rest found) (rest_of_all b h m)) (sym is) ∙ inv) one_is new_is
