-- Where one update is left of statements, it is left of one of them alone, and the codes for that one are those of all.
use Rattle.std.proofs.Common.{◌≡◌, ℕ, ◌≤◌, Bool, true, false, List, [], ◌∷◌, ◌++◌, append_assoc, Option, Some, None, Result, Ok, Err, if◌then◌else◌, refl, sym, ap, ◌∙◌, subst, ℤ, pos, arith}
use Rattle.std.specs.Ordering.{int_eq}
use Rattle.std.specs.Prelude.{IfOk, OnOk}
use Rattle.fin_base.specs.declared.reduce.Reduce.{Reduce}
use Rattle.fin_ast.specs.declared.checked.Checked.{Checked}
use Rattle.fin_ast.specs.declared.tree.Index.{Index}
use Rattle.fin_ast.specs.declared.tree.Expr.{Expr}
use Rattle.fin_ast.specs.declared.tree.Stmt.{Stmt}
use Rattle.fin_ast.specs.declared.tree.Stmt.TheVariants as s
use Rattle.fin_ir.specs.declared.code.Code.{Code}
use Rattle.fin_ir.specs.declared.code.Code.TheVariants.{Assign}
use Rattle.fin_ir.specs.declared.expression.IExpr.TheVariants.{Num}
use Rattle.fin_ir.specs.Declares.{Tensors, some_of, declares_step, declares}
use Rattle.fin_ir.proofs.Nodes.{of_assign}
use Rattle.fin_nest.specs.Sparing.{Staying, all_spare, spare_step, spares}
use Rattle.fin_stage.proofs.Alive.{both}
use Rattle.fin_read.specs.Values.{Heads, value_code}
use Rattle.fin_read.proofs.Equations.{code_grows}
use Rattle.fin_simp.specs.declared.facts.Gap.{Gap}
use Rattle.fin_simp.specs.declared.facts.Known.{Known}
use Rattle.fin_simp.specs.declared.facts.Bound.{Bound}
use Rattle.fin_simp.specs.Facts.{marks_of}
use Rattle.fin_simp.specs.Left.{Marks, binding}
use Rattle.fin_simp.specs.Numbered.{Here, here_at, behind, behind_test, past_expr, past_stmt}
use Rattle.fin_simp.specs.Remaining.{literal_of, is_nothing, are_nothing}
use Rattle.fin_simp.specs.Rest.{ExprRest, Test, Kind, Nothing, OneUpdate, Other, Rest, is_none_kind, kinds, nothing, within_kind, chosen_rest, let_rest, expr_rest, test_rest, rest_step, rest_of}
use Rattle.fin_simp.proofs.Equations.{at_block, at_cond, at_bind}
use Rattle.fin_simp.proofs.Literals.{rest_literal}
use Rattle.fin_simp.proofs.Resting.{rest_agrees, rests_agree}
use Rattle.fin_perform.specs.Appending.{Appends}
use Rattle.fin_perform.specs.Codes.{unpaid_update, end_of}
use Rattle.fin_perform.specs.Layouts.{heads_in}
use Rattle.fin_perform.specs.Meanings.{Deed, Means, stmt_deed, turns_deed}
use Rattle.fin_perform.specs.Naming.{Names, NamesStmt, NamesAll}
use Rattle.fin_perform.specs.Once.{unpaid, once_deed, MeansOnce}
use Rattle.fin_perform.specs.Places.{left_of, left_of_all}
use Rattle.fin_perform.specs.Working.{literal_at, test_at}
use Rattle.fin_perform.proofs.Naming.{parts, leaves, bodies}
use Rattle.fin_perform.proofs.Spared.{neither, unpaid_spares, unpaid_declares_none}
use Rattle.fin_perform.proofs.Staying.{Off, OffStmt, OffAll, off_later, off_first, off_block, off_cond, off_bind, off_bound, off_free, off_update}
use Rattle.fin_perform.proofs.UnpaidMeanings.{once_compose}

-- ---- kinds

later_kind : (a b : Kind) → kinds a b ≡ OneUpdate → is_none_kind a ≡ true → b ≡ OneUpdate
later_kind Nothing b e n = e
later_kind OneUpdate b e n = cc
later_kind Other b e n = cc

alone_kind : (a b : Kind) → kinds a b ≡ OneUpdate → is_none_kind a ≡ false → (a ≡ OneUpdate) × (is_none_kind b ≡ true)
alone_kind Nothing b e n = cc
alone_kind OneUpdate Nothing e n = (refl, refl)
alone_kind OneUpdate OneUpdate e n = cc
alone_kind OneUpdate Other e n = cc
alone_kind Other Nothing e n = cc
alone_kind Other OneUpdate e n = cc
alone_kind Other Other e n = cc

-- around an update that is left there is something else
within_never : (k : Kind) (e : ExprRest) (ts : List Test) (r : Rest) → (within_kind k e ts r).kind ≡ OneUpdate → ⊥
within_never Nothing e ts r h = cc
within_never OneUpdate e ts r h = cc
within_never Other e ts r h = cc

if_kind : (b : Bool) (r : Rest) → (if b then nothing else r).kind ≡ OneUpdate → r.kind ≡ OneUpdate
if_kind true r h = cc
if_kind false r h = h

chosen_kind : (o : Option ℤ) (e : ExprRest) (t : Test) (r : Rest) → (chosen_rest o e t r).kind ≡ OneUpdate → ((n : ℤ) × (o ≡ Some n)) × (r.kind ≡ OneUpdate)
chosen_kind None e t r h = absurd (within_never r.kind e (t ∷ []) r h)
chosen_kind (Some n) e t r h = ((n, refl), if_kind (int_eq n (pos 0)) r h)

let_kind : (o : Option ℤ) (e : ExprRest) (r : Option ℤ → Rest) → (let_rest o e (r o)).kind ≡ OneUpdate → (n : ℤ) × ((o ≡ Some n) × ((r (Some n)).kind ≡ OneUpdate))
let_kind None e r h = absurd (within_never (r None).kind e [] (r None) h)
let_kind (Some n) e r h = (n, (refl, h))

-- ---- statements

abbrev pub Are : Marks → List Stmt → Here → Type 0
Are m xs h = (left_of_all xs h (Some m)).kind ≡ OneUpdate

abbrev pub Is : Marks → Stmt → Here → Type 0
Is m x h = (left_of x h (Some m)).kind ≡ OneUpdate

abbrev Left : Type 0
Left = Marks → Rest

module _ (m : Marks) where
  abbrev kind_at : Left → Kind
  kind_at f = (f m).kind

  pub later_one : (x : Stmt) (xs : List Stmt) (h : Here) → Are m (x ∷ xs) h → is_nothing x h m ≡ true → Are m xs (past_stmt x h)
  later_one x xs h one e = later_kind (rest_of x h m).kind (left_of_all xs (past_stmt x h) (Some m)).kind one (rest_agrees x h m ∙ e)

  pub alone_one : (x : Stmt) (xs : List Stmt) (h : Here) → Are m (x ∷ xs) h → is_nothing x h m ≡ false → Is m x h × (are_nothing xs (past_stmt x h) m ≡ true)
  alone_one x xs h one e =
      let q = alone_kind (rest_of x h m).kind (left_of_all xs (past_stmt x h) (Some m)).kind one (rest_agrees x h m ∙ e) in
      (q.0, sym (rests_agree xs (past_stmt x h) m) ∙ q.1)

  -- something is left of it
  pub some_left : (x : Stmt) (h : Here) → Is m x h → is_nothing x h m ≡ false
  some_left x h one = sym (rest_agrees x h m) ∙ ap is_none_kind one

  pub block_one : (xs : List Stmt) (line last : ℕ) (h : Here) → Is m (s.Block xs line last) h → Are m xs h
  block_one xs line last h one = sym (ap kind_at (at_block Left rest_step xs line last h)) ∙ one

  pub cond_one : (test : Expr) (xs : List Stmt) (line last : ℕ) (h : Here) → Is m (s.Cond test xs line last) h → ((n : ℤ) × (test_at test h (Some m) ≡ Some n)) × Are m xs (behind_test test h)
  cond_one test xs line last h one = chosen_kind (test_rest test h m) (expr_rest test h.read m) _ _ (sym (ap kind_at (at_cond Left rest_step test xs line last h)) ∙ one)

  pub bind_one : (var : ℕ) (value : Expr) (xs : List Stmt) (line last : ℕ) (h : Here) → Is m (s.Bind var value xs line last) h
      → (n : ℤ) × ((literal_at value h (Some m) ≡ Some n) × Are (binding m var (Some n)) xs (behind value h))
  bind_one var value xs line last h one =
      let_kind (expr_rest value h.read m).literal (expr_rest value h.read m) (λ o. left_of_all xs (behind value h) (Some (binding m var o)))
      (sym (ap kind_at (at_bind Left rest_step var value xs line last h)) ∙ one)

-- ---- one statement after another

-- what codes mean for these they mean for the whole, for which they are named too
abbrev pub Whole : ℕ → Marks → List Stmt → Here → List Stmt → Here → Type 0
Whole next m xs h whole outset =
    ((c : Checked) (need : ℕ) (cs : List Code)
    → (Means c next need cs (unpaid (turns_deed xs h (Some m))) → Means c next need cs (unpaid (turns_deed whole outset (Some m))))
    × (NamesAll c next need cs xs → NamesAll c next need cs whole))
    × ((s : Staying) → OffAll s next whole outset (Some m) → OffAll s next xs h (Some m))

module _ (m : Marks) (x : Stmt) (rest body : List Stmt) (h : Here) (is : body ≡ x ∷ rest) (one : Are m body h) where
  abbrev all_one : Are m (x ∷ rest) h
  all_one = subst (λ (b : List Stmt). Are m b h) is one

  pub later_are : (after : Here) → is_nothing x h m ≡ true → after ≡ past_stmt x h → Are m rest after
  later_are after e past = subst (Are m rest) (sym past) (later_one m x rest h all_one e)

  pub alone_is : is_nothing x h m ≡ false → Is m x h
  alone_is e = (alone_one m x rest h all_one e).0

  module _ (next : ℕ) (whole : List Stmt) (outset : Here) (goes : Whole next m body h whole outset) where
    from_all : Whole next m (x ∷ rest) h whole outset
    from_all = subst (λ (b : List Stmt). Whole next m b h whole outset) is goes

    pub later_whole : (after : Here) → is_nothing x h m ≡ true → after ≡ past_stmt x h → Whole next m rest after whole outset
    later_whole after e past = (
      λ c need cs. (
        λ a.
            (from_all.0 c need cs).0
            ((once_compose c next need m).later x rest h cs e (subst (λ (k : Here). Means c next need cs (unpaid (turns_deed rest k (Some m)))) past a)),
        λ a. (from_all.0 c need cs).1 ((parts c next need).later x rest cs a),
      ),
      λ st off. subst (λ (k : Here). OffAll st next rest k (Some m)) (sym past) (off_later x rest h (Some m) st next (from_all.1 st off)),
    )

    pub alone_appends : (heads : Heads) (need : ℕ) (old before new : List Code) → before ≡ old → is_nothing x h m ≡ false
        → Appends heads next need before new (unpaid (stmt_deed x h (Some m))) → Appends heads next need old new (once_deed whole outset (Some m))
    alone_appends heads need old before new same e a = record {
      codes = a.codes;
      appended = a.appended ∙ ap (λ (cs : List Code). cs ++ a.codes) same;
      means = λ c k.
          let laws : MeansOnce c next need m = once_compose c next need m in
          laws.body whole outset a.codes ((from_all.0 c need a.codes).0 (laws.alone x rest h a.codes (alone_one m x rest h all_one e).1 (a.means c k)));
      named = λ c k. (from_all.0 c need a.codes).1 ((parts c next need).first x rest a.codes (a.named c k));
      spares = λ st off. a.spares st (off_first x rest h (Some m) st next (from_all.1 st off));
      declares = a.declares;
      room = a.room;
    }

-- ---- by kind

module _ (heads : Heads) (need : ℕ) (old new : List Code) where
  abbrev pub Adds : ℕ → Deed → Type 0
  Adds next d = Appends heads next need old new d

  -- the same codes for another deed
  adds_as : (next : ℕ) (d e : Deed) → ((c : Checked) (cs : List Code) → Means c next need cs d → Means c next need cs e)
      → ((c : Checked) (cs : List Code) → Names c next need cs d.bound d.named → Names c next need cs e.bound e.named) → Off next d e → Adds next d → Adds next e
  adds_as next d e f g off a = record {
    codes = a.codes;
    appended = a.appended;
    means = λ c k. f c a.codes (a.means c k);
    named = λ c k. g c a.codes (a.named c k);
    spares = λ s o. a.spares s (off s o);
    declares = a.declares;
    room = a.room;
  }

  pub block_appends : (next : ℕ) (m : Marks) (x : Stmt) (body body' : List Stmt) (line last : ℕ) (h : Here) → x ≡ s.Block body line last → body' ≡ body → Is m x h
      → Adds next (once_deed body' h (Some m)) → Adds next (unpaid (stmt_deed x h (Some m)))
  block_appends next m x body body' line last h is same one a =
      let there : Is m (s.Block body line last) h = subst (λ (y : Stmt). Is m y h) is one in
      subst (λ (y : Stmt). Adds next (unpaid (stmt_deed y h (Some m)))) (sym is)
      (adds_as next (once_deed body h (Some m)) (unpaid (stmt_deed (s.Block body line last) h (Some m)))
      (λ c cs. (once_compose c next need m).block body line last h cs (some_left m (s.Block body line last) h there)) (λ c cs. (bodies c next need).block body line last cs)
      (λ st off. off_block body line last h (Some m) st next off)
      (subst (λ (b : List Stmt). Adds next (once_deed b h (Some m))) same a))

  pub cond_appends : (next next' : ℕ) (m m' : Marks) (x : Stmt) (test : Expr) (body body' : List Stmt) (line last : ℕ) (h k : Here) → x ≡ s.Cond test body line last → body' ≡ body
      → k ≡ behind_test test h → m' ≡ m → next' ≡ next → Is m x h → Adds next' (once_deed body' k (Some m')) → Adds next (unpaid (stmt_deed x h (Some m)))
  cond_appends next next' m m' x test body body' line last h k is same here known from one a =
      let there : Is m (s.Cond test body line last) h = subst (λ (y : Stmt). Is m y h) is one in
      let q = cond_one m test body line last h there in
      let at_m : Adds next' (once_deed body' k (Some m)) = subst (λ (n : Marks). Adds next' (once_deed body' k (Some n))) known a in
      let at_k : Adds next' (once_deed body' (behind_test test h) (Some m)) = subst (λ (j : Here). Adds next' (once_deed body' j (Some m))) here at_m in
      let at_body : Adds next' (once_deed body (behind_test test h) (Some m)) = subst (λ (b : List Stmt). Adds next' (once_deed b (behind_test test h) (Some m))) same at_k in
      subst (λ (y : Stmt). Adds next (unpaid (stmt_deed y h (Some m)))) (sym is)
      (adds_as next (once_deed body (behind_test test h) (Some m)) (unpaid (stmt_deed (s.Cond test body line last) h (Some m)))
      (λ c cs. (once_compose c next need m).known test body line last h q.0.0 cs (some_left m (s.Cond test body line last) h there) q.0.1) (λ c cs. (bodies c next need).known test body line last cs)
      (λ st off. off_cond test body line last h (Some m) (some_left m (s.Cond test body line last) h there) st next off)
      (subst (λ (n : ℕ). Adds n (once_deed body (behind_test test h) (Some m))) from at_body))

pub block_are : (m : Marks) (x : Stmt) (body body' : List Stmt) (line last : ℕ) (h : Here) → x ≡ s.Block body line last → body' ≡ body → Is m x h → Are m body' h
block_are m x body body' line last h is same one = subst (λ (b : List Stmt). Are m b h) (sym same) (block_one m body line last h (subst (λ (y : Stmt). Is m y h) is one))

pub cond_are : (m m' : Marks) (x : Stmt) (test : Expr) (body body' : List Stmt) (line last : ℕ) (h k : Here) → x ≡ s.Cond test body line last → body' ≡ body
    → k ≡ behind_test test h → m' ≡ m → Is m x h → Are m' body' k
cond_are m m' x test body body' line last h k is same here known one =
    subst (λ (n : Marks). Are n body' k) (sym known) (subst (λ (j : Here). Are m body' j) (sym here) (subst (λ (b : List Stmt). Are m b (behind_test test h)) (sym same)
    (cond_one m test body line last h (subst (λ (y : Stmt). Is m y h) is one)).1))

-- a let, of which a literal is left
module _ (gaps : List Gap) (known : List Known) (vars vars' items : List Bound) (x : Stmt) (var : ℕ) (value : Expr) (body body' : List Stmt) (line last read number read' : ℕ) (literal : Option ℤ)
    (is : x ≡ s.Bind var value body line last) (same : body' ≡ body) (literal_is : literal ≡ literal_of value read (marks_of gaps known vars)) (read_is : read' ≡ past_expr value read)
    (told : items ≡ record { var = var; number = literal } ∷ vars) (held : vars' ≡ items) (one : Is (marks_of gaps known vars) x (here_at read number)) where
  abbrev m : Marks
  m = marks_of gaps known vars

  abbrev h : Here
  h = here_at read number

  abbrev found : (n : ℤ) × ((literal_at value h (Some m) ≡ Some n) × Are (binding m var (Some n)) body (behind value h))
  found = bind_one m var value body line last h (subst (λ (y : Stmt). Is m y h) is one)

  literal_found : literal ≡ Some found.0
  literal_found = literal_is ∙ sym (rest_literal value read m) ∙ found.1.0

  abbrev inner : Marks
  inner = marks_of gaps known vars'

  inner_is : inner ≡ binding m var (Some found.0)
  inner_is = ap (marks_of gaps known) (held ∙ told) ∙ ap (binding m var) literal_found

  here_is : here_at read' number ≡ behind value h
  here_is = ap (λ (k : ℕ). here_at k number) read_is

  pub bind_are : Are inner body' (here_at read' number)
  bind_are =
      subst (λ (b : List Stmt). Are inner b (here_at read' number)) (sym same)
      (subst (Are inner body) (sym here_is) (subst (λ (n : Marks). Are n body (behind value h)) (sym inner_is) found.1.1))

  module _ (heads : Heads) (next need : ℕ) (old mid new : List Code) (pushed : (n : ℤ) → literal ≡ Some n → mid ≡ old ++ Assign var (Num n) ∷ [])
      (a : Appends heads next need mid new (once_deed body' (here_at read' number) (Some inner))) where
    appended : new ≡ old ++ Assign var (Num found.0) ∷ a.codes
    appended = a.appended ∙ ap (λ (cs : List Code). cs ++ a.codes) (pushed found.0 literal_found) ∙ append_assoc old (Assign var (Num found.0) ∷ []) a.codes

    body_means : (c : Checked) → heads_in c ≡ heads → Means c next need a.codes (once_deed body (behind value h) (Some (binding m var (Some found.0))))
    body_means c k =
        subst (λ (n : Marks). Means c next need a.codes (once_deed body (behind value h) (Some n))) inner_is
        (subst (λ (j : Here). Means c next need a.codes (once_deed body j (Some inner))) here_is
        (subst (λ (b : List Stmt). Means c next need a.codes (once_deed b (here_at read' number) (Some inner))) same (a.means c k)))

    pub bind_appends : Appends heads next need old new (unpaid (stmt_deed x h (Some m)))
    bind_appends = record {
      codes = Assign var (Num found.0) ∷ a.codes;
      appended = appended;
      means = λ c k.
          subst (λ (y : Stmt). Means c next need (Assign var (Num found.0) ∷ a.codes) (unpaid (stmt_deed y h (Some m)))) (sym is)
          ((once_compose c next need m).literal var value body line last h found.0 a.codes
          (some_left m (s.Bind var value body line last) h (subst (λ (y : Stmt). Is m y h) is one)) found.1.0 a.room (body_means c k));
      named = λ c k.
          subst (λ (y : Stmt). NamesStmt c next need (Assign var (Num found.0) ∷ a.codes) y) (sym is)
          ((bodies c next need).assigned var value body line last found.0 a.codes a.room (subst (NamesAll c next need a.codes) same (a.named c k)));
      spares = λ st off.
          let there : is_nothing (s.Bind var value body line last) h m ≡ false
          = some_left m (s.Bind var value body line last) h (subst (λ (y : Stmt). Is m y h) is one) in
          let here = subst (λ (y : Stmt). OffStmt st next y h (Some m)) is off in
          let inside = off_bind var value body line last h (Some m) (Some found.0) found.1.0 there st next here in
          let at_body : OffAll st next body' (here_at read' number) (Some inner) =
          subst (λ (b : List Stmt). OffAll st next b (here_at read' number) (Some inner)) (sym same)
          (subst (λ (j : Here). OffAll st next body j (Some inner)) (sym here_is)
          (subst (λ (n : Marks). OffAll st next body (behind value h) (Some n)) (sym inner_is) inside)) in
          both (spares st (Assign var (Num found.0))) _
          (of_assign Bool (spare_step st) var (Num found.0) ∙ off_bound var value body line last h (Some m) st next here) (a.spares st at_body);
      declares = λ t. neither (declares (Assign var (Num found.0)) t) _ (ap (λ (own : Tensors). own t) (of_assign Tensors declares_step var (Num found.0))) (a.declares t);
      room = a.room;
    }

-- the update itself

pub both_ok : {T E : Type 0} (r : Result T E) (P : Type 0) (Q R : T → Type 0) → ((x : T) → P → Q x → R x) → OnOk r P → IfOk r Q → IfOk r R
both_ok (Ok x) P Q R f p q = f x p q
both_ok (Err e) P Q R f p q = tt

pub update_appends : (heads : Heads) (next need : ℕ) (old new : List Code) (m : Marks) (x : Stmt) (t : ℕ) (at at' : List Index) (by : Reduce) (value : Expr) (line : ℕ) (h : Here)
    → x ≡ s.Update t at by value line → at' ≡ at → Is m x h → new ≡ old ++ unpaid_update heads t at' by (value_code heads value next) → need ≡ end_of (value_code heads value next)
    → Appends heads next need old new (unpaid (stmt_deed x h (Some m)))
update_appends heads next need old new m x t at at' by value line h is same one code_is need_is =
    let codes : List Code = unpaid_update heads t at by (value_code heads value next) in
    let there : Is m (s.Update t at by value line) h = subst (λ (y : Stmt). Is m y h) is one in
    record {
      codes = codes;
      appended = code_is ∙ ap (λ (k : List Index). old ++ unpaid_update heads t k by (value_code heads value next)) same;
      means = λ c k.
          let enough : end_of (value_code (heads_in c) value next) ≤ need = subst (λ (g : Heads). end_of (value_code g value next) ≤ need) (sym k) (omega (arith, need_is)) in
          subst (λ (y : Stmt). Means c next need codes (unpaid (stmt_deed y h (Some m)))) (sym is)
          (subst (λ (g : Heads). Means c next need (unpaid_update g t at by (value_code g value next)) (unpaid (stmt_deed (s.Update t at by value line) h (Some m)))) k
          ((once_compose c next need m).update t at by value line h (some_left m (s.Update t at by value line) h there) enough));
      named = λ c k.
          let enough : end_of (value_code (heads_in c) value next) ≤ need = subst (λ (g : Heads). end_of (value_code g value next) ≤ need) (sym k) (omega (arith, need_is)) in
          subst (λ (y : Stmt). NamesStmt c next need codes y) (sym is)
          (subst (λ (g : Heads). NamesStmt c next need (unpaid_update g t at by (value_code g value next)) (s.Update t at by value line)) k ((leaves c next need).unpaid t at by value line enough));
      spares = λ st off.
          let here = subst (λ (y : Stmt). OffStmt st next y h (Some m)) is off in
          unpaid_spares st heads t at by value next (λ y le. off_free y le st here.below)
          (off_update t at by value line h (Some m) (some_left m (s.Update t at by value line) h there) st next here);
      declares = unpaid_declares_none heads t at by (value_code heads value next);
      room = omega (arith, need_is, code_grows heads value next);
    }
