-- Codes of statements are named in the program's layout where the names of the statements are good.
use Rattle.std.proofs.Common.{◌≡◌, ℕ, ◌+◌, ◌<◌, ◌≤◌, ◌⊎◌, inl, inr, ⊎_elim, Bool, true, false, ◌&&◌, List, [], ◌∷◌, ◌++◌, map, length, refl, sym, ap, ◌∙◌, subst, ℤ, arith}
use Rattle.std.specs.Prelude.{slice_get, nat_eq, ◌||◌, ◌==◌}
use Rattle.std.specs.List.{list_all}
use Rattle.std.specs.Ordering.{int_eq}
use Rattle.std.proofs.lemmas.Bool.{lt-ltb, or_cases, or_left, or_right}
use Rattle.std.proofs.lemmas.Bool.Decides.{nat_tests}
use Rattle.std.proofs.lemmas.List.{length-map}
use Rattle.fin_base.specs.declared.reduce.Reduce.{Reduce}
use Rattle.fin_ast.specs.declared.header.Header.{Header}
use Rattle.fin_ast.specs.declared.checked.Checked.{Checked}
use Rattle.fin_ast.specs.declared.tree.Index.{Index}
use Rattle.fin_ast.specs.declared.tree.Expr.{Expr}
use Rattle.fin_ast.specs.declared.tree.Stmt.{Stmt}
use Rattle.fin_ast.specs.declared.tree.Stmt.TheVariants as s
use Rattle.fin_ast.specs.Bindings.{bindings_step, bindings_of, bindings_of_all}
use Rattle.fin_ast.specs.Scope.{Scope, is_among, is_index, holds_of, is_tensor, is_declaration, is_access, is_named_expr, stmt_step, are_named, within_let}
use Rattle.fin_ast.specs.Scope as names
use Rattle.fin_ast.proofs.Nodes.{of_block, of_loop, of_cond, of_bind, of_declare, of_freeze, of_thaw, of_update}
use Rattle.fin_ir.specs.declared.code.Code.{Code}
use Rattle.fin_ir.specs.declared.code.Code.TheVariants.{Seq, Assign, When, Update, Declare, Freeze, Thaw, Charge}
use Rattle.fin_ir.specs.declared.expression.IExpr.{IExpr}
use Rattle.fin_ir.specs.declared.expression.IExpr.TheVariants.{Num}
use Rattle.fin_ir.specs.declared.layout.Layout.{Layout}
use Rattle.fin_ir.specs.Named.{has_tensor, is_named_in, is_named}
use Rattle.fin_stage.specs.Stages.{work_of_declaration}
use Rattle.fin_stage.proofs.Alive.{left, right, both, holds_there}
use Rattle.fin_read.specs.Reads.{in_box}
use Rattle.fin_read.specs.Values.{Lowered, shape_of, format_of, index_code, value_code, prelude}
use Rattle.fin_read.proofs.Equations.{code_grows}
use Rattle.fin_read.proofs.Indexing.{loop_is_bound}
use Rattle.fin_read.proofs.Naming.{local_below, num, box, count_named, indices_named, values_are_named}
use Rattle.fin_perform.specs.Codes.{charge_of, count_of, declare_code, put_code, freeze_code, thaw_code, update_code, unpaid_update, cond_code, let_code, end_of}
use Rattle.fin_perform.specs.Layouts.{heads_in, variables_in, layout_with}
use Rattle.fin_perform.specs.Naming.{IsScope, AllBelow, ScopesGoInside, Names, NamesStmt, NamesAll, NamesParts, NamesLeaves, NamesBodies, CodesAreNamed}
use Rattle.fin_perform.proofs.NamingNodes.{All, named_seq, named_assign, named_when, named_charge, charge_named, named_update, named_declare, named_freeze, named_thaw, one_more, alone, some_more}

-- ---- scopes

first_or : (v x : ℕ) (vars : List ℕ) → is_among (v ∷ vars) x ≡ true → (x ≡ v) ⊎ (is_among vars x ≡ true)
first_or v x vars e = by_test (nat_eq x v) refl e where
  by_test : (b : Bool) → nat_eq x v ≡ b → (b || is_among vars x) ≡ true → (x ≡ v) ⊎ (is_among vars x ≡ true)
  by_test true t h = inl (grind (arith, nat_tests))
  by_test false t h = inr h

pub scopes_go_inside : ScopesGoInside
scopes_go_inside c sc next p = record {
  later = λ more le. record { headers = p.headers; within = p.within; after = let a = p.after in omega (arith, a, le) };
  in_loop = λ v lt. record {
    headers = p.headers;
    within = λ x e. ⊎_elim (λ among. ⊎_elim (λ (same : x ≡ v). omega (arith, same, lt)) (λ old. of_loops x old) (first_or v x sc.loops among)) (λ among. of_lets x among)
        (or_cases (is_among (v ∷ sc.loops) x) (is_among sc.lets x) e);
    after = p.after;
  };
  in_let = λ v lt. record {
    headers = p.headers;
    within = λ x e. ⊎_elim (λ among. of_loops x among) (λ among. ⊎_elim (λ (same : x ≡ v). omega (arith, same, lt)) (λ old. of_lets x old) (first_or v x sc.lets among))
        (or_cases (is_among sc.loops x) (is_among (v ∷ sc.lets) x) e);
    after = p.after;
  };
} where
  of_loops : (x : ℕ) → is_among sc.loops x ≡ true → x < variables_in c
  of_loops x among = p.within x (or_left (is_among sc.loops x) (is_among sc.lets x) among)

  of_lets : (x : ℕ) → is_among sc.lets x ≡ true → x < variables_in c
  of_lets x among = p.within x (or_right (is_among sc.loops x) (is_among sc.lets x) among)

-- ---- variables that are bound

below_split : (n : ℕ) (a b : List ℕ) → AllBelow n (a ++ b) → AllBelow n a × AllBelow n b
below_split n [] b h = (tt, h)
below_split n (v ∷ a) b h = let rest = below_split n a b h.1 in ((h.0, rest.0), rest.1)

below_parts : (n : ℕ) (xs ys : List Stmt) → AllBelow n (bindings_of_all (xs ++ ys)) → AllBelow n (bindings_of_all xs) × AllBelow n (bindings_of_all ys)
below_parts n [] ys h = (tt, h)
below_parts n (x ∷ xs) ys h =
    let here = below_split n (bindings_of x) (bindings_of_all (xs ++ ys)) h in
    let rest = below_parts n xs ys here.1 in
    (join (bindings_of x) here.0 rest.0, rest.1) where
      join : (a : List ℕ) → AllBelow n a → AllBelow n (bindings_of_all xs) → AllBelow n (a ++ bindings_of_all xs)
      join [] h k = k
      join (v ∷ a) h k = (h.0, join a h.1 k)

named_parts : (sc : Scope) (xs ys : List Stmt) → are_named (xs ++ ys) sc ≡ true → (are_named xs sc ≡ true) × (are_named ys sc ≡ true)
named_parts sc [] ys h = (refl, h)
named_parts sc (x ∷ xs) ys h =
    let rest = named_parts sc xs ys (right (names.is_named x sc) (are_named (xs ++ ys) sc) h) in
    (both (names.is_named x sc) (are_named xs sc) (left (names.is_named x sc) (are_named (xs ++ ys) sc) h) rest.0, rest.1)

-- ---- from names and bindings to those of a part

pub names_from : (c : Checked) (next need : ℕ) (cs : List Code) (a b : List ℕ) (f g : Scope → Bool) → ((n : ℕ) → AllBelow n b → AllBelow n a) → ((sc : Scope) → g sc ≡ true → f sc ≡ true)
    → Names c next need cs a f → Names c next need cs b g
names_from c next need cs a b f g below good h room sc le p bound named = h room sc le p (below (variables_in c) bound) (good sc named)

module _ (c : Checked) (next need : ℕ) where
  pub by_node : (x : Stmt) (cs : List Code) (a : List ℕ) (f : Scope → Bool) → bindings_of x ≡ a → names.is_named x ≡ f → Names c next need cs a f → NamesStmt c next need cs x
  by_node x cs a f ea ef h =
      names_from c next need cs a (bindings_of x) f (names.is_named x) (λ n. subst (AllBelow n) ea) (λ sc e. sym (ap (λ (k : Scope → Bool). k sc) ef) ∙ e) h

  pub parts : NamesParts c next need
  parts = record {
    none = λ bound named room sc le p below good. refl;
    more = λ next' need' cs bound named later less h room sc le p below good. h room sc (omega (arith, less, le)) ((scopes_go_inside c sc next p).later next' later) below good;
    first = λ x xs cs h room sc le p below good. h room sc le p (below_split (variables_in c) (bindings_of x) (bindings_of_all xs) below).0 (left (names.is_named x sc) (are_named xs sc) good);
    later = λ x xs cs h room sc le p below good. h room sc le p (below_split (variables_in c) (bindings_of x) (bindings_of_all xs) below).1 (right (names.is_named x sc) (are_named xs sc) good);
    joined = λ xs ys cs ds h k room sc le p below good.
        let bound = below_parts (variables_in c) xs ys below in
        let named = named_parts sc xs ys good in
        some_more (layout_with c room) cs ds (h room sc le p bound.0 named.0) (k room sc le p bound.1 named.1);
  }

-- ---- at a place

module _ (c : Checked) (next room : ℕ) (sc : Scope) (p : IsScope c sc next) where
  abbrev l : Layout
  l = layout_with c room

  abbrev code_at : Expr → Lowered
  code_at e = value_code (heads_in c) e next

  has_header : (test : Header → Bool) (t : ℕ) → holds_of test (slice_get sc.headers t) ≡ true → has_tensor l t ≡ true
  has_header test t h =
      let lt = holds_there test c.program.headers t (subst (λ (hs : List Header). holds_of test (slice_get hs t) ≡ true) p.headers h) in
      lt-ltb t (length l.formats) (omega (arith, lt, length-map c.program.headers (λ (x : Header). x.format)))

  pub value_named : (e : Expr) → is_named_expr e sc ≡ true → end_of (code_at e) ≤ room
      → All l (prelude (code_at e)) × (is_named_in l (code_at e).value ≡ true)
  value_named e named enough = values_are_named l (heads_in c) sc (variables_in c) e next p.headers few p.within named p.after enough where
    few : length c.program.headers ≤ length l.formats
    few = omega (arith, length-map c.program.headers (λ (x : Header). x.format))

  declare_named : (t work : ℕ) (value : ℤ) → is_declaration sc t value ≡ true → is_named l (Seq (Declare t ∷ charge_of work ∷ [])) ≡ true
  declare_named t work value good =
      let paid = alone l (charge_of work) (charge_named l work) in
      named_seq l (Declare t ∷ charge_of work ∷ []) (one_more l (Declare t) (charge_of work ∷ []) (named_declare l t (has_header (λ (h : Header). int_eq value h.format.fill) t good)) paid)

  count_charge : (t : ℕ) → has_tensor l t ≡ true → is_named l (Charge (count_of (heads_in c) t)) ≡ true
  count_charge t has = named_charge l (count_of (heads_in c) t) (count_named l t has (format_of (heads_in c) t).levels (shape_of (heads_in c) t))

  freeze_named : (t : ℕ) → is_tensor sc t ≡ true → is_named l (freeze_code (heads_in c) t) ≡ true
  freeze_named t good =
      let has = has_header (λ (h : Header). true) t good in
      let last : Code = Charge (count_of (heads_in c) t) in
      let paid = one_more l (charge_of 1) (last ∷ []) (charge_named l 1) (alone l last (count_charge t has)) in
      named_seq l (Freeze t ∷ charge_of 1 ∷ last ∷ []) (one_more l (Freeze t) (charge_of 1 ∷ last ∷ []) (named_freeze l t has) paid)

  thaw_named : (t : ℕ) → is_tensor sc t ≡ true → is_named l (thaw_code (heads_in c) t) ≡ true
  thaw_named t good =
      let has = has_header (λ (h : Header). true) t good in
      let count : Code = Charge (count_of (heads_in c) t) in
      let rest = one_more l count (Thaw t ∷ []) (count_charge t has) (alone l (Thaw t) (named_thaw l t has)) in
      named_seq l (charge_of 1 ∷ count ∷ Thaw t ∷ []) (one_more l (charge_of 1) (count ∷ Thaw t ∷ []) (charge_named l 1) rest)

  -- the steps of the value, and the update in its box
  put_named : (t : ℕ) (at : List Index) (by : Reduce) (value : Expr) → (is_access sc t at && is_named_expr value sc) ≡ true → end_of (code_at value) ≤ room
      → All l (prelude (code_at value)) × (is_named l (put_code (heads_in c) t at by (code_at value).value) ≡ true)
  put_named t at by value good enough =
      let access : is_access sc t at ≡ true = left (is_access sc t at) (is_named_expr value sc) good in
      let known = value_named value (right (is_access sc t at) (is_named_expr value sc) good) enough in
      let v : Lowered = code_at value in
      let grown : next ≤ v.next = code_grows (heads_in c) value next in
      let after : variables_in c ≤ next = p.after in
      let xs : List IExpr = map index_code at in
      let sized : Header → Bool = λ (h : Header). length at == length h.format.levels in
      let has = has_header sized t (left (holds_of sized (slice_get sc.headers t)) (list_all (is_index sc) at) access) in
      let indices : list_all (is_named_in l) xs ≡ true =
      indices_named l sc (λ x h. local_below l x (let b = p.within x (loop_is_bound sc x h) in omega (arith, b, after, grown, enough))) at
      (right (holds_of sized (slice_get sc.headers t)) (list_all (is_index sc) at) access) in
      let put : Code = Update t xs by v.value in
      (known.0, named_when l (in_box (shape_of (heads_in c) t) xs) put (box l (shape_of (heads_in c) t) xs indices) (named_update l t xs by v.value has indices known.1))

  unpaid_named : (t : ℕ) (at : List Index) (by : Reduce) (value : Expr) → (is_access sc t at && is_named_expr value sc) ≡ true → end_of (code_at value) ≤ room
      → All l (unpaid_update (heads_in c) t at by (code_at value))
  unpaid_named t at by value good enough =
      let v : Lowered = code_at value in
      let put : Code = put_code (heads_in c) t at by v.value in
      let known = put_named t at by value good enough in
      some_more l (prelude v) (put ∷ []) known.0 (alone l put known.1)

  update_named : (t : ℕ) (at : List Index) (by : Reduce) (value : Expr) → (is_access sc t at && is_named_expr value sc) ≡ true → end_of (code_at value) ≤ room
      → is_named l (update_code (heads_in c) t at by (code_at value)) ≡ true
  update_named t at by value good enough =
      let v : Lowered = code_at value in
      let put : Code = put_code (heads_in c) t at by v.value in
      let known = put_named t at by value good enough in
      let tail = one_more l put (charge_of 1 ∷ []) known.1 (alone l (charge_of 1) (charge_named l 1)) in
      named_seq l (prelude v ++ put ∷ charge_of 1 ∷ []) (some_more l (prelude v) (put ∷ charge_of 1 ∷ []) known.0 tail)

  -- round the codes of a body

  cond_named : (test : Expr) (cs : List Code) → is_named_expr test sc ≡ true → end_of (code_at test) ≤ room → All l cs
      → is_named l (cond_code (code_at test) cs) ≡ true
  cond_named test cs good enough body =
      let v : Lowered = code_at test in
      let known = value_named test good enough in
      let choice : Code = When v.value (Seq cs) in
      let tail = some_more l (prelude v) (choice ∷ []) known.0 (alone l choice (named_when l v.value (Seq cs) known.1 (named_seq l cs body))) in
      named_seq l (charge_of 1 ∷ prelude v ++ choice ∷ []) (one_more l (charge_of 1) (prelude v ++ choice ∷ []) (charge_named l 1) tail)

  literal_named : (var : ℕ) (n : ℤ) (cs : List Code) → var < room → All l cs → All l (Assign var (Num n) ∷ cs)
  literal_named var n cs lt body = one_more l (Assign var (Num n)) cs (named_assign l var (Num n) lt (num l n)) body

  let_named : (var : ℕ) (value : Expr) (cs : List Code) → var < room → is_named_expr value sc ≡ true → end_of (code_at value) ≤ room → All l cs
      → is_named l (let_code var (code_at value) cs) ≡ true
  let_named var value cs lt good enough body =
      let v : Lowered = code_at value in
      let known = value_named value good enough in
      let put : Code = Assign var v.value in
      let tail = some_more l (prelude v) (put ∷ cs) known.0 (one_more l put cs (named_assign l var v.value lt known.1) body) in
      named_seq l (charge_of 1 ∷ prelude v ++ put ∷ cs) (one_more l (charge_of 1) (prelude v ++ put ∷ cs) (charge_named l 1) tail)

-- ---- wherever they may stand

module _ (c : Checked) (next need : ℕ) where
  abbrev Good : Type 0
  Good = Scope → Bool

  abbrev lowered : Expr → Lowered
  lowered e = value_code (heads_in c) e next

  pub leaves : NamesLeaves c next need
  leaves = record {
    declare = λ t value line. by_node c next need (s.Declare t value line) (declare_code (heads_in c) t ∷ []) _ _
        (of_declare (List ℕ) bindings_step t value line) (of_declare Good stmt_step t value line)
        (λ room sc le p below good.
        let work : ℕ = work_of_declaration (format_of (heads_in c) t).levels (shape_of (heads_in c) t) in
        alone (layout_with c room) (declare_code (heads_in c) t) (declare_named c next room sc p t work value good));
    freeze = λ t line. by_node c next need (s.Freeze t line) (freeze_code (heads_in c) t ∷ []) _ _
        (of_freeze (List ℕ) bindings_step t line) (of_freeze Good stmt_step t line)
        (λ room sc le p below good. alone (layout_with c room) (freeze_code (heads_in c) t) (freeze_named c next room sc p t good));
    thaw = λ t line. by_node c next need (s.Thaw t line) (thaw_code (heads_in c) t ∷ []) _ _
        (of_thaw (List ℕ) bindings_step t line) (of_thaw Good stmt_step t line)
        (λ room sc le p below good. alone (layout_with c room) (thaw_code (heads_in c) t) (thaw_named c next room sc p t good));
    update = λ t at by value line enough. by_node c next need (s.Update t at by value line) (update_code (heads_in c) t at by (lowered value) ∷ []) _ _
        (of_update (List ℕ) bindings_step t at by value line) (of_update Good stmt_step t at by value line)
        (λ room sc le p below good. alone (layout_with c room) (update_code (heads_in c) t at by (lowered value)) (update_named c next room sc p t at by value good (omega (arith, enough, le))));
    unpaid = λ t at by value line enough. by_node c next need (s.Update t at by value line) (unpaid_update (heads_in c) t at by (lowered value)) _ _
        (of_update (List ℕ) bindings_step t at by value line) (of_update Good stmt_step t at by value line)
        (λ room sc le p below good. unpaid_named c next room sc p t at by value good (omega (arith, enough, le)));
  }

  -- the variable of a let has a local
  variable_fits : (v room : ℕ) (sc : Scope) → IsScope c sc next → next ≤ need → need ≤ room → v < variables_in c → v < room
  variable_fits v room sc p low le lt = let after = p.after in omega (arith, after, low, le, lt)

  pub bodies : NamesBodies c next need
  bodies = record {
    block = λ xs line last cs h. by_node c next need (s.Block xs line last) cs _ _
        (of_block (List ℕ) bindings_step xs line last) (of_block Good stmt_step xs line last) h;
    loop = λ var range par xs line last cs h. by_node c next need (s.Loop var range par xs line last) cs _ _
        (of_loop (List ℕ) bindings_step var range par xs line last) (of_loop Good stmt_step var range par xs line last) h;
    known = λ test xs line last cs h. by_node c next need (s.Cond test xs line last) cs _ _
        (of_cond (List ℕ) bindings_step test xs line last) (of_cond Good stmt_step test xs line last)
        (λ room sc le p below good. h room sc le p below (right (is_named_expr test sc) (are_named xs sc) good));
    asked = λ test xs line last cs enough h. by_node c next need (s.Cond test xs line last) (cond_code (lowered test) cs ∷ []) _ _
        (of_cond (List ℕ) bindings_step test xs line last) (of_cond Good stmt_step test xs line last)
        (λ room sc le p below good.
        alone (layout_with c room) (cond_code (lowered test) cs)
        (cond_named c next room sc p test cs (left (is_named_expr test sc) (are_named xs sc) good) (omega (arith, enough, le))
        (h room sc le p below (right (is_named_expr test sc) (are_named xs sc) good))));
    literal = λ var value xs line last n cs low h. by_node c next need (s.Bind var value xs line last) (Seq (Assign var (Num n) ∷ cs) ∷ []) _ _
        (of_bind (List ℕ) bindings_step var value xs line last) (of_bind Good stmt_step var value xs line last)
        (λ room sc le p below good.
        let l : Layout = layout_with c room in
        alone l (Seq (Assign var (Num n) ∷ cs))
        (named_seq l (Assign var (Num n) ∷ cs) (literal_named c next room sc p var n cs (variable_fits var room sc p low le below.0) (inside var value xs cs h room sc le p below good))));
    assigned = λ var value xs line last n cs low h. by_node c next need (s.Bind var value xs line last) (Assign var (Num n) ∷ cs) _ _
        (of_bind (List ℕ) bindings_step var value xs line last) (of_bind Good stmt_step var value xs line last)
        (λ room sc le p below good. literal_named c next room sc p var n cs (variable_fits var room sc p low le below.0) (inside var value xs cs h room sc le p below good));
    evaluated = λ var value xs line last cs enough h. by_node c next need (s.Bind var value xs line last) (let_code var (lowered value) cs ∷ []) _ _
        (of_bind (List ℕ) bindings_step var value xs line last) (of_bind Good stmt_step var value xs line last)
        (λ room sc le p below good.
        let grown : next ≤ (lowered value).next = code_grows (heads_in c) value next in
        alone (layout_with c room) (let_code var (lowered value) cs)
        (let_named c next room sc p var value cs (variable_fits var room sc p (omega (arith, enough, grown)) le below.0)
        (left (is_named_expr value sc) (are_named xs (within_let sc var)) good) (omega (arith, enough, le))
        (inside var value xs cs h room sc le p below good)));
  } where
    -- a let's body
    inside : (var : ℕ) (value : Expr) (xs : List Stmt) (cs : List Code) → NamesAll c next need cs xs → (room : ℕ) (sc : Scope) → need ≤ room → IsScope c sc next
        → AllBelow (variables_in c) (var ∷ bindings_of_all xs) → (is_named_expr value sc && are_named xs (within_let sc var)) ≡ true → All (layout_with c room) cs
    inside var value xs cs h room sc le p below good =
        h room (within_let sc var) le ((scopes_go_inside c sc next p).in_let var below.0) below.1 (right (is_named_expr value sc) (are_named xs (within_let sc var)) good)

pub codes_are_named : CodesAreNamed
codes_are_named c next need = (parts c next need, leaves c next need, bodies c next need)
