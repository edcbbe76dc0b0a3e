-- The statements of a text bind variables in order, no more than it has tokens, and nest loops no deeper than there is room.
use Rattle.std.proofs.Common.{◌≡◌, ◌≤◌, ◌<◌, ℕ, zero, suc, ◌+◌, ◌-◌, max, Bool, true, false, List, [], ◌∷◌, ◌++◌, map, length, length-append, Option, Some, None, refl, sym, ap, ◌∙◌, subst, arith, append_assoc, ℤ}
use Rattle.std.specs.Prelude.{if◌then◌else◌, ◌&&◌, ◌==◌}
use Rattle.std.specs.List.{concat}
use Rattle.std.proofs.lemmas.Bool.Decides.{Decides-eqb}
use Rattle.std.proofs.lemmas.List.{append-nil}
use Rattle.fin_base.specs.declared.reduce.Reduce.{Reduce}
use Rattle.fin_ast.specs.Bindings.{bindings_step, bindings_of, bindings_of_all, counts_from}
use Rattle.fin_ast.specs.Depth.{depth_step, depth_of, depth_of_all, deepest}
use Rattle.fin_ast.specs.declared.tree.Index.{Index}
use Rattle.fin_ast.specs.declared.tree.Expr.{Expr}
use Rattle.fin_ast.specs.declared.tree.Stmt.{Stmt}
use Rattle.fin_ast.specs.declared.tree.Stmt.TheVariants as stmt
use Rattle.fin_ast.proofs.Nodes.{of_block, of_loop, of_cond, of_bind, of_declare, of_freeze, of_thaw, of_update}
use Rattle.fin_lex.specs.declared.token.Token.{Token}
use Rattle.fin_parse.specs.declared.class.Class.TheVariants as class
use Rattle.fin_parse.specs.declared.grammar.Phrase.{Phrase}
use Rattle.fin_parse.specs.declared.grammar.Phrase.TheVariants as phrase
use Rattle.fin_parse.specs.declared.grammar.Form.{Form}
use Rattle.fin_parse.specs.declared.grammar.Form.TheVariants as form
use Rattle.fin_parse.specs.declared.grammar.Symbol.TheVariants.{Word, One, Many, Maybe, Deeper, InLoop}
use Rattle.fin_parse.specs.declared.tree.Tree.{Tree}
use Rattle.fin_parse.specs.declared.tree.Tree.TheVariants.{Leaf, Node, Group}
use Rattle.fin_parse.specs.declared.tree.Tree.TheOpen.{Tree-F}
use Rattle.fin_parse.specs.declared.tree.Room.{Room}
use Rattle.fin_parse.specs.Elaboration.{Elaboration, Naming, elaboration_of, elaboration_step, stmts_at, stmts_in, binders_at, binders_in, turned, declared, updated, tensor_number, with_variable, line_of, part}
use Rattle.fin_parse.specs.Grammar.{phrase_of, row_of}
use Rattle.fin_parse.specs.Syntax.{Sign, real, IsGroup, signs, lower, entered}
use Rattle.fin_parse.specs.Terms.{is_par, is_freeze, reduce_of}
use Rattle.fin_parse.proofs.Induction.{Each, Kept, Parts, at1, at2, at3, at5, each, tokens_real}
use Rattle.fin_parse.proofs.Nodes.{of_group, of_node}

-- n, n + 1, and so on
abbrev pub numbers : ℕ → ℕ → List ℕ
numbers n zero = []
numbers n (suc m) = n ∷ numbers (n + 1) m

numbers_more : (n m : ℕ) → n ∷ numbers (n + 1) m ≡ numbers n (m + 1)
numbers_more n m = ap (numbers n) (let e : suc m ≡ m + 1 = omega arith in e)

numbers_split : (n a b : ℕ) → numbers n a ++ numbers (n + a) b ≡ numbers n (a + b)
numbers_split n zero b = let e : n + 0 ≡ n = omega arith in let z : 0 + b ≡ b = omega arith in ap (λ m. numbers m b) e ∙ ap (numbers n) (sym z)
numbers_split n (suc a) b =
    let e : n + suc a ≡ n + 1 + a = omega arith in
    let s : suc a + b ≡ suc (a + b) = omega arith in
    ap (λ m. n ∷ numbers (n + 1) a ++ numbers m b) e ∙ ap (λ ms. n ∷ ms) (numbers_split (n + 1) a b) ∙ ap (numbers n) (sym s)

pub numbers_count : (n m : ℕ) → counts_from n (numbers n m) ≡ true
numbers_count n zero = refl
numbers_count n (suc m) = ap (λ b. b && counts_from (n + 1) (numbers (n + 1) m)) ((Decides-eqb n n).1 refl) ∙ numbers_count (n + 1) m

-- ---- statements of the syntax tree

bindings_joined : (ss ts : List Stmt) → bindings_of_all (ss ++ ts) ≡ bindings_of_all ss ++ bindings_of_all ts
bindings_joined [] ts = refl
bindings_joined (s ∷ ss) ts = ap (λ vs. bindings_of s ++ vs) (bindings_joined ss ts) ∙ sym (append_assoc (bindings_of s) (bindings_of_all ss) (bindings_of_all ts))

depth_joined : (ss ts : List Stmt) (d : ℕ) → depth_of_all ss ≤ d → depth_of_all ts ≤ d → depth_of_all (ss ++ ts) ≤ d
depth_joined [] ts d h k = k
depth_joined (s ∷ ss) ts d h k = let r = depth_joined ss ts d (omega (arith, h)) k in omega (arith, h, r)

-- statements that bind so many variables, from a number on, and nest loops so deep
pub record Fits (ss : List Stmt) (n m d : ℕ) : Type 0 where
  pub bindings : bindings_of_all ss ≡ numbers n m
  pub depth : depth_of_all ss ≤ d

nothing_fits : (n d : ℕ) → Fits [] n 0 d
nothing_fits n d = record { bindings = refl; depth = omega arith }

one_fits : (s : Stmt) (n d : ℕ) → bindings_of s ≡ [] → depth_of s ≡ 0 → Fits (s ∷ []) n 0 d
one_fits s n d h k = record { bindings = ap (λ vs. vs ++ []) h; depth = omega (arith, k) }

module _ (n d : ℕ) where
  declare_fits : (tensor : ℕ) (value : ℤ) (line : ℕ) → Fits (stmt.Declare tensor value line ∷ []) n 0 d
  declare_fits tensor value line = one_fits (stmt.Declare tensor value line) n d (of_declare (List ℕ) bindings_step tensor value line) (of_declare ℕ depth_step tensor value line)

  freeze_fits : (tensor line : ℕ) → Fits (stmt.Freeze tensor line ∷ []) n 0 d
  freeze_fits tensor line = one_fits (stmt.Freeze tensor line) n d (of_freeze (List ℕ) bindings_step tensor line) (of_freeze ℕ depth_step tensor line)

  thaw_fits : (tensor line : ℕ) → Fits (stmt.Thaw tensor line ∷ []) n 0 d
  thaw_fits tensor line = one_fits (stmt.Thaw tensor line) n d (of_thaw (List ℕ) bindings_step tensor line) (of_thaw ℕ depth_step tensor line)

  update_fits : (tensor : ℕ) (at : List Index) (by : Reduce) (value : Expr) (line : ℕ) → Fits (stmt.Update tensor at by value line ∷ []) n 0 d
  update_fits tensor at by value line = one_fits (stmt.Update tensor at by value line) n d (of_update (List ℕ) bindings_step tensor at by value line) (of_update ℕ depth_step tensor at by value line)

  block_fits : (body : List Stmt) (line last m : ℕ) → Fits body n m d → Fits (stmt.Block body line last ∷ []) n m d
  block_fits body line last m h = record { bindings = append-nil (bindings_of (stmt.Block body line last)) ∙ of_block (List ℕ) bindings_step body line last ∙ h.bindings; depth = omega (arith, of_block ℕ depth_step body line last, h.depth) }

  cond_fits : (test : Expr) (body : List Stmt) (line last m : ℕ) → Fits body n m d → Fits (stmt.Cond test body line last ∷ []) n m d
  cond_fits test body line last m h = record { bindings = append-nil (bindings_of (stmt.Cond test body line last)) ∙ of_cond (List ℕ) bindings_step test body line last ∙ h.bindings; depth = omega (arith, of_cond ℕ depth_step test body line last, h.depth) }

  bind_fits : (value : Expr) (body : List Stmt) (line last m : ℕ) → Fits body (n + 1) m d → Fits (stmt.Bind n value body line last ∷ []) n (m + 1) d
  bind_fits value body line last m h = record { bindings = append-nil (bindings_of (stmt.Bind n value body line last)) ∙ of_bind (List ℕ) bindings_step n value body line last ∙ ap (λ vs. n ∷ vs) h.bindings ∙ numbers_more n m; depth = omega (arith, of_bind ℕ depth_step n value body line last, h.depth) }

  loop_fits : (range : Option (ℕ × ℕ)) (par : Bool) (body : List Stmt) (line last m : ℕ) → Fits body (n + 1) m d → Fits (stmt.Loop n range par body line last ∷ []) n (m + 1) (d + 1)
  loop_fits range par body line last m h = record { bindings = append-nil (bindings_of (stmt.Loop n range par body line last)) ∙ of_loop (List ℕ) bindings_step n range par body line last ∙ ap (λ vs. n ∷ vs) h.bindings ∙ numbers_more n m; depth = omega (arith, of_loop ℕ depth_step n range par body line last, h.depth) }

-- ---- trees

module _ (text : List ℕ) where
  abbrev elaboration : Tree → Elaboration
  elaboration = elaboration_of text

  -- the statements of a tree fit, and it binds no more variables than it has tokens
  pub record Sized (d : ℕ) (x : List Sign) (t : Tree) : Type 0 where
    pub fits : (lead : Option Token) (s : Naming) (n : ℕ) → Fits ((elaboration t).stmts lead s n) n (elaboration t).binders d
    pub few : (elaboration t).binders ≤ length x

  abbrev pub Holds : Room → Phrase → List Sign → Tree → Type 0
  Holds k phrase.Stmt x t = Sized k.loops x t
  Holds k phrase.Turns x t = Sized (k.loops + 1) x t
  Holds k phrase.Body x t = Sized k.loops x t
  Holds k phrase.Stmts x t = Sized k.loops x t
  Holds k phrase.Change x t = Sized k.loops x t
  Holds k _ x t = Unit {0}

  rows : (us : List Tree) (k : Room) (x : List Sign) → Each Holds k phrase.Stmt x us → (s : Naming) (n : ℕ) → Fits (stmts_in text (map elaboration us) s n) n (binders_in text (map elaboration us)) k.loops
  rows [] k x h s n = nothing_fits n k.loops
  rows (u ∷ us) k x (y, z, cut, first, rest) s n =
      let a = first.fits None s n in
      let r = rows us k z rest s (n + (elaboration u).binders) in
      record {
        bindings = bindings_joined ((elaboration u).stmts None s n) (stmts_in text (map elaboration us) s (n + (elaboration u).binders)) ∙ ap (λ vs. vs ++ bindings_of_all (stmts_in text (map elaboration us) s (n + (elaboration u).binders))) a.bindings
            ∙ ap (λ vs. numbers n (elaboration u).binders ++ vs) r.bindings ∙ numbers_split n (elaboration u).binders (binders_in text (map elaboration us));
        depth = depth_joined ((elaboration u).stmts None s n) (stmts_in text (map elaboration us) s (n + (elaboration u).binders)) k.loops a.depth r.depth;
      }

  rows_few : (us : List Tree) (k : Room) (x : List Sign) → Each Holds k phrase.Stmt x us → binders_in text (map elaboration us) ≤ length x
  rows_few [] k x h = omega arith
  rows_few (u ∷ us) k x (y, z, cut, first, rest) = omega (arith, first.few, rows_few us k z rest, ap length cut, length-append y z)

  many_sized : (k : Room) (x : List Sign) (v : Tree) → Kept Holds k (Many phrase.Stmt) x v → Sized k.loops x v
  many_sized k x v (us, is, h) = subst (Sized k.loops x) (sym is) (record {
    fits = λ lead s n. subst (λ (e : Elaboration). Fits (e.stmts lead s n) n e.binders k.loops) (sym (of_group Elaboration (elaboration_step text) us)) (rows us k x h s n);
    few = subst (λ (e : Elaboration). e.binders ≤ length x) (sym (of_group Elaboration (elaboration_step text) us)) (rows_few us k x h);
  })

  sized : (f : Form) (us : List Tree) (d : ℕ) (x : List Sign) → ((lead : Option Token) (s : Naming) (n : ℕ) → Fits (stmts_at text f (map elaboration us) lead s n) n (binders_at text f (map elaboration us)) d) → binders_at text f (map elaboration us) ≤ length x → Sized d x (Node f us)
  sized f us d x h k = record {
    fits = λ lead s n. subst (λ (e : Elaboration). Fits (e.stmts lead s n) n e.binders d) (sym (of_node Elaboration (elaboration_step text) f us)) (h lead s n);
    few = subst (λ (e : Elaboration). e.binders ≤ length x) (sym (of_node Elaboration (elaboration_step text) f us)) k;
  }

  length2 : (p q x : List Sign) → x ≡ p ++ (q ++ []) → length x ≡ length p + length q
  length2 p q x e = omega (arith, ap length e, length-append p (q ++ []), length-append q [])

  length3 : (p q r x : List Sign) → x ≡ p ++ (q ++ (r ++ [])) → length x ≡ length p + (length q + length r)
  length3 p q r x e = omega (arith, ap length e, length-append p (q ++ (r ++ [])), length2 q r (q ++ (r ++ [])) refl)

  length5 : (n o p q r x : List Sign) → x ≡ n ++ (o ++ (p ++ (q ++ (r ++ [])))) → length x ≡ length n + (length o + (length p + (length q + length r)))
  length5 n o p q r x e = omega (arith, ap length e, length-append n (o ++ (p ++ (q ++ (r ++ [])))), length-append o (p ++ (q ++ (r ++ []))), length3 p q r (p ++ (q ++ (r ++ []))) refl)

  declared_fits : (o : Option ℕ) (value : ℤ) (line n d : ℕ) → Fits (declared text o value line) n 0 d
  declared_fits None value line n d = nothing_fits n d
  declared_fits (Some tensor) value line n d = declare_fits n d tensor value line

  updated_fits : (o : Option ℕ) (at : List Index) (by : Reduce) (value : Expr) (line n d : ℕ) → Fits (updated text o at by value line) n 0 d
  updated_fits None at by value line n d = nothing_fits n d
  updated_fits (Some tensor) at by value line n d = update_fits n d tensor at by value line

  turned_fits : (o : Option ℕ) (lead : Option Token) (n d : ℕ) → Fits (turned text o lead) n 0 d
  turned_fits None lead n d = nothing_fits n d
  turned_fits (Some tensor) lead n d = by (is_freeze lead) where
    by : (b : Bool) → Fits (if b then stmt.Freeze tensor (line_of lead) ∷ [] else stmt.Thaw tensor (line_of lead) ∷ []) n 0 d
    by true = freeze_fits n d tensor (line_of lead)
    by false = thaw_fits n d tensor (line_of lead)

  step : (k : Room) (f : Form) (x : List Sign) (us : List Tree) → Parts Holds k (row_of f) x us → Holds k (phrase_of f) x (Node f us)
  step k form.Loop x us h = at2 Holds k x us (λ (ts : List Tree). Sized k.loops x (Node form.Loop ts)) (Word class.Loop) (InLoop phrase.Turns) h (λ p q u v e a b.
      sized form.Loop (u ∷ v ∷ []) k.loops x (λ lead s n. subst (Fits ((elaboration v).stmts (elaboration u).first s n) n (elaboration v).binders) (let i : k.loops - 1 + 1 ≡ k.loops = omega (arith, b.0) in i) (b.1.fits (elaboration u).first s n)) (omega (arith, b.1.few, length2 p q x e)))
  step k form.If x us h = at3 Holds k x us (λ (ts : List Tree). Sized k.loops x (Node form.If ts)) (Word class.If) (One phrase.Expr) (One phrase.Body) h (λ p q r u v w e a b d.
      sized form.If (u ∷ v ∷ w ∷ []) k.loops x (λ lead s n. cond_fits n k.loops ((elaboration v).value s) ((elaboration w).stmts None s n) (line_of (elaboration u).first) (line_of (elaboration w).closing) (elaboration w).binders (d.fits None s n)) (omega (arith, d.few, length3 p q r x e)))
  step k form.Let x us h = at5 Holds k x us (λ (ts : List Tree). Sized k.loops x (Node form.Let ts)) (Word class.Let) (Word class.Name) (Word class.Equals) (One phrase.Expr) (One phrase.Body) h (λ n o p q r t u v w y e a b d f g.
      sized form.Let (t ∷ u ∷ v ∷ w ∷ y ∷ []) k.loops x (λ lead s m. bind_fits m k.loops ((elaboration w).value s) ((elaboration y).stmts None (with_variable s (elaboration u).first m) (m + 1)) (line_of (elaboration t).first) (line_of (elaboration y).closing) (elaboration y).binders (g.fits None (with_variable s (elaboration u).first m) (m + 1))) (omega (arith, g.few, ap length a.1, length5 n o p q r x e)))
  step k form.Block x us h = at1 Holds k x us (λ (ts : List Tree). Sized k.loops x (Node form.Block ts)) (One phrase.Body) h (λ p u e a.
      sized form.Block (u ∷ []) k.loops x (λ lead s n. block_fits n k.loops ((elaboration u).stmts None s n) (line_of (elaboration u).first) (line_of (elaboration u).closing) (elaboration u).binders (a.fits None s n)) (omega (arith, a.few, ap length e, length-append p [])))
  step k form.Turn x us h = sized form.Turn us k.loops x (λ lead s n. turned_fits (tensor_number text s (part (map elaboration us) 1).first) (part (map elaboration us) 0).first n k.loops) (omega arith)
  step k form.Named x us h = at2 Holds k x us (λ (ts : List Tree). Sized k.loops x (Node form.Named ts)) (Word class.Name) (One phrase.Change) h (λ p q u v e a b.
      sized form.Named (u ∷ v ∷ []) k.loops x (λ lead s n. b.fits (elaboration u).first s n) (omega (arith, b.few, length2 p q x e)))
  step k form.Turns x us h = at3 Holds k x us (λ (ts : List Tree). Sized (k.loops + 1) x (Node form.Turns ts)) (Word class.Name) (Maybe phrase.Range) (One phrase.Body) h (λ p q r u v w e a b d.
      sized form.Turns (u ∷ v ∷ w ∷ []) (k.loops + 1) x (λ lead s n. loop_fits n k.loops (elaboration v).range (is_par lead) ((elaboration w).stmts None (with_variable s (elaboration u).first n) (n + 1)) (line_of lead) (line_of (elaboration w).closing) (elaboration w).binders (d.fits None (with_variable s (elaboration u).first n) (n + 1))) (omega (arith, d.few, ap length a.1, length3 p q r x e)))
  step k form.Body x us h = at3 Holds k x us (λ (ts : List Tree). Sized k.loops x (Node form.Body ts)) (Word class.OpenBrace) (Deeper phrase.Stmts) (Word class.CloseBrace) h (λ p q r u v w e a b d.
      sized form.Body (u ∷ v ∷ w ∷ []) k.loops x (λ lead s n. b.1.fits None s n) (omega (arith, b.1.few, length3 p q r x e)))
  step k form.Stmts x us h = at1 Holds k x us (λ (ts : List Tree). Sized k.loops x (Node form.Stmts ts)) (Many phrase.Stmt) h (λ p u e a.
      sized form.Stmts (u ∷ []) k.loops x (λ lead s n. (many_sized k p u a).fits None s n) (omega (arith, (many_sized k p u a).few, ap length e, length-append p [])))
  step k form.Declaration x us h = sized form.Declaration us k.loops x (λ lead s n. declared_fits (tensor_number text s lead) (part (map elaboration us) 1).number (line_of lead) n k.loops) (omega arith)
  step k form.Update x us h = sized form.Update us k.loops x (λ lead s n. updated_fits (tensor_number text s lead) ((part (map elaboration us) 1).indices s) (reduce_of (part (map elaboration us) 3).first) ((part (map elaboration us) 4).value s) (line_of lead) n k.loops) (omega arith)
  step k form.InputHeader x us h = tt
  step k form.OtherHeader x us h = tt
  step k form.Format x us h = tt
  step k form.StoreWord x us h = tt
  step k form.Fill x us h = tt
  step k form.Shape x us h = tt
  step k form.Extent x us h = tt
  step k form.PlusInt x us h = tt
  step k form.MinusInt x us h = tt
  step k form.Magnitude x us h = tt
  step k form.WidestMagnitude x us h = tt
  step k form.Range x us h = tt
  step k form.Reducing x us h = tt
  step k form.Putting x us h = tt
  step k form.Plains x us h = tt
  step k form.PlainList x us h = tt
  step k form.NextPlain x us h = tt
  step k form.Constant x us h = tt
  step k form.Shifted x us h = tt
  step k form.PlusOffset x us h = tt
  step k form.MinusOffset x us h = tt
  step k form.Expr x us h = tt
  step k form.Compared x us h = tt
  step k form.Sum x us h = tt
  step k form.PlusTerm x us h = tt
  step k form.MinusTerm x us h = tt
  step k form.Term x us h = tt
  step k form.NextUnary x us h = tt
  step k form.NumberUnary x us h = tt
  step k form.OtherUnary x us h = tt
  step k form.Negation x us h = tt
  step k form.NamedOperand x us h = tt
  step k form.Parentheses x us h = tt
  step k form.Call x us h = tt
  step k form.NegatedNumber x us h = tt
  step k form.NegatedWidest x us h = tt
  step k form.NegatedOperand x us h = tt
  step k form.Pair x us h = tt
  step k form.Access x us h = tt
  step k form.Indices x us h = tt
  step k form.IndexList x us h = tt
  step k form.NextIndex x us h = tt
  step k form.BareIndex x us h = tt
  step k form.ProtocolIndex x us h = tt
  step k form.PlainCore x us h = tt
  step k form.LooseCore x us h = tt
  step k form.LooseConstant x us h = tt
  step k form.LooseNamed x us h = tt
  step k form.PlusRest x us h = tt
  step k form.MinusRest x us h = tt
  step k form.AddedNumber x us h = tt
  step k form.AddedName x us h = tt

  -- the statements of a text
  pub body_sized : (k : Room) (ts : List Token) (us : List Tree) → IsGroup k phrase.Stmt (signs ts) us → (s : Naming) → Fits (stmts_in text (map elaboration us) s 0) 0 (binders_in text (map elaboration us)) k.loops × (binders_in text (map elaboration us) ≤ length (signs ts))
  body_sized k ts us h s = let e = each Holds step h (tokens_real ts) in (rows us k (signs ts) e s 0, rows_few us k (signs ts) e)
