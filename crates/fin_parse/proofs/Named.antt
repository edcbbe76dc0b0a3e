-- The trees of a text that breaks no rule on names and fills stand for statements whose names are bound.
use Rattle.std.proofs.Common.{◌≡◌, ℕ, zero, suc, ◌^◌, Bool, true, false, not, ◌&&◌, ◌==◌, cond, nat_lt, List, [], ◌∷◌, ◌++◌, map, Option, Some, None, slice_index_or, refl, sym, ap, ◌∙◌, subst}
use Rattle.std.specs.Prelude.{if◌then◌else◌}
use Rattle.std.proofs.lemmas.Bool.{eqb-true}
use Rattle.fin_base.specs.declared.terms.Op.TheVariants.{Add, Sub, Mul}
use Rattle.fin_lex.specs.declared.token.Token.{Token}
use Rattle.fin_lex.specs.declared.token.TokenKind.{TokenKind}
use Rattle.fin_lex.specs.declared.token.TokenKind.TheVariants as kind
use Rattle.fin_parse.specs.declared.class.Class.{Class}
use Rattle.fin_parse.specs.declared.class.Class.TheVariants as class
use Rattle.fin_parse.specs.declared.class.TheConstants.{RESERVED_CLASSES, SYMBOL_CLASSES}
use Rattle.fin_parse.specs.declared.grammar.Phrase.{Phrase}
use Rattle.fin_parse.specs.declared.grammar.Phrase.TheVariants as phrase
use Rattle.fin_parse.specs.declared.grammar.Form.{Form}
use Rattle.fin_parse.specs.declared.grammar.Form.TheVariants as form
use Rattle.fin_parse.specs.declared.grammar.Symbol.TheVariants.{Word, One, Many, Maybe, Deeper, InLoop}
use Rattle.fin_parse.specs.declared.scope.Fill.{Fill}
use Rattle.fin_parse.specs.declared.tree.Tree.{Tree}
use Rattle.fin_parse.specs.declared.tree.Tree.TheVariants.{Leaf, Node, Group}
use Rattle.fin_parse.specs.declared.tree.Tree.TheOpen.{Tree-F}
use Rattle.fin_parse.specs.declared.tree.Room.{Room}
use Rattle.fin_parse.specs.Choices.{same_class}
use Rattle.fin_parse.specs.Classes.{class_of}
use Rattle.fin_parse.specs.Elaboration.{plain, loose, with_protocol, Elaboration, elaboration_of, elaboration_step, plus_word, minus_word}
use Rattle.fin_parse.specs.Fills.{is_declares, number_of, literal_of}
use Rattle.fin_parse.specs.Grammar.{phrase_of, row_of}
use Rattle.fin_parse.specs.Leaves.{Leaves, leaves_of, leaves_step}
use Rattle.fin_parse.specs.Roles.{counting_of}
use Rattle.fin_parse.specs.declared.roles.Counting.TheVariants as counting
use Rattle.fin_parse.specs.Syntax.{Sign, IsGroup, signs}
use Rattle.fin_parse.specs.Terms.{op_of}
use Rattle.fin_parse.proofs.Induction.{Each, Kept, Parts, at1, at2, at3, at4, at5, each, AreReal, tokens_real}
use Rattle.fin_parse.proofs.Keeping.{Context, Agrees, Valued, Follows, Joins, AreIndices, IsIndex, IsBehind, Stated, Changes, IsLiteral, IsMagnitude, Keeps, literal_word}
use Rattle.fin_parse.proofs.NamedTerms.{headed, lifted, a_number, negated, called, paired, after, many_follow, maybe_follows}
use Rattle.fin_parse.proofs.NamedIndices.{leaf_indices, summed, many_indices, maybe_indices, single, lifted_index, constant_index, shifted, behind_nothing, plus_rest, added_name, loose_named, operand}
use Rattle.fin_parse.proofs.NamedStatements.{many_stated, lifted_stmts, blocked, tested, looped, bound, turning, changing, declaring, updating}
use Rattle.fin_parse.proofs.Nodes.{of_leaf, of_node}

-- ---- the sign of a declaration

abbrev no_sign : List Class → Bool
no_sign [] = true
no_sign (c ∷ cs) = not (same_class c class.Declares) && no_sign cs

abbrev only_sign : ℕ → List Class → Bool
only_sign n [] = true
only_sign zero (c ∷ cs) = no_sign cs
only_sign (suc n) (c ∷ cs) = not (same_class c class.Declares) && only_sign n cs

both : (a b : Bool) → a && b ≡ true → (a ≡ true) × (b ≡ true)
both true b h = (refl, h)
both false b h = cc

is_no_sign : (c : Class) → not (same_class c class.Declares) ≡ true → c ≡ class.Declares → ⊥
is_no_sign c h is = cc (ap (λ d. not (same_class d class.Declares)) is, h)

no_place : (cs : List Class) (k : ℕ) → no_sign cs ≡ true → slice_index_or cs k class.Unknown ≡ class.Declares → ⊥
no_place [] k h is = cc
no_place (c ∷ cs) zero h is = is_no_sign c (both (not (same_class c class.Declares)) (no_sign cs) h).0 is
no_place (c ∷ cs) (suc k) h is = no_place cs k (both (not (same_class c class.Declares)) (no_sign cs) h).1 is

one_place : (n : ℕ) (cs : List Class) (k : ℕ) → only_sign n cs ≡ true → slice_index_or cs k class.Unknown ≡ class.Declares → k ≡ n
one_place n [] k h is = cc
one_place zero (c ∷ cs) zero h is = refl
one_place zero (c ∷ cs) (suc k) h is = absurd (no_place cs k h is)
one_place (suc n) (c ∷ cs) zero h is = absurd (is_no_sign c (both (not (same_class c class.Declares)) (only_sign n cs) h).0 is)
one_place (suc n) (c ∷ cs) (suc k) h is = ap suc (one_place n cs k (both (not (same_class c class.Declares)) (only_sign n cs) h).1 is)

number_no_sign : (b c : Bool) → cond b class.Number (cond c class.Widest class.Unknown) ≡ class.Declares → ⊥
number_no_sign true c h = cc
number_no_sign false true h = cc
number_no_sign false false h = cc

declares_sign : (k : TokenKind) → class_of k ≡ class.Declares → is_declares k ≡ true
declares_sign kind.Name h = cc
declares_sign (kind.Number n) h = absurd (number_no_sign (nat_lt n (2 ^ 63)) (n == 2 ^ 63) h)
declares_sign (kind.Reserved k) h = absurd (no_place RESERVED_CLASSES k refl h)
declares_sign (kind.Symbol k) h = ap (λ (n : ℕ). n == 20) (one_place 20 SYMBOL_CLASSES k refl h)

module _ (text : List ℕ) (fills : List Fill) where
  abbrev Holds : Room → Phrase → List Sign → Tree → Type 0
  Holds k n x t = Keeps text fills n t

  abbrev Single : Tree → Type 0
  Single t = IsIndex text fills t × AreIndices text fills t

  abbrev Plainly : Tree → Type 0
  Plainly t = AreIndices text fills t × ((elaboration_of text t).indexed ≡ true)

  both_ways : (f : Form) (us : List Tree) → counting_of f ≡ counting.Single → IsIndex text fills (Node f us) → Single (Node f us)
  both_ways f us is h = (h, single text fills f us is h)

  -- ---- numbers

  abbrev leaf_all : (t : Token) → (leaves_of (Leaf t)).all ≡ t ∷ []
  leaf_all t = ap (λ (l : Leaves). l.all) (of_leaf Leaves leaves_step t)

  abbrev leaf_size : (t : Token) → (elaboration_of text (Leaf t)).size ≡ number_of t.kind
  leaf_size t = ap (λ (e : Elaboration). e.size) (of_leaf Elaboration (elaboration_step text) t)

  one_all : (f : Form) (t : Token) → (leaves_of (Node f (Leaf t ∷ []))).all ≡ t ∷ []
  one_all f t = ap (λ (l : Leaves). l.all) (of_node Leaves leaves_step f (Leaf t ∷ [])) ∙ ap (λ ts. ts ++ []) (leaf_all t)

  magnitude : (f : Form) (t : Token) → IsMagnitude text fills (Node f (Leaf t ∷ []))
  magnitude f t = (t, one_all f t, ap (λ (e : Elaboration). e.size) (of_node Elaboration (elaboration_step text) f (Leaf t ∷ [])) ∙ leaf_size t)

  plus_int : (t : Token) → IsLiteral text fills (Node form.PlusInt (Leaf t ∷ []))
  plus_int t = ap (λ ts. literal_word (literal_of ts)) (one_all form.PlusInt t) ∙ ap plus_word (sym (leaf_size t)) ∙ sym (ap (λ (e : Elaboration). e.number) (of_node Elaboration (elaboration_step text) form.PlusInt (Leaf t ∷ [])))

  minus_zero : (n : ℕ) → (if not (n == 0) then minus_word n else plus_word n) ≡ minus_word n
  minus_zero n = by (n == 0) (λ h. eqb-true n 0 h) where
    by : (b : Bool) → (b ≡ true → n ≡ 0) → (if not b then minus_word n else plus_word n) ≡ minus_word n
    by true f = ap plus_word (f refl) ∙ sym (ap minus_word (f refl))
    by false f = refl

  minus_int : (t : Token) (v : Tree) → IsMagnitude text fills v → IsLiteral text fills (Node form.MinusInt (Leaf t ∷ v ∷ []))
  minus_int t v (n, all, size) =
      ap (λ (l : Leaves). literal_word (literal_of l.all)) (of_node Leaves leaves_step form.MinusInt (Leaf t ∷ v ∷ []))
      ∙ ap (λ ts. literal_word (literal_of (ts ++ ((leaves_of v).all ++ [])))) (leaf_all t)
      ∙ ap (λ ts. literal_word (literal_of (t ∷ (ts ++ [])))) all
      ∙ minus_zero (number_of n.kind) ∙ ap minus_word (sym size)
      ∙ sym (ap (λ (e : Elaboration). e.number) (of_node Elaboration (elaboration_step text) form.MinusInt (Leaf t ∷ v ∷ [])))

  -- ---- every form

  step : (k : Room) (f : Form) (x : List Sign) (us : List Tree) → Parts Holds k (row_of f) x us → Keeps text fills (phrase_of f) (Node f us)
  unfolding plain loose with_protocol
  step k form.PlusInt x us h = at1 Holds k x us (λ (ts : List Tree). IsLiteral text fills (Node form.PlusInt ts)) (Word class.Number) h (λ p u e a. subst (λ (w : Tree). IsLiteral text fills (Node form.PlusInt (w ∷ []))) (sym a.2) (plus_int a.0))
  step k form.MinusInt x us h = at2 Holds k x us (λ (ts : List Tree). IsLiteral text fills (Node form.MinusInt ts)) (Word class.Minus) (One phrase.Magnitude) h (λ p q u v e a b. subst (λ (w : Tree). IsLiteral text fills (Node form.MinusInt (w ∷ v ∷ []))) (sym a.2) (minus_int a.0 v b))
  step k form.Magnitude x us h = at1 Holds k x us (λ (ts : List Tree). IsMagnitude text fills (Node form.Magnitude ts)) (Word class.Number) h (λ p u e a. subst (λ (w : Tree). IsMagnitude text fills (Node form.Magnitude (w ∷ []))) (sym a.2) (magnitude form.Magnitude a.0))
  step k form.WidestMagnitude x us h = at1 Holds k x us (λ (ts : List Tree). IsMagnitude text fills (Node form.WidestMagnitude ts)) (Word class.Widest) h (λ p u e a. subst (λ (w : Tree). IsMagnitude text fills (Node form.WidestMagnitude (w ∷ []))) (sym a.2) (magnitude form.WidestMagnitude a.0))
  step k form.Loop x us h = at2 Holds k x us (λ (ts : List Tree). Stated text fills (Node form.Loop ts)) (Word class.Loop) (InLoop phrase.Turns) h (λ p q u v e a b. lifted_stmts text fills form.Loop (u ∷ v ∷ []) 1 (elaboration_of text u).first (λ lead s n. refl) refl (λ c g quiet right. b.1 c g quiet right (elaboration_of text u).first))
  step k form.If x us h = at3 Holds k x us (λ (ts : List Tree). Stated text fills (Node form.If ts)) (Word class.If) (One phrase.Expr) (One phrase.Body) h (λ p q r u v w e a b d. tested text fills u v w b d)
  step k form.Let x us h = at5 Holds k x us (λ (ts : List Tree). Stated text fills (Node form.Let ts)) (Word class.Let) (Word class.Name) (Word class.Equals) (One phrase.Expr) (One phrase.Body) h (λ n o p q r s t u v w e a b d f g. subst (λ (y : Tree). Stated text fills (Node form.Let (s ∷ y ∷ u ∷ v ∷ w ∷ []))) (sym b.2) (bound text fills s b.0 u v w f g))
  step k form.Block x us h = at1 Holds k x us (λ (ts : List Tree). Stated text fills (Node form.Block ts)) (One phrase.Body) h (λ p u e a. blocked text fills u a)
  step k form.Turn x us h = at2 Holds k x us (λ (ts : List Tree). Stated text fills (Node form.Turn ts)) (Word class.Turn) (Word class.Name) h (λ p q u v e a b. subst (λ (w : Tree). Stated text fills (Node form.Turn (u ∷ w ∷ []))) (sym b.2) (turning text fills u b.0))
  step k form.Named x us h = at2 Holds k x us (λ (ts : List Tree). Stated text fills (Node form.Named ts)) (Word class.Name) (One phrase.Change) h (λ p q u v e a b. subst (λ (w : Tree). Stated text fills (Node form.Named (w ∷ v ∷ []))) (sym a.2) (changing text fills a.0 v b))
  step k form.Turns x us h = at3 Holds k x us (λ (ts : List Tree). Stated text fills (Node form.Turns ts)) (Word class.Name) (Maybe phrase.Range) (One phrase.Body) h (λ p q r u v w e a b d. subst (λ (y : Tree). Stated text fills (Node form.Turns (y ∷ v ∷ w ∷ []))) (sym a.2) (looped text fills a.0 v w d))
  step k form.Body x us h = at3 Holds k x us (λ (ts : List Tree). Stated text fills (Node form.Body ts)) (Word class.OpenBrace) (Deeper phrase.Stmts) (Word class.CloseBrace) h (λ p q r u v w e a b d. lifted_stmts text fills form.Body (u ∷ v ∷ w ∷ []) 1 None (λ lead s n. refl) refl (λ c g quiet right. b.1 c g quiet right None))
  step k form.Stmts x us h = at1 Holds k x us (λ (ts : List Tree). Stated text fills (Node form.Stmts ts)) (Many phrase.Stmt) h (λ p u e a. lifted_stmts text fills form.Stmts (u ∷ []) 0 None (λ lead s n. refl) refl (λ c g quiet right. many_stated text fills k p u a c g quiet right None))
  step k form.Declaration x us h = at2 Holds k x us (λ (ts : List Tree). Changes text fills (Node form.Declaration ts)) (Word class.Declares) (One phrase.Int) h (λ p q u v e a b. subst (λ (w : Tree). Changes text fills (Node form.Declaration (w ∷ v ∷ []))) (sym a.2) (declaring text fills a.0 v (declares_sign a.0.kind a.3) b))
  step k form.Update x us h = at5 Holds k x us (λ (ts : List Tree). Changes text fills (Node form.Update ts)) (Word class.OpenBracket) (Deeper phrase.Plains) (Word class.CloseBracket) (One phrase.Assigning) (One phrase.Expr) h (λ n o p q r s t u v w e a b d f g. updating text fills s t u v w b.1.0 b.1.1 g)
  step k form.Plains x us h = at1 Holds k x us (λ (ts : List Tree). Plainly (Node form.Plains ts)) (Maybe phrase.PlainList) h (λ p u e a. (summed text fills form.Plains (u ∷ []) refl refl (maybe_indices text fills phrase.PlainList (λ t h. h) k p u a, tt), ap (λ (e : Elaboration). e.indexed) (of_node Elaboration (elaboration_step text) form.Plains (u ∷ []))))
  step k form.PlainList x us h = at2 Holds k x us (λ (ts : List Tree). AreIndices text fills (Node form.PlainList ts)) (One phrase.Plain) (Many phrase.NextPlain) h (λ p q u v e a b. summed text fills form.PlainList (u ∷ v ∷ []) refl refl (a.1, (many_indices text fills phrase.NextPlain (λ t h. h) k q v b, tt)))
  step k form.NextPlain x us h = at2 Holds k x us (λ (ts : List Tree). AreIndices text fills (Node form.NextPlain ts)) (Word class.Comma) (One phrase.Plain) h (λ p q u v e a b. summed text fills form.NextPlain (u ∷ v ∷ []) refl refl (subst (AreIndices text fills) (sym a.2) (leaf_indices text fills a.0), (b.1, tt)))
  step k form.Constant x us h = at1 Holds k x us (λ (ts : List Tree). Single (Node form.Constant ts)) (Word class.Number) h (λ p u e a. both_ways form.Constant (u ∷ []) refl (constant_index text fills form.Constant (u ∷ []) (λ c. refl)))
  step k form.Shifted x us h = at2 Holds k x us (λ (ts : List Tree). Single (Node form.Shifted ts)) (Word class.Name) (Maybe phrase.Offset) h (λ p q u v e a b. both_ways form.Shifted (u ∷ v ∷ []) refl (subst (λ (w : Tree). IsIndex text fills (Node form.Shifted (w ∷ v ∷ []))) (sym a.2) (shifted text fills a.0 v)))
  step k form.Access x us h = at3 Holds k x us (λ (ts : List Tree). AreIndices text fills (Node form.Access ts)) (Word class.OpenBracket) (Deeper phrase.Indices) (Word class.CloseBracket) h (λ p q r u v w e a b d. summed text fills form.Access (u ∷ v ∷ w ∷ []) refl refl (subst (AreIndices text fills) (sym a.2) (leaf_indices text fills a.0), (b.1, (subst (AreIndices text fills) (sym d.2) (leaf_indices text fills d.0), tt))))
  step k form.Indices x us h = at1 Holds k x us (λ (ts : List Tree). AreIndices text fills (Node form.Indices ts)) (Maybe phrase.IndexList) h (λ p u e a. summed text fills form.Indices (u ∷ []) refl refl (maybe_indices text fills phrase.IndexList (λ t h. h) k p u a, tt))
  step k form.IndexList x us h = at2 Holds k x us (λ (ts : List Tree). AreIndices text fills (Node form.IndexList ts)) (One phrase.Index) (Many phrase.NextIndex) h (λ p q u v e a b. summed text fills form.IndexList (u ∷ v ∷ []) refl refl (a, (many_indices text fills phrase.NextIndex (λ t h. h) k q v b, tt)))
  step k form.NextIndex x us h = at2 Holds k x us (λ (ts : List Tree). AreIndices text fills (Node form.NextIndex ts)) (Word class.Comma) (One phrase.Index) h (λ p q u v e a b. summed text fills form.NextIndex (u ∷ v ∷ []) refl refl (subst (AreIndices text fills) (sym a.2) (leaf_indices text fills a.0), (b, tt)))
  step k form.BareIndex x us h = at1 Holds k x us (λ (ts : List Tree). AreIndices text fills (Node form.BareIndex ts)) (One phrase.Core) h (λ p u e a. single text fills form.BareIndex (u ∷ []) refl (lifted_index text fills form.BareIndex (u ∷ []) 0 (λ c. refl) refl (λ c g quiet. a c g quiet)))
  step k form.ProtocolIndex x us h = at4 Holds k x us (λ (ts : List Tree). AreIndices text fills (Node form.ProtocolIndex ts)) (Word class.Protocol) (Word class.OpenParenthesis) (Deeper phrase.Core) (Word class.CloseParenthesis) h (λ o p q r t u v w e a b d f. single text fills form.ProtocolIndex (t ∷ u ∷ v ∷ w ∷ []) refl (lifted_index text fills form.ProtocolIndex (t ∷ u ∷ v ∷ w ∷ []) 2 (λ c. refl) refl (λ c g quiet. d.1 c g quiet)))
  step k form.PlainCore x us h = at1 Holds k x us (λ (ts : List Tree). IsIndex text fills (Node form.PlainCore ts)) (One phrase.Plain) h (λ p u e a. lifted_index text fills form.PlainCore (u ∷ []) 0 (λ c. refl) refl (λ c g quiet. a.0 c g quiet))
  step k form.LooseCore x us h = at4 Holds k x us (λ (ts : List Tree). IsIndex text fills (Node form.LooseCore ts)) (Word class.Tilde) (Word class.OpenParenthesis) (Deeper phrase.Loose) (Word class.CloseParenthesis) h (λ o p q r t u v w e a b d f. lifted_index text fills form.LooseCore (t ∷ u ∷ v ∷ w ∷ []) 2 (λ c. refl) refl (λ c g quiet. d.1 c g quiet))
  step k form.LooseConstant x us h = at1 Holds k x us (λ (ts : List Tree). IsIndex text fills (Node form.LooseConstant ts)) (Word class.Number) h (λ p u e a. constant_index text fills form.LooseConstant (u ∷ []) (λ c. refl))
  step k form.LooseNamed x us h = at2 Holds k x us (λ (ts : List Tree). IsIndex text fills (Node form.LooseNamed ts)) (Word class.Name) (Maybe phrase.LooseRest) h (λ p q u v e a b. subst (λ (w : Tree). IsIndex text fills (Node form.LooseNamed (w ∷ v ∷ []))) (sym a.2) (loose_named text fills a.0 v k q b))
  step k form.PlusRest x us h = at2 Holds k x us (λ (ts : List Tree). IsBehind text fills (Node form.PlusRest ts)) (Word class.Plus) (One phrase.Added) h (λ p q u v e a b. plus_rest text fills u v b)
  step k form.MinusRest x us h = at2 Holds k x us (λ (ts : List Tree). IsBehind text fills (Node form.MinusRest ts)) (Word class.Minus) (Word class.Number) h (λ p q u v e a b. behind_nothing text fills form.MinusRest (u ∷ v ∷ []) (λ s o. (_, refl)))
  step k form.AddedNumber x us h = at1 Holds k x us (λ (ts : List Tree). IsBehind text fills (Node form.AddedNumber ts)) (Word class.Number) h (λ p u e a. behind_nothing text fills form.AddedNumber (u ∷ []) (λ s o. (_, refl)))
  step k form.AddedName x us h = at2 Holds k x us (λ (ts : List Tree). IsBehind text fills (Node form.AddedName ts)) (Word class.Name) (Maybe phrase.Offset) h (λ p q u v e a b. subst (λ (w : Tree). IsBehind text fills (Node form.AddedName (w ∷ v ∷ []))) (sym a.2) (added_name text fills a.0 v))
  step k form.Expr x us h = at2 Holds k x us (λ (ts : List Tree). Valued text fills (Node form.Expr ts)) (One phrase.Sum) (Maybe phrase.Compared) h (λ p q u v e a b. headed text fills form.Expr u v (λ s. refl) refl a (maybe_follows text fills phrase.Compared (λ t h. h) k q v b))
  step k form.Compared x us h = at2 Holds k x us (λ (ts : List Tree). Follows text fills (Node form.Compared ts)) (Word class.Comparison) (One phrase.Sum) h (λ p q u v e a b. after text fills form.Compared u v (op_of (elaboration_of text u).first) (λ s x. refl) refl b)
  step k form.Sum x us h = at2 Holds k x us (λ (ts : List Tree). Valued text fills (Node form.Sum ts)) (One phrase.Term) (Many phrase.NextTerm) h (λ p q u v e a b. headed text fills form.Sum u v (λ s. refl) refl a (many_follow text fills phrase.NextTerm (λ t h. h) k q v b))
  step k form.PlusTerm x us h = at2 Holds k x us (λ (ts : List Tree). Follows text fills (Node form.PlusTerm ts)) (Word class.Plus) (One phrase.Term) h (λ p q u v e a b. after text fills form.PlusTerm u v Add (λ s x. refl) refl b)
  step k form.MinusTerm x us h = at2 Holds k x us (λ (ts : List Tree). Follows text fills (Node form.MinusTerm ts)) (Word class.Minus) (One phrase.Term) h (λ p q u v e a b. after text fills form.MinusTerm u v Sub (λ s x. refl) refl b)
  step k form.Term x us h = at2 Holds k x us (λ (ts : List Tree). Valued text fills (Node form.Term ts)) (One phrase.Unary) (Many phrase.NextUnary) h (λ p q u v e a b. headed text fills form.Term u v (λ s. refl) refl a (many_follow text fills phrase.NextUnary (λ t h. h) k q v b))
  step k form.NextUnary x us h = at2 Holds k x us (λ (ts : List Tree). Follows text fills (Node form.NextUnary ts)) (Word class.Star) (One phrase.Unary) h (λ p q u v e a b. after text fills form.NextUnary u v Mul (λ s x. refl) refl b)
  step k form.NumberUnary x us h = at1 Holds k x us (λ (ts : List Tree). Valued text fills (Node form.NumberUnary ts)) (Word class.Number) h (λ p u e a. a_number text fills form.NumberUnary (u ∷ []) (plus_word (elaboration_of text u).size) (λ s. refl))
  step k form.OtherUnary x us h = at1 Holds k x us (λ (ts : List Tree). Valued text fills (Node form.OtherUnary ts)) (One phrase.Operand) h (λ p u e a. lifted text fills form.OtherUnary (u ∷ []) 0 (λ s. refl) refl (λ c g quiet. a c g quiet))
  step k form.Negation x us h = at2 Holds k x us (λ (ts : List Tree). Valued text fills (Node form.Negation ts)) (Word class.Minus) (One phrase.Negated) h (λ p q u v e a b. lifted text fills form.Negation (u ∷ v ∷ []) 1 (λ s. refl) refl (λ c g quiet. b c g quiet))
  step k form.NamedOperand x us h = at2 Holds k x us (λ (ts : List Tree). Valued text fills (Node form.NamedOperand ts)) (Word class.Name) (Maybe phrase.Access) h (λ p q u v e a b. subst (λ (w : Tree). Valued text fills (Node form.NamedOperand (w ∷ v ∷ []))) (sym a.2) (operand text fills a.0 v (maybe_indices text fills phrase.Access (λ t h. h) k q v b)))
  step k form.Parentheses x us h = at3 Holds k x us (λ (ts : List Tree). Valued text fills (Node form.Parentheses ts)) (Word class.OpenParenthesis) (Deeper phrase.Expr) (Word class.CloseParenthesis) h (λ p q r u v w e a b d. lifted text fills form.Parentheses (u ∷ v ∷ w ∷ []) 1 (λ s. refl) refl (λ c g quiet. b.1 c g quiet))
  step k form.Call x us h = at4 Holds k x us (λ (ts : List Tree). Valued text fills (Node form.Call ts)) (Word class.Call) (Word class.OpenParenthesis) (Deeper phrase.Pair) (Word class.CloseParenthesis) h (λ o p q r t u v w e a b d f. called text fills t u v w d.1)
  step k form.NegatedNumber x us h = at1 Holds k x us (λ (ts : List Tree). Valued text fills (Node form.NegatedNumber ts)) (Word class.Number) h (λ p u e a. a_number text fills form.NegatedNumber (u ∷ []) (minus_word (elaboration_of text u).size) (λ s. refl))
  step k form.NegatedWidest x us h = at1 Holds k x us (λ (ts : List Tree). Valued text fills (Node form.NegatedWidest ts)) (Word class.Widest) h (λ p u e a. a_number text fills form.NegatedWidest (u ∷ []) (minus_word (elaboration_of text u).size) (λ s. refl))
  step k form.NegatedOperand x us h = at1 Holds k x us (λ (ts : List Tree). Valued text fills (Node form.NegatedOperand ts)) (Deeper phrase.Operand) h (λ p u e a. negated text fills u a.1)
  step k form.Pair x us h = at3 Holds k x us (λ (ts : List Tree). Joins text fills (Node form.Pair ts)) (One phrase.Expr) (Word class.Comma) (One phrase.Expr) h (λ p q r u v w e a b d. paired text fills u v w a d)
  step k form.InputHeader x us h = tt
  step k form.OtherHeader x us h = tt
  step k form.Format x us h = tt
  step k form.StoreWord x us h = tt
  step k form.Fill x us h = tt
  step k form.Shape x us h = tt
  step k form.Extent x us h = tt
  step k form.Range x us h = tt
  step k form.Reducing x us h = tt
  step k form.Putting x us h = tt
  step k form.PlusOffset x us h = tt
  step k form.MinusOffset x us h = tt

  -- the statements of a text
  pub body_keeps : (k : Room) (ts : List Token) (us : List Tree) → IsGroup k phrase.Stmt (signs ts) us → Each Holds k phrase.Stmt (signs ts) us
  body_keeps k ts us h = each Holds step h (tokens_real ts)
