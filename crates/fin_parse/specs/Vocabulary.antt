-- What the words of the language stand for, word by word.
use Rattle.std.specs.Prelude.{◌≡◌, ℕ, Bool, true, false, List, [], ◌∷◌, map, codes, Option, Some, None, slice_get}
use Rattle.fin_base.specs.declared.reduce.Reduce.{Reduce}
use Rattle.fin_base.specs.declared.reduce.Reduce.TheVariants as reduce
use Rattle.fin_base.specs.declared.terms.Op.{Op}
use Rattle.fin_base.specs.declared.terms.Op.TheVariants as op
use Rattle.fin_base.specs.declared.terms.Proto.{Proto}
use Rattle.fin_base.specs.declared.terms.Proto.TheVariants.{Walk, Gallop, Follow}
use Rattle.fin_tensor.specs.declared.format.Level.{Level}
use Rattle.fin_tensor.specs.declared.format.Level.TheVariants as level
use Rattle.fin_tensor.specs.declared.format.Wrap.{Wrap}
use Rattle.fin_tensor.specs.declared.format.Wrap.TheVariants as wrap
use Rattle.fin_ast.specs.declared.header.Kind.{Kind}
use Rattle.fin_ast.specs.declared.header.Kind.TheVariants as header
use Rattle.fin_lex.specs.declared.token.Token.{Token}
use Rattle.fin_lex.specs.declared.token.TokenKind.{TokenKind}
use Rattle.fin_lex.specs.declared.token.TokenKind.TheVariants.{Reserved, Symbol}
use Rattle.fin_lex.specs.Vocabulary.{reserved_words, symbols}
use Rattle.fin_parse.specs.declared.class.Class.{Class}
use Rattle.fin_parse.specs.declared.class.Class.TheVariants as class
use Rattle.fin_parse.specs.Classes.{class_of}
use Rattle.fin_parse.specs.Terms.{op_of, proto_of, reduce_of, is_par, is_freeze}
use Rattle.fin_parse.specs.HeaderTrees.{kind_of, level_of, wrap_of}

-- a word, its number among the words of its sort, and what it stands for
pub record Entry (A : Type 0) : Type 0 where
  pub word : List ℕ
  pub number : ℕ
  pub meaning : A

abbrev pub entry : {A : Type 0} → List ℕ → ℕ → A → Entry A
entry word number meaning = record { word = word; number = number; meaning = meaning }

-- each word has its number among these, and the token of that number is read as what the word stands for
pub record StandFor {A : Type 0} (words : List (List ℕ)) (token : ℕ → TokenKind) (read : TokenKind → A) (table : List (Entry A)) : Type 0 where
  pub numbers : map (λ (e : Entry A). slice_get words e.number) table ≡ map (λ (e : Entry A). Some e.word) table
  pub meanings : map (λ (e : Entry A). read (token e.number)) table ≡ map (λ (e : Entry A). e.meaning) table

-- a token of the kind
abbrev pub of_kind : TokenKind → Token
of_kind kind = record { kind = kind; from = 0; to = 0; line = 0 }

-- ---- the tables

abbrev pub calls : List (Entry Op)
calls = entry (codes "min") 14 op.Min ∷ entry (codes "max") 15 op.Max ∷ entry (codes "and") 16 op.And ∷ entry (codes "or") 17 op.Or ∷ entry (codes "xor") 18 op.Xor ∷ []

abbrev pub comparisons : List (Entry Op)
comparisons =
    entry (codes "<") 11 op.Lt ∷ entry (codes "<=") 12 op.Le ∷ entry (codes ">") 13 op.Gt ∷ entry (codes ">=") 14 op.Ge
    ∷ entry (codes "==") 15 op.Eq ∷ entry (codes "!=") 16 op.Ne ∷ []

abbrev pub reductions : List (Entry Reduce)
reductions =
    entry (codes "=") 17 reduce.Put ∷ entry (codes "+=") 18 reduce.Add ∷ entry (codes "*=") 19 reduce.Mul
    ∷ entry (codes "min=") 22 reduce.Min ∷ entry (codes "max=") 23 reduce.Max
    ∷ entry (codes "and=") 24 reduce.And ∷ entry (codes "or=") 25 reduce.Or ∷ entry (codes "xor=") 26 reduce.Xor ∷ []

abbrev pub protocols : List (Entry Proto)
protocols = entry (codes "walk") 11 Walk ∷ entry (codes "gallop") 12 Gallop ∷ entry (codes "follow") 13 Follow ∷ []

abbrev pub levels : List (Entry (Option Level))
levels =
    entry (codes "dense") 19 (Some level.Dense) ∷ entry (codes "list") 20 (Some level.List) ∷ entry (codes "runs") 21 (Some level.Runs)
    ∷ entry (codes "band") 22 (Some level.Band) ∷ entry (codes "dict") 23 (Some level.Dict)
    ∷ entry (codes "element") 24 None ∷ []

abbrev pub wraps : List (Entry Wrap)
wraps = entry (codes "atomic") 25 wrap.Atomic ∷ entry (codes "mutex") 26 (wrap.Mutex 0) ∷ entry (codes "shard") 27 wrap.Shard ∷ []

abbrev pub header_kinds : List (Entry Kind)
header_kinds = entry (codes "in") 0 header.Input ∷ entry (codes "out") 1 header.Output ∷ entry (codes "tmp") 2 header.Local ∷ []

-- whether a loop is parallel
abbrev pub loops : List (Entry Bool)
loops = entry (codes "for") 5 false ∷ entry (codes "par") 6 true ∷ []

-- whether a tensor is frozen, and not thawed
abbrev pub turns : List (Entry Bool)
turns = entry (codes "freeze") 9 true ∷ entry (codes "thaw") 10 false ∷ []

-- the part that a reserved word plays in the grammar
abbrev pub reserved_classes : List (Entry Class)
reserved_classes =
    entry (codes "in") 0 class.In ∷ entry (codes "out") 1 class.OutOrTmp ∷ entry (codes "tmp") 2 class.OutOrTmp
    ∷ entry (codes "fill") 3 class.Fill ∷ entry (codes "shape") 4 class.Shape
    ∷ entry (codes "for") 5 class.Loop ∷ entry (codes "par") 6 class.Loop ∷ entry (codes "if") 7 class.If ∷ entry (codes "let") 8 class.Let
    ∷ entry (codes "freeze") 9 class.Turn ∷ entry (codes "thaw") 10 class.Turn
    ∷ entry (codes "walk") 11 class.Protocol ∷ entry (codes "gallop") 12 class.Protocol ∷ entry (codes "follow") 13 class.Protocol
    ∷ entry (codes "min") 14 class.Call ∷ entry (codes "max") 15 class.Call ∷ entry (codes "and") 16 class.Call
    ∷ entry (codes "or") 17 class.Call ∷ entry (codes "xor") 18 class.Call
    ∷ entry (codes "dense") 19 class.Store ∷ entry (codes "list") 20 class.Store ∷ entry (codes "runs") 21 class.Store
    ∷ entry (codes "band") 22 class.Store ∷ entry (codes "dict") 23 class.Store ∷ entry (codes "element") 24 class.Element
    ∷ entry (codes "atomic") 25 class.Store ∷ entry (codes "mutex") 26 class.Store ∷ entry (codes "shard") 27 class.Store ∷ []

abbrev pub symbol_classes : List (Entry Class)
symbol_classes =
    entry (codes "[") 0 class.OpenBracket ∷ entry (codes "]") 1 class.CloseBracket
    ∷ entry (codes "(") 2 class.OpenParenthesis ∷ entry (codes ")") 3 class.CloseParenthesis
    ∷ entry (codes "{") 4 class.OpenBrace ∷ entry (codes "}") 5 class.CloseBrace
    ∷ entry (codes ",") 6 class.Comma ∷ entry (codes "~") 7 class.Tilde
    ∷ entry (codes "+") 8 class.Plus ∷ entry (codes "-") 9 class.Minus ∷ entry (codes "*") 10 class.Star
    ∷ entry (codes "<") 11 class.Comparison ∷ entry (codes "<=") 12 class.Comparison ∷ entry (codes ">") 13 class.Comparison
    ∷ entry (codes ">=") 14 class.Comparison ∷ entry (codes "==") 15 class.Comparison ∷ entry (codes "!=") 16 class.Comparison
    ∷ entry (codes "=") 17 class.Equals ∷ entry (codes "+=") 18 class.Reducing ∷ entry (codes "*=") 19 class.Reducing
    ∷ entry (codes ".=") 20 class.Declares ∷ entry (codes "..") 21 class.Dots
    ∷ entry (codes "min=") 22 class.Reducing ∷ entry (codes "max=") 23 class.Reducing ∷ entry (codes "and=") 24 class.Reducing
    ∷ entry (codes "or=") 25 class.Reducing ∷ entry (codes "xor=") 26 class.Reducing ∷ []

-- every word is read as what it stands for
pub record WordsStandFor : Type 0 where
  pub calls : StandFor reserved_words Reserved (λ k. op_of (Some (of_kind k))) calls
  pub comparisons : StandFor symbols Symbol (λ k. op_of (Some (of_kind k))) comparisons
  pub reductions : StandFor symbols Symbol (λ k. reduce_of (Some (of_kind k))) reductions
  pub protocols : StandFor reserved_words Reserved (λ k. proto_of (Some (of_kind k))) protocols
  pub levels : StandFor reserved_words Reserved level_of levels
  pub wraps : StandFor reserved_words Reserved (λ k. wrap_of (of_kind k ∷ [])) wraps
  pub header_kinds : StandFor reserved_words Reserved (λ k. kind_of (of_kind k ∷ [])) header_kinds
  pub loops : StandFor reserved_words Reserved (λ k. is_par (Some (of_kind k))) loops
  pub turns : StandFor reserved_words Reserved (λ k. is_freeze (Some (of_kind k))) turns
  pub reserved_classes : StandFor reserved_words Reserved class_of reserved_classes
  pub symbol_classes : StandFor symbols Symbol class_of symbol_classes
