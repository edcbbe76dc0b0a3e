-- A phrase of each kind, with any room.
use Rattle.std.proofs.Common.{◌≡◌, ℕ, zero, suc, ◌<◌, true, not, List, [], ◌∷◌, ◌++◌, None, refl, ◌⊎◌, inl, inr, arith}
use Rattle.fin_lex.specs.declared.token.Token.{Token}
use Rattle.fin_parse.specs.declared.class.Class.{Class}
use Rattle.fin_parse.specs.declared.class.Class.TheVariants as class
use Rattle.fin_parse.specs.declared.grammar.Phrase.{Phrase}
use Rattle.fin_parse.specs.declared.grammar.Phrase.TheVariants as phrase
use Rattle.fin_parse.specs.declared.grammar.Form.TheVariants as form
use Rattle.fin_parse.specs.declared.grammar.Symbol.{Symbol}
use Rattle.fin_parse.specs.declared.grammar.Symbol.TheVariants.{Word, One, Many, Maybe, Deeper, InLoop}
use Rattle.fin_parse.specs.declared.tree.Tree.{Tree}
use Rattle.fin_parse.specs.declared.tree.Tree.TheVariants.{Leaf, Node, Group}
use Rattle.fin_parse.specs.declared.tree.Room.{Room}
use Rattle.fin_parse.specs.Choices.{same_class, may_open, is_sound, are_sound}
use Rattle.fin_parse.specs.Syntax.{Sign, real, beyond, lower, entered, IsTree, word, one, many, absent, deeper, too_deep, in_loop, too_many_loops, IsRow, done, part, none}
use Rattle.fin_parse.proofs.Table.{kind_of, kind_there, both}

abbrev pub Example : Room → Symbol → Type 0
Example k s = (x : List Sign) × (u : Tree) × IsTree k s x u

abbrev pub RowExample : Room → List Symbol → Type 0
RowExample k row = (x : List Sign) × (us : List Tree) × IsRow k row x us

pub zero_or_more : (n : ℕ) → (n ≡ 0) ⊎ (0 < n)
zero_or_more zero = inl refl
zero_or_more (suc n) = inr (omega arith)

abbrev a_token : Class → Token
a_token c = record { kind = kind_of c; from = 0; to = 0; line = 0 }

ex_word : (k : Room) (c : Class) → not (same_class c class.End) ≡ true → Example k (Word c)
ex_word k c h = (real (a_token c) ∷ [], Leaf (a_token c), word (kind_there c h))

ex_many : (k : Room) (n : Phrase) → Example k (Many n)
ex_many k n = ([], Group [], many none)

ex_maybe : (k : Room) (n : Phrase) → Example k (Maybe n)
ex_maybe k n = ([], Group [], absent)

opens_at_end : (n : Phrase) → may_open n class.End ≡ true
opens_at_end phrase.Operand = refl
opens_at_end _ = refl

ex_deeper : (k : Room) (n : Phrase) → Example (lower k) (One n) → Example k (Deeper n)
ex_deeper k n e = elim (zero_or_more k.levels) [
  | inl h ↦ (beyond None ∷ [], Group [], too_deep h (opens_at_end n))
  | inr h ↦ (e.0, e.1, deeper h e.2)
]

ex_in_loop : (k : Room) (n : Phrase) → Example (entered k) (One n) → Example k (InLoop n)
ex_in_loop k n e = elim (zero_or_more k.loops) [
  | inl h ↦ (beyond None ∷ [], Group [], too_many_loops h (opens_at_end n))
  | inr h ↦ (e.0, e.1, in_loop h e.2)
]

nothing : (k : Room) → RowExample k []
nothing k = ([], [], done)

next : {k : Room} {s : Symbol} {row : List Symbol} → Example k s → RowExample k row → RowExample k (s ∷ row)
next e r = (e.0 ++ r.0, e.1 ∷ r.1, part e.2 r.2)

ex_Format : (k : Room) → Example k (One phrase.Format)
ex_Format k = let e = next (ex_many k phrase.StoreWord) (next (ex_word k class.Element refl) (nothing k)) in (e.0, Node form.Format e.1, one form.Format refl e.2)

ex_Header : (k : Room) → Example k (One phrase.Header)
ex_Header k = let e = next (ex_word k class.In refl) (next (ex_word k class.Name refl) (next (ex_Format k) (next (ex_maybe k phrase.Fill) (nothing k)))) in (e.0, Node form.InputHeader e.1, one form.InputHeader refl e.2)

ex_StoreWord : (k : Room) → Example k (One phrase.StoreWord)
ex_StoreWord k = let e = next (ex_word k class.Store refl) (nothing k) in (e.0, Node form.StoreWord e.1, one form.StoreWord refl e.2)

ex_Int : (k : Room) → Example k (One phrase.Int)
ex_Int k = let e = next (ex_word k class.Number refl) (nothing k) in (e.0, Node form.PlusInt e.1, one form.PlusInt refl e.2)

ex_Fill : (k : Room) → Example k (One phrase.Fill)
ex_Fill k = let e = next (ex_word k class.Fill refl) (next (ex_Int k) (nothing k)) in (e.0, Node form.Fill e.1, one form.Fill refl e.2)

ex_Shape : (k : Room) → Example k (One phrase.Shape)
ex_Shape k = let e = next (ex_word k class.Shape refl) (next (ex_many k phrase.Extent) (nothing k)) in (e.0, Node form.Shape e.1, one form.Shape refl e.2)

ex_Extent : (k : Room) → Example k (One phrase.Extent)
ex_Extent k = let e = next (ex_word k class.Number refl) (nothing k) in (e.0, Node form.Extent e.1, one form.Extent refl e.2)

ex_Magnitude : (k : Room) → Example k (One phrase.Magnitude)
ex_Magnitude k = let e = next (ex_word k class.Number refl) (nothing k) in (e.0, Node form.Magnitude e.1, one form.Magnitude refl e.2)

ex_Stmt : (k : Room) → Example k (One phrase.Stmt)
ex_Stmt k = let e = next (ex_word k class.Turn refl) (next (ex_word k class.Name refl) (nothing k)) in (e.0, Node form.Turn e.1, one form.Turn refl e.2)

ex_Stmts : (k : Room) → Example k (One phrase.Stmts)
ex_Stmts k = let e = next (ex_many k phrase.Stmt) (nothing k) in (e.0, Node form.Stmts e.1, one form.Stmts refl e.2)

ex_Body : (k : Room) → Example k (One phrase.Body)
ex_Body k = let e = next (ex_word k class.OpenBrace refl) (next (ex_deeper k phrase.Stmts (ex_Stmts (lower k))) (next (ex_word k class.CloseBrace refl) (nothing k))) in (e.0, Node form.Body e.1, one form.Body refl e.2)

ex_Turns : (k : Room) → Example k (One phrase.Turns)
ex_Turns k = let e = next (ex_word k class.Name refl) (next (ex_maybe k phrase.Range) (next (ex_Body k) (nothing k))) in (e.0, Node form.Turns e.1, one form.Turns refl e.2)

ex_Range : (k : Room) → Example k (One phrase.Range)
ex_Range k = let e = next (ex_word k class.In refl) (next (ex_word k class.Number refl) (next (ex_word k class.Dots refl) (next (ex_word k class.Number refl) (nothing k)))) in (e.0, Node form.Range e.1, one form.Range refl e.2)

ex_Change : (k : Room) → Example k (One phrase.Change)
ex_Change k = let e = next (ex_word k class.Declares refl) (next (ex_Int k) (nothing k)) in (e.0, Node form.Declaration e.1, one form.Declaration refl e.2)

ex_Assigning : (k : Room) → Example k (One phrase.Assigning)
ex_Assigning k = let e = next (ex_word k class.Reducing refl) (nothing k) in (e.0, Node form.Reducing e.1, one form.Reducing refl e.2)

ex_Plains : (k : Room) → Example k (One phrase.Plains)
ex_Plains k = let e = next (ex_maybe k phrase.PlainList) (nothing k) in (e.0, Node form.Plains e.1, one form.Plains refl e.2)

ex_Plain : (k : Room) → Example k (One phrase.Plain)
ex_Plain k = let e = next (ex_word k class.Number refl) (nothing k) in (e.0, Node form.Constant e.1, one form.Constant refl e.2)

ex_PlainList : (k : Room) → Example k (One phrase.PlainList)
ex_PlainList k = let e = next (ex_Plain k) (next (ex_many k phrase.NextPlain) (nothing k)) in (e.0, Node form.PlainList e.1, one form.PlainList refl e.2)

ex_NextPlain : (k : Room) → Example k (One phrase.NextPlain)
ex_NextPlain k = let e = next (ex_word k class.Comma refl) (next (ex_Plain k) (nothing k)) in (e.0, Node form.NextPlain e.1, one form.NextPlain refl e.2)

ex_Offset : (k : Room) → Example k (One phrase.Offset)
ex_Offset k = let e = next (ex_word k class.Plus refl) (next (ex_word k class.Number refl) (nothing k)) in (e.0, Node form.PlusOffset e.1, one form.PlusOffset refl e.2)

ex_Unary : (k : Room) → Example k (One phrase.Unary)
ex_Unary k = let e = next (ex_word k class.Number refl) (nothing k) in (e.0, Node form.NumberUnary e.1, one form.NumberUnary refl e.2)

ex_Term : (k : Room) → Example k (One phrase.Term)
ex_Term k = let e = next (ex_Unary k) (next (ex_many k phrase.NextUnary) (nothing k)) in (e.0, Node form.Term e.1, one form.Term refl e.2)

ex_Sum : (k : Room) → Example k (One phrase.Sum)
ex_Sum k = let e = next (ex_Term k) (next (ex_many k phrase.NextTerm) (nothing k)) in (e.0, Node form.Sum e.1, one form.Sum refl e.2)

ex_Expr : (k : Room) → Example k (One phrase.Expr)
ex_Expr k = let e = next (ex_Sum k) (next (ex_maybe k phrase.Compared) (nothing k)) in (e.0, Node form.Expr e.1, one form.Expr refl e.2)

ex_Compared : (k : Room) → Example k (One phrase.Compared)
ex_Compared k = let e = next (ex_word k class.Comparison refl) (next (ex_Sum k) (nothing k)) in (e.0, Node form.Compared e.1, one form.Compared refl e.2)

ex_NextTerm : (k : Room) → Example k (One phrase.NextTerm)
ex_NextTerm k = let e = next (ex_word k class.Plus refl) (next (ex_Term k) (nothing k)) in (e.0, Node form.PlusTerm e.1, one form.PlusTerm refl e.2)

ex_NextUnary : (k : Room) → Example k (One phrase.NextUnary)
ex_NextUnary k = let e = next (ex_word k class.Star refl) (next (ex_Unary k) (nothing k)) in (e.0, Node form.NextUnary e.1, one form.NextUnary refl e.2)

ex_Operand : (k : Room) → Example k (One phrase.Operand)
ex_Operand k = let e = next (ex_word k class.Name refl) (next (ex_maybe k phrase.Access) (nothing k)) in (e.0, Node form.NamedOperand e.1, one form.NamedOperand refl e.2)

ex_Negated : (k : Room) → Example k (One phrase.Negated)
ex_Negated k = let e = next (ex_word k class.Number refl) (nothing k) in (e.0, Node form.NegatedNumber e.1, one form.NegatedNumber refl e.2)

ex_Pair : (k : Room) → Example k (One phrase.Pair)
ex_Pair k = let e = next (ex_Expr k) (next (ex_word k class.Comma refl) (next (ex_Expr k) (nothing k))) in (e.0, Node form.Pair e.1, one form.Pair refl e.2)

ex_Indices : (k : Room) → Example k (One phrase.Indices)
ex_Indices k = let e = next (ex_maybe k phrase.IndexList) (nothing k) in (e.0, Node form.Indices e.1, one form.Indices refl e.2)

ex_Access : (k : Room) → Example k (One phrase.Access)
ex_Access k = let e = next (ex_word k class.OpenBracket refl) (next (ex_deeper k phrase.Indices (ex_Indices (lower k))) (next (ex_word k class.CloseBracket refl) (nothing k))) in (e.0, Node form.Access e.1, one form.Access refl e.2)

ex_Core : (k : Room) → Example k (One phrase.Core)
ex_Core k = let e = next (ex_Plain k) (nothing k) in (e.0, Node form.PlainCore e.1, one form.PlainCore refl e.2)

ex_Index : (k : Room) → Example k (One phrase.Index)
ex_Index k = let e = next (ex_Core k) (nothing k) in (e.0, Node form.BareIndex e.1, one form.BareIndex refl e.2)

ex_IndexList : (k : Room) → Example k (One phrase.IndexList)
ex_IndexList k = let e = next (ex_Index k) (next (ex_many k phrase.NextIndex) (nothing k)) in (e.0, Node form.IndexList e.1, one form.IndexList refl e.2)

ex_NextIndex : (k : Room) → Example k (One phrase.NextIndex)
ex_NextIndex k = let e = next (ex_word k class.Comma refl) (next (ex_Index k) (nothing k)) in (e.0, Node form.NextIndex e.1, one form.NextIndex refl e.2)

ex_Loose : (k : Room) → Example k (One phrase.Loose)
ex_Loose k = let e = next (ex_word k class.Number refl) (nothing k) in (e.0, Node form.LooseConstant e.1, one form.LooseConstant refl e.2)

ex_Added : (k : Room) → Example k (One phrase.Added)
ex_Added k = let e = next (ex_word k class.Number refl) (nothing k) in (e.0, Node form.AddedNumber e.1, one form.AddedNumber refl e.2)

ex_LooseRest : (k : Room) → Example k (One phrase.LooseRest)
ex_LooseRest k = let e = next (ex_word k class.Plus refl) (next (ex_Added k) (nothing k)) in (e.0, Node form.PlusRest e.1, one form.PlusRest refl e.2)

pub ex_phrase : (n : Phrase) (k : Room) → Example k (One n)
ex_phrase phrase.Header k = ex_Header k
ex_phrase phrase.Format k = ex_Format k
ex_phrase phrase.StoreWord k = ex_StoreWord k
ex_phrase phrase.Fill k = ex_Fill k
ex_phrase phrase.Shape k = ex_Shape k
ex_phrase phrase.Extent k = ex_Extent k
ex_phrase phrase.Int k = ex_Int k
ex_phrase phrase.Magnitude k = ex_Magnitude k
ex_phrase phrase.Stmt k = ex_Stmt k
ex_phrase phrase.Turns k = ex_Turns k
ex_phrase phrase.Range k = ex_Range k
ex_phrase phrase.Body k = ex_Body k
ex_phrase phrase.Stmts k = ex_Stmts k
ex_phrase phrase.Change k = ex_Change k
ex_phrase phrase.Assigning k = ex_Assigning k
ex_phrase phrase.Plains k = ex_Plains k
ex_phrase phrase.PlainList k = ex_PlainList k
ex_phrase phrase.NextPlain k = ex_NextPlain k
ex_phrase phrase.Plain k = ex_Plain k
ex_phrase phrase.Offset k = ex_Offset k
ex_phrase phrase.Expr k = ex_Expr k
ex_phrase phrase.Compared k = ex_Compared k
ex_phrase phrase.Sum k = ex_Sum k
ex_phrase phrase.NextTerm k = ex_NextTerm k
ex_phrase phrase.Term k = ex_Term k
ex_phrase phrase.NextUnary k = ex_NextUnary k
ex_phrase phrase.Unary k = ex_Unary k
ex_phrase phrase.Operand k = ex_Operand k
ex_phrase phrase.Negated k = ex_Negated k
ex_phrase phrase.Pair k = ex_Pair k
ex_phrase phrase.Access k = ex_Access k
ex_phrase phrase.Indices k = ex_Indices k
ex_phrase phrase.IndexList k = ex_IndexList k
ex_phrase phrase.NextIndex k = ex_NextIndex k
ex_phrase phrase.Index k = ex_Index k
ex_phrase phrase.Core k = ex_Core k
ex_phrase phrase.Loose k = ex_Loose k
ex_phrase phrase.LooseRest k = ex_LooseRest k
ex_phrase phrase.Added k = ex_Added k

pub ex_symbol : (k : Room) (s : Symbol) (c : Class) → is_sound s c ≡ true → Example k s
ex_symbol k (Word w) c h = ex_word k w h
ex_symbol k (One n) c h = ex_phrase n k
ex_symbol k (Many n) c h = ex_many k n
ex_symbol k (Maybe n) c h = ex_maybe k n
ex_symbol k (Deeper n) c h = ex_deeper k n (ex_phrase n (lower k))
ex_symbol k (InLoop n) c h = ex_in_loop k n (ex_phrase n (entered k))

pub ex_row : (k : Room) (row : List Symbol) (c : Class) → are_sound row c ≡ true → RowExample k row
ex_row k [] c h = nothing k
ex_row k (s ∷ row) c h = let b = both (is_sound s c) (are_sound row c) h in next (ex_symbol k s c b.0) (ex_row k row c b.1)
