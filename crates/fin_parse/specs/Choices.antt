-- What tokens begin a phrase and what tokens would go on with it, by class.
use Rattle.std.specs.Prelude.{ℕ, Bool, true, false, not, ◌&&◌, ◌||◌, List, [], ◌∷◌, is_some, max, ◌+◌}
use Rattle.fin_parse.specs.declared.class.Class.{Class}
use Rattle.fin_parse.specs.declared.class.Class.TheVariants as class
use Rattle.fin_parse.specs.declared.grammar.Phrase.{Phrase}
use Rattle.fin_parse.specs.declared.grammar.Phrase.TheVariants as phrase
use Rattle.fin_parse.specs.declared.grammar.Symbol.{Symbol}
use Rattle.fin_parse.specs.declared.grammar.Symbol.TheVariants.{Word, One, Many, Maybe, Deeper, InLoop}
use Rattle.fin_parse.specs.Grammar.{form_at}

-- a phrase may begin with the class
abbrev pub begins : Phrase → Class → Bool
begins n c = is_some (form_at n c)

-- a phrase may have no token
abbrev pub is_nullable : Phrase → Bool
is_nullable phrase.Stmts = true
is_nullable phrase.Plains = true
is_nullable phrase.Indices = true
is_nullable _ = false

-- a phrase that is too deep may begin with any token, but that behind a minus with no number
abbrev pub may_open : Phrase → Class → Bool
may_open phrase.Operand class.Number = false
may_open phrase.Operand class.Widest = false
may_open _ _ = true

-- a token that would continue a phrase stands not behind it
abbrev pub goes_on : Phrase → Class → Bool
goes_on phrase.Header class.Fill = true
goes_on phrase.Header class.Shape = true
goes_on phrase.Header class.Number = true
goes_on phrase.Shape class.Number = true
goes_on phrase.Stmt class.OpenBracket = true
goes_on phrase.Stmt class.Plus = true
goes_on phrase.Stmt class.Minus = true
goes_on phrase.Stmt class.Star = true
goes_on phrase.Stmt class.Comparison = true
goes_on phrase.Stmts class.Loop = true
goes_on phrase.Stmts class.If = true
goes_on phrase.Stmts class.Let = true
goes_on phrase.Stmts class.Turn = true
goes_on phrase.Stmts class.OpenBracket = true
goes_on phrase.Stmts class.OpenBrace = true
goes_on phrase.Stmts class.Plus = true
goes_on phrase.Stmts class.Minus = true
goes_on phrase.Stmts class.Star = true
goes_on phrase.Stmts class.Comparison = true
goes_on phrase.Stmts class.Name = true
goes_on phrase.Change class.OpenBracket = true
goes_on phrase.Change class.Plus = true
goes_on phrase.Change class.Minus = true
goes_on phrase.Change class.Star = true
goes_on phrase.Change class.Comparison = true
goes_on phrase.Plains class.Comma = true
goes_on phrase.Plains class.Plus = true
goes_on phrase.Plains class.Minus = true
goes_on phrase.Plains class.Name = true
goes_on phrase.Plains class.Number = true
goes_on phrase.PlainList class.Comma = true
goes_on phrase.PlainList class.Plus = true
goes_on phrase.PlainList class.Minus = true
goes_on phrase.NextPlain class.Plus = true
goes_on phrase.NextPlain class.Minus = true
goes_on phrase.Plain class.Plus = true
goes_on phrase.Plain class.Minus = true
goes_on phrase.Expr class.OpenBracket = true
goes_on phrase.Expr class.Plus = true
goes_on phrase.Expr class.Minus = true
goes_on phrase.Expr class.Star = true
goes_on phrase.Expr class.Comparison = true
goes_on phrase.Compared class.OpenBracket = true
goes_on phrase.Compared class.Plus = true
goes_on phrase.Compared class.Minus = true
goes_on phrase.Compared class.Star = true
goes_on phrase.Sum class.OpenBracket = true
goes_on phrase.Sum class.Plus = true
goes_on phrase.Sum class.Minus = true
goes_on phrase.Sum class.Star = true
goes_on phrase.NextTerm class.OpenBracket = true
goes_on phrase.NextTerm class.Star = true
goes_on phrase.Term class.OpenBracket = true
goes_on phrase.Term class.Star = true
goes_on phrase.NextUnary class.OpenBracket = true
goes_on phrase.Unary class.OpenBracket = true
goes_on phrase.Operand class.OpenBracket = true
goes_on phrase.Negated class.OpenBracket = true
goes_on phrase.Pair class.OpenBracket = true
goes_on phrase.Pair class.Plus = true
goes_on phrase.Pair class.Minus = true
goes_on phrase.Pair class.Star = true
goes_on phrase.Pair class.Comparison = true
goes_on phrase.Indices class.Protocol = true
goes_on phrase.Indices class.Comma = true
goes_on phrase.Indices class.Tilde = true
goes_on phrase.Indices class.Plus = true
goes_on phrase.Indices class.Minus = true
goes_on phrase.Indices class.Name = true
goes_on phrase.Indices class.Number = true
goes_on phrase.IndexList class.Comma = true
goes_on phrase.IndexList class.Plus = true
goes_on phrase.IndexList class.Minus = true
goes_on phrase.NextIndex class.Plus = true
goes_on phrase.NextIndex class.Minus = true
goes_on phrase.Index class.Plus = true
goes_on phrase.Index class.Minus = true
goes_on phrase.Core class.Plus = true
goes_on phrase.Core class.Minus = true
goes_on phrase.Loose class.Plus = true
goes_on phrase.Loose class.Minus = true
goes_on phrase.LooseRest class.Plus = true
goes_on phrase.LooseRest class.Minus = true
goes_on phrase.Added class.Plus = true
goes_on phrase.Added class.Minus = true
goes_on _ _ = false

abbrev pub same_class : Class → Class → Bool
same_class class.In class.In = true
same_class class.OutOrTmp class.OutOrTmp = true
same_class class.Fill class.Fill = true
same_class class.Shape class.Shape = true
same_class class.Loop class.Loop = true
same_class class.If class.If = true
same_class class.Let class.Let = true
same_class class.Turn class.Turn = true
same_class class.Protocol class.Protocol = true
same_class class.Call class.Call = true
same_class class.Store class.Store = true
same_class class.Element class.Element = true
same_class class.OpenBracket class.OpenBracket = true
same_class class.CloseBracket class.CloseBracket = true
same_class class.OpenParenthesis class.OpenParenthesis = true
same_class class.CloseParenthesis class.CloseParenthesis = true
same_class class.OpenBrace class.OpenBrace = true
same_class class.CloseBrace class.CloseBrace = true
same_class class.Comma class.Comma = true
same_class class.Tilde class.Tilde = true
same_class class.Plus class.Plus = true
same_class class.Minus class.Minus = true
same_class class.Star class.Star = true
same_class class.Comparison class.Comparison = true
same_class class.Equals class.Equals = true
same_class class.Reducing class.Reducing = true
same_class class.Declares class.Declares = true
same_class class.Dots class.Dots = true
same_class class.Name class.Name = true
same_class class.Number class.Number = true
same_class class.Widest class.Widest = true
same_class class.Unknown class.Unknown = true
same_class class.End class.End = true
same_class _ _ = false

abbrev pub is_empty : Symbol → Bool
is_empty (Word c) = false
is_empty (One n) = is_nullable n
is_empty (Many n) = true
is_empty (Maybe n) = true
is_empty (Deeper n) = is_nullable n
is_empty (InLoop n) = is_nullable n

abbrev pub starts : Symbol → Class → Bool
starts (Word k) c = same_class k c
starts (One n) c = begins n c
starts (Many n) c = begins n c
starts (Maybe n) c = begins n c
starts (Deeper n) c = begins n c || may_open n c
starts (InLoop n) c = begins n c || may_open n c

abbrev pub are_empty : List Symbol → Bool
are_empty [] = true
are_empty (s ∷ row) = is_empty s && are_empty row

abbrev pub row_starts : List Symbol → Class → Bool
row_starts [] c = false
row_starts (s ∷ row) c = starts s c || (is_empty s && row_starts row c)

abbrev pub continues : Symbol → Class → Bool
continues (Word k) c = false
continues (One n) c = goes_on n c
continues (Many n) c = begins n c || goes_on n c
continues (Maybe n) c = begins n c || goes_on n c
continues (Deeper n) c = goes_on n c
continues (InLoop n) c = goes_on n c

abbrev pub row_continues : List Symbol → Class → Bool
row_continues [] c = false
row_continues (s ∷ row) c = row_continues row c || (are_empty row && continues s c)

-- what continues a part begins nothing behind it
abbrev pub is_clear : List Symbol → Class → Bool
is_clear [] c = true
is_clear (s ∷ row) c = not (continues s c && row_starts row c) && is_clear row c

-- a word is a token's class; what is repeated or left out has a token, and what is repeated isn't continued by what begins it
abbrev pub is_sound : Symbol → Class → Bool
is_sound (Word k) c = not (same_class k class.End)
is_sound (One n) c = true
is_sound (Many n) c = not (is_nullable n) && not (goes_on n c && begins n c)
is_sound (Maybe n) c = not (is_nullable n)
is_sound (Deeper n) c = true
is_sound (InLoop n) c = true

abbrev pub are_sound : List Symbol → Class → Bool
are_sound [] c = true
are_sound (s ∷ row) c = is_sound s c && are_sound row c

-- how many phrases may stand in a phrase without a level between them
abbrev pub rank : Phrase → ℕ
rank phrase.Header = 3
rank phrase.Format = 1
rank phrase.StoreWord = 0
rank phrase.Fill = 2
rank phrase.Shape = 1
rank phrase.Extent = 0
rank phrase.Int = 1
rank phrase.Magnitude = 0
rank phrase.Stmt = 10
rank phrase.Turns = 1
rank phrase.Range = 0
rank phrase.Body = 0
rank phrase.Stmts = 11
rank phrase.Change = 9
rank phrase.Assigning = 0
rank phrase.Plains = 4
rank phrase.PlainList = 3
rank phrase.NextPlain = 2
rank phrase.Plain = 1
rank phrase.Offset = 0
rank phrase.Expr = 8
rank phrase.Compared = 7
rank phrase.Sum = 6
rank phrase.NextTerm = 5
rank phrase.Term = 4
rank phrase.NextUnary = 3
rank phrase.Unary = 2
rank phrase.Operand = 1
rank phrase.Negated = 0
rank phrase.Pair = 9
rank phrase.Access = 0
rank phrase.Indices = 6
rank phrase.IndexList = 5
rank phrase.NextIndex = 4
rank phrase.Index = 3
rank phrase.Core = 2
rank phrase.Loose = 3
rank phrase.LooseRest = 2
rank phrase.Added = 1

abbrev pub weight : Symbol → ℕ
weight (Word k) = 0
weight (One n) = rank n + 1
weight (Many n) = rank n + 1
weight (Maybe n) = rank n + 1
weight (Deeper n) = 0
weight (InLoop n) = rank n + 1

abbrev pub row_weight : List Symbol → ℕ
row_weight [] = 0
row_weight (s ∷ row) = max (weight s) (row_weight row)
