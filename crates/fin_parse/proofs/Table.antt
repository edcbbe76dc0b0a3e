-- What the table of the grammar keeps, form by form and class by class.
use Rattle.std.proofs.Common.{◌≡◌, ℕ, zero, suc, ◌<◌, ◌≤◌, ◌==◌, Bool, true, false, not, ◌||◌, ◌&&◌, List, [], ◌∷◌, Option, Some, None, refl, sym, ap, ◌∙◌, subst, ◌^◌}
use Rattle.std.specs.Prelude.{slice_get}
use Rattle.std.specs.List.{list_all}
use Rattle.std.proofs.Math.Dec.{leb}
use Rattle.std.proofs.lemmas.Bool.{eqb-true, leb-true}
use Rattle.fin_parse.specs.declared.class.Class.{Class}
use Rattle.fin_parse.specs.declared.class.Class.TheVariants as class
use Rattle.fin_parse.specs.declared.grammar.Phrase.{Phrase}
use Rattle.fin_parse.specs.declared.grammar.Phrase.TheVariants as phrase
use Rattle.fin_parse.specs.declared.grammar.Form.{Form}
use Rattle.fin_parse.specs.declared.grammar.Form.TheVariants as form
use Rattle.fin_parse.specs.Grammar.{phrase_of, row_of, form_at}
use Rattle.fin_parse.specs.Choices.{is_nullable, are_empty, row_starts, row_continues, goes_on, is_clear, are_sound, row_weight, rank, begins, may_open, same_class}
use Rattle.fin_parse.specs.Classes.{class_of}
use Rattle.fin_lex.specs.declared.token.TokenKind.{TokenKind}
use Rattle.fin_lex.specs.declared.token.TokenKind.TheVariants as kind

pub impossible : {A : Type 0} → false ≡ true → A
impossible h = absurd (cc)

pub both : (a b : Bool) → a && b ≡ true → (a ≡ true) × (b ≡ true)
both true b h = (refl, h)
both false b h = impossible h

pub implied : (a b : Bool) → not a || b ≡ true → a ≡ true → b ≡ true
implied true b h k = h
implied false b h k = impossible k

-- ---- a test of every class
-- ---- tests of every class, form and phrase, which the checker computes

some_same : {A : Type 0} {x y : A} → Some x ≡ Some y → x ≡ y
some_same e = cc

-- what holds of a whole list holds of what stands in it
at_place : {A : Type 0} (t : A → Bool) (xs : List A) (k : ℕ) (x : A) → slice_get xs k ≡ Some x → list_all t xs ≡ true → t x ≡ true
at_place t [] k x e h = absurd (cc)
at_place t (y ∷ xs) zero x e h = subst (λ z. t z ≡ true) (some_same e) (both (t y) (list_all t xs) h).0
at_place t (y ∷ xs) (suc k) x e h = at_place t xs k x e (both (t y) (list_all t xs) h).1

abbrev class_number : Class → ℕ
class_number class.In = 0
class_number class.OutOrTmp = 1
class_number class.Fill = 2
class_number class.Shape = 3
class_number class.Loop = 4
class_number class.If = 5
class_number class.Let = 6
class_number class.Turn = 7
class_number class.Protocol = 8
class_number class.Call = 9
class_number class.Store = 10
class_number class.Element = 11
class_number class.OpenBracket = 12
class_number class.CloseBracket = 13
class_number class.OpenParenthesis = 14
class_number class.CloseParenthesis = 15
class_number class.OpenBrace = 16
class_number class.CloseBrace = 17
class_number class.Comma = 18
class_number class.Tilde = 19
class_number class.Plus = 20
class_number class.Minus = 21
class_number class.Star = 22
class_number class.Comparison = 23
class_number class.Equals = 24
class_number class.Reducing = 25
class_number class.Declares = 26
class_number class.Dots = 27
class_number class.Name = 28
class_number class.Number = 29
class_number class.Widest = 30
class_number class.Unknown = 31
class_number class.End = 32

abbrev classes : List Class
classes =
    class.In ∷ class.OutOrTmp ∷ class.Fill ∷ class.Shape ∷ class.Loop ∷ class.If ∷ class.Let ∷ class.Turn ∷ class.Protocol ∷ class.Call ∷
    class.Store ∷ class.Element ∷ class.OpenBracket ∷ class.CloseBracket ∷ class.OpenParenthesis ∷ class.CloseParenthesis ∷ class.OpenBrace ∷
    class.CloseBrace ∷ class.Comma ∷ class.Tilde ∷ class.Plus ∷ class.Minus ∷ class.Star ∷ class.Comparison ∷ class.Equals ∷ class.Reducing ∷
    class.Declares ∷ class.Dots ∷ class.Name ∷ class.Number ∷ class.Widest ∷ class.Unknown ∷ class.End ∷ []

class_listed : (x : Class) → slice_get classes (class_number x) ≡ Some x
class_listed class.In = refl
class_listed class.OutOrTmp = refl
class_listed class.Fill = refl
class_listed class.Shape = refl
class_listed class.Loop = refl
class_listed class.If = refl
class_listed class.Let = refl
class_listed class.Turn = refl
class_listed class.Protocol = refl
class_listed class.Call = refl
class_listed class.Store = refl
class_listed class.Element = refl
class_listed class.OpenBracket = refl
class_listed class.CloseBracket = refl
class_listed class.OpenParenthesis = refl
class_listed class.CloseParenthesis = refl
class_listed class.OpenBrace = refl
class_listed class.CloseBrace = refl
class_listed class.Comma = refl
class_listed class.Tilde = refl
class_listed class.Plus = refl
class_listed class.Minus = refl
class_listed class.Star = refl
class_listed class.Comparison = refl
class_listed class.Equals = refl
class_listed class.Reducing = refl
class_listed class.Declares = refl
class_listed class.Dots = refl
class_listed class.Name = refl
class_listed class.Number = refl
class_listed class.Widest = refl
class_listed class.Unknown = refl
class_listed class.End = refl

abbrev every_class : (Class → Bool) → Bool
every_class t = list_all t classes

at_class : (t : Class → Bool) → every_class t ≡ true → (c : Class) → t c ≡ true
at_class t h c = at_place t classes (class_number c) c (class_listed c) h

abbrev form_number : Form → ℕ
form_number form.InputHeader = 0
form_number form.OtherHeader = 1
form_number form.Format = 2
form_number form.StoreWord = 3
form_number form.Fill = 4
form_number form.Shape = 5
form_number form.Extent = 6
form_number form.PlusInt = 7
form_number form.MinusInt = 8
form_number form.Magnitude = 9
form_number form.WidestMagnitude = 10
form_number form.Loop = 11
form_number form.If = 12
form_number form.Let = 13
form_number form.Block = 14
form_number form.Turn = 15
form_number form.Named = 16
form_number form.Turns = 17
form_number form.Range = 18
form_number form.Body = 19
form_number form.Stmts = 20
form_number form.Declaration = 21
form_number form.Update = 22
form_number form.Reducing = 23
form_number form.Putting = 24
form_number form.Plains = 25
form_number form.PlainList = 26
form_number form.NextPlain = 27
form_number form.Constant = 28
form_number form.Shifted = 29
form_number form.PlusOffset = 30
form_number form.MinusOffset = 31
form_number form.Expr = 32
form_number form.Compared = 33
form_number form.Sum = 34
form_number form.PlusTerm = 35
form_number form.MinusTerm = 36
form_number form.Term = 37
form_number form.NextUnary = 38
form_number form.NumberUnary = 39
form_number form.OtherUnary = 40
form_number form.Negation = 41
form_number form.NamedOperand = 42
form_number form.Parentheses = 43
form_number form.Call = 44
form_number form.NegatedNumber = 45
form_number form.NegatedWidest = 46
form_number form.NegatedOperand = 47
form_number form.Pair = 48
form_number form.Access = 49
form_number form.Indices = 50
form_number form.IndexList = 51
form_number form.NextIndex = 52
form_number form.BareIndex = 53
form_number form.ProtocolIndex = 54
form_number form.PlainCore = 55
form_number form.LooseCore = 56
form_number form.LooseConstant = 57
form_number form.LooseNamed = 58
form_number form.PlusRest = 59
form_number form.MinusRest = 60
form_number form.AddedNumber = 61
form_number form.AddedName = 62

abbrev forms : List Form
forms =
    form.InputHeader ∷ form.OtherHeader ∷ form.Format ∷ form.StoreWord ∷ form.Fill ∷ form.Shape ∷ form.Extent ∷ form.PlusInt ∷ form.MinusInt ∷
    form.Magnitude ∷ form.WidestMagnitude ∷ form.Loop ∷ form.If ∷ form.Let ∷ form.Block ∷ form.Turn ∷ form.Named ∷ form.Turns ∷ form.Range ∷
    form.Body ∷ form.Stmts ∷ form.Declaration ∷ form.Update ∷ form.Reducing ∷ form.Putting ∷ form.Plains ∷ form.PlainList ∷ form.NextPlain ∷
    form.Constant ∷ form.Shifted ∷ form.PlusOffset ∷ form.MinusOffset ∷ form.Expr ∷ form.Compared ∷ form.Sum ∷ form.PlusTerm ∷ form.MinusTerm ∷
    form.Term ∷ form.NextUnary ∷ form.NumberUnary ∷ form.OtherUnary ∷ form.Negation ∷ form.NamedOperand ∷ form.Parentheses ∷ form.Call ∷
    form.NegatedNumber ∷ form.NegatedWidest ∷ form.NegatedOperand ∷ form.Pair ∷ form.Access ∷ form.Indices ∷ form.IndexList ∷ form.NextIndex ∷
    form.BareIndex ∷ form.ProtocolIndex ∷ form.PlainCore ∷ form.LooseCore ∷ form.LooseConstant ∷ form.LooseNamed ∷ form.PlusRest ∷ form.MinusRest ∷
    form.AddedNumber ∷ form.AddedName ∷ []

form_listed : (x : Form) → slice_get forms (form_number x) ≡ Some x
form_listed form.InputHeader = refl
form_listed form.OtherHeader = refl
form_listed form.Format = refl
form_listed form.StoreWord = refl
form_listed form.Fill = refl
form_listed form.Shape = refl
form_listed form.Extent = refl
form_listed form.PlusInt = refl
form_listed form.MinusInt = refl
form_listed form.Magnitude = refl
form_listed form.WidestMagnitude = refl
form_listed form.Loop = refl
form_listed form.If = refl
form_listed form.Let = refl
form_listed form.Block = refl
form_listed form.Turn = refl
form_listed form.Named = refl
form_listed form.Turns = refl
form_listed form.Range = refl
form_listed form.Body = refl
form_listed form.Stmts = refl
form_listed form.Declaration = refl
form_listed form.Update = refl
form_listed form.Reducing = refl
form_listed form.Putting = refl
form_listed form.Plains = refl
form_listed form.PlainList = refl
form_listed form.NextPlain = refl
form_listed form.Constant = refl
form_listed form.Shifted = refl
form_listed form.PlusOffset = refl
form_listed form.MinusOffset = refl
form_listed form.Expr = refl
form_listed form.Compared = refl
form_listed form.Sum = refl
form_listed form.PlusTerm = refl
form_listed form.MinusTerm = refl
form_listed form.Term = refl
form_listed form.NextUnary = refl
form_listed form.NumberUnary = refl
form_listed form.OtherUnary = refl
form_listed form.Negation = refl
form_listed form.NamedOperand = refl
form_listed form.Parentheses = refl
form_listed form.Call = refl
form_listed form.NegatedNumber = refl
form_listed form.NegatedWidest = refl
form_listed form.NegatedOperand = refl
form_listed form.Pair = refl
form_listed form.Access = refl
form_listed form.Indices = refl
form_listed form.IndexList = refl
form_listed form.NextIndex = refl
form_listed form.BareIndex = refl
form_listed form.ProtocolIndex = refl
form_listed form.PlainCore = refl
form_listed form.LooseCore = refl
form_listed form.LooseConstant = refl
form_listed form.LooseNamed = refl
form_listed form.PlusRest = refl
form_listed form.MinusRest = refl
form_listed form.AddedNumber = refl
form_listed form.AddedName = refl

at_form : (t : Form → Bool) → list_all t forms ≡ true → (f : Form) → t f ≡ true
at_form t h f = at_place t forms (form_number f) f (form_listed f) h

-- a test of every form with every class
at_both : (t : Form → Class → Bool) → list_all (λ f. every_class (t f)) forms ≡ true → (f : Form) (c : Class) → t f c ≡ true
at_both t h f c = at_class (t f) (at_form (λ f. every_class (t f)) h f) c

abbrev is_form : Option Form → Form → Bool
is_form None f = false
is_form (Some g) f = form_number g == form_number f

same_form : (o : Option Form) (f : Form) → is_form o f ≡ true → o ≡ Some f
same_form None f h = impossible h
same_form (Some g) f h = sym (form_listed g) ∙ ap (λ n. slice_get forms n) (eqb-true (form_number g) (form_number f) h) ∙ form_listed f

abbrev phrase_number : Phrase → ℕ
phrase_number phrase.Header = 0
phrase_number phrase.Format = 1
phrase_number phrase.StoreWord = 2
phrase_number phrase.Fill = 3
phrase_number phrase.Shape = 4
phrase_number phrase.Extent = 5
phrase_number phrase.Int = 6
phrase_number phrase.Magnitude = 7
phrase_number phrase.Stmt = 8
phrase_number phrase.Turns = 9
phrase_number phrase.Range = 10
phrase_number phrase.Body = 11
phrase_number phrase.Stmts = 12
phrase_number phrase.Change = 13
phrase_number phrase.Assigning = 14
phrase_number phrase.Plains = 15
phrase_number phrase.PlainList = 16
phrase_number phrase.NextPlain = 17
phrase_number phrase.Plain = 18
phrase_number phrase.Offset = 19
phrase_number phrase.Expr = 20
phrase_number phrase.Compared = 21
phrase_number phrase.Sum = 22
phrase_number phrase.NextTerm = 23
phrase_number phrase.Term = 24
phrase_number phrase.NextUnary = 25
phrase_number phrase.Unary = 26
phrase_number phrase.Operand = 27
phrase_number phrase.Negated = 28
phrase_number phrase.Pair = 29
phrase_number phrase.Access = 30
phrase_number phrase.Indices = 31
phrase_number phrase.IndexList = 32
phrase_number phrase.NextIndex = 33
phrase_number phrase.Index = 34
phrase_number phrase.Core = 35
phrase_number phrase.Loose = 36
phrase_number phrase.LooseRest = 37
phrase_number phrase.Added = 38

abbrev phrases : List Phrase
phrases =
    phrase.Header ∷ phrase.Format ∷ phrase.StoreWord ∷ phrase.Fill ∷ phrase.Shape ∷ phrase.Extent ∷ phrase.Int ∷ phrase.Magnitude ∷ phrase.Stmt ∷
    phrase.Turns ∷ phrase.Range ∷ phrase.Body ∷ phrase.Stmts ∷ phrase.Change ∷ phrase.Assigning ∷ phrase.Plains ∷ phrase.PlainList ∷
    phrase.NextPlain ∷ phrase.Plain ∷ phrase.Offset ∷ phrase.Expr ∷ phrase.Compared ∷ phrase.Sum ∷ phrase.NextTerm ∷ phrase.Term ∷ phrase.NextUnary ∷
    phrase.Unary ∷ phrase.Operand ∷ phrase.Negated ∷ phrase.Pair ∷ phrase.Access ∷ phrase.Indices ∷ phrase.IndexList ∷ phrase.NextIndex ∷
    phrase.Index ∷ phrase.Core ∷ phrase.Loose ∷ phrase.LooseRest ∷ phrase.Added ∷ []

phrase_listed : (x : Phrase) → slice_get phrases (phrase_number x) ≡ Some x
phrase_listed phrase.Header = refl
phrase_listed phrase.Format = refl
phrase_listed phrase.StoreWord = refl
phrase_listed phrase.Fill = refl
phrase_listed phrase.Shape = refl
phrase_listed phrase.Extent = refl
phrase_listed phrase.Int = refl
phrase_listed phrase.Magnitude = refl
phrase_listed phrase.Stmt = refl
phrase_listed phrase.Turns = refl
phrase_listed phrase.Range = refl
phrase_listed phrase.Body = refl
phrase_listed phrase.Stmts = refl
phrase_listed phrase.Change = refl
phrase_listed phrase.Assigning = refl
phrase_listed phrase.Plains = refl
phrase_listed phrase.PlainList = refl
phrase_listed phrase.NextPlain = refl
phrase_listed phrase.Plain = refl
phrase_listed phrase.Offset = refl
phrase_listed phrase.Expr = refl
phrase_listed phrase.Compared = refl
phrase_listed phrase.Sum = refl
phrase_listed phrase.NextTerm = refl
phrase_listed phrase.Term = refl
phrase_listed phrase.NextUnary = refl
phrase_listed phrase.Unary = refl
phrase_listed phrase.Operand = refl
phrase_listed phrase.Negated = refl
phrase_listed phrase.Pair = refl
phrase_listed phrase.Access = refl
phrase_listed phrase.Indices = refl
phrase_listed phrase.IndexList = refl
phrase_listed phrase.NextIndex = refl
phrase_listed phrase.Index = refl
phrase_listed phrase.Core = refl
phrase_listed phrase.Loose = refl
phrase_listed phrase.LooseRest = refl
phrase_listed phrase.Added = refl

at_phrase : (t : Phrase → Bool) → list_all t phrases ≡ true → (n : Phrase) → t n ≡ true
at_phrase t h n = at_place t phrases (phrase_number n) n (phrase_listed n) h

same_phrase : (n m : Phrase) → phrase_number n == phrase_number m ≡ true → n ≡ m
same_phrase n m h = some_same (sym (phrase_listed n) ∙ ap (λ k. slice_get phrases k) (eqb-true (phrase_number n) (phrase_number m) h) ∙ phrase_listed m)

-- ---- the table

-- a form is chosen by each class that begins it
pub chosen : (f : Form) (c : Class) → row_starts (row_of f) c ≡ true → form_at (phrase_of f) c ≡ Some f
chosen f c h =
    let t : not (row_starts (row_of f) c) || is_form (form_at (phrase_of f) c) f ≡ true =
    at_both (λ f c. not (row_starts (row_of f) c) || is_form (form_at (phrase_of f) c) f) refl f c in
    same_form (form_at (phrase_of f) c) f (implied (row_starts (row_of f) c) (is_form (form_at (phrase_of f) c) f) t h)

-- a form without a token is chosen always
pub chosen_empty : (f : Form) (c : Class) → are_empty (row_of f) ≡ true → form_at (phrase_of f) c ≡ Some f
chosen_empty form.Stmts c h = refl
chosen_empty form.Plains c h = refl
chosen_empty form.Indices c h = refl
chosen_empty _ c h = impossible h

pub nullable : (f : Form) → are_empty (row_of f) ≡ true → is_nullable (phrase_of f) ≡ true
nullable form.Stmts h = refl
nullable form.Plains h = refl
nullable form.Indices h = refl
nullable _ h = impossible h

pub continued : (f : Form) (c : Class) → row_continues (row_of f) c ≡ true → goes_on (phrase_of f) c ≡ true
continued f c h =
    let t : not (row_continues (row_of f) c) || goes_on (phrase_of f) c ≡ true =
    at_both (λ f c. not (row_continues (row_of f) c) || goes_on (phrase_of f) c) refl f c in
    implied (row_continues (row_of f) c) (goes_on (phrase_of f) c) t h

pub clear : (f : Form) (c : Class) → is_clear (row_of f) c ≡ true
clear f c = at_both (λ f c. is_clear (row_of f) c) refl f c

pub sound : (f : Form) (c : Class) → are_sound (row_of f) c ≡ true
sound f c = at_both (λ f c. are_sound (row_of f) c) refl f c

abbrev fits : Option Form → Phrase → Bool
fits None n = true
fits (Some f) n = phrase_number (phrase_of f) == phrase_number n

-- the form that is chosen for a phrase is one of its forms
pub chosen_for : (n : Phrase) (c : Class) (f : Form) → form_at n c ≡ Some f → phrase_of f ≡ n
chosen_for n c f h =
    let t : fits (form_at n c) n ≡ true = at_class (λ c. fits (form_at n c) n) (at_phrase (λ n. every_class (λ c. fits (form_at n c) n)) refl n) c in
    same_phrase (phrase_of f) n (subst (λ o. fits o n ≡ true) h t)

pub unopened : (n : Phrase) (c : Class) → may_open n c ≡ false → (begins n c ≡ false) × (is_nullable n ≡ false)
unopened phrase.Operand class.Number h = (refl, refl)
unopened phrase.Operand class.Widest h = (refl, refl)
unopened phrase.Operand _ h = impossible (sym h)
unopened _ c h = impossible (sym h)

pub same_self : (c : Class) → same_class c c ≡ true
same_self c = at_class (λ c. same_class c c) refl c

pub same_is : (c d : Class) → same_class c d ≡ true → c ≡ d
same_is c d h =
    let t : not (same_class c d) || class_number c == class_number d ≡ true =
    at_class (λ d. not (same_class c d) || class_number c == class_number d) (at_class (λ c. every_class (λ d. not (same_class c d) || class_number c == class_number d)) refl c) d in
    let same : class_number c ≡ class_number d = eqb-true (class_number c) (class_number d) (implied (same_class c d) (class_number c == class_number d) t h) in
    some_same (sym (class_listed c) ∙ ap (λ k. slice_get classes k) same ∙ class_listed d)

-- a kind of each class
abbrev pub kind_of : Class → TokenKind
kind_of class.In = kind.Reserved 0
kind_of class.OutOrTmp = kind.Reserved 1
kind_of class.Fill = kind.Reserved 3
kind_of class.Shape = kind.Reserved 4
kind_of class.Loop = kind.Reserved 5
kind_of class.If = kind.Reserved 7
kind_of class.Let = kind.Reserved 8
kind_of class.Turn = kind.Reserved 9
kind_of class.Protocol = kind.Reserved 11
kind_of class.Call = kind.Reserved 14
kind_of class.Store = kind.Reserved 19
kind_of class.Element = kind.Reserved 24
kind_of class.OpenBracket = kind.Symbol 0
kind_of class.CloseBracket = kind.Symbol 1
kind_of class.OpenParenthesis = kind.Symbol 2
kind_of class.CloseParenthesis = kind.Symbol 3
kind_of class.OpenBrace = kind.Symbol 4
kind_of class.CloseBrace = kind.Symbol 5
kind_of class.Comma = kind.Symbol 6
kind_of class.Tilde = kind.Symbol 7
kind_of class.Plus = kind.Symbol 8
kind_of class.Minus = kind.Symbol 9
kind_of class.Star = kind.Symbol 10
kind_of class.Comparison = kind.Symbol 11
kind_of class.Equals = kind.Symbol 17
kind_of class.Reducing = kind.Symbol 18
kind_of class.Declares = kind.Symbol 20
kind_of class.Dots = kind.Symbol 21
kind_of class.Name = kind.Name
kind_of class.Number = kind.Number 0
kind_of class.Widest = kind.Number (2 ^ 63)
kind_of class.Unknown = kind.Symbol 200
kind_of class.End = kind.Name

pub kind_there : (c : Class) → not (same_class c class.End) ≡ true → class_of (kind_of c) ≡ c
kind_there class.In h = refl
kind_there class.OutOrTmp h = refl
kind_there class.Fill h = refl
kind_there class.Shape h = refl
kind_there class.Loop h = refl
kind_there class.If h = refl
kind_there class.Let h = refl
kind_there class.Turn h = refl
kind_there class.Protocol h = refl
kind_there class.Call h = refl
kind_there class.Store h = refl
kind_there class.Element h = refl
kind_there class.OpenBracket h = refl
kind_there class.CloseBracket h = refl
kind_there class.OpenParenthesis h = refl
kind_there class.CloseParenthesis h = refl
kind_there class.OpenBrace h = refl
kind_there class.CloseBrace h = refl
kind_there class.Comma h = refl
kind_there class.Tilde h = refl
kind_there class.Plus h = refl
kind_there class.Minus h = refl
kind_there class.Star h = refl
kind_there class.Comparison h = refl
kind_there class.Equals h = refl
kind_there class.Reducing h = refl
kind_there class.Declares h = refl
kind_there class.Dots h = refl
kind_there class.Name h = refl
kind_there class.Number h = refl
kind_there class.Widest h = refl
kind_there class.Unknown h = refl
kind_there class.End h = impossible h

pub lighter : (f : Form) → row_weight (row_of f) ≤ rank (phrase_of f)
lighter f = leb-true (row_weight (row_of f)) (rank (phrase_of f)) (at_form (λ f. leb (row_weight (row_of f)) (rank (phrase_of f))) refl f)

pub small : (n : Phrase) → rank n < 16
small n = leb-true (suc (rank n)) 16 (at_phrase (λ n. leb (suc (rank n)) 16) refl n)

pub header_apart : (c : Class) → not (goes_on phrase.Header c && begins phrase.Header c) ≡ true
header_apart c = at_class (λ c. not (goes_on phrase.Header c && begins phrase.Header c)) refl c

pub stmt_apart : (c : Class) → not (goes_on phrase.Stmt c && begins phrase.Stmt c) ≡ true
stmt_apart c = at_class (λ c. not (goes_on phrase.Stmt c && begins phrase.Stmt c)) refl c

-- a statement continues no header
pub header_clear : (c : Class) → begins phrase.Stmt c ≡ true → not (begins phrase.Header c || goes_on phrase.Header c) ≡ true
header_clear c h =
    let t : not (begins phrase.Stmt c) || not (begins phrase.Header c || goes_on phrase.Header c) ≡ true =
    at_class (λ c. not (begins phrase.Stmt c) || not (begins phrase.Header c || goes_on phrase.Header c)) refl c in
    implied (begins phrase.Stmt c) (not (begins phrase.Header c || goes_on phrase.Header c)) t h
