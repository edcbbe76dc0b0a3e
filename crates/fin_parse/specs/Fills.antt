-- Declarations with another value than the fill.
use Rattle.std.specs.Prelude.{ℕ, Bool, true, false, not, ◌&&◌, ◌==◌, if◌then◌else◌, List, [], ◌∷◌, Option, Some, None}
use Rattle.std.specs.List.{find}
use Rattle.fin_base.specs.declared.refusal.Rule.TheVariants.{F2}
use Rattle.fin_base.specs.declared.refusal.Refusal.{Refusal}
use Rattle.fin_lex.specs.declared.token.Token.{Token}
use Rattle.fin_lex.specs.declared.token.TokenKind.{TokenKind}
use Rattle.fin_lex.specs.declared.token.TokenKind.TheVariants as kind
use Rattle.fin_parse.specs.declared.scope.Literal.{Literal}
use Rattle.fin_parse.specs.declared.scope.Fill.{Fill}
use Rattle.fin_parse.specs.Names.{breach, is_same}

-- the first token
abbrev pub head_token : List Token → Option Token
head_token [] = None
head_token (t ∷ ts) = Some t

abbrev pub number_of : TokenKind → ℕ
number_of (kind.Number n) = n
number_of _ = 0

-- a number behind a minus; that of 0 is 0
abbrev pub negated : ℕ → Literal
negated n = record { negative = not (n == 0); magnitude = n }

-- the value of a number, or of a minus and a number; 0 where there is none
abbrev pub literal_of : List Token → Literal
literal_of [] = record { negative = false; magnitude = 0 }
literal_of (n ∷ []) = record { negative = false; magnitude = number_of n.kind }
literal_of (minus ∷ n ∷ ts) = negated (number_of n.kind)

abbrev pub same_bool : Bool → Bool → Bool
same_bool true b = b
same_bool false b = not b

abbrev pub same_literal : Literal → Literal → Bool
same_literal a b = same_bool a.negative b.negative && a.magnitude == b.magnitude

-- the sign `.=`
abbrev pub is_declares : TokenKind → Bool
is_declares (kind.Symbol k) = k == 20
is_declares _ = false

abbrev pub fill_named : List ℕ → List Fill → Token → Option Fill
fill_named text known name = find (λ (f : Fill). is_same text f.name name) known

abbrev pub unlike : Option Fill → Token → Literal → List Refusal
unlike None name value = []
unlike (Some f) name value = if same_literal f.value value then [] else breach F2 name

-- F2 at the name, where what stands behind it declares another value than the fill
abbrev pub fill_breach : List ℕ → List Fill → Option Token → List Token → List Refusal
fill_breach text known None change = []
fill_breach text known (Some name) [] = []
fill_breach text known (Some name) (sign ∷ ts) = if is_declares sign.kind then unlike (fill_named text known name) name (literal_of ts) else []
