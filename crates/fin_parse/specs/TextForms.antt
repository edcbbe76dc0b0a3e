-- The rules on formats and fills in a whole text.
use Rattle.std.specs.Prelude.{ℕ, Bool, false, if◌then◌else◌, List, [], ◌∷◌, ◌++◌, map, Option, Some, None}
use Rattle.fin_base.specs.declared.refusal.Rule.TheVariants.{F1}
use Rattle.fin_base.specs.declared.refusal.Refusal.{Refusal}
use Rattle.fin_lex.specs.declared.token.Token.{Token}
use Rattle.fin_parse.specs.declared.scope.Literal.{Literal}
use Rattle.fin_parse.specs.declared.scope.Fill.{Fill}
use Rattle.fin_parse.specs.declared.trees.Text.{Text}
use Rattle.fin_parse.specs.declared.reserved.TheConstants.{IN}
use Rattle.fin_parse.specs.Names.{breach}
use Rattle.fin_parse.specs.Fills.{head_token, literal_of}
use Rattle.fin_parse.specs.FormatWords.{is_placed, begins_with}
use Rattle.fin_parse.specs.Leaves.{HeadParts, header_of, leaves_of, fills_of}

-- F1 at the header, where its format is misplaced
abbrev pub format_breach : Option Token → Bool → List Refusal
format_breach None placed = []
format_breach (Some t) placed = if placed then [] else breach F1 t

abbrev pub head_format : HeadParts → List Refusal
head_format h = format_breach (head_token h.kind) (is_placed (begins_with IN h.kind) h.format)

abbrev pub format_breaches : List HeadParts → List Refusal
format_breaches [] = []
format_breaches (h ∷ hs) = head_format h ++ format_breaches hs

-- the fill that a header gives, behind its first word
abbrev pub given_fill : List Token → Literal
given_fill [] = record { negative = false; magnitude = 0 }
given_fill (t ∷ ts) = literal_of ts

abbrev pub named_fill : Option Token → Literal → List Fill
named_fill None value = []
named_fill (Some t) value = record { name = t; value = value } ∷ []

abbrev pub with_fill : List Fill → HeadParts → List Fill
with_fill known h = known ++ named_fill (head_token h.name) (given_fill h.fill)

abbrev pub known_fills : List Fill → List HeadParts → List Fill
known_fills known [] = known
known_fills known (h ∷ hs) = known_fills (with_fill known h) hs

-- the breaches of F1 and F2, in the order of the text
abbrev pub form_breaches : List ℕ → Text → List Refusal
form_breaches text trees = format_breaches (map header_of trees.headers) ++ fills_of (map leaves_of trees.body) text (known_fills [] (map header_of trees.headers))
