-- The headers that header trees stand for.
use Rattle.std.specs.Prelude.{◌≡◌, ◌≤◌, ℕ, ◌-◌, ◌==◌, Bool, not, if◌then◌else◌, IsTrue, List, [], ◌∷◌, map, take, length, Option, Some, None, ℤ, pos, negsuc}
use Rattle.std.specs.List.{filter_map, list_any, prefix_len}
use Rattle.fin_base.specs.Words.{IsWord}
use Rattle.fin_tensor.specs.declared.format.Level.{Level}
use Rattle.fin_tensor.specs.declared.format.Level.TheVariants.{Dense, List as SortedList, Runs, Band, Dict}
use Rattle.fin_tensor.specs.declared.format.Wrap.{Wrap}
use Rattle.fin_tensor.specs.declared.format.Wrap.TheVariants.{Bare, Atomic, Mutex, Shard}
use Rattle.fin_tensor.specs.Placement.{IsPlacedAs}
use Rattle.fin_ast.specs.declared.header.Kind.{Kind}
use Rattle.fin_ast.specs.declared.header.Kind.TheVariants.{Input, Output, Local}
use Rattle.fin_ast.specs.declared.header.Header.{Header}
use Rattle.fin_ast.specs.Kinds.{is_input, has_length}
use Rattle.fin_lex.specs.declared.token.Token.{Token}
use Rattle.fin_lex.specs.declared.token.TokenKind.{TokenKind}
use Rattle.fin_lex.specs.declared.token.TokenKind.TheVariants as kind
use Rattle.fin_parse.specs.declared.scope.Literal.{Literal}
use Rattle.fin_parse.specs.declared.trees.Text.{Text}
use Rattle.fin_parse.specs.declared.reserved.TheConstants.{IN, OUT, DENSE, LIST, RUNS, BAND, DICT}
use Rattle.fin_parse.specs.Names.{text_at}
use Rattle.fin_parse.specs.Fills.{number_of}
use Rattle.fin_parse.specs.HeaderNames.{levels_of}
use Rattle.fin_parse.specs.FormatWords.{begins_with, is_atomic, is_mutex, is_shard}
use Rattle.fin_parse.specs.TextForms.{given_fill}
use Rattle.fin_parse.specs.Leaves.{HeadParts}
use Rattle.fin_parse.specs.Verdict.{IsAccepted}

-- by the first word
abbrev pub kind_of : List Token → Kind
kind_of words = if begins_with IN words then Input else (if begins_with OUT words then Output else Local)

abbrev pub level_at : ℕ → Option Level
level_at k = if k == DENSE then Some Dense else (if k == LIST then Some SortedList else (if k == RUNS then Some Runs else (if k == BAND then Some Band else (if k == DICT then Some Dict else None))))

-- the level that a word names
abbrev pub level_of : TokenKind → Option Level
level_of (kind.Reserved k) = level_at k
level_of _ = None

-- the levels of a format's words, in order
abbrev pub levels_in : List Token → List Level
levels_in words = filter_map (λ (t : Token). level_of t.kind) words

abbrev pub is_no_mutex : Token → Bool
is_no_mutex t = not (is_mutex t)

-- how many levels stand before the mutex
abbrev pub levels_before : List Token → ℕ
levels_before words = levels_of (take (prefix_len is_no_mutex words) words)

-- the decoration of a format's words
abbrev pub wrap_of : List Token → Wrap
wrap_of words = if list_any is_atomic words then Atomic else (if list_any is_mutex words then Mutex (levels_before words) else (if list_any is_shard words then Shard else Bare))

-- the integer: a minus and n is negsuc (n - 1)
abbrev pub integer_of : Literal → ℤ
integer_of value = if value.negative then negsuc (value.magnitude - 1) else pos value.magnitude

abbrev pub numbers_in : List Token → List ℕ
numbers_in tokens = map (λ (t : Token). number_of t.kind) tokens

-- the numbers behind the first word, where there is one
abbrev pub shape_of : List Token → Option (List ℕ)
shape_of [] = None
shape_of (t ∷ ts) = Some (numbers_in ts)

-- the bytes of the first token
abbrev pub name_of : List ℕ → List Token → List ℕ
name_of text [] = []
name_of text (t ∷ ts) = text_at text t

-- the line of the first token
abbrev pub line_of : List Token → ℕ
line_of [] = 0
line_of (t ∷ ts) = t.line

-- the header that the tokens of its parts stand for in a text
pub record IsHeader (text : List ℕ) (parts : HeadParts) (header : Header) : Type 0 where
  pub kind : header.kind ≡ kind_of parts.kind
  pub name : header.name ≡ name_of text parts.name
  pub levels : header.format.levels ≡ levels_in parts.format
  pub wrap : header.format.wrap ≡ wrap_of parts.format
  pub fill : header.format.fill ≡ integer_of (given_fill parts.fill)
  pub shape : header.shape ≡ shape_of parts.shape
  pub line : header.line ≡ line_of parts.kind

-- each header is that of its parts, in order
abbrev pub AreHeadersOf : List ℕ → List HeadParts → List Header → Type 0
AreHeadersOf text [] [] = Unit {0}
AreHeadersOf text [] (h ∷ hs) = ⊥
AreHeadersOf text (p ∷ ps) [] = ⊥
AreHeadersOf text (p ∷ ps) (h ∷ hs) = IsHeader text p h × AreHeadersOf text ps hs

-- what the parts say fits a header
pub record IsSound (parts : HeadParts) : Type 0 where
  pub placed : IsPlacedAs (is_input (kind_of parts.kind)) (levels_in parts.format) (wrap_of parts.format)
  pub few : levels_of parts.format ≤ 8
  pub shaped : IsTrue (has_length (length (levels_in parts.format)) (shape_of parts.shape))
  pub fill : IsWord (integer_of (given_fill parts.fill))

-- some tokens stand for the trees, which break no rule
abbrev pub IsAcceptedText : List ℕ → Text → Type 0
IsAcceptedText text trees = (tokens : List Token) × IsAccepted text tokens trees
