-- Where a text breaks the grammar or its limits.
use Rattle.std.specs.Prelude.{◌≡◌, ◌⊎◌, ℕ, List, [], ◌∷◌, ◌++◌, Result, Ok, Err}
use Rattle.fin_base.specs.declared.refusal.Rule.{Rule}
use Rattle.fin_base.specs.declared.refusal.Rule.TheVariants.{S2, S3}
use Rattle.fin_base.specs.declared.refusal.Fail.{Fail}
use Rattle.fin_base.specs.declared.refusal.Fail.TheVariants.{Refused, Memory}
use Rattle.fin_lex.specs.declared.token.Token.{Token}
use Rattle.fin_parse.specs.declared.tree.Room.{Room}
use Rattle.fin_parse.specs.declared.trees.Text.{Text}
use Rattle.fin_parse.specs.Text.{IsWhole, IsUnexpected, IsTooDeep, IsCrowded}

-- 64 headers, 64 open brackets, braces, parentheses and minuses, loops 16 deep
abbrev pub limits : Room
limits = record { headers = 64; levels = 64; loops = 16 }

-- the line of the next token, or of the end
abbrev pub next_line : List Token → ℕ → ℕ
next_line [] last = last
next_line (t ∷ ts) last = t.line

abbrev pub line_behind : ℕ → List Token → ℕ
line_behind line [] = line
line_behind line (t ∷ ts) = line_behind t.line ts

-- the line of the last token
abbrev pub last_line : List Token → ℕ
last_line tokens = line_behind 0 tokens

-- S2: no text of the grammar goes on with the next token
abbrev pub IsUnexpectedAt : List Token → ℕ → ℕ → Type 0
IsUnexpectedAt tokens last line = (before left : List Token) × (tokens ≡ before ++ left) × (line ≡ next_line left last) × IsUnexpected limits before left

-- S3: the last token before opens a level or a loop too many, or the next one begins a header too many
abbrev pub IsTooMuchAt : List Token → ℕ → ℕ → Type 0
IsTooMuchAt tokens last line =
    ((before left : List Token) × (tokens ≡ before ++ left) × (line ≡ last_line before) × IsTooDeep limits before left)
    ⊎ ((before left : List Token) × (tokens ≡ before ++ left) × (line ≡ next_line left last) × IsCrowded limits before left)

abbrev pub SyntaxBroken : List Token → ℕ → Rule → ℕ → Type 0
SyntaxBroken tokens last S2 line = IsUnexpectedAt tokens last line
SyntaxBroken tokens last S3 line = IsTooMuchAt tokens last line
SyntaxBroken tokens last _ line = ⊥

abbrev pub SyntaxRead : List Token → ℕ → Result Text Fail → Type 0
SyntaxRead tokens last (Ok text) = IsWhole limits tokens text
SyntaxRead tokens last (Err (Refused r)) = SyntaxBroken tokens last r.rule r.line
SyntaxRead tokens last (Err (Memory a)) = Unit {0}
