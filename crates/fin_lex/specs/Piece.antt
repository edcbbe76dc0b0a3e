-- What stands at the front of a text, by longest match.
use Rattle.std.specs.Prelude.{◌<◌, ◌≤◌, ℕ, ◌+◌, ◌*◌, ◌-◌, ◌^◌, Bool, not, ◌&&◌, ◌||◌, if◌then◌else◌, ◌==◌, nat_le, nat_lt, List, [], ◌∷◌, length, take, map, slice_index, Option, Some, None}
use Rattle.std.specs.Char.{is_ascii_digit, is_ascii_alphabetic, is_ascii_alphanumeric}
use Rattle.std.specs.List.{prefix_len, fold, count_by}
use Rattle.std.specs.Str.{bytes_eq}
use Rattle.fin_lex.specs.declared.piece.Class.{Class}
use Rattle.fin_lex.specs.declared.piece.Class.TheVariants as class
use Rattle.fin_lex.specs.declared.token.TokenKind.TheVariants.{Name, Number, Reserved, Symbol}
use Rattle.fin_lex.specs.declared.piece.Piece.{Piece}
use Rattle.fin_lex.specs.declared.piece.Piece.TheVariants.{End, Blank, Token, Bad}
use Rattle.fin_lex.specs.declared.tables.TheConstants.{RESERVED, SYMBOLS, WORD_SYMBOLS}

abbrev pub is_in : Class → ℕ → Bool
is_in class.Digit b = is_ascii_digit b
is_in class.Word b = is_ascii_alphanumeric b || b == 95
is_in class.Line b = not (b == 10)

abbrev pub place : ℕ → List (List ℕ) → List ℕ → Option ℕ
place at [] word = None
place at (w ∷ table) word = if bytes_eq w word then Some at else place (at + 1) table word

-- the number that digits stand for
abbrev pub value_of : List ℕ → ℕ
value_of digits = fold (λ value digit. 10 * value + (digit - 48)) 0 digits

abbrev pub small : ℕ → Option ℕ
small n = if nat_le n (2 ^ 63) then Some n else None

abbrev pub newlines : List ℕ → ℕ
newlines z = count_by (λ b. b == 10) z

abbrev pub named : Option ℕ → ℕ → Piece
named (Some k) n = Token (Reserved k) n
named None n = Token Name n

abbrev pub updated : Option ℕ → Piece → ℕ → Piece
updated (Some k) other n = Token (Symbol (22 + k)) (n + 1)
updated None other n = other

-- The longest word; directly before "=" some are part of a symbol.
unfoldable pub word : List ℕ → Piece
word z =
    let n = prefix_len (is_in class.Word) z in
    let plain = named (place 0 (map (λ w. w.now) RESERVED) (take n z)) n in
    if nat_lt 32 n then Bad else (if slice_index z n == 61 then updated (place 0 (map (λ w. w.now) WORD_SYMBOLS) (take n z)) plain n else plain)

abbrev pub valued : Option ℕ → ℕ → Piece
valued (Some v) n = Token (Number v) n
valued None n = Bad

-- The longest number, with no 0 before another digit and no letter behind it.
unfoldable pub number : List ℕ → Piece
number z =
    let n = prefix_len (is_in class.Digit) z in
    if is_ascii_alphabetic (slice_index z n) || (slice_index z 0 == 48 && nat_lt 1 n) then Bad else valued (small (value_of (take n z))) n

abbrev pub symbolic : Option ℕ → ℕ → Piece → Piece
symbolic (Some k) n other = Token (Symbol k) n
symbolic None n other = other

-- A symbol of two bytes, or else one of one byte.
unfoldable pub symbol : List ℕ → Piece
symbol z =
    let at = λ (n : ℕ). place 0 (map (λ w. w.now) SYMBOLS) (take n z) in
    let single = symbolic (at 1) 1 Bad in
    if nat_le 2 (length z) then symbolic (at 2) 2 single else single

unfoldable pub cut : List ℕ → Piece
cut [] = End
cut (b ∷ bs) =
    if b == 32 || b == 9 || b == 10 then Blank 1
    else (if b == 35 then Blank (1 + prefix_len (is_in class.Line) bs)
    else (if is_in class.Digit b then number (b ∷ bs)
    else (if is_in class.Word b then word (b ∷ bs) else symbol (b ∷ bs))))

-- at least a byte, and no more than there are
abbrev pub Within : List ℕ → Piece → Type 0
Within z (Blank n) = (0 < n) × (n ≤ length z)
Within z (Token k n) = (0 < n) × (n ≤ length z)
Within z _ = Unit {0}
