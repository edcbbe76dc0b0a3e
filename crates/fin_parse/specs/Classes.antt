-- The part that a token plays in the grammar.
use Rattle.std.specs.Prelude.{◌^◌, ◌==◌, nat_lt, if◌then◌else◌, slice_index_or, Option, Some, None}
use Rattle.fin_lex.specs.declared.token.TokenKind.{TokenKind}
use Rattle.fin_lex.specs.declared.token.TokenKind.TheVariants as kind
use Rattle.fin_lex.specs.declared.token.Token.{Token}
use Rattle.fin_parse.specs.declared.class.Class.{Class}
use Rattle.fin_parse.specs.declared.class.Class.TheVariants.{Name, Number, Widest, Unknown, End}
use Rattle.fin_parse.specs.declared.class.TheConstants.{RESERVED_CLASSES, SYMBOL_CLASSES}

abbrev pub class_of : TokenKind → Class
class_of kind.Name = Name
class_of (kind.Number n) = if nat_lt n (2 ^ 63) then Number else (if n == 2 ^ 63 then Widest else Unknown)
class_of (kind.Reserved k) = slice_index_or RESERVED_CLASSES k Unknown
class_of (kind.Symbol k) = slice_index_or SYMBOL_CLASSES k Unknown

-- the class of a token, or of the end
abbrev pub class_at : Option Token → Class
class_at None = End
class_at (Some token) = class_of token.kind
