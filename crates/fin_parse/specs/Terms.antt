-- What the symbols and reserved words of terms stand for.
use Rattle.std.specs.Prelude.{ℕ, ◌-◌, Bool, false, ◌==◌, nat_lt, if◌then◌else◌, Option, Some, None, slice_index_or}
use Rattle.fin_base.specs.declared.terms.Op.{Op}
use Rattle.fin_base.specs.declared.terms.Op.TheVariants.{Ne, Xor}
use Rattle.fin_base.specs.declared.terms.Proto.{Proto}
use Rattle.fin_base.specs.declared.terms.Proto.TheVariants.{Walk}
use Rattle.fin_base.specs.declared.reduce.Reduce.{Reduce}
use Rattle.fin_base.specs.declared.reduce.Reduce.TheVariants.{Add, Mul, Put}
use Rattle.fin_lex.specs.declared.token.Token.{Token}
use Rattle.fin_lex.specs.declared.token.TokenKind.{TokenKind}
use Rattle.fin_lex.specs.declared.token.TokenKind.TheVariants as kind
use Rattle.fin_parse.specs.declared.terms.TheConstants.{CALLS, COMPARISONS, PROTOCOLS, WORD_REDUCTIONS}
use Rattle.fin_parse.specs.FormatWords.{is_reserved}

-- `min` is the 14th reserved word, from 0, and `<` the 11th symbol
abbrev pub op_of_kind : TokenKind → Op
op_of_kind (kind.Reserved k) = slice_index_or CALLS (k - 14) Xor
op_of_kind (kind.Symbol k) = slice_index_or COMPARISONS (k - 11) Ne
op_of_kind _ = Ne

abbrev pub op_of : Option Token → Op
op_of None = Ne
op_of (Some t) = op_of_kind t.kind

-- `walk` is the 11th reserved word
abbrev pub proto_of_kind : TokenKind → Proto
proto_of_kind (kind.Reserved k) = slice_index_or PROTOCOLS (k - 11) Walk
proto_of_kind _ = Walk

abbrev pub proto_of : Option Token → Proto
proto_of None = Walk
proto_of (Some t) = proto_of_kind t.kind

-- `+=` and `*=` are the 18th and the 19th symbol, and `min=` is the 22nd
abbrev pub reduce_of_place : ℕ → Reduce
reduce_of_place k = if k == 18 then Add else if k == 19 then Mul else if nat_lt k 22 then Put else slice_index_or WORD_REDUCTIONS (k - 22) Put

abbrev pub reduce_of_kind : TokenKind → Reduce
reduce_of_kind (kind.Symbol k) = reduce_of_place k
reduce_of_kind _ = Put

abbrev pub reduce_of : Option Token → Reduce
reduce_of None = Put
reduce_of (Some t) = reduce_of_kind t.kind

abbrev pub is_word_at : ℕ → Option Token → Bool
is_word_at place None = false
is_word_at place (Some t) = is_reserved place t.kind

abbrev pub is_par : Option Token → Bool
is_par t = is_word_at 6 t

abbrev pub is_freeze : Option Token → Bool
is_freeze t = is_word_at 9 t
