-- The placement of the words of a format, which end with `element`.
use Rattle.std.specs.Prelude.{ℕ, Bool, true, false, not, ◌&&◌, ◌||◌, ◌==◌, nat_le, List, [], ◌∷◌}
use Rattle.std.specs.List.{count_by, list_all, list_any}
use Rattle.fin_lex.specs.declared.token.Token.{Token}
use Rattle.fin_lex.specs.declared.token.TokenKind.{TokenKind}
use Rattle.fin_lex.specs.declared.token.TokenKind.TheVariants as kind
use Rattle.fin_parse.specs.declared.reserved.TheConstants.{LIST, RUNS, BAND, DICT, ELEMENT, ATOMIC, MUTEX, SHARD}
use Rattle.fin_parse.specs.HeaderNames.{levels_of}

-- a reserved word, by its place
abbrev pub is_reserved : ℕ → TokenKind → Bool
is_reserved place (kind.Reserved k) = k == place
is_reserved place _ = false

abbrev pub is_word : ℕ → Token → Bool
is_word place t = is_reserved place t.kind

abbrev pub is_atomic : Token → Bool
is_atomic t = is_word ATOMIC t

abbrev pub is_mutex : Token → Bool
is_mutex t = is_word MUTEX t

abbrev pub is_shard : Token → Bool
is_shard t = is_word SHARD t

abbrev pub is_decoration : Token → Bool
is_decoration t = is_atomic t || is_mutex t || is_shard t

-- dense, or no level
abbrev pub is_dense : Token → Bool
is_dense t = not (is_word LIST t || is_word RUNS t || is_word BAND t || is_word DICT t)

-- dense or dict, or no level
abbrev pub is_dense_or_dict : Token → Bool
is_dense_or_dict t = not (is_word LIST t || is_word RUNS t || is_word BAND t)

abbrev pub begins_with : ℕ → List Token → Bool
begins_with place [] = false
begins_with place (t ∷ ts) = is_word place t

-- each such word stands directly before `element`
abbrev pub stands_last : ℕ → List Token → Bool
stands_last place [] = true
stands_last place (t ∷ ts) = (not (is_word place t) || begins_with ELEMENT ts) && stands_last place ts

-- At most 8 levels and one decoration, which an input has not; runs and atomic directly before the elements; atomic and
-- mutex only where every level is dense; shard first, and only where every level is dense or dict.
abbrev pub is_placed : Bool → List Token → Bool
is_placed input words =
    nat_le (levels_of words) 8
    && nat_le (count_by is_decoration words) 1
    && not (input && list_any is_decoration words)
    && stands_last RUNS words
    && stands_last ATOMIC words
    && (not (list_any is_atomic words) || list_all is_dense words)
    && (not (list_any is_mutex words) || list_all is_dense words)
    && (not (list_any is_shard words) || (begins_with SHARD words && list_all is_dense_or_dict words))
