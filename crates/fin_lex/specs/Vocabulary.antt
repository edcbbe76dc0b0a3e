-- The words of the language: reserved words and symbols, letter by letter.
use Rattle.std.specs.Prelude.{◌≡◌, ℕ, List, [], ◌∷◌, ◌++◌, map, codes}
use Rattle.fin_lex.specs.declared.tables.TheConstants.{RESERVED, SYMBOLS, WORD_SYMBOLS}

-- the words that are no names
abbrev pub reserved_words : List (List ℕ)
reserved_words =
    codes "in" ∷ codes "out" ∷ codes "tmp" ∷ codes "fill" ∷ codes "shape"
    ∷ codes "for" ∷ codes "par" ∷ codes "if" ∷ codes "let" ∷ codes "freeze" ∷ codes "thaw"
    ∷ codes "walk" ∷ codes "gallop" ∷ codes "follow"
    ∷ codes "min" ∷ codes "max" ∷ codes "and" ∷ codes "or" ∷ codes "xor"
    ∷ codes "dense" ∷ codes "list" ∷ codes "runs" ∷ codes "band" ∷ codes "dict" ∷ codes "element"
    ∷ codes "atomic" ∷ codes "mutex" ∷ codes "shard" ∷ []

-- the symbols that begin with no letter
abbrev pub plain_symbols : List (List ℕ)
plain_symbols =
    codes "[" ∷ codes "]" ∷ codes "(" ∷ codes ")" ∷ codes "{" ∷ codes "}" ∷ codes "," ∷ codes "~"
    ∷ codes "+" ∷ codes "-" ∷ codes "*"
    ∷ codes "<" ∷ codes "<=" ∷ codes ">" ∷ codes ">=" ∷ codes "==" ∷ codes "!="
    ∷ codes "=" ∷ codes "+=" ∷ codes "*=" ∷ codes ".=" ∷ codes ".." ∷ []

-- the words that make a symbol with a "=" directly behind them
abbrev pub word_symbols : List (List ℕ)
word_symbols = codes "min" ∷ codes "max" ∷ codes "and" ∷ codes "or" ∷ codes "xor" ∷ []

-- all symbols, in the order of their numbers
abbrev pub symbols : List (List ℕ)
symbols = plain_symbols ++ map (λ (w : List ℕ). w ++ 61 ∷ []) word_symbols

-- the tables by which tokens are told are these
pub record TablesAreTheWords : Type 0 where
  pub reserved : map (λ w. w.now) RESERVED ≡ reserved_words
  pub plain : map (λ w. w.now) SYMBOLS ≡ plain_symbols
  pub words : map (λ w. w.now) WORD_SYMBOLS ≡ word_symbols
