-- A text has its tokens, or one first line without a token.
use Rattle.std.proofs.Common.{◌≡◌, ◌∙◌, ℕ, ◌+◌, List, [], ◌∷◌, drop, refl, sym, ap, ap₂, subst}
use Rattle.fin_lex.specs.declared.piece.Piece.{Piece}
use Rattle.fin_lex.specs.declared.piece.Piece.TheVariants as piece
use Rattle.fin_lex.specs.declared.token.TokenKind.{TokenKind}
use Rattle.fin_lex.specs.declared.token.Token.{Token}
use Rattle.fin_lex.specs.Piece.{cut}
use Rattle.fin_lex.specs.Tokens.{AreTokens, BreaksAt, BreaksFrom, TokensFrom, line_at}

same_blank : (p : Piece) (m n : ℕ) → p ≡ piece.Blank m → p ≡ piece.Blank n → n ≡ m
same_blank p m n h k = cc

same_length : (p : Piece) (a b : TokenKind) (m n : ℕ) → p ≡ piece.Token a m → p ≡ piece.Token b n → n ≡ m
same_length p a b m n h k = cc

same_kind : (p : Piece) (a b : TokenKind) (m n : ℕ) → p ≡ piece.Token a m → p ≡ piece.Token b n → b ≡ a
same_kind p a b m n h k = cc

pub tokens_or_break : (text : List ℕ) (first at line : ℕ) (tokens : List Token) → TokensFrom text first at tokens → BreaksFrom text first at line → ⊥
tokens_or_break text first at line tokens (TokensFrom.ended c) (BreaksFrom.bad d) = cc
tokens_or_break text first at line tokens (TokensFrom.ended c) (BreaksFrom.after_blank d k) = cc
tokens_or_break text first at line tokens (TokensFrom.ended c) (BreaksFrom.after_token d k) = cc
tokens_or_break text first at line tokens (TokensFrom.blank c h) (BreaksFrom.bad d) = cc
tokens_or_break text first at line tokens (TokensFrom.blank {n = m} c h) (BreaksFrom.after_blank {n = n} d k) =
    tokens_or_break text first (at + m) line tokens h (subst (λ i. BreaksFrom text first (at + i) line) (same_blank _ m n c d) k)
tokens_or_break text first at line tokens (TokensFrom.blank c h) (BreaksFrom.after_token d k) = cc
tokens_or_break text first at line tokens (TokensFrom.token c h) (BreaksFrom.bad d) = cc
tokens_or_break text first at line tokens (TokensFrom.token c h) (BreaksFrom.after_blank d k) = cc
tokens_or_break text first at line tokens (TokensFrom.token {n = m} {kind = a} {tokens = others} c h) (BreaksFrom.after_token {n = n} {kind = b} d k) =
    tokens_or_break text first (at + m) line others h (subst (λ i. BreaksFrom text first (at + i) line) (same_length _ a b m n c d) k)

pub one_break : (text : List ℕ) (first at x y : ℕ) → BreaksFrom text first at x → BreaksFrom text first at y → x ≡ y
one_break text first at x y (BreaksFrom.bad c) (BreaksFrom.bad d) = refl
one_break text first at x y (BreaksFrom.bad c) (BreaksFrom.after_blank d k) = cc
one_break text first at x y (BreaksFrom.bad c) (BreaksFrom.after_token d k) = cc
one_break text first at x y (BreaksFrom.after_blank c h) (BreaksFrom.bad d) = cc
one_break text first at x y (BreaksFrom.after_blank {n = m} c h) (BreaksFrom.after_blank {n = n} d k) =
    one_break text first (at + m) x y h (subst (λ i. BreaksFrom text first (at + i) y) (same_blank _ m n c d) k)
one_break text first at x y (BreaksFrom.after_blank c h) (BreaksFrom.after_token d k) = cc
one_break text first at x y (BreaksFrom.after_token c h) (BreaksFrom.bad d) = cc
one_break text first at x y (BreaksFrom.after_token c h) (BreaksFrom.after_blank d k) = cc
one_break text first at x y (BreaksFrom.after_token {n = m} {kind = a} c h) (BreaksFrom.after_token {n = n} {kind = b} d k) =
    one_break text first (at + m) x y h (subst (λ i. BreaksFrom text first (at + i) y) (same_length _ a b m n c d) k)

pub one_list : (text : List ℕ) (first at : ℕ) (xs ys : List Token) → TokensFrom text first at xs → TokensFrom text first at ys → xs ≡ ys
one_list text first at xs ys (TokensFrom.ended c) (TokensFrom.ended d) = refl
one_list text first at xs ys (TokensFrom.ended c) (TokensFrom.blank d k) = cc
one_list text first at xs ys (TokensFrom.ended c) (TokensFrom.token d k) = cc
one_list text first at xs ys (TokensFrom.blank c h) (TokensFrom.ended d) = cc
one_list text first at xs ys (TokensFrom.blank {n = m} c h) (TokensFrom.blank {n = n} d k) =
    one_list text first (at + m) xs ys h (subst (λ i. TokensFrom text first (at + i) ys) (same_blank _ m n c d) k)
one_list text first at xs ys (TokensFrom.blank c h) (TokensFrom.token d k) = cc
one_list text first at xs ys (TokensFrom.token c h) (TokensFrom.ended d) = cc
one_list text first at xs ys (TokensFrom.token c h) (TokensFrom.blank d k) = cc
one_list text first at xs ys (TokensFrom.token {n = m} {kind = a} {tokens = others} c h) (TokensFrom.token {n = n} {kind = b} {tokens = more} d k) =
    let rest : others ≡ more = one_list text first (at + m) others more h (subst (λ i. TokensFrom text first (at + i) more) (same_length _ a b m n c d) k) in
    ap₂ (λ t l. t ∷ l)
    (ap₂ (λ s i. record { kind = s; from = at; to = at + i; line = line_at text first at }) (sym (same_kind _ a b m n c d)) (sym (same_length _ a b m n c d)))
    rest
