-- Each text has tokens, or a first line without one.
use Rattle.std.proofs.Common.{◌≡◌, ◌∙◌, ◌⊎◌, ◌<◌, ◌≤◌, ℕ, zero, suc, ◌+◌, Bool, true, false, cond, List, [], ◌∷◌, length, take, drop, map, refl, sym, ap, subst, inl, inr, arith}
use Rattle.std.specs.Prelude.{Option, Some, None, if◌then◌else◌, nat_lt, nat_le, ◌==◌, ◌||◌, ◌&&◌, slice_index}
use Rattle.std.specs.Char.{is_ascii_alphabetic}
use Rattle.std.specs.List.{prefix_len}
use Rattle.std.proofs.lemmas.List.{drop_all}
use Rattle.fin_lex.specs.Laws.{TokensOrBreach}
use Rattle.fin_lex.specs.Piece.{cut, is_in, named, number, place, small, symbol, symbolic, updated, value_of, valued, word}
use Rattle.fin_lex.specs.Tokens.{BreaksFrom, TokensFrom, line_at}
use Rattle.fin_lex.specs.declared.piece.Class.TheVariants as class
use Rattle.fin_lex.specs.declared.piece.Piece.{Piece}
use Rattle.fin_lex.specs.declared.piece.Piece.TheVariants as piece
use Rattle.fin_lex.specs.declared.tables.TheConstants.{RESERVED, SYMBOLS, WORD_SYMBOLS}
use Rattle.fin_lex.specs.declared.token.Token.{Token}

-- ---- each piece has a byte

abbrev Moves : Piece → Type 0
Moves (piece.Blank n) = 0 < n
Moves (piece.Token kind n) = 0 < n
Moves piece.End = Unit {0}
Moves piece.Bad = Unit {0}

chosen : (b : Bool) (p q : Piece) → (b ≡ true → Moves p) → (b ≡ false → Moves q) → Moves (if b then p else q)
chosen true p q h k = h refl
chosen false p q h k = k refl

moves_named : (o : Option ℕ) (n : ℕ) → 0 < n → Moves (named o n)
moves_named (Some k) n h = h
moves_named None n h = h

moves_updated : (o : Option ℕ) (p : Piece) (n : ℕ) → Moves p → Moves (updated o p n)
moves_updated (Some k) p n h = omega arith
moves_updated None p n h = h

moves_valued : (o : Option ℕ) (n : ℕ) → 0 < n → Moves (valued o n)
moves_valued (Some v) n h = h
moves_valued None n h = tt

moves_symbolic : (o : Option ℕ) (n : ℕ) (p : Piece) → 0 < n → Moves p → Moves (symbolic o n p)
moves_symbolic (Some k) n p h m = h
moves_symbolic None n p h m = m

first_in : (test : ℕ → Bool) (b : ℕ) (bs : List ℕ) → test b ≡ true → 0 < prefix_len test (b ∷ bs)
first_in test b bs h = subst (λ (c : Bool). 0 < cond c (1 + prefix_len test bs) 0) (sym h) (omega arith)

moves_word : (z : List ℕ) → 0 < prefix_len (is_in class.Word) z → Moves (word z)
unfolding word
moves_word z h =
    let n = prefix_len (is_in class.Word) z in
    let plain = named (place 0 (map (λ w. w.now) RESERVED) (take n z)) n in
    let other = moves_named (place 0 (map (λ w. w.now) RESERVED) (take n z)) n h in
    chosen (nat_lt 32 n) piece.Bad _ (λ e. tt)
    (λ e. chosen (slice_index z n == 61) (updated (place 0 (map (λ w. w.now) WORD_SYMBOLS) (take n z)) plain n) plain (λ f. moves_updated _ plain n other) (λ f. other))

moves_number : (z : List ℕ) → 0 < prefix_len (is_in class.Digit) z → Moves (number z)
unfolding number
moves_number z h =
    let n = prefix_len (is_in class.Digit) z in
    chosen (is_ascii_alphabetic (slice_index z n) || (slice_index z 0 == 48 && nat_lt 1 n)) piece.Bad (valued (small (value_of (take n z))) n) (λ e. tt) (λ e. moves_valued _ n h)

moves_symbol : (z : List ℕ) → Moves (symbol z)
unfolding symbol
moves_symbol z =
    let at = λ (n : ℕ). place 0 (map (λ w. w.now) SYMBOLS) (take n z) in
    let one = moves_symbolic (at 1) 1 piece.Bad (omega arith) tt in
    chosen (nat_le 2 (length z)) (symbolic (at 2) 2 (symbolic (at 1) 1 piece.Bad)) (symbolic (at 1) 1 piece.Bad) (λ e. moves_symbolic (at 2) 2 (symbolic (at 1) 1 piece.Bad) (omega arith) one) (λ e. one)

moves_cut : (z : List ℕ) → Moves (cut z)
unfolding cut
moves_cut [] = tt
moves_cut (b ∷ bs) =
    chosen (b == 32 || b == 9 || b == 10) (piece.Blank 1) _ (λ e. omega arith)
    (λ e. chosen (b == 35) (piece.Blank (1 + prefix_len (is_in class.Line) bs)) _ (λ f. omega arith)
    (λ f. chosen (is_in class.Digit b) (number (b ∷ bs)) _ (λ g. moves_number (b ∷ bs) (first_in (is_in class.Digit) b bs g))
    (λ g. chosen (is_in class.Word b) (word (b ∷ bs)) (symbol (b ∷ bs)) (λ w. moves_word (b ∷ bs) (first_in (is_in class.Word) b bs w)) (λ w. moves_symbol (b ∷ bs)))))

cut_none : cut [] ≡ piece.End
unfolding cut
cut_none = refl

-- ---- from a place on

abbrev Decided : List ℕ → ℕ → ℕ → Type 0
Decided text first at = ((tokens : List Token) × TokensFrom text first at tokens) ⊎ ((line : ℕ) × BreaksFrom text first at line)

by_piece : (text : List ℕ) (first at : ℕ) (p : Piece) → cut (drop at text) ≡ p → Moves p → ((n : ℕ) → 0 < n → Decided text first (at + n)) → Decided text first at
by_piece text first at piece.End e moves next = inl ([], TokensFrom.ended e)
by_piece text first at piece.Bad e moves next = inr (line_at text first at, BreaksFrom.bad e)
by_piece text first at (piece.Blank n) e moves next = elim (next n moves) [
  | inl h ↦ inl (h.0, TokensFrom.blank e h.1)
  | inr h ↦ inr (h.0, BreaksFrom.after_blank e h.1)
]
by_piece text first at (piece.Token kind n) e moves next = elim (next n moves) [
  | inl h ↦ inl (record { kind = kind; from = at; to = at + n; line = line_at text first at } ∷ h.0, TokensFrom.token e h.1)
  | inr h ↦ inr (h.0, BreaksFrom.after_token e h.1)
]

-- by what is left at most
decided : (text : List ℕ) (first left at : ℕ) → length text ≤ at + left → Decided text first at
decided text first zero at h = inl ([], TokensFrom.ended (ap cut (drop_all at text (omega arith)) ∙ cut_none))
decided text first (suc left) at h =
    by_piece text first at (cut (drop at text)) refl (moves_cut (drop at text)) (λ n some. decided text first left (at + n) (omega arith))

pub tokens_or_breach : TokensOrBreach
tokens_or_breach text first = decided text first (length text) 0 (omega arith)
