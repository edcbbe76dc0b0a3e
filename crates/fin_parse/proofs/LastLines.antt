-- The line of the last of some tokens, by its place.
use Rattle.std.proofs.Common.{◌≡◌, ℕ, zero, suc, ◌+◌, List, [], ◌∷◌, ◌++◌, length, slice_index_or, refl, arith}
use Rattle.fin_lex.specs.declared.token.Token.{Token}
use Rattle.fin_parse.specs.Breaches.{line_behind}

pub behind_at : (before left : List Token) (line i : ℕ) (d : Token) → i + 1 ≡ length before → (slice_index_or (before ++ left) i d).line ≡ line_behind line before
behind_at [] left line i d h = absurd (omega arith)
behind_at (t ∷ []) left line zero d h = refl
behind_at (t ∷ []) left line (suc i) d h = absurd (omega arith)
behind_at (t ∷ u ∷ us) left line zero d h = absurd (omega arith)
behind_at (t ∷ u ∷ us) left line (suc i) d h = behind_at (u ∷ us) left t.line i d (omega arith)
