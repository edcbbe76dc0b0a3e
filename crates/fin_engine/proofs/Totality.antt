-- Each text has a program with tokens, or breaks a rule before.
use Rattle.std.proofs.Common.{◌≡◌, ◌∙◌, ◌⊎◌, ◌+◌, ℕ, Bool, true, false, List, [], ◌∷◌, ◌++◌, length, codes, refl, sym, ap, subst, inl, inr, append_assoc, append-nil}
use Rattle.std.specs.Prelude.{All}
use Rattle.std.specs.Bool.{Decides}
use Rattle.std.specs.List.{join_with_byte}
use Rattle.std.specs.Str.{bytes_eq}
use Rattle.std.proofs.lemmas.List.Elements.{All-nil, All-push}
use Rattle.std.proofs.lemmas.Slice.Eq.{bytes_eq-Decides}
use Rattle.fin_text.specs.Text.{text_of_lines}
use Rattle.fin_engine.specs.Cut.{IsBefore, IsCut, IsEndless, lines}
use Rattle.fin_engine.specs.Laws.{CutOrEndless, LexedOrBreach}
use Rattle.fin_engine.specs.Verdict.{Breaks}
use Rattle.fin_base.specs.declared.refusal.Rule.TheVariants.{J2, S1}
use Rattle.fin_lex.proofs.Totality.{tokens_or_breach}

abbrev Decided : List ℕ → Type 0
Decided text = ((program : List ℕ) × (tensors : List ℕ) × (last : ℕ) × IsCut text program tensors last) ⊎ IsEndless text

-- the next line ends the program, or the lines behind it are looked at
at_line : (text : List ℕ) (before : List (List ℕ)) (line : List ℕ) (behind : List (List ℕ)) → lines text ≡ before ++ line ∷ behind → All IsBefore before
    → (b : Bool) → Decides b (line ≡ codes "%%") → (IsBefore line → Decided text) → Decided text
at_line text before line behind e none true d next =
    let same : line ≡ codes "%%" = d.0 refl in
    inl (
      text_of_lines before,
      join_with_byte 10 behind,
      length before + 1,
      record {
        before = before;
        behind = behind;
        split = e ∙ ap (λ l. before ++ l ∷ behind) same;
        first = none;
        program_is = refl;
        tensors_is = refl;
        last_is = refl;
      },
    )
at_line text before line behind e none false d next = next (λ same. let t = d.1 same in cc)

from_line : (text : List ℕ) (before behind : List (List ℕ)) → lines text ≡ before ++ behind → All IsBefore before → Decided text
from_line text before [] e none = inr (subst (All IsBefore) (sym (e ∙ append-nil before)) none)
from_line text before (line ∷ behind) e none =
    at_line text before line behind e none (bytes_eq line (codes "%%")) (bytes_eq-Decides line (codes "%%"))
    (λ other. from_line text (before ++ line ∷ []) behind (e ∙ sym (append_assoc before (line ∷ []) behind)) (All-push IsBefore before line none other))

pub cut_or_endless : CutOrEndless
cut_or_endless text = from_line text [] (lines text) refl (All-nil IsBefore)

pub lexed_or_breach : LexedOrBreach
lexed_or_breach text = elim (cut_or_endless text) [
  | inl whole ↦
      let c = whole in
      elim (tokens_or_breach c.0 1) [
        | inl h ↦ inr (record { program = c.0; tensors = c.1; last = c.2; tokens = h.0; cut = c.3; lexed = h.1 })
        | inr h ↦ inl (S1, h.0, Breaks.no_token c.0 c.1 c.2 h.0 c.3 h.1)
      ]
  | inr endless ↦ inl (J2, 0, Breaks.endless endless)
]
