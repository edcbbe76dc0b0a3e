-- The words of levels are told from each other.
use Rattle.std.proofs.Common.{◌≡◌, ℕ, ◌+◌, ◌-◌, ◌<◌, List, [], ◌∷◌, ◌++◌, Option, Some, None, MatchOption, Result, Ok, Err, true, codes, length, take, drop, refl, sym, ap, ◌∙◌, arith, get_or}
use Rattle.std.specs.Prelude.{All, IfOk}
use Rattle.std.specs.Str.{bytes_eq}
use Rattle.std.proofs.lemmas.Slice.Eq.{bytes_eq-Decides}
use Rattle.std.proofs.lemmas.List.{take-append-drop, append_cancel_right}
use Rattle.std.proofs.lemmas.List.Elements.{All-nil, All-cons}
use Rattle.fin_tensor.specs.declared.format.Level.{Level}
use Rattle.fin_tensor.specs.declared.format.Level.TheVariants as level
use Rattle.fin_text.specs.Numbers.{IsInWord, IsSpelling, ReadsWords, words}
use Rattle.fin_text.specs.Tensors.{level_word}

four : (a b c d : ℕ) → IsInWord a → IsInWord b → IsInWord c → IsInWord d → All IsInWord (a ∷ b ∷ c ∷ d ∷ [])
four a b c d p q r s = All-cons IsInWord a (b ∷ c ∷ d ∷ []) p (All-cons IsInWord b (c ∷ d ∷ []) q (All-cons IsInWord c (d ∷ []) r (All-cons IsInWord d [] s (All-nil IsInWord))))

letter : (n : ℕ) → 32 < n → IsInWord n
letter n h = (λ e. omega arith, λ e. omega arith)

level_in_word : (l : Level) → All IsInWord (level_word l)
level_in_word level.Dense = All-cons IsInWord 100 (101 ∷ 110 ∷ 115 ∷ 101 ∷ []) (letter 100 (omega arith)) (four 101 110 115 101 (letter 101 (omega arith)) (letter 110 (omega arith)) (letter 115 (omega arith)) (letter 101 (omega arith)))
level_in_word level.List = four 108 105 115 116 (letter 108 (omega arith)) (letter 105 (omega arith)) (letter 115 (omega arith)) (letter 116 (omega arith))
level_in_word level.Runs = four 114 117 110 115 (letter 114 (omega arith)) (letter 117 (omega arith)) (letter 110 (omega arith)) (letter 115 (omega arith))
level_in_word level.Band = four 98 97 110 100 (letter 98 (omega arith)) (letter 97 (omega arith)) (letter 110 (omega arith)) (letter 100 (omega arith))
level_in_word level.Dict = four 100 105 99 116 (letter 100 (omega arith)) (letter 105 (omega arith)) (letter 99 (omega arith)) (letter 116 (omega arith))

-- two letters of a word tell its level
abbrev level_code : Level → ℕ
level_code level.Dense = 100 + 101
level_code level.List = 108 + 105
level_code level.Runs = 114 + 117
level_code level.Band = 98 + 97
level_code level.Dict = 100 + 105

code_is : (l : Level) → get_or (level_word l) 0 0 + get_or (level_word l) 1 0 ≡ level_code l
code_is level.Dense = refl
code_is level.List = refl
code_is level.Runs = refl
code_is level.Band = refl
code_is level.Dict = refl

one_code : (l m : Level) → level_code l ≡ level_code m → l ≡ m
one_code level.Dense level.Dense e = refl
one_code level.List level.List e = refl
one_code level.Runs level.Runs e = refl
one_code level.Band level.Band e = refl
one_code level.Dict level.Dict e = refl
one_code l m e = absurd (omega (arith, e))

pub level_is_spelling : IsSpelling level_word (λ _. Unit {0})
level_is_spelling = record {
  in_word = λ l _. level_in_word l;
  one_to_one = λ l m _ _ e. one_code l m (omega (arith, code_is l, code_is m, ap (λ w. get_or w 0 0 + get_or w 1 0) e));
}

-- levels, and the word behind them

abbrev pub ReadsFormat : List ℕ → Option (List Level) → Type 0
ReadsFormat after read = MatchOption read
    ((ls : List Level) → ¬ (after ≡ words level_word ls ++ codes " element"))
    (λ ls. (after ≡ words level_word ls ++ codes " element") × ((ms : List Level) → after ≡ words level_word ms ++ codes " element" → ms ≡ ls))

front_is : (after front : List ℕ) → after ≡ front ++ codes " element" → (ls : List Level) → after ≡ words level_word ls ++ codes " element" → front ≡ words level_word ls
front_is after front e ls f = append_cancel_right front (words level_word ls) (codes " element") (sym e ∙ f)

by_front : (after front : List ℕ) → after ≡ front ++ codes " element" → (read : Option (List Level)) → ReadsWords level_word (λ _. Unit {0}) front read → ReadsFormat after read
by_front after front e None none = λ ls f. none ls (λ k d h. tt) (front_is after front e ls f)
by_front after front e (Some ls) is =
    (e ∙ ap (λ t. t ++ codes " element") is.0, λ ms f. is.2 ms (λ k d h. tt) (front_is after front e ms f))

pub reads_format : {E : Type 0} (after front : List ℕ) → bytes_eq (drop (length after - 8) after) (codes " element") ≡ true → front ≡ take (length after - 8) after → (result : Result (Option (List Level)) E)
    → IfOk result (ReadsWords level_word (λ _. Unit {0}) front) → IfOk result (ReadsFormat after)
reads_format after front same before (Err e) h = tt
reads_format after front same before (Ok read) h =
    let last = (bytes_eq-Decides (drop (length after - 8) after) (codes " element")).0 same in
    by_front after front (sym (take-append-drop (length after - 8) after) ∙ ap (λ t. take (length after - 8) after ++ t) last ∙ ap (λ t. t ++ codes " element") (sym before)) read h
