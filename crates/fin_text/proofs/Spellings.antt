-- Decimals are told from each other, and from spaces and newlines.
use Rattle.std.proofs.Common.{◌≡◌, ℕ, suc, ◌^◌, ◌<◌, ℤ, pos, negsuc, List, [], ◌∷◌, arith}
use Rattle.std.specs.Prelude.{All}
use lib.Signed.{mag}
use Rattle.std.specs.Fmt.{decimal}
use Rattle.std.specs.Str.Parse.{AllDigits}
use Rattle.std.proofs.lemmas.Fmt.{decimal_is_IsNumeral, decimal_injective, signed_decimal_injective}
use Rattle.std.proofs.lemmas.List.Elements.{All-nil, All-cons}
use Rattle.std.proofs.lemmas.Str.Parse.{digit_from_value}
use Rattle.fin_base.specs.Words.{IsWord}
use Rattle.fin_text.specs.Numbers.{IsSize, IsInWord, IsSpelling, spelled}

digits_in_word : (ds : List ℕ) → AllDigits 10 ds → All IsInWord ds
digits_in_word [] all = All-nil IsInWord
digits_in_word (d ∷ ds) all =
    let is = digit_from_value d all.0 in
    All-cons IsInWord d ds (λ e. omega arith, λ e. omega arith) (digits_in_word ds all.1)

pub decimal_in_word : (n : ℕ) → n < 2 ^ 64 → All IsInWord (decimal n)
decimal_in_word n h = digits_in_word (decimal n) (decimal_is_IsNumeral n h).0.1

pub spelled_in_word : (v : ℤ) → IsWord v → All IsInWord (spelled v)
spelled_in_word (pos n) h = decimal_in_word n (omega arith)
spelled_in_word (negsuc n) h = All-cons IsInWord 45 (decimal (suc n)) (λ e. omega arith, λ e. omega arith) (decimal_in_word (suc n) (omega arith))

pub spelled_one_to_one : (v w : ℤ) → IsWord v → IsWord w → spelled v ≡ spelled w → v ≡ w
spelled_one_to_one v w p q e = signed_decimal_injective v w (small v p) (small w q) e
  where
    small : (z : ℤ) → IsWord z → mag z < 2 ^ 63
    small (pos n) h = omega arith
    small (negsuc n) h = omega arith

pub size_is_spelling : IsSpelling decimal IsSize
size_is_spelling = record {
  in_word = λ n h. decimal_in_word n (omega arith);
  one_to_one = λ m n p q e. decimal_injective m n (omega arith) (omega arith) e;
}

pub value_is_spelling : IsSpelling spelled IsWord
value_is_spelling = record { in_word = spelled_in_word; one_to_one = spelled_one_to_one }
