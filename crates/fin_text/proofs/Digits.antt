-- When some digits are a number's decimal.
use Rattle.std.proofs.Common.{◌≡◌, ◌≢◌, ◌↔◌, ℕ, zero, suc, ◌+◌, ◌-◌, ◌*◌, ◌^◌, ◌<◌, ◌≤◌, List, [], ◌∷◌, ℤ, pos, negsuc, Option, Some, None, MatchOption, length, get_or, take, drop, drop-cons, sym, ap, ◌∙◌, subst, arith}
use Rattle.std.specs.Fmt.{decimal}
use Rattle.std.specs.Char.{digit_value}
use Rattle.std.specs.Str.Parse.{AllDigits, digits_value, digits_value_after}
use Rattle.std.proofs.lemmas.List.{take_all, drop_all}
use Rattle.std.proofs.lemmas.Fmt.{decimal_is_IsNumeral, decimal-digits_value, decimal_digit, first_decimal, decimal_nonempty, decimal_injective}
use Rattle.std.proofs.lemmas.Str.Parse.{numerals_by_value, tells_digits, digit_from_value}
use Rattle.fin_base.specs.Words.{IsWord}
use Rattle.fin_text.specs.Numbers.{LeadsWell, spelled}

-- a number grows with each further digit
grows : (ds : List ℕ) (n : ℕ) → n ≤ digits_value_after 10 n ds
grows [] n = omega arith
grows (d ∷ ds) n = omega (arith, grows ds (n * 10 + digit_value d))

pub decimal_leads_well : (n : ℕ) → n < 2 ^ 64 → LeadsWell (decimal n)
decimal_leads_well zero h = (decimal_nonempty 0 h, λ _. ap length (decimal_digit 0 (omega arith)))
decimal_leads_well (suc n) h = (decimal_nonempty (suc n) h, λ z. absurd (omega (arith, first_decimal (suc n) (omega arith) h)))

pub digits_of_decimal : (ds : List ℕ) (n : ℕ) → n < 2 ^ 64 → ds ≡ decimal n → AllDigits 10 ds × (digits_value 10 ds ≡ n)
digits_of_decimal ds n h e =
    let is = decimal_is_IsNumeral n h in
    (subst (AllDigits 10) (sym e) is.0.1, ap (digits_value 10) e ∙ is.1)

-- digits that are no decimal

pub leads_badly : (ds : List ℕ) (n : ℕ) → ¬ (LeadsWell ds) → n < 2 ^ 64 → ds ≢ decimal n
leads_badly ds n bad h e = bad (subst LeadsWell (sym e) (decimal_leads_well n h))

pub no_digit : (ds : List ℕ) (i n : ℕ) → i < length ds → (AllDigits 10 ds ↔ AllDigits 10 (drop i ds)) → 10 ≤ digit_value (get_or ds i 0) → n < 2 ^ 64 → ds ≢ decimal n
no_digit ds i n l same other h e =
    let all = same.0 (digits_of_decimal ds n h e).0 in
    let first = subst (AllDigits 10) (drop-cons ds i 0 l) all in
    omega (arith, first.0)

pub too_great : (ds : List ℕ) (i value most n : ℕ) → i < length ds → digits_value_after 10 value (drop i ds) ≡ digits_value 10 ds → most < value * 10 + digit_value (get_or ds i 0) → n < 2 ^ 64 → n ≤ most → ds ≢ decimal n
too_great ds i value most n l v big h fits e =
    let g = grows (drop (suc i) ds) (value * 10 + digit_value (get_or ds i 0)) in
    let w : digits_value_after 10 value (drop i ds) ≡ digits_value_after 10 (value * 10 + digit_value (get_or ds i 0)) (drop (suc i) ds) = ap (digits_value_after 10 value) (drop-cons ds i 0 l) in
    omega (arith, (digits_of_decimal ds n h e).1)

-- digits that are one

pub all_digits_at_end : (ds : List ℕ) (i : ℕ) → length ds ≤ i → (AllDigits 10 ds ↔ AllDigits 10 (drop i ds)) → AllDigits 10 ds
all_digits_at_end ds i end same = same.1 (subst (AllDigits 10) (sym (drop_all i ds end)) tt)

pub value_at_end : (ds : List ℕ) (i value : ℕ) → length ds ≤ i → digits_value_after 10 value (drop i ds) ≡ digits_value 10 ds → value ≡ digits_value 10 ds
value_at_end ds i value end same = ap (digits_value_after 10 value) (sym (drop_all i ds end)) ∙ same

pub is_decimal : (ds : List ℕ) (value : ℕ) → AllDigits 10 ds → LeadsWell ds → value ≡ digits_value 10 ds → value < 2 ^ 64 → ds ≡ decimal value
is_decimal ds value all lead e small = sym (ap decimal e ∙ decimal-digits_value (numerals_by_value _ tells_digits) ds all lead.0 lead.1 (omega arith))

-- the least decimal is no magnitude of a negative value
pub zero_is_no_other : (ds : List ℕ) (m n : ℕ) → m ≡ 0 → ds ≡ decimal m → n < 2 ^ 63 → ds ≢ decimal (suc n)
zero_is_no_other ds m n none e h f = omega (arith, decimal_injective m (suc n) (omega arith) (omega arith) (sym e ∙ f))

-- a word with a minus

abbrev pub SpelledBy : List ℕ → Option ℤ → Type 0
SpelledBy word r = MatchOption r ((v : ℤ) → IsWord v → word ≢ spelled v) (λ v. IsWord v × (word ≡ spelled v))

abbrev pub SpelledByMagnitude : List ℕ → Option ℤ → Type 0
SpelledByMagnitude digits r = MatchOption r ((n : ℕ) → n < 2 ^ 63 → digits ≢ decimal (suc n)) (λ v. IsWord v × (45 ∷ digits ≡ spelled v))

pub no_value : (digits : List ℕ) → ((n : ℕ) → n < 2 ^ 63 → digits ≢ decimal (suc n)) → (v : ℤ) → IsWord v → 45 ∷ digits ≢ spelled v
no_value digits none (pos n) fits e =
    let all : AllDigits 10 (45 ∷ digits) = (digits_of_decimal (45 ∷ digits) n (omega arith) e).0 in
    omega (arith, digit_from_value 45 all.0)
no_value digits none (negsuc n) fits e = none n (omega arith) (ap (drop 1) e)

by_digits : (digits : List ℕ) (r : Option ℤ) → SpelledByMagnitude digits r → SpelledBy (45 ∷ digits) r
by_digits digits None h = no_value digits h
by_digits digits (Some v) h = h

behind_first : (word : List ℕ) → get_or word 0 0 ≡ 45 → 45 ∷ take (length word - 1) (drop 1 word) ≡ word
behind_first [] minus = absurd (omega arith)
behind_first (b ∷ bs) minus = ap (λ w. w ∷ take (length (b ∷ bs) - 1) bs) (sym minus) ∙ ap (λ l. b ∷ l) (take_all (length (b ∷ bs) - 1) bs (omega arith))

pub by_magnitude : (word : List ℕ) (r : Option ℤ) → get_or word 0 0 ≡ 45 → SpelledByMagnitude (take (length word - 1) (drop 1 word)) r → SpelledBy word r
by_magnitude word r minus h = subst (λ w. SpelledBy w r) (behind_first word minus) (by_digits (take (length word - 1) (drop 1 word)) r h)
