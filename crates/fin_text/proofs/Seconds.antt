-- The word behind a line's first space.
use Rattle.std.proofs.Common.{◌≡◌, ◌≢◌, ℕ, ℤ, ◌<◌, ◌^◌, List, [], ◌∷◌, ◌++◌, length, drop, sym, ap, ◌∙◌, subst, arith, Result, Ok, Err, Option, Some, None, MatchOption}
use Rattle.std.specs.Prelude.{All, IfOk}
use Rattle.std.proofs.lemmas.List.{append-nil}
use Rattle.std.proofs.lemmas.List.Elements.{All-head, All-weaker}
use Rattle.std.specs.Fmt.{decimal}
use Rattle.std.specs.Str.Parse.{AllDigits}
use Rattle.fin_base.specs.Words.{IsWord}
use Rattle.fin_text.specs.DueLines.{HasOneWord, TellsOther, TellsPart, TellsSizes, TellsValues}
use Rattle.fin_text.specs.Numbers.{IsSize, EndsWord, LeadsWell, IsInWord, ReadsWords, spaced_sizes, spelled}
use Rattle.fin_text.proofs.Reading.{one_cut, words_end, spaced_one_to_one, spaced_sizes_one_to_one}
use Rattle.fin_text.proofs.Spellings.{decimal_in_word}

abbrev pub IsSecond : List ℕ → List ℕ → List ℕ → Type 0
IsSecond after w r = (after ≡ 32 ∷ (w ++ r)) × All (λ b. b ≢ 32) w × EndsWord r

pub one_second : (after w r w' r' : List ℕ) → IsSecond after w r → IsSecond after w' r' → (w ≡ w') × (r ≡ r')
one_second after w r w' r' (e, spaceless, ends) (e', spaceless', ends') = one_cut w r w' r' spaceless spaceless' ends ends' (ap (drop 1) (sym e ∙ e'))

pub one_word_is : (after w r : List ℕ) → IsSecond after w r → HasOneWord after → (0 < length w) × (length r ≡ 0)
one_word_is after w r is (only, e, spaceless, long) =
    let (same, none) = one_second after w r only [] is (e ∙ ap (λ t. 32 ∷ t) (sym (append-nil only)), spaceless, tt) in
    (omega (arith, ap length same, long), ap length none)

pub is_one_word : (after w r : List ℕ) → IsSecond after w r → length r ≡ 0 → after ≡ 32 ∷ w
is_one_word after w [] is none = is.0 ∙ ap (λ t. 32 ∷ t) (append-nil w)
is_one_word after w (b ∷ r) is none = absurd (omega arith)

pub tells_other : (number : ℕ) (after w r : List ℕ) → IsSecond after w r → AllDigits 10 w × LeadsWell w × (w ≢ decimal number) → TellsOther number after
tells_other number after w r is h = (w, r, is.0, is.1, is.2, h.0, h.1, h.2)

pub told_other : (number : ℕ) (after w r : List ℕ) → IsSecond after w r → TellsOther number after → AllDigits 10 w × LeadsWell w × (w ≢ decimal number)
told_other number after w r is (w', r', e, spaceless, ends, digits, leads, other) =
    subst (λ t. AllDigits 10 t × LeadsWell t × (t ≢ decimal number)) (sym (one_second after w r w' r' is (e, spaceless, ends)).0) (digits, leads, other)

pub part_second : (number : ℕ) (after ns : List ℕ) → number < 2 ^ 64 → TellsPart number after ns → IsSecond after (decimal number) (spaced_sizes ns)
part_second number after ns small (e, fits) = (e, All-weaker IsInWord (λ b. b ≢ 32) (λ b p. p.0) (decimal number) (decimal_in_word number small), words_end decimal IsSize ns)

pub no_part : (number : ℕ) (after w r : List ℕ) → number < 2 ^ 64 → IsSecond after w r → (w ≢ decimal number) → (ns : List ℕ) → ¬ (TellsPart number after ns)
no_part number after w r small is other ns h = other (one_second after w r (decimal number) (spaced_sizes ns) is (part_second number after ns small h)).0

pub reads_part : (number : ℕ) (after w r : List ℕ) → number < 2 ^ 64 → IsSecond after w r → w ≡ decimal number → (read : Option (List ℕ)) → ReadsWords decimal IsSize r read
    → MatchOption read ((ns : List ℕ) → ¬ (TellsPart number after ns)) (λ ns. TellsPart number after ns)
reads_part number after w r small is same None none = λ ns h.
    none ns h.1 (one_second after w r (decimal number) (spaced_sizes ns) is (part_second number after ns small h)).1
reads_part number after w r small is same (Some ns) h = (is.0 ∙ ap (λ t. 32 ∷ (t ++ r)) same ∙ ap (λ t. 32 ∷ (decimal number ++ t)) h.0, h.1)

pub no_second : (number : ℕ) (after : List ℕ) → ((bytes : List ℕ) → after ≢ 32 ∷ bytes) → (ns : List ℕ) → ¬ (TellsPart number after ns)
no_second number after none ns h = none (decimal number ++ spaced_sizes ns) h.0

pub reads_part_ok : {E : Type 0} (number : ℕ) (after w r : List ℕ) → number < 2 ^ 64 → IsSecond after w r → w ≡ decimal number → (result : Result (Option (List ℕ)) E) → IfOk result (ReadsWords decimal IsSize r)
    → IfOk result (λ read. MatchOption read ((ns : List ℕ) → ¬ (TellsPart number after ns)) (λ ns. TellsPart number after ns))
reads_part_ok number after w r small is same (Ok read) h = reads_part number after w r small is same read h
reads_part_ok number after w r small is same (Err e) h = tt

-- an answer that is there, or isn't
pub none_of : {A : Type 0} (P : Type 0) (Q : A → Type 0) (o : Option A) → MatchOption o P Q → o ≡ None → P
none_of P Q None h e = h
none_of P Q (Some x) h e = absurd (cc)

pub some_of : {A : Type 0} (P : Type 0) (Q : A → Type 0) (o : Option A) (x : A) → MatchOption o P Q → o ≡ Some x → Q x
some_of P Q None x h e = absurd (cc)
some_of P Q (Some y) x h e = let k : y ≡ x = cc in subst Q k h

pub no_fill : (after w : List ℕ) → after ≡ 32 ∷ w → ((v : ℤ) → IsWord v → w ≢ spelled v) → ¬ ((v : ℤ) × TellsValues after (v ∷ []))
no_fill after w e none (v, (is, fits)) = none v (All-head IsWord v [] fits) (ap (drop 1) (sym e ∙ is) ∙ append-nil (spelled v))

-- numbers that don't fit, and no others stand there

pub unfit_values : (after : List ℕ) (vs : List ℤ) (P : List ℤ → Type 0) → TellsValues after vs → ¬ (P vs) → ¬ ((ws : List ℤ) × TellsValues after ws × P ws)
unfit_values after vs P is none (ws, also, h) = none (subst P (spaced_one_to_one ws vs also.1 is.1 (sym also.0 ∙ is.0)) h)

pub unfit_sizes : (after ns : List ℕ) (P : List ℕ → Type 0) → TellsSizes after ns → ¬ (P ns) → ¬ ((ms : List ℕ) × TellsSizes after ms × P ms)
unfit_sizes after ns P is none (ms, also, h) = none (subst P (spaced_sizes_one_to_one ms ns also.1 is.1 (sym also.0 ∙ is.0)) h)

pub unfit_part : (k : ℕ) (after ns : List ℕ) (P : List ℕ → Type 0) → k < 2 ^ 64 → TellsPart k after ns → ¬ (P ns) → ¬ ((ms : List ℕ) × TellsPart k after ms × P ms)
unfit_part k after ns P small is none (ms, also, h) =
    let same = (one_second after (decimal k) (spaced_sizes ms) (decimal k) (spaced_sizes ns) (part_second k after ms small also) (part_second k after ns small is)).1 in
    none (subst P (spaced_sizes_one_to_one ms ns also.1 is.1 same) h)

pub no_parts : (number k : ℕ) (after : List ℕ) (o : Option (List ℕ)) → number ≡ k → MatchOption o ((ns : List ℕ) → ¬ (TellsPart number after ns)) (λ ns. TellsPart number after ns) → o ≡ None → ¬ ((ns : List ℕ) × TellsPart k after ns)
no_parts number k after o e h is (ns, told) = none_of ((ns : List ℕ) → ¬ (TellsPart number after ns)) (λ ns. TellsPart number after ns) o h is ns (subst (λ (n : ℕ). TellsPart n after ns) (sym e) told)

pub some_parts : (number k : ℕ) (after : List ℕ) (o : Option (List ℕ)) (ns : List ℕ) → number ≡ k → MatchOption o ((ns : List ℕ) → ¬ (TellsPart number after ns)) (λ ns. TellsPart number after ns) → o ≡ Some ns → TellsPart k after ns
some_parts number k after o ns e h is = subst (λ (n : ℕ). TellsPart n after ns) e (some_of ((ns : List ℕ) → ¬ (TellsPart number after ns)) (λ ns. TellsPart number after ns) o ns h is)

pub not_other : (number k : ℕ) (after : List ℕ) → number ≡ k → ¬ (TellsOther number after) → ¬ (TellsOther k after)
not_other number k after e none h = none (subst (λ (n : ℕ). TellsOther n after) (sym e) h)
