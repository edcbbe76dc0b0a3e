-- Lines of words have their form.
use Rattle.std.proofs.Common.{◌≡◌, ◌≢◌, ◌∙◌, ⊎_elim, ℕ, zero, suc, ◌+◌, ◌-◌, ◌^◌, ◌<◌, ◌≤◌, ℤ, pos, negsuc, true, nat_lt, List, [], ◌∷◌, ◌++◌, length, length-append, refl, sym, ap, subst, arith}
use Rattle.std.specs.Prelude.{All, slice_index}
use Rattle.std.specs.Cmp.{first_so, second_so}
use Rattle.std.specs.Fmt.{decimal}
use Rattle.std.specs.List.{list_all, AllPass}
use Rattle.std.proofs.lemmas.Bool.{cases_lt}
use Rattle.std.proofs.lemmas.Bool.Decides.{nat_tests}
use Rattle.std.proofs.lemmas.List.{get_or_append_left}
use Rattle.std.proofs.lemmas.List.Elements.{All-nil, All-cons, All-head, All-tail, All-weaker}
use Rattle.std.proofs.Math.Seq.{get_or-append_right}
use Rattle.std.proofs.lemmas.List.{get_or_default}
use Rattle.fin_base.specs.Words.{IsWord}
use Rattle.fin_tensor.specs.Levels.{AreSmall}
use Rattle.fin_text.specs.DueLines.{HasNoEmptyWord}
use Rattle.fin_text.specs.Names.{continues_name}
use Rattle.fin_text.specs.Numbers.{IsInWord, IsSize, IsSpelling, spaced, spaced_sizes, spelled, words}
use Rattle.fin_text.proofs.Digits.{leads_badly}
use Rattle.fin_text.proofs.Spellings.{size_is_spelling, value_is_spelling}

-- a word of letters
pub letters : (w : List ℕ) → list_all (nat_lt 32) w ≡ true → All IsInWord w
letters [] h = All-nil IsInWord
letters (b ∷ bs) h =
    let first : nat_lt 32 b ≡ true = first_so (nat_lt 32 b) (list_all (nat_lt 32) bs) h in
    let over : 32 < b = grind (arith, nat_tests) in
    All-cons IsInWord b bs (λ e. omega arith, λ e. omega arith) (letters bs (second_so (nat_lt 32 b) (list_all (nat_lt 32) bs) h))

pub spaceless : (w : List ℕ) → All IsInWord w → All (λ b. b ≢ 32) w
spaceless w h = All-weaker IsInWord (λ b. b ≢ 32) (λ b p. p.0) w h

pub newlineless : (w : List ℕ) → All IsInWord w → All (λ b. b ≢ 10) w
newlineless w h = All-weaker IsInWord (λ b. b ≢ 10) (λ b p. p.1) w h

-- a name holds no newline
name_byte : (b : ℕ) → continues_name b ≡ true → b ≢ 10
name_byte b h e = let k : continues_name 10 ≡ true = subst (λ c. continues_name c ≡ true) e h in cc

pub name_in_line : (name : List ℕ) → AllPass continues_name name → All (λ b. b ≢ 10) name
name_in_line name h = All-weaker (λ b. continues_name b ≡ true) (λ b. b ≢ 10) name_byte name h

-- no spelling is empty
pub decimal_some : (n : ℕ) → n < 2 ^ 64 → 0 < length (decimal n)
decimal_some n lt = ⊎_elim (λ (l : 0 < length (decimal n)). l) (λ (z : length (decimal n) ≤ 0). absurd (leads_badly (decimal n) n (λ w. omega (arith, w.0)) lt refl)) (cases_lt 0 (length (decimal n)))

pub size_some : (n : ℕ) → IsSize n → 0 < length (decimal n)
size_some n h = decimal_some n (omega arith)

pub value_some : (v : ℤ) → IsWord v → 0 < length (spelled v)
value_some (pos n) h = decimal_some n (omega arith)
value_some (negsuc n) h = omega arith

module _ {A : Type 0} (word : A → List ℕ) (Fits : A → Type 0) (laws : IsSpelling word Fits) (some : (v : A) → Fits v → 0 < length (word v)) where
  no_empty : (vs : List A) → All Fits vs → HasNoEmptyWord (words word vs)
  no_empty [] h k lt e = absurd (omega (arith, lt))
  no_empty (v ∷ vs) h zero lt e =
      let fits = All-head Fits v vs h in
      let long = some v fits in
      let same = get_or_append_left (word v) (words word vs) 0 0 long in
      (omega (arith, long, length-append (word v) (words word vs)), λ s. (laws.in_word v fits 0 0 long).0 (sym same ∙ s))
  no_empty (v ∷ vs) h (suc k) lt e =
      let fits = All-head Fits v vs h in
      let both = length-append (word v) (words word vs) in
      ⊎_elim
      (λ (l : k < length (word v)). absurd ((laws.in_word v fits k 0 l).0 (sym (get_or_append_left (word v) (words word vs) 0 k l) ∙ e)))
      (λ (l : length (word v) ≤ k).
      let j = k - length (word v) in
      let r = no_empty vs (All-tail Fits v vs h) j (omega (arith, lt, both)) (sym (get_or-append_right (word v) (words word vs) k 0 l) ∙ e) in
      let next : suc k + 1 ≡ suc (k + 1) = omega arith in
      let shift : (k + 1) - length (word v) ≡ j + 1 = omega arith in
      let at = get_or-append_right (word v) (words word vs) (k + 1) 0 (omega arith) ∙ ap (λ i. slice_index (words word vs) i) shift in
      (omega (arith, r.0, both), λ s. r.1 (sym at ∙ ap (λ i. slice_index (32 ∷ (word v ++ words word vs)) i) (sym next) ∙ s)))
      (cases_lt k (length (word v)))

pub sizes_form : (ns : List ℕ) → All IsSize ns → HasNoEmptyWord (spaced_sizes ns)
sizes_form = no_empty decimal IsSize size_is_spelling size_some

pub values_form : (vs : List ℤ) → All IsWord vs → HasNoEmptyWord (spaced vs)
values_form = no_empty spelled IsWord value_is_spelling value_some

pub are_sizes : (ns : List ℕ) → AreSmall ns → All IsSize ns
are_sizes ns h k d lt = subst (λ (n : ℕ). n ≤ 2 ^ 40) (get_or_default ns k 0 d lt) (h k lt)
