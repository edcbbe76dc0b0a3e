-- What words and numbers of a line are can be decided.
use Rattle.std.proofs.Common.{◌≡◌, ◌≢◌, ◌∙◌, ◌⊎◌, ◌<◌, ◌≤◌, ◌^◌, ◌-◌, ℕ, zero, suc, ◌+◌, ℤ, pos, negsuc, Bool, true, List, [], ◌∷◌, ◌++◌, length, drop, refl, sym, ap, subst, inl, inr, arith, ⊎_elim, length-append, bytes_eq}
use Rattle.std.specs.Prelude.{All, Contains, slice_index}
use Rattle.std.specs.Bool.{Decides}
use Rattle.std.specs.Char.{digit_value}
use Rattle.std.specs.Fmt.{decimal}
use Rattle.std.specs.Str.Parse.{AllDigits, digits_value}
use Rattle.std.proofs.lemmas.Bool.{cases_Bool, cases_eq, cases_lt}
use Rattle.std.proofs.lemmas.Fmt.{decimal_injective}
use Rattle.std.proofs.lemmas.Str.Parse.{digit_from_value}
use Rattle.fin_text.proofs.WordLines.{value_some}
use Rattle.std.proofs.lemmas.List.Elements.{All-nil, All-cons, All-head, All-tail}
use Rattle.std.proofs.lemmas.Map.Made.{is_member-Decides}
use Rattle.std.proofs.lemmas.Slice.Eq.{bytes_eq-Decides}
use Rattle.fin_base.specs.Words.{IsWord}
use Rattle.fin_text.specs.DueLines.{HasNoEmptyWord, HasOneWord, TellsSizes, TellsValues}
use Rattle.fin_text.specs.Names.{IsName, begins_name, continues_name, reserved_words}
use Rattle.fin_text.specs.Numbers.{IsFirstWord, IsSize, IsSpelling, LeadsWell, spelled, words}
use Rattle.fin_text.proofs.Digits.{decimal_leads_well, digits_of_decimal, is_decimal}
use Rattle.fin_text.proofs.Reading.{first_number, no_other_byte}
use Rattle.fin_text.proofs.Spellings.{size_is_spelling, value_is_spelling}

abbrev pub Decided : Type 0 → Type 0
Decided P = P ⊎ (¬ P)

-- ---- of parts

pub like : {P Q : Type 0} → (P → Q) → (Q → P) → Decided P → Decided Q
like f g (inl p) = inl (f p)
like f g (inr n) = inr (λ q. n (g q))

-- of two, where the first holds
pub both : {P Q : Type 0} → Decided P → (P → Decided Q) → Decided (P × Q)
both (inl p) q = like (λ h. (p, h)) (λ h. h.1) (q p)
both (inr n) q = inr (λ h. n h.0)

pub follows : {P Q : Type 0} → Decided P → (P → Decided Q) → Decided (P → Q)
follows (inl p) q = like (λ h r. h) (λ h. h p) (q p)
follows (inr n) q = inl (λ p. absurd (n p))

pub none : {P : Type 0} → Decided P → Decided (¬ P)
none (inl p) = inr (λ n. n p)
none (inr n) = inl n

by_test : {P : Type 0} (b : Bool) → Decides b P → Decided P
by_test b d = ⊎_elim (λ h. inl (d.0 h)) (λ h. inr (λ p. let t = d.1 p in cc)) (cases_Bool b)

holds : (b : Bool) → Decided (b ≡ true)
holds b = ⊎_elim (λ h. inl h) (λ h. inr (λ p. cc)) (cases_Bool b)

pub equal : (a b : ℕ) → Decided (a ≡ b)
equal a b = cases_eq a b

pub less : (a b : ℕ) → Decided (a < b)
less a b = ⊎_elim (λ (h : a < b). inl h) (λ (h : b ≤ a). inr (λ p. omega (arith, h, p))) (cases_lt a b)

pub at_most : (a b : ℕ) → Decided (a ≤ b)
at_most a b = ⊎_elim (λ (h : b < a). inr (λ p. omega (arith, h, p))) (λ (h : a ≤ b). inl h) (cases_lt b a)

pub same_text : (x y : List ℕ) → Decided (x ≡ y)
same_text x y = by_test (bytes_eq x y) (bytes_eq-Decides x y)

pub listed : (xs : List (List ℕ)) (x : List ℕ) → Decided (Contains xs x)
listed xs x = by_test _ (is_member-Decides bytes_eq-Decides xs x)

module _ (P : ℕ → Type 0) (each : (k : ℕ) → Decided (P k)) where
  pub below : (n : ℕ) → Decided ((k : ℕ) → k < n → P k)
  below zero = inl (λ k h. absurd (omega (arith, h)))
  below (suc n) = like
      (λ (h : ((k : ℕ) → k < n → P k) × P n) k lt. ⊎_elim (λ (e : k ≡ n). subst P (sym e) h.1) (λ (o : k ≢ n). h.0 k (omega (arith, lt, o))) (cases_eq k n))
      (λ h. (λ k lt. h k (omega (arith, lt)), h n (omega arith)))
      (both (below n) (λ _. each n))

  all : (xs : List ℕ) → Decided (All P xs)
  all [] = inl (All-nil P)
  all (x ∷ xs) = like (λ h. All-cons P x xs h.0 h.1) (λ h. (All-head P x xs h, All-tail P x xs h)) (both (each x) (λ _. all xs))

-- ---- words

no_space : (bs : List ℕ) → Decided (All (λ b. b ≢ 32) bs)
no_space bs = all (λ b. b ≢ 32) (λ b. none (equal b 32)) bs

-- a line begins with a word
pub first_word : (bytes : List ℕ) → (word : List ℕ) × (after : List ℕ) × IsFirstWord bytes word after
first_word [] = ([], [], record { whole = refl; spaceless = All-nil _; ends = tt })
first_word (b ∷ bs) = ⊎_elim
    (λ (space : b ≡ 32). ([], b ∷ bs, record { whole = refl; spaceless = All-nil _; ends = space }))
    (λ (other : b ≢ 32).
    let f = first_word bs in
    (b ∷ f.0, f.1, record { whole = ap (λ l. b ∷ l) f.2.whole; spaceless = All-cons (λ c. c ≢ 32) b f.0 other f.2.spaceless; ends = f.2.ends }))
    (cases_eq b 32)

pub no_empty_word : (after : List ℕ) → Decided (HasNoEmptyWord after)
no_empty_word after =
    below (λ k. slice_index after k ≡ 32 → (k + 1 < length after) × (slice_index after (k + 1) ≢ 32))
    (λ k. follows (equal (slice_index after k) 32) (λ _. both (less (k + 1) (length after)) (λ _. none (equal (slice_index after (k + 1)) 32)))) (length after)

pub one_word : (after : List ℕ) → Decided (HasOneWord after)
one_word [] = inr (λ h. let e = h.1 in cc)
one_word (b ∷ bs) = like
    (λ h. (bs, ap (λ c. c ∷ bs) h.0, h.1.0, h.1.1))
    (λ h. let e = h.1 in let first : b ≡ 32 = cc in let rest : bs ≡ h.0 = ap (drop 1) e in (first, (subst (All (λ c. c ≢ 32)) (sym rest) h.2, subst (λ (l : List ℕ). 0 < length l) (sym rest) h.3)))
    (both (equal b 32) (λ _. both (no_space bs) (λ _. less 0 (length bs))))

name : (word : List ℕ) → Decided (IsName word)
name word = like
    (λ h. record { begins = h.0; continues = h.1.0; short = h.1.1.0; free = h.1.1.1 })
    (λ h. (h.begins, (h.continues, (h.short, h.free))))
    (both (holds (begins_name (slice_index word 0)))
    (λ _. both (all (λ b. continues_name b ≡ true) (λ b. holds (continues_name b)) word) (λ _. both (at_most (length word) 32) (λ _. none (listed reserved_words word)))))

pub name_behind : (after : List ℕ) → Decided ((word : List ℕ) × (after ≡ 32 ∷ word) × IsName word)
name_behind [] = inr (λ h. let e = h.1 in cc)
name_behind (b ∷ bs) = like
    (λ h. (bs, ap (λ c. c ∷ bs) h.0, h.1))
    (λ h. let e = h.1 in let first : b ≡ 32 = cc in let rest : bs ≡ h.0 = ap (drop 1) e in (first, subst IsName (sym rest) h.2))
    (both (equal b 32) (λ _. name bs))

-- ---- numbers

pub digits : (ds : List ℕ) → Decided (AllDigits 10 ds)
digits [] = inl tt
digits (d ∷ ds) = both (less (digit_value d) 10) (λ _. digits ds)

pub leads_well : (ds : List ℕ) → Decided (LeadsWell ds)
leads_well ds = both (less 0 (length ds)) (λ _. follows (equal (slice_index ds 0) 48) (λ _. equal (length ds) 1))

-- a number up to a greatest one
number : (most : ℕ) → most < 2 ^ 64 → (ds : List ℕ) → Decided ((n : ℕ) × (n ≤ most) × (ds ≡ decimal n))
number most small ds = like
    (λ h. (digits_value 10 ds, h.1.1, is_decimal ds (digits_value 10 ds) h.0 h.1.0 refl (omega (arith, h.1.1, small))))
    (λ h. let d = digits_of_decimal ds h.0 (omega (arith, h.1, small)) h.2 in
    (d.0, (subst LeadsWell (sym h.2) (decimal_leads_well h.0 (omega (arith, h.1, small))), subst (λ (m : ℕ). m ≤ most) (sym d.1) h.1)))
    (both (digits ds) (λ _. both (leads_well ds) (λ _. at_most (digits_value 10 ds) most)))

pub size : (word : List ℕ) → Decided ((n : ℕ) × IsSize n × (word ≡ decimal n))
size word = number (2 ^ 40) (omega arith) word

-- a magnitude behind a minus
magnitude : (ds : List ℕ) → Decided ((n : ℕ) × (n < 2 ^ 63) × (ds ≡ decimal (suc n)))
magnitude ds = by_number (number (2 ^ 63) (omega arith) ds)
  where
    by_number : Decided ((m : ℕ) × (m ≤ 2 ^ 63) × (ds ≡ decimal m)) → Decided ((n : ℕ) × (n < 2 ^ 63) × (ds ≡ decimal (suc n)))
    by_number (inr none) = inr (λ h. none (suc h.0, omega (arith, h.1), h.2))
    by_number (inl (zero, small, e)) = inr (λ h. omega (arith, decimal_injective 0 (suc h.0) (omega arith) (omega (arith, h.1)) (sym e ∙ h.2)))
    by_number (inl (suc n, small, e)) = inl (n, omega (arith, small), e)

value : (word : List ℕ) → Decided ((v : ℤ) × IsWord v × (word ≡ spelled v))
value [] = inr (λ h. omega (arith, value_some h.0 h.1, ap length h.2))
value (b ∷ bs) = ⊎_elim
    (λ (minus : b ≡ 45). like
    (λ (h : (n : ℕ) × (n < 2 ^ 63) × (bs ≡ decimal (suc n))). (negsuc h.0, is_word_below h.0 h.1, ap (λ c. c ∷ bs) minus ∙ ap (λ l. 45 ∷ l) h.2))
    (λ (h : (v : ℤ) × IsWord v × (b ∷ bs ≡ spelled v)). behind minus h.0 h.1 h.2)
    (magnitude bs))
    (λ (other : b ≢ 45). like
    (λ (h : (n : ℕ) × (n ≤ 2 ^ 63 - 1) × (b ∷ bs ≡ decimal n)). (pos h.0, is_word h.0 h.1, h.2))
    (λ (h : (v : ℤ) × IsWord v × (b ∷ bs ≡ spelled v)). plain other h.0 h.1 h.2)
    (number (2 ^ 63 - 1) (omega arith) (b ∷ bs)))
    (cases_eq b 45)
  where
    is_word : (n : ℕ) → n ≤ 2 ^ 63 - 1 → IsWord (pos n)
    is_word n h = omega (arith, h)

    is_word_below : (n : ℕ) → n < 2 ^ 63 → IsWord (negsuc n)
    is_word_below n h = omega (arith, h)

    behind : b ≡ 45 → (v : ℤ) → IsWord v → b ∷ bs ≡ spelled v → (n : ℕ) × (n < 2 ^ 63) × (bs ≡ decimal (suc n))
    behind minus (pos n) fits e =
        let all = (digits_of_decimal (b ∷ bs) n (omega (arith, fits)) e).0 in
        absurd (omega (arith, digit_from_value b all.0, minus))
    behind minus (negsuc n) fits e = (n, omega (arith, fits), ap (drop 1) e)

    plain : (b ≢ 45) → (v : ℤ) → IsWord v → b ∷ bs ≡ spelled v → (n : ℕ) × (n ≤ 2 ^ 63 - 1) × (b ∷ bs ≡ decimal n)
    plain other (pos n) fits e = (n, omega (arith, fits), e)
    plain other (negsuc n) fits e = absurd (other (let k = e in cc))

-- ---- the words of a line

module _ {A : Type 0} (word : A → List ℕ) (Fits : A → Type 0) (laws : IsSpelling word Fits) (one : (w : List ℕ) → Decided ((v : A) × Fits v × (w ≡ word v))) where
  abbrev pub Spells : List ℕ → Type 0
  Spells line = (vs : List A) × (line ≡ words word vs) × All Fits vs

  -- by how long it is at most
  spells : (most : ℕ) (line : List ℕ) → length line < most → Decided (Spells line)
  spells zero line h = absurd (omega (arith, h))
  spells (suc most) [] h = inl ([], refl, All-nil Fits)
  spells (suc most) (b ∷ bs) h = ⊎_elim
      (λ (space : b ≡ 32).
      let f = first_word bs in
      ⊎_elim
      (λ (o : (v : A) × Fits v × (f.0 ≡ word v)). like
      (λ (r : Spells f.1). (
        o.0 ∷ r.0,
        ap (λ c. c ∷ bs) space ∙ ap (λ l. 32 ∷ l) f.2.whole ∙ ap (λ w. 32 ∷ (w ++ f.1)) o.2 ∙ ap (λ t. 32 ∷ (word o.0 ++ t)) r.1,
        All-cons Fits o.0 r.0 o.1 r.2,
      ))
      (λ (s : Spells (b ∷ bs)). rest_of space s)
      (spells most f.1 (omega (arith, h, ap length f.2.whole, length-append f.0 f.1))))
      (λ (n : ¬ ((v : A) × Fits v × (f.0 ≡ word v))). inr (λ s. n (first_of space s)))
      (one f.0))
      (λ (other : b ≢ 32). inr (λ s. no_other_byte word Fits laws b bs s.0 other s.1))
      (cases_eq b 32)
    where
      parts_of : b ≡ 32 → (s : Spells (b ∷ bs)) → (u : A) × (ws : List A) × (s.0 ≡ u ∷ ws) × Fits u × All Fits ws × ((first_word bs).0 ≡ word u) × ((first_word bs).1 ≡ words word ws)
      parts_of space s = first_number word Fits laws bs (first_word bs).0 (first_word bs).1 s.0 (first_word bs).2 s.2 (ap (λ c. c ∷ bs) (sym space) ∙ s.1)

      rest_of : b ≡ 32 → Spells (b ∷ bs) → Spells (first_word bs).1
      rest_of space s = let p = parts_of space s in (p.1, p.6, p.4)

      first_of : b ≡ 32 → Spells (b ∷ bs) → (v : A) × Fits v × ((first_word bs).0 ≡ word v)
      first_of space s = let p = parts_of space s in (p.0, p.3, p.5)

  pub spelled_line : (line : List ℕ) → Decided (Spells line)
  spelled_line line = spells (suc (length line)) line (omega arith)

pub sizes : (after : List ℕ) → Decided ((ns : List ℕ) × TellsSizes after ns)
sizes after = like (λ h. (h.0, (h.1, h.2))) (λ h. (h.0, h.1.0, h.1.1)) (spelled_line decimal IsSize size_is_spelling size after)

pub values : (after : List ℕ) → Decided ((vs : List ℤ) × TellsValues after vs)
values after = like (λ h. (h.0, (h.1, h.2))) (λ h. (h.0, h.1.0, h.1.1)) (spelled_line spelled IsWord value_is_spelling value after)
