-- Reading the words of a line, one after another.
use Rattle.std.proofs.Common.{arith, ℤ, ◌≡◌, ◌≢◌, ℕ, List, [], ◌∷◌, ◌++◌, length, drop, Some, refl, sym, ap, ◌∙◌, append_assoc}
use Rattle.std.specs.Prelude.{All}
use Rattle.std.proofs.lemmas.List.{append-nil, flat_map_more, nil_from_length}
use Rattle.std.proofs.lemmas.List.Elements.{All-nil, All-cons, All-head, All-tail, All-push, All-append, All-weaker}
use Rattle.std.specs.Fmt.{decimal}
use Rattle.fin_base.specs.Words.{IsWord}
use Rattle.fin_text.proofs.Spellings.{size_is_spelling, value_is_spelling}
use Rattle.fin_text.specs.Numbers.{IsSize, spelled, spaced, spaced_sizes, IsInWord, IsSpelling, IsFirstWord, EndsWord, ReadsWords, words}

-- a line is cut into a first word and the rest in one way
pub one_cut : (x y x' y' : List ℕ) → All (λ b. b ≢ 32) x → All (λ b. b ≢ 32) x' → EndsWord y → EndsWord y' → x ++ y ≡ x' ++ y' → (x ≡ x') × (y ≡ y')
one_cut [] y [] y' h h' s s' e = (refl, e)
one_cut [] [] (b' ∷ x') y' h h' s s' e = absurd (let k = e in cc)
one_cut [] (b ∷ y) (b' ∷ x') y' h h' s s' e = let k : b' ≡ 32 = cc in absurd (All-head (λ b. b ≢ 32) b' x' h' k)
one_cut (b ∷ x) y [] [] h h' s s' e = absurd (let k = e in cc)
one_cut (b ∷ x) y [] (b' ∷ y') h h' s s' e = let k : b ≡ 32 = cc in absurd (All-head (λ b. b ≢ 32) b x h k)
one_cut (b ∷ x) y (b' ∷ x') y' h h' s s' e =
    let k : b ≡ b' = cc in
    let l : x ++ y ≡ x' ++ y' = cc in
    let r = one_cut x y x' y' (All-tail (λ b. b ≢ 32) b x h) (All-tail (λ b. b ≢ 32) b' x' h') s s' l in
    (let p = r.0 in cc, r.1)

module _ {A : Type 0} (word : A → List ℕ) (Fits : A → Type 0) where
  pub words_end : (vs : List A) → EndsWord (words word vs)
  words_end [] = tt
  words_end (v ∷ vs) = refl

  -- the numbers read so far are those before what is left, in each list that the line spells
  pub record Reached (line left : List ℕ) (vs : List A) : Type 0 where
    pub build : line ≡ words word vs ++ left
    pub fits : All Fits vs
    pub only : (ws : List A) → All Fits ws → line ≡ words word ws → (us : List A) × (ws ≡ vs ++ us) × (left ≡ words word us) × All Fits us

  pub start : (line : List ℕ) → Reached line line []
  start line = record { build = refl; fits = All-nil Fits; only = λ ws h e. (ws, refl, e, h) }

  module _ (laws : IsSpelling word Fits) where
    spaceless : (v : A) → Fits v → All (λ b. b ≢ 32) (word v)
    spaceless v h = All-weaker IsInWord (λ b. b ≢ 32) (λ b p. p.0) (word v) (laws.in_word v h)

    -- a space, a word and the rest are the first of some numbers and the others
    pub first_number : (behind text after : List ℕ) (us : List A) → IsFirstWord behind text after → All Fits us → 32 ∷ behind ≡ words word us
        → (u : A) × (ws : List A) × (us ≡ u ∷ ws) × Fits u × All Fits ws × (text ≡ word u) × (after ≡ words word ws)
    first_number behind text after [] cut h e = absurd (let k = e in cc)
    first_number behind text after (u ∷ ws) cut h e =
        let fits = All-head Fits u ws h in
        let k : behind ≡ word u ++ words word ws = ap (drop 1) e in
        let r = one_cut text after (word u) (words word ws) cut.spaceless (spaceless u fits) cut.ends (words_end ws) (sym cut.whole ∙ k) in
        (u, ws, refl, fits, All-tail Fits u ws h, r.0, r.1)

    pub further : {line left behind text after : List ℕ} {vs : List A} {v : A} → Reached line left vs → left ≡ 32 ∷ behind → IsFirstWord behind text after → Fits v → text ≡ word v → Reached line after (vs ++ v ∷ [])
    further {line} {left} {behind} {text} {after} {vs} {v} reached e cut fits is = record {
      build = built;
      fits = All-push Fits vs v reached.fits fits;
      only = λ ws h f.
          let (us, whole, rest, all) = reached.only ws h f in
          let (u, others, split, fits_u, fits_others, same, remains) = first_number behind text after us cut all (sym e ∙ rest) in
          let one : u ≡ v = laws.one_to_one u v fits_u fits (sym same ∙ is) in
          (others, whole ∙ ap (λ l. vs ++ l) (split ∙ ap (λ a. a ∷ others) one) ∙ sym (append_assoc vs (v ∷ []) others), remains, fits_others);
    }
      where
        next : left ≡ (32 ∷ word v) ++ after
        next = e ∙ ap (λ l. 32 ∷ l) (cut.whole ∙ ap (λ t. t ++ after) is)

        built : line ≡ words word (vs ++ v ∷ []) ++ after
        built =
            reached.build ∙ ap (λ l. words word vs ++ l) next ∙ sym (append_assoc (words word vs) (32 ∷ word v) after)
            ∙ ap (λ l. l ++ after) (flat_map_more (λ a. 32 ∷ word a) [] vs v)

    pub no_number : {line left behind text after : List ℕ} {vs : List A} → Reached line left vs → left ≡ 32 ∷ behind → IsFirstWord behind text after → ((v : A) → Fits v → text ≢ word v) → (ws : List A) → All Fits ws → line ≢ words word ws
    no_number {line} {left} {behind} {text} {after} {vs} reached e cut none ws h f =
        let (us, whole, rest, all) = reached.only ws h f in
        let (u, others, split, fits_u, fits_others, same, remains) = first_number behind text after us cut all (sym e ∙ rest) in
        none u fits_u same

    pub no_other_byte : (b : ℕ) (bs : List ℕ) (us : List A) → b ≢ 32 → b ∷ bs ≢ words word us
    no_other_byte b bs [] other e = cc
    no_other_byte b bs (u ∷ us) other e = other (let k = e in cc)

    pub no_space : {line left behind : List ℕ} {b : ℕ} {vs : List A} → Reached line left vs → left ≡ b ∷ behind → b ≢ 32 → (ws : List A) → All Fits ws → line ≢ words word ws
    no_space {line} {left} {behind} {b} {vs} reached e other ws h f =
        let (us, whole, rest, all) = reached.only ws h f in
        no_other_byte b behind us other (sym e ∙ rest)

    -- one line is spelled by one list
    pub words_one_to_one : (vs ws : List A) → All Fits vs → All Fits ws → words word vs ≡ words word ws → vs ≡ ws
    words_one_to_one [] [] h k e = refl
    words_one_to_one [] (w ∷ ws) h k e = cc
    words_one_to_one (v ∷ vs) ws h k e =
        let (u, others, split, fits_u, fits_others, same, remains) = first_number (word v ++ words word vs) (word v) (words word vs) ws (record { whole = refl; spaceless = spaceless v (All-head Fits v vs h); ends = words_end vs }) k e in
        let one = laws.one_to_one v u (All-head Fits v vs h) fits_u same in
        let more = words_one_to_one vs others (All-tail Fits v vs h) fits_others remains in
        ap (λ a. a ∷ vs) one ∙ ap (λ l. u ∷ l) more ∙ sym split

    pub finish : {line left : List ℕ} {vs : List A} → Reached line left vs → length left ≡ 0 → ReadsWords word Fits line (Some vs)
    finish {line} {left} {vs} reached end =
        let built : line ≡ words word vs = reached.build ∙ ap (λ l. words word vs ++ l) (nil_from_length left end) ∙ append-nil (words word vs) in
        (built, reached.fits, λ ws h e. words_one_to_one ws vs h reached.fits (sym e ∙ built))

    -- and holds no newline
    pub words_in_line : (vs : List A) → All Fits vs → All (λ b. b ≢ 10) (words word vs)
    words_in_line [] h = All-nil (λ b. b ≢ 10)
    words_in_line (v ∷ vs) h =
        let first = All-weaker IsInWord (λ b. b ≢ 10) (λ b p. p.1) (word v) (laws.in_word v (All-head Fits v vs h)) in
        All-cons (λ b. b ≢ 10) 32 (word v ++ words word vs) (λ e. omega arith)
        (All-append (λ b. b ≢ 10) (word v) (words word vs) first (words_in_line vs (All-tail Fits v vs h)))

-- the same of values, and of the other numbers

pub spaced_one_to_one : (vs ws : List ℤ) → All IsWord vs → All IsWord ws → spaced vs ≡ spaced ws → vs ≡ ws
spaced_one_to_one = words_one_to_one spelled IsWord value_is_spelling

pub spaced_in_line : (vs : List ℤ) → All IsWord vs → All (λ b. b ≢ 10) (spaced vs)
spaced_in_line = words_in_line spelled IsWord value_is_spelling

pub spaced_sizes_one_to_one : (ms ns : List ℕ) → All IsSize ms → All IsSize ns → spaced_sizes ms ≡ spaced_sizes ns → ms ≡ ns
spaced_sizes_one_to_one = words_one_to_one decimal IsSize size_is_spelling

pub spaced_sizes_in_line : (ns : List ℕ) → All IsSize ns → All (λ b. b ≢ 10) (spaced_sizes ns)
spaced_sizes_in_line = words_in_line decimal IsSize size_is_spelling
