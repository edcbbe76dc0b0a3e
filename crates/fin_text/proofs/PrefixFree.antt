-- No text of a tensor begins with that of another.
use Rattle.std.proofs.Common.{◌≡◌, ◌≢◌, ◌∙◌, ℕ, suc, nat_lt, ◌+◌, ◌≤◌, ℤ, List, [], ◌∷◌, ◌++◌, length, length-append, codes, true, false, refl, sym, ap, ap₂, subst, append_assoc, arith}
use Rattle.std.specs.Prelude.{All, slice_index}
use Rattle.std.specs.List.{list_all}
use Rattle.std.proofs.lemmas.List.{append_cancel_left}
use Rattle.std.proofs.lemmas.List.Elements.{All-nil, All-cons, All-head, All-tail, All-append, All-weaker}
use Rattle.fin_tensor.specs.Levels.{IsStored, positions}
use Rattle.fin_tensor.specs.Placement.{is_dense}
use Rattle.fin_tensor.specs.declared.format.Level.{Level}
use Rattle.fin_tensor.specs.declared.format.Level.TheVariants as level
use Rattle.fin_tensor.specs.declared.part.Part.{Part}
use Rattle.fin_tensor.specs.declared.storage.Storage.{Storage}
use Rattle.fin_tensor.proofs.ByLines.{valid_by_lines}
use Rattle.fin_tensor.proofs.Same.{same_storage}
use Rattle.fin_text.specs.DueLines.{part_with, second_word}
use Rattle.fin_text.specs.Laws.{HasWords, IsPrefixFree}
use Rattle.fin_text.specs.Names.{IsName}
use Rattle.fin_text.specs.Numbers.{IsSize, spaced, spaced_sizes, spelled, words}
use Rattle.fin_text.specs.Tensors.{fill_line, first_lines, format_line, level_word, lines_of_parts, name_line, part_line, part_lines, shape_line, tensor_lines, tensor_text, val_line}
use Rattle.fin_text.specs.Text.{text_of_lines}
use Rattle.fin_text.proofs.Cuts.{cut_at_one_place}
use Rattle.fin_text.proofs.OneLine.{one_format, same_format}
use Rattle.fin_text.proofs.ReadBack.{IsPart, opened, part_of}
use Rattle.fin_text.proofs.Reading.{spaced_in_line, spaced_one_to_one, spaced_sizes_in_line, spaced_sizes_one_to_one, words_in_line}
use Rattle.fin_text.proofs.LevelWords.{level_is_spelling}
use Rattle.fin_text.proofs.Spellings.{spelled_in_word, spelled_one_to_one}
use Rattle.fin_text.proofs.WordLines.{are_sizes, letters, name_in_line, newlineless}

-- a line that isn't the last
pub record IsBody (l : List ℕ) : Type 0 where
  pub plain : All (λ b. b ≢ 10) l
  pub other : l ≢ codes "end"

abbrev head_or : List ℕ → List (List ℕ) → List ℕ
head_or d [] = d
head_or d (l ∷ ls) = l

abbrev tail_of : List (List ℕ) → List (List ℕ)
tail_of [] = []
tail_of (l ∷ ls) = ls

-- ---- texts are cut into lines in one way
lines_cut : (ls ms : List (List ℕ)) (rest : List ℕ) → All (All (λ b. b ≢ 10)) ls → All (All (λ b. b ≢ 10)) ms → text_of_lines ls ++ rest ≡ text_of_lines ms → (more : List (List ℕ)) × (ms ≡ ls ++ more) × (rest ≡ text_of_lines more)
lines_cut [] ms rest h k e = (ms, refl, e)
lines_cut (l ∷ ls) [] rest h k e = absurd (omega (arith, ap length (sym (opened l ls rest) ∙ e), length-append l (10 ∷ (text_of_lines ls ++ rest))))
lines_cut (l ∷ ls) (m ∷ ms) rest h k e =
    let P : List ℕ → Type 0 = All (λ b. b ≢ 10) in
    let q : m ++ 10 ∷ text_of_lines ms ≡ text_of_lines (m ∷ ms) = sym (append_assoc m (10 ∷ []) (text_of_lines ms)) in
    let cut = cut_at_one_place 10 l (text_of_lines ls ++ rest) m (text_of_lines ms) (All-head P l ls h) (All-head P m ms k) (sym (opened l ls rest) ∙ e ∙ sym q) in
    let r = lines_cut ls ms rest (All-tail P l ls h) (All-tail P m ms k) cut.1 in
    (r.0, ap₂ (λ a b. a ∷ b) (sym cut.0) r.1, r.2)

differs : (a : ℕ) (w : List ℕ) → a ≢ 101 → a ∷ w ≢ codes "end"
differs a w d h = d (ap (λ l. slice_index l 0) h)

-- ---- the lines of the levels
second_differs : (l : Level) (w : List ℕ) → is_dense l ≡ false → second_word l ++ w ≢ codes "end"
second_differs level.Dense w h = absurd (cc)
second_differs level.List w h = differs 105 (codes "dx" ++ w) (λ e. omega (arith, e))
second_differs level.Dict w h = differs 105 (codes "dx" ++ w) (λ e. omega (arith, e))
second_differs level.Runs w h = differs 115 (codes "top" ++ w) (λ e. omega (arith, e))
second_differs level.Band w h = differs 115 (codes "tart" ++ w) (λ e. omega (arith, e))

part_body : (l : Level) (n f k : ℕ) (p : Part) → IsSize k → IsPart l n f p → All IsBody (part_lines k p)
part_body l n f k p size (IsPart.dense h q) = subst (λ a. All IsBody (part_lines k a)) (sym q) (All-nil IsBody)
part_body l n f k p size (IsPart.lined ptr xs has isptr small second made told word) =
    let ptrs = spaced_sizes_in_line (k ∷ ptr) (All-cons IsSize k ptr size (are_sizes ptr isptr.small)) in
    let numbers = spaced_sizes_in_line (k ∷ xs) (All-cons IsSize k xs size (are_sizes xs small)) in
    let first : IsBody (part_line (codes "ptr") k ptr) = record {
      plain = All-append (λ b. b ≢ 10) (codes "ptr") (spaced_sizes (k ∷ ptr)) (newlineless (codes "ptr") (letters (codes "ptr") refl)) ptrs;
      other = differs 112 (codes "tr" ++ spaced_sizes (k ∷ ptr)) (λ e. omega (arith, e));
    } in
    let next : IsBody (part_line (second_word l) k xs) = record {
      plain = All-append (λ b. b ≢ 10) (second_word l) (spaced_sizes (k ∷ xs)) (newlineless (second_word l) word) numbers;
      other = second_differs l (spaced_sizes (k ∷ xs)) has;
    } in
    subst (All IsBody) (sym (told k)) (All-cons IsBody (part_line (codes "ptr") k ptr) (part_line (second_word l) k xs ∷ []) first (All-cons IsBody (part_line (second_word l) k xs) [] next (All-nil IsBody)))

parts_body : (ls : List Level) (k c : ℕ) (ns : List ℕ) (ps : List Part) (vs : List ℤ) → k + length ls ≤ 8 → IsStored c ls ns ps vs → All IsBody (lines_of_parts k ps)
parts_body [] k c [] [] vs few h = All-nil IsBody
parts_body (l ∷ ls) k c (n ∷ ns) (p ∷ ps) vs few h =
    All-append IsBody (part_lines k p) (lines_of_parts (suc k) ps) (part_body l n c k p (omega arith) (part_of l n c p h.2)) (parts_body ls (suc k) (positions n c p) ns ps vs (omega arith) h.3)
parts_body [] k c [] (p ∷ ps) vs few h = absurd h
parts_body [] k c (n ∷ ns) ps vs few h = absurd h
parts_body (l ∷ ls) k c [] ps vs few h = absurd h
parts_body (l ∷ ls) k c (n ∷ ns) [] vs few h = absurd h

-- they tell the parts
same_part_line : (word : List ℕ) (k : ℕ) (xs ys : List ℕ) → IsSize k → All IsSize xs → All IsSize ys → part_line word k xs ≡ part_line word k ys → xs ≡ ys
same_part_line word k xs ys size h g e =
    let same = spaced_sizes_one_to_one (k ∷ xs) (k ∷ ys) (All-cons IsSize k xs size h) (All-cons IsSize k ys size g) (append_cancel_left word (spaced_sizes (k ∷ xs)) (spaced_sizes (k ∷ ys)) e) in cc

same_part : (l : Level) (n m c d k : ℕ) (p q : Part) (xs ys : List (List ℕ)) → IsSize k → IsPart l n c p → IsPart l m d q → part_lines k p ++ xs ≡ part_lines k q ++ ys → (p ≡ q) × (xs ≡ ys)
same_part l n m c d k p q xs ys size (IsPart.dense h e) (IsPart.dense g f) same = (e ∙ sym f, ap (λ a. part_lines k a ++ xs) (sym e) ∙ same ∙ ap (λ a. part_lines k a ++ ys) f)
same_part l n m c d k p q xs ys size (IsPart.dense h e) (IsPart.lined ptr us has isptr small second made told word) same = absurd (cc)
same_part l n m c d k p q xs ys size (IsPart.lined ptr us has isptr small second made told word) (IsPart.dense g f) same = absurd (cc)
same_part l n m c d k p q xs ys size (IsPart.lined ptr us has isptr small second made told word) (IsPart.lined qtr bs has' isptr' small' second' made' told' word') same =
    let whole : part_line (codes "ptr") k ptr ∷ part_line (second_word l) k us ∷ xs ≡ part_line (codes "ptr") k qtr ∷ part_line (second_word l) k bs ∷ ys = ap (λ a. a ++ xs) (sym (told k)) ∙ same ∙ ap (λ a. a ++ ys) (told' k) in
    let one : part_line (codes "ptr") k ptr ≡ part_line (codes "ptr") k qtr = ap (λ a. head_or [] a) whole in
    let two : part_line (second_word l) k us ≡ part_line (second_word l) k bs = ap (λ a. head_or [] (tail_of a)) whole in
    let rest : xs ≡ ys = ap (λ a. tail_of (tail_of a)) whole in
    let ptrs = same_part_line (codes "ptr") k ptr qtr size (are_sizes ptr isptr.small) (are_sizes qtr isptr'.small) one in
    let numbers = same_part_line (second_word l) k us bs size (are_sizes us small) (are_sizes bs small') two in
    (sym made ∙ ap₂ (part_with l) ptrs numbers ∙ made', rest)

parts_same : (ls : List Level) (k c d : ℕ) (ns ms : List ℕ) (ps qs : List Part) (vs ws : List ℤ) (xs ys : List (List ℕ)) → k + length ls ≤ 8 → IsStored c ls ns ps vs → IsStored d ls ms qs ws → lines_of_parts k ps ++ xs ≡ lines_of_parts k qs ++ ys
    → (ps ≡ qs) × (xs ≡ ys)
parts_same [] k c d [] [] [] [] vs ws xs ys few h g e = (refl, e)
parts_same (l ∷ ls) k c d (n ∷ ns) (m ∷ ms) (p ∷ ps) (q ∷ qs) vs ws xs ys few h g e =
    let here = same_part l n m c d k p q (lines_of_parts (suc k) ps ++ xs) (lines_of_parts (suc k) qs ++ ys) (omega arith) (part_of l n c p h.2) (part_of l m d q g.2)
    (sym (append_assoc (part_lines k p) (lines_of_parts (suc k) ps) xs) ∙ e ∙ append_assoc (part_lines k q) (lines_of_parts (suc k) qs) ys) in
    let more = parts_same ls (suc k) (positions n c p) (positions m d q) ns ms ps qs vs ws xs ys (omega arith) h.3 g.3 here.1 in
    (ap₂ (λ a b. a ∷ b) here.0 more.0, more.1)
parts_same [] k c d [] [] (p ∷ ps) qs vs ws xs ys few h g e = absurd h
parts_same [] k c d [] [] [] (q ∷ qs) vs ws xs ys few h g e = absurd g
parts_same [] k c d (n ∷ ns) ms ps qs vs ws xs ys few h g e = absurd h
parts_same [] k c d [] (m ∷ ms) ps qs vs ws xs ys few h g e = absurd g
parts_same (l ∷ ls) k c d [] ms ps qs vs ws xs ys few h g e = absurd h
parts_same (l ∷ ls) k c d (n ∷ ns) [] ps qs vs ws xs ys few h g e = absurd g
parts_same (l ∷ ls) k c d (n ∷ ns) (m ∷ ms) [] qs vs ws xs ys few h g e = absurd h
parts_same (l ∷ ls) k c d (n ∷ ns) (m ∷ ms) (p ∷ ps) [] vs ws xs ys few h g e = absurd g

-- ---- the lines before the last
body : List ℕ → Storage → List (List ℕ)
body name s = first_lines name s ++ lines_of_parts 0 s.parts ++ val_line s.val ∷ []

lines_are : (name : List ℕ) (s : Storage) → tensor_lines name s ≡ body name s ++ codes "end" ∷ []
unfolding body
lines_are name s = sym (append_assoc (first_lines name s ++ lines_of_parts 0 s.parts) (val_line s.val ∷ []) (codes "end" ∷ []))

few : (s : Storage) → 0 + length s.format.levels ≤ 8
few s = omega (arith, s.placed.few)

body_is : (name : List ℕ) (s : Storage) → IsName name → HasWords s → All IsBody (body name s)
unfolding body
body_is name s is fits =
    let lines = (valid_by_lines s.format.levels s.shape s.parts s.val).0 s.valid in
    let front = All-cons IsBody (name_line name) (format_line s.format.levels ∷ fill_line s.format.fill ∷ shape_line s.shape ∷ [])
    (record { plain = All-append (λ b. b ≢ 10) (codes "tensor ") name (All-append (λ b. b ≢ 10) (codes "tensor") (codes " ") (plain_letters (codes "tensor") refl) (space [] (All-nil (λ b. b ≢ 10)))) (name_in_line name is.continues); other = differs 116 (codes "ensor " ++ name) (λ e. omega (arith, e)) })
    (All-cons IsBody (format_line s.format.levels) (fill_line s.format.fill ∷ shape_line s.shape ∷ [])
    (record { plain = All-append (λ b. b ≢ 10) (codes "format") (words level_word s.format.levels ++ codes " element") (plain_letters (codes "format") refl) (format_plain s.format.levels); other = differs 102 (codes "ormat" ++ words level_word s.format.levels ++ codes " element") (λ e. omega (arith, e)) })
    (All-cons IsBody (fill_line s.format.fill) (shape_line s.shape ∷ [])
    (record { plain = All-append (λ b. b ≢ 10) (codes "fill") (32 ∷ spelled s.format.fill) (plain_letters (codes "fill") refl) (space (spelled s.format.fill) (newlineless (spelled s.format.fill) (spelled_in_word s.format.fill fits.0))); other = differs 102 (codes "ill " ++ spelled s.format.fill) (λ e. omega (arith, e)) })
    (All-cons IsBody (shape_line s.shape) []
    (record { plain = All-append (λ b. b ≢ 10) (codes "shape") (spaced_sizes s.shape) (plain_letters (codes "shape") refl) (spaced_sizes_in_line s.shape (are_sizes s.shape lines.shape_is.small)); other = differs 115 (codes "hape" ++ spaced_sizes s.shape) (λ e. omega (arith, e)) })
    (All-nil IsBody)))) in
    let val = All-cons IsBody (val_line s.val) []
    (record { plain = All-append (λ b. b ≢ 10) (codes "val") (spaced s.val) (plain_letters (codes "val") refl) (spaced_in_line s.val fits.1); other = differs 118 (codes "al" ++ spaced s.val) (λ e. omega (arith, e)) }) (All-nil IsBody) in
    All-append IsBody (first_lines name s ++ lines_of_parts 0 s.parts) (val_line s.val ∷ [])
    (All-append IsBody (first_lines name s) (lines_of_parts 0 s.parts) front (parts_body s.format.levels 0 1 s.shape s.parts s.val (few s) s.valid)) val
  where
    plain_letters : (w : List ℕ) → list_all (nat_lt 32) w ≡ true → All (λ b. b ≢ 10) w
    plain_letters w h = newlineless w (letters w h)

    space : (w : List ℕ) → All (λ b. b ≢ 10) w → All (λ b. b ≢ 10) (32 ∷ w)
    space w h = All-cons (λ b. b ≢ 10) 32 w (λ e. omega (arith, e)) h

    format_plain : (ls : List Level) → All (λ b. b ≢ 10) (words level_word ls ++ codes " element")
    format_plain ls =
        All-append (λ b. b ≢ 10) (words level_word ls) (codes " element") (words_in_line level_word (λ l. Unit {0}) level_is_spelling ls (λ i d lt. tt))
        (space (codes "element") (plain_letters (codes "element") refl))

lines_plain : (name : List ℕ) (s : Storage) → IsName name → HasWords s → All (All (λ b. b ≢ 10)) (body name s ++ codes "end" ∷ [])
lines_plain name s is fits =
    All-append (All (λ b. b ≢ 10)) (body name s) (codes "end" ∷ []) (All-weaker IsBody (All (λ b. b ≢ 10)) (λ l h. h.plain) (body name s) (body_is name s is fits))
    (All-cons (All (λ b. b ≢ 10)) (codes "end") [] (newlineless (codes "end") (letters (codes "end") refl)) (All-nil (All (λ b. b ≢ 10))))

-- lines tell the name and the storage
same_tensor : (n m : List ℕ) (s t : Storage) → HasWords s → HasWords t → body n s ≡ body m t → (n ≡ m) × (s ≡ t)
unfolding body
same_tensor n m s t fits fits' e =
    let lines = (valid_by_lines s.format.levels s.shape s.parts s.val).0 s.valid in
    let lines' = (valid_by_lines t.format.levels t.shape t.parts t.val).0 t.valid in
    let name : n ≡ m = append_cancel_left (codes "tensor ") n m (ap (head_or []) e) in
    let format_text : words level_word s.format.levels ++ codes " element" ≡ words level_word t.format.levels ++ codes " element" =
    append_cancel_left (codes "format") (words level_word s.format.levels ++ codes " element") (words level_word t.format.levels ++ codes " element") (ap (λ l. head_or [] (tail_of l)) e) in
    let levels : s.format.levels ≡ t.format.levels = one_format (words level_word s.format.levels ++ codes " element") s.format.levels t.format.levels refl format_text in
    let fill : s.format.fill ≡ t.format.fill = spelled_one_to_one s.format.fill t.format.fill fits.0 fits'.0 (append_cancel_left (codes "fill ") (spelled s.format.fill) (spelled t.format.fill) (ap (λ l. head_or [] (tail_of (tail_of l))) e)) in
    let shape : s.shape ≡ t.shape = spaced_sizes_one_to_one s.shape t.shape (are_sizes s.shape lines.shape_is.small) (are_sizes t.shape lines'.shape_is.small)
    (append_cancel_left (codes "shape") (spaced_sizes s.shape) (spaced_sizes t.shape) (ap (λ l. head_or [] (tail_of (tail_of (tail_of l)))) e)) in
    let rest = ap (λ l. tail_of (tail_of (tail_of (tail_of l)))) e in
    let stored : IsStored 1 s.format.levels t.shape t.parts t.val = subst (λ ls. IsStored 1 ls t.shape t.parts t.val) (sym levels) t.valid in
    let parts = parts_same s.format.levels 0 1 1 s.shape t.shape s.parts t.parts s.val t.val (val_line s.val ∷ []) (val_line t.val ∷ []) (few s) s.valid stored rest in
    let val : s.val ≡ t.val = spaced_one_to_one s.val t.val fits.1 fits'.1 (append_cancel_left (codes "val") (spaced s.val) (spaced t.val) (ap (head_or []) parts.1)) in
    (name, same_storage s t (same_format s.format t.format s.bare t.bare levels fill) shape parts.0 val)

pub prefix_free : IsPrefixFree
unfolding tensor_text
prefix_free n m s t rest is is' fits fits' e =
    let last = codes "end" in
    let whole : text_of_lines (body n s ++ last ∷ []) ++ rest ≡ text_of_lines (body m t ++ last ∷ []) = ap (λ ls. text_of_lines ls ++ rest) (sym (lines_are n s)) ∙ e ∙ ap text_of_lines (lines_are m t) in
    let r = lines_cut (body n s ++ last ∷ []) (body m t ++ last ∷ []) rest (lines_plain n s is fits) (lines_plain m t is' fits') whole in
    let differ : (name : List ℕ) (u : Storage) → IsName name → HasWords u → All (λ l. l ≢ last) (body name u) = λ name u h k. All-weaker IsBody (λ l. l ≢ last) (λ l b. b.other) (body name u) (body_is name u h k) in
    let cut = cut_at_one_place last (body m t) [] (body n s) r.0 (differ m t is' fits') (differ n s is fits) (r.1 ∙ append_assoc (body n s) (last ∷ []) r.0) in
    let same = same_tensor n m s t fits fits' (sym cut.0) in
    (same.0, same.1, r.2 ∙ ap text_of_lines (sym cut.1))
