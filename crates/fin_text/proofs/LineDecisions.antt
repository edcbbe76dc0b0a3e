-- What a line is where one is due can be decided.
use Rattle.std.proofs.Common.{◌≡◌, ◌≢◌, ◌∙◌, ◌<◌, ◌≤◌, ◌^◌, ◌-◌, ℕ, suc, ◌+◌, ℤ, List, [], ◌∷◌, ◌++◌, length, take, drop, codes, None, refl, sym, ap, subst, inl, inr, arith, ⊎_elim, length-append}
use Rattle.std.specs.Prelude.{All, Contains, slice_index, slice_index_or}
use Rattle.std.specs.Fmt.{decimal}
use Rattle.std.proofs.lemmas.List.{append_cancel_right, take-append-drop}
use Rattle.fin_tensor.specs.declared.format.Level.{Level}
use Rattle.fin_tensor.specs.declared.format.Level.TheVariants as level
use Rattle.fin_tensor.specs.declared.format.Wrap.TheVariants.{Bare}
use Rattle.fin_tensor.specs.declared.part.Part.{Part}
use Rattle.fin_tensor.specs.Levels.{AreSmall, IsIdx, IsPtr, IsStart, IsStop, RiseWithin, fibres}
use Rattle.fin_tensor.specs.Lines.{AreFew, IsShape, IsVal, due}
use Rattle.fin_tensor.specs.Placement.{IsPlaced}
use Rattle.fin_text.specs.DueLines.{HasForm, HasNumbers, IsSecond, IsValid, TellsOther, TellsOtherLevel, TellsPart, TellsSizes, TellsValues, due_level}
use Rattle.fin_text.specs.Numbers.{EndsWord, IsSize, spaced_sizes, words}
use Rattle.fin_text.specs.Reading.{IsBetween, IsSkipped, Skips}
use Rattle.fin_text.specs.Tensors.{level_word}
use Rattle.fin_text.specs.declared.due.Due.{Due}
use Rattle.fin_text.specs.declared.due.Due.TheVariants.{Tensor, Format, Fill, Shape, Ptr, Second, Val, End}
use Rattle.fin_text.specs.declared.read.Reader.{Reader}
use Rattle.fin_text.proofs.LevelWords.{level_is_spelling}
use Rattle.fin_text.proofs.Reading.{spaced_one_to_one, words_one_to_one}
use Rattle.fin_text.proofs.Seconds.{IsSecond as IsSecondWord, no_part, part_second, reads_part, told_other, tells_other, unfit_part, unfit_sizes, unfit_values}
use Rattle.fin_text.proofs.Spellings.{size_is_spelling}
use Rattle.fin_text.proofs.Decisions.{Decided, Spells, at_most, below, both, digits, equal, first_word, follows, leads_well, less, like, listed, name_behind, no_empty_word, none, one_word, same_text, size, sizes, spelled_line, values}

-- ---- levels

level_of : (w : List ℕ) → Decided ((l : Level) × Unit {0} × (w ≡ level_word l))
level_of w =
    first (same_text w (level_word level.Dense)) (same_text w (level_word level.List)) (same_text w (level_word level.Dict)) (same_text w (level_word level.Runs)) (same_text w (level_word level.Band))
  where
    no_level : ¬ (w ≡ level_word level.Dense) → ¬ (w ≡ level_word level.List) → ¬ (w ≡ level_word level.Dict) → ¬ (w ≡ level_word level.Runs) → ¬ (w ≡ level_word level.Band)
        → (l : Level) → w ≡ level_word l → ⊥
    no_level a b c d e level.Dense h = a h
    no_level a b c d e level.List h = b h
    no_level a b c d e level.Dict h = c h
    no_level a b c d e level.Runs h = d h
    no_level a b c d e level.Band h = e h

    first : Decided (w ≡ level_word level.Dense) → Decided (w ≡ level_word level.List) → Decided (w ≡ level_word level.Dict) → Decided (w ≡ level_word level.Runs) → Decided (w ≡ level_word level.Band)
        → Decided ((l : Level) × Unit {0} × (w ≡ level_word l))
    first (inl h) b c d e = inl (level.Dense, tt, h)
    first (inr na) (inl h) c d e = inl (level.List, tt, h)
    first (inr na) (inr nb) (inl h) d e = inl (level.Dict, tt, h)
    first (inr na) (inr nb) (inr nc) (inl h) e = inl (level.Runs, tt, h)
    first (inr na) (inr nb) (inr nc) (inr nd) (inl h) = inl (level.Band, tt, h)
    first (inr na) (inr nb) (inr nc) (inr nd) (inr ne) = inr (λ h. no_level na nb nc nd ne h.0 h.2)

is_runs : (l : Level) → Decided (l ≡ level.Runs)
is_runs level.Runs = inl refl
is_runs level.Dense = inr (λ e. cc)
is_runs level.List = inr (λ e. cc)
is_runs level.Dict = inr (λ e. cc)
is_runs level.Band = inr (λ e. cc)

placed : (ls : List Level) → Decided (IsPlaced ls Bare)
placed ls = like
    (λ h. record { few = h.0; runs = λ k lt. h.1 k (omega (arith, lt)) lt; fits = tt })
    (λ h. (h.few, λ k less lt. h.runs k lt))
    (both (at_most (length ls) 8) (λ _. below (λ k. k + 1 < length ls → slice_index_or ls k level.Dense ≢ level.Runs)
    (λ k. follows (less (k + 1) (length ls)) (λ _. none (is_runs (slice_index_or ls k level.Dense)))) (length ls)))

drop_front : (front back : List ℕ) → drop (length front) (front ++ back) ≡ back
drop_front [] back = refl
drop_front (b ∷ bs) back = drop_front bs back

abbrev TellsLevels : List ℕ → Type 0
TellsLevels after = (ls : List Level) × (after ≡ words level_word ls ++ codes " element")

levels : (after : List ℕ) → Decided (TellsLevels after)
levels after =
    let k = length after - 8 in
    ⊎_elim
    (λ (last : drop k after ≡ codes " element").
    let whole = sym (take-append-drop k after) ∙ ap (λ t. take k after ++ t) last in
    like
    (λ h. (h.0, whole ∙ ap (λ t. t ++ codes " element") h.1))
    (λ (h : TellsLevels after). (h.0, append_cancel_right (take k after) (words level_word h.0) (codes " element") (sym whole ∙ h.1), λ j d lt. tt))
    (spelled_line level_word (λ _. Unit {0}) level_is_spelling level_of (take k after)))
    (λ (other : ¬ (drop k after ≡ codes " element")). inr (λ h. other (ap (λ t. drop (length t - 8) t) h.1 ∙ last_eight (words level_word h.0))))
    (same_text (drop k after) (codes " element"))
  where
    last_eight : (front : List ℕ) → drop (length (front ++ codes " element") - 8) (front ++ codes " element") ≡ codes " element"
    last_eight front =
        let e : length (front ++ codes " element") - 8 ≡ length front = omega (arith, length-append front (codes " element")) in
        ap (λ n. drop n (front ++ codes " element")) e ∙ drop_front front (codes " element")

format : (after : List ℕ) → Decided ((ls : List Level) × (after ≡ words level_word ls ++ codes " element") × IsPlaced ls Bare)
format after = by_levels (levels after)
  where
    by_levels : Decided (TellsLevels after) → Decided ((ls : List Level) × (after ≡ words level_word ls ++ codes " element") × IsPlaced ls Bare)
    by_levels (inr none) = inr (λ h. none (h.0, h.1))
    by_levels (inl l) = like
        (λ h. (l.0, l.1, h))
        (λ h. subst (λ ls. IsPlaced ls Bare) (words_one_to_one level_word (λ _. Unit {0}) level_is_spelling h.0 l.0 (λ j d lt. tt) (λ j d lt. tt)
        (append_cancel_right (words level_word h.0) (words level_word l.0) (codes " element") (sym h.1 ∙ l.1))) h.2)
        (placed l.0)

-- ---- the line of a level

second_word : (after : List ℕ) → Decided ((w : List ℕ) × (r : List ℕ) × (after ≡ 32 ∷ (w ++ r)) × All (λ b. b ≢ 32) w × EndsWord r)
second_word [] = inr (λ h. let e = h.2 in cc)
second_word (b ∷ bs) = like
    (λ h. let f = first_word bs in (f.0, f.1, ap (λ c. c ∷ bs) h ∙ ap (λ l. 32 ∷ l) f.2.whole, f.2.spaceless, f.2.ends))
    (λ h. let e = h.2 in cc)
    (equal b 32)

tells_other_level : (k : ℕ) (after : List ℕ) → Decided (TellsOther k after)
tells_other_level k after = by_second (second_word after)
  where
    by_second : Decided ((w : List ℕ) × (r : List ℕ) × (after ≡ 32 ∷ (w ++ r)) × All (λ b. b ≢ 32) w × EndsWord r) → Decided (TellsOther k after)
    by_second (inr none) = inr (λ h. none (h.0, h.1, h.2, h.3, h.4))
    by_second (inl s) = like
        (λ h. tells_other k after s.0 s.1 (s.2, s.3, s.4) (h.0, h.1.0, h.1.1))
        (λ h. let t = told_other k after s.0 s.1 (s.2, s.3, s.4) h in (t.0, (t.1, t.2)))
        (both (digits s.0) (λ _. both (leads_well s.0) (λ _. none (same_text s.0 (decimal k)))))

part : (k : ℕ) → k < 2 ^ 64 → (after : List ℕ) → Decided ((ns : List ℕ) × TellsPart k after ns)
part k small after = by_second (second_word after)
  where
    by_numbers : (w r : List ℕ) → IsSecondWord after w r → w ≡ decimal k → Decided (Spells decimal IsSize size_is_spelling size r) → Decided ((ns : List ℕ) × TellsPart k after ns)
    by_numbers w r is same (inl n) = inl (n.0, (is.0 ∙ ap (λ t. 32 ∷ (t ++ r)) same ∙ ap (λ t. 32 ∷ (decimal k ++ t)) n.1, n.2))
    by_numbers w r is same (inr none) = inr (λ h. reads_part k after w r small is same None (λ vs fits e. none (vs, e, fits)) h.0 h.1)

    by_word : (w r : List ℕ) → IsSecondWord after w r → Decided (w ≡ decimal k) → Decided ((ns : List ℕ) × TellsPart k after ns)
    by_word w r is (inl same) = by_numbers w r is same (spelled_line decimal IsSize size_is_spelling size r)
    by_word w r is (inr other) = inr (λ h. no_part k after w r small is other h.0 h.1)

    by_second : Decided ((w : List ℕ) × (r : List ℕ) × (after ≡ 32 ∷ (w ++ r)) × All (λ b. b ≢ 32) w × EndsWord r) → Decided ((ns : List ℕ) × TellsPart k after ns)
    by_second (inl s) = by_word s.0 s.1 (s.2, s.3, s.4) (same_text s.0 (decimal k))
    by_second (inr none) = inr (λ h. let p = part_second k after h.0 small h.1 in none (decimal k, spaced_sizes h.0, p.0, p.1, p.2))

-- ---- what is valid

small : (xs : List ℕ) → Decided (AreSmall xs)
small xs = below (λ k. slice_index xs k ≤ 2 ^ 40) (λ k. at_most (slice_index xs k) (2 ^ 40)) (length xs)

shape : (ls : List Level) (ns : List ℕ) → Decided (IsShape ls ns)
shape ls ns = like (λ h. record { long = h.0; small = h.1 }) (λ h. (h.long, h.small)) (both (equal (length ns) (length ls)) (λ _. small ns))

ptr : (count : ℕ) (ns : List ℕ) → Decided (IsPtr count ns)
ptr count ns = like
    (λ h. record { small = h.0; long = h.1.0; first = h.1.1.0; rises = h.1.1.1 })
    (λ h. (h.small, (h.long, (h.first, h.rises))))
    (both (small ns) (λ _. both (equal (length ns) (count + 1)) (λ _. both (equal (slice_index ns 0) 0)
    (λ _. below (λ p. slice_index ns p ≤ slice_index ns (p + 1)) (λ p. at_most (slice_index ns p) (slice_index ns (p + 1))) count))))

module _ (n count : ℕ) (ptr xs : List ℕ) where
  abbrev RisesIn : ℕ → Type 0
  RisesIn p = (k : ℕ) → k < slice_index ptr (p + 1) → slice_index ptr p ≤ k → k + 1 < slice_index ptr (p + 1) → slice_index xs k < slice_index xs (k + 1)

  rise_within : Decided (RiseWithin count ptr xs)
  rise_within = like
      (λ (h : (p : ℕ) → p < count → RisesIn p) p k within from to. h p within k (omega (arith, to)) from to)
      (λ h p within k lt from to. h p k within from to)
      (below RisesIn
      (λ p. below (λ k. slice_index ptr p ≤ k → k + 1 < slice_index ptr (p + 1) → slice_index xs k < slice_index xs (k + 1))
      (λ k. follows (at_most (slice_index ptr p) k) (λ _. follows (less (k + 1) (slice_index ptr (p + 1))) (λ _. less (slice_index xs k) (slice_index xs (k + 1)))))
      (slice_index ptr (p + 1))) count)

  idx : Decided (IsIdx n count ptr xs)
  idx = like
      (λ h. record { small = h.0; long = h.1.0; rises = h.1.1.0; below = h.1.1.1 })
      (λ h. (h.small, (h.long, (h.rises, h.below))))
      (both (small xs) (λ _. both (equal (length xs) (slice_index ptr count)) (λ _. both rise_within
      (λ _. below (λ k. slice_index xs k < n) (λ k. less (slice_index xs k) n) (length xs)))))

  abbrev EndsAt : ℕ → Type 0
  EndsAt p = 0 < n → (slice_index ptr p < slice_index ptr (p + 1)) × (slice_index xs (slice_index ptr (p + 1) - 1) ≡ n)

  stop : Decided (IsStop n count ptr xs)
  stop = like
      (λ h. record { small = h.0; long = h.1.0; rises = h.1.1.0; first = h.1.1.1.0; last = h.1.1.1.1.0; none = h.1.1.1.1.1 })
      (λ h. (h.small, (h.long, (h.rises, (h.first, (h.last, h.none))))))
      (both (small xs) (λ _. both (equal (length xs) (slice_index ptr count)) (λ _. both rise_within
      (λ _. both (below (λ k. 0 < slice_index xs k) (λ k. less 0 (slice_index xs k)) (length xs))
      (λ _. both (below EndsAt (λ p. follows (less 0 n) (λ _. both (less (slice_index ptr p) (slice_index ptr (p + 1))) (λ _. equal (slice_index xs (slice_index ptr (p + 1) - 1)) n))) count)
      (λ _. follows (equal n 0) (λ _. equal (length xs) 0)))))))

  start : Decided (IsStart n count ptr xs)
  start = like
      (λ h. record { small = h.0; long = h.1.0; fits = h.1.1 })
      (λ h. (h.small, (h.long, h.fits)))
      (both (small xs) (λ _. both (equal (length xs) count)
      (λ _. below (λ p. slice_index xs p + slice_index ptr (p + 1) ≤ n + slice_index ptr p) (λ p. at_most (slice_index xs p + slice_index ptr (p + 1)) (n + slice_index ptr p)) count)))

second : (l : Level) (n count : ℕ) (ptr xs : List ℕ) → Decided (IsSecond l n count ptr xs)
second level.Dense n count ptr xs = inr (λ h. h)
second level.List n count ptr xs = idx n count ptr xs
second level.Dict n count ptr xs = idx n count ptr xs
second level.Runs n count ptr xs = stop n count ptr xs
second level.Band n count ptr xs = start n count ptr xs

pub few : (shape : List ℕ) (parts : List Part) → Decided (AreFew shape parts)
few shape parts = like
    (λ h k le. h k (omega (arith, le)))
    (λ h k lt. h k (omega (arith, lt)))
    (below (λ k. fibres shape parts 1 k ≤ 2 ^ 40) (λ k. at_most (fibres shape parts 1 k) (2 ^ 40)) (suc (length parts)))

val : (shape : List ℕ) (parts : List Part) (vs : List ℤ) → Decided (IsVal shape parts vs)
val shape parts vs = like (λ h. record { long = h.0; few = h.1 }) (λ h. (h.long, h.few)) (both (equal (length vs) (due shape parts)) (λ _. few shape parts))

-- ---- what follows the due word

pub other_level : (d : Due) (after : List ℕ) → Decided (TellsOtherLevel d after)
other_level (Ptr at) after = tells_other_level (length at.draft.parts) after
other_level (Second below) after = tells_other_level (length below.draft.parts) after
other_level Tensor after = inr (λ h. h)
other_level (Format name) after = inr (λ h. h)
other_level (Fill head) after = inr (λ h. h)
other_level (Shape head) after = inr (λ h. h)
other_level (Val at) after = inr (λ h. h)
other_level (End name s) after = inr (λ h. h)

pub form : (d : Due) (after : List ℕ) → Decided (HasForm d after)
form Tensor after = name_behind after
form (Format name) after = format after
form (Fill head) after = one_word after
form (Shape head) after = no_empty_word after
form (Ptr at) after = both (less 0 (length after)) (λ _. no_empty_word after)
form (Second below) after = both (less 0 (length after)) (λ _. no_empty_word after)
form (Val at) after = no_empty_word after
form (End name s) after = same_text after []

pub numbers : (d : Due) (after : List ℕ) → Decided (HasNumbers d after)
numbers Tensor after = inl tt
numbers (Format name) after = inl tt
numbers (Fill head) after = one_value (values after)
  where
    single : (v : ℤ) (vs us : List ℤ) → vs ≡ v ∷ [] → us ≡ vs → length us ≡ 1
    single v vs us e f = ap length f ∙ ap length e

    by_values : (vs : List ℤ) → TellsValues after vs → Decided ((v : ℤ) × TellsValues after (v ∷ []))
    by_values (v ∷ []) told = inl (v, told)
    by_values [] told = inr (λ h. omega (arith, ap length (spaced_one_to_one (h.0 ∷ []) [] h.1.1 told.1 (sym h.1.0 ∙ told.0))))
    by_values (v ∷ u ∷ us) told = inr (λ h. omega (arith, ap length (spaced_one_to_one (h.0 ∷ []) (v ∷ u ∷ us) h.1.1 told.1 (sym h.1.0 ∙ told.0))))

    one_value : Decided ((vs : List ℤ) × TellsValues after vs) → Decided ((v : ℤ) × TellsValues after (v ∷ []))
    one_value (inl v) = by_values v.0 v.1
    one_value (inr none) = inr (λ h. none (h.0 ∷ [], h.1))
numbers (Shape head) after = sizes after
numbers (Ptr at) after = part (length at.draft.parts) (omega (arith, at.within, at.draft.placed.few)) after
numbers (Second below) after = part (length below.draft.parts) (omega (arith, below.within, below.draft.placed.few)) after
numbers (Val at) after = values after
numbers (End name s) after = inl tt

told_sizes : (after ns : List ℕ) (P : List ℕ → Type 0) → TellsSizes after ns → Decided (P ns) → Decided ((ms : List ℕ) × TellsSizes after ms × P ms)
told_sizes after ns P told (inl h) = inl (ns, told, h)
told_sizes after ns P told (inr other) = inr (unfit_sizes after ns P told other)

told_part : (k : ℕ) (after ns : List ℕ) (P : List ℕ → Type 0) → k < 2 ^ 64 → TellsPart k after ns → Decided (P ns) → Decided ((ms : List ℕ) × TellsPart k after ms × P ms)
told_part k after ns P small told (inl h) = inl (ns, told, h)
told_part k after ns P small told (inr other) = inr (unfit_part k after ns P small told other)

told_values : (after : List ℕ) (vs : List ℤ) (P : List ℤ → Type 0) → TellsValues after vs → Decided (P vs) → Decided ((us : List ℤ) × TellsValues after us × P us)
told_values after vs P told (inl h) = inl (vs, told, h)
told_values after vs P told (inr other) = inr (unfit_values after vs P told other)

-- once they are told
pub validity : (given : List (List ℕ)) (d : Due) (after : List ℕ) → HasForm d after → HasNumbers d after → Decided (IsValid given d after)
validity given Tensor after f n =
    like (λ h. (f.0, f.1, h)) (λ h. subst (λ w. ¬ (Contains given w)) (ap (drop 1) (sym h.1 ∙ f.1)) h.2) (none (listed given f.0))
validity given (Format name) after f n = inl tt
validity given (Fill head) after f n = inl tt
validity given (Shape head) after f n = told_sizes after n.0 (IsShape head.format.levels) n.1 (shape head.format.levels n.0)
validity given (Ptr at) after f n =
    let count = due at.draft.shape at.draft.parts in
    told_part (length at.draft.parts) after n.0 (IsPtr count) (omega (arith, at.within, at.draft.placed.few)) n.1 (ptr count n.0)
validity given (Second below) after f n =
    let d = below.draft in
    told_part (length d.parts) after n.0 (IsSecond (due_level d) (slice_index d.shape (length d.parts)) (due d.shape d.parts) below.ptr) (omega (arith, below.within, d.placed.few)) n.1
    (second (due_level d) (slice_index d.shape (length d.parts)) (due d.shape d.parts) below.ptr n.0)
validity given (Val at) after f n = told_values after n.0 (IsVal at.draft.shape at.draft.parts) n.1 (val at.draft.shape at.draft.parts n.0)
validity given (End name s) after f n = inl tt

-- ---- whether a line is looked at

between : (d : Due) → Decided (IsBetween d)
between Tensor = inl tt
between (Format name) = inr (λ h. h)
between (Fill head) = inr (λ h. h)
between (Shape head) = inr (λ h. h)
between (Ptr at) = inr (λ h. h)
between (Second below) = inr (λ h. h)
between (Val at) = inr (λ h. h)
between (End name s) = inr (λ h. h)

skipped : (bytes : List ℕ) → Decided (IsSkipped bytes)
skipped [] = inl tt
skipped (b ∷ bs) = equal b 35

pub skips : (r : Reader) (bytes : List ℕ) → Decided (Skips r bytes)
skips r bytes = both (between r.due) (λ _. skipped bytes)
