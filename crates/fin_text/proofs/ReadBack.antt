-- The text of a tensor is read as that tensor.
use Rattle.std.proofs.Common.{◌≡◌, ◌≢◌, ◌∙◌, ℕ, suc, ◌+◌, ◌<◌, ◌≤◌, List, [], ◌∷◌, ◌++◌, length, length-append, codes, IsTrue, false, refl, sym, ap, ap₂, subst, append_assoc, arith}
use Rattle.std.specs.Prelude.{All, Contains, Ok, Err, slice_index, slice_index_or}
use Rattle.std.specs.Fmt.{decimal}
use Rattle.std.specs.Map.{keys_of}
use Rattle.std.proofs.lemmas.List.{append-nil, length_push}
use Rattle.std.proofs.lemmas.List.Elements.{All-cons, All-append}
use Rattle.std.proofs.Math.Seq.{get_or-append_seam}
use Rattle.fin_base.specs.Words.{IsWord}
use Rattle.fin_base.specs.declared.refusal.Fail.TheVariants.{Refused, Memory}
use Rattle.fin_base.specs.declared.refusal.Refusal.{Refusal}
use Rattle.fin_base.specs.declared.refusal.Rule.{Rule}
use Rattle.fin_tensor.specs.Levels.{AreSmall, IsLevel, IsPtr, fibres}
use Rattle.fin_tensor.specs.Lines.{AreLines, due}
use Rattle.fin_tensor.specs.Placement.{IsPlaced, is_dense}
use Rattle.fin_tensor.specs.declared.format.Format.{Format as TensorFormat}
use Rattle.fin_tensor.specs.declared.format.Level.{Level}
use Rattle.fin_tensor.specs.declared.format.Level.TheVariants as level
use Rattle.fin_tensor.specs.declared.format.Wrap.TheVariants.{Bare}
use Rattle.fin_tensor.specs.declared.part.Part.{Part}
use Rattle.fin_tensor.specs.declared.part.Part.TheVariants as part
use Rattle.fin_tensor.specs.declared.storage.Storage.{Storage}
use Rattle.fin_tensor.proofs.ByLines.{valid_by_lines}
use Rattle.fin_tensor.proofs.Walk.{fibres_kept}
use Rattle.fin_text.specs.DueLines.{Breaks, IsAfter, IsNextFill, IsNextName, IsNextShape, IsSecond, due_word, known_words, part_with, second_word, with_dense}
use Rattle.fin_text.specs.Laws.{HasWords, ReadsBack, ReadsOn}
use Rattle.fin_text.specs.Names.{IsName}
use Rattle.fin_text.specs.Numbers.{EndsWord, IsFirstWord, IsInWord, IsSize, spaced, spaced_sizes, spelled, words}
use Rattle.fin_text.specs.Reading.{BreaksLine, BreaksNext, ComesTo, IsAfterRest, IsBetween, IsFresh, ReadsTensors, Skips, names_of}
use Rattle.fin_text.specs.Tensors.{fill_line, format_line, level_word, lines_of_parts, name_line, part_line, part_lines, shape_line, tensor_lines, tensor_text, val_line}
use Rattle.fin_text.specs.Text.{text_of_lines}
use Rattle.fin_text.specs.declared.due.Due.{Due}
use Rattle.fin_text.specs.declared.due.Due.TheVariants.{Tensor, Format, Fill, Shape, Ptr, Second, Val, End}
use Rattle.fin_text.specs.declared.read.Reader.{Reader}
use Rattle.fin_text.proofs.Cuts.{cut_at_one_place, cut_nowhere}
use Rattle.fin_text.proofs.DenseLevels.{dense_end, dense_more, dense_stop}
use Rattle.fin_text.proofs.LevelWords.{level_is_spelling}
use Rattle.fin_text.proofs.OneReading.{is_known, one_word, unbroken}
use Rattle.fin_text.proofs.OneText.{Answer, Given_list, Onward, read_whole, refused_whole}
use Rattle.fin_text.proofs.Reading.{spaced_in_line, spaced_sizes_in_line, words_end, words_in_line}
use Rattle.fin_text.proofs.Spellings.{spelled_in_word}
use Rattle.fin_text.proofs.TakenLines.{IsBelow, IsDone, IsGood, IsLine, after_name, fill_is_due, format_is_due, good_end, good_name, name_word, ptr_is_due, second_is_due, shape_is_due, val_is_due}
use Rattle.fin_text.proofs.WordLines.{are_sizes, letters, name_in_line, newlineless, spaceless}

-- a line that breaks no rule isn't refused
good_or_broken : (r : Reader) (bytes word after : List ℕ) (rule : Rule) → IsFirstWord bytes word after → word ≡ due_word r.due → IsGood (names_of r) r.due after → BreaksLine r bytes rule → ⊥
good_or_broken r bytes word after rule first w good (BreaksLine.unknown v u h none) =
    none (subst (Contains known_words) (sym w ∙ (one_word bytes word after v u first h).0) (is_known r.due))
good_or_broken r bytes word after rule first w good (BreaksLine.other v u h known differs) = differs (sym (one_word bytes word after v u first h).0 ∙ w)
good_or_broken r bytes word after rule first w good (BreaksLine.due_line u f h b) =
    let cut = one_word bytes word after (due_word r.due) u first h in
    unbroken (names_of r) r.due after rule good.other good.form good.numbers good.valid (subst (λ t. Breaks (names_of r) r.due t rule) (sym cut.1) b)

taken_line : (r x : Reader) (bytes word after : List ℕ) (n : ℕ) → IsFirstWord bytes word after → word ≡ due_word r.due → (Skips r bytes → ⊥) → ComesTo r n bytes x → IsAfterRest r.due r n after x
taken_line r x bytes word after n first w looked (ComesTo.skipped h) = absurd (looked h)
taken_line r x bytes word after n first w looked (ComesTo.taken y not h) =
    subst (λ t. IsAfterRest r.due r n t x) (sym (one_word bytes word after (due_word r.due) h.after first h.first).1) h.rest

-- a line that is due is taken, and what follows it is read on
step_line : (r : Reader) (bytes word after left more : List ℕ) (n : ℕ) (v : Answer) → IsFirstWord bytes word after → word ≡ due_word r.due → All (λ b. b ≢ 10) bytes → (Skips r bytes → ⊥) → IsGood (names_of r) r.due after
    → left ≡ bytes ++ 10 ∷ more → Onward r left n v → (x : Reader) × IsAfterRest r.due r n after x × Onward x more (n + 1) v
step_line r bytes word after left more n v first w plain looked good e (Onward.ended none h is) = absurd (cut_nowhere 10 left bytes more none e)
step_line r bytes word after left more n v first w plain looked good e (Onward.broken rule (BreaksNext.unended none not) is) = absurd (cut_nowhere 10 left bytes more none e)
step_line r bytes word after left more n v first w plain looked good e (Onward.broken rule (BreaksNext.ended b m f q also not breaks) is) =
    let cut = cut_at_one_place 10 bytes more b m plain also (sym e ∙ q) in
    absurd (good_or_broken r bytes word after rule first w good (subst (λ l. BreaksLine r l rule) (sym cut.0) breaks))
step_line r bytes word after left more n v first w plain looked good e (Onward.step x b m q also comes o) =
    let cut = cut_at_one_place 10 bytes more b m plain also (sym e ∙ q) in (
      x,
      taken_line r x bytes word after n first w looked (subst (λ l. ComesTo r n l x) (sym cut.0) comes),
      subst (λ l. Onward x l (n + 1) v) (sym cut.1) o,
    )

pub opened : (l : List ℕ) (ls : List (List ℕ)) (rest : List ℕ) → text_of_lines (l ∷ ls) ++ rest ≡ l ++ 10 ∷ (text_of_lines ls ++ rest)
opened l ls rest = append_assoc (l ++ 10 ∷ []) (text_of_lines ls) rest ∙ append_assoc l (10 ∷ []) (text_of_lines ls ++ rest)

-- these tensors were read, and since that line this is due
pub record IsAt (es : Given_list) (since : ℕ) (P : Due → Type 0) (r : Reader) : Type 0 where
  pub given_is : r.given.entries ≡ es
  pub since_is : r.since ≡ since
  pub due_is : P r.due

-- the text goes on so
pub record Goes (es : Given_list) (since : ℕ) (Q : Due → Type 0) (text : List ℕ) (n : ℕ) (v : Answer) : Type 0 where
  pub reader : Reader
  pub at : IsAt es since Q reader
  pub on : Onward reader text n v

line_goes : (P Q : Due → Type 0) (word after : List ℕ) (es : Given_list) (since : ℕ) (ls : List (List ℕ)) (rest : List ℕ) (n : ℕ) (v : Answer)
    → ((r : Reader) (d : Due) → P d → IsLine r n word after Q d) → All IsInWord word → EndsWord after → All (λ b. b ≢ 10) after
    → Goes es since P (text_of_lines ((word ++ after) ∷ ls) ++ rest) n v → Goes es since Q (text_of_lines ls ++ rest) (n + 1) v
line_goes P Q word after es since ls rest n v line word_plain ends plain g =
    let r = g.reader in
    let l = line r r.due g.at.due_is in
    let first : IsFirstWord (word ++ after) word after = record { whole = refl; spaceless = spaceless word word_plain; ends = ends } in
    let s = step_line r (word ++ after) word after (text_of_lines ((word ++ after) ∷ ls) ++ rest) (text_of_lines ls ++ rest) n v first l.word_is (All-append (λ b. b ≢ 10) word after (newlineless word word_plain) plain) (λ k. l.inside k.0) l.good (opened (word ++ after) ls rest) g.on in
    let k = l.next s.0 s.1 in
    record { reader = s.0; at = record { given_is = k.0 ∙ g.at.given_is; since_is = k.1 ∙ g.at.since_is; due_is = k.2 }; on = s.2 }

-- ---- the lines of the levels
pub data IsPart (l : Level) (n f : ℕ) (p : Part) : Type 0 where
  dense : IsTrue (is_dense l) → p ≡ part.Dense → IsPart l n f p
  lined : (ptr xs : List ℕ) → is_dense l ≡ false → IsPtr f ptr → AreSmall xs → IsSecond l n f ptr xs → part_with l ptr xs ≡ p → ((k : ℕ) → part_lines k p ≡ part_line (codes "ptr") k ptr ∷ part_line (second_word l) k xs ∷ [])
      → All IsInWord (second_word l) → IsPart l n f p

pub part_of : (l : Level) (n f : ℕ) (p : Part) → IsLevel l n f p → IsPart l n f p
part_of level.Dense n f part.Dense h = dense refl refl
part_of level.List n f (part.Keys ptr xs) h = lined ptr xs refl h.0 h.1.small h.1 refl (λ k. refl) (letters (codes "idx") refl)
part_of level.Dict n f (part.Keys ptr xs) h = lined ptr xs refl h.0 h.1.small h.1 refl (λ k. refl) (letters (codes "idx") refl)
part_of level.Runs n f (part.Runs ptr xs) h = lined ptr xs refl h.0 h.1.small h.1 refl (λ k. refl) (letters (codes "stop") refl)
part_of level.Band n f (part.Band ptr xs) h = lined ptr xs refl h.0 h.1.small h.1 refl (λ k. refl) (letters (codes "start") refl)
part_of l n f p h = absurd h

at_more : (name : List ℕ) (format : TensorFormat) (shape : List ℕ) (ps qs : List Part) (d : Due) → with_dense format ps ≡ with_dense format qs → IsAfter name format shape ps d → IsAfter name format shape qs d
at_more name format shape ps qs (Ptr at) e h = record { name_is = h.name_is; format_is = h.format_is; shape_is = h.shape_is; parts_are = h.parts_are ∙ e }
at_more name format shape ps qs (Val at) e h = record { name_is = h.name_is; format_is = h.format_is; shape_is = h.shape_is; parts_are = h.parts_are ∙ e }
at_more name format shape ps qs _ e h = elim h [ ]

-- ---- a valid storage, level by level
module _ (name : List ℕ) (s : Storage) (es : Given_list) (since : ℕ) (rest : List ℕ) (v : Answer) where
  lines : AreLines s.format.levels s.shape s.parts s.val
  lines = (valid_by_lines s.format.levels s.shape s.parts s.val).0 s.valid

  few : length s.format.levels ≤ 8
  few = s.placed.few

  abbrev Here : List Part → Due → Type 0
  Here front = IsAfter name s.format s.shape front

  level_at : (front ps : List Part) (p : Part) → s.parts ≡ front ++ p ∷ ps → IsLevel (slice_index_or s.format.levels (length front) level.Dense) (slice_index s.shape (length front)) (due s.shape front) p
  level_at front ps p e =
      let k = length front in
      let lt : k < length s.parts = omega (arith, ap length e, length-append front (p ∷ ps)) in
      let h = lines.levels_are k lt in
      let part_is : slice_index_or s.parts k part.Dense ≡ p = ap (λ qs. slice_index_or qs k part.Dense) e ∙ get_or-append_seam front p ps part.Dense in
      let fibres_are : fibres s.shape s.parts 1 k ≡ due s.shape front = ap (λ qs. fibres s.shape qs 1 k) e ∙ fibres_kept k 1 s.shape front (p ∷ ps) (omega arith) in
      subst (IsLevel (slice_index_or s.format.levels k level.Dense) (slice_index s.shape k) (due s.shape front)) part_is
      (subst (λ f. IsLevel (slice_index_or s.format.levels k level.Dense) (slice_index s.shape k) f (slice_index_or s.parts k part.Dense)) fibres_are h)

  -- the two lines of a level
  lined_goes : (front : List Part) (ptr xs : List ℕ) (tail : List (List ℕ)) (n : ℕ) → (l : Level) → slice_index_or s.format.levels (length front) level.Dense ≡ l → length front < length s.format.levels → is_dense l ≡ false
      → IsPtr (due s.shape front) ptr → AreSmall xs → IsSecond l (slice_index s.shape (length front)) (due s.shape front) ptr xs → All IsInWord (second_word l)
      → Goes es since (Here front) (text_of_lines (part_line (codes "ptr") (length front) ptr ∷ part_line (second_word l) (length front) xs ∷ tail) ++ rest) n v
      → Goes es since (Here (front ++ part_with l ptr xs ∷ [])) (text_of_lines tail ++ rest) (n + 1 + 1) v
  lined_goes front ptr xs tail n l kind lt has isptr small second word g =
      let k = length front in
      let size : IsSize k = omega (arith, few) in
      let here : with_dense s.format front ≡ front = sym (dense_stop s.format front lt (ap is_dense kind ∙ has)) in
      let ptrs = are_sizes ptr isptr.small in
      let numbers = are_sizes xs small in
      let ptrs' = All-cons IsSize k ptr size ptrs in
      let numbers' = All-cons IsSize k xs size numbers in
      let g' = line_goes (Here front) (IsBelow name s.format s.shape front ptr) (codes "ptr") (spaced_sizes (k ∷ ptr)) es since (part_line (second_word l) k xs ∷ tail) rest n v
      (λ r d h. ptr_is_due r n name s.format s.shape front ptr here lt ptrs' isptr d h) (letters (codes "ptr") refl) refl (spaced_sizes_in_line (k ∷ ptr) ptrs') g in
      line_goes (IsBelow name s.format s.shape front ptr) (Here (front ++ part_with l ptr xs ∷ [])) (second_word l) (spaced_sizes (k ∷ xs)) es since tail rest (n + 1) v
      (λ r d h. second_is_due r (n + 1) name s.format s.shape front l ptr xs kind few numbers' numbers second d h) word refl (spaced_sizes_in_line (k ∷ xs) numbers') g'

  abbrev Ends : List (List ℕ) → ℕ → ℕ → Type 0
  Ends tail n count = (m : ℕ) × (m ≡ n + count) × Goes es since (Here s.parts) (text_of_lines tail ++ rest) m v

  -- one level, and those below it
  part_goes : (front ps : List Part) (p : Part) (tail : List (List ℕ)) (n : ℕ) → s.parts ≡ front ++ p ∷ ps
      → IsPart (slice_index_or s.format.levels (length front) level.Dense) (slice_index s.shape (length front)) (due s.shape front) p
      → ((m : ℕ) → Goes es since (Here (front ++ p ∷ [])) (text_of_lines (lines_of_parts (length (front ++ p ∷ [])) ps ++ tail) ++ rest) m v → Ends tail m (length (lines_of_parts (length (front ++ p ∷ [])) ps)))
      → Goes es since (Here front) (text_of_lines (lines_of_parts (length front) (p ∷ ps) ++ tail) ++ rest) n v → Ends tail n (length (lines_of_parts (length front) (p ∷ ps)))
  part_goes front ps p tail n e (dense h q) below g =
      let lt : length front < length s.format.levels = omega (arith, lines.long, ap length e, length-append front (p ∷ ps)) in
      let long : length (front ++ p ∷ []) ≡ suc (length front) = omega (arith, length_push front p) in
      let same : lines_of_parts (length front) (p ∷ ps) ≡ lines_of_parts (length (front ++ p ∷ [])) ps = ap (λ a. part_lines (length front) a ++ lines_of_parts (suc (length front)) ps) q ∙ ap (λ k. lines_of_parts k ps) (sym long) in
      let all : with_dense s.format front ≡ with_dense s.format (front ++ p ∷ []) = sym (ap (λ a. with_dense s.format (front ++ a ∷ [])) q ∙ dense_more s.format front lt h) in
      let at : IsAt es since (Here (front ++ p ∷ [])) g.reader = record { given_is = g.at.given_is; since_is = g.at.since_is; due_is = at_more name s.format s.shape front (front ++ p ∷ []) g.reader.due all g.at.due_is } in
      let b = below n (record { reader = g.reader; at = at; on = subst (λ ls. Onward g.reader (text_of_lines (ls ++ tail) ++ rest) n v) same g.on }) in
      (b.0, b.1 ∙ ap (λ ls. n + length ls) (sym same), b.2)
  part_goes front ps p tail n e (lined ptr xs has isptr small second made told word) below g =
      let k = length front in
      let l = slice_index_or s.format.levels k level.Dense in
      let lt : k < length s.format.levels = omega (arith, lines.long, ap length e, length-append front (p ∷ ps)) in
      let long : length (front ++ p ∷ []) ≡ suc k = omega (arith, length_push front p) in
      let deeper = lines_of_parts (length (front ++ p ∷ [])) ps in
      let same : lines_of_parts k (p ∷ ps) ≡ part_line (codes "ptr") k ptr ∷ part_line (second_word l) k xs ∷ deeper = ap (λ ls. ls ++ lines_of_parts (suc k) ps) (told k) ∙ ap (λ j. part_line (codes "ptr") k ptr ∷ part_line (second_word l) k xs ∷ lines_of_parts j ps) (sym long) in
      let g' = lined_goes front ptr xs (deeper ++ tail) n l refl lt has isptr small second word (subst (λ ls. Goes es since (Here front) (text_of_lines (ls ++ tail) ++ rest) n v) same g) in
      let b = below (n + 1 + 1) (subst (λ a. Goes es since (Here (front ++ a ∷ [])) (text_of_lines (deeper ++ tail) ++ rest) (n + 1 + 1) v) made g') in
      (b.0, omega (arith, b.1, ap length same), b.2)

  parts_go : (ps front : List Part) (tail : List (List ℕ)) (n : ℕ) → s.parts ≡ front ++ ps → Goes es since (Here front) (text_of_lines (lines_of_parts (length front) ps ++ tail) ++ rest) n v → Ends tail n (length (lines_of_parts (length front) ps))
  parts_go [] front tail n e g = (n, omega arith, subst (λ ps. Goes es since (Here ps) (text_of_lines tail ++ rest) n v) (sym (e ∙ append-nil front)) g)
  parts_go (p ∷ ps) front tail n e g =
      let l = slice_index_or s.format.levels (length front) level.Dense in
      part_goes front ps p tail n e (part_of l (slice_index s.shape (length front)) (due s.shape front) p (level_at front ps p e)) (λ m h. parts_go ps (front ++ p ∷ []) tail m (e ∙ sym (append_assoc front (p ∷ []) ps)) h) g

  -- ---- all lines behind that of the name
  format_ends : (ls : List Level) → EndsWord (words level_word ls ++ codes " element")
  format_ends [] = refl
  format_ends (l ∷ ls) = refl

  pub format_plain : (ls : List Level) → All (λ b. b ≢ 10) (words level_word ls ++ codes " element")
  format_plain ls =
      All-append (λ b. b ≢ 10) (words level_word ls) (codes " element") (words_in_line level_word (λ l. Unit {0}) level_is_spelling ls (λ i d lt. tt))
      (All-cons (λ b. b ≢ 10) 32 (codes "element") (λ h. omega (arith, h)) (newlineless (codes "element") (letters (codes "element") refl)))

  body_goes : HasWords s → (n : ℕ) → Goes es since (IsNextName name) (text_of_lines (format_line s.format.levels ∷ fill_line s.format.fill ∷ shape_line s.shape ∷ (lines_of_parts 0 s.parts ++ val_line s.val ∷ codes "end" ∷ [])) ++ rest) n v
      → (m : ℕ) × (m ≡ n + 4 + length (lines_of_parts 0 s.parts)) × Goes es since (IsDone name s) (text_of_lines (codes "end" ∷ []) ++ rest) m v
  body_goes fits n g =
      let ls = s.format.levels in
      let fill = s.format.fill in
      let tail = val_line s.val ∷ codes "end" ∷ [] in
      let below = lines_of_parts 0 s.parts ++ tail in
      let sizes = are_sizes s.shape lines.shape_is.small in
      let placed : IsPlaced ls Bare = record { few = s.placed.few; runs = s.placed.runs; fits = tt } in
      let a = line_goes (IsNextName name) (IsNextFill name ls) (codes "format") (words level_word ls ++ codes " element") es since (fill_line fill ∷ shape_line s.shape ∷ below) rest n v
      (λ r d h. format_is_due r n name ls placed d h) (letters (codes "format") refl) (format_ends ls) (format_plain ls) g in
      let b = line_goes (IsNextFill name ls) (IsNextShape name ls fill) (codes "fill") (32 ∷ spelled fill) es since (shape_line s.shape ∷ below) rest (n + 1) v
      (λ r d h. fill_is_due r (n + 1) name ls fill fits.0 d h) (letters (codes "fill") refl) refl (All-cons (λ b. b ≢ 10) 32 (spelled fill) (λ h. omega (arith, h)) (newlineless (spelled fill) (spelled_in_word fill fits.0))) a in
      let c = line_goes (IsNextShape name ls fill) (Here []) (codes "shape") (spaced_sizes s.shape) es since below rest (n + 1 + 1) v
      (λ r d h. shape_is_due r (n + 1 + 1) name s lines.shape_is sizes d h) (letters (codes "shape") refl) (words_end decimal IsSize s.shape) (spaced_sizes_in_line s.shape sizes) b in
      let d = parts_go s.parts [] tail (n + 1 + 1 + 1) refl c in
      let whole : with_dense s.format s.parts ≡ s.parts = sym (dense_end s.format s.parts (omega (arith, lines.long))) in
      let f = line_goes (Here s.parts) (IsDone name s) (codes "val") (spaced s.val) es since (codes "end" ∷ []) rest d.0 v
      (λ r e h. val_is_due r d.0 name s whole lines.long fits.1 lines.val_is e h) (letters (codes "val") refl) (words_end spelled IsWord s.val) (spaced_in_line s.val fits.1) d.2 in
      (d.0 + 1, omega (arith, d.1), f)

done_after : (name : List ℕ) (s : Storage) (r : Reader) (n : ℕ) (d : Due) (x : Reader) → IsDone name s d → IsAfterRest d r n [] x → (x.given.entries ≡ r.given.entries ++ (name, record { storage = s; line = r.since }) ∷ []) × IsBetween x.due
done_after name s r n (End m t) x h k = (k.0 ∙ ap₂ (λ a u. r.given.entries ++ (a, record { storage = u; line = r.since }) ∷ []) h.0 h.1, k.1)
done_after name s r n _ x h k = elim h [ ]

-- what is read behind a tensor's text
pub record Behind (name : List ℕ) (s : Storage) (es : Given_list) (n : ℕ) (rest : List ℕ) (v : Answer) : Type 0 where
  pub reader : Reader
  pub given_is : reader.given.entries ≡ es ++ (name, record { storage = s; line = n }) ∷ []
  pub between : IsBetween reader.due
  pub line : ℕ
  pub line_is : line ≡ n + length (tensor_lines name s)
  pub on : Onward reader rest line v

pub tensor_goes : (name : List ℕ) (s : Storage) (r : Reader) (n : ℕ) (rest : List ℕ) (v : Answer) → IsName name → HasWords s → IsBetween r.due → (Contains (names_of r) name → ⊥)
    → Onward r (text_of_lines (tensor_lines name s) ++ rest) n v → Behind name s r.given.entries n rest v
tensor_goes name s r n rest v is fits between new o =
    let es = r.given.entries in
    let behind = format_line s.format.levels ∷ fill_line s.format.fill ∷ shape_line s.shape ∷ (lines_of_parts 0 s.parts ++ val_line s.val ∷ codes "end" ∷ []) in
    let tensor = letters (codes "tensor") refl in
    let first : IsFirstWord (name_line name) (codes "tensor") (32 ∷ name) = record { whole = refl; spaceless = spaceless (codes "tensor") tensor; ends = refl } in
    let plain : All (λ b. b ≢ 10) (name_line name) = All-append (λ b. b ≢ 10) (codes "tensor") (32 ∷ name) (newlineless (codes "tensor") tensor) (All-cons (λ b. b ≢ 10) 32 name (λ h. omega (arith, h)) (name_in_line name is.continues)) in
    let a = step_line r (name_line name) (codes "tensor") (32 ∷ name) (text_of_lines (tensor_lines name s) ++ rest) (text_of_lines behind ++ rest) n v first (name_word r.due between) plain (λ k. omega (arith, k.1))
    (good_name (names_of r) name r.due is new between) (opened (name_line name) behind rest) o in
    let begun = after_name r n name r.due a.0 between a.1 in
    let b = body_goes name s es n rest v fits (n + 1) (record { reader = a.0; at = record { given_is = begun.0; since_is = begun.1; due_is = begun.2 }; on = a.2 }) in
    let x = b.2.reader in
    let good = good_end x 0 name (names_of x) s x.due b.2.at.due_is in
    let word = letters (codes "end") refl in
    let c = step_line x (codes "end") (codes "end") [] (text_of_lines (codes "end" ∷ []) ++ rest) rest b.0 v (record { whole = refl; spaceless = spaceless (codes "end") word; ends = tt }) good.0 (newlineless (codes "end") word) (λ k. good.1 k.0) good.2
    (opened (codes "end") [] rest) b.2.on in
    let d = done_after name s x b.0 x.due c.0 b.2.at.due_is c.1 in
    record {
      reader = c.0;
      given_is = d.0 ∙ ap₂ (λ gs l. gs ++ (name, record { storage = s; line = l }) ∷ []) b.2.at.given_is b.2.at.since_is;
      between = d.1;
      line = b.0 + 1;
      line_is = omega (arith, b.1, length-append (lines_of_parts 0 s.parts) (val_line s.val ∷ codes "end" ∷ []));
      on = c.2;
    }

-- ---- what is read stays, and what is refused comes later
grows : (d : Due) (r : Reader) (n : ℕ) (after : List ℕ) (x : Reader) → IsAfterRest d r n after x → (ys : Given_list) × (x.given.entries ≡ r.given.entries ++ ys)
grows (End m t) r n after x h = ((m, record { storage = t; line = r.since }) ∷ [], h.0)
grows Tensor r n after x h = ([], h.0 ∙ sym (append-nil r.given.entries))
grows (Format m) r n after x h = ([], h.0 ∙ sym (append-nil r.given.entries))
grows (Fill head) r n after x h = ([], h.0 ∙ sym (append-nil r.given.entries))
grows (Shape head) r n after x h = ([], h.0 ∙ sym (append-nil r.given.entries))
grows (Ptr at) r n after x h = ([], h.0 ∙ sym (append-nil r.given.entries))
grows (Second below) r n after x h = ([], h.0 ∙ sym (append-nil r.given.entries))
grows (Val at) r n after x h = ([], h.0 ∙ sym (append-nil r.given.entries))

comes_more : (r x : Reader) (n : ℕ) (bytes : List ℕ) → ComesTo r n bytes x → (ys : Given_list) × (x.given.entries ≡ r.given.entries ++ ys)
comes_more r x n bytes (ComesTo.skipped h) = ([], sym (append-nil r.given.entries))
comes_more r x n bytes (ComesTo.taken y not h) = grows r.due r n h.after x h.rest

onward_ok : (r : Reader) (left : List ℕ) (n : ℕ) (v : Answer) (given : Given_list) → v ≡ Ok given → Onward r left n v → (others : Given_list) × (given ≡ r.given.entries ++ others)
onward_ok r left n v given is (Onward.ended none h e) = let same : given ≡ r.given.entries = cc in ([], same ∙ sym (append-nil r.given.entries))
onward_ok r left n v given is (Onward.broken rule h e) = absurd (cc)
onward_ok r left n v given is (Onward.step x bytes more q plain comes o) =
    let k = onward_ok x more (n + 1) v given is o in
    let y = comes_more r x n bytes comes in
    (y.0 ++ k.0, k.1 ∙ ap (λ gs. gs ++ k.0) y.1 ∙ append_assoc r.given.entries y.0 k.0)

onward_err : (r : Reader) (left : List ℕ) (n : ℕ) (v : Answer) (refusal : Refusal) → v ≡ Err refusal → Onward r left n v → n ≤ refusal.line
onward_err r left n v refusal is (Onward.ended none h e) = absurd (cc)
onward_err r left n v refusal is (Onward.broken rule h e) =
    let same : record { rule = rule; line = n } ≡ refusal = cc in
    omega (arith, ap (λ f. f.line) same)
onward_err r left n v refusal is (Onward.step x bytes more q plain comes o) = omega (arith, onward_err x more (n + 1) v refusal is o)

-- where nothing is left
no_line : (bytes more left : List ℕ) → left ≡ [] → left ≡ bytes ++ 10 ∷ more → ⊥
no_line bytes more left e q = omega (arith, ap length e, ap length q, length-append bytes (10 ∷ more))

nothing_left : (r : Reader) (left : List ℕ) (n : ℕ) (v : Answer) → left ≡ [] → IsBetween r.due → Onward r left n v → v ≡ Ok r.given.entries
nothing_left r left n v e between (Onward.ended none h is) = is
nothing_left r left n v e between (Onward.broken rule (BreaksNext.unended none not) is) = absurd (not (subst (Skips r) (sym e) (between, tt)))
nothing_left r left n v e between (Onward.broken rule (BreaksNext.ended b m f q also not breaks) is) = absurd (no_line b m left e q)
nothing_left r left n v e between (Onward.step x bytes more q plain comes o) = absurd (no_line bytes more left e q)

-- ---- the text of a tensor, and what follows it
from_start : (name : List ℕ) (s : Storage) (rest : List ℕ) (first : ℕ) (v : Answer) → IsName name → HasWords s → ((q : Reader) × IsFresh q × Onward q (tensor_text name s ++ rest) first v) → Behind name s [] first rest v
unfolding tensor_text
from_start name s rest first v is fits (q, fresh, o) =
    let b = tensor_goes name s q first rest v is fits fresh.1 (λ h. omega (arith, (subst (λ gs. Contains (keys_of gs) name) fresh.0 h).1)) o in
    subst (λ gs. Behind name s gs first rest v) fresh.0 b

pub reads_on : ReadsOn
reads_on name s rest first (Ok given) is fits h =
    let b = from_start name s rest first (Ok given) is fits (read_whole (tensor_text name s ++ rest) first given h) in
    let k = onward_ok b.reader rest b.line (Ok given) given refl b.on in
    (k.0, k.1 ∙ ap (λ gs. gs ++ k.0) b.given_is)
reads_on name s rest first (Err (Refused refusal)) is fits h =
    let b = from_start name s rest first (Err refusal) is fits (refused_whole (tensor_text name s ++ rest) first refusal h) in
    omega (arith, b.line_is, onward_err b.reader rest b.line (Err refusal) refusal refl b.on)
reads_on name s rest first (Err (Memory e)) is fits h = tt

whole_is : (name : List ℕ) (s : Storage) → tensor_text name s ≡ tensor_text name s ++ []
whole_is name s = sym (append-nil (tensor_text name s))

pub reads_back : ReadsBack
reads_back name s first (Ok given) is fits h =
    let b = from_start name s [] first (Ok given) is fits (read_whole (tensor_text name s ++ []) first given (subst (λ t. ReadsTensors t first (Ok given)) (whole_is name s) h)) in
    let end = nothing_left b.reader [] b.line (Ok given) refl b.between b.on in
    let same : given ≡ b.reader.given.entries = cc in
    same ∙ b.given_is
reads_back name s first (Err (Refused refusal)) is fits h =
    let b = from_start name s [] first (Err refusal) is fits (refused_whole (tensor_text name s ++ []) first refusal (subst (λ t. ReadsTensors t first (Err (Refused refusal))) (whole_is name s) h)) in
    let end = nothing_left b.reader [] b.line (Err refusal) refl b.between b.on in
    absurd (cc)
reads_back name s first (Err (Memory e)) is fits h = tt
