-- Each text of tensors is read, or breaks a rule at a line.
use Rattle.std.proofs.Common.{◌≡◌, ◌≢◌, ◌∙◌, ◌⊎◌, ◌<◌, ◌≤◌, ◌^◌, ◌-◌, ℕ, zero, suc, ◌+◌, Bool, true, false, List, [], ◌∷◌, ◌++◌, length, refl, sym, ap, subst, inl, inr, arith, true≢false, ⊎_elim, length-append}
use Rattle.std.specs.Prelude.{◌↔◌, IsTrue, min, All, Contains, pos, slice_index_or}
use Rattle.std.proofs.lemmas.Bool.{cases_Bool, cases_eq, cases_lt}
use Rattle.std.proofs.lemmas.List.{length_push}
use Rattle.std.proofs.lemmas.List.Elements.{All-nil, All-cons}
use Rattle.indexmap.specs.IndexMap.{hasher_of}
use Rattle.indexmap.specs.Layout.{hash_map}
use Rattle.fin_base.specs.declared.refusal.Rule.{Rule}
use Rattle.fin_base.specs.declared.refusal.Rule.TheVariants.{X1, X2, X3}
use Rattle.fin_tensor.specs.declared.draft.Draft.{Draft}
use Rattle.fin_tensor.specs.declared.format.Format.{Format as TensorFormat}
use Rattle.fin_tensor.specs.declared.format.Level.TheVariants as level
use Rattle.fin_tensor.specs.declared.format.Wrap.TheVariants.{Bare}
use Rattle.fin_tensor.specs.declared.part.Part.{Part}
use Rattle.fin_tensor.specs.declared.part.Part.TheVariants as part
use Rattle.fin_tensor.specs.declared.storage.Storage.{Storage}
use Rattle.fin_tensor.specs.Placement.{IsPlaced, IsBare, is_dense}
use Rattle.fin_tensor.specs.Lines.{IsShape, AreLevels, AreFew, due}
use Rattle.fin_tensor.proofs.ByLines.{levels_more, stored_by_lines}
use Rattle.fin_text.specs.DueLines.{Breaks, HasForm, HasNumbers, IsAfter, IsTaken, IsValid, TellsOtherLevel, due_level, due_word, invalid_rule, known_words, part_with, with_dense}
use Rattle.fin_text.specs.Laws.{ReadsOrBreaks}
use Rattle.fin_text.specs.Numbers.{IsFirstWord}
use Rattle.fin_text.specs.Reading.{BreaksLine, BreaksNext, BreaksText, ComesTo, IsAfterRest, IsRead, Reads, Skips, names_of}
use Rattle.fin_text.specs.declared.due.Due.{Due}
use Rattle.fin_text.specs.declared.due.Due.TheVariants.{Tensor, Format, Fill, Shape, Ptr, Second, Val, End}
use Rattle.fin_text.specs.declared.read.Given.{Given}
use Rattle.fin_text.specs.declared.read.Reader.{Reader}
use Rattle.fin_text.proofs.Decisions.{Decided, first_word, listed, same_text}
use Rattle.fin_text.proofs.LineDecisions.{few, form, numbers, other_level, skips, validity}
use Rattle.fin_text.proofs.DenseLevels.{dense_end, dense_level, dense_more, dense_stop, second_level}

-- ---- the line behind some levels

tells : (shape : List ℕ) (parts : List Part) → Decided (AreFew shape parts) → (few : Bool) × (IsTrue few ↔ AreFew shape parts)
tells shape parts (inl h) = (true, (λ e. h, λ f. refl))
tells shape parts (inr n) = (false, (λ e. absurd (true≢false (sym e)), λ f. absurd (n f)))

after_same : (name : List ℕ) (f : TensorFormat) (shape : List ℕ) (parts more : List Part) (next : Due) → with_dense f more ≡ with_dense f parts → IsAfter name f shape more next
    → IsAfter name f shape parts next
after_same name f shape parts more (Ptr at) e h = record { name_is = h.name_is; format_is = h.format_is; shape_is = h.shape_is; parts_are = h.parts_are ∙ e }
after_same name f shape parts more (Val at) e h = record { name_is = h.name_is; format_is = h.format_is; shape_is = h.shape_is; parts_are = h.parts_are ∙ e }
after_same name f shape parts more _ e h = elim h [ ]

module _ (name : List ℕ) (f : TensorFormat) (shape : List ℕ) (placed : IsPlaced f.levels f.wrap) (bare : IsBare f.wrap) (shaped : IsShape f.levels shape) where
  abbrev draft_of : (parts : List Part) → AreLevels f.levels shape parts → (few : Bool) → (IsTrue few ↔ AreFew shape parts) → Draft
  draft_of parts levels few tells = record {
    format = f;
    shape = shape;
    parts = parts;
    count = min (due shape parts) (2 ^ 64 - 1);
    few = few;
    placed = placed;
    bare = bare;
    shaped = shaped;
    levels = levels;
    counted = refl;
    few_is = tells;
  }

  abbrev After : List Part → Type 0
  After parts = (next : Due) × IsAfter name f shape parts next

  at_ptr : (parts : List Part) → AreLevels f.levels shape parts → (few : Bool) → (IsTrue few ↔ AreFew shape parts) → length parts < length f.levels
      → is_dense (slice_index_or f.levels (length parts) level.Dense) ≡ false → After parts
  at_ptr parts levels few tells lt lined = (
    Ptr (record { name = name; draft = draft_of parts levels few tells; within = lt; lined = lined }),
    record { name_is = refl; format_is = refl; shape_is = refl; parts_are = dense_stop f parts lt lined },
  )

  at_val : (parts : List Part) → AreLevels f.levels shape parts → (few : Bool) → (IsTrue few ↔ AreFew shape parts) → length parts ≡ length f.levels → After parts
  at_val parts levels few tells all = (
    Val (record { name = name; draft = draft_of parts levels few tells; all = all }),
    record { name_is = refl; format_is = refl; shape_is = refl; parts_are = dense_end f parts (omega (arith, all)) },
  )

  -- by how many levels are left at most
  after_levels : (left : ℕ) (parts : List Part) → AreLevels f.levels shape parts → length parts ≤ length f.levels → length f.levels ≤ length parts + left → After parts
  after_levels zero parts levels le enough =
      let t = tells shape parts (few shape parts) in at_val parts levels t.0 t.1 (omega (arith, le, enough))
  after_levels (suc left) parts levels le enough =
      ⊎_elim
      (λ (lt : length parts < length f.levels).
      ⊎_elim
      (λ (dense : is_dense (slice_index_or f.levels (length parts) level.Dense) ≡ true).
      let more = parts ++ part.Dense ∷ [] in
      let long = length_push parts part.Dense in
      let a = after_levels left more (levels_more f.levels shape parts part.Dense shaped.long lt levels (dense_level _ _ _ dense)) (omega (arith, long, lt)) (omega (arith, long, enough)) in
      (a.0, after_same name f shape parts more a.0 (dense_more f parts lt dense) a.1))
      (λ (lined : is_dense (slice_index_or f.levels (length parts) level.Dense) ≡ false).
      let t = tells shape parts (few shape parts) in at_ptr parts levels t.0 t.1 lt lined)
      (cases_Bool (is_dense (slice_index_or f.levels (length parts) level.Dense))))
      (λ (ge : length f.levels ≤ length parts).
      let t = tells shape parts (few shape parts) in at_val parts levels t.0 t.1 (omega (arith, le, ge)))
      (cases_lt (length parts) (length f.levels))

  after : (parts : List Part) → AreLevels f.levels shape parts → length parts ≤ length f.levels → After parts
  after parts levels le = after_levels (length f.levels) parts levels le (omega arith)

-- ---- what follows the due word

abbrev IsEnd : Due → Type 0
IsEnd (End name storage) = Unit {0}
IsEnd _ = ⊥

-- a line that breaks no rule is taken
next_due : (given : List (List ℕ)) (d : Due) (w : List ℕ) → (IsEnd d → ⊥) → HasForm d w → HasNumbers d w → IsValid given d w → (next : Due) × IsTaken given d w next
next_due given Tensor w inside form numbers (name, e, new) = (Format name, (name, e, new, refl))
next_due given (Format name) w inside (levels, e, placed) numbers valid =
    (Fill (record { name = name; format = record { levels = levels; wrap = Bare; fill = pos 0 }; placed = placed; bare = tt }), (levels, e, (refl, refl)))
next_due given (Fill head) w inside form (v, told) valid = (
  Shape (record { name = head.name; format = record { levels = head.format.levels; wrap = head.format.wrap; fill = v }; placed = head.placed; bare = head.bare }),
  (v, told, (refl, refl, refl)),
)
next_due given (Shape head) w inside form numbers (ns, told, shaped) =
    let a = after head.name head.format ns head.placed head.bare shaped [] (λ k lt. absurd (omega (arith, lt))) (omega arith) in
    (a.0, (ns, told, shaped, a.1))
next_due given (Ptr at) w inside form numbers (ns, told, ptr) = (
  Second (record { name = at.name; draft = at.draft; ptr = ns; within = at.within; lined = at.lined; valid = ptr }),
  (ns, told, ptr, (record { name_is = refl; format_is = refl; shape_is = refl; parts_are = refl }, refl)),
)
next_due given (Second below) w inside form numbers (ns, told, second) =
    let d = below.draft in
    let p = part_with (due_level d) below.ptr ns in
    let a = after below.name d.format d.shape d.placed d.bare d.shaped (d.parts ++ p ∷ [])
    (levels_more d.format.levels d.shape d.parts p d.shaped.long below.within d.levels (second_level (due_level d) _ _ below.ptr ns below.valid second))
    (omega (arith, length_push d.parts p, below.within)) in
    (a.0, (ns, told, second, a.1))
next_due given (Val at) w inside form numbers (vs, told, val) =
    let d = at.draft in (
      End at.name (record {
        format = d.format;
        shape = d.shape;
        parts = d.parts;
        val = vs;
        placed = d.placed;
        bare = d.bare;
        valid = stored_by_lines d.format.levels d.shape d.parts vs (record { shape_is = d.shaped; long = at.all; levels_are = d.levels; val_is = val });
      }),
      (vs, told, val, (refl, refl, refl, refl, refl)),
    )
next_due given (End name storage) w inside form numbers valid = absurd (inside tt)

-- it is taken, or breaks a rule
abbrev TakenOr : List (List ℕ) → Due → List ℕ → Type 0
TakenOr given d w = ((next : Due) × HasForm d w × IsTaken given d w next) ⊎ ((rule : Rule) × Breaks given d w rule)

module _ (given : List (List ℕ)) (d : Due) (w : List ℕ) (inside : IsEnd d → ⊥) where
  by_validity : ¬ (TellsOtherLevel d w) → HasForm d w → HasNumbers d w → Decided (IsValid given d w) → TakenOr given d w
  by_validity own formed told (inl valid) = let n = next_due given d w inside formed told valid in inl (n.0, formed, n.1)
  by_validity own formed told (inr invalid) = inr (invalid_rule d, Breaks.invalid own formed told invalid)

  by_numbers : ¬ (TellsOtherLevel d w) → HasForm d w → Decided (HasNumbers d w) → TakenOr given d w
  by_numbers own formed (inl told) = by_validity own formed told (validity given d w formed told)
  by_numbers own formed (inr misspelled) = inr (X2, Breaks.misspelled own formed misspelled)

  by_form : ¬ (TellsOtherLevel d w) → Decided (HasForm d w) → TakenOr given d w
  by_form own (inl formed) = by_numbers own formed (numbers d w)
  by_form own (inr misformed) = inr (X1, Breaks.misformed own misformed)

  by_level : Decided (TellsOtherLevel d w) → TakenOr given d w
  by_level (inl other) = inr (X3, Breaks.other_level other)
  by_level (inr own) = by_form own (form d w)

  taken_or_breaks : TakenOr given d w
  taken_or_breaks = by_level (other_level d w)

-- ---- a line

abbrev with_due : Reader → Due → Reader
with_due r d = record { given = r.given; since = r.since; due = d }

abbrev RestBy : Reader → Due → ℕ → List ℕ → Type 0
RestBy r d line w = ((new : Reader) × IsAfterRest d r line w new) ⊎ ((rule : Rule) × Breaks (names_of r) d w rule)

ended : (r : Reader) (name : List ℕ) (s : Storage) (line : ℕ) (w : List ℕ) → Decided (HasForm (End name s) w) → RestBy r (End name s) line w
ended r name s line w (inl form) =
    inl (record { given = hash_map (r.given.entries ++ (name, record { storage = s; line = r.since }) ∷ []) (hasher_of r.given) 0; since = r.since; due = Tensor }, (refl, tt, form))
ended r name s line w (inr not) = inr (_, Breaks.misformed (λ h. h) not)

rest_by : (r : Reader) (d : Due) (line : ℕ) (w : List ℕ) → RestBy r d line w
rest_by r Tensor line w = ⊎_elim (λ n. inl (record { given = r.given; since = line; due = n.0 }, (refl, refl, n.1, n.2))) (λ b. inr b) (taken_or_breaks (names_of r) Tensor w (λ h. h))
rest_by r (Format name) line w = ⊎_elim (λ n. inl (with_due r n.0, (refl, refl, n.1, n.2))) (λ b. inr b) (taken_or_breaks (names_of r) (Format name) w (λ h. h))
rest_by r (Fill head) line w = ⊎_elim (λ n. inl (with_due r n.0, (refl, refl, n.1, n.2))) (λ b. inr b) (taken_or_breaks (names_of r) (Fill head) w (λ h. h))
rest_by r (Shape head) line w = ⊎_elim (λ n. inl (with_due r n.0, (refl, refl, n.1, n.2))) (λ b. inr b) (taken_or_breaks (names_of r) (Shape head) w (λ h. h))
rest_by r (Ptr at) line w = ⊎_elim (λ n. inl (with_due r n.0, (refl, refl, n.1, n.2))) (λ b. inr b) (taken_or_breaks (names_of r) (Ptr at) w (λ h. h))
rest_by r (Second below) line w = ⊎_elim (λ n. inl (with_due r n.0, (refl, refl, n.1, n.2))) (λ b. inr b) (taken_or_breaks (names_of r) (Second below) w (λ h. h))
rest_by r (Val at) line w = ⊎_elim (λ n. inl (with_due r n.0, (refl, refl, n.1, n.2))) (λ b. inr b) (taken_or_breaks (names_of r) (Val at) w (λ h. h))
rest_by r (End name s) line w = ended r name s line w (form (End name s) w)

abbrev Outcome : Reader → ℕ → List ℕ → Type 0
Outcome r line bytes = ((new : Reader) × ComesTo r line bytes new) ⊎ ((rule : Rule) × (¬ (Skips r bytes)) × BreaksLine r bytes rule)

module _ (r : Reader) (line : ℕ) (bytes word after : List ℕ) (first : IsFirstWord bytes word after) (looked : ¬ (Skips r bytes)) where
  by_rest : IsFirstWord bytes (due_word r.due) after → Contains known_words (due_word r.due) → RestBy r r.due line after → Outcome r line bytes
  by_rest first known (inl n) = inl (n.0, ComesTo.taken n.0 looked (record { after = after; first = first; known = known; rest = n.1 }))
  by_rest first known (inr b) = inr (b.0, looked, BreaksLine.due_line after b.0 first b.1)

  by_due : Contains known_words word → Decided (word ≡ due_word r.due) → Outcome r line bytes
  by_due known (inl same) = by_rest (subst (λ w. IsFirstWord bytes w after) same first) (subst (Contains known_words) same known) (rest_by r r.due line after)
  by_due known (inr other) = inr (X3, looked, BreaksLine.other word after first known other)

  by_word : Decided (Contains known_words word) → Outcome r line bytes
  by_word (inl known) = by_due known (same_text word (due_word r.due))
  by_word (inr unknown) = inr (X1, looked, BreaksLine.unknown word after first unknown)

on_line : (r : Reader) (line : ℕ) (bytes : List ℕ) → Outcome r line bytes
on_line r line bytes = ⊎_elim
    (λ (skipped : Skips r bytes). inl (r, ComesTo.skipped skipped))
    (λ (looked : ¬ (Skips r bytes)). let f = first_word bytes in by_word r line bytes f.0 f.1 f.2 looked (listed known_words f.0))
    (skips r bytes)

-- ---- the lines of a text

abbrev IsCutAt : List ℕ → Type 0
IsCutAt left = (bytes : List ℕ) × (more : List ℕ) × (left ≡ bytes ++ 10 ∷ more) × All (λ b. b ≢ 10) bytes

cut_line : (left : List ℕ) → All (λ b. b ≢ 10) left ⊎ IsCutAt left
cut_line [] = inl (All-nil _)
cut_line (b ∷ bs) = ⊎_elim
    (λ (end : b ≡ 10). inr ([], bs, ap (λ c. c ∷ bs) end, All-nil _))
    (λ (other : b ≢ 10). ⊎_elim
    (λ (none : All (λ c. c ≢ 10) bs). inl (All-cons (λ c. c ≢ 10) b bs other none))
    (λ (c : IsCutAt bs). inr (b ∷ c.0, c.1, ap (λ l. b ∷ l) c.2, All-cons (λ d. d ≢ 10) b c.0 other c.3))
    (cut_line bs))
    (cases_eq b 10)

abbrev Verdict : List ℕ → ℕ → Type 0
Verdict text first = ((given : List (List ℕ × Given)) × IsRead text first given) ⊎ ((line : ℕ) × (rule : Rule) × BreaksText text first line rule)

last_line : (text : List ℕ) (first : ℕ) (left : List ℕ) (line : ℕ) (r : Reader) → Reads text first left line r → All (λ b. b ≢ 10) left → Decided (Skips r left) → Verdict text first
last_line text first left line r reads none (inl skips) = inl (r.given.entries, record { reader = r; left = left; line = line; reads = reads; unended = none; between = skips; given_is = refl })
last_line text first left line r reads none (inr not) = inr (line, X3, record { reader = r; left = left; reads = reads; breaks = BreaksNext.unended none not })

-- by how long the rest is at most
from_line : (text : List ℕ) (first size : ℕ) (left : List ℕ) (line : ℕ) (r : Reader) → length left < size → Reads text first left line r → Verdict text first
from_line text first zero left line r small reads = absurd (omega (arith, small))
from_line text first (suc size) left line r small reads = ⊎_elim
    (λ (none : All (λ b. b ≢ 10) left). last_line text first left line r reads none (skips r left))
    (λ (c : IsCutAt left). ⊎_elim
    (λ (n : (new : Reader) × ComesTo r line c.0 new).
    from_line text first size c.1 (line + 1) n.0 (omega (arith, small, ap length c.2, length-append c.0 (10 ∷ c.1)))
    (Reads.next r n.0 c.0 c.1 line (subst (λ l. Reads text first l line r) c.2 reads) c.3 n.1))
    (λ (b : (rule : Rule) × (¬ (Skips r c.0)) × BreaksLine r c.0 rule). inr (line, b.0, record { reader = r; left = left; reads = reads; breaks = BreaksNext.ended c.0 c.1 b.0 c.2 c.3 b.1 b.2 }))
    (on_line r line c.0))
    (cut_line left)

pub reads_or_breaks : ReadsOrBreaks
reads_or_breaks text first =
    from_line text first (suc (length text)) text first (record { given = hash_map [] (record { initial = record { state = 0 } }) 0; since = 0; due = Tensor }) (omega arith) (Reads.begin _ (refl, tt))
