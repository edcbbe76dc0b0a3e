-- A text that is read is a sequence of texts of tensors.
use Rattle.std.proofs.Common.{◌≡◌, ◌≢◌, ◌∙◌, ℕ, suc, ◌+◌, ℤ, List, [], ◌∷◌, ◌++◌, length, codes, refl, sym, ap, ap₂, subst, append_assoc, drop, arith}
use Rattle.std.specs.Prelude.{All, Contains, Ok}
use Rattle.std.specs.Map.{keys_of}
use Rattle.std.proofs.lemmas.List.{append-nil, length_push}
use Rattle.std.proofs.lemmas.Grind.{flat_map-append}
use Rattle.fin_base.specs.Words.{IsWord}
use Rattle.fin_tensor.specs.declared.draft.Draft.{Draft}
use Rattle.fin_tensor.specs.declared.format.Format.{Format as TensorFormat}
use Rattle.fin_tensor.specs.declared.format.Level.{Level}
use Rattle.fin_tensor.specs.declared.format.Level.TheVariants as level
use Rattle.fin_tensor.specs.declared.part.Part.{Part}
use Rattle.fin_tensor.specs.declared.storage.Storage.{Storage}
use Rattle.fin_text.specs.DueLines.{IsAfter, IsNextEnd, IsNextFill, IsNextName, IsNextSecond, IsNextShape, IsSecond, TellsValues, due_word, leading_dense, part_with, second_word}
use Rattle.fin_text.specs.Laws.{AreTensors, HasWords, ReadsSequences}
use Rattle.fin_text.specs.Names.{IsName}
use Rattle.fin_text.specs.Numbers.{spaced_sizes, spelled, words}
use Rattle.fin_text.specs.Reading.{ComesTo, IsAfterRest, IsBetween, IsFresh, Skips, names_of}
use Rattle.fin_text.specs.Tensors.{fill_line, format_line, level_word, lines_of_parts, name_line, part_line, part_lines, shape_line, tensor_lines, tensor_text, val_line}
use Rattle.fin_text.specs.Text.{text_of_lines}
use Rattle.fin_text.specs.declared.due.Due.{Due}
use Rattle.fin_text.specs.declared.due.Due.TheVariants.{Tensor, Format, Fill, Shape, Ptr, Second, Val, End}
use Rattle.fin_text.specs.declared.read.Reader.{Reader}
use Rattle.fin_text.proofs.OneLine.{one_head}
use Rattle.fin_text.proofs.OneText.{Answer, Given_list, Onward, read_whole}

-- ---- the lines of levels

dense_lines : (ps : List Part) (ls : List Level) (k : ℕ) → lines_of_parts k (ps ++ leading_dense ls) ≡ lines_of_parts k ps
dense_lines [] [] k = refl
dense_lines [] (level.Dense ∷ ls) k = dense_lines [] ls (suc k)
dense_lines [] (level.List ∷ ls) k = refl
dense_lines [] (level.Dict ∷ ls) k = refl
dense_lines [] (level.Runs ∷ ls) k = refl
dense_lines [] (level.Band ∷ ls) k = refl
dense_lines (p ∷ ps) ls k = ap (λ t. part_lines k p ++ t) (dense_lines ps ls (suc k))

last_lines : (ps : List Part) (p : Part) (k j : ℕ) → j ≡ k + length ps → lines_of_parts k (ps ++ p ∷ []) ≡ lines_of_parts k ps ++ part_lines j p
last_lines [] p k j e = let same : k ≡ j = omega (arith, e) in append-nil (part_lines k p) ∙ ap (λ n. part_lines n p) same
last_lines (q ∷ ps) p k j e =
    ap (λ t. part_lines k q ++ t) (last_lines ps p (suc k) j (omega (arith, e)))
    ∙ sym (append_assoc (part_lines k q) (lines_of_parts (suc k) ps) (part_lines j p))

two_lines : (l : Level) (n f k : ℕ) (ptr xs : List ℕ) → IsSecond l n f ptr xs → part_lines k (part_with l ptr xs) ≡ part_line (codes "ptr") k ptr ∷ part_line (second_word l) k xs ∷ []
two_lines level.Dense n f k ptr xs h = absurd h
two_lines level.List n f k ptr xs h = refl
two_lines level.Dict n f k ptr xs h = refl
two_lines level.Runs n f k ptr xs h = refl
two_lines level.Band n f k ptr xs h = refl

-- ---- the lines of a tensor before the one that is due

record IsNamed (names : List (List ℕ)) (name : List ℕ) : Type 0 where
  is : IsName name
  new : Contains names name → ⊥

-- up to the lines of these levels
abbrev head : List ℕ → TensorFormat → List ℕ → List Part → List (List ℕ)
head name format shape parts = name_line name ∷ format_line format.levels ∷ fill_line format.fill ∷ shape_line shape ∷ lines_of_parts 0 parts

-- with a new name, and a fill that is a word
abbrev IsHead : List (List ℕ) → List ℕ → Draft → Type 0
IsHead names name draft = IsNamed names name × IsWord draft.format.fill

abbrev head_of : List ℕ → Draft → List (List ℕ)
head_of name draft = head name draft.format draft.shape draft.parts

abbrev Begun : List (List ℕ) → Due → List (List ℕ) → Type 0
Begun names Tensor ls = ls ≡ []
Begun names (Format name) ls = IsNamed names name × (ls ≡ name_line name ∷ [])
Begun names (Fill h) ls = IsNamed names h.name × (ls ≡ name_line h.name ∷ format_line h.format.levels ∷ [])
Begun names (Shape h) ls = IsNamed names h.name × IsWord h.format.fill × (ls ≡ name_line h.name ∷ format_line h.format.levels ∷ fill_line h.format.fill ∷ [])
Begun names (Ptr at) ls = IsHead names at.name at.draft × (ls ≡ head_of at.name at.draft)
Begun names (Second b) ls = IsHead names b.name b.draft × (ls ≡ head_of b.name b.draft ++ part_line (codes "ptr") (length b.draft.parts) b.ptr ∷ [])
Begun names (Val at) ls = IsHead names at.name at.draft × (ls ≡ head_of at.name at.draft)
Begun names (End name s) ls = IsNamed names name × HasWords s × (ls ≡ head name s.format s.shape s.parts ++ val_line s.val ∷ [])

-- inside a tensor, that is its first line
abbrev Since : Due → ℕ → ℕ → Type 0
Since Tensor since from = Unit {0}
Since _ since from = since ≡ from

since_is : (d : Due) (since from : ℕ) → since ≡ from → Since d since from
since_is Tensor since from e = tt
since_is (Format name) since from e = e
since_is (Fill h) since from e = e
since_is (Shape h) since from e = e
since_is (Ptr at) since from e = e
since_is (Second b) since from e = e
since_is (Val at) since from e = e
since_is (End name s) since from e = e

between_since : (d : Due) (since from : ℕ) → IsBetween d → Since d since from
between_since Tensor since from h = tt
between_since _ since from h = elim h [ ]

between_none : (names : List (List ℕ)) (d : Due) (ls : List (List ℕ)) → IsBetween d → Begun names d ls → ls ≡ []
between_none names Tensor ls h begun = begun
between_none names _ ls h begun = elim h [ ]

none_between : (names : List (List ℕ)) (d : Due) → IsBetween d → Begun names d []
none_between names Tensor h = refl
none_between names _ h = elim h [ ]

-- ---- one more line

module _ (names : List (List ℕ)) where
  renamed : (a b : List ℕ) → b ≡ a → IsNamed names a → IsNamed names b
  renamed a b e h = subst (IsNamed names) (sym e) h

  name_next : (name after : List ℕ) (x : Due) → IsNamed names name → after ≡ 32 ∷ name → IsNextName name x → Begun names x ((codes "tensor" ++ after) ∷ [])
  name_next name after (Format m) named e h = (renamed name m h named, ap (λ t. (codes "tensor" ++ t) ∷ []) e ∙ ap (λ a. name_line a ∷ []) (sym h))
  name_next name after _ named e h = elim h [ ]

  format_next : (name after : List ℕ) (levels : List Level) (ls : List (List ℕ)) (x : Due) → IsNamed names name → ls ≡ name_line name ∷ [] → after ≡ words level_word levels ++ codes " element"
      → IsNextFill name levels x → Begun names x (ls ++ (codes "format" ++ after) ∷ [])
  format_next name after levels ls (Fill a) named begun e h = (
    renamed name a.name h.0 named,
    ap₂ (λ t u. t ++ (codes "format" ++ u) ∷ []) begun e ∙ ap₂ (λ m l. name_line m ∷ format_line l ∷ []) (sym h.0) (sym h.1),
  )
  format_next name after levels ls _ named begun e h = elim h [ ]

  fill_next : (name after : List ℕ) (levels : List Level) (v : ℤ) (ls : List (List ℕ)) (x : Due) → IsNamed names name → ls ≡ name_line name ∷ format_line levels ∷ [] → TellsValues after (v ∷ [])
      → IsNextShape name levels v x → Begun names x (ls ++ (codes "fill" ++ after) ∷ [])
  fill_next name after levels v ls (Shape a) named begun told h = (
    renamed name a.name h.0 named,
    subst IsWord (sym h.2) (told.1 0 v (omega arith)),
    ap₂ (λ t u. t ++ (codes "fill" ++ u) ∷ []) begun (told.0 ∙ append-nil (32 ∷ spelled v))
        ∙ (λ i. name_line (sym h.0 i) ∷ format_line (sym h.1 i) ∷ fill_line (sym h.2 i) ∷ []),
  )
  fill_next name after levels v ls _ named begun told h = elim h [ ]

  -- after the lines of some levels
  level_next : (name : List ℕ) (format : TensorFormat) (shape : List ℕ) (parts : List Part) (ls : List (List ℕ)) (x : Due) → IsNamed names name → IsWord format.fill → ls ≡ head name format shape parts
      → IsAfter name format shape parts x → Begun names x ls
  level_next name format shape parts ls (Ptr at) named fits begun h = (
    (renamed name at.name h.name_is named, subst (λ (f : TensorFormat). IsWord f.fill) (sym h.format_is) fits),
    begun ∙ ap (λ t. name_line name ∷ format_line format.levels ∷ fill_line format.fill ∷ shape_line shape ∷ t) (sym (dense_lines parts (drop (length parts) format.levels) 0))
        ∙ (λ i. head (sym h.name_is i) (sym h.format_is i) (sym h.shape_is i) (sym h.parts_are i)),
  )
  level_next name format shape parts ls (Val at) named fits begun h = (
    (renamed name at.name h.name_is named, subst (λ (f : TensorFormat). IsWord f.fill) (sym h.format_is) fits),
    begun ∙ ap (λ t. name_line name ∷ format_line format.levels ∷ fill_line format.fill ∷ shape_line shape ∷ t) (sym (dense_lines parts (drop (length parts) format.levels) 0))
        ∙ (λ i. head (sym h.name_is i) (sym h.format_is i) (sym h.shape_is i) (sym h.parts_are i)),
  )
  level_next name format shape parts ls _ named fits begun h = elim h [ ]

  ptr_next : (name after : List ℕ) (draft : Draft) (ns : List ℕ) (ls : List (List ℕ)) (x : Due) → IsHead names name draft → ls ≡ head_of name draft → after ≡ spaced_sizes (length draft.parts ∷ ns)
      → IsNextSecond name draft ns x → Begun names x (ls ++ (codes "ptr" ++ after) ∷ [])
  ptr_next name after draft ns ls (Second b) is begun e (told, same) = (
    (renamed name b.name told.name_is is.0, subst (λ (f : TensorFormat). IsWord f.fill) (sym told.format_is) is.1),
    ap₂ (λ t u. t ++ (codes "ptr" ++ u) ∷ []) begun e
        ∙ (λ i. head (sym told.name_is i) (sym told.format_is i) (sym told.shape_is i) (sym told.parts_are i) ++ part_line (codes "ptr") (length (sym told.parts_are i)) (sym same i) ∷ []),
  )
  ptr_next name after draft ns ls _ is begun e h = elim h [ ]

  second_next : (name after : List ℕ) (draft : Draft) (l : Level) (n f : ℕ) (ptr xs : List ℕ) (ls : List (List ℕ)) (x : Due) → IsHead names name draft
      → ls ≡ head_of name draft ++ part_line (codes "ptr") (length draft.parts) ptr ∷ [] → after ≡ spaced_sizes (length draft.parts ∷ xs) → IsSecond l n f ptr xs
      → IsAfter name draft.format draft.shape (draft.parts ++ part_with l ptr xs ∷ []) x → Begun names x (ls ++ (second_word l ++ after) ∷ [])
  second_next name after draft l n f ptr xs ls x is begun e valid h =
      let k = length draft.parts in
      let two = last_lines draft.parts (part_with l ptr xs) 0 k (omega arith) ∙ ap (λ t. lines_of_parts 0 draft.parts ++ t) (two_lines l n f k ptr xs valid) in
      let whole : ls ++ (second_word l ++ after) ∷ [] ≡ head name draft.format draft.shape (draft.parts ++ part_with l ptr xs ∷ []) =
      ap₂ (λ t u. t ++ (second_word l ++ u) ∷ []) begun e
      ∙ append_assoc (head_of name draft) (part_line (codes "ptr") k ptr ∷ []) (part_line (second_word l) k xs ∷ [])
      ∙ ap (λ t. name_line name ∷ format_line draft.format.levels ∷ fill_line draft.format.fill ∷ shape_line draft.shape ∷ t) (sym two) in
      level_next name draft.format draft.shape (draft.parts ++ part_with l ptr xs ∷ []) (ls ++ (second_word l ++ after) ∷ []) x is.0 is.1 whole h

  val_next : (name after : List ℕ) (draft : Draft) (vs : List ℤ) (ls : List (List ℕ)) (x : Due) → IsHead names name draft → ls ≡ head_of name draft → TellsValues after vs
      → IsNextEnd name draft vs x → Begun names x (ls ++ (codes "val" ++ after) ∷ [])
  val_next name after draft vs ls (End m s) is begun told h = (
    renamed name m h.0 is.0,
    (subst (λ (f : TensorFormat). IsWord f.fill) (sym h.1) is.1, subst (All IsWord) (sym h.4) told.1),
    ap₂ (λ t u. t ++ (codes "val" ++ u) ∷ []) begun told.0
        ∙ (λ i. head (sym h.0 i) (sym h.1 i) (sym h.2 i) (sym h.3 i) ++ val_line (sym h.4 i) ∷ []),
  )
  val_next name after draft vs ls _ is begun told h = elim h [ ]

-- ---- what a line makes of what was read

-- it stays inside the tensor, or ends it
data Step (r x : Reader) (ls : List (List ℕ)) (from : ℕ) : Type 0 where
  inside : x.given.entries ≡ r.given.entries → Begun (names_of r) x.due ls → Since x.due x.since from → Step r x ls from
  done : (name : List ℕ) (s : Storage) → x.given.entries ≡ r.given.entries ++ (name, record { storage = s; line = from }) ∷ [] → IsBetween x.due → IsNamed (names_of r) name → HasWords s
      → ls ≡ tensor_lines name s → Step r x ls from

module _ (r x : Reader) (n : ℕ) (after : List ℕ) (ls : List (List ℕ)) (from : ℕ) where
  abbrev names : List (List ℕ)
  names = names_of r

  step_of : (d : Due) → Begun names d ls → Since d r.since from → n ≡ from + length ls → IsAfterRest d r n after x → Step r x (ls ++ (due_word d ++ after) ∷ []) from
  step_of Tensor begun since at (given, here, (m, e, is), (name, f, new, next)) =
      let same : name ≡ m = one_head after name m f e in
      let first = name_next names name after x.due (record { is = subst IsName (sym same) is; new = new }) f next in
      inside given (subst (λ l. Begun names x.due (l ++ (codes "tensor" ++ after) ∷ [])) (sym begun) first) (since_is x.due x.since from (omega (arith, here, at, ap length begun)))
  step_of (Format name) begun since at (given, here, form, (levels, e, next)) =
      inside given (format_next names name after levels ls x.due begun.0 begun.1 e next) (since_is x.due x.since from (here ∙ since))
  step_of (Fill h) begun since at (given, here, form, (v, told, next)) =
      inside given (fill_next names h.name after h.format.levels v ls x.due begun.0 begun.1 told next) (since_is x.due x.since from (here ∙ since))
  step_of (Shape h) begun since at (given, here, form, (ns, told, valid, next)) =
      let whole : ls ++ (codes "shape" ++ after) ∷ [] ≡ head h.name h.format ns [] = ap₂ (λ t u. t ++ (codes "shape" ++ u) ∷ []) begun.2 told.0 in
      inside given (level_next names h.name h.format ns [] (ls ++ (codes "shape" ++ after) ∷ []) x.due begun.0 begun.1 whole next) (since_is x.due x.since from (here ∙ since))
  step_of (Ptr a) begun since at (given, here, form, (ns, told, valid, next)) =
      inside given (ptr_next names a.name after a.draft ns ls x.due begun.0 begun.1 told.0 next) (since_is x.due x.since from (here ∙ since))
  step_of (Second b) begun since at (given, here, form, (ns, told, valid, next)) =
      inside given (second_next names b.name after b.draft _ _ _ b.ptr ns ls x.due begun.0 begun.1 told.0 valid next) (since_is x.due x.since from (here ∙ since))
  step_of (Val a) begun since at (given, here, form, (vs, told, valid, next)) =
      inside given (val_next names a.name after a.draft vs ls x.due begun.0 begun.1 told next) (since_is x.due x.since from (here ∙ since))
  step_of (End name s) begun since at (given, between, form) =
      let end : ls ++ (codes "end" ++ after) ∷ [] ≡ tensor_lines name s =
      ap₂ (λ t u. t ++ (codes "end" ++ u) ∷ []) begun.2 form ∙ append_assoc (head name s.format s.shape s.parts) (val_line s.val ∷ []) (codes "end" ∷ []) in
      done name s (given ∙ ap (λ l. r.given.entries ++ (name, record { storage = s; line = l }) ∷ []) since) between begun.0 begun.1 end

-- ---- the rest of a text

pub keys_more : (es : Given_list) (name : List ℕ) (s : Storage) (n : ℕ) → keys_of (es ++ (name, record { storage = s; line = n }) ∷ []) ≡ keys_of es ++ name ∷ []
keys_more [] name s n = refl
keys_more (e ∷ es) name s n = ap (λ t. e.0 ∷ t) (keys_more es name s n)

text_more : (ls : List (List ℕ)) (line more : List ℕ) → text_of_lines (ls ++ line ∷ []) ++ more ≡ text_of_lines ls ++ (line ++ 10 ∷ more)
text_more ls line more =
    ap (λ t. t ++ more) (flat_map-append (λ l. l ++ 10 ∷ []) ls (line ∷ []))
    ∙ append_assoc (text_of_lines ls) ((line ++ 10 ∷ []) ++ []) more
    ∙ ap (λ t. text_of_lines ls ++ t) (ap (λ t. t ++ more) (append-nil (line ++ 10 ∷ [])) ∙ append_assoc line (10 ∷ []) more)

-- the tensors that are read further are those of what is left, behind these lines
abbrev Further : Reader → List ℕ → Given_list → List (List ℕ) → ℕ → Type 0
Further r left given ls from = (gs : Given_list) × (given ≡ r.given.entries ++ gs) × AreTensors (names_of r) (text_of_lines ls ++ left) from gs

abbrev Goes : Reader → List ℕ → ℕ → Given_list → Type 0
Goes r left n given = (ls : List (List ℕ)) (from : ℕ) → Begun (names_of r) r.due ls → Since r.due r.since from → n ≡ from + length ls → Further r left given ls from

module _ (r x : Reader) (n : ℕ) (line more left : List ℕ) (given : Given_list) (ls : List (List ℕ)) (from : ℕ) where
  abbrev all : List (List ℕ)
  all = ls ++ line ∷ []

  left_is : left ≡ line ++ 10 ∷ more → text_of_lines all ++ more ≡ text_of_lines ls ++ left
  left_is e = text_more ls line more ∙ ap (λ t. text_of_lines ls ++ t) (sym e)

  ends_tensor : left ≡ line ++ 10 ∷ more → (name : List ℕ) (s : Storage) → all ≡ tensor_lines name s → tensor_text name s ++ more ≡ text_of_lines ls ++ left
  unfolding tensor_text
  ends_tensor e name s same = ap (λ t. text_of_lines t ++ more) (sym same) ∙ left_is e

  stepped : left ≡ line ++ 10 ∷ more → n ≡ from + length ls → Goes x more (n + 1) given → Step r x all from → Further r left given ls from
  stepped e at goes (inside same begun since) =
      let names : names_of x ≡ names_of r = ap keys_of same in
      let f = goes all from (subst (λ ms. Begun ms x.due all) (sym names) begun) since (omega (arith, at, length_push ls line)) in
      (f.0, f.1 ∙ ap (λ es. es ++ f.0) same, subst (λ t. AreTensors (names_of r) t from f.0) (left_is e) (subst (λ ms. AreTensors ms (text_of_lines all ++ more) from f.0) names f.2))
  stepped e at goes (done name s same between named words whole) =
      let names : names_of x ≡ names_of r ++ name ∷ [] = ap keys_of same ∙ keys_more r.given.entries name s from in
      let f = goes [] (n + 1) (none_between (names_of x) x.due between) (between_since x.due x.since (n + 1) between) (omega arith) in
      let long : n + 1 ≡ from + length (tensor_lines name s) = omega (arith, at, length_push ls line, ap length whole) in
      let rest = subst (λ m. AreTensors (names_of r ++ name ∷ []) more m f.0) long (subst (λ ms. AreTensors ms more (n + 1) f.0) names f.2) in
      let tensor = AreTensors.tensor (names_of r) name s more from f.0 named.is named.new words rest in (
        (name, record { storage = s; line = from }) ∷ f.0,
        f.1 ∙ ap (λ es. es ++ f.0) same ∙ append_assoc r.given.entries ((name, record { storage = s; line = from }) ∷ []) f.0,
        subst (λ t. AreTensors (names_of r) t from ((name, record { storage = s; line = from }) ∷ f.0)) (ends_tensor e name s whole) tensor,
      )

-- a line that is passed over
passed : (r : Reader) (n : ℕ) (line more left : List ℕ) (given : Given_list) (ls : List (List ℕ)) (from : ℕ) → left ≡ line ++ 10 ∷ more → All (λ b. b ≢ 10) line → n ≡ from + length ls
    → Begun (names_of r) r.due ls → Skips r line → Goes r more (n + 1) given → Further r left given ls from
passed r n line more left given ls from e plain at begun skips goes =
    let none : ls ≡ [] = between_none (names_of r) r.due ls skips.0 begun in
    let f = goes [] (n + 1) (none_between (names_of r) r.due skips.0) (between_since r.due r.since (n + 1) skips.0) (omega arith) in
    let here : n ≡ from = omega (arith, at, ap length none) in
    let line_passed = AreTensors.passed (names_of r) line more n f.0 plain skips.1 f.2 in (
      f.0,
      f.1,
      subst (λ m. AreTensors (names_of r) (text_of_lines ls ++ left) m f.0) here
          (subst (λ ks. AreTensors (names_of r) (text_of_lines ks ++ left) n f.0) (sym none) (subst (λ t. AreTensors (names_of r) t n f.0) (sym e) line_passed)),
    )

comes : (r x : Reader) (n : ℕ) (line more left : List ℕ) (given : Given_list) (ls : List (List ℕ)) (from : ℕ) → left ≡ line ++ 10 ∷ more → All (λ b. b ≢ 10) line → n ≡ from + length ls
    → Begun (names_of r) r.due ls → Since r.due r.since from → ComesTo r n line x → Goes x more (n + 1) given → Further r left given ls from
comes r x n line more left given ls from e plain at begun since (ComesTo.skipped h) goes = passed r n line more left given ls from e plain at begun h goes
comes r x n line more left given ls from e plain at begun since (ComesTo.taken y not h) goes =
    let step = step_of r x n h.after ls from r.due begun since at h.rest in
    stepped r x n line more left given ls from e at goes (subst (λ l. Step r x (ls ++ l ∷ []) from) (sym h.first.whole) step)

further : (r : Reader) (left : List ℕ) (n : ℕ) (v : Answer) (given : Given_list) → v ≡ Ok given → Onward r left n v → Goes r left n given
further r left n v given is (Onward.ended none h e) ls from begun since at =
    let same : given ≡ r.given.entries = cc in
    let nothing : ls ≡ [] = between_none (names_of r) r.due ls h.0 begun in
    let rest = AreTensors.last (names_of r) left from none h.1 in
    ([], same ∙ sym (append-nil r.given.entries), subst (λ ks. AreTensors (names_of r) (text_of_lines ks ++ left) from []) (sym nothing) rest)
further r left n v given is (Onward.broken rule h e) ls from begun since at = absurd (cc)
further r left n v given is (Onward.step x bytes more q plain c o) ls from begun since at =
    comes r x n bytes more left given ls from q plain at begun since c (further x more (n + 1) v given is o)

from_start : (text : List ℕ) (first : ℕ) (given : Given_list) → ((q : Reader) × IsFresh q × Onward q text first (Ok given)) → AreTensors [] text first given
from_start text first given (q, fresh, o) =
    let f = further q text first (Ok given) given refl o [] first (none_between (names_of q) q.due fresh.1) (between_since q.due q.since first fresh.1) (omega arith) in
    let same : given ≡ f.0 = f.1 ∙ ap (λ es. es ++ f.0) fresh.0 in
    let names : names_of q ≡ [] = ap keys_of fresh.0 in
    subst (AreTensors [] text first) (sym same) (subst (λ ms. AreTensors ms text first f.0) names f.2)

pub reads_sequences : ReadsSequences
reads_sequences text first given h = from_start text first given (read_whole text first given h)
