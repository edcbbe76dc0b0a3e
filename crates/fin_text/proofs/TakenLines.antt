-- The lines of a tensor's text are taken, each where it is due.
use Rattle.std.proofs.Common.{◌≡◌, ◌∙◌, ℕ, ◌<◌, ◌≤◌, ℤ, List, [], ◌∷◌, ◌++◌, length, codes, refl, sym, ap, ap₂, subst, arith}
use Rattle.std.specs.Prelude.{All, Contains, slice_index, slice_index_or}
use Rattle.std.proofs.lemmas.List.{append-nil}
use Rattle.std.proofs.lemmas.List.Elements.{All-nil, All-cons, All-tail}
use Rattle.fin_base.specs.Words.{IsWord}
use Rattle.fin_tensor.specs.Lines.{IsShape, IsVal, due}
use Rattle.fin_tensor.specs.Levels.{IsPtr}
use Rattle.fin_tensor.specs.Placement.{IsPlaced}
use Rattle.fin_tensor.specs.declared.draft.Draft.{Draft}
use Rattle.fin_tensor.specs.declared.format.Format.{Format as TensorFormat}
use Rattle.fin_tensor.specs.declared.format.Level.{Level}
use Rattle.fin_tensor.specs.declared.format.Level.TheVariants as level
use Rattle.fin_tensor.specs.declared.format.Wrap.TheVariants.{Bare}
use Rattle.fin_tensor.specs.declared.part.Part.{Part}
use Rattle.fin_tensor.specs.declared.storage.Storage.{Storage}
use Rattle.fin_tensor.proofs.Same.{same_storage}
use Rattle.fin_text.specs.DueLines.{HasForm, HasNumbers, IsAfter, IsNextEnd, IsNextFill, IsNextName, IsNextSecond, IsNextShape, IsSecond, IsTold, IsValid, TellsOtherLevel, TellsPart, TellsValues, due_level, due_word, part_with, second_word, with_dense}
use Rattle.fin_text.specs.Names.{IsName}
use Rattle.fin_text.specs.Numbers.{IsSize, spaced, spaced_sizes, spelled, words}
use Rattle.fin_text.specs.Reading.{IsAfterRest, IsBetween, names_of}
use Rattle.fin_text.specs.Tensors.{level_word}
use Rattle.fin_text.specs.declared.due.Due.{Due}
use Rattle.fin_text.specs.declared.due.Due.TheVariants.{Tensor, Format, Fill, Shape, Ptr, Second, Val, End}
use Rattle.fin_text.specs.declared.read.Reader.{Reader}
use Rattle.fin_text.proofs.OneDue.{small, tells_no_other}
use Rattle.fin_text.proofs.OneLine.{one_format, one_head, one_part, one_shape, one_values, same_format}
use Rattle.fin_text.proofs.Spellings.{spelled_in_word}
use Rattle.fin_text.proofs.WordLines.{sizes_form, spaceless, value_some, values_form}

-- what follows the due word breaks no rule
pub record IsGood (given : List (List ℕ)) (d : Due) (after : List ℕ) : Type 0 where
  pub other : TellsOtherLevel d after → ⊥
  pub form : HasForm d after
  pub numbers : HasNumbers d after
  pub valid : IsValid given d after

-- inside a tensor, the line is due, breaks no rule, and makes this of what is due
pub record IsLine (r : Reader) (n : ℕ) (word after : List ℕ) (Q : Due → Type 0) (d : Due) : Type 0 where
  pub word_is : word ≡ due_word d
  pub inside : IsBetween d → ⊥
  pub good : IsGood (names_of r) d after
  pub next : (x : Reader) → IsAfterRest d r n after x → (x.given.entries ≡ r.given.entries) × (x.since ≡ r.since) × Q x.due

-- between tensors, a line that names one
pub good_name : (given : List (List ℕ)) (name : List ℕ) (d : Due) → IsName name → (Contains given name → ⊥) → IsBetween d → IsGood given d (32 ∷ name)
good_name given name Tensor is new h = record { other = λ t. t; form = (name, refl, is); numbers = tt; valid = (name, refl, new) }
good_name given name _ is new h = elim h [ ]

pub name_word : (d : Due) → IsBetween d → codes "tensor" ≡ due_word d
name_word Tensor h = refl
name_word _ h = elim h [ ]

pub after_name : (r : Reader) (n : ℕ) (name : List ℕ) (d : Due) (x : Reader) → IsBetween d → IsAfterRest d r n (32 ∷ name) x → (x.given.entries ≡ r.given.entries) × (x.since ≡ n) × IsNextName name x.due
after_name r n name Tensor x h (g, s, _, (m, e, _, k)) = (g, s, subst (λ a. IsNextName a x.due) (sym (one_head (32 ∷ name) name m refl e)) k)
after_name r n name _ x h t = elim h [ ]

-- `ptr` of a level was told
abbrev pub IsBelow : List ℕ → TensorFormat → List ℕ → List Part → List ℕ → Due → Type 0
IsBelow name format shape front ptr (Second below) = IsTold name format shape front below.name below.draft × (below.ptr ≡ ptr)
IsBelow name format shape front ptr _ = ⊥

-- the storage is whole
abbrev pub IsDone : List ℕ → Storage → Due → Type 0
IsDone name s (End m t) = (m ≡ name) × (t ≡ s)
IsDone name s _ = ⊥

module _ (r : Reader) (n : ℕ) (name : List ℕ) where
  pub format_is_due : (ls : List Level) → IsPlaced ls Bare → (d : Due) → IsNextName name d → IsLine r n (codes "format") (words level_word ls ++ codes " element") (IsNextFill name ls) d
  format_is_due ls placed (Format m) h = record {
    word_is = refl;
    inside = λ b. b;
    good = record { other = λ t. t; form = (ls, refl, placed); numbers = tt; valid = tt };
    next = λ x t.
        let k = t.3 in
        (t.0, t.1, subst (λ l. IsNextFill name l x.due) (one_format (words level_word ls ++ codes " element") k.0 ls k.1 refl) (subst (λ a. IsNextFill a k.0 x.due) h k.2));
  }
  format_is_due ls placed _ h = elim h [ ]

  one_value : (v : ℤ) → IsWord v → TellsValues (32 ∷ spelled v) (v ∷ [])
  one_value v h = (sym (append-nil (32 ∷ spelled v)), All-cons IsWord v [] h (All-nil IsWord))

  pub fill_is_due : (ls : List Level) (v : ℤ) → IsWord v → (d : Due) → IsNextFill name ls d → IsLine r n (codes "fill") (32 ∷ spelled v) (IsNextShape name ls v) d
  fill_is_due ls v fits (Fill head) h = record {
    word_is = refl;
    inside = λ b. b;
    good = record { other = λ t. t; form = (spelled v, refl, spaceless (spelled v) (spelled_in_word v fits), value_some v fits); numbers = (v, one_value v fits); valid = tt };
    next = λ x t.
        let k = t.3 in
        let same : k.0 ∷ [] ≡ v ∷ [] = one_values (32 ∷ spelled v) (k.0 ∷ []) (v ∷ []) k.1 (one_value v fits) in
        let value : k.0 ≡ v = cc in
        (t.0, t.1, subst (λ u. IsNextShape name ls u x.due) value (subst (λ l. IsNextShape name l k.0 x.due) h.1 (subst (λ a. IsNextShape a head.format.levels k.0 x.due) h.0 k.2)));
  }
  fill_is_due ls v fits _ h = elim h [ ]

  pub shape_is_due : (s : Storage) → IsShape s.format.levels s.shape → All IsSize s.shape → (d : Due) → IsNextShape name s.format.levels s.format.fill d
      → IsLine r n (codes "shape") (spaced_sizes s.shape) (IsAfter name s.format s.shape []) d
  shape_is_due s valid sizes (Shape head) h = record {
    word_is = refl;
    inside = λ b. b;
    good = record {
      other = λ t. t;
      form = sizes_form s.shape sizes;
      numbers = (s.shape, (refl, sizes));
      valid = (s.shape, (refl, sizes), subst (λ l. IsShape l s.shape) (sym h.1) valid);
    };
    next = λ x t.
        let k = t.3 in
        let shape : k.0 ≡ s.shape = one_shape (spaced_sizes s.shape) k.0 s.shape k.1 (refl, sizes) in
        let format : head.format ≡ s.format = same_format head.format s.format head.bare s.bare h.1 h.2 in
        (t.0, t.1, subst (λ ns. IsAfter name s.format ns [] x.due) shape (subst (λ f. IsAfter name f k.0 [] x.due) format (subst (λ a. IsAfter a head.format k.0 [] x.due) h.0 k.3)));
  }
  shape_is_due s valid sizes _ h = elim h [ ]

  module _ (format : TensorFormat) (shape : List ℕ) (front : List Part) where
    below_next : (ptr ns : List ℕ) (m : List ℕ) (draft : Draft) (x : Due) → IsTold name format shape front m draft → ns ≡ ptr → IsNextSecond m draft ns x → IsBelow name format shape front ptr x
    below_next ptr ns m draft (Second b) told same h = (
      record { name_is = h.0.name_is ∙ told.name_is; format_is = h.0.format_is ∙ told.format_is; shape_is = h.0.shape_is ∙ told.shape_is; parts_are = h.0.parts_are ∙ told.parts_are },
      h.1 ∙ same,
    )
    below_next ptr ns m draft _ told same h = elim h [ ]

    pub ptr_is_due : (ptr : List ℕ) → with_dense format front ≡ front → length front < length format.levels → All IsSize (length front ∷ ptr) → IsPtr (due shape front) ptr → (d : Due) → IsAfter name format shape front d
        → IsLine r n (codes "ptr") (spaced_sizes (length front ∷ ptr)) (IsBelow name format shape front ptr) d
    ptr_is_due ptr here lt sizes valid (Ptr at) h =
        let after = spaced_sizes (length front ∷ ptr) in
        let parts : at.draft.parts ≡ front = h.parts_are ∙ here in
        let told : IsTold name format shape front at.name at.draft = record { name_is = h.name_is; format_is = h.format_is; shape_is = h.shape_is; parts_are = parts } in
        let own = tail_sizes sizes in
        let tells : TellsPart (length at.draft.parts) after ptr = subst (λ k. TellsPart k after ptr) (sym (ap length parts)) (refl, own) in
        record {
          word_is = refl;
          inside = λ b. b;
          good = record {
            other = tells_no_other (length at.draft.parts) after ptr (small (length at.draft.parts) (length at.draft.format.levels) at.within at.draft.placed.few) tells;
            form = (omega arith, sizes_form (length front ∷ ptr) sizes);
            numbers = (ptr, tells);
            valid = (ptr, tells, subst (λ f. IsPtr f ptr) (ap₂ due (sym h.shape_is) (sym parts)) valid);
          };
          next = λ x t. let k = t.3 in (t.0, t.1, below_next ptr k.0 at.name at.draft x.due told (one_part (length at.draft.parts) after k.0 ptr k.1 tells) k.3);
        }
      where
        tail_sizes : All IsSize (length front ∷ ptr) → All IsSize ptr
        tail_sizes h = All-tail IsSize (length front) ptr h
    ptr_is_due ptr here lt sizes valid (Val at) h =
        let all = at.all in
        let parts : at.draft.parts ≡ front = h.parts_are ∙ here in
        absurd (omega (arith, all, lt, ap length parts, ap (λ f. length f.levels) h.format_is))
    ptr_is_due ptr here lt sizes valid _ h = elim h [ ]

    pub second_is_due : (l : Level) (ptr xs : List ℕ) → slice_index_or format.levels (length front) level.Dense ≡ l → length format.levels ≤ 8 → All IsSize (length front ∷ xs) → All IsSize xs
        → IsSecond l (slice_index shape (length front)) (due shape front) ptr xs → (d : Due) → IsBelow name format shape front ptr d
        → IsLine r n (second_word l) (spaced_sizes (length front ∷ xs)) (IsAfter name format shape (front ++ part_with l ptr xs ∷ [])) d
    second_is_due l ptr xs kind few sizes own valid (Second b) (told, same) =
        let after = spaced_sizes (length front ∷ xs) in
        let level_is : due_level b.draft ≡ l = ap₂ (λ (f : TensorFormat) (ps : List Part). slice_index_or f.levels (length ps) level.Dense) told.format_is told.parts_are ∙ kind in
        let tells : TellsPart (length b.draft.parts) after xs = subst (λ k. TellsPart k after xs) (sym (ap length told.parts_are)) (refl, own) in
        record {
          word_is = ap second_word (sym level_is);
          inside = λ h. h;
          good = record {
            other = tells_no_other (length b.draft.parts) after xs (small (length b.draft.parts) (length b.draft.format.levels) b.within b.draft.placed.few) tells;
            form = (omega arith, sizes_form (length front ∷ xs) sizes);
            numbers = (xs, tells);
            valid = (
              xs,
              tells,
              subst (λ q. IsSecond (due_level b.draft) (slice_index b.draft.shape (length b.draft.parts)) (due b.draft.shape b.draft.parts) q xs) (sym same)
                  (subst (λ i. IsSecond i (slice_index b.draft.shape (length b.draft.parts)) (due b.draft.shape b.draft.parts) ptr xs) (sym level_is)
                  (subst (λ ps. IsSecond l (slice_index b.draft.shape (length ps)) (due b.draft.shape ps) ptr xs) (sym told.parts_are)
                  (subst (λ ns. IsSecond l (slice_index ns (length front)) (due ns front) ptr xs) (sym told.shape_is) valid))),
            );
          };
          next = λ x t.
              let k = t.3 in
              let numbers : k.0 ≡ xs = one_part (length b.draft.parts) after k.0 xs k.1 tells in
              let part : part_with (due_level b.draft) b.ptr k.0 ≡ part_with l ptr xs = (λ i. part_with (level_is i) (same i) (numbers i)) in
              let parts : b.draft.parts ++ part_with (due_level b.draft) b.ptr k.0 ∷ [] ≡ front ++ part_with l ptr xs ∷ [] = ap₂ (λ ps q. ps ++ q ∷ []) told.parts_are part in (
                t.0,
                t.1,
                subst (λ a. IsAfter a format shape (front ++ part_with l ptr xs ∷ []) x.due) told.name_is
                    (subst (λ f. IsAfter b.name f shape (front ++ part_with l ptr xs ∷ []) x.due) told.format_is
                    (subst (λ ns. IsAfter b.name b.draft.format ns (front ++ part_with l ptr xs ∷ []) x.due) told.shape_is
                    (subst (λ ps. IsAfter b.name b.draft.format b.draft.shape ps x.due) parts k.3))),
              );
        }
    second_is_due l ptr xs kind few sizes own valid _ h = elim h [ ]

  done_next : (s : Storage) (m : List ℕ) (draft : Draft) (vs : List ℤ) (x : Due) → IsTold name s.format s.shape s.parts m draft → vs ≡ s.val → IsNextEnd m draft vs x → IsDone name s x
  done_next s m draft vs (End a t) told same h = (h.0 ∙ told.name_is, same_storage t s (h.1 ∙ told.format_is) (h.2 ∙ told.shape_is) (h.3 ∙ told.parts_are) (h.4 ∙ same))
  done_next s m draft vs _ told same h = elim h [ ]

  pub val_is_due : (s : Storage) → with_dense s.format s.parts ≡ s.parts → length s.parts ≡ length s.format.levels → All IsWord s.val → IsVal s.shape s.parts s.val → (d : Due) → IsAfter name s.format s.shape s.parts d
      → IsLine r n (codes "val") (spaced s.val) (IsDone name s) d
  val_is_due s here all fits valid (Val at) h =
      let parts : at.draft.parts ≡ s.parts = h.parts_are ∙ here in
      let told : IsTold name s.format s.shape s.parts at.name at.draft = record { name_is = h.name_is; format_is = h.format_is; shape_is = h.shape_is; parts_are = parts } in
      record {
        word_is = refl;
        inside = λ b. b;
        good = record {
          other = λ t. t;
          form = values_form s.val fits;
          numbers = (s.val, (refl, fits));
          valid = (s.val, (refl, fits), subst (λ ps. IsVal at.draft.shape ps s.val) (sym parts) (subst (λ ns. IsVal ns s.parts s.val) (sym h.shape_is) valid));
        };
        next = λ x t. let k = t.3 in (t.0, t.1, done_next s at.name at.draft k.0 x.due told (one_values (spaced s.val) k.0 s.val k.1 (refl, fits)) k.3);
      }
  val_is_due s here all fits valid (Ptr at) h =
      let within = at.within in
      let parts : at.draft.parts ≡ s.parts = h.parts_are ∙ here in
      absurd (omega (arith, all, within, ap length parts, ap (λ f. length f.levels) h.format_is))
  val_is_due s here all fits valid _ h = elim h [ ]

  pub good_end : (given : List (List ℕ)) (s : Storage) (d : Due) → IsDone name s d → (codes "end" ≡ due_word d) × (IsBetween d → ⊥) × IsGood given d []
  good_end given s (End m t) h = (refl, λ b. b, record { other = λ t. t; form = refl; numbers = tt; valid = tt })
  good_end given s _ h = elim h [ ]
