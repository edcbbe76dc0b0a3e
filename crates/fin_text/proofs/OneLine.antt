-- A line of a tensor tells one thing.
use Rattle.std.proofs.Common.{◌≡◌, ◌∙◌, ℕ, ◌<◌, List, ℤ, [], ◌∷◌, ◌++◌, length, codes, refl, sym, ap, ap₂, subst, arith}
use Rattle.std.specs.Prelude.{slice_index_or}
use Rattle.std.proofs.lemmas.List.{append_cancel_left, append_cancel_right}
use Rattle.std.specs.Fmt.{decimal}
use Rattle.fin_tensor.specs.declared.draft.Draft.{Draft}
use Rattle.fin_tensor.specs.declared.format.Format.{Format as TensorFormat}
use Rattle.fin_tensor.specs.declared.format.Level.{Level}
use Rattle.fin_tensor.specs.declared.format.Level.TheVariants as level
use Rattle.fin_tensor.specs.declared.format.Wrap.{Wrap}
use Rattle.fin_tensor.specs.declared.format.Wrap.TheVariants as wrap
use Rattle.fin_tensor.specs.declared.part.Part.{Part}
use Rattle.fin_tensor.specs.declared.storage.Storage.{Storage}
use Rattle.fin_tensor.specs.Placement.{IsBare}
use Rattle.fin_tensor.proofs.Same.{same_storage}
use Rattle.fin_text.specs.DueLines.{IsTold, IsAfter, IsNextName, IsNextFill, IsNextShape, IsNextSecond, IsNextEnd, IsTaken, TellsSizes, TellsPart, TellsValues, due_level, part_with, with_dense}
use Rattle.fin_text.specs.Numbers.{words, spaced_sizes}
use Rattle.fin_text.specs.Tensors.{level_word}
use Rattle.fin_text.specs.declared.due.AtLevel.{AtLevel}
use Rattle.fin_text.specs.declared.due.AtValues.{AtValues}
use Rattle.fin_text.specs.declared.due.BelowPtr.{BelowPtr}
use Rattle.fin_text.specs.declared.due.Due.{Due}
use Rattle.fin_text.specs.declared.due.Due.TheVariants.{Tensor, Format, Fill, Shape, Ptr, Second, Val, End}
use Rattle.fin_text.specs.declared.due.Head.{Head}
use Rattle.fin_text.proofs.LevelWords.{level_is_spelling}
use Rattle.fin_text.proofs.Reading.{spaced_one_to_one, spaced_sizes_one_to_one, words_one_to_one}

-- the same of a tensor is told so far
pub record SameDraft (name : List ℕ) (d : Draft) (other : List ℕ) (e : Draft) : Type 0 where
  pub name_is : name ≡ other
  pub format_is : d.format ≡ e.format
  pub shape_is : d.shape ≡ e.shape
  pub parts_are : d.parts ≡ e.parts

-- the same line is due, and the same is told so far
pub data SameDue : Due → Due → Type 0 where
  tensors : SameDue Tensor Tensor
  formats : (n m : List ℕ) → n ≡ m → SameDue (Format n) (Format m)
  fills : (h k : Head) → h.name ≡ k.name → h.format.levels ≡ k.format.levels → SameDue (Fill h) (Fill k)
  shapes : (h k : Head) → h.name ≡ k.name → h.format ≡ k.format → SameDue (Shape h) (Shape k)
  ptrs : (a b : AtLevel) → SameDraft a.name a.draft b.name b.draft → SameDue (Ptr a) (Ptr b)
  seconds : (a b : BelowPtr) → SameDraft a.name a.draft b.name b.draft → a.ptr ≡ b.ptr → SameDue (Second a) (Second b)
  vals : (a b : AtValues) → SameDraft a.name a.draft b.name b.draft → SameDue (Val a) (Val b)
  ends : (n m : List ℕ) (s t : Storage) → n ≡ m → s ≡ t → SameDue (End n s) (End m t)

-- ---- what a line tells

pub one_format : (after : List ℕ) (ls ms : List Level) → after ≡ words level_word ls ++ codes " element" → after ≡ words level_word ms ++ codes " element" → ls ≡ ms
one_format after ls ms h k =
    let same : words level_word ls ≡ words level_word ms = append_cancel_right (words level_word ls) (words level_word ms) (codes " element") (sym h ∙ k) in
    words_one_to_one level_word (λ l. Unit {0}) level_is_spelling ls ms (λ i d lt. tt) (λ i d lt. tt) same

pub one_shape : (after ns ms : List ℕ) → TellsSizes after ns → TellsSizes after ms → ns ≡ ms
one_shape after ns ms h k = spaced_sizes_one_to_one ns ms h.1 k.1 (sym h.0 ∙ k.0)

pub one_part : (k : ℕ) (after ns ms : List ℕ) → TellsPart k after ns → TellsPart k after ms → ns ≡ ms
one_part k after ns ms h g =
    let same : spaced_sizes ns ≡ spaced_sizes ms = append_cancel_left (32 ∷ decimal k) (spaced_sizes ns) (spaced_sizes ms) (sym h.0 ∙ g.0) in
    spaced_sizes_one_to_one ns ms h.1 g.1 same

pub one_values : (after : List ℕ) (vs ws : List ℤ) → TellsValues after vs → TellsValues after ws → vs ≡ ws
one_values after vs ws h k = spaced_one_to_one vs ws h.1 k.1 (sym h.0 ∙ k.0)

-- ---- what is due next

next_name : (n m : List ℕ) (d e : Due) → n ≡ m → IsNextName n d → IsNextName m e → SameDue d e
next_name n m (Format x) (Format y) q h k = formats x y (h ∙ q ∙ sym k)
next_name n m (Format x) _ q h k = elim k [ ]
next_name n m _ e q h k = elim h [ ]

next_fill : (n m : List ℕ) (ls ms : List Level) (d e : Due) → n ≡ m → ls ≡ ms → IsNextFill n ls d → IsNextFill m ms e → SameDue d e
next_fill n m ls ms (Fill x) (Fill y) q r h k = fills x y (h.0 ∙ q ∙ sym k.0) (h.1 ∙ r ∙ sym k.1)
next_fill n m ls ms (Fill x) _ q r h k = elim k [ ]
next_fill n m ls ms _ e q r h k = elim h [ ]

-- bare formats with the same levels and fill
bare_is : (w : Wrap) → IsBare w → w ≡ wrap.Bare
bare_is wrap.Bare h = refl
bare_is wrap.Atomic h = elim h [ ]
bare_is (wrap.Mutex n) h = elim h [ ]
bare_is wrap.Shard h = elim h [ ]

pub same_format : (f g : TensorFormat) → IsBare f.wrap → IsBare g.wrap → f.levels ≡ g.levels → f.fill ≡ g.fill → f ≡ g
same_format f g b c ls fill =
    let same : f.wrap ≡ g.wrap = bare_is f.wrap b ∙ sym (bare_is g.wrap c) in
    λ i. record { levels = ls i; wrap = same i; fill = fill i }

next_shape : (n m : List ℕ) (ls ms : List Level) (v w : ℤ) (d e : Due) → n ≡ m → ls ≡ ms → v ≡ w → IsNextShape n ls v d → IsNextShape m ms w e → SameDue d e
next_shape n m ls ms v w (Shape x) (Shape y) q r s h k = shapes x y (h.0 ∙ q ∙ sym k.0) (same_format x.format y.format x.bare y.bare (h.1 ∙ r ∙ sym k.1) (h.2 ∙ s ∙ sym k.2))
next_shape n m ls ms v w (Shape x) _ q r s h k = elim k [ ]
next_shape n m ls ms v w _ e q r s h k = elim h [ ]

same_told : (n m : List ℕ) (f g : TensorFormat) (ns ms : List ℕ) (ps qs : List Part) (x y : List ℕ) (d e : Draft)
    → n ≡ m → f ≡ g → ns ≡ ms → ps ≡ qs → IsTold n f ns ps x d → IsTold m g ms qs y e → SameDraft x d y e
same_told n m f g ns ms ps qs x y d e a b c p h k = record {
  name_is = h.name_is ∙ a ∙ sym k.name_is;
  format_is = h.format_is ∙ b ∙ sym k.format_is;
  shape_is = h.shape_is ∙ c ∙ sym k.shape_is;
  parts_are = h.parts_are ∙ p ∙ sym k.parts_are;
}

-- levels are left or none is
not_all : (x y : List ℕ) (d e : Draft) → SameDraft x d y e → length d.parts < length d.format.levels → length e.parts ≡ length e.format.levels → ⊥
not_all x y d e s h k =
    let p : length d.parts ≡ length e.parts = ap length s.parts_are in
    let f : length d.format.levels ≡ length e.format.levels = ap (λ g. length g.levels) s.format_is in
    omega arith

pub back_draft : (x y : List ℕ) (d e : Draft) → SameDraft x d y e → SameDraft y e x d
back_draft x y d e s = record { name_is = sym s.name_is; format_is = sym s.format_is; shape_is = sym s.shape_is; parts_are = sym s.parts_are }

next_after : (n m : List ℕ) (f g : TensorFormat) (ns ms : List ℕ) (ps qs : List Part) (d e : Due) → n ≡ m → f ≡ g → ns ≡ ms → ps ≡ qs → IsAfter n f ns ps d → IsAfter m g ms qs e → SameDue d e
next_after n m f g ns ms ps qs (Ptr x) (Ptr y) a b c p h k = ptrs x y (same_told n m f g ns ms (with_dense f ps) (with_dense g qs) x.name y.name x.draft y.draft a b c (ap₂ with_dense b p) h k)
next_after n m f g ns ms ps qs (Val x) (Val y) a b c p h k = vals x y (same_told n m f g ns ms (with_dense f ps) (with_dense g qs) x.name y.name x.draft y.draft a b c (ap₂ with_dense b p) h k)
next_after n m f g ns ms ps qs (Ptr x) (Val y) a b c p h k =
    let s = same_told n m f g ns ms (with_dense f ps) (with_dense g qs) x.name y.name x.draft y.draft a b c (ap₂ with_dense b p) h k in
    absurd (not_all x.name y.name x.draft y.draft s x.within y.all)
next_after n m f g ns ms ps qs (Val x) (Ptr y) a b c p h k =
    let s = same_told n m f g ns ms (with_dense f ps) (with_dense g qs) x.name y.name x.draft y.draft a b c (ap₂ with_dense b p) h k in
    absurd (not_all y.name x.name y.draft x.draft (back_draft x.name y.name x.draft y.draft s) y.within x.all)
next_after n m f g ns ms ps qs (Ptr x) _ a b c p h k = elim k [ ]
next_after n m f g ns ms ps qs (Val x) _ a b c p h k = elim k [ ]
next_after n m f g ns ms ps qs _ e a b c p h k = elim h [ ]

next_second : (n m : List ℕ) (d e : Draft) (ns ms : List ℕ) (x y : Due) → SameDraft n d m e → ns ≡ ms → IsNextSecond n d ns x → IsNextSecond m e ms y → SameDue x y
next_second n m d e ns ms (Second x) (Second y) s q h k =
    seconds x y (same_told n m d.format e.format d.shape e.shape d.parts e.parts x.name y.name x.draft y.draft s.name_is s.format_is s.shape_is s.parts_are h.0 k.0) (h.1 ∙ q ∙ sym k.1)
next_second n m d e ns ms (Second x) _ s q h k = elim k [ ]
next_second n m d e ns ms _ y s q h k = elim h [ ]

next_end : (n m : List ℕ) (d e : Draft) (vs ws : List ℤ) (x y : Due) → SameDraft n d m e → vs ≡ ws → IsNextEnd n d vs x → IsNextEnd m e ws y → SameDue x y
next_end n m d e vs ws (End x s) (End y t) same q h k =
    ends x y s t (h.0 ∙ same.name_is ∙ sym k.0)
    (same_storage s t (h.1 ∙ same.format_is ∙ sym k.1) (h.2 ∙ same.shape_is ∙ sym k.2) (h.3 ∙ same.parts_are ∙ sym k.3) (h.4 ∙ q ∙ sym k.4))
next_end n m d e vs ws (End x s) _ same q h k = elim k [ ]
next_end n m d e vs ws _ y same q h k = elim h [ ]

pub one_head : (after n m : List ℕ) → after ≡ 32 ∷ n → after ≡ 32 ∷ m → n ≡ m
one_head after n m h k = let same : 32 ∷ n ≡ 32 ∷ m = sym h ∙ k in cc

pub same_level : (x y : List ℕ) (d e : Draft) → SameDraft x d y e → due_level d ≡ due_level e
same_level x y d e s = ap₂ (λ (f : TensorFormat) (p : List Part). slice_index_or f.levels (length p) level.Dense) s.format_is s.parts_are

-- the same line makes the same due
pub same_taken : (given : List (List ℕ)) (d e : Due) (after : List ℕ) (x y : Due) → SameDue d e → IsTaken given d after x → IsTaken given e after y → SameDue x y
same_taken given d e after x y tensors (n, a, _, h) (m, b, _, k) = next_name n m x y (one_head after n m a b) h k
same_taken given d e after x y (formats n m q) (ls, a, h) (ms, b, k) = next_fill n m ls ms x y q (one_format after ls ms a b) h k
same_taken given d e after x y (fills f g n l) (v, a, h) (w, b, k) =
    let same : v ∷ [] ≡ w ∷ [] = one_values after (v ∷ []) (w ∷ []) a b in
    next_shape f.name g.name f.format.levels g.format.levels v w x y n l (cc) h k
same_taken given d e after x y (shapes f g n q) (ns, a, _, h) (ms, b, _, k) = next_after f.name g.name f.format g.format ns ms [] [] x y n q (one_shape after ns ms a b) refl h k
same_taken given d e after x y (ptrs f g s) (ns, a, _, h) (ms, b, _, k) =
    let level : length f.draft.parts ≡ length g.draft.parts = ap length s.parts_are in
    next_second f.name g.name f.draft g.draft ns ms x y s (one_part (length f.draft.parts) after ns ms a (subst (λ i. TellsPart i after ms) (sym level) b)) h k
same_taken given d e after x y (seconds f g s p) (ns, a, _, h) (ms, b, _, k) =
    let level : length f.draft.parts ≡ length g.draft.parts = ap length s.parts_are in
    let numbers : ns ≡ ms = one_part (length f.draft.parts) after ns ms a (subst (λ i. TellsPart i after ms) (sym level) b) in
    let kind : due_level f.draft ≡ due_level g.draft = same_level f.name g.name f.draft g.draft s in
    let part : part_with (due_level f.draft) f.ptr ns ≡ part_with (due_level g.draft) g.ptr ms = (λ i. part_with (kind i) (p i) (numbers i)) in
    next_after f.name g.name f.draft.format g.draft.format f.draft.shape g.draft.shape (f.draft.parts ++ part_with (due_level f.draft) f.ptr ns ∷ []) (g.draft.parts ++ part_with (due_level g.draft) g.ptr ms ∷ [])
    x y s.name_is s.format_is s.shape_is (ap₂ (λ ps q. ps ++ q ∷ []) s.parts_are part) h k
same_taken given d e after x y (vals f g s) (vs, a, _, h) (ws, b, _, k) = next_end f.name g.name f.draft g.draft vs ws x y s (one_values after vs ws a b) h k
same_taken given d e after x y (ends n m s t q r) h k = elim h [ ]
