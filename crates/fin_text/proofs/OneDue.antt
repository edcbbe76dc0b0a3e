-- A line of a tensor that is taken breaks no rule, and one that isn't taken breaks one.
use Rattle.std.proofs.Common.{◌≡◌, ℕ, ◌<◌, ◌≤◌, ◌^◌, List, length, refl, sym, ap, ap₂, subst, arith}
use Rattle.std.specs.Prelude.{slice_index}
use Rattle.fin_tensor.specs.Lines.{due, IsShape, IsVal}
use Rattle.fin_tensor.specs.Levels.{IsPtr}
use Rattle.fin_tensor.specs.declared.draft.Draft.{Draft}
use Rattle.fin_text.specs.DueLines.{HasForm, HasNumbers, IsSecond, IsTaken, IsValid, TellsOther, TellsOtherLevel, TellsPart, due_level, due_word, invalid_rule, second_word}
use Rattle.fin_text.specs.Reading.{IsBetween}
use Rattle.fin_text.specs.declared.due.Due.{Due}
use Rattle.fin_text.specs.declared.due.Due.TheVariants.{Tensor, Format, Fill, Shape, Ptr, Second, Val, End}
use Rattle.fin_text.proofs.OneLine.{SameDraft, SameDue, back_draft, same_level}
use Rattle.fin_text.proofs.Seconds.{no_part}

-- ---- what is the same where the same line is due

pub back : (d e : Due) → SameDue d e → SameDue e d
back d e SameDue.tensors = SameDue.tensors
back d e (SameDue.formats n m q) = SameDue.formats m n (sym q)
back d e (SameDue.fills h k q r) = SameDue.fills k h (sym q) (sym r)
back d e (SameDue.shapes h k q r) = SameDue.shapes k h (sym q) (sym r)
back d e (SameDue.ptrs a b s) = SameDue.ptrs b a (back_draft a.name b.name a.draft b.draft s)
back d e (SameDue.seconds a b s q) = SameDue.seconds b a (back_draft a.name b.name a.draft b.draft s) (sym q)
back d e (SameDue.vals a b s) = SameDue.vals b a (back_draft a.name b.name a.draft b.draft s)
back d e (SameDue.ends n m s t q r) = SameDue.ends m n t s (sym q) (sym r)

pub same_word : (d e : Due) → SameDue d e → due_word d ≡ due_word e
same_word d e SameDue.tensors = refl
same_word d e (SameDue.formats n m q) = refl
same_word d e (SameDue.fills h k q r) = refl
same_word d e (SameDue.shapes h k q r) = refl
same_word d e (SameDue.ptrs a b s) = refl
same_word d e (SameDue.seconds a b s q) = ap second_word (same_level a.name b.name a.draft b.draft s)
same_word d e (SameDue.vals a b s) = refl
same_word d e (SameDue.ends n m s t q r) = refl

pub same_between : (d e : Due) → SameDue d e → IsBetween d → IsBetween e
same_between d e SameDue.tensors h = tt
same_between d e (SameDue.formats n m q) h = h
same_between d e (SameDue.fills f k q r) h = h
same_between d e (SameDue.shapes f k q r) h = h
same_between d e (SameDue.ptrs a b s) h = h
same_between d e (SameDue.seconds a b s q) h = h
same_between d e (SameDue.vals a b s) h = h
same_between d e (SameDue.ends n m s t q r) h = h

pub both_between : (d e : Due) → IsBetween d → IsBetween e → SameDue d e
both_between Tensor Tensor h k = SameDue.tensors
both_between Tensor _ h k = elim k [ ]
both_between _ e h k = elim h [ ]

same_place : (x y : List ℕ) (d e : Draft) → SameDraft x d y e → length d.parts ≡ length e.parts
same_place x y d e s = ap length s.parts_are

pub same_other : (d e : Due) (after : List ℕ) → SameDue d e → TellsOtherLevel d after → TellsOtherLevel e after
same_other d e after SameDue.tensors h = h
same_other d e after (SameDue.formats n m q) h = h
same_other d e after (SameDue.fills f k q r) h = h
same_other d e after (SameDue.shapes f k q r) h = h
same_other d e after (SameDue.ptrs a b s) h = subst (λ k. TellsOther k after) (same_place a.name b.name a.draft b.draft s) h
same_other d e after (SameDue.seconds a b s q) h = subst (λ k. TellsOther k after) (same_place a.name b.name a.draft b.draft s) h
same_other d e after (SameDue.vals a b s) h = h
same_other d e after (SameDue.ends n m s t q r) h = h

pub same_form : (d e : Due) (after : List ℕ) → SameDue d e → HasForm d after → HasForm e after
same_form d e after SameDue.tensors h = h
same_form d e after (SameDue.formats n m q) h = h
same_form d e after (SameDue.fills f k q r) h = h
same_form d e after (SameDue.shapes f k q r) h = h
same_form d e after (SameDue.ptrs a b s) h = h
same_form d e after (SameDue.seconds a b s q) h = h
same_form d e after (SameDue.vals a b s) h = h
same_form d e after (SameDue.ends n m s t q r) h = h

pub same_numbers : (d e : Due) (after : List ℕ) → SameDue d e → HasNumbers d after → HasNumbers e after
same_numbers d e after SameDue.tensors h = h
same_numbers d e after (SameDue.formats n m q) h = h
same_numbers d e after (SameDue.fills f k q r) h = h
same_numbers d e after (SameDue.shapes f k q r) h = h
same_numbers d e after (SameDue.ptrs a b s) h = (h.0, subst (λ k. TellsPart k after h.0) (same_place a.name b.name a.draft b.draft s) h.1)
same_numbers d e after (SameDue.seconds a b s q) h = (h.0, subst (λ k. TellsPart k after h.0) (same_place a.name b.name a.draft b.draft s) h.1)
same_numbers d e after (SameDue.vals a b s) h = h
same_numbers d e after (SameDue.ends n m s t q r) h = h

pub same_valid : (given : List (List ℕ)) (d e : Due) (after : List ℕ) → SameDue d e → IsValid given d after → IsValid given e after
same_valid given d e after SameDue.tensors h = h
same_valid given d e after (SameDue.formats n m q) h = h
same_valid given d e after (SameDue.fills f k q r) h = h
same_valid given d e after (SameDue.shapes f k q r) h = (h.0, h.1, subst (λ x. IsShape x.levels h.0) r h.2)
same_valid given d e after (SameDue.ptrs a b s) h =
    (h.0, subst (λ k. TellsPart k after h.0) (same_place a.name b.name a.draft b.draft s) h.1, subst (λ n. IsPtr n h.0) (ap₂ due s.shape_is s.parts_are) h.2)
same_valid given d e after (SameDue.seconds a b s q) h =
    let numbers = h.0 in (
      numbers,
      subst (λ k. TellsPart k after numbers) (same_place a.name b.name a.draft b.draft s) h.1,
      subst (λ p. IsSecond (due_level b.draft) (slice_index b.draft.shape (length b.draft.parts)) (due b.draft.shape b.draft.parts) p numbers) q
          (subst (λ n. IsSecond (due_level b.draft) (slice_index b.draft.shape (length b.draft.parts)) n a.ptr numbers) (ap₂ due s.shape_is s.parts_are)
          (subst (λ n. IsSecond (due_level b.draft) n (due a.draft.shape a.draft.parts) a.ptr numbers) (ap₂ (λ (x : List ℕ) ps. slice_index x (length ps)) s.shape_is s.parts_are)
          (subst (λ l. IsSecond l (slice_index a.draft.shape (length a.draft.parts)) (due a.draft.shape a.draft.parts) a.ptr numbers) (same_level a.name b.name a.draft b.draft s) h.2))),
    )
same_valid given d e after (SameDue.vals a b s) h = (h.0, h.1, subst (λ ps. IsVal b.draft.shape ps h.0) s.parts_are (subst (λ x. IsVal x a.draft.parts h.0) s.shape_is h.2))
same_valid given d e after (SameDue.ends n m s t q r) h = h

pub same_rule : (d e : Due) → SameDue d e → invalid_rule d ≡ invalid_rule e
same_rule d e SameDue.tensors = refl
same_rule d e (SameDue.formats n m q) = refl
same_rule d e (SameDue.fills f k q r) = refl
same_rule d e (SameDue.shapes f k q r) = refl
same_rule d e (SameDue.ptrs a b s) = refl
same_rule d e (SameDue.seconds a b s q) = refl
same_rule d e (SameDue.vals a b s) = refl
same_rule d e (SameDue.ends n m s t q r) = refl

-- ---- a line that is taken breaks no rule

pub small : (k n : ℕ) → k < n → n ≤ 8 → k < 2 ^ 64
small k n h l = omega arith

pub tells_no_other : (k : ℕ) (after ns : List ℕ) → k < 2 ^ 64 → TellsPart k after ns → TellsOther k after → ⊥
tells_no_other k after ns fits h (w, rest, e, spaceless, ends, digits, leads, other) = no_part k after w rest fits (e, spaceless, ends) other ns h

pub taken_no_other : (given : List (List ℕ)) (d : Due) (after : List ℕ) (x : Due) → IsTaken given d after x → TellsOtherLevel d after → ⊥
taken_no_other given (Ptr a) after x (ns, h, _, k) t = tells_no_other (length a.draft.parts) after ns (small (length a.draft.parts) (length a.draft.format.levels) a.within a.draft.placed.few) h t
taken_no_other given (Second b) after x (ns, h, _, k) t = tells_no_other (length b.draft.parts) after ns (small (length b.draft.parts) (length b.draft.format.levels) b.within b.draft.placed.few) h t
taken_no_other given _ after x h t = elim t [ ]

pub taken_numbers : (given : List (List ℕ)) (d : Due) (after : List ℕ) (x : Due) → IsTaken given d after x → HasNumbers d after
taken_numbers given Tensor after x h = tt
taken_numbers given (Format n) after x h = tt
taken_numbers given (Fill f) after x h = (h.0, h.1)
taken_numbers given (Shape f) after x h = (h.0, h.1)
taken_numbers given (Ptr a) after x h = (h.0, h.1)
taken_numbers given (Second b) after x h = (h.0, h.1)
taken_numbers given (Val a) after x h = (h.0, h.1)
taken_numbers given (End n s) after x h = tt

pub taken_valid : (given : List (List ℕ)) (d : Due) (after : List ℕ) (x : Due) → IsTaken given d after x → IsValid given d after
taken_valid given Tensor after x h = (h.0, h.1, h.2)
taken_valid given (Format n) after x h = tt
taken_valid given (Fill f) after x h = tt
taken_valid given (Shape f) after x h = (h.0, h.1, h.2)
taken_valid given (Ptr a) after x h = (h.0, h.1, h.2)
taken_valid given (Second b) after x h = (h.0, h.1, h.2)
taken_valid given (Val a) after x h = (h.0, h.1, h.2)
taken_valid given (End n s) after x h = tt
