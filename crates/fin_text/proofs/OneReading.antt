-- A line of a text of tensors is taken or breaks a rule, in one way.
use Rattle.std.proofs.Common.{◌≡◌, ◌∙◌, ◌⊎◌, inl, inr, ℕ, List, [], ◌∷◌, ◌++◌, map, false, refl, sym, ap₂, subst, arith}
use Rattle.std.specs.Prelude.{Contains}
use Rattle.fin_base.specs.declared.refusal.Rule.{Rule}
use Rattle.fin_tensor.specs.Placement.{is_dense}
use Rattle.fin_tensor.specs.declared.format.Level.{Level}
use Rattle.fin_tensor.specs.declared.format.Level.TheVariants as level
use Rattle.fin_text.specs.DueLines.{Breaks, HasForm, HasNumbers, IsTaken, IsValid, TellsOtherLevel, due_level, due_word, known_words, second_word}
use Rattle.fin_text.specs.Numbers.{IsFirstWord}
use Rattle.fin_text.specs.Reading.{BreaksLine, ComesTo, IsAfterLine, IsAfterRest, IsBetween, Skips, names_of}
use Rattle.fin_text.specs.declared.due.Due.{Due}
use Rattle.fin_text.specs.declared.due.Due.TheVariants.{Tensor, Format, Fill, Shape, Ptr, Second, Val, End}
use Rattle.fin_text.specs.declared.read.Given.{Given}
use Rattle.fin_text.specs.declared.read.Reader.{Reader}
use Rattle.fin_text.proofs.OneDue.{back, same_word, same_between, both_between, same_other, same_form, same_numbers, same_valid, same_rule, taken_no_other, taken_numbers, taken_valid}
use Rattle.fin_text.proofs.OneLine.{SameDue, same_taken}
use Rattle.fin_text.proofs.Reading.{one_cut}

-- the same was read, but for the line of a tensor that hasn't begun
pub record Agree (r s : Reader) : Type 0 where
  pub given_is : r.given.entries ≡ s.given.entries
  pub due_is : SameDue r.due s.due
  pub since_is : IsBetween r.due ⊎ (r.since ≡ s.since)

-- ---- a line that is taken

inside : (d e : Due) (r s : Reader) (after : List ℕ) (x y : Reader) → (IsBetween d → ⊥) → SameDue d e → r.given.entries ≡ s.given.entries → IsBetween d ⊎ (r.since ≡ s.since)
    → x.given.entries ≡ r.given.entries → x.since ≡ r.since → IsTaken [] d after x.due → y.given.entries ≡ s.given.entries → y.since ≡ s.since → IsTaken [] e after y.due → Agree x y
inside d e r s after x y not q g since xg xs h yg ys k = record {
  given_is = xg ∙ g ∙ sym yg;
  due_is = same_taken [] d e after x.due y.due q h k;
  since_is = elim since [ inl b ↦ elim (not b) [ ] | inr l ↦ inr (xs ∙ l ∙ sym ys) ];
}

rest_agrees : (d e : Due) (r s : Reader) (line : ℕ) (after : List ℕ) (x y : Reader) → SameDue d e → r.given.entries ≡ s.given.entries → IsBetween d ⊎ (r.since ≡ s.since)
    → IsAfterRest d r line after x → IsAfterRest e s line after y → Agree x y
rest_agrees d e r s line after x y SameDue.tensors g since (xg, xs, _, h) (yg, ys, _, k) = record {
  given_is = xg ∙ g ∙ sym yg;
  due_is = same_taken (names_of s) Tensor Tensor after x.due y.due SameDue.tensors (subst (λ l. IsTaken (map (λ (t : List ℕ × Given). t.0) l) Tensor after x.due) g h) k;
  since_is = inr (xs ∙ sym ys);
}
rest_agrees d e r s line after x y (SameDue.ends n m t u p q) g since (xg, xb, _) (yg, yb, _) = elim since [
  | inl b ↦ elim b [ ]
  | inr l ↦ record {
    given_is = xg ∙ ap₂ (λ ts t. ts ++ t ∷ []) g (λ i. (p i, record { storage = q i; line = l i })) ∙ sym yg;
    due_is = both_between x.due y.due xb yb;
    since_is = inl xb;
  }
]
rest_agrees d e r s line after x y (SameDue.formats n m p) g since (xg, xs, _, h) (yg, ys, _, k) = inside d e r s after x y (λ b. b) (SameDue.formats n m p) g since xg xs h yg ys k
rest_agrees d e r s line after x y (SameDue.fills f j p q) g since (xg, xs, _, h) (yg, ys, _, k) = inside d e r s after x y (λ b. b) (SameDue.fills f j p q) g since xg xs h yg ys k
rest_agrees d e r s line after x y (SameDue.shapes f j p q) g since (xg, xs, _, h) (yg, ys, _, k) = inside d e r s after x y (λ b. b) (SameDue.shapes f j p q) g since xg xs h yg ys k
rest_agrees d e r s line after x y (SameDue.ptrs a b p) g since (xg, xs, _, h) (yg, ys, _, k) = inside d e r s after x y (λ c. c) (SameDue.ptrs a b p) g since xg xs h yg ys k
rest_agrees d e r s line after x y (SameDue.seconds a b p q) g since (xg, xs, _, h) (yg, ys, _, k) = inside d e r s after x y (λ c. c) (SameDue.seconds a b p q) g since xg xs h yg ys k
rest_agrees d e r s line after x y (SameDue.vals a b p) g since (xg, xs, _, h) (yg, ys, _, k) = inside d e r s after x y (λ c. c) (SameDue.vals a b p) g since xg xs h yg ys k

pub one_word : (bytes w a v b : List ℕ) → IsFirstWord bytes w a → IsFirstWord bytes v b → (w ≡ v) × (a ≡ b)
one_word bytes w a v b h k = one_cut w a v b h.spaceless k.spaceless h.ends k.ends (sym h.whole ∙ k.whole)

pub skips_too : (r s : Reader) (bytes : List ℕ) → Agree r s → Skips r bytes → Skips s bytes
skips_too r s bytes a h = (same_between r.due s.due a.due_is h.0, h.1)

pub swap : (r s : Reader) → Agree r s → Agree s r
swap r s a = record {
  given_is = sym a.given_is;
  due_is = back r.due s.due a.due_is;
  since_is = elim a.since_is [ inl b ↦ inl (same_between r.due s.due a.due_is b) | inr l ↦ inr (sym l) ];
}

pub same_line : (r s : Reader) (line : ℕ) (bytes : List ℕ) (x y : Reader) → Agree r s → ComesTo r line bytes x → ComesTo s line bytes y → Agree x y
same_line r s line bytes x y a (ComesTo.skipped h) (ComesTo.skipped k) = a
same_line r s line bytes x y a (ComesTo.skipped h) (ComesTo.taken n not k) = absurd (not (skips_too r s bytes a h))
same_line r s line bytes x y a (ComesTo.taken m not h) (ComesTo.skipped k) = absurd (not (skips_too s r bytes (swap r s a) k))
same_line r s line bytes x y a (ComesTo.taken m not h) (ComesTo.taken n other k) =
    let cut = one_word bytes (due_word r.due) h.after (due_word s.due) k.after h.first k.first in
    rest_agrees r.due s.due r s line h.after x y a.due_is a.given_is a.since_is h.rest (subst (λ t. IsAfterRest s.due s line t y) (sym cut.1) k.rest)

-- ---- a line that breaks a rule

after_facts : (d : Due) (r : Reader) (line : ℕ) (after : List ℕ) (x : Reader) → IsAfterRest d r line after x
    → ¬ (TellsOtherLevel d after) × HasForm d after × HasNumbers d after × IsValid (names_of r) d after
after_facts Tensor r line after x h = (λ t. t, h.2, tt, taken_valid (names_of r) Tensor after x.due h.3)
after_facts (End n s) r line after x h = (λ t. t, h.2, tt, tt)
after_facts (Format n) r line after x h = (λ t. t, h.2, tt, tt)
after_facts (Fill f) r line after x h = (λ t. t, h.2, taken_numbers [] (Fill f) after x.due h.3, tt)
after_facts (Shape f) r line after x h = (λ t. t, h.2, taken_numbers [] (Shape f) after x.due h.3, taken_valid [] (Shape f) after x.due h.3)
after_facts (Ptr a) r line after x h = (taken_no_other [] (Ptr a) after x.due h.3, h.2, taken_numbers [] (Ptr a) after x.due h.3, taken_valid [] (Ptr a) after x.due h.3)
after_facts (Second b) r line after x h = (taken_no_other [] (Second b) after x.due h.3, h.2, taken_numbers [] (Second b) after x.due h.3, taken_valid [] (Second b) after x.due h.3)
after_facts (Val a) r line after x h = (λ t. t, h.2, taken_numbers [] (Val a) after x.due h.3, taken_valid [] (Val a) after x.due h.3)

pub unbroken : (given : List (List ℕ)) (d : Due) (after : List ℕ) (rule : Rule) → ¬ (TellsOtherLevel d after) → HasForm d after → HasNumbers d after → IsValid given d after → Breaks given d after rule → ⊥
unbroken given d after rule a b c v (Breaks.other_level h) = a h
unbroken given d after rule a b c v (Breaks.misformed n h) = h b
unbroken given d after rule a b c v (Breaks.misspelled n f h) = h c
unbroken given d after rule a b c v (Breaks.invalid n f g h) = h v

one_rule : (given : List (List ℕ)) (d : Due) (after : List ℕ) (f g : Rule) → Breaks given d after f → Breaks given d after g → f ≡ g
one_rule given d after f g (Breaks.other_level h) (Breaks.other_level k) = refl
one_rule given d after f g (Breaks.other_level h) (Breaks.misformed n k) = absurd (n h)
one_rule given d after f g (Breaks.other_level h) (Breaks.misspelled n a k) = absurd (n h)
one_rule given d after f g (Breaks.other_level h) (Breaks.invalid n a b k) = absurd (n h)
one_rule given d after f g (Breaks.misformed n h) (Breaks.other_level k) = absurd (n k)
one_rule given d after f g (Breaks.misformed n h) (Breaks.misformed m k) = refl
one_rule given d after f g (Breaks.misformed n h) (Breaks.misspelled m a k) = absurd (h a)
one_rule given d after f g (Breaks.misformed n h) (Breaks.invalid m a b k) = absurd (h a)
one_rule given d after f g (Breaks.misspelled n a h) (Breaks.other_level k) = absurd (n k)
one_rule given d after f g (Breaks.misspelled n a h) (Breaks.misformed m k) = absurd (k a)
one_rule given d after f g (Breaks.misspelled n a h) (Breaks.misspelled m b k) = refl
one_rule given d after f g (Breaks.misspelled n a h) (Breaks.invalid m b c k) = absurd (h c)
one_rule given d after f g (Breaks.invalid n a b h) (Breaks.other_level k) = absurd (n k)
one_rule given d after f g (Breaks.invalid n a b h) (Breaks.misformed m k) = absurd (k a)
one_rule given d after f g (Breaks.invalid n a b h) (Breaks.misspelled m c k) = absurd (k b)
one_rule given d after f g (Breaks.invalid n a b h) (Breaks.invalid m c e k) = refl

breaks_too : (given : List (List ℕ)) (d e : Due) (after : List ℕ) (rule : Rule) → SameDue d e → Breaks given d after rule → Breaks given e after rule
breaks_too given d e after rule q (Breaks.other_level h) = Breaks.other_level (same_other d e after q h)
breaks_too given d e after rule q (Breaks.misformed n h) = Breaks.misformed (λ t. n (same_other e d after (back d e q) t)) (λ t. h (same_form e d after (back d e q) t))
breaks_too given d e after rule q (Breaks.misspelled n a h) =
    Breaks.misspelled (λ t. n (same_other e d after (back d e q) t)) (same_form d e after q a) (λ t. h (same_numbers e d after (back d e q) t))
breaks_too given d e after rule q (Breaks.invalid n a b h) =
    subst (λ r. Breaks given e after r) (sym (same_rule d e q))
    (Breaks.invalid (λ t. n (same_other e d after (back d e q) t)) (same_form d e after q a) (same_numbers d e after q b) (λ t. h (same_valid given e d after (back d e q) t)))

-- the words that may be due are known
pub is_known : (d : Due) → Contains known_words (due_word d)
is_known Tensor = (0, omega arith, refl)
is_known (Format n) = (1, omega arith, refl)
is_known (Fill f) = (2, omega arith, refl)
is_known (Shape f) = (3, omega arith, refl)
is_known (Ptr a) = (4, omega arith, refl)
is_known (Second b) = known_second (due_level b.draft) b.lined
  where
    known_second : (l : Level) → is_dense l ≡ false → Contains known_words (second_word l)
    known_second level.Dense h = absurd (cc)
    known_second level.List h = (5, omega arith, refl)
    known_second level.Dict h = (5, omega arith, refl)
    known_second level.Runs h = (6, omega arith, refl)
    known_second level.Band h = (7, omega arith, refl)
is_known (Val a) = (8, omega arith, refl)
is_known (End n s) = (9, omega arith, refl)

pub taken_or_broken : (r s : Reader) (line : ℕ) (bytes : List ℕ) (x : Reader) (rule : Rule) → Agree r s → IsAfterLine r line bytes x → BreaksLine s bytes rule → ⊥
taken_or_broken r s line bytes x rule a h (BreaksLine.unknown word after first none) =
    none (subst (Contains known_words) (one_word bytes (due_word r.due) h.after word after h.first first).0 h.known)
taken_or_broken r s line bytes x rule a h (BreaksLine.other word after first known differs) =
    differs (sym (one_word bytes (due_word r.due) h.after word after h.first first).0 ∙ same_word r.due s.due a.due_is)
taken_or_broken r s line bytes x rule a h (BreaksLine.due_line after f first b) =
    let cut = one_word bytes (due_word r.due) h.after (due_word s.due) after h.first first in
    let facts = after_facts r.due r line h.after x h.rest in
    let q = a.due_is in
    unbroken (names_of s) s.due h.after rule
    (λ t. facts.0 (same_other s.due r.due h.after (back r.due s.due q) t)) (same_form r.due s.due h.after q facts.1) (same_numbers r.due s.due h.after q facts.2)
    (subst (λ g. IsValid (map (λ (t : List ℕ × Given). t.0) g) s.due h.after) a.given_is (same_valid (names_of r) r.due s.due h.after q facts.3))
    (subst (λ t. Breaks (names_of s) s.due t rule) (sym cut.1) b)

pub one_break : (r s : Reader) (bytes : List ℕ) (f g : Rule) → Agree r s → BreaksLine r bytes f → BreaksLine s bytes g → f ≡ g
one_break r s bytes f g a (BreaksLine.unknown w t h n) (BreaksLine.unknown v u k m) = refl
one_break r s bytes f g a (BreaksLine.unknown w t h n) (BreaksLine.other v u k known m) = absurd (n (subst (Contains known_words) (sym (one_word bytes w t v u h k).0) known))
one_break r s bytes f g a (BreaksLine.unknown w t h n) (BreaksLine.due_line u rule k b) = absurd (n (subst (Contains known_words) (sym (one_word bytes w t (due_word s.due) u h k).0) (is_known s.due)))
one_break r s bytes f g a (BreaksLine.other w t h known n) (BreaksLine.unknown v u k m) = absurd (m (subst (Contains known_words) (one_word bytes w t v u h k).0 known))
one_break r s bytes f g a (BreaksLine.other w t h known n) (BreaksLine.other v u k also m) = refl
one_break r s bytes f g a (BreaksLine.other w t h known n) (BreaksLine.due_line u rule k b) = absurd (n ((one_word bytes w t (due_word s.due) u h k).0 ∙ sym (same_word r.due s.due a.due_is)))
one_break r s bytes f g a (BreaksLine.due_line t rule h b) (BreaksLine.unknown v u k m) = absurd (m (subst (Contains known_words) (one_word bytes (due_word r.due) t v u h k).0 (is_known r.due)))
one_break r s bytes f g a (BreaksLine.due_line t rule h b) (BreaksLine.other v u k also m) = absurd (m (sym (one_word bytes (due_word r.due) t v u h k).0 ∙ same_word r.due s.due a.due_is))
one_break r s bytes f g a (BreaksLine.due_line t rule h b) (BreaksLine.due_line u other k c) =
    let cut = one_word bytes (due_word r.due) t (due_word s.due) u h k in
    let here : Breaks (names_of s) s.due t f = subst (λ g. Breaks (map (λ (t : List ℕ × Given). t.0) g) s.due t f) a.given_is (breaks_too (names_of r) r.due s.due t f a.due_is b) in
    one_rule (names_of s) s.due t f g here (subst (λ x. Breaks (names_of s) s.due x g) (sym cut.1) c)
