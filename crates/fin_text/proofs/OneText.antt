-- A text of tensors is read or refused in one way.
use Rattle.std.proofs.Common.{◌≡◌, ◌≢◌, ◌∙◌, inl, ℕ, ◌+◌, List, ◌∷◌, ◌++◌, refl, sym, ap, subst}
use Rattle.std.specs.Prelude.{All, Result, Ok, Err}
use Rattle.fin_base.specs.declared.refusal.Fail.TheVariants.{Refused}
use Rattle.fin_base.specs.declared.refusal.Refusal.{Refusal}
use Rattle.fin_base.specs.declared.refusal.Rule.{Rule}
use Rattle.fin_text.specs.Reading.{BreaksLine, BreaksNext, BreaksText, ComesTo, IsFresh, IsRead, Reads, ReadsTensors, Skips}
use Rattle.fin_text.specs.declared.read.Given.{Given}
use Rattle.fin_text.specs.declared.read.Reader.{Reader}
use Rattle.fin_text.proofs.Cuts.{cut_at_one_place, cut_nowhere}
use Rattle.fin_text.proofs.OneDue.{both_between}
use Rattle.fin_text.proofs.OneReading.{Agree, one_break, same_line, skips_too, swap, taken_or_broken}

abbrev pub Given_list : Type 0
Given_list = List (List ℕ × Given)

abbrev pub Answer : Type 0
Answer = Result Given_list Refusal

-- what comes of so much of a text, line by line
pub data Onward : Reader → List ℕ → ℕ → Answer → Type 0 where
  ended : {r : Reader} {left : List ℕ} {line : ℕ} {v : Answer} → All (λ b. b ≢ 10) left → Skips r left → v ≡ Ok r.given.entries → Onward r left line v
  broken : {r : Reader} {left : List ℕ} {line : ℕ} {v : Answer} (rule : Rule) → BreaksNext r left rule → v ≡ Err (record { rule = rule; line = line }) → Onward r left line v
  step : {r : Reader} {left : List ℕ} {line : ℕ} {v : Answer} (x : Reader) (bytes more : List ℕ) → left ≡ bytes ++ 10 ∷ more → All (λ b. b ≢ 10) bytes → ComesTo r line bytes x → Onward x more (line + 1) v → Onward r left line v

-- what comes of what is left comes of the whole
whole : (text : List ℕ) (first : ℕ) (left : List ℕ) (line : ℕ) (r : Reader) (v : Answer) → Reads text first left line r → Onward r left line v → (s : Reader) × IsFresh s × Onward s text first v
whole text first left line r v (Reads.begin s fresh) o = (s, fresh, o)
whole text first left line r v (Reads.next q n bytes rest at before plain comes) o =
    whole text first (bytes ++ 10 ∷ rest) at q v before (Onward.step r bytes rest refl plain comes o)

-- a step and a breach exclude each other
step_or_broken : (r s x : Reader) (left bytes more : List ℕ) (line : ℕ) (rule : Rule) → Agree r s → left ≡ bytes ++ 10 ∷ more → All (λ b. b ≢ 10) bytes → ComesTo r line bytes x → BreaksNext s left rule → ⊥
step_or_broken r s x left bytes more line rule a e plain comes (BreaksNext.unended none not) = cut_nowhere 10 left bytes more none e
step_or_broken r s x left bytes more line rule a e plain (ComesTo.skipped h) (BreaksNext.ended b m f q also not breaks) =
    let cut = cut_at_one_place 10 bytes more b m plain also (sym e ∙ q) in
    not (skips_too r s b a (subst (Skips r) cut.0 h))
step_or_broken r s x left bytes more line rule a e plain (ComesTo.taken n not h) (BreaksNext.ended b m f q also other breaks) =
    let cut = cut_at_one_place 10 bytes more b m plain also (sym e ∙ q) in
    taken_or_broken r s line bytes x rule a h (subst (λ l. BreaksLine s l rule) (sym cut.0) breaks)

-- the end and a breach exclude each other
ended_or_broken : (r s : Reader) (left : List ℕ) (rule : Rule) → Agree r s → All (λ b. b ≢ 10) left → Skips r left → BreaksNext s left rule → ⊥
ended_or_broken r s left rule a none h (BreaksNext.unended also not) = not (skips_too r s left a h)
ended_or_broken r s left rule a none h (BreaksNext.ended b m f q also not breaks) = cut_nowhere 10 left b m none q

same_breach : (r s : Reader) (left : List ℕ) (f g : Rule) → Agree r s → BreaksNext r left f → BreaksNext s left g → f ≡ g
same_breach r s left f g a (BreaksNext.unended h n) (BreaksNext.unended k m) = refl
same_breach r s left f g a (BreaksNext.unended h n) (BreaksNext.ended b m t q also not breaks) = absurd (cut_nowhere 10 left b m h q)
same_breach r s left f g a (BreaksNext.ended b m t q also not breaks) (BreaksNext.unended k n) = absurd (cut_nowhere 10 left b m k q)
same_breach r s left f g a (BreaksNext.ended b m t q also not breaks) (BreaksNext.ended c n u p too other also_breaks) =
    let cut = cut_at_one_place 10 b m c n also too (sym q ∙ p) in
    one_break r s b f g a breaks (subst (λ l. BreaksLine s l g) (sym cut.0) also_breaks)

one_onward : (r s : Reader) (left : List ℕ) (line : ℕ) (v w : Answer) → Agree r s → Onward r left line v → Onward s left line w → v ≡ w
one_onward r s left line v w a (Onward.ended none h e) (Onward.ended also k p) = e ∙ ap (λ g. Ok g) a.given_is ∙ sym p
one_onward r s left line v w a (Onward.ended none h e) (Onward.broken g k p) = absurd (ended_or_broken r s left g a none h k)
one_onward r s left line v w a (Onward.ended none h e) (Onward.step y b m q plain k o) = absurd (cut_nowhere 10 left b m none q)
one_onward r s left line v w a (Onward.broken f h e) (Onward.ended also k p) = absurd (ended_or_broken s r left f (swap r s a) also k h)
one_onward r s left line v w a (Onward.broken f h e) (Onward.broken g k p) = e ∙ ap (λ rule. Err (record { rule = rule; line = line })) (same_breach r s left f g a h k) ∙ sym p
one_onward r s left line v w a (Onward.broken f h e) (Onward.step y b m q plain k o) = absurd (step_or_broken s r y left b m line f (swap r s a) q plain k h)
one_onward r s left line v w a (Onward.step x b m q plain h o) (Onward.ended also k p) = absurd (cut_nowhere 10 left b m also q)
one_onward r s left line v w a (Onward.step x b m q plain h o) (Onward.broken g k p) = absurd (step_or_broken r s x left b m line g a q plain h k)
one_onward r s left line v w a (Onward.step x b m q plain h o) (Onward.step y c n p too k i) =
    let cut = cut_at_one_place 10 b m c n plain too (sym q ∙ p) in
    one_onward x y m (line + 1) v w (same_line r s line b x y a h (subst (λ l. ComesTo s line l y) (sym cut.0) k)) o (subst (λ l. Onward y l (line + 1) w) (sym cut.1) i)

fresh_agree : (r s : Reader) → IsFresh r → IsFresh s → Agree r s
fresh_agree r s h k = record { given_is = h.0 ∙ sym k.0; due_is = both_between r.due s.due h.1 k.1; since_is = inl h.1 }

one_whole : (text : List ℕ) (first : ℕ) (v w : Answer) → ((s : Reader) × IsFresh s × Onward s text first v) → ((s : Reader) × IsFresh s × Onward s text first w) → v ≡ w
one_whole text first v w (r, h, o) (s, k, i) = one_onward r s text first v w (fresh_agree r s h k) o i

pub read_whole : (text : List ℕ) (first : ℕ) (given : Given_list) → IsRead text first given → (s : Reader) × IsFresh s × Onward s text first (Ok given)
read_whole text first given h = whole text first h.left h.line h.reader (Ok given) h.reads (Onward.ended h.unended h.between (ap (λ g. Ok g) h.given_is))

pub refused_whole : (text : List ℕ) (first : ℕ) (refusal : Refusal) → BreaksText text first refusal.line refusal.rule → (s : Reader) × IsFresh s × Onward s text first (Err refusal)
refused_whole text first refusal h = whole text first h.left refusal.line h.reader (Err refusal) h.reads (Onward.broken refusal.rule h.breaks refl)

-- a text gives one list of tensors
pub one_reading : (text : List ℕ) (first : ℕ) (given other : Given_list) → ReadsTensors text first (Ok given) → ReadsTensors text first (Ok other) → given ≡ other
one_reading text first given other h k =
    let same : Ok given ≡ Ok other = one_whole text first (Ok given) (Ok other) (read_whole text first given h) (read_whole text first other k) in cc

-- it is refused in one way
pub one_refusal : (text : List ℕ) (first : ℕ) (r s : Refusal) → ReadsTensors text first (Err (Refused r)) → ReadsTensors text first (Err (Refused s)) → r ≡ s
one_refusal text first r s h k =
    let same : Err r ≡ Err s = one_whole text first (Err r) (Err s) (refused_whole text first r h) (refused_whole text first s k) in cc

-- and it isn't both read and refused
pub read_or_refused : (text : List ℕ) (first : ℕ) (given : Given_list) (r : Refusal) → ReadsTensors text first (Ok given) → ReadsTensors text first (Err (Refused r)) → ⊥
read_or_refused text first given r h k =
    let same : Ok given ≡ Err r = one_whole text first (Ok given) (Err r) (read_whole text first given h) (refused_whole text first r k) in cc
