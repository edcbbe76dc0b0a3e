-- Lines of a text of tensors, one after another.
use Rattle.std.proofs.Common.{◌≡◌, ◌≢◌, ℕ, ◌+◌, ◌≤◌, List, [], ◌∷◌, ◌++◌, length, drop, Result, Ok, Err, length-append, refl, sym, ap, ◌∙◌, subst, arith}
use Rattle.std.specs.Prelude.{All, Contains}
use Rattle.fin_base.specs.declared.refusal.Fail.{Fail}
use Rattle.fin_base.specs.declared.refusal.Rule.{Rule}
use Rattle.fin_base.specs.declared.refusal.Rule.TheVariants.{X3}
use Rattle.fin_text.specs.DueLines.{Breaks, other_level, misformed, misspelled, invalid, HasNext, FailsBy, due_word, known_words, invalid_rule}
use Rattle.fin_tensor.specs.declared.storage.Storage.{Storage}
use Rattle.fin_text.specs.Names.{IsName}
use Rattle.fin_text.specs.Numbers.{IsFirstWord}
use Rattle.fin_text.specs.Reading.{BreaksLine, due_line, ComesTo, taken, Skips, ReadsRest, ReadsLine, Reads, next, unended, ended, RefusesText, fail_at}
use Rattle.fin_text.specs.declared.due.Due.{Due}
use Rattle.fin_text.specs.declared.due.Due.TheVariants.{Tensor, Format, Fill, Shape, Ptr, Second, Val, End}
use Rattle.fin_text.specs.declared.due.LineFail.{LineFail}
use Rattle.fin_text.specs.declared.due.LineFail.TheVariants.{Broken, Memory}
use Rattle.fin_text.specs.declared.read.Reader.{Reader}

-- a name that was given before breaks a rule
pub given_before : (names : List (List ℕ)) (after word name : List ℕ) → after ≡ 32 ∷ word → IsName word → name ≡ word → Contains names name → Breaks names Tensor after (invalid_rule Tensor)
given_before names after word name e is same there =
    invalid (λ h. h) (word, e, is) tt (λ h. h.2 (subst (Contains names) (same ∙ ap (drop 1) (sym e ∙ h.1)) there))

-- inside a tensor the names before it don't matter
breaks_any : (given : List (List ℕ)) (due : Due) (after : List ℕ) (rule : Rule) → HasNext due → Breaks [] due after rule → Breaks given due after rule
breaks_any given due after rule h (other_level o) = other_level o
breaks_any given due after rule h (misformed o f) = misformed o f
breaks_any given due after rule h (misspelled o f n) = misspelled o f n
breaks_any given (Format name) after rule h (invalid o f n v) = invalid o f n v
breaks_any given (Fill head) after rule h (invalid o f n v) = invalid o f n v
breaks_any given (Shape head) after rule h (invalid o f n v) = invalid o f n v
breaks_any given (Ptr at) after rule h (invalid o f n v) = invalid o f n v
breaks_any given (Second below) after rule h (invalid o f n v) = invalid o f n v
breaks_any given (Val at) after rule h (invalid o f n v) = invalid o f n v
breaks_any given Tensor after rule h (invalid o f n v) = absurd h
breaks_any given (End name s) after rule h (invalid o f n v) = absurd h

pub fails_any : (given : List (List ℕ)) (due : Due) (after : List ℕ) (fail : LineFail) → HasNext due → FailsBy (Breaks [] due after) fail → FailsBy (Breaks given due after) fail
fails_any given due after (Broken rule) h f = breaks_any given due after rule h f
fails_any given due after (Memory e) h f = tt

pub rest_is_line : (reader : Reader) (line : ℕ) (bytes word after : List ℕ) → IsFirstWord bytes word after → Contains known_words word → word ≡ due_word reader.due → ¬ (Skips reader bytes)
    → (result : Result Reader LineFail) → ReadsRest reader line after result → ReadsLine reader line bytes result
rest_is_line reader line bytes word after cut known due looked (Ok new) h =
    taken new looked (record { after = after; first = subst (λ w. IsFirstWord bytes w after) due cut; known = subst (Contains known_words) due known; rest = h })
rest_is_line reader line bytes word after cut known due looked (Err (Broken rule)) h = (looked, due_line after rule (subst (λ w. IsFirstWord bytes w after) due cut) h)
rest_is_line reader line bytes word after cut known due looked (Err (Memory e)) h = tt

-- ---- a whole text
module _ (text : List ℕ) (first : ℕ) (left : List ℕ) (line : ℕ) (reader : Reader) (reads : Reads text first left line reader) where
  pub refused : (bytes more : List ℕ) → left ≡ bytes ++ 10 ∷ more → All (λ b. b ≢ 10) bytes → (fail : LineFail) → FailsBy (λ rule. ¬ (Skips reader bytes) × BreaksLine reader bytes rule) fail
      → (f : Fail) → f ≡ fail_at fail line → RefusesText text first f
  refused bytes more e h (Broken rule) b f is =
      subst (RefusesText text first) (sym is) (record { reader = reader; left = left; reads = reads; breaks = ended bytes more rule e h b.0 b.1 })
  refused bytes more e h (Memory m) b f is = subst (RefusesText text first) (sym is) tt

  pub unended_is : All (λ b. b ≢ 10) left → ¬ (Skips reader left) → (f : Fail) → f ≡ fail_at (Broken X3) line → RefusesText text first f
  unended_is h looked f is = subst (RefusesText text first) (sym is) (record { reader = reader; left = left; reads = reads; breaks = unended h looked })

  pub reads_next : (bytes more : List ℕ) (new : Reader) → left ≡ bytes ++ 10 ∷ more → All (λ b. b ≢ 10) bytes → ComesTo reader line bytes new → Reads text first more (line + 1) new
  reads_next bytes more new e h comes = next reader new bytes more line (subst (λ (l : List ℕ). Reads text first l line reader) e reads) h comes

-- a line and its newline are gone
pub shorter : (left bytes more : List ℕ) → left ≡ bytes ++ 10 ∷ more → length more + 1 ≤ length left
shorter left bytes more e = omega (arith, ap length e, length-append bytes (10 ∷ more))

pub has_next : (due : Due) → due ≢ Tensor → ((name : List ℕ) (s : Storage) → due ≢ End name s) → HasNext due
has_next (Format name) t e = tt
has_next (Fill head) t e = tt
has_next (Shape head) t e = tt
has_next (Ptr at) t e = tt
has_next (Second below) t e = tt
has_next (Val at) t e = tt
has_next Tensor t e = t refl
has_next (End name s) t e = e name s refl
