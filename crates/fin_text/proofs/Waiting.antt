-- Texts that go to a sink through a buffer, one step after another.
use Rattle.std.proofs.Common.{◌≡◌, ℕ, ◌+◌, ◌<◌, add-one, ℤ, pos, List, [], ◌∷◌, ◌++◌, take, drop, get_or, length, Result, Ok, Err, IsErr, MatchResult, FitsSigned, w64, to_z, of_z, sym, ap, ◌∙◌, subst, append_assoc, length-append, zero, suc, arith}
use Rattle.std.specs.declared.option.Option.{Option}
use Rattle.std.specs.Io.KnownBytes.{Appends}
use Rattle.std.proofs.KnownBytes.{Appends-nil, Appends-trans}
use Rattle.std.proofs.lemmas.List.{take-append-drop, flat_map_more}
use Rattle.std.proofs.lemmas.Int.{to_z-of_z}
use Rattle.std.proofs.lemmas.Grind.{flat_map-append}
use Rattle.std.proofs.Math.Seq.{take-append_seam, take-suc}
use Rattle.fin_text.specs.Numbers.{spaced, spelled, words}
use Rattle.fin_ports.specs.Bytes.{PutsFront}
use Rattle.fin_ports.proofs.Parts.{part_of_more}
use Rattle.fin_text.specs.Putting.{Waits}

module _ (a b : Option (List ℕ)) where
  pub more_waits : (text waiting more after : List ℕ) → Waits a b text waiting → after ≡ waiting ++ more → Waits a b (text ++ more) after
  more_waits text waiting more after (put, appends, split) e =
      (put, appends, ap (λ t. t ++ more) split ∙ append_assoc put waiting more ∙ ap (λ t. put ++ t) (sym e))

  pub some_put : (c : Option (List ℕ)) (text waiting after : List ℕ) → Waits a b text waiting → Waits b c waiting after → Waits a c text after
  some_put c text waiting after (put, appends, split) (more, again, rest) =
      (put ++ more, Appends-trans a b c put more appends again, split ∙ ap (λ t. put ++ t) rest ∙ sym (append_assoc put more after))

  pub all_put : (c : Option (List ℕ)) (text waiting : List ℕ) → Waits a b text waiting → Appends b c waiting → Appends a c text
  all_put c text waiting (put, appends, split) rest = subst (Appends a c) (sym split) (Appends-trans a b c put waiting appends rest)

  pub part_put : (c : Option (List ℕ)) (text waiting tail whole : List ℕ) → whole ≡ text ++ tail → Waits a b text waiting → PutsFront b c waiting → PutsFront a c whole
  part_put c text waiting tail whole is (put, appends, split) part =
      part_of_more a b c put waiting tail whole (is ∙ ap (λ t. t ++ tail) split ∙ append_assoc put waiting tail) appends part

  pub part_of_front : (text tail whole : List ℕ) → whole ≡ text ++ tail → PutsFront a b text → PutsFront a b whole
  part_of_front text tail whole is part = part_of_more a a b [] text tail whole is (Appends-nil a) part

  pub front_put : (text waiting tail whole : List ℕ) → whole ≡ text ++ tail → 0 < length tail → Waits a b text waiting → PutsFront a b whole
  front_put text waiting tail whole is some (put, appends, split) =
      let front : whole ≡ put ++ (waiting ++ tail) = is ∙ ap (λ t. t ++ tail) split ∙ append_assoc put waiting tail in (
        length put,
        omega (arith, ap length front, length-append put (waiting ++ tail), length-append waiting tail),
        subst (Appends a b) (sym (ap (take (length put)) front ∙ take-append_seam put (waiting ++ tail))) appends,
      )

-- words from one on are some bytes
pub some_words : {A : Type 0} (word : A → List ℕ) (vs : List A) (i : ℕ) → i < length vs → 0 < length (words word (drop i vs))
some_words word (v ∷ vs) zero lt = omega arith
some_words word (v ∷ vs) (suc i) lt = some_words word vs i (omega arith)
some_words word [] i lt = absurd (omega arith)

-- values behind a text, up to one of them

pub next_value : (text : List ℕ) (vs : List ℤ) (i : ℕ) → i < length vs → (text ++ spaced (take i vs)) ++ (32 ∷ spelled (get_or vs i (pos 0))) ≡ text ++ spaced (take (i + 1) vs)
next_value text vs i within = flat_map_more (λ v. 32 ∷ spelled v) text (take i vs) (get_or vs i (pos 0)) ∙ ap (λ l. text ++ spaced l) (sym (rw add-one (take-suc vs i (pos 0) within)))

pub other_values : (text : List ℕ) (vs : List ℤ) (i : ℕ) → text ++ spaced vs ≡ (text ++ spaced (take i vs)) ++ spaced (drop i vs)
other_values text vs i =
    ap (λ l. text ++ l) (ap spaced (sym (take-append-drop i vs)) ∙ flat_map-append (λ v. 32 ∷ spelled v) (take i vs) (drop i vs))
    ∙ sym (append_assoc text (spaced (take i vs)) (spaced (drop i vs)))

-- after one more value, as a loop reads it
pub value_waits : (a b : Option (List ℕ)) (text waiting after : List ℕ) (vs : List ℤ) (i : ℕ) → i < length vs → FitsSigned w64 (get_or vs i (pos 0)) → Waits a b (text ++ spaced (take i vs)) waiting
    → after ≡ waiting ++ 32 ∷ spelled (to_z w64 (of_z w64 (get_or vs i (pos 0)))) → Waits a b (text ++ spaced (take (i + 1) vs)) after
value_waits a b text waiting after vs i within fits waits e =
    let read : after ≡ waiting ++ 32 ∷ spelled (get_or vs i (pos 0)) = e ∙ ap (λ v. waiting ++ 32 ∷ spelled v) (to_z-of_z w64 (get_or vs i (pos 0)) fits) in
    subst (λ t. Waits a b t after) (next_value text vs i within) (more_waits a b (text ++ spaced (take i vs)) waiting (32 ∷ spelled (get_or vs i (pos 0))) after waits read)

-- what a failure leaves
pub at_failure : {E : Type 0} (P : Unit {0} → Type 0) {Q : Type 0} (r : Result (Unit {0}) E) → IsErr r → Q → MatchResult r P (λ _. Q)
at_failure P (Ok _) failed q = absurd (cc)
at_failure P (Err e) failed q = q
