-- A word that takes in what was reduced from the identity takes in the same values.
use Rattle.std.proofs.Common.{rules, ◌≡◌, ◌≢◌, ℤ, List, [], ◌∷◌, refl, sym, ap, ◌∙◌, subst, arith, Some, None, Option, IfSome, unwrap_or}
use Rattle.std.specs.List.{AllByRecursion}
use Rattle.std.specs.Int.{w64, cast_signed, cast_unsigned}
use Rattle.std.proofs.lemmas.Int.{ints, clamps}
use Rattle.std.proofs.lemmas.Nat.{and_comm, or_comm, xor_comm}
use Rattle.std.proofs.Math.IntN.{*ℤ_comm}
use Rattle.std.proofs.lemmas.List.Elements.{All-from_recursion}
use Rattle.std.proofs.lemmas.List.Sorted.{IsPermutation-append_comm}
use Rattle.fin_base.specs.declared.reduce.Reduce.{Reduce}
use Rattle.fin_base.specs.declared.reduce.Reduce.TheVariants.{Add, Mul, Min, Max, And, Or, Xor, Put}
use Rattle.fin_base.specs.Words.{IsWord, wrap, apply, reduced, identity}
use Rattle.fin_base.proofs.Reductions.{keeps_words, forgets_order, identity_keeps}

abbrev pub Words : List ℤ → Type 0
Words zs = AllByRecursion IsWord zs

pub not_put : (by : Reduce) (e : ℤ) → identity by ≡ Some e → by ≢ Put
not_put by e i p = let none : None ≡ Some e = sym (ap identity p) ∙ i in absurd (cc)

pub has_identity : (by : Reduce) → by ≢ Put → identity by ≢ None
has_identity Add n h = absurd (cc)
has_identity Mul n h = absurd (cc)
has_identity Min n h = absurd (cc)
has_identity Max n h = absurd (cc)
has_identity And n h = absurd (cc)
has_identity Or n h = absurd (cc)
has_identity Xor n h = absurd (cc)
has_identity Put n h = n refl

keeps_by : (by : Reduce) (e a : ℤ) → identity by ≡ Some e → IsWord a → apply by a e ≡ a
keeps_by by e a i w = subst (λ (o : Option ℤ). IfSome o (λ e. apply by a e ≡ a)) i (identity_keeps by a w)

turned : (by : Reduce) (a b : ℤ) → by ≢ Put → apply by a b ≡ apply by b a
turned Add a b n = ap wrap (omega (arith, ints))
turned Mul a b n = ap wrap (*ℤ_comm a b)
turned Min a b n = omega (arith, ints, clamps)
turned Max a b n = omega (arith, ints, clamps)
turned And a b n = ap (cast_signed w64) (and_comm (cast_unsigned w64 a) (cast_unsigned w64 b))
turned Or a b n = ap (cast_signed w64) (or_comm (cast_unsigned w64 a) (cast_unsigned w64 b))
turned Xor a b n = ap (cast_signed w64) (xor_comm (cast_unsigned w64 a) (cast_unsigned w64 b))
turned Put a b n = absurd (n refl)

grouped : (by : Reduce) → by ≢ Put → (a x v : ℤ) → IsWord a → IsWord x → IsWord v → apply by a (apply by x v) ≡ apply by (apply by a x) v
grouped by n a x v f g h =
    turned by a (apply by x v) n
    ∙ forgets_order by x (v ∷ a ∷ []) (a ∷ v ∷ []) n g (All-from_recursion IsWord (v ∷ a ∷ []) (h, (f, tt))) (IsPermutation-append_comm (v ∷ []) (a ∷ []))
    ∙ ap (λ (z : ℤ). apply by z v) (turned by x a n)

taken_in : (by : Reduce) → by ≢ Put → (a x : ℤ) (vs : List ℤ) → IsWord a → IsWord x → Words vs → apply by a (reduced by x vs) ≡ reduced by (apply by a x) vs
taken_in by n a x [] f g h = refl
taken_in by n a x (v ∷ vs) f g h = taken_in by n a (apply by x v) vs f (keeps_words by x v g h.0) h.1 ∙ ap (λ (z : ℤ). reduced by z vs) (grouped by n a x v f g h.0)

pub from_identity : (by : Reduce) (e a : ℤ) (vs : List ℤ) → identity by ≡ Some e → IsWord e → IsWord a → Words vs → apply by a (reduced by e vs) ≡ reduced by a vs
from_identity by e a vs i we f h = taken_in by (not_put by e i) a e vs f we h ∙ ap (λ (z : ℤ). reduced by z vs) (keeps_by by e a i f)

pub words_kept : (by : Reduce) (a : ℤ) (vs : List ℤ) → IsWord a → Words vs → IsWord (reduced by a vs)
words_kept by a [] f h = f
words_kept by a (v ∷ vs) f h = words_kept by (apply by a v) vs (keeps_words by a v f h.0) h.1

pub identity_word : (by : Reduce) (e : ℤ) → identity by ≡ Some e → IsWord e
identity_word by e i = each by i
  where
    some_is : (x y : ℤ) → Some x ≡ Some y → x ≡ y
    some_is x y p = ap (λ (o : Option ℤ). unwrap_or o x) p

    word_of : (o : Option ℤ) → IfSome o IsWord → o ≡ Some e → IsWord e
    word_of o h p = subst (λ (q : Option ℤ). IfSome q IsWord) p h

    each : (by : Reduce) → identity by ≡ Some e → IsWord e
    each Add p = word_of (identity Add) (search rules) p
    each Mul p = word_of (identity Mul) (search rules) p
    each Min p = word_of (identity Min) (search rules) p
    each Max p = word_of (identity Max) (search rules) p
    each And p = word_of (identity And) (search rules) p
    each Or p = word_of (identity Or) (search rules) p
    each Xor p = word_of (identity Xor) (search rules) p
    each Put p = absurd (cc)
