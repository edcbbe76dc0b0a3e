-- Steps along the levels of a tensor.
use Rattle.std.proofs.Common.{◌≡◌, ◌<◌, ◌+◌, ◌||◌, ℕ, zero, suc, Bool, true, false, not, List, [], ◌∷◌, ◌++◌, refl, sym, ap, ◌∙◌, arith, length, drop, add-one, Option, Some, None, is_some, is_none}
use Rattle.fin_tensor.specs.declared.format.Level.{Level}
use Rattle.fin_ast.specs.Ties.{Extents, Dimension}
use Rattle.fin_ast.specs.Sizes.{lacks_extent, shape_from, number_of}

pub none_of : (o : Option ℕ) (b : Bool) → is_some o ≡ not b → is_none o ≡ b
none_of None true e = refl
none_of None false e = absurd (cc)
none_of (Some n) true e = absurd (cc)
none_of (Some n) false e = refl

module _ (extent : Extents) where
  next : (d k : ℕ) (ls : List Level) → k < length ls → lacks_extent extent d (drop k ls) ≡ (is_none (extent (Dimension d)) || lacks_extent extent (d + 1) (drop (suc k) ls))
  next d k [] h = absurd (omega arith)
  next d zero (l ∷ ls) h = refl
  next d (suc k) (l ∷ ls) h = next d k ls (omega arith)

  pub lacks_here : (d k : ℕ) (ls : List Level) → k < length ls → is_none (extent (Dimension d)) ≡ true → lacks_extent extent d (drop k ls) ≡ true
  lacks_here d k ls h e = next d k ls h ∙ ap (λ (b : Bool). b || lacks_extent extent (d + 1) (drop (suc k) ls)) e

  pub lacks_later : (d k : ℕ) (ls : List Level) → k < length ls → is_none (extent (Dimension d)) ≡ false → lacks_extent extent d (drop k ls) ≡ lacks_extent extent (d + 1) (drop (k + 1) ls)
  lacks_later d k ls h e = next d k ls h ∙ ap (λ (b : Bool). b || lacks_extent extent (d + 1) (drop (suc k) ls)) e ∙ ap (λ (n : ℕ). lacks_extent extent (d + 1) (drop n ls)) (sym (add-one k))

  shape_after : (d k : ℕ) (ls : List Level) (s : List ℕ) → k < length ls → shape_from extent d (drop k ls) s ≡ shape_from extent (d + 1) (drop (suc k) ls) (s ++ number_of extent (Dimension d) ∷ [])
  shape_after d k [] s h = absurd (omega arith)
  shape_after d zero (l ∷ ls) s h = refl
  shape_after d (suc k) (l ∷ ls) s h = shape_after d k ls s (omega arith)

  pub shape_next : (d k : ℕ) (ls : List Level) (s : List ℕ) → k < length ls → shape_from extent d (drop k ls) s ≡ shape_from extent (d + 1) (drop (k + 1) ls) (s ++ number_of extent (Dimension d) ∷ [])
  shape_next d k ls s h = shape_after d k ls s h ∙ ap (λ (n : ℕ). shape_from extent (d + 1) (drop n ls) (s ++ number_of extent (Dimension d) ∷ [])) (sym (add-one k))
