-- What is told as lists of facts.
use Rattle.std.proofs.Common.{◌≡◌, ℕ, Bool, true, List, [], ◌∷◌, ◌++◌, length, None, refl, ap, ◌∙◌, ◌+◌, arith}
use Rattle.std.specs.Prelude.{◌==◌}
use Rattle.std.proofs.lemmas.Bool.Decides.{nat_tests}
use Rattle.fin_nest.specs.declared.entries.Numbered.{Numbered}
use Rattle.fin_style_point.specs.declared.nest.Nest.{Nest}
use Rattle.fin_simp.specs.declared.facts.Gap.{Gap}
use Rattle.fin_simp.specs.declared.facts.Known.{Known}
use Rattle.fin_simp.specs.declared.facts.Facts.{Facts}
use Rattle.fin_simp.specs.Facts.{marks_of}
use Rattle.fin_known.specs.Telling.{fill_at, truth_at, gaps_told, tests_told, marks_told}

no_reads : (ds : List Bool) (k : ℕ) → None ≡ fill_at ds [] k
no_reads [] k = refl
no_reads (d ∷ ds) k = refl

none_long : (n : ℕ) → (n + 1 == 0) ≡ true → ⊥
none_long n e = let z : n + 1 ≡ 0 = grind (arith, nat_tests) in absurd (omega (arith, z))

-- without reads no fill is told
pub none_told : (ds : List Bool) (rs : List Numbered) (k : ℕ) → (length rs == 0) ≡ true → None ≡ fill_at ds rs k
none_told ds [] k e = no_reads ds k
none_told ds (x ∷ rs) k e = absurd (none_long (length rs) (ap (λ (n : ℕ). n == 0) (omega (arith)) ∙ e))

-- the lists of a nest's reads and masks give its marks
pub told_marks : (around : Facts) (ds : List Bool) (n : Nest) (reads masks : List Numbered) (gs : List Gap) (ks : List Known) → reads ≡ n.reads → masks ≡ n.masks
    → gs ≡ around.gaps.now ++ gaps_told (fill_at ds reads) reads → ks ≡ around.known.now ++ tests_told (truth_at masks) masks
    → marks_of gs ks around.bound.now ≡ marks_told around ds n
told_marks around ds n reads masks gs ks r m g k =
    ap (λ (xs : List Gap). marks_of xs ks around.bound.now) (g ∙ ap (λ (es : List Numbered). around.gaps.now ++ gaps_told (fill_at ds es) es) r)
    ∙ ap (λ (xs : List Known). marks_of (around.gaps.now ++ gaps_told (fill_at ds n.reads) n.reads) xs around.bound.now)
    (k ∙ ap (λ (es : List Numbered). around.known.now ++ tests_told (truth_at es) es) m)
