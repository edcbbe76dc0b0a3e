-- A gap that is seen in a storage has the fill.
use Rattle.std.proofs.Common.{◌≡◌, ℕ, suc, ◌+◌, ◌≤◌, ℤ, pos, negsuc, ◌+ℤ◌, Bool, true, false, ◌&&◌, List, [], ◌∷◌, map, length, Option, Some, None, refl, sym, ap, ◌∙◌, arith, subst, if◌then◌else◌}
use Rattle.std.specs.Prelude.{nat_eq, nat_lt, nat_le, slice_set, slice_index_or, is_none}
use Rattle.std.proofs.lemmas.List.{get_or-set_other}
use Rattle.std.proofs.lemmas.Bool.Decides.{nat_tests}
use Rattle.fin_tensor.specs.declared.part.Part.{Part}
use Rattle.fin_tensor.specs.Levels.{child_in, below, value_from}
use Rattle.fin_ast.specs.declared.tree.Index.{Index}
use Rattle.fin_ast.specs.Value.{Numbers, number, number_if, place, coordinates, with_first}
use Rattle.fin_simp.specs.Sights.{behind_var, behind_index, one_deeper, driven_index, At, empty, edged, course_of, stand_sight, inside, child_at, stand_at, sight_at}
use Rattle.fin_simp.specs.Gaps.{SameUpTo, value_from_at, GapsHaveFill}

-- ---- an index that is resolved at the entry points to the same place in the loop
kept_number : (vars : Numbers) (var : ℕ) (z : ℤ) (o : Option ℕ) → behind_var o ≤ var → number_if (slice_set vars var z) o ≡ number_if vars o
kept_number vars var z None h = refl
kept_number vars var z (Some k) h = get_or-set_other vars var k z (pos 0) (λ e. omega (arith, h, e))

kept_place : (vars : Numbers) (var : ℕ) (z : ℤ) (i : Index) → nat_le (behind_index i) var ≡ true → place (slice_set vars var z) i ≡ place vars i
kept_place vars var z i h =
    let top : behind_index i ≤ var = grind (arith, nat_tests) in
    let one : behind_var i.first ≤ var = omega (arith, top) in
    let two : behind_var i.second ≤ var = omega (arith, top) in
    ap (λ y. (y +ℤ number_if (slice_set vars var z) i.second) +ℤ i.offset) (kept_number vars var z i.first one) ∙ ap (λ y. (number_if vars i.first +ℤ y) +ℤ i.offset) (kept_number vars var z i.second two)

-- what is bound inside doesn't move an index of the loop or of those around it
module _ (var : ℕ) (inner later : Numbers) (same : SameUpTo var inner later) where
  same_number : (o : Option ℕ) → behind_var o ≤ var + 1 → number_if later o ≡ number_if inner o
  same_number None h = refl
  same_number (Some k) h = same k (omega (arith, h))

  same_place : (i : Index) → behind_index i ≤ var + 1 → place later i ≡ place inner i
  same_place i h =
      ap (λ y. (y +ℤ number_if later i.second) +ℤ i.offset) (same_number i.first (omega (arith, h))) ∙ ap (λ y. (number_if inner i.first +ℤ y) +ℤ i.offset) (same_number i.second (omega (arith, h)))

  pub same_resolved : (i : Index) → nat_le (behind_index i) var ≡ true → place later i ≡ place inner i
  same_resolved i t = let top : behind_index i ≤ var = grind (arith, nat_tests) in same_place i (omega (arith, top))

  pub same_driven : (i : Index) → nat_eq (behind_index i) (var + 1) ≡ true → place later i ≡ place inner i
  same_driven i t = let is : behind_index i ≡ var + 1 = grind (arith, nat_tests) in same_place i (omega (arith, is))

module _ (val : List ℤ) (fill : ℤ) where
  abbrev gives : List ℕ → List Part → ℕ → List ℤ → ℤ
  gives ns ps q zs = value_from_at ns ps val fill q (coordinates ns zs)

  -- ---- one level
  first_of : (n : ℕ) (ns : List ℕ) (p : Part) (ps : List Part) (q c : ℕ) (o : Option (List ℕ)) (k : Option ℕ) → child_in n p q c ≡ k → ((q' : ℕ) → k ≡ Some q' → value_from_at ns ps val fill q' o ≡ fill)
      → value_from_at (n ∷ ns) (p ∷ ps) val fill q (with_first c o) ≡ fill
  first_of n ns p ps q c None k e h = refl
  first_of n ns p ps q c (Some cs) None e h = ap (λ (j : Option ℕ). below j (λ q'. value_from ns ps val fill q' cs) fill) e
  first_of n ns p ps q c (Some cs) (Some q') e h = ap (λ (j : Option ℕ). below j (λ x. value_from ns ps val fill x cs) fill) e ∙ h q' refl

  within : (n : ℕ) (ns : List ℕ) (p : Part) (ps : List Part) (q c : ℕ) (zs : List ℤ) (b : Bool) → nat_lt c n ≡ b → (b ≡ true → value_from_at (n ∷ ns) (p ∷ ps) val fill q (with_first c (coordinates ns zs)) ≡ fill)
      → value_from_at (n ∷ ns) (p ∷ ps) val fill q (if nat_lt c n then with_first c (coordinates ns zs) else None) ≡ fill
  within n ns p ps q c zs true e h = ap (λ b. value_from_at (n ∷ ns) (p ∷ ps) val fill q (if b then with_first c (coordinates ns zs) else None)) e ∙ h refl
  within n ns p ps q c zs false e h = ap (λ b. value_from_at (n ∷ ns) (p ∷ ps) val fill q (if b then with_first c (coordinates ns zs) else None)) e

  level : (n : ℕ) (ns : List ℕ) (p : Part) (ps : List Part) (q : ℕ) (z : ℤ) (zs : List ℤ) → ((q' : ℕ) → child_at n p q (inside n z) ≡ Some q' → gives ns ps q' zs ≡ fill) → gives (n ∷ ns) (p ∷ ps) q (z ∷ zs) ≡ fill
  level n ns p ps q (negsuc c) zs h = refl
  level n ns p ps q (pos c) zs h =
      within n ns p ps q c zs (nat_lt c n) refl (λ e. first_of n ns p ps q c (coordinates ns zs) (child_in n p q c) refl
      (λ q' k. h q' (ap (λ (b : Bool). child_at n p q (if b then Some c else None)) e ∙ k)))

  -- ---- the level that the loop drives
  seen : (i : Index) (n : ℕ) (p : Part) (q : ℕ) (z : ℤ) → (sight_at i n (At p q) z).gap ≡ true → (q' : ℕ) → child_at n p q (inside n z) ≡ Some q' → ⊥
  seen i n p q (negsuc c) g q' k = cc
  seen i n p q (pos c) g q' k = by_side (nat_lt c n) refl g k where
    by_side : (b : Bool) → nat_lt c n ≡ b → (sight_at i n (At p q) (pos c)).gap ≡ true → child_at n p q (if nat_lt c n then Some c else None) ≡ Some q' → ⊥
    by_side true e g k =
        let child : child_in n p q c ≡ Some q' = sym (ap (λ (b : Bool). child_at n p q (if b then Some c else None)) e) ∙ k in
        let gap : is_none (child_in n p q c) ≡ true = sym (ap (λ (b : Bool). (if b then edged (i.loose && nat_eq (c + 1) n) (stand_sight (course_of i.proto) n (At p q) c) else empty).gap) e) ∙ g in
        let bad : false ≡ true = sym (ap is_none child) ∙ gap in cc
    by_side false e g k = let bad : None ≡ Some q' = sym (ap (λ (b : Bool). child_at n p q (if b then Some c else None)) e) ∙ k in cc

  -- ---- all levels
  module _ (vars : Numbers) (var c : ℕ) where
    abbrev inner : Numbers
    inner = slice_set vars var (pos c)

    module _ (later : Numbers) (agree : SameUpTo var inner later) where
      abbrev Gap : List ℕ → List Part → List Index → Option ℕ → ℕ × Index → Type 0
      Gap ns ps is at d = (sight_at d.1 (slice_index_or ns d.0 0) (stand_at vars ns ps is d.0 at) (place inner d.1)).gap ≡ true

      abbrev Filled : List ℕ → List Part → List Index → Type 0
      Filled ns ps is = (q : ℕ) (d : ℕ × Index) → driven_index var is ≡ Some d → Gap ns ps is (Some q) d → gives ns ps q (map (place later) is) ≡ fill

      module _ (n : ℕ) (ns : List ℕ) (p : Part) (ps : List Part) (i : Index) (is : List Index) (after : Filled ns ps is) (q : ℕ) (d : ℕ × Index) (g : Gap (n ∷ ns) (p ∷ ps) (i ∷ is) (Some q) d) where
        abbrev Goal : Type 0
        Goal = gives (n ∷ ns) (p ∷ ps) q (map (place later) (i ∷ is)) ≡ fill

        by_later : (o : Option (ℕ × Index)) → driven_index var is ≡ o → nat_le (behind_index i) var ≡ true → one_deeper o ≡ Some d → Goal
        by_later None e t h = cc
        by_later (Some d') e t h =
            let same : d ≡ (d'.0 + 1, d'.1) = cc in
            let up : d'.0 + 1 ≡ suc d'.0 = omega arith in
            let g' : Gap (n ∷ ns) (p ∷ ps) (i ∷ is) (Some q) (d'.0 + 1, d'.1) = subst (λ (x : ℕ × Index). Gap (n ∷ ns) (p ∷ ps) (i ∷ is) (Some q) x) same g in
            let g'' : Gap (n ∷ ns) (p ∷ ps) (i ∷ is) (Some q) (suc d'.0, d'.1) = subst (λ (k : ℕ). Gap (n ∷ ns) (p ∷ ps) (i ∷ is) (Some q) (k, d'.1)) up g' in
            level n ns p ps q (place later i) (map (place later) is) (λ q' k.
            after q' d' e (subst (λ (o : Option ℕ). Gap ns ps is o d') (ap (λ z. child_at n p q (inside n z)) (sym (same_resolved var inner later agree i t ∙ kept_place vars var (pos c) i t)) ∙ k) g''))

        by_here : (b : Bool) → nat_eq (behind_index i) (var + 1) ≡ b → (if b then Some (0, i) else None) ≡ Some d → Goal
        by_here true t h =
            let same : d ≡ (0, i) = cc in
            let g' : Gap (n ∷ ns) (p ∷ ps) (i ∷ is) (Some q) (0, i) = subst (λ (x : ℕ × Index). Gap (n ∷ ns) (p ∷ ps) (i ∷ is) (Some q) x) same g in
            level n ns p ps q (place later i) (map (place later) is) (λ q' k.
            absurd (seen i n p q (place inner i) g' q' (ap (λ z. child_at n p q (inside n z)) (sym (same_driven var inner later agree i t)) ∙ k)))
        by_here false t h = cc

        by_test : (a : Bool) → nat_le (behind_index i) var ≡ a → (if a then one_deeper (driven_index var is) else (if nat_eq (behind_index i) (var + 1) then Some (0, i) else None)) ≡ Some d → Goal
        by_test true t h = by_later (driven_index var is) refl t h
        by_test false t h = by_here (nat_eq (behind_index i) (var + 1)) refl h

      filled : (ns : List ℕ) (ps : List Part) (is : List Index) → length ns ≡ length ps → Filled ns ps is
      filled ns ps [] m q d e g = let x : ◌≡◌ {A = Option (ℕ × Index)} None (Some d) = e in cc
      filled [] ps (i ∷ is) m q d e g = refl
      filled (n ∷ ns) [] (i ∷ is) m q d e g = absurd (omega (arith, m))
      filled (n ∷ ns) (p ∷ ps) (i ∷ is) m q d e g = by_test n ns p ps i is (filled ns ps is (omega (arith, m))) q d g (nat_le (behind_index i) var) refl e

pub gaps_have_fill : GapsHaveFill
gaps_have_fill s vars later var c at d same e g = filled s.val s.fill vars var c later same s.shape s.parts at s.matching 0 d e g
