-- A looplet that is moved shows below what it showed, and is sound there.
use Rattle.std.proofs.Common.{◌≡◌, ℕ, ◌+◌, ◌<◌, ◌⊎◌, inl, inr, ⊎_elim, List, length, true, false, refl, sym, ap, ◌∙◌, subst, ℤ, pos, ◌+ℤ◌, ◌-ℤ◌, neg_ℤ, ◌≤ℤ◌, ◌<ℤ◌, ◌^◌, negsuc, w64, SFits, arith, get_or-set_other}
use Rattle.std.specs.Prelude.{int_lt, int_le, if◌then◌else◌, slice_set}
use Rattle.std.proofs.Math.ListN.{length-set}
use Rattle.std.proofs.lemmas.Int.{int_wrap_fits}
use borrow.Author.Differences.{same_in, sum_is_lem, neg_is, le_out, below_in, lt-true, fits_in}
use Rattle.fin_base.specs.declared.terms.Op.TheVariants as op
use Rattle.fin_base.specs.Words.{operate}
use Rattle.fin_ir.specs.declared.expression.IExpr.{IExpr}
use Rattle.fin_ir.specs.declared.expression.IExpr.TheVariants.{Local}
use Rattle.fin_ir.proofs.Values.{value_two}
use Rattle.fin_looplet.specs.declared.looplet.Looplet.{Looplet, Row_of-Phase, end_of-Phase, more_of-Phase, Row_of-Walker, end_of-Walker, more_of-Walker, Row_of-Case, end_of-Case, more_of-Case, end_of-Looplet, more_of-Looplet}
use Rattle.fin_looplet.specs.declared.looplet.Looplet.TheVariants.{Run, Spike, Lookup, Sequence', Stepper', Jumper', Switch', Shift'}
use Rattle.fin_looplet.specs.Names.{Names}
use Rattle.fin_looplet.specs.View.{Store, value, leaf_sight, View, plain, ended, at_step, view, view_phases, view_walker, view_cases}
use Rattle.fin_looplet.specs.Sound.{Places, SoundWithin, SoundPhases, SoundWalker, SoundCases, Near}
use Rattle.fin_looplet.specs.Locals.{Owns, OwnsPhases, OwnsWalker, OwnsCases, ShiftNames, ShiftNamesPhases, ShiftNamesWalker, ShiftNamesCases}
use Rattle.fin_looplet.specs.Cut.{plus, minus}
use Rattle.fin_looplet.specs.Moved.{clip, put, moved, moved_phases, moved_walker, moved_cases}
use Rattle.fin_looplet.proofs.Exprs.{value_same, names_two}
use Rattle.fin_looplet.proofs.Cuts.{le_alike}
use Rattle.fin_looplet.proofs.MovedStops.{lt_alike, down_value, down_leaf, near_fits, below_same, ends_same, back_view, between, under'}

module _ (reach : Places) (nears : (z : ℤ) → reach z → Near z) where
  -- at a coordinate the moved looplet shows what the looplet shows at the one moved down; no own local is named by a shift, and all are there
  mutual
    pub moved_view : (ts : Store) (ls : List ℤ) (l : Looplet) (by : IExpr) (B end i : ℤ) (P : Places) → value ts ls by ≡ B → Near i → Near (i -ℤ B) → SoundWithin reach ts ls l P (i -ℤ B) → ((x : ℕ) → Owns x l → (x < length ls) × ((Names x by ⊎ ShiftNames x l) → ⊥)) → view ts ls (moved by l) end i ≡ view ts ls l (end -ℤ B) (i -ℤ B)
    moved_view ts ls (Run l) by B end i P b near near' s clear = refl
    moved_view ts ls (Spike x t) by B end i P b near near' s clear =
        let e1 = sum_is_lem end (neg_ℤ B) in let e2 = sum_is_lem i (neg_ℤ B) in let nb = neg_is B in
        let s1 = sum_is_lem i (pos 1) in let s2 = sum_is_lem (i -ℤ B) (pos 1) in let s3 = sum_is_lem i (pos 2) in let s4 = sum_is_lem (i -ℤ B) (pos 2) in
        let p : int_lt (i +ℤ pos 1) end ≡ int_lt ((i -ℤ B) +ℤ pos 1) (end -ℤ B) = lt_alike (i +ℤ pos 1) end ((i -ℤ B) +ℤ pos 1) (end -ℤ B) (λ h. omega (arith, h, e1, e2, nb, s1, s2)) (λ h. omega (arith, h, e1, e2, nb, s1, s2)) in
        let q : int_le end (i +ℤ pos 2) ≡ int_le (end -ℤ B) ((i -ℤ B) +ℤ pos 2) = le_alike end (i +ℤ pos 2) (end -ℤ B) ((i -ℤ B) +ℤ pos 2) (λ h. omega (arith, h, e1, e2, nb, s3, s4)) (λ h. omega (arith, h, e1, e2, nb, s3, s4)) in
        ap (λ z. if z then ended (int_le end (i +ℤ pos 2)) false (plain false (leaf_sight ts ls x)) else plain false (leaf_sight ts ls t)) p
        ∙ ap (λ z. if int_lt ((i -ℤ B) +ℤ pos 1) (end -ℤ B) then ended z false (plain false (leaf_sight ts ls x)) else plain false (leaf_sight ts ls t)) q
    moved_view ts ls (Lookup c l) by B end i P b near near' s clear =
        let k = clear c refl in
        ap (plain true) (down_leaf ts ls by B b c k.0 (λ n. k.1 (inl n)) i (near_fits (i -ℤ B) near') l)
    moved_view ts ls (Sequence' n ps) by B end i P b near near' s clear = moved_phases_view ts ls ps by B i P b near near' s clear
    moved_view ts ls (Stepper' p w) by B end i P b near near' s clear = moved_walker_view ts ls w by B i P b near near' s clear
    moved_view ts ls (Jumper' p w) by B end i P b near near' s clear = moved_walker_view ts ls w by B i P b near near' s clear
    moved_view ts ls (Switch' n cs) by B end i P b near near' s clear = moved_cases_view ts ls cs by B end i P b near near' s clear
    moved_view ts ls (Shift' by2 q (more_of-Looplet child end_of-Looplet)) by B end i P b near near' s clear =
        let B2 = value ts ls by2 in
        let far = nears ((i -ℤ B) -ℤ B2) s.0 in
        let nb = neg_is B in let nb2 = neg_is B2 in
        let f : SFits w64 (B +ℤ B2) = fits_in w64 (B +ℤ B2) (omega (arith, sum_is_lem B B2, sum_is_lem i (neg_ℤ B), sum_is_lem (i -ℤ B) (neg_ℤ B2), nb, nb2, le_out (negsuc (2 ^ 42)) i near.0, le_out i (pos (2 ^ 42 + 2 ^ 41)) near.1, le_out (negsuc (2 ^ 42)) ((i -ℤ B) -ℤ B2) far.0, le_out ((i -ℤ B) -ℤ B2) (pos (2 ^ 42 + 2 ^ 41)) far.1)) in
        let both : value ts ls (plus by by2) ≡ B +ℤ B2 = value_two ts ls op.Add by by2 ∙ ap (λ z. operate op.Add z B2) b ∙ int_wrap_fits w64 (B +ℤ B2) f in
        let at_i : i -ℤ (B +ℤ B2) ≡ (i -ℤ B) -ℤ B2 = same_in _ _ (omega (arith, sum_is_lem i (neg_ℤ (B +ℤ B2)), neg_is (B +ℤ B2), sum_is_lem B B2, sum_is_lem (i -ℤ B) (neg_ℤ B2), sum_is_lem i (neg_ℤ B), nb, nb2)) in
        let at_end : end -ℤ (B +ℤ B2) ≡ (end -ℤ B) -ℤ B2 = same_in _ _ (omega (arith, sum_is_lem end (neg_ℤ (B +ℤ B2)), neg_is (B +ℤ B2), sum_is_lem B B2, sum_is_lem (end -ℤ B) (neg_ℤ B2), sum_is_lem end (neg_ℤ B), nb, nb2)) in
        let clear' : (x : ℕ) → Owns x child → (x < length ls) × ((Names x (plus by by2) ⊎ ShiftNames x child) → ⊥) = (λ x o. let c = clear x o in (c.0, λ w. ⊎_elim (λ n. ⊎_elim (λ a. c.1 (inl a)) (λ a. c.1 (inr (inl a))) (names_two x op.Add by by2 n)) (λ n. c.1 (inr (inr n))) w)) in
        moved_view ts ls child (plus by by2) (B +ℤ B2) end i (λ j. P (j +ℤ B2)) both near (subst Near (sym at_i) far) (subst (λ z. SoundWithin reach ts ls child (λ j. P (j +ℤ B2)) z) (sym at_i) s.1) clear'
        ∙ ap (λ z. view ts ls child z (i -ℤ (B +ℤ B2))) at_end ∙ ap (view ts ls child ((end -ℤ B) -ℤ B2)) at_i

    moved_phases_view : {n : _} (ts : Store) (ls : List ℤ) (ps : Row_of-Phase n) (by : IExpr) (B i : ℤ) (P : Places) → value ts ls by ≡ B → Near i → Near (i -ℤ B) → SoundPhases reach ts ls ps P (i -ℤ B) → ((x : ℕ) → OwnsPhases x ps → (x < length ls) × ((Names x by ⊎ ShiftNamesPhases x ps) → ⊥)) → view_phases ts ls (moved_phases by ps) i ≡ view_phases ts ls ps (i -ℤ B)
    moved_phases_view ts ls end_of-Phase by B i P b near near' s clear = absurd s
    moved_phases_view ts ls (more_of-Phase stop child rest) by B i P b near near' (inl s) clear =
        let S = value ts ls stop in
        let S' = value ts ls (plus (clip stop) by) in
        let D = i -ℤ B in
        let t : int_lt i S' ≡ true = below_same ts ls by stop B i b near near' ∙ s.0 in
        let clear' : (x : ℕ) → Owns x child → (x < length ls) × ((Names x by ⊎ ShiftNames x child) → ⊥) = (λ x o. let c = clear x (inl o) in (c.0, λ w. ⊎_elim (λ n. c.1 (inl n)) (λ n. c.1 (inr (inl n))) w)) in
        let first : view_phases ts ls (moved_phases by (more_of-Phase stop child rest)) i ≡ ended (int_le S' (i +ℤ pos 1)) false (view ts ls (moved by child) S' i) = rw t refl in
        let second : view_phases ts ls (more_of-Phase stop child rest) D ≡ ended (int_le S (D +ℤ pos 1)) false (view ts ls child S D) = rw s.0 refl in
        let c1 = moved_view ts ls child by B S' i (λ j. P j × (j <ℤ S)) b near near' s.1 clear' in
        let c2 = back_view ts ls by stop B i b near near' child (below_in D S (lt-true D S s.0)) in
        first ∙ ap (λ (w : View). ended (int_le S' (i +ℤ pos 1)) false w) (c1 ∙ c2) ∙ ap (λ z. ended z false (view ts ls child S D)) (ends_same ts ls by stop B i b near near') ∙ sym second
    moved_phases_view ts ls (more_of-Phase stop child rest) by B i P b near near' (inr s) clear =
        let S' = value ts ls (plus (clip stop) by) in
        let D = i -ℤ B in
        let t : int_lt i S' ≡ false = below_same ts ls by stop B i b near near' ∙ s.0 in
        let clear' : (x : ℕ) → OwnsPhases x rest → (x < length ls) × ((Names x by ⊎ ShiftNamesPhases x rest) → ⊥) = (λ x o. let c = clear x (inr o) in (c.0, λ w. ⊎_elim (λ n. c.1 (inl n)) (λ n. c.1 (inr (inr n))) w)) in
        let first : view_phases ts ls (moved_phases by (more_of-Phase stop child rest)) i ≡ view_phases ts ls (moved_phases by rest) i = rw t refl in
        let second : view_phases ts ls (more_of-Phase stop child rest) D ≡ view_phases ts ls rest D = rw s.0 refl in
        first ∙ moved_phases_view ts ls rest by B i P b near near' s.1 clear' ∙ sym second

    moved_walker_view : {n : _} (ts : Store) (ls : List ℤ) (w : Row_of-Walker n) (by : IExpr) (B i : ℤ) (P : Places) → value ts ls by ≡ B → Near i → Near (i -ℤ B) → SoundWalker reach ts ls w P (i -ℤ B) → ((x : ℕ) → OwnsWalker x w → (x < length ls) × ((Names x by ⊎ ShiftNamesWalker x w) → ⊥)) → view_walker ts ls (moved_walker by w) i ≡ view_walker ts ls w (i -ℤ B)
    moved_walker_view ts ls end_of-Walker by B i P b near near' s clear = absurd s
    moved_walker_view ts ls (more_of-Walker cursor seek stop child rest) by B i P b near near' s clear =
        let k0 = clear cursor (inl refl) in
        let k1 = clear (cursor + 1) (inr (inl refl)) in
        let D = i -ℤ B in
        let place = down_value ts ls by B b (cursor + 1) k1.0 (λ n. k1.1 (inl n)) i (near_fits D near') seek in
        let st = at_step ts ls cursor seek D in
        let st' = at_step ts ls cursor (put (cursor + 1) (minus (Local (cursor + 1)) by) seek) i in
        let same : st' ≡ st = ap (slice_set ls cursor) place in
        let v = value ts (slice_set ls (cursor + 1) D) seek in
        let b' : value ts st by ≡ B = value_same ts by st ls (λ x n. get_or-set_other ls cursor x v (pos 0) (λ e. k0.1 (inl (subst (λ z. Names z by) e n)))) ∙ b in
        let clear' : (x : ℕ) → Owns x child → (x < length st) × ((Names x by ⊎ ShiftNames x child) → ⊥) = (λ x o. let c = clear x (inr (inr o)) in (let r = c.0 in omega (arith, r, length-set ls cursor v), c.1)) in
        let S = value ts st stop in
        let S' = value ts st (plus (clip stop) by) in
        let c1 = moved_view ts st child by B S' i (λ j. P j × (j <ℤ S)) b' near near' s.1.1 clear' in
        let c2 = back_view ts st by stop B i b' near near' child s.0 in
        ap (λ (z : List ℤ). ended (int_le (value ts z (plus (clip stop) by)) (i +ℤ pos 1)) true (view ts z (moved by child) (value ts z (plus (clip stop) by)) i)) same
        ∙ ap (λ (w : View). ended (int_le S' (i +ℤ pos 1)) true w) (c1 ∙ c2)
        ∙ ap (λ z. ended z true (view ts st child S D)) (ends_same ts st by stop B i b' near near')

    moved_cases_view : {n : _} (ts : Store) (ls : List ℤ) (cs : Row_of-Case n) (by : IExpr) (B end i : ℤ) (P : Places) → value ts ls by ≡ B → Near i → Near (i -ℤ B) → SoundCases reach ts ls cs P (i -ℤ B) → ((x : ℕ) → OwnsCases x cs → (x < length ls) × ((Names x by ⊎ ShiftNamesCases x cs) → ⊥)) → view_cases ts ls (moved_cases by cs) end i ≡ view_cases ts ls cs (end -ℤ B) (i -ℤ B)
    moved_cases_view ts ls end_of-Case by B end i P b near near' s clear = absurd s
    moved_cases_view ts ls (more_of-Case test child rest) by B end i P b near near' (inl s) clear =
        let clear' : (x : ℕ) → OwnsCases x rest → (x < length ls) × ((Names x by ⊎ ShiftNamesCases x rest) → ⊥) = (λ x o. let c = clear x (inr o) in (c.0, λ w. ⊎_elim (λ n. c.1 (inl n)) (λ n. c.1 (inr (inr n))) w)) in
        let r = moved_cases_view ts ls rest by B end i P b near near' s.1 clear' in rw s.0 r
    moved_cases_view ts ls (more_of-Case test child rest) by B end i P b near near' (inr s) clear =
        let clear' : (x : ℕ) → Owns x child → (x < length ls) × ((Names x by ⊎ ShiftNames x child) → ⊥) = (λ x o. let c = clear x (inl o) in (c.0, λ w. ⊎_elim (λ n. c.1 (inl n)) (λ n. c.1 (inr (inl n))) w)) in
        let r = moved_view ts ls child by B end i P b near near' s.1 clear' in rw s.0 r

module _ (reach wider : Places) (nears : (z : ℤ) → reach z → Near z) where
  mutual
    pub moved_sound : (ts : Store) (ls : List ℤ) (l : Looplet) (by : IExpr) (B i : ℤ) (P Q : Places) → value ts ls by ≡ B → Near i → Near (i -ℤ B) → ((j : ℤ) → i ≤ℤ j → Q j → P (j -ℤ B)) → SoundWithin reach ts ls l P (i -ℤ B) → ((x : ℕ) → Owns x l → (x < length ls) × ((Names x by ⊎ ShiftNames x l) → ⊥)) → SoundWithin wider ts ls (moved by l) Q i
    moved_sound ts ls (Run l) by B i P Q b near near' pq s clear = tt
    moved_sound ts ls (Spike x t) by B i P Q b near near' pq s clear = tt
    moved_sound ts ls (Lookup c l) by B i P Q b near near' pq s clear = tt
    moved_sound ts ls (Sequence' n ps) by B i P Q b near near' pq s clear = moved_phases_sound ts ls ps by B i P Q b near near' pq s clear
    moved_sound ts ls (Stepper' p w) by B i P Q b near near' pq s clear = moved_walker_sound ts ls w by B i P Q b near near' pq s clear
    moved_sound ts ls (Jumper' p w) by B i P Q b near near' pq s clear = moved_walker_sound ts ls w by B i P Q b near near' pq s clear
    moved_sound ts ls (Switch' n cs) by B i P Q b near near' pq s clear = moved_cases_sound ts ls cs by B i P Q b near near' pq s clear
    moved_sound ts ls (Shift' by2 q (more_of-Looplet child end_of-Looplet)) by B i P Q b near near' pq s clear =
        let B2 = value ts ls by2 in
        let far = nears ((i -ℤ B) -ℤ B2) s.0 in
        let nb = neg_is B in let nb2 = neg_is B2 in
        let f : SFits w64 (B +ℤ B2) = fits_in w64 (B +ℤ B2) (omega (arith, sum_is_lem B B2, sum_is_lem i (neg_ℤ B), sum_is_lem (i -ℤ B) (neg_ℤ B2), nb, nb2, le_out (negsuc (2 ^ 42)) i near.0, le_out i (pos (2 ^ 42 + 2 ^ 41)) near.1, le_out (negsuc (2 ^ 42)) ((i -ℤ B) -ℤ B2) far.0, le_out ((i -ℤ B) -ℤ B2) (pos (2 ^ 42 + 2 ^ 41)) far.1)) in
        let both : value ts ls (plus by by2) ≡ B +ℤ B2 = value_two ts ls op.Add by by2 ∙ ap (λ z. operate op.Add z B2) b ∙ int_wrap_fits w64 (B +ℤ B2) f in
        let at_i : i -ℤ (B +ℤ B2) ≡ (i -ℤ B) -ℤ B2 = same_in _ _ (omega (arith, sum_is_lem i (neg_ℤ (B +ℤ B2)), neg_is (B +ℤ B2), sum_is_lem B B2, sum_is_lem (i -ℤ B) (neg_ℤ B2), sum_is_lem i (neg_ℤ B), nb, nb2)) in
        let at_j : (j : ℤ) → j -ℤ B ≡ (j -ℤ (B +ℤ B2)) +ℤ B2 = (λ j. same_in _ _ (omega (arith, sum_is_lem j (neg_ℤ (B +ℤ B2)), neg_is (B +ℤ B2), sum_is_lem B B2, sum_is_lem (j -ℤ (B +ℤ B2)) B2, sum_is_lem j (neg_ℤ B), nb))) in
        let clear' : (x : ℕ) → Owns x child → (x < length ls) × ((Names x (plus by by2) ⊎ ShiftNames x child) → ⊥) = (λ x o. let c = clear x o in (c.0, λ w. ⊎_elim (λ n. ⊎_elim (λ a. c.1 (inl a)) (λ a. c.1 (inr (inl a))) (names_two x op.Add by by2 n)) (λ n. c.1 (inr (inr n))) w)) in
        moved_sound ts ls child (plus by by2) (B +ℤ B2) i (λ j. P (j +ℤ B2)) Q both near (subst Near (sym at_i) far) (λ j a w. subst P (at_j j) (pq j a w)) (subst (λ z. SoundWithin reach ts ls child (λ j. P (j +ℤ B2)) z) (sym at_i) s.1) clear'

    moved_phases_sound : {n : _} (ts : Store) (ls : List ℤ) (ps : Row_of-Phase n) (by : IExpr) (B i : ℤ) (P Q : Places) → value ts ls by ≡ B → Near i → Near (i -ℤ B) → ((j : ℤ) → i ≤ℤ j → Q j → P (j -ℤ B)) → SoundPhases reach ts ls ps P (i -ℤ B) → ((x : ℕ) → OwnsPhases x ps → (x < length ls) × ((Names x by ⊎ ShiftNamesPhases x ps) → ⊥)) → SoundPhases wider ts ls (moved_phases by ps) Q i
    moved_phases_sound ts ls end_of-Phase by B i P Q b near near' pq s clear = s
    moved_phases_sound ts ls (more_of-Phase stop child rest) by B i P Q b near near' pq (inl s) clear =
        let S = value ts ls stop in
        let S' = value ts ls (plus (clip stop) by) in
        let D = i -ℤ B in
        let u : D <ℤ S = below_in D S (lt-true D S s.0) in
        let bt = between ts ls by stop B i b near near' u in
        let clear' : (x : ℕ) → Owns x child → (x < length ls) × ((Names x by ⊎ ShiftNames x child) → ⊥) = (λ x o. let c = clear x (inl o) in (c.0, λ w. ⊎_elim (λ n. c.1 (inl n)) (λ n. c.1 (inr (inl n))) w)) in
        inl (below_same ts ls by stop B i b near near' ∙ s.0, moved_sound ts ls child by B i (λ j. P j × (j <ℤ S)) (λ j. Q j × (j <ℤ S')) b near near' (λ j a w. (pq j a w.0, (bt j a w.1).1.0)) s.1 clear')
    moved_phases_sound ts ls (more_of-Phase stop child rest) by B i P Q b near near' pq (inr s) clear =
        let clear' : (x : ℕ) → OwnsPhases x rest → (x < length ls) × ((Names x by ⊎ ShiftNamesPhases x rest) → ⊥) = (λ x o. let c = clear x (inr o) in (c.0, λ w. ⊎_elim (λ n. c.1 (inl n)) (λ n. c.1 (inr (inr n))) w)) in
        inr (below_same ts ls by stop B i b near near' ∙ s.0, moved_phases_sound ts ls rest by B i P Q b near near' pq s.1 clear')

    moved_walker_sound : {n : _} (ts : Store) (ls : List ℤ) (w : Row_of-Walker n) (by : IExpr) (B i : ℤ) (P Q : Places) → value ts ls by ≡ B → Near i → Near (i -ℤ B) → ((j : ℤ) → i ≤ℤ j → Q j → P (j -ℤ B)) → SoundWalker reach ts ls w P (i -ℤ B) → ((x : ℕ) → OwnsWalker x w → (x < length ls) × ((Names x by ⊎ ShiftNamesWalker x w) → ⊥)) → SoundWalker wider ts ls (moved_walker by w) Q i
    moved_walker_sound ts ls end_of-Walker by B i P Q b near near' pq s clear = s
    moved_walker_sound ts ls (more_of-Walker cursor seek stop child rest) by B i P Q b near near' pq s clear =
        let k0 = clear cursor (inl refl) in
        let k1 = clear (cursor + 1) (inr (inl refl)) in
        let D = i -ℤ B in
        let seek' = put (cursor + 1) (minus (Local (cursor + 1)) by) seek in
        let place = down_value ts ls by B b (cursor + 1) k1.0 (λ n. k1.1 (inl n)) i (near_fits D near') seek in
        let st = at_step ts ls cursor seek D in
        let st' = at_step ts ls cursor seek' i in
        let same : st ≡ st' = ap (slice_set ls cursor) (sym place) in
        let v = value ts (slice_set ls (cursor + 1) D) seek in
        let b' : value ts st by ≡ B = value_same ts by st ls (λ x n. get_or-set_other ls cursor x v (pos 0) (λ e. k0.1 (inl (subst (λ z. Names z by) e n)))) ∙ b in
        let clear' : (x : ℕ) → Owns x child → (x < length st) × ((Names x by ⊎ ShiftNames x child) → ⊥) = (λ x o. let c = clear x (inr (inr o)) in (let r = c.0 in omega (arith, r, length-set ls cursor v), c.1)) in
        let S = value ts st stop in
        let S' = value ts st (plus (clip stop) by) in
        let bt : (j : ℤ) → i ≤ℤ j → j <ℤ S' → (D ≤ℤ (j -ℤ B)) × (((j -ℤ B) <ℤ S) × SFits w64 (j -ℤ B)) = between ts st by stop B i b' near near' s.0 in
        let child_sound = moved_sound ts st child by B i (λ j. P j × (j <ℤ S)) (λ j. Q j × (j <ℤ S')) b' near near' (λ j a w. (pq j a w.0, (bt j a w.1).1.0)) s.1.1 clear' in
        let stays : (j : ℤ) → i ≤ℤ j → Q j → j <ℤ S' → value ts (slice_set ls (cursor + 1) j) seek' ≡ value ts (slice_set ls (cursor + 1) i) seek' = (λ j a w lt.
        down_value ts ls by B b (cursor + 1) k1.0 (λ n. k1.1 (inl n)) j (bt j a lt).1.1 seek ∙ s.1.0 (j -ℤ B) (bt j a lt).0 (pq j a w) (bt j a lt).1.0 ∙ sym place) in
        subst (λ (z : List ℤ). (i <ℤ value ts z (plus (clip stop) by)) × (((j : ℤ) → i ≤ℤ j → Q j → j <ℤ value ts z (plus (clip stop) by) → value ts (slice_set ls (cursor + 1) j) seek' ≡ value ts (slice_set ls (cursor + 1) i) seek') × SoundWithin wider ts z (moved by child) (λ j. Q j × (j <ℤ value ts z (plus (clip stop) by))) i)) same
        (under' ts st by stop B i b' near near' s.0, (stays, child_sound))

    moved_cases_sound : {n : _} (ts : Store) (ls : List ℤ) (cs : Row_of-Case n) (by : IExpr) (B i : ℤ) (P Q : Places) → value ts ls by ≡ B → Near i → Near (i -ℤ B) → ((j : ℤ) → i ≤ℤ j → Q j → P (j -ℤ B)) → SoundCases reach ts ls cs P (i -ℤ B) → ((x : ℕ) → OwnsCases x cs → (x < length ls) × ((Names x by ⊎ ShiftNamesCases x cs) → ⊥)) → SoundCases wider ts ls (moved_cases by cs) Q i
    moved_cases_sound ts ls end_of-Case by B i P Q b near near' pq s clear = s
    moved_cases_sound ts ls (more_of-Case test child rest) by B i P Q b near near' pq (inl s) clear =
        let clear' : (x : ℕ) → OwnsCases x rest → (x < length ls) × ((Names x by ⊎ ShiftNamesCases x rest) → ⊥) = (λ x o. let c = clear x (inr o) in (c.0, λ w. ⊎_elim (λ n. c.1 (inl n)) (λ n. c.1 (inr (inr n))) w)) in
        inl (s.0, moved_cases_sound ts ls rest by B i P Q b near near' pq s.1 clear')
    moved_cases_sound ts ls (more_of-Case test child rest) by B i P Q b near near' pq (inr s) clear =
        let clear' : (x : ℕ) → Owns x child → (x < length ls) × ((Names x by ⊎ ShiftNames x child) → ⊥) = (λ x o. let c = clear x (inl o) in (c.0, λ w. ⊎_elim (λ n. c.1 (inl n)) (λ n. c.1 (inr (inl n))) w)) in
        inr (s.0, moved_sound ts ls child by B i P Q b near near' pq s.1 clear')
