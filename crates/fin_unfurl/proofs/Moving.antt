-- What shifted looplets and those of comparisons own, and what they depend on.
use Rattle.std.proofs.Common.{ℕ, ◌^◌, [], ◌∷◌, inl, ◌⊎◌, ⊎_elim, Some, None, Option, ℤ, pos, negsuc}
use Rattle.fin_base.specs.declared.terms.Op.{Op}
use Rattle.fin_base.specs.declared.terms.Op.TheVariants as op
use Rattle.fin_ir.specs.declared.expression.IExpr.{IExpr}
use Rattle.fin_ir.specs.declared.expression.IExpr.TheVariants.{Num, Two}
use Rattle.fin_looplet.specs.declared.looplet.Looplet.{Looplet}
use Rattle.fin_looplet.specs.declared.looplet.Looplet.TheVariants.{Sequence, Shift}
use Rattle.fin_looplet.specs.Names.{Names}
use Rattle.fin_looplet.specs.Locals.{Free, Owns}
use Rattle.fin_looplet.proofs.Exprs.{names_two, names_num}
use Rattle.fin_looplet.proofs.Bridges.{from_owns_phase, owns_no_phase, from_owns_shift, from_free_phase, free_no_phase, from_free_shift}
use Rattle.fin_unfurl.specs.Parts.{next}
use Rattle.fin_unfurl.specs.Shifts.{near, outside, boxed, edged, shift_of, OwnsTheSame, DependsOnDistance}
use Rattle.fin_unfurl.specs.Masks.{holds_before, holds_at, holds_behind, bounded, known, mask_of, OwnsNone, DependsOnBound}

module _ (child : Looplet) (by : IExpr) where
  edged_owns : (n : ℕ) (fill : ℤ) → OwnsTheSame child (edged child by n fill)
  edged_owns n fill x o =
      let first = outside fill by in
      let second = boxed child by n in
      let third = outside fill (Num (pos (2 ^ 40))) in
      ⊎_elim
      (λ (h : ⊥). absurd h)
      (λ r. ⊎_elim
      (λ (h : Owns x (Shift by child)). from_owns_shift x by child h)
      (λ q. ⊎_elim (λ (h : ⊥). absurd h) (λ (h : Owns x (Sequence [])). absurd (owns_no_phase x h)) (from_owns_phase x third [] q))
      (from_owns_phase x second (third ∷ []) r))
      (from_owns_phase x first (second ∷ third ∷ []) o)

  pub shift_owns : (edge : Option (ℕ × ℤ)) → OwnsTheSame child (shift_of child by edge)
  shift_owns None x o = from_owns_shift x by child o
  shift_owns (Some e) x o = edged_owns e.0 e.1 x o

  near_names : (x : ℕ) → Names x (near by) → Names x by
  near_names x h =
      ⊎_elim
      (λ (k : Names x (Two op.Min by (Num (pos (2 ^ 40))))). ⊎_elim (λ (j : Names x by). j) (λ (j : Names x (Num (pos (2 ^ 40)))). absurd (names_num x (pos (2 ^ 40)) j))
      (names_two x op.Min by (Num (pos (2 ^ 40))) k))
      (λ (k : Names x (Num (negsuc (2 ^ 41)))). absurd (names_num x (negsuc (2 ^ 41)) k))
      (names_two x op.Max (Two op.Min by (Num (pos (2 ^ 40)))) (Num (negsuc (2 ^ 41))) h)

  edged_free : (n : ℕ) (fill : ℤ) → DependsOnDistance child by (edged child by n fill)
  edged_free n fill x f =
      let first = outside fill by in
      let second = boxed child by n in
      let third = outside fill (Num (pos (2 ^ 40))) in
      let last : Free x (Sequence (third ∷ [])) → Names x by ⊎ Free x child =
      (λ q. ⊎_elim (λ (h : Names x (Num (pos (2 ^ 40)))). absurd (names_num x (pos (2 ^ 40)) h))
      (λ s. ⊎_elim (λ (h : ⊥). absurd h) (λ (h : Free x (Sequence [])). absurd (free_no_phase x h)) s) (from_free_phase x third [] q)) in
      let box : Free x (Sequence (second ∷ third ∷ [])) → Names x by ⊎ Free x child =
      (λ q. ⊎_elim
      (λ (h : Names x (Two op.Add (near by) (Num (pos n)))). ⊎_elim (λ (j : Names x (near by)). inl (near_names x j)) (λ (j : Names x (Num (pos n))). absurd (names_num x (pos n) j))
      (names_two x op.Add (near by) (Num (pos n)) h))
      (λ s. ⊎_elim (λ (h : Free x (Shift by child)). from_free_shift x by child h) (λ (h : Free x (Sequence (third ∷ []))). last h) s)
      (from_free_phase x second (third ∷ []) q)) in
      ⊎_elim
      (λ (h : Names x by). inl h)
      (λ r. ⊎_elim (λ (h : ⊥). absurd h) (λ (h : Free x (Sequence (second ∷ third ∷ []))). box h) r)
      (from_free_phase x first (second ∷ third ∷ []) f)

  pub shift_free : (edge : Option (ℕ × ℤ)) → DependsOnDistance child by (shift_of child by edge)
  shift_free None x f = from_free_shift x by child f
  shift_free (Some e) x f = edged_free e.0 e.1 x f

module _ (o : Op) (b : IExpr) where
  pub mask_owns : OwnsNone (mask_of o b)
  mask_owns x h =
      let first = known (holds_before o) (bounded b) in
      let second = known (holds_at o) (next (bounded b)) in
      let third = known (holds_behind o) (Num (pos (2 ^ 40))) in
      ⊎_elim
      (λ (k : ⊥). k)
      (λ r. ⊎_elim (λ (k : ⊥). k)
      (λ q. ⊎_elim (λ (k : ⊥). k) (λ (k : Owns x (Sequence [])). owns_no_phase x k) (from_owns_phase x third [] q))
      (from_owns_phase x second (third ∷ []) r))
      (from_owns_phase x first (second ∷ third ∷ []) h)

  bounded_names : (x : ℕ) → Names x (bounded b) → Names x b
  bounded_names x h =
      ⊎_elim
      (λ (k : Names x (Two op.Min b (Num (pos (2 ^ 40))))). ⊎_elim (λ (j : Names x b). j) (λ (j : Names x (Num (pos (2 ^ 40)))). absurd (names_num x (pos (2 ^ 40)) j))
      (names_two x op.Min b (Num (pos (2 ^ 40))) k))
      (λ (k : Names x (Num (negsuc 0))). absurd (names_num x (negsuc 0) k))
      (names_two x op.Max (Two op.Min b (Num (pos (2 ^ 40)))) (Num (negsuc 0)) h)

  -- the runs' words are numbers
  word_free : (x : ℕ) (holds : _) (stop : IExpr) → Free x (known holds stop).child → ⊥
  word_free x holds stop h = names_num x _ h

  pub mask_free : DependsOnBound b (mask_of o b)
  mask_free x f =
      let first = known (holds_before o) (bounded b) in
      let second = known (holds_at o) (next (bounded b)) in
      let third = known (holds_behind o) (Num (pos (2 ^ 40))) in
      let last : Free x (Sequence (third ∷ [])) → Names x b =
      (λ q. ⊎_elim (λ (h : Names x (Num (pos (2 ^ 40)))). absurd (names_num x (pos (2 ^ 40)) h))
      (λ s. ⊎_elim (λ (h : Free x third.child). absurd (word_free x (holds_behind o) third.stop h)) (λ (h : Free x (Sequence [])). absurd (free_no_phase x h)) s) (from_free_phase x third [] q)) in
      let middle : Free x (Sequence (second ∷ third ∷ [])) → Names x b =
      (λ q. ⊎_elim
      (λ (h : Names x (next (bounded b))). ⊎_elim (λ (j : Names x (bounded b)). bounded_names x j) (λ (j : Names x (Num (pos 1))). absurd (names_num x (pos 1) j))
      (names_two x op.Add (bounded b) (Num (pos 1)) h))
      (λ s. ⊎_elim (λ (h : Free x second.child). absurd (word_free x (holds_at o) second.stop h)) (λ (h : Free x (Sequence (third ∷ []))). last h) s)
      (from_free_phase x second (third ∷ []) q)) in
      ⊎_elim
      (λ (h : Names x (bounded b)). bounded_names x h)
      (λ r. ⊎_elim (λ (h : Free x first.child). absurd (word_free x (holds_before o) first.stop h)) (λ (h : Free x (Sequence (second ∷ third ∷ []))). middle h) r)
      (from_free_phase x first (second ∷ third ∷ []) f)
