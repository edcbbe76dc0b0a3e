-- A program has one outcome: its numbers, or one first breach.
use Rattle.std.proofs.Common.{◌≡◌, ◌∙◌, ◌<◌, inl, inr, ℕ, List, Option, Some, None, nat_le, refl, sym, ap, ap₂, arith}
use Rattle.fin_base.specs.declared.refusal.Refusal.{Refusal}
use Rattle.fin_ast.specs.declared.program.Program.{Program}
use Rattle.fin_ast.specs.declared.checked.Dims.{Dims}
use Rattle.fin_ast.specs.declared.place.Tie.{Tie}
use Rattle.fin_ast.specs.Ties.{Shapes, Extents, AreExtents, IsUneven, IsFirstUneven, ties_up_to}
use Rattle.fin_dims.proofs.Joined.{uneven_stays}
use Rattle.fin_dims.proofs.Order.{from_filter}
use Rattle.fin_ast.specs.Infer.{IsInferred, IsFirstBreach, large_in, shapes_in, ties_in, dims_in, breach_in}

every_value : {A B : Type 0} (f g : A → B) → ((x : A) → f x ≡ g x) → f ≡ g
every_value f g h = λ i. λ x. h x i

pub same_option : (o p : Option ℕ) → ((n : ℕ) → o ≡ Some n → p ≡ Some n) → ((n : ℕ) → p ≡ Some n → o ≡ Some n) → o ≡ p
same_option None None f g = refl
same_option None (Some n) f g = g n refl
same_option (Some n) p f g = sym (f n refl)

-- numbers by chains are one function
same_extents : (shapes : Shapes) (ties : List Tie) (e f : Extents) → AreExtents shapes ties e → AreExtents shapes ties f → e ≡ f
same_extents shapes ties e f h k = every_value e f (λ a. same_option (e a) (f a) (λ n is. (k a n).1 ((h a n).0 is)) (λ n is. (h a n).1 ((k a n).0 is)))

pub one_inferred : (p : Program) (inputs : Shapes) (d e : Dims) → IsInferred p inputs d → IsInferred p inputs e → d ≡ e
one_inferred p inputs d e h k = h.numbers ∙ ap (λ (x : Extents). dims_in x p) (same_extents (shapes_in p inputs) (ties_in p) h.extent k.extent h.extents k.extents) ∙ sym k.numbers

some_or_none : {A : Type 0} (o : Option A) (x : A) → o ≡ Some x → o ≡ None → ⊥
some_or_none o x h k = cc

same_some : {A : Type 0} (o : Option A) (x y : A) → o ≡ Some x → o ≡ Some y → x ≡ y
same_some o x y h k = let e : Some x ≡ Some y = sym h ∙ k in cc

-- two lines that are least are one
least_line : (shapes : Shapes) (ties : List Tie) (m n : ℕ) → IsFirstUneven shapes ties m → IsFirstUneven shapes ties n → m ≡ n
least_line shapes ties m n h k = compare m n (λ less. k.least m less h.uneven) (λ less. h.least n less k.uneven) where
  compare : (m n : ℕ) → (m < n → ⊥) → (n < m → ⊥) → m ≡ n
  compare m n f g = omega (arith, f, g)

some_ties : (shapes : Shapes) (ties : List Tie) (line : ℕ) → IsUneven shapes (ties_up_to line ties) → IsUneven shapes ties
some_ties shapes ties line u = uneven_stays shapes (ties_up_to line ties) ties (λ t m. (from_filter (λ x. nat_le x.line line) ties t m).0) u

pub inferred_or_broken : (p : Program) (inputs : Shapes) (d : Dims) (r : Refusal) → IsInferred p inputs d → IsFirstBreach p inputs r → ⊥
inferred_or_broken p inputs d r h (inl large) = some_or_none (large_in p) r large h.small
inferred_or_broken p inputs d r h (inr (inl uneven)) = h.even (some_ties (shapes_in p inputs) (ties_in p) r.line uneven.line.uneven)
inferred_or_broken p inputs d r h (inr (inr later)) =
    some_or_none (breach_in h.extent p) r (ap (λ (x : Extents). breach_in x p) (same_extents (shapes_in p inputs) (ties_in p) h.extent later.extent h.extents later.extents) ∙ later.breach) h.kept

pub one_breach : (p : Program) (inputs : Shapes) (r s : Refusal) → IsFirstBreach p inputs r → IsFirstBreach p inputs s → r ≡ s
one_breach p inputs r s (inl h) (inl k) = same_some (large_in p) r s h k
one_breach p inputs r s (inl h) (inr (inl k)) = absurd (some_or_none (large_in p) r h k.small)
one_breach p inputs r s (inl h) (inr (inr k)) = absurd (some_or_none (large_in p) r h k.small)
one_breach p inputs r s (inr (inl h)) (inl k) = absurd (some_or_none (large_in p) s k h.small)
one_breach p inputs r s (inr (inr h)) (inl k) = absurd (some_or_none (large_in p) s k h.small)
one_breach p inputs r s (inr (inl h)) (inr (inl k)) = ap₂ (λ rule line. record { rule = rule; line = line }) (h.rule ∙ sym k.rule) (least_line (shapes_in p inputs) (ties_in p) r.line s.line h.line k.line)
one_breach p inputs r s (inr (inl h)) (inr (inr k)) = absurd (k.even (some_ties (shapes_in p inputs) (ties_in p) r.line h.line.uneven))
one_breach p inputs r s (inr (inr h)) (inr (inl k)) = absurd (h.even (some_ties (shapes_in p inputs) (ties_in p) s.line k.line.uneven))
one_breach p inputs r s (inr (inr h)) (inr (inr k)) =
    same_some (breach_in h.extent p) r s h.breach (ap (λ (x : Extents). breach_in x p) (same_extents (shapes_in p inputs) (ties_in p) h.extent k.extent h.extents k.extents) ∙ k.breach)
