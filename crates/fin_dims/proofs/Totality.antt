-- Each program has extents or a first breach.
use Rattle.std.proofs.Common.{◌≡◌, ◌⊎◌, inl, inr, ℕ, zero, suc, ◌+◌, ◌<◌, ◌≤◌, List, [], ◌∷◌, Option, Some, None, refl, ap, subst, arith, nat_le}
use Rattle.std.specs.Prelude.{Contains}
use Rattle.fin_base.specs.declared.refusal.Refusal.{Refusal}
use Rattle.fin_base.specs.declared.refusal.Rule.TheVariants.{M1}
use Rattle.fin_ast.specs.declared.place.Tie.{Tie}
use Rattle.fin_ast.specs.declared.program.Program.{Program}
use Rattle.fin_ast.specs.Infer.{breach_in, dims_in, large_in, shapes_in, ties_in}
use Rattle.fin_ast.specs.Ties.{Shapes, IsUneven, IsFirstUneven, ties_up_to}
use Rattle.fin_dims.specs.Totality.{InferredOrBreach, IsInferredOrBroken}
use Rattle.fin_dims.proofs.Joined.{uneven_stays}
use Rattle.fin_dims.proofs.Order.{cons_cases, later, in_filter, at_most, before_or_not}
use Rattle.fin_dims.proofs.Representatives.{Represented, represented_even, represented_none, represented_next}

abbrev Decided : Shapes → List Tie → Type 0
Decided shapes ties = Represented shapes ties ⊎ IsUneven shapes ties

decided : (shapes : Shapes) (ties : List Tie) → Decided shapes ties
decided shapes [] = inl (represented_none shapes)
decided shapes (t ∷ ties) = elim (decided shapes ties) [
  | inl s ↦ represented_next shapes ties s t
  | inr u ↦ inr (uneven_stays shapes ties (t ∷ ties) (λ x h. later t ties x h) u)
]

-- ---- the first line

-- a line behind that of each tie
abbrev lines_of : List Tie → ℕ
lines_of [] = 0
lines_of (t ∷ ties) = t.line + lines_of ties

on_lines : (ties : List Tie) (x : Tie) → Contains ties x → x.line ≤ lines_of ties
on_lines [] x h = absurd (omega (arith, h.1))
on_lines (t ∷ ties) x h = elim (cons_cases t ties x h.0 h.1 h.2) [
  | inl e ↦ let same : t.line ≡ x.line = ap (λ (y : Tie). y.line) e in omega (arith, same)
  | inr m ↦ omega (arith, on_lines ties x m)
]

all_lines : (shapes : Shapes) (ties : List Tie) → IsUneven shapes ties → IsUneven shapes (ties_up_to (lines_of ties) ties)
all_lines shapes ties u =
    uneven_stays shapes ties (ties_up_to (lines_of ties) ties) (λ t h. in_filter (λ x. nat_le x.line (lines_of ties)) ties t (at_most t.line (lines_of ties) (on_lines ties t h)) h) u

first_line : (shapes : Shapes) (ties : List Tie) (more line : ℕ) → ((before : ℕ) → before < line → ¬ IsUneven shapes (ties_up_to before ties)) → IsUneven shapes (ties_up_to (line + more) ties)
    → (first : ℕ) × IsFirstUneven shapes ties first
first_line shapes ties zero line none h = (line, record { uneven = subst (λ (l : ℕ). IsUneven shapes (ties_up_to l ties)) (let e : line + 0 ≡ line = omega arith in e) h; least = none })
first_line shapes ties (suc more) line none h = elim (decided shapes (ties_up_to line ties)) [
  | inr u ↦ (line, record { uneven = u; least = none })
  | inl s ↦ first_line shapes ties more (line + 1)
      (λ before less u. elim (before_line before line less) [
        | inl below ↦ none before below u
        | inr same ↦ represented_even shapes (ties_up_to line ties) s (subst (λ (l : ℕ). IsUneven shapes (ties_up_to l ties)) same u)
      ])
      (subst (λ (l : ℕ). IsUneven shapes (ties_up_to l ties)) (let e : line + suc more ≡ line + 1 + more = omega arith in e) h)
] where
  before_line : (a b : ℕ) → a < b + 1 → (a < b) ⊎ (a ≡ b)
  before_line a b h = elim (before_or_not a b) [ inl less ↦ inl less | inr past ↦ inr (omega (arith, h, past)) ]

some_line : (shapes : Shapes) (ties : List Tie) → IsUneven shapes ties → (first : ℕ) × IsFirstUneven shapes ties first
some_line shapes ties u =
    first_line shapes ties (lines_of ties) 0 (λ before less. absurd (omega (arith, less)))
    (subst (λ (l : ℕ). IsUneven shapes (ties_up_to l ties)) (let e : lines_of ties ≡ 0 + lines_of ties = omega arith in e) (all_lines shapes ties u))

-- ---- rule by rule

by_breach : (program : Program) (inputs : Shapes) → large_in program ≡ None → (s : Represented (shapes_in program inputs) (ties_in program)) → (o : Option Refusal)
    → breach_in s.extent program ≡ o → IsInferredOrBroken program inputs
by_breach program inputs small s None e = inl (
  dims_in s.extent program,
  record { extent = s.extent; small = small; even = represented_even (shapes_in program inputs) (ties_in program) s; extents = s.extents; kept = e; numbers = refl },
)
by_breach program inputs small s (Some r) e = inr (
  r,
  inr (inr (record { extent = s.extent; small = small; even = represented_even (shapes_in program inputs) (ties_in program) s; extents = s.extents; breach = e })),
)

by_size : (program : Program) (inputs : Shapes) (o : Option Refusal) → large_in program ≡ o → IsInferredOrBroken program inputs
by_size program inputs (Some r) e = inr (r, inl e)
by_size program inputs None e = elim (decided (shapes_in program inputs) (ties_in program)) [
  | inl s ↦ by_breach program inputs e s (breach_in s.extent program) refl
  | inr u ↦
      let first = some_line (shapes_in program inputs) (ties_in program) u in
      inr (record { rule = M1; line = first.0 }, inr (inl (record { small = e; rule = refl; line = first.1 })))
]

pub inferred_or_breach : InferredOrBreach
inferred_or_breach program inputs = by_size program inputs (large_in program) refl
