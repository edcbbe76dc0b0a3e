-- Where the looplets of the parts hold jumpers: only where the nest's do.
use Rattle.std.proofs.Common.{◌≡◌, inl, inr, List, [], ◌∷◌, true, Option, Some, None, refl, subst}
use Rattle.std.specs.Prelude.{map}
use Rattle.fin_looplet.specs.declared.looplet.Looplet.{Looplet, Row_of-Case, end_of-Case, more_of-Case, end_of-Looplet, more_of-Looplet}
use Rattle.fin_looplet.specs.declared.looplet.Looplet.TheVariants.{Run, Spike, Lookup, Sequence', Stepper', Jumper', Switch', Shift'}
use Rattle.fin_looplet.specs.Lists.{case_list}
use Rattle.fin_nest.specs.Jumping.{HoldsJumper, CaseHolds, SimplyJumps, CasesJump, NoneHolds}
use Rattle.fin_nest.proofs.Jumping.{From, itself, switch_from, moved_from, AllFrom, themselves}
use Rattle.fin_style_point.specs.Steps.{unshifted, Alternatives, switch_of, first_case, alternatives, Choice, here_or_later, first_switch, is_flat, AllFlat, held}
use Rattle.fin_style_point.proofs.Cases.{row_is}

-- ---- shifts

pub unshifted_from : (l : Looplet) → From l (unshifted l)
unshifted_from (Run leaf) = itself (Run leaf)
unshifted_from (Spike body tail) = itself (Spike body tail)
unshifted_from (Lookup coord leaf) = itself (Lookup coord leaf)
unshifted_from (Sequence' n ps) = itself (Sequence' n ps)
unshifted_from (Stepper' p w) = itself (Stepper' p w)
unshifted_from (Jumper' p w) = itself (Jumper' p w)
unshifted_from (Switch' n cs) = itself (Switch' n cs)
unshifted_from (Shift' by p (more_of-Looplet child end_of-Looplet)) = let m = moved_from by child in record { holds = λ h. m.holds h; simple = λ h. m.simple h }

-- ---- switches

rest_holds : {n : _} (cs : Row_of-Case n) → HoldsJumper (switch_of (case_list cs)) → CaseHolds cs
rest_holds end_of-Case h = absurd h
rest_holds (more_of-Case test child rest) h =
    let cs = more_of-Case test child rest in
    row_is (λ l. HoldsJumper l → CaseHolds cs) test child rest (λ e k. inl k) ((switch_from cs).0) h

rest_jumps : {n : _} (cs : Row_of-Case n) → CasesJump cs → SimplyJumps (switch_of (case_list cs))
rest_jumps end_of-Case h = tt
rest_jumps (more_of-Case test child rest) h = row_is SimplyJumps test child rest (λ e. h.0) ((switch_from (more_of-Case test child rest)).1 h)

taken_holds : {n : _} (cs : Row_of-Case n) → HoldsJumper (first_case cs).taken → CaseHolds cs
taken_holds end_of-Case h = absurd h
taken_holds (more_of-Case test child rest) h = inl h

taken_jumps : {n : _} (cs : Row_of-Case n) → CasesJump cs → SimplyJumps (first_case cs).taken
taken_jumps end_of-Case h = tt
taken_jumps (more_of-Case test child rest) h = h.0

others_holds : {n : _} (cs : Row_of-Case n) → HoldsJumper (first_case cs).others → CaseHolds cs
others_holds end_of-Case h = absurd h
others_holds (more_of-Case test child rest) h = inr (rest_holds rest h)

others_jumps : {n : _} (cs : Row_of-Case n) → CasesJump cs → SimplyJumps (first_case cs).others
others_jumps end_of-Case h = tt
others_jumps (more_of-Case test child rest) h = rest_jumps rest h.1

abbrev BothFrom : Looplet → Alternatives → Type 0
BothFrom l a = From l a.taken × From l a.others

abbrev BothListsFrom : List Looplet → Choice → Type 0
BothListsFrom rs c = AllFrom rs c.taken × AllFrom rs c.others

same_some : {A : Type 0} (a b : A) → Some a ≡ Some b → a ≡ b
same_some a b e = cc

alternatives_from : (l : Looplet) (a : Alternatives) → alternatives l ≡ Some a → BothFrom l a
alternatives_from (Run k) a e = absurd (cc)
alternatives_from (Spike b t) a e = absurd (cc)
alternatives_from (Lookup c k) a e = absurd (cc)
alternatives_from (Sequence' n ps) a e = absurd (cc)
alternatives_from (Stepper' p w) a e = absurd (cc)
alternatives_from (Jumper' p w) a e = absurd (cc)
alternatives_from (Switch' n cs) a e = subst (BothFrom (Switch' n cs)) (same_some (first_case cs) a e) (
  record { holds = λ h. taken_holds cs h; simple = λ h. taken_jumps cs h },
  record { holds = λ h. others_holds cs h; simple = λ h. others_jumps cs h },
)
alternatives_from (Shift' by p c) a e = absurd (cc)

choice_from : (o : Option Alternatives) (l : Looplet) (rest : List Looplet) (p : Option Choice) → ((a : Alternatives) → o ≡ Some a → BothFrom l a) → ((d : Choice) → p ≡ Some d → BothListsFrom rest d)
    → (c : Choice) → here_or_later o l rest p ≡ Some c → BothListsFrom (l ∷ rest) c
choice_from (Some a) l rest p h k c e =
    let b = h a refl in
    subst (BothListsFrom (l ∷ rest)) (same_some (record { test = a.test; taken = a.taken ∷ rest; others = a.others ∷ rest }) c e) ((b.0, themselves rest), (b.1, themselves rest))
choice_from None l rest None h k c e = absurd (cc)
choice_from None l rest (Some d) h k c e =
    let b = k d refl in
    subst (BothListsFrom (l ∷ rest)) (same_some (record { test = d.test; taken = l ∷ d.taken; others = l ∷ d.others }) c e) ((itself l, b.0), (itself l, b.1))

pub switch_parts_from : (rs : List Looplet) (c : Choice) → first_switch rs ≡ Some c → AllFrom rs c.taken × AllFrom rs c.others
switch_parts_from [] c e = absurd (cc)
switch_parts_from (l ∷ rest) c e = choice_from (alternatives l) l rest (first_switch rest) (λ a. alternatives_from l a) (λ d. switch_parts_from rest d) c e

-- ---- runs and lookups

held_none : (l : Looplet) → is_flat l ≡ true → HoldsJumper (held l) → ⊥
held_none (Run leaf) f h = h
held_none (Spike body tail) f h = absurd (cc)
held_none (Lookup coord leaf) f h = h
held_none (Sequence' n ps) f h = absurd (cc)
held_none (Stepper' p w) f h = absurd (cc)
held_none (Jumper' p w) f h = absurd (cc)
held_none (Switch' n cs) f h = absurd (cc)
held_none (Shift' by p c) f h = absurd (cc)

pub all_held_none : (rs : List Looplet) → AllFlat rs → NoneHolds (map held rs)
all_held_none [] f = tt
all_held_none (l ∷ rest) f = (held_none l f.0, all_held_none rest f.1)
