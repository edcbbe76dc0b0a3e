-- The style of a nest by the heads of its looplets, and what weighs nothing.
use Rattle.std.proofs.Common.{◌≡◌, List, [], ◌∷◌, Bool, true, false, refl, sym, ap, ◌∙◌}
use Rattle.std.specs.Prelude.{not, ◌||◌, if◌then◌else◌}
use Rattle.std.specs.List.{list_any}
use Rattle.fin_looplet.specs.declared.looplet.Looplet.{Looplet}
use Rattle.fin_nest.specs.Styles as style
use Rattle.fin_descend.specs.Heads.{is_early, is_walked}

or_apart : (a b c d e : Bool) → e ≡ (c || d) → ((a || b) || e) ≡ ((a || c) || (b || d))
or_apart true b c d e h = refl
or_apart false true true d e h = refl
or_apart false true false d e h = refl
or_apart false false true d e h = h
or_apart false false false d e h = h

any_or : (p q : Looplet → Bool) (ls : List Looplet) → list_any (λ l. p l || q l) ls ≡ (list_any p ls || list_any q ls)
any_or p q [] = refl
any_or p q (l ∷ ls) = or_apart (p l) (q l) (list_any p ls) (list_any q ls) (list_any (λ x. p x || q x) ls) (any_or p q ls)

abbrev of : style.Style → Looplet → Bool
of s l = style.same_style s (style.head l)

early_is : (ls : List Looplet) → list_any is_early ls ≡ (style.has style.shift ls || style.has style.switch ls)
early_is ls = any_or (of style.shift) (of style.switch) ls

walked_is : (ls : List Looplet) → list_any is_walked ls ≡ (style.has style.sequence ls || (style.has style.jumper ls || style.has style.stepper ls))
walked_is ls =
    any_or (of style.sequence) (λ l. of style.jumper l || of style.stepper l) ls
    ∙ ap (λ b. style.has style.sequence ls || b) (any_or (of style.jumper) (of style.stepper) ls)

abbrev choose : Bool → Bool → Bool → Bool → Bool → Bool → Bool → Bool → style.Style
choose a b c d e f g h =
    if a then style.shift else if b then style.switch else if c then style.sequence else if d then style.jumper
    else if e then style.stepper else if f then style.spike else if g then style.run else if h then style.lookup else style.run

by_choice : (a b c d e f g h : Bool) → ((a || b) || not (c || (d || e))) ≡ style.is_point_style (choose a b c d e f g h)
by_choice true b c d e f g h = refl
by_choice false true c d e f g h = refl
by_choice false false true d e f g h = refl
by_choice false false false true e f g h = refl
by_choice false false false false true f g h = refl
by_choice false false false false false true g h = refl
by_choice false false false false false false true h = refl
by_choice false false false false false false false true = refl
by_choice false false false false false false false false = refl

pub style_by_heads : (ls : List Looplet) → (list_any is_early ls || not (list_any is_walked ls)) ≡ style.is_point_style (style.style_of ls)
style_by_heads ls =
    ap (λ b. b || not (list_any is_walked ls)) (early_is ls)
    ∙ ap (λ b. (style.has style.shift ls || style.has style.switch ls) || not b) (walked_is ls)
    ∙ by_choice (style.has style.shift ls) (style.has style.switch ls) (style.has style.sequence ls) (style.has style.jumper ls)
    (style.has style.stepper ls) (style.has style.spike ls) (style.has style.run ls) (style.has style.lookup ls)

pub early_style : (ls : List Looplet) (a : Bool) → a ≡ list_any is_early ls → a ≡ true → a ≡ style.is_point_style (style.style_of ls)
early_style ls a e t = t ∙ ap (λ b. b || not (list_any is_walked ls)) (sym (sym e ∙ t)) ∙ style_by_heads ls

pub walked_style : (ls : List Looplet) (a b : Bool) → a ≡ list_any is_early ls → a ≡ false → b ≡ list_any is_walked ls → not b ≡ style.is_point_style (style.style_of ls)
walked_style ls a b e f w = ap not w ∙ ap (λ x. x || not (list_any is_walked ls)) (sym (sym e ∙ f)) ∙ style_by_heads ls
