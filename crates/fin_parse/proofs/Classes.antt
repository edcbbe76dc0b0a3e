-- No token is the end.
use Rattle.std.proofs.Common.{◌≡◌, ℕ, zero, suc, ◌^◌, Bool, true, false, not, ◌&&◌, ◌==◌, nat_lt, cond, List, [], ◌∷◌, slice_index_or, refl, sym, ap, ◌∙◌}
use Rattle.fin_lex.specs.declared.token.Token.{Token}
use Rattle.fin_lex.specs.declared.token.TokenKind.{TokenKind}
use Rattle.fin_lex.specs.declared.token.TokenKind.TheVariants as kind
use Rattle.fin_parse.specs.declared.class.Class.{Class}
use Rattle.fin_parse.specs.declared.class.Class.TheVariants as class
use Rattle.fin_parse.specs.declared.class.TheConstants.{RESERVED_CLASSES, SYMBOL_CLASSES}
use Rattle.fin_parse.specs.Classes.{class_of}
use Rattle.fin_parse.specs.Choices.{same_class}
use Rattle.fin_parse.specs.Syntax.{signs, look}
use Rattle.fin_parse.proofs.Table.{impossible, both}

abbrev none_ends : List Class → Bool
none_ends [] = true
none_ends (c ∷ cs) = not (same_class c class.End) && none_ends cs

ends_not : (c : Class) → not (same_class c class.End) ≡ true → c ≡ class.End → ⊥
ends_not c h is = impossible (sym (ap (λ d. not (same_class d class.End)) is) ∙ h)

at : (cs : List Class) (i : ℕ) → none_ends cs ≡ true → slice_index_or cs i class.Unknown ≡ class.End → ⊥
at [] i h is = cc
at (c ∷ cs) zero h is = ends_not c (both (not (same_class c class.End)) (none_ends cs) h).0 is
at (c ∷ cs) (suc i) h is = at cs i (both (not (same_class c class.End)) (none_ends cs) h).1 is

number : (small widest : Bool) → cond small class.Number (cond widest class.Widest class.Unknown) ≡ class.End → ⊥
number true widest h = cc
number false true h = cc
number false false h = cc

no_end : (k : TokenKind) → class_of k ≡ class.End → ⊥
no_end kind.Name h = cc
no_end (kind.Number n) h = number (nat_lt n (2 ^ 63)) (n == 2 ^ 63) h
no_end (kind.Reserved k) h = at RESERVED_CLASSES k refl h
no_end (kind.Symbol k) h = at SYMBOL_CLASSES k refl h

pub ended : (left : List Token) → look (signs left) ≡ class.End → left ≡ []
ended [] h = refl
ended (t ∷ left) h = absurd (no_end t.kind h)
