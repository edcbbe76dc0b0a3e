-- A program's text has one verdict.
use Rattle.std.proofs.Common.{◌≡◌, ◌∙◌, ℕ, List, [], Some, None, sym, ap, ap₂, inl, inr}
use Rattle.std.specs.Prelude.{Err}
use Rattle.fin_base.specs.declared.refusal.Refusal.{Refusal}
use Rattle.fin_base.specs.declared.refusal.Fail.TheVariants.{Refused}
use Rattle.fin_lex.specs.declared.token.Token.{Token}
use Rattle.fin_parse.specs.declared.trees.Text.{Text}
use Rattle.fin_parse.specs.Breaches.{limits}
use Rattle.fin_parse.specs.Names.{first_of}
use Rattle.fin_parse.specs.Text.{IsWhole}
use Rattle.fin_parse.specs.TextForms.{form_breaches}
use Rattle.fin_parse.specs.TextNames.{name_breaches}
use Rattle.fin_parse.specs.Verdict.{BreaksForms, BreaksNames, IsAccepted, Verdict}
use Rattle.fin_parse.proofs.OneBreach.{one_breach, whole_is_unbroken}
use Rattle.fin_parse.proofs.Steps.{same_room}

-- tokens stand for one text
pub one_text : (tokens : List Token) (a b : Text) → IsWhole limits tokens a → IsWhole limits tokens b → a ≡ b
one_text tokens a b h k = k.one limits a (same_room limits) h.stands

first_is_one : (breaches others : List Refusal) (r s : Refusal) → breaches ≡ others → Some r ≡ first_of breaches → Some s ≡ first_of others → r ≡ s
first_is_one breaches others r s e h k = let both : Some r ≡ Some s = h ∙ ap first_of e ∙ sym k in cc

none_is_first : (breaches others : List Refusal) (r : Refusal) → breaches ≡ others → Some r ≡ first_of breaches → others ≡ [] → ⊥
none_is_first breaches others r e h k = let both : Some r ≡ None = h ∙ ap first_of (e ∙ k) in absurd (cc)

names_or_forms : (text : List ℕ) (tokens : List Token) (r s : Refusal) (a b : Text) → BreaksNames text tokens r a → BreaksForms text tokens s b → ⊥
names_or_forms text tokens r s a b h k = none_is_first (name_breaches text a) (name_breaches text b) r (ap (name_breaches text) (one_text tokens a b h.whole k.whole)) h.names k.names

-- a text is refused in one way
pub one_refusal : (text : List ℕ) (tokens : List Token) (last : ℕ) (r s : Refusal) → Verdict text tokens last (Err (Refused r)) → Verdict text tokens last (Err (Refused s)) → r ≡ s
one_refusal text tokens last r s (inl h) (inl k) =
    let same = one_breach tokens last r.rule s.rule r.line s.line h k in
    ap₂ (λ rule line. record { rule = rule; line = line }) same.0 same.1
one_refusal text tokens last r s (inl h) (inr (inl (t, k))) = elim (whole_is_unbroken tokens last t r.rule r.line k.whole h) [ ]
one_refusal text tokens last r s (inl h) (inr (inr (t, k))) = elim (whole_is_unbroken tokens last t r.rule r.line k.whole h) [ ]
one_refusal text tokens last r s (inr (inl (t, h))) (inl k) = elim (whole_is_unbroken tokens last t s.rule s.line h.whole k) [ ]
one_refusal text tokens last r s (inr (inr (t, h))) (inl k) = elim (whole_is_unbroken tokens last t s.rule s.line h.whole k) [ ]
one_refusal text tokens last r s (inr (inl (t, h))) (inr (inl (u, k))) =
    first_is_one (name_breaches text t) (name_breaches text u) r s (ap (name_breaches text) (one_text tokens t u h.whole k.whole)) h.names k.names
one_refusal text tokens last r s (inr (inl (t, h))) (inr (inr (u, k))) = elim (names_or_forms text tokens r s t u h k) [ ]
one_refusal text tokens last r s (inr (inr (t, h))) (inr (inl (u, k))) = elim (names_or_forms text tokens s r u t k h) [ ]
one_refusal text tokens last r s (inr (inr (t, h))) (inr (inr (u, k))) =
    first_is_one (form_breaches text t) (form_breaches text u) r s (ap (form_breaches text) (one_text tokens t u h.whole k.whole)) h.forms k.forms

-- what is accepted isn't refused
pub accepted_or_refused : (text : List ℕ) (tokens : List Token) (last : ℕ) (trees : Text) (r : Refusal) → IsAccepted text tokens trees → Verdict text tokens last (Err (Refused r)) → ⊥
accepted_or_refused text tokens last trees r a (inl h) = whole_is_unbroken tokens last trees r.rule r.line a.whole h
accepted_or_refused text tokens last trees r a (inr (inl (t, h))) =
    none_is_first (name_breaches text t) (name_breaches text trees) r (ap (name_breaches text) (one_text tokens t trees h.whole a.whole)) h.names a.names
accepted_or_refused text tokens last trees r a (inr (inr (t, h))) =
    none_is_first (form_breaches text t) (form_breaches text trees) r (ap (form_breaches text) (one_text tokens t trees h.whole a.whole)) h.forms a.forms
