-- The headers of an accepted text are sound.
use Rattle.std.proofs.Common.{◌≡◌, ℕ, ◌-◌, ◌^◌, ◌<◌, ◌≤◌, Bool, true, false, cond, not, ◌==◌, nat_lt, List, [], ◌∷◌, ◌++◌, map, length, Some, pos, negsuc, refl, sym, ap, ◌∙◌, arith, eqb-true}
use Rattle.std.specs.List.{All}
use Rattle.std.proofs.lemmas.Bool.{ltb-true}
use Rattle.std.proofs.lemmas.Int.{ints}
use Rattle.std.proofs.lemmas.List.{length-map}
use Rattle.std.proofs.lemmas.List.Elements.{All-cons}
use Rattle.fin_base.specs.declared.refusal.Refusal.{Refusal}
use Rattle.fin_base.specs.declared.refusal.Rule.TheVariants.{F1, N3}
use Rattle.fin_base.specs.Words.{IsWord}
use Rattle.fin_ast.specs.Kinds.{has_length}
use Rattle.fin_lex.specs.declared.token.Token.{Token}
use Rattle.fin_lex.specs.declared.token.TokenKind.{TokenKind}
use Rattle.fin_lex.specs.declared.token.TokenKind.TheVariants as kind
use Rattle.fin_parse.specs.declared.class.Class.TheVariants as class
use Rattle.fin_parse.specs.declared.grammar.Phrase.TheVariants.{Header}
use Rattle.fin_parse.specs.declared.tree.Tree.{Tree}
use Rattle.fin_parse.specs.declared.tree.Room.{Room}
use Rattle.fin_parse.specs.declared.scope.Tensor.{Tensor}
use Rattle.fin_parse.specs.declared.trees.Text.{Text}
use Rattle.fin_parse.specs.Classes.{class_of}
use Rattle.fin_parse.specs.Syntax.{Sign, IsGroup, none, more}
use Rattle.fin_parse.specs.Names.{part_breaches, facts_of}
use Rattle.fin_parse.specs.Fills.{number_of, literal_of, head_token}
use Rattle.fin_parse.specs.FormatWords.{is_placed, begins_with}
use Rattle.fin_parse.specs.HeaderNames.{levels_of, shape_count, shape_breach, name_breach, head_breaches, header_breaches, with_tensor}
use Rattle.fin_parse.specs.TextForms.{given_fill, format_breach, head_format, format_breaches, known_fills}
use Rattle.fin_parse.specs.TextNames.{outermost}
use Rattle.fin_parse.specs.Leaves.{HeadParts, header_of, leaves_of, fills_of}
use Rattle.fin_parse.specs.HeaderTrees.{integer_of, numbers_in, shape_of, IsSound, IsAcceptedText}
use Rattle.fin_parse.proofs.HeaderRows.{IsLiteral, plus, minus, widest, IsFill, absent_fill, given, IsHead, a_header}
use Rattle.fin_parse.proofs.WordPlacement.{length-levels, placed_as}

-- ---- literals are words

small : (n : ℕ) (a b : Bool) → nat_lt n (2 ^ 63) ≡ a → cond a class.Number (cond b class.Widest class.Unknown) ≡ class.Number → n < 2 ^ 63
small n true b h is = ltb-true n (2 ^ 63) h
small n false true h is = absurd (cc)
small n false false h is = absurd (cc)

wide : (n : ℕ) (a b : Bool) → (n == 2 ^ 63) ≡ b → cond a class.Number (cond b class.Widest class.Unknown) ≡ class.Widest → n ≤ 2 ^ 63
wide n true b h is = absurd (cc)
wide n false true h is = let e : n ≡ 2 ^ 63 = eqb-true n (2 ^ 63) h in omega arith
wide n false false h is = absurd (cc)

number_small : (k : TokenKind) → class_of k ≡ class.Number → number_of k < 2 ^ 63
number_small kind.Name h = omega arith
number_small (kind.Number n) h = small n (nat_lt n (2 ^ 63)) (n == 2 ^ 63) refl h
number_small (kind.Reserved k) h = omega arith
number_small (kind.Symbol k) h = omega arith

number_wide : (k : TokenKind) → class_of k ≡ class.Widest → number_of k ≤ 2 ^ 63
number_wide kind.Name h = omega arith
number_wide (kind.Number n) h = wide n (nat_lt n (2 ^ 63)) (n == 2 ^ 63) refl h
number_wide (kind.Reserved k) h = omega arith
number_wide (kind.Symbol k) h = omega arith

word_pos : (n : ℕ) → n < 2 ^ 63 → IsWord (pos n)
word_pos n h = omega (arith, ints)

word_negsuc : (n : ℕ) → n < 2 ^ 63 → IsWord (negsuc n)
word_negsuc n h = omega (arith, ints)

negated_word : (n : ℕ) (b : Bool) → (n == 0) ≡ b → n ≤ 2 ^ 63 → IsWord (cond (not b) (negsuc (n - 1)) (pos n))
negated_word n true h most = let e : n ≡ 0 = eqb-true n 0 h in word_pos n (omega arith)
negated_word n false h most = word_negsuc (n - 1) (omega arith)

pub literal_word : (ts : List Token) → IsLiteral ts → IsWord (integer_of (literal_of ts))
literal_word ts (plus {n = n} h) = word_pos (number_of n.kind) (number_small n.kind h)
literal_word ts (minus {n = n} h) = negated_word (number_of n.kind) (number_of n.kind == 0) refl (let s : number_of n.kind < 2 ^ 63 = number_small n.kind h in omega arith)
literal_word ts (widest {n = n} h) = negated_word (number_of n.kind) (number_of n.kind == 0) refl (number_wide n.kind h)

fill_word : (ts : List Token) → IsFill ts → IsWord (integer_of (given_fill ts))
fill_word ts absent_fill = word_pos 0 (omega arith)
fill_word ts (given {ts = us} h) = literal_word us h

-- ---- no breach

pub nil_both : {A : Type 0} (x y : List A) → x ++ y ≡ [] → (x ≡ []) × (y ≡ [])
nil_both [] y h = (refl, h)
nil_both (a ∷ x) y h = absurd (cc)

kept : (b : Bool) (r : Refusal) → cond b [] (r ∷ []) ≡ [] → b ≡ true
kept true r h = refl
kept false r h = absurd (cc)

well_placed : (first format : List Token) (t : Token) → first ≡ t ∷ [] → format_breach (head_token first) (is_placed (begins_with 0 first) format) ≡ [] → is_placed (begins_with 0 first) format ≡ true
well_placed first format t is h = kept (is_placed (begins_with 0 first) format) (record { rule = F1; line = t.line }) (sym (ap (λ w. format_breach (head_token w) (is_placed (begins_with 0 first) format)) is) ∙ h)

well_shaped : (shape : List Token) (t : Token) (n : ℕ) → shape_breach (Some t) (shape_count shape) n ≡ [] → has_length n (shape_of shape) ≡ true
well_shaped [] t n h = refl
well_shaped (s ∷ ts) t n h = ap (λ m. m == n) (let e : length (numbers_in ts) ≡ length ts = simp length-map in e) ∙ kept (length ts == n) (record { rule = N3; line = t.line }) h

sound_head : (text : List ℕ) (earlier : List Tensor) (p : HeadParts) → IsHead p → head_breaches text earlier p ≡ [] → head_format p ≡ [] → IsSound p
sound_head text earlier p head names format =
    let t : Token = head.kind.0 in
    let m = placed_as p.kind p.format head.format (well_placed p.kind p.format t head.kind.1 format) in
    let shaped : shape_breach (head_token p.kind) (shape_count p.shape) (levels_of p.format) ≡ [] = (nil_both (shape_breach (head_token p.kind) (shape_count p.shape) (levels_of p.format)) (name_breach text earlier (head_token p.name)) names).0 in
    record {
      placed = m.1;
      few = m.0;
      shaped = rw (length-levels p.format) (well_shaped p.shape t (levels_of p.format) (sym (ap (λ w. shape_breach (head_token w) (shape_count p.shape) (levels_of p.format)) head.kind.1) ∙ shaped));
      fill = fill_word p.fill head.fill;
    }

pub all_heads : {k : Room} {x : List Sign} {us : List Tree} → IsGroup k Header x us → All (λ u. IsHead (header_of u)) us
all_heads none = λ i d less. absurd (omega arith)
all_heads (more {u = u} {us = us} h m) = All-cons (λ w. IsHead (header_of w)) u us (a_header h) (all_heads m)

sound_heads : (text : List ℕ) (earlier : List Tensor) {k : Room} {x : List Sign} {us : List Tree} → IsGroup k Header x us → header_breaches text earlier (map header_of us) ≡ [] → format_breaches (map header_of us) ≡ []
    → All (λ u. IsSound (header_of u)) us
sound_heads text earlier none names format = λ i d less. absurd (omega arith)
sound_heads text earlier (more {u = u} {us = us} h m) names format =
    let n = nil_both (head_breaches text earlier (header_of u)) (header_breaches text (with_tensor earlier (header_of u)) (map header_of us)) names in
    let f = nil_both (head_format (header_of u)) (format_breaches (map header_of us)) format in
    All-cons (λ w. IsSound (header_of w)) u us (sound_head text earlier (header_of u) (a_header h) n.0 f.0) (sound_heads text (with_tensor earlier (header_of u)) m n.1 f.1)

-- ---- an accepted text

module _ (text : List ℕ) (trees : Text) (accepted : IsAcceptedText text trees) where
  pub heads_of_accepted : All (λ u. IsHead (header_of u)) trees.headers
  heads_of_accepted = all_heads accepted.1.whole.stands.3.group

  pub names_of_accepted : header_breaches text [] (map header_of trees.headers) ≡ []
  names_of_accepted = (nil_both (header_breaches text [] (map header_of trees.headers)) (part_breaches 0 (map (facts_of text) trees.body) (outermost trees) (outermost trees)) accepted.1.names).0

  pub sound_of_accepted : All (λ u. IsSound (header_of u)) trees.headers
  sound_of_accepted =
      let forms = nil_both (format_breaches (map header_of trees.headers)) (fills_of (map leaves_of trees.body) text (known_fills [] (map header_of trees.headers))) accepted.1.forms in
      sound_heads text [] accepted.1.whole.stands.3.group names_of_accepted forms.0

  pub few_of_accepted : length trees.headers ≤ 64
  few_of_accepted = accepted.1.whole.stands.3.few
