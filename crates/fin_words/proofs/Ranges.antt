-- What `clap`'s matches of the command say of its numbers.
use Rattle.std.proofs.Common.{◌≡◌, ◌∙◌, ◌<◌, ◌||◌, ◌&&◌, ◌==◌, ℕ, Bool, true, false, zero, suc, List, [], ◌∷◌, length, map, Option, Some, None, refl, sym, ap, subst, inl, inr, arith, codes, ◌^◌, ◌-◌}
use Rattle.std.specs.Prelude.{not, option_map, slice_get}
use Rattle.std.specs.List.{All, list_all, slice_index_or}
use Rattle.std.specs.Str.{bytes_eq}
use Rattle.std.specs.Borrow.{Bor}
use Rattle.std.proofs.lemmas.Bool.{cases_lt, false≢true, eqb-true}
use Rattle.std.proofs.lemmas.Slice.Eq.{bytes_eq-Decides}
use Rattle.clap.specs.Words.{IsParsedFrom, BuildsTo, IsUnsignedIn, app_of, args_of, found_of, groups_of, matched_of, one_text, parser_of, read_as, reading_of, rule_of}
use Rattle.clap.specs.Built.{IsAuto, SameRules}
use Rattle.clap.specs.Facts.{Entry, EntryPasses, HasReading, PassesArg, ValuesPass, parser_of_value}
use Rattle.clap.specs.Walk.{Rule}
use Rattle.clap.specs.Values.{Accepts}
use Rattle.clap.proofs.CallerLemmas.{entry_by_id}
use Rattle.clap.proofs.SimpleLemmas.{plain_fields, simple_groups}
use Rattle.clap.proofs.WalkLemmas.{both}
use Rattle.clap.specs.declared.builder.arg.Arg.{Arg}
use Rattle.clap.specs.declared.builder.command.Command.{Command}
use Rattle.clap.specs.declared.builder.value_parser.ValueParser.{ValueParser}
use Rattle.clap.specs.declared.builder.value_parser.ValueParser.TheVariants as vp
use Rattle.clap.specs.declared.builder.value_parser.Reading.{Reading}
use Rattle.clap.specs.declared.parser.matches.ArgMatches.{ArgMatches}
use Rattle.clap.specs.declared.parser.matches.Found.{Found}
use Rattle.clap.specs.declared.parser.matches.MatchedArg.{MatchedArg}
use Rattle.fin_words.specs.Command.{finch}
use Rattle.fin_words.specs.Reading.{HasRanges, Passes}

-- the parser of numbers from low to high
abbrev parses_in : ℕ → ℕ → Option ValueParser → Bool
parses_in low high (Some (vp.Unsigned a b)) = a == low && b == high
parses_in low high _ = false

-- a rule of this name has that parser
abbrev only : List ℕ → ℕ → ℕ → Rule → Bool
only name low high r = not (bytes_eq r.id name) || parses_in low high r.parser

parser_is : (low high : ℕ) (p : Option ValueParser) → parses_in low high p ≡ true → p ≡ Some (vp.Unsigned low high)
parser_is low high None e = absurd (false≢true e)
parser_is low high (Some (vp.Unsigned a b)) e =
    let parts = both (a == low) (b == high) e in
    let first : a ≡ low = eqb-true a low parts.0 in
    let second : b ≡ high = eqb-true b high parts.1 in
    rw (first, second) refl
parser_is low high (Some vp.String) e = absurd (false≢true e)
parser_is low high (Some vp.NonEmptyString) e = absurd (false≢true e)
parser_is low high (Some vp.Bool) e = absurd (false≢true e)
parser_is low high (Some vp.Boolish) e = absurd (false≢true e)
parser_is low high (Some vp.Falsey) e = absurd (false≢true e)
parser_is low high (Some (vp.Signed a b)) e = absurd (false≢true e)
parser_is low high (Some vp.Float) e = absurd (false≢true e)
parser_is low high (Some vp.Char) e = absurd (false≢true e)
parser_is low high (Some (vp.Names names)) e = absurd (false≢true e)
parser_is low high (Some (vp.Values values)) e = absurd (false≢true e)

at_rule : (q : Rule → Bool) (xs : List Arg) (k : ℕ) (d : Arg) → k < length xs → list_all q (map rule_of xs) ≡ true → q (rule_of (slice_index_or xs k d)) ≡ true
at_rule q [] k d lt e = absurd (omega arith)
at_rule q (x ∷ xs) zero d lt e = (both _ _ e).0
at_rule q (x ∷ xs) (suc k) d lt e = at_rule q xs k d (omega arith) (both _ _ e).1

or_first : (a b : Bool) → a ≡ true → (not a || b) ≡ true → b ≡ true
or_first true b e h = h
or_first false b e h = absurd (false≢true e)

module _ (old built : Command) (from : BuildsTo old built) (name : List ℕ) (low high : ℕ)
    (own : (x : Arg) → IsAuto x → bytes_eq x.id.now name ≡ true → ⊥)
    (given : list_all (only name low high) (map rule_of (args_of old)) ≡ true) where
  -- an argument of the built command with this name has the caller's parser
  built_parser : (k : ℕ) (x : Arg) → k < length (args_of built) → slice_index_or (args_of built) k x ≡ x
      → bytes_eq x.id.now name ≡ true → parser_of x ≡ vp.Unsigned low high
  built_parser k x lt is same = elim (cases_lt k (length (args_of old))) [
    | inl mine ↦
        let y = slice_index_or (args_of old) k x in
        let rules : SameRules y x = subst (SameRules y) is (from.kept k x mine).1 in
        let name_is : bytes_eq y.id.now name ≡ true = subst (λ (i : Bor (List ℕ)). bytes_eq i.now name ≡ true) rules.id same in
        let parser : y.value_parser ≡ Some (vp.Unsigned low high) =
        parser_is low high _ (or_first _ _ name_is (at_rule (only name low high) (args_of old) k x mine given)) in
        ap parser_of_value (rules.parser _ parser)
    | inr added ↦ absurd (own x (subst IsAuto is (from.extra k x added lt)) same)
  ]

  passes_value : (v : List ℕ) → PassesArg built name v → IsUnsignedIn low high v
  passes_value v (k, x, lt, is, p) =
      subst (λ (q : ValueParser). Accepts x.ignore_case q v) (built_parser k x lt is p.0) p.1

  reads_as : (r : Reading) → HasReading built name r → r ≡ reading_of (vp.Unsigned low high)
  reads_as r (k, x, lt, is, p) = sym p.1 ∙ ap reading_of (built_parser k x lt is p.0)

  -- the first of values that pass, read as they are
  first_passes : (how : Reading) (vs : List (Bor (List ℕ))) (t : List ℕ) → how ≡ reading_of (vp.Unsigned low high)
      → All (λ v. PassesArg built name v.now) vs → option_map (λ s. read_as how s.now) (slice_get vs 0) ≡ Some t → IsUnsignedIn low high t
  first_passes how [] t plain all e = cc
  first_passes how (v ∷ vs) t plain all e =
      let text : Some v.now ≡ Some t = ap (λ (h : Reading). Some (read_as h v.now)) (sym plain) ∙ e in
      let same : v.now ≡ t = cc in
      subst (IsUnsignedIn low high) same (passes_value v.now (all 0 v (omega arith)))

  module _ (named : name ≡ [] → ⊥) (no_groups : groups_of built ≡ []) where
    entry_passes : (a : MatchedArg) (t : List ℕ) (e : Entry) → e.1 ≡ a → e.0.now ≡ name → EntryPasses built e
        → option_map (λ s. read_as a.reading s.now) (slice_get a.vals.items 0) ≡ Some t → IsUnsignedIn low high t
    entry_passes a t e same key pass text =
        let no_group : e.1.is_group ≡ true → ⊥ = λ g. elim (pass.3 g) [
          | inl empty ↦ named (sym key ∙ empty)
          | inr lots ↦ let bad : 0 < 0 = rw no_groups at lots in absurd (omega arith)
        ] in
        let all : All (λ v. PassesArg built name v.now) a.vals.items = elim pass.0 [
          | inl g ↦ absurd (no_group g)
          | inr vals ↦ subst (λ (w : List ℕ). All (λ v. PassesArg built w v.now) a.vals.items) key (rw same at vals)
        ] in
        let plain : e.1.reading ≡ reading_of (vp.Unsigned low high) = elim pass.4 [
          | inl g ↦ absurd (no_group g)
          | inr h ↦ reads_as e.1.reading (subst (λ (w : List ℕ). HasReading built w e.1.reading) key h)
        ] in
        first_passes a.reading a.vals.items t (ap (λ (y : MatchedArg). y.reading) (sym same) ∙ plain) all text

    text_passes : (f : Found) (t : List ℕ) → ValuesPass built f → one_text f name ≡ Some t → IsUnsignedIn low high t
    text_passes f t values e = go (matched_of f name) refl e
      where
        go : (o : Option MatchedArg) → matched_of f name ≡ o → one_text f name ≡ Some t → IsUnsignedIn low high t
        go None none h =
            let bad : None ≡ Some t = rw none at h in
            cc
        go (Some a) found h =
            let got = entry_by_id (EntryPasses built) f.entries.items name a values found in
            entry_passes a t got.0 got.1 ((bytes_eq-Decides got.0.0.now name).0 got.2) got.3 (rw found at h)

own_name : (name : List ℕ) → bytes_eq (codes "help") name ≡ false → bytes_eq (codes "version") name ≡ false
    → (x : Arg) → IsAuto x → bytes_eq x.id.now name ≡ true → ⊥
own_name name help version x auto same = elim auto [
  | inl is ↦ false≢true (sym help ∙ ap (λ i. bytes_eq i name) (sym is) ∙ same)
  | inr is ↦ false≢true (sym version ∙ ap (λ i. bytes_eq i name) (sym is) ∙ same)
]

-- the matches of the command have numbers in the ranges of its options
pub has_ranges : (old : Command) (m : ArgMatches) → app_of old ≡ finch → IsParsedFrom old m → HasRanges (found_of m)
has_ranges old m is p =
    let plain = plain_fields old (ap (λ a. a.top.is_plain) is) in
    let rules = ap (λ a. a.top.rules) is in
    let values : ValuesPass p.built (found_of m) = (p.parsed (p.from.globals ∙ plain.globals)).values in
    let no_groups : groups_of p.built ≡ [] = (p.from.same_groups (simple_groups old (ap (list_all (λ r. r.is_simple)) rules))).1 ∙ plain.groups in
    let number : (name : List ℕ) (low high : ℕ) → bytes_eq (codes "help") name ≡ false → bytes_eq (codes "version") name ≡ false → (name ≡ [] → ⊥)
    → list_all (only name low high) finch.top.rules ≡ true → Passes (found_of m) name low high =
    λ name low high help version named given. λ t e.
    text_passes old p.built p.from name low high (own_name name help version) (ap (list_all (only name low high)) rules ∙ given) named no_groups (found_of m) t values e in
    record {
      workers = number (codes "workers") 1 64 refl refl (λ e. cc) refl;
      budget = number (codes "budget") 1 (2 ^ 40) refl refl (λ e. cc) refl;
      seed = number (codes "seed") 0 (2 ^ 63 - 1) refl refl (λ e. cc) refl;
      size = number (codes "size") 3 16 refl refl (λ e. cc) refl;
    }
