-- Each list of tokens stands for a program, or breaks a rule.
use Rattle.std.proofs.Common.{◌≡◌, inl, inr, ℕ, map, List, [], ◌∷◌, refl, sym, ap}
use Rattle.std.specs.Prelude.{All}
use Rattle.std.proofs.lemmas.List.Elements.{All-head, All-tail}
use Rattle.fin_base.specs.declared.refusal.Refusal.{Refusal}
use Rattle.fin_ast.specs.declared.header.Header.{Header}
use Rattle.fin_ast.specs.declared.program.Program.{Program}
use Rattle.fin_ast.proofs.Wording.{by_word}
use Rattle.fin_lex.specs.declared.token.Token.{Token}
use Rattle.fin_parse.specs.declared.tree.Tree.{Tree}
use Rattle.fin_parse.specs.declared.trees.Text.{Text}
use Rattle.fin_parse.specs.Breaches.{limits}
use Rattle.fin_parse.specs.Elaboration.{statements_of}
use Rattle.fin_parse.specs.HeaderNames.{tensors_of}
use Rattle.fin_parse.specs.HeaderTrees.{AreHeadersOf, IsHeader, IsSound, kind_of, name_of, levels_in, wrap_of, integer_of, shape_of, line_of}
use Rattle.fin_parse.specs.Leaves.{HeadParts, header_of}
use Rattle.fin_parse.specs.Names.{first_of}
use Rattle.fin_parse.specs.Program.{IsProgram}
use Rattle.fin_parse.specs.Text.{IsWhole}
use Rattle.fin_parse.specs.TextForms.{form_breaches, given_fill}
use Rattle.fin_parse.specs.TextNames.{name_breaches}
use Rattle.fin_parse.specs.Totality.{ProgramOrBreach, StandsOrBreaks}
use Rattle.fin_parse.specs.Verdict.{IsAccepted}
use Rattle.fin_parse.proofs.HeadLinks.{few_headers, names_of_accepted_differ}
use Rattle.fin_parse.proofs.HeadSound.{sound_of_accepted}
use Rattle.fin_parse.proofs.Programs.{numbered, named, shallow, worded}
use Rattle.fin_parse.proofs.Readings.{read_or_broken}

-- ---- the program of trees that break no rule

header_made : (text : List ℕ) (parts : HeadParts) → IsSound parts → (h : Header) × IsHeader text parts h
header_made text parts sound = (
  record {
    kind = kind_of parts.kind;
    name = name_of text parts.name;
    format = record { levels = levels_in parts.format; wrap = wrap_of parts.format; fill = integer_of (given_fill parts.fill) };
    shape = shape_of parts.shape;
    line = line_of parts.kind;
    placed = sound.placed;
    shaped = sound.shaped;
    worded = by_word (integer_of (given_fill parts.fill)) sound.fill;
  },
  record { kind = refl; name = refl; levels = refl; wrap = refl; fill = refl; shape = refl; line = refl },
)

headers_made : (text : List ℕ) (us : List Tree) → All (λ u. IsSound (header_of u)) us → (hs : List Header) × AreHeadersOf text (map header_of us) hs
headers_made text [] sound = ([], tt)
headers_made text (u ∷ us) sound =
    let first = header_made text (header_of u) (All-head (λ w. IsSound (header_of w)) u us sound) in
    let others = headers_made text us (All-tail (λ w. IsSound (header_of w)) u us sound) in
    (first.0 ∷ others.0, (first.1, others.1))

pub program_made : (text : List ℕ) (tokens : List Token) (last : ℕ) (trees : Text) → IsAccepted text tokens trees → (program : Program) × IsProgram text trees last program
program_made text tokens last trees ok =
    let h = headers_made text trees.headers (sound_of_accepted text trees (tokens, ok)) in
    let body = statements_of text (tensors_of [] (map header_of trees.headers)) trees.body in (
      record {
        headers = h.0;
        body = body;
        last = last;
        few = few_headers text trees h.0 (tokens, ok) h.1;
        distinct = names_of_accepted_differ text trees h.0 (tokens, ok) h.1;
        numbered = numbered text trees tokens ok h.0 h.1 body refl;
        named = named text trees tokens ok h.0 h.1 body refl;
        shallow = shallow text trees tokens ok h.0 h.1 body refl;
        worded = worded text trees tokens ok h.0 h.1 body refl;
      },
      record { headers = h.1; body = refl; behind = refl },
    )

-- ---- rule by rule

by_forms : (text : List ℕ) (tokens : List Token) (last : ℕ) (trees : Text) → IsWhole limits tokens trees → name_breaches text trees ≡ [] → (breaches : List Refusal)
    → form_breaches text trees ≡ breaches → StandsOrBreaks text tokens last
by_forms text tokens last trees whole names [] e =
    let ok : IsAccepted text tokens trees = record { whole = whole; names = names; forms = e } in
    let made = program_made text tokens last trees ok in
    inl (made.0, (trees, ok, made.1))
by_forms text tokens last trees whole names (r ∷ rs) e = inr (r, inr (inr (trees, record { whole = whole; names = names; forms = sym (ap first_of e) })))

by_names : (text : List ℕ) (tokens : List Token) (last : ℕ) (trees : Text) → IsWhole limits tokens trees → (breaches : List Refusal)
    → name_breaches text trees ≡ breaches → StandsOrBreaks text tokens last
by_names text tokens last trees whole [] e = by_forms text tokens last trees whole e (form_breaches text trees) refl
by_names text tokens last trees whole (r ∷ rs) e = inr (r, inr (inl (trees, record { whole = whole; names = sym (ap first_of e) })))

pub program_or_breach : ProgramOrBreach
program_or_breach text tokens last = elim (read_or_broken tokens last) [
  | inl read ↦ by_names text tokens last read.0 read.1 (name_breaches text read.0) refl
  | inr broken ↦ inr (record { rule = broken.0; line = broken.1 }, inl broken.2)
]
