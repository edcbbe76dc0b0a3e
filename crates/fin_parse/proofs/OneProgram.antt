-- Tokens stand for one program.
use Rattle.std.proofs.Common.{◌≡◌, ◌≤◌, ℕ, List, [], ◌∷◌, map, length, Option, refl, sym, ap, ap₂, ◌∙◌, subst, nat_eq}
use Rattle.std.proofs.Props.{props}
use Rattle.std.specs.Prelude.{IsTrue}
use Rattle.std.specs.List.{IsDistinct}
use Rattle.std.specs.Cmp.Lexicographic.{pointwise}
use Rattle.std.proofs.lemmas.Map.Keys.{IsDistinct-prop}
use Rattle.fin_tensor.specs.Placement.{IsPlacedAs}
use Rattle.fin_ast.specs.declared.header.Kind.{Kind}
use Rattle.fin_ast.specs.Kinds.{is_input, has_length}
use Rattle.fin_ast.specs.Placements.{IsPlacedAs-prop}
use Rattle.fin_ast.specs.Headers.{names_of}
use Rattle.fin_ast.specs.Bindings.{counts_from, bindings_of_all}
use Rattle.fin_ast.specs.Scope.{are_named, outermost}
use Rattle.fin_ast.specs.Depth.{IsShallow}
use Rattle.fin_ast.specs.Literals.{is_word, are_worded}
use Rattle.fin_tensor.specs.declared.format.Format.{Format}
use Rattle.fin_ast.specs.declared.header.Header.{Header}
use Rattle.fin_ast.specs.declared.program.Program.{Program}
use Rattle.fin_ast.specs.declared.tree.Stmt.{Stmt}
use Rattle.fin_lex.specs.declared.token.Token.{Token}
use Rattle.fin_parse.specs.declared.trees.Text.{Text}
use Rattle.fin_parse.specs.Elaboration.{statements_of}
use Rattle.fin_parse.specs.HeaderNames.{tensors_of}
use Rattle.fin_parse.specs.HeaderTrees.{AreHeadersOf, IsHeader}
use Rattle.fin_parse.specs.Leaves.{HeadParts, header_of}
use Rattle.fin_parse.specs.Program.{IsProgram, StandsFor}
use Rattle.fin_parse.specs.Verdict.{IsAccepted}
use Rattle.fin_parse.proofs.OneVerdict.{one_text}

same_format : (a b : Format) → a.levels ≡ b.levels → a.wrap ≡ b.wrap → a.fill ≡ b.fill → a ≡ b
same_format a b h k l = ap (λ levels. record { levels = levels; wrap = a.wrap; fill = a.fill }) h ∙ ap (λ wrap. record { levels = b.levels; wrap = wrap; fill = a.fill }) k ∙ ap (λ fill. record { levels = b.levels; wrap = b.wrap; fill = fill }) l

-- ---- headers

abbrev Placed : Kind → Format → Type 0
Placed kind format = IsPlacedAs (is_input kind) format.levels format.wrap

abbrev Shaped : Format → Option (List ℕ) → Type 0
Shaped format shape = IsTrue (has_length (length format.levels) shape)

-- what a header says of its format and shape
record Fitting (kind : Kind) (format : Format) (shape : Option (List ℕ)) : Type 0 where
  placed : Placed kind format
  shaped : Shaped format shape
  worded : IsTrue (is_word format.fill)

abbrev made_header : (kind : Kind) (name : List ℕ) (format : Format) (shape : Option (List ℕ)) (line : ℕ) → Fitting kind format shape → Header
made_header kind name format shape line p = record { kind = kind; name = name; format = format; shape = shape; line = line; placed = p.placed; shaped = p.shaped; worded = p.worded }

abbrev fitting_of : (a : Header) → Fitting a.kind a.format a.shape
fitting_of a = record { placed = a.placed; shaped = a.shaped; worded = a.worded }

fitting_prop : (kind : Kind) (format : Format) (shape : Option (List ℕ)) → IsProp (Fitting kind format shape)
fitting_prop kind format shape = hlevel (props, IsPlacedAs-prop (is_input kind) format.levels format.wrap)

same_header : (a b : Header) → a.kind ≡ b.kind → a.name ≡ b.name → a.format ≡ b.format → a.shape ≡ b.shape → a.line ≡ b.line → a ≡ b
same_header a b h k l m n =
    let base : (p : Fitting a.kind a.format a.shape) → a ≡ made_header a.kind a.name a.format a.shape a.line p =
    λ p. ap (made_header a.kind a.name a.format a.shape a.line) (fitting_prop a.kind a.format a.shape (fitting_of a) p) in
    let kinds = subst (λ kind. (p : Fitting kind a.format a.shape) → a ≡ made_header kind a.name a.format a.shape a.line p) h base in
    let names = subst (λ name. (p : Fitting b.kind a.format a.shape) → a ≡ made_header b.kind name a.format a.shape a.line p) k kinds in
    let formats = subst (λ format. (p : Fitting b.kind format a.shape) → a ≡ made_header b.kind b.name format a.shape a.line p) l names in
    let shapes = subst (λ shape. (p : Fitting b.kind b.format shape) → a ≡ made_header b.kind b.name b.format shape a.line p) m formats in
    let lines = subst (λ line. (p : Fitting b.kind b.format b.shape) → a ≡ made_header b.kind b.name b.format b.shape line p) n shapes in
    lines (fitting_of b)

header_is : (text : List ℕ) (p : HeadParts) (a b : Header) → IsHeader text p a → IsHeader text p b → a ≡ b
header_is text p a b h k = same_header a b (h.kind ∙ sym k.kind) (h.name ∙ sym k.name) (same_format a.format b.format (h.levels ∙ sym k.levels) (h.wrap ∙ sym k.wrap) (h.fill ∙ sym k.fill)) (h.shape ∙ sym k.shape) (h.line ∙ sym k.line)

headers_are : (text : List ℕ) (ps : List HeadParts) (hs ks : List Header) → AreHeadersOf text ps hs → AreHeadersOf text ps ks → hs ≡ ks
headers_are text [] [] [] h k = refl
headers_are text [] [] (d ∷ ks) h k = absurd k
headers_are text [] (c ∷ hs) ks h k = absurd h
headers_are text (p ∷ ps) [] ks h k = absurd h
headers_are text (p ∷ ps) (c ∷ hs) [] h k = absurd k
headers_are text (p ∷ ps) (c ∷ hs) (d ∷ ks) h k = ap₂ (λ x xs. x ∷ xs) (header_is text p c d h.0 k.0) (headers_are text ps hs ks h.1 k.1)

-- ---- programs

record Kept (headers : List Header) (body : List Stmt) : Type 0 where
  few : length headers ≤ 64
  distinct : IsDistinct (pointwise nat_eq) (names_of headers)
  numbered : IsTrue (counts_from 0 (bindings_of_all body))
  named : IsTrue (are_named body (outermost headers))
  shallow : IsShallow body
  worded : IsTrue (are_worded body)

kept_prop : (headers : List Header) (body : List Stmt) → IsProp (Kept headers body)
kept_prop headers body = hlevel (props, IsDistinct-prop (pointwise nat_eq) (names_of headers))

abbrev made_program : (headers : List Header) (body : List Stmt) (last : ℕ) → Kept headers body → Program
made_program headers body last k = record { headers = headers; body = body; last = last; few = k.few; distinct = k.distinct; numbered = k.numbered; named = k.named; shallow = k.shallow; worded = k.worded }

abbrev kept_of : (a : Program) → Kept a.headers a.body
kept_of a = record { few = a.few; distinct = a.distinct; numbered = a.numbered; named = a.named; shallow = a.shallow; worded = a.worded }

pub same_program : (a b : Program) → a.headers ≡ b.headers → a.body ≡ b.body → a.last ≡ b.last → a ≡ b
same_program a b h k l =
    let base : (q : Kept a.headers a.body) → a ≡ made_program a.headers a.body a.last q = λ q. ap (made_program a.headers a.body a.last) (kept_prop a.headers a.body (kept_of a) q) in
    let headers = subst (λ headers. (q : Kept headers a.body) → a ≡ made_program headers a.body a.last q) h base in
    let body = subst (λ body. (q : Kept b.headers body) → a ≡ made_program b.headers body a.last q) k headers in
    let last = subst (λ last. (q : Kept b.headers b.body) → a ≡ made_program b.headers b.body last q) l body in
    last (kept_of b)

one_of_trees : (text : List ℕ) (last : ℕ) (s t : Text) (p q : Program) → s ≡ t → IsProgram text s last p → IsProgram text t last q → q ≡ p
one_of_trees text last s t p q e h k =
    let k' : IsProgram text s last q = subst (λ u. IsProgram text u last q) (sym e) k in
    same_program q p (headers_are text (map header_of s.headers) q.headers p.headers k'.headers h.headers) (k'.body ∙ sym h.body) (k'.behind ∙ sym h.behind)

pub one_program : (text : List ℕ) (tokens : List Token) (last : ℕ) (p q : Program) → StandsFor text tokens last p → StandsFor text tokens last q → q ≡ p
one_program text tokens last p q (s, a, h) (t, b, k) = one_of_trees text last s t p q (one_text tokens s t a.whole b.whole) h k
