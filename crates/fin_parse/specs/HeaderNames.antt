-- The breaches of the rules on names in headers, in the order of the text, and the tensors that they name.
use Rattle.std.specs.Prelude.{ℕ, Bool, false, ◌&&◌, ◌==◌, nat_le, if◌then◌else◌, List, [], ◌∷◌, ◌++◌, length, Option, Some, None, is_some}
use Rattle.std.specs.List.{count_by}
use Rattle.fin_base.specs.declared.refusal.Rule.TheVariants.{N3}
use Rattle.fin_base.specs.declared.refusal.Refusal.{Refusal}
use Rattle.fin_lex.specs.declared.token.Token.{Token}
use Rattle.fin_lex.specs.declared.token.TokenKind.{TokenKind}
use Rattle.fin_lex.specs.declared.token.TokenKind.TheVariants as kind
use Rattle.fin_parse.specs.declared.scope.Tensor.{Tensor}
use Rattle.fin_parse.specs.declared.reserved.TheConstants.{DENSE, DICT}
use Rattle.fin_parse.specs.Names.{breach, binding, tensor_named}
use Rattle.fin_parse.specs.Fills.{head_token}
use Rattle.fin_parse.specs.Leaves.{HeadParts}

-- a level, and not a decoration or `element`
abbrev pub is_level : TokenKind → Bool
is_level (kind.Reserved k) = nat_le DENSE k && nat_le k DICT
is_level _ = false

abbrev pub levels_of : List Token → ℕ
levels_of words = count_by (λ (t : Token). is_level t.kind) words

-- how many numbers a shape has, behind its first word
abbrev pub shape_count : List Token → Option ℕ
shape_count [] = None
shape_count (t ∷ ts) = Some (length ts)

-- N3 at the header, where its shape has another count
abbrev pub shape_breach : Option Token → Option ℕ → ℕ → List Refusal
shape_breach None count levels = []
shape_breach (Some t) None levels = []
shape_breach (Some t) (Some n) levels = if n == levels then [] else breach N3 t

-- N2 at the name, where an earlier header has it
abbrev pub name_breach : List ℕ → List Tensor → Option Token → List Refusal
name_breach text earlier None = []
name_breach text earlier (Some t) = binding t (is_some (tensor_named text earlier t))

abbrev pub head_breaches : List ℕ → List Tensor → HeadParts → List Refusal
head_breaches text earlier h = shape_breach (head_token h.kind) (shape_count h.shape) (levels_of h.format) ++ name_breach text earlier (head_token h.name)

abbrev pub named_tensor : Option Token → ℕ → List Tensor
named_tensor None levels = []
named_tensor (Some t) levels = record { name = t; levels = levels } ∷ []

abbrev pub with_tensor : List Tensor → HeadParts → List Tensor
with_tensor earlier h = earlier ++ named_tensor (head_token h.name) (levels_of h.format)

-- the breaches of headers behind earlier tensors
abbrev pub header_breaches : List ℕ → List Tensor → List HeadParts → List Refusal
header_breaches text earlier [] = []
header_breaches text earlier (h ∷ hs) = head_breaches text earlier h ++ header_breaches text (with_tensor earlier h) hs

-- the tensors of headers behind earlier ones
abbrev pub tensors_of : List Tensor → List HeadParts → List Tensor
tensors_of earlier [] = earlier
tensors_of earlier (h ∷ hs) = tensors_of (with_tensor earlier h) hs
