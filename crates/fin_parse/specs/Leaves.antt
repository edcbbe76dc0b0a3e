-- The tokens of trees, and those of headers part by part.
use Rattle.std.specs.Prelude.{ℕ, List, [], ◌∷◌, ◌++◌, slice_get, unwrap_or}
use Rattle.std.specs.List.{flat_map}
use Rattle.fin_lex.specs.declared.token.Token.{Token}
use Rattle.fin_parse.specs.declared.tree.Tree.{Tree, fold-Tree}
use Rattle.fin_parse.specs.declared.tree.Tree.TheOpen.{Tree-F}
use Rattle.fin_base.specs.declared.refusal.Refusal.{Refusal}
use Rattle.fin_parse.specs.declared.heads.Head.{Head}
use Rattle.fin_parse.specs.declared.roles.Role.{Role}
use Rattle.fin_parse.specs.declared.roles.Role.TheVariants.{LoopName, LetName, Changed, Turned, Operand, IndexName, LooseName, AddedName, Other}
use Rattle.fin_parse.specs.declared.scope.Fill.{Fill}
use Rattle.fin_parse.specs.Roles.{role_of}
use Rattle.fin_parse.specs.Fills.{fill_breach, head_token}

-- the tokens of a header: its kind, its name, its format, its fill and its shape
pub record HeadParts : Type 0 where
  pub kind : List Token
  pub name : List Token
  pub format : List Token
  pub fill : List Token
  pub shape : List Token

-- the tokens of a tree, what it is as a header, and its breaches of F2 in a text with some fills
pub record Leaves : Type 0 where
  pub all : List Token
  pub head : HeadParts
  pub fills : List ℕ → List Fill → List Refusal

abbrev pub no_head : HeadParts
no_head = record { kind = []; name = []; format = []; fill = []; shape = [] }

abbrev pub no_leaves : Leaves
no_leaves = record { all = []; head = no_head; fills = λ text known. [] }

abbrev pub leaves_at : List Leaves → ℕ → Leaves
leaves_at us i = unwrap_or (slice_get us i) no_leaves

abbrev pub all_of : List Leaves → List Token
all_of us = flat_map (λ (u : Leaves). u.all) us

abbrev pub head_at : List Leaves → HeadParts
head_at us = record { kind = (leaves_at us 0).all; name = (leaves_at us 1).all; format = (leaves_at us 2).all; fill = (leaves_at us 3).all; shape = (leaves_at us 4).all }

abbrev pub fills_of : List Leaves → List ℕ → List Fill → List Refusal
fills_of [] text known = []
fills_of (u ∷ us) text known = u.fills text known ++ fills_of us text known

abbrev pub own_fills : Role → List Token → List Token → List ℕ → List Fill → List Refusal
own_fills Changed name change text known = fill_breach text known (head_token name) change
own_fills LoopName name change text known = []
own_fills LetName name change text known = []
own_fills Turned name change text known = []
own_fills Operand name change text known = []
own_fills IndexName name change text known = []
own_fills LooseName name change text known = []
own_fills AddedName name change text known = []
own_fills Other name change text known = []

abbrev pub leaves_step : Tree-F Leaves → Leaves
leaves_step (Tree-F.Leaf t) = record { all = t ∷ []; head = no_head; fills = λ text known. [] }
leaves_step (Tree-F.Group us) = record { all = all_of us; head = no_head; fills = fills_of us }
leaves_step (Tree-F.Node f us) = record { all = all_of us; head = head_at us; fills = λ text known. own_fills (role_of f) (leaves_at us 0).all (leaves_at us 1).all text known ++ fills_of us text known }

abbrev pub leaves_of : Tree → Leaves
leaves_of = fold-Tree Leaves leaves_step

abbrev pub tokens_of : Tree → List Token
tokens_of t = (leaves_of t).all

abbrev pub head_parts : Head → HeadParts
head_parts h = record { kind = h.kind.items; name = h.name.items; format = h.format.items; fill = h.fill.items; shape = h.shape.items }

abbrev pub header_of : Tree → HeadParts
header_of t = (leaves_of t).head
