-- The breaches of the rules on names, in the order of the text.
use Rattle.std.specs.Prelude.{ℕ, zero, suc, ◌+◌, ◌-◌, min, Bool, true, false, ◌||◌, ◌==◌, if◌then◌else◌, List, [], ◌∷◌, ◌++◌, take, drop, slice_get, Option, Some, None, unwrap_or, is_some}
use Rattle.std.specs.List.{find, fold}
use Rattle.std.specs.Str.{bytes_eq}
use Rattle.fin_base.specs.declared.refusal.Rule.{Rule}
use Rattle.fin_base.specs.declared.refusal.Rule.TheVariants.{N1, N2, N3}
use Rattle.fin_base.specs.declared.refusal.Refusal.{Refusal}
use Rattle.fin_lex.specs.declared.token.Token.{Token}
use Rattle.fin_parse.specs.Roles.{role_of, name_place, inner_from, counting_of}
use Rattle.fin_parse.specs.declared.tree.Tree.{Tree, fold-Tree}
use Rattle.fin_parse.specs.declared.tree.Tree.TheOpen.{Tree-F}
use Rattle.fin_parse.specs.declared.scope.Tensor.{Tensor}
use Rattle.fin_parse.specs.declared.scope.Bound.{Bound}
use Rattle.fin_parse.specs.declared.scope.Place.{Place}
use Rattle.fin_parse.specs.declared.roles.Role.{Role}
use Rattle.fin_parse.specs.declared.roles.Role.TheVariants.{LoopName, LetName, Changed, Turned, Operand, IndexName, LooseName, AddedName, Other}
use Rattle.fin_parse.specs.declared.roles.Counting.{Counting}
use Rattle.fin_parse.specs.declared.roles.Counting.TheVariants.{Never, Second, Single, Sum}

-- the bytes of a token
abbrev pub text_at : List ℕ → Token → List ℕ
text_at text t = take (t.to - t.from) (drop t.from text)

abbrev pub is_same : List ℕ → Token → Token → Bool
is_same text a b = bytes_eq (text_at text a) (text_at text b)

-- the tensors, the variables that are bound, outermost first, and the variable that a `~` index begins with
pub record Scope : Type 0 where
  pub tensors : List Tensor
  pub bound : List Bound
  pub begun : Option Token

abbrev pub tensor_named : List ℕ → List Tensor → Token → Option Tensor
tensor_named text tensors name = find (λ (t : Tensor). is_same text t.name name) tensors

abbrev pub bound_named : List ℕ → List Bound → Token → Option Bound
bound_named text bound name = find (λ (b : Bound). is_same text b.name name) bound

abbrev pub breach : Rule → Token → List Refusal
breach rule t = record { rule = rule; line = t.line } ∷ []

-- a tensor has a header, and as many indices as it has levels, where there are any
abbrev pub tensor_use : Token → Option ℕ → Option Tensor → List Refusal
tensor_use name count None = breach N1 name
tensor_use name None (Some t) = []
tensor_use name (Some n) (Some t) = if n == t.levels then [] else breach N3 name

-- a variable is bound
abbrev pub variable_use : Token → Option Bound → List Refusal
variable_use name None = breach N1 name
variable_use name (Some b) = []

-- a variable of an index is a loop's
abbrev pub loop_use : Token → Option Bound → List Refusal
loop_use name None = breach N1 name
loop_use name (Some b) = if b.is_loop then [] else breach N1 name

-- a name that a loop or let takes is free
abbrev pub binding : Token → Bool → List Refusal
binding name taken = if taken then breach N2 name else []

-- what a tree tells of itself: its token, how many indices it has, where it may have any, and its breaches in a scope
pub record Facts : Type 0 where
  pub token : Option Token
  pub count : Option ℕ
  pub breaches : Scope → List Refusal

abbrev pub nothing : Facts
nothing = record { token = None; count = None; breaches = λ s. [] }

abbrev pub part_at : List Facts → ℕ → Facts
part_at us i = unwrap_or (slice_get us i) nothing

-- a sum that stops at the greatest u64, which no text reaches
abbrev pub plus : ℕ → ℕ → ℕ
plus a b = min (a + b) 18446744073709551615

abbrev pub counted : List Facts → ℕ
counted us = fold (λ n (u : Facts). plus n (unwrap_or u.count 0)) 0 us

-- the breaches of parts, those before a place in one scope and the others in another one
abbrev pub part_breaches : ℕ → List Facts → Scope → Scope → List Refusal
part_breaches from [] outer inner = []
part_breaches zero (u ∷ us) outer inner = u.breaches inner ++ part_breaches zero us outer inner
part_breaches (suc n) (u ∷ us) outer inner = u.breaches outer ++ part_breaches n us outer inner

abbrev pub with_bound : Scope → Bound → Scope
with_bound s b = record { tensors = s.tensors; bound = s.bound ++ b ∷ []; begun = s.begun }

abbrev pub with_begun : Scope → Token → Scope
with_begun s t = record { tensors = s.tensors; bound = s.bound; begun = Some t }

abbrev pub is_begun : List ℕ → Option Token → Token → Bool
is_begun text None name = false
is_begun text (Some t) name = is_same text t name

abbrev pub inner_scope : Role → Token → Scope → Scope
inner_scope LoopName name s = with_bound s (record { name = name; is_loop = true })
inner_scope LetName name s = with_bound s (record { name = name; is_loop = false })
inner_scope Changed name s = s
inner_scope Turned name s = s
inner_scope Operand name s = s
inner_scope IndexName name s = s
inner_scope LooseName name s = with_begun s name
inner_scope AddedName name s = s
inner_scope Other name s = s

abbrev pub scope_within : Role → Option Token → Scope → Scope
scope_within role None s = s
scope_within role (Some name) s = inner_scope role name s

abbrev pub form_count : Counting → List Facts → Option ℕ
form_count Never us = None
form_count Second us = (part_at us 1).count
form_count Single us = Some 1
form_count Sum us = Some (counted us)

abbrev pub group_count : List Facts → Option ℕ
group_count [] = None
group_count (u ∷ us) = Some (counted (u ∷ us))

module _ (text : List ℕ) where
  -- the breach at a name, by its role, with the count of what stands behind it
  abbrev pub own_breaches : Role → Token → Option ℕ → Scope → List Refusal
  own_breaches LoopName name count s = binding name (is_some (tensor_named text s.tensors name) || is_some (bound_named text s.bound name))
  own_breaches LetName name count s = binding name (is_some (tensor_named text s.tensors name) || is_some (bound_named text s.bound name))
  own_breaches Changed name count s = tensor_use name count (tensor_named text s.tensors name)
  own_breaches Turned name count s = tensor_use name None (tensor_named text s.tensors name)
  own_breaches Operand name None s = variable_use name (bound_named text s.bound name)
  own_breaches Operand name (Some n) s = tensor_use name (Some n) (tensor_named text s.tensors name)
  own_breaches IndexName name count s = loop_use name (bound_named text s.bound name)
  own_breaches LooseName name count s = loop_use name (bound_named text s.bound name)
  own_breaches AddedName name count s = if is_begun text s.begun name then breach N1 name else loop_use name (bound_named text s.bound name)
  own_breaches Other name count s = []

  abbrev pub named_breaches : Role → Option Token → Option ℕ → Scope → List Refusal
  named_breaches role None count s = []
  named_breaches role (Some name) count s = own_breaches role name count s

  abbrev pub role_breaches : Role → List Facts → Scope → List Refusal
  role_breaches role us s =
      let name = (part_at us (name_place role)).token in
      named_breaches role name (part_at us 1).count s ++ part_breaches (inner_from role) us s (scope_within role name s)

  abbrev pub facts_step : Tree-F Facts → Facts
  facts_step (Tree-F.Leaf t) = record { token = Some t; count = None; breaches = λ s. [] }
  facts_step (Tree-F.Group us) = record { token = None; count = group_count us; breaches = λ s. part_breaches 0 us s s }
  facts_step (Tree-F.Node f us) = record { token = None; count = form_count (counting_of f) us; breaches = role_breaches (role_of f) us }

  abbrev pub facts_of : Tree → Facts
  facts_of = fold-Tree Facts facts_step

-- the first of some breaches
abbrev pub first_of : List Refusal → Option Refusal
first_of [] = None
first_of (r ∷ rs) = Some r

-- the scope of a place
abbrev pub scope_of : List Tensor → Place → Scope
scope_of tensors p = record { tensors = tensors; bound = p.bound.items; begun = p.begun }
