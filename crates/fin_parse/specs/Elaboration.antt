-- What the trees of the grammar stand for: indices, expressions and statements, in which tensors and variables are numbers.
use Rattle.std.specs.Prelude.{ℕ, ◌+◌, ℤ, pos, Bool, true, false, if◌then◌else◌, List, [], ◌∷◌, ◌++◌, map, Option, Some, None, slice_get, unwrap_or, neg_ℤ, refl}
use Rattle.std.specs.List.{find, flat_map}
use Rattle.fin_base.specs.declared.terms.Op.{Op}
use Rattle.fin_base.specs.declared.terms.Op.TheVariants.{Add, Sub, Mul}
use Rattle.fin_base.specs.declared.terms.Proto.TheVariants.{Walk}
use Rattle.fin_base.specs.declared.reduce.Reduce.{Reduce}
use Rattle.fin_base.specs.Words.{wrap}
use Rattle.fin_ast.specs.declared.tree.Index.{Index}
use Rattle.fin_ast.specs.declared.tree.Expr.{Expr}
use Rattle.fin_ast.specs.declared.tree.Expr.TheVariants as expr
use Rattle.fin_ast.specs.declared.tree.Stmt.{Stmt}
use Rattle.fin_ast.specs.declared.tree.Stmt.TheVariants as stmt
use Rattle.fin_lex.specs.declared.token.Token.{Token}
use Rattle.fin_parse.specs.declared.grammar.Form.{Form}
use Rattle.fin_parse.specs.declared.grammar.Form.TheVariants as form
use Rattle.fin_parse.specs.declared.roles.Counting.{Counting}
use Rattle.fin_parse.specs.declared.roles.Counting.TheVariants.{Never, Second, Single, Sum}
use Rattle.fin_parse.specs.declared.scope.Tensor.{Tensor}
use Rattle.fin_parse.specs.declared.naming.Variable.{Variable}
use Rattle.fin_parse.specs.declared.tree.Tree.{Tree, fold-Tree}
use Rattle.fin_parse.specs.declared.tree.Tree.TheOpen.{Tree-F}
use Rattle.fin_parse.specs.Fills.{number_of}
use Rattle.fin_parse.specs.Names.{is_same}
use Rattle.fin_parse.specs.Roles.{counting_of}
use Rattle.fin_parse.specs.Terms.{op_of, proto_of, reduce_of, is_par, is_freeze}

-- ---- names

-- what names stand for at a place: the tensors of the headers, and the variables that are bound, outermost first
pub record Naming : Type 0 where
  pub tensors : List Tensor
  pub bound : List Variable

abbrev pub naming_of : List Tensor → List Variable → Naming
naming_of tensors bound = record { tensors = tensors; bound = bound }

abbrev pub with_variable : Naming → Option Token → ℕ → Naming
with_variable s None n = s
with_variable s (Some name) n = record { tensors = s.tensors; bound = s.bound ++ (record { name = name; number = n }) ∷ [] }

-- the number of the first tensor with the name, where the first one has the number n
abbrev pub tensor_from : ℕ → List ℕ → List Tensor → Token → Option ℕ
tensor_from n text [] name = None
tensor_from n text (t ∷ ts) name = if is_same text t.name name then Some n else tensor_from (n + 1) text ts name

abbrev pub tensor_number : List ℕ → Naming → Option Token → Option ℕ
tensor_number text s None = None
tensor_number text s (Some name) = tensor_from 0 text s.tensors name

abbrev pub number_of_variable : Option Variable → Option ℕ
number_of_variable None = None
number_of_variable (Some v) = Some v.number

abbrev pub variable_number : List ℕ → Naming → Option Token → Option ℕ
variable_number text s None = None
variable_number text s (Some name) = number_of_variable (find (λ (v : Variable). is_same text v.name name) s.bound)

-- ---- what a tree stands for, by the kind of its phrase

pub record Elaboration : Type 0 where
  -- its first token, and the closing brace of a body
  pub first : Option Token
  pub closing : Option Token
  -- the value of its first token, where that is a number, and the word that a number with its sign stands for
  pub size : ℕ
  pub number : ℤ
  pub range : Option (ℕ × ℕ)
  -- an index, what stands behind the first variable of a `~` index, and indices
  pub index : Naming → Index
  pub behind : Naming → Option ℕ → Index
  pub indices : Naming → List Index
  -- whether indices may stand here
  pub indexed : Bool
  -- an expression, what follows an expression, and two expressions under an operator
  pub value : Naming → Expr
  pub onto : Naming → Expr → Expr
  pub joined : Naming → Op → Expr
  -- statements, behind the token that leads them and from a number of variables on, and how many variables they bind
  pub stmts : Option Token → Naming → ℕ → List Stmt
  pub binders : ℕ

-- the word of a number below 2^63, and of one up to 2^63 behind a minus
abbrev pub plus_word : ℕ → ℤ
plus_word n = wrap (pos n)

abbrev pub minus_word : ℕ → ℤ
minus_word n = wrap (neg_ℤ (pos n))

unfoldable pub plain : Option ℕ → ℤ → Index
plain first offset = record { proto = Walk; loose = false; first = first; second = None; offset = offset; single = refl }

unfoldable pub loose : Option ℕ → Option ℕ → ℤ → Index
loose first second offset = record { proto = Walk; loose = true; first = first; second = second; offset = offset; single = refl }

unfoldable pub with_protocol : Option Token → Index → Index
with_protocol t i = record { proto = proto_of t; loose = i.loose; first = i.first; second = i.second; offset = i.offset; single = i.single }

abbrev pub line_of : Option Token → ℕ
line_of None = 0
line_of (Some t) = t.line

abbrev pub nothing : Elaboration
nothing = record {
  first = None;
  closing = None;
  size = 0;
  number = pos 0;
  range = None;
  index = λ s. plain None (pos 0);
  behind = λ s v. loose v None (pos 0);
  indices = λ s. [];
  indexed = false;
  value = λ s. expr.Num (pos 0);
  onto = λ s e. e;
  joined = λ s o. expr.Num (pos 0);
  stmts = λ lead s n. [];
  binders = 0;
}

abbrev pub part : List Elaboration → ℕ → Elaboration
part us i = unwrap_or (slice_get us i) nothing

-- ---- numbers

abbrev pub number_at : Form → List Elaboration → ℤ
number_at form.PlusInt us = plus_word (part us 0).size
number_at form.MinusInt us = minus_word (part us 1).size
number_at form.PlusOffset us = plus_word (part us 1).size
number_at form.MinusOffset us = minus_word (part us 1).size
number_at _ us = pos 0

abbrev pub range_at : Form → List Elaboration → Option (ℕ × ℕ)
range_at form.Range us = Some ((part us 1).size, (part us 3).size)
range_at _ us = None

-- ---- indices

module _ (text : List ℕ) where
  abbrev pub index_at : Form → List Elaboration → Naming → Index
  index_at form.Constant us s = plain None (plus_word (part us 0).size)
  index_at form.Shifted us s = plain (variable_number text s (part us 0).first) (part us 1).number
  index_at form.PlainCore us s = (part us 0).index s
  index_at form.LooseCore us s = (part us 2).index s
  index_at form.LooseConstant us s = loose None None (plus_word (part us 0).size)
  index_at form.LooseNamed us s = (part us 1).behind s (variable_number text s (part us 0).first)
  index_at form.BareIndex us s = (part us 0).index s
  index_at form.ProtocolIndex us s = with_protocol (part us 0).first ((part us 2).index s)
  index_at _ us s = plain None (pos 0)

  abbrev pub behind_at : Form → List Elaboration → Naming → Option ℕ → Index
  behind_at form.PlusRest us s v = (part us 1).behind s v
  behind_at form.MinusRest us s v = loose v None (minus_word (part us 1).size)
  behind_at form.AddedNumber us s v = loose v None (plus_word (part us 0).size)
  behind_at form.AddedName us s v = loose v (variable_number text s (part us 0).first) (part us 1).number
  behind_at _ us s v = loose v None (pos 0)

  abbrev pub indices_in : List Elaboration → Naming → List Index
  indices_in us s = flat_map (λ (u : Elaboration). u.indices s) us

  abbrev pub indices_at : Form → Counting → List Elaboration → Naming → List Index
  indices_at f Never us s = []
  indices_at f Second us s = (part us 1).indices s
  indices_at f Single us s = index_at f us s ∷ []
  indices_at f Sum us s = indices_in us s

  abbrev pub indexed_at : Counting → List Elaboration → Bool
  indexed_at Never us = false
  indexed_at Second us = (part us 1).indexed
  indexed_at Single us = true
  indexed_at Sum us = true

  abbrev pub is_group : List Elaboration → Bool
  is_group [] = false
  is_group (u ∷ us) = true

  -- ---- expressions

  -- a variable, or a tensor where there are indices in brackets
  abbrev pub named_value : Option Token → Bool → List Index → Naming → Expr
  named_value name false at s = expr.Var (unwrap_or (variable_number text s name) 0) (line_of name)
  named_value name true at s = expr.Read (unwrap_or (tensor_number text s name) 0) at (line_of name)

  abbrev pub value_at : Form → List Elaboration → Naming → Expr
  value_at form.Expr us s = (part us 1).onto s ((part us 0).value s)
  value_at form.Sum us s = (part us 1).onto s ((part us 0).value s)
  value_at form.Term us s = (part us 1).onto s ((part us 0).value s)
  value_at form.NumberUnary us s = expr.Num (plus_word (part us 0).size)
  value_at form.OtherUnary us s = (part us 0).value s
  value_at form.Negation us s = (part us 1).value s
  value_at form.NegatedNumber us s = expr.Num (minus_word (part us 0).size)
  value_at form.NegatedWidest us s = expr.Num (minus_word (part us 0).size)
  value_at form.NegatedOperand us s = expr.Neg ((part us 0).value s)
  value_at form.NamedOperand us s = named_value (part us 0).first (part us 1).indexed ((part us 1).indices s) s
  value_at form.Parentheses us s = (part us 1).value s
  value_at form.Call us s = (part us 2).joined s (op_of (part us 0).first)
  value_at _ us s = expr.Num (pos 0)

  abbrev pub onto_at : Form → List Elaboration → Naming → Expr → Expr
  onto_at form.Compared us s e = expr.Two (op_of (part us 0).first) e ((part us 1).value s)
  onto_at form.PlusTerm us s e = expr.Two Add e ((part us 1).value s)
  onto_at form.MinusTerm us s e = expr.Two Sub e ((part us 1).value s)
  onto_at form.NextUnary us s e = expr.Two Mul e ((part us 1).value s)
  onto_at _ us s e = e

  abbrev pub onto_all : List Elaboration → Naming → Expr → Expr
  onto_all [] s e = e
  onto_all (u ∷ us) s e = onto_all us s (u.onto s e)

  abbrev pub joined_at : Form → List Elaboration → Naming → Op → Expr
  joined_at form.Pair us s o = expr.Two o ((part us 0).value s) ((part us 2).value s)
  joined_at _ us s o = expr.Num (pos 0)

  -- ---- statements

  abbrev pub turned : Option ℕ → Option Token → List Stmt
  turned None lead = []
  turned (Some tensor) lead = if is_freeze lead then stmt.Freeze tensor (line_of lead) ∷ [] else stmt.Thaw tensor (line_of lead) ∷ []

  abbrev pub declared : Option ℕ → ℤ → ℕ → List Stmt
  declared None value line = []
  declared (Some tensor) value line = stmt.Declare tensor value line ∷ []

  abbrev pub updated : Option ℕ → List Index → Reduce → Expr → ℕ → List Stmt
  updated None at by value line = []
  updated (Some tensor) at by value line = stmt.Update tensor at by value line ∷ []

  abbrev pub stmts_in : List Elaboration → Naming → ℕ → List Stmt
  stmts_in [] s n = []
  stmts_in (u ∷ us) s n = u.stmts None s n ++ stmts_in us s (n + u.binders)

  abbrev pub binders_in : List Elaboration → ℕ
  binders_in [] = 0
  binders_in (u ∷ us) = u.binders + binders_in us

  abbrev pub stmts_at : Form → List Elaboration → Option Token → Naming → ℕ → List Stmt
  stmts_at form.Loop us lead s n = (part us 1).stmts (part us 0).first s n
  stmts_at form.Turns us lead s n = stmt.Loop n (part us 1).range (is_par lead) ((part us 2).stmts None (with_variable s (part us 0).first n) (n + 1)) (line_of lead) (line_of (part us 2).closing) ∷ []
  stmts_at form.If us lead s n = stmt.Cond ((part us 1).value s) ((part us 2).stmts None s n) (line_of (part us 0).first) (line_of (part us 2).closing) ∷ []
  stmts_at form.Let us lead s n = stmt.Bind n ((part us 3).value s) ((part us 4).stmts None (with_variable s (part us 1).first n) (n + 1)) (line_of (part us 0).first) (line_of (part us 4).closing) ∷ []
  stmts_at form.Block us lead s n = stmt.Block ((part us 0).stmts None s n) (line_of (part us 0).first) (line_of (part us 0).closing) ∷ []
  stmts_at form.Turn us lead s n = turned (tensor_number text s (part us 1).first) (part us 0).first
  stmts_at form.Named us lead s n = (part us 1).stmts (part us 0).first s n
  stmts_at form.Declaration us lead s n = declared (tensor_number text s lead) (part us 1).number (line_of lead)
  stmts_at form.Update us lead s n = updated (tensor_number text s lead) ((part us 1).indices s) (reduce_of (part us 3).first) ((part us 4).value s) (line_of lead)
  stmts_at form.Body us lead s n = (part us 1).stmts None s n
  stmts_at form.Stmts us lead s n = (part us 0).stmts None s n
  stmts_at _ us lead s n = []

  abbrev pub binders_at : Form → List Elaboration → ℕ
  binders_at form.Loop us = (part us 1).binders
  binders_at form.Turns us = (part us 2).binders + 1
  binders_at form.If us = (part us 2).binders
  binders_at form.Let us = (part us 4).binders + 1
  binders_at form.Block us = (part us 0).binders
  binders_at form.Named us = (part us 1).binders
  binders_at form.Body us = (part us 1).binders
  binders_at form.Stmts us = (part us 0).binders
  binders_at _ us = 0

  -- ---- trees

  abbrev pub closing_at : Form → List Elaboration → Option Token
  closing_at form.Body us = (part us 2).first
  closing_at _ us = None

  abbrev pub elaboration_step : Tree-F Elaboration → Elaboration
  elaboration_step (Tree-F.Leaf t) = record {
    first = Some t;
    closing = None;
    size = number_of t.kind;
    number = pos 0;
    range = None;
    index = λ s. plain None (pos 0);
    behind = λ s v. loose v None (pos 0);
    indices = λ s. [];
    indexed = false;
    value = λ s. expr.Num (pos 0);
    onto = λ s e. e;
    joined = λ s o. expr.Num (pos 0);
    stmts = λ lead s n. [];
    binders = 0;
  }
  elaboration_step (Tree-F.Group us) = record {
    first = (part us 0).first;
    closing = None;
    size = (part us 0).size;
    number = (part us 0).number;
    range = (part us 0).range;
    index = λ s. plain None (pos 0);
    behind = (part us 0).behind;
    indices = indices_in us;
    indexed = is_group us;
    value = λ s. expr.Num (pos 0);
    onto = onto_all us;
    joined = λ s o. expr.Num (pos 0);
    stmts = λ lead s n. stmts_in us s n;
    binders = binders_in us;
  }
  elaboration_step (Tree-F.Node f us) = record {
    first = (part us 0).first;
    closing = closing_at f us;
    size = (part us 0).size;
    number = number_at f us;
    range = range_at f us;
    index = index_at f us;
    behind = behind_at f us;
    indices = indices_at f (counting_of f) us;
    indexed = indexed_at (counting_of f) us;
    value = value_at f us;
    onto = onto_at f us;
    joined = joined_at f us;
    stmts = stmts_at f us;
    binders = binders_at f us;
  }

  abbrev pub elaboration_of : Tree → Elaboration
  elaboration_of = fold-Tree Elaboration elaboration_step

  -- the statements of a whole text, whose headers name the tensors
  abbrev pub statements_of : List Tensor → List Tree → List Stmt
  statements_of tensors body = stmts_in (map elaboration_of body) (naming_of tensors []) 0
