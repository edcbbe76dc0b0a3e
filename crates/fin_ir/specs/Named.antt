-- The locals and tensors that a code names.
use Rattle.std.specs.Prelude.{ℕ, Bool, true, ◌&&◌, nat_lt, length}
use Rattle.std.specs.List.{list_all}
use Rattle.fin_ir.specs.declared.expression.IExpr.{IExpr, fold-IExpr}
use Rattle.fin_ir.specs.declared.expression.IExpr.TheOpen.{IExpr-F}
use Rattle.fin_ir.specs.declared.code.Code.{Code, fold-Code}
use Rattle.fin_ir.specs.declared.code.Code.TheOpen.{Code-F}
use Rattle.fin_ir.specs.declared.layout.Layout.{Layout}

abbrev pub has_local : Layout → ℕ → Bool
has_local layout local = nat_lt local layout.locals

abbrev pub has_tensor : Layout → ℕ → Bool
has_tensor layout tensor = nat_lt tensor (length layout.formats)

abbrev pub expression_step : Layout → IExpr-F Bool → Bool
expression_step layout (IExpr-F.Num n) = true
expression_step layout (IExpr-F.Local local) = has_local layout local
expression_step layout (IExpr-F.Neg inner) = inner
expression_step layout (IExpr-F.Two op left right) = left && right
expression_step layout (IExpr-F.Pick test yes' no') = test && yes' && no'
expression_step layout (IExpr-F.Times by value count) = value && count
expression_step layout (IExpr-F.Cell tensor level table at) = has_tensor layout tensor && at
expression_step layout (IExpr-F.Seek tensor level from to key) = has_tensor layout tensor && from && to && key
expression_step layout (IExpr-F.Val tensor position) = has_tensor layout tensor && position

-- each number of a local or tensor in the expression is in the layout
abbrev pub is_named_in : Layout → IExpr → Bool
is_named_in layout = fold-IExpr Bool (expression_step layout)

abbrev pub code_step : Layout → Code-F Bool → Bool
code_step layout Code-F.Skip = true
code_step layout (Code-F.Seq all) = list_all (λ b. b) all
code_step layout (Code-F.Assign local value) = has_local layout local && is_named_in layout value
code_step layout (Code-F.When test body) = is_named_in layout test && body
code_step layout (Code-F.StepLoop var until lo hi stop body) =
    has_local layout var && has_local layout until && is_named_in layout lo && is_named_in layout hi && is_named_in layout stop && body
code_step layout (Code-F.ForLoop var lo hi body) = has_local layout var && is_named_in layout lo && is_named_in layout hi && body
code_step layout (Code-F.ParLoop from to lo hi ways body) = has_local layout from && has_local layout to && body
code_step layout (Code-F.Update tensor at by value) = has_tensor layout tensor && list_all (is_named_in layout) at && is_named_in layout value
code_step layout (Code-F.Declare tensor) = has_tensor layout tensor
code_step layout (Code-F.Freeze tensor) = has_tensor layout tensor
code_step layout (Code-F.Thaw tensor) = has_tensor layout tensor
code_step layout (Code-F.Charge value) = is_named_in layout value

-- each number of a local or tensor in the code is in the layout
abbrev pub is_named : Layout → Code → Bool
is_named layout = fold-Code Bool (code_step layout)
