-- The code of statements without bodies, and round the codes of bodies.
use Rattle.std.specs.Prelude.{ℕ, ◌+◌, List, [], ◌∷◌, ◌++◌, map, ℤ, pos}
use Rattle.fin_base.specs.declared.reduce.Reduce.{Reduce}
use Rattle.fin_ast.specs.declared.tree.Index.{Index}
use Rattle.fin_ir.specs.declared.code.Code.{Code}
use Rattle.fin_ir.specs.declared.code.Code.TheVariants.{Seq, Assign, When, Update, Declare, Freeze, Thaw, Charge}
use Rattle.fin_ir.specs.declared.expression.IExpr.{IExpr}
use Rattle.fin_ir.specs.declared.expression.IExpr.TheVariants.{Num}
use Rattle.fin_stage.specs.Stages.{work_of_declaration}
use Rattle.fin_read.specs.Reads.{in_box}
use Rattle.fin_read.specs.Counts.{count_code}
use Rattle.fin_read.specs.Values.{Heads, Lowered, format_of, shape_of, index_code, prelude}

abbrev pub charge_of : ℕ → Code
charge_of n = Charge (Num (pos n))

abbrev pub declare_code : Heads → ℕ → Code
declare_code h tensor = Seq (Declare tensor ∷ charge_of (work_of_declaration (format_of h tensor).levels (shape_of h tensor)) ∷ [])

-- the number of values of a tensor that is a storage: a freeze counts when it has become one, a thaw while it still is one
abbrev pub count_of : Heads → ℕ → IExpr
count_of h tensor = count_code tensor (format_of h tensor).levels (shape_of h tensor)

abbrev pub freeze_code : Heads → ℕ → Code
freeze_code h tensor = Seq (Freeze tensor ∷ charge_of 1 ∷ Charge (count_of h tensor) ∷ [])

abbrev pub thaw_code : Heads → ℕ → Code
thaw_code h tensor = Seq (charge_of 1 ∷ Charge (count_of h tensor) ∷ Thaw tensor ∷ [])

-- outside the box there is nothing to update
abbrev pub put_code : Heads → ℕ → List Index → Reduce → IExpr → Code
put_code h tensor at by value = let xs = map index_code at in When (in_box (shape_of h tensor) xs) (Update tensor xs by value)

abbrev pub update_after : Heads → ℕ → List Index → Reduce → IExpr → List Code
update_after h tensor at by value = put_code h tensor at by value ∷ charge_of 1 ∷ []

abbrev pub update_code : Heads → ℕ → List Index → Reduce → Lowered → Code
update_code h tensor at by v = Seq (prelude v ++ update_after h tensor at by v.value)

-- an update whose work is paid elsewhere
abbrev pub unpaid_update : Heads → ℕ → List Index → Reduce → Lowered → List Code
unpaid_update h tensor at by v = prelude v ++ put_code h tensor at by v.value ∷ []

-- ---- statements with bodies

abbrev pub cond_code : Lowered → List Code → Code
cond_code v body = Seq (charge_of 1 ∷ prelude v ++ When v.value (Seq body) ∷ [])

-- a let of a literal
abbrev pub literal_code : ℕ → ℤ → List Code → Code
literal_code var n body = Seq (Assign var (Num n) ∷ body)

-- the variable keeps its local's word behind the body, since no code behind it asks for what was there before
abbrev pub let_code : ℕ → Lowered → List Code → Code
let_code var v body = Seq (charge_of 1 ∷ prelude v ++ Assign var v.value ∷ body)

-- ---- room

-- an expression's steps use one local behind those that they leave
abbrev pub end_of : Lowered → ℕ
end_of v = v.next + 1
