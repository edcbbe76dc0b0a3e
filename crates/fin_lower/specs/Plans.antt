-- Which plans are plans of a program, by what their code means.
use Rattle.std.specs.Prelude.{◌≡◌, ◌≤◌, true, List, None}
use Rattle.fin_ast.specs.declared.checked.Checked.{Checked}
use Rattle.fin_ast.specs.Accepted.{IsAccepted}
use Rattle.fin_ir.specs.declared.code.Code.{Code}
use Rattle.fin_ir.specs.declared.code.Code.TheVariants.{Seq}
use Rattle.fin_ir.specs.declared.layout.Plan.{Plan}
use Rattle.fin_ir.specs.Named.{is_named}
use Rattle.fin_simp.specs.Numbered.{outset}
use Rattle.fin_perform.specs.Layouts.{variables_in, layout_with}
use Rattle.fin_perform.specs.Meanings.{Means, turns_deed}

-- Its layout is that of the program's tensors, with a local for each variable and more; and where the program meets the
-- checks, its code names what the layout has, and means the program's statements.
pub record IsPlan (c : Checked) (p : Plan) : Type 0 where
  pub codes : List Code
  pub code : p.code ≡ Seq codes
  pub layout : p.layout ≡ layout_with c p.layout.locals
  pub room : variables_in c ≤ p.layout.locals
  pub named : IsAccepted c → is_named p.layout p.code ≡ true
  pub means : IsAccepted c → Means c (variables_in c) p.layout.locals codes (turns_deed c.program.body outset None)
