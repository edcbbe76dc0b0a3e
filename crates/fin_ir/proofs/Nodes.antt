-- What a fold over expressions or code gives for each kind of node.
use Rattle.std.proofs.Common.{◌≡◌, ℕ, ℤ, List, map, sym, ap, ◌∙◌}
use Rattle.fin_base.specs.declared.reduce.Reduce.{Reduce}
use Rattle.fin_base.specs.declared.terms.Op.{Op}
use Rattle.fin_base.specs.declared.terms.Updated.{Updated}
use Rattle.fin_ir.specs.declared.expression.Table.{Table}
use Rattle.fin_ir.specs.declared.expression.IExpr.{IExpr, fold-IExpr, fold-roll-IExpr}
use Rattle.fin_ir.specs.declared.expression.IExpr.TheOpen.{IExpr-F}
use Rattle.fin_ir.specs.declared.expression.IExpr.TheVariants as e
use Rattle.fin_ir.specs.declared.code.Code.{Code, fold-Code, fold-roll-Code}
use Rattle.fin_ir.specs.declared.code.Code.TheOpen.{Code-F}
use Rattle.fin_ir.specs.declared.code.Code.TheVariants as c

module _ (A : Type 0) (step : IExpr-F A → A) where
  pub of_num : (n : ℤ) → fold-IExpr A step (e.Num n) ≡ step (IExpr-F.Num n)
  of_num n = ap (fold-IExpr A step) (sym (e.rolls-Num n)) ∙ fold-roll-IExpr A step (IExpr-F.Num n)

  pub of_local : (local : ℕ) → fold-IExpr A step (e.Local local) ≡ step (IExpr-F.Local local)
  of_local local = ap (fold-IExpr A step) (sym (e.rolls-Local local)) ∙ fold-roll-IExpr A step (IExpr-F.Local local)

  pub of_neg : (x : IExpr) → fold-IExpr A step (e.Neg x) ≡ step (IExpr-F.Neg (fold-IExpr A step x))
  of_neg x = ap (fold-IExpr A step) (sym (e.rolls-Neg x)) ∙ fold-roll-IExpr A step (IExpr-F.Neg x)

  pub of_two : (op : Op) (x y : IExpr) → fold-IExpr A step (e.Two op x y) ≡ step (IExpr-F.Two op (fold-IExpr A step x) (fold-IExpr A step y))
  of_two op x y = ap (fold-IExpr A step) (sym (e.rolls-Two op x y)) ∙ fold-roll-IExpr A step (IExpr-F.Two op x y)

  pub of_pick : (x y z : IExpr) → fold-IExpr A step (e.Pick x y z) ≡ step (IExpr-F.Pick (fold-IExpr A step x) (fold-IExpr A step y) (fold-IExpr A step z))
  of_pick x y z = ap (fold-IExpr A step) (sym (e.rolls-Pick x y z)) ∙ fold-roll-IExpr A step (IExpr-F.Pick x y z)

  pub of_times : (by : Reduce) (x y : IExpr) → fold-IExpr A step (e.Times by x y) ≡ step (IExpr-F.Times by (fold-IExpr A step x) (fold-IExpr A step y))
  of_times by x y = ap (fold-IExpr A step) (sym (e.rolls-Times by x y)) ∙ fold-roll-IExpr A step (IExpr-F.Times by x y)

  pub of_cell : (tensor level : ℕ) (table : Table) (x : IExpr) → fold-IExpr A step (e.Cell tensor level table x) ≡ step (IExpr-F.Cell tensor level table (fold-IExpr A step x))
  of_cell tensor level table x = ap (fold-IExpr A step) (sym (e.rolls-Cell tensor level table x)) ∙ fold-roll-IExpr A step (IExpr-F.Cell tensor level table x)

  pub of_seek : (tensor level : ℕ) (x y z : IExpr) → fold-IExpr A step (e.Seek tensor level x y z) ≡ step (IExpr-F.Seek tensor level (fold-IExpr A step x) (fold-IExpr A step y) (fold-IExpr A step z))
  of_seek tensor level x y z = ap (fold-IExpr A step) (sym (e.rolls-Seek tensor level x y z)) ∙ fold-roll-IExpr A step (IExpr-F.Seek tensor level x y z)

  pub of_val : (tensor : ℕ) (x : IExpr) → fold-IExpr A step (e.Val tensor x) ≡ step (IExpr-F.Val tensor (fold-IExpr A step x))
  of_val tensor x = ap (fold-IExpr A step) (sym (e.rolls-Val tensor x)) ∙ fold-roll-IExpr A step (IExpr-F.Val tensor x)

module _ (A : Type 0) (step : Code-F A → A) where
  pub of_skip : fold-Code A step c.Skip ≡ step Code-F.Skip
  of_skip = ap (fold-Code A step) (sym c.rolls-Skip) ∙ fold-roll-Code A step Code-F.Skip

  pub of_seq : (all : List Code) → fold-Code A step (c.Seq all) ≡ step (Code-F.Seq (map (fold-Code A step) all))
  of_seq all = ap (fold-Code A step) (sym (c.rolls-Seq all)) ∙ fold-roll-Code A step (Code-F.Seq all)

  pub of_assign : (local : ℕ) (value : IExpr) → fold-Code A step (c.Assign local value) ≡ step (Code-F.Assign local value)
  of_assign local value = ap (fold-Code A step) (sym (c.rolls-Assign local value)) ∙ fold-roll-Code A step (Code-F.Assign local value)

  pub of_when : (test : IExpr) (body : Code) → fold-Code A step (c.When test body) ≡ step (Code-F.When test (fold-Code A step body))
  of_when test body = ap (fold-Code A step) (sym (c.rolls-When test body)) ∙ fold-roll-Code A step (Code-F.When test body)

  pub of_step_loop : (var until : ℕ) (lo hi stop : IExpr) (body : Code) → fold-Code A step (c.StepLoop var until lo hi stop body) ≡ step (Code-F.StepLoop var until lo hi stop (fold-Code A step body))
  of_step_loop var until lo hi stop body = ap (fold-Code A step) (sym (c.rolls-StepLoop var until lo hi stop body)) ∙ fold-roll-Code A step (Code-F.StepLoop var until lo hi stop body)

  pub of_for_loop : (var : ℕ) (lo hi : IExpr) (body : Code) → fold-Code A step (c.ForLoop var lo hi body) ≡ step (Code-F.ForLoop var lo hi (fold-Code A step body))
  of_for_loop var lo hi body = ap (fold-Code A step) (sym (c.rolls-ForLoop var lo hi body)) ∙ fold-roll-Code A step (Code-F.ForLoop var lo hi body)

  pub of_par_loop : (from to lo hi : ℕ) (ways : List Updated) (body : Code) → fold-Code A step (c.ParLoop from to lo hi ways body) ≡ step (Code-F.ParLoop from to lo hi ways (fold-Code A step body))
  of_par_loop from to lo hi ways body = ap (fold-Code A step) (sym (c.rolls-ParLoop from to lo hi ways body)) ∙ fold-roll-Code A step (Code-F.ParLoop from to lo hi ways body)

  pub of_update : (tensor : ℕ) (at : List IExpr) (by : Reduce) (value : IExpr) → fold-Code A step (c.Update tensor at by value) ≡ step (Code-F.Update tensor at by value)
  of_update tensor at by value = ap (fold-Code A step) (sym (c.rolls-Update tensor at by value)) ∙ fold-roll-Code A step (Code-F.Update tensor at by value)

  pub of_declare : (tensor : ℕ) → fold-Code A step (c.Declare tensor) ≡ step (Code-F.Declare tensor)
  of_declare tensor = ap (fold-Code A step) (sym (c.rolls-Declare tensor)) ∙ fold-roll-Code A step (Code-F.Declare tensor)

  pub of_freeze : (tensor : ℕ) → fold-Code A step (c.Freeze tensor) ≡ step (Code-F.Freeze tensor)
  of_freeze tensor = ap (fold-Code A step) (sym (c.rolls-Freeze tensor)) ∙ fold-roll-Code A step (Code-F.Freeze tensor)

  pub of_thaw : (tensor : ℕ) → fold-Code A step (c.Thaw tensor) ≡ step (Code-F.Thaw tensor)
  of_thaw tensor = ap (fold-Code A step) (sym (c.rolls-Thaw tensor)) ∙ fold-roll-Code A step (Code-F.Thaw tensor)

  pub of_charge : (value : IExpr) → fold-Code A step (c.Charge value) ≡ step (Code-F.Charge value)
  of_charge value = ap (fold-Code A step) (sym (c.rolls-Charge value)) ∙ fold-roll-Code A step (Code-F.Charge value)
