-- A looplet whose region ended at an expression, as one for any region that ends before it.
use Rattle.std.specs.Prelude.{◌^◌, List, [], ◌∷◌, pos, negsuc}
use Rattle.fin_base.specs.declared.terms.Op.TheVariants as op
use Rattle.fin_ir.specs.declared.expression.IExpr.{IExpr}
use Rattle.fin_ir.specs.declared.expression.IExpr.TheVariants.{Num, Two}
use Rattle.fin_looplet.specs.declared.looplet.Case.{Case}
use Rattle.fin_looplet.specs.declared.looplet.Leaf.{Leaf}
use Rattle.fin_looplet.specs.declared.looplet.Looplet.{Looplet, Row_of-Case, end_of-Case, more_of-Case, end_of-Looplet, more_of-Looplet}
use Rattle.fin_looplet.specs.declared.looplet.Looplet.TheVariants.{Run, Spike, Lookup, Sequence, Sequence', Stepper', Jumper', Switch, Switch', Shift, Shift'}

-- ---- expressions

abbrev pub plus : IExpr → IExpr → IExpr
plus a b = Two op.Add a b

abbrev pub minus : IExpr → IExpr → IExpr
minus a b = Two op.Sub a b

abbrev pub before : IExpr → IExpr
before e = plus e (Num (negsuc 0))

-- at most 2^43, which is over each coordinate that a region has, so that small numbers can be taken off it
abbrev pub cap : IExpr → IExpr
cap e = Two op.Min e (Num (pos (2 ^ 43)))

-- ---- looplets

abbrev pub two_runs : IExpr → Leaf → Leaf → Looplet
two_runs e body tail = Sequence (record { stop = before e; child = Run body } ∷ record { stop = e; child = Run tail } ∷ [])

-- Only a spike looks at the end of its region.
abbrev mutual
  pub cut : IExpr → Looplet → Looplet
  cut e (Run leaf) = Run leaf
  cut e (Spike body tail) = two_runs (cap e) body tail
  cut e (Lookup coord leaf) = Lookup coord leaf
  cut e (Sequence' n phases) = Sequence' n phases
  cut e (Stepper' p walker) = Stepper' p walker
  cut e (Jumper' p walker) = Jumper' p walker
  cut e (Switch' n cases) = Switch (cut_cases e cases)
  cut e (Shift' by p (more_of-Looplet child end_of-Looplet)) = Shift by (cut (minus (cap e) by) child)

  pub cut_cases : {n : _} → IExpr → Row_of-Case n → List Case
  cut_cases e end_of-Case = []
  cut_cases e (more_of-Case test child rest) = record { test = test; child = cut e child } ∷ cut_cases e rest

abbrev pub cut_case : IExpr → Case → Case
cut_case e c = record { test = c.test; child = cut e c.child }
