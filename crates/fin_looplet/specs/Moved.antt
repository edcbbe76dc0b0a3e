-- A looplet moved up, with every shift inside it done.
use Rattle.std.specs.Prelude.{ℕ, ◌+◌, ◌^◌, nat_eq, if◌then◌else◌, negsuc}
use Rattle.fin_base.specs.declared.terms.Op.TheVariants as op
use Rattle.fin_ir.specs.declared.expression.IExpr.{IExpr, fold-IExpr, roll-IExpr}
use Rattle.fin_ir.specs.declared.expression.IExpr.TheOpen.{IExpr-F}
use Rattle.fin_ir.specs.declared.expression.IExpr.TheVariants.{Num, Local, Two}
use Rattle.fin_looplet.specs.declared.looplet.Case.{Case}
use Rattle.fin_looplet.specs.declared.looplet.Leaf.{Leaf}
use Rattle.fin_looplet.specs.declared.looplet.Leaf.TheVariants.{Fill, Value, Sub}
use Rattle.fin_looplet.specs.declared.looplet.Looplet.{Looplet, Row_of-Phase, end_of-Phase, more_of-Phase, Row_of-Walker, end_of-Walker, more_of-Walker, Row_of-Case, end_of-Case, more_of-Case, end_of-Looplet, more_of-Looplet}
use Rattle.fin_looplet.specs.declared.looplet.Looplet.TheVariants.{Run, Spike, Lookup, Sequence', Stepper', Jumper', Switch', Shift'}
use Rattle.fin_looplet.specs.declared.looplet.Phase.{Phase}
use Rattle.fin_looplet.specs.declared.looplet.Walker.{Walker}
use Rattle.fin_looplet.specs.Cut.{plus, minus, cap}

-- brought between -2^43 and 2^43: no coordinate of a region is beyond, and small numbers can be added to it
abbrev pub clip : IExpr → IExpr
clip e = Two op.Max (cap e) (Num (negsuc (2 ^ 43)))

-- ---- an expression with another one for a local

abbrev pub put_step : ℕ → IExpr → IExpr-F IExpr → IExpr
put_step x e' (IExpr-F.Num n) = roll-IExpr (IExpr-F.Num n)
put_step x e' (IExpr-F.Local y) = if nat_eq y x then e' else Local y
put_step x e' (IExpr-F.Neg a) = roll-IExpr (IExpr-F.Neg a)
put_step x e' (IExpr-F.Two op a b) = roll-IExpr (IExpr-F.Two op a b)
put_step x e' (IExpr-F.Pick a b c) = roll-IExpr (IExpr-F.Pick a b c)
put_step x e' (IExpr-F.Times by a b) = roll-IExpr (IExpr-F.Times by a b)
put_step x e' (IExpr-F.Cell tensor level table a) = roll-IExpr (IExpr-F.Cell tensor level table a)
put_step x e' (IExpr-F.Seek tensor level a b c) = roll-IExpr (IExpr-F.Seek tensor level a b c)
put_step x e' (IExpr-F.Val tensor a) = roll-IExpr (IExpr-F.Val tensor a)

abbrev pub put : ℕ → IExpr → IExpr → IExpr
put x e' = fold-IExpr IExpr (put_step x e')

abbrev pub put_leaf : ℕ → IExpr → Leaf → Leaf
put_leaf x e' (Fill f) = Fill f
put_leaf x e' (Value e) = Value (put x e' e)
put_leaf x e' (Sub tensor level place there) = Sub tensor level (put x e' place) (put x e' there)

-- the local less the distance
abbrev pub lowered : ℕ → IExpr → IExpr
lowered x by = minus (Local x) by

-- the stop, brought into range, and the distance
abbrev pub raised : IExpr → IExpr → IExpr
raised by stop = plus (clip stop) by

-- ---- looplets

abbrev mutual
  pub moved : IExpr → Looplet → Looplet
  moved by (Run leaf) = Run leaf
  moved by (Spike body tail) = Spike body tail
  moved by (Lookup coord leaf) = Lookup coord (put_leaf coord (lowered coord by) leaf)
  moved by (Sequence' n phases) = Sequence' n (moved_phases by phases)
  moved by (Stepper' p walker) = Stepper' p (moved_walker by walker)
  moved by (Jumper' p walker) = Jumper' p (moved_walker by walker)
  moved by (Switch' n cases) = Switch' n (moved_cases by cases)
  moved by (Shift' inner p (more_of-Looplet child end_of-Looplet)) = moved (plus by inner) child

  pub moved_phases : {n : _} → IExpr → Row_of-Phase n → Row_of-Phase n
  moved_phases by end_of-Phase = end_of-Phase
  moved_phases by (more_of-Phase stop child rest) = more_of-Phase (raised by stop) (moved by child) (moved_phases by rest)

  pub moved_walker : {n : _} → IExpr → Row_of-Walker n → Row_of-Walker n
  moved_walker by end_of-Walker = end_of-Walker
  moved_walker by (more_of-Walker cursor seek stop child rest) =
      more_of-Walker cursor (put (cursor + 1) (lowered (cursor + 1) by) seek) (raised by stop) (moved by child) (moved_walker by rest)

  pub moved_cases : {n : _} → IExpr → Row_of-Case n → Row_of-Case n
  moved_cases by end_of-Case = end_of-Case
  moved_cases by (more_of-Case test child rest) = more_of-Case test (moved by child) (moved_cases by rest)

abbrev pub moved_phase : IExpr → Phase → Phase
moved_phase by p = record { stop = raised by p.stop; child = moved by p.child }

abbrev pub moved_one : IExpr → Walker → Walker
moved_one by w = record { cursor = w.cursor; seek = put (w.cursor + 1) (lowered (w.cursor + 1) by) w.seek; stop = raised by w.stop; child = moved by w.child }

abbrev pub moved_case : IExpr → Case → Case
moved_case by c = record { test = c.test; child = moved by c.child }
