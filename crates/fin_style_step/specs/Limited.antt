-- What is known of an expression's value by how it is written, and so of the ends of a sequence's parts: a region whose
-- ends are known to be the wrong way round has no coordinate.
use Rattle.std.specs.Prelude.{ℕ, ◌^◌, Bool, false, if◌then◌else◌, Option, Some, None, ℤ, pos, int_le}
use Rattle.std.specs.Int.{int_min, int_max}
use Rattle.std.specs.Ordering.{int_eq}
use Rattle.fin_base.specs.declared.terms.Op.{Op}
use Rattle.fin_base.specs.declared.terms.Op.TheVariants as op
use Rattle.fin_base.specs.Words.{operate}
use Rattle.fin_ir.specs.declared.expression.IExpr.{IExpr, fold-IExpr}
use Rattle.fin_ir.specs.declared.expression.IExpr.TheOpen.{IExpr-F}
use Rattle.fin_ir.specs.declared.expression.IExpr.TheVariants.{Num, Local, Two}
use Rattle.fin_style_step.specs.declared.limits.Limits.{Limits}

-- ---- limits

abbrev pub unlimited : Limits
unlimited = record { least = None; most = None }

abbrev pub exactly : Option ℤ → Limits
exactly n = record { least = n; most = n }

-- where both are known, and where one of them is
abbrev pub of_both : (ℤ → ℤ → ℤ) → Option ℤ → Option ℤ → Option ℤ
of_both f None b = None
of_both f (Some a) None = None
of_both f (Some a) (Some b) = Some (f a b)

abbrev pub of_any : (ℤ → ℤ → ℤ) → Option ℤ → Option ℤ → Option ℤ
of_any f None b = b
of_any f (Some a) None = Some a
of_any f (Some a) (Some b) = Some (f a b)

-- the one number that lies within them
abbrev pub same_number : Option ℤ → Option ℤ → Option ℤ
same_number None b = None
same_number (Some a) None = None
same_number (Some a) (Some b) = if int_eq a b then Some a else None

abbrev pub only : Limits → Option ℤ
only l = same_number l.least l.most

-- what two expressions have, by an operator
abbrev pub limits_two : Op → Limits → Limits → Limits
limits_two op.Min a b = record { least = of_both int_min a.least b.least; most = of_any int_min a.most b.most }
limits_two op.Max a b = record { least = of_any int_max a.least b.least; most = of_both int_max a.most b.most }
limits_two o a b = exactly (of_both (operate o) (only a) (only b))

abbrev pub limits_step : IExpr-F Limits → Limits
limits_step (IExpr-F.Num n) = exactly (Some n)
limits_step (IExpr-F.Two o left right) = limits_two o left right
limits_step e = unlimited

abbrev pub limits_of : IExpr → Limits
limits_of = fold-IExpr Limits limits_step

-- ---- the ends of parts, which meet in a local

-- at most that number, which no end of a region needs below 0; at least that, which none needs over 2^40
abbrev pub capped : Option ℤ → IExpr → IExpr
capped None e = e
capped (Some n) e = Two op.Min e (Num (int_max n (pos 0)))

abbrev pub raised : Option ℤ → IExpr → IExpr
raised None e = e
raised (Some n) e = Two op.Max e (Num (int_min n (pos (2 ^ 40))))

abbrev pub end_before : IExpr → IExpr → ℕ → IExpr
end_before hi stop local = capped (of_any int_min (limits_of hi).most (limits_of stop).most) (Local local)

abbrev pub begin_behind : IExpr → IExpr → ℕ → IExpr
begin_behind lo stop local = raised (of_any int_max (limits_of lo).least (limits_of stop).least) (Local local)

-- ---- regions without coordinates

abbrev pub is_under : Option ℤ → Option ℤ → Bool
is_under None b = false
is_under (Some a) None = false
is_under (Some a) (Some b) = int_le a b

-- by what is known of its ends
abbrev pub is_void : IExpr → IExpr → Bool
is_void lo hi = is_under (limits_of hi).most (limits_of lo).least
