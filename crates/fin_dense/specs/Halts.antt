-- What is told where an evaluation stops early.
use Rattle.fin_base.specs.declared.refusal.Fail.{Fail}
use Rattle.fin_base.specs.declared.refusal.Fail.TheVariants as fail
use Rattle.fin_base.specs.declared.refusal.Rule.TheVariants.{B2}
use Rattle.fin_dense.specs.declared.halt.Halt.{Halt}
use Rattle.fin_dense.specs.declared.halt.Halt.TheVariants.{Spent, Memory}

abbrev pub fail_of : Halt → Fail
fail_of Spent = fail.Refused (record { rule = B2; line = 0 })
fail_of (Memory a) = fail.Memory a
