-- Where there is no first breach, none of its parts has one.
use Rattle.std.proofs.Common.{◌≡◌, ℕ, Bool, true, false, Option, Some, None, refl}
use Rattle.std.specs.Option.{option_or}
use Rattle.fin_base.specs.declared.refusal.Rule.{Rule}
use Rattle.fin_ast.specs.Sizes.{broken}

pub first_none : {A : Type 0} (a b : Option A) → option_or a b ≡ None → a ≡ None
first_none None b e = refl
first_none (Some r) b e = e

pub second_none : {A : Type 0} (a b : Option A) → option_or a b ≡ None → b ≡ None
second_none None b e = e
second_none (Some r) b e = cc

pub unbroken : (b : Bool) (rule : Rule) (line : ℕ) → broken b rule line ≡ None → b ≡ false
unbroken true rule line e = cc
unbroken false rule line e = refl
