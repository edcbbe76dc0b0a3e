-- The first of breaches in two lists.
use Rattle.std.proofs.Common.{◌≡◌, true, false, List, [], ◌∷◌, ◌++◌, Option, Some, None, refl}
use Rattle.std.specs.Option.{is_some}
use Rattle.fin_base.specs.declared.refusal.Refusal.{Refusal}
use Rattle.fin_parse.specs.Names.{first_of}

-- it is the first one's, where that has one
pub first_found : (a b : List Refusal) (o : Option Refusal) → true ≡ is_some o → o ≡ first_of a → o ≡ first_of (a ++ b)
first_found [] b None h k = cc
first_found [] b (Some r) h k = cc
first_found (x ∷ a) b o h k = k

-- and else the second one's
pub first_passed : (a b : List Refusal) (o : Option Refusal) → false ≡ is_some o → o ≡ first_of a → first_of (a ++ b) ≡ first_of b
first_passed [] b o h k = refl
first_passed (x ∷ a) b None h k = cc
first_passed (x ∷ a) b (Some r) h k = cc
