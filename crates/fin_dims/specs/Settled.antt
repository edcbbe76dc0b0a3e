-- Ties that are settled one after another.
use Rattle.std.specs.Prelude.{◌≡◌, ◌<◌, ◌+◌, ℕ, [], List, length, take, slice_index_or, Option, MatchOption}
use Rattle.fin_base.specs.declared.refusal.Refusal.{Refusal}
use Rattle.fin_base.specs.declared.refusal.Fail.{Fail}
use Rattle.fin_base.specs.declared.refusal.Fail.TheVariants.{Memory, Refused}
use Rattle.fin_ast.specs.declared.place.Tie.{Tie}
use Rattle.fin_ast.specs.Ties.{Node, Shapes, IsUneven}
use Rattle.fin_dims.specs.declared.classes.Classes.{Classes}
use Rattle.fin_dims.specs.Classes.{AreSettled, label_of, number_at}

-- the tie k is the first with which the ties join unequal numbers
pub record BreaksAt (shapes : Shapes) (ties : List Tie) (k line : ℕ) : Type 0 where
  pub within : k < length ties
  pub on_line : (t : Tie) → (slice_index_or ties k t).line ≡ line
  pub even : ¬ IsUneven shapes (take k ties)
  pub uneven : IsUneven shapes (take (k + 1) ties)

-- all ties are settled, or the first that breaks is on that line
abbrev pub Settles : List Tie → Classes → Classes → Option ℕ → Type 0
Settles ties old new breaks = (shapes : Shapes) → AreSettled shapes [] old → MatchOption breaks (AreSettled shapes ties new) (λ line. (k : ℕ) × BreaksAt shapes ties k line)

-- the number of a node by its class
abbrev pub extent_of : Classes → Node → Option ℕ
extent_of c a = number_at c.numbers.items (label_of c.anchors.items c.labels.items a)

-- what holds of a refusal, where there is one
abbrev pub IfRefused : Fail → (Refusal → Type 0) → Type 0
IfRefused (Memory e) P = Unit {0}
IfRefused (Refused r) P = P r
