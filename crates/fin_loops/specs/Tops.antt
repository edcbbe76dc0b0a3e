-- The nest of a loop as its entry makes it, and that it keeps out of what is around the loop.
use Rattle.std.specs.Prelude.{◌≡◌, ◌⊎◌, ℕ, ◌+◌, ◌≤◌, Bool, true, ◌&&◌, nat_le, nat_lt, List, length, ℤ, Option}
use Rattle.std.specs.List.{list_all}
use Rattle.fin_ast.specs.declared.tree.Index.{Index}
use Rattle.fin_ast.specs.Bindings.{counts_from}
use Rattle.fin_ast.specs.Scope.{differ}
use Rattle.fin_ir.specs.declared.expression.IExpr.{IExpr}
use Rattle.fin_ir.specs.declared.expression.IExpr.TheVariants.{Num, Local}
use Rattle.fin_looplet.specs.declared.looplet.Looplet.{Looplet}
use Rattle.fin_nest.specs.Jumping.{NoneHolds}
use Rattle.fin_simp.specs.Rest.{Access}
use Rattle.fin_style_point.specs.declared.nest.Nest.{Nest}
use Rattle.fin_style_point.specs.Parts.{all_looplets}
use Rattle.fin_enter.specs.Together.{Around}
use Rattle.fin_enter.specs.LoopEntry.{cursors_by, behind_by, looplets_by}
use Rattle.fin_perform.specs.Layouts.{heads_in, variables_in}
use Rattle.fin_loops.specs.Loops.{Loop, bound_in, rest_entered}
use Rattle.fin_loops.specs.Entering.{stmt_of, AreSeparate}
use Rattle.fin_loops.specs.Keeping.{KeepsOut}

-- ---- the entry's looplets and locals, from a first free local on

abbrev pub around_of : Loop → Around
around_of l = record { heads = heads_in l.checked; var = l.var; changed = (rest_entered l).changed }

abbrev pub looplets_from : Loop → ℕ → List Looplet
looplets_from l next = looplets_by (around_of l) (rest_entered l).reads (rest_entered l).tests next

-- the looplets own the locals from the one on and before the other
abbrev pub own_first : Loop → ℕ → ℕ
own_first l next = cursors_by (around_of l) (rest_entered l).reads (rest_entered l).tests next

abbrev pub own_end : Loop → ℕ → ℕ
own_end l next = behind_by (around_of l) (rest_entered l).reads (rest_entered l).tests next

abbrev pub own_from : ℕ → ℕ → ℕ → Bool
own_from first end y = nat_le first y && nat_lt y end

-- ---- the nest

-- numbers, or the two locals of a chunk behind the entry's own
abbrev pub AreEnds : ℕ → ℕ → IExpr → IExpr → Type 0
AreEnds behind next lo hi =
    ((a : ℤ) × (b : ℤ) × (lo ≡ Num a) × (hi ≡ Num b)) ⊎ ((y : ℕ) × (behind ≤ y) × (y + 2 ≤ next) × (lo ≡ Local y) × (hi ≡ Local (y + 1)))

-- of the loop as its entry makes it
pub record IsTop (l : Loop) (next : ℕ) (top : Nest) : Type 0 where
  pub var : top.var ≡ l.var
  pub looplets : all_looplets top ≡ looplets_from l next
  pub room : own_end l next ≤ top.next
  pub ends : AreEnds (own_end l next) top.next top.lo top.hi

-- ---- what is asked of the loop

-- the variables are numbered in the order in which they are bound, and there are so many
pub record IsNumbered (l : Loop) (next : ℕ) : Type 0 where
  pub counts : counts_from l.var (bound_in l) ≡ true
  pub bound : l.var + length (bound_in l) ≤ variables_in l.checked
  pub free : variables_in l.checked ≤ next

-- no index of a read that remains names a variable twice
abbrev pub names_once : Access → Bool
names_once a = list_all (λ (i : Index). differ i.first i.second) a.at

abbrev pub NamesOnce : Loop → Type 0
NamesOnce l = list_all names_once (rest_entered l).reads ≡ true

-- ---- the laws

abbrev pub TopsKeepOut : Type 0
TopsKeepOut = (l : Loop) (next : ℕ) (top : Nest) → IsNumbered l next → NamesOnce l → IsTop l next top
    → KeepsOut l next top (own_from (own_first l next) (own_end l next))

abbrev pub TopsHoldNoJumpers : Type 0
TopsHoldNoJumpers = (l : Loop) (next : ℕ) (top : Nest) → IsTop l next top → NoneHolds (all_looplets top)

-- wherever the loop may stand its names are good, so that none stands twice in an index
abbrev pub TopsAreSeparate : Type 0
TopsAreSeparate = (l : Loop) (range : Option (ℕ × ℕ)) (par : Bool) (line last next : ℕ) (top : Nest) → IsNumbered l next → IsTop l next top
    → AreSeparate l (stmt_of l range par line last) next top
