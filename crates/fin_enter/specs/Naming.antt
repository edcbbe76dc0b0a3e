-- The codes of a loop's entry and the looplets of its nest name locals and tensors of each layout that has the
-- program's tensors and as many locals as the entry takes.
use Rattle.std.specs.Prelude.{◌≡◌, ℕ, ◌≤◌, true, length}
use Rattle.std.specs.List.{list_all}
use Rattle.fin_ast.specs.Scope.{Scope, is_access}
use Rattle.fin_ir.specs.declared.layout.Layout.{Layout}
use Rattle.fin_ir.specs.Named.{is_named}
use Rattle.fin_read.specs.Means.{IsWithin}
use Rattle.fin_simp.specs.Rest.{Access, Rest}
use Rattle.fin_enter.specs.EntryCodes.{code_by}
use Rattle.fin_enter.specs.LoopEntry.{behind_by, looplets_by}
use Rattle.fin_enter.specs.Masked.{tested_among, AllCanBound}
use Rattle.fin_enter.specs.NamedLooplets.{AllNamedLooplets}
use Rattle.fin_enter.specs.Together.{Around}

-- what remains of the loop's body has good names in a scope, whose variables are so many and have locals before the
-- first free one
pub record CanName (layout : Layout) (l : Around) (sc : Scope) (rest : Rest) (next : ℕ) : Type 0 where
  pub headers : sc.headers ≡ l.heads.headers
  pub tensors : length l.heads.headers ≤ length layout.formats
  pub count : ℕ
  pub within : IsWithin sc count
  pub after : count ≤ next
  pub reads : list_all (λ (a : Access). is_access sc a.tensor a.at) rest.reads ≡ true
  pub tests : AllCanBound sc l.var (tested_among l.var rest.tests)
  pub room : behind_by l rest.reads rest.tests next ≤ layout.locals

-- for a loop with so many chunks
abbrev pub EntriesAreNamed : Type 0
EntriesAreNamed = (layout : Layout) (l : Around) (sc : Scope) (rest : Rest) (chunks next : ℕ)
    → CanName layout l sc rest next → (list_all (is_named layout) (code_by l rest chunks next) ≡ true)
    × AllNamedLooplets layout (looplets_by l rest.reads rest.tests next)
