-- Codes that leave what is around a statement as it is, in any machine, as can be seen from the codes.
use Rattle.std.specs.Prelude.{◌≡◌, ℕ, ◌≤◌, Bool, true, false, not, ◌&&◌, nat_lt, List, map}
use Rattle.fin_ast.specs.declared.tree.Stmt.{Stmt}
use Rattle.fin_ast.specs.Bindings.{bindings_of}
use Rattle.fin_ast.specs.Scope.{is_among}
use Rattle.fin_ir.specs.declared.code.Code.{Code}
use Rattle.fin_nest.specs.Sparing.{Staying, all_spare, spares}
use Rattle.fin_simp.specs.Numbered.{Here}
use Rattle.fin_simp.specs.Work.{Context}
use Rattle.fin_perform.specs.Places.{changes}
use Rattle.fin_loops.specs.Loops.{Loop}
use Rattle.fin_loops.specs.Entering.{SparesAll}
use Rattle.fin_loops.specs.Sourced.{entry_code_of}

-- what stays around a statement: the locals below a first one that it doesn't bind, and the tensors that what is left of
-- it doesn't change
abbrev pub around_stmt : Stmt → Here → Context → ℕ → Staying
around_stmt x h ctx next = record { locals = λ y. nat_lt y next && not (is_among (bindings_of x) y); tensors = λ t. not (changes x h ctx t) }

abbrev pub CodesSpare : Type 0
CodesSpare = (x : Stmt) (h : Here) (ctx : Context) (next : ℕ) (cs : List Code) → all_spare (map (spares (around_stmt x h ctx next)) cs) ≡ true → SparesAll x h ctx next cs

-- whatever is to stay of the locals before the first free one and of the tensors, the codes of a loop's entry spare it
abbrev pub EntriesSpare : Type 0
EntriesSpare = (l : Loop) (par : Bool) (next : ℕ) (s : Staying) → ((y : ℕ) → next ≤ y → s.locals y ≡ false)
    → all_spare (map (spares s) (entry_code_of l par next)) ≡ true
