-- The steps to the positions of a loop's driven reads, for what the code has of the loop and of its reads.
use Rattle.std.specs.Prelude.{ℕ, List, map, Option}
use Rattle.fin_ast.specs.declared.tree.Index.{Index}
use Rattle.fin_simp.specs.declared.expr_rest.Access.{Access}
use Rattle.fin_simp.specs.Sights.{driven_index}
use Rattle.fin_simp.specs.Gathered.{as_access}
use Rattle.fin_read.specs.Steps.{Step}
use Rattle.fin_read.specs.Values.{Heads, format_of, shape_of, index_code}
use Rattle.fin_enter.specs.declared.body.LoopBody.{LoopBody}
use Rattle.fin_enter.specs.Positions.{position_steps}
use Rattle.fin_enter.specs.Together.{Around, settled_index, steps_of, behind_place, all_positions, behind_all}
use Rattle.fin_enter.specs.LoopEntry.{behind_cursor}

abbrev pub as_around : LoopBody → Around
as_around l = record { heads = l.heads.now; var = l.var; changed = l.changed.now }

-- to the position at a level of an access
abbrev pub steps_to : Heads → Access → ℕ → ℕ → List Step
steps_to h a k at = position_steps a.tensor (format_of h a.tensor).levels (shape_of h a.tensor) (map index_code a.at) k at

abbrev pub settled_in : LoopBody → Access → Option (ℕ × Index)
settled_in l a = settled_index (as_around l) (as_access a)

abbrev pub steps_in : LoopBody → Access → ℕ → List Step
steps_in l a at = steps_of l.heads.now (as_access a) (settled_in l a) at

-- behind the local of its position, and behind those that its looplet owns
abbrev pub behind_in : LoopBody → Access → ℕ → ℕ
behind_in l a at = behind_place (settled_in l a) at

abbrev pub behind_own : LoopBody → Access → ℕ → ℕ
behind_own l a cursor = behind_cursor (driven_index l.var a.at) cursor

-- of all, one after another
abbrev pub positions_in : LoopBody → List Access → ℕ → List Step
positions_in l reads at = all_positions (as_around l) (map as_access reads) at

abbrev pub behind_positions : LoopBody → List Access → ℕ → ℕ
behind_positions l reads at = behind_all (as_around l) (map as_access reads) at
