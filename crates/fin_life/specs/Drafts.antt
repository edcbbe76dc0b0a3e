-- A completed body so far, with the modes at its end.
use Rattle.std.specs.Prelude.{ℕ, ◌+◌, not, ◌&&◌, if◌then◌else◌, List, [], ◌∷◌, ◌++◌}
use Rattle.fin_ast.specs.declared.header.Header.{Header}
use Rattle.fin_ast.specs.declared.mode.Mode.TheVariants.{Update, Read}
use Rattle.fin_ast.specs.declared.tree.Stmt.{Stmt}
use Rattle.fin_ast.specs.declared.tree.Stmt.TheVariants.{Freeze, Thaw}
use Rattle.fin_ast.specs.Kinds.{is_output}
use Rattle.fin_ast.specs.Life.{is_update, is_read}
use Rattle.fin_ast.specs.Modes.{is_input_at}
use Rattle.fin_life.specs.Passage.{ModeOf, turned}
use Rattle.fin_life.specs.Mentions.{MentionOf, only_reads_of, only_updates_of}
use Rattle.fin_life.specs.Table.{mode_in}
use Rattle.fin_life.specs.declared.insertion.Draft.{Draft as Table}

pub record Carried : Type 0 where
  pub statements : List Stmt
  pub modes : ModeOf

-- nothing, with the modes before a body
abbrev pub begun : ModeOf → Carried
begun now = record { statements = []; modes = now }

abbrev pub carried_in : Table → Carried
carried_in d = record { statements = d.statements; modes = mode_in d.modes }

abbrev pub frozen : ℕ → ℕ → Carried → Carried
frozen tensor line d = record { statements = d.statements ++ Freeze tensor line ∷ []; modes = turned d.modes tensor Read }

abbrev pub thawed : ℕ → ℕ → Carried → Carried
thawed tensor line d = record { statements = d.statements ++ Thaw tensor line ∷ []; modes = turned d.modes tensor Update }

abbrev pub put_one : List Header → MentionOf → ℕ → ℕ → Carried → Carried
put_one headers mentions line tensor d =
    if is_update (d.modes tensor) && only_reads_of (mentions tensor) then frozen tensor line d
    else if is_read (d.modes tensor) && not (is_input_at headers tensor) && only_updates_of (mentions tensor) then thawed tensor line d
    else d

abbrev pub put_last : ℕ → ℕ → Header → Carried → Carried
put_last line tensor h d = if is_output h.kind && is_update (d.modes tensor) then frozen tensor line d else d

abbrev pub in_turn : (ℕ → Header → Carried → Carried) → ℕ → List Header → Carried → Carried
in_turn step n [] d = d
in_turn step n (h ∷ hs) d = in_turn step (n + 1) hs (step n h d)
