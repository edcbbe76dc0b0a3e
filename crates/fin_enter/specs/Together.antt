-- The steps of all driven reads of a loop that stand before its body is run, one after another.
use Rattle.std.specs.Prelude.{◌≡◌, ℕ, ◌+◌, ◌<◌, ◌≤◌, true, if◌then◌else◌, List, [], ◌∷◌, ◌++◌, length, map, ℤ, Option, Some, None}
use Rattle.std.specs.List.{list_all}
use Rattle.fin_tensor.specs.declared.part.Part.{Part}
use Rattle.fin_tensor.specs.Levels.{IsStored}
use Rattle.fin_ast.specs.declared.tree.Index.{Index}
use Rattle.fin_ast.specs.Scope.{Scope, is_index}
use Rattle.fin_ast.specs.Value.{Numbers}
use Rattle.fin_ir.specs.declared.expression.IExpr.{IExpr}
use Rattle.fin_ir.specs.Frozen.{Frozen}
use Rattle.fin_ir.specs.Machine.{stored}
use Rattle.fin_looplet.specs.View.{Store}
use Rattle.fin_read.specs.Steps.{Step, stepped, Agree}
use Rattle.fin_read.specs.Values.{Heads, format_of, shape_of, index_code}
use Rattle.fin_simp.specs.Rest.{Access}
use Rattle.fin_simp.specs.Sights.{driven_index, stand_at}
use Rattle.fin_simp.specs.Work.{is_in}
use Rattle.fin_drive.specs.Entries.{IsFound}
use Rattle.fin_enter.specs.Positions.{position_steps, spot_in}
use Rattle.fin_enter.specs.Indices.{AreAround, small_offsets}

-- a loop's variable, and the tensors that its body declares, updates, freezes or thaws
pub record Around : Type 0 where
  pub heads : Heads
  pub var : ℕ
  pub changed : List ℕ

-- the driven index of a read that stands before the body is run
abbrev pub settled_index : Around → Access → Option (ℕ × Index)
settled_index l a = if is_in l.changed a.tensor then None else driven_index l.var a.at

abbrev pub steps_of : Heads → Access → Option (ℕ × Index) → ℕ → List Step
steps_of h a None at = []
steps_of h a (Some d) at = position_steps a.tensor (format_of h a.tensor).levels (shape_of h a.tensor) (map index_code a.at) d.0 at

abbrev pub behind_place : Option (ℕ × Index) → ℕ → ℕ
behind_place None at = at
behind_place (Some d) at = at + 1

-- each has a local of its own; the steps of one use the local behind it, which is then that of the next
abbrev pub all_positions : Around → List Access → ℕ → List Step
all_positions l [] at = []
all_positions l (a ∷ reads) at = steps_of l.heads a (settled_index l a) at ++ all_positions l reads (behind_place (settled_index l a) at)

-- the first local behind them
abbrev pub behind_all : Around → List Access → ℕ → ℕ
behind_all l [] at = at
behind_all l (a ∷ reads) at = behind_all l reads (behind_place (settled_index l a) at)

-- ---- what is asked

-- the tensor is frozen with these parts, and the access is named in a scope
pub record CanStand (ts : Store) (h : Heads) (parts : ℕ → List Part) (sc : Scope) (a : Access) : Type 0 where
  pub frozen : Frozen
  pub is : ts a.tensor ≡ stored frozen
  pub shape : frozen.shape ≡ shape_of h a.tensor
  pub parts_are : frozen.parts ≡ parts a.tensor
  pub valid : IsStored 1 (format_of h a.tensor).levels frozen.shape frozen.parts frozen.val
  pub each : length a.at ≡ length (format_of h a.tensor).levels
  pub named : list_all (is_index sc) a.at ≡ true
  pub small : small_offsets a.at ≡ true

abbrev pub CanBePlaced : Store → Heads → (ℕ → List Part) → Scope → Access → Option (ℕ × Index) → Type 0
CanBePlaced ts h parts sc a None = Unit {0}
CanBePlaced ts h parts sc a (Some d) = CanStand ts h parts sc a

abbrev pub AllCanStand : Store → Around → (ℕ → List Part) → Scope → List Access → Type 0
AllCanStand ts l parts sc [] = Unit {0}
AllCanStand ts l parts sc (a ∷ reads) = CanBePlaced ts l.heads parts sc a (settled_index l a) × AllCanStand ts l parts sc reads

-- ---- what is left

abbrev pub FoundIn : Store → List ℤ → Heads → (ℕ → List Part) → Numbers → Access → Option (ℕ × Index) → ℕ → Type 0
FoundIn ts ls h parts vars a None at = Unit {0}
FoundIn ts ls h parts vars a (Some d) at = (by : IExpr) → IsFound ts ls (spot_in at by) (stand_at vars (shape_of h a.tensor) (parts a.tensor) a.at d.0 (Some 0))

abbrev pub AllFound : Store → List ℤ → Around → (ℕ → List Part) → Numbers → List Access → ℕ → Type 0
AllFound ts ls l parts vars [] at = Unit {0}
AllFound ts ls l parts vars (a ∷ reads) at = FoundIn ts ls l.heads parts vars a (settled_index l a) at × AllFound ts ls l parts vars reads (behind_place (settled_index l a) at)

-- the locals before the first are as they were, and the spots are found wherever they and these are kept
pub record ArePlaced (ts : Store) (l : Around) (parts : ℕ → List Part) (vars : Numbers) (reads : List Access) (at : ℕ) (ls : List ℤ) : Type 0 where
  pub long : length (stepped ts (all_positions l reads at) ls) ≡ length ls
  pub kept : Agree at (stepped ts (all_positions l reads at) ls) ls
  pub found : (ks : List ℤ) → Agree (behind_all l reads at) ks (stepped ts (all_positions l reads at) ls) → AllFound ts ks l parts vars reads at

abbrev pub AllPositionsAreFound : Type 0
AllPositionsAreFound = (ts : Store) (l : Around) (parts : ℕ → List Part) (sc : Scope) (vars : Numbers) (reads : List Access) (at : ℕ) (ls : List ℤ)
    → AreAround sc l.var vars ls → l.var ≤ at → AllCanStand ts l parts sc reads → behind_all l reads at < length ls
    → ArePlaced ts l parts vars reads at ls
