-- What the steps of nests ask of a body, of the one that goes by what is seen.
use Rattle.std.specs.Prelude.{◌≡◌, true, false, ℤ, pos, ◌+ℤ◌, List, Some}
use Rattle.fin_ast.specs.Value.{Numbers}
use Rattle.fin_stage.specs.Staged.{Run, worked}
use Rattle.fin_looplet.specs.View.{Store}
use Rattle.fin_looplet.specs.Lists.{seens, any_ends}
use Rattle.fin_nest.specs.Related.{Start}
use Rattle.fin_nest.specs.Jumping.{AllSimplyJump}
use Rattle.fin_nest.specs.Nests.{Nest, Body, views_of, Passes, Jumps}
use Rattle.fin_nest.specs.Laws.{Onward, Flagless, AtPoints, Nothing}
use Rattle.fin_nest.specs.Senses.{runs, turns, Tallied, Advances}
use Rattle.fin_nest.specs.Both.{in_run}
use Rattle.fin_simp.specs.Left.{Marks}
use Rattle.fin_simp.specs.Rest.{is_none_kind}
use Rattle.fin_simp.specs.Work.{World, is_one_update, costing, all_of, rests_in}
use Rattle.fin_simp.specs.Moving.{worked_all}
use Rattle.fin_simp.specs.Numbered.{Here}
use Rattle.fin_ast.specs.declared.tree.Stmt.{Stmt}
use Rattle.fin_drive.specs.Turns.{Watched, rest_seen, is_fixed_seen, seen_turn}

-- the same over tallies
abbrev pub tallied_turn : Watched → Body Tallied
tallied_turn x ss begins i = in_run (seen_turn x ss begins i)

-- ---- what is asked of the statements

-- they take back no work, and nothing that the run was asked for
abbrev pub GoesOn : Watched → Type 0
GoesOn x = (m : Marks) (vars : Numbers) (r : Run) → Advances r (x.body m vars r)

-- where a single update is left they are that update, whose own work is 1
abbrev pub UpdatesOnce : Watched → Type 0
UpdatesOnce x = (m : Marks) (vars : Numbers) (r : Run) → is_one_update (x.rest m).kind ≡ true
    → costing 2 r (x.body m vars r) ≡ x.body m vars (worked 1 r)

-- ---- what is seen along a nest

-- nowhere is the body a single update that is the same at each coordinate of the piece
abbrev pub NeverFixed : {S : Type 0} → Watched → Nest S → Type 0
NeverFixed x n = (ts : Store) (ls : List ℤ) (i : ℤ)
    → is_fixed_seen x (seens (views_of ts ls n i)) (rest_seen x (seens (views_of ts ls n i))) ≡ false

-- nothing is left of the body
abbrev pub NothingSeen : {S : Type 0} → Watched → Nest S → Type 0
NothingSeen x n = (ts : Store) (ls : List ℤ) (i : ℤ) → is_none_kind (rest_seen x (seens (views_of ts ls n i))).kind ≡ true

-- ---- the laws

-- what is cut stands for what the body makes of its state
abbrev pub BodiesGoOn : Type 0
BodiesGoOn = (s : Start) (x : Watched) → GoesOn x → Onward (runs s) (seen_turn x) × Onward (turns s) (tallied_turn x)

-- where a part begins it is the same whether reads vary: a piece of one coordinate costs a turn and its update
abbrev pub BodiesAtPoints : Type 0
BodiesAtPoints = (x : Watched) → UpdatesOnce x → AtPoints (seen_turn x) × AtPoints (tallied_turn x)

-- where it is never fixed the body does the same whether a part begins or not
abbrev pub BodiesAreFlagless : Type 0
BodiesAreFlagless = (x : Watched)
    → ((n : Nest Run) → n.body ≡ seen_turn x → NeverFixed x n → Flagless n)
    × ((n : Nest Tallied) → n.body ≡ tallied_turn x → NeverFixed x n → Flagless n)

-- where nothing is left the body is nothing
abbrev pub BodiesAreNothing : Type 0
BodiesAreNothing = (s : Start) (x : Watched)
    → ((n : Nest Run) → n.body ≡ seen_turn x → NothingSeen x n → Nothing (runs s) n)
    × ((n : Nest Tallied) → n.body ≡ tallied_turn x → NothingSeen x n → Nothing (turns s) n)

-- at each coordinate that jumpers may pass over nothing is left, nor at the next one, where no part ends between them
pub record PassesNothing {S : Type 0} (x : Watched) (ts : Store) (ls : List ℤ) (n : Nest S) : Type 0 where
  pub simple : AllSimplyJump n.reads
  pub here : (i : ℤ) → Passes ts ls n i → is_none_kind (rest_seen x (seens (views_of ts ls n i))).kind ≡ true
  pub next : (i : ℤ) → Passes ts ls n i → any_ends (views_of ts ls n i) ≡ false
      → is_none_kind (rest_seen x (seens (views_of ts ls n (i +ℤ pos 1)))).kind ≡ true

-- then the nest has the condition on jumpers
abbrev pub BodiesJump : Type 0
BodiesJump = (s : Start) (x : Watched) (ts : Store) (ls : List ℤ)
    → ((n : Nest Run) → n.body ≡ seen_turn x → PassesNothing x ts ls n → Jumps (runs s) ts ls n)
    × ((n : Nest Tallied) → n.body ≡ tallied_turn x → PassesNothing x ts ls n → Jumps (turns s) ts ls n)

-- ---- the statements of programs

-- as the definition of work runs them where something is known
abbrev pub StatementsGoOn : Type 0
StatementsGoOn = (w : World) (body : List Stmt) (h : Here) (m : Marks) (vars : Numbers) (r : Run)
    → Advances r (all_of (worked_all w body h) (Some m) vars r)

abbrev pub StatementsUpdateOnce : Type 0
StatementsUpdateOnce = (w : World) (body : List Stmt) (h : Here) (m : Marks) (vars : Numbers) (r : Run)
    → is_one_update (rests_in (Some m) (worked_all w body h)).kind ≡ true
    → costing 2 r (all_of (worked_all w body h) (Some m) vars r) ≡ all_of (worked_all w body h) (Some m) vars (worked 1 r)
