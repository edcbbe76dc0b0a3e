-- What holds in both senses.
use Rattle.std.specs.Prelude.{◌≡◌, ℕ, ◌+◌, ◌<◌, ◌≤◌, ◌⊎◌, List, [], ◌∷◌, true, false, if◌then◌else◌, Bool, slice_set, ℤ, pos, ◌+ℤ◌}
use Rattle.fin_base.specs.declared.reduce.Reduce.{Reduce}
use Rattle.fin_ast.specs.Value.{Numbers}
use Rattle.fin_ir.specs.declared.expression.IExpr.{IExpr}
use Rattle.fin_ir.specs.declared.code.Code.{Code}
use Rattle.fin_ir.specs.declared.code.Code.TheVariants.{Seq, When}
use Rattle.fin_ir.specs.declared.layout.Layout.{Layout}
use Rattle.fin_ir.specs.Machine.{Machine, seen}
use Rattle.fin_ir.specs.Value.{value_in, is_off}
use Rattle.fin_ir.specs.Meaning.{meaning_all, span}
use Rattle.fin_stage.specs.Staged.{Run, Action, worked, repeated}
use Rattle.fin_stage.specs.Trailing.{Monotone, skipped, ChangesNothing}
use Rattle.fin_looplet.specs.View.{Store, value, Seen}
use Rattle.fin_looplet.specs.Lists.{seens}
use Rattle.fin_nest.specs.Related.{Start}
use Rattle.fin_nest.specs.Jumping.{NoneHolds}
use Rattle.fin_nest.specs.Nests.{Flags, fresh, flag_at, Nest, Sense, paid_at, views_of, at_flags, part, fold, Kept, Separate, Jumps, Fits, Means, MeansCounted}
use Rattle.fin_nest.specs.Laws.{Lawful, Onward, Over, Charges, Owing}
use Rattle.fin_nest.specs.Senses.{exact, runs, Tallied, turns, Advances, AdvancesTally}
use Rattle.fin_nest.specs.Performs.{Place, Stay, Ready, Performs, body_code, IsBody}

-- ---- the laws

abbrev pub SensesAreLawful : Type 0
SensesAreLawful = (s : Start) → Lawful (runs s) × Lawful (turns s)

-- ---- charges

abbrev pub tally_worked : Tallied → Tallied
tally_worked t = record t { run = worked 1 t.run }

abbrev pub owe_one : Tallied → Tallied
owe_one t = record t { owed = t.owed + 1 }

-- a charge of 1 is work, in turns kept for the turn that is counted behind it
abbrev pub ChargesAreWork : Type 0
ChargesAreWork = (s : Start) → Charges s.layout (runs s) (worked 1) × Owing s.layout (turns s) tally_worked owe_one

-- where stops bring nothing in, a code that means a nest means it with a counted turn
abbrev pub TurnsAreFree : Type 0
TurnsAreFree = (s : Start) (layout : Layout) (c : Code) (n : Nest Run)
    → Means layout (runs s) c n → MeansCounted layout (runs s) c n

-- ---- what the run does, and what it may leave out

-- done to the run of a tally
abbrev pub in_run : (Run → Run) → Tallied → Tallied
in_run f t = record t { run = f t.run }

-- the codes count no turn and take back no charge
abbrev pub Uncounted : Layout → Place → List Code → Type 0
Uncounted layout p cs = (m : Machine) → Ready layout m p
    → ((meaning_all layout cs m).turns ≡ m.turns) × (m.charges ≤ (meaning_all layout cs m).charges)

-- Codes that perform a statement where a machine does what a run does perform it in both senses, if the statement does
-- the same to a run that trails.
pub record Lifts (s : Start) (layout : Layout) (p : Place) (cs : List Code) (f : Run → Run) : Type 0 where
  pub in_values : Performs layout (runs s) p cs f
  pub in_turns : Uncounted layout p cs → Performs layout (turns s) p cs (in_run f)

abbrev pub StatementsLift : Type 0
StatementsLift = (s : Start) (layout : Layout) (p : Place) (cs : List Code) (f : Run → Run)
    → ((r : Run) → Advances r (f r)) → Monotone f → Performs layout (exact s) p cs f → Lifts s layout p cs f

-- a machine that leaves out an update that changes nothing stands for the run that does it
pub record SkipStands (s : Start) (t : ℕ) (at : List ℤ) (by : Reduce) (v : ℤ) : Type 0 where
  pub in_values : (r : Run) (m : Machine) → ChangesNothing t at by v r
      → (runs s).stands r m → (runs s).stands (skipped s.setting t at by v r) m
  pub in_turns : (q : Tallied) (m : Machine) → ChangesNothing t at by v q.run
      → (turns s).stands q m → (turns s).stands (in_run (skipped s.setting t at by v) q) m

abbrev pub SkippedUpdatesStand : Type 0
SkippedUpdatesStand = (s : Start) (t : ℕ) (at : List ℤ) (by : Reduce) (v : ℤ) → SkipStands s t at by v

-- ---- regions in parts

-- Where a part begins a region may be cut: its fold is that of what is behind, after that of what is before and what a
-- stop between them brings in.
abbrev pub FallsApart : (S : Type 0) → (S → S) → Type 0
FallsApart S pay = (ts : Store) (ls : List ℤ) (n : Nest S) (m k : ℕ) (at : ℤ) (s : S)
    → (k ≡ 0) ⊎ ((flag_at (at_flags ts ls n) fresh at m).begins ≡ true)
    → part pay ts ls n (m + k) fresh at s
    ≡ part pay ts ls n k fresh (at +ℤ pos m)
    (paid_at pay k (flag_at (at_flags ts ls n) fresh at m).stopped (part pay ts ls n m fresh at s))

abbrev pub RegionsFallApart : Type 0
RegionsFallApart = (s : Start) → FallsApart Run (runs s).pay × FallsApart Tallied (turns s).pay

-- ---- regions as loops

-- at each of its coordinates the nest's body is a turn of the loop
abbrev pub TurnsAreBodies : Store → List ℤ → Nest Run → ℕ → ℕ → Action → Numbers → Type 0
TurnsAreBodies ts ls n var lo turn vars = (j : ℕ) (b : Bool) (r : Run) → j < span (value ts ls n.lo) (value ts ls n.hi)
    → n.body (seens (views_of ts ls n (pos (lo + j)))) b (pos (lo + j)) r
    ≡ turn (slice_set vars var (pos (lo + j))) (worked 1 r)

-- the fold of the nest is then the loop of a run by stages
abbrev pub FoldsAreLoops : Type 0
FoldsAreLoops = (ts : Store) (ls : List ℤ) (n : Nest Run) (var lo : ℕ) (turn : Action) (vars : Numbers) (r : Run)
    → value ts ls n.lo ≡ pos lo → TurnsAreBodies ts ls n var lo turn vars
    → fold (λ x. x) ts ls n r ≡ repeated (span (value ts ls n.lo) (value ts ls n.hi)) lo var turn vars r

-- ---- what was cut

-- it stands for the fold of any part of the nest, where the body goes on
abbrev pub StandsCut : {S : Type 0} → Sense S → Type 0
StandsCut sense = (ts : Store) (ls : List ℤ) (n : Nest _) → Onward sense n.body
    → (k : ℕ) (f : Flags) (at : ℤ) (s : _) (m : Machine) → m.cut ≡ true
    → sense.stands s m → sense.stands (part sense.pay ts ls n k f at s) m

abbrev pub CutMachinesStand : Type 0
CutMachinesStand = (s : Start) → StandsCut (runs s) × StandsCut (turns s)

-- what takes nothing back leaves it standing
pub record CutStands (s : Start) : Type 0 where
  pub in_values : (f : Run → Run) → ((r : Run) → Advances r (f r)) → Over (runs s) f
  pub in_turns : (f : Tallied → Tallied) → ((t : Tallied) → AdvancesTally t (f t)) → Over (turns s) f

abbrev pub CutStatementsStand : Type 0
CutStatementsStand = (s : Start) → CutStands s

-- ---- jumpers

-- a nest without jumpers has the condition on them
abbrev pub Jumpless : {S : Type 0} → Sense S → Type 0
Jumpless sense = (ts : Store) (ls : List ℤ) (n : Nest _) → NoneHolds n.reads → Jumps sense ts ls n

abbrev pub NothingIsPassedOver : Type 0
NothingIsPassedOver = (s : Start) → Jumpless (runs s) × Jumpless (turns s)

-- ---- statements

pub record Composes {S : Type 0} (layout : Layout) (sense : Sense S) : Type 0 where
  pub nothing : (p : Place) → Performs layout sense p [] (λ s. s)
  -- one after another
  pub next : (p : Place) (c : Code) (cs : List Code) (f g : S → S) → Stay p p.facts → Over sense g
      → Performs layout sense p (c ∷ []) f → Performs layout sense p cs g
      → Performs layout sense p (c ∷ cs) (λ s. g (f s))
  -- a condition, whose test's code has the value that the language gives
  pub when : (p : Place) (test : IExpr) (val : S → ℤ) (body : List Code) (g : S → S)
      → ((s : S) (m : Machine) → Ready layout m p → sense.stands s m → value_in m test ≡ val s)
      → Performs layout sense p body g
      → Performs layout sense p (When test (Seq body) ∷ []) (λ s. if is_off (val s) then s else g s)
  -- a nest, whose fold is what the loop does
  pub nest : (p : Place) (c : Code) (n : Nest S) (f : S → S) → Means layout sense c n
      → ((m : Machine) → Ready layout m p → Fits layout (seen m) m n × Jumps sense (seen m) m.locals n)
      → ((s : S) (m : Machine) → Ready layout m p → fold sense.pay (seen m) m.locals n s ≡ f s)
      → ((x : ℕ) → x < p.next → p.binds x ≡ false → Kept n x) → ((t : ℕ) → p.steady t ≡ true → n.steady t ≡ true)
      → Performs layout sense p (c ∷ []) f

abbrev pub StatementsCompose : Type 0
StatementsCompose = (s : Start) (layout : Layout) → Composes layout (runs s) × Composes layout (turns s)

-- ---- bodies

-- The code of a body means its nest: in values and charges, with a counted turn behind it or not; and in turns with
-- one, where the statements don't look at what is kept for it.
pub record BodyMeans (s : Start) (cs : List Code) : Type 0 where
  pub in_values : (n : Nest Run) → Separate n → IsBody s.layout (runs s) (worked 1) n cs
      → Means s.layout (runs s) (body_code n cs) n × MeansCounted s.layout (runs s) (body_code n cs) n
  pub in_turns : (n : Nest Tallied) → Separate n → (b : IsBody s.layout (turns s) tally_worked n cs)
      → ((ss : List Seen) (i : ℤ) (t : Tallied) → b.does ss i (owe_one t) ≡ owe_one (b.does ss i t))
      → MeansCounted s.layout (turns s) (body_code n cs) n

abbrev pub BodiesMean : Type 0
BodiesMean = (s : Start) (cs : List Code) → BodyMeans s cs
