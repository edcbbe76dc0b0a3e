-- The two senses over runs by stages: what a run does and costs, and besides how many turns its loops count.
use Rattle.std.specs.Prelude.{◌≡◌, ℕ, ◌+◌, ◌≤◌, true, []}
use Rattle.fin_ir.specs.Machine.{Machine}
use Rattle.fin_stage.specs.Staged.{Run, regular}
use Rattle.fin_stage.specs.Trailing.{RunTrails}
use Rattle.fin_nest.specs.Related.{Start, Related}
use Rattle.fin_nest.specs.Nests.{Sense}

-- nothing is said of locals, which is the nests' part, nor of a run that isn't regular
abbrev pub Stands : Start → Run → Machine → Type 0
Stands s r m = regular r ≡ true → Related s [] r m

-- the machine does what the run does
abbrev pub exact : Start → Sense Run
exact s = record { stands = Stands s; pay = λ r. r }

-- the machine does what a run does that may have left out updates that change nothing
pub record Behind (s : Start) (r : Run) (m : Machine) : Type 0 where
  pub run : Run
  pub trails : RunTrails r run
  pub related : Related s [] run m

-- ---- in values and charges

abbrev pub runs : Start → Sense Run
runs s = record { stands = λ r m. regular r ≡ true → Behind s r m; pay = λ r. r }

-- ---- in turns: with those that charges are kept for, at most the charges and the stops so far

pub record Tallied : Type 0 where
  pub run : Run
  pub tally : ℕ
  pub owed : ℕ

pub record Turned (s : Start) (t : Tallied) (m : Machine) : Type 0 where
  pub behind : Behind s t.run m
  pub turns : m.turns + t.owed ≤ m.charges + t.tally

abbrev pub turns : Start → Sense Tallied
turns s = record { stands = λ t m. regular t.run ≡ true → Turned s t m; pay = λ t. record t { tally = t.tally + 1 } }

-- ---- what is done to runs

-- it takes back no work, and what ends regular was regular before
pub record Advances (r n : Run) : Type 0 where
  pub before : regular n ≡ true → regular r ≡ true
  pub work : r.work ≤ n.work

-- and the tally rises, while what is owed stays
pub record AdvancesTally (t n : Tallied) : Type 0 where
  pub run : Advances t.run n.run
  pub tally : t.tally ≤ n.tally
  pub owed : n.owed ≡ t.owed
