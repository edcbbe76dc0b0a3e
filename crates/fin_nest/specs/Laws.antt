-- What steps ask of a sense, and of a body.
use Rattle.std.specs.Prelude.{◌≡◌, ℕ, ◌+◌, List, map, Bool, true, false, ℤ, pos}
use Rattle.fin_ir.specs.declared.expression.IExpr.TheVariants.{Num}
use Rattle.fin_ir.specs.declared.code.Code.TheVariants.{Charge}
use Rattle.fin_ir.specs.declared.layout.Layout.{Layout}
use Rattle.fin_ir.specs.Machine.{Machine, assign, count_turn}
use Rattle.fin_ir.specs.Meaning.{meaning}
use Rattle.fin_looplet.specs.View.{Store, Sight, Seen}
use Rattle.fin_looplet.specs.Lists.{seens}
use Rattle.fin_nest.specs.Nests.{Body, Nest, Sense, views_of}

pub record Lawful {S : Type 0} (sense : Sense S) : Type 0 where
  -- nothing is said of locals
  pub assign : (x : ℕ) (v : ℤ) (s : S) (m : Machine) → sense.stands s m → sense.stands s (assign x v m)
  -- a counted turn is paid by a stop
  pub count : (s : S) (m : Machine) → sense.stands s m → sense.stands (sense.pay s) (count_turn m)
  -- a stop that pays for nothing
  pub spare : (s : S) (m : Machine) → sense.stands s m → sense.stands (sense.pay s) m

-- and of what is done to a state: what is cut stands for whatever the run comes to
abbrev pub Over : {S : Type 0} → Sense S → (S → S) → Type 0
Over sense f = (s : _) (m : Machine) → m.cut ≡ true → sense.stands s m → sense.stands (f s) m

-- of a body, at each coordinate
abbrev pub Onward : {S : Type 0} → Sense S → Body S → Type 0
Onward sense body = (ss : List Seen) (begins : Bool) (i : ℤ) → Over sense (body ss begins i)

-- ---- charges

abbrev pub charged_one : Machine → Machine
charged_one m = record m { charges = m.charges + 1 }

-- code that charges 1
abbrev pub Pays : Layout → Type 0
Pays layout = (m : Machine) → m.cut ≡ false → meaning layout (Charge (Num (pos 1))) m ≡ charged_one m

-- a charge of 1 is work in a sense
pub record Charges {S : Type 0} (layout : Layout) (sense : Sense S) (work : S → S) : Type 0 where
  pub does : (s : S) (m : Machine) → m.cut ≡ false → sense.stands s m → sense.stands (work s) (charged_one m)
  pub pays : Pays layout

-- a charge of 1 is work, and is kept for a counted turn
pub record Owing {S : Type 0} (layout : Layout) (sense : Sense S) (work owe : S → S) : Type 0 where
  pub charge : (s : S) (m : Machine) → m.cut ≡ false → sense.stands s m → sense.stands (owe (work s)) (charged_one m)
  pub repay : (s : S) (m : Machine) → sense.stands (owe s) m → sense.stands s (count_turn m)
  pub pays : Pays layout

-- ---- bodies

-- over runs and lookups the body does the same whether a part begins or not
abbrev pub Flagless : {S : Type 0} → Nest S → Type 0
Flagless n = (ts : Store) (ls : List ℤ) (b : Bool) (i : ℤ) (s : _)
    → n.body (seens (views_of ts ls n i)) b i s ≡ n.body (seens (views_of ts ls n i)) true i s

-- what is seen, but for whether it varies
abbrev pub bare : Seen → Sight
bare s = s.sight

-- where a part begins it is the same to the body whether its reads vary
abbrev pub AtPoints : {S : Type 0} → Body S → Type 0
AtPoints body = (ss ss' : List Seen) (i : ℤ) (s : _) → map bare ss ≡ map bare ss' → body ss true i s ≡ body ss' true i s

-- the body is nothing over the nest: a machine that stands for a state stands for what the body makes of it
abbrev pub Nothing : {S : Type 0} → Sense S → Nest S → Type 0
Nothing sense n = (ts : Store) (ls : List ℤ) (b : Bool) (i : ℤ) (s : _) (m : Machine) → sense.stands s m
    → sense.stands (n.body (seens (views_of ts ls n i)) b i s) m
