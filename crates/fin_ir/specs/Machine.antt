-- A state of loop code, and what each single statement does to it.
use Rattle.std.specs.Prelude.{ℕ, ◌+◌, ◌^◌, Bool, true, false, ◌&&◌, not, nat_eq, nat_lt, if◌then◌else◌, List, [], ◌∷◌, ◌++◌, length, slice_index_or, slice_set, Option, Some, None, ℤ, pos, negsuc}
use Rattle.fin_base.specs.declared.reduce.Reduce.{Reduce}
use Rattle.fin_base.specs.Words.{apply}
use Rattle.fin_tensor.specs.declared.format.Format.{Format}
use Rattle.fin_tensor.specs.TensorFunction.{is_in_box}
use Rattle.fin_tensor.specs.Building.{Building, no_format, started, follows, updated}
use Rattle.fin_ir.specs.declared.layout.Layout.{Layout}
use Rattle.fin_ir.specs.Frozen.{Frozen, stood_for, canon, is_large}
use Rattle.fin_ir.specs.CanBuild.{can_build}

-- ---- tensors

pub data Tensor : Type 0 where
  nothing : Tensor
  building : Building → Tensor
  stored : Frozen → Tensor

abbrev pub held : List Tensor → ℕ → Tensor
held ts t = slice_index_or ts t nothing

-- one's own tensor, else the one that is shared
abbrev pub over : Tensor → Tensor → Tensor
over nothing y = y
over (building b) y = building b
over (stored s) y = stored s

-- what an update does
pub record Effect : Type 0 where
  pub tensor : ℕ
  pub at : List ℕ
  pub by : Reduce
  pub value : ℤ

-- ---- the machine

-- A whole run shares no tensor. What runs beside others has tensors that it shares; its updates of these are listed.
-- `regular` falls where a statement is asked for what it can't do.
pub record Machine : Type 0 where
  pub locals : List ℤ
  pub tensors : List Tensor
  pub shared : List Tensor
  pub effects : List Effect
  pub charges : ℕ
  pub turns : ℕ
  pub cut : Bool
  pub regular : Bool

-- the tensor that a load reads
abbrev pub seen : Machine → ℕ → Tensor
seen m t = over (held m.tensors t) (held m.shared t)

-- nothing is done after a cut
abbrev pub live : Machine → Machine → Machine
live m n = if m.cut then m else n

-- a statement that can't be done changes nothing, and the run isn't regular
abbrev pub refused : Machine → Machine
refused m = record m { regular = false }

abbrev pub set_tensor : ℕ → Tensor → Machine → Machine
set_tensor t x m = record m { tensors = slice_set m.tensors t x }

-- ---- statements

abbrev pub assign : ℕ → ℤ → Machine → Machine
assign local v m = live m (record m { locals = slice_set m.locals local v })

-- a whole number, or 0
abbrev pub whole : ℤ → ℕ
whole (pos n) = n
whole (negsuc n) = 0

abbrev pub charge : ℤ → Machine → Machine
charge v m = live m (record m { charges = m.charges + whole v })

abbrev pub count_turn : Machine → Machine
count_turn m = live m (record m { turns = m.turns + 1 })

-- coordinates, where none is negative
abbrev pub with_first : ℕ → Option (List ℕ) → Option (List ℕ)
with_first c None = None
with_first c (Some cs) = Some (c ∷ cs)

abbrev pub coordinates : List ℤ → Option (List ℕ)
coordinates [] = Some []
coordinates (pos c ∷ zs) = with_first c (coordinates zs)
coordinates (negsuc c ∷ zs) = None

-- a building tensor takes an update in its box that keeps the order
abbrev pub can_update : Building → List ℕ → Bool
can_update b at = is_in_box b.function.shape at && follows b at

abbrev pub put : Effect → Building → Building
put e b = updated b e.at (λ old. apply e.by old e.value)

abbrev pub put_own : Effect → Building → Machine → Machine
put_own e b m = if can_update b e.at then set_tensor e.tensor (building (put e b)) m else refused m

-- an update of a tensor that isn't one's own is listed, where there is a building one
abbrev pub listed : Effect → Tensor → Machine → Machine
listed e nothing m = refused m
listed e (building b) m = record m { effects = m.effects ++ e ∷ [] }
listed e (stored s) m = refused m

abbrev pub changed_by : Effect → Tensor → Machine → Machine
changed_by e nothing m = listed e (held m.shared e.tensor) m
changed_by e (building b) m = put_own e b m
changed_by e (stored s) m = refused m

abbrev pub update_at : ℕ → Option (List ℕ) → Reduce → ℤ → Machine → Machine
update_at t None by v m = refused m
update_at t (Some at) by v m = changed_by (record { tensor = t; at = at; by = by; value = v }) (held m.tensors t) m

abbrev pub update : ℕ → List ℤ → Reduce → ℤ → Machine → Machine
update t at by v m = live m (update_at t (coordinates at) by v m)

abbrev pub format_at : Layout → ℕ → Format
format_at layout t = slice_index_or layout.formats t no_format

abbrev pub shape_at : Layout → ℕ → List ℕ
shape_at layout t = slice_index_or layout.shapes t []

-- an output or a local tensor
abbrev pub is_made : Layout → ℕ → Bool
is_made layout t = not (nat_eq (slice_index_or layout.kinds t 0) 0)

abbrev pub can_declare : Layout → ℕ → Bool
can_declare layout t = is_made layout t && nat_lt t (length layout.formats) && nat_lt t (length layout.shapes) && can_build (format_at layout t) (shape_at layout t)

abbrev pub declare : Layout → ℕ → Machine → Machine
declare layout t m = live m (if can_declare layout t then set_tensor t (building (started (format_at layout t) (shape_at layout t))) m else refused m)

-- the run ends, and its charges exceed every budget
abbrev pub cut_off : Machine → Machine
cut_off m = record m { charges = m.charges + (2 ^ 40 + 1); cut = true }

abbrev pub frozen_at : ℕ → Tensor → Machine → Machine
frozen_at t nothing m = refused m
frozen_at t (building b) m = if is_large b then cut_off m else set_tensor t (stored (canon b)) m
frozen_at t (stored s) m = refused m

abbrev pub freeze : ℕ → Machine → Machine
freeze t m = live m (frozen_at t (held m.tensors t) m)

-- its function, in which nothing was updated
abbrev pub thawed : Frozen → Building
thawed s = record { format = s.format; function = stood_for s; last = None }

abbrev pub thawed_at : Layout → ℕ → Tensor → Machine → Machine
thawed_at layout t nothing m = refused m
thawed_at layout t (building b) m = refused m
thawed_at layout t (stored s) m = if is_made layout t then set_tensor t (building (thawed s)) m else refused m

abbrev pub thaw : Layout → ℕ → Machine → Machine
thaw layout t m = live m (thawed_at layout t (held m.tensors t) m)
