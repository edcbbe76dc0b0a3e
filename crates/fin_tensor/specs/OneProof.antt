-- The facts that structs keep: each has one proof. A ghost field asks that here, beside what it cites.
use Rattle.std.specs.Prelude.{◌↔◌, ℕ, List, [], ◌∷◌, ℤ, IsTrue, Bool}
use Rattle.std.specs.Coded.{×_prop, Unit-prop}
use Rattle.std.proofs.Props.{props}
use Rattle.fin_tensor.specs.declared.format.Level.{Level}
use Rattle.fin_tensor.specs.declared.format.Level.TheVariants as level
use Rattle.fin_tensor.specs.declared.format.Wrap.{Wrap}
use Rattle.fin_tensor.specs.declared.format.Wrap.TheVariants.{Bare, Atomic, Mutex, Shard}
use Rattle.fin_tensor.specs.declared.part.Part.{Part}
use Rattle.fin_tensor.specs.declared.part.Part.TheVariants as part
use Rattle.fin_tensor.specs.Levels.{IsPtr, IsIdx, IsStop, IsStart, IsLevel, IsStored, positions}
use Rattle.fin_tensor.specs.Lines.{IsShape, AreLevels, AreFew}
use Rattle.fin_tensor.specs.Placement.{Fits, IsPlaced, IsBare}

Fits-prop : (wrap : Wrap) (ls : List Level) → IsProp (Fits wrap ls)
Fits-prop Bare ls = Unit-prop
Fits-prop Atomic ls = hlevel props
Fits-prop (Mutex before) ls = hlevel props
Fits-prop Shard ls = hlevel props

pub IsPlaced-prop : (ls : List Level) (wrap : Wrap) → IsProp (IsPlaced ls wrap)
IsPlaced-prop ls wrap = hlevel (props, Fits-prop wrap ls)

pub IsBare-prop : (wrap : Wrap) → IsProp (IsBare wrap)
IsBare-prop Bare = Unit-prop
IsBare-prop Atomic = hlevel props
IsBare-prop (Mutex before) = hlevel props
IsBare-prop Shard = hlevel props

IsPtr-prop : (count : ℕ) (ptr : List ℕ) → IsProp (IsPtr count ptr)
IsPtr-prop count ptr = hlevel props

IsIdx-prop : (n count : ℕ) (ptr idx : List ℕ) → IsProp (IsIdx n count ptr idx)
IsIdx-prop n count ptr idx = hlevel props

IsStop-prop : (n count : ℕ) (ptr stop : List ℕ) → IsProp (IsStop n count ptr stop)
IsStop-prop n count ptr stop = hlevel props

IsStart-prop : (n count : ℕ) (ptr start : List ℕ) → IsProp (IsStart n count ptr start)
IsStart-prop n count ptr start = hlevel props

pub IsLevel-prop : (l : Level) (n count : ℕ) (p : Part) → IsProp (IsLevel l n count p)
IsLevel-prop level.Dense n count part.Dense = Unit-prop
IsLevel-prop level.List n count (part.Keys ptr idx) = ×_prop (IsPtr-prop count ptr) (IsIdx-prop n count ptr idx)
IsLevel-prop level.Dict n count (part.Keys ptr idx) = ×_prop (IsPtr-prop count ptr) (IsIdx-prop n count ptr idx)
IsLevel-prop level.Runs n count (part.Runs ptr stop) = ×_prop (IsPtr-prop count ptr) (IsStop-prop n count ptr stop)
IsLevel-prop level.Band n count (part.Band ptr start) = ×_prop (IsPtr-prop count ptr) (IsStart-prop n count ptr start)
IsLevel-prop l n count p = hlevel props

pub IsStored-prop : (count : ℕ) (ls : List Level) (ns : List ℕ) (ps : List Part) (val : List ℤ) → IsProp (IsStored count ls ns ps val)
IsStored-prop count [] [] [] val = hlevel props
IsStored-prop count (l ∷ ls) (n ∷ ns) (p ∷ ps) val = hlevel (props, IsLevel-prop l n count p, IsStored-prop (positions n count p) ls ns ps val)
IsStored-prop count ls ns ps val = hlevel props

pub IsShape-prop : (levels : List Level) (shape : List ℕ) → IsProp (IsShape levels shape)
IsShape-prop levels shape = hlevel props

pub AreLevels-prop : (levels : List Level) (shape : List ℕ) (parts : List Part) → IsProp (AreLevels levels shape parts)
AreLevels-prop levels shape parts = hlevel (props, IsLevel-prop)

pub TellsFew-prop : (few : Bool) (shape : List ℕ) (parts : List Part) → IsProp (IsTrue few ↔ AreFew shape parts)
TellsFew-prop few shape parts = hlevel props
