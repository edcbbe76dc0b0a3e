-- What holds of every looplet.
use Rattle.std.specs.Prelude.{◌≡◌, ℕ, ◌<◌, ◌≤◌, ◌^◌, ◌⊎◌, List, length, ℤ, pos, ◌+ℤ◌, ◌-ℤ◌, ◌≤ℤ◌, ◌<ℤ◌, slice_index_or}
use Rattle.fin_ir.specs.declared.expression.IExpr.{IExpr}
use Rattle.fin_looplet.specs.declared.looplet.Looplet.{Looplet}
use Rattle.fin_looplet.specs.Names.{Names, Loads}
use Rattle.fin_looplet.specs.View.{Store, value, view}
use Rattle.fin_looplet.specs.Sound.{SoundWithin, Reach, Near}
use Rattle.fin_looplet.specs.Locals.{Free, LoadsIn, Owns, ShiftNames, Separate}
use Rattle.fin_looplet.specs.Cut.{cut}
use Rattle.fin_looplet.specs.Moved.{moved}
use Rattle.fin_looplet.specs.Like.{Like}
use Rattle.fin_looplet.specs.Weight.{weight}

-- the two lists of locals agree on what the looplet depends on
pub record Agree (l : Looplet) (ls ls' : List ℤ) : Type 0 where
  pub long : length ls ≡ length ls'
  pub free : (x : ℕ) → Free x l → slice_index_or ls x (pos 0) ≡ slice_index_or ls' x (pos 0)

-- In locals that agree on what is free a looplet shows the same, and is sound in both or in neither.
pub record FrameHolds : Type 0 where
  pub shows : (ts : Store) (l : Looplet) (ls ls' : List ℤ) (end i : ℤ) → Agree l ls ls' → view ts ls l end i ≡ view ts ls' l end i
  pub sound : (ts : Store) (l : Looplet) (ls ls' : List ℤ) (hi i : ℤ) → Agree l ls ls' → SoundWithin Near ts ls l (λ j. j <ℤ hi) i → SoundWithin Near ts ls' l (λ j. j <ℤ hi) i

-- What is in reach of a coordinate between 0 and 2^40 is near.
abbrev pub ReachIsNear : Type 0
ReachIsNear = (i z : ℤ) → pos 0 ≤ℤ i → i ≤ℤ pos (2 ^ 40) → Reach i z → Near z

-- Before its end a looplet that is cut there shows what it showed, wherever its region ends now, and is sound where it
-- was. It depends on nothing but the end and what it depended on, owns no further local, and isn't heavier.
pub record CutKeeps : Type 0 where
  pub shows : (ts : Store) (ls : List ℤ) (l : Looplet) (e : IExpr) (end i : ℤ) → Near i → i <ℤ value ts ls e → SoundWithin Near ts ls l (λ j. j <ℤ value ts ls e) i
      → Like ((i +ℤ pos 1) <ℤ value ts ls e) (view ts ls (cut e l) end i) (view ts ls l (value ts ls e) i)
  pub sound : (ts : Store) (ls : List ℤ) (l : Looplet) (e : IExpr) (hi i : ℤ) → Near i → i <ℤ value ts ls e → SoundWithin Near ts ls l (λ j. j <ℤ hi) i
      → SoundWithin Near ts ls (cut e l) (λ j. j <ℤ hi) i
  pub free : (x : ℕ) (l : Looplet) (e : IExpr) → Free x (cut e l) → Names x e ⊎ Free x l
  pub loads : (t : ℕ) (l : Looplet) (e : IExpr) → LoadsIn t (cut e l) → Loads t e ⊎ LoadsIn t l
  pub owns : (x : ℕ) (l : Looplet) (e : IExpr) → Owns x (cut e l) → Owns x l
  pub separate : (l : Looplet) (e : IExpr) → ((x : ℕ) → Owns x l → Names x e → ⊥) → Separate l → Separate (cut e l)
  pub light : (e : IExpr) (l : Looplet) → weight (cut e l) ≤ weight l

-- the looplet can be moved by the distance: its own locals are there, and no shift names one
pub record CanMove (ls : List ℤ) (by : IExpr) (l : Looplet) : Type 0 where
  pub there : (x : ℕ) → Owns x l → x < length ls
  pub unnamed : (x : ℕ) → Owns x l → Names x by → ⊥
  pub unshifted : (x : ℕ) → Owns x l → ShiftNames x l → ⊥

-- A looplet that is moved shows what it showed at the coordinate less the distance, and is sound where it was. It depends
-- on nothing but the distance and what it depended on, owns no further local, has no shift, and isn't heavier.
pub record MovedKeeps : Type 0 where
  pub shows : (ts : Store) (ls : List ℤ) (l : Looplet) (by : IExpr) (end hi i : ℤ)
      → Near i → Near (i -ℤ value ts ls by) → CanMove ls by l → SoundWithin Near ts ls l (λ j. j <ℤ hi) (i -ℤ value ts ls by)
      → view ts ls (moved by l) end i ≡ view ts ls l (end -ℤ value ts ls by) (i -ℤ value ts ls by)
  pub sound : (ts : Store) (ls : List ℤ) (l : Looplet) (by : IExpr) (hi i : ℤ)
      → Near i → Near (i -ℤ value ts ls by) → CanMove ls by l → SoundWithin Near ts ls l (λ j. j <ℤ (hi -ℤ value ts ls by)) (i -ℤ value ts ls by)
      → SoundWithin Near ts ls (moved by l) (λ j. j <ℤ hi) i
  pub free : (x : ℕ) (by : IExpr) (l : Looplet) → Free x (moved by l) → Names x by ⊎ Free x l
  pub loads : (t : ℕ) (by : IExpr) (l : Looplet) → LoadsIn t (moved by l) → Loads t by ⊎ LoadsIn t l
  pub owns : (x : ℕ) (by : IExpr) (l : Looplet) → Owns x (moved by l) → Owns x l
  pub no_shift : (x : ℕ) (by : IExpr) (l : Looplet) → ShiftNames x (moved by l) → ⊥
  pub separate : (by : IExpr) (l : Looplet) → ((x : ℕ) → Owns x l → Names x by → ⊥) → Separate l → Separate (moved by l)
  pub light : (by : IExpr) (l : Looplet) → weight (moved by l) ≤ weight l
