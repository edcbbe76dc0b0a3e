-- The looplets of a loop's nest, one for each read and each mask, show what the definition of work knows.
use Rattle.std.specs.Prelude.{◌≡◌, ℕ, ◌+◌, ◌-◌, ◌<◌, ◌≤◌, ◌^◌, List, [], ◌∷◌, ℤ, pos, map, sum}
use Rattle.fin_tensor.specs.declared.format.Format.{Format}
use Rattle.fin_ast.specs.Value.{Numbers}
use Rattle.fin_ir.specs.declared.expression.IExpr.{IExpr}
use Rattle.fin_looplet.specs.declared.looplet.Leaf.{Leaf}
use Rattle.fin_looplet.specs.declared.looplet.Looplet.{Looplet}
use Rattle.fin_looplet.specs.declared.looplet.Looplet.TheVariants.{Run}
use Rattle.fin_looplet.specs.View.{Store, value, stops}
use Rattle.fin_looplet.specs.Lists.{views}
use Rattle.fin_nest.specs.Nests.{AllSoundIn}
use Rattle.fin_simp.specs.Work.{Driven, Mask, length_of}
use Rattle.fin_drive.specs.declared.reading.Reading.{Reading}
use Rattle.fin_drive.specs.declared.reading.Spot.{Spot}
use Rattle.fin_drive.specs.Watches.{Watch, Drives, Waits, Tests, driven_in, AllShow}
use Rattle.fin_drive.specs.Stopping.{stop_counts}
use Rattle.fin_drive.specs.Standing.{IsDriven, StaysIn, IsForRead, ShowsMask}

-- coordinates of a loop over a variable, in locals and a store and with the numbers that are bound
pub record Stretch : Type 0 where
  pub store : Store
  pub locals : List ℤ
  pub vars : Numbers
  pub var : ℕ
  pub lo : ℕ
  pub hi : ℕ

-- the looplet is that of a driven read, which stays inside along the coordinates
pub record DrivesBy (s : Stretch) (d : Driven) (l : Looplet) : Type 0 where
  pub format : Format
  pub reading : Reading
  pub spot : Spot
  pub of_loop : reading.var ≡ s.var
  pub is : IsDriven s.store s.locals format reading spot s.vars d
  pub stays : StaysIn reading s.vars d s.lo s.hi
  pub shows : IsForRead format reading spot l

-- it is that of a mask, whose bound's code has the bound's value
pub record TestsBy (s : Stretch) (k : Mask) (l : Looplet) : Type 0 where
  pub bound : IExpr
  pub is : k.bound ≡ value s.store s.locals bound
  pub shows : ShowsMask k.op k.bare_first bound l

-- a read that the loop doesn't drive is a run
abbrev pub IsFor : Stretch → Watch → Looplet → Type 0
IsFor s (Drives d) l = DrivesBy s d l
IsFor s Waits l = (leaf : Leaf) × (l ≡ Run leaf)
IsFor s (Tests k) l = TestsBy s k l

abbrev pub AllFor : Stretch → List Watch → List Looplet → Type 0
AllFor s [] [] = Unit {0}
AllFor s [] (l ∷ ls) = ⊥
AllFor s (w ∷ ws) [] = ⊥
AllFor s (w ∷ ws) (l ∷ ls) = IsFor s w l × AllFor s ws ls

-- They show what is known along the coordinates, are sound there, and stop no more often than the fibres have places
-- there; the entry of the loop is charged for all places.
pub record ShowAlong (s : Stretch) (ws : List Watch) (ls : List Looplet) : Type 0 where
  pub shows : (c : ℕ) → s.lo ≤ c → c < s.hi
      → AllShow s.vars s.var c (c + 1 < s.hi) ws (views s.store s.locals ls (pos s.hi) (pos c))
  pub sound : AllSoundIn s.store s.locals ls (pos s.lo) (pos s.hi)
  pub few_stops : sum (map (λ (l : Looplet). stops s.store s.locals l (pos s.lo) (pos s.hi)) ls) ≤ stop_counts s.vars s.var s.lo (s.hi - s.lo) (driven_in ws)
  pub paid : (from m : ℕ) → stop_counts s.vars s.var from m (driven_in ws) ≤ sum (map length_of (driven_in ws))

abbrev pub LoopletsShow : Type 0
LoopletsShow = (s : Stretch) (ws : List Watch) (ls : List Looplet) → s.hi ≤ 2 ^ 40 → AllFor s ws ls → ShowAlong s ws ls
