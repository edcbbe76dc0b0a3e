-- Where the looplet of a driven read stands, behind the steps that find its position.
use Rattle.std.specs.Prelude.{◌≡◌, ℕ, ◌+◌, ◌<◌, ◌^◌, false, true, List, length, ℤ, pos, Some}
use Rattle.fin_tensor.specs.declared.format.Format.{Format}
use Rattle.fin_ast.specs.declared.tree.Index.{Index}
use Rattle.fin_ast.specs.Value.{Numbers, number}
use Rattle.fin_ast.specs.Dense.{shape_at}
use Rattle.fin_stage.specs.Staged.{Run}
use Rattle.fin_looplet.specs.View.{Store}
use Rattle.fin_simp.specs.Rest.{Access}
use Rattle.fin_simp.specs.Sights.{driven_index, stand_at}
use Rattle.fin_simp.specs.Moving.{access_stays}
use Rattle.fin_simp.specs.Work.{World, is_in, parts_at}
use Rattle.fin_drive.specs.declared.reading.Spot.{Spot}
use Rattle.fin_drive.specs.Looplets.{back, other}
use Rattle.fin_drive.specs.Entries.{Entry, IsFound, IsSite, Site, reading_of}
use Rattle.fin_enter.specs.Positions.{spot_at}
use Rattle.fin_enter.specs.Stores.{HasFormat, IsStoredAs}

-- the variable that the loop doesn't bind has a coordinate for its number, and its local has that number
abbrev pub IsCoordinate : Numbers → List ℤ → ℕ → Type 0
IsCoordinate vars ls x = (k : ℕ) × (number vars x ≡ pos k) × (number ls x ≡ pos k) × (k < 2 ^ 40)

-- the place of a driven read: its position, in the local `at` but at a first level, below two locals that its looplet owns
pub record IsFooted (e : Entry) (a : Access) (d : ℕ × Index) (format : Format) (at cursor : ℕ) : Type 0 where
  pub driven : driven_index e.loop.loop.var a.at ≡ Some d
  pub has : HasFormat e.world.setting format a.tensor
  pub each : length a.at ≡ length format.levels
  pub stays : access_stays e.world.setting a ≡ true
  pub below : at < cursor
  pub room : cursor + 1 < length e.locals
  pub numbers : (x : ℕ) → other (reading_of e a d cursor) ≡ Some x → IsCoordinate e.loop.vars e.locals x
  -- where the body doesn't change the tensor
  pub store : is_in e.rest.changed a.tensor ≡ false → IsStoredAs e.world e.run e.store format a.tensor
  pub found : (same : is_in e.rest.changed a.tensor ≡ false) → (let f = (store same).frozen in
      IsFound e.store e.locals (spot_at d.0 at (back (reading_of e a d cursor))) (stand_at e.loop.vars f.shape f.parts a.at d.0 (Some 0)))

abbrev pub site_of : Entry → Access → ℕ × Index → Format → ℕ → ℕ → Site
site_of e a d format at cursor = record { format = format; cursor = cursor; spot = spot_at d.0 at (back (reading_of e a d cursor)) }

abbrev pub FootedReadsStand : Type 0
FootedReadsStand = (e : Entry) (a : Access) (d : ℕ × Index) (format : Format) (at cursor : ℕ) → IsFooted e a d format at cursor → IsSite e a d (site_of e a d format at cursor)

-- what is found by the shape and the parts that the definition of work has is found by those of the storage
abbrev pub StoredReadsAreFound : Type 0
StoredReadsAreFound = (w : World) (r : Run) (ts : Store) (format : Format) (tensor : ℕ) (s : IsStoredAs w r ts format tensor) (ls : List ℤ) (spot : Spot)
    → (vars : Numbers) (is : List Index) (k : ℕ)
    → IsFound ts ls spot (stand_at vars (shape_at w.setting tensor) (parts_at w r tensor) is k (Some 0))
    → IsFound ts ls spot (stand_at vars s.frozen.shape s.frozen.parts is k (Some 0))
