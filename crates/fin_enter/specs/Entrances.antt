-- The nest of a loop whose driven reads have their positions in locals.
use Rattle.std.specs.Prelude.{◌≡◌, ℕ, ◌+◌, ◌<◌, ◌≤◌, ◌^◌, List, [], ◌∷◌, length, ℤ, pos, Option, Some, None}
use Rattle.fin_tensor.specs.declared.format.Format.{Format}
use Rattle.fin_ast.specs.declared.tree.Index.{Index}
use Rattle.fin_ast.specs.Value.{Numbers}
use Rattle.fin_ast.specs.Dense.{range_of}
use Rattle.fin_ir.specs.declared.expression.IExpr.TheVariants.{Num}
use Rattle.fin_stage.specs.Staged.{Run}
use Rattle.fin_looplet.specs.declared.looplet.Leaf.{Leaf}
use Rattle.fin_looplet.specs.declared.looplet.Looplet.{Looplet}
use Rattle.fin_looplet.specs.declared.looplet.Looplet.TheVariants as looplet
use Rattle.fin_looplet.specs.View.{Store}
use Rattle.fin_nest.specs.Nests.{Nest}
use Rattle.fin_simp.specs.Rest.{Access}
use Rattle.fin_simp.specs.Sights.{driven_index}
use Rattle.fin_simp.specs.Work.{World, Mask, Context, Worked, masks_of}
use Rattle.fin_drive.specs.Looplets.{back, driven_looplet}
use Rattle.fin_drive.specs.Turns.{seen_turn}
use Rattle.fin_drive.specs.Watches.{watched}
use Rattle.fin_drive.specs.Entries.{Entry, entered, watches, reading_of, MadeMasks, IsMade}
use Rattle.fin_enter.specs.Positions.{spot_at}
use Rattle.fin_enter.specs.Sites.{IsFooted}

-- a driven read's looplet, from the locals with its position and of its own
pub record Placed (e : Entry) (a : Access) (d : ℕ × Index) (l : Looplet) : Type 0 where
  pub format : Format
  pub at : ℕ
  pub cursor : ℕ
  pub footed : IsFooted e a d format at cursor
  pub made : l ≡ driven_looplet format (reading_of e a d cursor) (spot_at d.0 at (back (reading_of e a d cursor)))

abbrev pub PlacedRead : Entry → Access → Option (ℕ × Index) → Looplet → Type 0
PlacedRead e a None l = (leaf : Leaf) × (l ≡ looplet.Run leaf)
PlacedRead e a (Some d) l = Placed e a d l

-- reads in the order of the text, and then masks
abbrev pub AllPlaced : Entry → List Access → List Mask → List Looplet → Type 0
AllPlaced e [] ms ls = MadeMasks e ms ls
AllPlaced e (a ∷ reads) ms [] = ⊥
AllPlaced e (a ∷ reads) ms (l ∷ ls) = PlacedRead e a (driven_index e.loop.loop.var a.at) l × AllPlaced e reads ms ls

-- over all coordinates of the loop's range
pub record IsEntrance (e : Entry) (n : Nest Run) : Type 0 where
  pub bound : e.loop.loop.var < length e.loop.vars
  pub ordered : (range_of e.world.setting e.loop.loop.var).0 ≤ (range_of e.world.setting e.loop.loop.var).1
  pub small : (range_of e.world.setting e.loop.loop.var).1 ≤ 2 ^ 40
  pub lo : n.lo ≡ Num (pos e.from)
  pub hi : n.hi ≡ Num (pos (e.from + e.count))
  pub body : n.body ≡ seen_turn (watched e.loop (watches e))
  pub looplets : AllPlaced e e.rest.reads (masks_of e.loop.vars e.loop.loop.var e.rest) n.reads

-- it is a nest as it is made for the loop
abbrev pub EntrancesAreMade : Type 0
EntrancesAreMade = (w : World) (ctx : Context) (var : ℕ) (body : List Worked) (vars : Numbers) (r : Run) (ts : Store) (ls : List ℤ) (n : Nest Run)
    → IsEntrance (entered w ctx var body vars r ts ls) n → IsMade (entered w ctx var body vars r ts ls) n
