-- The nest of a loop of a program: its looplets are made for the reads and the masks that its body has left, from what
-- stands in locals and in tensors where the loop is entered. It does what the loop does.
use Rattle.std.specs.Prelude.{◌≡◌, ℕ, ◌+◌, ◌<◌, ◌≤◌, ◌^◌, ◌-ℤ◌, true, false, not, List, [], ◌∷◌, length, map, sum, ℤ, pos, Option, Some, None, slice_index_or}
use Rattle.fin_tensor.specs.declared.format.Format.{Format}
use Rattle.fin_tensor.specs.Levels.{IsStored}
use Rattle.fin_ast.specs.declared.tree.Index.{Index}
use Rattle.fin_ast.specs.declared.tree.Stmt.TheOpen.{Stmt-F}
use Rattle.fin_ast.specs.Value.{Numbers}
use Rattle.fin_ast.specs.Dense.{fill_of, shape_at, range_of}
use Rattle.fin_stage.specs.Staged.{Run, worked}
use Rattle.fin_ir.specs.declared.expression.IExpr.{IExpr}
use Rattle.fin_ir.specs.Frozen.{Frozen}
use Rattle.fin_ir.specs.Machine.{stored}
use Rattle.fin_ir.specs.Value.{is_off}
use Rattle.fin_looplet.specs.declared.looplet.Leaf.{Leaf}
use Rattle.fin_looplet.specs.declared.looplet.Looplet.{Looplet}
use Rattle.fin_looplet.specs.declared.looplet.Looplet.TheVariants as looplet
use Rattle.fin_looplet.specs.View.{Store, value, stops}
use Rattle.fin_nest.specs.Nests.{Nest, fold, AllSoundIn}
use Rattle.fin_unfurl.specs.Fibres.{IsApart}
use Rattle.fin_simp.specs.Rest.{Access, Rest}
use Rattle.fin_simp.specs.Sights.{Stand, Nowhere, At, Unsettled, driven_index, stand_at}
use Rattle.fin_simp.specs.Moving.{access_stays, running}
use Rattle.fin_simp.specs.Numbered.{Here}
use Rattle.fin_simp.specs.Work.{World, Mask, parts_at, is_in, driven_at, driven_by, masks_of, length_of, Context, Worked, rests_in, all_fresh, can_be_entered, inside, enter, entry_of, done}
use Rattle.fin_simp.specs.Costs.{Running}
use Rattle.fin_drive.specs.declared.reading.Reading.{Reading}
use Rattle.fin_drive.specs.declared.reading.Spot.{Spot}
use Rattle.fin_drive.specs.Turns.{seen_turn}
use Rattle.fin_drive.specs.Watches.{Watch, Drives, Waits, Tests, watched, IsOneChunk, part_of}
use Rattle.fin_drive.specs.Looplets.{other, back_offset, driven_looplet, mask_looplet}
use Rattle.fin_drive.specs.Stopping.{stop_counts}
use Rattle.fin_drive.specs.Standing.{OtherIs}
use Rattle.fin_drive.specs.Loops.{Stretch}

-- A loop as it is entered in a run, over what is left of its body, and so many of its coordinates from one on, in a store
-- and locals.
pub record Entry : Type 0 where
  pub world : World
  pub run : Run
  pub rest : Rest
  pub loop : Running
  pub store : Store
  pub locals : List ℤ
  pub from : ℕ
  pub count : ℕ

-- its driven reads and masks are those that the definition of work has
pub record IsEntered (e : Entry) : Type 0 where
  pub driven : e.loop.loop.driven ≡ driven_by e.world e.loop.vars e.run e.loop.loop.var e.rest
  pub masks : e.loop.loop.masks ≡ masks_of e.loop.vars e.loop.loop.var e.rest

abbrev pub stretch : Entry → Stretch
stretch e =
    record { store = e.store; locals = e.locals; vars = e.loop.vars; var = e.loop.loop.var; lo = e.from; hi = e.from + e.count }

-- ---- what its looplets are for

abbrev pub watch_of : Entry → Access → Option (ℕ × Index) → Watch
watch_of e a None = Waits
watch_of e a (Some d) = Drives (driven_at e.world e.loop.vars e.run e.rest.changed a d)

-- reads in the order of the text, and then masks
abbrev pub watch_all : Entry → List Access → List Mask → List Watch
watch_all e [] ms = map Tests ms
watch_all e (a ∷ reads) ms = watch_of e a (driven_index e.loop.loop.var a.at) ∷ watch_all e reads ms

abbrev pub watches : Entry → List Watch
watches e = watch_all e e.rest.reads (masks_of e.loop.vars e.loop.loop.var e.rest)

-- ---- a read that the loop drives

-- where its fibre stands: the format of its tensor, the first of two locals of its own, and the spot
pub record Site : Type 0 where
  pub format : Format
  pub cursor : ℕ
  pub spot : Spot

abbrev pub extent_of : Entry → Access → ℕ × Index → ℕ
extent_of e a d = slice_index_or (shape_at e.world.setting a.tensor) d.0 0

-- a tensor that the body declares, updates, freezes or thaws isn't settled
abbrev pub reading_of : Entry → Access → ℕ × Index → ℕ → Reading
reading_of e a d cursor = record {
  var = e.loop.loop.var;
  index = d.1;
  tensor = a.tensor;
  level = d.0;
  extent = extent_of e a d;
  settled = not (is_in e.rest.changed a.tensor);
  cursor = cursor;
}

-- the position is in its local, or it is absent
abbrev pub IsFound : Store → List ℤ → Spot → Stand → Type 0
IsFound ts ls s Nowhere = is_off (value ts ls s.there) ≡ true
IsFound ts ls s (At part q) = (is_off (value ts ls s.there) ≡ false) × (value ts ls s.place ≡ pos q)
IsFound ts ls s Unsettled = ⊥

-- the tensor is frozen on the machine, as the run has it, and the position to which the indices that are bound lead is in
-- its local
pub record IsHeld (e : Entry) (a : Access) (d : ℕ × Index) (s : Site) : Type 0 where
  pub frozen : Frozen
  pub is : e.store a.tensor ≡ stored frozen
  pub shape : shape_at e.world.setting a.tensor ≡ frozen.shape
  pub parts : parts_at e.world e.run a.tensor ≡ frozen.parts
  pub few : length s.format.levels ≤ 8
  pub valid : IsStored 1 s.format.levels frozen.shape frozen.parts frozen.val
  pub room : s.cursor + 1 < length e.locals
  pub found : IsFound e.store e.locals s.spot (stand_at e.loop.vars frozen.shape frozen.parts a.at d.0 (Some 0))

pub record IsSite (e : Entry) (a : Access) (d : ℕ × Index) (s : Site) : Type 0 where
  pub fill : fill_of e.world.setting a.tensor ≡ s.format.fill
  pub level : d.0 < length s.format.levels
  pub small : extent_of e a d ≤ 2 ^ 40
  pub apart : IsApart s.cursor s.spot.place
  pub stays : access_stays e.world.setting a ≡ true
  pub other_number : ℕ
  pub others : OtherIs e.loop.vars (other (reading_of e a d s.cursor)) other_number
  pub behind : value e.store e.locals s.spot.by ≡ back_offset d.1.offset -ℤ pos other_number
  pub held : is_in e.rest.changed a.tensor ≡ false → IsHeld e a d s

-- ---- the looplets

pub record MadeDriven (e : Entry) (a : Access) (d : ℕ × Index) (l : Looplet) : Type 0 where
  pub site : Site
  pub stands : IsSite e a d site
  pub made : l ≡ driven_looplet site.format (reading_of e a d site.cursor) site.spot

abbrev pub MadeRead : Entry → Access → Option (ℕ × Index) → Looplet → Type 0
MadeRead e a None l = (leaf : Leaf) × (l ≡ looplet.Run leaf)
MadeRead e a (Some d) l = MadeDriven e a d l

-- the bound's code has the bound's value
pub record MadeMask (e : Entry) (k : Mask) (l : Looplet) : Type 0 where
  pub bound : IExpr
  pub is : k.bound ≡ value e.store e.locals bound
  pub made : l ≡ mask_looplet k.op k.bare_first bound

abbrev pub MadeMasks : Entry → List Mask → List Looplet → Type 0
MadeMasks e [] [] = Unit {0}
MadeMasks e [] (l ∷ ls) = ⊥
MadeMasks e (k ∷ ms) [] = ⊥
MadeMasks e (k ∷ ms) (l ∷ ls) = MadeMask e k l × MadeMasks e ms ls

abbrev pub MadeAll : Entry → List Access → List Mask → List Looplet → Type 0
MadeAll e [] ms ls = MadeMasks e ms ls
MadeAll e (a ∷ reads) ms [] = ⊥
MadeAll e (a ∷ reads) ms (l ∷ ls) = MadeRead e a (driven_index e.loop.loop.var a.at) l × MadeAll e reads ms ls

-- ---- the nest

-- its coordinates are of the loop's range
pub record IsMade (e : Entry) (n : Nest Run) : Type 0 where
  pub entered : IsEntered e
  pub bound : e.loop.loop.var < length e.loop.vars
  pub begins : (range_of e.world.setting e.loop.loop.var).0 ≤ e.from
  pub ends : e.from + e.count ≤ (range_of e.world.setting e.loop.loop.var).1
  pub body : n.body ≡ seen_turn (watched e.loop (watches e))
  pub lo : value e.store e.locals n.lo ≡ pos e.from
  pub hi : value e.store e.locals n.hi ≡ pos (e.from + e.count)
  pub top : e.from + e.count ≤ 2 ^ 40
  pub looplets : MadeAll e e.rest.reads (masks_of e.loop.vars e.loop.loop.var e.rest) n.reads

-- Its fold is what the loop does, chunk by chunk; its looplets are sound, and stop no more often than there are places
-- along its coordinates; the entry of the loop is charged for all places.
pub record DoesLoop (e : Entry) (n : Nest Run) : Type 0 where
  pub chunk : IsOneChunk e.loop.loop e.from e.count → (r : Run) → fold (λ s. s) e.store e.locals n r ≡ part_of e.loop e.from e.count r
  pub loop : e.loop.loop.chunks ≡ 0 → (r : Run) → fold (λ s. s) e.store e.locals n r ≡ part_of e.loop e.from e.count r
  pub sound : AllSoundIn e.store e.locals n.reads (pos e.from) (pos (e.from + e.count))
  pub few_stops : sum (map (λ (l : Looplet). stops e.store e.locals l (pos e.from) (pos (e.from + e.count))) n.reads)
      ≤ stop_counts e.loop.vars e.loop.loop.var e.from e.count e.loop.loop.driven
  pub paid : (from m : ℕ) → stop_counts e.loop.vars e.loop.loop.var from m e.loop.loop.driven ≤ sum (map length_of e.loop.loop.driven)

abbrev pub MadeNestsAreLoops : Type 0
MadeNestsAreLoops = (e : Entry) (n : Nest Run) → IsMade e n → DoesLoop e n

-- ---- a loop of a program that isn't parallel

-- as it is entered, over all of its coordinates
abbrev pub entered : World → Context → ℕ → List Worked → Numbers → Run → Store → List ℤ → Entry
entered w ctx var body vars r ts ls = record {
  world = w;
  run = r;
  rest = rests_in (inside ctx var None) body;
  loop = running w ctx var false body vars r;
  store = ts;
  locals = ls;
  from = (enter w (inside ctx var None) var false body vars r).lo;
  count = (enter w (inside ctx var None) var false body vars r).len;
}

-- where the loop can be entered such a nest does what the statement does, behind the charge of its entry
abbrev pub MadeNestsRun : Type 0
MadeNestsRun = (w : World) (h : Here) (ctx : Context) (var : ℕ) (range : Option (ℕ × ℕ)) (body : List Worked) (line last : ℕ) (vars : Numbers) (r : Run)
    → can_be_entered w false (all_fresh body) (rests_in (inside ctx var None) body) r ≡ true
    → (ts : Store) (ls : List ℤ) (n : Nest Run) → IsMade (entered w ctx var body vars r ts ls) n
    → fold (λ s. s) ts ls n (worked (entry_of (entered w ctx var body vars r ts ls).loop.loop) r) ≡ done w h (Stmt-F.Loop var range false body line last) ctx vars r
