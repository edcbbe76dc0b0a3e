-- Nests: loops whose reads are looplets, what their fold makes of a state, and what it is for a code to mean them.
use Rattle.std.specs.Prelude.{◌≡◌, ℕ, zero, suc, ◌<◌, ◌^◌, ◌||◌, ◌&&◌, List, [], ◌∷◌, length, Bool, true, false, if◌then◌else◌, Option, Some, ℤ, pos, ◌+ℤ◌, ◌≤ℤ◌, ◌<ℤ◌, slice_index_or}
use Rattle.fin_ir.specs.declared.expression.IExpr.{IExpr}
use Rattle.fin_ir.specs.declared.code.Code.{Code}
use Rattle.fin_ir.specs.declared.layout.Layout.{Layout}
use Rattle.fin_ir.specs.Machine.{Machine, count_turn, seen}
use Rattle.fin_ir.specs.Meaning.{meaning, span}
use Rattle.fin_looplet.specs.declared.looplet.Looplet.{Looplet}
use Rattle.fin_looplet.specs.Names.{Names, Loads}
use Rattle.fin_looplet.specs.View.{Store, value, Seen, View}
use Rattle.fin_looplet.specs.Sound.{Near}
use Rattle.fin_looplet.specs.Lists.{views, seens, any_ends, AllSound, AnyFree, AnyLoads, AnyOwns, AllSeparate}
use Rattle.fin_nest.specs.Jumping.{AnyPasses, AllSimplyJump}

-- ---- folds over a region, with a flag at each coordinate

abbrev pub over : {F S : Type 0} → (F → ℤ → S → S) → (ℤ → F) → ℕ → F → ℤ → S → S
over act flag zero f at s = s
over act flag (suc n) f at s = over act flag n (flag at) (at +ℤ pos 1) (act f at s)

-- a part begins at the coordinate, and a walker's child whose stops count ended before it
pub record Flags : Type 0 where
  pub begins : Bool
  pub stopped : Bool

-- at the begin of a region
abbrev pub fresh : Flags
fresh = record { begins = true; stopped = false }

-- the flag after so many coordinates
abbrev pub flag_at : {F : Type 0} → (ℤ → F) → F → ℤ → ℕ → F
flag_at flag first at zero = first
flag_at flag first at (suc m) = flag (at +ℤ pos m)

-- a walker's child ends after the coordinate, in a looplet whose stops count
abbrev pub any_counted : List Bool → List View → Bool
any_counted [] vs = false
any_counted (counts ∷ rest) [] = false
any_counted (counts ∷ rest) (v ∷ vs) = (counts && v.stop) || any_counted rest vs

-- ---- nests

-- what a body does at a coordinate: by what its reads see, and whether a part begins there
abbrev pub Body : Type 0 → Type 0
Body S = List Seen → Bool → ℤ → S → S

-- A loop from `lo` on and before `hi` with the variable in the local `var`, over a looplet for each read. `next`
-- is the first free local, `binds` are the locals of its variable and of those that its body binds, `pins` the
-- words that the body asks of locals, and `steady` the tensors that it leaves as they are. `counts` says, looplet
-- by looplet, whose stops bring something in.
pub record Nest (S : Type 0) : Type 0 where
  pub var : ℕ
  pub binds : ℕ → Bool
  pub lo : IExpr
  pub hi : IExpr
  pub next : ℕ
  pub reads : List Looplet
  pub counts : List Bool
  pub body : Body S
  pub pins : ℕ → Option ℤ
  pub steady : ℕ → Bool

-- a machine stands for a state; `pay` is what a walker's stop brings in
pub record Sense (S : Type 0) : Type 1 where
  pub stands : S → Machine → Type 0
  pub pay : S → S

abbrev pub paid_if : {S : Type 0} → (S → S) → Bool → S → S
paid_if pay stopped s = if stopped then pay s else s

-- what a stop before so many further coordinates brings in
abbrev pub paid_at : {S : Type 0} → (S → S) → ℕ → Bool → S → S
paid_at pay zero stopped s = s
paid_at pay (suc n) stopped s = paid_if pay stopped s

-- what the nest's looplets show at a coordinate of its region
abbrev pub views_of : {S : Type 0} → Store → List ℤ → Nest S → ℤ → List View
views_of ts ls n i = views ts ls n.reads (value ts ls n.hi) i

-- the nest at a coordinate
abbrev pub at_act : {S : Type 0} → (S → S) → Store → List ℤ → Nest S → Flags → ℤ → S → S
at_act pay ts ls n f i s = n.body (seens (views_of ts ls n i)) f.begins i (paid_if pay f.stopped s)

-- the flags of the coordinate after it
abbrev pub at_flags : {S : Type 0} → Store → List ℤ → Nest S → ℤ → Flags
at_flags ts ls n i = record {
  begins = any_ends (views_of ts ls n i);
  stopped = any_counted n.counts (views_of ts ls n i);
}

-- so many coordinates of the nest
abbrev pub part : {S : Type 0} → (S → S) → Store → List ℤ → Nest S → ℕ → Flags → ℤ → S → S
part pay ts ls n = over (at_act pay ts ls n) (at_flags ts ls n)

abbrev pub fold : {S : Type 0} → (S → S) → Store → List ℤ → Nest S → S → S
fold pay ts ls n = part pay ts ls n (span (value ts ls n.lo) (value ts ls n.hi)) fresh (value ts ls n.lo)

-- ---- locals and tensors

-- a code of the nest leaves the local as it was
pub record Kept {S : Type 0} (n : Nest S) (x : ℕ) : Type 0 where
  pub below : x < n.next
  pub no_var : n.binds x ≡ false
  pub no_own : AnyOwns x n.reads → ⊥

-- the nest depends on no local and no tensor that its code changes
pub record Separate {S : Type 0} (n : Nest S) : Type 0 where
  pub lo : (x : ℕ) → Names x n.lo → Kept n x
  pub hi : (x : ℕ) → Names x n.hi → Kept n x
  pub reads : (x : ℕ) → AnyFree x n.reads → Kept n x
  pub pins : (x : ℕ) (v : ℤ) → n.pins x ≡ Some v → Kept n x
  pub lo_loads : (t : ℕ) → Loads t n.lo → n.steady t ≡ true
  pub hi_loads : (t : ℕ) → Loads t n.hi → n.steady t ≡ true
  pub loads : (t : ℕ) → AnyLoads t n.reads → n.steady t ≡ true
  pub binds_var : n.binds n.var ≡ true
  pub binds_below : (x : ℕ) → n.binds x ≡ true → x < n.next
  pub own_below : (x : ℕ) → AnyOwns x n.reads → x < n.next
  pub own_free : (x : ℕ) → AnyOwns x n.reads → n.binds x ≡ false
  pub own : AllSeparate n.reads

-- a region between 0 and 2^40
pub record Bounds (lo hi : ℤ) : Type 0 where
  pub low : pos 0 ≤ℤ lo
  pub low_top : lo ≤ℤ pos (2 ^ 40)
  pub high : pos 0 ≤ℤ hi
  pub high_top : hi ≤ℤ pos (2 ^ 40)

-- each looplet is sound in the region
abbrev pub AllSoundIn : Store → List ℤ → List Looplet → ℤ → ℤ → Type 0
AllSoundIn ts ls reads lo hi = (i : ℤ) → lo ≤ℤ i → i <ℤ hi → AllSound Near ts ls reads (λ j. j <ℤ hi) i

-- ---- what jumpers pass over

-- the body is nothing at the coordinate: a machine that stands for a state stands for what the body makes of it
abbrev pub Silent : {S : Type 0} → Sense S → Store → List ℤ → Nest S → ℤ → Type 0
Silent sense ts ls n i = (begins : Bool) (s : _) (m : Machine) → sense.stands s m
    → sense.stands (n.body (seens (views_of ts ls n i)) begins i s) m

-- the region goes on behind the coordinate, where some looplet that holds a jumper doesn't stop
pub record Passes {S : Type 0} (ts : Store) (ls : List ℤ) (n : Nest S) (i : ℤ) : Type 0 where
  pub from : value ts ls n.lo ≤ℤ i
  pub inside : (i +ℤ pos 1) <ℤ value ts ls n.hi
  pub by : AnyPasses n.reads (views_of ts ls n i)

-- The condition on jumpers, in given locals. At a coordinate that one may pass over, the body is nothing; and where no
-- part ends there, at the next one it does the same whether a part begins or not.
pub record Jumps {S : Type 0} (sense : Sense S) (ts : Store) (ls : List ℤ) (n : Nest S) : Type 0 where
  pub simple : AllSimplyJump n.reads
  pub silent : (i : ℤ) → Passes ts ls n i → Silent sense ts ls n i
  pub flagless : (i : ℤ) → Passes ts ls n i → any_ends (views_of ts ls n i) ≡ false → (s : S)
      → n.body (seens (views_of ts ls n (i +ℤ pos 1))) false (i +ℤ pos 1) s
      ≡ n.body (seens (views_of ts ls n (i +ℤ pos 1))) true (i +ℤ pos 1) s

-- ---- what code means

-- a machine in which the nest can be run: `ts` has the tensors that it loads from
pub record Fits {S : Type 0} (layout : Layout) (ts : Store) (m : Machine) (n : Nest S) : Type 0 where
  pub live : m.cut ≡ false
  pub locals : length m.locals ≡ layout.locals
  pub steady : (t : ℕ) → n.steady t ≡ true → seen m t ≡ ts t
  pub pinned : (x : ℕ) (v : ℤ) → n.pins x ≡ Some v → slice_index_or m.locals x (pos 0) ≡ v
  pub bounds : Bounds (value ts m.locals n.lo) (value ts m.locals n.hi)
  pub sound : AllSoundIn ts m.locals n.reads (value ts m.locals n.lo) (value ts m.locals n.hi)

-- one machine is what the nest leaves of the other; of a machine that was cut only what it stands for is said
pub record Does {S : Type 0} (sense : Sense S) (ts : Store) (s : S) (m m' : Machine) (n : Nest S) : Type 0 where
  pub done : sense.stands (fold sense.pay ts m.locals n s) m'
  pub long : length m'.locals ≡ length m.locals
  pub kept : m'.cut ≡ false → (x : ℕ) → Kept n x
      → slice_index_or m'.locals x (pos 0) ≡ slice_index_or m.locals x (pos 0)
  pub steady : m'.cut ≡ false → (t : ℕ) → n.steady t ≡ true → seen m' t ≡ seen m t

-- the code means the nest in a sense
pub record Means {S : Type 0} (layout : Layout) (sense : Sense S) (c : Code) (n : Nest S) : Type 0 where
  pub does : (ts : Store) (s : S) (m : Machine) → Fits layout ts m n → Jumps sense ts m.locals n → sense.stands s m
      → Does sense ts s m (meaning layout c m) n

-- the code means the nest, and the turn that is counted behind it is paid
pub record MeansCounted {S : Type 0} (layout : Layout) (sense : Sense S) (c : Code) (n : Nest S) : Type 0 where
  pub does : (ts : Store) (s : S) (m : Machine) → Fits layout ts m n → Jumps sense ts m.locals n → sense.stands s m
      → Does sense ts s m (count_turn (meaning layout c m)) n
