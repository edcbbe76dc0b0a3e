-- What the body of a loop's nest does at a coordinate, by what its looplets see there.
use Rattle.std.specs.Prelude.{ℕ, Bool, false, not, ◌&&◌, ◌||◌, nat_eq, if◌then◌else◌, ℤ, List, [], ◌∷◌, Option, Some, None, slice_set}
use Rattle.std.specs.List.{list_all}
use Rattle.std.specs.Option.{option_or}
use Rattle.fin_ast.specs.Value.{Numbers}
use Rattle.fin_stage.specs.Staged.{Run, Action, worked}
use Rattle.fin_looplet.specs.View.{Sight, gap, word, position, absent, Seen}
use Rattle.fin_nest.specs.Nests.{Body}
use Rattle.fin_simp.specs.Left.{Marks}
use Rattle.fin_simp.specs.Rest.{Access, Rest, is_none_kind}
use Rattle.fin_simp.specs.Work.{is_in, names_var, is_one_update, costing, first_share}

-- ---- what a looplet of the nest is for

-- a read that the loop drives, by its number; one that it doesn't drive; a mask, by the number of its test
pub data Slot : Type 0 where
  Driving : ℕ → Slot
  Waiting : Slot
  Testing : ℕ → Slot

-- ---- what is known by what is seen

abbrev pub fill_of : Sight → Option ℤ
fill_of (gap f) = Some f
fill_of (word z) = None
fill_of (position tensor level place) = None
fill_of absent = None

abbrev pub word_of : Sight → Option ℤ
word_of (gap f) = None
word_of (word z) = Some z
word_of (position tensor level place) = None
word_of absent = None

-- of a read with that number
abbrev pub fill_by : Slot → Seen → ℕ → Option ℤ
fill_by (Driving j) s k = if nat_eq j k then fill_of s.sight else None
fill_by Waiting s k = None
fill_by (Testing j) s k = None

-- of a test with that number
abbrev pub word_by : Slot → Seen → ℕ → Option ℤ
word_by (Driving j) s k = None
word_by Waiting s k = None
word_by (Testing j) s k = if nat_eq j k then word_of s.sight else None

-- whether the read with that number varies
abbrev pub varies_by : Slot → Seen → ℕ → Bool
varies_by (Driving j) s k = nat_eq j k && s.varies
varies_by Waiting s k = false
varies_by (Testing j) s k = false

-- the first that knows something
abbrev pub first_known : (Slot → Seen → ℕ → Option ℤ) → List Slot → List Seen → ℕ → Option ℤ
first_known by [] ss k = None
first_known by (x ∷ xs) [] k = None
first_known by (x ∷ xs) (s ∷ ss) k = option_or (by x s k) (first_known by xs ss k)

abbrev pub any_varies : List Slot → List Seen → ℕ → Bool
any_varies [] ss k = false
any_varies (x ∷ xs) [] k = false
any_varies (x ∷ xs) (s ∷ ss) k = varies_by x s k || any_varies xs ss k

-- ---- the body

-- A loop in a run, but for its reads and masks: its variable, what each looplet is for, what is left of its body and
-- what that does, what is known around it, and the numbers that are bound.
pub record Watched : Type 0 where
  pub var : ℕ
  pub slots : List Slot
  pub rest : Marks → Rest
  pub body : Marks → Action
  pub around : Marks
  pub vars : Numbers

-- what is known at a coordinate
abbrev pub marks_seen : Watched → List Seen → Marks
marks_seen x ss = record {
  reads = λ k. option_or (x.around.reads k) (first_known fill_by x.slots ss k);
  tests = λ k. option_or (x.around.tests k) (first_known word_by x.slots ss k);
  vars = x.around.vars;
}

abbrev pub rest_seen : Watched → List Seen → Rest
rest_seen x ss = x.rest (marks_seen x ss)

-- a single update that is the same at each coordinate of the piece
abbrev pub is_fixed_seen : Watched → List Seen → Rest → Bool
is_fixed_seen x ss rest =
    is_one_update rest.kind && not (is_in rest.vars x.var) && list_all (λ i. not (names_var x.var i)) rest.targets
    && list_all (λ (a : Access). not (any_varies x.slots ss a.read)) rest.reads

-- nothing, a share of an update that is done at once, or a turn and the body
abbrev pub seen_turn : Watched → Body Run
seen_turn x ss begins i r =
    let here = marks_seen x ss in
    let inner = slice_set x.vars x.var i in
    if is_none_kind (x.rest here).kind then r
    else (if is_fixed_seen x ss (x.rest here) then costing (first_share begins) r (x.body here inner r)
    else x.body here inner (worked 1 r))
