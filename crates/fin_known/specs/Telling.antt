-- What the looplets of a nest tell of reads and tests by their heads, along all of its coordinates.
use Rattle.std.specs.Prelude.{ℕ, Bool, true, false, ◌&&◌, nat_eq, if◌then◌else◌, ℤ, pos, List, [], ◌∷◌, ◌++◌, map, Option, Some, None}
use Rattle.std.specs.Ordering.{int_eq}
use Rattle.fin_ir.specs.declared.expression.IExpr.{IExpr}
use Rattle.fin_ir.specs.declared.expression.IExpr.TheVariants.{Num}
use Rattle.fin_looplet.specs.declared.looplet.Leaf.{Leaf}
use Rattle.fin_looplet.specs.declared.looplet.Leaf.TheVariants.{Fill, Value, Sub}
use Rattle.fin_looplet.specs.declared.looplet.Looplet.{Looplet}
use Rattle.fin_looplet.specs.declared.looplet.Looplet.TheVariants.{Run, Lookup}
use Rattle.fin_nest.specs.declared.entries.Numbered.{Numbered}
use Rattle.fin_nest.specs.Entries.{numbers}
use Rattle.fin_style_point.specs.declared.nest.Nest.{Nest}
use Rattle.fin_simp.specs.declared.facts.Gap.{Gap}
use Rattle.fin_simp.specs.declared.facts.Known.{Known}
use Rattle.fin_simp.specs.declared.facts.Facts.{Facts}
use Rattle.fin_simp.specs.Left.{Marks}
use Rattle.fin_simp.specs.Facts.{marks_of}
use Rattle.fin_drive.specs.Turns.{Slot, Driving, Waiting, Testing}

-- ---- one looplet

abbrev pub leaf_fill : Leaf → Option ℤ
leaf_fill (Fill f) = Some f
leaf_fill (Value e) = None
leaf_fill (Sub tensor level place there) = None

-- a run of a fill is a gap, and so is a lookup of one, at each coordinate
abbrev pub fill_told : Looplet → Option ℤ
fill_told (Run leaf) = leaf_fill leaf
fill_told (Lookup coord leaf) = leaf_fill leaf
fill_told _ = None

abbrev pub truth_of_number : ℤ → Option Bool
truth_of_number n = if int_eq n (pos 1) then Some true else (if int_eq n (pos 0) then Some false else None)

abbrev pub truth_of_expr : IExpr → Option Bool
truth_of_expr (Num n) = truth_of_number n
truth_of_expr _ = None

abbrev pub leaf_truth : Leaf → Option Bool
leaf_truth (Fill f) = None
leaf_truth (Value e) = truth_of_expr e
leaf_truth (Sub tensor level place there) = None

-- a run of 1 or 0 is a test that holds or fails
abbrev pub truth_told : Looplet → Option Bool
truth_told (Run leaf) = leaf_truth leaf
truth_told _ = None

-- ---- looplets under their numbers

-- Of a read, where the loop drives it: the first driven one with its number.
abbrev pub fill_at : List Bool → List Numbered → ℕ → Option ℤ
fill_at [] es k = None
fill_at (d ∷ ds) [] k = None
fill_at (d ∷ ds) (e ∷ es) k = if d && nat_eq e.number k then fill_told e.looplet else fill_at ds es k

-- of a test
abbrev pub truth_at : List Numbered → ℕ → Option Bool
truth_at [] k = None
truth_at (e ∷ es) k = if nat_eq e.number k then truth_told e.looplet else truth_at es k

-- ---- as facts

abbrev pub and_gap : ℕ → Option ℤ → List Gap → List Gap
and_gap k None gs = gs
and_gap k (Some f) gs = record { read = k; fill = f } ∷ gs

abbrev pub gaps_told : (ℕ → Option ℤ) → List Numbered → List Gap
gaps_told told [] = []
gaps_told told (e ∷ es) = and_gap e.number (told e.number) (gaps_told told es)

abbrev pub and_test : ℕ → Option Bool → List Known → List Known
and_test k None ts = ts
and_test k (Some b) ts = record { test = k; holds = b } ∷ ts

abbrev pub tests_told : (ℕ → Option Bool) → List Numbered → List Known
tests_told told [] = []
tests_told told (e ∷ es) = and_test e.number (told e.number) (tests_told told es)

-- what is known around, and what the nest tells; `ds` says which of its reads the loop drives
abbrev pub marks_told : Facts → List Bool → Nest → Marks
marks_told around ds n =
    marks_of (around.gaps.now ++ gaps_told (fill_at ds n.reads) n.reads)
    (around.known.now ++ tests_told (truth_at n.masks) n.masks) around.bound.now

-- ---- what each looplet is for

abbrev pub slot_of : Bool → ℕ → Slot
slot_of d k = if d then Driving k else Waiting

abbrev pub read_slots : List Bool → List ℕ → List Slot
read_slots ds [] = []
read_slots [] (k ∷ ks) = Waiting ∷ read_slots [] ks
read_slots (d ∷ ds) (k ∷ ks) = slot_of d k ∷ read_slots ds ks

abbrev pub slots_of : List Bool → Nest → List Slot
slots_of ds n = read_slots ds (numbers n.reads) ++ map Testing (numbers n.masks)
