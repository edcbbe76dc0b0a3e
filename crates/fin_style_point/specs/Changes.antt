-- One update for all coordinates of a region, where the body is that update at each of them.
use Rattle.std.specs.Prelude.{◌≡◌, ◌≢◌, ℕ, Bool, true, false, if◌then◌else◌, List, [], ◌∷◌, ◌++◌, map, length, ℤ, pos, slice_index_or}
use Rattle.fin_base.specs.Words.{IsWord}
use Rattle.fin_base.specs.declared.reduce.Reduce.{Reduce}
use Rattle.fin_base.specs.declared.reduce.Reduce.TheVariants.{Add, Mul, Min, Max, And, Or, Xor, Put}
use Rattle.fin_tensor.specs.TensorFunction.{value_at}
use Rattle.fin_tensor.specs.Building.{Building}
use Rattle.fin_ast.specs.Dense.{Setting, shape_at}
use Rattle.fin_ir.specs.declared.expression.IExpr.{IExpr}
use Rattle.fin_ir.specs.declared.expression.IExpr.TheVariants.{Num, Times}
use Rattle.fin_ir.specs.declared.code.Code.{Code}
use Rattle.fin_ir.specs.declared.code.Code.TheVariants.{Seq, When, Update, Charge}
use Rattle.fin_ir.specs.declared.layout.Layout.{Layout}
use Rattle.fin_ir.specs.Machine.{Machine}
use Rattle.fin_ir.specs.Value.{value_in}
use Rattle.fin_ir.specs.Meaning.{meaning_all}
use Rattle.fin_stage.specs.Stages.{Built, stage_at}
use Rattle.fin_stage.specs.Staged.{Run, worked, regular, tensors_of}
use Rattle.fin_stage.specs.Trailing.{Monotone, skipped}
use Rattle.fin_read.specs.Reads.{in_box}
use Rattle.fin_looplet.specs.Cut.{minus}
use Rattle.fin_looplet.specs.View.{Store}
use Rattle.fin_looplet.specs.Lists.{seens}
use Rattle.fin_nest.specs.Related.{Start, Live}
use Rattle.fin_nest.specs.Nests.{Nest, views_of, Kept, Separate, Fits}
use Rattle.fin_nest.specs.Senses.{runs, Tallied, turns, Advances}
use Rattle.fin_nest.specs.Both.{in_run}
use Rattle.fin_nest.specs.Courses.{Behind, nest_with, Meant}
use Rattle.fin_style_point.specs.declared.nest.Nest as plain
use Rattle.fin_style_point.specs.declared.changing.Change.{Change}
use Rattle.fin_style_point.specs.Steps.{AllFlat, within_code}
use Rattle.fin_style_point.specs.Parts.{all_looplets, course_of}

-- ---- the code

-- the value that does what the change's value does at each coordinate from `lo` on and before `hi`
abbrev pub repeated_value : Change → IExpr → IExpr → IExpr
repeated_value c lo hi = Times c.by c.value (minus hi lo)

abbrev pub update_code : Change → IExpr → IExpr → Code
update_code c lo hi = Update c.tensor c.at c.by (repeated_value c lo hi)

-- the update, where its own coordinates lie in the box
abbrev pub put_code : List ℕ → Change → IExpr → IExpr → Code
put_code shape c lo hi = When (in_box shape c.at) (update_code c lo hi)

-- behind what brings its parts into locals, and the work of a coordinate and of an update
abbrev pub once_code : List Code → Code → Code
once_code before update = Seq (before ++ Charge (Num (pos 2)) ∷ update ∷ [])

abbrev pub at_once_code : plain.Nest → List ℕ → Change → Code
at_once_code n shape c = within_code n.lo n.hi (once_code c.before (put_code shape c n.lo n.hi))

-- ---- a body that is one update

-- the work of a piece, which its first coordinate bears
abbrev pub paid_first : Bool → Run → Run
paid_first begins r = if begins then worked 2 r else r

-- a run that differs from another in its work and in one tensor, and reads the same
pub record Beside (w : Setting) (t : ℕ) (r q : Run) : Type 0 where
  pub tensors : tensors_of w q ≡ tensors_of w r
  pub others : (j : ℕ) → j ≢ t → stage_at q.stages j ≡ stage_at r.stages j

-- these join words bit by bit
abbrev pub is_bitwise : Reduce → Bool
is_bitwise Add = false
is_bitwise Mul = false
is_bitwise Min = false
is_bitwise Max = false
is_bitwise And = true
is_bitwise Or = true
is_bitwise Xor = true
is_bitwise Put = false

-- the value in the machine is a word, and so is each that is being built
pub record Worded (r : Run) (m : Machine) (c : Change) : Type 0 where
  pub value : IsWord (value_in m c.value)
  pub built : (b : Building) → stage_at r.stages c.tensor ≡ Built b → (cs : List ℕ) → IsWord (value_at b.function cs)

-- with other locals
abbrev pub behind : Machine → List ℤ → Machine
behind m locals = record m { locals = locals }

-- codes that bring the parts of a change into locals that the nest doesn't keep
pub record Prepared (layout : Layout) (n : Nest Run) (before : List Code) (m : Machine) : Type 0 where
  pub locals : List ℤ
  pub is : meaning_all layout before m ≡ record m { locals = locals }
  pub long : length locals ≡ length m.locals
  pub kept : (x : ℕ) → Kept n x → slice_index_or locals x (pos 0) ≡ slice_index_or m.locals x (pos 0)

-- At each coordinate the body is the update by what the change's expressions are behind those codes, in a machine that
-- did what the run does before the first coordinate. It may go by what the run reads, which the update leaves as it is.
pub record IsUpdate (layout : Layout) (s : Start) (n : Nest Run) (shape : List ℕ) (c : Change) : Type 0 where
  pub shape_is : shape ≡ shape_at s.setting c.tensor
  pub loose : n.steady c.tensor ≡ false
  pub advances : (ts : Store) (m : Machine) → Fits layout ts m n → (begins : Bool) (i : ℤ) (r : Run)
      → Advances r (n.body (seens (views_of ts m.locals n i)) begins i r)
  pub monotone : (ts : Store) (m : Machine) → Fits layout ts m n → (begins : Bool) (i : ℤ)
      → Monotone (n.body (seens (views_of ts m.locals n i)) begins i)
  pub prepared : (ts : Store) (m : Machine) → Fits layout ts m n → Prepared layout n c.before m
  pub does : (ts : Store) (m : Machine) (fits : Fits layout ts m n) (r q : Run) → Live s [] r m
      → Beside s.setting c.tensor r q → (begins : Bool) (i : ℤ)
      → regular (n.body (seens (views_of ts m.locals n i)) begins i q) ≡ true
      → n.body (seens (views_of ts m.locals n i)) begins i q
      ≡ skipped s.setting c.tensor (map (value_in (behind m (prepared ts m fits).locals)) c.at) c.by
      (value_in (behind m (prepared ts m fits).locals) c.value) (paid_first begins q)
  -- of other reductions no word is asked
  pub words : is_bitwise c.by ≡ true → (ts : Store) (m : Machine) (fits : Fits layout ts m n) (r : Run) → Live s [] r m
      → (i : ℤ) → regular (n.body (seens (views_of ts m.locals n i)) true i r) ≡ true
      → Worded r (behind m (prepared ts m fits).locals) c

-- the same body over tallies
abbrev pub tallied : Behind Run → Behind Tallied
tallied b = record {
  body = λ ss begins i. in_run (b.body ss begins i);
  binds = b.binds;
  pins = b.pins;
  steady = b.steady;
  counts = b.counts;
}

-- ---- the law

-- over runs and lookups its code means each nest whose body is the update, in both senses
abbrev pub UpdatesAreAtOnce : Type 0
UpdatesAreAtOnce = (s : Start) (layout : Layout) (n : plain.Nest) (b : Behind Run) (shape : List ℕ) (c : Change)
    → AllFlat (all_looplets n) → Separate (nest_with b (course_of n))
    → IsUpdate layout s (nest_with b (course_of n)) shape c
    → Meant layout (runs s) (nest_with b (course_of n)) (at_once_code n shape c)
    × Meant layout (turns s) (nest_with (tallied b) (course_of n)) (at_once_code n shape c)
