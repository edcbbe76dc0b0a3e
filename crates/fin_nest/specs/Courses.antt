-- The course of a loop, as a step changes it, and what stands behind it, as each step leaves it.
use Rattle.std.specs.Prelude.{◌≡◌, ℕ, List, Bool, Option, ℤ}
use Rattle.std.specs.List.{AllZip}
use Rattle.fin_ir.specs.declared.expression.IExpr.{IExpr}
use Rattle.fin_ir.specs.declared.code.Code.{Code}
use Rattle.fin_ir.specs.declared.layout.Layout.{Layout}
use Rattle.fin_looplet.specs.declared.looplet.Looplet.{Looplet}
use Rattle.fin_looplet.specs.Weight.{weight_of}
use Rattle.fin_nest.specs.Nests.{Body, Nest, Sense, Means, MeansCounted}
use Rattle.fin_nest.specs.Frames.{fill}

-- from `lo` on and before `hi`, with the variable in the local `var`, the first free local, and a looplet for each
-- read and mask
pub record Course : Type 0 where
  pub var : ℕ
  pub lo : IExpr
  pub hi : IExpr
  pub next : ℕ
  pub reads : List Looplet

-- what its body does, binds, asks of locals and leaves as it is, and whose stops count
pub record Behind (S : Type 0) : Type 0 where
  pub body : Body S
  pub binds : ℕ → Bool
  pub pins : ℕ → Option ℤ
  pub steady : ℕ → Bool
  pub counts : List Bool

abbrev pub nest_with : {S : Type 0} → Behind S → Course → Nest S
nest_with b c = record {
  var = c.var;
  binds = b.binds;
  lo = c.lo;
  hi = c.hi;
  next = c.next;
  reads = c.reads;
  counts = b.counts;
  body = b.body;
  pins = b.pins;
  steady = b.steady;
}

abbrev pub course_weight : Course → ℕ
course_weight c = weight_of c.reads c.lo c.hi

-- The code means the nest, and one of no weight, which may be a turn of a loop, with the turn counted behind it too.
pub record Meant {S : Type 0} (layout : Layout) (sense : Sense S) (n : Nest S) (c : Code) : Type 0 where
  pub means : Means layout sense c n
  pub counted : weight_of n.reads n.lo n.hi ≡ 0 → MeansCounted layout sense c n

-- each code means its part
abbrev pub MeantAll : {S : Type 0} → Layout → Sense S → Behind S → List Course → List Code → Type 0
MeantAll layout sense b = AllZip (λ part c. Meant layout sense (nest_with b part) c)

-- codes that mean the parts, in the frame, mean the nest
abbrev pub Fills : {S : Type 0} → Layout → Sense S → Behind S → Code → List Course → Course → Type 0
Fills layout sense b frame parts c =
    (codes : List Code) → MeantAll layout sense b parts codes → Meant layout sense (nest_with b c) (fill frame codes)
