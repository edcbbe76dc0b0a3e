-- A nest along which one update is left that is the same at each coordinate, done in a loop that is paid at once.
use Rattle.std.specs.Prelude.{◌≡◌, ◌≤◌, true, List, [], ◌∷◌, Some, pos}
use Rattle.fin_base.specs.declared.terms.Op.TheVariants as op
use Rattle.fin_ir.specs.declared.code.Code.{Code}
use Rattle.fin_ir.specs.declared.code.Code.TheVariants.{Seq, When, ForLoop, Charge}
use Rattle.fin_ir.specs.declared.expression.IExpr.TheVariants.{Num, Two}
use Rattle.fin_style_point.specs.declared.nest.Nest.{Nest}
use Rattle.fin_style_point.specs.Parts.{all_looplets}
use Rattle.fin_style_point.specs.Steps.{AllFlat}
use Rattle.fin_descend.specs.declared.lowered.Lowered.{Lowered}
use Rattle.fin_descend.specs.Promises.{MeansIn}
use Rattle.fin_perform.specs.Meanings.{Means}
use Rattle.fin_perform.specs.Once.{once_deed}
use Rattle.fin_loops.specs.Loops.{Loop, slots, OfLoop}
use Rattle.fin_loops.specs.Points.{AreSettled, marks_at_point, ChangesNoMore}
use Rattle.fin_loops.specs.Told.{is_fixed_along}

-- the work of a turn and of an update, where there is a coordinate; and the codes of the update at each of them
abbrev pub fixed_code : Nest → List Code → Code
fixed_code n cs = Seq (When (Two op.Lt n.lo n.hi) (Charge (Num (pos 2))) ∷ ForLoop n.var n.lo n.hi (Seq cs) ∷ [])

-- Along runs and lookups it means the nest, where its codes do the update and pay nothing.
abbrev pub FixedMeans : Type 0
FixedMeans = (l : Loop) (n : Nest) (code : Lowered) (cs : List Code) → n.var ≡ l.var → AllFlat (all_looplets n)
    → AreSettled (slots l) (all_looplets n) → is_fixed_along l n ≡ true → ChangesNoMore l (marks_at_point l n)
    → code.code ≡ fixed_code n cs → n.next ≤ code.room
    → Means l.checked n.next code.room cs (once_deed l.body l.here (Some (marks_at_point l n)))
    → MeansIn (OfLoop l) code n
