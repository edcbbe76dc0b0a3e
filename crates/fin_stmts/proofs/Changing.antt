-- What is left of a loop's body at a point changes no tensor that is left as it is around, since more is known there.
use Rattle.std.proofs.Common.{◌≡◌, ℕ, Bool, true, false, List, Option, Some, None, ℤ, refl, sym, ◌∙◌}
use Rattle.std.specs.Option.{option_or}
use Rattle.fin_ast.specs.declared.tree.Stmt.{Stmt}
use Rattle.fin_ast.specs.Literals.{are_worded}
use Rattle.fin_simp.specs.Left.{Marks}
use Rattle.fin_simp.specs.Numbered.{Here}
use Rattle.fin_simp.specs.Work.{Context, marks_within}
use Rattle.fin_simp.specs.Wording.{KnowsWords, StaysIn, Further}
use Rattle.fin_style_point.specs.declared.nest.Nest.{Nest}
use Rattle.fin_perform.specs.Places.{change_all}
use Rattle.fin_loops.specs.Loops.{Loop, around, inner, changed_in}
use Rattle.fin_loops.specs.Points.{marks_at_point, ChangesNoMore}
use Rattle.fin_work.proofs.Changing.{fewer_change}
use Rattle.fin_work.proofs.Written.{written_covers}

no_more : (body : List Stmt) (h : Here) (ctx : Context) (m : Marks) → are_worded body ≡ true → KnowsWords m → Further (marks_within ctx) m
    → (t : ℕ) → change_all body h ctx t ≡ false → change_all body h (Some m) t ≡ false
no_more body h None m worded words further t e = written_covers t body h m e
no_more body h (Some k) m worded words further t e = fewer_change body h k m worded words further t e

stays : (a b : Option ℤ) → StaysIn a (option_or a b)
stays None b = tt
stays (Some n) b = refl

same : (a : Option ℤ) → StaysIn a a
same None = tt
same (Some n) = refl

further : (l : Loop) (n : Nest) → Further (around l) (marks_at_point l n)
further l n = record {
  reads = λ k. stays ((around l).reads k) _;
  tests = λ k. stays ((around l).tests k) _;
  vars = λ x. same ((around l).vars x);
}

module _ (l : Loop) (n : Nest) (worded : are_worded l.body ≡ true) (words : KnowsWords (marks_at_point l n)) where
  pub left_at_point : (t : ℕ) → changed_in l t ≡ false → change_all l.body l.here (Some (marks_at_point l n)) t ≡ false
  left_at_point = no_more l.body l.here (inner l) (marks_at_point l n) worded words (further l n)

  pub changes_no_more : ChangesNoMore l (marks_at_point l n)
  changes_no_more t e = by (changed_in l t) refl where
    by : (b : Bool) → changed_in l t ≡ b → changed_in l t ≡ true
    by true k = k
    by false k = let h : false ≡ true = sym (left_at_point t k) ∙ e in cc
