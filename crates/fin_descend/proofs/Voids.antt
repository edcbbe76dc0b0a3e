-- A nest whose ends are known to be the wrong way round has no coordinate: no code means it.
use Rattle.std.proofs.Common.{◌≡◌, ℕ, true, refl, sym, ap, subst, ℤ, List, arith}
use borrow.Author.Differences.{le_out}
use Rattle.fin_ir.specs.declared.code.Code.{Code}
use Rattle.fin_ir.specs.declared.code.Code.TheVariants.{Skip}
use Rattle.fin_ir.specs.declared.layout.Layout.{Layout}
use Rattle.fin_ir.specs.Machine.{Machine}
use Rattle.fin_ir.specs.Meaning.{meaning, span}
use Rattle.fin_ir.proofs.Codes.{meaning_skip}
use Rattle.fin_ir.proofs.Loops.{span_is}
use Rattle.fin_stage.specs.Staged.{Run}
use Rattle.fin_looplet.specs.View.{Store, value}
use Rattle.fin_nest.specs.Related.{Start}
use Rattle.fin_nest.specs.Nests.{Nest, Does, Means, fresh, fold, part}
use Rattle.fin_nest.specs.Senses.{runs}
use Rattle.fin_nest.specs.Courses.{Behind, nest_with, Meant}
use Rattle.fin_nest.proofs.Both.{turns_are_free}
use Rattle.fin_style_point.specs.declared.nest.Nest as point
use Rattle.fin_style_point.specs.Parts.{course_of}
use Rattle.fin_style_step.specs.Limited.{is_void}
use Rattle.fin_style_step.proofs.Limiting.{void_is}
use Rattle.fin_descend.specs.declared.lowered.Lowered.{Lowered}
use Rattle.fin_descend.specs.Promises.{Family, MeansIn}

module _ (n : point.Nest) (void : is_void n.lo n.hi ≡ true) where
  no_coordinate : (ts : Store) (ls : List ℤ) → span (value ts ls n.lo) (value ts ls n.hi) ≡ 0
  no_coordinate ts ls =
      let turned = le_out (value ts ls n.hi) (value ts ls n.lo) (void_is ts ls n.lo n.hi void) in
      omega (arith, turned, span_is (value ts ls n.lo) (value ts ls n.hi))

  module _ (s : Start) (layout : Layout) (b : Behind Run) where
    abbrev nest : Nest Run
    nest = nest_with b (course_of n)

    still : (ts : Store) (r : Run) (m : Machine) → (runs s).stands r m → Does (runs s) ts r m m nest
    still ts r m stands =
        let lo = value ts m.locals n.lo in
        let nothing : fold (λ y. y) ts m.locals nest r ≡ r = ap (λ (k : ℕ). part (λ y. y) ts m.locals nest k fresh lo r) (no_coordinate ts m.locals) in
        record { done = subst (λ (y : Run). (runs s).stands y m) (sym nothing) stands; long = refl; kept = λ d x k. refl; steady = λ d t k. refl }

    means : Means layout (runs s) Skip nest
    means = record {
      does = λ ts r m fits jumps stands. subst (λ (y : Machine). Does (runs s) ts r m y nest) (sym (meaning_skip layout m)) (still ts r m stands);
    }

    skipped : Meant layout (runs s) nest Skip
    skipped = record { means = means; counted = λ none. turns_are_free s layout Skip nest means }

  pub void_means : (family : Family) (l : Lowered) → l.code ≡ Skip → MeansIn family l n
  void_means family l skip s layout b stands fits = subst (λ (c : Code). Meant layout (runs s) (nest_with b (course_of n)) c) (sym skip) (skipped s layout b)
