-- Codes that perform, put together: as a sequence, one after another, behind a charge, and under other names.
use Rattle.std.proofs.Common.{◌≡◌, ℕ, List, [], ◌∷◌, ◌++◌, sym, ap, ◌∙◌, subst, arith}
use Rattle.fin_tensor.specs.declared.storage.Storage.{Storage}
use Rattle.fin_ast.specs.declared.checked.Checked.{Checked}
use Rattle.fin_ir.specs.declared.code.Code.{Code}
use Rattle.fin_ir.specs.declared.code.Code.TheVariants.{Seq}
use Rattle.fin_ir.specs.declared.expression.IExpr.TheVariants.{Num}
use Rattle.fin_ir.specs.declared.layout.Layout.{Layout}
use Rattle.fin_ir.specs.Machine.{Machine}
use Rattle.fin_ir.specs.Meaning.{meaning_all}
use Rattle.fin_ir.proofs.Codes.{meaning_seq}
use Rattle.fin_ir.proofs.Values.{value_num}
use Rattle.fin_stage.specs.Staged.{Run, worked}
use Rattle.fin_stage.proofs.Onward.{onward_worked}
use Rattle.fin_stage.proofs.Trailing.{worked_trails}
use Rattle.fin_nest.specs.Related.{Start}
use Rattle.fin_nest.specs.Senses.{runs, Advances}
use Rattle.fin_nest.specs.Performs.{Place, Left, Stay}
use Rattle.fin_nest.proofs.Senses.{advances, runs_over}
use Rattle.fin_nest.proofs.Lifting.{trailing_performs}
use Rattle.fin_nest.proofs.Performing.{charge_performs}
use Rattle.fin_nest.proofs.Statements.{all_append, performs_nothing, performs_then}
use Rattle.fin_perform.specs.Codes.{charge_of}
use Rattle.fin_perform.specs.Layouts.{layout_with, start_with}
use Rattle.fin_perform.specs.Performing.{Does}

-- ---- what takes nothing back

pub advances_still : (r : Run) → Advances r r
advances_still r = record { before = λ e. e; work = omega arith }

pub advances_then : (a b d : Run) → Advances a b → Advances b d → Advances a d
advances_then a b d x y = record { before = λ e. x.before (y.before e); work = omega (arith, x.work, y.work) }

module _ (c : Checked) (room : ℕ) (inputs : List Storage) (p : Place) where
  abbrev start : Start
  start = start_with c room inputs

  abbrev layout : Layout
  layout = layout_with c room

  -- codes and deeds that are the same
  pub does_as : (cs : List Code) (f g : Run → Run) → ((r : Run) → f r ≡ g r) → Does c room inputs p cs g → Does c room inputs p cs f
  does_as cs f g same d = record {
    performs = record {
      does = λ r m ready h. subst (λ (x : Run). (runs start).stands x (meaning_all layout cs m)) (sym (same r)) (d.performs.does r m ready h);
      leaves = d.performs.leaves;
    };
    advances = λ r. subst (Advances r) (sym (same r)) (d.advances r);
  }

  codes_as : (cs ds : List Code) (f : Run → Run) → ((m : Machine) → meaning_all layout cs m ≡ meaning_all layout ds m) → Does c room inputs p ds f → Does c room inputs p cs f
  codes_as cs ds f same d = record {
    performs = record {
      does = λ r m ready h. subst ((runs start).stands (f r)) (sym (same m)) (d.performs.does r m ready h);
      leaves = λ r m ready h. subst (λ (x : Machine). Left m x p) (sym (same m)) (d.performs.leaves r m ready h);
    };
    advances = d.advances;
  }

  -- codes as one
  pub seq_does : (cs : List Code) (f : Run → Run) → Does c room inputs p cs f → Does c room inputs p (Seq cs ∷ []) f
  seq_does cs f d = codes_as (Seq cs ∷ []) cs f (meaning_seq layout cs) d

  pub nothing_does : Does c room inputs p [] (λ r. r)
  nothing_does = record { performs = performs_nothing layout (runs start) p; advances = advances_still }

  -- one after another
  pub both_do : (cs ds : List Code) (f g : Run → Run) → Stay p p.facts → Does c room inputs p cs f → Does c room inputs p ds g → Does c room inputs p (cs ++ ds) (λ r. g (f r))
  both_do cs ds f g stay a b =
      codes_as (cs ++ ds) (Seq cs ∷ ds) (λ r. g (f r)) (λ m. all_append layout cs ds m ∙ sym (ap (meaning_all layout ds) (meaning_seq layout cs m))) (record {
        performs = performs_then layout (runs start) p (Seq cs) ds f g stay (runs_over start g b.advances) (seq_does cs f a).performs b.performs;
        advances = λ r. advances_then r (f r) (g (f r)) (a.advances r) (b.advances (f r));
      })

  charge_does : (n : ℕ) → Does c room inputs p (charge_of n ∷ []) (worked n)
  charge_does n = record {
    performs = trailing_performs start layout p (charge_of n ∷ []) (worked n) (λ r. advances r (worked n r) (onward_worked n r)) (λ r r' tr g. worked_trails n r r' tr)
        (charge_performs start p (Num _) n (λ m ready. value_num _ m.locals _));
    advances = λ r. advances r (worked n r) (onward_worked n r);
  }

  -- behind a charge
  pub paid_does : (n : ℕ) (cs : List Code) (f : Run → Run) → Stay p p.facts → Does c room inputs p cs f → Does c room inputs p (charge_of n ∷ cs) (λ r. f (worked n r))
  paid_does n cs f stay d = both_do (charge_of n ∷ []) cs (worked n) f stay (charge_does n) d
