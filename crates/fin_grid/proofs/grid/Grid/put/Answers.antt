use Rattle.std.proofs.Common.{rules, ◌≡◌, ◌≢◌, ◌∙◌, ap, FitsSigned, w64, arith, of_z, List, ℕ}
use Rattle.std.specs.FinMap.{from_entries}
use Rattle.std.proofs.lemmas.Int.{ints, to_z-of_z}
use Rattle.fin_tensor.specs.TensorFunction.{TensorFunction, with_value}
use Rattle.std.proofs.Common.{IsTrue, subst, sym}
use Rattle.fin_tensor.specs.TensorFunction.{is_in_box}
use Rattle.fin_tensor.proofs.Functions.{still_is, gives_fill, gives_other}
use Rattle.fin_grid.proofs.grid.Grid.put.Goals as goal

pub returns-then-value-self-clause-ok : goal.returns-then-value-self-clause-ok
returns-then-value-self-clause-ok c =
    let f : FitsSigned w64 c.self.inside.fill = search rules in
    let e : c.args.value ≡ c.self.inside.fill = omega (arith, ints, c.if-value-self.true) in
    gives_fill _ _ c.self.inside.cells.entries c.remove.new.self.entries c.args.at.now c.args.value e c.remove.ensures.updates.0
    ∙ ap (λ (t : TensorFunction). with_value t c.args.at.now c.args.value) c.self.view_is

pub returns-in_ok-insert-clause-ok : goal.returns-in_ok-insert-clause-ok
returns-in_ok-insert-clause-ok c =
    let f : FitsSigned w64 c.self.inside.fill = search rules in
    let n : c.args.value ≢ c.self.inside.fill = λ e. c.if-value-self.false (ap (of_z w64) e) in
    gives_other _ _ c.self.inside.cells.entries c.insert.new.self.entries c.in_ok-key.key c.args.value _ (to_z-of_z w64 c.args.value c.ranges.value) n c.in_ok-insert.ensures.updates.0
    ∙ ap (λ (k : List ℕ). with_value (record { shape = c.self.inside.shape; fill = c.self.inside.fill; cells = from_entries c.self.inside.cells.entries }) k c.args.value) c.in_ok-key.ensures
    ∙ ap (λ (t : TensorFunction). with_value t c.args.at.now c.args.value) c.self.view_is

within : (f : TensorFunction) (g : TensorFunction) (cs : List ℕ) → f ≡ g → IsTrue (is_in_box g.shape cs) → IsTrue (is_in_box f.shape cs)
within f g cs e h = subst (λ (t : TensorFunction). IsTrue (is_in_box t.shape cs)) (sym e) h

pub invariant_of-self : goal.invariant_of-self
invariant_of-self c =
    let fit : FitsSigned w64 c.self.inside.fill = search rules in
    let e : c.args.value ≡ c.self.inside.fill = omega (arith, ints, c.if-value-self.true) in
    still_is _ _ c.args.at.now c.args.value c.self.invariant (within _ _ _ c.self.view_is c.requires.inside) c.ranges.value
    (gives_fill _ _ c.self.inside.cells.entries c.remove.new.self.entries c.args.at.now c.args.value e c.remove.ensures.updates.0)

pub invariant_of-self-in_ok-insert : goal.invariant_of-self-in_ok-insert
invariant_of-self-in_ok-insert c =
    let n : c.args.value ≢ c.self.inside.fill = λ e. c.if-value-self.false (ap (of_z w64) e) in
    still_is _ _ c.args.at.now c.args.value c.self.invariant (within _ _ _ c.self.view_is c.requires.inside) c.ranges.value
    (gives_other _ _ c.self.inside.cells.entries c.insert.new.self.entries c.in_ok-key.key c.args.value _ (to_z-of_z w64 c.args.value c.ranges.value) n c.in_ok-insert.ensures.updates.0
    ∙ ap (λ (k : List ℕ). with_value (record { shape = c.self.inside.shape; fill = c.self.inside.fill; cells = from_entries c.self.inside.cells.entries }) k c.args.value) c.in_ok-key.ensures)
