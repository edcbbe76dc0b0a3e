use Rattle.std.proofs.Common.{◌∙◌, sym, ap, subst, take, List, ℕ, IsTrue, FitsSigned, w64, rules}
use Rattle.std.proofs.lemmas.Int.{to_z-of_z}
use Rattle.fin_tensor.specs.declared.format.Format.{Format}
use Rattle.fin_tensor.specs.TensorFunction.{is_in_box}
use Rattle.fin_tensor.specs.Building.{Building}
use Rattle.fin_build.specs.Entries.{Entry}
use Rattle.fin_build.proofs.Joining.{always_follows, joined_shape, joined_format, joined_more, inside_at}
use Rattle.fin_build.proofs.builder.Builder.join.Goals as goal

pub update-requires-clause-inside : goal.update-requires-clause-inside
update-requires-clause-inside c =
    let es = c.args.entries.now in
    let k = c.loop-entry.entry-index in
    let shape = ap (λ (b : Building). b.function.shape) c.loop-entry.invariant ∙ joined_shape c.args.by (take k es) c.args.self.now in
    subst (λ (ns : List ℕ). IsTrue (is_in_box ns c.as_slice.result.now)) (sym shape)
    (subst (λ (at : List ℕ). IsTrue (is_in_box c.args.self.now.function.shape at)) (sym c.as_slice.ensures)
    (subst (λ (e : Entry). IsTrue (is_in_box c.args.self.now.function.shape e.0)) (sym c.entry-item.is) (inside_at c.args.self.now.function.shape es k c.entry-item.result c.loop-entry-test.true c.requires.inside)))

pub update-requires-clause-follows : goal.update-requires-clause-follows
update-requires-clause-follows c =
    always_follows c.loop-entry.self c.args.self.now.format.levels c.as_slice.result.now
    (ap (λ (b : Building). b.format.levels) c.loop-entry.invariant ∙ ap (λ (fm : Format). fm.levels) (joined_format c.args.by (take c.loop-entry.entry-index c.args.entries.now) c.args.self.now)) c.requires.levels

pub loop-entry-preserved : goal.loop-entry-preserved
loop-entry-preserved c =
    let v : FitsSigned w64 c.entry-item.result.1 = search rules in
    joined_more c.args.by c.args.entries.now c.loop-entry.entry-index c.entry-item.result c.loop-entry.self c.args.self.now c.update.new.self c.as_slice.result.now _ c.loop-entry-test.true c.entry-item.is c.loop-entry.invariant c.as_slice.ensures (to_z-of_z w64 c.entry-item.result.1 v) c.in_ok-update.ensures.ok
