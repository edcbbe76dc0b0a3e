use Rattle.std.proofs.Common.{refl, ◌∙◌}
use Rattle.fin_text.proofs.DenseLevels.{dense_step, dense_within}
use Rattle.fin_text.proofs.take.skip_dense.Goals as goal

pub loop-draft-preserved : goal.loop-draft-preserved
loop-draft-preserved c =
    let t = c.loop-draft-test.ensures.0 refl in let e = c.in_ok-draft.ensures in let i = c.loop-draft.invariant in
    record {
      format = e.0 ∙ i.format;
      shape = e.1 ∙ i.shape;
      parts = dense_step c.args.draft.format c.loop-draft.draft.format c.loop-draft.draft.parts _ _ i.format t.0 t.1 e.2 i.parts;
      within = dense_within c.loop-draft.draft.format _ c.loop-draft.draft.parts _ e.0 t.0 e.2;
    }
