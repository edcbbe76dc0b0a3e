use Rattle.fin_tensor.proofs.ByLines.{stored_by_lines}
use Rattle.fin_tensor.proofs.draft.Draft.finish.Goals as goal

pub invariant_of-result : goal.invariant_of-result
invariant_of-result c =
    let d = c.args.self in
    record {
      placed = d.placed;
      bare = d.bare;
      valid = stored_by_lines d.format.levels d.shape d.parts c.args.val (record { shape_is = d.shaped; long = c.requires.all; levels_are = d.levels; val_is = c.requires.val });
    }
