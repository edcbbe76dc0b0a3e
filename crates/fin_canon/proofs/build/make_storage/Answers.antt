use Rattle.std.proofs.Common.{◌≡◌, ◌∙◌, ◌∷◌, [], List, ℕ, ap}
use Rattle.fin_tensor.specs.TensorFunction.{value_at}
use Rattle.fin_tensor.specs.Canon.{canon_parts, canon_values}
use Rattle.fin_canon.specs.Entries.{named}
use Rattle.fin_canon.proofs.Whole.{canon_named, is_placed, is_bare, is_stored}
use Rattle.fin_canon.proofs.build.make_storage.Goals as goal

pub invariant_of-result : goal.invariant_of-result
invariant_of-result c =
    let format = c.args.format.now in
    let ns = c.args.shape.now in
    let es = c.args.entries.now in
    let e : c.as_slice.result.now ≡ ns = c.as_slice.ensures in
    let p = c.in_ok-lists.ensures.parts ∙ ap (λ (z : List ℕ). canon_parts format.levels format.fill z (value_at (named z format.fill es) ∷ [])) e in
    let v = c.in_ok-lists.ensures.values ∙ ap (λ (z : List ℕ). canon_values format.levels format.fill z (value_at (named z format.fill es) ∷ [])) e in
    record {
      placed = is_placed format ns es c.requires.placed c.requires.shape c.requires.allowed c.in_ok-format.format c.in_ok-shape.shape c.in_ok-lists.lists.parts c.in_ok-lists.lists.val c.in_ok-format.ensures c.in_ok-shape.ensures p v;
      bare = is_bare format ns es c.requires.placed c.requires.shape c.requires.allowed c.in_ok-format.format c.in_ok-shape.shape c.in_ok-lists.lists.parts c.in_ok-lists.lists.val c.in_ok-format.ensures c.in_ok-shape.ensures p v;
      valid = is_stored format ns es c.requires.placed c.requires.shape c.requires.allowed c.in_ok-format.format c.in_ok-shape.shape c.in_ok-lists.lists.parts c.in_ok-lists.lists.val c.in_ok-format.ensures c.in_ok-shape.ensures p v;
    }

pub returns : goal.returns
returns c =
    let format = c.args.format.now in
    let ns = c.args.shape.now in
    let es = c.args.entries.now in
    let e : c.as_slice.result.now ≡ ns = c.as_slice.ensures in
    let p = c.in_ok-lists.ensures.parts ∙ ap (λ (z : List ℕ). canon_parts format.levels format.fill z (value_at (named z format.fill es) ∷ [])) e in
    let v = c.in_ok-lists.ensures.values ∙ ap (λ (z : List ℕ). canon_values format.levels format.fill z (value_at (named z format.fill es) ∷ [])) e in
    canon_named format ns es _ c.in_ok-format.ensures c.in_ok-shape.ensures p v
