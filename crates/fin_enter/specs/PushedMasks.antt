-- The masks among the tests that remain of a loop's body, for what the code has of them.
use Rattle.std.specs.Prelude.{ℕ, List, [], ◌∷◌, map}
use Rattle.fin_read.specs.Steps.{Step}
use Rattle.fin_read.specs.Values.{Heads, value_code}
use Rattle.fin_nest.specs.declared.entries.Numbered.{Numbered}
use Rattle.fin_simp.specs.declared.rest.Test.{Test}
use Rattle.fin_simp.specs.Gathered.{as_test}
use Rattle.fin_enter.specs.declared.body.LoopBody.{LoopBody}
use Rattle.fin_enter.specs.Masked.{Tested, tested_among, bound_steps, behind_bounds}
use Rattle.fin_enter.specs.MaskCodes.{numbered_mask}

abbrev pub numbered_masks : Heads → List Tested → ℕ → List Numbered
numbered_masks h [] next = []
numbered_masks h (t ∷ ts) next = numbered_mask h t next ∷ numbered_masks h ts (value_code h t.bound next).next

abbrev pub masks_among : LoopBody → List Test → List Tested
masks_among l tests = tested_among l.var (map as_test tests)

abbrev pub masks_in : LoopBody → List Test → ℕ → List Numbered
masks_in l tests next = numbered_masks l.heads.now (masks_among l tests) next

abbrev pub behind_masks : LoopBody → List Test → ℕ → ℕ
behind_masks l tests next = behind_bounds l.heads.now (masks_among l tests) next

abbrev pub mask_steps : LoopBody → List Test → ℕ → List Step
mask_steps l tests next = bound_steps l.heads.now (masks_among l tests) next
