-- What is left of the list is told as the whole.
use Rattle.std.proofs.Common.{◌≡◌, ◌++◌, drop, map}
use Rattle.fin_read.specs.Steps.{assign_of}
use Rattle.fin_enter.specs.PushedMasks.{masks_in, behind_masks, mask_steps}
use Rattle.fin_enter.proofs.mask_codes.push_masks.Given as goal

abbrev pub invariant-loop-test : goal.invariant-loop-test
invariant-loop-test l = record {
  masks : l.masks ++ masks_in l.body (drop l.test-index l.tests) l.free ≡ masks_in l.body l.tests l.next;
  next : behind_masks l.body (drop l.test-index l.tests) l.free ≡ behind_masks l.body l.tests l.next;
  code : l.into ++ map assign_of (mask_steps l.body (drop l.test-index l.tests) l.free) ≡ l.fn.into ++ map assign_of (mask_steps l.body l.tests l.next);
}
