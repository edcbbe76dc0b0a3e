use Rattle.std.proofs.Common.{◌≡◌, ◌∙◌, ℕ, ◌+◌, ◌<◌, ap, sym, subst, arith, rules, length, drop, FitsSigned, w64}
use Rattle.std.specs.Prelude.{Option}
use Rattle.std.proofs.lemmas.Int.{to_z-of_z}
use Rattle.fin_tensor.specs.Levels.{fibres, below, value_from}
use Rattle.fin_tensor.proofs.Walk.{got, stored_lengths, box_length, box_at, value_step, value_end, stored_values, drop_length}
use Rattle.fin_tensor.proofs.storage.Storage.value.Goals as goal

pub child_at-requires-clause-level : goal.child_at-requires-clause-level
child_at-requires-clause-level c =
    let s = c.args.self.now in
    omega (arith, stored_lengths 1 s.format.levels s.shape s.parts s.val s.valid, box_length s.shape c.args.coords.now c.requires)

pub child_at-requires-clause-within : goal.child_at-requires-clause-within
child_at-requires-clause-within c = box_at c.loop-level.level c.args.self.now.shape c.args.coords.now c.requires c.loop-level-test.true

pub loop-level-preserved : goal.loop-level-preserved
loop-level-preserved c =
    let s = c.args.self.now in
    let k = c.loop-level.level in
    let cs = c.args.coords.now in
    let a : length cs ≡ length s.shape = box_length s.shape cs c.requires in
    let b : length s.shape ≡ length s.parts = stored_lengths 1 s.format.levels s.shape s.parts s.val s.valid in
    let lt : k < length cs = c.loop-level-test.true in
    let step = value_step k s.shape s.parts s.val s.format.fill c.loop-level.pos cs (omega arith) (omega arith) lt in
    let child = c.in-Some.ensures.child in
    record {
      pos = c.in-Some.ensures.within;
      rest = ap (λ (o : Option ℕ). below o (λ q. value_from (drop (k + 1) s.shape) (drop (k + 1) s.parts) s.val s.format.fill q (drop (k + 1) cs)) s.format.fill) child ∙ sym step ∙ c.loop-level.invariant.rest;
    }

pub get-requires : goal.get-requires
get-requires c =
    let s = c.args.self.now in
    let a = box_length s.shape c.args.coords.now c.requires in
    let b = stored_lengths 1 s.format.levels s.shape s.parts s.val s.valid in
    let e : c.loop-level.level ≡ length s.parts = omega arith in
    let p : c.loop-level.pos < fibres s.shape s.parts 1 (length s.parts) = subst (λ (k : ℕ). c.loop-level.pos < fibres s.shape s.parts 1 k) e c.loop-level.invariant.pos in
    omega (arith, stored_values 1 s.format.levels s.shape s.parts s.val s.valid)

pub returns : goal.returns
returns c =
    let s = c.args.self.now in
    let k = c.loop-level.level in
    let cs = c.args.coords.now in
    let a = box_length s.shape cs c.requires in
    let b = stored_lengths 1 s.format.levels s.shape s.parts s.val s.valid in
    let fits : FitsSigned w64 c.get.result.now = search rules in
    to_z-of_z w64 c.get.result.now fits ∙ got s.val c.loop-level.pos s.format.fill c.get.result.now c.get.ensures
    ∙ sym (value_end (drop k s.shape) (drop k s.parts) s.val s.format.fill c.loop-level.pos (drop k cs) (drop_length k s.parts (omega arith)))
    ∙ c.loop-level.invariant.rest
