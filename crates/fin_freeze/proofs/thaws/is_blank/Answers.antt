use Rattle.std.proofs.Common.{◌≡◌, ◌+◌, ◌∙◌, ap, sym, rules, arith, to_z, of_z, w64, FitsSigned, length}
use Rattle.std.proofs.lemmas.Int.{to_z-of_z}
use Rattle.std.proofs.lemmas.Bool.{eqb-true}
use Rattle.fin_tensor.specs.Levels.{fibres}
use Rattle.fin_tensor.proofs.Walk.{got, stored_values, stored_lengths, stored_levels}
use Rattle.fin_freeze.proofs.thaws.is_blank.Goals as goal

pub overflow_add-level : goal.overflow_add-level
overflow_add-level c =
    let s = c.args.storage.now in
    omega (arith, stored_lengths 1 s.format.levels s.shape s.parts s.val s.valid, stored_levels 1 s.format.levels s.shape s.parts s.val s.valid, s.placed.few, c.requires.deep)

pub get-requires : goal.get-requires
get-requires c =
    let s = c.args.storage.now in
    let e : c.args.level + 1 ≡ length s.parts = omega (arith, c.if-level-len.true, c.len.ensures) in
    omega (arith, stored_values 1 s.format.levels s.shape s.parts s.val s.valid, ap (fibres s.shape s.parts 1) e, c.requires.place)

pub returns-then-level-len-clause-fill : goal.returns-then-level-len-clause-fill
returns-then-level-len-clause-fill c t =
    let s = c.args.storage.now in
    let v = c.get.result.now in
    let w = s.format.fill in
    let fv : FitsSigned w64 v = search rules in
    let fw : FitsSigned w64 w = search rules in
    sym (got s.val c.args.place w v c.get.ensures) ∙ sym (to_z-of_z w64 v fv) ∙ ap (to_z w64) (eqb-true (of_z w64 v) (of_z w64 w) t) ∙ to_z-of_z w64 w fw
