use Rattle.std.proofs.Common.{sym, ap, ◌∙◌, subst, arith, w64, pos, SFits}
use Rattle.std.specs.Prelude.{nat_abs, slice_index}
use Rattle.std.proofs.lemmas.Int.{to_z-of_z}
use Rattle.fin_tensor.specs.Levels.{fibres, numbers_of, wanted}
use Rattle.fin_ir.specs.Loads.{part_at, seek_in}
use Rattle.fin_ir.proofs.Seeks.{lies_of}
use Rattle.fin_run.proofs.Loading.{within_end, seek_found, place_small, lies_order, rt}
use Rattle.fin_run.proofs.loads.seek.Goals as goal

pub search-requires-clause-lies : goal.search-requires-clause-lies
search-requires-clause-lies c =
    let s = c.args.storage.now in
    lies_of (slice_index s.shape c.args.level) (fibres s.shape s.parts 1 c.args.level) (part_at s.parts c.args.level) _ _ (sym c.lies.ensures ∙ c.if-not-lies.false)

pub overflow_cast-result : goal.overflow_cast-result
overflow_cast-result c =
    let s = c.args.storage.now in
    let h = lies_of (slice_index s.shape c.args.level) (fibres s.shape s.parts 1 c.args.level) (part_at s.parts c.args.level) _ _ (sym c.lies.ensures ∙ c.if-not-lies.false) in
    let to = to_z-of_z w64 c.args.to c.ranges.to in
    let far = within_end (numbers_of (part_at s.parts c.args.level)) (wanted (part_at s.parts c.args.level) (nat_abs (rt c.args.key))) (nat_abs (rt c.args.from)) (nat_abs (rt c.args.to)) (lies_order (slice_index s.shape c.args.level) (fibres s.shape s.parts 1 c.args.level) (part_at s.parts c.args.level) _ _ h) in
    let small = place_small (rt c.args.to) (subst (SFits w64) (sym to) c.ranges.to) c.if-to-lt0.false in
    record { sfits = omega (arith, c.search.ensures, far, small) }

pub returns : goal.returns
returns c =
    let s = c.args.storage.now in
    let h = lies_of (slice_index s.shape c.args.level) (fibres s.shape s.parts 1 c.args.level) (part_at s.parts c.args.level) _ _ (sym c.lies.ensures ∙ c.if-not-lies.false) in
    to_z-of_z w64 (pos c.search.result) (overflow_cast-result c)
    ∙ seek_found s.shape s.parts c.args.level (rt c.args.from) (rt c.args.to) (rt c.args.key) c.search.result c.if-from-lt0.false c.if-to-lt0.false c.if-key-lt0.false h c.search.ensures
    ∙ ap (λ z. seek_in s.shape s.parts c.args.level z (rt c.args.to) (rt c.args.key)) (to_z-of_z w64 c.args.from c.ranges.from)
    ∙ ap (λ z. seek_in s.shape s.parts c.args.level c.args.from z (rt c.args.key)) (to_z-of_z w64 c.args.to c.ranges.to)
    ∙ ap (λ z. seek_in s.shape s.parts c.args.level c.args.from c.args.to z) (to_z-of_z w64 c.args.key c.ranges.key)
