use Rattle.std.proofs.Common.{◌<◌, ◌-◌, length, List, ℕ, sym, ap, ◌∙◌, subst, arith}
use Rattle.std.specs.List.{list_any, range_with_len}
use Rattle.fin_tensor.specs.Levels.{IsPtr, fibres}
use Rattle.fin_run.proofs.Loading.{around, keys_ptr, runs_ptr, keys_lie, runs_lie, others_lie_not, own_count}
use Rattle.fin_run.proofs.loads.lies.Goals as goal

pub is_around-requires-clause-some : goal.is_around-requires-clause-some
is_around-requires-clause-some c =
    let s = c.args.storage.now in
    let lt : c.args.level < length s.parts = omega arith in
    subst (λ (xs : List ℕ). 0 < length xs) (sym c.as_slice.ensures) (own_count (fibres s.shape s.parts 1 c.args.level) c.in-Keys.ptr (keys_ptr s.format.levels s.shape s.parts s.val s.valid c.args.level lt c.get.result.now c.in-Keys.ptr c.in-Keys.idx c.get.ensures c.in-Keys.is)).0

pub is_around-requires-clause-ptr : goal.is_around-requires-clause-ptr
is_around-requires-clause-ptr c =
    let s = c.args.storage.now in
    let lt : c.args.level < length s.parts = omega arith in
    subst (λ (xs : List ℕ). IsPtr (length xs - 1) xs) (sym c.as_slice.ensures) (own_count (fibres s.shape s.parts 1 c.args.level) c.in-Keys.ptr (keys_ptr s.format.levels s.shape s.parts s.val s.valid c.args.level lt c.get.result.now c.in-Keys.ptr c.in-Keys.idx c.get.ensures c.in-Keys.is)).1

pub is_around-requires-in-Runs-clause-some : goal.is_around-requires-in-Runs-clause-some
is_around-requires-in-Runs-clause-some c =
    let s = c.args.storage.now in
    let lt : c.args.level < length s.parts = omega arith in
    subst (λ (xs : List ℕ). 0 < length xs) (sym c.as_slice-in-Runs.ensures) (own_count (fibres s.shape s.parts 1 c.args.level) c.in-Runs.ptr (runs_ptr s.format.levels s.shape s.parts s.val s.valid c.args.level lt c.get.result.now c.in-Runs.ptr c.in-Runs.stop c.get.ensures c.in-Runs.is)).0

pub is_around-requires-in-Runs-clause-ptr : goal.is_around-requires-in-Runs-clause-ptr
is_around-requires-in-Runs-clause-ptr c =
    let s = c.args.storage.now in
    let lt : c.args.level < length s.parts = omega arith in
    subst (λ (xs : List ℕ). IsPtr (length xs - 1) xs) (sym c.as_slice-in-Runs.ensures) (own_count (fibres s.shape s.parts 1 c.args.level) c.in-Runs.ptr (runs_ptr s.format.levels s.shape s.parts s.val s.valid c.args.level lt c.get.result.now c.in-Runs.ptr c.in-Runs.stop c.get.ensures c.in-Runs.is)).1

pub returns-in-Keys : goal.returns-in-Keys
returns-in-Keys c =
    let s = c.args.storage.now in
    let lt : c.args.level < length s.parts = omega arith in
    c.is_around.ensures ∙ ap (λ (xs : List ℕ). list_any (around xs c.args.from c.args.to) (range_with_len 0 (length xs - 1))) c.as_slice.ensures
    ∙ keys_lie s.format.levels s.shape s.parts s.val s.valid c.args.level lt c.get.result.now c.in-Keys.ptr c.in-Keys.idx c.args.from c.args.to c.get.ensures c.in-Keys.is c.if-to-from.false

pub returns-in-Runs : goal.returns-in-Runs
returns-in-Runs c =
    let s = c.args.storage.now in
    let lt : c.args.level < length s.parts = omega arith in
    c.is_around-in-Runs.ensures ∙ ap (λ (xs : List ℕ). list_any (around xs c.args.from c.args.to) (range_with_len 0 (length xs - 1))) c.as_slice-in-Runs.ensures
    ∙ runs_lie s.format.levels s.shape s.parts s.val s.valid c.args.level lt c.get.result.now c.in-Runs.ptr c.in-Runs.stop c.args.from c.args.to c.get.ensures c.in-Runs.is c.if-to-from.false

pub returns-in_default : goal.returns-in_default
returns-in_default c =
    let s = c.args.storage.now in
    let lt : c.args.level < length s.parts = omega arith in
    others_lie_not s.format.levels s.shape s.parts s.val s.valid c.args.level lt c.get.result.now c.args.from c.args.to c.get.ensures c.in_default.not-Keys c.in_default.not-Runs
