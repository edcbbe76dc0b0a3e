use Rattle.std.proofs.Common.{◌≡◌, ◌+◌, ◌∙◌, ap, sym, subst, arith, ℕ, ◌<◌, List, length, rules, refl, FitsSigned, w64}
use Rattle.std.specs.Prelude.{slice_index, slice_index_or}
use Rattle.std.proofs.lemmas.List.{length_push}
use Rattle.std.proofs.lemmas.Result.{IfOk-weaker}
use Rattle.std.proofs.lemmas.Int.{to_z-of_z}
use Rattle.fin_tensor.specs.declared.part.Part.TheVariants as part
use Rattle.fin_tensor.specs.Levels.{fibres, fibre_from, fibre_to}
use Rattle.fin_tensor.proofs.Walk.{got, stored_values, stored_lengths, stored_levels}
use Rattle.fin_freeze.specs.Thawing.{LeadsTo, Holds, AgreeElsewhere, values_before, values_below, values_of, blank, IsSpan}
use Rattle.fin_freeze.proofs.Walking as walking
use Rattle.fin_freeze.proofs.Filling as filling
use Rattle.fin_freeze.proofs.thaws.+walk.Goals as goal

pub fill_below-get-requires : goal.fill_below-get-requires
fill_below-get-requires t c =
    let s = c.args.storage.now in
    let e : length c.args.at.now ≡ length s.parts = omega (arith, c.if-level-len.true, c.len-level.ensures, c.len.ensures) in
    omega (arith, stored_values 1 s.format.levels s.shape s.parts s.val s.valid, ap (fibres s.shape s.parts 1) e, c.requires.leads.within)

pub fill_below-put-requires : goal.fill_below-put-requires
fill_below-put-requires t c =
    let s = c.args.storage.now in
    let e : length c.args.at.now ≡ length s.parts = omega (arith, c.if-level-len.true, c.len-level.ensures, c.len.ensures) in
    record { inside = filling.whole_inside s c.args.at.now c.args.pos e c.requires.leads c.args.function.now.shape c.requires.blank.shape_is }

pub fill_below-returns-then-level-len-clause-filled : goal.fill_below-returns-then-level-len-clause-filled
fill_below-returns-then-level-len-clause-filled t c =
    let s = c.args.storage.now in
    let e : length c.args.at.now ≡ length s.parts = omega (arith, c.if-level-len.true, c.len-level.ensures, c.len.ensures) in
    let f : FitsSigned w64 c.get.result.now = search rules in
    IfOk-weaker c.put.result _ _ (λ _ w. filling.filled_end s c.args.at.now c.args.pos e c.args.function.now c.put.new.self _ (to_z-of_z w64 c.get.result.now f ∙ got s.val c.args.pos s.format.fill c.get.result.now c.get.ensures) w c.requires.blank) c.put.ensures.ok

pub fill_below-returns-then-level-len-clause-elsewhere : goal.fill_below-returns-then-level-len-clause-elsewhere
fill_below-returns-then-level-len-clause-elsewhere t c =
    let s = c.args.storage.now in
    let e : length c.args.at.now ≡ length s.parts = omega (arith, c.if-level-len.true, c.len-level.ensures, c.len.ensures) in
    let f : FitsSigned w64 c.get.result.now = search rules in
    IfOk-weaker c.put.result _ _ (λ _ w. filling.elsewhere_end s c.args.at.now c.args.pos e c.args.function.now c.put.new.self _ (to_z-of_z w64 c.get.result.now f ∙ got s.val c.args.pos s.format.fill c.get.result.now c.get.ensures) w) c.put.ensures.ok

pub fill_below-overflow_cast-level : goal.fill_below-overflow_cast-level
fill_below-overflow_cast-level t c =
    let s = c.args.storage.now in
    omega (arith, c.len-level.ensures, c.requires.leads.deep, stored_lengths 1 s.format.levels s.shape s.parts s.val s.valid, stored_levels 1 s.format.levels s.shape s.parts s.val s.valid, s.placed.few)

pub fill_below-loop-place-init : goal.fill_below-loop-place-init
fill_below-loop-place-init t c =
    let s = c.args.storage.now in
    let k = length c.args.at.now in
    let o : c.len-level.result ≡ k = c.len-level.ensures in
    let deep : k < length s.parts = omega (arith, c.if-level-len.false, c.len-level.ensures, c.len.ensures, c.requires.leads.deep) in
    let from : c.fibre-fibre.result.from ≡ fibre_from (slice_index s.shape k) (slice_index_or s.parts k part.Dense) c.args.pos =
    c.fibre-fibre.ensures.from ∙ ap (λ (x : ℕ). fibre_from (slice_index s.shape x) (slice_index_or s.parts x part.Dense) c.args.pos) o in
    record {
      filled = walking.holds_as s c.args.at.now (blank s) (values_before c.fibre-fibre.result.from s k c.args.pos) c.args.function.now c.requires.blank
          (λ cs b. walking.started s k c.args.pos deep c.requires.leads.within cs b ∙ ap (λ (x : ℕ). values_before x s k c.args.pos cs) (sym from));
      elsewhere = λ ds _. refl;
    }

pub fill_below-returns-clause-filled : goal.fill_below-returns-clause-filled
fill_below-returns-clause-filled t c =
    let s = c.args.storage.now in
    let k = length c.args.at.now in
    let o : c.len-level.result ≡ k = c.len-level.ensures in
    let deep : k < length s.parts = omega (arith, c.if-level-len.false, c.len-level.ensures, c.len.ensures, c.requires.leads.deep) in
    let n = slice_index s.shape k in
    let p = slice_index_or s.parts k part.Dense in
    let from : c.fibre-fibre.result.from ≡ fibre_from n p c.args.pos = c.fibre-fibre.ensures.from ∙ ap (λ (x : ℕ). fibre_from (slice_index s.shape x) (slice_index_or s.parts x part.Dense) c.args.pos) o in
    let to : c.fibre-fibre.result.to ≡ fibre_to n p c.args.pos = c.fibre-fibre.ensures.to ∙ ap (λ (x : ℕ). fibre_to (slice_index s.shape x) (slice_index_or s.parts x part.Dense) c.args.pos) o in
    let end : c.loop-place.place ≡ fibre_to n p c.args.pos = omega (arith, from, to, walking.order s k c.args.pos deep c.requires.leads.within, c.loop-place.auto.place, c.loop-place.auto.place-end, c.loop-place-test.false) in
    walking.holds_as s c.args.at.now _ (values_below s k c.args.pos) c.loop-place.function c.loop-place.invariant.filled
    (λ cs b. ap (λ (x : ℕ). values_before x s k c.args.pos cs) end ∙ walking.ended s k c.args.pos deep c.requires.leads.within cs b)

pub fill_place-is_blank-requires-clause-place : goal.fill_place-is_blank-requires-clause-place
fill_place-is_blank-requires-clause-place t c =
    let s = c.args.storage.now in
    let k = length c.args.at.now in
    let o : c.len-level.result ≡ k = c.len-level.ensures in
    omega (arith, walking.place_within s k c.args.pos c.requires.deep c.requires.leads.within c.args.place c.requires.high, ap (λ x. fibres s.shape s.parts 1 (x + 1)) o)

pub fill_place-fill_below-requires : goal.fill_place-fill_below-requires
fill_place-fill_below-requires t c =
    let s = c.args.storage.now in
    let at = c.args.at.now in
    let span = subst (λ (x : ℕ). IsSpan (slice_index s.shape x) (slice_index_or s.parts x part.Dense) c.args.pos c.args.place c.span_at-span.result.from c.span_at-span.result.to) c.len-level.ensures c.span_at-span.ensures in
    let e = c.in_ok-below.ensures in (
      omega (arith, c.decreases, ap (length {A = ℕ}) e, length_push at c.loop-i.i, c.requires.deep),
      (
        subst (λ (x : List ℕ). LeadsTo s x c.args.place) (sym e) (filling.leads_on s at c.args.pos c.requires.leads c.requires.deep c.args.place _ _ span c.loop-i.i c.loop-i.auto.i c.loop-i-test.true),
        subst (λ (x : List ℕ). Holds s x (blank s) c.loop-i.function) (sym e) (filling.blank_next s at c.args.pos c.requires.leads c.requires.deep c.args.place _ _ span c.loop-i.i c.loop-i.auto.i c.loop-i-test.true c.loop-i.function c.loop-i.invariant.filled),
      ),
    )

pub fill_place-loop-i-preserved : goal.fill_place-loop-i-preserved
fill_place-loop-i-preserved t c =
    let s = c.args.storage.now in
    let at = c.args.at.now in
    let span = subst (λ (x : ℕ). IsSpan (slice_index s.shape x) (slice_index_or s.parts x part.Dense) c.args.pos c.args.place c.span_at-span.result.from c.span_at-span.result.to) c.len-level.ensures c.span_at-span.ensures in
    let e = c.in_ok-below.ensures in
    let d = subst (λ (x : List ℕ). Holds s x (values_below s (length x) c.args.place) c.fill_below.new.function) e c.in_ok-fill_below.ensures.filled in
    let a = subst (λ (x : List ℕ). AgreeElsewhere x c.loop-i.function c.fill_below.new.function) e c.in_ok-fill_below.ensures.elsewhere in
    record {
      filled = filling.filled_next s at c.args.pos c.requires.leads c.requires.deep c.args.place _ _ span c.loop-i.i c.loop-i.auto.i c.loop-i-test.true c.loop-i.function c.fill_below.new.function c.loop-i.invariant.filled d a;
      elsewhere = filling.onward at c.args.function.now c.loop-i.function c.fill_below.new.function c.loop-i.invariant.elsewhere (filling.deeper at c.loop-i.i c.loop-i.function c.fill_below.new.function a);
    }

pub fill_place-returns-clause-filled : goal.fill_place-returns-clause-filled
fill_place-returns-clause-filled t c =
    let s = c.args.storage.now in
    let k = length c.args.at.now in
    let span = subst (λ (x : ℕ). IsSpan (slice_index s.shape x) (slice_index_or s.parts x part.Dense) c.args.pos c.args.place c.span_at-span.result.from c.span_at-span.result.to) c.len-level.ensures c.span_at-span.ensures in
    let end : c.loop-i.i ≡ c.span_at-span.result.to = omega (arith, span.order, c.loop-i.auto.i, c.loop-i.auto.i-end, c.loop-i-test.false) in
    walking.holds_as s c.args.at.now _ (values_before (c.args.place + 1) s k c.args.pos) c.loop-i.function c.loop-i.invariant.filled
    (λ cs b. ap (λ (x : ℕ). values_of (walking.until c.args.place x) s k c.args.pos cs) end ∙ walking.place_ended s k c.args.pos c.requires.deep c.requires.leads.within c.args.place _ _ span cs b)
