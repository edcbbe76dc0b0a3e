-- A turn of the loop, from a coordinate to the next one: how it begins and how it ends.
use Rattle.std.proofs.Common.{◌≡◌, ℕ, zero, suc, ◌+◌, ◌-◌, ◌<◌, ◌⊎◌, inl, inr, ⊎_elim, List, length, Bool, true, false, Option, refl, sym, ap, ◌∙◌, subst, ℤ, pos, negsuc, ◌+ℤ◌, ◌≤ℤ◌, ◌<ℤ◌, arith, get_or-set_same, get_or-set_other}
use Rattle.std.specs.Prelude.{int_lt, slice_set, if◌then◌else◌}
use Rattle.std.specs.Int.{int_min}
use Rattle.std.proofs.Math.ListN.{length-set}
use Rattle.std.proofs.lemmas.Bool.{cases_lt}
use Rattle.std.proofs.lemmas.Int.{int_min_is, int_max_is}
use borrow.Author.Differences.{up, down, same_in, sum_is_lem, below_in, at_most_in, true_is_lt, lt-true, lt-false}
use Rattle.fin_ir.specs.declared.expression.IExpr.{IExpr}
use Rattle.fin_ir.specs.declared.expression.IExpr.TheVariants.{Local}
use Rattle.fin_ir.specs.declared.code.Code.{Code}
use Rattle.fin_ir.specs.declared.layout.Layout.{Layout}
use Rattle.fin_ir.specs.Machine.{Machine, assign, count_turn, seen}
use Rattle.fin_ir.specs.Value.{value_in}
use Rattle.fin_ir.specs.Meaning.{meaning, meaning_all, span, clamped, next_of, count_before}
use Rattle.fin_ir.proofs.Values.{value_local}
use Rattle.fin_ir.proofs.Loops.{span_is}
use Rattle.fin_looplet.specs.declared.looplet.Walker.{Walker}
use Rattle.fin_looplet.specs.declared.looplet.Looplet.{Looplet}
use Rattle.fin_looplet.specs.Names.{Loads}
use Rattle.fin_looplet.specs.View.{Store, value}
use Rattle.fin_looplet.specs.Sound.{Near}
use Rattle.fin_looplet.specs.Lists.{AllSound}
use Rattle.fin_looplet.proofs.Exprs.{get, loads_local, names_local}
use Rattle.fin_nest.specs.Nests.{fresh, paid_if, paid_at, Nest, Sense, at_flags, part, Kept}
use Rattle.fin_nest.proofs.Still.{all_still}
use Rattle.fin_nest.proofs.Turns.{before_still}
use Rattle.fin_nest.proofs.Folds.{over_cut, paid_at_on, cut_stands}
use Rattle.fin_nest.proofs.Means.{with_local, assigns, computes, count_keeps}
use Rattle.fin_style_step.specs.Steps.{walkers, place}
use Rattle.fin_style_step.specs.Laws.{Idle}
use Rattle.fin_style_step.proofs.Joints.{at_most}
use Rattle.fin_style_step.proofs.Placing.{Placed, placed_in, Placing}
use Rattle.fin_style_step.proofs.Loops.{Loop, Lo, Hi, after, flags, ready, Alive, Cut, Inv, cursor_below, kept_no_cursor, placing, placed_back, stop_of, turn_of}

-- where stops bring nothing in, any payment is one
pub idle_pays : {S : Type 0} (sense : Sense S) → Idle sense → (b : Bool) (r : S) → paid_if sense.pay b r ≡ sense.pay r
idle_pays sense idle true r = refl
idle_pays sense idle false r = sym (idle r)

pub record Turn {S : Type 0} {layout : Layout} {sense : Sense S} {n : Nest S} {kind : Looplet → Option Walker} {ts : Store} {s : S} {m0 : Machine} (g : Loop layout sense n kind ts s m0) (joint : IExpr) (v : ℤ) (m : Machine) : Type 0 where
  pub joint_steady : (t : ℕ) → Loads t joint → n.steady t ≡ true
  pub long : length m.locals ≡ length m0.locals
  pub alive : Alive g v m
  pub more : int_lt v (value ts m0.locals n.hi) ≡ true

module _ {S : Type 0} {layout : Layout} {sense : Sense S} {n : Nest S} {kind : Looplet → Option Walker} {ts : Store} {s : S} {m0 : Machine} (g : Loop layout sense n kind ts s m0) (joint : IExpr) (v : ℤ) (m : Machine) (k : Turn g joint v m) where
  -- ---- how it begins

  abbrev pub now : List ℤ
  now = slice_set m.locals n.next v

  abbrev pub Joint : ℤ
  Joint = value ts (slice_set m.locals n.next v) joint

  abbrev pub next : ℤ
  next = clamped (value ts (slice_set m.locals n.next v) joint) v (value ts m0.locals n.hi)

  abbrev pub first : Machine
  first = with_local n.next v m

  abbrev pub begun : Machine
  begun = with_local (n.next + 1) next (with_local n.next v m)

  pub steady_m : (t : ℕ) → n.steady t ≡ true → seen m t ≡ ts t
  steady_m t e = k.alive.steady t e ∙ g.fits.steady t e

  pub next_is : next_of n.next (λ (x : Machine). value_in x joint) (Hi g) v m ≡ next
  next_is = ap (λ (x : Machine). clamped (value_in x joint) v (Hi g)) (assigns n.next v m k.alive.live) ∙ ap (λ z. clamped z v (Hi g)) (computes layout ts first n joint steady_m k.joint_steady)

  pub turn_is : (c : Code) → turn_of g joint c v next m ≡ count_before next (Hi g) (meaning layout c begun)
  turn_is c =
      ap (λ (x : Machine). count_before next (Hi g) (meaning layout c (assign (n.next + 1) next x))) (assigns n.next v m k.alive.live)
      ∙ ap (λ (x : Machine). count_before next (Hi g) (meaning layout c x)) (assigns (n.next + 1) next first k.alive.live)

  within : n.next < length m.locals
  within = let r = g.room in omega (arith, r, k.long, g.fits.locals)

  within_until : n.next + 1 < length now
  within_until = let r = g.room in omega (arith, r, k.long, g.fits.locals, length-set m.locals n.next v)

  pub at_var : get begun.locals n.next ≡ v
  at_var = get_or-set_other now (n.next + 1) n.next next (pos 0) (λ e. omega (arith, e)) ∙ get_or-set_same m.locals n.next v (pos 0) within

  pub at_until : get begun.locals (n.next + 1) ≡ next
  at_until = get_or-set_same now (n.next + 1) next (pos 0) within_until

  sees_below : (x : ℕ) → x < n.next → get begun.locals x ≡ get m.locals x
  sees_below x h = get_or-set_other now (n.next + 1) x next (pos 0) (λ e. omega (arith, h, e)) ∙ get_or-set_other m.locals n.next x v (pos 0) (λ e. omega (arith, h, e))

  pub sees_kept : (x : ℕ) → Kept n x → get begun.locals x ≡ get m0.locals x
  sees_kept x q = sees_below x q.below ∙ k.alive.like x q

  pub first_kept : (x : ℕ) → Kept n x → get now x ≡ get m0.locals x
  first_kept x q = let b = q.below in get_or-set_other m.locals n.next x v (pos 0) (λ e. omega (arith, b, e)) ∙ k.alive.like x q

  pub begun_long : length begun.locals ≡ length m0.locals
  begun_long = length-set now (n.next + 1) next ∙ length-set m.locals n.next v ∙ k.long

  pub first_placed : Placed ts m0.locals v now (walkers kind n.reads)
  first_placed = placed_in ts (walkers kind n.reads) m0.locals v m.locals now (λ x c. let b = cursor_below g x c in get_or-set_other m.locals n.next x v (pos 0) (λ e. omega (arith, b, e))) k.alive.placed

  pub begun_placed : Placed ts m0.locals v begun.locals (walkers kind n.reads)
  begun_placed = placed_in ts (walkers kind n.reads) m0.locals v m.locals begun.locals (λ x c. sees_below x (cursor_below g x c)) k.alive.placed

  pub lo_v : Lo g ≤ℤ v
  lo_v = at_most_in (Lo g) v k.alive.low

  pub v_hi : v <ℤ Hi g
  v_hi = below_in v (Hi g) (lt-true v (Hi g) k.more)

  pub sound_v : AllSound Near ts m0.locals n.reads (λ j. j <ℤ value ts m0.locals n.hi) v
  sound_v = g.fits.sound v lo_v v_hi

  -- the next coordinate is above v, and at most the end
  pub next_above : up v + down next < up next + down v
  next_above = omega (arith, lt-true v (Hi g) k.more, int_max_is (v +ℤ pos 1) (int_min Joint (Hi g)), int_min_is Joint (Hi g), sum_is_lem v (pos 1))

  pub next_end : at_most next (Hi g)
  next_end = omega (arith, lt-true v (Hi g) k.more, int_max_is (v +ℤ pos 1) (int_min Joint (Hi g)), int_min_is Joint (Hi g), sum_is_lem v (pos 1))

  -- where the joint stop is above v, it is at most that, and before the end it is that
  pub next_joint : at_most (v +ℤ pos 1) Joint → at_most next Joint
  next_joint above = omega (arith, above, int_max_is (v +ℤ pos 1) (int_min Joint (Hi g)), int_min_is Joint (Hi g))

  pub next_reached : at_most (v +ℤ pos 1) Joint → int_lt next (Hi g) ≡ true → next ≡ Joint
  next_reached above q = same_in next Joint (omega (arith, lt-true next (Hi g) q, above, int_max_is (v +ℤ pos 1) (int_min Joint (Hi g)), int_min_is Joint (Hi g)))

  pub stands_begun : sense.stands (ready g v) begun
  stands_begun =
      subst (sense.stands (ready g v)) (assigns (n.next + 1) next first k.alive.live) (g.law.assign (n.next + 1) next (ready g v) first
      (subst (sense.stands (ready g v)) (assigns n.next v m k.alive.live) (g.law.assign n.next v (ready g v) m k.alive.done)))

  -- ---- what it comes to

  -- what a payment is doesn't hang on how much comes behind it
  paid_alike : (i j : ℕ) (b : Bool) (r : S) → 0 < i → 0 < j → paid_at sense.pay i b r ≡ paid_at sense.pay j b r
  paid_alike zero j b r p q = absurd (omega (arith, p))
  paid_alike (suc i) zero b r p q = absurd (omega (arith, q))
  paid_alike (suc i) (suc j) b r p q = refl

  pub turn_after : part sense.pay ts m0.locals n (span v next) fresh v (ready g v) ≡ after g (span (Lo g) next)
  turn_after =
      let b = (flags g (span (Lo g) v)).stopped in
      let low = k.alive.low in
      let some_left : 0 < span v (Hi g) = omega (arith, span_is v (Hi g), lt-true v (Hi g) k.more) in
      let some_done : 0 < span v next = omega (arith, span_is v next, next_above) in
      let spans : span (Lo g) next ≡ span (Lo g) v + span v next = omega (arith, span_is (Lo g) next, span_is (Lo g) v, span_is v next, low, next_above) in
      let reached : Lo g +ℤ pos (span (Lo g) v) ≡ v = same_in _ _ (omega (arith, sum_is_lem (Lo g) (pos (span (Lo g) v)), span_is (Lo g) v, low)) in
      sym (ap (λ j. part sense.pay ts m0.locals n j fresh (Lo g) s) spans ∙ over_cut sense.pay ts m0.locals n (span (Lo g) v) (span v next) (Lo g) s (inr (k.alive.flag k.more))
      ∙ ap (λ i. part sense.pay ts m0.locals n (span v next) fresh i (paid_at sense.pay (span v next) b (after g (span (Lo g) v)))) reached
      ∙ ap (part sense.pay ts m0.locals n (span v next) fresh v) (paid_alike (span v next) (span v (Hi g)) b (after g (span (Lo g) v)) some_done some_left))

  -- what a stop at its end brings in
  pub ready_is : int_lt next (Hi g) ≡ true → ready g next ≡ paid_if sense.pay (flags g (span (Lo g) next)).stopped (after g (span (Lo g) next))
  ready_is q =
      let j = span next (Hi g) - 1 in
      let e : span next (Hi g) ≡ suc j = omega (arith, span_is next (Hi g), lt-true next (Hi g) q) in
      ap (λ z. paid_at sense.pay z (flags g (span (Lo g) next)).stopped (after g (span (Lo g) next))) e

  -- what is known at its end is what its last coordinate says
  pub flags_are : flags g (span (Lo g) next) ≡ at_flags ts m0.locals n (next +ℤ negsuc 0)
  flags_are =
      let j = span (Lo g) next - 1 in
      let last = next +ℤ negsuc 0 in
      let low = k.alive.low in
      let sp = span_is (Lo g) next in
      let na = next_above in
      let whole : span (Lo g) next ≡ suc j = omega (arith, sp, na, low) in
      let there : Lo g +ℤ pos j ≡ last = same_in _ _ (omega (arith, sum_is_lem (Lo g) (pos j), sum_is_lem next (negsuc 0), sp, na, low)) in
      ap (flags g) whole ∙ ap (at_flags ts m0.locals n) there

  -- ---- how it ends

  -- a machine that has run the part's code
  pub record Ran (ran : Machine) : Type 0 where
    pub stands : sense.stands (after g (span (Lo g) next)) ran
    pub long : length ran.locals ≡ length m0.locals
    pub kept : ran.cut ≡ false → (x : ℕ) → Kept n x → get ran.locals x ≡ get m0.locals x
    pub until : ran.cut ≡ false → get ran.locals (n.next + 1) ≡ next
    pub steady : ran.cut ≡ false → (t : ℕ) → n.steady t ≡ true → seen ran t ≡ seen m0 t

  module _ (ran : Machine) (r : Ran ran) (begins : int_lt next (Hi g) ≡ true → (flags g (span (Lo g) next)).begins ≡ true) where
    abbrev again : Machine
    again = meaning_all layout (place (walkers kind n.reads) (Local (n.next + 1))) ran

    -- the rest of the region begins with a part
    rest_begins : (span next (Hi g) ≡ 0) ⊎ ((flags g (span (Lo g) next)).begins ≡ true)
    rest_begins = ⊎_elim
        (λ (lt : up next + down (Hi g) < up (Hi g) + down next). inr (begins (sym (true_is_lt next (Hi g) lt))))
        (λ le. inl (omega (arith, le, span_is next (Hi g))))
        (cases_lt (up next + down (Hi g)) (up (Hi g) + down next))

    -- where the turn was cut, it stands for all that is left
    ran_cut : ran.cut ≡ true → Cut g ran
    ran_cut c =
        let low = k.alive.low in
        let spans : span (Lo g) (Hi g) ≡ span (Lo g) next + span next (Hi g) = omega (arith, span_is (Lo g) next, span_is (Lo g) (Hi g), span_is next (Hi g), low, next_above, next_end) in
        let more = paid_at sense.pay (span next (Hi g)) (flags g (span (Lo g) next)).stopped (after g (span (Lo g) next)) in
        let rest = cut_stands sense g.law ts m0.locals n g.onward (span next (Hi g)) fresh (Lo g +ℤ pos (span (Lo g) next)) more ran c (paid_at_on sense g.law (span next (Hi g)) (flags g (span (Lo g) next)).stopped (after g (span (Lo g) next)) ran r.stands) in
        record {
          cut = c;
          done = subst (λ z. sense.stands z ran) (sym (ap (λ j. part sense.pay ts m0.locals n j fresh (Lo g) s) spans ∙ over_cut sense.pay ts m0.locals n (span (Lo g) next) (span next (Hi g)) (Lo g) s rest_begins)) rest;
        }

    cut_end : ran.cut ≡ true → Inv g next (count_before next (Hi g) again)
    cut_end c =
        let still : again ≡ ran = all_still layout (place (walkers kind n.reads) (Local (n.next + 1))) ran c in
        subst (Inv g next) (sym (ap (count_before next (Hi g)) still ∙ before_still next (Hi g) ran c)) (record { long = r.long; is = inr (ran_cut c) })

    -- the turn is counted where there is more to come
    module _ (paid : int_lt next (Hi g) ≡ true → (x : Machine) → ((z : S) → sense.stands z ran → sense.stands z x) → sense.stands (ready g next) (count_turn x)) where
      module _ (alive : ran.cut ≡ false) where
        at_next : value ts ran.locals (Local (n.next + 1)) ≡ next
        at_next = value_local ts ran.locals (n.next + 1) ∙ r.until alive

        made : Placing sense ts (walkers kind n.reads) (value ts ran.locals (Local (n.next + 1))) ran again
        made = placing g (Local (n.next + 1)) ran alive r.long (λ t e. r.steady alive t e ∙ g.fits.steady t e)
            (λ x e c. let b = cursor_below g x c in let q = names_local x (n.next + 1) e in omega (arith, b, q))
            (λ t l. absurd (loads_local t (n.next + 1) l))

        again_placed : Placed ts m0.locals next again.locals (walkers kind n.reads)
        again_placed = placed_back g next ran.locals again.locals r.long (r.kept alive) (subst (λ z. Placed ts ran.locals z again.locals (walkers kind n.reads)) at_next made.placed)

        again_kept : (x : ℕ) → Kept n x → get again.locals x ≡ get m0.locals x
        again_kept x j = made.other x (kept_no_cursor g x j) ∙ r.kept alive x j

        low_next : at_most (Lo g) next
        low_next = let low = k.alive.low in omega (arith, low, next_above)

        counted : int_lt next (Hi g) ≡ true → Inv g next (count_turn again)
        counted q =
            let c = count_keeps again in
            record {
              long = ap length c.locals ∙ made.long ∙ r.long;
              is = inl (record {
                live = c.cut ∙ made.live;
                done = paid q again made.same;
                flag = begins;
                like = λ x j. ap (λ ls. get ls x) c.locals ∙ again_kept x j;
                steady = λ t e. c.seen t ∙ made.tensors t ∙ r.steady alive t e;
                placed = subst (λ ls. Placed ts m0.locals next ls (walkers kind n.reads)) (sym c.locals) again_placed;
                low = low_next;
                top = inl next_end;
              });
            }

        outside_ready : int_lt next (Hi g) ≡ false → ready g next ≡ after g (span (Lo g) next)
        outside_ready q =
            let e : span next (Hi g) ≡ 0 = omega (arith, span_is next (Hi g), lt-false next (Hi g) q) in
            ap (λ z. paid_at sense.pay z (flags g (span (Lo g) next)).stopped (after g (span (Lo g) next))) e

        uncounted : int_lt next (Hi g) ≡ false → Inv g next again
        uncounted q = record {
          long = made.long ∙ r.long;
          is = inl (record {
            live = made.live;
            done = subst (λ z. sense.stands z again) (sym (outside_ready q)) (made.same (after g (span (Lo g) next)) r.stands);
            flag = begins;
            like = again_kept;
            steady = λ t e. made.tensors t ∙ r.steady alive t e;
            placed = again_placed;
            low = low_next;
            top = inl next_end;
          });
        }

        live_end : Inv g next (count_before next (Hi g) again)
        live_end = elim (int_lt next (Hi g)) as (λ b. int_lt next (Hi g) ≡ b → Inv g next (if b then count_turn again else again)) [ true ↦ (λ q. counted q) | false ↦ (λ q. uncounted q) ] refl

      either_end : (b : Bool) → ran.cut ≡ b → Inv g next (count_before next (Hi g) again)
      either_end true c = cut_end c
      either_end false c = live_end c

      pub turn_ends : (c : Code) → meaning layout c begun ≡ again
          → Inv g (next_of n.next (stop_of g joint c) (Hi g) v m) (turn_of g joint c v (next_of n.next (stop_of g joint c) (Hi g) v m) m)
      turn_ends c is =
          subst (λ z. Inv g z (turn_of g joint c v z m)) (sym next_is)
          (subst (Inv g next) (sym (turn_is c ∙ ap (count_before next (Hi g)) is)) (either_end ran.cut refl))
