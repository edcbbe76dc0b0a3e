-- The step of sequences: the region falls apart where the first sequence's first phase stops.
use Rattle.std.proofs.Common.{◌≡◌, ℕ, zero, suc, ◌+◌, ◌<◌, ◌≤◌, ◌^◌, ◌⊎◌, inl, inr, ⊎_elim, List, [], ◌∷◌, length, Bool, true, false, Some, refl, sym, ap, ◌∙◌, subst, ℤ, pos, ◌+ℤ◌, ◌≤ℤ◌, ◌<ℤ◌, arith, get_or-set_same, get_or-set_other}
use Rattle.std.specs.Prelude.{if◌then◌else◌}
use Rattle.std.specs.Int.{int_min, int_max}
use Rattle.std.proofs.Math.ListN.{length-set}
use Rattle.std.proofs.lemmas.Bool.{cases_lt}
use Rattle.std.proofs.lemmas.Int.{int_min_is, int_max_is}
use borrow.Author.Differences.{up, down, same_in, sum_is_lem, lt_out, le_out, below_in, at_most_in}
use Rattle.fin_base.specs.declared.terms.Op.TheVariants as op
use Rattle.fin_ir.specs.declared.expression.IExpr.TheVariants.{Local, Two}
use Rattle.fin_ir.specs.declared.code.Code.{Code}
use Rattle.fin_ir.specs.declared.code.Code.TheVariants.{Assign}
use Rattle.fin_ir.specs.declared.layout.Layout.{Layout}
use Rattle.fin_ir.specs.Machine.{Machine, assign, seen}
use Rattle.fin_ir.specs.Meaning.{meaning, span}
use Rattle.fin_ir.proofs.Values.{value_two, value_local}
use Rattle.fin_ir.proofs.Codes.{meaning_seq, meaning_assign}
use Rattle.fin_ir.proofs.Loops.{span_is}
use Rattle.fin_looplet.specs.declared.looplet.Looplet.{Looplet}
use Rattle.fin_ir.specs.declared.expression.IExpr.{IExpr}
use Rattle.fin_looplet.specs.Names.{Names, Loads}
use Rattle.fin_looplet.specs.View.{Store, value, View}
use Rattle.fin_looplet.specs.Sound.{Near}
use Rattle.fin_looplet.specs.Like.{AllLike}
use Rattle.fin_looplet.specs.Lists.{views, AllSound, AnyFree, AnyLoads}
use Rattle.fin_looplet.specs.Weight.{is_point}
use Rattle.fin_looplet.proofs.Exprs.{get, value_same, loads_two}
use Rattle.fin_looplet.proofs.Lists.{views_same, all_same}
use Rattle.fin_nest.specs.Nests.{fresh, flag_at, paid_at, Nest, Sense, at_flags, part, fold, Kept, Separate, Bounds, Jumps, Fits, Does, Means}
use Rattle.fin_nest.specs.Laws.{Lawful, Onward}
use Rattle.fin_nest.proofs.Still.{stills}
use Rattle.fin_nest.proofs.Folds.{over_cut, Shows, shown, paid_at_on, cut_stands}
use Rattle.fin_nest.proofs.Means.{unbound, near_in, with_local, assigns, computes}
use Rattle.fin_nest.proofs.Jumping.{AllFrom, jumps_within}
use Rattle.fin_style_step.specs.Steps.{Division, first_sequence, here_nest, others_nest, divide_at, sequence_code}
use Rattle.fin_style_step.specs.Laws.{SequenceSplits}
use Rattle.fin_style_step.specs.Limited.{end_before, begin_behind}
use Rattle.fin_style_step.proofs.Limiting.{EndsAt, end_at, end_names, end_loads, BeginsAt, begin_at, begin_names, begin_loads}
use Rattle.fin_style_step.proofs.Divisions.{AllWithin, Divided, divided, all_like}
use Rattle.fin_style_step.proofs.Narrowing.{Sees, separate_part}
use Rattle.fin_style_step.proofs.Origins.{sequence_parts_from}

module _ {S : Type 0} (layout : Layout) (sense : Sense S) (law : Lawful sense) (n : Nest S) (apart : Separate n) (on : Onward sense n.body) (room : n.next < layout.locals) (d : Division) (div : Divided n.hi n.reads d) (from : AllFrom n.reads d.here × AllFrom n.reads d.others)
    (a b : Code) (mean_a : Means layout sense a (here_nest n d.stop d.here)) (mean_b : Means layout sense b (others_nest n d.stop d.others)) where
  kept_here : (x : ℕ) → Kept n x → Kept (here_nest n d.stop d.here) x
  kept_here x k = let w = k.below in record { below = omega (arith, w); no_var = k.no_var; no_own = λ o. k.no_own (div.here.owns x o) }

  kept_next : (x : ℕ) → Kept n x → Kept (others_nest n d.stop d.others) x
  kept_next x k = let w = k.below in record { below = omega (arith, w); no_var = k.no_var; no_own = λ o. k.no_own (div.others.owns x o) }

  kept_at : Kept (here_nest n d.stop d.here) n.next
  kept_at = record {
    below = omega arith;
    no_var = unbound (n.binds n.next) (λ e. let w = apart.binds_below n.next e in omega (arith, w));
    no_own = λ o. let w = apart.own_below n.next (div.here.owns n.next o) in omega (arith, w);
  }

  at_loads : (t : ℕ) → Loads t (divide_at n.lo n.hi d.stop) → n.steady t ≡ true
  at_loads t l = ⊎_elim (apart.lo_loads t) (λ k. ⊎_elim (λ j. apart.loads t (div.stop_loads t j)) (apart.hi_loads t) (loads_two t op.Min d.stop n.hi k)) (loads_two t op.Max n.lo (Two op.Min d.stop n.hi) l)

  module _ (ts : Store) (s : S) (m : Machine) (fits : Fits layout ts m n) (jumps : Jumps sense ts m.locals n) (stands : sense.stands s m) where
    abbrev ls : List ℤ
    ls = m.locals

    abbrev Lo : ℤ
    Lo = value ts m.locals n.lo

    abbrev Hi : ℤ
    Hi = value ts m.locals n.hi

    abbrev Stop : ℤ
    Stop = value ts m.locals d.stop

    abbrev Cut : ℤ
    Cut = value ts m.locals (divide_at n.lo n.hi d.stop)

    cut_is : Cut ≡ int_max Lo (int_min Stop Hi)
    cut_is = value_two ts ls op.Max n.lo (Two op.Min d.stop n.hi) ∙ ap (int_max Lo) (value_two ts ls op.Min d.stop n.hi)

    abbrev m1 : Machine
    m1 = with_local n.next Cut m

    abbrev m2 : Machine
    m2 = meaning layout a m1

    abbrev m3 : Machine
    m3 = meaning layout b m2

    first : meaning layout (Assign n.next (divide_at n.lo n.hi d.stop)) m ≡ m1
    first = meaning_assign layout n.next (divide_at n.lo n.hi d.stop) m ∙ ap (λ v. assign n.next v m) (computes layout ts m n (divide_at n.lo n.hi d.stop) fits.steady at_loads) ∙ assigns n.next Cut m fits.live

    stands1 : sense.stands s m1
    stands1 = subst (sense.stands s) (assigns n.next Cut m fits.live) (law.assign n.next Cut s m stands)

    within : n.next < length m.locals
    within = omega (arith, room, fits.locals)

    long1 : length m1.locals ≡ length m.locals
    long1 = length-set m.locals n.next Cut

    like1 : (x : ℕ) → x < n.next → get m1.locals x ≡ get m.locals x
    like1 x w = get_or-set_other m.locals n.next x Cut (pos 0) (λ e. omega (arith, w, e))

    free1 : (x : ℕ) → AnyFree x n.reads → get m1.locals x ≡ get m.locals x
    free1 x f = like1 x (apart.reads x f).below

    sees_cut : value ts m1.locals (Local n.next) ≡ Cut
    sees_cut = value_local ts m1.locals n.next ∙ get_or-set_same m.locals n.next Cut (pos 0) within

    lo1 : value ts m1.locals n.lo ≡ Lo
    lo1 = value_same ts n.lo m1.locals m.locals (λ x e. like1 x (apart.lo x e).below)

    hi1 : value ts m1.locals n.hi ≡ Hi
    hi1 = value_same ts n.hi m1.locals m.locals (λ x e. like1 x (apart.hi x e).below)

    cut_up : (up Cut ≡ up (int_max Lo (int_min Stop Hi))) × (down Cut ≡ down (int_max Lo (int_min Stop Hi)))
    cut_up = (ap up cut_is, ap down cut_is)

    -- before the cut, and from it on
    before_cut : (i : ℤ) → Lo ≤ℤ i → i <ℤ Cut → (i <ℤ Stop) × (i <ℤ Hi)
    before_cut i low lt =
        let k = lt_out i Cut lt in let l = le_out Lo i low in let x = int_max_is Lo (int_min Stop Hi) in let y = int_min_is Stop Hi in
        (below_in i Stop (omega (arith, k, l, x, y, cut_up)), below_in i Hi (omega (arith, k, l, x, y, cut_up)))

    after_cut : (i : ℤ) → Cut ≤ℤ i → i <ℤ Hi → (Stop ≤ℤ i) × (Lo ≤ℤ i)
    after_cut i le lt =
        let k = le_out Cut i le in let l = lt_out i Hi lt in let x = int_max_is Lo (int_min Stop Hi) in let y = int_min_is Stop Hi in
        (at_most_in Stop i (omega (arith, k, l, x, y, cut_up)), at_most_in Lo i (omega (arith, k, l, x, y, cut_up)))

    bounds_cut : Bounds Lo Cut × Bounds Cut Hi
    bounds_cut =
        let f = fits.bounds in
        let x = int_max_is Lo (int_min Stop Hi) in let y = int_min_is Stop Hi in
        let c0 : pos 0 ≤ℤ Cut = at_most_in (pos 0) Cut (omega (arith, x, cut_up, le_out (pos 0) Lo f.low)) in
        let c1 : Cut ≤ℤ pos (2 ^ 40) = at_most_in Cut (pos (2 ^ 40)) (omega (arith, x, y, cut_up, le_out Lo (pos (2 ^ 40)) f.low_top, le_out Hi (pos (2 ^ 40)) f.high_top)) in
        (record { low = f.low; low_top = f.low_top; high = c0; high_top = c1 }, record { low = c0; low_top = c1; high = f.high; high_top = f.high_top })

    -- the first part ends at the cut, or has no coordinate
    abbrev End : ℤ
    End = value ts m1.locals (end_before n.hi d.stop n.next)

    end_is : EndsAt End Cut (int_min Hi Stop)
    end_is = subst (λ z. EndsAt End z (int_min Hi Stop)) sees_cut (end_at ts m.locals m1.locals n.hi d.stop n.next)

    end_under : End ≤ℤ Cut
    end_under = ⊎_elim (λ e. at_most_in End Cut (omega (arith, ap up e, ap down e))) (λ w. w.0) end_is

    end_low : pos 0 ≤ℤ End
    end_low = ⊎_elim (λ e. subst (λ z. pos 0 ≤ℤ z) (sym e) bounds_cut.0.high) (λ w. w.1.0) end_is

    end_span : span Lo End ≡ span Lo Cut
    end_span = ⊎_elim (λ e. ap (span Lo) e) (λ w.
        let x = int_max_is Lo (int_min Stop Hi) in let y = int_min_is Stop Hi in let z = int_min_is Hi Stop in
        omega (arith, span_is Lo End, span_is Lo Cut, x, y, z, cut_up, le_out End Cut w.0, le_out (int_min Hi Stop) End w.1.1)) end_is

    before_end : (i : ℤ) → i <ℤ End → i <ℤ Cut
    before_end i lt = below_in i Cut (omega (arith, lt_out i End lt, le_out End Cut end_under))

    end_bounds : Bounds Lo End
    end_bounds =
        let b = bounds_cut.0 in
        record { low = b.low; low_top = b.low_top; high = end_low; high_top = at_most_in End (pos (2 ^ 40)) (omega (arith, le_out End Cut end_under, le_out Cut (pos (2 ^ 40)) b.high_top)) }

    shows_a : Shows ts m.locals m1.locals n (here_nest n d.stop d.here) Lo End
    shows_a = record {
      lo = lo1;
      hi = refl;
      like = λ i low lt.
          let w = before_cut i low (before_end i lt) in
          let end = End in
          let stop1 : value ts m1.locals d.stop ≡ Stop = value_same ts d.stop m1.locals m.locals (λ x e. free1 x (div.stop_names x e)) in
          let s1 = all_same Near ts n.reads m.locals m1.locals (λ j. j <ℤ Hi) i (sym long1) (λ x f. sym (free1 x f)) (fits.sound i low w.1) in
          let low' : Lo ≤ℤ (i +ℤ pos 1) = at_most_in Lo (i +ℤ pos 1) (omega (arith, le_out Lo i low, sum_is_lem i (pos 1))) in
          let l = div.here_like ts m1.locals End Hi end i
          (λ x. subst (λ z. (i +ℤ pos 1) <ℤ z) (sym hi1) (before_cut (i +ℤ pos 1) low' (before_end (i +ℤ pos 1) x)).1)
          (λ x. subst (λ z. (i +ℤ pos 1) <ℤ z) (sym stop1) (before_cut (i +ℤ pos 1) low' (before_end (i +ℤ pos 1) x)).0)
          (near_in Lo Hi i fits.bounds low w.1) (subst (λ z. i <ℤ z) (sym hi1) w.1) (subst (λ z. i <ℤ z) (sym stop1) w.0) s1 in
          let v : views ts m1.locals n.reads (value ts m1.locals n.hi) i ≡ views ts m.locals n.reads Hi i = ap (λ z. views ts m1.locals n.reads z i) hi1 ∙ views_same ts n.reads m1.locals m.locals Hi i long1 free1 in
          subst (λ (vs : List View). AllLike ((i +ℤ pos 1) <ℤ End) (views ts m1.locals d.here end i) vs) v l;
    }

    sound_a : (i : ℤ) → value ts m1.locals n.lo ≤ℤ i → i <ℤ End → AllSound Near ts m1.locals d.here (λ j. j <ℤ End) i
    sound_a i low lt =
        let low' = subst (λ z. z ≤ℤ i) lo1 low in
        let lt' = before_end i lt in
        let w = before_cut i low' lt' in
        let stop1 : value ts m1.locals d.stop ≡ Stop = value_same ts d.stop m1.locals m.locals (λ x e. free1 x (div.stop_names x e)) in
        let s1 = all_same Near ts n.reads m.locals m1.locals (λ j. j <ℤ Hi) i (sym long1) (λ x f. sym (free1 x f)) (fits.sound i low' w.1) in
        div.here_sound ts m1.locals Hi End i (near_in Lo Hi i fits.bounds low' w.1) (subst (λ z. i <ℤ z) (sym hi1) w.1) (subst (λ z. i <ℤ z) (sym stop1) w.0)
        (λ j q.
        let c = lt_out j Cut (before_end j q) in
        let k = lt_out i Cut lt' in let l = le_out Lo i low' in let x = int_max_is Lo (int_min Stop Hi) in let y = int_min_is Stop Hi in
        (below_in j Hi (omega (arith, c, k, l, x, y, cut_up)), subst (λ z. j <ℤ z) (sym stop1) (below_in j Stop (omega (arith, c, k, l, x, y, cut_up)))))
        s1

    fits_a : Fits layout ts m1 (here_nest n d.stop d.here)
    fits_a = record {
      live = fits.live;
      locals = long1 ∙ fits.locals;
      steady = fits.steady;
      pinned = λ x v e. like1 x (apart.pins x v e).below ∙ fits.pinned x v e;
      bounds = subst (λ z. Bounds z End) (sym lo1) end_bounds;
      sound = sound_a;
    }

    jumps_a : Jumps sense ts m1.locals (here_nest n d.stop d.here)
    jumps_a =
        jumps_within sense ts m.locals m1.locals n (here_nest n d.stop d.here) Lo End refl shows_a from.0
        (λ i low next. (low, (before_cut (i +ℤ pos 1) (at_most_in Lo (i +ℤ pos 1) (omega (arith, le_out Lo i low, sum_is_lem i (pos 1)))) (before_end (i +ℤ pos 1) next)).1)) jumps

    does_a : Does sense ts s m1 m2 (here_nest n d.stop d.here)
    does_a = mean_a.does ts s m1 fits_a jumps_a stands1

    abbrev s2 : S
    s2 = part sense.pay ts m.locals n (span Lo Cut) fresh Lo s

    stands2 : sense.stands s2 m2
    stands2 = subst (λ z. sense.stands z m2)
        (shown sense.pay ts m.locals m1.locals n (here_nest n d.stop d.here) Lo End s refl refl shows_a ∙ ap (λ k. part sense.pay ts m.locals n k fresh Lo s) end_span) does_a.done

    long2 : length m2.locals ≡ length m.locals
    long2 = does_a.long ∙ long1

    -- a stop at the cut pays for nothing
    abbrev s3 : S
    s3 = paid_at sense.pay (span Cut Hi) (flag_at (at_flags ts m.locals n) fresh Lo (span Lo Cut)).stopped s2

    stands3 : sense.stands s3 m2
    stands3 = paid_at_on sense law (span Cut Hi) (flag_at (at_flags ts m.locals n) fresh Lo (span Lo Cut)).stopped s2 m2 stands2

    -- ---- where the first part wasn't cut
    module _ (alive : m2.cut ≡ false) where
      like2 : (x : ℕ) → Kept n x → get m2.locals x ≡ get m.locals x
      like2 x k = does_a.kept alive x (kept_here x k) ∙ like1 x k.below

      cut2 : value ts m2.locals (Local n.next) ≡ Cut
      cut2 = value_local ts m2.locals n.next ∙ does_a.kept alive n.next kept_at ∙ get_or-set_same m.locals n.next Cut (pos 0) within

      hi2 : value ts m2.locals n.hi ≡ Hi
      hi2 = value_same ts n.hi m2.locals m.locals (λ x e. like2 x (apart.hi x e))

      free2 : (x : ℕ) → AnyFree x n.reads → get m2.locals x ≡ get m.locals x
      free2 x f = like2 x (apart.reads x f)

      others2 : (x : ℕ) → AnyFree x d.others → get m2.locals x ≡ get m.locals x
      others2 x f = ⊎_elim (λ e. like2 x (apart.hi x e)) (free2 x) (div.others.free x f)

      steady2 : (t : ℕ) → n.steady t ≡ true → seen m2 t ≡ seen m t
      steady2 t e = does_a.steady alive t e

      -- the second part begins at the cut, or has no coordinate
      abbrev Begin : ℤ
      Begin = value ts m2.locals (begin_behind n.lo d.stop n.next)

      begin_is : BeginsAt Begin Cut (int_max Lo Stop)
      begin_is = subst (λ z. BeginsAt Begin z (int_max Lo Stop)) cut2 (begin_at ts m.locals m2.locals n.lo d.stop n.next)

      begin_over : Cut ≤ℤ Begin
      begin_over = ⊎_elim (λ e. at_most_in Cut Begin (omega (arith, ap up e, ap down e))) (λ w. w.0) begin_is

      begin_top : Begin ≤ℤ pos (2 ^ 40)
      begin_top = ⊎_elim (λ e. subst (λ z. z ≤ℤ pos (2 ^ 40)) (sym e) bounds_cut.0.high_top) (λ w. w.1.0) begin_is

      begin_bounds : Bounds Begin Hi
      begin_bounds =
          let b = bounds_cut.1 in
          record { low = at_most_in (pos 0) Begin (omega (arith, le_out (pos 0) Cut b.low, le_out Cut Begin begin_over)); low_top = begin_top; high = b.high; high_top = b.high_top }

      void_over : (w : (Cut ≤ℤ Begin) × ((Begin ≤ℤ pos (2 ^ 40)) × (Begin ≤ℤ int_max Lo Stop))) → (Begin ≡ Cut) ⊎ ((span Begin Hi ≡ 0) × (span Cut Hi ≡ 0))
      void_over w =
          let x = int_max_is Lo (int_min Stop Hi) in let y = int_min_is Stop Hi in let z = int_max_is Lo Stop in
          let a = le_out Cut Begin w.0 in let b = le_out Begin (int_max Lo Stop) w.1.1 in
          ⊎_elim
          (λ (q : up Cut + down Begin < up Begin + down Cut).
          inr (omega (arith, q, span_is Begin Hi, x, y, z, cut_up, a, b), omega (arith, q, span_is Cut Hi, x, y, z, cut_up, a, b)))
          (λ q. inl (same_in Begin Cut (omega (arith, q, a))))
          (cases_lt (up Cut + down Begin) (up Begin + down Cut))

      begin_void : (Begin ≡ Cut) ⊎ ((span Begin Hi ≡ 0) × (span Cut Hi ≡ 0))
      begin_void = ⊎_elim (λ e. inl e) void_over begin_is

      same_part : (r : S) → part sense.pay ts m.locals n (span Begin Hi) fresh Begin r ≡ part sense.pay ts m.locals n (span Cut Hi) fresh Cut r
      same_part r = ⊎_elim
          (λ e. ap (λ z. part sense.pay ts m.locals n (span z Hi) fresh z r) e)
          (λ v. ap (λ k. part sense.pay ts m.locals n k fresh Begin r) v.0 ∙ sym (ap (λ k. part sense.pay ts m.locals n k fresh Cut r) v.1))
          begin_void

      after_begin : (i : ℤ) → Begin ≤ℤ i → Cut ≤ℤ i
      after_begin i low = at_most_in Cut i (omega (arith, le_out Begin i low, le_out Cut Begin begin_over))

      shows_b : Shows ts m.locals m2.locals n (others_nest n d.stop d.others) Begin Hi
      shows_b = record {
        lo = refl;
        hi = hi2;
        like = λ i low lt.
            let w = after_cut i (after_begin i low) lt in
            let e : views ts m2.locals d.others (value ts m2.locals n.hi) i ≡ views ts m.locals n.reads Hi i =
            ap (λ z. views ts m2.locals d.others z i) hi2
            ∙ views_same ts d.others m2.locals m.locals Hi i long2 others2
            ∙ div.others_views ts m.locals Hi Hi i w.0 (fits.sound i w.1 lt) in
            all_like ((i +ℤ pos 1) <ℤ Hi) (views ts m2.locals d.others (value ts m2.locals n.hi) i) (views ts m.locals n.reads Hi i) e;
      }

      fits_b : Fits layout ts m2 (others_nest n d.stop d.others)
      fits_b = record {
        live = alive;
        locals = long2 ∙ fits.locals;
        steady = λ t e. steady2 t e ∙ fits.steady t e;
        pinned = λ x v e. like2 x (apart.pins x v e) ∙ fits.pinned x v e;
        bounds = subst (λ z. Bounds Begin z) (sym hi2) begin_bounds;
        sound = λ i low lt.
            let low' = after_begin i low in
            let lt' = subst (λ z. i <ℤ z) hi2 lt in
            let w = after_cut i low' lt' in
            let q = div.others_sound ts m.locals Hi i w.0 (fits.sound i w.1 lt') in
            let q2 = all_same Near ts d.others m.locals m2.locals (λ j. j <ℤ Hi) i (sym long2) (λ x f. sym (others2 x f)) q in
            subst (λ z. AllSound Near ts m2.locals d.others (λ j. j <ℤ z) i) (sym hi2) q2;
      }

      jumps_b : Jumps sense ts m2.locals (others_nest n d.stop d.others)
      jumps_b =
          jumps_within sense ts m.locals m2.locals n (others_nest n d.stop d.others) Begin Hi refl shows_b from.1
          (λ i low next. ((after_cut i (after_begin i low) (below_in i Hi (omega (arith, lt_out (i +ℤ pos 1) Hi next, sum_is_lem i (pos 1))))).1, next)) jumps

      does_b : Does sense ts s3 m2 m3 (others_nest n d.stop d.others)
      does_b = mean_b.does ts s3 m2 fits_b jumps_b stands3

      alive_done : sense.stands (part sense.pay ts m.locals n (span Cut Hi) fresh Cut s3) m3
      alive_done = subst (λ z. sense.stands z m3) (shown sense.pay ts m.locals m2.locals n (others_nest n d.stop d.others) Begin Hi s3 refl refl shows_b ∙ same_part s3) does_b.done

    -- a part begins at the cut, if it is inside the region
    breaks_by : (k : ℕ) → span Lo Cut ≡ k → (span Cut Hi ≡ 0) ⊎ ((flag_at (at_flags ts m.locals n) fresh Lo k).begins ≡ true)
    breaks_by zero e = inr refl
    breaks_by (suc k) e =
        let i = Lo +ℤ pos k in
        let si = sum_is_lem Lo (pos k) in
        let x = int_max_is Lo (int_min Stop Hi) in let y = int_min_is Stop Hi in
        let sp = span_is Lo Cut in
        let low : Lo ≤ℤ i = at_most_in Lo i (omega (arith, si)) in
        let lt : i <ℤ Cut = below_in i Cut (omega (arith, e, sp, si)) in
        let w = before_cut i low lt in
        ⊎_elim
        (λ (q : up Cut + down Hi < up Hi + down Cut).
        let over_stop : Stop ≤ℤ (i +ℤ pos 1) = at_most_in Stop (i +ℤ pos 1) (omega (arith, q, e, sp, si, sum_is_lem i (pos 1), x, y, cut_up)) in
        inr (div.ends ts m.locals Hi Hi i w.0 over_stop (fits.sound i low w.1)))
        (λ q. inl (omega (arith, q, span_is Cut Hi)))
        (cases_lt (up Cut + down Hi) (up Hi + down Cut))

    breaks : (span Cut Hi ≡ 0) ⊎ ((flag_at (at_flags ts m.locals n) fresh Lo (span Lo Cut)).begins ≡ true)
    breaks = breaks_by (span Lo Cut) refl

    -- the whole is the second part after the first
    parted : fold sense.pay ts m.locals n s ≡ part sense.pay ts m.locals n (span Cut Hi) fresh Cut s3
    parted =
        let x = int_max_is Lo (int_min Stop Hi) in let y = int_min_is Stop Hi in
        let spans : span Lo Hi ≡ span Lo Cut + span Cut Hi = omega (arith, span_is Lo Hi, span_is Lo Cut, span_is Cut Hi, x, y, cut_up) in
        let reached : Lo +ℤ pos (span Lo Cut) ≡ Cut = same_in _ _ (omega (arith, sum_is_lem Lo (pos (span Lo Cut)), span_is Lo Cut, x, cut_up)) in
        ap (λ k. part sense.pay ts m.locals n k fresh Lo s) spans ∙ over_cut sense.pay ts m.locals n (span Lo Cut) (span Cut Hi) Lo s breaks ∙ ap (λ i. part sense.pay ts m.locals n (span Cut Hi) fresh i s3) reached

    -- a machine that was cut goes on as it is
    cut_does : m2.cut ≡ true → Does sense ts s m m3 n
    cut_does c = subst (λ (x : Machine). Does sense ts s m x n) (sym (stills layout b m2 c)) (record {
      done = subst (λ z. sense.stands z m2) (sym parted) (cut_stands sense law ts m.locals n on (span Cut Hi) fresh Cut s3 m2 c stands3);
      long = long2;
      kept = λ alive x k. cc;
      steady = λ alive t e. cc;
    })

    alive_does : m2.cut ≡ false → Does sense ts s m m3 n
    alive_does c =
        let d = does_b c in
        record {
          done = subst (λ z. sense.stands z m3) (sym parted) (alive_done c);
          long = d.long ∙ long2;
          kept = λ alive x k. d.kept alive x (kept_next x k) ∙ like2 c x k;
          steady = λ alive t e. d.steady alive t e ∙ steady2 c t e;
        }

    either_does : (c : Bool) → m2.cut ≡ c → Does sense ts s m m3 n
    either_does true c = cut_does c
    either_does false c = alive_does c

    sequence_does : Does sense ts s m (meaning layout (sequence_code n d.stop a b) m) n
    sequence_does = subst (λ (x : Machine). Does sense ts s m x n) (sym (meaning_seq layout (Assign n.next (divide_at n.lo n.hi d.stop) ∷ a ∷ b ∷ []) m ∙ ap (λ (x : Machine). meaning layout b (meaning layout a x)) first)) (either_does m2.cut refl)

-- ---- what is kept

-- a region weighs at most 1
pub region_light : (b : Bool) → (if b then 0 else 1) ≤ 1
region_light true = omega arith
region_light false = omega arith

module _ {S : Type 0} (n : Nest S) (stop : IExpr) (part : List Looplet) (w : AllWithin n.hi n.reads part) (s : Separate n) where
  part_free : (x : ℕ) → AnyFree x part → Sees n (n.next + 1) part x
  part_free x f = ⊎_elim (λ e. inl (s.hi x e)) (λ g. inl (s.reads x g)) (w.free x f)

  part_loads : (t : ℕ) → AnyLoads t part → n.steady t ≡ true
  part_loads t f = ⊎_elim (s.hi_loads t) (s.loads t) (w.loads t f)

  new_local : (x : ℕ) → x ≡ n.next → Sees n (n.next + 1) part x
  new_local x e = inr (inl (omega (arith, e), omega (arith, e)))

  here_separate : Separate (here_nest n stop part)
  here_separate = separate_part n n.lo (end_before n.hi stop n.next) (n.next + 1) part (record {
    later = omega arith;
    owns = w.owns;
    lo_sees = λ x h. inl (s.lo x h);
    hi_sees = λ x h. new_local x (end_names n.hi stop n.next x h);
    free = part_free;
    lo_loads = s.lo_loads;
    hi_loads = λ t h. absurd (end_loads n.hi stop n.next t h);
    loads = part_loads;
    shifts = w.shifts;
    nested = w.nested s.own.nested;
    apart = w.apart s.own.apart;
  }) s

  others_separate : Separate (others_nest n stop part)
  others_separate = separate_part n (begin_behind n.lo stop n.next) n.hi (n.next + 1) part (record {
    later = omega arith;
    owns = w.owns;
    lo_sees = λ x h. new_local x (begin_names n.lo stop n.next x h);
    hi_sees = λ x h. inl (s.hi x h);
    free = part_free;
    lo_loads = λ t h. absurd (begin_loads n.lo stop n.next t h);
    hi_loads = s.hi_loads;
    loads = part_loads;
    shifts = w.shifts;
    nested = w.nested s.own.nested;
    apart = w.apart s.own.apart;
  }) s

pub sequence_splits : {S : Type 0} (layout : Layout) (sense : Sense S) → Lawful sense → (n : Nest S) (d : Division) → first_sequence n.hi n.reads ≡ Some d → SequenceSplits layout sense n d
sequence_splits layout sense law n d e =
    let w = divided n.hi n.reads d e in
    record {
      means = λ apart on room a b ma mb. record { does = λ ts s m fits j r. sequence_does layout sense law n apart on room d w (sequence_parts_from n.hi n.reads d e) a b ma mb ts s m fits j r };
      lighter = (omega (arith, w.here.lighter, region_light (is_point n.lo (end_before n.hi d.stop n.next))), omega (arith, w.others.lighter, region_light (is_point (begin_behind n.lo d.stop n.next) n.hi)));
      separate = λ s. (here_separate n d.stop d.here w.here s, others_separate n d.stop d.others w.others s);
    }
