-- The step of jumpers: a turn does what its last coordinate does, and a counted stop that it comes to or passes pays for it.
use Rattle.std.proofs.Common.{◌≡◌, ℕ, zero, suc, ◌+◌, ◌-◌, ◌<◌, ◌^◌, ◌⊎◌, inl, inr, ⊎_elim, List, [], ◌∷◌, ◌++◌, length, Bool, true, false, refl, sym, ap, ◌∙◌, subst, ℤ, pos, negsuc, ◌+ℤ◌, ◌≤ℤ◌, ◌<ℤ◌, arith, w64, SFits, T, get_or-set_same, get_or-set_other}
use Rattle.std.specs.Prelude.{int_lt, int_le, slice_set}
use Rattle.std.proofs.Math.ListN.{length-set}
use Rattle.std.proofs.lemmas.Bool.{cases_lt}
use Rattle.std.proofs.lemmas.Int.{int_wrap_fits}
use borrow.Author.Differences.{up, down, same_in, sum_is_lem, lt_out, le_out, lt-true, below_in, at_most_in, true_is_le, fits_in}
use Rattle.fin_base.specs.declared.terms.Op.TheVariants as op
use Rattle.fin_base.specs.Words.{operate}
use Rattle.fin_ir.specs.declared.expression.IExpr.{IExpr}
use Rattle.fin_ir.specs.declared.expression.IExpr.TheVariants.{Num, Local}
use Rattle.fin_ir.specs.declared.code.Code.{Code}
use Rattle.fin_ir.specs.declared.code.Code.TheVariants.{Seq, Assign}
use Rattle.fin_ir.specs.declared.layout.Layout.{Layout}
use Rattle.fin_ir.specs.Machine.{Machine, assign, count_turn, seen}
use Rattle.fin_ir.specs.Meaning.{meaning, meaning_all, span, next_of}
use Rattle.fin_ir.proofs.Values.{value_two, value_local, value_num}
use Rattle.fin_ir.proofs.Codes.{meaning_seq, meaning_assign}
use Rattle.fin_ir.proofs.Loops.{span_is}
use Rattle.fin_looplet.specs.declared.looplet.Walker.{Walker}
use Rattle.fin_looplet.specs.Names.{Loads}
use Rattle.fin_looplet.specs.View.{Store, value, Seen}
use Rattle.fin_looplet.specs.Sound.{Near}
use Rattle.fin_looplet.specs.Cut.{plus, before}
use Rattle.fin_looplet.specs.Lists.{seens, any_ends, AllSound, AnyOwns}
use Rattle.fin_looplet.proofs.Exprs.{get, names_local, loads_local, loads_num}
use Rattle.fin_nest.specs.Nests.{Flags, fresh, flag_at, any_counted, paid_if, Nest, Sense, views_of, at_act, at_flags, part, fold, Kept, Separate, Silent, Passes, Does, Means}
use Rattle.fin_nest.specs.Laws.{Lawful, Onward}
use Rattle.fin_nest.proofs.Statements.{all_append}
use Rattle.fin_nest.proofs.Folds.{over_parts, shown}
use Rattle.fin_nest.proofs.Means.{with_local, assigns}
use Rattle.fin_style_step.specs.Steps.{jumper, walkers, Among, stop_at, place, insides, greatest, jump, jumper_nest, jumper_code}
use Rattle.fin_style_step.specs.Laws.{Idle, CountsOne, Commutes}
use Rattle.fin_style_step.proofs.Walks.{jumpers_walk, any_walks, one_counted}
use Rattle.fin_style_step.proofs.Origins.{jumper_child, insides_from, jumper_passes}
use Rattle.fin_style_step.proofs.Joints.{at_most, greatest_over, greatest_is, greatest_loads}
use Rattle.fin_style_step.proofs.Placing.{Placed, Placing}
use Rattle.fin_style_step.proofs.InsideLocals.{insides_owns}
use Rattle.fin_style_step.proofs.Narrowing.{part_kept, new_kept}
use Rattle.fin_style_step.proofs.Passing.{spared, skip_stands, Credit, credit}
use Rattle.fin_style_step.proofs.Loops.{Loop, Lo, Hi, after, flags, ready, Inv, stop_of, turn_of, cursor_below, kept_no_cursor, placing, placed_back, loop_does}
use Rattle.fin_style_step.proofs.Turns.{Turn, Joint, next, now, begun, first_placed, first_kept, begun_long, sees_kept, at_until, steady_m, sound_v, next_above, next_end, next_joint, next_reached, stands_begun, turn_after, idle_pays, ready_is, flags_are, Ran, turn_ends}
use Rattle.fin_style_step.proofs.Pieces.{Piece, stop_is, stop_over, piece_shows, piece_fits, piece_jumps}

some_walker : (ws : List Walker) → 0 < length ws → (w : Walker) × Among w ws
some_walker [] h = absurd (omega (arith, h))
some_walker (w ∷ ws) h = (w, inl refl)

module _ {S : Type 0} (layout : Layout) (sense : Sense S) (n : Nest S) (room : n.next + 2 < layout.locals) (some : 0 < length (walkers jumper n.reads)) (pays : Idle sense ⊎ (CountsOne jumper n.counts n.reads × Commutes sense n.body))
    (a : Code) (mean : Means layout sense a (jumper_nest n)) (ts : Store) (s : S) (m0 : Machine) (g : Loop layout sense n jumper ts s m0) where
  abbrev ws : List Walker
  ws = walkers jumper n.reads

  abbrev joint : IExpr
  joint = greatest (walkers jumper n.reads) (Num (pos 0))

  abbrev codes : Code
  codes = Seq (jump (walkers jumper n.reads) (n.next + 1) (n.next + 2) a)

  joint_steady : (t : ℕ) → Loads t joint → n.steady t ≡ true
  joint_steady t l = ⊎_elim
      (λ w. g.apart.loads t ((any_walks jumper jumpers_walk n.reads w.0 w.1.0).loads t (inr (inl w.1.1))))
      (λ z. absurd (loads_num t (pos 0) z)) (greatest_loads t ws (Num (pos 0)) l)

  module _ (v : ℤ) (m : Machine) (k : Turn g joint v m) where
    abbrev J : ℤ
    J = Joint g joint v m k

    abbrev N : ℤ
    N = next g joint v m k

    abbrev here : List ℤ
    here = now g joint v m k

    abbrev set : Machine
    set = begun g joint v m k

    na : up v + down N < up N + down v
    na = next_above g joint v m k

    ne : at_most N (Hi g)
    ne = next_end g joint v m k

    stop_now : (w : Walker) → Among w (walkers jumper n.reads) → value ts here w.stop ≡ stop_at ts m0.locals w v
    stop_now w h = stop_is g v here (first_placed g joint v m k) (first_kept g joint v m k) w h

    over : (w : Walker) → Among w (walkers jumper n.reads) → at_most (v +ℤ pos 1) (stop_at ts m0.locals w v)
    over w h = stop_over g v (sound_v g joint v m k) w h

    under_joint : (w : Walker) → Among w (walkers jumper n.reads) → at_most (stop_at ts m0.locals w v) J
    under_joint w h = let e = stop_now w h in let u = ap up e in let d = ap down e in omega (arith, u, d, greatest_over ts here (Num (pos 0)) ws w h)

    above : at_most (v +ℤ pos 1) J
    above = let w = some_walker ws some in omega (arith, over w.0 w.1, under_joint w.0 w.1)

    v_zero : pos 0 ≤ℤ v
    v_zero = let b = g.fits.bounds in let low = k.alive.low in at_most_in (pos 0) v (omega (arith, le_out (pos 0) (Lo g) b.low, low))

    -- the greatest stop is a jumper's
    record Reach : Type 0 where
      by : Walker
      among : Among by (walkers jumper n.reads)
      stop : stop_at ts m0.locals by v ≡ J

    reach : Reach
    reach = ⊎_elim
        (λ e. let z = e ∙ value_num ts here (pos 0) in let u = ap up z in let d = ap down z in absurd (omega (arith, u, d, above, sum_is_lem v (pos 1), le_out (pos 0) v v_zero)))
        (λ r. record { by = r.0; among = r.1.0; stop = sym (stop_now r.0 r.1.0) ∙ sym r.1.1 })
        (greatest_is ts here (Num (pos 0)) ws)

    -- before its stop at v a walker's stop stays
    stays : (w : Walker) → Among w (walkers jumper n.reads) → (i : ℤ) → v ≤ℤ i → i <ℤ Hi g → i <ℤ stop_at ts m0.locals w v → stop_at ts m0.locals w i ≡ stop_at ts m0.locals w v
    stays w h i low in_hi in_stop =
        let q = (any_walks jumper jumpers_walk n.reads w h).sound ts m0.locals (Hi g) v (sound_v g joint v m k) in
        ap (λ c. value ts (slice_set m0.locals w.cursor c) w.stop) (q.stays i low in_hi in_stop)

    -- it goes on before the last coordinate of the turn
    goes_on : (i : ℤ) → v ≤ℤ i → (i +ℤ pos 1) <ℤ N → Passes ts m0.locals n i
    goes_on i low lt =
        let l1 = lt_out (i +ℤ pos 1) N lt in
        let s1 = sum_is_lem i (pos 1) in
        let u = ap up reach.stop in let d = ap down reach.stop in
        let nj = next_joint g joint v m k above in
        let in_hi : (i +ℤ pos 1) <ℤ Hi g = below_in (i +ℤ pos 1) (Hi g) (omega (arith, l1, ne)) in
        let e = stays reach.by reach.among i low (below_in i (Hi g) (omega (arith, l1, s1, ne))) (below_in i (stop_at ts m0.locals reach.by v) (omega (arith, l1, s1, nj, u, d))) in
        let eu = ap up e in let ed = ap down e in
        let al = k.alive.low in
        record {
          from = at_most_in (Lo g) i (omega (arith, le_out v i low, al));
          inside = in_hi;
          by = jumper_passes ts m0.locals (value ts m0.locals n.hi) i n.reads reach.by reach.among g.jumps.simple
              (below_in (i +ℤ pos 1) (stop_at ts m0.locals reach.by i) (omega (arith, l1, nj, u, d, eu, ed)));
        }

    silent : (j : ℕ) → j < span v N - 1 → Silent sense ts m0.locals n (v +ℤ pos j)
    silent j lt =
        let i = v +ℤ pos j in
        let sj = sum_is_lem v (pos j) in
        g.jumps.silent i (goes_on i (at_most_in v i (omega (arith, sj))) (below_in (i +ℤ pos 1) N (omega (arith, lt, span_is v N, na, sum_is_lem i (pos 1), sj))))

    -- ---- the last coordinate of the turn

    abbrev last : ℤ
    last = N +ℤ negsuc 0

    last_sum : up last + down N + 1 ≡ up N + down last
    last_sum = omega (arith, sum_is_lem N (negsuc 0))

    abbrev b1 : Machine
    b1 = with_local (n.next + 2) (N +ℤ negsuc 0) set

    abbrev b2 : Machine
    b2 = meaning_all layout (place (walkers jumper n.reads) (Local (n.next + 2))) b1

    abbrev ran : Machine
    ran = meaning layout a b2

    last_in : (st : Store) → value st set.locals (before (Local (n.next + 1))) ≡ last
    last_in st =
        let b = g.fits.bounds in
        let f : SFits w64 (N +ℤ negsuc 0) = fits_in w64 (N +ℤ negsuc 0) (omega (arith, sum_is_lem N (negsuc 0), na, ne, le_out (pos 0) v v_zero, le_out (Hi g) (pos (2 ^ 40)) b.high_top)) in
        value_two st set.locals op.Add (Local (n.next + 1)) (Num (negsuc 0)) ∙ ap (operate op.Add (value st set.locals (Local (n.next + 1)))) (value_num st set.locals (negsuc 0))
        ∙ ap (λ z. operate op.Add z (negsuc 0)) (value_local st set.locals (n.next + 1) ∙ at_until g joint v m k) ∙ int_wrap_fits w64 (N +ℤ negsuc 0) f

    set_long : length set.locals ≡ length m0.locals
    set_long = begun_long g joint v m k

    b1_long : length b1.locals ≡ length m0.locals
    b1_long = length-set set.locals (n.next + 2) last ∙ set_long

    within_last : n.next + 2 < length set.locals
    within_last = omega (arith, room, set_long, g.fits.locals)

    b1_last : get b1.locals (n.next + 2) ≡ last
    b1_last = get_or-set_same set.locals (n.next + 2) last (pos 0) within_last

    b1_until : get b1.locals (n.next + 1) ≡ N
    b1_until = get_or-set_other set.locals (n.next + 2) (n.next + 1) last (pos 0) (λ e. omega (arith, e)) ∙ at_until g joint v m k

    b1_kept : (x : ℕ) → Kept n x → get b1.locals x ≡ get m0.locals x
    b1_kept x q = let w = q.below in get_or-set_other set.locals (n.next + 2) x last (pos 0) (λ e. omega (arith, w, e)) ∙ sees_kept g joint v m k x q

    made : Placing sense ts ws (value ts b1.locals (Local (n.next + 2))) b1 b2
    made = placing g (Local (n.next + 2)) b1 k.alive.live b1_long (steady_m g joint v m k)
        (λ x e c. let b = cursor_below g x c in let q = names_local x (n.next + 2) e in omega (arith, b, q))
        (λ t l. absurd (loads_local t (n.next + 2) l))

    b2_long : length b2.locals ≡ length m0.locals
    b2_long = made.long ∙ b1_long

    b2_kept : (x : ℕ) → Kept n x → get b2.locals x ≡ get m0.locals x
    b2_kept x q = made.other x (kept_no_cursor g x q) ∙ b1_kept x q

    b2_last : get b2.locals (n.next + 2) ≡ last
    b2_last = made.other (n.next + 2) (λ c. let b = cursor_below g (n.next + 2) c in omega (arith, b)) ∙ b1_last

    b2_until : get b2.locals (n.next + 1) ≡ N
    b2_until = made.other (n.next + 1) (λ c. let b = cursor_below g (n.next + 1) c in omega (arith, b)) ∙ b1_until

    sees_last : value ts b2.locals (Local (n.next + 2)) ≡ last
    sees_last = value_local ts b2.locals (n.next + 2) ∙ b2_last

    last_one : last +ℤ pos 1 ≡ N
    last_one = same_in (last +ℤ pos 1) N (omega (arith, last_sum, sum_is_lem last (pos 1)))

    end_is : value ts b2.locals (plus (Local (n.next + 2)) (Num (pos 1))) ≡ N
    end_is =
        let b = g.fits.bounds in
        let su = ap up last_one in let sd = ap down last_one in
        let f : SFits w64 (last +ℤ pos 1) = fits_in w64 (last +ℤ pos 1) (omega (arith, su, sd, na, ne, le_out (pos 0) v v_zero, le_out (Hi g) (pos (2 ^ 40)) b.high_top)) in
        value_two ts b2.locals op.Add (Local (n.next + 2)) (Num (pos 1)) ∙ ap (operate op.Add (value ts b2.locals (Local (n.next + 2)))) (value_num ts b2.locals (pos 1))
        ∙ ap (λ z. operate op.Add z (pos 1)) sees_last ∙ int_wrap_fits w64 (last +ℤ pos 1) f ∙ last_one

    last_v : v ≤ℤ last
    last_v = at_most_in v last (omega (arith, last_sum, na))

    last_hi : last <ℤ Hi g
    last_hi = below_in last (Hi g) (omega (arith, last_sum, ne))

    last_lo : at_most (Lo g) last
    last_lo = let low = k.alive.low in omega (arith, le_out v last last_v, low)

    sound_last : AllSound Near ts m0.locals n.reads (λ j. j <ℤ value ts m0.locals n.hi) last
    sound_last = g.fits.sound last (at_most_in (Lo g) last last_lo) last_hi

    b2_placed : Placed ts m0.locals last b2.locals (walkers jumper n.reads)
    b2_placed = placed_back g last b1.locals b2.locals b1_long b1_kept (subst (λ z. Placed ts b1.locals z b2.locals (walkers jumper n.reads)) (value_local ts b1.locals (n.next + 2) ∙ b1_last) made.placed)

    abbrev end : IExpr
    end = plus (Local (n.next + 2)) (Num (pos 1))

    piece : Piece g (Local (n.next + 2)) (plus (Local (n.next + 2)) (Num (pos 1))) b2 last N
    piece = record {
      live = made.live;
      long = b2_long;
      kept = b2_kept;
      steady = λ t e. made.tensors t ∙ steady_m g joint v m k t e;
      placed = b2_placed;
      from = sees_last;
      to = end_is;
      low = last_lo;
      some = omega (arith, last_sum);
      end = ne;
      stops = λ w h. subst (λ z. at_most z (stop_at ts m0.locals w last)) last_one (stop_over g last sound_last w h);
    }

    stands_b2 : sense.stands (ready g v) b2
    stands_b2 = made.same (ready g v) (subst (sense.stands (ready g v)) (assigns (n.next + 2) last set k.alive.live) (g.law.assign (n.next + 2) last (ready g v) set (stands_begun g joint v m k)))

    -- ---- the coordinates that are passed over

    abbrev E : ℤ → Flags
    E = at_flags ts m0.locals n

    abbrev passed : ℕ
    passed = span v N - 1

    whole_is : span v N ≡ suc passed
    whole_is = omega (arith, span_is v N, na)

    place_is : v +ℤ pos passed ≡ last
    place_is = same_in (v +ℤ pos passed) last (omega (arith, sum_is_lem v (pos passed), span_is v N, na, last_sum))

    abbrev skipped : S
    skipped = part sense.pay ts m0.locals n passed fresh v (ready g v)

    stands_skipped : sense.stands skipped b2
    stands_skipped = skip_stands sense g.law n ts m0.locals passed fresh v (ready g v) b2 silent stands_b2

    abbrev flag_last : Flags
    flag_last = flag_at E fresh v passed

    abbrev come : S
    come = paid_if sense.pay flag_last.stopped skipped

    abbrev sights : List Seen
    sights = seens (views_of ts m0.locals n last)

    -- at the last coordinate it is the same whether a part begins there
    begins_same : (j : ℕ) → v +ℤ pos j ≡ last → (r : S) → n.body sights (flag_at E fresh v j).begins last r ≡ n.body sights true last r
    begins_same zero e r = refl
    begins_same (suc q) e r =
        let i0 = v +ℤ pos q in
        let eu = ap up e in let ed = ap down e in
        let low : v ≤ℤ i0 = at_most_in v i0 (omega (arith, sum_is_lem v (pos q))) in
        let lt : (i0 +ℤ pos 1) <ℤ N = below_in (i0 +ℤ pos 1) N (omega (arith, eu, ed, last_sum, sum_is_lem i0 (pos 1), sum_is_lem v (pos q), sum_is_lem v (pos (suc q)))) in
        let after_it : i0 +ℤ pos 1 ≡ last = same_in _ _ (omega (arith, eu, ed, sum_is_lem i0 (pos 1), sum_is_lem v (pos q), sum_is_lem v (pos (suc q)))) in
        elim (any_ends (views_of ts m0.locals n i0)) as (λ b. any_ends (views_of ts m0.locals n i0) ≡ b → n.body sights b last r ≡ n.body sights true last r) [
          | true ↦ (λ h. refl)
          | false ↦ (λ h. subst (λ z. n.body (seens (views_of ts m0.locals n z)) false z r ≡ n.body (seens (views_of ts m0.locals n z)) true z r) after_it (g.jumps.flagless i0 (goes_on i0 low lt) h r))
        ] refl

    -- so the turn does what its last coordinate does
    turn_fold : part sense.pay ts m0.locals n (span v N) fresh v (ready g v) ≡ n.body sights true last come
    turn_fold =
        let z : span v N ≡ passed + 1 = omega (arith, whole_is) in
        let F = at_act sense.pay ts m0.locals n in
        ap (λ j. part sense.pay ts m0.locals n j fresh v (ready g v)) z ∙ over_parts F E passed 1 fresh v (ready g v) ∙ ap (λ i. F flag_last i skipped) place_is ∙ begins_same passed place_is come

    point_fold : (r : S) → fold sense.pay ts b2.locals (jumper_nest n) r ≡ n.body sights true last r
    point_fold r =
        let one : span last N ≡ 1 = omega (arith, span_is last N, last_sum) in
        shown sense.pay ts m0.locals b2.locals n (jumper_nest n) last N r refl refl (piece_shows g (Local (n.next + 2)) end (n.next + 3) b2 last N piece) ∙ ap (λ j. part sense.pay ts m0.locals n j fresh last r) one

    does_from : (r : S) → sense.stands r b2 → Does sense ts r b2 ran (jumper_nest n)
    does_from r h = mean.does ts r b2 (piece_fits g (Local (n.next + 2)) end (n.next + 3) b2 last N piece) (piece_jumps g (Local (n.next + 2)) end (n.next + 3) b2 last N piece) h

    did : Does sense ts come b2 ran (jumper_nest n)
    did = does_from come (spared sense g.law flag_last.stopped skipped b2 stands_skipped)

    part_is : fold sense.pay ts b2.locals (jumper_nest n) come ≡ after g (span (Lo g) N)
    part_is = point_fold come ∙ sym turn_fold ∙ turn_after g joint v m k

    owns : (x : ℕ) → AnyOwns x (insides jumper n.hi n.reads) → AnyOwns x n.reads
    owns x o = insides_owns jumper jumpers_walk n.hi n.reads x o

    has_run : Ran g joint v m k ran
    has_run = record {
      stands = subst (λ z. sense.stands z ran) part_is did.done;
      long = did.long ∙ b2_long;
      kept = λ c x q. did.kept c x (part_kept n (Local (n.next + 2)) end (n.next + 3) (insides jumper n.hi n.reads) g.apart (omega arith) owns x q) ∙ b2_kept x q;
      until = λ c. did.kept c (n.next + 1) (new_kept n (Local (n.next + 2)) end (n.next + 3) (insides jumper n.hi n.reads) g.apart (omega arith) owns (n.next + 1) (omega arith) (omega arith)) ∙ b2_until;
      steady = λ c t e. did.steady c t e ∙ made.tensors t ∙ k.alive.steady t e;
    }

    -- ---- a turn that ends inside the region ends at a break

    begins : int_lt N (Hi g) ≡ true → (flags g (span (Lo g) N)).begins ≡ true
    begins q =
        let is = next_reached g joint v m k above q in
        let iu = ap up is in let id = ap down is in
        let u = ap up reach.stop in let d = ap down reach.stop in
        let e = stays reach.by reach.among last last_v last_hi (below_in last (stop_at ts m0.locals reach.by v) (omega (arith, last_sum, iu, id, u, d))) in
        let eu = ap up e in let ed = ap down e in
        let bu = ap up last_one in let bd = ap down last_one in
        let t : int_le (stop_at ts m0.locals reach.by last) (last +ℤ pos 1) ≡ true = sym (true_is_le (stop_at ts m0.locals reach.by last) (last +ℤ pos 1) (omega (arith, eu, ed, u, d, iu, id, bu, bd))) in
        ap (λ (f : Flags). f.begins) (flags_are g joint v m k) ∙ (any_walks jumper jumpers_walk n.reads reach.by reach.among).ends ts m0.locals (Hi g) last t

    -- ---- and some counted stop was come to, at its end or before

    module _ (counts : CountsOne jumper n.counts n.reads) (commutes : Commutes sense n.body) where
      abbrev payer : Walker
      payer = (one_counted jumper jumpers_walk n.counts n.reads counts).0

      payer_in : Among payer (walkers jumper n.reads)
      payer_in = (one_counted jumper jumpers_walk n.counts n.reads counts).1.0

      abbrev u : ℤ
      u = stop_at ts m0.locals payer v +ℤ negsuc 0

      u_sum : up u + down (stop_at ts m0.locals payer v) + 1 ≡ up (stop_at ts m0.locals payer v) + down u
      u_sum = omega (arith, sum_is_lem (stop_at ts m0.locals payer v) (negsuc 0))

      u_low : v ≤ℤ u
      u_low = at_most_in v u (omega (arith, u_sum, over payer payer_in, sum_is_lem v (pos 1)))

      u_counted : u <ℤ Hi g → any_counted n.counts (views_of ts m0.locals n u) ≡ true
      u_counted in_hi =
          let st = stop_at ts m0.locals payer v in
          let e = stays payer payer_in u u_low in_hi (below_in u st (omega (arith, u_sum))) in
          let eu = ap up e in let ed = ap down e in
          let t : int_le (stop_at ts m0.locals payer u) (u +ℤ pos 1) ≡ true = sym (true_is_le (stop_at ts m0.locals payer u) (u +ℤ pos 1) (omega (arith, eu, ed, u_sum, sum_is_lem u (pos 1)))) in
          (one_counted jumper jumpers_walk n.counts n.reads counts).1.1 ts m0.locals (Hi g) u t

      -- where it was passed over, the state lacks its payment
      passed_credit : up u + down N + 1 < up N + down u → u <ℤ Hi g → Credit sense (after g (span (Lo g) N)) ran
      passed_credit before_end in_hi =
          let p = span v u in
          let ul = le_out v u u_low in
          let there : v +ℤ pos p ≡ u = same_in (v +ℤ pos p) u (omega (arith, sum_is_lem v (pos p), span_is v u, ul)) in
          let w = credit sense g.law n ts m0.locals commutes passed (suc p) fresh v (ready g v) b2 (omega (arith, before_end, span_is v u, ul, whole_is, span_is v N))
          (ap (λ i. (E i).stopped) there ∙ u_counted in_hi) silent stands_b2 in
          record {
            before = n.body sights true last w.before;
            is = sym (turn_after g joint v m k) ∙ turn_fold ∙ ap (n.body sights true last) w.is ∙ commutes sights true last w.before;
            stands = subst (λ z. sense.stands z ran) (point_fold w.before) (does_from w.before w.stands).done;
          }

      stop_credit : int_lt N (Hi g) ≡ true → ((flags g (span (Lo g) N)).stopped ≡ true) ⊎ Credit sense (after g (span (Lo g) N)) ran
      stop_credit q =
          let is = next_reached g joint v m k above q in
          let iu = ap up is in let id = ap down is in
          let lt = lt-true N (Hi g) q in
          let uj = under_joint payer payer_in in
          let in_hi : u <ℤ Hi g = below_in u (Hi g) (omega (arith, u_sum, uj, iu, id, lt)) in
          ⊎_elim
          (λ (before_end : up u + down N + 1 < up N + down u). inr (passed_credit before_end in_hi))
          (λ ge.
          let at_last : last ≡ u = same_in last u (omega (arith, ge, u_sum, uj, iu, id, last_sum)) in
          inl (ap (λ (f : Flags). f.stopped) (flags_are g joint v m k ∙ ap E at_last) ∙ u_counted in_hi))
          (cases_lt (up u + down N + 1) (up N + down u))

      pays_by : int_lt N (Hi g) ≡ true → (b : Bool) → (flags g (span (Lo g) N)).stopped ≡ b → (x : Machine) → ((z : S) → sense.stands z ran → sense.stands z x) → sense.stands (ready g N) (count_turn x)
      pays_by q true e x same = subst (λ z. sense.stands z (count_turn x)) (sym (ready_is g joint v m k q ∙ ap (λ b. paid_if sense.pay b (after g (span (Lo g) N))) e)) (g.law.count (after g (span (Lo g) N)) x (same (after g (span (Lo g) N)) has_run.stands))
      pays_by q false e x same = ⊎_elim
          (λ (y : (flags g (span (Lo g) N)).stopped ≡ true). absurd (subst T (sym y ∙ e) tt))
          (λ w. subst (λ z. sense.stands z (count_turn x)) (sym (ready_is g joint v m k q ∙ ap (λ b. paid_if sense.pay b (after g (span (Lo g) N))) e ∙ w.is)) (g.law.count w.before x (same w.before w.stands)))
          (stop_credit q)

    pays_idle : Idle sense → int_lt N (Hi g) ≡ true → (x : Machine) → ((z : S) → sense.stands z ran → sense.stands z x) → sense.stands (ready g N) (count_turn x)
    pays_idle idle q x same =
        subst (λ z. sense.stands z (count_turn x)) (sym (ready_is g joint v m k q ∙ idle_pays sense idle (flags g (span (Lo g) N)).stopped (after g (span (Lo g) N))))
        (g.law.count (after g (span (Lo g) N)) x (same (after g (span (Lo g) N)) has_run.stands))

    paid : int_lt N (Hi g) ≡ true → (x : Machine) → ((z : S) → sense.stands z ran → sense.stands z x) → sense.stands (ready g N) (count_turn x)
    paid q x same = ⊎_elim
        (λ idle. pays_idle idle q x same)
        (λ c. pays_by c.0 c.1 q (flags g (span (Lo g) N)).stopped refl x same) pays

    body_is : meaning layout codes set ≡ meaning_all layout (place (walkers jumper n.reads) (Local (n.next + 1))) ran
    body_is =
        let sets : meaning layout (Assign (n.next + 2) (before (Local (n.next + 1)))) set ≡ b1 =
        meaning_assign layout (n.next + 2) (before (Local (n.next + 1))) set ∙ ap (λ z. assign (n.next + 2) z set) (last_in (seen set)) ∙ assigns (n.next + 2) last set k.alive.live in
        meaning_seq layout (jump ws (n.next + 1) (n.next + 2) a) set
        ∙ ap (meaning_all layout (place ws (Local (n.next + 2)) ++ (a ∷ place ws (Local (n.next + 1))))) sets
        ∙ all_append layout (place ws (Local (n.next + 2))) (a ∷ place ws (Local (n.next + 1))) b1

    turned : Inv g (next_of n.next (stop_of g joint codes) (Hi g) v m) (turn_of g joint codes v (next_of n.next (stop_of g joint codes) (Hi g) v m) m)
    turned = turn_ends g joint v m k ran has_run begins paid codes body_is

  jumper_does : Does sense ts s m0 (meaning layout (jumper_code n a) m0) n
  jumper_does = loop_does g joint codes (λ v m long alive more. turned v m (record { joint_steady = joint_steady; long = long; alive = alive; more = more }))

pub jumper_means : {S : Type 0} (layout : Layout) (sense : Sense S) → Lawful sense → (n : Nest S) → Separate n → Onward sense n.body → n.next + 2 < layout.locals → 0 < length (walkers jumper n.reads)
    → Idle sense ⊎ (CountsOne jumper n.counts n.reads × Commutes sense n.body) → (a : Code) → Means layout sense a (jumper_nest n) → Means layout sense (jumper_code n a) n
jumper_means layout sense law n apart on room some pays a mean = record {
  does = λ ts s m fits jumps r. jumper_does layout sense n room some pays a mean ts s m (record {
    law = law;
    walk = jumpers_walk;
    apart = apart;
    onward = on;
    room = omega (arith, room);
    fits = fits;
    from = insides_from jumper jumper_child n.hi n.reads;
    jumps = jumps;
    stands = r;
  });
}
