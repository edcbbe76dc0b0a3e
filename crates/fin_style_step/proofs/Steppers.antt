-- The step of steppers: each turn that is counted is paid by a stop.
use Rattle.std.proofs.Common.{◌≡◌, ℕ, ◌+◌, ◌<◌, ◌⊎◌, inl, inr, ⊎_elim, List, ◌∷◌, true, refl, sym, ap, ◌∙◌, subst, ℤ, pos, negsuc, ◌+ℤ◌, arith}
use Rattle.std.specs.Prelude.{int_lt, int_le, slice_set}
use Rattle.std.specs.Int.{int_min}
use Rattle.std.proofs.lemmas.Int.{int_min_is, int_max_is}
use borrow.Author.Differences.{up, down, same_in, sum_is_lem, lt_out, lt-true, below_in, at_most_in, true_is_le}
use Rattle.fin_ir.specs.declared.expression.IExpr.{IExpr}
use Rattle.fin_ir.specs.declared.expression.IExpr.TheVariants.{Local}
use Rattle.fin_ir.specs.declared.code.Code.{Code}
use Rattle.fin_ir.specs.declared.code.Code.TheVariants.{Seq}
use Rattle.fin_ir.specs.declared.layout.Layout.{Layout}
use Rattle.fin_ir.specs.Machine.{Machine, count_turn}
use Rattle.fin_ir.specs.Meaning.{meaning, span, next_of}
use Rattle.fin_ir.proofs.Values.{value_local}
use Rattle.fin_ir.proofs.Codes.{meaning_seq}
use Rattle.fin_looplet.specs.declared.looplet.Walker.{Walker}
use Rattle.fin_looplet.specs.Names.{Loads}
use Rattle.fin_looplet.specs.View.{Store, value}
use Rattle.fin_looplet.specs.Lists.{AnyOwns}
use Rattle.fin_looplet.proofs.Exprs.{value_same}
use Rattle.fin_nest.specs.Nests.{Flags, paid_if, Nest, Sense, fold, Separate, Does, Means}
use Rattle.fin_nest.specs.Laws.{Lawful, Onward}
use Rattle.fin_nest.proofs.Folds.{shown}
use Rattle.fin_style_step.specs.Steps.{stepper, walkers, Among, stop_at, place, insides, least, stepper_nest, stepper_code}
use Rattle.fin_style_step.specs.Laws.{Idle, Counted}
use Rattle.fin_style_step.proofs.Walks.{steppers_walk, any_walks, all_counted}
use Rattle.fin_style_step.proofs.Origins.{stepper_child, insides_from}
use Rattle.fin_style_step.proofs.Joints.{at_most, least_under, least_is, least_over, least_loads}
use Rattle.fin_style_step.proofs.InsideLocals.{insides_owns}
use Rattle.fin_style_step.proofs.Narrowing.{part_kept, new_kept}
use Rattle.fin_style_step.proofs.Loops.{Loop, Lo, Hi, after, flags, ready, Inv, stop_of, turn_of, loop_does}
use Rattle.fin_style_step.proofs.Turns.{Turn, Joint, next, now, begun, first_placed, first_kept, begun_placed, begun_long, sees_kept, at_var, at_until, steady_m, sound_v, v_hi, next_above, next_end, next_reached, stands_begun, turn_after, idle_pays, ready_is, flags_are, Ran, turn_ends}
use Rattle.fin_style_step.proofs.Pieces.{Piece, stop_is, stop_over, piece_shows, piece_fits, piece_jumps}

module _ {S : Type 0} (layout : Layout) (sense : Sense S) (n : Nest S) (pays : Idle sense ⊎ Counted stepper n.counts n.reads) (a : Code) (mean : Means layout sense a (stepper_nest n)) (ts : Store) (s : S) (m0 : Machine) (g : Loop layout sense n stepper ts s m0) where
  abbrev ws : List Walker
  ws = walkers stepper n.reads

  abbrev joint : IExpr
  joint = least (walkers stepper n.reads) n.hi

  abbrev codes : Code
  codes = Seq (a ∷ place (walkers stepper n.reads) (Local (n.next + 1)))

  joint_steady : (t : ℕ) → Loads t joint → n.steady t ≡ true
  joint_steady t l = ⊎_elim
      (λ w. g.apart.loads t ((any_walks stepper steppers_walk n.reads w.0 w.1.0).loads t (inr (inl w.1.1))))
      (g.apart.hi_loads t) (least_loads t ws n.hi l)

  module _ (v : ℤ) (m : Machine) (k : Turn g joint v m) where
    abbrev J : ℤ
    J = Joint g joint v m k

    abbrev N : ℤ
    N = next g joint v m k

    abbrev here : List ℤ
    here = now g joint v m k

    abbrev set : Machine
    set = begun g joint v m k

    stop_now : (w : Walker) → Among w (walkers stepper n.reads) → value ts here w.stop ≡ stop_at ts m0.locals w v
    stop_now w a = stop_is g v here (first_placed g joint v m k) (first_kept g joint v m k) w a

    hi_now : value ts here n.hi ≡ Hi g
    hi_now = value_same ts n.hi here m0.locals (λ x e. first_kept g joint v m k x (g.apart.hi x e))

    over : (w : Walker) → Among w (walkers stepper n.reads) → at_most (v +ℤ pos 1) (stop_at ts m0.locals w v)
    over w a = stop_over g v (sound_v g joint v m k) w a

    above : at_most (v +ℤ pos 1) J
    above = least_over ts here n.hi (v +ℤ pos 1) ws
        (λ w a. let e = stop_now w a in let u = ap up e in let d = ap down e in omega (arith, u, d, over w a))
        (let u = ap up hi_now in let d = ap down hi_now in omega (arith, u, d, lt_out v (Hi g) (v_hi g joint v m k), sum_is_lem v (pos 1)))

    -- the next coordinate is at most each stop
    stops : (w : Walker) → Among w (walkers stepper n.reads) → at_most N (stop_at ts m0.locals w v)
    stops w a =
        let e = stop_now w a in let u = ap up e in let d = ap down e in
        omega (arith, u, d, above, least_under ts here n.hi ws w a, int_max_is (v +ℤ pos 1) (int_min J (Hi g)), int_min_is J (Hi g))

    piece : Piece g (Local n.next) (Local (n.next + 1)) set v N
    piece = record {
      live = k.alive.live;
      long = begun_long g joint v m k;
      kept = sees_kept g joint v m k;
      steady = steady_m g joint v m k;
      placed = begun_placed g joint v m k;
      from = value_local ts set.locals n.next ∙ at_var g joint v m k;
      to = value_local ts set.locals (n.next + 1) ∙ at_until g joint v m k;
      low = k.alive.low;
      some = next_above g joint v m k;
      end = next_end g joint v m k;
      stops = stops;
    }

    abbrev ran : Machine
    ran = meaning layout a set

    did : Does sense ts (ready g v) set ran (stepper_nest n)
    did = mean.does ts (ready g v) set (piece_fits g (Local n.next) (Local (n.next + 1)) (n.next + 2) set v N piece)
        (piece_jumps g (Local n.next) (Local (n.next + 1)) (n.next + 2) set v N piece) (stands_begun g joint v m k)

    -- the turn leads to the state at its end
    part_is : fold sense.pay ts set.locals (stepper_nest n) (ready g v) ≡ after g (span (Lo g) N)
    part_is =
        shown sense.pay ts m0.locals set.locals n (stepper_nest n) v N (ready g v) refl refl (piece_shows g (Local n.next) (Local (n.next + 1)) (n.next + 2) set v N piece)
        ∙ turn_after g joint v m k

    owns : (x : ℕ) → AnyOwns x (insides stepper n.hi n.reads) → AnyOwns x n.reads
    owns x o = insides_owns stepper steppers_walk n.hi n.reads x o

    has_run : Ran g joint v m k ran
    has_run = record {
      stands = subst (λ z. sense.stands z ran) part_is did.done;
      long = did.long ∙ begun_long g joint v m k;
      kept = λ c x q. did.kept c x (part_kept n (Local n.next) (Local (n.next + 1)) (n.next + 2) (insides stepper n.hi n.reads) g.apart (omega arith) owns x q) ∙ sees_kept g joint v m k x q;
      until = λ c. did.kept c (n.next + 1) (new_kept n (Local n.next) (Local (n.next + 1)) (n.next + 2) (insides stepper n.hi n.reads) g.apart (omega arith) owns (n.next + 1) (omega arith) (omega arith)) ∙ at_until g joint v m k;
      steady = λ c t e. did.steady c t e ∙ k.alive.steady t e;
    }

    -- ---- a turn that ends inside the region ends at a stop

    abbrev last : ℤ
    last = N +ℤ negsuc 0

    back : last +ℤ pos 1 ≡ N
    back = same_in _ _ (omega (arith, sum_is_lem N (negsuc 0), sum_is_lem last (pos 1)))

    record Ends : Type 0 where
      by : Walker
      among : Among by (walkers stepper n.reads)
      stop : stop_at ts m0.locals by v ≡ N

    ends_at : int_lt N (Hi g) ≡ true → Ends
    ends_at q =
        let is = next_reached g joint v m k above q in
        ⊎_elim
        (λ e. let f = is ∙ e ∙ hi_now in let u = ap up f in let d = ap down f in absurd (omega (arith, lt-true N (Hi g) q, u, d)))
        (λ r. record { by = r.0; among = r.1.0; stop = sym (stop_now r.0 r.1.0) ∙ sym r.1.1 ∙ sym is })
        (least_is ts here n.hi ws)

    -- at its last coordinate
    stop_last : (q : int_lt N (Hi g) ≡ true) → stop_at ts m0.locals (ends_at q).by last ≡ N
    stop_last q =
        let e = ends_at q in
        let h = (any_walks stepper steppers_walk n.reads e.by e.among).sound ts m0.locals (Hi g) v (sound_v g joint v m k) in
        let z = sum_is_lem N (negsuc 0) in
        let u = ap up e.stop in let d = ap down e.stop in
        let stays = h.stays last (at_most_in v last (omega (arith, z, next_above g joint v m k))) (below_in last (Hi g) (omega (arith, z, next_end g joint v m k))) (below_in last (stop_at ts m0.locals e.by v) (omega (arith, z, u, d))) in
        ap (λ c. value ts (slice_set m0.locals e.by.cursor c) e.by.stop) stays ∙ e.stop

    ends_by : (q : int_lt N (Hi g) ≡ true) → int_le (stop_at ts m0.locals (ends_at q).by last) (last +ℤ pos 1) ≡ true
    ends_by q =
        let u = ap up (stop_last q) in let d = ap down (stop_last q) in let bu = ap up back in let bd = ap down back in
        sym (true_is_le (stop_at ts m0.locals (ends_at q).by last) (last +ℤ pos 1) (omega (arith, u, d, bu, bd)))

    begins : int_lt N (Hi g) ≡ true → (flags g (span (Lo g) N)).begins ≡ true
    begins q = ap (λ (f : Flags). f.begins) (flags_are g joint v m k) ∙ (any_walks stepper steppers_walk n.reads (ends_at q).by (ends_at q).among).ends ts m0.locals (Hi g) last (ends_by q)

    stopped : Counted stepper n.counts n.reads → int_lt N (Hi g) ≡ true → (flags g (span (Lo g) N)).stopped ≡ true
    stopped c q = ap (λ (f : Flags). f.stopped) (flags_are g joint v m k) ∙ all_counted stepper steppers_walk n.counts n.reads c (ends_at q).by (ends_at q).among ts m0.locals (Hi g) last (ends_by q)

    -- which pays for the count
    pays_once : int_lt N (Hi g) ≡ true → ready g N ≡ sense.pay (after g (span (Lo g) N))
    pays_once q = ready_is g joint v m k q ∙ ⊎_elim
        (λ idle. idle_pays sense idle (flags g (span (Lo g) N)).stopped (after g (span (Lo g) N)))
        (λ c. ap (λ b. paid_if sense.pay b (after g (span (Lo g) N))) (stopped c q)) pays

    paid : int_lt N (Hi g) ≡ true → (x : Machine) → ((z : S) → sense.stands z ran → sense.stands z x) → sense.stands (ready g N) (count_turn x)
    paid q x same = subst (λ z. sense.stands z (count_turn x)) (sym (pays_once q)) (g.law.count (after g (span (Lo g) N)) x (same (after g (span (Lo g) N)) has_run.stands))

    turned : Inv g (next_of n.next (stop_of g joint codes) (Hi g) v m) (turn_of g joint codes v (next_of n.next (stop_of g joint codes) (Hi g) v m) m)
    turned = turn_ends g joint v m k ran has_run begins paid codes (meaning_seq layout (a ∷ place ws (Local (n.next + 1))) set)

  stepper_does : Does sense ts s m0 (meaning layout (stepper_code n a) m0) n
  stepper_does = loop_does g joint codes (λ v m long alive more. turned v m (record { joint_steady = joint_steady; long = long; alive = alive; more = more }))

pub stepper_means : {S : Type 0} (layout : Layout) (sense : Sense S) → Lawful sense → (n : Nest S) → Separate n → Onward sense n.body → n.next + 1 < layout.locals → Idle sense ⊎ Counted stepper n.counts n.reads
    → (a : Code) → Means layout sense a (stepper_nest n) → Means layout sense (stepper_code n a) n
stepper_means layout sense law n apart on room pays a mean = record {
  does = λ ts s m fits jumps r. stepper_does layout sense n pays a mean ts s m (record {
    law = law;
    walk = steppers_walk;
    apart = apart;
    onward = on;
    room = room;
    fits = fits;
    from = insides_from stepper stepper_child n.hi n.reads;
    jumps = jumps;
    stands = r;
  });
}
