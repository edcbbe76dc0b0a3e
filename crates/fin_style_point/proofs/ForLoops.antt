-- The step of runs and lookups: a loop over the coordinates.
use Rattle.std.proofs.Common.{◌≡◌, ℕ, zero, suc, ◌+◌, ◌<◌, ◌^◌, inl, inr, ⊎_elim, List, [], ◌∷◌, ◌++◌, map, length, Bool, true, false, refl, sym, ap, ◌∙◌, subst, ℤ, pos, ◌+ℤ◌, ◌≤ℤ◌, arith, w64, SFits, get_or-set_same, get_or-set_other}
use Rattle.std.specs.Prelude.{slice_set}
use Rattle.std.proofs.Math.ListN.{length-set}
use Rattle.std.proofs.lemmas.Bool.{cases_eq}
use Rattle.std.proofs.lemmas.Int.{int_wrap_fits}
use borrow.Author.Differences.{up, down, same_in, sum_is_lem, le_out, at_most_in, fits_in}
use Rattle.fin_base.specs.declared.terms.Op.TheVariants as op
use Rattle.fin_base.specs.Words.{operate}
use Rattle.fin_ir.specs.declared.expression.IExpr.TheVariants.{Num, Local}
use Rattle.fin_ir.specs.declared.code.Code.{Code}
use Rattle.fin_ir.specs.declared.code.Code.TheVariants.{Seq, Assign}
use Rattle.fin_ir.specs.declared.layout.Layout.{Layout}
use Rattle.fin_ir.specs.Machine.{Machine, assign, count_turn, seen}
use Rattle.fin_ir.specs.Value.{value_in}
use Rattle.fin_ir.specs.Meaning.{Action, meaning, meaning_all, for_turn, for_turns, span}
use Rattle.fin_ir.proofs.Values.{value_two, value_local, value_num}
use Rattle.fin_ir.proofs.Codes.{meaning_seq, meaning_assign, meaning_for_loop}
use Rattle.fin_ir.proofs.Loops.{span_is}
use Rattle.fin_looplet.specs.View.{Store, value}
use Rattle.fin_looplet.specs.Cut.{plus}
use Rattle.fin_looplet.specs.Lists.{views, seens, AnyOwns}
use Rattle.fin_looplet.proofs.Exprs.{get}
use Rattle.fin_nest.specs.Nests.{over, Flags, fresh, flag_at, Nest, Sense, paid_if, at_act, at_flags, fold, Kept, Separate, Bounds, Fits, Does, Means, MeansCounted}
use Rattle.fin_nest.specs.Laws.{Lawful, Onward, bare, Flagless, AtPoints}
use Rattle.fin_nest.proofs.Still.{stills, for_turn_still}
use Rattle.fin_nest.proofs.Folds.{over_parts}
use Rattle.fin_nest.proofs.Means.{with_local, assigns, computes}
use Rattle.fin_nest.proofs.Jumping.{jumpless}
use Rattle.fin_style_point.specs.Steps.{AllFlat, held, coordinates, hold, point_nest, for_code}
use Rattle.fin_style_point.proofs.Origins.{all_held_none}
use Rattle.fin_style_point.proofs.Flat.{held_sights, none_counted, held_sound, held_owns, Among, owned_among, among_owned}

all_append : (layout : Layout) (xs ys : List Code) (m : Machine) → meaning_all layout (xs ++ ys) m ≡ meaning_all layout ys (meaning_all layout xs m)
all_append layout [] ys m = refl
all_append layout (x ∷ xs) ys m = all_append layout xs ys (meaning layout x m)

-- ---- the codes that set the lookups' coordinates

stays : (ls : List ℤ) (c x : ℕ) (v : ℤ) → c < length ls → get ls x ≡ v → get (slice_set ls c v) x ≡ v
stays ls c x v room e = ⊎_elim
    (λ s. ap (get (slice_set ls c v)) s ∙ get_or-set_same ls c v (pos 0) room)
    (λ ne. get_or-set_other ls c x v (pos 0) ne ∙ e)
    (cases_eq x c)

record Holds {S : Type 0} (sense : Sense S) (cs : List ℕ) (v : ℤ) (m m' : Machine) : Type 0 where
  other : (x : ℕ) → (Among x cs → ⊥) → get m'.locals x ≡ get m.locals x
  placed : (x : ℕ) → Among x cs → get m'.locals x ≡ v
  stay : (x : ℕ) → get m.locals x ≡ v → get m'.locals x ≡ v
  same : (s : S) → sense.stands s m → sense.stands s m'
  long : length m'.locals ≡ length m.locals
  live : m'.cut ≡ false
  tensors : (t : ℕ) → seen m' t ≡ seen m t

module _ {S : Type 0} (layout : Layout) (sense : Sense S) (law : Lawful sense) (from : ℕ) where
  holds : (cs : List ℕ) (v : ℤ) (m : Machine) → m.cut ≡ false → get m.locals from ≡ v → ((x : ℕ) → Among x cs → x < length m.locals) → Holds sense cs v m (meaning_all layout (hold cs (Local from)) m)
  holds [] v m live at room = record { other = λ x o. refl; placed = λ x o. absurd o; stay = λ x e. e; same = λ s r. r; long = refl; live = live; tensors = λ t. refl }
  holds (c ∷ cs) v m live at room =
      let m2 : Machine = with_local c v m in
      let far : length m2.locals ≡ length m.locals = length-set m.locals c v in
      let inside = room c (inl refl) in
      let step : meaning layout (Assign c (Local from)) m ≡ m2 = meaning_assign layout c (Local from) m ∙ ap (λ z. assign c z m) (value_local (seen m) m.locals from ∙ at) ∙ assigns c v m live in
      let p = holds cs v m2 live (stays m.locals c from v inside at) (λ x w. let r = room x (inr w) in omega (arith, r, far)) in
      let k : Holds sense (c ∷ cs) v m (meaning_all layout (hold cs (Local from)) m2) = record {
        other = λ x o. p.other x (λ q. o (inr q)) ∙ get_or-set_other m.locals c x v (pos 0) (λ e. o (inl e));
        placed = λ x o. ⊎_elim (λ e. p.stay x (ap (get m2.locals) e ∙ get_or-set_same m.locals c v (pos 0) inside)) (p.placed x) o;
        stay = λ x e. p.stay x (stays m.locals c x v inside e);
        same = λ s r. p.same s (subst (sense.stands s) (assigns c v m live) (law.assign c v s m r));
        long = p.long ∙ far;
        live = p.live;
        tensors = p.tensors;
      } in
      subst (λ (x : Machine). Holds sense (c ∷ cs) v m (meaning_all layout (hold cs (Local from)) x)) (sym step) k

-- ---- a loop over the coordinates
module _ {S : Type 0} (layout : Layout) (sense : Sense S) (law : Lawful sense) (n : Nest S) (apart : Separate n) (on : Onward sense n.body) (room : n.next < layout.locals) (flat : AllFlat n.reads) (flagless : Flagless n) (points : AtPoints n.body) (a : Code) (mean : MeansCounted layout sense a (point_nest n)) where
  abbrev codes : List Code
  codes = hold (coordinates n.reads) (Local n.next) ++ a ∷ []

  abbrev turn : Action
  turn = meaning layout (Seq (hold (coordinates n.reads) (Local n.next) ++ a ∷ []))

  owned : (x : ℕ) → AnyOwns x n.reads → x < layout.locals
  owned x o = let b = apart.own_below x o in omega (arith, b, room)

  kept_point : (x : ℕ) → Kept n x → Kept (point_nest n) x
  kept_point x k = let b = k.below in record { below = omega (arith, b); no_var = k.no_var; no_own = held_owns x n.reads flat }

  module _ (ts : Store) (s : S) (m0 : Machine) (fits : Fits layout ts m0 n) (stands0 : sense.stands s m0) where
    abbrev Lo : ℤ
    Lo = value ts m0.locals n.lo

    abbrev Hi : ℤ
    Hi = value ts m0.locals n.hi

    -- what the nest comes to after so many coordinates
    abbrev after : ℕ → S
    after k = over (at_act sense.pay ts m0.locals n) (at_flags ts m0.locals n) k fresh Lo s

    record Same (m : Machine) : Type 0 where
      kept : (x : ℕ) → Kept n x → get m.locals x ≡ get m0.locals x
      steady : (t : ℕ) → n.steady t ≡ true → seen m t ≡ seen m0 t

    record Inv (k : ℕ) (m : Machine) : Type 0 where
      done : sense.stands (after k) m
      long : length m.locals ≡ length m0.locals
      same : m.cut ≡ false → Same m

    one_more : (k : ℕ) → after (suc k) ≡ at_act sense.pay ts m0.locals n (flag_at (at_flags ts m0.locals n) fresh Lo k) (Lo +ℤ pos k) (after k)
    one_more k =
        let f = at_act sense.pay ts m0.locals n in
        let p = at_flags ts m0.locals n in
        let e : suc k ≡ k + 1 = omega arith in
        ap (λ z. over f p z fresh Lo s) e ∙ over_parts f p k 1 fresh Lo s

    -- the flags don't matter
    flag_stops : (k : ℕ) → (flag_at (at_flags ts m0.locals n) fresh Lo k).stopped ≡ false
    flag_stops zero = refl
    flag_stops (suc k) = none_counted ts m0.locals Hi (Lo +ℤ pos k) n.counts n.reads flat

    plain_act : (f : Flags) (i : ℤ) (r : S) → f.stopped ≡ false → at_act sense.pay ts m0.locals n f i r ≡ n.body (seens (views ts m0.locals n.reads Hi i)) true i r
    plain_act f i r e = ap (λ b. n.body (seens (views ts m0.locals n.reads Hi i)) f.begins i (paid_if sense.pay b r)) e ∙ flagless ts m0.locals f.begins i r

    after_is : (k : ℕ) → after (suc k) ≡ n.body (seens (views ts m0.locals n.reads Hi (Lo +ℤ pos k))) true (Lo +ℤ pos k) (after k)
    after_is k = one_more k ∙ plain_act (flag_at (at_flags ts m0.locals n) fresh Lo k) (Lo +ℤ pos k) (after k) (flag_stops k)

    -- a turn of a machine that was cut
    cut_turn : (k : ℕ) (v : ℤ) (m : Machine) → m.cut ≡ true → Inv k m → Inv (suc k) (for_turn n.next turn v m)
    cut_turn k v m c i =
        let still : for_turn n.next turn v m ≡ m = for_turn_still turn (stills layout (Seq (hold (coordinates n.reads) (Local n.next) ++ a ∷ []))) n.next v m c in
        subst (Inv (suc k)) (sym still) (record {
          done = subst (λ z. sense.stands z m) (sym (after_is k)) (on (seens (views ts m0.locals n.reads Hi (Lo +ℤ pos k))) true (Lo +ℤ pos k) (after k) m c i.done);
          long = i.long;
          same = λ d. cc;
        })

    -- a turn of another one
    module _ (k : ℕ) (v : ℤ) (m : Machine) (is : v ≡ Lo +ℤ pos k) (below : k < span Lo Hi) (live : m.cut ≡ false) (i : Inv k m) where
      abbrev begun : Machine
      begun = with_local n.next v m

      abbrev set : Machine
      set = meaning_all layout (hold (coordinates n.reads) (Local n.next)) begun

      within : n.next < length m.locals
      within = omega (arith, room, fits.locals, i.long)

      begun_at : get begun.locals n.next ≡ v
      begun_at = get_or-set_same m.locals n.next v (pos 0) within

      begun_long : length begun.locals ≡ length m0.locals
      begun_long = length-set m.locals n.next v ∙ i.long

      begun_kept : (x : ℕ) → Kept n x → get begun.locals x ≡ get m0.locals x
      begun_kept x q = let w = q.below in get_or-set_other m.locals n.next x v (pos 0) (λ e. omega (arith, w, e)) ∙ (i.same live).kept x q

      made : Holds sense (coordinates n.reads) v begun set
      made = holds layout sense law n.next (coordinates n.reads) v begun live begun_at (λ x o. let b = owned x (among_owned x n.reads flat o) in omega (arith, b, fits.locals, begun_long))

      set_long : length set.locals ≡ length m0.locals
      set_long = made.long ∙ begun_long

      set_kept : (x : ℕ) → Kept n x → get set.locals x ≡ get m0.locals x
      set_kept x q = made.other x (λ o. q.no_own (among_owned x n.reads flat o)) ∙ begun_kept x q

      set_at : value ts set.locals (Local n.next) ≡ v
      set_at = value_local ts set.locals n.next ∙ made.stay n.next begun_at

      set_steady : (t : ℕ) → n.steady t ≡ true → seen set t ≡ seen m0 t
      set_steady t e = made.tensors t ∙ (i.same live).steady t e

      v_up : (up v + down Lo ≡ up Lo + down v + k) × (up v + down Hi < up Hi + down v)
      v_up = let u = ap up is in let d = ap down is in (omega (arith, u, d, sum_is_lem Lo (pos k)), omega (arith, u, d, sum_is_lem Lo (pos k), below, span_is Lo Hi))

      end_is : value ts set.locals (plus (Local n.next) (Num (pos 1))) ≡ v +ℤ pos 1
      end_is =
          let b = fits.bounds in
          let f : SFits w64 (v +ℤ pos 1) = fits_in w64 (v +ℤ pos 1) (omega (arith, sum_is_lem v (pos 1), v_up, le_out Hi (pos (2 ^ 40)) b.high_top, le_out (pos 0) Lo b.low)) in
          value_two ts set.locals op.Add (Local n.next) (Num (pos 1)) ∙ ap (λ z. operate op.Add z (value ts set.locals (Num (pos 1)))) set_at ∙ ap (operate op.Add v) (value_num ts set.locals (pos 1)) ∙ int_wrap_fits w64 (v +ℤ pos 1) f

      fits_point : Fits layout ts set (point_nest n)
      fits_point =
          let b = fits.bounds in
          let v0 : pos 0 ≤ℤ v = at_most_in (pos 0) v (omega (arith, le_out (pos 0) Lo b.low, v_up)) in
          let v1 : v ≤ℤ pos (2 ^ 40) = at_most_in v (pos (2 ^ 40)) (omega (arith, le_out Hi (pos (2 ^ 40)) b.high_top, v_up)) in
          let n0 : pos 0 ≤ℤ (v +ℤ pos 1) = at_most_in (pos 0) (v +ℤ pos 1) (omega (arith, le_out (pos 0) Lo b.low, v_up, sum_is_lem v (pos 1))) in
          let n1 : (v +ℤ pos 1) ≤ℤ pos (2 ^ 40) = at_most_in (v +ℤ pos 1) (pos (2 ^ 40)) (omega (arith, le_out Hi (pos (2 ^ 40)) b.high_top, v_up, sum_is_lem v (pos 1))) in
          let c : Bounds v (v +ℤ pos 1) = record { low = v0; low_top = v1; high = n0; high_top = n1 } in
          record {
            live = made.live;
            locals = set_long ∙ fits.locals;
            steady = λ t e. set_steady t e ∙ fits.steady t e;
            pinned = λ x z e. set_kept x (apart.pins x z e) ∙ fits.pinned x z e;
            bounds = subst (λ z. Bounds z (value ts set.locals (plus (Local n.next) (Num (pos 1))))) (sym set_at) (subst (λ z. Bounds v z) (sym end_is) c);
            sound = λ j low lt. held_sound ts set.locals (value ts set.locals (plus (Local n.next) (Num (pos 1)))) j n.reads flat;
          }

      stands_set : sense.stands (after k) set
      stands_set = made.same (after k) (subst (sense.stands (after k)) (assigns n.next v m live) (law.assign n.next v (after k) m i.done))

      did : Does sense ts (after k) set (count_turn (meaning layout a set)) (point_nest n)
      did = mean.does ts (after k) set fits_point (jumpless sense ts set.locals (point_nest n) (all_held_none n.reads flat)) stands_set

      part_is : fold sense.pay ts set.locals (point_nest n) (after k) ≡ after (suc k)
      part_is =
          let g = at_act sense.pay ts set.locals (point_nest n) in
          let q = at_flags ts set.locals (point_nest n) in
          let top = value ts set.locals (plus (Local n.next) (Num (pos 1))) in
          let one : span v (v +ℤ pos 1) ≡ 1 = omega (arith, span_is v (v +ℤ pos 1), sum_is_lem v (pos 1)) in
          let ss' = seens (views ts set.locals (map held n.reads) top v) in
          let ss = seens (views ts m0.locals n.reads Hi v) in
          let e : map bare ss' ≡ map bare ss = held_sights ts m0.locals set.locals top Hi v v n.reads flat (λ x o. let b = owned x o in omega (arith, b, fits.locals)) (λ x w. set_kept x (apart.reads x w)) (λ x o. made.placed x (owned_among x n.reads flat o)) in
          ap (λ z. over g q (span z top) fresh z (after k)) set_at ∙ ap (λ z. over g q (span v z) fresh v (after k)) end_is ∙ ap (λ z. over g q z fresh v (after k)) one
          ∙ points ss' ss v (after k) e ∙ ap (λ j. n.body (seens (views ts m0.locals n.reads Hi j)) true j (after k)) is ∙ sym (after_is k)

      live_turn : Inv (suc k) (for_turn n.next turn v m)
      live_turn =
          let run : for_turn n.next turn v m ≡ count_turn (meaning layout a set) =
          ap (λ (x : Machine). count_turn (turn x)) (assigns n.next v m live)
          ∙ ap count_turn (meaning_seq layout (hold (coordinates n.reads) (Local n.next) ++ a ∷ []) begun ∙ all_append layout (hold (coordinates n.reads) (Local n.next)) (a ∷ []) begun) in
          subst (Inv (suc k)) (sym run) (record {
            done = subst (λ z. sense.stands z (count_turn (meaning layout a set))) part_is did.done;
            long = did.long ∙ set_long;
            same = λ c. record {
              kept = λ x q. did.kept c x (kept_point x q) ∙ set_kept x q;
              steady = λ t e. did.steady c t e ∙ set_steady t e;
            };
          })

    turned : (k : ℕ) (v : ℤ) (m : Machine) → v ≡ Lo +ℤ pos k → k < span Lo Hi → Inv k m → Inv (suc k) (for_turn n.next turn v m)
    turned k v m is below i = either m.cut refl where
      either : (b : Bool) → m.cut ≡ b → Inv (suc k) (for_turn n.next turn v m)
      either true c = cut_turn k v m c i
      either false c = live_turn k v m is below c i

    turns_go : (left k : ℕ) (v : ℤ) (m : Machine) → v ≡ Lo +ℤ pos k → k + left ≡ span Lo Hi → Inv k m → Inv (span Lo Hi) (for_turns n.next turn left v m)
    turns_go zero k v m is e i = let z : k ≡ span Lo Hi = omega (arith, e) in subst (λ j. Inv j m) z i
    turns_go (suc left) k v m is e i =
        let next : v +ℤ pos 1 ≡ Lo +ℤ pos (suc k) = let u = ap up is in let d = ap down is in same_in _ _ (omega (arith, u, d, sum_is_lem v (pos 1), sum_is_lem Lo (pos k), sum_is_lem Lo (pos (suc k)))) in
        turns_go left (suc k) (v +ℤ pos 1) (for_turn n.next turn v m) next (omega (arith, e)) (turned k v m is (omega (arith, e)) i)

    for_does : Does sense ts s m0 (meaning layout (for_code n a) m0) n
    for_does =
        let z : Lo ≡ Lo +ℤ pos 0 = same_in _ _ (omega (arith, sum_is_lem Lo (pos 0))) in
        let first : Inv 0 m0 = record { done = stands0; long = refl; same = λ c. record { kept = λ x k. refl; steady = λ t e. refl } } in
        let all : Inv (span Lo Hi) (for_turns n.next turn (span Lo Hi) Lo m0) = turns_go (span Lo Hi) 0 Lo m0 z (omega arith) first in
        let lo : value_in m0 n.lo ≡ Lo = computes layout ts m0 n n.lo fits.steady apart.lo_loads in
        let hi : value_in m0 n.hi ≡ Hi = computes layout ts m0 n n.hi fits.steady apart.hi_loads in
        let run : meaning layout (for_code n a) m0 ≡ for_turns n.next turn (span Lo Hi) Lo m0 =
        meaning_for_loop layout n.next n.lo n.hi (Seq (hold (coordinates n.reads) (Local n.next) ++ a ∷ [])) m0
        ∙ ap (λ x. for_turns n.next turn (span x (value_in m0 n.hi)) x m0) lo ∙ ap (λ x. for_turns n.next turn (span Lo x) Lo m0) hi in
        subst (λ (x : Machine). Does sense ts s m0 x n) (sym run) (record {
          done = all.done;
          long = all.long;
          kept = λ c x k. (all.same c).kept x k;
          steady = λ c t e. (all.same c).steady t e;
        })

-- where a code means the nest of one coordinate, with the turn behind it, the loop over the coordinates means the nest
pub for_means : {S : Type 0} (layout : Layout) (sense : Sense S) → Lawful sense → (n : Nest S) → Separate n → Onward sense n.body → n.next < layout.locals → AllFlat n.reads → Flagless n → AtPoints n.body
    → (a : Code) → MeansCounted layout sense a (point_nest n) → Means layout sense (for_code n a) n
for_means layout sense law n apart on room flat flagless points a mean = record { does = λ ts s m fits jumps r. for_does layout sense law n apart on room flat flagless points a mean ts s m fits r }
