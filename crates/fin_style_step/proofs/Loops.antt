-- The loop of a stepping style over a nest's walkers: it means the nest where each of its turns leads on.
use Rattle.std.proofs.Common.{◌≡◌, ℕ, zero, suc, ◌+◌, ◌<◌, ◌⊎◌, inl, inr, ⊎_elim, List, [], ◌∷◌, ◌++◌, length, true, false, Option, refl, sym, ap, ◌∙◌, subst, ℤ, arith}
use Rattle.std.specs.Prelude.{int_lt}
use borrow.Author.Differences.{up, down, lt-false}
use Rattle.fin_ir.specs.declared.expression.IExpr.{IExpr}
use Rattle.fin_ir.specs.declared.code.Code.{Code}
use Rattle.fin_ir.specs.declared.code.Code.TheVariants.{Seq, StepLoop}
use Rattle.fin_ir.specs.declared.layout.Layout.{Layout}
use Rattle.fin_ir.specs.Machine.{Machine, seen}
use Rattle.fin_ir.specs.Value.{value_in}
use Rattle.fin_ir.specs.Meaning.{meaning, meaning_all, span, next_of, step_turn, step_loop}
use Rattle.fin_ir.proofs.Codes.{meaning_seq, meaning_step_loop}
use Rattle.fin_ir.proofs.Loops.{span_is}
use Rattle.fin_looplet.specs.declared.looplet.Walker.{Walker}
use Rattle.fin_looplet.specs.declared.looplet.Looplet.{Looplet}
use Rattle.fin_looplet.specs.Names.{Names, Loads}
use Rattle.fin_looplet.specs.View.{Store, value}
use Rattle.fin_looplet.proofs.Exprs.{get, value_same}
use Rattle.fin_nest.specs.Nests.{Flags, fresh, flag_at, paid_at, Nest, Sense, at_flags, part, Kept, Separate, Jumps, Fits, Does}
use Rattle.fin_nest.specs.Laws.{Lawful, Onward}
use Rattle.fin_nest.proofs.Still.{stills, step_turn_still}
use Rattle.fin_nest.proofs.Turns.{step_rule}
use Rattle.fin_nest.proofs.Statements.{all_append}
use Rattle.fin_nest.proofs.Means.{computes}
use Rattle.fin_nest.proofs.Jumping.{AllFrom}
use Rattle.fin_style_step.specs.Steps.{walkers, Among, place, insides}
use Rattle.fin_style_step.proofs.Walks.{Kind, any_walks}
use Rattle.fin_style_step.proofs.Joints.{at_most}
use Rattle.fin_style_step.proofs.Placing.{Cursor, Placed, placed_from, Placing, places, cursor_owned, distinct, clear}

-- a nest in a machine that it fits, with the kind of walkers that its loop steps
pub record Loop {S : Type 0} (layout : Layout) (sense : Sense S) (n : Nest S) (kind : Looplet → Option Walker) (ts : Store) (s : S) (m0 : Machine) : Type 0 where
  pub law : Lawful sense
  pub walk : Kind kind
  pub apart : Separate n
  pub onward : Onward sense n.body
  pub room : n.next + 1 < layout.locals
  pub fits : Fits layout ts m0 n
  pub from : AllFrom n.reads (insides kind n.hi n.reads)
  pub jumps : Jumps sense ts m0.locals n
  pub stands : sense.stands s m0

module _ {S : Type 0} {layout : Layout} {sense : Sense S} {n : Nest S} {kind : Looplet → Option Walker} {ts : Store} {s : S} {m0 : Machine} (g : Loop layout sense n kind ts s m0) where
  abbrev pub Lo : ℤ
  Lo = value ts m0.locals n.lo

  abbrev pub Hi : ℤ
  Hi = value ts m0.locals n.hi

  -- what the nest comes to after so many coordinates
  abbrev pub after : ℕ → S
  after k = part sense.pay ts m0.locals n k fresh (value ts m0.locals n.lo) s

  abbrev pub flags : ℕ → Flags
  flags k = flag_at (at_flags ts m0.locals n) fresh (value ts m0.locals n.lo) k

  -- the same, with what the stop before v brings in where there is more to come
  abbrev pub ready : ℤ → S
  ready v = paid_at sense.pay (span v (value ts m0.locals n.hi)) (flag_at (at_flags ts m0.locals n) fresh (value ts m0.locals n.lo) (span (value ts m0.locals n.lo) v)).stopped
      (part sense.pay ts m0.locals n (span (value ts m0.locals n.lo) v) fresh (value ts m0.locals n.lo) s)

  -- a machine that comes to v
  pub record Alive (v : ℤ) (m : Machine) : Type 0 where
    pub live : m.cut ≡ false
    pub done : sense.stands (ready v) m
    pub flag : int_lt v Hi ≡ true → (flags (span Lo v)).begins ≡ true
    pub like : (x : ℕ) → Kept n x → get m.locals x ≡ get m0.locals x
    pub steady : (t : ℕ) → n.steady t ≡ true → seen m t ≡ seen m0 t
    pub placed : Placed ts m0.locals v m.locals (walkers kind n.reads)
    pub low : at_most Lo v
    pub top : at_most v Hi ⊎ (v ≡ Lo)

  -- or that was cut
  pub record Cut (m : Machine) : Type 0 where
    pub cut : m.cut ≡ true
    pub done : sense.stands (after (span Lo Hi)) m

  pub record Inv (v : ℤ) (m : Machine) : Type 0 where
    pub long : length m.locals ≡ length m0.locals
    pub is : Alive v m ⊎ Cut m

  -- ---- cursors

  pub cursor_below : (x : ℕ) → Cursor x (walkers kind n.reads) → x < n.next
  cursor_below x c = g.apart.own_below x (cursor_owned kind g.walk n.reads x c)

  pub cursor_room : (x : ℕ) → Cursor x (walkers kind n.reads) → x < length m0.locals
  cursor_room x c = let r = cursor_below x c in let q = g.room in omega (arith, r, q, g.fits.locals)

  pub kept_no_cursor : (x : ℕ) → Kept n x → Cursor x (walkers kind n.reads) → ⊥
  kept_no_cursor x k c = k.no_own (cursor_owned kind g.walk n.reads x c)

  pub seek_loads : (w : Walker) → Among w (walkers kind n.reads) → (t : ℕ) → Loads t w.seek → n.steady t ≡ true
  seek_loads w a t l = g.apart.loads t ((any_walks kind g.walk n.reads w a).loads t (inl l))

  pub placing : (at : IExpr) (m : Machine) → m.cut ≡ false → length m.locals ≡ length m0.locals → ((t : ℕ) → n.steady t ≡ true → seen m t ≡ ts t)
      → ((x : ℕ) → Names x at → Cursor x (walkers kind n.reads) → ⊥) → ((t : ℕ) → Loads t at → n.steady t ≡ true)
      → Placing sense ts (walkers kind n.reads) (value ts m.locals at) m (meaning_all layout (place (walkers kind n.reads) at) m)
  placing at m live long steady names loads =
      places layout sense g.law ts at (walkers kind n.reads) m live (distinct kind g.walk n.reads g.apart.own.apart) (λ x c. let r = cursor_room x c in omega (arith, r, long))
      (clear kind g.walk n.reads g.apart.own.bound) names (λ t l. steady t (loads t l)) (λ w a t l. steady t (seek_loads w a t l))

  -- cursors in locals that keep what the nest keeps
  pub placed_back : (v : ℤ) (ls now : List ℤ) → length ls ≡ length m0.locals → ((x : ℕ) → Kept n x → get ls x ≡ get m0.locals x)
      → Placed ts ls v now (walkers kind n.reads) → Placed ts m0.locals v now (walkers kind n.reads)
  placed_back v ls now long kept p =
      placed_from ts (walkers kind n.reads) ls m0.locals v now long (λ w a x ne h. kept x (g.apart.reads x ((any_walks kind g.walk n.reads w a).seeks x ne h))) p

  -- ---- the loop

  module _ (joint : IExpr) (c : Code) where
    abbrev pub stop_of : Machine → ℤ
    stop_of m = value_in m joint

    abbrev pub turn_of : ℤ → ℤ → Machine → Machine
    turn_of v next m = step_turn n.next (n.next + 1) (meaning layout c) (value ts m0.locals n.hi) v next m

    pub cut_turn : (v next : ℤ) (m : Machine) → length m.locals ≡ length m0.locals → Cut m → Inv next (turn_of v next m)
    cut_turn v next m long k =
        subst (Inv next) (sym (step_turn_still (meaning layout c) (stills layout c) n.next (n.next + 1) stop_of Hi v next m k.cut)) (record { long = long; is = inr k })

    module _ (turned : (v : ℤ) (m : Machine) → length m.locals ≡ length m0.locals → Alive v m → int_lt v (value ts m0.locals n.hi) ≡ true
        → Inv (next_of n.next stop_of (value ts m0.locals n.hi) v m) (turn_of v (next_of n.next stop_of (value ts m0.locals n.hi) v m) m)) where
      turns : (v : ℤ) (m : Machine) → Inv v m → int_lt v (value ts m0.locals n.hi) ≡ true
          → Inv (next_of n.next stop_of (value ts m0.locals n.hi) v m) (turn_of v (next_of n.next stop_of (value ts m0.locals n.hi) v m) m)
      turns v m i t = ⊎_elim (λ l. turned v m i.long l t) (λ k. cut_turn v (next_of n.next stop_of Hi v m) m i.long k) i.is

      -- the loop begins well
      abbrev start : Machine
      start = meaning_all layout (place (walkers kind n.reads) n.lo) m0

      began : Placing sense ts (walkers kind n.reads) Lo m0 start
      began = placing n.lo m0 g.fits.live refl g.fits.steady (λ x e. kept_no_cursor x (g.apart.lo x e)) g.apart.lo_loads

      nothing_paid : (k : ℕ) (r : S) → paid_at sense.pay k false r ≡ r
      nothing_paid zero r = refl
      nothing_paid (suc k) r = refl

      inv_began : Inv Lo start
      inv_began =
          let z : span Lo Lo ≡ 0 = omega (arith, span_is Lo Lo) in
          let e : ready Lo ≡ s = ap (λ k. paid_at sense.pay (span Lo Hi) (flags k).stopped (after k)) z ∙ nothing_paid (span Lo Hi) s in
          record {
            long = began.long;
            is = inl (record {
              live = began.live;
              done = subst (λ r. sense.stands r start) (sym e) (began.same s g.stands);
              flag = λ q. ap (λ k. (flags k).begins) z;
              like = λ x k. began.other x (kept_no_cursor x k);
              steady = λ t e. began.tensors t;
              placed = began.placed;
              low = omega arith;
              top = inr refl;
            });
          }

      start_steady : (t : ℕ) → n.steady t ≡ true → seen start t ≡ ts t
      start_steady t e = began.tensors t ∙ g.fits.steady t e

      start_like : (x : ℕ) → Kept n x → get start.locals x ≡ get m0.locals x
      start_like x k = began.other x (kept_no_cursor x k)

      runs : meaning layout (Seq (place (walkers kind n.reads) n.lo ++ StepLoop n.next (n.next + 1) n.lo n.hi joint c ∷ [])) m0 ≡ step_loop n.next (n.next + 1) stop_of (meaning layout c) Lo Hi start
      runs =
          let ws = walkers kind n.reads in
          let loop = StepLoop n.next (n.next + 1) n.lo n.hi joint c in
          let l : value_in start n.lo ≡ Lo = computes layout ts start n n.lo start_steady g.apart.lo_loads ∙ value_same ts n.lo start.locals m0.locals (λ x e. start_like x (g.apart.lo x e)) in
          let h : value_in start n.hi ≡ Hi = computes layout ts start n n.hi start_steady g.apart.hi_loads ∙ value_same ts n.hi start.locals m0.locals (λ x e. start_like x (g.apart.hi x e)) in
          meaning_seq layout (place ws n.lo ++ loop ∷ []) m0 ∙ all_append layout (place ws n.lo) (loop ∷ []) m0
          ∙ meaning_step_loop layout n.next (n.next + 1) n.lo n.hi joint c start
          ∙ ap (λ z. step_loop n.next (n.next + 1) stop_of (meaning layout c) z (value_in start n.hi) start) l ∙ ap (λ z. step_loop n.next (n.next + 1) stop_of (meaning layout c) Lo z start) h

      finished : (end : ℤ) × (Inv end (step_loop n.next (n.next + 1) stop_of (meaning layout c) Lo Hi start) × (int_lt end Hi ≡ false))
      finished = step_rule n.next (n.next + 1) stop_of (meaning layout c) Hi Inv turns (span Lo Hi) Lo start (omega arith) inv_began

      ended_alive : (end : ℤ) (m : Machine) → int_lt end Hi ≡ false → length m.locals ≡ length m0.locals → Alive end m → Does sense ts s m0 m n
      ended_alive end m f long i =
          let over_hi = lt-false end Hi f in
          let whole : span Lo end ≡ span Lo Hi =
          ⊎_elim (λ k. omega (arith, k, over_hi, span_is Lo end, span_is Lo Hi))
          (λ e. let u = ap up e in let d = ap down e in omega (arith, u, d, over_hi, span_is Lo end, span_is Lo Hi)) i.top in
          let none : span end Hi ≡ 0 = omega (arith, over_hi, span_is end Hi) in
          let e : ready end ≡ after (span Lo Hi) = ap (λ k. paid_at sense.pay k (flags (span Lo end)).stopped (after (span Lo end))) none ∙ ap after whole in
          record {
            done = subst (λ r. sense.stands r m) e i.done;
            long = long;
            kept = λ c x k. i.like x k;
            steady = λ c t q. i.steady t q;
          }

      ended_cut : (m : Machine) → length m.locals ≡ length m0.locals → Cut m → Does sense ts s m0 m n
      ended_cut m long k = record {
        done = k.done;
        long = long;
        kept = λ e x j. let d = k.cut in absurd (cc);
        steady = λ e t q. let d = k.cut in absurd (cc);
      }

      pub loop_does : Does sense ts s m0 (meaning layout (Seq (place (walkers kind n.reads) n.lo ++ StepLoop n.next (n.next + 1) n.lo n.hi joint c ∷ [])) m0) n
      loop_does =
          let i = finished.1.0 in
          let last = step_loop n.next (n.next + 1) stop_of (meaning layout c) Lo Hi start in
          subst (λ (x : Machine). Does sense ts s m0 x n) (sym runs) (⊎_elim (λ l. ended_alive finished.0 last finished.1.1 i.long l) (λ k. ended_cut last i.long k) i.is)
