-- Before the stops: what a list with its walkers' children shows, asks and depends on, and what it weighs.
use Rattle.std.proofs.Common.{◌≡◌, ◌≢◌, ℕ, ◌<◌, ◌⊎◌, inl, inr, ⊎_elim, List, [], ◌∷◌, length, true, Option, Some, None, refl, sym, ap, ◌∙◌, subst, ℤ, pos, ◌+ℤ◌, ◌≤ℤ◌, ◌<ℤ◌, arith, get_or-set_same, get_or-set_other}
use Rattle.std.specs.Prelude.{int_le, slice_set}
use Rattle.std.proofs.Math.ListN.{length-set}
use Rattle.std.proofs.lemmas.Bool.{cases_eq}
use borrow.Author.Differences.{lt_out, below_in}
use Rattle.fin_ir.specs.declared.expression.IExpr.{IExpr}
use Rattle.fin_looplet.specs.declared.looplet.Walker.{Walker}
use Rattle.fin_looplet.specs.declared.looplet.Looplet.{Looplet}
use Rattle.fin_looplet.specs.Names.{Names}
use Rattle.fin_looplet.specs.View.{Store, value, View, view, ended}
use Rattle.fin_looplet.specs.Sound.{SoundWithin, Near}
use Rattle.fin_looplet.specs.Locals.{Free}
use Rattle.fin_looplet.specs.Cut.{cut}
use Rattle.fin_looplet.specs.Like.{Like, AllLike}
use Rattle.fin_looplet.specs.Lists.{views, AllSound, AnyFree}
use Rattle.fin_looplet.proofs.Exprs.{get}
use Rattle.fin_looplet.proofs.Frame.{view_same, sound_same, sound_less}
use Rattle.fin_looplet.proofs.Cuts.{like_on, cut_like, cut_sound}
use Rattle.fin_looplet.proofs.CutLocals.{cut_free}
use Rattle.fin_style_step.specs.Steps.{walkers, Among, stop_at, inside, insides}
use Rattle.fin_style_step.proofs.Phases.{nears, like_ended, isn't_up_to}
use Rattle.fin_style_step.proofs.Walks.{step_at, seek_at, Walks, Kind, among_first, among_later}
use Rattle.fin_style_step.proofs.Joints.{at_most}

-- in locals in which the cursor is that of v, what the stop or the child sees
pub child_sees : (ts : Store) (ls now : List ℤ) (v : ℤ) (w : Walker) (x : ℕ) → w.cursor < length ls → get now w.cursor ≡ seek_at ts ls w v → ((x ≢ w.cursor) → get now x ≡ get ls x) → get now x ≡ get (step_at ts ls w v) x
child_sees ts ls now v w x within placed h =
    let c = seek_at ts ls w v in
    ⊎_elim
    (λ e. ap (get now) e ∙ placed ∙ sym (get_or-set_same ls w.cursor c (pos 0) within) ∙ ap (get (slice_set ls w.cursor c)) (sym e))
    (λ ne. h ne ∙ sym (get_or-set_other ls w.cursor x c (pos 0) ne))
    (cases_eq x w.cursor)

-- ---- what it shows

-- a coordinate i from v on and before e, where no stop is
pub record Between (ts : Store) (ls now : List ℤ) (hi : IExpr) (v e i : ℤ) : Type 0 where
  pub long : length now ≡ length ls
  pub top : value ts now hi ≡ value ts ls hi
  pub near : Near i
  pub from : v ≤ℤ i
  pub under_hi : i <ℤ value ts ls hi
  pub under : i <ℤ e
  pub end : at_most e (value ts ls hi)

-- a walker whose cursor is that of v
pub record Set (ts : Store) (ls now : List ℤ) (v e : ℤ) (w : Walker) : Type 0 where
  pub room : w.cursor < length ls
  pub placed : get now w.cursor ≡ seek_at ts ls w v
  pub over : at_most e (stop_at ts ls w v)

module _ (ts : Store) (ls now : List ℤ) (hi : IExpr) (v e i : ℤ) (b : Between ts ls now hi v e i) where
  abbrev Hi : ℤ
  Hi = value ts ls hi

  -- ---- a looplet that is cut at the end
  module _ (l : Looplet) (free : (x : ℕ) → Free x l → get now x ≡ get ls x) (s : SoundWithin Near ts ls l (λ j. j <ℤ value ts ls hi) i) where
    same_sound : SoundWithin Near ts now l (λ j. j <ℤ value ts ls hi) i
    same_sound = sound_same Near ts l ls now (λ j. j <ℤ Hi) i (sym b.long) (λ x f. sym (free x f)) s

    under_now : i <ℤ value ts now hi
    under_now = subst (λ z. i <ℤ z) (sym b.top) b.under_hi

    other_like : (end : ℤ) → Like ((i +ℤ pos 1) <ℤ e) (view ts now (cut hi l) end i) (view ts ls l (value ts ls hi) i)
    other_like end =
        let c = cut_like Near nears ts now l hi end i (λ j. j <ℤ Hi) b.near under_now same_sound in
        let r = ap (λ z. view ts now l z i) b.top ∙ view_same ts l now ls Hi i b.long free in
        like_on (view ts now (cut hi l) end i) (view ts now l (value ts now hi) i) (view ts ls l Hi i)
        (λ y. subst (λ z. (i +ℤ pos 1) <ℤ z) (sym b.top) (below_in (i +ℤ pos 1) Hi (omega (arith, lt_out (i +ℤ pos 1) e y, b.end)))) c r

    other_sound : SoundWithin Near ts now (cut hi l) (λ j. j <ℤ e) i
    other_sound = sound_less Near Near nears ts now (cut hi l) (λ j. j <ℤ Hi) (λ j. j <ℤ e) i (λ j q. below_in j Hi (omega (arith, lt_out j e q, b.end)))
        (cut_sound Near nears ts now l hi i (λ j. j <ℤ Hi) b.near under_now same_sound)

  -- ---- a walker
  module _ (l : Looplet) (w : Walker) (walks : Walks l w) (set : Set ts ls now v e w) (free : (x : ℕ) → Free x l → get now x ≡ get ls x)
      (sv : SoundWithin Near ts ls l (λ j. j <ℤ value ts ls hi) v) (si : SoundWithin Near ts ls l (λ j. j <ℤ value ts ls hi) i) where
    abbrev st : List ℤ
    st = step_at ts ls w v

    abbrev stop_v : ℤ
    stop_v = stop_at ts ls w v

    under_stop : i <ℤ stop_v
    under_stop = below_in i stop_v (omega (arith, lt_out i e b.under, set.over))

    same_step : step_at ts ls w i ≡ step_at ts ls w v
    same_step = ap (slice_set ls w.cursor) ((walks.sound ts ls Hi v sv).stays i b.from b.under_hi under_stop)

    far : length now ≡ length (step_at ts ls w v)
    far = b.long ∙ sym (length-set ls w.cursor (seek_at ts ls w v))

    child_now : (x : ℕ) → (Names x w.stop ⊎ Free x w.child) → get now x ≡ get (step_at ts ls w v) x
    child_now x f = child_sees ts ls now v w x set.room set.placed (λ ne. free x (walks.sees x ne f))

    child_sound : SoundWithin Near ts (step_at ts ls w v) w.child (λ j. (j <ℤ value ts ls hi) × (j <ℤ stop_at ts ls w v)) i
    child_sound = subst (λ z. SoundWithin Near ts z w.child (λ j. (j <ℤ value ts ls hi) × (j <ℤ value ts z w.stop)) i) same_step (walks.sound ts ls Hi i si).child

    walker_like : (end : ℤ) → Like ((i +ℤ pos 1) <ℤ e) (view ts now (cut w.stop w.child) end i) (view ts ls l (value ts ls hi) i)
    walker_like end =
        let u = view ts st w.child stop_v i in
        let l1 = view_same ts (cut w.stop w.child) now st end i far (λ x f. child_now x (cut_free x w.child w.stop f)) in
        let l2 = cut_like Near nears ts st w.child w.stop end i (λ j. (j <ℤ Hi) × (j <ℤ stop_v)) b.near under_stop child_sound in
        let l3 : Like ((i +ℤ pos 1) <ℤ stop_at ts ls w v) (view ts now (cut w.stop w.child) end i) (view ts (step_at ts ls w v) w.child (stop_at ts ls w v) i) =
        subst (λ (x : View). Like ((i +ℤ pos 1) <ℤ stop_at ts ls w v) x (view ts (step_at ts ls w v) w.child (stop_at ts ls w v) i)) (sym l1) l2 in
        let r : ended (int_le (stop_at ts ls w v) (i +ℤ pos 1)) true (view ts (step_at ts ls w v) w.child (stop_at ts ls w v) i) ≡ view ts ls l (value ts ls hi) i =
        ap (λ z. ended (int_le (value ts z w.stop) (i +ℤ pos 1)) true (view ts z w.child (value ts z w.stop) i)) (sym same_step) ∙ sym (walks.shows ts ls Hi i) in
        let in_stop : (i +ℤ pos 1) <ℤ e → (i +ℤ pos 1) <ℤ stop_at ts ls w v = (λ y. below_in (i +ℤ pos 1) stop_v (omega (arith, lt_out (i +ℤ pos 1) e y, set.over))) in
        let m = like_ended (int_le stop_v (i +ℤ pos 1)) true (view ts now (cut w.stop w.child) end i) u in_stop (λ y. isn't_up_to stop_v (i +ℤ pos 1) (in_stop y)) l3 in
        subst (λ (x : View). Like ((i +ℤ pos 1) <ℤ e) (view ts now (cut w.stop w.child) end i) x) r m

    walker_sound : SoundWithin Near ts now (cut w.stop w.child) (λ j. j <ℤ e) i
    walker_sound =
        let c1 = cut_sound Near nears ts st w.child w.stop i (λ j. (j <ℤ Hi) × (j <ℤ stop_v)) b.near under_stop child_sound in
        let c2 = sound_same Near ts (cut w.stop w.child) st now (λ j. (j <ℤ Hi) × (j <ℤ stop_v)) i (sym far) (λ x f. sym (child_now x (cut_free x w.child w.stop f))) c1 in
        sound_less Near Near nears ts now (cut w.stop w.child) (λ j. (j <ℤ Hi) × (j <ℤ stop_v)) (λ j. j <ℤ e) i
        (λ j q. (below_in j Hi (omega (arith, lt_out j e q, b.end)), below_in j stop_v (omega (arith, lt_out j e q, set.over)))) c2

  -- ---- either
  one_like : (o : Option Walker) (l : Looplet) (end : ℤ) → ((w : Walker) → o ≡ Some w → Walks l w × Set ts ls now v e w) → ((x : ℕ) → Free x l → get now x ≡ get ls x)
      → SoundWithin Near ts ls l (λ j. j <ℤ value ts ls hi) v → SoundWithin Near ts ls l (λ j. j <ℤ value ts ls hi) i → Like ((i +ℤ pos 1) <ℤ e) (view ts now (inside hi o l) end i) (view ts ls l (value ts ls hi) i)
  one_like None l end h free sv si = other_like l free si end
  one_like (Some w) l end h free sv si = walker_like l w (h w refl).0 (h w refl).1 free sv si end

  one_sound : (o : Option Walker) (l : Looplet) → ((w : Walker) → o ≡ Some w → Walks l w × Set ts ls now v e w) → ((x : ℕ) → Free x l → get now x ≡ get ls x)
      → SoundWithin Near ts ls l (λ j. j <ℤ value ts ls hi) v → SoundWithin Near ts ls l (λ j. j <ℤ value ts ls hi) i → SoundWithin Near ts now (inside hi o l) (λ j. j <ℤ e) i
  one_sound None l h free sv si = other_sound l free si
  one_sound (Some w) l h free sv si = walker_sound l w (h w refl).0 (h w refl).1 free sv si

  module _ (kind : Looplet → Option Walker) (walk : Kind kind) where
    pub insides_like : (rs : List Looplet) (end : ℤ) → ((w : Walker) → Among w (walkers kind rs) → Set ts ls now v e w) → ((x : ℕ) → AnyFree x rs → get now x ≡ get ls x)
        → AllSound Near ts ls rs (λ j. j <ℤ value ts ls hi) v → AllSound Near ts ls rs (λ j. j <ℤ value ts ls hi) i → AllLike ((i +ℤ pos 1) <ℤ e) (views ts now (insides kind hi rs) end i) (views ts ls rs (value ts ls hi) i)
    insides_like [] end h free sv si = tt
    insides_like (l ∷ rest) end h free sv si = (
      one_like (kind l) l end (λ w k. (walk l w k, h w (among_first (kind l) w (walkers kind rest) k))) (λ x f. free x (inl f)) sv.0 si.0,
      insides_like rest end (λ w a. h w (among_later (kind l) w (walkers kind rest) a)) (λ x f. free x (inr f)) sv.1 si.1,
    )

    pub insides_sound : (rs : List Looplet) → ((w : Walker) → Among w (walkers kind rs) → Set ts ls now v e w) → ((x : ℕ) → AnyFree x rs → get now x ≡ get ls x)
        → AllSound Near ts ls rs (λ j. j <ℤ value ts ls hi) v → AllSound Near ts ls rs (λ j. j <ℤ value ts ls hi) i → AllSound Near ts now (insides kind hi rs) (λ j. j <ℤ e) i
    insides_sound [] h free sv si = tt
    insides_sound (l ∷ rest) h free sv si = (
      one_sound (kind l) l (λ w k. (walk l w k, h w (among_first (kind l) w (walkers kind rest) k))) (λ x f. free x (inl f)) sv.0 si.0,
      insides_sound rest (λ w a. h w (among_later (kind l) w (walkers kind rest) a)) (λ x f. free x (inr f)) sv.1 si.1,
    )
