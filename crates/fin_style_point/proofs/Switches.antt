-- The step of switches: the first case of the first switch, or the others.
use Rattle.std.proofs.Common.{◌≡◌, ℕ, ◌+◌, ◌<◌, List, [], ◌∷◌, length, Bool, true, false, refl, sym, ap, ◌∙◌, subst, ℤ, pos, ◌+ℤ◌, ◌≤ℤ◌, ◌<ℤ◌, arith, get_or-set_same, get_or-set_other, Some}
use Rattle.std.specs.Prelude.{if◌then◌else◌}
use Rattle.std.proofs.Math.ListN.{length-set}
use borrow.Author.Differences.{at_most_in}
use Rattle.fin_base.specs.Words.{operate, truth}
use Rattle.fin_base.specs.declared.terms.Op.TheVariants as op
use Rattle.fin_ir.specs.declared.expression.IExpr.{IExpr}
use Rattle.fin_ir.specs.declared.expression.IExpr.TheVariants.{Num, Local, Two}
use Rattle.fin_ir.specs.declared.code.Code.{Code}
use Rattle.fin_ir.specs.declared.code.Code.TheVariants.{Assign, When}
use Rattle.fin_ir.specs.declared.layout.Layout.{Layout}
use Rattle.fin_ir.specs.Machine.{Machine, assign, seen}
use Rattle.fin_ir.specs.Value.{value_in, is_off}
use Rattle.fin_ir.specs.Meaning.{meaning}
use Rattle.fin_ir.proofs.Values.{value_two, value_local, value_num}
use Rattle.fin_ir.proofs.Codes.{meaning_seq, meaning_assign, meaning_when}
use Rattle.fin_looplet.specs.declared.looplet.Looplet.{Looplet}
use Rattle.fin_looplet.specs.View.{Store, value, View}
use Rattle.fin_looplet.specs.Sound.{Near}
use Rattle.fin_looplet.specs.Like.{AllLike}
use Rattle.fin_looplet.specs.Lists.{views, AllSound, AnyFree}
use Rattle.fin_looplet.proofs.Cuts.{like_same}
use Rattle.fin_looplet.proofs.Exprs.{get, value_same}
use Rattle.fin_looplet.proofs.Lists.{views_same, all_same}
use Rattle.fin_nest.specs.Nests.{Nest, Sense, Kept, Separate, Bounds, Jumps, Fits, Does, Means}
use Rattle.fin_nest.specs.Laws.{Lawful}
use Rattle.fin_nest.proofs.Still.{stills}
use Rattle.fin_nest.proofs.Folds.{Shows, shown}
use Rattle.fin_nest.proofs.Jumping.{AllFrom, jumps_on}
use Rattle.fin_nest.proofs.Means.{with_local, assigns, computes, unbound}
use Rattle.fin_style_point.specs.Steps.{Choice, first_switch, switch_nest, switch_code}
use Rattle.fin_style_point.specs.Laws.{SwitchSplits}
use Rattle.fin_style_point.proofs.Within.{Within, separate_within}
use Rattle.fin_style_point.proofs.Branches.{Branches, Chooses, chooses, branch_within}
use Rattle.fin_style_point.proofs.Origins.{switch_parts_from}

self_like : (inside : Type 0) (vs : List View) → AllLike inside vs vs
self_like inside [] = tt
self_like inside (v ∷ vs) = (like_same v v refl, self_like inside vs)

all_like : (inside : Type 0) (vs ws : List View) → vs ≡ ws → AllLike inside vs ws
all_like inside vs ws e = subst (AllLike inside vs) e (self_like inside vs)

-- ---- a nest whose looplets are replaced, in locals that differ at the first free one alone

record Taken {S : Type 0} (sense : Sense S) (ts : Store) (s : S) (m m' : Machine) (n : Nest S) (v : ℤ) : Type 0 where
  does : Does sense ts s m m' n
  flag : m'.cut ≡ false → get m'.locals n.next ≡ v

module _ {S : Type 0} (layout : Layout) (sense : Sense S) (law : Lawful sense) (n : Nest S) (apart : Separate n) (room : n.next < layout.locals) (rs : List Looplet) (w : Within n rs) (a : Code)
    (mean : Means layout sense a (switch_nest n rs)) (ts : Store) (s : S) (m : Machine) (v : ℤ) (fits : Fits layout ts m n) (jumps : Jumps sense ts m.locals n) (stands : sense.stands s m) (from : AllFrom n.reads rs)
    (same : (i : ℤ) → value ts m.locals n.lo ≤ℤ i → i <ℤ value ts m.locals n.hi → AllSound Near ts m.locals rs (λ j. j <ℤ value ts m.locals n.hi) i × (views ts m.locals rs (value ts m.locals n.hi) i ≡ views ts m.locals n.reads (value ts m.locals n.hi) i)) where
  abbrev m1 : Machine
  m1 = with_local n.next v m

  abbrev Lo : ℤ
  Lo = value ts m.locals n.lo

  abbrev Hi : ℤ
  Hi = value ts m.locals n.hi

  within : n.next < length m.locals
  within = omega (arith, room, fits.locals)

  long1 : length m1.locals ≡ length m.locals
  long1 = length-set m.locals n.next v

  like1 : (x : ℕ) → x < n.next → get m1.locals x ≡ get m.locals x
  like1 x w = get_or-set_other m.locals n.next x v (pos 0) (λ e. omega (arith, w, e))

  lo1 : value ts m1.locals n.lo ≡ Lo
  lo1 = value_same ts n.lo m1.locals m.locals (λ x e. like1 x (apart.lo x e).below)

  hi1 : value ts m1.locals n.hi ≡ Hi
  hi1 = value_same ts n.hi m1.locals m.locals (λ x e. like1 x (apart.hi x e).below)

  free1 : (x : ℕ) → AnyFree x rs → get m1.locals x ≡ get m.locals x
  free1 x f = like1 x (w.free x f).below

  fits1 : Fits layout ts m1 (switch_nest n rs)
  fits1 = record {
    live = fits.live;
    locals = long1 ∙ fits.locals;
    steady = fits.steady;
    pinned = λ x w e. like1 x (apart.pins x w e).below ∙ fits.pinned x w e;
    bounds = subst (λ z. Bounds z (value ts m1.locals n.hi)) (sym lo1) (subst (λ z. Bounds Lo z) (sym hi1) fits.bounds);
    sound = λ i low lt.
        let q = (same i (subst (λ z. z ≤ℤ i) lo1 low) (subst (λ z. i <ℤ z) hi1 lt)).0 in
        let q1 = all_same Near ts rs m.locals m1.locals (λ j. j <ℤ Hi) i (sym long1) (λ x f. sym (free1 x f)) q in
        subst (λ z. AllSound Near ts m1.locals rs (λ j. j <ℤ z) i) (sym hi1) q1;
  }

  stands1 : sense.stands s m1
  stands1 = subst (sense.stands s) (assigns n.next v m fits.live) (law.assign n.next v s m stands)

  shows : Shows ts m.locals m1.locals n (switch_nest n rs) Lo Hi
  shows = record {
    lo = lo1;
    hi = hi1;
    like = λ i low lt. all_like ((i +ℤ pos 1) <ℤ Hi) (views ts m1.locals rs (value ts m1.locals n.hi) i) (views ts m.locals n.reads Hi i)
        (ap (λ z. views ts m1.locals rs z i) hi1 ∙ views_same ts rs m1.locals m.locals Hi i long1 free1 ∙ (same i low lt).1);
  }

  jumps1 : Jumps sense ts m1.locals (switch_nest n rs)
  jumps1 = jumps_on sense ts m.locals m1.locals n (switch_nest n rs) Lo Hi refl shows from (at_most_in Lo Lo (omega arith)) (at_most_in Hi Hi (omega arith)) jumps

  did : Does sense ts s m1 (meaning layout a m1) (switch_nest n rs)
  did = mean.does ts s m1 fits1 jumps1 stands1

  kept_at : Kept (switch_nest n rs) n.next
  kept_at = record {
    below = omega arith;
    no_var = unbound (n.binds n.next) (λ e. let b = apart.binds_below n.next e in omega (arith, b));
    no_own = λ o. let b = apart.own_below n.next (w.owns n.next o) in omega (arith, b);
  }

  taken : Taken sense ts s m (meaning layout a m1) n v
  taken = record {
    does = record {
      done = subst (λ z. sense.stands z (meaning layout a m1)) (shown sense.pay ts m.locals m1.locals n (switch_nest n rs) Lo Hi s refl refl shows) did.done;
      long = did.long ∙ long1;
      kept = λ c x k. let b = k.below in did.kept c x (record { below = omega (arith, b); no_var = k.no_var; no_own = λ o. k.no_own (w.owns x o) }) ∙ like1 x k.below;
      steady = did.steady;
    };
    flag = λ c. did.kept c n.next kept_at ∙ get_or-set_same m.locals n.next v (pos 0) within;
  }

-- ---- tests of the local

when_on : (layout : Layout) (test : IExpr) (c : Code) (x : Machine) → is_off (value_in x test) ≡ false → meaning layout (When test c) x ≡ meaning layout c x
when_on layout test c x t = meaning_when layout test c x ∙ ap (λ (b : Bool). if b then x else meaning layout c x) t

when_off : (layout : Layout) (test : IExpr) (c : Code) (x : Machine) → is_off (value_in x test) ≡ true → meaning layout (When test c) x ≡ x
when_off layout test c x t = meaning_when layout test c x ∙ ap (λ (b : Bool). if b then x else meaning layout c x) t

-- ---- the step

module _ {S : Type 0} (layout : Layout) (sense : Sense S) (law : Lawful sense) (n : Nest S) (apart : Separate n) (room : n.next < layout.locals) (c : Choice) (choice : Chooses n.reads c) (from : AllFrom n.reads c.taken × AllFrom n.reads c.others)
    (a b : Code) (mean_a : Means layout sense a (switch_nest n c.taken)) (mean_b : Means layout sense b (switch_nest n c.others)) (ts : Store) (s : S) (m : Machine) (fits : Fits layout ts m n) (jumps : Jumps sense ts m.locals n) (stands : sense.stands s m) where
  abbrev Test : ℤ
  Test = value ts m.locals c.test

  abbrev mf : Machine
  mf = with_local n.next Test m

  -- the value is 0
  abbrev none : IExpr
  none = Two op.Eq (Local n.next) (Num (pos 0))

  first : meaning layout (Assign n.next c.test) m ≡ mf
  first =
      meaning_assign layout n.next c.test m
      ∙ ap (λ v. assign n.next v m) (computes layout ts m n c.test fits.steady (λ t l. apart.loads t (choice.0.test_loads t l)))
      ∙ assigns n.next Test m fits.live

  sees : get mf.locals n.next ≡ Test
  sees = get_or-set_same m.locals n.next Test (pos 0) (omega (arith, room, fits.locals))

  here_is : (x : Machine) → get x.locals n.next ≡ Test → value_in x (Local n.next) ≡ Test
  here_is x e = value_local (seen x) x.locals n.next ∙ e

  none_is : (x : Machine) → get x.locals n.next ≡ Test → value_in x none ≡ truth (is_off Test)
  none_is x e =
      value_two (seen x) x.locals op.Eq (Local n.next) (Num (pos 0))
      ∙ ap (operate op.Eq (value_in x (Local n.next))) (value_num (seen x) x.locals (pos 0)) ∙ ap (λ z. truth (is_off z)) (here_is x e)

  by_yes : is_off Test ≡ false → Taken sense ts s m (meaning layout a mf) n Test
  by_yes t = taken layout sense law n apart room c.taken (branch_within n c.taken c.test false choice.0 apart) a mean_a ts s m Test fits jumps stands from.0
      (λ i low lt. let Hi = value ts m.locals n.hi in let q = fits.sound i low lt in (choice.0.sound ts m.locals Hi i t q, choice.0.shows ts m.locals Hi Hi i t q))

  by_no : is_off Test ≡ true → Taken sense ts s m (meaning layout b mf) n Test
  by_no t = taken layout sense law n apart room c.others (branch_within n c.others c.test true choice.1 apart) b mean_b ts s m Test fits jumps stands from.1
      (λ i low lt. let Hi = value ts m.locals n.hi in let q = fits.sound i low lt in (choice.1.sound ts m.locals Hi i t q, choice.1.shows ts m.locals Hi Hi i t q))

  -- behind the first case's code: it was cut, or the local stands as it stood
  behind : (d : Bool) → (meaning layout a mf).cut ≡ d → (t : is_off Test ≡ false) → meaning layout (When none b) (meaning layout a mf) ≡ meaning layout a mf
  behind true d t = stills layout (When none b) (meaning layout a mf) d
  behind false d t = when_off layout none b (meaning layout a mf) (ap is_off (none_is (meaning layout a mf) ((by_yes t).flag d) ∙ ap truth t))

  runs_yes : is_off Test ≡ false → meaning layout (switch_code n c.test a b) m ≡ meaning layout a mf
  runs_yes t =
      meaning_seq layout (Assign n.next c.test ∷ When (Local n.next) a ∷ When none b ∷ []) m
      ∙ ap (λ (x : Machine). meaning layout (When none b) (meaning layout (When (Local n.next) a) x)) first
      ∙ ap (meaning layout (When none b)) (when_on layout (Local n.next) a mf (ap is_off (here_is mf sees) ∙ t))
      ∙ behind (meaning layout a mf).cut refl t

  runs_no : is_off Test ≡ true → meaning layout (switch_code n c.test a b) m ≡ meaning layout b mf
  runs_no t =
      meaning_seq layout (Assign n.next c.test ∷ When (Local n.next) a ∷ When none b ∷ []) m
      ∙ ap (λ (x : Machine). meaning layout (When none b) (meaning layout (When (Local n.next) a) x)) first
      ∙ ap (meaning layout (When none b)) (when_off layout (Local n.next) a mf (ap is_off (here_is mf sees) ∙ t))
      ∙ when_on layout none b mf (ap is_off (none_is mf sees ∙ ap truth t))

  switch_does : Does sense ts s m (meaning layout (switch_code n c.test a b) m) n
  switch_does = elim (is_off Test) as (λ v. is_off Test ≡ v → Does sense ts s m (meaning layout (switch_code n c.test a b) m) n) [
    | true ↦ (λ t. subst (λ (x : Machine). Does sense ts s m x n) (sym (runs_no t)) (by_no t).does)
    | false ↦ (λ t. subst (λ (x : Machine). Does sense ts s m x n) (sym (runs_yes t)) (by_yes t).does)
  ] refl

branch_separate : {S : Type 0} (n : Nest S) (taken : List Looplet) (test : IExpr) (off : Bool) → Branches n.reads taken test off → Separate n → Separate (switch_nest n taken)
branch_separate n taken test off b s = separate_within n taken (branch_within n taken test off b s) (n.next + 1) (omega arith) s

pub switch_splits : {S : Type 0} (layout : Layout) (sense : Sense S) → Lawful sense → (n : Nest S) (c : Choice) → first_switch n.reads ≡ Some c → SwitchSplits layout sense n c
switch_splits layout sense law n c e =
    let k = chooses n.reads c e in
    record {
      means = λ apart room a b ma mb. record { does = λ ts s m fits j r. switch_does layout sense law n apart room c k (switch_parts_from n.reads c e) a b ma mb ts s m fits j r };
      lighter = (omega (arith, k.0.lighter), omega (arith, k.1.lighter));
      separate = λ s. (branch_separate n c.taken c.test false k.0 s, branch_separate n c.others c.test true k.1 s);
    }
