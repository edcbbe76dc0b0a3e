-- Code that means a nest: what it computes, the turn that is counted behind it, and other looplets that show the same.
use Rattle.std.proofs.Common.{◌≡◌, ◌≢◌, ℕ, ◌+◌, List, length, Bool, true, false, refl, sym, ap, ◌∙◌, subst, ℤ, pos, negsuc, ◌+ℤ◌, ◌≤ℤ◌, ◌<ℤ◌, ◌^◌, arith}
use Rattle.std.specs.Prelude.{slice_set, if◌then◌else◌}
use borrow.Author.Differences.{le_out, lt_out, at_most_in}
use Rattle.fin_ir.specs.declared.expression.IExpr.{IExpr}
use Rattle.fin_ir.specs.declared.code.Code.{Code}
use Rattle.fin_ir.specs.declared.layout.Layout.{Layout}
use Rattle.fin_ir.specs.Machine.{Machine, assign, count_turn, seen}
use Rattle.fin_ir.specs.Value.{value_in}
use Rattle.fin_ir.specs.Meaning.{meaning}
use Rattle.fin_looplet.specs.declared.looplet.Looplet.{Looplet}
use Rattle.fin_looplet.specs.Names.{Loads}
use Rattle.fin_looplet.specs.View.{Store, value}
use Rattle.fin_looplet.specs.Sound.{Near}
use Rattle.fin_looplet.specs.Like.{AllLike}
use Rattle.fin_looplet.specs.Lists.{views, AnyOwns}
use Rattle.fin_looplet.proofs.Exprs.{get, value_seen}
use Rattle.fin_nest.specs.Nests.{Nest, Sense, views_of, fold, Kept, Separate, Bounds, Does, Means, MeansCounted}
use Rattle.fin_nest.specs.Laws.{Lawful}
use Rattle.fin_nest.proofs.Folds.{shown}

-- a local that no variable has
pub unbound : (b : Bool) → (b ≡ true → ⊥) → b ≡ false
unbound true h = absurd (h refl)
unbound false h = refl

pub not_the_variable : {S : Type 0} (n : Nest S) → Separate n → (x : ℕ) → n.binds x ≡ false → x ≢ n.var
not_the_variable n apart x free e = let b = apart.binds_var in let f = ap n.binds e in cc

-- the coordinates of a region that fits are near
pub near_in : (lo hi i : ℤ) → Bounds lo hi → lo ≤ℤ i → i <ℤ hi → Near i
near_in lo hi i b above under = (
  at_most_in (negsuc (2 ^ 42)) i (omega (arith, le_out (pos 0) lo b.low, le_out lo i above)),
  at_most_in i (pos (2 ^ 42 + 2 ^ 41)) (omega (arith, lt_out i hi under, le_out hi (pos (2 ^ 40)) b.high_top)),
)

-- ---- machines that aren't cut

abbrev pub with_local : ℕ → ℤ → Machine → Machine
with_local x v m = record m { locals = slice_set m.locals x v }

pub assigns : (x : ℕ) (v : ℤ) (m : Machine) → m.cut ≡ false → assign x v m ≡ with_local x v m
assigns x v m e = ap (λ (b : Bool). if b then m else with_local x v m) e

-- what code computes from tensors that stay as they were
pub computes : {S : Type 0} (layout : Layout) (ts : Store) (m : Machine) (n : Nest S) (e : IExpr) → ((t : ℕ) → n.steady t ≡ true → seen m t ≡ ts t)
    → ((t : ℕ) → Loads t e → n.steady t ≡ true) → value_in m e ≡ value ts m.locals e
computes layout ts m n e same steady = value_seen (seen m) ts e m.locals (λ t l. same t (steady t l))

-- a counted turn leaves locals and tensors as they were
pub record CountKeeps (m : Machine) : Type 0 where
  pub locals : (count_turn m).locals ≡ m.locals
  pub seen : (t : ℕ) → seen (count_turn m) t ≡ seen m t
  pub cut : (count_turn m).cut ≡ m.cut

abbrev counted : Bool → Machine → Machine
counted b m = if b then m else record m { turns = m.turns + 1 }

record Counted (m n : Machine) : Type 0 where
  locals : n.locals ≡ m.locals
  seen : (t : ℕ) → seen n t ≡ seen m t
  cut : n.cut ≡ m.cut

counted_keeps : (b : Bool) (m : Machine) → Counted m (counted b m)
counted_keeps true m = record { locals = refl; seen = λ t. refl; cut = refl }
counted_keeps false m = record { locals = refl; seen = λ t. refl; cut = refl }

pub count_keeps : (m : Machine) → CountKeeps m
count_keeps m = let k = counted_keeps m.cut m in record { locals = k.locals; seen = k.seen; cut = k.cut }

-- ---- what code of a nest leaves as it was
pub record Leaves {S : Type 0} (m m' : Machine) (n : Nest S) : Type 0 where
  pub long : length m'.locals ≡ length m.locals
  pub kept : m'.cut ≡ false → (x : ℕ) → Kept n x → get m'.locals x ≡ get m.locals x
  pub steady : m'.cut ≡ false → (t : ℕ) → n.steady t ≡ true → seen m' t ≡ seen m t

pub does_by : {S : Type 0} (sense : Sense S) (ts : Store) (s : S) (m m' : Machine) (n : Nest S) → sense.stands (fold sense.pay ts m.locals n s) m' → Leaves m m' n → Does sense ts s m m' n
does_by sense ts s m m' n done l = record { done = done; long = l.long; kept = l.kept; steady = l.steady }

pub leaves_of : {S : Type 0} (sense : Sense S) (ts : Store) (s : S) (m m' : Machine) (n : Nest S) → Does sense ts s m m' n → Leaves m m' n
leaves_of sense ts s m m' n d = record { long = d.long; kept = d.kept; steady = d.steady }

-- with a turn that is counted behind it
pub leaves_counted : {S : Type 0} (m m' : Machine) (n : Nest S) → Leaves m m' n → Leaves m (count_turn m') n
leaves_counted m m' n l =
    let k = count_keeps m' in
    record {
      long = ap length k.locals ∙ l.long;
      kept = λ e x j. ap (λ ls. get ls x) k.locals ∙ l.kept (sym k.cut ∙ e) x j;
      steady = λ e t j. k.seen t ∙ l.steady (sym k.cut ∙ e) t j;
    }

-- where stops bring nothing in, a code that means the nest means it with a counted turn
pub counted_means : {S : Type 0} (layout : Layout) (sense : Sense S) → Lawful sense → ((s : S) → sense.pay s ≡ s) → (c : Code) (n : Nest S) → Means layout sense c n → MeansCounted layout sense c n
counted_means layout sense law free c n mean = record {
  does = λ ts s m fits j r.
      let d = mean.does ts s m fits j r in
      let last : Machine = meaning layout c m in
      let all = fold sense.pay ts m.locals n s in
      does_by sense ts s m (count_turn last) n
      (subst (λ z. sense.stands z (count_turn last)) (free all) (law.count all last d.done))
      (leaves_counted m last n (leaves_of sense ts s m last n d));
}

-- ---- a nest with other looplets that show the same in its region
pub reshaped : {S : Type 0} (sense : Sense S) (n : Nest S) (rs : List Looplet) → ((x : ℕ) → AnyOwns x rs → AnyOwns x n.reads) → (ts : Store) (s : S) (m m' : Machine)
    → ((i : ℤ) → value ts m.locals n.lo ≤ℤ i → i <ℤ value ts m.locals n.hi
    → AllLike ((i +ℤ pos 1) <ℤ value ts m.locals n.hi) (views ts m.locals rs (value ts m.locals n.hi) i) (views_of ts m.locals n i))
    → Does sense ts s m m' (record n { reads = rs }) → Does sense ts s m m' n
reshaped sense n rs owns ts s m m' like d = record {
  done = subst (λ z. sense.stands z m')
      (shown sense.pay ts m.locals m.locals n (record n { reads = rs }) (value ts m.locals n.lo) (value ts m.locals n.hi) s refl refl (record { lo = refl; hi = refl; like = like })) d.done;
  long = d.long;
  kept = λ c x k. d.kept c x (record { below = k.below; no_var = k.no_var; no_own = λ o. k.no_own (owns x o) });
  steady = d.steady;
}
