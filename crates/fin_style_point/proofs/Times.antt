-- The step of runs and lookups where the body does one fixed thing: at once.
use Rattle.std.proofs.Common.{◌≡◌, ℕ, zero, suc, List, Bool, true, false, refl, sym, ap, ◌∙◌, subst, ℤ, pos, ◌+ℤ◌, arith}
use Rattle.std.specs.Prelude.{int_lt, if◌then◌else◌}
use Rattle.fin_base.specs.Words.{truth}
use Rattle.fin_base.specs.declared.terms.Op.TheVariants as op
use Rattle.fin_ir.specs.declared.expression.IExpr.TheVariants.{Two}
use Rattle.fin_ir.specs.declared.code.Code.{Code}
use Rattle.fin_ir.specs.declared.layout.Layout.{Layout}
use Rattle.fin_ir.specs.Machine.{Machine, seen}
use Rattle.fin_ir.specs.Value.{value_in, is_off}
use Rattle.fin_ir.specs.Meaning.{meaning, span}
use Rattle.fin_ir.proofs.Values.{value_two}
use Rattle.fin_ir.proofs.Codes.{meaning_when}
use Rattle.fin_ir.proofs.Loops.{span_zero, span_off}
use Rattle.fin_looplet.specs.View.{Store, value}
use Rattle.fin_looplet.specs.Lists.{seens}
use Rattle.fin_nest.specs.Nests.{over, Flags, fresh, views_of, Nest, Sense, paid_if, at_act, at_flags, fold, Separate, Fits, Does, Means}
use Rattle.fin_nest.proofs.Means.{computes}
use Rattle.fin_style_point.specs.Steps.{AllFlat, times_code}
use Rattle.fin_style_point.specs.Laws.{repeats, Fixed, FixedMeans}
use Rattle.fin_style_point.proofs.Flat.{none_counted, flat_ends}

module _ {S : Type 0} (pay : S → S) (ts : Store) (ls : List ℤ) (n : Nest S) (flat : AllFlat n.reads) (work step : S → S) (fixed : Fixed ts ls n work step) where
  later : (k : ℕ) (f : Flags) (at : ℤ) (s : S) → f.begins ≡ false → f.stopped ≡ false → over (at_act pay ts ls n) (at_flags ts ls n) k f at s ≡ repeats k step s
  later zero f at s b p = refl
  later (suc k) f at s b p =
      let here : at_act pay ts ls n f at s ≡ step s =
      ap (λ z. n.body (seens (views_of ts ls n at)) z at (paid_if pay f.stopped s)) b
      ∙ ap (λ z. n.body (seens (views_of ts ls n at)) false at (paid_if pay z s)) p ∙ fixed.more at s in
      later k (at_flags ts ls n at) (at +ℤ pos 1) (at_act pay ts ls n f at s) (flat_ends ts ls (value ts ls n.hi) at n.reads flat)
      (none_counted ts ls (value ts ls n.hi) at n.counts n.reads flat) ∙ ap (repeats k step) here

  fixed_fold : (k : ℕ) (at : ℤ) (s : S) → over (at_act pay ts ls n) (at_flags ts ls n) (suc k) fresh at s ≡ repeats (suc k) step (work s)
  fixed_fold k at s =
      later k (at_flags ts ls n at) (at +ℤ pos 1) (at_act pay ts ls n fresh at s) (flat_ends ts ls (value ts ls n.hi) at n.reads flat)
      (none_counted ts ls (value ts ls n.hi) at n.counts n.reads flat) ∙ ap (repeats k step) (fixed.first at s)

-- ---- code that is run where there is a coordinate

module _ {S : Type 0} (layout : Layout) (n : Nest S) (c : Code) (apart : Separate n) (ts : Store) (m : Machine) (fits : Fits layout ts m n) where
  test_is : value_in m (Two op.Lt n.lo n.hi) ≡ truth (int_lt (value ts m.locals n.lo) (value ts m.locals n.hi))
  test_is =
      value_two (seen m) m.locals op.Lt n.lo n.hi ∙ ap (λ z. truth (int_lt z (value_in m n.hi))) (computes layout ts m n n.lo fits.steady apart.lo_loads)
      ∙ ap (λ z. truth (int_lt (value ts m.locals n.lo) z)) (computes layout ts m n n.hi fits.steady apart.hi_loads)

  within_runs : (b : Bool) → int_lt (value ts m.locals n.lo) (value ts m.locals n.hi) ≡ b → meaning layout (times_code n c) m ≡ (if is_off (truth b) then m else meaning layout c m)
  within_runs b t = meaning_when layout (Two op.Lt n.lo n.hi) c m ∙ ap (λ v. if is_off v then m else meaning layout c m) (test_is ∙ ap truth t)

  -- it is run where there is one
  pub within_some : (k : ℕ) → span (value ts m.locals n.lo) (value ts m.locals n.hi) ≡ suc k → meaning layout (times_code n c) m ≡ meaning layout c m
  within_some k e = elim (int_lt (value ts m.locals n.lo) (value ts m.locals n.hi)) as (λ b. int_lt (value ts m.locals n.lo) (value ts m.locals n.hi) ≡ b
      → meaning layout (times_code n c) m ≡ meaning layout c m) [
        | true ↦ λ t. within_runs true t
        | false ↦ λ t. absurd (omega (arith, e, span_off (value ts m.locals n.lo) (value ts m.locals n.hi) t))
      ] refl

  within_none : span (value ts m.locals n.lo) (value ts m.locals n.hi) ≡ 0 → meaning layout (times_code n c) m ≡ m
  within_none e = within_runs false (span_zero (value ts m.locals n.lo) (value ts m.locals n.hi) e)

module _ {S : Type 0} (layout : Layout) (sense : Sense S) (n : Nest S) (c : Code) (apart : Separate n)
    (some : (ts : Store) (s : S) (m : Machine) → Fits layout ts m n → sense.stands s m → (k : ℕ)
    → span (value ts m.locals n.lo) (value ts m.locals n.hi) ≡ suc k → Does sense ts s m (meaning layout c m) n) where
  within_does : (ts : Store) (s : S) (m : Machine) → Fits layout ts m n → sense.stands s m → (k : ℕ) → span (value ts m.locals n.lo) (value ts m.locals n.hi) ≡ k
      → Does sense ts s m (meaning layout (times_code n c) m) n
  within_does ts s m fits stands zero e =
      let nothing : fold sense.pay ts m.locals n s ≡ s = ap (λ k. over (at_act sense.pay ts m.locals n) (at_flags ts m.locals n) k fresh (value ts m.locals n.lo) s) e in
      let none : Does sense ts s m m n = record { done = subst (λ z. sense.stands z m) (sym nothing) stands; long = refl; kept = λ d x k. refl; steady = λ d t k. refl } in
      subst (λ (x : Machine). Does sense ts s m x n) (sym (within_none layout n c apart ts m fits e)) none
  within_does ts s m fits stands (suc k) e = subst (λ (x : Machine). Does sense ts s m x n) (sym (within_some layout n c apart ts m fits k e)) (some ts s m fits stands k e)

  -- code that means the nest where it has a coordinate
  pub within_means : Means layout sense (times_code n c) n
  within_means = record { does = λ ts s m fits jumps stands. within_does ts s m fits stands (span (value ts m.locals n.lo) (value ts m.locals n.hi)) refl }

-- where a code leads over the region at once, asked only where there is a coordinate, it means the nest
pub times_means : {S : Type 0} (layout : Layout) (sense : Sense S) → FixedMeans layout sense
times_means layout sense n c apart flat at = within_means layout sense n c apart (λ ts s m fits stands k e.
    let l = at.leads ts s m fits stands k e in
    let all : fold sense.pay ts m.locals n s ≡ over (at_act sense.pay ts m.locals n) (at_flags ts m.locals n) (suc k) fresh (value ts m.locals n.lo) s =
    ap (λ z. over (at_act sense.pay ts m.locals n) (at_flags ts m.locals n) z fresh (value ts m.locals n.lo) s) e in
    record {
      done = subst (λ z. sense.stands z (meaning layout c m))
          (sym (all ∙ fixed_fold sense.pay ts m.locals n flat (at.work ts m.locals) (at.step ts m.locals) (at.fixed ts m fits) k (value ts m.locals n.lo) s)) l.stands;
      long = l.long;
      kept = l.kept;
      steady = l.steady;
    })
