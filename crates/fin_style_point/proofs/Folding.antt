-- The fold of a nest whose body is one update, over runs and lookups: one update by the repeated value.
use Rattle.std.proofs.Common.{◌≡◌, ℕ, zero, suc, Bool, true, false, List, [], map, refl, sym, ap, ◌∙◌, subst, ℤ, pos, ◌+ℤ◌, arith}
use Rattle.fin_base.specs.Words.{repeat}
use Rattle.fin_ast.specs.Dense.{Setting}
use Rattle.fin_ir.specs.declared.layout.Layout.{Layout}
use Rattle.fin_ir.specs.Machine.{Machine}
use Rattle.fin_ir.specs.Value.{value_in}
use Rattle.fin_stage.specs.Stages.{Stage, Built}
use Rattle.fin_stage.specs.Staged.{Run, worked, regular}
use Rattle.fin_stage.specs.Trailing.{RunTrails, Monotone, skipped}
use Rattle.fin_stage.specs.Fitting.{FunctionFits, StageFits}
use Rattle.fin_looplet.specs.View.{Store, value}
use Rattle.fin_looplet.specs.Lists.{seens}
use Rattle.fin_nest.specs.Related.{Start, Live}
use Rattle.fin_nest.specs.Nests.{Flags, fresh, Nest, paid_if, views_of, at_act, at_flags, part, Fits}
use Rattle.fin_nest.specs.Senses.{Tallied, turns, Advances}
use Rattle.fin_nest.specs.Both.{in_run}
use Rattle.fin_nest.specs.Courses.{Course, Behind, nest_with}
use Rattle.fin_style_point.specs.declared.changing.Change.{Change}
use Rattle.fin_style_point.specs.Steps.{AllFlat}
use Rattle.fin_style_point.specs.Laws.{repeats}
use Rattle.fin_style_point.specs.Changes.{behind, Beside, IsUpdate, tallied}
use Rattle.fin_style_point.proofs.Flat.{none_counted, flat_ends}
use Rattle.fin_style_point.proofs.Outcomes.{IsPut, is_put, beside_itself, beside_worked, put_beside}
use Rattle.fin_style_point.proofs.Putting.{puts_at_once}

abbrev free : Run → Run
free r = r

advances_then : (a b c : Run) → Advances a b → Advances b c → Advances a c
advances_then a b c x y = record { before = λ g. x.before (y.before g); work = omega (arith, x.work, y.work) }

paid_advances : (b : Bool) (r n : Run) → Advances (paid_if free b r) n → Advances r n
paid_advances true r n a = a
paid_advances false r n a = a

paid_trails : (b : Bool) (r r' : Run) → RunTrails r r' → RunTrails (paid_if free b r) (paid_if free b r')
paid_trails true r r' t = t
paid_trails false r r' t = t

module _ (layout : Layout) (s : Start) (n : Nest Run) (shape : List ℕ) (c : Change) (is : IsUpdate layout s n shape c) (ts : Store) (m : Machine) (fits : Fits layout ts m n) where
  pub part_advances : (k : ℕ) (f : Flags) (i : ℤ) (r : Run) → Advances r (part (λ x. x) ts m.locals n k f i r)
  part_advances zero f i r = record { before = λ g. g; work = omega arith }
  part_advances (suc k) f i r =
      let one : Run = at_act (λ x. x) ts m.locals n f i r in
      advances_then r one (part (λ x. x) ts m.locals n k (at_flags ts m.locals n i) (i +ℤ pos 1) one)
      (paid_advances f.stopped r one (is.advances ts m fits f.begins i (paid_if free f.stopped r)))
      (part_advances k (at_flags ts m.locals n i) (i +ℤ pos 1) one)

  pub part_monotone : (k : ℕ) (f : Flags) (i : ℤ) → Monotone (part (λ x. x) ts m.locals n k f i)
  part_monotone zero f i r r' t g = t
  part_monotone (suc k) f i r r' t g =
      let one : Run = at_act (λ x. x) ts m.locals n f i r in
      let one' : Run = at_act (λ x. x) ts m.locals n f i r' in
      let first : RunTrails one one' =
      is.monotone ts m fits f.begins i (paid_if free f.stopped r) (paid_if free f.stopped r') (paid_trails f.stopped r r' t)
      ((part_advances k (at_flags ts m.locals n i) (i +ℤ pos 1) one).before g) in
      part_monotone k (at_flags ts m.locals n i) (i +ℤ pos 1) one one' first g

  module _ (flat : AllFlat n.reads) (r : Run) (live : Live s [] r m) where
    abbrev w : Setting
    w = s.setting

    abbrev t : ℕ
    t = c.tensor

    -- the machine behind the codes before the update
    abbrev at : Machine
    at = behind m (is.prepared ts m fits).locals

    abbrev step : Run → Run
    step = skipped s.setting c.tensor (map (value_in (behind m (is.prepared ts m fits).locals)) c.at) c.by (value_in (behind m (is.prepared ts m fits).locals) c.value)

    later : (k : ℕ) (f : Flags) (i : ℤ) (q : Run) → f.begins ≡ false → f.stopped ≡ false → Beside s.setting c.tensor r q
        → regular (part (λ x. x) ts m.locals n k f i q) ≡ true → part (λ x. x) ts m.locals n k f i q ≡ repeats k step q
    later zero f i q b p beside g = refl
    later (suc k) f i q b p beside g =
        let one : Run = at_act (λ x. x) ts m.locals n f i q in
        let next = at_flags ts m.locals n i in
        let here : one ≡ n.body (seens (views_of ts m.locals n i)) false i q =
        ap (λ z. n.body (seens (views_of ts m.locals n i)) z i (paid_if free f.stopped q)) b ∙ ap (λ z. n.body (seens (views_of ts m.locals n i)) false i (paid_if free z q)) p in
        let on : regular one ≡ true = (part_advances k next (i +ℤ pos 1) one).before g in
        let does : one ≡ step q = here ∙ is.does ts m fits r q live beside false i (ap regular (sym here) ∙ on) in
        let beside' : Beside w t r one = subst (Beside w t r) (sym does) (put_beside w t r q beside (map (value_in at) c.at) c.by (value_in at c.value) (ap regular (sym does) ∙ on)) in
        later k next (i +ℤ pos 1) one (flat_ends ts m.locals (value ts m.locals n.hi) i n.reads flat) (none_counted ts m.locals (value ts m.locals n.hi) i n.counts n.reads flat) beside' g
        ∙ ap (repeats k step) does

    module _ (k : ℕ) (i : ℤ) (g : regular (part (λ x. x) ts m.locals n (suc k) fresh i r) ≡ true) where
      abbrev one : Run
      one = at_act (λ x. x) ts m.locals n fresh i r

      on : regular one ≡ true
      on = (part_advances k (at_flags ts m.locals n i) (i +ℤ pos 1) one).before g

      does : one ≡ step (worked 2 r)
      does = is.does ts m fits r r live (beside_itself w t r) true i on

      stepped : regular (step (worked 2 r)) ≡ true
      stepped = ap regular (sym does) ∙ on

      repeated : part (λ x. x) ts m.locals n (suc k) fresh i r ≡ repeats (suc k) step (worked 2 r)
      repeated =
          let beside : Beside w t r one =
          subst (Beside w t r) (sym does) (put_beside w t r (worked 2 r) (beside_worked w t r r (beside_itself w t r)) (map (value_in at) c.at) c.by (value_in at c.value) stepped) in
          later k (at_flags ts m.locals n i) (i +ℤ pos 1) one (flat_ends ts m.locals (value ts m.locals n.hi) i n.reads flat)
          (none_counted ts m.locals (value ts m.locals n.hi) i n.counts n.reads flat) beside g
          ∙ ap (repeats k step) does

      pub folded : part (λ x. x) ts m.locals n (suc k) fresh i r ≡ skipped s.setting c.tensor (map (value_in (behind m (is.prepared ts m fits).locals)) c.at) c.by
          (repeat c.by (value_in (behind m (is.prepared ts m fits).locals) c.value) (suc k)) (worked 2 r)
      folded =
          let p : IsPut w t (map (value_in at) c.at) c.by (value_in at c.value) (worked 2 r) = is_put w t (map (value_in at) c.at) c.by (value_in at c.value) (worked 2 r) stepped in
          let fit : StageFits w t (Built p.built) = subst (λ (x : Stage). StageFits w t x) p.stage (live.fits t) in
          repeated ∙ puts_at_once w t (map (value_in at) c.at) (worked 2 r) p.built p.made p.stage (FunctionFits.cells fit.1) c.by (value_in at c.value) k
          (λ q. let u = is.words q ts m fits r live i on in ((λ cs. u.built p.built p.stage cs), u.value))

-- ---- over tallies

module _ (s : Start) (b : Behind Run) (x : Course) (flat : AllFlat x.reads) where
  pub tallied_part : (ts : Store) (ls : List ℤ) (k : ℕ) (f : Flags) (i : ℤ) (q : Tallied) → f.stopped ≡ false
      → part (turns s).pay ts ls (nest_with (tallied b) x) k f i q ≡ in_run (part (λ r. r) ts ls (nest_with b x) k f i) q
  tallied_part ts ls zero f i q p = refl
  tallied_part ts ls (suc k) f i q p =
      let n = nest_with b x in
      let body : Run → Run = b.body (seens (views_of ts ls n i)) f.begins i in
      let one : at_act (turns s).pay ts ls (nest_with (tallied b) x) f i q ≡ in_run body q = ap (λ z. in_run body (paid_if (turns s).pay z q)) p in
      let here : at_act (λ r. r) ts ls n f i q.run ≡ body q.run = ap (λ z. body (paid_if free z q.run)) p in
      ap (part (turns s).pay ts ls (nest_with (tallied b) x) k (at_flags ts ls n i) (i +ℤ pos 1)) one
      ∙ tallied_part ts ls k (at_flags ts ls n i) (i +ℤ pos 1) (in_run body q) (none_counted ts ls (value ts ls x.hi) i b.counts x.reads flat)
      ∙ ap (λ (z : Run). record q { run = part (λ r. r) ts ls n k (at_flags ts ls n i) (i +ℤ pos 1) z }) (sym here)
