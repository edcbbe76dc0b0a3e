-- What an update does that leaves its run regular.
use Rattle.std.proofs.Common.{◌≡◌, ◌≢◌, ℕ, ◌<◌, ⊎_elim, List, length, Bool, true, false, refl, sym, ap, ◌∙◌, subst, ℤ, Option, Some, None, if◌then◌else◌, ◌&&◌, get_or-set_same, get_or-set_other}
use Rattle.std.specs.Prelude.{slice_set}
use Rattle.std.specs.Option.{option_or}
use Rattle.std.proofs.lemmas.Bool.{cases_lt, cases_eq}
use Rattle.std.proofs.lemmas.List.{get_or_past}
use Rattle.fin_base.specs.declared.reduce.Reduce.{Reduce}
use Rattle.fin_base.specs.Words.{apply}
use Rattle.fin_tensor.specs.Building.{Building, follows, updated}
use Rattle.fin_ast.specs.Value.{coordinates}
use Rattle.fin_ast.specs.Dense.{Setting, made_at}
use Rattle.fin_stage.specs.Stages.{Stage, Absent, Built, Frozen, stage_at, frozen_in}
use Rattle.fin_stage.specs.Staged.{Run, is_made, with_stage, unalive, unordered, regular, worked, tensors_of, update_at, put_at}
use Rattle.fin_stage.specs.Trailing.{skipped}
use Rattle.fin_stage.proofs.Alive.{right}
use Rattle.fin_stage.proofs.Trailing.{made_by}
use Rattle.fin_style_point.specs.Changes.{Beside}

-- what comes before the last update isn't regular
in_order : (b : Bool) (x r : Run) → regular (if b then x else unordered r) ≡ true → b ≡ true
in_order true x r e = refl
in_order false x r e = right (r.alive && r.small) false e

-- the tensor is being built, and its value is changed where the coordinates lie in the box
pub record IsPut (w : Setting) (t : ℕ) (zs : List ℤ) (by : Reduce) (v : ℤ) (r : Run) : Type 0 where
  pub made : is_made w t ≡ true
  pub built : Building
  pub stage : stage_at r.stages t ≡ Built built
  pub is : skipped w t zs by v r ≡ put_at t built (coordinates built.function.shape zs) by v r
  pub order : (cs : List ℕ) → coordinates built.function.shape zs ≡ Some cs → follows built cs ≡ true

module _ (w : Setting) (t : ℕ) (zs : List ℤ) (by : Reduce) (v : ℤ) (r : Run) where
  pub is_put : regular (skipped w t zs by v r) ≡ true → IsPut w t zs by v r
  is_put g =
      let made : is_made w t ≡ true = made_by (is_made w t) (update_at t (stage_at r.stages t) zs by v r) r g in
      let run : skipped w t zs by v r ≡ update_at t (stage_at r.stages t) zs by v r = ap (λ (x : Bool). if x then update_at t (stage_at r.stages t) zs by v r else unalive r) made in
      by_stage (stage_at r.stages t) refl made run (ap regular (sym run) ∙ g) where
        ordered : (b : Building) (o : Option (List ℕ)) → regular (put_at t b o by v r) ≡ true → (cs : List ℕ) → o ≡ Some cs → follows b cs ≡ true
        ordered b None h cs e = cc
        ordered b (Some ds) h cs e =
            let same : ds ≡ cs = let q = e in cc in
            subst (λ (x : List ℕ). follows b x ≡ true) same (in_order (follows b ds) (with_stage t (Built (updated b ds (λ old. apply by old v))) r) r h)

        by_stage : (x : Stage) → stage_at r.stages t ≡ x → is_made w t ≡ true → skipped w t zs by v r ≡ update_at t x zs by v r → regular (update_at t x zs by v r) ≡ true → IsPut w t zs by v r
        by_stage Absent is m run h = cc
        by_stage (Built b) is m run h = record { made = m; built = b; stage = is; is = run; order = λ cs e. ordered b (coordinates b.function.shape zs) h cs e }
        by_stage (Frozen format f) is m run h = cc

  -- one changed value
  pub put_one : (p : IsPut w t zs by v r) (cs : List ℕ) → coordinates p.built.function.shape zs ≡ Some cs → skipped w t zs by v r ≡ with_stage t (Built (updated p.built cs (λ old. apply by old v))) r
  put_one p cs e =
      p.is ∙ ap (λ (o : Option (List ℕ)). put_at t p.built o by v r) e
      ∙ ap (λ (x : Bool). if x then with_stage t (Built (updated p.built cs (λ old. apply by old v))) r else unordered r) (p.order cs e)

  pub put_none : (p : IsPut w t zs by v r) → coordinates p.built.function.shape zs ≡ None → skipped w t zs by v r ≡ r
  put_none p e = p.is ∙ ap (λ (o : Option (List ℕ)). put_at t p.built o by v r) e

-- ---- what is beside a run

pub beside_itself : (w : Setting) (t : ℕ) (r : Run) → Beside w t r r
beside_itself w t r = record { tensors = refl; others = λ j n. refl }

pub beside_worked : (w : Setting) (t : ℕ) (r q : Run) → Beside w t r q → Beside w t r (worked 2 q)
beside_worked w t r q b = record { tensors = b.tensors; others = b.others }

module _ (w : Setting) (t : ℕ) (r q : Run) (beside : Beside w t r q) where
  set_beside : (b c : Building) → stage_at q.stages t ≡ Built b → Beside w t r (with_stage t (Built c) q)
  set_beside b c e =
      let lt : t < length q.stages = ⊎_elim (λ lt. lt) (λ le. let past = get_or_past q.stages t Absent le in absurd (cc)) (cases_lt t (length q.stages)) in
      let other : (j : ℕ) → j ≢ t → stage_at (slice_set q.stages t (Built c)) j ≡ stage_at q.stages j = (λ j n. get_or-set_other q.stages t j (Built c) Absent n) in
      let frozen : (j : ℕ) → frozen_in (stage_at (slice_set q.stages t (Built c)) j) ≡ frozen_in (stage_at q.stages j) =
      (λ j. ⊎_elim
      (λ (s : j ≡ t).
      ap (λ k. frozen_in (stage_at (slice_set q.stages t (Built c)) k)) s ∙ ap frozen_in (get_or-set_same q.stages t (Built c) Absent lt)
      ∙ sym (ap frozen_in e) ∙ ap (λ k. frozen_in (stage_at q.stages k)) (sym s))
      (λ n. ap frozen_in (other j n)) (cases_eq j t)) in
      let same : tensors_of w (with_stage t (Built c) q) ≡ tensors_of w q = (λ i j. option_or (made_at w.given j) (frozen j i)) in
      record { tensors = same ∙ beside.tensors; others = λ j n. other j n ∙ beside.others j n }

  pub put_beside : (zs : List ℤ) (by : Reduce) (v : ℤ) → regular (skipped w t zs by v q) ≡ true → Beside w t r (skipped w t zs by v q)
  put_beside zs by v g = by_place (coordinates p.built.function.shape zs) refl where
    p : IsPut w t zs by v q
    p = is_put w t zs by v q g

    by_place : (o : Option (List ℕ)) → coordinates p.built.function.shape zs ≡ o → Beside w t r (skipped w t zs by v q)
    by_place None e = subst (Beside w t r) (sym (put_none w t zs by v q p e)) beside
    by_place (Some cs) e = subst (Beside w t r) (sym (put_one w t zs by v q p cs e)) (set_beside p.built (updated p.built cs (λ old. apply by old v)) p.stage)
