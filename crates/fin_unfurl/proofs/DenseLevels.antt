-- The walk of a dense fibre: a position for each coordinate.
use Rattle.std.proofs.Common.{◌≡◌, ℕ, ◌+◌, ◌*◌, ◌<◌, ◌≤◌, ◌^◌, List, refl, ap, ◌∙◌, ℤ, pos, Some, true, false, arith}
use Rattle.std.specs.Prelude.{slice_set}
use Rattle.std.proofs.lemmas.List.{get_or-set_same}
use Rattle.fin_base.specs.declared.terms.Op.TheVariants as op
use Rattle.fin_tensor.specs.declared.part.Part.TheVariants as part
use Rattle.std.proofs.lemmas.Nat.{mul-add-lt}
use Rattle.std.proofs.Math.Nat.{mul_comm}
use Rattle.fin_tensor.specs.Levels.{positions}
use Rattle.fin_ir.specs.declared.expression.IExpr.{IExpr}
use Rattle.fin_ir.specs.declared.expression.IExpr.TheVariants.{Num, Local, Two}
use Rattle.fin_ir.specs.Frozen.{Frozen}
use Rattle.fin_ir.specs.Loads.{part_at}
use Rattle.fin_ir.proofs.Values.{value_num, value_local}
use Rattle.fin_looplet.specs.View.{Store, value, view}
use Rattle.fin_looplet.proofs.Exprs.{value_set}
use Rattle.fin_unfurl.specs.declared.fibre.Fibre.{Fibre}
use Rattle.fin_unfurl.specs.Parts.{end}
use Rattle.fin_unfurl.specs.Walks.{dense_place, dense_walk}
use Rattle.fin_unfurl.proofs.Places.{Here, two_is, leaf_value}
use Rattle.fin_unfurl.proofs.Small.{wrap_small}
use Rattle.fin_unfurl.proofs.Shows.{ShowsAt, sight_or}

at_most : {a b m : ℕ} → a ≡ b → a ≤ m → b ≤ m
at_most e h = omega arith

module _ (ts : Store) (ls : List ℤ) (f : Fibre) (e : IExpr) (s : Frozen) (p : ℕ) (h : Here ts ls f e s p) (kind : part_at s.parts f.level ≡ part.Dense) where
  small : (m : ℕ) → m < f.extent → p * f.extent + m < 2 ^ 40
  small m lt =
      let few : h.at.count * f.extent ≤ 2 ^ 40 = at_most (ap (positions f.extent h.at.count) kind) h.at.positions in
      omega (arith, mul-add-lt p f.extent m h.at.count h.at.within lt, mul_comm f.extent h.at.count, few)

  place_is : (m : ℕ) → m < f.extent → value ts (slice_set ls (f.cursor + 1) (pos m)) (dense_place f e) ≡ pos (p * f.extent + m)
  place_is m lt =
      let st = slice_set ls (f.cursor + 1) (pos m) in
      let here = value_set ts ls (f.cursor + 1) (pos m) e h.apart.1 ∙ h.here in
      two_is ts st op.Add (Two op.Mul e (Num (pos f.extent))) (Local (f.cursor + 1)) (pos (p * f.extent)) (pos m)
      (two_is ts st op.Mul e (Num (pos f.extent)) (pos p) (pos f.extent) here (value_num ts st (pos f.extent)) ∙ wrap_small (p * f.extent) (omega (arith, small m lt)))
      (value_local ts st (f.cursor + 1) ∙ get_or-set_same ls (f.cursor + 1) (pos m) (pos 0) h.room)
      ∙ wrap_small (p * f.extent + m) (omega (arith, small m lt))

  pub dense_shows : (m : ℕ) (end : ℤ) → m < f.extent → ShowsAt (view ts ls (dense_walk f e) end (pos m)) (sight_or f s (Some (p * f.extent + m))) true false false (m + 1 < f.extent)
  dense_shows m end lt = record {
    sight = leaf_value ts f e s p h.is (slice_set ls (f.cursor + 1) (pos m)) (dense_place f e) (p * f.extent + m) (place_is m lt);
    varies = refl;
    ends = λ _. refl;
    stop = λ x. x;
  }
