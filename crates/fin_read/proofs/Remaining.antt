-- The levels of a storage from one on, as they stand in the whole.
use Rattle.std.proofs.Common.{◌≡◌, ℕ, zero, suc, ◌<◌, ◌+◌, List, [], ◌∷◌, length, drop, refl, ◌∙◌, subst, ℤ, arith, get_or}
use Rattle.std.specs.Prelude.{slice_index}
use Rattle.fin_tensor.specs.declared.format.Level.{Level}
use Rattle.fin_tensor.specs.declared.part.Part.{Part}
use Rattle.fin_tensor.specs.declared.part.Part.TheVariants as part
use Rattle.fin_tensor.specs.Levels.{IsStored, fibres, positions}
use Rattle.fin_tensor.proofs.Walk.{stored_small, fibres_more}
use Rattle.fin_ir.specs.Loads.{part_at}
use Rattle.fin_ir.specs.Machine.{Tensor}
use Rattle.fin_ir.specs.Value.{extents_in, parts_in, words_in}
use Rattle.fin_read.proofs.Descending.{LevelIs}

pub record LevelsAre (ts : ℕ → Tensor) (tensor k : ℕ) (ls : List Level) (ns : List ℕ) (ps : List Part) (val : List ℤ) (count : ℕ) : Type 0 where
  pub extents : drop k (extents_in (ts tensor)) ≡ ns
  pub parts : drop k (parts_in (ts tensor)) ≡ ps
  pub words : words_in (ts tensor) ≡ val
  pub count_is : fibres (extents_in (ts tensor)) (parts_in (ts tensor)) 1 k ≡ count
  pub valid : IsStored count ls ns ps val

-- the first of what a list goes on with
drop_head : {A : Type 0} (k : ℕ) (xs : List A) (y : A) (ys : List A) (d : A) → drop k xs ≡ y ∷ ys → (get_or xs k d ≡ y) × (drop (suc k) xs ≡ ys) × (k < length xs)
drop_head zero [] y ys d h = cc
drop_head zero (x ∷ xs) y ys d h = (cc, cc, omega arith)
drop_head (suc k) [] y ys d h = cc
drop_head (suc k) (x ∷ xs) y ys d h = let r = drop_head k xs y ys d h in (r.0, r.1, omega (arith, r.2))

module _ (ts : ℕ → Tensor) (tensor k : ℕ) (l : Level) (ls : List Level) (n : ℕ) (ns : List ℕ) (p : Part) (ps : List Part) (val : List ℤ) (count : ℕ) (h : LevelsAre ts tensor k (l ∷ ls) (n ∷ ns) (p ∷ ps) val count) where
  extent_is : (slice_index (extents_in (ts tensor)) k ≡ n) × (drop (suc k) (extents_in (ts tensor)) ≡ ns) × (k < length (extents_in (ts tensor)))
  extent_is = drop_head k (extents_in (ts tensor)) n ns 0 h.extents

  part_is : (part_at (parts_in (ts tensor)) k ≡ p) × (drop (suc k) (parts_in (ts tensor)) ≡ ps) × (k < length (parts_in (ts tensor)))
  part_is = drop_head k (parts_in (ts tensor)) p ps part.Dense h.parts

  pub level_of : LevelIs ts tensor k l n count p
  level_of = record {
    extent = extent_is.0;
    part_is = part_is.0;
    count_is = h.count_is;
    level = h.valid.2;
    few = h.valid.0;
    small = h.valid.1;
    below = stored_small (positions n count p) ls ns ps val h.valid.3;
  }

  pub levels_below : LevelsAre ts tensor (k + 1) ls ns ps val (positions n count p)
  levels_below =
      let o : suc k ≡ k + 1 = omega arith in
      let more = fibres_more k 1 (extents_in (ts tensor)) (parts_in (ts tensor)) part_is.2 extent_is.2 in
      let same : fibres (extents_in (ts tensor)) (parts_in (ts tensor)) 1 (suc k) ≡ positions n count p = more ∙ rw (extent_is.0, part_is.0, h.count_is) refl in
      subst (λ (j : ℕ). LevelsAre ts tensor j ls ns ps val (positions n count p)) o
      (record { extents = extent_is.1; parts = part_is.1; words = h.words; count_is = same; valid = h.valid.3 })
