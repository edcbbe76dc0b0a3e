-- An access gives what the language gives it.
use Rattle.std.proofs.Common.{◌≡◌, ℕ, zero, suc, ◌<◌, ◌+◌, true, false, IsTrue, IfSome, List, [], ◌∷◌, ◌++◌, append_assoc, map, length, refl, sym, ap, ◌∙◌, subst, ℤ, pos, negsuc, arith, Option, Some, None, option_map, ltb-true}
use Rattle.std.specs.Prelude.{slice_index_or, nat_lt, if◌then◌else◌}
use Rattle.std.proofs.lemmas.Bool.{and_parts}
use Rattle.fin_tensor.specs.declared.format.Level.{Level}
use Rattle.fin_tensor.specs.declared.part.Part.{Part}
use Rattle.fin_tensor.specs.TensorFunction.{TensorFunction, is_in_box}
use Rattle.fin_tensor.specs.Levels.{positions, child_in, below, value_from}
use Rattle.fin_tensor.proofs.Walk.{child_within}
use Rattle.fin_ast.specs.Value.{coordinates, with_first, value_in}
use Rattle.fin_ast.proofs.InBox.{in_box as box_of}
use Rattle.fin_ir.specs.declared.expression.IExpr.{IExpr}
use Rattle.fin_ir.specs.declared.expression.IExpr.TheVariants as e
use Rattle.fin_ir.specs.Loads.{word_at}
use Rattle.fin_ir.specs.Machine.{Tensor}
use Rattle.fin_ir.specs.Value.{extents_in, parts_in, words_in, value_of}
use Rattle.fin_ir.proofs.Values.{value_num, value_pick, value_val}
use Rattle.fin_read.specs.Steps.{Step, stepped, Agree}
use Rattle.fin_read.specs.Reads.{none, in_extent, in_box, level_steps, levels_steps, first_step, last_step, read_steps, place_of}
use Rattle.fin_read.specs.Sees.{Sees}
use Rattle.fin_read.specs.Means.{AreAt, IsRead, ReadsMean}
use Rattle.fin_read.proofs.Stepping.{agree_refl, agree_then, one_step, reads_after}
use Rattle.fin_read.proofs.Placing.{choice_of, local_is, picked_placed, picked_none}
use Rattle.fin_read.proofs.Descending.{held_as, Holds, IsAtValue, none_stays, position_goes}
use Rattle.fin_read.proofs.Remaining.{LevelsAre, level_of, levels_below}

-- ---- the values of the indices

at_head : (ts : ℕ → Tensor) (at : ℕ) (ls : List ℤ) (x : IExpr) (xs : List IExpr) (z : ℤ) (zs : List ℤ) → AreAt ts at ls (x ∷ xs) (z ∷ zs) → IsAtValue ts at ls x z
at_head ts at ls x xs z zs h ks same = let q = h ks same in cc

at_tail : (ts : ℕ → Tensor) (at : ℕ) (ls : List ℤ) (x : IExpr) (xs : List IExpr) (z : ℤ) (zs : List ℤ) → AreAt ts at ls (x ∷ xs) (z ∷ zs) → AreAt ts at ls xs zs
at_tail ts at ls x xs z zs h ks same = let q = h ks same in cc

at_after : (ts : ℕ → Tensor) (at : ℕ) (ls js : List ℤ) (xs : List IExpr) (zs : List ℤ) → Agree at js ls → AreAt ts at ls xs zs → AreAt ts at js xs zs
at_after ts at ls js xs zs same h ks other = h ks (agree_then at ks js ls other same)

-- ---- the end of the descent

word_or : (val : List ℤ) (q : ℕ) (d fill : ℤ) → q < length val → slice_index_or val q d ≡ slice_index_or val q fill
word_or [] q d fill lt = absurd (omega arith)
word_or (v ∷ val) zero d fill lt = refl
word_or (v ∷ val) (suc q) d fill lt = word_or val q d fill (omega arith)

module _ (ts : ℕ → Tensor) (tensor : ℕ) (fill : ℤ) (at : ℕ) (ls : List ℤ) (long : at + 1 < length ls) where
  end_none : Holds at ls (negsuc 0) → IsRead ts (last_step tensor fill at ∷ []) at ls fill
  end_none f = one_step ts at ls _ fill (omega (arith, long)) (picked_none ts ls (e.Local at) (e.Num fill) _ 0 (local_is ts ls at (negsuc 0) f) ∙ value_num ts ls fill)

  end_placed : (q : ℕ) → q < length (words_in (ts tensor)) → Holds at ls (pos q) → IsRead ts (last_step tensor fill at ∷ []) at ls (slice_index_or (words_in (ts tensor)) q fill)
  end_placed q lt f =
      let own = local_is ts ls at (pos q) f in
      one_step ts at ls _ _ (omega (arith, long))
      (picked_placed ts ls (e.Local at) (e.Num fill) (e.Val tensor (e.Local at)) q own ∙ value_val ts ls tensor (e.Local at) ∙ ap (word_at (words_in (ts tensor))) own ∙ word_or (words_in (ts tensor)) q (pos 0) fill lt)

-- where there is no position, there is none at the end
levels_none : (ts : ℕ → Tensor) (tensor : ℕ) (fill : ℤ) (at k : ℕ) (l : List Level) (ns : List ℕ) (xs : List IExpr) (ls : List ℤ) → at + 1 < length ls → Holds at ls (negsuc 0) → IsRead ts (levels_steps (place_of tensor k at) l ns xs ++ last_step tensor fill at ∷ []) at ls fill
levels_none ts tensor fill at k [] ns xs ls long f = end_none ts tensor fill at ls long f
levels_none ts tensor fill at k (l ∷ rest) [] xs ls long f = end_none ts tensor fill at ls long f
levels_none ts tensor fill at k (l ∷ rest) (n ∷ ns) [] ls long f = end_none ts tensor fill at ls long f
levels_none ts tensor fill at k (l ∷ rest) (n ∷ ns) (x ∷ xs) ls long f =
    let own = level_steps (place_of tensor k at) l n x in
    let first = none_stays ts tensor k l n x at ls long f in
    let others = levels_steps (place_of tensor (k + 1) at) rest ns xs in
    let later = levels_none ts tensor fill at (k + 1) rest ns xs (stepped ts own ls) (omega (arith, long, first.long)) first.value in
    subst (λ (steps : List Step). IsRead ts steps at ls fill) (sym (append_assoc own others (last_step tensor fill at ∷ []))) (reads_after ts at ls own (others ++ last_step tensor fill at ∷ []) (negsuc 0) fill first later)

-- ---- the descent

module _ (ts : ℕ → Tensor) (tensor : ℕ) (fill : ℤ) (at : ℕ) where
  descent : (k count : ℕ) (l : List Level) (ns : List ℕ) (ps : List Part) (val : List ℤ) (o : Option ℕ) (xs : List IExpr) (cs : List ℕ) (ls : List ℤ) → at + 1 < length ls → LevelsAre ts tensor k l ns ps val count → IfSome o (λ q. q < count) → IsTrue (is_in_box ns cs)
      → AreAt ts at ls xs (map pos cs) → Holds at ls (held_as o) → IsRead ts (levels_steps (place_of tensor k at) l ns xs ++ last_step tensor fill at ∷ []) at ls (below o (λ q. value_from ns ps val fill q cs) fill)
  descent k count l ns ps val None xs cs ls long h lt box fixed f = levels_none ts tensor fill at k l ns xs ls long f
  descent k count [] [] [] val (Some q) xs cs ls long h lt box fixed f =
      let size : length (words_in (ts tensor)) ≡ count = ap length h.words ∙ h.valid.1 in
      subst (λ (ws : List ℤ). IsRead ts (last_step tensor fill at ∷ []) at ls (slice_index_or ws q fill)) h.words (end_placed ts tensor fill at ls long q (omega (arith, lt, size)) f)
  descent k count (l ∷ rest) (n ∷ ns) (p ∷ ps) val (Some q) (x ∷ xs) (c ∷ cs) ls long h lt box fixed f =
      let own = level_steps (place_of tensor k at) l n x in
      let others = levels_steps (place_of tensor (k + 1) at) rest ns xs ++ last_step tensor fill at ∷ [] in
      let inside = and_parts (nat_lt c n) (is_in_box ns cs) box in
      let less : c < n = ltb-true c n inside.0 in
      let level = level_of ts tensor k l rest n ns p ps val count h in
      let first = position_goes ts tensor k n count at q c x ls long lt less f (at_head ts at ls x xs (pos c) (map pos cs) fixed) l p level in
      let fixed_after = at_after ts at ls (stepped ts own ls) xs (map pos cs) first.kept (at_tail ts at ls x xs (pos c) (map pos cs) fixed) in
      let z = below (child_in n p q c) (λ r. value_from ns ps val fill r cs) fill in
      let later = descent (k + 1) (positions n count p) rest ns ps val (child_in n p q c) xs cs (stepped ts own ls) (omega (arith, long, first.long)) (levels_below ts tensor k l rest n ns p ps val count h) (child_within l n count p q c level.level lt less) inside.1 fixed_after first.value in
      subst (λ (steps : List Step). IsRead ts steps at ls z) (sym (append_assoc own (levels_steps (place_of tensor (k + 1) at) rest ns xs) (last_step tensor fill at ∷ []))) (reads_after ts at ls own others (held_as (child_in n p q c)) z first later)
  descent k count (l ∷ rest) (n ∷ ns) (p ∷ ps) val (Some q) [] (c ∷ cs) ls long h lt box fixed f = let e = fixed ls (agree_refl at ls) in cc
  descent k count (l ∷ rest) (n ∷ ns) (p ∷ ps) val (Some q) xs [] ls long h lt box fixed f = cc
  descent k count l ns ps val (Some q) xs cs ls long h lt box fixed f = absurd h.valid

-- ---- the first step

-- 1 where there are coordinates
abbrev pub inside : Option (List ℕ) → ℤ
inside None = pos 0
inside (Some cs) = pos 1

inside_first : (c : ℕ) (o : Option (List ℕ)) → inside o ≡ inside (with_first c o)
inside_first c None = refl
inside_first c (Some cs) = refl

module _ (ts : ℕ → Tensor) (ls : List ℤ) where
  extent_value : (n : ℕ) (ns : List ℕ) (x v : IExpr) (z : ℤ) (zs : List ℤ) → value_of x ts ls ≡ z → value_of v ts ls ≡ inside (coordinates ns zs) → value_of (in_extent n x v) ts ls ≡ inside (coordinates (n ∷ ns) (z ∷ zs))
  extent_value n ns x v (negsuc c) zs g h = picked_none ts ls x (e.Num (pos 0)) _ c g ∙ value_num ts ls (pos 0)
  extent_value n ns x v (pos c) zs g h =
      let o = coordinates ns zs in
      picked_placed ts ls x (e.Num (pos 0)) _ c g ∙ choice_of ts ls x (e.Num (pos n)) v (e.Num (pos 0)) (pos c) (pos n) g (value_num ts ls (pos n))
      ∙ (elim (nat_lt c n) as (λ b. (if b then value_of v ts ls else value_of (e.Num (pos 0)) ts ls) ≡ inside (if b then with_first c o else None)) [
        | true ↦ h ∙ inside_first c o
        | false ↦ value_num ts ls (pos 0)
      ])

  pub box_value : (shape : List ℕ) (xs : List IExpr) → value_of (in_box shape xs) ts ls ≡ inside (coordinates shape (map (λ (x : IExpr). value_of x ts ls) xs))
  box_value [] [] = value_num ts ls (pos 1)
  box_value [] (x ∷ xs) = value_num ts ls (pos 0)
  box_value (n ∷ ns) [] = value_num ts ls (pos 0)
  box_value (n ∷ ns) (x ∷ xs) = extent_value n ns x (in_box ns xs) (value_of x ts ls) (map (λ (y : IExpr). value_of y ts ls) xs) refl (box_value ns xs)

  -- the first position, where the indices lie in the box
  first_value : (shape : List ℕ) (xs : List IExpr) (o : Option (List ℕ)) → coordinates shape (map (λ (x : IExpr). value_of x ts ls) xs) ≡ o → value_of (e.Pick (in_box shape xs) (e.Num (pos 0)) none) ts ls ≡ held_as (option_map (λ (cs : List ℕ). 0) o)
  first_value shape xs None h = value_pick ts ls (in_box shape xs) (e.Num (pos 0)) none ∙ rw (box_value shape xs, h) (value_num ts ls (negsuc 0))
  first_value shape xs (Some cs) h = value_pick ts ls (in_box shape xs) (e.Num (pos 0)) none ∙ rw (box_value shape xs, h) (value_num ts ls (pos 0))

numbers_first : (ns : List ℕ) (zs : List ℤ) (c : ℕ) (cs : List ℕ) → with_first c (coordinates ns zs) ≡ Some cs → (ds : List ℕ) × (coordinates ns zs ≡ Some ds) × (cs ≡ c ∷ ds)
numbers_first ns zs c cs h = elim (coordinates ns zs) as (λ o. with_first c o ≡ Some cs → (ds : List ℕ) × (o ≡ Some ds) × (cs ≡ c ∷ ds)) [
  | None ↦ λ g. cc
  | Some ds ↦ λ g. (ds, refl, cc)
] h

-- the indices are the coordinates that are found
numbers_are : (ns : List ℕ) (zs : List ℤ) (cs : List ℕ) → coordinates ns zs ≡ Some cs → zs ≡ map pos cs
numbers_are [] [] cs h = let same : ◌≡◌ {A = List ℕ} [] cs = cc in ap (map pos) same
numbers_are [] (z ∷ zs) cs h = cc
numbers_are (n ∷ ns) [] cs h = cc
numbers_are (n ∷ ns) (negsuc c ∷ zs) cs h = cc
numbers_are (n ∷ ns) (pos c ∷ zs) cs h =
    elim (nat_lt c n) as (λ b. (if b then with_first c (coordinates ns zs) else None) ≡ Some cs → pos c ∷ zs ≡ map pos cs) [
      | true ↦ λ g. let r = numbers_first ns zs c cs g in ap (λ (ys : List ℤ). pos c ∷ ys) (numbers_are ns zs r.0 r.1) ∙ ap (map pos) (sym r.2)
      | false ↦ λ g. cc
    ] h

-- ---- all steps

module _ (ts : ℕ → Tensor) (tensor : ℕ) (levels : List Level) (shape : List ℕ) (fill : ℤ) (f : TensorFunction) (xs : List IExpr) (zs : List ℤ) (at : ℕ) (ls : List ℤ) (sees : Sees ts tensor levels shape fill f) (fixed : AreAt ts at ls xs zs) (long : at + 1 < length ls) where
  abbrev later : List Step
  later = levels_steps (place_of tensor 0 at) levels shape xs ++ last_step tensor fill at ∷ []

  first_read : (o : Option (List ℕ)) → coordinates shape zs ≡ o → IsRead ts (first_step shape xs at ∷ []) at ls (held_as (option_map (λ (cs : List ℕ). 0) o))
  first_read o h = one_step ts at ls _ _ (omega (arith, long)) (first_value ts ls shape xs o (ap (coordinates shape) (fixed ls (agree_refl at ls)) ∙ h))

  whole : LevelsAre ts tensor 0 levels shape sees.storage.parts sees.storage.val 1
  whole = record { extents = ap extents_in sees.is ∙ sees.shape_is; parts = ap parts_in sees.is; words = ap words_in sees.is; count_is = refl; valid = sees.valid }

  read_by : (o : Option (List ℕ)) → coordinates shape zs ≡ o → IsRead ts (read_steps tensor levels shape fill xs at) at ls (value_in f o)
  read_by None h =
      let first = first_read None h in
      let rest = levels_none ts tensor fill at 0 levels shape xs (stepped ts (first_step shape xs at ∷ []) ls) (omega (arith, long, first.long)) first.value in
      subst (λ (z : ℤ). IsRead ts (read_steps tensor levels shape fill xs at) at ls z) (sym sees.f_fill) (reads_after ts at ls (first_step shape xs at ∷ []) later (negsuc 0) fill first rest)
  read_by (Some cs) h =
      let first = first_read (Some cs) h in
      let box = box_of shape zs cs h in
      let placed = subst (λ (ys : List ℤ). AreAt ts at ls xs ys) (numbers_are shape zs cs h) fixed in
      let after = stepped ts (first_step shape xs at ∷ []) ls in
      let rest = descent ts tensor fill at 0 1 levels shape sees.storage.parts sees.storage.val (Some 0) xs cs after (omega (arith, long, first.long)) whole (omega arith) box (at_after ts at ls after xs (map pos cs) first.kept placed) first.value in
      subst (λ (z : ℤ). IsRead ts (read_steps tensor levels shape fill xs at) at ls z) (sym (sees.gives cs box)) (reads_after ts at ls (first_step shape xs at ∷ []) later (pos 0) (value_from shape sees.storage.parts sees.storage.val fill 0 cs) first rest)

pub reads_mean : ReadsMean
reads_mean ts tensor levels shape fill f xs zs at ls sees fixed long = read_by ts tensor levels shape fill f xs zs at ls sees fixed long (coordinates shape zs) refl
