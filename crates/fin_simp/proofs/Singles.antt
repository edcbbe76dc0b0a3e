-- Reads that are written in an accepted program stay, since plain indices name one variable at most.
use Rattle.std.proofs.Common.{◌≡◌, ℕ, zero, suc, ◌+◌, ◌*◌, ◌<◌, ◌≤◌, Bool, true, false, not, ◌&&◌, ◌||◌, List, [], ◌∷◌, ◌++◌, length, None, refl, sym, ap, ◌∙◌, arith, subst, append_assoc}
use Rattle.std.proofs.lemmas.List.{append-nil}
use Rattle.std.specs.Prelude.{slice_get, slice_index_or, is_none, ◌==◌}
use Rattle.std.specs.List.{list_all}
use Rattle.std.proofs.lemmas.Bool.Decides.{nat_tests}
use Rattle.fin_tensor.specs.declared.format.Level.{Level}
use Rattle.fin_ast.specs.declared.header.Header.{Header}
use Rattle.fin_ast.specs.declared.checked.Dims.{Dims}
use Rattle.fin_ast.specs.declared.tree.Index.{Index}
use Rattle.fin_ast.specs.Ties.{Dimension, Extents}
use Rattle.fin_ast.specs.Sizes.{leaves, range_at, number_of, shape_from, shape_of, shapes_from, first_unknown, first_of, outside}
use Rattle.fin_ast.specs.Infer.{places_in, dims_in}
use Rattle.fin_ast.specs.Scope.{differ, holds_of, outermost}
use Rattle.fin_ast.specs.Dense.{Setting, shape_at, setting_of}
use Rattle.fin_ast.proofs.Unbroken.{first_none, second_none}
use Rattle.fin_simp.specs.Numbered.{outset, numbered_all}
use Rattle.fin_simp.specs.Rest.{Access, Rest, all_written, written_step}
use Rattle.fin_simp.specs.Moving.{all_stay, access_stays}
use Rattle.fin_simp.specs.Staying.{AcceptedStay}
use Rattle.fin_simp.proofs.Origins.{left_true, right_true}
use Rattle.fin_simp.proofs.Extents.{leaves_at, uses_stay, is_sized, good, body_good}

module _ (extent : Extents) where
  -- ---- the extents of a tensor
  later_shape : (d : ℕ) (ls : List Level) (before : List ℕ) → shape_from extent d ls before ≡ before ++ shape_from extent d ls []
  later_shape d [] before = sym (append-nil before)
  later_shape d (l ∷ ls) before =
      let n = number_of extent (Dimension d) in
      later_shape (d + 1) ls (before ++ n ∷ []) ∙ append_assoc before (n ∷ []) (shape_from extent (d + 1) ls []) ∙ ap (λ (ns : List ℕ). before ++ ns) (sym (later_shape (d + 1) ls (n ∷ [])))

  extent_at : (d : ℕ) (ls : List Level) (k : ℕ) → k < length ls → slice_index_or (shape_from extent d ls []) k 0 ≡ number_of extent (Dimension (d + k))
  extent_at d [] k h = absurd (omega (arith, h))
  extent_at d (l ∷ ls) zero h = let same : d ≡ d + 0 = omega arith in ap (λ (ns : List ℕ). slice_index_or ns 0 0) (later_shape (d + 1) ls (number_of extent (Dimension d) ∷ [])) ∙ ap (λ j. number_of extent (Dimension j)) same
  extent_at d (l ∷ ls) (suc k) h =
      let same : d + 1 + k ≡ d + suc k = omega arith in
      ap (λ (ns : List ℕ). slice_index_or ns (suc k) 0) (later_shape (d + 1) ls (number_of extent (Dimension d) ∷ [])) ∙ extent_at (d + 1) ls k (omega (arith, h)) ∙ ap (λ j. number_of extent (Dimension j)) same

  later_shapes : (tensor : ℕ) (hs : List Header) (before : List (List ℕ)) → shapes_from extent tensor hs before ≡ before ++ shapes_from extent tensor hs []
  later_shapes tensor [] before = sym (append-nil before)
  later_shapes tensor (h ∷ hs) before =
      let s : List ℕ = shape_of extent tensor h in
      later_shapes (tensor + 1) hs (before ++ s ∷ []) ∙ append_assoc before (s ∷ []) (shapes_from extent (tensor + 1) hs []) ∙ ap (λ (ss : List (List ℕ)). before ++ ss) (sym (later_shapes (tensor + 1) hs (s ∷ [])))

  -- the header of a tensor that has as many levels as it has indices
  header_at : (from : ℕ) (hs : List Header) (n j : ℕ) → holds_of (λ h. n == length h.format.levels) (slice_get hs j) ≡ true
      → (h : Header) × (slice_index_or (shapes_from extent from hs []) j [] ≡ shape_of extent (from + j) h) × ((n == length h.format.levels) ≡ true)
  header_at from [] n j e = let x : false ≡ true = e in cc
  header_at from (h ∷ hs) n zero e =
      let same : from ≡ from + 0 = omega arith in
      (h, ap (λ (ss : List (List ℕ)). slice_index_or ss 0 []) (later_shapes (from + 1) hs (shape_of extent from h ∷ [])) ∙ ap (λ k. shape_of extent k h) same, e)
  header_at from (h ∷ hs) n (suc j) e =
      let got = header_at (from + 1) hs n j e in
      let same : from + 1 + j ≡ from + suc j = omega arith in
      (got.0, ap (λ (ss : List (List ℕ)). slice_index_or ss (suc j) []) (later_shapes (from + 1) hs (shape_of extent from h ∷ [])) ∙ got.1 ∙ ap (λ k. shape_of extent k got.0) same, got.2)

abbrev differs : Index → Bool
differs i = differ i.first i.second

equal : (a b : ℕ) → (a == b) ≡ true → a ≡ b
equal a b e = grind (arith, nat_tests)

index_stays : (apart loose single out : Bool) → apart ≡ true → (loose || single) ≡ true → not (not loose && out) ≡ true → (apart && (loose || (single && not out))) ≡ true
index_stays true true single out a s o = refl
index_stays true false true out a s o = o
index_stays true false false out a s o = let x : false ≡ true = s in cc
index_stays false loose single out a s o = let x : false ≡ true = a in cc

module _ (w : Setting) (extent : Extents) (dims : w.dims.shapes ≡ shapes_from extent 0 w.headers []) where
  indices_stay : (d k count : ℕ) (shape : List ℕ) → ((j : ℕ) → j < count → slice_index_or shape j 0 ≡ number_of extent (Dimension (d + j))) → (at : List Index) → k + length at ≤ count
      → list_all differs at ≡ true → uses_stay extent w.dims.ranges (d + k) at ≡ true → all_stay w shape k at ≡ true
  indices_stay d k count shape at_level [] le a u = refl
  indices_stay d k count shape at_level (i ∷ at) le a u =
      let n = slice_index_or shape k 0 in
      let next : d + k + 1 ≡ d + (k + 1) = omega arith in
      let out = left_true (not (leaves_at extent w.dims.ranges (d + k) i)) (uses_stay extent w.dims.ranges (d + k + 1) at) u in
      let rest = subst (λ (j : ℕ). uses_stay extent w.dims.ranges j at ≡ true) next (right_true (not (leaves_at extent w.dims.ranges (d + k) i)) (uses_stay extent w.dims.ranges (d + k + 1) at) u) in
      let here : not (not i.loose && leaves i.offset (range_at w.dims.ranges i.first) n) ≡ true
      = ap (λ (m : ℕ). not (not i.loose && leaves i.offset (range_at w.dims.ranges i.first) m)) (at_level k (omega (arith, le))) ∙ out in
      ap (λ b. b && all_stay w shape (k + 1) at) (index_stays (differs i) i.loose (is_none i.second) (leaves i.offset (range_at w.dims.ranges i.first) n) (left_true (differs i) (list_all differs at) a) i.single here)
      ∙ indices_stay d (k + 1) count shape at_level at (omega (arith, le)) (right_true (differs i) (list_all differs at) a) rest

  access_all : (a : Access) → good extent w.dims.ranges w.headers a ≡ true → access_stays w a ≡ true
  access_all a g =
      let sized = left_true (is_sized extent w.dims.ranges w.headers a.tensor a.at) (list_all differs a.at && uses_stay extent w.dims.ranges (8 * a.tensor) a.at) g in
      let two = right_true (is_sized extent w.dims.ranges w.headers a.tensor a.at) (list_all differs a.at && uses_stay extent w.dims.ranges (8 * a.tensor) a.at) g in
      let apart = left_true (list_all differs a.at) (uses_stay extent w.dims.ranges (8 * a.tensor) a.at) two in
      let uses = right_true (list_all differs a.at) (uses_stay extent w.dims.ranges (8 * a.tensor) a.at) two in
      let found = header_at extent 0 w.headers (length a.at) a.tensor sized in
      let first : 0 + a.tensor ≡ a.tensor = omega arith in
      let begin : 8 * a.tensor ≡ 8 * a.tensor + 0 = omega arith in
      let shape : shape_at w a.tensor ≡ shape_of extent a.tensor found.0 = ap (λ (ss : List (List ℕ)). slice_index_or ss a.tensor []) dims ∙ found.1 ∙ ap (λ k. shape_of extent k found.0) first in
      let levels : length a.at ≡ length found.0.format.levels = equal (length a.at) (length found.0.format.levels) found.2 in
      indices_stay (8 * a.tensor) 0 (length found.0.format.levels) (shape_at w a.tensor)
      (λ j h. ap (λ (ns : List ℕ). slice_index_or ns j 0) shape ∙ extent_at extent (8 * a.tensor) found.0.format.levels j h)
      a.at (omega (arith, levels)) apart (subst (λ (j : ℕ). uses_stay extent w.dims.ranges j a.at ≡ true) begin uses)

  reads_all : (reads : List Access) → list_all (good extent w.dims.ranges w.headers) reads ≡ true → list_all (access_stays w) reads ≡ true
  reads_all [] g = refl
  reads_all (a ∷ reads) g =
      ap (λ b. b && list_all (access_stays w) reads) (access_all a (left_true (good extent w.dims.ranges w.headers a) (list_all (good extent w.dims.ranges w.headers) reads) g))
      ∙ reads_all reads (right_true (good extent w.dims.ranges w.headers a) (list_all (good extent w.dims.ranges w.headers) reads) g)

pub accepted_stay : AcceptedStay
accepted_stay c inputs accepted =
    let found = accepted.extents in
    let extent = found.extent in
    let p = c.program in
    let out = first_none (first_of (outside extent (dims_in extent p).ranges) (places_in p)) _ (second_none (first_unknown extent p.headers (places_in p)) _ found.kept) in
    let same : c.dims ≡ dims_in extent p = found.numbers in
    let none : first_of (outside extent c.dims.ranges) (places_in p) ≡ None = ap (λ (d : Dims). first_of (outside extent d.ranges) (places_in p)) same ∙ out in
    let reads = body_good extent c.dims.ranges p.body (outermost p.headers) [] outset p.named none in
    reads_all (setting_of c inputs) extent (ap (λ (d : Dims). d.shapes) same) (all_written (numbered_all Rest written_step p.body outset)).reads reads.1
