-- Extents that are found fit the headers: numbers come from given shapes alone.
use Rattle.std.proofs.Common.{◌≡◌, ◌≤◌, ◌+◌, ◌*◌, ◌^◌, ◌||◌, ℕ, zero, suc, Bool, true, false, List, [], ◌∷◌, ◌++◌, refl, sym, ap, ◌∙◌, arith, length, Option, Some, None, subst, All}
use Rattle.std.specs.Prelude.{IfSome, slice_get, slice_index_or, nat_lt, nat_le, unwrap_or, ◌/◌, ◌%◌}
use Rattle.std.specs.List.{list_any}
use Rattle.std.specs.Option.{option_or}
use Rattle.std.proofs.lemmas.Bool.Decides.{nat_tests}
use Rattle.std.proofs.lemmas.List.{append_assoc, length-append, append-nil}
use Rattle.std.proofs.lemmas.List.Elements.{All-cons, All-nil, All-head, All-tail, All-append}
use Rattle.fin_tensor.specs.declared.format.Level.{Level}
use Rattle.fin_tensor.specs.Extents.{dense_size}
use Rattle.fin_tensor.specs.Levels.{AreSmall}
use Rattle.fin_tensor.specs.Lines.{IsShape}
use Rattle.fin_tensor.specs.Building.{CanBuild}
use Rattle.fin_ast.specs.declared.header.Header.{Header}
use Rattle.fin_ast.specs.declared.place.Place.{Place}
use Rattle.fin_ast.specs.declared.place.Place.TheVariants.{Loop, Let, Use}
use Rattle.fin_ast.specs.declared.program.Program.{Program}
use Rattle.fin_ast.specs.declared.checked.Dims.{Dims}
use Rattle.fin_ast.specs.Ties.{Node, Dimension, OfLoop, Shapes, number_in, HasExtent}
use Rattle.fin_ast.specs.Sizes.{broken, first_of, is_large, has_large, large_in_header, large_in_place, number_of, shape_from, shape_of, shapes_from, ranges_of, too_dense, first_dense, outside, first_unknown}
use Rattle.fin_ast.specs.Choices.{first_in, crowds_of}
use Rattle.fin_ast.proofs.Unbroken.{first_none, second_none, unbroken}
use Rattle.fin_ast.specs.Infer.{given, shapes_in, places_in, dims_in, IsInferred}
use Rattle.fin_ast.specs.Shaped.{AreShaped, AreRanged, AreSmallShapes, FitHeaders, FoundFit}

-- ---- tests
neither : (a b : Bool) → (a || b) ≡ false → b ≡ false
neither true b e = cc
neither false b e = e

either : (a b : Bool) → (a || b) ≡ false → a ≡ false
either true b e = cc
either false b e = refl

at_most : (m n : ℕ) → nat_lt m n ≡ false → n ≤ m
at_most m n e = grind (arith, nat_tests)

-- ---- the numbers that are known

small_list : (ns : List ℕ) → list_any is_large ns ≡ false → All (λ n. n ≤ 2 ^ 40) ns
small_list [] e = All-nil (λ n. n ≤ 2 ^ 40)
small_list (n ∷ ns) e = All-cons (λ (m : ℕ). m ≤ 2 ^ 40) n ns (at_most 1099511627776 n (either (is_large n) (list_any is_large ns) e)) (small_list ns (neither (is_large n) (list_any is_large ns) e))

small_of : (ns : List ℕ) → All (λ n. n ≤ 2 ^ 40) ns → AreSmall ns
small_of ns all = λ k h. all k 0 h

abbrev Small : Option (List ℕ) → Type 0
Small o = IfSome o AreSmall

small_header : (o : Option (List ℕ)) → has_large o ≡ false → Small o
small_header None e = tt
small_header (Some ns) e = small_of ns (small_list ns e)

-- what is given for a header: the input's shape, or the header's own
small_given : (s : Option (List ℕ)) (h : Header) → Small s → has_large h.shape ≡ false → Small (option_or s h.shape)
small_given None h t e = small_header h.shape e
small_given (Some ns) h t e = t

all_given : (hs : List Header) (inputs before : Shapes) → AreSmallShapes inputs → AreSmallShapes before → first_of large_in_header hs ≡ None → AreSmallShapes (given hs inputs before)
all_given [] inputs before i b e = b
all_given (h ∷ hs) [] before i b e = b
all_given (h ∷ hs) (s ∷ inputs) before i b e =
    let here : has_large h.shape ≡ false = unbroken (has_large h.shape) _ h.line (first_none (large_in_header h) (first_of large_in_header hs) e) in
    let one : AreSmallShapes (option_or s h.shape ∷ []) = All-cons Small (option_or s h.shape) [] (small_given s h (All-head Small s inputs i) here) (All-nil Small) in
    all_given hs inputs (before ++ option_or s h.shape ∷ []) (All-tail Small s inputs i) (All-append Small before (option_or s h.shape ∷ []) b one) (second_none (large_in_header h) (first_of large_in_header hs) e)

at_place : (shapes : Shapes) → AreSmallShapes shapes → (k : ℕ) → Small (slice_index_or shapes k None)
at_place [] all k = tt
at_place (s ∷ shapes) all zero = All-head Small s shapes all
at_place (s ∷ shapes) all (suc k) = at_place shapes (All-tail Small s shapes all) k

in_shape : (o : Option (List ℕ)) (level n : ℕ) → Small o → number_in o level ≡ Some n → n ≤ 2 ^ 40
in_shape None level n t e = cc
in_shape (Some ns) level n t e = in_list ns level n t e where
  in_list : (ns : List ℕ) (level n : ℕ) → AreSmall ns → slice_get ns level ≡ Some n → n ≤ 2 ^ 40
  in_list [] level n t e = cc
  in_list (m ∷ ns) zero n t e = subst (λ (x : Option ℕ). unwrap_or x 0 ≤ 2 ^ 40) e (t 0 (omega arith))
  in_list (m ∷ ns) (suc level) n t e = in_list ns level n (λ k h. t (suc k) (omega (arith, h))) e

module _ (p : Program) (inputs : Shapes) (small : AreSmallShapes inputs) (dims : Dims) (found : IsInferred p inputs dims) where
  shapes_small : AreSmallShapes (shapes_in p inputs)
  shapes_small = all_given p.headers inputs [] small (All-nil Small) (first_none (first_of large_in_header p.headers) (first_of large_in_place (places_in p)) found.small)

  known_small : (a : Node) (n : ℕ) → found.extent a ≡ Some n → n ≤ 2 ^ 40
  known_small a n e =
      let h : HasExtent (shapes_in p inputs) _ a n = (found.extents a n).0 e in
      in_shape (slice_index_or (shapes_in p inputs) (h.0 / 8) None) (h.0 % 8) n (at_place (shapes_in p inputs) shapes_small (h.0 / 8)) h.1

  number_small : (a : Node) → number_of found.extent a ≤ 2 ^ 40
  number_small a = elim (found.extent a) as (λ o. found.extent a ≡ o → unwrap_or o 0 ≤ 2 ^ 40) [ None ↦ λ e. omega arith | Some n ↦ λ e. known_small a n e ] refl

  -- ---- shapes

  shape_small : (d : ℕ) (ls : List Level) (before : List ℕ) → All (λ n. n ≤ 2 ^ 40) before → All (λ n. n ≤ 2 ^ 40) (shape_from found.extent d ls before)
  shape_small d [] before all = all
  shape_small d (l ∷ ls) before all =
      let n : ℕ = number_of found.extent (Dimension d) in
      shape_small (d + 1) ls (before ++ n ∷ []) (All-append (λ (m : ℕ). m ≤ 2 ^ 40) before (n ∷ []) all (All-cons (λ (m : ℕ). m ≤ 2 ^ 40) n [] (number_small (Dimension d)) (All-nil (λ (m : ℕ). m ≤ 2 ^ 40))))

  shape_long : (d : ℕ) (ls : List Level) (before : List ℕ) → length (shape_from found.extent d ls before) ≡ length before + length ls
  shape_long d [] before = omega arith
  shape_long d (l ∷ ls) before = let n : ℕ = number_of found.extent (Dimension d) in omega (arith, shape_long (d + 1) ls (before ++ n ∷ []), length-append before (n ∷ []))

  is_shape : (tensor : ℕ) (h : Header) → IsShape h.format.levels (shape_of found.extent tensor h)
  is_shape tensor h = record {
    long = omega (arith, shape_long (8 * tensor) h.format.levels []);
    small = small_of (shape_of found.extent tensor h) (shape_small (8 * tensor) h.format.levels [] (All-nil (λ (m : ℕ). m ≤ 2 ^ 40)));
  }

  later_shapes : (tensor : ℕ) (hs : List Header) (before : List (List ℕ)) → shapes_from found.extent tensor hs before ≡ before ++ shapes_from found.extent tensor hs []
  later_shapes tensor [] before = sym (append-nil before)
  later_shapes tensor (h ∷ hs) before =
      let s : List ℕ = shape_of found.extent tensor h in
      later_shapes (tensor + 1) hs (before ++ s ∷ []) ∙ append_assoc before (s ∷ []) (shapes_from found.extent (tensor + 1) hs []) ∙ ap (λ (ss : List (List ℕ)). before ++ ss) (sym (later_shapes (tensor + 1) hs (s ∷ [])))

  are_shaped : (tensor : ℕ) (hs : List Header) → first_dense hs (shapes_from found.extent tensor hs []) ≡ None → AreShaped hs (shapes_from found.extent tensor hs [])
  are_shaped tensor [] e = tt
  are_shaped tensor (h ∷ hs) e =
      let s : List ℕ = shape_of found.extent tensor h in
      let split : shapes_from found.extent tensor (h ∷ hs) [] ≡ s ∷ shapes_from found.extent (tensor + 1) hs [] = later_shapes (tensor + 1) hs (s ∷ []) in
      let e' : first_dense (h ∷ hs) (s ∷ shapes_from found.extent (tensor + 1) hs []) ≡ None = subst (λ (ss : List (List ℕ)). first_dense (h ∷ hs) ss ≡ None) split e in
      let dense : nat_lt 16777216 (dense_size h.format.levels s) ≡ false = unbroken _ _ h.line (first_none (too_dense h s) (first_dense hs (shapes_from found.extent (tensor + 1) hs [])) e') in
      let one : CanBuild h.format s = record { placed = h.placed.0; shape_is = is_shape tensor h; small = at_most 16777216 _ dense } in
      subst (λ (ss : List (List ℕ)). AreShaped (h ∷ hs) ss) (sym split) (one, are_shaped (tensor + 1) hs (second_none (too_dense h s) (first_dense hs (shapes_from found.extent (tensor + 1) hs [])) e'))

  -- ---- ranges

  ranges_small : (places : List Place) → first_of large_in_place places ≡ None → AreRanged (ranges_of found.extent places)
  ranges_small [] e = All-nil (λ (r : ℕ × ℕ). r.1 ≤ 2 ^ 40)
  ranges_small (Loop var None line ∷ places) e =
      All-cons (λ (r : ℕ × ℕ). r.1 ≤ 2 ^ 40) (0, number_of found.extent (OfLoop var)) (ranges_of found.extent places) (number_small (OfLoop var)) (ranges_small places (second_none (large_in_place (Loop var None line)) (first_of large_in_place places) e))
  ranges_small (Loop var (Some range) line ∷ places) e =
      let both : large_in_place (Loop var (Some range) line) ≡ None = first_none (large_in_place (Loop var (Some range) line)) (first_of large_in_place places) e in
      let high : is_large range.1 ≡ false = neither (is_large range.0) (is_large range.1) (unbroken _ _ line (second_none (broken (nat_le range.1 range.0) _ line) _ both)) in
      All-cons (λ (r : ℕ × ℕ). r.1 ≤ 2 ^ 40) range (ranges_of found.extent places) (at_most 1099511627776 range.1 high) (ranges_small places (second_none (large_in_place (Loop var (Some range) line)) (first_of large_in_place places) e))
  ranges_small (Let ∷ places) e = All-cons (λ (r : ℕ × ℕ). r.1 ≤ 2 ^ 40) (0, 0) (ranges_of found.extent places) (omega arith) (ranges_small places (second_none (large_in_place Let) (first_of large_in_place places) e))
  ranges_small (Use dimension i line ∷ places) e = ranges_small places (second_none (large_in_place (Use dimension i line)) (first_of large_in_place places) e)

  fit : FitHeaders p.headers (dims_in found.extent p)
  fit =
      let later : _ = second_none (first_unknown found.extent p.headers (places_in p)) _ found.kept in
      let dense : _ = second_none (first_of (outside found.extent (dims_in found.extent p).ranges) (places_in p)) _ later in
      record {
        shapes = are_shaped 0 p.headers (first_none (first_dense p.headers (dims_in found.extent p).shapes) (first_in (crowds_of p.headers p.body)) dense);
        ranges = ranges_small (places_in p) (second_none (first_of large_in_header p.headers) (first_of large_in_place (places_in p)) found.small);
      }

pub found_fit : FoundFit
found_fit p inputs dims small found = subst (λ (d : Dims). FitHeaders p.headers d) (sym found.numbers) (fit p inputs small dims found)
