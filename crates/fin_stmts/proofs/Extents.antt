-- Extents that fit headers are small, and so are those of dense levels.
use Rattle.std.proofs.Common.{ℕ, ◌≤◌, ◌^◌, zero, suc, List, [], ◌∷◌, length, ap, arith}
use Rattle.std.specs.Prelude.{slice_index_or}
use Rattle.std.proofs.lemmas.List.{get_or_past}
use Rattle.std.proofs.lemmas.List.Elements.{All-get_or}
use mathlib.Core.Logic.{dite}
use native.Mathlib.Decide.{dec_lt}
use Rattle.fin_tensor.specs.Levels.{AreSmall}
use Rattle.fin_ast.specs.declared.header.Header.{Header}
use Rattle.fin_ast.specs.declared.checked.Dims.{Dims}
use Rattle.fin_ast.specs.Shaped.{AreRanged, AreShaped, FitHeaders}
use Rattle.fin_read.specs.Values.{AreShapes, heads_of}
use Rattle.fin_perform.specs.Built.{AreBuilt}

none_small : AreSmall []
none_small k lt = absurd (omega (arith, lt))

small_at : (hs : List Header) (shapes : List (List ℕ)) → AreShaped hs shapes → AreShapes shapes
small_at [] [] a t = none_small
small_at [] (s ∷ shapes) a t = absurd a
small_at (h ∷ hs) [] a t = absurd a
small_at (h ∷ hs) (s ∷ shapes) a zero = a.0.shape_is.small
small_at (h ∷ hs) (s ∷ shapes) a (suc t) = small_at hs shapes a.1 t

built_at : (hs : List Header) (shapes : List (List ℕ)) → AreShaped hs shapes → AreBuilt (heads_of hs shapes)
built_at [] [] a t = omega arith
built_at [] (s ∷ shapes) a t = absurd a
built_at (h ∷ hs) [] a t = absurd a
built_at (h ∷ hs) (s ∷ shapes) a zero = a.0.small
built_at (h ∷ hs) (s ∷ shapes) a (suc t) = built_at hs shapes a.1 t

pub are_shapes : (hs : List Header) (dims : Dims) → FitHeaders hs dims → AreShapes dims.shapes
are_shapes hs dims fit = small_at hs dims.shapes fit.shapes

pub are_built : (hs : List Header) (dims : Dims) → FitHeaders hs dims → AreBuilt (heads_of hs dims.shapes)
are_built hs dims fit = built_at hs dims.shapes fit.shapes

-- a range's end is small, also where there is none
pub range_small : (ranges : List (ℕ × ℕ)) (var : ℕ) → AreRanged ranges → (slice_index_or ranges var (0, 0)).1 ≤ 2 ^ 40
range_small ranges var fit = dite (dec_lt var (length ranges)) (λ h. All-get_or (λ (r : ℕ × ℕ). r.1 ≤ 2 ^ 40) ranges var (0, 0) h fit)
    (λ h. omega (arith, ap (λ (r : ℕ × ℕ). r.1) (get_or_past ranges var (0, 0) (omega (arith, h)))))
