-- What is made for one read goes before what is made for those behind it.
use Rattle.std.proofs.Common.{◌≡◌, ℕ, zero, suc, ◌+◌, ◌<◌, List, [], ◌∷◌, ◌++◌, length, take, drop, drop-cons, get_or, Option, Some, None, refl, sym, ap, ◌∙◌, arith, add-one, append_assoc}
use Rattle.fin_tensor.specs.Levels.{AreSmall}
use Rattle.fin_ast.specs.declared.tree.Index.{Index}
use Rattle.fin_ir.specs.declared.expression.IExpr.{IExpr}
use Rattle.fin_simp.specs.Rest.{Access}
use Rattle.fin_enter.specs.Together.{Around}
use Rattle.fin_enter.specs.LoopEntry.{and_length}

pub small_take : (k : ℕ) (ns : List ℕ) → AreSmall ns → AreSmall (take k ns)
small_take zero ns h j lt = absurd (omega (arith, lt))
small_take (suc k) [] h j lt = absurd (omega (arith, lt))
small_take (suc k) (n ∷ ns) h zero lt = h zero (omega arith)
small_take (suc k) (n ∷ ns) h (suc j) lt = small_take k ns (λ i less. h (suc i) (omega (arith, less))) j (omega (arith, lt))

pub length_first : (l : Around) (a : Access) (o : Option (ℕ × Index)) (at : ℕ) (xs : List IExpr) → and_length l a o at xs ≡ and_length l a o at [] ++ xs
length_first l a None at xs = refl
length_first l a (Some d) at xs = refl

-- ---- along a list

pub first_left : {A : Type 0} (xs : List A) (i : ℕ) (x : A) → i < length xs → x ≡ get_or xs i x → drop i xs ≡ x ∷ drop (i + 1) xs
first_left xs i x lt is = let opened : drop i xs ≡ get_or xs i x ∷ drop (i + 1) xs = rw add-one (drop-cons xs i x lt) in opened ∙ ap (λ y. y ∷ drop (i + 1) xs) (sym is)

-- what is made for the first goes to the end of what was made before it
pub goes_on : {A : Type 0} (xs ys zs : List A) (x y : A) → xs ++ (y ∷ ys) ≡ zs → x ≡ y → (xs ++ x ∷ []) ++ ys ≡ zs
goes_on xs ys zs x y whole same = append_assoc xs (x ∷ []) ys ∙ ap (λ u. xs ++ (u ∷ ys)) same ∙ whole
