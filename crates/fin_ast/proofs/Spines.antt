-- Walks along the left side of an expression: down to its head, and up again side by side.
use Rattle.std.proofs.Common.{◌≡◌, ℕ, ◌+◌, ◌<◌, ◌≤◌, List, [], ◌∷◌, ◌++◌, Bor, subst, refl, sym, ap, ◌∙◌, arith}
use Rattle.fin_base.specs.declared.terms.Op.{Op}
use Rattle.fin_ast.specs.declared.tree.Expr.{Expr, fold-Expr}
use Rattle.fin_ast.specs.declared.tree.Expr.TheOpen.{Expr-F}
use Rattle.fin_ast.specs.declared.tree.Expr.TheVariants.{Two, Neg}
use Rattle.fin_ast.specs.Spine.{sides_of, wound, nodes_step, nodes_of, AreSmaller}
use Rattle.fin_ast.proofs.Nodes.{of_two, of_neg}

pub nodes_two : (o : Op) (x y : Expr) → nodes_of (Two o x y) ≡ nodes_of x + nodes_of y + 1
nodes_two = of_two ℕ nodes_step

pub nodes_neg : (x : Expr) → nodes_of (Neg x) ≡ nodes_of x + 1
nodes_neg = of_neg ℕ nodes_step

-- ---- a fold goes along

abbrev pub along : {A : Type 0} → (Expr-F A → A) → List (Op × Expr) → A → A
along step [] a = a
along {A = A} step (s ∷ ss) a = step (Expr-F.Two s.0 (along step ss a) (fold-Expr A step s.1))

pub goes_along : (A : Type 0) (step : Expr-F A → A) (ss : List (Op × Expr)) (x : Expr) → fold-Expr A step (wound ss x) ≡ along step ss (fold-Expr A step x)
goes_along A step [] x = refl
goes_along A step (s ∷ ss) x = of_two A step s.0 (wound ss x) s.1 ∙ ap (λ (a : A). step (Expr-F.Two s.0 a (fold-Expr A step s.1))) (goes_along A step ss x)

-- ---- one side more

wound_push : (ss : List (Op × Expr)) (s : Op × Expr) (x : Expr) → wound (ss ++ s ∷ []) x ≡ wound ss (Two s.0 x s.1)
wound_push [] s x = refl
wound_push (t ∷ ss) s x = ap (λ (y : Expr). Two t.0 y t.1) (wound_push ss s x)

sides_push : (ss : List (Op × Bor Expr)) (s : Op × Bor Expr) → sides_of (ss ++ s ∷ []) ≡ sides_of ss ++ (s.0, s.1.now) ∷ []
sides_push [] s = refl
sides_push (t ∷ ss) s = ap (λ (xs : List (Op × Expr)). (t.0, t.1.now) ∷ xs) (sides_push ss s)

smaller_push : (n : ℕ) (ss : List (Op × Expr)) (s : Op × Expr) → AreSmaller n ss → nodes_of s.1 < n → AreSmaller n (ss ++ s ∷ [])
smaller_push n [] s h k = (k, tt)
smaller_push n (t ∷ ss) s h k = (h.0, smaller_push n ss s h.1 k)

smaller_split : (n : ℕ) (ss : List (Op × Expr)) (s : Op × Expr) → AreSmaller n (ss ++ s ∷ []) → AreSmaller n ss × (nodes_of s.1 < n)
smaller_split n [] s h = (tt, h.0)
smaller_split n (t ∷ ss) s h = let rest = smaller_split n ss s h.1 in ((h.0, rest.0), rest.1)

-- ---- down

-- the sides are those behind a part of an expression
pub record IsDown (e : Expr) (ss : List (Op × Bor Expr)) (at : Expr) : Type 0 where
  pub whole : wound (sides_of ss) at ≡ e
  pub small : nodes_of at ≤ nodes_of e
  pub sides : AreSmaller (nodes_of e) (sides_of ss)

pub goes_down : (e at l r left : Expr) (o : Op) (ss new : List (Op × Bor Expr)) (b : Bor Expr) → IsDown e ss at → at ≡ Two o l r → b.now ≡ r → left ≡ l → new ≡ ss ++ (o, b) ∷ [] → IsDown e new left
goes_down e at l r left o ss new b d is right at_left items =
    let told : sides_of new ≡ sides_of ss ++ (o, b.now) ∷ [] = ap sides_of items ∙ sides_push ss (o, b) in
    let count = ap nodes_of is ∙ nodes_two o l r in
    let low = ap nodes_of at_left in
    let high = ap nodes_of right in
    record {
      whole = ap (λ (xs : List (Op × Expr)). wound xs left) told ∙ wound_push (sides_of ss) (o, b.now) left
          ∙ ap (λ (x : Expr). wound (sides_of ss) (Two o x b.now)) at_left ∙ ap (λ (x : Expr). wound (sides_of ss) (Two o l x)) right ∙ ap (wound (sides_of ss)) (sym is) ∙ d.whole;
      small = omega (arith, count, low, d.small);
      sides = subst (AreSmaller (nodes_of e)) (sym told) (smaller_push (nodes_of e) (sides_of ss) (o, b.now) d.sides (omega (arith, count, high, d.small)));
    }

-- ---- up

-- the sides are those behind a part of an expression, of which Q holds: it was walked over
abbrev pub IsUp : Expr → List (Op × Bor Expr) → (Expr → Type 0) → Type 0
IsUp e ss Q = (x : Expr) × (wound (sides_of ss) x ≡ e) × Q x × AreSmaller (nodes_of e) (sides_of ss)

-- at the end the whole was
pub walked : (e : Expr) (Q : Expr → Type 0) → IsUp e [] Q → Q e
walked e Q up = subst Q up.1 up.2

-- the side that is taken is smaller than the whole
pub side_is_smaller : (e : Expr) (ss new : List (Op × Bor Expr)) (o : Op) (b : Bor Expr) (Q : Expr → Type 0) → IsUp e ss Q → ss ≡ new ++ (o, b) ∷ [] → nodes_of b.now < nodes_of e
side_is_smaller e ss new o b Q up items = (smaller_split (nodes_of e) (sides_of new) (o, b.now) (subst (AreSmaller (nodes_of e)) (ap sides_of items ∙ sides_push new (o, b)) up.3)).1

pub goes_up : (e : Expr) (ss new : List (Op × Bor Expr)) (o : Op) (b : Bor Expr) (Q R : Expr → Type 0) → IsUp e ss Q → ss ≡ new ++ (o, b) ∷ [] → ((x : Expr) → Q x → R (Two o x b.now)) → IsUp e new R
goes_up e ss new o b Q R up items f =
    let told : sides_of ss ≡ sides_of new ++ (o, b.now) ∷ [] = ap sides_of items ∙ sides_push new (o, b) in
    (Two o up.0 b.now, sym (wound_push (sides_of new) (o, b.now) up.0) ∙ ap (λ (xs : List (Op × Expr)). wound xs up.0) (sym told) ∙ up.1, f up.0 up.2, (smaller_split (nodes_of e) (sides_of new) (o, b.now) (subst (AreSmaller (nodes_of e)) told up.3)).0)
