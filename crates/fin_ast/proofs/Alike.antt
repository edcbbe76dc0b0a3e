-- What two evaluations have in common part by part, they have in common as wholes.
use Rattle.std.proofs.Common.{◌≡◌, ℕ, zero, suc, ◌+◌, ◌-◌, ◌≤◌, ◌<◌, arith, ℤ, pos, Bool, true, false, ◌||◌, List, [], ◌∷◌, if◌then◌else◌, refl, ap, ◌∙◌, subst}
use Rattle.std.specs.Prelude.{slice_set}
use Rattle.std.specs.Ordering.{int_eq}
use Rattle.fin_ast.specs.declared.tree.Expr.{Expr}
use Rattle.fin_ast.specs.declared.tree.Stmt.{Stmt, map-Stmt, fold-roll-Stmt}
use Rattle.fin_ast.specs.declared.tree.Stmt.TheOpen.{Stmt-F}
use Rattle.fin_ast.specs.Value.{Numbers, number}
use Rattle.fin_ast.specs.Actions.{Action, Leaf, Declare, Freeze, Thaw, Update, Parts, braced, repeated, where_holds, act_step, act, act_all}
use Rattle.fin_ast.proofs.Induction.{AllOf, Held, bare, plain, all_of, each, by_nodes, by_three}
use Rattle.fin_ast.proofs.Leaves.{part_step, has_part, have_part, neither, leaf_step, has_leaf, have_leaf}

-- the numbers that are bound
abbrev pub Numbered : (ℤ → Type 0) → Numbers → Type 0
Numbered N vars = (x : ℕ) → N (number vars x)

numbered_set : (N : ℤ → Type 0) (vars : Numbers) (var : ℕ) (z : ℤ) → Numbered N vars → N z → Numbered N (slice_set vars var z)
numbered_set N [] var z h k x = h x
numbered_set N (v ∷ vars) zero z h k zero = k
numbered_set N (v ∷ vars) zero z h k (suc x) = h (suc x)
numbered_set N (v ∷ vars) (suc var) z h k zero = h zero
numbered_set N (v ∷ vars) (suc var) z h k (suc x) = numbered_set N vars var z (λ y. h (suc y)) k x

-- R is of what the one does, and of what the other does, where N is of each bound number; odd tests and lets, and leaves that
-- are such, needn't be alike
pub record AreAlike {S T : Type 0} (p : Parts S) (q : Parts T) (odd : Expr → Bool) (such : Leaf → Bool) (N : ℤ → Type 0) (R : (S → S) → (T → T) → Type 0) : Type 0 where
  pub range : (var : ℕ) → p.range var ≡ q.range var
  pub numbers : (var n : ℕ) → (p.range var).0 ≤ n → n < (p.range var).1 → N (pos n)
  pub still : R (λ s. s) (λ t. t)
  pub joined : (f f' : S → S) (g g' : T → T) → R f g → R f' g' → R (λ s. f' (f s)) (λ t. g' (g t))
  pub value : (e : Expr) (vars : Numbers) (f : ℤ → S → S) (g : ℤ → T → T) → odd e ≡ false → Numbered N vars → ((v : ℤ) → N v → R (f v) (g v)) → R (p.value e vars f) (q.value e vars g)
  pub entry : (var : ℕ) (vars : Numbers) → R (p.entry var vars) (q.entry var vars)
  pub turn : (var : ℕ) (vars : Numbers) (n : ℕ) (f : S → S) (g : T → T) → R f g → R (p.turn var vars n f) (q.turn var vars n g)
  pub brace : (f : S → S) (g : T → T) → R f g → R (λ s. p.brace s (f s)) (λ t. q.brace t (g t))
  pub leaf : (l : Leaf) (vars : Numbers) → such l ≡ false → Numbered N vars → R (p.leaf l vars) (q.leaf l vars)

neither_of : (a b : Bool) → (a || b) ≡ false → (a ≡ false) × (b ≡ false)
neither_of true b e = cc
neither_of false b e = (refl, e)

module _ {S T : Type 0} (p : Parts S) (q : Parts T) (odd : Expr → Bool) (such : Leaf → Bool) (N : ℤ → Type 0) (R : (S → S) → (T → T) → Type 0) (like : AreAlike p q odd such N R) where
  abbrev Alike : Action S → Action T → Type 0
  Alike a b = (vars : Numbers) → Numbered N vars → R (a vars) (b vars)

  braced_alike : (a : Action S) (b : Action T) → Alike a b → Alike (braced p.brace a) (braced q.brace b)
  braced_alike a b h vars k = like.brace (a vars) (b vars) (h vars k)

  repeated_alike : (n lo var : ℕ) (a : Action S) (b : Action T) → ((i : ℕ) → lo ≤ i → i < lo + n → N (pos i)) → Alike a b → Alike (repeated p.turn n lo var a) (repeated q.turn n lo var b)
  repeated_alike zero lo var a b m h vars k = like.still
  repeated_alike (suc n) lo var a b m h vars k =
      let inner : Numbers = slice_set vars var (pos lo) in
      like.joined (p.turn var vars lo (a inner)) (repeated p.turn n (lo + 1) var a vars) (q.turn var vars lo (b inner)) (repeated q.turn n (lo + 1) var b vars)
      (like.turn var vars lo (a inner) (b inner) (h inner (numbered_set N vars var (pos lo) k (m lo (omega arith) (omega arith))))) (repeated_alike n (lo + 1) var a b (λ i x y. m i (omega (arith, x)) (omega (arith, y))) h vars k)

  holds_alike : (a : Action S) (b : Action T) (vars : Numbers) (v : ℤ) → R (a vars) (b vars) → R (where_holds a vars v) (where_holds b vars v)
  holds_alike a b vars v h = elim (int_eq v (pos 0)) as (λ z. R (λ s. if z then s else a vars s) (λ t. if z then t else b vars t)) [ true ↦ like.still | false ↦ h ]

  abbrev AlikeBy : Bool → Action S → Action T → Type 0
  AlikeBy e a b = e ≡ false → Alike a b

  abbrev Likes : Stmt → Type 0
  Likes x = AlikeBy (has_part odd such x) (act p x) (act q x)

  all_alike : (xs : List Stmt) → AllOf Likes xs → AlikeBy (have_part odd such xs) (act_all p xs) (act_all q xs)
  all_alike [] all e vars k = like.still
  all_alike (x ∷ xs) all e vars k =
      let two = neither_of (has_part odd such x) (have_part odd such xs) e in
      like.joined (act p x vars) (act_all p xs vars) (act q x vars) (act_all q xs vars) (all.0 two.0 vars k) (all_alike xs all.1 two.1 vars k)

  body_alike : (xs : List (Held Likes)) → AlikeBy (have_part odd such (bare Likes xs)) (braced p.brace (act_all p (bare Likes xs))) (braced q.brace (act_all q (bare Likes xs)))
  body_alike xs e = braced_alike (act_all p (bare Likes xs)) (act_all q (bare Likes xs)) (all_alike (bare Likes xs) (all_of Likes xs) e)

  within : (var i : ℕ) → (p.range var).0 ≤ i → i < (p.range var).0 + ((p.range var).1 - (p.range var).0) → N (pos i)
  within var i low high = like.numbers var i low (omega (arith, low, high))

  step : (y : Stmt-F (Held Likes)) → (let u = plain Likes y in AlikeBy (part_step odd such (map-Stmt Stmt Bool (has_part odd such) u)) (act_step p (map-Stmt Stmt (Action S) (act p) u)) (act_step q (map-Stmt Stmt (Action T) (act q) u)))
  step (Stmt-F.Block body line last) e vars k = body_alike body e vars k
  step (Stmt-F.Loop var range par body line last) e vars k =
      let a : Action S = braced p.brace (act_all p (bare Likes body)) in
      let b : Action T = braced q.brace (act_all q (bare Likes body)) in
      let n : ℕ × ℕ = p.range var in
      subst (λ (m : ℕ × ℕ). R (λ s. repeated p.turn (n.1 - n.0) n.0 var a vars (p.entry var vars s)) (λ t. repeated q.turn (m.1 - m.0) m.0 var b vars (q.entry var vars t))) (like.range var)
      (like.joined (p.entry var vars) (repeated p.turn (n.1 - n.0) n.0 var a vars) (q.entry var vars) (repeated q.turn (n.1 - n.0) n.0 var b vars) (like.entry var vars) (repeated_alike (n.1 - n.0) n.0 var a b (within var) (body_alike body e) vars k))
  step (Stmt-F.Cond test body line last) e vars k =
      let two = neither_of (odd test) (have_part odd such (bare Likes body)) e in
      like.value test vars _ _ two.0 k (λ v m. holds_alike (braced p.brace (act_all p (bare Likes body))) (braced q.brace (act_all q (bare Likes body))) vars v (body_alike body two.1 vars k))
  step (Stmt-F.Bind var value body line last) e vars k =
      let two = neither_of (odd value) (have_part odd such (bare Likes body)) e in
      like.value value vars _ _ two.0 k (λ v m. body_alike body two.1 (slice_set vars var v) (numbered_set N vars var v k m))
  step (Stmt-F.Declare tensor value line) e vars k = like.leaf (Declare tensor) vars e k
  step (Stmt-F.Freeze tensor line) e vars k = like.leaf (Freeze tensor) vars e k
  step (Stmt-F.Thaw tensor line) e vars k = like.leaf (Thaw tensor) vars e k
  step (Stmt-F.Update tensor at by value line) e vars k = like.leaf (Update tensor at by value) vars e k

  pub act_alike : (x : Stmt) → has_part odd such x ≡ false → (vars : Numbers) → Numbered N vars → R (act p x vars) (act q x vars)
  act_alike = by_three (part_step odd such) (act_step p) (act_step q) AlikeBy step

  pub act_all_alike : (body : List Stmt) → have_part odd such body ≡ false → (vars : Numbers) → Numbered N vars → R (act_all p body vars) (act_all q body vars)
  act_all_alike body = all_alike body (each Likes act_alike body)

-- ---- of all leaves, and of one evaluation alone

abbrev pub none : Leaf → Bool
none l = false

abbrev HasNone : Stmt → Type 0
HasNone x = has_leaf none x ≡ false

all_none : (xs : List Stmt) → AllOf HasNone xs → have_leaf none xs ≡ false
all_none [] all = refl
all_none (x ∷ xs) all = ap (λ (b : Bool). b || have_leaf none xs) all.0 ∙ all_none xs all.1

no_leaf : (x : Stmt) → HasNone x
no_leaf = by_nodes HasNone (λ y. fold-roll-Stmt Bool (leaf_step none) (plain HasNone y) ∙ step y) where
  step : (y : Stmt-F (Held HasNone)) → leaf_step none (map-Stmt Stmt Bool (has_leaf none) (plain HasNone y)) ≡ false
  step (Stmt-F.Block body line last) = all_none (bare HasNone body) (all_of HasNone body)
  step (Stmt-F.Loop var range par body line last) = all_none (bare HasNone body) (all_of HasNone body)
  step (Stmt-F.Cond test body line last) = all_none (bare HasNone body) (all_of HasNone body)
  step (Stmt-F.Bind var value body line last) = all_none (bare HasNone body) (all_of HasNone body)
  step _ = refl

pub no_leaf_in : (body : List Stmt) → have_leaf none body ≡ false
no_leaf_in body = all_none body (each HasNone no_leaf body)

-- it has no state, and does nothing
abbrev pub idle : (ℕ → ℕ × ℕ) → Parts (Unit {0})
idle range = record { range = range; value = λ e vars f s. s; entry = λ var vars s. s; turn = λ var vars n f s. s; brace = λ s t. s; leaf = λ l vars s. s }

-- of each number
abbrev pub Any : ℤ → Type 0
Any z = Unit {0}

-- P is of what an evaluation does, part by part
abbrev pub AreAll : {S : Type 0} → Parts S → (Leaf → Bool) → ((S → S) → Type 0) → Type 0
AreAll p such P = AreAlike p (idle p.range) neither such Any (λ f g. P f)

module _ {S : Type 0} (p : Parts S) (P : (S → S) → Type 0) where
  pub act_has : (such : Leaf → Bool) → AreAll p such P → (x : Stmt) → has_leaf such x ≡ false → (vars : Numbers) → P (act p x vars)
  act_has such all x e vars = act_alike p (idle p.range) neither such Any (λ f g. P f) all x e vars (λ y. tt)

  pub act_is : AreAll p none P → (x : Stmt) (vars : Numbers) → P (act p x vars)
  act_is all x = act_has none all x (no_leaf x)

  pub act_all_is : AreAll p none P → (body : List Stmt) (vars : Numbers) → P (act_all p body vars)
  act_all_is all body vars = act_all_alike p (idle p.range) neither none Any (λ f g. P f) all body (no_leaf_in body) vars (λ y. tt)
