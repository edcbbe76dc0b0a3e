-- Which nodes of expressions and codes are named in a layout, and what is named in a larger one or in a filled frame.
use Rattle.std.proofs.Common.{◌≡◌, ℕ, ◌<◌, ◌≤◌, Bool, true, false, ◌&&◌, List, ◌∷◌, ◌++◌, sym, subst, ◌∙◌, if◌then◌else◌, ℤ, arith}
use Rattle.std.specs.Prelude.{nat_eq}
use Rattle.std.specs.List.{list_all}
use Rattle.std.proofs.lemmas.Bool.{lt-ltb, ltb-true}
use Rattle.std.proofs.lemmas.List.Folds.{list_all-map, list_all-append}
use Rattle.fin_base.specs.declared.terms.Op.{Op}
use Rattle.fin_ir.specs.declared.expression.IExpr.{IExpr, ind-IExpr, map-IExpr, roll-IExpr, fold-roll-IExpr}
use Rattle.fin_ir.specs.declared.expression.IExpr.TheOpen.{IExpr-F}
use Rattle.fin_ir.specs.declared.expression.IExpr.TheVariants.{Num, Local, Two}
use Rattle.fin_ir.specs.declared.code.Code.{Code, map-Code, roll-Code, fold-roll-Code}
use Rattle.fin_ir.specs.declared.code.Code.TheOpen.{Code-F}
use Rattle.fin_ir.specs.declared.code.Code.TheVariants.{Skip, Seq, Assign, When, StepLoop, ForLoop}
use Rattle.fin_ir.specs.declared.layout.Layout.{Layout}
use Rattle.fin_ir.specs.Named.{has_local, has_tensor, expression_step, is_named_in, code_step, is_named}
use Rattle.fin_ir.proofs.Nodes.{of_num, of_local, of_two, of_skip, of_seq, of_assign, of_when, of_step_loop, of_for_loop}
use Rattle.fin_looplet.specs.Moved.{put_step, put}
use Rattle.fin_descend.specs.Naming.{HasLocal, NamedIn}
use Rattle.fin_descend.proofs.Sparing.{and_both, left, right}

-- ---- induction over expressions

module _ (P : IExpr → Type 0) where
  abbrev pub Known : Type 0
  Known = (x : IExpr) × P x

  abbrev pub inside : IExpr-F Known → IExpr-F IExpr
  inside y = map-IExpr Known IExpr (λ k. k.0) y

  pub by_kinds : ((y : IExpr-F Known) → P (roll-IExpr (inside y))) → (x : IExpr) → P x
  by_kinds f = ind-IExpr P (λ z y is. subst (λ (u : IExpr-F IExpr). P (roll-IExpr u)) is (f y))

-- of three tests, each after the others
all_three : (a b c : Bool) → a ≡ true → b ≡ true → c ≡ true → (a && b && c) ≡ true
all_three a b c e f g = and_both (a && b) c (and_both a b e f) g

all_four : (a b c d : Bool) → a ≡ true → b ≡ true → c ≡ true → d ≡ true → (a && b && c && d) ≡ true
all_four a b c d e f g h = and_both (a && b && c) d (all_three a b c e f g) h

-- ---- one node

module _ (layout : Layout) where
  pub local_below : (x : ℕ) → x < layout.locals → HasLocal layout x
  local_below x lt = lt-ltb x layout.locals lt

  pub local_before : (x y : ℕ) → x ≤ y → HasLocal layout y → HasLocal layout x
  local_before x y le has = let lt = ltb-true y layout.locals has in local_below x (omega (arith, lt, le))

  pub expression_node : (u : IExpr-F IExpr) → is_named_in layout (roll-IExpr u) ≡ expression_step layout (map-IExpr IExpr Bool (is_named_in layout) u)
  expression_node u = fold-roll-IExpr Bool (expression_step layout) u

  pub code_node : (u : Code-F Code) → is_named layout (roll-Code u) ≡ code_step layout (map-Code Code Bool (is_named layout) u)
  code_node u = fold-roll-Code Bool (code_step layout) u

  pub named_num : (n : ℤ) → NamedIn layout (Num n)
  named_num n = of_num Bool (expression_step layout) n

  pub named_local : (x : ℕ) → HasLocal layout x → NamedIn layout (Local x)
  named_local x has = of_local Bool (expression_step layout) x ∙ has

  pub named_two : (op : Op) (a b : IExpr) → NamedIn layout a → NamedIn layout b → NamedIn layout (Two op a b)
  named_two op a b h k = of_two Bool (expression_step layout) op a b ∙ and_both (is_named_in layout a) (is_named_in layout b) h k

  abbrev pub AreNamed : List Code → Type 0
  AreNamed cs = list_all (is_named layout) cs ≡ true

  pub named_skip : is_named layout Skip ≡ true
  named_skip = of_skip Bool (code_step layout)

  pub named_seq : (cs : List Code) → AreNamed cs → is_named layout (Seq cs) ≡ true
  named_seq cs h = of_seq Bool (code_step layout) cs ∙ list_all-map (λ (b : Bool). b) (is_named layout) cs ∙ h

  pub named_assign : (x : ℕ) (e : IExpr) → HasLocal layout x → NamedIn layout e → is_named layout (Assign x e) ≡ true
  named_assign x e has h = of_assign Bool (code_step layout) x e ∙ and_both (has_local layout x) (is_named_in layout e) has h

  pub named_when : (test : IExpr) (c : Code) → NamedIn layout test → is_named layout c ≡ true → is_named layout (When test c) ≡ true
  named_when test c h k = of_when Bool (code_step layout) test c ∙ and_both (is_named_in layout test) (is_named layout c) h k

  pub named_for : (x : ℕ) (lo hi : IExpr) (c : Code) → HasLocal layout x → NamedIn layout lo → NamedIn layout hi → is_named layout c ≡ true → is_named layout (ForLoop x lo hi c) ≡ true
  named_for x lo hi c has h k i =
      of_for_loop Bool (code_step layout) x lo hi c ∙ all_four (has_local layout x) (is_named_in layout lo) (is_named_in layout hi) (is_named layout c) has h k i

  pub named_steps : (x y : ℕ) (lo hi stop : IExpr) (c : Code) → HasLocal layout x → HasLocal layout y → NamedIn layout lo → NamedIn layout hi → NamedIn layout stop
      → is_named layout c ≡ true → is_named layout (StepLoop x y lo hi stop c) ≡ true
  named_steps x y lo hi stop c has have h k i j =
      of_step_loop Bool (code_step layout) x y lo hi stop c
      ∙ and_both _ (is_named layout c)
      (and_both (has_local layout x && has_local layout y && is_named_in layout lo && is_named_in layout hi) (is_named_in layout stop)
      (all_four (has_local layout x) (has_local layout y) (is_named_in layout lo) (is_named_in layout hi) has have h k) i) j

  pub more_named : (c : Code) (cs : List Code) → is_named layout c ≡ true → AreNamed cs → AreNamed (c ∷ cs)
  more_named c cs h k = and_both (is_named layout c) (list_all (is_named layout) cs) h k

  pub append_named : (cs ds : List Code) → AreNamed cs → AreNamed ds → AreNamed (cs ++ ds)
  append_named cs ds h k = list_all-append (is_named layout) cs ds ∙ and_both (list_all (is_named layout) cs) (list_all (is_named layout) ds) h k

-- ---- an expression for a local in another one

module _ (layout : Layout) (x : ℕ) (other : IExpr) (there : NamedIn layout other) where
  abbrev PutNamed : IExpr → Type 0
  PutNamed e = NamedIn layout e → NamedIn layout (put x other e)

  abbrev named : IExpr → Bool
  named = is_named_in layout

  local_put : (b : Bool) (y : ℕ) → HasLocal layout y → NamedIn layout (if b then other else Local y)
  local_put true y has = there
  local_put false y has = named_local layout y has

  two_put : (a b : Known PutNamed) → (named a.0 && named b.0) ≡ true → (named (put x other a.0) && named (put x other b.0)) ≡ true
  two_put a b e = and_both (named (put x other a.0)) (named (put x other b.0)) (a.1 (left (named a.0) (named b.0) e)) (b.1 (right (named a.0) (named b.0) e))

  three_put : (a b c : Known PutNamed) → (named a.0 && named b.0 && named c.0) ≡ true → (named (put x other a.0) && named (put x other b.0) && named (put x other c.0)) ≡ true
  three_put a b c e =
      and_both (named (put x other a.0) && named (put x other b.0)) (named (put x other c.0)) (two_put a b (left (named a.0 && named b.0) (named c.0) e))
      (c.1 (right (named a.0 && named b.0) (named c.0) e))

  tensor_put : (t : ℕ) (a : Known PutNamed) → (has_tensor layout t && named a.0) ≡ true → (has_tensor layout t && named (put x other a.0)) ≡ true
  tensor_put t a e = and_both (has_tensor layout t) (named (put x other a.0)) (left (has_tensor layout t) (named a.0) e) (a.1 (right (has_tensor layout t) (named a.0) e))

  seek_put : (t : ℕ) (a b c : Known PutNamed) → (has_tensor layout t && named a.0 && named b.0 && named c.0) ≡ true
      → (has_tensor layout t && named (put x other a.0) && named (put x other b.0) && named (put x other c.0)) ≡ true
  seek_put t a b c e =
      let most = left (has_tensor layout t && named a.0 && named b.0) (named c.0) e in
      let some = left (has_tensor layout t && named a.0) (named b.0) most in
      and_both (has_tensor layout t && named (put x other a.0) && named (put x other b.0)) (named (put x other c.0))
      (and_both (has_tensor layout t && named (put x other a.0)) (named (put x other b.0)) (tensor_put t a some) (b.1 (right (has_tensor layout t && named a.0) (named b.0) most)))
      (c.1 (right (has_tensor layout t && named a.0 && named b.0) (named c.0) e))

  put_node : (y : IExpr-F (Known PutNamed)) → expression_step layout (map-IExpr IExpr Bool named (inside PutNamed y)) ≡ true
      → NamedIn layout (put_step x other (map-IExpr IExpr IExpr (put x other) (inside PutNamed y)))
  put_node (IExpr-F.Num n) e = expression_node layout (IExpr-F.Num n)
  put_node (IExpr-F.Local y) e = local_put (nat_eq y x) y e
  put_node (IExpr-F.Neg a) e = expression_node layout (IExpr-F.Neg (put x other a.0)) ∙ a.1 e
  put_node (IExpr-F.Two op a b) e = expression_node layout (IExpr-F.Two op (put x other a.0) (put x other b.0)) ∙ two_put a b e
  put_node (IExpr-F.Pick a b c) e = expression_node layout (IExpr-F.Pick (put x other a.0) (put x other b.0) (put x other c.0)) ∙ three_put a b c e
  put_node (IExpr-F.Times by a b) e = expression_node layout (IExpr-F.Times by (put x other a.0) (put x other b.0)) ∙ two_put a b e
  put_node (IExpr-F.Cell tensor level table a) e = expression_node layout (IExpr-F.Cell tensor level table (put x other a.0)) ∙ tensor_put tensor a e
  put_node (IExpr-F.Seek tensor level a b c) e =
      expression_node layout (IExpr-F.Seek tensor level (put x other a.0) (put x other b.0) (put x other c.0)) ∙ seek_put tensor a b c e
  put_node (IExpr-F.Val tensor a) e = expression_node layout (IExpr-F.Val tensor (put x other a.0)) ∙ tensor_put tensor a e

  pub put_named : (e : IExpr) → PutNamed e
  put_named = by_kinds PutNamed (λ y e.
      subst (NamedIn layout) (sym (fold-roll-IExpr IExpr (put_step x other) (inside PutNamed y))) (put_node y (sym (expression_node layout (inside PutNamed y)) ∙ e)))
