-- The locals and the tensors that an expression depends on.
use Rattle.std.specs.Prelude.{◌≡◌, ℕ, ◌⊎◌, Bool, true, false, ◌||◌, nat_eq}
use Rattle.fin_ir.specs.declared.expression.IExpr.{IExpr, fold-IExpr}
use Rattle.fin_ir.specs.declared.expression.IExpr.TheOpen.{IExpr-F}
use Rattle.fin_looplet.specs.declared.looplet.Leaf.{Leaf}
use Rattle.fin_looplet.specs.declared.looplet.Leaf.TheVariants.{Fill, Value, Sub}

abbrev pub names_step : IExpr-F (ℕ → Bool) → ℕ → Bool
names_step (IExpr-F.Num n) x = false
names_step (IExpr-F.Local local) x = nat_eq x local
names_step (IExpr-F.Neg inner) x = inner x
names_step (IExpr-F.Two op left right) x = left x || right x
names_step (IExpr-F.Pick test yes' no') x = test x || (yes' x || no' x)
names_step (IExpr-F.Times by value count) x = value x || count x
names_step (IExpr-F.Cell tensor level table at) x = at x
names_step (IExpr-F.Seek tensor level from to key) x = from x || (to x || key x)
names_step (IExpr-F.Val tensor position) x = position x

abbrev pub names : IExpr → ℕ → Bool
names = fold-IExpr (ℕ → Bool) names_step

-- the local x stands in the expression
abbrev pub Names : ℕ → IExpr → Type 0
Names x e = names e x ≡ true

abbrev pub loads_step : IExpr-F (ℕ → Bool) → ℕ → Bool
loads_step (IExpr-F.Num n) t = false
loads_step (IExpr-F.Local local) t = false
loads_step (IExpr-F.Neg inner) t = inner t
loads_step (IExpr-F.Two op left right) t = left t || right t
loads_step (IExpr-F.Pick test yes' no') t = test t || (yes' t || no' t)
loads_step (IExpr-F.Times by value count) t = value t || count t
loads_step (IExpr-F.Cell tensor level table at) t = nat_eq t tensor || at t
loads_step (IExpr-F.Seek tensor level from to key) t = nat_eq t tensor || (from t || (to t || key t))
loads_step (IExpr-F.Val tensor position) t = nat_eq t tensor || position t

abbrev pub loads : IExpr → ℕ → Bool
loads = fold-IExpr (ℕ → Bool) loads_step

-- the expression loads from the tensor t
abbrev pub Loads : ℕ → IExpr → Type 0
Loads t e = loads e t ≡ true

-- ---- leaves

abbrev pub LeafNames : ℕ → Leaf → Type 0
LeafNames x (Fill f) = ⊥
LeafNames x (Value e) = Names x e
LeafNames x (Sub tensor level place there) = Names x place ⊎ Names x there

abbrev pub LeafLoads : ℕ → Leaf → Type 0
LeafLoads t (Fill f) = ⊥
LeafLoads t (Value e) = Loads t e
LeafLoads t (Sub tensor level place there) = Loads t place ⊎ Loads t there
