-- The least and the greatest of several stops.
use Rattle.std.proofs.Common.{◌≡◌, ℕ, ◌+◌, ◌≤◌, ◌<◌, ◌⊎◌, inl, inr, ⊎_elim, List, [], ◌∷◌, refl, ap, ◌∙◌, ℤ, arith}
use Rattle.std.specs.Int.{int_min, int_max}
use Rattle.std.proofs.lemmas.Bool.{cases_lt}
use Rattle.std.proofs.lemmas.Int.{int_min_is, int_max_is}
use borrow.Author.Differences.{up, down, same_in}
use Rattle.fin_base.specs.declared.terms.Op.TheVariants as op
use Rattle.fin_ir.specs.declared.expression.IExpr.{IExpr}
use Rattle.fin_ir.specs.declared.expression.IExpr.TheVariants.{Two}
use Rattle.fin_ir.proofs.Values.{value_two}
use Rattle.fin_looplet.specs.declared.looplet.Walker.{Walker}
use Rattle.fin_looplet.specs.Names.{Loads}
use Rattle.fin_looplet.specs.View.{Store, value}
use Rattle.fin_looplet.proofs.Exprs.{loads_two}
use Rattle.fin_style_step.specs.Steps.{Among, least, greatest}

abbrev pub at_most : ℤ → ℤ → Type 0
at_most a b = up a + down b ≤ up b + down a

module _ (ts : Store) (now : List ℤ) where
  abbrev stop_now : Walker → ℤ
  stop_now w = value ts now w.stop

  -- of two stops
  lower_is : (a b : IExpr) → value ts now (Two op.Min a b) ≡ int_min (value ts now a) (value ts now b)
  lower_is a b = value_two ts now op.Min a b

  upper_is : (a b : IExpr) → value ts now (Two op.Max a b) ≡ int_max (value ts now a) (value ts now b)
  upper_is a b = value_two ts now op.Max a b

  lower_left : (a b : IExpr) → at_most (value ts now (Two op.Min a b)) (value ts now a)
  lower_left a b = let m = lower_is a b in let u = ap up m in let d = ap down m in omega (arith, u, d, int_min_is (value ts now a) (value ts now b))

  lower_right : (a b : IExpr) → at_most (value ts now (Two op.Min a b)) (value ts now b)
  lower_right a b = let m = lower_is a b in let u = ap up m in let d = ap down m in omega (arith, u, d, int_min_is (value ts now a) (value ts now b))

  lower_over : (e : ℤ) (a b : IExpr) → at_most e (value ts now a) → at_most e (value ts now b) → at_most e (value ts now (Two op.Min a b))
  lower_over e a b x y = let m = lower_is a b in let u = ap up m in let d = ap down m in omega (arith, u, d, x, y, int_min_is (value ts now a) (value ts now b))

  lower_either : (a b : IExpr) → (value ts now (Two op.Min a b) ≡ value ts now a) ⊎ (value ts now (Two op.Min a b) ≡ value ts now b)
  lower_either a b =
      let m = lower_is a b in
      let is = int_min_is (value ts now a) (value ts now b) in
      ⊎_elim
      (λ (lt : up (value ts now b) + down (value ts now a) < up (value ts now a) + down (value ts now b)). inr (m ∙ same_in _ _ (omega (arith, lt, is))))
      (λ le. inl (m ∙ same_in _ _ (omega (arith, le, is))))
      (cases_lt (up (value ts now b) + down (value ts now a)) (up (value ts now a) + down (value ts now b)))

  upper_left : (a b : IExpr) → at_most (value ts now a) (value ts now (Two op.Max a b))
  upper_left a b = let m = upper_is a b in let u = ap up m in let d = ap down m in omega (arith, u, d, int_max_is (value ts now a) (value ts now b))

  upper_right : (a b : IExpr) → at_most (value ts now b) (value ts now (Two op.Max a b))
  upper_right a b = let m = upper_is a b in let u = ap up m in let d = ap down m in omega (arith, u, d, int_max_is (value ts now a) (value ts now b))

  upper_either : (a b : IExpr) → (value ts now (Two op.Max a b) ≡ value ts now a) ⊎ (value ts now (Two op.Max a b) ≡ value ts now b)
  upper_either a b =
      let m = upper_is a b in
      let is = int_max_is (value ts now a) (value ts now b) in
      ⊎_elim
      (λ (lt : up (value ts now a) + down (value ts now b) < up (value ts now b) + down (value ts now a)). inr (m ∙ same_in _ _ (omega (arith, lt, is))))
      (λ le. inl (m ∙ same_in _ _ (omega (arith, le, is))))
      (cases_lt (up (value ts now a) + down (value ts now b)) (up (value ts now b) + down (value ts now a)))

  -- ---- the least one

  least_end : (hi : IExpr) (ws : List Walker) → at_most (value ts now (least ws hi)) (value ts now hi)
  least_end hi [] = omega arith
  least_end hi (v ∷ rest) = omega (arith, least_end (Two op.Min v.stop hi) rest, lower_right v.stop hi)

  pub least_under : (hi : IExpr) (ws : List Walker) (w : Walker) → Among w ws → at_most (value ts now (least ws hi)) (value ts now w.stop)
  least_under hi [] w a = absurd a
  least_under hi (v ∷ rest) w (inl e) =
      let s = ap stop_now e in let su = ap up s in let sd = ap down s in
      omega (arith, su, sd, least_end (Two op.Min v.stop hi) rest, lower_left v.stop hi)
  least_under hi (v ∷ rest) w (inr a) = least_under (Two op.Min v.stop hi) rest w a

  -- it is the end, or a stop
  pub least_is : (hi : IExpr) (ws : List Walker) → (value ts now (least ws hi) ≡ value ts now hi) ⊎ ((w : Walker) × (Among w ws × (value ts now (least ws hi) ≡ value ts now w.stop)))
  least_is hi [] = inl refl
  least_is hi (v ∷ rest) = ⊎_elim
      (λ e. ⊎_elim (λ s. inr (v, (inl refl, e ∙ s))) (λ s. inl (e ∙ s)) (lower_either v.stop hi))
      (λ r. inr (r.0, (inr r.1.0, r.1.1)))
      (least_is (Two op.Min v.stop hi) rest)

  -- and over what each stop and the end is over
  pub least_over : (hi : IExpr) (e : ℤ) (ws : List Walker) → ((w : Walker) → Among w ws → at_most e (value ts now w.stop)) → at_most e (value ts now hi) → at_most e (value ts now (least ws hi))
  least_over hi e [] h k = k
  least_over hi e (v ∷ rest) h k = least_over (Two op.Min v.stop hi) e rest (λ w a. h w (inr a)) (lower_over e v.stop hi (h v (inl refl)) k)

  -- ---- the greatest one

  greatest_from : (from : IExpr) (ws : List Walker) → at_most (value ts now from) (value ts now (greatest ws from))
  greatest_from from [] = omega arith
  greatest_from from (v ∷ rest) = omega (arith, greatest_from (Two op.Max v.stop from) rest, upper_right v.stop from)

  pub greatest_over : (from : IExpr) (ws : List Walker) (w : Walker) → Among w ws → at_most (value ts now w.stop) (value ts now (greatest ws from))
  greatest_over from [] w a = absurd a
  greatest_over from (v ∷ rest) w (inl e) =
      let s = ap stop_now e in let su = ap up s in let sd = ap down s in
      omega (arith, su, sd, greatest_from (Two op.Max v.stop from) rest, upper_left v.stop from)
  greatest_over from (v ∷ rest) w (inr a) = greatest_over (Two op.Max v.stop from) rest w a

  -- it is what it is taken from, or a stop
  pub greatest_is : (from : IExpr) (ws : List Walker) → (value ts now (greatest ws from) ≡ value ts now from) ⊎ ((w : Walker) × (Among w ws × (value ts now (greatest ws from) ≡ value ts now w.stop)))
  greatest_is from [] = inl refl
  greatest_is from (v ∷ rest) = ⊎_elim
      (λ e. ⊎_elim (λ s. inr (v, (inl refl, e ∙ s))) (λ s. inl (e ∙ s)) (upper_either v.stop from))
      (λ r. inr (r.0, (inr r.1.0, r.1.1)))
      (greatest_is (Two op.Max v.stop from) rest)

-- ---- what they load

pub least_loads : (t : ℕ) (ws : List Walker) (hi : IExpr) → Loads t (least ws hi) → ((w : Walker) × (Among w ws × Loads t w.stop)) ⊎ Loads t hi
least_loads t [] hi l = inr l
least_loads t (v ∷ rest) hi l = ⊎_elim
    (λ a. inl (a.0, (inr a.1.0, a.1.1)))
    (λ r. ⊎_elim (λ s. inl (v, (inl refl, s))) (λ b. inr b) (loads_two t op.Min v.stop hi r))
    (least_loads t rest (Two op.Min v.stop hi) l)

pub greatest_loads : (t : ℕ) (ws : List Walker) (from : IExpr) → Loads t (greatest ws from) → ((w : Walker) × (Among w ws × Loads t w.stop)) ⊎ Loads t from
greatest_loads t [] from l = inr l
greatest_loads t (v ∷ rest) from l = ⊎_elim
    (λ a. inl (a.0, (inr a.1.0, a.1.1)))
    (λ r. ⊎_elim (λ s. inl (v, (inl refl, s))) (λ b. inr b) (loads_two t op.Max v.stop from r))
    (greatest_loads t rest (Two op.Max v.stop from) l)
