-- The values of the small expressions of an access. All numbers of a storage are at most 2^40, so no word of these wraps.
use Rattle.std.proofs.Common.{◌≡◌, ◌≢◌, ℕ, ◌<◌, ◌≤◌, ◌+◌, ◌-◌, ◌*◌, ◌^◌, Bool, true, false, List, refl, ap, ◌∙◌, ℤ, pos, negsuc, ◌-ℤ◌, w64, arith}
use Rattle.std.specs.Prelude.{slice_index_or, int_lt, nat_eq, if◌then◌else◌}
use Rattle.std.specs.Ordering.{int_eq}
use Rattle.std.proofs.lemmas.Bool.Decides.{nat_tests}
use Rattle.std.proofs.lemmas.Int.{ints, int_wrap_fits}
use Rattle.fin_base.specs.declared.terms.Op.TheVariants as op
use Rattle.fin_base.specs.Words.{IsWord, wrap, truth, operate}
use Rattle.fin_ir.specs.declared.expression.IExpr.{IExpr}
use Rattle.fin_ir.specs.declared.expression.IExpr.TheVariants as e
use Rattle.fin_ir.specs.Machine.{Tensor}
use Rattle.fin_ir.specs.Value.{is_off, value_of}
use Rattle.fin_ir.proofs.Values.{value_num, value_local, value_two, value_pick}
use Rattle.fin_read.specs.Reads.{none, where_placed}

-- ---- words

word_small : (n : ℕ) → n ≤ 2 ^ 40 → IsWord (pos n)
word_small n h = omega (arith, ints)

wrap_small : (n : ℕ) → n ≤ 2 ^ 40 → wrap (pos n) ≡ pos n
wrap_small n h = int_wrap_fits w64 (pos n) (word_small n h)

pub add_small : (a b : ℕ) → a + b ≤ 2 ^ 40 → operate op.Add (pos a) (pos b) ≡ pos (a + b)
add_small a b h = wrap_small (a + b) h

pub mul_small : (a b : ℕ) → a * b ≤ 2 ^ 40 → operate op.Mul (pos a) (pos b) ≡ pos (a * b)
mul_small a b h = wrap_small (a * b) h

word_apart : (a b : ℕ) → a ≤ 2 ^ 40 → b ≤ 2 ^ 40 → IsWord (pos a -ℤ pos b)
word_apart a b h k = omega (arith, ints)

sub_is : (a b : ℕ) → a ≤ 2 ^ 40 → b ≤ 2 ^ 40 → operate op.Sub (pos a) (pos b) ≡ pos a -ℤ pos b
sub_is a b h k = int_wrap_fits w64 (pos a -ℤ pos b) (word_apart a b h k)

pub sub_small : (a b : ℕ) → a ≤ 2 ^ 40 → b ≤ a → operate op.Sub (pos a) (pos b) ≡ pos (a - b)
sub_small a b h k = sub_is a b h (omega arith) ∙ (let e : pos a -ℤ pos b ≡ pos (a - b) = omega (arith, ints) in e)

pub sub_below : (a b : ℕ) → b ≤ 2 ^ 40 → a < b → operate op.Sub (pos a) (pos b) ≡ negsuc (b - a - 1)
sub_below a b h k = sub_is a b (omega arith) h ∙ (let e : pos a -ℤ pos b ≡ negsuc (b - a - 1) = omega (arith, ints) in e)

-- ---- tests

off_truth : (b : Bool) {A : Type 0} (x y : A) → (if is_off (truth b) then y else x) ≡ (if b then x else y)
off_truth true x y = refl
off_truth false x y = refl

pub eq_is : (a b : ℕ) → int_eq (pos a) (pos b) ≡ nat_eq a b
eq_is a b = elim (nat_eq a b) as (λ t. nat_eq a b ≡ t → int_eq (pos a) (pos b) ≡ t) [
  | true ↦ (λ h. let e : a ≡ b = grind (arith, nat_tests) in grind (arith, ints))
  | false ↦ (λ h. let e : a ≢ b = grind (arith, nat_tests) in grind (arith, ints))
] refl

lt_zero : (a : ℕ) → int_lt (pos a) (pos 0) ≡ false
lt_zero a = grind (arith, nat_tests)

-- ---- expressions

module _ (ts : ℕ → Tensor) (ls : List ℤ) where
  -- a choice by a comparison
  choice : (x y u v : IExpr) → value_of (e.Pick (e.Two op.Lt x y) u v) ts ls ≡ (if int_lt (value_of x ts ls) (value_of y ts ls) then value_of u ts ls else value_of v ts ls)
  choice x y u v =
      value_pick ts ls (e.Two op.Lt x y) u v
      ∙ ap (λ (z : ℤ). if is_off z then value_of v ts ls else value_of u ts ls) (value_two ts ls op.Lt x y)
      ∙ off_truth (int_lt (value_of x ts ls) (value_of y ts ls)) (value_of u ts ls) (value_of v ts ls)

  pub choice_equal : (x y u v : IExpr) → value_of (e.Pick (e.Two op.Eq x y) u v) ts ls ≡ (if int_eq (value_of x ts ls) (value_of y ts ls) then value_of u ts ls else value_of v ts ls)
  choice_equal x y u v =
      value_pick ts ls (e.Two op.Eq x y) u v
      ∙ ap (λ (z : ℤ). if is_off z then value_of v ts ls else value_of u ts ls) (value_two ts ls op.Eq x y)
      ∙ off_truth (int_eq (value_of x ts ls) (value_of y ts ls)) (value_of u ts ls) (value_of v ts ls)

  -- a choice where the first number is known
  pub choice_of : (x y u v : IExpr) (a b : ℤ) → value_of x ts ls ≡ a → value_of y ts ls ≡ b → value_of (e.Pick (e.Two op.Lt x y) u v) ts ls ≡ (if int_lt a b then value_of u ts ls else value_of v ts ls)
  choice_of x y u v a b f g =
      choice x y u v ∙ ap (λ (z : ℤ). if int_lt z (value_of y ts ls) then value_of u ts ls else value_of v ts ls) f
      ∙ ap (λ (z : ℤ). if int_lt a z then value_of u ts ls else value_of v ts ls) g

  pub two_of : (o : _) (x y : IExpr) (a b : ℤ) → value_of x ts ls ≡ a → value_of y ts ls ≡ b → value_of (e.Two o x y) ts ls ≡ operate o a b
  two_of o x y a b f g = value_two ts ls o x y ∙ ap (λ (z : ℤ). operate o z (value_of y ts ls)) f ∙ ap (operate o a) g

  pub local_is : (at : ℕ) (z : ℤ) → slice_index_or ls at (pos 0) ≡ z → value_of (e.Local at) ts ls ≡ z
  local_is at z h = value_local ts ls at ∙ h

  -- a choice by whether there is a position
  pub picked_placed : (x u v : IExpr) (q : ℕ) → value_of x ts ls ≡ pos q → value_of (e.Pick (e.Two op.Lt x (e.Num (pos 0))) u v) ts ls ≡ value_of v ts ls
  picked_placed x u v q h =
      choice_of x (e.Num (pos 0)) u v (pos q) (pos 0) h (value_num ts ls (pos 0))
      ∙ ap (λ (b : Bool). if b then value_of u ts ls else value_of v ts ls) (lt_zero q)

  pub picked_none : (x u v : IExpr) (k : ℕ) → value_of x ts ls ≡ negsuc k → value_of (e.Pick (e.Two op.Lt x (e.Num (pos 0))) u v) ts ls ≡ value_of u ts ls
  picked_none x u v k h = choice_of x (e.Num (pos 0)) u v (negsuc k) (pos 0) h (value_num ts ls (pos 0))

  pub placed : (at q : ℕ) (v : IExpr) → slice_index_or ls at (pos 0) ≡ pos q → value_of (where_placed at v) ts ls ≡ value_of v ts ls
  placed at q v h = picked_placed (e.Local at) none v q (local_is at (pos q) h)

  pub not_placed : (at : ℕ) (v : IExpr) → slice_index_or ls at (pos 0) ≡ negsuc 0 → value_of (where_placed at v) ts ls ≡ negsuc 0
  not_placed at v h = picked_none (e.Local at) none v 0 (local_is at (negsuc 0) h) ∙ value_num ts ls (negsuc 0)
