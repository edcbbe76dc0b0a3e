-- What steps leave of the locals.
use Rattle.std.proofs.Common.{◌≡◌, ◌≢◌, ℕ, ◌<◌, ◌≤◌, ◌+◌, List, [], ◌∷◌, ◌++◌, length, length-set, refl, sym, ap, ◌∙◌, subst, ℤ, pos, arith, get_or-set_same, get_or-set_other}
use Rattle.std.specs.Prelude.{slice_index_or, slice_set}
use Rattle.fin_ir.specs.declared.expression.IExpr.{IExpr}
use Rattle.fin_ir.specs.Machine.{Tensor}
use Rattle.fin_ir.specs.Value.{value_of}
use Rattle.fin_read.specs.Steps.{Step, stepped, Agree}
use Rattle.fin_read.specs.Reads.{step_to}
use Rattle.fin_read.specs.Means.{IsRead}

-- ---- locals that agree

pub agree_refl : (n : ℕ) (ls : List ℤ) → Agree n ls ls
agree_refl n ls k lt = refl

pub agree_then : (n : ℕ) (js ks ls : List ℤ) → Agree n js ks → Agree n ks ls → Agree n js ls
agree_then n js ks ls g h k lt = g k lt ∙ h k lt

pub agree_less : (m n : ℕ) (ks ls : List ℤ) → m ≤ n → Agree n ks ls → Agree m ks ls
agree_less m n ks ls le h k lt = h k (omega (arith, lt))

-- what is set from n on changes nothing below
pub agree_set : (n local : ℕ) (ls : List ℤ) (z : ℤ) → n ≤ local → Agree n (slice_set ls local z) ls
agree_set n local ls z le k lt =
    let apart : k ≢ local = λ e. absurd (omega (arith, lt, e)) in
    get_or-set_other ls local k z (pos 0) apart

-- ---- several steps

pub stepped_append : (ts : ℕ → Tensor) (a b : List Step) (ls : List ℤ) → stepped ts (a ++ b) ls ≡ stepped ts b (stepped ts a ls)
stepped_append ts [] b ls = refl
stepped_append ts (s ∷ a) b ls = stepped_append ts a b (slice_set ls s.local (value_of s.value ts ls))

-- ---- steps that leave a value in a local

module _ (ts : ℕ → Tensor) (at : ℕ) (ls : List ℤ) where
  pub one_step : (v : IExpr) (z : ℤ) → at < length ls → value_of v ts ls ≡ z → IsRead ts (step_to at v ∷ []) at ls z
  one_step v z lt e = record {
    long = length-set ls at (value_of v ts ls);
    kept = agree_set at at ls (value_of v ts ls) (omega arith);
    value = get_or-set_same ls at (value_of v ts ls) (pos 0) lt ∙ e;
  }

  -- the first of the two in the local behind
  pub two_steps : (u v : IExpr) (z : ℤ) → at + 1 < length ls → value_of v ts (slice_set ls (at + 1) (value_of u ts ls)) ≡ z → IsRead ts (step_to (at + 1) u ∷ step_to at v ∷ []) at ls z
  two_steps u v z lt e =
      let ks = slice_set ls (at + 1) (value_of u ts ls) in
      let long = length-set ls (at + 1) (value_of u ts ls) in
      record {
        long = length-set ks at (value_of v ts ks) ∙ long;
        kept = agree_then at (slice_set ks at (value_of v ts ks)) ks ls (agree_set at at ks (value_of v ts ks) (omega arith)) (agree_set at (at + 1) ls (value_of u ts ls) (omega arith));
        value = get_or-set_same ks at (value_of v ts ks) (pos 0) (omega (arith, lt, long)) ∙ e;
      }

  pub reads_after : (a b : List Step) (y z : ℤ) → IsRead ts a at ls y → IsRead ts b at (stepped ts a ls) z → IsRead ts (a ++ b) at ls z
  reads_after a b y z g h =
      let same = stepped_append ts a b ls in
      record {
        long = ap length same ∙ h.long ∙ g.long;
        kept = subst (λ (ks : List ℤ). Agree at ks ls) (sym same) (agree_then at (stepped ts b (stepped ts a ls)) (stepped ts a ls) ls h.kept g.kept);
        value = ap (λ (ks : List ℤ). slice_index_or ks at (pos 0)) same ∙ h.value;
      }
