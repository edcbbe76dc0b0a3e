-- What a statement makes, for each kind of node, and what all statements keep.
use Rattle.std.proofs.Common.{◌≡◌, ℕ, zero, suc, ℤ, Bool, true, false, List, [], ◌∷◌, map, length, Option, Some, None, refl, sym, ap, ◌∙◌, arith, if◌then◌else◌}
use Rattle.std.specs.Prelude.{slice_set, is_some}
use Rattle.fin_base.specs.declared.reduce.Reduce.{Reduce}
use Rattle.fin_tensor.specs.TensorFunction.{TensorFunction}
use Rattle.fin_ast.specs.declared.tree.Index.{Index}
use Rattle.fin_ast.specs.declared.tree.Expr.{Expr}
use Rattle.fin_ast.specs.declared.tree.Stmt.{Stmt}
use Rattle.fin_ast.specs.declared.tree.Stmt.TheVariants as s
use Rattle.fin_ast.specs.Value.{Numbers, place, value_of}
use Rattle.fin_ast.specs.Actions.{Leaf, Declare, Freeze, Thaw, Update}
use Rattle.fin_ast.specs.Dense as dense
use Rattle.fin_ast.specs.Dense.{Made, made_at, Setting, State, range_of, kept, updated_if}
use Rattle.fin_ast.proofs.Acting as acting
use Rattle.fin_ast.proofs.Alike.{none, Any, AreAlike, no_leaf_in, act_all_alike}
use Rattle.fin_ast.proofs.Leaves.{neither}
use Rattle.fin_simp.specs.Marked.{tensors_at, braced, looped, declared, updated, if_holds, leaf, made_by, making, making_all}

module _ (w : Setting) (vars : Numbers) (ts : Made) where
  pub make_block : (body : List Stmt) (line last : ℕ) → making w (s.Block body line last) vars ts ≡ braced (making_all w body) vars ts
  make_block body line last = acting.act_block (made_by w) vars ts body line last

  pub make_loop : (var : ℕ) (range : Option (ℕ × ℕ)) (par : Bool) (body : List Stmt) (line last : ℕ) → making w (s.Loop var range par body line last) vars ts ≡ looped (range_of w var) var (braced (making_all w body)) vars ts
  make_loop var range par body line last = acting.act_loop (made_by w) vars ts var range par body line last

  pub make_cond : (test : Expr) (body : List Stmt) (line last : ℕ) → making w (s.Cond test body line last) vars ts ≡ if_holds (value_of test vars (tensors_at w ts)) (braced (making_all w body)) vars ts
  make_cond test body line last = acting.act_cond (made_by w) vars ts test body line last

  pub make_bind : (var : ℕ) (value : Expr) (body : List Stmt) (line last : ℕ) → making w (s.Bind var value body line last) vars ts ≡ braced (making_all w body) (slice_set vars var (value_of value vars (tensors_at w ts))) ts
  make_bind var value body line last = acting.act_bind (made_by w) vars ts var value body line last

  pub make_declare : (tensor : ℕ) (value : ℤ) (line : ℕ) → making w (s.Declare tensor value line) vars ts ≡ declared w tensor ts
  make_declare tensor value line = acting.act_declare (made_by w) vars ts tensor value line

  pub make_freeze : (tensor line : ℕ) → making w (s.Freeze tensor line) vars ts ≡ ts
  make_freeze tensor line = acting.act_freeze (made_by w) vars ts tensor line

  pub make_thaw : (tensor line : ℕ) → making w (s.Thaw tensor line) vars ts ≡ ts
  make_thaw tensor line = acting.act_thaw (made_by w) vars ts tensor line

  pub make_update : (tensor : ℕ) (at : List Index) (by : Reduce) (value : Expr) (line : ℕ) → making w (s.Update tensor at by value line) vars ts ≡ updated tensor (map (place vars) at) by (value_of value vars (tensors_at w ts)) ts
  make_update tensor at by value line = acting.act_update (made_by w) vars ts tensor at by value line

-- ---- dense evaluation makes the same
module _ (w : Setting) where
  abbrev Makes : (State → State) → (Made → Made) → Type 0
  Makes f g = (st : State) → (f st).made ≡ g st.made

  leaf_makes : (l : Leaf) (vars : Numbers) → Makes (dense.leaf w l vars) (leaf w l vars)
  leaf_makes (Declare tensor) vars st = refl
  leaf_makes (Freeze tensor) vars st = refl
  leaf_makes (Thaw tensor) vars st = refl
  leaf_makes (Update tensor at by value) vars st = refl

  parts_make : AreAlike (dense.evaluating w) (made_by w) neither none Any Makes
  parts_make = record {
    range = λ var. refl;
    numbers = λ var n low high. tt;
    still = λ st. refl;
    joined = λ f f' g g' h h' st. h' (f st) ∙ ap g' (h st);
    value = λ e vars f g _ _ h st. h (value_of e vars (tensors_at w st.made)) tt st;
    entry = λ var vars st. refl;
    turn = λ var vars n f g h st. h (dense.ticked st);
    brace = λ f g h st. ap (kept (map is_some st.made)) (h st);
    leaf = λ l vars _ _. leaf_makes l vars;
  }

  pub run_all_makes : (body : List Stmt) (vars : Numbers) (st : State) → (dense.run_all w body vars st).made ≡ making_all w body vars st.made
  run_all_makes body vars = act_all_alike (dense.evaluating w) (made_by w) neither none Any Makes parts_make body (no_leaf_in body) vars (λ x. tt)

-- ---- the list of tensors stays as long as it is
pub set_long : (ts : Made) (k : ℕ) (f : Option TensorFunction) → length (slice_set ts k f) ≡ length ts
set_long [] k f = refl
set_long (t ∷ ts) zero f = refl
set_long (t ∷ ts) (suc k) f = ap suc (set_long ts k f)

pub kept_long : (before ts : Made) → length before ≡ length ts → length (kept (map is_some before) ts) ≡ length ts
kept_long [] ts h = refl
kept_long (b ∷ bs) [] h = refl
kept_long (b ∷ bs) (t ∷ ts) h = ap suc (kept_long bs ts (omega (arith, h)))

-- no tensor is there that wasn't
abbrev pub NoNew : Made → Made → Type 0
NoNew [] [] = Unit {0}
NoNew [] (a ∷ after) = ⊥
NoNew (b ∷ before) [] = ⊥
NoNew (b ∷ before) (a ∷ after) = (is_some b ≡ false → a ≡ None) × NoNew before after

pub kept_same : (before after : Made) → NoNew before after → kept (map is_some before) after ≡ after
kept_same [] [] h = refl
kept_same [] (a ∷ after) h = refl
kept_same (b ∷ before) [] h = refl
kept_same (b ∷ before) (a ∷ after) h =
    ap (λ (x : Option TensorFunction). x ∷ kept (map is_some before) after) (elim (is_some b) as (λ c. (c ≡ false → a ≡ None) → (if c then a else None) ≡ a) [ true ↦ λ g. refl | false ↦ λ g. sym (g refl) ] h.0)
    ∙ ap (λ (x : Made). a ∷ x) (kept_same before after h.1)

none_is : (b : Option TensorFunction) → is_some b ≡ false → b ≡ None
none_is None h = refl
none_is (Some f) h = cc

pub no_new_same : (ts : Made) → NoNew ts ts
no_new_same [] = tt
no_new_same (t ∷ ts) = (none_is t, no_new_same ts)

pub kept_self : (ts : Made) → kept (map is_some ts) ts ≡ ts
kept_self ts = kept_same ts ts (no_new_same ts)

pub no_new_then : (a b c : Made) → NoNew a b → NoNew b c → NoNew a c
no_new_then [] [] [] h k = tt
no_new_then [] [] (z ∷ c) h k = absurd k
no_new_then [] (y ∷ b) c h k = absurd h
no_new_then (x ∷ a) [] c h k = absurd h
no_new_then (x ∷ a) (y ∷ b) [] h k = absurd k
no_new_then (x ∷ a) (y ∷ b) (z ∷ c) h k = ((λ p. k.0 (ap is_some (h.0 p))), no_new_then a b c h.1 k.1)

kept_one : (b : Option TensorFunction) (t : Option TensorFunction) (c : Bool) → c ≡ is_some b → is_some b ≡ false → (if c then t else None) ≡ None
kept_one b t true h k = let x : true ≡ false = h ∙ k in cc
kept_one b t false h k = refl

pub no_new_kept : (before ts : Made) → length before ≡ length ts → NoNew before (kept (map is_some before) ts)
no_new_kept [] [] h = tt
no_new_kept [] (t ∷ ts) h = absurd (omega (arith, h))
no_new_kept (b ∷ before) [] h = absurd (omega (arith, h))
no_new_kept (b ∷ before) (t ∷ ts) h = (kept_one b t (is_some b) refl, no_new_kept before ts (omega (arith, h)))

updated_none : (b : Option TensorFunction) (at : List ℤ) (by : Reduce) (v : ℤ) → is_some b ≡ false → updated_if b at by v ≡ None
updated_none None at by v h = refl
updated_none (Some f) at by v h = cc

pub no_new_updated : (ts : Made) (tensor : ℕ) (at : List ℤ) (by : Reduce) (v : ℤ) → NoNew ts (updated tensor at by v ts)
no_new_updated [] tensor at by v = tt
no_new_updated (t ∷ ts) zero at by v = (updated_none t at by v, no_new_same ts)
no_new_updated (t ∷ ts) (suc k) at by v = (none_is t, no_new_updated ts k at by v)
