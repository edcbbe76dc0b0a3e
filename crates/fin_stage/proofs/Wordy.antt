-- The functions of a run stay tensors of words, where literals, inputs and bound numbers are words.
use Rattle.std.proofs.Common.{◌≡◌, ℕ, ℤ, Bool, true, false, ◌&&◌, ◌||◌, List, [], ◌∷◌, map, Option, Some, None, if◌then◌else◌, refl, sym, ap, ◌∙◌, subst, inl, inr, arith}
use Rattle.std.specs.Prelude.{not, slice_set, slice_get, IfSome, unwrap_or}
use Rattle.std.specs.Option.{option_or}
use Rattle.std.specs.Ordering.{nat_cmp}
use Rattle.std.specs.Cmp.Lexicographic.{slice_cmp}
use Rattle.std.specs.FinMap.{get-empty, get}
use Rattle.fin_base.specs.Words.{IsWord, apply}
use Rattle.fin_base.specs.declared.reduce.Reduce.{Reduce}
use Rattle.fin_base.proofs.Reductions.{keeps_words}
use Rattle.fin_tensor.specs.TensorFunction.{TensorFunction, IsEntry, value_at, filled}
use Rattle.fin_tensor.specs.Building.{Building, unchanged, started, follows, updated}
use Rattle.fin_tensor.specs.Canon.{undecorated}
use Rattle.fin_tensor.proofs.Functions.{keeps_tensors}
use Rattle.fin_ast.specs.declared.tree.Expr.{Expr}
use Rattle.fin_ast.specs.declared.tree.Stmt.{Stmt, map-Stmt}
use Rattle.fin_ast.specs.declared.tree.Stmt.TheOpen.{Stmt-F}
use Rattle.fin_ast.specs.Value.{Numbers, place, coordinates, value_in, read, value_of}
use Rattle.fin_ast.specs.Literals.{is_worded, worded_stmt_step, is_worded_stmt, are_worded}
use Rattle.fin_ast.specs.Actions.{Leaf, Declare, Freeze, Thaw, Update}
use Rattle.fin_ast.specs.Dense.{Setting, made_at, shape_at, range_of}
use Rattle.fin_ast.proofs.InBox.{in_box}
use Rattle.fin_ast.proofs.Induction.{AllOf, Held, bare, plain, all_of, each, by_two}
use Rattle.fin_ast.proofs.Leaves.{part_step, has_part, have_part}
use Rattle.fin_ast.proofs.Alike.{idle, Numbered, AreAlike, act_alike, act_all_alike}
use Rattle.fin_ast.proofs.Wording.{SeesWords, value_is_word}
use Rattle.fin_stage.specs.Stages.{Stage, Absent, Built, Frozen, stage_at, function_in, frozen_in, kept}
use Rattle.fin_stage.specs.Staged.{Run, worked, unalive, unsmall, unordered, tensors_of, can_read, has_small_indices, asked_to_read, asked_for_small, are_small, with_value, is_made, format_at, freeze_at, thaw_at, put_at, update_at, update, leaf, staging, stage_of, stage_all}
use Rattle.fin_stage.specs.Wordy.{IsWordTensor, IsWordy, AreWordy}
use Rattle.fin_stage.proofs.Alive.{left, right}
use Rattle.fin_stage.proofs.Fits.{set_cases, kept_cases, same_fill}

-- ---- statements whose literals are words have no odd part

abbrev odd : Expr → Bool
odd e = not (is_worded e)

abbrev odd_leaf : Leaf → Bool
odd_leaf (Declare tensor) = false
odd_leaf (Freeze tensor) = false
odd_leaf (Thaw tensor) = false
odd_leaf (Update tensor at by value) = odd value

abbrev EvenBy : Bool → Bool → Type 0
EvenBy worded has = worded ≡ true → has ≡ false

abbrev Even : Stmt → Type 0
Even x = EvenBy (is_worded_stmt x) (has_part odd odd_leaf x)

all_even : (xs : List Stmt) → AllOf Even xs → EvenBy (are_worded xs) (have_part odd odd_leaf xs)
all_even [] all e = refl
all_even (x ∷ xs) all e = ap (λ (b : Bool). b || have_part odd odd_leaf xs) (all.0 (left (is_worded_stmt x) (are_worded xs) e)) ∙ all_even xs all.1 (right (is_worded_stmt x) (are_worded xs) e)

behind_even : (v : Expr) (xs : List (Held Even)) → EvenBy (is_worded v && are_worded (bare Even xs)) (odd v || have_part odd odd_leaf (bare Even xs))
behind_even v xs e = ap (λ (b : Bool). not b || have_part odd odd_leaf (bare Even xs)) (left (is_worded v) (are_worded (bare Even xs)) e) ∙ all_even (bare Even xs) (all_of Even xs) (right (is_worded v) (are_worded (bare Even xs)) e)

even_step : (y : Stmt-F (Held Even)) → EvenBy (worded_stmt_step (map-Stmt Stmt Bool is_worded_stmt (plain Even y))) (part_step odd odd_leaf (map-Stmt Stmt Bool (has_part odd odd_leaf) (plain Even y)))
even_step (Stmt-F.Block body line last) e = all_even (bare Even body) (all_of Even body) e
even_step (Stmt-F.Loop var range par body line last) e = all_even (bare Even body) (all_of Even body) e
even_step (Stmt-F.Cond test body line last) e = behind_even test body e
even_step (Stmt-F.Bind var value body line last) e = behind_even value body e
even_step (Stmt-F.Declare tensor value line) e = refl
even_step (Stmt-F.Freeze tensor line) e = refl
even_step (Stmt-F.Thaw tensor line) e = refl
even_step (Stmt-F.Update tensor at by value line) e = ap not e

even : (x : Stmt) → Even x
even = by_two worded_stmt_step (part_step odd odd_leaf) EvenBy even_step

-- ---- tensors of words

entry_word : (shape : List ℕ) (fill : ℤ) (cs : List ℕ) (o : Option ℤ) → IfSome o (IsEntry shape fill cs) → IsWord fill → IsWord (unwrap_or o fill)
entry_word shape fill cs None h p = p
entry_word shape fill cs (Some v) h p = h.word

pub value_word : (f : TensorFunction) (cs : List ℕ) → IsWordTensor f → IsWord (value_at f cs)
value_word f cs g = entry_word f.shape f.fill cs (get f.cells cs) (g.tensor cs) g.fill

in_word : (f : TensorFunction) (o : Option (List ℕ)) → IsWordTensor f → IsWord (value_in f o)
in_word f None g = g.fill
in_word f (Some cs) g = value_word f cs g

read_word : (t : Option TensorFunction) (at : List ℤ) → IfSome t IsWordTensor → IsWord (read t at)
read_word None at g = omega arith
read_word (Some f) at g = in_word f (coordinates f.shape at) g

either_wordy : (a b : Option TensorFunction) → IfSome a IsWordTensor → IfSome b IsWordTensor → IfSome (option_or a b) IsWordTensor
either_wordy None b p q = q
either_wordy (Some f) b p q = p

frozen_wordy : (x : Stage) → IfSome (function_in x) IsWordTensor → IfSome (frozen_in x) IsWordTensor
frozen_wordy Absent h = tt
frozen_wordy (Built b) h = tt
frozen_wordy (Frozen format f) h = h

filled_wordy : (shape : List ℕ) (fill : ℤ) → IsWord fill → IsWordTensor (filled shape fill)
filled_wordy shape fill h = record { tensor = λ cs. subst (λ (o : Option ℤ). IfSome o (IsEntry shape fill cs)) (sym (get-empty (slice_cmp nat_cmp) cs)) tt; fill = h }

-- an update by a word
pub updated_wordy : (b : Building) (at : List ℤ) (cs : List ℕ) (by : Reduce) (v : ℤ) → coordinates b.function.shape at ≡ Some cs → IsWord v → IsWordTensor b.function → IsWordTensor (updated b cs (λ old. apply by old v)).function
updated_wordy b at cs by v e p g = record {
  tensor = keeps_tensors b.function cs (apply by (value_at b.function cs) v) g.tensor (in_box b.function.shape at cs e) (keeps_words by (value_at b.function cs) v (value_word b.function cs g) p);
  fill = g.fill;
}

set_wordy : (stages : List Stage) (t : ℕ) (x : Stage) → AreWordy stages → IfSome (function_in x) IsWordTensor → AreWordy (slice_set stages t x)
set_wordy stages t x h hx j = elim (set_cases stages t x j) [
  | inl e ↦ subst (λ (y : Stage). IfSome (function_in y) IsWordTensor) (sym e.1) hx
  | inr e ↦ subst (λ (y : Stage). IfSome (function_in y) IsWordTensor) (sym e) (h j)
]

kept_wordy : (before stages : List Stage) → AreWordy stages → AreWordy (kept before stages)
kept_wordy before stages h j = elim (kept_cases before stages j) [
  | inl e ↦ subst (λ (y : Stage). IfSome (function_in y) IsWordTensor) (sym e) tt
  | inr e ↦ subst (λ (y : Stage). IfSome (function_in y) IsWordTensor) (sym e) (h j)
]

module _ (w : Setting) (wordy : IsWordy w) where
  abbrev KeepsWords : (Run → Run) → Type 0
  KeepsWords f = (r : Run) → AreWordy r.stages → AreWordy (f r).stages

  either : (b : Bool) (x y : Run) → AreWordy x.stages → AreWordy y.stages → AreWordy (if b then x else y).stages
  either true x y f g = f
  either false x y f g = g

  sees : (vars : Numbers) (r : Run) → Numbered IsWord vars → AreWordy r.stages → SeesWords vars (tensors_of w r)
  sees vars r k h = record { numbers = k; reads = λ t at. read_word (tensors_of w r t) at (either_wordy (made_at w.given t) (frozen_in (stage_at r.stages t)) (wordy.given t) (frozen_wordy (stage_at r.stages t) (h t))) }

  small_wordy : (b : Bool) → KeepsWords (asked_for_small b)
  small_wordy b r h = either b r (unsmall r) h h

  value_wordy : (e : Expr) (vars : Numbers) (f : ℤ → Run → Run) → odd e ≡ false → Numbered IsWord vars → ((v : ℤ) → IsWord v → KeepsWords (f v)) → KeepsWords (with_value w e vars f)
  value_wordy e vars f o k g r h =
      let asked : Run = asked_to_read (can_read e (tensors_of w r)) r in
      g (value_of e vars (tensors_of w r)) (value_is_word vars (tensors_of w r) (sees vars r k h) e (even_is (is_worded e) o)) (asked_for_small (has_small_indices e vars) asked)
      (small_wordy (has_small_indices e vars) asked (either (can_read e (tensors_of w r)) r (unalive r) h h)) where
        even_is : (b : Bool) → not b ≡ false → b ≡ true
        even_is true x = refl
        even_is false x = cc

  freeze_wordy : (t : ℕ) (x : Stage) → (r : Run) → IfSome (function_in x) IsWordTensor → AreWordy r.stages → AreWordy (freeze_at t x r).stages
  freeze_wordy t Absent r hx h = h
  freeze_wordy t (Built b) r hx h = set_wordy r.stages t (Frozen (undecorated b.format) b.function) h hx
  freeze_wordy t (Frozen format f) r hx h = h

  thaw_wordy : (t : ℕ) (x : Stage) → (r : Run) → IfSome (function_in x) IsWordTensor → AreWordy r.stages → AreWordy (thaw_at t x r).stages
  thaw_wordy t Absent r hx h = h
  thaw_wordy t (Built b) r hx h = h
  thaw_wordy t (Frozen format f) r hx h = set_wordy r.stages t (Built (unchanged format f)) h hx

  put_wordy : (t : ℕ) (b : Building) (at : List ℤ) (o : Option (List ℕ)) (by : Reduce) (v : ℤ) (r : Run) → coordinates b.function.shape at ≡ o → IsWord v → IsWordTensor b.function → AreWordy r.stages → AreWordy (put_at t b o by v r).stages
  put_wordy t b at None by v r e p g h = h
  put_wordy t b at (Some cs) by v r e p g h = either (follows b cs) _ (unordered r) (set_wordy r.stages t (Built (updated b cs (λ old. apply by old v))) h (updated_wordy b at cs by v e p g)) h

  update_at_wordy : (t : ℕ) (x : Stage) (at : List ℤ) (by : Reduce) (v : ℤ) (r : Run) → IsWord v → IfSome (function_in x) IsWordTensor → AreWordy r.stages → AreWordy (update_at t x at by v r).stages
  update_at_wordy t Absent at by v r p hx h = h
  update_at_wordy t (Built b) at by v r p hx h = put_wordy t b at (coordinates b.function.shape at) by v r refl p hx h
  update_at_wordy t (Frozen format f) at by v r p hx h = h

  pub update_wordy : (t : ℕ) (at : List ℤ) (by : Reduce) (v : ℤ) → IsWord v → KeepsWords (update w t at by v)
  update_wordy t at by v p r h = either (is_made w t) (update_at t (stage_at r.stages t) at by v r) (unalive r) (update_at_wordy t (stage_at r.stages t) at by v r p (h t) h) h

  leaf_wordy : (l : Leaf) (vars : Numbers) → odd_leaf l ≡ false → Numbered IsWord vars → KeepsWords (leaf w l vars)
  leaf_wordy (Declare t) vars o k r h =
      let fill : IsWord (format_at w t).fill = subst IsWord (sym (same_fill w (slice_get w.headers t))) (wordy.fills t) in
      either (is_made w t) _ (unalive r) (set_wordy r.stages t (Built (started (format_at w t) (shape_at w t))) h (filled_wordy (shape_at w t) (format_at w t).fill fill)) h
  leaf_wordy (Freeze t) vars o k r h = freeze_wordy t (stage_at r.stages t) r (h t) h
  leaf_wordy (Thaw t) vars o k r h = either (is_made w t) (thaw_at t (stage_at r.stages t) r) (unalive r) (thaw_wordy t (stage_at r.stages t) r (h t) h) h
  leaf_wordy (Update t at by value) vars o k r h =
      let small : Run → Run = asked_for_small (are_small vars at) in
      value_wordy value vars (λ v x. update w t (map (place vars) at) by v (small x)) o k (λ v p x g. update_wordy t (map (place vars) at) by v p (small x) (small_wordy (are_small vars at) x g)) r h

  parts_wordy : AreAlike (staging w) (idle (range_of w)) odd odd_leaf IsWord (λ f g. KeepsWords f)
  parts_wordy = record {
    range = λ var. refl;
    numbers = λ var n low high. let r = wordy.ranges var in omega (arith, high, r);
    still = λ r h. h;
    joined = λ f f' g g' a b r h. b (f r) (a r h);
    value = λ e vars f g o k a r h. value_wordy e vars f o k a (worked 1 r) h;
    entry = λ var vars r h. h;
    turn = λ var vars n f g a r h. a (worked 1 r) h;
    brace = λ f g a r h. kept_wordy r.stages (f r).stages (a r h);
    leaf = leaf_wordy;
  }

  pub stage_wordy : (x : Stmt) → is_worded_stmt x ≡ true → (vars : Numbers) → Numbered IsWord vars → KeepsWords (stage_of w x vars)
  stage_wordy x e = act_alike (staging w) (idle (range_of w)) odd odd_leaf IsWord (λ f g. KeepsWords f) parts_wordy x (even x e)

  pub stages_wordy : (body : List Stmt) → are_worded body ≡ true → (vars : Numbers) → Numbered IsWord vars → KeepsWords (stage_all w body vars)
  stages_wordy body e = act_all_alike (staging w) (idle (range_of w)) odd odd_leaf IsWord (λ f g. KeepsWords f) parts_wordy body (all_even body (each Even even body) e)
