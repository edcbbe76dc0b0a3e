-- What holds of statements along a run: the rules on names, words, fitting stages, and that what is known is right.
use Rattle.std.proofs.Common.{◌≡◌, ◌<◌, ◌≤◌, ◌+◌, ℕ, zero, suc, ℤ, Bool, true, false, List, [], ◌∷◌, map, length, Option, Some, None, refl, sym, ap, ◌∙◌, subst, arith, if◌then◌else◌}
use Rattle.std.specs.Prelude.{IfSome, slice_set}
use Rattle.std.specs.Option.{option_or}
use Rattle.fin_base.specs.Words.{IsWord}
use Rattle.fin_tensor.specs.TensorFunction.{TensorFunction}
use Rattle.fin_tensor.specs.Canon.{undecorated}
use Rattle.fin_tensor.specs.declared.format.Format.{Format}
use Rattle.fin_tensor.specs.declared.storage.Storage.{Storage}
use Rattle.fin_ast.specs.declared.checked.Checked.{Checked}
use Rattle.fin_ast.specs.declared.tree.Expr.{Expr}
use Rattle.fin_ast.specs.declared.tree.Stmt.{Stmt}
use Rattle.fin_ast.specs.Accepted.{FitProgram}
use Rattle.fin_ast.specs.Bindings.{bindings_of_all, counts_from}
use Rattle.fin_ast.specs.Literals.{all_hold, is_worded_stmt}
use Rattle.fin_ast.specs.Scope.{Scope, is_among, is_named_expr, are_named}
use Rattle.fin_ast.specs.Dense.{Setting, made_at, setting_of}
use Rattle.fin_ast.specs.Value.{Numbers, coordinates, value_in, read}
use Rattle.fin_ast.proofs.Alike.{Numbered}
use Rattle.fin_stage.specs.Stages.{Stage, Absent, Built, Frozen, stage_at, function_in, frozen_in}
use Rattle.fin_stage.specs.Staged.{Run, tensors_of, can_read}
use Rattle.fin_stage.specs.Fitting.{FunctionFits, StageFits, StagesFit}
use Rattle.fin_stage.specs.Trailing.{StageTrails}
use Rattle.fin_stage.specs.Wordy.{IsWordTensor, IsWordy, AreWordy}
use Rattle.fin_stage.proofs.Wordy.{value_word}
use Rattle.fin_simp.specs.Numbered.{Here}
use Rattle.fin_simp.specs.Left.{Marks, fails}
use Rattle.fin_simp.specs.Rest.{ExprRest, Test, Rest, nothing, is_none_kind, within_kind, chosen_rest, let_rest, reads_of}
use Rattle.fin_simp.specs.Right.{right_expr}
use Rattle.fin_simp.specs.Work.{World, Context, is_in, world_of, marks_within}
use Rattle.fin_simp.proofs.Values.{SeesWords}
use Rattle.fin_work.specs.Changing.{changed_by}
use Rattle.fin_work.specs.Following.{Follows}
use Rattle.fin_work.proofs.Parts.{readable_have_parts}
use Rattle.fin_work.proofs.Following.{same_tensors}
use Rattle.fin_work.proofs.Lived.{Lived}
use Rattle.fin_work.proofs.Changing.{Quiet, out_of_within}
use Rattle.fin_work.proofs.Numbering.{texts}
use Rattle.fin_work.proofs.Looking.{Look, AllLooks, each_look}
use Rattle.fin_work.proofs.Known.{Below, TestRight, Table, Matches, ReadRight, Known, expr_right}

-- ---- numbers that are bound
pub number_of : (vars : Numbers) (var : ℕ) (z : ℤ) (N : ℤ → Type 0) → Numbered N vars → N z → Numbered N (slice_set vars var z)
number_of [] var z N h k x = h x
number_of (v ∷ vars) zero z N h k zero = k
number_of (v ∷ vars) zero z N h k (suc x) = h (suc x)
number_of (v ∷ vars) (suc var) z N h k zero = h zero
number_of (v ∷ vars) (suc var) z N h k (suc x) = number_of vars var z N (λ y. h (suc y)) k x

-- ---- values of words
in_word : (f : TensorFunction) (o : Option (List ℕ)) → IsWordTensor f → IsWord (value_in f o)
in_word f None g = g.fill
in_word f (Some cs) g = value_word f cs g

read_word : (o : Option TensorFunction) (at : List ℤ) → IfSome o IsWordTensor → IsWord (read o at)
read_word None at g = omega arith
read_word (Some f) at g = in_word f (coordinates f.shape at) g

either_wordy : (a b : Option TensorFunction) → IfSome a IsWordTensor → IfSome b IsWordTensor → IfSome (option_or a b) IsWordTensor
either_wordy None b p q = q
either_wordy (Some f) b p q = p

frozen_wordy : (x : Stage) → IfSome (function_in x) IsWordTensor → IfSome (frozen_in x) IsWordTensor
frozen_wordy Absent h = tt
frozen_wordy (Built b) h = tt
frozen_wordy (Frozen format f) h = h

-- ---- a run that follows one whose stages fit
fits_follows : (set : Setting) (t : ℕ) (x y : Stage) → StageTrails x y → StageFits set t x → StageFits set t y
fits_follows set t Absent y k f = subst (StageFits set t) (sym k) tt
fits_follows set t (Built b) y k f = subst (StageFits set t) (sym k.1.0) (ap (λ (x : Format). undecorated x) k.1.1.format ∙ f.0, subst (FunctionFits set t) (sym k.1.1.function) f.1)
fits_follows set t (Frozen format g) y k f = subst (StageFits set t) (sym k) f

pub also_fits : (set : Setting) (r r' : Run) → Follows r r' → StagesFit set r.stages → StagesFit set r'.stages
also_fits set r r' f fits t = fits_follows set t (stage_at r.stages t) (stage_at r'.stages t) (f.stages t) (fits t)

-- ---- what is left around a body that isn't changed
module _ (t : ℕ) where
  abbrev Free : Rest → Type 0
  Free r = is_in r.changed t ≡ false

  quiet_free : (r : Rest) → Quiet r → is_none_kind r.kind ≡ true → Free r
  quiet_free r q e = ap (λ (xs : List ℕ). is_in xs t) (q e)

  pub within_back : (r : Rest) (e : ExprRest) (tests : List Test) → Quiet r → Free (within_kind r.kind e tests r) → Free r
  within_back r e tests q f = by (is_none_kind r.kind) refl where
    by : (b : Bool) → is_none_kind r.kind ≡ b → Free r
    by true k = quiet_free r q k
    by false k = out_of_within t r.kind e tests r k f

  pub chosen_back : (o : Option ℤ) (e : ExprRest) (test : Test) (r : Rest) → fails o ≡ false → Quiet r → Free (chosen_rest o e test r) → Free r
  chosen_back None e test r k q f = within_back r e (test ∷ []) q f
  chosen_back (Some n) e test r k q f = subst Free (ap (λ (b : Bool). if b then nothing else r) k) f

  pub let_back : (o : Option ℤ) (e : ExprRest) (r : Rest) → Quiet r → Free (let_rest o e r) → Free r
  let_back None e r q f = within_back r e [] q f
  let_back (Some n) e r q f = f

-- ---- what is held of some statements
module _ (c : Checked) (inputs : List Storage) (fit : FitProgram c inputs) (wordy : IsWordy (setting_of c inputs)) (T : Table) where
  abbrev w : World
  w = world_of c inputs

  abbrev set : Setting
  set = setting_of c inputs

  pub record Held (ctx : Context) (xs : List Stmt) (h : Here) (vars : Numbers) (r r' : Run) : Type 0 where
    pub sc : Scope
    pub next : ℕ
    pub named : are_named xs sc ≡ true
    pub counts : counts_from next (bindings_of_all xs) ≡ true
    pub enough : next + length (bindings_of_all xs) ≤ length vars
    pub below : (k : ℕ) → is_among sc.loops k ≡ true → k < next
    pub worded : all_hold (map is_worded_stmt xs) ≡ true
    pub numbers : Numbered IsWord vars
    pub fits : StagesFit set r.stages
    pub good : AreWordy r.stages
    pub matches : Matches T (texts xs h).reads
    pub known : Known w T xs h (marks_within ctx) sc.loops next vars r'
    pub lived : Lived c inputs sc xs r

  pub sees : (vars : Numbers) (r : Run) → Numbered IsWord vars → AreWordy r.stages → SeesWords vars (tensors_of set r)
  sees vars r k h = record { numbers = k; reads = λ t at. read_word (tensors_of set r t) at (either_wordy (made_at set.given t) (frozen_in (stage_at r.stages t)) (wordy.given t) (frozen_wordy (stage_at r.stages t) (h t))) }

  -- ---- from what is known of some statements to what is known of a part of them, or of those behind
  module _ (xs ys : List Stmt) (h h' : Here) (m m' : Marks) (loops : List ℕ) (n n' : ℕ) (vars vars' : Numbers) (r r' : Run) (known : Known w T xs h m loops n vars r)
      (same : (k : ℕ) → m'.reads k ≡ m.reads k) (below : (later : Numbers) → Below n' vars' later → Below n vars later)
      (part : (t : ℕ) → is_in (changed_by xs h m) t ≡ false → (is_in (changed_by ys h' m') t ≡ false) × (tensors_of set r' t ≡ tensors_of set r t)) where
    pub reads_part : (k : ℕ) → ReadRight w T ys h' m' n' vars' r' k
    reads_part k z q later b f stands seen =
        known.reads k z (sym (same k) ∙ q) later (below later b) f stands (λ free. let two = part (T k).0 free in sym two.1 ∙ seen two.0)

  pub tests_part : (m : Marks) (n n' : ℕ) (vars vars' : Numbers) → ((later : Numbers) → Below n' vars' later → Below n vars later) → (ls : List Look) → AllLooks (TestRight m n vars) ls → AllLooks (TestRight m n' vars') ls
  tests_part m n n' vars vars' below ls = each_look (TestRight m n vars) (TestRight m n' vars') (λ l p z q later ts b. p z q later ts (below later b)) ls

  -- ---- an expression that is looked at
  pub right_here : (xs : List Stmt) (h : Here) (m : Marks) (sc : Scope) (n : ℕ) (vars : Numbers) (r r' : Run) → Known w T xs h m sc.loops n vars r' → StagesFit set r.stages → Follows r r'
      → (x : Expr) → is_named_expr x sc ≡ true → can_read x (tensors_of set r) ≡ true → (k : ℕ) → Matches T (reads_of x k) → right_expr x k m vars (tensors_of set r) ≡ true
  right_here xs h m sc n vars r r' known fits f =
      expr_right w T xs h m sc n vars r' known (tensors_of set r) (sym (same_tensors set r r' f)) (λ t g e. (readable_have_parts c inputs r fit fits t g e).0)
