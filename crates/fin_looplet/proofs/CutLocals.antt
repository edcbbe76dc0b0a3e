-- The locals and tensors of a looplet that is cut.
use Rattle.std.proofs.Common.{ℕ, ◌^◌, ◌⊎◌, inl, inr, ⊎_elim, [], ◌∷◌, pos, negsuc}
use Rattle.fin_base.specs.declared.terms.Op.TheVariants as op
use Rattle.fin_ir.specs.declared.expression.IExpr.{IExpr}
use Rattle.fin_ir.specs.declared.expression.IExpr.TheVariants.{Num}
use Rattle.fin_looplet.specs.declared.looplet.Leaf.{Leaf}
use Rattle.fin_looplet.specs.declared.looplet.Phase.{Phase}
use Rattle.fin_looplet.specs.declared.looplet.Case.{Case}
use Rattle.fin_looplet.specs.declared.looplet.Looplet.{Looplet, Row_of-Case, end_of-Case, more_of-Case, end_of-Looplet, more_of-Looplet}
use Rattle.fin_looplet.specs.declared.looplet.Looplet.TheVariants.{Run, Spike, Lookup, Sequence, Sequence', Stepper', Jumper', Switch, Switch', Shift'}
use Rattle.fin_looplet.specs.Names.{Names, LeafNames, Loads, LeafLoads}
use Rattle.fin_looplet.specs.Locals.{Free, FreeCases, LoadsIn, LoadsCases, Owns, OwnsCases, ShiftNames, ShiftNamesCases, Nested, NestedCases, Separate}
use Rattle.fin_looplet.specs.Cut.{before, minus, cap, cut, cut_cases}
use Rattle.fin_looplet.proofs.Exprs.{names_two, names_num, loads_two, loads_num}
use Rattle.fin_looplet.proofs.Bridges.{from_free_phase, free_no_phase, from_free_case, free_no_case, from_free_shift, from_loads_phase, loads_no_phase, from_loads_case, loads_no_case, from_loads_shift, from_owns_phase, owns_no_phase, from_owns_case, owns_no_case, from_owns_shift, from_shift_names_phase, shift_names_no_phase, from_shift_names_case, shift_names_no_case, from_shift_names_shift, nested_no_phase, nested_phase, nested_no_case, nested_case, nested_shift}

pub names_cap : (x : ℕ) (e : IExpr) → Names x (cap e) → Names x e
names_cap x e n = ⊎_elim (λ a. a) (λ b. absurd (names_num x (pos (2 ^ 43)) b)) (names_two x op.Min e (Num (pos (2 ^ 43))) n)

pub names_before : (x : ℕ) (e : IExpr) → Names x (before e) → Names x e
names_before x e n = ⊎_elim (λ a. a) (λ b. absurd (names_num x (negsuc 0) b)) (names_two x op.Add e (Num (negsuc 0)) n)

pub loads_cap : (t : ℕ) (e : IExpr) → Loads t (cap e) → Loads t e
loads_cap t e n = ⊎_elim (λ a. a) (λ b. absurd (loads_num t (pos (2 ^ 43)) b)) (loads_two t op.Min e (Num (pos (2 ^ 43))) n)

pub loads_before : (t : ℕ) (e : IExpr) → Loads t (before e) → Loads t e
loads_before t e n = ⊎_elim (λ a. a) (λ b. absurd (loads_num t (negsuc 0) b)) (loads_two t op.Add e (Num (negsuc 0)) n)

-- ---- two runs
module _ (x : ℕ) (a b : IExpr) (y z : Leaf) where
  abbrev first : Phase
  first = record { stop = a; child = Run y }

  abbrev second : Phase
  second = record { stop = b; child = Run z }

  two_free : Free x (Sequence (first ∷ second ∷ [])) → (Names x a ⊎ Names x b) ⊎ (LeafNames x y ⊎ LeafNames x z)
  two_free f =
      ⊎_elim (λ n. inl (inl n))
      (⊎_elim (λ n. inr (inl n)) (λ g. ⊎_elim (λ n. inl (inr n)) (⊎_elim (λ n. inr (inr n)) (λ n. absurd (free_no_phase x n))) (from_free_phase x second [] g)))
      (from_free_phase x first (second ∷ []) f)

  two_loads : LoadsIn x (Sequence (first ∷ second ∷ [])) → (Loads x a ⊎ Loads x b) ⊎ (LeafLoads x y ⊎ LeafLoads x z)
  two_loads f =
      ⊎_elim (λ n. inl (inl n))
      (⊎_elim (λ n. inr (inl n)) (λ g. ⊎_elim (λ n. inl (inr n)) (⊎_elim (λ n. inr (inr n)) (λ n. absurd (loads_no_phase x n))) (from_loads_phase x second [] g)))
      (from_loads_phase x first (second ∷ []) f)

  two_own : Owns x (Sequence (first ∷ second ∷ [])) → ⊥
  two_own f = ⊎_elim (λ n. n) (λ g. ⊎_elim (λ n. n) (λ n. owns_no_phase x n) (from_owns_phase x second [] g)) (from_owns_phase x first (second ∷ []) f)

  two_shift : ShiftNames x (Sequence (first ∷ second ∷ [])) → ⊥
  two_shift f = ⊎_elim (λ n. n) (λ g. ⊎_elim (λ n. n) (λ n. shift_names_no_phase x n) (from_shift_names_phase x second [] g)) (from_shift_names_phase x first (second ∷ []) f)

-- ---- looplets
abbrev cut_at : IExpr → IExpr → Looplet → Case
cut_at e test child = record { test = test; child = cut e child }

mutual
  pub cut_free : (x : ℕ) (l : Looplet) (e : IExpr) → Free x (cut e l) → Names x e ⊎ Free x l
  cut_free x (Run l) e f = inr f
  cut_free x (Spike b t) e f = ⊎_elim (λ n. inl (⊎_elim (λ a. names_cap x e (names_before x (cap e) a)) (λ a. names_cap x e a) n)) (λ n. inr n) (two_free x (before (cap e)) (cap e) b t f)
  cut_free x (Lookup c l) e f = inr f
  cut_free x (Sequence' n ps) e f = inr f
  cut_free x (Stepper' p w) e f = inr f
  cut_free x (Jumper' p w) e f = inr f
  cut_free x (Switch' n cs) e f = cut_cases_free x cs e f
  cut_free x (Shift' by p (more_of-Looplet child end_of-Looplet)) e f =
      ⊎_elim (λ b. inr (inl b)) (λ g. ⊎_elim (λ n. ⊎_elim (λ a. inl (names_cap x e a)) (λ b. inr (inl b)) (names_two x op.Sub (cap e) by n)) (λ h. inr (inr h)) (cut_free x child (minus (cap e) by) g)) (from_free_shift x by (cut (minus (cap e) by) child) f)

  cut_cases_free : {n : _} (x : ℕ) (cs : Row_of-Case n) (e : IExpr) → Free x (Switch (cut_cases e cs)) → Names x e ⊎ FreeCases x cs
  cut_cases_free x end_of-Case e f = absurd (free_no_case x f)
  cut_cases_free x (more_of-Case test child rest) e f =
      ⊎_elim (λ n. inr (inl n))
      (⊎_elim (λ g. ⊎_elim (λ n. inl n) (λ h. inr (inr (inl h))) (cut_free x child e g)) (λ g. ⊎_elim (λ n. inl n) (λ h. inr (inr (inr h))) (cut_cases_free x rest e g)))
      (from_free_case x (cut_at e test child) (cut_cases e rest) f)

mutual
  pub cut_loads : (t : ℕ) (l : Looplet) (e : IExpr) → LoadsIn t (cut e l) → Loads t e ⊎ LoadsIn t l
  cut_loads x (Run l) e f = inr f
  cut_loads x (Spike b t) e f = ⊎_elim (λ n. inl (⊎_elim (λ a. loads_cap x e (loads_before x (cap e) a)) (λ a. loads_cap x e a) n)) (λ n. inr n) (two_loads x (before (cap e)) (cap e) b t f)
  cut_loads x (Lookup c l) e f = inr f
  cut_loads x (Sequence' n ps) e f = inr f
  cut_loads x (Stepper' p w) e f = inr f
  cut_loads x (Jumper' p w) e f = inr f
  cut_loads x (Switch' n cs) e f = cut_cases_loads x cs e f
  cut_loads x (Shift' by p (more_of-Looplet child end_of-Looplet)) e f =
      ⊎_elim (λ b. inr (inl b)) (λ g. ⊎_elim (λ n. ⊎_elim (λ a. inl (loads_cap x e a)) (λ b. inr (inl b)) (loads_two x op.Sub (cap e) by n)) (λ h. inr (inr h)) (cut_loads x child (minus (cap e) by) g)) (from_loads_shift x by (cut (minus (cap e) by) child) f)

  cut_cases_loads : {n : _} (t : ℕ) (cs : Row_of-Case n) (e : IExpr) → LoadsIn t (Switch (cut_cases e cs)) → Loads t e ⊎ LoadsCases t cs
  cut_cases_loads x end_of-Case e f = absurd (loads_no_case x f)
  cut_cases_loads x (more_of-Case test child rest) e f =
      ⊎_elim (λ n. inr (inl n))
      (⊎_elim (λ g. ⊎_elim (λ n. inl n) (λ h. inr (inr (inl h))) (cut_loads x child e g)) (λ g. ⊎_elim (λ n. inl n) (λ h. inr (inr (inr h))) (cut_cases_loads x rest e g)))
      (from_loads_case x (cut_at e test child) (cut_cases e rest) f)

mutual
  pub cut_owns : (x : ℕ) (l : Looplet) (e : IExpr) → Owns x (cut e l) → Owns x l
  cut_owns x (Run l) e f = f
  cut_owns x (Spike b t) e f = absurd (two_own x (before (cap e)) (cap e) b t f)
  cut_owns x (Lookup c l) e f = f
  cut_owns x (Sequence' n ps) e f = f
  cut_owns x (Stepper' p w) e f = f
  cut_owns x (Jumper' p w) e f = f
  cut_owns x (Switch' n cs) e f = cut_cases_owns x cs e f
  cut_owns x (Shift' by p (more_of-Looplet child end_of-Looplet)) e f = cut_owns x child (minus (cap e) by) (from_owns_shift x by (cut (minus (cap e) by) child) f)

  cut_cases_owns : {n : _} (x : ℕ) (cs : Row_of-Case n) (e : IExpr) → Owns x (Switch (cut_cases e cs)) → OwnsCases x cs
  cut_cases_owns x end_of-Case e f = absurd (owns_no_case x f)
  cut_cases_owns x (more_of-Case test child rest) e f = ⊎_elim (λ g. inl (cut_owns x child e g)) (λ g. inr (cut_cases_owns x rest e g)) (from_owns_case x (cut_at e test child) (cut_cases e rest) f)

mutual
  pub cut_shift_names : (x : ℕ) (l : Looplet) (e : IExpr) → ShiftNames x (cut e l) → ShiftNames x l
  cut_shift_names x (Run l) e f = f
  cut_shift_names x (Spike b t) e f = absurd (two_shift x (before (cap e)) (cap e) b t f)
  cut_shift_names x (Lookup c l) e f = f
  cut_shift_names x (Sequence' n ps) e f = f
  cut_shift_names x (Stepper' p w) e f = f
  cut_shift_names x (Jumper' p w) e f = f
  cut_shift_names x (Switch' n cs) e f = cut_cases_shift_names x cs e f
  cut_shift_names x (Shift' by p (more_of-Looplet child end_of-Looplet)) e f = ⊎_elim (λ n. inl n) (λ g. inr (cut_shift_names x child (minus (cap e) by) g)) (from_shift_names_shift x by (cut (minus (cap e) by) child) f)

  cut_cases_shift_names : {n : _} (x : ℕ) (cs : Row_of-Case n) (e : IExpr) → ShiftNames x (Switch (cut_cases e cs)) → ShiftNamesCases x cs
  cut_cases_shift_names x end_of-Case e f = absurd (shift_names_no_case x f)
  cut_cases_shift_names x (more_of-Case test child rest) e f = ⊎_elim (λ g. inl (cut_shift_names x child e g)) (λ g. inr (cut_cases_shift_names x rest e g)) (from_shift_names_case x (cut_at e test child) (cut_cases e rest) f)

mutual
  pub cut_nested : (l : Looplet) (e : IExpr) → Nested l → Nested (cut e l)
  cut_nested (Run l) e h = tt
  cut_nested (Spike b t) e h = nested_phase (record { stop = before (cap e); child = Run b }) (record { stop = cap e; child = Run t } ∷ []) tt (nested_phase (record { stop = cap e; child = Run t }) [] tt nested_no_phase)
  cut_nested (Lookup c l) e h = tt
  cut_nested (Sequence' n ps) e h = h
  cut_nested (Stepper' p w) e h = h
  cut_nested (Jumper' p w) e h = h
  cut_nested (Switch' n cs) e h = cut_cases_nested cs e h
  cut_nested (Shift' by p (more_of-Looplet child end_of-Looplet)) e h = nested_shift by (cut (minus (cap e) by) child) (cut_nested child (minus (cap e) by) h)

  cut_cases_nested : {n : _} (cs : Row_of-Case n) (e : IExpr) → NestedCases cs → Nested (Switch (cut_cases e cs))
  cut_cases_nested end_of-Case e h = nested_no_case
  cut_cases_nested (more_of-Case test child rest) e h = nested_case (cut_at e test child) (cut_cases e rest) (cut_nested child e h.0) (cut_cases_nested rest e h.1)

-- where the end names no own local
pub cut_separate : (l : Looplet) (e : IExpr) → ((x : ℕ) → Owns x l → Names x e → ⊥) → Separate l → Separate (cut e l)
cut_separate l e clear s = record {
  nested = cut_nested l e s.nested;
  bound = λ x o f. ⊎_elim (λ n. clear x (cut_owns x l e o) n) (λ g. s.bound x (cut_owns x l e o) g) (cut_free x l e f);
  unshifted = λ x o n. s.unshifted x (cut_owns x l e o) (cut_shift_names x l e n);
}
