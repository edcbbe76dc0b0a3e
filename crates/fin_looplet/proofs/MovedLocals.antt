-- The locals and tensors of a looplet that is moved.
use Rattle.std.proofs.Common.{◌≢◌, ℕ, ◌+◌, ◌^◌, ◌⊎◌, inl, inr, ⊎_elim, negsuc}
use Rattle.fin_base.specs.declared.terms.Op.TheVariants as op
use Rattle.fin_ir.specs.declared.expression.IExpr.{IExpr}
use Rattle.fin_ir.specs.declared.expression.IExpr.TheVariants.{Num, Local}
use Rattle.fin_looplet.specs.declared.looplet.Leaf.{Leaf}
use Rattle.fin_looplet.specs.declared.looplet.Leaf.TheVariants.{Fill, Value, Sub}
use Rattle.fin_looplet.specs.declared.looplet.Looplet.{Looplet, Row_of-Phase, end_of-Phase, more_of-Phase, Row_of-Walker, end_of-Walker, more_of-Walker, Row_of-Case, end_of-Case, more_of-Case, end_of-Looplet, more_of-Looplet}
use Rattle.fin_looplet.specs.declared.looplet.Looplet.TheVariants.{Run, Spike, Lookup, Sequence', Stepper', Jumper', Switch', Shift'}
use Rattle.fin_looplet.specs.Names.{Names, LeafNames, Loads, LeafLoads}
use Rattle.fin_looplet.specs.Locals.{Free, FreePhases, FreeWalker, FreeCases, LoadsIn, LoadsPhases, LoadsWalker, LoadsCases, Owns, OwnsPhases, OwnsWalker, OwnsCases, ShiftNames, ShiftNamesPhases, ShiftNamesWalker, ShiftNamesCases, Nested, NestedPhases, NestedWalker, NestedCases, Separate}
use Rattle.fin_looplet.specs.Cut.{plus, cap}
use Rattle.fin_looplet.specs.Moved.{clip, put, put_leaf, lowered, raised, moved, moved_phases, moved_walker, moved_cases}
use Rattle.fin_looplet.proofs.Exprs.{names_two, names_num, names_local, loads_two, loads_num, loads_local}
use Rattle.fin_looplet.proofs.Puts.{put_names, put_loads}
use Rattle.fin_looplet.proofs.CutLocals.{names_cap, loads_cap}

-- ---- locals
names_clip : (x : ℕ) (e : IExpr) → Names x (clip e) → Names x e
names_clip x e n = ⊎_elim (λ a. names_cap x e a) (λ b. absurd (names_num x (negsuc (2 ^ 43)) b)) (names_two x op.Max (cap e) (Num (negsuc (2 ^ 43))) n)

names_raised : (x : ℕ) (by stop : IExpr) → Names x (raised by stop) → Names x by ⊎ Names x stop
names_raised x by stop n = ⊎_elim (λ a. inr (names_clip x stop a)) (λ b. inl b) (names_two x op.Add (clip stop) by n)

names_seek : (x c : ℕ) (by seek : IExpr) → (x ≢ c) → Names x (put c (lowered c by) seek) → Names x by ⊎ Names x seek
names_seek x c by seek ne n = ⊎_elim (λ a. inr a) (λ b. ⊎_elim (λ l. absurd (ne (names_local x c l))) (λ r. inl r) (names_two x op.Sub (Local c) by b)) (put_names x c (lowered c by) seek n)

leaf_names : (x c : ℕ) (by : IExpr) (l : Leaf) → (x ≢ c) → LeafNames x (put_leaf c (lowered c by) l) → Names x by ⊎ LeafNames x l
leaf_names x c by (Fill f) ne n = inr n
leaf_names x c by (Value e) ne n = names_seek x c by e ne n
leaf_names x c by (Sub tensor level place there) ne (inl n) = ⊎_elim (λ a. inl a) (λ b. inr (inl b)) (names_seek x c by place ne n)
leaf_names x c by (Sub tensor level place there) ne (inr n) = ⊎_elim (λ a. inl a) (λ b. inr (inr b)) (names_seek x c by there ne n)

mutual
  pub moved_free : (x : ℕ) (by : IExpr) (l : Looplet) → Free x (moved by l) → Names x by ⊎ Free x l
  moved_free x by (Run l) f = inr f
  moved_free x by (Spike b t) f = inr f
  moved_free x by (Lookup c l) f = ⊎_elim (λ a. inl a) (λ b. inr (f.0, b)) (leaf_names x c by l f.0 f.1)
  moved_free x by (Sequence' n ps) f = phases_free x by ps f
  moved_free x by (Stepper' q w) f = walker_free x by w f
  moved_free x by (Jumper' q w) f = walker_free x by w f
  moved_free x by (Switch' n cs) f = cases_free x by cs f
  moved_free x by (Shift' by2 q (more_of-Looplet child end_of-Looplet)) f = ⊎_elim (λ a. ⊎_elim (λ b. inl b) (λ b. inr (inl b)) (names_two x op.Add by by2 a)) (λ b. inr (inr b)) (moved_free x (plus by by2) child f)

  phases_free : {n : _} (x : ℕ) (by : IExpr) (ps : Row_of-Phase n) → FreePhases x (moved_phases by ps) → Names x by ⊎ FreePhases x ps
  phases_free x by end_of-Phase f = inr f
  phases_free x by (more_of-Phase stop child rest) (inl f) = ⊎_elim (λ a. inl a) (λ b. inr (inl b)) (names_raised x by stop f)
  phases_free x by (more_of-Phase stop child rest) (inr (inl f)) = ⊎_elim (λ a. inl a) (λ b. inr (inr (inl b))) (moved_free x by child f)
  phases_free x by (more_of-Phase stop child rest) (inr (inr f)) = ⊎_elim (λ a. inl a) (λ b. inr (inr (inr b))) (phases_free x by rest f)

  walker_free : {n : _} (x : ℕ) (by : IExpr) (w : Row_of-Walker n) → FreeWalker x (moved_walker by w) → Names x by ⊎ FreeWalker x w
  walker_free x by end_of-Walker f = inr f
  walker_free x by (more_of-Walker cursor seek stop child rest) (inl f) = ⊎_elim (λ b. inl b) (λ b. inr (inl (f.0, b))) (names_seek x (cursor + 1) by seek f.0 f.1)
  walker_free x by (more_of-Walker cursor seek stop child rest) (inr f) =
      ⊎_elim (λ b. ⊎_elim (λ c. inl c) (λ c. inr (inr (f.0, inl c))) (names_raised x by stop b)) (λ b. ⊎_elim (λ c. inl c) (λ c. inr (inr (f.0, inr c))) (moved_free x by child b)) f.1

  cases_free : {n : _} (x : ℕ) (by : IExpr) (cs : Row_of-Case n) → FreeCases x (moved_cases by cs) → Names x by ⊎ FreeCases x cs
  cases_free x by end_of-Case f = inr f
  cases_free x by (more_of-Case test child rest) (inl f) = inr (inl f)
  cases_free x by (more_of-Case test child rest) (inr (inl f)) = ⊎_elim (λ a. inl a) (λ b. inr (inr (inl b))) (moved_free x by child f)
  cases_free x by (more_of-Case test child rest) (inr (inr f)) = ⊎_elim (λ a. inl a) (λ b. inr (inr (inr b))) (cases_free x by rest f)

-- ---- tensors
loads_clip : (t : ℕ) (e : IExpr) → Loads t (clip e) → Loads t e
loads_clip t e n = ⊎_elim (λ a. loads_cap t e a) (λ b. absurd (loads_num t (negsuc (2 ^ 43)) b)) (loads_two t op.Max (cap e) (Num (negsuc (2 ^ 43))) n)

loads_raised : (t : ℕ) (by stop : IExpr) → Loads t (raised by stop) → Loads t by ⊎ Loads t stop
loads_raised t by stop n = ⊎_elim (λ a. inr (loads_clip t stop a)) (λ b. inl b) (loads_two t op.Add (clip stop) by n)

loads_seek : (t c : ℕ) (by seek : IExpr) → Loads t (put c (lowered c by) seek) → Loads t by ⊎ Loads t seek
loads_seek t c by seek n = ⊎_elim (λ a. inr a) (λ b. ⊎_elim (λ l. absurd (loads_local t c l)) (λ r. inl r) (loads_two t op.Sub (Local c) by b)) (put_loads t c (lowered c by) seek n)

leaf_loads : (t c : ℕ) (by : IExpr) (l : Leaf) → LeafLoads t (put_leaf c (lowered c by) l) → Loads t by ⊎ LeafLoads t l
leaf_loads t c by (Fill f) n = inr n
leaf_loads t c by (Value e) n = loads_seek t c by e n
leaf_loads t c by (Sub tensor level place there) (inl n) = ⊎_elim (λ a. inl a) (λ b. inr (inl b)) (loads_seek t c by place n)
leaf_loads t c by (Sub tensor level place there) (inr n) = ⊎_elim (λ a. inl a) (λ b. inr (inr b)) (loads_seek t c by there n)

mutual
  pub moved_loads : (t : ℕ) (by : IExpr) (l : Looplet) → LoadsIn t (moved by l) → Loads t by ⊎ LoadsIn t l
  moved_loads t by (Run l) f = inr f
  moved_loads t by (Spike b z) f = inr f
  moved_loads t by (Lookup c l) f = leaf_loads t c by l f
  moved_loads t by (Sequence' n ps) f = phases_load t by ps f
  moved_loads t by (Stepper' q w) f = walker_loads t by w f
  moved_loads t by (Jumper' q w) f = walker_loads t by w f
  moved_loads t by (Switch' n cs) f = cases_load t by cs f
  moved_loads t by (Shift' by2 q (more_of-Looplet child end_of-Looplet)) f = ⊎_elim (λ a. ⊎_elim (λ b. inl b) (λ b. inr (inl b)) (loads_two t op.Add by by2 a)) (λ b. inr (inr b)) (moved_loads t (plus by by2) child f)

  phases_load : {n : _} (t : ℕ) (by : IExpr) (ps : Row_of-Phase n) → LoadsPhases t (moved_phases by ps) → Loads t by ⊎ LoadsPhases t ps
  phases_load t by end_of-Phase f = inr f
  phases_load t by (more_of-Phase stop child rest) (inl f) = ⊎_elim (λ a. inl a) (λ b. inr (inl b)) (loads_raised t by stop f)
  phases_load t by (more_of-Phase stop child rest) (inr (inl f)) = ⊎_elim (λ a. inl a) (λ b. inr (inr (inl b))) (moved_loads t by child f)
  phases_load t by (more_of-Phase stop child rest) (inr (inr f)) = ⊎_elim (λ a. inl a) (λ b. inr (inr (inr b))) (phases_load t by rest f)

  walker_loads : {n : _} (t : ℕ) (by : IExpr) (w : Row_of-Walker n) → LoadsWalker t (moved_walker by w) → Loads t by ⊎ LoadsWalker t w
  walker_loads t by end_of-Walker f = inr f
  walker_loads t by (more_of-Walker cursor seek stop child rest) (inl f) = ⊎_elim (λ b. inl b) (λ b. inr (inl b)) (loads_seek t (cursor + 1) by seek f)
  walker_loads t by (more_of-Walker cursor seek stop child rest) (inr (inl f)) = ⊎_elim (λ c. inl c) (λ c. inr (inr (inl c))) (loads_raised t by stop f)
  walker_loads t by (more_of-Walker cursor seek stop child rest) (inr (inr f)) = ⊎_elim (λ c. inl c) (λ c. inr (inr (inr c))) (moved_loads t by child f)

  cases_load : {n : _} (t : ℕ) (by : IExpr) (cs : Row_of-Case n) → LoadsCases t (moved_cases by cs) → Loads t by ⊎ LoadsCases t cs
  cases_load t by end_of-Case f = inr f
  cases_load t by (more_of-Case test child rest) (inl f) = inr (inl f)
  cases_load t by (more_of-Case test child rest) (inr (inl f)) = ⊎_elim (λ a. inl a) (λ b. inr (inr (inl b))) (moved_loads t by child f)
  cases_load t by (more_of-Case test child rest) (inr (inr f)) = ⊎_elim (λ a. inl a) (λ b. inr (inr (inr b))) (cases_load t by rest f)

-- ---- own locals
mutual
  pub moved_owns : (x : ℕ) (by : IExpr) (l : Looplet) → Owns x (moved by l) → Owns x l
  moved_owns x by (Run l) o = o
  moved_owns x by (Spike b t) o = o
  moved_owns x by (Lookup c l) o = o
  moved_owns x by (Sequence' n ps) o = phases_own x by ps o
  moved_owns x by (Stepper' p w) o = walker_owns x by w o
  moved_owns x by (Jumper' p w) o = walker_owns x by w o
  moved_owns x by (Switch' n cs) o = cases_own x by cs o
  moved_owns x by (Shift' by2 p (more_of-Looplet child end_of-Looplet)) o = moved_owns x (plus by by2) child o

  phases_own : {n : _} (x : ℕ) (by : IExpr) (ps : Row_of-Phase n) → OwnsPhases x (moved_phases by ps) → OwnsPhases x ps
  phases_own x by end_of-Phase o = o
  phases_own x by (more_of-Phase stop child rest) o = ⊎_elim (λ a. inl (moved_owns x by child a)) (λ b. inr (phases_own x by rest b)) o

  walker_owns : {n : _} (x : ℕ) (by : IExpr) (w : Row_of-Walker n) → OwnsWalker x (moved_walker by w) → OwnsWalker x w
  walker_owns x by end_of-Walker o = o
  walker_owns x by (more_of-Walker cursor seek stop child rest) o = ⊎_elim (λ e. inl e) (λ q. ⊎_elim (λ e. inr (inl e)) (λ r. inr (inr (moved_owns x by child r))) q) o

  cases_own : {n : _} (x : ℕ) (by : IExpr) (cs : Row_of-Case n) → OwnsCases x (moved_cases by cs) → OwnsCases x cs
  cases_own x by end_of-Case o = o
  cases_own x by (more_of-Case test child rest) o = ⊎_elim (λ a. inl (moved_owns x by child a)) (λ b. inr (cases_own x by rest b)) o

-- ---- no shift is left
mutual
  pub moved_shift_names : (x : ℕ) (by : IExpr) (l : Looplet) → ShiftNames x (moved by l) → ⊥
  moved_shift_names x by (Run l) o = o
  moved_shift_names x by (Spike b t) o = o
  moved_shift_names x by (Lookup c l) o = o
  moved_shift_names x by (Sequence' n ps) o = phases_shift x by ps o
  moved_shift_names x by (Stepper' p w) o = walker_shift x by w o
  moved_shift_names x by (Jumper' p w) o = walker_shift x by w o
  moved_shift_names x by (Switch' n cs) o = cases_shift x by cs o
  moved_shift_names x by (Shift' by2 p (more_of-Looplet child end_of-Looplet)) o = moved_shift_names x (plus by by2) child o

  phases_shift : {n : _} (x : ℕ) (by : IExpr) (ps : Row_of-Phase n) → ShiftNamesPhases x (moved_phases by ps) → ⊥
  phases_shift x by end_of-Phase o = o
  phases_shift x by (more_of-Phase stop child rest) o = ⊎_elim (λ a. moved_shift_names x by child a) (λ b. phases_shift x by rest b) o

  walker_shift : {n : _} (x : ℕ) (by : IExpr) (w : Row_of-Walker n) → ShiftNamesWalker x (moved_walker by w) → ⊥
  walker_shift x by end_of-Walker o = o
  walker_shift x by (more_of-Walker cursor seek stop child rest) o = moved_shift_names x by child o

  cases_shift : {n : _} (x : ℕ) (by : IExpr) (cs : Row_of-Case n) → ShiftNamesCases x (moved_cases by cs) → ⊥
  cases_shift x by end_of-Case o = o
  cases_shift x by (more_of-Case test child rest) o = ⊎_elim (λ a. moved_shift_names x by child a) (λ b. cases_shift x by rest b) o

mutual
  pub moved_nested : (by : IExpr) (l : Looplet) → Nested l → Nested (moved by l)
  moved_nested by (Run l) h = tt
  moved_nested by (Spike b t) h = tt
  moved_nested by (Lookup c l) h = tt
  moved_nested by (Sequence' n ps) h = phases_nested by ps h
  moved_nested by (Stepper' p w) h = walker_nested by w h
  moved_nested by (Jumper' p w) h = walker_nested by w h
  moved_nested by (Switch' n cs) h = cases_nested by cs h
  moved_nested by (Shift' by2 p (more_of-Looplet child end_of-Looplet)) h = moved_nested (plus by by2) child h

  phases_nested : {n : _} (by : IExpr) (ps : Row_of-Phase n) → NestedPhases ps → NestedPhases (moved_phases by ps)
  phases_nested by end_of-Phase h = tt
  phases_nested by (more_of-Phase stop child rest) h = (moved_nested by child h.0, phases_nested by rest h.1)

  walker_nested : {n : _} (by : IExpr) (w : Row_of-Walker n) → NestedWalker w → NestedWalker (moved_walker by w)
  walker_nested by end_of-Walker h = tt
  walker_nested by (more_of-Walker cursor seek stop child rest) h = (((λ o. h.0.0 (moved_owns cursor by child o)), (λ o. h.0.1 (moved_owns (cursor + 1) by child o))), moved_nested by child h.1)

  cases_nested : {n : _} (by : IExpr) (cs : Row_of-Case n) → NestedCases cs → NestedCases (moved_cases by cs)
  cases_nested by end_of-Case h = tt
  cases_nested by (more_of-Case test child rest) h = (moved_nested by child h.0, cases_nested by rest h.1)

-- where the distance names no own local
pub moved_separate : (by : IExpr) (l : Looplet) → ((x : ℕ) → Owns x l → Names x by → ⊥) → Separate l → Separate (moved by l)
moved_separate by l clear s = record {
  nested = moved_nested by l s.nested;
  bound = λ x o f. ⊎_elim (λ n. clear x (moved_owns x by l o) n) (λ g. s.bound x (moved_owns x by l o) g) (moved_free x by l f);
  unshifted = λ x o n. moved_shift_names x by l n;
}
