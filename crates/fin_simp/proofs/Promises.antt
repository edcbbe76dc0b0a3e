-- What simplification promises.
use Rattle.std.proofs.Common.{◌≡◌, true, false, List, [], ◌∷◌, map, refl, sym, ap, ◌∙◌}
use Rattle.fin_ast.specs.declared.tree.Stmt.{Stmt}
use Rattle.fin_ast.specs.Value.{Numbers}
use Rattle.fin_ast.specs.Dense as dense
use Rattle.fin_ast.specs.Dense.{Made, Setting, State}
use Rattle.fin_simp.specs.Numbered.{Here}
use Rattle.fin_simp.specs.Left.{Marks}
use Rattle.fin_simp.specs.Simplified.{simplified_all}
use Rattle.fin_simp.specs.Remaining.{are_nothing}
use Rattle.fin_ast.specs.Literals.{all_hold, is_worded_stmt}
use Rattle.fin_simp.specs.Wording.{KnowsWords}
use Rattle.fin_simp.specs.Worthy.{IsWorthy, WordNumbers}
use Rattle.fin_simp.specs.Right.{are_right}
use Rattle.fin_simp.specs.Laws.{AreGood, IsMarkedWell, SimplifiedMeansTheSame, NothingMakesNothing, NothingIsLeft, NothingStaysNothing}
use Rattle.fin_simp.proofs.Staying.{nothing_all_stays}
use Rattle.fin_simp.proofs.Worth.{wordy_is_worthy}
use Rattle.fin_simp.proofs.Vanishing.{is_none_of, nothing_are}
use Rattle.fin_simp.proofs.Makings.{run_all_makes}
use Rattle.fin_simp.proofs.Agreeing.{all_simplifies}
use Rattle.fin_simp.proofs.Judging.{SameUnknown, right_marks_all}

none_left : (xs : List Stmt) → is_none_of xs ≡ true → xs ≡ []
none_left [] h = refl
none_left (x ∷ xs) h = let y : false ≡ true = h in cc

same_numbers : (m : Marks) (vars : Numbers) → SameUnknown m vars vars
same_numbers m vars = record { long = refl; same = λ x h. refl }

module _ (w : Setting) (Q : Made → Type 0) (worthy : IsWorthy w Q) (body : List Stmt) (worded : all_hold (map is_worded_stmt body) ≡ true) (h : Here) (m : Marks) (knows : KnowsWords m) (vars : Numbers) (words : WordNumbers vars) (st : State) (good : Q st.made) (right : are_right w body h m vars st.made ≡ true) where
  -- a body and its simplified form make the same by dense evaluation, where the marks are right along the run
  pub same_meaning : (dense.run_all w (simplified_all body h m) vars st).made ≡ (dense.run_all w body vars st).made
  same_meaning =
      run_all_makes w (simplified_all body h m) vars st
      ∙ all_simplifies w Q worthy body worded h m knows vars st.made words good
      ∙ right_marks_all w body h m vars vars st.made (same_numbers m vars) right
      ∙ sym (run_all_makes w body vars st)

  -- a body that is nothing makes nothing
  pub nothing_made : are_nothing body h m ≡ true → (dense.run_all w body vars st).made ≡ st.made
  nothing_made e = sym same_meaning ∙ ap (λ (xs : List Stmt). (dense.run_all w xs vars st).made) (none_left (simplified_all body h m) (sym (nothing_are body h m) ∙ e))

module _ (w : Setting) (body : List Stmt) (h : Here) (m : Marks) (vars : Numbers) (s : State) (q : IsMarkedWell w body h m vars s) where
  meaning : (dense.run_all w (simplified_all body h m) vars s).made ≡ (dense.run_all w body vars s).made
  meaning = same_meaning w AreGood (wordy_is_worthy w q.setting) body q.literals h m q.known vars q.numbers s q.made q.right

  nothing : are_nothing body h m ≡ true → (dense.run_all w body vars s).made ≡ s.made
  nothing e = nothing_made w AreGood (wordy_is_worthy w q.setting) body q.literals h m q.known vars q.numbers s q.made q.right e

pub means_the_same : SimplifiedMeansTheSame
means_the_same = meaning

pub makes_nothing : NothingMakesNothing
makes_nothing = nothing

nothing_none : (xs : List Stmt) → xs ≡ [] → is_none_of xs ≡ true
nothing_none xs e = ap is_none_of e

pub is_left : NothingIsLeft
is_left body h m = (λ e. none_left (simplified_all body h m) (sym (nothing_are body h m) ∙ e), λ e. nothing_are body h m ∙ nothing_none (simplified_all body h m) e)

pub stays_nothing : NothingStaysNothing
stays_nothing body h m m' q w f p = nothing_all_stays body q h m m' w f p
