-- A run that makes too many turns makes them in some statement, and then in all that stands around it.
use Rattle.std.proofs.Common.{◌≡◌, ℕ, ◌+◌, ◌-◌, ◌<◌, ◌≤◌, sym, ap, ◌∙◌, subst, arith, List, ◌∷◌, pos, get_or, length, drop, drop-cons, add-one}
use Rattle.std.specs.Prelude.{slice_set}
use Rattle.fin_ast.specs.declared.tree.Stmt.{Stmt}
use Rattle.fin_ast.specs.Value.{Numbers}
use Rattle.fin_ast.specs.Dense.{Setting, State, braced, ticked, repeated, looped, range_of, run_of, run_all}
use Rattle.fin_ast.proofs.Turns.{braced_rises, repeated_rises, run_all_rises, turn_more, turn_first}

module _ (w : Setting) (vars : Numbers) (budget : ℕ) where
  pub stops_in : (body : List Stmt) (i : ℕ) (d s : Stmt) (st : State) → i < length body → s ≡ get_or body i d → budget < (run_of w s vars st).turns → budget < (run_all w (drop i body) vars st).turns
  stops_in body i d s st h e p =
      let opened : drop i body ≡ get_or body i d ∷ drop (i + 1) body = rw add-one (drop-cons body i d h) in
      let whole : (run_all w (drop i body) vars st).turns ≡ (run_all w (s ∷ drop (i + 1) body) vars st).turns = ap (λ (b : List Stmt). (run_all w b vars st).turns) (opened ∙ ap (λ (t : Stmt). t ∷ drop (i + 1) body) (sym e)) in
      omega (arith, whole, run_all_rises w (drop (i + 1) body) vars (run_of w s vars st))

  pub stops_before : (body : List Stmt) (i var hi : ℕ) (st : State) → i < hi → budget ≤ st.turns → budget < (repeated (hi - i) i var (braced (run_all w body)) vars st).turns
  stops_before body i var hi st h p = omega (arith, turn_more (hi - i) i var (braced (run_all w body)) (braced_rises (run_all w body) (run_all_rises w body)) (omega arith) vars st)

  pub stops_inside : (body : List Stmt) (i var hi : ℕ) (st : State) → i < hi → budget < (braced (run_all w body) (slice_set vars var (pos i)) (ticked st)).turns → budget < (repeated (hi - i) i var (braced (run_all w body)) vars st).turns
  stops_inside body i var hi st h p =
      let whole = ap (λ (s : State). s.turns) (turn_first hi i var (braced (run_all w body)) vars st h) in
      omega (arith, whole, repeated_rises (hi - (i + 1)) (i + 1) var (braced (run_all w body)) (braced_rises (run_all w body) (run_all_rises w body)) vars (braced (run_all w body) (slice_set vars var (pos i)) (ticked st)))

  pub stops_looped : (body : List Stmt) (i var : ℕ) (range : ℕ × ℕ) (st st0 : State) → range ≡ range_of w var → repeated (range.1 - i) i var (braced (run_all w body)) vars st ≡ repeated (range.1 - range.0) range.0 var (braced (run_all w body)) vars st0 → budget < (repeated (range.1 - i) i var (braced (run_all w body)) vars st).turns → budget < (looped (range_of w var) var (braced (run_all w body)) vars st0).turns
  stops_looped body i var range st st0 e rest p =
      subst (λ (r : ℕ × ℕ). budget < (looped r var (braced (run_all w body)) vars st0).turns) e (subst (λ (s : State). budget < s.turns) rest p)
