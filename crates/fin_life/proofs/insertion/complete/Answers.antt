use Rattle.std.proofs.Common.{◌≡◌, ◌∙◌, ap, sym, subst, List, ℕ, ◌≤◌}
use Rattle.fin_ast.specs.declared.header.Header.{Header}
use Rattle.fin_ast.specs.declared.program.Program.{Program}
use Rattle.fin_ast.specs.declared.tree.Stmt.{Stmt}
use Rattle.fin_ast.specs.Insertion.{completed_program}
use Rattle.fin_life.specs.Completing.{carried_program}
use Rattle.fin_ast.specs.Bindings.{counts_from, bindings_of_all}
use Rattle.fin_ast.specs.Scope.{are_named, outermost}
use Rattle.fin_ast.specs.Depth.{depth_of_all}
use Rattle.fin_ast.specs.Literals.{are_worded}
use Rattle.fin_life.proofs.Inserted.{insertion_is}
use Rattle.fin_life.proofs.Kept.{bindings_kept, names_kept, depth_kept, words_kept}
use Rattle.fin_life.proofs.insertion.complete.Goals as goal

is_completed : (p : Program) (body ss : List Stmt) (hs : List Header) → body ≡ carried_program hs ss p.last → hs ≡ p.headers → ss ≡ p.body → body ≡ completed_program p
is_completed p body ss hs e eh es =
    e
    ∙ ap (λ (x : List Header). carried_program x ss p.last) eh
    ∙ ap (λ (x : List Stmt). carried_program p.headers x p.last) es
    ∙ insertion_is p

pub invariant_of-result-clause-few : goal.invariant_of-result-clause-few
invariant_of-result-clause-few c = c.args.program.few

pub invariant_of-result-clause-numbered : goal.invariant_of-result-clause-numbered
invariant_of-result-clause-numbered c =
    ap (λ (ss : List Stmt). counts_from 0 (bindings_of_all ss)) (is_completed c.args.program _ _ _ c.in_ok-body.ensures c.as_slice.ensures c.as_slice-2.ensures)
    ∙ ap (counts_from 0) (bindings_kept c.args.program)
    ∙ c.args.program.numbered

pub invariant_of-result-clause-named : goal.invariant_of-result-clause-named
invariant_of-result-clause-named c =
    ap (λ (ss : List Stmt). are_named ss (outermost c.args.program.headers)) (is_completed c.args.program _ _ _ c.in_ok-body.ensures c.as_slice.ensures c.as_slice-2.ensures)
    ∙ names_kept c.args.program
    ∙ c.args.program.named

pub invariant_of-result-clause-worded : goal.invariant_of-result-clause-worded
invariant_of-result-clause-worded c =
    ap are_worded (is_completed c.args.program _ _ _ c.in_ok-body.ensures c.as_slice.ensures c.as_slice-2.ensures)
    ∙ words_kept c.args.program
    ∙ c.args.program.worded

pub invariant_of-result-clause-shallow : goal.invariant_of-result-clause-shallow
invariant_of-result-clause-shallow c =
    subst (λ (n : ℕ). n ≤ 16) (sym (ap depth_of_all (is_completed c.args.program _ _ _ c.in_ok-body.ensures c.as_slice.ensures c.as_slice-2.ensures) ∙ depth_kept c.args.program)) c.args.program.shallow

pub returns-clause-body : goal.returns-clause-body
returns-clause-body c = is_completed c.args.program _ _ _ c.in_ok-body.ensures c.as_slice.ensures c.as_slice-2.ensures
