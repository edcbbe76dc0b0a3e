-- The tensors that statements declare are told beside their runs as they are written.
use Rattle.std.proofs.Common.{◌≡◌, ℕ, List, [], ◌∷◌, map, refl, sym, ap, ◌∙◌}
use Rattle.std.specs.List.{concat}
use Rattle.fin_ast.specs.declared.tree.Stmt.{Stmt}
use Rattle.fin_ast.proofs.Nodes as node
use Rattle.fin_ast.proofs.Induction.{AllOf, Cases, all_by_kind}
use Rattle.fin_simp.specs.Numbered.{Here, behind, behind_test, past_stmt, numbered}
use Rattle.fin_simp.specs.Fresh.{fresh_step, fresh_of, fresh_in}
use Rattle.fin_simp.specs.Work.{World, Worked, work_step, all_fresh}
use Rattle.fin_simp.specs.Moving.{worked_all}
use Rattle.fin_simp.proofs.Equations.{at_block, at_loop, at_cond, at_bind, at_declare, at_freeze, at_thaw, at_update}

module _ (w : World) where
  abbrev fresh : Worked → List ℕ
  fresh s = s.fresh

  abbrev Same : Stmt → Type 0
  Same x = (h : Here) → fresh (numbered Worked (work_step w) x h) ≡ fresh_of x

  bodies : (body : List Stmt) → AllOf Same body → (h : Here) → map fresh (worked_all w body h) ≡ map fresh_of body
  bodies [] all h = refl
  bodies (x ∷ xs) all h = ap (λ (ts : List ℕ). ts ∷ map fresh (worked_all w xs (past_stmt x h))) (all.0 h) ∙ ap (λ (rest : List (List ℕ)). fresh_of x ∷ rest) (bodies xs all.1 (past_stmt x h))

  same_cases : Cases Same
  same_cases = record {
    block = λ body line last all h. ap fresh (at_block Worked (work_step w) body line last h) ∙ ap concat (bodies body all h) ∙ sym (node.of_block (List ℕ) fresh_step body line last);
    loop = λ var range par body line last all h. ap fresh (at_loop Worked (work_step w) var range par body line last h) ∙ ap concat (bodies body all h)
        ∙ sym (node.of_loop (List ℕ) fresh_step var range par body line last);
    cond = λ test body line last all h. ap fresh (at_cond Worked (work_step w) test body line last h) ∙ ap concat (bodies body all (behind_test test h))
        ∙ sym (node.of_cond (List ℕ) fresh_step test body line last);
    bind = λ var value body line last all h. ap fresh (at_bind Worked (work_step w) var value body line last h) ∙ ap concat (bodies body all (behind value h))
        ∙ sym (node.of_bind (List ℕ) fresh_step var value body line last);
    declare = λ tensor value line h. ap fresh (at_declare Worked (work_step w) tensor value line h) ∙ sym (node.of_declare (List ℕ) fresh_step tensor value line);
    freeze = λ tensor line h. ap fresh (at_freeze Worked (work_step w) tensor line h) ∙ sym (node.of_freeze (List ℕ) fresh_step tensor line);
    thaw = λ tensor line h. ap fresh (at_thaw Worked (work_step w) tensor line h) ∙ sym (node.of_thaw (List ℕ) fresh_step tensor line);
    update = λ tensor at by value line h. ap fresh (at_update Worked (work_step w) tensor at by value line h) ∙ sym (node.of_update (List ℕ) fresh_step tensor at by value line);
  }

  pub all_fresh_are : (body : List Stmt) (h : Here) → all_fresh (worked_all w body h) ≡ fresh_in body
  all_fresh_are body h = ap concat (bodies body (all_by_kind Same same_cases body) h)
