-- Each program has a completion, which is a program.
use Rattle.std.proofs.Common.{◌≡◌, ◌∙◌, ◌≤◌, ℕ, ap, refl, subst, sym}
use Rattle.fin_ast.specs.declared.program.Program.{Program}
use Rattle.fin_ast.specs.Bindings.{counts_from}
use Rattle.fin_ast.specs.Insertion.{completed_program}
use Rattle.fin_life.proofs.Kept.{bindings_kept, depth_kept, names_kept, words_kept}

pub completion : (p : Program) → (whole : Program) × (whole.headers ≡ p.headers) × (whole.body ≡ completed_program p) × (whole.last ≡ p.last)
completion p = (
  record {
    headers = p.headers;
    body = completed_program p;
    last = p.last;
    few = p.few;
    distinct = p.distinct;
    numbered = ap (counts_from 0) (bindings_kept p) ∙ p.numbered;
    named = names_kept p ∙ p.named;
    shallow = subst (λ (n : ℕ). n ≤ 16) (sym (depth_kept p)) p.shallow;
    worded = words_kept p ∙ p.worded;
  },
  refl,
  refl,
  refl,
)
