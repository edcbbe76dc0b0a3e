-- Codes of a whole program's statements are named in its layout.
use Rattle.std.proofs.Common.{◌≡◌, ℕ, ◌+◌, ◌≤◌, true, false, List, [], ◌∷◌, length, refl, arith}
use Rattle.std.specs.Prelude.{◌==◌}
use Rattle.std.proofs.lemmas.Bool.{eqb-true}
use Rattle.fin_ast.specs.declared.checked.Checked.{Checked}
use Rattle.fin_ast.specs.Bindings.{bindings_of_all, counts_from}
use Rattle.fin_ast.specs.Scope.{outermost}
use Rattle.fin_stage.proofs.Alive.{left, right}
use Rattle.fin_perform.specs.Layouts.{variables_in}
use Rattle.fin_perform.specs.Naming.{IsScope, AllBelow, ProgramsAreNamed}
use Rattle.fin_perform.proofs.Programs.{enough}

-- variables that are numbered one after another are as many as there are
counted_below : (n k : ℕ) (vs : List ℕ) → counts_from k vs ≡ true → k + length vs ≤ n → AllBelow n vs
counted_below n k [] e le = tt
counted_below n k (v ∷ vs) e le =
    let same : v ≡ k = eqb-true v k (left (v == k) (counts_from (k + 1) vs) e) in
    (omega (arith, same, le), counted_below n (k + 1) vs (right (v == k) (counts_from (k + 1) vs) e) (omega (arith, le)))

scope : (c : Checked) → IsScope c (outermost c.program.headers) (variables_in c)
scope c = record { headers = refl; within = λ x e. absurd (let h : false ≡ true = e in cc); after = omega arith }

pub programs_are_named : ProgramsAreNamed
programs_are_named c need cs accepted named room le =
    named room (outermost c.program.headers) le (scope c) (counted_below (variables_in c) 0 (bindings_of_all c.program.body) c.program.numbered (enough c accepted)) c.program.named
