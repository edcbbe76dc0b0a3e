-- Parts of trees, one by one.
use Rattle.std.proofs.Common.{◌≡◌, ◌≤◌, ℕ, List, [], ◌++◌, map, length, sym, ap, ◌∙◌, arith}
use Rattle.std.proofs.lemmas.Option.{slice_get-map, slice_get_past}
use Rattle.std.proofs.lemmas.List.{append-nil}
use Rattle.fin_parse.specs.declared.tree.Tree.{Tree}
use Rattle.fin_parse.specs.Elaboration.{Elaboration, nothing, part}

-- a part that isn't there stands for nothing
pub absent_part : (f : Tree → Elaboration) (parts : List Tree) (place : ℕ) → length parts ≤ place → part (map f parts) place ≡ nothing
absent_part f parts place h = grind (arith, slice_get-map f parts place, slice_get_past parts place h)

-- and so it adds nothing
pub absent_adds : {A : Type 0} (f : Tree → Elaboration) (parts : List Tree) (place : ℕ) (of : Elaboration → List A) (before : List A) → length parts ≤ place → of nothing ≡ []
    → before ≡ before ++ of (part (map f parts) place)
absent_adds f parts place of before h none = sym (append-nil before) ∙ ap (λ q. before ++ q) (sym none ∙ ap of (sym (absent_part f parts place h)))
