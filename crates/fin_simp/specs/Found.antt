-- What the walk over reads finds.
use Rattle.std.specs.Prelude.{◌≡◌, ℕ, Bool, true, List, map}
use Rattle.std.specs.List.{list_all}
use Rattle.fin_ast.specs.declared.tree.Expr.{Expr}
use Rattle.fin_ast.specs.declared.tree.Stmt.{Stmt}
use Rattle.fin_simp.specs.declared.reads.ExprReads.{ExprReads}
use Rattle.fin_simp.specs.Numbered.{Here}
use Rattle.fin_simp.specs.Left.{Marks}
use Rattle.fin_simp.specs.Simplified.{simplified}
use Rattle.fin_simp.specs.Remaining.{is_nothing}
use Rattle.fin_simp.specs.Rest.{Access, ExprRest, expr_rest, rest_of, written}
use Rattle.fin_simp.specs.Reads.{reads_of_expr, reads_of}
use Rattle.fin_simp.specs.Mentions.{Mention, in_body}

abbrev pub numbers_of : List Access → List ℕ
numbers_of reads = map (λ (a : Access). a.read) reads

abbrev pub reads_in : ExprRest → ExprReads
reads_in r = record { literal = r.literal; reads = numbers_of r.reads }

-- of an expression the literal and the reads that remain; of a statement, nothing where nothing is left of it
pub record ReadsAreFound : Type 0 where
  pub exprs : (x : Expr) (k : ℕ) (m : Marks) → reads_of_expr x k m ≡ reads_in (expr_rest x k m)
  pub nothing : (x : Stmt) (h : Here) (m : Marks) → (reads_of x h m).nothing ≡ is_nothing x h m

-- without their numbers
abbrev pub mentioned : List Access → List Mention
mentioned reads = map (λ (a : Access). (a.tensor, a.at)) reads

-- some reads of a statement, that are the reads of its simplified text, in order
pub record Remain (x : Stmt) (h : Here) (m : Marks) (reads : List Access) : Type 0 where
  pub text : mentioned reads ≡ in_body (simplified x h m)
  pub written : (p : Access → Bool) → list_all p (written x h).reads ≡ true → list_all p reads ≡ true

-- by their numbers these are what the walk finds
abbrev pub ReadsRemain : Type 0
ReadsRemain = (x : Stmt) (h : Here) (m : Marks) → Remain x h m (rest_of x h m).reads × ((reads_of x h m).reads ≡ numbers_of (rest_of x h m).reads)
