-- What a parallel loop does to outer tensors, in the order of its text.
use Rattle.std.specs.Prelude.{ℕ, Bool, true, false, List, [], ◌∷◌, ◌++◌, slice_get}
use Rattle.fin_ast.specs.declared.tree.Stmt.TheOpen.{Stmt-F}
use Rattle.fin_parcheck.specs.declared.deeds.Deed.{Deed}
use Rattle.fin_parcheck.specs.declared.deeds.Deed.TheVariants.{Update, Turn, Nested}

-- the tensors that are declared at a place, by their numbers
abbrev pub Tensors : Type 0
Tensors = ℕ → Bool

-- the deeds up to the end of a part, from those before it
abbrev pub Doing : Type 0
Doing = List Deed → List Deed

-- a deed counts where it is done to an outer tensor
abbrev pub done_to : Bool → Deed → Doing
done_to true deed before = before ++ deed ∷ []
done_to false deed before = before

abbrev pub in_turn : List (Tensors → Doing) → Tensors → Doing
in_turn [] outer before = before
in_turn (part ∷ rest) outer before = in_turn rest outer (part outer before)

-- updates, freezes and thaws of outer tensors, and parallel loops
abbrev pub stmt_deeds : Stmt-F (Tensors → Doing) → Tensors → Doing
stmt_deeds (Stmt-F.Block body line last) outer before = in_turn body outer before
stmt_deeds (Stmt-F.Loop var range par body line last) outer before = in_turn body outer (done_to par (Nested line) before)
stmt_deeds (Stmt-F.Cond test body line last) outer before = in_turn body outer before
stmt_deeds (Stmt-F.Bind var value body line last) outer before = in_turn body outer before
stmt_deeds (Stmt-F.Declare tensor value line) outer before = before
stmt_deeds (Stmt-F.Freeze tensor line) outer before = done_to (outer tensor) (Turn line) before
stmt_deeds (Stmt-F.Thaw tensor line) outer before = done_to (outer tensor) (Turn line) before
stmt_deeds (Stmt-F.Update tensor at by value line) outer before = done_to (outer tensor) (Update tensor (slice_get at 0) by line) before
