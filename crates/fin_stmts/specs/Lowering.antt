-- What the codes of statements are.
use Rattle.std.specs.Prelude.{◌≡◌, ℕ, ◌≤◌, true, false, List, [], ◌∷◌, map}
use Rattle.fin_ast.specs.declared.checked.Checked.{Checked}
use Rattle.fin_ast.specs.declared.tree.Stmt.{Stmt}
use Rattle.fin_ast.specs.Scope.{is_among}
use Rattle.fin_ir.specs.Declares.{declares, some_of}
use Rattle.fin_nest.specs.Sparing.{Staying, all_spare, spares}
use Rattle.fin_simp.specs.Fresh.{fresh_of, fresh_in}
use Rattle.fin_simp.specs.Numbered.{Here}
use Rattle.fin_perform.specs.Appending.{StaysOff}
use Rattle.fin_perform.specs.Meanings.{Deed, Means, stmt_deed, turns_deed}
use Rattle.fin_perform.specs.Naming.{Names}
use Rattle.fin_perform.specs.Working.{nothing_in}
use Rattle.fin_loops.specs.Sources.{IsSource}
use Rattle.fin_stmts.specs.declared.place.Place.{Place}
use Rattle.fin_stmts.specs.declared.place.Codes.{Codes}
use Rattle.fin_stmts.specs.Places.{context_of, here_of}

-- An accepted program has this of its body, and hands it down to the bodies in it.
abbrev pub HasSource : Checked → List Stmt → Here → Type 0
HasSource c xs h = (v : ℕ) × IsSource c xs h v

-- Codes of a deed, from a first free local on: they mean it, where the program has what is asked of it, in any machine
-- leave what stays off it, declare only these tensors, and are named where the deed's names are good.
pub record Lowers (asked : Type 0) (c : Checked) (next : ℕ) (m : Codes) (d : Deed) (own : List ℕ) : Type 0 where
  pub means : asked → Means c next m.room m.codes d
  pub spares : (s : Staying) → StaysOff s next d.bound d.written → all_spare (map (spares s) m.codes) ≡ true
  pub declares : (t : ℕ) → some_of (map declares m.codes) t ≡ true → is_among own t ≡ true
  pub names : Names c next m.room m.codes d.bound d.named
  pub room : next ≤ m.room

-- of a statement at a place
abbrev pub LowersOne : Checked → Place → Codes → Stmt → Type 0
LowersOne c p m x = Lowers (HasSource c (x ∷ []) (here_of p)) c p.next m (stmt_deed x (here_of p) (context_of p)) (fresh_of x)

-- of which something is left
abbrev pub LowersSome : Checked → Place → Codes → Stmt → Type 0
LowersSome c p m x = nothing_in x (here_of p) (context_of p) ≡ false → LowersOne c p m x

-- of statements one after another
abbrev pub LowersAll : Checked → Place → Codes → List Stmt → Type 0
LowersAll c p m xs = Lowers (HasSource c xs (here_of p)) c p.next m (turns_deed xs (here_of p) (context_of p)) (fresh_in xs)
