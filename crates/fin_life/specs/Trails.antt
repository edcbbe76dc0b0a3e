-- The rules on the order of updates, statement by statement.
use Rattle.std.specs.Prelude.{ℕ, List, [], ◌∷◌, ◌++◌, length, map, drop, Option, None, option_map, slice_get}
use Rattle.std.specs.Option.{option_or}
use Rattle.fin_base.specs.declared.refusal.Refusal.{Refusal}
use Rattle.fin_ast.specs.declared.header.Header.{Header}
use Rattle.fin_ast.specs.declared.tree.Index.{Index}
use Rattle.fin_ast.specs.declared.tree.Stmt.{Stmt, fold-Stmt}
use Rattle.fin_ast.specs.declared.tree.Stmt.TheOpen.{Stmt-F}
use Rattle.fin_ast.specs.Choices.{levels_of}
use Rattle.fin_tensor.specs.Order.{ordered_levels}
use Rattle.fin_ast.specs.Order.{order_breach}
use Rattle.fin_life.specs.Tracks.{Tracks, declared, updated}

-- the breach of an update, from the loops around it
abbrev pub update_breach : List Header → ℕ → List Index → ℕ → List ℕ → Tracks → Option Refusal
update_breach headers tensor at line loops tracks = order_breach (ordered_levels (levels_of (slice_get headers tensor))) (drop (tracks.entered tensor) loops) (option_map (drop (tracks.entered tensor)) (tracks.firsts tensor)) at line

-- the first breach of a statement, from the loops around it and what is carried along, and what is carried on
pub record Trail : Type 0 where
  pub breach : List ℕ → Tracks → Option Refusal
  pub after : List ℕ → Tracks → Tracks

abbrev pub breach_along : List Trail → List ℕ → Tracks → Option Refusal
breach_along [] loops tracks = None
breach_along (t ∷ ts) loops tracks = option_or (t.breach loops tracks) (breach_along ts loops (t.after loops tracks))

abbrev pub after_all : List Trail → List ℕ → Tracks → Tracks
after_all [] loops tracks = tracks
after_all (t ∷ ts) loops tracks = after_all ts loops (t.after loops tracks)

abbrev pub stmt_trail : List Header → Stmt-F Trail → Trail
stmt_trail headers (Stmt-F.Block body line last) = record { breach = breach_along body; after = after_all body }
stmt_trail headers (Stmt-F.Loop var range par body line last) = record { breach = λ loops. breach_along body (loops ++ var ∷ []); after = λ loops. after_all body (loops ++ var ∷ []) }
stmt_trail headers (Stmt-F.Cond test body line last) = record { breach = breach_along body; after = after_all body }
stmt_trail headers (Stmt-F.Bind var value body line last) = record { breach = breach_along body; after = after_all body }
stmt_trail headers (Stmt-F.Declare tensor value line) = record { breach = λ loops tracks. None; after = λ loops. declared tensor (length loops) }
stmt_trail headers (Stmt-F.Freeze tensor line) = record { breach = λ loops tracks. None; after = λ loops tracks. tracks }
stmt_trail headers (Stmt-F.Thaw tensor line) = record { breach = λ loops tracks. None; after = λ loops tracks. tracks }
stmt_trail headers (Stmt-F.Update tensor at by value line) = record { breach = update_breach headers tensor at line; after = λ loops. updated tensor loops }

abbrev pub trail_of : List Header → Stmt → Trail
trail_of headers = fold-Stmt Trail (stmt_trail headers)

abbrev pub trails_of : List Header → List Stmt → List Trail
trails_of headers ss = map (trail_of headers) ss

-- at the start of a program
abbrev pub no_tracks : Tracks
no_tracks = record { entered = λ t. 0; firsts = λ t. None }

-- the first breach of a program with these headers and statements
abbrev pub order_of : List Header → List Stmt → Option Refusal
order_of headers ss = breach_along (trails_of headers ss) [] no_tracks
