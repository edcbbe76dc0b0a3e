-- Where the names of statements are good, each local and tensor that their codes name is one of the program's layout
-- with as many locals as the codes need.
use Rattle.std.specs.Prelude.{◌≡◌, ℕ, ◌<◌, ◌≤◌, Bool, true, List, [], ◌∷◌, ◌++◌, Option, ℤ}
use Rattle.std.specs.List.{list_all}
use Rattle.fin_base.specs.declared.reduce.Reduce.{Reduce}
use Rattle.fin_ast.specs.declared.checked.Checked.{Checked}
use Rattle.fin_ast.specs.declared.tree.Index.{Index}
use Rattle.fin_ast.specs.declared.tree.Expr.{Expr}
use Rattle.fin_ast.specs.declared.tree.Stmt.{Stmt}
use Rattle.fin_ast.specs.declared.tree.Stmt.TheVariants as s
use Rattle.fin_ast.specs.Accepted.{IsAccepted}
use Rattle.fin_ast.specs.Bindings.{bindings_of, bindings_of_all}
use Rattle.fin_ast.specs.Scope.{Scope, within_loop, within_let, are_named}
use Rattle.fin_ast.specs.Scope as names
use Rattle.fin_ir.specs.declared.code.Code.{Code}
use Rattle.fin_ir.specs.declared.code.Code.TheVariants.{Assign}
use Rattle.fin_ir.specs.declared.expression.IExpr.TheVariants.{Num}
use Rattle.fin_ir.specs.Named.{is_named}
use Rattle.fin_read.specs.Means.{IsWithin}
use Rattle.fin_read.specs.Values.{value_code}
use Rattle.fin_perform.specs.Codes.{declare_code, freeze_code, thaw_code, update_code, unpaid_update, cond_code, literal_code, let_code, end_of}
use Rattle.fin_perform.specs.Layouts.{heads_in, variables_in, layout_with}

-- ---- where names are good

-- a scope of the program where codes are made from a first free local on, which is behind those of the variables
pub record IsScope (c : Checked) (sc : Scope) (next : ℕ) : Type 0 where
  pub headers : sc.headers ≡ c.program.headers
  pub within : IsWithin sc (variables_in c)
  pub after : variables_in c ≤ next

-- each variable is below a number
abbrev pub AllBelow : ℕ → List ℕ → Type 0
AllBelow n [] = Unit {0}
AllBelow n (v ∷ vs) = (v < n) × AllBelow n vs

-- so it is from a later local on, and inside a loop and a let of the program
pub record ScopesInside (c : Checked) (sc : Scope) (next : ℕ) : Type 0 where
  pub later : (more : ℕ) → next ≤ more → IsScope c sc more
  pub in_loop : (v : ℕ) → v < variables_in c → IsScope c (within_loop sc v) next
  pub in_let : (v : ℕ) → v < variables_in c → IsScope c (within_let sc v) next

abbrev pub ScopesGoInside : Type 0
ScopesGoInside = (c : Checked) (sc : Scope) (next : ℕ) → IsScope c sc next → ScopesInside c sc next

-- ---- codes that are named

abbrev pub AreIn : Checked → ℕ → List Code → Type 0
AreIn c room cs = list_all (is_named (layout_with c room)) cs ≡ true

-- From the first free local on, the codes are named where there are as many locals as they need, in each scope in which
-- the names are good and the variables that are bound are the program's.
abbrev pub Names : Checked → ℕ → ℕ → List Code → List ℕ → (Scope → Bool) → Type 0
Names c next need cs bound named = (room : ℕ) (sc : Scope) → need ≤ room → IsScope c sc next
    → AllBelow (variables_in c) bound → named sc ≡ true → AreIn c room cs

-- codes of a statement, and of statements one after another
abbrev pub NamesStmt : Checked → ℕ → ℕ → List Code → Stmt → Type 0
NamesStmt c next need cs x = Names c next need cs (bindings_of x) (names.is_named x)

abbrev pub NamesAll : Checked → ℕ → ℕ → List Code → List Stmt → Type 0
NamesAll c next need cs xs = Names c next need cs (bindings_of_all xs) (are_named xs)

-- ---- with the codes of the parts those of the whole are named

pub record NamesParts (c : Checked) (next need : ℕ) : Type 0 where
  -- where nothing is left there are no codes
  pub none : (bound : List ℕ) (named : Scope → Bool) → Names c next need [] bound named
  -- from an earlier local on, with more of them
  pub more : (next' need' : ℕ) (cs : List Code) (bound : List ℕ) (named : Scope → Bool) → next ≤ next' → need' ≤ need
      → Names c next' need' cs bound named → Names c next need cs bound named
  pub first : (x : Stmt) (xs : List Stmt) (cs : List Code)
      → NamesStmt c next need cs x → NamesAll c next need cs (x ∷ xs)
  pub later : (x : Stmt) (xs : List Stmt) (cs : List Code)
      → NamesAll c next need cs xs → NamesAll c next need cs (x ∷ xs)
  pub joined : (xs ys : List Stmt) (cs ds : List Code) → NamesAll c next need cs xs → NamesAll c next need ds ys
      → NamesAll c next need (cs ++ ds) (xs ++ ys)

pub record NamesLeaves (c : Checked) (next need : ℕ) : Type 0 where
  pub declare : (t : ℕ) (value : ℤ) (line : ℕ)
      → NamesStmt c next need (declare_code (heads_in c) t ∷ []) (s.Declare t value line)
  pub freeze : (t line : ℕ) → NamesStmt c next need (freeze_code (heads_in c) t ∷ []) (s.Freeze t line)
  pub thaw : (t line : ℕ) → NamesStmt c next need (thaw_code (heads_in c) t ∷ []) (s.Thaw t line)
  pub update : (t : ℕ) (at : List Index) (by : Reduce) (value : Expr) (line : ℕ)
      → end_of (value_code (heads_in c) value next) ≤ need
      → NamesStmt c next need (update_code (heads_in c) t at by (value_code (heads_in c) value next) ∷ [])
      (s.Update t at by value line)
  pub unpaid : (t : ℕ) (at : List Index) (by : Reduce) (value : Expr) (line : ℕ)
      → end_of (value_code (heads_in c) value next) ≤ need
      → NamesStmt c next need (unpaid_update (heads_in c) t at by (value_code (heads_in c) value next))
      (s.Update t at by value line)

pub record NamesBodies (c : Checked) (next need : ℕ) : Type 0 where
  pub block : (xs : List Stmt) (line last : ℕ) (cs : List Code)
      → NamesAll c next need cs xs → NamesStmt c next need cs (s.Block xs line last)
  -- in the scope around the loop
  pub loop : (var : ℕ) (range : Option (ℕ × ℕ)) (par : Bool) (xs : List Stmt) (line last : ℕ) (cs : List Code)
      → Names c next need cs (var ∷ bindings_of_all xs) (λ sc. are_named xs (within_loop sc var))
      → NamesStmt c next need cs (s.Loop var range par xs line last)
  -- of a test that is known, and of one that is asked
  pub known : (test : Expr) (xs : List Stmt) (line last : ℕ) (cs : List Code) → NamesAll c next need cs xs
      → NamesStmt c next need cs (s.Cond test xs line last)
  pub asked : (test : Expr) (xs : List Stmt) (line last : ℕ) (cs : List Code)
      → end_of (value_code (heads_in c) test next) ≤ need → NamesAll c next need cs xs
      → NamesStmt c next need (cond_code (value_code (heads_in c) test next) cs ∷ []) (s.Cond test xs line last)
  -- of a let of a literal, by itself and before an update that pays nothing, and of any other
  pub literal : (var : ℕ) (value : Expr) (xs : List Stmt) (line last : ℕ) (n : ℤ) (cs : List Code) → next ≤ need
      → NamesAll c next need cs xs → NamesStmt c next need (literal_code var n cs ∷ []) (s.Bind var value xs line last)
  pub assigned : (var : ℕ) (value : Expr) (xs : List Stmt) (line last : ℕ) (n : ℤ) (cs : List Code) → next ≤ need
      → NamesAll c next need cs xs → NamesStmt c next need (Assign var (Num n) ∷ cs) (s.Bind var value xs line last)
  pub evaluated : (var : ℕ) (value : Expr) (xs : List Stmt) (line last : ℕ) (cs : List Code)
      → end_of (value_code (heads_in c) value next) ≤ need → NamesAll c next need cs xs
      → NamesStmt c next need (let_code var (value_code (heads_in c) value next) cs ∷ [])
      (s.Bind var value xs line last)

abbrev pub CodesAreNamed : Type 0
CodesAreNamed = (c : Checked) (next need : ℕ)
    → NamesParts c next need × NamesLeaves c next need × NamesBodies c next need

-- ---- a whole program

-- codes of an accepted program's statements, with a local for each variable before their own
abbrev pub ProgramsAreNamed : Type 0
ProgramsAreNamed = (c : Checked) (need : ℕ) (cs : List Code) → IsAccepted c
    → NamesAll c (variables_in c) need cs c.program.body → (room : ℕ) → need ≤ room → AreIn c room cs
