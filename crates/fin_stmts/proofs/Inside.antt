-- What is known inside a let is words, and what a place inside another is.
use Rattle.std.proofs.Common.{◌≡◌, ℕ, zero, suc, ◌<◌, Bool, true, false, List, [], ◌∷◌, length, get_or, Option, Some, None, ℤ, refl, sym, ap, subst, ◌∙◌, w64, to_z, of_z, arith}
use Rattle.std.proofs.lemmas.Int.{to_z-of_z}
use Rattle.std.specs.Prelude.{IfSome, is_some}
use Rattle.fin_base.specs.Words.{IsWord}
use Rattle.fin_ast.specs.declared.checked.Checked.{Checked}
use Rattle.fin_ast.specs.declared.tree.Expr.{Expr}
use Rattle.fin_ast.specs.declared.tree.Stmt.{Stmt}
use Rattle.fin_ast.specs.Literals.{is_worded, is_worded_stmt, are_worded}
use Rattle.fin_stage.proofs.Alive.{left, right}
use Rattle.fin_simp.specs.declared.facts.Bound.{Bound}
use Rattle.fin_simp.specs.declared.facts.Facts.{Facts}
use Rattle.fin_simp.specs.Numbered.{Here, here_at}
use Rattle.fin_simp.specs.Work.{Context, inside}
use Rattle.fin_simp.specs.Wording.{KnowsWords}
use Rattle.fin_simp.proofs.Literals.{rest_literal}
use Rattle.fin_simp.proofs.Staying.{literal_is_word, binding_words}
use Rattle.fin_perform.specs.Working.{literal_at, nothing_in}
use Rattle.fin_stmts.specs.declared.place.Place.{Place}
use Rattle.fin_stmts.specs.declared.place.Codes.{Codes}
use Rattle.fin_stmts.specs.Lowering.{LowersOne, LowersSome}
use Rattle.fin_stmts.specs.Places.{context_of, here_of, is_with}

-- ---- statements of a body

pub item_worded : (xs : List Stmt) (i : ℕ) (x d : Stmt) → i < length xs → x ≡ get_or xs i d → are_worded xs ≡ true → is_worded_stmt x ≡ true
item_worded [] i x d lt e w = absurd (omega (arith, lt))
item_worded (y ∷ xs) zero x d lt e w = ap is_worded_stmt e ∙ left (is_worded_stmt y) (are_worded xs) w
item_worded (y ∷ xs) (suc i) x d lt e w = item_worded xs i x d (omega (arith, lt)) e (right (is_worded_stmt y) (are_worded xs) w)

-- ---- numbers

pub same_here : (read read' test test' : ℕ) → read ≡ read' → test ≡ test' → here_at read test ≡ here_at read' test'
same_here read read' test test' e f = ap (λ (k : ℕ). here_at k test) e ∙ ap (here_at read') f

-- ---- what is settled

pub settled : (o : Option ℤ) (b : Bool) → b ≡ is_some o → b ≡ true → (n : ℤ) × (o ≡ Some n)
settled None b is e = let h : false ≡ true = sym is ∙ e in cc
settled (Some n) b is e = (n, refl)

pub unsettled : (o : Option ℤ) (b : Bool) → b ≡ is_some o → b ≡ false → o ≡ None
unsettled None b is e = refl
unsettled (Some n) b is e = let h : true ≡ false = sym is ∙ e in cc

-- ---- what is known inside

pub literal_word : (x : Expr) (h : Here) (ctx : Context) → is_worded x ≡ true → IfSome ctx KnowsWords → IfSome (literal_at x h ctx) IsWord
literal_word x h None worded words = tt
literal_word x h (Some m) worded words = subst (λ (o : Option ℤ). IfSome o IsWord) (sym (rest_literal x h.read m)) (literal_is_word x worded h.read m words)

pub inside_words : (x : Expr) (h : Here) (ctx : Context) (var : ℕ) → is_worded x ≡ true → IfSome ctx KnowsWords → IfSome (inside ctx var (literal_at x h ctx)) KnowsWords
inside_words x h None var worded words = tt
inside_words x h (Some m) var worded words = binding_words m var (literal_at x h (Some m)) (literal_word x h (Some m) worded words) words

-- a literal that is a word is what a machine has of it
pub read_back : (o : Option ℤ) (n : ℤ) → o ≡ Some n → IfSome o IsWord → to_z w64 (of_z w64 n) ≡ n
read_back o n is word = to_z-of_z w64 n (subst (λ (k : Option ℤ). IfSome k IsWord) is word)

pub bound_with : (known : Option Facts) (bound items : List Bound) (var : ℕ) (number : Option ℤ) → bound ≡ items → is_with known items var number → is_with known bound var number
bound_with known bound items var number e w = subst (λ (bs : List Bound). is_with known bs var number) (sym e) w

-- ---- kinds

pub as_kind : (c : Checked) (p : Place) (x y : Stmt) (m : Codes) → x ≡ y → nothing_in x (here_of p) (context_of p) ≡ false → LowersSome c p m y → LowersOne c p m x
as_kind c p x y m is some low = subst (λ (z : Stmt). LowersOne c p m z) (sym is) (low (sym (ap (λ (z : Stmt). nothing_in z (here_of p) (context_of p)) is) ∙ some))
