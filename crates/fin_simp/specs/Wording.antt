-- What is known: that it is words, and that another knows more.
use Rattle.std.specs.Prelude.{◌≡◌, ℕ, ℤ, Option, Some, IfSome}
use Rattle.fin_base.specs.Words.{IsWord}
use Rattle.fin_simp.specs.Left.{Marks}

-- what is known is a word
pub record KnowsWords (m : Marks) : Type 0 where
  pub reads : (k : ℕ) → IfSome (m.reads k) IsWord
  pub vars : (x : ℕ) → IfSome (m.vars x) IsWord

-- what the one knows, the other knows
abbrev pub StaysIn : Option ℤ → Option ℤ → Type 0
StaysIn a b = IfSome a (λ n. b ≡ Some n)

pub record Further (m m' : Marks) : Type 0 where
  pub reads : (k : ℕ) → StaysIn (m.reads k) (m'.reads k)
  pub tests : (k : ℕ) → StaysIn (m.tests k) (m'.tests k)
  pub vars : (x : ℕ) → StaysIn (m.vars x) (m'.vars x)
