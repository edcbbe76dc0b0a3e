-- What a reader of phrases knows after some tokens, where phrases nest to a limit.
use Rattle.std.specs.Prelude.{◌≡◌, ◌≤◌, List, [], ◌∷◌, ◌++◌, Option, Bool, false, Result, Ok, Err}
use Rattle.fin_lex.specs.declared.token.Token.{Token}
use Rattle.fin_parse.specs.declared.class.Class.{Class}
use Rattle.fin_parse.specs.declared.tree.Room.{Room}
use Rattle.fin_parse.specs.declared.tree.Stop.{Stop}
use Rattle.fin_parse.specs.declared.tree.Stop.TheVariants.{Unexpected, Deep, Crowded, Memory}
use Rattle.fin_parse.specs.Classes.{class_at}
use Rattle.fin_parse.specs.Syntax.{Sign, beyond, signs, look, IsTree, IsRow, IsGroup}
use Rattle.fin_parse.specs.declared.grammar.Phrase.{Phrase}
use Rattle.fin_parse.specs.declared.grammar.Symbol.{Symbol}
use Rattle.fin_parse.specs.declared.tree.Tree.{Tree}

abbrev pub Kind : Type 0 → Type 1
Kind A = Room → List Sign → A → Type 0

abbrev pub Ended : {A : Type 0} → A → Kind A
Ended e k z e' = (z ≡ []) × (e' ≡ e)

-- as much room or more
pub record AtLeast (n k : Room) : Type 0 where
  pub headers : n.headers ≤ k.headers
  pub levels : n.levels ≤ k.levels
  pub loops : n.loops ≤ k.loops

-- no phrase that is too deep comes next
abbrev pub IsReal : List Sign → Type 0
IsReal after = (o : Option Token) (z : List Sign) → after ≡ beyond o ∷ z → ⊥

-- After the signs x, before those left, what is to come of a phrase of N is M, for every text that goes on with a token
-- of the same class. Behind phrases of N stands no token that would continue them.
pub record Reached {A : Type 0} (N : Kind A) (n : Room) (c : Class → Bool) (x left : List Sign) (M : Kind A) : Type 0 where
  pub build : (z : List Sign) (e : A) → M n z e → N n (x ++ z) e
  pub only : (k : Room) (p r after : List Sign) (e : A) → AtLeast n k → N k p e → c (look r) ≡ false → p ++ r ≡ x ++ after → look after ≡ look left → (z : List Sign) × (p ≡ x ++ z) × M k z e

-- With no room does a phrase of N begin with x and the next token, and with this room some phrase begins with x.
pub record Refused {A : Type 0} (N : Kind A) (n : Room) (c : Class → Bool) (x left : List Sign) : Type 0 where
  pub none : (k : Room) (p r after : List Sign) (e : A) → AtLeast n k → N k p e → c (look r) ≡ false → p ++ r ≡ x ++ after → look after ≡ look left → ⊥
  pub some : (z : List Sign) × (e : A) × N n (x ++ z) e

-- With this room x goes on with what is too deep alone, where the next token begins it.
pub record TooDeep {A : Type 0} (N : Kind A) (n : Room) (c : Class → Bool) (x left : List Sign) : Type 0 where
  pub none : (p r after : List Sign) (e : A) → N n p e → c (look r) ≡ false → p ++ r ≡ x ++ after → look after ≡ look left → IsReal after → ⊥
  pub some : (o : Option Token) × (z : List Sign) × (e : A) × (class_at o ≡ look left) × N n (x ++ (beyond o ∷ z)) e

-- From old to new the tokens of a phrase of N were read, and M is to come.
pub record Along {A : Type 0} (N : Kind A) (n : Room) (c : Class → Bool) (old new : List Token) (M : Kind A) : Type 0 where
  pub taken : List Token
  pub split : old ≡ taken ++ new
  pub reached : Reached N n c (signs taken) (signs new) M

pub record Stuck {A : Type 0} (N : Kind A) (n : Room) (c : Class → Bool) (old new : List Token) : Type 0 where
  pub taken : List Token
  pub split : old ≡ taken ++ new
  pub refused : Refused N n c (signs taken) (signs new)

pub record Sunk {A : Type 0} (N : Kind A) (n : Room) (c : Class → Bool) (old new : List Token) : Type 0 where
  pub taken : List Token
  pub split : old ≡ taken ++ new
  pub deep : TooDeep N n c (signs taken) (signs new)

abbrev pub Outcome : {A : Type 0} (N : Kind A) (n : Room) (c : Class → Bool) (old new : List Token) → Result A Stop → Type 0
Outcome N n c old new (Ok e) = Along N n c old new (Ended e)
Outcome N n c old new (Err Unexpected) = Stuck N n c old new
Outcome N n c old new (Err Deep) = Sunk N n c old new
Outcome N n c old new (Err Crowded) = ⊥
Outcome N n c old new (Err (Memory a)) = Unit {0}

-- the trees of a symbol, of the symbols of a form, and of a repeated phrase
abbrev pub Trees : Symbol → Kind Tree
Trees s k x u = IsTree k s x u

abbrev pub Rows : List Symbol → Kind (List Tree)
Rows row k x us = IsRow k row x us

abbrev pub Groups : Phrase → Kind (List Tree)
Groups n k x us = IsGroup k n x us
