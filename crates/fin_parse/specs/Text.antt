-- A whole text: headers, and then statements.
use Rattle.std.specs.Prelude.{◌≡◌, ◌≤◌, ◌⊎◌, Bool, true, false, not, List, ◌∷◌, ◌++◌, length, Option, Result, Ok, Err}
use Rattle.fin_lex.specs.declared.token.Token.{Token}
use Rattle.fin_parse.specs.declared.class.Class.{Class}
use Rattle.fin_parse.specs.declared.class.Class.TheVariants.{End}
use Rattle.fin_parse.specs.declared.grammar.Phrase.TheVariants.{Header, Stmt}
use Rattle.fin_parse.specs.declared.tree.Tree.{Tree}
use Rattle.fin_parse.specs.declared.tree.Room.{Room}
use Rattle.fin_parse.specs.declared.tree.Stop.{Stop}
use Rattle.fin_parse.specs.declared.tree.Stop.TheVariants.{Unexpected, Deep, Crowded, Memory}
use Rattle.fin_parse.specs.declared.trees.Text.{Text}
use Rattle.fin_parse.specs.Choices.{same_class, begins, continues}
use Rattle.fin_parse.specs.Classes.{class_at}
use Rattle.fin_parse.specs.declared.grammar.Symbol.TheVariants.{Many}
use Rattle.fin_parse.specs.Syntax.{Sign, beyond, signs, look, IsGroup}
use Rattle.fin_parse.specs.Reading.{Kind, AtLeast, IsReal, Along, Outcome}

-- headers, as many as there may be
pub record AreHeaders (k : Room) (x : List Sign) (us : List Tree) : Type 0 where
  pub group : IsGroup k Header x us
  pub few : length us ≤ k.headers

abbrev pub Headers : Kind (List Tree)
Headers k x us = AreHeaders k x us

-- headers and statements
abbrev pub Texts : Kind Text
Texts k x text = (y z : List Sign) × (x ≡ y ++ z) × AreHeaders k y text.headers × IsGroup k Stmt z text.body

-- nothing stands behind a text
abbrev pub is_inside : Class → Bool
is_inside c = not (same_class c End)

-- headers after those so far
abbrev pub HeadersFrom : List Tree → Kind (List Tree)
HeadersFrom all k z e = (us : List Tree) × (e ≡ all ++ us) × IsGroup k Header z us × (length e ≤ k.headers)

abbrev pub goes_on_headers : Class → Bool
goes_on_headers = continues (Many Header)

-- headers were read up to the limit, or to where none begins
pub record Gathered (k : Room) (old new : List Token) (us : List Tree) : Type 0 where
  pub along : Along Headers k goes_on_headers old new (HeadersFrom us)
  pub few : length us ≤ k.headers
  pub stopped : (length us ≡ k.headers) ⊎ (begins Header (look (signs new)) ≡ false)

abbrev pub HeadersRead : Room → List Token → List Token → Result (List Tree) Stop → Type 0
HeadersRead k old new (Ok us) = Gathered k old new us
HeadersRead k old new (Err s) = Outcome {A = List Tree} Headers k goes_on_headers old new (Err s)

-- the tokens stand for the text, and for no other one, with more room too
pub record IsWhole (k : Room) (tokens : List Token) (text : Text) : Type 0 where
  pub stands : Texts k (signs tokens) text
  pub one : (j : Room) (other : Text) → AtLeast k j → Texts j (signs tokens) other → other ≡ text

-- A text begins with the tokens before. With no room does one go on with a token like the next, or end there if it is the end.
pub record IsUnexpected (k : Room) (before left : List Token) : Type 0 where
  pub begins : (z : List Sign) × (text : Text) × Texts k (signs before ++ z) text
  pub ends : (j : Room) (after : List Sign) (text : Text) → AtLeast k j → look after ≡ look (signs left) → Texts j (signs before ++ after) text → ⊥

-- The tokens before go on only with what is nested too deep, where the next token begins it.
pub record IsTooDeep (k : Room) (before left : List Token) : Type 0 where
  pub opens : (o : Option Token) × (z : List Sign) × (text : Text) × (class_at o ≡ look (signs left)) × Texts k (signs before ++ (beyond o ∷ z)) text
  pub ends : (after : List Sign) (text : Text) → look after ≡ look (signs left) → IsReal after → Texts k (signs before ++ after) text → ⊥

-- The tokens before are as many headers as there may be, and the next token begins a further one, with which no text goes on.
pub record IsCrowded (k : Room) (before left : List Token) : Type 0 where
  pub full : (us : List Tree) × AreHeaders k (signs before) us × (length us ≡ k.headers)
  pub further : begins Header (look (signs left)) ≡ true
  pub ends : (after : List Sign) (text : Text) → look after ≡ look (signs left) → Texts k (signs before ++ after) text → ⊥

abbrev pub TextRead : Room → List Token → List Token → Result Text Stop → Type 0
TextRead k old new (Ok text) = IsWhole k old text
TextRead k old new (Err Unexpected) = (before : List Token) × (old ≡ before ++ new) × IsUnexpected k before new
TextRead k old new (Err Deep) = (before : List Token) × (old ≡ before ++ new) × IsTooDeep k before new
TextRead k old new (Err Crowded) = (before : List Token) × (old ≡ before ++ new) × IsCrowded k before new
TextRead k old new (Err (Memory a)) = Unit {0}
