-- Which tokens stand for which tree, by the table of the grammar and within limits of nesting.
use Rattle.std.specs.Prelude.{◌≡◌, ◌-◌, ◌<◌, true, List, [], ◌∷◌, ◌++◌, Option}
use Rattle.fin_lex.specs.declared.token.Token.{Token}
use Rattle.fin_parse.specs.declared.class.Class.{Class}
use Rattle.fin_parse.specs.declared.class.Class.TheVariants.{End}
use Rattle.fin_parse.specs.declared.grammar.Phrase.{Phrase}
use Rattle.fin_parse.specs.declared.grammar.Form.{Form}
use Rattle.fin_parse.specs.declared.grammar.Symbol.{Symbol}
use Rattle.fin_parse.specs.declared.grammar.Symbol.TheVariants.{Word, One, Many, Maybe, Deeper, InLoop}
use Rattle.fin_parse.specs.declared.tree.Tree.{Tree}
use Rattle.fin_parse.specs.declared.tree.Tree.TheVariants.{Leaf, Node, Group}
use Rattle.fin_parse.specs.declared.tree.Room.{Room}
use Rattle.fin_parse.specs.Classes.{class_of, class_at}
use Rattle.fin_parse.specs.Grammar.{phrase_of, row_of}
use Rattle.fin_parse.specs.Choices.{may_open}

-- A token, or a phrase that would be nested too deep, by its first token, where it has one.
pub data Sign : Type 0 where
  real : Token → Sign
  beyond : Option Token → Sign

abbrev pub signs : List Token → List Sign
signs [] = []
signs (t ∷ ts) = real t ∷ signs ts

-- the class of what comes next
abbrev pub look : List Sign → Class
look [] = End
look (real t ∷ z) = class_of t.kind
look (beyond o ∷ z) = class_at o

-- with a level less, and with a loop less
abbrev pub lower : Room → Room
lower k = record { headers = k.headers; levels = k.levels - 1; loops = k.loops }

abbrev pub entered : Room → Room
entered k = record { headers = k.headers; levels = k.levels; loops = k.loops - 1 }

mutual
  -- what a symbol of a form stands for, where that many levels and loops may be opened
  pub data IsTree : Room → Symbol → List Sign → Tree → Type 0 where
    word : {k : Room} {c : Class} {t : Token} → class_of t.kind ≡ c → IsTree k (Word c) (real t ∷ []) (Leaf t)
    one : {k : Room} {n : Phrase} {x : List Sign} {us : List Tree} (f : Form) → phrase_of f ≡ n → IsRow k (row_of f) x us → IsTree k (One n) x (Node f us)
    many : {k : Room} {n : Phrase} {x : List Sign} {us : List Tree} → IsGroup k n x us → IsTree k (Many n) x (Group us)
    absent : {k : Room} {n : Phrase} → IsTree k (Maybe n) [] (Group [])
    present : {k : Room} {n : Phrase} {x : List Sign} {u : Tree} → IsTree k (One n) x u → IsTree k (Maybe n) x (Group (u ∷ []))
    deeper : {k : Room} {n : Phrase} {x : List Sign} {u : Tree} → 0 < k.levels → IsTree (lower k) (One n) x u → IsTree k (Deeper n) x u
    too_deep : {k : Room} {n : Phrase} {o : Option Token} {u : Tree} → k.levels ≡ 0 → may_open n (class_at o) ≡ true → IsTree k (Deeper n) (beyond o ∷ []) u
    in_loop : {k : Room} {n : Phrase} {x : List Sign} {u : Tree} → 0 < k.loops → IsTree (entered k) (One n) x u → IsTree k (InLoop n) x u
    too_many_loops : {k : Room} {n : Phrase} {o : Option Token} {u : Tree} → k.loops ≡ 0 → may_open n (class_at o) ≡ true → IsTree k (InLoop n) (beyond o ∷ []) u

  -- the symbols of a form, in order
  pub data IsRow : Room → List Symbol → List Sign → List Tree → Type 0 where
    done : {k : Room} → IsRow k [] [] []
    part : {k : Room} {s : Symbol} {row : List Symbol} {x y : List Sign} {u : Tree} {us : List Tree} → IsTree k s x u → IsRow k row y us → IsRow k (s ∷ row) (x ++ y) (u ∷ us)

  -- any number of phrases
  pub data IsGroup : Room → Phrase → List Sign → List Tree → Type 0 where
    none : {k : Room} {n : Phrase} → IsGroup k n [] []
    more : {k : Room} {n : Phrase} {x y : List Sign} {u : Tree} {us : List Tree} → IsTree k (One n) x u → IsGroup k n y us → IsGroup k n (x ++ y) (u ∷ us)
