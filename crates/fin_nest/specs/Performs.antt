-- Codes of statements: what they perform, and from which facts.
use Rattle.std.specs.Prelude.{◌≡◌, ℕ, ◌<◌, Bool, true, false, List, [], ◌∷◌, length, ℤ, pos, ◌+ℤ◌, slice_index_or, slice_set}
use Rattle.fin_ir.specs.declared.expression.IExpr.{IExpr}
use Rattle.fin_ir.specs.declared.expression.IExpr.TheVariants.{Num}
use Rattle.fin_ir.specs.declared.code.Code.{Code}
use Rattle.fin_ir.specs.declared.code.Code.TheVariants.{Seq, Assign, Charge}
use Rattle.fin_ir.specs.declared.layout.Layout.{Layout}
use Rattle.fin_ir.specs.Machine.{Machine, seen}
use Rattle.fin_ir.specs.Value.{value_in}
use Rattle.fin_ir.specs.Meaning.{meaning_all}
use Rattle.fin_looplet.specs.Names.{Names, Loads}
use Rattle.fin_looplet.specs.View.{Store, value, Seen}
use Rattle.fin_looplet.specs.Lists.{seens}
use Rattle.fin_nest.specs.Nests.{Nest, Sense, views_of, Kept, Bounds, Fits}

-- the word that an expression has, as code is placed: of a variable, of what a read sees, of a position
abbrev pub Fact : Type 0
Fact = IExpr × ℤ

-- Where a statement's code stands: the facts that it uses, the tensors that it leaves as they are, and the first free
-- local. It leaves each local before that one that no loop or let in it binds.
pub record Place : Type 0 where
  pub facts : List Fact
  pub steady : ℕ → Bool
  pub binds : ℕ → Bool
  pub next : ℕ

abbrev pub Hold : Machine → List Fact → Type 0
Hold m [] = Unit {0}
Hold m (f ∷ fs) = (value_in m f.0 ≡ f.1) × Hold m fs

-- the code changes nothing that the expression depends on
pub record Stays (p : Place) (e : IExpr) : Type 0 where
  pub locals : (x : ℕ) → Names x e → (x < p.next) × (p.binds x ≡ false)
  pub tensors : (t : ℕ) → Loads t e → p.steady t ≡ true

-- and so no fact does
abbrev pub Stay : Place → List Fact → Type 0
Stay p [] = Unit {0}
Stay p (f ∷ fs) = Stays p f.0 × Stay p fs

-- a machine before the code
pub record Ready (layout : Layout) (m : Machine) (p : Place) : Type 0 where
  pub live : m.cut ≡ false
  pub locals : length m.locals ≡ layout.locals
  pub facts : Hold m p.facts

-- a machine behind it; of one that was cut nothing is said
pub record Left (m m' : Machine) (p : Place) : Type 0 where
  pub long : length m'.locals ≡ length m.locals
  pub kept : m'.cut ≡ false → (x : ℕ) → x < p.next → p.binds x ≡ false
      → slice_index_or m'.locals x (pos 0) ≡ slice_index_or m.locals x (pos 0)
  pub steady : m'.cut ≡ false → (t : ℕ) → p.steady t ≡ true → seen m' t ≡ seen m t

-- the codes, one after another, lead from what stands for a state to what stands for its image
pub record Performs {S : Type 0} (layout : Layout) (sense : Sense S) (p : Place) (cs : List Code) (f : S → S)
    : Type 0 where
  pub does : (s : S) (m : Machine) → Ready layout m p → sense.stands s m → sense.stands (f s) (meaning_all layout cs m)
  pub leaves : (s : S) (m : Machine) → Ready layout m p → sense.stands s m → Left m (meaning_all layout cs m) p

-- ---- statements as the body of a nest of one coordinate

-- the charge that each coordinate begins with
abbrev pub charge_one : Code
charge_one = Charge (Num (pos 1))

-- the charge, the coordinate in its variable's local, and the statements
abbrev pub body_code : {S : Type 0} → Nest S → List Code → Code
body_code n cs = Seq (charge_one ∷ Assign n.var n.lo ∷ cs)

-- The codes are the nest's body. By what the reads see and by the coordinate they stand at a place, where they do
-- `does`; and the body does that after the coordinate's work.
pub record IsBody {S : Type 0} (layout : Layout) (sense : Sense S) (work : S → S) (n : Nest S) (cs : List Code)
    : Type 0 where
  pub at : List Seen → ℤ → Place
  pub does : List Seen → ℤ → S → S
  pub room : n.var < layout.locals
  -- there is one coordinate
  pub point : (ts : Store) (ls : List ℤ) → Bounds (value ts ls n.lo) (value ts ls n.hi)
      → value ts ls n.hi ≡ value ts ls n.lo +ℤ pos 1
  pub body : (ss : List Seen) (i : ℤ) (s : S) → n.body ss true i s ≡ does ss i (work s)
  pub performs : (ss : List Seen) (i : ℤ) → Performs layout sense (at ss i) cs (does ss i)
  -- the place's facts hold where the variable's local has the coordinate
  pub facts : (ts : Store) (m : Machine) → Fits layout ts m n
      → Hold (record m { locals = slice_set m.locals n.var (value ts m.locals n.lo) })
      (at (seens (views_of ts m.locals n (value ts m.locals n.lo))) (value ts m.locals n.lo)).facts
  -- what the nest keeps the codes keep
  pub kept : (ss : List Seen) (i : ℤ) (x : ℕ) → Kept n x → (x < (at ss i).next) × ((at ss i).binds x ≡ false)
  pub steady : (ss : List Seen) (i : ℤ) (t : ℕ) → n.steady t ≡ true → (at ss i).steady t ≡ true
