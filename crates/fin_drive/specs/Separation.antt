-- The looplets that are made for a loop keep apart: no two own one local, none depends on a local that one of them owns,
-- and they load from tensors alone that the body leaves as they are.
use Rattle.std.specs.Prelude.{◌≡◌, ℕ, ◌+◌, ◌≤◌, Bool, true, false, List, [], ◌∷◌, Option, Some, None}
use Rattle.fin_ast.specs.declared.tree.Index.{Index}
use Rattle.fin_stage.specs.Staged.{Run}
use Rattle.fin_ir.specs.declared.expression.IExpr.{IExpr}
use Rattle.fin_looplet.specs.declared.looplet.Leaf.{Leaf}
use Rattle.fin_looplet.specs.declared.looplet.Looplet.{Looplet}
use Rattle.fin_looplet.specs.Names.{Names, Loads, LeafNames, LeafLoads}
use Rattle.fin_looplet.specs.Lists.{AnyFree, AnyLoads, AnyOwns, AllSeparate}
use Rattle.fin_nest.specs.Nests.{Nest}
use Rattle.fin_simp.specs.Rest.{Access}
use Rattle.fin_simp.specs.Sights.{driven_index}
use Rattle.fin_simp.specs.Work.{Mask, is_in, masks_of}
use Rattle.fin_drive.specs.Entries.{Entry, Site, MadeRead, MadeMasks, MadeAll, IsMade}

-- which locals are the looplets' own, and which tensors the body leaves as they are
pub record Marked : Type 0 where
  pub own : ℕ → Bool
  pub steady : ℕ → Bool

-- ---- what is asked of expressions

-- it names none of these locals, and loads from these tensors
pub record IsOutside (m : Marked) (e : IExpr) : Type 0 where
  pub names : (x : ℕ) → Names x e → m.own x ≡ false
  pub loads : (t : ℕ) → Loads t e → m.steady t ≡ true

pub record IsLeafOutside (m : Marked) (l : Leaf) : Type 0 where
  pub names : (x : ℕ) → LeafNames x l → m.own x ≡ false
  pub loads : (t : ℕ) → LeafLoads t l → m.steady t ≡ true

-- a site whose two locals are its own, behind those of the reads before it
pub record IsOwnSite (m : Marked) (e : Entry) (a : Access) (s : Site) (next : ℕ) : Type 0 where
  pub behind : next ≤ s.cursor
  pub first : m.own s.cursor ≡ true
  pub second : m.own (s.cursor + 1) ≡ true
  pub place : IsOutside m s.spot.place
  pub there : IsOutside m s.spot.there
  pub by : IsOutside m s.spot.by
  pub tensor : is_in e.rest.changed a.tensor ≡ false → m.steady a.tensor ≡ true

-- ---- of all that is made

abbrev pub IsReadApart : Marked → ℕ → (e : Entry) (a : Access) (o : Option (ℕ × Index)) (l : Looplet) → MadeRead e a o l → Type 0
IsReadApart m next e a None l made = IsLeafOutside m made.0
IsReadApart m next e a (Some d) l made = IsOwnSite m e a made.site next

-- the first local behind those of the read
abbrev pub behind_read : ℕ → (e : Entry) (a : Access) (o : Option (ℕ × Index)) (l : Looplet) → MadeRead e a o l → ℕ
behind_read next e a None l made = next
behind_read next e a (Some d) l made = made.site.cursor + 2

abbrev pub AreMasksApart : Marked → (e : Entry) (ms : List Mask) (ls : List Looplet) → MadeMasks e ms ls → Type 0
AreMasksApart m e [] [] made = Unit {0}
AreMasksApart m e [] (l ∷ ls) made = ⊥
AreMasksApart m e (k ∷ ms) [] made = ⊥
AreMasksApart m e (k ∷ ms) (l ∷ ls) made = IsOutside m made.0.bound × AreMasksApart m e ms ls made.1

abbrev pub AreApart : Marked → ℕ → (e : Entry) (reads : List Access) (ms : List Mask) (ls : List Looplet) → MadeAll e reads ms ls → Type 0
AreApart m next e [] ms ls made = AreMasksApart m e ms ls made
AreApart m next e (a ∷ reads) ms [] made = ⊥
AreApart m next e (a ∷ reads) ms (l ∷ ls) made =
    IsReadApart m next e a (driven_index e.loop.loop.var a.at) l made.0 × AreApart m (behind_read next e a (driven_index e.loop.loop.var a.at) l made.0) e reads ms ls made.1

-- ---- the law

pub record KeepApart (m : Marked) (ls : List Looplet) : Type 0 where
  pub separate : AllSeparate ls
  pub owns : (x : ℕ) → AnyOwns x ls → m.own x ≡ true
  pub depends : (x : ℕ) → AnyFree x ls → m.own x ≡ false
  pub loads : (t : ℕ) → AnyLoads t ls → m.steady t ≡ true

abbrev pub MadeKeepApart : Type 0
MadeKeepApart = (m : Marked) (next : ℕ) (e : Entry) (n : Nest Run) (made : IsMade e n)
    → AreApart m next e e.rest.reads (masks_of e.loop.vars e.loop.loop.var e.rest) n.reads made.looplets → KeepApart m n.reads
