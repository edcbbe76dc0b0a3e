-- The looplets of reads, one after another, for what the code has of the loop and of its reads.
use Rattle.std.proofs.Common.{◌≡◌, ℕ, ◌<◌, ◌≤◌, List, [], ◌∷◌, ◌++◌, map, ap, ◌∙◌, arith}
use Rattle.std.proofs.lemmas.List.{map-append}
use Rattle.fin_looplet.specs.declared.looplet.Looplet.{Looplet}
use Rattle.fin_nest.specs.declared.entries.Numbered.{Numbered}
use Rattle.fin_nest.specs.Entries.{looplets, numbers}
use Rattle.fin_simp.specs.declared.expr_rest.Access.{Access}
use Rattle.fin_simp.specs.Sights.{driven_index}
use Rattle.fin_simp.specs.Gathered.{as_access}
use Rattle.fin_enter.specs.declared.body.LoopBody.{LoopBody}
use Rattle.fin_enter.specs.Pushed.{as_around, behind_in, behind_own, behind_positions}
use Rattle.fin_enter.specs.PushedReads.{looplet_in, looplets_in, read_numbers}
use Rattle.fin_enter.proofs.Pushing.{goes_on}
use Rattle.fin_enter.proofs.Together.{places_grow}
use Rattle.fin_enter.proofs.Entering.{cursor_grows}

-- where one more is made: its looplet, its number, and the locals behind it
module _ (l : LoopBody) (a : Access) (left : List Access) (made : List Numbered) (n : Numbered) (place free : ℕ) where
  abbrev then_place : ℕ
  then_place = behind_in l a place

  abbrev then_free : ℕ
  then_free = behind_own l a free

  pub looplets_next : (xs : List Looplet) (place' free' : ℕ) → looplets made ++ looplets_in l (a ∷ left) place free ≡ xs → n.looplet ≡ looplet_in l a place free
      → place' ≡ then_place → free' ≡ then_free → looplets (made ++ n ∷ []) ++ looplets_in l left place' free' ≡ xs
  looplets_next xs place' free' whole same here own =
      ap (λ (p : ℕ). looplets (made ++ n ∷ []) ++ looplets_in l left p free') here
      ∙ ap (λ (f : ℕ). looplets (made ++ n ∷ []) ++ looplets_in l left then_place f) own
      ∙ ap (λ (ls : List Looplet). ls ++ looplets_in l left then_place then_free) (map-append (λ (e : Numbered). e.looplet) made (n ∷ []))
      ∙ goes_on (looplets made) (looplets_in l left then_place then_free) xs n.looplet (looplet_in l a place free) whole same

  pub numbers_next : (xs : List ℕ) → numbers made ++ read_numbers (a ∷ left) ≡ xs → n.number ≡ a.read → numbers (made ++ n ∷ []) ++ read_numbers left ≡ xs
  numbers_next xs whole same =
      ap (λ (ns : List ℕ). ns ++ read_numbers left) (map-append (λ (e : Numbered). e.number) made (n ∷ []))
      ∙ goes_on (numbers made) (read_numbers left) xs n.number a.read whole same

-- the local of the next position lies below those that looplets own
pub place_below : (l : LoopBody) (reads left : List Access) (at place cursor free : ℕ) → behind_positions l left place ≡ behind_positions l reads at
    → behind_positions l reads at < cursor → cursor ≤ free → place < free
place_below l reads left at place cursor free same below own = omega (arith, same, below, own, places_grow (as_around l) (map as_access left) place)

pub own_grows : (l : LoopBody) (a : Access) (cursor free free' : ℕ) → cursor ≤ free → free' ≡ behind_own l a free → cursor ≤ free'
own_grows l a cursor free free' own same = omega (arith, own, same, cursor_grows (driven_index l.var a.at) free)
