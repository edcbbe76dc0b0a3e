-- The steps of one driven read after those of another leave both positions in their locals.
use Rattle.std.proofs.Common.{◌≡◌, ℕ, ◌+◌, ◌<◌, ◌≤◌, Bool, true, false, List, [], ◌∷◌, ◌++◌, length, map, Option, Some, None, refl, sym, ap, ◌∙◌, subst, ℤ, arith, if◌then◌else◌}
use Rattle.fin_tensor.specs.declared.part.Part.{Part}
use Rattle.fin_ast.specs.declared.tree.Index.{Index}
use Rattle.fin_ast.specs.Scope.{Scope}
use Rattle.fin_ast.specs.Value.{Numbers}
use Rattle.fin_looplet.specs.View.{Store}
use Rattle.fin_read.specs.Steps.{Step, stepped, Agree}
use Rattle.fin_read.specs.Values.{format_of, shape_of, index_code}
use Rattle.fin_read.proofs.Stepping.{agree_refl, agree_then, agree_less, stepped_append}
use Rattle.fin_simp.specs.Rest.{Access}
use Rattle.fin_simp.specs.Sights.{driven_index, stand_at}
use Rattle.fin_simp.specs.Work.{is_in}
use Rattle.fin_enter.specs.Positions.{position_steps, IsPlaced}
use Rattle.fin_enter.specs.Indices.{AreAround}
use Rattle.fin_enter.specs.Together.{Around, settled_index, steps_of, behind_place, all_positions, behind_all, CanStand, CanBePlaced, AllCanStand, FoundIn, AllFound, ArePlaced, AllPositionsAreFound}
use Rattle.fin_enter.proofs.Positions.{positions_are_found}
use Rattle.fin_enter.proofs.Sites.{driven_within}
use Rattle.fin_enter.proofs.Indices.{indices_are_bound}

pub place_grows : (o : Option (ℕ × Index)) (at : ℕ) → at ≤ behind_place o at
place_grows None at = omega arith
place_grows (Some d) at = omega arith

pub places_grow : (l : Around) (reads : List Access) (at : ℕ) → at ≤ behind_all l reads at
places_grow l [] at = omega arith
places_grow l (a ∷ reads) at =
    let next = behind_place (settled_index l a) at in
    omega (arith, place_grows (settled_index l a) at, places_grow l reads next)

driven_by : (l : Around) (a : Access) (d : ℕ × Index) (b : Bool) → (if b then None else driven_index l.var a.at) ≡ Some d → driven_index l.var a.at ≡ Some d
driven_by l a d true e = cc
driven_by l a d false e = e

module _ (ts : Store) (l : Around) (parts : ℕ → List Part) (sc : Scope) (vars : Numbers) where
  -- one read
  one_placed : (a : Access) (d : ℕ × Index) (at : ℕ) (ls : List ℤ) → AreAround sc l.var vars ls → l.var ≤ at → CanStand ts l.heads parts sc a → driven_index l.var a.at ≡ Some d
      → at + 1 < length ls
      → IsPlaced ts (steps_of l.heads a (Some d) at) at ls (stand_at vars (shape_of l.heads a.tensor) (parts a.tensor) a.at d.0 (Some 0))
  one_placed a d at ls around le can driven long =
      let levels = (format_of l.heads a.tensor).levels in
      let xs = map index_code a.at in
      let bound = indices_are_bound ts sc vars l.var a.at d at ls around can.named can.small driven le in
      let within = driven_within l.var a.at d driven in
      let got = positions_are_found ts a.tensor levels can.frozen vars xs a.at d.0 at ls can.is can.valid bound.places (omega (arith, within, can.each)) within long in
      subst (λ ps. IsPlaced ts (steps_of l.heads a (Some d) at) at ls (stand_at vars (shape_of l.heads a.tensor) ps a.at d.0 (Some 0))) can.parts_are
      (subst (λ ns. IsPlaced ts (position_steps a.tensor levels ns xs d.0 at) at ls (stand_at vars ns can.frozen.parts a.at d.0 (Some 0))) can.shape got)

  around_after : (at : ℕ) (ls ks : List ℤ) → l.var ≤ at → Agree at ks ls → AreAround sc l.var vars ls → AreAround sc l.var vars ks
  around_after at ls ks le same around x among lt = let q = around x among lt in (q.0, q.1, same x (omega (arith, lt, le)) ∙ q.2, q.3)

  module _ (a : Access) (reads : List Access) where
    -- what is left behind one more, by its driven index
    abbrev steps_by : Option (ℕ × Index) → ℕ → List Step
    steps_by o at = steps_of l.heads a o at ++ all_positions l reads (behind_place o at)

    pub record Both (o : Option (ℕ × Index)) (at : ℕ) (ls : List ℤ) : Type 0 where
      pub long : length (stepped ts (steps_by o at) ls) ≡ length ls
      pub kept : Agree at (stepped ts (steps_by o at) ls) ls
      pub found : (ks : List ℤ) → Agree (behind_all l reads (behind_place o at)) ks (stepped ts (steps_by o at) ls)
          → FoundIn ts ks l.heads parts vars a o at × AllFound ts ks l parts vars reads (behind_place o at)

    one_more : (o : Option (ℕ × Index)) (at : ℕ) (ls : List ℤ) → settled_index l a ≡ o → AreAround sc l.var vars ls → l.var ≤ at → CanBePlaced ts l.heads parts sc a o
        → behind_all l reads (behind_place o at) < length ls
        → ((next : ℕ) (ks : List ℤ) → AreAround sc l.var vars ks → l.var ≤ next → behind_all l reads next < length ks → ArePlaced ts l parts vars reads next ks) → Both o at ls
    one_more None at ls e around le can room rest =
        let q = rest at ls around le room in
        record { long = q.long; kept = q.kept; found = λ ks same. (tt, q.found ks same) }
    one_more (Some d) at ls e around le can room rest =
        let grows = places_grow l reads (at + 1) in
        let one = one_placed a d at ls around le can (driven_by l a d (is_in l.changed a.tensor) e) (omega (arith, room, grows)) in
        let own = steps_of l.heads a (Some d) at in
        let others = all_positions l reads (at + 1) in
        let after = stepped ts own ls in
        let q = rest (at + 1) after (around_after at ls after le one.kept around) (omega (arith, le)) (omega (arith, room, one.long)) in
        let same_steps = stepped_append ts own others ls in
        let end = stepped ts others after in
        record {
          long = ap length same_steps ∙ q.long ∙ one.long;
          kept = subst (λ (ks : List ℤ). Agree at ks ls) (sym same_steps) (agree_then at end after ls (agree_less at (at + 1) end after (omega arith) q.kept) one.kept);
          found = λ ks same.
              let ends : Agree (behind_all l reads (at + 1)) ks end = subst (λ (js : List ℤ). Agree (behind_all l reads (at + 1)) ks js) same_steps same in
              let near : Agree (at + 1) ks after = agree_then (at + 1) ks end after (agree_less (at + 1) (behind_all l reads (at + 1)) ks end grows ends) q.kept in
              ((λ by. one.found by ks near), q.found ks ends);
        }

  all_placed : (reads : List Access) (at : ℕ) (ls : List ℤ) → AreAround sc l.var vars ls → l.var ≤ at → AllCanStand ts l parts sc reads → behind_all l reads at < length ls
      → ArePlaced ts l parts vars reads at ls
  all_placed [] at ls around le can room = record { long = refl; kept = agree_refl at ls; found = λ ks same. tt }
  all_placed (a ∷ reads) at ls around le can room =
      let q = one_more a reads (settled_index l a) at ls refl around le can.0 room (λ next ks more low space. all_placed reads next ks more low can.1 space) in
      record { long = q.long; kept = q.kept; found = q.found }

pub all_positions_are_found : AllPositionsAreFound
all_positions_are_found ts l parts sc vars reads at ls around le can room = all_placed ts l parts sc vars reads at ls around le can room
