-- A nest whose driven reads have their positions in locals is one that is made for its loop.
use Rattle.std.proofs.Common.{◌≡◌, ℕ, ◌+◌, List, [], ◌∷◌, Option, Some, None, refl, ap, ◌∙◌, ℤ, pos, arith}
use Rattle.fin_ast.specs.declared.tree.Index.{Index}
use Rattle.fin_ir.specs.declared.expression.IExpr.{IExpr}
use Rattle.fin_ir.specs.Value.{value_of}
use Rattle.fin_ir.proofs.Values.{value_num}
use Rattle.fin_looplet.specs.declared.looplet.Looplet.{Looplet}
use Rattle.fin_looplet.specs.View.{Store}
use Rattle.fin_simp.specs.Rest.{Access}
use Rattle.fin_simp.specs.Sights.{driven_index}
use Rattle.fin_simp.specs.Work.{Mask}
use Rattle.fin_drive.specs.Standing.{DistancesMean}
use Rattle.fin_drive.specs.Entries.{Entry, entered, MadeRead, MadeAll}
use Rattle.fin_enter.specs.Sites.{site_of}
use Rattle.fin_enter.specs.Entrances.{PlacedRead, AllPlaced, EntrancesAreMade}
use Rattle.fin_enter.proofs.Sites.{footed_reads_stand}

module _ (distance : DistancesMean) (e : Entry) where
  read_made : (a : Access) (o : Option (ℕ × Index)) (l : Looplet) → PlacedRead e a o l → MadeRead e a o l
  read_made a None l h = h
  read_made a (Some d) l h = record { site = site_of e a d h.format h.at h.cursor; stands = footed_reads_stand distance e a d h.format h.at h.cursor h.footed; made = h.made }

  pub all_made : (reads : List Access) (ms : List Mask) (ls : List Looplet) → AllPlaced e reads ms ls → MadeAll e reads ms ls
  all_made [] ms ls h = h
  all_made (a ∷ reads) ms [] h = absurd h
  all_made (a ∷ reads) ms (l ∷ ls) h = (read_made a (driven_index e.loop.loop.var a.at) l h.0, all_made reads ms ls h.1)

number_is : (ts : Store) (ls : List ℤ) (x : IExpr) (y : IExpr) (z : ℤ) → x ≡ y → value_of y ts ls ≡ z → value_of x ts ls ≡ z
number_is ts ls x y z same is = ap (λ (u : IExpr). value_of u ts ls) same ∙ is

pub entrances_are_made : DistancesMean → EntrancesAreMade
entrances_are_made distance w ctx var body vars r ts ls n h =
    let e = entered w ctx var body vars r ts ls in
    record {
      entered = record { driven = refl; masks = refl };
      bound = h.bound;
      begins = omega arith;
      ends = omega (arith, h.ordered);
      body = h.body;
      lo = number_is ts ls n.lo _ (pos e.from) h.lo (value_num ts ls (pos e.from));
      hi = number_is ts ls n.hi _ (pos (e.from + e.count)) h.hi (value_num ts ls (pos (e.from + e.count)));
      top = omega (arith, h.ordered, h.small);
      looplets = all_made distance e e.rest.reads _ n.reads h.looplets;
    }
