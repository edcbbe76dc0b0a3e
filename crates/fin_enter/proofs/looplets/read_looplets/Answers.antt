-- One more read.
use Rattle.std.proofs.Common.{◌≡◌, ◌+◌, List, ◌∷◌, ◌++◌, drop, refl, sym, ap, ◌∙◌}
use Rattle.fin_simp.specs.declared.expr_rest.Access.{Access}
use Rattle.fin_nest.specs.declared.entries.Numbered.{Numbered}
use Rattle.fin_nest.specs.Entries.{looplets, numbers}
use Rattle.fin_enter.specs.Pushed.{behind_positions}
use Rattle.fin_enter.specs.PushedReads.{looplets_in, behind_looplets, read_numbers}
use Rattle.fin_enter.proofs.Pushing.{first_left}
use Rattle.fin_enter.proofs.LoopEntry.{looplets_next, numbers_next, place_below, own_grows}
use Rattle.fin_enter.proofs.looplets.read_looplets.Goals as goal

pub read_looplet-requires : goal.read_looplet-requires
read_looplet-requires c =
    let v = c.loop-access.invariant in
    let reads = c.args.reads.now in
    let left = drop c.loop-access.access-index reads in
    record {
      below = place_below c.args.body reads left c.args.at c.loop-access.place c.args.cursor c.loop-access.free v.places c.requires.below v.own;
    }

pub loop-access-preserved : goal.loop-access-preserved
loop-access-preserved c =
    let v = c.loop-access.invariant in
    let l = c.args.body in
    let reads = c.args.reads.now in
    let i = c.loop-access.access-index in
    let a : Access = c.access-item.result in
    let left = drop (i + 1) reads in
    let made = c.loop-access.all in
    let place = c.loop-access.place in
    let free = c.loop-access.free in
    let n : Numbered = record { number = a.read; looplet = c.in_ok-looplet.looplet } in
    let first : drop i reads ≡ a ∷ left = first_left reads i a c.loop-access-test.true c.access-item.is in
    let here = c.in_ok-place.ensures in
    let own = c.in_ok-free.ensures in
    let more = c.in_ok-push.ensures.ok in
    record {
      looplets = ap (λ (ns : List Numbered). looplets ns ++ looplets_in l left c.in_ok-place.place c.in_ok-free.free) more
          ∙ looplets_next l a left made n place free (looplets_in l reads c.args.at c.args.cursor) c.in_ok-place.place c.in_ok-free.free
          (ap (λ (rs : List Access). looplets made ++ looplets_in l rs place free) (sym first) ∙ v.looplets) c.in_ok-looplet.ensures here own;
      numbers = ap (λ (ns : List Numbered). numbers ns ++ read_numbers left) more
          ∙ numbers_next l a left made n place free (read_numbers reads) (ap (λ (rs : List Access). numbers made ++ read_numbers rs) (sym first) ∙ v.numbers) refl;
      places = ap (behind_positions l left) here ∙ ap (λ (rs : List Access). behind_positions l rs place) (sym first) ∙ v.places;
      own = own_grows l a c.args.cursor free c.in_ok-free.free v.own own;
      next = ap (behind_looplets l left) own ∙ ap (λ (rs : List Access). behind_looplets l rs free) (sym first) ∙ v.next;
    }
