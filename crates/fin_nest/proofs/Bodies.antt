-- Statements as the body of a nest of one coordinate.
use Rattle.std.proofs.Common.{◌≡◌, ℕ, ◌+◌, List, [], ◌∷◌, sym, ap, ◌∙◌, subst, ℤ, pos, ◌+ℤ◌, arith, get_or-set_other}
use Rattle.std.proofs.Math.ListN.{length-set}
use borrow.Author.Differences.{sum_is_lem}
use Rattle.fin_ir.specs.declared.code.Code.{Code}
use Rattle.fin_ir.specs.declared.code.Code.TheVariants.{Assign}
use Rattle.fin_ir.specs.declared.layout.Layout.{Layout}
use Rattle.fin_ir.specs.Machine.{Machine, seen, assign, count_turn}
use Rattle.fin_ir.specs.Meaning.{meaning, meaning_all, span}
use Rattle.fin_ir.proofs.Codes.{meaning_seq, meaning_assign}
use Rattle.fin_ir.proofs.Loops.{span_is}
use Rattle.fin_looplet.specs.View.{Store, value, Seen}
use Rattle.fin_looplet.specs.Lists.{seens}
use Rattle.fin_looplet.proofs.Exprs.{value_seen}
use Rattle.fin_nest.specs.Nests.{fresh, Nest, Sense, views_of, part, fold, Separate, Fits, Does, Means, MeansCounted}
use Rattle.fin_nest.specs.Laws.{Lawful, Pays, Charges, Owing}
use Rattle.fin_nest.specs.Performs.{Fact, Place, Hold, Ready, Left, charge_one, body_code, IsBody}
use Rattle.fin_nest.proofs.Means.{with_local, assigns, not_the_variable, Leaves, does_by, leaves_counted}

-- other charges change no fact
hold_charged : (m : Machine) (fs : List Fact) (k : ℕ) → Hold m fs → Hold (record m { charges = k }) fs
hold_charged m [] k h = tt
hold_charged m (g ∷ fs) k h = (h.0, hold_charged m fs k h.1)

module _ {S : Type 0} (layout : Layout) (sense : Sense S) (law : Lawful sense) (work : S → S) (n : Nest S) (apart : Separate n) (cs : List Code) (b : IsBody layout sense work n cs) where
  -- ---- a machine before the nest, and what its code comes to
  module _ (ts : Store) (m : Machine) (fits : Fits layout ts m n) where
    abbrev lo : ℤ
    lo = value ts m.locals n.lo

    abbrev sights : List Seen
    sights = seens (views_of ts m.locals n lo)

    abbrev place : Place
    place = b.at sights lo

    abbrev charged : Machine
    charged = record m { charges = m.charges + 1 }

    abbrev begun : Machine
    begun = with_local n.var lo charged

    abbrev last : Machine
    last = meaning_all layout cs begun

    ready : Ready layout begun place
    ready = record {
      live = fits.live;
      locals = length-set m.locals n.var lo ∙ fits.locals;
      facts = hold_charged (with_local n.var lo m) place.facts (m.charges + 1) (b.facts ts m fits);
    }

    enters : (s : S) → sense.stands s charged → sense.stands s begun
    enters s h = subst (sense.stands s) (assigns n.var lo charged fits.live) (law.assign n.var lo s charged h)

    one : span lo (value ts m.locals n.hi) ≡ 1
    one = ap (span lo) (b.point ts m.locals fits.bounds) ∙ omega (arith, span_is lo (lo +ℤ pos 1), sum_is_lem lo (pos 1))

    does_is : (s : S) → b.does sights lo (work s) ≡ fold sense.pay ts m.locals n s
    does_is s = sym (ap (λ k. part sense.pay ts m.locals n k fresh lo s) one ∙ b.body sights lo s)

    sets : meaning layout (Assign n.var n.lo) charged ≡ begun
    sets =
        meaning_assign layout n.var n.lo charged
        ∙ ap (λ v. assign n.var v charged) (value_seen (seen charged) ts n.lo m.locals (λ t q. fits.steady t (apart.lo_loads t q)))
        ∙ assigns n.var lo charged fits.live

    runs_to : Pays layout → meaning layout (body_code n cs) m ≡ last
    runs_to pays =
        meaning_seq layout (charge_one ∷ Assign n.var n.lo ∷ cs) m
        ∙ ap (λ (x : Machine). meaning_all layout cs (meaning layout (Assign n.var n.lo) x)) (pays m fits.live)
        ∙ ap (meaning_all layout cs) sets

    leaves : Left begun last place → Leaves m last n
    leaves l = record {
      long = l.long ∙ length-set m.locals n.var lo;
      kept = λ e x k.
          l.kept e x (b.kept sights lo x k).0 (b.kept sights lo x k).1
          ∙ get_or-set_other m.locals n.var x lo (pos 0) (not_the_variable n apart x k.no_var);
      steady = λ e t q. l.steady e t (b.steady sights lo t q);
    }

  -- ---- the code means the nest
  pub body_means : Charges layout sense work → Means layout sense (body_code n cs) n
  body_means charges = record {
    does = λ ts s m fits j h.
        let i = lo ts m fits in
        let ss = sights ts m fits in
        let end : Machine = last ts m fits in
        let h2 : sense.stands (work s) (begun ts m fits) = enters ts m fits (work s) (charges.does s m fits.live h) in
        let p = b.performs ss i in
        subst (λ (x : Machine). Does sense ts s m x n) (sym (runs_to ts m fits charges.pays))
        (does_by sense ts s m end n
        (subst (λ z. sense.stands z end) (does_is ts m fits s) (p.does (work s) (begun ts m fits) (ready ts m fits) h2))
        (leaves ts m fits (p.leaves (work s) (begun ts m fits) (ready ts m fits) h2)));
  }

  -- The same with the turn that is counted behind it: the coordinate's charge is kept for it, and no statement looks at what
  -- is kept.
  pub body_counted : (owe : S → S) → Owing layout sense work owe → ((ss : List Seen) (i : ℤ) (s : S) → b.does ss i (owe s) ≡ owe (b.does ss i s)) → MeansCounted layout sense (body_code n cs) n
  body_counted owe owing commutes = record {
    does = λ ts s m fits j h.
        let i = lo ts m fits in
        let ss = sights ts m fits in
        let end : Machine = last ts m fits in
        let h2 : sense.stands (owe (work s)) (begun ts m fits) = enters ts m fits (owe (work s)) (owing.charge s m fits.live h) in
        let p = b.performs ss i in
        let owed : sense.stands (owe (b.does ss i (work s))) end =
        subst (λ z. sense.stands z end) (commutes ss i (work s)) (p.does (owe (work s)) (begun ts m fits) (ready ts m fits) h2) in
        subst (λ (x : Machine). Does sense ts s m (count_turn x) n) (sym (runs_to ts m fits owing.pays))
        (does_by sense ts s m (count_turn end) n
        (subst (λ z. sense.stands z (count_turn end)) (does_is ts m fits s) (owing.repay (b.does ss i (work s)) end owed))
        (leaves_counted m end n (leaves ts m fits (p.leaves (owe (work s)) (begun ts m fits) (ready ts m fits) h2))));
  }
