-- The looplets that are made for a loop keep apart.
use Rattle.std.proofs.Common.{◌≡◌, ⊎_elim, ℕ, ◌+◌, ◌<◌, ◌≤◌, Bool, true, false, List, [], ◌∷◌, Option, Some, None, sym, ap, ◌∙◌, arith, subst}
use Rattle.std.specs.List.{list_all}
use Rattle.fin_ast.specs.declared.tree.Index.{Index}
use Rattle.fin_looplet.specs.declared.looplet.Looplet.{Looplet}
use Rattle.fin_looplet.specs.Names.{Names, Loads}
use Rattle.fin_looplet.specs.Locals.{Free, LoadsIn, Owns, ShiftNames, Nested}
use Rattle.fin_looplet.specs.Lists.{AnyFree, AnyLoads, AnyOwns, AnyShiftNames, AllNested, AllApart}
use Rattle.fin_simp.specs.Rest.{Access}
use Rattle.fin_simp.specs.Sights.{driven_index}
use Rattle.fin_simp.specs.Work.{Mask, is_comparison, is_in, masks_of}
use Rattle.fin_simp.specs.Costs.{MasksCompare}
use Rattle.fin_drive.specs.Standing.{IsForRead, ShowsMask}
use Rattle.fin_drive.specs.Entries.{Entry, reading_of, MadeRead, MadeMask, MadeMasks, MadeAll}
use Rattle.fin_drive.specs.Separation.{Marked, IsOutside, IsReadApart, behind_read, AreMasksApart, AreApart, MadeKeepApart}
use Rattle.fin_drive.proofs.Shown.{reads_show, masks_show}
use Rattle.fin_drive.proofs.Inside.{first_true, second_true, not_false}
use Rattle.fin_drive.proofs.Made.{compares}

-- one looplet, whose own locals are from one on and before another
record Keeps (m : Marked) (from to : ℕ) (l : Looplet) : Type 0 where
  nested : Nested l
  owns : (x : ℕ) → Owns x l → (m.own x ≡ true) × (from ≤ x) × (x < to)
  depends : (x : ℕ) → Free x l → m.own x ≡ false
  shifts : (x : ℕ) → ShiftNames x l → m.own x ≡ false
  loads : (t : ℕ) → LoadsIn t l → m.steady t ≡ true

-- looplets, whose own locals are from one on
record AllKeep (m : Marked) (from : ℕ) (ls : List Looplet) : Type 0 where
  nested : AllNested ls
  apart : AllApart ls
  owns : (x : ℕ) → AnyOwns x ls → (m.own x ≡ true) × (from ≤ x)
  depends : (x : ℕ) → AnyFree x ls → m.own x ≡ false
  shifts : (x : ℕ) → AnyShiftNames x ls → m.own x ≡ false
  loads : (t : ℕ) → AnyLoads t ls → m.steady t ≡ true

none_keep : (m : Marked) (from : ℕ) → AllKeep m from []
none_keep m from = record { nested = tt; apart = tt; owns = λ x h. absurd h; depends = λ x h. absurd h; shifts = λ x h. absurd h; loads = λ t h. absurd h }

one_more : (m : Marked) (from to : ℕ) (l : Looplet) (ls : List Looplet) → from ≤ to → Keeps m from to l → AllKeep m to ls → AllKeep m from (l ∷ ls)
one_more m from to l ls le one rest = record {
  nested = (one.nested, rest.nested);
  apart = (λ x h k. let a = one.owns x h in let b = rest.owns x k in absurd (omega (arith, a.2, b.1)), rest.apart);
  owns = λ x. ⊎_elim (λ (h : Owns x l). let a = one.owns x h in (a.0, a.1)) (λ (h : AnyOwns x ls). let b = rest.owns x h in (b.0, omega (arith, le, b.1)));
  depends = λ x. ⊎_elim (λ (h : Free x l). one.depends x h) (λ (h : AnyFree x ls). rest.depends x h);
  shifts = λ x. ⊎_elim (λ (h : ShiftNames x l). one.shifts x h) (λ (h : AnyShiftNames x ls). rest.shifts x h);
  loads = λ t. ⊎_elim (λ (h : LoadsIn t l). one.loads t h) (λ (h : AnyLoads t ls). rest.loads t h);
}

module _ (m : Marked) (e : Entry) where
  -- ---- masks

  mask_keeps : (from : ℕ) (k : Mask) (l : Looplet) → is_comparison k.op ≡ true → (made : MadeMask e k l) → IsOutside m made.bound → Keeps m from from l
  mask_keeps from k l compare made out =
      let s : ShowsMask k.op k.bare_first made.bound l = subst (ShowsMask k.op k.bare_first made.bound) (sym made.made) (masks_show k.op k.bare_first made.bound (compares k.op compare)) in
      record { nested = s.nested; owns = λ x h. absurd (s.owns x h); depends = λ x h. out.names x (s.depends x h); shifts = λ x h. absurd (s.shifts x h); loads = λ t h. out.loads t (s.loads t h) }

  masks_keep : (from : ℕ) (ms : List Mask) (ls : List Looplet) → list_all (λ (k : Mask). is_comparison k.op) ms ≡ true → (made : MadeMasks e ms ls) → AreMasksApart m e ms ls made → AllKeep m from ls
  masks_keep from [] [] all made out = none_keep m from
  masks_keep from [] (l ∷ ls) all made out = absurd out
  masks_keep from (k ∷ ms) [] all made out = absurd out
  masks_keep from (k ∷ ms) (l ∷ ls) all made out =
      let rest = list_all (λ (x : Mask). is_comparison x.op) ms in
      one_more m from from l ls (omega arith) (mask_keeps from k l (first_true (is_comparison k.op) rest all) made.0 out.0)
      (masks_keep from ms ls (second_true (is_comparison k.op) rest all) made.1 out.1)

  -- ---- reads

  behind_is : (from : ℕ) (a : Access) (o : Option (ℕ × Index)) (l : Looplet) (made : MadeRead e a o l) → IsReadApart m from e a o l made → from ≤ behind_read from e a o l made
  behind_is from a None l made out = omega arith
  behind_is from a (Some d) l made out = omega (arith, out.behind)

  read_keeps : (from : ℕ) (a : Access) (o : Option (ℕ × Index)) (l : Looplet) (made : MadeRead e a o l) → IsReadApart m from e a o l made → Keeps m from (behind_read from e a o l made) l
  read_keeps from a None l made out =
      subst (Keeps m from from) (sym made.1)
      (record { nested = tt; owns = λ x h. absurd h; depends = λ x h. out.names x h; shifts = λ x h. absurd h; loads = λ t h. out.loads t h })
  read_keeps from a (Some d) l made out =
      let site = made.site in
      let r = reading_of e a d site.cursor in
      let s : IsForRead site.format r site.spot l = subst (IsForRead site.format r site.spot) (sym made.made) (reads_show site.format r site.spot made.stands.level made.stands.apart) in
      record {
        nested = s.apart.nested;
        owns = λ x h. ⊎_elim
            (λ (k : x ≡ site.cursor). (ap m.own k ∙ out.first, omega (arith, k, out.behind), omega (arith, k)))
            (λ (k : x ≡ site.cursor + 1). (ap m.own k ∙ out.second, omega (arith, k, out.behind), omega (arith, k)))
            (s.owns x h);
        depends = λ x h. ⊎_elim
            (λ q. ⊎_elim (λ (k : Names x site.spot.place). out.place.names x k) (λ (k : Names x site.spot.there). out.there.names x k) q)
            (λ (k : Names x site.spot.by). out.by.names x k)
            (s.depends x h);
        shifts = λ x h. out.by.names x (s.apart.shifts x h);
        loads = λ t h. ⊎_elim
            (λ (k : (r.settled ≡ true) × (t ≡ r.tensor)). ap m.steady k.1 ∙ out.tensor (not_false (is_in e.rest.changed a.tensor) k.0))
            (λ q. ⊎_elim
            (λ p. ⊎_elim (λ (k : Loads t site.spot.place). out.place.loads t k) (λ (k : Loads t site.spot.there). out.there.loads t k) p)
            (λ (k : Loads t site.spot.by). out.by.loads t k) q)
            (s.loads t h);
      }

  all_keep : (from : ℕ) (reads : List Access) (ms : List Mask) (ls : List Looplet) → list_all (λ (k : Mask). is_comparison k.op) ms ≡ true
      → (made : MadeAll e reads ms ls) → AreApart m from e reads ms ls made → AllKeep m from ls
  all_keep from [] ms ls all made out = masks_keep from ms ls all made out
  all_keep from (a ∷ reads) ms [] all made out = absurd out
  all_keep from (a ∷ reads) ms (l ∷ ls) all made out =
      let o = driven_index e.loop.loop.var a.at in
      let to = behind_read from e a o l made.0 in
      one_more m from to l ls (behind_is from a o l made.0 out.0) (read_keeps from a o l made.0 out.0) (all_keep to reads ms ls all made.1 out.1)

not_both : (b : Bool) → b ≡ true → b ≡ false → ⊥
not_both b e f = let x : true ≡ false = sym e ∙ f in cc

pub made_keep_apart : MasksCompare → MadeKeepApart
made_keep_apart compare m next e n made out =
    let all = all_keep m e next e.rest.reads (masks_of e.loop.vars e.loop.loop.var e.rest) n.reads (compare e.loop.vars e.loop.loop.var e.rest) made.looplets out in
    record {
      separate = record {
        nested = all.nested;
        apart = all.apart;
        bound = λ x h k. not_both (m.own x) (all.owns x h).0 (all.depends x k);
        unshifted = λ x h k. not_both (m.own x) (all.owns x h).0 (all.shifts x k);
      };
      owns = λ x h. (all.owns x h).0;
      depends = all.depends;
      loads = all.loads;
    }
