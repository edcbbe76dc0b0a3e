-- The nest that has the looplets which are made for a loop of a program does what the loop does.
use Rattle.std.proofs.Common.{◌≡◌, ℕ, zero, suc, ◌+◌, ◌-◌, ◌<◌, ◌≤◌, ◌^◌, ℤ, pos, negsuc, Bool, true, false, not, List, [], ◌∷◌, map, length, Option, Some, None, refl, sym, ap, ◌∙◌, arith, subst, T, IsTrue, if◌then◌else◌}
use Rattle.std.specs.Prelude.{nat_lt, IfSome, option_map, filter_map, slice_index_or, sum}
use Rattle.std.specs.List.{cons_option, list_all}
use Rattle.std.proofs.lemmas.Bool.Decides.{nat_tests}
use Rattle.fin_base.specs.declared.terms.Op.{Op}
use Rattle.fin_base.specs.declared.terms.Op.TheVariants as op
use Rattle.fin_tensor.specs.declared.format.Level.{Level}
use Rattle.fin_tensor.specs.declared.part.Part.{Part}
use Rattle.fin_tensor.specs.declared.part.Part.TheVariants as part
use Rattle.fin_tensor.specs.Levels.{IsStored, IsLevel, positions, fibres, child_in}
use Rattle.fin_tensor.proofs.Walk.{child_within}
use Rattle.fin_ast.specs.declared.tree.Index.{Index}
use Rattle.fin_ast.specs.Value.{Numbers, place}
use Rattle.fin_stage.specs.Staged.{Run, worked, asked_to_read}
use Rattle.fin_looplet.specs.declared.looplet.Looplet.{Looplet}
use Rattle.fin_looplet.specs.Lists.{views}
use Rattle.fin_looplet.specs.View.{stops}
use Rattle.fin_nest.specs.Nests.{Nest}
use Rattle.fin_unfurl.specs.Fibres.{Asked}
use Rattle.fin_unfurl.specs.Masks as unfurl
use Rattle.fin_simp.specs.Rest.{Access}
use Rattle.fin_simp.specs.Sights.{Stand, Nowhere, At, Unsettled, behind_index, driven_index, inside, child_at, stand_at}
use Rattle.fin_simp.specs.Work.{Driven, Mask, is_comparison, is_in, parts_at, driven_at, masks_of, begins_chunk, length_of, entry_of}
use Rattle.fin_simp.specs.Costs.{MasksCompare}
use Rattle.fin_ast.specs.Dense.{shape_at, range_of}
use Rattle.fin_simp.specs.Moving.{stays}
use Rattle.fin_drive.specs.declared.reading.Reading.{Reading}
use Rattle.fin_drive.specs.Looplets.{driven_looplet}
use Rattle.fin_drive.specs.Watches.{Watch, Tests, driven_in, masks_in, AllShow, IsPart, part_of}
use Rattle.fin_drive.specs.Stopping.{stop_counts}
use Rattle.fin_drive.specs.Standing.{StandsFor, asked_by, IsDriven, IsForRead, ShowsMask}
use Rattle.fin_drive.specs.Loops.{IsFor, AllFor, ShowAlong}
use Rattle.fin_drive.specs.Entries.{Entry, stretch, watch_of, watch_all, watches, Site, extent_of, reading_of, IsFound, IsHeld, IsSite, MadeRead, MadeMasks, MadeAll, IsMade, MadeNestsAreLoops, entered, MadeNestsRun}
use Rattle.fin_drive.proofs.Inside.{first_true, second_true, driven_last, driven_stays, stays_differ, stays_inside}
use Rattle.fin_drive.proofs.Shown.{reads_show, masks_show}
use Rattle.fin_drive.proofs.Loops.{looplets_show}
use Rattle.fin_drive.proofs.Parts.{chunks_are_nests}

-- ---- the watches are those of the loop

no_driven : (ms : List Mask) → driven_in (map Tests ms) ≡ []
no_driven [] = refl
no_driven (m ∷ ms) = no_driven ms

all_masks : (ms : List Mask) → masks_in (map Tests ms) ≡ ms
all_masks [] = refl
all_masks (m ∷ ms) = ap (λ (xs : List Mask). m ∷ xs) (all_masks ms)

module _ (e : Entry) where
  abbrev drives : Access → ℕ × Index → Driven
  drives a = driven_at e.world e.loop.vars e.run e.rest.changed a

  abbrev driven_of : Access → Option Driven
  driven_of a = option_map (drives a) (driven_index e.loop.loop.var a.at)

  one_driven : (a : Access) (o : Option (ℕ × Index)) (ws : List Watch) → driven_in (watch_of e a o ∷ ws) ≡ cons_option (option_map (drives a) o) (driven_in ws)
  one_driven a None ws = refl
  one_driven a (Some d) ws = refl

  one_mask : (a : Access) (o : Option (ℕ × Index)) (ws : List Watch) → masks_in (watch_of e a o ∷ ws) ≡ masks_in ws
  one_mask a None ws = refl
  one_mask a (Some d) ws = refl

  driven_are : (reads : List Access) (ms : List Mask) → driven_in (watch_all e reads ms) ≡ filter_map driven_of reads
  driven_are [] ms = no_driven ms
  driven_are (a ∷ reads) ms =
      one_driven a (driven_index e.loop.loop.var a.at) (watch_all e reads ms) ∙ ap (cons_option (driven_of a)) (driven_are reads ms)

  masks_are : (reads : List Access) (ms : List Mask) → masks_in (watch_all e reads ms) ≡ ms
  masks_are [] ms = all_masks ms
  masks_are (a ∷ reads) ms = one_mask a (driven_index e.loop.loop.var a.at) (watch_all e reads ms) ∙ masks_are reads ms

-- ---- where a driven index stands

nowhere_below : (vars : Numbers) (ns : List ℕ) (ps : List Part) (is : List Index) (k : ℕ) → stand_at vars ns ps is k None ≡ Nowhere
nowhere_below vars [] ps is k = refl
nowhere_below vars (n ∷ ns) [] is k = refl
nowhere_below vars (n ∷ ns) (p ∷ ps) [] k = refl
nowhere_below vars (n ∷ ns) (p ∷ ps) (i ∷ is) zero = refl
nowhere_below vars (n ∷ ns) (p ∷ ps) (i ∷ is) (suc k) = refl

inside_below : (n : ℕ) (z : ℤ) (c : ℕ) → inside n z ≡ Some c → c < n
inside_below n (negsuc m) c e = let x : ◌≡◌ {A = Option ℕ} None (Some c) = e in cc
inside_below n (pos m) c e = by_test (nat_lt m n) refl e where
  by_test : (b : Bool) → nat_lt m n ≡ b → (if b then Some m else None) ≡ Some c → c < n
  by_test true t h =
      let x : ◌≡◌ {A = Option ℕ} (Some m) (Some c) = h in
      let same : m ≡ c = cc in
      let lt : m < n = grind (arith, nat_tests) in
      subst (λ y. y < n) same lt
  by_test false t h = let x : ◌≡◌ {A = Option ℕ} None (Some c) = h in cc

-- a child that an index leads to is a position of the next level
module _ (l : Level) (n count : ℕ) (p : Part) (q : ℕ) (level : IsLevel l n count p) (within : q < count) where
  child_lies : (z : Option ℕ) → ((c : ℕ) → z ≡ Some c → c < n) → (q' : ℕ) → child_at n p q z ≡ Some q' → q' < positions n count p
  child_lies None below q' e = let x : ◌≡◌ {A = Option ℕ} None (Some q') = e in cc
  child_lies (Some c) below q' e = by_child (child_in n p q c) (child_within l n count p q c level within (below c refl)) e where
    by_child : (o : Option ℕ) → IfSome o (λ x. x < positions n count p) → o ≡ Some q' → q' < positions n count p
    by_child None h k = let x : ◌≡◌ {A = Option ℕ} None (Some q') = k in cc
    by_child (Some y) h k = let same : y ≡ q' = cc in subst (λ x. x < positions n count p) same h

abbrev Lies : List ℕ → List Part → ℕ → ℕ → Part → ℕ → Type 0
Lies ns ps count k p q = (p ≡ slice_index_or ps k part.Dense) × (q < fibres ns ps count k)

below_lies : (k count : ℕ) (ns : List ℕ) (ps : List Part) (vars : Numbers) (is : List Index) (p : Part) (q : ℕ) → ((y : ℕ) → y < count → stand_at vars ns ps is k (Some y) ≡ At p q
    → Lies ns ps count k p q)
    → (o : Option ℕ) → ((y : ℕ) → o ≡ Some y → y < count) → stand_at vars ns ps is k o ≡ At p q → Lies ns ps count k p q
below_lies k count ns ps vars is p q lies None small s = let x : Nowhere ≡ At p q = sym (nowhere_below vars ns ps is k) ∙ s in cc
below_lies k count ns ps vars is p q lies (Some y) small s = lies y (small y refl) s

stand_lies : (k count q : ℕ) (ls : List Level) (ns : List ℕ) (ps : List Part) (val : List ℤ) (vars : Numbers) (is : List Index) (p' : Part) (q' : ℕ)
    → IsStored count ls ns ps val → q < count → stand_at vars ns ps is k (Some q) ≡ At p' q' → Lies ns ps count k p' q'
stand_lies zero count q (l ∷ ls) (n ∷ ns) (p ∷ ps) val vars (i ∷ is) p' q' h lt e =
    let x : At p q ≡ At p' q' = e in
    let first : p' ≡ p = cc in
    let second : q ≡ q' = cc in
    (first, subst (λ y. y < count) second lt)
stand_lies (suc k) count q (l ∷ ls) (n ∷ ns) (p ∷ ps) val vars (i ∷ is) p' q' h lt e =
    below_lies k (positions n count p) ns ps vars is p' q' (λ y small s. stand_lies k (positions n count p) y ls ns ps val vars is p' q' h.3 small s) (child_at n p q (inside n (place vars i)))
    (child_lies l n count p q h.2 lt (inside n (place vars i)) (inside_below n (place vars i))) e
stand_lies k count q (l ∷ ls) (n ∷ ns) (p ∷ ps) val vars [] p' q' h lt e = let x : Nowhere ≡ At p' q' = e in cc
stand_lies k count q [] [] [] val vars is p' q' h lt e = let x : Nowhere ≡ At p' q' = e in cc
stand_lies k count q [] [] (p ∷ ps) val vars is p' q' h lt e = absurd h
stand_lies k count q [] (n ∷ ns) ps val vars is p' q' h lt e = absurd h
stand_lies k count q (l ∷ ls) [] ps val vars is p' q' h lt e = absurd h
stand_lies k count q (l ∷ ls) (n ∷ ns) [] val vars is p' q' h lt e = absurd h

-- ---- comparisons are the same to both

pub compares : (o : Op) → is_comparison o ≡ true → IsTrue (unfurl.is_comparison o)
compares op.Lt h = refl
compares op.Le h = refl
compares op.Gt h = refl
compares op.Ge h = refl
compares op.Eq h = refl
compares op.Ne h = refl
compares o h = absurd (subst T (sym h) tt)

-- ---- a read that the loop drives

module _ (e : Entry) (bound : e.loop.loop.var < length e.loop.vars) (a : Access) (d : ℕ × Index) (s : Site) where
  abbrev r : Reading
  r = reading_of e a d s.cursor

  abbrev asked : Asked
  asked = asked_by s.format r s.spot

  module _ (held : IsHeld e a d s) where
    stand_for : (stand : Stand) → stand_at e.loop.vars held.frozen.shape held.frozen.parts a.at d.0 (Some 0) ≡ stand → IsFound e.store e.locals s.spot stand
        → StandsFor e.store e.locals asked true stand
    stand_for Nowhere at found = found
    stand_for Unsettled at found = absurd found
    stand_for (At p q) at found =
        let lies = stand_lies d.0 1 0 s.format.levels held.frozen.shape held.frozen.parts held.frozen.val e.loop.vars a.at p q held.valid (omega arith) at in (
          held.frozen,
          lies.0,
          record {
            there = found.0;
            is = held.is;
            few = held.few;
            valid = held.valid;
            extent = ap (λ ns. slice_index_or ns d.0 0) (sym held.shape);
            within = lies.1;
            here = found.1;
            room = held.room;
          },
        )

    stands_held : StandsFor e.store e.locals asked true (stand_at e.loop.vars (shape_at e.world.setting a.tensor) (parts_at e.world e.run a.tensor) a.at d.0 (Some 0))
    stands_held =
        subst (λ (ps : List Part). StandsFor e.store e.locals asked true (stand_at e.loop.vars (shape_at e.world.setting a.tensor) ps a.at d.0 (Some 0))) (sym held.parts)
        (subst (λ (ns : List ℕ). StandsFor e.store e.locals asked true (stand_at e.loop.vars ns held.frozen.parts a.at d.0 (Some 0))) (sym held.shape)
        (stand_for (stand_at e.loop.vars held.frozen.shape held.frozen.parts a.at d.0 (Some 0)) refl held.found))

  module _ (h : IsSite e a d s) (index : driven_index e.loop.loop.var a.at ≡ Some d) where
    last : behind_index d.1 ≡ e.loop.loop.var + 1
    last = driven_last e.loop.loop.var a.at d index

    index_stays : stays e.world.setting (extent_of e a d) d.1 ≡ true
    index_stays = driven_stays e.world.setting (shape_at e.world.setting a.tensor) e.loop.loop.var a.at d h.stays index

    stands : (b : Bool) → is_in e.rest.changed a.tensor ≡ b
        → StandsFor e.store e.locals asked (not b) (if b then Unsettled else stand_at e.loop.vars (shape_at e.world.setting a.tensor) (parts_at e.world e.run a.tensor) a.at d.0 (Some 0))
    stands true t = tt
    stands false t = stands_held (h.held t)

    driven_is : IsDriven e.store e.locals s.format r s.spot e.loop.vars (driven_at e.world e.loop.vars e.run e.rest.changed a d)
    driven_is = record {
      index = refl;
      extent = refl;
      small = h.small;
      fill = h.fill;
      bound = bound;
      last = last;
      differs = stays_differ e.world.setting (extent_of e a d) d.1 index_stays;
      stands = stands (is_in e.rest.changed a.tensor) refl;
      other_number = h.other_number;
      others = h.others;
      behind = h.behind;
    }

    shows : (l : Looplet) → l ≡ driven_looplet s.format r s.spot → IsForRead s.format r s.spot l
    shows l made = subst (IsForRead s.format r s.spot) (sym made) (reads_show s.format r s.spot h.level h.apart)

module _ (e : Entry) (bound : e.loop.loop.var < length e.loop.vars) (begins : (range_of e.world.setting e.loop.loop.var).0 ≤ e.from)
    (ends : e.from + e.count ≤ (range_of e.world.setting e.loop.loop.var).1) (top : e.from + e.count ≤ 2 ^ 40) where
  read_is_for : (a : Access) (l : Looplet) (o : Option (ℕ × Index)) → driven_index e.loop.loop.var a.at ≡ o → MadeRead e a o l → IsFor (stretch e) (watch_of e a o) l
  read_is_for a l None index made = made
  read_is_for a l (Some d) index made = record {
    format = made.site.format;
    reading = reading_of e a d made.site.cursor;
    spot = made.site.spot;
    of_loop = refl;
    is = driven_is e bound a d made.site made.stands index;
    stays = record {
      top = top;
      inside = λ c low high.
          stays_inside e.world.setting e.loop.vars e.loop.loop.var c bound (omega (arith, begins, low)) (omega (arith, ends, high)) d.1 (extent_of e a d)
          (index_stays e bound a d made.site made.stands index)
          (last e bound a d made.site made.stands index);
    };
    shows = shows e bound a d made.site made.stands index l made.made;
  }

  -- ---- masks

  masks_are_for : (ms : List Mask) (ls : List Looplet) → list_all (λ (k : Mask). is_comparison k.op) ms ≡ true → MadeMasks e ms ls → AllFor (stretch e) (map Tests ms) ls
  masks_are_for [] [] all made = tt
  masks_are_for [] (l ∷ ls) all made = absurd made
  masks_are_for (k ∷ ms) [] all made = absurd made
  masks_are_for (k ∷ ms) (l ∷ ls) all made =
      let rest = list_all (λ (m : Mask). is_comparison m.op) ms in
      let one = made.0 in
      let shown = masks_show k.op k.bare_first one.bound (compares k.op (first_true (is_comparison k.op) rest all)) in (
        record { bound = one.bound; is = one.is; shows = subst (ShowsMask k.op k.bare_first one.bound) (sym one.made) shown },
        masks_are_for ms ls (second_true (is_comparison k.op) rest all) made.1,
      )

  all_are_for : (reads : List Access) (ms : List Mask) (ls : List Looplet) → list_all (λ (k : Mask). is_comparison k.op) ms ≡ true → MadeAll e reads ms ls
      → AllFor (stretch e) (watch_all e reads ms) ls
  all_are_for [] ms ls all made = masks_are_for ms ls all made
  all_are_for (a ∷ reads) ms [] all made = absurd made
  all_are_for (a ∷ reads) ms (l ∷ ls) all made = (read_is_for a l (driven_index e.loop.loop.var a.at) refl made.0, all_are_for reads ms ls all made.1)

-- ---- the nest

module _ (compare : MasksCompare) (e : Entry) (n : Nest Run) (h : IsMade e n) where
  abbrev ws : List Watch
  ws = watches e

  abbrev masks : List Mask
  masks = masks_of e.loop.vars e.loop.loop.var e.rest

  along : ShowAlong (stretch e) ws n.reads
  along = looplets_show (stretch e) ws n.reads h.top (all_are_for e h.bound h.begins h.ends h.top e.rest.reads masks n.reads (compare e.loop.vars e.loop.loop.var e.rest) h.looplets)

  driven : driven_in ws ≡ e.loop.loop.driven
  driven = driven_are e e.rest.reads masks ∙ sym h.entered.driven

  is_part : IsPart e.loop ws e.store e.locals n e.from e.count
  is_part = record {
    driven = driven;
    masks = masks_are e e.rest.reads masks ∙ sym h.entered.masks;
    body = h.body;
    lo = h.lo;
    hi = h.hi;
    shows = λ c low high. subst (λ (z : ℤ). AllShow e.loop.vars e.loop.loop.var c (c + 1 < e.from + e.count) ws (views e.store e.locals n.reads z (pos c))) (sym h.hi) (along.shows c low high);
  }

  abbrev all_stops : ℕ
  all_stops = sum (map (λ (l : Looplet). stops e.store e.locals l (pos e.from) (pos (e.from + e.count))) n.reads)

  few_along : all_stops ≤ stop_counts e.loop.vars e.loop.loop.var e.from e.count e.loop.loop.driven
  few_along =
      let long : e.from + e.count - e.from ≡ e.count = omega arith in
      subst (λ (ds : List Driven). all_stops ≤ stop_counts e.loop.vars e.loop.loop.var e.from e.count ds) driven
      (subst (λ (k : ℕ). all_stops ≤ stop_counts e.loop.vars e.loop.loop.var e.from k (driven_in ws)) long along.few_stops)

pub made_nests_are_loops : MasksCompare → MadeNestsAreLoops
made_nests_are_loops compare e n h = record {
  chunk = λ one r. chunks_are_nests e.loop (watches e) e.store e.locals n e.from e.count r (is_part compare e n h) one;
  loop = λ none r.
      chunks_are_nests e.loop (watches e) e.store e.locals n e.from e.count r (is_part compare e n h) (λ c low high. ap (λ k. begins_chunk e.loop.loop.len k (c + 1 - e.loop.loop.lo)) none);
  sound = (along compare e n h).sound;
  few_stops = few_along compare e n h;
  paid = λ from m. subst (λ (ds : List Driven). stop_counts e.loop.vars e.loop.loop.var from m ds ≤ sum (map length_of ds)) (driven compare e n h) ((along compare e n h).paid from m);
}

pub made_nests_run : MasksCompare → MadeNestsRun
made_nests_run compare w _ ctx var _ body _ _ vars r can ts ls n made =
    let e = entered w ctx var body vars r ts ls in
    (made_nests_are_loops compare e n made).loop refl (worked (entry_of e.loop.loop) r)
    ∙ ap (λ (b : Bool). part_of e.loop e.from e.count (worked (entry_of e.loop.loop) (asked_to_read b r))) (sym can)
