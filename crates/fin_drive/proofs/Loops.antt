-- The looplets of a loop's nest show what the definition of work knows, one by one.
use Rattle.std.proofs.Common.{◌≡◌, ℕ, ◌+◌, ◌-◌, map, ◌<◌, ◌≤◌, ◌^◌, List, [], ◌∷◌, ℤ, pos, ◌+ℤ◌, true, ◌<ℤ◌, refl, sym, ap, ◌∙◌, arith, subst}
use Rattle.std.specs.Prelude.{sum}
use Rattle.std.proofs.lemmas.List.Sums.{sum_by-cons}
use Rattle.fin_ir.specs.Meaning.{span}
use borrow.Author.Differences.{up, down, same_in, sum_is_lem, lt_out, le_out, at_most_in}
use Rattle.fin_looplet.specs.declared.looplet.Looplet.{Looplet}
use Rattle.fin_looplet.specs.declared.looplet.Looplet.TheVariants.{Run}
use Rattle.fin_looplet.specs.declared.looplet.Leaf.{Leaf}
use Rattle.fin_looplet.specs.View.{view, stops}
use Rattle.fin_looplet.specs.Lists.{views, AllSound}
use Rattle.fin_looplet.specs.Sound.{Places, SoundWithin, Near}
use Rattle.fin_unfurl.proofs.Small.{natural}
use Rattle.fin_unfurl.proofs.Counts.{filter_none, span_is}
use Rattle.fin_simp.specs.Work.{Driven, sight_of, length_of}
use Rattle.fin_ast.specs.Value.{Numbers}
use Rattle.fin_drive.specs.Watches.{Watch, Drives, Waits, Tests, driven_in, Faces, Shows, AllShow}
use Rattle.fin_drive.specs.Stopping.{stops_after, stop_count, stop_counts, StopsAdd}
use Rattle.fin_drive.proofs.Ranges.{moved_at_most, passing_adds}
use Rattle.fin_drive.specs.Loops.{Stretch, DrivesBy, IsFor, AllFor, LoopletsShow}

module _ (s : Stretch) (top : s.hi ≤ 2 ^ 40) (c : ℕ) (low : s.lo ≤ c) (high : c < s.hi) where
  one_shows : (w : Watch) (l : Looplet) → IsFor s w l → Shows s.vars s.var c (c + 1 < s.hi) w (view s.store s.locals l (pos s.hi) (pos c))
  one_shows (Drives d) l h =
      subst (λ x. Faces (view s.store s.locals l (pos s.hi) (pos c)) (sight_of s.vars x c d) d.fill (c + 1 < s.hi)) h.of_loop
      (h.shows.shows (pos s.hi) s.store s.locals s.vars d s.lo s.hi h.is h.stays c low high)
  one_shows Waits l h = ap (λ (x : Looplet). (view s.store s.locals x (pos s.hi) (pos c)).ends) h.1
  one_shows (Tests k) l h = h.shows.shows s.store s.locals k s.hi c refl refl h.is top high

  abbrev served : Places
  served j = j <ℤ pos s.hi

  one_sound : (w : Watch) (l : Looplet) → IsFor s w l → SoundWithin Near s.store s.locals l served (pos c)
  one_sound (Drives d) l h = h.shows.sound s.store s.locals s.vars d s.lo s.hi h.is h.stays c low high
  one_sound Waits l h = subst (λ (x : Looplet). SoundWithin Near s.store s.locals x served (pos c)) (sym h.1) tt
  one_sound (Tests k) l h = h.shows.sound s.store s.locals s.hi c top high

  all_show : (ws : List Watch) (ls : List Looplet) → AllFor s ws ls → AllShow s.vars s.var c (c + 1 < s.hi) ws (views s.store s.locals ls (pos s.hi) (pos c))
  all_show [] [] h = tt
  all_show [] (l ∷ ls) h = absurd h
  all_show (w ∷ ws) [] h = absurd h
  all_show (w ∷ ws) (l ∷ ls) h = (one_shows w l h.0, all_show ws ls h.1)

  all_sound : (ws : List Watch) (ls : List Looplet) → AllFor s ws ls → AllSound Near s.store s.locals ls served (pos c)
  all_sound [] [] h = tt
  all_sound [] (l ∷ ls) h = absurd h
  all_sound (w ∷ ws) [] h = absurd h
  all_sound (w ∷ ws) (l ∷ ls) h = (one_sound w l h.0, all_sound ws ls h.1)

-- ---- stops

total : (x : ℕ) (xs : List ℕ) → sum (x ∷ xs) ≡ x + sum xs
total x xs = sum_by-cons (λ y. y) x xs

added : (vars : Numbers) (var from m k : ℕ) (ds : List Driven) → stop_counts vars var from (m + k) ds ≡ stop_counts vars var from m ds + stop_counts vars var (from + m) k ds
added vars var from m k [] = omega arith
added vars var from m k (d ∷ ds) =
    omega (
      arith,
      total (stop_count vars var from (m + k) d) (map (stop_count vars var from (m + k)) ds),
      total (stop_count vars var from m d) (map (stop_count vars var from m) ds),
      total (stop_count vars var (from + m) k d) (map (stop_count vars var (from + m) k) ds),
      passing_adds (stops_after vars var d) from m k,
      added vars var from m k ds,
    )

pub stops_add : StopsAdd
stops_add vars var from m k ds = added vars var from m k ds

module _ (s : Stretch) (top : s.hi ≤ 2 ^ 40) where
  abbrev stops_of : Looplet → ℕ
  stops_of l = stops s.store s.locals l (pos s.lo) (pos s.hi)

  abbrev places_of : Driven → ℕ
  places_of = stop_count s.vars s.var s.lo (s.hi - s.lo)

  run_stops : (leaf : Leaf) → stops_of (Run leaf) ≡ 0
  run_stops leaf = filter_none 0 (span (pos s.lo) (pos s.hi) - 1)

  -- the last coordinate of a region is no stop of it
  driven_stops : (d : Driven) (l : Looplet) → DrivesBy s d l → stops_of l ≤ places_of d
  driven_stops d l h =
      let m = span (pos s.lo) (pos s.hi) - 1 in
      let long = span_is s.lo s.hi in
      let k = s.hi - s.lo - m in
      let both : m + k ≡ s.hi - s.lo = omega (arith, long) in
      let few = moved_at_most (λ i. (view s.store s.locals l (pos s.hi) (pos s.lo +ℤ pos i)).stop) (stops_after s.vars s.var d) 0 s.lo m
      (λ i lt e.
      let sum : pos s.lo +ℤ pos (0 + i) ≡ pos (s.lo + i) = same_in (pos s.lo +ℤ pos (0 + i)) (pos (s.lo + i)) (omega (arith, sum_is_lem (pos s.lo) (pos (0 + i)))) in
      subst (λ x. stops_after s.vars x d (s.lo + i) ≡ true) h.of_loop
      (h.shows.stops s.store s.locals s.vars d s.lo s.hi h.is h.stays (s.lo + i) (omega arith) (omega (arith, lt, long))
      (ap (λ (y : ℤ). (view s.store s.locals l (pos s.hi) y).stop) (sym sum) ∙ e))) in
      let all = ap (λ j. stop_count s.vars s.var s.lo j d) both in
      omega (arith, few, all, passing_adds (stops_after s.vars s.var d) s.lo m k)

  few_stops : (ws : List Watch) (ls : List Looplet) → AllFor s ws ls → sum (map stops_of ls) ≤ sum (map places_of (driven_in ws))
  few_stops [] [] h = omega arith
  few_stops [] (l ∷ ls) h = absurd h
  few_stops (w ∷ ws) [] h = absurd h
  few_stops (Drives d ∷ ws) (l ∷ ls) h =
      let due : sum (map places_of (driven_in (Drives d ∷ ws))) ≡ places_of d + sum (map places_of (driven_in ws)) = total (places_of d) (map places_of (driven_in ws)) in
      omega (arith, total (stops_of l) (map stops_of ls), due, driven_stops d l h.0, few_stops ws ls h.1)
  few_stops (Waits ∷ ws) (l ∷ ls) h =
      let none : stops_of l ≡ 0 = ap stops_of h.0.1 ∙ run_stops h.0.0 in
      let later : sum (map stops_of ls) ≤ sum (map places_of (driven_in (Waits ∷ ws))) = few_stops ws ls h.1 in
      omega (arith, total (stops_of l) (map stops_of ls), none, later)
  few_stops (Tests k ∷ ws) (l ∷ ls) h =
      let none : stops_of l ≡ 0 = h.0.shows.no_stops s.store s.locals s.lo s.hi top in
      let later : sum (map stops_of ls) ≤ sum (map places_of (driven_in (Tests k ∷ ws))) = few_stops ws ls h.1 in
      omega (arith, total (stops_of l) (map stops_of ls), none, later)

  paid : (from m : ℕ) (ws : List Watch) (ls : List Looplet) → AllFor s ws ls → stop_counts s.vars s.var from m (driven_in ws) ≤ sum (map length_of (driven_in ws))
  paid from m [] [] h = omega arith
  paid from m [] (l ∷ ls) h = absurd h
  paid from m (w ∷ ws) [] h = absurd h
  paid from m (Drives d ∷ ws) (l ∷ ls) h =
      let due : sum (map length_of (driven_in (Drives d ∷ ws))) ≡ length_of d + sum (map length_of (driven_in ws)) = total (length_of d) (map length_of (driven_in ws)) in
      let own : stop_count s.vars s.var from m d ≤ length_of d =
      subst (λ x. stop_count s.vars x from m d ≤ length_of d) h.0.of_loop (h.0.shows.paid s.store s.locals s.vars d h.0.is from m) in
      omega (arith, total (stop_count s.vars s.var from m d) (map (stop_count s.vars s.var from m) (driven_in ws)), due, own, paid from m ws ls h.1)
  paid from m (Waits ∷ ws) (l ∷ ls) h = paid from m ws ls h.1
  paid from m (Tests k ∷ ws) (l ∷ ls) h = paid from m ws ls h.1

pub looplets_show : LoopletsShow
looplets_show s ws ls top h = record {
  shows = λ c low high. all_show s top c low high ws ls h;
  sound = λ i low high.
      let n = natural i (at_most_in (pos 0) i (omega (arith, le_out (pos s.lo) i low))) in
      subst (AllSound Near s.store s.locals ls (λ j. j <ℤ pos s.hi)) (sym n.1)
      (all_sound s top n.0 (omega (arith, le_out (pos s.lo) i low, ap up n.1, ap down n.1)) (omega (arith, lt_out i (pos s.hi) high, ap up n.1, ap down n.1)) ws ls h);
  few_stops = few_stops s top ws ls h;
  paid = λ from m. paid s top from m ws ls h;
}
