-- The body that goes by what is seen goes on, and does the same at points, without flags, and where nothing is left; so
-- jumpers pass over it.
use Rattle.std.proofs.Common.{◌≡◌, ℕ, ℤ, pos, ◌+ℤ◌, Bool, true, false, ◌&&◌, List, [], ◌∷◌, Option, refl, sym, ap, ◌∙◌, arith, subst, if◌then◌else◌}
use Rattle.std.proofs.Math.Path.{fun_ext}
use Rattle.std.specs.Prelude.{map, slice_set}
use Rattle.std.specs.Option.{option_or}
use Rattle.fin_ast.specs.Value.{Numbers}
use Rattle.fin_stage.specs.Staged.{Run, worked}
use Rattle.fin_looplet.specs.View.{Store, Sight, Seen}
use Rattle.fin_looplet.specs.Lists.{seens}
use Rattle.fin_nest.specs.Nests.{Nest, Body, views_of}
use Rattle.fin_nest.specs.Laws.{bare, AtPoints}
use Rattle.fin_nest.specs.Senses.{runs, turns, Tallied, Advances}
use Rattle.fin_nest.proofs.Both.{cut_statements_stand}
use Rattle.fin_simp.specs.Left.{Marks}
use Rattle.fin_simp.specs.Rest.{Rest, Kind, Nothing as NoKind, OneUpdate, Other, is_none_kind}
use Rattle.fin_simp.specs.Work.{is_one_update, costing, first_share}
use Rattle.fin_drive.specs.Turns.{Slot, Driving, Waiting, Testing, Watched, fill_by, word_by, first_known, marks_seen, rest_seen, is_fixed_seen, seen_turn}
use Rattle.fin_drive.specs.Bodies.{tallied_turn, GoesOn, UpdatesOnce, BodiesGoOn, BodiesAtPoints, BodiesAreFlagless, BodiesAreNothing, BodiesJump}

-- ---- it goes on

module _ (x : Watched) (go : GoesOn x) where
  chosen_advances : (n p : Bool) (share : ℕ) (m : Marks) (vars : Numbers) (r : Run) → Advances r (if n then r else (if p then costing share r (x.body m vars r) else x.body m vars (worked 1 r)))
  chosen_advances true p share m vars r = record { before = λ h. h; work = omega arith }
  chosen_advances false true share m vars r = record { before = (go m vars r).before; work = omega arith }
  chosen_advances false false share m vars r = record { before = (go m vars (worked 1 r)).before; work = omega (arith, (go m vars (worked 1 r)).work) }

  turn_advances : (ss : List Seen) (begins : Bool) (i : ℤ) (r : Run) → Advances r (seen_turn x ss begins i r)
  turn_advances ss begins i r =
      chosen_advances (is_none_kind (rest_seen x ss).kind) (is_fixed_seen x ss (rest_seen x ss)) (first_share begins) (marks_seen x ss) (slice_set x.vars x.var i) r

pub bodies_go_on : BodiesGoOn
bodies_go_on s x go = (
  λ ss begins i. (cut_statements_stand s).in_values (seen_turn x ss begins i) (λ r. turn_advances x go ss begins i r),
  λ ss begins i. (cut_statements_stand s).in_turns (tallied_turn x ss begins i) (λ t. record { run = turn_advances x go ss begins i t.run; tally = omega arith; owed = refl }),
)

-- ---- at points

-- what is seen, as if it didn't vary
abbrev still : Sight → Seen
still sight = record { sight = sight; varies = false }

fill_still : (y : Slot) (s : Seen) (k : ℕ) → fill_by y s k ≡ fill_by y (still s.sight) k
fill_still (Driving j) s k = refl
fill_still Waiting s k = refl
fill_still (Testing j) s k = refl

word_still : (y : Slot) (s : Seen) (k : ℕ) → word_by y s k ≡ word_by y (still s.sight) k
word_still (Driving j) s k = refl
word_still Waiting s k = refl
word_still (Testing j) s k = refl

module _ (by : Slot → Seen → ℕ → Option ℤ) (same : (y : Slot) (s : Seen) (k : ℕ) → by y s k ≡ by y (still s.sight) k) where
  known_still : (ys : List Slot) (ss : List Seen) (k : ℕ) → first_known by ys ss k ≡ first_known by ys (map still (map bare ss)) k
  known_still [] ss k = refl
  known_still (y ∷ ys) [] k = refl
  known_still (y ∷ ys) (s ∷ ss) k =
      ap (λ (o : Option ℤ). option_or o (first_known by ys ss k)) (same y s k) ∙ ap (option_or (by y (still s.sight) k)) (known_still ys ss k)

marks_still : (x : Watched) (ss : List Seen) → marks_seen x ss ≡ marks_seen x (map still (map bare ss))
marks_still x ss =
    let held = marks_seen x (map still (map bare ss)) in
    ap (λ (f : ℕ → Option ℤ). record { reads = f; tests = (marks_seen x ss).tests; vars = x.around.vars }) (fun_ext (λ k. ap (option_or (x.around.reads k)) (known_still fill_by fill_still x.slots ss k)))
    ∙ ap (λ (f : ℕ → Option ℤ). record { reads = held.reads; tests = f; vars = x.around.vars }) (fun_ext (λ k. ap (option_or (x.around.tests k)) (known_still word_by word_still x.slots ss k)))

marks_bare : (x : Watched) (ss ss' : List Seen) → map bare ss ≡ map bare ss' → marks_seen x ss ≡ marks_seen x ss'
marks_bare x ss ss' e = marks_still x ss ∙ ap (λ (l : List Sight). marks_seen x (map still l)) e ∙ sym (marks_still x ss')

one_of : (k : Kind) (a b c : Bool) → (is_one_update k && a && b && c) ≡ true → is_one_update k ≡ true
one_of NoKind a b c h = h
one_of OneUpdate a b c h = refl
one_of Other a b c h = h

fixed_one : (x : Watched) (ss : List Seen) (rest : Rest) → is_fixed_seen x ss rest ≡ true → is_one_update rest.kind ≡ true
fixed_one x ss rest h = one_of rest.kind _ _ _ h

module _ (x : Watched) (once : UpdatesOnce x) where
  -- fixed or not, the same is done and paid
  either_way : (ss ss' : List Seen) (m : Marks) (vars : Numbers) (r : Run) (n p q : Bool) → is_fixed_seen x ss (x.rest m) ≡ p → is_fixed_seen x ss' (x.rest m) ≡ q
      → (if n then r else (if p then costing 2 r (x.body m vars r) else x.body m vars (worked 1 r))) ≡ (if n then r else (if q then costing 2 r (x.body m vars r) else x.body m vars (worked 1 r)))
  either_way ss ss' m vars r true p q f g = refl
  either_way ss ss' m vars r false true true f g = refl
  either_way ss ss' m vars r false true false f g = once m vars r (fixed_one x ss (x.rest m) f)
  either_way ss ss' m vars r false false true f g = sym (once m vars r (fixed_one x ss' (x.rest m) g))
  either_way ss ss' m vars r false false false f g = refl

  turn_at_points : AtPoints (seen_turn x)
  turn_at_points ss ss' i r e =
      let inner = slice_set x.vars x.var i in
      let there = marks_seen x ss' in
      ap (λ (m : Marks). if is_none_kind (x.rest m).kind then r else (if is_fixed_seen x ss (x.rest m) then costing 2 r (x.body m inner r) else x.body m inner (worked 1 r))) (marks_bare x ss ss' e)
      ∙ either_way ss ss' there inner r (is_none_kind (x.rest there).kind) (is_fixed_seen x ss (x.rest there)) (is_fixed_seen x ss' (x.rest there)) refl refl

pub bodies_at_points : BodiesAtPoints
bodies_at_points x once = (
  turn_at_points x once,
  λ ss ss' i t e. ap (λ (r : Run). record { run = r; tally = t.tally; owed = t.owed }) (turn_at_points x once ss ss' i t.run e),
)

-- ---- without flags

not_fixed : (n p : Bool) (r u v w : Run) → p ≡ false → (if n then r else (if p then u else w)) ≡ (if n then r else (if p then v else w))
not_fixed true p r u v w h = refl
not_fixed false false r u v w h = refl
not_fixed false true r u v w h = let y : true ≡ false = h in cc

turn_flagless : (x : Watched) (ss : List Seen) (b : Bool) (i : ℤ) (r : Run) → is_fixed_seen x ss (rest_seen x ss) ≡ false → seen_turn x ss b i r ≡ seen_turn x ss true i r
turn_flagless x ss b i r h =
    let inner = slice_set x.vars x.var i in
    let m = marks_seen x ss in
    not_fixed (is_none_kind (rest_seen x ss).kind) (is_fixed_seen x ss (rest_seen x ss)) r (costing (first_share b) r (x.body m inner r)) (costing (first_share true) r (x.body m inner r)) (x.body m inner (worked 1 r)) h

pub bodies_are_flagless : BodiesAreFlagless
bodies_are_flagless x = (
  λ n e never ts ls b i r.
      let ss = seens (views_of ts ls n i) in
      ap (λ (y : Body Run). y ss b i r) e ∙ turn_flagless x ss b i r (never ts ls i) ∙ sym (ap (λ (y : Body Run). y ss true i r) e),
  λ n e never ts ls b i t.
      let ss = seens (views_of ts ls n i) in
      ap (λ (y : Body Tallied). y ss b i t) e ∙ ap (λ (r : Run). record { run = r; tally = t.tally; owed = t.owed }) (turn_flagless x ss b i t.run (never ts ls i)) ∙ sym (ap (λ (y : Body Tallied). y ss true i t) e),
)

-- ---- nothing

turn_nothing : (x : Watched) (ss : List Seen) (b : Bool) (i : ℤ) (r : Run) → is_none_kind (rest_seen x ss).kind ≡ true → seen_turn x ss b i r ≡ r
turn_nothing x ss b i r h =
    let inner = slice_set x.vars x.var i in
    let m = marks_seen x ss in
    ap (λ (n : Bool). if n then r else (if is_fixed_seen x ss (x.rest m) then costing (first_share b) r (x.body m inner r) else x.body m inner (worked 1 r))) h

pub bodies_are_nothing : BodiesAreNothing
bodies_are_nothing s x = (
  λ n e none ts ls b i r m stands.
      let ss = seens (views_of ts ls n i) in
      subst (λ (y : Run). (runs s).stands y m) (sym (ap (λ (y : Body Run). y ss b i r) e ∙ turn_nothing x ss b i r (none ts ls i))) stands,
  λ n e none ts ls b i t m stands.
      let ss = seens (views_of ts ls n i) in
      subst (λ (y : Tallied). (turns s).stands y m)
      (sym (ap (λ (y : Body Tallied). y ss b i t) e ∙ ap (λ (r : Run). record { run = r; tally = t.tally; owed = t.owed }) (turn_nothing x ss b i t.run (none ts ls i)))) stands,
)

-- ---- and at coordinates that are passed over

runs_alike : (x : Watched) (n : Nest Run) (e : n.body ≡ seen_turn x) (ts : Store) (ls : List ℤ) (i : ℤ) → is_none_kind (rest_seen x (seens (views_of ts ls n i))).kind ≡ true → (b : Bool) (r : Run)
    → n.body (seens (views_of ts ls n i)) b i r ≡ r
runs_alike x n e ts ls i none b r =
    let ss = seens (views_of ts ls n i) in
    ap (λ (y : Body Run). y ss b i r) e ∙ turn_nothing x ss b i r none

tallies_alike : (x : Watched) (n : Nest Tallied) (e : n.body ≡ tallied_turn x) (ts : Store) (ls : List ℤ) (i : ℤ) → is_none_kind (rest_seen x (seens (views_of ts ls n i))).kind ≡ true → (b : Bool) (t : Tallied)
    → n.body (seens (views_of ts ls n i)) b i t ≡ t
tallies_alike x n e ts ls i none b t =
    let ss = seens (views_of ts ls n i) in
    ap (λ (y : Body Tallied). y ss b i t) e ∙ ap (λ (r : Run). record { run = r; tally = t.tally; owed = t.owed }) (turn_nothing x ss b i t.run none)

pub bodies_jump : BodiesJump
bodies_jump s x ts ls = (
  λ n e p. record {
    simple = p.simple;
    silent = λ i q b r m stands. subst (λ (y : Run). (runs s).stands y m) (sym (runs_alike x n e ts ls i (p.here i q) b r)) stands;
    flagless = λ i q ends r. runs_alike x n e ts ls (i +ℤ pos 1) (p.next i q ends) false r ∙ sym (runs_alike x n e ts ls (i +ℤ pos 1) (p.next i q ends) true r);
  },
  λ n e p. record {
    simple = p.simple;
    silent = λ i q b t m stands. subst (λ (y : Tallied). (turns s).stands y m) (sym (tallies_alike x n e ts ls i (p.here i q) b t)) stands;
    flagless = λ i q ends t. tallies_alike x n e ts ls (i +ℤ pos 1) (p.next i q ends) false t ∙ sym (tallies_alike x n e ts ls (i +ℤ pos 1) (p.next i q ends) true t);
  },
)
