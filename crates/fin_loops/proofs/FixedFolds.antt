-- A nest along which one update is left that is the same at each coordinate: its fold does the update at each coordinate,
-- behind the work of a turn and of an update.
use Rattle.std.proofs.Common.{◌≡◌, ℕ, zero, suc, ◌+◌, Bool, true, false, ◌&&◌, List, Some, if◌then◌else◌, refl, sym, ap, ◌∙◌, ℤ, pos, ◌+ℤ◌, arith}
use Rattle.std.specs.Prelude.{not, slice_set}
use Rattle.std.specs.List.{list_all}
use Rattle.fin_ast.specs.Scope.{Scope}
use Rattle.fin_ast.specs.Value.{Numbers}
use Rattle.fin_looplet.specs.View.{Store, value, Seen}
use Rattle.fin_looplet.specs.Lists.{views, seens}
use Rattle.fin_nest.specs.Courses.{nest_with}
use Rattle.fin_nest.specs.Nests.{Nest, Flags, fresh, views_of, paid_if, at_act, at_flags, part}
use Rattle.fin_nest.specs.Senses.{Advances}
use Rattle.fin_simp.specs.Left.{Marks}
use Rattle.fin_simp.specs.Rest.{Access, Kind, Nothing, OneUpdate, Other, Rest, is_none_kind}
use Rattle.fin_simp.specs.Work.{World, is_in, names_var, is_one_update, costing, first_share}
use Rattle.fin_drive.specs.Turns.{any_varies, marks_seen, seen_turn, Watched}
use Rattle.fin_drive.proofs.Programs.{statements_go_on, statements_update_once}
use Rattle.fin_stage.specs.Staged.{Run, worked}
use Rattle.fin_style_point.specs.declared.nest.Nest as point
use Rattle.fin_style_point.specs.Parts.{all_looplets, course_of}
use Rattle.fin_style_point.specs.Steps.{AllFlat}
use Rattle.fin_style_point.proofs.Flat.{flat_ends}
use Rattle.fin_perform.specs.Places.{left_of_all}
use Rattle.fin_perform.specs.Working.{body_of}
use Rattle.fin_loops.specs.Loops.{Loop, slots, watching, behind_of}
use Rattle.fin_loops.specs.Points.{AreSettled, marks_at_point, seen_bare}
use Rattle.fin_loops.specs.Told.{is_fixed_along}
use Rattle.fin_loops.proofs.FixedTurns.{done_along}
use Rattle.fin_loops.proofs.Rests.{rests_are}
use Rattle.fin_loops.proofs.Told.{known, fixed_is}

first_of : (a b c d : Bool) → (a && b && c && d) ≡ true → a ≡ true
first_of true b c d e = refl
first_of false b c d e = e

one_is_some : (k : Kind) → is_one_update k ≡ true → is_none_kind k ≡ false
one_is_some Nothing e = cc
one_is_some OneUpdate e = refl
one_is_some Other e = refl

-- a stop brings nothing in
free_stop : (b : Bool) (r : Run) → paid_if (λ y. y) b r ≡ r
free_stop true r = refl
free_stop false r = refl

module _ (l : Loop) (n : point.Nest) (w : World) (vars : Numbers) (flat : AllFlat (all_looplets n)) (settled : AreSettled (slots l) (all_looplets n))
    (fixed : is_fixed_along l n ≡ true) where
  abbrev x : Watched
  x = watching l w vars

  abbrev marks : Marks
  marks = marks_at_point l n

  abbrev body_at : ℤ → Run → Run
  body_at i = body_of w l.body l.here (Some marks) (slice_set vars l.var i)

  -- the update at a coordinate, without its work
  abbrev pub once_at : ℤ → Run → Run
  once_at i r = costing 0 r (body_at i r)

  one : is_one_update (x.rest marks).kind ≡ true
  one =
      let rest : Rest = left_of_all l.body l.here (Some marks) in
      ap (λ (k : Rest). is_one_update k.kind) (rests_are w l.body l.here (Some marks))
      ∙ first_of (is_one_update rest.kind) (not (is_in rest.vars l.var)) (list_all (λ i. not (names_var l.var i)) rest.targets)
      (list_all (λ (a : Access). not (any_varies (slots l) (seen_bare (all_looplets n)) a.read)) rest.reads) fixed

  pub once_advances : (i : ℤ) (r : Run) → Advances r (once_at i r)
  once_advances i r = let a = statements_go_on w l.body l.here marks (slice_set vars l.var i) r in record { before = a.before; work = omega arith }

  -- the first share is paid before the update, which doesn't look at it
  paid_first : (i : ℤ) (r : Run) → costing 2 r (body_at i r) ≡ once_at i (worked 2 r)
  paid_first i r =
      let once : (k : Run) → costing 2 k (body_at i k) ≡ body_at i (worked 1 k) = λ k. statements_update_once w l.body l.here marks (slice_set vars l.var i) k one in
      let two : r.work + 2 ≡ r.work + 1 + 1 = omega arith in
      let behind : body_at i (worked 2 r) ≡ costing 2 (worked 1 r) (costing 2 r (body_at i r)) =
      ap (λ (k : ℕ). body_at i (record r { work = k })) two ∙ sym (once (worked 1 r)) ∙ ap (costing 2 (worked 1 r)) (sym (once r)) in
      let same : r.work + 2 + 0 ≡ r.work + 2 = omega arith in
      sym (ap (costing 0 (worked 2 r)) behind ∙ ap (λ (k : ℕ). record (body_at i r) { work = k }) same)

  module _ (ts : Store) (ls : List ℤ) where
    -- what the body does at a coordinate
    pub seen_is : (end i : ℤ) (b : Bool) (r : Run) → seen_turn x (seens (views ts ls (all_looplets n) end i)) b i r ≡ costing (first_share b) r (body_at i r)
    seen_is end i b r =
        let ss : List Seen = seens (views ts ls (all_looplets n) end i) in
        let inner : Numbers = slice_set vars l.var i in
        let share : Marks → Run = (λ h. costing (first_share b) r (x.body h inner r)) in
        ap (λ (c : Bool). if is_none_kind (x.rest (marks_seen x ss)).kind then r
        else (if c then share (marks_seen x ss) else x.body (marks_seen x ss) inner (worked 1 r))) (fixed_is l n w vars flat settled ts ls end i ∙ fixed)
        ∙ ap (λ (h : Marks). if is_none_kind (x.rest h).kind then r else share h) (known l n w vars flat settled ts ls end i)
        ∙ ap (λ (c : Bool). if c then r else share marks) (one_is_some (x.rest marks).kind one)

    module _ (sc : Scope) where
      abbrev nest : Nest Run
      nest = nest_with (behind_of l w sc vars) (course_of n)

      later : (k : ℕ) (f : Flags) (at : ℤ) (r : Run) → f.begins ≡ false → part (λ y. y) ts ls nest k f at r ≡ done_along once_at k at r
      later zero f at r b = refl
      later (suc k) f at r b =
          let ss : List Seen = seens (views_of ts ls nest at) in
          let here : at_act (λ y. y) ts ls nest f at r ≡ once_at at r =
          ap (λ (y : Run). seen_turn x ss f.begins at y) (free_stop f.stopped r)
          ∙ ap (λ (z : Bool). seen_turn x ss z at r) b ∙ seen_is (value ts ls nest.hi) at false r in
          later k (at_flags ts ls nest at) (at +ℤ pos 1) (at_act (λ y. y) ts ls nest f at r) (flat_ends ts ls (value ts ls nest.hi) at (all_looplets n) flat)
          ∙ ap (done_along once_at k (at +ℤ pos 1)) here

      -- only the first coordinate begins a part
      pub fixed_along : (k : ℕ) (at : ℤ) (r : Run) → part (λ y. y) ts ls nest (suc k) fresh at r ≡ done_along once_at (suc k) at (worked 2 r)
      fixed_along k at r =
          later k (at_flags ts ls nest at) (at +ℤ pos 1) (at_act (λ y. y) ts ls nest fresh at r) (flat_ends ts ls (value ts ls nest.hi) at (all_looplets n) flat)
          ∙ ap (done_along once_at k (at +ℤ pos 1)) (seen_is (value ts ls nest.hi) at true r ∙ paid_first at r)
