-- A loop of a program at a place: it is one of its family, and does what its turns do behind its entry.
use Rattle.std.proofs.Common.{◌≡◌, ℕ, ◌<◌, ◌≤◌, ◌+◌, Bool, true, false, List, [], ◌∷◌, length, Option, Some, None, if◌then◌else◌, refl, sym, ap, ◌∙◌, subst, ℤ, pos, ◌^◌, arith}
use Rattle.std.specs.Prelude.{nat_eq, unwrap_or, slice_index_or, ◌||◌}
use Rattle.std.proofs.lemmas.Bool.Decides.{nat_tests}
use borrow.Author.Differences.{at_most_in}
use Rattle.fin_ast.specs.declared.tree.Stmt.{Stmt}
use Rattle.fin_ast.specs.declared.tree.Stmt.TheOpen.{Stmt-F}
use Rattle.fin_ast.specs.Bindings.{bindings_step, bindings_of}
use Rattle.fin_ast.specs.Scope.{Scope, stmt_step, is_among, is_bound}
use Rattle.fin_ast.specs.Value.{number}
use Rattle.fin_ast.proofs.Nodes.{of_loop}
use Rattle.fin_ir.specs.declared.code.Code.{Code}
use Rattle.fin_ir.specs.declared.layout.Layout.{Layout}
use Rattle.fin_ir.specs.Machine.{Machine, seen}
use Rattle.fin_ir.specs.Meaning.{meaning_all}
use Rattle.fin_looplet.specs.View.{value}
use Rattle.fin_stage.specs.Staged.{Run, regular, worked}
use Rattle.fin_nest.specs.Related.{Start}
use Rattle.fin_nest.specs.Nests.{Nest, Bounds, AllSoundIn, Fits}
use Rattle.fin_nest.specs.Senses.{runs, Advances}
use Rattle.fin_nest.specs.Courses.{Meant}
use Rattle.fin_nest.specs.Performs.{Place, Ready, Left}
use Rattle.fin_simp.specs.Work.{World, Worked, all_fresh, rests_in, can_be_entered, inside, entry_of, done}
use Rattle.fin_simp.specs.Costs.{Running, MasksCompare}
use Rattle.fin_simp.specs.Moving.{worked_all, running}
use Rattle.fin_drive.specs.Entries.{Entry, IsMade}
use Rattle.fin_drive.specs.Watches.{part_of}
use Rattle.fin_drive.proofs.Made.{made_nests_are_loops}
use Rattle.fin_style_point.specs.declared.nest.Nest as point
use Rattle.fin_descend.specs.declared.lowered.Lowered.{Lowered}
use Rattle.fin_descend.specs.Promises.{Stands}
use Rattle.fin_perform.specs.Layouts.{layout_with, start_with}
use Rattle.fin_perform.specs.Places.{AllMayBind, changes}
use Rattle.fin_perform.specs.Working.{run_of}
use Rattle.fin_loops.specs.Loops.{Loop, bound_in, behind_of, AreOnce, InScope, OfLoop}
use Rattle.fin_loops.specs.Entering.{IsNested, SparesAll, stmt_of, Spot, StandsAt, world_at, nest_at}
use Rattle.fin_loops.proofs.Turning as turning
use Rattle.fin_loops.proofs.Points.{loops_go_on}

-- ---- the variables that a place lets be bound

once_of : (p : Place) (count : ℕ) (vs : List ℕ) → AllMayBind p count vs → AreOnce count vs
once_of p count [] a = tt
once_of p count (v ∷ vs) a = (a.0.counted, a.0.apart, once_of p count vs a.1)

-- none of them is one that the code there doesn't bind
pub none_bound : (p : Place) (count : ℕ) (vs : List ℕ) → AllMayBind p count vs → (x : ℕ) → p.binds x ≡ false → is_among vs x ≡ false
none_bound p count [] a x e = refl
none_bound p count (v ∷ vs) a x e = elim (nat_eq x v) as (λ b. nat_eq x v ≡ b → (b || is_among vs x) ≡ false) [
  | true ↦ (λ t. absurd (let same : x ≡ v = grind (arith, nat_tests) in let f = ap p.binds same in let g = a.0.binds in cc))
  | false ↦ (λ t. none_bound p count vs a.1 x e)
] refl

-- of two booleans of which the one brings the other
not_either : (a b : Bool) → (b ≡ true → a ≡ false) → a ≡ true → b ≡ false
not_either a true h e = let f = h refl in cc
not_either a false h e = refl

-- codes that leave what is around a statement leave its place as it was
pub left_around : (l : Loop) (x : Stmt) (next : ℕ) (q : Spot) → StandsAt l x next q → (cs : List Code) → SparesAll x l.here l.context next cs
    → (m : Machine) → Left m (meaning_all (layout_with l.checked q.room) cs m) q.place
left_around l x next q at cs spares m =
    let k = spares (layout_with l.checked q.room) m in
    record {
      long = k.long;
      kept = λ e y below free. k.locals e y (subst (λ (z : ℕ). y < z) at.suits.next_is below) (none_bound q.place (length q.vars) (bindings_of x) at.suits.may_bind y free);
      steady = λ e t still. k.tensors e t (not_either (q.place.steady t) (changes x l.here l.context t) (at.suits.loose t) still);
    }

-- ---- pins: a variable in scope has its number

pub pin_is : (b : Bool) (n v : ℤ) → (if b then Some n else None) ≡ Some v → (b ≡ true) × (n ≡ v)
pin_is true n v e = (refl, ap (λ (o : Option ℤ). unwrap_or o n) e)
pin_is false n v e = cc

bounds_of : (lo hi : ℤ) (from count : ℕ) → lo ≡ pos from → hi ≡ pos (from + count) → from + count ≤ 2 ^ 40 → Bounds lo hi
bounds_of lo hi from count a b top =
    let low : from ≤ 2 ^ 40 = omega (arith, top) in
    subst (λ (z : ℤ). Bounds z hi) (sym a) (subst (λ (z : ℤ). Bounds (pos from) z) (sym b) (record {
      low = at_most_in (pos 0) (pos from) (omega arith);
      low_top = at_most_in (pos from) (pos (2 ^ 40)) (omega (arith, low));
      high = at_most_in (pos 0) (pos (from + count)) (omega arith);
      high_top = at_most_in (pos (from + count)) (pos (2 ^ 40)) (omega (arith, top));
    }))

-- a machine fits a nest that is made for the loop there, where the variables in scope have their numbers
pub made_fits : MasksCompare → (l : Loop) (top : point.Nest) (q : Spot) (layout : Layout) (e : Entry) (m : Machine) → m.cut ≡ false → length m.locals ≡ layout.locals
    → ((y : ℕ) → is_bound q.scope y ≡ true → slice_index_or m.locals y (pos 0) ≡ number q.vars y)
    → IsMade (record e { store = seen m; locals = m.locals }) (nest_at l top q) → Fits layout (seen m) m (nest_at l top q)
made_fits compare l top q layout e m live long numbers made =
    let nest : Nest Run = nest_at l top q in
    record {
      live = live;
      locals = long;
      steady = λ t s. refl;
      pinned = λ y v s.
          let both = pin_is (is_bound q.scope y) (number q.vars y) v s in
          numbers y both.0 ∙ both.1;
      bounds = bounds_of (value (seen m) m.locals nest.lo) (value (seen m) m.locals nest.hi) e.from e.count made.lo made.hi made.top;
      sound = subst (λ (z : ℤ). AllSoundIn (seen m) m.locals nest.reads z (value (seen m) m.locals nest.hi)) (sym made.lo)
          (subst (λ (z : ℤ). AllSoundIn (seen m) m.locals nest.reads (pos e.from) z) (sym made.hi) (made_nests_are_loops compare (record e { store = seen m; locals = m.locals }) nest made).sound);
    }

module _ (l : Loop) (range : Option (ℕ × ℕ)) (par : Bool) (line last next need : ℕ) (top : point.Nest) (code : Lowered)
    (low : IsNested l (stmt_of l range par line last) next need top code) (q : Spot) (le : need ≤ q.room)
    (at : StandsAt l (stmt_of l range par line last) next q) where
  abbrev pub x : Stmt
  x = stmt_of l range par line last

  abbrev pub w : World
  w = world_at l q

  abbrev pub body : List Worked
  body = worked_all w l.body l.here

  abbrev pub layout : Layout
  layout = layout_with l.checked q.room

  abbrev pub start : Start
  start = start_with l.checked q.room q.inputs

  abbrev pub nest : Nest Run
  nest = nest_at l top q

  abbrev pub does_loop : Run → Run
  does_loop = run_of w x l.here l.context q.vars

  -- the loop's coordinates, behind its entry
  abbrev pub entering : Run → Running
  entering r = running w l.context l.var par body q.vars r

  abbrev pub all_turns : Run → Run → Run
  all_turns r = part_of (entering r) (entering r).loop.lo (entering r).loop.len

  pub loop_is : (r : Run) → does_loop r ≡ done w l.here (Stmt-F.Loop l.var range par body line last) l.context q.vars r
  loop_is = turning.loop_is l range par line last low.some q

  pub can_enter : (r : Run) → regular (does_loop r) ≡ true → can_be_entered w par (all_fresh body) (rests_in (inside l.context l.var None) body) r ≡ true
  can_enter = turning.can_enter l range par line last low.some q

  pub turns_are : (r : Run) → regular (does_loop r) ≡ true → does_loop r ≡ all_turns r (worked (entry_of (entering r).loop) r)
  turns_are = turning.turns_are l range par line last low.some q

  pub turns_advance : (r k : Run) → Advances k (all_turns r k)
  turns_advance = turning.turns_advance l range par line last low.some q

  pub loop_advances : (r : Run) → Advances r (does_loop r)
  loop_advances = turning.loop_advances l range par line last low.some q

  -- ---- the loop is one of its family

  bound_is : bindings_of x ≡ bound_in l
  bound_is = of_loop (List ℕ) bindings_step l.var range par l.body line last

  pub good : InScope l q.room q.inputs q.scope q.vars
  good = record {
    shaped = at.shaped;
    given = at.given;
    headers = at.suits.stands.headers;
    named = sym (ap (λ (f : Scope → Bool). f q.scope) (of_loop (Scope → Bool) stmt_step l.var range par l.body line last)) ∙ at.named;
    coordinates = at.suits.coordinates;
    once = once_of q.place (length q.vars) (bound_in l) (subst (AllMayBind q.place (length q.vars)) bound_is at.suits.may_bind);
  }

  pub ours : OfLoop l start layout (behind_of l w q.scope q.vars)
  ours = record { room = q.room; inputs = q.inputs; scope = q.scope; vars = q.vars; begins = refl; laid = refl; behind = refl; good = good }

  module _ (m : Machine) (ready : Ready layout m q.place) where
    stands : Stands (OfLoop l) start layout (behind_of l w q.scope q.vars) top
    stands =
        let goes = loops_go_on l start layout (behind_of l w q.scope q.vars) ours in
        let below = low.low in
        record { ours = ours; separate = low.separate q at (omega (arith, below, le)) m ready; onward = goes.0; points = goes.1 }

    pub meant : Meant layout (runs start) nest code.code
    meant = let r = low.room in low.means start layout (behind_of l w q.scope q.vars) stands (omega (arith, r, le))

  -- ---- what is left as it was

  pub leaves : (cs : List Code) → SparesAll x l.here l.context next cs → (m : Machine) → Left m (meaning_all layout cs m) q.place
  leaves cs spares m = left_around l x next q at cs spares m
