-- Behind the steps that find its position a driven read stands as its looplet asks.
use Rattle.std.proofs.Common.{◌≡◌, ℕ, zero, suc, ◌+◌, ◌<◌, ◌≤◌, ◌^◌, Bool, true, false, List, [], ◌∷◌, length, Option, Some, None, ⊎_elim, refl, ap, subst, ℤ, pos, arith, if◌then◌else◌}
use Rattle.std.specs.Prelude.{nat_le, nat_eq, slice_index_or}
use Rattle.fin_base.specs.declared.terms.Op.TheVariants as op
use Rattle.fin_tensor.specs.declared.format.Format.{Format}
use Rattle.fin_tensor.specs.declared.part.Part.{Part}
use Rattle.fin_tensor.specs.declared.format.Level.{Level}
use Rattle.fin_tensor.specs.Levels.{AreSmall, IsStored}
use Rattle.fin_ast.specs.declared.tree.Index.{Index}
use Rattle.fin_ast.specs.Value.{Numbers}
use Rattle.fin_ir.specs.declared.expression.IExpr.{IExpr}
use Rattle.fin_ir.specs.declared.expression.IExpr.TheVariants as e
use Rattle.fin_ir.specs.Value.{is_off}
use Rattle.fin_ir.proofs.Values.{value_num}
use Rattle.fin_looplet.specs.Names.{Names, Loads}
use Rattle.fin_looplet.specs.View.{Store}
use Rattle.fin_looplet.proofs.Exprs.{names_local, names_num, names_two, loads_local, loads_num, loads_two}
use Rattle.fin_unfurl.specs.Fibres.{IsApart}
use Rattle.fin_simp.specs.Rest.{Access}
use Rattle.fin_simp.specs.Sights.{behind_index, one_deeper, driven_index, stand_at}
use Rattle.fin_simp.specs.Work.{is_in, parts_at}
use Rattle.fin_drive.specs.Looplets.{other}
use Rattle.fin_drive.specs.Standing.{OtherIs, DistancesMean}
use Rattle.fin_drive.specs.Entries.{Entry, IsFound, IsHeld, IsSite, reading_of}
use Rattle.fin_enter.specs.Positions.{spot_in, place_at, there_at, spot_at}
use Rattle.fin_enter.specs.Sites.{IsCoordinate, IsFooted, site_of, FootedReadsStand, StoredReadsAreFound}

-- ---- the level of a driven index

deeper_within : (n : ℕ) (later : Option (ℕ × Index)) (d : ℕ × Index) → ((x : ℕ × Index) → later ≡ Some x → x.0 < n) → one_deeper later ≡ Some d → d.0 < suc n
deeper_within n None d h e = cc
deeper_within n (Some x) d h e =
    let y : ◌≡◌ {A = Option (ℕ × Index)} (Some (x.0 + 1, x.1)) (Some d) = e in
    let same : (x.0 + 1, x.1) ≡ d = cc in
    subst (λ (z : ℕ × Index). z.0 < suc n) same (omega (arith, h x refl))

within_by : (n : ℕ) (i : Index) (later : Option (ℕ × Index)) (d : ℕ × Index) → ((x : ℕ × Index) → later ≡ Some x → x.0 < n) → (a b : Bool)
    → (if a then one_deeper later else (if b then Some (0, i) else None)) ≡ Some d → d.0 < suc n
within_by n i later d h true b e = deeper_within n later d h e
within_by n i later d h false true e =
    let y : ◌≡◌ {A = Option (ℕ × Index)} (Some (0, i)) (Some d) = e in
    let same : (0, i) ≡ d = cc in
    subst (λ (z : ℕ × Index). z.0 < suc n) same (omega arith)
within_by n i later d h false false e = cc

pub driven_within : (var : ℕ) (is : List Index) (d : ℕ × Index) → driven_index var is ≡ Some d → d.0 < length is
driven_within var [] d e = cc
driven_within var (i ∷ is) d e = within_by (length is) i (driven_index var is) d (λ x. driven_within var is x) (nat_le (behind_index i) var) (nat_eq (behind_index i) (var + 1)) e

small_at : (ns : List ℕ) (k : ℕ) → AreSmall ns → slice_index_or ns k 0 ≤ 2 ^ 40
small_at [] k h = omega arith
small_at (n ∷ ns) zero h = h 0 (omega arith)
small_at (n ∷ ns) (suc k) h = small_at ns k (λ j lt. h (suc j) (omega (arith, lt)))

-- ---- the other variable

module _ (vars : Numbers) (ls : List ℤ) where
  others_are : (o : Option ℕ) → ((x : ℕ) → o ≡ Some x → IsCoordinate vars ls x) → (k : ℕ) × OtherIs vars o k × OtherIs ls o k
  others_are None h = (0, refl, refl)
  others_are (Some x) h = let q = h x refl in (q.0, (q.1, q.3), (q.2, q.3))

-- ---- the place

-- the position, and the question whether it is there, name its local alone
pub place_names : (k at x : ℕ) → Names x (place_at k at) → x ≡ at
place_names zero at x n = absurd (names_num x (pos 0) n)
place_names (suc k) at x n = names_local x at n

pub there_names : (k at x : ℕ) → Names x (there_at k at) → x ≡ at
there_names zero at x n = absurd (names_num x (pos 1) n)
there_names (suc k) at x n =
    ⊎_elim (λ (h : Names x (e.Local at)). names_local x at h) (λ (h : Names x (e.Num (pos 0))). absurd (names_num x (pos 0) h)) (names_two x op.Ge (e.Local at) (e.Num (pos 0)) n)

-- and they load from no tensor
pub place_loads : (k at t : ℕ) → Loads t (place_at k at) → ⊥
place_loads zero at t n = loads_num t (pos 0) n
place_loads (suc k) at t n = loads_local t at n

pub there_loads : (k at t : ℕ) → Loads t (there_at k at) → ⊥
there_loads zero at t n = loads_num t (pos 1) n
there_loads (suc k) at t n = ⊎_elim (λ (h : Loads t (e.Local at)). loads_local t at h) (λ (h : Loads t (e.Num (pos 0))). loads_num t (pos 0) h) (loads_two t op.Ge (e.Local at) (e.Num (pos 0)) n)

-- so neither names what the looplet owns
apart_by : (at cursor : ℕ) (x : IExpr) → at < cursor → ((y : ℕ) → Names y x → y ≡ at) → IsApart cursor x
apart_by at cursor x lt names = (
  λ n. let same = names cursor n in absurd (omega (arith, lt, same)),
  λ n. let same = names (cursor + 1) n in absurd (omega (arith, lt, same)),
)

pub place_apart : (k at cursor : ℕ) → at < cursor → IsApart cursor (place_at k at)
place_apart k at cursor lt = apart_by at cursor (place_at k at) lt (place_names k at)

pub there_apart : (k at cursor : ℕ) → at < cursor → IsApart cursor (there_at k at)
there_apart k at cursor lt = apart_by at cursor (there_at k at) lt (there_names k at)

-- what is found in a local is found at a first level, where the one fibre stands at 0
module _ (ts : Store) (ls : List ℤ) (vars : Numbers) (by : IExpr) where
  pub found_at : (levels : List Level) (ns : List ℕ) (ps : List Part) (val : List ℤ) (is : List Index) (k at : ℕ)
      → IsStored 1 levels ns ps val → k < length levels → k < length is
      → IsFound ts ls (spot_in at by) (stand_at vars ns ps is k (Some 0)) → IsFound ts ls (spot_at k at by) (stand_at vars ns ps is k (Some 0))
  found_at levels ns ps val is (suc k) at valid a b found = found
  found_at [] ns ps val is zero at valid a b found = absurd (omega (arith, a))
  found_at (l ∷ levels) [] ps val is zero at valid a b found = absurd valid
  found_at (l ∷ levels) (n ∷ ns) [] val is zero at valid a b found = absurd valid
  found_at (l ∷ levels) (n ∷ ns) (p ∷ ps) val [] zero at valid a b found = absurd (omega (arith, b))
  found_at (l ∷ levels) (n ∷ ns) (p ∷ ps) val (i ∷ is) zero at valid a b found = (ap is_off (value_num ts ls (pos 1)), value_num ts ls (pos 0))

module _ (distance : DistancesMean) (x : Entry) (a : Access) (d : ℕ × Index) (format : Format) (at cursor : ℕ) (h : IsFooted x a d format at cursor) where
  held_as : is_in x.rest.changed a.tensor ≡ false → IsHeld x a d (site_of x a d format at cursor)
  held_as same =
      let s = h.store same in
      record { frozen = s.frozen; is = s.is; shape = s.shape; parts = s.parts; few = h.has.few; valid = s.valid; room = h.room; found = h.found same }

  footed : IsSite x a d (site_of x a d format at cursor)
  footed =
      let reading = reading_of x a d cursor in
      let q = others_are x.loop.vars x.locals (other reading) h.numbers in
      record {
        fill = h.has.fill;
        level = omega (arith, driven_within x.loop.loop.var a.at d h.driven, h.each);
        small = small_at _ d.0 h.has.small;
        apart = place_apart d.0 at cursor h.below;
        stays = h.stays;
        other_number = q.0;
        others = q.1;
        behind = distance x.store x.locals reading q.0 q.2;
        held = held_as;
      }

pub footed_reads_stand : DistancesMean → FootedReadsStand
footed_reads_stand distance x a d format at cursor h = footed distance x a d format at cursor h

pub stored_reads_are_found : StoredReadsAreFound
stored_reads_are_found w r ts format tensor s ls spot vars is k found =
    subst (λ (ps : List Part). IsFound ts ls spot (stand_at vars s.frozen.shape ps is k (Some 0))) s.parts
    (subst (λ (ns : List ℕ). IsFound ts ls spot (stand_at vars ns (parts_at w r tensor) is k (Some 0))) s.shape found)
