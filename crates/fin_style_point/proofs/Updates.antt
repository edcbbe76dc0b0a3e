-- The code of one update at once means each nest whose body is that update at each coordinate.
use Rattle.std.proofs.Common.{◌≡◌, ℕ, suc, ⊎_elim, inl, true, List, [], ◌∷◌, ◌++◌, length, map, refl, sym, ap, ◌∙◌, subst, ℤ, pos, arith}
use Rattle.fin_ir.specs.declared.expression.IExpr.{IExpr}
use Rattle.fin_ir.specs.declared.expression.IExpr.TheVariants.{Num}
use Rattle.fin_ir.specs.declared.code.Code.{Code}
use Rattle.fin_ir.specs.declared.code.Code.TheVariants.{When, Charge}
use Rattle.fin_ir.specs.declared.layout.Layout.{Layout}
use Rattle.fin_ir.specs.Machine.{Machine, count_turn, seen}
use Rattle.fin_ir.specs.Value.{value_in}
use Rattle.fin_ir.specs.Meaning.{meaning, meaning_all, span}
use Rattle.fin_ir.proofs.Codes.{meaning_seq}
use Rattle.fin_stage.specs.Staged.{Run, worked, regular}
use Rattle.fin_stage.specs.Trailing.{skipped}
use Rattle.fin_read.specs.Reads.{in_box}
use Rattle.fin_looplet.specs.Names.{Names, Loads}
use Rattle.fin_looplet.specs.View.{Store, value}
use Rattle.fin_looplet.specs.Weight.{weights, weight_of}
use Rattle.fin_looplet.proofs.Exprs.{get, value_same}
use Rattle.fin_nest.specs.Related.{Start, Live}
use Rattle.fin_nest.specs.Nests.{fresh, Nest, part, fold, Kept, Separate, Fits, Does, Means, MeansCounted}
use Rattle.fin_nest.specs.Senses.{runs, Tallied, turns}
use Rattle.fin_nest.specs.Both.{in_run}
use Rattle.fin_nest.specs.Courses.{Behind, nest_with}
use Rattle.fin_nest.proofs.Changed.{paid, number_pays, worked_live}
use Rattle.fin_nest.proofs.Keeping.{Keeps}
use Rattle.fin_nest.proofs.Pinning.{live_locals}
use Rattle.fin_nest.proofs.Statements.{all_append}
use Rattle.fin_nest.proofs.Means.{computes, Leaves, does_by, leaves_counted, counted_means}
use Rattle.fin_nest.proofs.Senses.{count_turns, runs_lawful}
use Rattle.fin_style_point.specs.declared.nest.Nest as plain
use Rattle.fin_style_point.specs.declared.changing.Change.{Change}
use Rattle.fin_style_point.specs.Steps.{AllFlat}
use Rattle.fin_style_point.specs.Parts.{all_looplets, course_of}
use Rattle.fin_style_point.specs.Changes.{repeated_value, update_code, put_code, once_code, at_once_code, behind, Prepared, IsUpdate, tallied, UpdatesAreAtOnce}
use Rattle.fin_style_point.proofs.Times.{within_some, within_means}
use Rattle.fin_style_point.proofs.Folding.{part_advances, part_monotone, folded, tallied_part}
use Rattle.fin_style_point.proofs.Updating.{put_code as own_code, put_goes, put_keeps}
use Rattle.fin_style_point.proofs.Regions.{repeated_is, one_coordinate}

module _ (s : Start) (layout : Layout) (p : plain.Nest) (b : Behind Run) (shape : List ℕ) (c : Change) (flat : AllFlat (all_looplets p))
    (apart : Separate (nest_with b (course_of p))) (is : IsUpdate layout s (nest_with b (course_of p)) shape c) where
  abbrev n : Nest Run
  n = nest_with b (course_of p)

  abbrev counted : Nest Tallied
  counted = nest_with (tallied b) (course_of p)

  abbrev once : Code
  once = once_code c.before (put_code shape c p.lo p.hi)

  abbrev value_code : IExpr
  value_code = repeated_value c p.lo p.hi

  -- so many coordinates
  abbrev whole : Store → List ℤ → ℕ → Run → Run
  whole ts ls k = part (λ r. r) ts ls (nest_with b (course_of p)) k fresh (value ts ls p.lo)

  module _ (ts : Store) (m : Machine) (fits : Fits layout ts m (nest_with b (course_of p))) (k : ℕ) (long : span (value ts m.locals p.lo) (value ts m.locals p.hi) ≡ suc k) where
    abbrev own : Code
    own = own_code s layout c.tensor c.at c.by (repeated_value c p.lo p.hi)

    -- behind the codes before the update
    abbrev at : Machine
    at = behind m (is.prepared ts m fits).locals

    runs_to : meaning layout (once_code c.before (put_code shape c p.lo p.hi)) m
        ≡ meaning layout (own_code s layout c.tensor c.at c.by (repeated_value c p.lo p.hi)) (paid 2 (behind m (is.prepared ts m fits).locals))
    runs_to =
        meaning_seq layout (c.before ++ Charge (Num (pos 2)) ∷ put_code shape c p.lo p.hi ∷ []) m
        ∙ all_append layout c.before (Charge (Num (pos 2)) ∷ put_code shape c p.lo p.hi ∷ []) m
        ∙ ap (meaning_all layout (Charge (Num (pos 2)) ∷ put_code shape c p.lo p.hi ∷ [])) (Prepared.is (is.prepared ts m fits))
        ∙ ap (meaning layout (put_code shape c p.lo p.hi)) (number_pays layout 2 at fits.live)
        ∙ ap (λ (ns : List ℕ). meaning layout (When (in_box ns c.at) (update_code c p.lo p.hi)) (paid 2 at)) is.shape_is

    keeps : Keeps c.tensor (paid 2 (behind m (is.prepared ts m fits).locals)) (meaning layout (once_code c.before (put_code shape c p.lo p.hi)) m)
    keeps = subst (Keeps c.tensor (paid 2 at)) (sym runs_to) (put_keeps s layout c.tensor c.at c.by (repeated_value c p.lo p.hi) (paid 2 at))

    -- an end of the region
    end_is : (e : IExpr) → ((x : ℕ) → Names x e → Kept n x) → ((t : ℕ) → Loads t e → n.steady t ≡ true) → value_in (behind m (is.prepared ts m fits).locals) e ≡ value ts m.locals e
    end_is e names loads =
        value_same (seen m) e (is.prepared ts m fits).locals m.locals (λ x h. (is.prepared ts m fits).kept x (names x h))
        ∙ computes layout ts m n e fits.steady loads

    goes : (r : Run) → Live s [] r m → regular (whole ts m.locals (suc k) r) ≡ true → Live s [] (whole ts m.locals (suc k) r) (meaning layout (once_code c.before (put_code shape c p.lo p.hi)) m)
    goes r live g =
        let lo = value ts m.locals p.lo in
        let hi = value ts m.locals p.hi in
        let ready = is.prepared ts m fits in
        let put : ℤ → Run = (λ v. skipped s.setting c.tensor (map (value_in at) c.at) c.by v (worked 2 r)) in
        let all : put (value_in at value_code) ≡ whole ts m.locals (suc k) r =
        ap put (repeated_is at p.lo p.hi lo hi (end_is p.lo apart.lo apart.lo_loads) (end_is p.hi apart.hi apart.hi_loads) fits.bounds k long c.by c.value)
        ∙ sym (folded layout s n shape c is ts m fits flat r live k lo g) in
        let same : Live s [] r at = live_locals s [] [] ready.locals r m ready.long (λ x lt. absurd (omega (arith, lt))) live in
        let last : Live s [] (put (value_in at value_code)) (meaning layout own (paid 2 at)) =
        put_goes s layout c.tensor c.at c.by value_code (worked 2 r) (paid 2 at) (worked_live s [] r at same 2) (ap regular all ∙ g) in
        subst (Live s [] (whole ts m.locals (suc k) r)) (sym runs_to) (subst (λ (x : Run). Live s [] x (meaning layout own (paid 2 at))) all last)

    trails : (r : Run) → (runs s).stands r m → (runs s).stands (whole ts m.locals (suc k) r) (meaning layout (once_code c.before (put_code shape c p.lo p.hi)) m)
    trails r stands g =
        let lo = value ts m.locals p.lo in
        let h = stands ((part_advances layout s n shape c is ts m fits (suc k) fresh lo r).before g) in
        let t = part_monotone layout s n shape c is ts m fits (suc k) fresh lo r h.run h.trails g in
        record {
          run = whole ts m.locals (suc k) h.run;
          trails = t;
          related = ⊎_elim (λ live. inl (goes h.run live (t.regular g))) (λ x. let e = x.cut in let d = fits.live in absurd (cc)) h.related;
        }

    turned : (q : Tallied) → (turns s).stands q m → (turns s).stands (in_run (whole ts m.locals (suc k)) q) (meaning layout (once_code c.before (put_code shape c p.lo p.hi)) m)
    turned q stands g =
        let h = stands ((part_advances layout s n shape c is ts m fits (suc k) fresh (value ts m.locals p.lo) q.run).before g) in
        record { behind = trails q.run (λ e. h.behind) g; turns = omega (arith, h.turns, keeps.turns, keeps.charges) }

    -- a turn behind it is paid by a charge
    turned_once : (q : Tallied) → (turns s).stands q m → (turns s).stands (in_run (whole ts m.locals (suc k)) q) (count_turn (meaning layout (once_code c.before (put_code shape c p.lo p.hi)) m))
    turned_once q stands g =
        let last : Machine = meaning layout once m in
        let h = stands ((part_advances layout s n shape c is ts m fits (suc k) fresh (value ts m.locals p.lo) q.run).before g) in
        let u = turned q stands g in
        let a = count_turns last in
        record {
          behind = (runs_lawful s).count (whole ts m.locals (suc k) q.run) last (λ e. u.behind) g;
          turns = omega (arith, h.turns, keeps.turns, keeps.charges, a.0, a.1);
        }

  -- ---- in values and charges

  leaves : (ts : Store) (m : Machine) → Fits layout ts m n → (k : ℕ) → span (value ts m.locals p.lo) (value ts m.locals p.hi) ≡ suc k → Leaves m (meaning layout once m) n
  leaves ts m fits k long =
      let kp = keeps ts m fits k long in
      let ready = is.prepared ts m fits in
      record {
        long = ap length kp.locals ∙ ready.long;
        kept = λ d x h. ap (λ ls. get ls x) kp.locals ∙ ready.kept x h;
        steady = λ d j q. kp.seen j (λ same. let f = ap n.steady same in let l = is.loose in cc);
      }

  does_runs : (ts : Store) (r : Run) (m : Machine) → Fits layout ts m n → (runs s).stands r m → (k : ℕ) → span (value ts m.locals p.lo) (value ts m.locals p.hi) ≡ suc k
      → Does (runs s) ts r m (meaning layout once m) n
  does_runs ts r m fits stands k long =
      does_by (runs s) ts r m (meaning layout once m) n
      (subst (λ (j : ℕ). (runs s).stands (whole ts m.locals j r) (meaning layout once m)) (sym long) (trails ts m fits k long r stands)) (leaves ts m fits k long)

  pub means_runs : Means layout (runs s) (at_once_code p shape c) n
  means_runs = within_means layout (runs s) n once apart does_runs

  -- ---- in turns

  -- the same of a nest over tallies
  kept_of : (x : ℕ) → Kept n x → Kept counted x
  kept_of x k = record { below = k.below; no_var = k.no_var; no_own = k.no_own }

  kept_back : (x : ℕ) → Kept counted x → Kept n x
  kept_back x k = record { below = k.below; no_var = k.no_var; no_own = k.no_own }

  apart_counted : Separate counted
  apart_counted = record {
    lo = λ x h. kept_of x (apart.lo x h);
    hi = λ x h. kept_of x (apart.hi x h);
    reads = λ x h. kept_of x (apart.reads x h);
    pins = λ x v h. kept_of x (apart.pins x v h);
    lo_loads = apart.lo_loads;
    hi_loads = apart.hi_loads;
    loads = apart.loads;
    binds_var = apart.binds_var;
    binds_below = apart.binds_below;
    own_below = apart.own_below;
    own_free = apart.own_free;
    own = apart.own;
  }

  fits_back : (ts : Store) (m : Machine) → Fits layout ts m counted → Fits layout ts m n
  fits_back ts m f = record { live = f.live; locals = f.locals; steady = f.steady; pinned = f.pinned; bounds = f.bounds; sound = f.sound }

  module _ (ts : Store) (q : Tallied) (m : Machine) (fits : Fits layout ts m counted) (stands : (turns s).stands q m)
      (k : ℕ) (long : span (value ts m.locals p.lo) (value ts m.locals p.hi) ≡ suc k) where
    fold_is : fold (turns s).pay ts m.locals counted q ≡ in_run (whole ts m.locals (suc k)) q
    fold_is = ap (λ (j : ℕ). part (turns s).pay ts m.locals counted j fresh (value ts m.locals p.lo) q) long
        ∙ tallied_part s b (course_of p) flat ts m.locals (suc k) fresh (value ts m.locals p.lo) q refl

    leaves_tallied : Leaves m (meaning layout once m) counted
    leaves_tallied = let l = leaves ts m (fits_back ts m fits) k long in record { long = l.long; kept = λ d x h. l.kept d x (kept_back x h); steady = l.steady }

    does_turns : Does (turns s) ts q m (meaning layout once m) counted
    does_turns =
        does_by (turns s) ts q m (meaning layout once m) counted
        (subst (λ (z : Tallied). (turns s).stands z (meaning layout once m)) (sym fold_is) (turned ts m (fits_back ts m fits) k long q stands)) leaves_tallied

    does_once : Does (turns s) ts q m (count_turn (meaning layout once m)) counted
    does_once =
        does_by (turns s) ts q m (count_turn (meaning layout once m)) counted
        (subst (λ (z : Tallied). (turns s).stands z (count_turn (meaning layout once m))) (sym fold_is) (turned_once ts m (fits_back ts m fits) k long q stands))
        (leaves_counted m (meaning layout once m) counted leaves_tallied)

  pub means_turns : Means layout (turns s) (at_once_code p shape c) counted
  means_turns = within_means layout (turns s) counted once apart_counted does_turns

  pub counts_turns : weight_of (all_looplets p) p.lo p.hi ≡ 0 → MeansCounted layout (turns s) (at_once_code p shape c) counted
  counts_turns none = record {
    does = λ ts q m fits jumps stands.
        let one = one_coordinate ts m.locals p.lo p.hi fits.bounds (weights (all_looplets p)) none in
        subst (λ (x : Machine). Does (turns s) ts q m (count_turn x) counted) (sym (within_some layout counted once apart_counted ts m fits 0 one)) (does_once ts q m fits stands 0 one);
  }

pub updates_are_at_once : UpdatesAreAtOnce
updates_are_at_once s layout p b shape c flat apart is =
    let mean = means_runs s layout p b shape c flat apart is in (
      record { means = mean; counted = λ none. counted_means layout (runs s) (runs_lawful s) (λ r. refl) (at_once_code p shape c) (nest_with b (course_of p)) mean },
      record { means = means_turns s layout p b shape c flat apart is; counted = counts_turns s layout p b shape c flat apart is },
    )
