-- A machine that does what a run does, where its locals change.
use Rattle.std.proofs.Common.{◌≡◌, ◌≢◌, ℕ, ◌<◌, ◌≤◌, inl, inr, ⊎_elim, Bool, false, List, [], ◌∷◌, ◌++◌, length, length-set, get_or-set_same, get_or-set_other, refl, sym, ap, ◌∙◌, subst, ℤ, pos, arith}
use Rattle.std.specs.Prelude.{slice_index_or, slice_set, if◌then◌else◌}
use Rattle.std.proofs.lemmas.Bool.{cases_eq}
use Rattle.std.proofs.lemmas.List.{get_or_append_left, length-append}
use Rattle.std.proofs.Math.Seq.{get_or-append_seam}
use Rattle.fin_ast.specs.Value.{Numbers}
use Rattle.fin_ir.specs.Machine.{held, Machine, live, assign}
use Rattle.fin_ir.specs.Meaning.{Action}
use Rattle.fin_stage.specs.Stages.{Stage, Absent, stage_at, kept}
use Rattle.fin_stage.specs.Staged.{Run, closed}
use Rattle.fin_stage.specs.Fitting.{StageFits}
use Rattle.fin_stage.proofs.Fits.{kept_cases}
use Rattle.fin_stage.proofs.Onward.{Onward}
use Rattle.fin_read.specs.Steps.{Agree}
use Rattle.fin_read.proofs.Stepping.{agree_less, agree_then}
use Rattle.fin_nest.specs.Related.{Start, Stand, Live, Over, Related}
use Rattle.fin_nest.proofs.Still.{Stills}

-- ---- lists of locals

abbrev pub at : List ℤ → ℕ → ℤ
at ls k = slice_index_or ls k (pos 0)

-- lists of locals that are the same but for one
pub record SameBut (var : ℕ) (ps qs : List ℤ) : Type 0 where
  pub long : length ps ≡ length qs
  pub same : (k : ℕ) → k ≢ var → at ps k ≡ at qs k

pub same_but_itself : (var : ℕ) (ps : List ℤ) → SameBut var ps ps
same_but_itself var ps = record { long = refl; same = λ k ne. refl }

pub same_but_set : (var : ℕ) (v : ℤ) (ps qs : List ℤ) → SameBut var ps qs → SameBut var (slice_set ps var v) qs
same_but_set var v ps qs s = record { long = length-set ps var v ∙ s.long; same = λ k ne. get_or-set_other ps var k v (pos 0) ne ∙ s.same k ne }

-- the variable is set in both
pub agree_bound : (n var : ℕ) (v : ℤ) (ps qs : List ℤ) (vars : Numbers) → var < length ps → var < length vars → SameBut var ps qs → Agree n qs vars
    → Agree n (slice_set ps var v) (slice_set vars var v)
agree_bound n var v ps qs vars hp hv s a k lt = ⊎_elim
    (λ (e : k ≡ var). ap (at (slice_set ps var v)) e ∙ get_or-set_same ps var v (pos 0) hp ∙ sym (ap (at (slice_set vars var v)) e ∙ get_or-set_same vars var v (pos 0) hv))
    (λ (ne : k ≢ var). get_or-set_other ps var k v (pos 0) ne ∙ s.same k ne ∙ a k lt ∙ sym (get_or-set_other vars var k v (pos 0) ne))
    (cases_eq k var)

-- one more of them
agree_more : (ks ps : List ℤ) (v : ℤ) → length ps < length ks → Agree (length ps) ks ps → Agree (length (ps ++ v ∷ [])) (slice_set ks (length ps) v) (ps ++ v ∷ [])
agree_more ks ps v h a k lt = ⊎_elim
    (λ (e : k ≡ length ps). ap (at (slice_set ks (length ps) v)) e ∙ get_or-set_same ks (length ps) v (pos 0) h ∙ sym (ap (at (ps ++ v ∷ [])) e ∙ get_or-append_seam ps v [] (pos 0)))
    (λ (ne : k ≢ length ps).
    let below : k < length ps = omega (arith, lt, ne, length-append ps (v ∷ [])) in
    get_or-set_other ks (length ps) k v (pos 0) ne ∙ a k below ∙ sym (get_or_append_left ps (v ∷ []) (pos 0) k below))
    (cases_eq k (length ps))

-- ---- machines

-- what a machine that isn't cut does
pub alive : (m n : Machine) → m.cut ≡ false → live m n ≡ n
alive m n e = ap (λ (b : Bool). if b then m else n) e

module _ (s : Start) where
  -- it goes on with other locals, and with the work that its charges are
  pub live_as : (ps qs ls : List ℤ) (work charges turns : ℕ) (r : Run) (m : Machine) → charges ≡ work → length ls ≡ length m.locals → Agree (length qs) ls qs → Live s ps r m
      → Live s qs (record r { work = work }) (record m { charges = charges; turns = turns; locals = ls })
  live_as ps qs ls work charges turns r m paid long pinned l = record {
    cut = l.cut;
    regular = l.regular;
    shared = l.shared;
    charges = paid;
    locals = long ∙ l.locals;
    pinned = pinned;
    tensors = l.tensors;
    stages = l.stages;
    each = l.each;
    given = l.given;
    fits = l.fits;
  }

  pub live_locals : (ps qs ls : List ℤ) (r : Run) (m : Machine) → length ls ≡ length m.locals → Agree (length qs) ls qs → Live s ps r m → Live s qs r (record m { locals = ls })
  live_locals ps qs ls r m e a l = live_as ps qs ls r.work m.charges m.turns r m l.charges e a l

  -- one of the first locals is set
  pub live_set : (ps : List ℤ) (r : Run) (m : Machine) (local : ℕ) (v : ℤ) → local < length ps → length ps ≤ s.layout.locals → Live s ps r m → Live s (slice_set ps local v) r (assign local v m)
  live_set ps r m local v lt le l =
      let room : local < length m.locals = omega (arith, lt, le, l.locals) in
      let a : Agree (length (slice_set ps local v)) (slice_set m.locals local v) (slice_set ps local v) =
      subst (λ n. Agree n (slice_set m.locals local v) (slice_set ps local v)) (sym (length-set ps local v))
      (agree_bound (length ps) local v m.locals m.locals ps room lt (same_but_itself local m.locals) l.pinned) in
      subst (Live s (slice_set ps local v) r) (sym (alive m (record m { locals = slice_set m.locals local v }) l.cut))
      (live_locals ps (slice_set ps local v) (slice_set m.locals local v) r m (length-set m.locals local v) a l)

  -- the local behind the first ones is set
  pub live_more : (ps : List ℤ) (r : Run) (m : Machine) (v : ℤ) → length ps < s.layout.locals → Live s ps r m → Live s (ps ++ v ∷ []) r (assign (length ps) v m)
  live_more ps r m v lt l =
      let room : length ps < length m.locals = omega (arith, lt, l.locals) in
      subst (Live s (ps ++ v ∷ []) r) (sym (alive m (record m { locals = slice_set m.locals (length ps) v }) l.cut))
      (live_locals ps (ps ++ v ∷ []) (slice_set m.locals (length ps) v) r m (length-set m.locals (length ps) v) (agree_more m.locals ps v room l.pinned) l)

  -- other words of which less is said
  pub live_less : (ps qs : List ℤ) (r : Run) (m : Machine) → length qs ≤ length ps → Agree (length qs) ps qs → Live s ps r m → Live s qs r m
  live_less ps qs r m le a l = live_locals ps qs m.locals r m refl (agree_then (length qs) m.locals ps qs (agree_less (length qs) (length ps) m.locals ps le l.pinned) a) l

  -- what a body declared is gone for the run
  absent_or : (before : List Stage) (r : Run) (m : Machine) (P : Stage → Type 0) (t : ℕ) → P Absent → P (stage_at r.stages t) → P (stage_at (kept before r.stages) t)
  absent_or before r m P t a p = ⊎_elim (λ e. subst P (sym e) a) (λ e. subst P (sym e) p) (kept_cases before r.stages t)

  pub live_closed : (before : List Stage) (ps : List ℤ) (r : Run) (m : Machine) → Onward r (closed before r) → Live s ps r m → Live s ps (closed before r) m
  live_closed before ps r m o l = record {
    cut = l.cut;
    regular = l.regular;
    shared = l.shared;
    charges = l.charges;
    locals = l.locals;
    pinned = l.pinned;
    tensors = l.tensors;
    stages = o.long ∙ l.stages;
    each = λ t. absent_or before r m (λ (x : Stage). Stand x (held m.tensors t)) t tt (l.each t);
    given = l.given;
    fits = λ t. absent_or before r m (StageFits s.setting t) t tt (l.fits t);
  }

  -- ---- cut machines

  over_on : (r n : Run) (m : Machine) → Onward r n → Over r m → Over n m
  over_on r n m o x = record { cut = x.cut; regular = x.regular; over = x.over; most = omega (arith, x.most, o.work) }

  -- code goes on from a machine that does what the run does
  pub goes_on : (ps qs : List ℤ) (r n : Run) (m : Machine) (f : Action) → Onward r n → Stills f → Related s ps r m → (Live s ps r m → Related s qs n (f m)) → Related s qs n (f m)
  goes_on ps qs r n m f o still (inl l) go = go l
  goes_on ps qs r n m f o still (inr x) go = subst (Related s qs n) (sym (still m x.cut)) (inr (over_on r n m o x))

  -- the same without code
  pub related_on : (ps qs : List ℤ) (r n : Run) (m : Machine) → Onward r n → Related s ps r m → (Live s ps r m → Live s qs n m) → Related s qs n m
  related_on ps qs r n m o (inl l) go = inl (go l)
  related_on ps qs r n m o (inr x) go = inr (over_on r n m o x)
