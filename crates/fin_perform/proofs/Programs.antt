-- The code of a whole program leads from the first machine to one that does what the run by pieces does.
use Rattle.std.proofs.Common.{◌≡◌, ℕ, ◌+◌, ◌<◌, ◌≤◌, true, false, List, [], ◌∷◌, None, length, refl, ap, inl, pos, arith}
use Rattle.std.specs.Prelude.{◌==◌}
use Rattle.std.proofs.lemmas.Bool.{eqb-true}
use Rattle.std.proofs.lemmas.List.{length-map}
use Rattle.fin_ast.specs.declared.checked.Checked.{Checked}
use Rattle.fin_ast.specs.declared.checked.Dims.{Dims}
use Rattle.fin_ast.specs.Infer.{places_in}
use Rattle.fin_ast.specs.Sizes.{ranges_of}
use Rattle.fin_stage.proofs.Ranges.{ranges_count}
use Rattle.fin_ast.specs.Accepted.{IsAccepted}
use Rattle.fin_ast.specs.Bindings.{bindings_of_all, counts_from}
use Rattle.fin_ast.specs.Dense.{unbound}
use Rattle.fin_ast.specs.Scope.{outermost}
use Rattle.fin_stage.specs.Staged.{Run, before_all}
use Rattle.fin_stage.proofs.Alive.{left, right}
use Rattle.fin_stage.proofs.Trailing.{run_itself}
use Rattle.fin_nest.specs.Senses.{runs}
use Rattle.fin_nest.specs.Performs.{Place, Ready}
use Rattle.fin_nest.proofs.Pinning.{live_less}
use Rattle.fin_perform.specs.Layouts.{variables_in, layout_with, begun_with, start_with}
use Rattle.fin_simp.specs.Numbered.{outset}
use Rattle.fin_perform.specs.Places.{AllApart, AllMayBind, Suits, change_all}
use Rattle.fin_perform.specs.Programs.{ProgramsStand}
use Rattle.fin_perform.proofs.Beginning.{begins}

-- where a program's code stands: no tensor stays as it is, and any variable may be bound
abbrev whole_place : Checked → Place
whole_place c = record { facts = []; steady = λ t. false; binds = λ x. true; next = variables_in c }

-- variables that are numbered one after another are bound once
apart_from : (v k : ℕ) (vs : List ℕ) → v < k → counts_from k vs ≡ true → AllApart v vs
apart_from v k [] lt e = tt
apart_from v k (x ∷ vs) lt e =
    let same : x ≡ k = eqb-true x k (left (x == k) (counts_from (k + 1) vs) e) in
    (λ eq. absurd (omega (arith, eq, same, lt)), apart_from v (k + 1) vs (omega (arith, lt)) (right (x == k) (counts_from (k + 1) vs) e))

all_may_bind : (c : Checked) (count k : ℕ) (vs : List ℕ) → counts_from k vs ≡ true → k + length vs ≤ variables_in c → count ≡ variables_in c → AllMayBind (whole_place c) count vs
all_may_bind c count k [] e le is = tt
all_may_bind c count k (v ∷ vs) e le is =
    let same : v ≡ k = eqb-true v k (left (v == k) (counts_from (k + 1) vs) e) in
    let rest : counts_from (k + 1) vs ≡ true = right (v == k) (counts_from (k + 1) vs) e in
    (record { below = omega (arith, same, le); counted = omega (arith, same, le, is); binds = refl; apart = apart_from v (k + 1) vs (omega (arith, same)) rest }, all_may_bind c count (k + 1) vs rest (omega (arith, le)) is)

module _ (c : Checked) (accepted : IsAccepted c) where
  pub enough : 0 + length (bindings_of_all c.program.body) ≤ variables_in c
  enough =
      let e : c.dims.ranges ≡ ranges_of accepted.extents.extent (places_in c.program) = ap (λ (d : Dims). d.ranges) accepted.extents.numbers in
      omega (arith, ap length e, ranges_count accepted.extents.extent c.program.body)

  whole_suits : Suits c (variables_in c) (bindings_of_all c.program.body) (change_all c.program.body outset None) (outermost c.program.headers) (unbound c.dims) (whole_place c)
  whole_suits = record {
    stands = record {
      headers = refl;
      within = λ x e. absurd (let h : false ≡ true = e in cc);
      numbers = λ m h x e. absurd (let k : false ≡ true = e in cc);
      stay = tt;
    };
    next_is = refl;
    loose = λ t e. refl;
    coordinates = λ x e. absurd (let h : false ≡ true = e in cc);
    unbound = λ x e. absurd (let h : false ≡ true = e in cc);
    may_bind = all_may_bind c (length (unbound c.dims)) 0 (bindings_of_all c.program.body) c.program.numbered enough (length-map c.dims.ranges (λ (r : ℕ × ℕ). pos 0));
  }

pub programs_stand : ProgramsStand
programs_stand c need cs room inputs means accepted given_fit low le =
    let s = start_with c room inputs in
    let first = begun_with c room inputs in
    let r : Run = before_all c.program.headers in
    let l = begins c room inputs c.fits given_fit in
    let ready : Ready (layout_with c room) first (whole_place c) = record { live = l.cut; locals = l.locals; facts = tt } in
    let began : (runs s).stands r first = λ g. record { run = r; trails = run_itself r; related = inl (live_less s (unbound c.dims) [] r first (omega arith) (λ k lt. absurd (omega (arith, lt))) l) } in
    (means room inputs (outermost c.program.headers) (unbound c.dims) (whole_place c) le c.fits given_fit (whole_suits c accepted) c.program.named).performs.does r first ready began
