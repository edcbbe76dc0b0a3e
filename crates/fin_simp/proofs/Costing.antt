-- What a piece costs.
use Rattle.std.proofs.Common.{◌≡◌, ℕ, zero, suc, ◌+◌, ℤ, pos, Bool, true, false, not, ◌&&◌, ◌||◌, ◌-◌, List, [], ◌∷◌, Option, refl, sym, ap, ◌∙◌, arith, if◌then◌else◌}
use Rattle.std.proofs.Math.Path.{fun_ext}
use Rattle.std.specs.Prelude.{nat_eq, slice_set}
use Rattle.std.specs.List.{list_all, list_any}
use Rattle.fin_ast.specs.Value.{Numbers}
use Rattle.fin_stage.specs.Staged.{Run, worked, repeated}
use Rattle.fin_simp.specs.Left.{Marks}
use Rattle.fin_simp.specs.Rest.{Access, Rest, is_none_kind}
use Rattle.fin_simp.specs.Work.{Driven, Mask, is_comparison, sight_of, mask_ends, begins_chunk, ends_after, varies_among, names_var, is_one_update, is_in, is_fixed, costing, first_share, turn, turns, entry_of}
use Rattle.fin_simp.specs.Lasting.{AllMove, KnownSame}
use Rattle.fin_simp.specs.Costs.{Running, known_at, is_nothing_at, is_fixed_at, Unbroken, PiecesCost}
use Rattle.fin_simp.specs.Pieces.{Cut, cut_before, lengthened, cut, pieces_in, done_at, unpaid, paid_once, row, by_pieces, MovesOn, Moves, LoopCosts}
use Rattle.fin_simp.proofs.Lasting.{first_false, second_false, driven_lasts, known_lasts}

-- ---- the same at the next coordinate

marks_same : (a b : Marks) → KnownSame a b → a ≡ b
marks_same a b h =
    ap (λ (f : ℕ → Option ℤ). record { reads = f; tests = a.tests; vars = a.vars }) (fun_ext h.reads)
    ∙ ap (λ (f : ℕ → Option ℤ). record { reads = b.reads; tests = f; vars = a.vars }) (fun_ext h.tests)
    ∙ ap (λ (f : ℕ → Option ℤ). record { reads = b.reads; tests = b.tests; vars = f }) (fun_ext h.vars)

varies_last : (ds : List Driven) (vars : Numbers) (var c k : ℕ) → AllMove vars var c ds → list_any (λ (d : Driven). (sight_of vars var c d).ends) ds ≡ false → varies_among ds (sight_of vars var c) k ≡ varies_among ds (sight_of vars var (c + 1)) k
varies_last [] vars var c k q h = refl
varies_last (d ∷ ds) vars var c k q h =
    let ends = list_any (λ (x : Driven). (sight_of vars var c x).ends) ds in
    let first = driven_lasts vars var c d q.0 (first_false (sight_of vars var c d).ends ends h) in
    let rest = varies_last ds vars var c k q.1 (second_false (sight_of vars var c d).ends ends h) in
    ap (λ (v : Bool). (nat_eq d.read k && v) || varies_among ds (sight_of vars var c) k) first.varies ∙ ap (λ (v : Bool). (nat_eq d.read k && (sight_of vars var (c + 1) d).varies) || v) rest

module _ (x : Running) (compare : list_all (λ (k : Mask). is_comparison k.op) x.loop.masks ≡ true) where
  seen : (c : ℕ) → ends_after x.loop x.vars c ≡ false → list_any (λ (d : Driven). (sight_of x.vars x.loop.var c d).ends) x.loop.driven ≡ false
  seen c h =
      let a = list_any (λ (d : Driven). (sight_of x.vars x.loop.var c d).ends) x.loop.driven in
      let b = list_any (mask_ends c) x.loop.masks in
      first_false a b (first_false (a || b) (begins_chunk x.loop.len x.loop.chunks (c + 1 - x.loop.lo)) h)

  known_next : (c : ℕ) → AllMove x.vars x.loop.var c x.loop.driven → ends_after x.loop x.vars c ≡ false → known_at x c ≡ known_at x (c + 1)
  known_next c q h = marks_same (known_at x c) (known_at x (c + 1)) (known_lasts x.loop x.vars x.around c q compare h).known

  fixed_rest : (rest : Rest) (c : ℕ) → AllMove x.vars x.loop.var c x.loop.driven → ends_after x.loop x.vars c ≡ false → is_fixed x.loop x.vars rest c ≡ is_fixed x.loop x.vars rest (c + 1)
  fixed_rest rest c q h =
      ap (λ (p : Access → Bool). is_one_update rest.kind && not (is_in rest.vars x.loop.var) && list_all (λ i. not (names_var x.loop.var i)) rest.targets && list_all p rest.reads)
      (fun_ext (λ (a : Access). ap not (varies_last x.loop.driven x.vars x.loop.var c a.read q (seen c h))))

  nothing_next : (c : ℕ) → AllMove x.vars x.loop.var c x.loop.driven → ends_after x.loop x.vars c ≡ false → is_nothing_at x c ≡ is_nothing_at x (c + 1)
  nothing_next c q h = ap (λ (m : Marks). is_none_kind (x.rest m).kind) (known_next c q h)

  fixed_next : (c : ℕ) → AllMove x.vars x.loop.var c x.loop.driven → ends_after x.loop x.vars c ≡ false → is_fixed_at x c ≡ is_fixed_at x (c + 1)
  fixed_next c q h = fixed_rest (x.rest (known_at x c)) c q h ∙ ap (λ (m : Marks). is_fixed x.loop x.vars (x.rest m) (c + 1)) (known_next c q h)

  -- ---- one coordinate
  abbrev act : Bool → ℕ → Run → Run
  act = turn x.loop x.rest x.body x.around x.vars

  abbrev done : ℕ → Run → Run
  done c r = x.body (known_at x c) (slice_set x.vars x.loop.var (pos c)) r

  picked : (a b : Bool) (u v w : Run) → a ≡ true → (if a then u else (if b then v else w)) ≡ u
  picked true b u v w h = refl
  picked false b u v w h = let e : false ≡ true = h in cc

  picked_second : (a b : Bool) (u v w : Run) → a ≡ false → b ≡ true → (if a then u else (if b then v else w)) ≡ v
  picked_second false true u v w h k = refl
  picked_second true b u v w h k = let e : true ≡ false = h in cc
  picked_second false false u v w h k = let e : false ≡ true = k in cc

  picked_third : (a b : Bool) (u v w : Run) → a ≡ false → b ≡ false → (if a then u else (if b then v else w)) ≡ w
  picked_third false false u v w h k = refl
  picked_third true b u v w h k = let e : true ≡ false = h in cc
  picked_third false true u v w h k = let e : true ≡ false = k in cc

  act_nothing : (begins : Bool) (c : ℕ) (r : Run) → is_nothing_at x c ≡ true → act begins c r ≡ r
  act_nothing begins c r h = picked (is_nothing_at x c) (is_fixed_at x c) r (costing (first_share begins) r (done c r)) (done c (worked 1 r)) h

  act_fixed : (begins : Bool) (c : ℕ) (r : Run) → is_nothing_at x c ≡ false → is_fixed_at x c ≡ true → act begins c r ≡ costing (first_share begins) r (done c r)
  act_fixed begins c r h k = picked_second (is_nothing_at x c) (is_fixed_at x c) r (costing (first_share begins) r (done c r)) (done c (worked 1 r)) h k

  act_other : (begins : Bool) (c : ℕ) (r : Run) → is_nothing_at x c ≡ false → is_fixed_at x c ≡ false → act begins c r ≡ done c (worked 1 r)
  act_other begins c r h k = picked_third (is_nothing_at x c) (is_fixed_at x c) r (costing (first_share begins) r (done c r)) (done c (worked 1 r)) h k

  -- ---- a piece
  abbrev on : ℕ → Bool → ℕ → Run → Run
  on n begins c r = turns act (ends_after x.loop x.vars) n begins c r

  nothing_piece : (n c : ℕ) (begins : Bool) (r : Run) → Unbroken x n c → is_nothing_at x c ≡ true → on (suc n) begins c r ≡ r
  nothing_piece zero c begins r u h = act_nothing begins c r h
  nothing_piece (suc n) c begins r u h =
      ap (on (suc n) (ends_after x.loop x.vars c) (c + 1)) (act_nothing begins c r h) ∙ nothing_piece n (c + 1) (ends_after x.loop x.vars c) r u.2 (sym (nothing_next c u.1 u.0) ∙ h)

  later_piece : (n c : ℕ) (begins : Bool) (r : Run) → begins ≡ false → Unbroken x n c → is_nothing_at x c ≡ false → is_fixed_at x c ≡ true → (on (suc n) begins c r).work ≡ r.work
  later_piece zero c begins r b u h k = ap (λ (s : Run). s.work) (act_fixed begins c r h k) ∙ ap (λ (z : Bool). r.work + first_share z) b ∙ omega arith
  later_piece (suc n) c begins r b u h k =
      later_piece n (c + 1) (ends_after x.loop x.vars c) (act begins c r) u.0 u.2 (sym (nothing_next c u.1 u.0) ∙ h) (sym (fixed_next c u.1 u.0) ∙ k)
      ∙ ap (λ (s : Run). s.work) (act_fixed begins c r h k) ∙ ap (λ (z : Bool). r.work + first_share z) b ∙ omega arith

  fixed_piece : (n c : ℕ) (r : Run) → Unbroken x n c → is_nothing_at x c ≡ false → is_fixed_at x c ≡ true → (on (suc n) true c r).work ≡ r.work + 2
  fixed_piece zero c r u h k = ap (λ (s : Run). s.work) (act_fixed true c r h k)
  fixed_piece (suc n) c r u h k =
      later_piece n (c + 1) (ends_after x.loop x.vars c) (act true c r) u.0 u.2 (sym (nothing_next c u.1 u.0) ∙ h) (sym (fixed_next c u.1 u.0) ∙ k)
      ∙ ap (λ (s : Run). s.work) (act_fixed true c r h k)

  other_piece : (n c : ℕ) (begins : Bool) (r : Run) → Unbroken x n c → is_nothing_at x c ≡ false → is_fixed_at x c ≡ false → on (suc n) begins c r ≡ repeated (suc n) c x.loop.var (x.body (known_at x c)) x.vars r
  other_piece zero c begins r u h k = act_other begins c r h k
  other_piece (suc n) c begins r u h k =
      ap (on (suc n) (ends_after x.loop x.vars c) (c + 1)) (act_other begins c r h k)
      ∙ other_piece n (c + 1) (ends_after x.loop x.vars c) (done c (worked 1 r)) u.2 (sym (nothing_next c u.1 u.0) ∙ h) (sym (fixed_next c u.1 u.0) ∙ k)
      ∙ ap (λ (m : Marks). repeated (suc n) (c + 1) x.loop.var (x.body m) x.vars (done c (worked 1 r))) (sym (known_next c u.1 u.0))

  -- ---- the table's row
  later_run : (n c : ℕ) (begins : Bool) (r : Run) → begins ≡ false → Unbroken x n c → is_nothing_at x c ≡ false → is_fixed_at x c ≡ true → on (suc n) begins c r ≡ unpaid x (known_at x c) (suc n) c r
  later_run zero c begins r b u h k = act_fixed begins c r h k ∙ ap (λ (z : Bool). costing (first_share z) r (done c r)) b
  later_run (suc n) c begins r b u h k =
      ap (on (suc n) (ends_after x.loop x.vars c) (c + 1)) (act_fixed begins c r h k ∙ ap (λ (z : Bool). costing (first_share z) r (done c r)) b)
      ∙ later_run n (c + 1) (ends_after x.loop x.vars c) (costing 0 r (done c r)) u.0 u.2 (sym (nothing_next c u.1 u.0) ∙ h) (sym (fixed_next c u.1 u.0) ∙ k)
      ∙ ap (λ (m : Marks). unpaid x m (suc n) (c + 1) (costing 0 r (done c r))) (sym (known_next c u.1 u.0))

  fixed_run : (n c : ℕ) (r : Run) → Unbroken x n c → is_nothing_at x c ≡ false → is_fixed_at x c ≡ true → on (suc n) true c r ≡ paid_once x (known_at x c) n c r
  fixed_run zero c r u h k = act_fixed true c r h k
  fixed_run (suc n) c r u h k =
      ap (on (suc n) (ends_after x.loop x.vars c) (c + 1)) (act_fixed true c r h k)
      ∙ later_run n (c + 1) (ends_after x.loop x.vars c) (costing 2 r (done c r)) u.0 u.2 (sym (nothing_next c u.1 u.0) ∙ h) (sym (fixed_next c u.1 u.0) ∙ k)
      ∙ ap (λ (m : Marks). unpaid x m (suc n) (c + 1) (costing 2 r (done c r))) (sym (known_next c u.1 u.0))

  row_by : (a b : Bool) (n c : ℕ) (r : Run) → Unbroken x n c → is_nothing_at x c ≡ a → is_fixed_at x c ≡ b → on (suc n) true c r ≡ row x n c r
  row_by true b n c r u h k = nothing_piece n c true r u h ∙ sym (picked (is_nothing_at x c) (is_fixed_at x c) r _ _ h)
  row_by false true n c r u h k = fixed_run n c r u h k ∙ sym (picked_second (is_nothing_at x c) (is_fixed_at x c) r _ _ h k)
  row_by false false n c r u h k = other_piece n c true r u h k ∙ sym (picked_third (is_nothing_at x c) (is_fixed_at x c) r _ _ h k)

  piece_row : (n c : ℕ) (r : Run) → Unbroken x n c → on (suc n) true c r ≡ row x n c r
  piece_row n c r u = row_by (is_nothing_at x c) (is_fixed_at x c) n c r u refl refl

  -- ---- the pieces of a loop
  abbrev ends : ℕ → Bool
  ends = ends_after x.loop x.vars

  abbrev Whole : ℕ → ℕ → Cut → Type 0
  Whole n c p = Unbroken x p.first c × ((begins : Bool) (r : Run) → on (suc n) begins c r ≡ by_pieces x p.later (c + suc p.first) (on (suc p.first) begins c r))

  next_whole : (n c : ℕ) (p : Cut) (b : Bool) → ends c ≡ b → AllMove x.vars x.loop.var c x.loop.driven → Whole n (c + 1) p → Whole (suc n) c (if b then cut_before p else lengthened p)
  next_whole n c p true h q w = (
    tt,
    λ begins r.
        let s = act begins c r in
        ap (λ (z : Bool). on (suc n) z (c + 1) s) h ∙ w.1 true s ∙ ap (by_pieces x p.later (c + 1 + suc p.first)) (piece_row p.first (c + 1) s w.0),
  )
  next_whole n c p false h q w = (
    (h, q, w.0),
    λ begins r.
        let s = act begins c r in
        let far : c + 1 + suc p.first ≡ c + suc (suc p.first) = omega arith in
        w.1 (ends c) s ∙ ap (λ k. by_pieces x p.later k (on (suc p.first) (ends c) (c + 1) s)) far,
  )

  whole : (n c : ℕ) → MovesOn x n c → Whole n c (cut ends n c)
  whole zero c q = (tt, λ begins r. refl)
  whole (suc n) c q = next_whole n c (cut ends n (c + 1)) (ends c) refl q.0 (whole n (c + 1) q.1)

  loop_pieces : (n c : ℕ) (r : Run) → MovesOn x n c → on (suc n) true c r ≡ by_pieces x (pieces_in ends (suc n) c) c r
  loop_pieces n c r q =
      let p = cut ends n c in
      let w = whole n c q in
      w.1 true r ∙ ap (by_pieces x p.later (c + suc p.first)) (piece_row p.first c r w.0)

  all_pieces : (len : ℕ) (r : Run) → Moves x len → on len true x.loop.lo r ≡ by_pieces x (pieces_in ends len x.loop.lo) x.loop.lo r
  all_pieces zero r q = refl
  all_pieces (suc n) r q = loop_pieces n x.loop.lo r q

unpaid_work : (x : Running) (m : Marks) (n c : ℕ) (r : Run) → (unpaid x m n c r).work ≡ r.work
unpaid_work x m zero c r = refl
unpaid_work x m (suc n) c r = unpaid_work x m n (c + 1) (costing 0 r (done_at x m c r)) ∙ omega arith

pub loop_costs : LoopCosts
loop_costs = record {
  pieces = λ x r compare q. all_pieces x compare x.loop.len (worked (entry_of x.loop) r) q;
  once = λ x m n c r. unpaid_work x m n (c + 1) (costing 2 r (done_at x m c r));
}

pub pieces_cost : PiecesCost
pieces_cost x n c r compare u = record {
  nothing = λ h. nothing_piece x compare n c true r u h;
  fixed = λ h k. fixed_piece x compare n c r u h k;
  other = λ h k. other_piece x compare n c true r u h k;
}
