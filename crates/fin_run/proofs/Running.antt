-- How runs end, over plain states.
use Rattle.std.proofs.Common.{◌≡◌, ℕ, suc, ◌<◌, ◌≤◌, ◌+◌, ◌-◌, ◌^◌, Bool, true, false, List, [], ◌∷◌, map, refl, sym, ap, subst, ◌∙◌, ℤ, pos, ◌+ℤ◌, arith}
use Rattle.std.specs.Prelude.{int_lt, nat_lt, nat_le, min, if◌then◌else◌, Ok, Err, Result, OnOk}
use Rattle.std.proofs.lemmas.Bool.{and_parts}
use Rattle.std.proofs.lemmas.Bool.Decides.{nat_tests}
use Rattle.fin_base.specs.declared.terms.Updated.{Updated}
use Rattle.fin_tensor.specs.declared.storage.Storage.{Storage}
use Rattle.fin_ir.specs.declared.expression.IExpr.{IExpr}
use Rattle.fin_ir.specs.declared.code.Code.{Code}
use Rattle.fin_ir.specs.declared.code.Code.TheVariants as c
use Rattle.fin_ir.specs.declared.layout.Layout.{Layout}
use Rattle.fin_ir.specs.declared.layout.RunError.{RunError}
use Rattle.fin_ir.specs.declared.layout.RunError.TheVariants.{Spent, Memory}
use Rattle.fin_ir.specs.Machine.{Machine, refused, assign, count_turn}
use Rattle.fin_ir.specs.Value.{value_in, is_off}
use Rattle.fin_ir.specs.Declares.{declares}
use Rattle.fin_ir.specs.Meaning.{Action, span, next_of, count_before, step_loop, for_loop, opened, chunks, chunk_locals, chunks_of, chunks_from, chunk_begin, in_chunks, is_range, par_loop, meaning, meaning_all}
use Rattle.fin_ir.proofs.Codes.{meaning_seq, meaning_when, meaning_step_loop, meaning_for_loop, meaning_par_loop}
use Rattle.fin_ir.proofs.Growth.{Grows, Growing, grows_on, grows_count, grows_before, step_turns_grow, for_turns_grow, chunks_grow, grows_opened}
use Rattle.fin_ir.proofs.Loops.{step_goes, step_ends, for_goes, for_ends, span_next, span_one}
use Rattle.fin_run.specs.declared.chunks.Chunks.{Chunks}
use Rattle.fin_run.specs.declared.state.State.{State}
use Rattle.fin_run.specs.States.{machine}
use Rattle.fin_run.specs.Ends.{Ends, Did, Does}
use Rattle.fin_run.specs.Chunks.{IsCut, left_of}

-- ---- ends

pub ends_as : (b : ℕ) (x y now : Machine) (r : Result (Unit {0}) RunError) → x ≡ y → Ends b x now r → Ends b y now r
ends_as b x y now r e h = subst (λ (z : Machine). Ends b z now r) e h

pub done : (b : ℕ) (now leaves : Machine) → now ≡ leaves → now.charges ≤ b → (now ≡ leaves) × (leaves.charges ≤ b)
done b now leaves e h = (e, subst (λ (m : Machine). m.charges ≤ b) e h)

pub within_budget : (b : ℕ) (now leaves : Machine) → now ≡ leaves → leaves.charges ≤ b → now.charges ≤ b
within_budget b now leaves e h = subst (λ (m : Machine). m.charges ≤ b) (sym e) h

-- what a callee said, at its answer
pub at_answer : (b : ℕ) (leaves now : Machine) (r s : Result (Unit {0}) RunError) → r ≡ s → Ends b leaves now r → Ends b leaves now s
at_answer b leaves now r s e h = subst (λ (x : Result (Unit {0}) RunError). Ends b leaves now x) e h

err_grows : (b : ℕ) (part whole now : Machine) (e : RunError) → Grows part whole → Ends b part now (Err e) → Ends b whole now (Err e)
err_grows b part whole now Spent g h = (omega (arith, g.charges, h.0), omega (arith, g.turns, h.1))
err_grows b part whole now (Memory a) g h = omega (arith, g.turns, h)

-- an error on the way is one of the whole, of which `rest` was still to do
pub err_on_the_way : (b : ℕ) (rest : Action) (total part now : Machine) (e : RunError) → Growing rest → total ≡ rest part → Ends b part now (Err e) → Ends b total now (Err e)
err_on_the_way b rest total part now e g t h = ends_as b (rest part) total now (Err e) (sym t) (err_grows b part (rest part) now e (g part) h)

-- the part of a regular run that comes first is regular
pub first_regular : (rest : Action) (total part : Machine) → Growing rest → total ≡ rest part → total.regular ≡ true → part.regular ≡ true
first_regular rest total part g t r = (g part).regular (ap (λ (m : Machine). m.regular) (sym t) ∙ r)

pub ends_of_did : (b : ℕ) (f : Action) (inputs : List Storage) (s0 s1 : State) (n : ℕ) (leaves : Machine) → Did f inputs s0 s1 → s1.work ≤ b → f (machine inputs s0 n) ≡ leaves → (machine inputs s1 n ≡ leaves) × (leaves.charges ≤ b)
ends_of_did b f inputs s0 s1 n leaves d w e = done b (machine inputs s1 n) leaves (d n ∙ e) w

pub ends_of_does : (b : ℕ) (f : Action) (inputs : List Storage) (s0 s1 : State) (n : ℕ) (leaves : Machine) (r : Result (Unit {0}) RunError) → Growing f → Does b f inputs s0 s1 r → f (machine inputs s0 n) ≡ leaves → Ends b leaves (machine inputs s1 n) r
ends_of_does b f inputs s0 s1 n leaves (Ok u) g d e = ends_of_did b f inputs s0 s1 n leaves d.0 d.1 e
ends_of_does b f inputs s0 s1 n leaves (Err Spent) g d e = ends_as b (f (machine inputs s0 n)) leaves (machine inputs s1 n) (Err Spent) e (d n, (g (machine inputs s0 n)).turns)
ends_of_does b f inputs s0 s1 n leaves (Err (Memory a)) g d e = ends_as b (f (machine inputs s0 n)) leaves (machine inputs s1 n) (Err (Memory a)) e (g (machine inputs s0 n)).turns

-- ---- the arms of one code

module _ (layout : Layout) (code : Code) (m : Machine) where
  pub leaf_arm : (x : Code) (leaves : Machine) → code ≡ x → meaning layout x m ≡ leaves → leaves ≡ meaning layout code m
  leaf_arm x leaves e h = sym h ∙ ap (λ y. meaning layout y m) (sym e)

  pub seq_arm : (all all' : List Code) → code ≡ c.Seq all → all' ≡ all → meaning_all layout all' m ≡ meaning layout code m
  seq_arm all all' e f = ap (λ l. meaning_all layout l m) f ∙ leaf_arm (c.Seq all) (meaning_all layout all m) e (meaning_seq layout all m)

  pub off_arm : (test : IExpr) (body : Code) (b : Bool) → code ≡ c.When test body → b ≡ is_off (value_in m test) → b ≡ true → m ≡ meaning layout code m
  off_arm test body b e f t =
      let at : is_off (value_in m test) ≡ true = sym f ∙ t in
      let go : (if is_off (value_in m test) then m else meaning layout body m) ≡ m = ap (λ x. if x then m else meaning layout body m) at in
      leaf_arm (c.When test body) m e (meaning_when layout test body m ∙ go)

  pub on_arm : (test : IExpr) (body body' : Code) (b : Bool) → code ≡ c.When test body → b ≡ is_off (value_in m test) → b ≡ false → body' ≡ body → meaning layout body' m ≡ meaning layout code m
  on_arm test body body' b e f t g =
      let at : is_off (value_in m test) ≡ false = sym f ∙ t in
      let go : (if is_off (value_in m test) then m else meaning layout body m) ≡ meaning layout body m = ap (λ x. if x then m else meaning layout body m) at in
      ap (λ x. meaning layout x m) g ∙ leaf_arm (c.When test body) (meaning layout body m) e (meaning_when layout test body m ∙ go)

  pub step_arm : (var until : ℕ) (lo hi stop : IExpr) (body body' : Code) → code ≡ c.StepLoop var until lo hi stop body → body' ≡ body → step_loop var until (λ n. value_in n stop) (meaning layout body') (value_in m lo) (value_in m hi) m ≡ meaning layout code m
  step_arm var until lo hi stop body body' e f =
      ap (λ x. step_loop var until (λ n. value_in n stop) (meaning layout x) (value_in m lo) (value_in m hi) m) f
      ∙ leaf_arm (c.StepLoop var until lo hi stop body) _ e (meaning_step_loop layout var until lo hi stop body m)

  pub each_arm : (var : ℕ) (lo hi : IExpr) (body body' : Code) → code ≡ c.ForLoop var lo hi body → body' ≡ body → for_loop var (meaning layout body') (value_in m lo) (value_in m hi) m ≡ meaning layout code m
  each_arm var lo hi body body' e f =
      ap (λ x. for_loop var (meaning layout x) (value_in m lo) (value_in m hi) m) f
      ∙ leaf_arm (c.ForLoop var lo hi body) _ e (meaning_for_loop layout var lo hi body m)

  pub chunk_arm : (from to lo hi : ℕ) (ways : List Updated) (body body' : Code) → code ≡ c.ParLoop from to lo hi ways body → body' ≡ body → par_loop (declares body') (meaning layout body') from to lo hi m ≡ meaning layout code m
  chunk_arm from to lo hi ways body body' e f =
      ap (λ x. par_loop (declares x) (meaning layout x) from to lo hi m) f
      ∙ leaf_arm (c.ParLoop from to lo hi ways body) _ e (meaning_par_loop layout from to lo hi ways body m)

pub regular_as : (m n : Machine) → n ≡ m → m.regular ≡ true → n.regular ≡ true
regular_as m n e r = ap (λ (x : Machine). x.regular) e ∙ r

-- ---- turns of a loop by steps

module _ (var until : ℕ) (stop : Machine → ℤ) (body : Action) (hi : ℤ) where
  abbrev pub after_step : ℤ → Action
  after_step next m = step_loop var until stop body next hi (count_before next hi m)

  pub after_step_grows : Growing body → (next : ℤ) → Growing (after_step next)
  after_step_grows g next m =
      let n = count_before next hi m in
      grows_on m n (after_step next m) (grows_before var until stop body g hi next m) (step_turns_grow var until stop body g hi (span next hi) next n)

  pub step_first : (end at next : ℤ) (total m begun : Machine) → end ≡ hi → int_lt at end ≡ true → next ≡ next_of var stop end at m → begun ≡ assign until next (assign var at m) → total ≡ step_loop var until stop body at hi m → total ≡ after_step next (body begun)
  step_first end at next total m begun ee t en eb et =
      let on : int_lt at hi ≡ true = ap (int_lt at) (sym ee) ∙ t in
      let en' : next ≡ next_of var stop hi at m = en ∙ ap (λ h. next_of var stop h at m) ee in
      et ∙ step_goes var until stop body hi at m on
      ∙ ap (λ n. after_step n (body (assign until n (assign var at m)))) (sym en')
      ∙ ap (λ x. after_step next (body x)) (sym eb)

  pub step_left : (total last now done : Machine) (end1 at' next : ℤ) → total ≡ after_step next last → now ≡ last → end1 ≡ hi → done ≡ count_before next end1 now → at' ≡ next → total ≡ step_loop var until stop body at' hi done
  step_left total last now done end1 at' next et en ee ed ea =
      et ∙ ap (after_step next) (sym en) ∙ ap (λ h. step_loop var until stop body next hi (count_before next h now)) (sym ee)
      ∙ ap (step_loop var until stop body next hi) (sym ed) ∙ ap (λ a. step_loop var until stop body a hi done) (sym ea)

  pub step_over : (end at : ℤ) (total m : Machine) → end ≡ hi → int_lt at end ≡ false → total ≡ step_loop var until stop body at hi m → m ≡ total
  step_over end at total m ee t et = sym (et ∙ step_ends var until stop body hi at m (ap (int_lt at) (sym ee) ∙ t))

pub step_smaller : (var : ℕ) (stop : Machine → ℤ) (end end1 end2 at next at' : ℤ) (m : Machine) → end1 ≡ end → end2 ≡ end1 → int_lt at end ≡ true → next ≡ next_of var stop end at m → at' ≡ next → span at' end2 < span at end
step_smaller var stop end end1 end2 at next at' m e1 e2 t en ea =
    let s = span_next at end (stop (assign var at m)) t in
    let q : span at' end2 ≡ span (next_of var stop end at m) end = ap (λ x. span x end2) (ea ∙ en) ∙ ap (span (next_of var stop end at m)) (e2 ∙ e1) in
    omega (arith, s, q)

-- ---- turns of a loop over each number

module _ (var : ℕ) (body : Action) (hi : ℤ) where
  abbrev pub after_each : ℤ → Action
  after_each next m = for_loop var body next hi (count_turn m)

  pub after_each_grows : Growing body → (next : ℤ) → Growing (after_each next)
  after_each_grows g next m = grows_on m (count_turn m) (after_each next m) (grows_count m) (for_turns_grow var body g (span next hi) next (count_turn m))

  pub each_first : (end at next : ℤ) (total m begun : Machine) → end ≡ hi → int_lt at end ≡ true → next ≡ at +ℤ pos 1 → begun ≡ assign var at m → total ≡ for_loop var body at hi m → total ≡ after_each next (body begun)
  each_first end at next total m begun ee t en eb et =
      let on : int_lt at hi ≡ true = ap (int_lt at) (sym ee) ∙ t in
      et ∙ for_goes var body hi at m on
      ∙ ap (λ n. after_each n (body (assign var at m))) (sym en)
      ∙ ap (λ x. after_each next (body x)) (sym eb)

  pub each_left : (total last now done : Machine) (at' next : ℤ) → total ≡ after_each next last → now ≡ last → done ≡ count_turn now → at' ≡ next → total ≡ for_loop var body at' hi done
  each_left total last now done at' next et en ed ea =
      et ∙ ap (after_each next) (sym en) ∙ ap (for_loop var body next hi) (sym ed) ∙ ap (λ a. for_loop var body a hi done) (sym ea)

  pub each_over : (end at : ℤ) (total m : Machine) → end ≡ hi → int_lt at end ≡ false → total ≡ for_loop var body at hi m → m ≡ total
  each_over end at total m ee t et = sym (et ∙ for_ends var body hi at m (ap (int_lt at) (sym ee) ∙ t))

pub each_smaller : (end end1 end2 at next at' : ℤ) → end1 ≡ end → end2 ≡ end1 → int_lt at end ≡ true → next ≡ at +ℤ pos 1 → at' ≡ next → span at' end2 < span at end
each_smaller end end1 end2 at next at' e1 e2 t en ea =
    let s = span_one at end t in
    let q : span at' end2 ≡ span (at +ℤ pos 1) end = ap (λ x. span x end2) (ea ∙ en) ∙ ap (span (at +ℤ pos 1)) (e2 ∙ e1) in
    omega (arith, s, q)

-- ---- chunks

runs_in : (b : Bool) (m n : Machine) → (if b then n else refused m).regular ≡ true → (b ≡ true) × ((if b then n else refused m) ≡ n)
runs_in true m n r = (refl, refl)
runs_in false m n r = cc

module _ (own : ℕ → Bool) (body : Action) (from to lo hi : ℕ) (inputs : List Storage) (s : State) (n : ℕ) where
  pub range_asks : (par_loop own body from to lo hi (machine inputs s n)).regular ≡ true → (lo ≤ hi) × (hi ≤ 2 ^ 40)
  range_asks r =
      let t = (runs_in (is_range lo hi) (machine inputs s n) (in_chunks own body from to lo hi (machine inputs s n)) r).0 in
      let p = and_parts (nat_le lo hi) (nat_le hi (2 ^ 40)) t in
      ((let q = p.0 in grind (arith, nat_tests)), (let q = p.1 in grind (arith, nat_tests)))

  pub range_runs : (par_loop own body from to lo hi (machine inputs s n)).regular ≡ true → par_loop own body from to lo hi (machine inputs s n) ≡ opened own s.locals (chunks own body (map (chunk_locals from to s.locals) (chunks_of lo hi)) (machine inputs s n))
  range_runs r = (runs_in (is_range lo hi) (machine inputs s n) (in_chunks own body from to lo hi (machine inputs s n)) r).1

pub chunks_start : (lo hi : ℕ) (c : Chunks) → IsCut lo hi c → c.next ≡ 0 → chunks_of lo hi ≡ left_of c
chunks_start lo hi c h z =
    let count = min (hi - lo) 256 in
    let same : c.count - c.next ≡ count = omega (arith, z, h.count_is) in
    sym (ap (λ x. chunks_from x c.len c.count c.next (c.count - c.next)) h.lo_is
    ∙ ap (λ x. chunks_from lo x c.count c.next (c.count - c.next)) h.len_is
    ∙ ap (λ x. chunks_from lo (hi - lo) x c.next (c.count - c.next)) h.count_is
    ∙ ap (λ x. chunks_from lo (hi - lo) count x (c.count - c.next)) z
    ∙ ap (chunks_from lo (hi - lo) count 0) same)

left_goes : (c : Chunks) → c.next < c.count → left_of c ≡ (chunk_begin c.lo c.len c.count c.next, chunk_begin c.lo c.len c.count (c.next + 1)) ∷ chunks_from c.lo c.len c.count (c.next + 1) (c.count - (c.next + 1))
left_goes c h =
    let e : c.count - c.next ≡ suc (c.count - (c.next + 1)) = omega arith in
    ap (chunks_from c.lo c.len c.count c.next) e

left_none : (c : Chunks) → c.count ≤ c.next → left_of c ≡ []
left_none c h = let e : c.count - c.next ≡ 0 = omega arith in ap (chunks_from c.lo c.len c.count c.next) e

abbrev pub next_ends : Chunks → ℕ × ℕ
next_ends c = (chunk_begin c.lo c.len c.count c.next, chunk_begin c.lo c.len c.count (c.next + 1))

module _ (own : ℕ → Bool) (body : Action) (f : ℕ × ℕ → List ℤ) where
  abbrev pub after_chunk : Chunks → Action
  after_chunk c m = chunks own body (map f (chunks_from c.lo c.len c.count (c.next + 1) (c.count - (c.next + 1)))) m

  pub after_chunk_grows : Growing body → (c : Chunks) → Growing (after_chunk c)
  after_chunk_grows g c m = chunks_grow own body g (map f (chunks_from c.lo c.len c.count (c.next + 1) (c.count - (c.next + 1)))) m

  pub chunk_first : (c : Chunks) (total m begun : Machine) → nat_lt c.next c.count ≡ true → begun ≡ opened own (f (next_ends c)) m → total ≡ chunks own body (map f (left_of c)) m → total ≡ after_chunk c (body begun)
  chunk_first c total m begun t eb et =
      let lt : c.next < c.count = grind (arith, nat_tests) in
      et ∙ ap (λ l. chunks own body (map f l) m) (left_goes c lt) ∙ ap (λ x. after_chunk c (body x)) (sym eb)

  pub chunk_left : (c d : Chunks) (total last now : Machine) → total ≡ after_chunk c last → now ≡ last → d.next ≡ c.next + 1 → d.lo ≡ c.lo → d.len ≡ c.len → d.count ≡ c.count → total ≡ chunks own body (map f (left_of d)) now
  chunk_left c d total last now et en e1 e2 e3 e4 =
      let same : left_of d ≡ chunks_from c.lo c.len c.count (c.next + 1) (c.count - (c.next + 1)) =
      ap (λ x. chunks_from x d.len d.count d.next (d.count - d.next)) e2
      ∙ ap (λ x. chunks_from c.lo x d.count d.next (d.count - d.next)) e3
      ∙ ap (λ x. chunks_from c.lo c.len x d.next (x - d.next)) e4
      ∙ ap (λ x. chunks_from c.lo c.len c.count x (c.count - x)) e1 in
      et ∙ ap (after_chunk c) (sym en) ∙ ap (λ l. chunks own body (map f l) now) (sym same)

  pub chunk_over : (c : Chunks) (total m : Machine) → nat_lt c.next c.count ≡ false → total ≡ chunks own body (map f (left_of c)) m → m ≡ total
  chunk_over c total m t et =
      let le : c.count ≤ c.next = grind (arith, nat_tests) in
      sym (et ∙ ap (λ l. chunks own body (map f l) m) (left_none c le))

pub still_cut : (lo hi : ℕ) (c d : Chunks) → IsCut lo hi c → d.lo ≡ c.lo → d.len ≡ c.len → d.count ≡ c.count → IsCut lo hi d
still_cut lo hi c d h e1 e2 e3 = record { lo_is = e1 ∙ h.lo_is; len_is = e2 ∙ h.len_is; count_is = e3 ∙ h.count_is }

pub chunks_smaller : (c d : Chunks) → nat_lt c.next c.count ≡ true → d.next ≡ c.next + 1 → d.count ≡ c.count → d.count - d.next < c.count - c.next
chunks_smaller c d t e f = let lt : c.next < c.count = grind (arith, nat_tests) in omega arith

module _ (own : ℕ → Bool) (body : Action) (f : ℕ × ℕ → List ℤ) (entry : List ℤ) (c : Chunks) where
  -- the chunks after one, and the end of the loop
  abbrev pub closing : Action
  closing m = opened own entry (after_chunk own body f c m)

  pub closing_grows : Growing body → Growing closing
  closing_grows g m = grows_on m (after_chunk own body f c m) (closing m) (after_chunk_grows own body f g c m) (grows_opened own entry (after_chunk own body f c m))

  pub open_turns : (leaves total m : Machine) → Growing body → leaves ≡ opened own entry total → total ≡ chunks own body (map f (left_of c)) m → m.turns ≤ leaves.turns
  open_turns leaves total m g e t =
      let h = (chunks_grow own body g (map f (left_of c)) m).turns in
      let a = ap (λ (x : Machine). x.turns) e in
      let b = ap (λ (x : Machine). x.turns) t in
      omega (arith, h, a, b)

-- ---- what an end says

pub ends_leave : (b : ℕ) (leaves now : Machine) (r : Result (Unit {0}) RunError) → Ends b leaves now r → OnOk r (now ≡ leaves)
ends_leave b leaves now (Ok u) h = h.0
ends_leave b leaves now (Err e) h = tt

pub ends_within : (b : ℕ) (leaves now : Machine) (r : Result (Unit {0}) RunError) → Ends b leaves now r → OnOk r (leaves.charges ≤ b)
ends_within b leaves now (Ok u) h = h.1
ends_within b leaves now (Err e) h = tt

pub ends_spent : (b : ℕ) (leaves now : Machine) (r : Result (Unit {0}) RunError) → Ends b leaves now r → r ≡ Err Spent → b < leaves.charges
ends_spent b leaves now r h e = (at_answer b leaves now r (Err Spent) e h).0

pub ends_turns : (b : ℕ) (leaves now : Machine) (r : Result (Unit {0}) RunError) → Ends b leaves now r → now.turns ≤ leaves.turns
ends_turns b leaves now (Ok u) h = let e = ap (λ (m : Machine). m.turns) h.0 in omega arith
ends_turns b leaves now (Err Spent) h = h.1
ends_turns b leaves now (Err (Memory a)) h = h
