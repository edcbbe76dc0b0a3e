-- What codes leave as it is, in any machine.
use Rattle.std.proofs.Common.{◌≡◌, ◌≢◌, ℕ, zero, suc, ◌<◌, Bool, true, false, ◌&&◌, List, [], ◌∷◌, map, length, length-set, Option, Some, None, if◌then◌else◌, refl, sym, ap, ◌∙◌, subst, ℤ, pos, ◌+ℤ◌, arith}
use Rattle.std.specs.Prelude.{int_lt, nat_eq, nat_lt, not, slice_index_or, ◌||◌}
use Rattle.std.proofs.lemmas.Bool.Decides.{nat_tests}
use Rattle.std.proofs.lemmas.List.{get_or-set_other}
use Rattle.fin_base.specs.declared.reduce.Reduce.{Reduce}
use Rattle.fin_ast.specs.Bindings.{bindings_of}
use Rattle.fin_ast.specs.Scope.{is_among}
use Rattle.fin_ir.specs.declared.code.Code.{Code, ind-Code, map-Code, fold-roll-Code}
use Rattle.fin_ir.specs.declared.code.Code.TheOpen.{Code-F}
use Rattle.fin_ir.specs.declared.layout.Layout.{Layout}
use Rattle.fin_ir.specs.Frozen.{canon, is_large}
use Rattle.fin_ir.specs.Machine.{Tensor, nothing, building, stored, held, over, seen, Effect, Machine, live, refused, set_tensor, assign, charge, count_turn, coordinates, can_update, put, listed, changed_by, update_at, update, can_declare, declare, cut_off, frozen_at, freeze, thawed, thawed_at, is_made, thaw}
use Rattle.fin_ir.specs.Value.{value_in, is_off}
use Rattle.fin_ir.specs.Declares.{some_of, declares_step, declares}
use Rattle.fin_ir.specs.Meaning.{Action, in_turn, next_of, step_turn, step_turns, for_turn, for_turns, span, opened, chunk, chunks, chunk_locals, chunks_of, is_range, par_loop, meaning_step, meaning, meaning_all}
use Rattle.fin_ir.proofs.Codes.{beside, meaning_node}
use Rattle.fin_nest.specs.Sparing.{Staying, all_spare, spare_step, spares}
use Rattle.fin_loops.specs.Sparing.{around_stmt, CodesSpare}
use Rattle.fin_loops.proofs.Opening.{seen_on}

not_true : (b : Bool) → not b ≡ true → b ≡ false
not_true true e = cc
not_true false e = refl

left : (a b : Bool) → (a && b) ≡ true → a ≡ true
left true b e = refl
left false b e = e

right : (a b : Bool) → (a && b) ≡ true → b ≡ true
right true b e = e
right false b e = cc

both : (a b : Bool) → a ≡ true → b ≡ true → (a && b) ≡ true
both true b e f = f
both false b e f = cc

module _ (s : Staying) where
  pub record Stay (m m' : Machine) : Type 0 where
    pub long : length m'.locals ≡ length m.locals
    pub locals : (x : ℕ) → s.locals x ≡ true → slice_index_or m'.locals x (pos 0) ≡ slice_index_or m.locals x (pos 0)
    pub tensors : (t : ℕ) → s.tensors t ≡ true → seen m' t ≡ seen m t

  abbrev Stays : Action → Type 0
  Stays f = (m : Machine) → Stay m (f m)

  same : (m : Machine) → Stay m m
  same m = record { long = refl; locals = λ x e. refl; tensors = λ t e. refl }

  on : (a b c : Machine) → Stay a b → Stay b c → Stay a c
  on a b c p q = record { long = q.long ∙ p.long; locals = λ x e. q.locals x e ∙ p.locals x e; tensors = λ t e. q.tensors t e ∙ p.tensors t e }

  either : (b : Bool) (m n n' : Machine) → Stay m n → Stay m n' → Stay m (if b then n else n')
  either true m n n' g h = g
  either false m n n' g h = h

  if_live : (m n : Machine) → Stay m n → Stay m (live m n)
  if_live m n g = either m.cut m m n (same m) g

  refuses : Stays refused
  refuses m = record { long = refl; locals = λ x e. refl; tensors = λ t e. refl }

  charges : (v : ℤ) → Stays (charge v)
  charges v m = if_live m _ record { long = refl; locals = λ x e. refl; tensors = λ t e. refl }

  counts : Stays count_turn
  counts m = if_live m _ record { long = refl; locals = λ x e. refl; tensors = λ t e. refl }

  cuts : Stays cut_off
  cuts m = record { long = refl; locals = λ x e. refl; tensors = λ t e. refl }

  assigns : (x : ℕ) (v : ℤ) → s.locals x ≡ false → Stays (assign x v)
  assigns x v free m = if_live m _ record {
    long = length-set m.locals x v;
    locals = λ y e. let apart : y ≢ x = λ is. let f = ap s.locals is in cc in get_or-set_other m.locals x y v (pos 0) apart;
    tensors = λ t e. refl;
  }

  module _ (t : ℕ) (free : s.tensors t ≡ false) where
    sets : (y : Tensor) → Stays (set_tensor t y)
    sets y m = record {
      long = refl;
      locals = λ x e. refl;
      tensors = λ u e. let apart : u ≢ t = λ is. let f = ap s.tensors is in cc in ap (λ (z : Tensor). over z (held m.shared u)) (get_or-set_other m.tensors t u y nothing apart);
    }

    lists : (e : Effect) (y : Tensor) → Stays (listed e y)
    lists e nothing m = refuses m
    lists e (building b) m = record { long = refl; locals = λ x k. refl; tensors = λ u k. refl }
    lists e (stored f) m = refuses m

    changes : (e : Effect) → e.tensor ≡ t → (y : Tensor) → Stays (changed_by e y)
    changes e is nothing m = lists e (held m.shared e.tensor) m
    changes e is (building b) m = either (can_update b e.at) m _ _ (subst (λ (u : ℕ). Stay m (set_tensor u (building (put e b)) m)) (sym is) (sets (building (put e b)) m)) (refuses m)
    changes e is (stored f) m = refuses m

    updates_at : (at : Option (List ℕ)) (by : Reduce) (v : ℤ) → Stays (update_at t at by v)
    updates_at None by v m = refuses m
    updates_at (Some at) by v m = changes (record { tensor = t; at = at; by = by; value = v }) refl (held m.tensors t) m

    updates : (at : List ℤ) (by : Reduce) (v : ℤ) → Stays (update t at by v)
    updates at by v m = if_live m _ (updates_at (coordinates at) by v m)

    declares_one : (layout : Layout) → Stays (declare layout t)
    declares_one layout m = if_live m _ (either (can_declare layout t) m _ _ (sets _ m) (refuses m))

    freezes_at : (y : Tensor) → Stays (frozen_at t y)
    freezes_at nothing m = refuses m
    freezes_at (building b) m = either (is_large b) m _ _ (cuts m) (sets (stored (canon b)) m)
    freezes_at (stored f) m = refuses m

    freezes : Stays (freeze t)
    freezes m = if_live m _ (freezes_at (held m.tensors t) m)

    thaws_at : (layout : Layout) (y : Tensor) → Stays (thawed_at layout t y)
    thaws_at layout nothing m = refuses m
    thaws_at layout (building b) m = refuses m
    thaws_at layout (stored f) m = either (is_made layout t) m _ _ (sets (building (thawed f)) m) (refuses m)

    thaws : (layout : Layout) → Stays (thaw layout t)
    thaws layout m = if_live m _ (thaws_at layout (held m.tensors t) m)

  -- ---- loops, over any body

  module _ (body : Action) (g : Stays body) where
    for_turns_stay : (var : ℕ) → s.locals var ≡ false → (fuel : ℕ) (at : ℤ) → Stays (for_turns var body fuel at)
    for_turns_stay var free zero at m = same m
    for_turns_stay var free (suc fuel) at m =
        let begun = assign var at m in
        let turned = for_turn var body at m in
        on m turned _ (on m (body begun) turned (on m begun (body begun) (assigns var at free m) (g begun)) (counts (body begun))) (for_turns_stay var free fuel (at +ℤ pos 1) turned)

    step_turns_stay : (var until : ℕ) → s.locals var ≡ false → s.locals until ≡ false → (stop : Machine → ℤ) (hi : ℤ) (fuel : ℕ) (at : ℤ) → Stays (step_turns var until stop body hi fuel at)
    step_turns_stay var until a b stop hi zero at m = same m
    step_turns_stay var until a b stop hi (suc fuel) at m =
        let next = next_of var stop hi at m in
        let first = assign var at m in
        let begun = assign until next first in
        let turned = step_turn var until body hi at next m in
        let in_body = on m begun (body begun) (on m first begun (assigns var at a m) (assigns until next b first)) (g begun) in
        let whole = on m (body begun) turned in_body (either (int_lt next hi) (body begun) _ _ (counts (body begun)) (same (body begun))) in
        either (int_lt at hi) m _ m (on m turned _ whole (step_turns_stay var until a b stop hi fuel next turned)) (same m)

    -- of a parallel loop the locals are put back
    module _ (own : ℕ → Bool) (apart : (t : ℕ) → s.tensors t ≡ true → own t ≡ false) where
      chunks_stay : (all : List (List ℤ)) (m : Machine) (t : ℕ) → s.tensors t ≡ true → seen (chunks own body all m) t ≡ seen m t
      chunks_stay [] m t e = refl
      chunks_stay (ls ∷ rest) m t e =
          chunks_stay rest (chunk own body ls m) t e ∙ (g (opened own ls m)).tensors t e ∙ seen_on own ls m t (apart t e)

      par_loop_stays : (from to lo hi : ℕ) → Stays (par_loop own body from to lo hi)
      par_loop_stays from to lo hi m =
          let all = map (chunk_locals from to m.locals) (chunks_of lo hi) in
          if_live m _ (either (is_range lo hi) m _ _ (record {
            long = refl;
            locals = λ x e. refl;
            tensors = λ t e. seen_on own m.locals (chunks own body all m) t (apart t e) ∙ chunks_stay all m t e;
          }) (refuses m))

  -- ---- code

  module _ (layout : Layout) where
    pub record Known (x : Code) : Type 0 where
      pub stays : Stays (meaning layout x)
      pub apart : (t : ℕ) → s.tensors t ≡ true → declares x t ≡ false

    abbrev Spared : Code → Type 0
    Spared x = spares s x ≡ true → Known x

    abbrev Part : Type 0
    Part = (x : Code) × Spared x

    abbrev of_part : Part → Code
    of_part k = k.0

    -- one node, from its parts
    record Node (y : Code-F Part) : Type 0 where
      stays : Stays (meaning_step layout (map-Code Code (Code × Action) (beside layout) (map-Code Part Code of_part y)))
      apart : (t : ℕ) → s.tensors t ≡ true → declares_step (map-Code Code (ℕ → Bool) declares (map-Code Part Code of_part y)) t ≡ false

    abbrev NodeSpared : Code-F Part → Type 0
    NodeSpared y = spare_step s (map-Code Code Bool (spares s) (map-Code Part Code of_part y)) ≡ true → Node y

    all_stay : (ks : List Part) → all_spare (map (spares s) (map of_part ks)) ≡ true → Stays (in_turn (map (λ (p : Code × Action). p.1) (map (beside layout) (map of_part ks))))
    all_stay [] e m = same m
    all_stay (k ∷ ks) e m = on m (meaning layout k.0 m) _ ((k.1 (left (spares s k.0) _ e)).stays m) (all_stay ks (right (spares s k.0) _ e) (meaning layout k.0 m))

    all_apart : (ks : List Part) → all_spare (map (spares s) (map of_part ks)) ≡ true → (t : ℕ) → s.tensors t ≡ true → some_of (map declares (map of_part ks)) t ≡ false
    all_apart [] e t f = refl
    all_apart (k ∷ ks) e t f =
        ap (λ (b : Bool). b || some_of (map declares (map of_part ks)) t) ((k.1 (left (spares s k.0) _ e)).apart t f) ∙ all_apart ks (right (spares s k.0) _ e) t f

    own_apart : (tensor : ℕ) → s.tensors tensor ≡ false → (t : ℕ) → s.tensors t ≡ true → (b : Bool) → nat_eq tensor t ≡ b → nat_eq tensor t ≡ false
    own_apart tensor e t f true g = let is : tensor ≡ t = grind (arith, nat_tests) in let h = ap s.tensors is in cc
    own_apart tensor e t f false g = g

    node : (y : Code-F Part) → NodeSpared y
    node Code-F.Skip e = record { stays = λ m. same m; apart = λ t f. refl }
    node (Code-F.Seq all) e = record { stays = all_stay all e; apart = all_apart all e }
    node (Code-F.Assign local value) e = record { stays = λ m. assigns local (value_in m value) (not_true (s.locals local) e) m; apart = λ t f. refl }
    node (Code-F.When test k) e = record { stays = λ m. either (is_off (value_in m test)) m _ _ (same m) ((k.1 e).stays m); apart = (k.1 e).apart }
    node (Code-F.StepLoop var until lo hi stop k) e =
        let rest = right (not (s.locals var)) _ e in
        let inner = k.1 (right (not (s.locals until)) (spares s k.0) rest) in
        record {
          stays = λ m. step_turns_stay (meaning layout k.0) inner.stays var until (not_true (s.locals var) (left (not (s.locals var)) _ e))
              (not_true (s.locals until) (left (not (s.locals until)) (spares s k.0) rest)) (λ n. value_in n stop) (value_in m hi)
              (span (value_in m lo) (value_in m hi)) (value_in m lo) m;
          apart = inner.apart;
        }
    node (Code-F.ForLoop var lo hi k) e =
        let inner = k.1 (right (not (s.locals var)) (spares s k.0) e) in
        record {
          stays = λ m. for_turns_stay (meaning layout k.0) inner.stays var (not_true (s.locals var) (left (not (s.locals var)) (spares s k.0) e))
              (span (value_in m lo) (value_in m hi)) (value_in m lo) m;
          apart = inner.apart;
        }
    node (Code-F.ParLoop from to lo hi ways k) e =
        let inner = k.1 e in
        record { stays = par_loop_stays (meaning layout k.0) inner.stays (declares k.0) inner.apart from to lo hi; apart = inner.apart }
    node (Code-F.Update tensor at by value) e = record { stays = λ m. updates tensor (not_true (s.tensors tensor) e) (map (value_in m) at) by (value_in m value) m; apart = λ t f. refl }
    node (Code-F.Declare tensor) e =
        let free = not_true (s.tensors tensor) e in
        record { stays = declares_one tensor free layout; apart = λ t f. own_apart tensor free t f (nat_eq tensor t) refl }
    node (Code-F.Freeze tensor) e = record { stays = freezes tensor (not_true (s.tensors tensor) e); apart = λ t f. refl }
    node (Code-F.Thaw tensor) e = record { stays = thaws tensor (not_true (s.tensors tensor) e) layout; apart = λ t f. refl }
    node (Code-F.Charge value) e = record { stays = λ m. charges (value_in m value) m; apart = λ t f. refl }

    code_spares : (x : Code) → Spared x
    code_spares = ind-Code Spared (λ z y is e.
        let here : spare_step s (map-Code Code Bool (spares s) (map-Code Part Code of_part y)) ≡ true =
        ap (λ (d : Code-F Code). spare_step s (map-Code Code Bool (spares s) d)) is ∙ sym (fold-roll-Code Bool (spare_step s) z) ∙ e in
        let n = node y here in
        record {
          stays = λ m. subst (Stay m) (ap (λ (d : Code-F Code). meaning_step layout (map-Code Code (Code × Action) (beside layout) d) m) is ∙ sym (meaning_node layout z m)) (n.stays m);
          apart = λ t f. ap (λ (h : ℕ → Bool). h t) (fold-roll-Code (ℕ → Bool) declares_step z)
              ∙ sym (ap (λ (d : Code-F Code). declares_step (map-Code Code (ℕ → Bool) declares d) t) is) ∙ n.apart t f;
        })

    pub codes_stay : (cs : List Code) → all_spare (map (spares s) cs) ≡ true → Stays (meaning_all layout cs)
    codes_stay [] e m = same m
    codes_stay (c ∷ cs) e m = on m (meaning layout c m) _ ((code_spares c (left (spares s c) _ e)).stays m) (codes_stay cs (right (spares s c) _ e) (meaning layout c m))

below_is : (y n : ℕ) → y < n → nat_lt y n ≡ true
below_is y n lt = elim (nat_lt y n) as (λ b. nat_lt y n ≡ b → nat_lt y n ≡ true) [
  | true ↦ (λ e. e)
  | false ↦ (λ e. absurd (grind (arith, nat_tests)))
] refl

pub codes_spare : CodesSpare
codes_spare x h ctx next cs e layout m =
    let k = codes_stay (around_stmt x h ctx next) layout cs e m in
    record {
      long = k.long;
      locals = λ live y lt free. k.locals y (both (nat_lt y next) (not (is_among (bindings_of x) y)) (below_is y next lt) (ap not free));
      tensors = λ live t loose. k.tensors t (ap not loose);
    }
