-- Charges, turns and effects only grow, a cut is paid for, and a run that isn't regular doesn't become so.
use Rattle.std.proofs.Common.{◌≡◌, ℕ, zero, suc, ◌<◌, ◌≤◌, ◌+◌, ◌^◌, ◌⊎◌, inl, inr, ⊎_elim, Bool, true, false, List, [], ◌∷◌, ◌++◌, map, length, length-set, refl, sym, ap, subst, ◌∙◌, ℤ, pos, ◌+ℤ◌, arith, append-nil, append_assoc, Option, Some, None}
use Rattle.std.specs.Prelude.{int_lt, if◌then◌else◌}
use Rattle.fin_base.specs.declared.reduce.Reduce.{Reduce}
use Rattle.fin_ir.specs.declared.code.Code.{Code, ind-Code, map-Code}
use Rattle.fin_ir.specs.declared.code.Code.TheOpen.{Code-F}
use Rattle.fin_ir.specs.declared.layout.Layout.{Layout}
use Rattle.fin_ir.specs.Frozen.{canon, is_large}
use Rattle.fin_ir.specs.Machine.{Tensor, nothing, building, stored, held, Effect, Machine, live, refused, set_tensor, assign, charge, count_turn, coordinates, can_update, put, listed, changed_by, update_at, update, can_declare, declare, cut_off, frozen_at, freeze, thawed, thawed_at, thaw, is_made}
use Rattle.fin_ir.specs.Value.{value_in, is_off}
use Rattle.fin_ir.specs.Declares.{declares}
use Rattle.fin_ir.specs.Meaning.{Action, in_turn, next_of, count_before, step_turn, step_turns, for_turn, for_turns, span, forget_from, opened, chunk, chunks, chunk_locals, chunks_of, in_chunks, is_range, par_loop, meaning_step, meaning, meaning_all}
use Rattle.fin_ir.proofs.Codes.{beside, meaning_node}

pub record Grows (m m' : Machine) : Type 0 where
  pub charges : m.charges ≤ m'.charges
  pub turns : m.turns ≤ m'.turns
  pub more : List Effect
  pub effects : m'.effects ≡ m.effects ++ more
  pub shared : m'.shared ≡ m.shared
  pub long : length m'.tensors ≡ length m.tensors
  pub cut : m'.cut ≡ true → (m.cut ≡ true) ⊎ (2 ^ 40 < m'.charges)
  pub regular : m'.regular ≡ true → m.regular ≡ true

abbrev pub Growing : Action → Type 0
Growing f = (m : Machine) → Grows m (f m)

pub grows_same : (m : Machine) → Grows m m
grows_same m = record { charges = omega arith; turns = omega arith; more = []; effects = sym (append-nil m.effects); shared = refl; long = refl; cut = λ c. inl c; regular = λ r. r }

pub grows_on : (m m1 m2 : Machine) → Grows m m1 → Grows m1 m2 → Grows m m2
grows_on m m1 m2 a b = record {
  charges = omega (arith, a.charges, b.charges);
  turns = omega (arith, a.turns, b.turns);
  more = a.more ++ b.more;
  effects = b.effects ∙ ap (λ l. l ++ b.more) a.effects ∙ append_assoc m.effects a.more b.more;
  shared = b.shared ∙ a.shared;
  long = b.long ∙ a.long;
  cut = λ c. ⊎_elim (λ d. ⊎_elim (λ e. inl e) (λ e. inr (omega (arith, e, b.charges))) (a.cut d)) (λ d. inr d) (b.cut c);
  regular = λ r. a.regular (b.regular r);
}

-- ---- single statements

pub grows_live : (m n : Machine) → Grows m n → Grows m (live m n)
grows_live m n g = elim m.cut as (λ b. Grows m (if b then m else n)) [ true ↦ grows_same m | false ↦ g ]

pub grows_refused : Growing refused
grows_refused m = record { charges = omega arith; turns = omega arith; more = []; effects = sym (append-nil m.effects); shared = refl; long = refl; cut = λ c. inl c; regular = λ r. cc }

pub grows_set : (t : ℕ) (x : Tensor) → Growing (set_tensor t x)
grows_set t x m = record { charges = omega arith; turns = omega arith; more = []; effects = sym (append-nil m.effects); shared = refl; long = length-set m.tensors t x; cut = λ c. inl c; regular = λ r. r }

pub grows_assign : (local : ℕ) (v : ℤ) → Growing (assign local v)
grows_assign local v m = grows_live m _ record { charges = omega arith; turns = omega arith; more = []; effects = sym (append-nil m.effects); shared = refl; long = refl; cut = λ c. inl c; regular = λ r. r }

pub grows_charge : (v : ℤ) → Growing (charge v)
grows_charge v m = grows_live m _ record { charges = omega arith; turns = omega arith; more = []; effects = sym (append-nil m.effects); shared = refl; long = refl; cut = λ c. inl c; regular = λ r. r }

pub grows_count : Growing count_turn
grows_count m = grows_live m _ record { charges = omega arith; turns = omega arith; more = []; effects = sym (append-nil m.effects); shared = refl; long = refl; cut = λ c. inl c; regular = λ r. r }

grows_cut : Growing cut_off
grows_cut m = record { charges = omega arith; turns = omega arith; more = []; effects = sym (append-nil m.effects); shared = refl; long = refl; cut = λ c. inr (omega arith); regular = λ r. r }

grows_either : (b : Bool) (m n n' : Machine) → Grows m n → Grows m n' → Grows m (if b then n else n')
grows_either true m n n' g h = g
grows_either false m n n' g h = h

grows_listed : (e : Effect) (x : Tensor) → Growing (listed e x)
grows_listed e nothing m = grows_refused m
grows_listed e (building b) m = record { charges = omega arith; turns = omega arith; more = e ∷ []; effects = refl; shared = refl; long = refl; cut = λ c. inl c; regular = λ r. r }
grows_listed e (stored s) m = grows_refused m

grows_changed : (e : Effect) (x : Tensor) → Growing (changed_by e x)
grows_changed e nothing m = grows_listed e (held m.shared e.tensor) m
grows_changed e (building b) m = grows_either (can_update b e.at) m _ _ (grows_set e.tensor (building (put e b)) m) (grows_refused m)
grows_changed e (stored s) m = grows_refused m

grows_update_at : (t : ℕ) (at : Option (List ℕ)) (by : Reduce) (v : ℤ) → Growing (update_at t at by v)
grows_update_at t None by v m = grows_refused m
grows_update_at t (Some at) by v m = grows_changed _ (held m.tensors t) m

pub grows_update : (t : ℕ) (at : List ℤ) (by : Reduce) (v : ℤ) → Growing (update t at by v)
grows_update t at by v m = grows_live m _ (grows_update_at t (coordinates at) by v m)

pub grows_declare : (layout : Layout) (t : ℕ) → Growing (declare layout t)
grows_declare layout t m = grows_live m _ (grows_either (can_declare layout t) m _ _ (grows_set t _ m) (grows_refused m))

grows_frozen : (t : ℕ) (x : Tensor) → Growing (frozen_at t x)
grows_frozen t nothing m = grows_refused m
grows_frozen t (building b) m = grows_either (is_large b) m _ _ (grows_cut m) (grows_set t (stored (canon b)) m)
grows_frozen t (stored s) m = grows_refused m

pub grows_freeze : (t : ℕ) → Growing (freeze t)
grows_freeze t m = grows_live m _ (grows_frozen t (held m.tensors t) m)

grows_thawed : (layout : Layout) (t : ℕ) (x : Tensor) → Growing (thawed_at layout t x)
grows_thawed layout t nothing m = grows_refused m
grows_thawed layout t (building b) m = grows_refused m
grows_thawed layout t (stored s) m = grows_either (is_made layout t) m _ _ (grows_set t (building (thawed s)) m) (grows_refused m)

pub grows_thaw : (layout : Layout) (t : ℕ) → Growing (thaw layout t)
grows_thaw layout t m = grows_live m _ (grows_thawed layout t (held m.tensors t) m)

-- ---- loops, over any body

module _ (var until : ℕ) (stop : Machine → ℤ) (body : Action) (g : Growing body) (hi : ℤ) where
  pub grows_before : (next : ℤ) → Growing (count_before next hi)
  grows_before next m = grows_either (int_lt next hi) m _ _ (grows_count m) (grows_same m)

  pub step_turn_grows : (at next : ℤ) → Growing (step_turn var until body hi at next)
  step_turn_grows at next m =
      let begun = assign until next (assign var at m) in
      let first = grows_on m (assign var at m) begun (grows_assign var at m) (grows_assign until next (assign var at m)) in
      grows_on m (body begun) _ (grows_on m begun (body begun) first (g begun)) (grows_before next (body begun))

  pub step_turns_grow : (fuel : ℕ) (at : ℤ) → Growing (step_turns var until stop body hi fuel at)
  step_turns_grow zero at m = grows_same m
  step_turns_grow (suc fuel) at m =
      let next = next_of var stop hi at m in
      let after = step_turn var until body hi at next m in
      grows_either (int_lt at hi) m _ _ (grows_on m after _ (step_turn_grows at next m) (step_turns_grow fuel next after)) (grows_same m)

module _ (var : ℕ) (body : Action) (g : Growing body) where
  pub for_turn_grows : (at : ℤ) → Growing (for_turn var body at)
  for_turn_grows at m =
      let begun = assign var at m in
      grows_on m (body begun) _ (grows_on m begun (body begun) (grows_assign var at m) (g begun)) (grows_count (body begun))

  pub for_turns_grow : (fuel : ℕ) (at : ℤ) → Growing (for_turns var body fuel at)
  for_turns_grow zero at m = grows_same m
  for_turns_grow (suc fuel) at m = grows_on m (for_turn var body at m) _ (for_turn_grows at m) (for_turns_grow fuel (at +ℤ pos 1) (for_turn var body at m))

pub length_forget : (own : ℕ → Bool) (n : ℕ) (ts : List Tensor) → length (forget_from own n ts) ≡ length ts
length_forget own n [] = refl
length_forget own n (x ∷ xs) = ap suc (length_forget own (n + 1) xs)

module _ (own : ℕ → Bool) where
  pub grows_opened : (ls : List ℤ) → Growing (opened own ls)
  grows_opened ls m = record { charges = omega arith; turns = omega arith; more = []; effects = sym (append-nil m.effects); shared = refl; long = length_forget own 0 m.tensors; cut = λ c. inl c; regular = λ r. r }

  module _ (body : Action) (g : Growing body) where
    pub chunk_grows : (ls : List ℤ) → Growing (chunk own body ls)
    chunk_grows ls m = grows_on m (opened own ls m) _ (grows_opened ls m) (g (opened own ls m))

    pub chunks_grow : (all : List (List ℤ)) → Growing (chunks own body all)
    chunks_grow [] m = grows_same m
    chunks_grow (ls ∷ rest) m = grows_on m (chunk own body ls m) _ (chunk_grows ls m) (chunks_grow rest (chunk own body ls m))

    pub in_chunks_grows : (from to lo hi : ℕ) → Growing (in_chunks own body from to lo hi)
    in_chunks_grows from to lo hi m =
        let all = map (chunk_locals from to m.locals) (chunks_of lo hi) in
        grows_on m (chunks own body all m) _ (chunks_grow all m) (grows_opened m.locals (chunks own body all m))

    pub par_loop_grows : (from to lo hi : ℕ) → Growing (par_loop own body from to lo hi)
    par_loop_grows from to lo hi m = grows_live m _ (grows_either (is_range lo hi) m _ _ (in_chunks_grows from to lo hi m) (grows_refused m))

-- ---- code

module _ (layout : Layout) where
  abbrev Known : Type 0
  Known = (x : Code) × Growing (meaning layout x)

  all_known : (ks : List Known) → Growing (in_turn (map (λ (p : Code × Action). p.1) (map (beside layout) (map (λ (k : Known). k.0) ks))))
  all_known [] m = grows_same m
  all_known (k ∷ ks) m = grows_on m (meaning layout k.0 m) _ (k.1 m) (all_known ks (meaning layout k.0 m))

  step_grows : (y : Code-F Known) → Growing (meaning_step layout (map-Code Code (Code × Action) (beside layout) (map-Code Known Code (λ (k : Known). k.0) y)))
  step_grows Code-F.Skip m = grows_same m
  step_grows (Code-F.Seq all) m = all_known all m
  step_grows (Code-F.Assign local value) m = grows_assign local (value_in m value) m
  step_grows (Code-F.When test k) m = grows_either (is_off (value_in m test)) m _ _ (grows_same m) (k.1 m)
  step_grows (Code-F.StepLoop var until lo hi stop k) m =
      step_turns_grow var until (λ n. value_in n stop) (meaning layout k.0) k.1 (value_in m hi) (span (value_in m lo) (value_in m hi)) (value_in m lo) m
  step_grows (Code-F.ForLoop var lo hi k) m = for_turns_grow var (meaning layout k.0) k.1 (span (value_in m lo) (value_in m hi)) (value_in m lo) m
  step_grows (Code-F.ParLoop from to lo hi ways k) m = par_loop_grows (declares k.0) (meaning layout k.0) k.1 from to lo hi m
  step_grows (Code-F.Update tensor at by value) m = grows_update tensor (map (value_in m) at) by (value_in m value) m
  step_grows (Code-F.Declare tensor) m = grows_declare layout tensor m
  step_grows (Code-F.Freeze tensor) m = grows_freeze tensor m
  step_grows (Code-F.Thaw tensor) m = grows_thaw layout tensor m
  step_grows (Code-F.Charge value) m = grows_charge (value_in m value) m

  pub meaning_grows : (x : Code) → Growing (meaning layout x)
  meaning_grows = ind-Code (λ x. Growing (meaning layout x)) (λ z y is m.
      subst (Grows m) (ap (λ (d : Code-F Code). meaning_step layout (map-Code Code (Code × Action) (beside layout) d) m) is ∙ sym (meaning_node layout z m)) (step_grows y m))

  pub all_grow : (all : List Code) → Growing (meaning_all layout all)
  all_grow [] m = grows_same m
  all_grow (x ∷ xs) m = grows_on m (meaning layout x m) _ (meaning_grows x m) (all_grow xs (meaning layout x m))
