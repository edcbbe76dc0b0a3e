-- Which tensors the looplets load from, which locals their shifts name, and that no child of a walker owns the walker's
-- locals.
use Rattle.std.proofs.Common.{◌≡◌, ℕ, ◌+◌, ◌^◌, [], ◌∷◌, sym, ap, ◌∙◌, inl, inr, ◌⊎◌, ⊎_elim, Bool, true, false, Some, None, Option, ℤ, pos, negsuc, arith}
use Rattle.std.specs.Prelude.{if◌then◌else◌, nat_eq, slice_index_or}
use Rattle.std.proofs.lemmas.Bool.Decides.{nat_tests}
use Rattle.fin_base.specs.declared.terms.Op.{Op}
use Rattle.fin_base.specs.declared.terms.Op.TheVariants as op
use Rattle.fin_tensor.specs.declared.format.Level.{Level}
use Rattle.fin_tensor.specs.declared.format.Level.TheVariants as level
use Rattle.fin_tensor.proofs.Pieces.{or_cases}
use Rattle.fin_ir.specs.declared.expression.Table.{Table}
use Rattle.fin_ir.specs.declared.expression.Table.TheVariants as table
use Rattle.fin_ir.specs.declared.expression.IExpr.{IExpr}
use Rattle.fin_ir.specs.declared.expression.IExpr.TheVariants.{Num, Local, Two, Pick}
use Rattle.fin_ir.proofs.Nodes.{of_cell, of_seek, of_pick, of_val}
use Rattle.fin_looplet.specs.declared.looplet.Looplet.{Looplet}
use Rattle.fin_looplet.specs.declared.looplet.Looplet.TheVariants.{Run, Sequence, Stepper, Switch, Shift}
use Rattle.fin_looplet.specs.declared.looplet.Leaf.TheVariants.{Fill}
use Rattle.fin_looplet.specs.declared.looplet.Case.{Case}
use Rattle.fin_looplet.specs.declared.looplet.Phase.{Phase}
use Rattle.fin_looplet.specs.Names.{Names, Loads, loads_step, LeafLoads}
use Rattle.fin_looplet.specs.Locals.{LoadsIn, ShiftNames, Nested}
use Rattle.fin_looplet.proofs.Exprs.{loads_two, loads_num, loads_local}
use Rattle.fin_looplet.proofs.Bridges.{nested_no_phase, nested_phase, nested_stepper, nested_no_case, nested_case, nested_shift, from_shift_names_phase, shift_names_no_phase, from_shift_names_stepper, from_shift_names_case, shift_names_no_case, from_shift_names_shift, from_loads_phase, loads_no_phase, from_loads_stepper, from_loads_case, loads_no_case, from_loads_shift}
use Rattle.fin_unfurl.specs.declared.fibre.Fibre.{Fibre}
use Rattle.fin_unfurl.specs.Parts.{next, cell, begin, end, place, leaf, leaf_below}
use Rattle.fin_unfurl.specs.Walks.{filled, rest, has_places, list_stop, list_end, list_walker, list_walk, runs_walker, runs_walk, dense_walk, start, block_begin, block_end, block_place, block, band_walk, walk_of, is_there, guarded, fibre_of, unfurl_of}
use Rattle.fin_unfurl.specs.Fibres.{Asked}
use Rattle.fin_unfurl.specs.Shifts.{near, outside, boxed, shift_of}
use Rattle.fin_unfurl.specs.Masks.{holds_before, holds_at, holds_behind, bounded, known, mask_of}

-- ---- three phases, as of bands, boxes and comparisons

module _ (a b c : Phase) where
  pub three_nested : Nested a.child → Nested b.child → Nested c.child → Nested (Sequence (a ∷ b ∷ c ∷ []))
  three_nested f g h = nested_phase a (b ∷ c ∷ []) f (nested_phase b (c ∷ []) g (nested_phase c [] h nested_no_phase))

  pub three_shifts : (x : ℕ) → ShiftNames x (Sequence (a ∷ b ∷ c ∷ [])) → ShiftNames x a.child ⊎ (ShiftNames x b.child ⊎ ShiftNames x c.child)
  three_shifts x h =
      ⊎_elim (λ (k : ShiftNames x a.child). inl k)
      (λ r. ⊎_elim (λ (k : ShiftNames x b.child). inr (inl k))
      (λ s. ⊎_elim (λ (k : ShiftNames x c.child). inr (inr k)) (λ (k : ShiftNames x (Sequence [])). absurd (shift_names_no_phase x k)) (from_shift_names_phase x c [] s))
      (from_shift_names_phase x b (c ∷ []) r))
      (from_shift_names_phase x a (b ∷ c ∷ []) h)

  abbrev pub StopsOrChildren : ℕ → Type 0
  StopsOrChildren t = (Loads t a.stop ⊎ (Loads t b.stop ⊎ Loads t c.stop)) ⊎ (LoadsIn t a.child ⊎ (LoadsIn t b.child ⊎ LoadsIn t c.child))

  pub three_loads : (t : ℕ) → LoadsIn t (Sequence (a ∷ b ∷ c ∷ [])) → StopsOrChildren t
  three_loads t h = first (from_loads_phase t a (b ∷ c ∷ []) h) where
    third : Loads t c.stop ⊎ (LoadsIn t c.child ⊎ LoadsIn t (Sequence [])) → StopsOrChildren t
    third (inl k) = inl (inr (inr k))
    third (inr (inl k)) = inr (inr (inr k))
    third (inr (inr k)) = absurd (loads_no_phase t k)

    second : Loads t b.stop ⊎ (LoadsIn t b.child ⊎ LoadsIn t (Sequence (c ∷ []))) → StopsOrChildren t
    second (inl k) = inl (inr (inl k))
    second (inr (inl k)) = inr (inr (inl k))
    second (inr (inr k)) = third (from_loads_phase t c [] k)

    first : Loads t a.stop ⊎ (LoadsIn t a.child ⊎ LoadsIn t (Sequence (b ∷ c ∷ []))) → StopsOrChildren t
    first (inl k) = inl (inl k)
    first (inr (inl k)) = inr (inl k)
    first (inr (inr k)) = second (from_loads_phase t b (c ∷ []) k)

-- ---- walks

module _ (f : Fibre) (e : IExpr) where
  list_nested : Nested (list_walk f e)
  list_nested =
      nested_phase (record { stop = list_end f e; child = Stepper (list_walker f e) }) (rest f ∷ []) (nested_stepper (list_walker f e) (λ h. h) (λ h. h) tt)
      (nested_phase (rest f) [] tt nested_no_phase)

  walk_nested : (kind : Level) → Nested (walk_of kind f e)
  walk_nested level.Dense = tt
  walk_nested level.List = list_nested
  walk_nested level.Dict = list_nested
  walk_nested level.Runs = nested_stepper (runs_walker f e) (λ h. h) (λ h. h) tt
  walk_nested level.Band = three_nested (filled f (block_begin f e)) (block f e) (rest f) tt tt tt

  module _ (x : ℕ) where
    list_shifts : ShiftNames x (list_walk f e) → ⊥
    list_shifts h =
        ⊎_elim (λ (k : ShiftNames x (Stepper (list_walker f e))). from_shift_names_stepper x (list_walker f e) k)
        (λ r. ⊎_elim (λ (k : ⊥). k) (λ (k : ShiftNames x (Sequence [])). shift_names_no_phase x k) (from_shift_names_phase x (rest f) [] r))
        (from_shift_names_phase x (record { stop = list_end f e; child = Stepper (list_walker f e) }) (rest f ∷ []) h)

    walk_shifts : (kind : Level) → ShiftNames x (walk_of kind f e) → ⊥
    walk_shifts level.Dense h = h
    walk_shifts level.List h = list_shifts h
    walk_shifts level.Dict h = list_shifts h
    walk_shifts level.Runs h = from_shift_names_stepper x (runs_walker f e) h
    walk_shifts level.Band h = ⊎_elim (λ (k : ⊥). k) (λ r. ⊎_elim (λ (k : ⊥). k) (λ (k : ⊥). k) r) (three_shifts (filled f (block_begin f e)) (block f e) (rest f) x h)

  -- ---- what they load from

  module _ (t : ℕ) where
    abbrev Own : IExpr → Type 0
    Own a = (t ≡ f.tensor) ⊎ Loads t a

    tensor_is : nat_eq t f.tensor ≡ true → t ≡ f.tensor
    tensor_is h = grind (arith, nat_tests)

    cell_loads : (k : Table) (a : IExpr) → Loads t (cell f k a) → Own a
    cell_loads k a h =
        ⊎_elim (λ (q : nat_eq t f.tensor ≡ true). inl (tensor_is q)) (λ (q : Loads t a). inr q)
        (or_cases _ _ (ap (λ (g : ℕ → Bool). g t) (sym (of_cell (ℕ → Bool) loads_step f.tensor f.level k a)) ∙ h))

    next_loads : (a : IExpr) → Loads t (next a) → Loads t a
    next_loads a h = ⊎_elim (λ (k : Loads t a). k) (λ (k : Loads t (Num (pos 1))). absurd (loads_num t (pos 1) k)) (loads_two t op.Add a (Num (pos 1)) h)

    begin_loads : Loads t (begin f e) → Own e
    begin_loads h = cell_loads table.Ptr e h

    end_loads : Loads t (end f e) → Own e
    end_loads h = ⊎_elim (λ (k : t ≡ f.tensor). inl k) (λ (k : Loads t (next e)). inr (next_loads e k)) (cell_loads table.Ptr (next e) h)

    either : (o : Op) (a b : IExpr) → (Loads t a → Own e) → (Loads t b → Own e) → Loads t (Two o a b) → Own e
    either o a b g k h = ⊎_elim (λ (x : Loads t a). g x) (λ (x : Loads t b). k x) (loads_two t o a b h)

    number : (z : ℤ) → Loads t (Num z) → Own e
    number z h = absurd (loads_num t z h)

    local : (x : ℕ) → Loads t (Local x) → Own e
    local x h = absurd (loads_local t x h)

    place_loads : Loads t (place f e) → Own e
    place_loads h =
        ⊎_elim (λ (q : nat_eq t f.tensor ≡ true). inl (tensor_is q))
        (λ r. ⊎_elim (λ (k : Loads t (begin f e)). begin_loads k)
        (λ s. ⊎_elim (λ (k : Loads t (end f e)). end_loads k) (λ (k : Loads t (Local (f.cursor + 1))). local (f.cursor + 1) k) (or_cases _ _ s))
        (or_cases _ _ r))
        (or_cases _ _ (ap (λ (g : ℕ → Bool). g t) (sym (of_seek (ℕ → Bool) loads_step f.tensor f.level (begin f e) (end f e) (Local (f.cursor + 1)))) ∙ h))

    pick_loads : (a b c : IExpr) → (Loads t a → Own e) → (Loads t b → Own e) → (Loads t c → Own e) → Loads t (Pick a b c) → Own e
    pick_loads a b c g k l h =
        ⊎_elim (λ (x : Loads t a). g x)
        (λ r. ⊎_elim (λ (x : Loads t b). k x) (λ (x : Loads t c). l x) (or_cases _ _ r))
        (or_cases _ _ (ap (λ (m : ℕ → Bool). m t) (sym (of_pick (ℕ → Bool) loads_step a b c)) ∙ h))

    leaf_loads : (a : IExpr) → (Loads t a → Own e) → LeafLoads t (leaf f a) → Own e
    leaf_loads a g = of_below f.below
      where
        of_below : (b : Option ℕ) → LeafLoads t (leaf_below f.tensor b a) → Own e
        of_below None h =
            ⊎_elim (λ (q : nat_eq t f.tensor ≡ true). inl (tensor_is q)) (λ (q : Loads t a). g q)
            (or_cases _ _ (ap (λ (m : ℕ → Bool). m t) (sym (of_val (ℕ → Bool) loads_step f.tensor a)) ∙ h))
        of_below (Some k) h = ⊎_elim (λ (n : Loads t a). g n) (λ (n : Loads t (Num (pos 1))). number (pos 1) n) h

    places_loads : Loads t (has_places f e) → Own e
    places_loads = either op.Lt (begin f e) (end f e) begin_loads end_loads

    stop_loads : (a : IExpr) → (Loads t a → Own e) → Loads t (list_stop f a) → Own e
    stop_loads a g h = ⊎_elim (λ (k : t ≡ f.tensor). inl k) (λ (k : Loads t a). g k) (cell_loads table.Idx a (next_loads (cell f table.Idx a) h))

    last_loads : Loads t (list_end f e) → Own e
    last_loads =
        pick_loads (has_places f e) (list_stop f (Two op.Sub (end f e) (Num (pos 1)))) (Num (pos 0)) places_loads
        (stop_loads (Two op.Sub (end f e) (Num (pos 1))) (either op.Sub (end f e) (Num (pos 1)) end_loads (number (pos 1)))) (number (pos 0))

    first_loads : Loads t (block_begin f e) → Own e
    first_loads = pick_loads (has_places f e) (start f e) (Num (pos 0)) places_loads (cell_loads table.Start e) (number (pos 0))

    list_walker_loads : LoadsIn t (Stepper (list_walker f e)) → Own e
    list_walker_loads h =
        ⊎_elim (λ (k : Loads t (place f e)). place_loads k)
        (λ r. ⊎_elim (λ (k : Loads t (list_stop f (Local f.cursor))). stop_loads (Local f.cursor) (local f.cursor) k)
        (λ s. ⊎_elim (λ (k : ⊥). absurd k) (λ (k : LeafLoads t (leaf f (Local f.cursor))). leaf_loads (Local f.cursor) (local f.cursor) k) s) r)
        (from_loads_stepper t (list_walker f e) h)

    rest_loads : LoadsIn t (Sequence (rest f ∷ [])) → Own e
    rest_loads h =
        ⊎_elim (λ (k : Loads t (Num (pos f.extent))). number (pos f.extent) k)
        (λ r. ⊎_elim (λ (k : ⊥). absurd k) (λ (k : LoadsIn t (Sequence [])). absurd (loads_no_phase t k)) r) (from_loads_phase t (rest f) [] h)

    list_loads : LoadsIn t (list_walk f e) → Own e
    list_loads h =
        ⊎_elim (λ (k : Loads t (list_end f e)). last_loads k)
        (λ r. ⊎_elim (λ (k : LoadsIn t (Stepper (list_walker f e))). list_walker_loads k) (λ (k : LoadsIn t (Sequence (rest f ∷ []))). rest_loads k) r)
        (from_loads_phase t (record { stop = list_end f e; child = Stepper (list_walker f e) }) (rest f ∷ []) h)

    runs_loads : LoadsIn t (runs_walk f e) → Own e
    runs_loads h =
        ⊎_elim (λ (k : Loads t (place f e)). place_loads k)
        (λ r. ⊎_elim
        (λ (k : Loads t (cell f table.Stop (Local f.cursor))). ⊎_elim (λ (q : t ≡ f.tensor). inl q) (λ (q : Loads t (Local f.cursor)). local f.cursor q) (cell_loads table.Stop (Local f.cursor) k))
        (λ (k : LeafLoads t (leaf f (Local f.cursor))). leaf_loads (Local f.cursor) (local f.cursor) k) r)
        (from_loads_stepper t (runs_walker f e) h)

    dense_loads : LoadsIn t (dense_walk f e) → Own e
    dense_loads h =
        let row = Two op.Mul e (Num (pos f.extent)) in
        leaf_loads (Two op.Add row (Local (f.cursor + 1)))
        (either op.Add row (Local (f.cursor + 1)) (either op.Mul e (Num (pos f.extent)) (λ k. inr k) (number (pos f.extent))) (local (f.cursor + 1))) h

    block_loads : LeafLoads t (leaf f (block_place f e)) → Own e
    block_loads =
        let behind = Two op.Sub (Local (f.cursor + 1)) (start f e) in
        leaf_loads (block_place f e) (either op.Add (begin f e) behind begin_loads (either op.Sub (Local (f.cursor + 1)) (start f e) (local (f.cursor + 1)) (cell_loads table.Start e)))

    block_end_loads : Loads t (block_end f e) → Own e
    block_end_loads = either op.Add (block_begin f e) (Two op.Sub (end f e) (begin f e)) first_loads (either op.Sub (end f e) (begin f e) end_loads begin_loads)

    band_loads : LoadsIn t (band_walk f e) → Own e
    band_loads h = of_three (three_loads (filled f (block_begin f e)) (block f e) (rest f) t h) where
      of_three : StopsOrChildren (filled f (block_begin f e)) (block f e) (rest f) t → Own e
      of_three (inl (inl k)) = first_loads k
      of_three (inl (inr (inl k))) = block_end_loads k
      of_three (inl (inr (inr k))) = number (pos f.extent) k
      of_three (inr (inl k)) = absurd k
      of_three (inr (inr (inl k))) = block_loads k
      of_three (inr (inr (inr k))) = absurd k

    walk_loads : (kind : Level) → LoadsIn t (walk_of kind f e) → Own e
    walk_loads level.Dense h = dense_loads h
    walk_loads level.List h = list_loads h
    walk_loads level.Dict h = list_loads h
    walk_loads level.Runs h = runs_loads h
    walk_loads level.Band h = band_loads h

-- ---- a walk or the fill

module _ (f : Fibre) (e there : IExpr) (kind : Level) where
  abbrev walks : Case
  walks = record { test = there; child = walk_of kind f e }

  abbrev filling : Case
  filling = record { test = Num (pos 1); child = Run (Fill f.fill) }

  guarded_nested : Nested (guarded f there (walk_of kind f e))
  guarded_nested = elim (is_there there) as (λ b. Nested (if b then walk_of kind f e else Switch (walks ∷ filling ∷ []))) [
    | true ↦ walk_nested f e kind
    | false ↦ nested_case walks (filling ∷ []) (walk_nested f e kind) (nested_case filling [] tt nested_no_case)
  ]

  guarded_shifts : (x : ℕ) → ShiftNames x (guarded f there (walk_of kind f e)) → ⊥
  guarded_shifts x = elim (is_there there) as (λ b. ShiftNames x (if b then walk_of kind f e else Switch (walks ∷ filling ∷ [])) → ⊥) [
    | true ↦ (λ h. walk_shifts f e x kind h)
    | false ↦ (λ h. ⊎_elim (λ (k : ShiftNames x (walk_of kind f e)). walk_shifts f e x kind k)
        (λ (k : ShiftNames x (Switch (filling ∷ []))). ⊎_elim (λ (n : ⊥). n) (λ (n : ShiftNames x (Switch [])). shift_names_no_case x n) (from_shift_names_case x filling [] k))
        (from_shift_names_case x walks (filling ∷ []) h))
  ]

  guarded_loads : (t : ℕ) → LoadsIn t (guarded f there (walk_of kind f e)) → (t ≡ f.tensor) ⊎ (Loads t e ⊎ Loads t there)
  guarded_loads t = elim (is_there there) as (λ b. LoadsIn t (if b then walk_of kind f e else Switch (walks ∷ filling ∷ [])) → (t ≡ f.tensor) ⊎ (Loads t e ⊎ Loads t there)) [
    | true ↦ (λ h. widened (walk_loads f e t kind h))
    | false ↦ (λ h. ⊎_elim (λ (k : Loads t there). inr (inr k))
        (λ r. ⊎_elim (λ (k : LoadsIn t (walk_of kind f e)). widened (walk_loads f e t kind k))
        (λ (k : LoadsIn t (Switch (filling ∷ []))).
        ⊎_elim (λ (n : Loads t (Num (pos 1))). absurd (loads_num t (pos 1) n)) (λ s. ⊎_elim (λ (n : ⊥). absurd n) (λ (n : LoadsIn t (Switch [])). absurd (loads_no_case t n)) s)
        (from_loads_case t filling [] k)) r)
        (from_loads_case t walks (filling ∷ []) h))
  ]
    where
      widened : (t ≡ f.tensor) ⊎ Loads t e → (t ≡ f.tensor) ⊎ (Loads t e ⊎ Loads t there)
      widened (inl q) = inl q
      widened (inr q) = inr (inl q)

module _ (a : Asked) where
  pub unfurl_nested : Nested (unfurl_of a)
  unfolding unfurl_of
  unfurl_nested = guarded_nested (fibre_of a) a.place a.there (slice_index_or a.format.levels a.level level.Dense)

  pub unfurl_shifts : (x : ℕ) → ShiftNames x (unfurl_of a) → ⊥
  unfolding unfurl_of
  unfurl_shifts x h = guarded_shifts (fibre_of a) a.place a.there (slice_index_or a.format.levels a.level level.Dense) x h

  pub unfurl_loads : (t : ℕ) → LoadsIn t (unfurl_of a) → (t ≡ a.tensor) ⊎ (Loads t a.place ⊎ Loads t a.there)
  unfolding unfurl_of
  unfurl_loads t h = guarded_loads (fibre_of a) a.place a.there (slice_index_or a.format.levels a.level level.Dense) t h

-- ---- shifts

module _ (child : Looplet) (by : IExpr) where
  pub shift_nested : (edge : Option (ℕ × ℤ)) → Nested child → Nested (shift_of child by edge)
  shift_nested None h = nested_shift by child h
  shift_nested (Some e) h = three_nested (outside e.1 by) (boxed child by e.0) (outside e.1 (Num (pos (2 ^ 40)))) tt (nested_shift by child h) tt

  pub shift_shifts : (edge : Option (ℕ × ℤ)) (x : ℕ) → ShiftNames x (shift_of child by edge) → Names x by ⊎ ShiftNames x child
  shift_shifts None x h = from_shift_names_shift x by child h
  shift_shifts (Some e) x h = of_three (three_shifts (outside e.1 by) (boxed child by e.0) (outside e.1 (Num (pos (2 ^ 40)))) x h) where
    of_three : ⊥ ⊎ (ShiftNames x (Shift by child) ⊎ ⊥) → Names x by ⊎ ShiftNames x child
    of_three (inl k) = absurd k
    of_three (inr (inl k)) = from_shift_names_shift x by child k
    of_three (inr (inr k)) = absurd k

  near_loads : (t : ℕ) → Loads t (near by) → Loads t by
  near_loads t h =
      ⊎_elim
      (λ (k : Loads t (Two op.Min by (Num (pos (2 ^ 40))))). ⊎_elim (λ (j : Loads t by). j) (λ (j : Loads t (Num (pos (2 ^ 40)))). absurd (loads_num t (pos (2 ^ 40)) j))
      (loads_two t op.Min by (Num (pos (2 ^ 40))) k))
      (λ (k : Loads t (Num (negsuc (2 ^ 41)))). absurd (loads_num t (negsuc (2 ^ 41)) k))
      (loads_two t op.Max (Two op.Min by (Num (pos (2 ^ 40)))) (Num (negsuc (2 ^ 41))) h)

  pub shift_loads : (edge : Option (ℕ × ℤ)) (t : ℕ) → LoadsIn t (shift_of child by edge) → Loads t by ⊎ LoadsIn t child
  shift_loads None t h = from_loads_shift t by child h
  shift_loads (Some e) t h = of_three (three_loads (outside e.1 by) (boxed child by e.0) (outside e.1 (Num (pos (2 ^ 40)))) t h) where
    of_three : StopsOrChildren (outside e.1 by) (boxed child by e.0) (outside e.1 (Num (pos (2 ^ 40)))) t → Loads t by ⊎ LoadsIn t child
    of_three (inl (inl k)) = inl k
    of_three (inl (inr (inl k))) = ⊎_elim (λ (j : Loads t (near by)). inl (near_loads t j)) (λ (j : Loads t (Num (pos e.0))). absurd (loads_num t (pos e.0) j))
        (loads_two t op.Add (near by) (Num (pos e.0)) k)
    of_three (inl (inr (inr k))) = absurd (loads_num t (pos (2 ^ 40)) k)
    of_three (inr (inl k)) = absurd k
    of_three (inr (inr (inl k))) = from_loads_shift t by child k
    of_three (inr (inr (inr k))) = absurd k

-- ---- comparisons

module _ (o : Op) (b : IExpr) where
  abbrev first : Phase
  first = known (holds_before o) (bounded b)

  abbrev second : Phase
  second = known (holds_at o) (next (bounded b))

  abbrev third : Phase
  third = known (holds_behind o) (Num (pos (2 ^ 40)))

  pub mask_nested : Nested (mask_of o b)
  mask_nested = three_nested first second third tt tt tt

  pub mask_shifts : (x : ℕ) → ShiftNames x (mask_of o b) → ⊥
  mask_shifts x h = ⊎_elim (λ (k : ⊥). k) (λ r. ⊎_elim (λ (k : ⊥). k) (λ (k : ⊥). k) r) (three_shifts first second third x h)

  module _ (t : ℕ) where
    bounded_loads : Loads t (bounded b) → Loads t b
    bounded_loads h =
        ⊎_elim
        (λ (k : Loads t (Two op.Min b (Num (pos (2 ^ 40))))). ⊎_elim (λ (j : Loads t b). j) (λ (j : Loads t (Num (pos (2 ^ 40)))). absurd (loads_num t (pos (2 ^ 40)) j))
        (loads_two t op.Min b (Num (pos (2 ^ 40))) k))
        (λ (k : Loads t (Num (negsuc 0))). absurd (loads_num t (negsuc 0) k))
        (loads_two t op.Max (Two op.Min b (Num (pos (2 ^ 40)))) (Num (negsuc 0)) h)

    behind_loads : Loads t (next (bounded b)) → Loads t b
    behind_loads h = ⊎_elim (λ (k : Loads t (bounded b)). bounded_loads k) (λ (k : Loads t (Num (pos 1))). absurd (loads_num t (pos 1) k)) (loads_two t op.Add (bounded b) (Num (pos 1)) h)

    pub mask_loads : LoadsIn t (mask_of o b) → Loads t b
    mask_loads h = of_three (three_loads first second third t h) where
      of_three : StopsOrChildren first second third t → Loads t b
      of_three (inl (inl k)) = bounded_loads k
      of_three (inl (inr (inl k))) = behind_loads k
      of_three (inl (inr (inr k))) = absurd (loads_num t (pos (2 ^ 40)) k)
      of_three (inr (inl k)) = absurd (loads_num t _ k)
      of_three (inr (inr (inl k))) = absurd (loads_num t _ k)
      of_three (inr (inr (inr k))) = absurd (loads_num t _ k)
