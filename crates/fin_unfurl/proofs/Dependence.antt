-- What the looplet of a fibre owns, and what it depends on.
use Rattle.std.proofs.Common.{◌≡◌, ◌≢◌, ℕ, ◌+◌, [], ◌∷◌, sym, ap, ◌∙◌, inl, inr, ◌⊎◌, ⊎_elim, Bool, true, false, Some, None, Option, pos}
use Rattle.std.specs.Prelude.{if◌then◌else◌}
use Rattle.fin_base.specs.declared.terms.Op.TheVariants as op
use Rattle.fin_tensor.specs.declared.format.Level.{Level}
use Rattle.fin_tensor.specs.declared.format.Level.TheVariants as level
use Rattle.fin_ir.specs.declared.expression.Table.{Table}
use Rattle.fin_ir.specs.declared.expression.Table.TheVariants as table
use Rattle.fin_ir.specs.declared.expression.IExpr.{IExpr}
use Rattle.fin_ir.specs.declared.expression.IExpr.TheVariants.{Num, Local, Two, Pick}
use Rattle.fin_ir.proofs.Nodes.{of_cell, of_seek, of_pick, of_val}
use Rattle.fin_tensor.proofs.Pieces.{or_cases}
use Rattle.fin_looplet.specs.declared.looplet.Leaf.TheVariants.{Fill}
use Rattle.fin_looplet.specs.declared.looplet.Looplet.TheVariants.{Run, Sequence, Stepper, Switch}
use Rattle.fin_looplet.specs.declared.looplet.Case.{Case}
use Rattle.fin_looplet.specs.Names.{Names, names_step, LeafNames}
use Rattle.fin_looplet.specs.Locals.{Free, Owns}
use Rattle.fin_looplet.proofs.Exprs.{names_two, names_num, names_local}
use Rattle.fin_looplet.proofs.Bridges.{from_owns_phase, owns_no_phase, from_owns_stepper, from_owns_case, owns_no_case, from_free_phase, free_no_phase, from_free_stepper, from_free_case, free_no_case}
use Rattle.fin_unfurl.specs.declared.fibre.Fibre.{Fibre}
use Rattle.fin_unfurl.specs.Parts.{next, cell, begin, end, place, leaf, leaf_below}
use Rattle.fin_unfurl.specs.Walks.{filled, rest, has_places, list_stop, list_end, list_walker, list_walk, runs_walker, runs_walk, dense_walk, start, block_begin, block_end, block_place, block, band_walk, walk_of, is_there, guarded}

-- ---- its own locals

module _ (f : Fibre) (e : IExpr) (x : ℕ) where
  abbrev Own : Type 0
  Own = (x ≡ f.cursor) ⊎ (x ≡ f.cursor + 1)

  rest_owns : Owns x (Sequence (rest f ∷ [])) → ⊥
  rest_owns o = ⊎_elim (λ (h : ⊥). h) (λ (h : Owns x (Sequence [])). owns_no_phase x h) (from_owns_phase x (rest f) [] o)

  list_owns : Owns x (list_walk f e) → Own
  list_owns o =
      ⊎_elim
      (λ (h : Owns x (Stepper (list_walker f e))).
      ⊎_elim (λ (k : x ≡ f.cursor). inl k) (λ r. ⊎_elim (λ (k : x ≡ f.cursor + 1). inr k) (λ (k : ⊥). absurd k) r) (from_owns_stepper x (list_walker f e) h))
      (λ (h : Owns x (Sequence (rest f ∷ []))). absurd (rest_owns h))
      (from_owns_phase x (record { stop = list_end f e; child = Stepper (list_walker f e) }) (rest f ∷ []) o)

  walk_owns : (kind : Level) → Owns x (walk_of kind f e) → Own
  walk_owns level.Dense o = inr o
  walk_owns level.List o = list_owns o
  walk_owns level.Dict o = list_owns o
  walk_owns level.Runs o =
      ⊎_elim (λ (k : x ≡ f.cursor). inl k) (λ r. ⊎_elim (λ (k : x ≡ f.cursor + 1). inr k) (λ (k : ⊥). absurd k) r) (from_owns_stepper x (runs_walker f e) o)
  walk_owns level.Band o =
      ⊎_elim
      (λ (h : ⊥). absurd h)
      (λ (h : Owns x (Sequence (block f e ∷ rest f ∷ []))).
      ⊎_elim (λ (k : x ≡ f.cursor + 1). inr k) (λ (k : Owns x (Sequence (rest f ∷ []))). absurd (rest_owns k)) (from_owns_phase x (block f e) (rest f ∷ []) h))
      (from_owns_phase x (filled f (block_begin f e)) (block f e ∷ rest f ∷ []) o)

  pub guarded_owns : (kind : Level) (there : IExpr) → Owns x (guarded f there (walk_of kind f e)) → Own
  guarded_owns kind there =
      let walks : Case = record { test = there; child = walk_of kind f e } in
      let filling : Case = record { test = Num (pos 1); child = Run (Fill f.fill) } in
      elim (is_there there) as (λ b. Owns x (if b then walk_of kind f e else Switch (walks ∷ filling ∷ [])) → Own) [
        | true ↦ (λ o. walk_owns kind o)
        | false ↦ (λ o. ⊎_elim (λ (h : Owns x (walk_of kind f e)). walk_owns kind h)
            (λ (h : Owns x (Switch (filling ∷ []))). ⊎_elim (λ (k : ⊥). absurd k) (λ (k : Owns x (Switch [])). absurd (owns_no_case x k)) (from_owns_case x filling [] h))
            (from_owns_case x walks (filling ∷ []) o))
      ]

-- ---- the locals that it depends on

module _ (f : Fibre) (e : IExpr) (x : ℕ) where
  cell_names : (t : Table) (a : IExpr) → Names x (cell f t a) → Names x a
  cell_names t a h = ap (λ (g : ℕ → Bool). g x) (sym (of_cell (ℕ → Bool) names_step f.tensor f.level t a)) ∙ h

  next_names : (a : IExpr) → Names x (next a) → Names x a
  next_names a h = ⊎_elim (λ (k : Names x a). k) (λ (k : Names x (Num (pos 1))). absurd (names_num x (pos 1) k)) (names_two x op.Add a (Num (pos 1)) h)

  begin_names : Names x (begin f e) → Names x e
  begin_names h = cell_names table.Ptr e h

  end_names : Names x (end f e) → Names x e
  end_names h = next_names e (cell_names table.Ptr (next e) h)

  place_names : Names x (place f e) → Names x e ⊎ (x ≡ f.cursor + 1)
  place_names h =
      ⊎_elim (λ (k : Names x (begin f e)). inl (begin_names k))
      (λ r. ⊎_elim (λ (k : Names x (end f e)). inl (end_names k)) (λ (k : Names x (Local (f.cursor + 1))). inr (names_local x (f.cursor + 1) k)) (or_cases _ _ r))
      (or_cases _ _ (ap (λ (g : ℕ → Bool). g x) (sym (of_seek (ℕ → Bool) names_step f.tensor f.level (begin f e) (end f e) (Local (f.cursor + 1)))) ∙ h))

  pick_names : (a b c : IExpr) → Names x (Pick a b c) → Names x a ⊎ (Names x b ⊎ Names x c)
  pick_names a b c h =
      ⊎_elim (λ (k : Names x a). inl k)
      (λ r. ⊎_elim (λ (k : Names x b). inr (inl k)) (λ (k : Names x c). inr (inr k)) (or_cases _ _ r))
      (or_cases _ _ (ap (λ (g : ℕ → Bool). g x) (sym (of_pick (ℕ → Bool) names_step a b c)) ∙ h))

  places_names : Names x (has_places f e) → Names x e
  places_names h = ⊎_elim (λ (k : Names x (begin f e)). begin_names k) (λ (k : Names x (end f e)). end_names k) (names_two x op.Lt (begin f e) (end f e) h)

  leaf_names : (a : IExpr) → LeafNames x (leaf f a) → Names x a
  leaf_names a = of_below f.below
    where
      of_below : (b : Option ℕ) → LeafNames x (leaf_below f.tensor b a) → Names x a
      of_below None h = ap (λ (g : ℕ → Bool). g x) (sym (of_val (ℕ → Bool) names_step f.tensor a)) ∙ h
      of_below (Some k) h = ⊎_elim (λ (n : Names x a). n) (λ (n : Names x (Num (pos 1))). absurd (names_num x (pos 1) n)) h

  rest_free : Free x (Sequence (rest f ∷ [])) → ⊥
  rest_free h =
      ⊎_elim (λ (k : Names x (Num (pos f.extent))). names_num x (pos f.extent) k)
      (λ r. ⊎_elim (λ (k : ⊥). k) (λ (k : Free x (Sequence [])). free_no_phase x k) r) (from_free_phase x (rest f) [] h)

  -- a walker's stop and child name its cursor alone
  step_free : (a : IExpr) → (x ≢ f.cursor + 1) × Names x (place f e) → Names x e
  step_free a h = ⊎_elim (λ (k : Names x e). k) (λ (k : x ≡ f.cursor + 1). absurd (h.0 k)) (place_names h.1)

  list_stop_names : (a : IExpr) → Names x (list_stop f a) → Names x a
  list_stop_names a h = cell_names table.Idx a (next_names (cell f table.Idx a) h)

  list_free : Free x (list_walk f e) → Names x e
  list_free h =
      ⊎_elim
      (λ (k : Names x (list_end f e)).
      ⊎_elim (λ (n : Names x (has_places f e)). places_names n)
      (λ r. ⊎_elim
      (λ (n : Names x (list_stop f (Two op.Sub (end f e) (Num (pos 1))))).
      ⊎_elim (λ (m : Names x (end f e)). end_names m) (λ (m : Names x (Num (pos 1))). absurd (names_num x (pos 1) m))
      (names_two x op.Sub (end f e) (Num (pos 1)) (list_stop_names (Two op.Sub (end f e) (Num (pos 1))) n)))
      (λ (n : Names x (Num (pos 0))). absurd (names_num x (pos 0) n)) r)
      (pick_names (has_places f e) (list_stop f (Two op.Sub (end f e) (Num (pos 1)))) (Num (pos 0)) k))
      (λ r. ⊎_elim
      (λ (k : Free x (Stepper (list_walker f e))).
      ⊎_elim (λ (n : (x ≢ f.cursor + 1) × Names x (place f e)). step_free e n)
      (λ (n : (x ≢ f.cursor) × (Names x (list_stop f (Local f.cursor)) ⊎ (⊥ ⊎ LeafNames x (leaf f (Local f.cursor))))).
      ⊎_elim (λ (m : Names x (list_stop f (Local f.cursor))). absurd (n.0 (names_local x f.cursor (list_stop_names (Local f.cursor) m))))
      (λ s. ⊎_elim (λ (m : ⊥). absurd m) (λ (m : LeafNames x (leaf f (Local f.cursor))). absurd (n.0 (names_local x f.cursor (leaf_names (Local f.cursor) m)))) s) n.1)
      (from_free_stepper x (list_walker f e) k))
      (λ (k : Free x (Sequence (rest f ∷ []))). absurd (rest_free k)) r)
      (from_free_phase x (record { stop = list_end f e; child = Stepper (list_walker f e) }) (rest f ∷ []) h)

  runs_free : Free x (runs_walk f e) → Names x e
  runs_free h =
      ⊎_elim (λ (n : (x ≢ f.cursor + 1) × Names x (place f e)). step_free e n)
      (λ (n : (x ≢ f.cursor) × (Names x (cell f table.Stop (Local f.cursor)) ⊎ LeafNames x (leaf f (Local f.cursor)))).
      ⊎_elim (λ (m : Names x (cell f table.Stop (Local f.cursor))). absurd (n.0 (names_local x f.cursor (cell_names table.Stop (Local f.cursor) m))))
      (λ (m : LeafNames x (leaf f (Local f.cursor))). absurd (n.0 (names_local x f.cursor (leaf_names (Local f.cursor) m)))) n.1)
      (from_free_stepper x (runs_walker f e) h)

  dense_free : Free x (dense_walk f e) → Names x e
  dense_free h =
      let n = leaf_names (Two op.Add (Two op.Mul e (Num (pos f.extent))) (Local (f.cursor + 1))) h.1 in
      ⊎_elim
      (λ (k : Names x (Two op.Mul e (Num (pos f.extent)))). ⊎_elim (λ (m : Names x e). m) (λ (m : Names x (Num (pos f.extent))). absurd (names_num x (pos f.extent) m))
      (names_two x op.Mul e (Num (pos f.extent)) k))
      (λ (k : Names x (Local (f.cursor + 1))). absurd (h.0 (names_local x (f.cursor + 1) k)))
      (names_two x op.Add (Two op.Mul e (Num (pos f.extent))) (Local (f.cursor + 1)) n)

  first_names : Names x (block_begin f e) → Names x e
  first_names k =
      ⊎_elim (λ (n : Names x (has_places f e)). places_names n)
      (λ r. ⊎_elim (λ (n : Names x (start f e)). cell_names table.Start e n) (λ (n : Names x (Num (pos 0))). absurd (names_num x (pos 0) n)) r)
      (pick_names (has_places f e) (start f e) (Num (pos 0)) k)

  last_names : Names x (block_end f e) → Names x e
  last_names k =
      ⊎_elim (λ (n : Names x (block_begin f e)). first_names n)
      (λ (n : Names x (Two op.Sub (end f e) (begin f e))). ⊎_elim (λ (m : Names x (end f e)). end_names m) (λ (m : Names x (begin f e)). begin_names m) (names_two x op.Sub (end f e) (begin f e) n))
      (names_two x op.Add (block_begin f e) (Two op.Sub (end f e) (begin f e)) k)

  block_names : (x ≢ f.cursor + 1) → Names x (block_place f e) → Names x e
  block_names out k =
      ⊎_elim (λ (n : Names x (begin f e)). begin_names n)
      (λ (n : Names x (Two op.Sub (Local (f.cursor + 1)) (start f e))).
      ⊎_elim (λ (m : Names x (Local (f.cursor + 1))). absurd (out (names_local x (f.cursor + 1) m))) (λ (m : Names x (start f e)). cell_names table.Start e m)
      (names_two x op.Sub (Local (f.cursor + 1)) (start f e) n))
      (names_two x op.Add (begin f e) (Two op.Sub (Local (f.cursor + 1)) (start f e)) k)

  band_free : Free x (band_walk f e) → Names x e
  band_free h =
      ⊎_elim (λ (k : Names x (block_begin f e)). first_names k)
      (λ r. ⊎_elim (λ (k : ⊥). absurd k)
      (λ (k : Free x (Sequence (block f e ∷ rest f ∷ []))).
      ⊎_elim (λ (n : Names x (block_end f e)). last_names n)
      (λ s. ⊎_elim (λ (n : (x ≢ f.cursor + 1) × LeafNames x (leaf f (block_place f e))). block_names n.0 (leaf_names (block_place f e) n.1))
      (λ (n : Free x (Sequence (rest f ∷ []))). absurd (rest_free n)) s)
      (from_free_phase x (block f e) (rest f ∷ []) k)) r)
      (from_free_phase x (filled f (block_begin f e)) (block f e ∷ rest f ∷ []) h)

  walk_free : (kind : Level) → Free x (walk_of kind f e) → Names x e
  walk_free level.Dense h = dense_free h
  walk_free level.List h = list_free h
  walk_free level.Dict h = list_free h
  walk_free level.Runs h = runs_free h
  walk_free level.Band h = band_free h

  pub guarded_free : (kind : Level) (there : IExpr) → Free x (guarded f there (walk_of kind f e)) → Names x e ⊎ Names x there
  guarded_free kind there =
      let walks : Case = record { test = there; child = walk_of kind f e } in
      let filling : Case = record { test = Num (pos 1); child = Run (Fill f.fill) } in
      elim (is_there there) as (λ b. Free x (if b then walk_of kind f e else Switch (walks ∷ filling ∷ [])) → Names x e ⊎ Names x there) [
        | true ↦ (λ h. inl (walk_free kind h))
        | false ↦ (λ h. ⊎_elim (λ (k : Names x there). inr k)
            (λ r. ⊎_elim (λ (k : Free x (walk_of kind f e)). inl (walk_free kind k))
            (λ (k : Free x (Switch (filling ∷ []))).
            ⊎_elim (λ (n : Names x (Num (pos 1))). absurd (names_num x (pos 1) n)) (λ s. ⊎_elim (λ (n : ⊥). absurd n) (λ (n : Free x (Switch [])). absurd (free_no_case x n)) s)
            (from_free_case x filling [] k)) r)
            (from_free_case x walks (filling ∷ []) h))
      ]
