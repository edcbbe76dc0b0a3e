-- Code that asks nothing of tensors is regular.
use Rattle.std.proofs.Common.{◌≡◌, ℕ, zero, suc, Bool, true, false, List, [], ◌∷◌, map, refl, sym, ap, subst, ◌∙◌, ℤ, pos, ◌+ℤ◌}
use Rattle.std.specs.Prelude.{int_lt, if◌then◌else◌}
use Rattle.std.specs.List.{list_all}
use Rattle.std.proofs.lemmas.Bool.{and_parts}
use Rattle.fin_ir.specs.declared.code.Code.{Code, ind-Code, map-Code, fold-roll-Code}
use Rattle.fin_ir.specs.declared.code.Code.TheOpen.{Code-F}
use Rattle.fin_ir.specs.declared.layout.Layout.{Layout}
use Rattle.fin_ir.specs.Machine.{Machine, live, refused, assign, charge, count_turn}
use Rattle.fin_ir.specs.Value.{value_in, is_off}
use Rattle.fin_ir.specs.Declares.{declares}
use Rattle.fin_ir.specs.Meaning.{Action, in_turn, next_of, step_turn, step_turns, span, for_turn, for_turns, opened, chunk, chunks, chunk_locals, chunks_of, in_chunks, is_range, par_loop, meaning_step, meaning}
use Rattle.fin_code_test.specs.Asking.{asks_nothing_step, asks_nothing}
use Rattle.fin_ir.proofs.Codes.{beside, meaning_node}

-- whether a run is regular so far stays
abbrev pub Keeps : Action → Type 0
Keeps f = (m : Machine) → (f m).regular ≡ m.regular

kept_live : (m n : Machine) → n.regular ≡ m.regular → (live m n).regular ≡ m.regular
kept_live m n e = elim m.cut as (λ b. (if b then m else n).regular ≡ m.regular) [ true ↦ refl | false ↦ e ]

kept_either : (b : Bool) (m n n' : Machine) → n.regular ≡ m.regular → n'.regular ≡ m.regular → (if b then n else n').regular ≡ m.regular
kept_either true m n n' e f = e
kept_either false m n n' e f = f

keeps_assign : (local : ℕ) (v : ℤ) → Keeps (assign local v)
keeps_assign local v m = kept_live m _ refl

keeps_charge : (v : ℤ) → Keeps (charge v)
keeps_charge v m = kept_live m _ refl

keeps_count : Keeps count_turn
keeps_count m = kept_live m _ refl

module _ (var until : ℕ) (stop : Machine → ℤ) (body : Action) (g : Keeps body) (hi : ℤ) where
  step_turns_keep : (fuel : ℕ) (at : ℤ) → Keeps (step_turns var until stop body hi fuel at)
  step_turns_keep zero at m = refl
  step_turns_keep (suc fuel) at m =
      let next = next_of var stop hi at m in
      let begun = assign until next (assign var at m) in
      let after = step_turn var until body hi at next m in
      let turned : after.regular ≡ m.regular =
      kept_either (int_lt next hi) (body begun) (count_turn (body begun)) (body begun) (keeps_count (body begun)) refl ∙ g begun ∙ keeps_assign until next (assign var at m) ∙ keeps_assign var at m in
      kept_either (int_lt at hi) m _ _ (step_turns_keep fuel next after ∙ turned) refl

module _ (var : ℕ) (body : Action) (g : Keeps body) where
  for_turns_keep : (fuel : ℕ) (at : ℤ) → Keeps (for_turns var body fuel at)
  for_turns_keep zero at m = refl
  for_turns_keep (suc fuel) at m =
      let begun = assign var at m in
      for_turns_keep fuel (at +ℤ pos 1) (for_turn var body at m) ∙ keeps_count (body begun) ∙ g begun ∙ keeps_assign var at m

module _ (own : ℕ → Bool) (body : Action) (g : Keeps body) where
  chunks_keep : (all : List (List ℤ)) → Keeps (chunks own body all)
  chunks_keep [] m = refl
  chunks_keep (ls ∷ rest) m = chunks_keep rest (chunk own body ls m) ∙ g (opened own ls m)

  par_loop_keeps : (from to lo hi : ℕ) → is_range lo hi ≡ true → Keeps (par_loop own body from to lo hi)
  par_loop_keeps from to lo hi r m =
      let runs = ap (λ (b : Bool). (if b then in_chunks own body from to lo hi m else refused m).regular) r in
      kept_live m _ (runs ∙ chunks_keep (map (chunk_locals from to m.locals) (chunks_of lo hi)) m)

module _ (layout : Layout) where
  abbrev IsKept : Code → Type 0
  IsKept x = asks_nothing x ≡ true → Keeps (meaning layout x)

  abbrev Known : Type 0
  Known = (x : Code) × IsKept x

  all_known : (ks : List Known) → list_all (λ b. b) (map asks_nothing (map (λ (k : Known). k.0) ks)) ≡ true → Keeps (in_turn (map (λ (p : Code × Action). p.1) (map (beside layout) (map (λ (k : Known). k.0) ks))))
  all_known [] e m = refl
  all_known (k ∷ ks) e m =
      let p = and_parts (asks_nothing k.0) (list_all (λ b. b) (map asks_nothing (map (λ (k : Known). k.0) ks))) e in
      all_known ks p.1 (meaning layout k.0 m) ∙ k.1 p.0 m

  step_keeps : (y : Code-F Known) → asks_nothing_step (map-Code Code Bool asks_nothing (map-Code Known Code (λ (k : Known). k.0) y)) ≡ true → Keeps (meaning_step layout (map-Code Code (Code × Action) (beside layout) (map-Code Known Code (λ (k : Known). k.0) y)))
  step_keeps Code-F.Skip e m = refl
  step_keeps (Code-F.Seq all) e m = all_known all e m
  step_keeps (Code-F.Assign local value) e m = keeps_assign local (value_in m value) m
  step_keeps (Code-F.When test k) e m = kept_either (is_off (value_in m test)) m m (meaning layout k.0 m) refl (k.1 e m)
  step_keeps (Code-F.StepLoop var until lo hi stop k) e m =
      step_turns_keep var until (λ n. value_in n stop) (meaning layout k.0) (k.1 e) (value_in m hi) (span (value_in m lo) (value_in m hi)) (value_in m lo) m
  step_keeps (Code-F.ForLoop var lo hi k) e m = for_turns_keep var (meaning layout k.0) (k.1 e) (span (value_in m lo) (value_in m hi)) (value_in m lo) m
  step_keeps (Code-F.ParLoop from to lo hi ways k) e m =
      let p = and_parts (is_range lo hi) (asks_nothing k.0) e in
      par_loop_keeps (declares k.0) (meaning layout k.0) (k.1 p.1) from to lo hi p.0 m
  step_keeps (Code-F.Update tensor at by value) e m = cc
  step_keeps (Code-F.Declare tensor) e m = cc
  step_keeps (Code-F.Freeze tensor) e m = cc
  step_keeps (Code-F.Thaw tensor) e m = cc
  step_keeps (Code-F.Charge value) e m = keeps_charge (value_in m value) m

  pub asks_nothing_keeps : (x : Code) → asks_nothing x ≡ true → Keeps (meaning layout x)
  asks_nothing_keeps = ind-Code IsKept (λ z y is e m.
      let asked : asks_nothing_step (map-Code Code Bool asks_nothing (map-Code Known Code (λ (k : Known). k.0) y)) ≡ true =
      ap (λ (d : Code-F Code). asks_nothing_step (map-Code Code Bool asks_nothing d)) is ∙ sym (fold-roll-Code Bool asks_nothing_step z) ∙ e in
      subst (λ (n : Machine). n.regular ≡ m.regular) (ap (λ (d : Code-F Code). meaning_step layout (map-Code Code (Code × Action) (beside layout) d) m) is ∙ sym (meaning_node layout z m)) (step_keeps y asked m))
