-- What codes declare: codes that spare a tensor don't declare it, and a filled frame declares what it or a code in it does.
use Rattle.std.proofs.Common.{◌≡◌, ℕ, Bool, true, false, List, [], ◌∷◌, map, refl, sym, ap, subst, ◌∙◌, arith}
use Rattle.std.specs.Prelude.{not, nat_eq}
use Rattle.std.proofs.lemmas.Bool.Decides.{nat_tests}
use Rattle.fin_ir.specs.declared.code.Code.{Code, map-Code, roll-Code, fold-roll-Code}
use Rattle.fin_ir.specs.declared.code.Code.TheOpen.{Code-F}
use Rattle.fin_ir.specs.declared.code.Code.TheVariants.{Skip, Seq}
use Rattle.fin_ir.specs.Declares.{Tensors, some_of, declares_step, declares}
use Rattle.fin_ir.proofs.Nodes.{of_skip, of_seq, of_assign, of_when, of_step_loop, of_for_loop, of_par_loop, of_update, of_declare, of_freeze, of_thaw, of_charge}
use Rattle.fin_nest.specs.Frames.{Filling, fill_each, next_code, filling_step, filling, fill}
use Rattle.fin_nest.specs.Sparing.{Staying, all_spare, spare_step, spares}
use Rattle.fin_descend.proofs.Sparing.{left, right, Held, bare, plain, by_nodes}
use Rattle.fin_perform.proofs.Spared.{neither, first_not, second_not}

declared_node : (u : Code-F Code) → declares (roll-Code u) ≡ declares_step (map-Code Code Tensors declares u)
declared_node u = fold-roll-Code Tensors declares_step u

-- one behind another
pub declared_seq : (all : List Code) (t : ℕ) → declares (Seq all) t ≡ some_of (map declares all) t
declared_seq all t = ap (λ (own : Tensors). own t) (of_seq Tensors declares_step all)

-- ---- what is spared isn't declared

module _ (s : Staying) (t : ℕ) (stays : s.tensors t ≡ true) where
  abbrev Undeclared : Code → Type 0
  Undeclared x = spares s x ≡ true → declares x t ≡ false

  all_undeclared : (ks : List (Held Undeclared)) → all_spare (map (spares s) (bare Undeclared ks)) ≡ true → some_of (map declares (bare Undeclared ks)) t ≡ false
  all_undeclared [] e = refl
  all_undeclared (k ∷ ks) e = neither (declares k.0 t) _ (k.1 (left (spares s k.0) _ e)) (all_undeclared ks (right (spares s k.0) _ e))

  is_other : (tensor : ℕ) → not (s.tensors tensor) ≡ true → nat_eq tensor t ≡ false
  is_other tensor e = by (nat_eq tensor t) refl where
    by : (b : Bool) → nat_eq tensor t ≡ b → nat_eq tensor t ≡ false
    by false k = k
    by true k =
        let same : tensor ≡ t = grind (arith, nat_tests, k) in
        let h : false ≡ true = sym (ap not (ap s.tensors same ∙ stays)) ∙ e in
        cc

  undeclared_step : (y : Code-F (Held Undeclared)) → spare_step s (map-Code Code Bool (spares s) (plain Undeclared y)) ≡ true
      → declares_step (map-Code Code Tensors declares (plain Undeclared y)) t ≡ false
  undeclared_step Code-F.Skip e = refl
  undeclared_step (Code-F.Seq all) e = all_undeclared all e
  undeclared_step (Code-F.Assign local value) e = refl
  undeclared_step (Code-F.When test k) e = k.1 e
  undeclared_step (Code-F.StepLoop var until lo hi stop k) e = k.1 (right (not (s.locals until)) (spares s k.0) (right (not (s.locals var)) _ e))
  undeclared_step (Code-F.ForLoop var lo hi k) e = k.1 (right (not (s.locals var)) (spares s k.0) e)
  undeclared_step (Code-F.ParLoop from to lo hi ways k) e = k.1 e
  undeclared_step (Code-F.Update tensor at by value) e = refl
  undeclared_step (Code-F.Declare tensor) e = is_other tensor e
  undeclared_step (Code-F.Freeze tensor) e = refl
  undeclared_step (Code-F.Thaw tensor) e = refl
  undeclared_step (Code-F.Charge value) e = refl

  pub undeclared : (x : Code) → spares s x ≡ true → declares x t ≡ false
  undeclared = by_nodes Undeclared (λ y e.
      ap (λ (own : Tensors). own t) (declared_node (plain Undeclared y))
      ∙ undeclared_step y (sym (fold-roll-Code Bool (spare_step s) (plain Undeclared y)) ∙ e))

-- ---- a frame that is filled

module _ (t : ℕ) where
  abbrev Clear : List Code → Type 0
  Clear cs = some_of (map declares cs) t ≡ false

  abbrev Both : Code × List Code → Type 0
  Both r = (declares r.0 t ≡ false) × Clear r.1

  abbrev AllBoth : List Code × List Code → Type 0
  AllBoth r = Clear r.0 × Clear r.1

  abbrev Fills : Code → Type 0
  Fills x = declares x t ≡ false → (cs : List Code) → Clear cs → Both (filling x cs)

  of_one : (own own' : Tensors) → own ≡ own' → own' t ≡ false → own t ≡ false
  of_one own own' e h = ap (λ (f : Tensors). f t) e ∙ h

  next_both : (cs : List Code) → Clear cs → Both (next_code cs)
  next_both [] h = (of_one (declares Skip) (declares_step Code-F.Skip) (of_skip Tensors declares_step) refl, refl)
  next_both (c ∷ cs) h = (first_not (declares c t) _ h, second_not (declares c t) _ h)

  each_both : (ks : List (Held Fills)) → Clear (bare Fills ks) → (cs : List Code) → Clear cs → AllBoth (fill_each (map filling (bare Fills ks)) cs)
  each_both [] e cs h = (refl, h)
  each_both (k ∷ ks) e cs h =
      let one = k.1 (first_not (declares k.0 t) _ e) cs h in
      let rest = each_both ks (second_not (declares k.0 t) _ e) (filling k.0 cs).1 one.1 in
      (neither (declares (filling k.0 cs).0 t) _ one.0 rest.0, rest.1)

  fills_step : (y : Code-F (Held Fills)) → declares_step (map-Code Code Tensors declares (plain Fills y)) t ≡ false → (cs : List Code) → Clear cs
      → Both (filling_step (map-Code Code Filling filling (plain Fills y)) cs)
  fills_step Code-F.Skip e cs h = next_both cs h
  fills_step (Code-F.Seq all) e cs h =
      let all_of = each_both all e cs h in
      (declared_seq (fill_each (map filling (bare Fills all)) cs).0 t ∙ all_of.0, all_of.1)
  fills_step (Code-F.Assign local value) e cs h = (of_one _ _ (of_assign Tensors declares_step local value) e, h)
  fills_step (Code-F.When test k) e cs h = let one = k.1 e cs h in (of_one _ _ (of_when Tensors declares_step test (filling k.0 cs).0) one.0, one.1)
  fills_step (Code-F.StepLoop var until lo hi stop k) e cs h =
      let one = k.1 e cs h in (of_one _ _ (of_step_loop Tensors declares_step var until lo hi stop (filling k.0 cs).0) one.0, one.1)
  fills_step (Code-F.ForLoop var lo hi k) e cs h = let one = k.1 e cs h in (of_one _ _ (of_for_loop Tensors declares_step var lo hi (filling k.0 cs).0) one.0, one.1)
  fills_step (Code-F.ParLoop from to lo hi ways k) e cs h =
      let one = k.1 e cs h in (of_one _ _ (of_par_loop Tensors declares_step from to lo hi ways (filling k.0 cs).0) one.0, one.1)
  fills_step (Code-F.Update tensor at by value) e cs h = (of_one _ _ (of_update Tensors declares_step tensor at by value) e, h)
  fills_step (Code-F.Declare tensor) e cs h = (of_one _ _ (of_declare Tensors declares_step tensor) e, h)
  fills_step (Code-F.Freeze tensor) e cs h = (of_one _ _ (of_freeze Tensors declares_step tensor) e, h)
  fills_step (Code-F.Thaw tensor) e cs h = (of_one _ _ (of_thaw Tensors declares_step tensor) e, h)
  fills_step (Code-F.Charge value) e cs h = (of_one _ _ (of_charge Tensors declares_step value) e, h)

  fills : (x : Code) → Fills x
  fills = by_nodes Fills (λ y e cs h.
      subst Both (sym (ap (λ (f : Filling). f cs) (fold-roll-Code Filling filling_step (plain Fills y))))
      (fills_step y (sym (ap (λ (own : Tensors). own t) (declared_node (plain Fills y))) ∙ e) cs h))

  pub filled_undeclared : (frame : Code) (cs : List Code) → declares frame t ≡ false → some_of (map declares cs) t ≡ false → declares (fill frame cs) t ≡ false
  filled_undeclared frame cs e h = (fills frame e cs h).0
