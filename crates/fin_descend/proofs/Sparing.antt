-- What code leaves as it is: the less of what it leaves as well, and a frame that is filled with codes.
use Rattle.std.proofs.Common.{◌≡◌, ℕ, Bool, true, false, ◌&&◌, List, [], ◌∷◌, map, refl, sym, ap, subst, ◌∙◌}
use Rattle.std.specs.Prelude.{not}
use Rattle.fin_ir.specs.declared.code.Code.{Code, ind-Code, map-Code, roll-Code, fold-roll-Code}
use Rattle.fin_ir.specs.declared.code.Code.TheOpen.{Code-F}
use Rattle.fin_ir.specs.declared.code.Code.TheVariants.{Skip, Seq}
use Rattle.fin_ir.proofs.Nodes.{of_skip, of_seq, of_assign, of_when, of_step_loop, of_for_loop, of_par_loop, of_update, of_declare, of_freeze, of_thaw, of_charge}
use Rattle.fin_nest.specs.Frames.{Filling, fill_each, next_code, filling_step, filling}
use Rattle.fin_nest.specs.Sparing.{Staying, all_spare, spare_step, spares}
use Rattle.fin_descend.specs.Sparing.{FillsSpare, StaysIn, SparesLess}

pub and_both : (a b : Bool) → a ≡ true → b ≡ true → (a && b) ≡ true
and_both true b e f = f
and_both false b e f = cc

pub left : (a b : Bool) → (a && b) ≡ true → a ≡ true
left true b e = refl
left false b e = e

pub right : (a b : Bool) → (a && b) ≡ true → b ≡ true
right true b e = e
right false b e = cc

-- ---- induction over code

module _ (P : Code → Type 0) where
  abbrev pub Held : Type 0
  Held = (x : Code) × P x

  abbrev pub bare : List Held → List Code
  bare ks = map (λ k. k.0) ks

  abbrev pub plain : Code-F Held → Code-F Code
  plain y = map-Code Held Code (λ k. k.0) y

  pub by_nodes : ((y : Code-F Held) → P (roll-Code (plain y))) → (x : Code) → P x
  by_nodes f = ind-Code P (λ z y is. subst (λ (u : Code-F Code). P (roll-Code u)) is (f y))

-- a code's node, by those of its parts
spared_node : (s : Staying) (u : Code-F Code) → spares s (roll-Code u) ≡ spare_step s (map-Code Code Bool (spares s) u)
spared_node s u = fold-roll-Code Bool (spare_step s) u

-- ---- more is spared, so less is

module _ (less more : Staying) (within : StaysIn less more) where
  abbrev Fewer : Code → Type 0
  Fewer x = spares more x ≡ true → spares less x ≡ true

  still_not : (a b : Bool) → (b ≡ true → a ≡ true) → not a ≡ true → not b ≡ true
  still_not true b f e = cc
  still_not false true f e = f refl
  still_not false false f e = refl

  local_stays : (x : ℕ) → not (more.locals x) ≡ true → not (less.locals x) ≡ true
  local_stays x = still_not (more.locals x) (less.locals x) (within.locals x)

  tensor_stays : (t : ℕ) → not (more.tensors t) ≡ true → not (less.tensors t) ≡ true
  tensor_stays t = still_not (more.tensors t) (less.tensors t) (within.tensors t)

  all_fewer : (ks : List (Held Fewer)) → all_spare (map (spares more) (bare Fewer ks)) ≡ true → all_spare (map (spares less) (bare Fewer ks)) ≡ true
  all_fewer [] e = refl
  all_fewer (k ∷ ks) e = and_both (spares less k.0) _ (k.1 (left (spares more k.0) _ e)) (all_fewer ks (right (spares more k.0) _ e))

  fewer_step : (y : Code-F (Held Fewer)) → spare_step more (map-Code Code Bool (spares more) (plain Fewer y)) ≡ true → spare_step less (map-Code Code Bool (spares less) (plain Fewer y)) ≡ true
  fewer_step Code-F.Skip e = refl
  fewer_step (Code-F.Seq all) e = all_fewer all e
  fewer_step (Code-F.Assign local value) e = local_stays local e
  fewer_step (Code-F.When test k) e = k.1 e
  fewer_step (Code-F.StepLoop var until lo hi stop k) e =
      let rest = right (not (more.locals var)) _ e in
      and_both (not (less.locals var)) _ (local_stays var (left (not (more.locals var)) _ e))
      (and_both (not (less.locals until)) _ (local_stays until (left (not (more.locals until)) (spares more k.0) rest)) (k.1 (right (not (more.locals until)) (spares more k.0) rest)))
  fewer_step (Code-F.ForLoop var lo hi k) e =
      and_both (not (less.locals var)) _ (local_stays var (left (not (more.locals var)) (spares more k.0) e)) (k.1 (right (not (more.locals var)) (spares more k.0) e))
  fewer_step (Code-F.ParLoop from to lo hi ways k) e = k.1 e
  fewer_step (Code-F.Update tensor at by value) e = tensor_stays tensor e
  fewer_step (Code-F.Declare tensor) e = tensor_stays tensor e
  fewer_step (Code-F.Freeze tensor) e = tensor_stays tensor e
  fewer_step (Code-F.Thaw tensor) e = tensor_stays tensor e
  fewer_step (Code-F.Charge value) e = refl

  fewer : (x : Code) → Fewer x
  fewer = by_nodes Fewer (λ y e. spared_node less (plain Fewer y) ∙ fewer_step y (sym (spared_node more (plain Fewer y)) ∙ e))

pub spares_less : SparesLess
spares_less less more c within e = fewer less more within c e

-- ---- a frame that is filled

module _ (s : Staying) where
  abbrev pub Spared : List Code → Type 0
  Spared cs = all_spare (map (spares s) cs) ≡ true

  abbrev Both : Code × List Code → Type 0
  Both r = (spares s r.0 ≡ true) × Spared r.1

  abbrev AllBoth : List Code × List Code → Type 0
  AllBoth r = Spared r.0 × Spared r.1

  abbrev Fills : Code → Type 0
  Fills x = spares s x ≡ true → (cs : List Code) → Spared cs → Both (filling x cs)

  pub spared_skip : spares s Skip ≡ true
  spared_skip = of_skip Bool (spare_step s)

  pub spared_seq : (all : List Code) → Spared all → spares s (Seq all) ≡ true
  spared_seq all h = of_seq Bool (spare_step s) all ∙ h

  next_both : (cs : List Code) → Spared cs → Both (next_code cs)
  next_both [] h = (spared_skip, refl)
  next_both (c ∷ cs) h = (left (spares s c) _ h, right (spares s c) _ h)

  each_both : (ks : List (Held Fills)) → Spared (bare Fills ks) → (cs : List Code) → Spared cs → AllBoth (fill_each (map filling (bare Fills ks)) cs)
  each_both [] e cs h = (refl, h)
  each_both (k ∷ ks) e cs h =
      let one = k.1 (left (spares s k.0) _ e) cs h in
      let rest = each_both ks (right (spares s k.0) _ e) (filling k.0 cs).1 one.1 in
      (and_both (spares s (filling k.0 cs).0) _ one.0 rest.0, rest.1)

  -- a node around one code, or none: filled it is still of its kind
  fills_step : (y : Code-F (Held Fills)) → spare_step s (map-Code Code Bool (spares s) (plain Fills y)) ≡ true → (cs : List Code) → Spared cs
      → Both (filling_step (map-Code Code Filling filling (plain Fills y)) cs)
  fills_step Code-F.Skip e cs h = next_both cs h
  fills_step (Code-F.Seq all) e cs h = let all_of = each_both all e cs h in (spared_seq (fill_each (map filling (bare Fills all)) cs).0 all_of.0, all_of.1)
  fills_step (Code-F.Assign local value) e cs h = (of_assign Bool (spare_step s) local value ∙ e, h)
  fills_step (Code-F.When test k) e cs h = let one = k.1 e cs h in (of_when Bool (spare_step s) test (filling k.0 cs).0 ∙ one.0, one.1)
  fills_step (Code-F.StepLoop var until lo hi stop k) e cs h =
      let rest = right (not (s.locals var)) _ e in
      let one = k.1 (right (not (s.locals until)) (spares s k.0) rest) cs h in (
        of_step_loop Bool (spare_step s) var until lo hi stop (filling k.0 cs).0
            ∙ and_both (not (s.locals var)) _ (left (not (s.locals var)) _ e) (and_both (not (s.locals until)) _ (left (not (s.locals until)) (spares s k.0) rest) one.0),
        one.1,
      )
  fills_step (Code-F.ForLoop var lo hi k) e cs h =
      let one = k.1 (right (not (s.locals var)) (spares s k.0) e) cs h in
      (of_for_loop Bool (spare_step s) var lo hi (filling k.0 cs).0 ∙ and_both (not (s.locals var)) _ (left (not (s.locals var)) (spares s k.0) e) one.0, one.1)
  fills_step (Code-F.ParLoop from to lo hi ways k) e cs h = let one = k.1 e cs h in (of_par_loop Bool (spare_step s) from to lo hi ways (filling k.0 cs).0 ∙ one.0, one.1)
  fills_step (Code-F.Update tensor at by value) e cs h = (of_update Bool (spare_step s) tensor at by value ∙ e, h)
  fills_step (Code-F.Declare tensor) e cs h = (of_declare Bool (spare_step s) tensor ∙ e, h)
  fills_step (Code-F.Freeze tensor) e cs h = (of_freeze Bool (spare_step s) tensor ∙ e, h)
  fills_step (Code-F.Thaw tensor) e cs h = (of_thaw Bool (spare_step s) tensor ∙ e, h)
  fills_step (Code-F.Charge value) e cs h = (of_charge Bool (spare_step s) value, h)

  fills : (x : Code) → Fills x
  fills = by_nodes Fills (λ y e cs h.
      subst Both (sym (ap (λ (f : Filling). f cs) (fold-roll-Code Filling filling_step (plain Fills y)))) (fills_step y (sym (spared_node s (plain Fills y)) ∙ e) cs h))

pub fills_spare : FillsSpare
fills_spare s frame cs e h = (fills s frame e cs h).0
