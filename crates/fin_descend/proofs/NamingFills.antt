-- A frame that is named in a layout, filled with codes that are; and what is named in one is named in a larger one.
use Rattle.std.proofs.Common.{◌≡◌, ℕ, Bool, true, ◌&&◌, List, [], ◌∷◌, length, map, refl, sym, ap, subst, ◌∙◌, arith}
use Rattle.std.specs.List.{list_all}
use Rattle.std.proofs.lemmas.Bool.{lt-ltb, ltb-true}
use Rattle.fin_ir.specs.declared.expression.IExpr.{IExpr, map-IExpr}
use Rattle.fin_ir.specs.declared.expression.IExpr.TheOpen.{IExpr-F}
use Rattle.fin_ir.specs.declared.code.Code.{Code, map-Code, fold-roll-Code}
use Rattle.fin_ir.specs.declared.code.Code.TheOpen.{Code-F}
use Rattle.fin_ir.specs.declared.layout.Layout.{Layout}
use Rattle.fin_ir.specs.Named.{has_local, expression_step, is_named_in, code_step, is_named}
use Rattle.fin_ir.proofs.Nodes.{of_assign, of_when, of_step_loop, of_for_loop, of_par_loop, of_update, of_declare, of_freeze, of_thaw, of_charge}
use Rattle.fin_looplet.specs.declared.looplet.Leaf.{Leaf}
use Rattle.fin_looplet.specs.declared.looplet.Leaf.TheVariants.{Fill, Value, Sub}
use Rattle.fin_looplet.specs.declared.looplet.Looplet.{Looplet, Row_of-Phase, end_of-Phase, more_of-Phase, Row_of-Walker, end_of-Walker, more_of-Walker, Row_of-Case, end_of-Case, more_of-Case, end_of-Looplet, more_of-Looplet}
use Rattle.fin_looplet.specs.declared.looplet.Looplet.TheVariants.{Run, Spike, Lookup, Sequence', Stepper', Jumper', Switch', Shift'}
use Rattle.fin_nest.specs.Entries.{looplets}
use Rattle.fin_nest.specs.Frames.{Filling, fill_each, next_code, filling_step, filling}
use Rattle.fin_style_point.specs.declared.nest.Nest.{Nest}
use Rattle.fin_descend.specs.Naming.{HasLocal, HasTensor, NamedIn, LeafNamed, LoopletNamed, PhasesNamed, WalkerNamed, CasesNamed, EachNamed, NamedNest, FillsAreNamed, Within, MoreIsNamed}
use Rattle.fin_descend.proofs.Sparing.{and_both, left, right, Held, bare, plain, by_nodes}
use Rattle.fin_descend.proofs.Naming.{Known, inside, by_kinds, expression_node, code_node, AreNamed, named_skip, named_seq}

-- ---- a frame that is filled

module _ (layout : Layout) where
  abbrev Both : Code × List Code → Type 0
  Both r = (is_named layout r.0 ≡ true) × AreNamed layout r.1

  abbrev AllBoth : List Code × List Code → Type 0
  AllBoth r = AreNamed layout r.0 × AreNamed layout r.1

  abbrev Fills : Code → Type 0
  Fills x = is_named layout x ≡ true → (cs : List Code) → AreNamed layout cs → Both (filling x cs)

  next_both : (cs : List Code) → AreNamed layout cs → Both (next_code cs)
  next_both [] h = (named_skip layout, refl)
  next_both (c ∷ cs) h = (left (is_named layout c) _ h, right (is_named layout c) _ h)

  each_both : (ks : List (Held Fills)) → list_all (λ b. b) (map (is_named layout) (bare Fills ks)) ≡ true → (cs : List Code) → AreNamed layout cs
      → AllBoth (fill_each (map filling (bare Fills ks)) cs)
  each_both [] e cs h = (refl, h)
  each_both (k ∷ ks) e cs h =
      let one = k.1 (left (is_named layout k.0) _ e) cs h in
      let rest = each_both ks (right (is_named layout k.0) _ e) (filling k.0 cs).1 one.1 in
      (and_both (is_named layout (filling k.0 cs).0) _ one.0 rest.0, rest.1)

  -- a node around one code: the code is the last that its test asks of
  around : (a b : Bool) (c : Code) → (a && b) ≡ true → is_named layout c ≡ true → (a && is_named layout c) ≡ true
  around a b c e h = and_both a (is_named layout c) (left a b e) h

  fills_step : (y : Code-F (Held Fills)) → code_step layout (map-Code Code Bool (is_named layout) (plain Fills y)) ≡ true → (cs : List Code) → AreNamed layout cs
      → Both (filling_step (map-Code Code Filling filling (plain Fills y)) cs)
  fills_step Code-F.Skip e cs h = next_both cs h
  fills_step (Code-F.Seq all) e cs h = let all_of = each_both all e cs h in (named_seq layout (fill_each (map filling (bare Fills all)) cs).0 all_of.0, all_of.1)
  fills_step (Code-F.Assign local value) e cs h = (of_assign Bool (code_step layout) local value ∙ e, h)
  fills_step (Code-F.When test k) e cs h =
      let one = k.1 (right (is_named_in layout test) (is_named layout k.0) e) cs h in
      (of_when Bool (code_step layout) test (filling k.0 cs).0 ∙ around (is_named_in layout test) (is_named layout k.0) (filling k.0 cs).0 e one.0, one.1)
  fills_step (Code-F.StepLoop var until lo hi stop k) e cs h =
      let before = has_local layout var && has_local layout until && is_named_in layout lo && is_named_in layout hi && is_named_in layout stop in
      let one = k.1 (right before (is_named layout k.0) e) cs h in
      (of_step_loop Bool (code_step layout) var until lo hi stop (filling k.0 cs).0 ∙ around before (is_named layout k.0) (filling k.0 cs).0 e one.0, one.1)
  fills_step (Code-F.ForLoop var lo hi k) e cs h =
      let before = has_local layout var && is_named_in layout lo && is_named_in layout hi in
      let one = k.1 (right before (is_named layout k.0) e) cs h in
      (of_for_loop Bool (code_step layout) var lo hi (filling k.0 cs).0 ∙ around before (is_named layout k.0) (filling k.0 cs).0 e one.0, one.1)
  fills_step (Code-F.ParLoop from to lo hi ways k) e cs h =
      let before = has_local layout from && has_local layout to in
      let one = k.1 (right before (is_named layout k.0) e) cs h in
      (of_par_loop Bool (code_step layout) from to lo hi ways (filling k.0 cs).0 ∙ around before (is_named layout k.0) (filling k.0 cs).0 e one.0, one.1)
  fills_step (Code-F.Update tensor at by value) e cs h = (of_update Bool (code_step layout) tensor at by value ∙ e, h)
  fills_step (Code-F.Declare tensor) e cs h = (of_declare Bool (code_step layout) tensor ∙ e, h)
  fills_step (Code-F.Freeze tensor) e cs h = (of_freeze Bool (code_step layout) tensor ∙ e, h)
  fills_step (Code-F.Thaw tensor) e cs h = (of_thaw Bool (code_step layout) tensor ∙ e, h)
  fills_step (Code-F.Charge value) e cs h = (of_charge Bool (code_step layout) value ∙ e, h)

  fills : (x : Code) → Fills x
  fills = by_nodes Fills (λ y e cs h.
      subst Both (sym (ap (λ (f : Filling). f cs) (fold-roll-Code Filling filling_step (plain Fills y)))) (fills_step y (sym (code_node layout (plain Fills y)) ∙ e) cs h))

pub fills_are_named : FillsAreNamed
fills_are_named layout frame cs e h = (fills layout frame e cs h).0

-- ---- larger layouts

module _ (less more : Layout) (within : Within less more) where
  local_stays : (x : ℕ) → HasLocal less x → HasLocal more x
  local_stays x has = let lt = ltb-true x less.locals has in let le = within.locals in lt-ltb x more.locals (omega (arith, lt, le))

  tensor_stays : (t : ℕ) → HasTensor less t → HasTensor more t
  tensor_stays t has = let lt = ltb-true t (length less.formats) has in let le = within.tensors in lt-ltb t (length more.formats) (omega (arith, lt, le))

  -- two tests, each of which stays
  both_stay : (a b c d : Bool) → (a ≡ true → c ≡ true) → (b ≡ true → d ≡ true) → (a && b) ≡ true → (c && d) ≡ true
  both_stay a b c d f g e = and_both c d (f (left a b e)) (g (right a b e))

  abbrev Stays : IExpr → Type 0
  Stays x = NamedIn less x → NamedIn more x

  expression_stays : (y : IExpr-F (Known Stays)) → expression_step less (map-IExpr IExpr Bool (is_named_in less) (inside Stays y)) ≡ true
      → expression_step more (map-IExpr IExpr Bool (is_named_in more) (inside Stays y)) ≡ true
  expression_stays (IExpr-F.Num n) e = refl
  expression_stays (IExpr-F.Local local) e = local_stays local e
  expression_stays (IExpr-F.Neg a) e = a.1 e
  expression_stays (IExpr-F.Two op a b) e = both_stay _ _ _ _ a.1 b.1 e
  expression_stays (IExpr-F.Pick a b c) e = both_stay _ _ _ _ (both_stay _ _ _ _ a.1 b.1) c.1 e
  expression_stays (IExpr-F.Times by a b) e = both_stay _ _ _ _ a.1 b.1 e
  expression_stays (IExpr-F.Cell tensor level table a) e = both_stay _ _ _ _ (tensor_stays tensor) a.1 e
  expression_stays (IExpr-F.Seek tensor level a b c) e = both_stay _ _ _ _ (both_stay _ _ _ _ (both_stay _ _ _ _ (tensor_stays tensor) a.1) b.1) c.1 e
  expression_stays (IExpr-F.Val tensor a) e = both_stay _ _ _ _ (tensor_stays tensor) a.1 e

  expressions : (x : IExpr) → Stays x
  expressions = by_kinds Stays (λ y e. expression_node more (inside Stays y) ∙ expression_stays y (sym (expression_node less (inside Stays y)) ∙ e))

  list_stays : (xs : List IExpr) → list_all (is_named_in less) xs ≡ true → list_all (is_named_in more) xs ≡ true
  list_stays [] e = refl
  list_stays (x ∷ xs) e = both_stay (is_named_in less x) (list_all (is_named_in less) xs) (is_named_in more x) _ (expressions x) (list_stays xs) e

  abbrev Lasts : Code → Type 0
  Lasts x = is_named less x ≡ true → is_named more x ≡ true

  all_last : (ks : List (Held Lasts)) → list_all (λ b. b) (map (is_named less) (bare Lasts ks)) ≡ true → list_all (λ b. b) (map (is_named more) (bare Lasts ks)) ≡ true
  all_last [] e = refl
  all_last (k ∷ ks) e = both_stay (is_named less k.0) _ (is_named more k.0) _ k.1 (all_last ks) e

  code_lasts : (y : Code-F (Held Lasts)) → code_step less (map-Code Code Bool (is_named less) (plain Lasts y)) ≡ true
      → code_step more (map-Code Code Bool (is_named more) (plain Lasts y)) ≡ true
  code_lasts Code-F.Skip e = refl
  code_lasts (Code-F.Seq all) e = all_last all e
  code_lasts (Code-F.Assign local value) e = both_stay _ _ _ _ (local_stays local) (expressions value) e
  code_lasts (Code-F.When test k) e = both_stay _ _ _ _ (expressions test) k.1 e
  code_lasts (Code-F.StepLoop var until lo hi stop k) e =
      both_stay _ _ _ _ (both_stay _ _ _ _ (both_stay _ _ _ _ (both_stay _ _ _ _ (both_stay _ _ _ _ (local_stays var) (local_stays until)) (expressions lo)) (expressions hi)) (expressions stop)) k.1 e
  code_lasts (Code-F.ForLoop var lo hi k) e = both_stay _ _ _ _ (both_stay _ _ _ _ (both_stay _ _ _ _ (local_stays var) (expressions lo)) (expressions hi)) k.1 e
  code_lasts (Code-F.ParLoop from to lo hi ways k) e = both_stay _ _ _ _ (both_stay _ _ _ _ (local_stays from) (local_stays to)) k.1 e
  code_lasts (Code-F.Update tensor at by value) e = both_stay _ _ _ _ (both_stay _ _ _ _ (tensor_stays tensor) (list_stays at)) (expressions value) e
  code_lasts (Code-F.Declare tensor) e = tensor_stays tensor e
  code_lasts (Code-F.Freeze tensor) e = tensor_stays tensor e
  code_lasts (Code-F.Thaw tensor) e = tensor_stays tensor e
  code_lasts (Code-F.Charge value) e = expressions value e

  codes : (x : Code) → Lasts x
  codes = by_nodes Lasts (λ y e. code_node more (plain Lasts y) ∙ code_lasts y (sym (code_node less (plain Lasts y)) ∙ e))

  leaf_stays : (leaf : Leaf) → LeafNamed less leaf → LeafNamed more leaf
  leaf_stays (Fill f) h = tt
  leaf_stays (Value e) h = expressions e h
  leaf_stays (Sub tensor level place there) h = (tensor_stays tensor h.0, (expressions place h.1.0, expressions there h.1.1))

  mutual
    looplet_stays : (l : Looplet) → LoopletNamed less l → LoopletNamed more l
    looplet_stays (Run leaf) h = leaf_stays leaf h
    looplet_stays (Spike body tail) h = (leaf_stays body h.0, leaf_stays tail h.1)
    looplet_stays (Lookup coord leaf) h = (local_stays coord h.0, leaf_stays leaf h.1)
    looplet_stays (Sequence' n phases) h = phases_stay phases h
    looplet_stays (Stepper' p walker) h = walker_stays walker h
    looplet_stays (Jumper' p walker) h = walker_stays walker h
    looplet_stays (Switch' n cases) h = cases_stay cases h
    looplet_stays (Shift' by p (more_of-Looplet child end_of-Looplet)) h = (expressions by h.0, looplet_stays child h.1)

    phases_stay : {n : _} (ps : Row_of-Phase n) → PhasesNamed less ps → PhasesNamed more ps
    phases_stay end_of-Phase h = tt
    phases_stay (more_of-Phase stop child rest) h = (expressions stop h.0, (looplet_stays child h.1.0, phases_stay rest h.1.1))

    walker_stays : {n : _} (w : Row_of-Walker n) → WalkerNamed less w → WalkerNamed more w
    walker_stays end_of-Walker h = tt
    walker_stays (more_of-Walker cursor seek stop child rest) h = (local_stays _ h.0, (expressions seek h.1.0, (expressions stop h.1.1.0, looplet_stays child h.1.1.1)))

    cases_stay : {n : _} (cs : Row_of-Case n) → CasesNamed less cs → CasesNamed more cs
    cases_stay end_of-Case h = tt
    cases_stay (more_of-Case test child rest) h = (expressions test h.0, (looplet_stays child h.1.0, cases_stay rest h.1.1))

  each_stays : (ls : List Looplet) → EachNamed less ls → EachNamed more ls
  each_stays [] h = tt
  each_stays (l ∷ ls) h = (looplet_stays l h.0, each_stays ls h.1)

  nest_stays : (n : Nest) → NamedNest less n → NamedNest more n
  nest_stays n h = record {
    var = local_stays n.var h.var;
    lo = expressions n.lo h.lo;
    hi = expressions n.hi h.hi;
    reads = each_stays (looplets n.reads) h.reads;
    masks = each_stays (looplets n.masks) h.masks;
  }

pub more_is_named : MoreIsNamed
more_is_named less more within = record {
  expressions = expressions less more within;
  codes = codes less more within;
  looplets = looplet_stays less more within;
  nests = nest_stays less more within;
}
