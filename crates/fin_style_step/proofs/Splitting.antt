-- The parts of a nest of the program split it, in every lawful sense.
use Rattle.std.proofs.Common.{◌≡◌, ◌<◌, List, [], ◌∷◌, ◌++◌, length, Bool, true, false, Option, Some, None, pos, refl, sym, ap, ◌∙◌, subst, arith}
use Rattle.std.specs.Prelude.{if◌then◌else◌}
use Rattle.std.proofs.lemmas.List.Folds.{list_any-append}
use Rattle.fin_ir.specs.declared.expression.IExpr.{IExpr}
use Rattle.fin_ir.specs.declared.expression.IExpr.TheVariants.{Num}
use Rattle.fin_ir.specs.declared.code.Code.{Code}
use Rattle.fin_ir.specs.declared.layout.Layout.{Layout}
use Rattle.fin_looplet.specs.declared.looplet.Walker.{Walker}
use Rattle.fin_looplet.specs.declared.looplet.Looplet.{Looplet, end_of-Walker, more_of-Walker}
use Rattle.fin_looplet.specs.declared.looplet.Looplet.TheVariants.{Run, Spike, Lookup, Sequence', Stepper', Jumper', Switch', Shift'}
use Rattle.fin_nest.specs.Nests.{Nest, Sense, Means}
use Rattle.fin_nest.specs.Laws.{Lawful}
use Rattle.fin_nest.specs.Frames.{fill}
use Rattle.fin_nest.specs.Courses.{Behind, nest_with, Meant, MeantAll}
use Rattle.fin_nest.specs.Styles as style
use Rattle.fin_nest.specs.declared.entries.Numbered.{Numbered}
use Rattle.fin_nest.specs.Entries.{looplets}
use Rattle.fin_style_step.specs.declared.nest.Nest as plain
use Rattle.fin_style_step.specs.declared.nest.Parts.{Parts}
use Rattle.fin_style_step.specs.declared.nest.Kind.{Kind}
use Rattle.fin_style_step.specs.declared.nest.Kind.TheVariants as kind
use Rattle.fin_style_step.specs.Steps.{Division, first_sequence, here_nest, others_nest, divided_code, stepper, jumper, listed, walkers, insides, least, greatest, stepper_nest, steps_code, jumper_nest, jumps_code}
use Rattle.fin_style_step.specs.Laws.{Lighter, SequenceSplits}
use Rattle.fin_style_step.specs.Parts.{all_looplets, nest_has, course_of, one_part, here_part, others_part, nest_stop, sequence_frame, sequence_parts, kind_of, inside_one, inside_all, nest_walkers, stepper_part, stepper_frame, jumper_part, jumper_frame, parts_of}
use Rattle.fin_style_step.specs.Splits.{Asked, SplitsIn}
use Rattle.fin_style_step.proofs.Filled.{fill_divided, fill_steps, fill_jumps}
use Rattle.fin_style_step.proofs.Halves.{Found, found, nest_stop_is, here_is, others_are}
use Rattle.fin_style_step.proofs.Sequences.{sequence_splits}
use Rattle.fin_style_step.proofs.Walkers.{stepper_splits, jumper_splits}

-- ---- looplets of entries

insides_one : (k : Kind) (hi : IExpr) (es : List Numbered) → looplets (inside_all k hi es) ≡ insides (kind_of k) hi (looplets es)
insides_one k hi [] = refl
insides_one k hi (e ∷ es) = ap (λ (r : List Looplet). inside_one k hi e.looplet ∷ r) (insides_one k hi es)

insides_both : (k : Kind) (hi : IExpr) (es ms : List Numbered) → looplets (inside_all k hi es) ++ looplets (inside_all k hi ms) ≡ insides (kind_of k) hi (looplets es ++ looplets ms)
insides_both k hi [] ms = insides_one k hi ms
insides_both k hi (e ∷ es) ms = ap (λ (r : List Looplet). inside_one k hi e.looplet ∷ r) (insides_both k hi es ms)

listed_joined : (o : Option Walker) (ws vs us : List Walker) → ws ++ vs ≡ us → listed o ws ++ vs ≡ listed o us
listed_joined None ws vs us e = e
listed_joined (Some w) ws vs us e = ap (λ (r : List Walker). w ∷ r) e

walkers_joined : (k : Looplet → Option Walker) (xs ys : List Looplet) → walkers k xs ++ walkers k ys ≡ walkers k (xs ++ ys)
walkers_joined k [] ys = refl
walkers_joined k (x ∷ xs) ys = listed_joined (k x) (walkers k xs) (walkers k ys) (walkers k (xs ++ ys)) (walkers_joined k xs ys)

-- ---- the nests of the parts

module _ {S : Type 0} (b : Behind S) (n : plain.Nest) where
  abbrev pub whole : Nest S
  whole = nest_with b (course_of n)

  abbrev with_reads : Nest S → List Looplet → Nest S
  with_reads x rs = record x { reads = rs }

  pub here_is_nest : (c : Division) → first_sequence n.hi (all_looplets n) ≡ Some c → here_nest whole c.stop c.here ≡ nest_with b (course_of (here_part n))
  here_is_nest c h =
      ap (λ (e : IExpr). here_nest whole e c.here) (sym (nest_stop_is n c h))
      ∙ ap (λ (rs : List Looplet). here_nest whole (nest_stop n) rs) (sym (here_is n.hi n.reads n.masks c h))

  pub others_are_nest : (c : Division) → first_sequence n.hi (all_looplets n) ≡ Some c → others_nest whole c.stop c.others ≡ nest_with b (course_of (others_part n))
  others_are_nest c h =
      ap (λ (e : IExpr). others_nest whole e c.others) (sym (nest_stop_is n c h))
      ∙ ap (λ (rs : List Looplet). others_nest whole (nest_stop n) rs) (sym (others_are n.hi n.reads n.masks c h))

  pub stepper_is_nest : stepper_nest whole ≡ nest_with b (course_of (stepper_part n))
  stepper_is_nest = ap (with_reads (stepper_nest whole)) (sym (insides_both kind.Stepper n.hi n.reads n.masks))

  pub jumper_is_nest : jumper_nest whole ≡ nest_with b (course_of (jumper_part n))
  jumper_is_nest = ap (with_reads (jumper_nest whole)) (sym (insides_both kind.Jumper n.hi n.reads n.masks))

-- ---- by style

-- a style is had by the reads or by the masks
had : (s : style.Style) (n : plain.Nest) (b : Bool) → nest_has s n ≡ b → style.has s (all_looplets n) ≡ b
had s n b h = list_any-append (λ (l : Looplet). style.same_style s (style.head l)) (looplets n.reads) (looplets n.masks) ∙ h

abbrev choose : Bool → Bool → Bool → Bool → Bool → Bool → Bool → Bool → style.Style
choose a b c d e f g h =
    if a then style.shift else if b then style.switch else if c then style.sequence else if d then style.jumper
    else if e then style.stepper else if f then style.spike else if g then style.run else if h then style.lookup else style.run

jumps_by : (a b c d e f g h : Bool) → c ≡ false → d ≡ true → style.is_point_style (choose a b c d e f g h) ≡ false → choose a b c d e f g h ≡ style.jumper
jumps_by true b c d e f g h p q r = absurd (cc)
jumps_by false true c d e f g h p q r = absurd (cc)
jumps_by false false true d e f g h p q r = absurd (cc)
jumps_by false false false true e f g h p q r = refl
jumps_by false false false false e f g h p q r = absurd (cc)

steps_by : (a b c d e f g h : Bool) → c ≡ false → d ≡ false → style.is_point_style (choose a b c d e f g h) ≡ false → (e ≡ true) × (choose a b c d e f g h ≡ style.stepper)
steps_by true b c d e f g h p q r = absurd (cc)
steps_by false true c d e f g h p q r = absurd (cc)
steps_by false false true d e f g h p q r = absurd (cc)
steps_by false false false true e f g h p q r = absurd (cc)
steps_by false false false false true f g h p q r = (refl, refl)
steps_by false false false false false true g h p q r = absurd (cc)
steps_by false false false false false false true h p q r = absurd (cc)
steps_by false false false false false false false true p q r = absurd (cc)
steps_by false false false false false false false false p q r = absurd (cc)

-- what holds of the parts of each style holds of the parts
by_if : {A : Type 0} (P : A → Type 0) (c : Bool) (x y : A) → (c ≡ true → P x) → (c ≡ false → P y) → P (if c then x else y)
by_if P true x y h k = h refl
by_if P false x y h k = k refl

-- the nest has the style, and so walkers of the kind
pub record Walked (n : plain.Nest) (s : style.Style) (k : Looplet → Option Walker) : Type 0 where
  pub is : style.style_of (all_looplets n) ≡ s
  pub some : 0 < length (walkers k (all_looplets n))

more_listed : (o : Option Walker) (ws : List Walker) → 0 < length ws → 0 < length (listed o ws)
more_listed None ws h = h
more_listed (Some w) ws h = omega arith

some_stepper : (ls : List Looplet) → style.has style.stepper ls ≡ true → 0 < length (walkers stepper ls)
some_stepper [] h = absurd (cc)
some_stepper (Run k ∷ rest) h = some_stepper rest h
some_stepper (Spike b t ∷ rest) h = some_stepper rest h
some_stepper (Lookup c k ∷ rest) h = some_stepper rest h
some_stepper (Sequence' n ps ∷ rest) h = some_stepper rest h
some_stepper (Stepper' p (more_of-Walker cursor seek stop child end_of-Walker) ∷ rest) h = omega arith
some_stepper (Jumper' p w ∷ rest) h = some_stepper rest h
some_stepper (Switch' n cs ∷ rest) h = some_stepper rest h
some_stepper (Shift' by p c ∷ rest) h = some_stepper rest h

some_jumper : (ls : List Looplet) → style.has style.jumper ls ≡ true → 0 < length (walkers jumper ls)
some_jumper [] h = absurd (cc)
some_jumper (Run k ∷ rest) h = some_jumper rest h
some_jumper (Spike b t ∷ rest) h = some_jumper rest h
some_jumper (Lookup c k ∷ rest) h = some_jumper rest h
some_jumper (Sequence' n ps ∷ rest) h = some_jumper rest h
some_jumper (Stepper' p w ∷ rest) h = some_jumper rest h
some_jumper (Jumper' p (more_of-Walker cursor seek stop child end_of-Walker) ∷ rest) h = omega arith
some_jumper (Switch' n cs ∷ rest) h = some_jumper rest h
some_jumper (Shift' by p c ∷ rest) h = some_jumper rest h

module _ (P : Parts → Type 0) (n : plain.Nest) (ours : style.is_point_style (style.style_of (all_looplets n)) ≡ false) where
  jumping : style.has style.sequence (all_looplets n) ≡ false → style.has style.jumper (all_looplets n) ≡ true → Walked n style.jumper jumper
  jumping p q =
      let ls = all_looplets n in
      record {
        is = jumps_by (style.has style.shift ls) (style.has style.switch ls) (style.has style.sequence ls) (style.has style.jumper ls) (style.has style.stepper ls) (style.has style.spike ls) (style.has style.run ls) (style.has style.lookup ls) p q ours;
        some = some_jumper ls q;
      }

  stepping : style.has style.sequence (all_looplets n) ≡ false → style.has style.jumper (all_looplets n) ≡ false → Walked n style.stepper stepper
  stepping p q =
      let ls = all_looplets n in
      let s = steps_by (style.has style.shift ls) (style.has style.switch ls) (style.has style.sequence ls) (style.has style.jumper ls) (style.has style.stepper ls) (style.has style.spike ls) (style.has style.run ls) (style.has style.lookup ls) p q ours in
      record { is = s.1; some = some_stepper ls s.0 }

  pub by_style : (style.has style.sequence (all_looplets n) ≡ true → P (sequence_parts n))
      → (Walked n style.jumper jumper → P (one_part (jumper_frame n) (jumper_part n)))
      → (Walked n style.stepper stepper → P (one_part (stepper_frame n) (stepper_part n)))
      → P (parts_of n)
  by_style a c d =
      by_if P (nest_has style.sequence n) (sequence_parts n) _ (λ h. a (had style.sequence n true h))
      (λ p. by_if P (nest_has style.jumper n) (one_part (jumper_frame n) (jumper_part n)) (one_part (stepper_frame n) (stepper_part n))
      (λ h. c (jumping (had style.sequence n false p) (had style.jumper n true h)))
      (λ h. d (stepping (had style.sequence n false p) (had style.jumper n false h))))

-- ---- what the codes of the parts mean

module _ {S : Type 0} (layout : Layout) (sense : Sense S) (law : Lawful sense) (b : Behind S) (n : plain.Nest) (asked : Asked layout sense b n) where
  -- a nest with a lighter part weighs something, and is no turn of a loop
  meant : (q : Nest S) → Lighter q (whole b n) → (c : Code) → Means layout sense c (whole b n) → Meant layout sense (whole b n) c
  meant q light c m = record { means = m; counted = λ e. absurd (omega (arith, e, light)) }

  room : n.next < layout.locals
  room = let r = asked.room in omega (arith, r)

  abbrev Goal : Code → Type 0
  Goal c = Meant layout sense (nest_with b (course_of n)) c

  sequence_fills : Found (first_sequence n.hi (all_looplets n)) → (codes : List Code) → MeantAll layout sense b (course_of (here_part n) ∷ course_of (others_part n) ∷ []) codes → Goal (fill (sequence_frame n) codes)
  sequence_fills f [] m = absurd m
  sequence_fills f (x ∷ []) m = absurd m.1
  sequence_fills f (x ∷ y ∷ []) m =
      let d = f.division in
      let split : SequenceSplits layout sense (whole b n) d = sequence_splits layout sense law (whole b n) d f.is in
      let here = subst (λ (z : Nest S). Means layout sense x z) (sym (here_is_nest b n d f.is)) m.0.means in
      let others = subst (λ (z : Nest S). Means layout sense y z) (sym (others_are_nest b n d f.is)) m.1.0.means in
      let means = split.means asked.separate asked.onward room x y here others in
      let stop = nest_stop_is n d f.is in
      subst Goal (sym (fill_divided n.next n.lo n.hi (nest_stop n) x y ∙ ap (λ (e : IExpr). divided_code n.next n.lo n.hi e x y) stop))
      (meant (here_nest (whole b n) d.stop d.here) split.lighter.0 (divided_code n.next n.lo n.hi d.stop x y) means)
  sequence_fills f (x ∷ y ∷ z ∷ rest) m = absurd m.1.1

  jumper_fills : Walked n style.jumper jumper → (codes : List Code) → MeantAll layout sense b (course_of (jumper_part n) ∷ []) codes → Goal (fill (jumper_frame n) codes)
  jumper_fills w [] m = absurd m
  jumper_fills w (x ∷ []) m =
      let split = jumper_splits layout sense law (whole b n) in
      let part = subst (λ (z : Nest S). Means layout sense x z) (sym (jumper_is_nest b n)) m.0.means in
      let j = asked.jumps w.is in
      let means = split.means asked.separate asked.onward asked.room w.some j x part in
      let ws = walkers_joined jumper (looplets n.reads) (looplets n.masks) in
      subst Goal (sym (fill_jumps (nest_walkers kind.Jumper n) n.next n.lo n.hi (greatest (nest_walkers kind.Jumper n) (Num (pos 0))) x ∙ ap (λ (vs : List Walker). jumps_code vs n.next n.lo n.hi x) ws))
      (meant (jumper_nest (whole b n)) (split.lighter w.some) (jumps_code (walkers jumper (all_looplets n)) n.next n.lo n.hi x) means)
  jumper_fills w (x ∷ y ∷ rest) m = absurd m.1

  stepper_fills : Walked n style.stepper stepper → (codes : List Code) → MeantAll layout sense b (course_of (stepper_part n) ∷ []) codes → Goal (fill (stepper_frame n) codes)
  stepper_fills w [] m = absurd m
  stepper_fills w (x ∷ []) m =
      let split = stepper_splits layout sense law (whole b n) in
      let part = subst (λ (z : Nest S). Means layout sense x z) (sym (stepper_is_nest b n)) m.0.means in
      let r = asked.room in
      let means = split.means asked.separate asked.onward (omega (arith, r)) (asked.steps w.is) x part in
      let ws = walkers_joined stepper (looplets n.reads) (looplets n.masks) in
      subst Goal (sym (fill_steps (nest_walkers kind.Stepper n) n.next n.lo n.hi (least (nest_walkers kind.Stepper n) n.hi) x ∙ ap (λ (vs : List Walker). steps_code vs n.next n.lo n.hi x) ws))
      (meant (stepper_nest (whole b n)) (split.lighter w.some) (steps_code (walkers stepper (all_looplets n)) n.next n.lo n.hi x) means)
  stepper_fills w (x ∷ y ∷ rest) m = absurd m.1

pub parts_split : {S : Type 0} (layout : Layout) (sense : Sense S) → Lawful sense → (n : plain.Nest) → style.is_point_style (style.style_of (all_looplets n)) ≡ false → SplitsIn layout sense (parts_of n) n
parts_split layout sense law n ours =
    by_style (λ (p : Parts). SplitsIn layout sense p n) n ours
    (λ h b asked. sequence_fills layout sense law b n asked (found n.hi (all_looplets n) h))
    (λ w b asked. jumper_fills layout sense law b n asked w)
    (λ w b asked. stepper_fills layout sense law b n asked w)
