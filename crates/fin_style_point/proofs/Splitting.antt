-- The parts of a nest of the program split it, in every lawful sense, weigh less and stay separate.
use Rattle.std.proofs.Common.{◌≡◌, ◌<◌, List, [], ◌∷◌, ◌++◌, map, Bool, true, false, Some, refl, sym, ap, ◌∙◌, subst, arith}
use Rattle.std.specs.Prelude.{if◌then◌else◌}
use Rattle.std.proofs.lemmas.List.Folds.{list_any-append}
use Rattle.fin_ir.specs.declared.expression.IExpr.{IExpr}
use Rattle.fin_ir.specs.declared.code.Code.{Code}
use Rattle.fin_ir.specs.declared.code.Code.TheVariants.{Skip}
use Rattle.fin_ir.specs.declared.layout.Layout.{Layout}
use Rattle.fin_looplet.specs.declared.looplet.Looplet.{Looplet}
use Rattle.fin_looplet.specs.Cut.{cut}
use Rattle.fin_nest.specs.Nests.{Nest, Sense, Means}
use Rattle.fin_nest.specs.Laws.{Lawful}
use Rattle.fin_nest.specs.Frames.{fill}
use Rattle.fin_nest.specs.Courses.{Course, Behind, nest_with, course_weight, Meant, MeantAll}
use Rattle.fin_nest.specs.Styles.{Style, head, same_style, shift, switch, spike, has, style_of, is_point_style}
use Rattle.fin_nest.specs.declared.entries.Numbered.{Numbered}
use Rattle.fin_nest.specs.Entries.{looplets, with_looplet}
use Rattle.fin_style_point.specs.declared.nest.Nest as plain
use Rattle.fin_style_point.specs.declared.nest.Parts.{Parts}
use Rattle.fin_style_point.specs.declared.nest.Branch.{Branch}
use Rattle.fin_style_point.specs.declared.nest.Branch.TheVariants.{Taken, Others}
use Rattle.fin_style_point.specs.Steps.{unshifted, shift_nest, spike_nest, Choice, first_switch, switch_nest, either_code, held, coordinates, each_code, point_nest, AllFlat}
use Rattle.fin_style_point.specs.Laws.{SwitchSplits}
use Rattle.fin_style_point.specs.Parts.{all_looplets, course_of, one_part, nest_has, parts_of}
use Rattle.fin_style_point.specs.Parts.{shift_part, spike_part, switch_part, switch_frame, switch_parts, nest_test, point_part, loop_frame}
use Rattle.fin_style_point.specs.Splits.{Asked, SplitsIn}
use Rattle.fin_style_point.proofs.Filled.{fill_skip, fill_either, fill_loop}
use Rattle.fin_style_point.proofs.Chosen.{Found, found, nest_test_is, choice_side, sided_is}
use Rattle.fin_style_point.proofs.Flatness.{flat_style}
use Rattle.fin_style_point.proofs.Shifts.{shift_splits}
use Rattle.fin_style_point.proofs.Spikes.{spike_splits}
use Rattle.fin_style_point.proofs.Switches.{switch_splits}
use Rattle.fin_style_point.proofs.Points.{points_split, point_weight}

-- ---- looplets of entries

mapped_one : (f : Looplet → Looplet) (es : List Numbered) → looplets (map (with_looplet f) es) ≡ map f (looplets es)
mapped_one f [] = refl
mapped_one f (e ∷ es) = ap (λ (r : List Looplet). f e.looplet ∷ r) (mapped_one f es)

mapped : (f : Looplet → Looplet) (es ms : List Numbered) → looplets (map (with_looplet f) es) ++ looplets (map (with_looplet f) ms) ≡ map f (looplets es ++ looplets ms)
mapped f [] ms = mapped_one f ms
mapped f (e ∷ es) ms = ap (λ (r : List Looplet). f e.looplet ∷ r) (mapped f es ms)

-- ---- the nests of the parts

module _ {S : Type 0} (b : Behind S) (n : plain.Nest) where
  abbrev pub whole : Nest S
  whole = nest_with b (course_of n)

  abbrev with_reads : List Looplet → Nest S
  with_reads rs = record whole { reads = rs }

  pub shifted_nest : shift_nest whole ≡ nest_with b (course_of (shift_part n))
  shifted_nest = ap with_reads (sym (mapped unshifted n.reads n.masks))

  pub spiked_nest : spike_nest whole ≡ nest_with b (course_of (spike_part n))
  spiked_nest = ap with_reads (sym (mapped (cut n.hi) n.reads n.masks))

  pub pointed_nest : point_nest whole ≡ nest_with b (course_of (point_part n))
  pointed_nest = ap (λ (rs : List Looplet). record (point_nest whole) { reads = rs }) (sym (mapped held n.reads n.masks))

  pub switched_nest : (branch : Branch) (c : Choice) → first_switch (all_looplets n) ≡ Some c
      → switch_nest whole (choice_side branch c) ≡ nest_with b (course_of (switch_part branch n))
  switched_nest branch c h = ap (λ (rs : List Looplet). switch_nest whole rs) (sym (sided_is branch n.reads n.masks c h))

-- ---- what the codes of the parts mean

module _ {S : Type 0} (layout : Layout) (sense : Sense S) (b : Behind S) (n : plain.Nest) (heavy : 0 < course_weight (course_of n)) where
  -- a nest that weighs something is no turn of a loop
  meant : (c : Code) → Means layout sense c (whole b n) → Meant layout sense (whole b n) c
  meant c m = record { means = m; counted = λ e. absurd (omega (arith, e, heavy)) }

  one_fills : (frame : Code) (q : Course) (full : Code → Code) → ((c : Code) → fill frame (c ∷ []) ≡ full c)
      → ((c : Code) → Meant layout sense (nest_with b q) c → Means layout sense (full c) (whole b n))
      → (codes : List Code) → MeantAll layout sense b (q ∷ []) codes → Meant layout sense (whole b n) (fill frame codes)
  one_fills frame q full e h [] m = absurd m
  one_fills frame q full e h (c ∷ []) m = subst (λ (x : Code). Meant layout sense (whole b n) x) (sym (e c)) (meant (full c) (h c m.0))
  one_fills frame q full e h (c ∷ d ∷ rest) m = absurd m.1

  two_fill : (frame : Code) (p q : Course) (full : Code → Code → Code) → ((c d : Code) → fill frame (c ∷ d ∷ []) ≡ full c d)
      → ((c d : Code) → Meant layout sense (nest_with b p) c → Meant layout sense (nest_with b q) d → Means layout sense (full c d) (whole b n))
      → (codes : List Code) → MeantAll layout sense b (p ∷ q ∷ []) codes → Meant layout sense (whole b n) (fill frame codes)
  two_fill frame p q full e h [] m = absurd m
  two_fill frame p q full e h (c ∷ []) m = absurd m.1
  two_fill frame p q full e h (c ∷ d ∷ []) m = subst (λ (x : Code). Meant layout sense (whole b n) x) (sym (e c d)) (meant (full c d) (h c d m.0 m.1.0))
  two_fill frame p q full e h (c ∷ d ∷ x ∷ rest) m = absurd m.1.1

-- ---- by style

-- what holds of the parts of each style holds of the parts
by_if : {A : Type 0} (P : A → Type 0) (c : Bool) (x y : A) → (c ≡ true → P x) → (c ≡ false → P y) → P (if c then x else y)
by_if P true x y h k = h refl
by_if P false x y h k = k refl

-- a style is had by the reads or by the masks
had : (style : Style) (n : plain.Nest) (b : Bool) → nest_has style n ≡ b → has style (all_looplets n) ≡ b
had style n b h = list_any-append (λ (l : Looplet). same_style style (head l)) (looplets n.reads) (looplets n.masks) ∙ h

module _ (P : Parts → Type 0) (n : plain.Nest) (style : is_point_style (style_of (all_looplets n)) ≡ true) where
  pub by_style : (has shift (all_looplets n) ≡ true → P (one_part Skip (shift_part n)))
      → (has switch (all_looplets n) ≡ true → P (switch_parts n))
      → (has spike (all_looplets n) ≡ true → P (one_part Skip (spike_part n)))
      → (AllFlat (all_looplets n) → P (one_part (loop_frame n) (point_part n)))
      → P (parts_of n)
  by_style a c d e =
      by_if P (nest_has shift n) (one_part Skip (shift_part n)) _ (λ h. a (had shift n true h))
      (λ p. by_if P (nest_has switch n) (switch_parts n) _ (λ h. c (had switch n true h))
      (λ q. by_if P (nest_has spike n) (one_part Skip (spike_part n)) (one_part (loop_frame n) (point_part n)) (λ h. d (had spike n true h))
      (λ r. e (flat_style (all_looplets n) (had shift n false p) (had switch n false q) (had spike n false r) style))))

-- ---- they split the nest

module _ {S : Type 0} (layout : Layout) (sense : Sense S) (law : Lawful sense) (n : plain.Nest) (heavy : 0 < course_weight (course_of n)) where
  shift_fills : SplitsIn layout sense (one_part Skip (shift_part n)) n
  shift_fills b asked =
      one_fills layout sense b n heavy Skip (course_of (shift_part n)) (λ c. c) fill_skip
      (λ c m. (shift_splits layout sense (whole b n)).means asked.separate (let r = asked.room in omega (arith, r)) c
      (subst (λ (x : Nest S). Means layout sense c x) (sym (shifted_nest b n)) m.means))

  spike_fills : SplitsIn layout sense (one_part Skip (spike_part n)) n
  spike_fills b asked =
      one_fills layout sense b n heavy Skip (course_of (spike_part n)) (λ c. c) fill_skip
      (λ c m. (spike_splits layout sense (whole b n)).means c (subst (λ (x : Nest S). Means layout sense c x) (sym (spiked_nest b n)) m.means))

  switch_means : (b : Behind S) → Asked layout sense b n → (f : Found (first_switch (all_looplets n))) (c d : Code)
      → Meant layout sense (nest_with b (course_of (switch_part Taken n))) c → Meant layout sense (nest_with b (course_of (switch_part Others n))) d
      → Means layout sense (either_code n.next (nest_test n) c d) (whole b n)
  switch_means b asked f c d m k =
      let ch = f.choice in
      let split : SwitchSplits layout sense (whole b n) ch = switch_splits layout sense law (whole b n) ch f.is in
      let taken = subst (λ (x : Nest S). Means layout sense c x) (sym (switched_nest b n Taken ch f.is)) m.means in
      let others = subst (λ (x : Nest S). Means layout sense d x) (sym (switched_nest b n Others ch f.is)) k.means in
      subst (λ (t : IExpr). Means layout sense (either_code n.next t c d) (whole b n)) (sym (nest_test_is n ch f.is))
      (split.means asked.separate asked.room c d taken others)

  switch_fill : has switch (all_looplets n) ≡ true → SplitsIn layout sense (switch_parts n) n
  switch_fill h b asked =
      two_fill layout sense b n heavy (switch_frame n) (course_of (switch_part Taken n)) (course_of (switch_part Others n))
      (either_code n.next (nest_test n)) (fill_either n.next (nest_test n))
      (switch_means b asked (found (all_looplets n) h))

  loop_fills : AllFlat (all_looplets n) → SplitsIn layout sense (one_part (loop_frame n) (point_part n)) n
  loop_fills flat b asked =
      one_fills layout sense b n heavy (loop_frame n) (course_of (point_part n)) (each_code n.next n.lo n.hi (coordinates (all_looplets n)))
      (fill_loop n)
      (λ c m. (points_split layout sense law (whole b n)).means asked.separate asked.onward asked.room flat (asked.flagless flat) asked.points c
      ((subst (λ (x : Nest S). Meant layout sense x c) (sym (pointed_nest b n)) m).counted (point_weight (whole b n) flat)))

  pub parts_split : is_point_style (style_of (all_looplets n)) ≡ true → SplitsIn layout sense (parts_of n) n
  parts_split style =
      by_style (λ (p : Parts). SplitsIn layout sense p n) n style (λ h. shift_fills) switch_fill (λ h. spike_fills) loop_fills
