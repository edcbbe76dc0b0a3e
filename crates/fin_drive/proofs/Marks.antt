-- What is known by what is seen is what the definition of work knows, where the looplets show it.
use Rattle.std.proofs.Common.{◌≡◌, ℕ, ◌+◌, ℤ, pos, Bool, true, false, not, ◌&&◌, ◌||◌, ◌-◌, List, [], ◌∷◌, Option, Some, None, refl, sym, ap, ◌∙◌, if◌then◌else◌}
use Rattle.std.proofs.Math.Path.{fun_ext}
use Rattle.std.specs.Prelude.{nat_eq, map, slice_set}
use Rattle.std.specs.List.{list_all, list_any}
use Rattle.std.specs.Option.{option_or}
use Rattle.fin_ast.specs.Value.{Numbers}
use Rattle.fin_stage.specs.Staged.{Run, worked}
use Rattle.fin_looplet.specs.View.{View}
use Rattle.fin_looplet.specs.Lists.{seens, any_ends}
use Rattle.fin_simp.specs.Left.{Marks}
use Rattle.fin_simp.specs.Rest.{Access, Rest, is_none_kind}
use Rattle.fin_simp.specs.Work.{Driven, Mask, sight_of, mask_value, mask_ends, begins_chunk, ends_after, gap_among, test_among, marks_at, varies_among, names_var, is_one_update, is_in, is_fixed, costing, first_share, turn}
use Rattle.fin_simp.specs.Costs.{Running}
use Rattle.fin_drive.specs.Turns.{fill_of, word_of, fill_by, word_by, first_known, any_varies, marks_seen, is_fixed_seen, seen_turn}
use Rattle.fin_drive.specs.Watches.{Watch, Drives, Waits, Tests, driven_in, masks_in, slot_of, watched, AllShow}

-- ---- one after another

one_fill : (e g : Bool) (o : Option ℤ) (fill : ℤ) (rest rest' : Option ℤ) → o ≡ (if g then Some fill else None) → rest ≡ rest' → option_or (if e then o else None) rest ≡ (if e && g then Some fill else rest')
one_fill true true o fill rest rest' h q = ap (λ (x : Option ℤ). option_or x rest) h
one_fill true false o fill rest rest' h q = ap (λ (x : Option ℤ). option_or x rest) h ∙ q
one_fill false g o fill rest rest' h q = q

one_word : (e : Bool) (o : Option ℤ) (z : ℤ) (rest rest' : Option ℤ) → o ≡ Some z → rest ≡ rest' → option_or (if e then o else None) rest ≡ (if e then Some z else rest')
one_word true o z rest rest' h q = ap (λ (x : Option ℤ). option_or x rest) h
one_word false o z rest rest' h q = q

or_first : (a d m : Bool) → (a || (d || m)) ≡ ((a || d) || m)
or_first true d m = refl
or_first false d m = refl

or_second : (a d m : Bool) → (a || (d || m)) ≡ (d || (a || m))
or_second true true m = refl
or_second true false m = refl
or_second false d m = refl

or_none : (a : Bool) → (a || false) ≡ a
or_none true = refl
or_none false = refl

module _ (vars : Numbers) (var c : ℕ) (inside : Type 0) where
  fills_agree : (k : ℕ) (ws : List Watch) (vs : List View) → AllShow vars var c inside ws vs → first_known fill_by (map slot_of ws) (seens vs) k ≡ gap_among (driven_in ws) (sight_of vars var c) k
  fills_agree k [] [] h = refl
  fills_agree k [] (v ∷ vs) h = absurd h
  fills_agree k (w ∷ ws) [] h = absurd h
  fills_agree k (Drives d ∷ ws) (v ∷ vs) h =
      one_fill (nat_eq d.read k) (sight_of vars var c d).gap (fill_of v.seen.sight) d.fill (first_known fill_by (map slot_of ws) (seens vs) k) (gap_among (driven_in ws) (sight_of vars var c) k) h.0.gap (fills_agree k ws vs h.1)
  fills_agree k (Waits ∷ ws) (v ∷ vs) h = fills_agree k ws vs h.1
  fills_agree k (Tests m ∷ ws) (v ∷ vs) h = fills_agree k ws vs h.1

  words_agree : (k : ℕ) (ws : List Watch) (vs : List View) → AllShow vars var c inside ws vs → first_known word_by (map slot_of ws) (seens vs) k ≡ test_among (masks_in ws) c k
  words_agree k [] [] h = refl
  words_agree k [] (v ∷ vs) h = absurd h
  words_agree k (w ∷ ws) [] h = absurd h
  words_agree k (Drives d ∷ ws) (v ∷ vs) h = words_agree k ws vs h.1
  words_agree k (Waits ∷ ws) (v ∷ vs) h = words_agree k ws vs h.1
  words_agree k (Tests m ∷ ws) (v ∷ vs) h =
      one_word (nat_eq m.test k) (word_of v.seen.sight) (mask_value m (pos c)) (first_known word_by (map slot_of ws) (seens vs) k) (test_among (masks_in ws) c k) h.0.word (words_agree k ws vs h.1)

  varies_agree : (k : ℕ) (ws : List Watch) (vs : List View) → AllShow vars var c inside ws vs → any_varies (map slot_of ws) (seens vs) k ≡ varies_among (driven_in ws) (sight_of vars var c) k
  varies_agree k [] [] h = refl
  varies_agree k [] (v ∷ vs) h = absurd h
  varies_agree k (w ∷ ws) [] h = absurd h
  varies_agree k (Drives d ∷ ws) (v ∷ vs) h =
      ap (λ (b : Bool). (nat_eq d.read k && b) || any_varies (map slot_of ws) (seens vs) k) h.0.varies
      ∙ ap (λ (b : Bool). (nat_eq d.read k && (sight_of vars var c d).varies) || b) (varies_agree k ws vs h.1)
  varies_agree k (Waits ∷ ws) (v ∷ vs) h = varies_agree k ws vs h.1
  varies_agree k (Tests m ∷ ws) (v ∷ vs) h = varies_agree k ws vs h.1

  abbrev driven_end : List Watch → Bool
  driven_end ws = list_any (λ (d : Driven). (sight_of vars var c d).ends) (driven_in ws)

  abbrev masks_end : List Watch → Bool
  masks_end ws = list_any (mask_ends c) (masks_in ws)

  ends_agree : (ws : List Watch) (vs : List View) → inside → AllShow vars var c inside ws vs → any_ends vs ≡ (driven_end ws || masks_end ws)
  ends_agree [] [] i h = refl
  ends_agree [] (v ∷ vs) i h = absurd h
  ends_agree (w ∷ ws) [] i h = absurd h
  ends_agree (Drives d ∷ ws) (v ∷ vs) i h =
      ap (λ (b : Bool). b || any_ends vs) (h.0.ends i) ∙ ap (λ (b : Bool). (sight_of vars var c d).ends || b) (ends_agree ws vs i h.1)
      ∙ or_first (sight_of vars var c d).ends (driven_end ws) (masks_end ws)
  ends_agree (Waits ∷ ws) (v ∷ vs) i h = ap (λ (b : Bool). b || any_ends vs) h.0 ∙ ends_agree ws vs i h.1
  ends_agree (Tests m ∷ ws) (v ∷ vs) i h =
      ap (λ (b : Bool). b || any_ends vs) (h.0.ends i) ∙ ap (λ (b : Bool). mask_ends c m || b) (ends_agree ws vs i h.1)
      ∙ or_second (mask_ends c m) (driven_end ws) (masks_end ws)

-- ---- a coordinate of a loop

module _ (x : Running) (ws : List Watch) (driven : driven_in ws ≡ x.loop.driven) (masks : masks_in ws ≡ x.loop.masks) (c : ℕ) (inside : Type 0) (vs : List View)
    (shows : AllShow x.vars x.loop.var c inside ws vs) where
  known_is : marks_seen (watched x ws) (seens vs) ≡ marks_at x.loop x.vars x.around c
  known_is =
      let fills : (k : ℕ) → option_or (x.around.reads k) (first_known fill_by (map slot_of ws) (seens vs) k) ≡ option_or (x.around.reads k) (gap_among x.loop.driven (sight_of x.vars x.loop.var c) k) =
      (λ k. ap (option_or (x.around.reads k)) (fills_agree x.vars x.loop.var c inside k ws vs shows ∙ ap (λ (ds : List Driven). gap_among ds (sight_of x.vars x.loop.var c) k) driven)) in
      let words : (k : ℕ) → option_or (x.around.tests k) (first_known word_by (map slot_of ws) (seens vs) k) ≡ option_or (x.around.tests k) (test_among x.loop.masks c k) =
      (λ k. ap (option_or (x.around.tests k)) (words_agree x.vars x.loop.var c inside k ws vs shows ∙ ap (λ (ms : List Mask). test_among ms c k) masks)) in
      ap (λ (f : ℕ → Option ℤ). record { reads = f; tests = (marks_seen (watched x ws) (seens vs)).tests; vars = x.around.vars }) (fun_ext fills)
      ∙ ap (λ (f : ℕ → Option ℤ). record { reads = (marks_at x.loop x.vars x.around c).reads; tests = f; vars = x.around.vars }) (fun_ext words)

  fixed_is : (rest : Rest) → is_fixed_seen (watched x ws) (seens vs) rest ≡ is_fixed x.loop x.vars rest c
  fixed_is rest =
      let same : (a : Access) → not (any_varies (map slot_of ws) (seens vs) a.read) ≡ not (varies_among x.loop.driven (sight_of x.vars x.loop.var c) a.read) =
      (λ a. ap not (varies_agree x.vars x.loop.var c inside a.read ws vs shows ∙ ap (λ (ds : List Driven). varies_among ds (sight_of x.vars x.loop.var c) a.read) driven)) in
      ap (λ (p : Access → Bool). is_one_update rest.kind && not (is_in rest.vars x.loop.var) && list_all (λ i. not (names_var x.loop.var i)) rest.targets && list_all p rest.reads) (fun_ext same)

  pub turn_is : (begins : Bool) (r : Run) → seen_turn (watched x ws) (seens vs) begins (pos c) r ≡ turn x.loop x.rest x.body x.around x.vars begins c r
  turn_is begins r =
      let inner = slice_set x.vars x.loop.var (pos c) in
      let here = marks_at x.loop x.vars x.around c in
      ap (λ (m : Marks). if is_none_kind (x.rest m).kind then r else (if is_fixed_seen (watched x ws) (seens vs) (x.rest m) then costing (first_share begins) r (x.body m inner r) else x.body m inner (worked 1 r))) known_is
      ∙ ap (λ (b : Bool). if is_none_kind (x.rest here).kind then r else (if b then costing (first_share begins) r (x.body here inner r) else x.body here inner (worked 1 r))) (fixed_is (x.rest here))

  -- where no chunk begins, a part of the nest ends where a piece does
  pub ends_are : inside → begins_chunk x.loop.len x.loop.chunks (c + 1 - x.loop.lo) ≡ false → any_ends vs ≡ ends_after x.loop x.vars c
  ends_are i unbegun =
      let reads : List Driven → Bool = λ ds. list_any (λ (d : Driven). (sight_of x.vars x.loop.var c d).ends) ds in
      let tests : List Mask → Bool = λ ms. list_any (mask_ends c) ms in
      let both : Bool = reads x.loop.driven || tests x.loop.masks in
      ends_agree x.vars x.loop.var c inside ws vs i shows
      ∙ ap (λ (ds : List Driven). reads ds || tests (masks_in ws)) driven ∙ ap (λ (ms : List Mask). reads x.loop.driven || tests ms) masks
      ∙ sym (or_none both) ∙ ap (λ (b : Bool). both || b) (sym unbegun)
