-- Along runs and lookups what is known, and what varies, is the same at each coordinate and anywhere.
use Rattle.std.proofs.Common.{◌≡◌, ℕ, Bool, true, false, ◌&&◌, List, [], ◌∷◌, Option, None, if◌then◌else◌, refl, sym, ap, ◌∙◌, inl, inr, ℤ, pos}
use Rattle.std.proofs.Math.Path.{fun_ext}
use Rattle.std.specs.Prelude.{nat_eq, ◌||◌, slice_set}
use Rattle.std.specs.List.{list_all}
use Rattle.std.specs.Option.{option_or}
use Rattle.fin_ir.specs.Machine.{nothing}
use Rattle.fin_ir.specs.Value.{is_off}
use Rattle.fin_looplet.specs.declared.looplet.Leaf.{Leaf}
use Rattle.fin_looplet.specs.declared.looplet.Leaf.TheVariants.{Fill, Value, Sub}
use Rattle.fin_looplet.specs.declared.looplet.Looplet.{Looplet}
use Rattle.fin_looplet.specs.declared.looplet.Looplet.TheVariants as looplet
use Rattle.fin_looplet.specs.View.{Store, word, position, absent, value, leaf_sight, view, Seen}
use Rattle.fin_looplet.specs.Lists.{views, seens}
use Rattle.fin_drive.specs.Turns.{Slot, Driving, Waiting, Testing, fill_of, fill_by, word_by, varies_by, any_varies, first_known, marks_seen, Watched}
use Rattle.fin_style_point.specs.Steps.{is_flat, AllFlat}
use Rattle.fin_looplet.specs.Weight.{is_run}
use Rattle.fin_nest.specs.Jumping.{HoldsJumper, NoneHolds}
use Rattle.fin_descend.specs.Leaves.{IsNumberOrGap}
use Rattle.fin_loops.specs.Points.{seen_bare, marks_by, AreSettled}
use Rattle.fin_ir.specs.declared.expression.IExpr.TheVariants.{Num}
use Rattle.fin_ir.proofs.Values.{value_num}

-- ---- runs are flat

run_flat : (l : Looplet) → is_run l ≡ true → is_flat l ≡ true
run_flat (looplet.Run leaf) e = refl
run_flat (looplet.Spike body tail) e = cc
run_flat (looplet.Lookup coord leaf) e = refl
run_flat (looplet.Sequence' n phases) e = cc
run_flat (looplet.Stepper' p walker) e = cc
run_flat (looplet.Jumper' p walker) e = cc
run_flat (looplet.Switch' n cases) e = cc
run_flat (looplet.Shift' by p child) e = cc

both_runs : (l : Looplet) (rest : List Looplet) → list_all is_run (l ∷ rest) ≡ true → (is_run l ≡ true) × (list_all is_run rest ≡ true)
both_runs l rest e = elim (is_run l) as (λ b. is_run l ≡ b → (b && list_all is_run rest) ≡ true → (is_run l ≡ true) × (list_all is_run rest ≡ true)) [
  | true ↦ (λ f h. (f, h))
  | false ↦ (λ f h. cc)
] refl e

run_holds_none : (l : Looplet) → is_run l ≡ true → HoldsJumper l → ⊥
run_holds_none (looplet.Run leaf) e h = h
run_holds_none (looplet.Spike body tail) e h = h
run_holds_none (looplet.Lookup coord leaf) e h = h
run_holds_none (looplet.Sequence' n phases) e h = cc
run_holds_none (looplet.Stepper' p walker) e h = cc
run_holds_none (looplet.Jumper' p walker) e h = cc
run_holds_none (looplet.Switch' n cases) e h = cc
run_holds_none (looplet.Shift' by p child) e h = cc

pub runs_hold_none : (rs : List Looplet) → list_all is_run rs ≡ true → NoneHolds rs
runs_hold_none [] e = tt
runs_hold_none (l ∷ rs) e = let b = both_runs l rs e in (run_holds_none l b.0, runs_hold_none rs b.1)

pub runs_flat : (rs : List Looplet) → list_all is_run rs ≡ true → AllFlat rs
runs_flat [] e = tt
runs_flat (l ∷ rs) e = let b = both_runs l rs e in (run_flat l b.0, runs_flat rs b.1)

-- ---- what is known

abbrev seen_in : Store → List ℤ → ℤ → ℤ → Looplet → Seen
seen_in ts ls end i l = (view ts ls l end i).seen

abbrev bare : Looplet → Seen
bare l = seen_in (λ t. nothing) [] (pos 0) (pos 0) l

pub no_fill : (b : Bool) (tensor level : ℕ) (place : ℤ) → fill_of (if b then absent else position tensor level place) ≡ None
no_fill true tensor level place = refl
no_fill false tensor level place = refl

leaf_fill : (ts : Store) (ls ks : List ℤ) (leaf : Leaf) → fill_of (leaf_sight ts ls leaf) ≡ fill_of (leaf_sight (λ t. nothing) ks leaf)
leaf_fill ts ls ks (Fill f) = refl
leaf_fill ts ls ks (Value e) = refl
leaf_fill ts ls ks (Sub tensor level place there) = no_fill (is_off (value ts ls there)) tensor level _ ∙ sym (no_fill (is_off (value (λ t. nothing) ks there)) tensor level _)

module _ (ts : Store) (ls : List ℤ) (end i : ℤ) where
  flat_fill : (l : Looplet) → is_flat l ≡ true → fill_of (seen_in ts ls end i l).sight ≡ fill_of (bare l).sight
  flat_fill (looplet.Run leaf) e = leaf_fill ts ls [] leaf
  flat_fill (looplet.Spike body tail) e = cc
  flat_fill (looplet.Lookup coord leaf) e = leaf_fill ts (slice_set ls coord i) (slice_set [] coord (pos 0)) leaf
  flat_fill (looplet.Sequence' n phases) e = cc
  flat_fill (looplet.Stepper' p walker) e = cc
  flat_fill (looplet.Jumper' p walker) e = cc
  flat_fill (looplet.Switch' n cases) e = cc
  flat_fill (looplet.Shift' by p child) e = cc

  flat_varies : (l : Looplet) → is_flat l ≡ true → (seen_in ts ls end i l).varies ≡ (bare l).varies
  flat_varies (looplet.Run leaf) e = refl
  flat_varies (looplet.Spike body tail) e = cc
  flat_varies (looplet.Lookup coord leaf) e = refl
  flat_varies (looplet.Sequence' n phases) e = cc
  flat_varies (looplet.Stepper' p walker) e = cc
  flat_varies (looplet.Jumper' p walker) e = cc
  flat_varies (looplet.Switch' n cases) e = cc
  flat_varies (looplet.Shift' by p child) e = cc

  slot_fill : (x : Slot) (l : Looplet) (k : ℕ) → is_flat l ≡ true → fill_by x (seen_in ts ls end i l) k ≡ fill_by x (bare l) k
  slot_fill (Driving j) l k e = ap (λ (o : Option ℤ). if nat_eq j k then o else None) (flat_fill l e)
  slot_fill Waiting l k e = refl
  slot_fill (Testing j) l k e = refl

  slot_varies : (x : Slot) (l : Looplet) (k : ℕ) → is_flat l ≡ true → varies_by x (seen_in ts ls end i l) k ≡ varies_by x (bare l) k
  slot_varies (Driving j) l k e = ap (λ (b : Bool). nat_eq j k && b) (flat_varies l e)
  slot_varies Waiting l k e = refl
  slot_varies (Testing j) l k e = refl

  fills_flat : (xs : List Slot) (rs : List Looplet) (k : ℕ) → AllFlat rs → first_known fill_by xs (seens (views ts ls rs end i)) k ≡ first_known fill_by xs (seen_bare rs) k
  fills_flat [] rs k f = refl
  fills_flat (x ∷ xs) [] k f = refl
  fills_flat (x ∷ xs) (l ∷ rs) k f =
      ap (λ (o : Option ℤ). option_or o (first_known fill_by xs (seens (views ts ls rs end i)) k)) (slot_fill x l k f.0)
      ∙ ap (option_or (fill_by x (bare l) k)) (fills_flat xs rs k f.1)

  pub varies_flat : (xs : List Slot) (rs : List Looplet) (k : ℕ) → AllFlat rs → any_varies xs (seens (views ts ls rs end i)) k ≡ any_varies xs (seen_bare rs) k
  varies_flat [] rs k f = refl
  varies_flat (x ∷ xs) [] k f = refl
  varies_flat (x ∷ xs) (l ∷ rs) k f =
      ap (λ (b : Bool). b || any_varies xs (seens (views ts ls rs end i)) k) (slot_varies x l k f.0)
      ∙ ap (λ (b : Bool). varies_by x (bare l) k || b) (varies_flat xs rs k f.1)

  number_seen : (z : ℤ) (l : Looplet) → l ≡ looplet.Run (Value (Num z)) → seen_in ts ls end i l ≡ bare l
  number_seen z l e =
      ap (seen_in ts ls end i) e
      ∙ ap (λ (v : ℤ). record { sight = word v; varies = false }) (value_num ts ls z ∙ sym (value_num (λ t. nothing) [] z))
      ∙ sym (ap bare e)

  -- a number, or a gap
  settled_seen : (l : Looplet) (leaf : Leaf) → l ≡ looplet.Run leaf → IsNumberOrGap leaf → seen_in ts ls end i l ≡ bare l
  settled_seen l leaf e (inl (z, is)) = number_seen z l (e ∙ ap looplet.Run is)
  settled_seen l leaf e (inr is) = let gap : l ≡ looplet.Run (Fill (pos 0)) = e ∙ ap looplet.Run is in ap (seen_in ts ls end i) gap ∙ sym (ap bare gap)

  words_known : (xs : List Slot) (rs : List Looplet) (k : ℕ) → AreSettled xs rs → first_known word_by xs (seens (views ts ls rs end i)) k ≡ first_known word_by xs (seen_bare rs) k
  words_known [] rs k s = refl
  words_known (x ∷ xs) [] k s = refl
  words_known (Driving j ∷ xs) (l ∷ rs) k s = words_known xs rs k s
  words_known (Waiting ∷ xs) (l ∷ rs) k s = words_known xs rs k s
  words_known (Testing j ∷ xs) (l ∷ rs) k s =
      ap (λ (o : Seen). option_or (word_by (Testing j) o k) (first_known word_by xs (seens (views ts ls rs end i)) k)) (settled_seen l s.0.0 s.0.1 s.0.2)
      ∙ ap (option_or (word_by (Testing j) (bare l) k)) (words_known xs rs k s.1)

  pub marks_flat : (x : Watched) (rs : List Looplet) → AllFlat rs → AreSettled x.slots rs → marks_seen x (seens (views ts ls rs end i)) ≡ marks_by x.around x.slots rs
  marks_flat x rs f s =
      ap (λ (g : ℕ → Option ℤ). record { reads = g; tests = (marks_seen x (seens (views ts ls rs end i))).tests; vars = x.around.vars })
      (fun_ext (λ k. ap (option_or (x.around.reads k)) (fills_flat x.slots rs k f)))
      ∙ ap (λ (g : ℕ → Option ℤ). record { reads = (marks_by x.around x.slots rs).reads; tests = g; vars = x.around.vars })
      (fun_ext (λ k. ap (option_or (x.around.tests k)) (words_known x.slots rs k s)))
