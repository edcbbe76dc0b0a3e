-- Frames that are filled with frames: the holes that are left, and codes for them.
use Rattle.std.proofs.Common.{◌≡◌, ℕ, ◌+◌, ◌≤◌, List, [], ◌∷◌, ◌++◌, length, map, refl, sym, ap, subst, ◌∙◌, arith}
use Rattle.fin_ir.specs.declared.code.Code.{Code, map-Code, roll-Code, fold-roll-Code}
use Rattle.fin_ir.specs.declared.code.Code.TheOpen.{Code-F}
use Rattle.fin_ir.specs.declared.code.Code.TheVariants.{Seq, Assign, When, StepLoop, ForLoop, ParLoop, Update, Declare, Freeze, Thaw, Charge}
use Rattle.fin_ir.proofs.Nodes.{of_seq, of_assign, of_when, of_step_loop, of_for_loop, of_par_loop, of_update, of_declare, of_freeze, of_thaw, of_charge}
use Rattle.fin_nest.specs.Frames.{Filling, fill_each, filling_step, filling, fill}
use Rattle.fin_nest.proofs.Filling.{filled_seq, filled_assign, filled_when, filled_step_loop, filled_for_loop, filled_par_loop}
use Rattle.fin_descend.specs.Holes.{all_holes, holes_step, holes, filled_each, FramesCompose}
use Rattle.fin_descend.proofs.Sparing.{Held, bare, plain, by_nodes}

abbrev pub all_of : List Code → ℕ
all_of cs = all_holes (map holes cs)

-- what a filling with `h` holes does with frames, of which there are enough for it
record Composes (f : Filling) (h : ℕ) (fs : List Code) : Type 0 where
  left : length (f fs).1 + h ≡ length fs
  filled : (cs : List Code) → (filling (f fs).0 cs).0 ≡ (f (filled_each fs cs)).0
  others : (cs : List Code) → (f (filled_each fs cs)).1 ≡ filled_each (f fs).1 (filling (f fs).0 cs).1
  holes : holes (f fs).0 + all_of (f fs).1 ≡ all_of fs
  behind : (rest : List Code) → f (fs ++ rest) ≡ ((f fs).0, (f fs).1 ++ rest)

-- so with several, one after another
record ComposeAll (g : List Code → List Code × List Code) (h : ℕ) (fs : List Code) : Type 0 where
  left : length (g fs).1 + h ≡ length fs
  filled : (cs : List Code) → filled_each (g fs).0 cs ≡ (g (filled_each fs cs)).0
  others : (cs : List Code) → (g (filled_each fs cs)).1 ≡ filled_each (g fs).1 (fill_each (map filling (g fs).0) cs).1
  holes : all_of (g fs).0 + all_of (g fs).1 ≡ all_of fs
  behind : (rest : List Code) → g (fs ++ rest) ≡ ((g fs).0, (g fs).1 ++ rest)

both : (x y : Code) (xs ys : List Code) → x ≡ y → xs ≡ ys → x ∷ xs ≡ y ∷ ys
both x y xs ys e h = ap (λ (c : Code). c ∷ xs) e ∙ ap (λ (cs : List Code). y ∷ cs) h

none_compose : (fs : List Code) → ComposeAll (fill_each []) 0 fs
none_compose fs = record { left = omega arith; filled = λ cs. refl; others = λ cs. refl; holes = omega arith; behind = λ rest. refl }

first_composes : (f : Filling) (gs : List Filling) (h k : ℕ) (fs : List Code) → Composes f h fs → ComposeAll (fill_each gs) k (f fs).1 → ComposeAll (fill_each (f ∷ gs)) (h + k) fs
first_composes f gs h k fs one rest = record {
  left = omega (arith, one.left, rest.left);
  filled = λ cs.
      let now = (filling (f fs).0 cs).1 in
      both (filling (f fs).0 cs).0 (f (filled_each fs cs)).0 _ _ (one.filled cs)
      (rest.filled now ∙ ap (λ (ds : List Code). (fill_each gs ds).0) (sym (one.others cs)));
  others = λ cs. ap (λ (ds : List Code). (fill_each gs ds).1) (one.others cs) ∙ rest.others (filling (f fs).0 cs).1;
  holes = omega (arith, one.holes, rest.holes);
  behind = λ more.
      ap (λ (r : Code × List Code). (r.0 ∷ (fill_each gs r.1).0, (fill_each gs r.1).1)) (one.behind more)
      ∙ ap (λ (r : List Code × List Code). ((f fs).0 ∷ r.0, r.1)) (rest.behind more);
}

-- ---- the kinds of code

skip_composes : (fs : List Code) → 1 ≤ length fs → Composes (filling_step Code-F.Skip) 1 fs
skip_composes [] h = absurd (omega (arith, h))
skip_composes (f ∷ fs) h = record { left = omega arith; filled = λ cs. refl; others = λ cs. refl; holes = refl; behind = λ rest. refl }

-- without a hole in it
whole_composes : (c : Code) → ((cs : List Code) → filling c cs ≡ (c, cs)) → holes c ≡ 0 → (fs : List Code) → Composes (λ cs. (c, cs)) 0 fs
whole_composes c stays none fs = record {
  left = omega arith;
  filled = λ cs. ap (λ (r : Code × List Code). r.0) (stays cs);
  others = λ cs. ap (λ (r : Code × List Code). filled_each fs r.1) (sym (stays cs));
  holes = omega (arith, none);
  behind = λ rest. refl;
}

-- around one code
around_composes : (wrap : Code → Code) → ((c : Code) (cs : List Code) → filling (wrap c) cs ≡ (wrap (filling c cs).0, (filling c cs).1)) → ((c : Code) → holes (wrap c) ≡ holes c)
    → (f : Filling) (h : ℕ) (fs : List Code) → Composes f h fs → Composes (λ cs. (wrap (f cs).0, (f cs).1)) h fs
around_composes wrap fills same f h fs one = record {
  left = one.left;
  filled = λ cs. ap (λ (r : Code × List Code). r.0) (fills (f fs).0 cs) ∙ ap wrap (one.filled cs);
  others = λ cs. one.others cs ∙ ap (λ (r : Code × List Code). filled_each (f fs).1 r.1) (sym (fills (f fs).0 cs));
  holes = let e = same (f fs).0 in omega (arith, e, one.holes);
  behind = λ rest. ap (λ (r : Code × List Code). (wrap r.0, r.1)) (one.behind rest);
}

seq_composes : (gs : List Filling) (h : ℕ) (fs : List Code) → ComposeAll (fill_each gs) h fs → Composes (filling_step (Code-F.Seq gs)) h fs
seq_composes gs h fs all =
    let done = (fill_each gs fs).0 in record {
      left = all.left;
      filled = λ cs. ap (λ (r : Code × List Code). r.0) (filled_seq done cs) ∙ ap Seq (all.filled cs);
      others = λ cs. all.others cs ∙ ap (λ (r : Code × List Code). filled_each (fill_each gs fs).1 r.1) (sym (filled_seq done cs));
      holes = let e = of_seq ℕ holes_step done in omega (arith, e, all.holes);
      behind = λ rest. ap (λ (r : List Code × List Code). (Seq r.0, r.1)) (all.behind rest);
    }

abbrev Composing : Code → Type 0
Composing x = (fs : List Code) → holes x ≤ length fs → Composes (filling x) (holes x) fs

each_compose : (ks : List (Held Composing)) (fs : List Code) → all_of (bare Composing ks) ≤ length fs → ComposeAll (fill_each (map filling (bare Composing ks))) (all_of (bare Composing ks)) fs
each_compose [] fs h = none_compose fs
each_compose (k ∷ ks) fs h =
    let one = k.1 fs (omega (arith, h)) in
    let rest = each_compose ks (filling k.0 fs).1 (omega (arith, h, one.left)) in
    first_composes (filling k.0) (map filling (bare Composing ks)) (holes k.0) (all_of (bare Composing ks)) fs one rest

composes_step : (y : Code-F (Held Composing)) (fs : List Code) → holes_step (map-Code Code ℕ holes (plain Composing y)) ≤ length fs
    → Composes (filling_step (map-Code Code Filling filling (plain Composing y))) (holes_step (map-Code Code ℕ holes (plain Composing y))) fs
composes_step Code-F.Skip fs h = skip_composes fs h
composes_step (Code-F.Seq all) fs h = seq_composes (map filling (bare Composing all)) (all_of (bare Composing all)) fs (each_compose all fs h)
composes_step (Code-F.Assign local value) fs h = whole_composes (Assign local value) (filled_assign local value) (of_assign ℕ holes_step local value) fs
composes_step (Code-F.When test k) fs h =
    around_composes (When test) (filled_when test) (of_when ℕ holes_step test) (filling k.0) (holes k.0) fs (k.1 fs h)
composes_step (Code-F.StepLoop var until lo hi stop k) fs h =
    around_composes (StepLoop var until lo hi stop) (filled_step_loop var until lo hi stop) (of_step_loop ℕ holes_step var until lo hi stop) (filling k.0) (holes k.0) fs (k.1 fs h)
composes_step (Code-F.ForLoop var lo hi k) fs h =
    around_composes (ForLoop var lo hi) (filled_for_loop var lo hi) (of_for_loop ℕ holes_step var lo hi) (filling k.0) (holes k.0) fs (k.1 fs h)
composes_step (Code-F.ParLoop from to lo hi ways k) fs h =
    around_composes (ParLoop from to lo hi ways) (filled_par_loop from to lo hi ways) (of_par_loop ℕ holes_step from to lo hi ways) (filling k.0) (holes k.0) fs (k.1 fs h)
composes_step (Code-F.Update tensor at by value) fs h =
    whole_composes (Update tensor at by value) (λ cs. ap (λ (f : Filling). f cs) (of_update Filling filling_step tensor at by value)) (of_update ℕ holes_step tensor at by value) fs
composes_step (Code-F.Declare tensor) fs h =
    whole_composes (Declare tensor) (λ cs. ap (λ (f : Filling). f cs) (of_declare Filling filling_step tensor)) (of_declare ℕ holes_step tensor) fs
composes_step (Code-F.Freeze tensor) fs h =
    whole_composes (Freeze tensor) (λ cs. ap (λ (f : Filling). f cs) (of_freeze Filling filling_step tensor)) (of_freeze ℕ holes_step tensor) fs
composes_step (Code-F.Thaw tensor) fs h = whole_composes (Thaw tensor) (λ cs. ap (λ (f : Filling). f cs) (of_thaw Filling filling_step tensor)) (of_thaw ℕ holes_step tensor) fs
composes_step (Code-F.Charge value) fs h =
    whole_composes (Charge value) (λ cs. ap (λ (f : Filling). f cs) (of_charge Filling filling_step value)) (of_charge ℕ holes_step value) fs

composes : (x : Code) → Composing x
composes = by_nodes Composing (λ y fs h.
    let e = fold-roll-Code ℕ holes_step (plain Composing y) in
    let d = fold-roll-Code Filling filling_step (plain Composing y) in
    let step = composes_step y fs (omega (arith, e, h)) in
    subst (λ (f : Filling). Composes f (holes (roll-Code (plain Composing y))) fs) (sym d)
    (subst (λ (k : ℕ). Composes (filling_step (map-Code Code Filling filling (plain Composing y))) k fs) (sym e) step))

-- ---- a frame with as many frames as it has holes

none_left : (xs : List Code) (h k : ℕ) → h ≡ k → length xs + h ≡ k → xs ≡ []
none_left [] h k e l = refl
none_left (x ∷ xs) h k e l = absurd (omega (arith, e, l))

module _ (frame : Code) (fs : List Code) (fits : holes frame ≡ length fs) where
  now : Composes (filling frame) (holes frame) fs
  now = composes frame fs (omega (arith, fits))

  used : (filling frame fs).1 ≡ []
  used = none_left (filling frame fs).1 (holes frame) (length fs) fits now.left

  -- codes for its holes are codes for those of the frames
  pub fill_composes : (cs : List Code) → fill (fill frame fs) cs ≡ fill frame (filled_each fs cs)
  fill_composes cs = now.filled cs

  pub filled_holes : holes (fill frame fs) ≡ all_of fs
  filled_holes = let e = ap all_of used in omega (arith, e, now.holes)

  -- it takes no more
  pub filled_behind : (rest : List Code) → filling frame (fs ++ rest) ≡ (fill frame fs, rest)
  filled_behind rest = now.behind rest ∙ ap (λ (xs : List Code). (fill frame fs, xs ++ rest)) used

-- ---- frames, one after another

abbrev codes_of : List Code → List Code → List Code × List Code
codes_of frames cs = fill_each (map filling frames) cs

all_compose : (frames fs : List Code) → all_of frames ≤ length fs → ComposeAll (codes_of frames) (all_of frames) fs
all_compose [] fs h = none_compose fs
all_compose (f ∷ frames) fs h =
    let one = composes f fs (omega (arith, h)) in
    let rest = all_compose frames (filling f fs).1 (omega (arith, h, one.left)) in
    first_composes (filling f) (map filling frames) (holes f) (all_of frames) fs one rest

one_behind : (frames : List Code) (f : Code) (cs : List Code) → filled_each (frames ++ f ∷ []) cs ≡ filled_each frames cs ++ (filling f (codes_of frames cs).1).0 ∷ []
one_behind [] f cs = refl
one_behind (g ∷ frames) f cs = ap (λ (ds : List Code). (filling g cs).0 ∷ ds) (one_behind frames f (filling g cs).1)

pub frames_behind : (frames : List Code) (f : Code) (cs ds : List Code) → all_of frames ≡ length cs → filled_each (frames ++ f ∷ []) (cs ++ ds) ≡ filled_each frames cs ++ fill f ds ∷ []
frames_behind frames f cs ds fits =
    let all = all_compose frames cs (omega (arith, fits)) in
    let used = none_left (codes_of frames cs).1 (all_of frames) (length cs) fits all.left in
    let e : codes_of frames (cs ++ ds) ≡ (filled_each frames cs, ds) = all.behind ds ∙ ap (λ (xs : List Code). (filled_each frames cs, xs ++ ds)) used in
    one_behind frames f (cs ++ ds) ∙ ap (λ (r : List Code × List Code). r.0 ++ (filling f r.1).0 ∷ []) e

pub all_of_behind : (frames : List Code) (f : Code) → all_of (frames ++ f ∷ []) ≡ all_of frames + holes f
all_of_behind [] f = omega arith
all_of_behind (g ∷ frames) f = let e = all_of_behind frames f in omega (arith, e)

pub frames_compose : FramesCompose
frames_compose frame frames cs fits = fill_composes frame frames fits cs
