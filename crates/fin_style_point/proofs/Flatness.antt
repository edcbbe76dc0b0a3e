-- Where a nest has a point style, and no shift, switch or spike, its looplets are runs and lookups.
use Rattle.std.proofs.Common.{◌≡◌, List, [], ◌∷◌, Bool, true, false, inl, inr, refl}
use Rattle.std.specs.Prelude.{if◌then◌else◌, ◌||◌}
use Rattle.fin_looplet.specs.declared.looplet.Looplet.{Looplet}
use Rattle.fin_looplet.specs.declared.looplet.Looplet.TheVariants.{Run, Spike, Lookup, Sequence', Stepper', Jumper', Switch', Shift'}
use Rattle.fin_nest.specs.Styles.{shift, switch, sequence, jumper, stepper, spike, run, lookup, has, style_of, is_point_style}
use Rattle.fin_style_point.specs.Steps.{Has, is_shift, is_spike, AllFlat}

no_walk : (a b c d e f g h : Bool) → a ≡ false → b ≡ false
    → is_point_style (if a then shift else if b then switch else if c then sequence else if d then jumper else if e then stepper
    else if f then spike else if g then run else if h then lookup else run) ≡ true
    → (c ≡ false) × ((d ≡ false) × (e ≡ false))
no_walk true b c d e f g h p q r = absurd (cc)
no_walk false true c d e f g h p q r = absurd (cc)
no_walk false false true d e f g h p q r = absurd (cc)
no_walk false false false true e f g h p q r = absurd (cc)
no_walk false false false false true f g h p q r = absurd (cc)
no_walk false false false false false f g h p q r = (refl, (refl, refl))

-- the styles that runs and lookups don't have
record Without (ls : List Looplet) : Type 0 where
  shifts : has shift ls ≡ false
  switches : has switch ls ≡ false
  sequences : has sequence ls ≡ false
  jumpers : has jumper ls ≡ false
  steppers : has stepper ls ≡ false
  spikes : has spike ls ≡ false

all_flat : (ls : List Looplet) → Without ls → AllFlat ls
all_flat [] w = tt
all_flat (Run k ∷ rest) w = (refl, all_flat rest (record { shifts = w.shifts; switches = w.switches; sequences = w.sequences; jumpers = w.jumpers; steppers = w.steppers; spikes = w.spikes }))
all_flat (Spike b t ∷ rest) w = let e = w.spikes in absurd (cc)
all_flat (Lookup c k ∷ rest) w = (refl, all_flat rest (record { shifts = w.shifts; switches = w.switches; sequences = w.sequences; jumpers = w.jumpers; steppers = w.steppers; spikes = w.spikes }))
all_flat (Sequence' n ps ∷ rest) w = let e = w.sequences in absurd (cc)
all_flat (Stepper' p u ∷ rest) w = let e = w.steppers in absurd (cc)
all_flat (Jumper' p u ∷ rest) w = let e = w.jumpers in absurd (cc)
all_flat (Switch' n cs ∷ rest) w = let e = w.switches in absurd (cc)
all_flat (Shift' by p c ∷ rest) w = let e = w.shifts in absurd (cc)

pub flat_style : (ls : List Looplet) → has shift ls ≡ false → has switch ls ≡ false → has spike ls ≡ false → is_point_style (style_of ls) ≡ true → AllFlat ls
flat_style ls a b f p =
    let w = no_walk (has shift ls) (has switch ls) (has sequence ls) (has jumper ls) (has stepper ls) (has spike ls) (has run ls) (has lookup ls) a b p in
    all_flat ls (record { shifts = a; switches = b; sequences = w.0; jumpers = w.1.0; steppers = w.1.1; spikes = f })

-- ---- what has a style

has_kind : (kind : Looplet → Bool) (b r : Bool) (l : Looplet) (rest : List Looplet) → kind l ≡ b → (r ≡ true → Has kind rest) → (b || r) ≡ true → Has kind (l ∷ rest)
has_kind kind true r l rest e k h = inl e
has_kind kind false r l rest e k h = inr (k h)

pub has_shift : (ls : List Looplet) → has shift ls ≡ true → Has is_shift ls
has_shift [] h = absurd (cc)
has_shift (l ∷ rest) h = has_kind is_shift (is_shift l) (has shift rest) l rest refl (has_shift rest) h

pub has_spike : (ls : List Looplet) → has spike ls ≡ true → Has is_spike ls
has_spike [] h = absurd (cc)
has_spike (l ∷ rest) h = has_kind is_spike (is_spike l) (has spike rest) l rest refl (has_spike rest) h
