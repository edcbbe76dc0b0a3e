-- The first sequence among the looplets of a nest, and the looplets before and behind its stop.
use Rattle.std.proofs.Common.{◌≡◌, List, [], ◌∷◌, ◌++◌, map, Bool, true, false, Option, Some, None, refl, sym, ap, ◌∙◌}
use Rattle.std.specs.Prelude.{not, ◌&&◌, ◌||◌, if◌then◌else◌}
use Rattle.fin_ir.specs.declared.expression.IExpr.{IExpr}
use Rattle.fin_looplet.specs.declared.looplet.Looplet.{Looplet}
use Rattle.fin_looplet.specs.declared.looplet.Looplet.TheVariants.{Run, Spike, Lookup, Sequence', Stepper', Jumper', Switch', Shift'}
use Rattle.fin_looplet.specs.Cut.{cut}
use Rattle.fin_nest.specs.Styles.{sequence, has}
use Rattle.fin_nest.specs.declared.entries.Numbered.{Numbered}
use Rattle.fin_nest.specs.Entries.{looplets}
use Rattle.fin_style_step.specs.declared.nest.Nest as plain
use Rattle.fin_style_step.specs.Steps.{Phased, phased, Division, here_or_later, first_sequence}
use Rattle.fin_style_step.specs.Parts.{all_looplets, is_sequence, before_stop, behind_stop, here_one, others_one, by_first, here_all, others_all, stop_of, or_else, first_stop, nest_stop}
use Rattle.fin_style_step.proofs.Phases.{same_some}

abbrev given : Option Phased → Bool
given None = false
given (Some p) = true

sequencing : (l : Looplet) → given (phased l) ≡ is_sequence l
sequencing (Run k) = refl
sequencing (Spike b t) = refl
sequencing (Lookup c k) = refl
sequencing (Sequence' n ps) = refl
sequencing (Stepper' p w) = refl
sequencing (Jumper' p w) = refl
sequencing (Switch' n cs) = refl
sequencing (Shift' by p c) = refl

abbrev at_head : IExpr → Phased → List Looplet → Division
at_head hi p rest = record { stop = p.stop; here = p.here ∷ map (cut hi) rest; others = p.others ∷ rest }

abbrev behind : IExpr → Looplet → Division → Division
behind hi l d = record { stop = d.stop; here = cut hi l ∷ d.here; others = l ∷ d.others }

-- ---- there is one

pub record Found (o : Option Division) : Type 0 where
  pub division : Division
  pub is : o ≡ Some division

found_at : (hi : IExpr) (o : Option Phased) (w r : Bool) (l : Looplet) (rest : List Looplet) (p : Option Division) → given o ≡ w → (r ≡ true → Found p) → (w || r) ≡ true
    → Found (here_or_later hi o l rest p)
found_at hi (Some a) w r l rest p e k h = record { division = at_head hi a rest; is = refl }
found_at hi None true r l rest p e k h = absurd (cc)
found_at hi None false false l rest p e k h = absurd (cc)
found_at hi None false true l rest p e k h = let f = k refl in record { division = behind hi l f.division; is = ap (here_or_later hi None l rest) f.is }

pub found : (hi : IExpr) (ls : List Looplet) → has sequence ls ≡ true → Found (first_sequence hi ls)
found hi [] h = absurd (cc)
found hi (l ∷ rest) h = found_at hi (phased l) (is_sequence l) (has sequence rest) l rest (first_sequence hi rest) (sequencing l) (found hi rest) h

-- ---- its stop

stopped : (hi : IExpr) (o : Option Phased) (l : Looplet) (rest : List Looplet) (p : Option Division) (later : IExpr) → ((d : Division) → p ≡ Some d → later ≡ d.stop)
    → (c : Division) → here_or_later hi o l rest p ≡ Some c → or_else (stop_of o) later ≡ c.stop
stopped hi (Some a) l rest p later k c h = ap (λ (x : Division). x.stop) (same_some (at_head hi a rest) c h)
stopped hi None l rest None later k c h = absurd (cc)
stopped hi None l rest (Some d) later k c h = k d refl ∙ ap (λ (x : Division). x.stop) (same_some (behind hi l d) c h)

stop_is : (hi : IExpr) (ls : List Looplet) (c : Division) → first_sequence hi ls ≡ Some c → first_stop ls ≡ c.stop
stop_is hi [] c h = absurd (cc)
stop_is hi (l ∷ rest) c h = stopped hi (phased l) l rest (first_sequence hi rest) (first_stop rest) (stop_is hi rest) c h

stop_before_at : (o : Option Phased) (w r : Bool) (a b : IExpr) → given o ≡ w → (r ≡ true → a ≡ b) → (w || r) ≡ true → or_else (stop_of o) a ≡ or_else (stop_of o) b
stop_before_at (Some p) w r a b e k h = refl
stop_before_at None true r a b e k h = absurd (cc)
stop_before_at None false r a b e k h = k h

stop_before : (ls ms : List Looplet) → has sequence ls ≡ true → first_stop (ls ++ ms) ≡ first_stop ls
stop_before [] ms h = absurd (cc)
stop_before (l ∷ rest) ms h = stop_before_at (phased l) (is_sequence l) (has sequence rest) (first_stop (rest ++ ms)) (first_stop rest) (sequencing l) (stop_before rest ms) h

stop_behind_at : (o : Option Phased) (w r : Bool) (a b : IExpr) → given o ≡ w → (r ≡ false → a ≡ b) → (w || r) ≡ false → or_else (stop_of o) a ≡ b
stop_behind_at (Some p) true r a b e k h = absurd (cc)
stop_behind_at (Some p) false r a b e k h = absurd (cc)
stop_behind_at None true r a b e k h = absurd (cc)
stop_behind_at None false r a b e k h = k h

stop_behind : (ls ms : List Looplet) → has sequence ls ≡ false → first_stop (ls ++ ms) ≡ first_stop ms
stop_behind [] ms h = refl
stop_behind (l ∷ rest) ms h = stop_behind_at (phased l) (is_sequence l) (has sequence rest) (first_stop (rest ++ ms)) (first_stop ms) (sequencing l) (stop_behind rest ms) h

either : (b : Bool) (x y z : IExpr) → (b ≡ true → z ≡ x) → (b ≡ false → z ≡ y) → (if b then x else y) ≡ z
either true x y z h k = sym (h refl)
either false x y z h k = sym (k refl)

pub nest_stop_is : (n : plain.Nest) (c : Division) → first_sequence n.hi (all_looplets n) ≡ Some c → nest_stop n ≡ c.stop
nest_stop_is n c h =
    let rs = looplets n.reads in
    let ms = looplets n.masks in
    either (has sequence rs) (first_stop rs) (first_stop ms) (first_stop (rs ++ ms)) (stop_before rs ms) (stop_behind rs ms) ∙ stop_is n.hi (rs ++ ms) c h

-- ---- the looplets of one half

closed : (f : Bool → Looplet → Looplet) (es : List Numbered) → looplets (by_first f false es) ≡ map (f false) (looplets es)
closed f [] = refl
closed f (e ∷ es) = ap (λ (r : List Looplet). f false e.looplet ∷ r) (closed f es)

map_joined : (f : Looplet → Looplet) (xs ys : List Looplet) → map f xs ++ map f ys ≡ map f (xs ++ ys)
map_joined f [] ys = refl
map_joined f (x ∷ xs) ys = ap (λ (r : List Looplet). f x ∷ r) (map_joined f xs ys)

-- where a half of a division is made of its head and its tail so
module _ (hi : IExpr) (f : Bool → Looplet → Looplet) (half : Division → List Looplet)
    (head : (l : Looplet) (p : Phased) → phased l ≡ Some p → (rest : List Looplet) → f true l ∷ map (f false) rest ≡ half (at_head hi p rest))
    (tail : (l : Looplet) → phased l ≡ None → (d : Division) → f true l ∷ half d ≡ half (behind hi l d)) where
  abbrev pub halved : List Numbered → List Numbered → List Looplet
  halved es ms = looplets (by_first f true es) ++ looplets (by_first f (not (has sequence (looplets es))) ms)

  halved_at : (l : Looplet) (es ms : List Numbered) (o : Option Phased) (w : Bool) (p : Option Division) → phased l ≡ o → given o ≡ w → ((d : Division) → p ≡ Some d → halved es ms ≡ half d)
      → (c : Division) → here_or_later hi o l (looplets es ++ looplets ms) p ≡ Some c
      → f true l ∷ (looplets (by_first f (true && not w) es) ++ looplets (by_first f (not (w || has sequence (looplets es))) ms)) ≡ half c
  halved_at l es ms (Some a) false p i e k c h = absurd (cc)
  halved_at l es ms (Some a) true p i e k c h =
      ap (λ (r : List Looplet). f true l ∷ (r ++ looplets (by_first f false ms))) (closed f es)
      ∙ ap (λ (r : List Looplet). f true l ∷ (map (f false) (looplets es) ++ r)) (closed f ms)
      ∙ ap (λ (r : List Looplet). f true l ∷ r) (map_joined (f false) (looplets es) (looplets ms))
      ∙ head l a i (looplets es ++ looplets ms)
      ∙ ap half (same_some (at_head hi a (looplets es ++ looplets ms)) c h)
  halved_at l es ms None true p i e k c h = absurd (cc)
  halved_at l es ms None false None i e k c h = absurd (cc)
  halved_at l es ms None false (Some d) i e k c h = ap (λ (r : List Looplet). f true l ∷ r) (k d refl) ∙ tail l i d ∙ ap half (same_some (behind hi l d) c h)

  alone_at : (l : Looplet) (ms : List Numbered) (o : Option Phased) (w : Bool) (p : Option Division) → phased l ≡ o → given o ≡ w → ((d : Division) → p ≡ Some d → looplets (by_first f true ms) ≡ half d)
      → (c : Division) → here_or_later hi o l (looplets ms) p ≡ Some c → f true l ∷ looplets (by_first f (true && not w) ms) ≡ half c
  alone_at l ms (Some a) false p i e k c h = absurd (cc)
  alone_at l ms (Some a) true p i e k c h =
      ap (λ (r : List Looplet). f true l ∷ r) (closed f ms) ∙ head l a i (looplets ms) ∙ ap half (same_some (at_head hi a (looplets ms)) c h)
  alone_at l ms None true p i e k c h = absurd (cc)
  alone_at l ms None false None i e k c h = absurd (cc)
  alone_at l ms None false (Some d) i e k c h = ap (λ (r : List Looplet). f true l ∷ r) (k d refl) ∙ tail l i d ∙ ap half (same_some (behind hi l d) c h)

  alone : (ms : List Numbered) (c : Division) → first_sequence hi (looplets ms) ≡ Some c → looplets (by_first f true ms) ≡ half c
  alone [] c h = absurd (cc)
  alone (m ∷ ms) c h = alone_at m.looplet ms (phased m.looplet) (is_sequence m.looplet) (first_sequence hi (looplets ms)) refl (sequencing m.looplet) (alone ms) c h

  pub halved_is : (es ms : List Numbered) (c : Division) → first_sequence hi (looplets es ++ looplets ms) ≡ Some c → halved es ms ≡ half c
  halved_is [] ms c h = alone ms c h
  halved_is (e ∷ es) ms c h =
      halved_at e.looplet es ms (phased e.looplet) (is_sequence e.looplet) (first_sequence hi (looplets es ++ looplets ms)) refl (sequencing e.looplet) (halved_is es ms) c h

-- ---- both halves

map_same : (ls : List Looplet) → map (others_one false) ls ≡ ls
map_same [] = refl
map_same (l ∷ ls) = ap (λ (r : List Looplet). l ∷ r) (map_same ls)

pub here_is : (hi : IExpr) (es ms : List Numbered) (c : Division) → first_sequence hi (looplets es ++ looplets ms) ≡ Some c
    → looplets (here_all hi true es) ++ looplets (here_all hi (not (has sequence (looplets es))) ms) ≡ c.here
here_is hi es ms c h = halved_is hi (here_one hi) (λ d. d.here)
    (λ l p e rest. ap (λ (o : Option Phased). before_stop hi o l ∷ map (cut hi) rest) e)
    (λ l e d. ap (λ (o : Option Phased). before_stop hi o l ∷ d.here) e) es ms c h

pub others_are : (hi : IExpr) (es ms : List Numbered) (c : Division) → first_sequence hi (looplets es ++ looplets ms) ≡ Some c
    → looplets (others_all true es) ++ looplets (others_all (not (has sequence (looplets es))) ms) ≡ c.others
others_are hi es ms c h = halved_is hi others_one (λ d. d.others)
    (λ l p e rest. ap (λ (o : Option Phased). behind_stop o l ∷ map (others_one false) rest) e ∙ ap (λ (r : List Looplet). p.others ∷ r) (map_same rest))
    (λ l e d. ap (λ (o : Option Phased). behind_stop o l ∷ d.others) e) es ms c h
