-- The sides of the first switch among the looplets of a nest.
use Rattle.std.proofs.Common.{◌≡◌, List, [], ◌∷◌, ◌++◌, Bool, true, false, Option, Some, None, pos, refl, sym, ap, ◌∙◌}
use Rattle.std.specs.Prelude.{not, ◌&&◌, ◌||◌, if◌then◌else◌}
use Rattle.fin_ir.specs.declared.expression.IExpr.{IExpr}
use Rattle.fin_ir.specs.declared.expression.IExpr.TheVariants.{Num}
use Rattle.fin_looplet.specs.declared.looplet.Looplet.{Looplet}
use Rattle.fin_looplet.specs.declared.looplet.Looplet.TheVariants.{Run, Spike, Lookup, Sequence', Stepper', Jumper', Switch', Shift'}
use Rattle.fin_nest.specs.Styles.{switch, has}
use Rattle.fin_nest.specs.declared.entries.Numbered.{Numbered}
use Rattle.fin_nest.specs.Entries.{looplets}
use Rattle.fin_style_point.specs.declared.nest.Nest as plain
use Rattle.fin_style_point.specs.declared.nest.Branch.{Branch}
use Rattle.fin_style_point.specs.declared.nest.Branch.TheVariants.{Taken, Others}
use Rattle.fin_style_point.specs.Steps.{is_switch, Alternatives, alternatives, Choice, here_or_later, first_switch}
use Rattle.fin_style_point.specs.Parts.{all_looplets, side, side_of, choose, test_or, test_of, first_test, nest_test}

same_some : {A : Type 0} (a b : A) → Some a ≡ Some b → a ≡ b
same_some a b e = cc

abbrev given : Option Alternatives → Bool
given None = false
given (Some a) = true

switching : (l : Looplet) → given (alternatives l) ≡ is_switch l
switching (Run k) = refl
switching (Spike b t) = refl
switching (Lookup c k) = refl
switching (Sequence' n ps) = refl
switching (Stepper' p w) = refl
switching (Jumper' p w) = refl
switching (Switch' n cs) = refl
switching (Shift' by p c) = refl

-- ---- there is one

pub record Found (o : Option Choice) : Type 0 where
  pub choice : Choice
  pub is : o ≡ Some choice

found_at : (o : Option Alternatives) (w r : Bool) (l : Looplet) (rest : List Looplet) (p : Option Choice)
    → given o ≡ w → (r ≡ true → Found p) → (w || r) ≡ true → Found (here_or_later o l rest p)
found_at (Some a) w r l rest p e k h = record { choice = record { test = a.test; taken = a.taken ∷ rest; others = a.others ∷ rest }; is = refl }
found_at None true r l rest p e k h = absurd (cc)
found_at None false false l rest p e k h = absurd (cc)
found_at None false true l rest p e k h =
    let f = k refl in
    record { choice = record { test = f.choice.test; taken = l ∷ f.choice.taken; others = l ∷ f.choice.others }; is = ap (here_or_later None l rest) f.is }

pub found : (ls : List Looplet) → has switch ls ≡ true → Found (first_switch ls)
found [] h = absurd (cc)
found (l ∷ rest) h = found_at (alternatives l) (is_switch l) (has switch rest) l rest (first_switch rest) (switching l) (found rest) h

-- ---- its test

tested : (o : Option Alternatives) (w : Bool) (l : Looplet) (rest : List Looplet) (p : Option Choice) (zero later : IExpr) → given o ≡ w → ((d : Choice) → p ≡ Some d → later ≡ d.test)
    → (c : Choice) → here_or_later o l rest p ≡ Some c → (if w then test_or o zero else later) ≡ c.test
tested (Some a) false l rest p zero later e k c h = absurd (cc)
tested (Some a) true l rest p zero later e k c h = ap (λ (x : Choice). x.test) (same_some (record { test = a.test; taken = a.taken ∷ rest; others = a.others ∷ rest }) c h)
tested None true l rest p zero later e k c h = absurd (cc)
tested None false l rest None zero later e k c h = absurd (cc)
tested None false l rest (Some d) zero later e k c h = k d refl ∙ ap (λ (x : Choice). x.test) (same_some (record { test = d.test; taken = l ∷ d.taken; others = l ∷ d.others }) c h)

test_is : (ls : List Looplet) (c : Choice) → first_switch ls ≡ Some c → first_test ls ≡ c.test
test_is [] c h = absurd (cc)
test_is (l ∷ rest) c h = tested (alternatives l) (is_switch l) l rest (first_switch rest) (Num (pos 0)) (first_test rest) (switching l) (test_is rest) c h

test_before_at : (w r : Bool) (t a b : IExpr) → (r ≡ true → a ≡ b) → (w || r) ≡ true → (if w then t else a) ≡ (if w then t else b)
test_before_at true r t a b k h = refl
test_before_at false r t a b k h = k h

test_before : (ls ms : List Looplet) → has switch ls ≡ true → first_test (ls ++ ms) ≡ first_test ls
test_before [] ms h = absurd (cc)
test_before (l ∷ rest) ms h = test_before_at (is_switch l) (has switch rest) (test_of l) (first_test (rest ++ ms)) (first_test rest) (test_before rest ms) h

test_behind_at : (w r : Bool) (t a b : IExpr) → (r ≡ false → a ≡ b) → (w || r) ≡ false → (if w then t else a) ≡ b
test_behind_at true r t a b k h = absurd (cc)
test_behind_at false r t a b k h = k h

test_behind : (ls ms : List Looplet) → has switch ls ≡ false → first_test (ls ++ ms) ≡ first_test ms
test_behind [] ms h = refl
test_behind (l ∷ rest) ms h = test_behind_at (is_switch l) (has switch rest) (test_of l) (first_test (rest ++ ms)) (first_test ms) (test_behind rest ms) h

nest_tested : (b : Bool) (x y z : IExpr) → (b ≡ true → z ≡ x) → (b ≡ false → z ≡ y) → (if b then x else y) ≡ z
nest_tested true x y z h k = sym (h refl)
nest_tested false x y z h k = sym (k refl)

pub nest_test_is : (n : plain.Nest) (c : Choice) → first_switch (all_looplets n) ≡ Some c → nest_test n ≡ c.test
nest_test_is n c h =
    let rs = looplets n.reads in
    let ms = looplets n.masks in
    nest_tested (has switch rs) (first_test rs) (first_test ms) (first_test (rs ++ ms)) (test_before rs ms) (test_behind rs ms) ∙ test_is (rs ++ ms) c h

-- ---- its sides

abbrev pub choice_side : Branch → Choice → List Looplet
choice_side Taken c = c.taken
choice_side Others c = c.others

-- behind the first switch all stay
closed : (branch : Branch) (es : List Numbered) → looplets (choose branch false es) ≡ looplets es
closed branch [] = refl
closed branch (e ∷ es) = ap (λ (r : List Looplet). e.looplet ∷ r) (closed branch es)

side_here : (branch : Branch) (a : Alternatives) (rest : List Looplet)
    → side branch a ∷ rest ≡ choice_side branch (record { test = a.test; taken = a.taken ∷ rest; others = a.others ∷ rest })
side_here Taken a rest = refl
side_here Others a rest = refl

side_later : (branch : Branch) (l : Looplet) (d : Choice) → l ∷ choice_side branch d ≡ choice_side branch (record { test = d.test; taken = l ∷ d.taken; others = l ∷ d.others })
side_later Taken l d = refl
side_later Others l d = refl

-- the looplets of two lists, with the first switch by a side
abbrev pub sided : Branch → List Numbered → List Numbered → List Looplet
sided branch es ms = looplets (choose branch true es) ++ looplets (choose branch (not (has switch (looplets es))) ms)

sided_at : (branch : Branch) (l : Looplet) (es ms : List Numbered) (o : Option Alternatives) (w : Bool) (p : Option Choice) → given o ≡ w
    → ((d : Choice) → p ≡ Some d → sided branch es ms ≡ choice_side branch d)
    → (c : Choice) → here_or_later o l (looplets es ++ looplets ms) p ≡ Some c
    → side_of branch o l ∷ (looplets (choose branch (true && not w) es) ++ looplets (choose branch (not (w || has switch (looplets es))) ms)) ≡ choice_side branch c
sided_at branch l es ms (Some a) false p e k c h = absurd (cc)
sided_at branch l es ms (Some a) true p e k c h =
    let rest = looplets es ++ looplets ms in
    ap (λ (r : List Looplet). side branch a ∷ (r ++ looplets (choose branch false ms))) (closed branch es)
    ∙ ap (λ (r : List Looplet). side branch a ∷ (looplets es ++ r)) (closed branch ms)
    ∙ side_here branch a rest
    ∙ ap (choice_side branch) (same_some (record { test = a.test; taken = a.taken ∷ rest; others = a.others ∷ rest }) c h)
sided_at branch l es ms None true p e k c h = absurd (cc)
sided_at branch l es ms None false None e k c h = absurd (cc)
sided_at branch l es ms None false (Some d) e k c h =
    ap (λ (r : List Looplet). l ∷ r) (k d refl)
    ∙ side_later branch l d
    ∙ ap (choice_side branch) (same_some (record { test = d.test; taken = l ∷ d.taken; others = l ∷ d.others }) c h)

-- in one list
alone_at : (branch : Branch) (l : Looplet) (ms : List Numbered) (o : Option Alternatives) (w : Bool) (p : Option Choice) → given o ≡ w
    → ((d : Choice) → p ≡ Some d → looplets (choose branch true ms) ≡ choice_side branch d)
    → (c : Choice) → here_or_later o l (looplets ms) p ≡ Some c
    → side_of branch o l ∷ looplets (choose branch (true && not w) ms) ≡ choice_side branch c
alone_at branch l ms (Some a) false p e k c h = absurd (cc)
alone_at branch l ms (Some a) true p e k c h =
    ap (λ (r : List Looplet). side branch a ∷ r) (closed branch ms)
    ∙ side_here branch a (looplets ms)
    ∙ ap (choice_side branch) (same_some (record { test = a.test; taken = a.taken ∷ looplets ms; others = a.others ∷ looplets ms }) c h)
alone_at branch l ms None true p e k c h = absurd (cc)
alone_at branch l ms None false None e k c h = absurd (cc)
alone_at branch l ms None false (Some d) e k c h =
    ap (λ (r : List Looplet). l ∷ r) (k d refl)
    ∙ side_later branch l d
    ∙ ap (choice_side branch) (same_some (record { test = d.test; taken = l ∷ d.taken; others = l ∷ d.others }) c h)

alone : (branch : Branch) (ms : List Numbered) (c : Choice) → first_switch (looplets ms) ≡ Some c → looplets (choose branch true ms) ≡ choice_side branch c
alone branch [] c h = absurd (cc)
alone branch (m ∷ ms) c h = alone_at branch m.looplet ms (alternatives m.looplet) (is_switch m.looplet) (first_switch (looplets ms)) (switching m.looplet) (alone branch ms) c h

pub sided_is : (branch : Branch) (es ms : List Numbered) (c : Choice) → first_switch (looplets es ++ looplets ms) ≡ Some c → sided branch es ms ≡ choice_side branch c
sided_is branch [] ms c h = alone branch ms c h
sided_is branch (e ∷ es) ms c h =
    sided_at branch e.looplet es ms (alternatives e.looplet) (is_switch e.looplet) (first_switch (looplets es ++ looplets ms)) (switching e.looplet) (sided_is branch es ms) c h
