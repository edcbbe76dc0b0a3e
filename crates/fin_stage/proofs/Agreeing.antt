-- Modes and stages that agree, and what keeps them so.
use Rattle.std.proofs.Common.{◌≡◌, ◌≢◌, ◌<◌, ◌+◌, ℕ, zero, suc, Bool, true, false, List, [], ◌∷◌, Option, Some, None, if◌then◌else◌, refl, sym, ap, ◌∙◌, subst, arith, length, get_or-set_same, get_or-set_other}
use Rattle.std.specs.Prelude.{slice_set, ◌==◌}
use Rattle.std.proofs.lemmas.Bool.Decides.{nat_tests}
use Rattle.fin_base.specs.declared.refusal.Rule.{Rule}
use Rattle.fin_tensor.specs.TensorFunction.{TensorFunction}
use Rattle.fin_ast.proofs.Unbroken.{first_none, second_none, unbroken}
use Rattle.fin_ast.specs.declared.header.Header.{Header}
use Rattle.fin_ast.specs.declared.mode.Mode.{Mode}
use Rattle.fin_ast.specs.declared.mode.Mode.TheVariants.{Undeclared, Update, Read}
use Rattle.fin_ast.specs.Sizes.{broken, first_from}
use Rattle.fin_ast.specs.Life.{is_changed, first_changed}
use Rattle.fin_ast.specs.Dense.{Setting, made_at}
use Rattle.fin_life.specs.Passage.{ModeOf, turned}
use Rattle.fin_stage.specs.Stages.{Stage, Absent, Built, Frozen, stage_at, is_declared, kept}

-- a tensor's mode, whether it is given, and its stage
abbrev pub Agrees : Mode → Option TensorFunction → Stage → Type 0
Agrees Undeclared None Absent = Unit {0}
Agrees Update None (Built b) = Unit {0}
Agrees Read None (Frozen format f) = Unit {0}
Agrees Read (Some g) Absent = Unit {0}
Agrees mode given stage = ⊥

abbrev pub AllAgree : Setting → ModeOf → List Stage → Type 0
AllAgree w now stages = (t : ℕ) → Agrees (now t) (made_at w.given t) (stage_at stages t)

-- ---- no breach
pub unchanged_from : (begin now : ModeOf) (line n : ℕ) (hs : List Header) (t : ℕ) → first_from (λ t h. broken (is_changed (begin t) (now t)) Rule.L6 line) n hs ≡ None → t < length hs → is_changed (begin (n + t)) (now (n + t)) ≡ false
unchanged_from begin now line n [] t e h = absurd (omega arith)
unchanged_from begin now line n (x ∷ hs) zero e h =
    subst (λ (k : ℕ). is_changed (begin k) (now k) ≡ false) (omega arith) (unbroken (is_changed (begin n) (now n)) Rule.L6 line (first_none _ (first_from (λ t h. broken (is_changed (begin t) (now t)) Rule.L6 line) (n + 1) hs) e))
unchanged_from begin now line n (x ∷ hs) (suc t) e h =
    subst (λ (k : ℕ). is_changed (begin k) (now k) ≡ false) (omega arith) (unchanged_from begin now line (n + 1) hs t (second_none (broken (is_changed (begin n) (now n)) Rule.L6 line) _ e) (omega arith))

-- ---- a body's end
kept_declared : (before stages : List Stage) (t : ℕ) → is_declared (stage_at before t) ≡ true → stage_at (kept before stages) t ≡ stage_at stages t
kept_declared [] stages t e = refl
kept_declared (b ∷ before) [] t e = refl
kept_declared (b ∷ before) (x ∷ stages) zero e = ap (λ (d : Bool). if d then x else Absent) e
kept_declared (b ∷ before) (x ∷ stages) (suc t) e = kept_declared before stages t e

kept_absent : (before stages : List Stage) (t : ℕ) → length stages ≡ length before → is_declared (stage_at before t) ≡ false → stage_at (kept before stages) t ≡ Absent
kept_absent [] [] t l e = refl
kept_absent [] (x ∷ stages) t l e = absurd (omega (arith, l))
kept_absent (b ∷ before) [] t l e = refl
kept_absent (b ∷ before) (x ∷ stages) zero l e = ap (λ (d : Bool). if d then x else Absent) e
kept_absent (b ∷ before) (x ∷ stages) (suc t) l e = kept_absent before stages t (omega (arith, l)) e

declared_inside : (stages : List Stage) (t : ℕ) → is_declared (stage_at stages t) ≡ true → t < length stages
declared_inside [] t e = cc
declared_inside (x ∷ stages) zero e = omega arith
declared_inside (x ∷ stages) (suc t) e = omega (arith, declared_inside stages t e)

close_one : (m n : Mode) (g : Option TensorFunction) (b x y : Stage) → (is_declared b ≡ true → is_changed m n ≡ false) → Agrees m g b → Agrees n g x → (is_declared b ≡ true → y ≡ x) → (is_declared b ≡ false → y ≡ Absent) → Agrees m g y
close_one Undeclared n None Absent x y c a a' d u = subst (Agrees Undeclared None) (sym (u refl)) tt
close_one Undeclared n None (Built b) x y c a a' d u = absurd a
close_one Undeclared n None (Frozen format f) x y c a a' d u = absurd a
close_one Undeclared n (Some g) b x y c a a' d u = absurd a
close_one Update Undeclared None (Built b) x y c a a' d u = let e : true ≡ false = c refl in cc
close_one Update Update None (Built b) x y c a a' d u = subst (Agrees Update None) (sym (d refl)) a'
close_one Update Read None (Built b) x y c a a' d u = let e : true ≡ false = c refl in cc
close_one Update n None Absent x y c a a' d u = absurd a
close_one Update n None (Frozen format f) x y c a a' d u = absurd a
close_one Update n (Some g) b x y c a a' d u = absurd a
close_one Read Undeclared None (Frozen format f) x y c a a' d u = let e : true ≡ false = c refl in cc
close_one Read Update None (Frozen format f) x y c a a' d u = let e : true ≡ false = c refl in cc
close_one Read Read None (Frozen format f) x y c a a' d u = subst (Agrees Read None) (sym (d refl)) a'
close_one Read n None Absent x y c a a' d u = absurd a
close_one Read n None (Built b) x y c a a' d u = absurd a
close_one Read n (Some g) Absent x y c a a' d u = subst (Agrees Read (Some g)) (sym (u refl)) tt
close_one Read n (Some g) (Built b) x y c a a' d u = absurd a
close_one Read n (Some g) (Frozen format f) x y c a a' d u = absurd a

pub closes_agree : (w : Setting) (hs : List Header) (begin now : ModeOf) (line : ℕ) (before stages : List Stage) → length before ≡ length hs → length stages ≡ length before → first_changed begin now line hs ≡ None → AllAgree w begin before → AllAgree w now stages → AllAgree w begin (kept before stages)
closes_agree w hs begin now line before stages lb ls e a a' t =
    close_one (begin t) (now t) (made_at w.given t) (stage_at before t) (stage_at stages t) (stage_at (kept before stages) t)
    (λ d. subst (λ (k : ℕ). is_changed (begin k) (now k) ≡ false) (omega arith) (unchanged_from begin now line 0 hs t e (omega (arith, lb, declared_inside before t d)))) (a t) (a' t) (kept_declared before stages t) (kept_absent before stages t ls)

-- ---- one tensor is led to another stage
same_number : (a b : ℕ) → (a == b) ≡ true → a ≡ b
same_number a b e = grind (arith, nat_tests)

other_number : (a b : ℕ) → (a == b) ≡ false → a ≢ b
other_number a b e = grind (arith, nat_tests)

pub set_agree : (w : Setting) (now : ModeOf) (stages : List Stage) (t : ℕ) (mode : Mode) (x : Stage) → t < length stages → Agrees mode (made_at w.given t) x → AllAgree w now stages → AllAgree w (turned now t mode) (slice_set stages t x)
set_agree w now stages t mode x lt ax a j = elim (t == j) as (λ b. (t == j) ≡ b → Agrees (if b then mode else now j) (made_at w.given j) (stage_at (slice_set stages t x) j)) [
  | true ↦ λ e. let same : t ≡ j = same_number t j e in
      subst (λ (k : ℕ). Agrees mode (made_at w.given k) (stage_at (slice_set stages t x) k)) same (subst (Agrees mode (made_at w.given t)) (sym (get_or-set_same stages t x Absent lt)) ax)
  | false ↦ λ e. subst (Agrees (now j) (made_at w.given j)) (sym (get_or-set_other stages t j x Absent (λ same. other_number t j e (sym same)))) (a j)
] refl

turned_same : (now : ModeOf) (t : ℕ) (mode : Mode) (j : ℕ) → now t ≡ mode → turned now t mode j ≡ now j
turned_same now t mode j e = elim (t == j) as (λ b. (t == j) ≡ b → (if b then mode else now j) ≡ now j) [
  | true ↦ λ same. sym e ∙ ap now (same_number t j same)
  | false ↦ λ apart. refl
] refl

-- one that stays in its mode
pub stay_agree : (w : Setting) (now : ModeOf) (stages : List Stage) (t : ℕ) (mode : Mode) (x : Stage) → now t ≡ mode → t < length stages → Agrees mode (made_at w.given t) x → AllAgree w now stages → AllAgree w now (slice_set stages t x)
stay_agree w now stages t mode x e lt ax a j = subst (λ (m : Mode). Agrees m (made_at w.given j) (stage_at (slice_set stages t x) j)) (turned_same now t mode j e) (set_agree w now stages t mode x lt ax a j)
