-- What the values of expressions depend on.
use Rattle.std.proofs.Common.{◌≡◌, ℕ, ◌⊎◌, List, Bool, true, false, refl, sym, ap, ◌∙◌, subst, ℤ, pos, T, get_or-set_other}
use Rattle.std.specs.Prelude.{◌||◌, nat_eq, slice_index_or, slice_set, if◌then◌else◌}
use Rattle.std.proofs.Math.Dec.{eqb_refl}
use Rattle.std.proofs.lemmas.Bool.{eqb-true, or_left, or_right, or_cases}
use Rattle.fin_base.specs.declared.terms.Op.{Op}
use Rattle.fin_base.specs.Words.{operate, negated}
use Rattle.fin_ir.specs.declared.expression.IExpr.{IExpr, ind-IExpr, map-IExpr, fold-roll-IExpr, roll-IExpr}
use Rattle.fin_ir.specs.declared.expression.IExpr.TheOpen.{IExpr-F}
use Rattle.fin_ir.specs.declared.expression.IExpr.TheVariants.{Num, Local, Two}
use Rattle.fin_ir.specs.Loads.{table_in, part_at, number_at, word_at, seek_in}
use Rattle.fin_ir.specs.Machine.{Tensor}
use Rattle.fin_ir.specs.Value.{extents_in, parts_in, words_in, is_off, times, Reading, value_step, value_of}
use Rattle.fin_ir.proofs.Nodes.{of_num, of_local, of_two}
use Rattle.fin_looplet.specs.View.{Store, value}
use Rattle.fin_looplet.specs.Names.{names_step, names, Names, loads_step, loads, Loads}

abbrev pub get : List ℤ → ℕ → ℤ
get ls x = slice_index_or ls x (pos 0)

pub same_nat : (x : ℕ) → nat_eq x x ≡ true
same_nat x = elim (nat_eq x x) as (λ b. T b → b ≡ true) [ true ↦ (λ t. refl) | false ↦ (λ t. absurd t) ] (eqb_refl x)

-- ---- the value is that of the locals and tensors that are named
abbrev Same : IExpr → Type 0
Same e = (ts ts' : Store) (ls ls' : List ℤ) → ((x : ℕ) → Names x e → get ls x ≡ get ls' x) → ((t : ℕ) → Loads t e → ts t ≡ ts' t) → value ts ls e ≡ value ts' ls' e

abbrev Known : Type 0
Known = (x : IExpr) × Same x

abbrev inside : IExpr-F Known → IExpr-F IExpr
inside y = map-IExpr Known IExpr (λ (k : Known). k.0) y

step_same : (y : IExpr-F Known) (ts ts' : Store) (ls ls' : List ℤ)
    → ((x : ℕ) → names_step (map-IExpr IExpr (ℕ → Bool) names (inside y)) x ≡ true → get ls x ≡ get ls' x)
    → ((t : ℕ) → loads_step (map-IExpr IExpr (ℕ → Bool) loads (inside y)) t ≡ true → ts t ≡ ts' t)
    → value_step (map-IExpr IExpr Reading value_of (inside y)) ts ls ≡ value_step (map-IExpr IExpr Reading value_of (inside y)) ts' ls'
step_same (IExpr-F.Num n) ts ts' ls ls' h k = refl
step_same (IExpr-F.Local y) ts ts' ls ls' h k = h y (same_nat y)
step_same (IExpr-F.Neg a) ts ts' ls ls' h k = ap negated (a.1 ts ts' ls ls' h k)
step_same (IExpr-F.Two op a b) ts ts' ls ls' h k =
    let u = a.1 ts ts' ls ls' (λ x n. h x (or_left (names a.0 x) (names b.0 x) n)) (λ x n. k x (or_left (loads a.0 x) (loads b.0 x) n)) in
    let v = b.1 ts ts' ls ls' (λ x n. h x (or_right (names a.0 x) (names b.0 x) n)) (λ x n. k x (or_right (loads a.0 x) (loads b.0 x) n)) in
    ap (λ z. operate op z (value ts ls b.0)) u ∙ ap (operate op (value ts' ls' a.0)) v
step_same (IExpr-F.Pick a b c) ts ts' ls ls' h k =
    let u = a.1 ts ts' ls ls' (λ x n. h x (or_left (names a.0 x) (names b.0 x || names c.0 x) n)) (λ x n. k x (or_left (loads a.0 x) (loads b.0 x || loads c.0 x) n)) in
    let v = b.1 ts ts' ls ls' (λ x n. h x (or_right (names a.0 x) (names b.0 x || names c.0 x) (or_left (names b.0 x) (names c.0 x) n))) (λ x n. k x (or_right (loads a.0 x) (loads b.0 x || loads c.0 x) (or_left (loads b.0 x) (loads c.0 x) n))) in
    let w = c.1 ts ts' ls ls' (λ x n. h x (or_right (names a.0 x) (names b.0 x || names c.0 x) (or_right (names b.0 x) (names c.0 x) n))) (λ x n. k x (or_right (loads a.0 x) (loads b.0 x || loads c.0 x) (or_right (loads b.0 x) (loads c.0 x) n))) in
    ap (λ z. if is_off z then value ts ls c.0 else value ts ls b.0) u ∙ ap (λ z. if is_off (value ts' ls' a.0) then value ts ls c.0 else z) v ∙ ap (λ z. if is_off (value ts' ls' a.0) then z else value ts' ls' b.0) w
step_same (IExpr-F.Times by a b) ts ts' ls ls' h k =
    let u = a.1 ts ts' ls ls' (λ x n. h x (or_left (names a.0 x) (names b.0 x) n)) (λ x n. k x (or_left (loads a.0 x) (loads b.0 x) n)) in
    let v = b.1 ts ts' ls ls' (λ x n. h x (or_right (names a.0 x) (names b.0 x) n)) (λ x n. k x (or_right (loads a.0 x) (loads b.0 x) n)) in
    ap (λ z. times by z (value ts ls b.0)) u ∙ ap (times by (value ts' ls' a.0)) v
step_same (IExpr-F.Cell tensor level table a) ts ts' ls ls' h k =
    let t = k tensor (or_left (nat_eq tensor tensor) (loads a.0 tensor) (same_nat tensor)) in
    let u = a.1 ts ts' ls ls' h (λ x n. k x (or_right (nat_eq x tensor) (loads a.0 x) n)) in
    ap (λ (y : Tensor). number_at (table_in table (part_at (parts_in y) level)) (value ts ls a.0)) t ∙ ap (number_at (table_in table (part_at (parts_in (ts' tensor)) level))) u
step_same (IExpr-F.Seek tensor level a b c) ts ts' ls ls' h k =
    let t = k tensor (or_left (nat_eq tensor tensor) (loads a.0 tensor || (loads b.0 tensor || loads c.0 tensor)) (same_nat tensor)) in
    let u = a.1 ts ts' ls ls' (λ x n. h x (or_left (names a.0 x) (names b.0 x || names c.0 x) n)) (λ x n. k x (or_right (nat_eq x tensor) (loads a.0 x || (loads b.0 x || loads c.0 x)) (or_left (loads a.0 x) (loads b.0 x || loads c.0 x) n))) in
    let v = b.1 ts ts' ls ls' (λ x n. h x (or_right (names a.0 x) (names b.0 x || names c.0 x) (or_left (names b.0 x) (names c.0 x) n))) (λ x n. k x (or_right (nat_eq x tensor) (loads a.0 x || (loads b.0 x || loads c.0 x)) (or_right (loads a.0 x) (loads b.0 x || loads c.0 x) (or_left (loads b.0 x) (loads c.0 x) n)))) in
    let w = c.1 ts ts' ls ls' (λ x n. h x (or_right (names a.0 x) (names b.0 x || names c.0 x) (or_right (names b.0 x) (names c.0 x) n))) (λ x n. k x (or_right (nat_eq x tensor) (loads a.0 x || (loads b.0 x || loads c.0 x)) (or_right (loads a.0 x) (loads b.0 x || loads c.0 x) (or_right (loads b.0 x) (loads c.0 x) n)))) in
    ap (λ (y : Tensor). seek_in (extents_in y) (parts_in y) level (value ts ls a.0) (value ts ls b.0) (value ts ls c.0)) t
    ∙ ap (λ z. seek_in (extents_in (ts' tensor)) (parts_in (ts' tensor)) level z (value ts ls b.0) (value ts ls c.0)) u
    ∙ ap (λ z. seek_in (extents_in (ts' tensor)) (parts_in (ts' tensor)) level (value ts' ls' a.0) z (value ts ls c.0)) v
    ∙ ap (λ z. seek_in (extents_in (ts' tensor)) (parts_in (ts' tensor)) level (value ts' ls' a.0) (value ts' ls' b.0) z) w
step_same (IExpr-F.Val tensor a) ts ts' ls ls' h k =
    let t = k tensor (or_left (nat_eq tensor tensor) (loads a.0 tensor) (same_nat tensor)) in
    let u = a.1 ts ts' ls ls' h (λ x n. k x (or_right (nat_eq x tensor) (loads a.0 x) n)) in
    ap (λ (y : Tensor). word_at (words_in y) (value ts ls a.0)) t ∙ ap (word_at (words_in (ts' tensor))) u

rolled : (z : IExpr-F IExpr) (y : IExpr-F Known) → inside y ≡ z → Same (roll-IExpr z)
rolled z y is ts ts' ls ls' h k =
    let v : (ts : Store) (ls : List ℤ) → value ts ls (roll-IExpr z) ≡ value_step (map-IExpr IExpr Reading value_of (inside y)) ts ls =
    λ ts ls. ap (λ (r : Reading). r ts ls) (fold-roll-IExpr Reading value_step z) ∙ sym (ap (λ (d : IExpr-F IExpr). value_step (map-IExpr IExpr Reading value_of d) ts ls) is) in
    let n : (x : ℕ) → names_step (map-IExpr IExpr (ℕ → Bool) names (inside y)) x ≡ names (roll-IExpr z) x =
    λ x. ap (λ (d : IExpr-F IExpr). names_step (map-IExpr IExpr (ℕ → Bool) names d) x) is ∙ sym (ap (λ (r : ℕ → Bool). r x) (fold-roll-IExpr (ℕ → Bool) names_step z)) in
    let l : (x : ℕ) → loads_step (map-IExpr IExpr (ℕ → Bool) loads (inside y)) x ≡ loads (roll-IExpr z) x =
    λ x. ap (λ (d : IExpr-F IExpr). loads_step (map-IExpr IExpr (ℕ → Bool) loads d) x) is ∙ sym (ap (λ (r : ℕ → Bool). r x) (fold-roll-IExpr (ℕ → Bool) loads_step z)) in
    v ts ls ∙ step_same y ts ts' ls ls' (λ x e. h x (sym (n x) ∙ e)) (λ t e. k t (sym (l t) ∙ e)) ∙ sym (v ts' ls')

pub value_alike : (e : IExpr) → Same e
value_alike = ind-IExpr Same rolled

pub value_same : (ts : Store) (e : IExpr) (ls ls' : List ℤ) → ((x : ℕ) → Names x e → get ls x ≡ get ls' x) → value ts ls e ≡ value ts ls' e
value_same ts e ls ls' h = value_alike e ts ts ls ls' h (λ t l. refl)

pub value_seen : (ts ts' : Store) (e : IExpr) (ls : List ℤ) → ((t : ℕ) → Loads t e → ts t ≡ ts' t) → value ts ls e ≡ value ts' ls e
value_seen ts ts' e ls h = value_alike e ts ts' ls ls (λ x n. refl) h

-- a write to a local that it doesn't name
pub value_set : (ts : Store) (ls : List ℤ) (x : ℕ) (v : ℤ) (e : IExpr) → (Names x e → ⊥) → value ts (slice_set ls x v) e ≡ value ts ls e
value_set ts ls x v e clear = value_same ts e (slice_set ls x v) ls (λ y n. get_or-set_other ls x y v (pos 0) (λ is. clear (subst (λ z. Names z e) is n)))

-- ---- what small expressions name and load
pub names_two : (x : ℕ) (o : Op) (a b : IExpr) → Names x (Two o a b) → Names x a ⊎ Names x b
names_two x o a b n = or_cases (names a x) (names b x) (sym (ap (λ (f : ℕ → Bool). f x) (of_two (ℕ → Bool) names_step o a b)) ∙ n)

pub names_num : (x : ℕ) (z : ℤ) → Names x (Num z) → ⊥
names_num x z n = let e : names (Num z) x ≡ false = ap (λ (f : ℕ → Bool). f x) (of_num (ℕ → Bool) names_step z) in absurd (subst T (sym n ∙ e) tt)

pub names_local : (x y : ℕ) → Names x (Local y) → x ≡ y
names_local x y n = eqb-true x y (sym (ap (λ (f : ℕ → Bool). f x) (of_local (ℕ → Bool) names_step y)) ∙ n)

pub loads_two : (t : ℕ) (o : Op) (a b : IExpr) → Loads t (Two o a b) → Loads t a ⊎ Loads t b
loads_two t o a b n = or_cases (loads a t) (loads b t) (sym (ap (λ (f : ℕ → Bool). f t) (of_two (ℕ → Bool) loads_step o a b)) ∙ n)

pub loads_num : (t : ℕ) (z : ℤ) → Loads t (Num z) → ⊥
loads_num t z n = let e : loads (Num z) t ≡ false = ap (λ (f : ℕ → Bool). f t) (of_num (ℕ → Bool) loads_step z) in absurd (subst T (sym n ∙ e) tt)

pub loads_local : (t y : ℕ) → Loads t (Local y) → ⊥
loads_local t y n = let e : loads (Local y) t ≡ false = ap (λ (f : ℕ → Bool). f t) (of_local (ℕ → Bool) loads_step y) in absurd (subst T (sym n ∙ e) tt)
