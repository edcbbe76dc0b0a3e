-- What is known of an expression by how it is written is so, and the ends of a sequence's parts are where the parts meet, or
-- beside a region that has no coordinate.
use Rattle.std.proofs.Common.{◌≡◌, ℕ, ◌^◌, ◌⊎◌, inl, inr, ⊎_elim, ◌+◌, ◌<◌, List, Bool, true, false, Option, Some, None, refl, sym, ap, ◌∙◌, subst, ℤ, pos, ◌≤ℤ◌, arith}
use Rattle.std.specs.Prelude.{if◌then◌else◌}
use Rattle.std.specs.Int.{int_min, int_max}
use Rattle.std.specs.Ordering.{int_eq}
use Rattle.std.proofs.lemmas.Bool.{cases_lt}
use Rattle.std.proofs.lemmas.Bool.Decides.{Decides-int_eq}
use Rattle.std.proofs.lemmas.Int.{int_min_is, int_max_is}
use borrow.Author.Differences.{up, down, same_in, le_out, at_most_in, le-true}
use Rattle.fin_base.specs.declared.terms.Op.{Op}
use Rattle.fin_base.specs.declared.terms.Op.TheVariants as op
use Rattle.fin_base.specs.Words.{operate}
use Rattle.fin_ir.specs.declared.expression.IExpr.{IExpr, ind-IExpr, map-IExpr, fold-roll-IExpr, roll-IExpr}
use Rattle.fin_ir.specs.declared.expression.IExpr.TheOpen.{IExpr-F}
use Rattle.fin_ir.specs.declared.expression.IExpr.TheVariants.{Num, Local, Two}
use Rattle.fin_ir.specs.Value.{Reading, value_step, value_of}
use Rattle.fin_ir.proofs.Values.{value_two, value_num}
use Rattle.fin_looplet.specs.Names.{Names, Loads}
use Rattle.fin_looplet.specs.View.{Store, value}
use Rattle.fin_looplet.proofs.Exprs.{names_two, names_num, names_local, loads_two, loads_num, loads_local}
use Rattle.fin_style_step.specs.declared.limits.Limits.{Limits}
use Rattle.fin_style_step.specs.Limited.{unlimited, exactly, of_both, of_any, same_number, only, limits_two, limits_step, limits_of, capped, raised, end_before, begin_behind, is_under, is_void}
use Rattle.fin_style_step.proofs.Phases.{same_some}

-- ---- a value within limits

abbrev Over : Option ℤ → ℤ → Type 0
Over o v = (n : ℤ) → o ≡ Some n → v ≤ℤ n

abbrev Under : Option ℤ → ℤ → Type 0
Under o v = (n : ℤ) → o ≡ Some n → n ≤ℤ v

record Within (l : Limits) (v : ℤ) : Type 0 where
  pub least : Under l.least v
  pub most : Over l.most v

le_self : (v : ℤ) → v ≤ℤ v
le_self v = at_most_in v v (omega arith)

le_both : (a b c : ℤ) → a ≤ℤ b → b ≤ℤ c → a ≤ℤ c
le_both a b c h k = at_most_in a c (omega (arith, le_out a b h, le_out b c k))

le_same : (a b : ℤ) → a ≤ℤ b → b ≤ℤ a → a ≡ b
le_same a b h k = same_in a b (omega (arith, le_out a b h, le_out b a k))

over_some : (v n : ℤ) → v ≤ℤ n → Over (Some n) v
over_some v n h m e = subst (λ z. v ≤ℤ z) (same_some n m e) h

under_some : (v n : ℤ) → n ≤ℤ v → Under (Some n) v
under_some v n h m e = subst (λ z. z ≤ℤ v) (same_some n m e) h

over_none : (v : ℤ) → Over None v
over_none v n e = absurd (cc)

under_none : (v : ℤ) → Under None v
under_none v n e = absurd (cc)

-- ---- the lesser and the greater one

min_left : (v w : ℤ) → int_min v w ≤ℤ v
min_left v w = at_most_in (int_min v w) v (omega (arith, int_min_is v w))

min_right : (v w : ℤ) → int_min v w ≤ℤ w
min_right v w = at_most_in (int_min v w) w (omega (arith, int_min_is v w))

max_left : (v w : ℤ) → v ≤ℤ int_max v w
max_left v w = at_most_in v (int_max v w) (omega (arith, int_max_is v w))

max_right : (v w : ℤ) → w ≤ℤ int_max v w
max_right v w = at_most_in w (int_max v w) (omega (arith, int_max_is v w))

min_both : (a b v w : ℤ) → a ≤ℤ v → b ≤ℤ w → int_min a b ≤ℤ int_min v w
min_both a b v w h k = at_most_in (int_min a b) (int_min v w) (omega (arith, int_min_is a b, int_min_is v w, le_out a v h, le_out b w k))

max_both : (a b v w : ℤ) → a ≤ℤ v → b ≤ℤ w → int_max a b ≤ℤ int_max v w
max_both a b v w h k = at_most_in (int_max a b) (int_max v w) (omega (arith, int_max_is a b, int_max_is v w, le_out a v h, le_out b w k))

min_any : (p q : Option ℤ) (v w : ℤ) → Over p v → Over q w → Over (of_any int_min p q) (int_min v w)
min_any None q v w h k n e = le_both (int_min v w) w n (min_right v w) (k n e)
min_any (Some a) None v w h k n e = le_both (int_min v w) v n (min_left v w) (h n e)
min_any (Some a) (Some b) v w h k n e = over_some (int_min v w) (int_min a b) (min_both v w a b (h a refl) (k b refl)) n e

min_all : (p q : Option ℤ) (v w : ℤ) → Under p v → Under q w → Under (of_both int_min p q) (int_min v w)
min_all None q v w h k = under_none (int_min v w)
min_all (Some a) None v w h k = under_none (int_min v w)
min_all (Some a) (Some b) v w h k = under_some (int_min v w) (int_min a b) (min_both a b v w (h a refl) (k b refl))

max_any : (p q : Option ℤ) (v w : ℤ) → Under p v → Under q w → Under (of_any int_max p q) (int_max v w)
max_any None q v w h k n e = le_both n w (int_max v w) (k n e) (max_right v w)
max_any (Some a) None v w h k n e = le_both n v (int_max v w) (h n e) (max_left v w)
max_any (Some a) (Some b) v w h k n e = under_some (int_max v w) (int_max a b) (max_both a b v w (h a refl) (k b refl)) n e

max_all : (p q : Option ℤ) (v w : ℤ) → Over p v → Over q w → Over (of_both int_max p q) (int_max v w)
max_all None q v w h k = over_none (int_max v w)
max_all (Some a) None v w h k = over_none (int_max v w)
max_all (Some a) (Some b) v w h k = over_some (int_max v w) (int_max a b) (max_both v w a b (h a refl) (k b refl))

-- ---- a value that is known

abbrev Is : Option ℤ → ℤ → Type 0
Is o v = (n : ℤ) → o ≡ Some n → v ≡ n

only_if : (c : Bool) (a b v : ℤ) → a ≤ℤ v → v ≤ℤ b → int_eq a b ≡ c → Is (if c then Some a else None) v
only_if true a b v h k t n e = le_same v a (subst (λ z. v ≤ℤ z) (sym ((Decides-int_eq a b).0 t)) k) h ∙ same_some a n e
only_if false a b v h k t n e = absurd (cc)

only_number : (p q : Option ℤ) (v : ℤ) → Under p v → Over q v → Is (same_number p q) v
only_number None q v h k n e = absurd (cc)
only_number (Some a) None v h k n e = absurd (cc)
only_number (Some a) (Some b) v h k n e = only_if (int_eq a b) a b v (h a refl) (k b refl) refl n e

only_is : (l : Limits) (v : ℤ) → Within l v → Is (only l) v
only_is l v w = only_number l.least l.most v w.least w.most

both_are : (f : ℤ → ℤ → ℤ) (p q : Option ℤ) (v w : ℤ) → Is p v → Is q w → Is (of_both f p q) (f v w)
both_are f None q v w h k n e = absurd (cc)
both_are f (Some a) None v w h k n e = absurd (cc)
both_are f (Some a) (Some b) v w h k n e = ap (λ z. f z w) (h a refl) ∙ ap (f a) (k b refl) ∙ same_some (f a b) n e

exactly_is : (o : Option ℤ) (v : ℤ) → Is o v → Within (exactly o) v
exactly_is o v h = record { least = λ n e. subst (λ z. n ≤ℤ z) (sym (h n e)) (le_self n); most = λ n e. subst (λ z. z ≤ℤ n) (sym (h n e)) (le_self n) }

-- ---- each expression

module _ (a b : Limits) (v w : ℤ) (h : Within a v) (k : Within b w) where
  closed : (o : Op) → Within (exactly (of_both (operate o) (only a) (only b))) (operate o v w)
  closed o = exactly_is (of_both (operate o) (only a) (only b)) (operate o v w) (both_are (operate o) (only a) (only b) v w (only_is a v h) (only_is b w k))

  within_two : (o : Op) → Within (limits_two o a b) (operate o v w)
  within_two op.Add = closed op.Add
  within_two op.Sub = closed op.Sub
  within_two op.Mul = closed op.Mul
  within_two op.Min = record { least = min_all a.least b.least v w h.least k.least; most = min_any a.most b.most v w h.most k.most }
  within_two op.Max = record { least = max_any a.least b.least v w h.least k.least; most = max_all a.most b.most v w h.most k.most }
  within_two op.And = closed op.And
  within_two op.Or = closed op.Or
  within_two op.Xor = closed op.Xor
  within_two op.Lt = closed op.Lt
  within_two op.Le = closed op.Le
  within_two op.Gt = closed op.Gt
  within_two op.Ge = closed op.Ge
  within_two op.Eq = closed op.Eq
  within_two op.Ne = closed op.Ne

free : (v : ℤ) → Within unlimited v
free v = record { least = under_none v; most = over_none v }

abbrev IsLimited : IExpr → Type 0
IsLimited e = (ts : Store) (ls : List ℤ) → Within (limits_of e) (value ts ls e)

abbrev Known : Type 0
Known = (x : IExpr) × IsLimited x

abbrev inside : IExpr-F Known → IExpr-F IExpr
inside y = map-IExpr Known IExpr (λ (k : Known). k.0) y

step_limited : (y : IExpr-F Known) (ts : Store) (ls : List ℤ)
    → Within (limits_step (map-IExpr IExpr Limits limits_of (inside y))) (value_step (map-IExpr IExpr Reading value_of (inside y)) ts ls)
step_limited (IExpr-F.Num n) ts ls = exactly_is (Some n) n (λ m e. same_some n m e)
step_limited (IExpr-F.Local x) ts ls = free _
step_limited (IExpr-F.Neg a) ts ls = free _
step_limited (IExpr-F.Two o a b) ts ls = within_two (limits_of a.0) (limits_of b.0) (value ts ls a.0) (value ts ls b.0) (a.1 ts ls) (b.1 ts ls) o
step_limited (IExpr-F.Pick a b c) ts ls = free _
step_limited (IExpr-F.Times by a b) ts ls = free _
step_limited (IExpr-F.Cell tensor level table a) ts ls = free _
step_limited (IExpr-F.Seek tensor level a b c) ts ls = free _
step_limited (IExpr-F.Val tensor a) ts ls = free _

rolled : (z : IExpr-F IExpr) (y : IExpr-F Known) → inside y ≡ z → IsLimited (roll-IExpr z)
rolled z y is ts ls =
    let v : value ts ls (roll-IExpr z) ≡ value_step (map-IExpr IExpr Reading value_of (inside y)) ts ls =
    ap (λ (r : Reading). r ts ls) (fold-roll-IExpr Reading value_step z) ∙ sym (ap (λ (d : IExpr-F IExpr). value_step (map-IExpr IExpr Reading value_of d) ts ls) is) in
    let l : limits_of (roll-IExpr z) ≡ limits_step (map-IExpr IExpr Limits limits_of (inside y)) =
    fold-roll-IExpr Limits limits_step z ∙ sym (ap (λ (d : IExpr-F IExpr). limits_step (map-IExpr IExpr Limits limits_of d)) is) in
    subst (λ (x : Limits). Within x (value ts ls (roll-IExpr z))) (sym l) (subst (Within (limits_step (map-IExpr IExpr Limits limits_of (inside y)))) (sym v) (step_limited y ts ls))

limited : (e : IExpr) → IsLimited e
limited = ind-IExpr IsLimited rolled

-- ---- regions without coordinates

under_is : (p q : Option ℤ) (v w : ℤ) → Over p v → Under q w → is_under p q ≡ true → v ≤ℤ w
under_is None q v w h k e = absurd (cc)
under_is (Some a) None v w h k e = absurd (cc)
under_is (Some a) (Some b) v w h k e = at_most_in v w (omega (arith, le-true a b e, le_out v a (h a refl), le_out b w (k b refl)))

pub void_is : (ts : Store) (ls : List ℤ) (lo hi : IExpr) → is_void lo hi ≡ true → value ts ls hi ≤ℤ value ts ls lo
void_is ts ls lo hi e = under_is (limits_of hi).most (limits_of lo).least (value ts ls hi) (value ts ls lo) (limited hi ts ls).most (limited lo ts ls).least e

-- ---- the end of a part before a stop

-- where it isn't where the parts meet, it lies before that, and no coordinate is up to there
abbrev pub EndsAt : ℤ → ℤ → ℤ → Type 0
EndsAt e meet bound = (e ≡ meet) ⊎ ((e ≤ℤ meet) × ((pos 0 ≤ℤ e) × (bound ≤ℤ e)))

least_at : (c m bound : ℤ) → pos 0 ≤ℤ m → bound ≤ℤ m → EndsAt (int_min c m) c bound
least_at c m bound low over = ⊎_elim
    (λ (q : up m + down c < up c + down m).
    let e : int_min c m ≡ m = same_in (int_min c m) m (omega (arith, int_min_is c m, q)) in
    inr (min_left c m, (subst (λ z. pos 0 ≤ℤ z) (sym e) low, subst (λ z. bound ≤ℤ z) (sym e) over)))
    (λ q. inl (same_in (int_min c m) c (omega (arith, int_min_is c m, q))))
    (cases_lt (up m + down c) (up c + down m))

capped_at : (ts : Store) (ls : List ℤ) (o : Option ℤ) (e : IExpr) (bound : ℤ) → Over o bound → EndsAt (value ts ls (capped o e)) (value ts ls e) bound
capped_at ts ls None e bound h = inl refl
capped_at ts ls (Some n) e bound h =
    let m = int_max n (pos 0) in
    let is : value ts ls (capped (Some n) e) ≡ int_min (value ts ls e) m = value_two ts ls op.Min e (Num m) ∙ ap (int_min (value ts ls e)) (value_num ts ls m) in
    subst (λ z. EndsAt z (value ts ls e) bound) (sym is) (least_at (value ts ls e) m bound (max_right n (pos 0)) (le_both bound n m (h n refl) (max_left n (pos 0))))

pub end_at : (ts : Store) (ls ls' : List ℤ) (hi stop : IExpr) (local : ℕ)
    → EndsAt (value ts ls' (end_before hi stop local)) (value ts ls' (Local local)) (int_min (value ts ls hi) (value ts ls stop))
end_at ts ls ls' hi stop local =
    let h = limited hi ts ls in let s = limited stop ts ls in
    let v = value ts ls hi in let w = value ts ls stop in
    capped_at ts ls' (of_any int_min (limits_of hi).most (limits_of stop).most) (Local local) (int_min v w) (min_any (limits_of hi).most (limits_of stop).most v w h.most s.most)

-- ---- the beginning of the part behind it

-- where it isn't where the parts meet, it lies behind that, and no coordinate is from there on
abbrev pub BeginsAt : ℤ → ℤ → ℤ → Type 0
BeginsAt e meet bound = (e ≡ meet) ⊎ ((meet ≤ℤ e) × ((e ≤ℤ pos (2 ^ 40)) × (e ≤ℤ bound)))

greatest_at : (c m bound : ℤ) → m ≤ℤ pos (2 ^ 40) → m ≤ℤ bound → BeginsAt (int_max c m) c bound
greatest_at c m bound top under = ⊎_elim
    (λ (q : up c + down m < up m + down c).
    let e : int_max c m ≡ m = same_in (int_max c m) m (omega (arith, int_max_is c m, q)) in
    inr (max_left c m, (subst (λ z. z ≤ℤ pos (2 ^ 40)) (sym e) top, subst (λ z. z ≤ℤ bound) (sym e) under)))
    (λ q. inl (same_in (int_max c m) c (omega (arith, int_max_is c m, q))))
    (cases_lt (up c + down m) (up m + down c))

raised_at : (ts : Store) (ls : List ℤ) (o : Option ℤ) (e : IExpr) (bound : ℤ) → Under o bound → BeginsAt (value ts ls (raised o e)) (value ts ls e) bound
raised_at ts ls None e bound h = inl refl
raised_at ts ls (Some n) e bound h =
    let top = pos (2 ^ 40) in
    let m = int_min n top in
    let is : value ts ls (raised (Some n) e) ≡ int_max (value ts ls e) m = value_two ts ls op.Max e (Num m) ∙ ap (int_max (value ts ls e)) (value_num ts ls m) in
    subst (λ z. BeginsAt z (value ts ls e) bound) (sym is) (greatest_at (value ts ls e) m bound (min_right n top) (le_both m n bound (min_left n top) (h n refl)))

pub begin_at : (ts : Store) (ls ls' : List ℤ) (lo stop : IExpr) (local : ℕ)
    → BeginsAt (value ts ls' (begin_behind lo stop local)) (value ts ls' (Local local)) (int_max (value ts ls lo) (value ts ls stop))
begin_at ts ls ls' lo stop local =
    let l = limited lo ts ls in let s = limited stop ts ls in
    let v = value ts ls lo in let w = value ts ls stop in
    raised_at ts ls' (of_any int_max (limits_of lo).least (limits_of stop).least) (Local local) (int_max v w) (max_any (limits_of lo).least (limits_of stop).least v w l.least s.least)

-- ---- what they name and load

either_none : {A : Type 0} {B C : Type 0} → A ⊎ B → (A → C) → (B → ⊥) → C
either_none (inl a) f g = f a
either_none (inr b) f g = absurd (g b)

capped_names : (x : ℕ) (o : Option ℤ) (e : IExpr) → Names x (capped o e) → Names x e
capped_names x None e h = h
capped_names x (Some n) e h = either_none (names_two x op.Min e (Num (int_max n (pos 0))) h) (λ k. k) (names_num x (int_max n (pos 0)))

raised_names : (x : ℕ) (o : Option ℤ) (e : IExpr) → Names x (raised o e) → Names x e
raised_names x None e h = h
raised_names x (Some n) e h = either_none (names_two x op.Max e (Num (int_min n (pos (2 ^ 40)))) h) (λ k. k) (names_num x (int_min n (pos (2 ^ 40))))

capped_loads : (t : ℕ) (o : Option ℤ) (e : IExpr) → Loads t (capped o e) → Loads t e
capped_loads t None e h = h
capped_loads t (Some n) e h = either_none (loads_two t op.Min e (Num (int_max n (pos 0))) h) (λ k. k) (loads_num t (int_max n (pos 0)))

raised_loads : (t : ℕ) (o : Option ℤ) (e : IExpr) → Loads t (raised o e) → Loads t e
raised_loads t None e h = h
raised_loads t (Some n) e h = either_none (loads_two t op.Max e (Num (int_min n (pos (2 ^ 40)))) h) (λ k. k) (loads_num t (int_min n (pos (2 ^ 40))))

module _ (hi stop : IExpr) (local : ℕ) where
  abbrev most_known : Option ℤ
  most_known = of_any int_min (limits_of hi).most (limits_of stop).most

  abbrev least_known : Option ℤ
  least_known = of_any int_max (limits_of hi).least (limits_of stop).least

  pub end_names : (x : ℕ) → Names x (end_before hi stop local) → x ≡ local
  end_names x h = names_local x local (capped_names x most_known (Local local) h)

  pub end_loads : (t : ℕ) → Loads t (end_before hi stop local) → ⊥
  end_loads t h = loads_local t local (capped_loads t most_known (Local local) h)

  pub begin_names : (x : ℕ) → Names x (begin_behind hi stop local) → x ≡ local
  begin_names x h = names_local x local (raised_names x least_known (Local local) h)

  pub begin_loads : (t : ℕ) → Loads t (begin_behind hi stop local) → ⊥
  begin_loads t h = loads_local t local (raised_loads t least_known (Local local) h)
