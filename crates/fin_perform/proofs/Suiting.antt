-- Places that suit a statement suit its parts.
use Rattle.std.proofs.Common.{◌≡◌, ◌≢◌, ℕ, Bool, true, false, ◌&&◌, List, [], ◌∷◌, ◌++◌, map, Some, None, append_assoc, length, length-set, refl, sym, ap, ◌∙◌, subst, ℤ, pos, arith}
use Rattle.std.specs.Prelude.{not, nat_eq, slice_set}
use Rattle.std.proofs.lemmas.Bool.{or_left, or_right}
use Rattle.std.proofs.lemmas.Bool.Decides.{nat_tests}
use Rattle.std.proofs.lemmas.List.{get_or-set_other}
use Rattle.std.proofs.lemmas.List.Folds.{list_any-append}
use Rattle.fin_ast.specs.declared.checked.Checked.{Checked}
use Rattle.fin_ast.specs.declared.tree.Stmt.{Stmt}
use Rattle.fin_ast.specs.Bindings.{bindings_of, bindings_of_all}
use Rattle.fin_ast.specs.Scope.{Scope, is_among, within_let}
use Rattle.fin_ast.specs.Value.{Numbers}
use Rattle.fin_nest.specs.Performs.{Place}
use Rattle.fin_simp.specs.Numbered.{Here, past_stmt, past_all}
use Rattle.fin_simp.specs.Rest.{rest_of, written}
use Rattle.fin_simp.specs.Work.{Context, is_in}
use Rattle.fin_perform.specs.Inside.{place_inside, InsideStands}
use Rattle.fin_perform.specs.Places.{Suits, left_of_all, change_all, AllApart, AllMayBind}
use Rattle.fin_perform.proofs.Standing.{places_inside}

-- ---- lists of variables

apart_left : (v : ℕ) (xs ys : List ℕ) → AllApart v (xs ++ ys) → AllApart v xs
apart_left v [] ys a = tt
apart_left v (x ∷ xs) ys a = (a.0, apart_left v xs ys a.1)

bind_left : (p : Place) (count : ℕ) (xs ys : List ℕ) → AllMayBind p count (xs ++ ys) → AllMayBind p count xs
bind_left p count [] ys a = tt
bind_left p count (x ∷ xs) ys a = (record { below = a.0.below; counted = a.0.counted; binds = a.0.binds; apart = apart_left x xs ys a.0.apart }, bind_left p count xs ys a.1)

bind_right : (p : Place) (count : ℕ) (xs ys : List ℕ) → AllMayBind p count (xs ++ ys) → AllMayBind p count ys
bind_right p count [] ys a = a
bind_right p count (x ∷ xs) ys a = bind_right p count xs ys a.1

pub bindings_join : (xs ys : List Stmt) → bindings_of_all (xs ++ ys) ≡ bindings_of_all xs ++ bindings_of_all ys
bindings_join [] ys = refl
bindings_join (x ∷ xs) ys = ap (λ (bs : List ℕ). bindings_of x ++ bs) (bindings_join xs ys) ∙ sym (append_assoc (bindings_of x) (bindings_of_all xs) (bindings_of_all ys))

-- ---- tensors that are changed: by statements one after another, those that any of them changes

-- a rest beside those behind it
beside_all : (cs : List ℕ) (a b : List ℕ) → cs ++ (a ++ b) ≡ (cs ++ a) ++ b
beside_all cs a b = sym (append_assoc cs a b)

changed_join : (xs ys : List Stmt) (h : Here) (ctx : Context)
    → (left_of_all (xs ++ ys) h ctx).changed ≡ (left_of_all xs h ctx).changed ++ (left_of_all ys (past_all (map past_stmt xs) h) ctx).changed
changed_join [] ys h None = refl
changed_join [] ys h (Some m) = refl
changed_join (x ∷ xs) ys h None =
    ap (λ (cs : List ℕ). (written x h).changed ++ cs) (changed_join xs ys (past_stmt x h) None)
    ∙ beside_all (written x h).changed (left_of_all xs (past_stmt x h) None).changed (left_of_all ys (past_all (map past_stmt xs) (past_stmt x h)) None).changed
changed_join (x ∷ xs) ys h (Some m) =
    ap (λ (cs : List ℕ). (rest_of x h m).changed ++ cs) (changed_join xs ys (past_stmt x h) (Some m))
    ∙ beside_all (rest_of x h m).changed (left_of_all xs (past_stmt x h) (Some m)).changed (left_of_all ys (past_all (map past_stmt xs) (past_stmt x h)) (Some m)).changed

pub in_left : (ys zs : List ℕ) (t : ℕ) → is_in ys t ≡ true → is_in (ys ++ zs) t ≡ true
in_left ys zs t e = list_any-append (nat_eq t) ys zs ∙ or_left (is_in ys t) (is_in zs t) e

pub in_right : (ys zs : List ℕ) (t : ℕ) → is_in zs t ≡ true → is_in (ys ++ zs) t ≡ true
in_right ys zs t e = list_any-append (nat_eq t) ys zs ∙ or_right (is_in ys t) (is_in zs t) e

-- ---- places

module _ (c : Checked) (next : ℕ) (sc : Scope) (vars : Numbers) (p : Place) where
  pub suits_as : (bs bs' : List ℕ) (ws ws' : ℕ → Bool) → bs ≡ bs' → ((t : ℕ) → ws' t ≡ true → ws t ≡ true) → Suits c next bs ws sc vars p → Suits c next bs' ws' sc vars p
  suits_as bs bs' ws ws' e f u = record {
    stands = u.stands;
    next_is = u.next_is;
    loose = λ t h. u.loose t (f t h);
    coordinates = u.coordinates;
    unbound = u.unbound;
    may_bind = subst (AllMayBind p (length vars)) e u.may_bind;
  }

  module _ (xs ys : List Stmt) (h : Here) (ctx : Context) where
    abbrev rest : Here
    rest = past_all (map past_stmt xs) h

    abbrev Both : Type 0
    Both = Suits c next (bindings_of_all (xs ++ ys)) (change_all (xs ++ ys) h ctx) sc vars p

    changed_left : (t : ℕ) → change_all xs h ctx t ≡ true → change_all (xs ++ ys) h ctx t ≡ true
    changed_left t e =
        ap (λ (cs : List ℕ). is_in cs t) (changed_join xs ys h ctx)
        ∙ in_left (left_of_all xs h ctx).changed (left_of_all ys rest ctx).changed t e

    changed_right : (t : ℕ) → change_all ys rest ctx t ≡ true → change_all (xs ++ ys) h ctx t ≡ true
    changed_right t e =
        ap (λ (cs : List ℕ). is_in cs t) (changed_join xs ys h ctx)
        ∙ in_right (left_of_all xs h ctx).changed (left_of_all ys rest ctx).changed t e

    pub suits_left : Both → Suits c next (bindings_of_all xs) (change_all xs h ctx) sc vars p
    suits_left u = record {
      stands = u.stands;
      next_is = u.next_is;
      loose = λ t e. u.loose t (changed_left t e);
      coordinates = u.coordinates;
      unbound = u.unbound;
      may_bind = bind_left p (length vars) (bindings_of_all xs) (bindings_of_all ys) (subst (AllMayBind p (length vars)) (bindings_join xs ys) u.may_bind);
    }

    pub suits_right : Both → Suits c next (bindings_of_all ys) (change_all ys rest ctx) sc vars p
    suits_right u = record {
      stands = u.stands;
      next_is = u.next_is;
      loose = λ t e. u.loose t (changed_right t e);
      coordinates = u.coordinates;
      unbound = u.unbound;
      may_bind = bind_right p (length vars) (bindings_of_all xs) (bindings_of_all ys) (subst (AllMayBind p (length vars)) (bindings_join xs ys) u.may_bind);
    }

  -- ---- inside a let

  -- what the code inside binds
  abbrev pub binds_inside : ℕ → ℕ → Bool
  binds_inside var x = p.binds x && not (nat_eq x var)

  own_kept : (var : ℕ) (b : Bool) → nat_eq var var ≡ b → (p.binds var && not b) ≡ false
  own_kept var true e = elim (p.binds var) as (λ k. (k && false) ≡ false) [ true ↦ refl | false ↦ refl ]
  own_kept var false e = absurd (let t : var ≡ var = refl in grind (arith, nat_tests))

  fewer_inside : (var x : ℕ) → p.binds x ≡ false → binds_inside var x ≡ false
  fewer_inside var x e = ap (λ (b : Bool). b && not (nat_eq x var)) e

  apart_test : (var v : ℕ) → var ≢ v → (b : Bool) → nat_eq v var ≡ b → not b ≡ true
  apart_test var v n true e = absurd (n (sym (grind (arith, nat_tests))))
  apart_test var v n false e = refl

  bind_inside : (var : ℕ) (z : ℤ) (vs : List ℕ) → AllApart var vs → AllMayBind p (length vars) vs → AllMayBind (place_inside p (binds_inside var) var z) (length (slice_set vars var z)) vs
  bind_inside var z [] a b = tt
  bind_inside var z (v ∷ vs) a b = (
    record {
      below = b.0.below;
      counted = omega (arith, b.0.counted, length-set vars var z);
      binds = ap (λ (k : Bool). k && not (nat_eq v var)) b.0.binds ∙ apart_test var v a.0 (nat_eq v var) refl;
      apart = b.0.apart;
    },
    bind_inside var z vs a.1 b.1,
  )

  -- the place of the body, whatever the value
  module _ (var : ℕ) (z : ℤ) (vs : List ℕ) (ws : ℕ → Bool) (u : Suits c next (var ∷ vs) ws sc vars p) where
    pub inside_is : InsideStands c sc vars p (binds_inside var) var z
    inside_is = places_inside c sc vars p (binds_inside var) var z u.stands u.may_bind.0.below u.may_bind.0.counted (own_kept var (nat_eq var var) refl) (fewer_inside var)

    -- the let binds no variable of a loop in scope
    other_var : (x : ℕ) → is_among sc.loops x ≡ true → x ≢ var
    other_var x e same = let free = u.unbound x e in let binds = u.may_bind.0.binds in let f = ap p.binds same in cc

    pub suits_inside : Suits c next vs ws (within_let sc var) (slice_set vars var z) (place_inside p (binds_inside var) var z)
    suits_inside = record {
      stands = inside_is.in_let;
      next_is = u.next_is;
      loose = u.loose;
      coordinates = λ x e. let (k, is, low) = u.coordinates x e in (k, get_or-set_other vars var x z (pos 0) (other_var x e) ∙ is, low);
      unbound = λ x e. fewer_inside var x (u.unbound x e);
      may_bind = bind_inside var z vs u.may_bind.0.apart u.may_bind.1;
    }
