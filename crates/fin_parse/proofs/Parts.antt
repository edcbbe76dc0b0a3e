-- The breaches of parts, one by one.
use Rattle.std.proofs.Common.{◌≡◌, ℕ, zero, suc, ◌+◌, ◌-◌, ◌<◌, List, [], ◌∷◌, ◌++◌, map, length, drop, get_or, Option, Result, Ok, Err, IfOk, true, false, refl, sym, ap, ◌∙◌, arith, drop-cons, add-one}
use Rattle.std.specs.Option.{is_some}
use Rattle.fin_base.specs.declared.refusal.Refusal.{Refusal}
use Rattle.fin_parse.specs.declared.tree.Tree.{Tree}
use Rattle.fin_lex.specs.declared.token.Token.{Token}
use Rattle.fin_parse.specs.declared.roles.Role.{Role}
use Rattle.fin_parse.specs.Roles.{name_place, inner_from}
use Rattle.fin_parse.specs.Names.{Facts, Scope, part_at, part_breaches, named_breaches, role_breaches, scope_within, first_of}
use Rattle.fin_parse.proofs.Finds.{first_found, first_passed}

drop_map : {A : Type 0} (f : Tree → A) (i : ℕ) (parts : List Tree) → drop i (map f parts) ≡ map f (drop i parts)
drop_map f zero parts = refl
drop_map f (suc i) [] = refl
drop_map f (suc i) (t ∷ parts) = drop_map f i parts

pub opened : {A : Type 0} (f : Tree → A) (parts : List Tree) (i : ℕ) (t : Tree) → i < length parts → t ≡ get_or parts i t → drop i (map f parts) ≡ f t ∷ drop (i + 1) (map f parts)
opened f parts i t h e =
    let o : drop i parts ≡ get_or parts i t ∷ drop (i + 1) parts = rw add-one (drop-cons parts i t h) in
    drop_map f i parts ∙ ap (map f) (o ∙ ap (λ (u : Tree). u ∷ drop (i + 1) parts) (sym e)) ∙ ap (λ q. f t ∷ q) (sym (drop_map f (i + 1) parts))

module _ (f : Tree → Facts) (outer inner : Scope) (parts : List Tree) (i : ℕ) (t : Tree) (h : i < length parts) (e : t ≡ get_or parts i t) where
  -- a part before the place
  outer_part : (left : ℕ) → 0 < left → part_breaches left (drop i (map f parts)) outer inner ≡ (f t).breaches outer ++ part_breaches (left - 1) (drop (i + 1) (map f parts)) outer inner
  outer_part zero some = absurd (omega arith)
  outer_part (suc n) some = ap (λ q. part_breaches (suc n) q outer inner) (opened f parts i t h e) ∙ ap (λ m. (f t).breaches outer ++ part_breaches m (drop (i + 1) (map f parts)) outer inner) (let s : n ≡ suc n - 1 = omega arith in s)

  -- a part behind it
  inner_part : part_breaches 0 (drop i (map f parts)) outer inner ≡ (f t).breaches inner ++ part_breaches 0 (drop (i + 1) (map f parts)) outer inner
  inner_part = ap (λ q. part_breaches 0 q outer inner) (opened f parts i t h e)

  pub outer_found : (left : ℕ) → 0 < left → (o : Option Refusal) → true ≡ is_some o → o ≡ first_of ((f t).breaches outer) → o ≡ first_of (part_breaches left (drop i (map f parts)) outer inner)
  outer_found left some o m k = first_found ((f t).breaches outer) (part_breaches (left - 1) (drop (i + 1) (map f parts)) outer inner) o m k ∙ ap first_of (sym (outer_part left some))

  pub outer_passed : (left : ℕ) → 0 < left → (o : Option Refusal) → false ≡ is_some o → o ≡ first_of ((f t).breaches outer) → first_of (part_breaches (left - 1) (drop (i + 1) (map f parts)) outer inner) ≡ first_of (part_breaches left (drop i (map f parts)) outer inner)
  outer_passed left some o m k = sym (first_passed ((f t).breaches outer) (part_breaches (left - 1) (drop (i + 1) (map f parts)) outer inner) o m k) ∙ ap first_of (sym (outer_part left some))

  pub inner_found : (left : ℕ) → left ≡ 0 → (o : Option Refusal) → true ≡ is_some o → o ≡ first_of ((f t).breaches inner) → o ≡ first_of (part_breaches left (drop i (map f parts)) outer inner)
  inner_found left is o m k = first_found ((f t).breaches inner) (part_breaches 0 (drop (i + 1) (map f parts)) outer inner) o m k ∙ ap first_of (sym inner_part) ∙ ap (λ n. first_of (part_breaches n (drop i (map f parts)) outer inner)) (sym is)

  pub inner_passed : (left : ℕ) → left ≡ 0 → (o : Option Refusal) → false ≡ is_some o → o ≡ first_of ((f t).breaches inner) → first_of (part_breaches (left - 1) (drop (i + 1) (map f parts)) outer inner) ≡ first_of (part_breaches left (drop i (map f parts)) outer inner)
  inner_passed left is o m k =
      ap (λ n. first_of (part_breaches n (drop (i + 1) (map f parts)) outer inner)) (let s : left - 1 ≡ 0 = omega arith in s)
      ∙ sym (first_passed ((f t).breaches inner) (part_breaches 0 (drop (i + 1) (map f parts)) outer inner) o m k) ∙ ap first_of (sym inner_part) ∙ ap (λ n. first_of (part_breaches n (drop i (map f parts)) outer inner)) (sym is)

-- ---- a form by the role of its name

module _ (text : List ℕ) (role : Role) (us : List Facts) (s : Scope) (name : Option Token) (count : Option ℕ) (own : Option Refusal)
    (name_is : name ≡ (part_at us (name_place role)).token) (count_is : count ≡ (part_at us 1).count) (own_is : own ≡ first_of (named_breaches text role name count s)) where
  own_there : own ≡ first_of (named_breaches text role (part_at us (name_place role)).token (part_at us 1).count s)
  own_there = own_is ∙ ap (λ n. first_of (named_breaches text role n count s)) name_is ∙ ap (λ n. first_of (named_breaches text role (part_at us (name_place role)).token n s)) count_is

  pub role_found : true ≡ is_some own → own ≡ first_of (role_breaches text role us s)
  role_found there = first_found (named_breaches text role (part_at us (name_place role)).token (part_at us 1).count s) (part_breaches (inner_from role) us s (scope_within role (part_at us (name_place role)).token s)) own there own_there

  pub role_passed : {E : Type 0} (r : Result (Option Refusal) E) (inner : Scope) (from : ℕ) → false ≡ is_some own → inner ≡ scope_within role name s → from ≡ inner_from role
      → IfOk r (λ o. o ≡ first_of (part_breaches from us s inner)) → IfOk r (λ o. o ≡ first_of (role_breaches text role us s))
  role_passed (Err e) inner from gone inner_is from_is h = tt
  role_passed (Ok o) inner from gone inner_is from_is h =
      h ∙ ap (λ n. first_of (part_breaches n us s inner)) from_is
      ∙ ap (λ q. first_of (part_breaches (inner_from role) us s q)) (inner_is ∙ ap (λ n. scope_within role n s) name_is)
      ∙ sym (first_passed (named_breaches text role (part_at us (name_place role)).token (part_at us 1).count s) (part_breaches (inner_from role) us s (scope_within role (part_at us (name_place role)).token s)) own gone own_there)
