-- What is left of a statement makes what the statement makes under the marks.
use Rattle.std.proofs.Common.{◌≡◌, ℕ, zero, suc, ◌+◌, ◌-◌, ℤ, pos, Bool, true, false, ◌||◌, List, [], ◌∷◌, ◌++◌, map, length, refl, sym, ap, ◌∙◌, arith, subst, if◌then◌else◌}
use Rattle.std.specs.Prelude.{slice_set, is_some}
use Rattle.std.specs.List.{list_any}
use Rattle.std.specs.Ordering.{int_eq}
use Rattle.fin_base.specs.Words.{IsWord}
use Rattle.fin_ast.specs.declared.tree.Stmt.{Stmt}
use Rattle.fin_ast.specs.declared.tree.Stmt.TheVariants as s
use Rattle.fin_ast.specs.Value.{Numbers, number, place, value_of}
use Rattle.fin_ast.specs.Dense.{Made, Setting, range_of, kept}
use Rattle.fin_ast.proofs.Nodes as node
use Rattle.fin_ast.proofs.Values.{value_num}
use Rattle.fin_ast.proofs.Induction.{AllOf, Cases, by_kind, all_by_kind}
use Rattle.fin_simp.specs.declared.remainder.Left.{Left}
use Rattle.fin_simp.specs.declared.remainder.Left.TheVariants.{Literal, Open}
use Rattle.fin_simp.specs.Left.{as_expr}
use Rattle.fin_simp.specs.Simplified.{declares_step, is_declaration, opened, around, chosen}
use Rattle.fin_ast.specs.Actions.{in_turn}
use Rattle.fin_simp.specs.Marked.{Making, tensors_at, braced, repeated, if_holds, making, making_all}
use Rattle.fin_simp.specs.Worthy.{WordNumbers}
use Rattle.fin_simp.proofs.Makings.{make_block, make_loop, make_cond, make_bind, make_declare, make_freeze, make_thaw, make_update, NoNew, kept_same, no_new_same, kept_self, no_new_then, no_new_kept, no_new_updated, set_long, kept_long}

-- ---- numbers
pub number_is_word : (vars : Numbers) → WordNumbers vars → (x : ℕ) → IsWord (number vars x)
number_is_word [] h x = omega arith
number_is_word (z ∷ zs) h zero = h.0
number_is_word (z ∷ zs) h (suc x) = number_is_word zs h.1 x

pub set_words : (vars : Numbers) (x : ℕ) (z : ℤ) → WordNumbers vars → IsWord z → WordNumbers (slice_set vars x z)
set_words [] x z h p = tt
set_words (v ∷ vars) zero z h p = (p, h.1)
set_words (v ∷ vars) (suc x) z h p = (h.0, set_words vars x z h.1 p)

-- ---- nothing new is declared but by a declaration
module _ (w : Setting) where
  abbrev Long : Making → Type 0
  Long a = (vars : Numbers) (ts : Made) → length (a vars ts) ≡ length ts

  all_long : (body : List Stmt) → AllOf (λ x. Long (making w x)) body → Long (making_all w body)
  all_long [] all vars ts = refl
  all_long (x ∷ xs) all vars ts = all_long xs all.1 vars (making w x vars ts) ∙ all.0 vars ts

  braced_long : (a : Making) → Long a → Long (braced a)
  braced_long a h vars ts = kept_long ts (a vars ts) (sym (h vars ts)) ∙ h vars ts

  repeated_long : (n lo var : ℕ) (a : Making) → Long a → Long (repeated n lo var a)
  repeated_long zero lo var a h vars ts = refl
  repeated_long (suc n) lo var a h vars ts = repeated_long n (lo + 1) var a h vars (a (slice_set vars var (pos lo)) ts) ∙ h (slice_set vars var (pos lo)) ts

  if_long : (b : Bool) (ts ts' : Made) → length ts' ≡ length ts → length (if b then ts else ts') ≡ length ts
  if_long true ts ts' h = refl
  if_long false ts ts' h = h

  abbrev IsLong : Stmt → Type 0
  IsLong x = Long (making w x)

  long_cases : Cases IsLong
  long_cases = record {
    block = λ body line last all vars ts. ap length (make_block w vars ts body line last) ∙ braced_long (making_all w body) (all_long body all) vars ts;
    loop = λ var range par body line last all vars ts. ap length (make_loop w vars ts var range par body line last) ∙ repeated_long ((range_of w var).1 - (range_of w var).0) (range_of w var).0 var (braced (making_all w body)) (braced_long (making_all w body) (all_long body all)) vars ts;
    cond = λ test body line last all vars ts. ap length (make_cond w vars ts test body line last) ∙ if_long (int_eq (value_of test vars (tensors_at w ts)) (pos 0)) ts (braced (making_all w body) vars ts) (braced_long (making_all w body) (all_long body all) vars ts);
    bind = λ var value body line last all vars ts. ap length (make_bind w vars ts var value body line last) ∙ braced_long (making_all w body) (all_long body all) (slice_set vars var (value_of value vars (tensors_at w ts))) ts;
    declare = λ tensor value line vars ts. ap length (make_declare w vars ts tensor value line) ∙ set_long ts tensor _;
    freeze = λ tensor line vars ts. ap length (make_freeze w vars ts tensor line);
    thaw = λ tensor line vars ts. ap length (make_thaw w vars ts tensor line);
    update = λ tensor at by value line vars ts. ap length (make_update w vars ts tensor at by value line) ∙ set_long ts tensor _;
  }

  pub making_long : (x : Stmt) → IsLong x
  making_long = by_kind IsLong long_cases

  pub all_of_long : (body : List Stmt) → Long (making_all w body)
  all_of_long body = all_long body (all_by_kind IsLong long_cases body)

  braced_no_new : (body : List Stmt) (vars : Numbers) (ts : Made) → NoNew ts (braced (making_all w body) vars ts)
  braced_no_new body vars ts = no_new_kept ts (making_all w body vars ts) (sym (all_of_long body vars ts))

  repeated_no_new : (n lo var : ℕ) (body : List Stmt) (vars : Numbers) (ts : Made) → NoNew ts (repeated n lo var (braced (making_all w body)) vars ts)
  repeated_no_new zero lo var body vars ts = no_new_same ts
  repeated_no_new (suc n) lo var body vars ts =
      let next = braced (making_all w body) (slice_set vars var (pos lo)) ts in
      no_new_then ts next (repeated n (lo + 1) var (braced (making_all w body)) vars next) (braced_no_new body (slice_set vars var (pos lo)) ts) (repeated_no_new n (lo + 1) var body vars next)

  if_no_new : (b : Bool) (ts ts' : Made) → NoNew ts ts' → NoNew ts (if b then ts else ts')
  if_no_new true ts ts' h = no_new_same ts
  if_no_new false ts ts' h = h

  abbrev AddsNone : Stmt → Type 0
  AddsNone x = is_declaration x ≡ false → (vars : Numbers) (ts : Made) → NoNew ts (making w x vars ts)

  none_cases : Cases AddsNone
  none_cases = record {
    block = λ body line last all q vars ts. subst (NoNew ts) (sym (make_block w vars ts body line last)) (braced_no_new body vars ts);
    loop = λ var range par body line last all q vars ts. subst (NoNew ts) (sym (make_loop w vars ts var range par body line last)) (repeated_no_new ((range_of w var).1 - (range_of w var).0) (range_of w var).0 var body vars ts);
    cond = λ test body line last all q vars ts. subst (NoNew ts) (sym (make_cond w vars ts test body line last)) (if_no_new (int_eq (value_of test vars (tensors_at w ts)) (pos 0)) ts (braced (making_all w body) vars ts) (braced_no_new body vars ts));
    bind = λ var value body line last all q vars ts. subst (NoNew ts) (sym (make_bind w vars ts var value body line last)) (braced_no_new body (slice_set vars var (value_of value vars (tensors_at w ts))) ts);
    declare = λ tensor value line q vars ts. let x : true ≡ false = sym (node.of_declare Bool declares_step tensor value line) ∙ q in cc;
    freeze = λ tensor line q vars ts. subst (NoNew ts) (sym (make_freeze w vars ts tensor line)) (no_new_same ts);
    thaw = λ tensor line q vars ts. subst (NoNew ts) (sym (make_thaw w vars ts tensor line)) (no_new_same ts);
    update = λ tensor at by value line q vars ts. subst (NoNew ts) (sym (make_update w vars ts tensor at by value line)) (no_new_updated ts tensor (map (place vars) at) by (value_of value vars (tensors_at w ts)));
  }

  adds_none : (x : Stmt) → AddsNone x
  adds_none = by_kind AddsNone none_cases

  left_false : (a b : Bool) → (a || b) ≡ false → a ≡ false
  left_false true b h = h
  left_false false b h = refl

  right_false : (a b : Bool) → (a || b) ≡ false → b ≡ false
  right_false true b h = let x : true ≡ false = h in cc
  right_false false b h = h

  pub all_add_none : (body : List Stmt) → list_any is_declaration body ≡ false → (vars : Numbers) (ts : Made) → NoNew ts (making_all w body vars ts)
  all_add_none [] q vars ts = no_new_same ts
  all_add_none (x ∷ xs) q vars ts =
      no_new_then ts (making w x vars ts) (making_all w xs vars (making w x vars ts))
      (adds_none x (left_false (is_declaration x) (list_any is_declaration xs) q) vars ts)
      (all_add_none xs (right_false (is_declaration x) (list_any is_declaration xs) q) vars (making w x vars ts))

  -- ---- lists of statements
  pub made_append : (xs ys : List Stmt) (vars : Numbers) (ts : Made) → making_all w (xs ++ ys) vars ts ≡ making_all w ys vars (making_all w xs vars ts)
  made_append [] ys vars ts = refl
  made_append (x ∷ xs) ys vars ts = made_append xs ys vars (making w x vars ts)

  opened_by : (line last : ℕ) (xs : List Stmt) (b : Bool) → list_any is_declaration xs ≡ b → (vars : Numbers) (ts : Made) → making_all w (if b then s.Block xs line last ∷ [] else xs) vars ts ≡ braced (making_all w xs) vars ts
  opened_by line last xs true q vars ts = make_block w vars ts xs line last
  opened_by line last xs false q vars ts = sym (kept_same ts (making_all w xs vars ts) (all_add_none xs q vars ts))

  -- a block that is opened does what it does in its braces
  pub opened_makes : (line last : ℕ) (xs : List Stmt) (vars : Numbers) (ts : Made) → making_all w (opened line last xs) vars ts ≡ braced (making_all w xs) vars ts
  opened_makes line last xs vars ts = opened_by line last xs (list_any is_declaration xs) refl vars ts

  pub around_makes : (f : List Stmt → Stmt) (xs : List Stmt) (vars : Numbers) (ts : Made) → making w (f []) vars ts ≡ ts → making_all w (around f xs) vars ts ≡ making w (f xs) vars ts
  around_makes f [] vars ts h = sym h
  around_makes f (x ∷ xs) vars ts h = refl

  pub repeated_nothing : (n lo var : ℕ) (vars : Numbers) (ts : Made) → repeated n lo var (braced (in_turn [])) vars ts ≡ ts
  repeated_nothing zero lo var vars ts = refl
  repeated_nothing (suc n) lo var vars ts = repeated_nothing n (lo + 1) var vars (kept (map is_some ts) ts) ∙ kept_self ts

  if_same : (b : Bool) (ts ts' : Made) → ts' ≡ ts → (if b then ts else ts') ≡ ts
  if_same true ts ts' h = refl
  if_same false ts ts' h = h

  if_also : (b : Bool) (ts x y : Made) → x ≡ y → (if b then ts else x) ≡ (if b then ts else y)
  if_also true ts x y h = refl
  if_also false ts x y h = h

  if_in : (b : Bool) (xs : List Stmt) (vars : Numbers) (ts : Made) → making_all w (if b then [] else xs) vars ts ≡ (if b then ts else making_all w xs vars ts)
  if_in true xs vars ts = refl
  if_in false xs vars ts = refl

  pub chosen_makes : (line last : ℕ) (l : Left) (xs : List Stmt) (vars : Numbers) (ts : Made) → making_all w (chosen line last l xs) vars ts ≡ if_holds (value_of (as_expr l) vars (tensors_at w ts)) (braced (making_all w xs)) vars ts
  chosen_makes line last (Literal n) xs vars ts =
      if_in (int_eq n (pos 0)) (opened line last xs) vars ts ∙ if_also (int_eq n (pos 0)) ts _ _ (opened_makes line last xs vars ts)
      ∙ ap (λ z. if_holds z (braced (making_all w xs)) vars ts) (sym (value_num vars (tensors_at w ts) n))
  chosen_makes line last (Open x) xs vars ts =
      around_makes (λ b. s.Cond x b line last) xs vars ts (make_cond w vars ts x [] line last ∙ if_same (int_eq (value_of x vars (tensors_at w ts)) (pos 0)) ts (kept (map is_some ts) ts) (kept_self ts))
      ∙ make_cond w vars ts x xs line last
