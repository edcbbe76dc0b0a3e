-- Where tensors are used as their modes allow, the last declaration of a tensor that is declared at a place is the last
-- one of it in the text before.
use Rattle.std.proofs.Common.{◌≡◌, ◌≤◌, ℕ, zero, suc, List, [], ◌∷◌, ◌++◌, refl, ap, sym, ◌∙◌, subst, length, drop, Option, Some, None, Bool, true, false, not, inl, inr, ◌≢◌, ◌||◌, ◌==◌, if◌then◌else◌, unwrap_or, option_map, slice_get, arith, append_assoc, append-nil, length-append}
use Rattle.std.specs.List.{list_any}
use Rattle.std.specs.Option.{option_or}
use Rattle.std.proofs.lemmas.List.{drop-append-le}
use Rattle.std.proofs.Math.Seq.{drop-length}
use Rattle.std.proofs.lemmas.Bool.Decides.{eqb_tells}
use Rattle.fin_base.specs.declared.refusal.Refusal.{Refusal}
use Rattle.fin_ast.specs.declared.header.Header.{Header}
use Rattle.fin_ast.specs.declared.mode.Mode.{Mode}
use Rattle.fin_ast.specs.declared.mode.Mode.TheVariants.{Undeclared, Update, Read}
use Rattle.fin_ast.specs.declared.program.Program.{Program}
use Rattle.fin_ast.specs.declared.tree.Index.{Index}
use Rattle.fin_ast.proofs.Unbroken.{first_none, second_none, unbroken}
use Rattle.fin_ast.specs.Choices.{levels_of}
use Rattle.fin_ast.specs.Text.{Mark, Opens, Closes, Reads, Updates, Declares, Freezes, Thaws, Text, text_of_all}
use Rattle.fin_ast.specs.Modes.{is_input_at, around, before_body, last_mode, mode_before}
use Rattle.fin_ast.specs.Life.{is_update, is_read, is_declared, breach_at, first_breach, life_in}
use Rattle.fin_ast.specs.Insertion.{leads}
use Rattle.fin_tensor.specs.Order.{ordered_levels}
use Rattle.fin_ast.specs.Order.{loops_since, loops_at, first_update, order_breach, order_at, order_in}
use Rattle.fin_life.specs.Trails.{order_of}
use Rattle.fin_life.proofs.Trailed.{loops_of, loops_around, tracks_of, carried_at, carried_is}

or_left : (a b : Bool) → (a || b) ≡ false → a ≡ false
or_left true b e = e
or_left false b e = refl

or_right : (a b : Bool) → (a || b) ≡ false → b ≡ false
or_right true b e = cc
or_right false b e = e

or_with : (a b : Bool) → b ≡ true → (a || b) ≡ true
or_with true b e = refl
or_with false b e = e

not_not : (b : Bool) → not b ≡ false → b ≡ true
not_not true e = refl
not_not false e = cc

update_declares : (m : Mode) → is_update m ≡ true → is_declared m ≡ true
update_declares Undeclared e = e
update_declares Update e = refl
update_declares Read e = refl

read_declares : (m : Mode) → is_read m ≡ true → is_declared m ≡ true
read_declares Undeclared e = e
read_declares Update e = refl
read_declares Read e = refl

-- the loops around the last declaration
abbrev pub entered_in : ℕ → Text → ℕ
entered_in t [] = 0
entered_in t (Declares u line ∷ b) = if u == t then length (loops_of b) else entered_in t b
entered_in t (Opens var ∷ b) = entered_in t b
entered_in t (Closes line ∷ b) = entered_in t b
entered_in t (Reads u line ∷ b) = entered_in t b
entered_in t (Updates u at line ∷ b) = entered_in t b
entered_in t (Freezes u line ∷ b) = entered_in t b
entered_in t (Thaws u line ∷ b) = entered_in t b

if_le : (b : Bool) (x y z : ℕ) → x ≤ z → y ≤ z → (if b then x else y) ≤ z
if_le true x y z p q = p
if_le false x y z p q = q

entered_le : (t : ℕ) (b : Text) → entered_in t b ≤ length (loops_of b)
entered_le t [] = omega arith
entered_le t (Declares u line ∷ b) = if_le (u == t) _ _ _ (omega arith) (entered_le t b)
entered_le t (Opens None ∷ b) = entered_le t b
entered_le t (Opens (Some var) ∷ b) = omega (arith, entered_le t b, length-append (loops_of b) (var ∷ []))
entered_le t (Closes line ∷ b) = entered_le t b
entered_le t (Reads u line ∷ b) = entered_le t b
entered_le t (Updates u at line ∷ b) = entered_le t b
entered_le t (Freezes u line ∷ b) = entered_le t b
entered_le t (Thaws u line ∷ b) = entered_le t b

if_since : (e : Bool) (inner since ls : List ℕ) (n : ℕ) → since ≡ drop n ls ++ inner → (if e then inner else since) ≡ drop (if e then length ls else n) ls ++ inner
if_since true inner since ls n p = ap (λ (xs : List ℕ). xs ++ inner) (sym (drop-length ls))
if_since false inner since ls n p = p

since_is : (t : ℕ) (b : Text) (inner : List ℕ) → loops_since t b inner ≡ drop (entered_in t b) (loops_of b) ++ inner
since_is t [] inner = refl
since_is t (Declares u line ∷ b) inner = if_since (u == t) inner (loops_since t b inner) (loops_of b) (entered_in t b) (since_is t b inner)
since_is t (Opens None ∷ b) inner = since_is t b inner
since_is t (Opens (Some var) ∷ b) inner =
    since_is t b (var ∷ inner)
    ∙ sym (append_assoc (drop (entered_in t b) (loops_of b)) (var ∷ []) inner)
    ∙ ap (λ (xs : List ℕ). xs ++ inner) (sym (drop-append-le (entered_in t b) (loops_of b) (var ∷ []) (entered_le t b)))
since_is t (Closes line ∷ b) inner = since_is t b inner
since_is t (Reads u line ∷ b) inner = since_is t b inner
since_is t (Updates u at line ∷ b) inner = since_is t b inner
since_is t (Freezes u line ∷ b) inner = since_is t b inner
since_is t (Thaws u line ∷ b) inner = since_is t b inner

around_body : (n : ℕ) (b : Text) → around (suc n) b ≡ around zero (before_body n b)
around_body n [] = refl
around_body n (Closes line ∷ b) = around_body (suc n) b
around_body zero (Opens var ∷ b) = refl
around_body (suc n) (Opens var ∷ b) = around_body n b
around_body zero (Reads u line ∷ b) = around_body zero b
around_body (suc n) (Reads u line ∷ b) = around_body (suc n) b
around_body zero (Updates u at line ∷ b) = around_body zero b
around_body (suc n) (Updates u at line ∷ b) = around_body (suc n) b
around_body zero (Declares u line ∷ b) = around_body zero b
around_body (suc n) (Declares u line ∷ b) = around_body (suc n) b
around_body zero (Freezes u line ∷ b) = around_body zero b
around_body (suc n) (Freezes u line ∷ b) = around_body (suc n) b
around_body zero (Thaws u line ∷ b) = around_body zero b
around_body (suc n) (Thaws u line ∷ b) = around_body (suc n) b

if_declared : (e : Bool) (m x : Mode) → is_declared m ≡ true → is_declared (if e then m else x) ≡ (e || is_declared x)
if_declared true m x p = p
if_declared false m x p = refl

module _ (t : ℕ) where
  abbrev led : Text → Bool
  led b = list_any (leads t) b

  declared_is : (b : Text) → is_declared (last_mode Undeclared t b) ≡ led b
  declared_is [] = refl
  declared_is (Declares u line ∷ b) = if_declared (u == t) Update (last_mode Undeclared t b) refl ∙ ap (λ (x : Bool). (u == t) || x) (declared_is b)
  declared_is (Freezes u line ∷ b) = if_declared (u == t) Read (last_mode Undeclared t b) refl ∙ ap (λ (x : Bool). (u == t) || x) (declared_is b)
  declared_is (Thaws u line ∷ b) = if_declared (u == t) Update (last_mode Undeclared t b) refl ∙ ap (λ (x : Bool). (u == t) || x) (declared_is b)
  declared_is (Opens var ∷ b) = declared_is b
  declared_is (Closes line ∷ b) = declared_is b
  declared_is (Reads u line ∷ b) = declared_is b
  declared_is (Updates u at line ∷ b) = declared_is b

  outer : (n : ℕ) (b : Text) → led (around (suc n) b) ≡ true → led (around n b) ≡ true
  outer n [] h = h
  outer n (Closes line ∷ b) h = outer (suc n) b h
  outer zero (Opens var ∷ b) h = h
  outer (suc n) (Opens var ∷ b) h = outer n b h
  outer zero (Reads u line ∷ b) h = outer zero b h
  outer (suc n) (Reads u line ∷ b) h = outer (suc n) b h
  outer zero (Updates u at line ∷ b) h = outer zero b h
  outer (suc n) (Updates u at line ∷ b) h = outer (suc n) b h
  outer zero (Declares u line ∷ b) h = or_with (u == t) _ (outer zero b h)
  outer (suc n) (Declares u line ∷ b) h = outer (suc n) b h
  outer zero (Freezes u line ∷ b) h = or_with (u == t) _ (outer zero b h)
  outer (suc n) (Freezes u line ∷ b) h = outer (suc n) b h
  outer zero (Thaws u line ∷ b) h = or_with (u == t) _ (outer zero b h)
  outer (suc n) (Thaws u line ∷ b) h = outer (suc n) b h

  to_body : (n : ℕ) (b : Text) → led (around (suc n) b) ≡ true → led (around 1 b) ≡ true
  to_body zero b h = h
  to_body (suc n) b h = to_body n b (outer (suc n) b h)

module _ (hs : List Header) (t : ℕ) (local : is_input_at hs t ≡ false) where
  abbrev sound : Text → Type 0
  sound b = first_breach (breach_at hs) b ≡ None

  declared_here : (b : Text) → is_declared (mode_before hs b t) ≡ led t (around zero b)
  declared_here b = ap (λ (x : Bool). is_declared (last_mode (if x then Read else Undeclared) t (around zero b))) local ∙ declared_is t (around zero b)

  before_update : (b : Text) (at : List Index) (line : ℕ) → breach_at hs b (Updates t at line) ≡ None → led t (around zero b) ≡ true
  before_update b at line e = sym (declared_here b) ∙ update_declares (mode_before hs b t) (not_not (is_update (mode_before hs b t)) (or_right (is_input_at hs t) _ (unbroken _ _ line e)))

  before_freeze : (b : Text) (line : ℕ) → breach_at hs b (Freezes t line) ≡ None → led t (around zero b) ≡ true
  before_freeze b line e = sym (declared_here b) ∙ update_declares (mode_before hs b t) (not_not (is_update (mode_before hs b t)) (unbroken _ _ line e))

  before_thaw : (b : Text) (line : ℕ) → breach_at hs b (Thaws t line) ≡ None → led t (around zero b) ≡ true
  before_thaw b line e = sym (declared_here b) ∙ read_declares (mode_before hs b t) (not_not (is_read (mode_before hs b t)) (or_right (is_input_at hs t) _ (unbroken _ _ line e)))

  before_declare : (b : Text) (line : ℕ) → breach_at hs b (Declares t line) ≡ None → led t (around 1 b) ≡ false
  before_declare b line e =
      ap (led t) (around_body zero b)
      ∙ sym (declared_here (before_body zero b))
      ∙ or_right (is_input_at hs t || is_update (mode_before hs b t)) (is_declared (mode_before hs (before_body zero b) t)) (unbroken _ _ line e)

  pub record Agrees (n : ℕ) (b : Text) : Type 0 where
    pub entered : (tracks_of b).entered t ≡ entered_in t (around n b)
    pub first : option_map (loops_at t) (first_update t n b) ≡ option_map (drop ((tracks_of b).entered t)) ((tracks_of b).firsts t)

  pub here_is : (b : Text) → Agrees zero b → loops_at t b ≡ drop ((tracks_of b).entered t) (loops_around b)
  here_is b a = since_is t (around zero b) [] ∙ append-nil (drop (entered_in t (around zero b)) (loops_around b)) ∙ ap (λ (n : ℕ). drop n (loops_around b)) (sym a.entered)

  first_of : (b : Text) (n : ℕ) (ls : List ℕ) (fu : Option Text) (fs : Option (List ℕ)) → option_map (loops_at t) fu ≡ option_map (drop n) fs → loops_at t b ≡ drop n ls → loops_at t (unwrap_or fu b) ≡ drop n (unwrap_or fs ls)
  first_of b n ls None None p q = q
  first_of b n ls None (Some x) p q = cc
  first_of b n ls (Some x) None p q = cc
  first_of b n ls (Some x) (Some y) p q = cc

  -- an update of this tensor, or of another
  after_update : (n u : ℕ) (b : Text) → Agrees n b → ((u ≡ t) → loops_at t b ≡ drop ((tracks_of b).entered t) (loops_around b)) → option_map (loops_at t) (if u == t then Some (unwrap_or (first_update t n b) b) else first_update t n b) ≡ option_map (drop ((tracks_of b).entered t)) (if u == t then Some (unwrap_or ((tracks_of b).firsts u) (loops_around b)) else (tracks_of b).firsts t)
  after_update n u b a here = elim (eqb_tells u t) [
    | inl e ↦
        ap (λ (x : Bool). option_map (loops_at t) (if x then Some (unwrap_or (first_update t n b) b) else first_update t n b)) e.0
        ∙ ap Some (first_of b ((tracks_of b).entered t) (loops_around b) (first_update t n b) ((tracks_of b).firsts t) a.first (here e.1))
        ∙ ap (λ (v : ℕ). Some (drop ((tracks_of b).entered t) (unwrap_or ((tracks_of b).firsts v) (loops_around b)))) (sym e.1)
        ∙ sym (ap (λ (x : Bool). option_map (drop ((tracks_of b).entered t)) (if x then Some (unwrap_or ((tracks_of b).firsts u) (loops_around b)) else (tracks_of b).firsts t)) e.0)
    | inr e ↦
        ap (λ (x : Bool). option_map (loops_at t) (if x then Some (unwrap_or (first_update t n b) b) else first_update t n b)) e.0
        ∙ a.first
        ∙ sym (ap (λ (x : Bool). option_map (drop ((tracks_of b).entered t)) (if x then Some (unwrap_or ((tracks_of b).firsts u) (loops_around b)) else (tracks_of b).firsts t)) e.0)
  ]

  -- a declaration of another tensor
  after_other : (n u line : ℕ) (b : Text) → (u == t) ≡ false → Agrees n b → Agrees n (Declares u line ∷ b)
  after_other zero u line b e a = record {
    entered = ap (λ (x : Bool). if x then length (loops_around b) else (tracks_of b).entered t) e ∙ a.entered ∙ sym (ap (λ (x : Bool). if x then length (loops_around b) else entered_in t (around zero b)) e);
    first = ap (λ (x : Bool). option_map (loops_at t) (if x then None else first_update t zero b)) e ∙ a.first
        ∙ sym (ap (λ (x : Bool). option_map (drop (if x then length (loops_around b) else (tracks_of b).entered t)) (if x then None else (tracks_of b).firsts t)) e);
  }
  after_other (suc n) u line b e a = record {
    entered = ap (λ (x : Bool). if x then length (loops_around b) else (tracks_of b).entered t) e ∙ a.entered;
    first = a.first
        ∙ sym (ap (λ (x : Bool). option_map (drop (if x then length (loops_around b) else (tracks_of b).entered t)) (if x then None else (tracks_of b).firsts t)) e);
  }

  after_own : (u line : ℕ) (b : Text) → (u == t) ≡ true → Agrees zero (Declares u line ∷ b)
  after_own u line b e = record {
    entered = ap (λ (x : Bool). if x then length (loops_around b) else (tracks_of b).entered t) e ∙ sym (ap (λ (x : Bool). if x then length (loops_around b) else entered_in t (around zero b)) e);
    first = ap (λ (x : Bool). option_map (loops_at t) (if x then None else first_update t zero b)) e
        ∙ sym (ap (λ (x : Bool). option_map (drop (if x then length (loops_around b) else (tracks_of b).entered t)) (if x then None else (tracks_of b).firsts t)) e);
  }

  before : (m : Mark) (b : Text) → sound (m ∷ b) → sound b
  before m b s = first_none (first_breach (breach_at hs) b) (breach_at hs b m) s

  at : (m : Mark) (b : Text) → sound (m ∷ b) → breach_at hs b m ≡ None
  at m b s = second_none (first_breach (breach_at hs) b) (breach_at hs b m) s

  led_other : (u : ℕ) (x : Bool) → (u == t) ≡ false → ((u == t) || x) ≡ true → x ≡ true
  led_other u x e h = sym (ap (λ (y : Bool). y || x) e) ∙ h

  led_before_freeze : (u line : ℕ) (b : Text) → sound (Freezes u line ∷ b) → led t (Freezes u line ∷ around zero b) ≡ true → led t (around zero b) ≡ true
  led_before_freeze u line b s h = elim (eqb_tells u t) [
    | inl e ↦ before_freeze b line (subst (λ (v : ℕ). breach_at hs b (Freezes v line) ≡ None) e.1 (at (Freezes u line) b s))
    | inr e ↦ led_other u (led t (around zero b)) e.0 h
  ]

  led_before_thaw : (u line : ℕ) (b : Text) → sound (Thaws u line ∷ b) → led t (Thaws u line ∷ around zero b) ≡ true → led t (around zero b) ≡ true
  led_before_thaw u line b s h = elim (eqb_tells u t) [
    | inl e ↦ before_thaw b line (subst (λ (v : ℕ). breach_at hs b (Thaws v line) ≡ None) e.1 (at (Thaws u line) b s))
    | inr e ↦ led_other u (led t (around zero b)) e.0 h
  ]

  led_before_update : (u line : ℕ) (is : List Index) (b : Text) → sound (Updates u is line ∷ b) → u ≡ t → led t (around zero b) ≡ true
  led_before_update u line is b s e = before_update b is line (subst (λ (v : ℕ). breach_at hs b (Updates v is line) ≡ None) e (at (Updates u is line) b s))

  inner_declare : (n u line : ℕ) (b : Text) → sound (Declares u line ∷ b) → led t (around (suc n) b) ≡ true → u ≢ t
  inner_declare n u line b s h e =
      let f : led t (around 1 b) ≡ false = before_declare b line (subst (λ (v : ℕ). breach_at hs b (Declares v line) ≡ None) e (at (Declares u line) b s)) in
      let g : led t (around 1 b) ≡ true = to_body t n b h in
      cc

  pub agree : (n : ℕ) (b : Text) → sound b → led t (around n b) ≡ true → Agrees n b
  agree n [] s h = absurd (cc)
  agree n (Closes line ∷ b) s h = let a = agree (suc n) b (before (Closes line) b s) h in record { entered = a.entered; first = a.first }
  agree zero (Opens var ∷ b) s h = let a = agree zero b (before (Opens var) b s) h in record { entered = a.entered; first = a.first }
  agree (suc n) (Opens var ∷ b) s h = let a = agree n b (before (Opens var) b s) h in record { entered = a.entered; first = a.first }
  agree zero (Reads u line ∷ b) s h = let a = agree zero b (before (Reads u line) b s) h in record { entered = a.entered; first = a.first }
  agree (suc n) (Reads u line ∷ b) s h = let a = agree (suc n) b (before (Reads u line) b s) h in record { entered = a.entered; first = a.first }
  agree zero (Freezes u line ∷ b) s h = let a = agree zero b (before (Freezes u line) b s) (led_before_freeze u line b s h) in record { entered = a.entered; first = a.first }
  agree (suc n) (Freezes u line ∷ b) s h = let a = agree (suc n) b (before (Freezes u line) b s) h in record { entered = a.entered; first = a.first }
  agree zero (Thaws u line ∷ b) s h = let a = agree zero b (before (Thaws u line) b s) (led_before_thaw u line b s h) in record { entered = a.entered; first = a.first }
  agree (suc n) (Thaws u line ∷ b) s h = let a = agree (suc n) b (before (Thaws u line) b s) h in record { entered = a.entered; first = a.first }
  agree zero (Updates u is line ∷ b) s h =
      let a = agree zero b (before (Updates u is line) b s) h in
      record { entered = a.entered; first = after_update zero u b a (λ e. here_is b a) }
  agree (suc n) (Updates u is line ∷ b) s h =
      let a = agree (suc n) b (before (Updates u is line) b s) h in
      record { entered = a.entered; first = after_update (suc n) u b a (λ e. here_is b (agree zero b (before (Updates u is line) b s) (led_before_update u line is b s e))) }
  agree zero (Declares u line ∷ b) s h = elim (eqb_tells u t) [
    | inl e ↦ after_own u line b e.0
    | inr e ↦ after_other zero u line b e.0 (agree zero b (before (Declares u line) b s) (led_other u (led t (around zero b)) e.0 h))
  ]
  agree (suc n) (Declares u line ∷ b) s h = elim (eqb_tells u t) [
    | inl e ↦ absurd (inner_declare n u line b s h e.1)
    | inr e ↦ after_other (suc n) u line b e.0 (agree (suc n) b (before (Declares u line) b s) h)
  ]

  pub update_is : (b : Text) (is : List Index) (line : ℕ) → sound (Updates t is line ∷ b) → carried_at hs b (Updates t is line) ≡ order_at hs b (Updates t is line)
  update_is b is line s =
      let a = agree zero b (before (Updates t is line) b s) (before_update b is line (at (Updates t is line) b s)) in
      ap (λ (ls : List ℕ). order_breach (ordered_levels (levels_of (slice_get hs t))) ls (option_map (drop ((tracks_of b).entered t)) ((tracks_of b).firsts t)) is line) (sym (here_is b a))
      ∙ ap (λ (fs : Option (List ℕ)). order_breach (ordered_levels (levels_of (slice_get hs t))) (loops_at t b) fs is line) (sym a.first)

module _ (hs : List Header) where
  local_update : (t : ℕ) (b : Text) (is : List Index) (line : ℕ) → breach_at hs b (Updates t is line) ≡ None → is_input_at hs t ≡ false
  local_update t b is line e = or_left (is_input_at hs t) _ (unbroken _ _ line e)

  mark_is : (m : Mark) (b : Text) → first_breach (breach_at hs) (m ∷ b) ≡ None → carried_at hs b m ≡ order_at hs b m
  mark_is (Updates t is line) b s = update_is hs t (local_update t b is line (second_none (first_breach (breach_at hs) b) _ s)) b is line s
  mark_is (Opens var) b s = refl
  mark_is (Closes line) b s = refl
  mark_is (Reads t line) b s = refl
  mark_is (Declares t line) b s = refl
  mark_is (Freezes t line) b s = refl
  mark_is (Thaws t line) b s = refl

  text_is : (b : Text) → first_breach (breach_at hs) b ≡ None → first_breach (carried_at hs) b ≡ first_breach (order_at hs) b
  text_is [] s = refl
  text_is (m ∷ b) s =
      ap (λ (o : Option Refusal). option_or o (carried_at hs b m)) (text_is b (first_none (first_breach (breach_at hs) b) (breach_at hs b m) s))
      ∙ ap (option_or (first_breach (order_at hs) b)) (mark_is m b s)

-- the order of updates of a program whose tensors are used as they may be is what is carried along it
pub order_is : (p : Program) → life_in p ≡ None → order_of p.headers p.body ≡ order_in p
order_is p life = carried_is p.headers p.body ∙ text_is p.headers (text_of_all p.body []) (first_none (first_breach (breach_at p.headers) (text_of_all p.body [])) _ life)
