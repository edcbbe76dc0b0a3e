-- The variables that are bound at a place, by their names and by their numbers.
use Rattle.std.proofs.Common.{◌≡◌, ◌<◌, ◌≤◌, ℕ, ◌+◌, Bool, true, false, ◌||◌, List, [], ◌∷◌, ◌++◌, ◌⊎◌, inl, inr, if◌then◌else◌, Option, Some, None, refl, sym, ap, ◌∙◌, arith}
use Rattle.std.specs.List.{find}
use Rattle.std.specs.Option.{option_or}
use Rattle.std.proofs.lemmas.List.Folds.{find-append}
use Rattle.std.proofs.lemmas.Slice.Eq.{bytes_eq-Decides}
use Rattle.fin_ast.specs.Scope.{is_among}
use Rattle.fin_lex.specs.declared.token.Token.{Token}
use Rattle.fin_parse.specs.declared.scope.Bound.{Bound}
use Rattle.fin_parse.specs.declared.naming.Variable.{Variable}
use Rattle.fin_parse.specs.Names.{text_at, is_same, bound_named}

-- a variable, by its name
abbrev pub variable_named : List ℕ → List Variable → Token → Option Variable
variable_named text vs name = find (λ (v : Variable). is_same text v.name name) vs

-- the same names stand for variables; the number of each is below the next one and stands among loops or lets, that of a loop among loops; different names have different numbers
pub record AreBound (text : List ℕ) (bs : List Bound) (vs : List Variable) (next : ℕ) (loops lets : List ℕ) : Type 0 where
  pub used : (name : Token) (b : Bound) → bound_named text bs name ≡ Some b → (v : Variable) × (variable_named text vs name ≡ Some v) × (is_among loops v.number || is_among lets v.number ≡ true) × (b.is_loop ≡ true → is_among loops v.number ≡ true)
  pub free : (name : Token) → bound_named text bs name ≡ None → variable_named text vs name ≡ None
  pub apart : (a b : Token) (v w : Variable) → variable_named text vs a ≡ Some v → variable_named text vs b ≡ Some w → v.number ≡ w.number → text_at text a ≡ text_at text b
  pub below : (a : Token) (v : Variable) → variable_named text vs a ≡ Some v → v.number < next

pub none_bound : (text : List ℕ) (next : ℕ) (loops lets : List ℕ) → AreBound text [] [] next loops lets
none_bound text next loops lets = record { used = λ name b h. cc; free = λ name h. refl; apart = λ a b v w h k e. cc; below = λ a v h. cc }

pub later : (text : List ℕ) (bs : List Bound) (vs : List Variable) (next after : ℕ) (loops lets : List ℕ) → next ≤ after → AreBound text bs vs next loops lets → AreBound text bs vs after loops lets
later text bs vs next after loops lets h g = record { used = g.used; free = g.free; apart = g.apart; below = λ a v k. omega (arith, g.below a v k) }

-- ---- a variable more

module _ {X : Type 0} (x : X) where
  come_first : (o : Option X) (is : Bool) (r : X) → option_or o (if is then Some x else None) ≡ Some r → (o ≡ Some r) ⊎ ((o ≡ None) × (is ≡ true) × (x ≡ r))
  come_first (Some y) is r h = inl h
  come_first None true r h = inr (refl, refl, cc h)
  come_first None false r h = cc

  come_none : (o : Option X) (is : Bool) → option_or o (if is then Some x else None) ≡ None → (o ≡ None) × (is ≡ false)
  come_none (Some y) is h = cc
  come_none None true h = cc
  come_none None false h = (refl, refl)

  module _ (p : X → Bool) (xs : List X) where
    pub last_found : (r : X) → find p (xs ++ x ∷ []) ≡ Some r → (find p xs ≡ Some r) ⊎ ((find p xs ≡ None) × (p x ≡ true) × (x ≡ r))
    last_found r h = come_first (find p xs) (p x) r (sym (find-append p xs (x ∷ [])) ∙ h)

    pub last_missed : find p (xs ++ x ∷ []) ≡ None → (find p xs ≡ None) × (p x ≡ false)
    last_missed h = come_none (find p xs) (p x) (sym (find-append p xs (x ∷ [])) ∙ h)

    pub still_found : (r : X) → find p xs ≡ Some r → find p (xs ++ x ∷ []) ≡ Some r
    still_found r h = find-append p xs (x ∷ []) ∙ ap (λ o. option_or o (find p (x ∷ []))) h

    pub then_found : find p xs ≡ None → p x ≡ true → find p (xs ++ x ∷ []) ≡ Some x
    then_found h k = find-append p xs (x ∷ []) ∙ ap (λ o. option_or o (find p (x ∷ []))) h ∙ ap (λ is. if is then Some x else None) k

    pub still_missed : find p xs ≡ None → p x ≡ false → find p (xs ++ x ∷ []) ≡ None
    still_missed h k = find-append p xs (x ∷ []) ∙ ap (λ o. option_or o (find p (x ∷ []))) h ∙ ap (λ is. if is then Some x else None) k

same_text : (text : List ℕ) (a b : Token) → is_same text a b ≡ true → text_at text a ≡ text_at text b
same_text text a b h = (bytes_eq-Decides (text_at text a) (text_at text b)).0 h

or_first : (a b c d : Bool) → (a ≡ true → c ≡ true) → (b ≡ true → d ≡ true) → a || b ≡ true → c || d ≡ true
or_first true b c d f g h = ap (λ q. q || d) (f refl)
or_first false b true d f g h = refl
or_first false b false d f g h = g h

module _ (text : List ℕ) (bs : List Bound) (vs : List Variable) (next : ℕ) (loops lets more_loops more_lets : List ℕ) (name : Token) (loop : Bool)
    (wider : (x : ℕ) → is_among loops x ≡ true → is_among more_loops x ≡ true) (wider_lets : (x : ℕ) → is_among lets x ≡ true → is_among more_lets x ≡ true)
    (new : is_among more_loops next || is_among more_lets next ≡ true) (new_loop : loop ≡ true → is_among more_loops next ≡ true) where
  abbrev the_bound : Bound
  the_bound = record { name = name; is_loop = loop }

  abbrev the_variable : Variable
  the_variable = record { name = name; number = next }

  module _ (g : AreBound text bs vs next loops lets) where
    used' : (a : Token) (b : Bound) → bound_named text (bs ++ the_bound ∷ []) a ≡ Some b → (v : Variable) × (variable_named text (vs ++ the_variable ∷ []) a ≡ Some v) × (is_among more_loops v.number || is_among more_lets v.number ≡ true) × (b.is_loop ≡ true → is_among more_loops v.number ≡ true)
    used' a b h = elim (last_found the_bound (λ (c : Bound). is_same text c.name a) bs b h) [
      | inl k ↦ let (v, e, m, l) = g.used a b k in
          (v, still_found the_variable (λ (w : Variable). is_same text w.name a) vs v e, or_first (is_among loops v.number) (is_among lets v.number) (is_among more_loops v.number) (is_among more_lets v.number) (wider v.number) (wider_lets v.number) m, λ q. wider v.number (l q))
      | inr k ↦ (the_variable, then_found the_variable (λ (w : Variable). is_same text w.name a) vs (g.free a k.0) k.1, new, λ q. new_loop (ap (λ (c : Bound). c.is_loop) k.2 ∙ q))
    ]

    free' : (a : Token) → bound_named text (bs ++ the_bound ∷ []) a ≡ None → variable_named text (vs ++ the_variable ∷ []) a ≡ None
    free' a h = let k = last_missed the_bound (λ (c : Bound). is_same text c.name a) bs h in
        still_missed the_variable (λ (w : Variable). is_same text w.name a) vs (g.free a k.0) k.1

    below' : (a : Token) (v : Variable) → variable_named text (vs ++ the_variable ∷ []) a ≡ Some v → v.number < next + 1
    below' a v h = elim (last_found the_variable (λ (w : Variable). is_same text w.name a) vs v h) [
      | inl k ↦ omega (arith, g.below a v k)
      | inr k ↦ omega (arith, ap (λ (w : Variable). w.number) k.2)
    ]

    apart' : (a b : Token) (v w : Variable) → variable_named text (vs ++ the_variable ∷ []) a ≡ Some v → variable_named text (vs ++ the_variable ∷ []) b ≡ Some w → v.number ≡ w.number → text_at text a ≡ text_at text b
    apart' a b v w h k e = elim (last_found the_variable (λ (w : Variable). is_same text w.name a) vs v h) [
      | inl h' ↦ elim (last_found the_variable (λ (w : Variable). is_same text w.name b) vs w k) [
        | inl k' ↦ g.apart a b v w h' k' e
        | inr k' ↦ absurd (omega (arith, g.below a v h', e, ap (λ (w : Variable). w.number) k'.2))
      ]
      | inr h' ↦ elim (last_found the_variable (λ (w : Variable). is_same text w.name b) vs w k) [
        | inl k' ↦ absurd (omega (arith, g.below b w k', e, ap (λ (w : Variable). w.number) h'.2))
        | inr k' ↦ sym (same_text text name a h'.1) ∙ same_text text name b k'.1
      ]
    ]

    pub one_more : AreBound text (bs ++ (record { name = name; is_loop = loop }) ∷ []) (vs ++ (record { name = name; number = next }) ∷ []) (next + 1) more_loops more_lets
    one_more = record { used = used'; free = free'; apart = apart'; below = below' }
