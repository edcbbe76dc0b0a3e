-- The last update of a tensor against the loops around a place.
use Rattle.std.proofs.Common.{◌≡◌, ◌<◌, ◌≤◌, ◌+◌, ℕ, zero, suc, ℤ, pos, negsuc, ◌+ℤ◌, Bool, true, false, ◌||◌, List, [], ◌∷◌, ◌++◌, map, Option, Some, None, if◌then◌else◌, refl, sym, ap, ◌∙◌, subst, inl, ◌⊎◌, arith, length, take, drop, nat_lt, get_or-set_same, get_or-set_other}
use Rattle.std.specs.Prelude.{unsigned_abs, slice_set, nat_eq, ◌==◌}
use Rattle.std.specs.Ordering.{int_eq}
use Rattle.std.proofs.lemmas.Int.{ints}
use Rattle.std.proofs.lemmas.Bool.Decides.{nat_tests}
use Rattle.fin_ast.specs.declared.header.Header.{Header}
use Rattle.fin_ast.specs.declared.tree.Index.{Index}
use Rattle.fin_ast.specs.Bindings.{counts_from}
use Rattle.fin_ast.specs.Order.{is_variable, are_variables}
use Rattle.fin_ast.specs.Scope.{is_among}
use Rattle.fin_ast.specs.Ties.{bare, bare_variable}
use Rattle.fin_ast.specs.Value.{Numbers, number, number_if, place, coordinates, with_first}
use Rattle.fin_life.specs.Tracks.{Tracks}
use Rattle.fin_stage.proofs.Alive.{left, right}
use Rattle.fin_stage.proofs.Lexical.{Strict, Weak}
use Rattle.fin_stage.proofs.Touching.{same_tensor}
use Rattle.fin_stage.proofs.Tracking.{depth}

-- ---- the values of loops
abbrev pub values : Numbers → List ℕ → List ℕ
values vars loops = map (λ v. unsigned_abs (number vars v)) loops

pub long_values : (vars : Numbers) (loops : List ℕ) → length (values vars loops) ≡ length loops
long_values vars [] = refl
long_values vars (v ∷ loops) = ap suc (long_values vars loops)

values_end : (vars : Numbers) (loops : List ℕ) (v : ℕ) → values vars (loops ++ v ∷ []) ≡ values vars loops ++ unsigned_abs (number vars v) ∷ []
values_end vars [] v = refl
values_end vars (u ∷ loops) v = ap (λ (xs : List ℕ). unsigned_abs (number vars u) ∷ xs) (values_end vars loops v)

-- a variable that isn't among them changes no value
pub values_other : (vars : Numbers) (loops : List ℕ) (n : ℕ) (x : ℤ) → ((k : ℕ) → is_among loops k ≡ true → k < n) → values (slice_set vars n x) loops ≡ values vars loops
values_other vars [] n x f = refl
values_other vars (v ∷ loops) n x f =
    let lt : v < n = f v (ap (λ (b : Bool). b || is_among loops v) (same v)) in
    let one : number (slice_set vars n x) v ≡ number vars v = get_or-set_other vars n v x (pos 0) (λ e. absurd (omega (arith, lt, e))) in
    ap (λ (xs : List ℕ). unsigned_abs (number (slice_set vars n x) v) ∷ xs) (values_other vars loops n x (λ k h. f k (later k h))) ∙ ap (λ (z : ℤ). unsigned_abs z ∷ values vars loops) one where
      same : (a : ℕ) → nat_eq a a ≡ true
      same a = grind (arith, nat_tests)

      later : (k : ℕ) → is_among loops k ≡ true → (nat_eq k v || is_among loops k) ≡ true
      later k h = elim (nat_eq k v) as (λ b. (b || is_among loops k) ≡ true) [ true ↦ refl | false ↦ h ]

among_dropped : (e : ℕ) (loops : List ℕ) (k : ℕ) → is_among (drop e loops) k ≡ true → is_among loops k ≡ true
among_dropped zero loops k h = h
among_dropped (suc e) [] k h = h
among_dropped (suc e) (v ∷ loops) k h = elim (nat_eq k v) as (λ b. (b || is_among loops k) ≡ true) [ true ↦ refl | false ↦ among_dropped e loops k h ]

-- at a turn of a loop
pub values_turn : (vars : Numbers) (loops : List ℕ) (e n k : ℕ) → ((j : ℕ) → is_among loops j ≡ true → j < n) → n < length vars → values (slice_set vars n (pos k)) (drop e loops ++ n ∷ []) ≡ values vars (drop e loops) ++ k ∷ []
values_turn vars loops e n k f lt =
    values_end (slice_set vars n (pos k)) (drop e loops) n
    ∙ ap (λ (xs : List ℕ). xs ++ unsigned_abs (number (slice_set vars n (pos k)) n) ∷ []) (values_other vars (drop e loops) n (pos k) (λ j h. f j (among_dropped e loops j h)))
    ∙ ap (λ (z : ℤ). values vars (drop e loops) ++ unsigned_abs z ∷ []) (get_or-set_same vars n (pos k) (pos 0) lt)

pub values_dropped : (vars : Numbers) (loops : List ℕ) (e n : ℕ) (x : ℤ) → ((k : ℕ) → is_among loops k ≡ true → k < n) → values (slice_set vars n x) (drop e loops) ≡ values vars (drop e loops)
values_dropped vars loops e n x f = values_other vars (drop e loops) n x (λ j h. f j (among_dropped e loops j h))

-- ---- numbers that are bound
pub among_from : (n : ℕ) (binds : List ℕ) (v : ℕ) → counts_from n binds ≡ true → is_among binds v ≡ true → (n ≤ v) × (v < n + length binds)
among_from n [] v c h = cc
among_from n (b ∷ binds) v c h =
    let is : b ≡ n = same_tensor b n (left (b == n) (counts_from (n + 1) binds) c) in
    elim (nat_eq v b) as (λ t. nat_eq v b ≡ t → (t || is_among binds v) ≡ true → (n ≤ v) × (v < n + length (b ∷ binds))) [
      | true ↦ λ e _. let same : v ≡ b = same_tensor v b e in (omega (arith, same, is), omega (arith, same, is))
      | false ↦ λ _ later. let rest = among_from (n + 1) binds v (right (b == n) (counts_from (n + 1) binds) c) later in (omega (arith, rest.0), omega (arith, rest.1))
    ] refl h

-- ---- the first coordinates of an update are the values of its variables
variable_is : (vars : Numbers) (v : ℕ) (i : Index) → is_variable v (bare i) ≡ true → place vars i ≡ number vars v
variable_is vars v i e = by_parts i.loose i.first i.second i.offset e where
  whole : (a : ℤ) (o : ℤ) → int_eq o (pos 0) ≡ true → (a +ℤ pos 0) +ℤ o ≡ a
  whole a o h = let z : o ≡ pos 0 = grind (arith, ints) in omega (arith, ints, z)

  by_parts : (l : Bool) (f s : Option ℕ) (o : ℤ) → is_variable v (bare_variable l f s (int_eq o (pos 0))) ≡ true → (number_if vars f +ℤ number_if vars s) +ℤ o ≡ number vars v
  by_parts true f s o h = cc
  by_parts false None s o h = cc
  by_parts false (Some u) (Some x) o h = cc
  by_parts false (Some u) None o h = elim (int_eq o (pos 0)) as (λ b. int_eq o (pos 0) ≡ b → is_variable v (bare_variable false (Some u) None b) ≡ true → (number vars u +ℤ pos 0) +ℤ o ≡ number vars v) [
    | true ↦ λ zero same. whole (number vars u) o zero ∙ ap (number vars) (same_tensor u v same)
    | false ↦ λ _ none. absurd (let c : ◌≡◌ {A = Bool} false true = none in cc)
  ] refl h

some_split : (n : ℕ) (ns : List ℕ) (z : ℤ) (zs : List ℤ) (cs : List ℕ) → coordinates (n ∷ ns) (z ∷ zs) ≡ Some cs → (c : ℕ) × (ds : List ℕ) × (z ≡ pos c) × (cs ≡ c ∷ ds) × (coordinates ns zs ≡ Some ds)
some_split n ns (negsuc c) zs cs e = cc
some_split n ns (pos c) zs cs e = elim (nat_lt c n) as (λ b. (if b then with_first c (coordinates ns zs) else None) ≡ Some cs → (d : ℕ) × (ds : List ℕ) × (pos c ≡ pos d) × (cs ≡ d ∷ ds) × (coordinates ns zs ≡ Some ds)) [
  | true ↦ λ h. rest (coordinates ns zs) h
  | false ↦ λ h. cc
] e where
  rest : (o : Option (List ℕ)) → with_first c o ≡ Some cs → (d : ℕ) × (ds : List ℕ) × (pos c ≡ pos d) × (cs ≡ d ∷ ds) × (o ≡ Some ds)
  rest None h = cc
  rest (Some ds) h = (c, ds, refl, cc, refl)

pub first_coordinates : (d : ℕ) (vars : Numbers) (loops shape : List ℕ) (at : List Index) (cs : List ℕ) → d ≤ length loops → are_variables (take d loops) (take d at) ≡ true → coordinates shape (map (place vars) at) ≡ Some cs → take d cs ≡ take d (values vars loops)
first_coordinates zero vars loops shape at cs le e c = refl
first_coordinates (suc d) vars [] shape at cs le e c = absurd (omega (arith, le))
first_coordinates (suc d) vars (v ∷ loops) shape [] cs le e c = cc
first_coordinates (suc d) vars (v ∷ loops) [] (i ∷ at) cs le e c = cc
first_coordinates (suc d) vars (v ∷ loops) (n ∷ shape) (i ∷ at) cs le e c =
    let (x, ds, is, split, rest) = some_split n shape (place vars i) (map (place vars) at) cs c in
    let one : x ≡ unsigned_abs (number vars v) = ap unsigned_abs (sym is ∙ variable_is vars v i (left (is_variable v (bare i)) (are_variables (take d loops) (take d at)) e)) in
    ap (take (suc d)) split ∙ ap (λ (k : ℕ). k ∷ take d ds) one ∙ ap (λ (xs : List ℕ). unsigned_abs (number vars v) ∷ xs) (first_coordinates d vars loops shape at ds (omega (arith, le)) (right (is_variable v (bare i)) (are_variables (take d loops) (take d at)) e) rest)

-- ---- the invariant
module _ (hs : List Header) (t : ℕ) where
  -- an update was made in this turn, along loops whose next one is behind
  pub record Stepped (loops : List ℕ) (tracks : Tracks) (n : ℕ) : Type 0 where
    pub first : List ℕ
    pub is : tracks.firsts t ≡ Some first
    pub next : ℕ
    pub goes : take (suc (length (drop (tracks.entered t) loops))) (drop (tracks.entered t) first) ≡ drop (tracks.entered t) loops ++ next ∷ []
    pub behind : next < n

  pub record InOrder (loops : List ℕ) (tracks : Tracks) (n : ℕ) (vars : Numbers) (last : Option (List ℕ)) : Type 0 where
    pub deep : depth hs t ≤ length (drop (tracks.entered t) loops) → Weak (depth hs t) last (values vars (drop (tracks.entered t) loops))
    pub shallow : length (drop (tracks.entered t) loops) < depth hs t → Strict last (values vars (drop (tracks.entered t) loops)) ⊎ (Weak (length (drop (tracks.entered t) loops)) last (values vars (drop (tracks.entered t) loops)) × Stepped loops tracks n)

  pub no_update : (loops : List ℕ) (tracks : Tracks) (n : ℕ) (vars : Numbers) (last : Option (List ℕ)) → last ≡ None → InOrder loops tracks n vars last
  no_update loops tracks n vars last e = subst (InOrder loops tracks n vars) (sym e) (record { deep = λ _. refl; shallow = λ _. inl tt })
