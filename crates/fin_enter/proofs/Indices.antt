-- The codes of the indices before a driven level have their values.
use Rattle.std.proofs.Common.{◌≡◌, ◌≢◌, ℕ, suc, ◌+◌, ◌*◌, ◌<◌, ◌≤◌, ◌^◌, Bool, true, false, ◌&&◌, List, [], ◌∷◌, map, take, Option, Some, None, refl, sym, ap, ◌∙◌, subst, ℤ, pos, negsuc, ◌+ℤ◌, arith, w64, if◌then◌else◌}
use Rattle.std.specs.Prelude.{nat_le, nat_eq, max, unsigned_abs}
use Rattle.std.specs.List.{list_all}
use Rattle.std.specs.Ordering.{int_eq}
use Rattle.std.proofs.lemmas.Bool.Decides.{nat_tests}
use Rattle.std.proofs.lemmas.Int.{ints, int_wrap_fits}
use borrow.Author.Differences.{same_in, sum_is_lem}
use Rattle.fin_base.specs.declared.terms.Op.TheVariants as op
use Rattle.fin_base.specs.Words.{IsWord, wrap}
use Rattle.fin_ast.specs.declared.tree.Index.{Index}
use Rattle.fin_ast.specs.Scope.{Scope, is_among, is_loop, is_index, differ}
use Rattle.fin_ast.specs.Value.{Numbers, number, number_if, place}
use Rattle.fin_ir.specs.declared.expression.IExpr.{IExpr}
use Rattle.fin_ir.specs.declared.expression.IExpr.TheVariants.{Num, Local, Two}
use Rattle.fin_ir.specs.Value.{value_of}
use Rattle.fin_ir.proofs.Values.{value_num, value_local}
use Rattle.fin_stage.specs.Staged.{is_small}
use Rattle.fin_stage.proofs.Alive.{left, right}
use Rattle.fin_looplet.specs.View.{Store}
use Rattle.fin_read.specs.Steps.{Agree}
use Rattle.fin_read.specs.Values.{vars_code, index_code}
use Rattle.fin_read.proofs.Placing.{two_of}
use Rattle.fin_simp.specs.Sights.{behind_var, behind_index, one_deeper, driven_index}
use Rattle.fin_drive.specs.Looplets.{other_of}
use Rattle.fin_drive.proofs.Inside.{driven_last}
use Rattle.fin_enter.specs.Sites.{IsCoordinate}
use Rattle.fin_enter.specs.Indices.{AreAround, small_offsets, IndicesAreBound}

-- ---- one index

sum_of : (a b : ℕ) → pos a +ℤ pos b ≡ pos (a + b)
sum_of a b = same_in (pos a +ℤ pos b) (pos (a + b)) (omega (arith, sum_is_lem (pos a) (pos b)))

few : (z : ℤ) → is_small z ≡ true → unsigned_abs z ≤ 2 ^ 40
few z e = grind (arith, nat_tests)

moved_word : (k : ℕ) (o : ℤ) → k ≤ 2 * 2 ^ 40 → unsigned_abs o ≤ 2 ^ 40 → IsWord (pos k +ℤ o)
moved_word k (pos o) a b = omega (arith, ints)
moved_word k (negsuc o) a b = omega (arith, ints)

no_more : (z : ℤ) → z ≡ z +ℤ pos 0
no_more z = same_in z (z +ℤ pos 0) (omega (arith, sum_is_lem z (pos 0)))

module _ (ts : Store) (vars : Numbers) (ks : List ℤ) where
  -- a variable that an index names has a coordinate, in its local too
  abbrev Named : Option ℕ → Type 0
  Named None = Unit {0}
  Named (Some x) = IsCoordinate vars ks x

  pub record IsSum (a b : Option ℕ) : Type 0 where
    pub number_is : ℕ
    pub value : value_of (vars_code a b) ts ks ≡ pos number_is
    pub same : number_if vars a +ℤ number_if vars b ≡ pos number_is
    pub below : number_is ≤ 2 * 2 ^ 40

  local_value : (x k : ℕ) → number ks x ≡ pos k → value_of (Local x) ts ks ≡ pos k
  local_value x k e = value_local ts ks x ∙ e

  sum_is : (a b : Option ℕ) → Named a → Named b → IsSum a b
  sum_is None None p q = record { number_is = 0; value = value_num ts ks (pos 0); same = refl; below = omega arith }
  sum_is None (Some y) p q = record {
    number_is = q.0;
    value = local_value y q.0 q.2;
    same = ap (λ z. pos 0 +ℤ z) q.1 ∙ sum_of 0 q.0 ∙ ap pos (let e : 0 + q.0 ≡ q.0 = omega arith in e);
    below = omega (arith, q.3);
  }
  sum_is (Some x) None p q = record { number_is = p.0; value = local_value x p.0 p.2; same = ap (λ z. z +ℤ pos 0) p.1 ∙ sym (no_more (pos p.0)); below = omega (arith, p.3) }
  sum_is (Some x) (Some y) p q = record {
    number_is = p.0 + q.0;
    value = two_of ts ks op.Add (Local x) (Local y) (pos p.0) (pos q.0) (local_value x p.0 p.2) (local_value y q.0 q.2)
        ∙ ap wrap (sum_of p.0 q.0) ∙ int_wrap_fits w64 (pos (p.0 + q.0)) (let e : IsWord (pos (p.0 + q.0)) = omega (arith, ints, p.3, q.3) in e);
    same = ap (λ z. z +ℤ number vars y) p.1 ∙ ap (λ z. pos p.0 +ℤ z) q.1 ∙ sum_of p.0 q.0;
    below = omega (arith, p.3, q.3);
  }

  moved_is : (x : IExpr) (k : ℕ) (o : ℤ) → value_of x ts ks ≡ pos k → k ≤ 2 * 2 ^ 40 → is_small o ≡ true → (b : Bool) → int_eq o (pos 0) ≡ b
      → value_of (if b then x else Two op.Add x (Num o)) ts ks ≡ pos k +ℤ o
  moved_is x k o v less small true none =
      let zero : o ≡ pos 0 = grind (arith, ints) in
      v ∙ no_more (pos k) ∙ ap (λ z. pos k +ℤ z) (sym zero)
  moved_is x k o v less small false some =
      two_of ts ks op.Add x (Num o) (pos k) o v (value_num ts ks o) ∙ int_wrap_fits w64 (pos k +ℤ o) (moved_word k o less (few o small))

  index_value : (i : Index) → Named i.first → Named i.second → is_small i.offset ≡ true → value_of (index_code i) ts ks ≡ place vars i
  index_value i p q small =
      let s = sum_is i.first i.second p q in
      moved_is (vars_code i.first i.second) s.number_is i.offset s.value s.below small (int_eq i.offset (pos 0)) refl ∙ ap (λ z. z +ℤ i.offset) (sym s.same)

-- ---- the indices before the driven one

module _ (sc : Scope) (vars : Numbers) (var at : ℕ) (ls : List ℤ) (around : AreAround sc var vars ls) (le : var ≤ at) where
  kept : (ks : List ℤ) → Agree at ks ls → (x : ℕ) → is_among sc.loops x ≡ true → x < var → IsCoordinate vars ks x
  kept ks same x among lt =
      let q = around x among lt in
      (q.0, q.1, same x (omega (arith, lt, le)) ∙ q.2, q.3)

  names_low : (ts : Store) (ks : List ℤ) → Agree at ks ls → (o : Option ℕ) → is_loop sc o ≡ true → behind_var o ≤ var → Named ts vars ks o
  names_low ts ks same None among lt = tt
  names_low ts ks same (Some x) among lt = kept ks same x among (omega (arith, lt))

  low_value : (ts : Store) (ks : List ℤ) → Agree at ks ls → (i : Index) → is_index sc i ≡ true → is_small i.offset ≡ true → behind_index i ≤ var → value_of (index_code i) ts ks ≡ place vars i
  low_value ts ks same i named small low =
      let loops = left (is_loop sc i.first && is_loop sc i.second) (differ i.first i.second) named in
      index_value ts vars ks i (names_low ts ks same i.first (left (is_loop sc i.first) (is_loop sc i.second) loops) (omega (arith, low)))
      (names_low ts ks same i.second (right (is_loop sc i.first) (is_loop sc i.second) loops) (omega (arith, low))) small

  abbrev Same : Store → List ℤ → ℕ → List Index → Type 0
  Same ts ks k is = map (λ (x : IExpr). value_of x ts ks) (take k (map index_code is)) ≡ take k (map (place vars) is)

  deeper_same : (ts : Store) (ks : List ℤ) (i : Index) (is : List Index) (later : Option (ℕ × Index)) (d : ℕ × Index) → value_of (index_code i) ts ks ≡ place vars i
      → ((x : ℕ × Index) → later ≡ Some x → Same ts ks x.0 is) → one_deeper later ≡ Some d → Same ts ks d.0 (i ∷ is)
  deeper_same ts ks i is None d v h e = cc
  deeper_same ts ks i is (Some x) d v h e =
      let y : ◌≡◌ {A = Option (ℕ × Index)} (Some (x.0 + 1, x.1)) (Some d) = e in
      let same : (x.0 + 1, x.1) ≡ d = cc in
      let more : suc x.0 ≡ x.0 + 1 = omega arith in
      let here : Same ts ks (suc x.0) (i ∷ is) = ap (λ z. z ∷ map (λ (u : IExpr). value_of u ts ks) (take x.0 (map index_code is))) v ∙ ap (λ zs. place vars i ∷ zs) (h x refl) in
      subst (λ (z : ℕ × Index). Same ts ks z.0 (i ∷ is)) same (subst (λ k. Same ts ks k (i ∷ is)) more here)

  same_by : (ts : Store) (ks : List ℤ) (i : Index) (is : List Index) (later : Option (ℕ × Index)) (d : ℕ × Index) → (behind_index i ≤ var → value_of (index_code i) ts ks ≡ place vars i)
      → ((x : ℕ × Index) → later ≡ Some x → Same ts ks x.0 is) → (a b : Bool) → nat_le (behind_index i) var ≡ a
      → (if a then one_deeper later else (if b then Some (0, i) else None)) ≡ Some d → Same ts ks d.0 (i ∷ is)
  same_by ts ks i is later d v h true b t e = deeper_same ts ks i is later d (v (grind (arith, nat_tests))) h e
  same_by ts ks i is later d v h false true t e =
      let y : ◌≡◌ {A = Option (ℕ × Index)} (Some (0, i)) (Some d) = e in
      let same : (0, i) ≡ d = cc in
      subst (λ (z : ℕ × Index). Same ts ks z.0 (i ∷ is)) same refl
  same_by ts ks i is later d v h false false t e = cc

  places_are : (ts : Store) (ks : List ℤ) → Agree at ks ls → (is : List Index) (d : ℕ × Index) → list_all (is_index sc) is ≡ true → small_offsets is ≡ true → driven_index var is ≡ Some d
      → Same ts ks d.0 is
  places_are ts ks same [] d named small e = cc
  places_are ts ks same (i ∷ is) d named small e =
      let first = left (is_index sc i) (list_all (is_index sc) is) named in
      let near = left (is_small i.offset) (small_offsets is) small in
      same_by ts ks i is (driven_index var is) d (low_value ts ks same i first near)
      (λ x. places_are ts ks same is x (right (is_index sc i) (list_all (is_index sc) is) named) (right (is_small i.offset) (small_offsets is) small))
      (nat_le (behind_index i) var) (nat_eq (behind_index i) (var + 1)) refl e

-- ---- the other variable of the driven one

deeper_holds : (P : Index → Bool) (later : Option (ℕ × Index)) (d : ℕ × Index) → ((x : ℕ × Index) → later ≡ Some x → P x.1 ≡ true) → one_deeper later ≡ Some d → P d.1 ≡ true
deeper_holds P None d h e = cc
deeper_holds P (Some x) d h e =
    let y : ◌≡◌ {A = Option (ℕ × Index)} (Some (x.0 + 1, x.1)) (Some d) = e in
    let same : (x.0 + 1, x.1) ≡ d = cc in
    subst (λ (z : ℕ × Index). P z.1 ≡ true) same (h x refl)

holds_by : (P : Index → Bool) (i : Index) (later : Option (ℕ × Index)) (d : ℕ × Index) → P i ≡ true → ((x : ℕ × Index) → later ≡ Some x → P x.1 ≡ true) → (a b : Bool)
    → (if a then one_deeper later else (if b then Some (0, i) else None)) ≡ Some d → P d.1 ≡ true
holds_by P i later d p h true b e = deeper_holds P later d h e
holds_by P i later d p h false true e =
    let y : ◌≡◌ {A = Option (ℕ × Index)} (Some (0, i)) (Some d) = e in
    let same : (0, i) ≡ d = cc in
    subst (λ (z : ℕ × Index). P z.1 ≡ true) same p
holds_by P i later d p h false false e = cc

pub driven_holds : (P : Index → Bool) (var : ℕ) (is : List Index) (d : ℕ × Index) → list_all P is ≡ true → driven_index var is ≡ Some d → P d.1 ≡ true
driven_holds P var [] d all e = cc
driven_holds P var (i ∷ is) d all e =
    holds_by P i (driven_index var is) d (left (P i) (list_all P is) all) (λ x. driven_holds P var is x (right (P i) (list_all P is) all))
    (nat_le (behind_index i) var) (nat_eq (behind_index i) (var + 1)) e

module _ (sc : Scope) (var : ℕ) where
  other_low : (a b : Option ℕ) (x : ℕ) → is_loop sc a ≡ true → is_loop sc b ≡ true → differ a b ≡ true → max (behind_var a) (behind_var b) ≡ var + 1 → other_of var a b ≡ Some x
      → (is_among sc.loops x ≡ true) × (x < var)
  other_low None b x p q d last e = cc
  other_low (Some a) b x p q d last e = by_test (nat_eq a var) refl e where
    second : (o : Option ℕ) → a ≡ var → is_loop sc o ≡ true → differ (Some a) o ≡ true → max (a + 1) (behind_var o) ≡ var + 1 → o ≡ Some x → (is_among sc.loops x ≡ true) × (x < var)
    second None own among apart most f = cc
    second (Some y) own among apart most f =
        let same : y ≡ x = cc in
        let other : a ≢ y = grind (arith, nat_tests) in
        let less : y < var = omega (arith, most, own, other) in
        (subst (λ z. is_among sc.loops z ≡ true) same among, subst (λ z. z < var) same less)

    by_test : (t : Bool) → nat_eq a var ≡ t → (if t then b else Some a) ≡ Some x → (is_among sc.loops x ≡ true) × (x < var)
    by_test true t f = second b (grind (arith, nat_tests)) q d last f
    by_test false t f =
        let same : a ≡ x = cc in
        let other : a ≢ var = grind (arith, nat_tests) in
        let less : a < var = omega (arith, last, other) in
        (subst (λ z. is_among sc.loops z ≡ true) same p, subst (λ z. z < var) same less)

pub indices_are_bound : IndicesAreBound
indices_are_bound ts sc vars var is d at ls around named small driven le = record {
  places = λ ks same. places_are sc vars var at ls around le ts ks same is d named small driven;
  others = λ x other.
      let i = d.1 in
      let own = driven_holds (is_index sc) var is d named driven in
      let loops = left (is_loop sc i.first && is_loop sc i.second) (differ i.first i.second) own in
      let q = other_low sc var i.first i.second x (left (is_loop sc i.first) (is_loop sc i.second) loops) (right (is_loop sc i.first) (is_loop sc i.second) loops)
      (right (is_loop sc i.first && is_loop sc i.second) (differ i.first i.second) own) (driven_last var is d driven) other in
      around x q.0 q.1;
}
