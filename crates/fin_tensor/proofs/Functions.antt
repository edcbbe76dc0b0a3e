-- Laws of tensor functions.
use Rattle.std.proofs.Common.{IsTrue, ◌≡◌, ◌≢◌, ℕ, refl, sym, ap, ◌∙◌, arith, ℤ, List, [], ◌∷◌, Bool, true, false, cond, Option, Some, None, IfSome, unwrap_or, if◌then◌else◌, subst}
use Rattle.std.specs.Ordering.{nat_cmp, int_eq, is_eq}
use Rattle.std.specs.Cmp.{eq_by_cmp_equiv}
use Rattle.std.specs.Cmp.Lexicographic.{slice_cmp, nat_list_cmp_total}
use Rattle.std.specs.FinMap.{get-empty, get, insert, remove, from_entries, get-insert, get-remove, get-from_entries, same_map, find, IsAntisymmetric, slice_cmp-IsAntisymmetric, nat_cmp-IsAntisymmetric}
use Rattle.std.specs.declared.cmp.Ordering.TheVariants.{Less, Equal, Greater}
use Rattle.std.specs.BTreeMap.{is_at}
use Rattle.std.specs.Map.{lookup}
use Rattle.std.proofs.lemmas.Int.{ints}
use Rattle.std.specs.Int.{w64}
use Rattle.std.specs.Prelude.{FitsSigned}
use Rattle.fin_tensor.specs.TensorFunction.{IsEntry, IsTensor, is_in_box, TensorFunction, value_at, with_value, AgreeingAreEqual, GivesOnePlace, KeepsTensors}

pub only_equal_tie : IsAntisymmetric (slice_cmp nat_cmp)
only_equal_tie = slice_cmp-IsAntisymmetric nat_cmp-IsAntisymmetric

pub same_option : (a b : Option ℤ) (x y : ℤ) → IfSome a (λ v. v ≢ x) → IfSome b (λ v. v ≢ y) → x ≡ y → unwrap_or a x ≡ unwrap_or b y → a ≡ b
same_option None None x y p q e h = refl
same_option None (Some w) x y p q e h = absurd (q (sym h ∙ e))
same_option (Some v) None x y p q e h = absurd (p (h ∙ sym e))
same_option (Some v) (Some w) x y p q e h = ap Some h

other : (f : TensorFunction) (cs : List ℕ) (o : Option ℤ) → IfSome o (IsEntry f.shape f.fill cs) → IfSome o (λ v. v ≢ f.fill)
other f cs None h = tt
other f cs (Some v) h = h.other

pub agreeing_are_equal : AgreeingAreEqual
agreeing_are_equal f g p q es ef h =
    let ec : f.cells ≡ g.cells = same_map nat_list_cmp_total only_equal_tie f.cells g.cells (λ cs. same_option _ _ _ _ (other f cs (get f.cells cs) (p cs)) (other g cs (get g.cells cs) (q cs)) ef (h cs)) in
    λ i. record { shape = es i; fill = ef i; cells = ec i }

abbrev tests : List ℕ → List ℕ → Bool
tests q k = is_at (slice_cmp nat_cmp q) k

found : (es : List (List ℕ × ℤ)) (q : List ℕ) → find (slice_cmp nat_cmp) q es ≡ lookup (is_at (slice_cmp nat_cmp q)) es
found [] q = refl
found (e ∷ es) q = ap (cond (tests q e.0) (Some e.1)) (found es q)

-- what the map that entries make has at a coordinate
pub held : (es : List (List ℕ × ℤ)) (q : List ℕ) → get (from_entries {R = slice_cmp nat_cmp} es) q ≡ lookup (is_at (slice_cmp nat_cmp q)) es
held es q = get-from_entries nat_list_cmp_total es q ∙ found es q

inserted : (es fs : List (List ℕ × ℤ)) (k : List ℕ) (v : ℤ) → ((q : List ℕ) → lookup (is_at (slice_cmp nat_cmp q)) fs ≡ cond (is_at (slice_cmp nat_cmp k) q) (Some v) (lookup (is_at (slice_cmp nat_cmp q)) es)) → from_entries {R = slice_cmp nat_cmp} fs ≡ insert (from_entries es) k v
inserted es fs k v h = same_map nat_list_cmp_total only_equal_tie _ _ (λ q.
    held fs q ∙ h q ∙ ap (λ b. cond b (Some v) (lookup (is_at (slice_cmp nat_cmp q)) es)) ((eq_by_cmp_equiv nat_list_cmp_total).symm k q)
    ∙ sym (get-insert nat_list_cmp_total (from_entries es) k v q ∙ ap (cond (tests q k) (Some v)) (held es q)))

removed : (es fs : List (List ℕ × ℤ)) (k : List ℕ) → ((q : List ℕ) → lookup (is_at (slice_cmp nat_cmp q)) fs ≡ cond (is_at (slice_cmp nat_cmp k) q) None (lookup (is_at (slice_cmp nat_cmp q)) es)) → from_entries {R = slice_cmp nat_cmp} fs ≡ remove (from_entries es) k
removed es fs k h = same_map nat_list_cmp_total only_equal_tie _ _ (λ q.
    held fs q ∙ h q ∙ ap (λ b. cond b None (lookup (is_at (slice_cmp nat_cmp q)) es)) ((eq_by_cmp_equiv nat_list_cmp_total).symm k q)
    ∙ sym (get-remove nat_list_cmp_total (from_entries es) k q ∙ ap (cond (tests q k) None) (held es q)))

-- the test whether a value is the fill
int_eq_same : (v : ℤ) → int_eq v v ≡ true
int_eq_same v = grind (arith, ints)

int_eq_apart : (v w : ℤ) → v ≢ w → int_eq v w ≡ false
int_eq_apart v w n = grind (arith, ints)

pub gives_fill : (shape : List ℕ) (fill : ℤ) (es fs : List (List ℕ × ℤ)) (k : List ℕ) (v : ℤ) → v ≡ fill → ((q : List ℕ) → lookup (is_at (slice_cmp nat_cmp q)) fs ≡ cond (is_at (slice_cmp nat_cmp k) q) None (lookup (is_at (slice_cmp nat_cmp q)) es)) →
    ◌≡◌ {A = TensorFunction} (record { shape = shape; fill = fill; cells = from_entries fs }) (with_value (record { shape = shape; fill = fill; cells = from_entries es }) k v)
gives_fill shape fill es fs k v e h =
    let t : int_eq v fill ≡ true = ap (int_eq v) (sym e) ∙ int_eq_same v in
    let c : from_entries {R = slice_cmp nat_cmp} fs ≡ (if int_eq v fill then remove (from_entries es) k else insert (from_entries es) k v) = removed es fs k h ∙ ap (λ b. if b then remove (from_entries es) k else insert (from_entries es) k v) (sym t) in
    λ i. record { shape = shape; fill = fill; cells = c i }

-- w is v, as the code handed it on
pub gives_other : (shape : List ℕ) (fill : ℤ) (es fs : List (List ℕ × ℤ)) (k : List ℕ) (v w : ℤ) → w ≡ v → v ≢ fill → ((q : List ℕ) → lookup (is_at (slice_cmp nat_cmp q)) fs ≡ cond (is_at (slice_cmp nat_cmp k) q) (Some w) (lookup (is_at (slice_cmp nat_cmp q)) es)) →
    ◌≡◌ {A = TensorFunction} (record { shape = shape; fill = fill; cells = from_entries fs }) (with_value (record { shape = shape; fill = fill; cells = from_entries es }) k v)
gives_other shape fill es fs k v w same n h =
    let t : int_eq v fill ≡ false = int_eq_apart v fill n in
    let c : from_entries {R = slice_cmp nat_cmp} fs ≡ (if int_eq v fill then remove (from_entries es) k else insert (from_entries es) k v) = inserted es fs k w h ∙ ap (insert (from_entries es) k) same ∙ ap (λ b. if b then remove (from_entries es) k else insert (from_entries es) k v) (sym t) in
    λ i. record { shape = shape; fill = fill; cells = c i }

-- ---- what a value given at one place changes
pub tied : (k : List ℕ) → is_at (slice_cmp nat_cmp k) k ≡ true
tied k = (eq_by_cmp_equiv nat_list_cmp_total).refl k

apart : (q k : List ℕ) → q ≢ k → is_at (slice_cmp nat_cmp q) k ≡ false
apart q k n = elim (slice_cmp nat_cmp q k) as (λ r. slice_cmp nat_cmp q k ≡ r → is_eq r ≡ false) [
  | Less ↦ λ _. refl
  | Equal ↦ λ e. absurd (n (only_equal_tie q k e))
  | Greater ↦ λ _. refl
] refl

module _ (f : TensorFunction) (cs : List ℕ) (v : ℤ) where
  there_removed : v ≡ f.fill → unwrap_or (get (remove f.cells cs) cs) f.fill ≡ v
  there_removed e = ap (λ o. unwrap_or o f.fill) (get-remove nat_list_cmp_total f.cells cs cs ∙ ap (λ b. cond b None (get f.cells cs)) (tied cs)) ∙ sym e

  there_inserted : unwrap_or (get (insert f.cells cs v) cs) f.fill ≡ v
  there_inserted = ap (λ o. unwrap_or o f.fill) (get-insert nat_list_cmp_total f.cells cs v cs ∙ ap (λ b. cond b (Some v) (get f.cells cs)) (tied cs))

  other_removed : (ds : List ℕ) → ds ≢ cs → get (remove f.cells cs) ds ≡ get f.cells ds
  other_removed ds n = get-remove nat_list_cmp_total f.cells cs ds ∙ ap (λ b. cond b None (get f.cells ds)) (apart ds cs n)

  other_inserted : (ds : List ℕ) → ds ≢ cs → get (insert f.cells cs v) ds ≡ get f.cells ds
  other_inserted ds n = get-insert nat_list_cmp_total f.cells cs v ds ∙ ap (λ b. cond b (Some v) (get f.cells ds)) (apart ds cs n)

same_word : (v w : ℤ) → int_eq v w ≡ true → v ≡ w
same_word v w e = grind (arith, ints)

pub gives_one_place : GivesOnePlace
gives_one_place f cs v =
    elim (int_eq v f.fill) as (λ b. int_eq v f.fill ≡ b → (unwrap_or (get (if b then remove f.cells cs else insert f.cells cs v) cs) f.fill ≡ v) × ((ds : List ℕ) → ds ≢ cs → unwrap_or (get (if b then remove f.cells cs else insert f.cells cs v) ds) f.fill ≡ value_at f ds)) [
      | true ↦ λ e. (there_removed f cs v (same_word v f.fill e), λ ds n. ap (λ o. unwrap_or o f.fill) (other_removed f cs v ds n))
      | false ↦ λ e. (there_inserted f cs v, λ ds n. ap (λ o. unwrap_or o f.fill) (other_inserted f cs v ds n))
    ] refl

pub differs : (v w : ℤ) → int_eq v w ≡ false → v ≢ w
differs v w e = grind (arith, ints)

-- with one entry more, or with one less
kept_without : (f : TensorFunction) (cs ds : List ℕ) (b : Bool) → IfSome (get f.cells ds) (IsEntry f.shape f.fill ds) → IfSome (cond b None (get f.cells ds)) (IsEntry f.shape f.fill ds)
kept_without f cs ds true h = tt
kept_without f cs ds false h = h

kept_with : (f : TensorFunction) (cs ds : List ℕ) (v : ℤ) (b : Bool) → (b ≡ true → IsEntry f.shape f.fill ds v) → IfSome (get f.cells ds) (IsEntry f.shape f.fill ds) → IfSome (cond b (Some v) (get f.cells ds)) (IsEntry f.shape f.fill ds)
kept_with f cs ds v true g h = g refl
kept_with f cs ds v false g h = h

pub tied_are_same : (ds cs : List ℕ) → tests ds cs ≡ true → ds ≡ cs
tied_are_same ds cs e = elim (slice_cmp nat_cmp ds cs) as (λ r. slice_cmp nat_cmp ds cs ≡ r → is_eq r ≡ true → ds ≡ cs) [
  | Less ↦ λ _ h. cc
  | Equal ↦ λ p _. only_equal_tie ds cs p
  | Greater ↦ λ _ h. cc
] refl e

-- a value that is the fill need be no word
pub keeps_tensors_by : (f : TensorFunction) (cs : List ℕ) (v : ℤ) → IsTensor f → IsTrue (is_in_box f.shape cs) → (v ≢ f.fill → FitsSigned w64 v) → IsTensor (with_value f cs v)
keeps_tensors_by f cs v h within word ds =
    elim (int_eq v f.fill) as (λ b. int_eq v f.fill ≡ b → IfSome (get (if b then remove f.cells cs else insert f.cells cs v) ds) (IsEntry f.shape f.fill ds)) [
      | true ↦ λ e. subst (λ (o : Option ℤ). IfSome o (IsEntry f.shape f.fill ds)) (sym (get-remove nat_list_cmp_total f.cells cs ds)) (kept_without f cs ds (tests ds cs) (h ds))
      | false ↦ λ e. subst (λ (o : Option ℤ). IfSome o (IsEntry f.shape f.fill ds)) (sym (get-insert nat_list_cmp_total f.cells cs v ds))
          (kept_with f cs ds v (tests ds cs) (λ t. record { inside = subst (λ (x : List ℕ). IsTrue (is_in_box f.shape x)) (sym (tied_are_same ds cs t)) within; other = differs v f.fill e; word = word (differs v f.fill e) }) (h ds))
    ] refl

pub keeps_tensors : KeepsTensors
keeps_tensors f cs v h within word = keeps_tensors_by f cs v h within (λ _. word)

pub empty_is : (shape : List ℕ) (fill : ℤ) (es : List (List ℕ × ℤ)) → es ≡ [] → IsTensor (record { shape = shape; fill = fill; cells = from_entries es })
empty_is shape fill es e cs =
    subst (λ (o : Option ℤ). IfSome o (IsEntry shape fill cs)) (sym (ap (λ (fs : List (List ℕ × ℤ)). get (from_entries {R = slice_cmp nat_cmp} fs) cs) e ∙ get-empty (slice_cmp nat_cmp) cs)) tt

pub still_is : (f g : TensorFunction) (cs : List ℕ) (v : ℤ) → IsTensor f → IsTrue (is_in_box f.shape cs) → FitsSigned w64 v → g ≡ with_value f cs v → IsTensor g
still_is f g cs v h within word e = subst (λ (t : TensorFunction). IsTensor t) (sym e) (keeps_tensors f cs v h within word)

-- ---- what lies outside the box
outside_by : (shape : List ℕ) (fill : ℤ) (cs : List ℕ) (o : Option ℤ) → IfSome o (IsEntry shape fill cs) → is_in_box shape cs ≡ false → unwrap_or o fill ≡ fill
outside_by shape fill cs None h out = refl
outside_by shape fill cs (Some v) h out = let x : true ≡ false = sym h.inside ∙ out in cc

pub outside : (f : TensorFunction) (cs : List ℕ) → IsTensor f → is_in_box f.shape cs ≡ false → value_at f cs ≡ f.fill
outside f cs h out = outside_by f.shape f.fill cs (get f.cells cs) (h cs) out

-- functions that agree in shape, fill and inside the box are equal
pub agreeing_inside_are_equal : (f g : TensorFunction) → IsTensor f → IsTensor g → f.shape ≡ g.shape → f.fill ≡ g.fill → ((cs : List ℕ) → IsTrue (is_in_box f.shape cs) → value_at f cs ≡ value_at g cs) → f ≡ g
agreeing_inside_are_equal f g p q es ef h = agreeing_are_equal f g p q es ef (λ cs.
    elim (is_in_box f.shape cs) as (λ b. is_in_box f.shape cs ≡ b → value_at f cs ≡ value_at g cs) [
      | true ↦ λ within. h cs within
      | false ↦ λ out. outside f cs p out ∙ ef ∙ sym (outside g cs q (ap (λ (ns : List ℕ). is_in_box ns cs) (sym es) ∙ out))
    ] refl)

word_by : (shape : List ℕ) (fill : ℤ) (cs : List ℕ) (o : Option ℤ) → IfSome o (IsEntry shape fill cs) → unwrap_or o fill ≢ fill → FitsSigned w64 (unwrap_or o fill)
word_by shape fill cs None h ne = absurd (ne refl)
word_by shape fill cs (Some v) h ne = h.word

-- a value other than the fill is a word
pub value_is_word : (f : TensorFunction) (cs : List ℕ) → IsTensor f → value_at f cs ≢ f.fill → FitsSigned w64 (value_at f cs)
value_is_word f cs h ne = word_by f.shape f.fill cs (get f.cells cs) (h cs) ne
