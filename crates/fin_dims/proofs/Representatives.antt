-- A representative for each class of joined dimensions and loops, and its number: for each list of ties that isn't uneven.
use Rattle.std.proofs.Common.{◌≡◌, ◌≢◌, ◌⊎◌, inl, inr, ℕ, List, [], ◌∷◌, Option, Some, None, refl, sym, ap, ap₂, ◌∙◌, subst, arith}
use Rattle.std.specs.Prelude.{Contains}
use Rattle.std.specs.Option.{option_or}
use Rattle.std.proofs.lemmas.Option.{none-some, same_Some}
use Rattle.fin_ast.specs.declared.place.Tie.{Tie}
use Rattle.fin_ast.specs.Ties.{Node, Dimension, OfLoop, AreJoined, IsChain, Shapes, Extents, HasExtent, IsUneven, AreExtents, known}
use Rattle.fin_dims.proofs.Joined.{IsWithin, joined_itself, joined_on, joined_back, joined_by, joined_stays, joined_alike, extent_stays, extent_along}
use Rattle.fin_dims.proofs.Order.{cons_cases, later, here}
use Rattle.fin_dims.proofs.OneOutcome.{same_option}
use Rattle.fin_dims.proofs.Settled.{same_or_not, or_left, or_right, or_back}

-- ---- one of two, by whether something holds

abbrev pick : {P A : Type 0} → P ⊎ (P → ⊥) → A → A → A
pick (inl h) a b = a
pick (inr n) a b = b

picked : {P A : Type 0} (d : P ⊎ (P → ⊥)) (a b : A) → P → pick d a b ≡ a
picked (inl h) a b p = refl
picked (inr n) a b p = absurd (n p)

passed : {P A : Type 0} (d : P ⊎ (P → ⊥)) (a b : A) → (P → ⊥) → pick d a b ≡ b
passed (inl h) a b n = absurd (n h)
passed (inr m) a b n = refl

same_node : (a b : Node) → (a ≡ b) ⊎ (a ≢ b)
same_node (Dimension m) (Dimension n) = elim (same_or_not m n) [ inl e ↦ inl (ap Dimension e) | inr other ↦ inr (λ e. other (cc)) ]
same_node (Dimension m) (OfLoop n) = inr (λ e. cc)
same_node (OfLoop m) (Dimension n) = inr (λ e. cc)
same_node (OfLoop m) (OfLoop n) = elim (same_or_not m n) [ inl e ↦ inl (ap OfLoop e) | inr other ↦ inr (λ e. other (cc)) ]

-- ---- classes

-- a representative of each class, and the number to which each node is joined
pub record Represented (shapes : Shapes) (ties : List Tie) : Type 0 where
  pub chief : Node → Node
  pub extent : Extents
  pub kept : (t : Tie) → Contains ties t → chief (Dimension t.dimension) ≡ chief (OfLoop t.var)
  pub sound : (a b : Node) → chief a ≡ chief b → AreJoined ties a b
  pub extents : AreExtents shapes ties extent

pub represented_even : (shapes : Shapes) (ties : List Tie) → Represented shapes ties → ¬ IsUneven shapes ties
represented_even shapes ties s u =
    let first = (s.extents (Dimension u.first) u.number).1 (u.first, u.first_known, joined_itself ties (Dimension u.first)) in
    let second = (s.extents (Dimension u.first) u.other).1 (u.second, u.second_known, u.joined) in
    u.differ (same_Some u.number u.other (sym first ∙ second))

-- ---- no tie

alone : (a b : Node) (over : List Node) → IsChain [] a over b → a ≡ b
alone a b [] e = e
alone a b (c ∷ over) h = absurd (omega (arith, h.0.1.1))

abbrev own : Shapes → Extents
own shapes (Dimension d) = known shapes d
own shapes (OfLoop var) = None

own_extent : (shapes : Shapes) (a : Node) (n : ℕ) → own shapes a ≡ Some n → HasExtent shapes [] a n
own_extent shapes (Dimension d) n e = (d, e, joined_itself [] (Dimension d))
own_extent shapes (OfLoop var) n e = absurd (none-some n e)

pub represented_none : (shapes : Shapes) → Represented shapes []
represented_none shapes = record {
  chief = λ a. a;
  extent = own shapes;
  kept = λ t h. absurd (omega (arith, h.1));
  sound = λ a b e. ([], e);
  extents = λ a n. (own_extent shapes a n, λ h. ap (own shapes) (alone a (Dimension h.0) h.2.0 h.2.1) ∙ h.1);
}

-- ---- one more tie

module _ (shapes : Shapes) (ties : List Tie) (s : Represented shapes ties) (t : Tie) where
  abbrev at : Node
  at = Dimension t.dimension

  abbrev loop_of : Node
  loop_of = OfLoop t.var

  within : IsWithin ties (t ∷ ties)
  within x h = later t ties x h

  stays : (a b : Node) → AreJoined ties a b → AreJoined (t ∷ ties) a b
  stays a b j = joined_stays ties (t ∷ ties) within a b j

  tied : AreJoined (t ∷ ties) at loop_of
  tied = joined_by (t ∷ ties) t (here t ties t refl)

  same_extent : (a b : Node) → s.chief a ≡ s.chief b → s.extent a ≡ s.extent b
  same_extent a b e = same_option (s.extent a) (s.extent b)
      (λ n is. (s.extents b n).1 (extent_along shapes ties b a n (s.sound b a (sym e)) ((s.extents a n).0 is)))
      (λ n is. (s.extents a n).1 (extent_along shapes ties a b n (s.sound a b e) ((s.extents b n).0 is)))

  ends_uneven : (m n : ℕ) → s.extent at ≡ Some m → s.extent loop_of ≡ Some n → m ≢ n → IsUneven shapes (t ∷ ties)
  ends_uneven m n e f differ =
      let p = (s.extents at m).0 e in
      let q = (s.extents loop_of n).0 f in
      record {
        first = p.0;
        second = q.0;
        number = m;
        other = n;
        first_known = p.1;
        second_known = q.1;
        differ = differ;
        joined = joined_on (t ∷ ties) (Dimension p.0) at (Dimension q.0) (joined_back (t ∷ ties) at (Dimension p.0) (stays at (Dimension p.0) p.2))
            (joined_on (t ∷ ties) at loop_of (Dimension q.0) tied (stays loop_of (Dimension q.0) q.2));
      }

  -- the two ends have no unequal numbers
  module _ (agree : (m n : ℕ) → s.extent at ≡ Some m → s.extent loop_of ≡ Some n → m ≡ n) where
    abbrev both : Option ℕ
    both = option_or (s.extent at) (s.extent loop_of)

    abbrev chief_of : Node → Node
    chief_of r = pick (same_node r (s.chief loop_of)) (s.chief at) r

    abbrev extent_of : Node → Option ℕ → Option ℕ
    extent_of r o = pick (same_node r (s.chief loop_of)) both (pick (same_node r (s.chief at)) both o)

    abbrev chief' : Node → Node
    chief' a = chief_of (s.chief a)

    abbrev extent' : Extents
    extent' a = extent_of (s.chief a) (s.extent a)

    chief_at : s.chief at ≡ chief' at
    chief_at = elim (same_node (s.chief at) (s.chief loop_of)) [
      | inl e ↦ sym (picked (same_node (s.chief at) (s.chief loop_of)) (s.chief at) (s.chief at) e)
      | inr other ↦ sym (passed (same_node (s.chief at) (s.chief loop_of)) (s.chief at) (s.chief at) other)
    ]

    chief_loop : s.chief at ≡ chief' loop_of
    chief_loop = sym (picked (same_node (s.chief loop_of) (s.chief loop_of)) (s.chief at) (s.chief loop_of) refl)

    kept' : (x : Tie) → Contains (t ∷ ties) x → chief' (Dimension x.dimension) ≡ chief' (OfLoop x.var)
    kept' x h = elim (cons_cases t ties x h.0 h.1 h.2) [
      | inl e ↦ subst (λ (y : Tie). chief' (Dimension y.dimension) ≡ chief' (OfLoop y.var)) e (sym chief_at ∙ chief_loop)
      | inr m ↦ ap chief_of (s.kept x m)
    ]

    stands : (a : Node) → (b : Node) × (s.chief b ≡ chief' a) × AreJoined (t ∷ ties) a b
    stands a = elim (same_node (s.chief a) (s.chief loop_of)) [
      | inl e ↦ (
        at,
        sym (picked (same_node (s.chief a) (s.chief loop_of)) (s.chief at) (s.chief a) e),
        joined_on (t ∷ ties) a loop_of at (stays a loop_of (s.sound a loop_of e)) (joined_back (t ∷ ties) at loop_of tied),
      )
      | inr other ↦ (a, sym (passed (same_node (s.chief a) (s.chief loop_of)) (s.chief at) (s.chief a) other), joined_itself (t ∷ ties) a)
    ]

    sound' : (a b : Node) → chief' a ≡ chief' b → AreJoined (t ∷ ties) a b
    sound' a b e =
        let p = stands a in
        let q = stands b in
        joined_on (t ∷ ties) a p.0 b p.2 (joined_on (t ∷ ties) p.0 q.0 b (stays p.0 q.0 (s.sound p.0 q.0 (p.1 ∙ e ∙ sym q.1))) (joined_back (t ∷ ties) b q.0 q.2))

    -- the numbers
    with_loop : (a : Node) → s.chief a ≡ s.chief loop_of → extent' a ≡ both
    with_loop a e = picked (same_node (s.chief a) (s.chief loop_of)) both (pick (same_node (s.chief a) (s.chief at)) both (s.extent a)) e

    with_dimension : (a : Node) → s.chief a ≡ s.chief at → extent' a ≡ both
    with_dimension a e = elim (same_node (s.chief a) (s.chief loop_of)) [
      | inl same ↦ with_loop a same
      | inr other ↦ passed (same_node (s.chief a) (s.chief loop_of)) both (pick (same_node (s.chief a) (s.chief at)) both (s.extent a)) other
          ∙ picked (same_node (s.chief a) (s.chief at)) both (s.extent a) e
    ]

    with_none : (a : Node) → s.chief a ≢ s.chief loop_of → s.chief a ≢ s.chief at → extent' a ≡ s.extent a
    with_none a other apart =
        passed (same_node (s.chief a) (s.chief loop_of)) both (pick (same_node (s.chief a) (s.chief at)) both (s.extent a)) other ∙ passed (same_node (s.chief a) (s.chief at)) both (s.extent a) apart

    extent_kept : (x : Tie) → Contains (t ∷ ties) x → extent' (Dimension x.dimension) ≡ extent' (OfLoop x.var)
    extent_kept x h = elim (cons_cases t ties x h.0 h.1 h.2) [
      | inl e ↦ subst (λ (y : Tie). extent' (Dimension y.dimension) ≡ extent' (OfLoop y.var)) e (with_dimension at refl ∙ sym (with_loop loop_of refl))
      | inr m ↦ ap₂ extent_of (s.kept x m) (same_extent (Dimension x.dimension) (OfLoop x.var) (s.kept x m))
    ]

    both_owned : (a : Node) (n : ℕ) → AreJoined (t ∷ ties) a at → both ≡ Some n → HasExtent shapes (t ∷ ties) a n
    both_owned a n j e = elim (or_back (s.extent at) (s.extent loop_of) n e) [
      | inl h ↦ extent_along shapes (t ∷ ties) a at n j (extent_stays shapes ties (t ∷ ties) within at n ((s.extents at n).0 h))
      | inr h ↦ extent_along shapes (t ∷ ties) a loop_of n (joined_on (t ∷ ties) a at loop_of j tied) (extent_stays shapes ties (t ∷ ties) within loop_of n ((s.extents loop_of n).0 h))
    ]

    owned : (a : Node) (n : ℕ) → extent' a ≡ Some n → HasExtent shapes (t ∷ ties) a n
    owned a n e = elim (same_node (s.chief a) (s.chief loop_of)) [
      | inl same ↦ both_owned a n (joined_on (t ∷ ties) a loop_of at (stays a loop_of (s.sound a loop_of same)) (joined_back (t ∷ ties) at loop_of tied)) (sym (with_loop a same) ∙ e)
      | inr other ↦ elim (same_node (s.chief a) (s.chief at)) [
        | inl same ↦ both_owned a n (stays a at (s.sound a at same)) (sym (with_dimension a same) ∙ e)
        | inr apart ↦ extent_stays shapes ties (t ∷ ties) within a n ((s.extents a n).0 (sym (with_none a other apart) ∙ e))
      ]
    ]

    tells : (a : Node) (n : ℕ) → s.extent a ≡ Some n → extent' a ≡ Some n
    tells a n e = elim (same_node (s.chief a) (s.chief loop_of)) [
      | inl same ↦
          let f : s.extent loop_of ≡ Some n = sym (same_extent a loop_of same) ∙ e in
          with_loop a same ∙ or_right (s.extent at) (s.extent loop_of) n f (λ m h. agree m n h f)
      | inr other ↦ elim (same_node (s.chief a) (s.chief at)) [
        | inl same ↦ with_dimension a same ∙ or_left (s.extent at) (s.extent loop_of) n (sym (same_extent a at same) ∙ e)
        | inr apart ↦ with_none a other apart ∙ e
      ]
    ]

    told : (a : Node) (n : ℕ) → HasExtent shapes (t ∷ ties) a n → extent' a ≡ Some n
    told a n h =
        joined_alike extent' (t ∷ ties) extent_kept a (Dimension h.0) h.2
        ∙ tells (Dimension h.0) n ((s.extents (Dimension h.0) n).1 (h.0, h.1, joined_itself ties (Dimension h.0)))

    represented_more : Represented shapes (t ∷ ties)
    represented_more = record { chief = chief'; extent = extent'; kept = kept'; sound = sound'; extents = λ a n. (owned a n, told a n) }

  by_ends : (o p : Option ℕ) → s.extent at ≡ o → s.extent loop_of ≡ p → Represented shapes (t ∷ ties) ⊎ IsUneven shapes (t ∷ ties)
  by_ends None p e f = inl (represented_more (λ m n h k. absurd (none-some m (sym e ∙ h))))
  by_ends (Some m) None e f = inl (represented_more (λ k n h l. absurd (none-some n (sym f ∙ l))))
  by_ends (Some m) (Some n) e f = elim (same_or_not m n) [
    | inl same ↦ inl (represented_more (λ k l h i. sym (same_Some m k (sym e ∙ h)) ∙ same ∙ same_Some n l (sym f ∙ i)))
    | inr differ ↦ inr (ends_uneven m n e f differ)
  ]

  pub represented_next : Represented shapes (t ∷ ties) ⊎ IsUneven shapes (t ∷ ties)
  represented_next = by_ends (s.extent at) (s.extent loop_of) refl refl
