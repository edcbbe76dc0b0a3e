-- What each tie does to the classes.
use Rattle.std.proofs.Common.{◌≡◌, ◌≢◌, ◌⊎◌, inl, inr, ℕ, zero, suc, List, [], ◌∷◌, ◌++◌, refl, sym, ap, ◌∙◌, subst, Option, Some, None, arith, get_or}
use Rattle.std.specs.Option.{option_or}
use Rattle.std.proofs.lemmas.Option.{none-some, same_Some}
use Rattle.std.proofs.lemmas.List.Elements.{Contains-append_left, Contains-push, Contains-push_cases}
use Rattle.fin_ast.specs.declared.place.Tie.{Tie}
use Rattle.fin_ast.specs.Ties.{Node, Dimension, OfLoop, AreJoined, Shapes, HasExtent, IsUneven, AreExtents}
use Rattle.fin_dims.specs.Classes.{number_at, HaveLabel, IsSettled}
use Rattle.fin_dims.proofs.Joined.{IsWithin, joined_itself, joined_on, joined_back, joined_by, joined_stays, joined_alike, extent_stays, extent_along}

pub same_or_not : (a b : ℕ) → (a ≡ b) ⊎ (a ≢ b)
same_or_not zero zero = inl refl
same_or_not zero (suc b) = inr (λ e. omega arith)
same_or_not (suc a) zero = inr (λ e. omega arith)
same_or_not (suc a) (suc b) = elim (same_or_not a b) [ inl e ↦ inl (ap suc e) | inr n ↦ inr (λ e. n (omega arith)) ]

labelled : (numbers : List (Option ℕ)) (o : Option ℕ) (n : ℕ) → number_at numbers o ≡ Some n → (c : ℕ) × (o ≡ Some c) × (get_or numbers c None ≡ Some n)
labelled numbers None n h = absurd (none-some n h)
labelled numbers (Some c) n h = (c, refl, h)

told_or_not : (o : Option ℕ) → (o ≡ None) ⊎ ((k : ℕ) × (o ≡ Some k))
told_or_not None = inl refl
told_or_not (Some k) = inr (k, refl)

pub or_left : (a b : Option ℕ) (n : ℕ) → a ≡ Some n → option_or a b ≡ Some n
or_left None b n e = absurd (none-some n e)
or_left (Some m) b n e = e

pub or_right : (a b : Option ℕ) (n : ℕ) → b ≡ Some n → ((m : ℕ) → a ≡ Some m → m ≡ n) → option_or a b ≡ Some n
or_right None b n e agree = e
or_right (Some m) b n e agree = ap Some (agree m refl)

pub or_back : (a b : Option ℕ) (n : ℕ) → option_or a b ≡ Some n → (a ≡ Some n) ⊎ (b ≡ Some n)
or_back None b n e = inr e
or_back (Some m) b n e = inl e

module _ (shapes : Shapes) (ties : List Tie) (label : Node → Option ℕ) (numbers : List (Option ℕ)) (s : IsSettled shapes ties label numbers) where
  alike : (a b : Node) → AreJoined ties a b → label a ≡ label b
  alike a b j = joined_alike label ties (λ t h. let k = s.kept t h in k.1 ∙ sym k.2) a b j

  -- the numbers of the labels are those to which the chains lead
  pub settled_extents : AreExtents shapes ties (λ a. number_at numbers (label a))
  settled_extents a n = (λ e. s.owned a n e, λ h. ap (number_at numbers) (alike a (Dimension h.0) h.2) ∙ s.told h.0 n h.1)

  pub settled_even : ¬ IsUneven shapes ties
  settled_even u = u.differ (same_Some u.number u.other (sym (s.told u.first u.number u.first_known) ∙ ap (number_at numbers) (alike (Dimension u.first) (Dimension u.second) u.joined) ∙ s.told u.second u.other u.second_known))

  module _ (t : Tie) where
    within : IsWithin ties (ties ++ t ∷ [])
    within x h = Contains-append_left ties (t ∷ []) x h

    joined_new : AreJoined (ties ++ t ∷ []) (Dimension t.dimension) (OfLoop t.var)
    joined_new = joined_by (ties ++ t ∷ []) t (Contains-push ties t)

    -- each new label was before the label of a node that is joined
    abbrev StandIn : (Node → Option ℕ) → Type 0
    StandIn label' = (a : Node) (c : ℕ) → label' a ≡ Some c → (b : Node) × (label b ≡ Some c) × AreJoined (ties ++ t ∷ []) a b

    sound_moved : (label' : Node → Option ℕ) → StandIn label' → (a b : Node) (c : ℕ) → label' a ≡ Some c → label' b ≡ Some c → AreJoined (ties ++ t ∷ []) a b
    sound_moved label' stand a b c e f =
        let p = stand a c e in
        let q = stand b c f in
        joined_on (ties ++ t ∷ []) a p.0 b p.2
        (joined_on (ties ++ t ∷ []) p.0 q.0 b (joined_stays ties (ties ++ t ∷ []) within p.0 q.0 (s.sound p.0 q.0 c p.1 q.1)) (joined_back (ties ++ t ∷ []) b q.0 q.2))

    owned_moved : (a b : Node) (n : ℕ) → AreJoined (ties ++ t ∷ []) a b → number_at numbers (label b) ≡ Some n → HasExtent shapes (ties ++ t ∷ []) a n
    owned_moved a b n j e = extent_along shapes (ties ++ t ∷ []) a b n j (extent_stays shapes ties (ties ++ t ∷ []) within b n (s.owned b n e))

    -- a tie inside a class
    pub settled_same : HaveLabel label t → IsSettled shapes (ties ++ t ∷ []) label numbers
    settled_same h = record {
      kept = λ x m. elim (Contains-push_cases ties t x m) [ inl before ↦ s.kept x before | inr e ↦ subst (HaveLabel label) e h ];
      sound = λ a b c e f. joined_stays ties (ties ++ t ∷ []) within a b (s.sound a b c e f);
      told = s.told;
      owned = λ a n e. extent_stays shapes ties (ties ++ t ∷ []) within a n (s.owned a n e);
    }

    -- unequal numbers at both ends
    pub uneven_ends : (from to m n : ℕ) → label (OfLoop t.var) ≡ Some from → label (Dimension t.dimension) ≡ Some to → get_or numbers from None ≡ Some m → get_or numbers to None ≡ Some n → n ≢ m → IsUneven shapes (ties ++ t ∷ [])
    uneven_ends from to m n ef et em en differ =
        let p = s.owned (OfLoop t.var) m (ap (number_at numbers) ef ∙ em) in
        let q = s.owned (Dimension t.dimension) n (ap (number_at numbers) et ∙ en) in
        record {
          first = q.0;
          second = p.0;
          number = n;
          other = m;
          first_known = q.1;
          second_known = p.1;
          differ = differ;
          joined = joined_on (ties ++ t ∷ []) (Dimension q.0) (Dimension t.dimension) (Dimension p.0)
              (joined_back (ties ++ t ∷ []) (Dimension t.dimension) (Dimension q.0) (joined_stays ties (ties ++ t ∷ []) within (Dimension t.dimension) (Dimension q.0) q.2))
              (joined_on (ties ++ t ∷ []) (Dimension t.dimension) (OfLoop t.var) (Dimension p.0) joined_new (joined_stays ties (ties ++ t ∷ []) within (OfLoop t.var) (Dimension p.0) p.2));
        }

    -- a loop without label gets that of the dimension
    module _ (label' : Node → Option ℕ) (c : ℕ) (none : label (OfLoop t.var) ≡ None) (at : label (Dimension t.dimension) ≡ Some c) (anchor : label' (OfLoop t.var) ≡ Some c) (dimensions : (d : ℕ) → label' (Dimension d) ≡ label (Dimension d)) (others : (v : ℕ) → v ≢ t.var → label' (OfLoop v) ≡ label (OfLoop v)) where
      anchor_stands : StandIn label'
      anchor_stands (Dimension d) k e = (Dimension d, sym (dimensions d) ∙ e, joined_itself (ties ++ t ∷ []) (Dimension d))
      anchor_stands (OfLoop v) k e = elim (same_or_not v t.var) [
        | inl same ↦ (Dimension t.dimension, at ∙ sym anchor ∙ ap (λ (x : ℕ). label' (OfLoop x)) (sym same) ∙ e, subst (λ (x : ℕ). AreJoined (ties ++ t ∷ []) (OfLoop x) (Dimension t.dimension)) (sym same) (joined_back (ties ++ t ∷ []) (Dimension t.dimension) (OfLoop t.var) joined_new))
        | inr apart ↦ (OfLoop v, sym (others v apart) ∙ e, joined_itself (ties ++ t ∷ []) (OfLoop v))
      ]

      anchor_keeps : (x : Tie) → HaveLabel label x → HaveLabel label' x
      anchor_keeps x h = elim (same_or_not x.var t.var) [
        | inl same ↦ absurd (none-some h.0 (sym none ∙ ap (λ (y : ℕ). label (OfLoop y)) (sym same) ∙ h.2))
        | inr apart ↦ (h.0, dimensions x.dimension ∙ h.1, others x.var apart ∙ h.2)
      ]

      pub settled_anchor : IsSettled shapes (ties ++ t ∷ []) label' numbers
      settled_anchor = record {
        kept = λ x m. elim (Contains-push_cases ties t x m) [
          | inl before ↦ anchor_keeps x (s.kept x before)
          | inr e ↦ subst (HaveLabel label') e (c, dimensions t.dimension ∙ at, anchor)
        ];
        sound = sound_moved label' anchor_stands;
        told = λ d n h. ap (number_at numbers) (dimensions d) ∙ s.told d n h;
        owned = λ a n e.
            let k = labelled numbers (label' a) n e in
            let p = anchor_stands a k.0 k.1 in
            owned_moved a p.0 n p.2 (ap (number_at numbers) p.1 ∙ k.2);
      }

    -- two classes become one
    module _ (label' : Node → Option ℕ) (numbers' : List (Option ℕ)) (from to : ℕ)
        (ef : label (OfLoop t.var) ≡ Some from) (et : label (Dimension t.dimension) ≡ Some to) (apart : from ≢ to)
        (moved : (a : Node) → label a ≡ Some from → label' a ≡ Some to)
        (stays : (a : Node) (c : ℕ) → label a ≡ Some c → c ≢ from → label' a ≡ Some c)
        (none : (a : Node) → label a ≡ None → label' a ≡ None)
        (joint : get_or numbers' to None ≡ option_or (get_or numbers to None) (get_or numbers from None))
        (others : (c : ℕ) → c ≢ to → get_or numbers' c None ≡ get_or numbers c None)
        (agree : (m n : ℕ) → get_or numbers to None ≡ Some m → get_or numbers from None ≡ Some n → m ≡ n) where
      merge_stands : StandIn label'
      merge_stands a c e = elim (told_or_not (label a)) [
        | inl h ↦ absurd (none-some c (sym (none a h) ∙ e))
        | inr k ↦ elim (same_or_not k.0 from) [
          | inl same ↦ (
            Dimension t.dimension,
            et ∙ sym (moved a (k.1 ∙ ap Some same)) ∙ e,
            joined_on (ties ++ t ∷ []) a (OfLoop t.var) (Dimension t.dimension)
                (joined_stays ties (ties ++ t ∷ []) within a (OfLoop t.var) (s.sound a (OfLoop t.var) from (k.1 ∙ ap Some same) ef))
                (joined_back (ties ++ t ∷ []) (Dimension t.dimension) (OfLoop t.var) joined_new),
          )
          | inr differ ↦ (a, k.1 ∙ sym (stays a k.0 k.1 differ) ∙ e, joined_itself (ties ++ t ∷ []) a)
        ]
      ]

      merge_keeps : (x : Tie) → HaveLabel label x → HaveLabel label' x
      merge_keeps x h = elim (same_or_not h.0 from) [
        | inl same ↦ (to, moved (Dimension x.dimension) (h.1 ∙ ap Some same), moved (OfLoop x.var) (h.2 ∙ ap Some same))
        | inr differ ↦ (h.0, stays (Dimension x.dimension) h.0 h.1 differ, stays (OfLoop x.var) h.0 h.2 differ)
      ]

      merge_tells : (a : Node) (n : ℕ) → number_at numbers (label a) ≡ Some n → number_at numbers' (label' a) ≡ Some n
      merge_tells a n h =
          let k = labelled numbers (label a) n h in
          elim (same_or_not k.0 from) [
            | inl same ↦ ap (number_at numbers') (moved a (k.1 ∙ ap Some same)) ∙ joint
                ∙ or_right (get_or numbers to None) (get_or numbers from None) n (ap (λ (x : ℕ). get_or numbers x None) (sym same) ∙ k.2) (λ m e. agree m n e (ap (λ (x : ℕ). get_or numbers x None) (sym same) ∙ k.2))
            | inr differ ↦ ap (number_at numbers') (stays a k.0 k.1 differ) ∙ elim (same_or_not k.0 to) [
              | inl same ↦ ap (λ (x : ℕ). get_or numbers' x None) same ∙ joint ∙ or_left (get_or numbers to None) (get_or numbers from None) n (ap (λ (x : ℕ). get_or numbers x None) (sym same) ∙ k.2)
              | inr other ↦ others k.0 other ∙ k.2
            ]
          ]

      merge_owns : (a : Node) (n : ℕ) → number_at numbers' (label' a) ≡ Some n → HasExtent shapes (ties ++ t ∷ []) a n
      merge_owns a n e =
          let k = labelled numbers' (label' a) n e in
          let p = merge_stands a k.0 k.1 in
          elim (same_or_not k.0 to) [
            | inl same ↦ elim (or_back (get_or numbers to None) (get_or numbers from None) n (sym joint ∙ ap (λ (x : ℕ). get_or numbers' x None) (sym same) ∙ k.2)) [
              | inl h ↦ owned_moved a p.0 n p.2 (ap (number_at numbers) (p.1 ∙ ap Some same) ∙ h)
              | inr h ↦ owned_moved a (OfLoop t.var) n
                  (joined_on (ties ++ t ∷ []) a p.0 (OfLoop t.var) p.2
                  (joined_on (ties ++ t ∷ []) p.0 (Dimension t.dimension) (OfLoop t.var) (joined_stays ties (ties ++ t ∷ []) within p.0 (Dimension t.dimension) (s.sound p.0 (Dimension t.dimension) to (p.1 ∙ ap Some same) et)) joined_new))
                  (ap (number_at numbers) ef ∙ h)
            ]
            | inr other ↦ owned_moved a p.0 n p.2 (ap (number_at numbers) p.1 ∙ sym (others k.0 other) ∙ k.2)
          ]

      pub settled_merge : IsSettled shapes (ties ++ t ∷ []) label' numbers'
      settled_merge = record {
        kept = λ x m. elim (Contains-push_cases ties t x m) [
          | inl before ↦ merge_keeps x (s.kept x before)
          | inr e ↦ subst (HaveLabel label') e (to, stays (Dimension t.dimension) to et (λ same. apart (sym same)), moved (OfLoop t.var) ef)
        ];
        sound = sound_moved label' merge_stands;
        told = λ d n h. merge_tells (Dimension d) n (s.told d n h);
        owned = merge_owns;
      }
