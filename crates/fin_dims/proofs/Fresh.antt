-- Before any tie the classes are settled.
use Rattle.std.proofs.Common.{◌≡◌, ◌⊎◌, ◌≤◌, ◌<◌, ◌*◌, ◌+◌, zero, suc, ◌/◌, ◌%◌, inl, inr, ℕ, List, [], ◌∷◌, ◌++◌, refl, sym, ap, ◌∙◌, subst, Option, Some, None, arith, length, map, get_or, replicate}
use Rattle.std.specs.Prelude.{slice_get, All}
use Rattle.std.specs.List.{range_with_len}
use Rattle.std.proofs.lemmas.Option.{none-some, same_Some, slice_get_within, slice_get-get_or}
use Rattle.std.proofs.lemmas.List.Elements.{All-replicate, All-from_get_or}
use Rattle.std.proofs.lemmas.List.FromFn.{length-map-range_with_len, get_or-map-range_with_len, map-range_with_len_more}
use Rattle.fin_ast.specs.Ties.{Node, Dimension, OfLoop, AreJoined, Shapes, known, number_in, HasExtent}
use Rattle.fin_dims.specs.Classes.{label_of, label_through, number_at, IsSettled, AreInRange, IsBelow}
use Rattle.fin_dims.specs.declared.classes.Classes.{Classes}
use Rattle.fin_dims.specs.Start.{HasDimensions}
use Rattle.fin_dims.proofs.Joined.{joined_itself}

module _ (shapes : Shapes) (n loops : ℕ) (anchors : List (Option ℕ)) (labels : List ℕ) (numbers : List (Option ℕ))
    (none : anchors ≡ replicate loops None) (own : labels ≡ map (λ d. d) (range_with_len 0 n)) (given : numbers ≡ map (known shapes) (range_with_len 0 n)) where
  label_count : length labels ≡ n
  label_count = ap length own ∙ length-map-range_with_len (λ d. d) 0 n

  number_count : length numbers ≡ n
  number_count = ap length given ∙ length-map-range_with_len (known shapes) 0 n

  own_label : (d e : ℕ) → d < n → get_or labels d e ≡ d
  own_label d e h = ap (λ (xs : List ℕ). get_or xs d e) own ∙ get_or-map-range_with_len (λ k. k) 0 n d d e h (omega arith)

  own_number : (d : ℕ) → d < n → get_or numbers d None ≡ known shapes d
  own_number d h = ap (λ (xs : List (Option ℕ)). get_or xs d None) given ∙ get_or-map-range_with_len (known shapes) 0 n d d None h (omega arith)

  label_is : (d c : ℕ) → slice_get labels d ≡ Some c → (d < n) × (c ≡ d)
  label_is d c e =
      let h : d < n = subst (λ (k : ℕ). d < k) label_count (slice_get_within labels d c e) in
      (h, same_Some c d (sym e ∙ slice_get-get_or labels d 0 (subst (λ (k : ℕ). d < k) (sym label_count) h) ∙ ap Some (own_label d 0 h)))

  get_none : (var k : ℕ) → ◌≡◌ {A = Option ℕ} (get_or (replicate k None) var None) None
  get_none var zero = refl
  get_none zero (suc k) = refl
  get_none (suc var) (suc k) = get_none var k

  no_anchor : (var : ℕ) → get_or anchors var None ≡ None
  no_anchor var = ap (λ (xs : List (Option ℕ)). get_or xs var None) none ∙ get_none var loops

  node_is : (a : Node) (c : ℕ) → label_of anchors labels a ≡ Some c → (a ≡ Dimension c) × (c < n)
  node_is (Dimension d) c e = let k = label_is d c e in (ap Dimension (sym k.1), subst (λ (x : ℕ). x < n) (sym k.1) k.0)
  node_is (OfLoop var) c e = absurd (none-some c (sym (ap (label_through labels) (no_anchor var)) ∙ e))

  labelled : (o : Option ℕ) (m : ℕ) → number_at numbers o ≡ Some m → (c : ℕ) × (o ≡ Some c) × (get_or numbers c None ≡ Some m)
  labelled None m h = absurd (none-some m h)
  labelled (Some c) m h = (c, refl, h)

  fresh_owns : (a : Node) (m : ℕ) → number_at numbers (label_of anchors labels a) ≡ Some m → HasExtent shapes [] a m
  fresh_owns a m e =
      let k = labelled (label_of anchors labels a) m e in
      let p = node_is a k.0 k.1 in
      (k.0, sym (own_number k.0 p.1) ∙ k.2, subst (λ (x : Node). AreJoined [] a x) p.0 (joined_itself [] a))

  pub fresh_settled : ((d m : ℕ) → known shapes d ≡ Some m → d < n) → IsSettled shapes [] (label_of anchors labels) numbers
  fresh_settled within = record {
    kept = λ t m. absurd (omega (arith, m.1));
    sound = λ a b c e f. subst (λ (x : Node). AreJoined [] a x) ((node_is a c e).0 ∙ sym (node_is b c f).0) (joined_itself [] a);
    told = λ d m h. let k : d < n = within d m h in
        ap (number_at numbers) (slice_get-get_or labels d 0 (subst (λ (x : ℕ). d < x) (sym label_count) k) ∙ ap Some (own_label d 0 k)) ∙ own_number d k ∙ h;
    owned = fresh_owns;
  }

  pub fresh_ready : AreInRange anchors labels numbers
  fresh_ready = record {
    labels_in = All-from_get_or (λ (c : ℕ). c < length numbers) labels 0 (λ i h. let k : i < n = subst (λ (x : ℕ). i < x) label_count h in subst (λ (c : ℕ). c < length numbers) (sym (own_label i 0 k)) (subst (λ (x : ℕ). i < x) (sym number_count) k));
    anchors_in = subst (All (IsBelow (length labels))) (sym none) (All-replicate (IsBelow (length labels)) loops None tt);
  }

  pub fresh_labels : length labels ≡ n
  fresh_labels = label_count

le_or_past : (shapes : Shapes) (t : ℕ) → (get_or shapes t None ≡ None) ⊎ (t < length shapes)
le_or_past [] t = inl refl
le_or_past (s ∷ ss) zero = inr (omega arith)
le_or_past (s ∷ ss) (suc t) = elim (le_or_past ss t) [ inl e ↦ inl e | inr h ↦ inr (omega arith) ]

pub known_within : (shapes : Shapes) (most : ℕ) → 8 * length shapes ≤ most → (d m : ℕ) → known shapes d ≡ Some m → d < most + 1
known_within shapes most room d m e = elim (le_or_past shapes (d / 8)) [ inl past ↦ absurd (none-some m (sym (ap (λ (o : Option (List ℕ)). number_in o (d % 8)) past) ∙ e)) | inr h ↦ omega arith ]

pub grown : (shapes : Shapes) (n : ℕ) (old new : Classes) → HasDimensions shapes n old → new.labels.items ≡ old.labels.items ++ n ∷ [] → new.numbers.items ≡ old.numbers.items ++ known shapes n ∷ [] → HasDimensions shapes (n + 1) new
grown shapes n old new h el en = record {
  labels = el ∙ ap (λ (xs : List ℕ). xs ++ n ∷ []) h.labels ∙ sym (map-range_with_len_more (λ d. d) 0 n n (omega arith));
  numbers = en ∙ ap (λ (xs : List (Option ℕ)). xs ++ known shapes n ∷ []) h.numbers ∙ sym (map-range_with_len_more (known shapes) 0 n n (omega arith));
}
