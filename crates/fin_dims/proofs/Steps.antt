-- The same, with the classes as lists.
use Rattle.std.proofs.Common.{◌≡◌, ◌≢◌, ◌<◌, ℕ, List, [], ◌∷◌, ◌++◌, refl, sym, ap, ◌∙◌, subst, Option, Some, None, option_map, arith, length, map, get_or, set, Bool, true, false}
use Rattle.std.specs.Prelude.{slice_get}
use Rattle.std.proofs.lemmas.Bool.Decides.{nat_tests}
use Rattle.std.proofs.lemmas.Option.{slice_get-map, slice_get-get_or, slice_get_read, get_or_from_slice_get}
use Rattle.std.proofs.lemmas.List.{get_or-set_other, get_or-set_same}
use Rattle.fin_ast.specs.declared.place.Tie.{Tie}
use Rattle.fin_ast.specs.Ties.{Node, Dimension, OfLoop, Shapes, IsUneven}
use Rattle.std.specs.Prelude.{All, MatchBool}
use Rattle.std.proofs.lemmas.List.{length-map}
use Rattle.std.proofs.lemmas.List.Elements.{All-same, All-map, All-weaker, All-set, All-get_or}
use Rattle.fin_dims.specs.Classes.{label_of, label_through, IsSettled, relabelled, joint, AreEqual, AreUnequal, AreInRange, IsBelow}
use Rattle.fin_dims.proofs.Settled.{settled_same, settled_anchor, settled_merge, uneven_ends}

relabelled_from : (from to : ℕ) → relabelled from to from ≡ to
relabelled_from from to = grind (arith, nat_tests)

relabelled_other : (from to c : ℕ) → c ≢ from → relabelled from to c ≡ c
relabelled_other from to c h = grind (arith, nat_tests)

label_through-map : (f : ℕ → ℕ) (labels : List ℕ) (anchor : Option ℕ) → label_through (map f labels) anchor ≡ option_map f (label_through labels anchor)
label_through-map f labels None = refl
label_through-map f labels (Some d) = slice_get-map f labels d

label_of-map : (f : ℕ → ℕ) (anchors : List (Option ℕ)) (labels : List ℕ) (a : Node) → label_of anchors (map f labels) a ≡ option_map f (label_of anchors labels a)
label_of-map f anchors labels (Dimension d) = slice_get-map f labels d
label_of-map f anchors labels (OfLoop v) = label_through-map f labels (get_or anchors v None)

module _ (shapes : Shapes) (ties : List Tie) (anchors : List (Option ℕ)) (labels : List ℕ) (numbers : List (Option ℕ)) (s : IsSettled shapes ties (label_of anchors labels) numbers) (t : Tie) where
  pub anchored : t.var < length anchors → t.dimension < length labels → get_or anchors t.var None ≡ None → IsSettled shapes (ties ++ t ∷ []) (label_of (set anchors t.var (Some t.dimension)) labels) numbers
  anchored v d none =
      let anchor : get_or (set anchors t.var (Some t.dimension)) t.var None ≡ Some t.dimension = get_or-set_same anchors t.var (Some t.dimension) None v in
      settled_anchor shapes ties (label_of anchors labels) numbers s t (label_of (set anchors t.var (Some t.dimension)) labels) (get_or labels t.dimension 0)
      (ap (label_through labels) none)
      (slice_get-get_or labels t.dimension 0 d)
      (ap (label_through labels) anchor ∙ slice_get-get_or labels t.dimension 0 d)
      (λ k. refl)
      (λ w apart. ap (label_through labels) (get_or-set_other anchors t.var w (Some t.dimension) None apart))

  module _ (anchor from to : ℕ) (at : get_or anchors t.var None ≡ Some anchor) (ef : slice_get labels anchor ≡ Some from) (et : slice_get labels t.dimension ≡ Some to) where
    from_loop : label_of anchors labels (OfLoop t.var) ≡ Some from
    from_loop = ap (label_through labels) at ∙ ef

    pub joined_already : from ≡ to → IsSettled shapes (ties ++ t ∷ []) (label_of anchors labels) numbers
    joined_already same = settled_same shapes ties (label_of anchors labels) numbers s t (from, et ∙ ap Some (sym same), from_loop)

    pub unequal : AreUnequal (get_or numbers to None) (get_or numbers from None) → IsUneven shapes (ties ++ t ∷ [])
    unequal u = uneven_ends shapes ties (label_of anchors labels) numbers s t from to u.second u.first from_loop et u.at_second u.at_first u.differ

    pub merged : from ≢ to → to < length numbers → AreEqual (get_or numbers to None) (get_or numbers from None) → IsSettled shapes (ties ++ t ∷ []) (label_of anchors (map (relabelled from to) labels)) (joint from to numbers)
    merged apart room agree =
        settled_merge shapes ties (label_of anchors labels) numbers s t (label_of anchors (map (relabelled from to) labels)) (joint from to numbers) from to from_loop et apart
        (λ a h. label_of-map (relabelled from to) anchors labels a ∙ ap (option_map (relabelled from to)) h ∙ ap Some (relabelled_from from to))
        (λ a c h differ. label_of-map (relabelled from to) anchors labels a ∙ ap (option_map (relabelled from to)) h ∙ ap Some (relabelled_other from to c differ))
        (λ a h. label_of-map (relabelled from to) anchors labels a ∙ ap (option_map (relabelled from to)) h)
        (get_or-set_same numbers to _ None room)
        (λ c differ. get_or-set_other numbers to c _ None differ)
        agree

    pub after_merge : (result : Bool) (anchors' : List (Option ℕ)) (labels' : List ℕ) (numbers' : List (Option ℕ)) → from ≢ to → to < length numbers → anchors' ≡ anchors → MatchBool result ((labels' ≡ map (relabelled from to) labels) × (numbers' ≡ joint from to numbers) × AreEqual (get_or numbers to None) (get_or numbers from None)) (AreUnequal (get_or numbers to None) (get_or numbers from None)) → MatchBool result (IsSettled shapes (ties ++ t ∷ []) (label_of anchors' labels') numbers') (IsUneven shapes (ties ++ t ∷ []))
    after_merge true anchors' labels' numbers' apart room ea m =
        subst (λ (as' : List (Option ℕ)). IsSettled shapes (ties ++ t ∷ []) (label_of as' labels') numbers') (sym ea)
        (subst (λ (ls : List ℕ). IsSettled shapes (ties ++ t ∷ []) (label_of anchors ls) numbers') (sym m.0)
        (subst (λ (ns : List (Option ℕ)). IsSettled shapes (ties ++ t ∷ []) (label_of anchors (map (relabelled from to) labels)) ns) (sym m.1) (merged apart room m.2)))
    after_merge false anchors' labels' numbers' apart room ea u = unequal u

below_new : (n from to label : ℕ) → to < n → label < n → relabelled from to label < n
below_new n from to label h k = grind (arith, nat_tests)

pub in_range_merged : (anchors : List (Option ℕ)) (labels labels' : List ℕ) (numbers numbers' : List (Option ℕ)) (from to : ℕ) → AreInRange anchors labels numbers → to < length numbers → labels' ≡ map (relabelled from to) labels → length numbers' ≡ length numbers → AreInRange anchors labels' numbers'
in_range_merged anchors labels labels' numbers numbers' from to r room e same = record {
  labels_in = All-same (λ (c : ℕ). c < length numbers') labels' (map (relabelled from to) labels) e
      (All-map (λ (c : ℕ). c < length numbers') (relabelled from to) labels
      (All-weaker (λ (c : ℕ). c < length numbers) (λ (c : ℕ). relabelled from to c < length numbers') (λ c h. below_new (length numbers') from to c (omega arith) (omega arith)) labels r.labels_in));
  anchors_in = let k : length labels ≡ length labels' = sym (ap length e ∙ length-map labels (relabelled from to)) in
      subst (λ (n : ℕ). All (IsBelow n) anchors) k r.anchors_in;
}

pub in_range_anchored : (anchors : List (Option ℕ)) (labels : List ℕ) (numbers : List (Option ℕ)) (var d : ℕ) → AreInRange anchors labels numbers → d < length labels → AreInRange (set anchors var (Some d)) labels numbers
in_range_anchored anchors labels numbers var d r h = record {
  labels_in = r.labels_in;
  anchors_in = All-set (IsBelow (length labels)) anchors var (Some d) h r.anchors_in;
}

pub anchor_below : (anchors : List (Option ℕ)) (labels : List ℕ) (numbers : List (Option ℕ)) (var d : ℕ) (o : Option ℕ) → AreInRange anchors labels numbers → var < length anchors → o ≡ get_or anchors var o → o ≡ Some d → d < length labels
anchor_below anchors labels numbers var d o r h e at = subst (IsBelow (length labels)) (sym e ∙ at) (All-get_or (IsBelow (length labels)) anchors var o h r.anchors_in)

pub read : {X : Type 0} (xs : List X) (i : ℕ) (x d : X) → i < length xs → x ≡ get_or xs i x → get_or xs i d ≡ x
read xs i x d h e = get_or_from_slice_get xs i x d (slice_get_read xs (length xs) i x refl h e)

pub label_below : (labels : List ℕ) (n i c : ℕ) → All (λ (x : ℕ). x < n) labels → i < length labels → c ≡ get_or labels i c → c < n
label_below labels n i c all h e = subst (λ (x : ℕ). x < n) (sym e) (All-get_or (λ (x : ℕ). x < n) labels i c h all)
