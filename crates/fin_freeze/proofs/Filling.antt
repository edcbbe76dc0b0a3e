-- What the steps of a walk over a storage fill in.
use Rattle.std.proofs.Common.{◌≡◌, ◌≢◌, ℕ, suc, ◌+◌, ◌<◌, ◌≤◌, List, [], ◌∷◌, ◌++◌, length, take, drop, refl, sym, ap, ◌∙◌, subst, ⊎_elim, arith, ℤ, IsTrue, Bool, Option, Some, None, IfSome, FitsSigned, w64, append_assoc, unwrap_or}
use Rattle.std.specs.Prelude.{slice_index, slice_index_or, if◌then◌else◌}
use Rattle.std.specs.FinMap.{get-empty}
use Rattle.std.specs.Ordering.{nat_cmp}
use Rattle.std.specs.Cmp.Lexicographic.{slice_cmp}
use Rattle.std.proofs.lemmas.Bool.{cases_eq}
use Rattle.std.proofs.lemmas.List.{append-nil, length_push, take_all}
use Rattle.fin_tensor.specs.declared.part.Part.{Part}
use Rattle.fin_tensor.specs.declared.part.Part.TheVariants as part
use Rattle.fin_tensor.specs.declared.storage.Storage.{Storage}
use Rattle.fin_tensor.specs.TensorFunction.{TensorFunction, IsTensor, value_at, is_in_box, filled, with_value}
use Rattle.fin_tensor.specs.Levels.{fibres, child_in, below, value_from}
use Rattle.fin_tensor.specs.Lines.{IsShape}
use Rattle.fin_tensor.specs.Stands.{stands}
use Rattle.fin_tensor.proofs.Functions.{gives_one_place, agreeing_inside_are_equal, value_is_word}
use Rattle.fin_tensor.proofs.Tabulated.{stands_at, tabulated_is_tensor, tabulated_shape, tabulated_fill}
use Rattle.fin_tensor.proofs.Walk.{child_at_within, stored_lengths, stored_levels, stored_extents, value_end, drop_length}
use Rattle.fin_freeze.specs.Thawing.{LeadsTo, values_below, child_at, values_of, blank, Holds, AgreeElsewhere, IsSpan}
use Rattle.fin_freeze.proofs.Walking.{until, until_here, until_not, until_more, below_by, holds_as, box_joined, box_none, box_push, other_branch, box_some, box_rest}

-- ---- what agrees elsewhere
pub deeper : (at : List ℕ) (i : ℕ) (f g : TensorFunction) → AgreeElsewhere (at ++ i ∷ []) f g → AgreeElsewhere at f g
deeper at i f g h ds out = h ds (λ cs e. out (i ∷ cs) (e ∙ append_assoc at (i ∷ []) cs))

pub onward : (at : List ℕ) (f g h : TensorFunction) → AgreeElsewhere at f g → AgreeElsewhere at g h → AgreeElsewhere at f h
onward at f g h a b ds out = b ds out ∙ a ds out

-- ---- a coordinate more
module _ (s : Storage) (at : List ℕ) (pos : ℕ) (leads : LeadsTo s at pos) (deep : length at < length s.parts) (place a b : ℕ) (span : IsSpan (slice_index s.shape (length at)) (slice_index_or s.parts (length at) part.Dense) pos place a b) (i : ℕ) (lo : a ≤ i) (hi : i < b) where
  abbrev next : List ℕ
  next = at ++ i ∷ []

  below_n : i < slice_index s.shape (length at)
  below_n = omega (arith, span.within)

  shaped : length at < length s.shape
  shaped = omega (arith, stored_lengths 1 s.format.levels s.shape s.parts s.val s.valid, deep)

  long : length next ≡ length at + 1
  long = length_push at i

  here : child_at s (length at) pos i ≡ Some place
  here = span.leads i lo hi

  pub leads_on : LeadsTo s next place
  leads_on = record {
    deep = omega (arith, long);
    inside = (let o : suc (length at) ≡ length next = omega (arith, long) in subst (λ (k : ℕ). IsTrue (is_in_box (take k s.shape) next)) o (box_push s.shape at i shaped leads.inside below_n));
    within = subst (λ (k : ℕ). place < fibres s.shape s.parts 1 k) (sym long)
        (subst (λ (o : Option ℕ). IfSome o (λ q. q < fibres s.shape s.parts 1 (length at + 1))) here (child_at_within (length at) 1 s.format.levels s.shape s.parts s.val pos i s.valid deep leads.within below_n));
  }

  inside_next : (cs : List ℕ) → IsTrue (is_in_box (drop (length at + 1) s.shape) cs) → IsTrue (is_in_box (drop (length at) s.shape) (i ∷ cs))
  inside_next cs h = box_joined s.shape (length at) i cs shaped below_n h

  value_here : (some : ℕ → ℕ → Bool) (cs : List ℕ) → values_of some s (length at) pos (i ∷ cs) ≡ below (Some place) (λ q. if some i q then values_below s (length at + 1) q cs else s.format.fill) s.format.fill
  value_here some cs = ap (λ (o : Option ℕ). below o (λ q. if some i q then values_below s (length at + 1) q cs else s.format.fill) s.format.fill) here

  pub blank_next : (f : TensorFunction) → Holds s at (values_of (until place i) s (length at) pos) f → Holds s next (blank s) f
  blank_next f h = record {
    shape_is = h.shape_is;
    fill_is = h.fill_is;
    values_are = λ cs b. ap (value_at f) (append_assoc at (i ∷ []) cs) ∙ h.values_are (i ∷ cs) (inside_next cs (subst (λ (k : ℕ). IsTrue (is_in_box (drop k s.shape) cs)) long b))
        ∙ value_here (until place i) cs ∙ ap (λ (t : Bool). if t then values_below s (length at + 1) place cs else s.format.fill) (until_not place i);
  }

  module _ (f g : TensorFunction) (h : Holds s at (values_of (until place i) s (length at) pos) f) (d : Holds s next (values_below s (length next) place) g) (e : AgreeElsewhere next f g) where
    at_here : (cs : List ℕ) → IsTrue (is_in_box (drop (length at + 1) s.shape) cs) → value_at g (at ++ i ∷ cs) ≡ values_of (until place (i + 1)) s (length at) pos (i ∷ cs)
    at_here cs b =
        ap (value_at g) (sym (append_assoc at (i ∷ []) cs))
        ∙ d.values_are cs (subst (λ (k : ℕ). IsTrue (is_in_box (drop k s.shape) cs)) (sym long) b)
        ∙ ap (λ (k : ℕ). values_below s k place cs) long
        ∙ ap (λ (t : Bool). if t then values_below s (length at + 1) place cs else s.format.fill) (sym (until_here place i))
        ∙ sym (value_here (until place (i + 1)) cs)

    at_other : (c : ℕ) (cs : List ℕ) → c ≢ i → IsTrue (is_in_box (drop (length at) s.shape) (c ∷ cs)) → value_at g (at ++ c ∷ cs) ≡ values_of (until place (i + 1)) s (length at) pos (c ∷ cs)
    at_other c cs ne b =
        e (at ++ c ∷ cs) (λ ds. other_branch at c i cs ds ne) ∙ h.values_are (c ∷ cs) b
        ∙ below_by (child_at s (length at) pos c) _ _ s.format.fill (λ q _. ap (λ (t : Bool). if t then values_below s (length at + 1) q cs else s.format.fill) (sym (until_more place i c q ne)))

    each_value : (cs : List ℕ) → IsTrue (is_in_box (drop (length at) s.shape) cs) → value_at g (at ++ cs) ≡ values_of (until place (i + 1)) s (length at) pos cs
    each_value [] b = absurd (box_some s.shape (length at) shaped b)
    each_value (c ∷ cs) b = ⊎_elim
        (λ (same : c ≡ i). subst (λ (x : ℕ). value_at g (at ++ x ∷ cs) ≡ values_of (until place (i + 1)) s (length at) pos (x ∷ cs)) (sym same) (at_here cs (box_rest s.shape (length at) c cs shaped b)))
        (λ ne. at_other c cs ne b)
        (cases_eq c i)

    pub filled_next : Holds s at (values_of (until place (i + 1)) s (length at) pos) g
    filled_next = record { shape_is = d.shape_is; fill_is = d.fill_is; values_are = each_value }

-- ---- below the last level
module _ (s : Storage) (at : List ℕ) (pos : ℕ) (full : length at ≡ length s.parts) where
  wide : length s.shape ≡ length at
  wide = omega (arith, stored_lengths 1 s.format.levels s.shape s.parts s.val s.valid)

  pub whole_inside : LeadsTo s at pos → (ns : List ℕ) → ns ≡ s.shape → IsTrue (is_in_box ns at)
  whole_inside leads ns e =
      let t : take (length at) s.shape ≡ s.shape = take_all (length at) s.shape (omega (arith, wide)) in
      subst (λ (xs : List ℕ). IsTrue (is_in_box xs at)) (t ∙ sym e) leads.inside

  module _ (f g : TensorFunction) (v : ℤ) (is : v ≡ slice_index_or s.val pos s.format.fill) (e : g ≡ with_value f at v) where
    at_end : (cs : List ℕ) → IsTrue (is_in_box (drop (length at) s.shape) cs) → value_at g (at ++ cs) ≡ values_below s (length at) pos cs
    at_end cs b =
        let nil : cs ≡ [] = box_none (drop (length at) s.shape) cs (drop_length (length at) s.shape (omega (arith, wide))) b in
        ap (λ (xs : List ℕ). value_at g (at ++ xs)) nil ∙ ap (value_at g) (append-nil at) ∙ ap (λ (t : TensorFunction). value_at t at) e ∙ (gives_one_place f at v).0 ∙ is
        ∙ sym (value_end (drop (length at) s.shape) (drop (length at) s.parts) s.val s.format.fill pos cs (drop_length (length at) s.parts (omega (arith, full))))

    pub filled_end : Holds s at (blank s) f → Holds s at (values_below s (length at) pos) g
    filled_end h = record {
      shape_is = ap (λ (t : TensorFunction). t.shape) e ∙ h.shape_is;
      fill_is = ap (λ (t : TensorFunction). t.fill) e ∙ h.fill_is;
      values_are = at_end;
    }

    pub elsewhere_end : AgreeElsewhere at f g
    elsewhere_end ds out = ap (λ (t : TensorFunction). value_at t ds) e ∙ (gives_one_place f at v).1 ds (λ same. out [] (same ∙ sym (append-nil at)))

-- ---- the whole storage
pub blank_start : (s : Storage) (f : TensorFunction) (at ns : List ℕ) (z : ℤ) → ns ≡ s.shape → z ≡ s.format.fill → f ≡ filled ns z → Holds s at (blank s) f
blank_start s f at ns z en ez ef = let e : f ≡ filled ns s.format.fill = ef ∙ ap (filled ns) ez in record {
  shape_is = ap (λ (t : TensorFunction). t.shape) e ∙ en;
  fill_is = ap (λ (t : TensorFunction). t.fill) e;
  values_are = λ cs b. ap (λ (t : TensorFunction). value_at t (at ++ cs)) e ∙ ap (λ (o : Option ℤ). unwrap_or o s.format.fill) (get-empty (slice_cmp nat_cmp) (at ++ cs));
}

below_same : (o : Option ℕ) (F : ℕ → ℤ) (fill : ℤ) → ((q : ℕ) → F q ≡ fill) → below o F fill ≡ fill
below_same None F fill h = refl
below_same (Some q) F fill h = h q

-- without values everything is the fill
no_values : (ns : List ℕ) (ps : List Part) (fill : ℤ) (pos : ℕ) (cs : List ℕ) → value_from ns ps [] fill pos cs ≡ fill
no_values ns [] fill pos cs = refl
no_values [] (p ∷ ps) fill pos cs = refl
no_values (n ∷ ns) (p ∷ ps) fill pos [] = refl
no_values (n ∷ ns) (p ∷ ps) fill pos (c ∷ cs) = below_same (child_in n p pos c) (λ q. value_from ns ps [] fill q cs) fill (λ q. no_values ns ps fill q cs)

no_items : (vs : List ℤ) → length vs ≤ 0 → vs ≡ []
no_items [] h = refl
no_items (v ∷ vs) h = absurd (omega arith)

pub empty_whole : (s : Storage) (f : TensorFunction) → length s.val ≤ 0 → Holds s [] (blank s) f → Holds s [] (values_below s 0 0) f
empty_whole s f none h = holds_as s [] (blank s) (values_below s 0 0) f h (λ cs b. sym (ap (λ (vs : List ℤ). value_from s.shape s.parts vs s.format.fill 0 cs) (no_items s.val none) ∙ no_values s.shape s.parts s.format.fill 0 cs))

pub whole_is : (s : Storage) (f : TensorFunction) → IsTensor f → Holds s [] (values_below s 0 0) f → f ≡ stands s
whole_is s f t h =
    let word : (cs : List ℕ) → IsTrue (is_in_box s.shape cs) → value_from s.shape s.parts s.val s.format.fill 0 cs ≢ s.format.fill → FitsSigned w64 (value_from s.shape s.parts s.val s.format.fill 0 cs) =
    λ cs b ne. subst (λ (z : ℤ). FitsSigned w64 z) (h.values_are cs b) (value_is_word f cs t (λ e. ne (sym (h.values_are cs b) ∙ e ∙ h.fill_is))) in
    agreeing_inside_are_equal f (stands s) t
    (tabulated_is_tensor s.shape s.format.fill (value_from s.shape s.parts s.val s.format.fill 0) word)
    (h.shape_is ∙ sym (tabulated_shape s.shape s.format.fill (value_from s.shape s.parts s.val s.format.fill 0)))
    (h.fill_is ∙ sym (tabulated_fill s.shape s.format.fill (value_from s.shape s.parts s.val s.format.fill 0)))
    (λ cs b. let w : IsTrue (is_in_box s.shape cs) = subst (λ (ns : List ℕ). IsTrue (is_in_box ns cs)) h.shape_is b in h.values_are cs w ∙ sym (stands_at s cs w))

-- ---- the builder of it
pub stands_shape : (s : Storage) → (stands s).shape ≡ s.shape
stands_shape s = tabulated_shape s.shape s.format.fill (value_from s.shape s.parts s.val s.format.fill 0)

pub stands_fill : (s : Storage) → (stands s).fill ≡ s.format.fill
stands_fill s = tabulated_fill s.shape s.format.fill (value_from s.shape s.parts s.val s.format.fill 0)

pub shape_of : (s : Storage) → IsShape s.format.levels s.shape
shape_of s = record { long = stored_levels 1 s.format.levels s.shape s.parts s.val s.valid; small = stored_extents 1 s.format.levels s.shape s.parts s.val s.valid }
