-- A read whose gap is seen gives the fill.
use Rattle.std.proofs.Common.{◌≡◌, ℕ, suc, ◌+◌, ℤ, pos, negsuc, Bool, true, false, List, [], ◌∷◌, map, Option, Some, None, refl, sym, ap, ◌∙◌, arith, subst, if◌then◌else◌}
use Rattle.std.specs.Prelude.{◌&&◌, nat_eq, nat_lt, nat_le, slice_set, slice_index_or}
use Rattle.fin_tensor.specs.declared.part.Part.{Part}
use Rattle.fin_tensor.specs.declared.storage.Storage.{Storage}
use Rattle.fin_tensor.specs.TensorFunction.{TensorFunction}
use Rattle.fin_ast.specs.declared.tree.Index.{Index}
use Rattle.fin_ast.specs.declared.checked.Checked.{Checked}
use Rattle.fin_ast.specs.Value.{Numbers, place, with_first, coordinates, value_in, read}
use Rattle.fin_ast.specs.Accepted.{FitProgram}
use Rattle.fin_ast.specs.Dense.{shape_at, setting_of}
use Rattle.fin_ast.proofs.InBox.{in_box}
use Rattle.fin_stage.specs.Staged.{Run, tensors_of}
use Rattle.fin_stage.specs.Fitting.{StagesFit}
use Rattle.fin_simp.specs.Rest.{Access}
use Rattle.fin_simp.specs.Sights.{Stand, Unsettled, behind_index, one_deeper, driven_index, stand_at, edged, unsettled, empty, sight_at}
use Rattle.fin_simp.specs.Gaps.{SameUpTo, value_from_at}
use Rattle.fin_simp.specs.Work.{World, world_of, parts_at, is_in}
use Rattle.fin_simp.proofs.Gaps.{same_driven, gaps_have_fill as stored_gaps}
use Rattle.fin_work.specs.Gaps.{ArePartsOf, Stands, GapsReadFill}
use Rattle.fin_work.proofs.Parts.{readable_have_parts}

both_none : (k : ℕ) (b : Bool) → (if b then with_first k None else None) ≡ None
both_none k true = refl
both_none k false = refl

none_first : (n : ℕ) (ns : List ℕ) (z : ℤ) (zs : List ℤ) → coordinates ns zs ≡ None → coordinates (n ∷ ns) (z ∷ zs) ≡ None
none_first n ns (negsuc k) zs e = refl
none_first n ns (pos k) zs e = ap (λ (o : Option (List ℕ)). if nat_lt k n then with_first k o else None) e ∙ both_none k (nat_lt k n)

-- where the position isn't known, a gap lies outside the extent
outside : (i : Index) (n : ℕ) (ns : List ℕ) (z : ℤ) (zs : List ℤ) → (sight_at i n Unsettled z).gap ≡ true → coordinates (n ∷ ns) (z ∷ zs) ≡ None
outside i n ns (negsuc k) zs g = refl
outside i n ns (pos k) zs g = by (nat_lt k n) g where
  by : (b : Bool) → (if b then edged (i.loose && nat_eq (k + 1) n) unsettled else empty).gap ≡ true → (if b then with_first k (coordinates ns zs) else None) ≡ None
  by true g = cc
  by false g = refl

module _ (vars later : Numbers) (var c : ℕ) (same : SameUpTo var (slice_set vars var (pos c)) later) where
  abbrev inner : Numbers
  inner = slice_set vars var (pos c)

  abbrev Outside : List ℕ → ℕ × Index → Type 0
  Outside ns d = (sight_at d.1 (slice_index_or ns d.0 0) Unsettled (place inner d.1)).gap ≡ true

  abbrev NoneAt : List ℕ → List Index → Type 0
  NoneAt ns is = (d : ℕ × Index) → driven_index var is ≡ Some d → Outside ns d → coordinates ns (map (place later) is) ≡ None

  module _ (n : ℕ) (ns : List ℕ) (i : Index) (is : List Index) (after : NoneAt ns is) (d : ℕ × Index) (g : Outside (n ∷ ns) d) where
    abbrev Goal : Type 0
    Goal = coordinates (n ∷ ns) (map (place later) (i ∷ is)) ≡ None

    by_later : (o : Option (ℕ × Index)) → driven_index var is ≡ o → one_deeper o ≡ Some d → Goal
    by_later None e h = cc
    by_later (Some d') e h =
        let deeper : d ≡ (d'.0 + 1, d'.1) = cc in
        let up : d'.0 + 1 ≡ suc d'.0 = omega arith in
        let g' : Outside (n ∷ ns) (d'.0 + 1, d'.1) = subst (λ (x : ℕ × Index). Outside (n ∷ ns) x) deeper g in
        none_first n ns (place later i) (map (place later) is) (after d' e (subst (λ (k : ℕ). Outside (n ∷ ns) (k, d'.1)) up g'))

    by_here : (b : Bool) → nat_eq (behind_index i) (var + 1) ≡ b → (if b then Some (0, i) else None) ≡ Some d → Goal
    by_here true t h =
        let here : d ≡ (0, i) = cc in
        let g' : Outside (n ∷ ns) (0, i) = subst (λ (x : ℕ × Index). Outside (n ∷ ns) x) here g in
        outside i n ns (place later i) (map (place later) is) (subst (λ (z : ℤ). (sight_at i n Unsettled z).gap ≡ true) (sym (same_driven var inner later same i t)) g')
    by_here false t h = cc

    by_test : (a : Bool) → (if a then one_deeper (driven_index var is) else (if nat_eq (behind_index i) (var + 1) then Some (0, i) else None)) ≡ Some d → Goal
    by_test true h = by_later (driven_index var is) refl h
    by_test false h = by_here (nat_eq (behind_index i) (var + 1)) refl h

  none_outside : (ns : List ℕ) (is : List Index) → NoneAt ns is
  none_outside ns [] d e g = let x : ◌≡◌ {A = Option (ℕ × Index)} None (Some d) = e in cc
  none_outside [] (i ∷ is) d e g = refl
  none_outside (n ∷ ns) (i ∷ is) d e g = by_test n ns i is (none_outside ns is) d g (nat_le (behind_index i) var) e

  -- ---- one access
  module _ (f : TensorFunction) (at : List Index) (d : ℕ × Index) (driven : driven_index var at ≡ Some d) where
    abbrev places : List ℤ
    places = map (place later) at

    read_outside : Outside f.shape d → read (Some f) places ≡ f.fill
    read_outside g = ap (value_in f) (none_outside f.shape at d driven g)

    read_gap : (ps : List Part) → ArePartsOf ps f → (sight_at d.1 (slice_index_or f.shape d.0 0) (stand_at vars f.shape ps at d.0 (Some 0)) (place inner d.1)).gap ≡ true → read (Some f) places ≡ f.fill
    read_gap ps h g = by (coordinates f.shape places) refl where
      filled : value_from_at f.shape ps h.val f.fill 0 (coordinates f.shape places) ≡ f.fill
      filled = stored_gaps (record { shape = f.shape; parts = ps; val = h.val; fill = f.fill; matching = h.long }) vars later var c at d same driven g

      by : (o : Option (List ℕ)) → coordinates f.shape places ≡ o → read (Some f) places ≡ f.fill
      by None k = ap (value_in f) k
      by (Some cs) k = ap (value_in f) k ∙ sym (h.values cs (in_box f.shape places cs k)) ∙ sym (ap (value_from_at f.shape ps h.val f.fill 0) k) ∙ filled

module _ (c : Checked) (inputs : List Storage) (r : Run) (fit : FitProgram c inputs) (fits : StagesFit (setting_of c inputs) r.stages) (vars later : Numbers) (var coord : ℕ) (changed : List ℕ) (a : Access) (d : ℕ × Index)
    (driven : driven_index var a.at ≡ Some d) (same : SameUpTo var (slice_set vars var (pos coord)) later) (f : TensorFunction) (stands : Stands (world_of c inputs) a.tensor f)
    (seen : is_in changed a.tensor ≡ false → tensors_of (setting_of c inputs) r a.tensor ≡ Some f) where
  abbrev w : World
  w = world_of c inputs

  abbrev Gap : List ℕ → Stand → Type 0
  Gap ns stand = (sight_at d.1 (slice_index_or ns d.0 0) stand (place (slice_set vars var (pos coord)) d.1)).gap ≡ true

  abbrev own : List ℕ → Stand
  own ns = stand_at vars ns (parts_at w r a.tensor) a.at d.0 (Some 0)

  by : (b : Bool) → is_in changed a.tensor ≡ b → Gap (shape_at w.setting a.tensor) (if b then Unsettled else own (shape_at w.setting a.tensor)) → read (Some f) (map (place later) a.at) ≡ f.fill
  by true k g = read_outside vars later var coord same f a.at d driven (subst (λ (ns : List ℕ). Gap ns Unsettled) (sym stands.shape) g)
  by false k g =
      read_gap vars later var coord same f a.at d driven (parts_at w r a.tensor) (readable_have_parts c inputs r fit fits a.tensor f (seen k)).1 (subst (λ (ns : List ℕ). Gap ns (own ns)) (sym stands.shape) g)

pub gaps_read_fill : GapsReadFill
gaps_read_fill c inputs r fit fits vars later var coord changed a d driven same f stands seen g = by c inputs r fit fits vars later var coord changed a d driven same f stands seen (is_in changed a.tensor) refl g
