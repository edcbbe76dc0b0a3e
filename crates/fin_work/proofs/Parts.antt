-- What can be read in a run stands with its parts.
use Rattle.std.proofs.Common.{◌≡◌, ℕ, zero, suc, Bool, true, false, List, [], ◌∷◌, length, Option, Some, None, if◌then◌else◌, refl, sym, ap, ◌∙◌, subst, arith, ℤ, IsTrue}
use Rattle.std.specs.Prelude.{slice_get, slice_index_or, unwrap_or, option_map}
use Rattle.std.specs.Option.{option_or}
use Rattle.fin_tensor.specs.declared.format.Format.{Format}
use Rattle.fin_tensor.specs.declared.format.Level.{Level}
use Rattle.fin_tensor.specs.declared.part.Part.{Part}
use Rattle.fin_tensor.specs.declared.storage.Storage.{Storage}
use Rattle.fin_tensor.specs.TensorFunction.{TensorFunction, value_at, is_in_box}
use Rattle.fin_tensor.specs.Levels.{IsStored, positions, value_from}
use Rattle.fin_tensor.specs.Canon.{Slice, kept, next, canon_parts, canon_values}
use Rattle.fin_tensor.specs.Building.{no_format}
use Rattle.fin_tensor.specs.Stands.{stands}
use Rattle.fin_tensor.proofs.Tabulated.{tabulated_shape, tabulated_fill, stands_at}
use Rattle.fin_canon.proofs.Placed.{IsPlacedOver, placed_over, placed_rest, no_shape}
use Rattle.fin_canon.proofs.Standing.{slices_stand}
use Rattle.fin_ast.specs.declared.header.Header.{Header}
use Rattle.fin_ast.specs.declared.checked.Checked.{Checked}
use Rattle.fin_ast.specs.Kinds.{is_input}
use Rattle.fin_ast.specs.Accepted.{inputs_among, HaveFormats, FitProgram}
use Rattle.fin_ast.specs.Shaped.{AreShaped}
use Rattle.fin_ast.specs.Dense.{Setting, made_at, inputs_by_header, setting_of, shape_at}
use Rattle.fin_stage.specs.Stages.{Stage, Absent, Built, Frozen, stage_at, frozen_in}
use Rattle.fin_stage.specs.Staged.{Run, format_at}
use Rattle.fin_stage.specs.Fitting.{StageFits, StagesFit}
use Rattle.fin_stage.proofs.Fits.{same_fill}
use Rattle.fin_simp.specs.Work.{World, parts_by_header, frozen_parts, parts_or, parts_at, world_of}
use Rattle.fin_work.specs.Gaps.{ArePartsOf, Stands, ReadableHaveParts}

-- ---- a storage stands with its parts
stored_long : (count : ℕ) (ls : List Level) (ns : List ℕ) (ps : List Part) (val : List ℤ) → IsStored count ls ns ps val → length ns ≡ length ps
stored_long count [] [] [] val h = refl
stored_long count (l ∷ ls) (n ∷ ns) (p ∷ ps) val h = ap suc (stored_long (positions n count p) ls ns ps val h.3)
stored_long count [] (n ∷ ns) ps val h = absurd h
stored_long count [] [] (p ∷ ps) val h = absurd h
stored_long count (l ∷ ls) [] ps val h = absurd h
stored_long count (l ∷ ls) (n ∷ ns) [] val h = absurd h

module _ (s : Storage) where
  shape_of : (stands s).shape ≡ s.shape
  shape_of = tabulated_shape s.shape s.format.fill (value_from s.shape s.parts s.val s.format.fill 0)

  fill_is : (stands s).fill ≡ s.format.fill
  fill_is = tabulated_fill s.shape s.format.fill (value_from s.shape s.parts s.val s.format.fill 0)

  storage_stands : ArePartsOf s.parts (stands s)
  storage_stands = record {
    val = s.val;
    long = ap (λ (ns : List ℕ). length ns) shape_of ∙ stored_long 1 s.format.levels s.shape s.parts s.val s.valid;
    values = λ cs within.
        ap (λ (ns : List ℕ). value_from ns s.parts s.val (stands s).fill 0 cs) shape_of
        ∙ ap (λ (z : ℤ). value_from s.shape s.parts s.val z 0 cs) fill_is
        ∙ sym (stands_at s cs (subst (λ (ns : List ℕ). IsTrue (is_in_box ns cs)) shape_of within));
  }

-- ---- a frozen tensor stands with its canonical parts
canon_long : (ls : List Level) (fill : ℤ) (ns : List ℕ) (fs : List Slice) → IsPlacedOver ls ns → length ns ≡ length (canon_parts ls fill ns fs)
canon_long [] fill [] fs h = refl
canon_long [] fill (n ∷ ns) fs h = absurd h
canon_long (l ∷ ls) fill [] fs h = absurd (no_shape l ls h)
canon_long (l ∷ ls) fill (n ∷ ns) fs h = ap suc (canon_long ls fill ns (next (kept l fill n ns) fs) (placed_rest l ls n ns h).0)

frozen_stands : (levels : List Level) (f : TensorFunction) → IsPlacedOver levels f.shape → ArePartsOf (canon_parts levels f.fill f.shape (value_at f ∷ [])) f
frozen_stands levels f placed = record {
  val = canon_values levels f.fill f.shape (value_at f ∷ []);
  long = canon_long levels f.fill f.shape (value_at f ∷ []) placed;
  values = λ cs within. slices_stand levels f.fill f.shape (value_at f ∷ []) placed 0 cs (omega arith) within;
}

-- ---- each header's levels have their extents
abbrev format_in : List Header → ℕ → Format
format_in hs t = unwrap_or (option_map (λ (h : Header). h.format) (slice_get hs t)) no_format

placed_at : (hs : List Header) (shapes : List (List ℕ)) → AreShaped hs shapes → (t : ℕ) → IsPlacedOver (format_in hs t).levels (slice_index_or shapes t [])
placed_at [] [] a t = tt
placed_at [] (n ∷ shapes) a t = absurd a
placed_at (h ∷ hs) [] a t = absurd a
placed_at (h ∷ hs) (shape ∷ shapes) a zero = placed_over h.format.levels shape a.0.placed.runs a.0.shape_is.long
placed_at (h ∷ hs) (shape ∷ shapes) a (suc t) = placed_at hs shapes a.1 t

-- ---- what is given for a header
pub record Given (hs : List Header) (shapes : List (List ℕ)) (inputs : List Storage) (t : ℕ) (f : TensorFunction) : Type 0 where
  pub storage : Storage
  pub function : f ≡ stands storage
  pub parts : slice_index_or (parts_by_header hs inputs) t None ≡ Some storage.parts
  pub shape : storage.shape ≡ slice_index_or shapes t []
  pub fill : storage.format.fill ≡ (format_in hs t).fill

abbrev parts_by : Storage → List Header → List Storage → Bool → List (Option (List Part))
parts_by s hs inputs b = if b then Some s.parts ∷ parts_by_header hs inputs else None ∷ parts_by_header hs (s ∷ inputs)

abbrev Ungiven : List Header → List Storage → ℕ → Type 0
Ungiven hs inputs t = slice_index_or (parts_by_header hs inputs) t None ≡ None

none_given : (hs : List Header) (inputs : List Storage) (t : ℕ) → made_at (inputs_by_header hs inputs) t ≡ None → Ungiven hs inputs t
none_given [] inputs t e = refl
none_given (h ∷ hs) [] zero e = refl
none_given (h ∷ hs) [] (suc t) e = none_given hs [] t e
none_given (h ∷ hs) (s ∷ inputs) t e = by (λ ins k q. none_given hs ins k q) (is_input h.kind) t e where
  by : ((ins : List Storage) (k : ℕ) → made_at (inputs_by_header hs ins) k ≡ None → Ungiven hs ins k) → (b : Bool) (t : ℕ)
      → made_at (if b then Some (stands s) ∷ inputs_by_header hs inputs else None ∷ inputs_by_header hs (s ∷ inputs)) t ≡ None → slice_index_or (parts_by s hs inputs b) t None ≡ None
  by rest true zero e = cc
  by rest true (suc t) e = rest inputs t e
  by rest false zero e = refl
  by rest false (suc t) e = rest (s ∷ inputs) t e

abbrev AllGiven : List Header → List (List ℕ) → Type 0
AllGiven hs shapes = (inputs : List Storage) → HaveFormats (inputs_among hs shapes) inputs → (t : ℕ) (f : TensorFunction) → made_at (inputs_by_header hs inputs) t ≡ Some f → Given hs shapes inputs t f

module _ (x : Header) (n : List ℕ) (hs : List Header) (shapes : List (List ℕ)) (rest : AllGiven hs shapes) (f : TensorFunction) where
  abbrev Fit : Bool → List Storage → Type 0
  Fit b inputs = HaveFormats (if b then (x, n) ∷ inputs_among hs shapes else inputs_among hs shapes) inputs

  none_left : (b : Bool) (t : ℕ) → Fit b [] → made_at (inputs_by_header (x ∷ hs) []) t ≡ Some f → Given (x ∷ hs) (n ∷ shapes) [] t f
  none_left true t h e = absurd h
  none_left false zero h e = cc
  none_left false (suc t) h e =
      let g = rest [] h t f e in
      record { storage = g.storage; function = g.function; parts = g.parts; shape = g.shape; fill = g.fill }

  first_given : (s : Storage) (inputs : List Storage) (b : Bool) → is_input x.kind ≡ b → Fit b (s ∷ inputs) → (t : ℕ)
      → made_at (if b then Some (stands s) ∷ inputs_by_header hs inputs else None ∷ inputs_by_header hs (s ∷ inputs)) t ≡ Some f → Given (x ∷ hs) (n ∷ shapes) (s ∷ inputs) t f
  first_given s inputs true k h zero e = record {
    storage = s;
    function = sym (ap (λ (o : Option TensorFunction). unwrap_or o (stands s)) e);
    parts = ap (λ (b : Bool). slice_index_or (parts_by s hs inputs b) 0 None) k;
    shape = h.1;
    fill = ap (λ (fm : Format). fm.fill) h.0;
  }
  first_given s inputs true k h (suc t) e =
      let g = rest inputs h.2 t f e in
      record { storage = g.storage; function = g.function; parts = ap (λ (b : Bool). slice_index_or (parts_by s hs inputs b) (suc t) None) k ∙ g.parts; shape = g.shape; fill = g.fill }
  first_given s inputs false k h zero e = cc
  first_given s inputs false k h (suc t) e =
      let g = rest (s ∷ inputs) h t f e in
      record { storage = g.storage; function = g.function; parts = ap (λ (b : Bool). slice_index_or (parts_by s hs inputs b) (suc t) None) k ∙ g.parts; shape = g.shape; fill = g.fill }

given_at : (hs : List Header) (shapes : List (List ℕ)) → AreShaped hs shapes → AllGiven hs shapes
given_at [] shapes a inputs h zero f e = cc
given_at [] shapes a inputs h (suc t) f e = cc
given_at (x ∷ hs) [] a inputs h t f e = absurd a
given_at (x ∷ hs) (n ∷ shapes) a [] h t f e = none_left x n hs shapes (given_at hs shapes a.1) f (is_input x.kind) t h e
given_at (x ∷ hs) (n ∷ shapes) a (s ∷ inputs) h t f e = first_given x n hs shapes (given_at hs shapes a.1) f s inputs (is_input x.kind) refl h t e

-- ---- whole runs
module _ (c : Checked) (inputs : List Storage) (r : Run) (fit : FitProgram c inputs) (fits : StagesFit (setting_of c inputs) r.stages) (t : ℕ) (f : TensorFunction) where
  abbrev w : Setting
  w = setting_of c inputs

  abbrev wd : World
  wd = world_of c inputs

  abbrev Both : List Part → Type 0
  Both ps = Stands wd t f × ArePartsOf ps f

  by_input : Given c.program.headers c.dims.shapes inputs t f → Both (parts_at wd r t)
  by_input g =
      let stands_fill : f.fill ≡ g.storage.format.fill = ap (λ (x : TensorFunction). x.fill) g.function ∙ fill_is g.storage in
      let stands_shape : f.shape ≡ g.storage.shape = ap (λ (x : TensorFunction). x.shape) g.function ∙ shape_of g.storage in
      let held : ArePartsOf g.storage.parts f = subst (ArePartsOf g.storage.parts) (sym g.function) (storage_stands g.storage) in (
        record { shape = stands_shape ∙ g.shape; fill = stands_fill ∙ g.fill ∙ same_fill w (slice_get c.program.headers t) },
        subst (λ (ps : List Part). ArePartsOf ps f) (sym (ap (λ (o : Option (List Part)). parts_or o (frozen_parts (stage_at r.stages t))) g.parts)) held,
      )

  by_stage : (x : Stage) → StageFits w t x → frozen_in x ≡ Some f → Both (frozen_parts x)
  by_stage Absent s e = cc
  by_stage (Built b) s e = cc
  by_stage (Frozen format g) s e =
      let same : g ≡ f = cc in
      let levels : format.levels ≡ (format_at w t).levels = ap (λ (fm : Format). fm.levels) s.0 in
      let placed : IsPlacedOver format.levels g.shape =
      subst (IsPlacedOver format.levels) (sym s.1.shape) (subst (λ (ls : List Level). IsPlacedOver ls (shape_at w t)) (sym levels) (placed_at c.program.headers c.dims.shapes c.fits.shapes t)) in
      (subst (λ (h : TensorFunction). Stands wd t h) same (record { shape = s.1.shape; fill = s.1.fill }), subst (λ (h : TensorFunction). ArePartsOf (frozen_parts (Frozen format g)) h) same (frozen_stands format.levels g placed))

  by_given : (o : Option TensorFunction) → made_at w.given t ≡ o → option_or o (frozen_in (stage_at r.stages t)) ≡ Some f → Both (parts_at wd r t)
  by_given (Some g) k e =
      let same : g ≡ f = cc in
      by_input (given_at c.program.headers c.dims.shapes c.fits.shapes inputs fit t f (k ∙ ap (λ (x : TensorFunction). Some x) same))
  by_given None k e =
      subst Both (sym (ap (λ (o : Option (List Part)). parts_or o (frozen_parts (stage_at r.stages t))) (none_given c.program.headers inputs t k)))
      (by_stage (stage_at r.stages t) (fits t) e)

pub readable_have_parts : ReadableHaveParts
readable_have_parts c inputs r fit fits t f e = by_given c inputs r fit fits t f (made_at (setting_of c inputs).given t) refl e
