-- Where a run begins: the inputs fit the layout, and the machine does what the run by stages does.
use Rattle.std.proofs.Common.{◌≡◌, ◌<◌, ◌≤◌, ℕ, zero, suc, Bool, true, false, List, [], ◌∷◌, map, if◌then◌else◌, refl, sym, ap, ◌∙◌, subst, ⊎_elim, pos, arith}
use Rattle.std.specs.Prelude.{slice_index_or, replicate}
use Rattle.std.proofs.lemmas.Bool.{cases_lt}
use Rattle.std.proofs.lemmas.List.{length-map, length-replicate, get_or_past, get_or-replicate}
use Rattle.fin_tensor.specs.declared.format.Format.{Format}
use Rattle.fin_tensor.specs.declared.format.Wrap.{Wrap}
use Rattle.fin_tensor.specs.declared.format.Wrap.TheVariants.{Bare, Atomic, Mutex, Shard}
use Rattle.fin_tensor.specs.declared.storage.Storage.{Storage}
use Rattle.fin_tensor.specs.Placement.{IsBare}
use Rattle.fin_tensor.specs.Canon.{undecorated}
use Rattle.fin_ast.specs.declared.header.Header.{Header}
use Rattle.fin_ast.specs.declared.checked.Checked.{Checked}
use Rattle.fin_ast.specs.Kinds.{is_input}
use Rattle.fin_ast.specs.Accepted.{inputs_among, HaveFormats, FitProgram}
use Rattle.fin_ast.specs.Dense.{setting_of, unbound}
use Rattle.fin_ast.specs.Shaped.{AreShaped, FitHeaders}
use Rattle.fin_ir.specs.Machine.{held}
use Rattle.fin_ir.specs.Regular.{InputsFit, input_boxes}
use Rattle.fin_ir.proofs.Fitting.{started_fits}
use Rattle.fin_stage.specs.Stages.{Stage, Absent}
use Rattle.fin_stage.specs.Staged.{before_all}
use Rattle.fin_stage.proofs.Fits.{absent_at, nothing_fits}
use Rattle.fin_perform.specs.Layouts.{kind_number, layout_with, begun_with, start_with}
use Rattle.fin_perform.specs.Begun.{BegunMachinesStand}
use Rattle.fin_perform.proofs.Headed.{input_number, shapes_long}
use Rattle.fin_perform.proofs.Given.{kinds_of}
use Rattle.fin_nest.specs.Related.{Stand, Live}

-- ---- locals

zeros_at : (count k : ℕ) → slice_index_or (replicate count (pos 0)) k (pos 0) ≡ pos 0
zeros_at count k =
    ⊎_elim
    (λ (l : k < count). get_or-replicate count k (pos 0) (pos 0) l)
    (λ (l : count ≤ k). get_or_past (replicate count (pos 0)) k (pos 0) (omega (arith, l, length-replicate count (pos 0))))
    (cases_lt k count)

unbound_at : (ranges : List (ℕ × ℕ)) (k : ℕ) → slice_index_or (map (λ (r : ℕ × ℕ). pos 0) ranges) k (pos 0) ≡ pos 0
unbound_at [] k = refl
unbound_at (r ∷ ranges) zero = refl
unbound_at (r ∷ ranges) (suc k) = unbound_at ranges k

-- ---- inputs

is_bare : (wrap : Wrap) → IsBare wrap → wrap ≡ Bare
is_bare Bare b = refl
is_bare Atomic b = absurd b
is_bare (Mutex before) b = absurd b
is_bare Shard b = absurd b

-- an input's format has no decoration
bare_format : (x : Header) → is_input x.kind ≡ true → undecorated x.format ≡ x.format
bare_format x e = ap (λ (wrap : Wrap). record x.format { wrap = wrap }) (sym (is_bare x.format.wrap (x.placed.1 e)))

abbrev boxes_of : List Storage → List (Format × List ℕ)
boxes_of inputs = map (λ s. (s.format, s.shape)) inputs

module _ (x : Header) (n : List ℕ) (hs : List Header) (shapes : List (List ℕ)) where
  abbrev formats : List Format
  formats = map (λ (y : Header). y.format) hs

  by_kind : ((inputs : List Storage) → HaveFormats (inputs_among hs shapes) inputs → boxes_of inputs ≡ input_boxes (kinds_of hs) formats shapes) → (b : Bool) → is_input x.kind ≡ b →
      (inputs : List Storage) → HaveFormats (if b then (x, n) ∷ inputs_among hs shapes else inputs_among hs shapes) inputs →
      boxes_of inputs ≡ (if b then (x.format, n) ∷ input_boxes (kinds_of hs) formats shapes else input_boxes (kinds_of hs) formats shapes)
  by_kind others true e [] f = absurd f
  by_kind others true e (s ∷ inputs) f =
      ap (λ (y : Format). (y, s.shape) ∷ boxes_of inputs) (f.0 ∙ bare_format x e) ∙ ap (λ (k : List ℕ). (x.format, k) ∷ boxes_of inputs) f.1
      ∙ ap (λ (bs : List (Format × List ℕ)). (x.format, n) ∷ bs) (others inputs f.2)
  by_kind others false e inputs f = others inputs f

boxes_are : (hs : List Header) (shapes : List (List ℕ)) → AreShaped hs shapes → (inputs : List Storage) → HaveFormats (inputs_among hs shapes) inputs
    → boxes_of inputs ≡ input_boxes (kinds_of hs) (map (λ (y : Header). y.format) hs) shapes
boxes_are [] [] a [] f = refl
boxes_are [] [] a (s ∷ inputs) f = absurd f
boxes_are [] (n ∷ shapes) a inputs f = absurd a
boxes_are (x ∷ hs) [] a inputs f = absurd a
boxes_are (x ∷ hs) (n ∷ shapes) a inputs f =
    by_kind x n hs shapes (boxes_are hs shapes a.1) (is_input x.kind) refl inputs f
    ∙ ap (λ (b : Bool). if b then (x.format, n) ∷ input_boxes (kinds_of hs) (map (λ (y : Header). y.format) hs) shapes else input_boxes (kinds_of hs) (map (λ (y : Header). y.format) hs) shapes) (sym (input_number x.kind))

module _ (c : Checked) (room : ℕ) (inputs : List Storage) (fits : FitHeaders c.program.headers c.dims) (given_fit : FitProgram c inputs) where
  pub inputs_fit : InputsFit (layout_with c room) inputs
  inputs_fit =
      let formats = length-map c.program.headers (λ (x : Header). x.format) in
      record {
        layout_is = record {
          shapes = shapes_long c.program.headers c.dims.shapes fits.shapes ∙ sym formats;
          kinds = length-map c.program.headers (λ (x : Header). kind_number x.kind) ∙ sym formats;
          few = omega (arith, formats, c.program.few);
        };
        boxes = boxes_are c.program.headers c.dims.shapes fits.shapes inputs given_fit;
      }

  pub begins : Live (start_with c room inputs) (unbound c.dims) (before_all c.program.headers) (begun_with c room inputs)
  begins = record {
    cut = refl;
    regular = refl;
    shared = refl;
    charges = refl;
    locals = length-replicate (layout_with c room).locals (pos 0);
    pinned = λ k lt. zeros_at (layout_with c room).locals k ∙ sym (unbound_at c.dims.ranges k);
    tensors = (started_fits (layout_with c room) inputs inputs_fit).tensors ∙ length-map c.program.headers (λ (x : Header). x.format);
    stages = length-map c.program.headers (λ (x : Header). Absent);
    each = λ t. subst (λ (x : Stage). Stand x (held (begun_with c room inputs).tensors t)) (sym (absent_at c.program.headers t)) tt;
    given = λ t e. refl;
    fits = nothing_fits (setting_of c inputs) c.program.headers;
  }

pub begun_machines_stand : BegunMachinesStand
begun_machines_stand c room inputs fits given_fit = record { fit = inputs_fit c room inputs fits given_fit; live = begins c room inputs fits given_fit }
