-- What stands for a header where a run begins: for an input its storage, for any other nothing.
use Rattle.std.proofs.Common.{◌≡◌, ◌<◌, ◌+◌, ℕ, zero, suc, Bool, true, false, List, [], ◌∷◌, map, length, drop, add-one, Option, Some, None, if◌then◌else◌, refl, sym, ap, ◌∙◌, subst, ℤ}
use Rattle.std.specs.Prelude.{slice_get, slice_index_or, unwrap_or, is_none}
use Rattle.fin_tensor.specs.declared.storage.Storage.{Storage}
use Rattle.fin_tensor.specs.TensorFunction.{TensorFunction}
use Rattle.fin_tensor.specs.Building.{Building}
use Rattle.fin_tensor.specs.Canon.{undecorated}
use Rattle.fin_tensor.specs.Stands.{stands}
use Rattle.fin_ast.specs.declared.header.Header.{Header}
use Rattle.fin_ast.specs.declared.checked.Checked.{Checked}
use Rattle.fin_ast.specs.Kinds.{is_input}
use Rattle.fin_ast.specs.Accepted.{inputs_among, HaveFormats, FitProgram}
use Rattle.fin_ast.specs.Dense.{made_at, inputs_by_header, setting_of}
use Rattle.fin_ast.specs.Shaped.{AreShaped, FitHeaders}
use Rattle.fin_ir.specs.Frozen.{frozen_of}
use Rattle.fin_ir.specs.Machine.{Machine, Tensor, nothing, building, stored, held}
use Rattle.fin_ir.specs.Start.{given_if, given, first_tensors}
use Rattle.fin_stage.specs.Stages.{Stage, Built, stage_at}
use Rattle.fin_stage.specs.Staged.{Run, is_made}
use Rattle.fin_nest.specs.Related.{Stand, Live}
use Rattle.fin_perform.specs.Layouts.{kind_number, begun_with, start_with}
use Rattle.fin_perform.proofs.Headed.{header_there, input_number}

-- an input's storage has the header's format and shape
pub record IsInput (x : Header) (shape : List ℕ) (o : Option TensorFunction) (there : Tensor) : Type 0 where
  pub storage : Storage
  pub function : o ≡ Some (stands storage)
  pub tensor : there ≡ stored (frozen_of storage)
  pub format : storage.format ≡ undecorated x.format
  pub shape_is : storage.shape ≡ shape

abbrev pub IsBegun : Bool → Header → List ℕ → Option TensorFunction → Tensor → Type 0
IsBegun true x shape o there = IsInput x shape o there
IsBegun false x shape o there = (o ≡ None) × (there ≡ nothing)

abbrev pub kinds_of : List Header → List ℕ
kinds_of hs = map (λ (x : Header). kind_number x.kind) hs

dropped : (inputs : List Storage) (k : ℕ) (s : Storage) (rest : List Storage) → drop k inputs ≡ s ∷ rest → (slice_get inputs k ≡ Some s) × (drop (k + 1) inputs ≡ rest)
dropped [] zero s rest e = cc
dropped [] (suc k) s rest e = cc
dropped (x ∷ inputs) zero s rest e = (cc, cc)
dropped (x ∷ inputs) (suc k) s rest e =
    let q = dropped inputs k s rest e in
    (q.0, ap (λ (n : ℕ). drop n (x ∷ inputs)) (add-one (suc k)) ∙ ap (λ (n : ℕ). drop n inputs) (sym (add-one k)) ∙ q.1)

-- for the first of some headers, and the others
abbrev Begins : List Header → List (List ℕ) → List Storage → ℕ → List Storage → Type 0
Begins hs shapes inputs k rest = (t : ℕ) (x : Header) → slice_get hs t ≡ Some x → IsBegun (is_input x.kind) x (slice_index_or shapes t []) (made_at (inputs_by_header hs rest) t) (held (first_tensors inputs k (kinds_of hs)) t)

moved : (x : Header) (shape : List ℕ) (b c : Bool) (o p : Option TensorFunction) (there here : Tensor) → b ≡ c → o ≡ p → there ≡ here → IsBegun c x shape p here → IsBegun b x shape o there
moved x shape b c o p there here e f g i =
    subst (λ (d : Bool). IsBegun d x shape o there) (sym e)
    (subst (λ (q : Option TensorFunction). IsBegun c x shape q there) (sym f) (subst (λ (u : Tensor). IsBegun c x shape p u) (sym g) i))

some_is : (x y : Header) → ◌≡◌ {A = Option Header} (Some x) (Some y) → x ≡ y
some_is x y e = ap (λ (o : Option Header). unwrap_or o x) e

module _ (y : Header) (n : List ℕ) (hs : List Header) (shapes : List (List ℕ)) (inputs : List Storage) where
  -- the first header decides
  abbrev tensors_of : ℕ → Bool → List Tensor
  tensors_of k b = if b then given inputs k ∷ first_tensors inputs (k + 1) (kinds_of hs) else nothing ∷ first_tensors inputs k (kinds_of hs)

  tensors_are : (k : ℕ) (b : Bool) → is_input y.kind ≡ b → (t : ℕ) → held (first_tensors inputs k (kinds_of (y ∷ hs))) t ≡ held (tensors_of k b) t
  tensors_are k b e t = ap (λ (c : Bool). held (tensors_of k c) t) (input_number y.kind ∙ e)

  abbrev functions_of : Storage → List Storage → Bool → List (Option TensorFunction)
  functions_of s rest b = if b then Some (stands s) ∷ inputs_by_header hs rest else None ∷ inputs_by_header hs (s ∷ rest)

  functions_are : (s : Storage) (rest : List Storage) (b : Bool) → is_input y.kind ≡ b → (t : ℕ) → made_at (inputs_by_header (y ∷ hs) (s ∷ rest)) t ≡ made_at (functions_of s rest b) t
  functions_are s rest b e t = ap (λ (c : Bool). made_at (functions_of s rest c) t) e

  by_kind : (k : ℕ) (rest : List Storage) → ((j : ℕ) (more : List Storage) → drop j inputs ≡ more → HaveFormats (inputs_among hs shapes) more → Begins hs shapes inputs j more)
      → (b : Bool) → is_input y.kind ≡ b →
      drop k inputs ≡ rest → HaveFormats (if b then (y, n) ∷ inputs_among hs shapes else inputs_among hs shapes) rest → Begins (y ∷ hs) (n ∷ shapes) inputs k rest
  by_kind k [] others true b d f t x e = absurd f
  by_kind k (s ∷ rest) others true b d f zero x e =
      let q = dropped inputs k s rest d in
      let same = some_is y x e in
      let here : IsInput y n (Some (stands s)) (given inputs k) = record { storage = s; function = refl; tensor = ap given_if q.0; format = f.0; shape_is = f.1 } in
      moved x n (is_input x.kind) true _ (Some (stands s)) _ (given inputs k) (ap (λ (z : Header). is_input z.kind) (sym same) ∙ b) (functions_are s rest true b 0) (tensors_are k true b 0)
      (subst (λ (z : Header). IsInput z n (Some (stands s)) (given inputs k)) same here)
  by_kind k (s ∷ rest) others true b d f (suc t) x e =
      let q = dropped inputs k s rest d in
      moved x (slice_index_or shapes t []) (is_input x.kind) (is_input x.kind) _ _ _ _ refl (functions_are s rest true b (suc t)) (tensors_are k true b (suc t)) (others (k + 1) rest q.1 f.2 t x e)
  by_kind k [] others false b d f zero x e = moved x n (is_input x.kind) false _ None _ nothing (ap (λ (z : Header). is_input z.kind) (sym (some_is y x e)) ∙ b) refl (tensors_are k false b 0) (refl, refl)
  by_kind k [] others false b d f (suc t) x e = moved x (slice_index_or shapes t []) (is_input x.kind) (is_input x.kind) _ _ _ _ refl refl (tensors_are k false b (suc t)) (others k [] d f t x e)
  by_kind k (s ∷ rest) others false b d f zero x e = moved x n (is_input x.kind) false _ None _ nothing (ap (λ (z : Header). is_input z.kind) (sym (some_is y x e)) ∙ b) (functions_are s rest false b 0) (tensors_are k false b 0) (refl, refl)
  by_kind k (s ∷ rest) others false b d f (suc t) x e =
      moved x (slice_index_or shapes t []) (is_input x.kind) (is_input x.kind) _ _ _ _ refl (functions_are s rest false b (suc t)) (tensors_are k false b (suc t)) (others k (s ∷ rest) d f t x e)

begun_from : (hs : List Header) (shapes : List (List ℕ)) → AreShaped hs shapes → (inputs : List Storage) (k : ℕ) (rest : List Storage) → drop k inputs ≡ rest
    → HaveFormats (inputs_among hs shapes) rest → Begins hs shapes inputs k rest
begun_from [] shapes a inputs k rest d f = λ t x e. cc
begun_from (y ∷ hs) [] a inputs k rest d f = absurd a
begun_from (y ∷ hs) (n ∷ shapes) a inputs k rest d f = by_kind y n hs shapes inputs k rest (begun_from hs shapes a.1 inputs) (is_input y.kind) refl d f

-- past the headers nothing is given
given_past : (hs : List Header) (inputs : List Storage) (t : ℕ) → slice_get hs t ≡ None → made_at (inputs_by_header hs inputs) t ≡ None
given_past [] inputs t e = refl
given_past (y ∷ hs) inputs zero e = cc
given_past (y ∷ hs) [] (suc t) e = given_past hs [] t e
given_past (y ∷ hs) (s ∷ inputs) (suc t) e =
    elim (is_input y.kind) as (λ b. made_at (if b then Some (stands s) ∷ inputs_by_header hs inputs else None ∷ inputs_by_header hs (s ∷ inputs)) (suc t) ≡ None) [
      | true ↦ given_past hs inputs t e
      | false ↦ given_past hs (s ∷ inputs) t e
    ]

module _ (c : Checked) (room : ℕ) (inputs : List Storage) (fits : FitHeaders c.program.headers c.dims) (given_fit : FitProgram c inputs) where
  -- where a run begins
  begun_holds : (t : ℕ) (x : Header) → slice_get c.program.headers t ≡ Some x
      → IsBegun (is_input x.kind) x (slice_index_or c.dims.shapes t []) (made_at (setting_of c inputs).given t) (held (begun_with c room inputs).tensors t)
  begun_holds = begun_from c.program.headers c.dims.shapes fits.shapes inputs 0 inputs refl given_fit

  -- a tensor that is given is an input
  pub given_is_input : (t : ℕ) (g : TensorFunction) → made_at (setting_of c inputs).given t ≡ Some g →
      (x : Header) × (slice_get c.program.headers t ≡ Some x) × (is_input x.kind ≡ true) × IsInput x (slice_index_or c.dims.shapes t []) (made_at (setting_of c inputs).given t) (held (begun_with c room inputs).tensors t)
  given_is_input t g e = by_header (slice_get c.program.headers t) refl where
    by_begun : (x : Header) (b : Bool) → IsBegun b x (slice_index_or c.dims.shapes t []) (made_at (setting_of c inputs).given t) (held (begun_with c room inputs).tensors t) →
        (b ≡ true) × IsInput x (slice_index_or c.dims.shapes t []) (made_at (setting_of c inputs).given t) (held (begun_with c room inputs).tensors t)
    by_begun x true i = (refl, i)
    by_begun x false i = let n = i.0 in cc

    by_header : (o : Option Header) → slice_get c.program.headers t ≡ o →
        (x : Header) × (slice_get c.program.headers t ≡ Some x) × (is_input x.kind ≡ true) × IsInput x (slice_index_or c.dims.shapes t []) (made_at (setting_of c inputs).given t) (held (begun_with c room inputs).tensors t)
    by_header None n = let p = given_past c.program.headers inputs t n in cc
    by_header (Some x) n = let q = by_begun x (is_input x.kind) (begun_holds t x n) in (x, n, q.0, q.1)

  -- a tensor with a header that isn't given is an output or a local one
  pub made_is_other : (t : ℕ) → t < length c.program.headers → is_made (setting_of c inputs) t ≡ true → (x : Header) × (slice_get c.program.headers t ≡ Some x) × (is_input x.kind ≡ false)
  made_is_other t lt e =
      let q = header_there c.program.headers t lt in
      (q.0, q.1, by_begun q.0 (is_input q.0.kind) (begun_holds t q.0 q.1)) where
        by_begun : (x : Header) (b : Bool) → IsBegun b x (slice_index_or c.dims.shapes t []) (made_at (setting_of c inputs).given t) (held (begun_with c room inputs).tensors t) → b ≡ false
        by_begun x true i = let n = ap is_none i.function in cc
        by_begun x false i = refl

-- a tensor that is being built isn't given
pub built_is_made : (c : Checked) (room : ℕ) (inputs : List Storage) (pins : List ℤ) (r : Run) (m : Machine) → Live (start_with c room inputs) pins r m
    → FitHeaders c.program.headers c.dims → FitProgram c inputs → (t : ℕ) (b : Building) → stage_at r.stages t ≡ Built b → is_made (setting_of c inputs) t ≡ true
built_is_made c room inputs pins r m live fits given_fit t b e = by_given (made_at (setting_of c inputs).given t) refl where
  by_given : (o : Option _) → made_at (setting_of c inputs).given t ≡ o → is_made (setting_of c inputs) t ≡ true
  by_given None n = ap is_none n
  by_given (Some g) n =
      let q = given_is_input c room inputs fits given_fit t g n in
      let there : held m.tensors t ≡ stored _ = live.given t (ap is_none n) ∙ q.3.tensor in
      let own : held m.tensors t ≡ building b = subst (λ (s : Stage). Stand s (held m.tensors t)) e (live.each t) in
      cc
