-- A job is an accepted program over inputs that fit it.
use Rattle.std.proofs.Common.{◌≡◌, ◌<◌, ◌+◌, ◌*◌, ◌∙◌, ℕ, zero, suc, Bool, true, false, List, [], ◌∷◌, ◌++◌, length, refl, sym, ap, ap₂, subst, arith, append_assoc, append-nil}
use Rattle.std.specs.Prelude.{Option, Some, None, is_none, option_map, not, ◌&&◌, ◌||◌, ◌/◌, ◌%◌, ℤ, slice_get, slice_index_or, unwrap_or, if◌then◌else◌, nat_eq, IfOk, Result, Ok, Err}
use Rattle.std.specs.List.{list_any, IsDistinct, AllByRecursion, cons_option}
use Rattle.std.specs.Map.{lookup}
use Rattle.std.specs.Option.{option_or}
use Rattle.std.specs.Ordering.{int_eq}
use Rattle.std.specs.Str.{bytes_eq}
use Rattle.std.specs.Cmp.Lexicographic.{pointwise, same_text, other_text}
use Rattle.std.proofs.lemmas.Bool.Decides.{Decides-int_eq}
use Rattle.std.proofs.lemmas.Map.Keys.{IsDistinct-head, IsDistinct-tail}
use Rattle.std.proofs.lemmas.Nat.{div-mul-add, mod-mul-add}
use Rattle.std.proofs.lemmas.Option.{slice_get_within}
use Rattle.fin_base.specs.declared.refusal.Fail.{Fail}
use Rattle.fin_tensor.proofs.Walk.{stored_levels}
use Rattle.fin_tensor.specs.Canon.{undecorated}
use Rattle.fin_tensor.specs.Placement.{IsBare}
use Rattle.fin_tensor.specs.declared.format.Format.{Format}
use Rattle.fin_tensor.specs.declared.format.Level.{Level}
use Rattle.fin_tensor.specs.declared.format.Level.TheVariants.{Dense, List as SortedList, Runs, Band, Dict}
use Rattle.fin_tensor.specs.declared.format.Wrap.{Wrap}
use Rattle.fin_tensor.specs.declared.format.Wrap.TheVariants.{Bare, Atomic, Mutex, Shard}
use Rattle.fin_tensor.specs.declared.storage.Storage.{Storage}
use Rattle.fin_text.specs.declared.read.Given.{Given}
use Rattle.fin_ast.specs.declared.header.Header.{Header}
use Rattle.fin_ast.specs.declared.program.Program.{Program}
use Rattle.fin_ast.specs.declared.checked.Dims.{Dims}
use Rattle.fin_ast.specs.Accepted.{IsAccepted, FitProgram, HaveFormats, inputs_among}
use Rattle.fin_ast.specs.Headers.{names_of}
use Rattle.fin_ast.specs.Infer.{IsInferred, given as given_shapes, shapes_in}
use Rattle.fin_ast.specs.Kinds.{is_input}
use Rattle.fin_ast.specs.Sizes.{first_of, number_of, shape_from, shape_of as found_shape, shapes_from}
use Rattle.fin_ast.specs.Ties.{Dimension, Extents, Shapes, known, number_in}
use Rattle.fin_ast.proofs.Unbroken.{first_none, second_none, unbroken}
use Rattle.fin_parcheck.specs.Safety.{IsSafe}
use Rattle.fin_engine.specs.declared.job.Job.{Job}
use Rattle.fin_engine.specs.Inputs.{Tensors, tensor_named, same_level, same_format, lacking, is_header_of, straying, unmatched, given_to, storage_of, shape_of, inputs_of, shapes_of}
use Rattle.fin_engine.specs.Verdict.{Checks, IsJob}
use Rattle.fin_engine.proofs.JobsFit.{small_shapes}

-- ---- an accepted program

pub job_accepted : (text : List ℕ) (job : Job) → IsJob text job → IsAccepted job.checked
job_accepted text job (program, given, reads, is) = record {
  shapes = shapes_of program.headers given;
  small = small_shapes program.headers given;
  life = is.kept.life;
  extents = is.kept.extents;
  order = is.kept.order;
}

-- ---- tests

left_holds : (a b : Bool) → (a && b) ≡ true → a ≡ true
left_holds true b e = refl
left_holds false b e = e

right_holds : (a b : Bool) → (a && b) ≡ true → b ≡ true
right_holds true b e = e
right_holds false b e = cc

is_held : (b : Bool) → not b ≡ false → b ≡ true
is_held true e = refl
is_held false e = cc

-- ---- formats

same_level_is : (a b : Level) → same_level a b ≡ true → a ≡ b
same_level_is Dense Dense e = refl
same_level_is SortedList SortedList e = refl
same_level_is Runs Runs e = refl
same_level_is Band Band e = refl
same_level_is Dict Dict e = refl
same_level_is a b e = cc

same_levels_are : (ks ls : List Level) → pointwise same_level ks ls ≡ true → ks ≡ ls
same_levels_are [] [] e = refl
same_levels_are [] (b ∷ ls) e = cc
same_levels_are (a ∷ ks) [] e = cc
same_levels_are (a ∷ ks) (b ∷ ls) e = ap₂ (λ x xs. x ∷ xs) (same_level_is a b (left_holds (same_level a b) (pointwise same_level ks ls) e)) (same_levels_are ks ls (right_holds (same_level a b) (pointwise same_level ks ls) e))

bare_is : (w : Wrap) → IsBare w → w ≡ Bare
bare_is Bare h = refl
bare_is Atomic h = absurd h
bare_is (Mutex before) h = absurd h
bare_is Shard h = absurd h

same_fill : (a b : ℤ) → int_eq a b ≡ true → a ≡ b
same_fill a b e = (Decides-int_eq a b).0 e

format_is : (f g : Format) → same_format f g ≡ true → IsBare g.wrap → g ≡ undecorated f
format_is f g e bare =
    let levels : f.levels ≡ g.levels = same_levels_are f.levels g.levels (left_holds (pointwise same_level f.levels g.levels) (int_eq f.fill g.fill) e) in
    let fill : f.fill ≡ g.fill = same_fill f.fill g.fill (right_holds (pointwise same_level f.levels g.levels) (int_eq f.fill g.fill) e) in
    let wrap : g.wrap ≡ Bare = bare_is g.wrap bare in
    λ i. record { levels = sym levels i; wrap = wrap i; fill = sym fill i }

-- ---- the tensor of an input

-- an entry of that name and value that breaks no rule
record Entry (headers : List Header) (name : List ℕ) (g : Given) : Type 0 where
  entry : List ℕ × Given
  named : name ≡ entry.0
  valued : entry.1 ≡ g
  kept : straying headers entry ≡ None

-- what a look-up finds is the value of an entry that breaks no rule, where none does
found_entry : (headers : List Header) (given : Tensors) (name : List ℕ) (g : Given) → first_of (straying headers) given ≡ None → lookup (bytes_eq name) given ≡ Some g
    → Entry headers name g
found_entry headers [] name g none is = cc
found_entry headers (e ∷ given) name g none is = elim (bytes_eq name e.0) as (λ b. bytes_eq name e.0 ≡ b → Entry headers name g) [
  | true ↦ λ here.
      let same : Some e.1 ≡ Some g = sym (ap (λ b. if b then Some e.1 else lookup (bytes_eq name) given) here) ∙ is in
      record { entry = e; named = same_text name e.0 (sym here); valued = cc; kept = first_none (straying headers e) (first_of (straying headers) given) none }
  | false ↦ λ here.
      let later : lookup (bytes_eq name) given ≡ Some g = sym (ap (λ b. if b then Some e.1 else lookup (bytes_eq name) given) here) ∙ is in
      found_entry headers given name g (second_none (straying headers e) (first_of (straying headers) given) none) later
] refl

-- no later header has the name
other_name : (name : List ℕ) (hs : List Header) (k : ℕ) (h : Header) → AllByRecursion (λ y. pointwise nat_eq name y ≡ false) (names_of hs) → slice_get hs k ≡ Some h → name ≡ h.name → ⊥
other_name name [] k h all at same = cc
other_name name (g ∷ hs) zero h all at same =
    let here : g ≡ h = cc in
    other_text name g.name (sym all.0) (same ∙ ap (λ x. x.name) (sym here))
other_name name (g ∷ hs) (suc k) h all at same = other_name name hs k h all.1 at same

-- a header with a tensor's name and format
record Among (e : List ℕ × Given) (hs : List Header) : Type 0 where
  place : ℕ
  header : Header
  at : slice_get hs place ≡ Some header
  named : header.name ≡ e.0
  alike : same_format header.format e.1.storage.format ≡ true

-- the header that a tensor has is among these
header_among : (e : List ℕ × Given) (hs : List Header) → list_any (is_header_of e) hs ≡ true → Among e hs
header_among e [] any = cc
header_among e (h ∷ hs) any = elim (is_header_of e h) as (λ b. is_header_of e h ≡ b → Among e (h ∷ hs)) [
  | true ↦ λ here.
      let alike : same_format h.format e.1.storage.format ≡ true = right_holds (is_input h.kind && bytes_eq h.name e.0) (same_format h.format e.1.storage.format) here in
      let both : (is_input h.kind && bytes_eq h.name e.0) ≡ true = left_holds (is_input h.kind && bytes_eq h.name e.0) (same_format h.format e.1.storage.format) here in
      record { place = 0; header = h; at = refl; named = same_text h.name e.0 (sym (right_holds (is_input h.kind) (bytes_eq h.name e.0) both)); alike = alike }
  | false ↦ λ here.
      let later = header_among e hs (sym (ap (λ b. b || list_any (is_header_of e) hs) here) ∙ any) in
      record { place = suc later.place; header = later.header; at = later.at; named = later.named; alike = later.alike }
] refl

-- a name has one header
one_header : (hs : List Header) (j k : ℕ) (g h : Header) → IsDistinct (pointwise nat_eq) (names_of hs) → slice_get hs j ≡ Some g → slice_get hs k ≡ Some h → g.name ≡ h.name → g ≡ h
one_header [] j k g h distinct a b same = cc
one_header (f ∷ hs) zero zero g h distinct a b same = cc
one_header (f ∷ hs) zero (suc k) g h distinct a b same = let here : f ≡ g = cc in absurd (other_name f.name hs k h (IsDistinct-head (pointwise nat_eq) f.name (names_of hs) distinct) b (ap (λ x. x.name) here ∙ same))
one_header (f ∷ hs) (suc j) zero g h distinct a b same = let here : f ≡ h = cc in absurd (other_name f.name hs j g (IsDistinct-head (pointwise nat_eq) f.name (names_of hs) distinct) a (ap (λ x. x.name) here ∙ sym same))
one_header (f ∷ hs) (suc j) (suc k) g h distinct a b same = one_header hs j k g h (IsDistinct-tail (pointwise nat_eq) f.name (names_of hs) distinct) a b same

no_lack : (hs : List Header) (given : Tensors) (k : ℕ) (h : Header) → first_of (lacking given) hs ≡ None → slice_get hs k ≡ Some h → lacking given h ≡ None
no_lack [] given k h none at = cc
no_lack (g ∷ hs) given zero h none at = let here : g ≡ h = cc in subst (λ x. lacking given x ≡ None) here (first_none (lacking given g) (first_of (lacking given) hs) none)
no_lack (g ∷ hs) given (suc k) h none at = no_lack hs given k h (second_none (lacking given g) (first_of (lacking given) hs) none) at

is_there : {A : Type 0} (o : Option A) → is_none o ≡ false → (x : A) × (o ≡ Some x)
is_there None e = cc
is_there (Some x) e = (x, refl)

-- the tensor that stands for an input's header
record Stands (given : Tensors) (h : Header) : Type 0 where
  tensor : Given
  found : given_to given h ≡ Some tensor
  format : tensor.storage.format ≡ undecorated h.format

input_stands : (headers : List Header) (given : Tensors) → IsDistinct (pointwise nat_eq) (names_of headers) → unmatched headers given ≡ None
    → (k : ℕ) (h : Header) → slice_get headers k ≡ Some h → is_input h.kind ≡ true → Stands given h
input_stands headers given distinct matched k h at input =
    let lacks = first_none (first_of (lacking given) headers) (first_of (straying headers) given) matched in
    let strays = second_none (first_of (lacking given) headers) (first_of (straying headers) given) matched in
    let no_breach = no_lack headers given k h lacks at in
    let there : is_none (tensor_named given h.name) ≡ false = sym (ap (λ b. b && is_none (tensor_named given h.name)) input) ∙ unbroken _ _ h.line no_breach in
    let named = is_there (tensor_named given h.name) there in
    let g = named.0 in
    let entry = found_entry headers given h.name g strays named.1 in
    let e = entry.entry in
    let among = header_among e headers (is_held _ (unbroken _ _ e.1.line entry.kept)) in
    let same : among.header ≡ h = one_header headers among.place k among.header h distinct among.at at (among.named ∙ sym entry.named) in
    let alike : same_format h.format g.storage.format ≡ true = subst (λ x. same_format h.format x.storage.format ≡ true) entry.valued (subst (λ x. same_format x.format e.1.storage.format ≡ true) same among.alike) in
    let s : Storage = g.storage in
    record {
      tensor = g;
      found = ap (λ b. if b then tensor_named given h.name else None) input ∙ named.1;
      format = format_is h.format s.format alike s.bare;
    }

-- ---- its shape

-- the shape that is known of a header
given_at : (hs : List Header) (shapes before : Shapes) → given_shapes hs shapes before ≡ before ++ given_shapes hs shapes []
given_at [] shapes before = sym (append-nil before)
given_at (h ∷ hs) [] before = sym (append-nil before)
given_at (h ∷ hs) (s ∷ shapes) before =
    let one = option_or s h.shape in
    given_at hs shapes (before ++ one ∷ []) ∙ append_assoc before (one ∷ []) (given_shapes hs shapes []) ∙ ap (λ ss. before ++ ss) (sym (given_at hs shapes (one ∷ [])))

known_shape : (given : Tensors) (hs : List Header) (k : ℕ) (h : Header) (g : Given) → slice_get hs k ≡ Some h → given_to given h ≡ Some g
    → slice_index_or (given_shapes hs (shapes_of hs given) []) k None ≡ Some (shape_of g)
known_shape given [] k h g at found = cc
known_shape given (f ∷ hs) zero h g at found =
    let here : f ≡ h = cc in
    let shape : option_map shape_of (given_to given f) ≡ Some (shape_of g) = ap (λ x. option_map shape_of (given_to given x)) here ∙ ap (option_map shape_of) found in
    let one = option_or (option_map shape_of (given_to given f)) f.shape in
    ap (λ ss. slice_index_or ss 0 None) (given_at hs (shapes_of hs given) (one ∷ [])) ∙ ap (λ o. option_or o f.shape) shape
known_shape given (f ∷ hs) (suc k) h g at found =
    let one = option_or (option_map shape_of (given_to given f)) f.shape in
    ap (λ ss. slice_index_or ss (suc k) None) (given_at hs (shapes_of hs given) (one ∷ [])) ∙ known_shape given hs k h g at found

-- a shape whose numbers are all found
shape_found : (extent : Extents) (d : ℕ) (ls : List Level) (ns before : List ℕ) → length ns ≡ length ls
    → ((k n : ℕ) → slice_get ns k ≡ Some n → extent (Dimension (d + k)) ≡ Some n) → shape_from extent d ls before ≡ before ++ ns
shape_found extent d [] [] before long each = sym (append-nil before)
shape_found extent d [] (n ∷ ns) before long each = absurd (omega arith)
shape_found extent d (l ∷ ls) [] before long each = absurd (omega arith)
shape_found extent d (l ∷ ls) (n ∷ ns) before long each =
    let first : extent (Dimension d) ≡ Some n = (let o : d + 0 ≡ d = omega arith in subst (λ x. extent (Dimension x) ≡ Some n) o (each 0 n refl)) in
    let number : number_of extent (Dimension d) ≡ n = ap (λ o. unwrap_or o 0) first in
    let later = λ (k m : ℕ) (at : slice_get ns k ≡ Some m). (let o : d + suc k ≡ d + 1 + k = omega arith in subst (λ x. extent (Dimension x) ≡ Some m) o (each (suc k) m at)) in
    shape_found extent (d + 1) ls ns (before ++ number_of extent (Dimension d) ∷ []) (omega arith) later
    ∙ ap (λ m. (before ++ m ∷ []) ++ ns) number ∙ append_assoc before (n ∷ []) ns

module _ (given : Tensors) (p : Program) (dims : Dims) (found : IsInferred p (shapes_of p.headers given) dims) where
  input_shape : (k : ℕ) (h : Header) (g : Given) → slice_get p.headers k ≡ Some h → given_to given h ≡ Some g → g.storage.format ≡ undecorated h.format
      → found_shape found.extent k h ≡ g.storage.shape
  input_shape k h g at is format =
      let s : Storage = g.storage in
      let long : length s.shape ≡ length h.format.levels = stored_levels 1 s.format.levels s.shape s.parts s.val s.valid ∙ ap (λ f. length f.levels) format in
      let few : length h.format.levels < 9 = omega (arith, h.placed.0.few) in
      let shape = known_shape given p.headers k h g at is in
      let each = λ (j n : ℕ) (number : slice_get s.shape j ≡ Some n). (
      let within : j < 8 = omega (arith, slice_get_within s.shape j n number) in
      let known_is : known (shapes_in p (shapes_of p.headers given)) (8 * k + j) ≡ Some n = (
      let turned : 8 * k + j ≡ k * 8 + j = omega arith in
      let row : (8 * k + j) / 8 ≡ k = ap (λ x. x / 8) turned ∙ div-mul-add k 8 j within in
      let column : (8 * k + j) % 8 ≡ j = ap (λ x. x % 8) turned ∙ mod-mul-add k 8 j within in
      ap₂ (λ r c. number_in (slice_index_or (shapes_in p (shapes_of p.headers given)) r None) c) row column ∙ ap (λ o. number_in o j) shape ∙ number) in
      (found.extents (Dimension (8 * k + j)) n).1 (8 * k + j, known_is, ([], refl))) in
      shape_found found.extent (8 * k) h.format.levels s.shape [] long each

  later_shapes : (tensor : ℕ) (hs : List Header) (before : List (List ℕ)) → shapes_from found.extent tensor hs before ≡ before ++ shapes_from found.extent tensor hs []
  later_shapes tensor [] before = sym (append-nil before)
  later_shapes tensor (h ∷ hs) before =
      let s : List ℕ = found_shape found.extent tensor h in
      later_shapes (tensor + 1) hs (before ++ s ∷ []) ∙ append_assoc before (s ∷ []) (shapes_from found.extent (tensor + 1) hs []) ∙ ap (λ (ss : List (List ℕ)). before ++ ss) (sym (later_shapes (tensor + 1) hs (s ∷ [])))

  abbrev Rest : ℕ → List Header → Type 0
  Rest tensor hs = (k : ℕ) (h : Header) → slice_get hs k ≡ Some h → slice_get p.headers (tensor + k) ≡ Some h

  have_formats : IsDistinct (pointwise nat_eq) (names_of p.headers) → unmatched p.headers given ≡ None → (tensor : ℕ) (hs : List Header) → Rest tensor hs
      → HaveFormats (inputs_among hs (shapes_from found.extent tensor hs [])) (inputs_of hs given)
  have_formats distinct matched tensor [] rest = tt
  have_formats distinct matched tensor (h ∷ hs) rest =
      let at : slice_get p.headers tensor ≡ Some h = (let o : tensor + 0 ≡ tensor = omega arith in subst (λ x. slice_get p.headers x ≡ Some h) o (rest 0 h refl)) in
      let later = λ (k : ℕ) (g : Header) (is : slice_get hs k ≡ Some g). (let o : tensor + suc k ≡ tensor + 1 + k = omega arith in subst (λ x. slice_get p.headers x ≡ Some g) o (rest (suc k) g is)) in
      let more = have_formats distinct matched (tensor + 1) hs later in
      let shape = found_shape found.extent tensor h in
      let shapes : shapes_from found.extent tensor (h ∷ hs) [] ≡ shape ∷ shapes_from found.extent (tensor + 1) hs [] = later_shapes (tensor + 1) hs (shape ∷ []) in
      let rest_shapes = shapes_from found.extent (tensor + 1) hs [] in
      let rest_inputs = inputs_of hs given in
      subst (λ ss. HaveFormats (inputs_among (h ∷ hs) ss) (inputs_of (h ∷ hs) given)) (sym shapes) (elim (is_input h.kind) as (λ b. is_input h.kind ≡ b → HaveFormats (inputs_among (h ∷ hs) (shape ∷ rest_shapes)) (inputs_of (h ∷ hs) given)) [
        | true ↦ λ input.
            let stands = input_stands p.headers given distinct matched tensor h at input in
            let g : Given = stands.tensor in
            let among : inputs_among (h ∷ hs) (shape ∷ rest_shapes) ≡ (h, shape) ∷ inputs_among hs rest_shapes = ap (λ b. if b then (h, shape) ∷ inputs_among hs rest_shapes else inputs_among hs rest_shapes) input in
            let inputs : inputs_of (h ∷ hs) given ≡ g.storage ∷ rest_inputs = ap (λ o. cons_option (option_map storage_of o) rest_inputs) stands.found in
            subst (λ x. HaveFormats x (inputs_of (h ∷ hs) given)) (sym among) (subst (HaveFormats ((h, shape) ∷ inputs_among hs rest_shapes)) (sym inputs)
            (stands.format, sym (input_shape tensor h g at stands.found stands.format), more))
        | false ↦ λ other.
            let among : inputs_among (h ∷ hs) (shape ∷ rest_shapes) ≡ inputs_among hs rest_shapes = ap (λ b. if b then (h, shape) ∷ inputs_among hs rest_shapes else inputs_among hs rest_shapes) other in
            let none : given_to given h ≡ None = ap (λ b. if b then tensor_named given h.name else None) other in
            let inputs : inputs_of (h ∷ hs) given ≡ rest_inputs = ap (λ o. cons_option (option_map storage_of o) rest_inputs) none in
            subst (λ x. HaveFormats x (inputs_of (h ∷ hs) given)) (sym among) (subst (HaveFormats (inputs_among hs rest_shapes)) (sym inputs) more)
      ] refl)

  fit : IsDistinct (pointwise nat_eq) (names_of p.headers) → unmatched p.headers given ≡ None → HaveFormats (inputs_among p.headers dims.shapes) (inputs_of p.headers given)
  fit distinct matched =
      let whole = have_formats distinct matched 0 p.headers (λ k h at. (let o : k ≡ 0 + k = omega arith in subst (λ x. slice_get p.headers x ≡ Some h) o at)) in
      subst (λ ss. HaveFormats (inputs_among p.headers ss) (inputs_of p.headers given)) (sym (ap (λ (d : Dims). d.shapes) found.numbers)) whole

-- ---- inputs that fit it

pub job_inputs_fit : (text : List ℕ) (job : Job) → IsJob text job → FitProgram job.checked job.inputs
job_inputs_fit text job (program, given, reads, is) =
    let p : Program = job.checked.program in
    let same : p.headers ≡ program.headers = is.completed.headers in
    let found : IsInferred p (shapes_of p.headers given) job.checked.dims = subst (λ hs. IsInferred p (shapes_of hs given) job.checked.dims) (sym same) is.kept.extents in
    let matched : unmatched p.headers given ≡ None = subst (λ hs. unmatched hs given ≡ None) (sym same) is.matched in
    let inputs : job.inputs ≡ inputs_of p.headers given = is.inputs ∙ ap (λ hs. inputs_of hs given) (sym same) in
    subst (λ ss. HaveFormats (inputs_among p.headers job.checked.dims.shapes) ss) (sym inputs) (fit given p job.checked.dims found p.distinct matched)

pub accepted_result : (text : List ℕ) (result : Result Job Fail) → Checks text result → IfOk result (λ job. IsAccepted job.checked)
accepted_result text (Ok job) is = job_accepted text job is
accepted_result text (Err fail) is = tt

pub inputs_result : (text : List ℕ) (result : Result Job Fail) → Checks text result → IfOk result (λ job. FitProgram job.checked job.inputs)
inputs_result text (Ok job) is = job_inputs_fit text job is
inputs_result text (Err fail) is = tt

pub safe_result : (text : List ℕ) (result : Result Job Fail) → Checks text result → IfOk result (λ job. IsSafe job.checked)
safe_result text (Ok job) (program, given, reads, is) = record { parallel = is.kept.parallel; ways = is.ways }
safe_result text (Err fail) is = tt
