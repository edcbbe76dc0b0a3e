-- A text tells tensors in words, and so are the inputs that a program has of them.
use Rattle.std.proofs.Common.{◌≡◌, ◌+◌, ℕ, ℤ, Bool, true, false, ◌&&◌, List, [], ◌∷◌, ◌++◌, refl}
use Rattle.std.specs.Prelude.{All, Option, Some, None, IfSome, Ok, if◌then◌else◌, option_map}
use Rattle.std.specs.List.{list_all, cons_option}
use Rattle.std.specs.Map.{lookup}
use Rattle.std.specs.Str.{bytes_eq}
use Rattle.std.proofs.lemmas.List.Elements.{All-head, All-tail}
use Rattle.fin_base.specs.Words.{IsWord}
use Rattle.fin_tensor.specs.declared.storage.Storage.{Storage}
use Rattle.fin_text.specs.declared.read.Given.{Given}
use Rattle.fin_text.specs.Laws.{AreTensors, HasWords}
use Rattle.fin_text.specs.Reading.{ReadsTensors}
use Rattle.fin_text.proofs.Sequences.{reads_sequences}
use Rattle.fin_ast.specs.declared.header.Header.{Header}
use Rattle.fin_ast.specs.Kinds.{is_input}
use Rattle.fin_ast.specs.Literals.{is_word}
use Rattle.fin_ast.proofs.Wording.{by_word}
use Rattle.fin_engine.specs.Inputs.{Tensors, given_to, storage_of, inputs_of, tensor_named}
use Rattle.fin_engine.specs.Worded.{has_words, are_worded, are_told_in_words}

pub both : (a b : Bool) → a ≡ true → b ≡ true → (a && b) ≡ true
both true b h k = k
both false b h k = h

pub left : (a b : Bool) → (a && b) ≡ true → a ≡ true
left true b h = refl
left false b h = h

pub right : (a b : Bool) → (a && b) ≡ true → b ≡ true
right true b h = h
right false b h = absurd (cc)

-- ---- the tensors of a text

values_worded : (vs : List ℤ) → All IsWord vs → list_all is_word vs ≡ true
values_worded [] all = refl
values_worded (v ∷ vs) all = both (is_word v) (list_all is_word vs) (by_word v (All-head IsWord v vs all)) (values_worded vs (All-tail IsWord v vs all))

storage_worded : (s : Storage) → HasWords s → has_words s ≡ true
storage_worded s words = both (is_word s.format.fill) (list_all is_word s.val) (by_word s.format.fill words.0) (values_worded s.val words.1)

tensors_worded : (names : List (List ℕ)) (text : List ℕ) (n : ℕ) (given : Tensors) → AreTensors names text n given → are_told_in_words given ≡ true
tensors_worded names text n given (AreTensors.last ms line k plain skip) = refl
tensors_worded names text n given (AreTensors.passed ms line more k gs plain skip rest) = tensors_worded ms more (k + 1) gs rest
tensors_worded names text n given (AreTensors.tensor ms name s more k gs is new words rest) =
    both (has_words s) (are_told_in_words gs) (storage_worded s words) (tensors_worded (ms ++ name ∷ []) more _ gs rest)

pub told_in_words : (text : List ℕ) (first : ℕ) (given : Tensors) → ReadsTensors text first (Ok given) → are_told_in_words given ≡ true
told_in_words text first given read = tensors_worded [] text first given (reads_sequences text first given read)

-- ---- the inputs of a program

abbrev IsWorded : Option Given → Type 0
IsWorded o = IfSome o (λ (g : Given). has_words g.storage ≡ true)

named_worded : (given : Tensors) (name : List ℕ) → are_told_in_words given ≡ true → IsWorded (tensor_named given name)
named_worded [] name all = tt
named_worded (e ∷ given) name all =
    let first = left (has_words e.1.storage) (are_told_in_words given) all in
    let others = named_worded given name (right (has_words e.1.storage) (are_told_in_words given) all) in
    elim (bytes_eq name e.0) as (λ b. IsWorded (if b then Some e.1 else lookup (bytes_eq name) given)) [ true ↦ first | false ↦ others ]

given_worded : (given : Tensors) (h : Header) → are_told_in_words given ≡ true → IsWorded (given_to given h)
given_worded given h all = elim (is_input h.kind) as (λ b. IsWorded (if b then tensor_named given h.name else None)) [ true ↦ named_worded given h.name all | false ↦ tt ]

with_first : (o : Option Given) (inputs : List Storage) → IsWorded o → are_worded inputs ≡ true → are_worded (cons_option (option_map storage_of o) inputs) ≡ true
with_first None inputs one all = all
with_first (Some g) inputs one all = both (has_words g.storage) (are_worded inputs) one all

pub inputs_worded : (headers : List Header) (given : Tensors) → are_told_in_words given ≡ true → are_worded (inputs_of headers given) ≡ true
inputs_worded [] given all = refl
inputs_worded (h ∷ hs) given all = with_first (given_to given h) (inputs_of hs given) (given_worded given h all) (inputs_worded hs given all)
