-- The setting of each job is one of words.
use Rattle.std.proofs.Common.{◌≡◌, ◌≤◌, ◌^◌, ℕ, zero, suc, ℤ, pos, true, false, List, [], ◌∷◌, refl, sym, subst, arith}
use Rattle.std.specs.Prelude.{All, Option, Some, None, IfSome, if◌then◌else◌, option_map, unwrap_or, slice_get, slice_index_or}
use Rattle.std.specs.List.{list_all}
use Rattle.std.proofs.lemmas.List.Elements.{All-head, All-tail}
use Rattle.fin_base.specs.Words.{IsWord}
use Rattle.fin_tensor.specs.declared.part.Part.{Part}
use Rattle.fin_tensor.specs.declared.storage.Storage.{Storage}
use Rattle.fin_tensor.specs.Levels.{below, child_in, value_from}
use Rattle.fin_tensor.specs.Stands.{stands}
use Rattle.fin_tensor.proofs.Tabulated.{tabulated_fill, tabulated_is_tensor}
use Rattle.fin_ast.specs.declared.header.Header.{Header}
use Rattle.fin_ast.specs.Dense.{inputs_by_header, made_at, setting_of}
use Rattle.fin_ast.specs.Kinds.{is_input}
use Rattle.fin_ast.specs.Literals.{is_word}
use Rattle.fin_ast.proofs.Wording.{word_by}
use Rattle.fin_stage.specs.Wordy.{IsWordTensor, IsWordy}
use Rattle.fin_engine.specs.declared.job.Job.{Job}
use Rattle.fin_engine.specs.Worded.{has_words, are_worded}
use Rattle.fin_engine.proofs.Worded.{left, right}

-- ---- what a storage stands for

-- one of these values, or the fill
value_worded : (val : List ℤ) (fill : ℤ) (at : ℕ) → list_all is_word val ≡ true → IsWord fill → IsWord (slice_index_or val at fill)
value_worded [] fill at all word = word
value_worded (v ∷ val) fill zero all word = word_by v (left (is_word v) (list_all is_word val) all)
value_worded (v ∷ val) fill (suc at) all word = value_worded val fill at (right (is_word v) (list_all is_word val) all) word

below_worded : (child : Option ℕ) (f : ℕ → ℤ) (fill : ℤ) → ((at : ℕ) → IsWord (f at)) → IsWord fill → IsWord (below child f fill)
below_worded None f fill each word = word
below_worded (Some at) f fill each word = each at

stored_worded : (shape : List ℕ) (parts : List Part) (val : List ℤ) (fill : ℤ) (at : ℕ) (cs : List ℕ) → list_all is_word val ≡ true → IsWord fill → IsWord (value_from shape parts val fill at cs)
stored_worded shape [] val fill at cs all word = value_worded val fill at all word
stored_worded [] (p ∷ parts) val fill at cs all word = word
stored_worded (n ∷ shape) (p ∷ parts) val fill at [] all word = word
stored_worded (n ∷ shape) (p ∷ parts) val fill at (c ∷ cs) all word =
    below_worded (child_in n p at c) (λ below. value_from shape parts val fill below cs) fill (λ below. stored_worded shape parts val fill below cs all word) word

storage_wordy : (s : Storage) → has_words s ≡ true → IsWordTensor (stands s)
storage_wordy s words =
    let fill : IsWord s.format.fill = word_by s.format.fill (left (is_word s.format.fill) (list_all is_word s.val) words) in
    let values = right (is_word s.format.fill) (list_all is_word s.val) words in
    let value = value_from s.shape s.parts s.val s.format.fill 0 in
    record {
      tensor = tabulated_is_tensor s.shape s.format.fill value (λ cs within other. stored_worded s.shape s.parts s.val s.format.fill 0 cs values fill);
      fill = subst IsWord (sym (tabulated_fill s.shape s.format.fill value)) fill;
    }

-- ---- the inputs, by header

given_wordy : (headers : List Header) (inputs : List Storage) (tensor : ℕ) → are_worded inputs ≡ true → IfSome (made_at (inputs_by_header headers inputs) tensor) IsWordTensor
given_wordy [] inputs tensor all = tt
given_wordy (h ∷ hs) [] zero all = tt
given_wordy (h ∷ hs) [] (suc tensor) all = given_wordy hs [] tensor all
given_wordy (h ∷ hs) (s ∷ inputs) zero all =
    elim (is_input h.kind) as (λ b. IfSome (made_at (if b then Some (stands s) ∷ inputs_by_header hs inputs else None ∷ inputs_by_header hs (s ∷ inputs)) 0) IsWordTensor) [
      | true ↦ storage_wordy s (left (has_words s) (are_worded inputs) all)
      | false ↦ tt
    ]
given_wordy (h ∷ hs) (s ∷ inputs) (suc tensor) all =
    elim (is_input h.kind) as (λ b. IfSome (made_at (if b then Some (stands s) ∷ inputs_by_header hs inputs else None ∷ inputs_by_header hs (s ∷ inputs)) (suc tensor)) IsWordTensor) [
      | true ↦ given_wordy hs inputs tensor (right (has_words s) (are_worded inputs) all)
      | false ↦ given_wordy hs (s ∷ inputs) tensor all
    ]

-- ---- fills and ranges

fill_worded : (found : Option Header) → IsWord (unwrap_or (option_map (λ (h : Header). h.format.fill) found) (pos 0))
fill_worded None = word_by (pos 0) refl
fill_worded (Some h) = word_by h.format.fill h.worded

range_small : (ranges : List (ℕ × ℕ)) (var : ℕ) → All (λ (r : ℕ × ℕ). r.1 ≤ 2 ^ 40) ranges → (slice_index_or ranges var (0, 0)).1 ≤ 2 ^ 40
range_small [] var all = omega arith
range_small (r ∷ ranges) zero all = All-head (λ (x : ℕ × ℕ). x.1 ≤ 2 ^ 40) r ranges all
range_small (r ∷ ranges) (suc var) all = range_small ranges var (All-tail (λ (x : ℕ × ℕ). x.1 ≤ 2 ^ 40) r ranges all)

pub jobs_are_wordy : (job : Job) → IsWordy (setting_of job.checked job.inputs)
jobs_are_wordy job = record {
  given = λ tensor. given_wordy job.checked.program.headers job.inputs tensor job.worded;
  fills = λ tensor. fill_worded (slice_get job.checked.program.headers tensor);
  ranges = λ var. range_small job.checked.dims.ranges var job.checked.fits.ranges;
}
