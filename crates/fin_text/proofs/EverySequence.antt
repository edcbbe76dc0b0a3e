-- A sequence of texts of tensors is read.
use Rattle.std.proofs.Common.{◌≡◌, ◌≢◌, ◌∙◌, ℕ, ◌+◌, List, [], ◌∷◌, ◌++◌, refl, sym, ap, subst, append_assoc}
use Rattle.std.specs.Prelude.{All, Contains, Ok, Err}
use Rattle.std.specs.Map.{keys_of}
use Rattle.std.proofs.lemmas.List.{append-nil}
use Rattle.fin_base.specs.declared.refusal.Fail.TheVariants.{Refused, Memory}
use Rattle.fin_tensor.specs.declared.storage.Storage.{Storage}
use Rattle.fin_text.specs.Laws.{AreTensors, HasWords, ReadsEverySequence}
use Rattle.fin_text.specs.Names.{IsName}
use Rattle.fin_text.specs.Reading.{BreaksNext, ComesTo, IsBetween, IsFresh, IsSkipped, names_of}
use Rattle.fin_text.specs.Tensors.{tensor_text}
use Rattle.fin_text.specs.declared.read.Reader.{Reader}
use Rattle.fin_text.proofs.Cuts.{cut_at_one_place, cut_nowhere}
use Rattle.fin_text.proofs.OneText.{Answer, Given_list, Onward, read_whole, refused_whole}
use Rattle.fin_text.proofs.ReadBack.{Behind, tensor_goes}
use Rattle.fin_text.proofs.Sequences.{keys_more}

-- the last line
last_read : (r : Reader) (left : List ℕ) (n : ℕ) (v : Answer) → IsBetween r.due → All (λ b. b ≢ 10) left → IsSkipped left → Onward r left n v → v ≡ Ok r.given.entries
last_read r left n v between plain skip (Onward.ended none h is) = is
last_read r left n v between plain skip (Onward.broken rule (BreaksNext.unended none not) is) = absurd (not (between, skip))
last_read r left n v between plain skip (Onward.broken rule (BreaksNext.ended b m f q also not breaks) is) = absurd (cut_nowhere 10 left b m plain q)
last_read r left n v between plain skip (Onward.step x b m q also comes o) = absurd (cut_nowhere 10 left b m plain q)

-- a line that is passed over leaves what was read
still : (r x : Reader) (n : ℕ) (line : List ℕ) (more : List ℕ) (m : ℕ) (v : Answer) → IsBetween r.due → IsSkipped line → ComesTo r n line x → Onward x more m v → Onward r more m v
still r x n line more m v between skip (ComesTo.skipped h) o = o
still r x n line more m v between skip (ComesTo.taken y not h) o = absurd (not (between, skip))

passed_on : (r : Reader) (line text left : List ℕ) (n : ℕ) (v : Answer) → left ≡ line ++ 10 ∷ text → IsBetween r.due → All (λ b. b ≢ 10) line → IsSkipped line → Onward r left n v → Onward r text (n + 1) v
passed_on r line text left n v e between plain skip (Onward.ended none h is) = absurd (cut_nowhere 10 left line text none e)
passed_on r line text left n v e between plain skip (Onward.broken rule (BreaksNext.unended none not) is) = absurd (cut_nowhere 10 left line text none e)
passed_on r line text left n v e between plain skip (Onward.broken rule (BreaksNext.ended b m f q also not breaks) is) =
    let cut = cut_at_one_place 10 line text b m plain also (sym e ∙ q) in
    absurd (not (between, subst IsSkipped cut.0 skip))
passed_on r line text left n v e between plain skip (Onward.step x b m q also comes o) =
    let cut = cut_at_one_place 10 line text b m plain also (sym e ∙ q) in
    subst (λ t. Onward r t (n + 1) v) (sym cut.1) (still r x n b m (n + 1) v between (subst IsSkipped cut.0 skip) comes o)

-- a tensor
behind : (name : List ℕ) (s : Storage) (r : Reader) (n : ℕ) (text : List ℕ) (v : Answer) → IsName name → HasWords s → IsBetween r.due → (Contains (names_of r) name → ⊥)
    → Onward r (tensor_text name s ++ text) n v → Behind name s r.given.entries n text v
unfolding tensor_text
behind name s r n text v is fits between new o = tensor_goes name s r n text v is fits between new o

every : (names : List (List ℕ)) (text : List ℕ) (n : ℕ) (given : Given_list) (r : Reader) (v : Answer) → AreTensors names text n given → names_of r ≡ names → IsBetween r.due
    → Onward r text n v → v ≡ Ok (r.given.entries ++ given)
every names text n given r v (AreTensors.last ms line k plain skip) same between o = last_read r line k v between plain skip o ∙ ap (λ gs. Ok gs) (sym (append-nil r.given.entries))
every names text n given r v (AreTensors.passed ms line more k gs plain skip rest) same between o =
    every ms more (k + 1) gs r v rest same between (passed_on r line more (line ++ 10 ∷ more) k v refl between plain skip o)
every names text n given r v (AreTensors.tensor ms name s more k gs is new fits rest) same between o =
    let b = behind name s r k more v is fits between (λ h. new (subst (λ ns. Contains ns name) same h)) o in
    let keys : names_of b.reader ≡ ms ++ name ∷ [] = ap keys_of b.given_is ∙ keys_more r.given.entries name s k ∙ ap (λ ns. ns ++ name ∷ []) same in
    every (ms ++ name ∷ []) more _ gs b.reader v rest keys b.between (subst (λ m. Onward b.reader more m v) b.line_is b.on)
    ∙ ap (λ es. Ok (es ++ gs)) b.given_is ∙ ap (λ es. Ok es) (append_assoc r.given.entries ((name, record { storage = s; line = k }) ∷ []) gs)

from_start : (text : List ℕ) (first : ℕ) (given : Given_list) (v : Answer) → AreTensors [] text first given → ((q : Reader) × IsFresh q × Onward q text first v) → v ≡ Ok given
from_start text first given v are (q, fresh, o) =
    every [] text first given q v are (ap keys_of fresh.0) fresh.1 o ∙ ap (λ es. Ok (es ++ given)) fresh.0

pub reads_every_sequence : ReadsEverySequence
reads_every_sequence text first given (Ok other) are h =
    let same : Ok other ≡ Ok given = from_start text first given (Ok other) are (read_whole text first other h) in cc
reads_every_sequence text first given (Err (Refused refusal)) are h =
    let same : Err refusal ≡ Ok given = from_start text first given (Err refusal) are (refused_whole text first refusal h) in cc
reads_every_sequence text first given (Err (Memory e)) are h = tt
