-- Tensors that are forgotten at a chunk's beginning.
use Rattle.std.proofs.Common.{◌≡◌, ℕ, ◌+◌, ◌<◌, ◌≤◌, Bool, true, false, List, [], ◌∷◌, ◌++◌, take, drop, length, refl, sym, ap, ◌∙◌, arith, append_assoc, drop-cons, add-one, ℤ, pos, w64, to_z, of_z}
use Rattle.std.proofs.lemmas.Int.{to_z-of_z}
use Rattle.std.specs.Prelude.{◌^◌}
use Rattle.std.specs.Prelude.{if◌then◌else◌, slice_set, slice_index_or}
use Rattle.std.proofs.lemmas.List.{take_more_set, drop-set-lt}
use Rattle.fin_tensor.specs.declared.storage.Storage.{Storage}
use Rattle.fin_ir.specs.Machine.{Tensor, nothing}
use Rattle.fin_ir.specs.Meaning.{forget_from, opened, chunk_locals}
use Rattle.fin_run.specs.declared.state.Held.{Held}
use Rattle.fin_run.specs.declared.state.State.{State}
use Rattle.fin_run.specs.declared.state.Held.TheVariants.{Nothing}
use Rattle.fin_run.specs.States.{tensor_of, tensors_of, machine}
use Rattle.fin_run.specs.Chunks.{kept_held, forget_held}

kept_is : (inputs : List Storage) (b : Bool) (x : Held) → tensor_of inputs (if b then Nothing else x) ≡ (if b then nothing else tensor_of inputs x)
kept_is inputs true x = refl
kept_is inputs false x = refl

pub forget_is : (inputs : List Storage) (own : ℕ → Bool) (n : ℕ) (hs : List Held) → tensors_of inputs (forget_held own n hs) ≡ forget_from own n (tensors_of inputs hs)
forget_is inputs own n [] = refl
forget_is inputs own n (x ∷ xs) = ap (λ y. y ∷ tensors_of inputs (forget_held own (n + 1) xs)) (kept_is inputs (own n) x) ∙ ap (λ l. (if own n then nothing else tensor_of inputs x) ∷ l) (forget_is inputs own (n + 1) xs)

drop_set : (hs : List Held) (t : ℕ) (y : Held) → drop (t + 1) (slice_set hs t y) ≡ drop (t + 1) hs
drop_set hs t y = drop-set-lt (t + 1) hs t y (omega arith)

-- one more tensor is looked at
pub forget_goes : (own : ℕ → Bool) (t : ℕ) (hs new : List Held) → t < length hs → new ≡ slice_set hs t (kept_held own t (slice_index_or hs t Nothing)) → take (t + 1) new ++ forget_held own (t + 1) (drop (t + 1) new) ≡ take t hs ++ forget_held own t (drop t hs)
forget_goes own t hs new lt e =
    let y = kept_held own t (slice_index_or hs t Nothing) in
    ap (λ (l : List Held). take (t + 1) l ++ forget_held own (t + 1) (drop (t + 1) l)) e
    ∙ ap (λ (l : List Held). l ++ forget_held own (t + 1) (drop (t + 1) (slice_set hs t y))) (take_more_set hs t y lt)
    ∙ append_assoc (take t hs) (y ∷ []) (forget_held own (t + 1) (drop (t + 1) (slice_set hs t y)))
    ∙ ap (λ (l : List Held). take t hs ++ (y ∷ forget_held own (t + 1) l)) (drop_set hs t y)
    ∙ ap (λ (n : ℕ). take t hs ++ (y ∷ forget_held own (t + 1) (drop n hs))) (add-one t)
    ∙ ap (λ (l : List Held). take t hs ++ forget_held own t l) (sym (drop-cons hs t Nothing lt))

pub close_is : (inputs : List Storage) (s : State) (n : ℕ) (own : ℕ → Bool) (locals : List ℤ) (new : List Held) → new ≡ forget_held own 0 s.tensors.items → record (machine inputs s n) { locals = locals; tensors = tensors_of inputs new } ≡ opened own locals (machine inputs s n)
close_is inputs s n own locals new e = ap (λ (ts : List Tensor). record (machine inputs s n) { locals = locals; tensors = ts }) (ap (tensors_of inputs) e ∙ forget_is inputs own 0 s.tensors.items)

number_back : (k : ℕ) → k ≤ 2 ^ 41 → to_z w64 (of_z w64 (pos k)) ≡ pos k
number_back k h = to_z-of_z w64 (pos k) (record { sfits = omega arith })

-- the locals of a chunk, by the two ends that were set
pub locals_are : (from to : ℕ) (entry l0 l1 l2 : List ℤ) (b e b' e' : ℕ) → l0 ≡ entry → b ≤ 2 ^ 41 → e ≤ 2 ^ 41 → b ≡ b' → e ≡ e' → l1 ≡ slice_set l0 from (to_z w64 (of_z w64 (pos b))) → l2 ≡ slice_set l1 to (to_z w64 (of_z w64 (pos e))) → l2 ≡ chunk_locals from to entry (b', e')
locals_are from to entry l0 l1 l2 b e b' e' h0 sb se hb he h1 h2 =
    h2 ∙ ap (slice_set l1 to) (number_back e se ∙ ap pos he)
    ∙ ap (λ (l : List ℤ). slice_set l to (pos e')) (h1 ∙ ap (λ (l : List ℤ). slice_set l from (to_z w64 (of_z w64 (pos b)))) h0 ∙ ap (slice_set entry from) (number_back b sb ∙ ap pos hb))
