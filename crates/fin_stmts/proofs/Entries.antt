-- The nest of a loop's entry is one that the code knows: its slots, its leaves, and that none of its looplets jumps.
use Rattle.std.proofs.Common.{◌≡◌, inl, inr, ℕ, suc, pos, List, [], ◌∷◌, ◌++◌, map, length, take, drop, Option, Some, None, refl, sym, ap, ◌∙◌}
use Rattle.std.specs.Prelude.{is_some, slice_get, unwrap_or, option_map}
use Rattle.std.proofs.lemmas.List.{length-map}
use Rattle.std.proofs.Math.Seq.{take-append_seam, drop-append_seam}
use Rattle.fin_base.specs.Words.{IsWord}
use Rattle.fin_tensor.specs.Building.{no_format}
use Rattle.fin_ast.specs.declared.checked.Checked.{Checked}
use Rattle.fin_ast.specs.declared.header.Header.{Header}
use Rattle.fin_ast.specs.declared.tree.Index.{Index}
use Rattle.fin_ast.proofs.Wording.{word_by}
use Rattle.fin_looplet.specs.declared.looplet.Looplet.{Looplet, Row_of-Phase, end_of-Phase, more_of-Phase, Row_of-Walker, end_of-Walker, more_of-Walker, Row_of-Case, end_of-Case, more_of-Case, end_of-Looplet, more_of-Looplet}
use Rattle.fin_looplet.specs.declared.looplet.Looplet.TheVariants.{Run, Spike, Lookup, Sequence', Stepper', Jumper', Switch', Shift'}
use Rattle.fin_nest.specs.Jumping.{HoldsJumper, PhaseHolds, ChildHolds, CaseHolds, NoneHolds}
use Rattle.fin_nest.specs.declared.entries.Numbered.{Numbered}
use Rattle.fin_nest.specs.Entries.{looplets, numbers}
use Rattle.fin_read.specs.Values.{format_of}
use Rattle.fin_simp.specs.declared.expr_rest.Access.{Access}
use Rattle.fin_simp.specs.Gathered.{as_access}
use Rattle.fin_simp.specs.Rest as told
use Rattle.fin_simp.specs.Sights.{driven_index}
use Rattle.fin_simp.specs.Work.{Mask, masks_among}
use Rattle.fin_drive.specs.Turns.{Slot, Driving, Testing}
use Rattle.fin_descend.specs.Jumpless.{Jumpless, JumplessPhases, JumplessWalker, JumplessCases, AllJumpless}
use Rattle.fin_enter.specs.Together.{Around, settled_index, behind_place}
use Rattle.fin_enter.specs.LoopEntry.{behind_cursor, read_looplets}
use Rattle.fin_enter.specs.Masked.{Tested, tested_among, as_mask}
use Rattle.fin_enter.specs.PushedReads.{drives}
use Rattle.fin_enter.proofs.Masked.{masks_are_tests}
use Rattle.fin_known.specs.Telling.{slot_of, read_slots}
use Rattle.fin_perform.specs.Layouts.{heads_in}
use Rattle.fin_loops.specs.Loops.{slot_by, slot_in}

-- ---- looplets that hold no jumper

mutual
  jumpless : (l : Looplet) → (HoldsJumper l → ⊥) → Jumpless l
  jumpless (Run leaf) h = tt
  jumpless (Spike body tail) h = tt
  jumpless (Lookup coord leaf) h = tt
  jumpless (Sequence' n phases) h = phases_jumpless phases h
  jumpless (Stepper' p walker) h = walker_jumpless walker h
  jumpless (Jumper' p walker) h = h tt
  jumpless (Switch' n cases) h = cases_jumpless cases h
  jumpless (Shift' by p (more_of-Looplet child end_of-Looplet)) h = jumpless child h

  phases_jumpless : {n : _} (ps : Row_of-Phase n) → (PhaseHolds ps → ⊥) → JumplessPhases ps
  phases_jumpless end_of-Phase h = tt
  phases_jumpless (more_of-Phase stop child rest) h = (jumpless child (λ x. h (inl x)), phases_jumpless rest (λ x. h (inr x)))

  walker_jumpless : {n : _} (w : Row_of-Walker n) → (ChildHolds w → ⊥) → JumplessWalker w
  walker_jumpless end_of-Walker h = tt
  walker_jumpless (more_of-Walker cursor seek stop child rest) h = jumpless child h

  cases_jumpless : {n : _} (cs : Row_of-Case n) → (CaseHolds cs → ⊥) → JumplessCases cs
  cases_jumpless end_of-Case h = tt
  cases_jumpless (more_of-Case test child rest) h = (jumpless child (λ x. h (inl x)), cases_jumpless rest (λ x. h (inr x)))

pub all_jumpless : (ls : List Looplet) → NoneHolds ls → AllJumpless ls
all_jumpless [] h = tt
all_jumpless (l ∷ ls) h = (jumpless l h.0, all_jumpless ls h.1)

-- ---- fills of formats

fill_word : (o : Option Header) → IsWord (unwrap_or (option_map (λ (x : Header). x.format) o) no_format).fill
fill_word None = word_by (pos 0) refl
fill_word (Some h) = word_by h.format.fill h.worded

pub fills_words : (c : Checked) (t : ℕ) → IsWord (format_of (heads_in c) t).fill
fills_words c t = fill_word (slice_get c.program.headers t)

-- ---- slots

one_slot : (k : ℕ) (a : told.Access) (o : Option (ℕ × Index)) → k ≡ a.read → slot_by a o ≡ slot_of (is_some o) k
one_slot k a None e = refl
one_slot k a (Some d) e = ap Driving (sym e)

pub reads_slots : (var : ℕ) (reads : List Access) → map (slot_in var) (map as_access reads) ≡ read_slots (drives var reads) (map (λ (a : told.Access). a.read) (map as_access reads))
reads_slots var [] = refl
reads_slots var (a ∷ reads) =
    ap (λ (x : Slot). x ∷ map (slot_in var) (map as_access reads)) (one_slot a.read (as_access a) (driven_index var a.at) refl)
    ∙ ap (λ (xs : List Slot). slot_of (is_some (driven_index var a.at)) a.read ∷ xs) (reads_slots var reads)

testing : (ts : List Tested) → map (λ (k : Mask). Testing k.test) (map (as_mask []) ts) ≡ map Testing (map (λ (t : Tested). t.test) ts)
testing [] = refl
testing (t ∷ ts) = ap (λ (xs : List Slot). Testing t.test ∷ xs) (testing ts)

pub masks_slots : (var : ℕ) (tests : List told.Test) → map (λ (k : Mask). Testing k.test) (masks_among [] var tests) ≡ map Testing (map (λ (t : Tested). t.test) (tested_among var tests))
masks_slots var tests = ap (map (λ (k : Mask). Testing k.test)) (masks_are_tests [] var tests) ∙ testing (tested_among var tests)

-- ---- the looplets of reads, and those of masks behind them

pub record SameEnds (xs ys zs ws : List Looplet) : Type 0 where
  pub first : xs ≡ zs
  pub second : ys ≡ ws

same_ends : (xs ys zs ws : List Looplet) → length xs ≡ length zs → xs ++ ys ≡ zs ++ ws → SameEnds xs ys zs ws
same_ends xs ys zs ws long same = record {
  first = sym (take-append_seam xs ys) ∙ ap (λ k. take k (xs ++ ys)) long ∙ ap (take (length zs)) same ∙ take-append_seam zs ws;
  second = sym (drop-append_seam xs ys) ∙ ap (λ k. drop k (xs ++ ys)) long ∙ ap (drop (length zs)) same ∙ drop-append_seam zs ws;
}

each_read : (l : Around) (reads : List told.Access) (at cursor : ℕ) → length (read_looplets l reads at cursor) ≡ length reads
each_read l [] at cursor = refl
each_read l (a ∷ reads) at cursor = ap suc (each_read l reads (behind_place (settled_index l a) at) (behind_cursor (driven_index l.var a.at) cursor))

pub looplets_apart : (l : Around) (reads : List told.Access) (at cursor : ℕ) (es : List Numbered) (ys ws : List Looplet) → numbers es ≡ map (λ (a : told.Access). a.read) reads
    → looplets es ++ ys ≡ read_looplets l reads at cursor ++ ws → SameEnds (looplets es) ys (read_looplets l reads at cursor) ws
looplets_apart l reads at cursor es ys ws same whole =
    let long : length (looplets es) ≡ length (read_looplets l reads at cursor) =
    length-map es (λ (e : Numbered). e.looplet) ∙ sym (length-map es (λ (e : Numbered). e.number)) ∙ ap length same ∙ length-map reads (λ (a : told.Access). a.read) ∙ sym (each_read l reads at cursor) in
    same_ends (looplets es) ys (read_looplets l reads at cursor) ws long whole
