-- What is made one after another for a loop's entry is the whole.
use Rattle.std.proofs.Common.{◌≡◌, ℕ, suc, ◌+◌, ◌*◌, ◌<◌, List, [], ◌∷◌, ◌++◌, length, map, refl, sym, ap, ◌∙◌, subst, arith, append_assoc}
use Rattle.std.proofs.lemmas.List.{map-append}
use Rattle.fin_ir.specs.declared.code.Code.{Code}
use Rattle.fin_looplet.specs.declared.looplet.Looplet.{Looplet}
use Rattle.fin_read.specs.Steps.{Step, assign_of, Appends}
use Rattle.fin_read.specs.Values.{Heads, value_code}
use Rattle.fin_nest.specs.declared.entries.Numbered.{Numbered}
use Rattle.fin_nest.specs.Entries.{looplets, numbers}
use Rattle.fin_simp.specs.declared.expr_rest.Access.{Access}
use Rattle.fin_simp.specs.declared.rest.Test.{Test}
use Rattle.fin_simp.specs.declared.rest.Rest.{Rest}
use Rattle.fin_simp.specs.Rest as told
use Rattle.fin_simp.specs.Gathered.{as_access, as_test}
use Rattle.fin_enter.specs.declared.body.LoopBody.{LoopBody}
use Rattle.fin_enter.specs.declared.entrance.LoopHead.{LoopHead}
use Rattle.fin_enter.specs.Charges.{entry_codes}
use Rattle.fin_enter.specs.Together.{Around, all_positions, behind_all}
use Rattle.fin_enter.specs.Masked.{Tested, tested_among, bound_steps, behind_bounds}
use Rattle.fin_enter.specs.MaskCodes.{numbered_mask}
use Rattle.fin_enter.specs.LoopEntry.{read_looplets, mask_looplets, bounds_by, cursors_by, steps_by, looplets_by, lengths_by, driven_count}
use Rattle.fin_enter.specs.Pushed.{as_around, positions_in, behind_positions}
use Rattle.fin_enter.specs.PushedMasks.{numbered_masks, masks_among, masks_in, behind_masks, mask_steps}
use Rattle.fin_enter.specs.PushedReads.{looplets_in, driven_among, read_numbers}
use Rattle.fin_enter.specs.MadeEntry.{around_of, charge_in, known as known_told}
use Rattle.fin_enter.proofs.Masked.{bounds_grow}

-- ---- masks under their numbers

pub masks_length : (h : Heads) (ts : List Tested) (next : ℕ) → length (numbered_masks h ts next) ≡ length ts
masks_length h [] next = refl
masks_length h (t ∷ ts) next = ap (λ (n : ℕ). suc n) (masks_length h ts (value_code h t.bound next).next)

pub masks_looplets : (h : Heads) (ts : List Tested) (next : ℕ) → looplets (numbered_masks h ts next) ≡ mask_looplets h ts next
masks_looplets h [] next = refl
masks_looplets h (t ∷ ts) next =
    ap (λ (ls : List Looplet). (numbered_mask h t next).looplet ∷ ls) (masks_looplets h ts (value_code h t.bound next).next)

pub masks_numbers : (h : Heads) (ts : List Tested) (next : ℕ) → numbers (numbered_masks h ts next) ≡ map (λ (t : Tested). t.test) ts
masks_numbers h [] next = refl
masks_numbers h (t ∷ ts) next = ap (λ (ns : List ℕ). t.test ∷ ns) (masks_numbers h ts (value_code h t.bound next).next)

-- ---- the codes

pub joined : (old : List Code) (first second : List Step) (last : List Code)
    → (old ++ map assign_of first) ++ map assign_of second ++ last ≡ old ++ (map assign_of (first ++ second) ++ last)
joined old first second last =
    ap (λ (cs : List Code). cs ++ last) (append_assoc old (map assign_of first) (map assign_of second))
    ∙ append_assoc old (map assign_of first ++ map assign_of second) last
    ∙ ap (λ (cs : List Code). old ++ (cs ++ last)) (sym (map-append assign_of first second))

-- what is known, by the reads and tests alone
abbrev pub known_with : ℕ → List told.Access → List told.Test → ℕ → ℕ
known_with var reads tests chunks = 1 + 2 * (driven_count var reads + length (tested_among var tests)) + chunks

abbrev pub code_with : Around → List told.Access → List told.Test → ℕ → ℕ → List Code
code_with l reads tests chunks next = map assign_of (steps_by l reads tests next) ++ entry_codes (known_with l.var reads tests chunks) (lengths_by l reads next)

codes_are : (old one two three : List Code) (l : Around) (reads : List told.Access) (tests : List told.Test) (chunks known next bounds : ℕ)
    → Appends old one (all_positions l reads next) → bounds ≡ bounds_by l reads next
    → Appends one two (bound_steps l.heads (tested_among l.var tests) bounds)
    → known ≡ known_with l.var reads tests chunks → three ≡ two ++ entry_codes known (lengths_by l reads next)
    → three ≡ old ++ code_with l reads tests chunks next
codes_are old one two three l reads tests chunks known next bounds positions begin masks counted charge =
    let first = all_positions l reads next in
    let second = bound_steps l.heads (tested_among l.var tests) (bounds_by l reads next) in
    let charges = entry_codes known (lengths_by l reads next) in
    let begun : two ≡ one ++ map assign_of second = subst (λ (n : ℕ). two ≡ one ++ map assign_of (bound_steps l.heads (tested_among l.var tests) n)) begin masks in
    charge ∙ ap (λ (cs : List Code). cs ++ charges) (begun ∙ ap (λ (cs : List Code). cs ++ map assign_of second) positions)
    ∙ joined old first second charges
    ∙ ap (λ (n : ℕ). old ++ (map assign_of (first ++ second) ++ entry_codes n (lengths_by l reads next))) counted

-- ---- all, for what the code has of the loop and of what remains of its body

pub around_is : (body : LoopBody) (head : LoopHead) (rest : Rest) → body.heads.now ≡ head.heads.now → body.var ≡ head.var → body.changed.now ≡ rest.changed → as_around body ≡ around_of head rest
around_is body head rest heads var changed =
    ap (λ (h : Heads). record { heads = h; var = body.var; changed = body.changed.now }) heads
    ∙ ap (λ (x : ℕ). record { heads = head.heads.now; var = x; changed = body.changed.now }) var
    ∙ ap (λ (ns : List ℕ). record { heads = head.heads.now; var = head.var; changed = ns }) changed

module _ (body : LoopBody) (rest : Rest) (reads : List Access) (tests : List Test) (same_reads : reads ≡ rest.reads) (same_tests : tests ≡ rest.tests) where
  abbrev l : Around
  l = as_around body

  abbrev rs : List told.Access
  rs = map as_access rest.reads

  abbrev ts : List told.Test
  ts = map as_test rest.tests

  reads_are : map as_access reads ≡ rs
  reads_are = ap (λ (xs : List Access). map as_access xs) same_reads

  tests_are : map as_test tests ≡ ts
  tests_are = ap (λ (xs : List Test). map as_test xs) same_tests

  pub bounds_are : (next behind bounds : ℕ) → behind ≡ behind_positions body reads next → bounds ≡ behind + 1 → bounds ≡ bounds_by l rs next
  bounds_are next behind bounds found begin = begin ∙ ap (λ (k : ℕ). k + 1) (found ∙ ap (λ (xs : List told.Access). behind_all l xs next) reads_are)

  pub cursors_are : (next bounds behind cursors : ℕ) → bounds ≡ bounds_by l rs next → behind ≡ behind_masks body tests bounds → cursors ≡ behind + 1 → cursors ≡ cursors_by l rs ts next
  cursors_are next bounds behind cursors begin found own =
      own ∙ ap (λ (k : ℕ). k + 1) (found ∙ ap (λ (xs : List told.Test). behind_bounds l.heads (tested_among l.var xs) bounds) tests_are
      ∙ ap (behind_bounds l.heads (tested_among l.var ts)) begin)

  pub cursors_after : (next behind bounds after cursors : ℕ) → behind ≡ behind_positions body reads next → bounds ≡ behind + 1 → after ≡ behind_masks body tests bounds → cursors ≡ after + 1
      → behind_positions body reads next < cursors
  cursors_after next behind bounds after cursors found begin ends own = omega (arith, found, begin, ends, own, bounds_grow l.heads (masks_among body tests) bounds)

  known_is : (chunks driven count known bounds : ℕ) (masks : List Numbered) → driven ≡ driven_among l.var reads → masks ≡ masks_in body tests bounds → count ≡ length masks
      → known ≡ known_told driven count chunks → known ≡ known_with l.var rs ts chunks
  known_is chunks driven count known bounds masks drives made counted is =
      let d : driven ≡ driven_count l.var rs = drives ∙ ap (driven_count l.var) reads_are in
      let m : count ≡ length (tested_among l.var ts) =
      counted ∙ ap (λ (xs : List Numbered). length xs) made ∙ masks_length l.heads (masks_among body tests) bounds ∙ ap (λ (xs : List told.Test). length (tested_among l.var xs)) tests_are in
      omega (arith, d, m, is)

  pub code_made : (old one two three : List Code) (chunks next behind bounds driven count known : ℕ) (masks : List Numbered)
      → Appends old one (positions_in body reads next) → behind ≡ behind_positions body reads next → bounds ≡ behind + 1
      → Appends one two (mask_steps body tests bounds) → masks ≡ masks_in body tests bounds
      → driven ≡ driven_among l.var reads → count ≡ length masks → known ≡ known_told driven count chunks
      → three ≡ two ++ charge_in body rest known next → three ≡ old ++ code_with l rs ts chunks next
  code_made old one two three chunks next behind bounds driven count known masks positions found begin steps made drives counted is charge =
      codes_are old one two three l rs ts chunks known next bounds
      (subst (λ (xs : List told.Access). Appends old one (all_positions l xs next)) reads_are positions) (bounds_are next behind bounds found begin)
      (subst (λ (xs : List told.Test). Appends one two (bound_steps l.heads (tested_among l.var xs) bounds)) tests_are steps)
      (known_is chunks driven count known bounds masks drives made counted is) charge

  pub looplets_made : (next bounds cursors : ℕ) (own masks : List Numbered) → bounds ≡ bounds_by l rs next → cursors ≡ cursors_by l rs ts next
      → looplets own ≡ looplets_in body reads next cursors → masks ≡ masks_in body tests bounds → looplets own ++ looplets masks ≡ looplets_by l rs ts next
  looplets_made next bounds cursors own masks begin at first second =
      let left : looplets own ≡ read_looplets l rs next (cursors_by l rs ts next) =
      first ∙ ap (λ (xs : List told.Access). read_looplets l xs next cursors) reads_are ∙ ap (read_looplets l rs next) at in
      let right : looplets masks ≡ mask_looplets l.heads (tested_among l.var ts) (bounds_by l rs next) =
      ap looplets second ∙ masks_looplets l.heads (masks_among body tests) bounds ∙ ap (λ (xs : List told.Test). mask_looplets l.heads (tested_among l.var xs) bounds) tests_are
      ∙ ap (mask_looplets l.heads (tested_among l.var ts)) begin in
      ap (λ (ls : List Looplet). ls ++ looplets masks) left ∙ ap (λ (ls : List Looplet). read_looplets l rs next (cursors_by l rs ts next) ++ ls) right

  pub tests_numbered : (bounds : ℕ) (masks : List Numbered) → masks ≡ masks_in body tests bounds → numbers masks ≡ map (λ (t : Tested). t.test) (tested_among l.var ts)
  tests_numbered bounds masks made =
      ap numbers made ∙ masks_numbers l.heads (masks_among body tests) bounds ∙ ap (λ (xs : List told.Test). map (λ (t : Tested). t.test) (tested_among l.var xs)) tests_are

-- ---- reads under their numbers

told_numbers : (reads : List Access) → read_numbers reads ≡ map (λ (a : told.Access). a.read) (map as_access reads)
told_numbers [] = refl
told_numbers (a ∷ reads) = ap (λ (ns : List ℕ). a.read ∷ ns) (told_numbers reads)

pub reads_numbered : (reads all : List Access) (own : List Numbered) → reads ≡ all → numbers own ≡ read_numbers reads → numbers own ≡ map (λ (a : told.Access). a.read) (map as_access all)
reads_numbered reads all own same are = are ∙ ap read_numbers same ∙ told_numbers all
