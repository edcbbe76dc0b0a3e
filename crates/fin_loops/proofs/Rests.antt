-- What is left of a loop's body is the same in each run, and so is what its looplets are for.
use Rattle.std.proofs.Common.{◌≡◌, ℕ, Bool, true, false, ◌&&◌, List, [], ◌∷◌, ◌++◌, map, Option, Some, None, if◌then◌else◌, refl, ap, ◌∙◌}
use Rattle.fin_base.specs.declared.terms.Op.{Op}
use Rattle.fin_ast.specs.declared.tree.Expr.{Expr, out-Expr}
use Rattle.fin_ast.specs.declared.tree.Expr.TheOpen.{Expr-F}
use Rattle.fin_ast.specs.declared.tree.Index.{Index}
use Rattle.fin_ast.specs.declared.tree.Stmt.{Stmt}
use Rattle.fin_ast.specs.Value.{Numbers, value_of}
use Rattle.fin_simp.specs.Left.{Marks}
use Rattle.fin_simp.specs.Numbered.{Here}
use Rattle.fin_simp.specs.Remaining.{are_nothing}
use Rattle.fin_simp.specs.Rest.{Access, Test, Rest, is_none_kind, all_rest, rest_step, all_written, written_step}
use Rattle.fin_simp.specs.Sights.{driven_index}
use Rattle.fin_simp.specs.Work.{World, Mask, Context, Worked, rests_in, mask_by, and_mask, masks_among, is_comparison, is_var, is_bound_of}
use Rattle.fin_simp.specs.Moving.{worked_all}
use Rattle.fin_simp.proofs.Loops.{told}
use Rattle.fin_simp.proofs.Resting.{rests_agree}
use Rattle.fin_drive.specs.Turns.{Slot, Testing}
use Rattle.fin_drive.specs.Watches.{Tests, slot_of}
use Rattle.fin_drive.specs.Entries.{Entry, watch_of, watch_all}
use Rattle.fin_perform.specs.Places.{left_of_all}
use Rattle.fin_loops.specs.Loops.{slot_by, slot_in, slots_of}

module _ (w : World) (body : List Stmt) (h : Here) where
  pub rests_are : (ctx : Context) → rests_in ctx (worked_all w body h) ≡ left_of_all body h ctx
  rests_are None = ap all_written (told w Rest written_step (λ (s : Worked). s.written) (λ k y. refl) body h)
  rests_are (Some m) = ap (λ (rs : List (Marks → Rest)). all_rest rs m) (told w (Marks → Rest) rest_step (λ (s : Worked). s.rest) (λ k y. refl) body h)

  pub none_are : (m : Marks) → is_none_kind (rests_in (Some m) (worked_all w body h)).kind ≡ are_nothing body h m
  none_are m = ap (λ (r : Rest). is_none_kind r.kind) (rests_are (Some m)) ∙ rests_agree body h m

-- ---- what the looplets are for

abbrev tests_in : List Mask → List Slot
tests_in = map (λ (k : Mask). Testing k.test)

-- which tests are masks is asked of no number
module _ (vars : Numbers) (var : ℕ) where
  and_tests : (a b : Option Mask) (ms ks : List Mask) → tests_in (and_mask a []) ≡ tests_in (and_mask b []) → tests_in ms ≡ tests_in ks → tests_in (and_mask a ms) ≡ tests_in (and_mask b ks)
  and_tests None None ms ks e f = f
  and_tests None (Some b) ms ks e f = cc
  and_tests (Some a) None ms ks e f = cc
  and_tests (Some a) (Some b) ms ks e f = ap (λ (t : List Slot). t ++ tests_in ms) e ∙ ap (λ (rest : List Slot). Testing b.test ∷ rest) f

  abbrev mask_in : ℕ → Op → Bool → Expr → Numbers → Mask
  mask_in test o first side ns = record { test = test; op = o; bare_first = first; bound = value_of side ns (λ tensor. None) }

  either : (test : ℕ) (o : Op) (left right : Expr) (a b : Bool)
      → tests_in (and_mask (if a then Some (mask_in test o true right vars) else (if b then Some (mask_in test o false left vars) else None)) [])
      ≡ tests_in (and_mask (if a then Some (mask_in test o true right []) else (if b then Some (mask_in test o false left []) else None)) [])
  either test o left right true b = refl
  either test o left right false true = refl
  either test o left right false false = refl

  mask_tests : (test : ℕ) (e : Expr-F Expr) → tests_in (and_mask (mask_by vars var test e) []) ≡ tests_in (and_mask (mask_by [] var test e) [])
  mask_tests test (Expr-F.Num n) = refl
  mask_tests test (Expr-F.Var x line) = refl
  mask_tests test (Expr-F.Read tensor at line) = refl
  mask_tests test (Expr-F.Neg inner) = refl
  mask_tests test (Expr-F.Two o left right) =
      either test o left right (is_comparison o && (is_var var left && is_bound_of var right)) (is_comparison o && (is_var var right && is_bound_of var left))

  masks_tests : (ts : List Test) → tests_in (masks_among vars var ts) ≡ tests_in (masks_among [] var ts)
  masks_tests [] = refl
  masks_tests (t ∷ ts) =
      and_tests (mask_by vars var t.test (out-Expr t.expr)) (mask_by [] var t.test (out-Expr t.expr)) (masks_among vars var ts) (masks_among [] var ts)
      (mask_tests t.test (out-Expr t.expr)) (masks_tests ts)

module _ (e : Entry) where
  test_slots : (ms : List Mask) → map slot_of (map Tests ms) ≡ tests_in ms
  test_slots [] = refl
  test_slots (k ∷ ms) = ap (λ (rest : List Slot). Testing k.test ∷ rest) (test_slots ms)

  read_slot : (a : Access) (o : Option (ℕ × Index)) → slot_of (watch_of e a o) ≡ slot_by a o
  read_slot a None = refl
  read_slot a (Some d) = refl

  watch_slots : (reads : List Access) (ms : List Mask) → map slot_of (watch_all e reads ms) ≡ map (slot_in e.loop.loop.var) reads ++ tests_in ms
  watch_slots [] ms = test_slots ms
  watch_slots (a ∷ reads) ms =
      ap (λ (x : Slot). x ∷ map slot_of (watch_all e reads ms)) (read_slot a (driven_index e.loop.loop.var a.at))
      ∙ ap (λ (rest : List Slot). slot_in e.loop.loop.var a ∷ rest) (watch_slots reads ms)

-- as the loop is entered they are those that are told where its code is made
pub slots_are : (e : Entry) (vars : Numbers) → map slot_of (watch_all e e.rest.reads (masks_among vars e.loop.loop.var e.rest.tests)) ≡ slots_of e.loop.loop.var e.rest
slots_are e vars =
    watch_slots e e.rest.reads (masks_among vars e.loop.loop.var e.rest.tests)
    ∙ ap (λ (ts : List Slot). map (slot_in e.loop.loop.var) e.rest.reads ++ ts) (masks_tests vars e.loop.loop.var e.rest.tests)
