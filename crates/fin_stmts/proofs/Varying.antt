-- Along runs and lookups the reads that vary are the lookups that the loop drives.
use Rattle.std.proofs.Common.{◌≡◌, ℕ, Bool, true, false, ◌&&◌, List, [], ◌∷◌, ◌++◌, map, refl, sym, ap, ◌∙◌, pos}
use Rattle.std.proofs.Math.Path.{fun_ext}
use Rattle.std.specs.Prelude.{not, ◌||◌, nat_eq}
use Rattle.std.specs.List.{list_all, list_any}
use Rattle.fin_ir.specs.Machine.{nothing}
use Rattle.fin_ast.specs.declared.tree.Index.{Index}
use Rattle.fin_looplet.specs.declared.looplet.Looplet.{Looplet}
use Rattle.fin_looplet.specs.declared.looplet.Looplet.TheVariants.{Run, Spike, Lookup, Sequence', Stepper', Jumper', Switch', Shift'}
use Rattle.fin_looplet.specs.View.{Seen, view}
use Rattle.fin_nest.specs.declared.entries.Numbered.{Numbered}
use Rattle.fin_nest.specs.Entries.{looplets, numbers}
use Rattle.fin_simp.specs.declared.expr_rest.Access.{Access}
use Rattle.fin_simp.specs.declared.rest.Rest.{Rest}
use Rattle.fin_simp.specs.Gathered.{as_access, as_kind, as_rest}
use Rattle.fin_simp.specs.Rest as told
use Rattle.fin_simp.specs.Work.{is_in, names_var, is_one_update}
use Rattle.fin_drive.specs.Turns.{Testing, varies_by, any_varies}
use Rattle.fin_style_point.specs.declared.nest.Nest.{Nest}
use Rattle.fin_style_point.specs.Parts.{all_looplets}
use Rattle.fin_style_point.specs.Steps.{is_flat, AllFlat}
use Rattle.fin_known.specs.Telling.{slot_of, read_slots, slots_of}
use Rattle.fin_loops.specs.Points.{seen_bare}
use Rattle.fin_loops.specs.Told.{is_fixed_by}
use Rattle.fin_stmts.specs.Varying.{is_lookup, varies_here, varies_at}

pub no_read_varies : (ds : List Bool) (k : ℕ) → varies_at ds [] k ≡ false
no_read_varies [] k = refl
no_read_varies (d ∷ ds) k = refl

pub all_flat : (ls : List Looplet) → list_all is_flat ls ≡ true → AllFlat ls
all_flat [] e = tt
all_flat (l ∷ ls) e = (both.0, all_flat ls both.1) where
  both : (is_flat l ≡ true) × (list_all is_flat ls ≡ true)
  both = elim (is_flat l) as (λ b. (b && list_all is_flat ls) ≡ true → (b ≡ true) × (list_all is_flat ls ≡ true)) [ true ↦ (λ h. (refl, h)) | false ↦ (λ h. absurd (cc)) ] e

pub flat_all : (ls : List Looplet) → AllFlat ls → list_all is_flat ls ≡ true
flat_all [] flat = refl
flat_all (l ∷ ls) flat = ap (λ (b : Bool). b && list_all is_flat ls) flat.0 ∙ flat_all ls flat.1

-- ---- one looplet

abbrev bare : Looplet → Seen
bare l = (view (λ t. nothing) [] l (pos 0) (pos 0)).seen

looplet_varies : (l : Looplet) → is_flat l ≡ true → (bare l).varies ≡ is_lookup l
looplet_varies (Run leaf) e = refl
looplet_varies (Spike body tail) e = cc
looplet_varies (Lookup coord leaf) e = refl
looplet_varies (Sequence' n phases) e = cc
looplet_varies (Stepper' p walker) e = cc
looplet_varies (Jumper' p walker) e = cc
looplet_varies (Switch' n cases) e = cc
looplet_varies (Shift' by p child) e = cc

slot_varies : (d : Bool) (x : Numbered) (k : ℕ) → is_flat x.looplet ≡ true → varies_by (slot_of d x.number) (bare x.looplet) k ≡ varies_here d x k
slot_varies true x k e = ap (λ (b : Bool). nat_eq x.number k && b) (looplet_varies x.looplet e)
slot_varies false x k e = refl

-- ---- a nest's

no_mask_varies : (ms : List Numbered) (ss : List Seen) (k : ℕ) → any_varies (map Testing (numbers ms)) ss k ≡ false
no_mask_varies [] ss k = refl
no_mask_varies (x ∷ ms) [] k = refl
no_mask_varies (x ∷ ms) (s ∷ ss) k = no_mask_varies ms ss k

module _ (ms : List Numbered) where
  reads_vary : (ds : List Bool) (es : List Numbered) (k : ℕ) → AllFlat (looplets es ++ looplets ms)
      → any_varies (read_slots ds (numbers es) ++ map Testing (numbers ms)) (seen_bare (looplets es ++ looplets ms)) k ≡ varies_at ds es k
  reads_vary [] [] k flat = no_mask_varies ms (seen_bare (looplets ms)) k
  reads_vary (d ∷ ds) [] k flat = no_mask_varies ms (seen_bare (looplets ms)) k
  reads_vary [] (x ∷ es) k flat = reads_vary [] es k flat.1
  reads_vary (d ∷ ds) (x ∷ es) k flat =
      ap (λ (b : Bool). b || any_varies (read_slots ds (numbers es) ++ map Testing (numbers ms)) (seen_bare (looplets es ++ looplets ms)) k) (slot_varies d x k flat.0)
      ∙ ap (λ (b : Bool). varies_here d x k || b) (reads_vary ds es k flat.1)

-- ---- what is left

none_of : {X : Type 0} (p : X → Bool) (xs : List X) → list_all (λ x. not (p x)) xs ≡ not (list_any p xs)
none_of p [] = refl
none_of p (x ∷ xs) = elim (p x) as (λ b. (not b && list_all (λ y. not (p y)) xs) ≡ not (b || list_any p xs)) [ true ↦ refl | false ↦ none_of p xs ]

none_of_reads : (p : ℕ → Bool) (xs : List Access) → list_all (λ (a : told.Access). not (p a.read)) (map as_access xs) ≡ not (list_any (λ (a : Access). p a.read) xs)
none_of_reads p [] = refl
none_of_reads p (x ∷ xs) =
    elim (p x.read) as (λ b. (not b && list_all (λ (a : told.Access). not (p a.read)) (map as_access xs)) ≡ not (b || list_any (λ (a : Access). p a.read) xs))
    [ true ↦ refl | false ↦ none_of_reads p xs ]

-- by the lists of the code
pub fixed_there : (var : ℕ) (ds : List Bool) (n : Nest) (r : Rest) → AllFlat (all_looplets n)
    → is_fixed_by var (slots_of ds n) (seen_bare (all_looplets n)) (as_rest r)
    ≡ (is_one_update (as_kind r.kind) && not (is_in r.vars var) && not (list_any (names_var var) r.targets) && not (list_any (λ (a : Access). varies_at ds n.reads a.read) r.reads))
fixed_there var ds n r flat =
    ap (λ (v : ℕ → Bool). is_one_update (as_kind r.kind) && not (is_in r.vars var) && list_all (λ i. not (names_var var i)) r.targets
    && list_all (λ (a : told.Access). not (v a.read)) (map as_access r.reads)) (fun_ext (λ k. reads_vary n.masks ds n.reads k flat))
    ∙ ap (λ (b : Bool). is_one_update (as_kind r.kind) && not (is_in r.vars var) && b && list_all (λ (a : told.Access). not (varies_at ds n.reads a.read)) (map as_access r.reads))
    (none_of (names_var var) r.targets)
    ∙ ap (λ (b : Bool). is_one_update (as_kind r.kind) && not (is_in r.vars var) && not (list_any (names_var var) r.targets) && b)
    (none_of_reads (varies_at ds n.reads) r.reads)

module _ (var : ℕ) (ds : List Bool) (n : Nest) (r : Rest) (flat : AllFlat (all_looplets n)) where
  abbrev IsAnswer : Bool → Type 0
  IsAnswer b = b ≡ is_fixed_by var (slots_of ds n) (seen_bare (all_looplets n)) (as_rest r)

  pub names_decide : (names : Bool) (targets : List Index) → targets ≡ r.targets → names ≡ list_any (names_var var) targets → names ≡ true → IsAnswer false
  names_decide names targets is e told =
      no (is_one_update (as_kind r.kind)) (is_in r.vars var) (list_any (names_var var) r.targets) (list_any (λ (a : Access). varies_at ds n.reads a.read) r.reads) (cc)
      ∙ sym (fixed_there var ds n r flat) where
        no : (a b c d : Bool) → c ≡ true → false ≡ (a && not b && not c && not d)
        no true true true d e = refl
        no true false true d e = refl
        no false b true d e = refl
        no a b false d e = absurd (cc)

  pub reads_decide : (one has names vary : Bool) → one ≡ is_one_update (as_kind r.kind) → one ≡ true → has ≡ is_in r.vars var → has ≡ false
      → names ≡ list_any (names_var var) r.targets → names ≡ false → (es : List Numbered) (xs : List Access) → es ≡ n.reads → xs ≡ r.reads
      → vary ≡ list_any (λ (a : Access). varies_at ds es a.read) xs → IsAnswer (not vary)
  reads_decide one has names vary is single have not_had named not_named es xs first second varied =
      ap not (varied ∙ ap (λ (e : List Numbered). list_any (λ (a : Access). varies_at ds e a.read) xs) first ∙ ap (list_any (λ (a : Access). varies_at ds n.reads a.read)) second)
      ∙ all (is_one_update (as_kind r.kind)) (is_in r.vars var) (list_any (names_var var) r.targets) (not (list_any (λ (a : Access). varies_at ds n.reads a.read) r.reads))
      (sym is ∙ single) (sym have ∙ not_had) (sym named ∙ not_named)
      ∙ sym (fixed_there var ds n r flat) where
        all : (a b c d : Bool) → a ≡ true → b ≡ false → c ≡ false → d ≡ (a && not b && not c && d)
        all a b c d e f g = sym (ap (λ (x : Bool). x && not b && not c && d) e ∙ ap (λ (x : Bool). not x && not c && d) f ∙ ap (λ (x : Bool). not x && d) g)
