-- A job has one verdict.
use Rattle.std.proofs.Common.{◌≡◌, ◌∙◌, ◌+◌, ℕ, List, [], ◌∷◌, length, refl, sym, ap, subst, arith, codes, length-append}
use Rattle.std.proofs.Props.{props}
use Rattle.std.specs.Prelude.{All, IsTrue}
use Rattle.std.specs.List.{join_with_byte}
use Rattle.std.proofs.Math.Seq.{get_or-append_seam}
use Rattle.std.specs.Prelude.{Ok, Err, Some, None, Option}
use Rattle.fin_base.specs.declared.refusal.Fail.TheVariants.{Refused}
use Rattle.fin_base.specs.declared.refusal.Refusal.{Refusal}
use Rattle.fin_base.specs.declared.refusal.Rule.{Rule}
use Rattle.fin_tensor.specs.declared.storage.Storage.{Storage}
use Rattle.fin_lex.specs.declared.token.Token.{Token}
use Rattle.fin_lex.specs.Tokens.{AreTokens, BreaksAt, TokensFrom}
use Rattle.fin_lex.proofs.Unique.{one_break, one_list, tokens_or_break}
use Rattle.fin_parse.specs.Verdict.{IsAccepted, Verdict}
use Rattle.fin_parse.specs.declared.trees.Text.{Text}
use Rattle.fin_parse.proofs.OneVerdict.{accepted_or_refused, one_refusal}
use Rattle.fin_text.specs.Reading.{ReadsTensors}
use Rattle.fin_text.specs.Text.{text_of_lines}
use Rattle.fin_text.proofs.Cuts.{cut_at_one_place}
use Rattle.fin_text.proofs.OneText.{one_reading, one_refusal as one_tensor_refusal, read_or_refused}
use Rattle.fin_parcheck.specs.Safety.{parallel_in, ways_in}
use Rattle.fin_engine.specs.declared.job.Job.{Job}
use Rattle.fin_engine.specs.Cut.{IsBefore, IsCut, IsEndless}
use Rattle.fin_engine.specs.Numbers.{told}
use Rattle.fin_engine.specs.Inputs.{Tensors, unmatched, shapes_of}
use Rattle.fin_engine.specs.Verdict.{Accepts, Breaks, BreaksLater, BreaksWhole, IsCompletion, IsJob, IsJobOf, KeepsWhole, Reads}
use Rattle.fin_engine.specs.Worded.{are_worded}
use Rattle.fin_ast.specs.declared.program.Program.{Program}
use Rattle.fin_ast.specs.declared.checked.Checked.{Checked}
use Rattle.fin_ast.specs.declared.checked.Dims.{Dims}
use Rattle.fin_ast.specs.declared.checked.Ways.{Ways}
use Rattle.fin_ast.specs.OneProof.{FitHeaders-prop}
use Rattle.fin_ast.specs.Shaped.{FitHeaders}
use Rattle.fin_ast.specs.Infer.{IsInferred}
use Rattle.fin_ast.specs.Life.{life_in}
use Rattle.fin_ast.specs.Order.{order_in}
use Rattle.fin_ast.specs.Ties.{Shapes}
use Rattle.fin_dims.proofs.OneOutcome.{one_inferred, one_breach as one_extent_breach, inferred_or_broken}
use Rattle.fin_parse.proofs.OneProgram.{one_program}
use Rattle.fin_parse.proofs.OneProgram.{same_program}
use Rattle.fin_parse.specs.Program.{StandsFor}

-- a job has one program and one list of tensors
pub same_cut : (job p q t u : List ℕ) (m n : ℕ) → IsCut job p t m → IsCut job q u n → (p ≡ q) × (t ≡ u) × (m ≡ n)
same_cut job p q t u m n c d =
    let same = cut_at_one_place (codes "%%") c.before c.behind d.before d.behind c.first d.first (sym c.split ∙ d.split) in (
      c.program_is ∙ ap text_of_lines same.0 ∙ sym d.program_is,
      c.tensors_is ∙ ap (join_with_byte 10) same.1 ∙ sym d.tensors_is,
      c.last_is ∙ ap (λ l. length l + 1) same.0 ∙ sym d.last_is,
    )

pub no_end : (job p t : List ℕ) (m : ℕ) → IsEndless job → IsCut job p t m → ⊥
no_end job p t m h c =
    let all = subst (All IsBefore) c.split h in
    all (length c.before) [] (omega (arith, length-append c.before (codes "%%" ∷ c.behind))) (get_or-append_seam c.before (codes "%%") c.behind [])

-- tokens of the two programs that a job is cut into
same_tokens : (job p q t u : List ℕ) (m n : ℕ) (xs ys : List Token) → IsCut job p t m → IsCut job q u n → AreTokens p 1 xs → AreTokens q 1 ys → xs ≡ ys
same_tokens job p q t u m n xs ys c d h k = one_list p 1 0 xs ys h (subst (λ x. TokensFrom x 1 0 ys) (sym (same_cut job p q t u m n c d).0) k)

-- the verdict on one of the programs is that on the other
same_verdict : (job p q t u : List ℕ) (m n : ℕ) (xs ys : List Token) (r : Refusal) → IsCut job p t m → IsCut job q u n → AreTokens p 1 xs → AreTokens q 1 ys
    → Verdict q ys n (Err (Refused r)) → Verdict p xs m (Err (Refused r))
same_verdict job p q t u m n xs ys r c d h k v =
    let cuts = same_cut job p q t u m n c d in
    let tokens = same_tokens job p q t u m n xs ys c d h k in
    subst (λ x. Verdict x xs m (Err (Refused r))) (sym cuts.0) (subst (λ x. Verdict q x m (Err (Refused r))) (sym tokens) (subst (λ x. Verdict q ys x (Err (Refused r))) (sym cuts.2) v))

not_lexed : (job p q t u : List ℕ) (m n line : ℕ) (xs : List Token) → IsCut job p t m → IsCut job q u n → AreTokens p 1 xs → BreaksAt q 1 line → ⊥
not_lexed job p q t u m n line xs c d h k = tokens_or_break p 1 0 line xs h (subst (λ x. BreaksAt x 1 line) (sym (same_cut job p q t u m n c d).0) k)

-- the tensors of the two are one
same_tensors : (job p q t u : List ℕ) (m n : ℕ) (refusal : Refusal) → IsCut job p t m → IsCut job q u n → ReadsTensors u (n + 1) (Err (Refused refusal)) → ReadsTensors t (m + 1) (Err (Refused refusal))
same_tensors job p q t u m n refusal c d h =
    let cuts = same_cut job p q t u m n c d in
    subst (λ x. ReadsTensors x (m + 1) (Err (Refused refusal))) (sym cuts.1) (subst (λ x. ReadsTensors u (x + 1) (Err (Refused refusal))) (sym cuts.2) h)

-- a program isn't accepted and refused
not_accepted : (job p q t u : List ℕ) (m n : ℕ) (xs ys : List Token) (trees : Text) (r : Refusal) → IsCut job p t m → IsCut job q u n → AreTokens p 1 xs → AreTokens q 1 ys
    → IsAccepted p xs trees → Verdict q ys n (Err (Refused r)) → ⊥
not_accepted job p q t u m n xs ys trees r c d h k a v = accepted_or_refused p xs m trees r a (same_verdict job p q t u m n xs ys r c d h k v)

-- ---- a program with its tensors

-- the program and the tensors of a job are one
same_program_read : (job : List ℕ) (p q : Program) (g h : Tensors) → Reads job p g → Reads job q h → p ≡ q
same_program_read job p q g h a b =
    let cuts = same_cut job a.body b.body a.tensors b.tensors a.last b.last a.cut b.cut in
    let tokens = same_tokens job a.body b.body a.tensors b.tensors a.last b.last a.tokens b.tokens a.cut b.cut a.lexed b.lexed in
    let there : StandsFor a.body a.tokens a.last q = subst (λ x. StandsFor x a.tokens a.last q) (sym cuts.0) (subst (λ x. StandsFor b.body x a.last q) (sym tokens) (subst (λ x. StandsFor b.body b.tokens x q) (sym cuts.2) b.stands)) in
    one_program a.body a.tokens a.last q p there a.stands

same_tensors_read : (job : List ℕ) (p q : Program) (g h : Tensors) → Reads job p g → Reads job q h → g ≡ h
same_tensors_read job p q g h a b =
    let cuts = same_cut job a.body b.body a.tensors b.tensors a.last b.last a.cut b.cut in
    let there : ReadsTensors a.tensors (a.last + 1) (Ok h) = subst (λ x. ReadsTensors x (a.last + 1) (Ok h)) (sym cuts.1) (subst (λ x. ReadsTensors b.tensors (x + 1) (Ok h)) (sym cuts.2) b.read) in
    one_reading a.tensors (a.last + 1) g h a.read there

same_whole : (p v w : Program) → IsCompletion p v → IsCompletion p w → v ≡ w
same_whole p v w h k = same_program v w (h.headers ∙ sym k.headers) (h.body ∙ sym k.body) (h.last ∙ sym k.last)

none_or_some : (o : Option Refusal) (r : Refusal) → o ≡ None → o ≡ Some r → ⊥
none_or_some o r h k = cc

one_some : (o : Option Refusal) (r s : Refusal) → o ≡ Some r → o ≡ Some s → r ≡ s
one_some o r s h k = let e : Some r ≡ Some s = sym h ∙ k in cc

one_whole_breach : (w : Program) (shapes : Shapes) (r s : Refusal) → BreaksWhole w shapes r → BreaksWhole w shapes s → r ≡ s
one_whole_breach w shapes r s (BreaksWhole.life h) (BreaksWhole.life k) = one_some (life_in w) r s h k
one_whole_breach w shapes r s (BreaksWhole.life h) (BreaksWhole.extents k l) = absurd (none_or_some (life_in w) r k h)
one_whole_breach w shapes r s (BreaksWhole.life h) (BreaksWhole.order d k i l) = absurd (none_or_some (life_in w) r k h)
one_whole_breach w shapes r s (BreaksWhole.extents h b) (BreaksWhole.life k) = absurd (none_or_some (life_in w) s h k)
one_whole_breach w shapes r s (BreaksWhole.extents h b) (BreaksWhole.extents k l) = one_extent_breach w shapes r s b l
one_whole_breach w shapes r s (BreaksWhole.extents h b) (BreaksWhole.order d k i l) = absurd (inferred_or_broken w shapes d r i b)
one_whole_breach w shapes r s (BreaksWhole.order d h i b) (BreaksWhole.life k) = absurd (none_or_some (life_in w) s h k)
one_whole_breach w shapes r s (BreaksWhole.order d h i b) (BreaksWhole.extents k l) = absurd (inferred_or_broken w shapes d s i l)
one_whole_breach w shapes r s (BreaksWhole.order d h i b) (BreaksWhole.order e k j l) = one_some (order_in w) r s b l
one_whole_breach w shapes r s (BreaksWhole.life h) (BreaksWhole.parallel d k i o l) = absurd (none_or_some (life_in w) r k h)
one_whole_breach w shapes r s (BreaksWhole.extents h b) (BreaksWhole.parallel d k i o l) = absurd (inferred_or_broken w shapes d r i b)
one_whole_breach w shapes r s (BreaksWhole.order d h i b) (BreaksWhole.parallel e k j o l) = absurd (none_or_some (order_in w) r o b)
one_whole_breach w shapes r s (BreaksWhole.parallel d h i o b) (BreaksWhole.life k) = absurd (none_or_some (life_in w) s h k)
one_whole_breach w shapes r s (BreaksWhole.parallel d h i o b) (BreaksWhole.extents k l) = absurd (inferred_or_broken w shapes d s i l)
one_whole_breach w shapes r s (BreaksWhole.parallel d h i o b) (BreaksWhole.order e k j l) = absurd (none_or_some (order_in w) s o l)
one_whole_breach w shapes r s (BreaksWhole.parallel d h i o b) (BreaksWhole.parallel e k j n l) = one_some (parallel_in w) r s b l

kept_or_broken : (w : Program) (shapes : Shapes) (d : Dims) (r : Refusal) → KeepsWhole w shapes d → BreaksWhole w shapes r → ⊥
kept_or_broken w shapes d r h (BreaksWhole.life k) = none_or_some (life_in w) r h.life k
kept_or_broken w shapes d r h (BreaksWhole.extents k b) = inferred_or_broken w shapes d r h.extents b
kept_or_broken w shapes d r h (BreaksWhole.order e k i b) = none_or_some (order_in w) r h.order b
kept_or_broken w shapes d r h (BreaksWhole.parallel e k i o b) = none_or_some (parallel_in w) r h.parallel b

one_later_breach : (p : Program) (g : Tensors) (r s : Refusal) → BreaksLater p g r → BreaksLater p g s → r ≡ s
one_later_breach p g r s (BreaksLater.matching h) (BreaksLater.matching k) = one_some (unmatched p.headers g) r s h k
one_later_breach p g r s (BreaksLater.matching h) (BreaksLater.behind w k c b) = absurd (none_or_some (unmatched p.headers g) r k h)
one_later_breach p g r s (BreaksLater.behind w h c b) (BreaksLater.matching k) = absurd (none_or_some (unmatched p.headers g) s h k)
one_later_breach p g r s (BreaksLater.behind v h c a) (BreaksLater.behind w k d b) = one_whole_breach v (shapes_of p.headers g) r s a (subst (λ x. BreaksWhole x (shapes_of p.headers g) s) (sym (same_whole p v w c d)) b)

is_job_or_broken : (p : Program) (g : Tensors) (j : Job) (r : Refusal) → IsJobOf p g j → BreaksLater p g r → ⊥
is_job_or_broken p g j r h (BreaksLater.matching k) = none_or_some (unmatched p.headers g) r h.matched k
is_job_or_broken p g j r h (BreaksLater.behind w k c b) = kept_or_broken j.checked.program (shapes_of p.headers g) j.checked.dims r h.kept (subst (λ x. BreaksWhole x (shapes_of p.headers g) r) (sym (same_whole p j.checked.program w h.completed c)) b)

same_later : (job : List ℕ) (p q : Program) (g h : Tensors) (r : Refusal) → Reads job p g → Reads job q h → BreaksLater q h r → BreaksLater p g r
same_later job p q g h r a b breaks =
    subst (λ x. BreaksLater x g r) (sym (same_program_read job p q g h a b)) (subst (λ x. BreaksLater q x r) (sym (same_tensors_read job p q g h a b)) breaks)

-- ---- a text that is read breaks none of the rules before

read_not_endless : (job : List ℕ) (p : Program) (g : Tensors) → Reads job p g → IsEndless job → ⊥
read_not_endless job p g a h = no_end job a.body a.tensors a.last h a.cut

read_not_lexed : (job q u : List ℕ) (n line : ℕ) (p : Program) (g : Tensors) → Reads job p g → IsCut job q u n → BreaksAt q 1 line → ⊥
read_not_lexed job q u n line p g a d k = not_lexed job a.body q a.tensors u a.last n line a.tokens a.cut d a.lexed k

read_not_refused : (job q u : List ℕ) (n : ℕ) (ys : List Token) (s : Refusal) (p : Program) (g : Tensors) → Reads job p g → IsCut job q u n → AreTokens q 1 ys → Verdict q ys n (Err (Refused s)) → ⊥
read_not_refused job q u n ys s p g a d k w = not_accepted job a.body q a.tensors u a.last n a.tokens ys a.stands.0 s a.cut d a.lexed k a.stands.1 w

read_not_misread : (job q u : List ℕ) (n : ℕ) (s : Refusal) (p : Program) (g : Tensors) → Reads job p g → IsCut job q u n → ReadsTensors u (n + 1) (Err (Refused s)) → ⊥
read_not_misread job q u n s p g a d w = read_or_refused a.tensors (a.last + 1) g s a.read (same_tensors job a.body q a.tensors u a.last n s a.cut d w)

pub one_breach : (job : List ℕ) (rule other : Rule) (line place : ℕ) → Breaks job rule line → Breaks job other place → (rule ≡ other) × (line ≡ place)
one_breach job rule other line place (Breaks.endless h) (Breaks.endless k) = (refl, refl)
one_breach job rule other line place (Breaks.endless h) (Breaks.no_token p t m at c k) = absurd (no_end job p t m h c)
one_breach job rule other line place (Breaks.endless h) (Breaks.no_program p t m xs r c k v) = absurd (no_end job p t m h c)
one_breach job rule other line place (Breaks.endless h) (Breaks.no_tensors p t m xs trees r c k a v) = absurd (no_end job p t m h c)
one_breach job rule other line place (Breaks.no_token p t m at c h) (Breaks.endless k) = absurd (no_end job p t m k c)
one_breach job rule other line place (Breaks.no_program p t m xs r c h v) (Breaks.endless k) = absurd (no_end job p t m k c)
one_breach job rule other line place (Breaks.no_tensors p t m xs trees r c h a v) (Breaks.endless k) = absurd (no_end job p t m k c)
one_breach job rule other line place (Breaks.no_token p t m at c h) (Breaks.no_token q u n there d k) =
    (refl, one_break p 1 0 at there h (subst (λ x. BreaksAt x 1 there) (sym (same_cut job p q t u m n c d).0) k))
one_breach job rule other line place (Breaks.no_token p t m at c h) (Breaks.no_program q u n xs r d k v) = absurd (not_lexed job q p u t n m at xs d c k h)
one_breach job rule other line place (Breaks.no_token p t m at c h) (Breaks.no_tensors q u n xs trees r d k a v) = absurd (not_lexed job q p u t n m at xs d c k h)
one_breach job rule other line place (Breaks.no_program p t m xs r c h v) (Breaks.no_token q u n there d k) = absurd (not_lexed job p q t u m n there xs c d h k)
one_breach job rule other line place (Breaks.no_tensors p t m xs trees r c h a v) (Breaks.no_token q u n there d k) = absurd (not_lexed job p q t u m n there xs c d h k)
one_breach job rule other line place (Breaks.no_program p t m xs r c h v) (Breaks.no_program q u n ys s d k w) =
    let same : r ≡ s = one_refusal p xs m r s v (same_verdict job p q t u m n xs ys s c d h k w) in
    (ap (λ x. x.rule) same, ap (λ x. x.line) same)
one_breach job rule other line place (Breaks.no_program p t m xs r c h v) (Breaks.no_tensors q u n ys trees s d k a w) = absurd (not_accepted job q p u t n m ys xs trees r d c k h a v)
one_breach job rule other line place (Breaks.no_tensors p t m xs trees r c h a v) (Breaks.no_program q u n ys s d k w) = absurd (not_accepted job p q t u m n xs ys trees s c d h k a w)
one_breach job rule other line place (Breaks.no_tensors p t m xs trees r c h a v) (Breaks.no_tensors q u n ys others s d k b w) =
    let same : r ≡ s = one_tensor_refusal t (m + 1) r s v (same_tensors job p q t u m n s c d w) in
    (ap (λ x. x.rule) same, ap (λ x. x.line) same)
one_breach job rule other line place (Breaks.endless h) (Breaks.no_job p g r a b) = absurd (read_not_endless job p g a h)
one_breach job rule other line place (Breaks.no_token q u n at d k) (Breaks.no_job p g r a b) = absurd (read_not_lexed job q u n at p g a d k)
one_breach job rule other line place (Breaks.no_program q u n ys s d k w) (Breaks.no_job p g r a b) = absurd (read_not_refused job q u n ys s p g a d k w)
one_breach job rule other line place (Breaks.no_tensors q u n ys trees s d k c w) (Breaks.no_job p g r a b) = absurd (read_not_misread job q u n s p g a d w)
one_breach job rule other line place (Breaks.no_job p g r a b) (Breaks.endless h) = absurd (read_not_endless job p g a h)
one_breach job rule other line place (Breaks.no_job p g r a b) (Breaks.no_token q u n at d k) = absurd (read_not_lexed job q u n at p g a d k)
one_breach job rule other line place (Breaks.no_job p g r a b) (Breaks.no_program q u n ys s d k w) = absurd (read_not_refused job q u n ys s p g a d k w)
one_breach job rule other line place (Breaks.no_job p g r a b) (Breaks.no_tensors q u n ys trees s d k c w) = absurd (read_not_misread job q u n s p g a d w)
one_breach job rule other line place (Breaks.no_job p g r a b) (Breaks.no_job q h s d e) =
    let same : r ≡ s = one_later_breach p g r s b (same_later job p q g h s a d e) in
    let tokens = same_tokens job a.body d.body a.tensors d.tensors a.last d.last a.tokens d.tokens a.cut d.cut a.lexed d.lexed in
    let told_same : told a.tokens r ≡ told d.tokens s = ap (told a.tokens) same ∙ ap (λ ts. told ts s) tokens in
    (ap (λ x. x.rule) told_same, ap (λ x. x.line) told_same)

pub accepted_or_not : (job : List ℕ) (rule : Rule) (line : ℕ) → Accepts job → Breaks job rule line → ⊥
accepted_or_not job rule line (j, (p, g, a, is)) (Breaks.endless h) = read_not_endless job p g a h
accepted_or_not job rule line (j, (p, g, a, is)) (Breaks.no_token q u n at d k) = read_not_lexed job q u n at p g a d k
accepted_or_not job rule line (j, (p, g, a, is)) (Breaks.no_program q u n ys s d k w) = read_not_refused job q u n ys s p g a d k w
accepted_or_not job rule line (j, (p, g, a, is)) (Breaks.no_tensors q u n ys trees s d k c w) = read_not_misread job q u n s p g a d w
accepted_or_not job rule line (j, (p, g, a, is)) (Breaks.no_job q h r b breaks) = is_job_or_broken p g j r is (same_later job p q g h r a b breaks)

-- ---- an accepted text is that of one job

abbrev made : (program : Program) (dims : Dims) (ways : Ways) → FitHeaders program.headers dims → Checked
made program dims ways fits = record { program = program; dims = dims; ways = ways; fits = fits }

same_checked : (a b : Checked) → a.program ≡ b.program → a.dims ≡ b.dims → a.ways ≡ b.ways → a ≡ b
same_checked a b p d w =
    let base : (q : FitHeaders a.program.headers a.dims) → a ≡ made a.program a.dims a.ways q = λ q. ap (made a.program a.dims a.ways) (FitHeaders-prop a.program.headers a.dims a.fits q) in
    let program = subst (λ x. (q : FitHeaders x.headers a.dims) → a ≡ made x a.dims a.ways q) p base in
    let dims = subst (λ x. (q : FitHeaders b.program.headers x) → a ≡ made b.program x a.ways q) d program in
    subst (λ x. (q : FitHeaders b.program.headers b.dims) → a ≡ made b.program b.dims x q) w dims b.fits

abbrev job_with : (checked : Checked) (inputs : List Storage) → IsTrue (are_worded inputs) → Job
job_with checked inputs worded = record { checked = checked; inputs = inputs; worded = worded }

worded_prop : (inputs : List Storage) → IsProp (IsTrue (are_worded inputs))
worded_prop inputs = hlevel props

same_job : (j k : Job) → j.checked ≡ k.checked → j.inputs ≡ k.inputs → j ≡ k
same_job j k c i =
    let base : (q : IsTrue (are_worded j.inputs)) → j ≡ job_with j.checked j.inputs q = λ q. ap (job_with j.checked j.inputs) (worded_prop j.inputs j.worded q) in
    let checked = subst (λ (x : Checked). (q : IsTrue (are_worded j.inputs)) → j ≡ job_with x j.inputs q) c base in
    subst (λ (x : List Storage). (q : IsTrue (are_worded x)) → j ≡ job_with k.checked x q) i checked k.worded

one_job_of : (p : Program) (g : Tensors) (j k : Job) → IsJobOf p g j → IsJobOf p g k → j ≡ k
one_job_of p g j k h l =
    let whole = same_whole p j.checked.program k.checked.program h.completed l.completed in
    let extents = subst (λ x. IsInferred x (shapes_of p.headers g) k.checked.dims) (sym whole) l.kept.extents in
    let dims = one_inferred j.checked.program (shapes_of p.headers g) j.checked.dims k.checked.dims h.kept.extents extents in
    same_job j k (same_checked j.checked k.checked whole dims (h.ways ∙ ap ways_in whole ∙ sym l.ways)) (h.inputs ∙ sym l.inputs)

pub one_job : (text : List ℕ) (j k : Job) → IsJob text j → IsJob text k → j ≡ k
one_job text j k (p, g, a, h) (q, f, b, l) =
    let there : IsJobOf p f k = subst (λ x. IsJobOf x f k) (sym (same_program_read text p q g f a b)) l in
    one_job_of p g j k h (subst (λ x. IsJobOf p x k) (sym (same_tensors_read text p q g f a b)) there)
