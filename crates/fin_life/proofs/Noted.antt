-- What is noted of a statement is what its text contains.
use Rattle.std.proofs.Common.{◌≡◌, ℕ, [], ◌∷◌, refl, ap, sym, ◌∙◌, subst, Bool, true, false, not, ◌&&◌, ◌||◌, ◌==◌, if◌then◌else◌}
use Rattle.std.specs.List.{list_any}
use Rattle.fin_ast.specs.declared.tree.Expr.{Expr, ind-Expr, map-Expr, roll-Expr, fold-roll-Expr}
use Rattle.fin_ast.specs.declared.tree.Expr.TheOpen.{Expr-F}
use Rattle.fin_ast.specs.Text.{Mark, Opens, Closes, Reads, Updates, Declares, Freezes, Thaws, Text, Writing, expr_text, text_of_expr}
use Rattle.fin_ast.specs.Insertion.{reads, updates, leads, only_reads, only_updates}
use Rattle.fin_life.specs.declared.mentions.Mention.{Mention}
use Rattle.fin_life.specs.declared.mentions.Mention.TheVariants.{Nothing, Reads as ReadsAlone, Updates as UpdatesAlone, Other}
use Rattle.fin_life.specs.Mentions.{joined, only_reads_of, only_updates_of, MentionOf, Noting, expr_note, note_of_expr}

abbrev pub mention_by : ℕ → Mark → Mention → Mention
mention_by t (Reads u line) before = if u == t then joined ReadsAlone before else before
mention_by t (Updates u at line) before = if u == t then joined UpdatesAlone before else before
mention_by t (Declares u line) before = if u == t then joined Other before else before
mention_by t (Freezes u line) before = if u == t then joined Other before else before
mention_by t (Thaws u line) before = if u == t then joined Other before else before
mention_by t (Opens var) before = before
mention_by t (Closes line) before = before

abbrev pub mentioned : Text → MentionOf
mentioned [] t = Nothing
mentioned (m ∷ b) t = mention_by t m (mentioned b t)

-- by the three tests: a read, an update, another
summary : Bool → Bool → Bool → Mention
summary r u true = Other
summary true true false = Other
summary true false false = ReadsAlone
summary false true false = UpdatesAlone
summary false false false = Nothing

after_read : (hit r u o : Bool) → (if hit then joined ReadsAlone (summary r u o) else summary r u o) ≡ summary (hit || r) u o
unfolding summary
after_read false r u o = refl
after_read true true true true = refl
after_read true true true false = refl
after_read true true false true = refl
after_read true true false false = refl
after_read true false true true = refl
after_read true false true false = refl
after_read true false false true = refl
after_read true false false false = refl

after_update : (hit r u o : Bool) → (if hit then joined UpdatesAlone (summary r u o) else summary r u o) ≡ summary r (hit || u) o
unfolding summary
after_update false r u o = refl
after_update true true true true = refl
after_update true true true false = refl
after_update true true false true = refl
after_update true true false false = refl
after_update true false true true = refl
after_update true false true false = refl
after_update true false false true = refl
after_update true false false false = refl

after_other : (hit r u o : Bool) → (if hit then joined Other (summary r u o) else summary r u o) ≡ summary r u (hit || o)
unfolding summary
after_other false r u o = refl
after_other true r u o = refl

summed : (t : ℕ) (b : Text) → mentioned b t ≡ summary (list_any (reads t) b) (list_any (updates t) b) (list_any (leads t) b)
unfolding summary
summed t [] = refl
summed t (Opens var ∷ b) = summed t b
summed t (Closes line ∷ b) = summed t b
summed t (Reads u line ∷ b) = ap (mention_by t (Reads u line)) (summed t b) ∙ after_read (u == t) (list_any (reads t) b) (list_any (updates t) b) (list_any (leads t) b)
summed t (Updates u at line ∷ b) = ap (mention_by t (Updates u at line)) (summed t b) ∙ after_update (u == t) (list_any (reads t) b) (list_any (updates t) b) (list_any (leads t) b)
summed t (Declares u line ∷ b) = ap (mention_by t (Declares u line)) (summed t b) ∙ after_other (u == t) (list_any (reads t) b) (list_any (updates t) b) (list_any (leads t) b)
summed t (Freezes u line ∷ b) = ap (mention_by t (Freezes u line)) (summed t b) ∙ after_other (u == t) (list_any (reads t) b) (list_any (updates t) b) (list_any (leads t) b)
summed t (Thaws u line ∷ b) = ap (mention_by t (Thaws u line)) (summed t b) ∙ after_other (u == t) (list_any (reads t) b) (list_any (updates t) b) (list_any (leads t) b)

reads_by : (r u o : Bool) → only_reads_of (summary r u o) ≡ (r && not u && not o)
unfolding summary
reads_by true true true = refl
reads_by true true false = refl
reads_by true false true = refl
reads_by true false false = refl
reads_by false true true = refl
reads_by false true false = refl
reads_by false false true = refl
reads_by false false false = refl

updates_by : (r u o : Bool) → only_updates_of (summary r u o) ≡ (u && not r && not o)
unfolding summary
updates_by true true true = refl
updates_by true true false = refl
updates_by true false true = refl
updates_by true false false = refl
updates_by false true true = refl
updates_by false true false = refl
updates_by false false true = refl
updates_by false false false = refl

pub only_reads_is : (t : ℕ) (b : Text) → only_reads_of (mentioned b t) ≡ only_reads t b
only_reads_is t b = ap only_reads_of (summed t b) ∙ reads_by (list_any (reads t) b) (list_any (updates t) b) (list_any (leads t) b)

pub only_updates_is : (t : ℕ) (b : Text) → only_updates_of (mentioned b t) ≡ only_updates t b
only_updates_is t b = ap only_updates_of (summed t b) ∙ updates_by (list_any (reads t) b) (list_any (updates t) b) (list_any (leads t) b)

abbrev pub IsNoted : Noting → Writing → Type 0
IsNoted note w = (b : Text) → note (mentioned b) ≡ mentioned (w b)

abbrev Known : Type 0
Known = (e : Expr) × IsNoted (note_of_expr e) (text_of_expr e)

step_noted : (y : Expr-F Known) → IsNoted (expr_note (map-Expr Expr Noting note_of_expr (map-Expr Known Expr (λ k. k.0) y))) (expr_text (map-Expr Expr Writing text_of_expr (map-Expr Known Expr (λ k. k.0) y)))
step_noted (Expr-F.Num z) b = refl
step_noted (Expr-F.Var var line) b = refl
step_noted (Expr-F.Read tensor at line) b = refl
step_noted (Expr-F.Neg k) b = k.1 b
step_noted (Expr-F.Two op k l) b = ap (note_of_expr l.0) (k.1 b) ∙ l.1 (text_of_expr k.0 b)

pub expr_noted : (e : Expr) → IsNoted (note_of_expr e) (text_of_expr e)
expr_noted = ind-Expr (λ e. IsNoted (note_of_expr e) (text_of_expr e)) (λ z y is.
    subst (λ (w : Writing). IsNoted (note_of_expr (roll-Expr z)) w) (ap (λ (u : Expr-F Expr). expr_text (map-Expr Expr Writing text_of_expr u)) is ∙ sym (fold-roll-Expr Writing expr_text z))
    (subst (λ (n : Noting). IsNoted n (expr_text (map-Expr Expr Writing text_of_expr (map-Expr Known Expr (λ k. k.0) y)))) (ap (λ (u : Expr-F Expr). expr_note (map-Expr Expr Noting note_of_expr u)) is ∙ sym (fold-roll-Expr Noting expr_note z)) (step_noted y)))
