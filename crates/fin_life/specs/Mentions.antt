-- What statements do with each tensor, noted one after another.
use Rattle.std.specs.Prelude.{ℕ, Bool, true, false, ◌==◌, if◌then◌else◌, slice_index_or}
use Rattle.fin_ast.specs.declared.tree.Expr.{Expr, fold-Expr}
use Rattle.fin_ast.specs.declared.tree.Expr.TheOpen.{Expr-F}
use Rattle.fin_life.specs.declared.mentions.Mention.{Mention}
use Rattle.fin_life.specs.declared.mentions.Mention.TheVariants.{Nothing, Reads, Updates, Other}
use Rattle.fin_life.specs.declared.mentions.Mentions.{Mentions}

abbrev pub joined : Mention → Mention → Mention
joined Nothing before = before
joined Reads Nothing = Reads
joined Reads Reads = Reads
joined Reads Updates = Other
joined Reads Other = Other
joined Updates Nothing = Updates
joined Updates Reads = Other
joined Updates Updates = Updates
joined Updates Other = Other
joined Other before = Other

abbrev pub only_reads_of : Mention → Bool
only_reads_of Nothing = false
only_reads_of Reads = true
only_reads_of Updates = false
only_reads_of Other = false

abbrev pub only_updates_of : Mention → Bool
only_updates_of Nothing = false
only_updates_of Reads = false
only_updates_of Updates = true
only_updates_of Other = false

abbrev pub MentionOf : Type 0
MentionOf = ℕ → Mention

abbrev pub mention_in : Mentions → MentionOf
mention_in mentions tensor = slice_index_or mentions.of tensor Nothing

abbrev pub noted : MentionOf → ℕ → Mention → MentionOf
noted before tensor mention t = if tensor == t then joined mention (before t) else before t

abbrev pub Noting : Type 0
Noting = MentionOf → MentionOf

abbrev pub expr_note : Expr-F Noting → Noting
expr_note (Expr-F.Num n) before = before
expr_note (Expr-F.Var var line) before = before
expr_note (Expr-F.Read tensor at line) before = noted before tensor Reads
expr_note (Expr-F.Neg inner) before = inner before
expr_note (Expr-F.Two op left right) before = right (left before)

abbrev pub note_of_expr : Expr → Noting
note_of_expr = fold-Expr Noting expr_note
