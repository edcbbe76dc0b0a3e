use Rattle.std.proofs.Common.{◌∙◌, ap, sym, List}
use Rattle.std.proofs.lemmas.Result.{on_ok_weaker}
use Rattle.fin_ast.specs.declared.tree.Stmt.{Stmt}
use Rattle.fin_life.specs.Mentions.{mention_in}
use Rattle.fin_life.specs.Completing.{Completing, noted_in, stmt_completing, completing_of, completings_of}
use Rattle.fin_life.proofs.Equations.{at-Block, at-Loop, at-Cond, at-Bind}
use Rattle.fin_life.proofs.mentions.Mentions.+noted.Goals as goal

pub note_statement-returns-in-Block : goal.note_statement-returns-in-Block
note_statement-returns-in-Block t c = on_ok_weaker c.note_all.result (λ noted headers.
    noted headers
    ∙ ap (λ (ss : List Stmt). noted_in (completings_of headers ss) (mention_in c.args.self.now)) c.as_slice.ensures
    ∙ sym (ap (λ (k : Completing). k.note (mention_in c.args.self.now)) (at-Block Completing (stmt_completing headers) c.in-Block.body c.in-Block.line c.in-Block.last))
    ∙ ap (λ (x : Stmt). (completing_of headers x).note (mention_in c.args.self.now)) (sym c.in-Block.is)) c.note_all.ensures

pub note_statement-returns-in-Loop : goal.note_statement-returns-in-Loop
note_statement-returns-in-Loop t c = on_ok_weaker c.note_all-in-Loop.result (λ noted headers.
    noted headers
    ∙ ap (λ (ss : List Stmt). noted_in (completings_of headers ss) (mention_in c.args.self.now)) c.as_slice-in-Loop.ensures
    ∙ sym (ap (λ (k : Completing). k.note (mention_in c.args.self.now)) (at-Loop Completing (stmt_completing headers) c.in-Loop.var c.in-Loop.range c.in-Loop.par c.in-Loop.body c.in-Loop.line c.in-Loop.last))
    ∙ ap (λ (x : Stmt). (completing_of headers x).note (mention_in c.args.self.now)) (sym c.in-Loop.is)) c.note_all-in-Loop.ensures

pub note_statement-returns-in_ok-note_expr-in-Cond : goal.note_statement-returns-in_ok-note_expr-in-Cond
note_statement-returns-in_ok-note_expr-in-Cond t c = on_ok_weaker c.note_all-in-Cond.result (λ noted headers.
    noted headers
    ∙ ap (λ (ss : List Stmt). noted_in (completings_of headers ss) (mention_in c.note_expr.new.self)) c.as_slice-in-Cond.ensures
    ∙ ap (noted_in (completings_of headers c.in-Cond.body)) c.in_ok-note_expr-in-Cond.ensures
    ∙ sym (ap (λ (k : Completing). k.note (mention_in c.args.self.now)) (at-Cond Completing (stmt_completing headers) c.in-Cond.test c.in-Cond.body c.in-Cond.line c.in-Cond.last))
    ∙ ap (λ (x : Stmt). (completing_of headers x).note (mention_in c.args.self.now)) (sym c.in-Cond.is)) c.note_all-in-Cond.ensures

pub note_statement-returns-in_ok-note_expr-in-Bind : goal.note_statement-returns-in_ok-note_expr-in-Bind
note_statement-returns-in_ok-note_expr-in-Bind t c = on_ok_weaker c.note_all-in-Bind.result (λ noted headers.
    noted headers
    ∙ ap (λ (ss : List Stmt). noted_in (completings_of headers ss) (mention_in c.note_expr-in-Bind.new.self)) c.as_slice-in-Bind.ensures
    ∙ ap (noted_in (completings_of headers c.in-Bind.body)) c.in_ok-note_expr-in-Bind.ensures
    ∙ sym (ap (λ (k : Completing). k.note (mention_in c.args.self.now)) (at-Bind Completing (stmt_completing headers) c.in-Bind.var c.in-Bind.value c.in-Bind.body c.in-Bind.line c.in-Bind.last))
    ∙ ap (λ (x : Stmt). (completing_of headers x).note (mention_in c.args.self.now)) (sym c.in-Bind.is)) c.note_all-in-Bind.ensures
