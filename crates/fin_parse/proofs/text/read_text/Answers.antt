use Rattle.std.proofs.Common.{rules, ◌≡◌, true, false, Err, sym, subst}
use Rattle.fin_parse.specs.declared.class.Class.TheVariants as class
use Rattle.fin_parse.specs.declared.grammar.Phrase.TheVariants.{Header}
use Rattle.fin_parse.specs.Choices.{begins}
use Rattle.fin_parse.specs.Syntax.{signs, look}
use Rattle.fin_parse.specs.Text.{TextRead}
use Rattle.fin_parse.proofs.Classes.{ended}
use Rattle.fin_parse.proofs.TextForms.{headers_fail_text, stmts_fail_text, crowded_text, text_ended, text_goes_on}
use Rattle.fin_parse.proofs.text.read_text.Goals as goal

pub returns-in_err-headers : goal.returns-in_err-headers
returns-in_err-headers c =
    let f = c.in_err-headers.field-0.0 in let old = c.args.cursor.now in let new = c.read_headers.new.cursor in
    let is : c.from_residual.result ≡ Err f = search rules in
    record { outcome = subst (λ q. TextRead c.args.room old new q) (sym is) (headers_fail_text c.args.room old new f c.in_err-headers.ensures.outcome) }

pub returns-then-is_some : goal.returns-then-is_some
returns-then-is_some c =
    let goes : begins Header (look (signs c.read_headers.new.cursor)) ≡ true = search rules in
    record { outcome = crowded_text c.args.room c.args.cursor.now c.read_headers.new.cursor c.in_ok-headers.headers c.in_ok-headers.ensures.outcome goes }

pub returns-in_err-body : goal.returns-in_err-body
returns-in_err-body c =
    let f = c.in_err-body.field-0.0 in let old = c.args.cursor.now in let mid = c.read_headers.new.cursor in let new = c.read_many.new.cursor in
    let ends : begins Header (look (signs mid)) ≡ false = search rules in
    let is : c.from_residual-in_err-body.result ≡ Err f = search rules in
    record { outcome = subst (λ q. TextRead c.args.room old new q) (sym is) (stmts_fail_text c.args.room old mid new c.in_ok-headers.headers f c.in_ok-headers.ensures.outcome ends c.in_err-body.ensures.outcome) }

pub returns-then-ne : goal.returns-then-ne
returns-then-ne c =
    let mid = c.read_headers.new.cursor in let new = c.read_many.new.cursor in
    let ends : begins Header (look (signs mid)) ≡ false = search rules in
    let goes : look (signs new) ≡ class.End → ⊥ = search rules in
    record { outcome = text_goes_on c.args.room c.args.cursor.now mid new c.in_ok-headers.headers c.in_ok-body.body c.in_ok-headers.ensures.outcome ends c.in_ok-body.ensures.outcome goes }

pub returns : goal.returns
returns c =
    let mid = c.read_headers.new.cursor in let new = c.read_many.new.cursor in
    let ends : begins Header (look (signs mid)) ≡ false = search rules in
    let over : look (signs new) ≡ class.End = search rules in
    record { outcome = text_ended c.args.room c.args.cursor.now mid new c.in_ok-headers.headers c.in_ok-body.body c.in_ok-headers.ensures.outcome ends c.in_ok-body.ensures.outcome (ended new over) }
