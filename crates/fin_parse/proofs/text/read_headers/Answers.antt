use Rattle.std.proofs.Common.{rules, ◌≡◌, ◌<◌, ◌≤◌, ◌+◌, refl, length, length-append, true, Err, [], ◌∷◌, ◌++◌, sym, subst, arith}
use Rattle.fin_parse.specs.declared.grammar.Phrase.TheVariants.{Header}
use Rattle.fin_parse.specs.Choices.{begins}
use Rattle.fin_parse.specs.Syntax.{signs, look}
use Rattle.fin_parse.specs.Reading.{Along}
use Rattle.fin_parse.specs.Text.{Headers, HeadersRead, HeadersFrom, goes_on_headers}
use Rattle.fin_parse.proofs.Symbols.{phrase_takes}
use Rattle.fin_parse.proofs.TextForms.{headers_more, headers_fail}
use Rattle.fin_parse.proofs.text.read_headers.Goals as goal

pub returns-in_err-header : goal.returns-in_err-header
returns-in_err-header c =
    let k = c.args.room in let old = c.args.cursor.now in let mid = c.each.cursor in let new = c.read_phrase.new.cursor in
    let goes : begins Header (look (signs mid)) ≡ true = search rules in
    let fewer : length c.each.headers < k.headers = omega arith in
    let f = c.in_err-header.field-0.0 in
    let is : c.from_residual.result ≡ Err f = search rules in
    record {
      outcome = subst (λ q. HeadersRead k old new q) (sym is)
          (headers_fail k old mid new c.each.headers f fewer c.each.invariant.along goes c.in_err-header.ensures.outcome);
    }

pub each-smaller : goal.each-smaller
each-smaller c = phrase_takes c.args.room Header c.each.cursor c.read_phrase.new.cursor c.in_ok-header.header refl c.in_ok-header.ensures.outcome

pub each-preserved : goal.each-preserved
each-preserved c =
    let k = c.args.room in let old = c.args.cursor.now in let mid = c.each.cursor in let new = c.read_phrase.new.cursor in
    let goes : begins Header (look (signs mid)) ≡ true = search rules in
    let fewer : length c.each.headers < k.headers = omega arith in
    let u = c.in_ok-header.header in
    let pushed : c.push.new.self ≡ c.each.headers ++ u ∷ [] = search rules in
    let l : length (c.each.headers ++ u ∷ []) ≡ length c.each.headers + length (u ∷ []) = length-append c.each.headers (u ∷ []) in
    record {
      along = subst (λ q. Along Headers k goes_on_headers old new (HeadersFrom q)) (sym pushed) (headers_more k old mid new c.each.headers u c.each.invariant.along goes c.in_ok-header.ensures.outcome);
      few = subst (λ q. length q ≤ k.headers) (sym pushed) (omega arith);
    }
