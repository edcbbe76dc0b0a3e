use Rattle.std.proofs.Common.{rules, ◌≡◌, ℕ, ◌+◌, [], ◌∷◌, ◌++◌, length, length-append, refl, sym, ap, ◌∙◌, subst, append_assoc, arith}
use Rattle.std.proofs.lemmas.List.{append-nil}
use Rattle.fin_lex.specs.declared.token.Token.{Token}
use Rattle.fin_lex.specs.Tokens.{TokensFrom, ended, blank, token, BreaksFrom, bad, after_blank, after_token}
use Rattle.fin_lex.proofs.Places.{cut_there, lines_after, within_after}
use Rattle.fin_lex.proofs.tokens.lex.Goals as goal

pub returns-in-End : goal.returns-in-End
returns-in-End c =
    let text = c.args.text.now in let at = c.loop-tokens.at in
    record {
      tokens = subst (λ q. TokensFrom text c.args.first_line 0 q) (append-nil c.loop-tokens.tokens.items)
          (c.loop-tokens.invariant.before [] (ended (cut_there text at _ c.in-End.ensures.value)));
      few = omega (arith, c.loop-tokens.invariant.few, c.loop-tokens.invariant.within);
    }

pub loop-tokens-preserved-in-Blank : goal.loop-tokens-preserved-in-Blank
loop-tokens-preserved-in-Blank c =
    let text = c.args.text.now in let at = c.loop-tokens.at in let first = c.args.first_line in
    let e = cut_there text at _ c.in-Blank.ensures.value in record {
      within = within_after text at c.in-Blank.n c.loop-tokens.invariant.within c.in-Blank.ensures.within.1;
      few = omega (arith, c.loop-tokens.invariant.few);
      lines = lines_after text first at c.in-Blank.n c.loop-tokens.line c.newlines.result c.loop-tokens.invariant.lines c.newlines.ensures.count;
      before = λ tokens h. c.loop-tokens.invariant.before tokens (blank e h);
      broken = λ line h. c.loop-tokens.invariant.broken line (after_blank e h);
    }

pub loop-tokens-preserved : goal.loop-tokens-preserved
loop-tokens-preserved c =
    let text = c.args.text.now in let at = c.loop-tokens.at in let first = c.args.first_line in
    let e = cut_there text at _ c.in-Token.ensures.value in
    let t : Token = record { kind = c.in-Token.kind; from = at; to = at + c.in-Token.n; line = c.loop-tokens.line } in
    let pushed : c.append.new.tokens.items ≡ c.loop-tokens.tokens.items ++ t ∷ [] = search rules in
    record {
      within = within_after text at c.in-Token.n c.loop-tokens.invariant.within c.in-Token.ensures.within.1;
      few = omega (arith, c.loop-tokens.invariant.few, c.in-Token.ensures.within.0, ap length pushed, length-append c.loop-tokens.tokens.items (t ∷ []));
      lines = lines_after text first at c.in-Token.n c.loop-tokens.line c.newlines-in-Token.result c.loop-tokens.invariant.lines c.newlines-in-Token.ensures.count;
      before = λ tokens h.
          let w : TokensFrom text first at (t ∷ tokens) = subst (λ (l : ℕ). TokensFrom text first at (record { kind = c.in-Token.kind; from = at; to = at + c.in-Token.n; line = l } ∷ tokens)) (sym c.loop-tokens.invariant.lines) (token e h) in
          subst (λ q. TokensFrom text first 0 q) (sym (append_assoc c.loop-tokens.tokens.items (t ∷ []) tokens) ∙ ap (λ q. q ++ tokens) (sym pushed)) (c.loop-tokens.invariant.before (t ∷ tokens) w);
      broken = λ line h. c.loop-tokens.invariant.broken line (after_token e h);
    }

pub returns-in-Bad : goal.returns-in-Bad
returns-in-Bad c =
    let text = c.args.text.now in let at = c.loop-tokens.at in
    record { few = tt; tokens = (refl, c.loop-tokens.invariant.broken c.loop-tokens.line (subst (λ l. BreaksFrom text c.args.first_line at l) (sym c.loop-tokens.invariant.lines) (bad (cut_there text at _ c.in-Bad.ensures.value)))) }
