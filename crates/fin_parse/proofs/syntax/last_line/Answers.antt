use Rattle.std.proofs.Common.{◌≡◌, ◌+◌, ◌-◌, length, length-append, slice_index_or, ap, ◌∙◌, arith}
use Rattle.fin_lex.specs.declared.token.Token.{Token}
use Rattle.fin_lex.specs.declared.token.TokenKind.TheVariants.{Name}
use Rattle.fin_parse.proofs.LastLines.{behind_at}
use Rattle.fin_parse.proofs.syntax.last_line.Goals as goal

pub returns : goal.returns
returns c = record {
  value = λ before split.
      let d : Token = record { kind = Name; from = 0; to = 0; line = 0 } in
      let i = c.saturating_sub-taken.result - 1 in
      let l : length c.args.tokens.now ≡ length before + length c.args.cursor.now = ap length split ∙ length-append before c.args.cursor.now in
      ap (λ q. (slice_index_or q i d).line) split ∙ behind_at before c.args.cursor.now 0 i d (omega arith);
}
