use Rattle.std.proofs.Common.{◌≡◌, map, drop}
use Rattle.fin_parse.specs.TextForms.{format_breaches, known_fills}
use Rattle.fin_parse.specs.Leaves.{header_of}
use Rattle.fin_parse.specs.Names.{first_of}
use Rattle.fin_parse.proofs.text_forms.check_formats.Given as goal

abbrev pub invariant-loop-header : goal.invariant-loop-header
invariant-loop-header l = record {
  first : first_of (format_breaches (drop l.header-index (map header_of l.headers))) ≡ first_of (format_breaches (map header_of l.headers));
  fills : known_fills l.known.items (drop l.header-index (map header_of l.headers)) ≡ known_fills l.fn.known.items (map header_of l.headers);
}
