use Rattle.std.proofs.Common.{◌≤◌, length}
use Rattle.fin_parse.specs.Reading.{Along}
use Rattle.fin_parse.specs.Text.{Headers, HeadersFrom, goes_on_headers}
use Rattle.fin_parse.proofs.text.read_headers.Given as goal

abbrev pub invariant-each : goal.invariant-each
invariant-each l = record {
  along : Along Headers l.room goes_on_headers l.fn.cursor l.cursor (HeadersFrom l.headers);
  few : length l.headers ≤ l.room.headers;
}

abbrev pub decreases-each : goal.decreases-each
decreases-each l = length l.cursor
