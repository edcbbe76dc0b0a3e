use Rattle.std.proofs.Common.{◌≡◌, ◌≢◌, codes, rules, arith}
use Rattle.std.proofs.lemmas.List.{take_rest}
use Rattle.fin_engine.proofs.Cutting.{found, inside_line, next_line}
use Rattle.fin_engine.proofs.cut.cut.Goals as goal

pub returns-then-eq-clause-parts : goal.returns-then-eq-clause-parts
returns-then-eq-clause-parts c =
    let text = c.args.text.now in
    let split = rw (take_rest text c.lines.at) at c.in-Some.ensures.0 in
    let end : c.in-Some.line.now ≡ codes "%%" = search rules in
    found text c.in-Some.line.now c.in-Some.behind.now c.lines.at c.lines.last c.lines.invariant.reached split c.in-Some.ensures.1 end

pub lines-preserved : goal.lines-preserved
lines-preserved c =
    let text = c.args.text.now in
    let line = c.in-Some.line.now in
    let split = rw (take_rest text c.lines.at) at c.in-Some.ensures.0 in
    let other : line ≢ codes "%%" = search rules in
    record {
      within = inside_line text line c.in-Some.behind.now c.lines.at c.lines.invariant.within split;
      small = omega arith;
      reached = next_line text line c.in-Some.behind.now c.lines.at c.lines.last c.lines.invariant.within c.lines.invariant.reached split c.in-Some.ensures.1 other;
    }
