-- A whole accepted program has what a lowering has to know of statements.
use Rattle.std.proofs.Common.{◌≡◌, ◌+◌, ◌≤◌, [], length, ap, arith}
use Rattle.fin_ast.specs.declared.checked.Dims.{Dims}
use Rattle.fin_ast.specs.Bindings.{bindings_of_all}
use Rattle.fin_ast.specs.Infer.{places_in}
use Rattle.fin_ast.specs.Sizes.{first_of, large_in_header, large_in_place, ranges_of}
use Rattle.fin_ast.proofs.Unbroken.{second_none}
use Rattle.fin_stage.proofs.Ranges.{ranges_count}
use Rattle.fin_simp.specs.Numbered.{outset}
use Rattle.fin_simp.specs.Staying.{AcceptedStay}
use Rattle.fin_perform.specs.Layouts.{variables_in}
use Rattle.fin_loops.specs.Sources.{ProgramsAreSources}
use Rattle.fin_loops.proofs.SourcesSmall.{body_near}

pub programs_are_sources : AcceptedStay → ProgramsAreSources
programs_are_sources stay c accepted =
    let p = c.program in
    let ranges : c.dims.ranges ≡ ranges_of accepted.extents.extent (places_in p) = ap (λ (d : Dims). d.ranges) accepted.extents.numbers in
    let enough : 0 + length (bindings_of_all p.body) ≤ variables_in c = omega (arith, ap length ranges, ranges_count accepted.extents.extent p.body) in
    let none = second_none (first_of large_in_header p.headers) (first_of large_in_place (places_in p)) accepted.extents.small in
    record {
      worded = p.worded;
      counts = p.numbered;
      within = enough;
      stay = λ inputs. stay c inputs accepted;
      small = (body_near p.body [] outset none).1;
    }
