use Rattle.std.proofs.Common.{◌<◌, length, ap, ◌∙◌, arith, w64}
use Rattle.std.proofs.lemmas.Int.{to_z-of_z}
use Rattle.fin_tensor.specs.declared.part.Part.TheVariants.{Dense}
use Rattle.fin_tensor.proofs.Walk.{got}
use Rattle.fin_ir.specs.Loads.{number_at as number_of, table_in}
use Rattle.fin_run.proofs.Loading.{table_small}
use Rattle.fin_run.proofs.loads.cell.Goals as goal

pub number_at-requires : goal.number_at-requires
number_at-requires c =
    let s = c.args.storage.now in
    let lt : c.args.level < length s.parts = omega arith in
    table_small s.format.levels s.shape s.parts s.val s.valid c.args.level lt c.get.result.now c.args.table c.table_of.result.now c.get.ensures c.table_of.ensures

pub returns-then-level-len : goal.returns-then-level-len
returns-then-level-len c =
    to_z-of_z w64 c.number_at.result (record { sfits = c.number_at.type_inv }) ∙ c.number_at.ensures
    ∙ ap (number_of c.table_of.result.now) (to_z-of_z w64 c.args.at c.ranges.at)
    ∙ ap (λ xs. number_of xs c.args.at) (c.table_of.ensures ∙ ap (table_in c.args.table) (got c.args.storage.now.parts c.args.level Dense c.get.result.now c.get.ensures))
