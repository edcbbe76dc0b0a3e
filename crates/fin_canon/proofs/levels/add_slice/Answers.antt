use Rattle.std.proofs.Common.{◌≡◌, ◌-◌, sym, subst, arith}
use Rattle.fin_tensor.specs.declared.format.Level.{Level}
use Rattle.fin_canon.specs.Ranges.{Added}
use Rattle.fin_canon.proofs.Making.{dense_all, dict_by}
use Rattle.fin_canon.proofs.levels.add_slice.Goals as goal

pub returns-in_ok-add_cuts-in-Dense : goal.returns-in_ok-add_cuts-in-Dense
returns-in_ok-add_cuts-in-Dense c =
    let e : c.args.extent - 0 ≡ c.args.extent = omega arith in
    subst (λ (l : Level). Added l c.args.entries.now c.args.format.now.fill c.args.depth c.args.extent c.args.slice.from c.args.slice.to c.args.numbers.now c.args.numbers.now c.args.next.now c.add_cuts.new.next) (sym c.in-Dense.is)
    (dense_all c.args.entries.now c.args.format.now.fill c.args.depth c.args.extent c.args.slice.from c.args.slice.to (c.args.extent - 0) c.args.numbers.now c.args.next.now c.add_cuts.new.next e c.in_ok-add_cuts-in-Dense.ensures)

pub returns-in_ok-add_groups-in-Dict : goal.returns-in_ok-add_groups-in-Dict
returns-in_ok-add_groups-in-Dict c =
    subst (λ (l : Level). Added l c.args.entries.now c.args.format.now.fill c.args.depth c.args.extent c.args.slice.from c.args.slice.to c.args.numbers.now c.add_groups-in-Dict.new.idx c.args.next.now c.add_groups-in-Dict.new.next) (sym c.in-Dict.is)
    (dict_by c.args.entries.now c.args.format.now.fill c.args.depth c.args.extent c.args.slice.from c.args.slice.to c.args.numbers.now c.add_groups-in-Dict.new.idx c.args.next.now c.add_groups-in-Dict.new.next (c.in_ok-add_groups-in-Dict.ensures c.args.extent))
