use Rattle.std.proofs.Common.{rules, ◌≡◌, ◌∙◌, sym, ap, map}
use Rattle.std.specs.Map.Iter.{deref_pair}
use Rattle.std.specs.FinMap.{entries}
use Rattle.std.specs.Cmp.Lexicographic.{nat_list_cmp_total}
use Rattle.std.proofs.lemmas.Map.Iter.{iter_end}
use Rattle.fin_tensor.specs.TensorFunction.{TensorFunction}
use Rattle.fin_grid.proofs.Maps.{entries_of_sorted}
use Rattle.fin_grid.proofs.grid.Grid.entries.Goals as goal

pub returns : goal.returns
returns c =
    let e : map deref_pair c.loop-coords.yielded ≡ c.self.inside.cells.entries = search (rules, iter_end) in
    c.loop-coords.invariant ∙ e ∙ sym (entries_of_sorted nat_list_cmp_total c.self.inside.cells.entries c.iter-coords-items.ensures.ordered) ∙ ap (λ (f : TensorFunction). entries f.cells) c.self.view_is
