use Rattle.std.proofs.Common.{ℕ, List, ap, ◌∙◌}
use Rattle.std.specs.List.{list_any}
use Rattle.fin_ast.specs.declared.tree.Index.{Index}
use Rattle.fin_simp.specs.Work.{is_in, names_var}
use Rattle.fin_stmts.proofs.Varying.{names_decide, reads_decide}
use Rattle.fin_stmts.proofs.fixed.is_fixed.Goals as goal

pub returns-then-name_var : goal.returns-then-name_var
returns-then-name_var c =
    names_decide c.args.var c.args.drives.now c.args.nest.now c.args.rest.now c.requires c.name_var.result _ c.as_slice-2.ensures c.name_var.ensures c.if-name_var.true

pub returns : goal.returns
returns c =
    let var = c.args.var in
    reads_decide var c.args.drives.now c.args.nest.now c.args.rest.now c.requires c.is_one_update.result c.has_var.result c.name_var.result c.some_vary.result
    c.is_one_update.ensures c.if-not-is_one_update.false (c.has_var.ensures ∙ ap (λ (vs : List ℕ). is_in vs var) c.as_slice.ensures) c.if-has_var.false
    (c.name_var.ensures ∙ ap (λ (is : List Index). list_any (names_var var) is) c.as_slice-2.ensures) c.if-name_var.false _ _ c.as_slice-3.ensures c.as_slice-4.ensures c.some_vary.ensures
