use Rattle.std.proofs.Common.{◌≡◌, ◌≤◌, ◌-◌, ◌^◌, drop}
use Rattle.fin_ast.specs.Dense.{run_all, braced, repeated}
use Rattle.fin_dense.specs.Runs.{setting_in, state_of}
use Rattle.fin_dense.proofs.run.+run.Given as goal

abbrev pub invariant-each-loop-statement : goal.invariant-each-loop-statement
invariant-each-loop-statement l = record {
  within : l.run.turns ≤ 2 ^ 24;
  vars : l.run.vars.items ≡ l.fn.run.vars.items;
  rest : run_all (setting_in l.setting) (drop l.statement-index l.body) l.fn.run.vars.items (state_of l.run) ≡ run_all (setting_in l.setting) l.body l.fn.run.vars.items (state_of l.fn.run);
}

abbrev pub invariant-looped-loop-i : goal.invariant-looped-loop-i
invariant-looped-loop-i l = record {
  within : l.run.turns ≤ 2 ^ 24;
  vars : l.run.vars.items ≡ l.fn.run.vars.items;
  rest : repeated (l.hi - l.i) l.i l.var (braced (run_all (setting_in l.setting) l.body)) l.fn.run.vars.items (state_of l.run) ≡ repeated (l.hi - l.lo) l.lo l.var (braced (run_all (setting_in l.setting) l.body)) l.fn.run.vars.items (state_of l.fn.run);
}
