-- What each kind of code does.
use Rattle.std.proofs.Common.{◌≡◌, ℕ, List, [], ◌∷◌, map, refl, sym, ap, ◌∙◌}
use Rattle.std.specs.Prelude.{if◌then◌else◌}
use Rattle.fin_base.specs.declared.reduce.Reduce.{Reduce}
use Rattle.fin_base.specs.declared.terms.Updated.{Updated}
use Rattle.fin_ir.specs.declared.expression.IExpr.{IExpr}
use Rattle.fin_ir.specs.declared.code.Code.{Code, para-roll-Code, map-Code, roll-Code}
use Rattle.fin_ir.specs.declared.code.Code.TheOpen.{Code-F}
use Rattle.fin_ir.specs.declared.code.Code.TheVariants as c
use Rattle.fin_ir.specs.declared.layout.Layout.{Layout}
use Rattle.fin_ir.specs.Machine.{Machine, assign, charge, update, declare, freeze, thaw}
use Rattle.fin_ir.specs.Value.{value_in, is_off}
use Rattle.fin_ir.specs.Declares.{declares}
use Rattle.fin_ir.specs.Meaning.{Action, in_turn, step_loop, for_loop, par_loop, meaning_step, meaning, meaning_all}

module _ (layout : Layout) where
  -- code beside what it does
  abbrev pub beside : Code → Code × Action
  beside x = (x, meaning layout x)

  pub meaning_node : (d : Code-F Code) (m : Machine) → meaning layout (roll-Code d) m ≡ meaning_step layout (map-Code Code (Code × Action) beside d) m
  meaning_node d m = ap (λ (f : Action). f m) (para-roll-Code Action (meaning_step layout) d)

  -- what one node does, under the name that the program gives it
  named : (x : Code) (d : Code-F Code) → roll-Code d ≡ x → (m : Machine) → meaning layout x m ≡ meaning_step layout (map-Code Code (Code × Action) beside d) m
  named x d e m = ap (λ (y : Code). meaning layout y m) (sym e) ∙ meaning_node d m

  pub all_in_turn : (all : List Code) (m : Machine) → in_turn (map (λ (p : Code × Action). p.1) (map beside all)) m ≡ meaning_all layout all m
  all_in_turn [] m = refl
  all_in_turn (x ∷ xs) m = all_in_turn xs (meaning layout x m)

  pub meaning_skip : (m : Machine) → meaning layout c.Skip m ≡ m
  meaning_skip m = named c.Skip Code-F.Skip c.rolls-Skip m

  pub meaning_seq : (all : List Code) (m : Machine) → meaning layout (c.Seq all) m ≡ meaning_all layout all m
  meaning_seq all m = named (c.Seq all) (Code-F.Seq all) (c.rolls-Seq all) m ∙ all_in_turn all m

  pub meaning_assign : (local : ℕ) (value : IExpr) (m : Machine) → meaning layout (c.Assign local value) m ≡ assign local (value_in m value) m
  meaning_assign local value m = named (c.Assign local value) (Code-F.Assign local value) (c.rolls-Assign local value) m

  pub meaning_when : (test : IExpr) (body : Code) (m : Machine) → meaning layout (c.When test body) m ≡ (if is_off (value_in m test) then m else meaning layout body m)
  meaning_when test body m = named (c.When test body) (Code-F.When test body) (c.rolls-When test body) m

  pub meaning_step_loop : (var until : ℕ) (lo hi stop : IExpr) (body : Code) (m : Machine) → meaning layout (c.StepLoop var until lo hi stop body) m ≡ step_loop var until (λ n. value_in n stop) (meaning layout body) (value_in m lo) (value_in m hi) m
  meaning_step_loop var until lo hi stop body m = named (c.StepLoop var until lo hi stop body) (Code-F.StepLoop var until lo hi stop body) (c.rolls-StepLoop var until lo hi stop body) m

  pub meaning_for_loop : (var : ℕ) (lo hi : IExpr) (body : Code) (m : Machine) → meaning layout (c.ForLoop var lo hi body) m ≡ for_loop var (meaning layout body) (value_in m lo) (value_in m hi) m
  meaning_for_loop var lo hi body m = named (c.ForLoop var lo hi body) (Code-F.ForLoop var lo hi body) (c.rolls-ForLoop var lo hi body) m

  pub meaning_par_loop : (from to lo hi : ℕ) (ways : List Updated) (body : Code) (m : Machine) → meaning layout (c.ParLoop from to lo hi ways body) m ≡ par_loop (declares body) (meaning layout body) from to lo hi m
  meaning_par_loop from to lo hi ways body m = named (c.ParLoop from to lo hi ways body) (Code-F.ParLoop from to lo hi ways body) (c.rolls-ParLoop from to lo hi ways body) m

  pub meaning_update : (tensor : ℕ) (at : List IExpr) (by : Reduce) (value : IExpr) (m : Machine) → meaning layout (c.Update tensor at by value) m ≡ update tensor (map (value_in m) at) by (value_in m value) m
  meaning_update tensor at by value m = named (c.Update tensor at by value) (Code-F.Update tensor at by value) (c.rolls-Update tensor at by value) m

  pub meaning_declare : (tensor : ℕ) (m : Machine) → meaning layout (c.Declare tensor) m ≡ declare layout tensor m
  meaning_declare tensor m = named (c.Declare tensor) (Code-F.Declare tensor) (c.rolls-Declare tensor) m

  pub meaning_freeze : (tensor : ℕ) (m : Machine) → meaning layout (c.Freeze tensor) m ≡ freeze tensor m
  meaning_freeze tensor m = named (c.Freeze tensor) (Code-F.Freeze tensor) (c.rolls-Freeze tensor) m

  pub meaning_thaw : (tensor : ℕ) (m : Machine) → meaning layout (c.Thaw tensor) m ≡ thaw layout tensor m
  meaning_thaw tensor m = named (c.Thaw tensor) (Code-F.Thaw tensor) (c.rolls-Thaw tensor) m

  pub meaning_charge : (value : IExpr) (m : Machine) → meaning layout (c.Charge value) m ≡ charge (value_in m value) m
  meaning_charge value m = named (c.Charge value) (Code-F.Charge value) (c.rolls-Charge value) m
