-- The steps of a loop's entry assign locals from the first free one on, so that its codes spare all before it.
use Rattle.std.proofs.Common.{◌≡◌, ℕ, ◌≤◌, Bool, true, false, List, [], ◌∷◌, ◌++◌, map, Option, Some, None, refl, sym, ap, ◌∙◌, subst, arith}
use Rattle.std.specs.Prelude.{not}
use Rattle.fin_ast.specs.declared.tree.Index.{Index}
use Rattle.fin_ir.specs.declared.code.Code.{Code}
use Rattle.fin_ir.specs.declared.code.Code.TheVariants.{Charge}
use Rattle.fin_ir.specs.declared.expression.IExpr.{IExpr}
use Rattle.fin_ir.proofs.Nodes.{of_charge}
use Rattle.fin_stage.proofs.Alive.{both}
use Rattle.fin_read.specs.Reads.{place_of}
use Rattle.fin_read.specs.Steps.{Step, assign_of}
use Rattle.fin_read.specs.Values.{Heads, value_code}
use Rattle.fin_read.proofs.Equations.{code_grows}
use Rattle.fin_nest.specs.Sparing.{Staying, all_spare, spare_step, spares}
use Rattle.fin_simp.specs.Rest.{Access}
use Rattle.fin_enter.specs.LoopEntry.{bounds_by, lengths_by, steps_by}
use Rattle.fin_enter.specs.Masked.{Tested, tested_among, bound_steps}
use Rattle.fin_enter.specs.Together.{Around, settled_index, steps_of, behind_place, all_positions}
use Rattle.fin_enter.proofs.Together.{place_grows, places_grow}
use Rattle.fin_perform.proofs.Spared.{From, from_append, from_less, levels_from, code_from, Spared, spared_append, steps_spare}
use Rattle.fin_loops.specs.Loops.{rest_entered}
use Rattle.fin_loops.specs.Sparing.{EntriesSpare}
use Rattle.fin_loops.specs.Tops.{around_of}

-- ---- positions and bounds

module _ (h : Heads) where
  bounds_from : (ts : List Tested) (next : ℕ) → From next (bound_steps h ts next)
  bounds_from [] next = tt
  bounds_from (t ∷ ts) next =
      let v = value_code h t.bound next in
      from_append next v.steps (bound_steps h ts v.next) (code_from h t.bound next) (from_less next v.next (code_grows h t.bound next) (bound_steps h ts v.next) (bounds_from ts v.next))

  position_from : (a : Access) (o : Option (ℕ × Index)) (at : ℕ) → From at (steps_of h a o at)
  position_from a None at = tt
  position_from a (Some d) at = (omega arith, levels_from (place_of a.tensor 0 at) _ _ _)

positions_from : (l : Around) (reads : List Access) (at : ℕ) → From at (all_positions l reads at)
positions_from l [] at = tt
positions_from l (a ∷ reads) at =
    let next = behind_place (settled_index l a) at in
    from_append at (steps_of l.heads a (settled_index l a) at) (all_positions l reads next) (position_from l.heads a (settled_index l a) at)
    (from_less at next (place_grows (settled_index l a) at) (all_positions l reads next) (positions_from l reads next))

-- ---- what spares

module _ (s : Staying) where
  charges_spare : (xs : List IExpr) → Spared s (map Charge xs)
  charges_spare [] = refl
  charges_spare (x ∷ xs) = both (spares s (Charge x)) (all_spare (map (spares s) (map Charge xs))) (of_charge Bool (spare_step s) x) (charges_spare xs)

pub entries_spare : EntriesSpare
entries_spare l par next s free =
    let a = around_of l in
    let rest = rest_entered l in
    let steps = steps_by a rest.reads rest.tests next in
    let bounds = bounds_by a rest.reads next in
    let from : From next steps =
    from_append next (all_positions a rest.reads next) (bound_steps a.heads (tested_among a.var rest.tests) bounds) (positions_from a rest.reads next)
    (from_less next bounds (let grown = places_grow a rest.reads next in omega (arith, grown)) _ (bounds_from a.heads (tested_among a.var rest.tests) bounds)) in
    spared_append s (map assign_of steps) _ (steps_spare s next free steps from) (charges_spare s (_ ∷ lengths_by a rest.reads next))
