-- The codes of a loop, of its nest and of its leaves are named where the loop's names are good.
use Rattle.std.proofs.Common.{◌≡◌, ℕ, ◌<◌, ◌≤◌, Bool, true, List, [], ◌∷◌, ◌++◌, refl, ◌∙◌, arith, pos}
use Rattle.std.specs.List.{list_all}
use Rattle.fin_base.specs.declared.terms.Op.TheVariants as op
use Rattle.fin_ast.specs.Scope.{Scope, within_loop}
use Rattle.fin_ir.specs.declared.code.Code.{Code}
use Rattle.fin_ir.specs.declared.code.Code.TheVariants.{Assign, Charge, ForLoop, ParLoop, Seq, When}
use Rattle.fin_ir.specs.declared.expression.IExpr.TheVariants.{Num, Two}
use Rattle.fin_ir.specs.declared.layout.Layout.{Layout}
use Rattle.fin_ir.specs.Named.{code_step, is_named}
use Rattle.fin_ir.proofs.Nodes as node
use Rattle.fin_looplet.specs.declared.looplet.Leaf.{Leaf}
use Rattle.fin_looplet.specs.declared.looplet.Leaf.TheVariants.{Fill, Value, Sub}
use Rattle.fin_looplet.specs.declared.looplet.Looplet.{Looplet, Row_of-Phase, end_of-Phase, more_of-Phase, Row_of-Walker, end_of-Walker, more_of-Walker, Row_of-Case, end_of-Case, more_of-Case, end_of-Looplet, more_of-Looplet}
use Rattle.fin_looplet.specs.declared.looplet.Looplet.TheVariants.{Run, Spike, Lookup, Sequence', Stepper', Jumper', Switch', Shift'}
use Rattle.fin_nest.specs.Entries.{looplets}
use Rattle.fin_nest.specs.Performs.{charge_one}
use Rattle.fin_stage.proofs.Alive.{both}
use Rattle.fin_style_point.specs.declared.nest.Nest.{Nest}
use Rattle.fin_enter.specs.NamedLooplets.{NamedLeaf, NamedLooplet, NamedPhases, NamedWalker, NamedCases, AllNamedLooplets}
use Rattle.fin_descend.specs.Naming.{LeafNamed, LoopletNamed, PhasesNamed, WalkerNamed, CasesNamed, EachNamed, NamedNest}
use Rattle.fin_descend.proofs.Naming.{named_seq, named_assign, named_when, named_for, named_two, more_named, local_below}
use Rattle.fin_perform.specs.Layouts.{variables_in}
use Rattle.fin_perform.specs.Naming.{IsScope}
use Rattle.fin_perform.proofs.Naming.{scopes_go_inside}
use Rattle.fin_perform.proofs.NamingNodes.{charge_named}
use Rattle.fin_loops.specs.Fixed.{fixed_code}
use Rattle.fin_loops.specs.Loops.{Loop}
use Rattle.fin_loops.specs.Naming.{IsNamedLoop, IsNamedTop}
use Rattle.fin_loops.specs.Points.{point_code}
use Rattle.fin_stmts.specs.Leaves.{NamesBody}

-- ---- looplets, in the words of an entry and of a descent

module _ (layout : Layout) where
  leaf_named : (leaf : Leaf) → NamedLeaf layout leaf → LeafNamed layout leaf
  leaf_named (Fill f) h = h
  leaf_named (Value e) h = h
  leaf_named (Sub tensor level place there) h = (h.0, (h.1, h.2))

  mutual
    looplet_named : (l : Looplet) → NamedLooplet layout l → LoopletNamed layout l
    looplet_named (Run leaf) h = leaf_named leaf h
    looplet_named (Spike body tail) h = (leaf_named body h.0, leaf_named tail h.1)
    looplet_named (Lookup coord leaf) h = (h.0, leaf_named leaf h.1)
    looplet_named (Sequence' n phases) h = phases_named phases h
    looplet_named (Stepper' p walker) h = walker_named walker h
    looplet_named (Jumper' p walker) h = walker_named walker h
    looplet_named (Switch' n cases) h = cases_named cases h
    looplet_named (Shift' by p (more_of-Looplet child end_of-Looplet)) h = (h.0, looplet_named child h.1)

    phases_named : {n : _} (ps : Row_of-Phase n) → NamedPhases layout ps → PhasesNamed layout ps
    phases_named end_of-Phase h = h
    phases_named (more_of-Phase stop child rest) h = (h.0, (looplet_named child h.1, phases_named rest h.2))

    walker_named : {n : _} (w : Row_of-Walker n) → NamedWalker layout w → WalkerNamed layout w
    walker_named end_of-Walker h = h
    walker_named (more_of-Walker cursor seek stop child rest) h = (h.1, (h.2, (h.3, looplet_named child h.4)))

    cases_named : {n : _} (cs : Row_of-Case n) → NamedCases layout cs → CasesNamed layout cs
    cases_named end_of-Case h = h
    cases_named (more_of-Case test child rest) h = (h.0, (looplet_named child h.1, cases_named rest h.2))

  -- those of reads, and those of masks
  both_named : (xs ys : List Looplet) → AllNamedLooplets layout (xs ++ ys) → EachNamed layout xs × EachNamed layout ys
  both_named [] [] h = (tt, tt)
  both_named [] (y ∷ ys) h = (tt, (looplet_named y h.0, (both_named [] ys h.1).1))
  both_named (x ∷ xs) ys h = let rest = both_named xs ys h.1 in ((looplet_named x h.0, rest.0), rest.1)

  pub nest_named : (top : Nest) → IsNamedTop layout top → NamedNest layout top
  nest_named top is =
      let all = both_named (looplets top.reads) (looplets top.masks) is.looplets in
      record { var = is.var; lo = is.lo; hi = is.hi; reads = all.0; masks = all.1 }

  -- ---- codes round those of the body

  pub point_named : (n : Nest) (cs : List Code) → NamedNest layout n → list_all (is_named layout) cs ≡ true → is_named layout (point_code n cs) ≡ true
  point_named n cs nest h =
      named_seq layout (charge_one ∷ Assign n.var n.lo ∷ cs)
      (more_named layout charge_one (Assign n.var n.lo ∷ cs) (charge_named layout 1) (more_named layout (Assign n.var n.lo) cs (named_assign layout n.var n.lo nest.var nest.lo) h))

  pub fixed_named : (n : Nest) (cs : List Code) → NamedNest layout n → list_all (is_named layout) cs ≡ true → is_named layout (fixed_code n cs) ≡ true
  fixed_named n cs nest h =
      named_seq layout (When (Two op.Lt n.lo n.hi) (Charge (Num (pos 2))) ∷ ForLoop n.var n.lo n.hi (Seq cs) ∷ [])
      (more_named layout (When (Two op.Lt n.lo n.hi) (Charge (Num (pos 2)))) (ForLoop n.var n.lo n.hi (Seq cs) ∷ []) (named_when layout (Two op.Lt n.lo n.hi) (Charge (Num (pos 2))) (named_two layout op.Lt n.lo n.hi nest.lo nest.hi) (charge_named layout 2))
      (more_named layout (ForLoop n.var n.lo n.hi (Seq cs)) [] (named_for layout n.var n.lo n.hi (Seq cs) nest.var nest.lo nest.hi (named_seq layout cs h)) refl))

  pub chunks_named : (from to lo hi : ℕ) (code : Code) → from < layout.locals → to < layout.locals → is_named layout code ≡ true → is_named layout (ParLoop from to lo hi [] code) ≡ true
  chunks_named from to lo hi code below above h =
      node.of_par_loop Bool (code_step layout) from to lo hi [] code
      ∙ both _ _ (both _ _ (local_below layout from below) (local_below layout to above)) h

-- ---- the scope of the body

module _ (l : Loop) (sc : Scope) (body : NamesBody l sc) where
  pub later_scope : (next : ℕ) → variables_in l.checked ≤ next → IsScope l.checked sc next
  later_scope next le = (scopes_go_inside l.checked sc (variables_in l.checked) body.scope).later next le

pub body_scope : (l : Loop) (sc : Scope) (next : ℕ) → IsNamedLoop l sc next → NamesBody l (within_loop sc l.var)
body_scope l sc next good =
    let var = good.bound.0 in
    let around : IsScope l.checked sc (variables_in l.checked) = record { headers = good.scope.headers; within = good.scope.within; after = omega arith } in
    record {
      scope = (scopes_go_inside l.checked sc (variables_in l.checked) around).in_loop l.var var;
      below = good.bound.1;
      named = good.named;
    }
