-- The code of a leaf along which one update is left that is the same at each coordinate.
use Rattle.std.proofs.Common.{◌≡◌, ℕ, Bool, true, false, List, [], ◌∷◌, ◌++◌, map, Some, refl, sym, ap, subst, ◌∙◌, arith, pos}
use Rattle.std.specs.Prelude.{not}
use Rattle.fin_base.specs.declared.terms.Op.TheVariants as op
use Rattle.fin_ast.specs.declared.tree.Stmt.{Stmt}
use Rattle.fin_ast.specs.Bindings.{bindings_of_all}
use Rattle.fin_ir.specs.declared.code.Code.{Code}
use Rattle.fin_ir.specs.declared.code.Code.TheVariants.{Seq, When, ForLoop, Charge}
use Rattle.fin_ir.specs.declared.expression.IExpr.TheVariants.{Num, Two}
use Rattle.fin_ir.specs.Declares.{Tensors, some_of, declares_step, declares}
use Rattle.fin_ir.proofs.Nodes.{of_when, of_for_loop, of_charge}
use Rattle.fin_nest.specs.Sparing.{Staying, all_spare, spare_step, spares}
use Rattle.fin_read.specs.Values.{Heads}
use Rattle.fin_simp.specs.Left.{Marks}
use Rattle.fin_simp.specs.Numbered.{Here}
use Rattle.fin_simp.specs.Rest.{Kind, OneUpdate}
use Rattle.fin_simp.specs.Rest.{Nothing, Other}
use Rattle.fin_simp.specs.Wording.{KnowsWords}
use Rattle.fin_simp.specs.Work.{is_one_update}
use Rattle.fin_style_point.specs.declared.nest.Nest.{Nest}
use Rattle.fin_descend.specs.declared.flattening.Leaf.TheVariants.{Fixed}
use Rattle.fin_descend.specs.declared.lowered.Lowered.{Lowered}
use Rattle.fin_descend.proofs.Sparing.{left, and_both, spared_seq}
use Rattle.fin_known.specs.Telling.{marks_told}
use Rattle.fin_perform.specs.Appending.{Appends, StaysOff}
use Rattle.fin_ir.specs.Named.{is_named}
use Rattle.fin_perform.specs.Layouts.{heads_in, layout_with}
use Rattle.fin_perform.specs.Meanings.{Means}
use Rattle.fin_perform.specs.Once.{once_deed}
use Rattle.fin_perform.specs.Places.{left_of_all, change_all}
use Rattle.fin_loops.specs.FactsPoints.{IsKnown}
use Rattle.fin_loops.specs.Fixed.{fixed_code}
use Rattle.fin_loops.specs.Loops.{Loop}
use Rattle.fin_loops.specs.Points.{marks_at_point}
use Rattle.fin_loops.proofs.FactsPoints.{points_are_told}
use Rattle.fin_loops.proofs.FactsWords.{words_are_told}
use Rattle.fin_loops.proofs.Fixed.{fixed_means}
use Rattle.fin_stmts.specs.declared.entered.Site.{Site}
use Rattle.fin_stmts.specs.Leaves.{LeafLowers}
use Rattle.fin_stmts.specs.Places.{here_of}
use Rattle.fin_stmts.specs.Sites.{Comes, IsFixed, IsSite, loop_of}
use Rattle.fin_stmts.proofs.Changing.{left_at_point, changes_no_more}
use Rattle.fin_perform.proofs.Spared.{neither}
use Rattle.fin_stmts.proofs.Declaring.{declared_seq}
use Rattle.fin_stmts.proofs.NamedLoops.{fixed_named, later_scope}
use Rattle.fin_stmts.proofs.Points.{not_in}

-- ---- the code

abbrev paid : Nest → Code
paid n = When (Two op.Lt n.lo n.hi) (Charge (Num (pos 2)))

abbrev loop : Nest → List Code → Code
loop n cs = ForLoop n.var n.lo n.hi (Seq cs)

spared_fixed : (s : Staying) (n : Nest) (cs : List Code) → s.locals n.var ≡ false → all_spare (map (spares s) cs) ≡ true → spares s (fixed_code n cs) ≡ true
spared_fixed s n cs var h =
    spared_seq s (paid n ∷ loop n cs ∷ [])
    (and_both (spares s (paid n)) _ (of_when Bool (spare_step s) _ _ ∙ of_charge Bool (spare_step s) _)
    (and_both (spares s (loop n cs)) true
    (of_for_loop Bool (spare_step s) n.var n.lo n.hi (Seq cs) ∙ and_both (not (s.locals n.var)) _ (not_in (s.locals n.var) var) (spared_seq s cs h)) refl))

undeclared_fixed : (t : ℕ) (n : Nest) (cs : List Code) → some_of (map declares cs) t ≡ false → declares (fixed_code n cs) t ≡ false
undeclared_fixed t n cs e =
    declared_seq (paid n ∷ loop n cs ∷ []) t
    ∙ neither (declares (paid n) t) _
    (ap (λ (own : Tensors). own t) (of_when Tensors declares_step (Two op.Lt n.lo n.hi) (Charge (Num (pos 2)))) ∙ ap (λ (own : Tensors). own t) (of_charge Tensors declares_step _))
    (neither (declares (loop n cs) t) false (ap (λ (own : Tensors). own t) (of_for_loop Tensors declares_step n.var n.lo n.hi (Seq cs)) ∙ declared_seq cs t ∙ e) refl)

-- ---- the leaf

-- codes that are appended where the nest stands
pub appends_there : (heads : Heads) (need : ℕ) (old new : List Code) (xs : List Stmt) (m : Marks) (next next' : ℕ) (h h' : Here) → next' ≡ next → h' ≡ h
    → Appends heads next' need old new (once_deed xs h' (Some m)) → Appends heads next need old new (once_deed xs h (Some m))
appends_there heads need old new xs m next next' h h' from here a =
    subst (λ (j : Here). Appends heads next need old new (once_deed xs j (Some m))) here (subst (λ (k : ℕ). Appends heads k need old new (once_deed xs h' (Some m))) from a)

one_kind : (k : Kind) → is_one_update k ≡ true → k ≡ OneUpdate
one_kind Nothing e = cc
one_kind OneUpdate e = refl
one_kind Other e = cc

module _ (s : Site) (ds : List Bool) (n : Nest) (site : IsSite s) (comes : Comes s ds n) (fixed : IsFixed s n) (told : Marks) (is : told ≡ marks_told s.around ds n) where
  abbrev l : Loop
  l = loop_of s

  abbrev mp : Marks
  mp = marks_at_point l n

  known : IsKnown (loop_of s) s.around ds n
  known = (points_are_told (loop_of s) s.around ds n comes.knows).flat fixed.flat

  pub there : told ≡ marks_at_point (loop_of s) n
  there = is ∙ known.marks

  words : KnowsWords (marks_at_point (loop_of s) n)
  words = subst KnowsWords known.marks (words_are_told (loop_of s) s.around ds n comes.knows)

  -- one update is left, by what is told
  pub one_left : (left_of_all s.one.body.now (here_of s.place) (Some told)).kind ≡ OneUpdate
  one_left =
      subst (λ (m : Marks). (left_of_all s.one.body.now (here_of s.place) (Some m)).kind ≡ OneUpdate) (sym there)
      (one_kind (left_of_all l.body l.here (Some mp)).kind
      (left (is_one_update (left_of_all l.body l.here (Some mp)).kind) _ (left _ _ (left _ _ fixed.same))))

  module _ (heads : Heads) (same : heads_in s.checked.now ≡ heads) (need : ℕ) (old turn : List Code) (empty : old ≡ [])
      (a : Appends heads n.next need old turn (once_deed s.one.body.now (here_of s.place) (Some told))) (m : Lowered) (code : m.code ≡ fixed_code n turn) (room : m.room ≡ need) where
    turn_is : turn ≡ a.codes
    turn_is = a.appended ∙ ap (λ (cs : List Code). cs ++ a.codes) empty

    code_is : m.code ≡ fixed_code n a.codes
    code_is = code ∙ ap (fixed_code n) turn_is

    means : Means s.checked.now n.next m.room a.codes (once_deed s.one.body.now (here_of s.place) (Some (marks_at_point (loop_of s) n)))
    means =
        subst (λ (k : Marks). Means s.checked.now n.next m.room a.codes (once_deed s.one.body.now (here_of s.place) (Some k))) there
        (subst (λ (r : ℕ). Means s.checked.now n.next r a.codes (once_deed s.one.body.now (here_of s.place) (Some told))) (sym room) (a.means s.checked.now same))

    pub fixed_lowers : LeafLowers (loop_of s) (Fixed n) m
    fixed_lowers = record {
      means = λ source.
          fixed_means (loop_of s) n m a.codes comes.var fixed.flat fixed.settled fixed.same (changes_no_more (loop_of s) n site.worded words) code_is
          (let enough = a.room in omega (arith, enough, room)) means;
      spares = λ st out keeps.
          ap (spares st) code_is
          ∙ spared_fixed st n a.codes keeps.var
          (a.spares st (subst (λ (k : Marks). StaysOff st n.next (bindings_of_all s.one.body.now) (change_all s.one.body.now (here_of s.place) (Some k))) (sym there) (record {
            below = keeps.below;
            unbound = out.locals;
            unwritten = λ t e. left_at_point (loop_of s) n site.worded words t (out.tensors t e);
          })));
      declares = λ t e. let h : false ≡ true = sym (ap (λ (c : Code). declares c t) code_is ∙ undeclared_fixed t n a.codes (a.declares t)) ∙ e in cc;
      names = λ more sc le body nest.
          ap (is_named (layout_with s.checked.now more)) code_is
          ∙ fixed_named (layout_with s.checked.now more) n a.codes nest
          (a.named s.checked.now same more sc (omega (arith, le, room)) (later_scope (loop_of s) sc body n.next (omega (arith, site.placed.free, comes.later))) body.below body.named);
    }
