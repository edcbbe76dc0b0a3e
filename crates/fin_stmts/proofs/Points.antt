-- The code of a leaf that has come to a point: a charge, the coordinate, and the body's codes under what is known there.
use Rattle.std.proofs.Common.{◌≡◌, ℕ, ◌≤◌, Bool, true, false, ◌||◌, List, ◌∷◌, ◌++◌, map, Some, refl, sym, ap, subst, ◌∙◌, arith}
use Rattle.std.specs.Prelude.{not, IfSome}
use Rattle.fin_ir.specs.declared.code.Code.{Code}
use Rattle.fin_ir.specs.declared.code.Code.TheVariants.{Skip, Assign}
use Rattle.fin_ir.specs.Declares.{Tensors, some_of, declares_step, declares}
use Rattle.fin_ir.proofs.Nodes.{of_skip, of_assign, of_charge}
use Rattle.fin_nest.specs.Performs.{charge_one}
use Rattle.fin_nest.specs.Sparing.{Staying, all_spare, spare_step, spares}
use Rattle.fin_simp.specs.declared.facts.Facts.{Facts}
use Rattle.fin_simp.specs.declared.facts.Gap.{Gap}
use Rattle.fin_simp.specs.declared.facts.Known.{Known}
use Rattle.fin_simp.specs.Facts.{marks_of}
use Rattle.fin_simp.specs.Left.{Marks}
use Rattle.fin_simp.specs.Fresh.{fresh_in}
use Rattle.fin_simp.specs.Remaining.{are_nothing}
use Rattle.fin_simp.specs.Wording.{KnowsWords}
use Rattle.fin_simp.specs.Work.{Context}
use Rattle.fin_style_point.specs.declared.nest.Nest.{Nest}
use Rattle.fin_descend.specs.declared.flattening.Leaf.TheVariants.{Point}
use Rattle.fin_descend.specs.declared.lowered.Lowered.{Lowered}
use Rattle.fin_descend.specs.Flat.{LeafMeans}
use Rattle.fin_descend.proofs.Sparing.{and_both, spared_seq, spared_skip}
use Rattle.fin_known.specs.Telling.{marks_told, gaps_told, tests_told, fill_at, truth_at}
use Rattle.fin_ir.specs.Named.{is_named}
use Rattle.fin_descend.proofs.Naming.{named_skip}
use Rattle.fin_perform.specs.Layouts.{layout_with}
use Rattle.fin_perform.specs.Meanings.{Means, turns_deed}
use Rattle.fin_perform.proofs.Meanings.{meanings_compose}
use Rattle.fin_loops.specs.Facts.{KnowsOf}
use Rattle.fin_loops.specs.FactsPoints.{IsKnown}
use Rattle.fin_loops.specs.Loops.{Loop, OfLoop}
use Rattle.fin_loops.specs.Points.{AtPoint, marks_at_point, point_code}
use Rattle.fin_loops.proofs.FactsPoints.{points_are_told}
use Rattle.fin_loops.proofs.FactsWords.{words_are_told}
use Rattle.fin_loops.proofs.Points.{points_mean}
use Rattle.fin_stmts.specs.declared.entered.Site.{Site}
use Rattle.fin_stmts.specs.declared.place.Codes.{Codes}
use Rattle.fin_stmts.specs.Leaves.{IsLeaf, OfBody, LeafLowers}
use Rattle.fin_stmts.specs.Lowering.{HasSource, Lowers}
use Rattle.fin_stmts.specs.declared.place.Place.{Place}
use Rattle.fin_stmts.specs.Places.{here_of, context_of, IsPlaced}
use Rattle.fin_stmts.specs.Sites.{IsSite, loop_of}
use Rattle.fin_stmts.proofs.Changing.{left_at_point, changes_no_more}
use Rattle.fin_stmts.proofs.Declaring.{declared_seq}
use Rattle.fin_stmts.proofs.NamedLoops.{point_named, later_scope}

pub not_in : (b : Bool) → b ≡ false → not b ≡ true
not_in true e = cc
not_in false e = refl

-- ---- the code

spared_point : (s : Staying) (n : Nest) (cs : List Code) → s.locals n.var ≡ false → all_spare (map (spares s) cs) ≡ true → spares s (point_code n cs) ≡ true
spared_point s n cs var h =
    spared_seq s (charge_one ∷ Assign n.var n.lo ∷ cs)
    (and_both (spares s charge_one) _ (of_charge Bool (spare_step s) _) (and_both (spares s (Assign n.var n.lo)) _ (of_assign Bool (spare_step s) n.var n.lo ∙ not_in (s.locals n.var) var) h))

declared_point : (t : ℕ) (n : Nest) (cs : List Code) → declares (point_code n cs) t ≡ some_of (map declares cs) t
declared_point t n cs =
    declared_seq (charge_one ∷ Assign n.var n.lo ∷ cs) t
    ∙ ap (λ (own : Tensors). own t || (declares (Assign n.var n.lo) t || some_of (map declares cs) t)) (of_charge Tensors declares_step _)
    ∙ ap (λ (own : Tensors). own t || some_of (map declares cs) t) (of_assign Tensors declares_step n.var n.lo)

-- ---- the leaf

module _ (s : Site) (ds : List Bool) (n : Nest) (site : IsSite s) (leaf : IsLeaf s ds (Point n)) where
  l : Loop
  l = loop_of s

  knows : KnowsOf (loop_of s) s.around ds n
  knows = leaf.comes.knows

  pub known : IsKnown (loop_of s) s.around ds n
  known = (points_are_told (loop_of s) s.around ds n knows).runs leaf.point.runs

  at_point : AtPoint (loop_of s) n
  at_point = record { var = leaf.comes.var; runs = leaf.point; settled = known.settled }

  words : KnowsWords (marks_at_point (loop_of s) n)
  words = subst KnowsWords known.marks (words_are_told (loop_of s) s.around ds n knows)

  -- nothing is left of the body there
  pub nothing_lowers : (m : Lowered) → are_nothing s.one.body.now (here_of s.place) (marks_told s.around ds n) ≡ true → m.code ≡ Skip → LeafLowers (loop_of s) (Point n) m
  nothing_lowers m none empty = record {
    means = λ source. (points_mean (loop_of s) n m at_point).nothing (subst (λ k. are_nothing s.one.body.now (here_of s.place) k ≡ true) known.marks none) empty;
    spares = λ st out keeps. ap (spares st) empty ∙ spared_skip st;
    declares = λ t e. let h : false ≡ true = sym (ap (λ (c : Code). declares c t) empty ∙ ap (λ (own : Tensors). own t) (of_skip Tensors declares_step)) ∙ e in cc;
    names = λ room sc le body nest. ap (is_named (layout_with s.checked.now room)) empty ∙ named_skip (layout_with s.checked.now room);
  }

  -- or something is, and these are its codes
  module _ (ctx : Context) (is : ctx ≡ Some (marks_told s.around ds n)) (b : Codes) (m : Lowered)
      (some : are_nothing s.one.body.now (here_of s.place) (marks_told s.around ds n) ≡ false)
      (low : Lowers (HasSource s.checked.now s.one.body.now (here_of s.place)) s.checked.now n.next b (turns_deed s.one.body.now (here_of s.place) ctx) (fresh_in s.one.body.now))
      (code : m.code ≡ point_code n b.codes) (next : n.next ≤ m.room) (room : b.room ≤ m.room) where
    there : ctx ≡ Some (marks_at_point (loop_of s) n)
    there = is ∙ ap (λ k. Some k) known.marks

    lowered : Lowers (HasSource s.checked.now s.one.body.now (here_of s.place)) s.checked.now n.next b
        (turns_deed s.one.body.now (here_of s.place) (Some (marks_at_point (loop_of s) n))) (fresh_in s.one.body.now)
    lowered = subst (λ k. Lowers (HasSource s.checked.now s.one.body.now (here_of s.place)) s.checked.now n.next b (turns_deed s.one.body.now (here_of s.place) k) (fresh_in s.one.body.now)) there low

    left_of : are_nothing s.one.body.now (here_of s.place) (marks_at_point (loop_of s) n) ≡ false
    left_of = subst (λ k. are_nothing s.one.body.now (here_of s.place) k ≡ false) known.marks some

    means : OfBody (loop_of s) → LeafMeans (OfLoop (loop_of s)) m.room (Point n) m.code
    means source =
        let turns : Means s.checked.now n.next m.room b.codes (turns_deed s.one.body.now (here_of s.place) (Some (marks_at_point (loop_of s) n)))
        = λ count inputs sc vars p fits. lowered.means source count inputs sc vars p (omega (arith, fits, room)) in
        (points_mean (loop_of s) n m at_point).some b.codes left_of code next (changes_no_more (loop_of s) n site.worded words)
        ((meanings_compose s.checked.now n.next m.room (Some (marks_at_point (loop_of s) n))).0.body s.one.body.now (here_of s.place) b.codes turns)

    pub point_lowers : LeafLowers (loop_of s) (Point n) m
    point_lowers = record {
      means = means;
      spares = λ st out keeps.
          ap (spares st) code
          ∙ spared_point st n b.codes keeps.var
          (lowered.spares st (record {
            below = keeps.below;
            unbound = out.locals;
            unwritten = λ t e. left_at_point (loop_of s) n site.worded words t (out.tensors t e);
          }));
      declares = λ t e. lowered.declares t (sym (declared_point t n b.codes) ∙ sym (ap (λ (c : Code). declares c t) code) ∙ e);
      names = λ more sc le body nest.
          ap (is_named (layout_with s.checked.now more)) code
          ∙ point_named (layout_with s.checked.now more) n b.codes nest
          (lowered.names more sc (omega (arith, le, room)) (later_scope (loop_of s) sc body n.next (omega (arith, site.placed.free, leaf.comes.later))) body.below body.named);
    }

-- ---- the place of the body there

-- what the heads tell, as the code has it
pub told_there : (around : Facts) (ds : List Bool) (n : Nest) (gaps : List Gap) (known : List Known) → gaps ≡ around.gaps.now ++ gaps_told (fill_at ds n.reads) n.reads
    → known ≡ around.known.now ++ tests_told (truth_at n.masks) n.masks → marks_of gaps known around.bound.now ≡ marks_told around ds n
told_there around ds n gaps known e d =
    ap (λ (gs : List Gap). marks_of gs known around.bound.now) e ∙ ap (λ (ks : List Known). marks_of (around.gaps.now ++ gaps_told (fill_at ds n.reads) n.reads) ks around.bound.now) d

pub placed_at_point : (s : Site) (ds : List Bool) (n : Nest) → IsSite s → IsLeaf s ds (Point n) → (m : Marks) → m ≡ marks_told s.around ds n → (p : Place) → context_of p ≡ Some m → p.next ≡ n.next
    → IsPlaced s.checked.now p
placed_at_point s ds n site leaf m told p ctx next = record {
  words = subst (λ (k : Context). IfSome k KnowsWords) (sym ctx) (subst KnowsWords (sym told) (words_are_told (loop_of s) s.around ds n leaf.comes.knows));
  free = omega (arith, site.placed.free, leaf.comes.later, next);
}
