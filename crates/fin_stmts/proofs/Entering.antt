-- What stands behind the entry of a loop that has a coordinate.
use Rattle.std.proofs.Common.{◌≡◌, inl, inr, ℕ, ◌+◌, ◌≤◌, pos, Bool, true, false, List, [], ◌++◌, map, refl, sym, ap, ◌∙◌, subst, arith}
use Rattle.std.specs.declared.alloc.Global.{Global}
use Rattle.std.specs.declared.vec.Vec.{Vec}
use Rattle.fin_ir.specs.declared.expression.IExpr.{IExpr}
use Rattle.fin_ir.specs.declared.expression.IExpr.TheVariants.{Local}
use Rattle.fin_nest.specs.declared.entries.Numbered.{Numbered}
use Rattle.fin_nest.specs.Entries.{looplets, numbers}
use Rattle.fin_simp.specs.declared.rest.Rest.{Rest}
use Rattle.fin_simp.specs.Gathered.{as_access, as_rest}
use Rattle.fin_simp.specs.Rest as told
use Rattle.fin_simp.specs.Work.{Mask, masks_of}
use Rattle.fin_drive.specs.Turns.{Slot, Testing}
use Rattle.fin_style_point.specs.declared.nest.Nest as point
use Rattle.fin_style_point.specs.Parts.{all_looplets}
use Rattle.fin_descend.specs.Leaves.{EachAllLeaves, HasLeaves, LeafWorded, Never}
use Rattle.fin_enter.specs.declared.entrance.Entrance.{Entrance}
use Rattle.fin_enter.specs.Masked.{tested_among}
use Rattle.fin_enter.specs.LoopEntry.{bounds_by, mask_looplets, read_looplets}
use Rattle.fin_enter.specs.PushedReads.{drives}
use Rattle.fin_enter.proofs.Entering.{cursors_grow}
use Rattle.fin_enter.proofs.Masked.{bounds_grow}
use Rattle.fin_enter.proofs.Together.{places_grow}
use Rattle.fin_known.specs.Telling.{read_slots, slots_of}
use Rattle.fin_perform.specs.Layouts.{heads_in}
use Rattle.fin_loops.specs.Facts.{IsTruthOrGap}
use Rattle.fin_loops.specs.Loops.{Loop, rest_entered, slot_in, slots}
use Rattle.fin_loops.specs.Parallel.{range_in}
use Rattle.fin_loops.specs.Tops.{around_of, own_first, own_end, AreEnds, IsTop}
use Rattle.fin_loops.proofs.TopsJumpless.{tops_hold_no_jumpers}
use Rattle.fin_stmts.specs.declared.entered.Site.{Site}
use Rattle.fin_stmts.specs.Entrances.{IsEntrance, IsNestOf, end_of}
use Rattle.fin_stmts.specs.Sites.{IsEntered, IsSite, loop_of}
use Rattle.fin_stmts.proofs.Entries.{SameEnds, all_jumpless, fills_words, looplets_apart, masks_slots, reads_slots}
use Rattle.fin_stmts.proofs.EntryLeaves.{masks_told, reads_worded}

pub end_grows : (l : Loop) (next : ℕ) → next ≤ own_end l next
end_grows l next =
    let a = around_of l in
    let r = rest_entered l in
    omega (arith, places_grow a r.reads next, bounds_grow a.heads (tested_among l.var r.tests) (bounds_by a r.reads next), cursors_grow a r.reads (own_first l next))

ends_are : (b : Bool) (behind next from to lo hi : ℕ) (e f : IExpr) → behind ≤ from → from + 2 ≤ next → to ≡ from + 1 → e ≡ end_of b from lo → f ≡ end_of b to hi → AreEnds behind next e f
ends_are false behind next from to lo hi e f low high is p q = inl (pos lo, pos hi, p, q)
ends_are true behind next from to lo hi e f low high is p q = inr (from, low, high, p, q ∙ ap Local is)

module _ (s : Site) (rest : Rest) (e : Entrance) (n : point.Nest) (site : IsSite s) (left : as_rest rest ≡ rest_entered (loop_of s))
    (entrance : IsEntrance (loop_of s) s.place.next e) (made : IsNestOf s e n) where
  abbrev l : Loop
  l = loop_of s

  abbrev next : ℕ
  next = s.place.next

  abbrev r : told.Rest
  r = rest_entered l

  -- ---- its slots

  reads_are : (ds : List Bool) → ds ≡ drives s.one.var rest.reads → map (slot_in l.var) r.reads ≡ read_slots ds (numbers n.reads)
  reads_are ds is =
      ap (λ (x : told.Rest). map (slot_in l.var) x.reads) (sym left) ∙ reads_slots s.one.var rest.reads
      ∙ ap (λ (bs : List Bool). read_slots bs (map (λ (a : told.Access). a.read) (map as_access rest.reads))) (sym is)
      ∙ ap (λ (x : told.Rest). read_slots ds (map (λ (a : told.Access). a.read) x.reads)) left
      ∙ ap (read_slots ds) (sym entrance.reads ∙ ap numbers (sym made.reads))

  slots_are : (ds : List Bool) → ds ≡ drives s.one.var rest.reads → slots l ≡ slots_of ds n
  slots_are ds is =
      let second = masks_slots l.var r.tests ∙ ap (map Testing) (sym entrance.masks ∙ ap numbers (sym made.masks)) in
      ap (λ (xs : List Slot). xs ++ map (λ (k : Mask). Testing k.test) (masks_of [] l.var r)) (reads_are ds is)
      ∙ ap (λ (xs : List Slot). read_slots ds (numbers n.reads) ++ xs) second

  -- ---- its looplets

  apart : SameEnds (looplets e.reads) (looplets e.masks) (read_looplets (around_of l) r.reads next (own_first l next)) (mask_looplets (heads_in l.checked) (tested_among l.var r.tests) (bounds_by (around_of l) r.reads next))
  apart = looplets_apart (around_of l) r.reads next (own_first l next) e.reads (looplets e.masks)
      (mask_looplets (heads_in l.checked) (tested_among l.var r.tests) (bounds_by (around_of l) r.reads next)) entrance.reads entrance.looplets_are

  leaves : HasLeaves LeafWorded IsTruthOrGap n
  leaves = record {
    reads = subst (EachAllLeaves LeafWorded LeafWorded) (sym (ap looplets made.reads ∙ apart.first)) (reads_worded (around_of l) (fills_words l.checked) r.reads next (own_first l next));
    masks = subst (EachAllLeaves IsTruthOrGap Never) (sym (ap looplets made.masks ∙ apart.second)) (masks_told (heads_in l.checked) (tested_among l.var r.tests) (bounds_by (around_of l) r.reads next));
  }

  -- ---- the nest

  top : IsTop l next n
  top = record {
    var = made.var;
    looplets = ap (λ (es : List Numbered). looplets es ++ looplets n.masks) made.reads ∙ ap (λ (es : List Numbered). looplets e.reads ++ looplets es) made.masks ∙ entrance.looplets_are;
    room = omega (arith, made.next, entrance.next_is);
    ends = ends_are s.one.par (own_end l next) n.next e.next (e.next + 1) (range_in l).0 (range_in l).1 n.lo n.hi (omega (arith, entrance.next_is)) (omega (arith, made.next)) refl made.lo made.hi;
  }

  pub is_entered : (v : Vec Bool Global) → v.items ≡ drives s.one.var rest.reads → IsEntered s (record { nest = n; drives = v; behind = e.next })
  is_entered v is = record {
    behind = entrance.next_is;
    top = top;
    whole = λ par. record {
      lo = made.lo ∙ ap (λ (b : Bool). end_of b e.next (range_in l).0) par;
      hi = made.hi ∙ ap (λ (b : Bool). end_of b (e.next + 1) (range_in l).1) par;
    };
    chunks = λ par. record {
      lo = made.lo ∙ ap (λ (b : Bool). end_of b e.next (range_in l).0) par;
      hi = made.hi ∙ ap (λ (b : Bool). end_of b (e.next + 1) (range_in l).1) par;
      behind = omega (arith, entrance.next_is);
      apart = omega arith;
      room = omega (arith, made.next);
    };
    comes = record {
      knows = record {
        around_is = site.around;
        words = site.words;
        literals = site.worded;
        slots_are = slots_are v.items is;
        leaves = leaves;
      };
      jumpless = all_jumpless (all_looplets n) (tops_hold_no_jumpers l next n top);
      var = made.var;
      later = omega (arith, made.next, entrance.next_is, end_grows l next);
    };
  }
