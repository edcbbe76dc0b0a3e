-- The code of a nest from those of its leaves: they fill its frame, which leaves what the nest keeps to and declares nothing.
use Rattle.std.proofs.Common.{◌≡◌, ℕ, ◌+◌, ◌<◌, ◌≤◌, Bool, true, false, List, [], ◌∷◌, ◌++◌, length, map, take, get_or, refl, sym, ap, subst, ◌∙◌, arith}
use Rattle.std.specs.List.{All, AllZip}
use Rattle.std.proofs.lemmas.List.{take_more}
use Rattle.std.proofs.lemmas.List.Elements.{All-nil, All-cons, All-head, All-tail}
use Rattle.fin_ir.specs.declared.code.Code.{Code}
use Rattle.fin_ir.specs.declared.code.Code.TheVariants.{Skip}
use Rattle.fin_ir.specs.Declares.{Tensors, some_of, declares_step, declares}
use Rattle.fin_ir.proofs.Nodes.{of_skip}
use Rattle.fin_ir.specs.Named.{is_named}
use Rattle.fin_nest.specs.Frames.{fill}
use Rattle.fin_nest.specs.Sparing.{Staying, spares}
use Rattle.fin_simp.specs.Fresh.{fresh_in}
use Rattle.fin_style_point.specs.declared.nest.Nest.{Nest}
use Rattle.fin_descend.specs.declared.flattening.Flat.{Flat}
use Rattle.fin_descend.specs.declared.flattening.Leaf.{Leaf}
use Rattle.fin_descend.specs.declared.flattening.Leaf.TheVariants.{Point, Fixed, Nothing}
use Rattle.fin_descend.specs.declared.lowered.Lowered.{Lowered}
use Rattle.fin_descend.specs.Flat.{OfLeaf, OfFixed, AtPoint, LeafMeans, MeanLeaves, Flattens}
use Rattle.fin_descend.specs.Promises.{Family, MeansIn}
use Rattle.fin_descend.specs.Sparing.{KeepsTo}
use Rattle.fin_descend.specs.Naming.{NamedNest}
use Rattle.fin_descend.proofs.Descents.{all_first, all_last}
use Rattle.fin_descend.proofs.Naming.{named_skip}
use Rattle.fin_descend.proofs.NamingFills.{fills_are_named}
use Rattle.fin_descend.proofs.Framing.{appended}
use Rattle.fin_descend.proofs.Sparing.{and_both, fills_spare, spared_skip}
use Rattle.fin_loops.specs.Loops.{Loop, OfLoop}
use Rattle.fin_stmts.specs.declared.entered.Site.{Site}
use Rattle.fin_stmts.specs.declared.leaves.LeafCodes.{LeafCodes}
use Rattle.fin_stmts.specs.Leaves.{IsLeaf, LeafLowers, LeavesLower, NestLowers}
use Rattle.fin_stmts.specs.Sites.{Comes, IsFixed, loop_of}
use Rattle.fin_perform.specs.Layouts.{layout_with}
use Rattle.fin_perform.proofs.NamingNodes.{some_more, alone as named_alone}
use Rattle.fin_perform.proofs.Spared.{neither, some_append}
use Rattle.fin_stmts.proofs.Declaring.{undeclared, filled_undeclared}
use Rattle.fin_stmts.proofs.Sequences.{declared_if, not_declared}

-- ---- more room

more_leaf : (family : Family) (room more : ℕ) → room ≤ more → (leaf : Leaf) (c : Code) → LeafMeans family room leaf c → LeafMeans family more leaf c
more_leaf family room more le (Point n) c h = λ s layout b stands fits. h s layout b stands (omega (arith, fits, le))
more_leaf family room more le (Fixed n) c h = λ s layout b stands fits. h s layout b stands (omega (arith, fits, le))
more_leaf family room more le Nothing c h = h

more_leaves : (family : Family) (room more : ℕ) → room ≤ more → (leaves : List Leaf) (cs : List Code) → MeanLeaves family leaves cs room → MeanLeaves family leaves cs more
more_leaves family room more le [] [] h = tt
more_leaves family room more le [] (c ∷ cs) h = absurd h
more_leaves family room more le (x ∷ xs) [] h = absurd h
more_leaves family room more le (x ∷ xs) (c ∷ cs) h = (more_leaf family room more le x c h.0, more_leaves family room more le xs cs h.1)

-- ---- leaves one after another

one_more : (R : Leaf → Code → Type 0) (xs : List Leaf) (cs : List Code) (x : Leaf) (c : Code) → AllZip R xs cs → R x c → AllZip R (xs ++ x ∷ []) (cs ++ c ∷ [])
one_more R [] [] x c h r = (r, tt)
one_more R [] (d ∷ cs) x c h r = absurd h
one_more R (y ∷ xs) [] x c h r = absurd h
one_more R (y ∷ xs) (d ∷ cs) x c h r = (h.0, one_more R xs cs x c h.1 r)

module _ (l : Loop) where
  pub no_leaves : LeavesLower l [] (record { codes = []; room = 0 })
  no_leaves = record { means = λ source. tt; spares = λ s out keeps. refl; declares = λ t e. let h : false ≡ true = e in cc; names = λ room sc le body nest. refl }

  module _ (leaves : List Leaf) (i : ℕ) (leaf : Leaf) (codes : List Code) (room : ℕ) (m : Lowered) (more : ℕ) (below : i < length leaves) (is : leaf ≡ get_or leaves i leaf)
      (so_far : LeavesLower l (take i leaves) (record { codes = codes; room = room })) (one : LeafLowers l leaf m) (first : room ≤ more) (second : m.room ≤ more) where
    taken : take (i + 1) leaves ≡ take i leaves ++ leaf ∷ []
    taken = take_more leaves i leaf below ∙ ap (λ (x : Leaf). take i leaves ++ x ∷ []) (sym is)

    pub leaf_more : LeavesLower l (take (i + 1) leaves) (record { codes = codes ++ m.code ∷ []; room = more })
    leaf_more = record {
      means = λ source.
          subst (λ (xs : List Leaf). MeanLeaves (OfLoop l) xs (codes ++ m.code ∷ []) more) (sym taken)
          (one_more (LeafMeans (OfLoop l) more) (take i leaves) codes leaf m.code
          (more_leaves (OfLoop l) room more first (take i leaves) codes (so_far.means source)) (more_leaf (OfLoop l) m.room more second leaf m.code (one.means source)));
      spares = λ s out keeps.
          let all = subst (λ (xs : List Leaf). All (OfLeaf (KeepsTo s)) xs) taken keeps in
          appended s codes (m.code ∷ []) (so_far.spares s out (all_first (OfLeaf (KeepsTo s)) (take i leaves) leaf all))
          (and_both (spares s m.code) true (one.spares s out (all_last (OfLeaf (KeepsTo s)) (take i leaves) leaf all)) refl);
      declares = λ t.
          declared_if (fresh_in l.body) (some_of (map declares (codes ++ m.code ∷ [])) t) t
          (λ e. some_append t codes (m.code ∷ []) (not_declared (fresh_in l.body) (some_of (map declares codes) t) t (so_far.declares t) e)
          (neither (declares m.code t) false (not_declared (fresh_in l.body) (declares m.code t) t (one.declares t) e) refl));
      names = λ room' sc le body nests.
          let layout = layout_with l.checked room' in
          let all = subst (λ (xs : List Leaf). All (OfLeaf (NamedNest layout)) xs) taken nests in
          some_more layout codes (m.code ∷ []) (so_far.names room' sc (omega (arith, le, first)) body (all_first (OfLeaf (NamedNest layout)) (take i leaves) leaf all))
          (named_alone layout m.code (one.names room' sc (omega (arith, le, second)) body (all_last (OfLeaf (NamedNest layout)) (take i leaves) leaf all)));
    }

-- an item of a list of which all have a property
pub item_has : (P : Leaf → Type 0) (leaves : List Leaf) (i : ℕ) (leaf : Leaf) → i < length leaves → leaf ≡ get_or leaves i leaf → All P leaves → P leaf
item_has P leaves i leaf below is all = subst P (sym is) (all i leaf below)

-- a leaf with nothing to do
pub none_lowers_leaf : (l : Loop) (m : Lowered) → m.code ≡ Skip → LeafLowers l Nothing m
none_lowers_leaf l m empty = record {
  means = λ source. empty;
  spares = λ s out keeps. ap (spares s) empty ∙ spared_skip s;
  declares = λ t e. let h : false ≡ true = sym (ap (λ (c : Code). declares c t) empty ∙ ap (λ (own : Tensors). own t) (of_skip Tensors declares_step)) ∙ e in cc;
  names = λ room sc le body nest. ap (is_named (layout_with l.checked room)) empty ∙ named_skip (layout_with l.checked room);
}

-- ---- the leaves of a flat nest

each_leaf : (s : Site) (ds : List Bool) (leaves : List Leaf) → All (OfLeaf (Comes s ds)) leaves → All (OfFixed (IsFixed s)) leaves → All AtPoint leaves → All (IsLeaf s ds) leaves
each_leaf s ds [] come fixed points = All-nil (IsLeaf s ds)
each_leaf s ds (x ∷ xs) come fixed points =
    All-cons (IsLeaf s ds) x xs
    (record { comes = All-head (OfLeaf (Comes s ds)) x xs come; fixed = All-head (OfFixed (IsFixed s)) x xs fixed; point = All-head AtPoint x xs points })
    (each_leaf s ds xs (All-tail (OfLeaf (Comes s ds)) x xs come) (All-tail (OfFixed (IsFixed s)) x xs fixed) (All-tail AtPoint x xs points))

module _ (s : Site) (ds : List Bool) (n : Nest) (flat : Flat) (made : Flattens (OfLoop (loop_of s)) (Comes s ds) (IsFixed s) flat n) where
  pub flat_leaves : All (IsLeaf s ds) flat.leaves
  flat_leaves = each_leaf s ds flat.leaves made.come made.fixed made.points

  -- the frame leaves all tensors as they are
  abbrev all_stay : Staying
  all_stay = record { locals = λ y. false; tensors = λ t. true }

  keeps_all : KeepsTo all_stay n
  keeps_all = record { var = refl; below = λ x e. let h : false ≡ true = e in cc; own = λ x o. refl }

  frame_undeclared : (t : ℕ) → declares flat.frame t ≡ false
  frame_undeclared t = undeclared all_stay t refl flat.frame (made.spares all_stay keeps_all).0

  pub nest_lowers : (k : LeafCodes) (m : Lowered) → LeavesLower (loop_of s) flat.leaves k → m.code ≡ fill flat.frame k.codes → flat.room ≤ m.room → k.room ≤ m.room
      → NestLowers (loop_of s) n m
  nest_lowers k m each code frame room = record {
    means = λ source st layout b stands fits.
        subst (λ (c : Code). MeansIn (OfLoop (loop_of s)) (record { code = c; room = m.room }) n) (sym code)
        (λ st layout b stands fits.
        made.means k.codes m.room (more_leaves (OfLoop (loop_of s)) k.room m.room room flat.leaves k.codes (each.means source)) st layout b stands (omega (arith, fits, frame)))
        st layout b stands fits;
    spares = λ st out keeps.
        let kept = made.spares st keeps in
        ap (spares st) code ∙ fills_spare st flat.frame k.codes kept.0 (each.spares st out kept.1);
    declares = λ t.
        declared_if (fresh_in (loop_of s).body) (declares m.code t) t
        (λ e. ap (λ (c : Code). declares c t) code ∙ filled_undeclared t flat.frame k.codes (frame_undeclared t)
        (not_declared (fresh_in (loop_of s).body) (some_of (map declares k.codes) t) t (each.declares t) e));
    names = λ more sc le body nest.
        let layout = layout_with s.checked.now more in
        let named = made.names layout (omega (arith, le, frame)) nest in
        ap (is_named layout) code ∙ fills_are_named layout flat.frame k.codes named.0 (each.names more sc (omega (arith, le, room)) body named.1);
  }
