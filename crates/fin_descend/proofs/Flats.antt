-- What the functions of a descent to leaves are proved by, one lemma for each goal, over what is known where it stands.
use Rattle.std.proofs.Common.{◌≡◌, ℕ, ◌+◌, ◌<◌, ◌≤◌, max, List, [], ◌∷◌, ◌++◌, length, map, take, get_or, Bool, true, false, refl, sym, ap, subst, ◌∙◌, arith}
use Rattle.std.specs.Prelude.{nat_eq, Result, Ok, Err, IfOk}
use Rattle.std.specs.List.{All, AllZip, list_all}
use Rattle.std.proofs.lemmas.List.{take_more, length-append}
use Rattle.std.proofs.lemmas.List.Elements.{All-nil, All-cons, All-append}
use Rattle.std.proofs.lemmas.Result.{IfOk-weaker}
use Rattle.fin_ir.specs.declared.code.Code.{Code}
use Rattle.fin_ir.specs.declared.layout.Layout.{Layout}
use Rattle.fin_ir.specs.Named.{is_named}
use Rattle.fin_looplet.specs.Weight.{RunsAtPoint}
use Rattle.fin_nest.specs.Courses.{nest_with, Meant}
use Rattle.fin_nest.specs.Frames.{fill}
use Rattle.fin_nest.specs.Senses.{runs}
use Rattle.fin_nest.specs.Sparing.{Staying, all_spare, spares}
use Rattle.fin_nest.proofs.Filling.{filled_skip}
use Rattle.fin_style_point.specs.declared.nest.Nest.{Nest}
use Rattle.fin_style_point.specs.Parts.{all_looplets, course_of}
use Rattle.fin_style_step.specs.Limited.{is_void}
use Rattle.fin_descend.specs.declared.stepping.Split.{Split}
use Rattle.fin_descend.specs.declared.flattening.Flat.{Flat}
use Rattle.fin_descend.specs.declared.flattening.Leaf.{Leaf}
use Rattle.fin_descend.specs.declared.flattening.Leaf.TheVariants.{Point, Fixed, Nothing}
use Rattle.fin_descend.specs.declared.flattening.Told.{Told}
use Rattle.fin_descend.specs.declared.flattening.Told.TheVariants as told
use Rattle.fin_descend.specs.Parts.{weight_in, parts_of, frame_of}
use Rattle.fin_descend.specs.Promises.{Family, MeansIn, Divides, StaySeparate, MeanEach}
use Rattle.fin_descend.specs.Sparing.{KeepsTo}
use Rattle.fin_descend.specs.Holes.{holes, filled_each}
use Rattle.fin_descend.specs.Naming.{NamedNest, step_end}
use Rattle.fin_descend.specs.Flat.{one_leaf, Tells_of, OfLeaf, AtPoint, OfFixed, LeafMeans, MeanLeaves, with_codes, FlatMeans, Flattens, FlattenEach, FlattensSplit}
use Rattle.fin_descend.proofs.Composing.{fill_composes, filled_holes, frames_behind, all_of_behind}
use Rattle.fin_descend.proofs.Descents.{nothing_means, stepped_means, joined, mean_more, all_first, all_last, heavy, all_taken}
use Rattle.fin_descend.proofs.Framing.{parts_spare, appended}
use Rattle.fin_descend.proofs.Holes.{of_hole, step_holes}
use Rattle.fin_descend.proofs.Naming.{named_skip, more_named, append_named}
use Rattle.fin_descend.proofs.NamingFills.{fills_are_named}
use Rattle.fin_descend.proofs.NamingFrames.{parts_are_named}
use Rattle.fin_descend.proofs.Sparing.{and_both, spared_skip, fills_spare}
use Rattle.fin_descend.proofs.Voids.{void_means}

-- ---- a leaf

module _ (family : Family) (comes fixed : Nest → Type 0) (n : Nest) where
  one_means : (leaf : Leaf) → ((c : Code) (room : ℕ) → LeafMeans family room leaf c → MeansIn family (record { code = c; room = room }) n) → FlatMeans family (one_leaf leaf) n
  one_means leaf means [] room h = absurd h
  one_means leaf means (c ∷ []) room h = λ s layout b stands fits.
      subst (λ (x : Code). Meant layout (runs s) (nest_with b (course_of n)) x) (sym (ap (λ (r : Code × List Code). r.0) (filled_skip (c ∷ []))))
      (means c room h.0 s layout b stands (omega (arith, fits)))
  one_means leaf means (c ∷ (d ∷ cs)) room h = absurd h.1

  leaf_flattens : (leaf : Leaf) → ((c : Code) (room : ℕ) → LeafMeans family room leaf c → MeansIn family (record { code = c; room = room }) n)
      → ((P : Nest → Type 0) → P n → OfLeaf P leaf) → OfLeaf comes leaf → AtPoint leaf → OfFixed fixed leaf → Flattens family comes fixed (one_leaf leaf) n
  leaf_flattens leaf means keeps come point known = record {
    holes = omega (arith, of_hole);
    means = one_means leaf means;
    spares = λ s k. (spared_skip s, All-cons (OfLeaf (KeepsTo s)) leaf [] (keeps (KeepsTo s) k) (All-nil (OfLeaf (KeepsTo s))));
    names = λ layout room k.
        (named_skip layout, All-cons (OfLeaf (NamedNest layout)) leaf [] (keeps (NamedNest layout) k) (All-nil (OfLeaf (NamedNest layout))));
    come = All-cons (OfLeaf comes) leaf [] come (All-nil (OfLeaf comes));
    points = All-cons AtPoint leaf [] point (All-nil AtPoint);
    fixed = All-cons (OfFixed fixed) leaf [] known (All-nil (OfFixed fixed));
  }

  returned : {E : Type 0} (r : Result Flat E) (leaf : Leaf) → Flattens family comes fixed (one_leaf leaf) n → IfOk r (λ (f : Flat). f ≡ one_leaf leaf)
      → IfOk r (λ (f : Flat). Flattens family comes fixed f n)
  returned r leaf h is =
      IfOk-weaker r (λ (f : Flat). f ≡ one_leaf leaf) (λ (f : Flat). Flattens family comes fixed f n) (λ f e. subst (λ (x : Flat). Flattens family comes fixed x n) (sym e) h) is

  pub nothing_flattened : {E : Type 0} (r : Result Flat E) (k : Told) → Tells_of family fixed n k → k ≡ told.Nothing → IfOk r (λ (f : Flat). f ≡ one_leaf Nothing)
      → IfOk r (λ (f : Flat). Flattens family comes fixed f n)
  nothing_flattened r k tells is made =
      let nothing = subst (λ (x : Told). Tells_of family fixed n x) is tells in
      returned r Nothing (leaf_flattens Nothing (λ c room e. nothing_means family n (record { code = c; room = room }) nothing e) (λ P k. tt) tt tt tt) made

  pub void_flattened : {E : Type 0} (r : Result Flat E) → is_void n.lo n.hi ≡ true → IfOk r (λ (f : Flat). f ≡ one_leaf Nothing)
      → IfOk r (λ (f : Flat). Flattens family comes fixed f n)
  void_flattened r void made =
      returned r Nothing (leaf_flattens Nothing (λ c room e. void_means n void family (record { code = c; room = room }) e) (λ P k. tt) tt tt tt) made

  pub fixed_flattened : {E : Type 0} (r : Result Flat E) (k : Told) → comes n → Tells_of family fixed n k → k ≡ told.Fixed → IfOk r (λ (f : Flat). f ≡ one_leaf (Fixed n))
      → IfOk r (λ (f : Flat). Flattens family comes fixed f n)
  fixed_flattened r k come tells is made =
      let known = subst (λ (x : Told). Tells_of family fixed n x) is tells in
      returned r (Fixed n) (leaf_flattens (Fixed n) (λ c room e. e) (λ P k. k) come tt known) made

  pub point_flattened : {E : Type 0} (r : Result Flat E) → comes n → RunsAtPoint (all_looplets n) n.lo n.hi → IfOk r (λ (f : Flat). f ≡ one_leaf (Point n))
      → IfOk r (λ (f : Flat). Flattens family comes fixed f n)
  point_flattened r come point made = returned r (Point n) (leaf_flattens (Point n) (λ c room e. e) (λ P k. k) come point tt) made

-- ---- a nest that may be stepped, and weighs something: its split

pub split_fits : (n : Nest) (p : Split) → p.frame ≡ frame_of n → p.nests ≡ parts_of n → holes p.frame ≡ length p.nests
split_fits n p frame parts = ap holes frame ∙ step_holes n ∙ ap (λ (ns : List Nest). length ns) (sym parts)

pub open_flattened : {E : Type 0} (family : Family) (comes fixed : Nest → Type 0) (n : Nest) (p : Split) (weightless : Bool) (r : Result Flat E) → weightless ≡ nat_eq (weight_in n) 0
    → weightless ≡ false → Tells_of family fixed n told.Open → Divides p n → StaySeparate p n → p.frame ≡ frame_of n → p.nests ≡ parts_of n → p.room ≡ step_end n
    → IfOk r (λ (f : Flat). FlattensSplit family comes fixed p f) → IfOk r (λ (f : Flat). Flattens family comes fixed f n)
open_flattened family comes fixed n p weightless r test weighs may divides apart frame parts end made =
    IfOk-weaker r (λ (f : Flat). FlattensSplit family comes fixed p f) (λ (f : Flat). Flattens family comes fixed f n) (λ f j. record {
      holes = j.holes;
      means = λ cs room h.
          stepped_means family n p (with_codes f cs room) may (heavy weightless (weight_in n) test weighs) divides apart (let below = j.room in omega (arith, below)) (j.joins cs room h);
      spares = λ s k.
          let kept = parts_spare s n k in
          j.spares s (subst (λ (c : Code). spares s c ≡ true) (sym frame) kept.0) (subst (λ (ns : List Nest). All (KeepsTo s) ns) (sym parts) kept.1);
      names = λ layout fits k.
          let below = j.room in
          let named = parts_are_named layout n (omega (arith, end, below, fits)) k in
          j.names layout fits (subst (λ (c : Code). is_named layout c ≡ true) (sym frame) named.0) (subst (λ (ns : List Nest). All (NamedNest layout) ns) (sym parts) named.1);
      come = j.come;
      points = j.points;
      fixed = j.fixed;
    }) made

-- ---- a split: its frame with those of the parts

split_flattens : (family : Family) (comes fixed : Nest → Type 0) (p : Split) (frames : List Code) (leaves : List Leaf) (each room : ℕ) → FlattenEach family comes fixed p.nests frames leaves each
    → holes p.frame ≡ length p.nests → p.room ≤ room → each ≤ room → FlattensSplit family comes fixed p (record { frame = fill p.frame frames; leaves = leaves; room = room })
split_flattens family comes fixed p frames leaves each room e fits first second =
    let enough : holes p.frame ≡ length frames = fits ∙ sym e.count in record {
      holes = filled_holes p.frame frames enough ∙ e.holes;
      joins = λ cs more h.
          joined family p (with_codes (record { frame = fill p.frame frames; leaves = leaves; room = room }) cs more) (filled_each frames cs) (max each more)
          (e.means cs more h) (omega (arith, second)) (fill_composes p.frame frames enough cs);
      room = first;
      spares = λ s around keeps. let kept = e.spares s keeps in (fills_spare s p.frame frames around kept.0, kept.1);
      names = λ layout enough around all.
          let named = e.names layout (omega (arith, second, enough)) all in
          (fills_are_named layout p.frame frames around named.0, named.1);
      come = e.come;
      points = e.points;
      fixed = e.fixed;
    }

abbrev flat : Code → List Leaf → ℕ → Flat
flat frame leaves room = record { frame = frame; leaves = leaves; room = room }

flat_of : {E : Type 0} (r : Result Flat E) (frame : Code) (leaves : List Leaf) (room : ℕ) → IfOk r (λ (f : Flat). f.frame ≡ frame) → IfOk r (λ (f : Flat). f.leaves ≡ leaves)
    → IfOk r (λ (f : Flat). f.room ≡ room) → IfOk r (λ (f : Flat). f ≡ record { frame = frame; leaves = leaves; room = room })
flat_of (Ok f) frame leaves room e d g =
    ap (λ (c : Code). flat c f.leaves f.room) e ∙ ap (λ (ls : List Leaf). flat frame ls f.room) d ∙ ap (λ (k : ℕ). flat frame leaves k) g
flat_of (Err x) frame leaves room e d g = tt

pub parts_flattened : {E : Type 0} (family : Family) (comes fixed : Nest → Type 0) (p : Split) (ns : List Nest) (frames : List Code) (leaves : List Leaf) (each room : ℕ) (r : Result Flat E)
    → FlattenEach family comes fixed ns frames leaves each → ns ≡ p.nests → holes p.frame ≡ length p.nests → p.room ≤ room → each ≤ room
    → IfOk r (λ (f : Flat). f.frame ≡ fill p.frame frames) → IfOk r (λ (f : Flat). f.leaves ≡ leaves) → IfOk r (λ (f : Flat). f.room ≡ room)
    → IfOk r (λ (f : Flat). FlattensSplit family comes fixed p f)
parts_flattened family comes fixed p ns frames leaves each room r e are fits first second is_frame is_leaves is_room =
    let here = subst (λ (xs : List Nest). FlattenEach family comes fixed xs frames leaves each) are e in
    let whole : Flat = record { frame = fill p.frame frames; leaves = leaves; room = room } in
    let made = split_flattens family comes fixed p frames leaves each room here fits first second in
    IfOk-weaker r (λ (f : Flat). f ≡ whole) (λ (f : Flat). FlattensSplit family comes fixed p f) (λ f is. subst (λ (x : Flat). FlattensSplit family comes fixed p x) (sym is) made)
    (flat_of r (fill p.frame frames) leaves room is_frame is_leaves is_room)

-- ---- codes for leaves, one list behind another

record InTwo (R : Leaf → Code → Type 0) (xs ys : List Leaf) (cs : List Code) : Type 0 where
  first : List Code
  last : List Code
  whole : cs ≡ first ++ last
  firsts : AllZip R xs first
  lasts : AllZip R ys last

in_two : (R : Leaf → Code → Type 0) (xs ys : List Leaf) (cs : List Code) → AllZip R (xs ++ ys) cs → InTwo R xs ys cs
in_two R [] ys cs h = record { first = []; last = cs; whole = refl; firsts = tt; lasts = h }
in_two R (x ∷ xs) ys [] h = absurd h
in_two R (x ∷ xs) ys (c ∷ cs) h =
    let rest = in_two R xs ys cs h.1 in
    record { first = c ∷ rest.first; last = rest.last; whole = ap (λ (ds : List Code). c ∷ ds) rest.whole; firsts = (h.0, rest.firsts); lasts = rest.lasts }

one_for_each : (R : Leaf → Code → Type 0) (xs : List Leaf) (cs : List Code) → AllZip R xs cs → length xs ≡ length cs
one_for_each R [] [] h = refl
one_for_each R [] (c ∷ cs) h = absurd h
one_for_each R (x ∷ xs) [] h = absurd h
one_for_each R (x ∷ xs) (c ∷ cs) h = let e = one_for_each R xs cs h.1 in omega (arith, e)

-- ---- the nests of a split, one after another

at_first : (family : Family) (comes fixed : Nest → Type 0) → FlattenEach family comes fixed [] [] [] 0
at_first family comes fixed = record {
  count = refl;
  holes = refl;
  means = none;
  spares = λ s keeps. (refl, All-nil (OfLeaf (KeepsTo s)));
  names = λ layout fits all. (refl, All-nil (OfLeaf (NamedNest layout)));
  come = All-nil (OfLeaf comes);
  points = All-nil AtPoint;
  fixed = All-nil (OfFixed fixed);
} where
  none : (cs : List Code) (more : ℕ) → MeanLeaves family [] cs more → MeanEach family [] (filled_each [] cs) (max 0 more)
  none [] more h s layout b stands fits = tt
  none (c ∷ cs) more h s layout b stands fits = tt

pub none_flattened : (family : Family) (comes fixed : Nest → Type 0) (frames : List Code) (leaves : List Leaf) → frames ≡ [] → leaves ≡ [] → FlattenEach family comes fixed [] frames leaves 0
none_flattened family comes fixed frames leaves e d =
    subst (λ (cs : List Code). FlattenEach family comes fixed [] cs leaves 0) (sym e) (subst (λ (ls : List Leaf). FlattenEach family comes fixed [] [] ls 0) (sym d) (at_first family comes fixed))

module _ (family : Family) (comes fixed : Nest → Type 0) (ns : List Nest) (i : ℕ) (n : Nest) (f : Flat) (frames : List Code) (leaves : List Leaf) (room more : ℕ) (below : i < length ns)
    (is : n ≡ get_or ns i n) (so_far : FlattenEach family comes fixed (take i ns) frames leaves room) (one : Flattens family comes fixed f n) (first : room ≤ more) (second : f.room ≤ more) where
  taken : take (i + 1) ns ≡ take i ns ++ n ∷ []
  taken = take_more ns i n below ∙ ap (λ (x : Nest). take i ns ++ x ∷ []) (sym is)

  more_mean : (cs : List Code) (room_of : ℕ) → MeanLeaves family (leaves ++ f.leaves) cs room_of
      → MeanEach family (take (i + 1) ns) (filled_each (frames ++ f.frame ∷ []) cs) (max more room_of)
  more_mean cs room_of h =
      let p = in_two (LeafMeans family room_of) leaves f.leaves cs h in
      let count = so_far.holes ∙ one_for_each (LeafMeans family room_of) leaves p.first p.firsts in
      let e : filled_each (frames ++ f.frame ∷ []) cs ≡ filled_each frames p.first ++ fill f.frame p.last ∷ []
      = ap (filled_each (frames ++ f.frame ∷ [])) p.whole ∙ frames_behind frames f.frame p.first p.last count in
      subst (λ (ds : List Code). MeanEach family (take (i + 1) ns) ds (max more room_of)) (sym e)
      (mean_more family ns i n (with_codes f p.last room_of) (filled_each frames p.first) (max room room_of) (max more room_of) below is
      (so_far.means p.first room_of p.firsts) (one.means p.last room_of p.lasts) (omega (arith, first)) (omega (arith, second)))

  more_spare : (s : Staying) → All (KeepsTo s) (take (i + 1) ns)
      → (all_spare (map (spares s) (frames ++ f.frame ∷ [])) ≡ true) × All (OfLeaf (KeepsTo s)) (leaves ++ f.leaves)
  more_spare s keeps =
      let all = subst (λ (xs : List Nest). All (KeepsTo s) xs) taken keeps in
      let before = so_far.spares s (all_first (KeepsTo s) (take i ns) n all) in
      let here = one.spares s (all_last (KeepsTo s) (take i ns) n all) in
      (appended s frames (f.frame ∷ []) before.0 (and_both (spares s f.frame) true here.0 refl), All-append (OfLeaf (KeepsTo s)) leaves f.leaves before.1 here.1)

  more_names : (layout : Layout) → more ≤ layout.locals → All (NamedNest layout) (take (i + 1) ns)
      → (list_all (is_named layout) (frames ++ f.frame ∷ []) ≡ true) × All (OfLeaf (NamedNest layout)) (leaves ++ f.leaves)
  more_names layout fits named =
      let all = subst (λ (xs : List Nest). All (NamedNest layout) xs) taken named in
      let before = so_far.names layout (omega (arith, first, fits)) (all_first (NamedNest layout) (take i ns) n all) in
      let here = one.names layout (omega (arith, second, fits)) (all_last (NamedNest layout) (take i ns) n all) in (
        append_named layout frames (f.frame ∷ []) before.0 (more_named layout f.frame [] here.0 refl),
        All-append (OfLeaf (NamedNest layout)) leaves f.leaves before.1 here.1,
      )

  one_more : FlattenEach family comes fixed (take (i + 1) ns) (frames ++ f.frame ∷ []) (leaves ++ f.leaves) more
  one_more = record {
    count =
        let e = ap (λ (xs : List Nest). length xs) taken in
        omega (arith, e, so_far.count, length-append frames (f.frame ∷ []), length-append (take i ns) (n ∷ []));
    holes = omega (arith, all_of_behind frames f.frame, so_far.holes, one.holes, length-append leaves f.leaves);
    means = more_mean;
    spares = more_spare;
    names = more_names;
    come = All-append (OfLeaf comes) leaves f.leaves so_far.come one.come;
    points = All-append AtPoint leaves f.leaves so_far.points one.points;
    fixed = All-append (OfFixed fixed) leaves f.leaves so_far.fixed one.fixed;
  }

  pub each_flattened : (now : List Code) (whole : List Leaf) → now ≡ frames ++ f.frame ∷ [] → whole ≡ leaves ++ f.leaves → FlattenEach family comes fixed (take (i + 1) ns) now whole more
  each_flattened now whole e d =
      subst (λ (xs : List Code). FlattenEach family comes fixed (take (i + 1) ns) xs whole more) (sym e)
      (subst (λ (ls : List Leaf). FlattenEach family comes fixed (take (i + 1) ns) (frames ++ f.frame ∷ []) ls more) (sym d) one_more)

pub all_flattened : (family : Family) (comes fixed : Nest → Type 0) (ns : List Nest) (i : ℕ) (frames : List Code) (leaves : List Leaf) (room : ℕ) → length ns ≤ i
    → FlattenEach family comes fixed (take i ns) frames leaves room → FlattenEach family comes fixed ns frames leaves room
all_flattened family comes fixed ns i frames leaves room h each = all_taken (λ (xs : List Nest). FlattenEach family comes fixed xs frames leaves room) ns i h each
