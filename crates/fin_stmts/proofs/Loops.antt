-- The codes of a loop: those of its entry, and behind them that of its nest, at once or chunk by chunk.
use Rattle.std.proofs.Common.{◌≡◌, ⊎_elim, inl, inr, ℕ, ◌+◌, ◌<◌, ◌≤◌, ◌^◌, Bool, true, false, ◌&&◌, List, [], ◌∷◌, ◌++◌, length, map, Option, Some, None, if◌then◌else◌, refl, sym, ap, subst, ◌∙◌, arith}
use Rattle.std.specs.Prelude.{nat_eq, nat_le, nat_lt, max, not}
use Rattle.std.proofs.lemmas.Bool.Decides.{nat_tests}
use Rattle.fin_ast.specs.declared.tree.Index.{Index}
use Rattle.fin_ast.specs.declared.tree.Stmt.{Stmt}
use Rattle.fin_ast.specs.declared.tree.Stmt.TheOpen.{Stmt-F}
use Rattle.fin_ast.specs.declared.tree.Stmt.TheVariants as s
use Rattle.fin_ast.specs.Bindings.{bindings_step, bindings_of, bindings_of_all}
use Rattle.fin_ast.specs.Scope.{is_among}
use Rattle.fin_ast.proofs.Nodes as tree
use Rattle.fin_ir.specs.declared.code.Code.{Code}
use Rattle.fin_ir.specs.Declares.{Tensors, some_of, declares_step, declares}
use Rattle.fin_ir.proofs.Nodes as node
use Rattle.fin_looplet.specs.Lists.{AnyOwns}
use Rattle.fin_looplet.specs.Locals.{Owns}
use Rattle.fin_unfurl.proofs.Moving.{mask_owns}
use Rattle.fin_nest.specs.Sparing.{Staying, all_spare, spare_step, spares}
use Rattle.fin_read.specs.Values.{Heads, format_of, value_code}
use Rattle.fin_simp.specs.Costs.{MasksCompare}
use Rattle.fin_simp.specs.Left.{Marks}
use Rattle.fin_simp.specs.Fresh.{fresh_step, fresh_of, fresh_in}
use Rattle.fin_simp.specs.Numbered.{Here, numbered_all}
use Rattle.fin_simp.specs.Remaining.{is_nothing}
use Rattle.fin_simp.specs.Rest.{Access, Kind, Nothing, OneUpdate, Other, Rest, is_none_kind, no_expr, within_kind, rest_step, rest_of, written_step}
use Rattle.fin_simp.specs.Sights.{driven_index}
use Rattle.fin_simp.specs.Work.{Context, is_in, inside}
use Rattle.fin_simp.proofs.Equations.{at_loop}
use Rattle.fin_simp.proofs.Resting.{rest_agrees}
use Rattle.fin_drive.specs.Looplets.{back, driven_looplet, turned_round}
use Rattle.fin_drive.proofs.Apart.{driven_owns}
use Rattle.fin_style_point.specs.declared.nest.Nest.{Nest}
use Rattle.fin_descend.specs.declared.lowered.Lowered.{Lowered}
use Rattle.fin_descend.specs.Sparing.{KeepsTo}
use Rattle.fin_enter.specs.Positions.{spot_at}
use Rattle.fin_enter.specs.Together.{Around, settled_index, behind_place}
use Rattle.fin_enter.specs.Masked.{Tested, tested_among}
use Rattle.fin_enter.specs.LoopEntry.{bounds_by, reading_with, shape_in, waiting, read_looplet, behind_cursor, read_looplets, mask_looplets}
use Rattle.fin_enter.proofs.Entering.{cursor_grows}
use Rattle.fin_enter.proofs.Masked.{bounds_grow}
use Rattle.fin_enter.proofs.Together.{places_grow}
use Rattle.fin_perform.specs.Layouts.{variables_in}
use Rattle.fin_perform.specs.Meanings.{Means, stmt_deed}
use Rattle.fin_perform.specs.Places.{changes, change_all}
use Rattle.fin_perform.specs.Working.{nothing_in}
use Rattle.fin_perform.proofs.Spared.{neither, first_not, second_not, some_append, spared_append}
use Rattle.fin_perform.proofs.Staying.{OffStmt, off_free}
use Rattle.fin_loops.specs.Loops.{Loop, rest_entered, changed_in}
use Rattle.fin_loops.specs.Entering.{stmt_of, IsNested}
use Rattle.fin_loops.specs.Chunked.{IsOfChunks}
use Rattle.fin_loops.specs.Parallel.{Ends, range_in, chunks_code}
use Rattle.fin_loops.specs.Sparing.{around_stmt}
use Rattle.fin_loops.specs.Sourced.{Sourced, CanBegin, IsWhole, entry_code_of}
use Rattle.fin_loops.specs.Tops.{around_of, looplets_from, own_first, own_end, IsTop, IsNumbered}
use Rattle.fin_loops.proofs.Chunked.{chunks_enter}
use Rattle.fin_loops.proofs.Empty.{empty_loops_mean}
use Rattle.fin_loops.proofs.Entering.{loops_mean}
use Rattle.fin_loops.proofs.Parallel.{parallel_loops_mean}
use Rattle.fin_loops.proofs.Sourced.{entries_enter}
use Rattle.fin_loops.specs.Naming.{IsNamedLoop}
use Rattle.fin_loops.proofs.NamingTops.{tops_are_named}
use Rattle.fin_loops.proofs.Sources.{sources_hand_down, sources_of_loops}
use Rattle.fin_ast.specs.Scope.{within_loop}
use Rattle.fin_ir.specs.Named.{is_named}
use Rattle.fin_perform.specs.Layouts.{layout_with}
use Rattle.fin_perform.specs.Naming.{NamesStmt}
use Rattle.fin_perform.proofs.Naming.{bodies}
use Rattle.fin_perform.proofs.NamingNodes.{some_more, alone as named_alone}
use Rattle.fin_stmts.proofs.NamedLoops.{nest_named, body_scope, chunks_named}
use Rattle.fin_loops.proofs.Sparing.{codes_spare}
use Rattle.fin_loops.proofs.SparingEntries.{entries_spare}
use Rattle.fin_loops.proofs.TopsJumpless.{tops_hold_no_jumpers}
use Rattle.fin_loops.proofs.TopsNamed.{tops_are_separate}
use Rattle.fin_stmts.specs.declared.entered.Entered.{Entered}
use Rattle.fin_stmts.specs.declared.entered.Site.{Site}
use Rattle.fin_stmts.specs.declared.place.Codes.{Codes}
use Rattle.fin_stmts.specs.Leaves.{NestLowers, OfBody, StaysOut}
use Rattle.fin_stmts.specs.Lowering.{HasSource, Lowers}
use Rattle.fin_stmts.specs.Sites.{IsEntered, IsSite, LowersLoop, ends_at, loop_of}
use Rattle.fin_stmts.proofs.Declaring.{undeclared}
use Rattle.fin_stmts.proofs.Entering.{end_grows}
use Rattle.fin_stmts.proofs.Extents.{range_small}
use Rattle.fin_stmts.proofs.Sequences.{declared_if, not_declared}

left : (a b : Bool) → (a && b) ≡ true → a ≡ true
left true b e = refl
left false b e = e

right : (a b : Bool) → (a && b) ≡ true → b ≡ true
right true b e = e
right false b e = cc

both : (a b : Bool) → a ≡ true → b ≡ true → (a && b) ≡ true
both true b e f = f
both false b e f = cc

not_true : (b : Bool) → not b ≡ true → b ≡ false
not_true true e = cc
not_true false e = refl

same_eq : (t : ℕ) → nat_eq t t ≡ true
same_eq t = let same : t ≡ t = refl in grind (arith, nat_tests)

le_true : (a b : ℕ) → a ≤ b → nat_le a b ≡ true
le_true a b le = grind (arith, nat_tests)

not_less : (a b : Bool) → (a ≡ true → b ≡ true) → b ≡ false → a ≡ false
not_less true b f e = let h : false ≡ true = sym e ∙ f refl in cc
not_less false b f e = refl

-- ---- what the body changes and binds

within_changed : (r : Rest) (k : Kind) → r.kind ≡ k → is_none_kind (within_kind k no_expr [] r).kind ≡ false → (within_kind k no_expr [] r).changed ≡ r.changed
within_changed r Nothing is some = cc
within_changed r OneUpdate is some = refl
within_changed r Other is some = refl

some_left : (x : Stmt) (h : Here) (m : Marks) (r : Rest) → is_nothing x h m ≡ false → rest_of x h m ≡ r → is_none_kind r.kind ≡ false
some_left x h m r some is = ap (λ (q : Rest). is_none_kind q.kind) (sym is) ∙ rest_agrees x h m ∙ some

module _ (var : ℕ) (range : Option (ℕ × ℕ)) (par : Bool) (xs : List Stmt) (line last : ℕ) (h : Here) where
  abbrev x : Stmt
  x = s.Loop var range par xs line last

  abbrev loop_left : Marks → Rest
  loop_left m = rest_step h (Stmt-F.Loop var range par (numbered_all (Marks → Rest) rest_step xs h) line last) m

  loop_changes : (ctx : Context) → nothing_in x h ctx ≡ false → (t : ℕ) → change_all xs h (inside ctx var None) t ≡ true → changes x h ctx t ≡ true
  loop_changes None some t e = ap (λ (r : Rest). is_in r.changed t) (at_loop Rest written_step var range par xs line last h) ∙ e
  loop_changes (Some m) some t e =
      let is = ap (λ (f : Marks → Rest). f m) (at_loop (Marks → Rest) rest_step var range par xs line last h) in
      ap (λ (r : Rest). is_in r.changed t) is
      ∙ ap (λ (cs : List ℕ). is_in cs t) (within_changed _ _ refl (some_left x h m (loop_left m) some is)) ∙ e

  bound_is : bindings_of x ≡ var ∷ bindings_of_all xs
  bound_is = tree.of_loop (List ℕ) bindings_step var range par xs line last

  fresh_is : fresh_of x ≡ fresh_in xs
  fresh_is = tree.of_loop (List ℕ) fresh_step var range par xs line last

  module _ (ctx : Context) (st : Staying) (next : ℕ) (off : OffStmt st next x h ctx) where
    unbound : (y : ℕ) → st.locals y ≡ true → is_among (var ∷ bindings_of_all xs) y ≡ false
    unbound y e = ap (λ (vs : List ℕ). is_among vs y) (sym bound_is) ∙ off.unbound y e

    pub off_var : st.locals var ≡ false
    off_var = by (st.locals var) refl where
      by : (b : Bool) → st.locals var ≡ b → st.locals var ≡ false
      by false e = e
      by true e =
          let own : nat_eq var var ≡ false = first_not (nat_eq var var) _ (unbound var e) in
          let same : var ≡ var = refl in
          grind (arith, nat_tests, own)

    pub off_body : (y : ℕ) → st.locals y ≡ true → is_among (bindings_of_all xs) y ≡ false
    off_body y e = second_not _ _ (unbound y e)

    pub off_changed : nothing_in x h ctx ≡ false → (t : ℕ) → st.tensors t ≡ true → change_all xs h (inside ctx var None) t ≡ false
    off_changed some t e = not_less _ _ (loop_changes ctx some t) (off.unwritten t e)

-- ---- what the looplets of the entry own

module _ (l : Around) where
  module _ (a : Access) (at cursor y : ℕ) where
    by_level : (d : ℕ × Index) (b : Bool)
        → Owns y (if b then driven_looplet (format_of l.heads a.tensor) (reading_with l a d cursor (shape_in l a)) (spot_at d.0 at (back (reading_with l a d cursor (shape_in l a)))) else waiting) → cursor ≤ y
    by_level d true h =
        let r = reading_with l a d cursor (shape_in l a) in
        ⊎_elim (λ (e : y ≡ cursor). omega (arith, e)) (λ (e : y ≡ cursor + 1). omega (arith, e)) (driven_owns (format_of l.heads a.tensor) r (spot_at d.0 at (back r)) y h)
    by_level d false h = absurd h

    read_owns : (o : Option (ℕ × Index)) → Owns y (read_looplet l a o at cursor) → cursor ≤ y
    read_owns None h = absurd h
    read_owns (Some d) h = by_level d (nat_lt d.0 (length (format_of l.heads a.tensor).levels)) h

  masks_own : (hs : Heads) (ts : List Tested) (at y : ℕ) → AnyOwns y (mask_looplets hs ts at) → ⊥
  masks_own hs [] at y h = h
  masks_own hs (t ∷ ts) at y (inl h) = mask_owns (if t.bare_first then t.op else turned_round t.op) (value_code hs t.bound at).value y h
  masks_own hs (t ∷ ts) at y (inr h) = masks_own hs ts (value_code hs t.bound at).next y h

  entry_owns : (reads : List Access) (ts : List Tested) (at bounds cursor y : ℕ) → AnyOwns y (read_looplets l reads at cursor ++ mask_looplets l.heads ts bounds) → cursor ≤ y
  entry_owns [] ts at bounds cursor y h = absurd (masks_own l.heads ts bounds y h)
  entry_owns (a ∷ reads) ts at bounds cursor y (inl h) = read_owns a at cursor y (driven_index l.var a.at) h
  entry_owns (a ∷ reads) ts at bounds cursor y (inr h) =
      let o = driven_index l.var a.at in
      omega (arith, cursor_grows o cursor, entry_owns reads ts (behind_place (settled_index l a) at) bounds (behind_cursor o cursor) y h)

top_owns : (l : Loop) (next y : ℕ) → AnyOwns y (looplets_from l next) → next ≤ y
top_owns l next y h =
    let a = around_of l in
    let r = rest_entered l in
    let ts = tested_among l.var r.tests in
    omega (arith, places_grow a r.reads next, bounds_grow a.heads ts (bounds_by a r.reads next), entry_owns a r.reads ts next (bounds_by a r.reads next) (own_first l next) y h)

top_keeps : (l : Loop) (next : ℕ) (top : Nest) (st : Staying) → IsTop l next top → st.locals l.var ≡ false → ((y : ℕ) → st.locals y ≡ true → y < next) → KeepsTo st top
top_keeps l next top st is free low = record {
  var = ap st.locals is.var ∙ free;
  below = λ y e. omega (arith, low y e, end_grows l next, is.room);
  own = λ y h. off_free y (top_owns l next y (subst (AnyOwns y) is.looplets h)) st low;
}

-- ---- codes that spare all tensors declare none

abbrev all_stay : Staying
all_stay = record { locals = λ y. false; tensors = λ t. true }

none_declared : (st : Staying) (t : ℕ) → st.tensors t ≡ true → (cs : List Code) → all_spare (map (spares st) cs) ≡ true → some_of (map declares cs) t ≡ false
none_declared st t stays [] e = refl
none_declared st t stays (x ∷ cs) e =
    neither (declares x t) _ (undeclared st t stays x (left (spares st x) _ e)) (none_declared st t stays cs (right (spares st x) _ e))

-- ---- what the laws of loops ask

around_off : (b : Stmt) (h : Here) (ctx : Context) (next : ℕ) → OffStmt (around_stmt b h ctx next) next b h ctx
around_off b h ctx next = record {
  below = λ y e. let lt : nat_lt y next ≡ true = left (nat_lt y next) _ e in grind (arith, nat_tests, lt);
  unbound = λ y e. not_true (is_among (bindings_of b) y) (right (nat_lt y next) _ e);
  unwritten = λ t e. not_true (changes b h ctx t) e;
}

module _ (compare : MasksCompare) (l : Loop) (range : Option (ℕ × ℕ)) (line last next need : ℕ) (top : Nest) (low : Lowered) (is : IsTop l next top) (nest : NestLowers l top low)
    (fits : low.room ≤ need) (room : top.next ≤ need) (ordered : (range_in l).0 ≤ (range_in l).1) (free : variables_in l.checked ≤ next) where
  abbrev as_stmt : Bool → Stmt
  as_stmt par = stmt_of l range par line last

  abbrev From : Bool → Type 0
  From par = HasSource l.checked (as_stmt par ∷ []) l.here

  module _ (par : Bool) (some : nothing_in (as_stmt par) l.here l.context ≡ false) (source : From par) where
    laws : Sourced l × IsNumbered l next
    laws = sources_of_loops l range par line last source.0 next source.1 free

    can_begin : CanBegin l range par line last next need
    can_begin = record { some = some; ordered = ordered; room = omega (arith, room, is.room) }

    nested : IsNested l (as_stmt par) next need top low
    nested = record {
      some = some;
      low = omega (arith, end_grows l next, is.room, room);
      separate = tops_are_separate l range par line last next top laws.1 is;
      jumpless = tops_hold_no_jumpers l next top is;
      means = nest.means (source.0 + 1, ((sources_hand_down l.checked l.here source.0).loop l.var range par l.body line last source.1).1);
      room = fits;
    }

  abbrev Spared : Bool → List Code → Type 0
  Spared par cs = all_spare (map (spares (around_stmt (as_stmt par) l.here l.context next)) cs) ≡ true

  pub at_once : (par : Bool) → par ≡ false → nothing_in (as_stmt par) l.here l.context ≡ false → From par → IsWhole l top → Spared par (entry_code_of l par next ++ low.code ∷ [])
      → Means l.checked next need (entry_code_of l par next ++ low.code ∷ []) (stmt_deed (as_stmt par) l.here l.context)
  at_once true e some source whole spare = let k : true ≡ false = e in cc
  at_once false e some source whole spare =
      loops_mean compare l range line last next need (entry_code_of l false next) top low (record {
        nest = nested false some source;
        enters = entries_enter l range line last next need top (laws false some source).0 (laws false some source).1 is whole (can_begin false some source);
        spares = codes_spare (as_stmt false) l.here l.context next (entry_code_of l false next ++ low.code ∷ []) spare;
      })

  -- what the nest's code declares is changed
  owns : (t : ℕ) → declares low.code t ≡ true → changed_in l t ≡ true
  owns t e = by (changed_in l t) refl where
    by : (b : Bool) → changed_in l t ≡ b → changed_in l t ≡ true
    by true k = k
    by false k =
        let st : Staying = record { locals = λ y. false; tensors = λ u. nat_eq u t } in
        let stays : nat_eq t t ≡ true = same_eq t in
        let spare = nest.spares st (record {
          locals = λ y f. let h : false ≡ true = f in cc;
          tensors = λ u f. let same : u ≡ t = grind (arith, nat_tests, f) in ap (changed_in l) same ∙ k;
        })
        (record { var = refl; below = λ y f. let h : false ≡ true = f in cc; own = λ y o. refl }) in
        let h : false ≡ true = sym (undeclared st t stays low.code spare) ∙ e in
        cc

  pub in_chunks : (par : Bool) → par ≡ true → nothing_in (as_stmt par) l.here l.context ≡ false → From par → (ends : Ends) → IsOfChunks l next top.next top ends
      → (range_in l).1 ≤ 2 ^ 40 → Spared par (entry_code_of l par next ++ chunks_code l ends low ∷ [])
      → Means l.checked next need (entry_code_of l par next ++ chunks_code l ends low ∷ []) (stmt_deed (as_stmt par) l.here l.context)
  in_chunks false e some source ends of small spare = let k : false ≡ true = e in cc
  in_chunks true e some source ends of small spare =
      let mine : IsOfChunks l next need top ends = record { lo = of.lo; hi = of.hi; behind = of.behind; apart = of.apart; room = omega (arith, of.room, room) } in
      let grown = end_grows l next in
      parallel_loops_mean compare l range line last next need (entry_code_of l true next) top ends low (record {
        nest = nested true some source;
        range = both _ _ (le_true (range_in l).0 (range_in l).1 ordered) (le_true (range_in l).1 (2 ^ 40) small);
        from = omega (arith, of.behind, grown);
        to = omega (arith, of.behind, of.apart, grown);
        owns = owns;
        enters = chunks_enter l range line last next need top ends (declares low.code) (laws true some source).0 (laws true some source).1 is mine nest.declares (can_begin true some source);
        spares = codes_spare (as_stmt true) l.here l.context next (entry_code_of l true next ++ chunks_code l ends low ∷ []) spare;
      })

-- ---- the loop

module _ (p : Site) (range : Option (ℕ × ℕ)) (line last : ℕ) (site : IsSite p)
    (some : nothing_in (stmt_of (loop_of p) range p.one.par line last) (loop_of p).here (loop_of p).context ≡ false) where
  abbrev l : Loop
  l = loop_of p

  abbrev next : ℕ
  next = p.place.next

  abbrev whole_stmt : Stmt
  whole_stmt = stmt_of l range p.one.par line last

  abbrev entry : List Code
  entry = entry_code_of l p.one.par next

  abbrev Source : Type 0
  Source = HasSource p.checked.now (whole_stmt ∷ []) l.here

  abbrev Whole : Codes → Type 0
  Whole m = Lowers Source p.checked.now next m (stmt_deed whole_stmt l.here l.context) (fresh_of whole_stmt)

  sourced : Source → Sourced l × IsNumbered l next
  sourced source = sources_of_loops l range p.one.par line last source.0 next source.1 site.placed.free

  of_body : Source → OfBody l
  of_body source = (source.0 + 1, ((sources_hand_down p.checked.now l.here source.0).loop l.var range p.one.par l.body line last source.1).1)

  entry_spares : (st : Staying) → ((y : ℕ) → st.locals y ≡ true → y < next) → all_spare (map (spares st) entry) ≡ true
  entry_spares st low = entries_spare l p.one.par next st (λ y le. off_free y le st low)

  entry_declares : (t : ℕ) → some_of (map declares entry) t ≡ false
  entry_declares t = none_declared all_stay t refl entry (entry_spares all_stay (λ y e. let h : false ≡ true = e in cc))

  -- of one that has no coordinate
  pub empty_lowers : (m : Codes) → (range_in l).1 ≤ (range_in l).0 → m.codes ≡ entry → m.room ≡ own_end l next → Whole m
  empty_lowers m empty is room = record {
    means = λ source.
        let q = sourced source in
        subst (λ (cs : List Code). Means p.checked.now next m.room cs (stmt_deed whole_stmt l.here l.context)) (sym is)
        (empty_loops_mean l range p.one.par line last next m.room q.0 q.1 (record { some = some; empty = empty; room = omega (arith, room) }));
    spares = λ st off. ap (λ (cs : List Code). all_spare (map (spares st) cs)) is ∙ entry_spares st off.below;
    declares = λ t e. let h : false ≡ true = sym (entry_declares t) ∙ ap (λ (cs : List Code). some_of (map declares cs) t) (sym is) ∙ e in cc;
    names =
        subst (λ (cs : List Code). NamesStmt p.checked.now next m.room cs whole_stmt) (sym is)
        ((bodies p.checked.now next m.room).loop l.var range p.one.par l.body line last entry
        (λ room' sc le scope below good.
        (tops_are_named l sc next room' (record { scope = scope; bound = below; named = good }) (omega (arith, le, room))).codes p.one.par));
    room = omega (arith, room, end_grows l next);
  }

  module _ (e : Entered) (entered : IsEntered p e) (low : Lowered) (nest : NestLowers l e.nest low) where
    out : (st : Staying) → OffStmt st next whole_stmt l.here l.context → StaysOut l st
    out st off = record {
      locals = off_body l.var range p.one.par l.body line last l.here l.context st next off;
      tensors = off_changed l.var range p.one.par l.body line last l.here l.context st next off some;
    }

    nest_spares : (st : Staying) → OffStmt st next whole_stmt l.here l.context → spares st low.code ≡ true
    nest_spares st off =
        nest.spares st (out st off) (top_keeps l next e.nest st entered.top (off_var l.var range p.one.par l.body line last l.here l.context st next off) off.below)

    own_fresh : (t : ℕ) → declares low.code t ≡ true → is_among (fresh_of whole_stmt) t ≡ true
    own_fresh t e = ap (λ (own : List ℕ). is_among own t) (fresh_is l.var range p.one.par l.body line last l.here) ∙ nest.declares t e

    -- a code that spares and declares what that of the nest does, behind those of the entry
    module _ (code : Code) (spare : (st : Staying) → spares st code ≡ spares st low.code) (own : (t : ℕ) → declares code t ≡ declares low.code t)
        (m : Codes) (is : m.codes ≡ entry ++ code ∷ []) (first : e.nest.next ≤ m.room) (second : low.room ≤ m.room)
        (named : (room : ℕ) → m.room ≤ room → is_named (layout_with p.checked.now room) low.code ≡ true → is_named (layout_with p.checked.now room) code ≡ true) where
      all_named : NamesStmt p.checked.now next m.room (entry ++ code ∷ []) whole_stmt
      all_named =
          (bodies p.checked.now next m.room).loop l.var range p.one.par l.body line last (entry ++ code ∷ [])
          (λ room sc le scope below good.
          let layout = layout_with p.checked.now room in
          let is_good : IsNamedLoop l sc next = record { scope = scope; bound = below; named = good } in
          let behind = entered.top.room in
          let tops = tops_are_named l sc next room is_good (omega (arith, behind, first, le)) in
          let top = nest_named layout e.nest (tops.nest e.nest entered.top (omega (arith, first, le))) in
          some_more layout entry (code ∷ []) (tops.codes p.one.par)
          (named_alone layout code (named room le (nest.names room (within_loop sc l.var) (omega (arith, second, le)) (body_scope l sc next is_good) top))))

      all_spared : (st : Staying) → OffStmt st next whole_stmt l.here l.context → all_spare (map (spares st) (entry ++ code ∷ [])) ≡ true
      all_spared st off = spared_append st entry (code ∷ []) (entry_spares st off.below) (both (spares st code) true (spare st ∙ nest_spares st off) refl)

      behind_lowers : (Source → Means p.checked.now next m.room (entry ++ code ∷ []) (stmt_deed whole_stmt l.here l.context)) → Whole m
      behind_lowers means = record {
        means = λ source. subst (λ (cs : List Code). Means p.checked.now next m.room cs (stmt_deed whole_stmt l.here l.context)) (sym is) (means source);
        spares = λ st off. ap (λ (cs : List Code). all_spare (map (spares st) cs)) is ∙ all_spared st off;
        declares = λ t. declared_if (fresh_of whole_stmt) (some_of (map declares m.codes) t) t
            (λ no. ap (λ (cs : List Code). some_of (map declares cs) t) is
            ∙ some_append t entry (code ∷ []) (entry_declares t) (neither (declares code t) false (own t ∙ not_declared (fresh_of whole_stmt) (declares low.code t) t (own_fresh t) no) refl));
        names = subst (λ (cs : List Code). NamesStmt p.checked.now next m.room cs whole_stmt) (sym is) all_named;
        room = omega (arith, end_grows l next, entered.top.room, first);
      }

    module _ (compare : MasksCompare) (m : Codes) (first : e.nest.next ≤ m.room) (second : low.room ≤ m.room) (ordered : (range_in l).0 ≤ (range_in l).1) where
      pub serial_lowers : p.one.par ≡ false → m.codes ≡ entry ++ low.code ∷ [] → Whole m
      serial_lowers par is =
          behind_lowers low.code (λ st. refl) (λ t. refl) m is first second (λ room le h. h)
          (λ source. at_once compare l range line last next m.room e.nest low entered.top nest second first ordered site.placed.free p.one.par par some source (entered.whole par)
          (all_spared low.code (λ st. refl) (λ t. refl) m is first second (λ room le h. h) (around_stmt whole_stmt l.here l.context next) (around_off whole_stmt l.here l.context next)))

      pub chunks_lowers : p.one.par ≡ true → m.codes ≡ entry ++ chunks_code l (ends_at e.behind) low ∷ [] → Whole m
      chunks_lowers par is =
          let ends = ends_at e.behind in
          let code = chunks_code l ends low in
          let spare : (st : Staying) → spares st code ≡ spares st low.code = λ st. node.of_par_loop Bool (spare_step st) ends.from ends.to (range_in l).0 (range_in l).1 [] low.code in
          let own : (t : ℕ) → declares code t ≡ declares low.code t =
          λ t. ap (λ (f : Tensors). f t) (node.of_par_loop Tensors declares_step ends.from ends.to (range_in l).0 (range_in l).1 [] low.code) in
          let of_chunks = entered.chunks par in
          let named : (room : ℕ) → m.room ≤ room → is_named (layout_with p.checked.now room) low.code ≡ true → is_named (layout_with p.checked.now room) code ≡ true =
          λ room le h.
          let above = of_chunks.room in
          chunks_named (layout_with p.checked.now room) ends.from ends.to (range_in l).0 (range_in l).1 low.code (omega (arith, above, of_chunks.apart, first, le)) (omega (arith, above, first, le)) h in
          behind_lowers code spare own m is first second named
          (λ source. in_chunks compare l range line last next m.room e.nest low entered.top nest second first ordered site.placed.free p.one.par par some source ends (entered.chunks par)
          (range_small p.checked.now.dims.ranges p.one.var p.checked.now.fits.ranges)
          (all_spared code spare own m is first second named (around_stmt whole_stmt l.here l.context next) (around_off whole_stmt l.here l.context next)))

-- a loop that is entered, with the code that it has from its nest's
module _ (compare : MasksCompare) (p : Site) (site : IsSite p) (e : Entered) (entered : IsEntered p e) (low : Lowered) (nest : NestLowers (loop_of p) e.nest low)
    (ordered : (range_in (loop_of p)).0 < (range_in (loop_of p)).1) (code : Code) (serial : p.one.par ≡ false → code ≡ low.code)
    (chunks : p.one.par ≡ true → code ≡ chunks_code (loop_of p) (ends_at e.behind) low) where
  pub loop_lowers : (codes : List Code) → codes ≡ entry_code_of (loop_of p) p.one.par p.place.next → (m : Codes) → m.codes ≡ codes ++ code ∷ [] → m.room ≡ max e.nest.next low.room
      → LowersLoop p.checked.now p.one p.place m
  loop_lowers codes entry_is m is room range line last some = by p.one.par refl where
    first : e.nest.next ≤ m.room
    first = omega (arith, room)

    second : low.room ≤ m.room
    second = omega (arith, room)

    by : (b : Bool) → p.one.par ≡ b → Whole p range line last site some m
    by false k =
        serial_lowers p range line last site some e entered low nest compare m first second (omega (arith, ordered)) k
        (is ∙ ap (λ (cs : List Code). cs ++ code ∷ []) entry_is ∙ ap (λ (x : Code). entry_code_of (loop_of p) p.one.par p.place.next ++ x ∷ []) (serial k))
    by true k =
        chunks_lowers p range line last site some e entered low nest compare m first second (omega (arith, ordered)) k
        (is ∙ ap (λ (cs : List Code). cs ++ code ∷ []) entry_is ∙ ap (λ (x : Code). entry_code_of (loop_of p) p.one.par p.place.next ++ x ∷ []) (chunks k))
