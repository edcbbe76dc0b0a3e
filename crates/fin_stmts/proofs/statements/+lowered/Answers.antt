-- The codes of statements from those of their bodies, kind by kind.
use Rattle.std.proofs.Common.{◌≡◌, ◌≤◌, ◌+◌, ℕ, ℤ, None, List, [], ◌∷◌, drop, take, Some, refl, sym, ap, subst, ◌∙◌, arith}
use Rattle.std.proofs.lemmas.List.{drop_all, take_all}
use Rattle.std.proofs.lemmas.Result.{IfOk-weaker}
use Rattle.std.specs.Prelude.{IfSome}
use Rattle.fin_ast.specs.declared.tree.Index.{Index}
use Rattle.fin_ast.specs.declared.tree.Stmt.{Stmt}
use Rattle.fin_ast.specs.declared.tree.Stmt.TheVariants as stmt
use Rattle.fin_ir.specs.declared.code.Code.{Code}
use Rattle.fin_read.specs.Values.{Heads, value_code}
use Rattle.fin_simp.specs.Fresh.{fresh_in}
use Rattle.fin_simp.specs.Numbered.{Here, here_at, behind, behind_test}
use Rattle.fin_simp.specs.Work.{Context, inside}
use Rattle.fin_simp.specs.Wording.{KnowsWords}
use Rattle.fin_simp.proofs.Gathering.{next_is}
use Rattle.fin_perform.specs.Codes.{cond_code, literal_code, let_code, end_of}
use Rattle.fin_perform.specs.Meanings.{turns_deed}
use Rattle.fin_perform.specs.Working.{literal_at, test_at}
use Rattle.fin_perform.proofs.Weights.{weight, weights, item_weighs}
use Rattle.fin_stmts.specs.Lowering.{HasSource, Lowers}
use Rattle.fin_stmts.specs.Places.{context_by, context_of, here_of}
use Rattle.fin_stmts.proofs.Around.{known_lowers, asked_lowers, literal_lowers, evaluated_lowers, block_lowers}
use Rattle.fin_stmts.proofs.Inside.{item_worded, same_here, settled, unsettled, literal_word, inside_words, read_back, bound_with, as_kind}
use Rattle.fin_stmts.proofs.Results.{both_ok}
use Rattle.fin_stmts.proofs.Sequences.{Going, begun, one_more, all_lowered, none_lowers}
use Rattle.std.specs.List.{All}
use Rattle.fin_descend.specs.declared.flattening.Leaf.{Leaf}
use Rattle.fin_stmts.specs.Leaves.{IsLeaf, LeafLowers, LeavesLower}
use Rattle.fin_stmts.specs.Sites.{loop_of}
use Rattle.fin_stmts.proofs.Filled.{no_leaves, leaf_more, flat_leaves, nest_lowers, none_lowers_leaf, item_has}
use Rattle.fin_stmts.proofs.Points.{nothing_lowers, point_lowers, told_there, placed_at_point}
use Rattle.fin_stmts.proofs.Results.{three_ok}
use Rattle.fin_simp.specs.Work.{marks_within}
use Rattle.fin_perform.specs.Places.{left_of_all}
use Rattle.fin_stmts.proofs.Loops.{empty_lowers, loop_lowers}
use Rattle.fin_stmts.proofs.WordsInside.{is_site}
use Rattle.fin_stmts.proofs.statements.+lowered.Goals as goal

-- ---- statements one after another

pub lower_all-loop-statement-init : goal.lower_all-loop-statement-init
lower_all-loop-statement-init t c =
    let p = c.args.place.now in
    let body = c.args.body.now in
    subst (λ (cs : List Code). Going c.args.checked.now p.next (context_of p) body (here_of p) body (here_of p) cs p.next) (sym c.new-codes.ensures)
    (begun c.args.checked.now p.next (context_of p) body (here_of p))

pub lower_all-lower_one-requires : goal.lower_all-lower_one-requires
lower_all-lower_one-requires t c =
    let body = c.args.body.now in
    let i = c.loop-statement.statement-index in
    let x = c.statement-item.result in
    let less : weight x ≤ weights body = item_weighs body i x x c.loop-statement-test.true c.statement-item.is in (
      omega (arith, less, c.decreases),
      (
        item_worded body i x x c.loop-statement-test.true c.statement-item.is c.requires.worded,
        (
          record { words = c.requires.placed.words; free = c.requires.placed.free },
          c.in_ok-seen.ensures.nothing,
        ),
      ),
    )

pub lower_all-loop-statement-preserved : goal.lower_all-loop-statement-preserved
lower_all-loop-statement-preserved t c =
    let p = c.args.place.now in
    let k = c.args.checked.now in
    let body = c.args.body.now in
    let i = c.loop-statement.statement-index in
    let x = c.statement-item.result in
    let here = here_at c.loop-statement.read c.loop-statement.test in
    let after = here_at c.in_ok-seen.seen.read c.in_ok-seen.seen.test in
    let m = c.in_ok-one.one in
    let so_far : Going k p.next (context_of p) body (here_of p) (x ∷ drop (i + 1) body) here c.loop-statement.codes c.loop-statement.room =
    subst (λ (xs : List Stmt). Going k p.next (context_of p) body (here_of p) xs here c.loop-statement.codes c.loop-statement.room)
    (next_is body i x c.loop-statement-test.true c.statement-item.is) c.loop-statement.invariant in
    subst (λ (cs : List Code). Going k p.next (context_of p) body (here_of p) (drop (i + 1) body) after cs c.greater-room.result) (sym c.in_ok-append.ensures)
    (one_more k p.next (context_of p) body (here_of p) x (drop (i + 1) body) here after c.in_ok-seen.ensures.past c.loop-statement.codes c.loop-statement.room so_far
    m c.in_ok-one.ensures c.greater-room.result c.greater-room.ensures.first c.greater-room.ensures.second)

pub lower_all-returns : goal.lower_all-returns
lower_all-returns t c =
    let p = c.args.place.now in
    let body = c.args.body.now in
    let i = c.loop-statement.statement-index in
    all_lowered c.args.checked.now p.next (context_of p) body (here_of p) (drop i body) (here_at c.loop-statement.read c.loop-statement.test) _
    (drop_all i body c.loop-statement-test.false) c.loop-statement.invariant

pub lower_one-returns-then-nothing : goal.lower_one-returns-then-nothing
lower_one-returns-then-nothing t c =
    let p = c.args.place.now in
    none_lowers _ c.args.checked.now p.next c.args.statement.now (here_of p) (context_of p) _ (sym c.requires.seen ∙ c.if-nothing.true) c.new.ensures refl

-- ---- tests

pub lower_cond-returns-then-is_settled : goal.lower_cond-returns-then-is_settled
lower_cond-returns-then-is_settled t c = λ line last some.
    let p = c.args.place.now in
    let k = c.args.checked.now in
    let test = c.args.test.now in
    let xs = c.args.body.now in
    let b = c.in_ok-body.body in
    let here : here_at c.in_ok-found.found.next c.in_ok-number.number ≡ behind_test test (here_of p) =
    same_here _ _ _ _ c.in_ok-found.ensures.next c.in_ok-number.ensures in
    let low : Lowers (HasSource k xs (behind_test test (here_of p))) k p.next b (turns_deed xs (behind_test test (here_of p)) (context_of p)) (fresh_in xs) =
    subst (λ (h : Here). Lowers (HasSource k xs h) k p.next b (turns_deed xs h (context_of p)) (fresh_in xs)) here c.in_ok-body.ensures in
    let told = settled (test_at test (here_of p) (context_of p)) c.is_settled.result (c.is_settled.ensures test c.in_ok-found.ensures.literal) c.if-is_settled.true in
    known_lowers k p.next (here_of p) (context_of p) test xs line last some b low told.0 told.1

pub lower_cond-returns : goal.lower_cond-returns
lower_cond-returns t c =
    let p = c.args.place.now in
    let k = c.args.checked.now in
    let test = c.args.test.now in
    let xs = c.args.body.now in
    let b = c.in_ok-body.body in
    let here : here_at c.in_ok-found.found.next c.in_ok-number.number ≡ behind_test test (here_of p) =
    same_here _ _ _ _ c.in_ok-found.ensures.next c.in_ok-number.ensures in
    let low : Lowers (HasSource k xs (behind_test test (here_of p))) k p.next b (turns_deed xs (behind_test test (here_of p)) (context_of p)) (fresh_in xs) =
    subst (λ (h : Here). Lowers (HasSource k xs h) k p.next b (turns_deed xs h (context_of p)) (fresh_in xs)) here c.in_ok-body.ensures in
    let none = unsettled (test_at test (here_of p) (context_of p)) c.is_settled.result (c.is_settled.ensures test c.in_ok-found.ensures.literal) c.if-is_settled.false in
    let code = c.in_ok-placed.ensures.code ∙ ap (λ (h : Heads). cond_code (value_code h test p.next) b.codes) c.heads_of-heads.ensures in
    let need = c.in_ok-placed.ensures.need ∙ ap (λ (h : Heads). end_of (value_code h test p.next)) c.heads_of-heads.ensures in
    let first = c.greater.ensures.first in
    let second = c.greater.ensures.second in
    both_ok c.single.result _ _ _
    (λ m codes room line last some. asked_lowers k p.next (here_of p) (context_of p) test xs line last some b low m none
    (codes ∙ ap (λ (one : Code). one ∷ []) code) (omega (arith, need, first, room)) (omega (arith, second, room)))
    c.single.ensures.codes c.single.ensures.room

-- ---- lets

pub lower_let-lower_all-requires : goal.lower_let-lower_all-requires
lower_let-lower_all-requires t c =
    let p = c.args.place.now in
    let value = c.args.one.now.value.now in
    let var = c.args.one.now.var in
    let o = c.in_ok-found.found.literal in
    let is = c.known_inside.ensures var o (bound_with p.known c.as_slice.result.now c.in_ok-bound.bound.items var o c.as_slice.ensures.value c.in_ok-bound.ensures) in
    let told = is ∙ ap (inside (context_of p) var) c.in_ok-found.ensures.literal in (
      omega (arith, c.decreases),
      (
        c.requires.worded,
        record {
          words = subst (λ (ctx : Context). IfSome ctx KnowsWords) (sym told) (inside_words value (here_of p) (context_of p) var c.requires.value c.requires.placed.words);
          free = c.requires.placed.free;
        },
      ),
    )

pub lower_let-returns-in-Some : goal.lower_let-returns-in-Some
lower_let-returns-in-Some t c =
    let p = c.args.place.now in
    let k = c.args.checked.now in
    let value = c.args.one.now.value.now in
    let var = c.args.one.now.var in
    let xs = c.args.body.now in
    let b = c.in_ok-body.body in
    let o = c.in_ok-found.found.literal in
    let h = here_of p in
    let is = c.known_inside.ensures var o (bound_with p.known c.as_slice.result.now c.in_ok-bound.bound.items var o c.as_slice.ensures.value c.in_ok-bound.ensures) in
    let here : here_at c.in_ok-found.found.next p.test ≡ behind value h = same_here _ _ p.test p.test c.in_ok-found.ensures.next refl in
    let here_low : Lowers (HasSource k xs (behind value h)) k p.next b (turns_deed xs (behind value h) (context_by c.known_inside.result)) (fresh_in xs) =
    subst (λ (g : Here). Lowers (HasSource k xs g) k p.next b (turns_deed xs g (context_by c.known_inside.result)) (fresh_in xs)) here c.in_ok-body.ensures in
    let low : Lowers (HasSource k xs (behind value h)) k p.next b (turns_deed xs (behind value h) (inside (context_of p) var o)) (fresh_in xs) =
    subst (λ (ctx : Context). Lowers (HasSource k xs (behind value h)) k p.next b (turns_deed xs (behind value h) ctx) (fresh_in xs)) is here_low in
    let word = literal_word value h (context_of p) c.requires.value c.requires.placed.words in
    let n = c.in-Some.n in
    let code = c.in_ok-code-in-Some.ensures ∙ ap (λ (z : ℤ). literal_code var z b.codes) (read_back (literal_at value h (context_of p)) n (sym c.in_ok-found.ensures.literal ∙ c.in-Some.is) word) in
    both_ok c.single.result _ _ _
    (λ m codes room line last some. literal_lowers k p.next h (context_of p) var value xs line last some o (sym c.in_ok-found.ensures.literal) b low m n c.in-Some.is
    (codes ∙ ap (λ (one : Code). one ∷ []) code) (omega (arith, room)))
    c.single.ensures.codes c.single.ensures.room

pub lower_let-returns : goal.lower_let-returns
lower_let-returns t c =
    let p = c.args.place.now in
    let k = c.args.checked.now in
    let value = c.args.one.now.value.now in
    let var = c.args.one.now.var in
    let xs = c.args.body.now in
    let b = c.in_ok-body.body in
    let o = c.in_ok-found.found.literal in
    let h = here_of p in
    let is = c.known_inside.ensures var o (bound_with p.known c.as_slice.result.now c.in_ok-bound.bound.items var o c.as_slice.ensures.value c.in_ok-bound.ensures) in
    let here : here_at c.in_ok-found.found.next p.test ≡ behind value h = same_here _ _ p.test p.test c.in_ok-found.ensures.next refl in
    let here_low : Lowers (HasSource k xs (behind value h)) k p.next b (turns_deed xs (behind value h) (context_by c.known_inside.result)) (fresh_in xs) =
    subst (λ (g : Here). Lowers (HasSource k xs g) k p.next b (turns_deed xs g (context_by c.known_inside.result)) (fresh_in xs)) here c.in_ok-body.ensures in
    let low : Lowers (HasSource k xs (behind value h)) k p.next b (turns_deed xs (behind value h) (inside (context_of p) var o)) (fresh_in xs) =
    subst (λ (ctx : Context). Lowers (HasSource k xs (behind value h)) k p.next b (turns_deed xs (behind value h) ctx) (fresh_in xs)) is here_low in
    let code = c.in_ok-placed-in-None.ensures.code ∙ ap (λ (g : Heads). let_code var (value_code g value p.next) b.codes) c.heads_of-heads.ensures in
    let need = c.in_ok-placed-in-None.ensures.need ∙ ap (λ (g : Heads). end_of (value_code g value p.next)) c.heads_of-heads.ensures in
    let first = c.greater.ensures.first in
    let second = c.greater.ensures.second in
    both_ok c.single-in-None.result _ _ _
    (λ m codes room line last some. evaluated_lowers k p.next h (context_of p) var value xs line last some o (sym c.in_ok-found.ensures.literal) b low m c.in-None.is
    (codes ∙ ap (λ (one : Code). one ∷ []) code) (omega (arith, need, first, room)) (omega (arith, second, room)))
    c.single-in-None.ensures.codes c.single-in-None.ensures.room

-- ---- kinds

pub lower_some-returns-in-Block : goal.lower_some-returns-in-Block
lower_some-returns-in-Block t c =
    let p = c.args.place.now in
    let b = c.in-Block in
    let xs = c.as_slice.result.now in
    IfOk-weaker c.lower_all.result _ _ (λ m low. as_kind c.args.checked.now p c.args.statement.now (stmt.Block xs b.line b.last) m
    (b.is ∙ ap (λ (ys : List Stmt). stmt.Block ys b.line b.last) (sym c.as_slice.ensures)) c.requires.some
    (λ some. block_lowers c.args.checked.now p.next (here_of p) (context_of p) xs b.line b.last m some low)) c.lower_all.ensures

pub lower_some-returns-in-Loop : goal.lower_some-returns-in-Loop
lower_some-returns-in-Loop t c =
    let p = c.args.place.now in
    let b = c.in-Loop in
    let xs = c.as_slice-in-Loop.result.now in
    IfOk-weaker c.lower_loop.result _ _ (λ m low. as_kind c.args.checked.now p c.args.statement.now (stmt.Loop b.var b.range b.par xs b.line b.last) m
    (b.is ∙ ap (λ (ys : List Stmt). stmt.Loop b.var b.range b.par ys b.line b.last) (sym c.as_slice-in-Loop.ensures)) c.requires.some (low b.range b.line b.last)) c.lower_loop.ensures

pub lower_some-returns-in-Cond : goal.lower_some-returns-in-Cond
lower_some-returns-in-Cond t c =
    let p = c.args.place.now in
    let b = c.in-Cond in
    let xs = c.as_slice-in-Cond.result.now in
    IfOk-weaker c.lower_cond.result _ _ (λ m low. as_kind c.args.checked.now p c.args.statement.now (stmt.Cond b.test xs b.line b.last) m
    (b.is ∙ ap (λ (ys : List Stmt). stmt.Cond b.test ys b.line b.last) (sym c.as_slice-in-Cond.ensures)) c.requires.some (low b.line b.last)) c.lower_cond.ensures

pub lower_some-returns-in-Bind : goal.lower_some-returns-in-Bind
lower_some-returns-in-Bind t c =
    let p = c.args.place.now in
    let b = c.in-Bind in
    let xs = c.as_slice-in-Bind.result.now in
    IfOk-weaker c.lower_let.result _ _ (λ m low. as_kind c.args.checked.now p c.args.statement.now (stmt.Bind b.var b.value xs b.line b.last) m
    (b.is ∙ ap (λ (ys : List Stmt). stmt.Bind b.var b.value ys b.line b.last) (sym c.as_slice-in-Bind.ensures)) c.requires.some (low b.line b.last)) c.lower_let.ensures

pub lower_some-returns-in-Declare : goal.lower_some-returns-in-Declare
lower_some-returns-in-Declare t c =
    let p = c.args.place.now in
    let b = c.in-Declare in
    IfOk-weaker c.lower_declare.result _ _ (λ m low. as_kind c.args.checked.now p c.args.statement.now (stmt.Declare b.tensor b.value b.line) m
    b.is c.requires.some (λ some. low b.value b.line)) c.lower_declare.ensures

pub lower_some-returns-in-Freeze : goal.lower_some-returns-in-Freeze
lower_some-returns-in-Freeze t c =
    let p = c.args.place.now in
    let b = c.in-Freeze in
    IfOk-weaker c.lower_freeze.result _ _ (λ m low. as_kind c.args.checked.now p c.args.statement.now (stmt.Freeze b.tensor b.line) m
    b.is c.requires.some (λ some. low b.line)) c.lower_freeze.ensures

pub lower_some-returns-in-Thaw : goal.lower_some-returns-in-Thaw
lower_some-returns-in-Thaw t c =
    let p = c.args.place.now in
    let b = c.in-Thaw in
    IfOk-weaker c.lower_thaw.result _ _ (λ m low. as_kind c.args.checked.now p c.args.statement.now (stmt.Thaw b.tensor b.line) m
    b.is c.requires.some (λ some. low b.line)) c.lower_thaw.ensures

pub lower_some-returns-in-Update : goal.lower_some-returns-in-Update
lower_some-returns-in-Update t c =
    let p = c.args.place.now in
    let b = c.in-Update in
    let xs = c.as_slice-in-Update.result.now in
    IfOk-weaker c.lower_update.result _ _ (λ m low. as_kind c.args.checked.now p c.args.statement.now (stmt.Update b.tensor xs b.by b.value b.line) m
    (b.is ∙ ap (λ (ys : List Index). stmt.Update b.tensor ys b.by b.value b.line) (sym c.as_slice-in-Update.ensures)) c.requires.some (low b.line)) c.lower_update.ensures

-- ---- nests, by their leaves

pub lower_flat-lower_frame-requires : goal.lower_flat-lower_frame-requires
lower_flat-lower_frame-requires t c = (omega (arith, c.decreases), (c.requires.site, c.requires.flat))

pub lower_frame-lower_leaves-requires : goal.lower_frame-lower_leaves-requires
lower_frame-lower_leaves-requires t c =
    let site = c.args.asks.now.site in
    let ds = c.args.asks.now.drives.now in (
      omega (arith, c.decreases),
      (c.requires.site, subst (λ (xs : List Leaf). All (IsLeaf site ds) xs) (sym c.as_slice.ensures) (flat_leaves site ds c.args.nest.now c.args.flat.now c.requires.flat)),
    )

pub lower_frame-returns : goal.lower_frame-returns
lower_frame-returns t c =
    let site = c.args.asks.now.site in
    let ds = c.args.asks.now.drives.now in
    let leaves = subst (λ (xs : List Leaf). LeavesLower (loop_of site) xs c.in_ok-leaves.leaves) c.as_slice.ensures c.in_ok-leaves.ensures in
    three_ok c.filled_flat.result _ _ _ _ (λ m code frame room. nest_lowers site ds c.args.nest.now c.args.flat.now c.requires.flat c.in_ok-leaves.leaves m leaves code frame room)
    c.filled_flat.ensures.code c.filled_flat.ensures.frame c.filled_flat.ensures.room

pub lower_leaves-lower_leaf-requires : goal.lower_leaves-lower_leaf-requires
lower_leaves-lower_leaf-requires t c =
    let site = c.args.asks.now.site in
    let ds = c.args.asks.now.drives.now in (
      omega (arith, c.decreases),
      (c.requires.site, item_has (IsLeaf site ds) c.args.leaves.now c.loop-leaf.leaf-index c.leaf-item.result c.loop-leaf-test.true c.leaf-item.is c.requires.leaves),
    )

pub lower_leaves-loop-leaf-init : goal.lower_leaves-loop-leaf-init
lower_leaves-loop-leaf-init t c =
    let l = loop_of c.args.asks.now.site in
    subst (λ (cs : List Code). LeavesLower l [] (record { codes = cs; room = 0 })) (sym c.new-codes.ensures) (no_leaves l)

pub lower_leaves-loop-leaf-preserved : goal.lower_leaves-loop-leaf-preserved
lower_leaves-loop-leaf-preserved t c =
    let l = loop_of c.args.asks.now.site in
    let i = c.loop-leaf.leaf-index in
    subst (λ (cs : List Code). LeavesLower l (take (i + 1) c.args.leaves.now) (record { codes = cs; room = c.greater-room.result })) (sym c.in_ok-push.ensures.ok)
    (leaf_more l c.args.leaves.now i c.leaf-item.result c.loop-leaf.codes c.loop-leaf.room c.in_ok-lowered.lowered c.greater-room.result c.loop-leaf-test.true c.leaf-item.is
    c.loop-leaf.invariant c.in_ok-lowered.ensures c.greater-room.ensures.first c.greater-room.ensures.second)

pub lower_leaves-returns : goal.lower_leaves-returns
lower_leaves-returns t c =
    let l = loop_of c.args.asks.now.site in
    subst (λ (xs : List Leaf). LeavesLower l xs (record { codes = c.loop-leaf.codes; room = c.loop-leaf.room }))
    (take_all c.loop-leaf.leaf-index c.args.leaves.now c.loop-leaf-test.false) c.loop-leaf.invariant

pub lower_leaf-returns-in-Nothing : goal.lower_leaf-returns-in-Nothing
lower_leaf-returns-in-Nothing t c =
    let l = loop_of c.args.asks.now.site in
    subst (λ (x : Leaf). LeafLowers l x c.nothing.result) (sym c.in-Nothing.is) (none_lowers_leaf l c.nothing.result c.nothing.ensures.code)

pub lower_leaf-fixed_leaf-requires : goal.lower_leaf-fixed_leaf-requires
lower_leaf-fixed_leaf-requires t c =
    let site = c.args.asks.now.site in
    let ds = c.args.asks.now.drives.now in
    let leaf = subst (IsLeaf site ds) c.in-Fixed.is c.requires.leaf in
    record { site = c.requires.site; comes = leaf.comes; fixed = leaf.fixed }

pub lower_leaf-returns-in-Fixed : goal.lower_leaf-returns-in-Fixed
lower_leaf-returns-in-Fixed t c =
    let l = loop_of c.args.asks.now.site in
    IfOk-weaker _ _ _ (λ m h. subst (λ (x : Leaf). LeafLowers l x m) (sym c.in-Fixed.is) h) c.fixed_leaf.ensures

pub lower_leaf-lower_point-requires : goal.lower_leaf-lower_point-requires
lower_leaf-lower_point-requires t c =
    let site = c.args.asks.now.site in
    let ds = c.args.asks.now.drives.now in
    (omega (arith, c.decreases), (c.requires.site, subst (IsLeaf site ds) c.in-Point.is c.requires.leaf))

pub lower_leaf-returns-in-Point : goal.lower_leaf-returns-in-Point
lower_leaf-returns-in-Point t c =
    let l = loop_of c.args.asks.now.site in
    IfOk-weaker _ _ _ (λ m h. subst (λ (x : Leaf). LeafLowers l x m) (sym c.in-Point.is) h) c.lower_point.ensures

pub lower_point-returns-then-branch : goal.lower_point-returns-then-branch
lower_point-returns-then-branch t c =
    let site = c.args.asks.now.site in
    let ds = c.args.asks.now.drives.now in
    nothing_lowers site ds c.args.nest.now c.requires.site c.requires.leaf c.nothing.result (sym c.in_ok-is_nothing_here.ensures ∙ c.if-branch.true) c.nothing.ensures.code

pub lower_point-lower_all-requires : goal.lower_point-lower_all-requires
lower_point-lower_all-requires t c =
    let site = c.args.asks.now.site in
    let ds = c.args.asks.now.drives.now in
    let told = told_there site.around ds c.args.nest.now c.as_slice.result.now c.as_slice-2.result.now (c.as_slice.ensures.value ∙ c.in_ok-told.ensures.gaps)
    (c.as_slice-2.ensures.value ∙ c.in_ok-told.ensures.known) in
    (omega (arith, c.decreases), (c.requires.site.worded, placed_at_point site ds c.args.nest.now c.requires.site c.requires.leaf _ told _ refl refl))

pub lower_point-returns : goal.lower_point-returns
lower_point-returns t c =
    let site = c.args.asks.now.site in
    let ds = c.args.asks.now.drives.now in
    let told = told_there site.around ds c.args.nest.now c.as_slice.result.now c.as_slice-2.result.now (c.as_slice.ensures.value ∙ c.in_ok-told.ensures.gaps)
    (c.as_slice-2.ensures.value ∙ c.in_ok-told.ensures.known) in
    three_ok c.at_point.result _ _ _ _ (λ m code next room. point_lowers site ds c.args.nest.now c.requires.site c.requires.leaf _ (ap (λ k. Some k) told) c.in_ok-body.body m
    (sym c.in_ok-is_nothing_here.ensures ∙ c.if-branch.false) c.in_ok-body.ensures code next room)
    c.at_point.ensures.code c.at_point.ensures.next c.at_point.ensures.room

-- ---- loops

pub lower_loop-lower_site-requires : goal.lower_loop-lower_site-requires
lower_loop-lower_site-requires t c =
    let p = c.args.place.now in
    let one = c.args.one.now in
    let is = c.known_inside.ensures one.var None (bound_with p.known c.as_slice.result.now c.in_ok-bound.bound.items one.var None c.as_slice.ensures.value c.in_ok-bound.ensures) in (
      omega (arith, c.decreases),
      (
        is_site _ (c.facts_in.ensures.marks ∙ ap (λ (ctx : Context). marks_within ctx) is) c.requires.worded c.requires.placed,
        c.in_ok-rest.ensures ∙ ap (λ (ctx : Context). left_of_all one.body.now (here_of p) ctx) is,
      ),
    )

pub lower_site-returns-then-hi-lo : goal.lower_site-returns-then-hi-lo
lower_site-returns-then-hi-lo t c =
    let p = c.args.site.now in
    let turned = subst (λ (r : ℕ × ℕ). r.1 ≤ r.0) c.range_of-lo.ensures c.if-hi-lo.true in
    both_ok c.empty_loop.result _ _ _ (λ m codes room range line last some. empty_lowers p range line last c.requires.site some m turned codes room)
    c.empty_loop.ensures.codes c.empty_loop.ensures.room

pub lower_behind-returns : goal.lower_behind-returns
lower_behind-returns t c =
    let p = c.args.site.now in
    both_ok c.one_behind.result _ _ _ (λ m codes room. loop_lowers c.masks_compare.ensures p c.requires.site c.args.entered.now c.requires.entered c.in_ok-lowered.lowered c.in_ok-lowered.ensures
    c.requires.some c.in_ok-code.code c.in_ok-code.ensures.serial c.in_ok-code.ensures.chunks c.args.codes c.requires.codes m codes (room ∙ c.max-room.ensures))
    c.one_behind.ensures.codes c.one_behind.ensures.room
