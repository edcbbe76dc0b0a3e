-- The codes of statements one after another, from those of each.
use Rattle.std.proofs.Common.{◌≡◌, ℕ, ◌≤◌, Bool, true, false, List, [], ◌∷◌, ◌++◌, append_assoc, map, refl, sym, ap, subst, ◌∙◌, arith}
use Rattle.std.proofs.lemmas.List.{append-nil}
use Rattle.fin_ast.specs.declared.checked.Checked.{Checked}
use Rattle.fin_ast.specs.declared.tree.Stmt.{Stmt}
use Rattle.fin_ast.specs.Scope.{is_among}
use Rattle.fin_ir.specs.declared.code.Code.{Code}
use Rattle.fin_ir.specs.Declares.{some_of, declares}
use Rattle.fin_nest.specs.Sparing.{Staying, all_spare, spares}
use Rattle.fin_simp.specs.Fresh.{fresh_of, fresh_in}
use Rattle.fin_simp.specs.Numbered.{Here, past_stmt}
use Rattle.fin_simp.specs.Work.{Context}
use Rattle.fin_perform.specs.Meanings.{Deed, Means, stmt_deed, turns_deed}
use Rattle.fin_perform.specs.Naming.{NamesStmt, NamesAll}
use Rattle.fin_perform.specs.Working.{nothing_in}
use Rattle.fin_perform.proofs.Meanings.{meanings_compose}
use Rattle.fin_perform.proofs.Naming.{parts}
use Rattle.fin_perform.proofs.Spared.{some_append, spared_append}
use Rattle.fin_perform.proofs.Staying.{OffAll, off_first, off_later}
use Rattle.fin_perform.proofs.Suiting.{in_left, in_right}
use Rattle.fin_loops.proofs.Sources.{sources_hand_down}
use Rattle.fin_stmts.specs.declared.place.Codes.{Codes}
use Rattle.fin_stmts.specs.Lowering.{HasSource, Lowers}

-- ---- what is declared

pub declared_if : (own : List ℕ) (b : Bool) (t : ℕ) → (is_among own t ≡ false → b ≡ false) → b ≡ true → is_among own t ≡ true
declared_if own b t f e = by (is_among own t) refl where
  by : (k : Bool) → is_among own t ≡ k → is_among own t ≡ true
  by true k = k
  by false k = let h : false ≡ true = sym (f k) ∙ e in cc

-- what is declared among these, by what isn't among them isn't declared
pub not_declared : (own : List ℕ) (b : Bool) (t : ℕ) → (b ≡ true → is_among own t ≡ true) → is_among own t ≡ false → b ≡ false
not_declared own true t f e = let h : false ≡ true = sym e ∙ f refl in cc
not_declared own false t f e = refl

-- ---- more room

pub more_means : (c : Checked) (next need need' : ℕ) (cs : List Code) (d : Deed) → need ≤ need' → Means c next need cs d → Means c next need' cs d
more_means c next need need' cs d le h room inputs sc vars p fits = h room inputs sc vars p (omega (arith, le, fits))

-- ---- a statement of which nothing is left

pub none_lowers : (asked : Type 0) (c : Checked) (next : ℕ) (x : Stmt) (h : Here) (ctx : Context) (m : Codes) → nothing_in x h ctx ≡ true → m.codes ≡ [] → m.room ≡ next
    → Lowers asked c next m (stmt_deed x h ctx) (fresh_of x)
none_lowers asked c next x h ctx m none empty room = record {
  means = λ a. subst (λ (cs : List Code). Means c next m.room cs (stmt_deed x h ctx)) (sym empty) ((meanings_compose c next m.room ctx).1.nothing x h none);
  spares = λ st off. ap (λ (cs : List Code). all_spare (map (spares st) cs)) empty;
  declares = λ t e. let k : false ≡ true = sym (ap (λ (cs : List Code). some_of (map declares cs) t) empty) ∙ e in cc;
  names = subst (λ (cs : List Code). NamesStmt c next m.room cs x) (sym empty) ((parts c next m.room).none _ _);
  room = omega (arith, room);
}

-- ---- statements so far, and the others

-- with codes for the others these are codes of the whole
pub record Going (c : Checked) (next : ℕ) (ctx : Context) (body : List Stmt) (h : Here) (rest : List Stmt) (here : Here) (codes : List Code) (need : ℕ) : Type 0 where
  pub source : HasSource c body h → HasSource c rest here
  pub off : (s : Staying) → OffAll s next body h ctx → OffAll s next rest here ctx
  pub fresh : (t : ℕ) → is_among (fresh_in rest) t ≡ true → is_among (fresh_in body) t ≡ true
  pub means : HasSource c body h → (more : ℕ) → need ≤ more → (cs : List Code) → Means c next more cs (turns_deed rest here ctx)
      → Means c next more (codes ++ cs) (turns_deed body h ctx)
  pub spares : (s : Staying) → OffAll s next body h ctx → all_spare (map (spares s) codes) ≡ true
  pub declares : (t : ℕ) → some_of (map declares codes) t ≡ true → is_among (fresh_in body) t ≡ true
  pub names : (more : ℕ) → need ≤ more → (cs : List Code) → NamesAll c next more cs rest → NamesAll c next more (codes ++ cs) body
  pub room : next ≤ need

module _ (c : Checked) (next : ℕ) (ctx : Context) (body : List Stmt) (h : Here) where
  pub begun : Going c next ctx body h body h [] next
  begun = record {
    source = λ s. s;
    off = λ s o. o;
    fresh = λ t e. e;
    means = λ source need le cs m. m;
    spares = λ s o. refl;
    declares = λ t e. let k : false ≡ true = e in cc;
    names = λ more le cs n. n;
    room = omega arith;
  }

  module _ (x : Stmt) (rest : List Stmt) (here after : Here) (past : after ≡ past_stmt x here) (codes : List Code) (room : ℕ) (so_far : Going c next ctx body h (x ∷ rest) here codes room) where
    later_source : HasSource c body h → HasSource c rest after
    later_source source =
        let s = so_far.source source in
        subst (HasSource c rest) (sym past) (_, ((sources_hand_down c here s.0).joined (x ∷ []) rest s.1).1)

    first_source : HasSource c body h → HasSource c (x ∷ []) here
    first_source source = let s = so_far.source source in (s.0, ((sources_hand_down c here s.0).joined (x ∷ []) rest s.1).0)

    later_off : (s : Staying) → OffAll s next body h ctx → OffAll s next rest after ctx
    later_off s o = subst (λ (k : Here). OffAll s next rest k ctx) (sym past) (off_later x rest here ctx s next (so_far.off s o))

    later_fresh : (t : ℕ) → is_among (fresh_in rest) t ≡ true → is_among (fresh_in body) t ≡ true
    later_fresh t e = so_far.fresh t (in_right (fresh_of x) (fresh_in rest) t e)

    -- codes of the statement and of those behind it
    both_mean : (need : ℕ) (ds cs : List Code) → Means c next need ds (stmt_deed x here ctx) → Means c next need cs (turns_deed rest after ctx)
        → Means c next need (ds ++ cs) (turns_deed (x ∷ rest) here ctx)
    both_mean need ds cs one others =
        let laws = (meanings_compose c next need ctx).0 in
        laws.joined (x ∷ []) rest here ds cs (laws.single x here ds one) (subst (λ (k : Here). Means c next need cs (turns_deed rest k ctx)) past others)

    module _ (m : Codes) (one : Lowers (HasSource c (x ∷ []) here) c next m (stmt_deed x here ctx) (fresh_of x)) (more : ℕ) (first : room ≤ more) (second : m.room ≤ more) where
      pub one_more : Going c next ctx body h rest after (codes ++ m.codes) more
      one_more = record {
        source = later_source;
        off = later_off;
        fresh = later_fresh;
        means = λ source need le cs k.
            subst (λ (ds : List Code). Means c next need ds (turns_deed body h ctx)) (sym (append_assoc codes m.codes cs))
            (so_far.means source need (omega (arith, first, le)) (m.codes ++ cs)
            (both_mean need m.codes cs (more_means c next m.room need m.codes (stmt_deed x here ctx) (omega (arith, second, le)) (one.means (first_source source))) k));
        spares = λ s o. spared_append s codes m.codes (so_far.spares s o) (one.spares s (off_first x rest here ctx s next (so_far.off s o)));
        declares = λ t.
            declared_if (fresh_in body) (some_of (map declares (codes ++ m.codes)) t) t
            (λ e. some_append t codes m.codes (not_declared (fresh_in body) (some_of (map declares codes) t) t (so_far.declares t) e)
            (not_declared (fresh_in body) (some_of (map declares m.codes) t) t
            (λ k. so_far.fresh t (in_left (fresh_of x) (fresh_in rest) t (one.declares t k))) e));
        names = λ need le cs n.
            let laws = parts c next need in
            subst (λ (ds : List Code). NamesAll c next need ds body) (sym (append_assoc codes m.codes cs))
            (so_far.names need (omega (arith, first, le)) (m.codes ++ cs)
            (laws.joined (x ∷ []) rest m.codes cs
            (laws.first x [] m.codes (laws.more next m.room m.codes _ _ (omega arith) (omega (arith, second, le)) one.names)) n));
        room = let own = so_far.room in omega (arith, own, first);
      }

  pub all_lowered : (rest : List Stmt) (here : Here) (m : Codes) → rest ≡ [] → Going c next ctx body h rest here m.codes m.room
      → Lowers (HasSource c body h) c next m (turns_deed body h ctx) (fresh_in body)
  all_lowered rest here m none g = record {
    means = λ source.
        subst (λ (ds : List Code). Means c next m.room ds (turns_deed body h ctx)) (append-nil m.codes)
        (g.means source m.room (omega arith) []
        (subst (λ (xs : List Stmt). Means c next m.room [] (turns_deed xs here ctx)) (sym none) ((meanings_compose c next m.room ctx).0.none here)));
    spares = g.spares;
    declares = g.declares;
    names =
        subst (λ (ds : List Code). NamesAll c next m.room ds body) (append-nil m.codes)
        (g.names m.room (omega arith) [] ((parts c next m.room).none _ _));
    room = g.room;
  }
