-- What a lowering has to know of statements is known of their parts, and of the loops among them.
use Rattle.std.proofs.Common.{◌≡◌, ℕ, ◌+◌, Bool, true, ◌&&◌, List, [], ◌∷◌, ◌++◌, length, map, refl, sym, ap, ◌∙◌, subst, append_assoc, arith}
use Rattle.std.specs.Prelude.{◌==◌}
use Rattle.std.specs.List.{list_all}
use Rattle.std.proofs.lemmas.Bool.{eqb-true}
use Rattle.std.proofs.lemmas.Bool.Decides.{nat_tests}
use Rattle.std.proofs.lemmas.List.{append-nil, length-append}
use Rattle.std.proofs.lemmas.List.Folds.{list_all-append}
use Rattle.fin_ast.specs.declared.checked.Checked.{Checked}
use Rattle.fin_ast.specs.declared.tree.Stmt.{Stmt}
use Rattle.fin_ast.specs.declared.tree.Stmt.TheVariants as s
use Rattle.fin_ast.specs.Bindings.{bindings_step, bindings_of, bindings_of_all, counts_from}
use Rattle.fin_ast.specs.Dense.{setting_of}
use Rattle.fin_ast.specs.Literals.{is_worded, worded_stmt_step, is_worded_stmt, are_worded}
use Rattle.fin_ast.proofs.Nodes as node
use Rattle.fin_stage.proofs.Alive.{left, right, both}
use Rattle.fin_stage.proofs.Small.{counts_split}
use Rattle.fin_simp.specs.Moving.{access_stays}
use Rattle.fin_simp.specs.Numbered.{Here, behind, behind_test, past_all, past_stmt, numbered_all}
use Rattle.fin_simp.specs.Rest.{Access, Rest, reads_of, all_written, written_step, written}
use Rattle.fin_simp.proofs.Equations.{at_block, at_loop, at_cond, at_bind}
use Rattle.fin_loops.specs.Sources.{has_small_offsets, IsSource, SourcesAreHandedDown, SourcesOfLoops}

abbrev texts : List Stmt → Here → Rest
texts xs h = all_written (numbered_all Rest written_step xs h)

-- ---- parts of a list

all_split : (p : Access → Bool) (some others : List Access) → list_all p (some ++ others) ≡ true → (list_all p some ≡ true) × (list_all p others ≡ true)
all_split p some others e =
    let k : (list_all p some && list_all p others) ≡ true = sym (list_all-append p some others) ∙ e in
    (left (list_all p some) (list_all p others) k, right (list_all p some) (list_all p others) k)

worded_split : (xs ys : List Stmt) → are_worded (xs ++ ys) ≡ true → (are_worded xs ≡ true) × (are_worded ys ≡ true)
worded_split [] ys e = (refl, e)
worded_split (x ∷ xs) ys e =
    let rest = worded_split xs ys (right (is_worded_stmt x) (are_worded (xs ++ ys)) e) in
    (both (is_worded_stmt x) (are_worded xs) (left (is_worded_stmt x) (are_worded (xs ++ ys)) e) rest.0, rest.1)

bindings_append : (xs ys : List Stmt) → bindings_of_all (xs ++ ys) ≡ bindings_of_all xs ++ bindings_of_all ys
bindings_append [] ys = refl
bindings_append (x ∷ xs) ys = ap (λ (vs : List ℕ). bindings_of x ++ vs) (bindings_append xs ys) ∙ sym (append_assoc (bindings_of x) (bindings_of_all xs) (bindings_of_all ys))

reads_split : (p : Access → Bool) (xs ys : List Stmt) (h : Here) → list_all p (texts (xs ++ ys) h).reads ≡ true
    → (list_all p (texts xs h).reads ≡ true) × (list_all p (texts ys (past_all (map past_stmt xs) h)).reads ≡ true)
reads_split p [] ys h e = (refl, e)
reads_split p (x ∷ xs) ys h e =
    let own = (written x h).reads in
    let two = all_split p own (texts (xs ++ ys) (past_stmt x h)).reads e in
    let rest = reads_split p xs ys (past_stmt x h) two.1 in
    let others = (texts xs (past_stmt x h)).reads in
    (list_all-append p own others ∙ both (list_all p own) (list_all p others) two.0 rest.0, rest.1)

joined : (c : Checked) (xs ys : List Stmt) (h : Here) (v : ℕ) → IsSource c (xs ++ ys) h v
    → IsSource c xs h v × IsSource c ys (past_all (map past_stmt xs) h) (v + length (bindings_of_all xs))
joined c xs ys h v source =
    let vs = bindings_of_all xs in
    let us = bindings_of_all ys in
    let words = worded_split xs ys source.worded in
    let counted = counts_split v vs us (subst (λ (ws : List ℕ). counts_from v ws ≡ true) (bindings_append xs ys) source.counts) in
    let long : length (bindings_of_all (xs ++ ys)) ≡ length vs + length us = ap length (bindings_append xs ys) ∙ length-append vs us in
    let within = source.within in
    let small = reads_split has_small_offsets xs ys h source.small in (
      record {
        worded = words.0;
        counts = counted.0;
        within = omega (arith, long, within);
        stay = λ inputs. (reads_split (access_stays (setting_of c inputs)) xs ys h (source.stay inputs)).0;
        small = small.0;
      },
      record {
        worded = words.1;
        counts = counted.1;
        within = omega (arith, long, within);
        stay = λ inputs. (reads_split (access_stays (setting_of c inputs)) xs ys h (source.stay inputs)).1;
        small = small.1;
      },
    )

-- ---- the body of a statement

-- with the variables that the statement binds itself
module _ (c : Checked) (x : Stmt) (xs : List Stmt) (h inner : Here) (v k : ℕ) (own : List ℕ) (behind_own : v + length own ≡ k)
    (binds : bindings_of x ≡ own ++ bindings_of_all xs) (words : is_worded_stmt x ≡ true → are_worded xs ≡ true)
    (reads : (p : Access → Bool) → list_all p (written x h).reads ≡ true → list_all p (texts xs inner).reads ≡ true)
    (source : IsSource c (x ∷ []) h v) where
  bound : bindings_of_all (x ∷ []) ≡ own ++ bindings_of_all xs
  bound = append-nil (bindings_of x) ∙ binds

  counted : counts_from v (own ++ bindings_of_all xs) ≡ true
  counted = subst (λ (ws : List ℕ). counts_from v ws ≡ true) bound source.counts

  reads_in : (p : Access → Bool) → list_all p (texts (x ∷ []) h).reads ≡ true → list_all p (texts xs inner).reads ≡ true
  reads_in p e = reads p (all_split p (written x h).reads [] e).0

  in_body : IsSource c xs inner k
  in_body = record {
    worded = words (left (is_worded_stmt x) true source.worded);
    counts = subst (λ (n : ℕ). counts_from n (bindings_of_all xs) ≡ true) behind_own (counts_split v own (bindings_of_all xs) counted).1;
    within = (let long : length (bindings_of_all (x ∷ [])) ≡ length own + length (bindings_of_all xs) = ap length bound ∙ length-append own (bindings_of_all xs) in
        let within = source.within in omega (arith, long, within, behind_own));
    stay = λ inputs. reads_in (access_stays (setting_of c inputs)) (source.stay inputs);
    small = reads_in has_small_offsets source.small;
  }

  -- the first one that it binds
  first_is : (u : ℕ) (us : List ℕ) → own ++ bindings_of_all xs ≡ u ∷ us → u ≡ v
  first_is u us is = eqb-true u v (left (u == v) (counts_from (v + 1) us) (sym (ap (λ (ws : List ℕ). counts_from v ws) is) ∙ counted))

pub sources_hand_down : SourcesAreHandedDown
sources_hand_down c h v = record {
  joined = λ xs ys. joined c xs ys h v;
  block = λ xs line last.
      let x = s.Block xs line last in
      in_body c x xs h h v v [] (omega arith) (node.of_block (List ℕ) bindings_step xs line last)
      (λ e. sym (node.of_block Bool worded_stmt_step xs line last) ∙ e)
      (λ p e. sym (ap (λ (r : Rest). list_all p r.reads) (at_block Rest written_step xs line last h)) ∙ e);
  cond = λ test xs line last.
      let x = s.Cond test xs line last in
      let inner = behind_test test h in
      in_body c x xs h inner v v [] (omega arith) (node.of_cond (List ℕ) bindings_step test xs line last)
      (λ e. right (is_worded test) (are_worded xs) (sym (node.of_cond Bool worded_stmt_step test xs line last) ∙ e))
      (λ p e. (all_split p (reads_of test h.read) (texts xs inner).reads (sym (ap (λ (r : Rest). list_all p r.reads) (at_cond Rest written_step test xs line last h)) ∙ e)).1);
  bind = λ var value xs line last source.
      let x = s.Bind var value xs line last in
      let inner = behind value h in
      let binds : bindings_of x ≡ var ∷ bindings_of_all xs = node.of_bind (List ℕ) bindings_step var value xs line last in
      let words : is_worded_stmt x ≡ true → are_worded xs ≡ true =
      λ e. right (is_worded value) (are_worded xs) (sym (node.of_bind Bool worded_stmt_step var value xs line last) ∙ e) in
      let reads : (p : Access → Bool) → list_all p (written x h).reads ≡ true → list_all p (texts xs inner).reads ≡ true =
      λ p e. (all_split p (reads_of value h.read) (texts xs inner).reads (sym (ap (λ (r : Rest). list_all p r.reads) (at_bind Rest written_step var value xs line last h)) ∙ e)).1 in (
        first_is c x xs h inner v (v + 1) (var ∷ []) (omega arith) binds words reads source var (bindings_of_all xs) refl,
        in_body c x xs h inner v (v + 1) (var ∷ []) (omega arith) binds words reads source,
      );
  loop = λ var range par xs line last source.
      let x = s.Loop var range par xs line last in
      let binds : bindings_of x ≡ var ∷ bindings_of_all xs = node.of_loop (List ℕ) bindings_step var range par xs line last in
      let words : is_worded_stmt x ≡ true → are_worded xs ≡ true = λ e. sym (node.of_loop Bool worded_stmt_step var range par xs line last) ∙ e in
      let reads : (p : Access → Bool) → list_all p (written x h).reads ≡ true → list_all p (texts xs h).reads ≡ true =
      λ p e. sym (ap (λ (r : Rest). list_all p r.reads) (at_loop Rest written_step var range par xs line last h)) ∙ e in (
        first_is c x xs h h v (v + 1) (var ∷ []) (omega arith) binds words reads source var (bindings_of_all xs) refl,
        in_body c x xs h h v (v + 1) (var ∷ []) (omega arith) binds words reads source,
      );
}

-- ---- loops

same_number : (n : ℕ) → (n == n) ≡ true
same_number n = grind (arith, nat_tests)

pub sources_of_loops : SourcesOfLoops
sources_of_loops l range par line last v next source le =
    let body = (sources_hand_down l.checked l.here v).loop l.var range par l.body line last source in
    let inner = body.1 in
    let same : v ≡ l.var = sym body.0 in
    let within = inner.within in
    let numbered : counts_from (l.var + 1) (bindings_of_all l.body) ≡ true = subst (λ (n : ℕ). counts_from (n + 1) (bindings_of_all l.body) ≡ true) same inner.counts in (
      record { stay = inner.stay; small = inner.small },
      record {
        counts = both (l.var == l.var) (counts_from (l.var + 1) (bindings_of_all l.body)) (same_number l.var) numbered;
        bound = omega (arith, same, within);
        free = le;
      },
    )
