-- Values that two runs ask for, and one statement of a run by pieces.
use Rattle.std.proofs.Common.{◌≡◌, ℕ, ℤ, pos, Bool, true, false, List, Some, None, refl, sym, ap, ◌∙◌, subst}
use Rattle.std.specs.Prelude.{◌&&◌, unwrap_or}
use Rattle.std.specs.Ordering.{int_eq}
use Rattle.fin_ast.specs.declared.tree.Expr.{Expr}
use Rattle.fin_ast.specs.declared.tree.Stmt.{Stmt}
use Rattle.fin_ast.specs.declared.tree.Stmt.TheOpen.{Stmt-F}
use Rattle.fin_ast.specs.Value.{Numbers, Tensors, value_of}
use Rattle.fin_ast.specs.Actions.{where_holds}
use Rattle.fin_ast.specs.Dense.{Setting}
use Rattle.fin_ast.proofs.Alike.{act_is}
use Rattle.fin_stage.specs.Staged.{Run, worked, regular, tensors_of, can_read, has_small_indices, asked_to_read, asked_for_small, with_value, braced, staging, stage_of, stage_all}
use Rattle.fin_stage.proofs.Alive.{left, right}
use Rattle.fin_stage.proofs.Onward.{onward_still, either_goes_on, braced_goes_on, parts_go_on, all_go_on, Goes}
use Rattle.fin_stage.proofs.Trailing.{regular_before}
use Rattle.fin_simp.specs.Numbered.{Here}
use Rattle.fin_simp.specs.Left.{Marks}
use Rattle.fin_simp.specs.Remaining.{is_nothing}
use Rattle.fin_simp.specs.Work.{World, Context, Worked, work_step, done}
use Rattle.fin_work.specs.Following.{Follows}
use Rattle.fin_work.proofs.Following.{SameDone}
use Rattle.fin_work.proofs.Carrying.{worked_of}
use Rattle.fin_work.proofs.Running.{inside_piece, outside_pieces}

-- ---- what is asked of a value is there where the run stays regular
asked_both : (b c : Bool) (r : Run) → regular (asked_for_small c (asked_to_read b r)) ≡ true → (b ≡ true) × (c ≡ true)
asked_both true true r g = (refl, refl)
asked_both true false r g = absurd (let h = right r.alive false (left (r.alive && false) r.ordered g) in cc)
asked_both false true r g = absurd (let h = left (false && r.small) r.ordered g in cc)
asked_both false false r g = absurd (let h = left (false && false) r.ordered g in cc)

still_asked : (b c : Bool) (r : Run) → b ≡ true → c ≡ true → asked_for_small c (asked_to_read b r) ≡ r
still_asked b c r p q = ap (λ (x : Bool). asked_for_small x (asked_to_read b r)) q ∙ ap (λ (x : Bool). asked_to_read x r) p

pub small_still : (c : Bool) (r : Run) → regular (asked_for_small c r) ≡ true → c ≡ true
small_still true r g = refl
small_still false r g = absurd (let h = right r.alive false (left (r.alive && false) r.ordered g) in cc)

pub paid : (n : ℕ) (r : Run) → SameDone r (worked n r)
paid n r = record { stages = refl; regular = refl }

pub unpaid : (n : ℕ) (r : Run) → SameDone (worked n r) r
unpaid n r = record { stages = refl; regular = refl }

pub all_same : (r : Run) → SameDone r r
all_same r = record { stages = refl; regular = refl }

module _ (w : World) where
  abbrev set : Setting
  set = w.setting

  pub where_goes : (body : List Stmt) (vars : Numbers) (v : ℤ) → Goes set (where_holds (braced (stage_all set body)) vars v)
  where_goes body vars v r = either_goes_on (int_eq v (pos 0)) r r (braced (stage_all set body) vars r) (onward_still r) (braced_goes_on (stage_all set body) (all_go_on set body) vars r)

  pub stage_goes : (x : Stmt) (vars : Numbers) → Goes set (stage_of set x vars)
  stage_goes x vars = act_is (staging set) (Goes set) (parts_go_on set) x vars

  -- ---- a value that both runs ask for
  pub record Valued (e : Expr) (vars : Numbers) (r : Run) (f : ℤ → Run → Run) : Type 0 where
    pub read : can_read e (tensors_of set r) ≡ true
    pub small : has_small_indices e vars ≡ true
    pub is : with_value set e vars f r ≡ f (value_of e vars (tensors_of set r)) r

  pub valued : (e : Expr) (vars : Numbers) (r : Run) (f : ℤ → Run → Run) → ((v : ℤ) → Goes set (f v)) → regular (with_value set e vars f r) ≡ true → Valued e vars r f
  valued e vars r f on g =
      let ts = tensors_of set r in
      let v = value_of e vars ts in
      let ready = asked_for_small (has_small_indices e vars) (asked_to_read (can_read e ts) r) in
      let two = asked_both (can_read e ts) (has_small_indices e vars) r (regular_before ready (f v ready) (on v ready) g) in
      record { read = two.0; small = two.1; is = ap (f v) (still_asked (can_read e ts) (has_small_indices e vars) r two.0 two.1) }

  pub also_valued : (e : Expr) (vars : Numbers) (r r' : Run) (f f' : ℤ → Run → Run) → tensors_of set r ≡ tensors_of set r' → Valued e vars r f → with_value set e vars f' r' ≡ f' (value_of e vars (tensors_of set r)) r'
  also_valued e vars r r' f f' same q =
      ap (λ (ts : Tensors). f' (value_of e vars ts) (asked_for_small (has_small_indices e vars) (asked_to_read (can_read e ts) r'))) (sym same)
      ∙ ap (f' (value_of e vars (tensors_of set r))) (still_asked (can_read e (tensors_of set r)) (has_small_indices e vars) r' q.read q.small)

  -- ---- one statement by pieces: nothing, or what its kind does
  pub piece : (x : Stmt) (h : Here) (y : Stmt-F Worked) → worked_of w x h ≡ work_step w h y → (ctx : Context) (vars : Numbers) (r' n : Run) → ((m : Marks) → ctx ≡ Some m → is_nothing x h m ≡ true → Follows n r')
      → (((m : Marks) → ctx ≡ Some m → is_nothing x h m ≡ false) → Follows n (done w h y ctx vars r')) → Follows n ((worked_of w x h).run ctx vars r')
  piece x h y is None vars r' n p q = outside_pieces w x h y is vars r' (Follows n) (q (λ m e. absurd (let z : ◌≡◌ {A = Context} None (Some m) = e in cc)))
  piece x h y is (Some m) vars r' n p q =
      inside_piece w x h y is vars r' (Follows n) m (p m refl)
      (λ e. q (λ m' k. let same : m ≡ m' = ap (λ (o : Context). unwrap_or o m) k in subst (λ (z : Marks). is_nothing x h z ≡ false) same e))

  abbrev pub at_marks : Marks → (Marks → Bool) → Bool
  at_marks m f = f m
