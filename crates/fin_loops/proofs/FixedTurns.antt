-- A loop over the coordinates of a nest, whose codes do something to a run at the place of each coordinate.
use Rattle.std.proofs.Common.{◌≡◌, ℕ, zero, suc, ◌+◌, ◌<◌, ◌≤◌, ◌^◌, Bool, true, false, List, length, refl, sym, ap, ◌∙◌, subst, ℤ, pos, ◌+ℤ◌, arith, get_or-set_other}
use Rattle.std.proofs.Math.ListN.{length-set}
use borrow.Author.Differences.{same_in, sum_is_lem}
use Rattle.fin_ir.specs.declared.code.Code.{Code}
use Rattle.fin_ir.specs.declared.code.Code.TheVariants.{Seq}
use Rattle.fin_ir.specs.declared.layout.Layout.{Layout}
use Rattle.fin_ir.specs.Machine.{Machine, count_turn}
use Rattle.fin_ir.specs.Meaning.{Action, meaning, meaning_all, for_turn, for_turns}
use Rattle.fin_ir.proofs.Codes.{meaning_seq}
use Rattle.fin_stage.specs.Staged.{Run}
use Rattle.fin_looplet.proofs.Exprs.{get}
use Rattle.fin_nest.specs.Related.{Start}
use Rattle.fin_nest.specs.Nests.{Nest, Kept, Separate}
use Rattle.fin_nest.specs.Senses.{runs, Advances}
use Rattle.fin_nest.specs.Performs.{Place, Hold, Ready, Left, Performs}
use Rattle.fin_nest.proofs.Means.{with_local, assigns, not_the_variable, Leaves, leaves_counted}
use Rattle.fin_nest.proofs.Senses.{runs_lawful, runs_over}
use Rattle.fin_nest.proofs.Still.{stills, for_turn_still}

-- at so many coordinates, one after another
abbrev pub done_along : (ℤ → Run → Run) → ℕ → ℤ → Run → Run
done_along act zero at r = r
done_along act (suc k) at r = done_along act k (at +ℤ pos 1) (act at r)

-- a machine behind some turns
pub record Went (s : Start) (n : Nest Run) (m0 : Machine) (r : Run) (m : Machine) : Type 0 where
  pub stands : (runs s).stands r m
  pub leaves : Leaves m0 m n

-- From a machine on, which the nest leaves as it asks, where its place's facts hold in each that keeps what the nest keeps.
module _ (s : Start) (layout : Layout) (n : Nest Run) (apart : Separate n) (cs : List Code) (act : ℤ → Run → Run) (at : ℤ → Place)
    (advances : (i : ℤ) (r : Run) → Advances r (act i r))
    (performs : (c : ℕ) → c < 2 ^ 40 → Performs layout (runs s) (at (pos c)) cs (act (pos c)))
    (kept : (i : ℤ) (x : ℕ) → Kept n x → (x < (at i).next) × ((at i).binds x ≡ false))
    (steady : (i : ℤ) (t : ℕ) → n.steady t ≡ true → (at i).steady t ≡ true)
    (m0 : Machine) (long : length m0.locals ≡ layout.locals)
    (facts : (i : ℤ) (m : Machine) → length m.locals ≡ layout.locals → ((x : ℕ) → Kept n x → get m.locals x ≡ get m0.locals x) → Hold (with_local n.var i m) (at i).facts) where
  abbrev turn : Action
  turn = meaning layout (Seq cs)

  cut_turn : (c : ℕ) (r : Run) (m : Machine) → m.cut ≡ true → Went s n m0 r m → Went s n m0 (act (pos c) r) (for_turn n.var turn (pos c) m)
  cut_turn c r m cut w =
      subst (Went s n m0 (act (pos c) r)) (sym (for_turn_still turn (stills layout (Seq cs)) n.var (pos c) m cut))
      (record { stands = runs_over s (act (pos c)) (advances (pos c)) r m cut w.stands; leaves = w.leaves })

  module _ (c : ℕ) (low : c < 2 ^ 40) (r : Run) (m : Machine) (live : m.cut ≡ false) (w : Went s n m0 r m) where
    abbrev begun : Machine
    begun = with_local n.var (pos c) m

    abbrev last : Machine
    last = meaning_all layout cs begun

    m_long : length m.locals ≡ layout.locals
    m_long = w.leaves.long ∙ long

    ready : Ready layout begun (at (pos c))
    ready = record { live = live; locals = length-set m.locals n.var (pos c) ∙ m_long; facts = facts (pos c) m m_long (w.leaves.kept live) }

    begun_stands : (runs s).stands r begun
    begun_stands = subst ((runs s).stands r) (assigns n.var (pos c) m live) ((runs_lawful s).assign n.var (pos c) r m w.stands)

    left : Left begun last (at (pos c))
    left = (performs c low).leaves r begun ready begun_stands

    leaves : Leaves m0 last n
    leaves = record {
      long = left.long ∙ length-set m.locals n.var (pos c) ∙ w.leaves.long;
      kept = λ e x k.
          left.kept e x (kept (pos c) x k).0 (kept (pos c) x k).1
          ∙ get_or-set_other m.locals n.var x (pos c) (pos 0) (not_the_variable n apart x k.no_var) ∙ w.leaves.kept live x k;
      steady = λ e t q. left.steady e t (steady (pos c) t q) ∙ w.leaves.steady live t q;
    }

    runs_to : for_turn n.var turn (pos c) m ≡ count_turn last
    runs_to = ap (λ (x : Machine). count_turn (turn x)) (assigns n.var (pos c) m live) ∙ ap count_turn (meaning_seq layout cs begun)

    live_turn : Went s n m0 (act (pos c) r) (for_turn n.var turn (pos c) m)
    live_turn = subst (Went s n m0 (act (pos c) r)) (sym runs_to) (record {
      stands = (runs_lawful s).count (act (pos c) r) last ((performs c low).does r begun ready begun_stands);
      leaves = leaves_counted m0 last n leaves;
    })

  turn_goes : (c : ℕ) → c < 2 ^ 40 → (r : Run) (m : Machine) → Went s n m0 r m → Went s n m0 (act (pos c) r) (for_turn n.var turn (pos c) m)
  turn_goes c low r m w = either m.cut refl where
    either : (b : Bool) → m.cut ≡ b → Went s n m0 (act (pos c) r) (for_turn n.var turn (pos c) m)
    either true e = cut_turn c r m e w
    either false e = live_turn c low r m e w

  pub turns_go : (k c : ℕ) (r : Run) (m : Machine) → c + k ≤ 2 ^ 40 → Went s n m0 r m → Went s n m0 (done_along act k (pos c) r) (for_turns n.var turn k (pos c) m)
  turns_go zero c r m top w = w
  turns_go (suc k) c r m top w =
      let next : pos c +ℤ pos 1 ≡ pos (c + 1) = same_in _ _ (omega (arith, sum_is_lem (pos c) (pos 1))) in
      let after : Machine = for_turn n.var turn (pos c) m in
      subst (λ (z : ℤ). Went s n m0 (done_along act k z (act (pos c) r)) (for_turns n.var turn k z after)) (sym next)
      (turns_go k (c + 1) (act (pos c) r) after (omega (arith, top)) (turn_goes c (omega (arith, top)) r m w))
