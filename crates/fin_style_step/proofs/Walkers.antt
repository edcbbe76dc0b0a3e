-- What the steps of walkers keep.
use Rattle.std.proofs.Common.{ℕ, ◌+◌, ◌<◌, ◌≤◌, inl, inr, ⊎_elim, Option, refl, sym, subst, pos, arith}
use Rattle.fin_base.specs.declared.terms.Op.TheVariants as op
use Rattle.fin_ir.specs.declared.expression.IExpr.{IExpr}
use Rattle.fin_ir.specs.declared.expression.IExpr.TheVariants.{Num, Local}
use Rattle.fin_ir.specs.declared.layout.Layout.{Layout}
use Rattle.fin_looplet.specs.declared.looplet.Walker.{Walker}
use Rattle.fin_looplet.specs.declared.looplet.Looplet.{Looplet}
use Rattle.fin_looplet.specs.Names.{Names, Loads}
use Rattle.fin_looplet.specs.Cut.{plus}
use Rattle.fin_looplet.specs.Lists.{AnyFree, AnyOwns}
use Rattle.fin_looplet.specs.Weight.{is_point}
use Rattle.fin_looplet.proofs.Exprs.{names_two, names_num, names_local, loads_two, loads_num, loads_local}
use Rattle.fin_nest.specs.Nests.{Nest, Sense, Separate}
use Rattle.fin_nest.specs.Laws.{Lawful}
use Rattle.fin_style_step.specs.Steps.{stepper, jumper, insides, stepper_nest, jumper_nest}
use Rattle.fin_style_step.specs.Laws.{StepperSplits, JumperSplits}
use Rattle.fin_style_step.proofs.Walks.{Kind, steppers_walk, jumpers_walk, any_walks}
use Rattle.fin_style_step.proofs.InsideLocals.{insides_owns, insides_free, insides_loads, insides_shifts, insides_nested, insides_apart, insides_lighter, let_go}
use Rattle.fin_style_step.proofs.Narrowing.{part_nest, Sees, separate_part}
use Rattle.fin_style_step.proofs.Sequences.{region_light}
use Rattle.fin_style_step.proofs.Steppers.{stepper_means}
use Rattle.fin_style_step.proofs.Jumpers.{jumper_means}

module _ {S : Type 0} (n : Nest S) (kind : Looplet → Option Walker) (walk : Kind kind) (s : Separate n) (next : ℕ) (later : n.next ≤ next) where
  inside_free : (x : ℕ) → AnyFree x (insides kind n.hi n.reads) → Sees n next (insides kind n.hi n.reads) x
  inside_free x f = ⊎_elim
      (λ e. inl (s.hi x e))
      (λ g. ⊎_elim
      (λ y. inl (s.reads x y))
      (λ c. inr (inr (subst (λ z. AnyOwns z n.reads × (AnyOwns z (insides kind n.hi n.reads) → ⊥)) (sym c.1.1)
      ((any_walks kind walk n.reads c.0 c.1.0).owns c.0.cursor (inl refl), let_go kind walk n.hi n.reads s.own.apart s.own.nested c.0 c.1.0)))) g)
      (insides_free kind walk n.hi n.reads x f)

  -- a part whose ends name new locals alone
  pub inside_separate : (lo hi : IExpr) → ((x : ℕ) → Names x lo → (n.next ≤ x) × (x < next)) → ((x : ℕ) → Names x hi → (n.next ≤ x) × (x < next)) → ((t : ℕ) → Loads t lo → ⊥) → ((t : ℕ) → Loads t hi → ⊥)
      → Separate (part_nest n lo hi next (insides kind n.hi n.reads))
  inside_separate lo hi a b c d = separate_part n lo hi next (insides kind n.hi n.reads) (record {
    later = later;
    owns = insides_owns kind walk n.hi n.reads;
    lo_sees = λ x h. inr (inl (a x h));
    hi_sees = λ x h. inr (inl (b x h));
    free = inside_free;
    lo_loads = λ t h. absurd (c t h);
    hi_loads = λ t h. absurd (d t h);
    loads = λ t h. ⊎_elim (s.hi_loads t) (s.loads t) (insides_loads kind walk n.hi n.reads t h);
    shifts = insides_shifts kind walk n.hi n.reads;
    nested = insides_nested kind walk n.hi n.reads s.own.nested;
    apart = insides_apart kind walk n.hi n.reads s.own.apart;
  }) s

stepper_separate : {S : Type 0} (n : Nest S) → Separate n → Separate (stepper_nest n)
stepper_separate n s = inside_separate n stepper steppers_walk s (n.next + 2) (omega arith) (Local n.next) (Local (n.next + 1))
    (λ x h. let e = names_local x n.next h in (omega (arith, e), omega (arith, e)))
    (λ x h. let e = names_local x (n.next + 1) h in (omega (arith, e), omega (arith, e)))
    (λ t h. loads_local t n.next h)
    (λ t h. loads_local t (n.next + 1) h)

jumper_separate : {S : Type 0} (n : Nest S) → Separate n → Separate (jumper_nest n)
jumper_separate n s = inside_separate n jumper jumpers_walk s (n.next + 3) (omega arith) (Local (n.next + 2)) (plus (Local (n.next + 2)) (Num (pos 1)))
    (λ x h. let e = names_local x (n.next + 2) h in (omega (arith, e), omega (arith, e)))
    (λ x h. ⊎_elim (λ a. let e = names_local x (n.next + 2) a in (omega (arith, e), omega (arith, e))) (λ b. absurd (names_num x (pos 1) b)) (names_two x op.Add (Local (n.next + 2)) (Num (pos 1)) h))
    (λ t h. loads_local t (n.next + 2) h)
    (λ t h. ⊎_elim (loads_local t (n.next + 2)) (loads_num t (pos 1)) (loads_two t op.Add (Local (n.next + 2)) (Num (pos 1)) h))

pub stepper_splits : {S : Type 0} (layout : Layout) (sense : Sense S) → Lawful sense → (n : Nest S) → StepperSplits layout sense n
stepper_splits layout sense law n = record {
  means = λ apart on room pays c mean. stepper_means layout sense law n apart on room pays c mean;
  lighter = λ some. omega (arith, insides_lighter stepper steppers_walk n.hi n.reads some, region_light (is_point (Local n.next) (Local (n.next + 1))));
  separate = stepper_separate n;
}

pub jumper_splits : {S : Type 0} (layout : Layout) (sense : Sense S) → Lawful sense → (n : Nest S) → JumperSplits layout sense n
jumper_splits layout sense law n = record {
  means = λ apart on room some pays c mean. jumper_means layout sense law n apart on room some pays c mean;
  lighter = λ some. omega (arith, insides_lighter jumper jumpers_walk n.hi n.reads some, region_light (is_point (Local (n.next + 2)) (plus (Local (n.next + 2)) (Num (pos 1)))));
  separate = jumper_separate n;
}
