-- A nest of any style whose body does nothing: code that does nothing means it.
use Rattle.std.proofs.Common.{ℕ, zero, suc, true, false, Bool, refl, sym, subst, List, ℤ, pos, ◌+ℤ◌}
use Rattle.fin_ir.specs.declared.layout.Layout.{Layout}
use Rattle.fin_ir.specs.Machine.{Machine}
use Rattle.fin_ir.specs.Meaning.{span}
use Rattle.fin_ir.proofs.Codes.{meaning_skip}
use Rattle.fin_looplet.specs.View.{Store, value}
use Rattle.fin_nest.specs.Nests.{Flags, fresh, Nest, Sense, paid_if, at_act, at_flags, part, Does}
use Rattle.fin_nest.specs.Laws.{Lawful, Nothing}
use Rattle.fin_style_point.specs.Laws.{NothingMeans}

module _ {S : Type 0} (sense : Sense S) (law : Lawful sense) (n : Nest S) (nothing : Nothing sense n) where
  paid_stands : (b : Bool) (s : S) (m : Machine) → sense.stands s m → sense.stands (paid_if sense.pay b s) m
  paid_stands true s m r = law.spare s m r
  paid_stands false s m r = r

  part_stands : (ts : Store) (ls : List ℤ) (k : ℕ) (f : Flags) (at : ℤ) (s : S) (m : Machine) → sense.stands s m → sense.stands (part sense.pay ts ls n k f at s) m
  part_stands ts ls zero f at s m r = r
  part_stands ts ls (suc k) f at s m r =
      part_stands ts ls k (at_flags ts ls n at) (at +ℤ pos 1) (at_act sense.pay ts ls n f at s) m (nothing ts ls f.begins at (paid_if sense.pay f.stopped s) m (paid_stands f.stopped s m r))

pub nothing_means : {S : Type 0} (layout : Layout) (sense : Sense S) → Lawful sense → NothingMeans layout sense
nothing_means layout sense law n nothing = record {
  does = λ ts s m fits jumps r. subst (λ (x : Machine). Does sense ts s m x n) (sym (meaning_skip layout m)) (record {
    done = part_stands sense law n nothing ts m.locals (span (value ts m.locals n.lo) (value ts m.locals n.hi)) fresh (value ts m.locals n.lo) s m r;
    long = refl;
    kept = λ c x k. refl;
    steady = λ c t e. refl;
  });
}
