-- Codes of statements one after another, and under a condition; and nests as statements.
use Rattle.std.proofs.Common.{◌≡◌, ℕ, ◌<◌, Bool, true, false, List, [], ◌∷◌, ◌++◌, if◌then◌else◌, refl, sym, ap, ◌∙◌, subst, ℤ}
use Rattle.fin_ir.specs.declared.expression.IExpr.{IExpr}
use Rattle.fin_ir.specs.declared.code.Code.{Code}
use Rattle.fin_ir.specs.declared.code.Code.TheVariants.{Seq, When}
use Rattle.fin_ir.specs.declared.layout.Layout.{Layout}
use Rattle.fin_ir.specs.Machine.{Machine, seen}
use Rattle.fin_ir.specs.Value.{value_in, is_off}
use Rattle.fin_ir.specs.Meaning.{meaning, meaning_all}
use Rattle.fin_ir.proofs.Codes.{meaning_seq, meaning_when}
use Rattle.fin_looplet.proofs.Exprs.{value_alike}
use Rattle.fin_nest.specs.Nests.{Nest, Sense, fold, Kept, Jumps, Fits, Means}
use Rattle.fin_nest.specs.Laws.{Over}
use Rattle.fin_nest.specs.Performs.{Fact, Place, Hold, Stay, Ready, Left, Performs}
use Rattle.fin_nest.proofs.Still.{all_still}

-- ---- what facts stay

pub hold_on : (p : Place) (fs : List Fact) (m m' : Machine) → Left m m' p → m'.cut ≡ false → Stay p fs → Hold m fs → Hold m' fs
hold_on p [] m m' l c st h = tt
hold_on p (f ∷ fs) m m' l c st h =
    (value_alike f.0 (seen m') (seen m) m'.locals m.locals (λ x n. let k = st.0.locals x n in l.kept c x k.0 k.1) (λ t n. l.steady c t (st.0.tensors t n)) ∙ h.0, hold_on p fs m m' l c st.1 h.1)

left_then : (a b c : Machine) (p : Place) → Left a b p → Left b c p → (b.cut ≡ true → c ≡ b) → Left a c p
left_then a b c p x y still = record {
  long = y.long ∙ x.long;
  kept = λ d j lt free. y.kept d j lt free ∙ x.kept (by b.cut refl d) j lt free;
  steady = λ d t e. y.steady d t e ∙ x.steady (by b.cut refl d) t e;
} where
  by : (k : Bool) → b.cut ≡ k → c.cut ≡ false → b.cut ≡ false
  by false e d = e
  by true e d = let f = ap (λ (z : Machine). z.cut) (still e) in absurd (cc)

left_same : (m : Machine) (p : Place) → Left m m p
left_same m p = record { long = refl; kept = λ c x lt f. refl; steady = λ c t e. refl }

-- ---- one after another
pub all_append : (layout : Layout) (xs ys : List Code) (m : Machine) → meaning_all layout (xs ++ ys) m ≡ meaning_all layout ys (meaning_all layout xs m)
all_append layout [] ys m = refl
all_append layout (x ∷ xs) ys m = all_append layout xs ys (meaning layout x m)

pub performs_nothing : {S : Type 0} (layout : Layout) (sense : Sense S) (p : Place) → Performs layout sense p [] (λ s. s)
performs_nothing layout sense p = record { does = λ s m r h. h; leaves = λ s m r h. left_same m p }

pub performs_then : {S : Type 0} (layout : Layout) (sense : Sense S) (p : Place) (c : Code) (cs : List Code) (f g : S → S) → Stay p p.facts → Over sense g
    → Performs layout sense p (c ∷ []) f → Performs layout sense p cs g → Performs layout sense p (c ∷ cs) (λ s. g (f s))
performs_then {S = S} layout sense p c cs f g stay on first rest = record {
  does = λ s m r h. (by s m r h (meaning layout c m).cut refl).0;
  leaves = λ s m r h. (by s m r h (meaning layout c m).cut refl).1;
} where
  by : (s : S) (m : Machine) → Ready layout m p → sense.stands s m → (k : Bool) → (meaning layout c m).cut ≡ k
      → sense.stands (g (f s)) (meaning_all layout cs (meaning layout c m)) × Left m (meaning_all layout cs (meaning layout c m)) p
  by s m r h true e =
      let mid = meaning layout c m in
      let still = all_still layout cs mid e in
      (subst (sense.stands (g (f s))) (sym still) (on (f s) mid e (first.does s m r h)), subst (λ (x : Machine). Left m x p) (sym still) (first.leaves s m r h))
  by s m r h false e =
      let mid = meaning layout c m in
      let l = first.leaves s m r h in
      let ready : Ready layout mid p = record { live = e; locals = l.long ∙ r.locals; facts = hold_on p p.facts m mid l e stay r.facts } in
      let after = first.does s m r h in
      (rest.does (f s) mid ready after, left_then m mid (meaning_all layout cs mid) p l (rest.leaves (f s) mid ready after) (all_still layout cs mid))

-- ---- a condition, whose test's code has the value that the language gives
pub performs_when : {S : Type 0} (layout : Layout) (sense : Sense S) (p : Place) (test : IExpr) (val : S → ℤ) (body : List Code) (g : S → S)
    → ((s : S) (m : Machine) → Ready layout m p → sense.stands s m → value_in m test ≡ val s)
    → Performs layout sense p body g → Performs layout sense p (When test (Seq body) ∷ []) (λ s. if is_off (val s) then s else g s)
performs_when {S = S} layout sense p test val body g means inner = record {
  does = λ s m r h. subst (sense.stands (if is_off (val s) then s else g s)) (sym (goes s m r h)) (by_does s m r h (is_off (val s)));
  leaves = λ s m r h. subst (λ (x : Machine). Left m x p) (sym (goes s m r h)) (by_leaves s m r h (is_off (val s)));
} where
  goes : (s : S) (m : Machine) → Ready layout m p → sense.stands s m → meaning layout (When test (Seq body)) m ≡ (if is_off (val s) then m else meaning_all layout body m)
  goes s m r h =
      meaning_when layout test (Seq body) m
      ∙ ap (λ z. if is_off z then m else meaning layout (Seq body) m) (means s m r h)
      ∙ ap (λ (x : Machine). if is_off (val s) then m else x) (meaning_seq layout body m)

  by_does : (s : S) (m : Machine) → Ready layout m p → sense.stands s m → (b : Bool) → sense.stands (if b then s else g s) (if b then m else meaning_all layout body m)
  by_does s m r h true = h
  by_does s m r h false = inner.does s m r h

  by_leaves : (s : S) (m : Machine) → Ready layout m p → sense.stands s m → (b : Bool) → Left m (if b then m else meaning_all layout body m) p
  by_leaves s m r h true = left_same m p
  by_leaves s m r h false = inner.leaves s m r h

-- ---- a nest as a statement: its code performs the fold, which is the loop where the sights are right
pub nest_performs : {S : Type 0} (layout : Layout) (sense : Sense S) (p : Place) (c : Code) (n : Nest S) (f : S → S) → Means layout sense c n
    → ((m : Machine) → Ready layout m p → Fits layout (seen m) m n × Jumps sense (seen m) m.locals n)
    → ((s : S) (m : Machine) → Ready layout m p → fold sense.pay (seen m) m.locals n s ≡ f s)
    → ((x : ℕ) → x < p.next → p.binds x ≡ false → Kept n x) → ((t : ℕ) → p.steady t ≡ true → n.steady t ≡ true)
    → Performs layout sense p (c ∷ []) f
nest_performs layout sense p c n f mean fits is keeps steady = record {
  does = λ s m r h. subst (λ z. sense.stands z (meaning layout c m)) (is s m r) (mean.does (seen m) s m (fits m r).0 (fits m r).1 h).done;
  leaves = λ s m r h.
      let d = mean.does (seen m) s m (fits m r).0 (fits m r).1 h in
      record { long = d.long; kept = λ e x lt free. d.kept e x (keeps x lt free); steady = λ e t q. d.steady e t (steady t q) };
}
