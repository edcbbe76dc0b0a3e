-- Looplets whose fills are words tell words.
use Rattle.std.proofs.Common.{◌≡◌, inl, inr, ℕ, Bool, true, false, ◌&&◌, List, [], ◌∷◌, ◌++◌, Option, Some, None, if◌then◌else◌, refl, sym, subst, ℤ}
use Rattle.std.specs.Prelude.{IfSome, nat_eq}
use Rattle.std.specs.Option.{option_or}
use Rattle.fin_base.specs.Words.{IsWord}
use Rattle.fin_looplet.specs.declared.looplet.Leaf.{Leaf}
use Rattle.fin_looplet.specs.declared.looplet.Leaf.TheVariants.{Fill, Value, Sub}
use Rattle.fin_looplet.specs.declared.looplet.Looplet.{Looplet, Row_of-Phase, end_of-Phase, more_of-Phase, Row_of-Walker, end_of-Walker, more_of-Walker, Row_of-Case, end_of-Case, more_of-Case, end_of-Looplet, more_of-Looplet}
use Rattle.fin_looplet.specs.declared.looplet.Looplet.TheVariants.{Run, Spike, Lookup, Sequence', Stepper', Jumper', Switch', Shift'}
use Rattle.fin_nest.specs.declared.entries.Numbered.{Numbered}
use Rattle.fin_nest.specs.Entries.{looplets}
use Rattle.fin_simp.specs.Facts.{gap_in}
use Rattle.fin_style_point.specs.declared.nest.Nest.{Nest}
use Rattle.fin_style_point.specs.Parts.{all_looplets}
use Rattle.fin_descend.specs.Leaves.{AllLeaves, PhasesAllLeaves, WalkerAllLeaves, CasesAllLeaves, EachAllLeaves, Never, HasLeaves, LeafWorded}
use Rattle.fin_descend.proofs.Lasting.{words_last}
use Rattle.fin_known.specs.Telling.{fill_told, fill_at, gaps_told}
use Rattle.fin_known.specs.Words as told
use Rattle.fin_known.proofs.Heads.{gaps_right, gaps_both}
use Rattle.fin_loops.specs.Facts.{IsTruthOrGap, WordsAreTold}

-- ---- leaves

leaf_worded : (leaf : Leaf) → LeafWorded leaf → told.LeafWorded leaf
leaf_worded (Fill f) h = h
leaf_worded (Value e) h = tt
leaf_worded (Sub tensor level place there) h = tt

truth_worded : (leaf : Leaf) → IsTruthOrGap leaf → told.LeafWorded leaf
truth_worded leaf (inl (b, is)) = subst told.LeafWorded (sym is) tt
truth_worded leaf (inr is) = subst told.LeafWorded (sym is) words_last.nothing

-- ---- looplets

module _ (P L : Leaf → Type 0) (are : (leaf : Leaf) → P leaf → told.LeafWorded leaf) (looked_up : (leaf : Leaf) → L leaf → told.LeafWorded leaf) where
  mutual
    all_worded : (l : Looplet) → AllLeaves P L l → told.Worded l
    all_worded (Run leaf) h = are leaf h
    all_worded (Spike body tail) h = (are body h.0, are tail h.1)
    all_worded (Lookup coord leaf) h = looked_up leaf h
    all_worded (Sequence' n phases) h = phases_worded phases h
    all_worded (Stepper' p walker) h = walker_worded walker h
    all_worded (Jumper' p walker) h = walker_worded walker h
    all_worded (Switch' n cases) h = cases_worded cases h
    all_worded (Shift' by p (more_of-Looplet child end_of-Looplet)) h = all_worded child h

    phases_worded : {n : _} (ps : Row_of-Phase n) → PhasesAllLeaves P L ps → told.PhasesWorded ps
    phases_worded end_of-Phase h = tt
    phases_worded (more_of-Phase stop child rest) h = (all_worded child h.0, phases_worded rest h.1)

    walker_worded : {n : _} (w : Row_of-Walker n) → WalkerAllLeaves P L w → told.WalkerWorded w
    walker_worded end_of-Walker h = tt
    walker_worded (more_of-Walker cursor seek stop child rest) h = all_worded child h

    cases_worded : {n : _} (cs : Row_of-Case n) → CasesAllLeaves P L cs → told.CasesWorded cs
    cases_worded end_of-Case h = tt
    cases_worded (more_of-Case test child rest) h = (all_worded child h.0, cases_worded rest h.1)

  pub each_worded : (ls : List Looplet) → EachAllLeaves P L ls → told.AllWorded ls
  each_worded [] h = tt
  each_worded (l ∷ ls) h = (all_worded l h.0, each_worded ls h.1)

both_worded : (ls ks : List Looplet) → told.AllWorded ls → told.AllWorded ks → told.AllWorded (ls ++ ks)
both_worded [] ks h k = k
both_worded (l ∷ ls) ks h k = (h.0, both_worded ls ks h.1 k)

reads_worded : (n : Nest) → HasLeaves LeafWorded IsTruthOrGap n → told.AllWorded (looplets n.reads)
reads_worded n h = each_worded LeafWorded LeafWorded leaf_worded leaf_worded (looplets n.reads) h.reads

pub nest_worded : (n : Nest) → HasLeaves LeafWorded IsTruthOrGap n → told.AllWorded (all_looplets n)
nest_worded n h =
    both_worded (looplets n.reads) (looplets n.masks) (reads_worded n h)
    (each_worded IsTruthOrGap Never truth_worded (λ leaf h. absurd h) (looplets n.masks) h.masks)

-- ---- what is told

fill_worded : (l : Looplet) (f : ℤ) → told.Worded l → fill_told l ≡ Some f → IsWord f
fill_worded (Run (Fill g)) f h e = subst (λ (o : Option ℤ). IfSome o IsWord) e h
fill_worded (Run (Value x)) f h e = absurd (cc)
fill_worded (Run (Sub tensor level place there)) f h e = absurd (cc)
fill_worded (Spike body tail) f h e = absurd (cc)
fill_worded (Lookup coord (Fill g)) f h e = subst (λ (o : Option ℤ). IfSome o IsWord) e h
fill_worded (Lookup coord (Value x)) f h e = absurd (cc)
fill_worded (Lookup coord (Sub tensor level place there)) f h e = absurd (cc)
fill_worded (Sequence' n phases) f h e = absurd (cc)
fill_worded (Stepper' p walker) f h e = absurd (cc)
fill_worded (Jumper' p walker) f h e = absurd (cc)
fill_worded (Switch' n cases) f h e = absurd (cc)
fill_worded (Shift' by p child) f h e = absurd (cc)

either : (c : Bool) (a b : Option ℤ) (f : ℤ) → (a ≡ Some f → IsWord f) → (b ≡ Some f → IsWord f) → (if c then a else b) ≡ Some f → IsWord f
either true a b f h k e = h e
either false a b f h k e = k e

read_worded : (ds : List Bool) (es : List Numbered) (k : ℕ) (f : ℤ) → told.AllWorded (looplets es) → fill_at ds es k ≡ Some f → IsWord f
read_worded [] es k f h e = absurd (cc)
read_worded (d ∷ ds) [] k f h e = absurd (cc)
read_worded (d ∷ ds) (x ∷ es) k f h e =
    either (d && nat_eq x.number k) (fill_told x.looplet) (fill_at ds es k) f (fill_worded x.looplet f h.0) (read_worded ds es k f h.1) e

words_or : (a b : Option ℤ) → IfSome a IsWord → ((f : ℤ) → b ≡ Some f → IsWord f) → IfSome (option_or a b) IsWord
words_or (Some f) b h k = h
words_or None (Some f) h k = k f refl
words_or None None h k = tt

pub words_are_told : WordsAreTold
words_are_told l facts ds n knows = record {
  reads = λ k.
      let gaps = gaps_told (fill_at ds n.reads) n.reads in
      subst (λ (o : Option ℤ). IfSome o IsWord) (sym (gaps_both facts.gaps.now gaps k))
      (words_or (gap_in facts.gaps.now k) (gap_in gaps k) (knows.words.reads k)
      (λ f e. read_worded ds n.reads k f (reads_worded n knows.leaves) (gaps_right (fill_at ds n.reads) n.reads k f e)));
  vars = knows.words.vars;
}
