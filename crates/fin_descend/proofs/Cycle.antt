-- What the functions of a descent are proved by, one lemma for each goal, over what is known where it stands.
use Rattle.std.proofs.Common.{◌≡◌, ℕ, ◌+◌, ◌<◌, ◌≤◌, List, ◌∷◌, [], ◌++◌, length, take, get_or, Bool, false, sym, subst, arith}
use Rattle.std.specs.Prelude.{nat_eq, Result, IfOk}
use Rattle.std.specs.List.{All}
use Rattle.fin_ir.specs.declared.code.Code.{Code}
use Rattle.fin_ir.specs.declared.code.Code.TheVariants.{Skip}
use Rattle.fin_nest.specs.Frames.{fill}
use Rattle.fin_style_point.specs.declared.nest.Nest.{Nest}
use Rattle.fin_descend.specs.declared.lowered.Known.{Known}
use Rattle.fin_descend.specs.declared.lowered.Known.TheVariants.{Nothing, Open}
use Rattle.fin_descend.specs.declared.lowered.Lowered.{Lowered}
use Rattle.fin_descend.specs.declared.stepping.Split.{Split}
use Rattle.fin_descend.specs.Parts.{weight_in, heaviest, parts_of}
use Rattle.fin_descend.specs.Promises.{Family, MeansIn, Tells, Divides, AllLighter, StaySeparate, MeanEach, Joins}
use Rattle.fin_descend.proofs.Descents.{nothing_means, stepped_means, joined, mean_more, both_ok, heaviest_below, heaviest_at, heavy, all_taken}

-- ---- a nest: of one whose body is nothing `nothing()` is the code

pub nothing_returned : (family : Family) (n : Nest) (k : Known) (l : Lowered) → Tells family n k → k ≡ Nothing → l.code ≡ Skip → MeansIn family l n
nothing_returned family n k l told is code = nothing_means family n l (subst (λ (x : Known). Tells family n x) is told) code

-- ---- a nest that may be stepped, and weighs something: its split

module _ (n : Nest) (p : Split) (weightless : Bool) (test : weightless ≡ nat_eq (weight_in n) 0) (no : weightless ≡ false) where
  -- the parts weigh less, and come where the parts of each nest that comes do
  pub parts_called : (comes : Nest → Type 0) → ((q : Nest) → 0 < weight_in q → comes q → All comes (parts_of q)) → AllLighter p n → p.nests ≡ parts_of n → comes n
      → (heaviest p.nests < weight_in n) × All comes p.nests
  parts_called comes parts_come lighter parts here =
      let w = heavy weightless (weight_in n) test no in
      (heaviest_below p.nests (weight_in n) w lighter, subst (λ (ns : List Nest). All comes ns) (sym parts) (parts_come n w here))

  -- what joins the parts means the nest
  pub open_returned : {E : Type 0} (family : Family) (r : Result Lowered E) → Tells family n Open → Divides p n → StaySeparate p n → IfOk r (λ (l : Lowered). Joins family p l)
      → IfOk r (λ (l : Lowered). p.room ≤ l.room) → IfOk r (λ (l : Lowered). MeansIn family l n)
  open_returned family r may divides apart joins room =
      let w = heavy weightless (weight_in n) test no in
      both_ok (λ (l : Lowered). Joins family p l) (λ (l : Lowered). p.room ≤ l.room) (λ (l : Lowered). MeansIn family l n) r joins room
      (λ l j b. stepped_means family n p l may w divides apart b j)

-- ---- a split: the filled frame joins the parts, whose codes mean them

pub parts_returned : {E : Type 0} (family : Family) (p : Split) (ns : List Nest) (cs : List Code) (each room : ℕ) (r : Result Lowered E) → MeanEach family ns cs each → ns ≡ p.nests
    → each ≤ room → IfOk r (λ (l : Lowered). l.code ≡ fill p.frame cs) → IfOk r (λ (l : Lowered). l.room ≡ room) → IfOk r (λ (l : Lowered). Joins family p l)
parts_returned family p ns cs each room r mean are below code is_room =
    both_ok (λ (l : Lowered). l.code ≡ fill p.frame cs) (λ (l : Lowered). l.room ≡ room) (λ (l : Lowered). Joins family p l) r code is_room
    (λ l c e. joined family p l cs each (subst (λ (xs : List Nest). MeanEach family xs cs each) are mean) (omega (arith, below, e)) c)

-- ---- the nests of a split, one after another: `n` is the one at `i`

-- it is no heavier than the heaviest, and comes
pub each_called : (comes : Nest → Type 0) (ns : List Nest) (i : ℕ) (n : Nest) → i < length ns → n ≡ get_or ns i n → All comes ns → (weight_in n ≤ heaviest ns) × comes n
each_called comes ns i n h is all = (heaviest_at ns i n h is, subst (λ (q : Nest). comes q) (sym is) (all i n h))

-- the codes so far, and its code behind them
pub each_preserved : (family : Family) (ns : List Nest) (i : ℕ) (n : Nest) (l : Lowered) (cs now : List Code) (room more : ℕ) → i < length ns → n ≡ get_or ns i n
    → MeanEach family (take i ns) cs room → MeansIn family l n → now ≡ cs ++ l.code ∷ [] → room ≤ more → l.room ≤ more → MeanEach family (take (i + 1) ns) now more
each_preserved family ns i n l cs now room more h is so_far means e a b =
    subst (λ (xs : List Code). MeanEach family (take (i + 1) ns) xs more) (sym e) (mean_more family ns i n l cs room more h is so_far means a b)

-- behind the last one
pub each_returned : (family : Family) (ns : List Nest) (i : ℕ) (cs : List Code) (room : ℕ) → length ns ≤ i → MeanEach family (take i ns) cs room → MeanEach family ns cs room
each_returned family ns i cs room h mean = all_taken (λ (xs : List Nest). MeanEach family xs cs room) ns i h mean
