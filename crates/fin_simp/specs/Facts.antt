-- What is known, told by lists.
use Rattle.std.specs.Prelude.{ℕ, ℤ, pos, Bool, nat_eq, if◌then◌else◌, List, [], ◌∷◌, Option, Some, None}
use Rattle.fin_simp.specs.Left.{Marks}
use Rattle.fin_simp.specs.declared.facts.Gap.{Gap}
use Rattle.fin_simp.specs.declared.facts.Known.{Known}
use Rattle.fin_simp.specs.declared.facts.Bound.{Bound}
use Rattle.fin_simp.specs.declared.facts.Facts.{Facts}

-- the first that speaks of the read
abbrev pub gap_in : List Gap → ℕ → Option ℤ
gap_in [] read = None
gap_in (g ∷ gs) read = if nat_eq g.read read then Some g.fill else gap_in gs read

abbrev pub truth_of : Bool → ℤ
truth_of holds = if holds then pos 1 else pos 0

abbrev pub test_in : List Known → ℕ → Option ℤ
test_in [] test = None
test_in (k ∷ ks) test = if nat_eq k.test test then Some (truth_of k.holds) else test_in ks test

-- what is known of a variable, which may be nothing
abbrev pub var_in : List Bound → ℕ → Option ℤ
var_in [] var = None
var_in (b ∷ bs) var = if nat_eq var b.var then b.number else var_in bs var

abbrev pub marks_of : List Gap → List Known → List Bound → Marks
marks_of gaps known bound = record { reads = gap_in gaps; tests = test_in known; vars = var_in bound }

abbrev pub marks : Facts → Marks
marks f = marks_of f.gaps.now f.known.now f.bound.now
