-- The looplets of a loop's reads and their stored lengths, for what the code has of the loop and of its reads.
use Rattle.std.specs.Prelude.{ℕ, is_some, Bool, List, [], map}
use Rattle.fin_ir.specs.declared.expression.IExpr.{IExpr}
use Rattle.fin_looplet.specs.declared.looplet.Looplet.{Looplet}
use Rattle.fin_simp.specs.declared.expr_rest.Access.{Access}
use Rattle.fin_simp.specs.Sights.{driven_index}
use Rattle.fin_simp.specs.Gathered.{as_access}
use Rattle.fin_enter.specs.declared.body.LoopBody.{LoopBody}
use Rattle.fin_enter.specs.LoopEntry.{read_looplet, read_looplets, behind_cursors, and_length, lengths_by, driven_count}
use Rattle.fin_enter.specs.Pushed.{as_around, settled_in}

-- of one, from the local of its position and the first of its own
abbrev pub looplet_in : LoopBody → Access → ℕ → ℕ → Looplet
looplet_in l a at cursor = read_looplet (as_around l) (as_access a) (driven_index l.var a.at) at cursor

-- of all, one after another
abbrev pub looplets_in : LoopBody → List Access → ℕ → ℕ → List Looplet
looplets_in l reads at cursor = read_looplets (as_around l) (map as_access reads) at cursor

abbrev pub behind_looplets : LoopBody → List Access → ℕ → ℕ
behind_looplets l reads cursor = behind_cursors (as_around l) (map as_access reads) cursor

-- its stored length, if its position is in a local
abbrev pub length_in : LoopBody → Access → ℕ → List IExpr
length_in l a at = and_length (as_around l) (as_access a) (settled_in l a) at []

abbrev pub lengths_in : LoopBody → List Access → ℕ → List IExpr
lengths_in l reads at = lengths_by (as_around l) (map as_access reads) at

-- which of them a loop over a variable drives
abbrev pub drives : ℕ → List Access → List Bool
drives var reads = map (λ (a : Access). is_some (driven_index var a.at)) reads

abbrev pub driven_among : ℕ → List Access → ℕ
driven_among var reads = driven_count var (map as_access reads)

abbrev pub read_numbers : List Access → List ℕ
read_numbers reads = map (λ (a : Access). a.read) reads
