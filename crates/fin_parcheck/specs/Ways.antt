-- The way in which a parallel loop updates each outer tensor.
use Rattle.std.specs.Prelude.{ℕ, ◌+◌, Bool, true, false, not, ◌&&◌, ◌||◌, ◌==◌, if◌then◌else◌, List, [], ◌∷◌, ◌++◌, Option, Some, None, option_map}
use Rattle.std.specs.List.{cons_option, list_all}
use Rattle.std.specs.Option.{option_or}
use Rattle.fin_base.specs.declared.reduce.Reduce.{Reduce}
use Rattle.fin_base.specs.declared.terms.Updated.{Updated}
use Rattle.fin_base.specs.declared.terms.Way.{Way}
use Rattle.fin_base.specs.declared.terms.Way.TheVariants as way
use Rattle.fin_tensor.specs.declared.format.Level.{Level}
use Rattle.fin_tensor.specs.declared.format.Wrap.{Wrap}
use Rattle.fin_tensor.specs.declared.format.Wrap.TheVariants as wrap
use Rattle.fin_tensor.specs.Placement.{is_dense}
use Rattle.fin_ast.specs.declared.header.Header.{Header}
use Rattle.fin_ast.specs.declared.tree.Index.{Index}
use Rattle.fin_ast.specs.Order.{is_variable}
use Rattle.fin_ast.specs.Ties.{bare}
use Rattle.fin_parcheck.specs.declared.deeds.Deed.{Deed}
use Rattle.fin_parcheck.specs.declared.deeds.Deed.TheVariants.{Update, Turn, Nested}
use Rattle.fin_parcheck.specs.declared.deeds.ParallelLoop.{ParallelLoop}
use Rattle.fin_parcheck.specs.declared.usages.Usage.{Usage}

abbrev pub starts_dense : List Level → Bool
starts_dense [] = false
starts_dense (l ∷ ls) = is_dense l

-- the first index is the loop's variable alone
abbrev pub is_row : ℕ → Option Index → Bool
is_row var None = false
is_row var (Some i) = is_variable var (bare i)

-- an update of that tensor is at the loop's row
abbrev pub keeps_row : ℕ → ℕ → Deed → Bool
keeps_row var tensor (Update t first by line) = not (t == tensor) || is_row var first
keeps_row var tensor (Turn line) = true
keeps_row var tensor (Nested line) = true

-- the way that a decoration gives
abbrev pub decorated : Wrap → Option Way
decorated wrap.Bare = None
decorated wrap.Atomic = Some way.Word
decorated (wrap.Mutex before) = Some way.Turn
decorated wrap.Shard = Some way.Shard

-- rows where the first level is dense and each update in the loop is at its row; else by the format
abbrev pub way_of : ParallelLoop → ℕ → Header → Option Way
way_of parallel tensor h = if starts_dense h.format.levels && list_all (keeps_row parallel.var tensor) parallel.deeds then Some way.Rows else decorated h.format.wrap

-- the reduction of the first update of a tensor
abbrev pub by_of : ℕ → Deed → Option Reduce
by_of tensor (Update t first by line) = if t == tensor then Some by else None
by_of tensor (Turn line) = None
by_of tensor (Nested line) = None

abbrev pub first_by : ℕ → List Deed → Option Reduce
first_by tensor [] = None
first_by tensor (d ∷ ds) = option_or (by_of tensor d) (first_by tensor ds)

-- how a loop updates a tensor, where it does
abbrev pub usage_of : ParallelLoop → ℕ → Header → Option Usage
usage_of parallel tensor h = option_map (λ by. record { way = way_of parallel tensor h; by = by }) (first_by tensor parallel.deeds)

-- the same of all tensors, by header
abbrev pub usages_from : ParallelLoop → ℕ → List Header → List (Option Usage) → List (Option Usage)
usages_from parallel n [] before = before
usages_from parallel n (h ∷ hs) before = usages_from parallel (n + 1) hs (before ++ usage_of parallel n h ∷ [])

abbrev pub usages_of : List Header → ParallelLoop → List (Option Usage)
usages_of headers parallel = usages_from parallel 0 headers []

-- the entry of a tensor that is updated in some way
abbrev pub entry_by : ℕ → Reduce → Option Way → Option Updated
entry_by tensor by None = None
entry_by tensor by (Some way) = Some (record { tensor = tensor; way = way; by = by })

abbrev pub entry_of : ℕ → Option Usage → Option Updated
entry_of tensor None = None
entry_of tensor (Some usage) = entry_by tensor usage.by usage.way

abbrev pub updated_from : ℕ → List (Option Usage) → List Updated → List Updated
updated_from n [] before = before
updated_from n (u ∷ us) before = updated_from (n + 1) us (before ++ cons_option (entry_of n u) [])
