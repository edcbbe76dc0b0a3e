-- What loop code does to a machine.
use Rattle.std.specs.Prelude.{ℕ, zero, suc, ◌+◌, ◌-◌, ◌*◌, ◌/◌, ◌^◌, min, Bool, ◌&&◌, nat_le, if◌then◌else◌, List, [], ◌∷◌, map, slice_set, ℤ, pos, ◌+ℤ◌, ◌-ℤ◌, int_lt}
use Rattle.std.specs.Int.{int_min, int_max}
use Rattle.fin_ir.specs.declared.code.Code.{Code, para-Code}
use Rattle.fin_ir.specs.declared.code.Code.TheOpen.{Code-F}
use Rattle.fin_ir.specs.declared.layout.Layout.{Layout}
use Rattle.fin_ir.specs.Machine.{Tensor, nothing, Machine, live, refused, assign, whole, charge, count_turn, update, declare, freeze, thaw}
use Rattle.fin_ir.specs.Value.{value_in, is_off}
use Rattle.fin_ir.specs.Declares.{declares}

abbrev pub Action : Type 0
Action = Machine → Machine

-- one after another
abbrev pub in_turn : List Action → Action
in_turn [] m = m
in_turn (a ∷ rest) m = in_turn rest (a m)

-- ---- loops

-- how many numbers stand from the one up to the other
abbrev pub span : ℤ → ℤ → ℕ
span lo hi = whole (hi -ℤ lo)

-- a stop, brought into at+1..hi
abbrev pub clamped : ℤ → ℤ → ℤ → ℤ
clamped stop at hi = int_max (at +ℤ pos 1) (int_min stop hi)

-- where a turn at `at` ends
abbrev pub next_of : ℕ → (Machine → ℤ) → ℤ → ℤ → Machine → ℤ
next_of var stop hi at m = clamped (stop (assign var at m)) at hi

-- a turn that ends before the loop does is counted
abbrev pub count_before : ℤ → ℤ → Action
count_before next hi m = if int_lt next hi then count_turn m else m

-- one turn at `at` that ends at `next`
abbrev pub step_turn : ℕ → ℕ → Action → ℤ → ℤ → ℤ → Action
step_turn var until body hi at next m = count_before next hi (body (assign until next (assign var at m)))

-- a stretch of at most `fuel` turns, each of which goes on where the one before ended
abbrev pub step_turns : ℕ → ℕ → (Machine → ℤ) → Action → ℤ → ℕ → ℤ → Action
step_turns var until stop body hi zero at m = m
step_turns var until stop body hi (suc fuel) at m =
    if int_lt at hi
    then step_turns var until stop body hi fuel (next_of var stop hi at m) (step_turn var until body hi at (next_of var stop hi at m) m)
    else m

abbrev pub step_loop : ℕ → ℕ → (Machine → ℤ) → Action → ℤ → ℤ → Action
step_loop var until stop body lo hi m = step_turns var until stop body hi (span lo hi) lo m

-- one turn of a loop over each number
abbrev pub for_turn : ℕ → Action → ℤ → Action
for_turn var body at m = count_turn (body (assign var at m))

abbrev pub for_turns : ℕ → Action → ℕ → ℤ → Action
for_turns var body zero at m = m
for_turns var body (suc fuel) at m = for_turns var body fuel (at +ℤ pos 1) (for_turn var body at m)

abbrev pub for_loop : ℕ → Action → ℤ → ℤ → Action
for_loop var body lo hi m = for_turns var body (span lo hi) lo m

-- ---- parallel loops

-- the most chunks of a loop
abbrev pub MOST_CHUNKS : ℕ
MOST_CHUNKS = 256

-- where chunk k of count chunks begins
abbrev pub chunk_begin : ℕ → ℕ → ℕ → ℕ → ℕ
chunk_begin lo len count k = lo + k * len / count

-- the ends of `left` chunks out of count, from chunk k on
abbrev pub chunks_from : ℕ → ℕ → ℕ → ℕ → ℕ → List (ℕ × ℕ)
chunks_from lo len count k zero = []
chunks_from lo len count k (suc left) = (chunk_begin lo len count k, chunk_begin lo len count (k + 1)) ∷ chunks_from lo len count (k + 1) left

abbrev pub chunks_of : ℕ → ℕ → List (ℕ × ℕ)
chunks_of lo hi = chunks_from lo (hi - lo) (min (hi - lo) MOST_CHUNKS) 0 (min (hi - lo) MOST_CHUNKS)

-- these tensors from number n on, those of `own` forgotten
abbrev pub forget_from : (ℕ → Bool) → ℕ → List Tensor → List Tensor
forget_from own n [] = []
forget_from own n (x ∷ xs) = (if own n then nothing else x) ∷ forget_from own (n + 1) xs

abbrev pub forget : (ℕ → Bool) → List Tensor → List Tensor
forget own ts = forget_from own 0 ts

-- the locals with which a chunk begins
abbrev pub chunk_locals : ℕ → ℕ → List ℤ → ℕ × ℕ → List ℤ
chunk_locals from to ls ends = slice_set (slice_set ls from (pos ends.0)) to (pos ends.1)

-- these locals, and no tensor of `own`
abbrev pub opened : (ℕ → Bool) → List ℤ → Action
opened own ls m = record m { locals = ls; tensors = forget own m.tensors }

-- One chunk, which begins with these locals. A run that it cuts ends here, and no chunk after it does anything.
abbrev pub chunk : (ℕ → Bool) → Action → List ℤ → Action
chunk own body ls m = body (opened own ls m)

-- chunks one after another, each with its locals
abbrev pub chunks : (ℕ → Bool) → Action → List (List ℤ) → Action
chunks own body [] m = m
chunks own body (ls ∷ rest) m = chunks own body rest (chunk own body ls m)

-- the chunks of lo..hi, and then the locals of the entry and no tensor of `own`
abbrev pub in_chunks : (ℕ → Bool) → Action → ℕ → ℕ → ℕ → ℕ → Action
in_chunks own body from to lo hi m = opened own m.locals (chunks own body (map (chunk_locals from to m.locals) (chunks_of lo hi)) m)

abbrev pub is_range : ℕ → ℕ → Bool
is_range lo hi = nat_le lo hi && nat_le hi (2 ^ 40)

abbrev pub par_loop : (ℕ → Bool) → Action → ℕ → ℕ → ℕ → ℕ → Action
par_loop own body from to lo hi m = live m (if is_range lo hi then in_chunks own body from to lo hi m else refused m)

-- ---- code

-- one node, with each inner code beside what it does
abbrev pub meaning_step : Layout → Code-F (Code × Action) → Action
meaning_step layout Code-F.Skip m = m
meaning_step layout (Code-F.Seq all) m = in_turn (map (λ c. c.1) all) m
meaning_step layout (Code-F.Assign local value) m = assign local (value_in m value) m
meaning_step layout (Code-F.When test body) m = if is_off (value_in m test) then m else body.1 m
meaning_step layout (Code-F.StepLoop var until lo hi stop body) m = step_loop var until (λ n. value_in n stop) body.1 (value_in m lo) (value_in m hi) m
meaning_step layout (Code-F.ForLoop var lo hi body) m = for_loop var body.1 (value_in m lo) (value_in m hi) m
meaning_step layout (Code-F.ParLoop from to lo hi ways body) m = par_loop (declares body.0) body.1 from to lo hi m
meaning_step layout (Code-F.Update tensor at by value) m = update tensor (map (value_in m) at) by (value_in m value) m
meaning_step layout (Code-F.Declare tensor) m = declare layout tensor m
meaning_step layout (Code-F.Freeze tensor) m = freeze tensor m
meaning_step layout (Code-F.Thaw tensor) m = thaw layout tensor m
meaning_step layout (Code-F.Charge value) m = charge (value_in m value) m

abbrev pub meaning : Layout → Code → Action
meaning layout = para-Code Action (meaning_step layout)

-- several codes, one after another
abbrev pub meaning_all : Layout → List Code → Action
meaning_all layout [] m = m
meaning_all layout (c ∷ cs) m = meaning_all layout cs (meaning layout c m)
