-- The entry of a loop, for what the code has of the loop and of what remains of its body.
use Rattle.std.specs.Prelude.{ℕ, ◌+◌, ◌*◌, List, map}
use Rattle.fin_ir.specs.declared.code.Code.{Code}
use Rattle.fin_looplet.specs.declared.looplet.Looplet.{Looplet}
use Rattle.fin_simp.specs.declared.rest.Rest.{Rest}
use Rattle.fin_simp.specs.Gathered.{as_rest}
use Rattle.fin_enter.specs.declared.body.LoopBody.{LoopBody}
use Rattle.fin_enter.specs.declared.entrance.LoopHead.{LoopHead}
use Rattle.fin_enter.specs.Charges.{entry_codes}
use Rattle.fin_enter.specs.Together.{Around}
use Rattle.fin_enter.specs.Masked.{tested_among}
use Rattle.fin_enter.specs.LoopEntry.{behind_by, looplets_by}
use Rattle.fin_enter.specs.EntryCodes.{code_by}
use Rattle.fin_enter.specs.PushedReads.{lengths_in}

abbrev pub around_of : LoopHead → Rest → Around
around_of h rest = record { heads = h.heads.now; var = h.var; changed = rest.changed }

abbrev pub code_in : LoopHead → Rest → ℕ → List Code
code_in h rest next = code_by (around_of h rest) (as_rest rest) h.chunks next

-- what is known of so many driven reads and masks and chunks
abbrev pub known : ℕ → ℕ → ℕ → ℕ
known driven masks chunks = 1 + 2 * (driven + masks) + chunks

abbrev pub charge_in : LoopBody → Rest → ℕ → ℕ → List Code
charge_in l rest known at = entry_codes known (lengths_in l rest.reads at)

abbrev pub looplets_in : LoopHead → Rest → ℕ → List Looplet
looplets_in h rest next = let r = as_rest rest in looplets_by (around_of h rest) r.reads r.tests next

abbrev pub behind_in : LoopHead → Rest → ℕ → ℕ
behind_in h rest next = let r = as_rest rest in behind_by (around_of h rest) r.reads r.tests next

-- reads by their numbers in the order of the text, masks by those of their tests
abbrev pub read_numbers : Rest → List ℕ
read_numbers rest = map (λ a. a.read) (as_rest rest).reads

abbrev pub mask_numbers : LoopHead → Rest → List ℕ
mask_numbers h rest = map (λ t. t.test) (tested_among h.var (as_rest rest).tests)
