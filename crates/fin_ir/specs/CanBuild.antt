-- Which tensors can be built, as a test.
use Rattle.std.specs.Prelude.{ℕ, ◌^◌, Bool, true, false, ◌&&◌, not, nat_le, nat_eq, List, [], ◌∷◌, length}
use Rattle.std.specs.List.{list_all}
use Rattle.fin_tensor.specs.declared.format.Format.{Format}
use Rattle.fin_tensor.specs.declared.format.Level.{Level}
use Rattle.fin_tensor.specs.declared.format.Level.TheVariants.{Dense, List as SortedList, Runs, Band, Dict}
use Rattle.fin_tensor.specs.declared.format.Wrap.{Wrap}
use Rattle.fin_tensor.specs.declared.format.Wrap.TheVariants.{Bare, Atomic, Mutex, Shard}
use Rattle.fin_tensor.specs.Placement.{is_dense, is_dense_or_dict}
use Rattle.fin_tensor.specs.Extents.{dense_size}

abbrev pub is_runs : Level → Bool
is_runs Dense = false
is_runs SortedList = false
is_runs Runs = true
is_runs Band = false
is_runs Dict = false

-- runs stand directly before the elements
abbrev pub runs_stand_last : List Level → Bool
runs_stand_last [] = true
runs_stand_last (l ∷ []) = true
runs_stand_last (l ∷ k ∷ ls) = not (is_runs l) && runs_stand_last (k ∷ ls)

abbrev pub wrap_fits : Wrap → List Level → Bool
wrap_fits Bare ls = true
wrap_fits Atomic ls = list_all is_dense ls
wrap_fits (Mutex before) ls = nat_le before (length ls) && list_all is_dense ls
wrap_fits Shard ls = list_all is_dense_or_dict ls

abbrev pub is_placed : List Level → Wrap → Bool
is_placed ls wrap = nat_le (length ls) 8 && runs_stand_last ls && wrap_fits wrap ls

abbrev pub has_shape : List Level → List ℕ → Bool
has_shape ls shape = nat_eq (length shape) (length ls) && list_all (λ n. nat_le n (2 ^ 40)) shape

abbrev pub can_build : Format → List ℕ → Bool
can_build format shape = is_placed format.levels format.wrap && has_shape format.levels shape && nat_le (dense_size format.levels shape) (2 ^ 24)
