-- Entries of some rows, written to other rows.
use Rattle.std.specs.Prelude.{ℕ, ◌+◌, ◌-◌, ◌&&◌, nat_lt, nat_le, if◌then◌else◌, List, [], ◌∷◌, Option, Some, None, option_map, IfSome, IsTrue}
use Rattle.fin_tensor.specs.TensorFunction.{TensorFunction, is_in_box, with_value}
use Rattle.fin_build.specs.declared.rows.Shift.{Shift}
use Rattle.fin_build.specs.declared.rows.Shift.TheVariants.{Down, Outside, Up}
use Rattle.fin_build.specs.Entries.{Entry}

-- the row to which a row goes
abbrev pub row_to : Shift → ℕ → Option ℕ
row_to (Down lo hi) c = if nat_le lo c && nat_lt c hi then Some (c - lo) else None
row_to (Outside lo hi) c = if nat_le lo c && nat_lt c hi then None else Some c
row_to (Up lo) c = Some (c + lo)

-- the coordinates to which coordinates go
abbrev pub goes_to : Shift → List ℕ → Option (List ℕ)
goes_to shift [] = None
goes_to shift (c ∷ cs) = option_map (λ d. d ∷ cs) (row_to shift c)

-- where it goes somewhere, it lands in the box
abbrev pub Lands : Shift → List ℕ → List ℕ → Type 0
Lands shift shape cs = IfSome (goes_to shift cs) (λ ds. IsTrue (is_in_box shape ds))

abbrev pub AllLand : Shift → List ℕ → List Entry → Type 0
AllLand shift shape [] = Unit {0}
AllLand shift shape (e ∷ es) = Lands shift shape e.0 × AllLand shift shape es

-- the function with an entry written, where it goes somewhere
abbrev pub put_at : Option (List ℕ) → TensorFunction → Entry → TensorFunction
put_at None f e = f
put_at (Some cs) f e = with_value f cs e.1

abbrev pub written_one : Shift → Entry → TensorFunction → TensorFunction
written_one shift e f = put_at (goes_to shift e.0) f e

abbrev pub written : Shift → List Entry → TensorFunction → TensorFunction
written shift [] f = f
written shift (e ∷ es) f = written shift es (written_one shift e f)
