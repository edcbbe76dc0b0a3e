-- The extents of a job fit its headers.
use Rattle.std.proofs.Common.{◌≡◌, ℕ, List, [], ◌∷◌, Option, Some, None, sym, subst}
use Rattle.std.specs.Prelude.{IfSome, option_map}
use Rattle.std.proofs.lemmas.List.Elements.{All-cons, All-nil}
use Rattle.fin_tensor.specs.Levels.{AreSmall}
use Rattle.fin_tensor.proofs.Walk.{stored_extents}
use Rattle.fin_tensor.specs.declared.storage.Storage.{Storage}
use Rattle.fin_text.specs.declared.read.Given.{Given}
use Rattle.fin_ast.specs.declared.header.Header.{Header}
use Rattle.fin_ast.specs.declared.program.Program.{Program}
use Rattle.fin_ast.specs.declared.checked.Dims.{Dims}
use Rattle.fin_ast.specs.Ties.{Shapes}
use Rattle.fin_ast.specs.Infer.{IsInferred}
use Rattle.fin_ast.specs.Shaped.{AreSmallShapes, FitHeaders}
use Rattle.fin_ast.proofs.Fitting.{found_fit}
use Rattle.fin_engine.specs.Inputs.{Tensors, given_to, shape_of, shapes_of}

small_shape : (o : Option Given) → IfSome (option_map shape_of o) AreSmall
small_shape None = tt
small_shape (Some g) = let s : Storage = g.storage in stored_extents 1 s.format.levels s.shape s.parts s.val s.valid

pub small_shapes : (headers : List Header) (given : Tensors) → AreSmallShapes (shapes_of headers given)
small_shapes [] given = All-nil (λ (o : Option (List ℕ)). IfSome o AreSmall)
small_shapes (h ∷ hs) given = All-cons (λ (o : Option (List ℕ)). IfSome o AreSmall) (option_map shape_of (given_to given h)) (shapes_of hs given) (small_shape (given_to given h)) (small_shapes hs given)

pub whole_fits : (headers : List Header) (given : Tensors) (shapes : Shapes) (whole : Program) (dims : Dims) → shapes ≡ shapes_of headers given → IsInferred whole shapes dims → FitHeaders whole.headers dims
whole_fits headers given shapes whole dims is found = found_fit whole shapes dims (subst AreSmallShapes (sym is) (small_shapes headers given)) found
