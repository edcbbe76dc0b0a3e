-- A tensor that a run can read is frozen on the machine, with the parts that the definition of work has.
use Rattle.std.proofs.Common.{◌≡◌, ℕ, List, Option, Some, None, refl, sym, ap, ◌∙◌, subst, ℤ}
use Rattle.std.specs.Prelude.{slice_get, is_none}
use Rattle.std.specs.Option.{option_or}
use Rattle.fin_tensor.specs.declared.part.Part.{Part}
use Rattle.fin_tensor.specs.declared.storage.Storage.{Storage}
use Rattle.fin_tensor.specs.Levels.{IsStored}
use Rattle.fin_tensor.specs.TensorFunction.{TensorFunction}
use Rattle.fin_ast.specs.declared.checked.Checked.{Checked}
use Rattle.fin_ast.specs.Accepted.{FitProgram}
use Rattle.fin_ast.specs.Dense.{setting_of, made_at}
use Rattle.fin_ast.specs.Shaped.{FitHeaders}
use Rattle.fin_ir.specs.Frozen.{frozen_of}
use Rattle.fin_ir.specs.Machine.{Machine, stored, held, seen}
use Rattle.fin_ir.specs.Value.{parts_in}
use Rattle.fin_stage.specs.Stages.{Stage, Absent, Built, Frozen, stage_at, frozen_in}
use Rattle.fin_stage.specs.Staged.{Run, tensors_of}
use Rattle.fin_stage.proofs.Fits.{same_fill}
use Rattle.fin_read.specs.Sees.{Sees}
use Rattle.fin_read.specs.Values.{format_of, shape_of}
use Rattle.fin_nest.specs.Related.{Stand, Live}
use Rattle.fin_simp.specs.Work.{parts_or, parts_at, frozen_parts, world_of}
use Rattle.fin_perform.specs.Layouts.{heads_in, start_with}
use Rattle.fin_perform.proofs.Headed.{builds_there}
use Rattle.fin_perform.proofs.Seen.{seen_held, all_seen}
use Rattle.fin_enter.specs.Stores.{TensorsHaveFormats, IsStoredAs, TensorsAreStored}
use Rattle.fin_enter.proofs.Given.{ungiven, given_stored}

pub tensors_have_formats : TensorsHaveFormats
tensors_have_formats c inputs t fits lt =
    let can = builds_there c.program.headers c.dims.shapes fits.shapes t lt in
    record { fill = sym (same_fill (setting_of c inputs) (slice_get c.program.headers t)); few = can.placed.few; long = can.shape_is.long; small = can.shape_is.small }

module _ (c : Checked) (room : ℕ) (inputs : List Storage) (pins : List ℤ) (r : Run) (m : Machine) (t : ℕ) (f : TensorFunction)
    (fits : FitHeaders c.program.headers c.dims) (given_fit : FitProgram c inputs) (live : Live (start_with c room inputs) pins r m)
    (can : tensors_of (setting_of c inputs) r t ≡ Some f) where
  abbrev HasParts : List Part → Type 0
  HasParts ps = ps ≡ parts_in (seen m t)

  by_stage : (x : Stage) → Stand x (held m.tensors t) → frozen_in x ≡ Some f → HasParts (frozen_parts x)
  by_stage Absent s e = cc
  by_stage (Built b) s e = cc
  by_stage (Frozen format g) s e = sym (ap parts_in (seen_held c room inputs fits given_fit pins r m live t ∙ s.1))

  by_given : (o : Option TensorFunction) → made_at (setting_of c inputs).given t ≡ o → option_or o (frozen_in (stage_at r.stages t)) ≡ Some f → HasParts (parts_at (world_of c inputs) r t)
  by_given None n h =
      ap (λ (o : Option (List Part)). parts_or o (frozen_parts (stage_at r.stages t))) (ungiven c.program.headers inputs t n)
      ∙ by_stage (stage_at r.stages t) (live.each t) h
  by_given (Some g) n h =
      let q = given_stored c.program.headers inputs t g n in
      let there : seen m t ≡ stored (frozen_of q.storage) = seen_held c room inputs fits given_fit pins r m live t ∙ live.given t (ap is_none n) ∙ q.tensor in
      ap (λ (o : Option (List Part)). parts_or o (frozen_parts (stage_at r.stages t))) q.parts_are ∙ sym (ap parts_in there)

  stored_as : Sees (seen m) t (format_of (heads_in c) t).levels (shape_of (heads_in c) t) (format_of (heads_in c) t).fill f → IsStoredAs (world_of c inputs) r (seen m) (format_of (heads_in c) t) t
  stored_as s = record {
    frozen = s.storage;
    is = s.is;
    shape = sym s.shape_is;
    parts = by_given (made_at (setting_of c inputs).given t) refl can ∙ ap parts_in s.is;
    valid = subst (λ (n : List ℕ). IsStored 1 (format_of (heads_in c) t).levels n s.storage.parts s.storage.val) (sym s.shape_is) s.valid;
  }

pub tensors_are_stored : TensorsAreStored
tensors_are_stored c room inputs pins r m t f fits given_fit live can =
    stored_as c room inputs pins r m t f fits given_fit live can (all_seen c room inputs fits given_fit pins r m live t f can)
