-- A plan of an accepted program does what dense evaluation does: its code follows the run by pieces, which follows the run
-- by stages.
use Rattle.std.proofs.Common.{◌≡◌, ℕ, ◌⊎◌, inl, inr, true, [], List, Some, sym, ap, ◌∙◌, subst, arith}
use Rattle.std.specs.Prelude.{slice_get}
use Rattle.fin_tensor.specs.declared.format.Format.{Format}
use Rattle.fin_tensor.specs.declared.storage.Storage.{Storage}
use Rattle.fin_tensor.specs.TensorFunction.{TensorFunction}
use Rattle.fin_tensor.specs.Canon.{undecorated}
use Rattle.fin_ast.specs.declared.header.Header.{Header}
use Rattle.fin_ast.specs.declared.checked.Checked.{Checked}
use Rattle.fin_ast.specs.Accepted.{IsAccepted, FitProgram}
use Rattle.fin_ast.specs.Kinds.{is_output}
use Rattle.fin_ast.specs.Dense.{setting_of, function_of}
use Rattle.fin_ir.specs.declared.code.Code.{Code}
use Rattle.fin_ir.specs.declared.layout.Layout.{Layout}
use Rattle.fin_ir.specs.declared.layout.Plan.{Plan}
use Rattle.fin_ir.specs.Machine.{Machine, held}
use Rattle.fin_ir.specs.Meaning.{meaning, meaning_all}
use Rattle.fin_ir.specs.Regular.{InputsFit}
use Rattle.fin_ir.proofs.Codes.{meaning_seq}
use Rattle.fin_stage.specs.Stages.{Stage, Frozen, stage_at}
use Rattle.fin_stage.specs.Staged.{Run, staged}
use Rattle.fin_stage.specs.Trailing.{StageTrails, RunTrails}
use Rattle.fin_stage.specs.Sound.{AcceptedIsSound, IsSound}
use Rattle.fin_stage.specs.Wordy.{IsWordy}
use Rattle.fin_simp.specs.Work.{pieced}
use Rattle.fin_work.specs.Sound.{PiecedIsSound, PiecesAreSound}
use Rattle.fin_nest.specs.Related.{Start, Stand, Related}
use Rattle.fin_nest.specs.Senses.{Behind}
use Rattle.fin_perform.specs.Begun.{BegunMachinesStand}
use Rattle.fin_perform.specs.Layouts.{layout_with, start_with}
use Rattle.fin_perform.specs.Programs.{ProgramsStand}
use Rattle.fin_lower.specs.Plans.{IsPlan}
use Rattle.fin_lower.specs.Lowered.{begun, ended, IsWhole, IsCut, IsLowered, AcceptedIsLowered}

-- what trails a frozen stage is that stage
frozen_stays : (x y : Stage) (format : Format) (f : TensorFunction) → StageTrails x y → x ≡ Frozen format f → y ≡ Frozen format f
frozen_stays x y format f trails e = subst (λ (z : Stage). StageTrails z y) e trails

regular_at : (s : Start) (r : Run) (m : Machine) → Related s [] r m → m.regular ≡ true
regular_at s r m (inl l) = l.regular
regular_at s r m (inr o) = o.regular

module _ (starts : BegunMachinesStand) (programs : ProgramsStand) (stages : AcceptedIsSound) (pieces : PiecedIsSound) where
  module _ (c : Checked) (inputs : List Storage) (p : Plan) (is : IsPlan c p) (accepted : IsAccepted c) (fit : FitProgram c inputs) (wordy : IsWordy (setting_of c inputs)) where
    abbrev start : Start
    start = start_with c p.layout.locals inputs

    by_stages : IsSound c inputs
    by_stages = stages c inputs accepted fit

    by_pieces : PiecesAreSound c inputs
    by_pieces = pieces c inputs accepted fit wordy

    fits : InputsFit p.layout inputs
    fits = subst (λ (l : Layout). InputsFit l inputs) (sym is.layout) (starts c p.layout.locals inputs c.fits fit).fit

    -- the plan's code is its codes, one after another
    in_turn : ended c inputs p ≡ meaning_all (layout_with c p.layout.locals) is.codes (begun c inputs p)
    in_turn =
        ap (λ (x : Code). meaning p.layout x (begun c inputs p)) is.code
        ∙ meaning_seq p.layout is.codes (begun c inputs p)
        ∙ ap (λ (l : Layout). meaning_all l is.codes (begun c inputs p)) is.layout

    behind : Behind start (pieced c inputs) (ended c inputs p)
    behind =
        subst (Behind start (pieced c inputs)) (sym in_turn)
        (programs c p.layout.locals is.codes p.layout.locals inputs (is.means accepted) accepted fit is.room (omega arith) by_pieces.regular)

    module _ (run : Run) (trails : RunTrails (pieced c inputs) run) where
      -- an output is frozen with its function in all three runs
      frozen : (tensor : ℕ) (h : Header) → slice_get c.program.headers tensor ≡ Some h → is_output h.kind ≡ true
          → stage_at run.stages tensor ≡ Frozen (undecorated h.format) (function_of c inputs tensor)
      frozen tensor h e o =
          frozen_stays (stage_at (pieced c inputs).stages tensor) (stage_at run.stages tensor) (undecorated h.format) (function_of c inputs tensor) (trails.stages tensor)
          (frozen_stays (stage_at (staged c inputs).stages tensor) (stage_at (pieced c inputs).stages tensor) (undecorated h.format) (function_of c inputs tensor) (by_pieces.follows.stages tensor)
          (by_stages.outputs tensor h e o))

      ends_at : Related start [] run (ended c inputs p) → IsWhole c inputs (ended c inputs p) ⊎ IsCut c inputs (ended c inputs p)
      ends_at (inl l) = inl record {
        whole = l.cut;
        charges = l.charges ∙ trails.work;
        outputs = λ tensor h e o. (subst (λ x. Stand x (held (ended c inputs p).tensors tensor)) (frozen tensor h e o) (l.each tensor)).1;
      }
      ends_at (inr o) = inr record { cut = o.cut; over = o.over; most = omega (arith, o.most, trails.work) }

    lowered : IsLowered c inputs p
    lowered = record {
      fit = fits;
      regular = record { named = is.named accepted; runs = regular_at start behind.run (ended c inputs p) behind.related };
      ends = ends_at behind.run behind.trails behind.related;
    }

  pub accepted_is_lowered : AcceptedIsLowered
  accepted_is_lowered c inputs p is accepted fit wordy = lowered c inputs p is accepted fit wordy
