-- The entry's codes and the code of the nest perform the loop.
use Rattle.std.proofs.Common.{◌≡◌, ℕ, ◌≤◌, Bool, true, false, List, [], ◌∷◌, ◌++◌, Option, refl, sym, ◌∙◌, subst}
use Rattle.fin_ir.specs.declared.code.Code.{Code}
use Rattle.fin_ir.specs.declared.layout.Layout.{Layout}
use Rattle.fin_ir.specs.Machine.{Machine, seen}
use Rattle.fin_ir.specs.Meaning.{meaning, meaning_all}
use Rattle.fin_ir.proofs.Values.{value_local}
use Rattle.fin_stage.specs.Staged.{Run, worked, regular}
use Rattle.fin_nest.specs.Related.{Start}
use Rattle.fin_nest.specs.Nests.{Nest, Fits}
use Rattle.fin_nest.specs.Senses.{runs}
use Rattle.fin_nest.specs.Performs.{Hold, Ready}
use Rattle.fin_nest.proofs.Senses.{runs_over}
use Rattle.fin_nest.proofs.Both.{nothing_is_passed_over}
use Rattle.fin_nest.proofs.Statements.{all_append, hold_on}
use Rattle.fin_nest.proofs.Still.{all_still}
use Rattle.fin_simp.specs.Work.{World, entry_of}
use Rattle.fin_simp.specs.Costs.{MasksCompare}
use Rattle.fin_simp.specs.Moving.{worked_all}
use Rattle.fin_drive.specs.Entries.{IsMade}
use Rattle.fin_drive.proofs.Made.{made_nests_run}
use Rattle.fin_style_point.specs.declared.nest.Nest as point
use Rattle.fin_descend.specs.declared.lowered.Lowered.{Lowered}
use Rattle.fin_perform.specs.Layouts.{layout_with, start_with}
use Rattle.fin_perform.specs.Performing.{Does}
use Rattle.fin_perform.specs.Working.{run_of}
use Rattle.fin_loops.specs.Loops.{Loop}
use Rattle.fin_loops.specs.Entering.{stmt_of, Spot, StandsAt, world_at, nest_at, entry_at, Enters, IsLowered, LoopsMean}
use Rattle.fin_loops.proofs.Placing.{made_fits, entering, all_turns, loop_is, can_enter, turns_are, turns_advance, loop_advances, meant, leaves}

module _ (compare : MasksCompare) (l : Loop) (range : Option (ℕ × ℕ)) (line last next need : ℕ) (cs : List Code) (top : point.Nest) (code : Lowered)
    (low : IsLowered l (stmt_of l range false line last) next need cs top code) (q : Spot) (le : need ≤ q.room)
    (at : StandsAt l (stmt_of l range false line last) next q) where
  abbrev w : World
  w = world_at l q

  abbrev layout : Layout
  layout = layout_with l.checked q.room

  abbrev start : Start
  start = start_with l.checked q.room q.inputs

  abbrev nest : Nest Run
  nest = nest_at l top q

  abbrev does_loop : Run → Run
  does_loop = run_of w (stmt_of l range false line last) l.here l.context q.vars

  abbrev paid_in : Run → Run
  paid_in r = worked (entry_of (entering l range false line last next need top code low.nest q le at r).loop) r

  abbrev all_in : Run → Run → Run
  all_in r = all_turns l range false line last next need top code low.nest q le at r

  -- ---- in a run

  module _ (r : Run) (m : Machine) (ready : Ready layout m q.place) (h : (runs start).stands r m) (fine : regular (does_loop r) ≡ true) where
    abbrev there : Machine
    there = meaning_all layout cs m

    enters : Enters l q top r m there
    enters = low.enters q le at r m ready h fine

    abbrev paid : Run
    paid = paid_in r

    -- a machine that was cut does nothing more
    when_cut : there.cut ≡ true → (runs start).stands (does_loop r) (meaning layout code.code there)
    when_cut cut =
        subst (λ (z : Run). (runs start).stands z (meaning layout code.code there)) (sym (turns_are l range false line last next need top code low.nest q le at r fine))
        (subst (λ (z : Machine). (runs start).stands (all_in r paid) z) (sym (all_still layout (code.code ∷ []) there cut))
        (runs_over start (all_in r) (turns_advance l range false line last next need top code low.nest q le at r) paid there cut enters.pays))

    module _ (live : there.cut ≡ false) where
      made : IsMade (entry_at l q r there) nest
      made = enters.made live

      holds : Hold there q.place.facts
      holds = hold_on q.place q.place.facts m there enters.left live at.suits.stands.stay ready.facts

      fits : Fits layout (seen there) there nest
      fits = made_fits compare l top q layout (entry_at l q r there) there live (enters.left.long ∙ ready.locals)
          (λ y e. sym (value_local (seen there) there.locals y) ∙ at.suits.stands.numbers there holds y e) made

      when_live : (runs start).stands (does_loop r) (meaning layout code.code there)
      when_live =
          subst (λ (z : Run). (runs start).stands z (meaning layout code.code there))
          (made_nests_run compare w l.here l.context l.var range (worked_all w l.body l.here) line last q.vars r
          (can_enter l range false line last next need top code low.nest q le at r fine) (seen there) there.locals nest made
          ∙ sym (loop_is l range false line last next need top code low.nest q le at r))
          ((meant l range false line last next need top code low.nest q le at m ready).means.does (seen there) paid there fits
          ((nothing_is_passed_over start).0 (seen there) there.locals nest low.nest.jumpless) enters.pays).done

    either : (b : Bool) → there.cut ≡ b → (runs start).stands (does_loop r) (meaning layout code.code there)
    either true e = when_cut e
    either false e = when_live e

    nest_stands : (runs start).stands (does_loop r) (meaning_all layout (cs ++ code.code ∷ []) m)
    nest_stands = subst (λ (z : Machine). (runs start).stands (does_loop r) z) (sym (all_append layout cs (code.code ∷ []) m)) (either there.cut refl)

  pub loop_does : Does l.checked q.room q.inputs q.place (cs ++ code.code ∷ []) does_loop
  loop_does = record {
    performs = record {
      does = λ r m ready h fine. nest_stands r m ready h fine fine;
      leaves = λ r m ready h. leaves l range false line last next need top code low.nest q le at (cs ++ code.code ∷ []) low.spares m;
    };
    advances = loop_advances l range false line last next need top code low.nest q le at;
  }

pub loops_mean : MasksCompare → LoopsMean
loops_mean compare l range line last next need cs top code low room inputs sc vars p le fits given u named =
    loop_does compare l range line last next need cs top code low (record { room = room; inputs = inputs; scope = sc; vars = vars; place = p }) le
    (record { shaped = fits; given = given; suits = u; named = named })
