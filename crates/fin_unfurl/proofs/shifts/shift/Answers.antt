-- The looplet that was made is the one that is defined for a shift, which means it.
use Rattle.std.proofs.Common.{◌≡◌, sym, subst}
use Rattle.std.proofs.lemmas.Result.{IfOk-weaker}
use Rattle.fin_looplet.specs.declared.looplet.Looplet.{Looplet}
use Rattle.fin_unfurl.specs.Shifts.{shift_of, ShiftsLeaves, ShiftsBreaks, ShiftsStops, ShiftsSound, OwnsTheSame, DependsOnDistance}
use Rattle.fin_unfurl.proofs.Edges.{shift_leaves, shift_breaks, shift_stops, shift_sound}
use Rattle.fin_unfurl.proofs.Moving.{shift_owns, shift_free}
use Rattle.fin_unfurl.proofs.shifts.shift.Goals as goal

pub returns-clause-leaves : goal.returns-clause-leaves
returns-clause-leaves c =
    IfOk-weaker c.shifted.result (λ (l : Looplet). l ≡ shift_of c.args.child c.args.by c.args.edge) (ShiftsLeaves c.args.child c.args.by c.args.edge)
    (λ l e. subst (ShiftsLeaves c.args.child c.args.by c.args.edge) (sym e) (shift_leaves c.args.child c.args.by c.args.edge c.requires)) c.shifted.ensures

pub returns-clause-breaks : goal.returns-clause-breaks
returns-clause-breaks c =
    IfOk-weaker c.shifted.result (λ (l : Looplet). l ≡ shift_of c.args.child c.args.by c.args.edge) (ShiftsBreaks c.args.child c.args.by c.args.edge)
    (λ l e. subst (ShiftsBreaks c.args.child c.args.by c.args.edge) (sym e) (shift_breaks c.args.child c.args.by c.args.edge c.requires)) c.shifted.ensures

pub returns-clause-stops : goal.returns-clause-stops
returns-clause-stops c =
    IfOk-weaker c.shifted.result (λ (l : Looplet). l ≡ shift_of c.args.child c.args.by c.args.edge) (ShiftsStops c.args.child c.args.by c.args.edge)
    (λ l e. subst (ShiftsStops c.args.child c.args.by c.args.edge) (sym e) (shift_stops c.args.child c.args.by c.args.edge c.requires)) c.shifted.ensures

pub returns-clause-sound : goal.returns-clause-sound
returns-clause-sound c =
    IfOk-weaker c.shifted.result (λ (l : Looplet). l ≡ shift_of c.args.child c.args.by c.args.edge) (ShiftsSound c.args.child c.args.by c.args.edge)
    (λ l e. subst (ShiftsSound c.args.child c.args.by c.args.edge) (sym e) (shift_sound c.args.child c.args.by c.args.edge c.requires)) c.shifted.ensures

pub returns-clause-owns : goal.returns-clause-owns
returns-clause-owns c =
    IfOk-weaker c.shifted.result (λ (l : Looplet). l ≡ shift_of c.args.child c.args.by c.args.edge) (OwnsTheSame c.args.child)
    (λ l e. subst (OwnsTheSame c.args.child) (sym e) (shift_owns c.args.child c.args.by c.args.edge)) c.shifted.ensures

pub returns-clause-depends : goal.returns-clause-depends
returns-clause-depends c =
    IfOk-weaker c.shifted.result (λ (l : Looplet). l ≡ shift_of c.args.child c.args.by c.args.edge) (DependsOnDistance c.args.child c.args.by)
    (λ l e. subst (DependsOnDistance c.args.child c.args.by) (sym e) (shift_free c.args.child c.args.by c.args.edge)) c.shifted.ensures

pub returns-clause-made : goal.returns-clause-made
returns-clause-made c =
    IfOk-weaker c.shifted.result (λ (l : Looplet). l ≡ shift_of c.args.child c.args.by c.args.edge) (λ (l : Looplet). l ≡ shift_of c.args.child c.args.by c.args.edge) (λ l e. e) c.shifted.ensures
