-- The looplet that was made is the one that is defined for a comparison, which means it.
use Rattle.std.proofs.Common.{◌≡◌, sym, subst}
use Rattle.std.proofs.lemmas.Result.{IfOk-weaker}
use Rattle.fin_looplet.specs.declared.looplet.Looplet.{Looplet}
use Rattle.fin_unfurl.specs.Masks.{mask_of, Compares, BreaksAtBound, IsSoundMask, NeverStops, OwnsNone, DependsOnBound}
use Rattle.fin_unfurl.proofs.Comparisons.{mask_compares, mask_breaks, mask_sound, mask_stops}
use Rattle.fin_unfurl.proofs.Moving.{mask_owns, mask_free}
use Rattle.fin_unfurl.proofs.masks.mask.Goals as goal

pub returns-clause-holds : goal.returns-clause-holds
returns-clause-holds c =
    IfOk-weaker c.three_runs.result (λ (l : Looplet). l ≡ mask_of c.args.op c.args.bound) (Compares c.args.op c.args.bound)
    (λ l e. subst (Compares c.args.op c.args.bound) (sym e) (mask_compares c.args.op c.args.bound c.requires)) c.three_runs.ensures

pub returns-clause-breaks : goal.returns-clause-breaks
returns-clause-breaks c =
    IfOk-weaker c.three_runs.result (λ (l : Looplet). l ≡ mask_of c.args.op c.args.bound) (BreaksAtBound c.args.bound)
    (λ l e. subst (BreaksAtBound c.args.bound) (sym e) (mask_breaks c.args.op c.args.bound c.requires)) c.three_runs.ensures

pub returns-clause-sound : goal.returns-clause-sound
returns-clause-sound c =
    IfOk-weaker c.three_runs.result (λ (l : Looplet). l ≡ mask_of c.args.op c.args.bound) (IsSoundMask)
    (λ l e. subst (IsSoundMask) (sym e) (mask_sound c.args.op c.args.bound c.requires)) c.three_runs.ensures

pub returns-clause-stops : goal.returns-clause-stops
returns-clause-stops c =
    IfOk-weaker c.three_runs.result (λ (l : Looplet). l ≡ mask_of c.args.op c.args.bound) (NeverStops)
    (λ l e. subst (NeverStops) (sym e) (mask_stops c.args.op c.args.bound c.requires)) c.three_runs.ensures

pub returns-clause-owns : goal.returns-clause-owns
returns-clause-owns c =
    IfOk-weaker c.three_runs.result (λ (l : Looplet). l ≡ mask_of c.args.op c.args.bound) (OwnsNone)
    (λ l e. subst (OwnsNone) (sym e) (mask_owns c.args.op c.args.bound)) c.three_runs.ensures

pub returns-clause-depends : goal.returns-clause-depends
returns-clause-depends c =
    IfOk-weaker c.three_runs.result (λ (l : Looplet). l ≡ mask_of c.args.op c.args.bound) (DependsOnBound c.args.bound)
    (λ l e. subst (DependsOnBound c.args.bound) (sym e) (mask_free c.args.op c.args.bound)) c.three_runs.ensures

pub returns-clause-made : goal.returns-clause-made
returns-clause-made c =
    IfOk-weaker c.three_runs.result (λ (l : Looplet). l ≡ mask_of c.args.op c.args.bound) (λ (l : Looplet). l ≡ mask_of c.args.op c.args.bound) (λ l e. e) c.three_runs.ensures
