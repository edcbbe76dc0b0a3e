-- The looplet that was made is the unfurled one, which means the fibre.
use Rattle.std.proofs.Common.{◌≡◌, sym, subst}
use Rattle.std.proofs.lemmas.Result.{IfOk-weaker}
use Rattle.fin_tensor.specs.declared.format.Level.TheVariants as level
use Rattle.fin_tensor.proofs.Walk.{got}
use Rattle.fin_looplet.specs.declared.looplet.Looplet.{Looplet}
use Rattle.fin_unfurl.specs.Fibres.{asked, ShowsLeaves, ShowsVarying, ShowsBreaks, IsSound, HasFewStops, OwnsTwo, DependsOnPlace}
use Rattle.fin_unfurl.specs.Walks.{unfurl_of}
use Rattle.fin_unfurl.proofs.Means.{made_by, made_leaves, made_varying, made_breaks, made_sound, made_stops, made_owns, made_depends}
use Rattle.fin_unfurl.proofs.walks.unfurl.Goals as goal

pub returns-clause-made : goal.returns-clause-made
returns-clause-made c =
    let a = asked c.args.format.now c.args.tensor c.args.level c.args.extent c.args.pos c.args.there c.args.cursor in
    let kind = c.get.result.now in
    made_by a c.fibre_in-fibre.result kind c.unfurled.result c.fibre_in-fibre.ensures (got c.args.format.now.levels c.args.level level.Dense kind c.get.ensures) c.unfurled.ensures

pub returns-clause-leaves : goal.returns-clause-leaves
returns-clause-leaves c =
    let a = asked c.args.format.now c.args.tensor c.args.level c.args.extent c.args.pos c.args.there c.args.cursor in
    IfOk-weaker c.unfurled.result (λ (l : Looplet). l ≡ unfurl_of a) (ShowsLeaves a) (λ l e. subst (ShowsLeaves a) (sym e) (made_leaves a c.requires.level c.requires.pos)) (returns-clause-made c)

pub returns-clause-varying : goal.returns-clause-varying
returns-clause-varying c =
    let a = asked c.args.format.now c.args.tensor c.args.level c.args.extent c.args.pos c.args.there c.args.cursor in
    IfOk-weaker c.unfurled.result (λ (l : Looplet). l ≡ unfurl_of a) (ShowsVarying a) (λ l e. subst (ShowsVarying a) (sym e) (made_varying a c.requires.level c.requires.pos)) (returns-clause-made c)

pub returns-clause-breaks : goal.returns-clause-breaks
returns-clause-breaks c =
    let a = asked c.args.format.now c.args.tensor c.args.level c.args.extent c.args.pos c.args.there c.args.cursor in
    IfOk-weaker c.unfurled.result (λ (l : Looplet). l ≡ unfurl_of a) (ShowsBreaks a) (λ l e. subst (ShowsBreaks a) (sym e) (made_breaks a c.requires.level c.requires.pos)) (returns-clause-made c)

pub returns-clause-sound : goal.returns-clause-sound
returns-clause-sound c =
    let a = asked c.args.format.now c.args.tensor c.args.level c.args.extent c.args.pos c.args.there c.args.cursor in
    IfOk-weaker c.unfurled.result (λ (l : Looplet). l ≡ unfurl_of a) (IsSound a) (λ l e. subst (IsSound a) (sym e) (made_sound a c.requires.level c.requires.pos)) (returns-clause-made c)

pub returns-clause-stops : goal.returns-clause-stops
returns-clause-stops c =
    let a = asked c.args.format.now c.args.tensor c.args.level c.args.extent c.args.pos c.args.there c.args.cursor in
    IfOk-weaker c.unfurled.result (λ (l : Looplet). l ≡ unfurl_of a) (HasFewStops a) (λ l e. subst (HasFewStops a) (sym e) (made_stops a c.requires.level c.requires.pos)) (returns-clause-made c)

pub returns-clause-owns : goal.returns-clause-owns
returns-clause-owns c =
    let a = asked c.args.format.now c.args.tensor c.args.level c.args.extent c.args.pos c.args.there c.args.cursor in
    IfOk-weaker c.unfurled.result (λ (l : Looplet). l ≡ unfurl_of a) (OwnsTwo a) (λ l e. subst (OwnsTwo a) (sym e) (made_owns a)) (returns-clause-made c)

pub returns-clause-depends : goal.returns-clause-depends
returns-clause-depends c =
    let a = asked c.args.format.now c.args.tensor c.args.level c.args.extent c.args.pos c.args.there c.args.cursor in
    IfOk-weaker c.unfurled.result (λ (l : Looplet). l ≡ unfurl_of a) (DependsOnPlace a) (λ l e. subst (DependsOnPlace a) (sym e) (made_depends a)) (returns-clause-made c)
