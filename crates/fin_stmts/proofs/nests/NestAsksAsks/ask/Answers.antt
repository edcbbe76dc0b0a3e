use Rattle.std.proofs.Common.{◌≡◌, ◌∙◌, sym, true, false}
use Rattle.fin_style_point.specs.Parts.{all_looplets}
use Rattle.fin_stmts.proofs.Asked.{nothing_owed, bumpy_owed}
use Rattle.fin_stmts.proofs.Varying.{all_flat, flat_all}
use Rattle.fin_stmts.proofs.nests.NestAsksAsks.ask.Goals as goal

pub returns-then-branch : goal.returns-then-branch
returns-then-branch c =
    nothing_owed c.args.self.now.site c.args.self.now.drives.now c.args.nest.now c.requires (sym c.in_ok-is_nothing_here.ensures ∙ c.if-branch.true)

pub ask_flat-requires-clause-flat : goal.ask_flat-requires-clause-flat
ask_flat-requires-clause-flat c = all_flat (all_looplets c.args.nest.now) (sym c.is_flat.ensures ∙ c.if-is_flat.true)

pub returns : goal.returns
returns c =
    bumpy_owed c.args.self.now.site c.args.self.now.drives.now c.args.nest.now c.requires
    (λ flat. let no : true ≡ false = sym (flat_all (all_looplets c.args.nest.now) flat) ∙ sym c.is_flat.ensures ∙ c.if-is_flat.false in absurd (cc))
