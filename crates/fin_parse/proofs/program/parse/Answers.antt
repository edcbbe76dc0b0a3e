use Rattle.fin_parse.proofs.OneProgram.{one_program}
use Rattle.fin_parse.proofs.program.parse.Goals as goal

pub returns-clause-only : goal.returns-clause-only
returns-clause-only c =
    λ other stands. one_program c.args.text.now c.args.tokens.now c.args.last c.in_ok-program_of.field-0 other (c.in_ok-trees.trees, c.in_ok-trees.ensures.verdict, c.in_ok-program_of.ensures.program) stands
