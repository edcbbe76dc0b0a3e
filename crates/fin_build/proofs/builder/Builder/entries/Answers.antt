use Rattle.std.proofs.Common.{subst}
use Rattle.std.proofs.lemmas.Result.{IfOk-weaker}
use Rattle.fin_tensor.specs.Building.{Building}
use Rattle.fin_build.specs.Entries.{AreEntriesOf}
use Rattle.fin_build.proofs.Telling.{told_by}
use Rattle.fin_build.proofs.builder.Builder.entries.Goals as goal

pub returns-clause-entries : goal.returns-clause-entries
returns-clause-entries c = IfOk-weaker c.entries.result _ _ (λ es e. subst (λ (b : Building). AreEntriesOf b.function es.items) c.self.view_is (told_by c.self.inside.function es.items c.self.invariant.tensor e)) c.entries.ensures
