use Rattle.spec_progress.proofs.QuietLemmas.{calm_brings_quiet, calm_keeps}
use Rattle.spec_progress.proofs.law.calm_rounds_bring_quiet.Goals as goal

pub returns-clause-quiet : goal.returns-clause-quiet
returns-clause-quiet c = λ cluster events input. calm_brings_quiet c.worlds_in_order.ensures.kept cluster events input (c.worlds_in_order.ensures.start cluster)

pub returns-clause-keeps : goal.returns-clause-keeps
returns-clause-keeps c = λ cluster events input. calm_keeps c.worlds_in_order.ensures.kept cluster events input (c.worlds_in_order.ensures.start cluster)
