use Rattle.std.proofs.Common.{sym, ◌∙◌}
use Rattle.schedule_replay.proofs.promises.quiet_parties_agree.Goals as goal

pub returns-clause-agree : goal.returns-clause-agree
returns-clause-agree c = λ yes_quiet M runs. c.cores_are_safe.ensures.agreement _ M runs (λ w is stands. sym (c.quiet.ensures w is stands) ∙ yes_quiet)
