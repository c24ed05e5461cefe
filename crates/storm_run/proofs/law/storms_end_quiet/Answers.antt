use Rattle.storm_run.proofs.StormEndsLemmas.{storms_end_quiet}
use Rattle.storm_run.proofs.law.storms_end_quiet.Goals as goal

pub returns : goal.returns
returns c = λ seed steps text is. storms_end_quiet c.calm_rounds_bring_quiet.ensures.quiet c.calm_rounds_bring_quiet.ensures.keeps seed steps text is
