use Rattle.storm_run.proofs.Calm.{first_number, calm}
use Rattle.storm_run.proofs.law.calm_storm.Goals as goal

pub returns-clause-first : goal.returns-clause-first
returns-clause-first c = first_number

pub returns-clause-text : goal.returns-clause-text
returns-clause-text c = calm
