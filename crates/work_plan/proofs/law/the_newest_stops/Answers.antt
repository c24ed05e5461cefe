use Rattle.std.proofs.Common.{refl}
use Rattle.work_plan.specs.AgentWithApps.{all_apps, all_units}
use Rattle.work_plan.proofs.law.the_newest_stops.Goals as goal

pub returns : goal.returns
unfolding all_apps all_units
returns c = refl
