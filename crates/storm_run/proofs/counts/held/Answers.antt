use Rattle.storm_run.proofs.CountsLemmas.{held_there, held_few}
use Rattle.storm_run.proofs.counts.held.Goals as goal

pub returns-in-Some : goal.returns-in-Some
returns-in-Some c = λ w good stands. held_there c.parties_run.ensures.apps w c.args.running.now.apps c.args.app.0 c.count_held.result c.in-Some.master.now stands.apps c.in-Some.ensures.core c.count_held.ensures

pub count_held-requires : goal.count_held-requires
count_held-requires c = held_few c.parties_run.ensures.apps c.args.running.now c.args.app.0 c.in-Some.master.now c.requires c.in-Some.ensures.core
