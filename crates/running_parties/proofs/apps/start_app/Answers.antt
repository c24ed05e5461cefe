use Rattle.running_parties.proofs.PeersLemmas.{app_started_in}
use Rattle.running_parties.proofs.apps.start_app.Goals as goal

pub returns-clause-world : goal.returns-clause-world
returns-clause-world c =
    app_started_in c.parties_join.ensures.apps_start c.args.app.0 c.args.units c.args.cluster.now c.args.boot c.in_ok-core.core c.args.apps.now c.start-2.new.self c.start-2.result c.in_ok-core.ensures.stands c.start-2.ensures.world
