use Rattle.running_parties.proofs.MastersLemmas.{master_started_in}
use Rattle.running_parties.proofs.masters.start_master.Goals as goal

pub returns-clause-world : goal.returns-clause-world
returns-clause-world c =
    master_started_in c.parties_join.ensures.masters_start c.args.cluster.now c.args.hard.now.value c.args.epoch c.in_ok-master.master c.args.masters.now c.start-2.new.self c.start-2.result c.in_ok-master.ensures.stands c.start-2.ensures.world
