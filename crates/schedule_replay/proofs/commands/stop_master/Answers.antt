use Rattle.std.proofs.Common.{subst}
use Rattle.running_parties.specs.RunningMasters.{StopsIn}
use Rattle.schedule_replay.proofs.MasterCommandsLemmas.{may_step, stop_done, stop_refused}
use Rattle.schedule_replay.proofs.commands.stop_master.Goals as goal

pub returns-then-stop_master-clause-steps : goal.returns-then-stop_master-clause-steps
returns-then-stop_master-clause-steps c = may_step c.args.masters.now c.stop_master.new.masters c.if-stop_master.ensures.within

pub returns-else-stop_master-clause-steps : goal.returns-else-stop_master-clause-steps
returns-else-stop_master-clause-steps c = may_step c.args.masters.now c.stop_master.new.masters c.if-stop_master.ensures.within

pub returns-then-stop_master-clause-world : goal.returns-then-stop_master-clause-world
returns-then-stop_master-clause-world c checkpoint w s = stop_done w c.args.epoch c.args.masters.now c.stop_master.new.masters checkpoint s (subst (StopsIn w c.args.epoch c.stop_master.new.masters) c.if-stop_master.true (c.stop_master.ensures.world w s.stand))

pub returns-else-stop_master-clause-world : goal.returns-else-stop_master-clause-world
returns-else-stop_master-clause-world c checkpoint w s = stop_refused w c.args.epoch c.args.masters.now c.stop_master.new.masters checkpoint s (subst (StopsIn w c.args.epoch c.stop_master.new.masters) c.if-stop_master.false (c.stop_master.ensures.world w s.stand))
