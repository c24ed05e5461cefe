use Rattle.std.proofs.Common.{sym, subst}
use Rattle.std.specs.Prelude.{IfOk}
use Rattle.std.proofs.lemmas.Result.{IfOk-weaker}
use Rattle.fuxi_terms.specs.Cluster.{ClusterRecord}
use Rattle.spec_world.specs.Events.{StartMaster}
use Rattle.schedule_replay.specs.LineEvents.{event_as}
use Rattle.schedule_replay.specs.MasterCommands.{governing}
use Rattle.schedule_replay.specs.HaltsInWorld.{Halts}
use Rattle.schedule_replay.proofs.HaltsInWorldLemmas.{within_of}
use Rattle.schedule_replay.proofs.halts.halt.Goals as goal

pub halt_start-requires-clause-within : goal.halt_start-requires-clause-within
halt_start-requires-clause-within c = within_of c.args.stop c.args.line.now c.requires.line

pub halt_command-requires-clause-within : goal.halt_command-requires-clause-within
halt_command-requires-clause-within c = within_of c.args.stop c.args.line.now c.requires.line

pub returns-in-Master-clause-world : goal.returns-in-Master-clause-world
returns-in-Master-clause-world c =
    let stop = c.args.stop in
    let old = governing c.args.checkpoint.now c.args.masters.now in
    let new = governing c.halt_start.new.checkpoint c.halt_start.new.masters in
    let start = StartMaster c.in-Master.epoch in
    subst (λ l. IfOk c.halt_start.result (Halts c.args.cluster.now (event_as l) stop old new)) (sym c.in-Master.is)
    (IfOk-weaker c.halt_start.result (λ line. (d : ClusterRecord) → Halts d start stop old new line) (Halts c.args.cluster.now start stop old new) (λ line halts. halts c.args.cluster.now) c.halt_start.ensures.world)
