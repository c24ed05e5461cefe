use Rattle.std.proofs.Common.{refl}
use Rattle.std.proofs.lemmas.Result.{IfOk-weaker}
use Rattle.fuxi_terms.specs.Cluster.{ClusterRecord}
use Rattle.spec_roles.specs.HardState.{Raise}
use Rattle.spec_world.specs.Events.{StartMaster}
use Rattle.schedule_replay.specs.MasterCommands.{governing}
use Rattle.schedule_replay.specs.HaltsInWorld.{Halts, HaltsWithin}
use Rattle.schedule_replay.proofs.HaltsInWorldLemmas.{halt_refused, start_writes}
use Rattle.schedule_replay.proofs.halts.halt_start.Goals as goal

pub returns-in-Ok-clause-world : goal.returns-in-Ok-clause-world
returns-in-Ok-clause-world c =
    let e = c.args.epoch in
    let stop = c.args.stop in
    let old = governing c.args.checkpoint.now c.args.masters.now in
    let new = governing c.halt_within.new.checkpoint c.halt_within.new.masters in
    IfOk-weaker c.halt_within.result (HaltsWithin e Raise stop old new) (λ line. (d : ClusterRecord) → Halts d (StartMaster e) stop old new line)
    (λ line halts d w cluster s. halts w (StartMaster e) s refl (start_writes w e (c.in-Ok.ensures.world w s))) c.halt_within.ensures.world

pub returns-in-Err-clause-world : goal.returns-in-Err-clause-world
returns-in-Err-clause-world c d w cluster s =
    let stop = c.args.stop in
    halt_refused w (StartMaster c.args.epoch) c.args.epoch stop.calls stop.all (governing c.args.checkpoint.now c.args.masters.now) c.in-Err.refusal s refl (c.in-Err.ensures.world w s)
