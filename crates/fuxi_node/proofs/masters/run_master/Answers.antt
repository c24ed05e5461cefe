use Rattle.std.proofs.Common.{◌≡◌, Ok, Err, refl, ◌∙◌, ap}
use Rattle.hard_state.proofs.HardFilesLemmas.{whole_keeps}
use Rattle.hard_state.specs.declared.fault.HardFault.TheVariants.{DiskFault as NoDisk}
use Rattle.spec_roles.specs.MasterRoles.{master_started}
use Rattle.node_parties.specs.MasterParties.{DiskHas, RestsAt}
use Rattle.node_parties.specs.NodeCommands.{LeavesEither}
use Rattle.node_core.specs.Roles.{OfMaster}
use Rattle.fuxi_node.specs.NodeEnds.{FitsNow, FitsOneNow}
use Rattle.fuxi_node.specs.MasterEnds.{start_status}
use Rattle.fuxi_node.specs.NodeStarts.{master_start}
use Rattle.fuxi_node.proofs.MasterEndsLemmas.{either_at_end, file_at_end, leaves_file, not_started, raised_from, runs_on_file, start_placed, started}
use Rattle.fuxi_node.proofs.masters.run_master.Goals as goal

pub returns-in-Err-clause-ended : goal.returns-in-Err-clause-ended
returns-in-Err-clause-ended g c ready =
    not_started c.args.epoch (master_start c.args.cluster.now c.args.epoch c.args.addr.now c.args.lines.now.number) (g.D.Disk.told c.args.disk.now) (g.D.Disk.told c.open.new.disk)
    c.in-Err.fault c.start_status.result c.args.lines.now.pending (g.S.Source.left c.args.source.now) (g.O.Sink.took c.args.out.now) (g.N.Door.faults c.args.door.now) (g.N.Door.told c.args.door.now) c.start_status.ensures c.in-Err.ensures.faults c.is_little_ahead.ensures c.in-Err.ensures.told

pub returns-in-Ok-run_node-clause-ended : goal.returns-in-Ok-run_node-clause-ended
returns-in-Ok-run_node-clause-ended g c ready =
    let node = c.in-Ok.node in
    let size = g.D.Disk.size c.open.new.disk in
    let old = g.D.Disk.told c.args.disk.now in
    let mid = g.D.Disk.told c.open.new.disk in
    let new = g.D.Disk.told c.run_node.new.disk in
    started c.args.epoch (master_start c.args.cluster.now c.args.epoch c.args.addr.now c.args.lines.now.number) old new
    (FitsNow RestsAt DiskHas node size mid new) (FitsOneNow RestsAt DiskHas LeavesEither node size mid new) node.hard.value (Ok c.in-Ok-run_node.status) c.in-Ok-run_node.status _ (g.S.Source.left c.run_node.new.source) (g.O.Sink.took c.args.out.now) (g.O.Sink.took c.run_node.new.out) (g.N.Door.faults c.args.door.now) (g.N.Door.faults c.run_node.new.door) (g.N.Door.told c.args.door.now) (g.N.Door.told c.run_node.new.door)
    (raised_from c.args.epoch node.hard old mid c.in-Ok.ensures.raised c.in-Ok.ensures.opened) refl (file_at_end c.args.epoch node size old mid new c.in-Ok.ensures.rests c.in-Ok.ensures.opened) (either_at_end c.args.epoch node size old mid new c.in-Ok.ensures.rests c.in-Ok.ensures.opened)
    (c.in-Ok-run_node.ensures.ended ready (OfMaster node.hard.value (master_started c.args.cluster.now node.hard.value c.args.epoch)) c.in-Ok.ensures.stands)

pub returns-in-Err-run_node-clause-ended : goal.returns-in-Err-run_node-clause-ended
returns-in-Err-run_node-clause-ended g c ready =
    let node = c.in-Ok.node in
    let size = g.D.Disk.size c.open.new.disk in
    let old = g.D.Disk.told c.args.disk.now in
    let mid = g.D.Disk.told c.open.new.disk in
    let new = g.D.Disk.told c.run_node.new.disk in
    started c.args.epoch (master_start c.args.cluster.now c.args.epoch c.args.addr.now c.args.lines.now.number) old new
    (FitsNow RestsAt DiskHas node size mid new) (FitsOneNow RestsAt DiskHas LeavesEither node size mid new) node.hard.value (Err (record {})) _ _ (g.S.Source.left c.run_node.new.source) (g.O.Sink.took c.args.out.now) (g.O.Sink.took c.run_node.new.out) (g.N.Door.faults c.args.door.now) (g.N.Door.faults c.run_node.new.door) (g.N.Door.told c.args.door.now) (g.N.Door.told c.run_node.new.door)
    (raised_from c.args.epoch node.hard old mid c.in-Ok.ensures.raised c.in-Ok.ensures.opened) refl (file_at_end c.args.epoch node size old mid new c.in-Ok.ensures.rests c.in-Ok.ensures.opened) (either_at_end c.args.epoch node size old mid new c.in-Ok.ensures.rests c.in-Ok.ensures.opened)
    (c.in-Err-run_node.ensures.ended ready (OfMaster node.hard.value (master_started c.args.cluster.now node.hard.value c.args.epoch)) c.in-Ok.ensures.stands)

pub returns-in-Err-clause-stays : goal.returns-in-Err-clause-stays
returns-in-Err-clause-stays g c =
    leaves_file c.args.epoch c.in-Err.fault c.start_status.result (g.D.Disk.told c.args.disk.now) (g.D.Disk.told c.open.new.disk) c.start_status.ensures (λ offset is. c.in-Err.ensures.untouched offset (ap (λ f. Err f) is)) c.in-Err.ensures.told

pub returns-in-Ok-run_node-clause-stays : goal.returns-in-Ok-run_node-clause-stays
returns-in-Ok-run_node-clause-stays g c = runs_on_file c.args.epoch c.in-Ok-run_node.status (g.D.Disk.told c.args.disk.now) (g.D.Disk.told c.run_node.new.disk) c.in-Ok-run_node.ensures.own

pub returns-in-Err-clause-places : goal.returns-in-Err-clause-places
returns-in-Err-clause-places g c ready = start_placed c.in-Err.fault c.start_status.result c.args.lines.now.number _ (g.S.Source.left c.args.source.now) c.start_status.ensures

pub returns-in-Err-clause-disk_served : goal.returns-in-Err-clause-disk_served
returns-in-Err-clause-disk_served g c other =
    c.in-Err.ensures.served (λ is. let fault : c.in-Err.fault ≡ NoDisk = cc in other (c.start_status.ensures ∙ ap start_status fault))

pub returns-in-Ok-run_node-clause-disk_served : goal.returns-in-Ok-run_node-clause-disk_served
returns-in-Ok-run_node-clause-disk_served g c other = c.in-Ok-run_node.ensures.disk_served ∙ c.in-Ok.ensures.served (λ is. let no : ⊥ = cc in no)

pub returns-in-Ok-run_node-clause-keeps : goal.returns-in-Ok-run_node-clause-keeps
returns-in-Ok-run_node-clause-keeps g c =
    let from = raised_from c.args.epoch c.in-Ok.node.hard (g.D.Disk.told c.args.disk.now) (g.D.Disk.told c.open.new.disk) c.in-Ok.ensures.raised c.in-Ok.ensures.opened in
    whole_keeps from.before (g.D.Disk.told c.args.disk.now) (g.D.Disk.told c.run_node.new.disk) from.reads

pub returns-in-Err-run_node-clause-keeps : goal.returns-in-Err-run_node-clause-keeps
returns-in-Err-run_node-clause-keeps g c =
    let from = raised_from c.args.epoch c.in-Ok.node.hard (g.D.Disk.told c.args.disk.now) (g.D.Disk.told c.open.new.disk) c.in-Ok.ensures.raised c.in-Ok.ensures.opened in
    whole_keeps from.before (g.D.Disk.told c.args.disk.now) (g.D.Disk.told c.run_node.new.disk) from.reads
