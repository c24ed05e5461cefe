use Rattle.std.proofs.Common.{refl, sym}
use Rattle.schedule_replay.specs.ScheduleRuns.{read_from, Ended}
use Rattle.epoch_lease.specs.LeaseEnds.{lease_causes}
use Rattle.work_plan.specs.WorkLineRuns.{work_causes}
use Rattle.fuxi_command.specs.CommandWords.{Lease, Node, Replay, Storm, Work}
use Rattle.fuxi_command.specs.Outcomes.{seen}
use Rattle.fuxi_command.proofs.OutcomesLemmas.{alone_keeps, diskless, ends_for, lease_tells, node_diskless, node_untouched, of_command, of_none, storm_ends, work_diskless, work_ends, work_lines}
use Rattle.fuxi_command.proofs.ReplaysLemmas.{begun}
use Rattle.fuxi_command.proofs.Untouched.{untouched}
use Rattle.fuxi_command.proofs.top.run_command.Goals as goal

pub returns-in-None : goal.returns-in-None
returns-in-None g c = of_none _ _ _ _ _ _ _ (sym (rw c.in-None.is at c.command_of.ensures.is)) refl refl refl refl (λ other. refl, λ other. refl, λ other. refl) (alone_keeps (g.D.Disk.told c.args.disk.now))

pub returns-in-Err : goal.returns-in-Err
returns-in-Err g c = of_command _ Replay _ _ _ _ _ _ _ (sym (rw c.in-Some-Replay.field-0-is at c.in-Some-Replay.ensures.is)) (record {
  usage = λ other. cc;
  read = λ other. absurd cc;
  write = λ other. absurd cc;
  faults = (λ other. refl, λ other. refl, λ other. refl);
  keeps = alone_keeps (g.D.Disk.told c.args.disk.now);
  limit = λ kept other. absurd cc;
  disk = λ other. absurd cc;
  no_door = λ no. refl;
  no_file = λ no. refl;
  diskless = λ no. tt;
}) (untouched (g.S.Source.left c.args.input.now) (g.O.Sink.took c.args.out.now))

pub returns-in-Ok : goal.returns-in-Ok
returns-in-Ok g c = let r = c.run_schedule.ensures in of_command _ Replay _ _ _ _ _ _ _ (sym (rw c.in-Some-Replay.field-0-is at c.in-Some-Replay.ensures.is)) (record {
  usage = r.usage;
  read = r.read;
  write = r.write;
  faults = (r.reads_served, r.writes_served, λ other. refl);
  keeps = alone_keeps (g.D.Disk.told c.args.disk.now);
  limit = (rw c.in-Ok.ensures at r.limit) refl;
  disk = λ failed. absurd (r.disk failed);
  no_door = λ no. refl;
  no_file = λ no. refl;
  diskless = λ no. diskless c.run_schedule.result r.disk r.stale r.damaged ((rw c.in-Ok.ensures at r.records) refl);
}) (begun (g.S.Source.left c.args.input.now) (λ bytes. Ended (read_from 0) bytes c.run_schedule.result (g.S.Source.left c.run_schedule.new.source) (g.O.Sink.took c.args.out.now) (g.O.Sink.took c.run_schedule.new.out))
    ((rw c.in-Ok.ensures at r.ended) refl))

pub returns-in-Some-Storm : goal.returns-in-Some-Storm
returns-in-Some-Storm g c =
    let r = c.run_storm.ensures in
    of_command _ (Storm c.in-Some-Storm.seed c.in-Some-Storm.steps) _ _ _ _ _ _ _ (sym (rw c.in-Some-Storm.field-0-is at c.in-Some-Storm.ensures.is))
    (storm_ends c.in-Some-Storm.seed c.in-Some-Storm.steps _ _ _ _ _ r.ended r.write (λ other. refl, r.writes_served, λ other. refl) (alone_keeps (g.D.Disk.told c.args.disk.now)) refl refl) (refl, r.ended)

pub returns-in-Some-Node : goal.returns-in-Some-Node
returns-in-Some-Node g c =
    let r = c.run_input.ensures in
    let kind = c.in-Some-Node.kind in
    let addr = c.in-Some-Node.addr.now in
    of_command _ (Node kind addr) _ _ _ _ _ _ _ (sym (rw c.in-Some-Node.field-0-is at c.in-Some-Node.ensures.is)) (record {
      usage = r.usage;
      read = r.read;
      write = r.write;
      faults = (r.reads_served, r.writes_served, r.disk_served);
      keeps = r.keeps;
      limit = r.limit;
      disk = r.disk;
      no_door = λ no. absurd cc;
      no_file = λ no. node_untouched kind addr _ r.unused no;
      diskless = λ no. node_diskless kind addr c.run_input.result (g.D.Disk.told c.args.disk.now) r.told no;
    }) (record { node = r.ended; places = r.places; complete = r.complete; stays = r.stays; unopened = r.unopened; told = r.told })

pub returns-in-Some-Lease : goal.returns-in-Some-Lease
returns-in-Some-Lease g c = let r = c.run_lease.ensures in of_command _ Lease _ _ _ _ _ _ _ (sym (rw c.in-Some-Lease.field-0-is at c.in-Some-Lease.ensures.is))
    (ends_for (lease_causes _) Lease c.run_lease.result _ _ _ _ r.status (λ no. no) (λ kept limit. limit.1) r.keeps (λ no. refl) (λ no. absurd cc) (λ no. absurd cc))
    (record { ended = r.ended; told = lease_tells _ _ c.run_lease.result (g.D.Disk.told c.args.disk.now) r.status (λ offset damaged. damaged.0); complete = r.complete })

pub returns-in-Some-Work : goal.returns-in-Some-Work
returns-in-Some-Work g c =
    let r = c.run_work.ensures in
    let old = seen (g.S.Source.left c.args.input.now) (g.O.Sink.took c.args.out.now) (g.D.Disk.told c.args.disk.now) (g.N.Door.told c.args.door.now) (g.S.Source.faults c.args.input.now) (g.O.Sink.faults c.args.out.now) (g.D.Disk.faults c.args.disk.now) (g.N.Door.faults c.args.door.now) in
    let new = seen (g.S.Source.left c.run_work.new.source) (g.O.Sink.took c.run_work.new.out) (g.D.Disk.told c.args.disk.now) (g.N.Door.told c.args.door.now) (g.S.Source.faults c.run_work.new.source) (g.O.Sink.faults c.run_work.new.out) (g.D.Disk.faults c.args.disk.now) (g.N.Door.faults c.args.door.now) in
    of_command _ Work _ _ _ _ _ _ _ (sym (rw c.in-Some-Work.field-0-is at c.in-Some-Work.ensures.is))
    (ends_for work_causes Work c.run_work.result _ _ old new (work_ends c.run_work.result old new r.status refl) (λ no. no) work_lines (alone_keeps (g.D.Disk.told c.args.disk.now)) (λ no. refl) (λ no. refl) (λ no. work_diskless c.run_work.result old new r.status))
    (record { ended = r.ended; complete = r.complete })
