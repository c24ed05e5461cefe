use Rattle.std.proofs.Common.{◌≡◌, inr, ap, Err, refl}
use Rattle.epoch_lease.specs.declared.event.LeaseFault.TheVariants.{DiskFault as NoDisk}
use Rattle.hard_state.proofs.HardFilesLemmas.{idle_keeps, whole_keeps}
use Rattle.input_lines.proofs.RunEndsLemmas.{carries_behind, carries_same, ends_as}
use Rattle.epoch_lease.specs.LeaseEnds.{lease_causes}
use Rattle.epoch_lease.proofs.LeaseEndsLemmas.{at_once, completes_known, damaged_at, fault_ends, lease_within, ran, read_from_file, shut, stays_shut}
use Rattle.epoch_lease.proofs.LeaseProgressLemmas.{opened}
use Rattle.epoch_lease.proofs.run.run_lease.Goals as goal

pub returns-in-Err-clause-ended : goal.returns-in-Err-clause-ended
returns-in-Err-clause-ended g c = at_once (g.S.Source.left c.args.source.now) (g.O.Sink.took c.args.out.now) (g.D.Disk.told c.args.disk.now)

pub returns-in-Err-open-clause-ended : goal.returns-in-Err-open-clause-ended
returns-in-Err-open-clause-ended g c =
    rw c.from.ensures (shut _ (g.S.Source.left c.args.source.now) (g.O.Sink.took c.args.out.now) (g.D.Disk.told c.args.disk.now) (g.D.Disk.told c.open.new.disk)
    (stays_shut c.in-Err-open.fault (g.D.Disk.told c.args.disk.now) (g.D.Disk.told c.open.new.disk) (λ offset is. c.in-Err-open.ensures.damaged offset (ap (λ f. Err f) is)) (λ offset is. c.in-Err-open.ensures.untouched offset (ap (λ f. Err f) is))) c.in-Err-open.ensures.told)

pub returns-clause-ended : goal.returns-clause-ended
returns-clause-ended g c =
    ran c.in-Ok-open.lease c.run_lines.result (g.S.Source.left c.args.source.now) (g.S.Source.left c.run_lines.new.source) (g.O.Sink.took c.args.out.now) (g.O.Sink.took c.run_lines.new.out) (g.D.Disk.told c.args.disk.now) (g.D.Disk.told c.open.new.disk) (g.D.Disk.told c.run_lines.new.disk)
    c.in-Ok-open.ensures.free c.in-Ok-open.ensures.opened (c.run_lines.ensures.ended (g.D.Disk.told c.args.disk.now) (opened c.in-Ok-open.lease (g.D.Disk.told c.args.disk.now) (g.D.Disk.told c.open.new.disk) c.in-Ok-open.ensures.opened))

pub returns-in-Err-open-clause-status : goal.returns-in-Err-open-clause-status
returns-in-Err-open-clause-status g c =
    rw c.from.ensures (fault_ends _ _ c.in-Err-open.fault (λ offset is. (damaged_at offset (g.D.Disk.told c.args.disk.now) (g.D.Disk.told c.open.new.disk) (c.in-Err-open.ensures.damaged offset (ap (λ f. Err f) is)), refl, refl))
    (λ is. c.in-Err-open.ensures.cause (ap (λ f. Err f) is)) (λ other. c.in-Err-open.ensures.served (λ is. other (let fault : c.in-Err-open.fault ≡ NoDisk = cc in fault))) refl refl)

pub returns-clause-status : goal.returns-clause-status
returns-clause-status g c =
    ends_as (lease_causes (λ offset. ⊥)) _ _ _ (lease_within _) (carries_same _) (carries_same _)
    (carries_behind (g.D.Disk.faults c.args.disk.now) (g.D.Disk.faults c.open.new.disk) (g.D.Disk.faults c.run_lines.new.disk) (c.in-Ok-open.ensures.served (λ is. let no : ⊥ = cc in no))) c.run_lines.result c.run_lines.ensures.status

pub returns-in-Err-clause-keeps : goal.returns-in-Err-clause-keeps
returns-in-Err-clause-keeps g c = idle_keeps (g.D.Disk.told c.args.disk.now)

pub returns-clause-keeps : goal.returns-clause-keeps
returns-clause-keeps g c =
    let k = c.in-Ok-open.lease in
    whole_keeps k.hard.value (g.D.Disk.told c.args.disk.now) (g.D.Disk.told c.run_lines.new.disk) (read_from_file k (g.D.Disk.told c.args.disk.now) (g.D.Disk.told c.open.new.disk) c.in-Ok-open.ensures.opened)

pub returns-in-Err-clause-complete : goal.returns-in-Err-clause-complete
returns-in-Err-clause-complete g c bytes t value known told reads good unread unwritten unlost = inr refl

pub returns-in-Err-open-clause-complete : goal.returns-in-Err-open-clause-complete
returns-in-Err-open-clause-complete g c =
    completes_known _ _ c.from.result (g.S.Source.left c.args.source.now) (g.S.Source.left c.args.source.now) (g.O.Sink.took c.args.out.now) (g.O.Sink.took c.args.out.now) (g.D.Disk.told c.args.disk.now) (g.D.Disk.told c.open.new.disk)
    (returns-in-Err-open-clause-status g c) (returns-in-Err-open-clause-ended g c)

pub returns-clause-complete : goal.returns-clause-complete
returns-clause-complete g c =
    completes_known _ _ c.run_lines.result (g.S.Source.left c.args.source.now) (g.S.Source.left c.run_lines.new.source) (g.O.Sink.took c.args.out.now) (g.O.Sink.took c.run_lines.new.out) (g.D.Disk.told c.args.disk.now) (g.D.Disk.told c.run_lines.new.disk)
    (returns-clause-status g c) (returns-clause-ended g c)
