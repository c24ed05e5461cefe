use Rattle.std.proofs.Common.{◌≡◌, Err, refl, sym, ap}
use Rattle.epoch_lease.specs.declared.event.LeaseFault.TheVariants.{DiskFault as NoDisk}
use Rattle.epoch_lease.specs.Files.{lease_of}
use Rattle.input_lines.proofs.RunEndsLemmas.{event_ends}
use Rattle.epoch_lease.proofs.LeaseEndsLemmas.{fault_ends}
use Rattle.epoch_lease.proofs.LeaseProgressLemmas.{answered, answered_in_part, bad_line, skips, is_bad, fails}
use Rattle.epoch_lease.proofs.run.take_line.Goals as goal

pub returns-then-is_skipped-clause-leaves : goal.returns-then-is_skipped-clause-leaves
returns-then-is_skipped-clause-leaves g c = skips c.leases_at_rest_endure.ensures c.args.line.now c.args.lease.now (g.D.Disk.told c.args.disk.now)

pub returns-in-Err-clause-takes : goal.returns-in-Err-clause-takes
returns-in-Err-clause-takes g c = rw c.event_status.ensures (bad_line c.args.line.now c.args.number (lease_of c.args.lease.now) c.in-Err.fault (g.O.Sink.took c.args.out.now) (sym c.if-is_skipped.ensures) c.in-Err.ensures.fault)

pub returns-in-Err-clause-leaves : goal.returns-in-Err-clause-leaves
returns-in-Err-clause-leaves g c =
    rw c.event_status.ensures (is_bad c.leases_at_rest_endure.ensures c.args.line.now c.in-Err.fault c.args.number c.args.lease.now (g.D.Disk.told c.args.disk.now))

pub returns-in-Err-step-clause-leaves : goal.returns-in-Err-step-clause-leaves
returns-in-Err-step-clause-leaves g c =
    rw c.from.ensures (fails c.args.line.now c.in-Ok.event c.in-Err-step.fault c.args.lease.now c.step.new.self (g.D.Disk.told c.args.disk.now) (g.D.Disk.told c.step.new.disk) c.in-Ok.ensures.ok c.in-Err-step.ensures.told)

pub returns-in-Ok-write_answer-clause-takes : goal.returns-in-Ok-write_answer-clause-takes
returns-in-Ok-write_answer-clause-takes g c =
    answered c.args.line.now c.args.number (lease_of c.args.lease.now) (lease_of c.step.new.self) c.in-Ok.event c.in-Ok-step.answer (g.O.Sink.took c.args.out.now) (g.O.Sink.took c.write_answer.new.out) (sym c.if-is_skipped.ensures) c.in-Ok.ensures.ok c.in-Ok-step.ensures.steps c.in-Ok-write_answer.ensures.ok

pub returns-in-Err-write_answer-clause-takes : goal.returns-in-Err-write_answer-clause-takes
returns-in-Err-write_answer-clause-takes g c =
    answered_in_part c.args.line.now c.args.number (lease_of c.args.lease.now) (lease_of c.step.new.self) c.in-Ok.event c.in-Ok-step.answer (g.O.Sink.took c.args.out.now) (g.O.Sink.took c.write_answer.new.out) (sym c.if-is_skipped.ensures) c.in-Ok.ensures.ok c.in-Ok-step.ensures.steps c.in-Err-write_answer.ensures.err

pub returns-in-Err-clause-status : goal.returns-in-Err-clause-status
returns-in-Err-clause-status g c = rw c.event_status.ensures (event_ends _ _ c.in-Err.fault c.args.number (λ why. tt) tt (refl, refl, refl))

pub returns-in-Err-step-clause-status : goal.returns-in-Err-step-clause-status
returns-in-Err-step-clause-status g c =
    rw c.from.ensures (fault_ends (λ offset. ⊥) _ c.in-Err-step.fault (λ offset is. absurd (c.in-Err-step.ensures.own offset (ap (λ f. Err f) is)))
    (λ is. c.in-Err-step.ensures.cause (ap (λ f. Err f) is)) (λ other. c.in-Err-step.ensures.served (λ is. other (let fault : c.in-Err-step.fault ≡ NoDisk = cc in fault))) refl refl)
