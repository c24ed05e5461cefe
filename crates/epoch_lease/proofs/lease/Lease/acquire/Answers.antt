use Rattle.std.proofs.Common.{◌+◌, ◌^◌, ◌<◌, Some, Ok, Err, refl, sym, ap, subst, ◌∙◌}
use Rattle.fuxi_io.specs.Disks.{WhereTold}
use Rattle.epoch_lease.specs.declared.event.LeaseEvent.TheVariants.{Acquire}
use Rattle.epoch_lease.specs.declared.event.LeaseOut.TheVariants.{Granted}
use Rattle.epoch_lease.specs.declared.event.LeaseFault.TheVariants.{DiskFault, OutOfMemory}
use Rattle.epoch_lease.specs.Files.{KeptLease, LeavesStep, lease_of}
use Rattle.epoch_lease.specs.Leases.{lease_step}
use Rattle.epoch_lease.proofs.StepsLeave.{quiet, quiet_fault, wrote, failed}
use Rattle.epoch_lease.proofs.lease.Lease.acquire.Goals as goal

pub returns-in-Some-clause-told : goal.returns-in-Some-clause-told
returns-in-Some-clause-told g c = quiet c.args.self.now c.args.self.now _ refl _ (g.D.Disk.told c.args.disk.now)

pub returns-in_default-checked_add-clause-told : goal.returns-in_default-checked_add-clause-told
returns-in_default-checked_add-clause-told g c = quiet c.args.self.now c.args.self.now _ refl _ (g.D.Disk.told c.args.disk.now)

pub returns-in-Ok-clause-told : goal.returns-in-Ok-clause-told
returns-in-Ok-clause-told g c =
    let after : KeptLease = record { hard = c.raise.new.self; holder = Some (c.args.holder, c.in-Some-checked_add.epoch) } in
    let e = c.in-Some-checked_add.ensures in
    subst (λ (k : KeptLease). WhereTold (LeavesStep k after (lease_step (lease_of k) (Acquire c.args.holder)).state (Ok (Granted c.in-Some-checked_add.epoch))) (g.D.Disk.told c.args.disk.now) (g.D.Disk.told c.raise.new.disk)) c.self.view_is
    (wrote (record { hard = c.self.inside.hard; holder = c.self.inside.holder }) c.args.holder c.in-Some-checked_add.epoch c.in_default.is (e.1 ∙ ap (λ n. n + 1) c.fence.ensures) (subst (λ n. n < 2 ^ 64) (sym e.1) e.0)
    after (Granted c.in-Some-checked_add.epoch) (g.D.Disk.told c.args.disk.now) (g.D.Disk.told c.raise.new.disk) c.in-Ok.ensures.told)

pub returns-then-records-ge-MOST_RECORDS-clause-told : goal.returns-then-records-ge-MOST_RECORDS-clause-told
returns-then-records-ge-MOST_RECORDS-clause-told g c = quiet c.args.self.now c.args.self.now _ refl _ (g.D.Disk.told c.args.disk.now)

pub returns-in-DiskFault-clause-told : goal.returns-in-DiskFault-clause-told
returns-in-DiskFault-clause-told g c =
    let after : KeptLease = record { hard = c.raise.new.self; holder = c.self.inside.holder } in
    let e = c.in-Some-checked_add.ensures in
    subst (λ (k : KeptLease). WhereTold (LeavesStep k after (lease_step (lease_of k) (Acquire c.args.holder)).state (Err DiskFault)) (g.D.Disk.told c.args.disk.now) (g.D.Disk.told c.raise.new.disk)) c.self.view_is
    (failed (record { hard = c.self.inside.hard; holder = c.self.inside.holder }) c.args.holder c.in-Some-checked_add.epoch c.in_default.is (e.1 ∙ ap (λ n. n + 1) c.fence.ensures) (subst (λ n. n < 2 ^ 64) (sym e.1) e.0)
    after c.raise.new.self (g.D.Disk.told c.args.disk.now) (g.D.Disk.told c.raise.new.disk) (rw c.in-DiskFault.is at c.in-Err.ensures.told))

pub returns-in_default-fault-clause-told : goal.returns-in_default-fault-clause-told
returns-in_default-fault-clause-told g c =
    let after : KeptLease = record { hard = c.raise.new.self; holder = c.self.inside.holder } in
    let same = c.in-Err.ensures.unchanged c.in_default-fault.not-DiskFault in
    subst (λ t. WhereTold (LeavesStep c.args.self.now after (lease_step (lease_of c.args.self.now) (Acquire c.args.holder)).state (Err OutOfMemory)) (g.D.Disk.told c.args.disk.now) t) (ap g.D.Disk.told (sym same.1))
    (quiet_fault c.args.self.now after _ (same.0 ∙ ap (λ (k : KeptLease). k.hard) c.self.view_is) (g.D.Disk.told c.args.disk.now))
