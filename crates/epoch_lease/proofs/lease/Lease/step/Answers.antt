use Rattle.std.proofs.Common.{refl}
use Rattle.epoch_lease.proofs.StepsLeave.{quiet}
use Rattle.epoch_lease.proofs.lease.Lease.step.Goals as goal

pub returns-in-Renew-clause-told : goal.returns-in-Renew-clause-told
returns-in-Renew-clause-told g c = quiet c.args.self.now c.args.self.now _ refl c.renew.result (g.D.Disk.told c.args.disk.now)

pub returns-in-Release-clause-told : goal.returns-in-Release-clause-told
returns-in-Release-clause-told g c = quiet c.args.self.now c.release.new.self _ c.release.ensures.hard c.release.result (g.D.Disk.told c.args.disk.now)

pub returns-in-Expire-clause-told : goal.returns-in-Expire-clause-told
returns-in-Expire-clause-told g c = quiet c.args.self.now c.expire.new.self _ c.expire.ensures.hard c.expire.result (g.D.Disk.told c.args.disk.now)
