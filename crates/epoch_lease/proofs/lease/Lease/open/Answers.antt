use Rattle.std.proofs.Common.{None}
use Rattle.epoch_lease.proofs.FilesLemmas.{opens}
use Rattle.epoch_lease.proofs.lease.Lease.open.Goals as goal

pub returns-in-Ok-clause-opened : goal.returns-in-Ok-clause-opened
returns-in-Ok-clause-opened g c = opens (record { hard = c.in-Ok.hard; holder = None }) (g.D.Disk.told c.args.disk.now) (g.D.Disk.told c.open.new.disk) c.in-Ok.ensures.opened
