use Rattle.std.proofs.Common.{◌≡◌, take}
use Rattle.failover.specs.KeptReports.{kept_entries}
use Rattle.failover.proofs.adopting.kept_entries.Given as goal

abbrev pub invariant-loop-index : goal.invariant-loop-index
invariant-loop-index l = l.kept ≡ kept_entries l.known.jobs (take l.index l.report)
