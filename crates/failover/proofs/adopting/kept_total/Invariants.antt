use Rattle.std.proofs.Common.{◌≡◌, take}
use Rattle.fuxi_terms.specs.Rows.{row_total}
use Rattle.failover.specs.KeptReports.{kept_entries}
use Rattle.failover.proofs.adopting.kept_total.Given as goal

abbrev pub invariant-loop-index : goal.invariant-loop-index
invariant-loop-index l = l.total.q ≡ row_total (kept_entries l.known.jobs (take l.index l.report))
