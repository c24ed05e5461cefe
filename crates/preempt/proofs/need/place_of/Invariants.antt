use Rattle.std.proofs.Common.{◌≡◌, drop}
use Rattle.fuxi_terms.specs.Jobs.{job_of}
use Rattle.grant_table.specs.GrantTables.{as_known}
use Rattle.preempt.proofs.need.place_of.Given as goal

abbrev pub invariant-loop-index : goal.invariant-loop-index
invariant-loop-index l = job_of (as_known l.table.jobs) l.app.0 ≡ job_of (as_known (drop l.index l.table.jobs)) l.app.0
