use Rattle.std.proofs.Common.{arith}
use Rattle.grant_table.proofs.Bounds.{jobs_few}
use Rattle.grant_table.proofs.table.GrantTable.jobs.Goals as goal

pub overflow_cast-result : goal.overflow_cast-result
overflow_cast-result c = let f = jobs_few c.self.inside.jobs.items c.self.invariant.in_order in let n = c.len.ensures in let v = c.self.inside.jobs in omega (arith, f, n)
