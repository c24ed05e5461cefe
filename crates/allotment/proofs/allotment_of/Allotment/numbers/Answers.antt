use Rattle.std.proofs.Common.{ap, arith}
use Rattle.fuxi_terms.specs.Jobs.{unit_count}
use Rattle.grant_table.specs.GrantTables.{as_known}
use Rattle.allotment.specs.Allotted.{AllotmentRecord}
use Rattle.allotment.proofs.Cleared.{job_below, no_job}
use Rattle.allotment.proofs.allotment_of.Allotment.numbers.Goals as goal

pub returns-in-Some : goal.returns-in-Some
returns-in-Some c a some =
    let js = c.self.inside.table.jobs in
    let last = c.in-Some.last in
    let few = c.jobs.ensures in
    let is = c.in-Some.ensures in
    let number = c.app.ensures.number in
    let same = ap (λ (x : AllotmentRecord). unit_count (as_known x.table.jobs) a) c.self.view_is in
    let low = job_below js c.self.invariant.sound.in_order last c.job.result.now c.job.ensures (omega (arith, few, is)) a (omega (arith, some, same)) in
    omega (arith, low, number)

pub returns-in-None : goal.returns-in-None
returns-in-None c a some =
    let none = c.in-None.ensures in
    let jobs = c.jobs.ensures in
    let same = ap (λ (x : AllotmentRecord). unit_count (as_known x.table.jobs) a) c.self.view_is in
    no_job c.self.inside.table.jobs (omega (arith, none, jobs)) a (omega (arith, some, same))
